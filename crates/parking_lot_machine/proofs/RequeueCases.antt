-- A waiter that is moved to a mutex is a case of a lock without a word.
use Rattle.std.proofs.Common.{◌≡◌, ℕ, true, [], ◌∷◌, ◌++◌, map, option_map, Some, slice_get, sym, ap, ◌∙◌, subst}
use Rattle.std.proofs.lemmas.List.{map-set}
use Rattle.std.proofs.lemmas.Option.{slice_get-map}
use Rattle.parking_lot_rules.specs.Any.{AnyLock, Mx}
use Rattle.parking_lot_rules.specs.Roles.{Asleep}
use Rattle.parking_lot_rules.specs.Mutex.{Mutex, Queued, Seeks, away, doing}
use Rattle.parking_lot_rules.specs.MutexOwners.{Case, IsCase, Move, Nothing, owners, standing}
use Rattle.parking_lot_machine_calls.specs.Kinds.{AsMutex, manner_of, recursive_in}
use Rattle.parking_lot_machine.specs.Requeues.{IsCaseOf, MovesAreCases, filed, roused}
use Rattle.parking_lot_machine.specs.Rows.{State, any_lock, lock_as, lock_at, mutex_at}
use Rattle.parking_lot_machine.specs.SoundLaws.{IsCaseAt}
use Rattle.parking_lot_machine.proofs.MutexMoving.{set_same}

module _ (n : Mutex) (v : ℕ) (there : slice_get n.roles v ≡ Some away) where
  stands : slice_get (map standing n.roles) v ≡ Some (standing away)
  stands = slice_get-map standing n.roles v ∙ ap (option_map standing) there

  filed_case : (t : ℕ) → IsCase t (Move v) (owners n) (owners (filed n v))
  filed_case t = (
    stands,
    λ i. record { threads = map-set standing n.roles v (doing (Queued Asleep)) i; queue = n.queue ++ v ∷ [] },
  )

  roused_case : (t : ℕ) → IsCase t Nothing (owners n) (owners (roused n v))
  roused_case t = λ i.
      record {
        threads =
            (map-set standing n.roles v (doing (Seeks true)) ∙ set_same (map standing n.roles) v (standing away)
            stands) i;
        queue = n.queue;
      }

-- at that lock of the machine, while the others stay
lifted : (s u : State) (lock t : ℕ) (case : Case) → manner_of (slice_get s.kinds lock) ≡ Some AsMutex
    → u.kinds ≡ s.kinds → ((i : ℕ) → (i ≡ lock → ⊥) → lock_at u i ≡ lock_at s i)
    → IsCase t case (owners (mutex_at s lock)) (owners (mutex_at u lock)) → IsCaseOf t case s u lock
lifted s u lock t case kind kinds others is = (
  is,
  record {
    case = subst (λ (l : AnyLock). IsCaseAt (recursive_in s.kinds lock) t l (lock_at u lock))
        (sym (ap (λ q. lock_as q s lock) kind))
        (subst (λ (l : AnyLock). IsCaseAt (recursive_in s.kinds lock) t (Mx (mutex_at s lock)) l)
        (sym (ap (λ ks. any_lock (slice_get ks lock) u lock) kinds ∙ ap (λ q. lock_as q u lock) kind)) (case, is));
    elsewhere = others;
  },
)

pub laws : MovesAreCases
laws = record {
  takes = λ s u v lock t timed x. lifted s u lock t (Move v) x.kind (ap (λ y. y.kinds) x.became) x.elsewhere
      (subst (λ (n : Mutex). IsCase t (Move v) (owners (mutex_at s lock)) (owners n)) (sym x.here)
      (filed_case (mutex_at s lock) v x.away t));
  rouses = λ s u v lock t timed x. lifted s u lock t Nothing x.kind (ap (λ y. y.kinds) x.became) x.elsewhere
      (subst (λ (n : Mutex). IsCase t Nothing (owners (mutex_at s lock)) (owners n)) (sym x.here)
      (roused_case (mutex_at s lock) v x.away t));
}
