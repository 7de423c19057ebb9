-- When a waiter may be moved to a mutex: whoever sleeps in its list isn't forgotten.
use Rattle.std.proofs.Common.{◌≡◌, ℕ, suc, ◌%◌, ◌≤◌, ◌==◌, ◌||◌, not, Bool, true, false, List, [], ◌∷◌, Option, Some}
use Rattle.std.proofs.Common.{None, is_some, slice_get, refl, sym, ap, ◌∙◌, subst, arith, eqb-true}
use Rattle.std.specs.List.{list_any}
use Rattle.std.specs.Option.{option_and_then}
use Rattle.std.proofs.lemmas.Bool.{both_ways}
use Rattle.parking_lot_core_model.specs.declared.place.Section.{Section}
use Rattle.parking_lot_rules.specs.Classes.{bit}
use Rattle.parking_lot_rules.specs.Mutex.{Called, total, weight}
use Rattle.parking_lot_rules.proofs.Mutexes.{total-at}
use Rattle.parking_lot_protocol.specs.MutexRules as of_mutex
use Rattle.parking_lot_protocol.specs.MutexTable as mutex_table
use Rattle.parking_lot_protocol.specs.declared.act.SectionAct.TheVariants as section
use Rattle.parking_lot_protocol.specs.declared.mutex_phase.MutexPhase.{MutexPhase}
use Rattle.parking_lot_protocol.proofs.RwWords.{both}
use Rattle.parking_lot_machine_calls.specs.declared.calls.LockCall.{LockCall}
use Rattle.parking_lot_machine_calls.specs.declared.open_call.Call.{Call}
use Rattle.parking_lot_machine_calls.specs.declared.seat.Core.{Core}
use Rattle.parking_lot_machine.specs.Machines.{may_begin}
use Rattle.parking_lot_machine.specs.Requeues.{IsAttended, core_retries, may_rouse_in, phase_retries, retries_at}
use Rattle.parking_lot_machine.specs.RowFits.{FitsTogether}
use Rattle.parking_lot_machine.specs.Rows.{State, call_at, mutex_at, taken_by, word_at, first_key, open_at}
use Rattle.parking_lot_machine_calls.specs.CallRoles.{first_of_all, mutex_spot}
use Rattle.parking_lot_machine.proofs.Meeting.{plays}
use Rattle.parking_lot_protocol.specs.declared.act.Act.{Act}

-- one that is about to try again is called
called_weighs : (at : of_mutex.QueuePosition) (v : ℕ) (p : MutexPhase) → phase_retries p ≡ true
    → 1 ≤ weight Called (of_mutex.role at v p)
unfolding weight
called_weighs at v (MutexPhase.Loads a) e = omega (arith, ap bit e)
called_weighs at v (MutexPhase.Locks a waiters) e = omega (arith, ap bit e)
called_weighs at v (MutexPhase.Spins a) e = omega (arith, ap bit e)
called_weighs at v (MutexPhase.Parks a) e = omega (arith, ap bit e)
called_weighs at v (MutexPhase.Enters woken) e = omega (arith, ap bit e)
called_weighs at v (MutexPhase.Checks woken) e = omega (arith, ap bit e)
called_weighs at v (MutexPhase.Retreats woken) e = omega (arith, ap bit e)
called_weighs at v p e = absurd (both_ways false refl e)

-- and wakes nobody
retries_awake : (p : MutexPhase) → phase_retries p ≡ true → mutex_table.act_of p ≡ Act.Section section.Wake → ⊥
retries_awake (MutexPhase.Loads a) e w = cc
retries_awake (MutexPhase.Locks a waiters) e w = cc
retries_awake (MutexPhase.Spins a) e w = cc
retries_awake (MutexPhase.Parks a) e w = cc
retries_awake (MutexPhase.Enters woken) e w = cc
retries_awake (MutexPhase.Checks woken) e w = cc
retries_awake (MutexPhase.Retreats woken) e w = cc
retries_awake p e w = both_ways false refl e

some_retries : (lock : ℕ) (o : Option Call) → retries_at lock o ≡ true → (c : Call) × (o ≡ Some c) × (c.lock ≡ lock)
    × (core_retries c.core ≡ true)
some_retries lock None e = absurd (both_ways false refl e)
some_retries lock (Some c) e = let b = both (c.lock == lock) (core_retries c.core) e in
    (c, refl, eqb-true c.lock lock b.0, b.1)

-- and there is one
abbrev Retries : ℕ → List (Option Call) → Type 0
Retries lock calls = (u : ℕ) × (c : Call) × (slice_get calls u ≡ Some (Some c)) × (c.lock ≡ lock)
    × (core_retries c.core ≡ true)

first_or : (lock : ℕ) (o : Option Call) (calls : List (Option Call)) (b : Bool) → retries_at lock o ≡ b
    → (b || list_any (retries_at lock) calls) ≡ true → (list_any (retries_at lock) calls ≡ true → Retries lock calls)
    → Retries lock (o ∷ calls)
first_or lock o calls true is e rest = let x = some_retries lock o is in (0, x.0, ap Some x.1, x.2, x.3)
first_or lock o calls false is e rest = let x = rest e in (suc x.0, x.1, x.2, x.3, x.4)

one_retries : (lock : ℕ) (calls : List (Option Call)) → list_any (retries_at lock) calls ≡ true → Retries lock calls
one_retries lock [] e = absurd (both_ways false refl e)
one_retries lock (o ∷ calls) e = first_or lock o calls (retries_at lock o) refl e (one_retries lock calls)

module _ (s : State) (h : FitsTogether s) (lock : ℕ) where
  retried : (t : ℕ) (c : Call) (x : Core) → c.core ≡ x → call_at s t ≡ Some c → c.lock ≡ lock → core_retries x ≡ true
      → 1 ≤ total Called (mutex_at s lock).roles
  retried t c (Core.Mutex k) is here at e =
      subst (λ i. 1 ≤ total Called (mutex_at s i).roles) at
      (omega (
        arith,
        total-at (mutex_at s c.lock).roles t _ (plays s h t c k is here (retries_awake k.phase e)).here
            Called,
        called_weighs (mutex_spot c.spot) (first_of_all (taken_by s.wakes t)) k.phase e,
      ))
  retried t c (Core.Rw k) is here at e = absurd (both_ways false refl e)
  retried t c (Core.Late p) is here at e = absurd (both_ways false refl e)
  retried t c (Core.Upgrade k) is here at e = absurd (both_ways false refl e)
  retried t c (Core.LateRw p) is here at e = absurd (both_ways false refl e)

  pub attended_by : (word_at s lock % 2 == 1 || list_any (retries_at lock) s.calls) ≡ true → IsAttended s lock
  attended_by e = go (word_at s lock % 2 == 1) refl
    where
      go : (b : Bool) → (word_at s lock % 2 == 1) ≡ b → IsAttended s lock
      go true is = omega (arith, eqb-true (word_at s lock % 2) 1 is)
      go false is =
          let x = one_retries lock s.calls (sym (ap (λ b. b || list_any (retries_at lock) s.calls) is) ∙ e) in
          omega (arith, retried x.0 x.1 x.1.core refl (ap (λ o. option_and_then (λ c. c) o) x.2) x.3 x.4)

none_entered : (o : Option Section) → not (is_some o) ≡ true → o ≡ None
none_entered None e = refl
none_entered (Some x) e = absurd (both_ways false refl e)

-- one that may be woken may begin to ask, where no section is open in the bucket of the list
pub rouses_by : (s : State) (v lock : ℕ) → may_rouse_in s v lock ≡ true → (may_begin s v lock LockCall.Lock ≡ true)
    × (open_at s (first_key lock) ≡ None)
rouses_by s v lock e = let b = both (may_begin s v lock LockCall.Lock) _ e in (
  b.0,
  none_entered (open_at s (first_key lock)) b.1,
)
