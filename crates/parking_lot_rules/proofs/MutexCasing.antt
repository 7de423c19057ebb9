-- Every step at a mutex is of its case.
use Rattle.std.proofs.Common.{◌≡◌, ◌≢◌, ℕ, ◌<◌, Bool, true, false, List, [], ◌∷◌, map, Option, Some, None, option_map}
use Rattle.std.proofs.Common.{slice_get, slice_set, refl, sym, ap, ◌∙◌, arith}
use Rattle.std.proofs.lemmas.List.{map-set}
use Rattle.std.proofs.lemmas.Bool.{false_from_ne_true}
use Rattle.std.proofs.lemmas.Option.{none-some, same_Some, slice_get-map}
use Rattle.parking_lot_rules.specs.Roles.{Open, Normal, Handed}
use Rattle.parking_lot_rules.specs.Mutex.{Phase, Idle, Seeks, Taken, Unlocks, Stored, Wakes, Role, Owning, weight}
use Rattle.parking_lot_rules.specs.Mutex.{total, Mutex, IsSound, Plain, Lock, ExpireTaken, ReenterTaken, Unlock, from}
use Rattle.parking_lot_rules.specs.Mutex.{to, May, settle, Step, Alone, Join, Quit, QuitLast, Requeue, Pull, Follow}
use Rattle.parking_lot_rules.specs.Mutex.{Take, Free, Hand, Wake, WakeOwner, Pass, doing, Allowed, after}
use Rattle.parking_lot_rules.specs.MutexOwners.{Apart, Chosen, Standing, Owners, owner_of, standing, owners, dismissed}
use Rattle.parking_lot_rules.specs.MutexOwners.{appointed, Nothing, NoOwner, IsCase, case_of, StepsAreCases}
use Rattle.parking_lot_rules.proofs.Indexed.{get-set_other}
use Rattle.parking_lot_rules.proofs.Casing.{set-same}
use Rattle.parking_lot_rules.proofs.Mutexes.{total-at}

same_owners : (a b : Owners) → a.threads ≡ b.threads → a.queue ≡ b.queue → a ≡ b
same_owners a b e f = λ i. record { threads = e i; queue = f i }

threads-set : (rs : List Role) (t : ℕ) (b : Role) (x : Standing) → standing b ≡ x
    → map standing (slice_set rs t b) ≡ slice_set (map standing rs) t x
threads-set rs t b x e = map-set standing rs t b ∙ ap (λ y. slice_set (map standing rs) t y) e

thread-at : (rs : List Role) (t : ℕ) (a : Role) (x : Standing) → slice_get rs t ≡ Some a → standing a ≡ x
    → slice_get (map standing rs) t ≡ Some x
thread-at rs t a x at e = slice_get-map standing rs t ∙ (ap (option_map standing) at ∙ ap (λ y. Some y) e)

threads-same : (rs : List Role) (t : ℕ) (a b : Role) → slice_get rs t ≡ Some a → standing b ≡ standing a
    → map standing (slice_set rs t b) ≡ map standing rs
threads-same rs t a b at e = threads-set rs t b (standing a) e ∙ set-same (map standing rs) t (standing a)
    (thread-at rs t a (standing a) at refl)

plain_stays : (k : Plain) → case_of (Alone k) ≡ Nothing → standing (to k) ≡ standing (from k)
plain_stays (Lock c) e = absurd cc
plain_stays Unlock e = absurd cc
plain_stays (ExpireTaken by Open) e = refl
plain_stays (ExpireTaken by Normal) e = refl
plain_stays (ExpireTaken by Handed) e = refl
plain_stays (ReenterTaken by Open) e = refl
plain_stays (ReenterTaken by Normal) e = refl
plain_stays (ReenterTaken by Handed) e = refl
plain_stays k e = refl

normal_standing : (o : Bool) (p : Phase) → ◌≡◌ {A = Standing} (standing (settle Normal (record { owns = o; does = p })))
    (dismissed (standing (record { owns = o; does = p })))
normal_standing o (Taken by Open s) = refl
normal_standing o (Taken by Normal s) = refl
normal_standing o (Taken by Handed s) = refl
normal_standing o p = refl

handed_standing : (o : Bool) (p : Phase) → ◌≡◌ {A = Standing} (standing (settle Handed (record { owns = o; does = p })))
    (appointed (standing (record { owns = o; does = p })))
handed_standing o (Taken by Open s) = refl
handed_standing o (Taken by Normal s) = refl
handed_standing o (Taken by Handed s) = refl
handed_standing o p = refl

normal_threads : (rs : List Role) → map standing (map (settle Normal) rs) ≡ map dismissed (map standing rs)
normal_threads [] = refl
normal_threads (r ∷ rs) = ap (λ x. x ∷ map standing (map (settle Normal) rs)) (normal_standing r.owns r.does)
    ∙ ap (λ xs. dismissed (standing r) ∷ xs) (normal_threads rs)

handed_threads : (rs : List Role) → map standing (map (settle Handed) rs) ≡ map appointed (map standing rs)
handed_threads [] = refl
handed_threads (r ∷ rs) = ap (λ x. x ∷ map standing (map (settle Handed) rs)) (handed_standing r.owns r.does)
    ∙ ap (λ xs. appointed (standing r) ∷ xs) (handed_threads rs)

-- an owner counts
owner_owns : (o : Bool) (p : Phase) → owner_of o p ≡ true → 0 < weight Owning (record { owns = o; does = p })
unfolding weight
owner_owns o (Taken by Handed s) e = omega arith
owner_owns o (Unlocks us) e = omega arith
owner_owns true p e = omega arith
owner_owns false p e = absurd cc

module _ (m : Mutex) (sound : IsSound m) (t : ℕ) where
  no_owner : m.word.locked ≡ 0 → NoOwner (owners m)
  no_owner free u s at = go (slice_get m.roles u) refl
    where
      go : (o : Option Role) → slice_get m.roles u ≡ o → s.owner ≡ false
      go None e = absurd (none-some s (sym (slice_get-map standing m.roles u ∙ ap (option_map standing) e) ∙ at))
      go (Some r) e =
          let same : standing r ≡ s =
          same_Some (standing r) s (sym (slice_get-map standing m.roles u ∙ ap (option_map standing) e) ∙ at) in
          false_from_ne_true s.owner
          (λ owned. omega (
            arith,
            free,
            sound.fits,
            total-at m.roles u r e Owning,
            owner_owns r.owns r.does (ap (λ (x : Standing). x.owner) same ∙ owned),
          ))

  alone : (k : Plain) (x y : Standing) → slice_get m.roles t ≡ Some (from k) → standing (from k) ≡ x
      → standing (to k) ≡ y
      → (slice_get (owners m).threads t ≡ Some x)
      × (owners (after t (Alone k) m) ≡ record (owners m) { threads = slice_set (owners m).threads t y })
  alone k x y at e f = (thread-at m.roles t (from k) x at e, same_owners _ _ (threads-set m.roles t (to k) y f) refl)

  plain_case : (k : Plain) → slice_get m.roles t ≡ Some (from k) → May k m.word (λ c. total c m.roles)
      → IsCase t (case_of (Alone k)) (owners m) (owners (after t (Alone k) m))
  plain_case (Lock c) at may = let h = alone (Lock c) _ _ at refl refl in (h.0, no_owner may, h.1)
  plain_case Unlock at may = alone Unlock _ _ at refl refl
  plain_case k at may = same_owners _ _ (threads-same m.roles t (from k) (to k) at (plain_stays k refl)) refl

  -- a thread is woken, which changes no standing
  woken_case : (o : Bool) (v : ℕ) (us : List ℕ) (x y : Role)
      → slice_get m.roles t ≡ Some (record { owns = o; does = Wakes (v ∷ us) }) → slice_get m.roles v ≡ Some x
      → Wakes (v ∷ us) ≢ x.does → standing y ≡ standing x
      → map standing (slice_set (slice_set m.roles v y) t (record { owns = o; does = Wakes us })) ≡ map standing m.roles
  woken_case o v us x y at there apart same =
      threads-same (slice_set m.roles v y) t _ _
      (get-set_other m.roles v t y
      (λ e. apart (ap (λ (r : Role). r.does)
      (same_Some _ x (sym at ∙ ap (λ i. slice_get m.roles i) (sym e) ∙ there)))) ∙ at) refl
      ∙ threads-same m.roles v x y there same

  step_case : (step : Step) → Allowed t step m → IsCase t (case_of step) (owners m) (owners (after t step m))
  step_case (Alone k) may = plain_case k may.0 may.1
  step_case Join may = (thread-at m.roles t _ _ may refl, same_owners _ _ (threads-set m.roles t _ _ refl) refl)
  step_case (Quit i) may =
      (thread-at m.roles t _ _ may.0 refl, may.1, same_owners _ _ (threads-set m.roles t _ _ refl) refl)
  step_case (QuitLast i) may =
      (thread-at m.roles t _ _ may.0 refl, may.1, same_owners _ _ (threads-set m.roles t _ _ refl) refl)
  step_case (Requeue o v) may =
      (thread-at m.roles v _ _ may.1 refl, same_owners _ _ (threads-set m.roles v _ _ refl) refl)
  step_case (Pull o v) may =
      let ne : t ≢ v = λ e.
      (let x = ap (λ (r : Role). r.does) (same_Some _ _ (sym may.0 ∙ ap (λ i. slice_get m.roles i) e ∙ may.1)) in
      cc) in
      same_owners _ _ (threads-same (slice_set m.roles t (record { owns = o; does = Stored (v ∷ []) })) v _ _
      (get-set_other m.roles t v _ ne ∙ may.1) refl ∙ threads-same m.roles t _ _ may.0 refl) refl
  step_case (Follow o v stay w) may =
      (thread-at m.roles w _ _ may.2 refl, same_owners _ _ (threads-set m.roles w _ _ refl) refl)
  step_case (Take v stay) may = (
    may.1,
    thread-at m.roles v _ _ may.2 refl,
    same_owners _ _
        (threads-set (slice_set m.roles t (doing (Unlocks (v ∷ [])))) v _ _ refl
        ∙ ap (λ ts. slice_set ts v (record { owner = false; stand = Chosen })) (threads-same m.roles t _ _ may.0 refl))
        refl,
  )
  step_case (Free us) may = (
    thread-at m.roles t _ _ may.0 refl,
    same_owners _ _ (threads-set (map (settle Normal) m.roles) t _ _ refl
        ∙ ap (λ ts. slice_set ts t (record { owner = false; stand = Apart })) (normal_threads m.roles)) refl,
  )
  step_case (Hand v) may = (
    thread-at m.roles t _ _ may refl,
    same_owners _ _ (threads-set (map (settle Handed) m.roles) t _ _ refl
        ∙ ap (λ ts. slice_set ts t (record { owner = false; stand = Apart })) (handed_threads m.roles)) refl,
  )
  step_case (Wake o v us stay) may =
      same_owners _ _ (woken_case o v us _ (doing (Seeks true)) may.0 may.1 (λ e. cc) refl) refl
  step_case (WakeOwner o v us stay) may =
      same_owners _ _ (woken_case o v us _ (record { owns = true; does = Idle }) may.0 may.1 (λ e. cc) refl) refl
  step_case (Pass o ws v us) may = same_owners _ _ (threads-same m.roles t _ _ may.0 refl) refl

pub steps_are_cases : (m : Mutex) → IsSound m → StepsAreCases m
steps_are_cases m sound t step may = step_case m sound t step may
