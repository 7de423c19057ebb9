-- Each step of the machine is a case of a lock without a word, and leaves the other locks as they were.
use Rattle.std.proofs.Common.{◌≡◌, ℕ, inl, inr, Bool, Option, Some, None, refl, sym, subst, ◌∙◌}
use Rattle.std.proofs.lemmas.Bool.{cases_eq}
use Rattle.parking_lot_rules.specs.Any.{AnyLock, AnySound, AnyStep, RwStep, MxStep, Rw, Mx, any_after, any_allowed}
use Rattle.parking_lot_rules.specs.Mutex as mutex
use Rattle.parking_lot_rules.specs.MutexOwners as mutex_owners
use Rattle.parking_lot_rules.specs.Owners as rw_owners
use Rattle.parking_lot_rules.proofs.Casing.{step_case}
use Rattle.parking_lot_rules.proofs.MutexCasing.{steps_are_cases}
use Rattle.parking_lot_machine_calls.specs.Kinds.{recursive_in}
use Rattle.parking_lot_machine.specs.RowFits.{FitsTogether}
use Rattle.parking_lot_machine.specs.Rows.{State, lock_at}
use Rattle.parking_lot_machine.specs.RowSteps.{IsMade, IsQuiet, IsFound}
use Rattle.parking_lot_machine.specs.SoundLaws.{HasSameOwners, IsCaseAt, IsStepAt, StepsAreCases}
use Rattle.parking_lot_machine.proofs.Moves.{begins, stepped, IsPassing}
use Rattle.parking_lot_rules.specs.Plain.{Expire1, Expire2, ExpireTaken1, ExpireTaken2}
use Rattle.parking_lot_rules.specs.Roles.{Mark, Mode}
use Rattle.parking_lot_rules.specs.Steps.{Alone, Pass}
use Rattle.parking_lot_machine_calls.specs.CallRoles.{mark_of}
use Rattle.parking_lot_machine_calls.specs.LateRoles.{expires_as, expires_taken_as}
use Rattle.parking_lot_machine_calls.specs.declared.seat.Core.{Core}
use Rattle.parking_lot_machine_calls.specs.declared.seat.QueuePosition.{QueuePosition}
use Rattle.parking_lot_machine.specs.LateLaws.{expire_step}
use Rattle.parking_lot_machine.specs.Machines.{IsExpired}
use Rattle.parking_lot_machine.specs.LateActs.{unowed}
use Rattle.parking_lot_machine.proofs.Making.{made_sound}

-- a step of the rules is a case
after_is_case : (recursive : ℕ → Bool) (t j : ℕ) (step : AnyStep) (l : AnyLock) → AnySound l
    → any_allowed recursive j t step l → IsCaseAt (recursive j) t l (any_after t step l)
after_is_case recursive t j (RwStep step) (Rw l) sound may =
    (rw_owners.case_of step, step_case (recursive j) t l sound step may)
after_is_case recursive t j (MxStep step) (Mx m) sound may =
    (mutex_owners.case_of step, steps_are_cases m sound t step may)
after_is_case recursive t j (RwStep step) (Mx m) sound may = absurd may
after_is_case recursive t j (MxStep step) (Rw l) sound may = absurd may

-- and so is one that changes nothing
same_is_case : (recursive : Bool) (t : ℕ) (l : AnyLock) → IsCaseAt recursive t l l
same_is_case recursive t (Rw l) = (rw_owners.Nothing, refl)
same_is_case recursive t (Mx m) = (mutex_owners.Nothing, refl)

-- one that drops a thread from those that it is to wake leaves them
passes_same : (recursive : ℕ → Bool) (t j : ℕ) (step : AnyStep) → IsPassing step → (l : AnyLock) → AnySound l
    → any_allowed recursive j t step l → HasSameOwners l (any_after t step l)
passes_same recursive t j (RwStep (Pass owns before v taken)) is (Rw l) sound may = step_case (recursive j) t l sound
    (Pass owns before v taken) may
passes_same recursive t j (MxStep (mutex.Pass owns before v taken)) is (Mx m) sound may =
    steps_are_cases m sound t (mutex.Pass owns before v taken) may
passes_same recursive t j (RwStep (Pass owns before v taken)) is (Mx m) sound may = absurd may
passes_same recursive t j (MxStep (mutex.Pass owns before v taken)) is (Rw l) sound may = absurd may
passes_same recursive t j step is l sound may = absurd is

case_from : (recursive : Bool) (t : ℕ) (l m n : AnyLock) → HasSameOwners l m → IsCaseAt recursive t m n
    → IsCaseAt recursive t l n
case_from recursive t (Rw l) (Rw m) (Rw n) same c =
    (c.0, subst (λ (o : rw_owners.Owners). rw_owners.IsCase recursive t c.0 o (rw_owners.owners n)) same c.1)
case_from recursive t (Mx l) (Mx m) (Mx n) same c =
    (c.0, subst (λ (o : mutex_owners.Owners). mutex_owners.IsCase t c.0 o (mutex_owners.owners n)) same c.1)
case_from recursive t (Rw l) (Mx m) n same c = absurd same
case_from recursive t (Mx l) (Rw m) n same c = absurd same
case_from recursive t (Rw l) (Rw m) (Mx n) same c = absurd c
case_from recursive t (Mx l) (Mx m) (Rw n) same c = absurd c

module _ (s u : State) where
  quiet : (t j : ℕ) → IsQuiet s u → IsStepAt t j s u
  quiet t j q = record {
    case = subst (IsCaseAt (recursive_in s.kinds j) t (lock_at s j)) (sym (q.locks j))
        (same_is_case (recursive_in s.kinds j) t (lock_at s j));
    elsewhere = λ i ne. q.locks i;
  }

  pub made : FitsTogether s → (t j : ℕ) (step : AnyStep) → IsMade j t step s u → IsStepAt t j s u
  made h t j step m = record {
    case = subst (IsCaseAt (recursive_in s.kinds j) t (lock_at s j)) (sym m.here)
        (after_is_case (recursive_in s.kinds) t j step (lock_at s j) (h.rules.sound.sound j) m.allowed);
    elsewhere = m.elsewhere;
  }

  -- a step that is two: the former changes no owner and no list, and the latter is a case
  found : FitsTogether s → (t j by : ℕ) (passing step : AnyStep) → IsPassing passing → IsFound j by passing step t s u
      → IsStepAt t j s u
  found h t j by passing step passes f = record {
    case =
        case_from (recursive_in s.kinds j) t (lock_at s j) (lock_at (unowed s t) j) (lock_at u j)
        (subst (HasSameOwners (lock_at s j)) (sym f.0.here)
        (passes_same (recursive_in s.kinds) by j passing passes (lock_at s j) (h.rules.sound.sound j) f.0.allowed))
        (subst (IsCaseAt (recursive_in s.kinds j) t (lock_at (unowed s t) j)) (sym f.1.here)
        (after_is_case (recursive_in s.kinds) t j step (lock_at (unowed s t) j)
        ((made_sound s (unowed s t) by j passing refl f.0 h.rules.sound).sound j) f.1.allowed));
    elsewhere = λ i ne. f.1.elsewhere i ne ∙ f.0.elsewhere i ne;
  }

-- A DEADLINE

-- the steps by which a deadline comes
abbrev IsExpiring : AnyStep → Type 0
IsExpiring (RwStep (Alone (Expire1 mode))) = Unit {0}
IsExpiring (RwStep (Alone (Expire2 from))) = Unit {0}
IsExpiring (RwStep (Alone (ExpireTaken1 mode by mark))) = Unit {0}
IsExpiring (RwStep (Alone (ExpireTaken2 from by))) = Unit {0}
IsExpiring (MxStep (mutex.Alone mutex.Expire)) = Unit {0}
IsExpiring (MxStep (mutex.Alone (mutex.ExpireTaken by mark))) = Unit {0}
IsExpiring step = ⊥

listed_so : (from : Option Bool) (mode : Mode) → IsExpiring (RwStep (Alone (expires_as from mode)))
listed_so (Some from) mode = tt
listed_so None mode = tt

taken_so : (from : Option Bool) (mode : Mode) (by : ℕ) (mark : Mark)
    → IsExpiring (RwStep (Alone (expires_taken_as from mode by mark)))
taken_so (Some from) mode by mark = tt
taken_so None mode by mark = tt

expires_so : (k : Core) (at : QueuePosition) → IsExpiring (expire_step k at)
expires_so (Core.Rw c) QueuePosition.Listed = listed_so _ _
expires_so (Core.Rw c) (QueuePosition.Off by said) = taken_so _ _ by (mark_of said)
expires_so (Core.Upgrade c) QueuePosition.Listed = listed_so _ _
expires_so (Core.Upgrade c) (QueuePosition.Off by said) = taken_so _ _ by (mark_of said)
expires_so (Core.Mutex c) QueuePosition.Listed = tt
expires_so (Core.Mutex c) (QueuePosition.Off by said) = tt
expires_so (Core.Late p) QueuePosition.Listed = tt
expires_so (Core.Late p) (QueuePosition.Off by said) = tt
expires_so (Core.LateRw p) QueuePosition.Listed = tt
expires_so (Core.LateRw p) (QueuePosition.Off by said) = tt

-- they leave owners and lists
expires_same : (r : ℕ → Bool) (t j : ℕ) (step : AnyStep) → IsExpiring step → (l : AnyLock) → AnySound l
    → any_allowed r j t step l → HasSameOwners l (any_after t step l)
expires_same r t j (RwStep (Alone (Expire1 mode))) is (Rw l) sound may = step_case (r j) t l sound
    (Alone (Expire1 mode)) may
expires_same r t j (RwStep (Alone (Expire2 from))) is (Rw l) sound may = step_case (r j) t l sound
    (Alone (Expire2 from)) may
expires_same r t j (RwStep (Alone (ExpireTaken1 mode by mark))) is (Rw l) sound may =
    step_case (r j) t l sound
    (Alone (ExpireTaken1 mode by mark)) may
expires_same r t j (RwStep (Alone (ExpireTaken2 from by))) is (Rw l) sound may =
    step_case (r j) t l sound
    (Alone (ExpireTaken2 from by)) may
expires_same r t j (MxStep (mutex.Alone mutex.Expire)) is (Mx m) sound may =
    steps_are_cases m sound t (mutex.Alone mutex.Expire) may
expires_same r t j (MxStep (mutex.Alone (mutex.ExpireTaken by mark))) is (Mx m) sound may =
    steps_are_cases m sound t
    (mutex.Alone (mutex.ExpireTaken by mark)) may
expires_same r t j (RwStep step) is (Mx m) sound may = absurd may
expires_same r t j (MxStep step) is (Rw l) sound may = absurd may
expires_same r t j step is l sound may = absurd is

owners_same : (l m : AnyLock) → m ≡ l → HasSameOwners l m
owners_same l m e = subst (λ (x : AnyLock). HasSameOwners l x) (sym e) (itself l)
  where
    itself : (x : AnyLock) → HasSameOwners x x
    itself (Rw y) = refl
    itself (Mx y) = refl

pub deadlines_move_nobody : (s u : State) (t : ℕ) → FitsTogether s → IsExpired t s u → (i : ℕ)
    → HasSameOwners (lock_at s i) (lock_at u i)
deadlines_move_nobody s u t h x i = elim (cases_eq i x.call.lock) [
  | inl e ↦ subst (λ (n : ℕ). HasSameOwners (lock_at s n) (lock_at u n)) (sym e)
      (subst (HasSameOwners (lock_at s x.call.lock)) (sym x.lawful.goes.here)
      (expires_same (recursive_in s.kinds) t x.call.lock (expire_step x.call.core x.call.spot)
      (expires_so x.call.core x.call.spot) (lock_at s x.call.lock) (h.rules.sound.sound x.call.lock)
      x.lawful.goes.allowed))
  | inr ne ↦ owners_same (lock_at s i) (lock_at u i) (x.lawful.goes.elsewhere i ne)
]

pub steps_are_cases_of_locks : StepsAreCases
steps_are_cases_of_locks = record {
  step = λ s u t fair answer h x. stepped s u (λ v j. IsStepAt v j s u) (quiet s u) (made s u h) (found s u h) t fair
      answer x;
  begin = λ s u t lock call h x. begins s u (λ v j. IsStepAt v j s u) (quiet s u) (made s u h) (found s u h) t lock call
      x;
  deadline = λ s u t h x. made s u h t x.call.lock (expire_step x.call.core x.call.spot) x.lawful.goes;
  deadline_moves_nobody = deadlines_move_nobody;
}
