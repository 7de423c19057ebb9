-- Each step of a world is cases at one lock, and steps of the rules at one condition variable or once, and leaves all
-- others as they were; and it is paid for.
use Rattle.std.proofs.Common.{◌≡◌, ◌≢◌, ◌⊎◌, inl, inr, ◌+◌, ◌≤◌, ℕ, Bool, true, false, cond, List, [], ◌∷◌, length}
use Rattle.std.proofs.Common.{Option, Some, None, slice_get, refl, sym, ap, ◌∙◌, subst, arith, if◌then◌else◌}
use Rattle.std.specs.Option.{option_map_or}
use Rattle.std.proofs.lemmas.Bool.{cases_eq}
use Rattle.std.proofs.lemmas.Option.{none-some, same_Some}
use Rattle.parking_lot_rules.specs.Any.{AnyLock}
use Rattle.parking_lot_rules.specs.Once.Once.{Step}
use Rattle.parking_lot_machine_sides.specs.Once.OnceSteps.{IsLawful}
use Rattle.parking_lot_machine_sides.specs.Once.OnceRanks as once_ranks
use Rattle.parking_lot_machine_sides.specs.Once.Onces.{Onces, once_at}
use Rattle.parking_lot_machine_sides.specs.Condvar.Machines.{State as Var, variable}
use Rattle.parking_lot_machine_waits.specs.Joint.{Joint, var_at}
use Rattle.parking_lot_machine_waits.specs.JointCases.{IsCase, RunsIn}
use Rattle.parking_lot_machine_waits.specs.JointCases as of_waits
use Rattle.parking_lot_machine_waits.specs.JointRanks as wait_ranks
use Rattle.parking_lot_machine_calls.specs.declared.calls.LockKind.{LockKind}
use Rattle.parking_lot_machine_calls.specs.Kinds.{recursive_in}
use Rattle.parking_lot_machine.specs.Rows.{State}
use Rattle.parking_lot_machine.specs.Rows as row
use Rattle.parking_lot_machine.specs.SoundLaws as of_locks
use Rattle.parking_lot_world.specs.declared.calls.Asked.{Asked}
use Rattle.parking_lot_world.specs.declared.step.WorldStep.{WorldStep}
use Rattle.parking_lot_world.specs.WorldCalls.{asked, is_once, step_thread}
use Rattle.parking_lot_world.specs.WorldLaws.{AreCases, AsLock, AsOnce, AsVariable, IsCaseAt, IsStepAt, StepsAreCases}
use Rattle.parking_lot_world.specs.WorldLaws.{StepsArePaid, WorldLock, lock_at, lock_or, steps_left}
use Rattle.parking_lot_world.specs.Worlds.{IsFit, IsAsked, IsGone, IsLate, IsMade, Shown, is_in_once, is_once_at}
use Rattle.parking_lot_world.specs.Worlds.{may_ask, may_make, rows_of}
use Rattle.parking_lot_world.proofs.Whole.{both_true}

-- AT ONE LOCK

-- cases one after another, at that lock
at_that : (recursive : Bool) (n t m : ℕ) (by : List Bool) (s u : State) → recursive_in s.kinds m ≡ recursive
    → of_waits.AreCases n t m by s u → AreCases recursive n t by (row.lock_at s m) (row.lock_at u m)
at_that recursive n t m [] s u is same = same m
at_that recursive n t m (b ∷ by) s u is (x, first, kinds, rest) = (
  row.lock_at x m,
  subst (λ (r : Bool). of_locks.IsCaseAt r (if b then n + t else t) (row.lock_at s m) (row.lock_at x m)) is first.case,
  at_that recursive n t m by x u (ap (λ (ks : List LockKind). recursive_in ks m) kinds ∙ is) rest,
)

-- and all others stay
at_others : (n t m : ℕ) (by : List Bool) (s u : State) → of_waits.AreCases n t m by s u → (i : ℕ) → i ≢ m
    → row.lock_at u i ≡ row.lock_at s i
at_others n t m [] s u same i ne = same i
at_others n t m (b ∷ by) s u (x, first, kinds, rest) i ne = at_others n t m by x u rest i ne ∙ first.elsewhere i ne

-- nothing is a case
itself : (recursive : Bool) (n t : ℕ) (l : WorldLock) → IsCaseAt recursive n t l l
itself recursive n t (AsLock l) = ([], refl)
itself recursive n t (AsVariable x) = ([], refl)
itself recursive n t (AsOnce o) = (None, refl)

by_same : (recursive : Bool) (n t : ℕ) (l m : WorldLock) → m ≡ l → IsCaseAt recursive n t l m
by_same recursive n t l m e = subst (IsCaseAt recursive n t l) (sym e) (itself recursive n t l)

-- WHERE THE MACHINE OF LOCKS AND VARIABLES MAKES A STEP

module _ (w v : Shown) (t : ℕ) (kinds : v.kinds ≡ w.kinds) (same : v.onces ≡ w.onces)
    (threads : length w.waits.seats ≡ length w.answers) (x : IsCase t w.waits v.waits) where
  abbrev n : ℕ
  n = length w.answers

  at : (i : ℕ) → is_once_at v i ≡ is_once_at w i
  at i = ap (λ ks. option_map_or is_once (slice_get ks i) false) kinds

  cases : of_waits.AreCases n t x.lock x.by (rows_of w) (rows_of v)
  cases = subst (λ (m : ℕ). of_waits.AreCases m t x.lock x.by (rows_of w) (rows_of v)) threads x.cases

  -- what stands at lock i, by whether it is a once
  abbrev shows : Shown → ℕ → Bool → WorldLock
  shows z i once = cond once (AsOnce (once_at z.onces i)) (lock_or (var_at z.waits i) (row.lock_at (rows_of z) i))

  before : (i : ℕ) (b : Bool) → is_once_at w i ≡ b → lock_at w i ≡ shows w i b
  before i b e = ap (shows w i) e

  after : (i : ℕ) (b : Bool) → is_once_at w i ≡ b → lock_at v i ≡ shows v i b
  after i b e = ap (shows v i) (at i ∙ e)

  same_once : (i : ℕ) → shows v i true ≡ shows w i true
  same_once i = ap (λ (o : Onces). AsOnce (once_at o i)) same

  -- the variable there is the same, or has made steps
  var_case : (recursive : Bool) (l m : AnyLock) (o p : Option Var) → (p ≡ o) ⊎ RunsIn t o p → (by : List Bool)
      → AreCases recursive n t by l m → IsCaseAt recursive n t (lock_or o l) (lock_or p m)
  var_case recursive l m None None z by made = (by, made)
  var_case recursive l m (Some y) (Some z) (inl e) by made = ([], ap variable (same_Some z y e))
  var_case recursive l m (Some y) (Some z) (inr runs) by made = runs
  var_case recursive l m None (Some z) (inl e) by made = absurd (none-some z (sym e))
  var_case recursive l m None (Some z) (inr runs) by made = absurd runs
  var_case recursive l m (Some y) None (inl e) by made = absurd (none-some y e)
  var_case recursive l m (Some y) None (inr runs) by made = absurd runs

  between : (i : ℕ) → (var_at v.waits i ≡ var_at w.waits i) ⊎ RunsIn t (var_at w.waits i) (var_at v.waits i)
  between i = elim (cases_eq i x.at) [
    | inl e ↦ inr (subst (λ (m : ℕ). RunsIn t (var_at w.waits m) (var_at v.waits m)) (sym e) x.runs)
    | inr ne ↦ inl (x.elsewhere i ne)
  ]

  made_at : (i : ℕ) → (by : List Bool) × AreCases (recursive_in w.waits.rows.kinds i) n t by (row.lock_at (rows_of w) i)
      (row.lock_at (rows_of v) i)
  made_at i = elim (cases_eq i x.lock) [
    | inl e ↦ (
      x.by,
      subst
          (λ (m : ℕ). AreCases (recursive_in w.waits.rows.kinds m) n t x.by (row.lock_at (rows_of w) m)
          (row.lock_at (rows_of v) m)) (sym e)
          (at_that (recursive_in w.waits.rows.kinds x.lock) n t x.lock x.by (rows_of w) (rows_of v) refl cases),
    )
    | inr ne ↦ ([], at_others n t x.lock x.by (rows_of w) (rows_of v) cases i ne)
  ]

  case_by : (i : ℕ) (b : Bool) → IsCaseAt (recursive_in w.waits.rows.kinds i) n t (shows w i b) (shows v i b)
  case_by i true = by_same (recursive_in w.waits.rows.kinds i) n t (shows w i true) (shows v i true) (same_once i)
  case_by i false = (let (by, made) = made_at i in var_case (recursive_in w.waits.rows.kinds i)
      (row.lock_at (rows_of w) i) (row.lock_at (rows_of v) i) (var_at w.waits i) (var_at v.waits i) (between i) by made)

  case_at : (i : ℕ) → IsCaseAt (recursive_in w.waits.rows.kinds i) n t (lock_at w i) (lock_at v i)
  case_at i = subst (λ l. IsCaseAt (recursive_in w.waits.rows.kinds i) n t l (lock_at v i))
      (sym (before i (is_once_at w i) refl))
      (subst (IsCaseAt (recursive_in w.waits.rows.kinds i) n t (shows w i (is_once_at w i)))
      (sym (after i (is_once_at w i) refl)) (case_by i (is_once_at w i)))

  stays_by : (i : ℕ) (b : Bool) → i ≢ x.lock → i ≢ x.at → shows v i b ≡ shows w i b
  stays_by i true lock variable = same_once i
  stays_by i false lock variable =
      ap (λ (o : Option Var). lock_or o (row.lock_at (rows_of v) i)) (x.elsewhere i variable)
      ∙ ap (lock_or (var_at w.waits i)) (at_others n t x.lock x.by (rows_of w) (rows_of v) cases i lock)

  pub wait_step : IsStepAt t x.lock x.at w v
  wait_step = record {
    lock = case_at x.lock;
    variable = case_at x.at;
    elsewhere = λ i lock variable. after i (is_once_at w i) refl ∙ stays_by i (is_once_at w i) lock variable
        ∙ sym (before i (is_once_at w i) refl);
  }

-- WHERE THAT OF ONCES DOES

module _ (w v : Shown) (t i : ℕ) (step : Option Step) (kinds : v.kinds ≡ w.kinds) (same : v.waits ≡ w.waits)
    (a_once : is_once_at w i ≡ true) (x : IsLawful t i step w.onces v.onces) where
  abbrev threads : ℕ
  threads = length w.answers

  at_once : (j : ℕ) → is_once_at v j ≡ is_once_at w j
  at_once j = ap (λ ks. option_map_or is_once (slice_get ks j) false) kinds

  abbrev stands : Shown → ℕ → Bool → WorldLock
  stands z j once = cond once (AsOnce (once_at z.onces j)) (lock_or (var_at z.waits j) (row.lock_at (rows_of z) j))

  here : IsCaseAt (recursive_in w.waits.rows.kinds i) threads t (lock_at w i) (lock_at v i)
  here = subst (λ l. IsCaseAt (recursive_in w.waits.rows.kinds i) threads t l (lock_at v i))
      (sym (ap (stands w i) a_once))
      (subst (IsCaseAt (recursive_in w.waits.rows.kinds i) threads t (AsOnce (once_at w.onces i)))
      (sym (ap (stands v i) (at_once i ∙ a_once))) (step, x.here))

  others : (j : ℕ) → j ≢ i → lock_at v j ≡ lock_at w j
  others j ne =
      ap (stands v j) (at_once j)
      ∙ ap (λ o. cond (is_once_at w j) (AsOnce o) (lock_or (var_at v.waits j) (row.lock_at (rows_of v) j)))
      (x.there j ne)
      ∙ ap (λ (z : Joint). cond (is_once_at w j) (AsOnce (once_at w.onces j))
      (lock_or (var_at z j) (row.lock_at (rows_of (record w { waits = z })) j))) same

  pub once_step : IsStepAt t i i w v
  once_step = record { lock = here; variable = here; elsewhere = λ j ne also. others j ne }

-- THE STEPS, ONE BY ONE

abbrev Somewhere : ℕ → Shown → Shown → Type 0
Somewhere t w v = (i : ℕ) × (j : ℕ) × IsStepAt t i j w v

module _ (of_theirs : of_waits.StepsAreCases) (w v : Shown) (fit : IsFit w) where
  waited : (t : ℕ) → v.kinds ≡ w.kinds → v.onces ≡ w.onces → IsCase t w.waits v.waits → Somewhere t w v
  waited t kinds same x = (x.lock, x.at, wait_step w v t kinds same fit.whole.wait_threads x)

  asks : (t i : ℕ) (call : Asked) → v.kinds ≡ w.kinds → may_ask w t i call ≡ true → IsAsked t i call w v
      → Somewhere t w v
  asks t i (Asked.OfLock call) kinds may (x, same) =
      waited t kinds same (of_theirs.asks t i call w.waits v.waits fit.parts x)
  asks t i (Asked.OfVariable call) kinds may (x, same) =
      waited t kinds same (of_theirs.calls t i call w.waits v.waits fit.parts x)
  asks t i (Asked.OfOnce call) kinds may (x, same) =
      (i, i, once_step w v t i _ kinds same (both_true _ _ may).0 x.lawful)

  goes_on : (t : ℕ) (fair b : Bool) → v.kinds ≡ w.kinds → IsGone b t fair w v → Somewhere t w v
  goes_on t fair false kinds (end, x, same, answers) =
      waited t kinds same (of_theirs.steps t fair end w.waits v.waits fit.parts x)
  goes_on t fair true kinds (reply, x, same, answers) = (
    x.call.once,
    x.call.once,
    once_step w v t x.call.once x.step kinds same (fit.whole.at_onces t x.call x.here)
        x.lawful,
  )

  is_late : (t : ℕ) → v.kinds ≡ w.kinds → IsLate t w v → Somewhere t w v
  is_late t kinds (x, same, answers) = waited t kinds same (of_theirs.deadlines t w.waits v.waits fit.parts x)

  is_case : (s : WorldStep) → may_make w s ≡ true → IsMade s w v → Somewhere (step_thread s) w v
  is_case (WorldStep.Begin t i call) may made = asks t i (asked call) made.2 may made.0
  is_case (WorldStep.Go t fair) may made = goes_on t fair (is_in_once w t) made.1 made.0
  is_case (WorldStep.Deadline t) may made = is_late t made.1 made.0

pub each_step_is_a_case : of_waits.StepsAreCases → StepsAreCases
each_step_is_a_case of_theirs w v s fit may made = is_case of_theirs w v fit s may made

-- AND IT IS PAID FOR

module _ (of_theirs : wait_ranks.StepsArePaidFor) (w v : Shown) (fit : IsFit w) (later : IsFit v) (t : ℕ) (fair : Bool)
  where
    paid : (b : Bool) → IsGone b t fair w v → steps_left v t + 1 ≤ steps_left w t
    paid false (end, x, same, answers) =
        omega (
          arith,
          of_theirs.steps t fair end w.waits v.waits fit.tied fit.parts later.tied later.parts x,
          ap (λ (o : Onces). once_ranks.left o t) same,
        )
    paid true (reply, x, same, answers) = omega (arith, x.pays, ap (λ (j : Joint). wait_ranks.steps_left j t) same)

pub each_step_is_paid_for : wait_ranks.StepsArePaidFor → StepsArePaid
each_step_is_paid_for of_theirs w v t fair fit later made = paid of_theirs w v fit later t fair (is_in_once w t) made.0
