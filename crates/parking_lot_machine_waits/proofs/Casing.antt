-- Each step is cases of a lock without a word at one lock, and steps of the rules at one variable.
use Rattle.std.proofs.Common.{◌≡◌, ◌≢◌, ℕ, zero, suc, ◌+◌, Bool, true, false, not, List, [], ◌∷◌, ◌++◌, length, map}
use Rattle.std.proofs.Common.{Option, Some, None, slice_set, refl, sym, ap, ◌∙◌, subst, if◌then◌else◌}
use Rattle.std.specs.Option.{option_and_then}
use Rattle.parking_lot_protocol.specs.declared.act.CoreAnswer.{CoreAnswer}
use Rattle.parking_lot_protocol.specs.declared.act.CoreAnswer.TheVariants as answer
use Rattle.parking_lot_rules.specs.Variable as rules
use Rattle.std.proofs.lemmas.Option.{same_Some}
use Rattle.parking_lot_rules.proofs.Indexed.{get-set_other}
use Rattle.parking_lot_machine_sides.specs.declared.condvar.calls.CondvarCall.{CondvarCall}
use Rattle.parking_lot_machine_sides.specs.declared.condvar.calls.CondvarReply.{CondvarReply}
use Rattle.parking_lot_machine_sides.specs.declared.condvar.outside.Outside.{Outside}
use Rattle.parking_lot_machine_sides.specs.declared.condvar.open_call.OpenCall.{OpenCall}
use Rattle.parking_lot_machine_sides.specs.Condvar.Machines.{State as Var, variable}
use Rattle.parking_lot_machine_sides.specs.Condvar.Steps.{Runs}
use Rattle.parking_lot_machine_calls.specs.declared.calls.LockCall.{LockCall}
use Rattle.parking_lot_machine_calls.specs.declared.open_call.Call.{Call}
use Rattle.parking_lot_machine.specs.Machines as rows
use Rattle.parking_lot_machine.specs.Requeues.{AreTakenIn, MovesAreCases}
use Rattle.parking_lot_machine.specs.RowFits.{FitsTogether}
use Rattle.parking_lot_machine.specs.Rows.{State, lock_at, state}
use Rattle.parking_lot_machine.specs.Rows as row
use Rattle.parking_lot_machine.specs.SoundLaws.{IsStepAt}
use Rattle.parking_lot_machine.proofs.Cases.{steps_are_cases_of_locks}
use Rattle.parking_lot_machine_waits.specs.declared.ended.Ended.{Ended}
use Rattle.parking_lot_machine_waits.specs.declared.turn.Turn.{Turn}
use Rattle.parking_lot_machine_waits.specs.declared.turn.Turn.TheVariants as turn
use Rattle.parking_lot_machine_waits.specs.Joint.{Joint, busy_by, busy_number, has_by_second, number, seat_at, var_at}
use Rattle.parking_lot_machine_waits.specs.Joint.{var_in}
use Rattle.parking_lot_machine_waits.specs.JointCases.{AreCases, IsCase, RunsIn, StepsAreCases}
use Rattle.parking_lot_machine_waits.specs.JointSteps.{ActsAt, ActsIn, BeginsIn, ComesBackIf, FollowsAs, HearsAt}
use Rattle.parking_lot_machine_waits.specs.JointSteps.{HearsIn, HearsOf, IsGoneAt, IsLateAt, MovesIn, Turned}
use Rattle.parking_lot_machine_waits.specs.Moving.{AreMoved, AreTaken, NotifiesIn, entry}
use Rattle.parking_lot_machine_waits.specs.Turns.{is_late, turn_of}
use Rattle.parking_lot_machine_waits.proofs.Leaving.{left_stepped}

-- RUNS, ONE AFTER ANOTHER

both_runs : (t : ℕ) (ss ts : List rules.Step) (x y z : rules.Variable) → Runs t ss x y → Runs t ts y z
    → Runs t (ss ++ ts) x z
both_runs t [] ts x y z a b = subst (λ v. Runs t ts v z) a b
both_runs t (s ∷ ss) ts x y z a b = (a.0, both_runs t ss ts (rules.after t s x) y z a.1 b)

abbrev Ran : ℕ → Var → Var → Type 0
Ran t x y = (steps : List rules.Step) × Runs t steps (variable x) (variable y)

after_both : (t : ℕ) (x y z : Var) → Ran t x y → Ran t y z → Ran t x z
after_both t x y z (ss, a) (ts, b) = (ss ++ ts, both_runs t ss ts (variable x) (variable y) (variable z) a b)

all_taken : (t n : ℕ) (x y : Var) → AreTaken t n x y → Ran t x y
all_taken t zero x y e = ([], ap variable e)
all_taken t (suc n) x y (z, before, w, last) = after_both t x z y (all_taken t n x z before)
    (rules.Release w last.mutex last.stay ∷ [], last.lawful)

acts_in : (t : ℕ) (reply : Option CondvarReply) (o p : Option Var) → ActsIn t reply o p → RunsIn t o p
acts_in t reply (Some x) (Some y) h = (_, h.lawful)
acts_in t reply (Some x) None h = absurd h
acts_in t reply None p h = absurd h

hears_in : (t : ℕ) (seen : Outside) (o p : Option Var) → HearsIn t seen o p → RunsIn t o p
hears_in t seen (Some x) (Some y) h = (_, h.lawful)
hears_in t seen (Some x) None h = absurd h
hears_in t seen None p h = absurd h

notifies_in : (t : ℕ) (locked : Bool) (n : ℕ) (o p : Option Var) → NotifiesIn t locked n o p → RunsIn t o p
notifies_in t locked n (Some x) (Some y) h =
    after_both t x h.taken y
    (after_both t x h.marked h.taken (_, h.looks.lawful) (all_taken t n h.marked h.taken h.takes)) (_, h.tells.lawful)
notifies_in t locked n (Some x) None h = absurd h
notifies_in t locked n None p h = absurd h

runs_itself : (t : ℕ) (o : Option Var) → RunsIn t o o
runs_itself t None = tt
runs_itself t (Some x) = ([], refl)

begins_in : (t : ℕ) (c : CondvarCall) (o p : Option Var) → BeginsIn t c o p → RunsIn t o p
begins_in t c (Some x) (Some y) h = ([], h.stays)
begins_in t c (Some x) None h = absurd h
begins_in t c None p h = absurd h

-- ONE VARIABLE IS WRITTEN

runs_at : (t v : ℕ) (vars : List (Option Var)) (y : Option Var) → RunsIn t (var_in vars v) y
    → RunsIn t (var_in vars v) (var_in (slice_set vars v y) v)
runs_at t v [] y h = tt
runs_at t zero (o ∷ vars) y h = h
runs_at t (suc v) (o ∷ vars) y h = runs_at t v vars y h

others_stay : (vars : List (Option Var)) (v u : ℕ) (y : Option Var) → u ≢ v → var_in (slice_set vars v y) u ≡ var_in
    vars u
others_stay vars v u y ne = ap (option_and_then (λ (o : Option Var). o)) (get-set_other vars v u y (λ e. ne (sym e)))

-- THE PARTS OF A CASE

-- nothing at the locks, one case there, and two
module _ (n t m : ℕ) where
  none : (s u : State) → u ≡ s → AreCases n t m [] s u
  none s u e = λ i. ap (λ (v : State). lock_at v i) e

  one : (b : Bool) (s u : State) → IsStepAt (if b then n + t else t) m s u → u.kinds ≡ s.kinds
      → AreCases n t m (b ∷ []) s u
  one b s u x kinds = (u, x, kinds, λ i. refl)

  two : (b : Bool) (s x u : State) → IsStepAt (if b then n + t else t) m s x → x.kinds ≡ s.kinds
      → IsStepAt (if b then n + t else t) m x u → u.kinds ≡ x.kinds → AreCases n t m (b ∷ b ∷ []) s u
  two b s x u first kinds second more = (x, first, kinds, one b x u second more)

-- a step of a call leaves the kinds
step_kinds : (s u : State) (k : ℕ) (fair : Bool) (a : Option CoreAnswer) → FitsTogether s → rows.IsStepped k fair a s u
    → u.kinds ≡ s.kinds
step_kinds s u k fair a fits x = (left_stepped (λ n. Unit {0}) None s u k fair a fits x).kinds

pub record AtLocks (t : ℕ) (i j : Joint) : Type 0 where
  lock : ℕ
  by : List Bool
  cases : AreCases (length i.seats) t lock by (state i.rows) (state j.rows)

module _ (t : ℕ) (i j : Joint) where
  quiet : j.rows ≡ i.rows → AtLocks t i j
  quiet e = record { lock = 0; by = []; cases = none (length i.seats) t 0 (state i.rows) (state j.rows) (ap state e) }

  single : (b : Bool) (m : ℕ) → IsStepAt (number i t b) m (state i.rows) (state j.rows)
      → (state j.rows).kinds ≡ (state i.rows).kinds → AtLocks t i j
  single b m x kinds =
      record { lock = m; by = b ∷ []; cases = one (length i.seats) t m b (state i.rows) (state j.rows) x kinds }

  at_variable : (v : ℕ) (y : Option Var) → RunsIn t (var_at i v) y → j.vars ≡ slice_set i.vars v y → AtLocks t i j
      → IsCase t i j
  at_variable v y runs vars h = record {
    lock = h.lock;
    by = h.by;
    cases = h.cases;
    at = v;
    runs = subst (λ (vs : List (Option Var)). RunsIn t (var_at i v) (var_in vs v)) (sym vars)
        (runs_at t v i.vars y runs);
    elsewhere = λ u ne. ap (λ (vs : List (Option Var)). var_in vs u) vars ∙ others_stay i.vars v u y ne;
  }

  at_none : j.vars ≡ i.vars → AtLocks t i j → IsCase t i j
  at_none vars h = record {
    lock = h.lock;
    by = h.by;
    cases = h.cases;
    at = 0;
    runs = subst (λ (vs : List (Option Var)). RunsIn t (var_at i 0) (var_in vs 0)) (sym vars)
        (runs_itself t (var_at i 0));
    elsewhere = λ u ne. ap (λ (vs : List (Option Var)). var_in vs u) vars;
  }

  hears_at : (v : ℕ) (seen : Outside) → HearsAt t v seen i j → AtLocks t i j → IsCase t i j
  hears_at v seen (y, hears, vars) h = at_variable v y (hears_in t seen (var_at i v) y hears) vars h

  acts_at : (v : ℕ) (reply : Option CondvarReply) → ActsAt t v reply i j → AtLocks t i j → IsCase t i j
  acts_at v reply (y, acts, vars) h = at_variable v y (acts_in t reply (var_at i v) y acts) vars h

  hears_of : (v : ℕ) (a : Option CoreAnswer) → HearsOf a t v i j → AtLocks t i j → IsCase t i j
  hears_of v None vars h = at_none vars h
  hears_of v (Some a) hears h = hears_at v Outside.Made hears h

-- AT THE LOCKS

-- the number by which a thread is in a call at a lock is its first or its second
busy_second : (o : Option Call) (i : Joint) (t : ℕ) → (b : Bool) × (busy_by o t (number i t true) ≡ number i t b)
busy_second None i t = (true, refl)
busy_second (Some c) i t = (false, refl)

module _ (t : ℕ) (i j : Joint) (fits : FitsTogether (state i.rows)) where
  abbrev s : State
  s = state i.rows

  abbrev u : State
  u = state j.rows

  stepped : (b : Bool) (fair : Bool) (a : Option CoreAnswer) → rows.IsStepped (number i t b) fair a s u → AtLocks t i j
  stepped b fair a x = single t i j b x.call.lock (steps_are_cases_of_locks.step s u (number i t b) fair a fits x)
      (step_kinds s u (number i t b) fair a fits x)

  begun : (b : Bool) (m : ℕ) (c : LockCall) → rows.IsBegun (number i t b) m c s u → AtLocks t i j
  begun b m c x = single t i j b m (steps_are_cases_of_locks.begin s u (number i t b) m c fits x)
      (ap (λ (y : State). y.kinds) x.became)

  expired : (b : Bool) → rows.IsExpired (number i t b) s u → AtLocks t i j
  expired b x = single t i j b x.call.lock
      (steps_are_cases_of_locks.deadline s u (number i t b) fits x)
      (ap (λ (y : State). y.kinds) x.became)

  comes_back : (b may : Bool) → ComesBackIf may (number i t b) i j → AtLocks t i j
  comes_back b true x = expired b x
  comes_back b false e = quiet t i j e

  -- a call at a lock is over, and another begins there
  again : (b fair : Bool) (a : CoreAnswer) (d : Call) (mid : State) → row.call_at s (number i t b) ≡ Some d
      → rows.IsStepped (number i t b) fair (Some a) s mid → rows.IsBegun (number i t b) d.lock LockCall.Lock mid u
      → AtLocks t i j
  again b fair a d mid there x begins =
      let same : x.call.lock ≡ d.lock = ap (λ (c : Call). c.lock) (same_Some x.call d (sym x.here ∙ there)) in
      record {
        lock = x.call.lock;
        by = b ∷ b ∷ [];
        cases = two (length i.seats) t x.call.lock b s mid u
            (steps_are_cases_of_locks.step s mid (number i t b) fair (Some a) fits x)
            (step_kinds s mid (number i t b) fair (Some a) fits x)
            (subst (λ (m : ℕ). IsStepAt (number i t b) m mid u) (sym same)
            (steps_are_cases_of_locks.begin mid u (number i t b) d.lock LockCall.Lock x.lawful.fits begins))
            (ap (λ (y : State). y.kinds) begins.became);
      }

  onward : (b fair late : Bool) (a : Option CoreAnswer) (v : ℕ) (c : OpenCall) (d : Call) (mid : State)
      → row.call_at s (number i t b) ≡ Some d → rows.IsStepped (number i t b) fair a s mid
      → FollowsAs late a t (number i t b) v c d i mid j → IsCase t i j
  onward b fair true None v c d mid there x (same, vars) =
      at_none t i j vars (stepped b fair None (subst (rows.IsStepped (number i t b) fair None s) (sym same) x))
  onward b fair false None v c d mid there x (same, hears) =
      hears_at t i j v _ hears (stepped b fair None (subst (rows.IsStepped (number i t b) fair None s) (sym same) x))
  onward b fair true (Some answer.Owned) v c d mid there x (same, hears) =
      hears_at t i j v _ hears
      (stepped b fair (Some answer.Owned)
      (subst (rows.IsStepped (number i t b) fair (Some answer.Owned) s) (sym same) x))
  onward b fair false (Some answer.Owned) v c d mid there x (same, hears) =
      hears_at t i j v _ hears
      (stepped b fair (Some answer.Owned)
      (subst (rows.IsStepped (number i t b) fair (Some answer.Owned) s) (sym same) x))
  onward b fair true (Some answer.Refused) v c d mid there x (begins, hears) =
      hears_at t i j v _ hears (again b fair answer.Refused d mid there x begins)
  onward b fair false (Some answer.Refused) v c d mid there x (begins, hears) =
      hears_at t i j v _ hears (again b fair answer.Refused d mid there x begins)
  onward b fair true (Some answer.Released) v c d mid there x (begins, hears) =
      hears_at t i j v _ hears (again b fair answer.Released d mid there x begins)
  onward b fair false (Some answer.Released) v c d mid there x (begins, hears) =
      hears_at t i j v _ hears (again b fair answer.Released d mid there x begins)

-- WAITERS ARE MOVED

abbrev firsts : {X : Type 0} → List X → List Bool
firsts [] = []
firsts (x ∷ xs) = false ∷ firsts xs

taken : MovesAreCases → (n t m : ℕ) (es : List (ℕ × Bool)) (s u : State) → AreTakenIn m es s u
    → AreCases n t m (firsts es) s u
taken moves n t m [] s u e = none n t m s u e
taken moves n t m (e ∷ es) s u (x, first, rest) =
    (x, (moves.takes s x e.0 m t e.1 first).1, ap (λ (y : State). y.kinds) first.became, taken moves n t m es x u rest)

module _ (moves : MovesAreCases) (t : ℕ) (i j : Joint) where
  all_moved : (x : Var) (m : ℕ) (ws : List ℕ) (s : State) → AreMoved i.seats x m ws s (state j.rows)
      → AreCases (length i.seats) t m (firsts (map (entry i.seats x) ws)) s (state j.rows)
  all_moved x m ws s h = taken moves (length i.seats) t m (map (entry i.seats x) ws) s (state j.rows) h

  moved : (o : Option Var) (locked : Bool) (m : ℕ) (ws : List ℕ) → MovesIn o locked i.seats m ws (state i.rows)
      (state j.rows) → AtLocks t i j
  moved None locked m ws h = absurd h
  moved (Some x) true m ws h =
      record { lock = m; by = firsts (map (entry i.seats x) ws); cases = all_moved x m ws (state i.rows) h }
  moved (Some x) false m [] e =
      record { lock = m; by = []; cases = none (length i.seats) t m (state i.rows) (state j.rows) e }
  moved (Some x) false m (w ∷ ws) (mid, first, rest) = record {
    lock = m;
    by = false ∷ firsts (map (entry i.seats x) ws);
    cases = (
      mid,
      (moves.rouses (state i.rows) mid _ m t false first).1,
      ap (λ (y : State). y.kinds) first.became,
      all_moved x m ws mid rest,
    );
  }

-- THE STEPS

module _ (moves : MovesAreCases) (t : ℕ) (i j : Joint) (fits : FitsTogether (state i.rows)) where
  turned : (x : Turn) (v : ℕ) (fair : Bool) (c : OpenCall) (reply : Option CondvarReply) → Turned x t v fair c reply i j
      → IsCase t i j
  turned turn.Sleeps v fair c reply h = absurd h
  turned turn.Acts v fair c reply (acts, same) = acts_at t i j v reply acts (quiet t i j same)
  turned turn.GivesUp v fair c reply (acts, begins) =
      acts_at t i j v reply acts (begun t i j fits (not (seat_at i t).second) _ _ begins)
  turned turn.LocksAgain v fair c reply (acts, begins) =
      acts_at t i j v reply acts (begun t i j fits (seat_at i t).second _ _ begins)
  turned turn.Unlocks v fair c reply (none, a, x, hears) =
      hears_of t i j v a hears (stepped t i j fits (not (seat_at i t).second) fair a x)
  turned turn.Locks v fair c reply (none, a, x, hears) =
      hears_of t i j v a hears (stepped t i j fits (seat_at i t).second fair a x)
  turned turn.Follows v fair c reply (none, h) = onward t i j fits (seat_at i t).second fair (is_late h.d.core) h.answer
      v c h.d h.mid h.there h.step h.onward
  turned turn.ComesBack v fair c reply (none, hears, back) =
      hears_at t i j v _ hears (comes_back t i j fits (seat_at i t).second _ back)
  turned turn.Hears v fair c reply (none, hears, same) = hears_at t i j v _ hears (quiet t i j same)
  turned turn.Moves v fair c reply (none, h) = at_variable t i j v h.notifies.0
      (notifies_in t _ _ (var_at i v) h.notifies.0 h.notifies.1) h.notifies.2
      (moved moves t i j (var_at i v) _ _ _ h.moves)

  abbrev second : Bool
  second = (busy_second (row.call_at (state i.rows) t) i t).0

  is_second : busy_number i t ≡ number i t second
  is_second = (busy_second (row.call_at (state i.rows) t) i t).1

  gone : (at : Option ℕ) (fair : Bool) (end : Option Ended) → IsGoneAt at t fair end i j → IsCase t i j
  gone None fair end (a, h, ends) =
      at_none t i j h.vars
      (stepped t i j fits second fair a
      (subst (λ k. rows.IsStepped k fair a (state i.rows) (state j.rows)) is_second h.step))
  gone (Some v) fair end (reply, h, ends) = turned (turn_of h.call) v fair h.call reply h.turned

  late : (at : Option ℕ) → IsLateAt at t i j → IsCase t i j
  late None (x, vars, seats) =
      at_none t i j vars
      (expired t i j fits second (subst (λ k. rows.IsExpired k (state i.rows) (state j.rows)) is_second x))
  late (Some v) (hears, same, seats) = hears_at t i j v _ hears (quiet t i j same)

pub steps_are_cases : MovesAreCases → StepsAreCases
steps_are_cases moves = record {
  asks = λ t lock c i j fit x. at_none t i j x.vars (begun t i j fit.rows (has_by_second i t lock) lock c x.begins);
  calls = λ t v c i j fit x. at_variable t i j v x.begins.0 (begins_in t c (var_at i v) x.begins.0 x.begins.1)
      x.begins.2 (quiet t i j x.rows);
  steps = λ t fair end i j fit x. gone moves t i j fit.rows (seat_at i t).at fair end x;
  deadlines = λ t i j fit x. late moves t i j fit.rows (seat_at i t).at x;
}
