-- To move several waiters to a mutex is one run of the rules.
use Rattle.std.proofs.Common.{◌≡◌, ◌≢◌, ℕ, ◌+◌, ◌*◌, ◌≤◌, Bool, List, [], ◌∷◌, length, sym, ap, ◌∙◌, subst, arith}
use Rattle.parking_lot_rules.specs.Mutex.{Mutex, Runs}
use Rattle.parking_lot_machine.specs.Ranks.{steps_left}
use Rattle.parking_lot_machine.specs.Requeues.{AreAway, AreOthers, AreTakenIn, MovesAreRuns, all_filed, pull_run}
use Rattle.parking_lot_machine.specs.Requeues.{requeue_run, waiters}
use Rattle.parking_lot_machine.specs.Rows.{State, hold_at, lock_at, mutex_at}
use Rattle.parking_lot_machine_calls.specs.CallRoles.{owns_mutex}
use Rattle.parking_lot_machine.proofs.RequeueRuns.{laws as runs}

-- the mutex once all are in its list
all_here : (s u : State) (lock : ℕ) (es : List (ℕ × Bool)) → AreTakenIn lock es s u
    → mutex_at u lock ≡ all_filed (mutex_at s lock) (waiters es)
all_here s u lock [] e = ap (λ x. mutex_at x lock) e
all_here s u lock (e ∷ es) (x, first, rest) = all_here x u lock es rest ∙ ap (λ n. all_filed n (waiters es)) first.here

-- each was away when its turn came
all_away : (s u : State) (lock by : ℕ) (es : List (ℕ × Bool)) → AreOthers by es → AreTakenIn lock es s u
    → AreAway (mutex_at s lock) by (waiters es)
all_away s u lock by [] others e = tt
all_away s u lock by (e ∷ es) (ne, others) (x, first, rest) =
    (ne, first.away, subst (λ (n : Mutex). AreAway n by (waiters es)) first.here (all_away x u lock by es others rest))

others_stay : (s u : State) (lock : ℕ) (es : List (ℕ × Bool)) → AreTakenIn lock es s u → (i : ℕ) → i ≢ lock
    → lock_at u i ≡ lock_at s i
others_stay s u lock [] e i ne = ap (λ x. lock_at x i) e
others_stay s u lock (e ∷ es) (x, first, rest) i ne = others_stay x u lock es rest i ne ∙ first.elsewhere i ne

all_cost : (s u : State) (lock : ℕ) (es : List (ℕ × Bool)) → AreTakenIn lock es s u → (t : ℕ)
    → steps_left u t ≤ steps_left s t + 25 * length es
all_cost s u lock [] e t = omega (arith, ap (λ x. steps_left x t) e)
all_cost s u lock (e ∷ es) (x, first, rest) t = omega (arith, first.costs t, all_cost x u lock es rest t)

pub laws : MovesAreRuns
laws = record {
  locked = λ s u lock by e es may is taken.
      subst (λ (n : Mutex). Runs (mutex_at s lock) (requeue_run by (owns_mutex (hold_at s by lock)) (waiters (e ∷ es)))
      n) (sym (all_here s u lock (e ∷ es) taken))
      ((runs (mutex_at s lock) by (owns_mutex (hold_at s by lock))).locked e.0 (waiters es)
      (taken.1.comes by (λ x. may.others.0 (sym x)) may.low may.alone) is
      (all_away s u lock by (e ∷ es) may.others taken));
  unlocked = λ s x u lock by e es may first rest.
      subst (λ (n : Mutex). Runs (mutex_at s lock) (pull_run by (owns_mutex (hold_at s by lock)) e.0 (waiters es)) n)
      (sym (all_here x u lock es rest ∙ ap (λ n. all_filed n (waiters es)) first.here))
      ((runs (mutex_at s lock) by (owns_mutex (hold_at s by lock))).unlocked e.0 (waiters es)
      (first.comes by (λ y. may.others.0 (sym y)) may.low may.alone) may.others.0 first.away
      (subst (λ (n : Mutex). AreAway n by (waiters es)) first.here (all_away x u lock by es may.others.1 rest)));
  elsewhere = others_stay;
  costs = all_cost;
}
