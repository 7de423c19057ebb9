-- What a notification does at a mutex is a run of the steps of the rules.
use Rattle.std.proofs.Common.{◌≡◌, ◌≢◌, ℕ, zero, suc, ◌+◌, ◌%◌, ◌==◌, ◌<◌, ◌≤◌, Bool, true, false, cond, List, [], ◌∷◌}
use Rattle.std.proofs.Common.{length, map, take, Option, Some, None, slice_get, refl, sym, ap, ◌∙◌, subst, arith}
use Rattle.std.proofs.Common.{eqb-true}
use Rattle.std.specs.Option.{unwrap_or}
use Rattle.parking_lot_rules.specs.Lists.{occurs}
use Rattle.parking_lot_rules.specs.Mutex.{Runs}
use Rattle.parking_lot_rules.proofs.Waiting.{counted-same, occurs-cons}
use Rattle.parking_lot_protocol_waits.specs.declared.notify_core.NotifyPhase.TheVariants as n
use Rattle.parking_lot_machine_sides.specs.declared.condvar.open_call.Core.{Core}
use Rattle.parking_lot_machine_sides.specs.declared.condvar.open_call.Core.TheVariants as core
use Rattle.parking_lot_machine_sides.specs.declared.condvar.open_call.OpenCall.{OpenCall}
use Rattle.parking_lot_machine_sides.specs.Condvar.Machines.{State as Var}
use Rattle.parking_lot_machine_sides.proofs.CondvarFacts.Slots.{within}
use Rattle.parking_lot_machine.specs.Requeues.{AreOthers, MayMove, MovesAreRuns, pull_run, requeue_run, waiters}
use Rattle.parking_lot_machine.specs.Rows.{State, call_at as row_call_at, hold_at, mutex_at, state, word_at}
use Rattle.parking_lot_machine_calls.specs.CallRoles.{owns_mutex}
use Rattle.parking_lot_machine_waits.specs.declared.seat.Seat.{Seat}
use Rattle.parking_lot_machine_waits.specs.declared.turn.Turn.TheVariants as turn
use Rattle.parking_lot_machine_waits.specs.Joint.{Joint, call_at, call_in, lock_of, nowhere, var_at}
use Rattle.parking_lot_machine_waits.specs.JointCases.{IsRunAt, MovesAsRun}
use Rattle.parking_lot_machine_waits.specs.JointLaws.{PartsFit}
use Rattle.parking_lot_machine_waits.specs.JointSteps.{IsMoving, KnownIn, MovesIn, is_locked, takes_now}
use Rattle.parking_lot_machine_waits.specs.Moving.{AreMovedAs, back_in, entry, taken_of}
use Rattle.parking_lot_machine_waits.specs.Turns.{turn_of}
use Rattle.parking_lot_machine_waits.specs.Whole.{IsWhole, Stands}
use Rattle.parking_lot_machine_waits.proofs.Allowing.{not_itself}
use Rattle.parking_lot_machine_waits.proofs.Notifying.{Marking, is_moving, marking}

-- who is taken stands in the list
in_take : (u k : ℕ) (ws : List ℕ) → occurs u (take k ws) ≤ occurs u ws
in_take u zero ws = omega arith
in_take u (suc k) [] = omega arith
in_take u (suc k) (w ∷ ws) = omega (arith, occurs-cons u w ws, occurs-cons u w (take k ws), in_take u k ws)

module _ (seats : List Seat) (x : Var) (t : ℕ) (low : t < length seats) where
  back_apart : (b : Bool) (w : ℕ) → w ≢ t → cond b (length seats + w) w ≢ t
  back_apart true w ne e = omega (arith, low, e)
  back_apart false w ne e = ne e

  apart : (w : ℕ) → w ≢ t → back_in seats w ≢ t
  apart w ne = back_apart (unwrap_or (slice_get seats w) nowhere).second w ne

  are_others : (ws : List ℕ) → ((u : ℕ) → 0 < occurs u ws → u ≢ t) → AreOthers t (map (entry seats x) ws)
  are_others [] each = tt
  are_others (w ∷ ws) each = (
    apart w (each w (omega (arith, occurs-cons w w ws, counted-same w))),
    are_others ws (λ u some. each u (omega (arith, some, occurs-cons u w ws))),
  )

  same_waiters : (ws : List ℕ) → waiters (map (entry seats x) ws) ≡ map (back_in seats) ws
  same_waiters [] = refl
  same_waiters (w ∷ ws) = ap (λ us. back_in seats w ∷ us) (same_waiters ws)

  module _ (law : MovesAreRuns) (s : State) (lock : ℕ) (small : t < length s.calls) (idle : row_call_at s t ≡ None)
    where
      may : (ws : List ℕ) → ((u : ℕ) → 0 < occurs u ws → u ≢ t) → MayMove s t (map (entry seats x) ws)
      may ws each = record { low = small; alone = idle; others = are_others ws each }

      runs : (locked : Bool) (ws : List ℕ) (u : State) → (word_at s lock % 2 == 1) ≡ locked
          → ((v : ℕ) → 0 < occurs v ws → v ≢ t) → AreMovedAs locked seats x lock ws s u
          → MovesAsRun locked t (owns_mutex (hold_at s t lock)) (map (back_in seats) ws) (mutex_at s lock)
          (mutex_at u lock)
      runs true [] u is each moved = ap (λ (y : State). mutex_at y lock) moved
      runs true (w ∷ ws) u is each moved =
          subst (λ us. Runs (mutex_at s lock) (requeue_run t (owns_mutex (hold_at s t lock)) (back_in seats w ∷ us))
          (mutex_at u lock)) (same_waiters ws)
          (law.locked s u lock t (entry seats x w) (map (entry seats x) ws) (may (w ∷ ws) each)
          (eqb-true (word_at s lock % 2) 1 is) moved)
      runs false [] u is each e = ap (λ (y : State). mutex_at y lock) e
      runs false (w ∷ ws) u is each (m, first, rest) =
          subst (λ us. Runs (mutex_at s lock) (pull_run t (owns_mutex (hold_at s t lock)) (back_in seats w) us)
          (mutex_at u lock)) (same_waiters ws)
          (law.unlocked s m u lock t (back_in seats w, false) (map (entry seats x) ws)
          (record {
            low = small;
            alone = idle;
            others = (
              apart w (each w (omega (arith, occurs-cons w w ws, counted-same w))),
              are_others ws (λ v some. each v (omega (arith, some, occurs-cons v w ws))),
            );
          }) first rest)

pub moves_run : MovesAreRuns → (t v : ℕ) (c : OpenCall) (i j : Joint) → IsWhole i → PartsFit i → call_at i v t ≡ Some c
    → turn_of c ≡ turn.Moves → IsMoving t v c i j → IsRunAt t v (lock_of (var_at i v)) c.call i j
moves_run law t v c i j h fits here turns x = go (var_at i v) refl x.moves
  where
    lock : ℕ
    lock = lock_of (var_at i v)

    mark : Marking c
    mark = marking c (ap is_moving turns)

    idle : (k : Core) → k ≡ core.Notify (record { phase = n.Marks mark.all }) → Stands i t c k
        → row_call_at (state i.rows) t ≡ None
    idle k is stands = (subst (Stands i t c) is stands).first

    ran : (a : Var) → var_at i v ≡ Some a → AreMovedAs (is_locked i lock) i.seats a lock (takes_now c.call (Some a))
        (state i.rows) (state j.rows)
        → MovesAsRun (is_locked i lock) t (owns_mutex (hold_at (state i.rows) t lock))
        (map (back_in i.seats) (takes_now c.call (Some a))) (mutex_at (state i.rows) lock)
        (mutex_at (state j.rows) lock)
    ran a at moved =
        let there = sym (ap (λ (o : Option Var). call_in o t) at) ∙ here in
        let low = subst (λ m. t < m) (h.threads v a at) (within a.calls t c there) in
        let apart = not_itself i h v a at (subst KnownIn at (fits.vars v)) t c there mark in
        runs i.seats a t low law (state i.rows) lock (omega (arith, low, h.numbers))
        (idle c.core mark.is (h.stands v t c here)) (is_locked i lock) (takes_now c.call (Some a)) (state j.rows)
        refl
        (λ u some. apart u (omega (arith, some, in_take u (taken_of c.call (length a.queue)) a.queue))) moved

    go : (o : Option Var) → var_at i v ≡ o → MovesIn o (is_locked i lock) i.seats lock (takes_now c.call (var_at i v))
        (state i.rows) (state j.rows) → IsRunAt t v lock c.call i j
    go None at moved = absurd moved
    go (Some a) at moved =
        let same = ap (takes_now c.call) at in
        subst (λ ws. MovesAsRun (is_locked i lock) t (owns_mutex (hold_at (state i.rows) t lock))
        (map (back_in i.seats) ws) (mutex_at (state i.rows) lock) (mutex_at (state j.rows) lock)) (sym same)
        (ran a at (subst (λ ws. AreMovedAs (is_locked i lock) i.seats a lock ws (state i.rows) (state j.rows)) same
        moved))
