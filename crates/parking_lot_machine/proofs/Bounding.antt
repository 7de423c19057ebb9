-- No thread in a call has more steps left than a number that goes by how many threads there are.
use Rattle.std.proofs.Common.{◌≡◌, ◌≤◌, ℕ, suc, ◌+◌, ◌*◌, Bool, true, false, List, [], ◌∷◌, length, Option, Some, None}
use Rattle.std.proofs.Common.{slice_get, refl, ap, arith}
use Rattle.std.proofs.Math.Nat.{suc-mul}
use Rattle.std.specs.List.{sum_by}
use Rattle.std.specs.Option.{option_and_then}
use Rattle.std.specs.Prelude.{if◌then◌else◌}
use Rattle.std.proofs.lemmas.List.Sums.{sum_by-cons}
use Rattle.parking_lot_protocol.specs.declared.mutex_phase.Giving.{Giving}
use Rattle.parking_lot_protocol.specs.declared.mutex_phase.MutexPhase.{MutexPhase}
use Rattle.parking_lot_protocol.specs.declared.rw_phase.AfterWake.{AfterWake}
use Rattle.parking_lot_protocol.specs.declared.rw_phase.LockMode.{LockMode}
use Rattle.parking_lot_protocol.specs.declared.rw_phase.RwPhase.{RwPhase}
use Rattle.parking_lot_rules.specs.Classes.{bit}
use Rattle.parking_lot_protocol_rw.specs.declared.upgrade_phase.UpgradePhase.{UpgradePhase}
use Rattle.parking_lot_machine.specs.Ranks.{upgrade_steps, late_rw_steps, sleeper_steps, quits_steps}
use Rattle.parking_lot_machine.specs.Rounds.{upgrade_rounds, late_rw_rounds, sleeper_rounds}
use Rattle.parking_lot_machine_calls.specs.Stances.{upgrade_taken, pending_from, sleeper_asleep}
use Rattle.parking_lot_machine_calls.specs.declared.seat.LatePhase.{LatePhase}
use Rattle.parking_lot_machine_calls.specs.declared.seat.Core.{Core}
use Rattle.parking_lot_machine_calls.specs.declared.open_call.Call.{Call}
use Rattle.parking_lot_machine.specs.Ranks.{Unseen, comes_after, core_steps, late_steps, far_steps, mutex_asks}
use Rattle.parking_lot_machine.specs.Ranks.{mutex_ends, mutex_steps, rw_ends, rw_steps, vain}
use Rattle.parking_lot_machine.specs.Rounds.{FewRounds, mutex_rounds, rw_rounds}
use Rattle.parking_lot_machine.specs.RowFits.{FitsTogether}
use Rattle.parking_lot_machine.specs.Rows.{State, call_at, word_at}
use Rattle.parking_lot_machine.specs.SoundLaws.{StepsAreFew, most_steps}
use Rattle.parking_lot_machine_calls.specs.Stances.{rw_taken, taken_count}
use Rattle.parking_lot_machine.proofs.Meeting.{in_range}
use Rattle.parking_lot_machine.proofs.Paying.{IsGood, IsGoodLate, is_good}
use Rattle.parking_lot_machine.proofs.WakesPaying.{none_more}
use Rattle.parking_lot_machine.proofs.Summing.{others_and_one}
use Rattle.parking_lot_machine_calls.specs.declared.late_rw.LateRwPhase.{LateRwPhase}
use Rattle.parking_lot_machine_calls.specs.declared.late_rw.RwSleeper.{RwSleeper}
use Rattle.parking_lot_machine_calls.specs.CallViews.{IsReadySleeper}
use Rattle.parking_lot_machine.proofs.Sleepers.{by_sleeper}

-- the parts of a call that goes on
after_most : (w : LockMode) → comes_after Unseen w ≤ 31
after_most (LockMode.Shared recursive) = omega arith
after_most LockMode.Exclusive = omega arith

vain_most : (w : LockMode) → vain w ≤ 56
vain_most (LockMode.Shared recursive) = omega arith
vain_most LockMode.Exclusive = omega arith

ends_most : (rs : AfterWake) → rw_ends Unseen rs ≤ 109
ends_most AfterWake.FreedShared = omega arith
ends_most AfterWake.FreedExclusive = omega arith
ends_most AfterWake.Downgraded = omega arith
ends_most AfterWake.AgainShared = omega arith
ends_most AfterWake.AgainExclusive = omega arith

bit_most : (b : Bool) → bit b ≤ 1
bit_most true = omega arith
bit_most false = omega arith

given_most : (g : Giving) → mutex_ends Unseen g ≤ 52
given_most g = go g.again
  where
    go : (b : Bool) → (if b then 2 + mutex_asks Unseen 10 else 1) ≤ 52
    go true = omega arith
    go false = omega arith

mutex_most : (p : MutexPhase) → mutex_rounds p ≤ 10 → mutex_steps Unseen p ≤ 219
mutex_most (MutexPhase.Loads a) h = omega (arith, h)
mutex_most (MutexPhase.Locks a waiters) h = omega (arith, h)
mutex_most (MutexPhase.Spins a) h = omega (arith, h)
mutex_most (MutexPhase.Parks a) h = omega (arith, h)
mutex_most (MutexPhase.Unlocks g) h = omega (arith, given_most g)
mutex_most (MutexPhase.Looks g) h = omega (arith, given_most g)
mutex_most (MutexPhase.Takes g) h = omega (arith, given_most g)
mutex_most (MutexPhase.Stores g taken left) h = omega (arith, given_most g, bit_most taken)
mutex_most (MutexPhase.Leaves g taken handed) h = omega (arith, given_most g, bit_most taken)
mutex_most (MutexPhase.Wakes g) h = omega (arith, given_most g)
mutex_most (MutexPhase.Finishes g) h = omega (arith, given_most g)
mutex_most p h = omega arith

rw_most : (n : ℕ) (p : RwPhase) → 1 ≤ n → rw_rounds p ≤ 10 → rw_taken p ≤ n → rw_steps n Unseen p ≤ 219 * n + 200
rw_most n (RwPhase.Loads a) some h k = omega (arith, h, some, vain_most a.want, after_most a.want)
rw_most n (RwPhase.Admits a word) some h k = omega (arith, h, some, vain_most a.want, after_most a.want)
rw_most n (RwPhase.Spins a) some h k = omega (arith, h, some, vain_most a.want, after_most a.want)
rw_most n (RwPhase.SetParked a word) some h k = omega (arith, h, some, vain_most a.want, after_most a.want)
rw_most n (RwPhase.Enters w woken) some h k = omega (arith, some, vain_most w)
rw_most n (RwPhase.Checks w woken) some h k = omega (arith, some, vain_most w)
rw_most n (RwPhase.Retreats w woken) some h k = omega (arith, some, vain_most w)
rw_most n (RwPhase.DrainLoads d) some h k = omega (arith, h, some)
rw_most n (RwPhase.DrainSpins d) some h k = omega (arith, h, some)
rw_most n (RwPhase.DrainSetParked d word) some h k = omega (arith, h, some)
rw_most n (RwPhase.DrainEnters d) some h k = omega (arith, h, some)
rw_most n (RwPhase.DrainChecks d) some h k = omega (arith, h, some)
rw_most n (RwPhase.DrainRetreats d) some h k = omega (arith, h, some)
rw_most n (RwPhase.DrainAppends rounds) some h k = omega (arith, h, some)
rw_most n (RwPhase.DrainRests rounds) some h k = omega (arith, h, some)
rw_most n (RwPhase.DrainSleeps rounds) some h k = omega (arith, h, some)
rw_most n (RwPhase.BumpLoads w) some h k = omega (arith, some, vain_most w, after_most w)
rw_most n (RwPhase.Relocks w) some h k = omega (arith, some, vain_most w, after_most w)
rw_most n (RwPhase.Unshares rs) some h k = omega (arith, some, ends_most rs)
rw_most n (RwPhase.EnterWriterWakeSection rs) some h k = omega (arith, some, ends_most rs)
rw_most n (RwPhase.TakeWriter rs) some h k = omega (arith, some, ends_most rs)
rw_most n (RwPhase.ClearWriterParked rs taken) some h k = omega (arith, some, ends_most rs, bit_most taken)
rw_most n (RwPhase.LeaveWriterWakeSection rs taken) some h k = omega (arith, some, ends_most rs, bit_most taken)
rw_most n (RwPhase.Unlocks fair rs) some h k = omega (arith, some, ends_most rs)
rw_most n (RwPhase.LooksExclusive fair rs) some h k = omega (arith, some, ends_most rs)
rw_most n (RwPhase.Scans s) some h k = omega (arith, some, k, ends_most s.rest)
rw_most n (RwPhase.Stores s left) some h k = omega (arith, some, k, ends_most s.rest)
rw_most n (RwPhase.Leaves rs count handed) some h k = omega (arith, some, k, ends_most rs)
rw_most n (RwPhase.Wakes rs count) some h k = omega (arith, some, k, ends_most rs)
rw_most n (RwPhase.Finishes rs) some h k = omega (arith, some, ends_most rs)
rw_most n p some h k = omega (arith, some)

upgrade_most : (n : ℕ) (p : UpgradePhase) → 1 ≤ n → upgrade_rounds p ≤ 10 → upgrade_taken p ≤ n
    → upgrade_steps n Unseen p ≤ 219 * n + 200
upgrade_most n (UpgradePhase.Plain core) some h k = rw_most n core.phase some h k
upgrade_most n (UpgradePhase.Seeks core) some h k = rw_most n core.phase some h k
upgrade_most n (UpgradePhase.Drains core) some h k = rw_most n core.phase some h k
upgrade_most n (UpgradePhase.Frees r core) some h k = rw_most n core.phase some h k
upgrade_most n (UpgradePhase.Owes kept end core) some h k = rw_most n core.phase some h k
upgrade_most n p some h k = omega (arith, some)

late_most : (n : ℕ) (p : LatePhase) → late_steps p ≤ 219 * n + 200
late_most n LatePhase.Expires = omega arith
late_most n LatePhase.Quits = omega arith
late_most n LatePhase.Masks = omega arith
late_most n LatePhase.Leaves = omega arith
late_most n LatePhase.GivesUp = omega arith
late_most n (LatePhase.WasTaken by handed) = omega arith

quits_most : (n : ℕ) (o : Option Bool) → quits_steps n o ≤ 110 * n + 11
quits_most n None = omega arith
quits_most n (Some from) = omega arith

-- a call that sleeps has no more left than rounds
sleeper_most : (n : ℕ) (k : RwSleeper) → sleeper_rounds k ≤ 10 → (sleeper_asleep k ≡ true) × IsReadySleeper k
    → sleeper_steps n Unseen k ≤ 20
sleeper_most n k few (e, r) = by_sleeper (λ k. sleeper_rounds k ≤ 10 → sleeper_steps n Unseen k ≤ 20)
    (λ want b. omega arith) (λ rounds b. omega (arith, b)) (λ want i b. omega arith) (λ rounds b. omega (arith, b)) k r
    e few

late_rw_most : (n : ℕ) (p : LateRwPhase) → 1 ≤ n → late_rw_rounds p ≤ 10 → IsGoodLate p
    → late_rw_steps n Unseen p ≤ 219 * n + 200
late_rw_most n (LateRwPhase.Expires k) some few good =
    omega (arith, sleeper_most n k few good, quits_most n (pending_from k))
late_rw_most n (LateRwPhase.Quits k) some few good = omega (arith, quits_most n (pending_from k))
late_rw_most n (LateRwPhase.WasTaken k by handed) some few good = omega (arith, sleeper_most n k few good)
late_rw_most n p some few good = omega arith

pub core_most : (n x : ℕ) (c : Core) → IsGood c x → 1 ≤ n → FewRounds c → taken_count c ≤ n
    → core_steps n Unseen c ≤ 219 * n + 200
core_most n x (Core.Mutex c) good some h k = omega (arith, some, mutex_most c.phase h)
core_most n x (Core.Rw c) good some h k = rw_most n c.phase some h k
core_most n x (Core.Late p) good some h k = late_most n p
core_most n x (Core.LateRw p) good some h k = late_rw_most n p some h good
core_most n x (Core.Upgrade c) good some h k = upgrade_most n c.phase some h k

-- all of a list
pub sum_most : {X : Type 0} (f : X → ℕ) (m : ℕ) (xs : List X) → ((i : ℕ) (x : X) → slice_get xs i ≡ Some x → f x ≤ m)
    → sum_by f xs ≤ length xs * m
sum_most f m [] all = omega arith
sum_most f m (x ∷ xs) all =
    omega (arith, sum_by-cons f x xs, all 0 x refl, sum_most f m xs (λ i y at. all (suc i) y at), suc-mul (length xs) m)

module _ (s : State) (h : FitsTogether s) where
  -- a thread in a call is one of the threads, and has taken no more than there are
  some : (t : ℕ) (c : Call) → call_at s t ≡ Some c → 1 ≤ length s.calls
  some t c here = omega (arith, in_range s t c here)

  few : (t : ℕ) (c : Call) → call_at s t ≡ Some c → taken_count c.core ≤ length s.calls
  few t c here = (h.lots.counted t c here).few

  far_few : (t : ℕ) (c : Call) → call_at s t ≡ Some c → far_steps (length s.calls) (Some c) ≤ most_steps
      (length s.calls)
  far_few t c here = core_most (length s.calls) (word_at s c.lock) c.core (is_good s h t c here) (some t c here)
      (h.rules.begun t c here).few (few t c here)

  slot_few : (t : ℕ) (o : Option Call) → slice_get s.calls t ≡ Some o → far_steps (length s.calls) o ≤ most_steps
      (length s.calls)
  slot_few t None at = omega arith
  slot_few t (Some c) at = far_few t c (ap (λ x. option_and_then (λ o. o) x) at)

  pub steps_are_few : StepsAreFew s
  steps_are_few = record {
    each = λ t c here. omega (arith, none_more s h t (Some c) here, far_few t c here);
    all = λ t.
        omega (
          arith,
          others_and_one (length s.calls) s.calls t,
          none_more s h t (call_at s t) refl,
          sum_most (far_steps (length s.calls)) (most_steps (length s.calls)) s.calls slot_few,
        );
  }
