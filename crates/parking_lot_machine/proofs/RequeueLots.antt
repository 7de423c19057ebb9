-- A thread that was in no call joins a mutex's list, as if it had asked for the mutex and gone to sleep: the lot
-- doesn't refuse it, and what fits of the lot still fits.
use Rattle.std.proofs.Common.{◌≡◌, ℕ, ◌<◌, Bool, false, cond, List, length, Option, Some, None, slice_set, refl, sym}
use Rattle.std.proofs.Common.{ap, ◌∙◌, subst, arith}
use Rattle.std.proofs.lemmas.List.{length-set}
use Rattle.parking_lot_core_model.specs.declared.parking.ParkToken.{ParkToken}
use Rattle.parking_lot_core_model.specs.declared.place.Phase.TheVariants as phase
use Rattle.parking_lot_core_model.specs.Machine.{in_phase}
use Rattle.parking_lot_protocol.specs.MutexTable.{begins}
use Rattle.parking_lot_protocol.specs.declared.act.ActResult.TheVariants as seen
use Rattle.parking_lot_protocol.specs.declared.mutex_phase.MutexPhase.{MutexPhase}
use Rattle.parking_lot_machine_calls.specs.declared.seat.Core.{Core}
use Rattle.parking_lot_machine_calls.specs.declared.seat.QueuePosition.{QueuePosition}
use Rattle.parking_lot_machine_calls.specs.declared.open_call.Call.{Call}
use Rattle.parking_lot_machine.specs.Requeues.{MayJoin, lock_ask, lot_with, retrying_call, roused_in, sleeping_call}
use Rattle.parking_lot_machine.specs.Requeues.{taken_in}
use Rattle.parking_lot_machine.specs.RowActs.{appended, entered, left, with_call, with_lot, with_word}
use Rattle.parking_lot_machine_calls.specs.CallActs.{hears, joins, key_of}
use Rattle.parking_lot_machine.specs.RowFits.{LotFits, SeatedIn, WakesSome}
use Rattle.parking_lot_machine.specs.Rows.{State, call_at, first_key, open_at}
use Rattle.parking_lot_machine_calls.specs.Stances.{stance}
use Rattle.parking_lot_machine.proofs.Acting.{word-here}
use Rattle.parking_lot_machine.proofs.Carrying.{Carries, carries_begun}
use Rattle.parking_lot_rules.proofs.Slots.{set_there}
use Rattle.parking_lot_machine.proofs.Indexing.{set_twice}
use Rattle.parking_lot_machine.proofs.LotActs.{quiet, same_parts, stays_out}
use Rattle.parking_lot_machine.proofs.LotCalls.{lot_never_refuses}
use Rattle.parking_lot_machine.proofs.LotKept.{acts_keep_fits}

-- one that is woken to try again
pub roused_lots : (s : State) (v lock : ℕ) (timed : Bool) → LotFits s → v < length s.calls → call_at s v ≡ None
    → LotFits (roused_in s v lock timed)
roused_lots s v lock timed h low alone =
    let d = retrying_call lock timed in
    quiet s v h low (Some d)
    (subst (λ (o : Option Call). Carries o (Some d)) (sym alone) (carries_begun d tt refl never))
    (subst (λ (o : Option Call). SeatedIn s.lot v o) alone (h.seated v low))
  where
    never : WakesSome (retrying_call lock timed).core
    never e = cc

module _ (s : State) (v lock : ℕ) (timed : Bool) (h : LotFits s) (low : v < length s.calls) (alone : call_at s v ≡ None)
    (within : lock < length s.words) (free : open_at s (first_key lock) ≡ None) where
  abbrev parked : ParkToken
  parked = record { 0 = 0 }

  abbrev call_in : MutexPhase → Call
  call_in p = record {
    lock = lock;
    others = 0;
    core = Core.Mutex (record { phase = p });
    spot = QueuePosition.Listed;
    asked = lock_ask timed;
  }

  -- the word says that it is to sleep
  abbrev s0 : State
  s0 = with_word s lock 3

  abbrev s1 : State
  s1 = with_call s0 v (call_in (MutexPhase.Loads (begins false)))

  abbrev s2 : State
  s2 = with_call s1 v (call_in (MutexPhase.Enters false))

  abbrev s3 : State
  s3 = entered s2 v (call_in (MutexPhase.Enters false)) 0

  abbrev s4 : State
  s4 = with_lot (with_call s3 v (call_in MutexPhase.Appends))
      (in_phase s3.lot (key_of (call_in (MutexPhase.Checks false)) 0) phase.Valid)

  abbrev s5 : State
  s5 = appended s4 v (call_in MutexPhase.Appends) (key_of (call_in MutexPhase.Appends) 0) parked

  abbrev s6 : State
  s6 = left s5 v (call_in MutexPhase.Rests)

  same_key : key_of (call_in MutexPhase.Appends) 0 ≡ first_key lock
  same_key = omega arith

  set_in : (calls : List (Option Call)) (c d : Call) → v < length calls → v < length (slice_set calls v (Some c))
  set_in calls c d b = subst (λ n. v < n) (sym (length-set calls v (Some c))) b

  low1 : v < length s1.calls
  low1 = set_in s.calls _ (call_in MutexPhase.Rests) low

  low2 : v < length s2.calls
  low2 = set_in s1.calls _ (call_in MutexPhase.Rests) low1

  low3 : v < length s3.calls
  low3 = set_in s2.calls _ (call_in MutexPhase.Rests) low2

  low4 : v < length s4.calls
  low4 = set_in s3.calls _ (call_in MutexPhase.Rests) low3

  h1 : LotFits s1
  h1 = acts_keep_fits.begins s0 v (call_in MutexPhase.Locking) (same_parts s s0 refl refl refl h) low alone

  h2 : LotFits s2
  h2 = stays_out s1 v (call_in (MutexPhase.Loads (begins false))) (seen.Word 3) h1 (set_there s.calls v _ low)
      (refl, refl, refl)

  here2 : call_at s2 v ≡ Some (call_in (MutexPhase.Enters false))
  here2 = set_there s1.calls v _ low1

  h3 : LotFits s3
  h3 = acts_keep_fits.enters s2 v (call_in (MutexPhase.Enters false)) 0 (ap (open_at s) same_key ∙ free) h2 here2 refl

  here3 : call_at s3 v ≡ Some (call_in (MutexPhase.Checks false))
  here3 = set_there s2.calls v _ low2

  abbrev checked_at : ℕ → State
  checked_at w = let c = hears (call_in (MutexPhase.Checks false)) (seen.Word w) in
      with_lot (with_call s3 v c) (in_phase s3.lot (key_of (call_in (MutexPhase.Checks false)) 0)
      (cond (joins (stance c.core)) phase.Valid
      phase.Invalid))

  h4 : LotFits s4
  h4 = subst (λ w. LotFits (checked_at w)) (word-here s.words lock 3 within)
      (acts_keep_fits.checks s3 v (call_in (MutexPhase.Checks false)) h3 here3 refl)

  here4 : call_at s4 v ≡ Some (call_in MutexPhase.Appends)
  here4 = set_there s3.calls v _ low3

  h5 : LotFits s5
  h5 = acts_keep_fits.appends s4 v (call_in MutexPhase.Appends) 0 parked refl h4 here4 refl

  here5 : call_at s5 v ≡ Some (call_in MutexPhase.Rests)
  here5 = set_there s4.calls v _ low4

  h6 : LotFits s6
  h6 = acts_keep_fits.leaves s5 v (call_in MutexPhase.Rests) h5 here5 refl

  same_calls : slice_set s.calls v (Some (sleeping_call lock timed)) ≡ s6.calls
  same_calls =
      sym (set_twice s4.calls v _ _ ∙ set_twice s3.calls v _ _ ∙ set_twice s2.calls v _ _ ∙ set_twice s1.calls v _ _
      ∙ set_twice s.calls v _ _)

  pub taken_lots : LotFits (taken_in s v lock timed)
  taken_lots = same_parts s6 (taken_in s v lock timed) same_calls refl (ap (lot_with s.lot v) (sym same_key)) h6

  pub may_join : MayJoin s.lot v (first_key lock)
  may_join = subst (MayJoin s.lot v) same_key (record {
    enters = lot_never_refuses.enters s2 v (call_in (MutexPhase.Enters false)) 0 (h2, here2, refl)
        (ap (open_at s) same_key ∙ free);
    checks = lot_never_refuses.checks s3 v (call_in (MutexPhase.Checks false)) (h3, here3, refl);
    joins = lot_never_refuses.appends s4 v (call_in MutexPhase.Appends) parked (h4, here4, refl);
    leaves = lot_never_refuses.leaves s5 v (call_in MutexPhase.Rests) (h5, here5, refl);
  })
