-- A try that hasn't won its lock.
use Rattle.std.proofs.Common.{◌≡◌, ℕ, inl, inr, ◌||◌, Bool, true, false, refl, sym, ap, ◌∙◌}
use Rattle.parking_lot_protocol.specs.declared.rw_phase.RwPhase.{RwPhase}
use Rattle.parking_lot_machine_calls.specs.Calls.{is_timed}
use Rattle.parking_lot_machine_calls.specs.declared.calls.LockCall.{LockCall}
use Rattle.parking_lot_machine_calls.specs.declared.seat.Core.{Core}
use Rattle.parking_lot_machine.specs.CallLaws.Answers.{EndsAt, MayStand}
use Rattle.parking_lot_machine.specs.CallLaws.Stages as stage
use Rattle.parking_lot_machine.specs.CallLaws.Stages.{Over, Stage, core_stage, quits, rw_stage, stage_of}
use Rattle.parking_lot_protocol.specs.declared.act.CoreAnswer.TheVariants.{Owned, Refused, Released}
use Rattle.mapworld_state.specs.Locks.Aims.{Gets, aim_of}
use Rattle.mapworld_state.specs.Locks.Stands.{is_of_shards, is_try}

abbrev pub is_trying : RwPhase → Bool
is_trying (RwPhase.Trying want) = true
is_trying (RwPhase.TryLoads want) = true
is_trying (RwPhase.TryAdmits want word left) = true
is_trying (RwPhase.Refuses want) = true
is_trying other = false

abbrev pub core_tries : Core → Bool
core_tries (Core.Rw c) = is_trying c.phase
core_tries other = false

-- the call tries there, or is refused
abbrev is_doubtful : Stage → Bool
is_doubtful (stage.Tries mode from) = true
is_doubtful (Over Refused hold) = true
is_doubtful other = false

doubtful_phase : (n : ℕ) (p : RwPhase) → is_trying p ≡ true → is_doubtful (rw_stage n p) ≡ true
doubtful_phase n (RwPhase.Trying want) e = refl
doubtful_phase n (RwPhase.TryLoads want) e = refl
doubtful_phase n (RwPhase.TryAdmits want word left) e = refl
doubtful_phase n (RwPhase.Refuses want) e = refl
doubtful_phase n p e = absurd cc

doubtful : (n : ℕ) (k : Core) → core_tries k ≡ true → is_doubtful (core_stage n k) ≡ true
doubtful n (Core.Rw c) e = doubtful_phase n c.phase e
doubtful n k e = absurd cc

-- a call that may be refused was asked as a try, or with a deadline
start_tries : (asked : LockCall) → is_of_shards asked ≡ true → is_doubtful (stage_of asked) ≡ true
    → (is_try asked || is_timed asked) ≡ true
start_tries LockCall.TryRead is e = refl
start_tries LockCall.TryWrite is e = refl
start_tries asked is e = absurd cc

quits_tries : (asked : LockCall) → is_of_shards asked ≡ true → is_doubtful (quits (stage_of asked)) ≡ true
    → (is_try asked || is_timed asked) ≡ true
quits_tries LockCall.TryRead is e = refl
quits_tries LockCall.TryWrite is e = refl
quits_tries asked is e = absurd cc

ends_tries : (asked : LockCall) → is_of_shards asked ≡ true → (at : Stage)
    → EndsAt 0 (stage_of asked) (is_timed asked) at → is_doubtful at ≡ true → (is_try asked || is_timed asked) ≡ true
ends_tries LockCall.Read is (Over Refused h) (may, held) e = may
ends_tries LockCall.ReadUntil is (Over Refused h) (may, held) e = refl
ends_tries LockCall.TryRead is (Over Refused h) (may, held) e = refl
ends_tries LockCall.Write is (Over Refused h) (may, held) e = may
ends_tries LockCall.WriteUntil is (Over Refused h) (may, held) e = refl
ends_tries LockCall.TryWrite is (Over Refused h) (may, held) e = refl
ends_tries asked is (Over Refused h) (may, held) e = absurd cc
ends_tries asked is (Over Owned h) ends e = absurd cc
ends_tries asked is (Over Released h) ends e = absurd cc
ends_tries asked is at ends e = absurd ends

pub tries_by : (asked : LockCall) → is_of_shards asked ≡ true → (k : Core)
    → MayStand 0 (stage_of asked) (is_timed asked) (core_stage 0 k) → core_tries k ≡ true
    → (is_try asked || is_timed asked) ≡ true
tries_by asked is k (inl e) tries = start_tries asked is (ap is_doubtful (sym e) ∙ doubtful 0 k tries)
tries_by asked is k (inr (inl (came, e))) tries = quits_tries asked is (ap is_doubtful (sym e) ∙ doubtful 0 k tries)
tries_by asked is k (inr (inr ends)) tries = ends_tries asked is (core_stage 0 k) ends (doubtful 0 k tries)

-- and is to get the lock
pub tries_get : (asked : LockCall) → is_of_shards asked ≡ true → (is_try asked || is_timed asked) ≡ true
    → (m : _) × (aim_of asked ≡ Gets m)
tries_get LockCall.TryRead is e = (_, refl)
tries_get LockCall.ReadUntil is e = (_, refl)
tries_get LockCall.WriteUntil is e = (_, refl)
tries_get LockCall.TryWrite is e = (_, refl)
tries_get asked is e = absurd cc
