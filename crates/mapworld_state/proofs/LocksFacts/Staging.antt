-- What a call holds and is answered, by what it was asked and where it stands.
use Rattle.std.proofs.Common.{◌≡◌, ℕ, inl, inr, ◌||◌, Bool, true, false, Option, Some, None, refl, sym, ap}
use Rattle.std.proofs.Common.{◌∙◌, subst}
use Rattle.std.proofs.lemmas.Bool.{false≢true}
use Rattle.lock_api_desk.specs.declared.mode.Mode.{Mode}
use Rattle.lock_api_desk.specs.declared.mode.Mode.TheVariants as held
use Rattle.parking_lot_protocol.specs.declared.act.CoreAnswer.{CoreAnswer}
use Rattle.parking_lot_protocol.specs.declared.act.CoreAnswer.TheVariants.{Owned, Refused, Released}
use Rattle.parking_lot_core_model.specs.declared.parking.ParkToken.{ParkToken}
use Rattle.parking_lot_protocol.specs.declared.mutex_phase.MutexPhase.{MutexPhase}
use Rattle.parking_lot_protocol.specs.declared.rw_phase.RwPhase.{RwPhase}
use Rattle.parking_lot_machine_calls.specs.CallViews.{hold_mode}
use Rattle.parking_lot_machine_calls.specs.declared.calls.LockCall.{LockCall}
use Rattle.parking_lot_machine_calls.specs.declared.calls.LockKind.TheVariants as kind
use Rattle.parking_lot_machine_calls.specs.Stances.{Asleep, late_rw_stance, late_stance, lying, mutex_stance}
use Rattle.parking_lot_machine_calls.specs.Stances.{rw_stance, sleeper_stance, stance, upgrade_stance}
use Rattle.parking_lot_machine_calls.specs.declared.late_rw.LateRwPhase.{LateRwPhase}
use Rattle.parking_lot_machine_calls.specs.declared.late_rw.RwSleeper.{RwSleeper}
use Rattle.parking_lot_protocol_rw.specs.UpgradeRules.{IsReady}
use Rattle.parking_lot_protocol_rw.specs.declared.upgrade_phase.Hold.{Hold as Kept}
use Rattle.parking_lot_protocol_rw.specs.declared.upgrade_phase.UpgradePhase.{UpgradePhase}
use Rattle.parking_lot_machine.specs.RowFits.{IsPrepared}
use Rattle.mapworld_state.proofs.LocksFacts.Giving.{back_up, found_up, owing_up}
use Rattle.parking_lot_machine_calls.specs.declared.seat.Core.{Core}
use Rattle.parking_lot_machine_calls.specs.declared.seat.Hold.{Hold}
use Rattle.parking_lot_machine_calls.specs.declared.seat.LatePhase.{LatePhase}
use Rattle.parking_lot_machine.specs.CallLaws.Answers.{EndsAt, MayStand, hold_end, may_end}
use Rattle.parking_lot_machine.specs.CallLaws.Stages as stage
use Rattle.parking_lot_machine.specs.CallLaws.Stages.{Over, Stage, core_stage, late_rw_stage, late_stage, mutex_stage}
use Rattle.parking_lot_machine.specs.CallLaws.Stages.{quits, rw_stage, stage_of, upgrade_stage}
use Rattle.mapworld_state.specs.Locks.Aims.{Aim, Gets, GivesUp, Turns, aim_of, is_within}
use Rattle.mapworld_state.specs.Locks.Fits.{is_plain, is_single, late_plainly, yields_plainly}
use Rattle.mapworld_state.specs.Locks.Stands.{is_of_shards, is_try}
use Rattle.mapworld_state.specs.Locks.Views.{held_as}
use Rattle.mapworld_state.proofs.LocksFacts.Within.{WithinAt}

-- how a hold is seen
abbrev shown : Hold → Option Mode
shown h = held_as (hold_mode (Some kind.Rw) h)

-- WITHIN A CALL

start_within : (asked : LockCall) → is_of_shards asked ≡ true → (o : Option Mode) → WithinAt (stage_of asked) o
    → is_within (aim_of asked) o ≡ true
start_within LockCall.Read is o w = w
start_within LockCall.ReadUntil is o w = w
start_within LockCall.TryRead is o w = w
start_within LockCall.UnlockRead is o w = w
start_within LockCall.Write is o w = w
start_within LockCall.WriteUntil is o w = w
start_within LockCall.TryWrite is o w = w
start_within LockCall.UnlockWrite is o w = w
start_within LockCall.Downgrade is o w = w
start_within asked is o w = absurd cc

quits_within : (asked : LockCall) → is_of_shards asked ≡ true → (o : Option Mode) → WithinAt (quits (stage_of asked)) o
    → is_within (aim_of asked) o ≡ true
quits_within LockCall.Read is o w = w
quits_within LockCall.ReadUntil is o w = w
quits_within LockCall.TryRead is o w = w
quits_within LockCall.UnlockRead is o w = w
quits_within LockCall.Write is o w = w
quits_within LockCall.WriteUntil is o w = w
quits_within LockCall.TryWrite is o w = w
quits_within LockCall.UnlockWrite is o w = w
quits_within LockCall.Downgrade is o w = w
quits_within asked is o w = absurd cc

end_within : (asked : LockCall) → is_of_shards asked ≡ true → (answer : CoreAnswer)
    → is_within (aim_of asked) (shown (hold_end 0 (stage_of asked) answer)) ≡ true
end_within LockCall.Read is Owned = refl
end_within LockCall.Read is Refused = refl
end_within LockCall.Read is Released = refl
end_within LockCall.ReadUntil is Owned = refl
end_within LockCall.ReadUntil is Refused = refl
end_within LockCall.ReadUntil is Released = refl
end_within LockCall.TryRead is Owned = refl
end_within LockCall.TryRead is Refused = refl
end_within LockCall.TryRead is Released = refl
end_within LockCall.UnlockRead is answer = refl
end_within LockCall.Write is Owned = refl
end_within LockCall.Write is Refused = refl
end_within LockCall.Write is Released = refl
end_within LockCall.WriteUntil is Owned = refl
end_within LockCall.WriteUntil is Refused = refl
end_within LockCall.WriteUntil is Released = refl
end_within LockCall.TryWrite is Owned = refl
end_within LockCall.TryWrite is Refused = refl
end_within LockCall.TryWrite is Released = refl
end_within LockCall.UnlockWrite is answer = refl
end_within LockCall.Downgrade is answer = refl
end_within asked is answer = absurd cc

ends_within : (asked : LockCall) → is_of_shards asked ≡ true → (late : Bool) (at : Stage) (o : Option Mode)
    → EndsAt 0 (stage_of asked) late at → WithinAt at o → is_within (aim_of asked) o ≡ true
ends_within asked is late (Over answer h) o (may, e) w = ap (is_within (aim_of asked)) (w ∙ ap shown e)
    ∙ end_within asked is answer
ends_within asked is late at o ends w = absurd ends

-- a call that was asked so holds no more than it is about, wherever it may stand
pub asked_within : (asked : LockCall) → is_of_shards asked ≡ true → (late : Bool) (at : Stage) (o : Option Mode)
    → MayStand 0 (stage_of asked) late at → WithinAt at o → is_within (aim_of asked) o ≡ true
asked_within asked is late at o (inl e) w = start_within asked is o (subst (λ a. WithinAt a o) e w)
asked_within asked is late at o (inr (inl (came, e))) w = quits_within asked is o (subst (λ a. WithinAt a o) e w)
asked_within asked is late at o (inr (inr ends)) w = ends_within asked is late at o ends w

-- AT ITS END

-- A call with that aim, a try or not, with a deadline or without one, is answered so, and its thread holds so. A
-- pending writer that gives up behind its deadline gives its bit back, and so is answered as one that gives a hold up.
abbrev pub EndsSo : Aim → Bool → Bool → CoreAnswer → Option Mode → Type 0
EndsSo (Gets m) tries timed Owned o = o ≡ Some m
EndsSo (Gets m) tries timed Refused o = ((tries || timed) ≡ true) × (o ≡ None)
EndsSo (Gets m) tries timed Released o = (timed ≡ true) × (o ≡ None)
EndsSo (GivesUp m) tries timed answer o = o ≡ None
EndsSo Turns tries timed answer o = o ≡ Some held.Shared

pub ends_as : (asked : LockCall) → is_of_shards asked ≡ true → (late : Bool) (answer : CoreAnswer)
    → may_end (stage_of asked) late answer ≡ true
    → EndsSo (aim_of asked) (is_try asked) late answer (shown (hold_end 0 (stage_of asked) answer))
ends_as LockCall.Read is late Owned may = refl
ends_as LockCall.Read is late Refused may = (may, refl)
ends_as LockCall.Read is late Released may = (may, refl)
ends_as LockCall.ReadUntil is late Owned may = refl
ends_as LockCall.ReadUntil is late Refused may = (may, refl)
ends_as LockCall.ReadUntil is late Released may = (may, refl)
ends_as LockCall.TryRead is late Owned may = refl
ends_as LockCall.TryRead is late Refused may = (refl, refl)
ends_as LockCall.TryRead is late Released may = absurd (false≢true may)
ends_as LockCall.UnlockRead is late answer may = refl
ends_as LockCall.Write is late Owned may = refl
ends_as LockCall.Write is late Refused may = (may, refl)
ends_as LockCall.Write is late Released may = (may, refl)
ends_as LockCall.WriteUntil is late Owned may = refl
ends_as LockCall.WriteUntil is late Refused may = (may, refl)
ends_as LockCall.WriteUntil is late Released may = (may, refl)
ends_as LockCall.TryWrite is late Owned may = refl
ends_as LockCall.TryWrite is late Refused may = (refl, refl)
ends_as LockCall.TryWrite is late Released may = absurd (false≢true may)
ends_as LockCall.UnlockWrite is late answer may = refl
ends_as LockCall.Downgrade is late answer may = refl
ends_as asked is late answer may = absurd cc

-- and has the lock once at most
pub ends_single : (asked : LockCall) → is_of_shards asked ≡ true → (answer : CoreAnswer)
    → is_single (hold_end 0 (stage_of asked) answer) ≡ true
ends_single LockCall.Read is Owned = refl
ends_single LockCall.Read is Refused = refl
ends_single LockCall.Read is Released = refl
ends_single LockCall.ReadUntil is Owned = refl
ends_single LockCall.ReadUntil is Refused = refl
ends_single LockCall.ReadUntil is Released = refl
ends_single LockCall.TryRead is Owned = refl
ends_single LockCall.TryRead is Refused = refl
ends_single LockCall.TryRead is Released = refl
ends_single LockCall.UnlockRead is answer = refl
ends_single LockCall.Write is Owned = refl
ends_single LockCall.Write is Refused = refl
ends_single LockCall.Write is Released = refl
ends_single LockCall.WriteUntil is Owned = refl
ends_single LockCall.WriteUntil is Refused = refl
ends_single LockCall.WriteUntil is Released = refl
ends_single LockCall.TryWrite is Owned = refl
ends_single LockCall.TryWrite is Refused = refl
ends_single LockCall.TryWrite is Released = refl
ends_single LockCall.UnlockWrite is answer = refl
ends_single LockCall.Downgrade is answer = refl
ends_single asked is answer = absurd cc

-- WHO SLEEPS

-- the call asks still
abbrev pub is_asking : Stage → Bool
is_asking (stage.Asks mode from) = true
is_asking (stage.Quits mode from) = true
is_asking other = false

-- a call that asks still, where it may stand so, is to get the lock
asking_so : (asked : LockCall) → is_of_shards asked ≡ true → is_asking (stage_of asked) ≡ true
    → (mode : Mode) × (aim_of asked ≡ Gets mode)
asking_so LockCall.Read is asks = (held.Shared, refl)
asking_so LockCall.ReadUntil is asks = (held.Shared, refl)
asking_so LockCall.Write is asks = (held.Exclusive, refl)
asking_so LockCall.WriteUntil is asks = (held.Exclusive, refl)
asking_so asked is asks = absurd cc

still_asking : (start at : Stage) (late : Bool) → MayStand 0 start late at → is_asking at ≡ true
    → is_asking start ≡ true
still_asking start at late (inl e) asks = ap is_asking (sym e) ∙ asks
still_asking start at late (inr (inl (came, e))) asks = before start (ap is_asking (sym e) ∙ asks)
  where
    before : (a : Stage) → is_asking (quits a) ≡ true → is_asking a ≡ true
    before (stage.Asks mode from) e = refl
    before (stage.Quits mode from) e = refl
    before a e = absurd cc
still_asking start (Over answer h) late (inr (inr ends)) asks = absurd cc
still_asking start at late (inr (inr ends)) asks = absurd ends

pub asking_gets : (asked : LockCall) → is_of_shards asked ≡ true → (at : Stage) (late : Bool)
    → MayStand 0 (stage_of asked) late at → is_asking at ≡ true → (mode : Mode) × (aim_of asked ≡ Gets mode)
asking_gets asked is at late stands asks = asking_so asked is (still_asking (stage_of asked) at late stands asks)

-- and comes to hold it only so
only_so : (asked : LockCall) → is_of_shards asked ≡ true → is_asking (stage_of asked) ≡ true → (m : Mode)
    → is_within (aim_of asked) (Some m) ≡ true → aim_of asked ≡ Gets m
only_so LockCall.Read is asks held.Shared w = refl
only_so LockCall.Read is asks held.Exclusive w = absurd cc
only_so LockCall.Read is asks held.Upgradable w = absurd cc
only_so LockCall.ReadUntil is asks held.Shared w = refl
only_so LockCall.ReadUntil is asks held.Exclusive w = absurd cc
only_so LockCall.ReadUntil is asks held.Upgradable w = absurd cc
only_so LockCall.Write is asks held.Shared w = absurd cc
only_so LockCall.Write is asks held.Exclusive w = refl
only_so LockCall.Write is asks held.Upgradable w = absurd cc
only_so LockCall.WriteUntil is asks held.Shared w = absurd cc
only_so LockCall.WriteUntil is asks held.Exclusive w = refl
only_so LockCall.WriteUntil is asks held.Upgradable w = absurd cc
only_so asked is asks m w = absurd cc

pub asking_only : (asked : LockCall) → is_of_shards asked ≡ true → (at : Stage) (late : Bool)
    → MayStand 0 (stage_of asked) late at → is_asking at ≡ true → (m : Mode)
    → is_within (aim_of asked) (Some m) ≡ true → aim_of asked ≡ Gets m
asking_only asked is at late stands asks m w = only_so asked is (still_asking (stage_of asked) at late stands asks) m w

-- who sleeps asks
rw_asks : (n : ℕ) (p : RwPhase) (key : ℕ) (token : ParkToken) → rw_stance p ≡ Asleep key token
    → is_asking (rw_stage n p) ≡ true
rw_asks n (RwPhase.Sleeps want) key token e = refl
rw_asks n (RwPhase.DrainSleeps rounds) key token e = refl
rw_asks n p key token e = absurd cc

mutex_asks : (n : ℕ) (p : MutexPhase) (key : ℕ) (token : ParkToken) → mutex_stance p ≡ Asleep key token
    → is_asking (mutex_stage n p) ≡ true
mutex_asks n MutexPhase.Sleeps key token e = refl
mutex_asks n p key token e = absurd cc

late_asks : (n : ℕ) (p : LatePhase) (key : ℕ) (token : ParkToken) → late_stance p ≡ Asleep key token
    → is_asking (late_stage n p) ≡ true
late_asks n LatePhase.Expires key token e = refl
late_asks n p key token e = absurd cc

-- whether its deadline has come or hasn't
tardy_asks : (n : ℕ) (p : RwPhase) (key : ℕ) (token : ParkToken) → lying (rw_stance p) ≡ Asleep key token
    → is_asking (quits (rw_stage n p)) ≡ true
tardy_asks n (RwPhase.Sleeps want) key token e = refl
tardy_asks n (RwPhase.DrainSleeps rounds) key token e = refl
tardy_asks n p key token e = absurd cc

late_rw_asks : (n : ℕ) (p : LateRwPhase) (key : ℕ) (token : ParkToken) → late_plainly p ≡ true
    → late_rw_stance p ≡ Asleep key token → is_asking (late_rw_stage n p) ≡ true
late_rw_asks n (LateRwPhase.Expires (RwSleeper.Simple k)) key token so e = tardy_asks n k.phase key token e
late_rw_asks n (LateRwPhase.Quits k) key token so e = absurd (back_up (sleeper_stance k) key token e)
late_rw_asks n (LateRwPhase.WasTaken k by handed) key token so e = absurd (found_up (sleeper_stance k) key token e)
late_rw_asks n p key token so e = absurd cc

yields_asks : (n : ℕ) (p : UpgradePhase) (key : ℕ) (token : ParkToken) → yields_plainly p ≡ true → IsReady p
    → upgrade_stance p ≡ Asleep key token → is_asking (upgrade_stage n p) ≡ true
yields_asks n (UpgradePhase.Owes Kept.Nothing answer core) key token so ready e =
    absurd (owing_up core.phase key token ready e)
yields_asks n p key token so ready e = absurd cc

pub sleeper_asks : (timed recursive : Bool) (n : ℕ) (k : Core) (key : ℕ) (token : ParkToken)
    → is_plain timed k ≡ true → IsPrepared recursive n k → stance k ≡ Asleep key token
    → is_asking (core_stage n k) ≡ true
sleeper_asks timed recursive n (Core.Rw c) key token so ready e = rw_asks n c.phase key token e
sleeper_asks timed recursive n (Core.Mutex c) key token so ready e = mutex_asks n c.phase key token e
sleeper_asks timed recursive n (Core.Late p) key token so ready e = late_asks n p key token e
sleeper_asks true recursive n (Core.LateRw p) key token so ready e = late_rw_asks n p key token so e
sleeper_asks true recursive n (Core.Upgrade c) key token so ready e = yields_asks n c.phase key token so ready.1 e
sleeper_asks false recursive n k key token so ready e = absurd cc
