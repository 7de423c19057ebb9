-- What each act leaves of a call, and what its thread owns where it ends.
use Rattle.std.specs.Prelude.{ℕ, ◌+◌, ◌*◌, ◌==◌, Bool, true, false, if◌then◌else◌}
use Rattle.parking_lot_core_model.specs.declared.parking.UnparkToken.{UnparkToken}
use Rattle.parking_lot_protocol.specs.declared.act.ActResult.{ActResult}
use Rattle.parking_lot_protocol.specs.declared.act.CoreAnswer.TheVariants as answer
use Rattle.parking_lot_protocol.specs.declared.mutex_phase.MutexPhase.{MutexPhase}
use Rattle.parking_lot_protocol.specs.declared.mutex_phase.MutexPhase.TheVariants as m
use Rattle.parking_lot_protocol.specs.declared.rw_phase.RwPhase.{RwPhase}
use Rattle.parking_lot_protocol.specs.declared.rw_phase.RwPhase.TheVariants as r
use Rattle.parking_lot_protocol.specs.declared.rw_phase.AfterWake.{AfterWake}
use Rattle.parking_lot_protocol.specs.declared.rw_phase.AfterWake.TheVariants as rest
use Rattle.parking_lot_protocol.specs.declared.rw_phase.Outcome.{Outcome}
use Rattle.parking_lot_protocol.specs.declared.rw_phase.Outcome.TheVariants as outcome
use Rattle.parking_lot_protocol_rw.specs.declared.upgrade_phase.UpgradePhase.{UpgradePhase}
use Rattle.parking_lot_protocol_rw.specs.declared.upgrade_phase.UpgradePhase.TheVariants as u
use Rattle.parking_lot_protocol_rw.specs.declared.upgrade_phase.Hold as up
use Rattle.parking_lot_protocol_rw.specs.declared.upgrade_phase.Hold.TheVariants as up_hold
use Rattle.parking_lot_machine_calls.specs.declared.seat.Hold.{Hold}
use Rattle.parking_lot_machine_calls.specs.declared.seat.Hold.TheVariants as hold
use Rattle.parking_lot_machine_calls.specs.declared.seat.WakeResult.{WakeResult}
use Rattle.parking_lot_machine_calls.specs.declared.seat.WakeResult.TheVariants as told
use Rattle.parking_lot_machine_calls.specs.declared.seat.QueuePosition.{QueuePosition}
use Rattle.parking_lot_machine_calls.specs.declared.seat.QueuePosition.TheVariants as spot
use Rattle.parking_lot_machine_calls.specs.declared.seat.Core.{Core}
use Rattle.parking_lot_machine_calls.specs.declared.seat.Core.TheVariants as core
use Rattle.parking_lot_machine_calls.specs.declared.open_call.Call.{Call}
use Rattle.parking_lot_machine_calls.specs.Stances.{Doing, Joins, Stance, In, core_next}

-- a call is told what its act gave
abbrev pub hears : Call → ActResult → Call
hears c s = record c { core = core_next c.core s }

-- the lot's key: k is 0 for the lock's first, 1 for its second
abbrev pub key_of : Call → ℕ → ℕ
key_of c k = 2 * c.lock + k

-- whether it goes to sleep
abbrev pub does_join : Doing → Bool
does_join (Joins token) = true
does_join how = false

abbrev pub joins : Stance → Bool
joins (In key how) = does_join how
joins other = false

-- what sleepers are told by a token
abbrev pub told_of : UnparkToken → WakeResult
told_of token = if token.0 == 1 then told.HandedOver else told.TryAgain

-- a thread tells all whom it has taken and told nothing yet
abbrev pub settled_spot : ℕ → WakeResult → QueuePosition → QueuePosition
settled_spot t said spot.Listed = spot.Listed
settled_spot t said (spot.Off by told.Nothing) = spot.Off by (if by == t then said else told.Nothing)
settled_spot t said (spot.Off by told.TryAgain) = spot.Off by told.TryAgain
settled_spot t said (spot.Off by told.HandedOver) = spot.Off by told.HandedOver

abbrev pub settled : ℕ → WakeResult → Call → Call
settled t said c = record c { spot = settled_spot t said c.spot }

-- a sleeper is off its list, taken by a thread
abbrev pub off_list : ℕ → Call → Call
off_list t c = record c { spot = spot.Off t told.Nothing }

-- WHAT A THREAD OWNS WHERE ITS CALL ENDS

abbrev pub rest_hold : ℕ → AfterWake → Hold
rest_hold n rest.FreedShared = hold.Shares n
rest_hold n rest.FreedExclusive = hold.Shares 0
rest_hold n rest.Downgraded = hold.Shares 1
rest_hold n rest.AgainShared = hold.Shares n
rest_hold n rest.AgainExclusive = hold.Shares 0

abbrev pub outcome_hold : ℕ → Outcome → Hold
outcome_hold n outcome.Shared = hold.Shares (n + 1)
outcome_hold n outcome.Exclusive = hold.Excludes
outcome_hold n outcome.Downgraded = hold.Shares 1
outcome_hold n outcome.FreedShared = hold.Shares n
outcome_hold n outcome.FreedExclusive = hold.Shares 0

abbrev pub rw_hold_after : ℕ → RwPhase → Hold
rw_hold_after n (r.Finishes rest) = rest_hold n rest
rw_hold_after n (r.Ends outcome) = outcome_hold n outcome
rw_hold_after n phase = hold.Shares n

abbrev pub mutex_hold_after : MutexPhase → Hold
mutex_hold_after (m.Ends answer.Owned) = hold.Excludes
mutex_hold_after phase = hold.Shares 0

abbrev pub kept_hold : up.Hold → Hold
kept_hold up_hold.Nothing = hold.Shares 0
kept_hold up_hold.Shared = hold.Shares 1
kept_hold up_hold.Upgradable = hold.Upgrades
kept_hold up_hold.Exclusive = hold.Excludes

abbrev pub upgrade_hold_after : UpgradePhase → Hold
upgrade_hold_after (u.Drains core) = hold.Excludes
upgrade_hold_after (u.Owes kept answer core) = kept_hold kept
upgrade_hold_after (u.Ends kept answer) = kept_hold kept
upgrade_hold_after phase = hold.Shares 0

abbrev pub hold_after : ℕ → Core → Hold
hold_after n (core.Mutex c) = mutex_hold_after c.phase
hold_after n (core.Rw c) = rw_hold_after n c.phase
hold_after n (core.Late p) = hold.Shares 0
hold_after n (core.LateRw p) = hold.Shares 0
hold_after n (core.Upgrade c) = upgrade_hold_after c.phase
