-- How a call goes on whose moment passes as it sleeps.
use Rattle.std.specs.Prelude.{ℕ, Bool, true, false}
use Rattle.parking_lot_rules.specs.Classes.{bit}
use Rattle.parking_lot_protocol.specs.declared.mutex_phase.MutexPhase.{MutexPhase}
use Rattle.parking_lot_protocol.specs.declared.mutex_phase.MutexPhase.TheVariants as m
use Rattle.parking_lot_machine_calls.specs.declared.seat.LatePhase.{LatePhase}
use Rattle.parking_lot_machine_calls.specs.declared.seat.LatePhase.TheVariants as late
use Rattle.parking_lot_machine_calls.specs.declared.late_rw.LateRwPhase.{LateRwPhase}
use Rattle.parking_lot_machine_calls.specs.declared.late_rw.LateRwPhase.TheVariants as late_rw
use Rattle.parking_lot_machine_calls.specs.declared.late_rw.RwSleeper.TheVariants as sleeper
use Rattle.parking_lot_machine_calls.specs.declared.seat.Core.{Core}
use Rattle.parking_lot_machine_calls.specs.declared.seat.Core.TheVariants as core
use Rattle.parking_lot_machine_calls.specs.declared.open_call.Call.{Call}
use Rattle.parking_lot_machine_calls.specs.declared.seat.WakeResult.{WakeResult}
use Rattle.parking_lot_machine_calls.specs.declared.seat.WakeResult.TheVariants as told
use Rattle.parking_lot_machine_calls.specs.Stances.{late_rw_pending, rw_asleep, upgrade_asleep}
use Rattle.parking_lot_machine_calls.specs.CallActs.{key_of}

-- a core whose moment passes as it sleeps
abbrev pub late_of : Core → Core
late_of (core.Mutex k) = core.Late late.Expires
late_of (core.Rw k) = core.LateRw (late_rw.Expires (sleeper.Simple k))
late_of (core.Upgrade k) = core.LateRw (late_rw.Expires (sleeper.Upgradable k))
late_of k = k

-- it sleeps, and its moment hasn't passed
abbrev pub is_sleeping : MutexPhase → Bool
is_sleeping m.Sleeps = true
is_sleeping p = false

abbrev pub sleeps_in_time : Core → Bool
sleeps_in_time (core.Mutex k) = is_sleeping k.phase
sleeps_in_time (core.Rw k) = rw_asleep k.phase
sleeps_in_time (core.Upgrade k) = upgrade_asleep k.phase
sleeps_in_time k = false

-- its moment has passed, and it is to come back into the section of its list
abbrev pub late_comes : LatePhase → Bool
late_comes late.Expires = true
late_comes p = false

abbrev pub late_rw_comes : LateRwPhase → Bool
late_rw_comes (late_rw.Expires k) = true
late_rw_comes p = false

abbrev pub comes_late : Core → Bool
comes_late (core.Late p) = late_comes p
comes_late (core.LateRw p) = late_rw_comes p
comes_late k = false

-- or is back there, to take itself out
abbrev pub late_is_back : LatePhase → Bool
late_is_back late.Quits = true
late_is_back p = false

abbrev pub late_rw_is_back : LateRwPhase → Bool
late_rw_is_back (late_rw.Quits k) = true
late_rw_is_back p = false

abbrev pub is_back : Core → Bool
is_back (core.Late p) = late_is_back p
is_back (core.LateRw p) = late_rw_is_back p
is_back k = false

-- which list is its own: the lock's first, or as a pending writer the second
abbrev pub is_pending : Core → Bool
is_pending (core.LateRw p) = late_rw_pending p
is_pending k = false

abbrev pub late_key : Call → ℕ
late_key c = key_of c (bit (is_pending c.core))

abbrev pub is_handed : WakeResult → Bool
is_handed told.Nothing = false
is_handed told.TryAgain = false
is_handed told.HandedOver = true

abbrev pub found_as : ℕ → Bool → Core → Core
found_as by handed (core.Late p) = core.Late (late.WasTaken by handed)
found_as by handed (core.LateRw (late_rw.Expires k)) = core.LateRw (late_rw.WasTaken k by handed)
found_as by handed k = k
