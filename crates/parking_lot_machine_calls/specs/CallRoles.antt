-- What a thread is to a lock of the rules, by what it owns and by the call that it is in.
use Rattle.std.specs.Prelude.{ℕ, Bool, true, false, List, [], ◌∷◌}
use Rattle.parking_lot_rules.specs.Roles.{Owned, Shares, Excludes, Upgrades, Mark, Open, Normal, Handed, Late, Back}
use Rattle.parking_lot_rules.specs.Roles.{Role, away}
use Rattle.parking_lot_rules.specs.Mutex as mutex
use Rattle.parking_lot_protocol.specs.MutexRules as of_mutex
use Rattle.parking_lot_protocol.specs.declared.mutex_phase.MutexPhase.{MutexPhase}
use Rattle.parking_lot_protocol.specs.declared.mutex_phase.MutexPhase.TheVariants as m
use Rattle.parking_lot_protocol.specs.RwRules as of_rw
use Rattle.parking_lot_protocol_rw.specs.UpgradeRoles as of_upgrade
use Rattle.parking_lot_machine_calls.specs.declared.seat.Hold.{Hold}
use Rattle.parking_lot_machine_calls.specs.declared.seat.Hold.TheVariants as hold
use Rattle.parking_lot_machine_calls.specs.declared.seat.WakeResult.{WakeResult}
use Rattle.parking_lot_machine_calls.specs.declared.seat.WakeResult.TheVariants as told
use Rattle.parking_lot_machine_calls.specs.declared.seat.QueuePosition.{QueuePosition}
use Rattle.parking_lot_machine_calls.specs.declared.seat.QueuePosition.TheVariants as spot
use Rattle.parking_lot_machine_calls.specs.declared.seat.LatePhase.{LatePhase}
use Rattle.parking_lot_machine_calls.specs.declared.seat.LatePhase.TheVariants as late
use Rattle.parking_lot_machine_calls.specs.declared.seat.Core.{Core}
use Rattle.parking_lot_machine_calls.specs.declared.seat.Core.TheVariants as core
use Rattle.parking_lot_machine_calls.specs.LateRoles.{late_rw_role}

-- WHAT IT OWNS, AND WHERE IT WAITS

abbrev pub owned_of : Hold → Owned
owned_of (hold.Shares n) = Shares n
owned_of hold.Excludes = Excludes
owned_of hold.Upgrades = Upgrades

abbrev pub owns_mutex : Hold → Bool
owns_mutex (hold.Shares n) = false
owns_mutex hold.Excludes = true
owns_mutex hold.Upgrades = false

abbrev pub mark_of : WakeResult → Mark
mark_of told.Nothing = Open
mark_of told.TryAgain = Normal
mark_of told.HandedOver = Handed

abbrev pub rw_spot : QueuePosition → of_rw.QueuePosition
rw_spot spot.Listed = of_rw.Listed
rw_spot (spot.Off by t) = of_rw.Off by (mark_of t)

abbrev pub mutex_spot : QueuePosition → of_mutex.QueuePosition
mutex_spot spot.Listed = of_mutex.Listed
mutex_spot (spot.Off by t) = of_mutex.Off by (mark_of t)

-- the first of a list, where there is one
abbrev pub first_of_all : List ℕ → ℕ
first_of_all [] = 0
first_of_all (v ∷ us) = v

-- what one is to a mutex that has taken those and is still to wake them: where they have gone on by themselves it has
-- nobody to wake
abbrev pub mutex_does : of_mutex.QueuePosition → List ℕ → MutexPhase → mutex.Phase
mutex_does at us (m.Wakes giving) = mutex.Wakes us
mutex_does at us phase = of_mutex.does at (first_of_all us) phase

abbrev pub mutex_role : of_mutex.QueuePosition → List ℕ → MutexPhase → mutex.Role
mutex_role at us p = record { owns = of_mutex.owns p; does = mutex_does at us p }

-- a core that isn't of the lock's kind is in no role
abbrev pub rw_core_role : ℕ → QueuePosition → List ℕ → Core → Role
rw_core_role n at us (core.Rw c) = of_rw.role n (rw_spot at) us c.phase
rw_core_role n at us (core.Mutex c) = away
rw_core_role n at us (core.Late p) = away
rw_core_role n at us (core.LateRw p) = late_rw_role n (rw_spot at) us p
rw_core_role n at us (core.Upgrade c) = of_upgrade.role n (rw_spot at) us c.phase

-- one whose moment has passed
abbrev pub late_waits : of_mutex.QueuePosition → mutex.Phase
late_waits of_mutex.Listed = mutex.Queued Late
late_waits (of_mutex.Off by mark) = mutex.Taken by mark Late

abbrev pub late_does : of_mutex.QueuePosition → LatePhase → mutex.Phase
late_does at late.Expires = late_waits at
late_does at late.Quits = mutex.Queued Back
late_does at late.Masks = mutex.Masks
late_does at late.Leaves = mutex.Leaves
late_does at late.GivesUp = mutex.Idle
late_does at (late.WasTaken by handed) = mutex.Taken by (of_mutex.mark_of handed) Back

abbrev pub late_role : of_mutex.QueuePosition → LatePhase → mutex.Role
late_role at p = mutex.doing (late_does at p)

abbrev pub mutex_core_role : QueuePosition → List ℕ → Core → mutex.Role
mutex_core_role at us (core.Mutex c) = mutex_role (mutex_spot at) us c.phase
mutex_core_role at us (core.Rw c) = mutex.away
mutex_core_role at us (core.Late p) = late_role (mutex_spot at) p
mutex_core_role at us (core.LateRw p) = mutex.away
mutex_core_role at us (core.Upgrade c) = mutex.away
