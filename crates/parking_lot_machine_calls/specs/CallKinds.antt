-- Which calls a machine runs: of the kind of their lock, and of the upgradable ones those of a world.
use Rattle.std.specs.Prelude.{◌≡◌, true, false, Option, Some}
use Rattle.parking_lot_protocol.specs.declared.rw_phase.RwPhase.{RwPhase}
use Rattle.parking_lot_protocol.specs.declared.rw_phase.RwPhase.TheVariants as r
use Rattle.parking_lot_machine_calls.specs.declared.calls.LockKind.{LockKind}
use Rattle.parking_lot_machine_calls.specs.declared.seat.Core.{Core}
use Rattle.parking_lot_machine_calls.specs.declared.seat.Core.TheVariants as core
use Rattle.parking_lot_machine_calls.specs.Kinds.{Manner, AsMutex, AsRw, manner_of}
use Rattle.parking_lot_protocol.specs.RwTable.{has_room}
use Rattle.parking_lot_protocol_rw.specs.declared.upgrade_phase.UpgradePhase.{UpgradePhase}
use Rattle.parking_lot_protocol_rw.specs.declared.upgrade_phase.UpgradePhase.TheVariants as u
use Rattle.parking_lot_protocol_rw.specs.UpgradeTable.{is_again}

-- the call is of the lock's kind
abbrev pub IsOfManner : Option Manner → Core → Type 0
IsOfManner m (core.Mutex c) = m ≡ Some AsMutex
IsOfManner m (core.Rw c) = m ≡ Some AsRw
IsOfManner m (core.Late p) = m ≡ Some AsMutex
IsOfManner m (core.LateRw p) = m ≡ Some AsRw
IsOfManner m (core.Upgrade c) = m ≡ Some AsRw

abbrev pub IsOfKind : Option LockKind → Core → Type 0
IsOfKind k c = IsOfManner (manner_of k) c

-- A call of a world asks where it has seen room for one reader more, and doesn't bump. One that gives up begins with
-- its first look at the word.
abbrev pub seeks_room : RwPhase → Type 0
seeks_room (r.Admits a word) = has_room word ≡ true
seeks_room phase = Unit {0}

abbrev pub IsOfWorld : UpgradePhase → Type 0
IsOfWorld (u.Plain core) = ⊥
IsOfWorld (u.Seeks core) = seeks_room core.phase
IsOfWorld (u.Frees release core) = is_again release ≡ false
IsOfWorld (u.UnlockLoads release) = is_again release ≡ false
IsOfWorld (u.Unlocks release word) = is_again release ≡ false
IsOfWorld u.BumpLoads = ⊥
IsOfWorld u.Relocks = ⊥
IsOfWorld (u.GivingUp from) = ⊥
IsOfWorld phase = Unit {0}
