-- What a section of such a call does at a waiter is what the rules say.
use Rattle.std.specs.Prelude.{◌≡◌, ◌<◌, ℕ, ◌^◌, false, List, Option, Some, None}
use Rattle.parking_lot_core_model.specs.declared.parking.FilterOp.{FilterOp}
use Rattle.parking_lot_rules.specs.Roles.{Mode, Cause, FromUpgradable, Owed, Owned, Shares}
use Rattle.parking_lot_rules.specs.Steps.{Scan, holds_upgradable, look}
use Rattle.parking_lot_protocol.specs.Wake.{wake_answer}
use Rattle.parking_lot_protocol.specs.WakeRules.{answer_to, token_of}
use Rattle.parking_lot_protocol.specs.declared.act.Act.{Act}
use Rattle.parking_lot_protocol.specs.declared.act.Act.TheVariants as act
use Rattle.parking_lot_protocol.specs.declared.act.SectionAct.TheVariants as section
use Rattle.parking_lot_protocol.specs.declared.rw_phase.AfterWake.TheVariants.{FreedExclusive}
use Rattle.parking_lot_protocol.specs.declared.rw_phase.RwPhase.{RwPhase}
use Rattle.parking_lot_protocol.specs.declared.rw_phase.RwPhase.TheVariants as at
use Rattle.parking_lot_protocol.specs.declared.rw_phase.Scanning.{Scanning}
use Rattle.parking_lot_protocol_rw.specs.UpgradeRoles.{owned}
use Rattle.parking_lot_protocol_rw.specs.declared.upgrade_phase.Hold.{Hold}
use Rattle.parking_lot_protocol_rw.specs.declared.upgrade_phase.Hold.TheVariants.{Nothing, Shared, Upgradable}
use Rattle.parking_lot_protocol_rw.specs.declared.upgrade_phase.Hold.TheVariants.{Exclusive}
use Rattle.parking_lot_protocol_rw.specs.declared.upgrade_phase.UpgradePhase.{UpgradePhase}
use Rattle.parking_lot_protocol_rw.specs.declared.upgrade_phase.UpgradePhase.TheVariants.{Frees, Owes}

-- one that scans, by what it owns, why it scans, and whom it has taken
abbrev pub scan_as : Owned → Cause → Scanning → List ℕ → Scan
scan_as o c s us =
    record { owns = o; cause = c; shared = s.shared; upgradable = s.upgradable; writer = s.writer; taken = us }

-- the answer at a waiter of any mode is that of the rules
abbrev pub IsShownRightly : Scan → ℕ → Option FilterOp → Type 0
IsShownRightly scan token answer = (mode : Mode) → token ≡ token_of mode
    → answer ≡ Some (answer_to (look (holds_upgradable scan) scan.writer mode))

-- whom one can have taken that keeps a hold: beside the upgradable one no other, and nobody keeps the exclusive one
abbrev pub CanHaveTaken : Hold → Scanning → Type 0
CanHaveTaken Nothing s = Unit {0}
CanHaveTaken Shared s = Unit {0}
CanHaveTaken Upgradable s = s.upgradable ≡ false
CanHaveTaken Exclusive s = ⊥

abbrev pub InScan : (Scanning → Type 0) → RwPhase → Type 0
InScan P (at.Scans s) = s.shared < 2 ^ 32 → P s
InScan P phase = Unit {0}

-- at the sum that a section asks with
abbrev pub LooksRightly : UpgradePhase → ℕ → Option FilterOp → Type 0
LooksRightly (Frees r core) token answer = (us : List ℕ)
    → InScan (λ s. s.rest ≡ FreedExclusive → IsShownRightly (scan_as (Shares 0) FromUpgradable s us) token answer)
    core.phase
LooksRightly (Owes hold end core) token answer = (us : List ℕ)
    → InScan (λ s. CanHaveTaken hold s → IsShownRightly (scan_as (owned hold) Owed s us) token answer) core.phase
LooksRightly phase token answer = Unit {0}

-- what is done at a waiter, by the act that a call has asked for
abbrev pub look_of : Act → ℕ → Option FilterOp
look_of (act.Section (section.TakeNext sum)) token = Some (wake_answer sum token)
look_of other token = None
