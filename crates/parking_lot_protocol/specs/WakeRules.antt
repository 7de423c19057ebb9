-- What a waking section does at a waiter is what the rules say.
use Rattle.std.specs.Prelude.{◌≡◌, ℕ, List}
use Rattle.parking_lot_core_model.specs.declared.parking.FilterOp.{FilterOp}
use Rattle.parking_lot_core_model.specs.declared.parking.FilterOp.TheVariants as op
use Rattle.parking_lot_rules.specs.Roles.{Mode, Shared, Exclusive, Upgradable}
use Rattle.parking_lot_rules.specs.Steps.{Look, Stop, Skip, Take, look, holds_upgradable}
use Rattle.parking_lot_protocol.specs.declared.rw_phase.Scanning.{Scanning}
use Rattle.parking_lot_protocol.specs.RwTable.{sum_of}
use Rattle.parking_lot_protocol.specs.RwRules.{scan_of}

-- the token of one that waits for a mode
abbrev pub token_of : Mode → ℕ
token_of Shared = 16
token_of Exclusive = 8
token_of Upgradable = 20

abbrev pub answer_to : Look → FilterOp
answer_to Stop = op.Stop
answer_to Skip = op.Skip
answer_to Take = op.Unpark

-- At the sum of a scan's tokens the answer is that of the rules, of those that it has taken.
abbrev pub LooksRightly : ℕ → ℕ → FilterOp → Type 0
LooksRightly sum token answer = (s : Scanning) (mode : Mode) (n : ℕ) (us : List ℕ) → sum ≡ sum_of s
    → token ≡ token_of mode → answer ≡ answer_to (look (holds_upgradable (scan_of n s us)) s.writer mode)
