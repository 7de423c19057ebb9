-- Which waiters a waking section lets go.
use Rattle.std.specs.Prelude.{ℕ, ◌/◌, ◌%◌, ◌==◌, ◌&&◌, ◌||◌, if◌then◌else◌}
use Rattle.parking_lot_core_model.specs.declared.parking.FilterOp.{FilterOp}
use Rattle.parking_lot_core_model.specs.declared.parking.FilterOp.TheVariants.{Unpark, Skip, Stop}

-- At the sum so far, a waiter with that token: after a writer nobody goes, and beside an upgradable owner only a reader
-- does.
abbrev pub wake_answer : ℕ → ℕ → FilterOp
wake_answer sum token =
    (if sum / 8 % 2 == 1 then Stop else (if (token == 8 || token == 20) && sum / 4 % 2 == 1 then Skip else Unpark))
