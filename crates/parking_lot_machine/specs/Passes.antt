-- Whom a taking wants, and whom it passes.
use Rattle.std.specs.Prelude.{◌≡◌, ◌<◌, ℕ, ◌==◌, ◌&&◌, ◌||◌, if◌then◌else◌, Bool, List, Some, slice_get}
use Rattle.parking_lot_core_model.specs.declared.parking.FilterOp.{FilterOp}
use Rattle.parking_lot_core_model.specs.declared.parking.FilterOp.TheVariants.{Unpark, Skip, Stop}
use Rattle.parking_lot_core_model.specs.declared.place.Waiter.{Waiter}
use Rattle.parking_lot_protocol.specs.Wake.{wake_answer}
use Rattle.parking_lot_protocol.specs.declared.act.Act.{Act}
use Rattle.parking_lot_protocol.specs.declared.act.Act.TheVariants as act
use Rattle.parking_lot_protocol.specs.declared.act.SectionAct.TheVariants as section

-- What an act that takes waiters does at one with that token: a scan goes by its sum so far, and any other takes
-- whoever is first.
abbrev pub asks : Act → ℕ → FilterOp
asks (act.Section (section.TakeNext sum)) token = wake_answer sum token
asks other token = Unpark

-- What a scan does at one that holds an upgradable hold or has taken one that wants it, and has taken a writer, or not:
-- after a writer it takes nobody, and beside an upgradable one only a reader.
abbrev pub look_by : Bool → Bool → ℕ → FilterOp
look_by upgradable writer token =
    if writer then Stop else (if (token == 8 || token == 20) && upgradable then Skip else Unpark)

-- the first n of a list are passed
abbrev pub ArePassed : (ℕ → FilterOp) → List Waiter → ℕ → Type 0
ArePassed ask queue n = (i : ℕ) (w : Waiter) → i < n → slice_get queue i ≡ Some w → ask w.token.0 ≡ Skip

-- of those that stand at an index it is wanted, and those before it are passed
pub record IsNext (ask : ℕ → FilterOp) (queue : List Waiter) (nth : ℕ) (w : Waiter) : Type 0 where
  pub there : slice_get queue nth ≡ Some w
  pub wanted : ask w.token.0 ≡ Unpark
  pub passed : ArePassed ask queue nth
