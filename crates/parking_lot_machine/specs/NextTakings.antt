-- What a section takes, by a filter that stops at nobody: the next that it wants.
use Rattle.std.specs.Prelude.{◌≡◌, ◌≢◌, ℕ, ◌⊎◌, length, Option, Some, None, Result, Ok}
use Rattle.parking_lot_core_model.specs.declared.fault.LotFault.{LotFault}
use Rattle.parking_lot_core_model.specs.declared.parking.FilterOp.{FilterOp}
use Rattle.parking_lot_core_model.specs.declared.parking.FilterOp.TheVariants.{Stop}
use Rattle.parking_lot_core_model.specs.declared.parking.ParkToken.{ParkToken}
use Rattle.parking_lot_core_model.specs.declared.place.Phase.TheVariants as phase
use Rattle.parking_lot_core_model.specs.declared.place.Section.{Section}
use Rattle.parking_lot_core_model.specs.declared.place.Taking.{Taking}
use Rattle.parking_lot_core_model.specs.declared.place.Waiter.{Waiter}
use Rattle.parking_lot_core_model.specs.Machine.{Machine, taking_of, in_phase, taken, TakesNext}
use Rattle.parking_lot_core_model.specs.Places.{passed_of}
use Rattle.parking_lot_machine.specs.Passes.{ArePassed, IsNext}

-- it takes the first of the list that it wants, or nobody where it passes all
abbrev pub NextTaken : (ℕ → FilterOp) → Machine → Machine → Result (Option Taking) LotFault → ℕ → Type 0
NextTaken ask old new result key =
    ((nth : ℕ) × (w : Waiter) × IsNext ask (old.queues key) nth w × (result ≡ Ok (Some (taking_of old w)))
    × (new ≡ taken (in_phase old key (phase.Taking nth)) key nth))
    ⊎ (ArePassed ask (old.queues key) (length (old.queues key)) × (result ≡ Ok None)
    × (new ≡ in_phase old key phase.Ended))

abbrev pub NextsAreTaken : {F : Type 0} → (F → ParkToken → FilterOp → F → Type 0) → F → Type 0
NextsAreTaken {F} gives filter =
    (ask : ℕ → FilterOp) (o : Section) (old new : Machine) (result : Result (Option Taking) LotFault)
    → ArePassed ask (old.queues o.key) (passed_of o.phase)
    → ((token : ℕ) → ask token ≢ Stop)
    → ((token : ParkToken) (op : FilterOp) (g : F) → gives filter token op g → (op ≡ ask token.0) × (g ≡ filter))
    → TakesNext gives filter o old result new → NextTaken ask old new result o.key
