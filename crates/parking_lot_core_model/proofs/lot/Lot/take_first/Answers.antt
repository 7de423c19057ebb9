use Rattle.std.proofs.Common.{◌≡◌, ◌∙◌, ℕ, true, List, Option, None, Some, Ok, [], length, take, drop, sym, ap, refl}
use Rattle.std.proofs.Common.{subst, false}
use Rattle.std.specs.Option.{option_map_or}
use Rattle.parking_lot_core_model.specs.declared.parking.UnparkResult.{UnparkResult}
use Rattle.parking_lot_core_model.specs.declared.parking.UnparkToken.{UnparkToken}
use Rattle.parking_lot_core_model.specs.declared.place.Waiter.{Waiter}
use Rattle.parking_lot_core_model.specs.Lists.{updated}
use Rattle.parking_lot_core_model.specs.Results.{unpark_result, chosen_by, passed_by}
use Rattle.parking_lot_core_model.specs.Machine.{Machine, machine, busy, opened, stored, closed, unparked, taken}
use Rattle.parking_lot_core_model.specs.Operations.{all_taken}
use Rattle.parking_lot_core_model.proofs.Kept.{updated_at}
use Rattle.parking_lot_core_model.proofs.Outcomes.{unless_done, free_section}
use Rattle.parking_lot_core_model.proofs.Takings.{first_taken, closed_taken, first_count_some, first_count_none}
use Rattle.parking_lot_core_model.proofs.lot.Lot.take_first.Goals as goal

pub returns-in-Some-clause-count : goal.returns-in-Some-clause-count
returns-in-Some-clause-count g c = first_count_some ((machine c.args.self.now).queues c.args.key) c.in-Some.field-0
    c.in-Some.ensures.waiter

pub returns-in-Some-clause-taken : goal.returns-in-Some-clause-taken
returns-in-Some-clause-taken g c = c.take_out.ensures.taken ∙ first_taken (machine c.args.self.now) c.args.key

pub returns-in-None-clause-count : goal.returns-in-None-clause-count
returns-in-None-clause-count g c = first_count_none ((machine c.args.self.now).queues c.args.key)
    c.in-None.ensures.waiter

pub returns-in-None-clause-taken : goal.returns-in-None-clause-taken
returns-in-None-clause-taken g c = c.take_out.ensures.taken ∙ first_taken (machine c.args.self.now) c.args.key
