use Rattle.std.proofs.Common.{ℕ, ap, ◌∙◌}
use Rattle.parking_lot_core_model.specs.Machine.{machine, stored}
use Rattle.parking_lot_machine.proofs.lot_calls.store_nothing.Goals as goal

pub returns-clause-stored : goal.returns-clause-stored
returns-clause-stored g c =
    let own = c.requires.within in
    c.store.ensures.stored own.0 own.1 ∙ ap (λ (k : ℕ). stored (machine c.args.lot.now) k (record { 0 = 0 })) own.2
