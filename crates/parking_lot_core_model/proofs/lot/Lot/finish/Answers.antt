use Rattle.std.proofs.Common.{◌∙◌, ap, true}
use Rattle.parking_lot_core_model.specs.Machine.{Machine, machine, closed}
use Rattle.parking_lot_core_model.proofs.Sounds.{open_stored}
use Rattle.parking_lot_core_model.proofs.lot.Lot.finish.Goals as goal

pub close-requires : goal.close-requires
close-requires g c = open_stored (machine c.args.self.now) (machine c.say_store.new.self) c.args.key c.args.token
    c.say_store.ensures c.requires

pub returns : goal.returns
returns g c = c.close.ensures ∙ ap (λ (x : Machine). closed x c.args.key true) c.say_store.ensures
