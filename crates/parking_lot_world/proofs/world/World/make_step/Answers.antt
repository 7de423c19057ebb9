use Rattle.parking_lot_world.proofs.Promising.{done_stays}
use Rattle.parking_lot_world.proofs.world.World.make_step.Goals as goal

pub returns-clause-lasts : goal.returns-clause-lasts
returns-clause-lasts g c = done_stays c.what_is_done_stays_done.ensures c.args.self.now c.make.new.self
    c.known.ensures.fit.onces c.args.step c.make.ensures
