use Rattle.mapworld.proofs.world.MapWorld.known.Goals as goal

pub returns : goal.returns
returns g c = rw (← c.self.view_is) c.self.invariant.5
