use Rattle.mapworld_state.proofs.locks.shard_locks.ShardLocks.owner.Goals as goal

pub holds-requires : goal.holds-requires
holds-requires g c = record { plain = c.self.invariant.plain }
