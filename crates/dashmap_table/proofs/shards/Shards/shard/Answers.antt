use Rattle.std.proofs.Common.{subst}
use Rattle.dashmap_table.specs.Shards.{AreApart}
use Rattle.dashmap_table.proofs.Sharding.{AreApart-sharded}
use Rattle.dashmap_table.proofs.shards.Shards.shard.Goals as goal

pub returns-clause-apart : goal.returns-clause-apart
returns-clause-apart g c =
    subst (λ t. AreApart g.K.PartialEq.eq t.tables) c.self.view_is
    (AreApart-sharded g.S.BuildHasher g.S.Hasher.Hasher g.K.Hash.hash_input g.K.PartialEq.eq g.met.K.Eq.laws
    g.met.K.Hash.respects_eq _ c.self.invariant)
