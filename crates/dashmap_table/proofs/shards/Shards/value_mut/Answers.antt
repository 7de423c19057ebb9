use Rattle.std.proofs.Common.{rules}
use Rattle.dashmap_table.proofs.Sharding.{seen_by_its_key}
use Rattle.dashmap_table.proofs.shards.Shards.value_mut.Goals as goal

pub returns-then-is_full : goal.returns-then-is_full
returns-then-is_full g c = (
  search rules,
  record {
    writes_back = tt;
    value = search rules;
    seen = seen_by_its_key g.S.BuildHasher g.S.Hasher.Hasher g.K.Hash.hash_input g.K.PartialEq.eq g.met.K.Eq.laws
        g.met.K.Hash.respects_eq c.self.inside.shards.items c.self.inside.hasher c.args.self.now c.self.view_is
        c.self.invariant c.args.shard c.args.slot;
  },
)
