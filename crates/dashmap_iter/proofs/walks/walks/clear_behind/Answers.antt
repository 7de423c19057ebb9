use Rattle.std.proofs.Common.{refl}
use Rattle.dashmap_iter.proofs.walks.walks.clear_behind.Goals as goal

pub returns : goal.returns
returns g c =
    let shard = c.write_traced-shard in (
      c.args.lock.now,
      c.deref_mut.result.now,
      c.clear_in.new.shard,
      refl,
      rw (
        ← shard.ensures.lock,
        ← shard.ensures.wait.0,
        ← shard.ensures.wait.1,
        c.deref_mut.ensures.value,
        ← shard.ensures.before,
      ) c.give_back.ensures,
      c.clear_in.ensures.empty,
    )
