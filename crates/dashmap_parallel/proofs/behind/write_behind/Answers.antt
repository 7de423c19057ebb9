use Rattle.dashmap_parallel.proofs.behind.write_behind.Goals as goal

pub returns : goal.returns
returns g c =
    let shard = c.write_traced-shard in (
      c.args.td.now,
      shard.new.party,
      c.deref_mut.result.now,
      c.write_each.new.shard,
      rw (
        ← shard.ensures.lock,
        ← shard.ensures.wait.0,
        ← shard.ensures.wait.1,
        c.deref_mut.ensures.value,
        ← shard.ensures.before,
      ) c.give_back.ensures,
      c.write_each.ensures,
    )
