use Rattle.dashmap_map.proofs.map.DashMap.alter.Goals as goal

pub returns : goal.returns
returns g c =
    let shard = c.write_traced-shard in (
      c.place_of-hash.result.1.now,
      c.deref_mut.result.now,
      c.alter_in.new.shard,
      c.place_of-hash.ensures.lock,
      rw (
        ← shard.ensures.lock,
        ← shard.ensures.wait.0,
        ← shard.ensures.wait.1,
        c.deref_mut.ensures.value,
        ← shard.ensures.before,
      ) c.give_back.ensures,
      rw (← c.place_of-hash.ensures.hash)
          (c.alter_in.ensures.absent, c.alter_in.ensures.present),
    )
