use Rattle.dashmap_map.proofs.map.DashMap.remove.Goals as goal

pub returns-clause-evidence : goal.returns-clause-evidence
returns-clause-evidence g c =
    let shard = c.write_traced-shard in (
      c.place_of-hash.result.1.now,
      c.deref_mut.result.now,
      c.remove_from-pair.new.shard,
      c.place_of-hash.ensures.lock,
      rw (
        ← shard.ensures.lock,
        ← shard.ensures.wait.0,
        ← shard.ensures.wait.1,
        c.deref_mut.ensures.value,
        ← shard.ensures.before,
      ) c.give_back.ensures,
      rw (← c.place_of-hash.ensures.hash)
          (c.remove_from-pair.ensures.pair, c.remove_from-pair.ensures.after),
    )
