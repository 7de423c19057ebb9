use Rattle.dashmap_map.proofs.map.DashMap.remove_until.Goals as goal

pub returns-in-None-clause-evidence : goal.returns-in-None-clause-evidence
returns-in-None-clause-evidence g c =
    let shard = c.in-Some.ensures in (
      c.place_of-hash.result.1.now,
      c.deref_mut.result.now,
      c.remove_from-pair.new.shard,
      c.place_of-hash.ensures.lock,
      rw (
        ← shard.lock,
        ← shard.wait.0,
        ← shard.wait.1,
        c.deref_mut.ensures.value,
        ← shard.before,
      ) c.give_back.ensures,
      rw (← c.place_of-hash.ensures.hash) (c.in-None.ensures.pair, c.in-None.ensures.after),
    )

pub returns-in-Some-pair-clause-evidence : goal.returns-in-Some-pair-clause-evidence
returns-in-Some-pair-clause-evidence g c =
    let shard = c.in-Some.ensures in (
      c.place_of-hash.result.1.now,
      c.deref_mut.result.now,
      c.remove_from-pair.new.shard,
      c.place_of-hash.ensures.lock,
      rw (
        ← shard.lock,
        ← shard.wait.0,
        ← shard.wait.1,
        c.deref_mut.ensures.value,
        ← shard.before,
      ) c.give_back.ensures,
      rw (← c.place_of-hash.ensures.hash) (c.in-Some-pair.ensures.pair, c.in-Some-pair.ensures.after),
    )
