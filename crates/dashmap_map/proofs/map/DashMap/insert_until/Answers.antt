use Rattle.dashmap_map.proofs.map.DashMap.insert_until.Goals as goal

pub returns-in-Ok-clause-evidence : goal.returns-in-Ok-clause-evidence
returns-in-Ok-clause-evidence g c =
    let shard = c.in-Some.ensures in (
      c.place_of-hash.result.1.now,
      c.deref_mut.result.now,
      c.insert_into-made.new.shard,
      c.place_of-hash.ensures.lock,
      rw (
        ← shard.lock,
        ← shard.wait.0,
        ← shard.wait.1,
        c.deref_mut.ensures.value,
        ← shard.before,
      ) c.give_back.ensures,
      rw (← c.place_of-hash.ensures.hash) (c.in-Ok.ensures.old, c.in-Ok.ensures.after, c.in-Ok.ensures.refused),
    )

pub returns-in-Err-clause-evidence : goal.returns-in-Err-clause-evidence
returns-in-Err-clause-evidence g c =
    let shard = c.in-Some.ensures in (
      c.place_of-hash.result.1.now,
      c.deref_mut.result.now,
      c.insert_into-made.new.shard,
      c.place_of-hash.ensures.lock,
      rw (
        ← shard.lock,
        ← shard.wait.0,
        ← shard.wait.1,
        c.deref_mut.ensures.value,
        ← shard.before,
      ) c.give_back.ensures,
      rw (← c.place_of-hash.ensures.hash) (c.in-Err.ensures.old, c.in-Err.ensures.after, c.in-Err.ensures.refused),
    )
