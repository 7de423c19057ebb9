use Rattle.std.proofs.Common.{refl}
use Rattle.dashmap.proofs.set.walks.retain_behind.Goals as goal

pub returns-clause-evidence : goal.returns-clause-evidence
returns-clause-evidence g c =
    let shard = c.write_traced-shard in (
      c.args.lock.now,
      c.deref_mut.result.now,
      c.retain_in-f.new.shard,
      refl,
      rw (
        ← shard.ensures.lock,
        ← shard.ensures.wait.0,
        ← shard.ensures.wait.1,
        c.deref_mut.ensures.value,
        ← shard.ensures.before,
      ) c.give_back.ensures,
      c.retain_in-f.ensures.each,
    )
