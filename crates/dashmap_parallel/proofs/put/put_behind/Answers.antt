use Rattle.std.proofs.Common.{refl}
use Rattle.std.proofs.lemmas.Result.{MatchResult-weaker}
use Rattle.dashmap_parallel.proofs.put.put_behind.Goals as goal

pub returns : goal.returns
returns g c =
    let shard = c.write_traced-shard in
    let old = c.deref_mut.result.now in
    let new = c.put_held-put.new.shard in
    let told : g.Q.Evidence.held c.args.lock.now c.args.td.now shard.new.party old new = rw (
      ← shard.ensures.lock,
      ← shard.ensures.wait.0,
      ← shard.ensures.wait.1,
      c.deref_mut.ensures.value,
      ← shard.ensures.before,
    ) c.give_back.ensures in
    MatchResult-weaker c.put_held-put.result c.put_held-put.ensures
    (λ x did. (c.args.lock.now, old, new, refl, told, did)) (λ x did. (c.args.lock.now, old, new, refl, told, did))
