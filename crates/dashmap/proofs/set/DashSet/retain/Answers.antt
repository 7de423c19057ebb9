use Rattle.std.proofs.Common.{◌≡◌, length, ap, ◌∙◌, arith}
use Rattle.dashmap_map.specs.Locked.{Locked}
use Rattle.dashmap_iter.specs.Walks.Visits.{Walked, AtFull}
use Rattle.dashmap.specs.Set.Walks.{KeepsKey}
use Rattle.dashmap_iter.proofs.WalksFacts.Holding.{found_at, locked_next, locked_same}
use Rattle.dashmap.proofs.set.DashSet.retain.Goals as goal

pub loop-shard-preserved : goal.loop-shard-preserved
loop-shard-preserved g c =
    let locks = c.shard_locks-locks.ensures.locks ∙ ap (λ (m : Locked g.row.Q.Denot g.row.S.Denot). m.locks)
    c.self.view_is in
    let amount = ap length locks in
    let found = found_at c.args.self.now c.shard_locks-locks.result.now c.loop-shard.shard c.lock_behind.result.now
    locks c.lock_behind.ensures in (
      c.retain_behind-f.ensures.again,
      locked_next g.Q.Evidence.held c.args.self.now
          (λ p q. Walked (AtFull (KeepsKey g.F.FnMut)) (length p.1.slots) p q) c.loop-shard.shard
          (c.args.td.now, c.args.f) (c.loop-shard.td, c.loop-shard.f)
          (c.retain_behind-f.new.td, c.retain_behind-f.result) c.lock_behind.result.now c.loop-shard.invariant.1 found
          c.retain_behind-f.ensures.evidence,
      omega (arith, c.loop-shard-test.true, amount),
    )

pub returns : goal.returns
returns g c =
    let locks = c.shard_locks-locks.ensures.locks ∙ ap (λ (m : Locked g.row.Q.Denot g.row.S.Denot). m.locks)
    c.self.view_is in
    let amount = ap length locks in
    let all : c.loop-shard.shard ≡ length c.args.self.now.locks =
    omega (arith, c.loop-shard-test.false, amount, c.loop-shard.invariant.2) in (
      c.loop-shard.f,
      locked_same g.Q.Evidence.held c.args.self.now
          (λ p q. Walked (AtFull (KeepsKey g.F.FnMut)) (length p.1.slots) p q) c.loop-shard.shard
          (length c.args.self.now.locks) (c.args.td.now, c.args.f) (c.loop-shard.td, c.loop-shard.f) all
          c.loop-shard.invariant.1,
    )
