use Rattle.std.proofs.Common.{◌≡◌, ℕ, None, length, ap, arith}
use Rattle.dashmap_table.specs.Slots.{at}
use Rattle.dashmap_iter.proofs.WalksFacts.Holding.{found_at, locked_next, locked_same}
use Rattle.dashmap_iter.proofs.walks.walks.DashMapWalks.clear.Goals as goal

pub loop-shard-preserved : goal.loop-shard-preserved
loop-shard-preserved g c =
    let amount = ap length c.shard_locks-locks.ensures.locks in
    let found = found_at c.args.self.now c.shard_locks-locks.result.now c.loop-shard.shard c.lock_behind.result.now
    c.shard_locks-locks.ensures.locks c.lock_behind.ensures in (
      locked_next {K = g.row.K.Denot} {V = g.row.V.Denot} g.Q.Evidence.held c.args.self.now
          (λ p q. (i : ℕ) → at q.1.slots i ≡ None) c.loop-shard.shard (c.args.td.now, tt {0}) (c.loop-shard.td, tt {0})
          (c.clear_behind.new.td, tt {0}) c.lock_behind.result.now c.loop-shard.invariant.0 found
          c.clear_behind.ensures,
      omega (arith, c.loop-shard-test.true, amount),
    )

pub returns : goal.returns
returns g c =
    let amount = ap length c.shard_locks-locks.ensures.locks in
    let all : c.loop-shard.shard ≡ length c.args.self.now.locks =
    omega (arith, c.loop-shard-test.false, amount, c.loop-shard.invariant.1) in
    locked_same {K = g.row.K.Denot} {V = g.row.V.Denot} g.Q.Evidence.held c.args.self.now
    (λ p q. (i : ℕ) → at q.1.slots i ≡ None) c.loop-shard.shard (length c.args.self.now.locks)
    (c.args.td.now, tt {0}) (c.loop-shard.td, tt {0}) all c.loop-shard.invariant.0
