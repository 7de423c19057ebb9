use Rattle.std.proofs.Common.{◌≡◌, ◌+◌, Some, length, refl, sym, ◌∙◌, ap, subst, arith}
use Rattle.std.specs.Sync.RwLock.{write_guard_value}
use Rattle.dashmap_map.specs.Locked.{lock_at}
use Rattle.dashmap_iter.specs.Walks.Visits.{Walked, AtFull, Alters}
use Rattle.dashmap_iter.proofs.WalksFacts.Holding.{found_at, holds_first, gave_back, locked_same}
use Rattle.dashmap_iter.proofs.walks.walks.DashMapWalks.alter_all.Goals as goal

pub loop-shard-init : goal.loop-shard-init
loop-shard-init g c =
    let first = c.write_traced-held in
    let found = found_at c.args.self.now c.shard_locks-locks.result.now 0 c.lock_behind.result.now
    c.shard_locks-locks.ensures.locks c.lock_behind.ensures in
    let at = subst (λ l. lock_at c.args.self.now 0 ≡ Some l) (sym first.ensures.lock) found in
    let visited = subst
    (λ old. Walked (AtFull (Alters g.F.FnMut)) (length old.slots) (c.args.f, old)
    (c.alter_each_in-f.result, c.alter_each_in-f.new.shard)) (c.deref_mut.ensures.value ∙ sym first.ensures.before)
    c.alter_each_in-f.ensures.each in (
      c.alter_each_in-f.ensures.again,
      0,
      refl,
      holds_first g.Q.Evidence.held c.args.self.now
          (λ p q. Walked (AtFull (Alters g.F.FnMut)) (length p.1.slots) p q) (c.args.td.now, c.args.f)
          first.result.held.0.place.now first.result.from.value first.result.before.value c.alter_each_in-f.new.shard
          c.alter_each_in-f.result first.ensures.wait.0 at visited,
      first.ensures.wait.1,
      omega (arith, c.shard_locks-locks.ensures.amount),
    )

pub loop-shard-preserved : goal.loop-shard-preserved
loop-shard-preserved g c =
    let last = c.loop-shard.held in
    let n = c.loop-shard.invariant.1 in
    let next = c.hold_next-held in
    let amount = ap length c.shard_locks-locks.ensures.locks in
    let found = found_at c.args.self.now c.shard_locks-locks.result.now c.loop-shard.shard
    c.lock_behind-in-loop-shard.result.now c.shard_locks-locks.ensures.locks c.lock_behind-in-loop-shard.ensures in
    let at = subst (λ l. lock_at c.args.self.now c.loop-shard.shard ≡ Some l) (sym next.ensures.lock) found in
    let visited = subst
    (λ old. Walked (AtFull (Alters g.F.FnMut)) (length old.slots) (c.loop-shard.f, old)
    (c.alter_each_in-f-in-loop-shard.result, c.alter_each_in-f-in-loop-shard.new.shard))
    (c.deref_mut-in-loop-shard.ensures.value ∙ sym next.ensures.before)
    c.alter_each_in-f-in-loop-shard.ensures.each in
    let before = gave_back g.Q.Evidence.held c.args.self.now
    (λ p q. Walked (AtFull (Alters g.F.FnMut)) (length p.1.slots) p q) n (c.args.td.now, c.args.f)
    last.held.0.place.now last.from.value last.to.value next.result.from.value last.before.value
    (write_guard_value last.inner) c.loop-shard.f c.loop-shard.invariant.3 next.ensures.told
    (c.loop-shard.invariant.4 ∙ sym next.ensures.wait.0) in (
      c.alter_each_in-f-in-loop-shard.ensures.again,
      c.loop-shard.shard,
      refl,
      (
        c.loop-shard.f,
        locked_same g.Q.Evidence.held c.args.self.now
            (λ p q. Walked (AtFull (Alters g.F.FnMut)) (length p.1.slots) p q) (n + 1) c.loop-shard.shard
            (c.args.td.now, c.args.f) (next.result.from.value, c.loop-shard.f) (sym c.loop-shard.invariant.2) before,
        at,
        visited,
      ),
      next.ensures.wait.1,
      omega (arith, c.loop-shard-test.true, amount),
    )

pub returns : goal.returns
returns g c =
    let last = c.loop-shard.held in
    let n = c.loop-shard.invariant.1 in
    let amount = ap length c.shard_locks-locks.ensures.locks in
    let all : n + 1 ≡ length c.args.self.now.locks =
    omega (arith, c.loop-shard-test.false, amount, c.loop-shard.invariant.5, c.loop-shard.invariant.2) in (
      c.loop-shard.f,
      locked_same g.Q.Evidence.held c.args.self.now
          (λ p q. Walked (AtFull (Alters g.F.FnMut)) (length p.1.slots) p q) (n + 1) (length c.args.self.now.locks)
          (c.args.td.now, c.args.f) (c.loop-shard.td, c.loop-shard.f) all
          (gave_back g.Q.Evidence.held c.args.self.now
          (λ p q. Walked (AtFull (Alters g.F.FnMut)) (length p.1.slots) p q) n (c.args.td.now, c.args.f)
          last.held.0.place.now last.from.value last.to.value c.loop-shard.td last.before.value
          (write_guard_value last.inner) c.loop-shard.f c.loop-shard.invariant.3 c.give_back.ensures
          c.loop-shard.invariant.4),
    )
