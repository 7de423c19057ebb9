use Rattle.std.proofs.Common.{◌≤◌, sym, subst}
use Rattle.std.specs.Prelude.{vec_capacity}
use Rattle.dashmap_table.specs.Route.{IsShardAmount}
use Rattle.dashmap_record.proofs.Answering.{all_locked, made_of}
use Rattle.dashmap_record.proofs.recorded.Recorded.new.Goals as goal

pub invariant_of-result : goal.invariant_of-result
invariant_of-result g c =
    let amount = c.is_shard_amount.ensures.0 c.if-not-is_shard_amount.false in
    let count = all_locked c.in-Ok.room.locks.items c.in-Ok-lock_shards.shards.items c.in-Ok.room.shards.items
    c.args.shards c.in-Ok.ensures.locks.0 c.in-Ok.ensures.shards c.in-Ok-lock_shards.ensures in (
      subst IsShardAmount (sym count) amount,
      c.in-Ok.ensures.lists.0,
      subst (λ n. n ≤ vec_capacity c.in-Ok.room.lists) (sym count) c.in-Ok.ensures.lists.1,
    )

pub returns-in-Ok-lock_shards-clause-bad_shards : goal.returns-in-Ok-lock_shards-clause-bad_shards
returns-in-Ok-lock_shards-clause-bad_shards g c = made_of (c.is_shard_amount.ensures.0 c.if-not-is_shard_amount.false)
