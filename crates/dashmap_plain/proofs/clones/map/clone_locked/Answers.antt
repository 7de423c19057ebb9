use Rattle.std.proofs.Common.{sym, subst, take, take_all, ◌+◌, ◌∙◌}
use Rattle.std.specs.List.{AllZip}
use Rattle.crossbeam_utils.specs.declared.cache_padded.CachePadded.{CachePadded}
use Rattle.crossbeam_utils.specs.Padded.{padded_value}
use Rattle.dashmap_table.specs.Table.{Table}
use Rattle.dashmap_plain.specs.Clones.Clones.{IsCloneBehind}
use Rattle.dashmap_plain.proofs.ClonesFacts.Gathering.{zipped_next}
use Rattle.dashmap_plain.proofs.clones.map.clone_locked.Goals as goal

pub loop-lock-preserved : goal.loop-lock-preserved
loop-lock-preserved g c =
    let is_clone = λ (lock : CachePadded g.row.Q.Denot) (clone : Table g.row.K.Denot g.row.V.Denot). IsCloneBehind
    g.Q.Evidence.showed g.K.PartialEq.eq (padded_value lock) clone
    in
    subst (λ l. AllZip is_clone (take (c.loop-lock.lock-index + 1) c.shard_locks-locks.result.now) l)
    (sym c.in_ok-push.ensures.items)
    (zipped_next is_clone c.shard_locks-locks.result.now c.loop-lock.clones.items c.loop-lock.lock-index
    c.lock-item.result c.in_ok-clone_behind.field-0 c.loop-lock-test.true c.lock-item.is c.loop-lock.invariant
    (subst (λ q. IsCloneBehind g.Q.Evidence.showed g.K.PartialEq.eq q
    c.in_ok-clone_behind.field-0) c.deref.ensures c.in_ok-clone_behind.ensures))

pub returns : goal.returns
returns g c =
    let is_clone = λ (lock : CachePadded g.row.Q.Denot) (clone : Table g.row.K.Denot g.row.V.Denot). IsCloneBehind
    g.Q.Evidence.showed g.K.PartialEq.eq (padded_value lock) clone
    in
    subst (λ ls. AllZip is_clone ls c.loop-lock.clones.items)
    (take_all c.loop-lock.lock-index c.shard_locks-locks.result.now c.loop-lock-test.false
    ∙ c.shard_locks-locks.ensures.locks) c.loop-lock.invariant
