use Rattle.std.proofs.Common.{sym, subst, take, ◌+◌}
use Rattle.std.specs.List.{AllZip}
use Rattle.std.proofs.lemmas.List.Elements.{all_zip_more}
use Rattle.dashmap_view.specs.Clones.{IsCloneOf}
use Rattle.dashmap_view.proofs.clone.clone_shards.Goals as goal

pub loop-shard-preserved : goal.loop-shard-preserved
loop-shard-preserved g c =
    subst (λ l. AllZip (IsCloneOf g.K.PartialEq.eq) (take (c.loop-shard.shard-index + 1) c.args.shards.now) l)
    (sym c.in_ok-push.ensures.items)
    (all_zip_more (IsCloneOf g.K.PartialEq.eq) c.args.shards.now c.loop-shard.clones.items c.loop-shard.shard-index
    c.shard-item.result c.in_ok-clone_shard.field-0 c.loop-shard-test.true c.shard-item.is c.loop-shard.invariant
    c.in_ok-clone_shard.ensures)
