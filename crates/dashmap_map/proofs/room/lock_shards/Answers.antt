use Rattle.std.proofs.Common.{rules, [], sym, subst}
use Rattle.std.specs.List.{All}
use Rattle.std.proofs.lemmas.List.Elements.{All-head}
use Rattle.crossbeam_utils.specs.Padded.{padded_value}
use Rattle.dashmap_table.specs.Table.{Table}
use Rattle.dashmap_map.specs.Owner.{IsFresh, EachBehind}
use Rattle.dashmap_map.proofs.Lists.{all_push, all_before, all_after}
use Rattle.dashmap_map.proofs.room.lock_shards.Goals as goal

pub loop-shard-preserved : goal.loop-shard-preserved
loop-shard-preserved g c = (
  search rules,
  search rules,
  λ share fresh locks.
      let now = c.loop-shard.invariant.2 share fresh locks in
      let before = subst (All (IsFresh share)) c.in-Some.ensures.items now.0 in
      let one = All-head (IsFresh share) c.in-Some.shard [] (all_after (IsFresh share) c.pop.new.self.items _ before) in
      let put = subst (λ q. g.Q.OwnerEvidence.put q c.in-Some.shard) (sym c.put_behind.ensures.lock)
      c.put_behind.ensures.put in (
        all_before (IsFresh share) c.pop.new.self.items _ before,
        subst (EachBehind g.Q.OwnerEvidence.put (IsFresh share)) (sym c.push_reserved.ensures.items)
            (all_push (λ lock. (shard : Table g.row.K.Denot g.row.V.Denot)
            × g.Q.OwnerEvidence.put (padded_value lock) shard × IsFresh share shard) c.loop-shard.locks.items c.new-in-Some.result now.1 (
              c.in-Some.shard,
              subst (λ q. g.Q.OwnerEvidence.put q c.in-Some.shard) (sym c.new-in-Some.ensures) put,
              one,
            )),
      ),
)

pub returns-clause-fresh : goal.returns-clause-fresh
returns-clause-fresh g c = λ share fresh locks. (c.loop-shard.invariant.2 share fresh locks).1
