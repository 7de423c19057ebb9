use Rattle.std.proofs.Common.{sym, ap, ◌∙◌}
use Rattle.dashmap_table.specs.Route.{hash_of}
use Rattle.dashmap_table.specs.Shards.{key_hash}
use Rattle.dashmap_record.proofs.HistoryFacts.Gathered.{merge, legal}
use Rattle.dashmap_record.proofs.history.gathering.gathered.Goals as goal

pub returns-in_ok-merged-in-None-clause-matched : goal.returns-in_ok-merged-in-None-clause-matched
returns-in_ok-merged-in-None-clause-matched g c =
    let clear = sym c.in-None.is ∙ c.in_ok-fault.ensures in (
      sym clear,
      merge (λ l. l.items) g.K.PartialEq.eq g.V.PartialEq.eq g.met.K.Eq.laws.symm g.met.V.Eq.laws.symm
          (key_hash g.S.BuildHasher g.S.Hasher.Hasher g.K.Hash.hash_input c.args.hasher.now)
          (λ j k equal. ap (hash_of g.S.BuildHasher g.S.Hasher.Hasher c.args.hasher.now)
          (g.met.K.Hash.respects_eq j k equal)) c.args.histories.now c.args.logs.now
          c.in_ok-merged-in-None.field-0.items clear c.in_ok-merged-in-None.ensures.moved
          c.in_ok-merged-in-None.ensures.sorted,
    )

pub returns-in_ok-merged-in-None-clause-legal : goal.returns-in_ok-merged-in-None-clause-legal
returns-in_ok-merged-in-None-clause-legal g c =
    let clear = sym c.in-None.is ∙ c.in_ok-fault.ensures in
    legal (λ l. l.items) g.K.PartialEq.eq g.V.PartialEq.eq g.met.K.Eq.laws.symm g.met.V.Eq.laws.symm
    (key_hash g.S.BuildHasher g.S.Hasher.Hasher g.K.Hash.hash_input c.args.hasher.now)
    (λ j k equal. ap (hash_of g.S.BuildHasher g.S.Hasher.Hasher c.args.hasher.now) (g.met.K.Hash.respects_eq j k equal))
    c.args.histories.now c.args.logs.now c.in_ok-merged-in-None.field-0.items clear
    c.in_ok-merged-in-None.ensures.moved c.in_ok-merged-in-None.ensures.sorted
