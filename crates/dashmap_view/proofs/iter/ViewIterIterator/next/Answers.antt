use Rattle.std.proofs.Common.{◌≡◌, ◌+◌, List, [], ◌∷◌, MatchOption, subst, ◌∙◌}
use Rattle.std.specs.Borrow.{Bor}
use Rattle.dashmap_view.specs.Views.{pairs_from}
use Rattle.dashmap_view.proofs.Walking.{give, pass_over, progress}
use Rattle.dashmap_view.proofs.iter.ViewIterIterator.next.Goals as goal

pub returns-in-Some-next_from-clause-steps : goal.returns-in-Some-next_from-clause-steps
returns-in-Some-next_from-clause-steps g c =
    let tables = c.loop-shard.self-inside.shards.now in
    let i = c.in-Some-next_from.slot in
    let read : Bor g.row.K.Denot × Bor g.row.V.Denot → g.row.K.Denot × g.row.V.Denot = λ p. (p.0.now, p.1.now) in
    subst (λ (before : List (g.row.K.Denot × g.row.V.Denot)). MatchOption c.pair.result
    ((before ≡ []) × (pairs_from (i + 1) tables ≡ [])) (λ p. before ≡ read p ∷ pairs_from (i + 1) tables))
    c.loop-shard.invariant
    (give read c.pair.result c.loop-shard.self-inside.slot i tables c.in-Some.shard.now c.in-Some.rest.now
    c.in-Some.ensures.cases.0 c.in-Some-next_from.ensures c.pair.ensures)

pub returns-in-Some-next_from-clause-goes : goal.returns-in-Some-next_from-clause-goes
returns-in-Some-next_from-clause-goes g c =
    let read : Bor g.row.K.Denot × Bor g.row.V.Denot → g.row.K.Denot × g.row.V.Denot = λ p. (p.0.now, p.1.now) in
    progress _ (λ _. tt) read c.pair.result c.args.self.now
    (pairs_from (c.in-Some-next_from.slot + 1) c.loop-shard.self-inside.shards.now)
    (returns-in-Some-next_from-clause-steps g c)

pub loop-shard-preserved : goal.loop-shard-preserved
loop-shard-preserved g c =
    pass_over c.loop-shard.self-inside.slot c.loop-shard.self-inside.shards.now c.in-Some.shard.now c.in-Some.rest.now
    c.in-Some.ensures.cases.0 c.in_default-next_from.ensures ∙ c.loop-shard.invariant
