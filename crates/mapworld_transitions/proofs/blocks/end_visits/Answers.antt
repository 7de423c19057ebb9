use Rattle.std.proofs.Common.{◌≡◌, ◌+◌, ◌∷◌, ◌++◌, [], take, Some, slice_get, slice_set}
use Rattle.std.proofs.Common.{slice_index_or, refl, ap, sym, ◌∙◌, subst, arith, take_all, length-set}
use Rattle.std.proofs.lemmas.List.{take_more}
use Rattle.std.proofs.lemmas.Option.{slice_get-get_or}
use Rattle.mapworld_calls.specs.declared.block.Block.{Block}
use Rattle.mapworld_state.specs.Moves.{EndsVisits}
use Rattle.mapworld_transitions.proofs.Ending.{ends-more}
use Rattle.mapworld_transitions.proofs.blocks.end_visits.Goals as goal

pub loop-index-init : goal.loop-index-init
loop-index-init g c = (refl, refl, refl)

pub loop-index-preserved : goal.loop-index-preserved
loop-index-preserved g c =
    let visits = c.args.visits.now in
    let n = c.loop-index.index-index in
    let i = slice_index_or visits n 0 in
    let b = c.index_mut.result.now in
    let ended : Block _ = record b { end = Some c.args.end } in
    let more : take (n + 1) visits ≡ take n visits ++ i ∷ [] = take_more visits n 0 c.loop-index-test.true in
    let within = c.requires n i (slice_get-get_or visits n 0 c.loop-index-test.true) in
    let at : slice_get c.loop-index.blocks.items i ≡ Some b =
    slice_get-get_or c.loop-index.blocks.items i b (omega (arith, within, c.loop-index.invariant.1))
    ∙ ap (λ z. Some z) (sym c.index_mut.ensures.value) in (
      subst (λ vs. EndsVisits c.args.blocks.now.items vs c.args.end (slice_set c.loop-index.blocks.items i ended))
          (sym more)
          (ends-more c.args.blocks.now.items (take n visits) i c.args.end c.loop-index.blocks.items b ended
          c.loop-index.invariant.0 at
          (record {
            thread = refl;
            call = refl;
            visit = refl;
            start = refl;
            position = refl;
            end = refl;
            done = refl;
            visited = refl;
          })),
      length-set c.loop-index.blocks.items i ended ∙ c.loop-index.invariant.1,
      c.loop-index.invariant.2,
    )

pub returns-clause-ended : goal.returns-clause-ended
returns-clause-ended g c =
    subst (λ vs. EndsVisits c.args.blocks.now.items vs c.args.end c.loop-index.blocks.items)
    (take_all c.loop-index.index-index c.args.visits.now c.loop-index-test.false) c.loop-index.invariant.0
