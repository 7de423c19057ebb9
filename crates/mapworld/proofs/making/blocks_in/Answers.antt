use Rattle.std.proofs.Common.{take, get_or, ap, ◌∙◌, arith}
use Rattle.std.specs.List.{sum_by}
use Rattle.std.proofs.lemmas.List.{take_more}
use Rattle.std.proofs.lemmas.List.Sums.{sum_by_push}
use Rattle.mapworld_state.specs.Core.{blocks_of}
use Rattle.mapworld.proofs.making.blocks_in.Goals as goal

pub loop-program-preserved : goal.loop-program-preserved
loop-program-preserved g c =
    let i = c.loop-program.program-index in
    let item = c.program-item.result in
    let own = ap (λ program. sum_by (blocks_of c.args.shards) program.items) c.program-item.is in
    let more = c.program_blocks-blocks.ensures ∙ ap (λ asks. sum_by (blocks_of c.args.shards) asks)
    c.deref.ensures.value in
    let next = ap (λ ps. sum_by (λ program. sum_by (blocks_of c.args.shards) program.items) ps)
    (take_more c.args.programs.now i item c.loop-program-test.true)
    ∙ sum_by_push (λ program. sum_by (blocks_of c.args.shards) program.items) (take i c.args.programs.now)
    (get_or c.args.programs.now i item) in
    omega (arith, own, more, next, c.loop-program.invariant)
