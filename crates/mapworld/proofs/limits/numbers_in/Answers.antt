use Rattle.std.proofs.Common.{take, get_or, ap, ◌∙◌, arith}
use Rattle.std.specs.List.{sum_by}
use Rattle.std.proofs.lemmas.List.{take_more}
use Rattle.std.proofs.lemmas.List.Sums.{sum_by_more_le, sum_by_push}
use Rattle.mapworld_calls.specs.Programs.{numbers_of, saturated}
use Rattle.mapworld.proofs.limits.numbers_in.Goals as goal

pub returns-then-more-numbers : goal.returns-then-more-numbers
returns-then-more-numbers g c =
    let i = c.loop-program.program-index in
    let item = c.program-item.result in
    let within = sum_by_more_le (λ program. sum_by (numbers_of c.args.shards) program.items) c.args.programs.now i
    item c.loop-program-test.true in
    let own = ap (λ program. sum_by (numbers_of c.args.shards) program.items) c.program-item.is in
    let more = c.guard_numbers-more.ensures ∙ ap (λ asks. saturated (sum_by (numbers_of c.args.shards) asks))
    c.deref.ensures.value in
    omega (arith, within, own, more, c.loop-program.invariant.0, c.if-more-numbers.true)

pub loop-program-preserved : goal.loop-program-preserved
loop-program-preserved g c =
    let i = c.loop-program.program-index in
    let item = c.program-item.result in
    let own = ap (λ program. sum_by (numbers_of c.args.shards) program.items) c.program-item.is in
    let more = c.guard_numbers-more.ensures ∙ ap (λ asks. saturated (sum_by (numbers_of c.args.shards) asks))
    c.deref.ensures.value in
    let next = ap (λ ps. sum_by (λ program. sum_by (numbers_of c.args.shards) program.items) ps)
    (take_more c.args.programs.now i item c.loop-program-test.true)
    ∙ sum_by_push (λ program. sum_by (numbers_of c.args.shards) program.items) (take i c.args.programs.now)
    (get_or c.args.programs.now i item) in (
      omega (arith, own, more, next, c.loop-program.invariant.0, c.if-more-numbers.false),
      omega
          (arith, c.if-more-numbers.false),
    )
