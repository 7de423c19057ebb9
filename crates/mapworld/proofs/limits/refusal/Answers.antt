use Rattle.std.proofs.Common.{arith, false}
use Rattle.std.proofs.lemmas.Grind.{common_steps}
use Rattle.std.specs.List.{sum_by}
use Rattle.std.proofs.lemmas.List.Folds.{list_all-map}
use Rattle.mapworld_calls.specs.Programs.{one_guard, numbers_of}
use Rattle.mapworld.proofs.Refusals.{sum_by-map}
use Rattle.mapworld.proofs.limits.refusal.Goals as goal

pub returns-then-not-are_guarded : goal.returns-then-not-are_guarded
returns-then-not-are_guarded g c =
    let e = list_all-map (one_guard false) (λ program. program.items) c.args.programs.now in
    grind (arith, common_steps, e)

pub returns-then-is_none-2 : goal.returns-then-is_none-2
returns-then-is_none-2 g c =
    let e = list_all-map (one_guard false) (λ program. program.items) c.args.programs.now in
    let n = sum_by-map (λ program. sum_by (numbers_of c.args.shards) program) (λ program. program.items)
    c.args.programs.now in
    grind (arith, common_steps, e, n)

pub returns : goal.returns
returns g c =
    let e = list_all-map (one_guard false) (λ program. program.items) c.args.programs.now in
    let n = sum_by-map (λ program. sum_by (numbers_of c.args.shards) program) (λ program. program.items)
    c.args.programs.now in
    grind (arith, common_steps, e, n)
