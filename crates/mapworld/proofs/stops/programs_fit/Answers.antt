use Rattle.std.proofs.Common.{inl, inr, get_or, slice_get, sym, ap, ◌∙◌, subst, arith}
use Rattle.std.proofs.lemmas.Bool.{cases_eq}
use Rattle.std.proofs.lemmas.Option.{same_Some, slice_get_within, slice_get-get_or}
use Rattle.mapworld.specs.Stops.{StopsFit}
use Rattle.mapworld.proofs.Viewing.{map_at}
use Rattle.mapworld.proofs.stops.programs_fit.Goals as goal

pub loop-program-preserved : goal.loop-program-preserved
loop-program-preserved g c = λ t program lt at.
    let i = c.loop-program.program-index in
    let programs = c.args.programs.now in
    let item = c.program-item.result in
    elim (cases_eq t i) [
      | inl here ↦
          let own = same_Some program (get_or programs i item)
          (sym at ∙ (ap (slice_get programs) here ∙ slice_get-get_or programs i item c.loop-program-test.true)) in
          subst StopsFit (c.deref.ensures.value ∙ ap (λ p. p.items) (c.program-item.is ∙ sym own))
          c.program_fits.ensures
      | inr ne ↦ c.loop-program.invariant t program (omega (arith, lt, ne)) at
    ]

pub returns : goal.returns
returns g c = λ t program at.
    let own = map_at (λ program. program.items) c.args.programs.now t program at in
    let within = slice_get_within c.args.programs.now t own.0 own.1 in
    subst StopsFit own.2 (c.loop-program.invariant t own.0 (omega (arith, within, c.loop-program-test.false)) own.1)
