use Rattle.std.specs.Prelude.{IsSome, refl}
use Rattle.std.proofs.Common.{subst, sym, ap, ◌∙◌}
use Rattle.lock_api_guards.proofs.mapped.MappedDerefMut.deref_mut.Goals as goal

-- what was written into the part is there in what the guard lends
pub invariant_of-self-lent : goal.invariant_of-self-lent
invariant_of-self-lent g c w =
    let by = c.self.inside.by in
    let whole = c.lend.result.now in
    let there : IsSome (g.P.Projection.focus by whole) = subst IsSome c.part_mut.ensures.value refl in
    let lent = g.met.W.LenderMut.reads_written c.self.inside.guard.inner (g.P.Projection.with_focus by whole w) in
    let found = (g.met.P.Projection.laws by).reads_written whole w there in
    subst IsSome (sym (ap (g.P.Projection.focus by) lent ∙ found)) refl
