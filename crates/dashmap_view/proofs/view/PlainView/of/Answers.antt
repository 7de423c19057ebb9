use Rattle.std.proofs.Common.{sym, subst, ◌∙◌}
use Rattle.std.proofs.lemmas.Bool.{false≢true}
use Rattle.dashmap_view.specs.Views.{AreRouted}
use Rattle.dashmap_view.proofs.view.PlainView.of.Goals as goal

pub returns-else-are_routed-clause-displaced : goal.returns-else-are_routed-clause-displaced
returns-else-are_routed-clause-displaced g c = (
  c.new.ensures,
  λ all. false≢true (sym c.if-are_routed.false ∙ c.are_routed.ensures.routed.1
      (subst (AreRouted g.S.BuildHasher g.S.Hasher.Hasher g.K.Hash.hash_input c.args.hasher) (sym c.deref.ensures.value)
      all)),
)
