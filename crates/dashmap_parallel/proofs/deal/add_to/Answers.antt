use Rattle.std.proofs.Common.{[], ◌∷◌, ◌++◌, refl, ap, ◌∙◌}
use Rattle.std.specs.declared.vec.Vec.{Vec}
use Rattle.std.proofs.lemmas.List.{get_or_read}
use Rattle.dashmap_parallel.proofs.deal.add_to.Goals as goal

pub returns : goal.returns
returns g c = (
  c.push.new.self,
  refl,
  λ d. c.in_ok-push.ensures.items ∙ ap (λ (v : Vec g.row.T.Denot g.row.A.Denot). v.items ++ c.args.item ∷ [])
      (get_or_read c.args.lists.now.items c.args.number c.index_mut.result.now c.requires c.index_mut.ensures.value d),
)
