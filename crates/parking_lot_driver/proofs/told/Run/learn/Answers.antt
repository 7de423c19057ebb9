use Rattle.std.proofs.Common.{◌∙◌, ◌∷◌, ℕ, ap, sym, subst}
use Rattle.parking_lot_protocol.specs.Acts.{Gives}
use Rattle.parking_lot_driver.proofs.told.Run.learn.Goals as goal

-- the act gave at that word what the core is told next
pub invariant_of-self : goal.invariant_of-self
invariant_of-self g c =
    let told = c.self.invariant in
    let asked = ap (λ run. g.C.DecisionCore.asks run.1) (sym c.self.view_is) ∙ ap g.C.DecisionCore.asks told.2 in (
      c.args.seen ∷ told.0,
      (subst (λ act. (word : ℕ) × Gives act word c.args.seen) asked (c.args._word, c.requires), told.1),
      c.next.ensures.core ∙ ap (λ core. g.C.DecisionCore.told core c.args.seen) told.2,
    )
