-- Runs of a world's steps, one step longer.
use Rattle.std.proofs.Common.{◌≡◌, List, [], ◌∷◌, ◌++◌, None, refl, subst}
use Rattle.parking_lot_world.specs.declared.step.WorldStep.{WorldStep}
use Rattle.parking_lot_world.specs.Worlds.{IsFit, IsMade, Ran, Shown, refusal}

pub ran-more : (w : Shown) (ss : List WorldStep) (mid : Shown) (s : WorldStep) (v : Shown) → Ran w ss mid
    → refusal mid s ≡ None → IsMade s mid v → IsFit v → Ran w (ss ++ s ∷ []) v
ran-more w [] mid s v run may made fit =
    (v, subst (λ (x : Shown). refusal x s ≡ None) run may, subst (λ (x : Shown). IsMade s x v) run made, fit, refl)
ran-more w (x ∷ ss) mid s v (next, first, step, fits, rest) may made fit =
    (next, first, step, fits, ran-more next ss mid s v rest may made fit)
