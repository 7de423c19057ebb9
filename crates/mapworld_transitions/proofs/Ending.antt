-- The blocks of a walk's visits, ended one after another.
use Rattle.std.proofs.Common.{◌≡◌, ℕ, List, [], ◌∷◌, ◌++◌, Some, slice_get, slice_set, ap, sym, ◌∙◌}
use Rattle.mapworld_calls.specs.declared.block.Block.{Block}
use Rattle.mapworld_state.specs.Moves.{EndsAt, EndsVisits}

-- one more is ended
pub ends-more : {K : Type 0} (bs : List (Block K)) (visits : List ℕ) (i end : ℕ) (mid : List (Block K)) (b c : Block K)
    → EndsVisits bs visits end mid → slice_get mid i ≡ Some b → EndsAt end b c
    → EndsVisits bs (visits ++ i ∷ []) end (slice_set mid i c)
ends-more bs [] i end mid b c h at ends =
    (b, c, ap (λ z. slice_get z i) (sym h) ∙ at, ends, ap (λ z. slice_set z i c) h)
ends-more bs (j ∷ visits) i end mid b c h at ends =
    (h.0, h.1, h.2, h.3, ends-more (slice_set bs j h.1) visits i end mid b c h.4 at ends)
