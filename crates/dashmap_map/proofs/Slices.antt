-- A list that was lent as a slice.
use Rattle.std.proofs.Common.{◌≡◌, ℕ, List, ◌++◌, length, take, sym, ap, ◌∙◌}
use Rattle.std.proofs.Math.Seq.{take-append_seam}

-- one that came back as it was is whole
pub whole_again : {X : Type 0} (n : ℕ) (back items rest : List X) → back ≡ items → n ≡ length items
    → take n (back ++ rest) ≡ items
whole_again n back items rest same all = ap (λ m. take m (back ++ rest)) (all ∙ sym (ap length same))
    ∙ (take-append_seam back rest ∙ same)
