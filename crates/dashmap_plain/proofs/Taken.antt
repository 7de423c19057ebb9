-- What came of a list that was gone through.
use Rattle.std.proofs.Common.{◌≡◌, ◌+◌, List, Option, Some, None, ◌∷◌, ◌++◌, length, drop, refl, sym, ap, ◌∙◌}
use Rattle.std.specs.Iterator.{Drains, YieldsThen}
use Rattle.std.proofs.lemmas.List.{map-id, take-append-drop, drop_more}
use Rattle.std.proofs.lemmas.Iterator.{YieldsList}
use Rattle.std.proofs.lemmas.Iterator.Consumers.{YieldsList-end, YieldsList-turn, YieldsList-so_far}

module _ {S A : Type 0} {steps : S → Option A → S → Type 0} {s : S} {all : List A} where
  -- all of it
  pub taken_whole : (xs : List A) → Drains steps s xs → YieldsList steps (λ x. x) s all → xs ≡ all
  taken_whole xs (u, (t, came, last)) list = sym (map-id xs) ∙ (YieldsList-end list xs t came None u refl last).0

  -- the first items, and one more
  pub taken_until : (before : List A) (x : A) (u : S) → YieldsThen steps s before (Some x) u
      → YieldsList steps (λ x. x) s all → all ≡ before ++ x ∷ drop (length before + 1) all
  taken_until before x u (t, came, last) list =
      let n = length before in
      let so_far = sym (map-id before) ∙ YieldsList-so_far list before t came in
      let next = YieldsList-turn list before t came (Some x) u x refl last in
      sym (take-append-drop n all) ∙ ap (λ l. l ++ drop n all) (sym so_far)
      ∙ ap (λ l. before ++ l) (drop_more all n x next.0 ∙ ap (λ z. z ∷ drop (n + 1) all) (sym next.1))
