-- The way to a state, from its end.
use Rattle.std.proofs.Common.{◌≡◌, ℕ, suc, ◌++◌, ◌∷◌, [], List, Option, Some, None, slice_get, reverse, sym, ap, ◌∙◌}
use Rattle.std.proofs.Common.{append_assoc, append-nil}
use Rattle.std.proofs.lemmas.List.{reverse-append}
use Rattle.mapworld_state.specs.declared.step.Step.{Step}
use Rattle.mapworld_explorer.specs.declared.search.Reached.{Reached}
use Rattle.mapworld_explorer.specs.Searches.{last_steps, state_before, step_to}

-- a step more at the end of what is reversed
turned : (front : List Step) (o : Option Reached) (back : List Step)
    → (front ++ step_to o) ++ reverse back ≡ front ++ reverse (back ++ step_to o)
turned front None back = ap (λ l. l ++ reverse back) (append-nil front)
    ∙ ap (λ l. front ++ reverse l) (sym (append-nil back))
turned front (Some r) back = append_assoc front (r.step ∷ []) (reverse back)
    ∙ ap (λ l. front ++ l) (sym (reverse-append back (r.step ∷ [])))

-- one step more was gone back
pub gone_back : (states : List Reached) (left index next : ℕ) (back longer whole : List Step)
    (o : Option Reached) → slice_get states index ≡ o → next ≡ state_before index o → longer ≡ back ++ step_to o
    → whole ≡ last_steps states (suc left) index ++ reverse back
    → whole ≡ last_steps states left next ++ reverse longer
gone_back states left index next back longer whole o known-o e f known = known
    ∙ ap (λ p. (last_steps states left (state_before index p) ++ step_to p) ++ reverse back) known-o
    ∙ turned (last_steps states left (state_before index o)) o back
    ∙ ap (λ i. last_steps states left i ++ reverse (back ++ step_to o)) (sym e)
    ∙ ap (λ l. last_steps states left next ++ reverse l) (sym f)
