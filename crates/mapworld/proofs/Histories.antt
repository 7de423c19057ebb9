-- What is said of states is said of their histories.
use Rattle.std.proofs.Common.{[], ◌∷◌, ◌++◌, map, ap, sym, ◌∙◌, append_assoc}
use Rattle.std.proofs.lemmas.List.{append-nil}
use Rattle.mapworld_state.specs.declared.step.Step.{Step}
use Rattle.mapworld_state.specs.Running.{StaysFixed}
use Rattle.mapworld_state.specs.State.{State, deadline_of, deadlines_of}
use Rattle.mapworld_state.proofs.InvariantFacts.Adding.{Step-adds, adds-more, adds-none}
use Rattle.mapworld_state.proofs.InvariantFacts.Building.{map-push}
use Rattle.mapworld.specs.History.{HistoryAddsTo, HistoryStaysFixed, history_of}

pub fixed-history : {K V S D T A : Type 0} (w w' : State K V S D T A) → StaysFixed w w'
    → HistoryStaysFixed (history_of w) (history_of w')
fixed-history w w' fixed = record {
  hasher = fixed.hasher;
  shards = fixed.shards;
  opening = fixed.opening;
  programs = fixed.programs;
}

-- one state's history adds to another's
abbrev pub AddsTo : {K V S D T A : Type 0} → State K V S D T A → State K V S D T A → Type 0
AddsTo v w = HistoryAddsTo (history_of v) (history_of w)

-- what no step, and what one more step, adds
pub history-none : {K V S D T A : Type 0} (w : State K V S D T A) → AddsTo w w
history-none w = (adds-none w, ([], sym (append-nil (deadlines_of w))))

pub history-more : {K V S D T A : Type 0} (v w w' : State K V S D T A) (s : Step) → AddsTo v w → Step-adds w w' s
    → AddsTo v w'
history-more v w w' s (before, more) added = (
  adds-more v w w' s before added,
  (
    more.0 ++ deadline_of s ∷ [],
    ap (λ z. map deadline_of z) added.steps ∙ map-push deadline_of w.steps s
        ∙ ap (λ z. z ++ deadline_of s ∷ []) more.1
        ∙ append_assoc (deadlines_of v) more.0 (deadline_of s ∷ []),
  ),
)
