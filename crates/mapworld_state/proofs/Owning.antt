-- Which block a step counts in, and which guard a thread has.
use Rattle.std.proofs.Common.{◌≡◌, ℕ, Bool, true, false, if◌then◌else◌, Option, Some, None, sym, ◌∙◌}
use Rattle.std.proofs.lemmas.Option.{none-some}
use Rattle.mapworld_state.specs.declared.place.Way.{Way}
use Rattle.mapworld_state.specs.declared.place.Guard.{Guard}
use Rattle.mapworld_state.specs.declared.place.Guard.TheVariants as guard
use Rattle.mapworld_state.specs.declared.place.Phase.{Phase}
use Rattle.mapworld_state.specs.Moves.{is_told, start_counts}

-- the block that a start or a release counts in is the thread's
pub if-own : (b : Bool) (block : Option ℕ) (i : ℕ) → (if b then block else None) ≡ Some i → block ≡ Some i
if-own true block i h = h
if-own false block i h = absurd (none-some i h)

pub starts-own : {K V D T A : Type 0} (f : Phase K V D T A) (block : Option ℕ) (i : ℕ) → start_counts f block ≡ Some i
    → block ≡ Some i
starts-own f block i h = if-own (is_told f) block i h

-- a guard lends its pair in one way
pub same-kind : {K : Type 0} (g : Option (Guard K)) (k k' : Way K) → g ≡ Some (guard.Pair k) → g ≡ Some (guard.Pair k')
    → k ≡ k'
same-kind g k k' e f = let both : Some (guard.Pair k) ≡ Some (guard.Pair k') = sym e ∙ f in cc
