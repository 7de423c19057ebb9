-- What a look adds to a walk's number.
use Rattle.std.proofs.Common.{◌≡◌, ℕ, true, false, List, length, refl}
use Rattle.mapworld_calls.specs.declared.ask.Walk.{Walk}
use Rattle.mapworld_calls.specs.declared.ask.Walk.TheVariants as walk
use Rattle.mapworld_state.specs.Walks.{gives_items, looked_count}

module _ {K V D : Type 0} (pairs : List (K × V)) (m : ℕ) where
  pub counts-none : (f : Walk D) → gives_items f ≡ true → looked_count f pairs m ≡ 0
  counts-none walk.Len h = absurd (cc)
  counts-none walk.IsEmpty h = absurd (cc)
  counts-none walk.Capacity h = absurd (cc)
  counts-none walk.ShrinkToFit h = absurd (cc)
  counts-none f h = refl

  pub counts-all : (f : Walk D) → gives_items f ≡ false → (f ≡ walk.Capacity → ⊥)
      → looked_count f pairs m ≡ length pairs
  counts-all (walk.Iter d stop) h other = absurd (cc)
  counts-all (walk.IterMut d stop) h other = absurd (cc)
  counts-all (walk.Retain d) h other = absurd (cc)
  counts-all (walk.AlterAll d) h other = absurd (cc)
  counts-all walk.Clear h other = absurd (cc)
  counts-all walk.Capacity h other = absurd (other refl)
  counts-all f h other = refl
