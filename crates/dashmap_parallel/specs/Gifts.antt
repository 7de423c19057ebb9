-- Items that a closure is given, each with a party of its own.
use Rattle.std.specs.Prelude.{◌≡◌, ℕ, ◌<◌, List, length, slice_index_or, Ok}
use Rattle.std.specs.declared.result.Result.{Result}
use Rattle.std.specs.Borrow.{MutBor}
use Rattle.std.specs.Fn.{FnReturns}
use denote.Param.Members.{Shared}

-- a closure that was given an item and a party answered Ok, and took the party on
pub record TookOn {F X D E : Type 0}
    (g : Shared F (X × (MutBor D × Unit {0})) (Result (Unit {0}) E × (MutBor D × Unit {0}))) (f : F) (from : D) (x : X)
    (to : D) : Type 0 where
  pub party : MutBor D
  pub shows : party.now ≡ from
  pub left : MutBor D
  pub leaves : left.now ≡ to
  pub says : FnReturns g f (x, (party, tt)) (Ok tt, (left, tt))

-- R holds of each item and of what stands at its place before and after
pub record EachBeside {X D : Type 0} (R : D → X → D → Type 0) (xs : List X) (old new : List D) : Type 0 where
  pub same : length new ≡ length old
  pub each : (k : ℕ) (x : X) (d : D) → k < length xs
      → R (slice_index_or old k d) (slice_index_or xs k x) (slice_index_or new k d)
