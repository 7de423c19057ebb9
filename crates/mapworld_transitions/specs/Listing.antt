-- What the code does to the list of blocks.
use Rattle.std.specs.Prelude.{◌≡◌, ℕ, ◌≤◌, List, [], ◌∷◌, ◌++◌, Option, Some, None, slice_get}
use Rattle.mapworld_calls.specs.declared.block.Block.{Block}
use Rattle.mapworld_transitions.specs.declared.blocks.Started.{Started}

-- the block of a place, if it has one, is listed, and of no later call than that one
abbrev pub CanCount : {K : Type 0} → List (Block K) → Option ℕ → ℕ → Type 0
CanCount {K} bs index call = (i : ℕ) → index ≡ Some i → (b : Block K) × (slice_get bs i ≡ Some b) × (b.call ≤ call)

-- a block that is listed with its call started
pub record IsNew {K : Type 0} (started : Started) (position n : ℕ) (b : Block K) : Type 0 where
  pub thread : b.thread ≡ started.thread
  pub call : b.call ≡ started.call
  pub visit : b.visit ≡ 0
  pub start : b.start ≡ started.start
  pub position_is : b.position ≡ position
  pub end : b.end ≡ None
  pub done : b.done.value ≡ n
  pub visited : b.visited.items ≡ []

-- the blocks behind a step that may list one
abbrev pub AddsBlock : {K : Type 0} → List (Block K) → Option ℕ → Started → ℕ → List (Block K) → Type 0
AddsBlock bs None started position bs' = bs' ≡ bs
AddsBlock {K} bs (Some n) started position bs' = (b : Block K) × IsNew started position n b × (bs' ≡ bs ++ b ∷ [])

-- the block of a walk's visit that is listed with those keys done
pub record IsNewVisit {K : Type 0} (visit_number : ℕ) (keys : List K) (started : Started) (position : ℕ)
    (b : Block K) : Type 0 where
  pub thread : b.thread ≡ started.thread
  pub call : b.call ≡ started.call
  pub visit : b.visit ≡ visit_number
  pub start : b.start ≡ started.start
  pub position_is : b.position ≡ position
  pub end : b.end ≡ None
  pub done : b.done.value ≡ 0
  pub visited : b.visited.items ≡ keys

abbrev pub AddsVisit : {K : Type 0} → List (Block K) → ℕ → List K → Started → ℕ → List (Block K) → Type 0
AddsVisit {K} bs visit keys started position bs' = (b : Block K) × IsNewVisit visit keys started position b
    × (bs' ≡ bs ++ b ∷ [])
