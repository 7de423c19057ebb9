-- A world of maps as the laws see it: nothing of how it is stepped.
use Rattle.std.specs.Prelude.{◌≡◌, ℕ, ◌<◌, ◌≤◌, List, Option, Some, slice_get}
use Rattle.mapworld_calls.specs.declared.reply.Reply.{Reply}
use Rattle.mapworld_calls.specs.declared.block.Block.{Block}
use Rattle.mapworld_calls.specs.Setup.{Setup}
use Rattle.mapworld_calls.specs.Replay.{left, before}
use Rattle.mapworld_calls.specs.Agrees.{Agrees}
use Rattle.mapworld_calls.specs.Placed.{WellPlaced}

-- a world whose blocks are well placed, and whose contents and replies are those of its blocks
pub record IsWorld {K V D T A : Type 0} (w : Setup K V D T) (bs : List (Block K))
    (replies : List (Reply K V T A)) : Type 0 where
  pub steps : List ℕ
  pub started : ℕ → Option ℕ
  pub pairs : List (K × V)
  pub placed : WellPlaced w steps started bs replies
  pub agrees : Agrees w bs pairs replies

-- each key is on one of the world's shards
abbrev pub RouteWithin : {K V D T : Type 0} → Setup K V D T → Type 0
RouteWithin {K} w = (k : K) → w.route k < w.shards

-- the block at that place is of that call
pub record IsBlockOf {K : Type 0} (bs : List (Block K)) (i : ℕ) (b : Block K) (t c : ℕ) : Type 0 where
  pub listed : slice_get bs i ≡ Some b
  pub thread : b.thread ≡ t
  pub call : b.call ≡ c

-- all blocks of that call stand from the place `first` to the place `last`
abbrev pub StandsBetween : {K : Type 0} → List (Block K) → ℕ → ℕ → ℕ → ℕ → Type 0
StandsBetween {K} bs t c first last = (i : ℕ) (b : Block K) → IsBlockOf bs i b t c → (first ≤ i) × (i ≤ last)

-- from the place `first` to the place `last` no block of another call changes what the key has
abbrev pub IsLeftAlone : {K V D T : Type 0} → Setup K V D T → List (Block K) → ℕ → ℕ → ℕ → ℕ → K → Type 0
IsLeftAlone {K} w bs t c first last q =
    (i : ℕ) (b : Block K) → slice_get bs i ≡ Some b → first ≤ i → i ≤ last → (b.thread ≡ t → b.call ≡ c → ⊥)
    → left w b q (before w bs i q) ≡ before w bs i q
