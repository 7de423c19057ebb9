-- A plain map that takes blocks one after another, whatever a block is: each works key by key, and on the keys of one
-- shard alone.
use Rattle.std.specs.Prelude.{◌≡◌, ℕ, ◌<◌, ◌⊎◌, ◌==◌, Bool, false, List, Option, Some, None, fold, take, slice_get}
use Rattle.std.specs.Prelude.{filter}

pub record Frame (B K O : Type 0) : Type 0 where
  -- what a key has after a block, where it had this before
  pub left : B → K → O → O
  -- the shard that a block works on, and the one that a key is on
  pub shard : B → Option ℕ
  pub route : K → ℕ
  pub opening : K → O

-- the key is on the block's shard
abbrev pub IsOn : {B K O : Type 0} → Frame B K O → B → K → Type 0
IsOn f b q = f.shard b ≡ Some (f.route q)

-- a block leaves all keys of other shards as they are
abbrev pub KeepsToShard : {B K O : Type 0} → Frame B K O → Type 0
KeepsToShard {B} {K} {O} f = (b : B) (q : K) (o : O) → (IsOn f b q → ⊥) → f.left b q o ≡ o

-- what a block says is told from its own shard
abbrev pub LooksAtShard : {B K O S : Type 0} → Frame B K O → (B → (K → O) → S) → Type 0
LooksAtShard {B} {K} {O} f says =
    (b : B) (m m' : K → O) → ((q : K) → IsOn f b q → m q ≡ m' q) → says b m ≡ says b m'

-- what a key has after these blocks
abbrev pub contents : {B K O : Type 0} → Frame B K O → List B → K → O
contents f bs q = fold (λ o b. f.left b q o) (f.opening q) bs

-- what a key has when the turn of the block at that place comes
abbrev pub before : {B K O : Type 0} → Frame B K O → List B → ℕ → K → O
before f bs i = contents f (take i bs)

-- two blocks are on different shards
abbrev pub AreApart : {B K O : Type 0} → Frame B K O → B → B → Type 0
AreApart f b c = (s : ℕ) → f.shard b ≡ Some s → f.shard c ≡ Some s → ⊥

-- no later block of the list is on the shard of the block at that place
abbrev pub IsLastOnShard : {B K O : Type 0} → Frame B K O → List B → ℕ → B → Type 0
IsLastOnShard {B} f bs i b = (j : ℕ) (d : B) → i < j → slice_get bs j ≡ Some d → AreApart f b d

-- no later block of the list changes what the block at that place left
abbrev pub IsSettled : {B K O : Type 0} → Frame B K O → List B → ℕ → B → Type 0
IsSettled {B} {K} f bs i b =
    (j : ℕ) (d : B) → i < j → slice_get bs j ≡ Some d
    → (q : K) → IsOn f b q → f.left d q (before f bs j q) ≡ before f bs j q

-- in the place of the block at i another changes nothing
abbrev pub IsQuiet : {B K O : Type 0} → Frame B K O → List B → ℕ → B → B → Type 0
IsQuiet {B} {K} f bs i b c = (q : K) → f.left c q (before f bs i q) ≡ f.left b q (before f bs i q)

-- the block at a place gives way to another on its shard: that changes nothing, or no later block is on the shard
pub record Grows {B K O : Type 0} (f : Frame B K O) (bs : List B) (i : ℕ) (b c : B) : Type 0 where
  pub listed : slice_get bs i ≡ Some b
  pub shard : f.shard c ≡ f.shard b
  pub way : IsQuiet f bs i b c ⊎ IsLastOnShard f bs i b

abbrev pub is_shard : Option ℕ → ℕ → Bool
is_shard None s = false
is_shard (Some r) s = r == s

-- the blocks of one shard, in their order
abbrev pub of_shard : {B K O : Type 0} → Frame B K O → ℕ → List B → List B
of_shard f s bs = filter (λ b. is_shard (f.shard b) s) bs
