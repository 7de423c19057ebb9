-- How a list of blocks changes in one step: a block does one more call or one more key, its end is written into it, or
-- a block is added at the end.
use Rattle.std.specs.Prelude.{◌≡◌, ℕ, suc, ◌+◌, ◌<◌, ◌≤◌, if◌then◌else◌, List, [], ◌∷◌, ◌++◌, Option, Some, slice_get}
use Rattle.mapworld_calls.specs.declared.block.Block.{Block}
use Rattle.mapworld_calls.specs.Pairs.{pair_of, AreDistinct}
use Rattle.mapworld_calls.specs.declared.ask.Ask.{Ask}
use Rattle.mapworld_calls.specs.declared.ask.Ask.TheVariants as ask
use Rattle.mapworld_calls.specs.declared.ask.Walk.{Walk}
use Rattle.mapworld_calls.specs.declared.reply.Reply.{Reply}
use Rattle.mapworld_calls.specs.Calls.{At}
use Rattle.mapworld_calls.specs.Setup.{Setup, ask_at}
use Rattle.mapworld_calls.specs.Replay.{one, visit, block_work, reached, before}

-- the block goes on: it is of the same call and the same visit, and what it has done is done
pub record GoesOn {K : Type 0} (b c : Block K) : Type 0 where
  pub thread : c.thread ≡ b.thread
  pub call : c.call ≡ b.call
  pub visit : c.visit ≡ b.visit
  pub done : b.done.value ≤ c.done.value
  pub more : List K
  pub visited : c.visited.items ≡ b.visited.items ++ more

-- where a block's key is after all the calls that the block has done
abbrev pub state_of : {K V D T : Type 0} → Setup K V D T → List (Block K) → ℕ → Block K → K → At K V
state_of w bs i b k = reached w b.thread b.call b.done.value (before w bs i k)

-- the block at a place makes its next call, on its key
pub record Calls {K V D T : Type 0} (w : Setup K V D T) (bs : List (Block K)) (i : ℕ) (b c : Block K) (k : K)
    (a : Ask K V D) : Type 0 where
  pub listed : slice_get bs i ≡ Some b
  pub same : GoesOn b c
  pub key : block_work w b ≡ one k
  pub asked : ask_at w b.thread (b.call + b.done.value) ≡ Some a
  pub counted : c.done.value ≡ suc b.done.value

-- the block at a place, a walk's visit, does one more key
pub record Visits {K V D T : Type 0} (w : Setup K V D T) (bs : List (Block K)) (i : ℕ) (b c : Block K) (f : Walk D)
    (k : K) : Type 0 where
  pub listed : slice_get bs i ≡ Some b
  pub same : GoesOn b c
  pub walk : block_work w b ≡ visit f
  pub on : w.route k ≡ b.visit
  pub added : c.visited.items ≡ b.visited.items ++ k ∷ []

-- only the end is written into the block at a place
pub record Ends {K : Type 0} (bs : List (Block K)) (i : ℕ) (b c : Block K) : Type 0 where
  pub listed : slice_get bs i ≡ Some b
  pub same : GoesOn b c
  pub counted : c.done.value ≡ b.done.value
  pub visited : c.visited.items ≡ b.visited.items

-- no walk that is answered has the block
abbrev pub IsUnfinished : {K V D T A : Type 0} → Setup K V D T → List (Reply K V T A) → Block K → Type 0
IsUnfinished {K} {V} {D} {T} {A} w replies b =
    (i : ℕ) (r : Reply K V T A) → slice_get replies i ≡ Some r
    → (f : Walk D) → ask_at w r.thread r.call ≡ Some (ask.Walk f) → b.thread ≡ r.thread → b.call ≡ r.call → ⊥

-- the block is of a later call than all that its thread was answered
abbrev pub IsOfLaterCall : {K V T A : Type 0} → List (Reply K V T A) → Block K → Type 0
IsOfLaterCall {K} {V} {T} {A} replies b =
    (i : ℕ) (r : Reply K V T A) → slice_get replies i ≡ Some r → b.thread ≡ r.thread → r.call < b.call

-- of these pairs the key's is this one, or it has none, and all other keys have the pairs that they had
pub record IsPut {K V D T : Type 0} (w : Setup K V D T) (pairs pairs' : List (K × V)) (k : K)
    (o : Option (K × V)) : Type 0 where
  pub distinct : AreDistinct w.eq pairs'
  pub put : (q : K) → pair_of w.eq pairs' q ≡ (if w.eq k q then o else pair_of w.eq pairs q)
