-- The replay: one plain map takes each block whole, in the order in which the blocks are listed.
use Rattle.std.specs.Prelude.{ℕ, zero, suc, ◌+◌, Bool, false, if◌then◌else◌, ◌==◌, List, Option, Some, None, slice_get}
use Rattle.std.specs.Prelude.{option_map, filter}
use Rattle.std.specs.Option.{option_and_then}
use Rattle.std.specs.List.{list_any}
use Rattle.mapworld_calls.specs.declared.ask.Ask.{Ask}
use Rattle.mapworld_calls.specs.declared.ask.Ask.TheVariants as ask
use Rattle.mapworld_calls.specs.declared.ask.Walk.{Walk}
use Rattle.mapworld_calls.specs.declared.block.Block.{Block}
use Rattle.mapworld_calls.specs.declared.reply.Answer.{Answer}
use Rattle.mapworld_calls.specs.Deeds.{Deeds}
use Rattle.mapworld_calls.specs.Pairs.{opening_pair}
use Rattle.mapworld_calls.specs.Programs.{keyed_key, opening_key, key_of}
use Rattle.mapworld_calls.specs.Calls.{At, free, pair_in, told, after, visit_answer, visit_leaves}
use Rattle.mapworld_calls.specs.Setup.{Setup, ask_at}
use Rattle.mapworld_calls.specs.Frame.{Frame}
use Rattle.mapworld_calls.specs.Frame as frame

-- what a block works on: the key that its call was handed, or the keys of a shard that a walk visits
pub data Work (K D : Type 0) : Type 0 where
  one : K → Work K D
  visit : Walk D → Work K D
  nothing : Work K D

abbrev pub work_of : {K V D : Type 0} → Option (Ask K V D) → Work K D
work_of (Some (ask.Keyed k)) = one (keyed_key k)
work_of (Some (ask.Begin b)) = one (opening_key b)
work_of (Some (ask.Walk f)) = visit f
work_of a = nothing

-- a call that a program has is made, and past its end nothing is
abbrev pub after_ask : {D K V T : Type 0} → Deeds D K V T → Option (Ask K V D) → At K V → At K V
after_ask deeds None s = s
after_ask deeds (Some a) s = after deeds a s

module _ {K V D T : Type 0} (w : Setup K V D T) where
  -- where the calls of a thread from c on, n of them, lead from the pair that the first one found
  abbrev pub reached : ℕ → ℕ → ℕ → Option (K × V) → At K V
  reached t c zero o = free o
  reached t c (suc n) o = after_ask w.deeds (ask_at w t (c + n)) (reached t c n o)

  abbrev pub block_work : Block K → Work K D
  block_work b = work_of (ask_at w b.thread b.call)

  -- the keys that a visit has done, all of its own shard
  abbrev pub done_keys : Block K → List K
  done_keys b = filter (λ k. w.route k == b.visit) b.visited.items

  -- the shard that a block works on
  abbrev pub shard_by : Work K D → Block K → Option ℕ
  shard_by (one k) b = Some (w.route k)
  shard_by (visit f) b = Some b.visit
  shard_by nothing b = None

  -- whether the block has worked on a key
  abbrev pub works_on : Work K D → Block K → K → Bool
  works_on (one k) b q = w.eq k q
  works_on (visit f) b q = list_any (λ k. w.eq k q) (done_keys b)
  works_on nothing b q = false

  -- what the block leaves where it has worked
  abbrev pub left_by : Work K D → Block K → Option (K × V) → Option (K × V)
  left_by (one k) b o = pair_in (reached b.thread b.call b.done.value o)
  left_by (visit f) b o = visit_leaves w.deeds f o
  left_by nothing b o = o

  -- what a key has after a block, where it had o before
  abbrev pub left : Block K → K → Option (K × V) → Option (K × V)
  left b q o = if works_on (block_work b) b q then left_by (block_work b) b o else o

  -- what a block tells as its n-th call, or of the n-th key that it visits, where keys have this before it
  abbrev pub told_as : {A : Type 0} → Work K D → Block K → ℕ → (K → Option (K × V)) → Option (Answer K V T A)
  told_as (one k) b n m = option_map (λ a. told w.deeds a (reached b.thread b.call n (m k)))
      (ask_at w b.thread (b.call + n))
  told_as (visit f) b n m = option_map (λ k. visit_answer w.deeds f (m k)) (slice_get (done_keys b) n)
  told_as nothing b n m = None

  abbrev pub told_by : {A : Type 0} → ℕ → Block K → (K → Option (K × V)) → Option (Answer K V T A)
  told_by n b m = told_as (block_work b) b n m

  -- the world's blocks as blocks of a plain map
  abbrev pub frame_of : Frame (Block K) K (Option (K × V))
  frame_of =
      record {
        left = left;
        shard = λ b. shard_by (block_work b) b;
        route = w.route;
        opening = opening_pair w.eq w.opening;
      }

-- what a key has after these blocks
abbrev pub contents : {K V D T : Type 0} → Setup K V D T → List (Block K) → K → Option (K × V)
contents w bs = frame.contents (frame_of w) bs

-- what a key has when the turn of the block at that place comes
abbrev pub before : {K V D T : Type 0} → Setup K V D T → List (Block K) → ℕ → K → Option (K × V)
before w bs i = frame.before (frame_of w) bs i

-- no later block of the list is on the shard of the block at that place
abbrev pub IsLastOnShard : {K V D T : Type 0} → Setup K V D T → List (Block K) → ℕ → Block K → Type 0
IsLastOnShard w bs i b = frame.IsLastOnShard (frame_of w) bs i b

-- the key that a block works on, if its call was handed one, and the pair that it found there
abbrev pub block_key : {K V D T : Type 0} → Setup K V D T → Block K → Option K
block_key w b = option_and_then key_of (ask_at w b.thread b.call)

abbrev pub at_key : {K V : Type 0} → (K → Option (K × V)) → Option K → Option (K × V)
at_key m None = None
at_key m (Some k) = m k

abbrev pub found : {K V D T : Type 0} → Setup K V D T → List (Block K) → ℕ → Block K → Option (K × V)
found w bs i b = at_key (before w bs i) (block_key w b)
