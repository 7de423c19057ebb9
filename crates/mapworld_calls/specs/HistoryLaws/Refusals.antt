-- What a refused call leaves: no block, so it changed no pair.
use Rattle.std.specs.Prelude.{◌≡◌, ℕ, ◌⊎◌, List, Some, None, slice_get, IsTrue}
use Rattle.mapworld_calls.specs.declared.reply.Reply.{Reply}
use Rattle.mapworld_calls.specs.Programs.{may_grow, opening_may_grow, may_be_locked}
use Rattle.mapworld_calls.specs.declared.block.Block.{Block}
use Rattle.mapworld_calls.specs.Deeds.{Deeds}
use Rattle.mapworld_calls.specs.declared.ask.Keyed.TheVariants as keyed
use Rattle.mapworld_calls.specs.declared.ask.Ask.{Ask}
use Rattle.mapworld_calls.specs.declared.ask.Ask.TheVariants as ask
use Rattle.mapworld_calls.specs.declared.ask.Held.{Held}
use Rattle.mapworld_calls.specs.declared.reply.Answer.TheVariants as answer
use Rattle.mapworld_calls.specs.Setup.{Setup, Laws, ask_at, session_of}
use Rattle.mapworld_calls.specs.Replay.{before}
use Rattle.mapworld_calls.specs.Agrees.{HasNoBlock, IsRefusedWalk, Agrees}
use Rattle.mapworld_calls.specs.HistoryLaws.Worlds.{IsWorld}

-- a call that was refused for memory is one that may grow and has no block; a walk has whole visits alone, and none of
-- the shard at which it was refused
abbrev pub IsRefusedForMemory : {K V D T : Type 0} → Setup K V D T → List (Block K) → ℕ → ℕ → Ask K V D → Type 0
IsRefusedForMemory w bs t c (ask.Keyed k) = IsTrue (may_grow k) × HasNoBlock bs t c
IsRefusedForMemory w bs t c (ask.Begin b) = IsTrue (opening_may_grow b) × HasNoBlock bs t c
IsRefusedForMemory w bs t c (ask.Held h) = ⊥
IsRefusedForMemory w bs t c (ask.Walk f) = IsRefusedWalk w bs t c f

abbrev pub RefusedForMemoryHasNoBlock : Type 0 → Type 0 → Type 0 → Type 0 → Type 0 → Type 0
RefusedForMemoryHasNoBlock K V D T A =
    (w : Setup K V D T) (bs : List (Block K)) (pairs : List (K × V)) (replies : List (Reply K V T A))
    → Agrees w bs pairs replies
    → (i : ℕ) (r : Reply K V T A) → slice_get replies i ≡ Some r → r.answer ≡ answer.NoMemory
    → (a : Ask K V D) → ask_at w r.thread r.call ≡ Some a → IsRefusedForMemory w bs r.thread r.call a

-- a call that was answered `Locked` is a try or has a deadline, and has no block
pub record IsRefusedAsLocked {K V D T : Type 0} (w : Setup K V D T) (bs : List (Block K)) (t c : ℕ) : Type 0 where
  pub ask : Ask K V D
  pub asked : ask_at w t c ≡ Some ask
  pub may : IsTrue (may_be_locked ask)
  pub none : HasNoBlock bs t c

abbrev pub LockedHasNoBlock : Type 0 → Type 0 → Type 0 → Type 0 → Type 0 → Type 0
LockedHasNoBlock K V D T A =
    (w : Setup K V D T) (bs : List (Block K)) (pairs : List (K × V)) (replies : List (Reply K V T A))
    → Agrees w bs pairs replies
    → (i : ℕ) (r : Reply K V T A) → slice_get replies i ≡ Some r → r.answer ≡ answer.Locked
    → IsRefusedAsLocked w bs r.thread r.call

-- the call stands in no session, or in one whose opening has no block
abbrev pub HasNoGuard : {K V D T : Type 0} → Setup K V D T → List (Block K) → ℕ → ℕ → Type 0
HasNoGuard w bs t c = (session_of w t c ≡ None) ⊎ ((o : ℕ) × (session_of w t c ≡ Some o) × HasNoBlock bs t o)

abbrev pub NoGuardIsAnswered : Type 0 → Type 0 → Type 0 → Type 0 → Type 0 → Type 0
NoGuardIsAnswered K V D T A =
    (w : Setup K V D T) (bs : List (Block K)) (pairs : List (K × V)) (replies : List (Reply K V T A))
    → Agrees w bs pairs replies
    → (i : ℕ) (r : Reply K V T A) → slice_get replies i ≡ Some r
    → (h : Held V D) → ask_at w r.thread r.call ≡ Some (ask.Held h) → HasNoGuard w bs r.thread r.call
    → r.answer ≡ answer.NoGuard

-- an insertion that is answered `NoMemory`, in a world in which its key has a pair at every place of the order of
-- blocks
pub record FindsAndIsRefused {K V D T A : Type 0} (k : K) (v u : V) (w : Setup K V D T) (bs : List (Block K))
    (replies : List (Reply K V T A)) : Type 0 where
  pub laws : Laws w
  pub world : IsWorld w bs replies
  pub place : ℕ
  pub reply : Reply K V T A
  pub listed : slice_get replies place ≡ Some reply
  pub asked : ask_at w reply.thread reply.call ≡ Some (ask.Keyed (keyed.Insert k u))
  pub refused : reply.answer ≡ answer.NoMemory
  pub had : (i : ℕ) → before w bs i k ≡ Some (k, v)

-- there is such a world: that blocks are well placed and replies are those of the replay doesn't say that a refused
-- insertion found no key
abbrev pub RefusalsMayFindTheirKey : Type 0 → Type 0 → Type 0 → Type 0 → Type 0 → Type 0
RefusalsMayFindTheirKey K V D T A =
    (deeds : Deeds D K V T) (k : K) (v u : V)
    → (w : Setup K V D T) × (bs : List (Block K)) × (replies : List (Reply K V T A))
    × FindsAndIsRefused k v u w bs replies
