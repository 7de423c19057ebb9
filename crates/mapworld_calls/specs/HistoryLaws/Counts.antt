-- What a walk that counts is answered where the map stays as it is meanwhile.
use Rattle.std.specs.Prelude.{◌≡◌, ℕ, ◌≤◌, ◌==◌, List, Some, slice_get, length}
use Rattle.mapworld_calls.specs.declared.reply.Reply.{Reply}
use Rattle.mapworld_calls.specs.Programs.{saturated}
use Rattle.mapworld_calls.specs.declared.block.Block.{Block}
use Rattle.mapworld_calls.specs.Pairs.{pair_of, AreDistinct}
use Rattle.mapworld_calls.specs.declared.ask.Ask.TheVariants as ask
use Rattle.mapworld_calls.specs.declared.ask.Walk.TheVariants as walk
use Rattle.mapworld_calls.specs.declared.reply.Answer.TheVariants as answer
use Rattle.mapworld_calls.specs.Setup.{Setup, Laws, ask_at}
use Rattle.mapworld_calls.specs.Replay.{before}
use Rattle.mapworld_calls.specs.HistoryLaws.Worlds.{IsWorld, RouteWithin, StandsBetween, IsLeftAlone}

-- these are the pairs of the map when the turn of the block at that place comes
pub record AreThePairs {K V D T : Type 0} (w : Setup K V D T) (bs : List (Block K)) (i : ℕ)
    (pairs : List (K × V)) : Type 0 where
  pub distinct : AreDistinct w.eq pairs
  pub are : (q : K) → pair_of w.eq pairs q ≡ before w bs i q

-- `len` is their number, saturating; `is_empty` says whether it is 0; and `capacity` is no less
pub record CountsThem {K V D T A : Type 0} (w : Setup K V D T) (r : Reply K V T A) (pairs : List (K × V)) : Type 0 where
  pub len : ask_at w r.thread r.call ≡ Some (ask.Walk walk.Len) → r.answer ≡ answer.Count (saturated (length pairs))
  pub is_empty : ask_at w r.thread r.call ≡ Some (ask.Walk walk.IsEmpty) → r.answer ≡ answer.Flag (length pairs == 0)
  pub capacity : ask_at w r.thread r.call ≡ Some (ask.Walk walk.Capacity)
      → (n : ℕ) × (length pairs ≤ n) × (r.answer ≡ answer.Count (saturated n))

-- where no other block changes a pair from a walk's first visit to its last, it counts the pairs that were there before
-- it
abbrev pub CountsAreNumbers : Type 0 → Type 0 → Type 0 → Type 0 → Type 0 → Type 0
CountsAreNumbers K V D T A =
    (w : Setup K V D T) → Laws w → RouteWithin w → (bs : List (Block K)) (replies : List (Reply K V T A))
    → IsWorld w bs replies
    → (i : ℕ) (r : Reply K V T A) → slice_get replies i ≡ Some r
    → (first last : ℕ) → StandsBetween bs r.thread r.call first last
    → ((q : K) → IsLeftAlone w bs r.thread r.call first last q)
    → (pairs : List (K × V)) → AreThePairs w bs first pairs → CountsThem w r pairs
