-- Two blocks on different shards commute, whatever they are.
use Rattle.std.specs.Prelude.{◌≡◌, ℕ, zero, suc, List, ◌∷◌, ◌++◌, length, Some, slice_get}
use Rattle.mapworld_calls.specs.declared.reply.Reply.{Reply}
use Rattle.mapworld_calls.specs.declared.block.Block.{Block}
use Rattle.mapworld_calls.specs.Setup.{Setup, Laws}
use Rattle.mapworld_calls.specs.Frame.{AreApart}
use Rattle.mapworld_calls.specs.Replay.{told_by, frame_of, contents, before}
use Rattle.mapworld_calls.specs.Agrees.{Agrees}

-- where the element of each place stands once those at place n and behind it have changed places
abbrev pub swapped : ℕ → ℕ → ℕ
swapped zero zero = 1
swapped zero (suc zero) = 0
swapped zero (suc (suc i)) = suc (suc i)
swapped (suc n) zero = zero
swapped (suc n) (suc i) = suc (swapped n i)

-- two neighbours may change places: each block tells what it told, contents are the same, and so are all replies
pub record MayChangePlaces {K V D T : Type 0} (A : Type 0) (w : Setup K V D T) (bs bs' : List (Block K)) (n : ℕ) : Type
    0 where
  pub listed : (i : ℕ) (d : Block K) → slice_get bs i ≡ Some d → slice_get bs' (swapped n i) ≡ Some d
  pub tell : (i m : ℕ) (d : Block K) → slice_get bs i ≡ Some d
      → told_by w {A = A} m d (before w bs' (swapped n i)) ≡ told_by w m d (before w bs i)
  pub contents_stay : (q : K) → contents w bs' q ≡ contents w bs q
  pub replies_stay : (pairs : List (K × V)) (replies : List (Reply K V T A)) → Agrees w bs pairs replies
      → Agrees w bs' pairs replies

abbrev pub OtherShardsCommute : Type 0 → Type 0 → Type 0 → Type 0 → Type 0 → Type 0
OtherShardsCommute K V D T A =
    (w : Setup K V D T) → Laws w → (front : List (Block K)) (b c : Block K) (later : List (Block K))
    → AreApart (frame_of w) b c
    → MayChangePlaces A w (front ++ b ∷ c ∷ later) (front ++ c ∷ b ∷ later) (length front)
