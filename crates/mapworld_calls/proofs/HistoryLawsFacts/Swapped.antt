-- Two neighbours that change places: where each block stands, and what it finds there.
use Rattle.std.proofs.Common.{◌≡◌, ℕ, zero, suc, List, [], ◌∷◌, ◌++◌, length, Some, slice_get, take, fold, refl, sym}
use Rattle.std.proofs.Common.{subst}
use Rattle.std.proofs.lemmas.Option.{same_Some}
use Rattle.mapworld_calls.specs.Frame.{Frame, IsOn, KeepsToShard, AreApart}
use Rattle.mapworld_calls.proofs.Frames.{apart-turned, apart-idle, contents-swapped}
use Rattle.mapworld_calls.specs.HistoryLaws.Shards.{swapped}

pub swapped-listed : {B : Type 0} (front : List B) (b c : B) (later : List B) (i : ℕ) (d : B)
    → slice_get (front ++ b ∷ c ∷ later) i ≡ Some d
    → slice_get (front ++ c ∷ b ∷ later) (swapped (length front) i) ≡ Some d
swapped-listed [] b c later zero d at = at
swapped-listed [] b c later (suc zero) d at = at
swapped-listed [] b c later (suc (suc i)) d at = at
swapped-listed (x ∷ front) b c later zero d at = at
swapped-listed (x ∷ front) b c later (suc i) d at = swapped-listed front b c later i d at

module _ {B K O : Type 0} (f : Frame B K O) (keeps : KeepsToShard f) (b c : B) (apart : AreApart f b c) (later : List B)
    (q : K) where
  -- what a key has when the turn of a block on its shard comes
  pub swapped-finds : (front : List B) (o : O) (i : ℕ) (d : B) → slice_get (front ++ b ∷ c ∷ later) i ≡ Some d
      → IsOn f d q
      → fold (λ x e. f.left e q x) o (take (swapped (length front) i) (front ++ c ∷ b ∷ later)) ≡ fold
      (λ x e. f.left e q x) o (take i (front ++ b ∷ c ∷ later))
  swapped-finds [] o zero d at on =
      apart-idle f keeps b c q apart (subst (λ (e : B). IsOn f e q) (sym (same_Some b d at)) on) o
  swapped-finds [] o (suc zero) d at on =
      sym (apart-idle f keeps c b q (apart-turned f b c apart)
      (subst (λ (e : B). IsOn f e q) (sym (same_Some c d at)) on) o)
  swapped-finds [] o (suc (suc i)) d at on =
      sym (contents-swapped (record f { opening = λ k. o }) keeps [] (take i later) b c apart q)
  swapped-finds (x ∷ front) o zero d at on = refl
  swapped-finds (x ∷ front) o (suc i) d at on = swapped-finds front (f.left x q o) i d at on
