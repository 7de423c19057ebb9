-- A plain map that takes blocks of any kind: blocks on different shards commute, the replay splits by shard, and what a
-- block that gives way to another changes.
use Rattle.std.proofs.Common.{◌≡◌, ℕ, ◌+◌, ◌<◌, ◌≤◌, ◌⊎◌, inl, inr, ⊎_elim, true, false, List, [], ◌∷◌, ◌++◌, length}
use Rattle.std.proofs.Common.{Option, Some, None, slice_get, slice_set, take, fold, refl, ap, sym, ◌∙◌, arith}
use Rattle.std.proofs.lemmas.Bool.{cases_eq, cases_lt}
use Rattle.std.proofs.lemmas.Option.{same_Some, none-some}
use Rattle.std.proofs.lemmas.List.Sums.{fold-append, fold_push}
use Rattle.std.proofs.Math.Seq.{take-append_seam, take-append-add}
use Rattle.mapworld_calls.specs.Frame.{Frame, IsOn, KeepsToShard, LooksAtShard, contents, before, AreApart}
use Rattle.mapworld_calls.specs.Frame.{IsLastOnShard, Grows, is_shard, of_shard}
use Rattle.mapworld_calls.specs.Laws.{Commute}
use Rattle.mapworld_calls.proofs.Folds.{fold-replaced, fold-last, take-set_above, take-set_below, slice_get-take}
use Rattle.mapworld_calls.proofs.Folds.{take-take}

on-cases_of : (o : Option ℕ) (n : ℕ) → (o ≡ Some n) ⊎ (o ≡ Some n → ⊥)
on-cases_of None n = inr (λ e. absurd (none-some n e))
on-cases_of (Some s) n = ⊎_elim (λ e. inl (ap Some e)) (λ ne. inr (λ e. ne (same_Some s n e))) (cases_eq s n)

module _ {B K O : Type 0} (f : Frame B K O) where
  -- a key is on a block's shard or it isn't
  pub on-cases : (b : B) (q : K) → IsOn f b q ⊎ (IsOn f b q → ⊥)
  on-cases b q = on-cases_of (f.shard b) (f.route q)

  pub contents-push : (bs : List B) (b : B) (q : K) → contents f (bs ++ b ∷ []) q ≡ f.left b q (contents f bs q)
  contents-push bs b q = fold_push (λ o d. f.left d q o) (f.opening q) bs b

  pub apart-turned : (b c : B) → AreApart f b c → AreApart f c b
  apart-turned b c apart s hc hb = apart s hb hc

take-one : {X : Type 0} (front later : List X) (x : X) → take (length front + 1) (front ++ x ∷ later) ≡ front ++ x ∷ []
take-one front later x = take-append-add front (x ∷ later) 1

module _ {B K O : Type 0} (f : Frame B K O) (keeps : KeepsToShard f) where
  -- a block on another shard leaves the key as it is
  pub apart-idle : (b d : B) (q : K) → AreApart f b d → IsOn f b q → (o : O) → f.left d q o ≡ o
  apart-idle b d q apart on o = keeps d q o (λ its. apart (f.route q) on its)

  swapped-left : (b c : B) → AreApart f b c → (q : K) (o : O) → f.left c q (f.left b q o) ≡ f.left b q (f.left c q o)
  swapped-left b c apart q o = ⊎_elim yes no (on-cases f b q)
    where
      yes : IsOn f b q → f.left c q (f.left b q o) ≡ f.left b q (f.left c q o)
      yes on = apart-idle b c q apart on (f.left b q o) ∙ sym (ap (λ p. f.left b q p) (apart-idle b c q apart on o))

      no : (IsOn f b q → ⊥) → f.left c q (f.left b q o) ≡ f.left b q (f.left c q o)
      no off = ap (λ p. f.left c q p) (keeps b q o off) ∙ sym (keeps b q (f.left c q o) off)

  -- two neighbours on different shards may change places
  pub contents-swapped : (front later : List B) (b c : B) → AreApart f b c → (q : K)
      → contents f (front ++ b ∷ c ∷ later) q ≡ contents f (front ++ c ∷ b ∷ later) q
  contents-swapped front later b c apart q =
      fold-append (λ o d. f.left d q o) (f.opening q) front (b ∷ c ∷ later)
      ∙ ap (λ o. fold (λ o d. f.left d q o) o later) (swapped-left b c apart q (contents f front q))
      ∙ sym (fold-append (λ o d. f.left d q o) (f.opening q) front (c ∷ b ∷ later))

  before-first : (front later : List B) (b : B) (q : K) → before f (front ++ b ∷ later) (length front) q ≡ contents f
      front q
  before-first front later b q = ap (λ xs. contents f xs q) (take-append_seam front (b ∷ later))

  before-second : (front later : List B) (b c : B) (q : K) → before f (front ++ b ∷ c ∷ later) (length front + 1) q
      ≡ f.left b q (contents f front q)
  before-second front later b c q = ap (λ xs. contents f xs q) (take-one front (c ∷ later) b)
      ∙ contents-push f front b q

  -- and a block finds the same on its shard in both orders
  pub second-finds : (front later : List B) (b c : B) → AreApart f b c → (q : K) → IsOn f c q
      → before f (front ++ b ∷ c ∷ later) (length front + 1) q ≡ before f (front ++ c ∷ b ∷ later) (length front) q
  second-finds front later b c apart q on =
      before-second front later b c q
      ∙ apart-idle c b q (apart-turned f b c apart) on (contents f front q)
      ∙ sym (before-first front (b ∷ later) c q)

  split-step : (b : B) (bs : List B) (q : K) (o : O) (is : _) → is_shard (f.shard b) (f.route q) ≡ is
      → ((p : O) → fold (λ x d. f.left d q x) p (of_shard f (f.route q) bs) ≡ fold (λ x d. f.left d q x) p bs)
      → fold (λ x d. f.left d q x) o (of_shard f (f.route q) (b ∷ bs)) ≡ fold (λ x d. f.left d q x) o (b ∷ bs)
  split-step b bs q o true is rest = rw is (rest (f.left b q o))
  split-step b bs q o false is rest =
      rw is (rest o ∙ sym (ap (λ p. fold (λ x d. f.left d q x) p bs) (keeps b q o (λ on. off (f.shard b) is on))))
    where
      off : (s : Option ℕ) → is_shard s (f.route q) ≡ false → s ≡ Some (f.route q) → ⊥
      off None e on = none-some (f.route q) on
      off (Some r) e on = let same : r ≡ f.route q = same_Some r (f.route q) on in absurd (grind (arith, e, same))

  -- what a key has is told by the blocks of its shard alone
  fold-split : (bs : List B) (q : K) (o : O) → fold (λ x d. f.left d q x) o (of_shard f (f.route q) bs) ≡ fold
      (λ x d. f.left d q x) o bs
  fold-split [] q o = refl
  fold-split (b ∷ bs) q o = split-step b bs q o (is_shard (f.shard b) (f.route q)) refl (λ p. fold-split bs q p)

  pub contents-split : (bs : List B) (q : K) → contents f (of_shard f (f.route q) bs) q ≡ contents f bs q
  contents-split bs q = fold-split bs q (f.opening q)

module _ {B K O : Type 0} (f : Frame B K O) (keeps : KeepsToShard f) (bs : List B) (i : ℕ) (b c : B)
    (g : Grows f bs i b c) where
  -- what the one leaves at a key is what the other leaves
  abbrev pub AreAlike : K → Type 0
  AreAlike q = f.left c q (before f bs i q) ≡ f.left b q (before f bs i q)

  pub alike-elsewhere : (q : K) → (IsOn f b q → ⊥) → AreAlike q
  alike-elsewhere q off =
      keeps c q (before f bs i q) (λ on. off (sym g.shard ∙ on)) ∙ sym (keeps b q (before f bs i q) off)

  -- a key at which the two are alike has the same at each turn, and at the end
  pub turn-alike : (j : ℕ) (q : K) → AreAlike q → before f (slice_set bs i c) j q ≡ before f bs j q
  turn-alike j q alike = ⊎_elim within above (cases_lt i j)
    where
      above : j ≤ i → before f (slice_set bs i c) j q ≡ before f bs j q
      above le = ap (λ xs. contents f xs q) (take-set_above bs i j c le)

      within : i < j → before f (slice_set bs i c) j q ≡ before f bs j q
      within lt =
          ap (λ xs. contents f xs q) (take-set_below bs i j c lt)
          ∙ fold-replaced (λ o d. f.left d q o) (f.opening q) (take j bs) i b c (slice_get-take bs i j b lt g.listed)
          (rw (take-take bs i j (omega arith)) alike)

  pub contents-alike : (q : K) → AreAlike q → contents f (slice_set bs i c) q ≡ contents f bs q
  contents-alike q alike = fold-replaced (λ o d. f.left d q o) (f.opening q) bs i b c g.listed alike

  -- the last block on a shard decides what its keys have
  pub contents-last : IsLastOnShard f bs i b → (q : K) → IsOn f b q → contents f (slice_set bs i c) q ≡ f.left c q
      (before f bs i q)
  contents-last last q on =
      fold-last (λ o d. f.left d q o) (f.opening q) bs i b c g.listed
      (λ j d lt at o. apart-idle f keeps b d q (last j d lt at) on o)

  -- what a block finds on its shard stays
  pub turn-same : (j : ℕ) (d : B) → (j ≤ i) ⊎ (slice_get bs j ≡ Some d) → (q : K) → IsOn f d q
      → before f (slice_set bs i c) j q ≡ before f bs j q
  turn-same j d listed q on = ⊎_elim (λ quiet. turn-alike j q (quiet q)) behind g.way
    where
      behind : IsLastOnShard f bs i b → before f (slice_set bs i c) j q ≡ before f bs j q
      behind last = ⊎_elim
          (λ lt. ⊎_elim (λ le. absurd (omega arith))
          (λ here. turn-alike j q (alike-elsewhere q (λ mine. last j d lt here (f.route q) mine on))) listed)
          (λ le. ap (λ xs. contents f xs q) (take-set_above bs i j c le))
          (cases_lt i j)

  -- and so does what it says
  pub says-same : {S : Type 0} (says : B → (K → O) → S) → LooksAtShard f says → (j : ℕ) (d : B) → (j ≤ i)
      ⊎ (slice_get bs j ≡ Some d)
      → says d (before f (slice_set bs i c) j) ≡ says d (before f bs j)
  says-same says looks j d listed = looks d (before f (slice_set bs i c) j) (before f bs j) (turn-same j d listed)

pub commute : {B K O : Type 0} (f : Frame B K O) → KeepsToShard f → (front : List B) (b c : B) (later : List B)
    → AreApart f b c → Commute f front b c later
commute f keeps front b c later apart =
    record {
      contents_stay = contents-swapped f keeps front later b c apart;
      first_finds = λ q on. sym (second-finds f keeps front later c b (apart-turned f b c apart) q on);
      second_finds = λ q on. second-finds f keeps front later b c apart q on;
    }
