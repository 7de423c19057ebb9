-- The pieces of a list are contiguous, and together they are the list.
use Rattle.std.proofs.Common.{◌≡◌, ℕ, zero, suc, ◌+◌, ◌-◌, ◌*◌, ◌/◌, ◌%◌, ◌<◌, ◌≤◌, List, [], ◌∷◌, ◌++◌, length, take}
use Rattle.std.proofs.Common.{drop, refl, sym, ap, ◌∙◌, subst, inl, inr, arith}
use Rattle.std.specs.Prelude.{All, min}
use Rattle.std.proofs.Math.Nat.{min-le_left, min-le_right, le-min, div-add-mod}
use Rattle.std.proofs.lemmas.Nat.{div_below}
use Rattle.std.proofs.lemmas.Bool.{cases_lt}
use Rattle.std.proofs.lemmas.List.Elements.{All-nil, All-append}
use Rattle.dashmap_view.specs.Parallel.Pieces.{first_shard}
use Rattle.dashmap_parallel.specs.Visits.{piece}

-- a piece begins no later than the next one
pub first-grows : (s n i : ℕ) → first_shard s n i ≤ first_shard s n (i + 1)
first-grows s n i =
    let q = s / n in
    let r = s % n in
    let least : min i r ≤ min (i + 1) r = le-min (let low = min-le_left i r in omega (arith, low)) (min-le_right i r) in
    let more : (i + 1) * q ≡ i * q + q = omega arith in
    omega (arith, least, more)

take-none : {X : Type 0} (n : ℕ) → take {A = X} n [] ≡ []
take-none zero = refl
take-none (suc n) = refl

take-plus : {X : Type 0} (a m : ℕ) (xs : List X) → take (a + m) xs ≡ take a xs ++ take m (drop a xs)
take-plus zero m xs = let is : zero + m ≡ m = omega arith in ap (λ n. take n xs) is
take-plus (suc a) m [] = take-none (suc a + m) ∙ sym (take-none m)
take-plus (suc a) m (x ∷ xs) =
    let is : suc a + m ≡ suc (a + m) = omega arith in
    ap (λ n. take n (x ∷ xs)) is ∙ ap (λ l. x ∷ l) (take-plus a m xs)

module _ {X : Type 0} (P : X → Type 0) (xs : List X) (n : ℕ) where
  -- what holds of the pieces so far holds of what they are
  pub pieces-so_far : ((i : ℕ) → i < n → All P (piece xs n i)) → (i : ℕ) → i ≤ n
      → All P (take (first_shard (length xs) n i) xs)
  pieces-so_far each zero le =
      let none : first_shard (length xs) n 0 ≡ 0 = let low = min-le_left 0 (length xs % n) in omega (arith, low) in
      subst (λ k. All P (take k xs)) (sym none) (All-nil P)
  pieces-so_far each (suc i) le =
      let s = length xs in
      let next : suc i ≡ i + 1 = omega arith in
      let grows = first-grows s n i in
      let from : first_shard s n i + (first_shard s n (i + 1) - first_shard s n i) ≡ first_shard s n (suc i) =
      (let plain : first_shard s n i + (first_shard s n (i + 1) - first_shard s n i) ≡ first_shard s n (i + 1) =
      omega (arith, grows) in plain ∙ ap (λ k. first_shard s n k) (sym next)) in
      subst (λ k. All P (take k xs)) from
      (subst (All P) (sym (take-plus (first_shard s n i) (first_shard s n (i + 1) - first_shard s n i) xs))
      (All-append P (take (first_shard s n i) xs) (piece xs n i) (pieces-so_far each i (omega (arith, le)))
      (each i (omega (arith, le)))))

take-all : {X : Type 0} (xs : List X) → take (length xs) xs ≡ xs
take-all [] = refl
take-all (x ∷ xs) = ap (λ l. x ∷ l) (take-all xs)

-- the last piece ends at the last item
first-last : (s n : ℕ) → 0 < n → first_shard s n n ≡ s
first-last s n some =
    let r = s % n in
    let low = min-le_right n r in
    let small : r < n = omega (arith, some) in
    let least : r ≤ min n r = le-min (omega (arith, small)) (omega arith) in
    let all = div-add-mod s n in
    omega (arith, low, least, all)

-- what holds of each piece holds of the list
pub pieces-all : {X : Type 0} (P : X → Type 0) (xs : List X) (n : ℕ) → 0 < n → ((i : ℕ) → i < n → All P (piece xs n i))
    → All P xs
pieces-all P xs n some each =
    subst (All P) (ap (λ k. take k xs) (first-last (length xs) n some) ∙ take-all xs)
    (pieces-so_far P xs n each n (omega arith))

-- a list that isn't empty has an element
pub some-of : {X : Type 0} (xs : List X) → 0 < length xs → X
some-of [] some = absurd (omega (arith, some))
some-of (x ∷ xs) some = x

-- one in a piece of e shards, where s shards are cut into n pieces
module _ (s n x e r : ℕ) (cut : n * e + r ≡ s) (fewer : r < n) (within : x < s) (late : r * (e + 1) ≤ x) where
  some-each : 0 < e
  some-each = elim (cases_lt 0 e) [
    | inl some ↦ some
    | inr none ↦
        let zero_is : e ≡ 0 = omega (arith, none) in
        let all : n * e ≡ 0 = ap (λ k. n * k) zero_is ∙ (omega arith) in
        let first : r * (e + 1) ≡ r = ap (λ k. r * (k + 1)) zero_is ∙ (omega arith) in
        absurd (omega (arith, all, first, cut, within, late))
  ]

  pub late-number : r + (x - r * (e + 1)) / e < n
  late-number =
      let rest : n ≡ (n - r) + r = omega (arith, fewer) in
      let whole : n * e ≡ (n - r) * e + r * e = ap (λ k. k * e) rest ∙ (omega arith) in
      let more : r * (e + 1) ≡ r * e + r = omega arith in
      let below : x - r * (e + 1) < (n - r) * e = omega (arith, whole, more, cut, within, late) in
      let number = div_below (x - r * (e + 1)) e (n - r) some-each below in
      omega (arith, number, fewer)
