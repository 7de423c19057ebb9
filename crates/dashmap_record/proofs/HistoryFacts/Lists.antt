-- What is true of each element of a list, or of some; lists that rise; and two rising lists with the same elements.
use Rattle.std.proofs.Common.{◌≡◌, ℕ, suc, ◌+◌, ◌<◌, ◌≤◌, length, get_or, Bool, true, false, List, [], ◌∷◌, ◌++◌, ◌⊎◌}
use Rattle.std.proofs.Common.{inl, inr, refl, sym, subst, arith}
use Rattle.std.specs.Bool.{⊤}
use Rattle.std.specs.List.{AllPairs, AllZip, AllByRecursion, filter}
use Rattle.std.proofs.lemmas.List.Kept.{AllPairs-cons}
use Rattle.std.specs.List.Sorted.{IsPermutation}
use Rattle.std.proofs.lemmas.Bool.{cond-true, cond-false, cases_Bool}
use Rattle.std.proofs.lemmas.List.Elements.{All-from_recursion, recursion_from_All}
use Rattle.std.proofs.lemmas.List.Sorted.{All-permutation}

module _ {X : Type 0} where
  abbrev pub Each : (X → Type 0) → List X → Type 0
  Each P xs = AllByRecursion P xs

  -- some element has P
  abbrev pub Has : (X → Type 0) → List X → Type 0
  Has P [] = ⊥
  Has P (x ∷ xs) = P x ⊎ Has P xs

  -- each element stands in L to all that follow
  abbrev pub Up : (X → X → Type 0) → List X → Type 0
  Up L [] = ⊤
  Up L (x ∷ xs) = Each (L x) xs × Up L xs

  pub each : (P Q : X → Type 0) → ((x : X) → P x → Q x) → (xs : List X) → Each P xs → Each Q xs
  each P Q f [] _ = tt
  each P Q f (x ∷ xs) h = (f x h.0, each P Q f xs h.1)

  pub each_both : (P Q : X → Type 0) (xs : List X) → Each P xs → Each Q xs → Each (λ x. P x × Q x) xs
  each_both P Q [] _ _ = tt
  each_both P Q (x ∷ xs) p q = ((p.0, q.0), each_both P Q xs p.1 q.1)

  pub has : (P Q : X → Type 0) → ((x : X) → P x → Q x) → (xs : List X) → Has P xs → Has Q xs
  has P Q f [] h = h
  has P Q f (x ∷ xs) (inl h) = inl (f x h)
  has P Q f (x ∷ xs) (inr h) = inr (has P Q f xs h)

  -- what follows from an element that has both
  pub out_of : {C : Type 0} (P Q : X → Type 0) (xs : List X) → Each P xs → Has Q xs → ((x : X) → P x → Q x → C) → C
  out_of P Q [] e h f = absurd h
  out_of P Q (x ∷ xs) e (inl h) f = f x e.0 h
  out_of P Q (x ∷ xs) e (inr h) f = out_of P Q xs e.1 h f

  -- each element is one
  pub each_itself : (xs : List X) → Each (λ x. Has (λ y. x ≡ y) xs) xs
  each_itself [] = tt
  each_itself (x ∷ xs) =
      (inl refl, each (λ z. Has (λ y. z ≡ y) xs) (λ z. Has (λ y. z ≡ y) (x ∷ xs)) (λ z h. inr h) xs (each_itself xs))

  pub each_append : (P : X → Type 0) (xs ys : List X) → Each P xs → Each P ys → Each P (xs ++ ys)
  each_append P [] ys _ q = q
  each_append P (x ∷ xs) ys p q = (p.0, each_append P xs ys p.1 q)

  pub has_left : (P : X → Type 0) (xs ys : List X) → Has P xs → Has P (xs ++ ys)
  has_left P [] ys h = absurd h
  has_left P (x ∷ xs) ys (inl h) = inl h
  has_left P (x ∷ xs) ys (inr h) = inr (has_left P xs ys h)

  pub has_right : (P : X → Type 0) (xs ys : List X) → Has P ys → Has P (xs ++ ys)
  has_right P [] ys h = h
  has_right P (x ∷ xs) ys h = inr (has_right P xs ys h)

  -- a permutation keeps both
  pub each_permuted : (P : X → Type 0) (xs ys : List X) → IsPermutation xs ys → Each P xs → Each P ys
  each_permuted P xs ys moved h = recursion_from_All P ys (All-permutation P xs ys moved (All-from_recursion P xs h))

  module _ (p : X → Bool) where
    filtered-yes : (x : X) (xs : List X) → p x ≡ true → filter p (x ∷ xs) ≡ x ∷ filter p xs
    filtered-yes x xs is = cond-true (p x) (x ∷ filter p xs) (filter p xs) is

    filtered-no : (x : X) (xs : List X) → p x ≡ false → filter p (x ∷ xs) ≡ filter p xs
    filtered-no x xs is = cond-false (p x) (x ∷ filter p xs) (filter p xs) is

    -- of what passes a test each passes it and is as the others are
    pub each_filtered : (P : X → Type 0) (xs : List X) → Each P xs → Each (λ x. (p x ≡ true) × P x) (filter p xs)
    each_filtered P [] _ = tt
    each_filtered P (x ∷ xs) h = elim (cases_Bool (p x)) [
      | inl passes ↦ subst (Each (λ y. (p y ≡ true) × P y)) (sym (filtered-yes x xs passes))
          ((passes, h.0), each_filtered P xs h.1)
      | inr fails ↦ subst (Each (λ y. (p y ≡ true) × P y)) (sym (filtered-no x xs fails)) (each_filtered P xs h.1)
    ]

    pub has_filtered : (P : X → Type 0) (xs : List X) → ((x : X) → P x → p x ≡ true) → Has P xs → Has P (filter p xs)
    has_filtered P [] all h = h
    has_filtered P (x ∷ xs) all (inl h) = subst (Has P) (sym (filtered-yes x xs (all x h))) (inl h)
    has_filtered P (x ∷ xs) all (inr h) = elim (cases_Bool (p x)) [
      | inl passes ↦ subst (Has P) (sym (filtered-yes x xs passes)) (inr (has_filtered P xs all h))
      | inr fails ↦ subst (Has P) (sym (filtered-no x xs fails)) (has_filtered P xs all h)
    ]

    -- what rises by L rises by M among what passes, where M follows there
    pub up_filtered : (L M : X → X → Type 0) → ((x y : X) → p x ≡ true → p y ≡ true → L x y → M x y) → (xs : List X)
        → Up L xs → Up M (filter p xs)
    up_filtered L M f [] _ = tt
    up_filtered L M f (x ∷ xs) h = elim (cases_Bool (p x)) [
      | inl passes ↦
          subst (Up M) (sym (filtered-yes x xs passes)) (
            each (λ y. (p y ≡ true) × L x y) (M x) (λ y q. f x y passes q.0 q.1) (filter p xs)
                (each_filtered (L x) xs h.0),
            up_filtered L M f xs h.1,
          )
      | inr fails ↦ subst (Up M) (sym (filtered-no x xs fails)) (up_filtered L M f xs h.1)
    ]

  -- what rises, with what is true of each
  pub up_with : (P : X → Type 0) (L : X → X → Type 0) (xs : List X) → Each P xs → Up L xs
      → Up (λ x y. P x × P y × L x y) xs
  up_with P L [] _ _ = tt
  up_with P L (x ∷ xs) e u = (
    each (λ y. P y × L x y) (λ y. P x × P y × L x y) (λ y q. (e.0, q.0, q.1)) xs (each_both P (L x) xs e.1 u.0),
    up_with P L xs e.1 u.1,
  )

  module _ (n : X → ℕ) where
    -- numbers rise strictly
    abbrev pub Rises : List X → Type 0
    Rises xs = Up (λ x y. n x < n y) xs

    -- two elements of one number are one
    pub meet : (P Q : X → Type 0) (s : ℕ) (xs : List X) → Rises xs → Has (λ x. P x × (n x ≡ s)) xs
        → Has (λ x. Q x × (n x ≡ s)) xs → Has (λ x. P x × Q x) xs
    meet P Q s [] u p q = p
    meet P Q s (x ∷ xs) u (inl p) (inl q) = inl (p.0, q.0)
    meet P Q s (x ∷ xs) u (inl p) (inr q) =
        out_of (λ y. n x < n y) (λ y. Q y × (n y ≡ s)) xs u.0 q
        (λ y above is. absurd (no_less (n x) (n y) s above p.1 is.1))
      where
        no_less : (a b c : ℕ) → a < b → a ≡ c → b ≡ c → ⊥
        no_less a b c less e f = omega (arith, less, e, f)
    meet P Q s (x ∷ xs) u (inr p) (inl q) =
        out_of (λ y. n x < n y) (λ y. P y × (n y ≡ s)) xs u.0 p
        (λ y above is. absurd (no_less (n x) (n y) s above q.1 is.1))
      where
        no_less : (a b c : ℕ) → a < b → a ≡ c → b ≡ c → ⊥
        no_less a b c less e f = omega (arith, less, e, f)
    meet P Q s (x ∷ xs) u (inr p) (inr q) = inr (meet P Q s xs u.1 p q)

    -- two rising lists, where each element of the one stands in R to one of the other, are so pair by pair
    module _ (R : X → X → Type 0) (level : (x y : X) → R x y → n x ≡ n y) where
      least : (x y : X) (ys : List X) → Rises (y ∷ ys) → Has (R x) (y ∷ ys) → n y ≤ n x
      least x y ys u (inl r) = omega (arith, level x y r)
      least x y ys u (inr h) = out_of (λ z. n y < n z) (R x) ys u.0 h (λ z above r. omega (arith, above, level x z r))

      least_back : (x : X) (xs : List X) (y : X) → Rises (x ∷ xs) → Has (λ z. R z y) (x ∷ xs) → n x ≤ n y
      least_back x xs y u (inl r) = omega (arith, level x y r)
      least_back x xs y u (inr h) = out_of (λ z. n x < n z) (λ z. R z y) xs u.0 h
          (λ z above r. omega (arith, above, level z y r))

      first : (x y : X) (ys : List X) → Rises (y ∷ ys) → n x ≤ n y → Has (R x) (y ∷ ys) → R x y
      first x y ys u low (inl r) = r
      first x y ys u low (inr h) = out_of (λ z. n y < n z) (R x) ys u.0 h
          (λ z above r. absurd (no_room (n x) (n y) (n z) low above (level x z r)))
        where
          no_room : (a b c : ℕ) → a ≤ b → b < c → a ≡ c → ⊥
          no_room a b c p q e = omega (arith, p, q, e)

      later : (x y : X) (ys : List X) → n y < n x → Has (R x) (y ∷ ys) → Has (R x) ys
      later x y ys high (inl r) = absurd (no_room (n x) (n y) high (level x y r))
        where
          no_room : (a b : ℕ) → b < a → a ≡ b → ⊥
          no_room a b p e = omega (arith, p, e)
      later x y ys high (inr h) = h

      later_back : (x : X) (xs : List X) (y : X) → n x < n y → Has (λ z. R z y) (x ∷ xs) → Has (λ z. R z y) xs
      later_back x xs y high (inl r) = absurd (no_room (n x) (n y) high (level x y r))
        where
          no_room : (a b : ℕ) → a < b → a ≡ b → ⊥
          no_room a b p e = omega (arith, p, e)
      later_back x xs y high (inr h) = h

      pub paired : (xs ys : List X) → Rises xs → Rises ys → Each (λ x. Has (R x) ys) xs
          → Each (λ y. Has (λ x. R x y) xs) ys → AllZip R xs ys
      paired [] [] u v there back = tt
      paired [] (y ∷ ys) u v there back = back.0
      paired (x ∷ xs) [] u v there back = there.0
      paired (x ∷ xs) (y ∷ ys) u v there back =
          let low : n x ≤ n y = least_back x xs y u back.0 in
          let high : n y ≤ n x = least x y ys v there.0 in (
            first x y ys v low there.0,
            paired xs ys u.1 v.1
                (each (λ z. (n x < n z) × Has (R z) (y ∷ ys)) (λ z. Has (R z) ys)
                (λ z q. later z y ys (omega (arith, high, q.0)) q.1) xs
                (each_both (λ z. n x < n z) (λ z. Has (R z) (y ∷ ys)) xs u.0 there.1))
                (each (λ z. (n y < n z) × Has (λ w. R w z) (x ∷ xs)) (λ z. Has (λ w. R w z) xs)
                (λ z q. later_back x xs z (omega (arith, low, q.0)) q.1) ys
                (each_both (λ z. n y < n z) (λ z. Has (λ w. R w z) (x ∷ xs)) ys v.0 back.1)),
          )

module _ {X : Type 0} where
  -- an element that is there
  pub some : {C : Type 0} (P : X → Type 0) (xs : List X) → Has P xs → ((x : X) → P x → C) → C
  some P [] h f = absurd h
  some P (x ∷ xs) (inl h) f = f x h
  some P (x ∷ xs) (inr h) f = some P xs h f

  module _ (L : X → X → Type 0) where
    pub pairs_from_up : (xs : List X) → Up L xs → AllPairs L xs
    pairs_from_up [] u = λ i j d less within. absurd (none j within)
      where
        none : (j : ℕ) → j < 0 → ⊥
        none j within = omega (arith, within)
    pairs_from_up (x ∷ xs) u = AllPairs-cons L x xs (All-from_recursion (L x) xs u.0) (pairs_from_up xs u.1)

    -- what rises from neighbour to neighbour rises, where L is transitive
    module _ (far : (x y z : X) → L x y → L y z → L x z) where
      Steps : List X → Type 0
      Steps xs = (k : ℕ) (d : X) → k + 1 < length xs → L (get_or xs k d) (get_or xs (k + 1) d)

      rest_steps : (x : X) (xs : List X) → Steps (x ∷ xs) → Steps xs
      unfolding Steps
      rest_steps x xs steps k d within = subst (λ j. L (get_or xs k d) (get_or (x ∷ xs) j d)) {x = suc k + 1}
          {y = suc (k + 1)} (omega arith) (steps (suc k) d (omega (arith, within)))

      above : (x : X) (xs : List X) → Steps (x ∷ xs) → Each (L x) xs
      unfolding Steps
      above x [] steps = tt
      above x (y ∷ ys) steps =
          let here : L x y = steps 0 x (omega arith) in
          (here, each (L y) (L x) (λ z beyond. far x y z here beyond) ys (above y ys (rest_steps x (y ∷ ys) steps)))

      pub up_from_steps : (xs : List X)
          → ((k : ℕ) (d : X) → k + 1 < length xs → L (get_or xs k d) (get_or xs (k + 1) d)) → Up L xs
      unfolding Steps
      up_from_steps [] steps = tt
      up_from_steps (x ∷ xs) steps = (above x xs steps, up_from_steps xs (rest_steps x xs steps))
