-- The guards of a desk as they come, go and change, by their parties.
use Rattle.std.proofs.Common.{◌≡◌, ◌≢◌, ℕ, zero, suc, inl, inr, Bool, true, false, cond, not, ◌&&◌, ◌||◌, ◌==◌, List}
use Rattle.std.proofs.Common.{[], ◌∷◌, ◌++◌, map, filter, Option, Some, None, is_some, slice_get, find, refl, sym, ap}
use Rattle.std.proofs.Common.{◌∙◌}
use Rattle.std.specs.List.{All, list_any}
use Rattle.std.proofs.lemmas.Bool.{cases_Bool, cases_eq, false≢true, eq-eqb, eqb-true, ne_eqb, cond-true, cond-false}
use Rattle.std.proofs.lemmas.List.Elements.{All-cons, All-head, All-tail, All-nil, filter-append}
use Rattle.std.proofs.lemmas.List.Folds.{list_any_none}
use Rattle.std.proofs.lemmas.Option.{none-some, same_Some}
use Rattle.lock_api_desk.specs.declared.mode.Mode.{Mode}
use Rattle.lock_api_desk.specs.Guards.{Guard, amend, excluded, excludes, guard_of, has_number, held_in, held_of}
use Rattle.lock_api_desk.specs.Guards.{is_held, is_in_use, without}
use Rattle.mapworld_state.proofs.LocksFacts.Lists.{all_at}
use Rattle.mapworld_state.specs.Locks.Seats.{AreHalfSeated, AreSeated, GoTogether, guards_of, held_guard, is_of}
use Rattle.mapworld_state.specs.Locks.Seats.{seat_of}

-- LISTS

module _ {X : Type 0} where
  pub all_from : (P : X → Type 0) (xs : List X) → ((k : ℕ) (x : X) → slice_get xs k ≡ Some x → P x) → All P xs
  all_from P [] h = All-nil P
  all_from P (x ∷ xs) h = All-cons P x xs (h 0 x refl) (all_from P xs (λ k y e. h (suc k) y e))

  -- an element that passes is among those that pass
  pub among_passing : (test : X → Bool) (xs : List X) (k : ℕ) (x : X) → slice_get xs k ≡ Some x → test x ≡ true
      → (j : ℕ) × (slice_get (filter test xs) j ≡ Some x)
  among_passing test [] k x e p = absurd (none-some x e)
  among_passing test (y ∷ ys) zero x e p =
      let same : y ≡ x = same_Some y x e in (
        0,
        ap (λ zs. slice_get zs 0) (cond-true (test y) (y ∷ filter test ys) (filter test ys) (ap test same ∙ p))
            ∙ ap Some same,
      )
  among_passing test (y ∷ ys) (suc k) x e p =
      let (j, there) = among_passing test ys k x e p in
      elim (cases_Bool (test y)) [
        | inl passes ↦ (
          suc j,
          ap (λ zs. slice_get zs (suc j)) (cond-true (test y) (y ∷ filter test ys) (filter test ys) passes) ∙ there,
        )
        | inr fails ↦ (
          j,
          ap (λ zs. slice_get zs j) (cond-false (test y) (y ∷ filter test ys) (filter test ys) fails)
              ∙ there,
        )
      ]

  -- tests that agree on each element find the same
  pub find_agrees : (p q : X → Bool) (xs : List X) → All (λ x. p x ≡ q x) xs → find p xs ≡ find q xs
  find_agrees p q [] h = refl
  find_agrees p q (x ∷ xs) h =
      ap (λ b. cond b (Some x) (find p xs)) (All-head (λ x. p x ≡ q x) x xs h)
      ∙ ap (λ o. cond (q x) (Some x) o) (find_agrees p q xs (All-tail (λ x. p x ≡ q x) x xs h))

  pub any_agrees : (p q : X → Bool) (xs : List X) → All (λ x. p x ≡ q x) xs → list_any p xs ≡ list_any q xs
  any_agrees p q [] h = refl
  any_agrees p q (x ∷ xs) h =
      ap (λ b. b || list_any p xs) (All-head (λ x. p x ≡ q x) x xs h)
      ∙ ap (λ o. q x || o) (any_agrees p q xs (All-tail (λ x. p x ≡ q x) x xs h))

  pub filter_agrees : (p q : X → Bool) (xs : List X) → All (λ x. p x ≡ q x) xs → filter p xs ≡ filter q xs
  filter_agrees p q [] h = refl
  filter_agrees p q (x ∷ xs) h =
      ap (λ b. cond b (x ∷ filter p xs) (filter p xs)) (All-head (λ x. p x ≡ q x) x xs h)
      ∙ ap (λ ys. cond (q x) (x ∷ ys) ys) (filter_agrees p q xs (All-tail (λ x. p x ≡ q x) x xs h))

  -- the first that passes
  pub find_first : (p : X → Bool) (xs : List X) → find p xs ≡ slice_get (filter p xs) 0
  find_first p [] = refl
  find_first p (x ∷ xs) = elim (cases_Bool (p x)) [
    | inl passes ↦ cond-true (p x) (Some x) (find p xs) passes
        ∙ sym (ap (λ ys. slice_get ys 0) (cond-true (p x) (x ∷ filter p xs) (filter p xs) passes))
    | inr fails ↦ cond-false (p x) (Some x) (find p xs) fails ∙ find_first p xs
        ∙ sym (ap (λ ys. slice_get ys 0) (cond-false (p x) (x ∷ filter p xs) (filter p xs) fails))
  ]

  -- the first that passes two tests, where all that pass the one are known
  pub find_both : (p q : X → Bool) (xs : List X) (x : X) → filter p xs ≡ x ∷ [] → q x ≡ true
      → find (λ y. p y && q y) xs ≡ Some x
  find_both p q [] x e passes = absurd (none-some x (ap (λ ys. slice_get ys 0) e))
  find_both p q (y ∷ ys) x e passes = by (p y) refl (λ f. find_both p q ys x f passes)
    where
      by : (b : Bool) → p y ≡ b → (filter p ys ≡ x ∷ [] → find (λ z. p z && q z) ys ≡ Some x)
          → cond (p y && q y) (Some y) (find (λ z. p z && q z) ys) ≡ Some x
      by true f rest =
          let same : y ≡ x =
          same_Some y x (ap (λ zs. slice_get zs 0) (sym (cond-true (p y) (y ∷ filter p ys) (filter p ys) f) ∙ e)) in
          ap (λ b. cond (b && q y) (Some y) (find (λ z. p z && q z) ys)) f
          ∙ ap (λ b. cond b (Some y) (find (λ z. p z && q z) ys)) (ap q same ∙ passes) ∙ ap Some same
      by false f rest = ap (λ b. cond (b && q y) (Some y) (find (λ z. p z && q z) ys)) f
          ∙ rest (sym (cond-false (p y) (y ∷ filter p ys) (filter p ys) f) ∙ e)

  pub find_neither : (p q : X → Bool) (xs : List X) → filter p xs ≡ [] → find (λ y. p y && q y) xs ≡ None
  find_neither p q [] e = refl
  find_neither p q (y ∷ ys) e = by (p y) refl (λ f. find_neither p q ys f)
    where
      by : (b : Bool) → p y ≡ b → (filter p ys ≡ [] → find (λ z. p z && q z) ys ≡ None)
          → cond (p y && q y) (Some y) (find (λ z. p z && q z) ys) ≡ None
      by true f rest = absurd
          (none-some y (sym (ap (λ zs. slice_get zs 0) e)
          ∙ ap (λ zs. slice_get zs 0) (cond-true (p y) (y ∷ filter p ys) (filter p ys) f)))
      by false f rest = ap (λ b. cond (b && q y) (Some y) (find (λ z. p z && q z) ys)) f
          ∙ rest (sym (cond-false (p y) (y ∷ filter p ys) (filter p ys) f) ∙ e)

  pub any_passing : (p : X → Bool) (xs : List X) → filter p xs ≡ [] → list_any p xs ≡ false
  any_passing p [] e = refl
  any_passing p (x ∷ xs) e = elim (cases_Bool (p x)) [
    | inl passes ↦ absurd
        (none-some x (sym (ap (λ ys. slice_get ys 0) e)
        ∙ ap (λ ys. slice_get ys 0) (cond-true (p x) (x ∷ filter p xs) (filter p xs) passes)))
    | inr fails ↦ ap (λ b. b || list_any p xs) fails
        ∙ any_passing p xs (sym (cond-false (p x) (x ∷ filter p xs) (filter p xs) fails) ∙ e)
  ]

  pub append_nothing : (xs : List X) → xs ++ [] ≡ xs
  append_nothing [] = refl
  append_nothing (x ∷ xs) = ap (λ ys. x ∷ ys) (append_nothing xs)

  -- of those that fail one test, those that pass another that excludes it
  pub filter_apart : (p q : X → Bool) (xs : List X) → ((x : X) → q x ≡ true → p x ≡ false)
      → filter q (filter (λ x. not (p x)) xs) ≡ filter q xs
  filter_apart p q [] h = refl
  filter_apart p q (x ∷ xs) h = by (p x) (q x) refl refl (filter_apart p q xs h)
    where
      by : (a b : Bool) → p x ≡ a → q x ≡ b → filter q (filter (λ y. not (p y)) xs) ≡ filter q xs
          → filter q (cond (not (p x)) (x ∷ filter (λ y. not (p y)) xs) (filter (λ y. not (p y)) xs)) ≡ cond (q x)
          (x ∷ filter q xs) (filter q xs)
      by true true e f rest = absurd (false≢true (sym (h x f) ∙ e))
      by true false e f rest =
          ap (λ c. filter q (cond (not c) (x ∷ filter (λ y. not (p y)) xs) (filter (λ y. not (p y)) xs))) e ∙ rest
          ∙ sym (ap (λ c. cond c (x ∷ filter q xs) (filter q xs)) f)
      by false b e f rest =
          ap (λ c. filter q (cond (not c) (x ∷ filter (λ y. not (p y)) xs) (filter (λ y. not (p y)) xs))) e
          ∙ ap (λ ys. cond (q x) (x ∷ ys) ys) rest

  pub filter_none : (p : X → Bool) (xs : List X) → filter p (filter (λ x. not (p x)) xs) ≡ []
  filter_none p [] = refl
  filter_none p (x ∷ xs) = by (p x) refl (filter_none p xs)
    where
      by : (a : Bool) → p x ≡ a → filter p (filter (λ y. not (p y)) xs) ≡ []
          → filter p (cond (not (p x)) (x ∷ filter (λ y. not (p y)) xs) (filter (λ y. not (p y)) xs)) ≡ []
      by true e rest = ap (λ c. filter p (cond (not c) (x ∷ filter (λ y. not (p y)) xs) (filter (λ y. not (p y)) xs))) e
          ∙ rest
      by false e rest =
          ap (λ c. filter p (cond (not c) (x ∷ filter (λ y. not (p y)) xs) (filter (λ y. not (p y)) xs))) e
          ∙ ap (λ c. cond c (x ∷ filter p (filter (λ y. not (p y)) xs)) (filter p (filter (λ y. not (p y)) xs))) e
          ∙ rest

  pub map_agrees : (f g : X → X) (xs : List X) → All (λ x. f x ≡ g x) xs → map f xs ≡ map g xs
  map_agrees f g [] h = refl
  map_agrees f g (x ∷ xs) h = ap (λ y. y ∷ map f xs) (All-head (λ x. f x ≡ g x) x xs h)
      ∙ ap (λ ys. g x ∷ ys) (map_agrees f g xs (All-tail (λ x. f x ≡ g x) x xs h))

  -- what is changed passes as before
  pub filter_changed : (q : X → Bool) (f : X → X) (xs : List X) → ((x : X) → q (f x) ≡ q x)
      → filter q (map f xs) ≡ map f (filter q xs)
  filter_changed q f [] h = refl
  filter_changed q f (x ∷ xs) h = by (q x) refl (filter_changed q f xs h)
    where
      by : (b : Bool) → q x ≡ b → filter q (map f xs) ≡ map f (filter q xs) → cond (q (f x)) (f x ∷ filter q (map f xs))
          (filter q (map f xs)) ≡ map f (cond (q x) (x ∷ filter q xs) (filter q xs))
      by true e rest =
          ap (λ b. cond b (f x ∷ filter q (map f xs)) (filter q (map f xs))) (h x ∙ e) ∙ ap (λ ys. f x ∷ ys) rest
          ∙ sym (ap (λ b. map f (cond b (x ∷ filter q xs) (filter q xs))) e)
      by false e rest =
          ap (λ b. cond b (f x ∷ filter q (map f xs)) (filter q (map f xs))) (h x ∙ e) ∙ rest
          ∙ sym (ap (λ b. map f (cond b (x ∷ filter q xs) (filter q xs))) e)

  -- those that pass stay, where the others change
  pub map_apart : (q : X → Bool) (f : X → X) (xs : List X) → ((x : X) → q x ≡ true → f x ≡ x)
      → map f (filter q xs) ≡ filter q xs
  map_apart q f [] h = refl
  map_apart q f (x ∷ xs) h = by (q x) refl (map_apart q f xs h)
    where
      by : (b : Bool) → q x ≡ b → map f (filter q xs) ≡ filter q xs → map f (cond (q x) (x ∷ filter q xs) (filter q xs))
          ≡ cond (q x) (x ∷ filter q xs) (filter q xs)
      by true e rest =
          ap (λ b. map f (cond b (x ∷ filter q xs) (filter q xs))) e ∙ ap (λ y. y ∷ map f (filter q xs)) (h x e)
          ∙ ap (λ ys. x ∷ ys) rest
          ∙ sym (ap (λ b. cond b (x ∷ filter q xs) (filter q xs)) e)
      by false e rest = ap (λ b. map f (cond b (x ∷ filter q xs) (filter q xs))) e ∙ rest
          ∙ sym (ap (λ b. cond b (x ∷ filter q xs) (filter q xs)) e)

-- SEATS

pub half : (modes : ℕ → Option Mode) (guards : List Guard) → AreSeated modes guards → AreHalfSeated modes guards
half modes guards h t = inr (h t)

-- the guards of party t are those of number t
abbrev pub IsNamed : ℕ → List Guard → Type 0
IsNamed t guards = All (λ guard. has_number t guard ≡ is_of t guard) guards

module _ (modes : ℕ → Option Mode) (guards : List Guard) (seats : AreHalfSeated modes guards) where
  -- each guard is the one that its party should have
  pub each_guard : (k : ℕ) (g : Guard) → slice_get guards k ≡ Some g → (m : Mode) × (modes g.party ≡ Some m)
      × (held_guard m g.party ≡ g)
  each_guard k g at =
      let (j, there) = among_passing (is_of g.party) guards k g at (eq-eqb g.party g.party refl) in
      elim (seats g.party) [
        | inl none ↦ absurd (none-some g (sym (ap (λ gs. slice_get gs j) none) ∙ there))
        | inr seat ↦ by (modes g.party) refl j (sym (ap (λ gs. slice_get gs j) seat) ∙ there)
      ]
    where
      by : (o : Option Mode) → modes g.party ≡ o → (j : ℕ) → slice_get (seat_of g.party o) j ≡ Some g → (m : Mode)
          × (modes g.party ≡ Some m) × (held_guard m g.party ≡ g)
      by None e j there = absurd (none-some g there)
      by (Some m) e zero there = (m, e, same_Some (held_guard m g.party) g there)
      by (Some m) e (suc j) there = absurd (none-some g there)

  pub each_mode : (k : ℕ) (g : Guard) → slice_get guards k ≡ Some g → modes g.party ≡ Some g.mode
  each_mode k g at = let (m, holds, is) = each_guard k g at in holds ∙ ap (λ x. Some x.mode) is

  pub named : (t : ℕ) → IsNamed t guards
  named t = all_from (λ g. has_number t g ≡ is_of t g) guards
      (λ k g at. (let (m, holds, is) = each_guard k g at in ap (λ n. n == t) (ap (λ x. x.number) (sym is))))

  -- a party without a guard isn't kept out
  pub not_excluded : GoTogether modes → (t : ℕ) (m : Mode) → modes t ≡ Some m → guards_of t guards ≡ []
      → excluded m guards ≡ false
  not_excluded together t m holds none = list_any_none (λ g. is_held g && excludes g.mode m) guards
      (all_from _ guards each)
    where
      each : (k : ℕ) (g : Guard) → slice_get guards k ≡ Some g → (is_held g && excludes g.mode m) ≡ false
      each k g at =
          let (a, mode, is) = each_guard k g at in
          let other : g.party ≢ t = λ e.
          (let (j, there) = among_passing (is_of t) guards k g at (eq-eqb g.party t e) in
          none-some g (sym (ap (λ gs. slice_get gs j) none) ∙ there)) in
          ap (λ x. not x.is_aside && excludes x.mode m) (sym is) ∙ together g.party t a m other mode holds

-- A GUARD COMES

module _ (mode : Mode) (t : ℕ) (guards : List Guard) where
  abbrev pub with_guard : List Guard
  with_guard = guards ++ held_guard mode t ∷ []

  own_guard : guards_of t with_guard ≡ guards_of t guards ++ held_guard mode t ∷ []
  own_guard = filter-append (is_of t) guards (held_guard mode t ∷ [])
      ∙ ap (λ gs. guards_of t guards ++ gs) (cond-true (t == t) (held_guard mode t ∷ []) [] (eq-eqb t t refl))

  pub first_guard : guards_of t guards ≡ [] → guards_of t with_guard ≡ held_guard mode t ∷ []
  first_guard none = own_guard ∙ ap (λ gs. gs ++ held_guard mode t ∷ []) none

  pub other_guards : (v : ℕ) → v ≢ t → guards_of v with_guard ≡ guards_of v guards
  other_guards v ne = filter-append (is_of v) guards (held_guard mode t ∷ [])
      ∙ ap (λ gs. guards_of v guards ++ gs)
      (cond-false (t == v) (held_guard mode t ∷ []) [] (ne_eqb t v (λ e. ne (sym e))))
      ∙ append_nothing (guards_of v guards)

  pub half_with : (modes : ℕ → Option Mode) → AreHalfSeated modes guards → modes t ≡ Some mode → guards_of t guards ≡ []
      → AreHalfSeated modes with_guard
  half_with modes seats holds none v = elim (cases_eq v t) [
    | inl e ↦ inr (ap (λ n. guards_of n with_guard) e ∙ first_guard none
        ∙ sym (ap (λ n. seat_of n (modes n)) e ∙ ap (seat_of t) holds))
    | inr ne ↦ elim (seats v) [
      | inl nothing ↦ inl (other_guards v ne ∙ nothing)
      | inr seat ↦ inr (other_guards v ne ∙ seat)
    ]
  ]

module _ (t : ℕ) (guards : List Guard) (names : IsNamed t guards) where
  -- A GUARD GOES

  without_is : without t guards ≡ filter (λ g. not (is_of t g)) guards
  without_is = filter_agrees (λ g. not (has_number t g)) (λ g. not (is_of t g)) guards
      (all_from _ guards (λ k g at. ap not (all_at (λ g. has_number t g ≡ is_of t g) guards k g names at)))

  pub own_gone : guards_of t (without t guards) ≡ []
  own_gone = ap (guards_of t) without_is ∙ filter_none (is_of t) guards

  pub others_left : (v : ℕ) → v ≢ t → guards_of v (without t guards) ≡ guards_of v guards
  others_left v ne = ap (guards_of v) without_is ∙ filter_apart (is_of t) (is_of v) guards
      (λ g own. ne_eqb g.party t (λ e. ne (sym (eqb-true g.party v own) ∙ e)))

  -- LOOKING FOR A GUARD

  pub found : (m : Mode) → guards_of t guards ≡ held_guard m t ∷ [] → guard_of t guards ≡ Some (held_guard m t)
  found m is = find_agrees (has_number t) (is_of t) guards names ∙ find_first (is_of t) guards
      ∙ ap (λ gs. slice_get gs 0) is

  pub unused : guards_of t guards ≡ [] → is_in_use t guards ≡ false
  unused none = any_agrees (has_number t) (is_of t) guards names ∙ any_passing (is_of t) guards none

  -- whether one that is held has its number
  held_agrees : All (λ g. (has_number t g && is_held g) ≡ (is_of t g && is_held g)) guards
  held_agrees = all_from (λ g. (has_number t g && is_held g) ≡ (is_of t g && is_held g)) guards
      (λ k g at. ap (λ b. b && is_held g) (all_at (λ g. has_number t g ≡ is_of t g) guards k g names at))

  pub held_found : (m : Mode) → guards_of t guards ≡ held_guard m t ∷ [] → is_some (held_of t guards) ≡ true
  held_found m is = ap is_some
      (find_agrees (λ g. has_number t g && is_held g) (λ g. is_of t g && is_held g) guards held_agrees
      ∙ find_both (is_of t) is_held guards (held_guard m t) is refl)

  pub held_none : guards_of t guards ≡ [] → is_some (held_of t guards) ≡ false
  held_none none = ap is_some
      (find_agrees (λ g. has_number t g && is_held g) (λ g. is_of t g && is_held g) guards held_agrees
      ∙ find_neither (is_of t) is_held guards none)

  -- A GUARD CHANGES ITS MODE

  abbrev turns : Mode → Guard → Guard
  turns mode g = cond (is_of t g) (held_in mode g) g

  amend_is : (mode : Mode) → amend (held_in mode) t guards ≡ map (turns mode) guards
  amend_is mode = map_agrees (λ g. cond (has_number t g) (held_in mode g) g) (turns mode) guards
      (all_from (λ g. cond (has_number t g) (held_in mode g) g ≡ turns mode g) guards
      (λ k g at. ap (λ b. cond b (held_in mode g) g) (all_at (λ g. has_number t g ≡ is_of t g) guards k g names at)))

  party_kept : (mode : Mode) (v : ℕ) (g : Guard) → is_of v (turns mode g) ≡ is_of v g
  party_kept mode v g = by (is_of t g)
    where
      by : (b : Bool) → is_of v (cond b (held_in mode g) g) ≡ is_of v g
      by true = refl
      by false = refl

  pub own_turned : (a mode : Mode) → guards_of t guards ≡ held_guard a t ∷ []
      → guards_of t (amend (held_in mode) t guards) ≡ held_guard mode t ∷ []
  own_turned a mode is =
      ap (guards_of t) (amend_is mode) ∙ filter_changed (is_of t) (turns mode) guards (party_kept mode t)
      ∙ ap (map (turns mode)) is
      ∙ ap (λ b. cond b (held_guard mode t) (held_guard a t) ∷ []) (eq-eqb t t refl)

  pub others_kept : (mode : Mode) (v : ℕ) → v ≢ t → guards_of v (amend (held_in mode) t guards) ≡ guards_of v guards
  others_kept mode v ne =
      ap (guards_of v) (amend_is mode) ∙ filter_changed (is_of v) (turns mode) guards (party_kept mode v)
      ∙ map_apart (is_of v) (turns mode) guards
      (λ g own. cond-false (is_of t g) (held_in mode g) g
      (ne_eqb g.party t (λ e. ne (sym (eqb-true g.party v own) ∙ e))))
