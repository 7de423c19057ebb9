-- Counts of pairs that pass a test, over lists without repeats.
use Rattle.std.proofs.Common.{◌≡◌, ◌≢◌, ℕ, zero, suc, ◌+◌, ◌≤◌, ◌⊎◌, inl, inr, Bool, true, false, not, ◌||◌, cond, List}
use Rattle.std.proofs.Common.{[], ◌∷◌, ◌++◌, length, Option, Some, slice_get, remove, count_by, refl, ap, sym, ◌∙◌}
use Rattle.std.proofs.Common.{arith}
use Rattle.std.specs.Cmp.{IsEquivalence}
use Rattle.std.specs.List.{list_any}
use Rattle.std.proofs.lemmas.Bool.{cases_Bool, cond-false, false≢true}
use Rattle.std.proofs.lemmas.List.Folds.{list_any-append}
use Rattle.std.proofs.lemmas.List.Sums.{count_by-le-length, sum_by-cons}
use Rattle.std.proofs.lemmas.Option.{same_Some, none-some}
use Rattle.mapworld_calls.specs.Pairs.{pair_of, AreDistinct}
use Rattle.mapworld_calls.proofs.Lists.{slice_get-remove_kept, slice_get-push_at, slice_get-push_below, count_by-push}
use Rattle.mapworld_calls.proofs.Pairs.{eq-same_right}
use Rattle.mapworld_state.specs.Shards.{ShardPairs, Puts}
use Rattle.mapworld_state.specs.Walks.{is_visited}
use Rattle.mapworld_state.proofs.Tables.{pair_of-is, pair_of-at, pair_of-same, equal_by}
use Rattle.mapworld.specs.Progress.Left.{fresh}

count-cons : {X : Type 0} (p : X → Bool) (x : X) (xs : List X) → count_by p (x ∷ xs) ≡ cond (p x) 1 0 + count_by p xs
count-cons p x xs = sum_by-cons (λ y. cond (p y) 1 0) x xs

count-yes : {X : Type 0} (p : X → Bool) (x : X) (xs : List X) → p x ≡ true → count_by p (x ∷ xs) ≡ count_by p xs + 1
count-yes p x xs is = omega (arith, count-cons p x xs, ap (λ b. cond {A = ℕ} b 1 0) is)

count-no : {X : Type 0} (p : X → Bool) (x : X) (xs : List X) → p x ≡ false → count_by p (x ∷ xs) ≡ count_by p xs
count-no p x xs is = omega (arith, count-cons p x xs, ap (λ b. cond {A = ℕ} b 1 0) is)

-- one that passes is taken out
count-remove : {X : Type 0} (p : X → Bool) (xs : List X) (i : ℕ) (x : X) → slice_get xs i ≡ Some x → p x ≡ true
    → count_by p (remove xs i) + 1 ≡ count_by p xs
count-remove p [] i x at is = absurd (none-some x at)
count-remove p (y ∷ ys) zero x at is = sym (count-yes p y ys (ap p (same_Some y x at) ∙ is))
count-remove p (y ∷ ys) (suc i) x at is =
    omega (arith, count-remove p ys i x at is, count-cons p y (remove ys i), count-cons p y ys)

small : (b : Bool) → cond b 1 0 ≤ 1
small true = omega arith
small false = omega arith

or-none : (b : Bool) → (b || false) ≡ b
or-none true = refl
or-none false = refl

pub visited-more : {K : Type 0} (eq : K → K → Bool) (keys : List K) (key q : K)
    → is_visited eq (keys ++ key ∷ []) q ≡ (is_visited eq keys q || eq key q)
visited-more eq keys key q = list_any-append (λ k. eq k q) keys (key ∷ [])
    ∙ ap (λ b. is_visited eq keys q || b) (or-none (eq key q))

-- an element of the list passes, and has that key
abbrev pub Matches : {K V : Type 0} → (K → K → Bool) → (K × V → Bool) → List (K × V) → K → Type 0
Matches {K} {V} eq p pairs q = (i : ℕ) × (pair : K × V) × (slice_get pairs i ≡ Some pair) × (p pair ≡ true)
    × (eq q pair.0 ≡ true)

not-true : (b : Bool) → b ≡ false → not b ≡ true
not-true b is = ap not is

was-false : (b : Bool) → not b ≡ true → b ≡ false
was-false true is = absurd (false≢true is)
was-false false is = refl

neither : (a b : Bool) → (a || b) ≡ false → (a ≡ false) × (b ≡ false)
neither true b e = absurd (false≢true (sym e))
neither false b e = (refl, e)

-- keys that are done besides leave no more that are fresh
pub fresh-grown : {K V : Type 0} (eq : K → K → Bool) (keys keys' : List K) (pairs : List (K × V))
    → ((k : K) → is_visited eq keys k ≡ true → is_visited eq keys' k ≡ true) → fresh eq keys' pairs ≤ fresh eq keys
    pairs
fresh-grown eq keys keys' [] grown = omega arith
fresh-grown eq keys keys' (p ∷ pairs) grown =
    let rest = fresh-grown eq keys keys' pairs grown in
    elim (cases_Bool (is_visited eq keys p.0)) [
      | inl done ↦
          omega (
            arith,
            rest,
            count-no (λ z. not (is_visited eq keys z.0)) p pairs (ap not done),
            count-no (λ z. not (is_visited eq keys' z.0)) p pairs (ap not (grown p.0 done)),
          )
      | inr undone ↦
          omega (
            arith,
            rest,
            small (not (is_visited eq keys' p.0)),
            count-cons (λ z. not (is_visited eq keys' z.0)) p
                pairs,
            count-yes (λ z. not (is_visited eq keys z.0)) p pairs (ap not undone),
          )
    ]

-- no more are fresh than there are
pub fresh-all : {K V : Type 0} (eq : K → K → Bool) (keys : List K) (pairs : List (K × V))
    → fresh eq keys pairs ≤ length pairs
fresh-all eq keys pairs = count_by-le-length (λ z. not (is_visited eq keys z.0)) pairs

-- equal keys are visited alike
visited-same : {K : Type 0} (eq : K → K → Bool) → IsEquivalence eq → (keys : List K) (j k : K) → eq j k ≡ true
    → is_visited eq keys j ≡ is_visited eq keys k
visited-same {K} eq laws keys j k e = ap (λ (t : K → Bool). list_any t keys) (λ i z. eq-same_right eq laws z j k e i)

module _ {K V : Type 0} (eq : K → K → Bool) (laws : IsEquivalence eq) where
  distinct-behind : (x : K × V) (xs : List (K × V)) → AreDistinct eq (x ∷ xs) → AreDistinct eq xs
  distinct-behind x xs d i j p r hp hr e = let same = d (suc i) (suc j) p r hp hr e in omega arith

  -- the pair that the first one has isn't another one's
  apart : (q : K × V → Bool) (x : K × V) (xs ys : List (K × V)) → AreDistinct eq (x ∷ xs)
      → (a : Matches eq q ys x.0) (m : ℕ) (y : K × V) → slice_get xs m ≡ Some y → (b : Matches eq q ys y.0) → b.0 ≢ a.0
  apart q x xs ys d a m y at b same =
      let one : b.1 ≡ a.1 = same_Some b.1 a.1 (sym b.2 ∙ (ap (λ n. slice_get ys n) same ∙ a.2)) in
      let equal : eq x.0 y.0 ≡ true = equal_by eq laws x.0 y.0 a.1.0 a.4
      (ap (λ (z : K × V). eq y.0 z.0) (sym one) ∙ b.4) in
      let places = d 0 (suc m) x y refl at equal in
      omega arith

  -- of two lists the one has no more that pass if each of them, of distinct keys, has an equal key among those of the
  -- other that pass
  pub counts-le : (p q : K × V → Bool) (xs ys : List (K × V)) → AreDistinct eq xs
      → ((m : ℕ) (x : K × V) → slice_get xs m ≡ Some x → p x ≡ true → Matches eq q ys x.0)
      → count_by p xs ≤ count_by q ys
  counts-le p q [] ys d each = omega arith
  counts-le p q (x ∷ xs) ys d each = elim (cases_Bool (p x)) [
    | inl passes ↦
        let a = each 0 x refl passes in
        let rest = counts-le p q xs (remove ys a.0) (distinct-behind x xs d) (λ m y at is.
        let b = each (suc m) y at is in
        let kept = slice_get-remove_kept ys a.0 b.0 b.1 (apart q x xs ys d a m y at b) b.2 in
        (kept.0, b.1, kept.1, b.3, b.4)) in
        omega (arith, count-yes p x xs passes, count-remove q ys a.0 a.1 a.2 a.3, rest)
    | inr none ↦ omega
        (arith, count-no p x xs none, counts-le p q xs ys (distinct-behind x xs d) (λ m y at is. each (suc m) y at is))
  ]

  abbrev is_fresh : List K → K × V → Bool
  is_fresh keys p = not (is_visited eq keys p.0)

  fresh-as : (keys : List K) (p r : K × V) → eq r.0 p.0 ≡ true → is_fresh keys r ≡ true → is_fresh keys p ≡ true
  fresh-as keys p r e is = ap not (sym (visited-same eq laws keys r.0 p.0 e)) ∙ is

  -- what a key finds is a match of it
  match-found : (keys : List K) (pairs : List (K × V)) (r z : K × V) → pair_of eq pairs r.0 ≡ Some z
      → is_fresh keys r ≡ true → Matches eq (is_fresh keys) pairs r.0
  match-found keys pairs r z finds is =
      let at = pair_of-is eq laws pairs r.0 z finds in
      let equal : eq r.0 z.0 ≡ true = laws.symm r.0 z.0 ∙ at.2 in
      (at.0, z, at.1, fresh-as keys z r equal is, equal)

  module _ (keys : List K) (old new : ShardPairs K V) where
    -- of a list whose keys find what they found
    pub fresh-alike : AreDistinct eq new.items → ((q : K) → pair_of eq new.items q ≡ pair_of eq old.items q)
        → fresh eq keys new.items ≤ fresh eq keys old.items
    fresh-alike distinct same = counts-le (is_fresh keys) (is_fresh keys) new.items old.items distinct (λ m r at is.
        match-found keys old.items r r
        (sym (same r.0) ∙ pair_of-at eq laws new.items m r r.0 distinct at (laws.refl r.0)) is)

    module _ (key : K) (o : Option (K × V)) (puts : Puts eq old new key o) where
      found-by : (m : ℕ) (r : K × V) → slice_get new.items m ≡ Some r → (eq key r.0 ≡ true)
          ⊎ (pair_of eq old.items r.0 ≡ Some r)
      found-by m r at = elim (cases_Bool (eq key r.0)) [
        | inl own ↦ inl own
        | inr other ↦ inr
            (sym (cond-false (eq key r.0) o (pair_of eq old.items r.0) other)
            ∙ (sym (puts.found r.0) ∙ pair_of-at eq laws new.items m r r.0 puts.distinct at (laws.refl r.0)))
      ]

      -- a pair in the place of one that was there
      pub fresh-put : (z : K × V) → pair_of eq old.items key ≡ Some z → fresh eq keys new.items ≤ fresh eq keys
          old.items
      fresh-put z was = counts-le (is_fresh keys) (is_fresh keys) new.items old.items puts.distinct
          (λ m r at is. elim (found-by m r at) [
            | inl own ↦ match-found keys old.items r z (sym (pair_of-same eq laws old.items key r.0 own) ∙ was) is
            | inr other ↦ match-found keys old.items r r other is
          ])

      -- a pair more
      pub fresh-added : (z : K × V) → eq key z.0 ≡ true → fresh eq keys new.items ≤ fresh eq keys old.items + 1
      fresh-added z named =
          let few = counts-le (is_fresh keys) (is_fresh keys) new.items (old.items ++ z ∷ []) puts.distinct
          (λ m r at is. elim (found-by m r at) [
            | inl own ↦
                let equal : eq r.0 z.0 ≡ true = sym (laws.congr key r.0 z.0 own) ∙ named in
                (length old.items, z, slice_get-push_at old.items z, fresh-as keys z r equal is, equal)
            | inr other ↦
                let b = match-found keys old.items r r other is in
                (b.0, b.1, slice_get-push_below old.items b.0 b.1 z b.2, b.3, b.4)
          ]) in
          let one : cond (is_fresh keys z) 1 0 ≤ 1 = small (is_fresh keys z) in
          omega (arith, few, count_by-push (is_fresh keys) old.items z, one)

    -- a key more that is done, of a pair that is still there, or has gone
    pub fresh-done : (key : K) (z : K × V) → pair_of eq old.items key ≡ Some z → is_visited eq keys key ≡ false
        → AreDistinct eq new.items
        → ((q : K) → eq key q ≡ false → pair_of eq new.items q ≡ pair_of eq old.items q)
        → fresh eq (keys ++ key ∷ []) new.items + 1 ≤ fresh eq keys old.items
    fresh-done key z was undone distinct same =
        let here = pair_of-is eq laws old.items key z was in
        let equal : eq key z.0 ≡ true = laws.symm key z.0 ∙ here.2 in
        let own : is_fresh keys z ≡ true = ap not (sym (visited-same eq laws keys key z.0 equal) ∙ undone) in
        let few = counts-le (is_fresh (keys ++ key ∷ [])) (is_fresh keys) new.items (remove old.items here.0) distinct
        (λ m r at is.
        let both = neither (is_visited eq keys r.0) (eq key r.0) (sym (visited-more eq keys key r.0) ∙ was-false _ is)
        in
        let finds : pair_of eq old.items r.0 ≡ Some r = sym (same r.0 both.1) ∙ pair_of-at eq laws new.items m r r.0
        distinct at (laws.refl r.0) in
        let b = match-found keys old.items r r finds (not-true _ both.0) in
        let apart : b.0 ≢ here.0 = λ e.
        let one : z ≡ b.1 = same_Some z b.1 (sym here.1 ∙ (ap (λ n. slice_get old.items n) (sym e) ∙ b.2)) in
        false≢true (sym both.1
        ∙ (laws.symm key r.0 ∙ equal_by eq laws r.0 key b.1.0 b.4
        (ap (λ (y : K × V). eq key y.0) (sym one) ∙ equal))) in
        let kept = slice_get-remove_kept old.items here.0 b.0 b.1 apart b.2 in
        (kept.0, b.1, kept.1, b.3, b.4)) in
        omega (arith, few, count-remove (is_fresh keys) old.items here.0 z here.1 own)
