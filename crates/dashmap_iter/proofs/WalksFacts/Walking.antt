-- Walks over slots, a step at a time.
use Rattle.std.proofs.Common.{◌≡◌, ℕ, zero, suc, ◌+◌, ◌-◌, ◌<◌, ◌≤◌, Option, Some, None, IsSome, MatchOption, List, []}
use Rattle.std.proofs.Common.{◌∷◌, length, refl, sym, ap, ◌∙◌, subst, inl, inr, arith}
use Rattle.std.specs.Borrow.{Bor, MutBor}
use Rattle.std.specs.Fn.{Mut}
use Rattle.std.specs.Option.{option_map}
use Rattle.std.proofs.lemmas.Bool.{false≢true}
use Rattle.std.proofs.lemmas.Option.{none-some, same_Some, MatchOption-at_some, MatchOption-at_none}
use Rattle.dashmap_table.specs.declared.entry.Entry.{Entry}
use Rattle.dashmap_table.specs.Slots.{at, pair_of, IsNextFull}
use Rattle.dashmap_table.proofs.Cases.{option_cases}
use Rattle.dashmap_iter.specs.Walks.Visits.{Walked, AnswersNext, MakesNext, Turn, AtFull}

module _ {P : Type 0} (R : P → ℕ → P → Type 0) where
  pass : (k from : ℕ) (p q : P) → Walked R from p q → ((i : ℕ) → from ≤ i → i < from + k → R q i q)
      → Walked R (from + k) p q
  pass zero from p q w idle = let is : from ≡ from + 0 = omega arith in subst (λ n. Walked R n p q) is w
  pass (suc k) from p q w idle =
      let is : suc (from + k) ≡ from + suc k = omega arith in
      subst (λ n. Walked R n p q) is (
        q,
        pass k from p q w (λ i low high. idle i low (omega (arith, high))),
        idle (from + k) (omega arith) (omega arith),
      )

  -- a walk goes on past numbers at which a step does nothing
  pub walked_to : (from to : ℕ) (p q : P) → from ≤ to → Walked R from p q → ((i : ℕ) → from ≤ i → i < to → R q i q)
      → Walked R to p q
  walked_to from to p q le w idle =
      let is : from + (to - from) ≡ to = omega (arith, le) in
      subst (λ n. Walked R n p q) is (pass (to - from) from p q w (λ i low high. idle i low (omega (arith, high, is))))

-- and one step further
pub walked_next : {P : Type 0} (R : P → ℕ → P → Type 0) (n : ℕ) (p m q : P) → Walked R n p m → R m n q
    → Walked R (n + 1) p q
walked_next R n p m q w step =
    let is : suc n ≡ n + 1 = omega arith in
    subst (λ k. Walked R k p q) is (m, w, step)

module _ {F K V : Type 0} (Q : Turn F K V → Entry K V → ℕ → Turn F K V → Type 0) where
  -- a free slot is passed by
  pub passes_free : (p : Turn F K V) (i : ℕ) → at p.1.slots i ≡ None → AtFull Q p i p
  passes_free p i none = subst (λ o. MatchOption o (p ≡ p) (λ e. Q p e i p)) (sym none) refl

  -- a slot whose pair was shown is visited
  pub visits_shown : (p q : Turn F K V) (i : ℕ) (k : K) (v : V) → option_map pair_of (at p.1.slots i) ≡ Some (k, v)
      → ((e : Entry K V) → e.key ≡ k → e.value ≡ v → Q p e i q) → AtFull Q p i q
  visits_shown p q i k v shown holds = elim (option_cases (at p.1.slots i)) [
    | inl none ↦ absurd (none-some (k, v) (sym (ap (option_map pair_of) none) ∙ shown))
    | inr some ↦
        let same = same_Some (pair_of some.0) (k, v) (sym (ap (option_map pair_of) some.1) ∙ shown) in
        subst (λ o. MatchOption o (q ≡ p) (λ e. Q p e i q)) (sym some.1)
        (holds some.0 (ap (λ x. x.0) same) (ap (λ x. x.1) same))
  ]

-- an answer to a pair is one to an entry that has it
pub answers_entry : {F K V R : Type 0} (member : Mut F (Bor K × (MutBor V × Unit {0})) (R × (MutBor V × Unit {0})))
    (f : F) (k : K) (v : V) (r : R) (w : V) (g : F) (e : Entry K V)
    → e.key ≡ k → e.value ≡ v → AnswersNext member f k v r w g → AnswersNext member f e.key e.value r w g
answers_entry member f k v r w g e ke ve a =
    record {
      key = a.key;
      value = a.value;
      shows = (a.shows.0 ∙ sym ke, a.shows.1 ∙ sym ve);
      left = a.left;
      called = a.called;
      leaves = a.leaves;
    }

-- and what is made of a value is made of an entry's
pub makes_entry : {F K V : Type 0} (member : Mut F (Bor K × (V × Unit {0})) V) (f : F) (k : K) (v w : V) (g : F)
    (e : Entry K V)
    → e.key ≡ k → e.value ≡ v → MakesNext member f k v w g → MakesNext member f e.key e.value w g
makes_entry {F} {K} {V} member f k v w g e ke ve a =
    subst (λ x. MakesNext member f e.key x w g) (sym ve) (subst (λ x. MakesNext member f x v w g) (sym ke) a)

-- a full slot is one of the slots
pub full_within : {K V : Type 0} (xs : List (Option (Entry K V))) (i : ℕ) → IsSome (at xs i) → i < length xs
full_within [] zero full = absurd (false≢true full)
full_within [] (suc i) full = absurd (false≢true full)
full_within (x ∷ xs) zero full = omega arith
full_within (x ∷ xs) (suc i) full = let rest = full_within xs i full in omega (arith, rest)

-- what is known of the next full slot
pub next_full : {K V : Type 0} (xs : List (Option (Entry K V))) (from : ℕ) (o : Option ℕ) (i : ℕ) → o ≡ Some i
    → MatchOption o ((j : ℕ) → from ≤ j → at xs j ≡ None) (IsNextFull xs from) → IsNextFull xs from i
next_full xs from o i is known = MatchOption-at_some _ (IsNextFull xs from) i is known

-- and of there being none
pub none_from : {K V : Type 0} (xs : List (Option (Entry K V))) (from : ℕ) (o : Option ℕ) → o ≡ None
    → MatchOption o ((j : ℕ) → from ≤ j → at xs j ≡ None) (IsNextFull xs from) → (j : ℕ) → from ≤ j → at xs j ≡ None
none_from xs from o is known = MatchOption-at_none ((j : ℕ) → from ≤ j → at xs j ≡ None) (IsNextFull xs from) is known
