-- A list in no falling order of two numbers rises from neighbour to neighbour, by the first and then by the second.
use Rattle.std.proofs.Common.{◌≡◌, ℕ, ◌<◌, ◌≤◌, ◌⊎◌, inl, inr, false, List, [], ◌∷◌, ◌++◌, length, take, refl, sym, ap}
use Rattle.std.proofs.Common.{◌∙◌, subst, arith}
use Rattle.std.specs.Ordering.{nat_cmp, ordering_then, is_lt}
use Rattle.std.specs.declared.cmp.Ordering.TheVariants.{Less, Equal, Greater}
use Rattle.std.proofs.lemmas.Bool.{true≢false, cases_lt, cases_eq, cond-true, cond-false, lt-ltb, le-ltb, eq-eqb}

less_is : (a b : ℕ) → a < b → nat_cmp a b ≡ Less
less_is a b less = cond-true _ Less _ (lt-ltb a b less)

level_is : (a : ℕ) → nat_cmp a a ≡ Equal
level_is a = cond-false _ Less _ (le-ltb a a (omega arith)) ∙ cond-true _ Equal Greater (eq-eqb a a refl)

pub not_less : (s t a b : ℕ) → is_lt (ordering_then (nat_cmp s t) (nat_cmp a b)) ≡ false → (t < s) ⊎ ((t ≡ s) × (b ≤ a))
not_less s t a b not = elim (cases_lt s t) [
  | inl less ↦ absurd (true≢false (sym (ap (λ o. is_lt (ordering_then o (nat_cmp a b))) (less_is s t less)) ∙ not))
  | inr up ↦ elim (cases_eq s t) [
    | inr apart ↦ inl (omega (arith, up, apart))
    | inl level ↦ inr (sym level, second level)
  ]
]
  where
    second : s ≡ t → b ≤ a
    second level = elim (cases_lt a b) [
      | inl less ↦
          absurd (true≢false
          (sym (ap (λ o. is_lt (ordering_then (nat_cmp s t) o)) (less_is a b less)
          ∙ ap (λ o. is_lt (ordering_then o Less)) (subst (λ z. nat_cmp s z ≡ Equal) level (level_is s))) ∙ not))
      | inr up ↦ up
    ]

-- what was put in front of a list
pub front : {X : Type 0} (n : ℕ) (xs ys : List X) → n ≡ length xs → take n (xs ++ ys) ≡ xs
front n xs ys is = ap (λ k. take k (xs ++ ys)) is ∙ whole xs ys
  where
    whole : {X : Type 0} (xs ys : List X) → take (length xs) (xs ++ ys) ≡ xs
    whole [] ys = refl
    whole (x ∷ xs) ys = ap (λ l. x ∷ l) (whole xs ys)
