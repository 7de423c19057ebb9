-- The lists hold exactly the threads that wait: kept where one role changes.
use Rattle.std.proofs.Common.{◌≡◌, ◌≢◌, ℕ, ◌+◌, ◌<◌, ◌≤◌, ◌⊎◌, ⊎_elim, cond, ◌==◌, List, [], ◌∷◌, ◌++◌, length, remove}
use Rattle.std.proofs.Common.{Option, Some, None, slice_get, slice_set, refl, sym, ap, ◌∙◌, subst, inl, inr, arith}
use Rattle.std.proofs.Common.{length-append, eq-eqb}
use Rattle.std.proofs.lemmas.Bool.{cases_eq, ne_eqb}
use Rattle.std.proofs.lemmas.Option.{slice_get_within, get_or_from_slice_get}
use Rattle.std.proofs.lemmas.List.Sums as sums
use Rattle.std.proofs.lemmas.List.Edits.{length-remove}
use Rattle.parking_lot_rules.specs.Lists.{occurs, at_index, IsListOf}
use Rattle.parking_lot_rules.proofs.Indexed.{get-set_same, get-set_other, sum_by-set_at}

-- what a thread counts in a list of one
abbrev pub counted : ℕ → ℕ → ℕ
counted u t = cond (t == u) 1 0

pub counted-same : (t : ℕ) → counted t t ≡ 1
counted-same t = ap (λ b. cond b 1 0) (eq-eqb t t refl)

pub counted-other : (u t : ℕ) → u ≢ t → counted u t ≡ 0
counted-other u t ne = ap (λ b. cond b 1 0) (ne_eqb t u (λ e. ne (sym e)))

pub occurs-push : (u : ℕ) (q : List ℕ) (t : ℕ) → occurs u (q ++ t ∷ []) ≡ occurs u q + counted u t
occurs-push u q t = sums.sum_by_push (λ x. cond (x == u) 1 0) q t

pub occurs-remove : (u : ℕ) (q : List ℕ) (i t : ℕ) → slice_get q i ≡ Some t
    → occurs u (remove q i) + counted u t ≡ occurs u q
occurs-remove u q i t at =
    subst (λ (x : ℕ). occurs u (remove q i) + counted u x ≡ occurs u q) (get_or_from_slice_get q i t t at)
    (sums.sum_by-remove (λ x. cond (x == u) 1 0) q i t (slice_get_within q i t at))

pub occurs-cons : (u t : ℕ) (q : List ℕ) → occurs u (t ∷ q) ≡ counted u t + occurs u q
occurs-cons u t q = sums.sum_by-cons (λ x. cond (x == u) 1 0) t q

pub occurs-join : (u : ℕ) (p q : List ℕ) → occurs u (p ++ q) ≡ occurs u p + occurs u q
occurs-join u p q = sums.sum_by-append (λ x. cond (x == u) 1 0) p q

-- a list without one that stood in it has every other as often, and is shorter by one
pub occurs-without : (u : ℕ) (ws : List ℕ) (v : ℕ) (us : List ℕ) → u ≢ v → occurs u (ws ++ v ∷ us) ≤ occurs u (ws ++ us)
occurs-without u ws v us ne =
    omega (arith, occurs-join u ws (v ∷ us), occurs-join u ws us, occurs-cons u v us, counted-other u v ne)

pub length-without : (ws : List ℕ) (v : ℕ) (us : List ℕ) → length (ws ++ v ∷ us) ≡ length (ws ++ us) + 1
length-without ws v us = omega (arith, length-append ws (v ∷ us), length-append ws us)

module _ {R : Type 0} (f : R → ℕ) (q : List ℕ) (rs : List R) (t : ℕ) (a b : R) (at : slice_get rs t ≡ Some a)
    (lists : IsListOf f q rs) where
  -- what a thread weighs then: the one that changes, or another
  weighs_after : (u : ℕ)
      → ((u ≡ t) × (at_index f (slice_get (slice_set rs t b) u) ≡ f b) × (at_index f (slice_get rs u) ≡ f a))
      ⊎ ((u ≢ t) × (at_index f (slice_get (slice_set rs t b) u) ≡ at_index f (slice_get rs u)))
  weighs_after u = ⊎_elim
      (λ e. inl (
        e,
        ap (λ v. at_index f (slice_get (slice_set rs t b) v)) e
            ∙ ap (at_index f) (get-set_same rs t a b at),
        ap (λ v. at_index f (slice_get rs v)) e ∙ ap (at_index f) at,
      ))
      (λ ne. inr (ne, ap (at_index f) (get-set_other rs t u b (λ e. ne (sym e)))))
      (cases_eq u t)

  pub lists-same : f b ≡ f a → IsListOf f q (slice_set rs t b)
  lists-same same = record {
    count = omega (arith, lists.count, sum_by-set_at f rs t a b at);
    each = λ u. ⊎_elim (λ own. lists.each u ∙ own.2 ∙ sym same ∙ sym own.1) (λ other. lists.each u ∙ sym other.1)
        (weighs_after u);
  }

  pub lists-push : f a ≡ 0 → f b ≡ 1 → IsListOf f (q ++ t ∷ []) (slice_set rs t b)
  lists-push before now = record {
    count = omega (arith, lists.count, length-append q (t ∷ []), sum_by-set_at f rs t a b at);
    each = λ u. ⊎_elim
        (λ own. let e : counted u t ≡ 1 = ap (λ v. counted v t) own.0 ∙ counted-same t in
        omega (arith, occurs-push u q t, lists.each u, own.1, own.2, e))
        (λ other. omega (arith, occurs-push u q t, lists.each u, other.1, counted-other u t other.0))
        (weighs_after u);
  }

  pub lists-drop : (i : ℕ) → slice_get q i ≡ Some t → f a ≡ 1 → f b ≡ 0 → IsListOf f (remove q i) (slice_set rs t b)
  lists-drop i stood before now = record {
    count = omega (arith, lists.count, length-remove q i (slice_get_within q i t stood), sum_by-set_at f rs t a b at);
    each = λ u. ⊎_elim
        (λ own. let e : counted u t ≡ 1 = ap (λ v. counted v t) own.0 ∙ counted-same t in
        omega (arith, occurs-remove u q i t stood, lists.each u, own.1, own.2, e))
        (λ other. omega (arith, occurs-remove u q i t stood, lists.each u, other.1, counted-other u t other.0))
        (weighs_after u);
  }

-- who stands in the list weighs something
pub listed : {R : Type 0} (f : R → ℕ) (q : List ℕ) (rs : List R) → IsListOf f q rs → (i u : ℕ) → slice_get q i ≡ Some u
    → (r : R) × (slice_get rs u ≡ Some r) × (0 < f r)
listed {R} f q rs lists i u at = go (slice_get rs u) refl
  where
    stands : 0 < occurs u q
    stands = omega (arith, occurs-remove u q i u at, counted-same u)

    go : (o : Option R) → slice_get rs u ≡ o → (r : R) × (slice_get rs u ≡ Some r) × (0 < f r)
    go None e = absurd (omega (arith, stands, lists.each u, ap (at_index f) e))
    go (Some r) e = (r, e, omega (arith, stands, lists.each u, ap (at_index f) e))
