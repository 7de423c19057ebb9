-- Tables of shards joined: distinct, and a key finds there what it finds in its own shard's table.
use Rattle.std.proofs.Common.{◌≡◌, ℕ, zero, suc, ◌+◌, Bool, List, [], ◌∷◌, ◌++◌, length, Some, None, slice_get, IsTrue}
use Rattle.std.proofs.Common.{refl, sym, ap, ◌∙◌, inl, inr, arith}
use Rattle.std.specs.Cmp.{IsEquivalence}
use Rattle.std.specs.Option.{option_and_then}
use Rattle.std.proofs.lemmas.Option.{none-some, same_Some, option_and_then_some}
use Rattle.std.proofs.lemmas.Bool.{false≢true, false_from_ne_true}
use Rattle.mapworld_calls.specs.Pairs.{pair_of, AreDistinct}
use Rattle.mapworld.specs.Tables.{joined, AreRouted, AreEachDistinct}
use Rattle.mapworld_calls.proofs.Lists.{slice_get-append_left, slice_get-append_right, slice_get-append_cases}
use Rattle.mapworld_state.proofs.Finds.{same_option}
use Rattle.mapworld_state.proofs.Tables.{pair_of-is, pair_of-none, pair_of-none_from, pair_of-at, AreDistinct-none}

-- an element of one of the lists stands in the joined list
pub joined-there : {X : Type 0} (tables : List (List X)) (i j : ℕ) (table : List X) (x : X)
    → slice_get tables i ≡ Some table → slice_get table j ≡ Some x → (n : ℕ) × (slice_get (joined tables) n ≡ Some x)
joined-there [] i j table x ht hx = absurd (none-some table ht)
joined-there (t ∷ ts) zero j table x ht hx =
    (j, slice_get-append_left t (joined ts) j x (ap (λ l. slice_get l j) (same_Some t table ht) ∙ hx))
joined-there (t ∷ ts) (suc i) j table x ht hx =
    let r = joined-there ts i j table x ht hx in
    (length t + r.0, slice_get-append_right t (joined ts) r.0 ∙ r.1)

-- an element of the joined list stands in one of them
pub joined-from : {X : Type 0} (tables : List (List X)) (n : ℕ) (x : X) → slice_get (joined tables) n ≡ Some x
    → (i j : ℕ) × (table : List X) × (slice_get tables i ≡ Some table) × (slice_get table j ≡ Some x)
joined-from [] n x h = absurd (none-some x h)
joined-from (t ∷ ts) n x h = elim (slice_get-append_cases t (joined ts) n x h) [
  | inl a ↦ (0, n, t, refl, a)
  | inr b ↦ let r = joined-from ts b.0 x b.2 in (suc r.0, r.1, r.2, r.3, r.4)
]

module _ {K V : Type 0} (eq : K → K → Bool) (laws : IsEquivalence eq) where
  AreDistinct-append : (ps qs : List (K × V)) → AreDistinct eq ps → AreDistinct eq qs
      → ((i j : ℕ) (p r : K × V) → slice_get ps i ≡ Some p → slice_get qs j ≡ Some r → IsTrue (eq p.0 r.0) → ⊥)
      → AreDistinct eq (ps ++ qs)
  AreDistinct-append ps qs first second apart i j p r hp hr e = elim (slice_get-append_cases ps qs i p hp) [
    | inl a ↦ elim (slice_get-append_cases ps qs j r hr) [
      | inl b ↦ first i j p r a b e
      | inr b ↦ absurd (apart i b.0 p r a b.2 e)
    ]
    | inr a ↦ elim (slice_get-append_cases ps qs j r hr) [
      | inl b ↦ absurd (apart j a.0 r p b a.2 (laws.symm r.0 p.0 ∙ e))
      | inr b ↦ a.1 ∙ (ap (λ n. length ps + n) (second a.0 b.0 p r a.2 b.2 e) ∙ sym b.1)
    ]
  ]

  -- equal keys stand in one table
  abbrev AreInOneTable : List (List (K × V)) → Type 0
  AreInOneTable tables =
      (i j k l : ℕ) (s t : List (K × V)) (p r : K × V) → slice_get tables i ≡ Some s → slice_get tables j ≡ Some t
      → slice_get s k ≡ Some p → slice_get t l ≡ Some r → IsTrue (eq p.0 r.0) → i ≡ j

  distinct_joined : (tables : List (List (K × V))) → AreEachDistinct eq tables → AreInOneTable tables
      → AreDistinct eq (joined tables)
  distinct_joined [] each one = AreDistinct-none {V = V} eq laws
  distinct_joined (t ∷ ts) each one =
      AreDistinct-append t (joined ts) (each 0 t refl)
      (distinct_joined ts (λ i table at. each (suc i) table at)
      (λ i j k l a b p r ha hb hp hr e. let h = one (suc i) (suc j) k l a b p r ha hb hp hr e in omega (arith, h)))
      (λ i j p r hp hr e.
      let a = joined-from ts j r hr in
      let h = one 0 (suc a.0) i a.1 t a.2 p r refl a.3 hp a.4 e in
      omega (arith, h))

  -- with each pair at its key's route, and equal keys at one route, the tables joined have no key twice
  pub AreDistinct-joined : (route : K → ℕ) (tables : List (List (K × V)))
      → ((j k : K) → IsTrue (eq j k) → route j ≡ route k) → AreRouted route tables → AreEachDistinct eq tables
      → AreDistinct eq (joined tables)
  AreDistinct-joined route tables routes routed each =
      distinct_joined tables each
      (λ i j k l s t p r hs ht hp hr e. sym (routed i k s p hs hp) ∙ (routes p.0 r.0 e ∙ routed j l t r ht hr))

  -- a key finds in the tables joined what it finds in the table of its route
  pub pair_of-joined : (route : K → ℕ) (tables : List (List (K × V)))
      → ((j k : K) → IsTrue (eq j k) → route j ≡ route k) → AreRouted route tables → AreEachDistinct eq tables
      → (q : K) → pair_of eq (joined tables) q ≡ option_and_then (λ ps. pair_of eq ps q) (slice_get tables (route q))
  pair_of-joined route tables routes routed each q =
      let distinct = AreDistinct-joined route tables routes routed each in
      let own = option_and_then (λ (ps : List (K × V)). pair_of eq ps q) (slice_get tables (route q)) in
      same_option own (pair_of eq (joined tables) q)
      (λ p h. option_and_then_some (λ ps. pair_of eq ps q) (slice_get tables (route q)) p h (λ t at found.
      let r = pair_of-is eq laws t q p found in
      let n = joined-there tables (route q) r.0 t p at r.1 in
      pair_of-at eq laws (joined tables) n.0 p q distinct n.1 r.2))
      (λ h. pair_of-none_from eq laws (joined tables) q (λ n p at. false_from_ne_true (eq p.0 q) (λ e.
      let r = joined-from tables n p at in
      let place : slice_get tables (route q) ≡ Some r.2 =
      ap (λ k. slice_get tables k) (sym (routes p.0 q e) ∙ routed r.0 r.1 r.2 p r.3 r.4) ∙ r.3 in
      let none : pair_of eq r.2 q ≡ None = sym (ap (λ o. option_and_then (λ (ps : List (K × V)). pair_of eq ps q) o)
      place) ∙ h in
      false≢true (sym (pair_of-none eq laws r.2 q none r.1 p r.4) ∙ e))))
