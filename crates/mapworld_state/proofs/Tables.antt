-- A table of pairs with distinct keys: what a key finds after a push, a write and a removal.
use Rattle.std.proofs.Common.{◌≡◌, ◌≢◌, ℕ, Bool, true, false, if◌then◌else◌, List, [], ◌∷◌, ◌++◌, length, Some, None}
use Rattle.std.proofs.Common.{slice_get, slice_set, remove, refl, sym, ap, ◌∙◌, inl, inr}
use Rattle.std.specs.Cmp.{IsEquivalence}
use Rattle.std.proofs.lemmas.Option.{none-some, same_Some}
use Rattle.std.proofs.lemmas.Bool.{false≢true, false_from_ne_true}
use Rattle.mapworld_calls.specs.Pairs.{has_key, pair_of, AreDistinct}
use Rattle.mapworld_calls.proofs.Lists.{slice_get-set_same, slice_get-set_other, slice_get-set_cases}
use Rattle.mapworld_calls.proofs.Lists.{slice_get-push_below, slice_get-push_at, slice_get-push_cases, slice_get-remove}
use Rattle.mapworld_calls.proofs.Lists.{slice_get-remove_is, slice_get-remove_kept, stood_at, stood_at-same}
use Rattle.dashmap_table.proofs.Cases.{option_cases, choice}
use Rattle.mapworld_state.proofs.Finds.{same_option, find-Some, find-None, find-None_from, find-alike}

-- two keys that are equal to a third are equal
pub equal_by : {K : Type 0} (eq : K → K → Bool) → IsEquivalence eq → (j k q : K) → eq j q ≡ true → eq k q ≡ true
    → eq j k ≡ true
equal_by eq laws j k q a b = laws.congr j q k a ∙ (laws.symm q k ∙ b)

module _ {K V : Type 0} (eq : K → K → Bool) (laws : IsEquivalence eq) where
  -- equal keys find the same
  pub pair_of-same : (ps : List (K × V)) (j k : K) → eq j k ≡ true → pair_of eq ps j ≡ pair_of eq ps k
  pair_of-same ps j k e =
      find-alike (has_key eq j) (has_key eq k) ps (λ p. laws.symm p.0 j ∙ (laws.congr j k p.0 e ∙ laws.symm k p.0))

  -- what a key finds stands in the table
  pub pair_of-is : (ps : List (K × V)) (q : K) (p : K × V) → pair_of eq ps q ≡ Some p → (i : ℕ)
      × (slice_get ps i ≡ Some p) × (eq p.0 q ≡ true)
  pair_of-is ps q p h = let r = find-Some (has_key eq q) ps p h in (r.0, r.1, r.2)

  pub pair_of-none : (ps : List (K × V)) (q : K) → pair_of eq ps q ≡ None → (i : ℕ) (p : K × V)
      → slice_get ps i ≡ Some p → eq p.0 q ≡ false
  pair_of-none ps q h = find-None (has_key eq q) ps h

  pub pair_of-none_from : (ps : List (K × V)) (q : K)
      → ((i : ℕ) (p : K × V) → slice_get ps i ≡ Some p → eq p.0 q ≡ false) → pair_of eq ps q ≡ None
  pair_of-none_from ps q none = find-None_from (has_key eq q) ps none

  -- of distinct keys the one that stands in the table is found
  pub pair_of-at : (ps : List (K × V)) (i : ℕ) (p : K × V) (q : K) → AreDistinct eq ps → slice_get ps i ≡ Some p
      → eq p.0 q ≡ true → pair_of eq ps q ≡ Some p
  pair_of-at ps i p q distinct at e = elim (option_cases (pair_of eq ps q)) [
    | inl none ↦ absurd (false≢true (sym (pair_of-none ps q none i p at) ∙ e))
    | inr some ↦
        let r = pair_of-is ps q some.0 some.1 in
        let place : r.0 ≡ i = distinct r.0 i some.0 p r.1 at (equal_by eq laws some.0.0 p.0 q r.2 e) in
        let same = same_Some some.0 p (sym r.1 ∙ (ap (λ k. slice_get ps k) place ∙ at)) in
        some.1 ∙ ap (λ x. Some x) same
  ]

  -- a list without pairs, and one with a new key more, are distinct
  pub AreDistinct-none : AreDistinct {V = V} eq []
  AreDistinct-none i j p r hp hr e = absurd (none-some p hp)

  pub AreDistinct-push : (ps : List (K × V)) (k : K) (v : V) → AreDistinct eq ps → pair_of eq ps k ≡ None
      → AreDistinct eq (ps ++ (k, v) ∷ [])
  AreDistinct-push ps k v distinct none i j p r hp hr e =
      elim (slice_get-push_cases ps i p (k, v) hp) [
        | inl a ↦ elim (slice_get-push_cases ps j r (k, v) hr) [
          | inl b ↦ distinct i j p r a b e
          | inr b ↦
              absurd (false≢true (sym (pair_of-none ps k none i p a) ∙ (ap (λ (w : K × V). eq p.0 w.0) (sym b.1) ∙ e)))
        ]
        | inr a ↦ elim (slice_get-push_cases ps j r (k, v) hr) [
          | inl b ↦
              absurd (false≢true
              (sym (pair_of-none ps k none j r b)
              ∙ (ap (λ (w : K × V). eq r.0 w.0) (sym a.1) ∙ (laws.symm r.0 p.0 ∙ e))))
          | inr b ↦ a.0 ∙ sym b.0
        ]
      ]

  -- a new key's pair put behind the others
  pub pair_of-push : (ps : List (K × V)) (k : K) (v : V) → AreDistinct eq ps → pair_of eq ps k ≡ None → (q : K)
      → pair_of eq (ps ++ (k, v) ∷ []) q ≡ (if eq k q then Some (k, v) else pair_of eq ps q)
  pair_of-push ps k v distinct none q =
      let still = AreDistinct-push ps k v distinct none in
      choice (eq k q) (Some (k, v)) (pair_of eq ps q) (pair_of eq (ps ++ (k, v) ∷ []) q)
      (λ e. pair_of-at (ps ++ (k, v) ∷ []) (length ps) (k, v) q still (slice_get-push_at ps (k, v)) e)
      (λ e. same_option (pair_of eq ps q) (pair_of eq (ps ++ (k, v) ∷ []) q)
      (λ x h. let r = pair_of-is ps q x h in pair_of-at (ps ++ (k, v) ∷ []) r.0 x q still
      (slice_get-push_below ps r.0 x (k, v) r.1) r.2)
      (λ h. pair_of-none_from (ps ++ (k, v) ∷ []) q (λ i p at. elim (slice_get-push_cases ps i p (k, v) at) [
        | inl a ↦ pair_of-none ps q h i p a
        | inr b ↦ ap (λ (w : K × V). eq w.0 q) b.1 ∙ e
      ])))

  -- a pair under an equal key keeps the keys up to equality
  pub put-keys : (ps : List (K × V)) (i : ℕ) (p z : K × V) → eq p.0 z.0 ≡ true → slice_get ps i ≡ Some p
      → (j : ℕ) (r : K × V) → slice_get (slice_set ps i z) j ≡ Some r
      → (s : K × V) × (slice_get ps j ≡ Some s) × (eq r.0 s.0 ≡ true)
  put-keys ps i p z same at j r h = elim (slice_get-set_cases ps i j p r z at h) [
    | inl a ↦ (p, ap (λ k. slice_get ps k) a.0 ∙ at, ap (λ (x : K × V). eq x.0 p.0) a.1 ∙ (laws.symm z.0 p.0 ∙ same))
    | inr b ↦ (r, b.1, laws.refl r.0)
  ]

  pub AreDistinct-put : (ps : List (K × V)) (i : ℕ) (p z : K × V) → eq p.0 z.0 ≡ true → AreDistinct eq ps
      → slice_get ps i ≡ Some p → AreDistinct eq (slice_set ps i z)
  AreDistinct-put ps i p z same distinct at j k r s hr hs e =
      let a = put-keys ps i p z same at j r hr in
      let b = put-keys ps i p z same at k s hs in
      distinct j k a.0 b.0 a.1 b.1
      (sym (laws.congr r.0 a.0.0 b.0.0 a.2) ∙ equal_by eq laws r.0 b.0.0 s.0 e (laws.symm b.0.0 s.0 ∙ b.2))

  -- another pair at a key that the table has
  pub pair_of-put : (ps : List (K × V)) (i : ℕ) (p z : K × V) → eq p.0 z.0 ≡ true → AreDistinct eq ps
      → slice_get ps i ≡ Some p → (q : K)
      → pair_of eq (slice_set ps i z) q ≡ (if eq p.0 q then Some z else pair_of eq ps q)
  pair_of-put ps i p z same distinct at q =
      let still = AreDistinct-put ps i p z same distinct at in
      choice (eq p.0 q) (Some z) (pair_of eq ps q) (pair_of eq (slice_set ps i z) q)
      (λ e. pair_of-at (slice_set ps i z) i z q still (slice_get-set_same ps i p z at)
      (sym (laws.congr p.0 z.0 q same) ∙ e))
      (λ e. same_option (pair_of eq ps q) (pair_of eq (slice_set ps i z) q)
      (λ x h.
      let r = pair_of-is ps q x h in
      let apart : i ≢ r.0 = λ here.
      let one = same_Some p x (sym at ∙ (ap (λ k. slice_get ps k) here ∙ r.1)) in
      false≢true (sym e ∙ (ap (λ (y : K × V). eq y.0 q) one ∙ r.2)) in
      pair_of-at (slice_set ps i z) r.0 x q still (slice_get-set_other ps i r.0 z apart ∙ r.1) r.2)
      (λ h. pair_of-none_from (slice_set ps i z) q (λ j r there.
      let a = put-keys ps i p z same at j r there in
      laws.congr r.0 a.0.0 q a.2 ∙ pair_of-none ps q h j a.0 a.1)))

  -- so it is with another value, which keeps the keys
  pub set-keys : (ps : List (K × V)) (i : ℕ) (p : K × V) (w : V) → slice_get ps i ≡ Some p → (j : ℕ) (r : K × V)
      → slice_get (slice_set ps i (p.0, w)) j ≡ Some r → (s : K × V) × (slice_get ps j ≡ Some s) × (r.0 ≡ s.0)
  set-keys ps i p w at j r h = elim (slice_get-set_cases ps i j p r (p.0, w) at h) [
    | inl a ↦ (p, ap (λ k. slice_get ps k) a.0 ∙ at, ap (λ (x : K × V). x.0) a.1)
    | inr b ↦ (r, b.1, refl)
  ]

  pub AreDistinct-set : (ps : List (K × V)) (i : ℕ) (p : K × V) (w : V) → AreDistinct eq ps → slice_get ps i ≡ Some p
      → AreDistinct eq (slice_set ps i (p.0, w))
  AreDistinct-set ps i p w distinct at = AreDistinct-put ps i p (p.0, w) (laws.refl p.0) distinct at

  pub pair_of-set : (ps : List (K × V)) (i : ℕ) (p : K × V) (w : V) → AreDistinct eq ps → slice_get ps i ≡ Some p
      → (q : K) → pair_of eq (slice_set ps i (p.0, w)) q ≡ (if eq p.0 q then Some (p.0, w) else pair_of eq ps q)
  pair_of-set ps i p w distinct at = pair_of-put ps i p (p.0, w) (laws.refl p.0) distinct at

  pub AreDistinct-remove : (ps : List (K × V)) (i : ℕ) → AreDistinct eq ps → AreDistinct eq (remove ps i)
  AreDistinct-remove ps i distinct j k r s hr hs e =
      stood_at-same i j k
      (distinct (stood_at i j) (stood_at i k) r s (sym (slice_get-remove_is ps i j) ∙ hr)
      (sym (slice_get-remove_is ps i k) ∙ hs) e)

  -- a key's pair taken out
  pub pair_of-remove : (ps : List (K × V)) (i : ℕ) (p : K × V) → AreDistinct eq ps → slice_get ps i ≡ Some p → (q : K)
      → pair_of eq (remove ps i) q ≡ (if eq p.0 q then None else pair_of eq ps q)
  pair_of-remove ps i p distinct at q =
      let still = AreDistinct-remove ps i distinct in
      choice (eq p.0 q) None (pair_of eq ps q) (pair_of eq (remove ps i) q)
      (λ e. pair_of-none_from (remove ps i) q (λ j r there.
      let a = slice_get-remove ps i j r there in
      false_from_ne_true (eq r.0 q) (λ f. a.1 (distinct a.0 i r p a.2 at (equal_by eq laws r.0 p.0 q f e)))))
      (λ e. same_option (pair_of eq ps q) (pair_of eq (remove ps i) q)
      (λ x h.
      let r = pair_of-is ps q x h in
      let apart : r.0 ≢ i = λ same.
      let one = same_Some p x (sym at ∙ (ap (λ k. slice_get ps k) (sym same) ∙ r.1)) in
      false≢true (sym e ∙ (ap (λ (y : K × V). eq y.0 q) one ∙ r.2)) in
      let kept = slice_get-remove_kept ps i r.0 x apart r.1 in
      pair_of-at (remove ps i) kept.0 x q still kept.1 r.2)
      (λ h. pair_of-none_from (remove ps i) q (λ j r there.
      let a = slice_get-remove ps i j r there in
      pair_of-none ps q h a.0 r a.2)))
