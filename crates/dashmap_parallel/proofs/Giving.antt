-- Items and what stands beside each.
use Rattle.std.proofs.Common.{◌≡◌, ◌+◌, ◌-◌, ◌<◌, List, [], ◌∷◌, ◌++◌, length, slice_index_or, slice_set}
use Rattle.std.proofs.Common.{Some, None, Ok, Err, OnOk, refl, sym, ap, ap₂, ◌∙◌, subst, inl, inr, arith}
use Rattle.std.specs.Option.{IsSomeAnd}
use Rattle.std.specs.Borrow.{MutBor}
use Rattle.std.specs.Fn.{FnReturns}
use Rattle.std.specs.declared.option.Option.{Option}
use Rattle.std.specs.declared.result.Result.{Result}
use Rattle.std.proofs.lemmas.Bool.{cases_lt}
use Rattle.std.proofs.lemmas.Result.{on_ok_weaker}
use Rattle.std.proofs.lemmas.List.{length-append, length-set, get_or_append_left, get_or-append_right}
use Rattle.std.proofs.lemmas.List.{get_or-set_same, get_or_default}
use denote.Param.Members.{Shared}
use Rattle.dashmap_parallel.specs.Gifts.{TookOn, EachBeside}

module _ {X D : Type 0} (R : D → X → D → Type 0) where
  -- what holds of equals
  alike : {x x' : X} {a a' b b' : D} → a ≡ a' → x ≡ x' → b ≡ b' → R a x b → R a' x' b'
  alike {x} {x'} {a} {a'} {b} {b'} e f g r =
      subst (λ y. R y x' b') e (subst (λ y. R a y b') f (subst (λ y. R a x y) g r))

  -- one item
  pub beside-one : (x : X) (old new : List D) (a b : D) → length new ≡ length old
      → ((d : D) → slice_index_or old 0 d ≡ a) → ((d : D) → slice_index_or new 0 d ≡ b) → R a x b
      → EachBeside R (x ∷ []) old new
  beside-one x old new a b same was is r = record {
    same = same;
    each = λ k y d lt.
        let first : 0 ≡ k = omega (arith, lt) in
        subst (λ n. R (slice_index_or old n d) (slice_index_or (x ∷ []) n y) (slice_index_or new n d)) first
        (alike (sym (was d)) refl (sym (is d)) r);
  }

  -- one item more
  pub beside-more : (xs : List X) (x : X) (a b a' b' : List D) → length a ≡ length xs → EachBeside R xs a a'
      → EachBeside R (x ∷ []) b b' → EachBeside R (xs ++ x ∷ []) (a ++ b) (a' ++ b')
  beside-more xs x a b a' b' long first last =
      let n = length xs in
      let long' : length a' ≡ n = first.same ∙ long in
      record {
        same = length-append a' b' ∙ ap₂ ◌+◌ first.same last.same ∙ sym (length-append a b);
        each = λ k y d lt. elim (cases_lt k n) [
          | inl before ↦
              alike (sym (get_or_append_left a b d k (subst (λ m. k < m) (sym long) before)))
              (sym (get_or_append_left xs (x ∷ []) y k before))
              (sym (get_or_append_left a' b' d k (subst (λ m. k < m) (sym long') before)))
              (first.each k y d before)
          | inr from ↦
              alike (sym (get_or-append_right a b n k d long from))
              (sym (get_or-append_right xs (x ∷ []) n k y refl from)) (sym (get_or-append_right a' b' n k d long' from))
              (last.each (k - n) y d (omega (arith, lt, length-append xs (x ∷ []))))
        ];
      }

  -- so of an item that was taken
  pub beside-taken : {Z E : Type 0} (r : Result Z E) (o : Option X) (all xs : List X) (whole a b a' b' : List D)
      → whole ≡ a ++ b → IsSomeAnd o (λ x. all ≡ xs ++ x ∷ []) → length a ≡ length whole - 1
      → length whole ≡ length all
      → OnOk r (EachBeside R xs a a' × IsSomeAnd o (λ x. EachBeside R (x ∷ []) b b'))
      → OnOk r (EachBeside R all whole (a' ++ b'))
  beside-taken r (Some x) all xs whole a b a' b' cut is short long =
      let one : length all ≡ length xs + 1 = ap length is ∙ length-append xs (x ∷ []) in
      on_ok_weaker r
      (λ both. subst (λ ys. EachBeside R ys whole (a' ++ b')) (sym is)
      (subst (λ w. EachBeside R (xs ++ x ∷ []) w (a' ++ b')) (sym cut)
      (beside-more xs x a b a' b' (omega (arith, one, short, long)) both.0 both.1)))
  beside-taken r None all xs whole a b a' b' cut is short long = elim is [ ]

-- what a closure did that was given an item and a party
pub took-one : {F X D E : Type 0}
    (g : Shared F (X × (MutBor D × Unit {0})) (Result (Unit {0}) E × (MutBor D × Unit {0}))) (f : F) (o : Option X)
    (x : X) (old : List D) (d : D) (party left : MutBor D) (r : Result (Unit {0}) E) → o ≡ Some x → length old ≡ 1
    → party.now ≡ slice_index_or old 0 d → FnReturns g f (x, (party, tt)) (r, (left, tt))
    → OnOk r (IsSomeAnd o (λ x. EachBeside (TookOn g f) (x ∷ []) old (slice_set old 0 left.now)))
took-one {F} {X} {D} g f o x old d party left (Ok u) is long shows says =
    let there : 0 < length old = omega (arith, long) in
    subst (λ o. IsSomeAnd o (λ x. EachBeside (TookOn g f) (x ∷ []) old (slice_set old 0 left.now))) (sym is)
    (beside-one (TookOn g f) x old (slice_set old 0 left.now) party.now left.now (length-set old 0 left.now)
    (λ e. get_or_default old 0 e d there ∙ sym shows) (λ e. get_or-set_same old 0 left.now e there)
    (record { party = party; shows = refl; left = left; leaves = refl; says = says }))
took-one g f o x old d party left (Err e) is long shows says = tt
