-- How often a thread stands in a list.
use Rattle.std.proofs.Common.{◌≡◌, ◌∷◌, ◌++◌, ◌+◌, ◌≤◌, ◌==◌, [], List, refl, sym, subst, Bool, true, false}
use Rattle.std.proofs.Common.{cond, ℕ}
use Rattle.std.proofs.Common.{arith, eqb-true}
use Rattle.std.proofs.lemmas.Bool.{false≢true}
use Rattle.parking_lot_core_model.specs.declared.parking.FilterOp.{FilterOp}
use Rattle.parking_lot_core.specs.declared.chain.Waiting.{Waiting}
use Rattle.parking_lot_core.specs.declared.chain.Wanted.TheVariants.{Thread}
use Rattle.parking_lot_core.specs.Waits.{onto, without, found, every, others, any, under, picked, kept, takes, behind}
use Rattle.parking_lot_core.specs.Waits.{often, fits, Apart}

module _ (t : ℕ) where
  pub often_append : (xs ys : List Waiting) → often t (xs ++ ys) ≡ often t xs + often t ys
  often_append [] ys = omega arith
  often_append (x ∷ xs) ys = let i = often_append xs ys in omega arith

  pub often_onto : (xs ys : List Waiting) → often t (onto xs ys) ≡ often t xs + often t ys
  often_onto [] ys = omega arith
  often_onto (x ∷ xs) ys = let i = often_onto xs (x ∷ ys) in omega arith

  pub often_under : (key : ℕ) (xs : List Waiting) → often t (under key xs) ≡ often t xs
  often_under key [] = refl
  often_under key (x ∷ xs) = let i = often_under key xs in omega arith

  pub often_without : (p : Waiting → Bool) (xs : List Waiting)
      → often t (without p xs) + often t (found p xs) ≡ often t xs
  often_without p [] = refl
  often_without p (x ∷ xs) = both (often_without p xs) (p x)
    where
      both : often t (without p xs) + often t (found p xs) ≡ often t xs → (b : Bool)
          → often t (cond b xs (x ∷ without p xs)) + often t (cond b (x ∷ []) (found p xs))
          ≡ often t (x ∷ xs)
      both i true = omega arith
      both i false = omega arith

  pub often_others : (p : Waiting → Bool) (xs : List Waiting)
      → often t (others p xs) + often t (every p xs) ≡ often t xs
  often_others p [] = refl
  often_others p (x ∷ xs) = both (often_others p xs) (p x)
    where
      both : often t (others p xs) + often t (every p xs) ≡ often t xs → (b : Bool)
          → often t (cond b (others p xs) (x ∷ others p xs))
          + often t (cond b (x ∷ every p xs) (every p xs)) ≡ often t (x ∷ xs)
      both i true = omega arith
      both i false = omega arith

  pub often_kept : (key : ℕ) (answers : List FilterOp) (xs : List Waiting)
      → often t (kept key answers xs) + often t (picked key answers xs) ≡ often t xs
  often_kept key answers [] = refl
  often_kept key answers (x ∷ xs) =
      both (often_kept key (behind answers) xs) (often_kept key answers xs) (x.key == key) (takes answers)
    where
      both : often t (kept key (behind answers) xs) + often t (picked key (behind answers) xs) ≡ often t xs
          → often t (kept key answers xs) + often t (picked key answers xs) ≡ often t xs → (b c : Bool)
          → often t (cond b (cond c (kept key (behind answers) xs) (x ∷ kept key (behind answers) xs))
          (x ∷ kept key answers xs))
          + often t (cond b (cond c (x ∷ picked key (behind answers) xs) (picked key (behind answers) xs))
          (picked key answers xs)) ≡ often t (x ∷ xs)
      both i j true true = omega arith
      both i j true false = omega arith
      both i j false c = omega arith

  -- who isn't there stands there not once
  pub absent : (xs : List Waiting) → any (fits (Thread t)) xs ≡ false → often t xs ≡ 0
  absent [] e = refl
  absent (x ∷ xs) e = both (absent xs) (x.waiter.thread == t) e
    where
      both : (any (fits (Thread t)) xs ≡ false → often t xs ≡ 0) → (b : Bool)
          → cond b true (any (fits (Thread t)) xs) ≡ false → cond b 1 0 + often t xs ≡ 0
      both i true e = absurd (false≢true (sym e))
      both i false e = let z = i e in omega arith

-- a part of a list in which nobody stands twice
pub apart_part : (xs left taken : List Waiting) → Apart xs
    → ((t : ℕ) → often t left + often t taken ≡ often t xs) → Apart left
apart_part xs left taken apart parts t = let a = apart t in let p = parts t in omega arith

-- one that wasn't there joins it
pub apart_joined : (xs : List Waiting) (w : Waiting) → Apart xs → any (fits (Thread w.waiter.thread)) xs ≡ false
    → Apart (xs ++ w ∷ [])
apart_joined xs w apart none t =
    let both : (b : Bool) → (w.waiter.thread == t) ≡ b → often t xs + (cond b 1 0 + 0) ≤ 1 =
    elim [
      | true ↦ λ e. let a = absent t xs (subst (λ u. any (fits (Thread u)) xs ≡ false) (same e) none) in omega arith
      | false ↦ λ e. let a = apart t in omega arith
    ] in
    subst (λ n. n ≤ 1) (sym (often_append t xs (w ∷ []))) (both (w.waiter.thread == t) refl)
  where
    same : (w.waiter.thread == t) ≡ true → w.waiter.thread ≡ t
    same e = eqb-true w.waiter.thread t e

-- or couldn't
pub apart_tried : (xs left : List Waiting) (w : Waiting) (b : Bool) → Apart xs
    → any (fits (Thread w.waiter.thread)) xs ≡ false → (b ≡ true → left ≡ xs ++ w ∷ []) → (b ≡ false → left ≡ xs)
    → Apart left
apart_tried xs left w true apart none joins stays = subst Apart (sym (joins refl)) (apart_joined xs w apart none)
apart_tried xs left w false apart none joins stays = subst Apart (sym (stays refl)) apart

-- the parts of a list of which some were taken
pub apart_left : (xs left rest taken : List Waiting) → Apart xs → left ≡ rest
    → ((t : ℕ) → often t rest + often t taken ≡ often t xs) → Apart left
apart_left xs left rest taken apart is parts = subst Apart (sym is) (apart_part xs rest taken apart parts)

-- those under another key
pub apart_under : (key : ℕ) (xs ys left : List Waiting) → Apart (xs ++ ys) → left ≡ xs ++ under key ys → Apart left
apart_under key xs ys left apart is t =
    let a = apart t in
    let u = often_under t key ys in
    let m = often_append t xs ys in
    let n = often_append t xs (under key ys) in
    subst (λ zs. often t zs ≤ 1) (sym is) (omega arith)

-- those that were taken of a list
pub apart_taken : (xs some rest taken : List Waiting) → Apart xs → some ≡ taken
    → ((t : ℕ) → often t rest + often t taken ≡ often t xs) → Apart some
apart_taken xs some rest taken apart is parts =
    subst Apart (sym is) (λ t. let a = apart t in let p = parts t in omega arith)
