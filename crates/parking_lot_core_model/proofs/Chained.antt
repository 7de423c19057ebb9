-- All chains together: each key's list is in its bucket's chain, and a change of one chain is a change of its lists.
use Rattle.std.proofs.Common.{◌≡◌, ℕ, zero, suc, ◌+◌, ◌<◌, ◌≤◌, ◌%◌, ◌==◌, Bool, true, false, cond, List, [], ◌∷◌, ◌++◌}
use Rattle.std.proofs.Common.{length, map, filter, Option, Some, None, slice_get, slice_set, get_or, refl, sym, ap, ◌∙◌}
use Rattle.std.proofs.Common.{subst, arith, count_by, mod-lt, eq-eqb, length-append}
use mathlib.Core.Path.{fun_ext}
use Rattle.std.proofs.Math.ListN.{length-set}
use Rattle.std.proofs.lemmas.Bool.{eqb-false, ne_eqb}
use Rattle.std.proofs.lemmas.List.{append-nil}
use Rattle.std.proofs.lemmas.Option.{slice_get-get_or}
use Rattle.parking_lot_core_model.specs.declared.chains.Node.{Node}
use Rattle.parking_lot_core_model.specs.declared.chains.Head.{Head}
use Rattle.parking_lot_core_model.specs.declared.lists.Entry.{Entry}
use Rattle.parking_lot_core_model.specs.declared.place.Waiter.{Waiter}
use Rattle.parking_lot_core_model.specs.Lists.{updated, is_under, lists_of}
use Rattle.parking_lot_core_model.specs.Chains.{chain, entries, Leads, IsChain, AreLinked}
use Rattle.parking_lot_core_model.proofs.Kept.{by_eqb, lists_of-append, lists_of-cons_at, lists_of-cons_other}
use Rattle.parking_lot_core_model.proofs.Kept.{updated_other}
use Rattle.parking_lot_core_model.proofs.Numbers.{flag, slice_get-set_same, slice_get-set_other, count_by-cons}
use Rattle.parking_lot_core_model.proofs.Links.{some≢none, some_is, Apart, entry_at, along, chain_is}

-- numbers that differ, one more or less
pub suc_differ : (j b : ℕ) → (j == b) ≡ false → (suc j == suc b) ≡ false
suc_differ j b o = ne_eqb (suc j) (suc b) (λ q. eqb-false j b o (omega (arith, q)))

module _ (nodes : List Node) where
  -- the lists of other buckets' keys
  other_empty : (count bucket key : ℕ) → (bucket == key % count) ≡ false → (ns : List ℕ) (at to : Option ℕ)
      → Leads nodes count bucket at ns to → lists_of (along nodes ns) key ≡ []
  other_empty count bucket key other [] at to h = refl
  other_empty count bucket key other (n ∷ ns) at to h =
      ap (λ o. lists_of (entry_at n o ∷ along nodes ns) key) h.2
      ∙ (lists_of-cons_other h.0.key (record { thread = n; token = h.0.token }) (along nodes ns) key
      (ne_eqb h.0.key key (λ e. eqb-false bucket (key % count) other (sym h.3 ∙ ap (λ k. k % count) e)))
      ∙ other_empty count bucket key other ns h.0.next to h.4)

  none_there : (hs : List Head) (key : ℕ)
      → ((j : ℕ) (x : Head) → slice_get hs j ≡ Some x → lists_of (chain nodes x) key ≡ [])
      → lists_of (entries nodes hs) key ≡ []
  none_there [] key h = refl
  none_there (x ∷ xs) key h =
      lists_of-append (chain nodes x) (entries nodes xs) key
      ∙ (ap (λ ys. ys ++ lists_of (entries nodes xs) key) (h 0 x refl)
      ∙ none_there xs key (λ j y e. h (suc j) y e))

  one_there : (hs : List Head) (b : ℕ) (head : Head) (key : ℕ) → slice_get hs b ≡ Some head
      → ((j : ℕ) (x : Head) → slice_get hs j ≡ Some x → (j == b) ≡ false → lists_of (chain nodes x) key ≡ [])
      → lists_of (entries nodes hs) key ≡ lists_of (chain nodes head) key
  one_there [] b head key e h = absurd (some≢none (sym e))
  one_there (x ∷ xs) zero head key e h =
      lists_of-append (chain nodes x) (entries nodes xs) key
      ∙ (ap (λ ys. lists_of (chain nodes x) key ++ ys)
      (none_there xs key (λ j y k. h (suc j) y k (ne_eqb (suc j) 0 (λ q. omega (arith, q)))))
      ∙ (append-nil (lists_of (chain nodes x) key) ∙ ap (λ y. lists_of (chain nodes y) key) (some_is e)))
  one_there (x ∷ xs) (suc b) head key e h =
      lists_of-append (chain nodes x) (entries nodes xs) key
      ∙ (ap (λ ys. ys ++ lists_of (entries nodes xs) key) (h 0 x refl (ne_eqb 0 (suc b) (λ q. omega (arith, q))))
      ∙ one_there xs b head key e (λ j y k o. h (suc j) y k (suc_differ j b o)))

  -- a chain is part of all
  pub part_few : (hs : List Head) (b : ℕ) (head : Head) → slice_get hs b ≡ Some head
      → length (chain nodes head) ≤ length (entries nodes hs)
  part_few [] b head e = absurd (some≢none (sym e))
  part_few (x ∷ xs) zero head e =
      let a = length-append (chain nodes x) (entries nodes xs) in
      let s = ap (λ y. length (chain nodes y)) (some_is e) in
      omega (arith, a, s)
  part_few (x ∷ xs) (suc b) head e =
      let a = length-append (chain nodes x) (entries nodes xs) in
      let s = part_few xs b head e in
      omega (arith, a, s)

  -- the number of a key's bucket, and its chain
  pub bucket_there : (heads : List Head) → 0 < length heads → (key : ℕ)
      → (head : Head) × (slice_get heads (key % length heads) ≡ Some head)
  bucket_there heads some key =
      let none : Head = record { first = None; last = None } in (
        get_or heads (key % length heads) none,
        slice_get-get_or heads (key % length heads) none (mod-lt key some),
      )

  pub by_bucket : (heads : List Head) → AreLinked heads nodes → (key : ℕ) (head : Head)
      → slice_get heads (key % length heads) ≡ Some head
      → lists_of (entries nodes heads) key ≡ lists_of (chain nodes head) key
  by_bucket heads l key head e =
      one_there heads (key % length heads) head key e
      (λ j x k o.
      let c = l.chains j x k in
      ap (λ es. lists_of es key) (chain_is nodes (length heads) j x c)
      ∙ other_empty (length heads) j key o c.0 x.first None c.1)

  -- who is in no list is in no chain
  cons_count : (p : Waiter → Bool) (e : Entry Waiter) (es : List (Entry Waiter)) (k : ℕ)
      → count_by p (lists_of es k) ≤ count_by p (lists_of (e ∷ es) k)
  cons_count p e es k =
      elim (e.key == k) as
      (λ b. count_by p (lists_of es k)
      ≤ count_by p (map (λ (x : Entry Waiter). x.item)
      (cond b (e ∷ filter (is_under k) es) (filter (is_under k) es)))) [
        | true ↦ (let c = count_by-cons p e.item (lists_of es k) in omega (arith, c))
        | false ↦ omega arith
      ]

  apart_from : (count bucket n : ℕ) (ns : List ℕ) (at to : Option ℕ) → Leads nodes count bucket at ns to
      → ((k : ℕ) → count_by (λ (w : Waiter). w.thread == n) (lists_of (along nodes ns) k) ≡ 0) → Apart n ns
  apart_from count bucket n [] at to h none = tt
  apart_from count bucket n (m ∷ ms) at to h none =
      let p : Waiter → Bool = λ w. w.thread == n in
      let it : Waiter = record { thread = m; token = h.0.token } in (
        ne_eqb m n (λ e.
            let here : lists_of (along nodes (m ∷ ms)) h.0.key ≡ it ∷ lists_of (along nodes ms) h.0.key =
            ap (λ o. lists_of (entry_at m o ∷ along nodes ms) h.0.key) h.2
            ∙ lists_of-cons_at h.0.key it (along nodes ms) in
            let c = count_by-cons p it (lists_of (along nodes ms) h.0.key) in
            let f : flag (m == n) ≡ 1 = ap flag (eq-eqb m n e) in
            let z = sym (ap (count_by p) here) ∙ none h.0.key in
            omega (arith, c, f, z)),
        apart_from count bucket n ms h.0.next to h.4
            (λ k.
            let a = cons_count p (entry_at m (slice_get nodes m)) (along nodes ms) k in
            let z = none k in
            omega (arith, a, z)),
      )

  pub apart_everywhere : (heads : List Head) (l : AreLinked heads nodes) (n : ℕ)
      → ((k : ℕ) → count_by (λ (w : Waiter). w.thread == n) (lists_of (entries nodes heads) k) ≡ 0)
      → (j : ℕ) (x : Head) (e : slice_get heads j ≡ Some x) (c : IsChain nodes (length heads) j x) → Apart n c.0
  apart_everywhere heads l n none j x e c =
      let p : Waiter → Bool = λ w. w.thread == n in
      apart_from (length heads) j n c.0 x.first None c.1
      (λ k. by_eqb j (k % length heads) (count_by p (lists_of (along nodes c.0) k) ≡ 0)
      (λ same.
      ap (count_by p) (ap (λ es. lists_of es k) (sym (chain_is nodes (length heads) j x c))
      ∙ sym (by_bucket heads l k x (ap (slice_get heads) (sym same) ∙ e))) ∙ none k)
      (λ other. ap (count_by p) (other_empty (length heads) j k other c.0 x.first None c.1)))

-- one chain is changed
module _ (nodes after : List Node) where
  same_total : (hs : List Head)
      → ((j : ℕ) (x : Head) → slice_get hs j ≡ Some x → length (chain after x) ≡ length (chain nodes x))
      → length (entries after hs) ≡ length (entries nodes hs)
  same_total [] h = refl
  same_total (x ∷ xs) h =
      let a = length-append (chain nodes x) (entries nodes xs) in
      let b = length-append (chain after x) (entries after xs) in
      let c = h 0 x refl in
      let d = same_total xs (λ j y e. h (suc j) y e) in
      omega (arith, a, b, c, d)

  set_total : (hs : List Head) (b : ℕ) (head new : Head) → slice_get hs b ≡ Some head
      → ((j : ℕ) (x : Head) → slice_get hs j ≡ Some x → (j == b) ≡ false
      → length (chain after x) ≡ length (chain nodes x))
      → length (entries after (slice_set hs b new)) + length (chain nodes head)
      ≡ length (entries nodes hs) + length (chain after new)
  set_total [] b head new e h = absurd (some≢none (sym e))
  set_total (x ∷ xs) zero head new e h =
      let a = length-append (chain nodes x) (entries nodes xs) in
      let b = length-append (chain after new) (entries after xs) in
      let s = ap (λ y. length (chain nodes y)) (some_is e) in
      let d = same_total xs (λ j y k. h (suc j) y k (ne_eqb (suc j) 0 (λ q. omega (arith, q)))) in
      omega (arith, a, b, s, d)
  set_total (x ∷ xs) (suc b) head new e h =
      let a = length-append (chain nodes x) (entries nodes xs) in
      let c = length-append (chain after x) (entries after (slice_set xs b new)) in
      let d = h 0 x refl (ne_eqb 0 (suc b) (λ q. omega (arith, q))) in
      let f = set_total xs b head new e (λ j y k o. h (suc j) y k (suc_differ j b o)) in
      omega (arith, a, c, d, f)

  module _ (heads : List Head) (b : ℕ) (head new : Head) (l : AreLinked heads nodes)
      (at : slice_get heads b ≡ Some head) (here : IsChain after (length heads) b new)
      (others : (j : ℕ) (x : Head) → slice_get heads j ≡ Some x → (j == b) ≡ false
      → IsChain after (length heads) j x × (chain after x ≡ chain nodes x)) where
    set_count : length (slice_set heads b new) ≡ length heads
    set_count = length-set heads b new

    set_here : slice_get (slice_set heads b new) b ≡ Some new
    set_here = slice_get-set_same heads b head new at

    pub changed_total : length (entries after (slice_set heads b new)) + length (chain nodes head)
        ≡ length (entries nodes heads) + length (chain after new)
    changed_total = set_total heads b head new at (λ j x e o. ap length (others j x e o).1)

    pub changed_linked : length (entries after (slice_set heads b new)) ≤ length after
        → AreLinked (slice_set heads b new) after
    changed_linked few = record {
      some = subst (λ (c : ℕ). 0 < c) (sym set_count) l.some;
      few = few;
      chains = λ j x e.
          subst (λ (c : ℕ). IsChain after c j x) (sym set_count)
          (by_eqb j b (IsChain after (length heads) j x)
          (λ same. subst (λ (i : ℕ). IsChain after (length heads) i x) (sym same)
          (subst (IsChain after (length heads) b)
          (some_is (sym set_here ∙ (ap (slice_get (slice_set heads b new)) (sym same) ∙ e))) here))
          (λ other. (others j x (sym (slice_get-set_other heads b j new other) ∙ e) other).0));
    }

    pub changed_lists : (key : ℕ) (xs : List Waiter) → AreLinked (slice_set heads b new) after
        → key % length heads ≡ b → lists_of (chain after new) ≡ updated (lists_of (chain nodes head)) key xs
        → lists_of (entries after (slice_set heads b new)) ≡ updated (lists_of (entries nodes heads)) key xs
    changed_lists key xs k of change = fun_ext (λ i.
        let j : ℕ = i % length heads in
        let j_is : i % length (slice_set heads b new) ≡ j = ap (λ c. i % c) set_count in
        by_eqb j b
        (lists_of (entries after (slice_set heads b new)) i ≡ updated (lists_of (entries nodes heads)) key xs i)
        (λ same.
        by_bucket after (slice_set heads b new) k i new
        (ap (slice_get (slice_set heads b new)) (j_is ∙ same) ∙ set_here)
        ∙ (ap (λ (f : ℕ → List Waiter). f i) change
        ∙ ap (λ ys. cond (i == key) xs ys)
        (sym (by_bucket nodes heads l i head (ap (slice_get heads) same ∙ at)))))
        (λ other.
        let x = bucket_there nodes heads l.some i in
        by_bucket after (slice_set heads b new) k i x.0
        (ap (slice_get (slice_set heads b new)) j_is ∙ (slice_get-set_other heads b j new other ∙ x.1))
        ∙ (ap (λ es. lists_of es i) (others j x.0 x.1 other).1
        ∙ (sym (by_bucket nodes heads l i x.0 x.1)
        ∙ sym (updated_other (lists_of (entries nodes heads)) key xs i
        (ne_eqb i key (λ e. eqb-false j b other (ap (λ n. n % length heads) e ∙ of))))))))
