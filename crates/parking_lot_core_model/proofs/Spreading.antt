-- Waiters are spread over more chains: each list stays as it is.
use Rattle.std.proofs.Common.{◌≡◌, ℕ, zero, suc, ◌+◌, ◌<◌, ◌≤◌, ◌%◌, ◌==◌, Bool, true, false, cond, List, [], ◌∷◌, ◌++◌}
use Rattle.std.proofs.Common.{length, map, filter, take, Option, Some, None, slice_get, get_or, refl, sym, ap}
use Rattle.std.proofs.Common.{◌∙◌, subst, arith, count_by, eq-eqb, length-append, add-one, append_assoc}
use Rattle.std.specs.Option.{option_map_or}
use Rattle.std.proofs.Math.Seq.{take-suc}
use Rattle.std.proofs.Math.ListN.{length-set}
use Rattle.std.proofs.lemmas.Bool.{ne_eqb}
use Rattle.std.proofs.lemmas.List.{append-nil}
use Rattle.std.proofs.lemmas.Option.{slice_get_within, get_or_from_slice_get}
use Rattle.parking_lot_core_model.specs.declared.chains.Node.{Node}
use Rattle.parking_lot_core_model.specs.declared.chains.Head.{Head}
use Rattle.parking_lot_core_model.specs.declared.lists.Entry.{Entry}
use Rattle.parking_lot_core_model.specs.declared.place.Waiter.{Waiter}
use Rattle.parking_lot_core_model.specs.Lists.{updated, is_under, lists_of}
use Rattle.parking_lot_core_model.specs.Chains.{entry_of, walk, chain, entries, Leads, IsChain, AreLinked, Joins}
use Rattle.parking_lot_core_model.specs.Chains.{nobody}
use Rattle.parking_lot_core_model.specs.Chains.{head_with, AreEmpty, HaveNodes, MayBeLinked}
use Rattle.parking_lot_core_model.proofs.Kept.{by_eqb, lists_of-push}
use Rattle.parking_lot_core_model.proofs.Numbers.{flag, flag-le, count_by-cons, count_by-append}
use Rattle.parking_lot_core_model.proofs.Links.{some≢none, some_is, Apart, entry_at, along, apart_next, chain_is}
use Rattle.parking_lot_core_model.proofs.Linking.{not_there}
use Rattle.parking_lot_core_model.proofs.Chained.{suc_differ}
use Rattle.parking_lot_core_model.proofs.Changing.{joins_so}

-- EMPTY CHAINS

pub empty_push : (hs : List Head) → AreEmpty hs → AreEmpty (hs ++ nobody ∷ [])
empty_push [] h = (refl, tt)
empty_push (x ∷ xs) h = (h.0, empty_push xs h.1)

empty_at : (hs : List Head) (j : ℕ) (x : Head) → AreEmpty hs → slice_get hs j ≡ Some x → x ≡ nobody
empty_at [] j x h e = absurd (some≢none (sym e))
empty_at (y ∷ ys) zero x h e = sym (some_is e) ∙ h.0
empty_at (y ∷ ys) (suc j) x h e = empty_at ys j x h.1 e

module _ (nodes : List Node) where
  walk_none : (left : ℕ) (before : Option ℕ) → walk nodes left before None ≡ []
  walk_none zero before = refl
  walk_none (suc left) before = refl

  pub empty_entries : (hs : List Head) → AreEmpty hs → entries nodes hs ≡ []
  empty_entries [] h = refl
  empty_entries (x ∷ xs) h =
      ap (λ (y : Head). chain nodes y ++ entries nodes xs) h.0
      ∙ (ap (λ ss. map entry_of ss ++ entries nodes xs) (walk_none (length nodes) None) ∙ empty_entries xs h.1)

  pub empty_linked : (hs : List Head) → AreEmpty hs → 0 < length hs → AreLinked hs nodes
  empty_linked hs h some = record {
    some = some;
    few = (let e = ap length (empty_entries hs h) in omega (arith, e));
    chains = λ b x e. subst (IsChain nodes (length hs) b) (sym (empty_at hs b x h e)) ([], refl, refl, omega arith);
  }

  -- MORE CHAINS AT THE END

  pub entries_append : (hs ks : List Head) → entries nodes (hs ++ ks) ≡ entries nodes hs ++ entries nodes ks
  entries_append [] ks = refl
  entries_append (x ∷ xs) ks = ap (λ es. chain nodes x ++ es) (entries_append xs ks)
      ∙ sym (append_assoc (chain nodes x) (entries nodes xs) (entries nodes ks))

  pub entries_more : (hs : List Head) (i : ℕ) (x : Head) → i < length hs → get_or hs i x ≡ x
      → entries nodes (take (i + 1) hs) ≡ entries nodes (take i hs) ++ chain nodes x
  entries_more hs i x h at =
      rw add-one (ap (entries nodes) (take-suc hs i x h)
      ∙ (entries_append (take i hs) (get_or hs i x ∷ [])
      ∙ (ap (λ (y : Head). entries nodes (take i hs) ++ (chain nodes y ++ [])) at
      ∙ ap (λ es. entries nodes (take i hs) ++ es) (append-nil (chain nodes x)))))

  -- THE THREADS OF A CHAIN

  abbrev pub times : ℕ → List (Entry Waiter) → ℕ
  times n es = count_by (λ (e : Entry Waiter). e.item.thread == n) es

  its_thread : (n : ℕ) (o : Option Node) → (entry_at n o).item.thread ≡ n
  its_thread n None = refl
  its_thread n (Some node) = refl

  apart_none : (n : ℕ) (ns : List ℕ) → Apart n ns → times n (along nodes ns) ≡ 0
  apart_none n [] a = refl
  apart_none n (m ∷ ms) a =
      let p : Entry Waiter → Bool = λ e. e.item.thread == n in
      let c = count_by-cons p (entry_at m (slice_get nodes m)) (along nodes ms) in
      let t = ap (λ k. k == n) (its_thread m (slice_get nodes m)) ∙ a.0 in
      let f : flag (p (entry_at m (slice_get nodes m))) ≡ 0 = ap flag t in
      let r = apart_none n ms a.1 in
      omega (arith, c, f, r)

  module _ (count : ℕ) where
    chain_once : (bucket n : ℕ) (ns : List ℕ) (at : Option ℕ) → Leads nodes count bucket at ns None
        → times n (along nodes ns) ≤ 1
    chain_once bucket n [] at h = omega arith
    chain_once bucket n (m ∷ ms) at h =
        let p : Entry Waiter → Bool = λ e. e.item.thread == n in
        let c = count_by-cons p (entry_at m (slice_get nodes m)) (along nodes ms) in
        by_eqb m n (times n (along nodes (m ∷ ms)) ≤ 1)
        (λ same.
        let a = apart_none n ms (subst (λ (k : ℕ). Apart k ms) same (apart_next nodes count bucket m ms at h)) in
        let f = flag-le (p (entry_at m (slice_get nodes m))) in
        omega (arith, a, c, f))
        (λ other.
        let t = ap (λ k. k == n) (its_thread m (slice_get nodes m)) ∙ other in
        let f : flag (p (entry_at m (slice_get nodes m))) ≡ 0 = ap flag t in
        let r = chain_once bucket n ms h.0.next h.4 in
        omega (arith, c, f, r))

    chain_within : (bucket : ℕ) (ns : List ℕ) (at to : Option ℕ) → Leads nodes count bucket at ns to
        → HaveNodes (length nodes) (along nodes ns)
    chain_within bucket [] at to h = tt
    chain_within bucket (m ∷ ms) at to h = (
      subst (λ (k : ℕ). k < length nodes) (sym (its_thread m (slice_get nodes m)))
          (slice_get_within nodes m h.0 h.2),
      chain_within bucket ms h.0.next to h.4,
    )

    -- a number without a node is in no chain
    absent : (bucket n : ℕ) → slice_get nodes n ≡ None → (ns : List ℕ) (at to : Option ℕ)
        → Leads nodes count bucket at ns to → Apart n ns
    absent bucket n none [] at to h = tt
    absent bucket n none (m ∷ ms) at to h = (
      ne_eqb m n (λ e. some≢none (sym h.2 ∙ (ap (slice_get nodes) e ∙ none))),
      absent bucket n none ms h.0.next to h.4,
    )

    -- it is in its own bucket's alone
    elsewhere : (n : ℕ) (o : Option Node) → slice_get nodes n ≡ o → (bucket : ℕ)
        → (bucket == option_map_or (λ (x : Node). x.key % count) o 0) ≡ false → (ns : List ℕ) (at to : Option ℕ)
        → Leads nodes count bucket at ns to → Apart n ns
    elsewhere n None e bucket other ns at to h = absent bucket n e ns at to h
    elsewhere n (Some node) e bucket other ns at to h =
        not_there nodes count bucket n node (node.key % count) e refl other ns at to h

  -- THE ENTRIES OF ALL

  within_append : (count : ℕ) (xs ys : List (Entry Waiter)) → HaveNodes count xs → HaveNodes count ys
      → HaveNodes count (xs ++ ys)
  within_append count [] ys h k = k
  within_append count (x ∷ xs) ys h k = (h.0, within_append count xs ys h.1 k)

  all_within : (hs : List Head)
      → ((j : ℕ) (x : Head) → slice_get hs j ≡ Some x → HaveNodes (length nodes) (chain nodes x))
      → HaveNodes (length nodes) (entries nodes hs)
  all_within [] h = tt
  all_within (x ∷ xs) h = within_append (length nodes) (chain nodes x) (entries nodes xs) (h 0 x refl)
      (all_within xs (λ j y e. h (suc j) y e))

  none_times : (n : ℕ) (hs : List Head)
      → ((j : ℕ) (x : Head) → slice_get hs j ≡ Some x → times n (chain nodes x) ≡ 0) → times n (entries nodes hs) ≡ 0
  none_times n [] h = refl
  none_times n (x ∷ xs) h =
      let a = count_by-append (λ (e : Entry Waiter). e.item.thread == n) (chain nodes x) (entries nodes xs) in
      let b = h 0 x refl in
      let c = none_times n xs (λ j y e. h (suc j) y e) in
      omega (arith, a, b, c)

  all_once : (n b : ℕ) (hs : List Head)
      → ((j : ℕ) (x : Head) → slice_get hs j ≡ Some x → (j == b) ≡ false → times n (chain nodes x) ≡ 0)
      → ((j : ℕ) (x : Head) → slice_get hs j ≡ Some x → times n (chain nodes x) ≤ 1)
      → times n (entries nodes hs) ≤ 1
  all_once n b [] h k = omega arith
  all_once n zero (x ∷ xs) h k =
      let a = count_by-append (λ (e : Entry Waiter). e.item.thread == n) (chain nodes x) (entries nodes xs) in
      let c = none_times n xs (λ j y e. h (suc j) y e (ne_eqb (suc j) 0 (λ q. omega (arith, q)))) in
      let d = k 0 x refl in
      omega (arith, a, c, d)
  all_once n (suc b) (x ∷ xs) h k =
      let a = count_by-append (λ (e : Entry Waiter). e.item.thread == n) (chain nodes x) (entries nodes xs) in
      let c = all_once n b xs (λ j y e o. h (suc j) y e (suc_differ j b o)) (λ j y e. k (suc j) y e) in
      let d = h 0 x refl (ne_eqb 0 (suc b) (λ q. omega (arith, q))) in
      omega (arith, a, c, d)

  pub may_be_linked : (heads : List Head) → AreLinked heads nodes → MayBeLinked (length nodes) (entries nodes heads)
  may_be_linked heads l =
      let count = length heads in record {
        within = all_within heads (λ j x e.
            let c = l.chains j x e in
            subst (HaveNodes (length nodes)) (sym (chain_is nodes (length heads) j x c))
            (chain_within (length heads) j c.0 x.first None c.1));
        once = λ n.
            all_once n (option_map_or (λ (y : Node). y.key % length heads) (slice_get nodes n) 0) heads
            (λ j x e o.
            let c = l.chains j x e in
            ap (times n) (chain_is nodes (length heads) j x c)
            ∙ apart_none n c.0 (elsewhere (length heads) n (slice_get nodes n) refl j o c.0 x.first None c.1))
            (λ j x e.
            let c = l.chains j x e in
            subst (λ es. times n es ≤ 1) (sym (chain_is nodes (length heads) j x c))
            (chain_once (length heads) j n c.0 x.first c.1));
        few = l.few;
      }

-- LINKING IN AN ORDER

module _ {X : Type 0} where
  pub taken_times : (f : X → Bool) (xs : List X) (i : ℕ) (x : X) → slice_get xs i ≡ Some x → f x ≡ true
      → count_by f (take i xs) + 1 ≤ count_by f xs
  taken_times f [] i x h e = absurd (some≢none (sym h))
  taken_times f (y ∷ ys) zero x h e =
      let c = count_by-cons f y ys in
      let t : flag (f y) ≡ 1 = ap flag (ap f (some_is h) ∙ e) in
      omega (arith, c, t)
  taken_times f (y ∷ ys) (suc i) x h e =
      let c = count_by-cons f y ys in
      let d = count_by-cons f y (take i ys) in
      let r = taken_times f ys i x h e in
      omega (arith, c, d, r)

lists_times : (n : ℕ) (es : List (Entry Waiter)) (k : ℕ)
    → count_by (λ (w : Waiter). w.thread == n) (lists_of es k) ≤ count_by (λ (e : Entry Waiter). e.item.thread == n) es
lists_times n [] k = omega arith
lists_times n (e ∷ es) k =
    let p : Waiter → Bool = λ w. w.thread == n in
    let r = lists_times n es k in
    let c = count_by-cons (λ (x : Entry Waiter). x.item.thread == n) e es in
    elim (e.key == k) as
    (λ b. count_by p (map (λ (x : Entry Waiter). x.item) (cond b (e ∷ filter (is_under k) es) (filter (is_under k) es)))
    ≤ count_by (λ (x : Entry Waiter). x.item.thread == n) (e ∷ es)) [
      | true ↦ (let d = count_by-cons p e.item (lists_of es k) in omega (arith, r, c, d))
      | false ↦ omega (arith, r, c)
    ]

pub within_at : (count : ℕ) (es : List (Entry Waiter)) (i : ℕ) (e : Entry Waiter) → HaveNodes count es
    → slice_get es i ≡ Some e → e.item.thread < count
within_at count [] i e h at = absurd (some≢none (sym at))
within_at count (x ∷ xs) zero e h at = subst (λ (y : Entry Waiter). y.item.thread < count) (some_is at) h.0
within_at count (x ∷ xs) (suc i) e h at = within_at count xs i e h.1 at

-- so many of the order are linked
pub record AreSoFar (heads : List Head) (nodes : List Node) (order : List (Entry Waiter)) (i count buckets : ℕ)
    : Type 0 where
  pub linked : AreLinked heads nodes
  pub lists : lists_of (entries nodes heads) ≡ lists_of (take i order)
  pub total : length (entries nodes heads) ≡ i
  pub room : length nodes ≡ count
  pub chains : length heads ≡ buckets

-- one more
pub one_more : (heads : List Head) (nodes : List Node) (order : List (Entry Waiter)) (i room buckets : ℕ)
    (e : Entry Waiter) (heads' : List Head) (nodes' : List Node) → AreSoFar heads nodes order i room buckets
    → MayBeLinked room order → slice_get order i ≡ Some e → Joins heads nodes e.key e.item heads' nodes'
    → AreSoFar heads' nodes' order (i + 1) room buckets
one_more heads nodes order i room buckets e heads' nodes' s may at j =
    let n = e.item.thread in
    let i_less = slice_get_within order i e at in
    let once = may.once n in
    let so_far = taken_times (λ (x : Entry Waiter). x.item.thread == n) order i e at (eq-eqb n n refl) in
    let few = may.few in
    let total = s.total in
    let size = s.room in
    let r = joins_so heads nodes s.linked e.key e.item
    (subst (λ (c : ℕ). n < c) (sym s.room) (within_at room order i e may.within at))
    (λ k.
    let a = lists_times n (take i order) k in
    let b = ap (λ (f : ℕ → List Waiter). count_by (λ (w : Waiter). w.thread == n) (f k)) s.lists in
    omega (arith, a, b, once, so_far)) (omega (arith, i_less, few, total, size)) heads' nodes' j in
    let one = r.1 in
    record {
      linked = r.0.linked;
      lists = r.0.lists
          ∙ (ap (λ (f : ℕ → List Waiter). updated f e.key (f e.key ++ e.item ∷ [])) s.lists
          ∙ (sym (lists_of-push (take i order) e.key e.item)
          ∙ rw add-one (ap lists_of
          (ap (λ x. take i order ++ x ∷ []) (sym (get_or_from_slice_get order i e e at))
          ∙ sym (take-suc order i e i_less)))));
      total = omega (arith, one, total);
      room = r.0.room ∙ s.room;
      chains = ap length j.2
          ∙ (length-set heads (e.key % length heads) (head_with j.0 e.item.thread) ∙ s.chains);
    }

-- what indexing falls back on
abbrev pub blank : Entry Waiter
blank = record { key = 0; item = record { thread = 0; token = record { 0 = 0 } } }

-- MORE NODES

module _ (nodes more : List Node) where
  get_more : {X : Type 0} (xs ys : List X) (n : ℕ) (x : X) → slice_get xs n ≡ Some x → slice_get (xs ++ ys) n ≡ Some x
  get_more [] ys n x e = absurd (some≢none (sym e))
  get_more (y ∷ xs) ys zero x e = e
  get_more (y ∷ xs) ys (suc n) x e = get_more xs ys n x e

  module _ (count bucket : ℕ) where
    leads_more : (ns : List ℕ) (at to : Option ℕ) → Leads nodes count bucket at ns to
        → Leads (nodes ++ more) count bucket at ns to
    leads_more [] at to h = h
    leads_more (m ∷ ms) at to h =
        (h.0, h.1, get_more nodes more m h.0 h.2, h.3, leads_more ms h.0.next to h.4)

    along_more : (ns : List ℕ) (at to : Option ℕ) → Leads nodes count bucket at ns to
        → along (nodes ++ more) ns ≡ along nodes ns
    along_more [] at to h = refl
    along_more (m ∷ ms) at to h =
        ap (λ o. entry_at m o ∷ along (nodes ++ more) ms) (get_more nodes more m h.0 h.2 ∙ sym h.2)
        ∙ ap (λ es. entry_at m (slice_get nodes m) ∷ es) (along_more ms h.0.next to h.4)

    chain_more : (head : Head) (c : IsChain nodes count bucket head) → IsChain (nodes ++ more) count bucket head
    chain_more head c = (
      c.0,
      leads_more c.0 head.first None c.1,
      c.2,
      (let a = length-append nodes more in let b = c.3 in omega (arith, a, b)),
    )

    same_chain : (head : Head) (c : IsChain nodes count bucket head) → chain (nodes ++ more) head ≡ chain nodes head
    unfolding chain_more
    same_chain head c =
        chain_is (nodes ++ more) count bucket head (chain_more head c)
        ∙ (along_more c.0 head.first None c.1 ∙ sym (chain_is nodes count bucket head c))

  same_entries : (hs : List Head)
      → ((j : ℕ) (x : Head) → slice_get hs j ≡ Some x → chain (nodes ++ more) x ≡ chain nodes x)
      → entries (nodes ++ more) hs ≡ entries nodes hs
  same_entries [] h = refl
  same_entries (x ∷ xs) h = ap (λ es. es ++ entries (nodes ++ more) xs) (h 0 x refl)
      ∙ ap (λ es. chain nodes x ++ es) (same_entries xs (λ j y e. h (suc j) y e))

  pub more_nodes : (heads : List Head) (after : List Node) → AreLinked heads nodes → after ≡ nodes ++ more
      → AreLinked heads after × (entries after heads ≡ entries nodes heads) × (length nodes ≤ length after)
  more_nodes heads after l e =
      let same = same_entries heads (λ j x k. same_chain (length heads) j x (l.chains j x k)) in
      let linked : AreLinked heads (nodes ++ more) = record {
        some = l.some;
        few = (let a = ap length same in let b = l.few in let c = length-append nodes more in omega (arith, a, b, c));
        chains = λ j x k. chain_more (length heads) j x (l.chains j x k);
      } in (
        subst (AreLinked heads) (sym e) linked,
        ap (λ ns. entries ns heads) e ∙ same,
        (let a = ap length e in let c = length-append nodes more in omega (arith, a, c)),
      )
