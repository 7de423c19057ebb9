-- A waiter joins the end of its key's list, or leaves its place in it.
use Rattle.std.proofs.Common.{◌≡◌, ℕ, zero, suc, ◌+◌, ◌<◌, ◌%◌, ◌==◌, Bool, true, false, cond, List, [], ◌∷◌, ◌++◌}
use Rattle.std.proofs.Common.{length, map, filter, take, Option, Some, None, slice_get, slice_set, refl, sym, ap}
use Rattle.std.proofs.Common.{◌∙◌, subst, arith, count_by, eq-eqb, eqb-true, remove, length-append}
use Rattle.std.proofs.Math.Seq.{take-append_seam}
use Rattle.std.proofs.lemmas.Bool.{cond-true, cond-false}
use Rattle.std.proofs.lemmas.List.{length_push}
use Rattle.parking_lot_core_model.specs.declared.chains.Node.{Node}
use Rattle.parking_lot_core_model.specs.declared.chains.Head.{Head}
use Rattle.parking_lot_core_model.specs.declared.chains.Spot.{Spot}
use Rattle.parking_lot_core_model.specs.declared.lists.Entry.{Entry}
use Rattle.parking_lot_core_model.specs.declared.place.Waiter.{Waiter}
use Rattle.parking_lot_core_model.specs.Lists.{updated, is_under, lists_of, IsNth}
use Rattle.parking_lot_core_model.specs.Chains.{entry_of, walk_from, last_of, chain, entries, IsChain, AreLinked}
use Rattle.parking_lot_core_model.specs.Chains.{Joins, Leaves, head_with, head_without, with_next, next_of, last_node}
use Rattle.parking_lot_core_model.proofs.Kept.{lists_of-push, lists_of-remove}
use Rattle.parking_lot_core_model.proofs.Kept.{slice_get-seam, remove-seam}
use Rattle.parking_lot_core_model.proofs.Links.{some≢none, some_is, spot_of, entry_at, trail, along, along_append}
use Rattle.parking_lot_core_model.proofs.Links.{length_along, chain_is, walk_is}
use Rattle.parking_lot_core_model.proofs.Linking.{two_length, joined_chain, joined_entries, joined_other, joined_same}
use Rattle.parking_lot_core_model.proofs.Linking.{gone_length, left_chain, left_entries, left_other, left_same}
use Rattle.parking_lot_core_model.proofs.Chained.{by_bucket, part_few, apart_everywhere, changed_total, changed_linked}
use Rattle.parking_lot_core_model.proofs.Chained.{changed_lists}

-- what has changed: one list, and the number of all
pub record IsChanged (heads heads' : List Head) (nodes nodes' : List Node) (key : ℕ) (xs : List Waiter) : Type 0 where
  pub linked : AreLinked heads' nodes'
  pub lists : lists_of (entries nodes' heads') ≡ updated (lists_of (entries nodes heads)) key xs
  pub room : length nodes' ≡ length nodes

module _ (heads : List Head) (nodes : List Node) (l : AreLinked heads nodes) (key : ℕ) (w : Waiter)
    (within : w.thread < length nodes)
    (apart : (k : ℕ) → count_by (λ (x : Waiter). x.thread == w.thread) (lists_of (entries nodes heads) k) ≡ 0)
    (room : length (entries nodes heads) < length nodes) where
  module _ (head : Head) (at : slice_get heads (key % length heads) ≡ Some head) where
    few : length (l.chains (key % length heads) head at).0 < length nodes
    few =
        let d = l.chains (key % length heads) head at in
        let p = part_few nodes heads (key % length heads) head at in
        let e = ap length (chain_is nodes (length heads) (key % length heads) head d) in
        let f = length_along nodes d.0 in
        omega (arith, p, e, f, room)

  joins_here : (head : Head) (at : slice_get heads (key % length heads) ≡ Some head)
      → IsChanged heads (slice_set heads (key % length heads) (head_with head w.thread)) nodes
      (with_next (slice_set nodes w.thread (last_node key w)) head.last (Some w.thread)) key
      (lists_of (entries nodes heads) key ++ w ∷ [])
      × (length (entries (with_next (slice_set nodes w.thread (last_node key w)) head.last (Some w.thread))
      (slice_set heads (key % length heads) (head_with head w.thread))) ≡ length (entries nodes heads) + 1)
  joins_here head at =
      let b = key % length heads in
      let d = l.chains b head at in
      let a = apart_everywhere nodes heads l w.thread apart in
      let f = few head at in
      let after = with_next (slice_set nodes w.thread (last_node key w)) head.last (Some w.thread) in
      let new = head_with head w.thread in
      let here = joined_chain nodes (length heads) b head d key w within (a b head at d) refl f in
      let grown = joined_entries nodes (length heads) b head d key w within (a b head at d) refl f in
      let others : (j : ℕ) (x : Head) → slice_get heads j ≡ Some x → (j == b) ≡ false
      → IsChain after (length heads) j x × (chain after x ≡ chain nodes x) =
      λ j x e o. (
        joined_other nodes (length heads) b head d key w within (a b head at d) refl f j x (l.chains j x e) o
            (a j x e (l.chains j x e)),
        joined_same nodes (length heads) b head d key w within (a b head at d) refl f j x (l.chains j x e) o
            (a j x e (l.chains j x e)),
      ) in
      let size : length after ≡ length nodes =
      two_length nodes (length heads) b head d key w within (a b head at d) refl f in
      let total = changed_total nodes after heads b head new l at here others in
      let push = length_push (chain nodes head) (record { key = key; item = w }) in
      let sizes = ap length grown in
      let one : length (entries after (slice_set heads b new)) ≡ length (entries nodes heads) + 1 =
      omega (arith, total, push, sizes) in
      let linked = changed_linked nodes after heads b head new l at here others (omega (arith, one, size, room)) in
      let lists = changed_lists nodes after heads b head new l at here others key
      (lists_of (entries nodes heads) key ++ w ∷ []) linked refl
      (ap lists_of grown ∙ (lists_of-push (chain nodes head) key w
      ∙ ap (λ ys. updated (lists_of (chain nodes head)) key (ys ++ w ∷ []))
      (sym (by_bucket nodes heads l key head at)))) in
      (record { linked = linked; lists = lists; room = size }, one)

  pub joins_so : (heads' : List Head) (nodes' : List Node) → Joins heads nodes key w heads' nodes'
      → IsChanged heads heads' nodes nodes' key (lists_of (entries nodes heads) key ++ w ∷ [])
      × (length (entries nodes' heads') ≡ length (entries nodes heads) + 1)
  joins_so heads' nodes' j =
      subst (λ (ns : List Node). IsChanged heads heads' nodes ns key (lists_of (entries nodes heads) key ++ w ∷ [])
      × (length (entries ns heads') ≡ length (entries nodes heads) + 1)) (sym j.3)
      (subst (λ (hs : List Head). IsChanged heads hs nodes
      (with_next (slice_set nodes w.thread (last_node key w)) j.0.last (Some w.thread)) key
      (lists_of (entries nodes heads) key ++ w ∷ [])
      × (length (entries (with_next (slice_set nodes w.thread (last_node key w)) j.0.last (Some w.thread)) hs)
      ≡ length (entries nodes heads) + 1)) (sym j.2) (joins_here j.0 j.1))

-- the waiter that is under the key behind so many, in a chain
abbrev pub IsFound : List Node → Option ℕ → List ℕ → ℕ → ℕ → Spot → Type 0
IsFound nodes before ns key i spot = (ds : List ℕ) × (n : ℕ) × (es : List ℕ) × (ns ≡ ds ++ n ∷ es)
    × (spot ≡ spot_of (last_of before ds) n (slice_get nodes n)) × (spot.key ≡ key)
    × (length (lists_of (along nodes ds) key) ≡ i)

module _ (nodes : List Node) where
  key_before : (before : Option ℕ) (n : ℕ) (o : Option Node) → (spot_of before n o).key ≡ (entry_at n o).key
  key_before before n None = refl
  key_before before n (Some node) = refl

  spot_before : (before : Option ℕ) (n : ℕ) (o : Option Node) → (spot_of before n o).before ≡ before
  spot_before before n None = refl
  spot_before before n (Some node) = refl

  spot_thread : (before : Option ℕ) (n : ℕ) (o : Option Node) → (spot_of before n o).waiter.thread ≡ n
  spot_thread before n None = refl
  spot_thread before n (Some node) = refl

  one_under : (e : Entry Waiter) (es : List (Entry Waiter)) (key : ℕ) → e.key ≡ key
      → length (lists_of (e ∷ es) key) ≡ length (lists_of es key) + 1
  one_under e es key same =
      ap (λ ys. length (map (λ (x : Entry Waiter). x.item) ys))
      (cond-true (e.key == key) (e ∷ filter (is_under key) es) (filter (is_under key) es) (eq-eqb e.key key same))
      ∙ omega arith

  none_under : (e : Entry Waiter) (es : List (Entry Waiter)) (key : ℕ) → (e.key == key) ≡ false
      → length (lists_of (e ∷ es) key) ≡ length (lists_of es key)
  none_under e es key other =
      ap (λ ys. length (map (λ (x : Entry Waiter). x.item) ys))
      (cond-false (e.key == key) (e ∷ filter (is_under key) es) (filter (is_under key) es) other)

  pub find_spot : (before : Option ℕ) (ns : List ℕ) (key i : ℕ) (spot : Spot)
      → slice_get (filter (λ (s : Spot). s.key == key) (trail nodes before ns)) i ≡ Some spot
      → IsFound nodes before ns key i spot
  find_spot before [] key i spot h = absurd (some≢none (sym h))
  find_spot before (n ∷ ns) key i spot h =
      both ((spot_of before n (slice_get nodes n)).key == key) i refl h (λ k g. find_spot (Some n) ns key k spot g)
    where
      both : (b : Bool) (i : ℕ) → ((spot_of before n (slice_get nodes n)).key == key) ≡ b
          → slice_get
          (cond b (spot_of before n (slice_get nodes n)
          ∷ filter (λ (s : Spot). s.key == key) (trail nodes (Some n) ns))
          (filter (λ (s : Spot). s.key == key) (trail nodes (Some n) ns))) i ≡ Some spot
          → ((k : ℕ) → slice_get (filter (λ (s : Spot). s.key == key) (trail nodes (Some n) ns)) k ≡ Some spot
          → IsFound nodes (Some n) ns key k spot)
          → IsFound nodes before (n ∷ ns) key i spot
      both false i e h again =
          let r = again i h in (
            n ∷ r.0,
            r.1,
            r.2,
            ap (λ xs. n ∷ xs) r.3,
            r.4,
            r.5,
            none_under (entry_at n (slice_get nodes n)) (along nodes r.0) key
                (ap (λ k. k == key) (sym (key_before before n (slice_get nodes n))) ∙ e) ∙ r.6,
          )
      both true zero e h again = (
        [],
        n,
        ns,
        refl,
        sym (some_is h),
        ap (λ (s : Spot). s.key) (sym (some_is h)) ∙ eqb-true (spot_of before n (slice_get nodes n)).key key e,
        refl,
      )
      both true (suc i) e h again =
          let r = again i h in (
            n ∷ r.0,
            r.1,
            r.2,
            ap (λ xs. n ∷ xs) r.3,
            r.4,
            r.5,
            one_under (entry_at n (slice_get nodes n)) (along nodes r.0) key
                (sym (key_before before n (slice_get nodes n))
                ∙ eqb-true (spot_of before n (slice_get nodes n)).key key e)
                ∙ (ap (λ k. k + 1) r.6 ∙ omega arith),
          )

-- what a walk meets under a key is the key's list
pub under_is : (ss : List Spot) (key : ℕ)
    → map (λ (s : Spot). s.waiter) (filter (λ (s : Spot). s.key == key) ss) ≡ lists_of (map entry_of ss) key
under_is [] key = refl
under_is (s ∷ ss) key =
    elim (s.key == key) as
    (λ b. map (λ (x : Spot). x.waiter)
    (cond b (s ∷ filter (λ (x : Spot). x.key == key) ss) (filter (λ (x : Spot). x.key == key) ss))
    ≡ map (λ (x : Entry Waiter). x.item)
    (cond b (entry_of s ∷ filter (is_under key) (map entry_of ss)) (filter (is_under key) (map entry_of ss)))) [
      | true ↦ ap (λ ys. s.waiter ∷ ys) (under_is ss key)
      | false ↦ under_is ss key
    ]

module _ (heads : List Head) (nodes : List Node) (l : AreLinked heads nodes) (key nth : ℕ) (head : Head)
    (at : slice_get heads (key % length heads) ≡ Some head) where
  -- what a walk meets under the key are the key's waiters
  pub met_is : map (λ (s : Spot). s.waiter) (filter (λ (s : Spot). s.key == key) (walk_from nodes head.first))
      ≡ lists_of (entries nodes heads) key
  met_is = under_is (walk_from nodes head.first) key ∙ sym (by_bucket nodes heads l key head at)

  met_found : (spot : Spot)
      → slice_get (filter (λ (s : Spot). s.key == key) (walk_from nodes head.first)) nth ≡ Some spot
      → IsFound nodes None (l.chains (key % length heads) head at).0 key nth spot
  met_found spot h =
      let c = l.chains (key % length heads) head at in
      find_spot nodes None c.0 key nth spot
      (ap (λ ss. slice_get (filter (λ (s : Spot). s.key == key) ss) nth)
      (sym (walk_is nodes (length heads) (key % length heads) c.0 head.first (length nodes) None c.1 c.3)) ∙ h)

  module _ (ds : List ℕ) (n : ℕ) (es : List ℕ)
      (cut : (l.chains (key % length heads) head at).0 ≡ ds ++ n ∷ es)
      (under : (entry_at n (slice_get nodes n)).key ≡ key) (before : length (lists_of (along nodes ds) key) ≡ nth) where
    cut_chain : chain nodes head ≡ along nodes ds ++ entry_at n (slice_get nodes n) ∷ along nodes es
    cut_chain =
        chain_is nodes (length heads) (key % length heads) head (l.chains (key % length heads) head at)
        ∙ (ap (along nodes) cut ∙ along_append nodes ds (n ∷ es))

    its_place : IsNth (chain nodes head) key nth (length (along nodes ds)) (entry_at n (slice_get nodes n)).item
    its_place = record {
      there = ap (λ xs. slice_get xs (length (along nodes ds))) cut_chain
          ∙ (slice_get-seam (along nodes ds) (entry_at n (slice_get nodes n)) (along nodes es)
          ∙ ap (λ k. Some (record { key = k; item = (entry_at n (slice_get nodes n)).item })) under);
      before = ap (λ xs. length (lists_of (take (length (along nodes ds)) xs) key)) cut_chain
          ∙ (ap (λ xs. length (lists_of xs key))
          (take-append_seam (along nodes ds) (entry_at n (slice_get nodes n) ∷ along nodes es)) ∙ before);
    }

    leaves_here : IsChanged heads
        (slice_set heads (key % length heads) (head_without head (last_of None ds) (next_of nodes n))) nodes
        (with_next nodes (last_of None ds) (next_of nodes n)) key (remove (lists_of (entries nodes heads) key) nth)
        × (length (entries nodes heads)
        ≡ length (entries (with_next nodes (last_of None ds) (next_of nodes n))
        (slice_set heads (key % length heads) (head_without head (last_of None ds) (next_of nodes n)))) + 1)
    leaves_here =
        let b = key % length heads in
        let d = l.chains b head at in
        let after = with_next nodes (last_of None ds) (next_of nodes n) in
        let new = head_without head (last_of None ds) (next_of nodes n) in
        let here = left_chain nodes (length heads) b head d ds n es cut in
        let left = left_entries nodes (length heads) b head d ds n es cut in
        let others : (j : ℕ) (x : Head) → slice_get heads j ≡ Some x → (j == b) ≡ false
        → IsChain after (length heads) j x × (chain after x ≡ chain nodes x) =
        λ j x e o. (
          left_other nodes (length heads) b head d ds n es cut j x (l.chains j x e) o,
          left_same nodes (length heads) b head d ds n es cut j x (l.chains j x e) o,
        ) in
        let size : length after ≡ length nodes = gone_length nodes (length heads) b head d ds n es cut in
        let total = changed_total nodes after heads b head new l at here others in
        let s1 = ap length left in
        let s2 = ap length cut_chain in
        let s3 = length-append (along nodes ds) (along nodes es) in
        let s4 = length-append (along nodes ds) (entry_at n (slice_get nodes n) ∷ along nodes es) in
        let one : length (entries nodes heads) ≡ length (entries after (slice_set heads b new)) + 1 =
        omega (arith, total, s1, s2, s3, s4) in
        let few = l.few in
        let linked = changed_linked nodes after heads b head new l at here others (omega (arith, one, size, few)) in
        let removed : remove (chain nodes head) (length (along nodes ds)) ≡ along nodes ds ++ along nodes es =
        ap (λ xs. remove xs (length (along nodes ds))) cut_chain
        ∙ remove-seam (along nodes ds) (entry_at n (slice_get nodes n)) (along nodes es) in
        let lists = changed_lists nodes after heads b head new l at here others key
        (remove (lists_of (entries nodes heads) key) nth) linked refl
        (ap lists_of (left ∙ sym removed)
        ∙ (lists_of-remove (chain nodes head) key nth (length (along nodes ds))
        (entry_at n (slice_get nodes n)).item its_place
        ∙ ap (λ ys. updated (lists_of (chain nodes head)) key (remove ys nth))
        (sym (by_bucket nodes heads l key head at)))) in
        (record { linked = linked; lists = lists; room = size }, one)

  pub leaves_so : (spot : Spot) (heads' : List Head) (nodes' : List Node)
      → slice_get (filter (λ (s : Spot). s.key == key) (walk_from nodes head.first)) nth ≡ Some spot
      → Leaves heads nodes spot heads' nodes'
      → IsChanged heads heads' nodes nodes' key (remove (lists_of (entries nodes heads) key) nth)
      × (length (entries nodes heads) ≡ length (entries nodes' heads') + 1)
  leaves_so spot heads' nodes' h j =
      let f = met_found spot h in
      let o = slice_get nodes f.1 in
      let b : spot.before ≡ last_of None f.0 =
      ap (λ (s : Spot). s.before) f.4 ∙ spot_before nodes (last_of None f.0) f.1 o in
      let t : spot.waiter.thread ≡ f.1 = ap (λ (s : Spot). s.waiter.thread) f.4
      ∙ spot_thread nodes (last_of None f.0) f.1 o in
      let under : (entry_at f.1 o).key ≡ key = sym (key_before nodes (last_of None f.0) f.1 o)
      ∙ (sym (ap (λ (s : Spot). s.key) f.4) ∙ f.5) in
      let r = leaves_here f.0 f.1 f.2 f.3 under f.6 in
      let same : j.0 ≡ head = some_is (sym j.1 ∙ (ap (λ k. slice_get heads (k % length heads)) f.5 ∙ at)) in
      let hs : heads' ≡ slice_set heads (key % length heads)
      (head_without head (last_of None f.0) (next_of nodes f.1)) =
      j.2 ∙ (ap (λ k. slice_set heads (k % length heads)
      (head_without j.0 spot.before (next_of nodes spot.waiter.thread)))
      f.5
      ∙ (ap (λ (x : Head). slice_set heads (key % length heads)
      (head_without x spot.before (next_of nodes spot.waiter.thread))) same
      ∙ (ap (λ (x : Option ℕ). slice_set heads (key % length heads)
      (head_without head x (next_of nodes spot.waiter.thread))) b
      ∙ ap (λ x. slice_set heads (key % length heads) (head_without head (last_of None f.0) (next_of nodes x))) t))) in
      let ns : nodes' ≡ with_next nodes (last_of None f.0) (next_of nodes f.1) =
      j.3 ∙ (ap (λ (x : Option ℕ). with_next nodes x (next_of nodes spot.waiter.thread)) b
      ∙ ap (λ x. with_next nodes (last_of None f.0) (next_of nodes x)) t) in
      subst (λ (xs : List Node). IsChanged heads heads' nodes xs key (remove (lists_of (entries nodes heads) key) nth)
      × (length (entries nodes heads) ≡ length (entries xs heads') + 1)) (sym ns)
      (subst (λ (xs : List Head). IsChanged heads xs nodes (with_next nodes (last_of None f.0) (next_of nodes f.1)) key
      (remove (lists_of (entries nodes heads) key) nth)
      × (length (entries nodes heads)
      ≡ length (entries (with_next nodes (last_of None f.0) (next_of nodes f.1)) xs) + 1)) (sym hs) r)

-- the same where the code has read the ends and the nodes
module _ (heads : List Head) (nodes : List Node) (l : AreLinked heads nodes) (key : ℕ) (hs : List Head)
    (ns : List Node) (first : Option ℕ) (h : hs ≡ heads) (n : ns ≡ nodes)
    (at : (head : Head) × (slice_get hs (key % length hs) ≡ Some head) × (first ≡ head.first)) where
  pub head_at : slice_get heads (key % length heads) ≡ Some at.0
  head_at = subst (λ (xs : List Head). slice_get xs (key % length xs) ≡ Some at.0) h at.1

  pub walked : walk_from ns first ≡ walk_from nodes at.0.first
  walked = ap (λ xs. walk_from xs first) n ∙ ap (walk_from nodes) at.2

  pub looked : map (λ (s : Spot). s.waiter) (filter (λ (s : Spot). s.key == key) (walk_from ns first))
      ≡ lists_of (entries nodes heads) key
  looked = ap (λ ss. map (λ (s : Spot). s.waiter) (filter (λ (s : Spot). s.key == key) ss)) walked
      ∙ met_is heads nodes l key 0 at.0 head_at
