-- A number joins a chain, or leaves it.
use Rattle.std.proofs.Common.{◌≡◌, ℕ, ◌<◌, ◌%◌, ◌==◌, false, List, [], ◌∷◌, ◌++◌}
use Rattle.std.proofs.Common.{inl, inr, length, Option, Some, None, slice_get, slice_set, refl, sym, ap}
use Rattle.std.proofs.Common.{◌∙◌, subst, arith, get_or, append_assoc, length-append}
use Rattle.std.specs.Option.{option_and_then}
use Rattle.std.proofs.Math.ListN.{length-set}
use Rattle.std.proofs.lemmas.Bool.{eqb-false, ne_eqb}
use Rattle.std.proofs.lemmas.List.{append-nil}
use Rattle.std.proofs.lemmas.Option.{slice_get-get_or}
use Rattle.parking_lot_core_model.specs.declared.chains.Node.{Node}
use Rattle.parking_lot_core_model.specs.declared.chains.Head.{Head}
use Rattle.parking_lot_core_model.specs.declared.place.Waiter.{Waiter}
use Rattle.parking_lot_core_model.specs.Chains.{chain, last_of, Leads, IsChain, node_to, with_next, next_of}
use Rattle.parking_lot_core_model.specs.Chains.{where_some, last_node, head_with, head_without}
use Rattle.parking_lot_core_model.proofs.Kept.{by_eqb, eqb_false_symm}
use Rattle.parking_lot_core_model.proofs.Numbers.{slice_get-set_same, slice_get-set_other}
use Rattle.parking_lot_core_model.proofs.Links.{some≢none, some_is, Apart, entry_at, along, along_append, along_same}
use Rattle.parking_lot_core_model.proofs.Links.{along_set, leads_split, leads_join, leads_set, apart_next, apart_before}
use Rattle.parking_lot_core_model.proofs.Links.{chain_is, apart_in, snoc, last_append}

module _ (nodes : List Node) where
  -- another next changes no entry, and no length
  pub next_entry : (at next : Option ℕ) (m : ℕ)
      → entry_at m (slice_get (with_next nodes at next) m) ≡ entry_at m (slice_get nodes m)
  next_entry None next m = refl
  next_entry (Some n) next m = by (slice_get nodes n) refl
    where
      by : (o : Option Node) → slice_get nodes n ≡ o
          → entry_at m (slice_get (node_to nodes n next o) m) ≡ entry_at m (slice_get nodes m)
      by None e = refl
      by (Some node) e =
          let x : Node = record node { next = next } in
          by_eqb m n (entry_at m (slice_get (slice_set nodes n x) m) ≡ entry_at m (slice_get nodes m))
          (λ same. subst (λ (k : ℕ). entry_at k (slice_get (slice_set nodes n x) k) ≡ entry_at k (slice_get nodes k))
          (sym same) (ap (entry_at n) (slice_get-set_same nodes n node x e) ∙ sym (ap (entry_at n) e)))
          (λ other. ap (entry_at m) (slice_get-set_other nodes n m x other))

  pub next_length : (at next : Option ℕ) → length (with_next nodes at next) ≡ length nodes
  next_length None next = refl
  next_length (Some n) next = by (slice_get nodes n)
    where
      by : (o : Option Node) → length (node_to nodes n next o) ≡ length nodes
      by None = refl
      by (Some node) = length-set nodes n (record node { next = next })

  next_here : (n : ℕ) (next : Option ℕ) (node : Node) → slice_get nodes n ≡ Some node
      → slice_get (with_next nodes (Some n) next) n ≡ Some (record node { next = next })
  next_here n next node e =
      ap (λ o. slice_get (node_to nodes n next o) n) e
      ∙ slice_get-set_same nodes n node (record node { next = next }) e

  module _ (count bucket : ℕ) where
    next_other : (p : ℕ) (next : Option ℕ) (ns : List ℕ) (at to : Option ℕ) → Apart p ns
        → Leads nodes count bucket at ns to → Leads (with_next nodes (Some p) next) count bucket at ns to
    next_other p next ns at to a h = by (slice_get nodes p)
      where
        by : (o : Option Node) → Leads (node_to nodes p next o) count bucket at ns to
        by None = h
        by (Some node) = leads_set nodes count bucket p (record node { next = next }) ns at to a h

    pub next_apart : (o next : Option ℕ) (ns : List ℕ) (at to : Option ℕ) → ((p : ℕ) → o ≡ Some p → Apart p ns)
        → Leads nodes count bucket at ns to → Leads (with_next nodes o next) count bucket at ns to
    next_apart None next ns at to a h = h
    next_apart (Some p) next ns at to a h = next_other p next ns at to (a p refl) h

    -- the chain goes on elsewhere behind a number
    led_on : (ms : List ℕ) (l : ℕ) (es fs : List ℕ) (at next : Option ℕ)
        → Leads nodes count bucket at (ms ++ l ∷ es) None
        → Leads (with_next nodes (Some l) next) count bucket next fs None
        → Leads (with_next nodes (Some l) next) count bucket at (ms ++ l ∷ fs) None
    led_on ms l es fs at next h rest =
        let r = leads_split nodes count bucket ms (l ∷ es) at None h in
        let q = r.2 in
        leads_join (with_next nodes (Some l) next) count bucket ms (l ∷ fs) at r.0 None
        (next_other l next ms at r.0 (apart_before nodes count bucket ms l es at h) r.1)
        (record q.0 { next = next }, q.1, next_here l next q.0 q.2, q.3, rest)

    -- who stands last in the front of a chain is of the bucket
    pub in_bucket : (ds es : List ℕ) (at : Option ℕ) (p : ℕ) → Leads nodes count bucket at (ds ++ es) None
        → last_of None ds ≡ Some p → (node : Node) × (slice_get nodes p ≡ Some node) × (node.key % count ≡ bucket)
    in_bucket ds es at p h e = elim (snoc ds) [
      | inl none ↦ absurd (some≢none (sym e ∙ ap (last_of None) none))
      | inr s ↦
          let same : s.1 ≡ p = some_is
          (sym (last_append None s.0 (s.1 ∷ [])) ∙ (sym (ap (last_of None) s.2) ∙ e)) in
          let k : Leads nodes count bucket at (s.0 ++ s.1 ∷ es) None = subst
          (λ (xs : List ℕ). Leads nodes count bucket at xs None)
          (ap (λ xs. xs ++ es) s.2 ∙ append_assoc s.0 (s.1 ∷ []) es) h in
          let q = (leads_split nodes count bucket s.0 (s.1 ∷ es) at None k).2 in
          (q.0, ap (slice_get nodes) (sym same) ∙ q.2, q.3)
    ]

    -- a number of another bucket isn't there
    pub not_there : (n : ℕ) (node : Node) (b : ℕ) → slice_get nodes n ≡ Some node → node.key % count ≡ b
        → (bucket == b) ≡ false → (ns : List ℕ) (at to : Option ℕ) → Leads nodes count bucket at ns to → Apart n ns
    not_there n node b here of other [] at to h = tt
    not_there n node b here of other (m ∷ ms) at to h = (
      ne_eqb m n (λ e.
          let same : h.0 ≡ node = some_is (sym h.2 ∙ (ap (slice_get nodes) e ∙ here)) in
          eqb-false bucket b other (sym h.3 ∙ (ap (λ (x : Node). x.key % count) same ∙ of))),
      not_there n node b here of other ms h.0.next to h.4,
    )

    first_some : (ms : List ℕ) (l : ℕ) (es : List ℕ) (at to : Option ℕ)
        → Leads nodes count bucket at (ms ++ l ∷ es) to → (x : ℕ) × (at ≡ Some x)
    first_some [] l es at to h = (l, h.1)
    first_some (m ∷ ms) l es at to h = (m, h.1)

-- one joins
module _ (nodes : List Node) (count bucket : ℕ) (head : Head) (c : IsChain nodes count bucket head) (key : ℕ)
    (w : Waiter) (within : w.thread < length nodes) (apart : Apart w.thread c.0) (of : key % count ≡ bucket)
    (room : length c.0 < length nodes) where
  abbrev pub one : List Node
  one = slice_set nodes w.thread (last_node key w)

  abbrev pub two : List Node
  two = with_next one head.last (Some w.thread)

  fresh_here : slice_get one w.thread ≡ Some (last_node key w)
  fresh_here =
      let x = slice_get-get_or nodes w.thread (last_node key w) within in
      slice_get-set_same nodes w.thread (get_or nodes w.thread (last_node key w)) (last_node key w) x

  apart_one : Leads one count bucket head.first c.0 None
  apart_one = leads_set nodes count bucket w.thread (last_node key w) c.0 head.first None apart c.1

  joined_links : Leads two count bucket (head_with head w.thread).first (c.0 ++ w.thread ∷ []) None
  joined_links = elim (snoc c.0) [
    | inl none ↦
        let first : head.first ≡ None = subst (λ (xs : List ℕ). Leads nodes count bucket head.first xs None) none c.1 in
        let last : head.last ≡ None = c.2 ∙ ap (last_of None) none in
        let alone : Leads one count bucket (Some w.thread) (w.thread ∷ []) None =
        (last_node key w, refl, fresh_here, of, refl) in
        subst (λ (xs : List ℕ). Leads two count bucket (head_with head w.thread).first (xs ++ w.thread ∷ []) None)
        (sym none)
        (subst
        (λ (o : Option ℕ). Leads two count bucket (where_some o o (Some w.thread)) (w.thread ∷ []) None) (sym first)
        (subst
        (λ (o : Option ℕ). Leads (with_next one o (Some w.thread)) count bucket (Some w.thread) (w.thread ∷ []) None)
        (sym last) alone))
    | inr s ↦
        let last : head.last ≡ Some s.1 =
        c.2 ∙ (ap (last_of None) s.2 ∙ last_append None s.0 (s.1 ∷ [])) in
        let leads : Leads one count bucket head.first (s.0 ++ s.1 ∷ []) None =
        subst (λ (xs : List ℕ). Leads one count bucket head.first xs None) s.2 apart_one in
        let some = first_some one count bucket s.0 s.1 [] head.first None leads in
        let other : (w.thread == s.1) ≡ false =
        eqb_false_symm s.1 w.thread
        (apart_in w.thread s.0 s.1 [] (subst (Apart w.thread) s.2 apart)) in
        let behind : Leads (with_next one (Some s.1) (Some w.thread)) count bucket (Some w.thread)
        (w.thread ∷ []) None =
        next_other one count bucket s.1 (Some w.thread) (w.thread ∷ []) (Some w.thread) None (other, tt)
        (last_node key w, refl, fresh_here, of, refl) in
        let all = led_on one count bucket s.0 s.1 [] (w.thread ∷ []) head.first (Some w.thread) leads behind in
        subst (λ (o : Option ℕ). Leads (with_next one o (Some w.thread)) count bucket
        (head_with head w.thread).first (c.0 ++ w.thread ∷ []) None) (sym last)
        (subst (λ (o : Option ℕ). Leads (with_next one (Some s.1) (Some w.thread)) count bucket o
        (c.0 ++ w.thread ∷ []) None)
        (some.1 ∙ sym (ap (λ (o : Option ℕ). where_some o o (Some w.thread)) some.1))
        (subst (λ (xs : List ℕ). Leads (with_next one (Some s.1) (Some w.thread)) count bucket head.first xs None)
        (sym (ap (λ xs. xs ++ w.thread ∷ []) s.2 ∙ append_assoc s.0 (s.1 ∷ []) (w.thread ∷ []))) all))
  ]

  pub two_length : length two ≡ length nodes
  two_length = next_length one head.last (Some w.thread) ∙ length-set nodes w.thread (last_node key w)

  pub joined_chain : IsChain two count bucket (head_with head w.thread)
  joined_chain = (
    c.0 ++ w.thread ∷ [],
    joined_links,
    sym (last_append None c.0 (w.thread ∷ [])),
    (let e = length-append c.0 (w.thread ∷ []) in omega (arith, e, two_length, room)),
  )

  pub joined_entries : chain two (head_with head w.thread) ≡ chain nodes head ++ record { key = key; item = w } ∷ []
  unfolding joined_chain
  joined_entries =
      chain_is two count bucket (head_with head w.thread) joined_chain
      ∙ (along_same one two (next_entry one head.last (Some w.thread)) (c.0 ++ w.thread ∷ [])
      ∙ (along_append one c.0 (w.thread ∷ [])
      ∙ (ap (λ es. es ++ along one (w.thread ∷ [])) (along_set nodes w.thread (last_node key w) c.0 apart)
      ∙ (ap (λ o. along nodes c.0 ++ entry_at w.thread o ∷ []) fresh_here
      ∙ ap (λ es. es ++ record { key = key; item = w } ∷ []) (sym (chain_is nodes count bucket head c))))))

  -- and other chains stay
  module _ (b : ℕ) (other : Head) (d : IsChain nodes count b other) (else_where : (b == bucket) ≡ false)
      (apart_there : Apart w.thread d.0) where
    joined_beside : Leads two count b other.first d.0 None
    joined_beside =
        next_apart one count b head.last (Some w.thread) d.0 other.first None
        (λ p e.
        let at : last_of None c.0 ≡ Some p = sym c.2 ∙ e in
        let q = in_bucket one count bucket c.0 [] head.first p
        (subst (λ (xs : List ℕ). Leads one count bucket head.first xs None) (sym (append-nil c.0)) apart_one) at in
        not_there one count b p q.0 bucket q.1 q.2 else_where d.0 other.first None
        (leads_set nodes count b w.thread (last_node key w) d.0 other.first None apart_there d.1))
        (leads_set nodes count b w.thread (last_node key w) d.0 other.first None apart_there d.1)

    pub joined_other : IsChain two count b other
    joined_other = (d.0, joined_beside, d.2, (let e = d.3 in omega (arith, e, two_length)))

    pub joined_same : chain two other ≡ chain nodes other
    unfolding joined_other
    joined_same =
        chain_is two count b other joined_other
        ∙ (along_same one two (next_entry one head.last (Some w.thread)) d.0
        ∙ (along_set nodes w.thread (last_node key w) d.0 apart_there ∙ sym (chain_is nodes count b other d)))

-- one leaves
module _ (nodes : List Node) (count bucket : ℕ) (head : Head) (c : IsChain nodes count bucket head) (ds : List ℕ)
    (n : ℕ) (es : List ℕ) (cut : c.0 ≡ ds ++ n ∷ es) where
  abbrev pub gone : List Node
  gone = with_next nodes (last_of None ds) (next_of nodes n)

  abbrev pub rest : Head
  rest = head_without head (last_of None ds) (next_of nodes n)

  leads : Leads nodes count bucket head.first (ds ++ n ∷ es) None
  leads = subst (λ (xs : List ℕ). Leads nodes count bucket head.first xs None) cut c.1

  behind : Leads nodes count bucket (next_of nodes n) es None
  behind =
      let q = (leads_split nodes count bucket ds (n ∷ es) head.first None leads).2 in
      subst (λ (o : Option ℕ). Leads nodes count bucket o es None)
      (sym (ap (option_and_then (λ (node : Node). node.next)) q.2)) q.4

  left_links : Leads gone count bucket rest.first (ds ++ es) None
  left_links = elim (snoc ds) [
    | inl none ↦
        subst (λ (xs : List ℕ). Leads (with_next nodes (last_of None xs) (next_of nodes n)) count bucket
        (head_without head (last_of None xs) (next_of nodes n)).first (xs ++ es) None) (sym none) behind
    | inr s ↦
        let before : last_of None ds ≡ Some s.1 = ap (last_of None) s.2 ∙ last_append None s.0 (s.1 ∷ []) in
        let whole : Leads nodes count bucket head.first (s.0 ++ s.1 ∷ n ∷ es) None =
        subst (λ (xs : List ℕ). Leads nodes count bucket head.first xs None)
        (ap (λ xs. xs ++ n ∷ es) s.2 ∙ append_assoc s.0 (s.1 ∷ []) (n ∷ es)) leads in
        let q = leads_split nodes count bucket s.0 (s.1 ∷ n ∷ es) head.first None whole in
        let apart = apart_next nodes count bucket s.1 (n ∷ es) q.0 q.2 in
        let all = led_on nodes count bucket s.0 s.1 (n ∷ es) es head.first (next_of nodes n) whole
        (next_other nodes count bucket s.1 (next_of nodes n) es (next_of nodes n) None apart.1 behind) in
        subst (λ (o : Option ℕ). Leads (with_next nodes o (next_of nodes n)) count bucket
        (where_some o head.first (next_of nodes n)) (ds ++ es) None) (sym before)
        (subst (λ (xs : List ℕ). Leads (with_next nodes (Some s.1) (next_of nodes n)) count bucket head.first xs None)
        (sym (ap (λ xs. xs ++ es) s.2 ∙ append_assoc s.0 (s.1 ∷ []) es)) all)
  ]

  left_last : rest.last ≡ last_of None (ds ++ es)
  left_last = by es refl
    where
      by : (fs : List ℕ) → es ≡ fs → rest.last ≡ last_of None (ds ++ es)
      by [] e =
          let next : next_of nodes n ≡ None =
          subst (λ (xs : List ℕ). Leads nodes count bucket (next_of nodes n) xs None) e behind in
          ap (λ (o : Option ℕ). where_some o head.last (last_of None ds)) next
          ∙ ap (last_of None) (sym (ap (λ xs. ds ++ xs) e ∙ append-nil ds))
      by (f ∷ fs) e =
          let k : Leads nodes count bucket (next_of nodes n) (f ∷ fs) None =
          subst (λ (xs : List ℕ). Leads nodes count bucket (next_of nodes n) xs None) e behind in
          ap (λ (o : Option ℕ). where_some o head.last (last_of None ds)) k.1
          ∙ (c.2 ∙ (ap (last_of None) (cut ∙ ap (λ xs. ds ++ n ∷ xs) e)
          ∙ (last_append None ds (n ∷ f ∷ fs)
          ∙ (sym (last_append None ds (f ∷ fs)) ∙ ap (λ xs. last_of None (ds ++ xs)) (sym e)))))

  pub gone_length : length gone ≡ length nodes
  gone_length = next_length nodes (last_of None ds) (next_of nodes n)

  pub left_chain : IsChain gone count bucket rest
  left_chain = (
    ds ++ es,
    left_links,
    left_last,
    (let a = length-append ds es in
        let b = length-append ds (n ∷ es) in
        let d = ap length cut in
        let f = c.3 in
        omega (arith, a, b, d, f, gone_length)),
  )

  pub left_entries : chain gone rest ≡ along nodes ds ++ along nodes es
  unfolding left_chain
  left_entries =
      chain_is gone count bucket rest left_chain
      ∙ (along_same nodes gone (next_entry nodes (last_of None ds) (next_of nodes n)) (ds ++ es)
      ∙ along_append nodes ds es)

  -- and other chains stay
  module _ (b : ℕ) (other : Head) (d : IsChain nodes count b other) (else_where : (b == bucket) ≡ false) where
    pub left_other : IsChain gone count b other
    left_other = (
      d.0,
      next_apart nodes count b (last_of None ds) (next_of nodes n) d.0 other.first None
          (λ p e.
          let q = in_bucket nodes count bucket ds (n ∷ es) head.first p leads e in
          not_there nodes count b p q.0 bucket q.1 q.2 else_where d.0 other.first None d.1) d.1,
      d.2,
      (let e = d.3 in omega (arith, e, gone_length)),
    )

    pub left_same : chain gone other ≡ chain nodes other
    unfolding left_other
    left_same =
        chain_is gone count b other left_other
        ∙ (along_same nodes gone (next_entry nodes (last_of None ds) (next_of nodes n)) d.0
        ∙ sym (chain_is nodes count b other d))
