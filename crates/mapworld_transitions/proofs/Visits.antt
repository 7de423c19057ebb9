-- The pairs of a visit, one slot after another: which are done, how many are left, and what they read has room.
use Rattle.std.proofs.Common.{◌≡◌, ◌≢◌, ℕ, zero, suc, ◌+◌, ◌-◌, ◌<◌, ◌≤◌, ◌^◌, Bool, true, false, cond, not, ◌&&◌}
use Rattle.std.proofs.Common.{◌||◌, if◌then◌else◌, List, [], ◌∷◌, ◌++◌, length, map, drop, Option, Some, None, IfSome}
use Rattle.std.proofs.Common.{MatchOption, is_some, is_none, slice_get, Vec, vec_len, vec_capacity, nat_lt, refl, sym}
use Rattle.std.proofs.Common.{ap, ◌∙◌, inl, inr, arith, ltb-true, ltb-false, IsSome, drop-set-lt}
use Rattle.std.specs.Cmp.{IsEquivalence}
use Rattle.std.specs.Option.{option_map}
use Rattle.std.proofs.lemmas.Bool.{cases_Bool, cases_eq, false≢true, false_from_ne_true}
use Rattle.std.proofs.lemmas.Option.{none-some, same_Some, slice_get-map}
use Rattle.std.proofs.lemmas.List.Folds.{list_any-append}
use Rattle.std.proofs.lemmas.List.Sums.{sum_by-cons}
use Rattle.std.proofs.lemmas.List.{get_or-set_other}
use Rattle.dashmap_table.specs.declared.entry.Entry.{Entry}
use Rattle.dashmap_table.specs.Slots.{at, count, pair_of as entry_pair, pairs_of, giving_pair, IsNextFull}
use Rattle.dashmap_table.specs.Table.{Table}
use Rattle.dashmap_table.proofs.Places.{at-set_same}
use Rattle.dashmap_table.proofs.Changing.{at-changed, at-changed_other}
use Rattle.mapworld_calls.specs.declared.ask.Walk.{Walk}
use Rattle.mapworld_calls.specs.declared.ask.Walk.TheVariants as walk
use Rattle.mapworld_calls.specs.Deeds.{Deeds}
use Rattle.mapworld_calls.specs.Pairs.{AreDistinct}
use Rattle.mapworld_calls.specs.Calls.{visit_leaves, visit_reads}
use Rattle.mapworld_calls.specs.Programs.{saturated, stop_of}
use Rattle.mapworld_state.specs.Moves.{stops_at}
use Rattle.mapworld_state.specs.Shards.{shard_pairs, Puts}
use Rattle.mapworld_state.specs.Slots.{to_give, FitsReads}
use Rattle.mapworld_state.specs.Walks.{gives_items, gives_reads, is_visited, all_visited, looked_keys, walk_mode}
use Rattle.mapworld_state.specs.Walks.{IsItemOf}
use Rattle.mapworld_state.specs.declared.holds.Mode.TheVariants.{Shared}
use Rattle.mapworld_transitions.specs.Slots.{LeavesAt}
use Rattle.mapworld_transitions.proofs.Slotted.{pairs-have, pairs-from, rank, one-slot, stays-left, puts-left}

-- how many slots are full from one on
module _ {K V : Type 0} where
  one-on : (slots : List (Option (Entry K V))) (i : ℕ) → (e : Entry K V) → at slots i ≡ Some e
      → count (drop i slots) ≡ count (drop (suc i) slots) + 1
  one-on [] i e here = absurd (none-some e here)
  one-on (None ∷ xs) zero e here = absurd (none-some e here)
  one-on (Some d ∷ xs) zero e here = let first = sum_by-cons (λ (o : Option (Entry K V)). cond (is_some o) 1 0) (Some d)
      xs in omega (arith, first)
  one-on (x ∷ xs) (suc i) e here = one-on xs i e here

  none-on : (slots : List (Option (Entry K V))) (i : ℕ) → at slots i ≡ None
      → count (drop i slots) ≡ count (drop (suc i) slots)
  none-on [] zero here = refl
  none-on [] (suc i) here = refl
  none-on (None ∷ xs) zero here = refl
  none-on (Some d ∷ xs) zero here = absurd (none-some d (sym here))
  none-on (x ∷ xs) (suc i) here = none-on xs i here

  skip : (slots : List (Option (Entry K V))) (n i : ℕ) → ((k : ℕ) → i ≤ k → k < i + n → at slots k ≡ None)
      → count (drop i slots) ≡ count (drop (i + n) slots)
  skip slots zero i none = ap (λ k. count (drop k slots)) (omega arith)
  skip slots (suc n) i none =
      none-on slots i (none i (omega arith) (omega arith))
      ∙ (skip slots n (suc i) (λ k le lt. none k (omega (arith, le)) (omega (arith, lt)))
      ∙ ap (λ k. count (drop k slots)) (omega arith))

  -- the next full slot has all that are left, and a full slot is one of them
  pub left-from : (slots : List (Option (Entry K V))) (from i : ℕ) → IsNextFull slots from i
      → count (drop from slots) ≡ count (drop i slots)
  left-from slots from i next =
      let above = next.above in
      let at-i : from + (i - from) ≡ i = omega (arith, above) in
      skip slots (i - from) from (λ k le lt. next.first k le (omega (arith, lt, above)))
      ∙ ap (λ k. count (drop k slots)) at-i

  pub left-one : (slots : List (Option (Entry K V))) (i : ℕ) (e : Entry K V) → at slots i ≡ Some e
      → count (drop i slots) ≡ count (drop (i + 1) slots) + 1
  left-one slots i e here = let n : suc i ≡ i + 1 = omega arith in one-on slots i e here
      ∙ ap (λ k. count (drop k slots) + 1) n

-- what is visited
module _ {K : Type 0} (eq : K → K → Bool) where
  pub visited-at : (ks : List K) (i : ℕ) (k q : K) → slice_get ks i ≡ Some k → eq k q ≡ true → is_visited eq ks q ≡ true
  visited-at [] i k q here e = absurd (none-some k here)
  visited-at (j ∷ ks) zero k q here e = ap (λ z. eq z q || is_visited eq ks q) (same_Some j k here)
      ∙ ap (λ b. b || is_visited eq ks q) e
  visited-at (j ∷ ks) (suc i) k q here e = or-true (eq j q) (is_visited eq ks q) (visited-at ks i k q here e)
    where
      or-true : (b c : Bool) → c ≡ true → (b || c) ≡ true
      or-true true c h = refl
      or-true false c h = h

  pub visited-more : (ks : List K) (k q : K) → is_visited eq (ks ++ k ∷ []) q ≡ (is_visited eq ks q || eq k q)
  visited-more ks k q = list_any-append (λ j. eq j q) ks (k ∷ []) ∙ ap (λ b. is_visited eq ks q || b) (or-none (eq k q))
    where
      or-none : (b : Bool) → (b || false) ≡ b
      or-none true = refl
      or-none false = refl

module _ {K V : Type 0} (eq : K → K → Bool) where
  all-yes : (ks : List K) (ps : List (K × V))
      → ((i : ℕ) (p : K × V) → slice_get ps i ≡ Some p → is_visited eq ks p.0 ≡ true) → all_visited eq ks ps ≡ true
  all-yes ks [] each = refl
  all-yes ks (p ∷ ps) each = ap (λ b. b && all_visited eq ks ps) (each 0 p refl) ∙ all-yes ks ps (λ i. each (suc i))

  all-no : (ks : List K) (ps : List (K × V)) (i : ℕ) (p : K × V) → slice_get ps i ≡ Some p
      → is_visited eq ks p.0 ≡ false → all_visited eq ks ps ≡ false
  all-no ks [] i p here not_yet = absurd (none-some p here)
  all-no ks (r ∷ ps) zero p here not_yet = ap (λ (z : K × V). is_visited eq ks z.0 && all_visited eq ks ps)
      (same_Some r p here) ∙ ap (λ b. b && all_visited eq ks ps) not_yet
  all-no ks (r ∷ ps) (suc i) p here not_yet = and-false (is_visited eq ks r.0) (all_visited eq ks ps)
      (all-no ks ps i p here not_yet)
    where
      and-false : (b c : Bool) → c ≡ false → (b && c) ≡ false
      and-false true c h = h
      and-false false c h = refl

  -- so of a shard's slots
  pub all-slots : (ks : List K) (slots : List (Option (Entry K V)))
      → ((j : ℕ) (e : Entry K V) → at slots j ≡ Some e → is_visited eq ks e.key ≡ true)
      → all_visited eq ks (pairs_of slots) ≡ true
  all-slots ks slots each = all-yes ks (pairs_of slots) (λ i p here.
      let r = pairs-from slots i p here in ap (λ (z : K × V). is_visited eq ks z.0) (sym r.3) ∙ each r.0 r.1 r.2)

  pub some-slot : (ks : List K) (slots : List (Option (Entry K V))) (j : ℕ) (e : Entry K V) → at slots j ≡ Some e
      → is_visited eq ks e.key ≡ false → all_visited eq ks (pairs_of slots) ≡ false
  some-slot ks slots j e here not_yet = all-no ks (pairs_of slots) (rank slots j) (entry_pair e)
      (pairs-have slots j e here) not_yet

  -- a look of a walk that does all pairs at once has done all
  pub all-keys : IsEquivalence eq → (ps : List (K × V)) → all_visited eq (map (λ p. p.0) ps) ps ≡ true
  all-keys laws ps =
      all-yes (map (λ p. p.0) ps) ps
      (λ i p here. visited-at eq (map (λ (z : K × V). z.0) ps) i p.0 p.0
      (slice_get-map (λ (z : K × V). z.0) ps i ∙ ap (option_map (λ (z : K × V). z.0)) here) (laws.refl p.0))

  -- a full slot has an entry
  pub full-has : {from : ℕ} (slots : List (Option (Entry K V))) (i : ℕ) → IsNextFull slots from i → (e : Entry K V)
      × (at slots i ≡ Some e)
  full-has slots i next = by (at slots i) refl next.full
    where
      by : (o : Option (Entry K V)) → at slots i ≡ o → IsSome o → (e : Entry K V) × (at slots i ≡ Some e)
      by None is full = absurd (false≢true full)
      by (Some e) is full = (e, is)

  -- whether a look has done all pairs is whether there is no first slot to go to
  pub looked-done : {D : Type 0} → IsEquivalence eq → (f : Walk D) (slots : List (Option (Entry K V))) (next : Option ℕ)
      → (gives_items f ≡ false → next ≡ None)
      → (gives_items f ≡ true → MatchOption next ((i : ℕ) → at slots i ≡ None) (IsNextFull slots 0))
      → (ps : List (K × V)) → (gives_items f ≡ true → ps ≡ pairs_of slots) → all_visited eq (looked_keys f ps) ps
      ≡ is_none next
  looked-done {D} laws f slots next none first ps same = elim (cases_Bool (gives_items f)) [
    | inl items ↦
        ap (λ b. all_visited eq (if b then [] else map (λ p. p.0) ps) ps) items
        ∙ (ap (λ zs. all_visited eq [] zs) (same items) ∙ by next (first items))
    | inr counts ↦ ap (λ b. all_visited eq (if b then [] else map (λ p. p.0) ps) ps) counts
        ∙ (all-keys laws ps ∙ sym (ap is_none (none counts)))
  ]
    where
      by : (next : Option ℕ) → MatchOption next ((i : ℕ) → at slots i ≡ None) (IsNextFull slots 0)
          → all_visited eq [] (pairs_of slots) ≡ is_none next
      by None empty = all-slots [] slots (λ j e here. absurd (none-some e (sym (empty j) ∙ here)))
      by (Some i) full = let d = full-has slots i full in some-slot [] slots i d.0 d.1 refl

-- behind the deed on the pair of a slot
module _ {K V : Type 0} (eq : K → K → Bool) (laws : IsEquivalence eq) (old new : Table K V) (slot : ℕ) (e : Entry K V)
    (there : at old.slots slot ≡ Some e) (distinct : AreDistinct eq (pairs_of old.slots))
    (o : Option (K × V)) (same : (z : K × V) → o ≡ Some z → z.0 ≡ e.key) (leaves : LeavesAt old new slot o)
    (ks : List K)
    (done : (j : ℕ) (d : Entry K V) → j < slot → at old.slots j ≡ Some d → is_visited eq ks d.key ≡ true)
    (left : (j : ℕ) (d : Entry K V) → slot ≤ j → at old.slots j ≡ Some d → is_visited eq ks d.key ≡ false) where
  others : (r : Option (K × V)) → LeavesAt old new slot r → (j : ℕ) → j ≢ slot → at new.slots j ≡ at old.slots j
  others None is j other = ap (λ xs. at xs j) is.freed ∙ get_or-set_other old.slots slot j None None other
  others (Some z) is j other = ap (λ (t : Table K V). at t.slots j) is ∙ at-changed_other (giving_pair z.0 z.1)
      old.slots slot j other

  own : (r : Option (K × V)) → ((z : K × V) → r ≡ Some z → z.0 ≡ e.key) → LeavesAt old new slot r → (d : Entry K V)
      → at new.slots slot ≡ Some d → d.key ≡ e.key
  own None is-key is d here =
      absurd (none-some d
      (sym (at-set_same old.slots slot None (λ _ _. refl)) ∙ (ap (λ xs. at xs slot) (sym is.freed) ∙ here)))
  own (Some z) is-key is d here =
      let now : at new.slots slot ≡ Some (giving_pair z.0 z.1 e) = ap (λ (t : Table K V). at t.slots slot) is
      ∙ (at-changed (giving_pair z.0 z.1) old.slots slot ∙ ap (option_map (giving_pair z.0 z.1)) there) in
      ap (λ (x : Entry K V). x.key) (sym (same_Some (giving_pair z.0 z.1 e) d (sym now ∙ here))) ∙ is-key z refl

  behind : (r : Option (K × V)) → LeavesAt old new slot r → drop (slot + 1) new.slots ≡ drop (slot + 1) old.slots
  behind None is = ap (drop (slot + 1)) is.freed ∙ drop-set-lt (slot + 1) old.slots slot None (omega arith)
  behind (Some z) is = ap (λ (t : Table K V). drop (slot + 1) t.slots) is ∙ drop-set-lt (slot + 1) old.slots slot
      (option_map (giving_pair z.0 z.1) (at old.slots slot)) (omega arith)

  now-done : (j : ℕ) (d : Entry K V) → j ≤ slot → at new.slots j ≡ Some d → is_visited eq (ks ++ e.key ∷ []) d.key
      ≡ true
  now-done j d le here = elim (cases_eq j slot) [
    | inl mine ↦
        let key = own o same leaves d (ap (at new.slots) (sym mine) ∙ here) in
        visited-more eq ks e.key d.key ∙ or-right (is_visited eq ks d.key) (eq e.key d.key)
        (ap (eq e.key) key ∙ laws.refl e.key)
    | inr other ↦ visited-more eq ks e.key d.key
        ∙ ap (λ b. b || eq e.key d.key) (done j d (omega (arith, le, other)) (sym (others o leaves j other) ∙ here))
  ]
    where
      or-right : (b c : Bool) → c ≡ true → (b || c) ≡ true
      or-right true c h = refl
      or-right false c h = h

  now-left : (j : ℕ) (d : Entry K V) → slot < j → at new.slots j ≡ Some d → is_visited eq (ks ++ e.key ∷ []) d.key
      ≡ false
  now-left j d lt here =
      let other : j ≢ slot = λ is. omega (arith, lt, is) in
      let was : at old.slots j ≡ Some d = sym (others o leaves j other) ∙ here in
      let apart : eq e.key d.key ≡ false = false_from_ne_true (eq e.key d.key)
      (λ equal. other (sym (one-slot eq old.slots distinct slot j e d there was equal))) in
      visited-more eq ks e.key d.key ∙ (ap (λ b. b || eq e.key d.key) (left j d (omega (arith, lt)) was) ∙ apart)

  -- all are done where there is no next one
  pub item-done : (next : Option ℕ) → MatchOption next ((i : ℕ) → slot + 1 ≤ i → at new.slots i ≡ None)
      (IsNextFull new.slots (slot + 1)) → all_visited eq (ks ++ e.key ∷ []) (pairs_of new.slots) ≡ is_none next
  item-done None none = all-slots eq (ks ++ e.key ∷ []) new.slots (λ j d here. elim (cases_Bool (nat_lt slot j)) [
    | inl above ↦ absurd (none-some d (sym (none j (omega (arith, ltb-true slot j above))) ∙ here))
    | inr below ↦ now-done j d (omega (arith, ltb-false slot j below)) here
  ])
  item-done (Some i) next =
      let d = full-has eq new.slots i next in
      let above = next.above in
      some-slot eq (ks ++ e.key ∷ []) new.slots i d.0 d.1 (now-left i d.0 (omega (arith, above)) d.1)

  -- and else those before the next one are done, and the others aren't
  module _ (i : ℕ) (next : IsNextFull new.slots (slot + 1) i) where
    pub item-before : (j : ℕ) (d : Entry K V) → j < i → at new.slots j ≡ Some d → is_visited eq (ks ++ e.key ∷ []) d.key
        ≡ true
    item-before j d lt here = elim (cases_Bool (nat_lt slot j)) [
      | inl above ↦ absurd (none-some d (sym (next.first j (omega (arith, ltb-true slot j above)) lt) ∙ here))
      | inr below ↦ now-done j d (omega (arith, ltb-false slot j below)) here
    ]

    pub item-behind : (j : ℕ) (d : Entry K V) → i ≤ j → at new.slots j ≡ Some d → is_visited eq (ks ++ e.key ∷ []) d.key
        ≡ false
    item-behind j d le here = let above = next.above in now-left j d (omega (arith, above, le)) here

    pub item-left : count (drop slot old.slots) ≡ count (drop i new.slots) + 1
    item-left = left-one old.slots slot e there
        ∙ ap (λ n. n + 1) (sym (ap count (behind o leaves)) ∙ left-from new.slots (slot + 1) i next)

-- what is read at a visit has room
goes-on : (n stop : ℕ) → not (nat_lt n stop) ≡ false → n < stop
goes-on n stop h = elim (cases_Bool (nat_lt n stop)) [
  | inl lt ↦ ltb-true n stop lt
  | inr ge ↦ absurd (false≢true (sym h ∙ ap not ge))
]

module _ {T A : Type 0} where
  room-by : (stop : Option ℕ) (reads : Vec T A) (n left : ℕ) → length reads.items + to_give stop n left ≤ vec_capacity
      reads → 1 ≤ left → stops_at stop n ≡ false → vec_len reads < vec_capacity reads
  room-by None reads n left fits some on = omega (arith, fits, some, reads.ok.0)
  room-by (Some stop) reads n left fits some on = let lt = goes-on n stop on in
      omega (arith, fits, some, lt, reads.ok.0)

  fits-by : (stop : Option ℕ) (reads reads' : Vec T A) (n m left : ℕ) → length reads.items + to_give stop n (left + 1) ≤
      vec_capacity reads → stops_at stop n ≡ false → IfSome stop (λ s. s < 2 ^ 64) → m ≡ saturated (n + 1)
      → length reads'.items ≤ length reads.items + 1 → vec_capacity reads' ≡ vec_capacity reads
      → length reads'.items + to_give stop m left ≤ vec_capacity reads'
  fits-by None reads reads' n m left fits on bound is more same = omega (arith, fits, more, same)
  fits-by (Some stop) reads reads' n m left fits on bound is more same = let lt = goes-on n stop on in
      omega (arith, fits, lt, bound, is, more, same)

module _ {D T A : Type 0} where
  pub reads-room : (f : Walk D) (reads : Vec T A) (n left : ℕ) → FitsReads f reads n left → 1 ≤ left
      → stops_at (stop_of f) n ≡ false → gives_reads f ≡ true → vec_len reads < vec_capacity reads
  reads-room (walk.Iter d stop) reads n left fits some on reading = room-by stop reads n left fits some on
  reads-room (walk.IterMut d stop) reads n left fits some on reading = room-by stop reads n left fits some on
  reads-room f reads n left fits some on reading = absurd (cc)

  -- and goes on to have it behind an item
  pub fits-more : (f : Walk D) (reads reads' : Vec T A) (n m left : ℕ) → FitsReads f reads n (left + 1)
      → stops_at (stop_of f) n ≡ false → IfSome (stop_of f) (λ s. s < 2 ^ 64) → m ≡ saturated (n + 1)
      → length reads'.items ≤ length reads.items + 1 → vec_capacity reads' ≡ vec_capacity reads
      → FitsReads f reads' m left
  fits-more (walk.Iter d stop) reads reads' n m left fits on bound is more same = fits-by stop reads reads' n m left
      fits on bound is more same
  fits-more (walk.IterMut d stop) reads reads' n m left fits on bound is more same = fits-by stop reads reads' n m left
      fits on bound is more same
  fits-more f reads reads' n m left fits on bound is more same = tt

module _ {D K V T : Type 0} (deeds : Deeds D K V T) where
  pub reads-one : (f : Walk D) (p : K × V) → length (visit_reads deeds f (Some p)) ≤ 1
  reads-one (walk.Iter d stop) p = omega arith
  reads-one (walk.IterMut d stop) p = omega arith
  reads-one f p = omega arith

  if-key : (b : Bool) (p r z : K × V) → r.0 ≡ p.0 → (if b then Some r else None) ≡ Some z → z.0 ≡ p.0
  if-key true p r z same e = ap (λ (q : K × V). q.0) (sym (same_Some r z e)) ∙ same
  if-key false p r z same e = absurd (none-some z e)

  -- a walk leaves a pair under its key
  pub visit-key : (f : Walk D) (p z : K × V) → visit_leaves deeds f (Some p) ≡ Some z → z.0 ≡ p.0
  visit-key (walk.IterMut d stop) p z e = ap (λ (q : K × V). q.0) (sym (same_Some (p.0, deeds.effect d p.0 p.1) z e))
  visit-key (walk.Retain d) p z e = if-key (deeds.keep d p.0 p.1) p (p.0, deeds.effect d p.0 p.1) z refl e
  visit-key (walk.AlterAll d) p z e = ap (λ (q : K × V). q.0) (sym (same_Some (p.0, deeds.effect d p.0 p.1) z e))
  visit-key walk.Clear p z e = absurd (none-some z e)
  visit-key f p z e = ap (λ (q : K × V). q.0) (sym (same_Some p z e))

  -- what it leaves in a slot is what it leaves of the shard
  module _ (eq : K → K → Bool) (laws : IsEquivalence eq) (old new : Table K V) (slot : ℕ) (e : Entry K V)
      (there : at old.slots slot ≡ Some e) (distinct : AreDistinct eq (pairs_of old.slots)) where
    as-left : (o : Option (K × V)) → ((z : K × V) → o ≡ Some z → z.0 ≡ e.key) → LeavesAt old new slot o
        → Puts eq (shard_pairs old) (shard_pairs new) e.key o
    as-left o same leaves =
        puts-left eq laws old new slot e.key distinct (record { entry = e; there = there; equal = laws.refl e.key }) o
        (λ z is. ap (eq e.key) (same z is) ∙ laws.refl e.key) leaves

    pub item-of : (f : Walk D) → LeavesAt old new slot (visit_leaves deeds f (Some (entry_pair e)))
        → IsItemOf deeds eq f (shard_pairs old) (shard_pairs new) (entry_pair e)
    item-of (walk.Iter d stop) leaves = ap shard_pairs (leaves ∙ sym (stays-left old slot e there))
    item-of (walk.IterMut d stop) leaves = as-left _ (visit-key (walk.IterMut d stop) (entry_pair e)) leaves
    item-of (walk.Retain d) leaves = as-left _ (visit-key (walk.Retain d) (entry_pair e)) leaves
    item-of (walk.AlterAll d) leaves = as-left _ (visit-key (walk.AlterAll d) (entry_pair e)) leaves
    item-of walk.Clear leaves = as-left _ (visit-key walk.Clear (entry_pair e)) leaves
    item-of walk.Len leaves = as-left _ (visit-key walk.Len (entry_pair e)) leaves
    item-of walk.IsEmpty leaves = as-left _ (visit-key walk.IsEmpty (entry_pair e)) leaves
    item-of walk.Capacity leaves = as-left _ (visit-key walk.Capacity (entry_pair e)) leaves
    item-of walk.ShrinkToFit leaves = as-left _ (visit-key walk.ShrinkToFit (entry_pair e)) leaves

    -- the shard that a walk shares stays as it is
    pub shared-stays : (f : Walk D) → walk_mode f ≡ Shared
        → LeavesAt old new slot (visit_leaves deeds f (Some (entry_pair e))) → new ≡ old
    shared-stays (walk.IterMut d stop) is leaves = absurd (cc)
    shared-stays (walk.Retain d) is leaves = absurd (cc)
    shared-stays (walk.AlterAll d) is leaves = absurd (cc)
    shared-stays walk.Clear is leaves = absurd (cc)
    shared-stays f is leaves = leaves ∙ sym (stays-left old slot e there)
