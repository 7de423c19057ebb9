-- Tags agree with slots: what a probe may conclude from them, and that each change keeps it so.
use Rattle.std.proofs.Common.{◌≡◌, ℕ, suc, ◌+◌, ◌-◌, ◌*◌, ◌/◌, ◌^◌, ◌<◌, ◌≤◌, ◌↔◌, ◌==◌, cond, nat_eq, Bool, true}
use Rattle.std.proofs.Common.{false, List, [], ◌∷◌, length, Option, Some, None, is_some, IsSome, MatchOption, nat_lt}
use Rattle.std.proofs.Common.{nat_le, slice_index, refl, sym, ap, ◌∙◌, subst, inl, inr, arith, eqb-true, eq-eqb}
use Rattle.std.specs.Cmp.{IsEquivalence}
use Rattle.std.proofs.lemmas.Bool.{cases_lt, cases_eq, and_parts, false_from_ne_true, false≢true, lt-ltb, ltb-true}
use Rattle.std.proofs.lemmas.Bool.{le-leb, leb-true}
use Rattle.std.proofs.lemmas.List.{get_or_past}
use Rattle.std.proofs.lemmas.List.Sums.{sum_by-cons}
use Rattle.dashmap_table.specs.declared.tags.lanes.Lanes.{Lanes}
use Rattle.dashmap_table.specs.declared.tags.window.Wanted.TheVariants.{Tag, Free, Full}
use Rattle.dashmap_table.specs.Tags.Lanes.{HasLane, IsWanted}
use Rattle.dashmap_table.specs.Tags.Way.{tag_of, on_way}
use Rattle.dashmap_table.proofs.TagsFacts.Ways.{way-comes, way-once, slot-window, lane-window}
use Rattle.dashmap_table.specs.declared.entry.Entry.{Entry}
use Rattle.dashmap_table.specs.Slots.{at, count, holds, slot_of, AreDistinct, IsNextFull}
use Rattle.dashmap_table.specs.Table.{Table}
use Rattle.dashmap_table.specs.Tagged.{windows_in, NoneBefore, IsEmpty, IsFree, IsFullFrom, IsPlace, empties, IsTagged}
use Rattle.dashmap_table.proofs.Cases.{option_cases}
use Rattle.dashmap_table.proofs.Places.{at_within}
use Rattle.dashmap_table.proofs.Finding.{slot_of-none_from, slot_of-at}

module _ {K V : Type 0} (eq : K → K → Bool) (tags : List ℕ) (slots : List (Option (Entry K V))) (h : ℕ) (key : K) where
  -- no slot of a window holds the hash and key
  abbrev pub Clean : ℕ → Type 0
  Clean window = (l : ℕ) → l / 16 ≡ window → holds eq h key (at slots l) ≡ false

  -- so many windows of the way are clean
  abbrev pub Passed : ℕ → Type 0
  Passed passed = (j : ℕ) → j < passed → Clean (on_way (windows_in tags) h j)

module _ {K V : Type 0} (eq : K → K → Bool) (tags : List ℕ) (slots : List (Option (Entry K V)))
    (tagged : IsTagged tags slots) (h : ℕ) (key : K) where
  -- a slot that holds the hash has its tag
  pub holds-tag : (l : ℕ) → holds eq h key (at slots l) ≡ true → (l < length tags) × (slice_index tags l ≡ tag_of h)
  holds-tag l has = elim (option_cases (at slots l)) [
    | inl none ↦ absurd (false≢true (sym (ap (holds eq h key) none) ∙ has))
    | inr some ↦
        let e = some.0 in
        let both = and_parts (nat_eq e.hash h) (eq e.key key) (sym (ap (holds eq h key) some.1) ∙ has) in
        let within = at_within slots l e some.1 in
        (omega (arith, within, tagged.long), tagged.full l e some.1 ∙ ap tag_of (eqb-true e.hash h both.0))
  ]

  -- a slot with a full slot's tag has something
  pub lane-some : (tag from : ℕ) (lanes : Lanes) → tag < 128
      → ((k : ℕ) → HasLane lanes k ↔ IsWanted (Tag tag) tags from k) → (k : ℕ) → HasLane lanes k
      → (from + k < length slots) × IsSome (at slots (from + k))
  lane-some tag from lanes low wanted k has =
      let w = (wanted k).0 has in
      let is : slice_index tags (from + k) ≡ tag = eqb-true (slice_index tags (from + k)) tag w.2 in (
        omega (arith, w.1, tagged.long),
        elim (option_cases (at slots (from + k))) [
          | inl none ↦ absurd (omega (arith, is, low, tagged.free (from + k) w.1 none))
          | inr some ↦ ap is_some some.1
        ],
      )

  -- a window is clean where none of the lanes with the hash's tag holds it
  pub window-clean : (window : ℕ) (lanes : Lanes)
      → ((k : ℕ) → IsWanted (Tag (tag_of h)) tags (16 * window) k → HasLane lanes k)
      → ((k : ℕ) → HasLane lanes k → holds eq h key (at slots (16 * window + k)) ≡ false)
      → Clean eq tags slots h key window
  window-clean window lanes all missed l here = false_from_ne_true (holds eq h key (at slots l)) (λ has.
      let tag = holds-tag l has in
      let place = slot-window (length tags) l tag.0 in
      let is : 16 * window + (l - 16 * window) ≡ l = omega (arith, here, place.1) in
      let within : l - 16 * window < 16 = omega (arith, here, place.2) in
      let below : 16 * window + (l - 16 * window) < length tags = omega (arith, is, tag.0) in
      let same : nat_eq (slice_index tags (16 * window + (l - 16 * window))) (tag_of h) ≡ true =
      eq-eqb _ _ (ap (slice_index tags) is ∙ tag.1) in
      let missing = missed (l - 16 * window) (all (l - 16 * window) (within, below, same)) in
      false≢true (sym missing ∙ (ap (λ j. holds eq h key (at slots j)) is ∙ has)))

  pub passed-more : (passed : ℕ) → Passed eq tags slots h key passed
      → Clean eq tags slots h key (on_way (windows_in tags) h passed) → Passed eq tags slots h key (passed + 1)
  passed-more passed before here j below = elim (cases_lt j passed) [
    | inl lower ↦ before j lower
    | inr over ↦
        let same : passed ≡ j = omega (arith, below, over) in
        subst (λ m. Clean eq tags slots h key (on_way (windows_in tags) h m)) same here
  ]

  -- the hash and key stand nowhere: every window was passed
  pub absent-at_end : Passed eq tags slots h key (windows_in tags) → slot_of eq slots h key ≡ None
  absent-at_end passed = slot_of-none_from eq slots h key
      (λ i e here. false_from_ne_true (holds eq h key (Some e)) (λ has.
      let also : holds eq h key (at slots i) ≡ true = ap (holds eq h key) here ∙ has in
      let place = slot-window (length tags) i (holds-tag i also).0 in
      let comes = way-comes (windows_in tags) h (i / 16) place.0 in
      false≢true (sym (passed comes.0 comes.1 i (sym comes.2)) ∙ also)))

  -- or one of those that were passed has an empty slot
  pub absent-at_empty : (passed l : ℕ) → passed < windows_in tags → Passed eq tags slots h key (passed + 1)
      → l < length tags → l / 16 ≡ on_way (windows_in tags) h passed → IsEmpty (slice_index tags l)
      → slot_of eq slots h key ≡ None
  absent-at_empty passed l within before below there empty = slot_of-none_from eq slots h key
      (λ i e here. false_from_ne_true (holds eq h key (Some e)) (λ has.
      let also : holds eq h key (at slots i) ≡ true = ap (holds eq h key) here ∙ has in
      let place = slot-window (length tags) i (holds-tag i also).0 in
      let comes = way-comes (windows_in tags) h (i / 16) place.0 in
      let hash : e.hash ≡ h = eqb-true e.hash h (and_parts (nat_eq e.hash h) (eq e.key key) has).0 in
      elim (cases_lt comes.0 (passed + 1)) [
        | inl sooner ↦ false≢true (sym (before comes.0 sooner i (sym comes.2)) ∙ also)
        | inr later ↦ subst (λ n. NoneBefore IsEmpty tags n (i / 16)) hash (tagged.reach i e here) comes.0 passed l
            comes.1 comes.2 (omega (arith, later)) below there empty
      ]))

  -- a window whose lanes with the hash's tag were looked at in vain
  pub probe-clean : (count passed window tag : ℕ) (lanes : Lanes) → count ≡ windows_in tags
      → window ≡ on_way count h passed → tag ≡ tag_of h
      → ((k : ℕ) → HasLane lanes k ↔ IsWanted (Tag tag) tags (16 * window) k)
      → ((k : ℕ) → HasLane lanes k → holds eq h key (at slots (16 * window + k)) ≡ false)
      → Clean eq tags slots h key (on_way (windows_in tags) h passed)
  probe-clean count passed window tag lanes many is same wanted missed =
      let way : window ≡ on_way (windows_in tags) h passed = is ∙ ap (λ n. on_way n h passed) many in
      subst (Clean eq tags slots h key) way
      (window-clean window lanes
      (λ k w. (wanted k).1 (subst (λ t. IsWanted (Tag t) tags (16 * window) k) (sym same) w)) missed)

  -- a window that has an empty slot
  pub probe-absent : (count passed window lane : ℕ) (lanes : Lanes) → count ≡ windows_in tags
      → window ≡ on_way count h passed → passed < count
      → Passed eq tags slots h key (passed + 1) → ((k : ℕ) → HasLane lanes k ↔ IsWanted (Tag 255) tags (16 * window) k)
      → HasLane lanes lane → slot_of eq slots h key ≡ None
  probe-absent count passed window lane lanes many is within before wanted has =
      let way : window ≡ on_way (windows_in tags) h passed = is ∙ ap (λ n. on_way n h passed) many in
      let w = (wanted lane).0 has in
      absent-at_empty passed (16 * window + lane) (omega (arith, within, many)) before w.1
      (lane-window window lane w.0 ∙ way) (eqb-true (slice_index tags (16 * window + lane)) 255 w.2)

  -- the window that is looked through first
  pub first-absent : (from tag lane : ℕ) (same ended : Lanes) → 16 ≤ length tags
      → from ≡ 16 * on_way (windows_in tags) h 0 → tag ≡ tag_of h
      → ((k : ℕ) → HasLane same k ↔ IsWanted (Tag tag) tags from k)
      → ((k : ℕ) → HasLane same k → holds eq h key (at slots (from + k)) ≡ false)
      → ((k : ℕ) → HasLane ended k ↔ IsWanted (Tag 255) tags from k) → HasLane ended lane
      → slot_of eq slots h key ≡ None
  first-absent from tag lane same ended some first is wanted missed empty has =
      let window = on_way (windows_in tags) h 0 in
      let here = probe-clean (windows_in tags) 0 window tag same refl refl is
      (subst (λ f. (k : ℕ) → HasLane same k ↔ IsWanted (Tag tag) tags f k) first wanted)
      (subst (λ f. (k : ℕ) → HasLane same k → holds eq h key (at slots (f + k)) ≡ false) first missed) in
      probe-absent (windows_in tags) 0 window lane ended refl refl (omega (arith, some))
      (passed-more 0 (λ j below. absurd (omega (arith, below))) here)
      (subst (λ f. (k : ℕ) → HasLane ended k ↔ IsWanted (Tag 255) tags f k) first empty) has

-- nothing is before the first window of a way
pub none-first : (tags : List ℕ) (P : ℕ → Type 0) (h from lane : ℕ) → from ≡ 16 * on_way (windows_in tags) h 0
    → lane < 16 → NoneBefore P tags h ((from + lane) / 16)
none-first tags P h from lane is low k j l hk at_k hj hl at_j p =
    let here : (from + lane) / 16 ≡ on_way (windows_in tags) h 0 = ap (λ f. (f + lane) / 16) is
    ∙ lane-window (on_way (windows_in tags) h 0) lane low in
    let first : k ≡ 0 = way-once (windows_in tags) h k 0 hk (omega (arith, hk)) (at_k ∙ here) in
    absurd (omega (arith, first, hj))

-- a free slot of the window that is looked through first
pub place-first : (tags : List ℕ) (h from lane : ℕ) (lanes : Lanes) → from ≡ 16 * on_way (windows_in tags) h 0
    → ((k : ℕ) → HasLane lanes k ↔ IsWanted Free tags from k) → HasLane lanes lane → IsPlace tags h (from + lane)
place-first tags h from lane lanes first wanted has =
    let w = (wanted lane).0 has in
    record {
      within = w.1;
      free = leb-true 128 (slice_index tags (from + lane)) w.2;
      first = none-first tags IsFree h from lane first w.0;
    }

-- or of a further one, where those that were passed are full
pub place-on_way : (tags : List ℕ) (h count passed window lane : ℕ) (lanes : Lanes) → count ≡ windows_in tags
    → window ≡ on_way count h passed → passed < count
    → ((j m : ℕ) → j < passed → m < length tags → m / 16 ≡ on_way (windows_in tags) h j → ¬ IsFree (slice_index tags m))
    → ((k : ℕ) → HasLane lanes k ↔ IsWanted Free tags (16 * window) k) → HasLane lanes lane
    → IsPlace tags h (16 * window + lane)
place-on_way tags h count passed window lane lanes many is within full wanted has =
    let w = (wanted lane).0 has in
    let here : (16 * window + lane) / 16 ≡ on_way (windows_in tags) h passed = lane-window window lane w.0
    ∙ (is ∙ ap (λ n. on_way n h passed) many) in
    record {
      within = w.1;
      free = leb-true 128 (slice_index tags (16 * window + lane)) w.2;
      first = λ k j l hk at_k hj hl at_j p.
          let same : k ≡ passed = way-once (windows_in tags) h k passed hk (omega (arith, within, many)) (at_k ∙ here)
          in full j l (omega (arith, same, hj)) hl at_j p;
    }

-- a window is full behind which its hash's way goes on
pub window-full : (tags : List ℕ) (h count passed window : ℕ) (lanes : Lanes) → count ≡ windows_in tags
    → window ≡ on_way count h passed
    → ((j m : ℕ) → j < passed → m < length tags → m / 16 ≡ on_way (windows_in tags) h j → ¬ IsFree (slice_index tags m))
    → ((k : ℕ) → HasLane lanes k ↔ IsWanted Free tags (16 * window) k) → ((k : ℕ) → ¬ HasLane lanes k)
    → (j m : ℕ) → j < passed + 1 → m < length tags → m / 16 ≡ on_way (windows_in tags) h j
    → ¬ IsFree (slice_index tags m)
window-full tags h count passed window lanes many is full wanted none j m below within at_j free =
    elim (cases_lt j passed) [
      | inl sooner ↦ full j m sooner within at_j free
      | inr later ↦
          let same : j ≡ passed = omega (arith, below, later) in
          let here : m / 16 ≡ window = at_j
          ∙ (ap (on_way (windows_in tags) h) same ∙ sym (is ∙ ap (λ n. on_way n h passed) many)) in
          let place : 16 * window + (m - 16 * window) ≡ m = omega (arith, here) in
          none (m - 16 * window)
          ((wanted (m - 16 * window)).1 (
            omega (arith, here),
            omega (arith, place, within),
            ap (λ n. nat_le 128 (slice_index tags n)) place
                ∙ le-leb 128 (slice_index tags m) free,
          ))
    ]

-- among distinct entries, a slot that has a hash and a key is the one that is found
pub found-slot : {K V : Type 0} (eq : K → K → Bool) → IsEquivalence eq → (slots : List (Option (Entry K V)))
    → AreDistinct eq slots → (h : ℕ) (key : K) (i : ℕ) → holds eq h key (at slots i) ≡ true
    → slot_of eq slots h key ≡ Some i
found-slot eq laws slots distinct h key i has = elim (option_cases (at slots i)) [
  | inl none ↦ absurd (false≢true (sym (ap (holds eq h key) none) ∙ has))
  | inr some ↦ slot_of-at eq laws slots distinct h key i some.0 some.1 (sym (ap (holds eq h key) some.1) ∙ has)
]

-- where some slot is empty, there is one
pub empty-slot : (tags : List ℕ) → 0 < empties tags → (i : ℕ) × (i < length tags) × IsEmpty (slice_index tags i)
empty-slot [] some = absurd (omega (arith, some))
empty-slot (t ∷ tags) some = elim (cases_eq t 255) [
  | inl here ↦ (0, omega arith, here)
  | inr other ↦
      let split : empties (t ∷ tags) ≡ cond (t == 255) 1 0 + empties tags = sum_by-cons (λ x. cond (x == 255) 1 0) t
      tags in
      let none : cond {A = ℕ} (t == 255) 1 0 ≡ 0 =
      ap (λ b. cond {A = ℕ} b 1 0) (false_from_ne_true (t == 255) (λ e. other (eqb-true t 255 e))) in
      let rest = empty-slot tags (omega (arith, some, split, none)) in (suc rest.0, omega (arith, rest.1), rest.2)
]

-- not every window of a table with an empty slot is full
pub windows-end : (tags : List ℕ) (h count passed : ℕ) → 0 < empties tags → count ≡ windows_in tags → count ≤ passed
    → ((j m : ℕ) → j < passed → m < length tags → m / 16 ≡ on_way (windows_in tags) h j → ¬ IsFree (slice_index tags m))
    → ⊥
windows-end tags h count passed some many over full =
    let empty = empty-slot tags some in
    let comes = way-comes (windows_in tags) h (empty.0 / 16) (slot-window (length tags) empty.0 empty.1).0 in
    full comes.0 empty.0 (omega (arith, comes.1, many, over)) empty.1 (sym comes.2) (omega (arith, empty.2))

module _ (tags : List ℕ) (from : ℕ) (lanes : Lanes) (wanted : (k : ℕ) → HasLane lanes k ↔ IsWanted Full tags from k)
  where
    -- what isn't among the full lanes of a window is free
    lane-free : (i k : ℕ) → from + k ≡ i → k < 16 → i < length tags → ¬ HasLane lanes k → IsFree (slice_index tags i)
    lane-free i k same within below none = elim (cases_lt (slice_index tags i) 128) [
      | inr free ↦ free
      | inl full ↦
          absurd (none ((wanted k).1 (
            within,
            omega (arith, same, below),
            ap (λ n. nat_lt (slice_index tags n) 128) same
                ∙ lt-ltb (slice_index tags i) 128 full,
          )))
    ]

    pub full-lane : (slot lane : ℕ) → slot ≤ from
        → ((i : ℕ) → slot ≤ i → i < from → i < length tags → IsFree (slice_index tags i)) → HasLane lanes lane
        → ((k : ℕ) → k < lane → ¬ HasLane lanes k) → IsFullFrom tags slot (from + lane)
    full-lane slot lane behind before has lowest =
        let w = (wanted lane).0 has in
        record {
          above = omega (arith, behind);
          within = w.1;
          full = ltb-true (slice_index tags (from + lane)) 128 w.2;
          first = λ j above below. elim (cases_lt j from) [
            | inl sooner ↦ before j above sooner (omega (arith, sooner, w.1))
            | inr later ↦ lane-free j (j - from) (omega (arith, later)) (omega (arith, later, below, w.0))
                (omega (arith, below, w.1)) (lowest (j - from) (omega (arith, later, below)))
          ];
        }

    pub free-lanes : (slot : ℕ) → slot ≤ from
        → ((i : ℕ) → slot ≤ i → i < from → i < length tags → IsFree (slice_index tags i))
        → ((k : ℕ) → ¬ HasLane lanes k)
        → (slot ≤ from + 16) × ((i : ℕ) → slot ≤ i → i < from + 16 → i < length tags → IsFree (slice_index tags i))
    free-lanes slot behind before none = (
      omega (arith, behind),
      λ i above below within. elim (cases_lt i from) [
        | inl sooner ↦ before i above sooner within
        | inr later ↦ lane-free i (i - from) (omega (arith, later)) (omega (arith, later, below)) within
            (none (i - from))
      ],
    )

-- the next full slot, as the tags tell it
pub next-full : {K V : Type 0} (tags read : List ℕ) (slots : List (Option (Entry K V))) (old : Table K V)
    (room from : ℕ) → IsTagged tags slots → read ≡ tags → record { slots = slots; room = room } ≡ old
    → length slots < 2 ^ 63
    → (o : Option ℕ) → MatchOption o ((i : ℕ) → from ≤ i → i < length read → IsFree (slice_index read i))
    (IsFullFrom read from) → MatchOption o ((i : ℕ) → from ≤ i → at old.slots i ≡ None) (IsNextFull old.slots from)
next-full {K} {V} tags read slots old room from tagged same was small o found =
    subst (λ (t : Table K V). MatchOption o ((i : ℕ) → from ≤ i → at t.slots i ≡ None) (IsNextFull t.slots from)) was
    (go o (subst (λ l. MatchOption o ((i : ℕ) → from ≤ i → i < length l → IsFree (slice_index l i)) (IsFullFrom l from))
    same found))
  where
    free : (i : ℕ) → IsFree (slice_index tags i) → at slots i ≡ None
    free i is = elim (option_cases (at slots i)) [
      | inl none ↦ none
      | inr some ↦ absurd (omega (arith, tagged.low i some.0 some.1, is))
    ]

    go : (o : Option ℕ) → MatchOption o ((i : ℕ) → from ≤ i → i < length tags → IsFree (slice_index tags i))
        (IsFullFrom tags from) → MatchOption o ((i : ℕ) → from ≤ i → at slots i ≡ None) (IsNextFull slots from)
    go None all = λ i above. elim (cases_lt i (length tags)) [
      | inl within ↦ free i (all i above within)
      | inr over ↦ get_or_past slots i None (omega (arith, over, tagged.long))
    ]
    go (Some i) is =
        record {
          full = elim (option_cases (at slots i)) [
            | inl none ↦ absurd (omega (arith, is.full, tagged.free i is.within none))
            | inr some ↦ ap is_some some.1
          ];
          above = is.above;
          first = λ j above below. free j (is.first j above below);
          numbered = omega (arith, is.within, tagged.long, small);
        }

-- the full slots of a window, as the tags tell them
pub full-lanes : {K V : Type 0} (tags read : List ℕ) (slots : List (Option (Entry K V))) (old : Table K V)
    (room from : ℕ) → IsTagged tags slots → read ≡ tags → record { slots = slots; room = room } ≡ old → (lanes : Lanes)
    → ((k : ℕ) → HasLane lanes k ↔ IsWanted Full read from k) → (k : ℕ)
    → HasLane lanes k ↔ ((k < 16) × IsSome (at old.slots (from + k)))
full-lanes {K} {V} tags read slots old room from tagged same was lanes wanted k =
    subst (λ (t : Table K V). HasLane lanes k ↔ ((k < 16) × IsSome (at t.slots (from + k)))) was (there, back)
  where
    is : HasLane lanes k ↔ IsWanted Full tags from k
    is = subst (λ l. HasLane lanes k ↔ IsWanted Full l from k) same (wanted k)

    there : HasLane lanes k → (k < 16) × IsSome (at slots (from + k))
    there has =
        let w = is.0 has in
        let low = ltb-true (slice_index tags (from + k)) 128 w.2 in (
          w.0,
          elim (option_cases (at slots (from + k))) [
            | inl none ↦ absurd (omega (arith, low, tagged.free (from + k) w.1 none))
            | inr some ↦ ap is_some some.1
          ],
        )

    back : (k < 16) × IsSome (at slots (from + k)) → HasLane lanes k
    back h = elim (option_cases (at slots (from + k))) [
      | inl none ↦ absurd (false≢true (sym (ap is_some none) ∙ h.1))
      | inr some ↦
          let within = at_within slots (from + k) some.0 some.1 in
          is.1 (
            h.0,
            omega (arith, within, tagged.long),
            lt-ltb (slice_index tags (from + k)) 128 (tagged.low (from + k) some.0 some.1),
          )
    ]
