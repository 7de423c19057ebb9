-- Tags agree with slots after each change.
use Rattle.std.proofs.Common.{◌≡◌, ◌≢◌, ℕ, zero, suc, ◌+◌, ◌-◌, ◌/◌, ◌%◌, ◌^◌, ◌<◌, ◌≤◌, ◌==◌, cond, nat_eq, Bool, true}
use Rattle.std.proofs.Common.{false, List, [], ◌∷◌, length, replicate, Option, Some, None, is_some, IsTrue, IsSome}
use Rattle.std.proofs.Common.{IfSome, IfNone, slice_index, slice_set, refl, sym, ap, ◌∙◌, subst, inl, inr, arith}
use Rattle.std.proofs.Common.{eqb-true, eq-eqb, length-set}
use Rattle.std.specs.Cmp.{IsEquivalence}
use Rattle.std.specs.Option.{option_map}
use Rattle.std.proofs.lemmas.Bool.{cases_eq, and_parts, false_from_ne_true, false≢true}
use Rattle.std.proofs.lemmas.Option.{none-some, same_Some}
use Rattle.std.proofs.lemmas.List.{get_or-set_same, get_or-set_other, get_or_past, get_or-replicate, length-replicate}
use Rattle.std.proofs.lemmas.List.Sums.{sum_by-cons, sum_by-set}
use mir.Val.{bool_byte}
use Rattle.std.specs.declared.vec.Vec.{Vec}
use Rattle.dashmap_table.specs.Tags.Way.{tag_of}
use Rattle.dashmap_table.specs.declared.entry.Entry.{Entry}
use Rattle.dashmap_table.specs.Slots.{at, count, slot_of, entry_of, AreDistinct, changed}
use Rattle.dashmap_table.specs.Table.{Table, IsSound, Adds}
use Rattle.dashmap_table.specs.Tagged.{NoneOnWay, NoneBefore, IsEmpty, IsFree, empties, no_entry, IsPlace, IsTagged}
use Rattle.dashmap_table.specs.Tagged.{IsTable, IsWhole}
use Rattle.dashmap_table.proofs.Cases.{option_cases}
use Rattle.dashmap_table.proofs.Places.{at_within, count-set}
use Rattle.dashmap_table.proofs.Finding.{slot_of-is}
use Rattle.dashmap_table.proofs.Changing.{entry_of-added, at-changed, at-changed_other}
use Rattle.dashmap_table.proofs.Adding.{AreDistinct-filled}

pub byte-is : (b : Bool) → bool_byte b ≡ cond b 1 0
byte-is true = refl
byte-is false = refl

pub byte-small : (b : Bool) → bool_byte b ≤ 1
byte-small true = omega arith
byte-small false = omega arith

at_most_one : (b : Bool) → cond {A = ℕ} b 1 0 ≤ 1
at_most_one true = omega arith
at_most_one false = omega arith

-- what is less often so is on no way either
none_on_way-fewer : (m n : ℕ) (P Q : ℕ → Type 0) (h w : ℕ) → m ≡ n → ((l : ℕ) → l < n → Q l → P l) → NoneOnWay m P h w
    → NoneOnWay n Q h w
none_on_way-fewer m n P Q h w same fewer none =
    let moved : NoneOnWay n P h w = subst (λ s. NoneOnWay s P h w) same none in
    λ k j l hk at_k hj hl at_j q. moved k j l hk at_k hj hl at_j (fewer l hl q)

empties-set : (tags : List ℕ) (i t : ℕ) → i < length tags → empties (slice_set tags i t) + cond {A = ℕ}
    (slice_index tags i == 255) 1 0 ≡ empties tags + cond {A = ℕ} (t == 255) 1 0
empties-set tags i t within = sum_by-set (λ x. cond (x == 255) 1 0) tags i t 0 within

whole-set : (tags : List ℕ) (i t : ℕ) → IsWhole tags → IsWhole (slice_set tags i t)
whole-set tags i t whole = subst (λ m. 16 ≤ m → m % 16 ≡ 0) (sym (length-set tags i t)) whole

one_if : (t : ℕ) → t ≡ 255 → cond {A = ℕ} (t == 255) 1 0 ≡ 1
one_if t is = ap (λ b. cond {A = ℕ} b 1 0) (eq-eqb t 255 is)

none_if : (t : ℕ) → t ≢ 255 → cond {A = ℕ} (t == 255) 1 0 ≡ 0
none_if t isnt = ap (λ b. cond {A = ℕ} b 1 0) (false_from_ne_true (t == 255) (λ e. isnt (eqb-true t 255 e)))

module _ {K V : Type 0} where
  -- each slot has an entry with the hash that it had
  pub tagged-like : (tags : List ℕ) (xs ys : List (Option (Entry K V))) → IsTagged tags xs → length ys ≡ length xs
      → ((j : ℕ) (e : Entry K V) → at ys j ≡ Some e → (d : Entry K V) × (at xs j ≡ Some d) × (d.hash ≡ e.hash))
      → ((j : ℕ) → at ys j ≡ None → at xs j ≡ None) → IsTagged tags ys
  tagged-like tags xs ys tagged same full free =
      record {
        long = tagged.long ∙ sym same;
        full = λ i e here. let d = full i e here in tagged.full i d.0 d.1 ∙ ap tag_of d.2;
        low = λ i e here. let d = full i e here in tagged.low i d.0 d.1;
        free = λ i within here. tagged.free i within (free i here);
        reach = λ i e here. let d = full i e here in subst (λ n. NoneBefore IsEmpty tags n (i / 16)) d.2
            (tagged.reach i d.0 d.1);
      }

  pub tagged-changed : (f : Entry K V → Entry K V) → ((e : Entry K V) → (f e).hash ≡ e.hash)
      → (tags : List ℕ) (xs : List (Option (Entry K V))) (i : ℕ) → IsTagged tags xs → IsTagged tags (changed f xs i)
  tagged-changed f keeps tags xs i tagged = tagged-like tags xs (changed f xs i) tagged
      (length-set xs i (option_map f (at xs i))) full free
    where
      of_map : (j : ℕ) (o : Option (Entry K V)) (e : Entry K V) → at xs j ≡ o → option_map f o ≡ Some e
          → (d : Entry K V) × (at xs j ≡ Some d) × (d.hash ≡ e.hash)
      of_map j None e was is = absurd (none-some e is)
      of_map j (Some d) e was is = (d, was, sym (keeps d) ∙ ap (λ (x : Entry K V). x.hash) (same_Some (f d) e is))

      full : (j : ℕ) (e : Entry K V) → at (changed f xs i) j ≡ Some e → (d : Entry K V) × (at xs j ≡ Some d)
          × (d.hash ≡ e.hash)
      full j e here = elim (cases_eq j i) [
        | inl same ↦ of_map j (at xs j) e refl
            (ap (λ n. option_map f (at xs n)) same
            ∙ (sym (at-changed f xs i) ∙ (ap (at (changed f xs i)) (sym same) ∙ here)))
        | inr other ↦ (e, sym (at-changed_other f xs i j other) ∙ here, refl)
      ]

      of_none : (o : Option (Entry K V)) → option_map f o ≡ None → o ≡ None
      of_none None is = refl
      of_none (Some d) is = absurd (none-some (f d) (sym is))

      free : (j : ℕ) → at (changed f xs i) j ≡ None → at xs j ≡ None
      free j here = elim (cases_eq j i) [
        | inl same ↦ of_none (at xs j)
            (ap (λ n. option_map f (at xs n)) same
            ∙ (sym (at-changed f xs i) ∙ (ap (at (changed f xs i)) (sym same) ∙ here)))
        | inr other ↦ sym (at-changed_other f xs i j other) ∙ here
      ]

  -- a slot that is free has nothing
  pub free-none : (tags : List ℕ) (slots : List (Option (Entry K V))) (i : ℕ) → IsTagged tags slots
      → IsFree (slice_index tags i) → at slots i ≡ None
  free-none tags slots i tagged free = elim (option_cases (at slots i)) [
    | inl none ↦ none
    | inr some ↦ absurd (omega (arith, tagged.low i some.0 some.1, free))
  ]

  -- an entry goes into the first free slot on its hash's way
  module _ (tags : List ℕ) (slots : List (Option (Entry K V))) (tagged : IsTagged tags slots) (e : Entry K V) (i t : ℕ)
      (within : i < length tags) (tag : t ≡ tag_of e.hash) (low : t < 128) where
    abbrev tags-put : List ℕ
    tags-put = slice_set tags i t

    abbrev slots-put : List (Option (Entry K V))
    slots-put = slice_set slots i (Some e)

    put-empty : (l : ℕ) → IsEmpty (slice_index tags-put l) → (l ≢ i) × IsEmpty (slice_index tags l)
    put-empty l is = elim (cases_eq l i) [
      | inl same ↦
          let here : slice_index tags-put l ≡ t = ap (slice_index tags-put) same ∙ get_or-set_same tags i t 0 within in
          absurd (omega (arith, here, is, low))
      | inr other ↦ (other, sym (get_or-set_other tags i l t 0 other) ∙ is)
    ]

    pub tagged-put : NoneBefore IsFree tags e.hash (i / 16) → IsTagged tags-put slots-put
    tagged-put first =
        record {
          long = length-set tags i t ∙ (tagged.long ∙ sym (length-set slots i (Some e)));
          full = λ j d here. elim (cases_eq j i) [
            | inl same ↦ ap (slice_index tags-put) same
                ∙ (get_or-set_same tags i t 0 within
                ∙ (tag ∙ ap (λ (x : Entry K V). tag_of x.hash) (is_put j d same here)))
            | inr other ↦ get_or-set_other tags i j t 0 other
                ∙ tagged.full j d (sym (get_or-set_other slots i j (Some e) None other) ∙ here)
          ];
          low = λ j d here. elim (cases_eq j i) [
            | inl same ↦
                let is : slice_index tags-put j ≡ t = ap (slice_index tags-put) same ∙ get_or-set_same tags i t 0 within
                in omega (arith, is, low)
            | inr other ↦
                let is : slice_index tags-put j ≡ slice_index tags j = get_or-set_other tags i j t 0 other in
                omega (arith, is, tagged.low j d (sym (get_or-set_other slots i j (Some e) None other) ∙ here))
          ];
          free = λ j below here. elim (cases_eq j i) [
            | inl same ↦
                absurd (none-some e
                (sym here ∙ (ap (at slots-put) same ∙ get_or-set_same slots i (Some e) None
                (omega (arith, within, tagged.long)))))
            | inr other ↦
                let is : slice_index tags-put j ≡ slice_index tags j = get_or-set_other tags i j t 0 other in
                let was = tagged.free j (omega (arith, below, length-set tags i t))
                (sym (get_or-set_other slots i j (Some e) None other) ∙ here) in
                omega (arith, is, was)
          ];
          reach = λ j d here. elim (cases_eq j i) [
            | inl same ↦
                let way : NoneBefore IsFree tags d.hash (j / 16) = subst (λ n. NoneBefore IsFree tags n (j / 16))
                (ap (λ (x : Entry K V). x.hash) (is_put j d same here))
                (subst (λ n. NoneBefore IsFree tags e.hash (n / 16)) (sym same) first) in
                none_on_way-fewer (length tags) (length tags-put) (λ l. IsFree (slice_index tags l))
                (λ l. IsEmpty (slice_index tags-put l)) d.hash (j / 16) (sym (length-set tags i t))
                (λ l below empty. let was = (put-empty l empty).1 in omega (arith, was)) way
            | inr other ↦
                none_on_way-fewer (length tags) (length tags-put) (λ l. IsEmpty (slice_index tags l))
                (λ l. IsEmpty (slice_index tags-put l)) d.hash (j / 16) (sym (length-set tags i t))
                (λ l below empty. (put-empty l empty).1)
                (tagged.reach j d (sym (get_or-set_other slots i j (Some e) None other) ∙ here))
          ];
        }
      where
        is_put : (j : ℕ) (d : Entry K V) → j ≡ i → at slots-put j ≡ Some d → e ≡ d
        is_put j d same here =
            same_Some e d (sym (get_or-set_same slots i (Some e) None (omega (arith, within, tagged.long)))
            ∙ (ap (at slots-put) (sym same) ∙ here))

  -- a slot's entry goes, and its tag becomes one of the two of free slots: empty only where no way goes on past it
  module _ (tags : List ℕ) (slots : List (Option (Entry K V))) (tagged : IsTagged tags slots) (i t : ℕ)
      (within : i < length tags) (free : IsFree t)
      (ends : IsEmpty t → (l : ℕ) × (l < length tags) × (l / 16 ≡ i / 16) × IsEmpty (slice_index tags l)) where
    abbrev tags-freed : List ℕ
    tags-freed = slice_set tags i t

    abbrev slots-freed : List (Option (Entry K V))
    slots-freed = slice_set slots i None

    freed-other : (j : ℕ) (d : Entry K V) → at slots-freed j ≡ Some d → (j ≢ i) × (at slots j ≡ Some d)
    freed-other j d here = elim (cases_eq j i) [
      | inl same ↦
          absurd (none-some d (sym (get_or-set_same slots i None None (omega (arith, within, tagged.long)))
          ∙ (ap (at slots-freed) (sym same) ∙ here)))
      | inr other ↦ (other, sym (get_or-set_other slots i j None None other) ∙ here)
    ]

    pub tagged-freed : IsTagged tags-freed slots-freed
    tagged-freed =
        record {
          long = length-set tags i t ∙ (tagged.long ∙ sym (length-set slots i None));
          full = λ j d here.
              let was = freed-other j d here in get_or-set_other tags i j t 0 was.0 ∙ tagged.full j d was.1;
          low = λ j d here.
              let was = freed-other j d here in
              let is : slice_index tags-freed j ≡ slice_index tags j = get_or-set_other tags i j t 0 was.0 in
              omega (arith, is, tagged.low j d was.1);
          free = λ j below here. elim (cases_eq j i) [
            | inl same ↦
                let is : slice_index tags-freed j ≡ t = ap (slice_index tags-freed) same
                ∙ get_or-set_same tags i t 0 within in omega (arith, is, free)
            | inr other ↦
                let is : slice_index tags-freed j ≡ slice_index tags j = get_or-set_other tags i j t 0 other in
                let was = tagged.free j (omega (arith, below, length-set tags i t))
                (sym (get_or-set_other slots i j None None other) ∙ here) in
                omega (arith, is, was)
          ];
          reach = λ j d here. reached j d (freed-other j d here).1;
        }
      where
        reached : (j : ℕ) (d : Entry K V) → at slots j ≡ Some d → NoneBefore IsEmpty tags-freed d.hash (j / 16)
        reached j d was =
            let moved : NoneOnWay (length tags-freed) (λ l. IsEmpty (slice_index tags l)) d.hash (j / 16) =
            subst (λ n. NoneOnWay n (λ l. IsEmpty (slice_index tags l)) d.hash (j / 16)) (sym (length-set tags i t))
            (tagged.reach j d was) in
            λ k m l hk at_k hm hl at_m empty. elim (cases_eq l i) [
              | inl same ↦
                  let is : t ≡ 255 = sym (get_or-set_same tags i t 0 within)
                  ∙ (ap (slice_index tags-freed) (sym same) ∙ empty) in
                  let end = ends is in
                  moved k m end.0 hk at_k hm (omega (arith, end.1, length-set tags i t))
                  (end.2 ∙ (ap (λ n. n / 16) (sym same) ∙ at_m)) end.3
              | inr other ↦ moved k m l hk at_k hm hl at_m (sym (get_or-set_other tags i l t 0 other) ∙ empty)
            ]

-- nothing was put into any slot
pub tagged-fresh : (K V : Type 0) (n : ℕ) → IsTagged (replicate n 255) (replicate n (no_entry K V))
tagged-fresh K V n =
    record {
      long = length-replicate {A = ℕ} n 255 ∙ sym (length-replicate n (no_entry K V));
      full = λ i e here. absurd (nothing i e here);
      low = λ i e here. absurd (nothing i e here);
      free = λ i below here.
          let is : slice_index (replicate n 255) i ≡ 255 =
          get_or-replicate n i 255 0 (omega (arith, below, length-replicate {A = ℕ} n 255)) in omega (arith, is);
      reach = λ i e here. absurd (nothing i e here);
    }
  where
    nothing : (i : ℕ) (e : Entry K V) → at (replicate n (no_entry K V)) i ≡ Some e → ⊥
    nothing i e here =
        let within = at_within (replicate n (no_entry K V)) i e here in
        none-some e (sym (get_or-replicate n i (no_entry K V) None
        (omega (arith, within, length-replicate n (no_entry K V)))) ∙ here)

pub count-fresh : (K V : Type 0) (n : ℕ) → count (replicate n (no_entry K V)) ≡ 0
count-fresh K V zero = refl
count-fresh K V (suc n) =
    let skip : count ((no_entry K V) ∷ replicate n (no_entry K V)) ≡ 0 + count (replicate n (no_entry K V)) =
    sum_by-cons (λ o. cond (is_some o) 1 0) (no_entry K V) (replicate n (no_entry K V)) in
    let rest = count-fresh K V n in omega (arith, skip, rest)

pub empties-fresh : (n : ℕ) → empties (replicate n 255) ≡ n
empties-fresh zero = refl
empties-fresh (suc n) =
    let one : empties (255 ∷ replicate n 255) ≡ 1 + empties (replicate n 255) = sum_by-cons (λ x. cond (x == 255) 1 0)
    255 (replicate n 255) in
    let rest = empties-fresh n in omega (arith, one, rest)

-- a slot is full or empty, or neither
pub rooms : {K V : Type 0} (tags : List ℕ) (slots : List (Option (Entry K V))) → length tags ≡ length slots
    → ((i : ℕ) (e : Entry K V) → at slots i ≡ Some e → slice_index tags i < 128)
    → count slots + empties tags ≤ length slots
rooms [] [] long low = omega arith
rooms [] (s ∷ slots) long low = absurd (omega (arith, long))
rooms (t ∷ tags) [] long low = absurd (omega (arith, long))
rooms (t ∷ tags) (None ∷ slots) long low =
    let c : count (None ∷ slots) ≡ 0 + count slots = sum_by-cons (λ o. cond (is_some o) 1 0) None slots in
    let e : empties (t ∷ tags) ≡ cond (t == 255) 1 0 + empties tags = sum_by-cons (λ x. cond (x == 255) 1 0) t tags in
    let most = at_most_one (t == 255) in
    let rest = rooms tags slots (omega (arith, long)) (λ i d here. low (suc i) d here) in
    omega (arith, c, e, rest, most)
rooms (t ∷ tags) (Some d ∷ slots) long low =
    let c : count (Some d ∷ slots) ≡ 1 + count slots = sum_by-cons (λ o. cond (is_some o) 1 0) (Some d) slots in
    let e : empties (t ∷ tags) ≡ cond (t == 255) 1 0 + empties tags = sum_by-cons (λ x. cond (x == 255) 1 0) t tags in
    let full : t < 128 = low 0 d refl in
    let none = none_if t (λ is. absurd (omega (arith, is, full))) in
    let rest = rooms tags slots (omega (arith, long)) (λ i b here. low (suc i) b here) in
    omega (arith, c, e, rest, none)

pub table-fresh : (K V : Type 0) (eq : K → K → Bool) (n left : ℕ) → left < n → (16 ≤ n → n % 16 ≡ 0)
    → IsTable eq (replicate n 255) (replicate n (no_entry K V)) 0 left
table-fresh K V eq n left less whole =
    record {
      distinct = λ i j d e hi hj has. absurd (nothing i d hi);
      counted = sym (count-fresh K V n);
      tagged = tagged-fresh K V n;
      whole = subst (λ m. 16 ≤ m → m % 16 ≡ 0) (sym (length-replicate {A = ℕ} n 255)) whole;
      kept = omega (arith, less, empties-fresh n, length-replicate {A = ℕ} n 255);
    }
  where
    nothing : (i : ℕ) (e : Entry K V) → at (replicate n (no_entry K V)) i ≡ Some e → ⊥
    nothing i e here =
        let within = at_within (replicate n (no_entry K V)) i e here in
        none-some e (sym (get_or-replicate n i (no_entry K V) None
        (omega (arith, within, length-replicate n (no_entry K V)))) ∙ here)

pub table-none : (K V : Type 0) (eq : K → K → Bool) → IsTable {K = K} {V = V} eq [] [] 0 0
table-none K V eq =
    record {
      distinct = λ i j d e hi hj has. absurd (none-some d (sym (get_or_past [] i None (omega arith)) ∙ hi));
      counted = refl;
      tagged = tagged-fresh K V 0;
      whole = λ _. refl;
      kept = omega arith;
    }

module _ {K V : Type 0} (eq : K → K → Bool) where
  -- a table has room for no more than it has slots
  pub room-within : (tags : List ℕ) (slots : List (Option (Entry K V))) (full left : ℕ)
      → IsTable eq tags slots full left → (full + left ≤ length slots) × (0 < length slots → full + left < length slots)
  room-within tags slots full left is =
      let all = rooms tags slots is.tagged.long is.tagged.low in
      (omega (arith, all, is.counted, is.kept), λ some. omega (arith, all, is.counted, is.kept, is.tagged.long, some))

  pub IsSound-table : (tags : List ℕ) (slots : List (Option (Entry K V))) (full left : ℕ)
      → IsTable eq tags slots full left → length slots < 2 ^ 63
      → IsSound eq (record { slots = slots; room = full + left })
  IsSound-table tags slots full left is small =
      record { distinct = is.distinct; fits = omega (arith, is.counted); numbered = small }

  -- fewer pairs may be promised than there is room for
  pub table-limited : (tags : List ℕ) (slots : List (Option (Entry K V))) (full left less : ℕ) → less ≤ left
      → IsTable eq tags slots full left → IsTable eq tags slots full less
  table-limited tags slots full left less below is =
      record {
        distinct = is.distinct;
        counted = is.counted;
        tagged = is.tagged;
        whole = is.whole;
        kept = omega (arith, is.kept, below);
      }

  -- other contents, with the same hashes
  pub table-changed : (f : Entry K V → Entry K V) → ((e : Entry K V) → (f e).hash ≡ e.hash)
      → (tags : List ℕ) (slots zs : List (Option (Entry K V))) (full left i : ℕ) → IsTable eq tags slots full left
      → zs ≡ changed f slots i → AreDistinct eq zs × (full ≡ count zs) → IsTable eq tags zs full left
  table-changed f keeps tags slots zs full left i is same sound =
      record {
        distinct = sound.0;
        counted = sound.1;
        tagged = subst (IsTagged tags) (sym same) (tagged-changed f keeps tags slots i is.tagged);
        whole = is.whole;
        kept = is.kept;
      }

  pub distinct-freed : (slots : List (Option (Entry K V))) (i : ℕ) → i < length slots → AreDistinct eq slots
      → AreDistinct eq (slice_set slots i None)
  distinct-freed slots i within distinct j k d e hj hk has = distinct j k d e (was j d hj) (was k e hk) has
    where
      was : (j : ℕ) (d : Entry K V) → at (slice_set slots i None) j ≡ Some d → at slots j ≡ Some d
      was j d here = elim (cases_eq j i) [
        | inl same ↦ absurd
            (none-some d (sym (get_or-set_same slots i None None within)
            ∙ (ap (at (slice_set slots i None)) (sym same) ∙ here)))
        | inr other ↦ sym (get_or-set_other slots i j None None other) ∙ here
      ]

  count-freed : (slots : List (Option (Entry K V))) (i : ℕ) (e : Entry K V) → at slots i ≡ Some e
      → count (slice_set slots i None) + 1 ≡ count slots
  count-freed slots i e here =
      let both : count (slice_set slots i None) + cond (is_some (at slots i)) 1 0 ≡ count slots + 0 =
      sum_by-set (λ o. cond (is_some o) 1 0) slots i None None (at_within slots i e here) in
      let full : cond {A = ℕ} (is_some (at slots i)) 1 0 ≡ 1 =
      ap (λ (o : Option (Entry K V)). cond {A = ℕ} (is_some o) 1 0) here in
      omega (arith, both, full)

  -- a slot's entry goes; its tag becomes empty where its window has an empty one, and then there is room for one more
  pub table-freed : (tags : List ℕ) (slots zs : List (Option (Entry K V))) (full left i t more : ℕ) (e : Entry K V)
      → IsTable eq tags slots full left → at slots i ≡ Some e → zs ≡ slice_set slots i None
      → IsFree t → (IsEmpty t → (l : ℕ) × (l < length tags) × (l / 16 ≡ i / 16) × IsEmpty (slice_index tags l))
      → more ≡ left + bool_byte (t == 255)
      → IsTable eq (slice_set tags i t) zs (full - 1) more
  table-freed tags slots zs full left i t more e is here same free ends sum =
      let inside = at_within slots i e here in
      let within : i < length tags = omega (arith, inside, is.tagged.long) in
      let low = is.tagged.low i e here in
      let counts = empties-set tags i t within in
      let was = none_if (slice_index tags i) (λ empty. absurd (omega (arith, empty, low))) in
      let one_less = count-freed slots i e here in
      let byte = byte-is (t == 255) in
      subst (λ l. IsTable eq (slice_set tags i t) l (full - 1) more) (sym same)
      (record {
        distinct = distinct-freed slots i inside is.distinct;
        counted = omega (arith, one_less, is.counted);
        tagged = tagged-freed tags slots is.tagged i t within free ends;
        whole = whole-set tags i t is.whole;
        kept = omega (arith, is.kept, sum, byte, counts, was, length-set tags i t);
      })

  -- an entry goes into the first free slot on its way
  module _ (laws : IsEquivalence eq) (tags : List ℕ) (slots : List (Option (Entry K V))) (full left : ℕ)
      (is : IsTable eq tags slots full left) (e : Entry K V) (i t less : ℕ)
      (absent : slot_of eq slots e.hash e.key ≡ None) (within : i < length tags) (free : IsFree (slice_index tags i))
      (first : NoneBefore IsFree tags e.hash (i / 16))
      (tag : t ≡ tag_of e.hash) (low : t < 128) where
    pub put-free : at slots i ≡ None
    put-free = free-none tags slots i is.tagged free

    put-within : i < length slots
    put-within = omega (arith, within, is.tagged.long)

    pub table-put : 0 < left → less ≡ left - bool_byte (slice_index tags i == 255)
        → IsTable eq (slice_set tags i t) (slice_set slots i (Some e)) (full + 1) less
    table-put some sum =
        let counts = empties-set tags i t within in
        let now = none_if t (λ empty. absurd (omega (arith, empty, low))) in
        let one_more = count-set slots i e put-within put-free in
        let byte = byte-is (slice_index tags i == 255) in
        let most = at_most_one (slice_index tags i == 255) in
        record {
          distinct = AreDistinct-filled eq laws slots e is.distinct absent i put-within put-free;
          counted = omega (arith, one_more, is.counted);
          tagged = tagged-put tags slots is.tagged e i t within tag low first;
          whole = whole-set tags i t is.whole;
          kept = omega (arith, is.kept, some, sum, byte, most, counts, now, length-set tags i t);
        }

    pub adds-put : (old : Table K V) → record { slots = slots; room = full + left } ≡ old → left ≤ less + 1 → (room : ℕ)
        → room ≡ full + 1 + less → Adds eq old (record { slots = slice_set slots i (Some e); room = room }) e i
    adds-put old was fewer room sum =
        let ys = slice_set slots i (Some e) in
        let same : old.slots ≡ slots = sym (ap (λ (o : Table K V). o.slots) was) in
        let rooms : old.room ≡ full + left = sym (ap (λ (o : Table K V). o.room) was) in
        let placed = get_or-set_same slots i (Some e) None put-within in
        let stay : (j : ℕ) → j ≢ i → at ys j ≡ at slots j = λ j other. get_or-set_other slots i j (Some e) None other in
        let counted : count ys ≡ count old.slots + 1 = count-set slots i e put-within put-free
        ∙ ap (λ l. count l + 1) (sym same) in
        record {
          placed = placed;
          others = λ h k not. entry_of-added eq laws slots ys e i is.distinct absent put-free placed stay h k not
              ∙ ap (λ l. entry_of eq l h k) (sym same);
          counted = counted;
          left = omega (arith, counted, fewer, rooms, sum);
          in_place = λ _. (ap (λ l. at l i) same ∙ put-free, λ j other. stay j other ∙ ap (λ l. at l j) (sym same));
        }

  -- what is found has the hash, and an equal key
  pub found-equal : (xs : List (Option (Entry K V))) (h : ℕ) (k : K) (o : Option ℕ) → o ≡ slot_of eq xs h k
      → IfSome o (λ i. IfSome (at xs i) (λ e. (e.hash ≡ h) × IsTrue (eq e.key k)))
  found-equal xs h k None e = tt
  found-equal xs h k (Some i) e =
      let is = slot_of-is eq xs h k i (sym e) in
      let both = and_parts (nat_eq is.0.hash h) (eq is.0.key k) is.2 in
      subst (λ o. IfSome o (λ (d : Entry K V). (d.hash ≡ h) × IsTrue (eq d.key k))) (sym is.1)
      (eqb-true is.0.hash h both.0, both.1)

  -- a table is sound, since a list knows that its length is small
  pub IsSound-tagged : {A : Type 0} (tags : List ℕ) (v : Vec (Option (Entry K V)) A) (full left : ℕ)
      → IsTable eq tags v.items full left → IsSound eq (record { slots = v.items; room = full + left })
  IsSound-tagged tags v full left is = IsSound-table tags v.items full left is (omega (arith, v.ok.0, v.ok.1, v.small))

module _ {K V : Type 0} (eq : K → K → Bool) (tags : List ℕ) (slots : List (Option (Entry K V))) (full left : ℕ)
    (is : IsTable eq tags slots full left) (read : List ℕ) (same : read ≡ tags)
    (old : Table K V) (was : record { slots = slots; room = full + left } ≡ old) where
  pub has-room : 0 < left → count old.slots < old.room
  has-room some =
      let rooms : old.room ≡ full + left = sym (ap (λ (o : Table K V). o.room) was) in
      let counts : count old.slots ≡ count slots = sym (ap (λ (o : Table K V). count o.slots) was) in
      omega (arith, rooms, counts, is.counted, some)

  -- a table that was read as these tags, slots and room, and takes an entry that it doesn't find
  module _ (laws : IsEquivalence eq) (e : Entry K V) (absent : slot_of eq old.slots e.hash e.key ≡ None)
      (room : count old.slots < old.room) (i : ℕ) (place : IsPlace read e.hash i) (low : tag_of e.hash < 128)
      (empty : Bool) (was_empty : empty ≡ (slice_index tags i == 255)) (ts : List ℕ)
      (written : ts ≡ slice_set tags i (tag_of e.hash)) (zs : List (Option (Entry K V)))
      (put : zs ≡ slice_set slots i (Some e)) where
    put_some : 0 < left
    put_some =
        let rooms : old.room ≡ full + left = sym (ap (λ (o : Table K V). o.room) was) in
        let counts : count old.slots ≡ count slots = sym (ap (λ (o : Table K V). count o.slots) was) in
        omega (arith, rooms, counts, is.counted, room)

    was_absent : slot_of eq slots e.hash e.key ≡ None
    was_absent = ap (λ (o : Table K V). slot_of eq o.slots e.hash e.key) was ∙ absent

    was_place : IsPlace tags e.hash i
    was_place = subst (λ l. IsPlace l e.hash i) same place

    pub put-table : IsTable eq ts zs (full + 1) (left - bool_byte empty)
    put-table =
        subst (λ l. IsTable eq l zs (full + 1) (left - bool_byte empty)) (sym written)
        (subst (λ l. IsTable eq (slice_set tags i (tag_of e.hash)) l (full + 1) (left - bool_byte empty)) (sym put)
        (table-put eq laws tags slots full left is e i (tag_of e.hash) (left - bool_byte empty) was_absent
        was_place.within was_place.free was_place.first refl low put_some (ap (λ b. left - bool_byte b) was_empty)))

    pub put-adds : Adds eq old (record { slots = zs; room = full + 1 + (left - bool_byte empty) }) e i
    put-adds =
        subst (λ l. Adds eq old (record { slots = l; room = full + 1 + (left - bool_byte empty) }) e i) (sym put)
        (adds-put eq laws tags slots full left is e i (tag_of e.hash) (left - bool_byte empty) was_absent
        was_place.within was_place.free was_place.first refl low old was (omega (arith, byte-small empty))
        (full + 1 + (left - bool_byte empty)) refl)

  -- or whose slot's entry goes
  module _ (i t : ℕ) (e : Entry K V) (here : at slots i ≡ Some e) (free : IsFree t)
      (ends : IsEmpty t → (l : ℕ) × (l < length read) × (l / 16 ≡ i / 16) × IsEmpty (slice_index read l)) where
    pub freed-table : (ts : List ℕ) (zs : List (Option (Entry K V))) → ts ≡ slice_set tags i t
        → zs ≡ slice_set slots i None → IsTable eq ts zs (full - 1) (left + bool_byte (t == 255))
    freed-table ts zs written taken =
        subst (λ l. IsTable eq l zs (full - 1) (left + bool_byte (t == 255))) (sym written)
        (table-freed eq tags slots zs full left i t (left + bool_byte (t == 255)) e is here taken free
        (λ empty. let end = ends empty in (
          end.0,
          subst (λ l. end.0 < length l) same end.1,
          end.2,
          subst (λ l. IsEmpty (slice_index l end.0)) same
              end.3,
        )) refl)

pub table-fresh_is : (K V : Type 0) (eq : K → K → Bool) (tags : List ℕ) (slots : List (Option (Entry K V))) (n left : ℕ)
    → tags ≡ replicate n 255 → slots ≡ replicate n (no_entry K V) → left < n → (16 ≤ n → n % 16 ≡ 0)
    → IsTable eq tags slots 0 left
table-fresh_is K V eq tags slots n left ts xs less whole =
    subst (λ l. IsTable eq l slots 0 left) (sym ts)
    (subst (λ l. IsTable eq (replicate n 255) l 0 left) (sym xs) (table-fresh K V eq n left less whole))

-- a slot that is full is there
pub full-within : {K V : Type 0} (t : Table K V) (xs : List (Option (Entry K V))) (room i : ℕ)
    → record { slots = xs; room = room } ≡ t → IsSome (at t.slots i) → i < length xs
full-within t xs room i was some = elim (option_cases (at xs i)) [
  | inl none ↦
      let gone : at t.slots i ≡ None = ap (λ (o : Table _ _). at o.slots i) (sym was) ∙ none in
      absurd (nothing (at t.slots i) gone some)
  | inr full ↦ at_within xs i full.0 full.1
]
  where
    nothing : {X : Type 0} (o : Option X) → o ≡ None → IsSome o → ⊥
    nothing None e h = false≢true h
    nothing (Some x) e h = none-some x (sym e)

pub if-none : {X : Type 0} (o : Option X) (P : Type 0) → None ≡ o → P → IfNone o P
if-none o P none p = subst (λ x. IfNone x P) none p
