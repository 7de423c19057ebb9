-- Those that were taken are told what their taker stored.
use Rattle.std.proofs.Common.{◌≡◌, ℕ, ◌+◌, ◌<◌, ◌≤◌, ◌⊎◌, ⊎_elim, Bool, true, List, [], ◌∷◌, map, Option, Some, None}
use Rattle.std.proofs.Common.{option_map, slice_get, slice_set, refl, sym, ap, ◌∙◌, inl, inr, arith}
use Rattle.std.proofs.lemmas.Bool.{cases_eq}
use Rattle.std.proofs.lemmas.Option.{none-some, same_Some, slice_get-map}
use Rattle.std.proofs.lemmas.List.Sums.{sum_by-cons}
use Rattle.parking_lot_rules.specs.Roles.{Mode, Shared, Exclusive, Upgradable, Owned, Stay, Asleep, Mark, Open, Normal}
use Rattle.parking_lot_rules.specs.Roles.{Handed, Cause, Phase, Taken1, Taken2, Scans1, Role, away}
use Rattle.parking_lot_rules.specs.Classes.{Class, Readers, Inside1, Called, OpenReaders, OpenUpgraders, OpenWriters}
use Rattle.parking_lot_rules.specs.Classes.{weight, total, weighs, called, is_exclusive, is_upgradable}
use Rattle.parking_lot_rules.specs.Lists.{occurs}
use Rattle.parking_lot_rules.specs.Lock.{Note, On1, On2, note_of, to_wake, Lists}
use Rattle.parking_lot_rules.specs.Steps.{told, settle, settled}
use Rattle.parking_lot_rules.proofs.Indexed.{get-set_other}
use Rattle.parking_lot_rules.proofs.Totals.{total-at, same_counts}

-- what a taker says in the end
pub data IsSaid : Mark → Type 0 where
  normal : IsSaid Normal
  handed : IsSaid Handed

more_than_shared : (m : Mode) → called true m ≡ is_upgradable m + is_exclusive m
more_than_shared Shared = refl
more_than_shared Exclusive = refl
more_than_shared Upgradable = refl

-- one that waits to be told
normal_weighs : (c : Class) (o : Owned) (m : Mode) (by : ℕ) (s : Stay)
    → weight c (record { owns = o; does = Taken1 m by Normal s }) ≡ settled Normal
    (λ x. weight x (record { owns = o; does = Taken1 m by Open s })) c
unfolding weight
normal_weighs Called o m by s = omega (arith, more_than_shared m)
normal_weighs c o m by s = omega arith

handed_weighs : (c : Class) (o : Owned) (m : Mode) (by : ℕ) (s : Stay)
    → weight c (record { owns = o; does = Taken1 m by Handed s }) ≡ settled Handed
    (λ x. weight x (record { owns = o; does = Taken1 m by Open s })) c
unfolding weight
handed_weighs Readers o m by s = omega arith
handed_weighs c o m by s = omega arith

-- any other stays
pub record IsTold (h : Mark) (p : Phase) : Type 0 where
  pub same : told h p ≡ p
  pub readers : (o : Owned) → weight OpenReaders (record { owns = o; does = p }) ≡ 0
  pub upgraders : (o : Owned) → weight OpenUpgraders (record { owns = o; does = p }) ≡ 0
  pub writers : (o : Owned) → weight OpenWriters (record { owns = o; does = p }) ≡ 0

pub told_cases : (h : Mark) (p : Phase) → ((m : Mode) × (by : ℕ) × (s : Stay) × (p ≡ Taken1 m by Open s)) ⊎ IsTold h p
unfolding weight
told_cases h (Taken1 m by Open s) = inl (m, by, s, refl)
told_cases h p = inr (record { same = refl; readers = λ o. refl; upgraders = λ o. refl; writers = λ o. refl })

normal_none : (n : Class → ℕ) (c : Class) → n OpenReaders ≡ 0 → n OpenUpgraders ≡ 0 → n OpenWriters ≡ 0
    → n c ≡ settled Normal n c
normal_none n Called r u w = omega arith
normal_none n c r u w = omega arith

handed_none : (n : Class → ℕ) (c : Class) → n OpenReaders ≡ 0 → n OpenUpgraders ≡ 0 → n OpenWriters ≡ 0
    → n c ≡ settled Handed n c
handed_none n Readers r u w = omega arith
handed_none n c r u w = omega arith

pub settle_weighs : (h : Mark) → IsSaid h → (c : Class) (o : Owned) (p : Phase)
    → weight c (record { owns = o; does = told h p }) ≡ settled h (λ x. weight x (record { owns = o; does = p })) c
settle_weighs Open said c o p = elim said [ ]
settle_weighs Normal normal c o p = ⊎_elim
    (λ e. rw e.3 (normal_weighs c o e.0 e.1 e.2))
    (λ e. ap (λ x. weight c (record { owns = o; does = x })) e.same
    ∙ normal_none (λ x. weight x (record { owns = o; does = p })) c (e.readers o) (e.upgraders o) (e.writers o))
    (told_cases Normal p)
settle_weighs Handed handed c o p = ⊎_elim
    (λ e. rw e.3 (handed_weighs c o e.0 e.1 e.2))
    (λ e. ap (λ x. weight c (record { owns = o; does = x })) e.same
    ∙ handed_none (λ x. weight x (record { owns = o; does = p })) c (e.readers o) (e.upgraders o) (e.writers o))
    (told_cases Handed p)

normal_adds : (m n : Class → ℕ) (c : Class) → settled Normal m c + settled Normal n c ≡ settled Normal (λ x. m x + n x)
    c
normal_adds m n Called = omega arith
normal_adds m n c = omega arith

handed_adds : (m n : Class → ℕ) (c : Class) → settled Handed m c + settled Handed n c ≡ settled Handed (λ x. m x + n x)
    c
handed_adds m n Readers = omega arith
handed_adds m n c = omega arith

settled_adds : (h : Mark) → IsSaid h → (m n : Class → ℕ) (c : Class) → settled h m c + settled h n c ≡ settled h
    (λ x. m x + n x) c
settled_adds Open said m n c = elim said [ ]
settled_adds Normal normal m n c = normal_adds m n c
settled_adds Handed handed m n c = handed_adds m n c

-- the totals, once all are told
pub total-settle : (h : Mark) → IsSaid h → (rs : List Role) (c : Class) → total c (map (settle h) rs) ≡ settled h
    (λ x. total x rs) c
total-settle Open said [] c = elim said [ ]
total-settle Normal normal [] Called = refl
total-settle Normal normal [] c = refl
total-settle Handed handed [] Readers = refl
total-settle Handed handed [] c = refl
total-settle h said (r ∷ rs) c =
    same_counts (λ n. total c (map (settle h) (r ∷ rs)) ≡ settled h n c) (λ x. weight x r + total x rs)
    (λ x. total x (r ∷ rs)) (λ x. sym (sum_by-cons (weight x) r rs))
    (sum_by-cons (weight c) (settle h r) (map (settle h) rs)
    ∙ (ap (λ k. k + total c (map (settle h) rs)) (settle_weighs h said c r.owns r.does)
    ∙ (ap (λ k. settled h (λ x. weight x r) c + k) (total-settle h said rs c) ∙ settled_adds h said (λ x. weight x r)
    (λ x. total x rs) c)))

-- the lists stay
pub waiting-settle : (h : Mark) → IsSaid h → (c : Class) → ((n : Class → ℕ) → settled h n c ≡ n c)
    → (q : List ℕ) (rs : List Role) → Lists c q rs → Lists c q (map (settle h) rs)
waiting-settle h said c same q rs lists = record {
  count = lists.count ∙ sym (total-settle h said rs c ∙ same (λ x. total x rs));
  each = λ u. lists.each u ∙ sym (ap (weighs c) (slice_get-map (settle h) rs u) ∙ one (slice_get rs u));
}
  where
    one : (r : Option Role) → weighs c (option_map (settle h) r) ≡ weighs c r
    one None = refl
    one (Some r) = settle_weighs h said c r.owns r.does ∙ same (λ x. weight x r)

-- who is inside a section alone
pub one_inside : (c : Class) (rs : List Role) → total c rs ≤ 1 → (t u : ℕ) (a b : Role) → slice_get rs t ≡ Some a
    → slice_get rs u ≡ Some b → weight c a ≡ 1 → weight c b ≡ 1 → u ≡ t
one_inside c rs few t u a b at there wa wb = ⊎_elim
    (λ e. e)
    (λ ne.
    let still : slice_get (slice_set rs t away) u ≡ Some b = get-set_other rs t u away (λ e. ne (sym e)) ∙ there in
    absurd (omega (arith, few, total-at rs t a at c, total-at (slice_set rs t away) u b still c, wa, wb)))
    (cases_eq u t)

-- who has taken others and hasn't stored is inside a section
pub open_inside : (o : Owned) (p : Phase) (u : ℕ) → 0 < occurs u (to_wake p (On1 Open))
    → weight Inside1 (record { owns = o; does = p }) ≡ 1
unfolding weight
open_inside o (Scans1 c r x w us) u some = refl
open_inside o p u some = absurd (omega arith)

pub told_wakes : (h : Mark) (p : Phase) (note : Note) → to_wake (told h p) note ≡ to_wake p note
told_wakes h (Taken1 m by Open s) note = refl
told_wakes h p note = refl

-- what a thread waits for after the store: for its taker's wake, if it was the one that stored or had stored before
pub told_note : (h : Mark) → IsSaid h → (p : Phase) (by : ℕ) (note : Note) → note_of (told h p) ≡ Some (by, note)
    → ((note_of p ≡ Some (by, On1 Open)) × (note ≡ On1 h))
    ⊎ ((note_of p ≡ Some (by, note))
    × ((r : Cause) (n : ℕ) (x w : Bool) (us : List ℕ) → to_wake (Scans1 r n x w us) note ≡ []))
told_note Open said p by note took = elim said [ ]
told_note Normal normal (Taken1 m b Open Asleep) by note took =
    let e : (b, On1 Normal) ≡ (by, note) = same_Some _ _ took in
    inl (ap (λ (x : ℕ × Note). Some (x.0, On1 Open)) e, sym (ap (λ (x : ℕ × Note). x.1) e))
told_note Handed handed (Taken1 m b Open Asleep) by note took =
    let e : (b, On1 Handed) ≡ (by, note) = same_Some _ _ took in
    inl (ap (λ (x : ℕ × Note). Some (x.0, On1 Open)) e, sym (ap (λ (x : ℕ × Note). x.1) e))
told_note h said (Taken1 m b Normal Asleep) by On2 took =
    absurd (let e : On1 Normal ≡ On2 = ap (λ (x : ℕ × Note). x.1) (same_Some _ _ took) in cc)
told_note h said (Taken1 m b Normal Asleep) by (On1 Open) took =
    absurd (let e : On1 Normal ≡ (On1 Open) = ap (λ (x : ℕ × Note). x.1) (same_Some _ _ took) in cc)
told_note h said (Taken1 m b Normal Asleep) by (On1 Normal) took = inr (took, λ r n x w us. refl)
told_note h said (Taken1 m b Normal Asleep) by (On1 Handed) took = inr (took, λ r n x w us. refl)
told_note h said (Taken1 m b Handed Asleep) by On2 took =
    absurd (let e : On1 Handed ≡ On2 = ap (λ (x : ℕ × Note). x.1) (same_Some _ _ took) in cc)
told_note h said (Taken1 m b Handed Asleep) by (On1 Open) took =
    absurd (let e : On1 Handed ≡ (On1 Open) = ap (λ (x : ℕ × Note). x.1) (same_Some _ _ took) in cc)
told_note h said (Taken1 m b Handed Asleep) by (On1 Normal) took = inr (took, λ r n x w us. refl)
told_note h said (Taken1 m b Handed Asleep) by (On1 Handed) took = inr (took, λ r n x w us. refl)
told_note h said (Taken2 f b Asleep) by On2 took = inr (took, λ r n x w us. refl)
told_note h said (Taken2 f b Asleep) by (On1 mark) took =
    absurd (let e : On2 ≡ On1 mark = ap (λ (x : ℕ × Note). x.1) (same_Some _ _ took) in cc)
told_note h said p by note took = absurd (none-some (by, note) took)
