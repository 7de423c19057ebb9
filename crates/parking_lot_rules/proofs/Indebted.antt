-- Who is in debt: where it begins and ends, and that the debts are kept.
use Rattle.std.proofs.Common.{◌≡◌, ◌≢◌, ℕ, ⊎_elim, Bool, true, false, cond, List, [], ◌∷◌, ◌++◌, map, Some, option_map}
use Rattle.std.proofs.Common.{slice_get, slice_set, refl, sym, ap, ◌∙◌, subst, arith, eq-eqb}
use Rattle.std.proofs.lemmas.Bool.{cases_eq, ne_eqb}
use Rattle.std.proofs.lemmas.Option.{same_Some, slice_get-map}
use Rattle.parking_lot_rules.specs.Roles.{Mode, Shared, Exclusive, Upgradable, Shares, Stay, Fresh, Asleep, Late, Back}
use Rattle.parking_lot_rules.specs.Roles.{Mark, Open, Normal, Handed, Phase, Queued1, Taken1, Taken2, Queued2, Stored1}
use Rattle.parking_lot_rules.specs.Roles.{Scans2, Wakes, Role}
use Rattle.parking_lot_rules.specs.Classes.{inside}
use Rattle.parking_lot_rules.specs.Lock.{Lock, IsSound}
use Rattle.parking_lot_rules.specs.Plain.{Plain, ExpireTaken1, ReenterTaken1, Depart1, Depart2, Yield, YieldBack}
use Rattle.parking_lot_rules.specs.Plain.{Downgrade, DowngradeToUpgradable, DowngradeUpgradable, from, to}
use Rattle.parking_lot_rules.specs.Steps.{Step, Alone, List_changes, Take1, Take2, Store, Wake, Pass, Allowed, after}
use Rattle.parking_lot_rules.specs.Steps.{Listing, Join1, listing_from, listing_to, Scan, scanning, taking, Ending}
use Rattle.parking_lot_rules.specs.Steps.{Free, FreeUpgradable, Hand, HandUpgradable, Keep, ends_saying, settle, told}
use Rattle.parking_lot_rules.specs.Steps.{Waking, Retry, Own, OwnPending, OwnUpgradable, Recheck, waking_from}
use Rattle.parking_lot_rules.specs.Steps.{waking_to}
use Rattle.parking_lot_rules.specs.Debts.{is_inside, is_up, owes_section, still_tries, and_up, retries, DebtChange}
use Rattle.parking_lot_rules.specs.Debts.{Remains, turned, begins_if, ends_without, owing, retrying, waking, handing}
use Rattle.parking_lot_rules.specs.Debts.{where_same, retrying_other, DebtsAreBooked}
use Rattle.parking_lot_rules.proofs.Indexed.{get-set_same, get-set_other, two_apart}

plain_owes : (k : Plain) → owes_section (to k).does ≡ turned (owing (Alone k)) (owes_section (from k).does)
plain_owes (Yield true) = refl
plain_owes (Yield false) = refl
plain_owes (YieldBack true) = refl
plain_owes (YieldBack false) = refl
plain_owes (Downgrade true) = refl
plain_owes (Downgrade false) = refl
plain_owes (DowngradeToUpgradable true) = refl
plain_owes (DowngradeToUpgradable false) = refl
plain_owes (DowngradeUpgradable true) = refl
plain_owes (DowngradeUpgradable false) = refl
plain_owes (Depart1 o []) = refl
plain_owes (Depart1 o (v ∷ us)) = refl
plain_owes (Depart2 n []) = refl
plain_owes (Depart2 n (v ∷ us)) = refl
plain_owes k = refl

pub late : (b : Bool) → and_up b Late ≡ turned (begins_if b) (and_up b Asleep)
late true = refl
late false = refl

pub back : (b : Bool) → and_up b Back ≡ and_up b Late
back true = refl
back false = refl

plain_retries : (k : Plain) → retries (to k).does ≡ turned (retrying (Alone k)) (retries (from k).does)
plain_retries (ExpireTaken1 m by how) = late (still_tries m how)
plain_retries (ReenterTaken1 m by how) = back (still_tries m how)
plain_retries (Yield true) = refl
plain_retries (Yield false) = refl
plain_retries (YieldBack true) = refl
plain_retries (YieldBack false) = refl
plain_retries (Downgrade true) = refl
plain_retries (Downgrade false) = refl
plain_retries (DowngradeToUpgradable true) = refl
plain_retries (DowngradeToUpgradable false) = refl
plain_retries (DowngradeUpgradable true) = refl
plain_retries (DowngradeUpgradable false) = refl
plain_retries k = refl

listing_owes : (k : Listing) → (owes_section (listing_to k).does ≡ owes_section (listing_from k).does)
    × (retries (listing_to k).does ≡ retries (listing_from k).does)
listing_owes (Join1 m) = (refl, refl)
listing_owes k = (refl, refl)

wakes_owe : (v : ℕ) (us : List ℕ) → owes_section (Wakes us) ≡ turned (ends_without us) (owes_section (Wakes (v ∷ us)))
wakes_owe v [] = refl
wakes_owe v (x ∷ us) = refl

pass_owes : (ws : List ℕ) (v : ℕ) (us : List ℕ) → owes_section (Wakes (ws ++ us)) ≡ turned (ends_without (ws ++ us))
    (owes_section (Wakes (ws ++ v ∷ us)))
pass_owes [] v us = wakes_owe v us
pass_owes (w ∷ ws) v us = refl

pub taken_up : (stay : Stay) → is_up stay ≡ turned (begins_if (is_up stay)) false
taken_up Fresh = refl
taken_up Asleep = refl
taken_up Late = refl
taken_up Back = refl

pub out_of_it : (stay : Stay) → inside stay ≡ 0 → is_inside stay ≡ false
out_of_it Fresh out = absurd (omega (arith, out))
out_of_it Asleep out = refl
out_of_it Late out = refl
out_of_it Back out = absurd (omega (arith, out))

woken_owes : (k : Waking) (t : ℕ) (stay : Stay) → inside stay ≡ 0 → owes_section (waking_to k).does ≡ owes_section
    (waking_from k t stay).does
woken_owes (Retry m) t stay out = sym (out_of_it stay out)
woken_owes Own t stay out = sym (out_of_it stay out)
woken_owes OwnPending t stay out = sym (out_of_it stay out)
woken_owes OwnUpgradable t stay out = sym (out_of_it stay out)
woken_owes (Recheck f) t stay out = sym (out_of_it stay out)

woken_retries : (k : Waking) (t : ℕ) (stay : Stay) → retries (waking_to k).does ≡ turned (waking k)
    (retries (waking_from k t stay).does)
woken_retries (Retry m) t stay = refl
woken_retries Own t stay = refl
woken_retries OwnPending t stay = refl
woken_retries OwnUpgradable t stay = refl
woken_retries (Recheck f) t stay = refl

-- telling those that were taken
told_owes : (h : Mark) (p : Phase) → owes_section (told h p) ≡ owes_section p
told_owes h (Taken1 m by Open s) = refl
told_owes h p = refl

told_retries : (p : Phase) → retries (told Normal p) ≡ retries p
told_retries (Taken1 m by Open s) = refl
told_retries p = refl

handed_retries : (p : Phase) → retries (told Handed p) ≡ turned (handing p) (retries p)
handed_retries (Taken1 Shared by Open s) = refl
handed_retries (Taken1 Exclusive by Open s) = refl
handed_retries (Taken1 Upgradable by Open s) = refl
handed_retries (Taken1 Shared by Normal s) = refl
handed_retries (Taken1 Exclusive by Normal s) = refl
handed_retries (Taken1 Upgradable by Normal s) = refl
handed_retries (Taken1 Shared by Handed s) = refl
handed_retries (Taken1 Exclusive by Handed s) = refl
handed_retries (Taken1 Upgradable by Handed s) = refl
handed_retries p = refl

stored_retries : (e : Ending) (s : Scan) (u : ℕ) (p : Phase) → retries (told (ends_saying e) p) ≡ turned
    (retrying_other (Store e s) u p) (retries p)
stored_retries Free s u p = told_retries p
stored_retries FreeUpgradable s u p = told_retries p
stored_retries Hand s u p = handed_retries p
stored_retries HandUpgradable s u p = handed_retries p
stored_retries Keep s u p = told_retries p

-- what is the same for two roles
abbrev Same : (Phase → Bool) → DebtChange → Role → Role → Type 0
Same f turn a b = f b.does ≡ turned turn (f a.does)

-- the role that a thread has after the step is the one that was written, and before it the one that was there
moved : (rs : List Role) (t : ℕ) (x y a b : Role) (P : Role → Role → Type 0) → slice_get rs t ≡ Some x
    → slice_get rs t ≡ Some a → slice_get (slice_set rs t y) t ≡ Some b → P x y → P a b
moved rs t x y a b P at here there h =
    subst (λ (r : Role). P r b) (same_Some x a (sym at ∙ here))
    (subst (λ (r : Role). P x r) (same_Some y b (sym (get-set_same rs t x y at) ∙ there)) h)

abbrev Both : DebtChange → DebtChange → Role → Role → Type 0
Both owes tries a b = Same owes_section owes a b × Same retries tries a b

pub where-same : (u v : ℕ) (turn : DebtChange) → u ≡ v → where_same u v turn ≡ turn
where-same u v turn e = ap (λ b. cond b turn Remains) (eq-eqb u v e)

pub where-other : (u v : ℕ) (turn : DebtChange) → u ≢ v → where_same u v turn ≡ Remains
where-other u v turn ne = ap (λ b. cond b turn Remains) (ne_eqb u v ne)

unmoved : (turn : DebtChange) (a b : Role) → turn ≡ Remains → a ≡ b → Both Remains turn a b
unmoved turn a b still same = (
  ap (λ (r : Role). owes_section r.does) (sym same),
  ap (λ (r : Role). retries r.does) (sym same)
      ∙ ap (λ k. turned k (retries a.does)) (sym still),
)

module _ (recursive : Bool) (t : ℕ) (l : Lock) where
  abbrev set_both : ℕ → Role → ℕ → Role → List Role
  set_both i x j y = slice_set (slice_set l.roles i x) j y

  first_of_two : (i j : ℕ) (a x y b : Role) → i ≢ j → slice_get l.roles i ≡ Some a
      → slice_get (set_both i x j y) i ≡ Some b → x ≡ b
  first_of_two i j a x y b ne at there =
      same_Some x b (sym (get-set_other (slice_set l.roles i x) j i y (λ e. ne (sym e)) ∙ get-set_same l.roles i a x at)
      ∙ there)

  second_of_two : (i j : ℕ) (x c y b : Role) → i ≢ j → slice_get l.roles j ≡ Some c
      → slice_get (set_both i x j y) j ≡ Some b → y ≡ b
  second_of_two i j x c y b ne at there =
      same_Some y b (sym (get-set_same (slice_set l.roles i x) j c y (get-set_other l.roles i j x ne ∙ at)) ∙ there)

  neither_of_two : (i j u : ℕ) (x y a b : Role) → u ≢ i → u ≢ j → slice_get l.roles u ≡ Some a
      → slice_get (set_both i x j y) u ≡ Some b → a ≡ b
  neither_of_two i j u x y a b ni nj here there =
      same_Some a b (sym here
      ∙ sym (get-set_other (slice_set l.roles i x) j u y (λ e. nj (sym e))
      ∙ get-set_other l.roles i u x (λ e. ni (sym e))) ∙ there)

  neither_of_one : (i u : ℕ) (x a b : Role) → u ≢ i → slice_get l.roles u ≡ Some a
      → slice_get (slice_set l.roles i x) u ≡ Some b → a ≡ b
  neither_of_one i u x a b ni here there =
      same_Some a b (sym here ∙ sym (get-set_other l.roles i u x (λ e. ni (sym e))) ∙ there)

  -- the thread before the step
  before : (x a : Role) → slice_get l.roles t ≡ Some x → slice_get l.roles t ≡ Some a → x ≡ a
  before x a at here = same_Some x a (sym at ∙ here)

  mover_booked : (step : Step) → Allowed recursive t step l → (a b : Role) → slice_get l.roles t ≡ Some a
      → slice_get (after t step l).roles t ≡ Some b → Both (owing step) (retrying step) a b
  mover_booked (Alone k) may a b here there = moved l.roles t (from k) (to k) a b
      (Both (owing (Alone k)) (retrying (Alone k))) may.0 here there (plain_owes k, plain_retries k)
  mover_booked (List_changes k) may a b here there = moved l.roles t (listing_from k) (listing_to k) a b
      (Both Remains Remains) may.0 here there (listing_owes k)
  mover_booked (Take1 s i v m stay) may a b here there =
      subst (λ (r : Role). Both Remains Remains r b) (before (scanning s) a may.0 here)
      (subst (λ (r : Role). Both Remains Remains (scanning s) r)
      (first_of_two t v (scanning s) (scanning (taking s v m)) _ b
      (two_apart (λ (r : Role). r.does) l.roles t v (scanning s) _ may.0 may.1.role (λ e. cc)) may.0 there) (go m))
    where
      go : (m : Mode) → Both Remains Remains (scanning s) (scanning (taking s v m))
      go Shared = (refl, refl)
      go Exclusive = (refl, refl)
      go Upgradable = (refl, refl)
  mover_booked (Take2 o v f stay) may a b here there =
      subst (λ (r : Role). Both Remains Remains r b) (before (record { owns = o; does = Scans2 [] }) a may.0 here)
      (subst (λ (r : Role). Both Remains Remains (record { owns = o; does = Scans2 [] }) r)
      (first_of_two t v (record { owns = o; does = Scans2 [] }) (record { owns = o; does = Scans2 (v ∷ []) }) _ b
      (two_apart (λ (r : Role). r.does) l.roles t v (record { owns = o; does = Scans2 [] }) _ may.0 may.2 (λ e. cc))
      may.0 there) (refl, refl))
  mover_booked (Store e s) may a b here there =
      subst (λ (r : Role). Both Remains Remains r b) (before (scanning s) a may.0 here)
      (subst (λ (r : Role). Both Remains Remains (scanning s) r)
      (same_Some _ b (sym
      (get-set_same (map (settle (ends_saying e)) l.roles) t (settle (ends_saying e) (scanning s))
      (record { owns = s.owns; does = Stored1 s.taken })
      (slice_get-map (settle (ends_saying e)) l.roles t ∙ ap (option_map (settle (ends_saying e))) may.0)) ∙ there))
      (refl, refl))
  mover_booked (Wake o v us k stay) may a b here there =
      subst (λ (r : Role). Both (ends_without us) Remains r b)
      (before (record { owns = o; does = Wakes (v ∷ us) }) a may.0 here)
      (subst (λ (r : Role). Both (ends_without us) Remains (record { owns = o; does = Wakes (v ∷ us) }) r)
      (second_of_two v t (waking_to k) (record { owns = o; does = Wakes (v ∷ us) })
      (record { owns = o; does = Wakes us }) b (apart k may) may.0 there) (wakes_owe v us, refl))
    where
      apart : (k : Waking) → Allowed recursive t (Wake o v us k stay) l → v ≢ t
      apart (Retry m) may e = two_apart (λ (r : Role). r.does) l.roles t v _ _ may.0 may.1 (λ x. cc) (sym e)
      apart Own may e = two_apart (λ (r : Role). r.does) l.roles t v _ _ may.0 may.1 (λ x. cc) (sym e)
      apart OwnPending may e = two_apart (λ (r : Role). r.does) l.roles t v _ _ may.0 may.1 (λ x. cc) (sym e)
      apart OwnUpgradable may e = two_apart (λ (r : Role). r.does) l.roles t v _ _ may.0 may.1 (λ x. cc) (sym e)
      apart (Recheck f) may e = two_apart (λ (r : Role). r.does) l.roles t v _ _ may.0 may.1 (λ x. cc) (sym e)
  mover_booked (Pass o ws v us) may a b here there =
      moved l.roles t (record { owns = o; does = Wakes (ws ++ v ∷ us) }) (record { owns = o; does = Wakes (ws ++ us) })
      a b (Both (ends_without (ws ++ us)) Remains) may.0 here there (pass_owes ws v us, refl)

  others_booked : (step : Step) → Allowed recursive t step l → (u : ℕ) (a b : Role) → u ≢ t
      → slice_get l.roles u ≡ Some a → slice_get (after t step l).roles u ≡ Some b
      → Both Remains (retrying_other step u a.does) a b
  others_booked (Alone k) may u a b ne here there =
      unmoved Remains a b refl (neither_of_one t u (to k) a b ne here there)
  others_booked (List_changes k) may u a b ne here there =
      unmoved Remains a b refl (neither_of_one t u (listing_to k) a b ne here there)
  others_booked (Take1 s i v m stay) may u a b ne here there = ⊎_elim
      (λ e.
      let was : record { owns = Shares 0; does = Queued1 m stay } ≡ a =
      same_Some _ a (sym may.1.role ∙ ap (λ j. slice_get l.roles j) (sym e) ∙ here) in
      let now : record { owns = Shares 0; does = Taken1 m t Open stay } ≡ b =
      second_of_two t v (scanning (taking s v m)) (record { owns = Shares 0; does = Queued1 m stay }) _ b
      (λ x. ne (e ∙ sym x)) may.1.role (ap (λ j. slice_get (after t (Take1 s i v m stay) l).roles j) (sym e) ∙ there) in
      subst (λ (r : Role). Both Remains (where_same u v (begins_if (is_up stay))) r b) was
      (subst (λ (r : Role). Both Remains (where_same u v (begins_if (is_up stay)))
      (record { owns = Shares 0; does = Queued1 m stay }) r) now
      (refl, taken_up stay ∙ ap (λ k. turned k false) (sym (where-same u v (begins_if (is_up stay)) e)))))
      (λ other. unmoved (where_same u v (begins_if (is_up stay))) a b (where-other u v _ other)
      (neither_of_two t v u _ _ a b ne other here there))
      (cases_eq u v)
  others_booked (Take2 o v f stay) may u a b ne here there = ⊎_elim
      (λ e.
      let was : record { owns = Shares 0; does = Queued2 f stay } ≡ a =
      same_Some _ a (sym may.2 ∙ ap (λ j. slice_get l.roles j) (sym e) ∙ here) in
      let now : record { owns = Shares 0; does = Taken2 f t stay } ≡ b =
      second_of_two t v (record { owns = o; does = Scans2 (v ∷ []) })
      (record { owns = Shares 0; does = Queued2 f stay }) _ b
      (λ x. ne (e ∙ sym x)) may.2 (ap (λ j. slice_get (after t (Take2 o v f stay) l).roles j) (sym e) ∙ there) in
      subst (λ (r : Role). Both Remains (where_same u v (begins_if (is_up stay))) r b) was
      (subst (λ (r : Role). Both Remains (where_same u v (begins_if (is_up stay)))
      (record { owns = Shares 0; does = Queued2 f stay }) r) now
      (refl, taken_up stay ∙ ap (λ k. turned k false) (sym (where-same u v (begins_if (is_up stay)) e)))))
      (λ other. unmoved (where_same u v (begins_if (is_up stay))) a b (where-other u v _ other)
      (neither_of_two t v u _ _ a b ne other here there))
      (cases_eq u v)
  others_booked (Store e s) may u a b ne here there =
      let now : settle (ends_saying e) a ≡ b = same_Some _ b
      (sym (get-set_other (map (settle (ends_saying e)) l.roles) t u (record { owns = s.owns; does = Stored1 s.taken })
      (λ x. ne (sym x)) ∙ slice_get-map (settle (ends_saying e)) l.roles u
      ∙ ap (option_map (settle (ends_saying e))) here) ∙ there) in
      subst (λ (r : Role). Both Remains (retrying_other (Store e s) u a.does) a r) now
      (told_owes (ends_saying e) a.does, stored_retries e s u a.does)
  others_booked (Wake o v us k stay) may u a b ne here there = ⊎_elim
      (λ e.
      let was : waking_from k t stay ≡ a = same_Some _ a (sym may.1 ∙ ap (λ j. slice_get l.roles j) (sym e) ∙ here) in
      let now : waking_to k ≡ b = first_of_two v t (waking_from k t stay) (waking_to k)
      (record { owns = o; does = Wakes us }) b (λ x. ne (e ∙ x)) may.1
      (ap (λ j. slice_get (after t (Wake o v us k stay) l).roles j) (sym e) ∙ there) in
      subst (λ (r : Role). Both Remains (where_same u v (waking k)) r b) was
      (subst (λ (r : Role). Both Remains (where_same u v (waking k)) (waking_from k t stay) r) now (
        woken_owes k t stay may.2,
        woken_retries k t stay ∙ ap (λ x. turned x (retries (waking_from k t stay).does))
            (sym (where-same u v (waking k) e)),
      )))
      (λ other. unmoved (where_same u v (waking k)) a b (where-other u v _ other)
      (neither_of_two v t u _ _ a b other ne here there))
      (cases_eq u v)
  others_booked (Pass o ws v us) may u a b ne here there =
      unmoved Remains a b refl (neither_of_one t u (record { owns = o; does = Wakes (ws ++ us) }) a b ne here there)

pub debts_are_booked : (recursive : Bool) (t : ℕ) (step : Step) (l : Lock) → IsSound l → Allowed recursive t step l
    → DebtsAreBooked recursive t step l (after t step l)
debts_are_booked recursive t step l sound may =
    record { mover = mover_booked recursive t l step may; others = others_booked recursive t l step may }
