-- Steps that change a list or a second role keep a lock sound.
use Rattle.std.proofs.Common.{◌≡◌, ◌≢◌, ℕ, ◌+◌, ◌≤◌, ◌⊎◌, Bool, List, [], ◌∷◌, ◌++◌, length, remove, Some, None}
use Rattle.std.proofs.Common.{slice_get, slice_set, refl, sym, ap, ◌∙◌, subst, inl, inr, arith}
use Rattle.std.proofs.lemmas.Option.{none-some, same_Some}
use Rattle.parking_lot_rules.specs.Roles.{Mode, Shared, Exclusive, Upgradable, Owned, Shares, Stay, Fresh, Asleep, Late}
use Rattle.parking_lot_rules.specs.Roles.{Back, Open, Normal, Handed, Queued1, Taken1, Queued2, Taken2, Scans2, Wakes}
use Rattle.parking_lot_rules.specs.Roles.{Role, away}
use Rattle.parking_lot_rules.specs.Classes.{Class, Waiting1, Waiting2, weight, total, inside}
use Rattle.parking_lot_rules.specs.Clauses.{Word, Fits}
use Rattle.parking_lot_rules.specs.Lists.{occurs}
use Rattle.parking_lot_rules.specs.Lock.{role_note, role_wakes, Note, On1, On2, note_of, to_wake, Lists, Sound}
use Rattle.parking_lot_rules.specs.Steps.{Listing, Join1, Join2, Quit1, QuitLast1, Quit2, listing_from, listing_to}
use Rattle.parking_lot_rules.specs.Steps.{MayList, first_after, second_after, Scan, scanning, taking, MayTake, Waking}
use Rattle.parking_lot_rules.specs.Steps.{Retry, Own, OwnPending, OwnUpgradable, Recheck, waking_from, waking_to}
use Rattle.parking_lot_rules.proofs.Indexed.{get-set_same, get-set_other, get-set_cases, sum_by-set_at}
use Rattle.parking_lot_rules.proofs.Totals.{counts_all, total-at, same_counts, away_weighs}
use Rattle.parking_lot_rules.proofs.Fitting as fitting
use Rattle.parking_lot_rules.proofs.Waiting.{lists-same, lists-push, lists-drop, occurs-push, occurs-cons}
use Rattle.parking_lot_rules.proofs.Waiting.{occurs-without, counted-same}
use Rattle.parking_lot_rules.proofs.Noting.{noted-set, WillWake}
use Rattle.parking_lot_rules.proofs.Alone.{fits-set}

nothing_noted : (b : Role) (P : ℕ → Note → Type 0) → note_of b.does ≡ None → (by : ℕ) (note : Note)
    → note_of b.does ≡ Some (by, note) → P by note
nothing_noted b P none by note took = absurd (none-some (by, note) (sym none ∙ took))

may_count : (k : Listing) (t : ℕ) (first second : List ℕ) (n : ℕ) → length first ≡ n → MayList k t first second
    → fitting.MayCount k n
may_count (Join1 f) t first second n e may = tt
may_count (Join2 f) t first second n e may = tt
may_count (Quit1 f i) t first second n e may = omega arith
may_count (QuitLast1 f i) t first second n e may = omega arith
may_count (Quit2 f i) t first second n e may = tt

listing_note : (k : Listing) → note_of (listing_to k).does ≡ None
listing_note (Join1 f) = refl
listing_note _ = refl

listing_wakes : (k : Listing) (note : Note) → to_wake (listing_from k).does note ≡ to_wake (listing_to k).does note
listing_wakes (Join1 f) note = refl
listing_wakes _ note = refl

waking_waits1 : (k : Waking) (t : ℕ) (stay : Stay) → weight Waiting1 (waking_to k) ≡ weight Waiting1
    (waking_from k t stay)
unfolding weight
waking_waits1 (Retry m) t stay = refl
waking_waits1 Own t stay = refl
waking_waits1 OwnPending t stay = refl
waking_waits1 OwnUpgradable t stay = refl
waking_waits1 (Recheck f) t stay = refl

waking_waits2 : (k : Waking) (t : ℕ) (stay : Stay) → weight Waiting2 (waking_to k) ≡ weight Waiting2
    (waking_from k t stay)
unfolding weight
waking_waits2 (Retry m) t stay = refl
waking_waits2 Own t stay = refl
waking_waits2 OwnPending t stay = refl
waking_waits2 OwnUpgradable t stay = refl
waking_waits2 (Recheck f) t stay = refl

pub waking_note : (k : Waking) → note_of (waking_to k).does ≡ None
waking_note (Retry m) = refl
waking_note Own = refl
waking_note OwnPending = refl
waking_note OwnUpgradable = refl
waking_note (Recheck f) = refl

waking_wakes : (k : Waking) (t : ℕ) (stay : Stay) (note : Note) → to_wake (waking_from k t stay).does note ≡ to_wake
    (waking_to k).does note
waking_wakes (Retry m) t stay note = refl
waking_wakes Own t stay note = refl
waking_wakes OwnPending t stay note = refl
waking_wakes OwnUpgradable t stay note = refl
waking_wakes (Recheck f) t stay note = refl

pub taking_taken : (s : Scan) (v : ℕ) (m : Mode) → (taking s v m).taken ≡ s.taken ++ v ∷ []
taking_taken s v Shared = refl
taking_taken s v Exclusive = refl
taking_taken s v Upgradable = refl

scanning_grows : (s : Scan) (v : ℕ) (m : Mode) (u : ℕ) (note : Note) → occurs u (to_wake (scanning s).does note) ≤
    occurs u (to_wake (scanning (taking s v m)).does note)
scanning_grows s v m u (On1 Open) = omega (arith, ap (λ us. occurs u us) (taking_taken s v m), occurs-push u s.taken v)
scanning_grows s v m u (On1 Normal) = omega arith
scanning_grows s v m u (On1 Handed) = omega arith
scanning_grows s v m u On2 = omega arith

pass_shrinks : (ws : List ℕ) (v : ℕ) (us : List ℕ) (u : ℕ) (note : Note) → u ≢ v
    → occurs u (to_wake (Wakes (ws ++ v ∷ us)) note) ≤ occurs u (to_wake (Wakes (ws ++ us)) note)
pass_shrinks ws v us u (On1 Open) ne = omega arith
pass_shrinks ws v us u (On1 Normal) ne = occurs-without u ws v us ne
pass_shrinks ws v us u (On1 Handed) ne = occurs-without u ws v us ne
pass_shrinks ws v us u On2 ne = occurs-without u ws v us ne

scans2_grows : (v u : ℕ) (note : Note) → occurs u (to_wake (Scans2 []) note) ≤ occurs u (to_wake (Scans2 (v ∷ [])) note)
scans2_grows v u (On1 Open) = omega arith
scans2_grows v u (On1 Normal) = omega arith
scans2_grows v u (On1 Handed) = omega arith
scans2_grows v u On2 = omega arith

module _ (w : Word) (rs : List Role) (first second : List ℕ) (sound : Sound w rs first second) (t : ℕ) where
  pub sound_listing : (k : Listing) → slice_get rs t ≡ Some (listing_from k) → MayList k t first second
      → Sound w (slice_set rs t (listing_to k)) (first_after k t first) (second_after k t second)
  unfolding weight
  sound_listing k at may = record {
    fits = fits-set w rs first second sound t w (listing_from k) (listing_to k) at (λ before.
        fitting.listing_fits w (λ c. total c (slice_set rs t away)) (counts_all (slice_set rs t away)) k before
        (may_count k t first second _ (sound.waiting1.count ∙ total-at rs t (listing_from k) at Waiting1) may));
    waiting1 = one k at may;
    waiting2 = two k at may;
    noted = noted-set role_note role_wakes rs t (listing_from k) (listing_to k) at sound.noted
        (nothing_noted (listing_to k) (λ by note. WillWake rs by t note) (listing_note k))
        (λ u r note here took. omega (arith, ap (λ us. occurs u us) (listing_wakes k note)));
  }
    where
      one : (k : Listing) → slice_get rs t ≡ Some (listing_from k) → MayList k t first second
          → Lists Waiting1 (first_after k t first) (slice_set rs t (listing_to k))
      one (Join1 m) at may = lists-push (weight Waiting1) first rs t _ _ at sound.waiting1 refl refl
      one (Join2 f) at may = lists-same (weight Waiting1) first rs t _ _ at sound.waiting1 refl
      one (Quit1 m i) at may = lists-drop (weight Waiting1) first rs t _ _ at sound.waiting1 i may.0 refl refl
      one (QuitLast1 m i) at may = lists-drop (weight Waiting1) first rs t _ _ at sound.waiting1 i may.0 refl refl
      one (Quit2 f i) at may = lists-same (weight Waiting1) first rs t _ _ at sound.waiting1 refl

      two : (k : Listing) → slice_get rs t ≡ Some (listing_from k) → MayList k t first second
          → Lists Waiting2 (second_after k t second) (slice_set rs t (listing_to k))
      two (Join1 m) at may = lists-same (weight Waiting2) second rs t _ _ at sound.waiting2 refl
      two (Join2 f) at may = lists-push (weight Waiting2) second rs t _ _ at sound.waiting2 refl refl
      two (Quit1 m i) at may = lists-same (weight Waiting2) second rs t _ _ at sound.waiting2 refl
      two (QuitLast1 m i) at may = lists-same (weight Waiting2) second rs t _ _ at sound.waiting2 refl
      two (Quit2 f i) at may = lists-drop (weight Waiting2) second rs t _ _ at sound.waiting2 i may refl refl

  -- the thread v, which it took, is woken
  pub sound_wake : (v : ℕ) (k : Waking) (stay : Stay) → slice_get rs v ≡ Some (waking_from k t stay) → inside stay ≡ 0
      → Sound w (slice_set rs v (waking_to k)) first second
  sound_wake v k stay at out = record {
    fits = fits-set w rs first second sound v w (waking_from k t stay) (waking_to k) at
        (fitting.wake_fits w (λ c. total c (slice_set rs v away)) (counts_all (slice_set rs v away)) k t stay out);
    waiting1 = lists-same (weight Waiting1) first rs v _ _ at sound.waiting1 (waking_waits1 k t stay);
    waiting2 = lists-same (weight Waiting2) second rs v _ _ at sound.waiting2 (waking_waits2 k t stay);
    noted = noted-set role_note role_wakes rs v (waking_from k t stay) (waking_to k) at sound.noted
        (nothing_noted (waking_to k) (λ by note. WillWake rs by v note) (waking_note k))
        (λ u r note here took. omega (arith, ap (λ us. occurs u us) (waking_wakes k t stay note)));
  }

  -- the one that was to be woken is left alone, or was woken just now
  pub sound_pass : (o : Owned) (ws : List ℕ) (v : ℕ) (us : List ℕ)
      → slice_get rs t ≡ Some (record { owns = o; does = Wakes (ws ++ v ∷ us) })
      → ((r : Role) (note : Note) → slice_get rs v ≡ Some r → note_of r.does ≢ Some (t, note))
      → Sound w (slice_set rs t (record { owns = o; does = Wakes (ws ++ us) })) first second
  unfolding weight
  sound_pass o ws v us at gone = record {
    fits = fits-set w rs first second sound t w a b at
        (fitting.pass_fits w (λ c. total c (slice_set rs t away)) (counts_all (slice_set rs t away)) o (ws ++ v ∷ us)
        (ws ++ us));
    waiting1 = lists-same (weight Waiting1) first rs t a b at sound.waiting1 refl;
    waiting2 = lists-same (weight Waiting2) second rs t a b at sound.waiting2 refl;
    noted = noted-set role_note role_wakes rs t a b at sound.noted
        (nothing_noted b (λ by note. WillWake rs by t note) refl)
        (λ u r note here took. pass_shrinks ws v us u note
        (λ e. still u r note (get-set_cases rs t u a r b at here) took e));
  }
    where
      a : Role
      a = record { owns = o; does = Wakes (ws ++ v ∷ us) }

      b : Role
      b = record { owns = o; does = Wakes (ws ++ us) }

      still : (u : ℕ) (r : Role) (note : Note) → ((u ≡ t) × (r ≡ b)) ⊎ ((u ≢ t) × (slice_get rs u ≡ Some r))
          → note_of r.does ≡ Some (t, note) → u ≢ v
      still u r note (inl x) took e = none-some (t, note) (sym (ap (λ y. note_of y.does) x.1) ∙ took)
      still u r note (inr x) took e = gone r note (ap (λ i. slice_get rs i) (sym e) ∙ x.1) took

  -- how the clauses that count are kept where two roles change
  fits-set2 : (v : ℕ) (a b x y : Role) → slice_get rs t ≡ Some a → slice_get rs v ≡ Some x → t ≢ v
      → (Fits w (λ c. total c (slice_set (slice_set rs t away) v away) + (weight c a + weight c x))
      → Fits w (λ c. total c (slice_set (slice_set rs t away) v away) + (weight c b + weight c y)))
      → Fits w (λ c. total c (slice_set (slice_set rs t b) v y))
  fits-set2 v a b x y at there ne keeps =
      let still : slice_get (slice_set rs t b) v ≡ Some x = get-set_other rs t v b ne ∙ there in
      let left : slice_get (slice_set rs t away) v ≡ Some x = get-set_other rs t v away ne ∙ there in
      same_counts (Fits w) _ _
      (λ c. omega (
        arith,
        sum_by-set_at (weight c) rs t a b at,
        sum_by-set_at (weight c) rs t a away at,
        sum_by-set_at (weight c) (slice_set rs t b) v x y still,
        sum_by-set_at (weight c) (slice_set rs t away) v x away left,
        away_weighs c,
      ))
      (keeps (same_counts (Fits w) _ _
      (λ c. omega (
        arith,
        sum_by-set_at (weight c) rs t a away at,
        sum_by-set_at (weight c) (slice_set rs t away) v x
            away left,
        away_weighs c,
      )) sound.fits))

  pub sound_take1 : (s : Scan) (i v : ℕ) (m : Mode) (stay : Stay) → slice_get rs t ≡ Some (scanning s)
      → MayTake s i v m stay rs first
      → Sound w (slice_set (slice_set rs t (scanning (taking s v m))) v
      (record { owns = Shares 0; does = Taken1 m t Open stay })) (remove first i) second
  unfolding weight
  sound_take1 s i v m stay at may = record {
    fits = fits-set2 v (scanning s) b x y at may.role ne
        (fitting.take_fits w rest (counts_all (slice_set (slice_set rs t away) v away)) s v t m stay may.looks);
    waiting1 = lists-drop (weight Waiting1) first (slice_set rs t b) v x y still
        (lists-same (weight Waiting1) first rs t (scanning s) b at sound.waiting1 refl) i may.waiter refl refl;
    waiting2 = lists-same (weight Waiting2) second (slice_set rs t b) v x y still
        (lists-same (weight Waiting2) second rs t (scanning s) b at sound.waiting2 refl) refl;
    noted = noted-set role_note role_wakes (slice_set rs t b) v x y still
        (noted-set role_note role_wakes rs t (scanning s) b at sound.noted
        (nothing_noted b (λ by note. WillWake rs by t note) refl)
        (λ u r note here took. scanning_grows s v m u note))
        (λ by note took.
        let e : (t, On1 Open) ≡ (by, note) = same_Some _ _ took in
        subst (λ (z : ℕ × Note). WillWake (slice_set rs t b) z.0 v z.1) e (
          b,
          get-set_same rs t (scanning s) b at,
          omega (arith, ap (λ us. occurs v us) (taking_taken s v m), occurs-push v s.taken v, counted-same v),
        ))
        (λ u r note here took. omega arith);
  }
    where
      rest : Class → ℕ
      rest c = total c (slice_set (slice_set rs t away) v away)

      b : Role
      b = scanning (taking s v m)

      x : Role
      x = record { owns = Shares 0; does = Queued1 m stay }

      y : Role
      y = record { owns = Shares 0; does = Taken1 m t Open stay }

      ne : t ≢ v
      ne e = let same : scanning s ≡ x = same_Some (scanning s) x (sym at ∙ ap (λ j. slice_get rs j) e ∙ may.role) in
          let phases = ap (λ r. r.does) same in cc

      still : slice_get (slice_set rs t b) v ≡ Some x
      still = get-set_other rs t v b ne ∙ may.role

  pub sound_take2 : (o : Owned) (v : ℕ) (f : Bool) (stay : Stay)
      → slice_get rs t ≡ Some (record { owns = o; does = Scans2 [] }) → slice_get second 0 ≡ Some v
      → slice_get rs v ≡ Some (record { owns = Shares 0; does = Queued2 f stay })
      → Sound w (slice_set (slice_set rs t (record { owns = o; does = Scans2 (v ∷ []) })) v
      (record { owns = Shares 0; does = Taken2 f t stay })) first (remove second 0)
  unfolding weight
  sound_take2 o v f stay at waiter there = record {
    fits = fits-set2 v a b x y at there ne
        (fitting.take2_fits w rest (counts_all (slice_set (slice_set rs t away) v away)) o (v ∷ []) v t f stay);
    waiting1 = lists-same (weight Waiting1) first (slice_set rs t b) v x y still
        (lists-same (weight Waiting1) first rs t a b at sound.waiting1 refl) refl;
    waiting2 = lists-drop (weight Waiting2) second (slice_set rs t b) v x y still
        (lists-same (weight Waiting2) second rs t a b at sound.waiting2 refl) 0 waiter refl refl;
    noted = noted-set role_note role_wakes (slice_set rs t b) v x y still
        (noted-set role_note role_wakes rs t a b at sound.noted
        (nothing_noted b (λ by note. WillWake rs by t note) refl) (λ u r note here took. scans2_grows v u note))
        (λ by note took. noted by note stay took)
        (λ u r note here took. omega arith);
  }
    where
      rest : Class → ℕ
      rest c = total c (slice_set (slice_set rs t away) v away)

      a : Role
      a = record { owns = o; does = Scans2 [] }

      b : Role
      b = record { owns = o; does = Scans2 (v ∷ []) }

      x : Role
      x = record { owns = Shares 0; does = Queued2 f stay }

      y : Role
      y = record { owns = Shares 0; does = Taken2 f t stay }

      ne : t ≢ v
      ne e = let same : a ≡ x = same_Some a x (sym at ∙ ap (λ j. slice_get rs j) e ∙ there) in let phases =
          ap (λ r. r.does) same in cc

      still : slice_get (slice_set rs t b) v ≡ Some x
      still = get-set_other rs t v b ne ∙ there

      noted : (by : ℕ) (note : Note) (stay : Stay) → note_of (Taken2 f t stay) ≡ Some (by, note)
          → WillWake (slice_set rs t b) by v note
      noted by note Fresh took = absurd (none-some (by, note) took)
      noted by note Late took = absurd (none-some (by, note) took)
      noted by note Back took = absurd (none-some (by, note) took)
      noted by note Asleep took =
          let e : (t, On2) ≡ (by, note) = same_Some _ _ took in
          subst (λ (z : ℕ × Note). WillWake (slice_set rs t b) z.0 v z.1) e
          (b, get-set_same rs t a b at, omega (arith, occurs-cons v v [], counted-same v))
