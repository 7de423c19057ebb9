-- Steps of one thread alone keep a lock sound.
use Rattle.std.proofs.Common.{◌≡◌, ℕ, ◌+◌, ◌⊎◌, ⊎_elim, Bool, true, false, List, Some, None, slice_get, slice_set, refl}
use Rattle.std.proofs.Common.{sym, ap, ◌∙◌, inl, inr, arith}
use Rattle.std.proofs.lemmas.Option.{none-some}
use Rattle.parking_lot_rules.specs.Roles.{Open, Normal, Handed, Role, away}
use Rattle.parking_lot_rules.specs.Classes.{Waiting1, Waiting2, weight, total}
use Rattle.parking_lot_rules.specs.Clauses.{Word, Fits}
use Rattle.parking_lot_rules.specs.Plain.{Plain, ExpireTaken1, ReenterTaken1, Yield, YieldBack, Look2, Mask2, Depart2}
use Rattle.parking_lot_rules.specs.Plain.{LookExclusive, LookUpgradable, Downgrade, DowngradeToUpgradable}
use Rattle.parking_lot_rules.specs.Plain.{DowngradeUpgradable, LookOwed, Depart1, Finish, from, to, May, written}
use Rattle.parking_lot_rules.specs.Lists.{occurs}
use Rattle.parking_lot_rules.specs.Lock.{role_note, role_wakes, Note, On1, On2, note_of, to_wake, Sound}
use Rattle.parking_lot_rules.proofs.Totals.{counts_all, total-set, total-at, same_counts}
use Rattle.parking_lot_rules.proofs.Plain.{plain_fits}
use Rattle.parking_lot_rules.proofs.Waiting.{lists-same}
use Rattle.parking_lot_rules.proofs.Noting.{noted-set}

-- such a step changes neither list
same_waiting1 : (k : Plain) → weight Waiting1 (to k) ≡ weight Waiting1 (from k)
unfolding weight
same_waiting1 (Yield true) = refl
same_waiting1 (Yield false) = refl
same_waiting1 (YieldBack true) = refl
same_waiting1 (YieldBack false) = refl
same_waiting1 (Downgrade true) = refl
same_waiting1 (Downgrade false) = refl
same_waiting1 (DowngradeToUpgradable true) = refl
same_waiting1 (DowngradeToUpgradable false) = refl
same_waiting1 (DowngradeUpgradable true) = refl
same_waiting1 (DowngradeUpgradable false) = refl
same_waiting1 _ = refl

same_waiting2 : (k : Plain) → weight Waiting2 (to k) ≡ weight Waiting2 (from k)
unfolding weight
same_waiting2 (Yield true) = refl
same_waiting2 (Yield false) = refl
same_waiting2 (YieldBack true) = refl
same_waiting2 (YieldBack false) = refl
same_waiting2 (Downgrade true) = refl
same_waiting2 (Downgrade false) = refl
same_waiting2 (DowngradeToUpgradable true) = refl
same_waiting2 (DowngradeToUpgradable false) = refl
same_waiting2 (DowngradeUpgradable true) = refl
same_waiting2 (DowngradeUpgradable false) = refl
same_waiting2 _ = refl

-- it takes nobody off one, and what others are told stays
same_note : (k : Plain) → (note_of (to k).does ≡ None) ⊎ (note_of (to k).does ≡ note_of (from k).does)
same_note (ExpireTaken1 m by Open) = inr refl
same_note (ExpireTaken1 m by Normal) = inl refl
same_note (ExpireTaken1 m by Handed) = inl refl
same_note (ReenterTaken1 m by Open) = inr refl
same_note (ReenterTaken1 m by Normal) = inl refl
same_note (ReenterTaken1 m by Handed) = inl refl
same_note (Yield true) = inl refl
same_note (Yield false) = inl refl
same_note (YieldBack true) = inl refl
same_note (YieldBack false) = inl refl
same_note (Downgrade true) = inl refl
same_note (Downgrade false) = inl refl
same_note (DowngradeToUpgradable true) = inl refl
same_note (DowngradeToUpgradable false) = inl refl
same_note (DowngradeUpgradable true) = inl refl
same_note (DowngradeUpgradable false) = inl refl
same_note _ = inl refl

same_wakes : (k : Plain) (note : Note) → to_wake (to k).does note ≡ to_wake (from k).does note
same_wakes (Mask2 n us) (On1 Open) = refl
same_wakes (Mask2 n us) (On1 Normal) = refl
same_wakes (Mask2 n us) (On1 Handed) = refl
same_wakes (Mask2 n us) On2 = refl
same_wakes (Depart2 n us) (On1 Open) = refl
same_wakes (Depart2 n us) (On1 Normal) = refl
same_wakes (Depart2 n us) (On1 Handed) = refl
same_wakes (Depart2 n us) On2 = refl
same_wakes (Depart1 o us) (On1 Open) = refl
same_wakes (Depart1 o us) (On1 Normal) = refl
same_wakes (Depart1 o us) (On1 Handed) = refl
same_wakes (Depart1 o us) On2 = refl
same_wakes (Finish o) (On1 Open) = refl
same_wakes (Finish o) (On1 Normal) = refl
same_wakes (Finish o) (On1 Handed) = refl
same_wakes (Finish o) On2 = refl
same_wakes LookExclusive (On1 Open) = refl
same_wakes LookExclusive (On1 Normal) = refl
same_wakes LookExclusive (On1 Handed) = refl
same_wakes LookExclusive On2 = refl
same_wakes LookUpgradable (On1 Open) = refl
same_wakes LookUpgradable (On1 Normal) = refl
same_wakes LookUpgradable (On1 Handed) = refl
same_wakes LookUpgradable On2 = refl
same_wakes (LookOwed o) (On1 Open) = refl
same_wakes (LookOwed o) (On1 Normal) = refl
same_wakes (LookOwed o) (On1 Handed) = refl
same_wakes (LookOwed o) On2 = refl
same_wakes (Look2 n) (On1 Open) = refl
same_wakes (Look2 n) (On1 Normal) = refl
same_wakes (Look2 n) (On1 Handed) = refl
same_wakes (Look2 n) On2 = refl
same_wakes (Yield true) note = refl
same_wakes (Yield false) note = refl
same_wakes (YieldBack true) note = refl
same_wakes (YieldBack false) note = refl
same_wakes (Downgrade true) note = refl
same_wakes (Downgrade false) note = refl
same_wakes (DowngradeToUpgradable true) note = refl
same_wakes (DowngradeToUpgradable false) note = refl
same_wakes (DowngradeUpgradable true) note = refl
same_wakes (DowngradeUpgradable false) note = refl
same_wakes _ note = refl

module _ (w : Word) (rs : List Role) (first second : List ℕ) (sound : Sound w rs first second) (t : ℕ) where
  -- how the clauses that count are kept where one role changes
  pub fits-set : (w' : Word) (a b : Role) → slice_get rs t ≡ Some a
      → (Fits w (λ c. total c (slice_set rs t away) + weight c a)
      → Fits w' (λ c. total c (slice_set rs t away) + weight c b)) → Fits w' (λ c. total c (slice_set rs t b))
  fits-set w' a b at keeps =
      same_counts (Fits w') _ _ (λ c. sym (total-set rs t a b at c))
      (keeps (same_counts (Fits w) _ _ (total-at rs t a at) sound.fits))

  pub sound_alone : (recursive : Bool) (k : Plain) → slice_get rs t ≡ Some (from k)
      → May recursive k w (λ c. total c rs) → Sound (written k w) (slice_set rs t (to k)) first second
  sound_alone recursive k at may = record {
    fits = fits-set (written k w) (from k) (to k) at (λ before.
        plain_fits recursive k w (λ c. total c (slice_set rs t away)) (counts_all (slice_set rs t away)) before
        (same_counts (May recursive k w) (λ c. total c rs) _ (total-at rs t (from k) at) may));
    waiting1 = lists-same (weight Waiting1) first rs t (from k) (to k) at sound.waiting1 (same_waiting1 k);
    waiting2 = lists-same (weight Waiting2) second rs t (from k) (to k) at sound.waiting2 (same_waiting2 k);
    noted = noted-set role_note role_wakes rs t (from k) (to k) at sound.noted
        (λ by note took. ⊎_elim (λ none. absurd (none-some (by, note) (sym none ∙ took)))
        (λ same. sound.noted t by (from k) note at (sym same ∙ took)) (same_note k))
        (λ u r note here took. omega (arith, ap (λ us. occurs u us) (same_wakes k note)));
  }
