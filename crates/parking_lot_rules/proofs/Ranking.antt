-- The ranks fall as a thread is stepped.
use Rattle.std.proofs.Common.{◌≡◌, ◌≢◌, ℕ, zero, suc, ◌+◌, ◌-◌, ◌*◌, ◌<◌, ◌≤◌, ◌⊎◌, Bool, true, false, IsTrue, List, []}
use Rattle.std.proofs.Common.{◌∷◌, ◌++◌, length, map, remove, Some, option_map, slice_get, slice_set, sum_by, refl, sym}
use Rattle.std.proofs.Common.{ap, ◌∙◌, subst, inl, inr, arith, length-append}
use Rattle.std.proofs.lemmas.List.{length-set, length-map}
use Rattle.std.proofs.lemmas.List.Edits.{length-remove}
use Rattle.std.proofs.lemmas.List.Sums.{sum_by-cons}
use Rattle.std.proofs.lemmas.Option.{same_Some, slice_get-map, slice_get_within}
use Rattle.parking_lot_rules.specs.Roles.{Mode, Shared, Exclusive, Upgradable, Owned, Shares, Stay, Fresh, Asleep, Late}
use Rattle.parking_lot_rules.specs.Roles.{Back, Mark, Open, Phase, Idle, Queued1, Taken1, Queued2, Taken2, Stored1}
use Rattle.parking_lot_rules.specs.Roles.{Scans2, Wakes, Role, away}
use Rattle.parking_lot_rules.specs.Classes.{Class, Waiting1, Waiting2, weight, total}
use Rattle.parking_lot_rules.specs.Clauses.{Word}
use Rattle.parking_lot_rules.specs.Lock.{Lock, IsSound}
use Rattle.parking_lot_rules.specs.Plain.{Plain, Begin, Refuse, Share, Pend, Drain, Upgradably, Exclude, Flag1, Enter1}
use Rattle.parking_lot_rules.specs.Plain.{Check1, Retreat1, Rest1, Expire1, ExpireTaken1, Reenter1, ReenterTaken1}
use Rattle.parking_lot_rules.specs.Plain.{Mask1, Leave1, Resume1, ReceiveShared, ReceivePending, ReceiveUpgradable}
use Rattle.parking_lot_rules.specs.Plain.{Flag2, Enter2, Check2, Retreat2, Rest2, Expire2, ExpireTaken2, Reenter2}
use Rattle.parking_lot_rules.specs.Plain.{ReenterTaken2, Resume2, Leave2, Yield, YieldBack, Unshare, UnshareLast, Look2}
use Rattle.parking_lot_rules.specs.Plain.{Mask2, Depart2, Unlock, UnlockUpgradable, LookExclusive, LookUpgradable}
use Rattle.parking_lot_rules.specs.Plain.{Downgrade, DowngradeToUpgradable, DowngradeUpgradable, Upgrade, UpgradeAtOnce}
use Rattle.parking_lot_rules.specs.Plain.{LookOwed, Depart1, Finish, bars, from, to, May, written}
use Rattle.parking_lot_rules.specs.Steps.{Step, Alone, List_changes, Take1, Take2, Store, Wake, Pass, Allowed, after}
use Rattle.parking_lot_rules.specs.Steps.{Listing, Join1, Join2, Quit1, QuitLast1, Quit2, listing_from, listing_to}
use Rattle.parking_lot_rules.specs.Steps.{scanning, taking, ends_saying, settle, told, Waking, Retry, Own, OwnPending}
use Rattle.parking_lot_rules.specs.Steps.{OwnUpgradable, Recheck, waking_from, waking_to}
use Rattle.parking_lot_rules.specs.Laws.{is_asleep}
use Rattle.parking_lot_rules.specs.Ranks.{where_some, to_come, asks, drains, worst, fresh, rank_of_others, ranks}
use Rattle.parking_lot_rules.specs.Ranks.{is_deadline, KnowsTheWord, RanksFall, RanksBegin, RanksChange}
use Rattle.parking_lot_rules.proofs.Indexed.{get-set_same, get-set_other, sum_by-set_at, two_apart}
use Rattle.parking_lot_rules.proofs.Changing.{taking_taken}
use Rattle.parking_lot_rules.proofs.Sounds.{waking_apart}
use Rattle.parking_lot_rules.proofs.Waiting.{length-without}

-- two threads whose phases differ
-- which of the two numbers it is
pub chosen : (n a b : ℕ) → ((n ≡ 0) × (where_some n a b ≡ b)) ⊎ ((0 < n) × (where_some n a b ≡ a))
chosen zero a b = inl (refl, refl)
chosen (suc n) a b = inr (omega arith, refl)

-- a thread waits in the first list at most once, and so in the second
first_most : (o : Owned) (p : Phase) → weight Waiting1 (record { owns = o; does = p }) ≤ 1
unfolding weight
first_most o Idle = omega arith
first_most o p = omega arith

second_most : (o : Owned) (p : Phase) → weight Waiting2 (record { owns = o; does = p }) ≤ 1
unfolding weight
second_most o Idle = omega arith
second_most o p = omega arith

first_few : (rs : List Role) → total Waiting1 rs ≤ length rs
first_few [] = omega arith
first_few (r ∷ rs) = omega (arith, sum_by-cons (weight Waiting1) r rs, first_most r.owns r.does, first_few rs)

second_few : (rs : List Role) → total Waiting2 rs ≤ length rs
second_few [] = omega arith
second_few (r ∷ rs) = omega (arith, sum_by-cons (weight Waiting2) r rs, second_most r.owns r.does, second_few rs)

-- the rank that the stepped thread has before the step
before : Bool → ℕ → Word → ℕ → ℕ → Phase → ℕ
before true n w a b p = worst n p
before false n w a b p = fresh n w a b p

module _ (recursive : Bool) (n a b : ℕ) (w : Word) (all : Class → ℕ) (few1 : a ≤ n) (few2 : b ≤ n) (one1 : w.parked1 ≤ 1) (one2 : w.parked2 ≤ 1) where
  plain_falls : (stale : Bool) (k : Plain) → (from k).does ≢ Idle → May recursive k w all → is_deadline (Alone k) ≡ false → KnowsTheWord stale (Alone k) w
      → fresh n (written k w) a b (to k).does + 1 ≤ before stale n w a b (from k).does
  unfolding before
  plain_falls stale (Begin n m) busy may now knows = absurd (busy refl)
  plain_falls true (Refuse n m) busy may now knows = omega (arith, chosen (bars m w) (4 + (1 - w.parked1)) (1 + to_come m))
  plain_falls false (Refuse n m) busy may now knows = omega (arith, chosen (bars m w) (4 + (1 - w.parked1)) (1 + to_come m))
  plain_falls true (Share n c) busy may now knows = omega (arith, chosen (bars Shared w) (4 + (1 - w.parked1)) (1 + to_come Shared))
  plain_falls false (Share n c) busy may now knows = omega (arith, chosen (bars Shared w) (4 + (1 - w.parked1)) (1 + to_come Shared))
  plain_falls true (Pend c) busy may now knows = omega (arith, chosen (bars Exclusive w) (4 + (1 - w.parked1)) (1 + to_come Exclusive), chosen w.readers (4 + (1 - w.parked2)) 1)
  plain_falls false (Pend c) busy may now knows = omega (arith, chosen (bars Exclusive w) (4 + (1 - w.parked1)) (1 + to_come Exclusive), chosen w.readers (4 + (1 - w.parked2)) 1)
  plain_falls true (Drain f c) busy may now knows = omega (arith, chosen w.readers (4 + (1 - w.parked2)) 1)
  plain_falls false (Drain f c) busy may now knows = omega (arith, chosen w.readers (4 + (1 - w.parked2)) 1)
  plain_falls true (Upgradably c) busy may now knows = omega (arith, chosen (bars Upgradable w) (4 + (1 - w.parked1)) (1 + to_come Upgradable))
  plain_falls false (Upgradably c) busy may now knows = omega (arith, chosen (bars Upgradable w) (4 + (1 - w.parked1)) (1 + to_come Upgradable))
  plain_falls true Exclude busy may now knows = omega (arith, chosen (bars Exclusive w) (4 + (1 - w.parked1)) (1 + to_come Exclusive), chosen w.readers (4 + (1 - w.parked2)) 1)
  plain_falls false Exclude busy may now knows = omega (arith, chosen (bars Exclusive w) (4 + (1 - w.parked1)) (1 + to_come Exclusive), chosen w.readers (4 + (1 - w.parked2)) 1)
  plain_falls true (Flag1 Shared c) busy may now knows =
      omega (
        arith,
        chosen (bars Shared w) (4 + (1 - w.parked1)) (1 + to_come Shared),
        chosen (bars Shared w) (4 + (1 - 1)) (1 + to_come Shared),
      )
  plain_falls true (Flag1 Exclusive c) busy may now knows =
      omega (
        arith,
        chosen (bars Exclusive w) (4 + (1 - w.parked1)) (1 + to_come Exclusive),
        chosen (bars Exclusive w) (4 + (1 - 1)) (1 + to_come Exclusive),
      )
  plain_falls true (Flag1 Upgradable c) busy may now knows =
      omega (
        arith,
        chosen (bars Upgradable w) (4 + (1 - w.parked1)) (1 + to_come Upgradable),
        chosen (bars Upgradable w) (4 + (1 - 1)) (1 + to_come Upgradable),
      )
  plain_falls false (Flag1 Shared c) busy may now knows =
      omega (
        arith,
        chosen (bars Shared w) (4 + (1 - w.parked1)) (1 + to_come Shared),
        chosen (bars Shared w) (4 + (1 - 1)) (1 + to_come Shared),
      )
  plain_falls false (Flag1 Exclusive c) busy may now knows =
      omega (
        arith,
        chosen (bars Exclusive w) (4 + (1 - w.parked1)) (1 + to_come Exclusive),
        chosen (bars Exclusive w) (4 + (1 - 1)) (1 + to_come Exclusive),
      )
  plain_falls false (Flag1 Upgradable c) busy may now knows =
      omega (
        arith,
        chosen (bars Upgradable w) (4 + (1 - w.parked1)) (1 + to_come Upgradable),
        chosen (bars Upgradable w) (4 + (1 - 1)) (1 + to_come Upgradable),
      )
  plain_falls true (Enter1 m c) busy may now knows =
      omega (
        arith,
        chosen (bars m w) (where_some w.parked1 3 (1 + asks m w)) (1 + asks m w),
        chosen w.parked1 3 (1 + asks m w),
        chosen (bars m w) (4 + (1 - w.parked1)) (1 + to_come m),
      )
  plain_falls false (Enter1 m c) busy may now knows =
      omega (
        arith,
        chosen (bars m w) (where_some w.parked1 3 (1 + asks m w)) (1 + asks m w),
        chosen w.parked1 3 (1 + asks m w),
        chosen (bars m w) (4 + (1 - w.parked1)) (1 + to_come m),
      )
  plain_falls true (Check1 m c) busy may now knows =
      omega (
        arith,
        chosen (bars m w) (where_some w.parked1 3 (1 + asks m w)) (1 + asks m w),
        chosen w.parked1 3 (1 + asks m w),
        chosen (bars m w) (4 + (1 - w.parked1)) (1 + to_come m),
      )
  plain_falls false (Check1 m c) busy may now knows =
      omega (
        arith,
        chosen (bars m w) (where_some w.parked1 3 (1 + asks m w)) (1 + asks m w),
        chosen w.parked1 3 (1 + asks m w),
        chosen (bars m w) (4 + (1 - w.parked1)) (1 + to_come m),
      )
  plain_falls true (Retreat1 m c) busy may now knows =
      omega (
        arith,
        chosen (bars m w) (where_some w.parked1 3 (1 + asks m w)) (1 + asks m w),
        chosen w.parked1 3 (1 + asks m w),
        chosen (bars m w) (4 + (1 - w.parked1)) (1 + to_come m),
      )
  plain_falls false (Retreat1 m c) busy may now knows =
      omega (
        arith,
        chosen (bars m w) (where_some w.parked1 3 (1 + asks m w)) (1 + asks m w),
        chosen w.parked1 3 (1 + asks m w),
        chosen (bars m w) (4 + (1 - w.parked1)) (1 + to_come m),
      )
  plain_falls true (Rest1 m) busy may now knows = omega arith
  plain_falls false (Rest1 m) busy may now knows = omega arith
  plain_falls stale (Expire1 m) busy may now knows = absurd cc
  plain_falls stale (ExpireTaken1 m by how) busy may now knows = absurd cc
  plain_falls true (Reenter1 m) busy may now knows = omega arith
  plain_falls false (Reenter1 m) busy may now knows = omega arith
  plain_falls true (ReenterTaken1 m by how) busy may now knows = omega arith
  plain_falls false (ReenterTaken1 m by how) busy may now knows = omega arith
  plain_falls true Mask1 busy may now knows = omega arith
  plain_falls false Mask1 busy may now knows = omega arith
  plain_falls true Leave1 busy may now knows = omega arith
  plain_falls false Leave1 busy may now knows = omega arith
  plain_falls true (Resume1 m by) busy may now knows = omega (arith, chosen (bars m w) (4 + (1 - w.parked1)) (1 + to_come m))
  plain_falls false (Resume1 m by) busy may now knows = omega (arith, chosen (bars m w) (4 + (1 - w.parked1)) (1 + to_come m))
  plain_falls true (ReceiveShared by) busy may now knows = omega arith
  plain_falls false (ReceiveShared by) busy may now knows = omega arith
  plain_falls true (ReceivePending by) busy may now knows = omega (arith, chosen w.readers (4 + (1 - w.parked2)) 1)
  plain_falls false (ReceivePending by) busy may now knows = omega (arith, chosen w.readers (4 + (1 - w.parked2)) 1)
  plain_falls true (ReceiveUpgradable by) busy may now knows = omega arith
  plain_falls false (ReceiveUpgradable by) busy may now knows = omega arith
  plain_falls true (Flag2 f c) busy may now knows = omega (arith, chosen w.readers (4 + (1 - w.parked2)) 1, chosen w.readers (4 + (1 - 1)) 1)
  plain_falls false (Flag2 f c) busy may now knows = omega (arith, chosen w.readers (4 + (1 - w.parked2)) 1, chosen w.readers (4 + (1 - 1)) 1)
  plain_falls true (Enter2 f c) busy may now knows =
      omega (
        arith,
        chosen w.readers (where_some w.parked2 3 (1 + drains w)) (1 + drains w),
        chosen w.parked2 3 (1 + drains w),
        chosen w.readers (4 + (1 - w.parked2)) 1,
      )
  plain_falls false (Enter2 f c) busy may now knows =
      omega (
        arith,
        chosen w.readers (where_some w.parked2 3 (1 + drains w)) (1 + drains w),
        chosen w.parked2 3 (1 + drains w),
        chosen w.readers (4 + (1 - w.parked2)) 1,
      )
  plain_falls true (Check2 f c) busy may now knows =
      omega (
        arith,
        chosen w.readers (where_some w.parked2 3 (1 + drains w)) (1 + drains w),
        chosen w.parked2 3 (1 + drains w),
        chosen w.readers (4 + (1 - w.parked2)) 1,
      )
  plain_falls false (Check2 f c) busy may now knows =
      omega (
        arith,
        chosen w.readers (where_some w.parked2 3 (1 + drains w)) (1 + drains w),
        chosen w.parked2 3 (1 + drains w),
        chosen w.readers (4 + (1 - w.parked2)) 1,
      )
  plain_falls true (Retreat2 f c) busy may now knows =
      omega (
        arith,
        chosen w.readers (where_some w.parked2 3 (1 + drains w)) (1 + drains w),
        chosen w.parked2 3 (1 + drains w),
        chosen w.readers (4 + (1 - w.parked2)) 1,
      )
  plain_falls false (Retreat2 f c) busy may now knows =
      omega (
        arith,
        chosen w.readers (where_some w.parked2 3 (1 + drains w)) (1 + drains w),
        chosen w.parked2 3 (1 + drains w),
        chosen w.readers (4 + (1 - w.parked2)) 1,
      )
  plain_falls true (Rest2 f) busy may now knows = omega arith
  plain_falls false (Rest2 f) busy may now knows = omega arith
  plain_falls stale (Expire2 f) busy may now knows = absurd cc
  plain_falls stale (ExpireTaken2 f by) busy may now knows = absurd cc
  plain_falls true (Reenter2 f) busy may now knows = omega arith
  plain_falls false (Reenter2 f) busy may now knows = omega arith
  plain_falls true (ReenterTaken2 f by) busy may now knows = omega arith
  plain_falls false (ReenterTaken2 f by) busy may now knows = omega arith
  plain_falls true (Resume2 f by) busy may now knows = omega (arith, chosen w.readers (4 + (1 - w.parked2)) 1)
  plain_falls false (Resume2 f by) busy may now knows = omega (arith, chosen w.readers (4 + (1 - w.parked2)) 1)
  plain_falls true (Leave2 f) busy may now knows = omega arith
  plain_falls false (Leave2 f) busy may now knows = omega arith
  plain_falls true (Yield true) busy may now knows = omega arith
  plain_falls true (Yield false) busy may now knows = omega arith
  plain_falls false (Yield true) busy may now knows = omega arith
  plain_falls false (Yield false) busy may now knows = omega arith
  plain_falls true (YieldBack true) busy may now knows = omega arith
  plain_falls true (YieldBack false) busy may now knows = omega arith
  plain_falls false (YieldBack true) busy may now knows = omega arith
  plain_falls false (YieldBack false) busy may now knows = omega arith
  plain_falls stale (Unshare n) busy may now knows = absurd (busy refl)
  plain_falls stale (UnshareLast n) busy may now knows = absurd (busy refl)
  plain_falls true (Look2 n) busy may now knows = omega arith
  plain_falls false (Look2 n) busy may now knows = omega arith
  plain_falls true (Mask2 n us) busy may now knows = omega arith
  plain_falls false (Mask2 n us) busy may now knows = omega arith
  plain_falls true (Depart2 n us) busy may now knows = omega arith
  plain_falls false (Depart2 n us) busy may now knows = omega arith
  plain_falls stale Unlock busy may now knows = absurd (busy refl)
  plain_falls stale UnlockUpgradable busy may now knows = absurd (busy refl)
  plain_falls stale LookExclusive busy may now knows = absurd (busy refl)
  plain_falls stale LookUpgradable busy may now knows = absurd (busy refl)
  plain_falls stale (Downgrade owing) busy may now knows = absurd (busy refl)
  plain_falls stale (DowngradeToUpgradable owing) busy may now knows = absurd (busy refl)
  plain_falls stale (DowngradeUpgradable owing) busy may now knows = absurd (busy refl)
  plain_falls stale Upgrade busy may now knows = absurd (busy refl)
  plain_falls stale UpgradeAtOnce busy may now knows = absurd (busy refl)
  plain_falls true (LookOwed o) busy may now knows = omega arith
  plain_falls false (LookOwed o) busy may now knows = omega arith
  plain_falls true (Depart1 o us) busy may now knows = omega arith
  plain_falls false (Depart1 o us) busy may now knows = omega arith
  plain_falls true (Finish o) busy may now knows = omega arith
  plain_falls false (Finish o) busy may now knows = omega arith

  -- a list is joined or quit
  listing_falls : (stale : Bool) (k : Listing) (c d : ℕ) → fresh n w c d (listing_to k).does + 1 ≤ before stale n w a b (listing_from k).does
  unfolding before
  listing_falls true (Join1 m) c d = omega arith
  listing_falls false (Join1 m) c d = omega arith
  listing_falls true (Join2 f) c d = omega arith
  listing_falls false (Join2 f) c d = omega arith
  listing_falls true (Quit1 m i) c d = omega arith
  listing_falls false (Quit1 m i) c d = omega arith
  listing_falls true (QuitLast1 m i) c d = omega arith
  listing_falls false (QuitLast1 m i) c d = omega arith
  listing_falls true (Quit2 f i) c d = omega arith
  listing_falls false (Quit2 f i) c d = omega arith

pub to_come_few : (m : Mode) → to_come m ≤ 8
to_come_few Shared = omega arith
to_come_few Exclusive = omega arith
to_come_few Upgradable = omega arith

-- a waiter that is taken has no more to do by itself
taken_less1 : (n t : ℕ) (m : Mode) (stay : Stay) → worst n (Taken1 m t Open stay) ≤ worst n (Queued1 m stay)
taken_less1 n t m Fresh = omega arith
taken_less1 n t m Asleep = omega arith
taken_less1 n t m Late = omega arith
taken_less1 n t m Back = omega arith

taken_less2 : (n t : ℕ) (f : Bool) (stay : Stay) → worst n (Taken2 f t stay) ≤ worst n (Queued2 f stay)
taken_less2 n t f Fresh = omega arith
taken_less2 n t f Asleep = omega arith
taken_less2 n t f Late = omega arith
taken_less2 n t f Back = omega arith

-- what a wake adds
woken_more : (n t : ℕ) (k : Waking) (stay : Stay) → worst n (waking_to k).does ≤ worst n (waking_from k t stay).does + 16
woken_more n t (Retry m) stay = omega (arith, to_come_few m)
woken_more n t Own stay = omega arith
woken_more n t OwnPending stay = omega arith
woken_more n t OwnUpgradable stay = omega arith
woken_more n t (Recheck f) stay = omega arith

-- what one is told changes no rank
told_same : (n : ℕ) (h : Mark) (p : Phase) → worst n (told h p) ≡ worst n p
told_same n h (Taken1 m by Open s) = refl
told_same n h p = refl

module _ (n : ℕ) where
  abbrev weigh : Role → ℕ
  weigh r = worst n r.does

  sum-settle : (h : Mark) (rs : List Role) → sum_by weigh (map (settle h) rs) ≡ sum_by weigh rs
  sum-settle h [] = refl
  sum-settle h (r ∷ rs) = omega (arith, sum_by-cons weigh (settle h r) (map (settle h) rs), sum_by-cons weigh r rs, sum-settle h rs, told_same n h r.does)

  others-at : (rs : List Role) (t : ℕ) (a : Role) → slice_get rs t ≡ Some a → rank_of_others n rs t + worst n a.does ≡ sum_by weigh rs
  others-at rs t a at = omega (arith, sum_by-set_at weigh rs t a away at)

  others-set : (rs : List Role) (t : ℕ) (a b : Role) → slice_get rs t ≡ Some a → rank_of_others n (slice_set rs t b) t ≡ rank_of_others n rs t
  others-set rs t a b at = omega (arith, sum_by-set_at weigh rs t a b at, others-at rs t a at, others-at (slice_set rs t b) t b (get-set_same rs t a b at))

  -- another role changes after that of the stepped thread, or before
  others-after : (rs : List Role) (t v : ℕ) (a b x y : Role) → slice_get rs t ≡ Some a → slice_get rs v ≡ Some x → t ≢ v
      → rank_of_others n (slice_set (slice_set rs t b) v y) t + worst n x.does ≡ rank_of_others n rs t + worst n y.does
  others-after rs t v a b x y at there ne =
      let still : slice_get (slice_set rs t b) v ≡ Some x = get-set_other rs t v b ne ∙ there in
      let mine : slice_get (slice_set (slice_set rs t b) v y) t ≡ Some b = get-set_other (slice_set rs t b) v t y (λ e. ne (sym e)) ∙ get-set_same rs t a b at in
      omega (arith, others-at (slice_set (slice_set rs t b) v y) t b mine, sum_by-set_at weigh (slice_set rs t b) v x y still, sum_by-set_at weigh rs t a b at, others-at rs t a at)

  others-before : (rs : List Role) (t v : ℕ) (a b x y : Role) → slice_get rs t ≡ Some a → slice_get rs v ≡ Some x → v ≢ t
      → rank_of_others n (slice_set (slice_set rs v y) t b) t + worst n x.does ≡ rank_of_others n rs t + worst n y.does
  others-before rs t v a b x y at there ne =
      let still : slice_get (slice_set rs v y) t ≡ Some a = get-set_other rs v t y ne ∙ at in
      omega (arith, others-set (slice_set rs v y) t a b still, others-at (slice_set rs v y) t a still, sum_by-set_at weigh rs v x y there, others-at rs t a at)

  others-told : (rs : List Role) (t : ℕ) (a b : Role) (h : Mark) → slice_get rs t ≡ Some a → rank_of_others n (slice_set (map (settle h) rs) t b) t ≡ rank_of_others n rs t
  others-told rs t a b h at =
      let still : slice_get (map (settle h) rs) t ≡ Some (settle h a) = slice_get-map (settle h) rs t ∙ ap (option_map (settle h)) at in
      omega (
        arith,
        others-set (map (settle h) rs) t (settle h a) b still,
        others-at (map (settle h) rs) t (settle h a) still,
        sum-settle h rs,
        others-at rs t a at,
        told_same n h a.does,
      )

module _ (recursive : Bool) (t : ℕ) (l : Lock) (sound : IsSound l) where
  pub few1 : length l.first ≤ length l.roles
  few1 = omega (arith, sound.waiting1.count, first_few l.roles)

  pub few2 : length l.second ≤ length l.roles
  few2 = omega (arith, sound.waiting2.count, second_few l.roles)

  -- the ranks before and after, for one number of threads
  falls : (stale : Bool) (new : Lock) (p q : Phase) → length new.roles ≡ length l.roles
      → fresh (length l.roles) new.word (length new.first) (length new.second) q + rank_of_others (length l.roles) new.roles t + 1
      ≤ before stale (length l.roles) l.word (length l.first) (length l.second) p + rank_of_others (length l.roles) l.roles t
      → ranks false new t q + 1 ≤ ranks stale l t p
  unfolding before
  falls true new p q len h = subst (λ k. fresh k new.word (length new.first) (length new.second) q + rank_of_others k new.roles t + 1 ≤ ranks true l t p) (sym len) h
  falls false new p q len h = subst (λ k. fresh k new.word (length new.first) (length new.second) q + rank_of_others k new.roles t + 1 ≤ ranks false l t p) (sym len) h

  -- the phase of the thread after the step
  abbrev pub phase_after : Step → Phase
  phase_after (Alone k) = (to k).does
  phase_after (List_changes k) = (listing_to k).does
  phase_after (Take1 s i v m stay) = (scanning (taking s v m)).does
  phase_after (Take2 o v f stay) = Scans2 (v ∷ [])
  phase_after (Store e s) = Stored1 s.taken
  phase_after (Wake o v us k stay) = Wakes us
  phase_after (Pass o ws v us) = Wakes (ws ++ us)

  abbrev pub phase_before : Step → Phase
  phase_before (Alone k) = (from k).does
  phase_before (List_changes k) = (listing_from k).does
  phase_before (Take1 s i v m stay) = (scanning s).does
  phase_before (Take2 o v f stay) = Scans2 []
  phase_before (Store e s) = (scanning s).does
  phase_before (Wake o v us k stay) = Wakes (v ∷ us)
  phase_before (Pass o ws v us) = Wakes (ws ++ v ∷ us)

  step_falls : (stale : Bool) (step : Step) → Allowed recursive t step l → phase_before step ≢ Idle → is_deadline step ≡ false → KnowsTheWord stale step l.word
      → ranks false (after t step l) t (phase_after step) + 1 ≤ ranks stale l t (phase_before step)
  unfolding before
  step_falls stale (Alone k) may busy now knows = falls stale (after t (Alone k) l) (from k).does (to k).does (length-set l.roles t (to k))
      (omega (
        arith,
        plain_falls recursive (length l.roles) (length l.first) (length l.second) l.word (λ c. total c l.roles) few1
            few2 sound.fits.bit1 sound.fits.bit2 stale k busy may.1 now knows,
        others-set (length l.roles) l.roles t (from k) (to k) may.0,
      ))
  step_falls stale (List_changes k) may busy now knows = falls stale (after t (List_changes k) l) (listing_from k).does (listing_to k).does (length-set l.roles t (listing_to k))
      (omega (
        arith,
        listing_falls recursive (length l.roles) (length l.first) (length l.second) l.word (λ c. total c l.roles) few1 few2 sound.fits.bit1 sound.fits.bit2 stale k
            (length (after t (List_changes k) l).first) (length (after t (List_changes k) l).second),
        others-set (length l.roles) l.roles t (listing_from k) (listing_to k) may.0,
      ))
  step_falls stale (Take1 s i v m stay) may busy now knows = falls stale (after t (Take1 s i v m stay) l) (scanning s).does (scanning (taking s v m)).does
      (length-set (slice_set l.roles t (scanning (taking s v m))) v _ ∙ length-set l.roles t _)
      (go stale)
    where
      ne : t ≢ v
      ne = two_apart (λ (r : Role). r.does) l.roles t v (scanning s) (record { owns = Shares 0; does = Queued1 m stay }) may.0 may.1.role (λ e. cc)

      go : (stale : Bool) → fresh (length l.roles) l.word (length (remove l.first i)) (length l.second)
          (scanning (taking s v m)).does + rank_of_others (length l.roles) (after t (Take1 s i v m stay) l).roles t + 1
          ≤ before stale (length l.roles) l.word (length l.first) (length l.second) (scanning s).does + rank_of_others (length l.roles) l.roles t
      go true = omega (
        arith,
        few1,
        length-remove l.first i (slice_get_within l.first i v may.1.waiter),
        ap (λ us. length us) (taking_taken s v m),
        length-append s.taken (v ∷ []),
        others-after (length l.roles) l.roles t v _ (scanning (taking s v m)) _ (record { owns = Shares 0; does = Taken1 m t Open stay }) may.0 may.1.role ne,
        taken_less1 (length l.roles) t m stay,
      )
      go false = omega (
        arith,
        few1,
        length-remove l.first i (slice_get_within l.first i v may.1.waiter),
        ap (λ us. length us) (taking_taken s v m),
        length-append s.taken (v ∷ []),
        others-after (length l.roles) l.roles t v _ (scanning (taking s v m)) _ (record { owns = Shares 0; does = Taken1 m t Open stay }) may.0 may.1.role ne,
        taken_less1 (length l.roles) t m stay,
      )
  step_falls stale (Take2 o v f stay) may busy now knows = falls stale (after t (Take2 o v f stay) l) (Scans2 []) (Scans2 (v ∷ []))
      (length-set (slice_set l.roles t _) v _ ∙ length-set l.roles t _)
      (go stale)
    where
      ne : t ≢ v
      ne = two_apart (λ (r : Role). r.does) l.roles t v (record { owns = o; does = Scans2 [] }) (record { owns = Shares 0; does = Queued2 f stay }) may.0 may.2 (λ e. cc)

      go : (stale : Bool) → fresh (length l.roles) l.word (length l.first) (length (remove l.second 0))
          (Scans2 (v ∷ [])) + rank_of_others (length l.roles) (after t (Take2 o v f stay) l).roles t + 1
          ≤ before stale (length l.roles) l.word (length l.first) (length l.second) (Scans2 []) + rank_of_others (length l.roles) l.roles t
      go true = omega (
        arith,
        few2,
        length-remove l.second 0 (slice_get_within l.second 0 v may.1),
        others-after (length l.roles) l.roles t v _ (record { owns = o; does = Scans2 (v ∷ []) }) _ (record { owns = Shares 0; does = Taken2 f t stay }) may.0 may.2 ne,
        taken_less2 (length l.roles) t f stay,
      )
      go false = omega (
        arith,
        few2,
        length-remove l.second 0 (slice_get_within l.second 0 v may.1),
        others-after (length l.roles) l.roles t v _ (record { owns = o; does = Scans2 (v ∷ []) }) _ (record { owns = Shares 0; does = Taken2 f t stay }) may.0 may.2 ne,
        taken_less2 (length l.roles) t f stay,
      )
  step_falls true (Store e s) may busy now knows = falls true (after t (Store e s) l) (scanning s).does (Stored1 s.taken)
      (length-set (map (settle (ends_saying e)) l.roles) t _ ∙ length-map l.roles (settle (ends_saying e)))
      (omega (arith, others-told (length l.roles) l.roles t (scanning s) (record { owns = s.owns; does = Stored1 s.taken }) (ends_saying e) may.0))
  step_falls false (Store e s) may busy now knows = falls false (after t (Store e s) l) (scanning s).does (Stored1 s.taken)
      (length-set (map (settle (ends_saying e)) l.roles) t _ ∙ length-map l.roles (settle (ends_saying e)))
      (omega (arith, others-told (length l.roles) l.roles t (scanning s) (record { owns = s.owns; does = Stored1 s.taken }) (ends_saying e) may.0))
  step_falls true (Wake o v us k stay) may busy now knows = falls true (after t (Wake o v us k stay) l) (Wakes (v ∷ us)) (Wakes us)
      (length-set (slice_set l.roles v _) t _ ∙ length-set l.roles v _)
      (omega (
        arith,
        others-before (length l.roles) l.roles t v _ (record { owns = o; does = Wakes us }) _ (waking_to k) may.0 may.1
            (λ e. waking_apart k t stay o (v ∷ us) (same_Some _ _ (sym may.0 ∙ ap (λ i. slice_get l.roles i) (sym e) ∙ may.1))),
        woken_more (length l.roles) t k stay,
      ))
  step_falls true (Pass o ws v us) may busy now knows = falls true (after t (Pass o ws v us) l) (Wakes (ws ++ v ∷ us)) (Wakes (ws ++ us)) (length-set l.roles t _)
      (omega (arith, others-set (length l.roles) l.roles t _ (record { owns = o; does = Wakes (ws ++ us) }) may.0, length-without ws v us))
  step_falls false (Wake o v us k stay) may busy now knows = falls false (after t (Wake o v us k stay) l) (Wakes (v ∷ us)) (Wakes us)
      (length-set (slice_set l.roles v _) t _ ∙ length-set l.roles v _)
      (omega (
        arith,
        others-before (length l.roles) l.roles t v _ (record { owns = o; does = Wakes us }) _ (waking_to k) may.0 may.1
            (λ e. waking_apart k t stay o (v ∷ us) (same_Some _ _ (sym may.0 ∙ ap (λ i. slice_get l.roles i) (sym e) ∙ may.1))),
        woken_more (length l.roles) t k stay,
      ))
  step_falls false (Pass o ws v us) may busy now knows = falls false (after t (Pass o ws v us) l) (Wakes (ws ++ v ∷ us)) (Wakes (ws ++ us)) (length-set l.roles t _)
      (omega (arith, others-set (length l.roles) l.roles t _ (record { owns = o; does = Wakes (ws ++ us) }) may.0, length-without ws v us))

  -- the thread's role before the step and after it
  pub role_before : (step : Step) → Allowed recursive t step l → (r : Role) → slice_get l.roles t ≡ Some r → phase_before step ≡ r.does
  role_before (Alone k) may r at = ap (λ (x : Role). x.does) (same_Some _ r (sym may.0 ∙ at))
  role_before (List_changes k) may r at = ap (λ (x : Role). x.does) (same_Some _ r (sym may.0 ∙ at))
  role_before (Take1 s i v m stay) may r at = ap (λ (x : Role). x.does) (same_Some _ r (sym may.0 ∙ at))
  role_before (Take2 o v f stay) may r at = ap (λ (x : Role). x.does) (same_Some _ r (sym may.0 ∙ at))
  role_before (Store e s) may r at = ap (λ (x : Role). x.does) (same_Some _ r (sym may.0 ∙ at))
  role_before (Wake o v us k stay) may r at = ap (λ (x : Role). x.does) (same_Some _ r (sym may.0 ∙ at))
  role_before (Pass o ws v us) may r at = ap (λ (x : Role). x.does) (same_Some _ r (sym may.0 ∙ at))

  pub role_after : (step : Step) → Allowed recursive t step l → (r : Role) → slice_get (after t step l).roles t ≡ Some r → phase_after step ≡ r.does
  role_after (Alone k) may r at = ap (λ (x : Role). x.does) (same_Some _ r (sym (get-set_same l.roles t _ (to k) may.0) ∙ at))
  role_after (List_changes k) may r at = ap (λ (x : Role). x.does) (same_Some _ r (sym (get-set_same l.roles t _ (listing_to k) may.0) ∙ at))
  role_after (Take1 s i v m stay) may r at =
      let apart : t ≢ v = two_apart (λ (r : Role). r.does) l.roles t v (scanning s) (record { owns = Shares 0; does = Queued1 m stay }) may.0 may.1.role (λ e. cc) in
      ap (λ (x : Role). x.does)
      (same_Some _ r (sym
      (get-set_other (slice_set l.roles t (scanning (taking s v m))) v t
      (record { owns = Shares 0; does = Taken1 m t Open stay }) (λ e. apart (sym e))
      ∙ get-set_same l.roles t _ (scanning (taking s v m)) may.0) ∙ at))
  role_after (Take2 o v f stay) may r at =
      let apart : t ≢ v = two_apart (λ (r : Role). r.does) l.roles t v (record { owns = o; does = Scans2 [] })
      (record { owns = Shares 0; does = Queued2 f stay }) may.0 may.2 (λ e. cc) in
      ap (λ (x : Role). x.does)
      (same_Some _ r (sym
      (get-set_other (slice_set l.roles t (record { owns = o; does = Scans2 (v ∷ []) })) v t
      (record { owns = Shares 0; does = Taken2 f t stay }) (λ e. apart (sym e))
      ∙ get-set_same l.roles t _ (record { owns = o; does = Scans2 (v ∷ []) }) may.0) ∙ at))
  role_after (Store e s) may r at =
      ap (λ (x : Role). x.does)
      (same_Some _ r (sym
      (get-set_same (map (settle (ends_saying e)) l.roles) t (settle (ends_saying e) (scanning s)) _
      (slice_get-map (settle (ends_saying e)) l.roles t ∙ ap (option_map (settle (ends_saying e))) may.0)) ∙ at))
  role_after (Wake o v us k stay) may r at =
      ap (λ (x : Role). x.does) (same_Some _ r (sym (get-set_same (slice_set l.roles v (waking_to k)) t _ (record { owns = o; does = Wakes us })
      (get-set_other l.roles v t (waking_to k) (λ e. waking_apart k t stay o (v ∷ us) (same_Some _ _ (sym may.0 ∙ ap (λ i. slice_get l.roles i) (sym e) ∙ may.1))) ∙ may.0)) ∙ at))
  role_after (Pass o ws v us) may r at = ap (λ (x : Role). x.does) (same_Some _ r (sym (get-set_same l.roles t _ (record { owns = o; does = Wakes (ws ++ us) }) may.0) ∙ at))

-- within a call each step of the stepped thread lowers the ranks
pub ranks_fall : (recursive : Bool) (t : ℕ) (step : Step) (l : Lock) → IsSound l → Allowed recursive t step l → RanksFall recursive t step l (after t step l)
ranks_fall recursive t step l sound may stale a b at there busy now knows =
    let p = role_before recursive t l sound step may a at in
    let q = role_after recursive t l sound step may b there in
    subst (λ x. ranks false (after t step l) t x + 1 ≤ ranks stale l t a.does) q
    (subst (λ x. ranks false (after t step l) t (phase_after recursive t l sound step) + 1 ≤ ranks stale l t x) p
    (step_falls recursive t l sound stale step may (λ e. busy (sym p ∙ e)) now knows))

-- where the stepped thread sleeps or is in no call, all are counted alike
quiet : (n a b : ℕ) (w : Word) (p : Phase) → (p ≡ Idle) ⊎ IsTrue (is_asleep p) → (worst n p ≡ 0) × (fresh n w a b p ≡ 0)
quiet n a b w p (inl e) = (ap (worst n) e, ap (fresh n w a b) e)
quiet n a b w (Queued1 m Asleep) (inr e) = (refl, refl)
quiet n a b w (Taken1 m by how Asleep) (inr e) = (refl, refl)
quiet n a b w (Queued2 f Asleep) (inr e) = (refl, refl)
quiet n a b w (Taken2 f by Asleep) (inr e) = (refl, refl)
quiet n a b w p (inr e) = absurd cc

pub ranks_change : (l : Lock) → IsSound l → RanksChange l
ranks_change l sound t u a b at there still =
    let none = quiet (length l.roles) (length l.first) (length l.second) l.word a.does still in
    omega (arith, none.0, none.1, others-at (length l.roles) l.roles t a at, others-at (length l.roles) l.roles u b there)

-- the first step of a call
module _ (recursive : Bool) (n a b : ℕ) (w : Word) (few1 : a ≤ n) (few2 : b ≤ n) where
  plain_begins : (k : Plain) → (from k).does ≡ Idle → fresh n (written k w) a b (to k).does ≤ 18 * n + 9
  plain_begins (Begin n m) idle = omega (arith, to_come_few m, chosen (bars m w) (4 + (1 - w.parked1)) (1 + to_come m))
  plain_begins (Unshare n) idle = omega arith
  plain_begins (UnshareLast n) idle = omega arith
  plain_begins Unlock idle = omega arith
  plain_begins UnlockUpgradable idle = omega arith
  plain_begins LookExclusive idle = omega arith
  plain_begins LookUpgradable idle = omega arith
  plain_begins (Downgrade true) idle = omega arith
  plain_begins (Downgrade false) idle = omega arith
  plain_begins (DowngradeToUpgradable true) idle = omega arith
  plain_begins (DowngradeToUpgradable false) idle = omega arith
  plain_begins (DowngradeUpgradable true) idle = omega arith
  plain_begins (DowngradeUpgradable false) idle = omega arith
  plain_begins Upgrade idle = omega (arith, chosen (w.readers - 1) (4 + (1 - w.parked2)) 1)
  plain_begins UpgradeAtOnce idle = omega arith
  plain_begins k idle = absurd cc

pub ranks_begin : (recursive : Bool) (t : ℕ) (step : Step) (l : Lock) → IsSound l → Allowed recursive t step l → RanksBegin recursive t step l (after t step l)
ranks_begin recursive t step l sound may a b at there idle =
    begins step may (role_before recursive t l sound step may a at ∙ idle)
    (role_after recursive t l sound step may b there)
  where
    begins : (step : Step) → Allowed recursive t step l → phase_before recursive t l sound step ≡ Idle
        → phase_after recursive t l sound step ≡ b.does → ranks false (after t step l) t b.does ≤ ranks false l t a.does
        + (18 * length l.roles + 9)
    begins (Alone k) may was now =
        let small = plain_begins recursive (length l.roles) (length l.first) (length l.second) l.word (few1 recursive t l sound) (few2 recursive t l sound) k was in
        let same = others-set (length l.roles) l.roles t (from k) (to k) may.0 in
        subst (λ x. ranks false (after t (Alone k) l) t x ≤ ranks false l t a.does + (18 * length l.roles + 9)) now
        (subst (λ m. fresh m (written k l.word) (length l.first) (length l.second) (to k).does + rank_of_others m
        (slice_set l.roles t (to k)) t ≤ ranks false l t a.does + (18 * length l.roles + 9))
        (sym (length-set l.roles t (to k)))
        (omega (arith, small, same)))
    begins (List_changes (Join1 m)) may was now = absurd cc
    begins (List_changes (Join2 f)) may was now = absurd cc
    begins (List_changes (Quit1 m i)) may was now = absurd cc
    begins (List_changes (QuitLast1 m i)) may was now = absurd cc
    begins (List_changes (Quit2 f i)) may was now = absurd cc
    begins (Take1 s i v m stay) may was now = absurd cc
    begins (Take2 o v f stay) may was now = absurd cc
    begins (Store e s) may was now = absurd cc
    begins (Wake o v us k stay) may was now = absurd cc
    begins (Pass o ws v us) may was now = absurd cc
