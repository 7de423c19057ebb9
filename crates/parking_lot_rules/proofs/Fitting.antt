-- Steps that change a list or two roles keep the clauses that count.
use Rattle.std.proofs.Common.{◌≡◌, ℕ, zero, suc, ◌+◌, ◌<◌, ◌≤◌, ◌⊎◌, Bool, true, false, List, [], refl, inl, inr, arith}
use Rattle.parking_lot_rules.specs.Roles.{Mode, Shared, Exclusive, Upgradable, Owned, Shares, Excludes, Upgrades, Stay}
use Rattle.parking_lot_rules.specs.Roles.{Open, Cause, FromExclusive, FromUpgradable, Owed, Queued1, Taken1, Queued2}
use Rattle.parking_lot_rules.specs.Roles.{Taken2, Scans1, Stored1, Scans2, Wakes}
use Rattle.parking_lot_rules.specs.Classes.{Class, Upgraders, Waiting1, weight, owned, bit, inside, called}
use Rattle.parking_lot_rules.specs.Classes.{if_exclusive, if_upgradable, if_owed}
use Rattle.parking_lot_rules.specs.Clauses.{Word, Fits, Counts}
use Rattle.parking_lot_rules.proofs.Totals.{bit_le}
use Rattle.parking_lot_rules.specs.Steps.{Listing, Join1, Join2, Quit1, QuitLast1, Quit2, listing_from, listing_to}
use Rattle.parking_lot_rules.specs.Steps.{Take, look, has_upgradable, Scan, scanning, holds_upgradable, taking, Ending}
use Rattle.parking_lot_rules.specs.Steps.{Free, FreeUpgradable, Hand, HandUpgradable, Keep, ends_for, ends_saying}
use Rattle.parking_lot_rules.specs.Steps.{stored, settled, Waking, Retry, Own, OwnPending, OwnUpgradable, Recheck}
use Rattle.parking_lot_rules.specs.Steps.{waking_from, waking_to}

-- what the length of the first list has to be, as a number
abbrev pub MayCount : Listing → ℕ → Type 0
MayCount (Join1 m) waiting = Unit {0}
MayCount (Join2 f) waiting = Unit {0}
MayCount (Quit1 m i) waiting = 1 < waiting
MayCount (QuitLast1 m i) waiting = waiting ≡ 1
MayCount (Quit2 f i) waiting = Unit {0}

-- what is so where a number isn't 0
pub zero_or : {P : Type 0} → (n : ℕ) → (0 < n → P) → (n ≡ 0) ⊎ P
zero_or zero f = inl refl
zero_or (suc n) f = inr (f (omega arith))

upgradable_kept : (o : Owned) (c : Cause) → has_upgradable o c true ≡ true
upgradable_kept Upgrades Owed = refl
upgradable_kept Upgrades FromExclusive = refl
upgradable_kept Upgrades FromUpgradable = refl
upgradable_kept Excludes c = refl
upgradable_kept (Shares n) c = refl

-- who wants more than a shared hold is taken only where nobody like that was taken before
taken_alone : (u w : Bool) (m : Mode) → look u w m ≡ Take → called true m ≡ 1 → (w ≡ false) × (u ≡ false)
taken_alone false false m looks more = (refl, refl)
taken_alone true false Shared looks more = absurd (omega (arith, more))
taken_alone true false Exclusive looks more = absurd cc
taken_alone true false Upgradable looks more = absurd cc
taken_alone u true m looks more = absurd cc

no_upgradable : (o : Owned) (c : Cause) (u : Bool) → has_upgradable o c u ≡ false → bit u ≡ 0
no_upgradable o c false e = refl
no_upgradable o c true e = absurd (let h = upgradable_kept o c in cc)

no_writer : (w : Bool) → w ≡ false → bit w ≡ 0
no_writer false e = refl
no_writer true e = absurd (cc)

held : (o : Owned) (c : Cause) (u : Bool) → bit (has_upgradable o c u) ≤ bit u + owned Upgraders o
held Upgrades Owed u = omega (arith, bit_le u)
held Upgrades FromExclusive u = omega (arith, bit_le u)
held Upgrades FromUpgradable u = omega (arith, bit_le u)
held Excludes c u = omega arith
held (Shares n) c u = omega arith

-- each cause is one of the three
pub one_cause : (c : Cause) → if_exclusive c + if_upgradable c + if_owed c ≡ 1
one_cause FromExclusive = refl
one_cause FromUpgradable = refl
one_cause Owed = refl

module _ (w : Word) (rest : Class → ℕ) (counts : Counts rest) where
  pub listing_fits : (k : Listing) → Fits w (λ x. rest x + weight x (listing_from k))
      → MayCount k (rest Waiting1 + weight Waiting1 (listing_from k)) → Fits w (λ x. rest x + weight x (listing_to k))
  unfolding weight
  listing_fits (Join1 m) fits may = omega (arith, zero_or _ fits.debt1)
  listing_fits (Join2 f) fits may = omega arith
  listing_fits (Quit1 m i) fits may = omega arith
  listing_fits (QuitLast1 m i) fits may = omega arith
  listing_fits (Quit2 f i) fits may = omega arith

  -- two roles: a waiter is taken
  take_parts : (o : Owned) (c : Cause) (r : ℕ) (u x : Bool) (us : List ℕ) (v t : ℕ) (m : Mode) (stay : Stay)
      → look (has_upgradable o c u) x m ≡ Take
      → Fits w (λ k. rest k +
      (weight k (record { owns = o; does = Scans1 c r u x us }) + weight k
      (record { owns = Shares 0; does = Queued1 m stay })))
      → Fits w (λ k. rest k +
      (weight k (scanning
      (taking (record { owns = o; cause = c; shared = r; upgradable = u; writer = x; taken = us }) v m))
      + weight k (record { owns = Shares 0; does = Taken1 m t Open stay })))
  unfolding weight
  take_parts o c r u x us v t Shared stay looks fits = omega (arith, one_cause c)
  take_parts o c r u x us v t Exclusive stay looks fits =
      let free = taken_alone (has_upgradable o c u) x Exclusive looks refl in
      omega (arith, one_cause c, no_writer x free.0, no_upgradable o c u free.1)
  take_parts o c r u x us v t Upgradable stay looks fits =
      let free = taken_alone (has_upgradable o c u) x Upgradable looks refl in
      omega (arith, one_cause c, no_writer x free.0, no_upgradable o c u free.1)

  pub take_fits : (s : Scan) (v t : ℕ) (m : Mode) (stay : Stay) → look (holds_upgradable s) s.writer m ≡ Take
      → Fits w (λ k. rest k + (weight k (scanning s) + weight k (record { owns = Shares 0; does = Queued1 m stay })))
      → Fits w (λ k. rest k +
      (weight k (scanning (taking s v m)) + weight k (record { owns = Shares 0; does = Taken1 m t Open stay })))
  take_fits s v t m stay looks fits = take_parts s.owns s.cause s.shared s.upgradable s.writer s.taken v t m stay looks
      fits

  pub take2_fits : (o : Owned) (us : List ℕ) (v t : ℕ) (f : Bool) (stay : Stay)
      → Fits w (λ k. rest k +
      (weight k (record { owns = o; does = Scans2 [] }) + weight k
      (record { owns = Shares 0; does = Queued2 f stay })))
      → Fits w (λ k. rest k +
      (weight k (record { owns = o; does = Scans2 us }) + weight k
      (record { owns = Shares 0; does = Taken2 f t stay })))
  unfolding weight
  take2_fits o us v t f stay fits = omega arith

  -- the list of those that are still to wake weighs nothing
  pub pass_fits : (o : Owned) (us vs : List ℕ) → Fits w (λ k. rest k + weight k (record { owns = o; does = Wakes us }))
      → Fits w (λ k. rest k + weight k (record { owns = o; does = Wakes vs }))
  unfolding weight
  pass_fits o us vs fits = omega arith

  -- a thread is woken
  pub wake_fits : (k : Waking) (t : ℕ) (stay : Stay) → inside stay ≡ 0
      → Fits w (λ x. rest x + weight x (waking_from k t stay)) → Fits w (λ x. rest x + weight x (waking_to k))
  unfolding weight
  wake_fits (Retry m) t stay out fits = omega arith
  wake_fits Own t stay out fits = omega arith
  wake_fits OwnPending t stay out fits = omega arith
  wake_fits OwnUpgradable t stay out fits = omega arith
  wake_fits (Recheck f) t stay out fits = omega arith

  -- a section ends
  pub store_parts : (e : Ending) (o : Owned) (r : ℕ) (u x : Bool) (us : List ℕ) (left : ℕ) → left ≡ rest Waiting1
      → (0 < left → 0 < bit x + bit (has_upgradable o (ends_for e) u))
      → Fits w (λ k. rest k + weight k (record { owns = o; does = Scans1 (ends_for e) r u x us }))
      → Fits (stored e r u x left w)
      (λ k. settled (ends_saying e) rest k + weight k (record { owns = o; does = Stored1 us }))
  unfolding weight
  store_parts Free o r u x us zero same over fits = omega (arith, bit_le u, bit_le x, held o (ends_for Free) u)
  store_parts Free o r u x us (suc left) same over fits =
      omega (arith, bit_le u, bit_le x, held o (ends_for Free) u, over (omega arith))
  store_parts FreeUpgradable o r u x us zero same over fits =
      omega (arith, bit_le u, bit_le x, held o (ends_for FreeUpgradable) u)
  store_parts FreeUpgradable o r u x us (suc left) same over fits =
      omega (arith, bit_le u, bit_le x, held o (ends_for FreeUpgradable) u, over (omega arith))
  store_parts Hand o r u x us zero same over fits = omega (arith, bit_le u, bit_le x, held o (ends_for Hand) u)
  store_parts Hand o r u x us (suc left) same over fits =
      omega (arith, bit_le u, bit_le x, held o (ends_for Hand) u, over (omega arith))
  store_parts HandUpgradable o r u x us zero same over fits =
      omega (arith, bit_le u, bit_le x, held o (ends_for HandUpgradable) u)
  store_parts HandUpgradable o r u x us (suc left) same over fits =
      omega (arith, bit_le u, bit_le x, held o (ends_for HandUpgradable) u, over (omega arith))
  store_parts Keep o r u x us zero same over fits = omega (arith, bit_le u, bit_le x, held o (ends_for Keep) u)
  store_parts Keep o r u x us (suc left) same over fits =
      omega (arith, bit_le u, bit_le x, held o (ends_for Keep) u, over (omega arith))
