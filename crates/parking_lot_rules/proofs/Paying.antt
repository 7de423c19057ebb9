-- The debts at a lock are paid, and passed on.
use Rattle.std.proofs.Common.{◌≡◌, ◌≢◌, ℕ, zero, suc, ◌+◌, ◌<◌, ◌⊎◌, ⊎_elim, Bool, true, false, cond, ◌||◌, IsTrue}
use Rattle.std.proofs.Common.{List, [], ◌∷◌, ◌++◌, length, map, Option, Some, None, option_map, slice_get, slice_set}
use Rattle.std.proofs.Common.{refl, sym, ap, ◌∙◌, subst, inl, inr, arith}
use Rattle.std.proofs.lemmas.Option.{same_Some, slice_get-map}
use Rattle.parking_lot_rules.specs.Roles.{Owned, Shares, Excludes, Upgrades, Stay, Fresh, Asleep, Late, Back, Open}
use Rattle.parking_lot_rules.specs.Roles.{Normal, Handed, Phase, Seeks, Enters1, Queued1, Taken1, Queued2, Taken2}
use Rattle.parking_lot_rules.specs.Roles.{Owes1, Scans1, Stored1, Owes2, Scans2, Masked2, Wakes, Role, away}
use Rattle.parking_lot_rules.specs.Classes.{Class, Readers, Upgraders, Pending, Writers, Waiting1, Waiting2, Owing1}
use Rattle.parking_lot_rules.specs.Classes.{Owing2, Called, OpenWriters, OpenUpgraders, Strange, weight, total, bit}
use Rattle.parking_lot_rules.specs.Clauses.{Word, Fits, Counts}
use Rattle.parking_lot_rules.specs.Lists.{occurs, at_index}
use Rattle.parking_lot_rules.specs.Lock.{Lock, IsSound, Note, On1, On2, note_of, to_wake}
use Rattle.parking_lot_rules.specs.Plain.{Plain, Yield, Downgrade, DowngradeUpgradable, UnshareLast, from, to, May}
use Rattle.parking_lot_rules.specs.Steps.{Step, Alone, List_changes, Take1, Take2, Store, Wake, Pass, Allowed, after}
use Rattle.parking_lot_rules.specs.Steps.{Listing, Join1, listing_from, listing_to, scanning, taking, ends_saying}
use Rattle.parking_lot_rules.specs.Steps.{settle, Waking, Retry, Own, OwnPending, OwnUpgradable, Recheck, waking_from}
use Rattle.parking_lot_rules.specs.Steps.{waking_to}
use Rattle.parking_lot_rules.specs.Laws.{is_asleep}
use Rattle.parking_lot_rules.specs.Debts.{is_in_debt, passing, debts, SomebodyIsInDebt, SomebodyOwns, DebtsArePaid}
use Rattle.parking_lot_rules.specs.Debts.{DebtsArePassedOn}
use Rattle.parking_lot_rules.proofs.Indexed.{get-set_same, get-set_other, sum_by-set_at}
use Rattle.parking_lot_rules.proofs.Totals.{total-at, total-set, counts_all, same_counts}
use Rattle.parking_lot_rules.proofs.Finding.{somebody, none_or, open_writer, open_upgrader}
use Rattle.parking_lot_rules.proofs.Waiting.{occurs-cons, counted-same, counted-other}

-- the list of those that pass a test
module _ {R : Type 0} (test : ℕ → R → Bool) where
  pub passing-before : (n : ℕ) (rs : List R) (u : ℕ) → u < n → occurs u (passing test n rs) ≡ 0
  passing-before n [] u few = refl
  passing-before n (r ∷ rs) u few = go (test n r) (passing-before (suc n) rs u (omega (arith, few)))
    where
      go : (b : Bool) → occurs u (passing test (suc n) rs) ≡ 0
          → occurs u (cond b (n ∷ passing test (suc n) rs) (passing test (suc n) rs)) ≡ 0
      go true more = omega
          (arith, occurs-cons u n (passing test (suc n) rs), counted-other u n (λ e. omega (arith, few, e)), more)
      go false more = more

  first_of : (r : R) (rs : List R) (n : ℕ) → occurs n (passing test n (r ∷ rs)) ≡ bit (test n r)
  first_of r rs n = go (test n r)
    where
      go : (b : Bool) → occurs n (cond b (n ∷ passing test (suc n) rs) (passing test (suc n) rs)) ≡ bit b
      go true = omega (
        arith,
        occurs-cons n n (passing test (suc n) rs),
        counted-same n,
        passing-before (suc n) rs n (omega arith),
      )
      go false = passing-before (suc n) rs n (omega arith)

  pub passing-at : (rs : List R) (n u m : ℕ) → m ≡ n + u → occurs m (passing test n rs) ≡ at_index (λ r. bit (test m r))
      (slice_get rs u)
  passing-at [] n u m e = refl
  passing-at (r ∷ rs) n zero m e = let same : n ≡ m = omega (arith, e) in
      subst (λ x. occurs x (passing test n (r ∷ rs)) ≡ bit (test x r)) same (first_of r rs n)
  passing-at (r ∷ rs) n (suc u) m e = go (test n r) (passing-at rs (suc n) u m (omega (arith, e)))
    where
      go : (b : Bool) → occurs m (passing test (suc n) rs) ≡ at_index (λ r. bit (test m r)) (slice_get rs u)
          → occurs m (cond b (n ∷ passing test (suc n) rs) (passing test (suc n) rs)) ≡ at_index (λ r. bit (test m r))
          (slice_get rs u)
      go true more = omega
          (arith, occurs-cons m n (passing test (suc n) rs), counted-other m n (λ x. omega (arith, e, x)), more)
      go false more = more

abbrev IsNoted : Phase → Type 0
IsNoted p = (by : ℕ) × (note : Note) × (note_of p ≡ Some (by, note))

called_case : (o : Owned) (p : Phase) → 0 < weight Called (record { owns = o; does = p }) → IsTrue (is_in_debt p)
    ⊎ IsNoted p
unfolding weight
called_case o (Seeks m true) some = inl refl
called_case o (Seeks m false) some = absurd (omega arith)
called_case o (Enters1 m c) some = inl refl
called_case o (Taken1 m by Normal Asleep) some = inr (by, On1 Normal, refl)
called_case o (Taken1 m by Normal Fresh) some = inl refl
called_case o (Taken1 m by Normal Late) some = inl refl
called_case o (Taken1 m by Normal Back) some = inl refl
called_case o p some = absurd (omega arith)

waker_in_debt : (p : Phase) (note : Note) (u : ℕ) → 0 < occurs u (to_wake p note) → IsTrue (is_in_debt p)
waker_in_debt (Scans1 c r x w us) note u some = refl
waker_in_debt (Stored1 us) note u some = refl
waker_in_debt (Scans2 us) note u some = refl
waker_in_debt (Masked2 us) note u some = refl
waker_in_debt (Wakes (v ∷ us)) note u some = refl
waker_in_debt (Wakes []) (On1 Open) u some = absurd (omega arith)
waker_in_debt (Wakes []) (On1 Normal) u some = absurd (omega arith)
waker_in_debt (Wakes []) (On1 Handed) u some = absurd (omega arith)
waker_in_debt (Wakes []) On2 u some = absurd (omega arith)
waker_in_debt p note u some = absurd (omega arith)

owing1 : (o : Owned) (p : Phase) → 0 < weight Owing1 (record { owns = o; does = p }) → IsTrue (is_in_debt p)
unfolding weight
owing1 o Owes1 some = refl
owing1 o (Scans1 c r u w us) some = refl
owing1 o p some = absurd (omega arith)

owing2 : (o : Owned) (p : Phase) → 0 < weight Owing2 (record { owns = o; does = p }) → IsTrue (is_in_debt p)
unfolding weight
owing2 o Owes2 some = refl
owing2 o (Scans2 us) some = refl
owing2 o p some = absurd (omega arith)

-- an owner is awake, or to be woken, or waits for the readers
own_case : (o : Owned) (p : Phase)
    → 0 < weight Readers (record { owns = o; does = p }) + weight Upgraders (record { owns = o; does = p }) + weight
    Pending (record { owns = o; does = p }) + weight Writers (record { owns = o; does = p })
    → weight Strange (record { owns = o; does = p }) ≡ 0 → (is_asleep p ≡ false)
    ⊎ (IsNoted p ⊎ (0 < weight Waiting2 (record { owns = o; does = p })))
unfolding weight
own_case (Shares zero) (Queued1 m Asleep) some proper = absurd (omega arith)
own_case (Shares (suc n)) (Queued1 m Asleep) some proper = absurd (omega arith)
own_case Excludes (Queued1 m Asleep) some proper = absurd (omega arith)
own_case Upgrades (Queued1 m Asleep) some proper = absurd (omega arith)
own_case o (Queued2 f Asleep) some proper = inr (inr (omega arith))
own_case o (Taken1 m by Open Asleep) some proper = inr (inl (by, On1 Open, refl))
own_case o (Taken1 m by Normal Asleep) some proper = inr (inl (by, On1 Normal, refl))
own_case o (Taken1 m by Handed Asleep) some proper = inr (inl (by, On1 Handed, refl))
own_case o (Taken2 f by Asleep) some proper = inr (inl (by, On2, refl))
own_case o p some proper = inl refl

-- a reader doesn't wait
reader_case : (o : Owned) (p : Phase) → 0 < weight Readers (record { owns = o; does = p })
    → weight Strange (record { owns = o; does = p }) ≡ 0 → (is_asleep p ≡ false) ⊎ IsNoted p
unfolding weight
reader_case (Shares zero) (Queued1 m Asleep) some proper = absurd (omega arith)
reader_case (Shares (suc n)) (Queued1 m Asleep) some proper = absurd (omega arith)
reader_case Excludes (Queued1 m Asleep) some proper = absurd (omega arith)
reader_case Upgrades (Queued1 m Asleep) some proper = absurd (omega arith)
reader_case (Shares zero) (Queued2 f Asleep) some proper = absurd (omega arith)
reader_case (Shares (suc n)) (Queued2 f Asleep) some proper = absurd (omega arith)
reader_case Excludes (Queued2 f Asleep) some proper = absurd (omega arith)
reader_case Upgrades (Queued2 f Asleep) some proper = absurd (omega arith)
reader_case o (Taken1 m by Open Asleep) some proper = inr (by, On1 Open, refl)
reader_case o (Taken1 m by Normal Asleep) some proper = inr (by, On1 Normal, refl)
reader_case o (Taken1 m by Handed Asleep) some proper = inr (by, On1 Handed, refl)
reader_case o (Taken2 f by Asleep) some proper = inr (by, On2, refl)
reader_case o p some proper = inl refl

module _ (l : Lock) (sound : IsSound l) where
  waker : (u : ℕ) (r : Role) → slice_get l.roles u ≡ Some r → IsNoted r.does → SomebodyIsInDebt l
  waker u r at took =
      let s = sound.noted u took.0 r took.1 at took.2 in
      (took.0, s.0, s.1, waker_in_debt s.0.does took.1 u s.2)

  called_up : 0 < total Called l.roles → SomebodyIsInDebt l
  called_up some =
      let x = somebody Called l.roles some in
      ⊎_elim (λ h. (x.0, x.1, x.2, h)) (λ h. waker x.0 x.1 x.2 h) (called_case x.1.owns x.1.does x.3)

  open_up : 0 < total OpenWriters l.roles + total OpenUpgraders l.roles → SomebodyIsInDebt l
  open_up some = ⊎_elim
      (λ none. let x = somebody OpenUpgraders l.roles (omega (arith, some, none)) in
      waker x.0 x.1 x.2 (open_upgrader x.1.owns x.1.does x.3))
      (λ more. let x = somebody OpenWriters l.roles more in waker x.0 x.1 x.2 (open_writer x.1.owns x.1.does x.3))
      (none_or (total OpenWriters l.roles))

  owing1_up : 0 < total Owing1 l.roles → SomebodyIsInDebt l
  owing1_up some = let x = somebody Owing1 l.roles some in (x.0, x.1, x.2, owing1 x.1.owns x.1.does x.3)

  owing2_up : 0 < total Owing2 l.roles → SomebodyIsInDebt l
  owing2_up some = let x = somebody Owing2 l.roles some in (x.0, x.1, x.2, owing2 x.1.owns x.1.does x.3)

  debt1 : 0 < total Waiting1 l.roles → l.word.writer + l.word.upgradable ≡ 0 → SomebodyIsInDebt l
  debt1 some free =
      let debt = sound.fits.debt1 some in
      ⊎_elim
      (λ none. ⊎_elim (λ neither. open_up (omega (arith, debt, free, none, neither))) called_up
      (none_or (total Called l.roles)))
      owing1_up
      (none_or (total Owing1 l.roles))

  proper : (u : ℕ) (r : Role) → slice_get l.roles u ≡ Some r → weight Strange r ≡ 0
  proper u r at = omega (arith, sound.fits.proper, total-at l.roles u r at Strange)

  readers_up : 0 < total Readers l.roles → SomebodyIsInDebt l ⊎ SomebodyOwns l
  readers_up some =
      let x = somebody Readers l.roles some in
      ⊎_elim (λ up. inr (x.0, x.1, x.2, omega (arith, x.3), up)) (λ h. inl (waker x.0 x.1 x.2 h))
      (reader_case x.1.owns x.1.does x.3 (proper x.0 x.1 x.2))

  -- where a pending writer waits
  waiting2_up : 0 < total Waiting2 l.roles → SomebodyIsInDebt l ⊎ SomebodyOwns l
  waiting2_up some = ⊎_elim (λ none. readers_up (omega (arith, some, none, sound.fits))) (λ h. inl (owing2_up h))
      (none_or (total Owing2 l.roles))

  owner_up : (u : ℕ) (r : Role) → slice_get l.roles u ≡ Some r → 0 < weight Readers r + weight Upgraders r + weight
      Pending r + weight Writers r → SomebodyIsInDebt l ⊎ SomebodyOwns l
  owner_up u r at some = ⊎_elim
      (λ up. inr (u, r, at, some, up))
      (λ more. ⊎_elim (λ h. inl (waker u r at h))
      (λ h. waiting2_up (omega (arith, h, total-at l.roles u r at Waiting2))) more)
      (own_case r.owns r.does some (proper u r at))

  owners_up : 0 < total Upgraders l.roles + total Pending l.roles + total Writers l.roles → SomebodyIsInDebt l
      ⊎ SomebodyOwns l
  owners_up some = ⊎_elim
      (λ none. ⊎_elim
      (λ neither. let x = somebody Writers l.roles (omega (arith, some, none, neither)) in
      owner_up x.0 x.1 x.2 (omega (arith, x.3)))
      (λ h. let x = somebody Pending l.roles h in owner_up x.0 x.1 x.2 (omega (arith, x.3)))
      (none_or (total Pending l.roles)))
      (λ h. let x = somebody Upgraders l.roles h in owner_up x.0 x.1 x.2 (omega (arith, x.3)))
      (none_or (total Upgraders l.roles))

  waiting1_up : 0 < total Waiting1 l.roles → SomebodyIsInDebt l ⊎ SomebodyOwns l
  waiting1_up some = ⊎_elim (λ free. inl (debt1 some free)) (λ taken. owners_up (omega (arith, taken, sound.fits)))
      (none_or (l.word.writer + l.word.upgradable))

  sleeper_up : (u : ℕ) (o : Owned) (p : Phase) → slice_get l.roles u ≡ Some (record { owns = o; does = p })
      → IsTrue (is_asleep p) → SomebodyIsInDebt l ⊎ SomebodyOwns l
  unfolding weight
  sleeper_up u o (Queued1 m Asleep) at asleep = waiting1_up (omega (arith, total-at l.roles u _ at Waiting1))
  sleeper_up u o (Queued2 f Asleep) at asleep = waiting2_up (omega (arith, total-at l.roles u _ at Waiting2))
  sleeper_up u o (Taken1 m by Open Asleep) at asleep = inl (waker u _ at (by, On1 Open, refl))
  sleeper_up u o (Taken1 m by Normal Asleep) at asleep = inl (waker u _ at (by, On1 Normal, refl))
  sleeper_up u o (Taken1 m by Handed Asleep) at asleep = inl (waker u _ at (by, On1 Handed, refl))
  sleeper_up u o (Taken2 f by Asleep) at asleep = inl (waker u _ at (by, On2, refl))
  sleeper_up u o p at asleep = absurd cc

  pub debts_are_paid : DebtsArePaid l
  debts_are_paid = record {
    listed = λ saw u r at. passing-at (λ v s. saw v || is_in_debt s.does) l.roles 0 u u (omega arith)
        ∙ ap (at_index (λ s. bit (saw u || is_in_debt s.does))) at;
    strangers = λ saw u some. there saw u some (slice_get l.roles u) refl;
    first = λ some free. debt1 (omega (arith, some, sound.waiting1.count)) (omega (arith, free, sound.fits));
    second = λ some free. owing2_up (omega (arith, some, free, sound.waiting2.count, sound.fits));
    sleepers = λ u r at asleep. sleeper_up u r.owns r.does at asleep;
  }
    where
      there : (saw : ℕ → Bool) (u : ℕ) → 0 < occurs u (debts saw l) → (o : Option Role) → slice_get l.roles u ≡ o
          → (r : Role) × (slice_get l.roles u ≡ Some r)
      there saw u some None e =
          absurd (omega (
            arith,
            some,
            passing-at (λ v s. saw v || is_in_debt s.does) l.roles 0 u u (omega arith),
            ap (at_index (λ (s : Role). bit (saw u || is_in_debt s.does))) e,
          ))
      there saw u some (Some r) e = (r, e)

-- a step of one thread alone by which the last owner goes
plain_first : (recursive : Bool) (k : Plain) (w : Word) (rest : Class → ℕ) → Fits w (λ c. rest c + weight c (from k))
    → May recursive k w (λ c. rest c + weight c (from k)) → 0 < rest Waiting1 + weight Waiting1 (from k)
    → 0 < (rest Writers + weight Writers (from k)) + (rest Pending + weight Pending (from k)) +
    (rest Upgraders + weight Upgraders (from k))
    → (rest Writers + weight Writers (to k)) + (rest Pending + weight Pending (to k)) +
    (rest Upgraders + weight Upgraders (to k)) ≡ 0 → IsTrue (is_in_debt (to k).does)
unfolding weight
plain_first recursive (Yield true) w rest fits may some before none = refl
plain_first recursive (Yield false) w rest fits may some before none = absurd (omega arith)
plain_first recursive (Downgrade true) w rest fits may some before none = refl
plain_first recursive (Downgrade false) w rest fits may some before none = absurd (omega arith)
plain_first recursive (DowngradeUpgradable true) w rest fits may some before none = refl
plain_first recursive (DowngradeUpgradable false) w rest fits may some before none = absurd (omega arith)
plain_first recursive k w rest fits may some before none = absurd (omega arith)

-- and one by which the last reader goes
plain_second : (recursive : Bool) (k : Plain) (w : Word) (rest : Class → ℕ) → Counts rest
    → Fits w (λ c. rest c + weight c (from k)) → May recursive k w (λ c. rest c + weight c (from k))
    → 0 < rest Waiting2 + weight Waiting2 (from k)
    → 0 < (rest Readers + weight Readers (from k)) + (rest Upgraders + weight Upgraders (from k))
    → (rest Readers + weight Readers (to k)) + (rest Upgraders + weight Upgraders (to k)) ≡ 0
    → IsTrue (is_in_debt (to k).does)
unfolding weight
plain_second recursive (UnshareLast n) w rest counts fits may some before none = refl
plain_second recursive k w rest counts fits may some before none = absurd (omega arith)

listing_in_debt : (k : Listing) → IsTrue (is_in_debt (listing_to k).does)
listing_in_debt (Join1 m) = refl
listing_in_debt k = refl

-- who owns doesn't change where a thread is woken
woken_owns : (k : Waking) (t : ℕ) (stay : Stay) → (weight Readers (waking_to k) ≡ weight Readers (waking_from k t stay))
    × (weight Upgraders (waking_to k) ≡ weight Upgraders (waking_from k t stay))
    × (weight Pending (waking_to k) ≡ weight Pending (waking_from k t stay))
    × (weight Writers (waking_to k) ≡ weight Writers (waking_from k t stay))
unfolding weight
woken_owns (Retry m) t stay = (refl, refl, refl, refl)
woken_owns Own t stay = (refl, refl, refl, refl)
woken_owns OwnPending t stay = (refl, refl, refl, refl)
woken_owns OwnUpgradable t stay = (refl, refl, refl, refl)
woken_owns (Recheck f) t stay = (refl, refl, refl, refl)

still_owns : (o : Owned) (us vs : List ℕ)
    → (weight Readers (record { owns = o; does = Wakes us }) ≡ weight Readers (record { owns = o; does = Wakes vs }))
    × (weight Upgraders (record { owns = o; does = Wakes us }) ≡ weight Upgraders
    (record { owns = o; does = Wakes vs }))
    × (weight Pending (record { owns = o; does = Wakes us }) ≡ weight Pending (record { owns = o; does = Wakes vs }))
    × (weight Writers (record { owns = o; does = Wakes us }) ≡ weight Writers
    (record { owns = o; does = Wakes vs }))
unfolding weight
still_owns o us vs = (refl, refl, refl, refl)

total-same : (c : Class) (rs : List Role) (t : ℕ) (a b : Role) → slice_get rs t ≡ Some a → weight c b ≡ weight c a
    → total c (slice_set rs t b) ≡ total c rs
total-same c rs t a b at same = omega (arith, sum_by-set_at (weight c) rs t a b at, same)

-- the same owners as before
abbrev SameOwners : List Role → List Role → Type 0
SameOwners rs qs = (total Readers qs ≡ total Readers rs) × (total Upgraders qs ≡ total Upgraders rs)
    × (total Pending qs ≡ total Pending rs) × (total Writers qs ≡ total Writers rs)

pass_same : (rs : List Role) (t : ℕ) (o : Owned) (us vs : List ℕ)
    → slice_get rs t ≡ Some (record { owns = o; does = Wakes vs })
    → SameOwners rs (slice_set rs t (record { owns = o; does = Wakes us }))
pass_same rs t o us vs at =
    let h = still_owns o us vs in (
      total-same Readers rs t _ _ at h.0,
      total-same Upgraders rs t _ _ at h.1,
      total-same Pending rs t _ _ at h.2,
      total-same Writers rs t _ _ at h.3,
    )

wake_same : (rs : List Role) (t v : ℕ) (o : Owned) (us vs : List ℕ) (k : Waking) (stay : Stay) → v ≢ t
    → slice_get rs t ≡ Some (record { owns = o; does = Wakes vs }) → slice_get rs v ≡ Some (waking_from k t stay)
    → SameOwners rs (slice_set (slice_set rs v (waking_to k)) t (record { owns = o; does = Wakes us }))
wake_same rs t v o us vs k stay ne at there =
    let h = woken_owns k t stay in
    let g = pass_same (slice_set rs v (waking_to k)) t o us vs (get-set_other rs v t (waking_to k) ne ∙ at) in (
      g.0 ∙ total-same Readers rs v _ _ there h.0,
      g.1 ∙ total-same Upgraders rs v _ _ there h.1,
      g.2 ∙ total-same Pending rs v _ _ there h.2,
      g.3 ∙ total-same Writers rs v _ _ there h.3,
    )

waking_apart : (k : Waking) (t v : ℕ) (stay : Stay) (rs : List Role) (o : Owned) (us : List ℕ)
    → slice_get rs t ≡ Some (record { owns = o; does = Wakes us }) → slice_get rs v ≡ Some (waking_from k t stay)
    → v ≢ t
waking_apart k t v stay rs o us at there e =
    go k (ap (λ (r : Role). r.does) (same_Some _ _ (sym at ∙ ap (λ i. slice_get rs i) (sym e) ∙ there)))
  where
    go : (k : Waking) → Wakes us ≡ (waking_from k t stay).does → ⊥
    go (Retry m) x = cc
    go Own x = cc
    go OwnPending x = cc
    go OwnUpgradable x = cc
    go (Recheck f) x = cc

module _ (recursive : Bool) (t : ℕ) (l : Lock) (sound : IsSound l) where
  -- in debt is the role that was written
  written_so : (rs : List Role) (x y b : Role) → slice_get rs t ≡ Some x → slice_get (slice_set rs t y) t ≡ Some b
      → IsTrue (is_in_debt y.does) → IsTrue (is_in_debt b.does)
  written_so rs x y b at there h = subst (λ (r : Role). IsTrue (is_in_debt r.does))
      (same_Some y b (sym (get-set_same rs t x y at) ∙ there)) h

  taker_so : (v : ℕ) (x y z c b : Role) → slice_get l.roles t ≡ Some x → slice_get l.roles v ≡ Some c → x.does ≢ c.does
      → slice_get (slice_set (slice_set l.roles t y) v z) t ≡ Some b → IsTrue (is_in_debt y.does)
      → IsTrue (is_in_debt b.does)
  taker_so v x y z c b at waits ne there h =
      let apart : v ≢ t =
      λ e. ne (ap (λ (r : Role). r.does) (same_Some x c (sym at ∙ ap (λ i. slice_get l.roles i) (sym e) ∙ waits)))
      in
      written_so l.roles x y b at (sym (get-set_other (slice_set l.roles t y) v t z apart) ∙ there) h

  alone_fits : (a : Role) → slice_get l.roles t ≡ Some a
      → Fits l.word (λ c. total c (slice_set l.roles t away) + weight c a)
  alone_fits a at = same_counts (Fits l.word) _ _ (total-at l.roles t a at) sound.fits

  -- the totals after a step of one thread alone
  first_alone : (k : Plain) (b : Role) → Allowed recursive t (Alone k) l → slice_get (slice_set l.roles t (to k)) t
      ≡ Some b → 0 < length l.first → 0 < total Writers l.roles + total Pending l.roles + total Upgraders l.roles
      → total Writers (slice_set l.roles t (to k)) + total Pending (slice_set l.roles t (to k)) + total Upgraders
      (slice_set l.roles t (to k)) ≡ 0 → IsTrue (is_in_debt b.does)
  first_alone k b may there some before none =
      written_so l.roles (from k) (to k) b may.0 there
      (plain_first recursive k l.word (λ c. total c (slice_set l.roles t away)) (alone_fits (from k) may.0)
      (same_counts (May recursive k l.word) _ _ (total-at l.roles t (from k) may.0) may.1)
      (omega (arith, some, sound.waiting1.count, total-at l.roles t (from k) may.0 Waiting1))
      (omega (
        arith,
        before,
        total-at l.roles t (from k) may.0 Writers,
        total-at l.roles t (from k) may.0 Pending,
        total-at l.roles t (from k) may.0 Upgraders,
      ))
      (omega (
        arith,
        none,
        total-set l.roles t (from k) (to k) may.0 Writers,
        total-set l.roles t (from k) (to k) may.0 Pending,
        total-set l.roles t (from k) (to k) may.0 Upgraders,
      )))

  second_alone : (k : Plain) (b : Role) → Allowed recursive t (Alone k) l → slice_get (slice_set l.roles t (to k)) t
      ≡ Some b → 0 < length l.second → 0 < total Readers l.roles + total Upgraders l.roles
      → total Readers (slice_set l.roles t (to k)) + total Upgraders (slice_set l.roles t (to k)) ≡ 0
      → IsTrue (is_in_debt b.does)
  second_alone k b may there some before none =
      written_so l.roles (from k) (to k) b may.0 there
      (plain_second recursive k l.word (λ c. total c (slice_set l.roles t away)) (counts_all (slice_set l.roles t away))
      (alone_fits (from k) may.0)
      (same_counts (May recursive k l.word) _ _ (total-at l.roles t (from k) may.0) may.1)
      (omega (arith, some, sound.waiting2.count, total-at l.roles t (from k) may.0 Waiting2))
      (omega (arith, before, total-at l.roles t (from k) may.0 Readers, total-at l.roles t (from k) may.0 Upgraders))
      (omega (
        arith,
        none,
        total-set l.roles t (from k) (to k) may.0 Readers,
        total-set l.roles t (from k) (to k) may.0 Upgraders,
      )))

  -- every other step leaves its thread in debt, or the owners as they are
  other_step : (step : Step) → ((k : Plain) → step ≢ Alone k) → Allowed recursive t step l → (b : Role)
      → slice_get (after t step l).roles t ≡ Some b → IsTrue (is_in_debt b.does)
      ⊎ SameOwners l.roles (after t step l).roles
  other_step (Alone k) apart may b there = absurd (apart k refl)
  other_step (List_changes k) apart may b there =
      inl (written_so l.roles (listing_from k) (listing_to k) b may.0 there (listing_in_debt k))
  other_step (Take1 s i v m stay) apart may b there =
      inl (taker_so v (scanning s) (scanning (taking s v m)) _ _ b may.0 may.1.role (λ e. cc) there refl)
  other_step (Take2 o v f stay) apart may b there =
      inl (taker_so v (record { owns = o; does = Scans2 [] }) (record { owns = o; does = Scans2 (v ∷ []) }) _ _ b may.0
      may.2 (λ e. cc) there refl)
  other_step (Store e s) apart may b there =
      inl (subst (λ (r : Role). IsTrue (is_in_debt r.does))
      (same_Some (record { owns = s.owns; does = Stored1 s.taken }) b
      (sym (get-set_same (map (settle (ends_saying e)) l.roles) t (settle (ends_saying e) (scanning s))
      (record { owns = s.owns; does = Stored1 s.taken })
      (slice_get-map (settle (ends_saying e)) l.roles t ∙ ap (option_map (settle (ends_saying e))) may.0)) ∙ there))
      refl)
  other_step (Wake o v us k stay) apart may b there =
      inr (wake_same l.roles t v o us (v ∷ us) k stay (waking_apart k t v stay l.roles o (v ∷ us) may.0 may.1) may.0
      may.1)
  other_step (Pass o ws v us) apart may b there = inr (pass_same l.roles t o (ws ++ us) (ws ++ v ∷ us) may.0)

  first_passed : (step : Step) → Allowed recursive t step l → (b : Role) → slice_get (after t step l).roles t ≡ Some b
      → 0 < length l.first → 0 < total Writers l.roles + total Pending l.roles + total Upgraders l.roles
      → total Writers (after t step l).roles + total Pending (after t step l).roles + total Upgraders
      (after t step l).roles ≡ 0 → IsTrue (is_in_debt b.does)
  first_passed (Alone k) may b there some before none = first_alone k b may there some before none
  first_passed step may b there some before none =
      ⊎_elim (λ h. h) (λ (h : SameOwners l.roles (after t step l).roles). absurd (omega (arith, before, none, h)))
      (other_step step (λ k e. cc) may b there)

  second_passed : (step : Step) → Allowed recursive t step l → (b : Role) → slice_get (after t step l).roles t ≡ Some b
      → 0 < length l.second → 0 < total Readers l.roles + total Upgraders l.roles
      → total Readers (after t step l).roles + total Upgraders (after t step l).roles ≡ 0 → IsTrue (is_in_debt b.does)
  second_passed (Alone k) may b there some before none = second_alone k b may there some before none
  second_passed step may b there some before none =
      ⊎_elim (λ h. h) (λ (h : SameOwners l.roles (after t step l).roles). absurd (omega (arith, before, none, h)))
      (other_step step (λ k e. cc) may b there)

pub debts_are_passed_on : (recursive : Bool) (t : ℕ) (step : Step) (l : Lock) → IsSound l → Allowed recursive t step l
    → DebtsArePassedOn recursive t step l (after t step l)
debts_are_passed_on recursive t step l sound may =
    record { first = first_passed recursive t l sound step may; second = second_passed recursive t l sound step may }
