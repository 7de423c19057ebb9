-- What follows for a sound lock.
use Rattle.std.proofs.Common.{◌≡◌, ◌≢◌, ℕ, zero, suc, ◌+◌, ◌<◌, ◌≤◌, ◌⊎◌, ⊎_elim, Bool, IsTrue, List, [], ◌∷◌, length}
use Rattle.std.proofs.Common.{Option, Some, None, slice_get, refl, sym, ap, ◌∙◌, inl, inr, arith}
use Rattle.std.proofs.lemmas.Option.{same_Some}
use Rattle.parking_lot_rules.specs.Roles.{Mode, Owned, Shares, Excludes, Upgrades, Asleep, Open, Normal, Handed, Phase}
use Rattle.parking_lot_rules.specs.Roles.{Idle, Seeks, Queued1, Taken1, Queued2, Taken2, Role, away}
use Rattle.parking_lot_rules.specs.Classes.{Class, Readers, Upgraders, Pending, Writers, Waiting1, Waiting2, Owing1}
use Rattle.parking_lot_rules.specs.Classes.{Owing2, Called, OpenWriters, OpenUpgraders, Masking, Strange, weight, total}
use Rattle.parking_lot_rules.specs.Classes.{weighs}
use Rattle.parking_lot_rules.specs.Lists.{occurs}
use Rattle.parking_lot_rules.specs.Lock.{Lock, Note, On1, On2, note_of, IsSound}
use Rattle.parking_lot_rules.specs.Laws.{WordTells, OwnersExclude, NothingIsLeft, is_asleep, IsWaker, SleepersAreKnown}
use Rattle.parking_lot_rules.specs.Laws.{SomebodyOwes, DebtsAreKept, is_at_work, IsOwner, SomebodyIsUp, SomebodyCanMove}
use Rattle.parking_lot_rules.specs.Laws.{RefusalsHaveACause}
use Rattle.parking_lot_rules.proofs.Totals.{total-at, away_weighs}
use Rattle.parking_lot_rules.proofs.Families.{total-none}
use Rattle.parking_lot_rules.proofs.Finding.{somebody, two_of, called_case, open_writer, open_upgrader, waker_owes}
use Rattle.parking_lot_rules.proofs.Finding.{none_or, owing1_owes, owing2_owes, owes_works}

-- an owner is at work, or in no call, or was handed the lock and is to be woken
owner_case : (o : Owned) (p : Phase) → 0 < weight Readers (record { owns = o; does = p }) + weight Upgraders
    (record { owns = o; does = p }) + weight Writers (record { owns = o; does = p })
    → weight Strange (record { owns = o; does = p }) ≡ 0 → IsTrue (is_at_work p)
    ⊎ (IsOwner (record { owns = o; does = p }) ⊎ ((by : ℕ) × (note : Note) × (note_of p ≡ Some (by, note))))
unfolding weight
owner_case (Shares zero) Idle some proper = absurd (omega arith)
owner_case (Shares zero) (Queued1 m Asleep) some proper = absurd (omega arith)
owner_case (Shares zero) (Queued2 f Asleep) some proper = absurd (omega arith)
owner_case (Shares zero) (Taken2 f by Asleep) some proper = inr (inr (by, On2, refl))
owner_case (Shares zero) (Taken1 m by Open Asleep) some proper = inr (inr (by, On1 Open, refl))
owner_case (Shares zero) (Taken1 m by Normal Asleep) some proper = inr (inr (by, On1 Normal, refl))
owner_case (Shares zero) (Taken1 m by Handed Asleep) some proper = inr (inr (by, On1 Handed, refl))
owner_case (Shares (suc n)) Idle some proper = inr (inl (refl, λ e. cc))
owner_case (Shares (suc n)) (Queued1 m Asleep) some proper = absurd (omega arith)
owner_case (Shares (suc n)) (Queued2 f Asleep) some proper = absurd (omega arith)
owner_case (Shares (suc n)) (Taken1 m by how Asleep) some proper = absurd (omega arith)
owner_case (Shares (suc n)) (Taken2 f by Asleep) some proper = absurd (omega arith)
owner_case Excludes Idle some proper = inr (inl (refl, λ e. cc))
owner_case Excludes (Queued1 m Asleep) some proper = absurd (omega arith)
owner_case Excludes (Queued2 f Asleep) some proper = absurd (omega arith)
owner_case Excludes (Taken1 m by how Asleep) some proper = absurd (omega arith)
owner_case Excludes (Taken2 f by Asleep) some proper = absurd (omega arith)
owner_case Upgrades Idle some proper = inr (inl (refl, λ e. cc))
owner_case Upgrades (Queued1 m Asleep) some proper = absurd (omega arith)
owner_case Upgrades (Queued2 f Asleep) some proper = absurd (omega arith)
owner_case Upgrades (Taken1 m by how Asleep) some proper = absurd (omega arith)
owner_case Upgrades (Taken2 f by Asleep) some proper = absurd (omega arith)
owner_case o p some proper = inl refl

-- a pending writer is at work, or to be woken, or sleeps in the second list
pending_case : (o : Owned) (p : Phase) → 0 < weight Pending (record { owns = o; does = p }) → IsTrue (is_at_work p)
    ⊎ (((by : ℕ) × (note : Note) × (note_of p ≡ Some (by, note)))
    ⊎ (0 < weight Waiting2 (record { owns = o; does = p })))
unfolding weight
pending_case o Idle some = absurd (omega arith)
pending_case o (Queued1 m Asleep) some = absurd (omega arith)
pending_case o (Queued2 f Asleep) some = inr (inr (omega arith))
pending_case o (Taken2 f by Asleep) some = inr (inl (by, On2, refl))
pending_case o (Taken1 m by Open Asleep) some = inr (inl (by, On1 Open, refl))
pending_case o (Taken1 m by Normal Asleep) some = inr (inl (by, On1 Normal, refl))
pending_case o (Taken1 m by Handed Asleep) some = inr (inl (by, On1 Handed, refl))
pending_case o p some = inl refl

module _ (l : Lock) (sound : IsSound l) where
  pub word_tells : WordTells l
  word_tells = record { number = omega (arith, sound.fits); bit1 = sound.fits.bit1; bit2 = sound.fits.bit2 }

  weighs_le : (c : Class) (u : ℕ) → weighs c (slice_get l.roles u) ≤ total c l.roles
  weighs_le c u = go (slice_get l.roles u) refl
    where
      go : (o : Option Role) → slice_get l.roles u ≡ o → weighs c (slice_get l.roles u) ≤ total c l.roles
      go None e = omega (arith, ap (weighs c) e)
      go (Some r) e = omega (arith, ap (weighs c) e, total-at l.roles u r e c)

  pub owners_exclude : OwnersExclude l
  owners_exclude = record {
    exclusive = λ t u ne some.
        let few : total Readers l.roles ≡ 0 = sound.fits.alone (omega (arith, some, weighs_le Writers t)) in
        omega (
          arith,
          few,
          some,
          sound.fits,
          weighs_le Writers t,
          weighs_le Readers u,
          weighs_le Upgraders u,
          weighs_le Pending u,
          two_of Writers l.roles t u ne,
        );
    one = λ t u ne some.
        omega (
          arith,
          some,
          sound.fits,
          two_of Upgraders l.roles t u ne,
          two_of Pending l.roles t u ne,
          two_of Writers l.roles t u ne,
        );
  }

  pub nothing_is_left : NothingIsLeft l
  nothing_is_left gone = (
    omega (
      arith,
      sound.fits,
      none Readers,
      none Upgraders,
      none Pending,
      none Writers,
      none Waiting1,
      none Waiting2,
      none Owing1,
      none Owing2,
      none_masking,
    ),
    empty l.first (sound.waiting1.count ∙ none Waiting1),
    empty l.second (sound.waiting2.count ∙ none Waiting2),
  )
    where
      none : (c : Class) → total c l.roles ≡ 0
      none c = total-none c l.roles (λ u. go u (slice_get l.roles u) refl)
        where
          go : (u : ℕ) (o : Option Role) → slice_get l.roles u ≡ o → weighs c (slice_get l.roles u) ≡ 0
          go u None e = ap (weighs c) e
          go u (Some r) e = ap (weighs c) e ∙ (ap (weight c) (gone u r e) ∙ away_weighs c)

      none_masking : total Masking l.roles ≡ 0
      none_masking = none Masking

      empty : (q : List ℕ) → length q ≡ 0 → q ≡ []
      empty [] e = refl
      empty (x ∷ q) e = absurd (omega (arith, e))

  waiting1_weighs : (u : ℕ) (r : Role) → slice_get l.roles u ≡ Some r → occurs u l.first + occurs u l.second ≡ weight
      Waiting1 r + weight Waiting2 r
  waiting1_weighs u r at =
      omega (arith, sound.waiting1.each u, sound.waiting2.each u, ap (weighs Waiting1) at, ap (weighs Waiting2) at)

  -- who took a thread is to wake it
  waker : (u by : ℕ) (r : Role) (note : Note) → slice_get l.roles u ≡ Some r → note_of r.does ≡ Some (by, note)
      → IsWaker l by u
  waker u by r note at took = let s = sound.noted u by r note at took in (s.0, note, s.1, s.2)

  sleeper : (u : ℕ) (o : Owned) (p : Phase) → slice_get l.roles u ≡ Some (record { owns = o; does = p })
      → IsTrue (is_asleep p) → (occurs u l.first + occurs u l.second ≡ 1) ⊎ ((by : ℕ) × IsWaker l by u)
  unfolding weight
  sleeper u o (Queued1 m Asleep) at asleep = inl (waiting1_weighs u _ at)
  sleeper u o (Queued2 f Asleep) at asleep = inl (waiting1_weighs u _ at)
  sleeper u o (Taken1 m by Open Asleep) at asleep = inr (by, waker u by _ (On1 Open) at refl)
  sleeper u o (Taken1 m by Normal Asleep) at asleep = inr (by, waker u by _ (On1 Normal) at refl)
  sleeper u o (Taken1 m by Handed Asleep) at asleep = inr (by, waker u by _ (On1 Handed) at refl)
  sleeper u o (Taken2 f by Asleep) at asleep = inr (by, waker u by _ On2 at refl)
  sleeper u o p at asleep = absurd cc

  pub sleepers_are_known : SleepersAreKnown l
  sleepers_are_known =
      record {
        first = sound.waiting1.each;
        second = sound.waiting2.each;
        asleep = λ u r at asleep. sleeper u r.owns r.does at asleep;
      }

  -- who is to wake a thread owes that
  waker_is_up : (by u : ℕ) → IsWaker l by u → SomebodyOwes l
  waker_is_up by u w = (by, w.0, w.2, waker_owes w.0.does w.1 u w.3)

  -- one that was called, or taken, owes or is to be woken by one that does
  called_owes : 0 < total Called l.roles → SomebodyOwes l
  called_owes some =
      let x = somebody Called l.roles some in
      ⊎_elim (λ h. (x.0, x.1, x.2, h)) (λ h. waker_is_up h.0 x.0 (waker x.0 h.0 x.1 h.1 x.2 h.2))
      (called_case x.1.owns x.1.does x.3)

  open_owes : 0 < total OpenWriters l.roles + total OpenUpgraders l.roles → SomebodyOwes l
  open_owes some = ⊎_elim
      (λ none.
      let x = somebody OpenUpgraders l.roles (omega (arith, some, none)) in
      let h = open_upgrader x.1.owns x.1.does x.3 in
      waker_is_up h.0 x.0 (waker x.0 h.0 x.1 h.1 x.2 h.2))
      (λ more.
      let x = somebody OpenWriters l.roles more in
      let h = open_writer x.1.owns x.1.does x.3 in
      waker_is_up h.0 x.0 (waker x.0 h.0 x.1 h.1 x.2 h.2))
      (none_or (total OpenWriters l.roles))

  owing1_up : 0 < total Owing1 l.roles → SomebodyOwes l
  owing1_up some = let x = somebody Owing1 l.roles some in (x.0, x.1, x.2, owing1_owes x.1 x.3)

  owing2_up : 0 < total Owing2 l.roles → SomebodyOwes l
  owing2_up some = let x = somebody Owing2 l.roles some in (x.0, x.1, x.2, owing2_owes x.1 x.3)

  debt1 : 0 < total Waiting1 l.roles → l.word.writer + l.word.upgradable ≡ 0 → SomebodyOwes l
  debt1 some free =
      let debt = sound.fits.debt1 some in
      ⊎_elim
      (λ none. ⊎_elim (λ neither. open_owes (omega (arith, debt, free, none, neither))) called_owes
      (none_or (total Called l.roles)))
      owing1_up
      (none_or (total Owing1 l.roles))

  pub debts_are_kept : DebtsAreKept l
  debts_are_kept = record {
    first = λ some free. debt1 (omega (arith, some, sound.waiting1.count)) (omega (arith, free, sound.fits));
    second = λ some free. owing2_up (omega (arith, some, free, sound.waiting2.count, sound.fits));
  }

  up : SomebodyOwes l → SomebodyIsUp l
  up x = (x.0, x.1, x.2, inl (owes_works x.1.does x.3))

  noted_up : (u : ℕ) (r : Role) → slice_get l.roles u ≡ Some r
      → ((by : ℕ) × (note : Note) × (note_of r.does ≡ Some (by, note))) → SomebodyIsUp l
  noted_up u r at x = up (waker_is_up x.0 u (waker u x.0 r x.1 at x.2))

  owner_up : (u : ℕ) (r : Role) → slice_get l.roles u ≡ Some r → 0 < weight Readers r + weight Upgraders r + weight
      Writers r → SomebodyIsUp l
  owner_up u r at some =
      let proper : weight Strange r ≡ 0 = omega (arith, sound.fits.proper, weighs_le Strange u, ap (weighs Strange) at)
      in
      ⊎_elim (λ work. (u, r, at, inl work))
      (λ more. ⊎_elim (λ owner. (u, r, at, inr owner)) (λ x. noted_up u r at x) more)
      (owner_case r.owns r.does some proper)

  owners_up : 0 < total Readers l.roles + total Upgraders l.roles + total Writers l.roles → SomebodyIsUp l
  owners_up some = ⊎_elim
      (λ none. ⊎_elim
      (λ neither. let x = somebody Writers l.roles (omega (arith, some, none, neither)) in
      owner_up x.0 x.1 x.2 (omega (arith, x.3)))
      (λ h. let x = somebody Upgraders l.roles h in owner_up x.0 x.1 x.2 (omega (arith, x.3)))
      (none_or (total Upgraders l.roles)))
      (λ h. let x = somebody Readers l.roles h in owner_up x.0 x.1 x.2 (omega (arith, x.3)))
      (none_or (total Readers l.roles))

  -- where a pending writer sleeps
  waiting2_up : 0 < total Waiting2 l.roles → SomebodyIsUp l
  waiting2_up some = ⊎_elim (λ none. owners_up (omega (arith, some, none, sound.fits))) (λ h. up (owing2_up h))
      (none_or (total Owing2 l.roles))

  pending_up : 0 < total Pending l.roles → SomebodyIsUp l
  pending_up some =
      let x = somebody Pending l.roles some in
      ⊎_elim
      (λ work. (x.0, x.1, x.2, inl work))
      (λ more. ⊎_elim (λ h. noted_up x.0 x.1 x.2 h)
      (λ h. waiting2_up (omega (arith, h, weighs_le Waiting2 x.0, ap (weighs Waiting2) x.2))) more)
      (pending_case x.1.owns x.1.does x.3)

  -- where somebody sleeps in the first list
  waiting1_up : 0 < total Waiting1 l.roles → SomebodyIsUp l
  waiting1_up some = ⊎_elim
      (λ free. up (debt1 some free))
      (λ taken. ⊎_elim (λ none. owners_up (omega (arith, taken, none, sound.fits))) pending_up
      (none_or (total Pending l.roles)))
      (none_or (l.word.writer + l.word.upgradable))

  sleeper_up : (u : ℕ) (o : Owned) (p : Phase) → slice_get l.roles u ≡ Some (record { owns = o; does = p })
      → IsTrue (is_asleep p) → SomebodyIsUp l
  unfolding weight
  sleeper_up u o (Queued1 m Asleep) at asleep =
      waiting1_up (omega (arith, weighs_le Waiting1 u, ap (weighs Waiting1) at))
  sleeper_up u o (Queued2 f Asleep) at asleep =
      waiting2_up (omega (arith, weighs_le Waiting2 u, ap (weighs Waiting2) at))
  sleeper_up u o (Taken1 m by Open Asleep) at asleep = noted_up u _ at (by, On1 Open, refl)
  sleeper_up u o (Taken1 m by Normal Asleep) at asleep = noted_up u _ at (by, On1 Normal, refl)
  sleeper_up u o (Taken1 m by Handed Asleep) at asleep = noted_up u _ at (by, On1 Handed, refl)
  sleeper_up u o (Taken2 f by Asleep) at asleep = noted_up u _ at (by, On2, refl)
  sleeper_up u o p at asleep = absurd cc

  pub somebody_can_move : SomebodyCanMove l
  somebody_can_move u r at asleep = sleeper_up u r.owns r.does at asleep

  -- whoever counts in a class in which a thread that only asks doesn't is another
  another : (c : Class) (t : ℕ) (mode : Mode) (woken : Bool)
      → slice_get l.roles t ≡ Some (record { owns = Shares 0; does = Seeks mode woken })
      → weight c (record { owns = Shares 0; does = Seeks mode woken }) ≡ 0
      → 0 < total c l.roles → (u : ℕ) × (r : Role) × (u ≢ t) × (slice_get l.roles u ≡ Some r) × (r ≢ away)
  another c t mode woken at nothing some =
      let x = somebody c l.roles some in (
        x.0,
        x.1,
        (λ e. omega (
          arith,
          x.3,
          nothing,
          ap (weight c) (same_Some x.1 _ (sym x.2 ∙ (ap (λ i. slice_get l.roles i) e ∙ at))),
        )),
        x.2,
        (λ e. omega (arith, x.3, ap (weight c) e, away_weighs c)),
      )

  pub refusals_have_a_cause : RefusalsHaveACause l
  unfolding weight
  refusals_have_a_cause t mode woken at ne =
      let other = λ (c : Class) (nothing : weight c (record { owns = Shares 0; does = Seeks mode woken }) ≡ 0)
      (some : 0 < total c l.roles). another c t mode woken at nothing some in
      ⊎_elim (λ a. ⊎_elim
      (λ b. ⊎_elim (λ c. ⊎_elim
      (λ d. ⊎_elim (λ e. ⊎_elim
      (λ f. ⊎_elim (λ g. ⊎_elim (λ h. absurd (ne (omega (arith, sound.fits, a, b, c, d, e, f, g, h))))
      (λ s. other Masking refl s) (none_or (total Masking l.roles)))
      (λ s. other Owing2 refl s) (none_or (total Owing2 l.roles)))
      (λ s. other Owing1 refl s) (none_or (total Owing1 l.roles)))
      (λ s. other Waiting1 refl s) (none_or (total Waiting1 l.roles)))
      (λ s. other Writers refl s) (none_or (total Writers l.roles)))
      (λ s. other Pending refl s) (none_or (total Pending l.roles)))
      (λ s. other Upgraders refl s) (none_or (total Upgraders l.roles)))
      (λ s. other Readers refl s) (none_or (total Readers l.roles))
