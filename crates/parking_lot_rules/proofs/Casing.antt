-- Every step is of its case: what it does to owners and lists, without the word.
use Rattle.std.proofs.Common.{◌≡◌, ◌≢◌, ℕ, zero, suc, ◌<◌, ◌≤◌, ⊎_elim, Bool, true, false, List, [], ◌∷◌, map, Option}
use Rattle.std.proofs.Common.{Some, None, option_map, slice_get, slice_set, refl, sym, ap, ◌∙◌, inl, inr, arith}
use Rattle.std.proofs.lemmas.List.{map-set}
use Rattle.std.proofs.lemmas.Option.{none-some, same_Some, slice_get-map}
use Rattle.parking_lot_rules.specs.Roles.{Mode, Shared, Exclusive, Upgradable, Owned, Shares, Excludes, Upgrades, Stay}
use Rattle.parking_lot_rules.specs.Roles.{Open, Normal, Handed, Cause, FromExclusive, FromUpgradable, Owed, Phase, Idle}
use Rattle.parking_lot_rules.specs.Roles.{Queued1, Taken1, Scans1, Stored1, Scans2, Role}
use Rattle.parking_lot_rules.specs.Classes.{Class, Readers, Upgraders, Pending, Writers, Strange, weight, total, weighs}
use Rattle.parking_lot_rules.specs.Classes.{is_owner, unless_owed}
use Rattle.parking_lot_rules.specs.Lock.{Lock, IsSound}
use Rattle.parking_lot_rules.specs.Plain.{Plain, Share, Pend, Drain, Upgradably, Exclude, ExpireTaken1, ReenterTaken1}
use Rattle.parking_lot_rules.specs.Plain.{Yield, YieldBack, Unshare, UnshareLast, Unlock, UnlockUpgradable, Downgrade}
use Rattle.parking_lot_rules.specs.Plain.{DowngradeToUpgradable, DowngradeUpgradable, Upgrade, UpgradeAtOnce, from, to}
use Rattle.parking_lot_rules.specs.Plain.{May}
use Rattle.parking_lot_rules.specs.Steps.{Step, Alone, List_changes, Take1, Take2, Store, Wake, Pass, Allowed, after}
use Rattle.parking_lot_rules.specs.Steps.{Join1, Join2, Quit1, QuitLast1, Quit2, Skip, look, wants, Scan, scanning}
use Rattle.parking_lot_rules.specs.Steps.{holds_upgradable, taking, Free, FreeUpgradable, Hand, HandUpgradable, Keep}
use Rattle.parking_lot_rules.specs.Steps.{settle, Waking, Retry, Own, OwnPending, OwnUpgradable, Recheck, waking_from}
use Rattle.parking_lot_rules.specs.Steps.{waking_to}
use Rattle.parking_lot_rules.specs.Owners.{Reading, Upgrading, Awaiting, Stand, Apart, Waits, Chosen, Standing, Owners}
use Rattle.parking_lot_rules.specs.Owners.{owner_for_good, stand_of, standing, owners, NoWriter, NoUpgrader, NoReader}
use Rattle.parking_lot_rules.specs.Owners.{SomeReader, dismissed, appointed, ArePassedOver, Nothing, IsCase, case_of}
use Rattle.parking_lot_rules.proofs.Indexed.{get-set_other}
use Rattle.parking_lot_rules.proofs.Totals.{total-at}
use Rattle.parking_lot_rules.proofs.Finding.{somebody, two_of, none_or}
use Rattle.parking_lot_rules.proofs.Owning.{owner_writes, owner_awaits, owner_upgrades, owner_reads, reader_of}
use Rattle.parking_lot_rules.proofs.Owning.{upgrader_of}
use Rattle.parking_lot_rules.proofs.Sounds.{waking_apart}

pub set-same : {X : Type 0} (xs : List X) (t : ℕ) (x : X) → slice_get xs t ≡ Some x → slice_set xs t x ≡ xs
set-same [] t x e = refl
set-same (y ∷ xs) zero x e = ap (λ z. z ∷ xs) (sym (same_Some y x e))
set-same (y ∷ xs) (suc t) x e = ap (λ zs. y ∷ zs) (set-same xs t x e)

same_owners : (a b : Owners) → a.threads ≡ b.threads → a.first ≡ b.first → a.second ≡ b.second → a ≡ b
same_owners a b e f g = λ i. record { threads = e i; first = f i; second = g i }

-- a role changes, and with it the standing
threads-set : (rs : List Role) (t : ℕ) (b : Role) (x : Standing) → standing b ≡ x
    → map standing (slice_set rs t b) ≡ slice_set (map standing rs) t x
threads-set rs t b x e = map-set standing rs t b ∙ ap (λ y. slice_set (map standing rs) t y) e

thread-at : (rs : List Role) (t : ℕ) (a : Role) (x : Standing) → slice_get rs t ≡ Some a → standing a ≡ x
    → slice_get (map standing rs) t ≡ Some x
thread-at rs t a x at e = slice_get-map standing rs t ∙ (ap (option_map standing) at ∙ ap (λ y. Some y) e)

-- or doesn't
threads-same : (rs : List Role) (t : ℕ) (a b : Role) → slice_get rs t ≡ Some a → standing b ≡ standing a
    → map standing (slice_set rs t b) ≡ map standing rs
threads-same rs t a b at e = threads-set rs t b (standing a) e ∙ set-same (map standing rs) t (standing a)
    (thread-at rs t a (standing a) at refl)

role-behind : (rs : List Role) (u : ℕ) (s : Standing) → slice_get (map standing rs) u ≡ Some s → (r : Role)
    × (slice_get rs u ≡ Some r) × (standing r ≡ s)
role-behind rs u s at = go (slice_get rs u) refl
  where
    go : (o : Option Role) → slice_get rs u ≡ o → (r : Role) × (slice_get rs u ≡ Some r) × (standing r ≡ s)
    go None e = absurd (none-some s (sym (slice_get-map standing rs u ∙ ap (option_map standing) e) ∙ at))
    go (Some r) e = (
      r,
      e,
      same_Some (standing r) s (sym (slice_get-map standing rs u ∙ ap (option_map standing) e) ∙ at),
    )

-- a step that leaves the standing of its thread
plain_stays : (k : Plain) → case_of (Alone k) ≡ Nothing → standing (to k) ≡ standing (from k)
plain_stays (Share n c) e = absurd cc
plain_stays (Pend c) e = absurd cc
plain_stays (Drain f c) e = absurd cc
plain_stays (Upgradably c) e = absurd cc
plain_stays Exclude e = absurd cc
plain_stays (Yield owing) e = absurd cc
plain_stays (YieldBack owing) e = absurd cc
plain_stays (Unshare n) e = absurd cc
plain_stays (UnshareLast n) e = absurd cc
plain_stays Unlock e = absurd cc
plain_stays UnlockUpgradable e = absurd cc
plain_stays (Downgrade owing) e = absurd cc
plain_stays (DowngradeToUpgradable owing) e = absurd cc
plain_stays (DowngradeUpgradable owing) e = absurd cc
plain_stays Upgrade e = absurd cc
plain_stays UpgradeAtOnce e = absurd cc
plain_stays (ExpireTaken1 Shared by Open) e = refl
plain_stays (ExpireTaken1 Shared by Normal) e = refl
plain_stays (ExpireTaken1 Shared by Handed) e = refl
plain_stays (ExpireTaken1 Exclusive by Open) e = refl
plain_stays (ExpireTaken1 Exclusive by Normal) e = refl
plain_stays (ExpireTaken1 Exclusive by Handed) e = refl
plain_stays (ExpireTaken1 Upgradable by Open) e = refl
plain_stays (ExpireTaken1 Upgradable by Normal) e = refl
plain_stays (ExpireTaken1 Upgradable by Handed) e = refl
plain_stays (ReenterTaken1 Shared by Open) e = refl
plain_stays (ReenterTaken1 Shared by Normal) e = refl
plain_stays (ReenterTaken1 Shared by Handed) e = refl
plain_stays (ReenterTaken1 Exclusive by Open) e = refl
plain_stays (ReenterTaken1 Exclusive by Normal) e = refl
plain_stays (ReenterTaken1 Exclusive by Handed) e = refl
plain_stays (ReenterTaken1 Upgradable by Open) e = refl
plain_stays (ReenterTaken1 Upgradable by Normal) e = refl
plain_stays (ReenterTaken1 Upgradable by Handed) e = refl
plain_stays k e = refl

waking_stays : (k : Waking) (t : ℕ) (stay : Stay) → standing (waking_to k) ≡ standing (waking_from k t stay)
waking_stays (Retry m) t stay = refl
waking_stays Own t stay = refl
waking_stays OwnPending t stay = refl
waking_stays OwnUpgradable t stay = refl
waking_stays (Recheck f) t stay = refl

scan_stays : (o : Owned) (c : Cause) (r r' : ℕ) (u u' w w' : Bool) (us us' : List ℕ)
    → ◌≡◌ {A = Standing} (standing (record { owns = o; does = Scans1 c r' u' w' us' }))
    (standing (record { owns = o; does = Scans1 c r u w us }))
scan_stays o FromExclusive r r' u u' w w' us us' = refl
scan_stays o FromUpgradable r r' u u' w w' us us' = refl
scan_stays o Owed r r' u u' w w' us us' = refl

taking_stays : (s : Scan) (v : ℕ) (m : Mode) → standing (scanning (taking s v m)) ≡ standing (scanning s)
taking_stays s v Shared = scan_stays s.owns s.cause _ _ _ _ _ _ _ _
taking_stays s v Exclusive = scan_stays s.owns s.cause _ _ _ _ _ _ _ _
taking_stays s v Upgradable = scan_stays s.owns s.cause _ _ _ _ _ _ _ _

-- those that are told
normal_standing : (o : Owned) (p : Phase)
    → ◌≡◌ {A = Standing} (standing (settle Normal (record { owns = o; does = p })))
    (dismissed (standing (record { owns = o; does = p })))
normal_standing o (Taken1 m by Open s) = refl
normal_standing o p = refl

handed_standing : (o : Owned) (p : Phase)
    → ◌≡◌ {A = Standing} (standing (settle Handed (record { owns = o; does = p })))
    (appointed (standing (record { owns = o; does = p })))
handed_standing o (Taken1 m by Open s) = refl
handed_standing o p = refl

normal_threads : (rs : List Role) → map standing (map (settle Normal) rs) ≡ map dismissed (map standing rs)
normal_threads [] = refl
normal_threads (r ∷ rs) = ap (λ x. x ∷ map standing (map (settle Normal) rs)) (normal_standing r.owns r.does)
    ∙ ap (λ xs. dismissed (standing r) ∷ xs) (normal_threads rs)

handed_threads : (rs : List Role) → map standing (map (settle Handed) rs) ≡ map appointed (map standing rs)
handed_threads [] = refl
handed_threads (r ∷ rs) = ap (λ x. x ∷ map standing (map (settle Handed) rs)) (handed_standing r.owns r.does)
    ∙ ap (λ xs. appointed (standing r) ∷ xs) (handed_threads rs)

waited : Stand → Mode
waited (Waits m) = m
waited s = Shared

waits_alike : (m n : Mode) → Waits m ≡ Waits n → m ≡ n
unfolding waited
waits_alike m n e = ap waited e

-- one that waits for a shared hold is never skipped
never_skipped : (p : Phase) (u w : Bool) → stand_of p ≡ Waits Shared → look u w (wants p) ≢ Skip
never_skipped (Queued1 Shared s) true true e skip = cc
never_skipped (Queued1 Shared s) true false e skip = cc
never_skipped (Queued1 Shared s) false true e skip = cc
never_skipped (Queued1 Shared s) false false e skip = cc
never_skipped (Queued1 Exclusive s) u w e skip = let same : Exclusive ≡ Shared = waits_alike Exclusive Shared e in cc
never_skipped (Queued1 Upgradable s) u w e skip = let same : Upgradable ≡ Shared = waits_alike Upgradable Shared e in cc
never_skipped (Taken1 m by Open s) u w e skip = cc
never_skipped (Taken1 m by Normal s) u w e skip = cc
never_skipped (Taken1 m by Handed s) u w e skip = cc
never_skipped p u w e skip = cc

no_owner : (o : Owned) → is_owner o ≡ 0 → o ≡ Shares 0
no_owner (Shares zero) e = refl
no_owner (Shares (suc n)) e = absurd (omega (arith, e))
no_owner Excludes e = absurd (omega (arith, e))
no_owner Upgrades e = absurd (omega (arith, e))

upgrader_weighs : weight Upgraders (record { owns = Upgrades; does = Idle }) ≡ 1
unfolding weight
upgrader_weighs = refl

module _ (recursive : Bool) (t : ℕ) (l : Lock) (sound : IsSound l) where
  weighs_le : (c : Class) (u : ℕ) (r : Role) → slice_get l.roles u ≡ Some r → weight c r ≤ total c l.roles
  weighs_le c u r at = omega (arith, total-at l.roles u r at c)

  no_writer : l.word.writer ≡ 0 → NoWriter (owners l)
  no_writer free u s at =
      let r = role-behind l.roles u s at in (
        (λ e. omega (
          arith,
          free,
          sound.fits,
          weighs_le Writers u r.0 r.1,
          owner_writes r.0.owns r.0.does (ap (λ (x : Standing). x.owner) r.2 ∙ e),
        )),
        (λ e. omega (
          arith,
          free,
          sound.fits,
          weighs_le Pending u r.0 r.1,
          owner_awaits r.0.owns r.0.does (ap (λ (x : Standing). x.owner) r.2 ∙ e),
        )),
      )

  no_upgrader : l.word.upgradable ≡ 0 → NoUpgrader (owners l)
  no_upgrader free u s at e =
      let r = role-behind l.roles u s at in
      omega (
        arith,
        free,
        sound.fits,
        weighs_le Upgraders u r.0 r.1,
        owner_upgrades r.0.owns r.0.does (ap (λ (x : Standing). x.owner) r.2 ∙ e),
      )

  no_reader : l.word.readers ≡ 0 → NoReader (owners l)
  no_reader free u n s at =
      let r = role-behind l.roles u s at in (
        (λ e. omega (
          arith,
          free,
          sound.fits,
          weighs_le Readers u r.0 r.1,
          owner_reads r.0.owns r.0.does n (ap (λ (x : Standing). x.owner) r.2 ∙ e),
        )),
        (λ e. omega (
          arith,
          free,
          sound.fits,
          weighs_le Upgraders u r.0 r.1,
          owner_upgrades r.0.owns r.0.does (ap (λ (x : Standing). x.owner) r.2 ∙ e),
        )),
      )

  is_proper : (u : ℕ) (r : Role) → slice_get l.roles u ≡ Some r → weight Strange r ≡ 0
  is_proper u r at = omega (arith, sound.fits.proper, weighs_le Strange u r at)

  some_reader : 0 < l.word.readers → SomeReader (owners l)
  some_reader some = ⊎_elim
      (λ none.
      let x = somebody Upgraders l.roles (omega (arith, some, none, sound.fits)) in (
        x.0,
        standing x.1,
        thread-at l.roles x.0 x.1 (standing x.1) x.2 refl,
        inr (upgrader_of x.1.owns x.1.does x.3 (is_proper x.0 x.1 x.2)),
      ))
      (λ h.
      let x = somebody Readers l.roles h in (
        x.0,
        standing x.1,
        thread-at l.roles x.0 x.1 (standing x.1) x.2 refl,
        inl (reader_of x.1.owns x.1.does x.3 (is_proper x.0 x.1 x.2)),
      ))
      (none_or (total Readers l.roles))

  -- a role that changes alone, with the word
  alone : (k : Plain) (x y : Standing) → slice_get l.roles t ≡ Some (from k) → standing (from k) ≡ x
      → standing (to k) ≡ y
      → (slice_get (owners l).threads t ≡ Some x)
      × (owners (after t (Alone k) l) ≡ record (owners l) { threads = slice_set (owners l).threads t y })
  alone k x y at e f =
      (thread-at l.roles t (from k) x at e, same_owners _ _ (threads-set l.roles t (to k) y f) refl refl)

  plain_case : (k : Plain) → slice_get l.roles t ≡ Some (from k) → May recursive k l.word (λ c. total c l.roles)
      → IsCase recursive t (case_of (Alone k)) (owners l) (owners (after t (Alone k) l))
  plain_case (Share n c) at may =
      let h = alone (Share n c) _ _ at refl refl in
      (h.0, ⊎_elim (λ free. inl (no_writer free)) (λ r. inr (r.0, some_reader r.1)) may, h.1)
  plain_case (Pend c) at may = let h = alone (Pend c) _ _ at refl refl in (h.0, no_writer may.0, no_upgrader may.1, h.1)
  plain_case (Drain f c) at may = let h = alone (Drain f c) _ _ at refl refl in (h.0, no_reader may, h.1)
  plain_case (Upgradably c) at may = let h = alone (Upgradably c) _ _ at refl refl in
      (h.0, no_writer may.0, no_upgrader may.1, h.1)
  plain_case Exclude at may = let h = alone Exclude _ _ at refl refl in
      (h.0, no_writer may.writer, no_reader may.readers, h.1)
  plain_case (Unshare n) at may = let h = alone (Unshare n) _ _ at refl refl in (h.0, refl, h.1)
  plain_case (UnshareLast n) at may = let h = alone (UnshareLast n) _ _ at refl refl in (h.0, refl, h.1)
  plain_case Unlock at may = let h = alone Unlock _ _ at refl refl in (h.0, refl, h.1)
  plain_case UnlockUpgradable at may = let h = alone UnlockUpgradable _ _ at refl refl in (h.0, refl, h.1)
  plain_case Upgrade at may = let h = alone Upgrade _ _ at refl refl in (h.0, tt, h.1)
  plain_case (Yield true) at may = let h = alone (Yield true) _ _ at refl refl in (h.0, inl refl, h.1)
  plain_case (YieldBack true) at may = let h = alone (YieldBack true) _ _ at refl refl in (h.0, inr refl, h.1)
  plain_case (Downgrade true) at may = let h = alone (Downgrade true) _ _ at refl refl in (h.0, refl, h.1)
  plain_case (DowngradeToUpgradable true) at may = let h = alone (DowngradeToUpgradable true) _ _ at refl refl in
      (h.0, tt, h.1)
  plain_case (DowngradeUpgradable true) at may = let h = alone (DowngradeUpgradable true) _ _ at refl refl in
      (h.0, refl, h.1)
  plain_case (Yield false) at may = let h = alone (Yield false) _ _ at refl refl in (h.0, inl refl, h.1)
  plain_case (YieldBack false) at may = let h = alone (YieldBack false) _ _ at refl refl in (h.0, inr refl, h.1)
  plain_case (Downgrade false) at may = let h = alone (Downgrade false) _ _ at refl refl in (h.0, refl, h.1)
  plain_case (DowngradeToUpgradable false) at may = let h = alone (DowngradeToUpgradable false) _ _ at refl refl in
      (h.0, tt, h.1)
  plain_case (DowngradeUpgradable false) at may = let h = alone (DowngradeUpgradable false) _ _ at refl refl in
      (h.0, refl, h.1)
  plain_case UpgradeAtOnce at may =
      let h = alone UpgradeAtOnce _ _ at refl refl in
      (h.0, (λ u n s ne there. others u n s ne there), h.1)
    where
      mine : weighs Upgraders (slice_get l.roles t) ≡ 1
      mine = ap (weighs Upgraders) at ∙ upgrader_weighs

      others : (u n : ℕ) (s : Standing) → u ≢ t → slice_get (map standing l.roles) u ≡ Some s
          → (s.owner ≢ Reading (suc n)) × (s.owner ≢ Upgrading)
      others u n s ne there =
          let r = role-behind l.roles u s there in (
            (λ e. omega (
              arith,
              may,
              sound.fits,
              mine,
              weighs_le Readers u r.0 r.1,
              owner_reads r.0.owns r.0.does n (ap (λ (x : Standing). x.owner) r.2 ∙ e),
              upgrader_weighs,
              weighs_le Upgraders t (record { owns = Upgrades; does = Idle }) at,
            )),
            (λ e. omega (
              arith,
              may,
              sound.fits,
              mine,
              two_of Upgraders l.roles t u (λ x. ne (sym x)),
              ap (weighs Upgraders) r.1,
              owner_upgrades r.0.owns r.0.does (ap (λ (x : Standing). x.owner) r.2 ∙ e),
            )),
          )
  plain_case k at may = same_owners _ _ (threads-same l.roles t (from k) (to k) at (plain_stays k refl)) refl refl

  -- who gives up a hold in a section owns nothing else
  freed : (s : Scan) (c : Cause) → s.cause ≡ c → slice_get l.roles t ≡ Some (scanning s) → unless_owed c 1 ≡ 1
      → s.owns ≡ Shares 0
  unfolding weight
  freed s c cause at giving =
      no_owner s.owns (go c giving
      (ap (λ x. unless_owed x (is_owner s.owns)) (sym cause) ∙ is_proper t (scanning s) at))
    where
      go : (c : Cause) → unless_owed c 1 ≡ 1 → unless_owed c (is_owner s.owns) ≡ 0 → is_owner s.owns ≡ 0
      go FromExclusive g h = h
      go FromUpgradable g h = h
      go Owed g h = absurd (omega (arith, g))

  pub step_case : (step : Step) → Allowed recursive t step l → IsCase recursive t (case_of step) (owners l)
      (owners (after t step l))
  step_case (Alone k) may = plain_case k may.0 may.1
  step_case (List_changes (Join1 m)) may =
      (thread-at l.roles t _ _ may.0 refl, same_owners _ _ (threads-set l.roles t _ _ refl) refl refl)
  step_case (List_changes (Join2 f)) may =
      (thread-at l.roles t _ _ may.0 refl, same_owners _ _ (threads-set l.roles t _ _ refl) refl refl)
  step_case (List_changes (Quit1 m i)) may =
      (thread-at l.roles t _ _ may.0 refl, may.1.0, same_owners _ _ (threads-set l.roles t _ _ refl) refl refl)
  step_case (List_changes (QuitLast1 m i)) may =
      (thread-at l.roles t _ _ may.0 refl, may.1.0, same_owners _ _ (threads-set l.roles t _ _ refl) refl refl)
  step_case (List_changes (Quit2 f i)) may =
      (thread-at l.roles t _ _ may.0 refl, may.1, same_owners _ _ (threads-set l.roles t _ _ refl) refl refl)
  step_case (Take1 s i v m stay) may = (
    may.1.waiter,
    thread-at l.roles v _ _ may.1.role refl,
    passed,
    same_owners _ _
        (threads-set (slice_set l.roles t (scanning (taking s v m))) v _ _ refl
        ∙ ap (λ ts. slice_set ts v (record { owner = Reading 0; stand = Chosen m }))
        (threads-same l.roles t (scanning s) (scanning (taking s v m)) may.0 (taking_stays s v m)))
        refl
        refl,
  )
    where
      passed : ArePassedOver (owners l) i
      passed j u x before listed there waits =
          let r = role-behind l.roles u x there in
          never_skipped r.0.does (holds_upgradable s) s.writer (ap (λ (y : Standing). y.stand) r.2 ∙ waits)
          (may.1.skipped j u r.0 before listed r.1)
  step_case (Take2 o v f stay) may = (
    may.1,
    thread-at l.roles v _ _ may.2 refl,
    same_owners _ _
        (threads-set (slice_set l.roles t (record { owns = o; does = Scans2 (v ∷ []) })) v _ _ refl
        ∙ ap (λ ts. slice_set ts v (record { owner = Awaiting; stand = Apart }))
        (threads-same l.roles t _ _ may.0 refl))
        refl
        refl,
  )
  step_case (Store Free s) may =
      let none : s.owns ≡ Shares 0 = freed s FromExclusive may.1 may.0 refl in (
        thread-at l.roles t (scanning s) _ may.0
            (ap (λ c. standing (record { owns = s.owns; does = Scans1 c s.shared s.upgradable s.writer s.taken }))
            may.1),
        refl,
        same_owners _ _ (threads-set (map (settle Normal) l.roles) t _ _
            (ap (λ o. standing (record { owns = o; does = Stored1 s.taken })) none)
            ∙ ap (λ ts. slice_set ts t (record { owner = Reading 0; stand = Apart })) (normal_threads l.roles)) refl
            refl,
      )
  step_case (Store FreeUpgradable s) may =
      let none : s.owns ≡ Shares 0 = freed s FromUpgradable may.1 may.0 refl in (
        thread-at l.roles t (scanning s) _ may.0
            (ap (λ c. standing (record { owns = s.owns; does = Scans1 c s.shared s.upgradable s.writer s.taken }))
            may.1),
        refl,
        same_owners _ _ (threads-set (map (settle Normal) l.roles) t _ _
            (ap (λ o. standing (record { owns = o; does = Stored1 s.taken })) none)
            ∙ ap (λ ts. slice_set ts t (record { owner = Reading 0; stand = Apart })) (normal_threads l.roles)) refl
            refl,
      )
  step_case (Store Hand s) may =
      let none : s.owns ≡ Shares 0 = freed s FromExclusive may.1 may.0 refl in (
        thread-at l.roles t (scanning s) _ may.0
            (ap (λ c. standing (record { owns = s.owns; does = Scans1 c s.shared s.upgradable s.writer s.taken }))
            may.1),
        refl,
        same_owners _ _ (threads-set (map (settle Handed) l.roles) t _ _
            (ap (λ o. standing (record { owns = o; does = Stored1 s.taken })) none)
            ∙ ap (λ ts. slice_set ts t (record { owner = Reading 0; stand = Apart })) (handed_threads l.roles)) refl
            refl,
      )
  step_case (Store HandUpgradable s) may =
      let none : s.owns ≡ Shares 0 = freed s FromUpgradable may.1 may.0 refl in (
        thread-at l.roles t (scanning s) _ may.0
            (ap (λ c. standing (record { owns = s.owns; does = Scans1 c s.shared s.upgradable s.writer s.taken }))
            may.1),
        refl,
        same_owners _ _ (threads-set (map (settle Handed) l.roles) t _ _
            (ap (λ o. standing (record { owns = o; does = Stored1 s.taken })) none)
            ∙ ap (λ ts. slice_set ts t (record { owner = Reading 0; stand = Apart })) (handed_threads l.roles)) refl
            refl,
      )
  step_case (Store Keep s) may = same_owners _ _
      (threads-set (map (settle Normal) l.roles) t _ _ refl
      ∙ (ap (λ ts. slice_set ts t (record { owner = owner_for_good s.owns; stand = Apart })) (normal_threads l.roles)
      ∙ set-same (map dismissed (map standing l.roles)) t _ (slice_get-map dismissed (map standing l.roles) t
      ∙ ap (option_map dismissed)
      (thread-at l.roles t (scanning s) _ may.0
      (ap (λ c. standing (record { owns = s.owns; does = Scans1 c s.shared s.upgradable s.writer s.taken }))
      may.1)))))
      refl
      refl
  step_case (Wake o v us k stay) may = same_owners _ _
      (threads-same (slice_set l.roles v (waking_to k)) t _ _
      (get-set_other l.roles v t (waking_to k)
      (λ e. waking_apart k t stay o (v ∷ us)
      (same_Some _ _ (sym may.0 ∙ ap (λ i. slice_get l.roles i) (sym e) ∙ may.1))) ∙ may.0)
      refl
      ∙ threads-same l.roles v _ (waking_to k) may.1 (waking_stays k t stay))
      refl
      refl
  step_case (Pass o ws v us) may = same_owners _ _ (threads-same l.roles t _ _ may.0 refl) refl refl
