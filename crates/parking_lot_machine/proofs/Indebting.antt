-- Where threads wait at a lock that keeps nobody out, somebody there is in debt.
use Rattle.std.proofs.Math.Bool.{or-true}
use Rattle.std.proofs.Common.{◌≡◌, ◌≢◌, ℕ, zero, suc, ◌+◌, ◌<◌, ◌&&◌, ◌||◌, ◌⊎◌, inl, inr, Bool, true, false, not}
use Rattle.std.proofs.Common.{length, Option}
use Rattle.std.proofs.Common.{Some, None, slice_get, refl, sym, ap, ◌∙◌, subst, arith}
use Rattle.std.specs.Prelude.{is_some}
use Rattle.std.specs.Option.{option_and_then, option_map_or}
use Rattle.std.proofs.lemmas.Bool.{both_ways}
use Rattle.std.proofs.lemmas.Option.{none-some, same_Some}
use Rattle.parking_lot_rules.specs.Roles.{Role}
use Rattle.parking_lot_rules.specs.Classes.{Class, Readers, Upgraders, Pending, Writers, weight, weighs, total}
use Rattle.parking_lot_rules.specs.Debts as rw_debts
use Rattle.parking_lot_rules.specs.Lock.{Lock, IsSound}
use Rattle.parking_lot_rules.specs.Mutex as mutex
use Rattle.parking_lot_rules.specs.MutexDebts as mutex_debts
use Rattle.parking_lot_rules.specs.Any.{AnySound, Rw, Mx}
use Rattle.parking_lot_rules.specs.MutexOwners as mutex_owners
use Rattle.parking_lot_rules.proofs.Families.{total-none}
use Rattle.parking_lot_rules.proofs.Mutexes as mutexes
use Rattle.parking_lot_rules.proofs.Paying as rw_pays
use Rattle.parking_lot_rules.proofs.MutexPaying as mutex_pays
use Rattle.parking_lot_machine_calls.specs.Kinds.{Manner, AsRw, AsMutex, manner_of}
use Rattle.parking_lot_machine_calls.specs.declared.calls.OwnMode.{OwnMode}
use Rattle.parking_lot_machine_calls.specs.declared.open_call.Call.{Call}
use Rattle.parking_lot_machine_calls.specs.CallViews.{Weighs, call_looks, mutex_mode, mutex_mode_if, owning_of, rw_mode}
use Rattle.parking_lot_machine.specs.Machines.{can_move_in, goes_late, is_asleep_in, is_possible, is_taken, sleeps}
use Rattle.parking_lot_machine.proofs.InTime.{late_asleep}
use Rattle.parking_lot_rules.specs.Classes.{bit}
use Rattle.parking_lot_machine_calls.specs.LateCalls.{comes_late, is_back, is_pending}
use Rattle.parking_lot_machine.specs.RowFits.{FitsTogether}
use Rattle.parking_lot_machine.specs.Rows.{State, lock_as, call_at, first_key, hold_at, lock_at, mutex_at, queue_at}
use Rattle.parking_lot_machine.specs.Rows.{rw_lock_at, second_key, taken_by}
use Rattle.parking_lot_machine.specs.SoundLaws.{AwakeCanMove, DebtsAreKept, IsApart, NoReaders, OnlyReaders}
use Rattle.parking_lot_machine.specs.SoundLaws.{SomebodyIsInDebt}
use Rattle.parking_lot_machine_calls.specs.Stances.{core_act}
use Rattle.parking_lot_machine.specs.Worlds.{in_debt_at, mode_in}
use Rattle.parking_lot_machine.proofs.Agreeing.{role_weighs}
use Rattle.parking_lot_rules.proofs.Everybody.{get-all, within-all}
use Rattle.parking_lot_machine.proofs.Serving.{backs_on, by_call, comes_on, or_else, possible_alone}
use Rattle.parking_lot_machine.proofs.Viewing.{apart_role}
use Rattle.parking_lot_machine.proofs.KindTable.{Kind, of_mutexes, of_rws, role_at, roles_at}
use Rattle.parking_lot_machine_calls.specs.declared.seat.Hold.{Hold}
use Rattle.parking_lot_machine_calls.proofs.Weighing.{weighed}

-- of an owner by shared holds alone, or of none, no other class weighs; and of one that doesn't read no class of
-- readers
keeps_nobody_out : (o : Option OwnMode) (r x p w : ℕ) → ((a : OwnMode) → o ≡ Some a → a ≡ OwnMode.Shared)
    → Weighs r x p w o → x + p + w ≡ 0
keeps_nobody_out None r x p w only h = omega (arith, h.1, h.2, h.3)
keeps_nobody_out (Some OwnMode.Shared) r x p w only h = omega (arith, h.1, h.2, h.3)
keeps_nobody_out (Some OwnMode.Upgradable) r x p w only h = absurd (not_shared (only OwnMode.Upgradable refl))
  where
    not_shared : OwnMode.Upgradable ≡ OwnMode.Shared → ⊥
    not_shared e = cc
keeps_nobody_out (Some OwnMode.Pending) r x p w only h = absurd (not_shared (only OwnMode.Pending refl))
  where
    not_shared : OwnMode.Pending ≡ OwnMode.Shared → ⊥
    not_shared e = cc
keeps_nobody_out (Some OwnMode.Exclusive) r x p w only h = absurd (not_shared (only OwnMode.Exclusive refl))
  where
    not_shared : OwnMode.Exclusive ≡ OwnMode.Shared → ⊥
    not_shared e = cc

reads_nothing : (o : Option OwnMode) (r x p w : ℕ)
    → ((a : OwnMode) → o ≡ Some a → (a ≢ OwnMode.Shared) × (a ≢ OwnMode.Upgradable)) → Weighs r x p w o → r + x ≡ 0
reads_nothing None r x p w none h = omega (arith, h.0, h.1)
reads_nothing (Some OwnMode.Shared) r x p w none h = absurd ((none OwnMode.Shared refl).0 refl)
reads_nothing (Some OwnMode.Upgradable) r x p w none h = absurd ((none OwnMode.Upgradable refl).1 refl)
reads_nothing (Some OwnMode.Pending) r x p w none h = omega (arith, h.0, h.1)
reads_nothing (Some OwnMode.Exclusive) r x p w none h = omega (arith, h.0, h.1)

zero_or_more : (n : ℕ) → (n ≡ 0) ⊎ (0 < n)
zero_or_more zero = inl refl
zero_or_more (suc n) = inr (omega arith)

module _ (l : Lock) (sound : IsSound l) where
  -- classes that weigh nothing in any role
  nobody_in : (c : Class) → ((u : ℕ) (q : Role) → slice_get l.roles u ≡ Some q → weight c q ≡ 0) → total c l.roles ≡ 0
  nobody_in c none = total-none c l.roles (λ u. go u (slice_get l.roles u) refl)
    where
      go : (u : ℕ) (o : Option Role) → slice_get l.roles u ≡ o → weighs c (slice_get l.roles u) ≡ 0
      go u None e = ap (weighs c) e
      go u (Some q) e = ap (weighs c) e ∙ none u q e

  module _ (only : (u : ℕ) (a : OwnMode) → option_and_then rw_mode (slice_get l.roles u) ≡ Some a → a ≡ OwnMode.Shared)
    where
      light : (u : ℕ) (q : Role) → slice_get l.roles u ≡ Some q → weight Upgraders q + weight Pending q + weight
          Writers q
          ≡ 0
      light u q at =
          keeps_nobody_out (rw_mode q) (weight Readers q) (weight Upgraders q) (weight Pending q) (weight Writers q)
          (λ a e. only u a (ap (option_and_then rw_mode) at ∙ e)) (role_weighs l sound u q at)

      rw_open : total Writers l.roles + total Pending l.roles + total Upgraders l.roles ≡ 0
      rw_open = omega (
        arith,
        nobody_in Writers (λ u q at. omega (arith, light u q at)),
        nobody_in Pending (λ u q at. omega (arith, light u q at)),
        nobody_in Upgraders (λ u q at. omega (arith, light u q at)),
      )

  module _ (none : (u : ℕ) (a : OwnMode) → option_and_then rw_mode (slice_get l.roles u) ≡ Some a → (a ≢ OwnMode.Shared)
      × (a ≢ OwnMode.Upgradable)) where
    unread : (u : ℕ) (q : Role) → slice_get l.roles u ≡ Some q → weight Readers q + weight Upgraders q ≡ 0
    unread u q at =
        reads_nothing (rw_mode q) (weight Readers q) (weight Upgraders q) (weight Pending q) (weight Writers q)
        (λ a e. none u a (ap (option_and_then rw_mode) at ∙ e)) (role_weighs l sound u q at)

    rw_unread : total Readers l.roles + total Upgraders l.roles ≡ 0
    rw_unread = omega (
      arith,
      nobody_in Readers (λ u q at. omega (arith, unread u q at)),
      nobody_in Upgraders (λ u q at. omega (arith, unread u q at)),
    )

module _ (m : mutex.Mutex) (sound : mutex.IsSound m)
    (only : (u : ℕ) (a : OwnMode) → option_and_then mutex_mode (slice_get m.roles u) ≡ Some a → a ≡ OwnMode.Shared)
  where
    -- an owner of a mutex owns it exclusively
    no_owner : (o : Option OwnMode) → ((a : OwnMode) → o ≡ Some a → a ≡ OwnMode.Shared)
        → ((a : OwnMode) → o ≡ Some a → a ≡ OwnMode.Exclusive) → owning_of o ≡ 0
    no_owner None shared exclusive = refl
    no_owner (Some a) shared exclusive = absurd (apart (sym (shared a refl) ∙ exclusive a refl))
      where
        apart : OwnMode.Shared ≡ OwnMode.Exclusive → ⊥
        apart e = cc

    owned_exclusively : (b : Bool) (a : OwnMode) → mutex_mode_if b ≡ Some a → a ≡ OwnMode.Exclusive
    owned_exclusively true a e = same_Some a OwnMode.Exclusive (sym e)
    owned_exclusively false a e = absurd (none-some a e)

    unowned : mutex.total mutex.Owning m.roles ≡ 0
    unowned = elim (zero_or_more (mutex.total mutex.Owning m.roles)) [
      | inl none ↦ none
      | inr some ↦
          let x = mutex_pays.somebody mutex.Owning m.roles some in
          let q = x.1 in
          absurd (omega (
            arith,
            x.3,
            weighed.mutex q (omega (arith, sound.fits.proper, mutexes.total-at m.roles x.0 q x.2 mutex.Strange)),
            no_owner (mutex_mode q) (λ a e. only x.0 a (ap (option_and_then mutex_mode) x.2 ∙ e))
                (λ a e. owned_exclusively (mutex_owners.owner_of q.owns q.does) a e),
          ))
    ]

module _ (s : State) (h : FitsTogether s) where
  pub awake_can_move : AwakeCanMove s
  awake_can_move t c here awake free back = ap (can_move_in s) here ∙ by (sleeps (core_act c.core)) refl
    where
      others : Bool
      others = is_possible (is_taken s c) (core_act c.core)

      by : (b : Bool) → sleeps (core_act c.core) ≡ b → can_move_in s (Some c) ≡ true
      by false up = or_else (goes_late s c c.core)
          (possible_alone (is_taken s c) (core_act c.core) up (λ k e. ap is_some (free k e)))
      by true asleep = elim (late_asleep c.core asleep (sym (ap is_asleep_in here) ∙ awake)) [
        | inl e ↦ backs_on (is_back c.core) (comes_late c.core && not (is_taken s c (bit (is_pending c.core)))) others e
        | inr e ↦ comes_on (is_back c.core) (comes_late c.core) (not (is_taken s c (bit (is_pending c.core)))) others e
            (ap (λ o. not (is_some o)) (back e))
      ]

  module _ (i : ℕ) where
    -- of a lock where one thread's role is in debt, that thread is in a call there
    owing_call : (u : ℕ) → in_debt_at (lock_at s i) u ≡ true
        → (IsApart i (call_at s u) → in_debt_at (lock_at s i) u ≡ false) → SomebodyIsInDebt s i
    owing_call u owes apart = elim (by_call s h i u) [
      | inl away ↦ absurd (both_ways (in_debt_at (lock_at s i) u) (apart away) owes)
      | inr d ↦ (
        u,
        d.0,
        d.1,
        d.2,
        ap (λ o. option_map_or (λ (c : Call). call_looks c.core || in_debt_at (lock_at s c.lock) u) o false) d.1
            ∙ ap (λ j. call_looks d.0.core || in_debt_at (lock_at s j) u) d.2 ∙ ap (λ b. call_looks d.0.core || b) owes
            ∙ or-true (call_looks d.0.core),
      )
    ]

    owes_at : {C R L : Type 0} (K : Kind C R L) (debt : R → Bool)
        → ((u : ℕ) → in_debt_at (lock_at s i) u ≡ option_map_or debt (slice_get (roles_at K s i) u) false)
        → ((x : Hold) → debt (K.idle x) ≡ false)
        → (u : ℕ) (q : R) → slice_get (roles_at K s i) u ≡ Some q → debt q ≡ true → SomebodyIsInDebt s i
    owes_at K debt as_seen idles u q at owes = owing_call u (as_seen u ∙ ap (λ o. option_map_or debt o false) at ∙ owes)
        (λ away. as_seen u ∙ ap (λ o. option_map_or debt o false)
        (get-all (role_at K s i) (length s.calls) u (within-all (role_at K s i) (length s.calls) u q at))
        ∙ ap debt (apart_role K i (taken_by s.wakes u) (hold_at s u i) (call_at s u) away) ∙ idles (hold_at s u i))

    module _ (is : lock_at s i ≡ Rw (rw_lock_at s i)) where
      rw_owes : rw_debts.SomebodyIsInDebt (rw_lock_at s i) → SomebodyIsInDebt s i
      rw_owes d = owes_at of_rws (λ x. rw_debts.is_in_debt x.does) (λ u. ap (λ l. in_debt_at l u) is) (λ x. refl) d.0
          d.1 d.2 d.3

      rw_is_sound : IsSound (rw_lock_at s i)
      rw_is_sound = subst AnySound is (h.rules.sound.sound i)

      rw_first : 0 < length (queue_at s (first_key i)) → OnlyReaders s i → SomebodyIsInDebt s i
      rw_first some only =
          rw_owes ((rw_pays.debts_are_paid (rw_lock_at s i) rw_is_sound).first some
          (rw_open (rw_lock_at s i) rw_is_sound (λ u a e. only u a (ap (λ l. mode_in l u) is ∙ e))))

      rw_second : 0 < length (queue_at s (second_key i)) → NoReaders s i → SomebodyIsInDebt s i
      rw_second some none =
          rw_owes ((rw_pays.debts_are_paid (rw_lock_at s i) rw_is_sound).second some
          (rw_unread (rw_lock_at s i) rw_is_sound (λ u a e. none u a (ap (λ l. mode_in l u) is ∙ e))))

    module _ (is : lock_at s i ≡ Mx (mutex_at s i)) where
      mutex_owes : mutex_debts.SomebodyIsInDebt (mutex_at s i) → SomebodyIsInDebt s i
      mutex_owes d = owes_at of_mutexes (λ x. mutex_debts.is_in_debt x.does) (λ u. ap (λ l. in_debt_at l u) is)
          (λ x. refl) d.0 d.1 d.2 d.3

      mutex_is_sound : mutex.IsSound (mutex_at s i)
      mutex_is_sound = subst AnySound is (h.rules.sound.sound i)

      mutex_first : 0 < length (queue_at s (first_key i)) → OnlyReaders s i → SomebodyIsInDebt s i
      mutex_first some only =
          mutex_owes ((mutex_pays.debts_are_paid (mutex_at s i) mutex_is_sound).waiters some
          (unowned (mutex_at s i) mutex_is_sound (λ u a e. only u a (ap (λ l. mode_in l u) is ∙ e))))

    first_kept : 0 < length (queue_at s (first_key i)) → OnlyReaders s i → SomebodyIsInDebt s i
    first_kept some only = go (manner_of (slice_get s.kinds i)) refl
      where
        go : (k : Option Manner) → manner_of (slice_get s.kinds i) ≡ k → SomebodyIsInDebt s i
        go (Some AsRw) of = rw_first (ap (λ k. lock_as k s i) of) some only
        go None of = rw_first (ap (λ k. lock_as k s i) of) some only
        go (Some AsMutex) of = mutex_first (ap (λ k. lock_as k s i) of) some only

  pub debts_are_kept : DebtsAreKept s
  debts_are_kept = record {
    first = λ i some only. first_kept i some only;
    second = λ i of some none. rw_second i (ap (λ k. lock_as k s i) of) some none;
  }
