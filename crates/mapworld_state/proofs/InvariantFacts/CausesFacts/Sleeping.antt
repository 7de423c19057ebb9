-- Where a thread sleeps at a lock, another one has to do with it.
use Rattle.std.proofs.Common.{◌≡◌, ◌≢◌, ℕ, zero, suc, inl, inr, Bool, true, false, cond, ◌==◌, List, length, Option}
use Rattle.std.proofs.Common.{Some, None, slice_get, IsTrue, ◌<◌, refl, sym, ap, ◌∙◌, subst}
use Rattle.std.specs.Option.{option_and_then}
use Rattle.std.proofs.lemmas.Bool.{eqb-true, eq-eqb, false≢true}
use Rattle.std.proofs.lemmas.Option.{none-some, slice_get_within}
use Rattle.lock_api_desk.specs.declared.mode.Mode.{Mode}
use Rattle.lock_api_desk.specs.declared.mode.Mode.TheVariants as held
use Rattle.parking_lot_protocol.specs.declared.rw_phase.RwPhase.{RwPhase}
use Rattle.parking_lot_protocol.specs.RwRules as of_rw
use Rattle.parking_lot_rules.specs.Any.{AnySound}
use Rattle.parking_lot_rules.specs.Laws as laws
use Rattle.parking_lot_rules.specs.Lock.{IsSound}
use Rattle.parking_lot_rules.specs.Roles.{Excludes, Idle, Owned, Role, Shares}
use Rattle.parking_lot_rules.specs.Roles as rules
use Rattle.parking_lot_rules.proofs.Following.{somebody_can_move}
use Rattle.parking_lot_machine_calls.specs.Kinds.{AsMutex, manner_of}
use Rattle.parking_lot_machine_calls.specs.declared.open_call.Call.{Call}
use Rattle.parking_lot_machine_calls.specs.declared.seat.Core.{Core}
use Rattle.parking_lot_machine_calls.specs.declared.seat.Hold.{Hold}
use Rattle.parking_lot_machine_calls.specs.declared.seat.QueuePosition.{QueuePosition}
use Rattle.parking_lot_machine_calls.specs.CallViews.{rw_mode}
use Rattle.parking_lot_machine.specs.Rows.{State, call_at, hold_at, rw_lock_at, rw_role_at, rw_role_in, state, taken_by}
use Rattle.parking_lot_machine_calls.specs.CallRoles.{owned_of, rw_core_role, rw_spot}
use Rattle.parking_lot_machine_calls.specs.CallKinds.{IsOfKind}
use Rattle.mapworld_state.specs.Locks.Fits.{LocksFit, is_plain}
use Rattle.mapworld_state.proofs.LocksFacts.Giving.{yields_awake}
use Rattle.parking_lot_machine_calls.specs.Calls.{is_timed}
use Rattle.parking_lot_machine_calls.specs.Kinds.{recursive_in}
use Rattle.parking_lot_machine.specs.RowFits.{IsPrepared}
use Rattle.mapworld_state.specs.Locks.Views.{Shown, held_as, owner_in}
use Rattle.mapworld_state.proofs.LocksFacts.Handing.{is_rw, goes_by, no_mutex}
use Rattle.mapworld_state.proofs.LocksFacts.Lists.{among_all, one_of_all}
use Rattle.parking_lot_machine_calls.specs.Stances.{rw_asleep}
use Rattle.parking_lot_machine_calls.specs.LateCalls.{sleeps_in_time}

-- a call at a reader-writer lock that sleeps is asleep to the rules
phase-asleep : (at : QueuePosition) (us : List ℕ) (p : RwPhase) → rw_asleep p ≡ true
    → laws.is_asleep (of_rw.does (rw_spot at) us p) ≡ true
phase-asleep QueuePosition.Listed us (RwPhase.Sleeps want) e = refl
phase-asleep (QueuePosition.Off by said) us (RwPhase.Sleeps want) e = refl
phase-asleep QueuePosition.Listed us (RwPhase.DrainSleeps rounds) e = refl
phase-asleep (QueuePosition.Off by said) us (RwPhase.DrainSleeps rounds) e = refl
phase-asleep at us p e = absurd cc

asleep-rests : (p : rules.Phase) → laws.is_asleep p ≡ true → laws.is_at_work p ≡ false
asleep-rests (rules.Queued1 mode rules.Asleep) e = refl
asleep-rests (rules.Taken1 mode by mark rules.Asleep) e = refl
asleep-rests (rules.Queued2 from rules.Asleep) e = refl
asleep-rests (rules.Taken2 from by rules.Asleep) e = refl
asleep-rests p e = absurd cc

is-true : (b : Bool) → IsTrue b → b ≡ true
is-true true h = refl
is-true false h = absurd (false≢true h)

-- what somebody has to do with a lock: it owns it, or is in a call there
pub data IsAround (sh : Shown) (i t : ℕ) : Type 0 where
  keeps : (m : Mode) → owner_in sh i t ≡ Some m → IsAround sh i t
  is-in : (c : Call) → call_at (state sh.rows) t ≡ Some c → c.lock ≡ i → IsAround sh i t

module _ (sh : Shown) (fit : LocksFit sh) (t : ℕ) (c : Call) (here : call_at (state sh.rows) t ≡ Some c)
    (sleeping : sleeps_in_time c.core ≡ true) where
  abbrev s : State
  s = state sh.rows

  abbrev i : ℕ
  i = c.lock

  sound : IsSound (rw_lock_at s i)
  sound = subst AnySound (is_rw s fit.plain.kinds i) (fit.fits.rules.sound.sound i)

  own-role : rw_role_at s i t ≡ rw_core_role c.others c.spot (taken_by s.wakes t) c.core
  own-role =
      ap (rw_role_in i (taken_by s.wakes t) (hold_at s t i)) here
      ∙ ap (λ b. cond b (rw_core_role c.others c.spot (taken_by s.wakes t) c.core)
      (record { owns = owned_of (hold_at s t i); does = Idle })) (eq-eqb i i refl)

  -- no lock is a mutex
  no-mutex : manner_of (slice_get s.kinds i) ≡ Some AsMutex → ⊥
  no-mutex e = no_mutex (goes_by s i AsMutex fit.plain.kinds e)

  asleep : laws.is_asleep (rw_role_at s i t).does ≡ true
  asleep = ap (λ r. laws.is_asleep r.does) own-role ∙ by (is_timed c.asked) c.core (fit.plain.cores t c here) sleeping
      (fit.fits.rules.kinds t c here) (fit.fits.rules.prepared t c here)
    where
      by : (timed : Bool) (k : Core) → is_plain timed k ≡ true → sleeps_in_time k ≡ true
          → IsOfKind (slice_get s.kinds i) k → IsPrepared (recursive_in s.kinds i) c.others k
          → laws.is_asleep (rw_core_role c.others c.spot (taken_by s.wakes t) k).does ≡ true
      by timed (Core.Rw k) so e is ready = phase-asleep c.spot (taken_by s.wakes t) k.phase e
      by timed (Core.Mutex k) so e is ready = absurd (no-mutex is)
      by timed (Core.Late k) so e is ready = absurd (no-mutex is)
      by timed (Core.LateRw k) so e is ready = absurd cc
      by true (Core.Upgrade k) so e is ready = absurd (false≢true (sym (yields_awake k.phase so ready.1) ∙ e))
      by false (Core.Upgrade k) so e is ready = absurd cc

  low : t < length s.calls
  low = by (slice_get s.calls t) refl
    where
      by : (o : Option (Option Call)) → slice_get s.calls t ≡ o → t < length s.calls
      by None e = absurd (none-some c (sym (ap (option_and_then (λ z. z)) e) ∙ here))
      by (Some d) e = slice_get_within s.calls t d e

  pub up : laws.SomebodyIsUp (rw_lock_at s i)
  up = somebody_can_move (rw_lock_at s i) sound t (rw_role_at s i t)
      (one_of_all (rw_role_at s i) (length s.calls) t low) (from-true asleep)
    where
      from-true : laws.is_asleep (rw_role_at s i t).does ≡ true → IsTrue (laws.is_asleep (rw_role_at s i t).does)
      from-true e = e

  abbrev pub v : ℕ
  v = up.0

  role : up.1 ≡ rw_role_at s i v
  role = (among_all (rw_role_at s i) (length s.calls) v up.1 up.2).1

  awake : laws.is_asleep up.1.does ≡ false
  awake = elim up.3 [
    | inl works ↦ by (laws.is_asleep up.1.does) refl (is-true (laws.is_at_work up.1.does) works)
    | inr owner ↦ ap laws.is_asleep owner.0
  ]
    where
      by : (b : Bool) → laws.is_asleep up.1.does ≡ b → laws.is_at_work up.1.does ≡ true → b ≡ false
      by false e works = refl
      by true e works = absurd (false≢true (sym (asleep-rests up.1.does e) ∙ works))

  pub another : v ≢ t
  another same = false≢true
      (sym awake ∙ ap (λ (r : Role). laws.is_asleep r.does) role ∙ ap (λ n. laws.is_asleep (rw_role_at s i n).does) same
      ∙ asleep)

  idle-around : rw_role_at s i v ≡ record { owns = owned_of (hold_at s v i); does = Idle } → IsAround sh i v
  idle-around is = elim up.3 [
    | inl works ↦ absurd
        (false≢true (sym (ap (λ (r : Role). laws.is_at_work r.does) (role ∙ is)) ∙ is-true (laws.is_at_work up.1.does)
        works))
    | inr owner ↦ by (hold_at s v i) (λ none. owner.1 (ap (λ (r : Role). r.owns) (role ∙ is) ∙ none))
        (mode-is (hold_at s v i) refl)
  ]
    where
      mode-is : (h : Hold) → hold_at s v i ≡ h
          → owner_in sh i v ≡ held_as (rw_mode (record { owns = owned_of h; does = Idle }))
      mode-is h e =
          ap (λ o. held_as (option_and_then rw_mode o)) (up.2 ∙ ap Some (role ∙ is))
          ∙ ap (λ q. held_as (rw_mode (record { owns = owned_of q; does = Idle }))) e

      by : (h : Hold) → (owned_of h ≡ Shares 0 → ⊥)
          → owner_in sh i v ≡ held_as (rw_mode (record { owns = owned_of h; does = Idle })) → IsAround sh i v
      by (Hold.Shares zero) some is = absurd (some refl)
      by (Hold.Shares (suc n)) some is = keeps held.Shared is
      by Hold.Excludes some is = keeps held.Exclusive is
      by Hold.Upgrades some is = keeps held.Upgradable is

  pub around : IsAround sh i v
  around = by (call_at s v) refl
    where
      in-call : (d : Call) → call_at s v ≡ Some d → (b : Bool) → (d.lock == i) ≡ b → IsAround sh i v
      in-call d at true is = is-in d at (eqb-true d.lock i is)
      in-call d at false is =
          idle-around (ap (rw_role_in i (taken_by s.wakes v) (hold_at s v i)) at
          ∙ ap (λ b. cond b (rw_core_role d.others d.spot (taken_by s.wakes v) d.core)
          (record { owns = owned_of (hold_at s v i); does = Idle })) is)

      by : (o : Option Call) → call_at s v ≡ o → IsAround sh i v
      by None at = idle-around (ap (rw_role_in i (taken_by s.wakes v) (hold_at s v i)) at)
      by (Some d) at = in-call d at (d.lock == i) refl
