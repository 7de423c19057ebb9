-- A thread in a call at a lock of the machine, as one lock sees it.
use Rattle.std.proofs.Common.{◌≡◌, ℕ, ◌+◌, ◌*◌, ◌<◌, ◌≤◌, ◌^◌, inl, inr, ◌==◌, cond, Bool, true, false, List, length}
use Rattle.std.proofs.Common.{Option, Some, None, slice_get, refl, sym, ap, ◌∙◌, subst, arith, [], ◌∷◌}
use Rattle.std.proofs.lemmas.Bool.{cases_lt}
use Rattle.std.proofs.lemmas.Option.{none-some, slice_get_past}
use Rattle.std.proofs.lemmas.List.{length-map}
use Rattle.std.proofs.lemmas.List.Sums.{length-filter, count_by-le-length}
use Rattle.std.specs.Prelude.{filter}
use Rattle.std.specs.Option.{option_and_then}
use Rattle.parking_lot_rules.specs.Roles.{Role, Idle}
use Rattle.parking_lot_rules.specs.Holds.{shared_holds}
use Rattle.parking_lot_rules.specs.Lock.{IsSound}
use Rattle.parking_lot_rules.specs.Mutex as mutex
use Rattle.parking_lot_rules.specs.Any.{AnySound}
use Rattle.parking_lot_protocol.specs.declared.rw_phase.LockMode.TheVariants as want
use Rattle.parking_lot_protocol.specs.declared.rw_phase.AfterWake.{AfterWake}
use Rattle.parking_lot_protocol.specs.declared.rw_phase.Outcome.TheVariants as outcome
use Rattle.parking_lot_protocol.specs.declared.rw_phase.RwPhase.{RwPhase}
use Rattle.parking_lot_protocol.specs.RwRules as of_rw
use Rattle.parking_lot_protocol.specs.MutexRules as of_mutex
use Rattle.parking_lot_protocol.specs.declared.act.ActResult.{ActResult}
use Rattle.parking_lot_protocol.specs.declared.mutex_core.MutexCore.{MutexCore}
use Rattle.parking_lot_core_model.specs.declared.place.Waiter.{Waiter}
use Rattle.parking_lot_machine_calls.specs.Kinds.{AsMutex, AsRw, manner_of, Manner, recursive_in}
use Rattle.parking_lot_machine_calls.specs.declared.seat.Hold.{Hold}
use Rattle.parking_lot_machine_calls.specs.declared.seat.QueuePosition.{QueuePosition}
use Rattle.parking_lot_machine_calls.specs.declared.seat.LatePhase.{LatePhase}
use Rattle.parking_lot_machine_calls.specs.declared.seat.Core.{Core}
use Rattle.parking_lot_machine_calls.specs.declared.open_call.Call.{Call}
use Rattle.parking_lot_machine.specs.Rows.{State, word_at, hold_at, call_at, is_by, taken_by, rw_role_in, rw_role_at}
use Rattle.parking_lot_machine.specs.Rows.{rw_lock_at, mutex_at, lock_as}
use Rattle.parking_lot_machine_calls.specs.CallRoles.{owned_of, rw_core_role, mutex_spot, late_role, first_of_all}
use Rattle.parking_lot_machine_calls.specs.CallRoles.{rw_spot}
use Rattle.parking_lot_machine_calls.specs.Stances.{core_next, has_begun, mutex_taken}
use Rattle.parking_lot_protocol.specs.MutexTable as mutex_table
use Rattle.parking_lot_protocol.specs.declared.act.SectionAct.TheVariants as section
use Rattle.parking_lot_machine.specs.RowFits.{FitsTogether, is_away, IsPrepared, KnowsList, IsCounted}
use Rattle.parking_lot_machine_calls.specs.CallKinds.{IsOfKind}
use Rattle.parking_lot_machine.specs.MutexLaws.{Plays}
use Rattle.parking_lot_machine.proofs.MutexRoles.{words}
use Rattle.parking_lot_protocol_rw.specs.UpgradeRoles as of_upgrade
use Rattle.parking_lot_protocol_rw.specs.declared.upgrade_phase.Hold as kept_holds
use Rattle.parking_lot_protocol_rw.specs.declared.upgrade_phase.Hold.TheVariants as keeps_up
use Rattle.parking_lot_protocol_rw.specs.declared.upgrade_phase.UpgradePhase.{UpgradePhase}
use Rattle.parking_lot_machine.proofs.RwCalls.{CallLearns, CallMeets, CallTold, CallWants, call_few, call_goes_on}
use Rattle.parking_lot_machine.proofs.RwCalls.{call_knows, call_room, stands_prepared}
use Rattle.parking_lot_rules.proofs.Everybody.{was-all, length-all}
use Rattle.parking_lot_machine.proofs.KindTable.{Plain, Late, RwCall, in_its_place, next_is, of_mutexes, of_rws}
use Rattle.parking_lot_machine.proofs.KindTable.{rw_call, mutex_exact, role_by}
use Rattle.parking_lot_machine_calls.specs.declared.late_rw.LateRwPhase.{LateRwPhase}
use Rattle.parking_lot_machine_calls.specs.declared.late_rw.RwSleeper.{RwSleeper}
use Rattle.parking_lot_machine_calls.specs.LateRoles.{late_rw_role}
use Rattle.parking_lot_protocol.specs.declared.act.Act.{Act}
use Rattle.parking_lot_protocol.specs.declared.mutex_phase.Giving.{Giving}
use Rattle.parking_lot_protocol.specs.declared.mutex_phase.MutexPhase.{MutexPhase}

-- who is in a call is a thread of the machine
pub in_range : (s : State) (t : ℕ) (c : Call) → call_at s t ≡ Some c → t < length s.calls
in_range s t c h = elim (cases_lt t (length s.calls)) [
  | inl b ↦ b
  | inr b ↦ absurd (none-some c (sym (ap (λ o. option_and_then (λ x. x) o) (slice_get_past s.calls t b)) ∙ h))
]

-- few threads were taken
pub few_taken : (s : State) → FitsTogether s → (t : ℕ) → length (taken_by s.wakes t) < 2 ^ 18
few_taken s h t =
    omega (
      arith,
      length-map (filter (is_by t) s.wakes) (λ w. w.thread),
      length-filter (is_by t) s.wakes,
      count_by-le-length (is_by t) s.wakes,
      h.wakes.room,
      count_by-le-length is_away s.calls,
      h.rules.small,
    )

-- FEW SHARED HOLDS

last_few : (n : ℕ) (q : AfterWake) → shared_holds (of_rw.owned_at_last n q) ≤ n + 1
last_few n AfterWake.FreedShared = omega arith
last_few n AfterWake.FreedExclusive = omega arith
last_few n AfterWake.Downgraded = omega arith
last_few n AfterWake.AgainShared = omega arith
last_few n AfterWake.AgainExclusive = omega arith

owns_few : (n : ℕ) (p : RwPhase) → shared_holds (of_rw.owns n p) ≤ n + 1
owns_few n (RwPhase.BumpLoads (want.Shared recursive)) = omega arith
owns_few n (RwPhase.Scans a) = last_few n a.rest
owns_few n (RwPhase.Stores a left) = last_few n a.rest
owns_few n (RwPhase.Leaves rest count handed) = last_few n rest
owns_few n (RwPhase.Wakes rest count) = last_few n rest
owns_few n (RwPhase.Finishes rest) = last_few n rest
owns_few n (RwPhase.Ends outcome.Shared) = omega arith
owns_few n p = omega arith

kept_few : (kept : kept_holds.Hold) → shared_holds (of_upgrade.owned kept) ≤ 1
kept_few keeps_up.Nothing = omega arith
kept_few keeps_up.Shared = omega arith
kept_few keeps_up.Upgradable = omega arith
kept_few keeps_up.Exclusive = omega arith

freed_few : (q : RwPhase) → shared_holds (of_upgrade.owned_in_release q) ≤ 1
freed_few (RwPhase.LooksExclusive fair rest) = omega arith
freed_few q = omega arith

upgrade_few : (n : ℕ) (p : UpgradePhase) → shared_holds (of_upgrade.owns n p) ≤ n + 1
upgrade_few n (UpgradePhase.Plain core) = owns_few n core.phase
upgrade_few n (UpgradePhase.Drains core) = omega (arith, owns_few 0 core.phase)
upgrade_few n (UpgradePhase.Frees r core) = omega (arith, freed_few core.phase)
upgrade_few n (UpgradePhase.Owes kept end core) = omega (arith, kept_few kept)
upgrade_few n (UpgradePhase.Ends kept end) = omega (arith, kept_few kept)
upgrade_few n p = omega arith

tardy_few : (n : ℕ) (at : of_rw.QueuePosition) (us : List ℕ) (p : LateRwPhase)
    → shared_holds (late_rw_role n at us p).owns ≤ n + 1
tardy_few n at us (LateRwPhase.Expires (RwSleeper.Simple c)) = owns_few n c.phase
tardy_few n at us (LateRwPhase.Expires (RwSleeper.Upgradable c)) = upgrade_few n c.phase
tardy_few n at us (LateRwPhase.Quits (RwSleeper.Simple c)) = owns_few n c.phase
tardy_few n at us (LateRwPhase.Quits (RwSleeper.Upgradable c)) = upgrade_few n c.phase
tardy_few n at us (LateRwPhase.WasTaken (RwSleeper.Simple c) by handed) = owns_few n c.phase
tardy_few n at us (LateRwPhase.WasTaken (RwSleeper.Upgradable c) by handed) = upgrade_few n c.phase
tardy_few n at us p = omega arith

module _ (s : State) (h : FitsTogether s) where
  pub hold_few : (u i : ℕ) (x : Hold) → hold_at s u i ≡ x → shared_holds (owned_of x) ≤ 256
  hold_few u i (Hold.Shares n) e = omega (arith, h.rules.few u i n e)
  hold_few u i Hold.Excludes e = omega arith
  hold_few u i Hold.Upgrades e = omega arith

  core_few : (n : ℕ) (at : QueuePosition) (us : List ℕ) (x : Core) → n ≤ 254
      → shared_holds (rw_core_role n at us x).owns ≤ 256
  core_few n at us (Core.Rw k) e = omega (arith, owns_few n k.phase, e)
  core_few n at us (Core.Mutex k) e = omega arith
  core_few n at us (Core.Late p) e = omega arith
  core_few n at us (Core.LateRw p) e = omega (arith, tardy_few n (rw_spot at) us p, e)
  core_few n at us (Core.Upgrade k) e = omega (arith, upgrade_few n k.phase, e)

  pub role_few : (i u : ℕ) (o : Option Call) → call_at s u ≡ o
      → shared_holds (rw_role_in i (taken_by s.wakes u) (hold_at s u i) o).owns ≤ 256
  role_few i u None e = hold_few u i (hold_at s u i) refl
  role_few i u (Some c) e = go (c.lock == i)
    where
      go : (b : Bool) → shared_holds
          (cond b (rw_core_role c.others c.spot (taken_by s.wakes u) c.core)
          (record { owns = owned_of (hold_at s u i); does = Idle })).owns ≤ 256
      go true = core_few c.others c.spot (taken_by s.wakes u) c.core (h.rules.beside u c e)
      go false = hold_few u i (hold_at s u i) refl

  pub rw_sound : (i : ℕ) → manner_of (slice_get s.kinds i) ≡ Some AsRw → IsSound (rw_lock_at s i)
  rw_sound i k = subst (λ (o : Option Manner). AnySound (lock_as o s i)) k (h.rules.sound.sound i)

  pub mutex_sound : (i : ℕ) → manner_of (slice_get s.kinds i) ≡ Some AsMutex → mutex.IsSound (mutex_at s i)
  mutex_sound i k = subst (λ (o : Option Manner). AnySound (lock_as o s i)) k (h.rules.sound.sound i)

  -- thread t is in that call
  pub meets : (t : ℕ) (c : Call) (k : RwCall) → c.core ≡ rw_call k → call_at s t ≡ Some c
      → CallMeets (recursive_in s.kinds c.lock) (rw_lock_at s c.lock) t c.others c.spot (taken_by s.wakes t) k
      (word_at s c.lock)
  meets t c k e here =
      let ready = subst (IsPrepared (recursive_in s.kinds c.lock) c.others) e (h.rules.prepared t c here) in
      let counted = subst (IsCounted (length s.calls) (length (taken_by s.wakes t))) e (h.lots.counted t c here) in
      record {
        sound = rw_sound c.lock
            (of_rws.of_kind (slice_get s.kinds c.lock) k
            (subst (IsOfKind (slice_get s.kinds c.lock)) e (h.rules.kinds t c here)));
        word = refl;
        here = in_its_place of_rws s t c k (in_range s t c here) here e;
        stands = stands_prepared (recursive_in s.kinds c.lock) (length s.calls) c.others (taken_by s.wakes t) k ready
            counted (call_few k (omega (arith, counted.few, h.rules.small)));
        threads = omega (arith, length-all (rw_role_at s c.lock) 0 (length s.calls), h.rules.small);
        few = λ u x at. subst (λ (q : Role). shared_holds q.owns ≤ 256)
            (sym (was-all (rw_role_at s c.lock) (length s.calls) u x at)) (role_few c.lock u (call_at s u) refl);
      }

  -- whom it has taken are as many as its phase says, where it doesn't wake them
  pub exact : (t : ℕ) (c : Call) (k : MutexCore) → c.core ≡ Core.Mutex k → call_at s t ≡ Some c
      → (mutex_table.act_of k.phase ≡ Act.Section section.Wake → ⊥) → length (taken_by s.wakes t) ≡ mutex_taken k.phase
  exact t c k e here awake = mutex_exact (length s.calls) (length (taken_by s.wakes t)) k
      (subst (IsCounted (length s.calls) (length (taken_by s.wakes t))) e (h.lots.counted t c here)) awake

  -- thread t plays the part of its call's phase
  pub plays : (t : ℕ) (c : Call) (k : MutexCore) → c.core ≡ Core.Mutex k → call_at s t ≡ Some c
      → (mutex_table.act_of k.phase ≡ Act.Section section.Wake → ⊥) → Plays (mutex_at s c.lock) (word_at s c.lock) t
      (of_mutex.role (mutex_spot c.spot) (first_of_all (taken_by s.wakes t)) k.phase)
  plays t c k e here awake =
      let kind_is = subst (IsOfKind (slice_get s.kinds c.lock)) e (h.rules.kinds t c here) in
      record {
        sound = mutex_sound c.lock kind_is;
        word = sym (words.forth (word_at s c.lock) (h.rules.bits c.lock kind_is));
        here = in_its_place of_mutexes s t c (Plain k) (in_range s t c here) here e
            ∙ ap Some (role_by (mutex_spot c.spot) (taken_by s.wakes t) k.phase (exact t c k e here awake));
      }

  -- one that is to wake somebody waits for just that one
  pub plays_waking : (t : ℕ) (c : Call) (g : Giving) (k : MutexCore)
      → c.core ≡ Core.Mutex (record k { phase = MutexPhase.Wakes g }) → call_at s t ≡ Some c → (v : ℕ)
      → taken_by s.wakes t ≡ v ∷ []
      → Plays (mutex_at s c.lock) (word_at s c.lock) t (of_mutex.role (mutex_spot c.spot) v (MutexPhase.Wakes g))
  plays_waking t c g k e here v one =
      let kind_is = subst (IsOfKind (slice_get s.kinds c.lock)) e (h.rules.kinds t c here) in
      record {
        sound = mutex_sound c.lock kind_is;
        word = sym (words.forth (word_at s c.lock) (h.rules.bits c.lock kind_is));
        here = in_its_place of_mutexes s t c (Plain (record k { phase = MutexPhase.Wakes g })) (in_range s t c here)
            here e ∙ ap (λ us. Some (mutex.doing (mutex.Wakes us))) one;
      }

  -- and so does one whose moment has passed
  pub plays_late : (t : ℕ) (c : Call) (p : LatePhase) → c.core ≡ Core.Late p → call_at s t ≡ Some c
      → Plays (mutex_at s c.lock) (word_at s c.lock) t (late_role (mutex_spot c.spot) p)
  plays_late t c p e here =
      let kind_is = subst (IsOfKind (slice_get s.kinds c.lock)) e (h.rules.kinds t c here) in
      record {
        sound = mutex_sound c.lock kind_is;
        word = sym (words.forth (word_at s c.lock) (h.rules.bits c.lock kind_is));
        here = in_its_place of_mutexes s t c (Late p) (in_range s t c here) here e;
      }

  -- a call at a reader-writer lock that hears what it may stands on what its next phase needs
  pub rw_hears : (t : ℕ) (c : Call) (k : RwCall) → c.core ≡ rw_call k → call_at s t ≡ Some c → (heard : ActResult)
      → CallTold k (word_at s c.lock) heard → CallWants k heard → (queues : ℕ → List Waiter)
      → CallLearns k heard (queues (2 * c.lock)) (queues (2 * c.lock + 1))
      → IsPrepared (recursive_in s.kinds c.lock) c.others (core_next (rw_call k) heard)
      × KnowsList (core_next (rw_call k) heard) queues c.lock
  rw_hears t c k e here heard so want queues learns =
      let ready = subst (IsPrepared (recursive_in s.kinds c.lock) c.others) e (h.rules.prepared t c here) in
      let met = meets t c k e here in
      let begun = subst (λ (x : Core). has_begun x ≡ true) e (h.rules.begun t c here).begun in
      let same = sym (next_is k heard) in (
        subst (IsPrepared (recursive_in s.kinds c.lock) c.others) same
            (call_goes_on (recursive_in s.kinds c.lock) (rw_lock_at s c.lock) t c.others c.spot (taken_by s.wakes t)
            (word_at s c.lock) heard k met begun ready
            (call_room (recursive_in s.kinds c.lock) (rw_lock_at s c.lock) t c.others c.spot (taken_by s.wakes t) k
            (word_at s c.lock) met) so want),
        subst (λ (x : Core). KnowsList x queues c.lock) same
            (call_knows (recursive_in s.kinds c.lock) (rw_lock_at s c.lock) t c.others c.spot (taken_by s.wakes t)
            (word_at s c.lock) heard k c.lock s.lot.queues queues ready so
            (subst (λ (x : Core). KnowsList x s.lot.queues c.lock) e (h.rules.knows t c here)) learns),
      )
