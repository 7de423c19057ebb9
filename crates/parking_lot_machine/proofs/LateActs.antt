-- The acts of a call whose moment has passed: each keeps the machine fit, and is a step of the rules.
use Rattle.std.proofs.Common.{◌≡◌, ℕ, ◌+◌, ◌*◌, ◌<◌, ◌≤◌, ◌≢◌, inl, inr, Bool, true, false, List, length, Option}
use Rattle.std.proofs.Common.{Some, None, slice_get}
use Rattle.std.proofs.Common.{slice_set, sum_by, is_some, refl, sym, ap, ◌∙◌, subst, arith}
use Rattle.std.specs.Option.{option_and_then}
use Rattle.std.proofs.lemmas.Bool.{cases_eq}
use Rattle.std.proofs.lemmas.List.{length-set}
use Rattle.parking_lot_core_model.specs.declared.parking.ParkToken.{ParkToken}
use Rattle.parking_lot_core_model.specs.declared.place.Section.{Section}
use Rattle.parking_lot_core_model.specs.Sound as lot
use Rattle.parking_lot_rules.specs.Any.{AnyStep, Mx, MxStep, Rw, any_after, any_allowed, any_crossing}
use Rattle.parking_lot_rules.specs.Classes.{bit}
use Rattle.parking_lot_rules.specs.Mutex as mutex
use Rattle.parking_lot_protocol.specs.Acts.{word_after}
use Rattle.parking_lot_protocol.specs.MutexRules as of_mutex
use Rattle.parking_lot_protocol.specs.RwRules as of_rw
use Rattle.parking_lot_protocol.specs.declared.mutex_core.MutexCore.{MutexCore}
use Rattle.parking_lot_protocol.specs.declared.act.Act.{Act}
use Rattle.parking_lot_protocol.specs.declared.act.SectionAct.TheVariants as section
use Rattle.parking_lot_protocol.specs.declared.act.ActResult.TheVariants as seen
use Rattle.parking_lot_protocol.specs.declared.act.ActResult.{ActResult}
use Rattle.parking_lot_protocol.specs.declared.mutex_phase.MutexPhase.{MutexPhase}
use Rattle.parking_lot_machine_calls.specs.declared.late_rw.LateRwPhase.{LateRwPhase}
use Rattle.parking_lot_machine_calls.specs.declared.late_rw.RwSleeper.{RwSleeper}
use Rattle.parking_lot_machine_calls.specs.declared.seat.LatePhase.{LatePhase}
use Rattle.parking_lot_machine_calls.specs.declared.seat.Core.{Core}
use Rattle.parking_lot_machine_calls.specs.declared.seat.QueuePosition.{QueuePosition}
use Rattle.parking_lot_machine_calls.specs.declared.open_call.Call.{Call}
use Rattle.parking_lot_machine.specs.ActLaws.{Acts}
use Rattle.parking_lot_machine_calls.specs.Kinds.{AsMutex, manner_of, recursive_in, AsRw}
use Rattle.parking_lot_machine.specs.LateActs.{expired, others_left, quitted, returned, found}
use Rattle.parking_lot_machine_calls.specs.LateCalls.{comes_late, is_back, is_pending, is_sleeping, late_comes}
use Rattle.parking_lot_machine_calls.specs.LateCalls.{late_key, late_of}
use Rattle.parking_lot_machine_calls.specs.LateCalls.{late_rw_comes, sleeps_in_time, found_as, is_handed}
use Rattle.parking_lot_machine.specs.LateLaws.{Expires, LateActsAreSteps, expire_step}
use Rattle.parking_lot_machine_calls.specs.LateRoles.{expiring as expiring_step, expiring_taken}
use Rattle.parking_lot_machine_calls.specs.LateRoles.{late_rw_role, reentering, sleeper_role, sleeper_wants}
use Rattle.parking_lot_machine.specs.Ranks.{Pays, Unseen, core_steps, far_steps, late_cost, own_steps, steps_left}
use Rattle.parking_lot_machine.specs.Ranks.{view_of}
use Rattle.parking_lot_machine_calls.specs.CallActs.{hears}
use Rattle.parking_lot_machine.specs.RowFits.{FitsTogether, IsPrepared, LotFits, RulesFit, sleeper_prepared}
use Rattle.parking_lot_machine_calls.specs.CallKinds.{IsOfKind}
use Rattle.parking_lot_machine.specs.RowSteps.{IsMade, IsMoveOf}
use Rattle.parking_lot_machine.specs.Rows.{State, call_at, mutex_at, queue_at, rw_lock_at, taken_by, word_at}
use Rattle.parking_lot_machine_calls.specs.CallRoles.{first_of_all, late_role, mutex_spot, rw_spot, mark_of}
use Rattle.parking_lot_machine_calls.specs.Stances.{Asleep, In, Joined, Takes, core_next, pending_from, sleeper_asleep}
use Rattle.parking_lot_machine_calls.specs.Stances.{stance}
use Rattle.parking_lot_machine.proofs.Calling.{call_of, call-elsewhere, calls-change, call-here, slot}
use Rattle.parking_lot_machine.proofs.KindTable.{Kind, Tardy, as_call, of_mutexes, of_rws, roles_at, rw_call, same}
use Rattle.parking_lot_machine.proofs.KindTable.{shown, Elsewhere, IsThere, one_changed, role_at, role_now, role_stays}
use Rattle.parking_lot_machine.proofs.KindTable.{Late as CallLate}
use Rattle.parking_lot_machine.proofs.LateKinds.{Comes, Lapses, comes, lapses, quits_less, returns_less, sleeper_plays}
use Rattle.parking_lot_machine.proofs.LateKinds.{finds_less}
use Rattle.parking_lot_machine.proofs.LateRules.{expire_crosses, expire_writes, may_expire_so, may_reenter_so}
use Rattle.parking_lot_machine.proofs.LateRules.{reenter_crosses, reenter_writes, may_expire_off, expire_off_writes}
use Rattle.parking_lot_machine.proofs.LateRules.{expire_off_crosses}
use Rattle.parking_lot_machine.proofs.LateLots.{expired_fits, returned_fits}
use Rattle.parking_lot_core_model.specs.Lists.{updated}
use Rattle.parking_lot_core_model.specs.Machine.{Machine, fresh_section}
use Rattle.parking_lot_core_model.specs.declared.place.Phase.{Phase}
use Rattle.parking_lot_core_model.proofs.Entering.{phase_within}
use Rattle.parking_lot_machine_calls.specs.Stances.{Out}
use Rattle.parking_lot_machine.specs.Rows.{bucket, open_at}
use Rattle.parking_lot_machine.proofs.Crossings.{comes_at}
use Rattle.parking_lot_machine.proofs.LotActs.{same_section}
use Rattle.parking_lot_machine.proofs.Making.{Crossed, entries, made, made_sound}
use Rattle.parking_lot_machine.proofs.OwnMoves.{AfterAct}
use Rattle.parking_lot_machine.proofs.Meeting.{in_range, meets, plays, plays_late}
use Rattle.parking_lot_machine.proofs.MutexMoving.{total_of_nobody}
use Rattle.parking_lot_machine.proofs.OwnActs.{nobody_first, nobody_in_mutex, nobody_second}
use Rattle.parking_lot_machine.proofs.Owning.{OwnAct}
use Rattle.parking_lot_machine.proofs.Passing.{around_at, own_passes, passes_after}
use Rattle.parking_lot_machine.proofs.Paying.{call-within, pays}
use Rattle.parking_lot_machine.proofs.RwCalls.{call_role}
use Rattle.parking_lot_machine.proofs.Ruling.{CallFits, Fitted, call_fits, rules_after, rules_own}
use Rattle.parking_lot_machine.proofs.Summing.{others_change, others_same}
use Rattle.parking_lot_machine.proofs.WakesActs.{wakes_still}
use Rattle.parking_lot_machine.proofs.WakesKept.{wakes_own}
use Rattle.parking_lot_machine_calls.specs.declared.seat.WakeResult.{WakeResult}
use Rattle.parking_lot_machine.proofs.Carrying.{same_call}
use Rattle.parking_lot_machine.proofs.LateTaken.{finds}
use Rattle.parking_lot_machine.proofs.LateQuits.{lapse_made, quits}

sleep_wakes : Act.Sleep ≡ Act.Section section.Wake → ⊥
sleep_wakes e = cc

lies_takes : {j k : ℕ} {park : ParkToken} → Asleep j park ≡ In k Takes → ⊥
lies_takes e = cc

joined_takes : {j k : ℕ} {park : ParkToken} → In j (Joined park) ≡ In k Takes → ⊥
joined_takes e = cc

role_so : (n : ℕ) (at : QueuePosition) (us : List ℕ) (k : RwSleeper) → call_role n at us (as_call k) ≡ sleeper_role n
    (rw_spot at) us k
role_so n at us (RwSleeper.Simple c) = refl
role_so n at us (RwSleeper.Upgradable c) = refl

-- THE MOMENT PASSES

module _ (s : State) (t : ℕ) (c : Call) (asleep : sleeps_in_time c.core ≡ true) (h : FitsTogether s)
    (here : call_at s t ≡ Some c) where
  abbrev late_call : Call
  late_call = record c { core = late_of c.core }

  abbrev late_state : State
  late_state = expired s t c

  lapse : Lapses (recursive_in s.kinds c.lock) c.others c.core
  lapse = lapses (recursive_in s.kinds c.lock) c.others c.core asleep (h.rules.prepared t c here)

  late_here : call_at late_state t ≡ Some late_call
  late_here = call-here s.calls t (Some c) (Some late_call) (slot s.calls t c here)

  late_others : (x : ℕ) → x ≢ t → call_at late_state x ≡ call_at s x
  late_others x ne = call-elsewhere s.calls t x (Some late_call) ne

  late_there : IsThere c.lock (call_at s t)
  late_there = subst (IsThere c.lock) (sym here) refl

  late_elsewhere : Elsewhere c.lock s late_state
  late_elsewhere = record {
    kinds = refl;
    threads = length-set s.calls t (Some late_call);
    words = λ j ne. refl;
    queues = λ j k ne b. refl;
    holds = λ x j ne. refl;
    calls = λ x. elim (cases_eq x t) [
      | inl f ↦ inr (
        subst (λ n. IsThere c.lock (call_at s n)) (sym f) late_there,
        subst (λ n. IsThere c.lock (call_at late_state n)) (sym f) (subst (IsThere c.lock) (sym late_here) refl),
      )
      | inr ne ↦ inl (late_others x ne, refl)
    ];
  }

  -- only its own role changes
  module _ {C R L : Type 0} (K : Kind C R L) (q : C) (next : late_of c.core ≡ K.core q)
      (kind_is : manner_of (slice_get s.kinds c.lock) ≡ Some K.manner) where
    late_after : shown K late_state c.lock ≡ K.lock (word_at s c.lock)
        (slice_set (roles_at K s c.lock) t (K.plays c.others c.spot (taken_by s.wakes t) q)) (queue_at s (2 * c.lock))
        (queue_at s (2 * c.lock + 1))
    late_after =
        same K _ _ _ _ _ _ _ _ refl
        (one_changed (role_at K s c.lock) (role_at K late_state c.lock) (length s.calls) (length late_state.calls) t _
        (in_range s t c here) (length-set s.calls t (Some late_call))
        (λ y ne. role_stays K s late_state c.lock y (late_others y ne) refl refl)
        (role_now K late_state t (taken_by s.wakes t) late_call q late_here refl next))
        refl refl

    late_made : (step : AnyStep) → any_allowed (recursive_in s.kinds) c.lock t step (K.any (shown K s c.lock))
        → K.any (K.lock (word_at s c.lock)
        (slice_set (roles_at K s c.lock) t (K.plays c.others c.spot (taken_by s.wakes t) q))
        (queue_at s (2 * c.lock)) (queue_at s (2 * c.lock + 1))) ≡ any_after t step (K.any (shown K s c.lock))
        → Crossed (any_crossing step) t (entries s c.lock) (entries s c.lock)
        → IsMade c.lock t step s late_state
    late_made step allowed leads crossed = made K s late_state t c.lock late_there late_elsewhere kind_is step allowed
        (ap K.any late_after ∙ leads) crossed

  expiring_mutex : (q : MutexPhase) (y : MutexCore) → c.core ≡ Core.Mutex (record y { phase = q })
      → is_sleeping q ≡ true → (at : QueuePosition) → c.spot ≡ at
      → IsMade c.lock t (expire_step (Core.Mutex (record y { phase = q })) at) s late_state
  expiring_mutex MutexPhase.Sleeps y e is at f = go at f
    where
      z : MutexCore
      z = record y { phase = MutexPhase.Sleeps }

      kind_is : manner_of (slice_get s.kinds c.lock) ≡ Some AsMutex
      kind_is = subst (IsOfKind (slice_get s.kinds c.lock)) e (h.rules.kinds t c here)

      mine : slice_get (mutex_at s c.lock).roles t ≡ Some
          (of_mutex.role (mutex_spot c.spot) (first_of_all (taken_by s.wakes t)) MutexPhase.Sleeps)
      mine = (plays s h t c z e here (λ w. sleep_wakes w)).here

      go : (at : QueuePosition) → c.spot ≡ at → IsMade c.lock t (expire_step (Core.Mutex z) at) s late_state
      go QueuePosition.Listed f =
          late_made of_mutexes (CallLate LatePhase.Expires) (ap late_of e) kind_is (MxStep (mutex.Alone mutex.Expire)) (
            mine ∙ ap (λ p. Some
                (of_mutex.role (mutex_spot p) (first_of_all (taken_by s.wakes t)) MutexPhase.Sleeps)) f,
            tt,
          )
          (ap (λ p. Mx (record (mutex_at s c.lock)
          { roles = slice_set (mutex_at s c.lock).roles t (late_role (mutex_spot p) LatePhase.Expires) })) f)
          (tt, λ b. refl)
      go (QueuePosition.Off by said) f =
          late_made of_mutexes (CallLate LatePhase.Expires) (ap late_of e) kind_is
          (MxStep (mutex.Alone (mutex.ExpireTaken by (mark_of said)))) (
            mine ∙ ap (λ p. Some
                (of_mutex.role (mutex_spot p) (first_of_all (taken_by s.wakes t)) MutexPhase.Sleeps)) f,
            tt,
          )
          (ap (λ p. Mx (record (mutex_at s c.lock)
          { roles = slice_set (mutex_at s c.lock).roles t (late_role (mutex_spot p) LatePhase.Expires) })) f)
          (tt, λ b. refl)
  expiring_mutex q y e is at f = absurd cc

  module _ (k : RwSleeper) (e : c.core ≡ rw_call (as_call k))
      (next : late_of c.core ≡ Core.LateRw (LateRwPhase.Expires k)) (slept : sleeper_asleep k ≡ true)
      (ready : sleeper_prepared (recursive_in s.kinds c.lock) c.others k) where
    rw_there : manner_of (slice_get s.kinds c.lock) ≡ Some AsRw
    rw_there = of_rws.of_kind (slice_get s.kinds c.lock) (as_call k)
        (subst (IsOfKind (slice_get s.kinds c.lock)) e (h.rules.kinds t c here))

    rw_mine : (at : QueuePosition) → c.spot ≡ at → slice_get (rw_lock_at s c.lock).roles t ≡ Some
        (sleeper_role c.others (rw_spot at) (taken_by s.wakes t) k)
    rw_mine at f = (meets s h t c (as_call k) e here).here ∙ ap Some (role_so c.others c.spot (taken_by s.wakes t) k)
        ∙ ap (λ p. Some (sleeper_role c.others (rw_spot p) (taken_by s.wakes t) k)) f

    rw_late : (at : QueuePosition) → c.spot ≡ at
        → Rw (record (rw_lock_at s c.lock) {
          roles = slice_set (rw_lock_at s c.lock).roles t
              (late_rw_role c.others (rw_spot c.spot) (taken_by s.wakes t) (LateRwPhase.Expires k));
        })
        ≡ Rw (record (rw_lock_at s c.lock) {
          roles = slice_set (rw_lock_at s c.lock).roles t
              (late_rw_role c.others (rw_spot at) (taken_by s.wakes t) (LateRwPhase.Expires k));
        })
    rw_late at f = ap (λ p. Rw
        (record (rw_lock_at s c.lock) {
          roles = slice_set (rw_lock_at s c.lock).roles t
              (late_rw_role c.others (rw_spot p) (taken_by s.wakes t) (LateRwPhase.Expires k));
        })) f

    expiring_listed : c.spot ≡ QueuePosition.Listed → IsMade c.lock t (expiring_step k) s late_state
    expiring_listed f =
        let role = sleeper_plays (recursive_in s.kinds c.lock) c.others (taken_by s.wakes t) k slept ready in
        late_made of_rws (Tardy (LateRwPhase.Expires k)) next rw_there (expiring_step k) (
          rw_mine QueuePosition.Listed f ∙ ap Some role.0,
          may_expire_so (recursive_in s.kinds c.lock) (pending_from k)
              (sleeper_wants k) (rw_lock_at s c.lock),
        )
        (rw_late QueuePosition.Listed f
        ∙ ap (λ r. Rw (record (rw_lock_at s c.lock) { roles = slice_set (rw_lock_at s c.lock).roles t r })) role.1
        ∙ expire_writes (pending_from k) (sleeper_wants k) (rw_lock_at s c.lock) t)
        (expire_crosses (pending_from k) (sleeper_wants k) t (entries s c.lock))

    expiring_off : (by : ℕ) (said : WakeResult) → c.spot ≡ QueuePosition.Off by said
        → IsMade c.lock t (expiring_taken k by (mark_of said)) s late_state
    expiring_off by said f =
        let role = (sleeper_plays (recursive_in s.kinds c.lock) c.others (taken_by s.wakes t) k slept ready).5 by
        (mark_of said) in
        late_made of_rws (Tardy (LateRwPhase.Expires k)) next rw_there (expiring_taken k by (mark_of said)) (
          rw_mine (QueuePosition.Off by said) f ∙ ap Some role.0,
          may_expire_off (recursive_in s.kinds c.lock)
              (pending_from k) (sleeper_wants k) by (mark_of said) (rw_lock_at s c.lock),
        )
        (rw_late (QueuePosition.Off by said) f
        ∙ ap (λ r. Rw (record (rw_lock_at s c.lock) { roles = slice_set (rw_lock_at s c.lock).roles t r })) role.1
        ∙ expire_off_writes (pending_from k) (sleeper_wants k) by (mark_of said) (rw_lock_at s c.lock) t)
        (expire_off_crosses (pending_from k) (sleeper_wants k) by (mark_of said) t (entries s c.lock))

  expiring : IsMade c.lock t (expire_step c.core c.spot) s late_state
  expiring = go c.core c.spot refl refl asleep
    where
      go : (x : Core) (at : QueuePosition) → c.core ≡ x → c.spot ≡ at → sleeps_in_time x ≡ true
          → IsMade c.lock t (expire_step x at) s late_state
      go (Core.Mutex k) at e f is = expiring_mutex k.phase k e is at f
      go (Core.Rw k) QueuePosition.Listed e f is = expiring_listed (RwSleeper.Simple k) e (ap late_of e) is
          (subst (IsPrepared (recursive_in s.kinds c.lock) c.others) e (h.rules.prepared t c here)) f
      go (Core.Rw k) (QueuePosition.Off by said) e f is = expiring_off (RwSleeper.Simple k) e (ap late_of e) is
          (subst (IsPrepared (recursive_in s.kinds c.lock) c.others) e (h.rules.prepared t c here)) by said f
      go (Core.Upgrade k) QueuePosition.Listed e f is = expiring_listed (RwSleeper.Upgradable k) e (ap late_of e) is
          (subst (IsPrepared (recursive_in s.kinds c.lock) c.others) e (h.rules.prepared t c here)) f
      go (Core.Upgrade k) (QueuePosition.Off by said) e f is = expiring_off (RwSleeper.Upgradable k) e (ap late_of e) is
          (subst (IsPrepared (recursive_in s.kinds c.lock) c.others) e (h.rules.prepared t c here)) by said f
      go (Core.Late p) at e f is = absurd cc
      go (Core.LateRw p) at e f is = absurd cc

  expired_rules : RulesFit late_state
  expired_rules = rules_after s late_state c.lock h.rules (record {
    kinds = refl;
    threads = length-set s.calls t (Some late_call);
    holds = refl;
    words = refl;
    calls = λ v e is. calls-change (λ x f. CallFits s.kinds s.lot.queues f) s.calls t c late_call here
        (λ x f ne at. call_fits s h.rules x f at)
        (record {
          kind = lapse.kind (manner_of (slice_get s.kinds c.lock)) (h.rules.kinds t c here);
          prepared = lapse.prepared;
          knows = lapse.knows s.lot.queues c.lock;
          beside = h.rules.beside t c here;
          begun = record { begun = lapse.begun; few = lapse.few (h.rules.begun t c here).few };
        }) v e is;
    few = h.rules.few;
    elsewhere = λ i ne. refl;
    bits = h.rules.bits c.lock;
    sound = made_sound s late_state t c.lock (expire_step c.core c.spot) refl expiring h.rules.sound;
  })

  -- how many steps it adds
  expired_costs : (v : ℕ) → steps_left late_state v ≤ steps_left s v + late_cost (length s.calls) c.core
  expired_costs v = elim (cases_eq v t) [
    | inl e ↦ subst (λ x. steps_left late_state x ≤ steps_left s x + late_cost (length s.calls) c.core) (sym e)
        (omega (
          arith,
          ap (own_steps late_state t) (call-within s.calls t (Some late_call) (in_range s t c here)),
          ap (own_steps s t) here,
          ap (λ m. core_steps m (view_of s t c) (late_of c.core)) (length-set s.calls t (Some late_call)),
          ap (λ m. sum_by (far_steps m) (slice_set late_state.calls t None)) (length-set s.calls t (Some late_call)),
          others_same (length s.calls) s.calls t (Some late_call),
          lapse.costs (length s.calls) (view_of s t c),
        ))
    | inr ne ↦
        omega (
          arith,
          ap (own_steps late_state v) (call-elsewhere s.calls t v (Some late_call) ne),
          same_own v (call_at s v),
          ap (λ m. sum_by (far_steps m) (slice_set late_state.calls v None)) (length-set s.calls t (Some late_call)),
          others_change (length s.calls) s.calls v t (late_cost (length s.calls) c.core) (Some late_call)
              (omega (arith, lapse.costs (length s.calls) Unseen, ap (far_steps (length s.calls)) here)),
        )
  ]
    where
      same_own : (v : ℕ) (o : Option Call) → own_steps late_state v o ≡ own_steps s v o
      same_own v None = refl
      same_own v (Some d) = ap (λ n. core_steps n (view_of s v d) d.core) (length-set s.calls t (Some late_call))

  expired_lots : LotFits late_state
  expired_lots = expired_fits s t c late_call lapse.key lapse.park h.lots here lapse.lies lapse.lies_on refl refl
      (lapse.none_on ∙ sym lapse.none) (λ e. absurd (sleep_wakes (sym lapse.act_on ∙ e)))

  pub expires : Expires t c s late_state
  expires = record {
    fits = record {
      lots = expired_lots;
      passes = passes_after s late_state t expired_lots h.passes (λ v k o ne at whose. (at, refl))
          (λ v d k ne at is. (d, sym (late_others v ne) ∙ at, refl, refl))
          (λ d k o at is sec. absurd
          (lies_takes (sym lapse.lies_on ∙ ap (λ (y : Call). stance y.core) (same_call (sym late_here ∙ at))
          ∙ is)));
      wakes = wakes_still s late_state t c late_call h.wakes here refl refl refl;
      rules = expired_rules;
    };
    goes = expiring;
    costs = expired_costs;
  }

-- IT COMES BACK

module _ (s : State) (t : ℕ) (c : Call) (late : comes_late c.core ≡ true) (listed : c.spot ≡ QueuePosition.Listed)
    (free : open_at s (late_key c) ≡ None) (sound : lot.Sound (returned s t c).lot) (h : FitsTogether s)
    (here : call_at s t ≡ Some c) where
  abbrev back_state : State
  back_state = returned s t c

  come : Comes (recursive_in s.kinds c.lock) c.others c.core
  come = comes (recursive_in s.kinds c.lock) c.others c.core late (h.rules.prepared t c here)

  own_back : OwnAct s back_state t c seen.Entered (core_next c.core seen.Entered) c.spot
  own_back = record {
    here = here;
    calls = refl;
    kinds = refl;
    wakes = refl;
    holds = refl;
    sizes = refl;
    word = sym (ap (λ a. word_after a seen.Entered (word_at s c.lock)) come.act);
    words = λ i ne. refl;
    queues = λ i k ne b. refl;
    buckets = refl;
    listed = λ k token e. listed;
  }

  back_of : (x : Core) → c.core ≡ x → OwnAct s back_state t c seen.Entered (core_next x seen.Entered) c.spot
  back_of x e = subst (λ (y : Core). OwnAct s back_state t c seen.Entered (core_next y seen.Entered) c.spot) e own_back

  abbrev which : ℕ
  which = bit (is_pending c.core)

  abbrev back_section : Section
  back_section = record (fresh_section (Some t) (late_key c)) { phase = Phase.Joined }

  back_secs : (b : ℕ) → back_state.lot.sections b ≡ updated s.lot.sections (bucket s (late_key c)) (Some back_section) b
  back_secs b = ap (λ (m : Machine). m.sections b)
      (phase_within s.lot (fresh_section (Some t) (late_key c)) Phase.Joined)

  back_crosses : (b : Bool) → is_pending c.core ≡ b
      → AfterAct Out (Act.Enter (bit b)) t (entries s c.lock) (entries back_state c.lock)
  back_crosses b e =
      subst (λ (x : Bool). AfterAct Out (Act.Enter (bit x)) t (entries s c.lock) (entries back_state c.lock)) e
      (comes_at s back_state t c.lock (Some back_section) Out which (small (is_pending c.core))
      (ap (option_and_then (λ (x : Section). x.thread)) free) refl back_secs)
    where
      small : (x : Bool) → bit x < 2
      small true = omega arith
      small false = omega arith

  back_mutex : (p : LatePhase) → c.core ≡ Core.Late p → late_comes p ≡ true
      → IsMoveOf (Core.Late p) c.others (taken_by s.wakes t) seen.Entered c.lock t s back_state
  back_mutex LatePhase.Expires e is =
      let kind_is = subst (IsOfKind (slice_get s.kinds c.lock)) e (h.rules.kinds t c here) in
      lapse_made of_mutexes s back_state t c seen.Entered (CallLate LatePhase.Quits) c.spot
      (back_of (Core.Late LatePhase.Expires) e) kind_is (MxStep (mutex.Alone mutex.Reenter)) refl (
        (plays_late s h t c LatePhase.Expires e here).here
            ∙ ap (λ at. Some (late_role (mutex_spot at) LatePhase.Expires)) listed,
        total_of_nobody (mutex_at s c.lock).roles
            (nobody_in_mutex s h c.lock (back_crosses false (ap is_pending e)).0 kind_is),
      ) refl (back_crosses false (ap is_pending e))
  back_mutex p e is = absurd cc

  back_rw : (p : LateRwPhase) → c.core ≡ Core.LateRw p → late_rw_comes p ≡ true
      → IsMoveOf (Core.LateRw p) c.others (taken_by s.wakes t) seen.Entered c.lock t s back_state
  back_rw (LateRwPhase.Expires k) e is =
      let us = taken_by s.wakes t in
      let kind_is = subst (IsOfKind (slice_get s.kinds c.lock)) e (h.rules.kinds t c here) in
      let ready = subst (IsPrepared (recursive_in s.kinds c.lock) c.others) e (h.rules.prepared t c here) in
      let role = sleeper_plays (recursive_in s.kinds c.lock) c.others us k ready.0 ready.1 in
      let mine : slice_get (rw_lock_at s c.lock).roles t ≡ Some
      (late_rw_role c.others of_rw.Listed us (LateRwPhase.Expires k)) =
      (meets s h t c (Tardy (LateRwPhase.Expires k)) e here).here
      ∙ ap (λ at. Some (call_role c.others at us (Tardy (LateRwPhase.Expires k)))) listed in
      lapse_made of_rws s back_state t c seen.Entered (Tardy (LateRwPhase.Quits k)) c.spot
      (back_of (Core.LateRw (LateRwPhase.Expires k)) e) kind_is (reentering k) refl (
        mine ∙ ap Some role.2,
        may_reenter_so (recursive_in s.kinds c.lock) (pending_from k) (sleeper_wants k)
            (rw_lock_at s c.lock)
            (λ none. nobody_first s h c.lock (back_crosses false (ap is_pending e ∙ none)).0 kind_is)
            (λ some. nobody_second s h c.lock (back_crosses true (ap is_pending e ∙ some)).0 kind_is),
      )
      (ap (λ r. Rw (record (rw_lock_at s c.lock) { roles = slice_set (rw_lock_at s c.lock).roles t r })) role.3
      ∙ reenter_writes (pending_from k) (sleeper_wants k) (rw_lock_at s c.lock) t)
      (reenter_crosses (pending_from k) (sleeper_wants k) t (entries s c.lock) (entries back_state c.lock) Out
      (back_crosses (is_some (pending_from k)) (ap is_pending e)))
  back_rw p e is = absurd cc

  back_fitted : Fitted s back_state t c seen.Entered c.core
  back_fitted = (go c.core refl late, come.prepared, come.knows back_state.lot.queues c.lock, h.rules.bits c.lock)
    where
      go : (x : Core) → c.core ≡ x → comes_late x ≡ true → IsMoveOf x c.others (taken_by s.wakes t) seen.Entered c.lock
          t s back_state
      go (Core.Late p) e is = back_mutex p e is
      go (Core.LateRw p) e is = back_rw p e is
      go (Core.Mutex k) e is = absurd cc
      go (Core.Rw k) e is = absurd cc
      go (Core.Upgrade k) e is = absurd cc

  pub returns : (told : ActResult) × Acts t c told s back_state
  returns =
      let lots = returned_fits s t c (hears c seen.Entered) (bit (is_pending c.core)) come.park h.lots here come.lies
      come.back refl listed listed (come.none_on ∙ sym come.none) come.none
      (λ e. absurd (sleep_wakes (sym come.act_on ∙ e))) free in
      let both = rules_own s back_state t c seen.Entered c.spot own_back h (λ v e ne at. h.rules.knows v e at)
      back_fitted in (
        seen.Entered,
        record {
          fits = record {
            lots = lots;
            passes = own_passes s back_state t c seen.Entered (core_next c.core seen.Entered) c.spot own_back lots
                h.passes (around_at s back_state t (late_key c) (Some back_section) back_secs refl
                (λ x e. ap (λ (y : Section). y.thread) (sym (same_section e))) (λ k e. refl))
                (λ k o e at. absurd (joined_takes (sym come.back ∙ e)));
            wakes = wakes_own s back_state t c seen.Entered (core_next c.core seen.Entered) own_back h.wakes;
            rules = both.0;
          };
          goes = both.1;
        },
      )

-- AND THEY ARE PAID FOR

module _ (s u : State) (t : ℕ) (c d : Call) (here : call_at s t ≡ Some c)
    (calls : u.calls ≡ slice_set s.calls t (Some d)) where
  late_pays : core_steps (length s.calls) (view_of u t d) d.core + 1 ≤ core_steps (length s.calls) (view_of s t c)
      c.core → Pays t s u
  late_pays own =
      let n = length s.calls in
      pays s u t 0 c d here (ap (λ cs. call_of cs t) calls ∙ call-within s.calls t (Some d) (in_range s t c here))
      (ap length calls ∙ length-set s.calls t (Some d))
      (omega (arith, ap (λ cs. sum_by (far_steps n) (slice_set cs t None)) calls, others_same n s.calls t (Some d)))
      (omega (arith, own))

pub returns_pay : (s : State) (t : ℕ) (c : Call) → comes_late c.core ≡ true → call_at s t ≡ Some c
    → Pays t s (returned s t c)
returns_pay s t c late here =
    let u = returned s t c in
    let d = hears c seen.Entered in
    late_pays s u t c d here refl (returns_less (length s.calls) (view_of u t d) (view_of s t c) c.core late)

pub finds_pay : (s : State) (t : ℕ) (c : Call) (by : ℕ) (said : WakeResult) → comes_late c.core ≡ true → FitsTogether s
    → call_at s t ≡ Some c → Pays t s (found s t c by said)
finds_pay s t c by said late h here =
    let u = found s t c by said in
    let d : Call = record c { core = found_as by (is_handed said) c.core; spot = QueuePosition.Listed } in
    late_pays s u t c d here refl
    (finds_less (length s.calls) (view_of u t d) (view_of s t c) c.core by (is_handed said) late
    (recursive_in s.kinds c.lock) c.others (h.rules.prepared t c here))

pub quits_pay : (s : State) (t : ℕ) (c : Call) → is_back c.core ≡ true → call_at s t ≡ Some c → Pays t s (quitted s t c)
quits_pay s t c late here =
    let left = others_left s t c in
    let u = quitted s t c in
    let d = hears c (seen.Took None left) in
    late_pays s u t c d here refl (quits_less (length s.calls) (view_of u t d) (view_of s t c) c.core left late)

pub laws : LateActsAreSteps
laws = record {
  expires = λ s t c asleep h here. expires s t c asleep h here;
  returns = λ s t c late listed free sound h here. returns s t c late listed free sound h here;
  finds = λ s t c by said late off free sound h here. finds s t c by said late off free sound h here;
  quits = λ s t c late sound h here. quits s t c late h here sound;
  returns_pay = returns_pay;
  finds_pay = finds_pay;
  quits_pay = quits_pay;
}
