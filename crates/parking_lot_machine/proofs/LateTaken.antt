-- One whose moment has passed and that was taken comes back and finds that out. That is two steps of the rules: its
-- taker drops it from those that it is to wake, and it enters the section. The machine stays fit.
use Rattle.std.proofs.Common.{◌≡◌, ◌≢◌, ◌≤◌, ◌<◌, ℕ, ◌+◌, ◌*◌, ◌==◌, inl, inr, Bool, true, false, cond, List, length}
use Rattle.std.proofs.Common.{Option}
use Rattle.std.proofs.Common.{Some, None, is_some, slice_get, slice_set, refl, sym, ap, ◌∙◌, subst, arith}
use Rattle.std.specs.List.{position_or_len}
use Rattle.std.specs.Option.{option_and_then}
use Rattle.std.proofs.lemmas.Bool.{cases_eq, ne_eqb}
use Rattle.std.proofs.lemmas.List.{length-set}
use Rattle.std.proofs.lemmas.List.Edits.{length-remove}
use Rattle.std.proofs.lemmas.Option.{none-some, slice_get_within}
use Rattle.parking_lot_core_model.specs.declared.parking.UnparkToken.{UnparkToken}
use Rattle.parking_lot_core_model.specs.declared.place.Place.TheVariants.{Running, Taken}
use Rattle.parking_lot_core_model.specs.declared.place.Sleep.{Sleep}
use Rattle.parking_lot_core_model.specs.declared.place.Phase.{Phase}
use Rattle.parking_lot_core_model.specs.declared.place.Section.{Section}
use Rattle.parking_lot_core_model.specs.declared.place.Waiter.{Waiter}
use Rattle.parking_lot_core_model.specs.Sound as lot
use Rattle.parking_lot_core_model.proofs.Numbers.{flag, count_by-set}
use Rattle.parking_lot_rules.specs.Any.{Mx, MxStep, Rw, RwStep}
use Rattle.parking_lot_rules.specs.Classes.{bit}
use Rattle.parking_lot_rules.specs.Lock.{Note, note_of}
use Rattle.parking_lot_rules.specs.Mutex as mutex
use Rattle.parking_lot_rules.specs.Roles.{Back, Late, Mark, Mode, Owned, Role}
use Rattle.parking_lot_rules.specs.Roles as rules
use Rattle.parking_lot_rules.specs.Steps.{Pass}
use Rattle.parking_lot_rules.specs.Plain.{from}
use Rattle.parking_lot_protocol.specs.MutexRules as of_mutex
use Rattle.parking_lot_protocol.specs.RwRules as of_rw
use Rattle.parking_lot_protocol.specs.declared.act.Act.TheVariants as act
use Rattle.parking_lot_protocol.specs.declared.act.ActResult.{ActResult}
use Rattle.parking_lot_protocol.specs.declared.act.ActResult.TheVariants as seen
use Rattle.parking_lot_protocol.specs.declared.act.SectionAct.TheVariants as section
use Rattle.parking_lot_protocol.specs.declared.mutex_phase.MutexPhase.{MutexPhase}
use Rattle.parking_lot_protocol.specs.Acts.{word_after}
use Rattle.parking_lot_machine_calls.specs.declared.late_rw.LateRwPhase.{LateRwPhase}
use Rattle.parking_lot_machine_calls.specs.declared.late_rw.RwSleeper.{RwSleeper}
use Rattle.parking_lot_machine_calls.specs.declared.seat.LatePhase.{LatePhase}
use Rattle.parking_lot_machine_calls.specs.declared.seat.Core.{Core}
use Rattle.parking_lot_machine_calls.specs.declared.seat.QueuePosition.{QueuePosition}
use Rattle.parking_lot_machine_calls.specs.declared.seat.WakeResult.{WakeResult}
use Rattle.parking_lot_machine_calls.specs.declared.seat.Wakeup.{Wakeup}
use Rattle.parking_lot_machine_calls.specs.declared.open_call.Call.{Call}
use Rattle.parking_lot_machine.specs.ActLaws.{Acts}
use Rattle.parking_lot_machine_calls.specs.Kinds.{AsMutex, Manner, manner_of, recursive_in}
use Rattle.parking_lot_machine.specs.LateActs.{found, found_lot, unowed}
use Rattle.parking_lot_machine_calls.specs.LateCalls.{comes_late, found_as, is_handed, is_pending, late_comes}
use Rattle.parking_lot_machine_calls.specs.LateCalls.{late_key, late_rw_comes}
use Rattle.parking_lot_machine_calls.specs.LateRoles.{finding, finds_as, sleeper_role, sleeper_wants, stays}
use Rattle.parking_lot_machine_calls.specs.CallActs.{told_of}
use Rattle.parking_lot_machine.specs.RowFits.{FitsTogether, IsPrepared, KnowsList, LotFits, PassesFit, RulesFit}
use Rattle.parking_lot_machine.specs.RowFits.{WakesFit, is_away, is_off, IsAt}
use Rattle.parking_lot_machine_calls.specs.CallKinds.{IsOfKind, IsOfManner}
use Rattle.parking_lot_machine.specs.RowSteps.{IsMade, IsMoveOf, IsMutexFound, IsRwFound}
use Rattle.parking_lot_machine.specs.Rows.{State, call_at, hold_at, is_for, mutex_at, queue_at, rw_lock_at}
use Rattle.parking_lot_machine.specs.Rows.{taken_by, word_at}
use Rattle.parking_lot_machine_calls.specs.CallRoles.{late_role, mark_of, mutex_spot}
use Rattle.parking_lot_machine_calls.specs.Stances.{Asleep, In, Out, Stance, Takes, Tells, core_act, has_begun}
use Rattle.parking_lot_machine_calls.specs.Stances.{pending_from}
use Rattle.parking_lot_machine_calls.specs.Stances.{sign, sleeper_asleep, stance, taken_count}
use Rattle.parking_lot_machine.specs.Rounds.{rounds}
use Rattle.parking_lot_machine.proofs.Calling.{call-here, call-elsewhere, calls-change, slot}
use Rattle.parking_lot_machine.proofs.Carrying.{same_call}
use Rattle.parking_lot_machine.proofs.Indexing.{kept_remove}
use Rattle.parking_lot_machine.proofs.KindTable.{Elsewhere, IsThere, Kind, MutexCall, Plain, Tardy, in_its_place}
use Rattle.parking_lot_machine.proofs.KindTable.{of_mutexes, of_rws, one_changed, role_at, role_stays, roles_at}
use Rattle.parking_lot_machine.proofs.KindTable.{mutex_call, same, shown}
use Rattle.parking_lot_machine.proofs.KindTable.{Late as CallLate}
use Rattle.parking_lot_machine.proofs.LateFinds.{Owing, found_fits, owing, told_there}
use Rattle.parking_lot_machine.proofs.LateKinds.{Comes, comes, sleeper_plays, PlaysOff}
use Rattle.parking_lot_machine.proofs.LateRules.{find_crosses, find_writes, may_find_so}
use Rattle.parking_lot_core_model.specs.Lists.{updated}
use Rattle.parking_lot_core_model.specs.Machine.{Machine, fresh_section, in_phase, stored}
use Rattle.parking_lot_core_model.proofs.Entering.{phase_within, stored_within}
use Rattle.parking_lot_machine.specs.Rows.{open_at}
use Rattle.parking_lot_machine.proofs.Crossings.{comes_at}
use Rattle.parking_lot_machine.proofs.OwnMoves.{AfterAct}
use Rattle.parking_lot_machine.proofs.LotActs.{lot_with_at, same_section, seat_of}
use Rattle.parking_lot_machine.proofs.Making.{IsSoundState, entries, made, made_sound, move_sound}
use Rattle.parking_lot_machine.proofs.Meeting.{in_range, meets, plays_late}
use Rattle.parking_lot_machine.proofs.MutexMoving.{total_of_nobody}
use Rattle.parking_lot_machine.proofs.OwnActs.{sound_first, sound_in_mutex, sound_second}
use Rattle.parking_lot_machine.proofs.Passing.{around_at, passes_after}
use Rattle.parking_lot_machine.proofs.Rousing.{late_wakes, mutex_wakes, others_taken}
use Rattle.parking_lot_machine.proofs.Ruling.{CallFits, call_fits, rules_after}
use Rattle.parking_lot_machine.proofs.Owning.{OwnAct, own-elsewhere, own-there, own_after}
use Rattle.parking_lot_machine.proofs.Sleepers.{ready_sleeper, sleeps_there}
use Rattle.parking_lot_machine_calls.specs.Stances as stances
use Rattle.parking_lot_machine.proofs.RwCalls.{call_role}
use Rattle.parking_lot_machine.proofs.RwPasses.{call_passes}
use Rattle.parking_lot_machine.proofs.TakersOut.{Dropped, drops, takers_out}
use Rattle.parking_lot_core_model.specs.Places.{place_at}

-- what it was told by is the mark that it bears
told_mark : (token : UnparkToken) → mark_of (told_of token) ≡ of_mutex.mark_of (is_handed (told_of token))
told_mark token = go (token.0 == 1)
  where
    go : (b : Bool) → mark_of (cond b WakeResult.HandedOver WakeResult.TryAgain) ≡ of_mutex.mark_of
        (is_handed (cond b WakeResult.HandedOver WakeResult.TryAgain))
    go true = refl
    go false = refl

told_takes : {j k : ℕ} → In j (Tells (sign false)) ≡ In k Takes → ⊥
told_takes e = cc

-- which is none that its taker is still to tell
mutex_silent : (by : ℕ) (b : Bool) (x : ℕ) (mark : Mark) → mutex.phase_note (mutex.Taken by (of_mutex.mark_of b) Late) ≢
    Some (x, mark)
mutex_silent by true x mark e = none-some (x, mark) e
mutex_silent by false x mark e = none-some (x, mark) e

rw_silent : (o : Option Bool) (m : Mode) (by : ℕ) (b : Bool) (x : ℕ) (note : Note)
    → note_of (from (finds_as o m by (of_mutex.mark_of b))).does ≢ Some (x, note)
rw_silent (Some was) m by b x note e = none-some (x, note) e
rw_silent None m by true x note e = none-some (x, note) e
rw_silent None m by false x note e = none-some (x, note) e

-- WHAT IT SAYS THEN

record Found (recursive : Bool) (n : ℕ) (x : Core) (by : ℕ) (handed : Bool) : Type 0 where
  to : stance (found_as by handed x) ≡ In (bit (is_pending x)) (Tells (sign false))
  none : taken_count (found_as by handed x) ≡ 0
  wakes : core_act (found_as by handed x) ≡ act.Section section.Wake → ⊥
  prepared : IsPrepared recursive n (found_as by handed x)
  knows : (queues : ℕ → List Waiter) (j : ℕ) → KnowsList (found_as by handed x) queues j
  kind : (m : Option Manner) → IsOfManner m x → IsOfManner m (found_as by handed x)
  begun : has_begun (found_as by handed x) ≡ true
  few : rounds x ≤ 10 → rounds (found_as by handed x) ≤ 10

late_found : (recursive : Bool) (n : ℕ) (p : LatePhase) (by : ℕ) (handed : Bool) → late_comes p ≡ true
    → IsPrepared recursive n (Core.Late p) → Found recursive n (Core.Late p) by handed
late_found recursive n LatePhase.Expires by handed e h =
    record {
      to = refl;
      none = refl;
      wakes = λ w. cc;
      prepared = h;
      knows = λ queues j. tt;
      kind = λ m z. z;
      begun = refl;
      few = λ z. omega arith;
    }
late_found recursive n p by handed e h = absurd cc

tardy_found : (recursive : Bool) (n : ℕ) (p : LateRwPhase) (by : ℕ) (handed : Bool) → late_rw_comes p ≡ true
    → IsPrepared recursive n (Core.LateRw p) → Found recursive n (Core.LateRw p) by handed
tardy_found recursive n (LateRwPhase.Expires k) by handed e h =
    let at = sleeps_there k (ready_sleeper recursive n k h.1) h.0 in
    record {
      to = ap stances.found_as at.2 ∙ ap (λ key. In key (Tells (sign false))) (sym at.3);
      none = refl;
      wakes = λ w. cc;
      prepared = h;
      knows = λ queues j. tt;
      kind = λ m z. z;
      begun = refl;
      few = λ z. z;
    }
tardy_found recursive n p by handed e h = absurd cc

found_so : (recursive : Bool) (n : ℕ) (x : Core) (by : ℕ) (handed : Bool) → comes_late x ≡ true
    → IsPrepared recursive n x → Found recursive n x by handed
found_so recursive n (Core.Late p) by handed e h = late_found recursive n p by handed e h
found_so recursive n (Core.LateRw p) by handed e h = tardy_found recursive n p by handed e h
found_so recursive n (Core.Mutex k) by handed e h = absurd cc
found_so recursive n (Core.Rw k) by handed e h = absurd cc
found_so recursive n (Core.Upgrade k) by handed e h = absurd cc

sleep_wakes : act.Sleep ≡ act.Section section.Wake → ⊥
sleep_wakes e = cc

off_listed : {by : ℕ} {said : WakeResult} → QueuePosition.Listed ≡ QueuePosition.Off by said → ⊥
off_listed e = cc

same_wakeup : {e f : Wakeup} → Some e ≡ Some f → e ≡ f
same_wakeup e = cc

module _ (s : State) (t : ℕ) (c : Call) (by : ℕ) (said : WakeResult) (late : comes_late c.core ≡ true)
    (off : c.spot ≡ QueuePosition.Off by said) (free : open_at s (late_key c) ≡ None)
    (sound : lot.Sound (found s t c by said).lot) (h : FitsTogether s) (here : call_at s t ≡ Some c) where
  abbrev mid : State
  mid = unowed s t

  abbrev u : State
  u = found s t c by said

  abbrev handed : Bool
  handed = is_handed said

  abbrev mark : Mark
  mark = of_mutex.mark_of handed

  abbrev d : Call
  d = record c { core = found_as by handed c.core; spot = QueuePosition.Listed }

  abbrev which : ℕ
  which = bit (is_pending c.core)

  abbrev i : ℕ
  i = position_or_len (is_for t) s.wakes

  come : Comes (recursive_in s.kinds c.lock) c.others c.core
  come = comes (recursive_in s.kinds c.lock) c.others c.core late (h.rules.prepared t c here)

  then : Found (recursive_in s.kinds c.lock) c.others c.core by handed
  then = found_so (recursive_in s.kinds c.lock) c.others c.core by handed late (h.rules.prepared t c here)

  owes : Owing s t c by
  owes = owing s t c which come.park by said h.lots here come.lies off

  -- it was told
  told_here : (token : UnparkToken) × (sleep : Sleep)
      × (place_at s.lot.places t ≡ Some (Taken token (late_key c) sleep false)) × (said ≡ told_of token)
  told_here = told_there by said (place_at s.lot.places t) (open_at s) (late_key c) free
      (subst (λ (a : QueuePosition). IsAt a (place_at s.lot.places t) (open_at s) (late_key c)) off
      (seat_of s h.lots t c (Asleep which come.park) here come.lies).0)

  bears : mark_of said ≡ mark
  bears = subst (λ w. mark_of w ≡ of_mutex.mark_of (is_handed w)) (sym told_here.3) (told_mark told_here.0)

  -- and its taker is outside
  asked : core_act owes.taker.core ≡ act.Section section.Wake
  asked = takers_out owes.taker.core owes.some
      (λ k how e. none-some _
      (sym (h.lots.outside t which c come.park by said told_here.0 (late_key c) told_here.1 here come.lies off
      told_here.2) ∙ (seat_of s h.lots by owes.taker (In k how) owes.there e).6))

  apart : by ≢ t
  apart e = sleep_wakes
      (sym come.act ∙ ap (λ (y : Call). core_act y.core) (same_call (sym here ∙ ap (call_at s) (sym e) ∙ owes.there))
      ∙ asked)

  drop : Dropped s.wakes i t by
  drop = drops s.wakes i t by owes.entry owes.at owes.own owes.thread

  taker_there : IsThere c.lock (call_at s by)
  taker_there = subst (IsThere c.lock) (sym owes.there) owes.lock

  others_keep : (x : ℕ) → x ≢ by → taken_by mid.wakes x ≡ taken_by s.wakes x
  others_keep x ne = others_taken x s.wakes i owes.entry owes.at (ne_eqb owes.entry.by x (λ e. ne (sym e ∙ owes.own)))

  mid_elsewhere : Elsewhere c.lock s mid
  mid_elsewhere = record {
    kinds = refl;
    threads = refl;
    words = λ j ne. refl;
    queues = λ j k ne b. refl;
    holds = λ x j ne. refl;
    calls = λ x. elim (cases_eq x by) [
      | inl e ↦ inr (
        subst (λ n. IsThere c.lock (call_at s n)) (sym e) taker_there,
        subst (λ n. IsThere c.lock (call_at s n)) (sym e) taker_there,
      )
      | inr ne ↦ inl (refl, others_keep x ne)
    ];
  }

  -- AT A LOCK OF ANY KIND

  own_found : OwnAct mid u t c seen.Made (found_as by handed c.core) QueuePosition.Listed
  own_found = record {
    here = here;
    calls = refl;
    kinds = refl;
    wakes = refl;
    holds = refl;
    sizes = refl;
    word = sym (ap (λ a. word_after a seen.Made (word_at s c.lock)) come.act);
    words = λ j ne. refl;
    queues = λ j k ne b. refl;
    buckets = refl;
    listed = λ k token e. refl;
  }

  -- it is back in a section of its list, which has nothing to tell
  abbrev found_section : Section
  found_section = record { thread = Some t; key = late_key c; phase = Phase.Stored; token = sign false }

  found_as_lot : found_lot s t c ≡ lot_with_at s (late_key c) u.lot.sleeps u.lot.queues u.lot.places
      (Some found_section) (updated s.lot.inside t (Some (late_key c)))
  found_as_lot =
      let key : ℕ = late_key c in
      let ps = slice_set s.lot.places t (Some Running) in
      let m : Machine = record s.lot { places = ps } in
      let back : Section = record (fresh_section (Some t) key) { phase = Phase.Joined } in
      ap (λ (n : Machine). stored (in_phase (record n { places = ps }) key Phase.Ended) key (sign false))
      (phase_within s.lot (fresh_section (Some t) key) Phase.Joined)
      ∙ (ap (λ (n : Machine). stored n key (sign false)) (phase_within m back Phase.Ended)
      ∙ stored_within m (record back { phase = Phase.Ended }) (sign false))

  found_crosses : (b : Bool) → is_pending c.core ≡ b
      → AfterAct Out (act.Enter (bit b)) t (entries s c.lock) (entries u c.lock)
  found_crosses b e =
      subst (λ (x : Bool). AfterAct Out (act.Enter (bit x)) t (entries s c.lock) (entries u c.lock)) e
      (comes_at s u t c.lock (Some found_section) Out which (small (is_pending c.core))
      (ap (option_and_then (λ (x : Section). x.thread)) free) refl
      (λ n. ap (λ (m : Machine). m.sections n) found_as_lot))
    where
      small : (x : Bool) → bit x < 2
      small true = omega arith
      small false = omega arith

  module _ {C R L : Type 0} (K : Kind C R L) (k : C) (its : owes.taker.core ≡ K.core k) where
    abbrev x : Call
    x = owes.taker

    taker_was : slice_get (roles_at K s c.lock) by ≡ Some (K.plays x.others x.spot (taken_by s.wakes by) k)
    taker_was = subst (λ j. slice_get (roles_at K s j) by ≡ Some (K.plays x.others x.spot (taken_by s.wakes by) k))
        owes.lock (in_its_place K s by x k (in_range s by x owes.there) owes.there its)

    mid_after : shown K mid c.lock ≡ K.lock (word_at s c.lock)
        (slice_set (roles_at K s c.lock) by (K.plays x.others x.spot (taken_by mid.wakes by) k))
        (queue_at s (2 * c.lock)) (queue_at s (2 * c.lock + 1))
    mid_after =
        same K _ _ _ _ _ _ _ _ refl
        (one_changed (role_at K s c.lock) (role_at K mid c.lock) (length s.calls) (length s.calls) by _
        (in_range s by x owes.there) refl
        (λ y ne. role_stays K s mid c.lock y refl (others_keep y ne) refl)
        (ap (K.role_in c.lock (taken_by mid.wakes by) (hold_at s by c.lock)) owes.there
        ∙ K.here c.lock (taken_by mid.wakes by) (hold_at s by c.lock) x k its owes.lock))
        refl refl

  -- AT A MUTEX

  mutex_taker : manner_of (slice_get s.kinds c.lock) ≡ Some AsMutex → (q : MutexCall) × (owes.taker.core ≡ mutex_call q)
  mutex_taker kind_is = of_mutexes.only owes.taker.core
      (subst (λ (m : Option Manner). IsOfManner m owes.taker.core)
      (ap (λ j. manner_of (slice_get s.kinds j)) owes.lock ∙ kind_is) (h.rules.kinds by owes.taker owes.there))

  -- it is to wake them
  mutex_waits : (q : MutexCall) → core_act (mutex_call q) ≡ act.Section section.Wake
      → (at : QueuePosition) (us : List ℕ) → of_mutexes.plays owes.taker.others at us q ≡ mutex.doing (mutex.Wakes us)
  mutex_waits (Plain k) is at us = let p = mutex_wakes k.phase is in
      ap (λ (z : MutexPhase). of_mutexes.plays owes.taker.others at us (Plain (record { phase = z }))) p.1
  mutex_waits (CallLate p) is at us = absurd (late_wakes p is)

  mutex_found : c.core ≡ Core.Late LatePhase.Expires → IsMutexFound c.lock t s u
  mutex_found e =
      let kind_is = subst (IsOfKind (slice_get s.kinds c.lock)) e (h.rules.kinds t c here) in
      let q = mutex_taker kind_is in
      let m = mutex_at s c.lock in
      let waits = mutex_waits q.0 (ap core_act (sym q.1) ∙ asked) owes.taker.spot in
      let mine : slice_get m.roles t ≡ Some (mutex.doing (mutex.Taken by mark Late)) =
      (plays_late s h t c LatePhase.Expires e here).here
      ∙ ap (λ at. Some (late_role (mutex_spot at) LatePhase.Expires)) off
      ∙ ap (λ y. Some (mutex.doing (mutex.Taken by y Late))) bears in
      let passing : IsMade c.lock by (MxStep (mutex.Pass false drop.before t drop.behind)) s mid =
      made of_mutexes s mid by c.lock taker_there mid_elsewhere kind_is
      (MxStep (mutex.Pass false drop.before t drop.behind)) (
        taker_was of_mutexes q.0 q.1 ∙ ap Some (waits (taken_by s.wakes by))
            ∙ ap (λ vs. Some (mutex.doing (mutex.Wakes vs))) drop.was,
        λ r y at is. mutex_silent by handed by y (ap mutex.note_of (same_role (sym mine ∙ at)) ∙ is),
      )
      (ap Mx (mid_after of_mutexes q.0 q.1 ∙ ap (λ r. record m { roles = slice_set m.roles by r })
      (waits (taken_by mid.wakes by) ∙ ap (λ vs. mutex.doing (mutex.Wakes vs)) drop.is))) (tt, λ b. refl) in
      let still : IsSoundState mid = made_sound s mid by c.lock (MxStep (mutex.Pass false drop.before t drop.behind))
      refl passing h.rules.sound in
      let mine_mid : slice_get (mutex_at mid c.lock).roles t ≡ Some (mutex.doing (mutex.Taken by mark Late)) =
      in_its_place of_mutexes mid t c (CallLate LatePhase.Expires) (in_range s t c here) here e
      ∙ ap (λ at. Some (late_role (mutex_spot at) LatePhase.Expires)) off
      ∙ ap (λ y. Some (mutex.doing (mutex.Taken by y Late))) bears in
      let a = subst (λ (y : Core). OwnAct mid u t c seen.Made (found_as by handed y) QueuePosition.Listed) e own_found
      in (
        by,
        mark,
        drop.before,
        drop.behind,
        (
          passing,
          made of_mutexes mid u t c.lock (own-there mid u t c seen.Made _ QueuePosition.Listed a)
              (own-elsewhere mid u t c seen.Made _ QueuePosition.Listed a) kind_is
              (MxStep (mutex.Alone (mutex.ReenterTaken by mark))) (
                mine_mid,
                total_of_nobody (mutex_at mid c.lock).roles (sound_in_mutex mid still c.lock
                    (found_crosses false (ap is_pending e)).0 kind_is),
              )
              (ap Mx (own_after of_mutexes mid u t c seen.Made (CallLate (LatePhase.WasTaken by handed))
              QueuePosition.Listed a (word_at s c.lock) refl)) (found_crosses false (ap is_pending e)),
        ),
      )
    where
      same_role : {a b : mutex.Role} → Some a ≡ Some b → a ≡ b
      same_role e = cc

  -- AT A READER-WRITER LOCK

  rw_found : (k : RwSleeper) → c.core ≡ Core.LateRw (LateRwPhase.Expires k) → IsRwFound k c.lock t s u
  rw_found k e =
      let kind_is = subst (IsOfKind (slice_get s.kinds c.lock)) e (h.rules.kinds t c here) in
      let ready = subst (IsPrepared (recursive_in s.kinds c.lock) c.others) e (h.rules.prepared t c here) in
      let q = of_rws.only owes.taker.core
      (subst (λ (m : Option Manner). IsOfManner m owes.taker.core)
      (ap (λ j. manner_of (slice_get s.kinds j)) owes.lock ∙ kind_is) (h.rules.kinds by owes.taker owes.there)) in
      let p = call_passes (recursive_in s.kinds owes.taker.lock) owes.taker.others (taken_by s.wakes by) owes.taker.spot
      q.0 0 (meets s h by owes.taker q.0 q.1 owes.there).stands (ap core_act (sym q.1) ∙ asked) in
      let l = rw_lock_at s c.lock in
      let role : (us : List ℕ) → PlaysOff c.others us k by mark =
      λ us. (sleeper_plays (recursive_in s.kinds c.lock) c.others us k ready.0 ready.1).5 by mark in
      let spotted : (us : List ℕ) → call_role c.others c.spot us (Tardy (LateRwPhase.Expires k)) ≡ stays Late
      (sleeper_role c.others (of_rw.Off by mark) us k) =
      λ us. ap (λ at. call_role c.others at us (Tardy (LateRwPhase.Expires k))) off
      ∙ ap (λ y. stays Late (sleeper_role c.others (of_rw.Off by y) us k)) bears in
      let step = Pass p.owns drop.before t drop.behind in
      let mine : slice_get l.roles t ≡ Some (from (finds_as (pending_from k) (sleeper_wants k) by mark)) =
      (meets s h t c (Tardy (LateRwPhase.Expires k)) e here).here
      ∙ ap Some (spotted (taken_by s.wakes t) ∙ (role (taken_by s.wakes t)).2) in
      let passing : IsMade c.lock by (RwStep step) s mid =
      made of_rws s mid by c.lock taker_there mid_elsewhere kind_is (RwStep step) (
        taker_was of_rws q.0 q.1 ∙ ap Some (p.from (taken_by s.wakes by))
            ∙ ap (λ vs. Some (record { owns = p.owns; does = rules.Wakes vs })) drop.was,
        λ r y at is. rw_silent (pending_from k) (sleeper_wants k) by handed by y
            (ap (λ (r : Role). note_of r.does) (same_role (sym mine ∙ at)) ∙ is),
      )
      (ap Rw (mid_after of_rws q.0 q.1 ∙ ap (λ r. record l { roles = slice_set l.roles by r })
      (p.from (taken_by mid.wakes by) ∙ ap (λ vs. record { owns = p.owns; does = rules.Wakes vs }) drop.is)))
      (tt, λ b. refl) in
      let still : IsSoundState mid = made_sound s mid by c.lock (RwStep step) refl passing h.rules.sound in
      let mine_mid : slice_get (rw_lock_at mid c.lock).roles t ≡ Some
      (from (finds_as (pending_from k) (sleeper_wants k) by mark)) =
      in_its_place of_rws mid t c (Tardy (LateRwPhase.Expires k)) (in_range s t c here) here e
      ∙ ap Some (spotted (taken_by mid.wakes t) ∙ (role (taken_by mid.wakes t)).2) in
      let a = subst (λ (y : Core). OwnAct mid u t c seen.Made (found_as by handed y) QueuePosition.Listed) e own_found
      in (
        by,
        mark,
        p.owns,
        drop.before,
        drop.behind,
        (
          passing,
          made of_rws mid u t c.lock (own-there mid u t c seen.Made _ QueuePosition.Listed a)
              (own-elsewhere mid u t c seen.Made _ QueuePosition.Listed a) kind_is (finding k by mark) (
                mine_mid,
                may_find_so (recursive_in s.kinds c.lock) (pending_from k) (sleeper_wants k) by mark
                    (rw_lock_at mid c.lock)
                    (λ none. sound_first mid still c.lock (found_crosses false (ap is_pending e ∙ none)).0 kind_is)
                    (λ some. sound_second mid still c.lock (found_crosses true (ap is_pending e ∙ some)).0 kind_is),
              )
              (ap Rw (own_after of_rws mid u t c seen.Made (Tardy (LateRwPhase.WasTaken k by handed))
              QueuePosition.Listed a (word_at s c.lock) refl)
              ∙ ap (λ r. Rw (record (rw_lock_at mid c.lock) { roles = slice_set (rw_lock_at mid c.lock).roles t r }))
              (role (taken_by mid.wakes t)).3 ∙ find_writes (pending_from k) (sleeper_wants k) by mark
              (rw_lock_at mid c.lock) t)
              (find_crosses (pending_from k) (sleeper_wants k) by mark t (entries s c.lock) (entries u c.lock) Out
              (found_crosses (is_some (pending_from k)) (ap is_pending e))),
        ),
      )
    where
      same_role : {a b : Role} → Some a ≡ Some b → a ≡ b
      same_role e = cc

  moved : IsMoveOf c.core c.others (taken_by s.wakes t) seen.Made c.lock t s u
  moved = go c.core refl late
    where
      late_moved : (p : LatePhase) → c.core ≡ Core.Late p → late_comes p ≡ true
          → IsMoveOf (Core.Late p) c.others (taken_by s.wakes t) seen.Made c.lock t s u
      late_moved LatePhase.Expires e is = mutex_found e
      late_moved p e is = absurd cc

      tardy_moved : (p : LateRwPhase) → c.core ≡ Core.LateRw p → late_rw_comes p ≡ true
          → IsMoveOf (Core.LateRw p) c.others (taken_by s.wakes t) seen.Made c.lock t s u
      tardy_moved (LateRwPhase.Expires k) e is = rw_found k e
      tardy_moved p e is = absurd cc

      go : (x : Core) → c.core ≡ x → comes_late x ≡ true → IsMoveOf x c.others (taken_by s.wakes t) seen.Made c.lock t s
          u
      go (Core.Late p) e is = late_moved p e is
      go (Core.LateRw p) e is = tardy_moved p e is
      go (Core.Mutex k) e is = absurd cc
      go (Core.Rw k) e is = absurd cc
      go (Core.Upgrade k) e is = absurd cc

  -- THE MACHINE

  now_here : call_at u t ≡ Some d
  now_here = call-here s.calls t (Some c) (Some d) (slot s.calls t c here)

  now_others : (x : ℕ) → x ≢ t → call_at u x ≡ call_at s x
  now_others x ne = call-elsewhere s.calls t x (Some d) ne

  found_lots : LotFits u
  found_lots =
      found_fits s t c d which come.park by said h.lots here come.lies off then.to refl refl then.none
      (λ e. absurd (then.wakes e)) free (found_lot s t c) sound refl refl
      found_section refl refl found_as_lot refl refl

  found_wakes : WakesFit u
  found_wakes = record {
    off = λ v b z w at is. elim (cases_eq v t) [
      | inl e ↦ absurd (off_listed (ap (λ (y : Call). y.spot) (same_call (sym now_here ∙ ap (call_at u) (sym e) ∙ at))
          ∙ is))
      | inr ne ↦
          let old = h.wakes.off v b z w (sym (now_others v ne) ∙ at) is in
          let left = kept_remove s.wakes i old.0 old.1 old.2
          (λ f. ne (sym old.4
          ∙ ap (λ (y : Wakeup). y.thread) (same_wakeup (sym old.2 ∙ ap (slice_get s.wakes) f ∙ owes.at))
          ∙ owes.thread)) in
          (left.0, old.1, left.1, old.3, old.4)
    ];
    room =
        let change = count_by-set is_away s.calls t (Some c) (Some d) (slot s.calls t c here) in
        let away : flag (is_off c.spot) ≡ 1 = ap (λ (z : QueuePosition). flag (is_off z)) off in
        let fewer = length-remove s.wakes i (slice_get_within s.wakes i owes.entry owes.at) in
        let was = h.wakes.room in
        omega arith;
  }

  found_passes : PassesFit u
  found_passes =
      passes_after s u t found_lots h.passes
      (around_at s u t (late_key c) (Some found_section) (λ b. ap (λ (m : Machine). m.sections b) found_as_lot) refl
      (λ x e. ap (λ (y : Section). y.thread) (sym (same_section e))) (λ k e. refl))
      (λ v e k ne at is. (e, sym (now_others v ne) ∙ at, refl, refl))
      (λ e k o at is there. absurd
      (told_takes (sym then.to ∙ ap (λ (y : Call). stance y.core) (same_call (sym now_here ∙ at)) ∙ is)))

  found_rules : RulesFit u
  found_rules = rules_after s u c.lock h.rules (record {
    kinds = refl;
    threads = length-set s.calls t (Some d);
    holds = refl;
    words = refl;
    calls = λ v e is. calls-change (λ x f. CallFits s.kinds s.lot.queues f) s.calls t c d here
        (λ x f ne at. call_fits s h.rules x f at)
        (record {
          kind = then.kind (manner_of (slice_get s.kinds c.lock)) (h.rules.kinds t c here);
          prepared = then.prepared;
          knows = then.knows s.lot.queues c.lock;
          beside = h.rules.beside t c here;
          begun = record { begun = then.begun; few = then.few (h.rules.begun t c here).few };
        }) v e is;
    few = h.rules.few;
    elsewhere = λ j ne. refl;
    bits = h.rules.bits c.lock;
    sound = move_sound s u c.core c.others (taken_by s.wakes t) seen.Made c.lock t refl moved h.rules.sound;
  })

  pub finds : (told : ActResult) × Acts t c told s u
  finds = (
    seen.Made,
    record {
      fits = record { lots = found_lots; passes = found_passes; wakes = found_wakes; rules = found_rules };
      goes = moved;
    },
  )
