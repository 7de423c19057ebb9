-- A thread that takes whoever is first in a list makes a step of the rules, at a lock of either kind.
use Rattle.std.proofs.Common.{◌≡◌, ◌≤◌, ℕ, ◌+◌, ◌*◌, inl, inr, true, List, [], ◌∷◌, ◌++◌, length, remove, Some}
use Rattle.std.proofs.Common.{slice_get, refl, sym, ap, ◌∙◌, subst, arith}
use Rattle.std.proofs.lemmas.Bool.{both_ways}
use Rattle.parking_lot_core_model.specs.Machine.{threads_of}
use Rattle.parking_lot_core_model.specs.Results.{is_left}
use Rattle.parking_lot_core_model.specs.declared.place.Waiter.{Waiter}
use Rattle.parking_lot_protocol.specs.MutexRules as of_mutex
use Rattle.parking_lot_protocol.specs.MutexTable as of_mutex_table
use Rattle.parking_lot_protocol.specs.RwRules as of_rw
use Rattle.parking_lot_protocol.specs.declared.mutex_core.MutexCore.{MutexCore}
use Rattle.parking_lot_protocol.specs.declared.mutex_phase.MutexPhase.{MutexPhase}
use Rattle.parking_lot_protocol.specs.declared.rw_core.RwCore.{RwCore}
use Rattle.parking_lot_protocol.specs.declared.rw_phase.AfterWake.{AfterWake}
use Rattle.parking_lot_protocol.specs.declared.rw_phase.RwPhase.{RwPhase}
use Rattle.parking_lot_rules.specs.Roles.{Shares, Taken2}
use Rattle.parking_lot_machine.proofs.Crossings.{Continues}
use Rattle.parking_lot_machine.proofs.TakeParts.{took_on}
use Rattle.parking_lot_machine.proofs.Carrying.{no_length}
use Rattle.parking_lot_machine.proofs.KindTable.{IsThere, Plain, RwCall, Simple, of_mutexes, of_rws, rw_call, rw_next}
use Rattle.parking_lot_machine.proofs.KindTable.{sleeps_so}
use Rattle.parking_lot_machine.proofs.RwCalls.{as_simple}
use Rattle.parking_lot_machine.proofs.RwSleeps.{CallSleepsSecond}
use Rattle.parking_lot_machine_calls.specs.declared.seat.WakeResult.{WakeResult}
use Rattle.parking_lot_machine.proofs.Making.{mutex_goes, rw_goes}
use Rattle.parking_lot_machine.proofs.Meeting.{meets, plays, rw_hears, rw_sound, exact}
use Rattle.parking_lot_machine.proofs.MutexMoving.{steps}
use Rattle.parking_lot_machine.proofs.RwCrossing.{lists_are_known}
use Rattle.parking_lot_machine.proofs.RwTaking.{writers_are_taken}
use Rattle.parking_lot_machine.proofs.TakeParts.{took_told, TakesSo, the_sleeper, list_here, list_there, nth_there}
use Rattle.parking_lot_machine.proofs.TakeParts.{took_list, took_after, took_elsewhere, waits_listed, waits_so}
use Rattle.parking_lot_machine_calls.specs.Kinds.{recursive_in}
use Rattle.parking_lot_machine.specs.RowActs.{took}
use Rattle.parking_lot_machine_calls.specs.CallActs.{key_of}
use Rattle.parking_lot_machine.specs.RowFits.{FitsTogether, IsPrepared}
use Rattle.parking_lot_machine_calls.specs.CallKinds.{IsOfKind}
use Rattle.parking_lot_machine.proofs.TakeSleepers.{rw_waits}
use Rattle.parking_lot_machine.specs.Rows.{State, word_at, call_at, taken_by, rw_lock_at, mutex_at}
use Rattle.parking_lot_machine_calls.specs.CallRoles.{rw_spot, first_of_all, mutex_spot}
use Rattle.parking_lot_machine_calls.specs.Stances.{Takes, In, mutex_stance, stance, core_next}
use Rattle.parking_lot_machine_calls.specs.declared.open_call.Call.{Call}
use Rattle.parking_lot_machine_calls.specs.declared.seat.Core.{Core}

-- the one that waits there was the only one
one_left : (q : List Waiter) → length (threads_of q) ≤ 1 → remove q 0 ≡ []
one_left [] h = refl
one_left (x ∷ []) h = refl
one_left (x ∷ (y ∷ q)) h = absurd (omega (arith, h))

module _ (s : State) (t : ℕ) (c : Call) (k : ℕ) (w : Waiter) (from : stance c.core ≡ In k Takes)
    (at : slice_get (s.lot.queues (key_of c k)) 0 ≡ Some w) (h : FitsTogether s) (here : call_at s t ≡ Some c) where
  abbrev u : State
  u = took s t c (key_of c k) 0 w

  abbrev v : ℕ
  v = w.thread

  abbrev us : List ℕ
  us = taken_by s.wakes t

  abbrev ws : List ℕ
  ws = taken_by s.wakes v

  abbrev z : Call
  z = (the_sleeper s t c k 0 w from at h here).call

  on : Continues s u t
  on = took_on s t c k 0 w from at h here

  there : IsThere c.lock (call_at s t)
  there = subst (IsThere c.lock) (sym here) refl

  -- AT A READER-WRITER LOCK

  writer_takes : (rest : AfterWake) (e : c.core ≡ Core.Rw (record { phase = RwPhase.TakeWriter rest })) → 1 ≡ k
      → (o : RwCall) → z.core ≡ rw_call o → CallSleepsSecond z.others ws o
      → TakesSo s t c k 0 w (Core.Rw (record { phase = RwPhase.TakeWriter rest }))
  writer_takes rest e one o its sleeps =
      let x : RwCore = record { phase = RwPhase.TakeWriter rest } in
      let kind_is = subst (IsOfKind (slice_get s.kinds c.lock)) e (h.rules.kinds t c here) in
      let second : 2 * c.lock + 1 ≡ key_of c k = omega (arith, one) in
      let few : length (threads_of (s.lot.queues (2 * c.lock + 1))) ≤ 1 = lists_are_known.second (rw_lock_at s c.lock)
      (rw_sound s h c.lock kind_is) in
      let met = as_simple (recursive_in s.kinds c.lock) (rw_lock_at s c.lock) t c.others c.spot us x (word_at s c.lock)
      (meets s h t c (Simple x) e here) in
      let step = writers_are_taken (recursive_in s.kinds c.lock) (rw_lock_at s c.lock) t c.others (rw_spot c.spot) us
      rest (word_at s c.lock) w.token (is_left (remove (s.lot.queues (key_of c k)) 0)) v sleeps.from sleeps.stay met
      (nth_there s t c k 0 w from at h here (2 * c.lock + 1) second)
      (waits_listed s t c k 0 w from at h here of_rws o its ∙ ap Some sleeps.listed) in
      let none = took_list s t c k 0 w from at h here (2 * c.lock + 1) second ∙ one_left (s.lot.queues (key_of c k))
      (subst (λ n. length (threads_of (s.lot.queues n)) ≤ 1) second few) in
      let well = rw_hears s h t c (Simple x) e here (took_told s c k 0 w) tt refl u.lot.queues none in (
        (
          rw_goes s u t c.lock of_rw.TakesWriter us _ there (took_elsewhere s t c k 0 w from at h here) kind_is
              (Shares c.others, v, sleeps.from, sleeps.stay, step)
              (took_after s t c k 0 w from at h here of_rws o its (rw_next (Simple x) (took_told s c k 0 w))
              (ap (λ (x : Core). core_next x (took_told s c k 0 w)) e) _ refl
              (record { owns = Shares 0; does = Taken2 sleeps.from t sleeps.stay })
              (sleeps.off t WakeResult.Nothing) _ _
              (list_there s t c k 0 w from at h here (2 * c.lock) (λ f. omega (arith, one, f)))
              (list_here s t c k 0 w from at h here (2 * c.lock + 1) second))
              (tt, on.entered) tt,
          well.0,
          well.1,
          h.rules.bits c.lock,
        ),
        tt,
        tt,
      )

  pub writes_first : (rest : AfterWake) → c.core ≡ Core.Rw (record { phase = RwPhase.TakeWriter rest }) → 1 ≡ k
      → TakesSo s t c k 0 w (Core.Rw (record { phase = RwPhase.TakeWriter rest }))
  writes_first rest e one =
      let o = rw_waits s t c k 0 w from at h here
      (subst (IsOfKind (slice_get s.kinds c.lock)) e (h.rules.kinds t c here)) in
      elim o.2 [ inl x ↦ absurd (omega (arith, one, x.0)) | inr x ↦ writer_takes rest e one o.0 o.1 x.1 ]

  pub takes_mutex : (q : MutexPhase) (y : MutexCore) → c.core ≡ Core.Mutex (record y { phase = q })
      → mutex_stance q ≡ In k Takes → TakesSo s t c k 0 w (Core.Mutex (record y { phase = q }))
  takes_mutex (MutexPhase.Takes giving) y e is =
      let x : MutexCore = record y { phase = MutexPhase.Takes giving } in
      let zero : 0 ≡ k = cc in
      let left = is_left (remove (s.lot.queues (key_of c k)) 0) in
      let first : 2 * c.lock ≡ key_of c k = omega (arith, zero) in
      let kind_is = subst (IsOfKind (slice_get s.kinds c.lock)) e (h.rules.kinds t c here) in
      let o = waits_so s t c k 0 w from at h here of_mutexes kind_is in
      let asleep = sleeps_so o.0 k w.token (ap stance (sym o.1) ∙ (the_sleeper s t c k 0 w from at h here).asleep) in
      let nobody : us ≡ [] = no_length us (exact s h t c x e here (λ w. cc)) in
      let step = steps.takes (mutex_at s c.lock) (word_at s c.lock) t v (mutex_spot c.spot) (MutexPhase.Takes giving)
      w.token left asleep.0 (plays s h t c x e here (λ w. cc)) refl
      (nth_there s t c k 0 w from at h here (2 * c.lock) first)
      (waits_listed s t c k 0 w from at h here of_mutexes o.0 o.1 ∙ ap Some (asleep.2 ws)) in (
        (
          mutex_goes s u t c.lock v us _ of_mutex.TakesOne there (took_elsewhere s t c k 0 w from at h here) kind_is
              (asleep.0, step.leads)
              (took_after s t c k 0 w from at h here of_mutexes o.0 o.1
              (Plain (record x
              { phase = of_mutex_table.next_phase (MutexPhase.Takes giving) (took_told s c k 0 w) }))
              (ap (λ (x : Core). core_next x (took_told s c k 0 w)) e)
              (of_mutex.role of_mutex.Listed v (MutexPhase.Stores giving true left))
              (ap (λ vs. of_mutex.role of_mutex.Listed (first_of_all (vs ++ v ∷ []))
              (MutexPhase.Stores giving true left)) nobody) _ (asleep.3 t WakeResult.Nothing ws) _ _
              (list_here s t c k 0 w from at h here (2 * c.lock) first) refl)
              (tt, on.entered) tt,
          subst (IsPrepared (recursive_in s.kinds c.lock) c.others) e (h.rules.prepared t c here),
          (ap is_left (took_list s t c k 0 w from at h here (2 * c.lock) first), λ f. absurd (both_ways true f refl)),
          h.rules.bits c.lock,
        ),
        tt,
        tt,
      )
  takes_mutex q y e is = absurd (cc)
