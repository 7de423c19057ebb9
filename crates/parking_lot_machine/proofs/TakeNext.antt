-- A thread that takes the next of a list that it wants makes a step of the rules, at a lock of either kind.
use Rattle.std.proofs.Common.{◌≡◌, ℕ, zero, suc, ◌+◌, ◌*◌, inl, inr, false, List, [], ◌∷◌, remove, Some, slice_get}
use Rattle.std.proofs.Common.{refl, sym, ap, ◌∙◌, subst, arith}
use Rattle.parking_lot_core_model.specs.Results.{is_left}
use Rattle.parking_lot_core_model.specs.declared.parking.FilterOp.{FilterOp}
use Rattle.parking_lot_core_model.specs.declared.parking.FilterOp.TheVariants.{Unpark, Skip}
use Rattle.parking_lot_core_model.specs.declared.place.Waiter.{Waiter}
use Rattle.parking_lot_protocol.specs.MutexTable as of_mutex_table
use Rattle.parking_lot_protocol.specs.RwRules as of_rw
use Rattle.parking_lot_protocol.specs.declared.mutex_phase.MutexPhase.{MutexPhase}
use Rattle.parking_lot_protocol.specs.declared.rw_phase.AfterWake.{AfterWake}
use Rattle.parking_lot_protocol.specs.declared.act.Act.{Act}
use Rattle.parking_lot_protocol.specs.Acts.{Gives}
use Rattle.parking_lot_machine_calls.specs.declared.seat.WakeResult.{WakeResult}
use Rattle.parking_lot_protocol.specs.declared.rw_phase.RwPhase.{RwPhase}
use Rattle.parking_lot_rules.specs.Roles.{Shares, Open, Taken1}
use Rattle.parking_lot_machine.proofs.Crossings.{Continues}
use Rattle.parking_lot_machine.proofs.TakeParts.{took_on}
use Rattle.parking_lot_machine.proofs.KindTable.{IsThere, RwCall, Simple, Upgradable, next_is, of_rws, rw_call, rw_next}
use Rattle.parking_lot_machine.proofs.RwCalls.{as_move}
use Rattle.parking_lot_machine.proofs.RwSleeps.{CallSleepsFirst}
use Rattle.parking_lot_machine.proofs.RwScans.{call_takes, scanner, takes_where}
use Rattle.parking_lot_machine.proofs.ScanRoom.{scans_have_room}
use Rattle.parking_lot_machine.specs.RowSteps.{IsRwMove}
use Rattle.parking_lot_machine_calls.specs.StanceLaws.{Counts}
use Rattle.parking_lot_machine.proofs.TakeJoins.{late_takes}
use Rattle.parking_lot_machine.proofs.Making.{rw_goes}
use Rattle.parking_lot_machine.proofs.Meeting.{meets, rw_hears}
use Rattle.parking_lot_machine.proofs.RwTaking.{same_take, scans_go_by_tokens}
use Rattle.parking_lot_machine.proofs.TakeParts.{took_told, TakesSo, the_sleeper, list_here, list_there, nth_there}
use Rattle.parking_lot_machine.proofs.TakeParts.{took_list, took_after, took_elsewhere, waits_listed}
use Rattle.parking_lot_machine_calls.specs.Kinds.{recursive_in}
use Rattle.parking_lot_machine.specs.RowActs.{took}
use Rattle.parking_lot_machine_calls.specs.CallActs.{key_of}
use Rattle.parking_lot_machine.specs.RowFits.{FitsTogether, IsPrepared}
use Rattle.parking_lot_machine_calls.specs.CallKinds.{IsOfKind}
use Rattle.std.proofs.lemmas.Option.{none-some}
use Rattle.parking_lot_rules.specs.Steps.{look}
use Rattle.parking_lot_machine.specs.Passes.{ArePassed, IsNext, asks, look_by}
use Rattle.parking_lot_machine.proofs.TakeSleepers.{rw_waits}
use Rattle.parking_lot_machine.proofs.TakeFirst.{writes_first, takes_mutex}
use Rattle.parking_lot_machine.proofs.Wanting.{passed_as, want_as_told}
use Rattle.parking_lot_machine.specs.Rows.{State, word_at, call_at, taken_by, rw_lock_at}
use Rattle.parking_lot_machine_calls.specs.Stances.{Takes, In, mutex_stance, stance, core_act, core_next}
use Rattle.parking_lot_machine_calls.specs.declared.open_call.Call.{Call}
use Rattle.parking_lot_machine_calls.specs.declared.seat.Core.{Core}
use Rattle.parking_lot_machine_calls.proofs.Lying.{tardy_takes}

pub mutex_asks : (q : MutexPhase) (k token : ℕ) → mutex_stance q ≡ In k Takes
    → asks (of_mutex_table.act_of q) token ≡ Unpark
mutex_asks (MutexPhase.Takes giving) k token is = refl
mutex_asks q k token is = absurd (cc)

-- ONE THAT TAKES THE NEXT

-- one that wants whoever is first passes nobody
none_passed : (q : List Waiter) (n : ℕ) (w : Waiter) (ask : ℕ → FilterOp) → ((token : ℕ) → ask token ≡ Unpark)
    → slice_get q n ≡ Some w → ArePassed ask q n → n ≡ 0
none_passed q zero w ask all at passed = refl
none_passed [] (suc n) w ask all at passed = absurd (none-some w at)
none_passed (x ∷ q) (suc n) w ask all at passed =
    absurd (unpark≢skip (sym (all x.token.0) ∙ passed 0 x (omega arith) refl))
  where
    unpark≢skip : Unpark ≡ Skip → ⊥
    unpark≢skip e = cc

module _ (s : State) (t : ℕ) (c : Call) (k nth : ℕ) (w : Waiter) (from : stance c.core ≡ In k Takes)
    (next : IsNext (asks (core_act c.core)) (s.lot.queues (key_of c k)) nth w) (h : FitsTogether s)
    (here : call_at s t ≡ Some c) where
  abbrev at : slice_get (s.lot.queues (key_of c k)) nth ≡ Some w
  at = next.there

  abbrev u : State
  u = took s t c (key_of c k) nth w

  abbrev v : ℕ
  v = w.thread

  abbrev us : List ℕ
  us = taken_by s.wakes t

  abbrev ws : List ℕ
  ws = taken_by s.wakes v

  abbrev z : Call
  z = (the_sleeper s t c k nth w from at h here).call

  on : Continues s u t
  on = took_on s t c k nth w from at h here

  there : IsThere c.lock (call_at s t)
  there = subst (IsThere c.lock) (sym here) refl

  -- AT A READER-WRITER LOCK

  scan_takes : (y : RwCall) (e : c.core ≡ rw_call y) (at_first : stance (rw_call y) ≡ In 0 Takes) → 0 ≡ k → (o : RwCall)
      → z.core ≡ rw_call o → CallSleepsFirst z.others ws o w.token → TakesSo s t c k nth w (rw_call y)
  scan_takes y e at_first nought o its sleeps =
      let kind_is = of_rws.of_kind (slice_get s.kinds c.lock) y
      (subst (IsOfKind (slice_get s.kinds c.lock)) e (h.rules.kinds t c here)) in
      let ready = subst (IsPrepared (recursive_in s.kinds c.lock) c.others) e (h.rules.prepared t c here) in
      let sc = scanner (recursive_in s.kinds c.lock) c.others y at_first ready in
      let mode = of_rw.mode_by w.token in
      let left = is_left (remove (s.lot.queues (key_of c k)) nth) in
      let first : 2 * c.lock ≡ key_of c k = omega (arith, nought) in
      let met = meets s h t c y e here in
      let goes : (n : ℕ) → asks (core_act c.core) n ≡ look_by sc.sees false n =
      λ n. ap (λ (y : Core). asks (core_act y) n) e ∙ sc.asks_so n in
      let step = call_takes (recursive_in s.kinds c.lock) (rw_lock_at s c.lock) t c.others c.spot us y
      (word_at s c.lock) at_first ready w.token left nth v sleeps.stay met sleeps.token
      (nth_there s t c k nth w from at h here (2 * c.lock) first)
      (waits_listed s t c k nth w from at h here of_rws o its ∙ ap Some sleeps.listed)
      (same_take (look sc.sees false mode)
      (sym next.wanted ∙ goes w.token.0 ∙ scans_go_by_tokens.looks sc.sees false w.token sleeps.token))
      (scans_go_by_tokens.skips (rw_lock_at s c.lock) sc.sees false (s.lot.queues (2 * c.lock)) nth refl
      (want_as_told s h c.lock kind_is)
      (subst (λ n. ArePassed (look_by sc.sees false) (s.lot.queues n) nth) (sym first)
      (passed_as _ _ _ _ goes next.passed))) in
      let well = rw_hears s h t c y e here (took_told s c k nth w)
      (sc.told (word_at s c.lock) w.token left sleeps.token)
      (ap (λ (x : Core). asks (core_act x) w.token.0) (sym e) ∙ next.wanted) u.lot.queues
      (sc.learns w.token left (u.lot.queues (2 * c.lock)) (u.lot.queues (2 * c.lock + 1))
      (ap is_left (took_list s t c k nth w from at h here (2 * c.lock) first))) in (
        (
          as_move y c.others us (took_told s c k nth w) c.lock t s u
              (subst (λ m. IsRwMove m us c.lock t s u) (sym (sc.move us w.token left))
              (rw_goes s u t c.lock (of_rw.TakesOne mode) us _ there (took_elsewhere s t c k nth w from at h here)
              kind_is (step.0, nth, v, sleeps.stay, step.1)
              (took_after s t c k nth w from at h here of_rws o its (rw_next y (took_told s c k nth w))
              (ap (λ (x : Core). core_next x (took_told s c k nth w)) e ∙ next_is y (took_told s c k nth w)) _ refl
              (record { owns = Shares 0; does = Taken1 mode t Open sleeps.stay }) (sleeps.off t WakeResult.Nothing)
              _ _
              (list_here s t c k nth w from at h here (2 * c.lock) first)
              (list_there s t c k nth w from at h here (2 * c.lock + 1) (λ f. omega (arith, nought, f))))
              (tt, on.entered) tt)),
          well.0,
          well.1,
          h.rules.bits c.lock,
        ),
        subst (λ (x : Core). Counts x w.token) e (scans_have_room s h t c here k nth w from at next.wanted),
        subst (λ (a : Act). Gives a (word_at s c.lock) (took_told s c k nth w)) (sym sc.act.1) tt,
      )

  -- one that takes whoever is first
  takes_first : (x : Core) → ((token : ℕ) → asks (core_act c.core) token ≡ Unpark)
      → ((at : slice_get (s.lot.queues (key_of c k)) 0 ≡ Some w) → TakesSo s t c k 0 w x) → TakesSo s t c k nth w x
  takes_first x all takes =
      let none = none_passed (s.lot.queues (key_of c k)) nth w (asks (core_act c.core)) all at next.passed in
      subst (λ n. TakesSo s t c k n w x) (sym none) (takes (ap (slice_get (s.lot.queues (key_of c k))) (sym none) ∙ at))

  takes_rw : (y : RwCall) → c.core ≡ rw_call y → TakesSo s t c k nth w (rw_call y)
  takes_rw y e =
      let ready = subst (IsPrepared (recursive_in s.kinds c.lock) c.others) e (h.rules.prepared t c here) in
      elim (takes_where (recursive_in s.kinds c.lock) c.others y k ready (ap stance (sym e) ∙ from)) [
        | inl x ↦
            let o = rw_waits s t c k nth w from at h here
            (of_rws.of_kind (slice_get s.kinds c.lock) y
            (subst (IsOfKind (slice_get s.kinds c.lock)) e (h.rules.kinds t c here))) in
            elim o.2 [ inl r ↦ scan_takes y e x.0 x.1 o.0 o.1 r.1 | inr r ↦ absurd (omega (arith, x.1, r.0)) ]
        | inr x ↦ subst (λ (q : RwCall). TakesSo s t c k nth w (rw_call q)) (sym x.1)
            (writer x.0 (e ∙ ap rw_call x.1) x.2)
      ]
    where
      writer : (rest : AfterWake) → c.core ≡ Core.Rw (record { phase = RwPhase.TakeWriter rest }) → 1 ≡ k
          → TakesSo s t c k nth w (Core.Rw (record { phase = RwPhase.TakeWriter rest }))
      writer rest e one = takes_first (Core.Rw (record { phase = RwPhase.TakeWriter rest }))
          (λ token. ap (λ (x : Core). asks (core_act x) token) e)
          (λ first. writes_first s t c k w from first h here rest e one)

  pub takes_so : (x : Core) → c.core ≡ x → TakesSo s t c k nth w x
  takes_so (Core.Rw y) e = takes_rw (Simple y) e
  takes_so (Core.Upgrade y) e = takes_rw (Upgradable y) e
  takes_so (Core.Mutex y) e =
      takes_first (Core.Mutex y)
      (λ token. ap (λ (x : Core). asks (core_act x) token) e ∙ mutex_asks y.phase k token (ap stance (sym e) ∙ from))
      (λ first. takes_mutex s t c k w from first h here y.phase y e (ap stance (sym e) ∙ from))
  takes_so (Core.Late p) e = absurd (late_takes p k (ap stance (sym e) ∙ from))
  takes_so (Core.LateRw p) e = absurd (tardy_takes p k (ap stance (sym e) ∙ from))
