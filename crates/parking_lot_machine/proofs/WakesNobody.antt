-- The machine once a thread that was to wake others has woken nobody, since all of them have gone on by themselves:
-- nothing changes at its lock.
use Rattle.std.proofs.Common.{◌≡◌, ◌*◌, ◌+◌, ℕ, List, [], Some, slice_get, slice_set, refl, sym, ap, ◌∙◌, subst}
use Rattle.std.proofs.Common.{arith}
use Rattle.parking_lot_core_model.specs.declared.parking.ParkToken.{ParkToken}
use Rattle.parking_lot_rules.specs.Mutex as mutex
use Rattle.parking_lot_protocol.specs.declared.act.Act.{Act}
use Rattle.parking_lot_protocol.specs.declared.act.ActResult.{ActResult}
use Rattle.parking_lot_protocol.specs.declared.act.SectionAct.TheVariants as section
use Rattle.parking_lot_protocol.specs.Acts.{word_after}
use Rattle.parking_lot_protocol.specs.declared.mutex_core.MutexCore.{MutexCore}
use Rattle.parking_lot_protocol.specs.declared.mutex_phase.Giving.{Giving}
use Rattle.parking_lot_protocol.specs.declared.mutex_phase.MutexPhase.{MutexPhase}
use Rattle.parking_lot_protocol.specs.MutexTable as mutex_table
use Rattle.parking_lot_protocol.specs.RwRules as of_rw
use Rattle.parking_lot_protocol.specs.MutexRules as of_mutex
use Rattle.parking_lot_machine_calls.specs.Kinds.{recursive_in}
use Rattle.parking_lot_machine_calls.specs.declared.seat.Core.{Core}
use Rattle.parking_lot_machine_calls.specs.declared.seat.QueuePosition.{QueuePosition}
use Rattle.parking_lot_machine_calls.specs.declared.open_call.Call.{Call}
use Rattle.parking_lot_machine.specs.ActLaws.{Keeps}
use Rattle.parking_lot_machine.specs.Rows.{State, word_at, call_at, taken_by}
use Rattle.parking_lot_machine.specs.RowActs.{woke_nobody}
use Rattle.parking_lot_machine_calls.specs.CallActs.{hears}
use Rattle.parking_lot_machine.specs.RowFits.{FitsTogether, IsPrepared}
use Rattle.parking_lot_machine_calls.specs.CallKinds.{IsOfKind}
use Rattle.parking_lot_machine.specs.RowSteps.{IsMutexMove, IsRwMove}
use Rattle.parking_lot_machine_calls.specs.Stances.{In, Takes, Out, Asleep, core_act, core_next, stance}
use Rattle.parking_lot_machine.proofs.KindTable.{Plain, RwCall, Simple, Upgradable, next_is, of_mutexes, of_rws}
use Rattle.parking_lot_machine.proofs.KindTable.{roles_at, rw_call, rw_next, same, in_its_place}
use Rattle.parking_lot_machine.proofs.LotNobody.{nobody_fits}
use Rattle.parking_lot_machine.proofs.Making.{quiet}
use Rattle.parking_lot_machine.proofs.Meeting.{in_range, meets, rw_hears}
use Rattle.parking_lot_machine.proofs.Owning.{OwnAct, own-there, own-elsewhere, own_after, set-same}
use Rattle.parking_lot_machine.proofs.Passing.{own_passes}
use Rattle.parking_lot_machine.proofs.Rousing.{late_wakes, mutex_wakes}
use Rattle.parking_lot_machine.proofs.Ruling.{Fitted, knows_same, rules_own}
use Rattle.parking_lot_machine.proofs.RwCalls.{as_move, tardy_wakes}
use Rattle.parking_lot_machine.proofs.RwPasses.{call_passes}
use Rattle.parking_lot_machine_calls.proofs.Stancing.{leads_by, wakes_some}
use Rattle.parking_lot_machine.proofs.WakesKept.{wakes_own}

out_asleep : {key : ℕ} {park : ParkToken} → Out ≡ Asleep key park → ⊥
out_asleep e = cc

out_takes : {k : ℕ} → Out ≡ In k Takes → ⊥
out_takes e = cc

module _ (s : State) (t : ℕ) (c : Call) (asked : core_act c.core ≡ Act.Section section.Wake)
    (none : taken_by s.wakes t ≡ []) (h : FitsTogether s) (here : call_at s t ≡ Some c) (from : stance c.core ≡ Out)
    (to : stance (core_next c.core ActResult.Made) ≡ Out) where
  abbrev u : State
  u = woke_nobody s t c

  abbrev us : List ℕ
  us = taken_by s.wakes t

  own : OwnAct s u t c ActResult.Made (core_next c.core ActResult.Made) c.spot
  own = record {
    here = here;
    calls = refl;
    kinds = refl;
    wakes = refl;
    holds = refl;
    sizes = refl;
    word = sym (ap (λ (a : Act). word_after a ActResult.Made (word_at s c.lock)) asked);
    words = λ i ne. refl;
    queues = λ i k ne b. refl;
    buckets = refl;
    listed = λ k token e. absurd (out_asleep (sym to ∙ e));
  }

  nobody_rw : (y : RwCall) → c.core ≡ rw_call y → core_act (rw_call y) ≡ Act.Section section.Wake
      → Fitted s u t c ActResult.Made (rw_call y)
  nobody_rw y e is =
      let x = word_at s c.lock in
      let a = subst (λ (z : Core). OwnAct s u t c ActResult.Made z c.spot)
      (ap (λ (z : Core). core_next z ActResult.Made) e ∙ next_is y ActResult.Made) own in
      let kind_is = of_rws.of_kind (slice_get s.kinds c.lock) y
      (subst (IsOfKind (slice_get s.kinds c.lock)) e (h.rules.kinds t c here)) in
      let met = meets s h t c y e here in
      let p = call_passes (recursive_in s.kinds c.lock) c.others us QueuePosition.Listed y x met.stands is in
      let listed : slice_get (roles_at of_rws s c.lock) t ≡ Some (of_rws.plays c.others QueuePosition.Listed us y) =
      met.here ∙ ap Some
      (of_rws.listed c.others us y c.spot (λ k token z. absurd (out_asleep (sym from ∙ ap stance e ∙ z)))) in
      let still = own_after of_rws s u t c ActResult.Made (rw_next y ActResult.Made) c.spot a x refl
      ∙ same of_rws _ _ _ _ _ _ _ _ refl (ap (slice_set (roles_at of_rws s c.lock) t) (p.to us ∙ sym (p.from us))
      ∙ set-same (roles_at of_rws s c.lock) t _ listed) refl refl in
      let well = rw_hears s h t c y e here ActResult.Made p.told tt s.lot.queues
      (p.learns (s.lot.queues (2 * c.lock)) (s.lot.queues (2 * c.lock + 1))) in (
        as_move y c.others us ActResult.Made c.lock t s u
            (subst (λ m. IsRwMove m us c.lock t s u) (sym (p.move us))
            (subst (λ vs. IsRwMove of_rw.WakesOne vs c.lock t s u) (sym none)
            (quiet of_rws s u t c.lock (own-there s u t c ActResult.Made _ c.spot a)
            (own-elsewhere s u t c ActResult.Made _ c.spot a) kind_is still (λ b. refl)))),
        well.0,
        well.1,
        h.rules.bits c.lock,
      )

  nobody_mutex : (g : Giving) (y : MutexCore) → c.core ≡ Core.Mutex (record y { phase = MutexPhase.Wakes g })
      → Fitted s u t c ActResult.Made (Core.Mutex (record y { phase = MutexPhase.Wakes g }))
  nobody_mutex g y e =
      let k : MutexCore = record y { phase = MutexPhase.Wakes g } in
      let k' : MutexCore = record y { phase = mutex_table.next_phase (MutexPhase.Wakes g) ActResult.Made } in
      let a = subst (λ (z : Core). OwnAct s u t c ActResult.Made z c.spot)
      (ap (λ (z : Core). core_next z ActResult.Made) e) own in
      let kind_is = subst (IsOfKind (slice_get s.kinds c.lock)) e (h.rules.kinds t c here) in
      let waits : slice_get (roles_at of_mutexes s c.lock) t ≡ Some (mutex.doing (mutex.Wakes [])) =
      in_its_place of_mutexes s t c (Plain k) (in_range s t c here) here e
      ∙ ap (λ vs. Some (mutex.doing (mutex.Wakes vs))) none in
      let still = own_after of_mutexes s u t c ActResult.Made (Plain k') c.spot a (word_at s c.lock) refl
      ∙ same of_mutexes _ _ _ _ _ _ [] [] refl (set-same (roles_at of_mutexes s c.lock) t _ waits) refl refl in (
        subst (λ vs. IsMutexMove of_mutex.WakesOne vs c.lock t s u) (sym none)
            (quiet of_mutexes s u t c.lock (own-there s u t c ActResult.Made _ c.spot a)
            (own-elsewhere s u t c ActResult.Made _ c.spot a) kind_is still (λ b. refl)),
        subst (IsPrepared (recursive_in s.kinds c.lock) c.others) e (h.rules.prepared t c here),
        tt,
        h.rules.bits c.lock,
      )

  fitted : Fitted s u t c ActResult.Made c.core
  fitted = go c.core refl
    where
      go : (x : Core) → c.core ≡ x → Fitted s u t c ActResult.Made x
      go (Core.Rw k) ce = nobody_rw (Simple k) ce (sym (ap core_act ce) ∙ asked)
      go (Core.Upgrade k) ce = nobody_rw (Upgradable k) ce (sym (ap core_act ce) ∙ asked)
      go (Core.Mutex k) ce =
          let p = mutex_wakes k.phase (sym (ap core_act ce) ∙ asked) in
          let is : k ≡ record k { phase = MutexPhase.Wakes p.0 } = ap (λ (z : MutexPhase). record k { phase = z }) p.1
          in
          subst (λ (z : MutexCore). Fitted s u t c ActResult.Made (Core.Mutex z)) (sym is)
          (nobody_mutex p.0 k (ce ∙ ap Core.Mutex is))
      go (Core.Late p) ce = absurd (late_wakes p (sym (ap core_act ce) ∙ asked))
      go (Core.LateRw p) ce = absurd (tardy_wakes p (sym (ap core_act ce) ∙ asked))

pub wakes_nobody : (s : State) (t : ℕ) (c : Call) → core_act c.core ≡ Act.Section section.Wake → taken_by s.wakes t ≡ []
    → Keeps t c s (woke_nobody s t c)
wakes_nobody s t c asked none h here =
    let leads = leads_by c.core (Act.Section section.Wake) (word_at s c.lock) ActResult.Made asked tt in
    let a = own s t c asked none h here leads.0 leads.1 in
    let lots = nobody_fits s t c (hears c ActResult.Made) h.lots here leads.0 leads.1 refl (omega (arith, leads.2)) none
    (wakes_some c.core ActResult.Made) in
    let both = rules_own s (woke_nobody s t c) t c ActResult.Made c.spot a h
    (λ v e ne at. knows_same s.lot.queues s.lot.queues (λ key. refl) e.core e.lock (h.rules.knows v e at))
    (fitted s t c asked none h here leads.0 leads.1) in (
      ActResult.Made,
      record {
        fits = record {
          lots = lots;
          passes = own_passes s (woke_nobody s t c) t c ActResult.Made (core_next c.core ActResult.Made) c.spot a lots
              h.passes (λ v k o ne at whose. (at, refl)) (λ k o e. absurd (out_takes (sym leads.1 ∙ e)));
          wakes = wakes_own s (woke_nobody s t c) t c ActResult.Made (core_next c.core ActResult.Made) a h.wakes;
          rules = both.0;
        };
        goes = both.1;
      },
    )
