-- A scan has room to count whom it takes.
use Rattle.std.proofs.Common.{◌≡◌, ◌<◌, ℕ, ◌+◌, ◌^◌, inl, inr, Bool, true, false, Option, Some, slice_get, refl, sym}
use Rattle.std.proofs.Common.{ap, ◌∙◌, subst, arith}
use Rattle.parking_lot_core_model.specs.declared.place.Waiter.{Waiter}
use Rattle.parking_lot_protocol.specs.declared.rw_phase.RwPhase.{RwPhase}
use Rattle.parking_lot_protocol.specs.RwRules.{IsToken}
use Rattle.parking_lot_rules.specs.Classes.{bit}
use Rattle.std.proofs.lemmas.Bool.{both_ways}
use Rattle.parking_lot_machine_calls.specs.Kinds.{AsRw, Manner, manner_of, recursive_in}
use Rattle.parking_lot_machine_calls.specs.declared.open_call.Call.{Call}
use Rattle.parking_lot_machine_calls.specs.declared.seat.Core.{Core}
use Rattle.parking_lot_machine.specs.Rows.{State, call_at, taken_by}
use Rattle.parking_lot_core_model.specs.declared.parking.FilterOp.TheVariants.{Unpark}
use Rattle.parking_lot_machine.specs.Passes.{asks, look_by}
use Rattle.parking_lot_machine_calls.specs.Stances.{Takes, In, core_act, stance, taken_count}
use Rattle.parking_lot_machine_calls.specs.StanceLaws.{Counts, rw_counts}
use Rattle.parking_lot_machine_calls.specs.CallActs.{key_of}
use Rattle.parking_lot_machine.specs.RowFits.{FitsTogether, IsPrepared}
use Rattle.parking_lot_machine_calls.specs.CallKinds.{IsOfKind, IsOfManner}
use Rattle.parking_lot_machine_calls.proofs.Stancing.{small_key}
use Rattle.parking_lot_machine.proofs.KindTable.{RwCall, Simple, Upgradable, of_rws, rw_call}
use Rattle.parking_lot_machine.proofs.Meeting.{meets}
use Rattle.parking_lot_machine.proofs.RwSleeps.{call_sleeps}
use Rattle.parking_lot_machine.proofs.RwScans.{Scanner, scanner, takes_where}
use Rattle.parking_lot_machine.proofs.LotTakes.{Sleeper, sleeper}

-- one that is wanted where an upgradable hold is seen doesn't want it
unseen : (u : Bool) → look_by u false 20 ≡ Unpark → u ≡ false
unseen true e = absurd cc
unseen false e = refl

-- a scan that doesn't see it has taken none
not_taken : (x y : Bool) → (x ≡ true → y ≡ true) → y ≡ false → x ≡ false
not_taken true y more e = absurd (both_ways y e (more refl))
not_taken false y more e = refl

module _ (s : State) (h : FitsTogether s) (t : ℕ) (c : Call) (here : call_at s t ≡ Some c) where
  -- few are to be woken
  few : taken_count c.core < 2 ^ 18
  few = let counted = h.lots.counted t c here in omega (arith, counted.few, h.rules.small)

  pub scans_have_room : (k nth : ℕ) (w : Waiter) → stance c.core ≡ In k Takes → slice_get (s.lot.queues (key_of c k))
      nth ≡ Some w → asks (core_act c.core) w.token.0 ≡ Unpark → Counts c.core w.token
  scans_have_room k nth w from at wanted = by_core c.core refl
    where
      z : Sleeper s t k c w
      z = sleeper s t c h.lots here k nth w (small_key c.core k Takes from) from at

      by_scan : (y : RwCall) (sc : Scanner c.others y) → c.core ≡ rw_call y → IsToken (Some w.token)
          → rw_counts (RwPhase.Scans sc.scan) w.token
      by_scan y sc e (inl is) =
          let less : taken_count c.core < 2 ^ 18 = few in
          let count : taken_count c.core ≡ sc.scan.shared + bit sc.scan.upgradable + bit sc.scan.writer =
          ap taken_count e ∙ sc.taken in
          inl (is, omega arith)
      by_scan y sc e (inr (inl is)) = inr (inl (is, sc.writer))
      by_scan y sc e (inr (inr is)) =
          let asked : look_by sc.sees false 20 ≡ Unpark = ap (look_by sc.sees false) (sym is)
          ∙ sym (sc.asks_so w.token.0) ∙ ap (λ (x : Core). asks (core_act x) w.token.0) (sym e) ∙ wanted in
          inr (inr (is, not_taken sc.scan.upgradable sc.sees sc.more (unseen sc.sees asked)))

      -- who sleeps there has a token of a call at such a lock
      its_token : 0 ≡ k → manner_of (slice_get s.kinds c.lock) ≡ Some AsRw → IsToken (Some w.token)
      its_token nought is =
          let o = of_rws.only z.call.core
          (subst (λ (m : Option Manner). IsOfManner m z.call.core)
          (ap (λ (j : ℕ). manner_of (slice_get s.kinds j)) z.lock ∙ is) (h.rules.kinds w.thread z.call z.there)) in
          elim (call_sleeps (recursive_in s.kinds z.call.lock) z.call.others (taken_by s.wakes w.thread) o.0 k w.token
          (meets s h w.thread z.call o.0 o.1 z.there).stands (ap stance (sym o.1) ∙ z.asleep)) [
            | inl x ↦ x.1.token
            | inr x ↦ absurd (omega (arith, nought, x.0))
          ]

      rw_room : (y : RwCall) → c.core ≡ rw_call y → Counts (rw_call y) w.token
      rw_room y e =
          let ready = subst (IsPrepared (recursive_in s.kinds c.lock) c.others) e (h.rules.prepared t c here) in
          elim (takes_where (recursive_in s.kinds c.lock) c.others y k ready (ap stance (sym e) ∙ from)) [
            | inl x ↦
                let sc = scanner (recursive_in s.kinds c.lock) c.others y x.0 ready in
                sc.counts w.token
                (by_scan y sc e
                (its_token x.1 (of_rws.of_kind (slice_get s.kinds c.lock) y
                (subst (IsOfKind (slice_get s.kinds c.lock)) e (h.rules.kinds t c here)))))
            | inr x ↦ subst (λ (q : RwCall). Counts (rw_call q) w.token) (sym x.1) tt
          ]

      by_core : (x : Core) → c.core ≡ x → Counts x w.token
      by_core (Core.Mutex x) e = tt
      by_core (Core.Late p) e = tt
      by_core (Core.LateRw p) e = tt
      by_core (Core.Rw x) e = rw_room (Simple x) e
      by_core (Core.Upgrade x) e = rw_room (Upgradable x) e
