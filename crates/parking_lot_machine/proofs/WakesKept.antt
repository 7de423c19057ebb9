-- Who is off its list is to be woken by who took it, and those are as many as are to be woken.
use Rattle.std.proofs.Common.{◌≡◌, ℕ, List, length, Some, slice_get, sym, ap, ◌∙◌, subst, arith}
use Rattle.std.specs.Prelude.{count_by}
use Rattle.parking_lot_core_model.proofs.Numbers.{count_by-set}
use Rattle.parking_lot_protocol.specs.declared.act.ActResult.{ActResult}
use Rattle.parking_lot_machine_calls.specs.declared.seat.QueuePosition.TheVariants as spot
use Rattle.parking_lot_machine_calls.specs.declared.seat.Core.{Core}
use Rattle.parking_lot_machine_calls.specs.declared.open_call.Call.{Call}
use Rattle.parking_lot_machine_calls.specs.declared.seat.Wakeup.{Wakeup}
use Rattle.parking_lot_machine.specs.Rows.{State}
use Rattle.parking_lot_machine.specs.RowFits.{WakesFit, is_away}
use Rattle.parking_lot_machine.proofs.Calling.{call_of, slot, calls-change}
use Rattle.parking_lot_machine.proofs.Owning.{OwnAct, call_after}

-- one whose spot stays
pub wakes_own : (s u : State) (t : ℕ) (c : Call) (told : ActResult) (next : Core) → OwnAct s u t c told next c.spot
    → WakesFit s → WakesFit u
wakes_own s u t c told next a h =
    let d : Call = call_after s u t c told next c.spot a in
    record {
      off = λ v by e said here is_off. subst (λ (ws : List Wakeup). (n : ℕ) × (x : Wakeup) × (slice_get ws n ≡ Some x)
          × (x.by ≡ by) × (x.thread ≡ v)) (sym a.wakes)
          (calls-change (λ (x : ℕ) (f : Call). f.spot ≡ spot.Off by said → (n : ℕ) × (w : Wakeup)
          × (slice_get s.wakes n ≡ Some w) × (w.by ≡ by) × (w.thread ≡ x)) s.calls t c d a.here
          (λ x f ne at is. h.off x by f said at is) (λ is. h.off t by c said a.here is) v e
          (sym (ap (λ cs. call_of cs v) a.calls) ∙ here) is_off);
      room = ap length a.wakes ∙ h.room
          ∙ omega (arith, count_by-set is_away s.calls t (Some c) (Some d) (slot s.calls t c a.here))
          ∙ ap (count_by is_away) (sym a.calls);
    }
