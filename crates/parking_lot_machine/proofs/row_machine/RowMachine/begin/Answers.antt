use Rattle.std.proofs.Common.{◌≡◌, ℕ, refl, sym, ap, ◌∙◌, subst}
use Rattle.parking_lot_machine_calls.specs.Beginnings.{core_of, holds_beside}
use Rattle.parking_lot_machine_calls.specs.declared.calls.LockCall.{LockCall}
use Rattle.parking_lot_machine_calls.specs.declared.seat.Core.{Core}
use Rattle.parking_lot_machine_calls.specs.declared.open_call.Call.{Call}
use Rattle.parking_lot_machine_calls.specs.declared.seat.QueuePosition.TheVariants as spot
use Rattle.parking_lot_machine.specs.Rows.{Rows, State, state}
use Rattle.parking_lot_machine.specs.RowActs.{begun}
use Rattle.parking_lot_machine.specs.RowFits.{FitsTogether}
use Rattle.parking_lot_machine.specs.ActLaws.{MayBegin}
use Rattle.parking_lot_machine.specs.Machines.{call_for, IsBegun}
use Rattle.parking_lot_machine.proofs.Acting.{laws}
use Rattle.parking_lot_machine.proofs.WakesPaying.{begins_cost}
use Rattle.parking_lot_machine.proofs.Requesting.{may_begins}
use Rattle.parking_lot_machine.proofs.row_machine.RowMachine.begin.Goals as goal

-- the call that is made up is the one that is asked for
same_call : (lock n m : ℕ) (k o : Core) (call : LockCall) → n ≡ m → k ≡ o
    → ◌≡◌ {A = Call} (record { lock = lock; others = n; core = k; spot = spot.Listed; asked = call })
    (record { lock = lock; others = m; core = o; spot = spot.Listed; asked = call })
same_call lock n m k o call e f =
    ap (λ (x : ℕ). record { lock = lock; others = x; core = k; spot = spot.Listed; asked = call }) e
    ∙ ap (λ (x : Core). record { lock = lock; others = m; core = x; spot = spot.Listed; asked = call }) f

-- src/row_machine.rt:121:9
pub begin_call-requires : goal.begin_call-requires
begin_call-requires g c =
    record {
      may = subst (λ (x : Call). MayBegin (state c.args.self.now) c.args.thread x)
          (sym (same_call c.args.lock _ _ _ _ c.args.call
          (c.beside-others.ensures ∙ ap (holds_beside c.args.call) c.hold.ensures)
          (c.core.ensures ∙ ap (λ k. core_of k c.args.call) c.kind_or_rw.ensures)))
          (may_begins (state c.args.self.now) c.args.thread c.args.lock c.args.call
          (subst (λ (m : Rows). FitsTogether (state m)) c.self.view_is c.self.invariant.0).rules c.requires.may);
    }

-- src/row_machine.rt:116:5
pub returns : goal.returns
returns g c =
    let s : State = state c.args.self.now in
    let fits : FitsTogether s = subst (λ (m : Rows). FitsTogether (state m)) c.self.view_is c.self.invariant.0 in
    let asked = call_for s c.args.thread c.args.lock c.args.call in
    let may = may_begins s c.args.thread c.args.lock c.args.call fits.rules c.requires.may in
    subst (IsBegun c.args.thread c.args.lock c.args.call s)
    (sym (c.begin_call.ensures
    ∙ ap (begun s c.args.thread)
    (same_call c.args.lock _ _ _ _ c.args.call (c.beside-others.ensures ∙ ap (holds_beside c.args.call) c.hold.ensures)
    (c.core.ensures ∙ ap (λ k. core_of k c.args.call) c.kind_or_rw.ensures))))
    (record {
      became = refl;
      acts = laws.begin s c.args.thread asked fits may;
      costs = begins_cost s c.args.thread asked c.args.call fits may refl;
    })
