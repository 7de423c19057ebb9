use Rattle.parking_lot_machine.proofs.Calling.{room_set}
use Rattle.std.proofs.Common.{◌+◌, ◌*◌, ℕ, None, length, slice_set, sym, ap, ◌∙◌, subst, arith}
use Rattle.parking_lot_machine_calls.specs.declared.seat.Hold.{Hold}
use Rattle.parking_lot_machine.specs.Rows.{Rows, State, state}
use Rattle.parking_lot_machine.specs.RowFits.{FitsTogether}
use Rattle.parking_lot_machine.proofs.Acting.{laws}
use Rattle.parking_lot_machine.proofs.Holding.{fits, low, cell_low}
use Rattle.parking_lot_machine.proofs.row_machine.RowMachine.answer.Goals as goal

-- src/acts.rt:205:20
pub overflow_mul-cell : goal.overflow_mul-cell
overflow_mul-cell g c =
    let within = cell_low c.args.thread c.args.call c.self.view_is c.requires.here c.self.invariant.0
    (c.len.ensures ∙ c.self.inside.kinds.ok.0) in
    record { fits = omega (arith, within, c.self.inside.holds.ok.0, c.self.inside.holds.ok.1) }

-- src/acts.rt:205:20
pub overflow_add-cell : goal.overflow_add-cell
overflow_add-cell g c =
    let within = cell_low c.args.thread c.args.call c.self.view_is c.requires.here c.self.invariant.0
    (c.len.ensures ∙ c.self.inside.kinds.ok.0) in
    record { fits = omega (arith, within, c.self.inside.holds.ok.0, c.self.inside.holds.ok.1) }

-- src/acts.rt:206:9
pub index_mut-requires : goal.index_mut-requires
index_mut-requires g c =
    let within = cell_low c.args.thread c.args.call c.self.view_is c.requires.here c.self.invariant.0
    (c.len.ensures ∙ c.self.inside.kinds.ok.0) in
    omega (arith, within, c.self.inside.holds.ok.0)

-- src/acts.rt:207:9
pub index_mut-requires-2 : goal.index_mut-requires-2
index_mut-requires-2 g c =
    omega (arith, low c.args.thread c.args.call c.self.view_is c.requires.here, c.self.inside.calls.ok.0)

-- src/acts.rt:200:5
pub returns : goal.returns
returns g c =
    let done : State → ℕ → Hold → State =
    λ s locks x. record s {
      calls = slice_set s.calls c.args.thread None;
      holds = slice_set s.holds (c.args.thread * locks + c.args.call.lock) x;
    } in
    let s : State = state c.args.self.now in
    ap (λ (m : Rows). done (state m) c.len.result c.hold_after.result) c.self.view_is
    ∙ ap (λ locks. done s locks c.hold_after.result)
    (c.len.ensures ∙ c.self.inside.kinds.ok.0 ∙ ap (λ (m : Rows). length m.kinds) c.self.view_is)
    ∙ ap (done s (length s.kinds)) c.hold_after.ensures

-- src/acts.rt:200:5
pub invariant_of-self : goal.invariant_of-self
invariant_of-self g c = (
  let asked = c.requires.asked in
      subst FitsTogether (sym (returns g c))
      (laws.end (state c.args.self.now) c.args.thread c.args.call asked.0 asked.1
      (fits c.self.view_is c.self.invariant.0) c.requires.here).fits,
  room_set _ _ _ _ c.self.invariant.1,
)
