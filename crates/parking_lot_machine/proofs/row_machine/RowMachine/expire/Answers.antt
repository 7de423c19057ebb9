use Rattle.parking_lot_machine.proofs.Calling.{room_set}
use Rattle.std.proofs.Common.{sym, ap, ◌∙◌, subst, arith}
use Rattle.parking_lot_machine_calls.specs.declared.seat.Core.{Core}
use Rattle.parking_lot_machine.specs.Rows.{Rows, state}
use Rattle.parking_lot_machine.specs.RowActs.{with_call}
use Rattle.parking_lot_machine.specs.RowFits.{FitsTogether}
use Rattle.parking_lot_machine.proofs.LateActs.{laws}
use Rattle.parking_lot_machine.proofs.Holding.{fits, low}
use Rattle.parking_lot_machine.proofs.row_machine.RowMachine.expire.Goals as goal

pub index_mut-requires : goal.index_mut-requires
index_mut-requires g c =
    omega (arith, low c.args.thread c.args.call c.self.view_is c.requires.here, c.self.inside.calls.ok.0)

pub returns : goal.returns
returns g c =
    ap (λ (m : Rows). with_call (state m) c.args.thread (record c.args.call { core = c.late.result })) c.self.view_is
    ∙ ap (λ (k : Core). with_call (state c.args.self.now) c.args.thread (record c.args.call { core = k }))
    c.late.ensures

pub invariant_of-self : goal.invariant_of-self
invariant_of-self g c = (
  subst FitsTogether (sym (returns g c))
      (laws.expires (state c.args.self.now) c.args.thread c.args.call c.requires.asleep
      (fits c.self.view_is c.self.invariant.0) c.requires.here).fits,
  room_set _ _ _ _ c.self.invariant.1,
)
