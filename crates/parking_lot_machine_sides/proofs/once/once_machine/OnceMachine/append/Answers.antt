use Rattle.std.proofs.Common.{sym, ap, subst, arith, rules}
use Rattle.std.proofs.Common.{Some}
use Rattle.std.proofs.lemmas.List.{length-set}
use Rattle.parking_lot_machine_sides.specs.Once.OnceFits.{Fits, is_listed}
use Rattle.parking_lot_machine_sides.proofs.OnceFacts.Holding.{has_room, held, room_set}
use Rattle.parking_lot_machine_sides.proofs.OnceFacts.Joining.{appends_is, joins_so}
use Rattle.parking_lot_machine_sides.proofs.once.once_machine.OnceMachine.append.Goals as goal

pub push_reserved-requires : goal.push_reserved-requires
push_reserved-requires g c =
    let wish = appends_is c.args.call.core.phase c.requires.asked.0 c.requires.asked.1 in
    omega (
      arith,
      has_room _ c.args.thread c.args.call c.self.invariant.0
          (held c.args.thread c.args.call c.self.view_is c.requires.here) (ap is_listed wish.1),
      c.self.invariant.1,
      c.self.inside.waiting.ok.0,
    )

pub returns : goal.returns
returns g c = search rules

pub invariant_of-self : goal.invariant_of-self
invariant_of-self g c =
    let wish = appends_is c.args.call.core.phase c.requires.asked.0 c.requires.asked.1 in (
      subst Fits (sym (returns g c))
          (joins_so c.args.self.now c.args.thread c.args.call (subst Fits c.self.view_is c.self.invariant.0)
          c.requires.here wish.0 wish.1).fits,
      omega (
        arith,
        length-set c.self.inside.calls.items c.args.thread (Some c.told.result),
        c.self.invariant.1,
        c.push_reserved.ensures.capacity,
      ),
      room_set _ _ _ _ c.self.invariant.2,
    )
