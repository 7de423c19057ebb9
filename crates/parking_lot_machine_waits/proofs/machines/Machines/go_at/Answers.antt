use Rattle.std.proofs.Common.{ap, sym, ◌∙◌, subst, slice_set}
use Rattle.parking_lot_machine_waits.specs.Joint.{Joint, nowhere}
use Rattle.parking_lot_machine_waits.specs.JointSteps.{GoesAtVariable}
use Rattle.parking_lot_machine_waits.specs.Turns.{turn_of}
use Rattle.parking_lot_machine_waits.proofs.Turning.{freed_some, reseated}
use Rattle.parking_lot_machine_waits.proofs.machines.Machines.go_at.Goals as goal

pub returns-then-is_some : goal.returns-then-is_some
returns-then-is_some g c =
    let j = c.turn-reply.new.self in
    subst (λ (x : Joint). GoesAtVariable c.args.thread c.args.variable c.args.fair c.turn-reply.result c.args.self.now
    x) (sym c.free.ensures) (record {
      call = c.in_ok-call.call;
      here = sym c.call_at.ensures ∙ c.in_ok-call.was;
      turned = reseated c.args.thread c.args.variable c.args.fair c.in_ok-call.call c.args.self.now j
          (slice_set j.seats c.args.thread nowhere) (turn_of c.in_ok-call.call) c.turn-reply.result
          c.turn-reply.ensures.turned;
      seats = ap (λ s. slice_set s c.args.thread nowhere) c.turn-reply.ensures.seats
          ∙ freed_some c.args.thread c.turn-reply.result c.args.self.now.seats
          (sym c.is_some.ensures ∙ c.if-is_some.true);
    })
