use Rattle.std.proofs.Common.{nat_lt, length, ap, sym, ◌∙◌}
use Rattle.parking_lot_machine_waits.specs.Joint.{seat_at}
use Rattle.parking_lot_machine_waits.specs.JointMoves.{may_expire_at}
use Rattle.parking_lot_machine_waits.proofs.Hearing.{both_true, can_expire}
use Rattle.parking_lot_machine_waits.proofs.machines.Machines.deadline.Goals as goal

pub hear-requires : goal.hear-requires
hear-requires g c =
    let j = c.args.self.now in
    let seat = seat_at j c.args.thread in
    record {
      can = can_expire seat.at c.in-Some.variable j c.args.thread
          (ap (λ (s : _). s.at) (sym c.seat.ensures) ∙ c.in-Some.is)
          (both_true (nat_lt c.args.thread (length j.seats)) (may_expire_at seat.at j c.args.thread) c.requires.may).1;
    }
