use Rattle.std.proofs.Common.{◌+◌, ℕ, Bool, List, take, get_or, subst}
use Rattle.std.proofs.lemmas.List.{take_more, drop_more}
use Rattle.parking_lot_machine.specs.Requeues.{IsTakenIn}
use Rattle.parking_lot_machine.specs.Rows.{state}
use Rattle.parking_lot_machine_waits.specs.Moving.{MayMove, back_in, timed_in}
use Rattle.parking_lot_machine_waits.proofs.Sequences.{one_more}
use Rattle.parking_lot_machine_waits.proofs.moving.move_rest.Goals as goal

pub loop-waiter-preserved : goal.loop-waiter-preserved
loop-waiter-preserved g c =
    let i = c.loop-waiter.waiter-index in
    let ws = c.args.waiters.now in
    let w = get_or ws i 0 in
    let s = state c.loop-waiter.rows in
    let u = state c.take_in.new.self in
    let taken : IsTakenIn (back_in c.args.seats.now w) c.args.lock (timed_in c.args.machine.now w) s u =
    subst (λ (b : Bool). IsTakenIn (back_in c.args.seats.now w) c.args.lock b s u) c.timed_in.ensures
    (subst (λ (k : ℕ). IsTakenIn k c.args.lock c.timed_in.result s u) c.back_in.ensures c.take_in.ensures) in
    record {
      moved = one_more c.args.seats.now c.args.machine.now c.args.lock (take i ws) (take (i + 1) ws) w
          (state c.args.rows.now) s u (take_more ws i 0 c.loop-waiter-test.true) c.loop-waiter.invariant.moved taken;
      may = (subst (λ (vs : List ℕ). MayMove c.args.seats.now c.args.machine.now c.args.lock vs s)
          (drop_more ws i 0 c.loop-waiter-test.true) c.loop-waiter.invariant.may).2 u taken;
    }
