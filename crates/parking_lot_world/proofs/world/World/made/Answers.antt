use Rattle.std.proofs.Common.{◌≡◌, ◌*◌, true, None, arith, length, map, ap, replicate, ◌∙◌, rules}
use Rattle.parking_lot_machine.specs.Machines.{at_rest}
use Rattle.parking_lot_machine_sides.specs.Once.OnceActs as once
use Rattle.parking_lot_machine_waits.specs.JointSteps.{var_of}
use Rattle.parking_lot_world.specs.WorldCalls.{is_variable, row_kind}
use Rattle.parking_lot_world.proofs.Making.{new_whole}
use Rattle.parking_lot_world.proofs.world.World.made.Goals as goal

pub invariant_of-result : goal.invariant_of-result
invariant_of-result g c =
    let answers : c.in_ok-answers.answers.items ≡ replicate c.args.threads None = search rules in
    let n : c.len.result ≡ length c.args.locks.items = omega (arith, c.len.ensures, c.args.locks.ok.0) in
    new_whole _ c.args.threads
    (c.in_ok-waits.ensures.rows ∙ ap (at_rest true (2 * c.args.threads)) (ap (map row_kind) c.deref.ensures.value))
    (c.in_ok-waits.ensures.variables ∙ ap (map (var_of c.args.threads)) (ap (map is_variable) c.deref.ensures.value))
    c.in_ok-waits.ensures.seats
    (c.in_ok-onces.ensures.made ∙ ap (once.at_rest c.args.threads) n)
    answers
