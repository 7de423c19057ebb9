use Rattle.std.proofs.Common.{ap, ◌∙◌}
use Rattle.std.specs.Option.{option_flatten}
use Rattle.parking_lot_core_model.specs.Machine.{machine}
use Rattle.parking_lot_protocol.specs.Wake.{wake_answer}
use Rattle.parking_lot_machine.proofs.NextTaken.{next_taken}
use Rattle.parking_lot_machine.proofs.lot_calls.take_next.Goals as goal

pub returns-clause-next : goal.returns-clause-next
returns-clause-next g c s here =
    next_taken _ _ c.args.thread (machine c.args.lot.now) (machine c.take_next.new.self) c.take_next.result
    c.flatten-taking.result (c.flatten-taking.ensures ∙ ap option_flatten c.ok.ensures.value)
    (wake_answer c.args.sum) c.requires.inside c.take_next.ensures s here (c.requires.passed s here) c.requires.goes
    (λ token op f gives. (gives.met.1.0, gives.met.1.1))
