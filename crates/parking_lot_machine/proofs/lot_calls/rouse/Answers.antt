use Rattle.parking_lot_core_model.specs.Machine.{machine}
use Rattle.parking_lot_machine.proofs.Resuming.{rouses}
use Rattle.parking_lot_machine.proofs.lot_calls.rouse.Goals as goal

-- src/lot_calls.rt:88:1
pub returns-clause-runs : goal.returns-clause-runs
returns-clause-runs g c =
    (rouses (machine c.args.lot.now) (machine c.wake.new.self) c.args.thread c.args.mark c.requires.told c.wake.result
    c.wake.ensures.due c.wake.ensures.woken _ c.resume.result (machine c.resume.new.self) c.resume.ensures).1
