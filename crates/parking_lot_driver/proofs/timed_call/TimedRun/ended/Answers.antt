use Rattle.std.proofs.Common.{◌∙◌, ap, sym}
use Rattle.parking_lot_protocol.specs.Timed.Courses.{EndedAt}
use Rattle.parking_lot_protocol_rw.specs.Timed.TimedTable.{timed_asks}
use Rattle.parking_lot_driver.proofs.timed_call.TimedRun.ended.Goals as goal

-- what the core was told is a course, after which it has asked for this
pub returns : goal.returns
unfolding EndedAt
returns g c =
    let told = c.self.invariant in (
      told.0,
      told.1,
      ap timed_asks (sym told.2 ∙ ap (λ run. run.1) c.self.view_is),
    )
