use Rattle.std.proofs.Common.{◌∙◌, ap, sym}
use Rattle.parking_lot_protocol.specs.Timed.Courses.{EndedAt}
use Rattle.parking_lot_driver.proofs.told.Run.ended.Goals as goal

-- what the core was told is a run, after which it has asked for its end
pub returns : goal.returns
unfolding EndedAt
returns g c =
    let told = c.self.invariant in (
      told.0,
      told.1,
      ap g.C.DecisionCore.asks (sym told.2 ∙ ap (λ run. run.1) c.self.view_is) ∙ c.requires,
    )
