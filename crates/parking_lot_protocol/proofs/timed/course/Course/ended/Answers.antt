use Rattle.std.proofs.Common.{◌∙◌, ap, sym, subst}
use Rattle.parking_lot_protocol.specs.Timed.Courses.{EndedAt}
use Rattle.parking_lot_protocol.proofs.timed.course.Course.ended.Goals as goal

-- what the core was told is a course, after which it has asked for this
pub returns : goal.returns
unfolding EndedAt
returns g c =
    let told = c.self.invariant in
    let C = g.C.CallCore in
    subst (λ begun. EndedAt C.gives C.told C.asks C.start begun (C.asks c.args.self.now.1))
    (ap (λ course. course.0) c.self.view_is) (
      told.0,
      told.1,
      ap C.asks (sym told.2 ∙ ap (λ course. course.1) c.self.view_is),
    )
