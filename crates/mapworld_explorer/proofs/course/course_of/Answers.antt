use Rattle.std.proofs.Common.{false, rules}
use Rattle.mapworld_explorer.proofs.Courses.{told_so_far}
use Rattle.mapworld_explorer.proofs.course.course_of.Goals as goal

pub loop-step-preserved : goal.loop-step-preserved
loop-step-preserved c = told_so_far (λ step. step.thread) (λ told. told.thread) c.args.schedule.now
    c.loop-step.told.items c.push.new.self.items c.loop-step.step-index
    (record { thread = 0; fair = false; deadline = false }) c.in_ok-make.field-0
    c.loop-step-test.true c.loop-step.invariant (search rules) (search rules)
