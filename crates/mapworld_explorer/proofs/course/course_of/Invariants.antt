use Rattle.std.proofs.Common.{◌≡◌, map, take}
use Rattle.mapworld_explorer.proofs.course.course_of.Given as goal

-- the steps so far are told
abbrev pub invariant-loop-step : goal.invariant-loop-step
invariant-loop-step l =
    map (λ told. told.thread) l.told.items ≡ map (λ step. step.thread) (take l.step-index l.schedule)
