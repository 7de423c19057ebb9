use Rattle.std.proofs.Common.{◌≡◌, take}
use Rattle.std.specs.List.{list_all}
use Rattle.mapworld_explorer.specs.Outcomes.{has_told}
use Rattle.mapworld_explorer.proofs.outcome.Outcome.has_all.Given as goal

-- it has all of those so far
abbrev pub invariant-loop-answer : goal.invariant-loop-answer
invariant-loop-answer l = l.all ≡ list_all (has_told l.self) (take l.answer-index l.wanted)
