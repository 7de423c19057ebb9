use Rattle.std.proofs.Common.{arith, false, inl, inr, not}
use Rattle.std.proofs.lemmas.Grind.{common_steps}
use Rattle.mapworld_calls.proofs.Programs.{one_guard_tells}
use Rattle.mapworld_calls.proofs.program.holds_one_guard.Goals.{in-Begin+else-held, in-Held+then-held-2}
use Rattle.mapworld_calls.proofs.program.holds_one_guard.Goals.{in-Held+else-held-2, in-Keyed+else-held-3}
use Rattle.mapworld_calls.proofs.program.holds_one_guard.Goals as goal

pub returns-then-held-clause-guarded : goal.returns-then-held-clause-guarded
returns-then-held-clause-guarded g c = one_guard_tells c.args.program.now false (grind (arith, common_steps))

pub returns-then-held-3-clause-value : goal.returns-then-held-3-clause-value
returns-then-held-3-clause-value g c =
    elim c.in-Keyed.is [ inl k ↦ grind (arith, common_steps, k.1) | inr f ↦ grind (arith, common_steps, f.1) ]

pub returns-then-held-3-clause-guarded : goal.returns-then-held-3-clause-guarded
returns-then-held-3-clause-guarded g c = one_guard_tells c.args.program.now false (returns-then-held-3-clause-value g c)

pub loop-ask-preserved : goal.loop-ask-preserved
loop-ask-preserved g c = elim c.match-ask.branch [
  | in-Begin+else-held w ↦ grind (arith, common_steps)
  | in-Held+then-held-2 w ↦ grind (arith, common_steps)
  | in-Held+else-held-2 w ↦ grind (arith, common_steps)
  | in-Keyed+else-held-3 w ↦ elim w.in-Keyed.is
      [ inl k ↦ grind (arith, common_steps, k.1) | inr f ↦ grind (arith, common_steps, f.1) ]
]

pub returns-clause-guarded : goal.returns-clause-guarded
returns-clause-guarded g c = one_guard_tells c.args.program.now (not c.loop-ask.held) (grind (arith, common_steps))
