use Rattle.std.proofs.Common.{Some, slice_set, sym, ap, ◌∙◌, subst, arith}
use Rattle.parking_lot_protocol_waits.specs.declared.once.once_phase.OnceAnswer.TheVariants as end
use Rattle.parking_lot_machine_sides.specs.Once.OnceFits.{Fits}
use Rattle.parking_lot_machine_sides.specs.Once.Onces.{Onces}
use Rattle.parking_lot_machine_sides.proofs.OnceFacts.Ending.{ended_fits}
use Rattle.parking_lot_machine_sides.proofs.OnceFacts.Holding.{held, low, room_set}
use Rattle.parking_lot_machine_sides.proofs.once.once_machine.OnceMachine.end.Goals as goal

pub invariant_of-self : goal.invariant_of-self
invariant_of-self g c =
    let s : Onces = record {
      words = c.self.inside.words.items;
      calls = c.self.inside.calls.items;
      waiting = c.self.inside.waiting.items;
      wakes = c.self.inside.wakes.items;
      inside = c.self.inside.inside.items;
    } in (
      subst (λ d. Fits (record s { calls = slice_set s.calls c.args.thread (Some d) })) (sym c.ran.ensures)
          (ended_fits s c.args.thread c.args.call c.self.invariant.0
          (held c.args.thread c.args.call c.self.view_is c.requires.here) c.requires.asked.0 c.requires.asked.1
          (Some (end.Runs c.in-Runs.before))
          (sym c.answer.ensures.answer ∙ c.in_ok-before.was ∙ ap Some c.in-Runs.is)),
      room_set _ _ _ _ c.self.invariant.1,
      room_set _ _ _ _ c.self.invariant.2,
    )

pub index_mut-requires-in-Completed : goal.index_mut-requires-in-Completed
index_mut-requires-in-Completed g c =
    omega (arith, low c.args.thread c.args.call c.self.view_is c.requires.here, c.self.inside.calls.ok.0)

pub invariant_of-self-in-Completed : goal.invariant_of-self-in-Completed
invariant_of-self-in-Completed g c =
    let s : Onces = record {
      words = c.self.inside.words.items;
      calls = c.self.inside.calls.items;
      waiting = c.self.inside.waiting.items;
      wakes = c.self.inside.wakes.items;
      inside = c.self.inside.inside.items;
    } in (
      ended_fits s c.args.thread c.args.call c.self.invariant.0
          (held c.args.thread c.args.call c.self.view_is c.requires.here) c.requires.asked.0 c.requires.asked.1
          (Some end.Completed)
          (sym c.answer.ensures.answer ∙ c.in_ok-before.was ∙ ap Some c.in-Completed.is),
      room_set _ _ _ _ c.self.invariant.1,
      room_set _ _ _ _ c.self.invariant.2,
    )

pub index_mut-requires-in-Poisoned : goal.index_mut-requires-in-Poisoned
index_mut-requires-in-Poisoned g c =
    omega (arith, low c.args.thread c.args.call c.self.view_is c.requires.here, c.self.inside.calls.ok.0)

pub invariant_of-self-in-Poisoned : goal.invariant_of-self-in-Poisoned
invariant_of-self-in-Poisoned g c =
    let s : Onces = record {
      words = c.self.inside.words.items;
      calls = c.self.inside.calls.items;
      waiting = c.self.inside.waiting.items;
      wakes = c.self.inside.wakes.items;
      inside = c.self.inside.inside.items;
    } in (
      ended_fits s c.args.thread c.args.call c.self.invariant.0
          (held c.args.thread c.args.call c.self.view_is c.requires.here) c.requires.asked.0 c.requires.asked.1
          (Some end.Poisoned)
          (sym c.answer.ensures.answer ∙ c.in_ok-before.was ∙ ap Some c.in-Poisoned.is),
      room_set _ _ _ _ c.self.invariant.1,
      room_set _ _ _ _ c.self.invariant.2,
    )

pub index_mut-requires-in-Finished : goal.index_mut-requires-in-Finished
index_mut-requires-in-Finished g c =
    omega (arith, low c.args.thread c.args.call c.self.view_is c.requires.here, c.self.inside.calls.ok.0)

pub invariant_of-self-in-Finished : goal.invariant_of-self-in-Finished
invariant_of-self-in-Finished g c =
    let s : Onces = record {
      words = c.self.inside.words.items;
      calls = c.self.inside.calls.items;
      waiting = c.self.inside.waiting.items;
      wakes = c.self.inside.wakes.items;
      inside = c.self.inside.inside.items;
    } in (
      ended_fits s c.args.thread c.args.call c.self.invariant.0
          (held c.args.thread c.args.call c.self.view_is c.requires.here) c.requires.asked.0 c.requires.asked.1
          (Some end.Finished)
          (sym c.answer.ensures.answer ∙ c.in_ok-before.was ∙ ap Some c.in-Finished.is),
      room_set _ _ _ _ c.self.invariant.1,
      room_set _ _ _ _ c.self.invariant.2,
    )
