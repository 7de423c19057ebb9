use Rattle.std.proofs.Common.{◌≡◌, ◌∙◌, sym, ap, subst, arith, nat_lt, length, ◌<◌, ◌≤◌}
use Rattle.std.specs.Prelude.{slice_set, vec_capacity, vec_len}
use Rattle.parking_lot_machine_sides.specs.Condvar.Fitting.{Fits}
use Rattle.parking_lot_machine_sides.specs.Condvar.Machines.{State}
use Rattle.parking_lot_machine_sides.specs.Condvar.OwnSteps.{WhereItJoins, inside_after_wait, queue_after_wait, stepped}
use Rattle.parking_lot_machine_sides.specs.Condvar.OwnSteps.{beside_after_wait, wait_goes, wait_sees, word_after_wait}
use Rattle.parking_lot_machine_sides.proofs.CondvarFacts.Making.{has_room, held, low, may_so, waited}
use Rattle.parking_lot_machine_sides.proofs.CondvarFacts.Slots.{room_set}
use Rattle.parking_lot_machine_sides.proofs.CondvarFacts.Stepping.{step_made}
use Rattle.parking_lot_machine_sides.proofs.condvar.condvar_machine.CondvarMachine.step_wait.Goals as goal

pub move_in_list-requires : goal.move_in_list-requires
move_in_list-requires g c =
    let m : State = record {
      word = c.self.inside.word;
      calls = c.self.inside.calls.items;
      queue = c.self.inside.queue.items;
      inside = c.self.inside.inside;
      beside = c.self.inside.beside;
    } in
    record {
      room = subst (λ p. WhereItJoins p (length m.queue < vec_capacity c.self.inside.queue)) (sym c.phase-phase.ensures)
          (has_room m c.args.thread c.args.call c.args.core (vec_capacity c.self.inside.queue) c.self.invariant.0
          (held c.args.thread c.args.call c.self.view_is c.requires.here) c.requires.its c.self.invariant.1);
    }

pub index_mut-requires : goal.index_mut-requires
index_mut-requires g c =
    omega (arith, low c.args.thread c.args.call c.self.view_is c.requires.here, c.self.inside.calls.ok.0)

pub returns : goal.returns
returns g c =
    let m : State = record {
      word = c.self.inside.word;
      calls = c.self.inside.calls.items;
      queue = c.self.inside.queue.items;
      inside = c.self.inside.inside;
      beside = c.self.inside.beside;
    } in
    let counted : vec_len c.move_in_list.new.queue ≡ length c.move_in_list.new.queue.items =
    omega (arith, c.move_in_list.new.queue.ok.0) in
    waited m c.args.thread c.args.call c.args.core c.requires.its _ _ _ _ _
    (c.word_after_wait-self-inside.ensures ∙ ap (λ p. word_after_wait p m.word) c.phase-phase.ensures)
    (c.goes_on_waiting.ensures ∙ ap (λ seen. wait_goes c.args.call c.args.core seen c.args.core.phase)
    (c.wait_sees-seen.ensures ∙ ap (λ n. wait_sees m.word (nat_lt 0 n) c.phase-phase.result) (c.len.ensures ∙ counted)
    ∙ ap (wait_sees m.word (nat_lt 0 (length c.move_in_list.new.queue.items))) c.phase-phase.ensures))
    (c.move_in_list.ensures.items ∙ ap (λ p. queue_after_wait c.args.thread p m.queue) c.phase-phase.ensures)
    (c.inside_after_wait-self-inside.ensures ∙ ap (λ p. inside_after_wait c.args.thread p m.inside)
    c.phase-phase.ensures)
    (c.beside_after_wait-self-inside.ensures ∙ ap (λ p. beside_after_wait p m.beside) c.phase-phase.ensures)
    ∙ ap (λ (x : State). stepped x c.args.thread c.args.call) c.self.view_is

pub invariant_of-self : goal.invariant_of-self
invariant_of-self g c =
    let m : State = record {
      word = c.self.inside.word;
      calls = c.self.inside.calls.items;
      queue = c.self.inside.queue.items;
      inside = c.self.inside.inside;
      beside = c.self.inside.beside;
    } in (
      subst Fits (sym (returns g c ∙ sym (ap (λ (x : State). stepped x c.args.thread c.args.call) c.self.view_is)))
          (step_made m c.args.thread c.args.call c.self.invariant.0
          (held c.args.thread c.args.call c.self.view_is c.requires.here)
          (may_so c.args.call c.self.view_is c.requires.may)).fits,
      subst (λ r. length (slice_set m.calls c.args.thread c.goes_on_waiting.result) ≤ r)
          (sym c.move_in_list.ensures.room)
          (room_set m.calls c.args.thread c.goes_on_waiting.result (vec_capacity c.self.inside.queue)
          c.self.invariant.1),
    )
