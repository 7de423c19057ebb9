use Rattle.std.proofs.Common.{◌≡◌, ◌≤◌, Some, slice_get, slice_set, sym, ap, ◌∙◌, subst, arith}
use Rattle.std.proofs.lemmas.List.{length-set}
use Rattle.std.specs.Option.{option_map}
use Rattle.std.specs.Prelude.{length, vec_capacity}
use Rattle.parking_lot_machine_sides.specs.Condvar.Calls.{off_list}
use Rattle.parking_lot_machine_sides.specs.Condvar.Fitting.{Fits}
use Rattle.parking_lot_machine_sides.specs.Condvar.Machines.{State, call_in, may_take}
use Rattle.parking_lot_machine_sides.proofs.CondvarFacts.Making.{held, its_first, low, took}
use Rattle.parking_lot_machine_sides.proofs.CondvarFacts.Slots.{room_set}
use Rattle.parking_lot_machine_sides.proofs.CondvarFacts.Stepping.{few_so, first_low, take_so}
use Rattle.parking_lot_machine_sides.proofs.condvar.condvar_machine.CondvarMachine.take.Goals as goal

pub index_mut-requires : goal.index_mut-requires
index_mut-requires g c =
    let m : State = record {
      word = c.self.inside.word;
      calls = c.self.inside.calls.items;
      queue = c.self.inside.queue.items;
      inside = c.self.inside.inside;
      beside = c.self.inside.beside;
    } in
    omega (
      arith,
      first_low m c.args.thread c.args.call c.self.invariant.0 c.remove-waiter.result
          (its_first m.queue c.remove-waiter.result
          (omega (arith, c.if-is_empty.false, c.is_empty.ensures, c.self.inside.queue.ok.0))
          c.remove-waiter.ensures.value),
      c.self.inside.calls.ok.0,
    )

pub took_one-requires : goal.took_one-requires
took_one-requires g c =
    let m : State = record {
      word = c.self.inside.word;
      calls = c.self.inside.calls.items;
      queue = c.self.inside.queue.items;
      inside = c.self.inside.inside;
      beside = c.self.inside.beside;
    } in
    record {
      few = few_so m c.args.thread c.args.call c.self.invariant.0
          (held c.args.thread c.args.call c.self.view_is c.requires.here)
          (ap (λ (x : State). may_take x.queue c.args.call) c.self.view_is ∙ c.requires.may);
    }

pub index_mut-requires-2 : goal.index_mut-requires-2
index_mut-requires-2 g c =
    omega (arith, low c.args.thread c.args.call c.self.view_is c.requires.here, c.self.inside.calls.ok.0)

pub invariant_of-self : goal.invariant_of-self
invariant_of-self g c =
    let m : State = record {
      word = c.self.inside.word;
      calls = c.self.inside.calls.items;
      queue = c.self.inside.queue.items;
      inside = c.self.inside.inside;
      beside = c.self.inside.beside;
    } in
    let v = c.remove-waiter.result in (
      subst Fits (sym (took m c.args.thread c.args.call v _ _ _
          (c.off_list.ensures
          ∙ ap (option_map off_list) (c.call_in.ensures ∙ ap (λ calls. call_in calls v) c.deref.ensures.value))
          c.took_one.ensures c.remove-waiter.ensures.items))
          (take_so m c.args.thread c.args.call c.self.invariant.0
          (held c.args.thread c.args.call c.self.view_is c.requires.here)
          (ap (λ (x : State). may_take x.queue c.args.call) c.self.view_is ∙ c.requires.may) v
          (its_first m.queue v (omega (arith, c.if-is_empty.false, c.is_empty.ensures, c.self.inside.queue.ok.0))
          c.remove-waiter.ensures.value)).0,
      subst (λ r. length (slice_set (slice_set m.calls v c.off_list.result) c.args.thread (Some c.took_one.result)) ≤ r)
          (sym c.remove-waiter.ensures.capacity)
          (room_set (slice_set m.calls v c.off_list.result) c.args.thread (Some c.took_one.result)
          (vec_capacity c.self.inside.queue)
          (room_set m.calls v c.off_list.result (vec_capacity c.self.inside.queue) c.self.invariant.1)),
    )
