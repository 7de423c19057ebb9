use Rattle.std.proofs.Common.{◌++◌, ◌∷◌, [], length, map, take, slice_index_or, sym, ap, ◌∙◌, arith}
use Rattle.std.proofs.lemmas.List.{length_push, take_more, take_all, map-append}
use Rattle.parking_lot_machine_waits.specs.Joint.{thread_of}
use Rattle.parking_lot_machine_waits.proofs.machines.Machines.threads_of.Goals as goal

pub loop-number-init : goal.loop-number-init
loop-number-init g c =
    record {
      listed = c.in_ok-threads.ensures.items;
      few = omega (arith, ap length c.in_ok-threads.ensures.items);
      room = omega (arith, c.in_ok-threads.ensures.capacity);
    }

pub push_reserved-requires : goal.push_reserved-requires
push_reserved-requires g c =
    omega (
      arith,
      c.loop-number.invariant.few,
      c.loop-number.invariant.room,
      c.loop-number-test.true,
      c.loop-number.threads.ok.0,
    )

pub loop-number-preserved : goal.loop-number-preserved
loop-number-preserved g c =
    let i = c.loop-number.number-index in
    let ns = c.args.numbers.now in
    let f = thread_of c.args.self.now in
    record {
      listed = c.push_reserved.ensures.items ∙ ap (λ r. c.loop-number.threads.items ++ r ∷ []) c.thread_of.ensures
          ∙ ap (λ xs. xs ++ f (slice_index_or ns i 0) ∷ []) c.loop-number.invariant.listed
          ∙ sym (map-append f (take i ns) (slice_index_or ns i 0 ∷ []))
          ∙ ap (map f) (sym (take_more ns i 0 c.loop-number-test.true));
      few = omega (
        arith,
        c.loop-number.invariant.few,
        ap length c.push_reserved.ensures.items,
        length_push c.loop-number.threads.items c.thread_of.result,
      );
      room = omega (arith, c.loop-number.invariant.room, c.push_reserved.ensures.capacity);
    }

pub returns-clause-ok : goal.returns-clause-ok
returns-clause-ok g c = c.loop-number.invariant.listed
    ∙ ap (map (thread_of c.args.self.now))
    (take_all c.loop-number.number-index c.args.numbers.now (omega (arith, c.loop-number-test.false)))
