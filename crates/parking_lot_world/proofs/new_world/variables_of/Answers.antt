use Rattle.std.proofs.Common.{◌++◌, ◌∷◌, [], length, map, take, slice_index_or, sym, ap, ◌∙◌, arith}
use Rattle.std.proofs.lemmas.List.{length_push, take_more, take_all, map-append}
use Rattle.parking_lot_world.specs.declared.calls.LockKind.{LockKind}
use Rattle.parking_lot_world.specs.WorldCalls.{is_variable}
use Rattle.parking_lot_world.proofs.new_world.variables_of.Goals as goal

pub loop-kind-init : goal.loop-kind-init
loop-kind-init g c =
    record {
      listed = c.in_ok-variables.ensures.items;
      few = omega (arith, ap length c.in_ok-variables.ensures.items);
      room = omega (arith, c.in_ok-variables.ensures.capacity);
    }

pub push_reserved-requires : goal.push_reserved-requires
push_reserved-requires g c =
    omega (
      arith,
      c.loop-kind.invariant.few,
      c.loop-kind.invariant.room,
      c.loop-kind-test.true,
      c.loop-kind.variables.ok.0,
    )

pub loop-kind-preserved : goal.loop-kind-preserved
loop-kind-preserved g c =
    let i = c.loop-kind.kind-index in
    let ks = c.args.kinds.now in
    let k : LockKind = slice_index_or ks i LockKind.Mutex in
    record {
      listed = c.push_reserved.ensures.items ∙ ap (λ r. c.loop-kind.variables.items ++ r ∷ []) c.is_variable.ensures
          ∙ ap (λ xs. xs ++ is_variable k ∷ []) c.loop-kind.invariant.listed
          ∙ sym (map-append is_variable (take i ks) (k ∷ []))
          ∙ ap (map is_variable) (sym (take_more ks i LockKind.Mutex c.loop-kind-test.true));
      few = omega (
        arith,
        c.loop-kind.invariant.few,
        ap length c.push_reserved.ensures.items,
        length_push c.loop-kind.variables.items c.is_variable.result,
      );
      room = omega (arith, c.loop-kind.invariant.room, c.push_reserved.ensures.capacity);
    }

pub returns-clause-ok : goal.returns-clause-ok
returns-clause-ok g c = c.loop-kind.invariant.listed
    ∙ ap (map is_variable) (take_all c.loop-kind.kind-index c.args.kinds.now (omega (arith, c.loop-kind-test.false)))
