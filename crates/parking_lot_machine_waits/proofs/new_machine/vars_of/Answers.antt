use Rattle.std.proofs.Common.{◌++◌, ◌∷◌, [], false, length, map, take, get_or, sym, ap, ◌∙◌, arith, subst}
use Rattle.std.proofs.lemmas.List.{length_push, take_more, map-append}
use Rattle.parking_lot_machine_waits.specs.JointSteps.{AreKnown, var_of}
use Rattle.parking_lot_machine_waits.proofs.NewWhole.{known_more}
use Rattle.parking_lot_machine_waits.proofs.new_machine.vars_of.Goals as goal

pub loop-is_variable-preserved : goal.loop-is_variable-preserved
loop-is_variable-preserved g c =
    let i = c.loop-is_variable.is_variable-index in
    let bs = c.args.variables.now in
    let b = get_or bs i false in
    record {
      listed = c.push_reserved.ensures.items ∙ ap (λ r. c.loop-is_variable.vars.items ++ r ∷ [])
          c.in_ok-place.ensures.ok ∙ ap (λ xs. xs ++ var_of c.args.threads b ∷ []) c.loop-is_variable.invariant.listed
          ∙ sym (map-append (var_of c.args.threads) (take i bs) (b ∷ []))
          ∙ ap (map (var_of c.args.threads)) (sym (take_more bs i false c.loop-is_variable-test.true));
      known = subst AreKnown (sym c.push_reserved.ensures.items)
          (known_more c.loop-is_variable.vars.items c.in_ok-place.place c.loop-is_variable.invariant.known
          c.in_ok-place.ensures.known);
      few = omega (
        arith,
        c.loop-is_variable.invariant.few,
        ap length c.push_reserved.ensures.items,
        length_push c.loop-is_variable.vars.items c.in_ok-place.place,
      );
      room = omega (arith, c.loop-is_variable.invariant.room, c.push_reserved.ensures.capacity);
    }
