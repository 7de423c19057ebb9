use Rattle.std.proofs.Common.{◌++◌, ◌∷◌, [], length, sym, ap, ◌∙◌, arith}
use Rattle.std.specs.Prelude.{vec_capacity}
use Rattle.std.proofs.lemmas.List.{length_push}
use Rattle.parking_lot_world.proofs.Listing.{those_more, those_same}
use Rattle.parking_lot_world.specs.Worlds.{is_indebted}
use Rattle.parking_lot_world.proofs.world.World.debts.Goals.{then-is_in_debt, else-is_in_debt}
use Rattle.parking_lot_world.proofs.world.World.debts.Goals as goal

pub loop-thread-preserved : goal.loop-thread-preserved
loop-thread-preserved g c =
    let t = c.loop-thread.thread in
    let f = is_indebted c.args.self.now in
    elim c.if-is_in_debt.branch [
      | then-is_in_debt w ↦ record {
        listed = ap (λ v. v.items) w.debtors-is ∙ w.push_reserved.ensures.items
            ∙ ap (λ xs. xs ++ t ∷ []) c.loop-thread.invariant.listed
            ∙ those_more f t (sym (c.is_in_debt.ensures) ∙ w.if-is_in_debt.true);
        few = omega (
          arith,
          c.loop-thread.invariant.few,
          ap (λ v. length v.items) w.debtors-is,
          ap length w.push_reserved.ensures.items,
          length_push c.loop-thread.debtors.items t,
        );
        room = omega (
          arith,
          c.loop-thread.invariant.room,
          ap vec_capacity w.debtors-is,
          w.push_reserved.ensures.capacity,
        );
      }
      | else-is_in_debt w ↦ record {
        listed = ap (λ v. v.items) w.debtors-is ∙ c.loop-thread.invariant.listed
            ∙ those_same f t (sym (c.is_in_debt.ensures) ∙ w.if-is_in_debt.false);
        few = omega (arith, c.loop-thread.invariant.few, ap (λ v. length v.items) w.debtors-is);
        room = omega (arith, c.loop-thread.invariant.room, ap vec_capacity w.debtors-is);
      }
    ]
