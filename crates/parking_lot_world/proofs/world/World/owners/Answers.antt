use Rattle.std.proofs.Common.{◌++◌, ◌∷◌, [], length, sym, ap, ◌∙◌, arith}
use Rattle.std.specs.Prelude.{vec_capacity}
use Rattle.std.proofs.lemmas.List.{length_push}
use Rattle.parking_lot_world.proofs.Listing.{owner_more, owner_same}
use Rattle.parking_lot_world.specs.Worlds.{mode_at}
use Rattle.parking_lot_world.proofs.world.World.owners.Goals.{in-Some, in_default}
use Rattle.parking_lot_world.proofs.world.World.owners.Goals as goal

pub loop-thread-preserved : goal.loop-thread-preserved
loop-thread-preserved g c =
    let t = c.loop-thread.thread in
    let f = mode_at c.args.self.now c.args.lock in
    elim c.match-owner.branch [
      | in-Some w ↦ record {
        listed = ap (λ v. v.items) w.owners-is ∙ w.push_reserved.ensures.items
            ∙ ap (λ xs. xs ++ (t, w.in-Some.mode) ∷ []) c.loop-thread.invariant.listed
            ∙ owner_more f t w.in-Some.mode (sym (c.owner.ensures) ∙ w.in-Some.is);
        few = omega (
          arith,
          c.loop-thread.invariant.few,
          ap (λ v. length v.items) w.owners-is,
          ap length w.push_reserved.ensures.items,
          length_push c.loop-thread.owners.items (t, w.in-Some.mode),
        );
        room = omega (
          arith,
          c.loop-thread.invariant.room,
          ap vec_capacity w.owners-is,
          w.push_reserved.ensures.capacity,
        );
      }
      | in_default w ↦ record {
        listed = ap (λ v. v.items) w.owners-is ∙ c.loop-thread.invariant.listed
            ∙ owner_same f t (sym (c.owner.ensures) ∙ w.in_default.is);
        few = omega (arith, c.loop-thread.invariant.few, ap (λ v. length v.items) w.owners-is);
        room = omega (arith, c.loop-thread.invariant.room, ap vec_capacity w.owners-is);
      }
    ]
