use Rattle.std.proofs.Common.{subst}
use Rattle.parking_lot_machine.specs.Rows.{state}
use Rattle.parking_lot_world.specs.WorldLaws.{IsSoundWorld}
use Rattle.parking_lot_world.specs.Worlds.{Shown}
use Rattle.parking_lot_world.proofs.Promising.{sound_world}
use Rattle.parking_lot_world.proofs.world.World.known.Goals as goal

pub returns : goal.returns
returns g c =
    let w : Shown = record {
      kinds = c.self.inside.kinds.items;
      waits = c.self.inside.waits;
      onces = c.self.inside.onces;
      answers = c.self.inside.answers.items;
    } in
    let s = state c.self.inside.waits.rows in
    let h = c.known.ensures.parts.rows in
    subst IsSoundWorld c.self.view_is
    (sound_world w c.self.invariant c.known.ensures.whole c.known.ensures.givers c.known.ensures.parts (record {
      owners = c.owners_agree.ensures s h;
      lists = c.lists_are_waiters.ensures s h;
      debts = c.debts_are_kept.ensures s h;
      awake = c.awake_can_move.ensures s h;
      moves = c.somebody_can_move.ensures s h;
      few = c.steps_are_few.ensures s h;
    }) c.known-2.ensures.promises c.somebody_inside_goes.ensures c.somebody_can_move-2.ensures c.steps_are_few-2.ensures
    c.known-2.ensures.fits)
