use Rattle.std.proofs.Common.{◌≡◌, true, refl, subst, sym}
use Rattle.parking_lot_machine_waits.specs.JointMoves.{may_expire}
use Rattle.parking_lot_world.specs.Worlds.{Shown}
use Rattle.parking_lot_world.proofs.Busy.{expires_busy}
use Rattle.parking_lot_world.proofs.Whole.{late_whole}
use Rattle.parking_lot_world.proofs.world.World.expire.Goals as goal

pub invariant_of-self : goal.invariant_of-self
invariant_of-self g c =
    let w : Shown = record {
      kinds = c.self.inside.kinds.items;
      waits = c.self.inside.waits;
      onces = c.self.inside.onces;
      answers = c.self.inside.answers.items;
    } in
    let may = subst (λ (x : Shown). may_expire x.waits c.args.thread ≡ true) (sym c.self.view_is) c.requires.allowed in
    late_whole w (record w { waits = c.deadline.new.self }) c.self.invariant c.known.ensures.whole c.known.ensures.parts
    c.args.thread refl may (c.self.invariant.apart c.args.thread (expires_busy w.waits c.args.thread may))
    (c.deadline.ensures, refl, refl)
