use Rattle.std.proofs.Common.{◌≡◌, None, true, refl, slice_set, subst, sym}
use Rattle.parking_lot_world.specs.declared.calls.Asked.{Asked}
use Rattle.parking_lot_world.specs.Worlds.{Shown, may_ask}
use Rattle.parking_lot_world.proofs.Whole.{asked_whole}
use Rattle.parking_lot_world.proofs.world.World.ask_once.Goals as goal

pub invariant_of-self : goal.invariant_of-self
invariant_of-self g c =
    let w : Shown = record {
      kinds = c.self.inside.kinds.items;
      waits = c.self.inside.waits;
      onces = c.self.inside.onces;
      answers = c.self.inside.answers.items;
    } in
    asked_whole w (record w { onces = c.begin.new.self; answers = slice_set w.answers c.args.thread None })
    c.self.invariant c.known.ensures.whole c.known.ensures.parts c.args.thread c.args.lock refl refl
    (Asked.OfOnce c.args.call)
    (subst (λ (x : Shown). may_ask x c.args.thread c.args.lock (Asked.OfOnce c.args.call) ≡ true) (sym c.self.view_is)
    c.requires.allowed) (c.begin.ensures, refl)
