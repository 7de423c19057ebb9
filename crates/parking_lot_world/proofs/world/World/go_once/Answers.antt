use Rattle.std.proofs.Common.{◌≡◌, None, Some, true, ap, refl, slice_set, subst, sym}
use Rattle.parking_lot_world.specs.Worlds.{Shown, is_in_once, may_go}
use Rattle.parking_lot_world.proofs.Whole.{gone_whole}
use Rattle.parking_lot_world.proofs.world.World.go_once.Goals as goal

pub invariant_of-self : goal.invariant_of-self
invariant_of-self g c =
    let w : Shown = record {
      kinds = c.self.inside.kinds.items;
      waits = c.self.inside.waits;
      onces = c.self.inside.onces;
      answers = c.self.inside.answers.items;
    } in
    gone_whole w (record w
    { onces = c.step.new.self; answers = slice_set w.answers c.args.thread (Some c.of_reply.result) })
    c.self.invariant c.known.ensures.whole c.known.ensures.parts c.args.thread refl c.args.fair true
    (subst (λ (x : Shown). is_in_once x c.args.thread ≡ true) (sym c.self.view_is) c.requires.there)
    (subst (λ (x : Shown). may_go x c.args.thread ≡ true) (sym c.self.view_is) c.requires.allowed) (
      Some c.in-Some.reply,
      c.in-Some.ensures,
      refl,
      ap (λ a. slice_set w.answers c.args.thread (Some a))
          c.of_reply.ensures,
    )

pub invariant_of-self-in_default : goal.invariant_of-self-in_default
invariant_of-self-in_default g c =
    let w : Shown = record {
      kinds = c.self.inside.kinds.items;
      waits = c.self.inside.waits;
      onces = c.self.inside.onces;
      answers = c.self.inside.answers.items;
    } in
    gone_whole w (record w { onces = c.step.new.self }) c.self.invariant c.known.ensures.whole c.known.ensures.parts
    c.args.thread refl c.args.fair true
    (subst (λ (x : Shown). is_in_once x c.args.thread ≡ true) (sym c.self.view_is) c.requires.there)
    (subst (λ (x : Shown). may_go x c.args.thread ≡ true) (sym c.self.view_is) c.requires.allowed)
    (None, c.in_default.ensures, refl, refl)
