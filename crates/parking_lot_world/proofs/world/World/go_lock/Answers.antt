use Rattle.std.proofs.Common.{◌≡◌, ◌∙◌, None, Some, false, true, ap, refl, slice_set, subst, sym}
use Rattle.parking_lot_world.specs.WorldCalls.{of_ended}
use Rattle.parking_lot_world.specs.Worlds.{Shown, is_in_once, may_go}
use Rattle.parking_lot_world.proofs.Whole.{gone_whole, waits_go}
use Rattle.parking_lot_world.proofs.world.World.go_lock.Goals as goal

pub step-requires : goal.step-requires
step-requires g c =
    let w : Shown = record {
      kinds = c.self.inside.kinds.items;
      waits = c.self.inside.waits;
      onces = c.self.inside.onces;
      answers = c.self.inside.answers.items;
    } in
    record {
      can = waits_go w c.args.thread
          (subst (λ (x : Shown). is_in_once x c.args.thread ≡ false) (sym c.self.view_is) c.requires.there)
          (subst (λ (x : Shown). may_go x c.args.thread ≡ true) (sym c.self.view_is) c.requires.allowed);
    }

pub invariant_of-self : goal.invariant_of-self
invariant_of-self g c =
    let w : Shown = record {
      kinds = c.self.inside.kinds.items;
      waits = c.self.inside.waits;
      onces = c.self.inside.onces;
      answers = c.self.inside.answers.items;
    } in
    gone_whole w (record w
    { waits = c.step.new.self; answers = slice_set w.answers c.args.thread (Some c.of_ended.result) })
    c.self.invariant c.known.ensures.whole c.known.ensures.parts c.args.thread refl c.args.fair false
    (subst (λ (x : Shown). is_in_once x c.args.thread ≡ false) (sym c.self.view_is) c.requires.there)
    (subst (λ (x : Shown). may_go x c.args.thread ≡ true) (sym c.self.view_is) c.requires.allowed) (
      Some c.in-Some.ended,
      c.in-Some.ensures,
      refl,
      ap (λ a. slice_set w.answers c.args.thread (Some a))
          (c.of_ended.ensures ∙ ap (λ o. of_ended o c.in-Some.ended) c.lock_call-call.ensures),
    )

pub invariant_of-self-in_default : goal.invariant_of-self-in_default
invariant_of-self-in_default g c =
    let w : Shown = record {
      kinds = c.self.inside.kinds.items;
      waits = c.self.inside.waits;
      onces = c.self.inside.onces;
      answers = c.self.inside.answers.items;
    } in
    gone_whole w (record w { waits = c.step.new.self }) c.self.invariant c.known.ensures.whole c.known.ensures.parts
    c.args.thread refl c.args.fair false
    (subst (λ (x : Shown). is_in_once x c.args.thread ≡ false) (sym c.self.view_is) c.requires.there)
    (subst (λ (x : Shown). may_go x c.args.thread ≡ true) (sym c.self.view_is) c.requires.allowed)
    (None, c.in_default.ensures, refl, refl)
