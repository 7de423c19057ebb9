use Rattle.std.proofs.Common.{◌≡◌, ◌∙◌, sym, ap, subst, Option}
use Rattle.std.specs.Option.{IsSome}
use Rattle.parking_lot_core_model.specs.declared.place.Section.{Section}
use Rattle.parking_lot_core_model.specs.Machine.{Machine, machine, taken}
use Rattle.parking_lot_core_model.specs.Sound.{IsOpen}
use Rattle.parking_lot_core_model.proofs.Takings.{all_taken_none, taken_front}
use Rattle.parking_lot_core_model.proofs.lot.Lot.take_all.Goals as goal

pub loop-nth-init : goal.loop-nth-init
loop-nth-init g c = all_taken_none (machine c.args.self.now) c.args.key

pub take_out-requires : goal.take_out-requires
take_out-requires g c = subst (λ (m : Machine). IsOpen m c.args.key) (sym c.loop-nth.invariant) c.requires

pub loop-nth-preserved : goal.loop-nth-preserved
loop-nth-preserved g c = c.take_out.ensures.taken
    ∙ (ap (λ (m : Machine). taken m c.args.key 0) c.loop-nth.invariant ∙ taken_front (machine c.args.self.now)
    c.args.key c.loop-nth.nth)
