use Rattle.std.proofs.Common.{◌≡◌, ◌∙◌, ◌<◌, length, sym, ap, arith}
use Rattle.parking_lot_core_model.specs.Machine.{Machine, machine, moved_first, open_at}
use Rattle.parking_lot_core_model.proofs.Moving.{moved_none, moved_more, nth_of}
use Rattle.parking_lot_core_model.proofs.lot.Lot.move_all.Goals as goal

pub loop-nth-init : goal.loop-nth-init
loop-nth-init g c = moved_none (machine c.args.self.now) c.args.from c.args.to

pub loop-nth-preserved : goal.loop-nth-preserved
loop-nth-preserved g c =
    let m = machine c.args.self.now in
    let w = nth_of (m.queues c.args.from) c.loop-nth.nth (omega arith) in
    c.move_first.ensures
    ∙ (ap (λ (x : Machine). moved_first x c.args.from c.args.to) c.loop-nth.invariant
    ∙ moved_more m c.args.from c.args.to c.loop-nth.nth w.0 w.1)

pub move_first-requires : goal.move_first-requires
move_first-requires g c = λ s at. c.requires.nobody s
    (ap (λ (m : Machine). open_at m c.args.from) (sym c.loop-nth.invariant) ∙ at)
