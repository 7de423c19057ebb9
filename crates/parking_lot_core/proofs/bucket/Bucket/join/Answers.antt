use Rattle.parking_lot_core.specs.Lines.{waits}
use Rattle.parking_lot_core.proofs.Apart.{apart_tried}
use Rattle.parking_lot_core.proofs.bucket.Bucket.join.Goals as goal

pub invariant_of-self-clause-apart : goal.invariant_of-self-clause-apart
invariant_of-self-clause-apart g c =
    apart_tried (waits c.args.self.now.line) (waits c.join.new.self) c.args.waiting c.join.result c.args.self.now.apart
    c.requires c.join.ensures.joined c.join.ensures.none
