use Rattle.parking_lot_core.specs.Waits.{fits, without, found}
use Rattle.parking_lot_core.specs.Lines.{waits}
use Rattle.parking_lot_core.proofs.Apart.{apart_left, often_without}
use Rattle.parking_lot_core.proofs.bucket.Bucket.take_first.Goals as goal

pub invariant_of-self-clause-apart : goal.invariant_of-self-clause-apart
invariant_of-self-clause-apart g c =
    let xs = waits c.args.self.now.line in
    let p = fits c.args.wanted in
    apart_left xs (waits c.take_first.new.self) (without p xs) (found p xs) c.args.self.now.apart
    c.take_first.ensures.left (λ t. often_without t p xs)
