use Rattle.parking_lot_core.specs.Waits.{fits, every, others}
use Rattle.parking_lot_core.specs.Lines.{waits}
use Rattle.parking_lot_core.proofs.Apart.{apart_left, often_others}
use Rattle.parking_lot_core.proofs.bucket.Bucket.take_all.Goals as goal

pub invariant_of-self-clause-apart : goal.invariant_of-self-clause-apart
invariant_of-self-clause-apart g c =
    let xs = waits c.args.self.now.line in
    let p = fits c.args.wanted in
    apart_left xs (waits c.take_all.new.self) (others p xs) (every p xs) c.args.self.now.apart
    c.take_all.ensures.left (λ t. often_others t p xs)
