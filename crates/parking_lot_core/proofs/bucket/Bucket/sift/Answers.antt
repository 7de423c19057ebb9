use Rattle.parking_lot_core.specs.Waits.{picked, kept}
use Rattle.parking_lot_core.specs.Lines.{waits}
use Rattle.parking_lot_core.proofs.Apart.{apart_left, often_kept}
use Rattle.parking_lot_core.proofs.bucket.Bucket.sift.Goals as goal

pub invariant_of-self-clause-apart : goal.invariant_of-self-clause-apart
invariant_of-self-clause-apart g c =
    let xs = waits c.args.self.now.line in
    let answers = c.sift.ensures.0 in
    apart_left xs (waits c.sift.new.self) (kept c.args.key answers xs) (picked c.args.key answers xs)
    c.args.self.now.apart c.sift.ensures.3 (λ t. often_kept t c.args.key answers xs)
