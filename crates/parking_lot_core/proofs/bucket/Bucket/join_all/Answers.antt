use Rattle.parking_lot_core.specs.Lines.{waits}
use Rattle.parking_lot_core.proofs.Apart.{apart_under}
use Rattle.parking_lot_core.proofs.bucket.Bucket.join_all.Goals as goal

pub invariant_of-self-clause-apart : goal.invariant_of-self-clause-apart
invariant_of-self-clause-apart g c =
    apart_under c.args.key (waits c.args.self.now.line) c.args.chain.now (waits c.join_all.new.self) c.requires
    c.join_all.ensures
