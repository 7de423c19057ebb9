use Rattle.dashmap_parallel.specs.Visits.{VisitsBy}
use Rattle.dashmap_parallel.proofs.Cutting.{pieces-all, some-of}
use Rattle.dashmap_parallel.proofs.pieces.in_pieces.Goals as goal

pub returns : goal.returns
returns g c =
    pieces-all (VisitsBy g.F.Fn c.args.f.now) c.args.items.now _ c.requires.some
    (λ i lt. (c.for_each_mut.ensures i (some-of c.args.parties.now c.requires.some) lt).1.call)
