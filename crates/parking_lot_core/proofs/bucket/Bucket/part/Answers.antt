use Rattle.std.proofs.Common.{◌∙◌, ap, []}
use Rattle.parking_lot_core.specs.declared.chain.Wanted.TheVariants.{Within}
use Rattle.parking_lot_core.specs.Waits.{fits, every, others, onto}
use Rattle.parking_lot_core.specs.Lines.{waits}
use Rattle.parking_lot_core.proofs.Apart.{apart_taken, often_others}
use Rattle.parking_lot_core.proofs.Queues.{in_order}
use Rattle.parking_lot_core.proofs.bucket.Bucket.part.Goals as goal

pub invariant_of-result-2-clause-apart : goal.invariant_of-result-2-clause-apart
invariant_of-result-2-clause-apart g c =
    let xs = waits c.args.self.now.line in
    let p = fits (Within c.args.bucket c.args.count) in
    apart_taken xs (waits c.of.result) (others p xs) (every p xs) c.args.self.now.apart
    (c.of.ensures ∙ (ap (λ ys. onto ys []) (c.take_all.ensures.to ∙ ap (onto (every p xs)) c.new-high.ensures)
    ∙ in_order (every p xs)))
    (λ t. often_others t p xs)

pub returns-clause-high : goal.returns-clause-high
returns-clause-high g c =
    let xs = waits c.args.self.now.line in
    let p = fits (Within c.args.bucket c.args.count) in
    c.of.ensures ∙ (ap (λ ys. onto ys []) (c.take_all.ensures.to ∙ ap (onto (every p xs)) c.new-high.ensures)
    ∙ in_order (every p xs))
