use Rattle.std.proofs.Common.{◌∙◌, sym, ap, [], ◌++◌}
use Rattle.std.proofs.lemmas.List.{append-nil}
use Rattle.parking_lot_core.specs.declared.chain.Wanted.TheVariants.{Key}
use Rattle.parking_lot_core.specs.Waits.{fits, onto, every, found, moved_of}
use Rattle.parking_lot_core.specs.Lines.{waits}
use Rattle.parking_lot_core.proofs.Queues.{in_order}
use Rattle.parking_lot_core.proofs.Waiters.{onto_found}
use Rattle.parking_lot_core.proofs.requeues.take_for.Goals as goal

pub returns-in-UnparkOneRequeueRest-clause-moved : goal.returns-in-UnparkOneRequeueRest-clause-moved
returns-in-UnparkOneRequeueRest-clause-moved g c =
    let xs = waits c.args.bucket.now.line in
    let p = fits (Key c.args.key) in
    ap (λ ys. onto ys []) (c.take_all.ensures.to ∙ ap (onto (every p (waits c.take_first.new.self.line))) c.requires.1)
    ∙ (in_order (every p (waits c.take_first.new.self.line)) ∙ (ap (every p) c.take_first.ensures.left
    ∙ ap (λ o. moved_of o c.args.key xs) (sym c.in-UnparkOneRequeueRest.is)))

pub returns-in-RequeueAll-clause-moved : goal.returns-in-RequeueAll-clause-moved
returns-in-RequeueAll-clause-moved g c =
    let xs = waits c.args.bucket.now.line in
    let p = fits (Key c.args.key) in
    ap (λ ys. onto ys []) (c.take_all-in-RequeueAll.ensures.to ∙ ap (onto (every p xs)) c.requires.1)
    ∙ (in_order (every p xs) ∙ ap (λ o. moved_of o c.args.key xs) (sym c.in-RequeueAll.is))

pub returns-in-RequeueOne-clause-moved : goal.returns-in-RequeueOne-clause-moved
returns-in-RequeueOne-clause-moved g c =
    let xs = waits c.args.bucket.now.line in
    let p = fits (Key c.args.key) in
    ap (λ ys. onto ys []) (c.take_first-in-RequeueOne.ensures.to ∙ (ap (λ ys. found p xs ++ ys) c.requires.1
    ∙ append-nil (found p xs)))
    ∙ (onto_found p xs ∙ ap (λ o. moved_of o c.args.key xs) (sym c.in-RequeueOne.is))
