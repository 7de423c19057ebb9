use Rattle.std.proofs.Common.{◌∙◌, ap, rules}
use Rattle.parking_lot_core_model.specs.declared.parking.UnparkResult.{UnparkResult}
use Rattle.parking_lot_core.specs.declared.chain.Wanted.TheVariants.{Key}
use Rattle.parking_lot_core.specs.Waits.{fits, every, onto}
use Rattle.parking_lot_core.specs.Lines.{waits}
use Rattle.parking_lot_core.proofs.Moves.{Held, all_are_unparked}
use Rattle.parking_lot_core.proofs.parking_calls.unpark_all.Goals as goal

pub returns : goal.returns
returns g c =
    let xs = waits c.deref_mut.result.now.line in
    let left = waits c.take_all.new.self.line in
    let held : Held xs left = search rules in
    all_are_unparked xs left c.deref_mut.result.now.apart held c.args.key c.take_all.new.to
    c.outcome-result.result c.args.unpark_token c.take_all.ensures.left
    (c.take_all.ensures.to ∙ ap (onto (every (fits (Key c.args.key)) xs)) c.new-taken.ensures)
    (ap (λ (r : UnparkResult). r.unparked_threads) c.outcome-result.ensures)
