use Rattle.std.proofs.Common.{◌≡◌, ◌≤◌, ◌∙◌, ◌++◌, ap, rules, subst, sym, length}
use Rattle.parking_lot_core_model.specs.declared.parking.UnparkResult.{UnparkResult}
use Rattle.parking_lot_core.specs.declared.chain.Wanted.TheVariants.{Key}
use Rattle.parking_lot_core.specs.Waits.{any, fits, found}
use Rattle.parking_lot_core.specs.Lines.{waits}
use Rattle.parking_lot_core.proofs.Waiters.{found_few}
use Rattle.parking_lot_core.proofs.Moves.{Held, one_is_unparked}
use Rattle.parking_lot_core.proofs.parking_calls.unpark_first.Goals as goal

pub returns-clause-one : goal.returns-clause-one
returns-clause-one g c =
    let xs = waits c.deref_mut.result.now.line in
    let to = c.take_first.ensures.to ∙ ap (λ ys. found (fits (Key c.args.key)) xs ++ ys) c.new-taken.ensures in
    let few = found_few (fits (Key c.args.key)) xs in
    let short : length c.take_first.new.to ≤ 1 =
    subst (λ ys. length ys ≤ 1) (sym to) few in
    subst (λ (r : UnparkResult). r.unparked_threads ≤ 1) (sym c.outcome-result.ensures) short

pub returns-clause-done : goal.returns-clause-done
returns-clause-done g c =
    let xs = waits c.deref_mut.result.now.line in
    let left = waits c.take_first.new.self.line in
    let held : Held xs left = search rules in
    let is : c.outcome-result.result ≡ record {
      unparked_threads = length c.take_first.new.to;
      requeued_threads = 0;
      have_more_threads = any (fits (Key c.args.key)) left;
      be_fair = c.args.fair;
    } = search rules in
    let to = c.take_first.ensures.to ∙ ap (λ ys. found (fits (Key c.args.key)) xs ++ ys) c.new-taken.ensures in
    one_is_unparked xs left c.deref_mut.result.now.apart held c.args.key
    (λ told token. goal.C-post g c.args.callback told token) c.args.fair c.take_first.new.to
    c.outcome-result.result c.callback-token.result c.take_first.ensures.left to is
    c.callback-token.ensures
