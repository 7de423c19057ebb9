use Rattle.std.proofs.Common.{◌≡◌, ◌∙◌, ◌++◌, [], ap, rules, sym, false, Bool}
use Rattle.std.specs.Sync.Mutex.{mutex_guard_value}
use Rattle.parking_lot_core_model.specs.declared.parking.UnparkResult.{UnparkResult}
use Rattle.parking_lot_core.specs.declared.chain.Wanted.TheVariants.{Key}
use Rattle.parking_lot_core.specs.Waits.{any, fits, without, found}
use Rattle.parking_lot_core.specs.Lines.{waits}
use Rattle.parking_lot_core.proofs.Moves.{Held, one_is_unparked}
use Rattle.parking_lot_core.proofs.parking_calls.unpark_nobody.Goals as goal

pub returns-clause-done : goal.returns-clause-done
returns-clause-done g c =
    let bucket = mutex_guard_value c.args.bucket in
    let xs = waits bucket.line in
    let p = fits (Key c.args.key) in
    let nobody : xs ≡ [] = c.requires.nobody in
    let held : Held xs xs = search rules in
    let said : Bool → UnparkResult = λ more. record {
      unparked_threads = 0;
      requeued_threads = 0;
      have_more_threads = more;
      be_fair = c.args.fair;
    } in
    one_is_unparked xs xs bucket.apart held c.args.key (λ told token. goal.C-post g c.args.callback told token)
    c.args.fair [] (said false) c.callback.result (nobody ∙ sym (ap (without p) nobody))
    (sym (ap (λ ys. found p ys ++ []) nobody)) (sym (ap (λ ys. said (any p ys)) nobody)) c.callback.ensures
