use Rattle.std.proofs.Common.{◌≡◌, ◌∙◌, ap, rules, subst, length}
use Rattle.parking_lot_core.specs.declared.chain.Wanted.TheVariants.{Key}
use Rattle.parking_lot_core.specs.Waits.{any, fits, onto, picked}
use Rattle.parking_lot_core.specs.Lines.{waits}
use Rattle.parking_lot_core.proofs.Moves.{Held, some_are_unparked, some_are_counted}
use Rattle.parking_lot_core.proofs.parking_calls.unpark_filter.Goals as goal

pub returns-clause-shown : goal.returns-clause-shown
returns-clause-shown g c =
    let xs = waits c.deref_mut-2.result.now.line in
    let left = waits c.sift.new.self.line in
    let first : waits c.deref_mut.result.now.line ≡ xs = search rules in
    let held-first : Held (waits c.deref_mut.result.now.line) left = search rules in
    let held : Held xs left = subst (λ ys. Held ys left) first held-first in
    let is : c.outcome-result.result ≡ record {
      unparked_threads = length c.sift.new.to;
      requeued_threads = 0;
      have_more_threads = any (fits (Key c.args.key)) left;
      be_fair = c.turn-fair.result;
    } = search rules in
    let s = c.sift.ensures in
    some_are_counted xs left c.deref_mut-2.result.now.apart held c.args.key
    (λ filter token op left. goal.F-step g filter token op left) c.args.filter c.turn-fair.result c.sift.new.to
    c.outcome-result.result is
    (s.0, s.1, s.2, s.3, s.4 ∙ ap (onto (picked c.args.key s.0 xs)) c.new-taken.ensures)

pub returns-clause-done : goal.returns-clause-done
returns-clause-done g c =
    let xs = waits c.deref_mut-2.result.now.line in
    let left = waits c.sift.new.self.line in
    let first : waits c.deref_mut.result.now.line ≡ xs = search rules in
    let held-first : Held (waits c.deref_mut.result.now.line) left = search rules in
    let held : Held xs left = subst (λ ys. Held ys left) first held-first in
    let is : c.outcome-result.result ≡ record {
      unparked_threads = length c.sift.new.to;
      requeued_threads = 0;
      have_more_threads = any (fits (Key c.args.key)) left;
      be_fair = c.turn-fair.result;
    } = search rules in
    let s = c.sift.ensures in (
      c.turn-fair.result,
      some_are_unparked xs left c.deref_mut-2.result.now.apart held c.args.key
          (λ filter token op left. goal.F-step g filter token op left) c.args.filter c.turn-fair.result
          c.sift.new.to c.outcome-result.result is
          (s.0, s.1, s.2, s.3, s.4 ∙ ap (onto (picked c.args.key s.0 xs)) c.new-taken.ensures)
          (λ told token. goal.C-post g c.args.callback told token) c.callback-token.result c.callback-token.ensures,
    )
