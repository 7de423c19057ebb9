use Rattle.std.proofs.Common.{◌≡◌, ◌∙◌, ◌++◌, sym, refl, rules, length, true, false}
use Rattle.std.specs.Sync.Mutex.{mutex_guard_value}
use Rattle.parking_lot_core_model.specs.Operations.{is_abort}
use Rattle.parking_lot_core.specs.declared.chain.Wanted.TheVariants.{Key}
use Rattle.parking_lot_core.specs.Waits.{any, fits, under, rest_of}
use Rattle.parking_lot_core.specs.Lines.{waits}
use Rattle.parking_lot_core.proofs.Moves.{Held}
use Rattle.parking_lot_core.proofs.Requeued.{nothing_is_requeued, some_are_requeued, apart_moved}
use Rattle.parking_lot_core.proofs.requeues.requeue_within.Goals as goal

pub returns-then-is_abort-clause-done : goal.returns-then-is_abort-clause-done
returns-then-is_abort-clause-done g c =
    let bucket = mutex_guard_value c.kept_as_found-bucket.result.0 in
    let xs = waits bucket.line in
    let held : Held xs xs = search rules in
    let stops : is_abort c.validate-op.result ≡ true = sym c.is_abort.ensures ∙ c.if-is_abort.true in
    nothing_is_requeued (λ op. goal.V-post g c.args.validate op)
    (λ op told token. goal.C-post g c.args.callback op told token) c.args.key_from c.args.key_to c.validate-op.result
    c.validate-op.ensures xs xs bucket.apart held c.default.result stops c.default.ensures refl

pub join_all-requires : goal.join_all-requires
join_all-requires g c =
    let xs = waits c.deref_mut.result.now.line in
    let left = waits c.deref_mut-2.result.now.line in
    let l : left ≡ rest_of c.validate-op.result c.args.key_from xs = search rules in
    apart_moved c.validate-op.result c.args.key_from xs left c.pull-woken.result.1
    c.deref_mut.result.now.apart l
    c.pull-woken.ensures.moved

pub returns-clause-done : goal.returns-clause-done
returns-clause-done g c =
    let xs = waits c.deref_mut.result.now.line in
    let rest = waits c.pull-woken.new.bucket.line in
    let left = waits c.join_all.new.self.line in
    let woken = c.pull-woken.result.0 in
    let moved = c.pull-woken.result.1 in
    let held : Held xs left = search rules in
    let goes : is_abort c.validate-op.result ≡ false = sym c.is_abort.ensures ∙ c.if-is_abort.false in
    let l : left ≡ rest ++ under c.args.key_to moved = search rules in
    let is : c.outcome-result.result ≡ record {
      unparked_threads = length woken;
      requeued_threads = length moved;
      have_more_threads = any (fits (Key c.args.key_from)) rest;
      be_fair = false;
    } = search rules in
    some_are_requeued (λ op. goal.V-post g c.args.validate op)
    (λ op told token. goal.C-post g c.args.callback op told token) c.args.key_from c.args.key_to c.validate-op.result
    c.validate-op.ensures xs left c.deref_mut.result.now.apart held rest woken moved c.outcome-result.result
    c.callback-token.result goes c.pull-woken.ensures.left c.pull-woken.ensures.woken c.pull-woken.ensures.moved l is
    c.callback-token.ensures
