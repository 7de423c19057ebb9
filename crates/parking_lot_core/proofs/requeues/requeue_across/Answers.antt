use Rattle.std.proofs.Common.{◌≡◌, ◌∙◌, ◌==◌, sym, refl, rules, subst, length, true, false, ℕ}
use Rattle.std.proofs.lemmas.Bool.{ne_eqb}
use Rattle.std.specs.Sync.Mutex.{mutex_guard_value}
use Rattle.parking_lot_core_model.specs.Machine.{Machine}
use Rattle.parking_lot_core_model.specs.Operations.{is_abort}
use Rattle.parking_lot_core.specs.declared.chain.Wanted.TheVariants.{Key}
use Rattle.parking_lot_core.specs.Shared.{HasBoth, WasHeld}
use Rattle.parking_lot_core.specs.Waits.{any, fits, meet}
use Rattle.parking_lot_core.specs.Lines.{waits}
use Rattle.parking_lot_core.proofs.Requeued.{apart_alone, apart_met}
use Rattle.parking_lot_core.proofs.Crossing.{nothing_is_sent, some_are_sent}
use Rattle.parking_lot_core.proofs.requeues.requeue_across.Goals as goal

pub returns-then-is_abort-clause-done : goal.returns-then-is_abort-clause-done
returns-then-is_abort-clause-done g c =
    let source = mutex_guard_value c.kept_as_found-source.result.0 in
    let target = mutex_guard_value c.kept_as_found-target.result.0 in
    let xs = waits source.line in
    let ys = waits target.line in
    let keys : (c.args.key_from == c.args.key_to) ≡ false =
    ne_eqb c.args.key_from c.args.key_to c.if-key_from-key_to.false in
    let there : waits c.kept_as_found-source.result.1.bucket.value.line ≡ xs = search rules in
    let aimed : waits c.kept_as_found-target.result.1.bucket.value.line ≡ ys = search rules in
    let held : (old new : Machine) (f t shift : ℕ) → HasBoth f t shift xs xs ys ys old new → WasHeld old new =
    λ old new f t shift both. c.give_both_back.ensures old new f t shift
    (subst (λ ws. HasBoth f t shift ws xs (waits c.kept_as_found-target.result.1.bucket.value.line) ys old new)
    (sym there)
    (subst (λ ws. HasBoth f t shift xs xs ws ys old new) (sym aimed) both)) in
    let stops : is_abort c.validate-op.result ≡ true = sym c.is_abort.ensures ∙ c.if-is_abort.true in
    nothing_is_sent c.args.key_from c.args.key_to keys xs ys source.apart target.apart
    (λ op. goal.V-post g c.args.validate op) (λ op told token. goal.C-post g c.args.callback op told token)
    c.validate-op.result c.validate-op.ensures xs ys held c.default.result stops c.default.ensures refl refl

pub join_all-requires : goal.join_all-requires
join_all-requires g c =
    let xs = waits c.deref_mut.result.now.line in
    let ys = waits c.deref_mut-2.result.now.line in
    let moved = c.pull-woken.result.1 in
    let none : meet moved ys ≡ false = search rules in
    apart_met moved ys none
    (apart_alone c.validate-op.result c.args.key_from xs moved c.deref_mut.result.now.apart c.pull-woken.ensures.moved)
    c.deref_mut-2.result.now.apart

pub returns-clause-done : goal.returns-clause-done
returns-clause-done g c =
    let xs = waits c.deref_mut.result.now.line in
    let ys = waits c.deref_mut-2.result.now.line in
    let left = waits c.pull-woken.new.bucket.line in
    let joined = waits c.join_all.new.self.line in
    let woken = c.pull-woken.result.0 in
    let moved = c.pull-woken.result.1 in
    let keys : (c.args.key_from == c.args.key_to) ≡ false =
    ne_eqb c.args.key_from c.args.key_to c.if-key_from-key_to.false in
    let there : waits c.kept_as_found-source.result.1.bucket.value.line ≡ xs = search rules in
    let aimed : waits c.kept_as_found-target.result.1.bucket.value.line ≡ ys = search rules in
    let held : (old new : Machine) (f t shift : ℕ) → HasBoth f t shift xs left ys joined old new → WasHeld old new =
    λ old new f t shift both. c.give_both_back-2.ensures old new f t shift
    (subst (λ ws. HasBoth f t shift ws left (waits c.kept_as_found-target.result.1.bucket.value.line) joined old new)
    (sym there) (subst (λ ws. HasBoth f t shift xs left ws joined old new) (sym aimed) both)) in
    let goes : is_abort c.validate-op.result ≡ false = sym c.is_abort.ensures ∙ c.if-is_abort.false in
    let is : c.outcome-result.result ≡ record {
      unparked_threads = length woken;
      requeued_threads = length moved;
      have_more_threads = any (fits (Key c.args.key_from)) left;
      be_fair = false;
    } = search rules in
    some_are_sent c.args.key_from c.args.key_to keys xs ys c.deref_mut.result.now.apart c.deref_mut-2.result.now.apart
    (λ op. goal.V-post g c.args.validate op) (λ op told token. goal.C-post g c.args.callback op told token)
    c.validate-op.result c.validate-op.ensures left joined held woken moved c.outcome-result.result
    c.callback-token.result goes c.pull-woken.ensures.left c.pull-woken.ensures.woken c.pull-woken.ensures.moved
    c.join_all.ensures is c.callback-token.ensures
