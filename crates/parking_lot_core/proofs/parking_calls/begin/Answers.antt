use Rattle.std.proofs.Common.{◌≡◌, ◌∙◌, sym, refl, rules, subst, true, false}
use Rattle.parking_lot_core.specs.declared.chain.Wanted.TheVariants.{Thread}
use Rattle.parking_lot_core.specs.Waits.{any, fits}
use Rattle.parking_lot_core.specs.Lines.{waits}
use Rattle.parking_lot_core.proofs.Moves.{Held, none_parks, one_parks}
use Rattle.parking_lot_core.proofs.parking_calls.begin.Goals as goal

pub returns-then-not-validate-clause-joined : goal.returns-then-not-validate-clause-joined
returns-then-not-validate-clause-joined g c =
    let xs = waits c.deref.result.now.line in
    let absent : any (fits (Thread c.args.waiting.waiter.thread)) xs ≡ false = sym c.has.ensures ∙ c.if-has.false in
    let no : c.validate.result ≡ false = search rules in
    let valid = subst (λ b. goal.V-post g c.args.validate b) no c.validate.ensures in
    let held : Held xs xs = search rules in
    none_parks xs xs c.deref.result.now.apart held c.args.waiting absent (λ b. goal.V-post g c.args.validate b)
    valid refl

pub returns-clause-joined : goal.returns-clause-joined
returns-clause-joined g c =
    let xs = waits c.deref_mut.result.now.line in
    let left = waits c.join.new.self.line in
    let absent : any (fits (Thread c.args.waiting.waiter.thread)) xs ≡ false = search rules in
    let yes : c.validate.result ≡ true = search rules in
    let valid = subst (λ b. goal.V-post g c.args.validate b) yes c.validate.ensures in
    let done : c.join.result ≡ true = search rules in
    let held : Held xs left = search rules in
    one_parks xs left c.deref_mut.result.now.apart held c.args.waiting absent (λ b. goal.V-post g c.args.validate
    b) valid
    (c.join.ensures.joined done)
