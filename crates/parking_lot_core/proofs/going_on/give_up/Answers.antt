use Rattle.std.proofs.Common.{◌≡◌, ◌∙◌, sym, rules, subst, true, ℕ, Bool, not}
use Rattle.parking_lot_core_model.specs.Machine.{Machine}
use Rattle.parking_lot_core.specs.declared.chain.Waiting.{Waiting}
use Rattle.parking_lot_core.specs.declared.chain.Wanted.TheVariants.{Key, Thread}
use Rattle.parking_lot_core.specs.Shared.{WasTold, WasHeld}
use Rattle.parking_lot_core.specs.Waits.{any, fits, without}
use Rattle.parking_lot_core.specs.Lines.{waits}
use Rattle.parking_lot_core.proofs.Waiters.{first_found}
use Rattle.parking_lot_core.proofs.Moves.{Held, one_goes_on, one_gives_up, seat}
use Rattle.parking_lot_core.proofs.going_on.give_up.Goals as goal

pub returns-then-not-has-clause-ended : goal.returns-then-not-has-clause-ended
returns-then-not-has-clause-ended g c =
    let tells : ℕ → Bool → Type 0 = λ key last. goal.T-post g c.args.timed_out key last tt in
    let held : (old new : Machine) → WasTold c.collect.result old new → WasHeld old new =
    λ old new told. c.collect.ensures.held old new (subst (λ k. WasTold k old new) c.collect.ensures.token told) in
    (0, one_goes_on tells c.args.thread c.collect.result held)

pub returns-clause-ended : goal.returns-clause-ended
returns-clause-ended g c =
    let tells : ℕ → Bool → Type 0 = λ key last. goal.T-post g c.args.timed_out key last tt in
    let t = c.args.thread in
    let xs = waits c.deref_mut.result.now.line in
    let left = waits c.take_first.new.self.line in
    let there : any (fits (Thread t)) xs ≡ true = search rules in
    let l : left ≡ without (fits (Thread t)) xs = c.take_first.ensures.left in
    let held : Held xs left = search rules in
    let apart = c.deref_mut.result.now.apart in
    let s = seat t xs left apart held there l in
    let first = c.in-Some.first in
    let same : first ≡ s.0 = first_found t xs c.args.node.now c.take_first.new.to s.0 first s.1
    c.take_first.ensures.to (sym c.head.ensures ∙ c.in-Some.is) in
    let has : c.has-2.result ≡ any (fits (Key first.key)) left = search rules in
    let told = subst (λ b. tells first.key (not b)) has c.timed_out.ensures in
    let told-there = subst (λ (x : Waiting). tells x.key (not (any (fits (Key x.key)) left))) same told in
    (s.0.key, one_gives_up t xs left apart held there l tells told-there)
