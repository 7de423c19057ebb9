use Rattle.std.proofs.Common.{ℕ, ◌+◌, ◌*◌, ◌%◌, ◌<◌, length, sym, ap, ◌∙◌, subst, arith}
use Rattle.parking_lot_core_model.specs.Machine.{Machine, machine}
use Rattle.parking_lot_machine_calls.specs.declared.open_call.Call.{Call}
use Rattle.parking_lot_machine.specs.Requeues.{IsTakenIn, MayJoin, lot_with, sleeping_call}
use Rattle.parking_lot_machine.specs.RowActs.{with_call, with_lot, with_word}
use Rattle.parking_lot_machine.specs.RowFits.{FitsTogether}
use Rattle.parking_lot_machine.specs.Rows.{Rows, State, first_key, state, word_at}
use Rattle.parking_lot_machine.proofs.Calling.{room_set}
use Rattle.parking_lot_machine.proofs.Holding.{fits}
use Rattle.parking_lot_machine.proofs.RequeueActs.{has_its_word, is_free, takes_in}
use Rattle.parking_lot_machine.proofs.RequeueLots.{may_join}
use Rattle.parking_lot_machine.proofs.RequeueMays.{rouses_by}
use Rattle.parking_lot_machine.proofs.row_machine.RowMachine.take_in.Goals as goal

pub join-requires : goal.join-requires
join-requires g c =
    let s : State = state c.args.self.now in
    let fit : FitsTogether s = fits c.self.view_is c.self.invariant.0 in
    let asked = rouses_by s c.args.waiter c.args.lock c.requires.may.may in
    let may = is_free s c.args.waiter c.args.lock fit asked.0 in
    record {
      may = subst (λ (m : Rows). MayJoin (machine m.lot) c.args.waiter (2 * c.args.lock)) (sym c.self.view_is)
          (may_join s c.args.waiter c.args.lock c.args.timed fit.lots may.low may.alone
          (has_its_word s c.args.waiter c.args.lock c.args.timed fit may.low may.alone may.kind may.owns asked.1)
          asked.1);
    }

pub index_mut-requires : goal.index_mut-requires
index_mut-requires g c =
    let s : State = state c.args.self.now in
    let fit : FitsTogether s = fits c.self.view_is c.self.invariant.0 in
    let asked = rouses_by s c.args.waiter c.args.lock c.requires.may.may in
    let may = is_free s c.args.waiter c.args.lock fit asked.0 in
    let low : c.args.lock < length c.self.inside.words.items =
    subst (λ (m : Rows). c.args.lock < length m.words) (sym c.self.view_is)
    (has_its_word s c.args.waiter c.args.lock c.args.timed fit may.low may.alone may.kind may.owns asked.1) in
    omega (arith, low, c.self.inside.words.ok.0)

-- src/requeue.rt:22:5
pub returns : goal.returns
returns g c =
    let s : State = state c.args.self.now in
    let done : State → ℕ → Call → Machine → State =
    λ x w d l. with_lot (with_word (with_call x c.args.waiter d) c.args.lock w) l in
    let fit : FitsTogether s = fits c.self.view_is c.self.invariant.0 in
    let asked = rouses_by s c.args.waiter c.args.lock c.requires.may.may in
    let may = is_free s c.args.waiter c.args.lock fit asked.0 in
    subst (IsTakenIn c.args.waiter c.args.lock c.args.timed s)
    (sym (ap (λ (m : Rows). done (state m) (c.word-word.result % 2 + 2) c.sleeping.result (machine c.join.new.lot))
    c.self.view_is
    ∙ ap (λ w. done s (w % 2 + 2) c.sleeping.result (machine c.join.new.lot)) c.word-word.ensures
    ∙ ap (λ d. done s (word_at s c.args.lock % 2 + 2) d (machine c.join.new.lot)) c.sleeping.ensures
    ∙ ap (done s (word_at s c.args.lock % 2 + 2) (sleeping_call c.args.lock c.args.timed))
    (c.join.ensures ∙ ap (λ (m : Rows). lot_with (machine m.lot) c.args.waiter (first_key c.args.lock))
    c.self.view_is)))
    (takes_in s c.args.waiter c.args.lock c.args.timed fit may.low may.alone may.kind may.owns asked.1
    c.requires.may.attended)

-- src/requeue.rt:22:5
pub invariant_of-self : goal.invariant_of-self
invariant_of-self g c = ((returns g c).fits, room_set _ _ _ _ c.self.invariant.1)
