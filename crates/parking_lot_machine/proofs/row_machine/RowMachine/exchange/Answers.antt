use Rattle.parking_lot_machine.proofs.Calling.{room_set}
use Rattle.std.proofs.Common.{Bool, cond, sym, ap, ◌∙◌, subst, arith, eq-eqb}
use Rattle.std.proofs.lemmas.Bool.{ne_eqb}
use Rattle.parking_lot_protocol.specs.declared.act.ActResult.TheVariants as seen
use Rattle.parking_lot_machine_calls.specs.declared.open_call.Call.{Call}
use Rattle.parking_lot_machine.specs.Rows.{Rows, State, state, word_at}
use Rattle.parking_lot_machine.specs.RowActs.{with_call, with_word, loaded}
use Rattle.parking_lot_machine_calls.specs.CallActs.{hears}
use Rattle.parking_lot_machine.specs.RowFits.{FitsTogether}
use Rattle.parking_lot_machine.proofs.Acting.{laws}
use Rattle.parking_lot_machine.proofs.Holding.{fits, low, word_low}
use Rattle.parking_lot_machine.proofs.row_machine.RowMachine.exchange.Goals as goal

-- src/acts.rt:62:13
pub index_mut-requires : goal.index_mut-requires
index_mut-requires g c =
    omega (
      arith,
      word_low c.args.thread c.args.call c.self.view_is c.requires.here c.self.invariant.0,
      c.self.inside.words.ok.0,
    )

-- src/acts.rt:63:13
pub index_mut-requires-then-word-from : goal.index_mut-requires-then-word-from
index_mut-requires-then-word-from g c =
    omega (arith, low c.args.thread c.args.call c.self.view_is c.requires.here, c.self.inside.calls.ok.0)

-- src/acts.rt:40:5
pub returns-then-word-from : goal.returns-then-word-from
returns-then-word-from g c =
    let s : State = state c.args.self.now in
    let done : State → Call → State = λ s next. with_word (with_call s c.args.thread next) c.args.call.lock c.args.to in
    ap (λ (m : Rows). done (state m) c.told.result) c.self.view_is
    ∙ ap (done s) c.told.ensures
    ∙ sym (ap (λ (b : Bool). cond b (done s (hears c.args.call seen.Exchanged)) (loaded s c.args.thread c.args.call))
    (eq-eqb (word_at s c.args.call.lock) c.args.from (sym c.word-word.ensures ∙ c.if-word-from.true)))

-- src/acts.rt:40:5
pub invariant_of-self : goal.invariant_of-self
invariant_of-self g c = (
  subst FitsTogether (sym (returns-then-word-from g c))
      (laws.exchange (state c.args.self.now) c.args.thread c.args.call c.args.from c.args.to c.requires.asked
      (fits c.self.view_is c.self.invariant.0) c.requires.here).1.fits,
  room_set _ _ _ _ c.self.invariant.1,
)

-- src/acts.rt:50:13
pub index_mut-requires-else-word-from : goal.index_mut-requires-else-word-from
index_mut-requires-else-word-from g c =
    omega (arith, low c.args.thread c.args.call c.self.view_is c.requires.here, c.self.inside.calls.ok.0)

-- src/acts.rt:40:5
pub returns-else-word-from : goal.returns-else-word-from
returns-else-word-from g c =
    let s : State = state c.args.self.now in
    let done : State → Call → State = λ s next. with_call s c.args.thread next in
    ap (λ (m : Rows). done (state m) c.told-else-word-from.result) c.self.view_is
    ∙ ap (done s) (c.told-else-word-from.ensures ∙ ap (λ w. hears c.args.call (seen.Word w)) c.word-word.ensures)
    ∙ sym (ap (λ (b : Bool). cond b (with_word (done s (hears c.args.call seen.Exchanged)) c.args.call.lock c.args.to)
    (loaded s c.args.thread c.args.call))
    (ne_eqb (word_at s c.args.call.lock) c.args.from (λ e. c.if-word-from.false (c.word-word.ensures ∙ e))))

-- src/acts.rt:50:13
pub invariant_of-self-else-word-from : goal.invariant_of-self-else-word-from
invariant_of-self-else-word-from g c = (
  subst FitsTogether (sym (returns-else-word-from g c))
      (laws.exchange (state c.args.self.now) c.args.thread c.args.call c.args.from c.args.to c.requires.asked
      (fits c.self.view_is c.self.invariant.0) c.requires.here).1.fits,
  room_set _ _ _ _ c.self.invariant.1,
)
