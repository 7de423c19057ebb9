use Rattle.std.proofs.Common.{ℕ, ◌+◌, ◌%◌, ◌^◌, sym, ap, ◌∙◌, subst, arith}
use Rattle.parking_lot_machine.proofs.Calling.{room_set}
use Rattle.parking_lot_protocol.specs.declared.act.ActResult.TheVariants as seen
use Rattle.parking_lot_machine_calls.specs.declared.open_call.Call.{Call}
use Rattle.parking_lot_machine.specs.Rows.{Rows, State, state}
use Rattle.parking_lot_machine.specs.RowActs.{with_call, with_word}
use Rattle.parking_lot_machine_calls.specs.CallActs.{hears}
use Rattle.parking_lot_machine.specs.RowFits.{FitsTogether}
use Rattle.parking_lot_machine.proofs.Acting.{laws}
use Rattle.parking_lot_machine.proofs.Holding.{fits, low, word_low}
use Rattle.parking_lot_machine.proofs.row_machine.RowMachine.add.Goals as goal

-- src/acts.rt:76:9
pub index_mut-requires : goal.index_mut-requires
index_mut-requires g c =
    omega (
      arith,
      word_low c.args.thread c.args.call c.self.view_is c.requires.here c.self.invariant.0,
      c.self.inside.words.ok.0,
    )

-- src/acts.rt:77:9
pub index_mut-requires-2 : goal.index_mut-requires-2
index_mut-requires-2 g c =
    omega (arith, low c.args.thread c.args.call c.self.view_is c.requires.here, c.self.inside.calls.ok.0)

-- src/acts.rt:66:5
pub returns : goal.returns
returns g c =
    let done : State → Call → ℕ → State = λ s next word. with_word (with_call s c.args.thread next) c.args.call.lock
    ((word + c.args.by) % 2 ^ 64) in
    let s : State = state c.args.self.now in
    ap (λ (m : Rows). done (state m) c.told.result c.word-word.result) c.self.view_is
    ∙ ap (λ next. done s next c.word-word.result) c.told.ensures
    ∙ ap (λ w. done s (hears c.args.call (seen.Before w)) w) c.word-word.ensures

-- src/acts.rt:66:5
pub invariant_of-self : goal.invariant_of-self
invariant_of-self g c = (
  subst FitsTogether (sym (returns g c))
      (laws.add (state c.args.self.now) c.args.thread c.args.call c.args.by c.requires.asked
      (fits c.self.view_is c.self.invariant.0) c.requires.here).1.fits,
  room_set _ _ _ _ c.self.invariant.1,
)
