use Rattle.std.proofs.Common.{sym, ◌∙◌, arith}
use Rattle.parking_lot_machine.specs.Rows.{State, state}
use Rattle.parking_lot_machine.specs.RowFits.{FitsTogether}
use Rattle.parking_lot_machine.proofs.Acting.{has_word}
use Rattle.parking_lot_machine.proofs.Holding.{fits}
use Rattle.parking_lot_machine.proofs.LateCalls.{found_sound, quit_sound}
use Rattle.parking_lot_machine.proofs.Stepping as steps
use Rattle.parking_lot_machine.proofs.row_machine.RowMachine.step_late.Goals as goal

pub returns-then-is_back : goal.returns-then-is_back
returns-then-is_back g c =
    let s : State = state c.args.self.now in
    let held : FitsTogether s = fits c.self.view_is c.self.invariant.0 in
    let late = sym c.is_back.ensures ∙ c.if-is_back.true in
    steps.quit s _ c.args.thread c.args.call c.args.fair held c.requires.here late
    (quit_sound s held c.args.thread c.args.call c.requires.here late _) c.quit.ensures

pub returns-in-Listed : goal.returns-in-Listed
returns-in-Listed g c =
    let s : State = state c.args.self.now in
    let so = steps.comes_so s c.args.call (sym c.is_back.ensures ∙ c.if-is_back.false) c.requires.can in
    steps.come_back s _ c.args.thread c.args.call c.args.fair (fits c.self.view_is c.self.invariant.0) c.requires.here
    so.0 c.in-Listed.is so.1 c.come_back.ensures

pub returns-in-Off : goal.returns-in-Off
returns-in-Off g c =
    let s : State = state c.args.self.now in
    let held : FitsTogether s = fits c.self.view_is c.self.invariant.0 in
    let so = steps.comes_so s c.args.call (sym c.is_back.ensures ∙ c.if-is_back.false) c.requires.can in
    steps.find s _ c.args.thread c.args.call c.args.fair held c.requires.here _ _ so.0 c.in-Off.is so.1
    (found_sound s held c.args.thread c.args.call c.requires.here _ _ so.0 c.in-Off.is so.1) c.find.ensures

pub quit-requires-clause-small : goal.quit-requires-clause-small
quit-requires-clause-small g c =
    let s : State = state c.args.self.now in
    let held : FitsTogether s = fits c.self.view_is c.self.invariant.0 in
    omega (
      arith,
      has_word s held c.args.thread c.args.call c.requires.here,
      held.rules.size_words,
      held.rules.few_locks,
    )

pub come_back-requires-clause-small : goal.come_back-requires-clause-small
come_back-requires-clause-small g c =
    let s : State = state c.args.self.now in
    let held : FitsTogether s = fits c.self.view_is c.self.invariant.0 in
    omega (
      arith,
      has_word s held c.args.thread c.args.call c.requires.here,
      held.rules.size_words,
      held.rules.few_locks,
    )

pub find-requires-clause-small : goal.find-requires-clause-small
find-requires-clause-small g c =
    let s : State = state c.args.self.now in
    let held : FitsTogether s = fits c.self.view_is c.self.invariant.0 in
    omega (
      arith,
      has_word s held c.args.thread c.args.call c.requires.here,
      held.rules.size_words,
      held.rules.few_locks,
    )
