use Rattle.std.proofs.Common.{◌≡◌, ℕ, ◌≤◌, ◌^◌, Some, sym, ◌∙◌, arith}
use Rattle.parking_lot_machine_calls.specs.declared.open_call.Call.{Call}
use Rattle.parking_lot_machine.specs.Rows.{State, call_at, state}
use Rattle.parking_lot_machine.specs.RowFits.{FitsTogether}
use Rattle.parking_lot_machine.proofs.Acting.{has_word}
use Rattle.parking_lot_machine.proofs.Holding.{fits}
use Rattle.parking_lot_machine.proofs.row_machine.RowMachine.can_move.Goals as goal

-- the lock of a call is one of the machine's
small : (s : State) → FitsTogether s → (t : ℕ) (c : Call) → call_at s t ≡ Some c → c.lock ≤ 2 ^ 62
small s h t c here = omega (arith, has_word s h t c here, h.rules.size_words, h.rules.few_locks)

pub goes_late-requires : goal.goes_late-requires
goes_late-requires g c = record {
  small = small (state c.args.self.now) (fits c.self.view_is c.self.invariant.0) c.args.thread c.in-Some.call
      (sym c.call.ensures ∙ c.in-Some.is);
}

pub key-requires : goal.key-requires
key-requires g c = record {
  small = small (state c.args.self.now) (fits c.self.view_is c.self.invariant.0) c.args.thread c.in-Some.call
      (sym c.call.ensures ∙ c.in-Some.is);
}
