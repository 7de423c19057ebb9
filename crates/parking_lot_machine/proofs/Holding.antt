-- What a method of the machine knows while it holds the machine's parts.
use Rattle.std.proofs.Common.{◌≡◌, ℕ, ◌+◌, ◌*◌, ◌<◌, length, Some, sym, ap, ◌∙◌, subst, arith}
use Rattle.parking_lot_machine_calls.specs.declared.open_call.Call.{Call}
use Rattle.parking_lot_machine.specs.Rows.{Rows, state, call_at}
use Rattle.parking_lot_machine.specs.RowFits.{FitsTogether}
use Rattle.parking_lot_machine.proofs.Acting.{has_word}
use Rattle.parking_lot_machine.proofs.Starting.{cell_within}
use Rattle.parking_lot_machine.proofs.Meeting.{in_range}

-- the machine fits that the parts are of
pub fits : {m n : Rows} → m ≡ n → FitsTogether (state m) → FitsTogether (state n)
fits e h = subst (λ (x : Rows). FitsTogether (state x)) e h

-- the call is among the parts
pub held : {m n : Rows} (t : ℕ) (c : Call) → m ≡ n → call_at (state n) t ≡ Some c → call_at (state m) t ≡ Some c
held t c e here = ap (λ (x : Rows). call_at (state x) t) e ∙ here

-- it has a thread, a word and a cell of the holds
pub low : {m n : Rows} (t : ℕ) (c : Call) → m ≡ n → call_at (state n) t ≡ Some c → t < length m.calls
low {m} t c e here = in_range (state m) t c (held t c e here)

pub word_low : {m n : Rows} (t : ℕ) (c : Call) → m ≡ n → call_at (state n) t ≡ Some c → FitsTogether (state m)
    → c.lock < length m.words
word_low {m} t c e here h = has_word (state m) h t c (held t c e here)

pub cell_low : {m n : Rows} {locks : ℕ} (t : ℕ) (c : Call) → m ≡ n → call_at (state n) t ≡ Some c
    → FitsTogether (state m) → locks ≡ length m.kinds → t * locks + c.lock < length m.holds
cell_low {m} {n} t c e here h size =
    let lock : c.lock < length m.kinds = omega (arith, word_low t c e here h, h.rules.size_words) in
    subst (λ x. t * x + c.lock < length m.holds) (sym size)
    (omega (
      arith,
      cell_within (length m.calls) (length m.kinds) t c.lock (low t c e here) lock,
      h.rules.size_holds,
    ))
