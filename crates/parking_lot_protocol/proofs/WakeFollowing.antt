-- What a waking section does at a waiter is what the rules say.
use Rattle.std.proofs.Common.{◌≡◌, ℕ, ◌+◌, ◌*◌, ◌/◌, ◌%◌, ◌==◌, ◌&&◌, ◌||◌, Bool, true, false, cond, List, refl, sym}
use Rattle.std.proofs.Common.{ap, ◌∙◌, subst, arith}
use Rattle.parking_lot_rules.specs.Roles.{Mode, Shared, Exclusive, Upgradable}
use Rattle.parking_lot_rules.specs.Steps.{look, holds_upgradable}
use Rattle.parking_lot_protocol.specs.declared.rw_phase.Scanning.{Scanning}
use Rattle.parking_lot_protocol.specs.declared.rw_phase.AfterWake.{AfterWake}
use Rattle.parking_lot_protocol.specs.declared.rw_phase.AfterWake.TheVariants.{FreedShared, FreedExclusive, Downgraded}
use Rattle.parking_lot_protocol.specs.declared.rw_phase.AfterWake.TheVariants.{AgainShared, AgainExclusive}
use Rattle.parking_lot_rules.specs.Classes.{bit}
use Rattle.parking_lot_core_model.specs.declared.parking.FilterOp.{FilterOp}
use Rattle.parking_lot_core_model.specs.declared.parking.FilterOp.TheVariants.{Unpark, Skip, Stop}
use Rattle.parking_lot_protocol.specs.Wake.{wake_answer}
use Rattle.parking_lot_protocol.specs.RwTable.{sum_of, base_of, taken_sum}
use Rattle.parking_lot_protocol.specs.RwRules.{scan_of}
use Rattle.parking_lot_protocol.specs.WakeRules.{LooksRightly, answer_to, token_of}

-- the bits of a sum
record Bits (u x : Bool) (sum : ℕ) : Type 0 where
  writer : sum / 8 % 2 ≡ bit x
  upgradable : sum / 4 % 2 ≡ bit u

-- 16 a number, and the two bits
bits_at : (k : ℕ) (u x : Bool) → Bits u x (16 * k + (20 * bit u + 8 * bit x))
bits_at k true true = record { writer = omega arith; upgradable = omega arith }
bits_at k true false = record { writer = omega arith; upgradable = omega arith }
bits_at k false true = record { writer = omega arith; upgradable = omega arith }
bits_at k false false = record { writer = omega arith; upgradable = omega arith }

bits : (s : Scanning) → Bits s.upgradable s.writer (sum_of s)
bits s = by_rest s.rest
  where
    abbrevs : (m : ℕ) (k : ℕ) → m ≡ 16 * k + (20 * bit s.upgradable + 8 * bit s.writer) → Bits s.upgradable s.writer m
    abbrevs m k e = let P : ℕ → Type 0 = λ y. Bits s.upgradable s.writer y in
        subst P (sym e) (bits_at k s.upgradable s.writer)

    by_rest : (q : AfterWake) → Bits s.upgradable s.writer (base_of q + taken_sum s)
    by_rest FreedShared = abbrevs _ s.shared (omega arith)
    by_rest FreedExclusive = abbrevs _ s.shared (omega arith)
    by_rest Downgraded = abbrevs _ (s.shared + 1) (omega arith)
    by_rest AgainShared = abbrevs _ s.shared (omega arith)
    by_rest AgainExclusive = abbrevs _ s.shared (omega arith)

-- the answer, by the two bits
abbrev answer_by : ℕ → ℕ → ℕ → FilterOp
answer_by x u token = cond (x == 1) Stop (cond ((token == 8 || token == 20) && u == 1) Skip Unpark)

by_bits : (u x : Bool) (mode : Mode) → answer_by (bit x) (bit u) (token_of mode) ≡ answer_to (look u x mode)
by_bits u true mode = refl
by_bits true false Shared = refl
by_bits true false Exclusive = refl
by_bits true false Upgradable = refl
by_bits false false Shared = refl
by_bits false false Exclusive = refl
by_bits false false Upgradable = refl

answers : (sum : ℕ) (u x : Bool) (mode : Mode) → Bits u x sum → wake_answer sum (token_of mode) ≡ answer_to
    (look u x mode)
answers sum u x mode b = ap (λ y. answer_by y (sum / 4 % 2) (token_of mode)) b.writer
    ∙ ap (λ y. answer_by (bit x) y (token_of mode)) b.upgradable ∙ by_bits u x mode

holds : (n : ℕ) (s : Scanning) (us : List ℕ) → holds_upgradable (scan_of n s us) ≡ s.upgradable
holds n s us = by_rest s.rest
  where
    by_rest : (q : AfterWake) → holds_upgradable (scan_of n (record s { rest = q }) us) ≡ s.upgradable
    by_rest FreedShared = refl
    by_rest FreedExclusive = refl
    by_rest Downgraded = refl
    by_rest AgainShared = refl
    by_rest AgainExclusive = refl

pub looks_rightly : (sum token : ℕ) → LooksRightly sum token (wake_answer sum token)
looks_rightly sum token s mode n us e t =
    ap (λ y. wake_answer y token) e ∙ ap (λ y. wake_answer (sum_of s) y) t ∙ answers (sum_of s) s.upgradable s.writer
    mode (bits s) ∙ ap (λ u. answer_to (look u s.writer mode)) (sym (holds n s us))
