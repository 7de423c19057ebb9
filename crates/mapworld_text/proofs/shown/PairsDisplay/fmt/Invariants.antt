use Rattle.std.proofs.Common.{take}
use Rattle.std.specs.Fmt.{HasWritten, IsPlainFormatter}
use Rattle.mapworld_text.specs.Texts.{pairs_text}
use Rattle.mapworld_text.proofs.shown.PairsDisplay.fmt.Given as goal

-- the pairs so far are written
abbrev pub invariant-loop-key : goal.invariant-loop-key
invariant-loop-key g l = IsPlainFormatter l.initial.f
    → HasWritten g.W.Write.write_str_gives l.initial.f (pairs_text (take l.key-index l.self.0.now)) l.f
