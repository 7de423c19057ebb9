use Rattle.std.proofs.Common.{◌≡◌, ◌+◌, length}
use Rattle.mapworld_report.proofs.callers.callers.inserts.Given as goal

-- each call made one entry
abbrev pub invariant-loop-key : goal.invariant-loop-key
invariant-loop-key g l = length l.caller.log.entries ≡ length l.fn.caller.log.entries + l.key
