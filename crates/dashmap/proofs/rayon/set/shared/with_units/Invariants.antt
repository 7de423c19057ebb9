use Rattle.std.proofs.Common.{◌≡◌, map}
use Rattle.dashmap.proofs.rayon.set.shared.with_units.Given as goal

-- the keys so far stand with a unit each
abbrev pub invariant-loop-key : goal.invariant-loop-key
invariant-loop-key g l = l.pairs.items ≡ map (λ k. (k, tt)) l.yielded
