use Rattle.std.proofs.Common.{◌≡◌}
use Rattle.parking_lot_mutex.specs.Owning.{in_hand}
use Rattle.parking_lot_mutex.proofs.raw_mutex.RawMutex.ask.Given as goal

-- the right is in hand exactly where the core has it
abbrev pub invariant-loop-act : goal.invariant-loop-act
invariant-loop-act g l =
    (goal.iterator-loop-act g).can_next l._act-iterator × (goal.iterator-loop-act g).is_finite l._act-iterator
    × (l.claim.name ≡ l.self.row.mutex.now.word) × (l.claim.owned ≡ in_hand l.run.1.phase)
