use Rattle.std.proofs.Common.{◌≡◌}
use Rattle.parking_lot_mutex.proofs.raw_mutex.RawMutex.gives_back.Given as goal

abbrev pub invariant-loop-loss : goal.invariant-loop-loss
invariant-loop-loss g l =
    (goal.iterator-loop-loss g).can_next l._loss-iterator × (goal.iterator-loop-loss g).is_finite l._loss-iterator
    × (l.owner ≡ l.self.row.mutex.now.word)
