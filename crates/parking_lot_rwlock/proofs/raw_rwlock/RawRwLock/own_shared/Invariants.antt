use Rattle.std.proofs.Common.{◌≡◌}
use Rattle.parking_lot_rwlock.proofs.raw_rwlock.RawRwLock.own_shared.Given as goal

-- what is in hand is of this lock
abbrev pub invariant-loop-call : goal.invariant-loop-call
invariant-loop-call g l =
    (goal.iterator-loop-call g).can_next l._call-iterator × (goal.iterator-loop-call g).is_finite l._call-iterator
    × (l.reader ≡ l.self.row.shared.now.word)
