use Rattle.std.proofs.Common.{◌≡◌}
use Rattle.parking_lot_driver.proofs.place.Place.go_on_in_time.Given as goal

-- what is in hand is of this lock
abbrev pub invariant-loop-act : goal.invariant-loop-act
invariant-loop-act g l =
    (goal.iterator-loop-act g).can_next l._act-iterator × (goal.iterator-loop-act g).is_finite l._act-iterator
    × (l.held ≡ l.self.row.now.shared.now.word)
