-- An example run: one thread runs its closure, another sleeps beside it, and is woken by its end.
use Rattle.std.specs.Prelude.{ℕ, true, false, List, [], ◌∷◌}
use Rattle.parking_lot_rules.specs.Once.Once.{New, Done, Wish, Idle, Once, Begin, Start, Complete, Flag, Enter, Check}
use Rattle.parking_lot_rules.specs.Once.Once.{Rest, Return, Look, Store, Depart, Leave, Step, Alone, Join, Take, Wake}
use Rattle.parking_lot_rules.specs.Once.Once.{IsRun, unused}

abbrev wish : Wish
wish = record { runs = true; force = false }

abbrev steps : List (ℕ × Step)
steps =
    (0, Alone (Begin wish)) ∷ (0, Alone (Start false New)) ∷ (1, Alone (Begin wish)) ∷ (1, Alone (Flag wish)) ∷
    (1, Alone (Enter wish)) ∷ (1, Alone (Check wish))
    ∷ (1, Join wish) ∷ (1, Alone (Rest wish)) ∷ (0, Alone (Return New true)) ∷ (0, Alone (Look true)) ∷
    (0, Take true [] 1 wish) ∷ (0, Alone (Store true (1 ∷ [])))
    ∷ (0, Alone (Depart (1 ∷ []))) ∷ (0, Wake 1 [] wish) ∷ (0, Alone Leave) ∷ (1, Alone (Complete wish)) ∷ []

-- the thing is done then, and nobody is in a call
abbrev over : Once
over = record { word = record { state = Done; parked = 0 }; roles = Idle ∷ Idle ∷ []; queue = [] }

abbrev pub RunIsThere : Type 0
RunIsThere = IsRun (unused false 2) steps over
