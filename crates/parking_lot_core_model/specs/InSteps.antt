-- What two machines show alike.
use Rattle.std.specs.Prelude.{◌≡◌, ℕ, ◌+◌, List, [], ◌∷◌, ◌++◌, Option, replicate}
use Rattle.parking_lot_core_model.specs.declared.parking.FilterOp.{FilterOp}
use Rattle.parking_lot_core_model.specs.declared.parking.FilterOp.TheVariants.{Unpark, Skip}
use Rattle.parking_lot_core_model.specs.declared.place.Phase.TheVariants as phase
use Rattle.parking_lot_core_model.specs.declared.place.Waiter.{Waiter}
use Rattle.parking_lot_core_model.specs.Machine.{Machine, status_at, open_at, in_phase, taken}

-- the same lists, resources, sections and statuses: only who was woken may differ
pub record ShowsSame (m n : Machine) : Type 0 where
  pub queues : m.queues ≡ n.queues
  pub resources : m.resources ≡ n.resources
  pub sections : (key : ℕ) → open_at m key ≡ open_at n key
  pub statuses : (thread : ℕ) → status_at m thread ≡ status_at n thread

-- the takings of a section: each passes so many waiters, and takes the next
abbrev pub takings : Machine → ℕ → ℕ → List ℕ → Machine
takings m key passed [] = m
takings m key passed (n ∷ ns) = takings (taken (in_phase m key (phase.Taking (passed + n))) key (passed + n)) key
    (passed + n) ns

-- what a filter answers in them, and then answers that take nobody
abbrev pub answers_of : List ℕ → List FilterOp → List FilterOp
answers_of [] rest = rest
answers_of (n ∷ ns) rest = replicate n Skip ++ Unpark ∷ answers_of ns rest
