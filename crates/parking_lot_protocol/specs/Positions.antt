-- Where a sleeper stands.
use Rattle.std.specs.Prelude.{ℕ}
use Rattle.parking_lot_rules.specs.Roles.{Mark}

-- Where a thread that sleeps stands: in its list, or off it, taken by another that has said this since.
pub data QueuePosition : Type 0 where
  Listed : QueuePosition
  Off : (by : ℕ) → (mark : Mark) → QueuePosition
