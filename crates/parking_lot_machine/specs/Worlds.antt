-- How threads own the locks of a machine, and who is in debt.
use Rattle.std.specs.Prelude.{ℕ, Bool, false, ◌||◌, Option, slice_get}
use Rattle.std.specs.Option.{option_and_then, option_map_or}
use Rattle.parking_lot_rules.specs.Any.{AnyLock, Rw, Mx}
use Rattle.parking_lot_rules.specs.Debts as rw_debts
use Rattle.parking_lot_rules.specs.MutexDebts as mutex_debts
use Rattle.parking_lot_machine_calls.specs.declared.calls.OwnMode.{OwnMode}
use Rattle.parking_lot_machine.specs.Rows.{State, lock_at, call_at}
use Rattle.parking_lot_machine_calls.specs.CallViews.{rw_mode, mutex_mode, call_looks}

-- how a thread owns a lock of the rules
abbrev pub mode_in : AnyLock → ℕ → Option OwnMode
mode_in (Rw l) t = option_and_then rw_mode (slice_get l.roles t)
mode_in (Mx m) t = option_and_then mutex_mode (slice_get m.roles t)

-- a thread is in debt at a lock of the rules
abbrev pub in_debt_at : AnyLock → ℕ → Bool
in_debt_at (Rw l) t = option_map_or (λ r. rw_debts.is_in_debt r.does) (slice_get l.roles t) false
in_debt_at (Mx m) t = option_map_or (λ r. mutex_debts.is_in_debt r.does) (slice_get m.roles t) false

-- It is in debt at the lock that its call is at, or owns that lock, has seen that others wait, and enters a section
-- next.
abbrev pub is_indebted : State → ℕ → Bool
is_indebted s t = option_map_or (λ c. call_looks c.core || in_debt_at (lock_at s c.lock) t) (call_at s t) false
