-- What the acts keep that put threads into lists and take them off, and which steps of the rules they are.
use Rattle.std.specs.Prelude.{◌≡◌, ◌≢◌, ℕ, length, Some}
use Rattle.parking_lot_core_model.specs.declared.parking.ParkToken.{ParkToken}
use Rattle.parking_lot_core_model.specs.declared.parking.FilterOp.TheVariants.{Stop}
use Rattle.parking_lot_core_model.specs.declared.place.Waiter.{Waiter}
use Rattle.parking_lot_core_model.specs.Sound as lot
use Rattle.parking_lot_protocol.specs.declared.act.Act.TheVariants as act
use Rattle.parking_lot_protocol.specs.declared.act.SectionAct.TheVariants as section
use Rattle.parking_lot_machine.specs.Passes.{ArePassed, IsNext, asks}
use Rattle.parking_lot_machine_calls.specs.declared.open_call.Call.{Call}
use Rattle.parking_lot_machine.specs.Rows.{State, call_at}
use Rattle.parking_lot_machine_calls.specs.Stances.{Joins, Takes, In, stance, core_act}
use Rattle.parking_lot_machine.specs.RowActs.{appended, took, took_nobody}
use Rattle.parking_lot_machine_calls.specs.CallActs.{key_of}
use Rattle.parking_lot_machine.specs.RowFits.{FitsTogether}
use Rattle.parking_lot_machine.specs.ActLaws.{Keeps}

-- k: 0 for the lock's first key, 1 for its second
pub record TakesAreSteps : Type 0 where
  -- one that goes to sleep joins the end of its list
  pub append : (s : State) (t : ℕ) (c : Call) (k : ℕ) (token : ParkToken)
      → core_act c.core ≡ act.Section (section.Append token) → stance c.core ≡ In k (Joins token)
      → lot.Sound (appended s t c (key_of c k) token).lot → Keeps t c s (appended s t c (key_of c k) token)
  -- One that takes waiters takes the next of its list that it wants, and nobody where it passes all.
  pub take : (s : State) (t : ℕ) (c : Call) (k nth : ℕ) (w : Waiter) → stance c.core ≡ In k Takes
      → IsNext (asks (core_act c.core)) (s.lot.queues (key_of c k)) nth w
      → lot.Sound (took s t c (key_of c k) nth w).lot
      → Keeps t c s (took s t c (key_of c k) nth w)
  pub take_nobody : (s : State) (t : ℕ) (c : Call) (k : ℕ) → stance c.core ≡ In k Takes
      → ArePassed (asks (core_act c.core)) (s.lot.queues (key_of c k)) (length (s.lot.queues (key_of c k)))
      → lot.Sound (took_nobody s t c (key_of c k)).lot
      → Keeps t c s (took_nobody s t c (key_of c k))
  -- a scan that goes on stops at nobody
  pub goes_on : (s : State) (t : ℕ) (c : Call) (k : ℕ) → FitsTogether s → call_at s t ≡ Some c
      → stance c.core ≡ In k Takes → (token : ℕ) → asks (core_act c.core) token ≢ Stop
