-- What the acts keep of a call whose moment has passed as it slept, and which steps of the rules they are.
use Rattle.std.specs.Prelude.{◌≡◌, ◌+◌, ◌≤◌, ℕ, true, length, None, Some}
use Rattle.parking_lot_core_model.specs.Sound as lot
use Rattle.parking_lot_rules.specs.Any.{AnyStep, MxStep}
use Rattle.parking_lot_rules.specs.Mutex as mutex
use Rattle.parking_lot_machine_calls.specs.declared.late_rw.RwSleeper.TheVariants as sleeper
use Rattle.parking_lot_machine_calls.specs.declared.seat.Core.{Core}
use Rattle.parking_lot_machine_calls.specs.declared.seat.Core.TheVariants as core
use Rattle.parking_lot_machine_calls.specs.declared.seat.QueuePosition.{QueuePosition}
use Rattle.parking_lot_machine_calls.specs.declared.seat.QueuePosition.TheVariants as spot
use Rattle.parking_lot_machine_calls.specs.declared.seat.WakeResult.{WakeResult}
use Rattle.parking_lot_machine_calls.specs.declared.open_call.Call.{Call}
use Rattle.parking_lot_machine.specs.ActLaws.{Keeps}
use Rattle.parking_lot_machine.specs.LateActs.{expired, found, quitted, returned}
use Rattle.parking_lot_machine_calls.specs.LateCalls.{comes_late, is_back, late_key, sleeps_in_time}
use Rattle.parking_lot_machine_calls.specs.LateRoles.{expiring, expiring_taken}
use Rattle.parking_lot_machine.specs.Ranks.{Pays, late_cost, steps_left}
use Rattle.parking_lot_machine.specs.RowFits.{FitsTogether}
use Rattle.parking_lot_machine.specs.RowSteps.{IsMade}
use Rattle.parking_lot_machine.specs.Rows.{State, call_at, open_at}
use Rattle.parking_lot_machine_calls.specs.CallRoles.{mark_of}

-- by which step of the rules a moment passes: in its list, or taken
abbrev pub expire_step : Core → QueuePosition → AnyStep
expire_step (core.Rw k) spot.Listed = expiring (sleeper.Simple k)
expire_step (core.Rw k) (spot.Off by said) = expiring_taken (sleeper.Simple k) by (mark_of said)
expire_step (core.Upgrade k) spot.Listed = expiring (sleeper.Upgradable k)
expire_step (core.Upgrade k) (spot.Off by said) = expiring_taken (sleeper.Upgradable k) by (mark_of said)
expire_step k spot.Listed = MxStep (mutex.Alone mutex.Expire)
expire_step k (spot.Off by said) = MxStep (mutex.Alone (mutex.ExpireTaken by (mark_of said)))

-- the moment of a thread t in the call c passes: the machine stays fit, and it is that step of the rules
pub record Expires (t : ℕ) (c : Call) (s u : State) : Type 0 where
  pub fits : FitsTogether u
  pub goes : IsMade c.lock t (expire_step c.core c.spot) s u
  -- and adds so many steps at most, whoever is stepped
  pub costs : (v : ℕ) → steps_left u v ≤ steps_left s v + late_cost (length s.calls) c.core

pub record LateActsAreSteps : Type 0 where
  pub expires : (s : State) (t : ℕ) (c : Call) → sleeps_in_time c.core ≡ true → FitsTogether s → call_at s t ≡ Some c
      → Expires t c s (expired s t c)
  -- one comes back that still stands in its list, where no section is open in its bucket
  pub returns : (s : State) (t : ℕ) (c : Call) → comes_late c.core ≡ true → c.spot ≡ spot.Listed
      → open_at s (late_key c) ≡ None → lot.Sound (returned s t c).lot → Keeps t c s (returned s t c)
  -- and one comes back that was taken
  pub finds : (s : State) (t : ℕ) (c : Call) (by : ℕ) (said : WakeResult) → comes_late c.core ≡ true
      → c.spot ≡ spot.Off by said → open_at s (late_key c) ≡ None → lot.Sound (found s t c by said).lot
      → Keeps t c s (found s t c by said)
  pub quits : (s : State) (t : ℕ) (c : Call) → is_back c.core ≡ true → lot.Sound (quitted s t c).lot
      → Keeps t c s (quitted s t c)
  -- and all are paid for
  pub returns_pay : (s : State) (t : ℕ) (c : Call) → comes_late c.core ≡ true → call_at s t ≡ Some c
      → Pays t s (returned s t c)
  pub finds_pay : (s : State) (t : ℕ) (c : Call) (by : ℕ) (said : WakeResult) → comes_late c.core ≡ true
      → FitsTogether s → call_at s t ≡ Some c → Pays t s (found s t c by said)
  pub quits_pay : (s : State) (t : ℕ) (c : Call) → is_back c.core ≡ true → call_at s t ≡ Some c
      → Pays t s (quitted s t c)
