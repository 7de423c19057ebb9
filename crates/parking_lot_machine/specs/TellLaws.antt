-- What acts of the machine keep that tell those whom a thread has taken, or wake them, and which steps of the rules
-- they are.
use Rattle.std.specs.Prelude.{◌≡◌, ◌≤◌, ℕ, Bool, true, false, if◌then◌else◌, [], length, Some, None, slice_get}
use Rattle.std.specs.Prelude.{slice_set}
use Rattle.std.specs.List.{position_or_len}
use Rattle.std.specs.Option.{option_map_or}
use Rattle.parking_lot_core_model.specs.declared.parking.UnparkToken.{UnparkToken}
use Rattle.parking_lot_core_model.specs.declared.place.Place.TheVariants.{Running, Taken}
use Rattle.parking_lot_core_model.specs.declared.place.Sleep.{Sleep}
use Rattle.parking_lot_core_model.specs.Places.{place_at, is_due, roused}
use Rattle.parking_lot_core_model.specs.Machine.{Machine, changed_at, resume_fault}
use Rattle.parking_lot_core_model.specs.Sound as lot
use Rattle.parking_lot_protocol.specs.declared.act.Act.TheVariants as act
use Rattle.parking_lot_protocol.specs.declared.act.SectionAct.TheVariants as section
use Rattle.parking_lot_protocol.specs.declared.act.WordChange.{WordChange}
use Rattle.parking_lot_machine_calls.specs.declared.open_call.Call.{Call}
use Rattle.parking_lot_machine_calls.specs.declared.seat.Wakeup.{Wakeup}
use Rattle.parking_lot_machine.specs.Rows.{State, call_at, is_by, taken_by}
use Rattle.parking_lot_machine_calls.specs.Stances.{core_act}
use Rattle.parking_lot_machine.specs.RowActs.{told_all, masked, woke, woke_nobody}
use Rattle.parking_lot_machine.specs.RowFits.{FitsTogether}
use Rattle.parking_lot_machine.specs.ActLaws.{Keeps}

-- The first whom thread t is still to wake: it is in the call d, and was told that token in time.
pub record IsDue (s : State) (t : ℕ) (e : Wakeup) (d : Call) (token : UnparkToken) : Type 0 where
  pub first : slice_get s.wakes (position_or_len (is_by t) s.wakes) ≡ Some e
  pub there : call_at s e.thread ≡ Some d
  pub key : ℕ
  pub sleep : Sleep
  pub place : place_at s.lot.places e.thread ≡ Some (Taken token key sleep false)
  pub late : sleep.late ≡ false

-- One that was taken in time is woken, and goes on: neither of the lot's two calls is refused, and it has its token.
pub record GoesOn (m : Machine) (v : ℕ) (token : UnparkToken) (key : ℕ) (sleep : Sleep) : Type 0 where
  pub due : option_map_or (is_due sleep.mark) (place_at m.places v) false ≡ true
  pub free : resume_fault (changed_at roused m v) v ≡ None
  pub place : place_at (changed_at roused m v).places v ≡ Some (Taken token key sleep true)
  pub runs : slice_set (changed_at roused m v).places v (Some Running) ≡ slice_set m.places v (Some Running)

pub record TellsAreSteps : Type 0 where
  pub store : (s : State) (t : ℕ) (c : Call) (plain fair : WordChange) (is_fair : Bool)
      → core_act c.core ≡ act.Section (section.Store plain fair)
      → lot.Sound (told_all s t c (if is_fair then fair else plain) is_fair).lot
      → Keeps t c s (told_all s t c (if is_fair then fair else plain) is_fair)
  pub mask : (s : State) (t : ℕ) (c : Call) (keep : ℕ) → core_act c.core ≡ act.FetchAnd keep
      → lot.Sound (masked s t c keep).lot → Keeps t c s (masked s t c keep)
  -- The first of those whom one is still to wake was taken by it and bears the mark of its sleep.
  pub due : (s : State) (t : ℕ) (c : Call) → core_act c.core ≡ act.Section section.Wake → FitsTogether s
      → call_at s t ≡ Some c → 1 ≤ length (taken_by s.wakes t)
      → (e : Wakeup) × (d : Call) × (token : UnparkToken) × (x : IsDue s t e d token) × (e.by ≡ t)
      × (x.sleep.mark ≡ e.mark)
  pub wake : (s : State) (t : ℕ) (c : Call) (e : Wakeup) (d : Call) (token : UnparkToken)
      → core_act c.core ≡ act.Section section.Wake → IsDue s t e d token
      → lot.Sound (woke s t c e.thread d token).lot → Keeps t c s (woke s t c e.thread d token)
  -- where all of them have gone on by themselves it wakes nobody
  pub nobody : (s : State) (t : ℕ) (c : Call) → core_act c.core ≡ act.Section section.Wake → taken_by s.wakes t ≡ []
      → Keeps t c s (woke_nobody s t c)
  pub goes_on : (m : Machine) (v : ℕ) (token : UnparkToken) (key : ℕ) (sleep : Sleep)
      → place_at m.places v ≡ Some (Taken token key sleep false) → sleep.late ≡ false → GoesOn m v token key sleep
