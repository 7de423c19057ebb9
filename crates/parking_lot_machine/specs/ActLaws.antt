-- What each act of the machine keeps, and which step of the rules it is.
use Rattle.std.specs.Prelude.{◌≡◌, ℕ, ◌<◌, ◌≤◌, Bool, false, length, None, Some, slice_get}
use Rattle.parking_lot_core_model.specs.Sound as lot
use Rattle.parking_lot_protocol.specs.declared.act.Act.TheVariants as act
use Rattle.parking_lot_protocol.specs.declared.act.SectionAct.TheVariants as section
use Rattle.parking_lot_protocol.specs.declared.act.ActResult.{ActResult}
use Rattle.parking_lot_protocol.specs.declared.act.ActResult.TheVariants as seen
use Rattle.parking_lot_protocol.specs.declared.act.CoreAnswer.{CoreAnswer}
use Rattle.parking_lot_protocol.specs.MutexRules as of_mutex
use Rattle.parking_lot_protocol.specs.RwRules as of_rw
use Rattle.parking_lot_protocol_rw.specs.UpgradeRoles as of_upgrade
use Rattle.parking_lot_machine_calls.specs.declared.seat.Hold.{Hold}
use Rattle.parking_lot_machine_calls.specs.declared.seat.QueuePosition.TheVariants as spot
use Rattle.parking_lot_machine_calls.specs.declared.seat.Core.{Core}
use Rattle.parking_lot_machine_calls.specs.declared.seat.Core.TheVariants as core
use Rattle.parking_lot_machine_calls.specs.declared.open_call.Call.{Call}
use Rattle.parking_lot_machine_calls.specs.Kinds.{recursive_in}
use Rattle.parking_lot_machine.specs.Rows.{State, call_at, hold_at, open_at}
use Rattle.parking_lot_machine_calls.specs.CallActs.{key_of}
use Rattle.parking_lot_machine_calls.specs.CallRoles.{owned_of, owns_mutex}
use Rattle.parking_lot_machine_calls.specs.Stances.{core_act, rw_begun, mutex_begun, upgrade_begun}
use Rattle.parking_lot_machine.specs.RowActs.{loaded, exchanged, added, spun, entered, checked, left, begun, answered}
use Rattle.parking_lot_machine.specs.RowFits.{FitsTogether, upgrade_begins}
use Rattle.parking_lot_machine_calls.specs.CallKinds.{IsOfKind}
use Rattle.parking_lot_machine.specs.RwLaws.{rw_begins}
use Rattle.parking_lot_machine.specs.RowSteps.{Goes, GoesAway}

-- The act of thread t in a call c, which is told this, keeps the machine fit, and is the step of the rules that the
-- core's table names.
pub record Acts (t : ℕ) (c : Call) (told : ActResult) (s u : State) : Type 0 where
  pub fits : FitsTogether u
  pub goes : Goes t c told s u

-- and so does its end, of a call that is answered
pub record Ends (t : ℕ) (c : Call) (s u : State) : Type 0 where
  pub fits : FitsTogether u
  pub goes : GoesAway t c s u

-- what a thread owns that begins a call
abbrev pub OwnsFor : Bool → Hold → ℕ → Core → Type 0
OwnsFor recursive x n (core.Rw k) = (rw_begun k.phase ≡ false) × rw_begins recursive n k.phase
    × (owned_of x ≡ of_rw.owns n k.phase)
OwnsFor recursive x n (core.Mutex k) = (mutex_begun k.phase ≡ false) × (n ≡ 0) × (owns_mutex x ≡ of_mutex.owns k.phase)
OwnsFor recursive x n (core.Late p) = ⊥
OwnsFor recursive x n (core.LateRw p) = ⊥
OwnsFor recursive x n (core.Upgrade k) = (upgrade_begun k.phase ≡ false) × upgrade_begins k.phase × (n ≡ 0)
    × (owned_of x ≡ of_upgrade.owns n k.phase)

pub record MayBegin (s : State) (t : ℕ) (c : Call) : Type 0 where
  pub low : t < length s.calls
  pub free : call_at s t ≡ None
  pub listed : c.spot ≡ spot.Listed
  pub kind : IsOfKind (slice_get s.kinds c.lock) c.core
  pub owns : OwnsFor (recursive_in s.kinds c.lock) (hold_at s t c.lock) c.others c.core
  pub beside : c.others ≤ 254

-- of a machine that fits, where t is in that call
abbrev pub Keeps : ℕ → Call → State → State → Type 0
Keeps t c s u = FitsTogether s → call_at s t ≡ Some c → (told : ActResult) × Acts t c told s u

pub record ActsAreSteps : Type 0 where
  pub load : (s : State) (t : ℕ) (c : Call) → core_act c.core ≡ act.Load → Keeps t c s (loaded s t c)
  pub exchange : (s : State) (t : ℕ) (c : Call) (from to : ℕ) → core_act c.core ≡ act.Exchange from to
      → Keeps t c s (exchanged s t c from to)
  pub add : (s : State) (t : ℕ) (c : Call) (by : ℕ) → core_act c.core ≡ act.Add by → Keeps t c s (added s t c by)
  pub spin : (s : State) (t : ℕ) (c : Call) → core_act c.core ≡ act.Spin → Keeps t c s (spun s t c)
  pub enter : (s : State) (t : ℕ) (c : Call) (key : ℕ) → core_act c.core ≡ act.Enter key
      → open_at s (key_of c key) ≡ None
      → lot.Sound (entered s t c key).lot → Keeps t c s (entered s t c key)
  pub check : (s : State) (t : ℕ) (c : Call) → core_act c.core ≡ act.Section section.Check
      → lot.Sound (checked s t c).lot → Keeps t c s (checked s t c)
  pub leave : (s : State) (t : ℕ) (c : Call) → core_act c.core ≡ act.Section section.Leave → lot.Sound (left s t c).lot
      → Keeps t c s (left s t c)
  pub begin : (s : State) (t : ℕ) (c : Call) → FitsTogether s → MayBegin s t c → Acts t c seen.Start s (begun s t c)
  pub end : (s : State) (t : ℕ) (c : Call) (answer : CoreAnswer) → core_act c.core ≡ act.Done answer → FitsTogether s
      → call_at s t ≡ Some c → Ends t c s (answered s t c)
