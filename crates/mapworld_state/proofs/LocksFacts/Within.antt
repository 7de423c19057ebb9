-- How a thread holds a lock, by where its call stands.
use Rattle.std.proofs.Common.{◌≡◌, ◌≢◌, ℕ, Bool, true, false, List, Option, Some, None, refl, sym, ap, ◌∙◌, subst}
use Rattle.std.proofs.lemmas.Bool.{false≢true}
use Rattle.parking_lot_core_model.specs.declared.parking.ParkToken.{ParkToken}
use Rattle.parking_lot_protocol.specs.declared.rw_phase.LockMode.{LockMode}
use Rattle.parking_lot_protocol.specs.declared.rw_phase.AfterWake.{AfterWake}
use Rattle.parking_lot_protocol.specs.declared.rw_phase.Outcome.{Outcome}
use Rattle.parking_lot_protocol.specs.declared.rw_phase.RwPhase.{RwPhase}
use Rattle.parking_lot_protocol.specs.RwRules as of_rw
use Rattle.parking_lot_protocol.specs.declared.rw_phase.Scanning.{Scanning}
use Rattle.parking_lot_rules.specs.Roles as rules
use Rattle.parking_lot_rules.specs.Owners.{Reading, Stand, Chosen, owner_of, stand_of}
use Rattle.parking_lot_rules.specs.Roles.{Open, Normal, Handed}
use Rattle.parking_lot_machine_calls.specs.declared.calls.LockKind.TheVariants as kind
use Rattle.parking_lot_machine_calls.specs.declared.seat.QueuePosition.{QueuePosition}
use Rattle.parking_lot_machine_calls.specs.declared.seat.WakeResult.{WakeResult}
use Rattle.parking_lot_machine_calls.specs.CallViews.{mode_of, rw_mode}
use Rattle.parking_lot_machine_calls.specs.CallRoles.{rw_spot}
use Rattle.parking_lot_machine_calls.specs.Stances.{Asleep, rw_stance}
use Rattle.parking_lot_machine_calls.specs.CallViews.{hold_mode}
use Rattle.parking_lot_machine_calls.specs.declared.calls.OwnMode.TheVariants as own
use Rattle.parking_lot_machine.specs.CallLaws.Stages as stage
use Rattle.parking_lot_machine.specs.CallLaws.Stages.{Asks, Frees, Over, Quits, Stage, Tries, mode_for, rest_stage}
use Rattle.parking_lot_machine.specs.CallLaws.Stages.{rw_stage}
use Rattle.lock_api_desk.specs.declared.mode.Mode.{Mode}
use Rattle.lock_api_desk.specs.declared.mode.Mode.TheVariants as held
use Rattle.mapworld_state.specs.Locks.Aims.{Gets, GivesUp, Turns, is_within}
use Rattle.mapworld_state.specs.Locks.Views.{held_as}

-- Within a call nobody holds more than it is about; and where it is over, what it says then. Of holds as upgradable
-- nothing is said: no call of a shard's lock is about one.
abbrev pub WithinAt : Stage → Option Mode → Type 0
WithinAt (Asks own.Shared from) o = is_within (Gets held.Shared) o ≡ true
WithinAt (Asks own.Exclusive from) o = is_within (Gets held.Exclusive) o ≡ true
WithinAt (Tries own.Shared from) o = is_within (Gets held.Shared) o ≡ true
WithinAt (Tries own.Exclusive from) o = is_within (Gets held.Exclusive) o ≡ true
WithinAt (Quits own.Shared from) o = is_within (Gets held.Shared) o ≡ true
WithinAt (Quits own.Exclusive from) o = is_within (Gets held.Exclusive) o ≡ true
WithinAt (Frees false) o = is_within (GivesUp held.Shared) o ≡ true
WithinAt (Frees true) o = is_within (GivesUp held.Exclusive) o ≡ true
WithinAt (stage.Turns own.Shared) o = is_within Turns o ≡ true
WithinAt (Over answer hold) o = o ≡ held_as (hold_mode (Some kind.Rw) hold)
WithinAt other o = Unit {0}

-- of one that stands there at that phase
abbrev HeldAt : of_rw.QueuePosition → List ℕ → RwPhase → Type 0
HeldAt at us p = WithinAt (rw_stage 0 p) (held_as (rw_mode (of_rw.role 0 at us p)))

asks_none : (want : LockMode) → WithinAt (Asks (mode_for want) false) None
asks_none (LockMode.Shared recursive) = refl
asks_none LockMode.Exclusive = refl

tries_none : (want : LockMode) → WithinAt (Tries (mode_for want) false) None
tries_none (LockMode.Shared recursive) = refl
tries_none LockMode.Exclusive = refl

sleeps : (at : of_rw.QueuePosition) (us : List ℕ) (want : LockMode) → HeldAt at us (RwPhase.Sleeps want)
sleeps of_rw.Listed us want = asks_none want
sleeps (of_rw.Off by Open) us want = asks_none want
sleeps (of_rw.Off by Normal) us want = asks_none want
sleeps (of_rw.Off by Handed) us (LockMode.Shared recursive) = refl
sleeps (of_rw.Off by Handed) us LockMode.Exclusive = refl

drain_sleeps : (at : of_rw.QueuePosition) (us : List ℕ) (rounds : ℕ) → HeldAt at us (RwPhase.DrainSleeps rounds)
drain_sleeps of_rw.Listed us rounds = refl
drain_sleeps (of_rw.Off by mark) us rounds = refl

scans : (at : of_rw.QueuePosition) (us : List ℕ) (s : Scanning) (rest : AfterWake) → s.rest ≡ rest
    → of_rw.gives_shared s.rest ≡ false → HeldAt at us (RwPhase.Scans s)
scans at us s AfterWake.FreedShared e ready = absurd (false≢true (sym ready ∙ ap of_rw.gives_shared e))
scans at us s AfterWake.FreedExclusive e ready =
    subst (λ r. WithinAt (rest_stage r)
    (held_as (mode_of (owner_of (of_rw.owned_at_last 0 r)
    (rules.Scans1 (of_rw.cause_of r) s.shared s.upgradable s.writer us))))) (sym e) refl
scans at us s AfterWake.Downgraded e ready =
    subst (λ r. WithinAt (rest_stage r)
    (held_as (mode_of (owner_of (of_rw.owned_at_last 0 r)
    (rules.Scans1 (of_rw.cause_of r) s.shared s.upgradable s.writer us))))) (sym e) refl
scans at us s AfterWake.AgainShared e ready = absurd (false≢true (sym ready ∙ ap of_rw.gives_shared e))
scans at us s AfterWake.AgainExclusive e ready =
    subst (λ r. WithinAt (rest_stage r)
    (held_as (mode_of (owner_of (of_rw.owned_at_last 0 r)
    (rules.Scans1 (of_rw.cause_of r) s.shared s.upgradable s.writer us))))) (sym e) refl

stores : (at : of_rw.QueuePosition) (us : List ℕ) (s : Scanning) (left : Bool) (rest : AfterWake) → s.rest ≡ rest
    → of_rw.gives_shared s.rest ≡ false → HeldAt at us (RwPhase.Stores s left)
stores at us s left AfterWake.FreedShared e ready = absurd (false≢true (sym ready ∙ ap of_rw.gives_shared e))
stores at us s left AfterWake.FreedExclusive e ready =
    subst (λ r. WithinAt (rest_stage r)
    (held_as (mode_of (owner_of (of_rw.owned_at_last 0 r)
    (rules.Scans1 (of_rw.cause_of r) s.shared s.upgradable s.writer us))))) (sym e) refl
stores at us s left AfterWake.Downgraded e ready =
    subst (λ r. WithinAt (rest_stage r)
    (held_as (mode_of (owner_of (of_rw.owned_at_last 0 r)
    (rules.Scans1 (of_rw.cause_of r) s.shared s.upgradable s.writer us))))) (sym e) refl
stores at us s left AfterWake.AgainShared e ready = absurd (false≢true (sym ready ∙ ap of_rw.gives_shared e))
stores at us s left AfterWake.AgainExclusive e ready =
    subst (λ r. WithinAt (rest_stage r)
    (held_as (mode_of (owner_of (of_rw.owned_at_last 0 r)
    (rules.Scans1 (of_rw.cause_of r) s.shared s.upgradable s.writer us))))) (sym e) refl

-- with no shared hold beside
pub within : (at : of_rw.QueuePosition) (us : List ℕ) (p : RwPhase) → of_rw.IsReady p → p ≢ RwPhase.Invalid
    → HeldAt at us p
within at us (RwPhase.Locking want) ready ne = asks_none want
within at us (RwPhase.Trying want) ready ne = tries_none want
within at us RwPhase.UnlockingShared ready ne = refl
within at us (RwPhase.UnlockingExclusive fair) ready ne = refl
within at us RwPhase.Downgrading ready ne = refl
within at us RwPhase.BumpingShared ready ne = refl
within at us RwPhase.BumpingExclusive ready ne = refl
within at us (RwPhase.Loads a) ready ne = asks_none a.want
within at us (RwPhase.Admits a word) ready ne = asks_none a.want
within at us (RwPhase.Spins a) ready ne = asks_none a.want
within at us (RwPhase.SetParked a word) ready ne = asks_none a.want
within at us (RwPhase.Enters want woken) ready ne = asks_none want
within at us (RwPhase.Checks want woken) ready ne = asks_none want
within at us (RwPhase.Retreats want woken) ready ne = asks_none want
within at us (RwPhase.Appends want) ready ne = asks_none want
within at us (RwPhase.Rests want) ready ne = asks_none want
within at us (RwPhase.Sleeps want) ready ne = sleeps at us want
within at us (RwPhase.DrainLoads d) ready ne = refl
within at us (RwPhase.DrainSpins d) ready ne = refl
within at us (RwPhase.DrainSetParked d word) ready ne = refl
within at us (RwPhase.DrainEnters d) ready ne = refl
within at us (RwPhase.DrainChecks d) ready ne = refl
within at us (RwPhase.DrainRetreats d) ready ne = refl
within at us (RwPhase.DrainAppends rounds) ready ne = refl
within at us (RwPhase.DrainRests rounds) ready ne = refl
within at us (RwPhase.DrainSleeps rounds) ready ne = drain_sleeps at us rounds
within at us (RwPhase.TryLoads want) ready ne = tries_none want
within at us (RwPhase.TryAdmits want word left) ready ne = tries_none want
within at us (RwPhase.Refuses want) ready ne = refl
within at us (RwPhase.BumpLoads (LockMode.Shared recursive)) ready ne = refl
within at us (RwPhase.BumpLoads LockMode.Exclusive) ready ne = refl
within at us (RwPhase.Relocks want) ready ne = asks_none want
within at us (RwPhase.Unshares AfterWake.FreedShared) ready ne = refl
within at us (RwPhase.Unshares AfterWake.FreedExclusive) ready ne = absurd (false≢true ready)
within at us (RwPhase.Unshares AfterWake.Downgraded) ready ne = absurd (false≢true ready)
within at us (RwPhase.Unshares AfterWake.AgainShared) ready ne = refl
within at us (RwPhase.Unshares AfterWake.AgainExclusive) ready ne = absurd (false≢true ready)
within at us (RwPhase.EnterWriterWakeSection AfterWake.FreedShared) ready ne = refl
within at us (RwPhase.EnterWriterWakeSection AfterWake.FreedExclusive) ready ne = absurd (false≢true ready)
within at us (RwPhase.EnterWriterWakeSection AfterWake.Downgraded) ready ne = absurd (false≢true ready)
within at us (RwPhase.EnterWriterWakeSection AfterWake.AgainShared) ready ne = refl
within at us (RwPhase.EnterWriterWakeSection AfterWake.AgainExclusive) ready ne = absurd (false≢true ready)
within at us (RwPhase.TakeWriter AfterWake.FreedShared) ready ne = refl
within at us (RwPhase.TakeWriter AfterWake.FreedExclusive) ready ne = absurd (false≢true ready)
within at us (RwPhase.TakeWriter AfterWake.Downgraded) ready ne = absurd (false≢true ready)
within at us (RwPhase.TakeWriter AfterWake.AgainShared) ready ne = refl
within at us (RwPhase.TakeWriter AfterWake.AgainExclusive) ready ne = absurd (false≢true ready)
within at us (RwPhase.ClearWriterParked AfterWake.FreedShared taken) ready ne = refl
within at us (RwPhase.ClearWriterParked AfterWake.FreedExclusive taken) ready ne = absurd (false≢true ready)
within at us (RwPhase.ClearWriterParked AfterWake.Downgraded taken) ready ne = absurd (false≢true ready)
within at us (RwPhase.ClearWriterParked AfterWake.AgainShared taken) ready ne = refl
within at us (RwPhase.ClearWriterParked AfterWake.AgainExclusive taken) ready ne = absurd (false≢true ready)
within at us (RwPhase.LeaveWriterWakeSection AfterWake.FreedShared taken) ready ne = refl
within at us (RwPhase.LeaveWriterWakeSection AfterWake.FreedExclusive taken) ready ne = absurd (false≢true ready)
within at us (RwPhase.LeaveWriterWakeSection AfterWake.Downgraded taken) ready ne = absurd (false≢true ready)
within at us (RwPhase.LeaveWriterWakeSection AfterWake.AgainShared taken) ready ne = refl
within at us (RwPhase.LeaveWriterWakeSection AfterWake.AgainExclusive taken) ready ne = absurd (false≢true ready)
within at us (RwPhase.Unlocks fair AfterWake.FreedShared) ready ne = absurd (false≢true ready)
within at us (RwPhase.Unlocks fair AfterWake.FreedExclusive) ready ne = refl
within at us (RwPhase.Unlocks fair AfterWake.Downgraded) ready ne = absurd (false≢true ready)
within at us (RwPhase.Unlocks fair AfterWake.AgainShared) ready ne = absurd (false≢true ready)
within at us (RwPhase.Unlocks fair AfterWake.AgainExclusive) ready ne = refl
within at us (RwPhase.LooksExclusive fair AfterWake.FreedShared) ready ne = absurd (false≢true ready)
within at us (RwPhase.LooksExclusive fair AfterWake.FreedExclusive) ready ne = refl
within at us (RwPhase.LooksExclusive fair AfterWake.Downgraded) ready ne = absurd (false≢true ready)
within at us (RwPhase.LooksExclusive fair AfterWake.AgainShared) ready ne = absurd (false≢true ready)
within at us (RwPhase.LooksExclusive fair AfterWake.AgainExclusive) ready ne = refl
within at us RwPhase.Downgrades ready ne = refl
within at us RwPhase.EnterWakeSection ready ne = refl
within at us (RwPhase.Scans s) ready ne = scans at us s s.rest refl ready
within at us (RwPhase.Stores s left) ready ne = stores at us s left s.rest refl ready
within at us (RwPhase.Leaves AfterWake.FreedShared count handed) ready ne = refl
within at us (RwPhase.Leaves AfterWake.FreedExclusive count handed) ready ne = refl
within at us (RwPhase.Leaves AfterWake.Downgraded count handed) ready ne = refl
within at us (RwPhase.Leaves AfterWake.AgainShared count handed) ready ne = refl
within at us (RwPhase.Leaves AfterWake.AgainExclusive count handed) ready ne = refl
within at us (RwPhase.Wakes AfterWake.FreedShared count) ready ne = refl
within at us (RwPhase.Wakes AfterWake.FreedExclusive count) ready ne = refl
within at us (RwPhase.Wakes AfterWake.Downgraded count) ready ne = refl
within at us (RwPhase.Wakes AfterWake.AgainShared count) ready ne = refl
within at us (RwPhase.Wakes AfterWake.AgainExclusive count) ready ne = refl
within at us (RwPhase.Finishes AfterWake.FreedShared) ready ne = refl
within at us (RwPhase.Finishes AfterWake.FreedExclusive) ready ne = refl
within at us (RwPhase.Finishes AfterWake.Downgraded) ready ne = refl
within at us (RwPhase.Finishes AfterWake.AgainShared) ready ne = refl
within at us (RwPhase.Finishes AfterWake.AgainExclusive) ready ne = refl
within at us (RwPhase.Ends Outcome.Shared) ready ne = refl
within at us (RwPhase.Ends Outcome.Exclusive) ready ne = refl
within at us (RwPhase.Ends Outcome.Downgraded) ready ne = refl
within at us (RwPhase.Ends Outcome.FreedShared) ready ne = refl
within at us (RwPhase.Ends Outcome.FreedExclusive) ready ne = refl
within at us RwPhase.Invalid ready ne = absurd (ne refl)

abbrev pub is_chosen : Stand → Bool
is_chosen (Chosen mode) = true
is_chosen other = false

-- It sleeps, and was taken off its list by another that hasn't told it yet what for.
pub record IsAwaited (n : ℕ) (at : QueuePosition) (us : List ℕ) (p : RwPhase) : Type 0 where
  pub by : ℕ
  pub off : at ≡ QueuePosition.Off by WakeResult.Nothing
  pub key : ℕ
  pub token : ParkToken
  pub asleep : rw_stance p ≡ Asleep key token
  pub owner : owner_of (of_rw.owns n p) (of_rw.does (rw_spot at) us p) ≡ Reading n
  -- whomever it has taken
  pub chosen : (vs : List ℕ) → is_chosen (stand_of (of_rw.does (rw_spot at) vs p)) ≡ true

pub chosen_sleeps : (n : ℕ) (at : QueuePosition) (us : List ℕ) (p : RwPhase)
    → is_chosen (stand_of (of_rw.does (rw_spot at) us p)) ≡ true → IsAwaited n at us p
chosen_sleeps n at us (RwPhase.Locking want) is = absurd (false≢true is)
chosen_sleeps n at us (RwPhase.Trying want) is = absurd (false≢true is)
chosen_sleeps n at us RwPhase.UnlockingShared is = absurd (false≢true is)
chosen_sleeps n at us (RwPhase.UnlockingExclusive fair) is = absurd (false≢true is)
chosen_sleeps n at us RwPhase.Downgrading is = absurd (false≢true is)
chosen_sleeps n at us RwPhase.BumpingShared is = absurd (false≢true is)
chosen_sleeps n at us RwPhase.BumpingExclusive is = absurd (false≢true is)
chosen_sleeps n at us (RwPhase.Loads a) is = absurd (false≢true is)
chosen_sleeps n at us (RwPhase.Admits a word) is = absurd (false≢true is)
chosen_sleeps n at us (RwPhase.Spins a) is = absurd (false≢true is)
chosen_sleeps n at us (RwPhase.SetParked a word) is = absurd (false≢true is)
chosen_sleeps n at us (RwPhase.Enters want woken) is = absurd (false≢true is)
chosen_sleeps n at us (RwPhase.Checks want woken) is = absurd (false≢true is)
chosen_sleeps n at us (RwPhase.Retreats want woken) is = absurd (false≢true is)
chosen_sleeps n at us (RwPhase.Appends want) is = absurd (false≢true is)
chosen_sleeps n at us (RwPhase.Rests want) is = absurd (false≢true is)
chosen_sleeps n QueuePosition.Listed us (RwPhase.Sleeps want) is = absurd (false≢true is)
chosen_sleeps n (QueuePosition.Off by WakeResult.Nothing) us (RwPhase.Sleeps want) is =
    record { by = by; off = refl; key = 0; token = _; asleep = refl; owner = refl; chosen = λ vs. refl }
chosen_sleeps n (QueuePosition.Off by WakeResult.TryAgain) us (RwPhase.Sleeps want) is = absurd (false≢true is)
chosen_sleeps n (QueuePosition.Off by WakeResult.HandedOver) us (RwPhase.Sleeps want) is = absurd (false≢true is)
chosen_sleeps n at us (RwPhase.DrainLoads d) is = absurd (false≢true is)
chosen_sleeps n at us (RwPhase.DrainSpins d) is = absurd (false≢true is)
chosen_sleeps n at us (RwPhase.DrainSetParked d word) is = absurd (false≢true is)
chosen_sleeps n at us (RwPhase.DrainEnters d) is = absurd (false≢true is)
chosen_sleeps n at us (RwPhase.DrainChecks d) is = absurd (false≢true is)
chosen_sleeps n at us (RwPhase.DrainRetreats d) is = absurd (false≢true is)
chosen_sleeps n at us (RwPhase.DrainAppends rounds) is = absurd (false≢true is)
chosen_sleeps n at us (RwPhase.DrainRests rounds) is = absurd (false≢true is)
chosen_sleeps n QueuePosition.Listed us (RwPhase.DrainSleeps rounds) is = absurd (false≢true is)
chosen_sleeps n (QueuePosition.Off by WakeResult.Nothing) us (RwPhase.DrainSleeps rounds) is = absurd (false≢true is)
chosen_sleeps n (QueuePosition.Off by WakeResult.TryAgain) us (RwPhase.DrainSleeps rounds) is = absurd (false≢true is)
chosen_sleeps n (QueuePosition.Off by WakeResult.HandedOver) us (RwPhase.DrainSleeps rounds) is = absurd (false≢true is)
chosen_sleeps n at us (RwPhase.TryLoads want) is = absurd (false≢true is)
chosen_sleeps n at us (RwPhase.TryAdmits want word left) is = absurd (false≢true is)
chosen_sleeps n at us (RwPhase.Refuses want) is = absurd (false≢true is)
chosen_sleeps n at us (RwPhase.BumpLoads want) is = absurd (false≢true is)
chosen_sleeps n at us (RwPhase.Relocks want) is = absurd (false≢true is)
chosen_sleeps n at us (RwPhase.Unshares rest) is = absurd (false≢true is)
chosen_sleeps n at us (RwPhase.EnterWriterWakeSection rest) is = absurd (false≢true is)
chosen_sleeps n at us (RwPhase.TakeWriter rest) is = absurd (false≢true is)
chosen_sleeps n at us (RwPhase.ClearWriterParked rest taken) is = absurd (false≢true is)
chosen_sleeps n at us (RwPhase.LeaveWriterWakeSection rest taken) is = absurd (false≢true is)
chosen_sleeps n at us (RwPhase.Unlocks fair rest) is = absurd (false≢true is)
chosen_sleeps n at us (RwPhase.LooksExclusive fair rest) is = absurd (false≢true is)
chosen_sleeps n at us RwPhase.Downgrades is = absurd (false≢true is)
chosen_sleeps n at us RwPhase.EnterWakeSection is = absurd (false≢true is)
chosen_sleeps n at us (RwPhase.Scans s) is = absurd (false≢true is)
chosen_sleeps n at us (RwPhase.Stores s left) is = absurd (false≢true is)
chosen_sleeps n at us (RwPhase.Leaves rest count handed) is = absurd (false≢true is)
chosen_sleeps n at us (RwPhase.Wakes rest count) is = absurd (false≢true is)
chosen_sleeps n at us (RwPhase.Finishes rest) is = absurd (false≢true is)
chosen_sleeps n at us (RwPhase.Ends outcome) is = absurd (false≢true is)
chosen_sleeps n at us RwPhase.Invalid is = absurd (false≢true is)
