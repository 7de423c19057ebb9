-- A release or a downgrade that has begun makes its first act at once, and after the first act of a downgrade the hold
-- is a shared one.
use Rattle.std.proofs.Common.{◌≡◌, ◌≢◌, ℕ, ◌<◌, ◌||◌, Bool, true, false, cond, List, length, Option, Some, None, refl}
use Rattle.std.proofs.Common.{sym, ap, ◌∙◌, subst, inl, inr}
use Rattle.std.specs.Option.{option_and_then, option_map, option_map_or}
use Rattle.std.proofs.lemmas.Bool.{false≢true}
use Rattle.std.proofs.lemmas.Option.{same_Some}
use Rattle.lock_api_desk.specs.declared.mode.Mode.TheVariants as held
use Rattle.parking_lot_protocol.specs.declared.act.ActResult.{ActResult}
use Rattle.parking_lot_protocol.specs.declared.rw_core.RwCore.{RwCore}
use Rattle.parking_lot_protocol.specs.declared.rw_phase.Outcome.{Outcome}
use Rattle.parking_lot_protocol.specs.declared.rw_phase.RwPhase.{RwPhase}
use Rattle.parking_lot_protocol.specs.Acts.{word_before}
use Rattle.parking_lot_protocol.specs.RwRules as of_rw
use Rattle.parking_lot_protocol.specs.RwTable.{is_parked}
use Rattle.parking_lot_machine_calls.specs.declared.calls.LockKind.{LockKind}
use Rattle.parking_lot_machine_calls.specs.Kinds.{kind_in, recursive_in}
use Rattle.parking_lot_machine_calls.specs.declared.calls.LockCall.{LockCall}
use Rattle.parking_lot_machine_calls.specs.declared.open_call.Call.{Call}
use Rattle.parking_lot_machine_calls.specs.declared.seat.Core.{Core}
use Rattle.parking_lot_machine_calls.specs.Beginnings.{core_of}
use Rattle.parking_lot_machine_calls.specs.CallViews.{rw_mode}
use Rattle.parking_lot_machine_calls.specs.LateCalls.{comes_late}
use Rattle.parking_lot_machine.specs.Machines.{call_for, can_move, can_move_in, end_of, ended}
use Rattle.parking_lot_machine.specs.Machines.{is_possible}
use Rattle.parking_lot_machine_calls.specs.CallActs.{hears}
use Rattle.parking_lot_machine.specs.RowActs.{begun}
use Rattle.parking_lot_machine.specs.RowFits.{FitsTogether}
use Rattle.parking_lot_machine.specs.Rows.{State, call_at, taken_by}
use Rattle.parking_lot_machine_calls.specs.CallRoles.{rw_core_role, rw_spot}
use Rattle.parking_lot_machine_calls.specs.Stances.{core_act, core_next}
use Rattle.mapworld_state.specs.Locks.Fits.{IsPlain}
use Rattle.mapworld_state.specs.Locks.Stands.{gives}
use Rattle.mapworld_state.specs.Locks.Steps.{HasActed}
use Rattle.mapworld_state.specs.Locks.Views.{held_as, held_at}
use Rattle.mapworld_state.proofs.LocksFacts.Calls.{Hears}
use Rattle.mapworld_state.proofs.LocksFacts.Standing.{GoesOnBy, own_call, set_low}
use Rattle.mapworld_state.proofs.LocksFacts.Ending.{call_holds}
use Rattle.parking_lot_machine.specs.RowFits.{IsPrepared}

or_else : (a : Bool) {b : Bool} → b ≡ true → (a || b) ≡ true
or_else true e = refl
or_else false e = e

-- the call that it is in once it has begun
pub begun_call : (s u : State) (t i : ℕ) (call : LockCall) → t < length s.calls
    → u ≡ begun s t (call_for s t i call) → call_at u t ≡ Some (hears (call_for s t i call) ActResult.Start)
begun_call s u t i call low x =
    ap (λ (w : State). call_at w t) x ∙ set_low s.calls t (Some (hears (call_for s t i call) ActResult.Start))
    low

first_possible : (taken : ℕ → Bool) (x : LockKind) (call : LockCall) → gives call ≡ true
    → is_possible taken (core_act (core_next (core_of x call) ActResult.Start)) ≡ true
first_possible taken x LockCall.Lock is = absurd (false≢true is)
first_possible taken x LockCall.TryLock is = absurd (false≢true is)
first_possible taken x LockCall.LockUntil is = absurd (false≢true is)
first_possible taken x LockCall.Unlock is = absurd (false≢true is)
first_possible taken x LockCall.Read is = absurd (false≢true is)
first_possible taken x LockCall.TryRead is = absurd (false≢true is)
first_possible taken x LockCall.UnlockRead is = refl
first_possible taken x LockCall.Write is = absurd (false≢true is)
first_possible taken x LockCall.TryWrite is = absurd (false≢true is)
first_possible taken x LockCall.UnlockWrite is = refl
first_possible taken x LockCall.Downgrade is = refl
first_possible taken x LockCall.UpgradableRead is = absurd (false≢true is)
first_possible taken x LockCall.TryUpgradableRead is = absurd (false≢true is)
first_possible taken x LockCall.UnlockUpgradable is = absurd (false≢true is)
first_possible taken x LockCall.Upgrade is = absurd (false≢true is)
first_possible taken x LockCall.TryUpgrade is = absurd (false≢true is)
first_possible taken x LockCall.DowngradeToUpgradable is = absurd (false≢true is)
first_possible taken x LockCall.DowngradeUpgradable is = absurd (false≢true is)
first_possible taken x LockCall.ReadUntil is = absurd (false≢true is)
first_possible taken x LockCall.WriteUntil is = absurd (false≢true is)
first_possible taken x LockCall.UpgradableUntil is = absurd (false≢true is)
first_possible taken x LockCall.UpgradeUntil is = absurd (false≢true is)

first_open : (x : LockKind) (call : LockCall) → gives call ≡ true
    → end_of (core_act (core_next (core_of x call) ActResult.Start)) ≡ None
first_open x LockCall.Lock is = absurd (false≢true is)
first_open x LockCall.TryLock is = absurd (false≢true is)
first_open x LockCall.LockUntil is = absurd (false≢true is)
first_open x LockCall.Unlock is = absurd (false≢true is)
first_open x LockCall.Read is = absurd (false≢true is)
first_open x LockCall.TryRead is = absurd (false≢true is)
first_open x LockCall.UnlockRead is = refl
first_open x LockCall.Write is = absurd (false≢true is)
first_open x LockCall.TryWrite is = absurd (false≢true is)
first_open x LockCall.UnlockWrite is = refl
first_open x LockCall.Downgrade is = refl
first_open x LockCall.UpgradableRead is = absurd (false≢true is)
first_open x LockCall.TryUpgradableRead is = absurd (false≢true is)
first_open x LockCall.UnlockUpgradable is = absurd (false≢true is)
first_open x LockCall.Upgrade is = absurd (false≢true is)
first_open x LockCall.TryUpgrade is = absurd (false≢true is)
first_open x LockCall.DowngradeToUpgradable is = absurd (false≢true is)
first_open x LockCall.DowngradeUpgradable is = absurd (false≢true is)
first_open x LockCall.ReadUntil is = absurd (false≢true is)
first_open x LockCall.WriteUntil is = absurd (false≢true is)
first_open x LockCall.UpgradableUntil is = absurd (false≢true is)
first_open x LockCall.UpgradeUntil is = absurd (false≢true is)

module _ (s mid : State) (t i : ℕ) (call : LockCall) (low : t < length s.calls)
    (x : mid ≡ begun s t (call_for s t i call)) where
  pub can_start : gives call ≡ true → can_move mid t ≡ true
  can_start is = ap (can_move_in mid) (begun_call s mid t i call low x)
      ∙ or_else _ (first_possible _ (kind_in s.kinds i) call is)

  pub is_open : gives call ≡ true → ended mid t ≡ None
  is_open is = ap (option_and_then (λ (c : Call). end_of (core_act c.core))) (begun_call s mid t i call low x)
      ∙ first_open (kind_in s.kinds i) call is

-- A DOWNGRADE

turned_mode : (at : of_rw.QueuePosition) (us : List ℕ) (seen : Option ℕ) (p : RwPhase)
    → p ≡ option_map_or (λ q. q)
    (option_map (λ word. cond (is_parked word) RwPhase.EnterWakeSection (RwPhase.Ends Outcome.Downgraded)) seen)
    RwPhase.Invalid → p ≢ RwPhase.Invalid
    → held_as (rw_mode (of_rw.role 0 at us p)) ≡ Some held.Shared
turned_mode at us None p e ne = absurd (ne e)
turned_mode at us (Some word) p e ne = ap (λ q. held_as (rw_mode (of_rw.role 0 at us q))) e ∙ by (is_parked word)
  where
    by : (b : Bool) → held_as
        (rw_mode (of_rw.role 0 at us (cond b RwPhase.EnterWakeSection (RwPhase.Ends Outcome.Downgraded)))) ≡ Some
        held.Shared
    by true = refl
    by false = refl

core_turned : (recursive : Bool) (at : _) (us : List ℕ) (k : Core) (told : ActResult)
    → k ≡ core_next (Core.Rw (record { phase = RwPhase.Downgrades })) told → IsPrepared recursive 0 k
    → held_as (rw_mode (rw_core_role 0 at us k)) ≡ Some held.Shared
core_turned recursive at us k told e ready =
    ap (λ x. held_as (rw_mode (rw_core_role 0 at us x))) e
    ∙ turned_mode (rw_spot at) us (word_before told) _ refl
    (λ led. absurd (subst (λ p. IsPrepared recursive 0 (Core.Rw (record { phase = p }))) led
    (subst (IsPrepared recursive 0) e ready)).1)

-- one that reads or writes was told something
rw_heard : (k m : Core) (c : RwCore) → k ≡ Core.Rw c → Hears k m → (told : ActResult) × (m ≡ core_next (Core.Rw c) told)
rw_heard k m c is (inl (told, core)) = (told, core ∙ ap (λ x. core_next x told) is)
rw_heard k m c is (inr (by, handed, comes, core)) = absurd (false≢true (ap comes_late (sym is) ∙ comes))

pub start_turns : (s mid u : State) (t i : ℕ) (call : LockCall) (fair : Bool) → t < length s.calls
    → mid ≡ begun s t (call_for s t i call) → HasActed t fair None mid u → FitsTogether u → IsPlain u
    → call ≡ LockCall.Downgrade → held_at u i t ≡ Some held.Shared
start_turns s mid u t i call fair low begins x fits plain is =
    let own : GoesOnBy x.call (call_at u t) = own_call mid u t fair x in
    let begun : hears (call_for s t i call) ActResult.Start ≡ x.call =
    same_Some _ x.call (sym (begun_call s mid t i call low begins) ∙ x.here) in
    let lock : own.call.lock ≡ i = own.lock ∙ sym (ap (λ (c : Call). c.lock) begun) in
    let was : x.call.core ≡ Core.Rw (record { phase = RwPhase.Downgrades }) = ap (λ (c : Call). c.core) (sym begun)
    ∙ ap (λ k. core_next (core_of (kind_in s.kinds i) k) ActResult.Start) is in
    let heard = rw_heard x.call.core own.call.core (record { phase = RwPhase.Downgrades }) was own.heard in
    let core : own.call.core ≡ core_next (Core.Rw (record { phase = RwPhase.Downgrades })) heard.0 = heard.1 in
    ap (λ n. held_at u n t) (sym lock)
    ∙ call_holds u t own.call plain own.there
    ∙ core_turned (recursive_in u.kinds own.call.lock) own.call.spot (taken_by u.wakes t) own.call.core heard.0 core
    (subst (λ n. IsPrepared (recursive_in u.kinds own.call.lock) n own.call.core) (plain.alone t own.call own.there)
    (fits.rules.prepared t own.call own.there))
