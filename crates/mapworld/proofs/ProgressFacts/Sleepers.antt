-- What a thread sleeps on: one of the two keys of the lock that it asks for. So one that gives a lock back never
-- sleeps.
use Rattle.std.proofs.Common.{◌≡◌, ◌≢◌, ◌⊎◌, ℕ, zero, suc, Bool, inl, inr, true, false, List, [], ◌∷◌, Option, Some}
use Rattle.std.proofs.Common.{None}
use Rattle.std.proofs.Common.{slice_get, refl, sym, ◌∙◌, subst}
use Rattle.std.specs.List.{All}
use Rattle.std.proofs.lemmas.List.Elements.{All-head, All-tail}
use Rattle.std.proofs.lemmas.Option.{none-some, same_Some}
use Rattle.lock_api_desk.specs.declared.mode.Mode.{Mode}
use Rattle.parking_lot_core_model.specs.declared.parking.ParkToken.{ParkToken}
use Rattle.parking_lot_protocol.specs.declared.rw_phase.RwPhase.{RwPhase}
use Rattle.parking_lot_machine_calls.specs.Kinds.{AsMutex, manner_of, recursive_in}
use Rattle.parking_lot_machine_calls.specs.declared.calls.LockKind.{LockKind}
use Rattle.parking_lot_machine_calls.specs.declared.open_call.Call.{Call}
use Rattle.parking_lot_machine_calls.specs.declared.seat.Core.{Core}
use Rattle.parking_lot_machine.specs.Machines.{is_asleep, is_asleep_in}
use Rattle.parking_lot_machine_calls.specs.CallKinds.{IsOfKind}
use Rattle.parking_lot_machine.specs.Rows.{State, call_at, state}
use Rattle.parking_lot_machine_calls.specs.Stances.{Stance, Asleep, rw_asleep, rw_stance, stance}
use Rattle.mapworld_state.proofs.LocksFacts.Handing.{goes_by, no_mutex}
use Rattle.mapworld_state.specs.Locks.Aims.{Aim, Gets, aim_of}
use Rattle.mapworld_state.specs.Locks.Fits.{LocksFit, is_plain}
use Rattle.mapworld_state.proofs.LocksFacts.Staging.{asking_gets, sleeper_asks}
use Rattle.mapworld_state.proofs.LocksFacts.Giving.{yields_awake}
use Rattle.parking_lot_machine.specs.CallLaws.Stages.{core_stage}
use Rattle.parking_lot_machine.specs.RowFits.{IsPrepared}
use Rattle.std.proofs.lemmas.Bool.{false≢true}
use Rattle.parking_lot_machine_calls.specs.Calls.{is_timed}
use Rattle.parking_lot_machine_calls.specs.LateCalls.{sleeps_in_time}
use Rattle.mapworld_state.specs.Locks.Views.{Shown}

-- what is so of all elements is so of each
pub all_at : {X : Type 0} (P : X → Type 0) (xs : List X) (i : ℕ) (x : X) → All P xs → slice_get xs i ≡ Some x → P x
all_at P [] i x all at = absurd (none-some x at)
all_at P (y ∷ ys) zero x all at = subst P (same_Some y x at) (All-head P y ys all)
all_at P (y ∷ ys) (suc i) x all at = all_at P ys i x (All-tail P y ys all) at

-- a thread that asks for a lock sleeps on one of its keys
pub record SleepsOn (at : Stance) (aim : Aim) : Type 0 where
  pub key : ℕ
  pub low : (key ≡ 0) ⊎ (key ≡ 1)
  pub token : ParkToken
  pub stance_is : at ≡ Asleep key token
  pub mode : Mode
  pub aim_is : aim ≡ Gets mode

-- who sleeps does so on one of the two keys
record Rests (at : Stance) : Type 0 where
  key : ℕ
  low : (key ≡ 0) ⊎ (key ≡ 1)
  token : ParkToken
  stance_is : at ≡ Asleep key token

rw_rests : (p : RwPhase) → rw_asleep p ≡ true → Rests (rw_stance p)
rw_rests (RwPhase.Sleeps want) h = record { key = 0; low = inl refl; token = _; stance_is = refl }
rw_rests (RwPhase.DrainSleeps rounds) h = record { key = 1; low = inr refl; token = _; stance_is = refl }
rw_rests p h = absurd cc

core_rests : (timed recursive : Bool) (n : ℕ) (k : Core) (o : Option LockKind) → is_plain timed k ≡ true
    → manner_of o ≢ Some AsMutex → IsOfKind o k → IsPrepared recursive n k → sleeps_in_time k ≡ true
    → Rests (stance k)
core_rests timed recursive n (Core.Rw c) o so rw of_kind ready h = rw_rests c.phase h
core_rests timed recursive n (Core.Mutex c) o so rw of_kind ready h = absurd (rw of_kind)
core_rests timed recursive n (Core.Late c) o so rw of_kind ready h = absurd (rw of_kind)
core_rests timed recursive n (Core.LateRw p) o so rw of_kind ready h = absurd cc
core_rests true recursive n (Core.Upgrade c) o so rw of_kind ready h =
    absurd (false≢true (sym (yields_awake c.phase so ready.1) ∙ h))
core_rests false recursive n (Core.Upgrade c) o so rw of_kind ready h = absurd cc

module _ (locks : Shown) (fit : LocksFit locks) (t : ℕ) where
  abbrev s : State
  s = state locks.rows

  all_rw : (i : ℕ) → manner_of (slice_get s.kinds i) ≢ Some AsMutex
  all_rw i e = no_mutex (goes_by s i AsMutex fit.plain.kinds e)

  -- the call in which a thread sleeps
  sleeper-by : (o : Option Call) → call_at s t ≡ o → is_asleep_in o ≡ true → (c : Call) × (call_at s t ≡ Some c)
      × SleepsOn (stance c.core) (aim_of c.asked)
  sleeper-by None there h = cc
  sleeper-by (Some c) there h =
      let ready = fit.fits.rules.prepared t c there in
      let on = core_rests (is_timed c.asked) (recursive_in s.kinds c.lock) c.others c.core (slice_get s.kinds c.lock)
      (fit.plain.cores t c there) (all_rw c.lock) (fit.fits.rules.kinds t c there) ready h in
      let gets = asking_gets c.asked (fit.plain.asked t c there) (core_stage 0 c.core) (is_timed c.asked)
      (fit.plain.stands t c there)
      (sleeper_asks (is_timed c.asked) (recursive_in s.kinds c.lock) 0 c.core on.key on.token
      (fit.plain.cores t c there)
      (subst (λ n. IsPrepared (recursive_in s.kinds c.lock) n c.core) (fit.plain.alone t c there) ready)
      on.stance_is) in (
        c,
        there,
        record {
          key = on.key;
          low = on.low;
          token = on.token;
          stance_is = on.stance_is;
          mode = gets.0;
          aim_is = gets.1;
        },
      )

  pub sleeper : is_asleep s t ≡ true → (c : Call) × (call_at s t ≡ Some c) × SleepsOn (stance c.core) (aim_of c.asked)
  sleeper h = sleeper-by (call_at s t) refl h
