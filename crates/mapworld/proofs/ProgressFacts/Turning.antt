-- What a thread can do in its world and at its lock.
use Rattle.std.proofs.Common.{◌≡◌, ℕ, ◌<◌, ◌≤◌, inl, inr, ◌||◌, Bool, true, false, List, Option, None, Some, is_none}
use Rattle.std.proofs.Common.{length, slice_get, refl, sym, ap, ◌∙◌, subst, arith}
use Rattle.std.specs.Option.{option_and_then, option_map}
use Rattle.std.proofs.lemmas.Bool.{false≢true}
use Rattle.std.proofs.lemmas.Option.{none-some, slice_get_cases}
use Rattle.parking_lot_machine.proofs.WakesPaying.{any_may_be_stepped}
use Rattle.parking_lot_machine_calls.specs.declared.open_call.Call.{Call}
use Rattle.parking_lot_machine.specs.Machines.{can_move}
use Rattle.parking_lot_machine.specs.Machines as machine
use Rattle.parking_lot_machine.specs.Rows.{call_at, state}
use Rattle.parking_lot_machine.specs.Rows as rows
use Rattle.mapworld_calls.specs.Setup.{Setup}
use Rattle.mapworld_state.specs.Locks.Stands.{Stand, stand_in, stand_of}
use Rattle.mapworld_state.specs.declared.place.Phase.{Phase}
use Rattle.mapworld_state.specs.declared.place.Phase.TheVariants as phase
use Rattle.mapworld_state.specs.Held.{HoldsMatch, StandsBefore}
use Rattle.mapworld_state.specs.Places.{Place}
use Rattle.mapworld_state.specs.Running.{can_move_in, moves_at, moves_before}
use Rattle.mapworld_state.specs.State.{State}
use Rattle.mapworld_state.proofs.InvariantFacts.Holding.{stand-at}
use Rattle.mapworld.specs.Progress.Left.{left}
use Rattle.mapworld.specs.Progress.Whole.{IsWhole}

or_false : (a b : Bool) → (a || b) ≡ false → b ≡ false
or_false true b e = absurd (false≢true (sym e))
or_false false b e = e

or_true : (a b : Bool) → b ≡ true → (a || b) ≡ true
or_true true b e = refl
or_true false b e = e

-- one that is in no call
pub no-call : (o : Option Call) → option_map stand_of o ≡ None → o ≡ None
no-call None e = refl
no-call (Some c) e = absurd (none-some (stand_of c) (sym e))

-- A THREAD'S PLACE, AND THE CALL THAT IT IS IN

pub place-there : {X : Type 0} (xs : List X) (t : ℕ) → t < length xs → (x : X) × (slice_get xs t ≡ Some x)
place-there xs t low =
    elim (slice_get_cases xs t).1 [ inl at ↦ (at.0, at.2) | inr past ↦ absurd (omega (arith, low, past.0)) ]

pub in-call-within : (s : rows.State) (t : ℕ) (c : Call) → call_at s t ≡ Some c → t < length s.calls
in-call-within s t c e = elim (slice_get_cases s.calls t).1 [
  | inl at ↦ at.1
  | inr past ↦ absurd (none-some c (sym (ap (option_and_then (λ (o : Option Call). o)) past.1) ∙ e))
]

pub beyond-no-call : (s : rows.State) (t : ℕ) → length s.calls ≤ t → (o : Option Call) → call_at s t ≡ o → o ≡ None
beyond-no-call s t past None e = refl
beyond-no-call s t past (Some c) e = absurd (omega (arith, past, in-call-within s t c e))

module _ {K V S D T A : Type 0} (x : Setup K V D T) (w : State K V S D T A) (whole : IsWhole x w) where
  abbrev s : rows.State
  s = state w.locks.rows

  abbrev holds : HoldsMatch w.places w.locks
  holds = whole.sound.holds

  pub no-stand : (t : ℕ) → stand_in w.locks t ≡ None → call_at s t ≡ None
  no-stand t e = no-call (call_at s t) e

  pub place-of : (t : ℕ) (c : Call) → call_at s t ≡ Some c → (p : Place K V D T A) × (slice_get w.places t ≡ Some p)
  place-of t c e = place-there w.places t (omega (arith, in-call-within s t c e, whole.sizes.locks.threads_are))

  module _ (t : ℕ) (p : Place K V D T A) (at : slice_get w.places t ≡ Some p) where
    pub moves-as : (f : Phase K V D T A) → p.phase ≡ f → can_move_in w t ≡ moves_before w.locks t (length p.asks) f
    moves-as f before = ap (λ o. moves_at w.locks t o) at ∙ ap (λ z. moves_before w.locks t (length p.asks) z) before

    -- where it can't move in the world, it can't move at its lock
    stops-by : (f : Phase K V D T A) → p.phase ≡ f → can_move_in w t ≡ false → can_move s t ≡ false
    stops-by phase.Rest before stops =
        ap (machine.can_move_in s) (no-stand t (stand-at w.places w.locks holds t p at phase.Rest before))
    stops-by (phase.Admit r) before stops = or_false (is_none (call_at s t)) (can_move s t)
        (sym (moves-as (phase.Admit r) before) ∙ stops)
    stops-by (phase.Idle f) before stops = or_false (is_none (call_at s t)) (can_move s t)
        (sym (moves-as (phase.Idle f) before) ∙ stops)
    stops-by (phase.Reach f) before stops = or_false (is_none (call_at s t)) (can_move s t)
        (sym (moves-as (phase.Reach f) before) ∙ stops)
    stops-by (phase.Visit f) before stops = or_false (is_none (call_at s t)) (can_move s t)
        (sym (moves-as (phase.Visit f) before) ∙ stops)
    stops-by (phase.Onward f) before stops = or_false (is_none (call_at s t)) (can_move s t)
        (sym (moves-as (phase.Onward f) before) ∙ stops)
    stops-by (phase.Answer a) before stops = or_false (is_none (call_at s t)) (can_move s t)
        (sym (moves-as (phase.Answer a) before) ∙ stops)
    stops-by (phase.Find r) before stops = absurd (false≢true (sym stops ∙ moves-as (phase.Find r) before))
    stops-by (phase.Grow c) before stops = absurd (false≢true (sym stops ∙ moves-as (phase.Grow c) before))
    stops-by (phase.Append k v) before stops = absurd (false≢true (sym stops ∙ moves-as (phase.Append k v) before))
    stops-by (phase.Apply k) before stops = absurd (false≢true (sym stops ∙ moves-as (phase.Apply k) before))
    stops-by (phase.View k d) before stops = absurd (false≢true (sym stops ∙ moves-as (phase.View k d) before))
    stops-by (phase.Read d) before stops = absurd (false≢true (sym stops ∙ moves-as (phase.Read d) before))
    stops-by (phase.Change h) before stops = absurd (false≢true (sym stops ∙ moves-as (phase.Change h) before))
    stops-by (phase.Fill v) before stops = absurd (false≢true (sym stops ∙ moves-as (phase.Fill v) before))
    stops-by phase.Downgrade before stops = absurd (false≢true (sym stops ∙ moves-as phase.Downgrade before))
    stops-by (phase.Part f) before stops = absurd (false≢true (sym stops ∙ moves-as (phase.Part f) before))
    stops-by (phase.Seek f) before stops = absurd (false≢true (sym stops ∙ moves-as (phase.Seek f) before))
    stops-by (phase.Item f) before stops = absurd (false≢true (sym stops ∙ moves-as (phase.Item f) before))
    stops-by (phase.Give f) before stops = absurd (false≢true (sym stops ∙ moves-as (phase.Give f) before))
    stops-by (phase.Release a) before stops = absurd (false≢true (sym stops ∙ moves-as (phase.Release a) before))

    -- and where it can move at its lock, it can move in the world
    moves-by : (f : Phase K V D T A) → p.phase ≡ f → (stand : Stand) → StandsBefore p f (Some stand)
        → can_move s t ≡ true → can_move_in w t ≡ true
    moves-by phase.Rest before stand stood can = absurd (none-some stand (sym stood))
    moves-by (phase.Idle f) before stand stood can = absurd (none-some stand (sym stood))
    moves-by (phase.Admit r) before stand stood can = moves-as (phase.Admit r) before
        ∙ or_true (is_none (call_at s t)) (can_move s t) can
    moves-by (phase.Reach f) before stand stood can = moves-as (phase.Reach f) before
        ∙ or_true (is_none (call_at s t)) (can_move s t) can
    moves-by (phase.Visit f) before stand stood can = moves-as (phase.Visit f) before
        ∙ or_true (is_none (call_at s t)) (can_move s t) can
    moves-by (phase.Onward f) before stand stood can = moves-as (phase.Onward f) before
        ∙ or_true (is_none (call_at s t)) (can_move s t) can
    moves-by (phase.Answer a) before stand stood can = moves-as (phase.Answer a) before
        ∙ or_true (is_none (call_at s t)) (can_move s t) can
    moves-by (phase.Find r) before stand stood can = absurd (none-some stand (sym stood))
    moves-by (phase.Grow c) before stand stood can = absurd (none-some stand (sym stood))
    moves-by (phase.Append k v) before stand stood can = absurd (none-some stand (sym stood))
    moves-by (phase.Apply k) before stand stood can = absurd (none-some stand (sym stood))
    moves-by (phase.View k d) before stand stood can = absurd (none-some stand (sym stood))
    moves-by (phase.Read d) before stand stood can = absurd (none-some stand (sym stood))
    moves-by (phase.Change h) before stand stood can = absurd (none-some stand (sym stood))
    moves-by (phase.Fill v) before stand stood can = absurd (none-some stand (sym stood))
    moves-by phase.Downgrade before stand stood can = absurd (none-some stand (sym stood))
    moves-by (phase.Part f) before stand stood can = absurd (none-some stand (sym stood))
    moves-by (phase.Seek f) before stand stood can = absurd (none-some stand (sym stood))
    moves-by (phase.Item f) before stand stood can = absurd (none-some stand (sym stood))
    moves-by (phase.Give f) before stand stood can = absurd (none-some stand (sym stood))
    moves-by (phase.Release a) before stand stood can = absurd (none-some stand (sym stood))

    moves-standing : (stand : Stand) → stand_in w.locks t ≡ Some stand → can_move s t ≡ true → can_move_in w t ≡ true
    moves-standing stand is can =
        moves-by p.phase refl stand (subst (λ (o : Option Stand). StandsBefore p p.phase o) is (holds.stands t p at))
        can

  pub stops-there : (t : ℕ) → can_move_in w t ≡ false → can_move s t ≡ false
  stops-there t stops = elim (slice_get_cases w.places t).1 [
    | inl at ↦ stops-by t at.0 at.2 at.0.phase refl stops
    | inr past ↦ ap (machine.can_move_in s)
        (beyond-no-call s t (omega (arith, past.0, whole.sizes.locks.threads_are)) (call_at s t) refl)
  ]

  can-there : (t : ℕ) (o : Option Call) → call_at s t ≡ o → machine.can_move_in s o ≡ true → can_move_in w t ≡ true
  can-there t None is can = absurd (false≢true can)
  can-there t (Some c) is can = let at = place-of t c is in moves-standing t at.0 at.1 (stand_of c)
      (ap (option_map stand_of) is) (ap (machine.can_move_in s) is ∙ can)

  pub moves-there : (t : ℕ) → can_move s t ≡ true → can_move_in w t ≡ true
  moves-there t can = can-there t (call_at s t) refl can

  pub others_go_on : (t : ℕ) → can_move_in w t ≡ false → (u : ℕ) → left x w u ≤ left x w t
  others_go_on t stops u = let few = any_may_be_stepped s whole.locks.fits t (stops-there t stops) u in
      omega (arith, few)
