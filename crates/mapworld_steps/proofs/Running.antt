-- Where a thread stands, by the phase that it is before, and whether it can move.
use Rattle.std.proofs.Common.{◌≡◌, ℕ, zero, suc, ◌<◌, ◌==◌, Bool, true, false, not, ◌||◌, Option, Some, None, is_some}
use Rattle.std.proofs.Common.{is_none, List, length, slice_get, refl, sym, ap, ◌∙◌, arith}
use Rattle.std.specs.Option.{option_map}
use Rattle.std.proofs.lemmas.Bool.{false≢true}
use Rattle.std.proofs.lemmas.Option.{same_Some}
use Rattle.parking_lot_machine.specs.Rows.{state, call_at}
use Rattle.parking_lot_machine.specs.Machines.{can_move}
use Rattle.mapworld_state.specs.Locks.Views.{Shown}
use Rattle.mapworld_state.specs.Locks.Stands.{Stand, stand_in, stand_of}
use Rattle.mapworld_state.specs.declared.place.Phase.{Phase}
use Rattle.mapworld_state.specs.declared.place.Phase.TheVariants as phase
use Rattle.mapworld_state.specs.Places.{Place}
use Rattle.mapworld_state.specs.State.{State}
use Rattle.mapworld_state.specs.Core.{IsBefore}
use Rattle.mapworld_state.specs.Running.{moves_before, moves_at, goes_on, can_move_in}

not-true : (b : Bool) → not b ≡ true → b ≡ false
not-true true e = absurd (false≢true e)
not-true false e = refl

-- a list that isn't empty has an element
pub some_left : (n : ℕ) → (n == 0) ≡ false → 0 < n
some_left zero e = absurd (false≢true (sym e))
some_left (suc n) e = omega arith

-- whether a thread is in a call at a lock
none-mapped : {X Y : Type 0} (f : X → Y) (o : Option X) → is_none o ≡ not (is_some (option_map f o))
none-mapped f None = refl
none-mapped f (Some x) = refl

pub in-no-call : (locks : Shown) (t : ℕ) → is_none (call_at (state locks.rows) t) ≡ not (is_some (stand_in locks t))
in-no-call locks t = none-mapped stand_of (call_at (state locks.rows) t)

pub stand-none : {X : Type 0} (o : Option X) → is_some o ≡ false → o ≡ None
stand-none None e = refl
stand-none (Some x) e = absurd (false≢true (sym e))

module _ {K V S D T A : Type 0} (w : State K V S D T A) (t : ℕ) (p : Place K V D T A)
    (here : slice_get w.places t ≡ Some p) (moves : can_move_in w t ≡ true) where
  moves-here : (f : Phase K V D T A) → p.phase ≡ f → moves_before w.locks t (length p.asks) f ≡ true
  moves-here f before =
      sym (ap (λ o. moves_at w.locks t o) here ∙ ap (λ z. moves_before w.locks t (length p.asks) z) before) ∙ moves

  -- one that can move between two calls has a call left
  pub has-calls : p.phase ≡ phase.Rest → 0 < length p.asks
  has-calls before = some_left (length p.asks) (not-true (length p.asks == 0) (moves-here phase.Rest before))

  -- one that can move at a lock can do so there
  pub goes-on : (f : Phase K V D T A) → p.phase ≡ f → ((left : ℕ) → moves_before w.locks t left f ≡ goes_on w.locks t)
      → goes_on w.locks t ≡ true
  goes-on f before is = sym (is (length p.asks)) ∙ moves-here f before

-- one that is in a call goes on as its lock says
or-is : (a b : Bool) → (a || b) ≡ true → a ≡ false → b ≡ true
or-is true b e none = absurd (false≢true (sym none))
or-is false b e none = e

pub can-move : (locks : Shown) (t : ℕ) (stand : Stand) → stand_in locks t ≡ Some stand → goes_on locks t ≡ true
    → can_move (state locks.rows) t ≡ true
can-move locks t stand at goes = or-is (is_none (call_at (state locks.rows) t)) (can_move (state locks.rows) t) goes
    (in-no-call locks t ∙ ap (λ o. not (is_some o)) at)

pub same-phase : {K V D T A : Type 0} (places : List (Place K V D T A)) (t : ℕ) (f : Phase K V D T A)
    (b : IsBefore places t f) (p : Place K V D T A) → slice_get places t ≡ Some p → p.phase ≡ f
same-phase {K} {V} {D} {T} {A} places t f b p at = ap (λ (q : Place K V D T A). q.phase)
    (same_Some p b.place (sym at ∙ b.stands)) ∙ b.before
