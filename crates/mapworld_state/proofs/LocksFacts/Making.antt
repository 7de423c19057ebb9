-- Shards' locks that are made fit together, and nobody has done anything.
use Rattle.std.proofs.Common.{◌≡◌, ℕ, ◌+◌, ◌*◌, inl, inr, Bool, true, false, cond, nat_lt, List, length, replicate}
use Rattle.std.proofs.Common.{Option, Some, None, slice_get, refl, sym, ap, ◌∙◌, subst, arith}
use Rattle.std.specs.List.{All}
use Rattle.std.specs.Option.{option_and_then, option_map, option_map_or}
use Rattle.std.proofs.lemmas.Bool.{cases_lt}
use Rattle.std.proofs.lemmas.List.{length-replicate}
use Rattle.std.proofs.lemmas.List.Elements.{All-replicate}
use Rattle.std.proofs.lemmas.Option.{none-some}
use Rattle.lock_api_desk.specs.Desk.{DeskState}
use Rattle.parking_lot_machine_calls.specs.declared.calls.LockKind.TheVariants as kind
use Rattle.parking_lot_machine_calls.specs.declared.open_call.Call.{Call}
use Rattle.parking_lot_machine_calls.specs.declared.seat.Hold.{Hold}
use Rattle.parking_lot_machine.specs.Machines.{at_rest}
use Rattle.parking_lot_machine.specs.RowFits.{FitsTogether}
use Rattle.parking_lot_machine.specs.Rows.{Rows, State, call_at, hold_at, state}
use Rattle.parking_lot_machine_calls.specs.CallViews.{hold_mode}
use Rattle.mapworld_state.specs.Locks.Fits.{IsPlain, LocksFit, is_single}
use Rattle.mapworld_state.specs.Locks.Fresh.{AreFresh, IsEmptyFor}
use Rattle.mapworld_state.specs.Locks.Seats.{guards_of, seat_of}
use Rattle.mapworld_state.specs.Locks.Stands.{stand_of}
use Rattle.mapworld_state.specs.Locks.Views.{held_as, held_at}
use Rattle.mapworld_state.proofs.LocksFacts.Beginning.{held_rest, not_some}
use Rattle.mapworld_state.proofs.LocksFacts.Lists.{all_at}
use Rattle.mapworld_state.proofs.LocksFacts.Together.{holders_are_threads}

module _ (threads shards : ℕ) (rows : Rows) (desks : List (DeskState (Unit {0})))
    (made : state rows ≡ at_rest false threads (replicate shards kind.Rw)) (fits : FitsTogether (state rows))
    (empty : All (IsEmptyFor threads) desks)
    (count : length desks ≡ shards) where
  abbrev u : State
  u = state rows

  abbrev nothing : Option Call
  nothing = None

  count_threads : length u.calls ≡ threads
  count_threads = ap (λ (w : State). length w.calls) made ∙ length-replicate threads nothing

  count_shards : length u.kinds ≡ shards
  count_shards = ap (λ (w : State). length w.kinds) made ∙ length-replicate shards kind.Rw

  free : (t : ℕ) → call_at u t ≡ None
  free t = at (slice_get u.calls t) refl
    where
      none : All (λ o. o ≡ nothing) u.calls
      none = subst (All (λ o. o ≡ nothing)) (sym (ap (λ (w : State). w.calls) made))
          (All-replicate (λ o. o ≡ nothing) threads nothing refl)

      at : (o : Option (Option Call)) → slice_get u.calls t ≡ o → option_and_then (λ c. c) (slice_get u.calls t)
          ≡ nothing
      at None e = ap (option_and_then (λ c. c)) e
      at (Some o) e = ap (option_and_then (λ c. c)) e ∙ all_at (λ o. o ≡ nothing) u.calls t o none e

  no_holds : All (λ h. h ≡ Hold.Shares 0) u.holds
  no_holds = subst (All (λ h. h ≡ Hold.Shares 0)) (sym (ap (λ (w : State). w.holds) made))
      (All-replicate (λ h. h ≡ Hold.Shares 0) _ (Hold.Shares 0) refl)

  hold_none : (t i : ℕ) → hold_at u t i ≡ Hold.Shares 0
  hold_none t i = by (nat_lt i (length u.kinds))
    where
      at : (o : Option Hold) → slice_get u.holds (t * length u.kinds + i) ≡ o → option_map_or (λ h. h) o (Hold.Shares 0)
          ≡ Hold.Shares 0
      at None e = refl
      at (Some h) e = all_at (λ h. h ≡ Hold.Shares 0) u.holds (t * length u.kinds + i) h no_holds e

      by : (b : Bool) → cond b (option_map_or (λ h. h) (slice_get u.holds (t * length u.kinds + i)) (Hold.Shares 0))
          (Hold.Shares 0) ≡ Hold.Shares 0
      by true = at (slice_get u.holds (t * length u.kinds + i)) refl
      by false = refl

  plain : IsPlain u
  plain = record {
    kinds = subst (All (λ k. k ≡ kind.Rw)) (sym (ap (λ (w : State). w.kinds) made))
        (All-replicate (λ k. k ≡ kind.Rw) shards kind.Rw refl);
    single = subst (All (λ h. is_single h ≡ true)) (sym (ap (λ (w : State). w.holds) made))
        (All-replicate (λ h. is_single h ≡ true) _ (Hold.Shares 0) refl);
    alone = λ t c at. absurd (none-some c (sym (free t) ∙ at));
    cores = λ t c at. absurd (none-some c (sym (free t) ∙ at));
    asked = λ t c at. absurd (none-some c (sym (free t) ∙ at));
    stands = λ t c at. absurd (none-some c (sym (free t) ∙ at));
  }

  unheld : (i t : ℕ) → held_at u i t ≡ None
  unheld i t = elim (cases_lt t (length u.calls)) [
    | inl low ↦ held_rest u i t plain.kinds low (free t) ∙ ap (λ h. held_as (hold_mode (Some kind.Rw) h))
        (hold_none t i)
    | inr past ↦ not_some (held_at u i t)
        (λ m e. absurd (omega (arith, past, holders_are_threads u i plain.kinds t m e)))
  ]

  pub fresh_fit : LocksFit (record { rows = rows; desks = desks })
  fresh_fit = record {
    fits = fits;
    plain = plain;
    count = count ∙ sym count_shards;
    desks_fit = λ i desk at. (let e = all_at (IsEmptyFor threads) desks i desk empty at in record {
      seated = λ v. ap (guards_of v) e.empty ∙ sym (ap (seat_of v) (unheld i v));
      room = omega (arith, e.room, count_threads);
      limit = omega (arith, e.limit, count_threads);
    });
    together = λ i t v a b ne e f. absurd (none-some a (sym (unheld i t) ∙ e));
  }

  pub are_fresh : AreFresh threads shards (record { rows = rows; desks = desks })
  are_fresh = record {
    rows = made;
    desks = empty;
    count = count;
    free = λ t. ap (option_map stand_of) (free t);
    unowned = unheld;
  }
