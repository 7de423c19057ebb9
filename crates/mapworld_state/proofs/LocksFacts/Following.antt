-- A step and its desk, as the code makes them: it looks at the call and at the hold before the step.
use Rattle.std.proofs.Common.{◌≡◌, ℕ, ◌<◌, Bool, true, List, length, Option, Some, None, slice_get, slice_set, sym, ap}
use Rattle.std.proofs.Common.{◌∙◌}
use Rattle.std.proofs.Common.{subst}
use Rattle.std.proofs.lemmas.Option.{same_Some}
use Rattle.lock_api_desk.specs.declared.mode.Mode.{Mode}
use Rattle.lock_api_desk.specs.Desk.{DeskState}
use Rattle.parking_lot_protocol.specs.declared.act.CoreAnswer.{CoreAnswer}
use Rattle.parking_lot_machine_calls.specs.declared.open_call.Call.{Call}
use Rattle.parking_lot_machine.specs.Machines.{IsStepped, can_move, ended}
use Rattle.parking_lot_machine.specs.Rows.{Rows, State, call_at, state, taken_by}
use Rattle.parking_lot_machine.specs.SoundLaws.{Always, OwnersAgree, StepsAreCases}
use Rattle.mapworld_state.specs.Locks.Fits.{LocksFit}
use Rattle.mapworld_state.specs.Locks.Moves.{CanFollow, desk_after}
use Rattle.mapworld_state.specs.Locks.Steps.{LockMoves}
use Rattle.mapworld_state.specs.Locks.Views.{Shown, held_at}
use Rattle.mapworld_state.proofs.LocksFacts.Stepping.{can_follow, in_range, stepped_fit, stepped_moves, stepped_open}

module _ (laws : StepsAreCases) (agree : Always OwnersAgree) (old : Shown) (fit : LocksFit old) (t : ℕ) (fair : Bool)
    (rows : Rows) (answer : Option CoreAnswer) (step : IsStepped t fair answer (state old.rows) (state rows))
    (going : ended (state old.rows) t ≡ None) (call : Call) (there : call_at (state old.rows) t ≡ Some call) where
  abbrev s : State
  s = state old.rows

  abbrev u : State
  u = state rows

  abbrev x : IsStepped t fair None s u
  x = stepped_open s u t fair answer going step

  same : call.lock ≡ x.call.lock
  same = ap (λ (c : Call). c.lock) (same_Some call x.call (sym there ∙ x.here))

  pub low : call.lock < length old.desks
  low = subst (λ n. n < length old.desks) (sym same) (in_range laws agree old fit t fair rows x)

  module _ (before : Option Mode) (was : before ≡ held_at s call.lock t) (desk : DeskState (Unit {0}))
      (at : slice_get old.desks call.lock ≡ Some desk) where
    was_there : before ≡ held_at s x.call.lock t
    was_there = was ∙ ap (λ n. held_at s n t) same

    at_there : slice_get old.desks x.call.lock ≡ Some desk
    at_there = ap (slice_get old.desks) (sym same) ∙ at

    pub follows : CanFollow before (held_at u call.lock) (length u.calls) t desk
    follows = subst (λ n. CanFollow before (held_at u n) (length u.calls) t desk) (sym same)
        (subst (λ o. CanFollow o (held_at u x.call.lock) (length u.calls) t desk) (sym was_there)
        (can_follow laws agree old fit t fair rows x desk at_there))

    module _ (next : DeskState (Unit {0}))
        (is : next ≡ desk_after (λ _. before) (held_at u call.lock) t (taken_by rows.wakes t) desk) where
      abbrev desks : List (DeskState (Unit {0}))
      desks = slice_set old.desks call.lock next

      set_there : desks ≡ slice_set old.desks x.call.lock
          (desk_after (held_at s x.call.lock) (held_at u x.call.lock) t (taken_by rows.wakes t) desk)
      set_there =
          ap (slice_set old.desks call.lock) is
          ∙ ap (λ n. slice_set old.desks n (desk_after (λ _. before) (held_at u n) t (taken_by rows.wakes t) desk)) same
          ∙ ap (λ o. slice_set old.desks x.call.lock
          (desk_after (λ _. o) (held_at u x.call.lock) t (taken_by rows.wakes t) desk)) was_there

      pub fit_after : LocksFit (record { rows = rows; desks = desks })
      fit_after = stepped_fit laws agree old fit t fair rows x desk at_there desks set_there

      pub moves_after : can_move s t ≡ true → LockMoves t fair old (record { rows = rows; desks = desks })
      moves_after can = stepped_moves laws agree old fit t fair rows x desk at_there desks set_there can
