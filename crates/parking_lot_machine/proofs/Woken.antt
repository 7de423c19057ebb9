-- How the code of waking finds whom it wakes, and what it leaves.
use Rattle.std.proofs.Common.{◌≡◌, ℕ, List, Option, Some, remove, slice_get, slice_set, slice_index_or, sym, ap, ◌∙◌}
use Rattle.std.proofs.Common.{subst, ◌≤◌, length, true, false, [], ◌∷◌, is_some, refl, arith}
use Rattle.std.proofs.lemmas.Option.{same_Some, slice_get_within, slice_get-get_or}
use Rattle.std.specs.List.{position_or_len}
use Rattle.parking_lot_core_model.specs.declared.parking.UnparkToken.{UnparkToken}
use Rattle.parking_lot_core_model.specs.declared.place.Place.TheVariants.{Running}
use Rattle.parking_lot_core_model.specs.Machine.{Machine}
use Rattle.parking_lot_protocol.specs.declared.act.ActResult.TheVariants as seen
use Rattle.parking_lot_machine_calls.specs.declared.open_call.Call.{Call}
use Rattle.parking_lot_machine_calls.specs.declared.seat.QueuePosition.TheVariants as spot
use Rattle.parking_lot_machine_calls.specs.declared.seat.Wakeup.{Wakeup}
use Rattle.parking_lot_machine.specs.Rows.{Rows, State, state, is_by, is_for, taken_by}
use Rattle.parking_lot_machine.specs.RowActs.{woke}
use Rattle.parking_lot_machine_calls.specs.CallActs.{hears}
use Rattle.parking_lot_machine.specs.TellLaws.{IsDue}
use Rattle.parking_lot_machine_calls.specs.CallViews.{are_some}

-- where the first stands whom it is to wake
pub stands : {wakes seen : List Wakeup} {at : ℕ} (t : ℕ) → at ≡ position_or_len (is_by t) seen → seen ≡ wakes
    → at ≡ position_or_len (is_by t) wakes
stands t at same = at ∙ ap (position_or_len (is_by t)) same

pub stands_for : {wakes seen : List Wakeup} {at : ℕ} (t : ℕ) → at ≡ position_or_len (is_for t) seen → seen ≡ wakes
    → at ≡ position_or_len (is_for t) wakes
stands_for t at same = at ∙ ap (position_or_len (is_for t)) same

-- whether there is one
pub some_first : (us : List ℕ) → is_some (slice_get us 0) ≡ true → 1 ≤ length us
some_first [] e = absurd cc
some_first (v ∷ us) e = omega arith

pub none_first : (us : List ℕ) → is_some (slice_get us 0) ≡ false → us ≡ []
none_first [] e = refl
none_first (v ∷ us) e = absurd cc

pub some_is : (us : List ℕ) → are_some us ≡ is_some (slice_get us 0)
some_is [] = refl
some_is (v ∷ us) = refl

pub some_in : {m n : Rows} (t : ℕ) → m ≡ n → 1 ≤ length (taken_by (state n).wakes t)
    → 1 ≤ length (taken_by (state m).wakes t)
some_in t e some = subst (λ (x : Rows). 1 ≤ length (taken_by (state x).wakes t)) (sym e) some

-- the machine once one is woken
abbrev pub IsRoused : ℕ → Call → State → State → Type 0
IsRoused t c s u = (e : Wakeup) × (d : Call) × (token : UnparkToken) × IsDue s t e d token
    × (u ≡ woke s t c e.thread d token)

-- and it is the one that is taken out
pub is_first : (wakes : List Wakeup) (t at : ℕ) (e f : Wakeup) → at ≡ position_or_len (is_by t) wakes
    → f ≡ slice_index_or wakes at f → slice_get wakes (position_or_len (is_by t) wakes) ≡ Some e → f ≡ e
is_first wakes t at e f same value first =
    let n : ℕ = position_or_len (is_by t) wakes in
    value ∙ ap (λ i. slice_index_or wakes i f) same ∙ same_Some (slice_index_or wakes n f) e
    (sym (slice_get-get_or wakes n f (slice_get_within wakes n e first)) ∙ first)

-- the call of one that is woken
abbrev pub woken_call : UnparkToken → Call → Call
woken_call token d = record (hears d (seen.Woken token)) { spot = spot.Listed }

abbrev pub runs_at : Machine → ℕ → Machine
runs_at m v = record m { places = slice_set m.places v (Some Running) }

-- the machine once it is woken
module _ (s : State) (t : ℕ) (c : Call) (e : Wakeup) (d : Call) (token : UnparkToken) (due : IsDue s t e d token) where
  made : ℕ → Option Call → Call → List Wakeup → Machine → State
  made v o next wakes lot =
      record s { calls = slice_set (slice_set s.calls v o) t (Some next); wakes = wakes; lot = lot }

  pub is_woken : (v : ℕ) (o : Option Call) (next : Call) (wakes : List Wakeup) (lot : Machine) → v ≡ e.thread
      → o ≡ Some (woken_call token d) → next ≡ hears c seen.Made
      → wakes ≡ remove s.wakes (position_or_len (is_by t) s.wakes) → lot ≡ runs_at s.lot v
      → IsRoused t c s (record s { calls = slice_set (slice_set s.calls v o) t (Some next); wakes = wakes; lot = lot })
  unfolding made
  is_woken v o next wakes lot at call told rest runs = (
    e,
    d,
    token,
    due,
    ap (λ n. made n o next wakes lot) at
        ∙ ap (λ x. made e.thread x next wakes lot) call
        ∙ ap (λ x. made e.thread (Some (woken_call token d)) x wakes lot) told
        ∙ ap (λ x. made e.thread (Some (woken_call token d)) (hears c seen.Made) x lot) rest
        ∙ ap (made e.thread (Some (woken_call token d)) (hears c seen.Made)
        (remove s.wakes (position_or_len (is_by t) s.wakes))) (runs ∙ ap (runs_at s.lot) at),
  )

pub woken_from : {m n : Rows} (t : ℕ) (c : Call) (u : State) → m ≡ n → IsRoused t c (state m) u
    → IsRoused t c (state n) u
woken_from t c u e h = subst (λ (x : Rows). IsRoused t c (state x) u) e h
