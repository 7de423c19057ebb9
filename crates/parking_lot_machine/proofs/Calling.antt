-- The calls and the parts of the machine once one thread's call has changed.
use Rattle.std.proofs.Common.{◌≡◌, ◌≢◌, ℕ, ◌≤◌, inl, inr, List, length, map, Option, Some, None, slice_get, slice_set}
use Rattle.std.proofs.Common.{refl, sym, ap, ◌∙◌, subst}
use Rattle.std.proofs.lemmas.Bool.{cases_eq}
use Rattle.std.proofs.lemmas.List.{length-set, length-map}
use Rattle.std.proofs.lemmas.Option.{none-some, same_Some}
use Rattle.std.specs.Option.{option_and_then}
use Rattle.parking_lot_rules.proofs.Indexed.{get-set_same, get-set_other}
use Rattle.parking_lot_machine_calls.specs.declared.open_call.Call.{Call}
use Rattle.parking_lot_machine.specs.Rows.{State, hold_at, hold_in}

abbrev pub call_of : List (Option Call) → ℕ → Option Call
call_of calls t = option_and_then (λ c. c) (slice_get calls t)

-- the call of a thread is there
pub slot : (calls : List (Option Call)) (t : ℕ) (c : Call) → call_of calls t ≡ Some c
    → slice_get calls t ≡ Some (Some c)
slot calls t c h = go (slice_get calls t) refl
  where
    go : (o : Option (Option Call)) → slice_get calls t ≡ o → slice_get calls t ≡ Some (Some c)
    go None e = absurd (none-some c (sym (ap (option_and_then (λ x. x)) e) ∙ h))
    go (Some x) e = e ∙ ap Some (sym (ap (option_and_then (λ y. y)) e) ∙ h)

pub call-here : (calls : List (Option Call)) (t : ℕ) (x : Option Call) (o : Option Call) → slice_get calls t ≡ Some x
    → call_of (slice_set calls t o) t ≡ o
call-here calls t x o h = ap (option_and_then (λ y. y)) (get-set_same calls t x o h)

pub call-elsewhere : (calls : List (Option Call)) (t v : ℕ) (o : Option Call) → v ≢ t
    → call_of (slice_set calls t o) v ≡ call_of calls v
call-elsewhere calls t v o ne = ap (option_and_then (λ y. y)) (get-set_other calls t v o (λ e. ne (sym e)))

-- what holds of every call, where that of one thread has changed
pub calls-change : (P : ℕ → Call → Type 0) (calls : List (Option Call)) (t : ℕ) (c d : Call) → call_of calls t ≡ Some c
    → ((v : ℕ) (e : Call) → v ≢ t → call_of calls v ≡ Some e → P v e) → P t d → (v : ℕ) (e : Call)
    → call_of (slice_set calls t (Some d)) v ≡ Some e → P v e
calls-change P calls t c d here others this v e at = elim (cases_eq v t) [
  | inl eq ↦ subst (λ (n : ℕ). P n e) (sym eq)
      (subst (P t) (same_Some d e
      (sym (call-here calls t (Some c) (Some d) (slot calls t c here)) ∙ ap (call_of (slice_set calls t (Some d)))
      (sym eq) ∙ at)) this)
  | inr ne ↦ others v e ne (sym (call-elsewhere calls t v (Some d) ne) ∙ at)
]

pub same-holds : (s u : State) → u.kinds ≡ s.kinds → u.holds ≡ s.holds → (x i : ℕ) → hold_at u x i ≡ hold_at s x i
same-holds s u k h x i = ap (λ hs. hold_in hs (length u.kinds) x i) h ∙ ap (λ ks. hold_in s.holds (length ks) x i) k

-- there is room for as many as before, where one call has changed
pub room_set : (calls : List (Option Call)) (t : ℕ) (o : Option Call) (room : ℕ) → length calls ≤ room
    → length (slice_set calls t o) ≤ room
room_set calls t o room h = subst (λ n. n ≤ room) (sym (length-set calls t o)) h

-- nor where others are told besides
pub room_settled : (calls news : List (Option Call)) (t : ℕ) (o : Option Call) (f : Option Call → Option Call)
    (room : ℕ) → news ≡ map f (slice_set calls t o) → length calls ≤ room → length news ≤ room
room_settled calls news t o f room e h = subst (λ (cs : List (Option Call)). length cs ≤ room) (sym e)
    (subst (λ n. n ≤ room) (sym (length-map (slice_set calls t o) f)) (room_set calls t o room h))
