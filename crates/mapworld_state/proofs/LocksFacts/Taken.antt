-- Those that a thread has taken, wakeup by wakeup.
use Rattle.std.proofs.Common.{◌≡◌, ℕ, ◌+◌, ◌<◌, false, List, [], ◌∷◌, ◌++◌, length, map, filter, take, get_or, ap, ◌∙◌}
use Rattle.std.proofs.lemmas.Bool.{eq-eqb, cond-true, cond-false}
use Rattle.std.proofs.lemmas.List.{map-append}
use Rattle.std.proofs.lemmas.List.Elements.{filter_more}
use Rattle.parking_lot_machine_calls.specs.declared.seat.Wakeup.{Wakeup}
use Rattle.parking_lot_machine.specs.Rows.{is_by, taken_by}
use Rattle.mapworld_state.proofs.LocksFacts.Seating.{append_nothing}

-- one wakeup more
pub taken_next : (ws : List Wakeup) (t i : ℕ) (d : Wakeup) → i < length ws → (get_or ws i d).by ≡ t
    → taken_by (take (i + 1) ws) t ≡ taken_by (take i ws) t ++ (get_or ws i d).thread ∷ []
taken_next ws t i d low own =
    ap (map (λ w. w.thread))
    (filter_more (is_by t) ws i d low ∙ ap (λ es. filter (is_by t) (take i ws) ++ es)
    (cond-true (is_by t (get_or ws i d)) (get_or ws i d ∷ []) [] (eq-eqb (get_or ws i d).by t own)))
    ∙ map-append (λ w. w.thread) (filter (is_by t) (take i ws)) (get_or ws i d ∷ [])

pub taken_same : (ws : List Wakeup) (t i : ℕ) (d : Wakeup) → i < length ws → is_by t (get_or ws i d) ≡ false
    → taken_by (take (i + 1) ws) t ≡ taken_by (take i ws) t
taken_same ws t i d low other =
    ap (map (λ w. w.thread))
    (filter_more (is_by t) ws i d low ∙ ap (λ es. filter (is_by t) (take i ws) ++ es)
    (cond-false (is_by t (get_or ws i d)) (get_or ws i d ∷ []) [] other)
    ∙ append_nothing (filter (is_by t) (take i ws)))
