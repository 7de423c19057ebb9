-- Several waiters, one after another.
use Rattle.std.proofs.Common.{◌≡◌, ℕ, ◌∷◌, ◌++◌, [], List, Bool, true, map, Option, Some, None, is_some, refl, sym, ap}
use Rattle.std.proofs.Common.{◌∙◌, subst}
use Rattle.std.specs.Prelude.{IfSome}
use Rattle.std.proofs.lemmas.List.{map-append}
use Rattle.parking_lot_machine_sides.specs.Condvar.Machines.{State as Var}
use Rattle.parking_lot_machine.specs.Requeues.{AreTakenIn, IsTakenIn}
use Rattle.parking_lot_machine.specs.Rows.{State}
use Rattle.parking_lot_machine_waits.specs.declared.seat.Seat.{Seat}
use Rattle.parking_lot_machine_waits.specs.Moving.{AreMoved, entry}

pub some_of : {P : ℕ → Type 0} (o : Option ℕ) → is_some o ≡ true → IfSome o P → (w : ℕ) × P w
some_of None some h = absurd cc
some_of (Some w) some h = (w, h)

one_more_in : (lock : ℕ) (es : List (ℕ × Bool)) (e : ℕ × Bool) (s x u : State) → AreTakenIn lock es s x
    → IsTakenIn e.0 lock e.1 x u → AreTakenIn lock (es ++ e ∷ []) s u
one_more_in lock [] e s x u same taken = (u, subst (λ (y : State). IsTakenIn e.0 lock e.1 y u) same taken, refl)
one_more_in lock (d ∷ es) e s x u (y, first, rest) taken = (y, first, one_more_in lock es e y x u rest taken)

pub one_more : (seats : List Seat) (v : Var) (lock : ℕ) (ws more : List ℕ) (w : ℕ) (s x u : State) → more ≡ ws ++ w ∷ []
    → AreMoved seats v lock ws s x → IsTakenIn (entry seats v w).0 lock (entry seats v w).1 x u
    → AreMoved seats v lock more s u
one_more seats v lock ws more w s x u e moved taken =
    subst (λ (es : List (ℕ × Bool)). AreTakenIn lock es s u)
    (sym (ap (map (entry seats v)) e ∙ map-append (entry seats v) ws (w ∷ [])))
    (one_more_in lock (map (entry seats v) ws) (entry seats v w) s x u moved taken)
