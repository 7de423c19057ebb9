-- Some thread can move where a section is open, and where one is in a call that doesn't wait for another.
use Rattle.std.proofs.Common.{◌≡◌, ◌⊎◌, inl, inr, ℕ, ◌||◌, Bool, true, false, is_some, Option, Some, None, refl, sym}
use Rattle.std.proofs.Common.{ap, ◌∙◌}
use Rattle.parking_lot_machine.specs.Rows.{state}
use Rattle.parking_lot_machine_waits.specs.Joint.{Joint, is_open_at_locks, is_open_at_variables}
use Rattle.parking_lot_machine_waits.specs.JointProgress.{SomebodyInsideGoes, GiversAreOut, IsKeptOut, IsListed}
use Rattle.parking_lot_machine_waits.specs.JointProgress.{SomebodyCanMove}
use Rattle.parking_lot_machine_waits.specs.JointSides.{enters as thread_enters, enters_beside}
use Rattle.parking_lot_machine_waits.proofs.AnySections.{some_open}
use Rattle.parking_lot_machine_waits.proofs.Hearing.{both_true}
use Rattle.parking_lot_machine.specs.SoundLaws.{Always, AwakeCanMove, SomebodyCanMove as RowSomebodyCanMove}
use Rattle.parking_lot_machine_waits.specs.JointLaws.{PartsFit}
use Rattle.parking_lot_machine_waits.specs.JointMoves.{may_go}
use Rattle.parking_lot_machine_waits.specs.Whole.{IsWhole}
use Rattle.parking_lot_machine_waits.proofs.Awake.{not_entering}
use Rattle.parking_lot_machine_waits.proofs.Progress.{Somebody, in_section, quiet, var_open}

-- whoever is in a section that is open can move, and enters none
pub inside_moves : Always AwakeCanMove → Always RowSomebodyCanMove → (j : Joint) → IsWhole j → PartsFit j
    → GiversAreOut j → (is_open_at_locks j || is_open_at_variables j) ≡ true
    → (u : ℕ) × (may_go j u ≡ true) × (thread_enters j u ≡ None) × (enters_beside j u ≡ None)
inside_moves awake somebody j h fits out opened = by_variables (is_open_at_variables j) refl
  where
    strictly : Somebody j h fits true
        → (u : ℕ) × (may_go j u ≡ true) × (thread_enters j u ≡ None) × (enters_beside j u ≡ None)
    strictly (u, goes) =
        let x = both_true _ _ goes in
        let out = neither (enters_beside j u) (thread_enters j u) (not_entering _ x.1) in
        (u, x.0, out.1, out.0)
      where
        neither : (a b : Option ℕ) → (is_some a || is_some b) ≡ false → (a ≡ None) × (b ≡ None)
        neither None None e = (refl, refl)
        neither None (Some b) e = absurd cc
        neither (Some a) b e = absurd cc

    by_locks : is_open_at_variables j ≡ false → (b : Bool) → is_open_at_locks j ≡ b
        → (u : ℕ) × (may_go j u ≡ true) × (thread_enters j u ≡ None) × (enters_beside j u ≡ None)
    by_locks shut true is =
        let (b, o, at) = some_open (state j.rows).lot.sections (state j.rows).lot.buckets is in
        strictly (in_section j h fits true out awake somebody shut b o at)
    by_locks shut false is =
        absurd (nothing_open (sym (ap (λ (x : Bool). x || is_open_at_variables j) is ∙ shut) ∙ opened))
      where
        nothing_open : false ≡ true → ⊥
        nothing_open e = cc

    by_variables : (b : Bool) → is_open_at_variables j ≡ b
        → (u : ℕ) × (may_go j u ≡ true) × (thread_enters j u ≡ None) × (enters_beside j u ≡ None)
    by_variables true is = strictly (var_open j h fits true is)
    by_variables false is = by_locks is (is_open_at_locks j) refl

pub somebody_inside_goes : Always AwakeCanMove → Always RowSomebodyCanMove → SomebodyInsideGoes
somebody_inside_goes awake somebody j h fits out opened = inside_moves awake somebody j h fits out opened

pub somebody_can_move : Always AwakeCanMove → Always RowSomebodyCanMove → SomebodyCanMove
somebody_can_move awake somebody j t h fits out low called = by_variables (is_open_at_variables j) refl
  where
    loosely : Somebody j h fits false → (u : ℕ) × (may_go j u ≡ true)
    loosely (u, goes) = (u, (both_true _ _ goes).0)

    quietly : (Somebody j h fits false) ⊎ (IsListed j t ⊎ IsKeptOut j t)
        → ((u : ℕ) × (may_go j u ≡ true)) ⊎ (IsListed j t ⊎ IsKeptOut j t)
    quietly (inl x) = inl (loosely x)
    quietly (inr x) = inr x

    by_locks : is_open_at_variables j ≡ false → (b : Bool) → is_open_at_locks j ≡ b
        → ((u : ℕ) × (may_go j u ≡ true)) ⊎ (IsListed j t ⊎ IsKeptOut j t)
    by_locks shut false is = quietly (quiet j h fits false out awake somebody shut is refl t low called)
    by_locks shut true is =
        let (b, o, at) = some_open (state j.rows).lot.sections (state j.rows).lot.buckets is in
        inl (loosely (in_section j h fits false out awake somebody shut b o at))

    by_variables : (b : Bool) → is_open_at_variables j ≡ b
        → ((u : ℕ) × (may_go j u ≡ true)) ⊎ (IsListed j t ⊎ IsKeptOut j t)
    by_variables true is = inl (loosely (var_open j h fits false is))
    by_variables false is = by_locks is (is_open_at_locks j) refl
