-- Lists of threads that have one thread more to say of.
use Rattle.std.proofs.Common.{◌≡◌, ℕ, suc, ◌+◌, ◌*◌, ◌/◌, ◌==◌, Bool, true, false, [], ◌∷◌, ◌++◌, Option, None, Some}
use Rattle.std.proofs.Common.{ap, sym, ◌∙◌, arith, if◌then◌else◌}
use Rattle.std.proofs.lemmas.List.{append-nil}
use Rattle.parking_lot_machine_calls.specs.declared.calls.OwnMode.{OwnMode}
use Rattle.parking_lot_machine_sides.specs.Once.Entries.{list_of}
use Rattle.parking_lot_machine_waits.specs.JointSides as sides
use Rattle.parking_lot_world.specs.Worlds.{Shown, entry, is_once_at, owners_below, queue_at, those_below}

next : (n : ℕ) → n + 1 ≡ suc n
next n = omega arith

-- it owns so
pub owner_more : (f : ℕ → Option OwnMode) (n : ℕ) (m : OwnMode) → f n ≡ Some m
    → owners_below f n ++ (n, m) ∷ [] ≡ owners_below f (n + 1)
owner_more f n m e = ap (λ o. owners_below f n ++ entry n o) (sym e) ∙ ap (owners_below f) (sym (next n))

-- it owns nothing
pub owner_same : (f : ℕ → Option OwnMode) (n : ℕ) → f n ≡ None → owners_below f n ≡ owners_below f (n + 1)
owner_same f n e = sym (append-nil (owners_below f n)) ∙ ap (λ o. owners_below f n ++ entry n o) (sym e)
    ∙ ap (owners_below f) (sym (next n))

-- it passes
pub those_more : (f : ℕ → Bool) (n : ℕ) → f n ≡ true → those_below f n ++ n ∷ [] ≡ those_below f (n + 1)
those_more f n e = ap (λ b. those_below f n ++ (if b then n ∷ [] else [])) (sym e) ∙ ap (those_below f) (sym (next n))

-- it doesn't
pub those_same : (f : ℕ → Bool) (n : ℕ) → f n ≡ false → those_below f n ≡ those_below f (n + 1)
those_same f n e = sym (append-nil (those_below f n)) ∙ ap (λ b. those_below f n ++ (if b then n ∷ [] else [])) (sym e)
    ∙ ap (those_below f) (sym (next n))

-- the list of a once is the first of its lock's two
pub once_list : (w : Shown) (key : ℕ) → is_once_at w (key / 2) ≡ true → (key == 2 * (key / 2)) ≡ true
    → queue_at w key ≡ list_of w.onces.waiting (key / 2)
once_list w key once first =
    ap (λ b. if b then (if key == 2 * (key / 2) then list_of w.onces.waiting (key / 2) else []) else sides.queue_at w.waits
    key) once ∙ ap (λ b. if b then list_of w.onces.waiting (key / 2) else []) first
