-- Lists with a slot for each thread, which is empty where it is in no call.
use Rattle.std.proofs.Common.{◌≡◌, ◌≢◌, ℕ, zero, suc, ◌<◌, List, [], ◌∷◌, length, Option, Some, slice_get, slice_set}
use Rattle.std.proofs.Common.{refl, sym, ap, arith}
use Rattle.std.specs.Option.{option_and_then}
use Rattle.std.proofs.lemmas.Option.{none-some}
use Rattle.parking_lot_rules.proofs.Indexed.{get-set_other}

module _ {X : Type 0} where
  abbrev pub at_slot : List (Option X) → ℕ → Option X
  at_slot xs t = option_and_then (λ (o : Option X). o) (slice_get xs t)

  pub set_here : (xs : List (Option X)) (t : ℕ) (x : X) (o : Option X) → at_slot xs t ≡ Some x
      → at_slot (slice_set xs t o) t ≡ o
  set_here [] t x o e = absurd (none-some x e)
  set_here (y ∷ ys) zero x o e = refl
  set_here (y ∷ ys) (suc t) x o e = set_here ys t x o e

  pub set_there : (xs : List (Option X)) (t : ℕ) (o : Option X) → t < length xs → at_slot (slice_set xs t o) t ≡ o
  set_there [] t o low = absurd (omega (arith, low))
  set_there (y ∷ ys) zero o low = refl
  set_there (y ∷ ys) (suc t) o low = set_there ys t o (omega (arith, low))

  pub set_elsewhere : (xs : List (Option X)) (t k : ℕ) (o : Option X) → k ≢ t → at_slot (slice_set xs t o) k ≡ at_slot
      xs k
  set_elsewhere xs t k o ne = ap (option_and_then (λ (o : Option X). o)) (get-set_other xs t k o (λ e. ne (sym e)))

  pub slot_low : (xs : List (Option X)) (t : ℕ) (x : X) → at_slot xs t ≡ Some x → t < length xs
  slot_low [] t x e = absurd (none-some x e)
  slot_low (y ∷ ys) zero x e = omega arith
  slot_low (y ∷ ys) (suc t) x e = let low = slot_low ys t x e in omega (arith, low)

  -- what stands where it was written is what was written
  pub read_back : (xs : List (Option X)) (t : ℕ) (o : Option X) (x : X) → at_slot (slice_set xs t o) t ≡ Some x
      → o ≡ Some x
  read_back [] t o x e = absurd (none-some x e)
  read_back (y ∷ ys) zero o x e = e
  read_back (y ∷ ys) (suc t) o x e = read_back ys t o x e
