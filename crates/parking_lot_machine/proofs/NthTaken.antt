-- Whom a thread has taken, counted from a wakeup on.
use Rattle.std.proofs.Common.{◌≡◌, ℕ, suc, ◌+◌, ◌<◌, ◌==◌, Bool, true, false, cond, List, ◌∷◌, length, map, filter}
use Rattle.std.proofs.Common.{drop, get_or, ap, ◌∙◌, arith}
use Rattle.std.proofs.Math.Seq.{drop-cons}
use Rattle.parking_lot_machine_calls.specs.declared.seat.Wakeup.{Wakeup}
use Rattle.parking_lot_machine.specs.Rows.{is_by, taken_by}

module _ (wakes : List Wakeup) (t i : ℕ) (d : Wakeup) (low : i < length wakes) where
  next_place : suc i ≡ i + 1
  next_place = omega arith

  by_whom : (b : Bool) → ((get_or wakes i d).by == t) ≡ b
      → taken_by (drop i wakes) t ≡ map (λ (w : Wakeup). w.thread)
      (cond b (get_or wakes i d ∷ filter (is_by t) (drop (suc i) wakes)) (filter (is_by t) (drop (suc i) wakes)))
  by_whom b is =
      ap (λ ws. taken_by ws t) (drop-cons wakes i d low)
      ∙ ap (λ x. map (λ (w : Wakeup). w.thread)
      (cond x (get_or wakes i d ∷ filter (is_by t) (drop (suc i) wakes)) (filter (is_by t) (drop (suc i) wakes))))
      is

  -- it is one of them
  pub is_next : ((get_or wakes i d).by == t) ≡ true → taken_by (drop i wakes) t ≡ (get_or wakes i d).thread ∷ taken_by
      (drop (i + 1) wakes) t
  is_next is = by_whom true is ∙ ap (λ n. (get_or wakes i d).thread ∷ taken_by (drop n wakes) t) next_place

  -- it is not
  pub is_passed : ((get_or wakes i d).by == t) ≡ false → taken_by (drop i wakes) t ≡ taken_by (drop (i + 1) wakes) t
  is_passed is = by_whom false is ∙ ap (λ n. taken_by (drop n wakes) t) next_place
