-- Waiters move to another list, one by one.
use Rattle.std.proofs.Common.{◌≡◌, ℕ, ◌+◌, ◌<◌, ◌==◌, Bool, true, false, Option, List, [], ◌∷◌, ◌++◌, length, take}
use Rattle.std.proofs.Common.{drop, remove, Some, None, slice_get, refl, sym, ap, ◌∙◌, subst, append_assoc, arith, zero}
use Rattle.std.proofs.Common.{suc, add-one}
use Rattle.std.specs.Option.{option_map_or}
use Rattle.std.proofs.lemmas.List.{append-nil}
use Rattle.parking_lot_core_model.specs.declared.place.Place.{Place}
use Rattle.parking_lot_core_model.specs.declared.place.Waiter.{Waiter}
use Rattle.parking_lot_core_model.specs.Lists.{updated}
use Rattle.parking_lot_core_model.specs.Places.{all_changed, moved_to}
use Rattle.parking_lot_core_model.specs.Machine.{Machine, threads_of, moved, moved_first}
use Rattle.parking_lot_core_model.proofs.Kept.{updated_at, updated_other, updated_same, updated_twice, by_key}
use Rattle.parking_lot_core_model.proofs.Kept.{eqb_false_symm, by_eqb}
use Rattle.parking_lot_core_model.proofs.Entering.{none≢some}
use Rattle.parking_lot_core_model.proofs.Takings.{cut_more, all_changed_more, threads_more}

module _ {X : Type 0} where
  -- one list is left so, and the others come to the end of another
  abbrev pub relisted : (ℕ → List X) → ℕ → ℕ → List X → List X → ℕ → List X
  relisted qs from to rest xs = let q = updated qs from rest in updated q to (q to ++ xs)

  abbrev pub Steps : (ℕ → List X) → ℕ → ℕ → X → List X → List X → Type 0
  Steps qs from to x rest xs =
      let g = relisted qs from to (x ∷ rest) xs in
      (slice_get (g from) 0 ≡ Some x)
      × (relisted g from to (remove (g from) 0) (x ∷ []) ≡ relisted qs from to rest (xs ++ x ∷ []))

  within_one : (qs : ℕ → List X) (key : ℕ) (rest xs : List X) → relisted qs key key rest xs ≡ updated qs key
      (rest ++ xs)
  within_one qs key rest xs = ap (λ ys. updated (updated qs key rest) key (ys ++ xs)) (updated_at qs key rest)
      ∙ updated_twice qs key rest (rest ++ xs)

  steps_within : (qs : ℕ → List X) (key : ℕ) (x : X) (rest xs : List X) → Steps qs key key x rest xs
  steps_within qs key x rest xs =
      let g = relisted qs key key (x ∷ rest) xs in
      let h = updated qs key (x ∷ (rest ++ xs)) in
      let same : g ≡ h = within_one qs key (x ∷ rest) xs in
      let at : h key ≡ x ∷ (rest ++ xs) = updated_at qs key (x ∷ (rest ++ xs)) in (
        ap (λ (q : ℕ → List X). slice_get (q key) 0) same ∙ ap (λ ys. slice_get ys 0) at,
        ap (λ (q : ℕ → List X). relisted q key key (remove (q key) 0) (x ∷ [])) same
            ∙ (within_one h key (remove (h key) 0) (x ∷ [])
            ∙ (ap (λ ys. updated h key (remove ys 0 ++ x ∷ [])) at
            ∙ (updated_twice qs key (x ∷ (rest ++ xs)) ((rest ++ xs) ++ x ∷ [])
            ∙ (ap (updated qs key) (append_assoc rest xs (x ∷ [])) ∙ sym (within_one qs key rest (xs ++ x ∷ [])))))),
      )

  module _ (qs : ℕ → List X) (from to : ℕ) (apart : (from == to) ≡ false) where
    between : (rest xs : List X) → relisted qs from to rest xs ≡ updated (updated qs from rest) to (qs to ++ xs)
    between rest xs = ap (λ ys. updated (updated qs from rest) to (ys ++ xs))
        (updated_other qs from rest to (eqb_false_symm from to apart))

    steps_between : (x : X) (rest xs : List X) → Steps qs from to x rest xs
    steps_between x rest xs =
        let g = relisted qs from to (x ∷ rest) xs in
        let q = updated qs from (x ∷ rest) in
        let at : g from ≡ x ∷ rest = updated_other q to (q to ++ xs) from apart ∙ updated_at qs from (x ∷ rest) in
        let goes : g to ≡ qs to ++ xs = updated_at q to (q to ++ xs)
        ∙ ap (λ ys. ys ++ xs) (updated_other qs from (x ∷ rest) to (eqb_false_symm from to apart)) in
        let h = updated g from rest in
        let ends : h to ≡ qs to ++ xs = updated_other g from rest to (eqb_false_symm from to apart) ∙ goes in (
          ap (λ ys. slice_get ys 0) at,
          ap (λ ys. relisted g from to (remove ys 0) (x ∷ [])) at
              ∙ (ap (λ ys. updated h to (ys ++ x ∷ [])) ends
              ∙ (by_key (updated h to ((qs to ++ xs) ++ x ∷ []))
              (updated (updated qs from rest) to (qs to ++ (xs ++ x ∷ []))) to
              (updated_at h to ((qs to ++ xs) ++ x ∷ [])
              ∙ (append_assoc (qs to) xs (x ∷ [])
              ∙ sym (updated_at (updated qs from rest) to (qs to ++ (xs ++ x ∷ [])))))
              (λ k e. updated_other h to ((qs to ++ xs) ++ x ∷ []) k e
              ∙ (elsewhere x rest xs k e
              ∙ sym (updated_other (updated qs from rest) to (qs to ++ (xs ++ x ∷ [])) k e)))
              ∙ sym (between rest (xs ++ x ∷ [])))),
        )
      where
        elsewhere : (x : X) (rest xs : List X) (k : ℕ) → (k == to) ≡ false → updated (relisted qs from to (x ∷ rest) xs)
            from rest k ≡ updated qs from rest k
        elsewhere x rest xs k e =
            let g = relisted qs from to (x ∷ rest) xs in
            let q = updated qs from (x ∷ rest) in
            by_eqb k from (updated g from rest k ≡ updated qs from rest k)
            (λ s. ap (updated g from rest) s
            ∙ (updated_at g from rest ∙ (sym (updated_at qs from rest) ∙ ap (updated qs from rest) (sym s))))
            (λ d. updated_other g from rest k d
            ∙ (updated_other q to (q to ++ xs) k e
            ∙ (updated_other qs from (x ∷ rest) k d ∙ sym (updated_other qs from rest k d))))

  steps : (qs : ℕ → List X) (from to : ℕ) (x : X) (rest xs : List X) → Steps qs from to x rest xs
  steps qs from to x rest xs = by_eqb from to (Steps qs from to x rest xs)
      (λ e. subst (λ (key : ℕ). Steps qs from key x rest xs) e (steps_within qs from x rest xs))
      (λ e. steps_between qs from to e x rest xs)

-- nobody yet
pub moved_none : (m : Machine) (from to : ℕ) → m ≡ moved m from to [] (m.queues from)
moved_none m from to =
    ap (λ (qs : ℕ → List Waiter). record m { queues = qs }) (sym (
    ap (λ (q : ℕ → List Waiter). updated q to (q to ++ [])) (updated_same m.queues from)
    ∙ (ap (updated m.queues to) (append-nil (m.queues to)) ∙ updated_same m.queues to)))

-- one more moves
pub moved_more_suc : (m : Machine) (from to i : ℕ) (w : Waiter) → let q = m.queues from in slice_get q i ≡ Some w
    → moved_first (moved m from to (take i q) (drop i q)) from to ≡ moved m from to (take (suc i) q) (drop (suc i) q)
moved_more_suc m from to i w at =
    let q = m.queues from in
    let cut = cut_more q i w at in
    let split : drop i q ≡ w ∷ drop (suc i) q = front (drop i q) cut.1 ∙ ap (λ ys. w ∷ ys) cut.2 in
    let step = steps m.queues from to w (drop (suc i) q) (take i q) in
    let before = moved m from to (take i q) (w ∷ drop (suc i) q) in
    ap (λ (ws : List Waiter). moved_first (moved m from to (take i q) ws) from to) split
    ∙ (ap (λ o. option_map_or (λ x. moved before from to (x ∷ []) (remove (before.queues from) 0)) o before) step.0
    ∙ (ap (λ (qs : ℕ → List Waiter). record (moved before from to (w ∷ []) (remove (before.queues from) 0))
    { queues = qs }) step.1
    ∙ (ap (λ (ps : List (Option Place)). record m
    { queues = relisted m.queues from to (drop (suc i) q) (take i q ++ w ∷ []); places = ps })
    (sym (ap (all_changed (moved_to to) m.places) (threads_more (take i q) w) ∙ all_changed_more (moved_to to) m.places
    (threads_of (take i q)) w.thread))
    ∙ ap (λ (ws : List Waiter). moved m from to ws (drop (suc i) q)) (sym cut.0))))
  where
    front : (xs : List Waiter) → slice_get xs 0 ≡ Some w → xs ≡ w ∷ remove xs 0
    front [] e = absurd (none≢some e)
    front (x ∷ xs) e = ap (λ y. y ∷ xs) (same e)
      where
        same : {a b : Waiter} → Some a ≡ Some b → a ≡ b
        same e = cc

pub moved_more : (m : Machine) (from to i : ℕ) (w : Waiter) → let q = m.queues from in slice_get q i ≡ Some w
    → moved_first (moved m from to (take i q) (drop i q)) from to ≡ moved m from to (take (i + 1) q) (drop (i + 1) q)
moved_more m from to i w at = rw add-one (moved_more_suc m from to i w at)

-- within the list there is one
pub nth_of : {X : Type 0} (xs : List X) (i : ℕ) → i < length xs → (x : X) × (slice_get xs i ≡ Some x)
nth_of [] i h = absurd (omega arith)
nth_of (x ∷ xs) zero h = (x, refl)
nth_of (x ∷ xs) (suc i) h = nth_of xs i (omega arith)
