-- Who took a sleeper is still to wake it: kept where one role changes.
use Rattle.std.proofs.Common.{◌≡◌, ◌≢◌, ℕ, ◌<◌, ◌≤◌, ◌⊎◌, ⊎_elim, List, Option, Some, slice_get, slice_set, sym, ap}
use Rattle.std.proofs.Common.{◌∙◌, subst, inl, inr, arith}
use Rattle.std.proofs.lemmas.Bool.{cases_eq}
use Rattle.std.proofs.lemmas.Option.{same_Some}
use Rattle.parking_lot_rules.specs.Roles.{Role}
use Rattle.parking_lot_rules.specs.Lists.{occurs, AreNotedBy}
use Rattle.parking_lot_rules.specs.Lock.{Note, role_wakes}
use Rattle.parking_lot_rules.proofs.Indexed.{get-set_same, get-set_other, get-set_cases}

-- a thread that is still to wake u, which it took so
abbrev pub WillWakeBy : {R N : Type 0} → (R → N → List ℕ) → List R → ℕ → ℕ → N → Type 0
WillWakeBy {R} {N} wakes rs by u n = (s : R) × (slice_get rs by ≡ Some s) × (0 < occurs u (wakes s n))

abbrev pub WillWake : List Role → ℕ → ℕ → Note → Type 0
WillWake rs by u note = WillWakeBy role_wakes rs by u note

module _ {R N : Type 0} (note : R → Option (ℕ × N)) (wakes : R → N → List ℕ) (rs : List R) (t : ℕ) (a b : R)
    (at : slice_get rs t ≡ Some a) where
  pub noted-set : AreNotedBy note wakes rs → ((by : ℕ) (n : N) → note b ≡ Some (by, n) → WillWakeBy wakes rs by t n)
      → ((u : ℕ) (r : R) (n : N) → slice_get (slice_set rs t b) u ≡ Some r → note r ≡ Some (t, n)
      → occurs u (wakes a n) ≤ occurs u (wakes b n))
      → AreNotedBy note wakes (slice_set rs t b)
  noted-set noted own grows u by r n here took = later (was (get-set_cases rs t u a r b at here))
    where
      was : ((u ≡ t) × (r ≡ b)) ⊎ ((u ≢ t) × (slice_get rs u ≡ Some r)) → WillWakeBy wakes rs by u n
      was (inl e) = subst (λ (v : ℕ). WillWakeBy wakes rs by v n) (sym e.0) (own by n (ap note (sym e.1) ∙ took))
      was (inr e) = noted u by r n e.1 took

      later : WillWakeBy wakes rs by u n → WillWakeBy wakes (slice_set rs t b) by u n
      later w = ⊎_elim
          (λ e.
          let same : a ≡ w.0 = same_Some a w.0 (sym at ∙ ap (λ v. slice_get rs v) (sym e) ∙ w.1) in
          let more : occurs u (wakes a n) ≤ occurs u (wakes b n) = grows u r n here (took ∙ ap (λ v. Some (v, n)) e) in
          let some : 0 < occurs u (wakes a n) = subst (λ (s : R). 0 < occurs u (wakes s n)) (sym same) w.2 in
          (b, ap (λ v. slice_get (slice_set rs t b) v) e ∙ get-set_same rs t a b at, omega (arith, more, some)))
          (λ ne. (w.0, get-set_other rs t by b (λ e. ne (sym e)) ∙ w.1, w.2))
          (cases_eq by t)
