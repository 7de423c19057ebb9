-- A filter that is done whole, and in the steps of a section.
use Rattle.std.proofs.Common.{◌≡◌, ℕ, ◌+◌, ◌<◌, ◌≤◌, Bool, true, false, Option, List, [], ◌∷◌, ◌++◌, length, map}
use Rattle.std.proofs.Common.{remove, replicate, Some, None, slice_get, refl, sym, ap, ◌∙◌, subst, append_assoc, arith}
use Rattle.std.proofs.Common.{zero, suc}
use Rattle.std.specs.Option.{option_map_or}
use Rattle.std.specs.List.{list_any}
use Rattle.std.proofs.lemmas.Bool.{false≢true}
use Rattle.std.proofs.lemmas.List.{append-nil, length_push}
use Rattle.parking_lot_core_model.specs.declared.parking.UnparkToken.{UnparkToken}
use Rattle.parking_lot_core_model.specs.declared.parking.FilterOp.{FilterOp}
use Rattle.parking_lot_core_model.specs.declared.parking.FilterOp.TheVariants.{Unpark, Skip, Stop}
use Rattle.parking_lot_core_model.specs.declared.place.Place.{Place}
use Rattle.parking_lot_core_model.specs.declared.place.Section.{Section}
use Rattle.parking_lot_core_model.specs.declared.place.Phase.{Phase}
use Rattle.parking_lot_core_model.specs.declared.place.Phase.TheVariants as phase
use Rattle.parking_lot_core_model.specs.declared.place.Waiter.{Waiter}
use Rattle.parking_lot_core_model.specs.Lists.{updated}
use Rattle.parking_lot_core_model.specs.Places.{changed, all_changed, held}
use Rattle.parking_lot_core_model.specs.Results.{chosen_by, passed_by, is_take}
use Rattle.parking_lot_core_model.specs.Machine.{Machine, threads_of, opened, in_phase, taken, stored, closed, unparked}
use Rattle.parking_lot_core_model.specs.Machine.{open_at, fresh_section}
use Rattle.parking_lot_core_model.specs.Operations.{all_taken}
use Rattle.parking_lot_core_model.specs.Sound.{Sound}
use Rattle.parking_lot_core_model.specs.InSteps.{ShowsSame, takings, answers_of}
use Rattle.parking_lot_core_model.proofs.Kept.{updated_at, updated_twice, remove_past, remove-seam, slice_get-seam}
use Rattle.parking_lot_core_model.proofs.Numbers.{slice_get_none}
use Rattle.parking_lot_core_model.proofs.Takings.{all_taken_none, taken_more, closed_taken_by}
use Rattle.parking_lot_core_model.proofs.Whole.{closed_alike, outside_of}
use Rattle.parking_lot_core_model.proofs.Entering.{within, phase_within}
use Rattle.parking_lot_core_model.proofs.Sounds.{quiet_at}

-- past the end nobody is taken
taken_past : (m : Machine) (key : ℕ) (ws rest : List Waiter) (i : ℕ) → slice_get rest i ≡ None
    → taken (all_taken m key ws rest) key i ≡ all_taken m key ws rest
taken_past m key ws rest i e =
    let n = all_taken m key ws rest in
    ap (λ (qs : List Waiter). record n {
      queues = updated (updated m.queues key rest) key (remove qs i);
      places = option_map_or (λ x. changed (held key) n.places x.thread) (slice_get qs i) n.places;
    })
    (updated_at m.queues key rest)
    ∙ (ap (λ (o : Option Waiter). record n {
      queues = updated (updated m.queues key rest) key (remove rest i);
      places = option_map_or (λ x. changed (held key) n.places x.thread) o n.places;
    }) e
    ∙ (ap (λ (qs : List Waiter). record n { queues = updated (updated m.queues key rest) key qs })
    (remove_past rest i (slice_get_none rest i e))
    ∙ ap (λ (qs : ℕ → List Waiter). record n { queues = qs }) (updated_twice m.queues key rest rest)))

module _ {X : Type 0} where
  chosen_nil : (answers : List FilterOp) → chosen_by {X = X} answers [] ≡ []
  chosen_nil [] = refl
  chosen_nil (a ∷ answers) = refl

  passed_nil : (answers : List FilterOp) → passed_by {X = X} answers [] ≡ []
  passed_nil [] = refl
  passed_nil (a ∷ answers) = refl

  -- answers that take nobody
  chosen_none : (answers : List FilterOp) (xs : List X) → list_any is_take answers ≡ false → chosen_by answers xs ≡ []
  chosen_none [] xs e = refl
  chosen_none (a ∷ answers) [] e = refl
  chosen_none (Unpark ∷ answers) (x ∷ xs) e = absurd (false≢true (sym e))
  chosen_none (Skip ∷ answers) (x ∷ xs) e = chosen_none answers xs e
  chosen_none (Stop ∷ answers) (x ∷ xs) e = refl

  passed_none : (answers : List FilterOp) (xs : List X) → list_any is_take answers ≡ false → passed_by answers xs ≡ xs
  passed_none [] xs e = refl
  passed_none (a ∷ answers) [] e = refl
  passed_none (Unpark ∷ answers) (x ∷ xs) e = absurd (false≢true (sym e))
  passed_none (Skip ∷ answers) (x ∷ xs) e = ap (λ ys. x ∷ ys) (passed_none answers xs e)
  passed_none (Stop ∷ answers) (x ∷ xs) e = refl

  past_end : (xs : List X) (i : ℕ) → length xs ≤ i → slice_get xs i ≡ None
  past_end [] i h = refl
  past_end (x ∷ xs) zero h = absurd (omega arith)
  past_end (x ∷ xs) (suc i) h = past_end xs i (omega arith)

module _ (m : Machine) (thread key : ℕ) (rest : List FilterOp) (none : list_any is_take rest ≡ false) where
  -- the thread's section, so far
  abbrev at_phase : Phase → Section
  at_phase ph = record (fresh_section (Some thread) key) { phase = ph }

  -- a lot whose section has taken these and left those
  abbrev At : Phase → List Waiter → List Waiter → Machine
  At ph ws left = within (all_taken m key ws left) (at_phase ph)

  -- behind the end of the list nothing changes
  takings_past : (ns : List ℕ) (ph : Phase) (ws left : List Waiter) (passed : ℕ) → length left ≤ passed → (t : Phase)
      × (takings (At ph ws left) key passed ns ≡ At t ws left)
  takings_past [] ph ws left passed h = (ph, refl)
  takings_past (n ∷ ns) ph ws left passed h =
      let at = passed + n in
      let r = takings_past ns (phase.Taking at) ws left at (omega arith) in (
        r.0,
        ap (λ (x : Machine). takings (taken x key at) key at ns)
            (phase_within (all_taken m key ws left) (at_phase ph) (phase.Taking at))
            ∙ (ap (λ (x : Machine). takings x key at ns)
            (taken_past (within m (at_phase (phase.Taking at))) key ws left at (past_end left at (omega arith)))
            ∙ r.1),
      )

  -- what takings come to, from where the list is cut
  abbrev Comes : List ℕ → Type 0
  Comes ns = (ph : Phase) (ws skipped r : List Waiter) (passed : ℕ) → passed ≡ length skipped
      → (t : Phase) × (takings (At ph ws (skipped ++ r)) key passed ns ≡ At t (ws ++ chosen_by (answers_of ns rest) r)
      (skipped ++ passed_by (answers_of ns rest) r))

  one : (ns : List ℕ) → Comes ns → (n : ℕ) (ws skipped r : List Waiter) (at : ℕ) → at ≡ length skipped + n
      → (t : Phase) × (takings (taken (At (phase.Taking at) ws (skipped ++ r)) key at) key at ns
      ≡ At t (ws ++ chosen_by (replicate n Skip ++ Unpark ∷ answers_of ns rest) r)
      (skipped ++ passed_by (replicate n Skip ++ Unpark ∷ answers_of ns rest) r))
  one ns go n ws skipped [] at e =
      let answers = replicate n Skip ++ Unpark ∷ answers_of ns rest in
      let l : length (skipped ++ []) ≤ at =
      (let a : length (skipped ++ []) ≡ length skipped = ap length (append-nil skipped) in omega arith) in
      let r = takings_past ns (phase.Taking at) ws (skipped ++ []) at l in (
        r.0,
        ap (λ (x : Machine). takings x key at ns)
            (taken_past (within m (at_phase (phase.Taking at))) key ws (skipped ++ []) at
            (past_end (skipped ++ []) at l))
            ∙ (r.1 ∙ (ap (λ xs. At r.0 xs (skipped ++ []))
            (sym (ap (λ xs. ws ++ xs) (chosen_nil answers) ∙ append-nil ws))
            ∙ ap (λ xs. At r.0 (ws ++ chosen_by answers []) (skipped ++ xs)) (sym (passed_nil answers)))),
      )
  one ns go zero ws skipped (w ∷ r) at e =
      let i : at ≡ length skipped = omega arith in
      let next = go (phase.Taking at) (ws ++ w ∷ []) skipped r at i in (
        next.0,
        ap (λ (x : Machine). takings x key at ns)
            (taken_more (within m (at_phase (phase.Taking at))) key ws (skipped ++ w ∷ r) at w
            (ap (slice_get (skipped ++ w ∷ r)) i ∙ slice_get-seam skipped w r)
            ∙ ap (λ xs. At (phase.Taking at) (ws ++ w ∷ []) xs)
            (ap (remove (skipped ++ w ∷ r)) i ∙ remove-seam skipped w r))
            ∙ (next.1 ∙ ap (λ xs. At next.0 xs (skipped ++ passed_by (answers_of ns rest) r))
            (append_assoc ws (w ∷ []) (chosen_by (answers_of ns rest) r))),
      )
  one ns go (suc n) ws skipped (y ∷ r) at e =
      let l : length (skipped ++ y ∷ []) ≡ length skipped + 1 = length_push skipped y in
      let next = one ns go n ws (skipped ++ y ∷ []) r at (omega arith) in
      let answers = replicate n Skip ++ Unpark ∷ answers_of ns rest in (
        next.0,
        ap (λ xs. takings (taken (At (phase.Taking at) ws xs) key at) key at ns)
            (sym (append_assoc skipped (y ∷ []) r))
            ∙ (next.1 ∙ ap (λ xs. At next.0 (ws ++ chosen_by answers r) xs)
            (append_assoc skipped (y ∷ []) (passed_by answers r))),
      )

  comes : (ns : List ℕ) → Comes ns
  comes [] ph ws skipped r passed e = (
    ph,
    ap (λ xs. At ph xs (skipped ++ r)) (sym (ap (λ xs. ws ++ xs) (chosen_none rest r none) ∙ append-nil ws))
        ∙ ap (λ xs. At ph (ws ++ chosen_by rest r) (skipped ++ xs)) (sym (passed_none rest r none)),
  )
  comes (n ∷ ns) ph ws skipped r passed e =
      let at = passed + n in
      let x = one ns (comes ns) n ws skipped r at (ap (λ k. k + n) e) in (
        x.0,
        ap (λ (y : Machine). takings (taken y key at) key at ns)
            (phase_within (all_taken m key ws (skipped ++ r)) (at_phase ph) (phase.Taking at)) ∙ x.1,
      )

-- a filter is an entering, takings, a store and a leaving
pub filter_in_steps : (m : Machine) (thread key : ℕ) (token : UnparkToken) (ns : List ℕ) (rest : List FilterOp)
    → Sound m → open_at m key ≡ None → m.inside thread ≡ None → list_any is_take rest ≡ false
    → ShowsSame (closed (stored (in_phase (takings (opened m (Some thread) key) key 0 ns) key phase.Ended) key token)
    key
    false) (unparked m key (chosen_by (answers_of ns rest) (m.queues key))
    (passed_by (answers_of ns rest) (m.queues key)) token)
filter_in_steps m thread key token ns rest h free outside none =
    let o = opened m (Some thread) key in
    let q = m.queues key in
    let ws = chosen_by (answers_of ns rest) q in
    let left = passed_by (answers_of ns rest) q in
    let s0 = fresh_section (Some thread) key in
    let r = comes m thread key rest none ns phase.Fresh [] [] q 0 refl in
    let same : takings o key 0 ns ≡ within (all_taken m key ws left) (record s0 { phase = r.0 }) =
    ap (λ (x : Machine). takings (within x s0) key 0 ns) (all_taken_none m key) ∙ r.1 in
    subst (λ (x : Machine). ShowsSame
    (closed (stored (in_phase (takings o key 0 ns) key phase.Ended) key token) key false) x)
    (ap (λ (x : Machine). closed (stored (in_phase x key phase.Ended) key token) key true) same
    ∙ (ap (λ (x : Machine). closed (stored x key token) key true)
    (phase_within (all_taken m key ws left) (record s0 { phase = r.0 }) phase.Ended)
    ∙ closed_taken_by m key token (quiet_at m key h free) free (record s0 { phase = phase.Ended })
    (outside_of m thread outside) ws left))
    (closed_alike (stored (in_phase (takings o key 0 ns) key phase.Ended) key token) key)
