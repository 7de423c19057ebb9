-- What is true of each lot stays true.
use Rattle.std.proofs.Common.{◌≡◌, ℕ, ◌+◌, ◌<◌, ◌≤◌, ◌==◌, Bool, true, false, cond, List, [], ◌∷◌, ◌++◌, length, map}
use Rattle.std.proofs.Common.{take, drop, remove, Option, Some, None, slice_get, slice_set, refl, sym, ap, ◌∙◌, subst}
use Rattle.std.proofs.Common.{eqb-true, eq-eqb, arith, count_by, suc, add-zero, zero, ◌%◌, ◌^◌, ◌⊎◌, ◌&&◌, not}
use mathlib.Core.Logic.{inl, inr}
use Rattle.std.specs.Option.{option_map, option_map_or, option_and_then}
use Rattle.std.proofs.lemmas.Bool.{cond-true, cond-false, eqb-false, ne_eqb, both_ways, false≢true}
use Rattle.parking_lot_core_model.specs.declared.parking.UnparkToken.{UnparkToken}
use Rattle.parking_lot_core_model.specs.declared.parking.ParkToken.{ParkToken}
use Rattle.parking_lot_core_model.specs.declared.place.Place.{Place}
use Rattle.parking_lot_core_model.specs.declared.place.Place.TheVariants.{Running, Waiting, Held, Taken}
use Rattle.parking_lot_core_model.specs.declared.place.Sleep.{Sleep}
use Rattle.parking_lot_core_model.specs.declared.place.Section.{Section}
use Rattle.parking_lot_core_model.specs.declared.place.Waiter.{Waiter}
use Rattle.parking_lot_core_model.specs.declared.place.Phase.{Phase}
use Rattle.parking_lot_core_model.specs.declared.place.Phase.TheVariants as phase
use Rattle.parking_lot_core_model.specs.Lists.{updated, without_first}
use Rattle.parking_lot_core_model.specs.Buckets.{any_open}
use Rattle.parking_lot_core_model.specs.Places.{place_at, changed, waits_at, is_waiting, is_held, is_near, may_return}
use Rattle.parking_lot_core_model.specs.Places.{may_join, held, told, late, roused}
use Rattle.parking_lot_core_model.specs.Machine.{Machine, is_thread, is_in, bucket_of, open_at, token_of, entered_by}
use Rattle.parking_lot_core_model.specs.Machine.{section_of, let_in, let_out, changed_at, joined, taken, opened}
use Rattle.parking_lot_core_model.specs.Machine.{in_phase, stored, closed, returned, given_up, retired, registered}
use Rattle.parking_lot_core_model.specs.Machine.{fresh_section, free_number}
use Rattle.parking_lot_core_model.specs.Sound.{Sound, SectionsFit, IsOpen, IsInside, times_at}
use Rattle.parking_lot_core_model.proofs.Kept.{by_eqb, updated_at, updated_other, eqb_false_symm}
use Rattle.parking_lot_core_model.proofs.Numbers.{flag, slice_get-set_same, slice_get-set_other, count_by-push}
use Rattle.parking_lot_core_model.proofs.Numbers.{count_by-remove, count_by-at}
use Rattle.parking_lot_core_model.proofs.Entering.{none≢some, some≢none, same_some, none_of_some, within, IsOutside}
use Rattle.parking_lot_core_model.proofs.Entering.{fits_beside, stays_beside, was_beside, fits_on, comes_from, goes_on}
use Rattle.parking_lot_core_model.proofs.Entering.{thread_from, fits_off, still_open, stays_open, was_in, none_open}
use Rattle.parking_lot_core_model.proofs.Entering.{nobody_in, fits_grown, closed_as, phase_within, open_within}

same_place : {p q : Place} → Some p ≡ Some q → p ≡ q
same_place e = cc

-- a thread's own place, and another's, with the thread's changed
pub some_slot : (o : Option (Option Place)) (p : Place) → option_and_then (λ x. x) o ≡ Some p → o ≡ Some (Some p)
some_slot None p h = absurd (none≢some h)
some_slot (Some o) p h = ap (λ x. Some x) h

pub place_at-set_same : (ps : List (Option Place)) (t : ℕ) (p : Place) (o : Option Place) → place_at ps t ≡ Some p
    → place_at (slice_set ps t o) t ≡ o
place_at-set_same ps t p o h =
    ap (option_and_then (λ x. x)) (slice_get-set_same ps t (Some p) o (some_slot (slice_get ps t) p h))

pub place_at-set_other : (ps : List (Option Place)) (t u : ℕ) (o : Option Place) → (u == t) ≡ false
    → place_at (slice_set ps t o) u ≡ place_at ps u
place_at-set_other ps t u o e = ap (option_and_then (λ x. x)) (slice_get-set_other ps t u o e)

-- only one thread's place and standing changes
pub sound_one : (m : Machine) (t sleeps : ℕ) (qs : ℕ → List Waiter) (rs : ℕ → List ℕ) (ps : List (Option Place))
    → Sound m
    → ((u k : ℕ) → (u == t) ≡ false → count_by (is_thread u) (qs k) ≡ count_by (is_thread u) (m.queues k))
    → ((k : ℕ) → count_by (is_thread t) (qs k) ≡ times_at k (place_at ps t))
    → ((u : ℕ) → (u == t) ≡ false → place_at ps u ≡ place_at m.places u)
    → ((k : ℕ) → option_map_or (is_held k) (place_at ps t) false ≡ true → IsOpen m k)
    → ((b : ℕ) (s : Section) → m.sections b ≡ Some s → s.thread ≡ Some t → may_join s.phase ≡ true
    → place_at ps t ≡ Some Running)
    → ((k : ℕ) → m.inside t ≡ Some k → option_map_or (is_near k) (place_at ps t) false ≡ true)
    → ((u : ℕ) → place_at ps u ≡ None → rs u ≡ [])
    → Sound (record m { sleeps = sleeps; queues = qs; resources = rs; places = ps })
sound_one m t sleeps qs rs ps h others here apart free inside near owned = record {
  waits = λ u k. by_eqb u t (count_by (is_thread u) (qs k) ≡ times_at k (place_at ps u))
      (λ e. subst (λ (v : ℕ). count_by (is_thread v) (qs k) ≡ times_at k (place_at ps v)) (sym e) (here k))
      (λ e. others u k e ∙ (h.waits u k ∙ ap (times_at k) (sym (apart u e))));
  held = λ u k is. by_eqb u t (IsOpen m k)
      (λ e. free k (ap (λ v. option_map_or (is_held k) (place_at ps v) false) (sym e) ∙ is))
      (λ e. h.held u k (ap (λ o. option_map_or (is_held k) o false) (sym (apart u e)) ∙ is));
  inside = λ b s u is whose may. by_eqb u t (place_at ps u ≡ Some Running)
      (λ e. ap (place_at ps) e ∙ inside b s is (whose ∙ ap (λ v. Some v) e) may)
      (λ e. apart u e ∙ h.inside b s u is whose may);
  near = λ u k at. by_eqb u t (option_map_or (is_near k) (place_at ps u) false ≡ true)
      (λ e. ap (λ v. option_map_or (is_near k) (place_at ps v) false) e ∙ near k (ap m.inside (sym e) ∙ at))
      (λ e. ap (λ o. option_map_or (is_near k) o false) (apart u e) ∙ h.near u k at);
  fit = h.fit;
  owned = owned;
}

-- what is known of a place, where it is known
held_as : (o : Option Place) (p : Place) (k : ℕ) → o ≡ Some p → option_map_or (is_held k) o false ≡ true
    → is_held k p ≡ true
held_as o p k at is = sym (ap (λ x. option_map_or (is_held k) x false) at) ∙ is

near_as : (o : Option Place) (p : Place) (k : ℕ) → o ≡ Some p → option_map_or (is_near k) o false ≡ true
    → is_near k p ≡ true
near_as o p k at is = sym (ap (λ x. option_map_or (is_near k) x false) at) ∙ is

-- a thread's place changes, and neither where it stands nor whether it is registered
pub sound_place : (m : Machine) (t : ℕ) (p q : Place) → Sound m → place_at m.places t ≡ Some p
    → ((k : ℕ) → waits_at k q ≡ waits_at k p)
    → ((k : ℕ) → is_held k q ≡ true → is_held k p ≡ true)
    → ((k : ℕ) → is_near k p ≡ true → is_near k q ≡ true)
    → (p ≡ Running → q ≡ Running)
    → Sound (record m { places = slice_set m.places t (Some q) })
sound_place m t p q h at waits free near runs =
    let ps = slice_set m.places t (Some q) in
    let here : place_at ps t ≡ Some q = place_at-set_same m.places t p (Some q) at in
    sound_one m t m.sleeps m.queues m.resources ps h
    (λ u k e. refl)
    (λ k. h.waits t k ∙ (ap (times_at k) at ∙ (ap (λ b. cond b 1 0) (sym (waits k)) ∙ ap (times_at k) (sym here))))
    (λ u e. place_at-set_other m.places t u (Some q) e)
    (λ k is. h.held t k (ap (λ o. option_map_or (is_held k) o false) at
    ∙ free k (held_as (place_at ps t) q k here is)))
    (λ b s is whose may. here ∙ ap (λ x. Some x) (runs (same_place (sym at ∙ h.inside b s t is whose may))))
    (λ k is. ap (λ o. option_map_or (is_near k) o false) here
    ∙ near k (near_as (place_at m.places t) p k at (h.near t k is)))
    (λ u none. by_eqb u t (m.resources u ≡ [])
    (λ e. absurd (some≢none (sym here ∙ (ap (place_at ps) (sym e) ∙ none))))
    (λ e. h.owned u (sym (place_at-set_other m.places t u (Some q) e) ∙ none)))

-- a registered thread's resources change
pub sound_owned : (m : Machine) (t : ℕ) (p : Place) (keys : List ℕ) → Sound m → place_at m.places t ≡ Some p
    → Sound (record m { resources = updated m.resources t keys })
sound_owned m t p keys h at = record {
  waits = h.waits;
  held = h.held;
  inside = h.inside;
  near = h.near;
  fit = h.fit;
  owned = λ u none. by_eqb u t (updated m.resources t keys u ≡ [])
      (λ e. absurd (some≢none (sym at ∙ (ap (place_at m.places) (sym e) ∙ none))))
      (λ e. updated_other m.resources t keys u e ∙ h.owned u none);
}

-- a thread that is in no section has none
pub is_outside : (m : Machine) (t : ℕ) → Sound m → m.inside t ≡ None → (b : ℕ) (s : Section) → m.sections b ≡ Some s
    → s.thread ≡ Some t → ⊥
is_outside m t h out b s at whose = none≢some (sym out ∙ h.fit.owner b s t at whose)

pub sound_retired : (m : Machine) (t : ℕ) → Sound m → place_at m.places t ≡ Some Running → is_in m t ≡ false
    → Sound (retired m t)
sound_retired m t h at out =
    let ps = slice_set m.places t None in
    let here : place_at ps t ≡ None = place_at-set_same m.places t Running None at in
    let outside : m.inside t ≡ None = none_of_some (m.inside t) out in
    sound_one m t m.sleeps m.queues (updated m.resources t []) ps h
    (λ u k e. refl)
    (λ k. h.waits t k ∙ (ap (times_at k) at ∙ ap (times_at k) (sym here)))
    (λ u e. place_at-set_other m.places t u None e)
    (λ k is. absurd (false≢true (sym (ap (λ o. option_map_or (is_held k) o false) here) ∙ is)))
    (λ b s is whose may. absurd (is_outside m t h outside b s is whose))
    (λ k is. absurd (none≢some (sym outside ∙ is)))
    (λ u none. by_eqb u t (updated m.resources t [] u ≡ [])
    (λ e. ap (updated m.resources t []) e ∙ updated_at m.resources t [])
    (λ e. updated_other m.resources t [] u e ∙ h.owned u (sym (place_at-set_other m.places t u None e) ∙ none)))

-- a waiter at the end of a list, and one taken out of it
module _ (qs : ℕ → List Waiter) (key : ℕ) (w : Waiter) where
  abbrev pushed : ℕ → List Waiter
  pushed = updated qs key (qs key ++ w ∷ [])

  push_others : (u k : ℕ) → (u == w.thread) ≡ false → count_by (is_thread u) (pushed k) ≡ count_by (is_thread u) (qs k)
  push_others u k e = by_eqb k key (count_by (is_thread u) (pushed k) ≡ count_by (is_thread u) (qs k))
      (λ same. ap (λ j. count_by (is_thread u) (pushed j)) same
      ∙ (ap (count_by (is_thread u)) (updated_at qs key (qs key ++ w ∷ []))
      ∙ (count_by-push (is_thread u) (qs key) w
      ∙ (ap (λ b. count_by (is_thread u) (qs key) + flag b) (eqb_false_symm u w.thread e)
      ∙ (add-zero (count_by (is_thread u) (qs key)) ∙ ap (λ j. count_by (is_thread u) (qs j)) (sym same))))))
      (λ other. ap (count_by (is_thread u)) (updated_other qs key (qs key ++ w ∷ []) k other))

  push_here : (sleep : Sleep) → ((k : ℕ) → count_by (is_thread w.thread) (qs k) ≡ 0) → (k : ℕ)
      → count_by (is_thread w.thread) (pushed k) ≡ times_at k (Some (Waiting key sleep))
  push_here sleep none k =
      by_eqb k key (count_by (is_thread w.thread) (pushed k) ≡ times_at k (Some (Waiting key sleep)))
      (λ same. ap (λ j. count_by (is_thread w.thread) (pushed j)) same
      ∙ (ap (count_by (is_thread w.thread)) (updated_at qs key (qs key ++ w ∷ []))
      ∙ (count_by-push (is_thread w.thread) (qs key) w
      ∙ (ap (λ n. n + flag (w.thread == w.thread)) (none key)
      ∙ (ap (λ b. 0 + flag b) (eq-eqb w.thread w.thread refl) ∙ ap flag (sym (eq-eqb key k (sym same))))))))
      (λ other. ap (count_by (is_thread w.thread)) (updated_other qs key (qs key ++ w ∷ []) k other)
      ∙ (none k ∙ ap flag (sym (eqb_false_symm k key other))))

  module _ (nth : ℕ) (at : slice_get (qs key) nth ≡ Some w) where
    abbrev removed : ℕ → List Waiter
    removed = updated qs key (remove (qs key) nth)

    remove_others : (u k : ℕ) → (u == w.thread) ≡ false → count_by (is_thread u) (removed k) ≡ count_by (is_thread u)
        (qs k)
    remove_others u k e = by_eqb k key (count_by (is_thread u) (removed k) ≡ count_by (is_thread u) (qs k))
        (λ same. ap (λ j. count_by (is_thread u) (removed j)) same
        ∙ (ap (count_by (is_thread u)) (updated_at qs key (remove (qs key) nth))
        ∙ (sym (add-zero (count_by (is_thread u) (remove (qs key) nth)))
        ∙ (ap (λ b. count_by (is_thread u) (remove (qs key) nth) + flag b) (sym (eqb_false_symm u w.thread e))
        ∙ (count_by-remove (is_thread u) (qs key) nth w at ∙ ap (λ j. count_by (is_thread u) (qs j)) (sym same))))))
        (λ other. ap (count_by (is_thread u)) (updated_other qs key (remove (qs key) nth) k other))

    remove_here : (sleep : Sleep)
        → ((k : ℕ) → count_by (is_thread w.thread) (qs k) ≡ times_at k (Some (Waiting key sleep))) → (k : ℕ)
        → count_by (is_thread w.thread) (removed k) ≡ 0
    remove_here sleep once k = by_eqb k key (count_by (is_thread w.thread) (removed k) ≡ 0)
        (λ same.
        let one : times_at key (Some (Waiting key sleep)) ≡ 1 = ap flag (eq-eqb key key refl) in
        let less : count_by (is_thread w.thread) (remove (qs key) nth) + flag (w.thread == w.thread) ≡ count_by
        (is_thread w.thread) (qs key) = count_by-remove (is_thread w.thread) (qs key) nth w at in
        let self : flag (w.thread == w.thread) ≡ 1 = ap flag (eq-eqb w.thread w.thread refl) in
        let all : count_by (is_thread w.thread) (qs key) ≡ times_at key (Some (Waiting key sleep)) = once key in
        let gone : count_by (is_thread w.thread) (remove (qs key) nth) ≡ 0 = omega arith in
        ap (λ j. count_by (is_thread w.thread) (removed j)) same
        ∙ (ap (count_by (is_thread w.thread)) (updated_at qs key (remove (qs key) nth)) ∙ gone))
        (λ other. ap (count_by (is_thread w.thread)) (updated_other qs key (remove (qs key) nth) k other)
        ∙ (once k ∙ ap flag (eqb_false_symm k key other)))

-- who is counted in a key's list waits there
waits_there : (key : ℕ) (o : Option Place) → 1 ≤ times_at key o → (sleep : Sleep) × (o ≡ Some (Waiting key sleep))
waits_there key None h = absurd (omega arith)
waits_there key (Some Running) h = absurd (omega arith)
waits_there key (Some (Held k s)) h = absurd (omega arith)
waits_there key (Some (Taken t k s b)) h = absurd (omega arith)
waits_there key (Some (Waiting key' s)) h =
    by_eqb key' key ((sleep : Sleep) × (Some (Waiting key' s) ≡ Some (Waiting key sleep)))
    (λ e. (s, ap (λ k. Some (Waiting k s)) e))
    (λ e. absurd (let z : times_at key (Some (Waiting key' s)) ≡ 0 = ap flag e in omega arith))

pub waiter_place : (m : Machine) (key nth : ℕ) (w : Waiter) → Sound m → slice_get (m.queues key) nth ≡ Some w
    → (sleep : Sleep) × (place_at m.places w.thread ≡ Some (Waiting key sleep))
waiter_place m key nth w h at =
    waits_there key (place_at m.places w.thread)
    (subst (λ (n : ℕ). 1 ≤ n) (h.waits w.thread key)
    (count_by-at (is_thread w.thread) (m.queues key) nth w at (eq-eqb w.thread w.thread refl)))

-- a running thread joins a list
pub sound_joined : (m : Machine) (t key : ℕ) (token : ParkToken) (timed : Bool) → Sound m
    → place_at m.places t ≡ Some Running → ((k : ℕ) → m.inside t ≡ Some k → k ≡ key)
    → ((b : ℕ) (s : Section) → m.sections b ≡ Some s → s.thread ≡ Some t → may_join s.phase ≡ false)
    → Sound (joined m t key token timed)
sound_joined m t key token timed h at near outside =
    let w : Waiter = record { thread = t; token = token } in
    let mark = (m.sleeps + 1) % 2 ^ 64 in
    let sleep : Sleep = record { mark = mark; timed = timed; late = false } in
    let ps = slice_set m.places t (Some (Waiting key sleep)) in
    let here : place_at ps t ≡ Some (Waiting key sleep) =
    place_at-set_same m.places t Running (Some (Waiting key sleep)) at in
    sound_one m t mark (updated m.queues key (m.queues key ++ w ∷ [])) m.resources ps h
    (λ u k e. push_others m.queues key w u k e)
    (λ k. push_here m.queues key w sleep (λ j. h.waits t j ∙ ap (times_at j) at) k ∙ ap (times_at k) (sym here))
    (λ u e. place_at-set_other m.places t u (Some (Waiting key sleep)) e)
    (λ k is. absurd (false≢true (held_as (place_at ps t) (Waiting key sleep) k here is)))
    (λ b s is whose may. absurd (false≢true (sym (outside b s is whose) ∙ may)))
    (λ k is. ap (λ o. option_map_or (is_near k) o false) here ∙ eq-eqb key k (sym (near k is)))
    (λ u none. by_eqb u t (m.resources u ≡ [])
    (λ e. absurd (some≢none (sym here ∙ (ap (place_at ps) (sym e) ∙ none))))
    (λ e. h.owned u (sym (place_at-set_other m.places t u (Some (Waiting key sleep)) e) ∙ none)))

-- a waiter stands no longer, or in another list
module _ (m : Machine) (key nth : ℕ) (w : Waiter) (h : Sound m) (at : slice_get (m.queues key) nth ≡ Some w) where
  leaves : (q : Place) (qs : ℕ → List Waiter)
      → ((u k : ℕ) → (u == w.thread) ≡ false → count_by (is_thread u) (qs k) ≡ count_by (is_thread u) (m.queues k))
      → ((k : ℕ) → count_by (is_thread w.thread) (qs k) ≡ times_at k (Some q))
      → ((k : ℕ) → is_held k q ≡ true → IsOpen m k)
      → ((k : ℕ) → m.inside w.thread ≡ Some k → is_near k q ≡ true)
      → Sound (record m { queues = qs; places = slice_set m.places w.thread (Some q) })
  leaves q qs others here free near =
      let stands = waiter_place m key nth w h at in
      let ps = slice_set m.places w.thread (Some q) in
      let now : place_at ps w.thread ≡ Some q = place_at-set_same m.places w.thread (Waiting key stands.0) (Some q)
      stands.1 in
      sound_one m w.thread m.sleeps qs m.resources ps h
      others
      (λ k. here k ∙ ap (times_at k) (sym now))
      (λ u e. place_at-set_other m.places w.thread u (Some q) e)
      (λ k is. free k (held_as (place_at ps w.thread) q k now is))
      (λ b s is whose may. absurd (waiting≢running (sym stands.1 ∙ h.inside b s w.thread is whose may)))
      (λ k is. ap (λ o. option_map_or (is_near k) o false) now ∙ near k is)
      (λ u none. by_eqb u w.thread (m.resources u ≡ [])
      (λ e. absurd (some≢none (sym now ∙ (ap (place_at ps) (sym e) ∙ none))))
      (λ e. h.owned u (sym (place_at-set_other m.places w.thread u (Some q) e) ∙ none)))
    where
      waiting≢running : {k : ℕ} {s : Sleep} → Some (Waiting k s) ≡ Some Running → ⊥
      waiting≢running e = cc

  once : (k : ℕ) → count_by (is_thread w.thread) (m.queues k) ≡ times_at k
      (Some (Waiting key (waiter_place m key nth w h at).0))
  once k = h.waits w.thread k ∙ ap (times_at k) (waiter_place m key nth w h at).1

  pub sound_left : (q : Place) → ((k : ℕ) → times_at k (Some q) ≡ 0) → ((k : ℕ) → is_held k q ≡ true → IsOpen m k)
      → ((k : ℕ) → (key == k) ≡ true → is_near k q ≡ true)
      → Sound (record m {
        queues = updated m.queues key (remove (m.queues key) nth);
        places = slice_set m.places w.thread (Some q);
      })
  sound_left q nowhere free near =
      let stands = waiter_place m key nth w h at in
      leaves q (updated m.queues key (remove (m.queues key) nth))
      (λ u k e. remove_others m.queues key w nth at u k e)
      (λ k. remove_here m.queues key w nth at stands.0 once k ∙ sym (nowhere k))
      free
      (λ k is. near k (near_as (place_at m.places w.thread) (Waiting key stands.0) k stands.1 (h.near w.thread k is)))

  pub sound_relisted : (to : ℕ) (sleep : Sleep) → m.inside w.thread ≡ None →
      let qs = updated m.queues key (remove (m.queues key) nth) in
      Sound (record m {
        queues = updated qs to (qs to ++ w ∷ []);
        places = slice_set m.places w.thread (Some (Waiting to sleep));
      })
  sound_relisted to sleep outside =
      let qs = updated m.queues key (remove (m.queues key) nth) in
      leaves (Waiting to sleep) (updated qs to (qs to ++ w ∷ []))
      (λ u k e. push_others qs to w u k e ∙ remove_others m.queues key w nth at u k e)
      (λ k. push_here qs to w sleep (remove_here m.queues key w nth at (waiter_place m key nth w h at).0 once) k)
      (λ k is. absurd (false≢true is))
      (λ k is. absurd (none≢some (sym outside ∙ is)))

-- where no section is open in a key's bucket, nobody is held by one of the key
pub quiet_at : (m : Machine) (key : ℕ) → Sound m → open_at m key ≡ None → (t : ℕ)
    → option_map_or (is_held key) (place_at m.places t) false ≡ false
quiet_at m key h free t = by (option_map_or (is_held key) (place_at m.places t) false) refl
  where
    by : (b : Bool) → option_map_or (is_held key) (place_at m.places t) false ≡ b
        → option_map_or (is_held key) (place_at m.places t) false ≡ false
    by true e = let x = h.held t key e in absurd (none≢some (sym free ∙ x.1))
    by false e = e

-- who waits in a list is in no section but of its key; where that bucket is nobody's it is in none
pub waits_outside : (m : Machine) (t key : ℕ) (p : Place) → Sound m → place_at m.places t ≡ Some p
    → ((k : ℕ) → is_near k p ≡ true → k ≡ key) → ((s : Section) → open_at m key ≡ Some s → s.thread ≡ None)
    → m.inside t ≡ None
waits_outside m t key p h at stands nobody = by (m.inside t) refl
  where
    by : (o : Option ℕ) → m.inside t ≡ o → m.inside t ≡ None
    by None e = e
    by (Some k) e =
        let x = h.fit.entered t k e in
        let same : k ≡ key = stands k (near_as (place_at m.places t) p k at (h.near t k e)) in
        absurd (none≢some (sym (nobody x.0 (ap (λ j. open_at m j) (sym same) ∙ x.1)) ∙ x.3))

-- SECTIONS

-- a section is opened
pub sound_within : (m : Machine) (n : Section) → Sound m → open_at m n.key ≡ None → IsOutside m n.thread
    → ((t : ℕ) → n.thread ≡ Some t → may_join n.phase ≡ true → place_at m.places t ≡ Some Running)
    → ((t : ℕ) → n.thread ≡ Some t → option_map_or (is_near n.key) (place_at m.places t) false ≡ true)
    → Sound (within m n)
sound_within m n h free outside runs near = record {
  waits = h.waits;
  held = λ u k is. let x = h.held u k is in
      (x.0, stays_beside m.buckets m.sections m.inside h.fit n free outside (bucket_of m k) x.0 x.1, x.2);
  inside = λ b s t at whose may. was_beside m.buckets m.sections m.inside h.fit n free outside b s
      (place_at m.places t ≡ Some Running) at
      (λ e same. runs t (ap (λ (x : Section). x.thread) same ∙ whose) (ap (λ (x : Section). may_join x.phase) same
      ∙ may))
      (λ old. h.inside b s t old whose may);
  near = λ t k at. comes_near n.thread (λ v e. near v e) t k at;
  fit = fits_beside m.buckets m.sections m.inside h.fit n free outside;
  owned = h.owned;
}
  where
    comes_near : (o : Option ℕ)
        → ((t : ℕ) → o ≡ Some t → option_map_or (is_near n.key) (place_at m.places t) false ≡ true)
        → (t k : ℕ) → let_in o n.key m.inside t ≡ Some k → option_map_or (is_near k) (place_at m.places t) false ≡ true
    comes_near None its t k at = h.near t k at
    comes_near (Some v) its t k at = by_eqb t v (option_map_or (is_near k) (place_at m.places t) false ≡ true)
        (λ e.
        let same : n.key ≡ k =
        same_some (sym (updated_at m.inside v (Some n.key)) ∙ (ap (updated m.inside v (Some n.key)) (sym e) ∙ at)) in
        subst (λ (j : ℕ). option_map_or (is_near j) (place_at m.places t) false ≡ true) same
        (ap (λ u. option_map_or (is_near n.key) (place_at m.places u) false) e ∙ its v refl))
        (λ e. h.near t k (sym (updated_other m.inside v (Some n.key) t e) ∙ at))

pub sound_opened : (m : Machine) (owner : Option ℕ) (key : ℕ) → Sound m → open_at m key ≡ None → IsOutside m owner
    → ((t : ℕ) → owner ≡ Some t → place_at m.places t ≡ Some Running) → Sound (opened m owner key)
sound_opened m owner key h free outside runs =
    sound_within m (fresh_section owner key) h free outside (λ t e may. runs t e)
    (λ t e. ap (λ o. option_map_or (is_near key) o false) (runs t e))

-- one that sleeps comes back
pub returned_as : (m : Machine) (t key : ℕ) → returned m t key ≡ within m
    (record { thread = Some t; key = key; phase = phase.Joined; token = record { 0 = 0 } })
returned_as m t key = phase_within m (fresh_section (Some t) key) phase.Joined

pub sound_returned : (m : Machine) (t key : ℕ) → Sound m → open_at m key ≡ None
    → option_map_or (may_return key) (place_at m.places t) false ≡ true → Sound (returned m t key)
sound_returned m t key h free may = by (place_at m.places t) refl may
  where
    by : (o : Option Place) → place_at m.places t ≡ o → option_map_or (may_return key) o false ≡ true
        → Sound (returned m t key)
    by None at e = absurd (false≢true e)
    by (Some p) at e =
        let stands = stands_there p e in
        let outside : m.inside t ≡ None = waits_outside m t key p h at stands.1
        (λ s is. absurd (none≢some (sym free ∙ is))) in
        subst Sound (sym (returned_as m t key))
        (sound_within m (record { thread = Some t; key = key; phase = phase.Joined; token = record { 0 = 0 } }) h free
        (λ u its. ap m.inside (sym (same_some its)) ∙ outside) (λ u its j. absurd (false≢true j))
        (λ u its. ap (λ v. option_map_or (is_near key) (place_at m.places v) false) (sym (same_some its))
        ∙ (ap (λ o. option_map_or (is_near key) o false) at ∙ stands.0)))
      where
        stands_there : (p : Place) → may_return key p ≡ true
            → (is_near key p ≡ true) × ((k : ℕ) → is_near k p ≡ true → k ≡ key)
        stands_there Running e = absurd (false≢true e)
        stands_there (Waiting key' s) e = (e, λ k is. sym (eqb-true key' k is) ∙ eqb-true key' key e)
        stands_there (Held key' s) e = absurd (false≢true e)
        stands_there (Taken token key' s woken) e =
            let here : (key' == key) ≡ true = first (key' == key) (not woken) e in
            (here, λ k is. sym (eqb-true key' k is) ∙ eqb-true key' key here)
          where
            first : (a b : Bool) → (a && b) ≡ true → a ≡ true
            first true b e = refl
            first false b e = absurd (false≢true e)

-- a section comes on, or its store is said
pub sound_section : (m : Machine) (key : ℕ) (f : Section → Section) → Sound m
    → ((s : Section) → (f s).thread ≡ s.thread) → ((s : Section) → (f s).key ≡ s.key)
    → ((s : Section) → open_at m key ≡ Some s → may_join (f s).phase ≡ true → may_join s.phase ≡ true)
    → Sound (record m { sections = updated m.sections (bucket_of m key) (option_map f (open_at m key)) })
sound_section m key f h same_thread same_key joins = record {
  waits = h.waits;
  held = λ u k is. let x = h.held u k is in
      let y = goes_on m.buckets m.sections m.inside h.fit key f same_thread same_key (bucket_of m k) x.0 x.1 in
      (y.0, y.1, y.3 ∙ x.2);
  inside = λ b s t at whose may. runs b s t whose may
      (comes_from m.buckets m.sections m.inside h.fit key f same_thread same_key b s at);
  near = h.near;
  fit = fits_on m.buckets m.sections m.inside h.fit key f same_thread same_key;
  owned = h.owned;
}
  where
    runs : (b : ℕ) (s : Section) (t : ℕ) → s.thread ≡ Some t → may_join s.phase ≡ true
        → ((x : Section) × (m.sections b ≡ Some x) × ((x ≡ s) ⊎ ((b ≡ bucket_of m key) × (f x ≡ s))))
        → place_at m.places t ≡ Some Running
    runs b s t whose may (x, at, inl e) = h.inside b x t at (ap (λ (y : Section). y.thread) e ∙ whose)
        (ap (λ (y : Section). may_join y.phase) e ∙ may)
    runs b s t whose may (x, at, inr (e, same)) = h.inside b x t at
        (sym (same_thread x) ∙ (ap (λ (y : Section). y.thread) same ∙ whose))
        (joins x (ap m.sections (sym e) ∙ at) (ap (λ (y : Section). may_join y.phase) same ∙ may))

-- a section closes: whom it held is told
told_waits : (key : ℕ) (token : UnparkToken) (woken : Bool) (k : ℕ) (place : Place)
    → waits_at k (told key token woken place) ≡ waits_at k place
told_waits key token woken k Running = refl
told_waits key token woken k (Waiting key' s) = refl
told_waits key token woken k (Held key' s) =
    elim (key' == key) as (λ b. waits_at k (cond b (Taken token key' s woken) (Held key' s)) ≡ false)
    [ true ↦ refl | false ↦ refl ]
told_waits key token woken k (Taken t key' s b) = refl

told_near : (key : ℕ) (token : UnparkToken) (woken : Bool) (k : ℕ) (place : Place)
    → is_near k (told key token woken place) ≡ is_near k place
told_near key token woken k Running = refl
told_near key token woken k (Waiting key' s) = refl
told_near key token woken k (Held key' s) =
    elim (key' == key) as (λ b. is_near k (cond b (Taken token key' s woken) (Held key' s)) ≡ (key' == k))
    [ true ↦ refl | false ↦ refl ]
told_near key token woken k (Taken t key' s b) = refl

-- who is held behind that was held before, by a section of another key
told_held : (key : ℕ) (token : UnparkToken) (woken : Bool) (k : ℕ) (place : Place)
    → is_held k (told key token woken place) ≡ true → (is_held k place ≡ true) × ((k == key) ≡ false)
told_held key token woken k Running is = absurd (false≢true is)
told_held key token woken k (Waiting key' s) is = absurd (false≢true is)
told_held key token woken k (Taken t key' s b) is = absurd (false≢true is)
told_held key token woken k (Held key' s) is = by (key' == key) refl is
  where
    by : (b : Bool) → (key' == key) ≡ b → is_held k (cond b (Taken token key' s woken) (Held key' s)) ≡ true
        → ((key' == k) ≡ true) × ((k == key) ≡ false)
    by true e so = absurd (false≢true so)
    by false e so = (so, subst (λ (j : ℕ). (j == key) ≡ false) (eqb-true key' k so) e)

pub place_at-map : (f : Place → Place) (ps : List (Option Place)) (t : ℕ)
    → place_at (map (option_map f) ps) t ≡ option_map f (place_at ps t)
place_at-map f [] t = refl
place_at-map f (None ∷ ps) zero = refl
place_at-map f (Some p ∷ ps) zero = refl
place_at-map f (p ∷ ps) (suc t) = place_at-map f ps t

module _ (m : Machine) (woken : Bool) (h : Sound m) (s0 : Section) (at0 : open_at m s0.key ≡ Some s0) where
  abbrev tell : Option Place → Option Place
  tell = option_map (told s0.key s0.token woken)

  held_by : (k : ℕ) (o : Option Place) → option_map_or (is_held k) (tell o) false ≡ true
      → (option_map_or (is_held k) o false ≡ true) × ((k == s0.key) ≡ false)
  held_by k None is = absurd (false≢true is)
  held_by k (Some p) is = told_held s0.key s0.token woken k p is

  waits_same : (k : ℕ) (o : Option Place) → times_at k o ≡ times_at k (tell o)
  waits_same k None = refl
  waits_same k (Some p) = ap flag (sym (told_waits s0.key s0.token woken k p))

  near_same : (k : ℕ) (o : Option Place) → option_map_or (is_near k) (tell o) false ≡ option_map_or (is_near k) o false
  near_same k None = refl
  near_same k (Some p) = told_near s0.key s0.token woken k p

  unregistered : (o : Option Place) → tell o ≡ None → o ≡ None
  unregistered None e = refl
  unregistered (Some p) e = absurd (some≢none e)

  pub sound_closed : Sound (closed m s0.key woken)
  sound_closed =
      let at = place_at-map (told s0.key s0.token woken) m.places in
      subst Sound (sym (closed_as m s0.key s0 woken at0)) (record {
        waits = λ u k. h.waits u k ∙ (waits_same k (place_at m.places u) ∙ ap (times_at k) (sym (at u)));
        held = λ u k is.
            let x = held_by k (place_at m.places u) (sym (ap (λ o. option_map_or (is_held k) o false) (at u)) ∙ is) in
            let y = h.held u k x.0 in (
              y.0,
              stays_open m.buckets m.sections m.inside h.fit s0 at0 (bucket_of m k) y.0 y.1
                  (λ e. false≢true (sym x.1 ∙ eq-eqb k s0.key (sym y.2 ∙ ap (λ (z : Section). z.key) (sym e)))),
              y.2,
            );
        inside = λ b s t there whose may.
            let x = still_open m.buckets m.sections m.inside h.fit s0 at0 b s there in
            at t ∙ ap tell (h.inside b s t x.0 whose may);
        near = λ t k there.
            let x = was_in m.buckets m.sections m.inside h.fit s0 at0 s0.thread t k there in
            ap (λ o. option_map_or (is_near k) o false) (at t)
            ∙ (near_same k (place_at m.places t) ∙ h.near t k x.0);
        fit = fits_off m.buckets m.sections m.inside h.fit s0 at0;
        owned = λ u none. h.owned u (unregistered (place_at m.places u) (sym (at u) ∙ none));
      })

-- where no section is open there may be any number of buckets
pub sound_grown : (m : Machine) (more : ℕ) → Sound m → any_open m.sections m.buckets ≡ false → 0 < more
    → Sound (record m { buckets = more })
sound_grown m more h none some = record {
  waits = h.waits;
  held = λ u k is. let x = h.held u k is in
      absurd (none_open m.buckets m.sections m.inside h.fit none (bucket_of m k) x.0 x.1);
  inside = λ b s t at. absurd (none_open m.buckets m.sections m.inside h.fit none b s at);
  near = h.near;
  fit = fits_grown m.buckets m.sections m.inside h.fit none more some;
  owned = h.owned;
}

-- WHO IS IN A SECTION

pub is_inside : (m : Machine) (t : ℕ) (s : Section) → Sound m → section_of m t ≡ Some s → IsInside m t s
is_inside m t s h e = by (m.inside t) refl e
  where
    by : (o : Option ℕ) → m.inside t ≡ o → option_and_then (open_at m) o ≡ Some s → IsInside m t s
    by None at is = absurd (none≢some is)
    by (Some k) at is =
        let x = h.fit.entered t k at in
        let same : x.0 ≡ s = same_some (sym x.1 ∙ is) in
        let key : s.key ≡ k = ap (λ (y : Section). y.key) (sym same) ∙ x.2 in
        let whose : s.thread ≡ Some t = ap (λ (y : Section). y.thread) (sym same) ∙ x.3 in
        let here : open_at m s.key ≡ Some s = ap (open_at m) key ∙ is in
        record {
          at = here;
          whose = whose;
          inside = at ∙ ap (λ j. Some j) (sym key);
          alone = λ b y there its.
              sym (h.fit.bucket b y there)
              ∙ ap (bucket_of m) (same_some (sym (h.fit.owner b y t there its) ∙ (at ∙ ap (λ j. Some j) (sym key))));
          runs = λ may. h.inside (bucket_of m s.key) s t here whose may;
        }

-- once it has joined the list its thread has no section that may join
pub joined_alone : (m : Machine) (t : ℕ) (s : Section) → IsInside m t s → (b : ℕ) (y : Section)
    → (in_phase m s.key phase.Joined).sections b ≡ Some y → y.thread ≡ Some t → may_join y.phase ≡ false
joined_alone m t s in_s b y is whose =
    let bucket = bucket_of m s.key in
    let f = λ (z : Section). record z { phase = phase.Joined } in
    let on = updated m.sections bucket (option_map f (open_at m s.key)) in
    by_eqb b bucket (may_join y.phase ≡ false)
    (λ e. ap (λ (z : Section). may_join z.phase)
    (same_some (sym is ∙ (ap on e ∙ (updated_at m.sections bucket (option_map f (open_at m s.key))
    ∙ ap (option_map f) in_s.at)))))
    (λ e. absurd (false≢true
    (sym e ∙ eq-eqb b bucket
    (in_s.alone b y (sym (updated_other m.sections bucket (option_map f (open_at m s.key)) b e) ∙ is) whose))))

-- A SECTION OF A KEY THAT IS OPEN

pub is_opened : (m n : Machine) (owner : Option ℕ) (key : ℕ) → n ≡ opened m owner key → IsOpen n key
is_opened m n owner key e = subst (λ (x : Machine). IsOpen x key) (sym e)
    (fresh_section owner key, open_within m (fresh_section owner key), refl)

pub is_nobodys : (m n : Machine) (key : ℕ) → n ≡ opened m None key → (s : Section) → open_at n key ≡ Some s
    → s.thread ≡ None
is_nobodys m n key e s at = ap (λ (x : Section). x.thread)
    (same_some (sym at ∙ (ap (λ (x : Machine). open_at x key) e ∙ open_within m (fresh_section None key))))

-- it stays open as it comes on
pub open_on : (m : Machine) (key : ℕ) (f : Section → Section) → ((s : Section) → (f s).key ≡ s.key) → IsOpen m key
    → IsOpen (record m { sections = updated m.sections (bucket_of m key) (option_map f (open_at m key)) }) key
open_on m key f same (s, at, of_key) = (
  f s,
  updated_at m.sections (bucket_of m key) (option_map f (open_at m key)) ∙ ap (option_map f) at,
  same s ∙ of_key,
)

pub open_stored : (m n : Machine) (key : ℕ) (token : UnparkToken) → n ≡ stored m key token → IsOpen m key → IsOpen n key
open_stored m n key token e h = subst (λ (x : Machine). IsOpen x key) (sym e)
    (open_on m key (λ s. record s { phase = phase.Stored; token = token }) (λ s. refl) h)
