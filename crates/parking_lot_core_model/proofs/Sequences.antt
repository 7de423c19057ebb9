-- Each operation keeps a lot sound, and so does a list of them.
use Rattle.std.proofs.Common.{◌≡◌, ℕ, ◌+◌, ◌<◌, ◌≤◌, ◌==◌, ◌&&◌, not, Bool, true, false, cond, Option, List, [], ◌∷◌}
use Rattle.std.proofs.Common.{◌++◌, length, map, take, drop, remove, Some, None, is_some, slice_get, slice_set, refl}
use Rattle.std.proofs.Common.{sym, ap, ◌∙◌, subst, arith, zero, suc, count_by, eq-eqb, eqb-true, append_assoc}
use Rattle.std.specs.Option.{option_map, option_map_or, option_and_then}
use Rattle.std.specs.List.{position_or_len, list_any}
use Rattle.std.proofs.Math.Seq.{take-length, drop-length}
use Rattle.std.proofs.lemmas.Bool.{false≢true}
use Rattle.std.proofs.lemmas.List.{append-nil}
use Rattle.parking_lot_core_model.specs.declared.fault.LotFault.{LotFault}
use Rattle.parking_lot_core_model.specs.declared.fault.LotFault.TheVariants.{Busy, WrongStatus}
use Rattle.parking_lot_core_model.specs.declared.parking.ParkToken.{ParkToken}
use Rattle.parking_lot_core_model.specs.declared.parking.UnparkToken.{UnparkToken}
use Rattle.parking_lot_core_model.specs.declared.parking.RequeueOp.{RequeueOp}
use Rattle.parking_lot_core_model.specs.declared.parking.FilterOp.{FilterOp}
use Rattle.parking_lot_core_model.specs.declared.parking.FilterOp.TheVariants.{Unpark, Skip, Stop}
use Rattle.parking_lot_core_model.specs.declared.place.Sleep.{Sleep}
use Rattle.parking_lot_core_model.specs.declared.place.Place.{Place}
use Rattle.parking_lot_core_model.specs.declared.place.Place.TheVariants.{Running, Waiting, Held, Taken}
use Rattle.parking_lot_core_model.specs.declared.place.Section.{Section}
use Rattle.parking_lot_core_model.specs.declared.place.Phase.{Phase}
use Rattle.parking_lot_core_model.specs.declared.place.Phase.TheVariants as phase
use Rattle.parking_lot_core_model.specs.declared.place.Waiter.{Waiter}
use Rattle.parking_lot_core_model.specs.Lists.{updated, without_first}
use Rattle.parking_lot_core_model.specs.Places.{place_at, changed, held, moved_to, late, roused, waits_at, is_held}
use Rattle.parking_lot_core_model.specs.Places.{is_near}
use Rattle.parking_lot_core_model.specs.Places.{is_due, passed_of, may_check, may_join, may_take, may_store, may_return}
use Rattle.parking_lot_core_model.specs.Results.{is_take, is_skip, chosen_by, passed_by, woken_by, moved_by, left_by}
use Rattle.parking_lot_core_model.specs.Machine.{Machine, is_thread, bucket_of, open_at, section_of, in_section}
use Rattle.parking_lot_core_model.specs.Machine.{any_phase}
use Rattle.parking_lot_core_model.specs.Machine.{busy, step_fault, fresh_section, quitted, is_in}
use Rattle.parking_lot_core_model.specs.Machine.{status_at, runs, token_of, changed_at, given_up, resumed, returned}
use Rattle.parking_lot_core_model.specs.Machine.{return_fault, taken, moved, moved_first, unparked, requeued, opened}
use Rattle.parking_lot_core_model.specs.Machine.{in_phase, stored, closed, joined}
use Rattle.parking_lot_core_model.specs.Operations.{all_taken, is_abort}
use Rattle.parking_lot_core_model.specs.Sound.{Sound, IsOpen, IsInside, SectionsFit, times_at}
use Rattle.parking_lot_core_model.specs.Runs.{Operation, Register, Retire, Park, Resume, Deadline, Wake, UnparkOne}
use Rattle.parking_lot_core_model.specs.Runs.{UnparkAll, UnparkFilter, UnparkRequeue, Acquire, Release, Enter, Check}
use Rattle.parking_lot_core_model.specs.Runs.{TakeNext, Append, StoreDone, Leave, Return, Quit, fault_of, taken_next}
use Rattle.parking_lot_core_model.specs.Runs.{effect_of, unless_refused, after, after_all, fresh}
use Rattle.parking_lot_core_model.specs.Runs.{fresh_paired}
use Rattle.parking_lot_core_model.proofs.Kept.{by_eqb, updated_at, updated_other, updated_past, remove-seam}
use Rattle.parking_lot_core_model.proofs.Kept.{slice_get-seam}
use Rattle.parking_lot_core_model.proofs.Numbers.{flag, first_passes, slice_get_none}
use Rattle.parking_lot_core_model.proofs.Entering.{some≢none, none≢some, same_some, none_of_some, within, IsOutside}
use Rattle.parking_lot_core_model.proofs.Entering.{open_within, phase_within}
use Rattle.parking_lot_core_model.proofs.Sounds.{place_at-set_same, place_at-set_other, sound_place, sound_owned}
use Rattle.parking_lot_core_model.proofs.Sounds.{sound_retired, sound_joined, sound_left, sound_relisted, sound_opened}
use Rattle.parking_lot_core_model.proofs.Sounds.{sound_section, sound_closed, sound_returned, waiter_place}
use Rattle.parking_lot_core_model.proofs.Sounds.{waits_outside, quiet_at, is_inside, is_outside}
use Rattle.parking_lot_core_model.proofs.Sounds.{joined_alone, is_opened, is_nobodys, open_on}
use Rattle.parking_lot_core_model.proofs.Registering.{sound_registered, register_allows}
use Rattle.parking_lot_core_model.proofs.Closing.{some_of, running, unrefused}
use Rattle.parking_lot_core_model.proofs.Outcomes.{free_section, free_first, entering}
use Rattle.parking_lot_core_model.proofs.Takings.{all_taken_none, taken_more, taken_front_suc, closed_taken}
use Rattle.parking_lot_core_model.proofs.Takings.{closed_moved}
use Rattle.parking_lot_core_model.proofs.Moving.{moved_none, moved_more_suc, nth_of}
use Rattle.parking_lot_core_model.proofs.Requeues.{take_woken, take_moved, drop_moved, moved_within}

-- a place that is changed, where the change moves nobody
pub sound_changed : (f : Place → Place) → ((k : ℕ) (p : Place) → waits_at k (f p) ≡ waits_at k p)
    → ((k : ℕ) (p : Place) → is_held k (f p) ≡ is_held k p)
    → ((k : ℕ) (p : Place) → is_near k (f p) ≡ is_near k p) → f Running ≡ Running
    → (m : Machine) (t : ℕ) → Sound m → Sound (changed_at f m t)
sound_changed f waits keeps nears same m t h = by_place (place_at m.places t) refl
  where
    by_place : (o : Option Place) → place_at m.places t ≡ o → Sound (changed_at f m t)
    by_place (Some p) at =
        subst (λ (o : Option Place). Sound (record m { places = slice_set m.places t (option_map f o) })) (sym at)
        (sound_place m t p (f p) h at (λ k. waits k p) (λ k e. sym (keeps k p) ∙ e) (λ k e. nears k p ∙ e)
        (λ e. ap f e ∙ same))
    by_place None at =
        let ps = changed f m.places t in
        let each : (u : ℕ) → place_at ps u ≡ place_at m.places u = λ u. by_eqb u t (place_at ps u ≡ place_at m.places u)
        (λ e. ap (place_at ps) e
        ∙ (nobody m.places t (ap (option_map f) at) ∙ (sym at ∙ ap (place_at m.places) (sym e))))
        (λ e. place_at-set_other m.places t u (option_map f (place_at m.places t)) e) in
        record {
          waits = λ u k. h.waits u k ∙ ap (times_at k) (sym (each u));
          held = λ u k is. h.held u k (ap (λ o. option_map_or (is_held k) o false) (sym (each u)) ∙ is);
          inside = λ b s u is whose may. each u ∙ h.inside b s u is whose may;
          near = λ u k is. ap (λ o. option_map_or (is_near k) o false) (each u) ∙ h.near u k is;
          fit = h.fit;
          owned = λ u none. h.owned u (sym (each u) ∙ none);
        }
      where
        nobody : (ps : List (Option Place)) (t : ℕ) → option_map f (place_at ps t) ≡ None
            → place_at (slice_set ps t (option_map f (place_at ps t))) t ≡ None
        nobody [] t e = refl
        nobody (o ∷ ps) zero e = e
        nobody (o ∷ ps) (suc t) e = nobody ps t e

late_waits : (k : ℕ) (p : Place) → waits_at k (late p) ≡ waits_at k p
late_waits k Running = refl
late_waits k (Waiting key s) = refl
late_waits k (Held key s) = refl
late_waits k (Taken t key s b) = refl

late_held : (k : ℕ) (p : Place) → is_held k (late p) ≡ is_held k p
late_held k Running = refl
late_held k (Waiting key s) = refl
late_held k (Held key s) = refl
late_held k (Taken t key s b) = refl

late_near : (k : ℕ) (p : Place) → is_near k (late p) ≡ is_near k p
late_near k Running = refl
late_near k (Waiting key s) = refl
late_near k (Held key s) = refl
late_near k (Taken t key s b) = refl

roused_waits : (k : ℕ) (p : Place) → waits_at k (roused p) ≡ waits_at k p
roused_waits k Running = refl
roused_waits k (Waiting key s) = refl
roused_waits k (Held key s) = refl
roused_waits k (Taken t key s b) = refl

roused_held : (k : ℕ) (p : Place) → is_held k (roused p) ≡ is_held k p
roused_held k Running = refl
roused_held k (Waiting key s) = refl
roused_held k (Held key s) = refl
roused_held k (Taken t key s b) = refl

roused_near : (k : ℕ) (p : Place) → is_near k (roused p) ≡ is_near k p
roused_near k Running = refl
roused_near k (Waiting key s) = refl
roused_near k (Held key s) = refl
roused_near k (Taken t key s b) = refl

-- a thread takes itself out
sound_given_up : (m : Machine) (t key : ℕ) (s : Sleep) → Sound m → place_at m.places t ≡ Some (Waiting key s)
    → Sound (given_up m t key)
sound_given_up m t key s h at =
    let q = m.queues key in
    let x = first_passes (is_thread t) q
    (subst (λ (n : ℕ). 1 ≤ n) (sym (h.waits t key ∙ (ap (times_at key) at ∙ ap flag (eq-eqb key key refl))))
    (omega arith)) in
    subst (λ (u : ℕ). Sound
    (record m {
      queues = updated m.queues key (without_first (is_thread t) q);
      places = slice_set m.places u (Some Running);
    })) (eqb-true x.0.thread t x.2)
    (sound_left m key (position_or_len (is_thread t) q) x.0 h x.1 Running (λ k. refl) (λ k is. absurd (false≢true is))
    (λ k is. refl))

-- a section takes
sound_taken : (m : Machine) (key nth : ℕ) → Sound m → IsOpen m key → Sound (taken m key nth)
sound_taken m key nth h entered = by (slice_get (m.queues key) nth) refl
  where
    by : (o : Option Waiter) → slice_get (m.queues key) nth ≡ o → Sound (taken m key nth)
    by None e =
        subst (λ (o : Option Waiter). Sound
        (record m {
          queues = updated m.queues key (remove (m.queues key) nth);
          places = option_map_or (λ w. changed (held key) m.places w.thread) o m.places;
        })) (sym e)
        (subst (λ (qs : ℕ → List Waiter). Sound (record m { queues = qs }))
        (updated_past m.queues key nth (slice_get_none (m.queues key) nth e)) h)
    by (Some w) e =
        let s = waiter_place m key nth w h e in
        subst (λ (o : Option Waiter). Sound
        (record m {
          queues = updated m.queues key (remove (m.queues key) nth);
          places = option_map_or (λ x. changed (held key) m.places x.thread) o m.places;
        })) (sym e)
        (subst (λ (o : Option Place). Sound
        (record m {
          queues = updated m.queues key (remove (m.queues key) nth);
          places = slice_set m.places w.thread (option_map (held key) o);
        })) (sym s.1)
        (sound_left m key nth w h e (Held key s.0) (λ k. refl)
        (λ k is. subst (λ (j : ℕ). IsOpen m j) (eqb-true key k is) entered) (λ k is. is)))

sound_front : (m : Machine) (key n : ℕ) → Sound m → IsOpen m key
    → Sound (all_taken m key (take n (m.queues key)) (drop n (m.queues key)))
sound_front m key zero h entered = subst Sound (all_taken_none m key) h
sound_front m key (suc n) h entered = subst Sound (taken_front_suc m key n)
    (sound_taken (all_taken m key (take n (m.queues key)) (drop n (m.queues key))) key 0 (sound_front m key n h entered)
    entered)

sound_sifted : (m : Machine) (key : ℕ) (answers : List FilterOp) (ws skipped rest : List Waiter)
    → IsOpen m key → Sound (all_taken m key ws (skipped ++ rest))
    → Sound (all_taken m key (ws ++ chosen_by answers rest) (skipped ++ passed_by answers rest))
sound_sifted m key [] ws skipped rest entered h =
    subst (λ (xs : List Waiter). Sound (all_taken m key xs (skipped ++ rest))) (sym (append-nil ws)) h
sound_sifted m key (a ∷ answers) ws skipped [] entered h =
    subst (λ (xs : List Waiter). Sound (all_taken m key xs (skipped ++ []))) (sym (append-nil ws)) h
sound_sifted m key (Unpark ∷ answers) ws skipped (x ∷ rest) entered h =
    let h1 : Sound (all_taken m key (ws ++ x ∷ []) (skipped ++ rest)) =
    subst Sound (taken_more m key ws (skipped ++ x ∷ rest) (length skipped) x (slice_get-seam skipped x rest)
    ∙ ap (all_taken m key (ws ++ x ∷ [])) (remove-seam skipped x rest))
    (sound_taken (all_taken m key ws (skipped ++ x ∷ rest)) key (length skipped) h entered) in
    subst (λ (xs : List Waiter). Sound (all_taken m key xs (skipped ++ passed_by answers rest)))
    (append_assoc ws (x ∷ []) (chosen_by answers rest))
    (sound_sifted m key answers (ws ++ x ∷ []) skipped rest entered h1)
sound_sifted m key (Skip ∷ answers) ws skipped (x ∷ rest) entered h =
    subst (λ (xs : List Waiter). Sound (all_taken m key (ws ++ chosen_by answers rest) xs))
    (append_assoc skipped (x ∷ []) (passed_by answers rest))
    (sound_sifted m key answers ws (skipped ++ x ∷ []) rest entered
    (subst (λ (xs : List Waiter). Sound (all_taken m key ws xs)) (sym (append_assoc skipped (x ∷ []) rest)) h))
sound_sifted m key (Stop ∷ answers) ws skipped (x ∷ rest) entered h =
    subst (λ (xs : List Waiter). Sound (all_taken m key xs (skipped ++ x ∷ rest))) (sym (append-nil ws)) h

-- and moves
abbrev IsNobodys : Machine → ℕ → Type 0
IsNobodys m key = (s : Section) → open_at m key ≡ Some s → s.thread ≡ None

sound_moved_first : (m : Machine) (from to : ℕ) → Sound m → IsNobodys m from → Sound (moved_first m from to)
sound_moved_first m from to h nobody = by (slice_get (m.queues from) 0) refl
  where
    by : (o : Option Waiter) → slice_get (m.queues from) 0 ≡ o → Sound (moved_first m from to)
    by None e = subst (λ (o : Option Waiter). Sound
        (option_map_or (λ x. moved m from to (x ∷ []) (remove (m.queues from) 0)) o m)) (sym e) h
    by (Some w) e =
        let s = waiter_place m from 0 w h e in
        let qs = updated m.queues from (remove (m.queues from) 0) in
        let outside : m.inside w.thread ≡ None = waits_outside m w.thread from (Waiting from s.0) h s.1
        (λ k is. sym (eqb-true from k is)) nobody in
        subst (λ (o : Option Waiter). Sound
        (option_map_or (λ x. moved m from to (x ∷ []) (remove (m.queues from) 0)) o m)) (sym e)
        (subst (λ (o : Option Place). Sound
        (record m {
          queues = updated qs to (qs to ++ w ∷ []);
          places = slice_set m.places w.thread (option_map (moved_to to) o);
        })) (sym s.1)
        (sound_relisted m from 0 w h e to s.0 outside))

sound_moved : (m : Machine) (from to n : ℕ) → n ≤ length (m.queues from) → Sound m → IsNobodys m from
    → Sound (moved m from to (take n (m.queues from)) (drop n (m.queues from)))
sound_moved m from to zero fits h nobody = subst Sound (moved_none m from to) h
sound_moved m from to (suc n) fits h nobody =
    let w = nth_of (m.queues from) n (omega arith) in
    subst Sound (moved_more_suc m from to n w.0 w.1)
    (sound_moved_first (moved m from to (take n (m.queues from)) (drop n (m.queues from))) from to
    (sound_moved m from to n (omega arith) h nobody) nobody)

-- sections
sound_phase : (m : Machine) (key : ℕ) (ph : Phase) → Sound m
    → ((s : Section) → open_at m key ≡ Some s → may_join ph ≡ true → may_join s.phase ≡ true)
    → Sound (in_phase m key ph)
sound_phase m key ph h joins = sound_section m key (λ s. record s { phase = ph }) h (λ s. refl) (λ s. refl) joins

sound_stored : (m : Machine) (key : ℕ) (token : UnparkToken) → Sound m → Sound (stored m key token)
sound_stored m key token h = sound_section m key (λ s. record s { phase = phase.Stored; token = token }) h (λ s. refl)
    (λ s. refl) (λ s is may. absurd (false≢true may))

sound_ended : (m : Machine) (key : ℕ) (token : UnparkToken) → Sound m → IsOpen m key
    → Sound (closed (stored m key token) key true)
sound_ended m key token h open_so =
    let n = stored m key token in
    let x = open_on m key (λ s. record s { phase = phase.Stored; token = token }) (λ s. refl) open_so in
    subst (λ (k : ℕ). Sound (closed n k true)) x.2
    (sound_closed n true (sound_stored m key token h) x.0 (ap (open_at n) x.2 ∙ x.1))

sound_entered : (m : Machine) (key : ℕ) → Sound m → open_at m key ≡ None → Sound (opened m None key)
sound_entered m key h free = sound_opened m None key h free (λ t e. absurd (none≢some e)) (λ t e. absurd (none≢some e))

-- a section of nobody that was opened
is_open_now : (m : Machine) (owner : Option ℕ) (key : ℕ) → IsOpen (opened m owner key) key
is_open_now m owner key = is_opened m (opened m owner key) owner key refl

sound_woken : (m : Machine) (key : ℕ) (ws rest : List Waiter) (token : UnparkToken) → Sound m → open_at m key ≡ None
    → Sound (all_taken (opened m None key) key ws rest) → Sound (unparked m key ws rest token)
sound_woken m key ws rest token h free taken_so =
    subst Sound (closed_taken m key token (quiet_at m key h free) free ws rest)
    (sound_ended (all_taken (opened m None key) key ws rest) key token taken_so (is_open_now m None key))

sound_requeued : (m : Machine) (op : RequeueOp) (from to : ℕ) (token : UnparkToken) → Sound m → open_at m from ≡ None
    → Sound (requeued m op from to token)
sound_requeued m op from to token h free =
    let q = m.queues from in
    let o = opened m None from in
    let ws = woken_by op q in
    let left = drop (length ws) q in
    let n = all_taken o from ws left in
    let k = length (moved_by op q) in
    let here : n.queues from ≡ left = updated_at m.queues from left in
    let taken_so : Sound n = subst (λ (xs : List Waiter). Sound (all_taken o from xs left)) (take_woken op q)
    (sound_front o from (length ws) (sound_entered m from h free) (is_open_now m None from)) in
    let fits : k ≤ length (n.queues from) = subst (λ (xs : List Waiter). k ≤ length xs) (sym here) (moved_within op q)
    in
    let moved_so : Sound (moved n from to (take k left) (drop k left)) =
    subst (λ (xs : List Waiter). Sound (moved n from to (take k xs) (drop k xs))) here
    (sound_moved n from to k fits taken_so (is_nobodys m o from refl)) in
    let all_so : Sound (moved n from to (moved_by op q) (left_by op q)) =
    subst (λ (xs : List Waiter). Sound (moved n from to (moved_by op q) xs)) (drop_moved op q)
    (subst (λ (xs : List Waiter). Sound (moved n from to xs (drop k left))) (take_moved op q) moved_so) in
    subst Sound (closed_moved m from token (quiet_at m from h free) free to ws left (moved_by op q) (left_by op q))
    (sound_ended (moved n from to (moved_by op q) (left_by op q)) from token all_so (is_open_now m None from))

-- what follows where a step isn't refused
stepping : (may : Phase → Bool) (m : Machine) (t : ℕ) → Sound m → step_fault may m t ≡ None
    → (s : Section) × (section_of m t ≡ Some s) × (may s.phase ≡ true) × IsInside m t s
stepping may m t h e = by (section_of m t) refl e
  where
    allows : (b : Bool) → cond b None (Some WrongStatus) ≡ None → b ≡ true
    allows true e = refl
    allows false e = absurd (some≢none e)

    by : (o : Option Section) → section_of m t ≡ o → cond (option_map_or (λ s. may s.phase) o false) None
        (Some WrongStatus) ≡ None → (s : Section) × (section_of m t ≡ Some s) × (may s.phase ≡ true) × IsInside m t s
    by None at e = absurd (some≢none e)
    by (Some s) at e = (s, at, allows (may s.phase) e, is_inside m t s h at)

-- a step of the section that a thread is in, where it is in one
sound_step : (step : Machine → ℕ → Machine) (m : Machine) (t : ℕ) → Sound m
    → ((s : Section) → section_of m t ≡ Some s → IsInside m t s → Sound (step m s.key)) → Sound (in_section step t m)
sound_step step m t h steps = by (section_of m t) refl
  where
    by : (o : Option Section) → section_of m t ≡ o → Sound (option_map_or (λ s. step m s.key) o m)
    by None e = h
    by (Some s) e = steps s e (is_inside m t s h e)

pub checks_join : (ph : Phase) → may_check ph ≡ true → may_join ph ≡ true
checks_join phase.Fresh e = refl
checks_join phase.Valid e = refl
checks_join phase.Invalid e = absurd (false≢true e)
checks_join phase.Joined e = absurd (false≢true e)
checks_join (phase.Taking n) e = absurd (false≢true e)
checks_join phase.Ended e = absurd (false≢true e)
checks_join phase.Stored e = absurd (false≢true e)

sound_checked : (m : Machine) (t : ℕ) (holds : Bool) → Sound m → step_fault may_check m t ≡ None
    → Sound (in_section (λ n key. in_phase n key (cond holds phase.Valid phase.Invalid)) t m)
sound_checked m t holds h e =
    let x = stepping may_check m t h e in
    sound_step (λ n key. in_phase n key (cond holds phase.Valid phase.Invalid)) m t h
    (λ s at in_s. by holds s in_s
    (subst (λ (y : Section). may_join y.phase ≡ true) (same_some (sym x.1 ∙ at)) (checks_join x.0.phase x.2)))
  where
    by : (b : Bool) (s : Section) → IsInside m t s → may_join s.phase ≡ true
        → Sound (in_phase m s.key (cond b phase.Valid phase.Invalid))
    by true s in_s may = sound_phase m s.key phase.Valid h
        (λ y is j. subst (λ (z : Section). may_join z.phase ≡ true) (same_some (sym in_s.at ∙ is)) may)
    by false s in_s may = sound_phase m s.key phase.Invalid h (λ y is j. absurd (false≢true j))

sound_next : (m : Machine) (t : ℕ) (answers : List FilterOp) (o : Option Section) → section_of m t ≡ o → Sound m
    → Sound (option_map_or (taken_next m answers) o m)
sound_next m t answers None e h = h
sound_next m t answers (Some s) e h =
    let in_s = is_inside m t s h e in
    let at = passed_of s.phase + count_by is_skip answers in
    let n = in_phase m s.key (phase.Taking at) in
    let moving : Sound n = sound_phase m s.key (phase.Taking at) h (λ x is may. absurd (false≢true may)) in
    let entered : IsOpen n s.key = open_on m s.key (λ x. record x { phase = phase.Taking at }) (λ x. refl)
    (s, in_s.at, refl) in
    elim (list_any is_take answers) as (λ b. Sound (cond b (taken n s.key at) (in_phase m s.key phase.Ended))) [
      | true ↦ sound_taken n s.key at moving entered
      | false ↦ sound_phase m s.key phase.Ended h (λ x is may. absurd (false≢true may))
    ]

sound_appended : (m : Machine) (t : ℕ) (token : ParkToken) (timed : Bool) → step_fault may_join m t ≡ None → Sound m
    → Sound (in_section (λ n key. joined (in_phase n key phase.Joined) t key token timed) t m)
sound_appended m t token timed allowed h =
    let x = stepping may_join m t h allowed in
    sound_step (λ n key. joined (in_phase n key phase.Joined) t key token timed) m t h (λ s at in_s.
    let n = in_phase m s.key phase.Joined in
    let may : may_join s.phase ≡ true = subst (λ (y : Section). may_join y.phase ≡ true) (same_some (sym x.1 ∙ at)) x.2
    in
    let whole : Sound n = sound_phase m s.key phase.Joined h (λ y is j. absurd (false≢true j)) in
    sound_joined n t s.key token timed whole (in_s.runs may) (λ k is. same_some (sym is ∙ in_s.inside))
    (joined_alone m t s in_s))

sound_resumed : (m : Machine) (t : ℕ) (o : Option Place) → place_at m.places t ≡ o → Sound m → Sound (resumed m t o)
sound_resumed m t None e h = h
sound_resumed m t (Some Running) e h = h
sound_resumed m t (Some (Waiting key s)) e h = sound_given_up m t key s h e
sound_resumed m t (Some (Held key s)) e h = h
sound_resumed m t (Some (Taken token key s b)) e h = sound_place m t (Taken token key s b) Running h e (λ k. refl)
    (λ k is. absurd (false≢true is)) (λ k is. refl) (λ r. refl)

sound_quitted : (m : Machine) (t : ℕ) → Sound m → Sound (in_section (λ n key. quitted n t key) t m)
sound_quitted m t h = sound_step (λ n key. quitted n t key) m t h
    (λ s at in_s. sound_phase (resumed m t (place_at m.places t)) s.key phase.Ended
    (sound_resumed m t (place_at m.places t) refl h) (λ y is may. absurd (false≢true may)))

sound_left_so : (m : Machine) (t : ℕ) → Sound m → Sound (in_section (λ n key. closed n key false) t m)
sound_left_so m t h = sound_step (λ n key. closed n key false) m t h (λ s at in_s. sound_closed m false h s in_s.at)

owning : (b : Bool) → cond b None (Some WrongStatus) ≡ None → b ≡ true
owning true e = refl
owning false e = absurd (some≢none e)

-- who runs outside every section
running_outside : (m : Machine) (t : ℕ) → runs (status_at m t) ≡ true → IsOutside m (Some t)
running_outside m t e u its = ap m.inside (sym (same_some its)) ∙ none_of_some (m.inside t) (running m t e).1

sound_effect : (m : Machine) (operation : Operation) → Sound m → fault_of m operation ≡ None
    → Sound (effect_of m operation)
sound_effect m Register h e = sound_registered m h (register_allows m e).1
sound_effect m (Retire t) h e = let r = unrefused m t (runs (status_at m t)) refl e in sound_retired m t h r.0 r.1
sound_effect m (Park t key true token timed) h e =
    let n = entering m key (runs (status_at m t)) e in
    let outside : m.inside t ≡ None = running_outside m t n.0 t refl in
    sound_joined m t key token timed h (running m t n.0).0 (λ k is. absurd (none≢some (sym outside ∙ is)))
    (λ b s is whose. absurd (is_outside m t h outside b s is whose))
sound_effect m (Park t key false token timed) h e = h
sound_effect m (Resume t) h e = sound_resumed m t (place_at m.places t) refl h
sound_effect m (Deadline t) h e = sound_changed late late_waits late_held late_near refl m t h
sound_effect m (Wake t mark) h e = elim (option_map_or (is_due mark) (place_at m.places t) false)
    as (λ b. Sound (cond b (changed_at roused m t) m))
    [ true ↦ sound_changed roused roused_waits roused_held roused_near refl m t h | false ↦ h ]
sound_effect m (UnparkOne key token) h e =
    let free = free_section m key e in
    sound_woken m key (take 1 (m.queues key)) (drop 1 (m.queues key)) token h free
    (sound_front (opened m None key) key 1 (sound_entered m key h free) (is_open_now m None key))
sound_effect m (UnparkAll key token) h e =
    let q = m.queues key in
    let free = free_section m key e in
    sound_woken m key q [] token h free
    (subst (λ (xs : List Waiter). Sound (all_taken (opened m None key) key q xs)) (drop-length q)
    (subst (λ (xs : List Waiter). Sound (all_taken (opened m None key) key xs (drop (length q) q))) (take-length q)
    (sound_front (opened m None key) key (length q) (sound_entered m key h free) (is_open_now m None key))))
sound_effect m (UnparkFilter key answers token) h e =
    let q = m.queues key in
    let free = free_section m key e in
    sound_woken m key (chosen_by answers q) (passed_by answers q) token h free
    (sound_sifted (opened m None key) key answers [] [] q (is_open_now m None key)
    (subst Sound (all_taken_none (opened m None key) key) (sound_entered m key h free)))
sound_effect m (UnparkRequeue from to op token) h e =
    elim (is_abort op) as (λ b. Sound (cond b m (requeued m op from to token)))
    [ true ↦ h | false ↦ sound_requeued m op from to token h (free_first m from to e) ]
sound_effect m (Acquire t key) h e = let p = some_of (place_at m.places t) (owning (is_some (place_at m.places t)) e) in
    sound_owned m t p.0 (m.resources t ++ key ∷ []) h p.1
sound_effect m (Release t key) h e = let p = some_of (place_at m.places t) (owning (is_some (place_at m.places t)) e) in
    sound_owned m t p.0 (without_first (λ k. k == key) (m.resources t)) h p.1
sound_effect m (Enter t key) h e =
    let n = entering m key (runs (status_at m t)) e in
    sound_opened m (Some t) key h n.1 (running_outside m t n.0)
    (λ u is. ap (place_at m.places) (same_some (sym is)) ∙ (running m t n.0).0)
sound_effect m (Check t holds) h e = sound_checked m t holds h e
sound_effect m (TakeNext t answers) h e = sound_next m t answers (section_of m t) refl h
sound_effect m (Append t token timed) h e = sound_appended m t token timed e h
sound_effect m (StoreDone t token) h e = sound_step (λ n key. stored n key token) m t h
    (λ s at in_s. sound_stored m s.key token h)
sound_effect m (Leave t) h e = sound_left_so m t h
sound_effect m (Return t key) h e =
    let n = entering m key (option_map_or (may_return key) (place_at m.places t) false) e in
    sound_returned m t key h n.1 n.0
sound_effect m (Quit t) h e = sound_quitted m t h

sound_after : (m : Machine) (operation : Operation) → Sound m → Sound (after m operation)
sound_after m operation h = by (fault_of m operation) refl
  where
    by : (o : Option LotFault) → fault_of m operation ≡ o → Sound (unless_refused o m (effect_of m operation))
    by None e = sound_effect m operation h e
    by (Some fault) e = h

pub sound_after_all : (operations : List Operation) (m : Machine) → Sound m → Sound (after_all m operations)
sound_after_all [] m h = h
sound_after_all (operation ∷ operations) m h = sound_after_all operations (after m operation)
    (sound_after m operation h)

pub sound_fresh : (limit number : ℕ) → Sound (fresh limit number)
sound_fresh limit number = record {
  waits = λ t k. refl;
  held = λ t k is. absurd (false≢true is);
  inside = λ b s t is whose may. absurd (none≢some is);
  near = λ t k is. absurd (none≢some is);
  fit = record {
    some = omega arith;
    bucket = λ b s is. absurd (none≢some is);
    owner = λ b s t is. absurd (none≢some is);
    entered = λ t k is. absurd (none≢some is);
  };
  owned = λ t none. refl;
}

-- whatever else a new lot is made of
pub sound_made : (limit number : ℕ) (paired : Bool) (qs : ℕ → List Waiter) (rs : ℕ → List ℕ) (ps : List (Option Place))
    (b : ℕ) (ss : ℕ → Option Section) (is : ℕ → Option ℕ) → qs ≡ (λ _. []) → rs ≡ (λ _. []) → ps ≡ [] → b ≡ 16
    → ss ≡ (λ _. None) → is ≡ (λ _. None)
    → Sound (record (fresh limit number) {
      paired = paired;
      queues = qs;
      resources = rs;
      places = ps;
      buckets = b;
      sections = ss;
      inside = is;
    })
sound_made limit number paired qs rs ps b ss is e f g h i j = record {
  waits = λ t k. ap (λ (x : ℕ → List Waiter). count_by (is_thread t) (x k)) e
      ∙ ap (λ (x : List (Option Place)). times_at k (place_at x t)) (sym g);
  held = λ t k at. absurd (false≢true
      (sym (ap (λ (x : List (Option Place)). option_map_or (is_held k) (place_at x t) false) g) ∙ at));
  inside = λ n s t at whose may. absurd (none≢some (sym (ap (λ (x : ℕ → Option Section). x n) i) ∙ at));
  near = λ t k at. absurd (none≢some (sym (ap (λ (x : ℕ → Option ℕ). x t) j) ∙ at));
  fit = record {
    some = subst (λ (n : ℕ). 0 < n) (sym h) (omega arith);
    bucket = λ n s at. absurd (none≢some (sym (ap (λ (x : ℕ → Option Section). x n) i) ∙ at));
    owner = λ n s t at. absurd (none≢some (sym (ap (λ (x : ℕ → Option Section). x n) i) ∙ at));
    entered = λ t k at. absurd (none≢some (sym (ap (λ (x : ℕ → Option ℕ). x t) j) ∙ at));
  };
  owned = λ t none. ap (λ (x : ℕ → List ℕ). x t) f;
}

pub sound_fresh_paired : (limit number : ℕ) → Sound (fresh_paired limit number)
sound_fresh_paired limit number = let h = sound_fresh limit number in record {
  waits = h.waits;
  held = h.held;
  inside = h.inside;
  near = h.near;
  fit = h.fit;
  owned = h.owned;
}
