-- What every step keeps: a world is sound, its locks fit and are those of its shards and threads, and tries have
-- causes.
use Rattle.std.proofs.Common.{◌≡◌, ℕ, suc, ◌+◌, ◌<◌, ◌≤◌, ◌⊎◌, inl, inr, Bool, cond, if◌then◌else◌, ◌==◌, List, [], ◌∷◌}
use Rattle.std.proofs.Common.{length, Option, Some, None, slice_get, slice_set, refl, sym, ap, ◌∙◌, subst, arith}
use Rattle.std.specs.List.{sum_by}
use Rattle.std.specs.Option.{option_and_then}
use Rattle.std.proofs.lemmas.Option.{none-some, slice_get_within}
use Rattle.std.proofs.lemmas.List.{length-drop}
use Rattle.std.proofs.lemmas.List.Sums.{sum_by-cons}
use Rattle.std.proofs.lemmas.Bool.{cases_eq, eq-eqb, ne_eqb}
use Rattle.parking_lot_machine.specs.SoundLaws.{Always, OwnersAgree, StepsAreCases}
use Rattle.mapworld_calls.specs.declared.ask.Ask.{Ask}
use Rattle.mapworld_calls.specs.declared.reply.Reply.{Reply}
use Rattle.mapworld_calls.specs.declared.ask.Walk.{Walk}
use Rattle.mapworld_calls.specs.Placed.{answered_of}
use Rattle.mapworld_calls.specs.Setup.{Setup, Laws, ask_at}
use Rattle.mapworld_state.specs.Core.{AreLocksOf, owed, owes}
use Rattle.mapworld_state.specs.declared.place.Phase.{Phase}
use Rattle.mapworld_state.specs.declared.place.Phase.TheVariants as phase
use Rattle.mapworld_state.specs.declared.step.Step.{Step}
use Rattle.mapworld_state.specs.Invariant.Causes.Causes.{HasCauses}
use Rattle.mapworld_state.specs.Locks.Fits.{LocksFit}
use Rattle.mapworld_state.specs.Locks.Views.{Shown}
use Rattle.mapworld_state.specs.Places.{Place}
use Rattle.mapworld_state.specs.Sound.{Sound, is_resting, taken}
use Rattle.mapworld_state.specs.State.{State}
use Rattle.mapworld_state.specs.Steps.{IsOwnStep, by_itself, by_deadline}
use Rattle.mapworld_state.specs.Steps.{IsStep, Concludes, Enters, GivesBack, IsRefusedVisit, Leaves, LooksAround}
use Rattle.mapworld_state.specs.Steps.{Reaches, owed as owed_lock, locked, idle, start, lock, find, find_grows}
use Rattle.mapworld_state.specs.Steps.{find_refused, deed_appends, deed_applies, deed_views, deed_reads, deed_changes}
use Rattle.mapworld_state.specs.Steps.{deed_fills, downgrade, release, answers, visit_starts, visit_parts, visit_looks}
use Rattle.mapworld_state.specs.Steps.{visit_seeks, visit_does, visit_gives}
use Rattle.mapworld_state.proofs.InvariantFacts.Adding.{step-adds}
use Rattle.mapworld_state.proofs.InvariantFacts.CausesFacts.Keeping.{causes-step}
use Rattle.mapworld_state.proofs.InvariantFacts.Sounds.{sound-step}
use Rattle.mapworld.specs.Progress.Sizes.{IsSized}
use Rattle.mapworld.specs.Progress.Whole.{IsWhole}
use Rattle.mapworld.proofs.Filling.{length-slice_set}
use Rattle.mapworld.proofs.LockFits.{Lasts, lasts-begins, lasts-ends, lasts-enters, lasts-moves, lasts-same}
use Rattle.mapworld.proofs.LockFits.{lasts-expires, lasts-starts, lasts-then}

-- WHAT A STEP LEAVES OF THE LOCKS, AND OF THE NUMBER OF PLACES

pub record Goes {K V S D T A : Type 0} (w w' : State K V S D T A) : Type 0 where
  pub places : length w'.places ≡ length w.places
  pub locks : Lasts w.locks w'.locks

module _ {K V S D T A : Type 0} (w w' : State K V S D T A) where
  goes-by : (t : ℕ) (p : Place K V D T A) (locks : Shown) → w'.places ≡ slice_set w.places t p → w'.locks ≡ locks
      → Lasts w.locks locks → Goes w w'
  goes-by t p locks places same lasts = record {
    places = ap (λ ps. length ps) places ∙ length-slice_set w.places t p;
    locks = subst (Lasts w.locks) (sym same) lasts;
  }

  -- of one that leaves the locks alone
  goes-beside : (t : ℕ) (p : Place K V D T A) → w'.places ≡ slice_set w.places t p → w'.locks ≡ w.locks → Goes w w'
  goes-beside t p places same = goes-by t p w.locks places same (lasts-same w.locks w.locks refl)

  goes-same : w' ≡ w → Goes w w'
  goes-same same = record {
    places = ap (λ (z : State K V S D T A). length z.places) same;
    locks = lasts-same w.locks
        w'.locks (ap (λ (z : State K V S D T A). z.locks) same);
  }

  goes-behind : (mid : State K V S D T A) → Goes w mid → Goes mid w' → Goes w w'
  goes-behind mid a b = record {
    places = b.places
        ∙ a.places;
    locks = lasts-then w.locks mid.locks w'.locks a.locks b.locks;
  }

module _ {K V S D T A : Type 0} (w : State K V S D T A) (t : ℕ) (mid : State K V S D T A) where
  goes-enters : (mid ≡ w) ⊎ Enters w t mid → Goes w mid
  goes-enters (inl same) = goes-same w mid same
  goes-enters (inr e) = goes-by w mid t _ e.locks (ap (λ z. z.places) e.after) (ap (λ z. z.locks) e.after)
      (lasts-ends t _ w.locks e.locks e.ends)

  goes-reaches : Reaches w t mid → Goes w mid
  goes-reaches e = goes-by w mid t _ e.locks (ap (λ z. z.places) e.after) (ap (λ z. z.locks) e.after)
      (lasts-ends t _ w.locks e.locks e.ends)

  goes-leaves : Leaves w t mid → Goes w mid
  goes-leaves e = record {
    places = ap (λ (z : State K V S D T A). length z.places) e.after;
    locks = subst (Lasts w.locks) (sym (ap (λ (z : State K V S D T A). z.locks) e.after))
        (lasts-ends t _ w.locks e.locks e.ends);
  }

  goes-parts : (mid ≡ w) ⊎ Reaches w t mid → Goes w mid
  goes-parts (inl same) = goes-same w mid same
  goes-parts (inr e) = goes-reaches e

  goes-let_go : (mid ≡ w) ⊎ Leaves w t mid → Goes w mid
  goes-let_go (inl same) = goes-same w mid same
  goes-let_go (inr e) = goes-leaves e

  goes-let_in : (mid ≡ w) ⊎ (Reaches w t mid ⊎ Leaves w t mid) → Goes w mid
  goes-let_in (inl same) = goes-same w mid same
  goes-let_in (inr (inl e)) = goes-reaches e
  goes-let_in (inr (inr e)) = goes-leaves e

  goes-concludes : (mid ≡ w) ⊎ Concludes w t mid → Goes w mid
  goes-concludes (inl same) = goes-same w mid same
  goes-concludes (inr (owed_lock e)) = goes-leaves e
  goes-concludes (inr (locked e)) = goes-by w mid t _ e.locks (ap (λ z. z.places) e.after)
      (ap (λ z. z.locks) e.after) (lasts-ends t _ w.locks e.locks e.ends)
  goes-concludes (inr (idle e)) = goes-beside w mid t _ (ap (λ z. z.places) e.after) (ap (λ z. z.locks) e.after)

module _ (cases : StepsAreCases) (agree : Always OwnersAgree) {K V S D T A : Type 0} (x : Setup K V D T)
    (w : State K V S D T A) (s : Step) (w' : State K V S D T A) where
  looks : (mid : State K V S D T A) → LooksAround x mid s w' ⊎ IsRefusedVisit x mid s w' → Goes mid w'
  looks mid (inl h) = goes-beside mid w' s.thread _ (ap (λ z. z.places) h.after) (ap (λ z. z.locks) h.after)
  looks mid (inr h) = goes-beside mid w' s.thread _ (ap (λ z. z.places) h.after) (ap (λ z. z.locks) h.after)

  gives : (mid : State K V S D T A) (from to : Walk D → Phase K V D T A) → GivesBack x mid s w' from to → Goes mid w'
  gives mid from to h = goes-by mid w' s.thread _ h.locks (ap (λ z. z.places) h.after) (ap (λ z. z.locks) h.after)
      (lasts-starts cases agree s.thread _ _ s.fair mid.locks h.locks h.gives)

  own_goes : IsOwnStep x w s w' → Goes w w'
  own_goes (start h) = goes-by w w' s.thread _ h.locks (ap (λ z. z.places) h.after) (ap (λ z. z.locks) h.after)
      (lasts-enters s.thread _ w.locks h.locks _ h.enters)
  own_goes (lock h) = goes-by w w' s.thread _ h.locks (ap (λ z. z.places) h.after) (ap (λ z. z.locks) h.after)
      (lasts-moves cases agree s.thread s.fair w.locks h.locks h.moves)
  own_goes (find h) = goes-behind w w' h.mid (goes-enters w s.thread h.mid h.enters)
      (goes-beside h.mid w' s.thread _ (ap (λ z. z.places) h.finds.after) (ap (λ z. z.locks) h.finds.after))
  own_goes (find_grows h) = goes-beside w w' s.thread _ (ap (λ z. z.places) h.after) (ap (λ z. z.locks) h.after)
  own_goes (find_refused h) = goes-beside w w' s.thread _ (ap (λ z. z.places) h.after) (ap (λ z. z.locks) h.after)
  own_goes (deed_appends h) = goes-beside w w' s.thread _ (ap (λ z. z.places) h.after) (ap (λ z. z.locks) h.after)
  own_goes (deed_applies h) = goes-beside w w' s.thread _ (ap (λ z. z.places) h.after) (ap (λ z. z.locks) h.after)
  own_goes (deed_views h) = goes-beside w w' s.thread _ (ap (λ z. z.places) h.after) (ap (λ z. z.locks) h.after)
  own_goes (deed_reads h) = goes-beside w w' s.thread _ (ap (λ z. z.places) h.after) (ap (λ z. z.locks) h.after)
  own_goes (deed_changes h) = goes-beside w w' s.thread _ (ap (λ z. z.places) h.after) (ap (λ z. z.locks) h.after)
  own_goes (deed_fills h) = goes-beside w w' s.thread _ (ap (λ z. z.places) h.after) (ap (λ z. z.locks) h.after)
  own_goes (downgrade h) = goes-by w w' s.thread _ h.locks (ap (λ z. z.places) h.after) (ap (λ z. z.locks) h.after)
      (lasts-starts cases agree s.thread _ _ s.fair w.locks h.locks h.turns)
  own_goes (release h) = goes-by w w' s.thread _ h.locks (ap (λ z. z.places) h.after) (ap (λ z. z.locks) h.after)
      (lasts-starts cases agree s.thread _ _ s.fair w.locks h.locks h.gives)
  own_goes (answers h) = goes-behind w w' h.mid (goes-concludes w s.thread h.mid h.leaves)
      (goes-beside h.mid w' s.thread _ (ap (λ z. z.places) h.answers.after) (ap (λ z. z.locks) h.answers.after))
  own_goes (visit_starts h) =
      let a = h.starts in
      goes-behind w w' h.mid (goes-let_go w s.thread h.mid h.leaves)
      (goes-by h.mid w' s.thread _ a.locks (ap (λ z. z.places) a.after) (ap (λ z. z.locks) a.after)
      (lasts-begins s.thread _ _ h.mid.locks a.locks a.begins))
  own_goes (visit_parts h) = goes-behind w w' h.mid (goes-parts w s.thread h.mid h.enters)
      (gives h.mid phase.Part phase.Visit h.gives)
  own_goes (visit_looks h) = goes-behind w w' h.mid (goes-let_in w s.thread h.mid h.enters) (looks h.mid h.looks)
  own_goes (visit_seeks h) = goes-beside w w' s.thread _ (ap (λ z. z.places) h.after) (ap (λ z. z.locks) h.after)
  own_goes (visit_does h) = goes-beside w w' s.thread _ (ap (λ z. z.places) h.after) (ap (λ z. z.locks) h.after)
  own_goes (visit_gives h) = gives w phase.Give phase.Onward h

  pub step_goes : IsStep x w s w' → Goes w w'
  step_goes (by_itself mine h) = own_goes h
  step_goes (by_deadline due h) = goes-by w w' s.thread _ h.locks (ap (λ z. z.places) h.after)
      (ap (λ z. z.locks) h.after) (lasts-expires cases agree s.thread w.locks h.locks h.expires)

-- WHAT IS KEPT

pub record IsKept {K V S D T A : Type 0} (x : Setup K V D T) (w : State K V S D T A) : Type 0 where
  pub sound : Sound x w
  pub locks : LocksFit w.locks
  pub programs : x.programs ≡ w.programs
  pub places : length w.places ≡ length w.programs
  pub sizes : AreLocksOf (length w.places) (length w.tables) w.locks
  pub causes : HasCauses x w

pub kept-step : StepsAreCases → Always OwnersAgree → {K V S D T A : Type 0} (x : Setup K V D T) → Laws x
    → (w : State K V S D T A) (s : Step) (w' : State K V S D T A) → IsKept x w → IsStep x w s w' → IsKept x w'
kept-step cases agree x laws w s w' kept step =
    let goes = step_goes cases agree x w s w' step in
    let added = step-adds x w s w' kept.sound step in
    let size = goes.locks.size in
    record {
      sound = sound-step x laws w s w' kept.sound step;
      locks = goes.locks.fit kept.locks;
      programs = kept.programs ∙ sym added.fixed.programs;
      places = goes.places ∙ (kept.places ∙ sym (ap (λ ps. length ps) added.fixed.programs));
      sizes = record {
        threads_are = size.threads_are ∙ (kept.sizes.threads_are ∙ sym goes.places);
        shards_are = size.shards_are ∙ (kept.sizes.shards_are ∙ sym added.fixed.shards);
        desks_are = size.desks_are ∙ (kept.sizes.desks_are ∙ sym added.fixed.shards);
      };
      causes = causes-step x laws w s w' kept.sound kept.locks (sym kept.sizes.threads_are) kept.causes step;
    }

-- EACH CALL IS ANSWERED OR OWED

-- how many calls the threads of these numbers have been answered
abbrev answered_from : {K V T A X : Type 0} → List (Reply K V T A) → ℕ → List X → ℕ
answered_from replies t [] = 0
answered_from replies t (x ∷ xs) = answered_of replies t + answered_from replies (suc t) xs

abbrev one_if : Bool → ℕ
one_if b = cond b 1 0

answered_cons : {K V T A : Type 0} (r : Reply K V T A) (rs : List (Reply K V T A)) (t : ℕ)
    → answered_of (r ∷ rs) t ≡ one_if (r.thread == t) + answered_of rs t
answered_cons {K = K} {V = V} {T = T} {A = A} r rs t = sum_by-cons (λ (z : Reply K V T A). cond (z.thread == t) 1 0)
    r rs

none_from : (K V T A X : Type 0) (t : ℕ) (xs : List X) → answered_from {K = K} {V = V} {T = T} {A = A} [] t xs ≡ 0
none_from K V T A X t [] = refl
none_from K V T A X t (x ∷ xs) = omega (arith, none_from K V T A X (suc t) xs)

module _ {K V T A X : Type 0} where
  -- a reply to a thread beyond
  reply_past : (r : Reply K V T A) (rs : List (Reply K V T A)) (t : ℕ) (xs : List X) → r.thread < t
      → answered_from (r ∷ rs) t xs ≡ answered_from rs t xs
  reply_past r rs t [] lt = refl
  reply_past r rs t (x ∷ xs) lt =
      let not_this : one_if (r.thread == t) ≡ 0 = ap one_if (ne_eqb r.thread t (λ e. omega (arith, e, lt))) in
      omega (arith, answered_cons r rs t, not_this, reply_past r rs (suc t) xs (omega (arith, lt)))

  -- and one to a thread among them
  reply_among : (r : Reply K V T A) (rs : List (Reply K V T A)) (t : ℕ) (xs : List X) → t ≤ r.thread
      → r.thread < t + length xs → answered_from (r ∷ rs) t xs ≡ answered_from rs t xs + 1
  reply_among r rs t [] le lt = absurd (omega (arith, le, lt))
  reply_among r rs t (x ∷ xs) le lt = elim (cases_eq r.thread t) [
    | inl here ↦
        let this : one_if (r.thread == t) ≡ 1 = ap one_if (eq-eqb r.thread t here) in
        omega (arith, answered_cons r rs t, this, reply_past r rs (suc t) xs (omega (arith, here)))
    | inr ne ↦
        let not_this : one_if (r.thread == t) ≡ 0 = ap one_if (ne_eqb r.thread t ne) in
        let later : suc t ≤ r.thread = elim (cases_eq r.thread t)
        [ inl e ↦ absurd (ne e) | inr other ↦ omega (arith, le, other) ] in
        omega (arith, answered_cons r rs t, not_this, reply_among r rs (suc t) xs later (omega (arith, lt)))
  ]

  -- all replies are to such threads
  replies_among : (replies : List (Reply K V T A)) (xs : List X)
      → ((i : ℕ) (r : Reply K V T A) → slice_get replies i ≡ Some r → r.thread < length xs)
      → answered_from replies 0 xs ≡ length replies
  replies_among [] xs all = none_from K V T A X 0 xs
  replies_among (r ∷ rs) xs all =
      omega (
        arith,
        reply_among r rs 0 xs (omega arith) (omega (arith, all 0 r refl)),
        replies_among rs xs
            (λ i q at. all (suc i) q at),
      )

module _ {K V D T A : Type 0} where
  -- what is owed and answered of each program is the whole of it
  whole_sum : (replies : List (Reply K V T A)) (t : ℕ) (places : List (Place K V D T A))
      (programs : List (List (Ask K V D))) → length places ≡ length programs
      → ((i : ℕ) (p : Place K V D T A) (program : List (Ask K V D)) → slice_get places i ≡ Some p
      → slice_get programs i ≡ Some program → owed p + answered_of replies (t + i) ≡ length program)
      → sum_by owed places + answered_from replies t programs ≡ sum_by length programs
  whole_sum replies t [] [] same each = refl
  whole_sum replies t [] (q ∷ qs) same each = absurd (omega (arith, same))
  whole_sum replies t (p ∷ ps) [] same each = absurd (omega (arith, same))
  whole_sum replies t (p ∷ ps) (q ∷ qs) same each =
      let here : t + 0 ≡ t = omega arith in
      let one = each 0 p q refl refl in
      let rest = whole_sum replies (suc t) ps qs (omega (arith, same)) (λ i y program at has.
      let next : t + suc i ≡ suc t + i = omega arith in
      omega (arith, each (suc i) y program at has, ap (answered_of replies) next)) in
      omega (
        arith,
        sum_by-cons owed p ps,
        sum_by-cons (λ (program : List (Ask K V D)). length program) q qs,
        one,
        ap
            (answered_of replies) here,
        rest,
      )

  -- a call that a thread is in is owed, and else none beside those that haven't started
  owes_taken : (f : Phase K V D T A) (n : ℕ) → owes f + n ≡ (if is_resting f then n else n + 1)
  owes_taken phase.Rest n = omega arith
  owes_taken (phase.Admit r) n = omega arith
  owes_taken (phase.Find r) n = omega arith
  owes_taken (phase.Grow c) n = omega arith
  owes_taken (phase.Append k v) n = omega arith
  owes_taken (phase.Apply k) n = omega arith
  owes_taken (phase.View k d) n = omega arith
  owes_taken (phase.Read d) n = omega arith
  owes_taken (phase.Change k) n = omega arith
  owes_taken (phase.Fill v) n = omega arith
  owes_taken phase.Downgrade n = omega arith
  owes_taken (phase.Idle f) n = omega arith
  owes_taken (phase.Reach f) n = omega arith
  owes_taken (phase.Part f) n = omega arith
  owes_taken (phase.Visit f) n = omega arith
  owes_taken (phase.Seek f) n = omega arith
  owes_taken (phase.Item f) n = omega arith
  owes_taken (phase.Give f) n = omega arith
  owes_taken (phase.Onward f) n = omega arith
  owes_taken (phase.Release a) n = omega arith
  owes_taken (phase.Answer a) n = omega arith

module _ {K V S D T A : Type 0} (x : Setup K V D T) (w : State K V S D T A) (kept : IsKept x w) where
  each : (t : ℕ) (p : Place K V D T A) (program : List (Ask K V D)) → slice_get w.places t ≡ Some p
      → slice_get w.programs t ≡ Some program → owed p + answered_of w.replies t ≡ length program
  each t p program at has =
      let st = kept.sound.stands t p at in
      let same : program ≡ st.program = same_program st.program st.has in
      let left = ap length st.asks_left ∙ length-drop (taken p) st.program in
      omega (arith, left, st.within, owes_taken p.phase p.next, st.answered, ap length same)
    where
      same_program : (q : List (Ask K V D)) → slice_get x.programs t ≡ Some q → program ≡ q
      same_program q e = cc (sym has ∙ ap (λ ps. slice_get ps t) (sym kept.programs) ∙ e)

  -- a reply is to one of the threads
  told : (i : ℕ) (r : Reply K V T A) → slice_get w.replies i ≡ Some r → r.thread < length w.programs
  told i r at =
      let a = kept.sound.replies i r at in
      subst (λ ps. r.thread < length ps) kept.programs (within (slice_get x.programs r.thread) refl a.ask a.asked)
    where
      within : (o : Option (List (Ask K V D))) → slice_get x.programs r.thread ≡ o → (a : Ask K V D)
          → ask_at x r.thread r.call ≡ Some a → r.thread < length x.programs
      within None e a asked = absurd (none-some a (sym
          (ap (λ o. option_and_then (λ program. slice_get program r.call) o) e) ∙ asked))
      within (Some program) e a asked = slice_get_within x.programs r.thread program e

  pub kept-sized : IsSized w
  kept-sized = record {
    locks = kept.sizes;
    places = kept.places;
    answers = omega (
      arith,
      whole_sum w.replies 0 w.places w.programs kept.places
          (λ i p program at has. let here : 0 + i ≡ i = omega arith in omega
          (arith, each i p program at has, ap (answered_of w.replies) here)),
      replies_among w.replies w.programs told,
    );
  }

  pub kept-whole : IsWhole x w
  kept-whole = record { sound = kept.sound; locks = kept.locks; sizes = kept-sized }
