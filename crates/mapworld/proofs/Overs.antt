-- A world at rest is over: each thread has finished, and each call has its reply. Where a world is over nobody can
-- move.
use Rattle.std.proofs.Common.{◌≡◌, ℕ, ◌<◌, ◌==◌, inl, inr, Bool, true, false, not, if◌then◌else◌, List, length, take}
use Rattle.std.proofs.Common.{Some, slice_get, refl, sym, ap, ◌∙◌, arith}
use Rattle.std.specs.List.{count_by}
use Rattle.std.proofs.lemmas.Bool.{eqb-true}
use Rattle.dashmap_table.proofs.Cases.{option_cases}
use Rattle.parking_lot_machine.specs.Machines.{is_asleep}
use Rattle.parking_lot_machine.specs.Rows.{state}
use Rattle.mapworld_calls.specs.declared.ask.Ask.{Ask}
use Rattle.mapworld_calls.specs.declared.reply.Reply.{Reply}
use Rattle.mapworld_calls.specs.Placed.{answered_of}
use Rattle.mapworld_calls.specs.Setup.{Setup}
use Rattle.mapworld_state.specs.declared.place.Phase.{Phase}
use Rattle.mapworld_state.specs.declared.step.Status.TheVariants as status
use Rattle.mapworld_state.specs.Classes.{Class, resting, waiting, inside, placed, leaving, answering, reaching, parting}
use Rattle.mapworld_state.specs.Classes.{looking, visiting, pausing, class_of, moves_in, status_in}
use Rattle.mapworld_state.specs.Running.{can_move_in, goes_on, moves_at, status_at, status_of}
use Rattle.mapworld_state.specs.Sound.{Sound}
use Rattle.mapworld_state.specs.State.{State}
use Rattle.mapworld.specs.Progress.Rest.{IsAtRest}
use Rattle.mapworld.specs.Over.{HasReply, IsOver}
use Rattle.mapworld.proofs.Counted.{nth}
use Rattle.mapworld.proofs.Sleeping.{status-finished-any}

over-if : (b : Bool) → (if b then status.Finished else status.Running) ≡ status.Finished → not b ≡ false
over-if true h = refl
over-if false h = cc

not-asleep : (b : Bool) → (if b then status.Asleep else status.Running) ≡ status.Finished → ⊥
not-asleep true h = cc
not-asleep false h = cc

-- who has finished doesn't move
stops-in : (asleep goes : Bool) (left : ℕ) (c : Class) → status_in asleep left c ≡ status.Finished
    → moves_in goes left c ≡ false
stops-in asleep goes left resting h = over-if (left == 0) h
stops-in asleep goes left waiting h = absurd (not-asleep asleep h)
stops-in asleep goes left inside h = cc
stops-in asleep goes left placed h = cc
stops-in asleep goes left leaving h = cc
stops-in asleep goes left answering h = absurd (not-asleep asleep h)
stops-in asleep goes left reaching h = absurd (not-asleep asleep h)
stops-in asleep goes left parting h = cc
stops-in asleep goes left looking h = absurd (not-asleep asleep h)
stops-in asleep goes left visiting h = cc
stops-in asleep goes left pausing h = absurd (not-asleep asleep h)

module _ {K V S D T A : Type 0} (w : State K V S D T A) where
  pub stopped : ((t : ℕ) → status_of w t ≡ status.Finished) → (t : ℕ) → can_move_in w t ≡ false
  stopped done t = elim (option_cases (slice_get w.places t)) [
    | inl none ↦ ap (λ o. moves_at w.locks t o) none
    | inr some ↦
        ap (λ o. moves_at w.locks t o) some.1
        ∙ stops-in (is_asleep (state w.locks.rows) t) (goes_on w.locks t) (length some.0.asks)
        (class_of some.0.phase) (sym (ap (λ o. status_at w.locks t o) some.1) ∙ done t)
  ]

  finished : IsAtRest w → (t : ℕ) → status_of w t ≡ status.Finished
  finished rest t = elim (option_cases (slice_get w.places t)) [
    | inl none ↦ ap (λ o. status_at w.locks t o) none
    | inr some ↦
        let ended = rest.places t some.0 some.1 in
        let asleep = is_asleep (state w.locks.rows) t in
        ap (λ o. status_at w.locks t o) some.1
        ∙ (ap (λ (f : Phase K V D T A). status_in asleep (length some.0.asks) (class_of f)) ended.rests
        ∙ ap (λ (asks : List (Ask K V D)). status_in asleep (length asks) resting) ended.asks)
  ]

  module _ (x : Setup K V D T) (sound : Sound x w) (same : x.programs ≡ w.programs)
      (long : length w.places ≡ length w.programs) where
    replied : ((t : ℕ) → status_of w t ≡ status.Finished) → (t c : ℕ) (program : List (Ask K V D))
        → slice_get w.programs t ≡ Some program → c < length program → HasReply w.replies t c
    replied done t c program has low =
        let all : count_by (λ (r : Reply K V T A). r.thread == t) w.replies ≡ length
        program = (status-finished-any x w sound same long t (status_of w t) refl).0 (done t) program has in
        let n = nth (λ (r : Reply K V T A). r.thread == t) w.replies c (omega (arith, all, low)) in
        let own : n.element.thread ≡ t = eqb-true n.element.thread t n.passes in (
          n.element.start,
          record {
            place = n.place;
            reply = n.element;
            listed = n.listed;
            thread = own;
            call = sound.placed.in_turn n.place n.element n.listed
                ∙ (ap (λ u. answered_of (take n.place w.replies) u) own ∙ n.before);
            start = refl;
          },
        )

    pub over : IsAtRest w → IsOver w
    over rest = record {
      replied = replied (finished rest);
      finished = finished rest;
      words = rest.locks.words;
      queues = rest.locks.queues;
    }
