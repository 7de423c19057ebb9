-- What ends with no step of its own takes no more, and so each kind of step is paid for.
use Rattle.std.proofs.Common.{◌≡◌, ℕ, ◌+◌, ◌-◌, ◌*◌, ◌≤◌, ◌<◌, ◌⊎◌, inl, inr, false, List, [], ◌∷◌, ◌++◌, length, Some}
use Rattle.std.proofs.Common.{slice_get, sum_by, refl, ap, sym, ◌∙◌, subst, arith, length-set}
use Rattle.std.proofs.lemmas.Bool.{false≢true}
use Rattle.mapworld_calls.specs.declared.ask.Walk.{Walk}
use Rattle.mapworld_calls.specs.declared.reply.Answer.TheVariants as answer
use Rattle.mapworld_calls.specs.Setup.{Setup, Laws}
use Rattle.mapworld_state.specs.Locks.Fits.{LocksFit}
use Rattle.mapworld_state.specs.Locks.Views.{Shown}
use Rattle.parking_lot_machine.specs.Ranks.{steps_left}
use Rattle.parking_lot_machine.specs.Rows.{state}
use Rattle.mapworld_state.specs.declared.holds.Hold.{Hold}
use Rattle.mapworld_state.specs.declared.step.Step.{Step}
use Rattle.mapworld_state.specs.declared.place.Phase.{Phase}
use Rattle.mapworld_state.specs.declared.place.Phase.TheVariants as phase
use Rattle.mapworld_state.specs.Core.{adds, may_add}
use Rattle.mapworld_state.specs.Moves.{mode_of}
use Rattle.mapworld_state.specs.Places.{Place}
use Rattle.mapworld_state.specs.Sound.{IsBetweenVisits, Walks}
use Rattle.mapworld_state.specs.State.{State}
use Rattle.mapworld_state.specs.Steps.{IsStep, start, lock, find, find_grows, find_refused, deed_appends, deed_applies}
use Rattle.mapworld_state.specs.Steps.{deed_views, deed_reads, deed_changes, deed_fills, downgrade, release, answers}
use Rattle.mapworld_state.specs.Steps.{visit_starts, visit_parts, visit_looks, visit_seeks, visit_does, visit_gives}
use Rattle.mapworld_state.specs.Steps.{Concludes, owed, locked, idle, Enters, GivesNone, GoesOn, IsLocked}
use Rattle.mapworld_state.specs.Steps.{IsOwnStep, IsRefusedVisit, Leaves, LooksAround, Parts, Reaches, by_itself}
use Rattle.mapworld_state.specs.Steps.{by_deadline}
use Rattle.mapworld_state.specs.Walks.{entered_phase, walk_mode}
use Rattle.mapworld.specs.Progress.Left.{left, phase_left, phase_todo, place_left, place_todo}
use Rattle.mapworld.specs.Progress.Whole.{IsWhole}
use Rattle.mapworld_state.proofs.LocksFacts.Lawful.{fit-ends, lawful-ends}
use Rattle.mapworld.proofs.ProgressFacts.Coming.{TablesBy, same, StaysVisited, seen-same}
use Rattle.mapworld.proofs.ProgressFacts.Falling.{keeps_by, own-todo}
use Rattle.mapworld.proofs.ProgressFacts.Stepping.{answers_fall, appends_fall, applies_fall, at-lock, blocks-are}
use Rattle.mapworld.proofs.ProgressFacts.Stepping.{changes_fall, downgrades_fall, fills_fall, finds_fall, grows_fall}
use Rattle.mapworld.proofs.ProgressFacts.Stepping.{locks-are, moves_fall, places-are, reads_fall, refused_fall}
use Rattle.mapworld.proofs.ProgressFacts.Stepping.{releases_fall, tables-are, views_fall}
use Rattle.mapworld.proofs.ProgressFacts.Visiting.{does_fall, gives_fall, goes_fall, looks_fall, parts_fall}
use Rattle.mapworld.proofs.ProgressFacts.Visiting.{refused_visit_falls, seeks_fall}
use Rattle.mapworld.proofs.ProgressFacts.Walking.{starts_fall}

module _ {K V S D T A : Type 0} (x : Setup K V D T) (laws : Laws x) (w : State K V S D T A) (t : ℕ)
    (mid : State K V S D T A) (fit : LocksFit w.locks) where
  abbrev m : ℕ
  m = length w.places

  abbrev more : Place K V D T A → ℕ
  more p = length w.tables - (p.shard + 1)

  abbrev Keeps : Type 0
  Keeps = left x mid t ≤ left x w t

  stays : mid ≡ w → Keeps
  stays e = omega (arith, ap (λ (v : State K V S D T A). left x v t) e)

  enters : Enters w t mid → Keeps
  enters h =
      let p = h.place in
      let p' : Place K V D T A =
      record p {
        holds = p.holds ++ record { shard = p.shard; mode = mode_of h.request } ∷ [];
        phase = phase.Find h.request;
      } in
      keeps_by x laws w mid t p p' h.stands (places-are mid _ h.after) 0 (same (tables-are mid _ h.after))
      (omega (arith, ap adds h.before)) (seen-same x.eq w.blocks mid.blocks (blocks-are mid _ h.after)) refl
      (omega (
        arith,
        at-lock t h.locks mid.locks (locks-are mid _ h.after),
        ap (phase_left m (more p)) h.before,
        (lawful-ends t _ w.locks h.locks fit h.ends).pays,
      ))

  abbrev before_shard : Walk D → Phase K V D T A
  before_shard f = phase.Reach f

  -- an admission of a walk, and the phase that it leads to
  reaches-to : (h : Reaches w t mid) (next : Phase K V D T A) → entered_phase h.walk h.place.holds ≡ next
      → adds next ≡ 0 → phase_left m (more h.place) next ≤ phase_left m (more h.place) (before_shard h.walk)
      → ((v : State K V S D T A) → phase_todo x v h.place next ≡ phase_todo x v h.place (before_shard h.walk)) → Keeps
  reaches-to h next is none less alike =
      let p = h.place in
      let p' : Place K V D T A =
      record p {
        holds = p.holds ++ record { shard = p.shard; mode = walk_mode h.walk } ∷ [];
        phase = entered_phase h.walk p.holds;
      } in
      let tables : TablesBy x.eq w.tables mid.tables 0 = same (tables-are mid _ h.after) in
      let seen : StaysVisited x.eq w.blocks mid.blocks = seen-same x.eq w.blocks mid.blocks (blocks-are mid _ h.after)
      in
      let adding : may_add p' + 0 ≤ may_add p = omega (arith, ap adds h.before, ap adds is, none) in
      keeps_by x laws w mid t p p' h.stands (places-are mid _ h.after) 0 tables adding seen refl
      (omega (
        arith,
        at-lock t h.locks mid.locks (locks-are mid _ h.after),
        ap (phase_left m (more p)) h.before,
        ap (phase_left m (more p)) is,
        less,
        ap (phase_todo x w p) h.before,
        ap (phase_todo x mid p') is ∙ alike mid,
        own-todo x laws w mid t p p' h.stands (places-are mid _ h.after) 0 tables adding seen p (phase.Reach h.walk),
        (lawful-ends t _ w.locks h.locks fit h.ends).pays,
      ))

  reaches-by : (h : Reaches w t mid) (holds : List Hold) → h.place.holds ≡ holds → Keeps
  reaches-by h [] none = reaches-to h (phase.Visit h.walk) (ap (entered_phase h.walk) none) refl (omega arith)
      (λ v. refl)
  reaches-by h (hold ∷ holds) some = reaches-to h (phase.Part h.walk) (ap (entered_phase h.walk) some) refl
      (omega arith) (λ v. refl)

  reaches : Reaches w t mid → Keeps
  reaches h = reaches-by h h.place.holds refl

  is-locked : IsLocked w t mid → Keeps
  is-locked h =
      let p = h.place in
      let p' : Place K V D T A = record p { phase = phase.Answer answer.Locked } in
      keeps_by x laws w mid t p p' h.stands (places-are mid _ h.after) 0 (same (tables-are mid _ h.after))
      (omega (arith, ap adds h.before)) (seen-same x.eq w.blocks mid.blocks (blocks-are mid _ h.after)) refl
      (omega (
        arith,
        at-lock t h.locks mid.locks (locks-are mid _ h.after),
        ap (phase_left m (more p)) h.before,
        (lawful-ends t _ w.locks h.locks fit h.ends).pays,
      ))

  gives-none : GivesNone w t mid → Keeps
  gives-none h =
      let p = h.place in
      let p' : Place K V D T A = record p { phase = phase.Answer h.answer } in
      keeps_by x laws w mid t p p' h.stands (places-are mid _ h.after) 0 (same (tables-are mid _ h.after))
      (omega (arith, ap adds h.before)) (seen-same x.eq w.blocks mid.blocks (blocks-are mid _ h.after)) refl
      (omega (arith, at-lock t w.locks mid.locks (locks-are mid _ h.after), ap (phase_left m (more p)) h.before))

  leaves : Leaves w t mid → Keeps
  leaves h =
      let behind : State K V S D T A = record w { locks = h.locks } in
      let is : left x behind t ≡ steps_left (state h.locks.rows) t + sum_by
      (place_left (length w.places) (length w.tables)) w.places + 2 * sum_by (place_todo x w) w.places = refl in
      let paid = lawful-ends t _ w.locks h.locks fit h.ends in
      omega (arith, ap (λ (v : State K V S D T A). left x v t) h.after, is, paid.pays)

  concludes : Concludes w t mid → Keeps
  concludes (owed h) = leaves h
  concludes (locked h) = is-locked h
  concludes (idle h) = gives-none h

module _ {K V S D T A : Type 0} (x : Setup K V D T) (laws : Laws x) (w : State K V S D T A) (s : Step)
    (w' : State K V S D T A) (whole : IsWhole x w) where
  abbrev Falls : Type 0
  Falls = left x w' s.thread + 1 ≤ left x w s.thread

  size : length (state w.locks.rows).calls ≡ length w.places
  size = whole.sizes.locks.threads_are

  -- the locks fit where an admission, or what was owed to a lock, has ended
  fit-same : (mid : State K V S D T A) → mid ≡ w → LocksFit mid.locks
  fit-same mid e = subst LocksFit (sym (ap (λ (v : State K V S D T A). v.locks) e)) whole.locks

  fit-left : (mid : State K V S D T A) → Leaves w s.thread mid → LocksFit mid.locks
  fit-left mid l = subst LocksFit (sym (locks-are mid _ l.after))
      (fit-ends s.thread _ w.locks l.locks whole.locks l.ends)

  fit-reached : (mid : State K V S D T A) → Reaches w s.thread mid → LocksFit mid.locks
  fit-reached mid r = subst LocksFit (sym (locks-are mid _ r.after))
      (fit-ends s.thread _ w.locks r.locks whole.locks r.ends)

  -- a walk between two visits has a shard left to come to
  rises : (p : Place K V D T A) (f : Walk D) → slice_get w.places s.thread ≡ Some p → p.phase ≡ phase.Onward f
      → p.shard + 1 < length w.tables
  rises p f at before =
      let between : IsBetweenVisits x w.blocks s.thread p f (p.shard + 1) =
      subst (λ (g : Phase K V D T A). Walks x w.blocks w.tables s.thread p g) before
      (whole.sound.stands s.thread p at).walks in
      omega (arith, between.left, whole.sound.shards)

  goes : GoesOn x w s w' → Falls
  goes h = elim h.leaves [
    | inl e ↦
        let places = ap (λ (v : State K V S D T A). v.places) e in
        let tables = ap (λ (v : State K V S D T A). v.tables) e in
        let low : h.starts.place.shard + 1 < length h.mid.tables =
        omega (
          arith,
          rises h.starts.place h.starts.walk
              (ap (λ ps. slice_get ps s.thread) (sym places) ∙ h.starts.stands) h.starts.before,
          ap length tables,
        ) in
        omega (
          arith,
          stays x laws w s.thread h.mid whole.locks e,
          goes_fall x laws h.mid s w' (fit-same h.mid e) h.starts low,
        )
    | inr l ↦
        let places = places-are h.mid _ l.after in
        let tables = tables-are h.mid _ l.after in
        let low : h.starts.place.shard + 1 < length h.mid.tables =
        omega (
          arith,
          rises h.starts.place h.starts.walk
              (ap (λ ps. slice_get ps s.thread) (sym places) ∙ h.starts.stands) h.starts.before,
          ap length tables,
        ) in
        omega (
          arith,
          leaves x laws w s.thread h.mid whole.locks l,
          goes_fall x laws h.mid s w' (fit-left h.mid l) h.starts low,
        )
  ]

  parts : Parts x w s w' → Falls
  parts h = elim h.enters [
    | inl e ↦
        let threads : length (state h.mid.locks.rows).calls ≡ length (state w.locks.rows).calls =
        ap (λ (v : State K V S D T A). length v.locks.rows.calls) e in
        let places : length h.mid.places ≡ length w.places = ap (λ (v : State K V S D T A). length v.places) e in
        omega (
          arith,
          stays x laws w s.thread h.mid whole.locks e,
          parts_fall x laws h.mid s w' (threads ∙ (size ∙ sym places)) (fit-same h.mid e) h.gives,
        )
    | inr r ↦
        let threads : length (state h.mid.locks.rows).calls ≡ length (state w.locks.rows).calls =
        ap (λ (l : Shown). length l.rows.calls) (locks-are h.mid _ r.after) ∙ r.ends.whole.threads in
        let places : length h.mid.places ≡ length w.places = ap length (places-are h.mid _ r.after)
        ∙ length-set w.places s.thread _ in
        omega (
          arith,
          reaches x laws w s.thread h.mid whole.locks r,
          parts_fall x laws h.mid s w' (threads ∙ (size ∙ sym places)) (fit-reached h.mid r) h.gives,
        )
  ]

  looks : (mid : State K V S D T A) → LooksAround x mid s w' ⊎ IsRefusedVisit x mid s w'
      → left x w' s.thread + 1 ≤ left x mid s.thread
  looks mid (inl h) = looks_fall x laws mid s w' h
  looks mid (inr h) = refused_visit_falls x laws mid s w' h

  begins : (mid : State K V S D T A) → (mid ≡ w) ⊎ (Reaches w s.thread mid ⊎ Leaves w s.thread mid)
      → left x mid s.thread ≤ left x w s.thread
  begins mid (inl e) = stays x laws w s.thread mid whole.locks e
  begins mid (inr (inl h)) = reaches x laws w s.thread mid whole.locks h
  begins mid (inr (inr h)) = leaves x laws w s.thread mid whole.locks h

  admits : (mid : State K V S D T A) → (mid ≡ w) ⊎ Enters w s.thread mid → left x mid s.thread ≤ left x w s.thread
  admits mid (inl e) = stays x laws w s.thread mid whole.locks e
  admits mid (inr h) = enters x laws w s.thread mid whole.locks h

  ends : (mid : State K V S D T A) → (mid ≡ w) ⊎ Concludes w s.thread mid → left x mid s.thread ≤ left x w s.thread
  ends mid (inl e) = stays x laws w s.thread mid whole.locks e
  ends mid (inr h) = concludes x laws w s.thread mid whole.locks h

  own_fall : IsOwnStep x w s w' → Falls
  own_fall (start h) = starts_fall x laws w s w' size whole.locks h
  own_fall (lock h) = moves_fall x laws w s w' whole.locks h
  own_fall (find h) = omega (arith, admits h.mid h.enters, finds_fall x laws h.mid s w' h.finds)
  own_fall (find_grows h) = grows_fall x laws w s w' h
  own_fall (find_refused h) = refused_fall x laws w s w' h
  own_fall (deed_appends h) = appends_fall x laws w s w' h
  own_fall (deed_applies h) = applies_fall x laws w s w' h
  own_fall (deed_views h) = views_fall x laws w s w' h
  own_fall (deed_reads h) = reads_fall x laws w s w' h
  own_fall (deed_changes h) = changes_fall x laws w s w' h
  own_fall (deed_fills h) = fills_fall x laws w s w' h
  own_fall (downgrade h) = downgrades_fall x laws w s w' size whole.locks h
  own_fall (release h) = releases_fall x laws w s w' size whole.locks h
  own_fall (answers h) = omega (arith, ends h.mid h.leaves, answers_fall x laws h.mid s w' h.answers)
  own_fall (visit_starts h) = goes h
  own_fall (visit_parts h) = parts h
  own_fall (visit_looks h) = omega (arith, begins h.mid h.enters, looks h.mid h.looks)
  own_fall (visit_seeks h) = seeks_fall x laws w s w' h
  own_fall (visit_does h) = does_fall x laws w s w' h (whole.sound.tables.distinct h.place.shard h.table h.held)
  own_fall (visit_gives h) = gives_fall x laws w s w' size whole.locks h

  pub steps_fall : s.deadline ≡ false → IsStep x w s w' → Falls
  steps_fall mine (by_itself off step) = own_fall step
  steps_fall mine (by_deadline due step) = absurd (false≢true (sym mine ∙ due))
