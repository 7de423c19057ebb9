-- A thread whose call is a try is never asleep.
use Rattle.std.proofs.Common.{◌≡◌, ℕ, inl, inr, Bool, true, false, IsTrue, List, [], ◌∷◌, Some, slice_get, refl, sym}
use Rattle.std.proofs.Common.{ap, ◌∙◌, subst}
use Rattle.std.specs.Cmp.{IsEquivalence}
use Rattle.std.specs.Hash.{HashWrites}
use Rattle.std.specs.declared.hash.BuildHasher as builder
use Rattle.std.specs.declared.hash.Hasher as hasher
use Rattle.std.proofs.lemmas.Bool.{cases_eq, false≢true}
use Rattle.std.proofs.lemmas.Option.{same_Some}
use Rattle.parking_lot_machine.specs.Rows.{state}
use Rattle.parking_lot_machine.specs.SoundLaws.{Always, OwnersAgree, StepsAreCases}
use Rattle.mapworld_calls.specs.declared.ask.Ask.{Ask}
use Rattle.mapworld_calls.specs.declared.ask.Ask.TheVariants as ask
use Rattle.mapworld_calls.specs.declared.ask.Begin.{Begin}
use Rattle.mapworld_calls.specs.declared.ask.Begin.TheVariants as begin
use Rattle.mapworld_calls.specs.declared.ask.Walk.{Walk}
use Rattle.mapworld_calls.specs.declared.deed.Deed as deed
use Rattle.mapworld_calls.specs.Placed.{answered_of}
use Rattle.mapworld_calls.specs.Programs.{is_try}
use Rattle.mapworld_calls.specs.Setup.{Setup, ask_at}
use Rattle.mapworld_state.specs.declared.place.Phase.{Phase}
use Rattle.mapworld_state.specs.declared.place.Phase.TheVariants as phase
use Rattle.mapworld_state.specs.declared.place.Request.{Request}
use Rattle.mapworld_state.specs.declared.place.Request.TheVariants as request
use Rattle.mapworld_state.specs.declared.step.Step.{Step}
use Rattle.mapworld_state.specs.Locks.Counts.{QueuesAreWaiters}
use Rattle.mapworld_state.specs.Locks.Fits.{LocksFit}
use Rattle.mapworld_state.specs.Locks.Footprints.{StepsTouchOneLock}
use Rattle.mapworld_state.specs.Locks.Views.{Shown}
use Rattle.mapworld_state.specs.Holds.{tries_so}
use Rattle.mapworld_state.specs.Moves.{ask_of, mode_of, opening_manner, request_manner, start_shard}
use Rattle.mapworld_state.specs.Places.{Place}
use Rattle.mapworld_state.specs.Running.{status_of}
use Rattle.mapworld_state.specs.State.{State, threads_of}
use Rattle.mapworld_state.specs.Steps.{IsOwnStep, by_itself, by_deadline}
use Rattle.mapworld_state.specs.Steps.{EntersBy, GivesBack, IsStep, start, lock, find, find_grows, find_refused}
use Rattle.mapworld_state.specs.Steps.{deed_appends, deed_applies, deed_views, deed_reads, deed_changes, deed_fills}
use Rattle.mapworld_state.specs.Steps.{downgrade, release, answers, visit_starts, visit_parts, visit_looks, visit_seeks}
use Rattle.mapworld_state.specs.Steps.{visit_does, visit_gives}
use Rattle.mapworld_state.specs.World.{setup_of}
use Rattle.mapworld_state.proofs.InvariantFacts.Building.{claim-at}
use Rattle.mapworld.specs.Asleep.{IsAsking, IsAsleep}
use Rattle.mapworld.specs.Atomic.{core_in}
use Rattle.mapworld.specs.Reachable.{IsReachable, LeadsTo}
use Rattle.mapworld.specs.ReachableLaws as laws
use Rattle.mapworld.proofs.Cores.{KeepsOthers, others-begins, others-expires, others-same}
use Rattle.mapworld.proofs.Footprints.{concluding, entering, enters_alone, leaving, parting, parting_fit}
use Rattle.mapworld.proofs.Footprints.{step_footprint, visiting}
use Rattle.mapworld.proofs.Keeping.{IsKept}
use Rattle.mapworld.proofs.Reached.{own-laws, reachable-kept, reachable-step, same-setup-step}
use Rattle.mapworld.proofs.Refusing.{Asked, asks, by_expiry, by_move, by_start, step-tells}
use Rattle.mapworld.proofs.Sleeping.{status-asleep}
use Rattle.mapworld.proofs.Tries.{UpStays, begins-up, moves-up, stays_up, up-awake, up-moves, up-others, up-starts}
use Rattle.mapworld.proofs.Tries.{expires-up, up-then}

-- WHAT A STEP DOES TO OTHERS' TRIES

module _ {K V S D T A : Type 0} (x : Setup K V D T) (w : State K V S D T A) (s : Step) (w' : State K V S D T A)
    (fit : LocksFit w.locks) where
  up-same : (mid : State K V S D T A) → KeepsOthers s.thread w.locks mid.locks → w'.locks ≡ mid.locks
      → UpStays s.thread w.locks w'.locks
  up-same mid calls same = subst (UpStays s.thread w.locks) (sym same) (up-others s.thread w.locks mid.locks calls)

  up-still : w'.locks ≡ w.locks → UpStays s.thread w.locks w'.locks
  up-still same = up-same w (others-same s.thread w.locks w.locks refl) same

  up-by : (locks : Shown) → w'.locks ≡ locks → UpStays s.thread w.locks locks → UpStays s.thread w.locks w'.locks
  up-by locks same up = subst (UpStays s.thread w.locks) (sym same) up

  up-gives : (mid : State K V S D T A) → KeepsOthers s.thread w.locks mid.locks → LocksFit mid.locks
      → (from to : Walk D → Phase K V D T A) → GivesBack x mid s w' from to → UpStays s.thread w.locks w'.locks
  up-gives mid calls fine from to a =
      up-by a.locks (ap (λ (v : State K V S D T A). v.locks) a.after)
      (up-then s.thread w.locks mid.locks a.locks (up-others s.thread w.locks mid.locks calls)
      (up-starts s.thread a.hold.shard _ s.fair mid.locks a.locks fine a.gives))

  own-up : IsOwnStep x w s w' → UpStays s.thread w.locks w'.locks
  own-up (start a) = up-by a.locks (ap (λ (v : State K V S D T A). v.locks) a.after)
      (up-others s.thread w.locks a.locks (enters_alone s.thread _ w.locks a.locks _ a.enters))
  own-up (lock a) = up-by a.locks (ap (λ (v : State K V S D T A). v.locks) a.after)
      (up-moves s.thread s.fair w.locks a.locks fit a.moves)
  own-up (find h) = up-same h.mid (entering w s.thread h.mid h.enters).calls
      (ap (λ (v : State K V S D T A). v.locks) h.finds.after)
  own-up (find_grows a) = up-still (ap (λ (v : State K V S D T A). v.locks) a.after)
  own-up (find_refused a) = up-still (ap (λ (v : State K V S D T A). v.locks) a.after)
  own-up (deed_appends a) = up-still (ap (λ (v : State K V S D T A). v.locks) a.after)
  own-up (deed_applies a) = up-still (ap (λ (v : State K V S D T A). v.locks) a.after)
  own-up (deed_views a) = up-still (ap (λ (v : State K V S D T A). v.locks) a.after)
  own-up (deed_reads a) = up-still (ap (λ (v : State K V S D T A). v.locks) a.after)
  own-up (deed_changes a) = up-still (ap (λ (v : State K V S D T A). v.locks) a.after)
  own-up (deed_fills a) = up-still (ap (λ (v : State K V S D T A). v.locks) a.after)
  own-up (downgrade a) = up-by a.locks (ap (λ (v : State K V S D T A). v.locks) a.after)
      (up-starts s.thread a.hold.shard _ s.fair w.locks a.locks fit a.turns)
  own-up (release a) = up-by a.locks (ap (λ (v : State K V S D T A). v.locks) a.after)
      (up-starts s.thread a.hold.shard _ s.fair w.locks a.locks fit a.gives)
  own-up (answers h) = up-same h.mid (concluding w s.thread h.mid h.leaves).calls
      (ap (λ (v : State K V S D T A). v.locks) h.answers.after)
  own-up (visit_starts h) =
      let a = h.starts in
      up-by a.locks (ap (λ (v : State K V S D T A). v.locks) a.after)
      (up-then s.thread w.locks h.mid.locks a.locks
      (up-others s.thread w.locks h.mid.locks (leaving w s.thread h.mid h.leaves).calls)
      (up-others s.thread h.mid.locks a.locks (others-begins s.thread _ _ h.mid.locks a.locks a.begins)))
  own-up (visit_parts h) = up-gives h.mid (parting w s.thread h.mid h.enters).calls
      (parting_fit w s.thread h.mid fit h.enters) phase.Part phase.Visit h.gives
  own-up (visit_looks h) = elim h.looks [
    | inl a ↦ up-same h.mid (visiting w s.thread h.mid h.enters).calls (ap (λ (v : State K V S D T A). v.locks) a.after)
    | inr a ↦ up-same h.mid (visiting w s.thread h.mid h.enters).calls (ap (λ (v : State K V S D T A). v.locks) a.after)
  ]
  own-up (visit_seeks a) = up-still (ap (λ (v : State K V S D T A). v.locks) a.after)
  own-up (visit_does a) = up-still (ap (λ (v : State K V S D T A). v.locks) a.after)
  own-up (visit_gives a) = up-gives w (others-same s.thread w.locks w.locks refl) fit phase.Give phase.Onward a

  step-up : IsStep x w s w' → UpStays s.thread w.locks w'.locks
  step-up (by_itself mine step) = own-up step
  step-up (by_deadline due a) = up-by a.locks (ap (λ (v : State K V S D T A). v.locks) a.after)
      (up-others s.thread w.locks a.locks (others-expires s.thread w.locks a.locks a.expires))

-- ALONG SCHEDULES

asks-is : {K V D T A : Type 0} (f : Phase K V D T A) (r : Request K V D) → f ≡ phase.Admit r → asks f ≡ true
asks-is f r is = ap asks is

-- the call that a thread asks for in a try is that of its program
abbrev is_begin : {K V D : Type 0} → Ask K V D → Bool
is_begin (ask.Begin g) = true
is_begin other = false

abbrev tries-of : {K V D : Type 0} → Ask K V D → Bool
tries-of (ask.Begin c) = is_try c
tries-of other = false

-- an opening tries where it is a try
opening-tries : {K : Type 0} (c : Begin K) → tries_so (opening_manner c) ≡ is_try c
opening-tries (begin.Get k) = refl
opening-tries (begin.GetMut k) = refl
opening-tries (begin.Entry k) = refl
opening-tries (begin.TryGet k) = refl
opening-tries (begin.TryGetMut k) = refl
opening-tries (begin.TryEntry k) = refl
opening-tries (begin.GetUntil k) = refl
opening-tries (begin.GetMutUntil k) = refl

tried : {K V D : Type 0} (r : Request K V D) (g : Begin K) → ask_of r ≡ ask.Begin g
    → tries_so (request_manner r) ≡ is_try g
tried (request.Begin c) g is = opening-tries c ∙ ap tries-of is
tried (request.Keyed k) g is = absurd (false≢true (ap is_begin is))

module _ {K V S H D T A : Type 0} (d : deed.Ghosts D K V T) (b : builder.Ghosts S H) (h : hasher.Ghosts H)
    (eq : K → K → Bool) (writes : K → HashWrites) (lawful : IsEquivalence eq)
    (respects : (j k : K) → IsTrue (eq j k) → writes j ≡ writes k)
    (cases : StepsAreCases) (agree : Always OwnersAgree) (touch : StepsTouchOneLock) where
  abbrev own : State K V S D T A → Setup K V D T
  own w = setup_of d b h eq writes w

  abbrev TriesAreUp : State K V S D T A → Type 0
  TriesAreUp w = (t : ℕ) (p : Place K V D T A) (r : Request K V D) → slice_get w.places t ≡ Some p
      → p.phase ≡ phase.Admit r → tries_so (request_manner r) ≡ true → stays_up (core_in w.locks t) ≡ true

  module _ (w : State K V S D T A) (s : Step) (w' : State K V S D T A) (reached : IsReachable d b h eq writes w)
      (step : IsStep (own w) w s w') (up : TriesAreUp w) where
    kept : IsKept (own w) w
    kept = reachable-kept d b h eq writes lawful respects cases agree w reached

    mine : (p : Place K V D T A) (r : Request K V D) → Asked (own w) w s w' p → p.phase ≡ phase.Admit r
        → tries_so (request_manner r) ≡ true → stays_up (core_in w'.locks s.thread) ≡ true
    mine p r (by_start a is) at tries =
        let enters : EntersBy {T = T} {A = A} s.thread (start_shard (own w).route a.ask a.place.shard)
        (phase.Admit r) w.locks a.locks =
        subst (λ (f : Phase K V D T A). EntersBy s.thread (start_shard (own w).route a.ask a.place.shard) f w.locks
        a.locks) (sym is ∙ at) a.enters in
        ap (λ (v : State K V S D T A). stays_up (core_in v.locks s.thread)) a.after
        ∙ begins-up s.thread _ (request_manner r) (mode_of r) w.locks a.locks tries enters
    mine p r (by_move a is) at tries =
        ap (λ (v : State K V S D T A). stays_up (core_in v.locks s.thread)) a.after
        ∙ moves-up s.thread s.fair w.locks a.locks a.moves
        (up s.thread a.place r a.stands (ap (λ (q : Place K V D T A). q.phase) is ∙ at) tries)
    mine p r (by_expiry a is) at tries =
        ap (λ (v : State K V S D T A). stays_up (core_in v.locks s.thread)) a.after
        ∙ expires-up s.thread w.locks a.locks a.expires
        (up s.thread a.place r a.stands (ap (λ (q : Place K V D T A). q.phase) is ∙ at) tries)

    tries-on : TriesAreUp w'
    tries-on t p r at is tries = elim (cases_eq t s.thread) [
      | inl here ↦
          let tell = step-tells (own w) w s w' kept.sound step in
          let same : tell.now ≡ p = same_Some tell.now p
          (sym tell.there ∙ (ap (slice_get w'.places) (sym here) ∙ at)) in
          ap (λ n. stays_up (core_in w'.locks n)) here
          ∙ mine p r (subst (λ q. asks q.phase ≡ true → Asked (own w) w s w' q) same tell.asked
          (asks-is p.phase r is)) is tries
      | inr ne ↦
          let print = step_footprint (own w) (own-laws d b h eq writes lawful respects w) w s w' kept.sound touch
          kept.locks step in
          (step-up (own w) w s w' kept.locks step).up t ne (up t p r (sym (print.places t ne) ∙ at) is tries)
    ]

  tries-along : (w : State K V S D T A) (ss : List Step) (w' : State K V S D T A) → IsReachable d b h eq writes w
      → TriesAreUp w → LeadsTo (own w) w ss w' → TriesAreUp w'
  tries-along w [] w' r up same = subst TriesAreUp (sym same) up
  tries-along w (s ∷ ss) w' r up (mid, moves, step, rest) =
      tries-along mid ss w' (reachable-step d b h eq writes lawful respects cases agree w s mid r moves step)
      (tries-on w s mid r step up)
      (subst (λ y. LeadsTo y mid ss w') (sym (same-setup-step d b h eq writes lawful respects cases agree w s mid r
      step)) rest)

  tries-reached : (w : State K V S D T A) → IsReachable d b h eq writes w → TriesAreUp w
  tries-reached w r =
      let first : IsReachable d b h eq writes r.first = record
      { first = r.first; schedule = []; initial = r.initial; leads = refl } in
      tries-along r.first r.schedule w first
      (λ t p q at is tries. absurd (false≢true (sym
      (ap (λ (z : Place K V D T A). asks z.phase) (r.initial.new.places.each t p at)) ∙ asks-is p.phase q is)))
      r.leads

  no-try : (w : State K V S D T A) (t : ℕ) (g : Begin K) → IsReachable d b h eq writes w → IsKept (own w) w
      → (a : IsAsleep w t) → ask_at (own w) t (answered_of w.replies t) ≡ Some (ask.Begin g) → is_try g ≡ true → ⊥
  no-try w t g r k a asked is = by a.asks
    where
      now : ask_at (own w) t a.place.next ≡ Some (ask.Begin g)
      now = ap (ask_at (own w) t) (k.sound.stands t a.place a.stands).answered ∙ asked

      by : IsAsking a.place.phase → ⊥
      by (inl (q, at)) =
          let claim = claim-at (own w) (threads_of w) w.blocks w.replies w.tables t a.place (phase.Admit q) at
          (k.sound.stands t a.place a.stands) in
          let same : ask_of q ≡ ask.Begin g = same_Some (ask_of q) (ask.Begin g) (sym claim.0.asked ∙ now) in
          false≢true (sym (up-awake (state w.locks.rows) t
          (tries-reached w r t a.place q a.stands at (tried q g same ∙ is))) ∙ a.sleeps)
      by (inr (f, at)) =
          let claim = claim-at (own w) (threads_of w) w.blocks w.replies w.tables t a.place (phase.Reach f) at
          (k.sound.stands t a.place a.stands) in
          false≢true (ap is_begin (same_Some (ask.Walk f) (ask.Begin g) (sym claim.0.asked ∙ now)))

  pub never_sleep : QueuesAreWaiters → laws.TriesNeverSleep A d b h eq writes
  never_sleep queues w t g r asked is asleep =
      let k = reachable-kept d b h eq writes lawful respects cases agree w r in
      no-try w t g r k ((status-asleep (own w) w k.sound k.locks queues t (status_of w t) refl).0 asleep) asked is
