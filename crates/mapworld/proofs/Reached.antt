-- What holds of every reachable world.
use Rattle.std.proofs.Common.{◌≡◌, ℕ, ◌≤◌, Bool, true, false, IsTrue, List, [], ◌∷◌, ◌++◌, length, None, refl, sym, ap}
use Rattle.std.proofs.Common.{◌∙◌}
use Rattle.std.proofs.Common.{subst, arith}
use Rattle.std.specs.Cmp.{IsEquivalence}
use Rattle.std.specs.Hash.{HashWrites}
use Rattle.std.specs.List.{All}
use Rattle.std.specs.declared.hash.BuildHasher as builder
use Rattle.std.specs.declared.hash.Hasher as hasher
use Rattle.std.proofs.lemmas.List.{length-map}
use Rattle.std.proofs.lemmas.List.Elements.{All-head, All-tail}
use Rattle.parking_lot_machine.specs.SoundLaws.{Always, OwnersAgree, SomebodyCanMove as SomebodyAtALock, StepsAreCases}
use Rattle.parking_lot_machine.specs.SoundLaws.{StepsAreFew}
use Rattle.mapworld_calls.specs.declared.ask.Ask.{Ask}
use Rattle.mapworld_calls.specs.declared.deed.Deed as deed
use Rattle.mapworld_calls.specs.Setup.{Setup, Laws}
use Rattle.mapworld_state.specs.Core.{AreLocksOf}
use Rattle.mapworld_state.specs.declared.step.Step.{Step}
use Rattle.mapworld_state.specs.Locks.Counts.{DesksCountAsWords}
use Rattle.mapworld_state.specs.Locks.Footprints.{StepsTouchOneLock}
use Rattle.mapworld_state.specs.Route.{key_route}
use Rattle.mapworld_state.specs.Running.{may_step, StaysFixed}
use Rattle.mapworld_state.specs.State.{State}
use Rattle.mapworld_state.specs.Steps.{IsStep}
use Rattle.mapworld_state.specs.World.{setup_of}
use Rattle.mapworld_state.proofs.InvariantFacts.Adding.{fixed-more, step-adds}
use Rattle.mapworld_state.proofs.InvariantFacts.CausesFacts.Keeping.{causes-new}
use Rattle.mapworld_state.proofs.InvariantFacts.CausesFacts.Meeting.{sleepers-have_company, words-have_calls}
use Rattle.mapworld_state.proofs.LocksFacts.Fresh.{fit-fresh}
use Rattle.mapworld_transitions.proofs.Keys.{setup-laws}
use Rattle.mapworld.specs.Progress.Drains.{Drains, DrainsBy}
use Rattle.mapworld.specs.Progress.Left.{left}
use Rattle.mapworld.proofs.ProgressFacts.Bounding.{steps_are_few}
use Rattle.mapworld.proofs.ProgressFacts.Draining.{setup-fixed}
use Rattle.mapworld.proofs.ProgressFacts.Ending.{steps_fall}
use Rattle.mapworld.proofs.ProgressFacts.Moving.{somebody_moves}
use Rattle.mapworld.proofs.ProgressFacts.Resting.{ends_at_rest}
use Rattle.mapworld.specs.Beginning.{AreFilled}
use Rattle.mapworld.specs.Making.{IsNew, new_refusal}
use Rattle.mapworld.specs.Stops.{AllStopsFit}
use Rattle.mapworld.specs.Reachable.{IsInitial, IsReachable, LeadsTo}
use Rattle.mapworld.specs.ReachableLaws as laws
use Rattle.mapworld.proofs.Beginnings.{are_idle, are_locks, new-sound}
use Rattle.mapworld.proofs.Footprints.{step_atomic}
use Rattle.mapworld.proofs.Growths.{of_new_key}
use Rattle.mapworld.proofs.Guarding.{guards_are_owners}
use Rattle.mapworld.proofs.Histories.{AddsTo, fixed-history, history-more, history-none}
use Rattle.mapworld.proofs.Keeping.{IsKept, kept-sized, kept-step, kept-whole}
use Rattle.mapworld.proofs.Outcomes.{hold_by_phase, world-agrees}
use Rattle.mapworld.proofs.Overs.{stopped}
use Rattle.mapworld.proofs.OwnSteps.{own-may}
use Rattle.mapworld.proofs.Refusals.{accepted}

-- ALONG A SCHEDULE

module _ {K V S D T A : Type 0} (x : Setup K V D T) where
  pub leads-on : (u : State K V S D T A) (ss : List Step) (v : State K V S D T A) (ts : List Step)
      (w : State K V S D T A) → LeadsTo x u ss v → LeadsTo x v ts w → LeadsTo x u (ss ++ ts) w
  leads-on u [] v ts w same more = subst (λ z. LeadsTo x z ts w) same more
  leads-on u (s ∷ ss) v ts w (mid, moves, step, rest) more = (mid, moves, step, leads-on mid ss v ts w rest more)

  pub leads-step : (w : State K V S D T A) (s : Step) (w' : State K V S D T A) → may_step w s ≡ true
      → IsStep x w s w' → LeadsTo x w (s ∷ []) w'
  leads-step w s w' moves step = (w', moves, step, refl)

  drains-lead : (w : State K V S D T A) (ss : List Step) (w' : State K V S D T A) → Drains x w ss w' → LeadsTo x w ss w'
  drains-lead w [] w' same = same
  drains-lead w (s ∷ ss) w' (mid, makes, rest) = (
    mid,
    own-may w s makes.own ∙ makes.moves,
    makes.kind,
    drains-lead mid ss w' rest,
  )

  module _ (cases : StepsAreCases) (agree : Always OwnersAgree) (lawful : Laws x) where
    pub kept-along : (w : State K V S D T A) (ss : List Step) (w' : State K V S D T A) → IsKept x w
        → LeadsTo x w ss w' → IsKept x w'
    kept-along w [] w' kept same = subst (IsKept x) (sym same) kept
    kept-along w (s ∷ ss) w' kept (mid, moves, step, rest) = kept-along mid ss w'
        (kept-step cases agree x lawful w s mid kept step) rest

    fixed-along : (w : State K V S D T A) (ss : List Step) (w' : State K V S D T A) → IsKept x w → LeadsTo x w ss w'
        → StaysFixed w w'
    fixed-along w [] w' kept same =
        let fixed : StaysFixed w w = record { hasher = refl; shards = refl; opening = refl; programs = refl } in
        subst (λ z. StaysFixed w z) (sym same) fixed
    fixed-along w (s ∷ ss) w' kept (mid, moves, step, rest) =
        fixed-more w mid w' (step-adds x w s mid kept.sound step).fixed
        (fixed-along mid ss w' (kept-step cases agree x lawful w s mid kept step) rest)

    adds-from : (v w : State K V S D T A) (ss : List Step) (w' : State K V S D T A) → IsKept x w → AddsTo v w
        → LeadsTo x w ss w' → AddsTo v w'
    adds-from v w [] w' kept so same = subst (λ z. AddsTo v z) (sym same) so
    adds-from v w (s ∷ ss) w' kept so (mid, moves, step, rest) =
        adds-from v mid ss w' (kept-step cases agree x lawful w s mid kept step)
        (history-more v w mid s so (step-adds x w s mid kept.sound step)) rest

    adds-along : (w : State K V S D T A) (ss : List Step) (w' : State K V S D T A) → IsKept x w → LeadsTo x w ss w'
        → AddsTo w w'
    adds-along w ss w' kept leads = adds-from w w ss w' kept (history-none w) leads

    -- the steps of one thread, none of them a deadline, are paid for by those that are left
    lone-along : (t : ℕ) (w : State K V S D T A) (ss : List Step) (w' : State K V S D T A) → IsKept x w
        → All (λ s. (s.thread ≡ t) × (s.deadline ≡ false)) ss → LeadsTo x w ss w' → length ss ≤ left x w t
    lone-along t w [] w' kept own same = omega arith
    lone-along t w (s ∷ ss) w' kept own (mid, moves, step, rest) =
        let one = All-head (λ (z : Step). (z.thread ≡ t) × (z.deadline ≡ false)) s ss own in
        let more = lone-along t mid ss w' (kept-step cases agree x lawful w s mid kept step)
        (All-tail (λ (z : Step). (z.thread ≡ t) × (z.deadline ≡ false)) s ss own) rest in
        omega (
          arith,
          more,
          steps_fall x lawful w s mid (kept-whole x w kept) one.1 step,
          ap (left x mid) one.0,
          ap (left x w) one.0,
        )

-- REACHABLE WORLDS

module _ {K V S H D T A : Type 0} (d : deed.Ghosts D K V T) (b : builder.Ghosts S H) (h : hasher.Ghosts H)
    (eq : K → K → Bool) (writes : K → HashWrites) (lawful : IsEquivalence eq)
    (respects : (j k : K) → IsTrue (eq j k) → writes j ≡ writes k) where
  abbrev own : State K V S D T A → Setup K V D T
  own w = setup_of d b h eq writes w

  pub own-laws : (w : State K V S D T A) → Laws (own w)
  own-laws w = setup-laws d b h eq writes w lawful respects

  initial-kept : (w : State K V S D T A) → IsInitial (own w) w → IsKept (own w) w
  initial-kept w initial =
      let new = initial.new in
      let a = accepted (length w.tables) (length w.opening) w.programs initial.accepted in
      let start = new.places in
      let count : length w.places ≡ length w.programs = sym (length-map w.places (λ p. p.asks))
      ∙ ap (λ ps. length ps) start.programs_are in
      record {
        sound = new-sound d b h eq writes w (record {
          steps = new.steps;
          locks = are_idle _ _ w.locks new.locks;
          blocks = new.blocks;
          replies = new.replies;
        }) a.amount a.guarded initial.stops start initial.filled;
        locks = fit-fresh (length w.programs) (length w.tables) w.locks (omega (arith, a.threads))
            (omega (arith, a.amount.2)) new.locks;
        programs = refl;
        places = count;
        sizes = subst (λ n. AreLocksOf n (length w.tables) w.locks) (sym count)
            (are_locks (length w.programs) (length w.tables) w.locks new.locks);
        causes = causes-new (own w) w (λ u p at. (
          ap (λ z. z.phase) (start.each u p at),
          ap (λ z. z.holds)
              (start.each u p at),
        )) new.locks.free new.replies;
      }

  -- what a world is made with is its own
  own-new : (w : State K V S D T A) (n : ℕ) (s : S) (pairs : List (K × V)) (programs : List (List (Ask K V D)))
      → IsNew eq n s pairs programs w → IsNew eq (length w.tables) w.hasher w.opening w.programs w
  own-new w n s pairs programs new =
      subst (λ cs. IsNew eq (length w.tables) w.hasher w.opening cs w) (sym new.programs_are)
      (subst (λ ps. IsNew eq (length w.tables) w.hasher ps programs w) (sym new.opening)
      (subst (λ z. IsNew eq (length w.tables) z pairs programs w) (sym new.hasher_is)
      (subst (λ m. IsNew eq m s pairs programs w) (sym new.shards_are) new)))

  -- a new world is reachable
  pub new-reachable : (w : State K V S D T A) (n : ℕ) (s : S) (pairs : List (K × V))
      (programs : List (List (Ask K V D))) → IsNew eq n s pairs programs w
      → new_refusal n (length pairs) programs ≡ None → AllStopsFit w.programs
      → AreFilled eq (key_route b h writes w.hasher (length w.tables)) w.opening w.tables
      → IsReachable d b h eq writes w
  new-reachable w n s pairs programs new allowed stops filled = record {
    first = w;
    schedule = [];
    initial = record {
      accepted =
          ap (λ m. new_refusal m (length w.opening) w.programs) new.shards_are
          ∙ ap (λ ps. new_refusal n (length ps) w.programs) new.opening
          ∙ ap (λ cs. new_refusal n (length pairs) cs) new.programs_are
          ∙ allowed;
      stops = stops;
      new = own-new w n s pairs programs new;
      filled = filled;
    };
    leads = refl;
  }

  module _ (cases : StepsAreCases) (agree : Always OwnersAgree) where
    first-kept : (w : State K V S D T A) (r : IsReachable d b h eq writes w) → IsKept (own r.first) w
    first-kept w r = kept-along (own r.first) cases agree (own-laws r.first) r.first r.schedule w
        (initial-kept r.first r.initial) r.leads

    same-setup : (w : State K V S D T A) (r : IsReachable d b h eq writes w) → own w ≡ own r.first
    same-setup w r = setup-fixed d b h eq writes r.first w
        (fixed-along (own r.first) cases agree (own-laws r.first) r.first r.schedule w
        (initial-kept r.first r.initial) r.leads)

    pub reachable-kept : (w : State K V S D T A) → IsReachable d b h eq writes w → IsKept (own w) w
    reachable-kept w r = subst (λ y. IsKept y w) (sym (same-setup w r)) (first-kept w r)

    pub reachable-on : (w : State K V S D T A) (ss : List Step) (w' : State K V S D T A)
        → IsReachable d b h eq writes w → LeadsTo (own w) w ss w' → IsReachable d b h eq writes w'
    reachable-on w ss w' r leads = record {
      first = r.first;
      schedule = r.schedule ++ ss;
      initial = r.initial;
      leads = leads-on (own r.first) r.first r.schedule w ss w' r.leads
          (subst (λ y. LeadsTo y w ss w') (same-setup w r) leads);
    }

    pub reachable-step : (w : State K V S D T A) (s : Step) (w' : State K V S D T A) → IsReachable d b h eq writes w
        → may_step w s ≡ true → IsStep (own w) w s w' → IsReachable d b h eq writes w'
    reachable-step w s w' r moves step = reachable-on w (s ∷ []) w' r (leads-step (own w) w s w' moves step)

    pub reachable-drained : (w : State K V S D T A) (n : ℕ) (w' : State K V S D T A) → IsReachable d b h eq writes w
        → DrainsBy (own w) w n w' → IsReachable d b h eq writes w'
    reachable-drained w n w' r by = reachable-on w by.steps w' r (drains-lead (own w) w by.steps w' by.made)

    pub reachable-fixed : (w : State K V S D T A) (ss : List Step) (w' : State K V S D T A)
        → IsReachable d b h eq writes w → LeadsTo (own w) w ss w' → StaysFixed w w'
    reachable-fixed w ss w' r leads = fixed-along (own w) cases agree (own-laws w) w ss w' (reachable-kept w r) leads

    pub same-setup-step : (w : State K V S D T A) (s : Step) (w' : State K V S D T A) → IsReachable d b h eq writes w
        → IsStep (own w) w s w' → own w' ≡ own w
    same-setup-step w s w' r step = setup-fixed d b h eq writes w w'
        (step-adds (own w) w s w' (reachable-kept w r).sound step).fixed

    pub stay_reachable : laws.SchedulesStayReachable A d b h eq writes
    stay_reachable w ss w' r leads =
        let kept = reachable-kept w r in (
          reachable-on w ss w' r leads,
          fixed-history w w' (reachable-fixed w ss w' r leads),
          adds-along (own w) cases
              agree (own-laws w) w ss w' kept leads,
        )

    pub linearized : DesksCountAsWords → laws.ReachableWorldsAreLinearized A d b h eq writes
    linearized count w r =
        let k = reachable-kept w r in
        record {
          agrees = world-agrees d b h eq writes w lawful respects k.sound;
          placed = k.sound.placed;
          causes = k.causes.locked;
          late = k.causes.missed;
          used = words-have_calls (own w) w k.sound k.locks (sym k.sizes.threads_are) k.causes;
          waits = sleepers-have_company (own w) w k.sound k.locks (sym k.sizes.threads_are) k.causes;
          guards = guards_are_owners count w.locks k.locks;
          held = k.sound.holds;
          by_phase = hold_by_phase (own w) w k.sound;
          fit = k.locks;
        }

    pub routed : laws.ReachableWorldsAreRouted A d b h eq writes
    routed w r = let k = reachable-kept w r in record
        { pairs = k.sound.tables.routed; within = k.sound.routes; lawful = own-laws w }

    pub somebody : Always SomebodyAtALock → laws.SomebodyCanMove A d b h eq writes
    somebody moves w r some = somebody_moves moves (own w) w (kept-whole (own w) w (reachable-kept w r)) some

    pub at_rest : Always SomebodyAtALock → laws.StoppedWorldsAreAtRest A d b h eq writes
    at_rest moves w r stops = ends_at_rest moves (own w) w (kept-whole (own w) w (reachable-kept w r)) stops

    pub finished_rest : Always SomebodyAtALock → laws.FinishedWorldsAreAtRest A d b h eq writes
    finished_rest moves w r over = at_rest moves w r (stopped w over.finished)

    pub lone : Always StepsAreFew → laws.LoneThreadsStop A d b h eq writes
    lone few w t ss w' r alone leads =
        let k = reachable-kept w r in
        let f = steps_are_few few (own w) w (kept-sized (own w) w k) k.locks in
        omega (arith, lone-along (own w) cases agree (own-laws w) t w ss w' k alone leads, f.most t, f.bounded)

    pub atomic : StepsTouchOneLock → laws.ReachableStepsAreAtomic A d b h eq writes
    atomic touch w s w' r step = let k = reachable-kept w r in step_atomic (own w) (own-laws w) w s w' k.sound touch
        k.locks step

    pub growths : laws.GrowthsAreForNewKeys A d b h eq writes
    growths w s w' r =
        let sound = (reachable-kept w r).sound in (
          λ a. of_new_key (own w) (own-laws w) w s.thread sound a.place a.call a.table a.stands a.before a.held
              a.absent,
          λ a. of_new_key (own w) (own-laws w) w s.thread sound a.place a.call a.table a.stands a.before a.held
              a.absent,
        )
