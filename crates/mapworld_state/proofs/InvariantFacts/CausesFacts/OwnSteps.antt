-- What a step leaves of its thread and of the others, whichever kind it is of.
use Rattle.std.proofs.Common.{◌≡◌, ◌≢◌, ℕ, ◌+◌, ◌⊎◌, inl, inr, Bool, true, false, ◌&&◌, ◌==◌, not, if◌then◌else◌}
use Rattle.std.proofs.Common.{MatchBool, List, [], length, Some, None, slice_get, refl, sym, ap, ◌∙◌, subst}
use Rattle.std.proofs.lemmas.Option.{none-some, same_Some}
use Rattle.std.proofs.lemmas.Bool.{false≢true}
use Rattle.parking_lot_machine_calls.specs.declared.calls.LockCall.{LockCall}
use Rattle.parking_lot_machine.specs.Rows.{call_at, state}
use Rattle.mapworld_calls.specs.declared.ask.Ask.{Ask}
use Rattle.mapworld_calls.specs.declared.ask.Ask.TheVariants as ask
use Rattle.mapworld_calls.specs.declared.ask.Walk.{Walk}
use Rattle.mapworld_calls.specs.Programs.{stop_of}
use Rattle.mapworld_calls.specs.Setup.{Setup}
use Rattle.mapworld_calls.proofs.Lists.{slice_get-set_same, slice_get-set_other}
use Rattle.mapworld_state.specs.Locks.Fits.{LocksFit}
use Rattle.mapworld_state.specs.Locks.Stands.{Stand, is_try, stand_in}
use Rattle.mapworld_state.specs.Locks.Steps.{LockBegins}
use Rattle.mapworld_state.specs.Locks.Views.{Shown}
use Rattle.mapworld_state.specs.declared.holds.Hold.{Hold}
use Rattle.mapworld_state.specs.declared.holds.Mode.{Mode}
use Rattle.mapworld_state.specs.declared.holds.Mode.TheVariants.{Shared, Exclusive}
use Rattle.mapworld_state.specs.declared.place.Phase.{Phase}
use Rattle.mapworld_state.specs.declared.place.Phase.TheVariants as phase
use Rattle.mapworld_state.specs.declared.place.Request.{Request}
use Rattle.mapworld_state.specs.declared.place.Request.TheVariants as request
use Rattle.mapworld_state.specs.declared.step.Step.{Step}
use Rattle.mapworld_state.specs.Holds.{asks_for, gives_up}
use Rattle.mapworld_state.specs.Moves.{is_last, start_guard, start_phase, start_shard, stops_at}
use Rattle.mapworld_state.specs.Places.{Place}
use Rattle.mapworld_state.specs.Sound.{HoldsShard, HoldsWhileBetween, KeepsOver, Sound}
use Rattle.mapworld_state.specs.State.{State, next_step, threads_of}
use Rattle.mapworld_state.specs.Steps.{Answers, Concludes, EntersBy, Leaves as LeavesLock, StartsVisit, Starts}
use Rattle.mapworld_state.specs.Steps.{Expires, MovesLock}
use Rattle.mapworld_state.specs.Walks.{hands_over, walk_mode}
use Rattle.mapworld_state.proofs.HoldsTable.{none-there}
use Rattle.mapworld_state.proofs.InvariantFacts.Adding.{Step-adds}
use Rattle.mapworld_state.proofs.InvariantFacts.Building.{Goes, claim-at}
use Rattle.mapworld_state.proofs.InvariantFacts.Holding.{stand-at}
use Rattle.mapworld_state.specs.Invariant.Causes.Causes.{HasCauses, HasMet, IsSite, IsSited}
use Rattle.mapworld_state.proofs.InvariantFacts.CausesFacts.Being.{one-hold, reaches-on, rests-on, waits-on}
use Rattle.mapworld_state.proofs.InvariantFacts.CausesFacts.Between.{Between, between-at, between-concludes}
use Rattle.mapworld_state.proofs.InvariantFacts.CausesFacts.Between.{between-leaves, between-same}
use Rattle.mapworld_state.proofs.InvariantFacts.CausesFacts.Going.{Own, kept-site, met-on, own-by, still-on}
use Rattle.mapworld_state.proofs.InvariantFacts.CausesFacts.Locking.{LocksApart, apart-begins, apart-moves, apart-same}
use Rattle.mapworld_state.proofs.InvariantFacts.CausesFacts.Locking.{apart-expires, begins-blind, expires-blind}
use Rattle.mapworld_state.proofs.InvariantFacts.CausesFacts.Looking.{sees}
use Rattle.mapworld_state.proofs.InvariantFacts.CausesFacts.Meeting.{meets}
use Rattle.mapworld_state.proofs.InvariantFacts.CausesFacts.Shapes.{Shape}
use Rattle.mapworld_state.proofs.InvariantFacts.CausesFacts.Telling.{told-start}
use Rattle.std.proofs.Common.{Option}
use Rattle.std.specs.Option.{option_map}
use Rattle.mapworld_state.specs.Locks.Stands.{stand_of}
use Rattle.parking_lot_machine_calls.specs.declared.open_call.Call.{Call}
use Rattle.mapworld_state.specs.Held.{StandsBefore}
use Rattle.parking_lot_machine_calls.specs.Calls.{is_timed}
use Rattle.mapworld_state.specs.Invariant.Causes.Causes.{FailsLate, HasExpired}
use Rattle.mapworld_state.specs.State.{deadline_of, deadlines_of}
use Rattle.mapworld_state.proofs.InvariantFacts.CausesFacts.Locking.{begins-timely, fails, own-fails}
use Rattle.mapworld_state.proofs.InvariantFacts.CausesFacts.Going.{deadlines-push, expired-on, out-of-call}
use Rattle.mapworld_state.proofs.InvariantFacts.CausesFacts.Between.{timed-admits}
use Rattle.mapworld_state.proofs.InvariantFacts.CausesFacts.Being.{step-low}
use Rattle.mapworld_calls.proofs.Lists.{slice_get-push_at}
use Rattle.std.proofs.Common.{◌∷◌, ◌-◌, arith, length-append}
use Rattle.std.proofs.lemmas.List.{length-map}

-- a start that enters no lock leaves all locks as they are
data Entered {K V D T A : Type 0} (t shard : ℕ) (f : Phase K V D T A) (old new : Shown) : Type 0 where
  nothing : new ≡ old → Entered t shard f old new
  waits : (r : Request K V D) (c : LockCall) → f ≡ phase.Admit r → LockBegins t shard c old new
      → Entered t shard f old new
  reaches : (g : Walk D) (c : LockCall) → f ≡ phase.Reach g → LockBegins t shard c old new → Entered t shard f old new

entered : {K V D T A : Type 0} (t shard : ℕ) (f : Phase K V D T A) (old new : Shown) → EntersBy t shard f old new
    → Entered t shard f old new
entered t shard phase.Rest old new h = nothing h
entered t shard (phase.Admit r) old new h = waits r _ refl h
entered t shard (phase.Reach f) old new h = reaches f _ refl h
entered t shard (phase.Idle f) old new h = nothing h
entered t shard (phase.Part f) old new h = nothing h
entered t shard (phase.Visit f) old new h = nothing h
entered t shard (phase.Seek f) old new h = nothing h
entered t shard (phase.Item f) old new h = nothing h
entered t shard (phase.Give f) old new h = nothing h
entered t shard (phase.Onward f) old new h = nothing h
entered t shard (phase.Find r) old new h = nothing h
entered t shard (phase.Grow c) old new h = nothing h
entered t shard (phase.Append k v) old new h = nothing h
entered t shard (phase.Apply k) old new h = nothing h
entered t shard (phase.View k d) old new h = nothing h
entered t shard (phase.Read d) old new h = nothing h
entered t shard (phase.Change c) old new h = nothing h
entered t shard (phase.Fill v) old new h = nothing h
entered t shard phase.Downgrade old new h = nothing h
entered t shard (phase.Release a) old new h = nothing h
entered t shard (phase.Answer a) old new h = nothing h

-- a call that gives a hold up has no deadline
pub gives-no_deadline : (m : Mode) → is_timed (gives_up m) ≡ false
gives-no_deadline Shared = refl
gives-no_deadline Exclusive = refl

-- and is no try
pub gives-no_try : (m : Mode) → is_try (gives_up m) ≡ false
gives-no_try Shared = refl
gives-no_try Exclusive = refl

module _ {K V S D T A : Type 0} (x : Setup K V D T) (w : State K V S D T A) (s : Step) (w' : State K V S D T A)
    (sound : Sound x w) (goes : Goes x s.thread w w') (shape : Shape w w' s) (adds : Step-adds w w' s)
    (causes : HasCauses x w) where
  abbrev t : ℕ
  t = s.thread

  -- a thread that is in no call sees nothing
  pub blind-out : (locks : Shown) → stand_in locks t ≡ None → sees (call_at (state locks.rows) t) ≡ true → ⊥
  blind-out locks out = by (call_at (state locks.rows) t) out
    where
      by : (o : Option Call) → option_map stand_of o ≡ None → sees o ≡ true → ⊥
      by None e seen = false≢true seen
      by (Some c) e seen = none-some (stand_of c) (sym e)

  -- one before a phase in which it is in none
  pub out-at : (v : State K V S D T A) → Sound x v → (p : Place K V D T A) → slice_get v.places t ≡ Some p
      → (f : Phase K V D T A) → p.phase ≡ f → ((o : Option Stand) → StandsBefore p f o → o ≡ None)
      → stand_in v.locks t ≡ None
  out-at v there p at f is out =
      out (stand_in v.locks t) (subst (λ (g : Phase K V D T A). StandsBefore p g (stand_in v.locks t)) is
      (there.holds.stands t p at))

  -- so has one before a phase in which it is in none
  pub blind-at : (v : State K V S D T A) → Sound x v → (p : Place K V D T A) → slice_get v.places t ≡ Some p
      → (f : Phase K V D T A) → p.phase ≡ f → ((o : Option Stand) → StandsBefore p f o → o ≡ None)
      → sees (call_at (state v.locks.rows) t) ≡ true → ⊥
  blind-at v there p at f is out = blind-out v.locks
      (out (stand_in v.locks t) (subst (λ (g : Phase K V D T A). StandsBefore p g (stand_in v.locks t)) is
      (there.holds.stands t p at)))

  -- STARTS

  no-hold : (holds : List Hold) (i : ℕ) (h : Hold) → holds ≡ [] → slice_get holds i ≡ Some h → ⊥
  no-hold holds i h none at = none-there holds i h none at

  begun-holds : (a : Ask K V D) (p now : Place K V D T A) → slice_get w.places t ≡ Some p
      → slice_get w'.places t ≡ Some now → w'.replies ≡ w.replies → now.shard ≡ start_shard x.route a p.shard
      → now.holds ≡ p.holds
      → now.phase ≡ start_phase {T = T} {A = A} a p.guard → (i : ℕ) (h : Hold) → slice_get now.holds i ≡ Some h
      → IsSited x w' t now h.shard
  begun-holds (ask.Keyed k) p now at there same shard holds is i h here =
      absurd (no-hold now.holds i h
      (claim-at x (threads_of w') w'.blocks w'.replies w'.tables t now (phase.Admit (request.Keyed k)) is
      (goes.sound.stands t now there)).2 here)
  begun-holds (ask.Begin b) p now at there same shard holds is i h here =
      absurd (no-hold now.holds i h
      (claim-at x (threads_of w') w'.blocks w'.replies w'.tables t now (phase.Admit (request.Begin b)) is
      (goes.sound.stands t now there)).2 here)
  begun-holds (ask.Held k) p now at there same shard holds is i h here =
      kept-site x w s w' sound goes shape adds causes p now at same shard h.shard
      (inl (i, h, ap (λ z. slice_get z i) (sym holds) ∙ here, refl))
  begun-holds (ask.Walk f) p now at there same shard holds is i h here = by (stops_at (stop_of f) 0) is
    where
      keeps-none : (b : Bool) (n : ℕ) → n ≡ 0 → KeepsOver now (walk_mode f) (if b && not (n == 0) then 1 else 0)
          → now.holds ≡ []
      keeps-none true n e k = subst (λ (z : ℕ). KeepsOver now (walk_mode f) (if true && not (z == 0) then 1 else 0)) e k
      keeps-none false n e k = k

      by : (b : Bool) → now.phase ≡ (if b then phase.Idle f else phase.Reach f) → IsSited x w' t now h.shard
      by true idle = absurd
          (no-hold now.holds i h
          (claim-at x (threads_of w') w'.blocks w'.replies w'.tables t now (phase.Idle f) idle
          (goes.sound.stands t now there)).2 here)
      by false reach =
          let c = claim-at x (threads_of w') w'.blocks w'.replies w'.tables t now (phase.Reach f) reach
          (goes.sound.stands t now there) in
          absurd (no-hold now.holds i h (keeps-none (hands_over f) now.shard shard c.2) here)

  module _ (a : Starts x w s w') where
    abbrev f : Phase K V D T A
    f = start_phase {T = T} {A = A} a.ask a.place.guard

    abbrev now : Place K V D T A
    now = record (a.place) {
      asks = a.rest;
      started = Some (next_step w);
      closes = is_last a.ask;
      shard = start_shard x.route a.ask a.place.shard;
      guard = start_guard a.ask a.place.guard;
      phase = f;
    }

    there : slice_get w'.places t ≡ Some now
    there = ap (λ z. slice_get z.places t) a.after ∙ slice_get-set_same w.places t a.place now a.stands

    e : Entered t now.shard f w.locks a.locks
    e = entered t now.shard f w.locks a.locks a.enters

    apart : LocksApart t w.locks a.locks
    apart = elim e [
      | nothing same ↦ subst (LocksApart t w.locks) (sym same) (apart-same t w.locks)
      | waits r c is begins ↦ apart-begins t now.shard c w.locks a.locks begins
      | reaches g c is begins ↦ apart-begins t now.shard c w.locks a.locks begins
    ]

    none-stands : stand_in w.locks t ≡ None
    none-stands = stand-at w.places w.locks sound.holds t a.place a.stands phase.Rest a.before

    begun-stand : (c : LockCall) → LockBegins t now.shard c w.locks a.locks → (stand : Stand)
        → stand_in a.locks t ≡ Some stand → now.shard ≡ stand.shard
    begun-stand c begins stand is = ap (λ z. z.shard) (same_Some _ stand (sym begins.stand ∙ is))

    stand-sited : (stand : Stand) → stand_in a.locks t ≡ Some stand → IsSited x w' t now stand.shard
    stand-sited stand is = elim e [
      | nothing same ↦ absurd (none-some stand (sym none-stands ∙ sym (ap (λ z. stand_in z t) same) ∙ is))
      | waits r c at begins ↦ subst (IsSited x w' t now) (begun-stand c begins stand is)
          (record { on = waits-on x w' goes.sound t now there r at; near = inl refl })
      | reaches g c at begins ↦ subst (IsSited x w' t now) (begun-stand c begins stand is)
          (record { on = reaches-on x w' goes.sound t now there g at; near = inl refl })
    ]

    sites : (shard : ℕ) → IsSite a.locks t now.holds shard → IsSited x w' t now shard
    sites shard (inl (i, h, here, is)) =
        subst (IsSited x w' t now) is
        (begun-holds a.ask a.place now a.stands there (ap (λ z. z.replies) a.after) refl refl refl i h here)
    sites shard (inr (stand, is, at)) = subst (IsSited x w' t now) at (stand-sited stand is)

    blind : sees (call_at (state a.locks.rows) t) ≡ true → ⊥
    blind seen = elim e [
      | nothing same ↦ blind-at w sound a.place a.stands phase.Rest a.before (λ o h. h)
          (sym (ap (λ (z : Shown). sees (call_at (state z.rows) t)) same) ∙ seen)
      | waits r c at begins ↦ false≢true (sym (begins-blind t now.shard c w.locks a.locks begins) ∙ seen)
      | reaches g c at begins ↦ false≢true (sym (begins-blind t now.shard c w.locks a.locks begins) ∙ seen)
    ]

    timely : FailsLate x w' a.locks t now
    timely c at timed f = elim e [
      | nothing same ↦ absurd (out-of-call w.locks t none-stands c
          (sym (ap (λ (z : Shown). call_at (state z.rows) t) same) ∙ at))
      | waits r k is begins ↦ absurd (begins-timely t now.shard k w.locks a.locks begins c at timed f)
      | reaches g k is begins ↦ absurd (begins-timely t now.shard k w.locks a.locks begins c at timed f)
    ]

    pub own-starts : Own x w s w'
    own-starts =
        own-by x w s w' sound goes shape adds causes w a.place a.place (between-same x w t sound a.place a.stands) now
        w.tables a.locks a.blocks a.after apart sites (λ seen. absurd (blind seen)) timely
        (told-start T A a.ask a.place.guard)

  -- ON THE WAY

  pub own-moves : LocksFit w.locks → length w.places ≡ length w.locks.rows.calls → MovesLock x w s w' → Own x w s w'
  own-moves fit threads a =
      own-by x w s w' sound goes shape adds causes w a.place a.place (between-same x w t sound a.place a.stands) a.place
      w.tables a.locks w.blocks a.after (apart-moves t s.fair w.locks a.locks a.moves) sites met late
      (causes.untold t a.place a.stands)
    where
      late : FailsLate x w' a.locks t a.place
      late c at timed f =
          let d = a.moves.steps.call in
          let same : stand_of d ≡ stand_of c = same_Some (stand_of d) (stand_of c)
          (sym (ap (option_map stand_of) a.moves.steps.here) ∙ a.moves.stood ∙ sym a.moves.stands
          ∙ ap (option_map stand_of) at) in
          expired-on x w s w' shape t a.place
          (causes.late t a.place a.stands d a.moves.steps.here (ap (λ (z : Stand). z.timed) same ∙ timed)
          (sym (ap fails a.moves.steps.here)
          ∙ own-fails t s.fair w.locks a.locks fit a.moves (ap fails at ∙ f)))

      sites : (shard : ℕ) → IsSite a.locks t a.place.holds shard → IsSited x w' t a.place shard
      sites shard (inl hold) = kept-site x w s w' sound goes shape adds causes a.place a.place a.stands
          (ap (λ z. z.replies) a.after) refl shard (inl hold)
      sites shard (inr (stand, is, at)) =
          kept-site x w s w' sound goes shape adds causes a.place a.place a.stands (ap (λ z. z.replies) a.after) refl
          shard
          (inr (a.moves.stand, a.moves.stood, ap (λ z. z.shard) (same_Some _ stand (sym a.moves.stands ∙ is)) ∙ at))

      met : sees (call_at (state a.locks.rows) t) ≡ true → HasMet x w' t a.place
      met seen = met-on x w s w' sound goes shape adds t a.place
          (meets x w sound fit threads causes t a.place a.stands s.fair a.locks a.moves seen)

  -- its deadline comes
  pub own-expires : LocksFit w.locks → s.deadline ≡ true → Expires x w s w' → Own x w s w'
  own-expires fit comes a =
      own-by x w s w' sound goes shape adds causes w a.place a.place (between-same x w t sound a.place a.stands) a.place
      w.tables a.locks w.blocks a.after (apart-expires t w.locks a.locks a.expires) sites
      (λ seen. absurd (expires-blind t w.locks a.locks a.expires seen)) (λ c at timed f. now)
      (causes.untold t a.place a.stands)
    where
      waits : (r : Request K V D) × (a.place.phase ≡ phase.Admit r)
      waits = timed-admits x w sound fit t a.place a.stands a.expires.call a.expires.here
          (ap (λ (z : Stand). z.timed) (same_Some (stand_of a.expires.call) a.expires.stand
          (sym (ap (option_map stand_of) a.expires.here) ∙ a.expires.stood)) ∙ a.expires.timed)

      -- it has come in this step
      now : HasExpired x w' t a.place
      now =
          let c = claim-at x (threads_of w) w.blocks w.replies w.tables t a.place (phase.Admit waits.0) waits.1
          (sound.stands t a.place a.stands) in
          let low = step-low x w sound t c.0.start c.0.begun in
          let count : length (deadlines_of w) ≡ length w.steps = length-map w.steps deadline_of in
          let here : length (deadlines_of w) ≡ next_step w - 1 = omega (arith, count) in
          record {
            start = c.0.start;
            started = c.0.started;
            step = next_step w;
            from = low;
            until = omega (arith, ap (λ z. length z) shape.steps, length-append w.steps (s ∷ []));
            is = (
              omega arith,
              ap (λ n. slice_get (deadlines_of w') n) (sym here)
                  ∙ ap (λ ds. slice_get ds (length (deadlines_of w))) (deadlines-push w s w' shape)
                  ∙ slice_get-push_at (deadlines_of w) (deadline_of s)
                  ∙ ap (λ (b : Bool). Some (if b then Some t else None)) comes,
            );
          }

      sites : (shard : ℕ) → IsSite a.locks t a.place.holds shard → IsSited x w' t a.place shard
      sites shard (inl hold) = kept-site x w s w' sound goes shape adds causes a.place a.place a.stands
          (ap (λ z. z.replies) a.after) refl shard (inl hold)
      sites shard (inr (stand, is, at)) =
          kept-site x w s w' sound goes shape adds causes a.place a.place a.stands (ap (λ z. z.replies) a.after) refl
          shard (inr (stand, sym (a.expires.stands t) ∙ is, at))

  -- a walk asks for its next shard
  pub own-goes_on : (v : State K V S D T A) → (v ≡ w) ⊎ LeavesLock w t v → StartsVisit x v s w' → Own x w s w'
  own-goes_on v h a =
      own-by x w s w' sound goes shape adds causes v e.0 a.place e.1 now v.tables a.locks v.blocks a.after
      (apart-begins t (a.place.shard + 1) (asks_for (walk_mode a.walk)) v.locks a.locks a.begins) sites
      (λ seen. absurd (false≢true
      (sym (begins-blind t (a.place.shard + 1) (asks_for (walk_mode a.walk)) v.locks a.locks a.begins) ∙ seen)))
      (λ c at timed f. absurd (begins-timely t (a.place.shard + 1) (asks_for (walk_mode a.walk)) v.locks a.locks
      a.begins c at timed f)) tt
    where
      e : (p : Place K V D T A) × Between x t w v p a.place
      e = elim h [
        | inl same ↦ (
          a.place,
          subst (λ (z : State K V S D T A). Between x t w z a.place a.place) (sym same)
              (between-same x w t sound a.place (sym (ap (λ z. slice_get z.places t) same) ∙ a.stands)),
        )
        | inr left ↦ (
          left.place,
          between-at x t w v left.place left.place a.place a.stands
              (between-leaves x w t sound v left),
        )
      ]

      now : Place K V D T A
      now = record (a.place) { shard = a.place.shard + 1; phase = phase.Reach a.walk }

      there : slice_get w'.places t ≡ Some now
      there = ap (λ z. slice_get z.places t) a.after ∙ slice_get-set_same v.places t a.place now a.stands

      replies : w'.replies ≡ w.replies
      replies = ap (λ z. z.replies) a.after ∙ e.1.replies

      over : (b : Bool) → MatchBool b (HoldsShard a.place (walk_mode a.walk)) (a.place.holds ≡ []) → (i : ℕ) (h : Hold)
          → slice_get a.place.holds i ≡ Some h → h.shard ≡ a.place.shard
      over true holds i h here = one-hold a.place.holds i h holds.hold holds.has here ∙ holds.shard
      over false none i h here = absurd (no-hold a.place.holds i h none here)

      claim : HoldsWhileBetween a.place a.walk
      claim = (claim-at x (threads_of v) v.blocks v.replies v.tables t a.place (phase.Onward a.walk) a.before
          (e.1.sound.stands t a.place a.stands)).2

      sites : (shard : ℕ) → IsSite a.locks t a.place.holds shard → IsSited x w' t now shard
      sites shard (inl (i, h, here, is)) = record {
        on = λ q le. still-on x w s w' sound goes shape adds causes e.0 e.1.at replies shard
            (e.1.back shard (inl (i, h, here, is))) q le;
        near = inr (ap (λ n. n + 1) (sym is ∙ over (hands_over a.walk) claim i h here));
      }
      sites shard (inr (stand, is, at)) =
          subst (IsSited x w' t now) (ap (λ z. z.shard) (same_Some _ stand (sym a.begins.stand ∙ is)) ∙ at)
          (record { on = reaches-on x w' goes.sound t now there a.walk refl; near = inl refl })

  -- an answer leaves its thread between two calls, with the hold of its guard
  pub own-answers : (v : State K V S D T A) → (v ≡ w) ⊎ Concludes w t v → Answers x v s w' → Own x w s w'
  own-answers v h a = record {
    now = now;
    there = there;
    others = λ u ne. ap (λ z. slice_get z.places u) a.after ∙ slice_get-set_other v.places t u now (λ z. ne (sym z))
        ∙ others u ne;
    locks = subst (λ (z : Shown). LocksApart t w.locks z) (sym (ap (λ z. z.locks) a.after)) apart;
    sites = sites;
    met = λ seen. absurd (blind-at w' goes.sound now there phase.Rest refl (λ o h. h) seen);
    told = tt;
    late = λ c at timed f. absurd (out-of-call w'.locks t
        (stand-at w'.places w'.locks goes.sound.holds t now there phase.Rest refl) c at);
    closes = inr (v, h, a);
  }
    where
      now : Place K V D T A
      now = record (a.place) {
        next = a.place.next + 1;
        started = None;
        block = if a.place.closes then None else a.place.block;
        visits = [];
        count = 0;
        phase = phase.Rest;
      }

      there : slice_get w'.places t ≡ Some now
      there = ap (λ z. slice_get z.places t) a.after ∙ slice_get-set_same v.places t a.place now a.stands

      others : (u : ℕ) → u ≢ t → slice_get v.places u ≡ slice_get w.places u
      others u ne = elim h
          [ inl same ↦ ap (λ z. slice_get z.places u) same | inr c ↦ (between-concludes x w t sound v c).2.others u ne ]

      apart : LocksApart t w.locks v.locks
      apart = elim h [
        | inl same ↦ subst (λ (z : State K V S D T A). LocksApart t w.locks z.locks) (sym same)
            (apart-same t w.locks)
        | inr c ↦ (between-concludes x w t sound v c).2.locks
      ]

      sites : (shard : ℕ) → IsSite w'.locks t now.holds shard → IsSited x w' t now shard
      sites shard (inl (i, hold, here, is)) =
          let on = rests-on x w' goes.sound t now there refl i hold here in
          subst (IsSited x w' t now) is (record { on = on.0; near = inl on.1 })
      sites shard (inr (stand, is, at)) =
          absurd (none-some stand (sym (stand-at w'.places w'.locks goes.sound.holds t now there phase.Rest refl) ∙ is))
