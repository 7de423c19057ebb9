-- A thread is asleep where it is before an admission and waits for its shard's lock, and finished where all its calls
-- are answered.
use Rattle.std.proofs.Common.{◌≡◌, ◌↔◌, ℕ, ◌+◌, ◌-◌, ◌≤◌, inl, inr, Bool, true, false, if◌then◌else◌, List, length}
use Rattle.std.proofs.Common.{drop, Option, Some, None, slice_get, refl, ap, sym, ◌∙◌, subst, ◌==◌, arith, length-drop}
use Rattle.std.specs.Option.{option_map}
use Rattle.std.proofs.lemmas.Option.{none-some, same_Some, slice_get_within}
use Rattle.std.proofs.lemmas.Bool.{cond-true, eqb-true}
use Rattle.dashmap_table.proofs.Cases.{option_cases}
use Rattle.parking_lot_machine.specs.Machines.{is_asleep}
use Rattle.parking_lot_machine.specs.Rows.{state}
use Rattle.mapworld_state.specs.Locks.Aims.{Aim}
use Rattle.mapworld_state.specs.Locks.Counts.{QueuesAreWaiters}
use Rattle.mapworld_state.specs.Locks.Fits.{LocksFit}
use Rattle.mapworld_state.specs.Locks.Stands.{Stand, stand_in, stand_of}
use Rattle.mapworld_state.specs.Locks.Views.{Shown}
use Rattle.mapworld_state.specs.Held.{MayOwe, StandsBefore}
use Rattle.mapworld_calls.specs.declared.ask.Ask.{Ask}
use Rattle.mapworld_calls.specs.Setup.{Setup}
use Rattle.mapworld_state.specs.declared.step.Status.{Status}
use Rattle.mapworld_state.specs.declared.step.Status.TheVariants as status
use Rattle.mapworld_state.specs.declared.place.Phase.{Phase}
use Rattle.mapworld_state.specs.declared.place.Phase.TheVariants as phase
use Rattle.mapworld_state.specs.Places.{Place}
use Rattle.mapworld_state.specs.State.{State}
use Rattle.mapworld_state.specs.Classes.{Class, resting, waiting, inside, placed, leaving, answering, reaching, parting}
use Rattle.mapworld_state.specs.Classes.{looking, visiting, pausing, class_of, rests_in, status_in}
use Rattle.mapworld_state.specs.Running.{status_before, status_at, status_of}
use Rattle.mapworld_state.specs.Sound.{is_resting, Sound}
use Rattle.mapworld.specs.Asleep.{IsAsking, IsAsleep, IsFinished, IsWaiting}
use Rattle.mapworld.proofs.Outcomes.{element-at}
use Rattle.mapworld.proofs.Sleepers.{Sleeper, sleeper}

never : (b : Bool) → (if b then status.Finished else status.Running) ≡ status.Asleep → ⊥
never true h = cc
never false h = cc

may_sleep : (b : Bool) → (if b then status.Asleep else status.Running) ≡ status.Asleep → b ≡ true
may_sleep true h = refl
may_sleep false h = cc

module _ {K V D T A : Type 0} (locks : Shown) (t left : ℕ) where
  sleeps_before : (f : Phase K V D T A) → status_before locks t left f ≡ status.Asleep
      → is_asleep (state locks.rows) t ≡ true
  sleeps_before phase.Rest h = absurd (never (left == 0) h)
  sleeps_before (phase.Admit r) h = may_sleep (is_asleep (state locks.rows) t) h
  sleeps_before (phase.Idle f) h = may_sleep (is_asleep (state locks.rows) t) h
  sleeps_before (phase.Reach f) h = may_sleep (is_asleep (state locks.rows) t) h
  sleeps_before (phase.Visit f) h = may_sleep (is_asleep (state locks.rows) t) h
  sleeps_before (phase.Onward f) h = may_sleep (is_asleep (state locks.rows) t) h
  sleeps_before (phase.Answer a) h = may_sleep (is_asleep (state locks.rows) t) h
  sleeps_before (phase.Find r) h = cc
  sleeps_before (phase.Grow c) h = cc
  sleeps_before (phase.Append k v) h = cc
  sleeps_before (phase.Apply k) h = cc
  sleeps_before (phase.View k d) h = cc
  sleeps_before (phase.Read d) h = cc
  sleeps_before (phase.Change k) h = cc
  sleeps_before (phase.Fill v) h = cc
  sleeps_before phase.Downgrade h = cc
  sleeps_before (phase.Part f) h = cc
  sleeps_before (phase.Seek f) h = cc
  sleeps_before (phase.Item f) h = cc
  sleeps_before (phase.Give f) h = cc
  sleeps_before (phase.Release a) h = cc

  -- and a sleeper that is before an admission is asleep
  sleeps_there : (f : Phase K V D T A) → IsAsking f → is_asleep (state locks.rows) t ≡ true
      → status_before locks t left f ≡ status.Asleep
  sleeps_there f (inl (r, is)) h = ap (status_before locks t left) is
      ∙ cond-true (is_asleep (state locks.rows) t) status.Asleep status.Running h
  sleeps_there f (inr (g, is)) h = ap (status_before locks t left) is
      ∙ cond-true (is_asleep (state locks.rows) t) status.Asleep status.Running h

stands_there : {K V D T A : Type 0} (locks : Shown) (t : ℕ) (o : Option (Place K V D T A))
    → status_at locks t o ≡ status.Asleep
    → (p : Place K V D T A) × (o ≡ Some p) × (is_asleep (state locks.rows) t ≡ true)
stands_there locks t None h = cc
stands_there locks t (Some p) h = (p, refl, sleeps_before locks t (length p.asks) p.phase h)

module _ {K V S D T A : Type 0} (x : Setup K V D T) (w : State K V S D T A) (sound : Sound x w)
    (fit : LocksFit w.locks) (lists : QueuesAreWaiters) (t : ℕ) where
  -- how a sleeper stands at the lock
  stand : (b : Sleeper w.locks t) → stand_in w.locks t ≡ Some (stand_of b.call)
  stand b = ap (option_map stand_of) b.there

  -- one that sleeps is before an admission to its own shard: what is owed to a lock never sleeps
  asks_by : (p : Place K V D T A) (b : Sleeper w.locks t) (f : Phase K V D T A)
      → StandsBefore p f (Some (stand_of b.call)) → IsAsking f × (b.call.lock ≡ p.shard)
  asks_by p b (phase.Admit r) h = (inl (r, refl), ap (λ (st : Stand). st.shard) (same_Some (stand_of b.call) _ h.is))
  asks_by p b (phase.Reach f) h = (inr (f, refl), ap (λ (st : Stand). st.shard) (same_Some (stand_of b.call) _ h.is))
  asks_by p b (phase.Visit f) h = absurd (subst (λ (aim : Aim). MayOwe p b.call.lock aim) b.aim_is h)
  asks_by p b (phase.Onward f) h = absurd (subst (λ (aim : Aim). MayOwe p b.call.lock aim) b.aim_is h)
  asks_by p b (phase.Answer a) h = absurd (subst (λ (aim : Aim). MayOwe p b.call.lock aim) b.aim_is h)
  asks_by p b phase.Rest h = absurd (none-some (stand_of b.call) (sym h))
  asks_by p b (phase.Idle f) h = absurd (none-some (stand_of b.call) (sym h))
  asks_by p b (phase.Find r) h = absurd (none-some (stand_of b.call) (sym h))
  asks_by p b (phase.Grow c) h = absurd (none-some (stand_of b.call) (sym h))
  asks_by p b (phase.Append k v) h = absurd (none-some (stand_of b.call) (sym h))
  asks_by p b (phase.Apply k) h = absurd (none-some (stand_of b.call) (sym h))
  asks_by p b (phase.View k d) h = absurd (none-some (stand_of b.call) (sym h))
  asks_by p b (phase.Read d) h = absurd (none-some (stand_of b.call) (sym h))
  asks_by p b (phase.Change k) h = absurd (none-some (stand_of b.call) (sym h))
  asks_by p b (phase.Fill v) h = absurd (none-some (stand_of b.call) (sym h))
  asks_by p b phase.Downgrade h = absurd (none-some (stand_of b.call) (sym h))
  asks_by p b (phase.Part f) h = absurd (none-some (stand_of b.call) (sym h))
  asks_by p b (phase.Seek f) h = absurd (none-some (stand_of b.call) (sym h))
  asks_by p b (phase.Item f) h = absurd (none-some (stand_of b.call) (sym h))
  asks_by p b (phase.Give f) h = absurd (none-some (stand_of b.call) (sym h))
  asks_by p b (phase.Release a) h = absurd (none-some (stand_of b.call) (sym h))

  asleep_there : status_of w t ≡ status.Asleep → IsAsleep w t
  asleep_there h =
      let a = stands_there w.locks t (slice_get w.places t) h in
      let b = sleeper lists w.locks fit t a.2 in
      let asks = asks_by a.0 b a.0.phase (subst (λ (o : Option Stand). StandsBefore a.0 a.0.phase o) (stand b)
      (sound.holds.stands t a.0 a.1)) in
      record {
        place = a.0;
        stands = a.1;
        asks = asks.0;
        sleeps = a.2;
        waits = subst (λ shard. IsWaiting w.locks t shard) asks.1 b.waits;
      }

  asleep_back : IsAsleep w t → status_of w t ≡ status.Asleep
  asleep_back a =
      ap (λ o. status_at w.locks t o) a.stands ∙ sleeps_there w.locks t (length a.place.asks) a.place.phase a.asks
      a.sleeps

  pub status-asleep : (r : Status) → r ≡ status_of w t → (r ≡ status.Asleep) ↔ IsAsleep w t
  status-asleep r is = (λ h. asleep_there (sym is ∙ h), λ h. is ∙ asleep_back h)

-- only a thread between two calls that has none left is finished
is_over : (b : Bool) → (if b then status.Finished else status.Running) ≡ status.Finished → b ≡ true
is_over true h = refl
is_over false h = cc

none_left : (n : ℕ) → (if n == 0 then status.Finished else status.Running) ≡ status.Finished → n ≡ 0
none_left n h = eqb-true n 0 (is_over (n == 0) h)

not_over : (b : Bool) → (if b then status.Asleep else status.Running) ≡ status.Finished → ⊥
not_over true h = cc
not_over false h = cc

module _ (asleep : Bool) (left : ℕ) where
  over : (c : Class) → status_in asleep left c ≡ status.Finished → (rests_in c ≡ true) × (left ≡ 0)
  over resting h = (refl, none_left left h)
  over waiting h = absurd (not_over asleep h)
  over inside h = cc
  over placed h = cc
  over leaving h = cc
  over answering h = absurd (not_over asleep h)
  over reaching h = absurd (not_over asleep h)
  over parting h = cc
  over looking h = absurd (not_over asleep h)
  over visiting h = cc
  over pausing h = absurd (not_over asleep h)

  over_at_rest : (c : Class) → rests_in c ≡ true → left ≡ 0 → status_in asleep left c ≡ status.Finished
  over_at_rest resting h none = rw none refl
  over_at_rest waiting h none = cc
  over_at_rest inside h none = cc
  over_at_rest placed h none = cc
  over_at_rest leaving h none = cc
  over_at_rest answering h none = cc
  over_at_rest reaching h none = cc
  over_at_rest parting h none = cc
  over_at_rest looking h none = cc
  over_at_rest visiting h none = cc
  over_at_rest pausing h none = cc

-- a thread that has taken its whole program is between two calls
rests_at_the_end : (b : Bool) (next n : ℕ) → (if b then next else next + 1) ≤ n → next ≡ n → b ≡ true
rests_at_the_end true next n within same = refl
rests_at_the_end false next n within same = absurd (omega (arith, within, same))

taken_at_rest : {X : Type 0} (b : Bool) (next : ℕ) (xs : List X) → b ≡ true
    → length (drop (if b then next else next + 1) xs) ≡ length xs - next
taken_at_rest true next xs h = length-drop next xs
taken_at_rest false next xs h = cc

rests_within : (b : Bool) (next n : ℕ) → b ≡ true → (if b then next else next + 1) ≤ n → next ≤ n
rests_within true next n h within = within
rests_within false next n h within = cc

module _ {K V S D T A : Type 0} (x : Setup K V D T) (w : State K V S D T A) (sound : Sound x w)
    (same : x.programs ≡ w.programs) (t : ℕ)
    (p : Place K V D T A) (at : slice_get w.places t ≡ Some p) where
  status_there : status_of w t ≡ status_before w.locks t (length p.asks) p.phase
  status_there = ap (λ o. status_at w.locks t o) at

  finished_there : status_of w t ≡ status.Finished → IsFinished w t
  finished_there h =
      let st = sound.stands t p at in
      let o = over (is_asleep (state w.locks.rows) t) (length p.asks) (class_of p.phase) (sym status_there ∙ h) in
      let left = ap length st.asks_left ∙ taken_at_rest (is_resting p.phase) p.next st.program o.0 in
      let within = rests_within (is_resting p.phase) p.next (length st.program) o.0 st.within in
      λ program has.
      let one = same_Some program st.program (sym has ∙ (ap (λ ps. slice_get ps t) (sym same) ∙ st.has)) in
      let all = ap length one in
      omega (arith, left, o.1, within, st.answered, all)

  finished_back : IsFinished w t → status_of w t ≡ status.Finished
  finished_back f =
      let st = sound.stands t p at in
      let count : p.next ≡ length st.program = st.answered
      ∙ f st.program (ap (λ ps. slice_get ps t) (sym same) ∙ st.has) in
      let rests = rests_at_the_end (is_resting p.phase) p.next (length st.program) st.within count in
      let left = ap length st.asks_left ∙ taken_at_rest (is_resting p.phase) p.next st.program rests in
      status_there ∙ over_at_rest (is_asleep (state w.locks.rows) t) (length p.asks) (class_of p.phase) rests
      (omega (arith, left, count))

  pub status-finished : (r : Status) → r ≡ status_of w t → (r ≡ status.Finished) ↔ IsFinished w t
  status-finished r is = (λ h. finished_there (sym is ∙ h), λ h. is ∙ finished_back h)

-- and a thread that the world doesn't have is finished, and has no program
module _ {K V S D T A : Type 0} (x : Setup K V D T) (w : State K V S D T A) (sound : Sound x w)
    (same : x.programs ≡ w.programs) (long : length w.places ≡ length w.programs) (t : ℕ) where
  no_program : slice_get w.places t ≡ None → (program : List (Ask K V D)) → slice_get w.programs t ≡ Some program → ⊥
  no_program none program has =
      let within = slice_get_within w.programs t program has in
      let place = element-at w.places t (omega (arith, within, long)) in
      none-some place.0 (sym none ∙ place.1)

  pub status-finished-any : (r : Status) → r ≡ status_of w t → (r ≡ status.Finished) ↔ IsFinished w t
  status-finished-any r is = elim (option_cases (slice_get w.places t)) [
    | inl none ↦ (λ h program has. absurd (no_program none program has), λ h. is ∙ ap (λ o. status_at w.locks t o) none)
    | inr some ↦ status-finished x w sound same t some.0 some.1 r is
  ]
