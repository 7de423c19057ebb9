-- The world between a step and what ends with it: an admission, or what was owed to a lock.
use Rattle.std.proofs.Common.{◌≡◌, ◌≢◌, ℕ, inl, inr, Bool, true, false, List, [], ◌∷◌, ◌++◌, Option, Some, None}
use Rattle.std.proofs.Common.{slice_get, slice_set, refl, sym, ap, ◌∙◌, subst}
use Rattle.std.specs.Option.{option_map}
use Rattle.std.proofs.lemmas.Bool.{false≢true}
use Rattle.std.proofs.lemmas.Option.{none-some, same_Some}
use Rattle.parking_lot_protocol.specs.declared.act.CoreAnswer.{CoreAnswer}
use Rattle.parking_lot_machine_calls.specs.declared.open_call.Call.{Call}
use Rattle.parking_lot_machine.specs.Rows.{call_at, state}
use Rattle.mapworld_calls.specs.Setup.{Setup}
use Rattle.mapworld_calls.proofs.Lists.{slice_get-push_cases, slice_get-set_same, slice_get-set_other}
use Rattle.mapworld_state.specs.Locks.Aims.{Aim}
use Rattle.mapworld_state.specs.Locks.Stands.{Stand, is_of_shards, is_try, stand_in, stand_of}
use Rattle.mapworld_state.specs.Locks.Steps.{LockEnds}
use Rattle.mapworld_state.specs.Locks.Views.{Shown}
use Rattle.mapworld_state.specs.declared.holds.Hold.{Hold}
use Rattle.mapworld_state.specs.declared.place.Phase.{Phase}
use Rattle.mapworld_state.specs.declared.place.Phase.TheVariants as phase
use Rattle.mapworld_state.specs.declared.place.Request.{Request}
use Rattle.mapworld_state.specs.Held.{IsOwing, IsWanting, MayOwe, StandsBefore}
use Rattle.mapworld_state.specs.Moves.{mode_of}
use Rattle.mapworld_state.specs.Places.{Place}
use Rattle.mapworld_state.specs.Sound.{Sound}
use Rattle.mapworld_state.specs.State.{State}
use Rattle.mapworld_state.specs.Steps.{Concludes, owed, locked, idle, Enters, Reaches, Leaves as LeavesLock}
use Rattle.mapworld_state.specs.Walks.{walk_mode}
use Rattle.mapworld_state.proofs.InvariantFacts.Admitting.{sound-enters, sound-leaves}
use Rattle.mapworld_state.proofs.InvariantFacts.Concluding.{sound-left}
use Rattle.mapworld_state.proofs.InvariantFacts.Walking.{sound-reaches}
use Rattle.mapworld_state.specs.Invariant.Causes.Causes.{IsSite}
use Rattle.mapworld_state.proofs.InvariantFacts.CausesFacts.Locking.{LocksApart, apart-ends, apart-same}
use Rattle.mapworld_state.proofs.InvariantFacts.CausesFacts.Trying.{core_tries, tries_by, tries_get}
use Rattle.parking_lot_machine_calls.specs.Calls.{is_timed}
use Rattle.mapworld_state.specs.Locks.Fits.{LocksFit}
use Rattle.std.proofs.Common.{◌||◌}
use Rattle.mapworld_state.specs.declared.holds.Manner.{Manner}
use Rattle.mapworld_state.specs.declared.holds.Manner.TheVariants.{Waits}
use Rattle.mapworld_state.proofs.LocksFacts.Lawful.{fit-ends}
use Rattle.std.proofs.Common.{Bool}

-- a try without success is one that waits for its shard
module _ {K V S D T A : Type 0} (x : Setup K V D T) (w : State K V S D T A) (sound : Sound x w)
    (fit : LocksFit w.locks) (t : ℕ) (p : Place K V D T A) (at : slice_get w.places t ≡ Some p) where
  module _ (c : Call) (ours : is_of_shards c.asked ≡ true) (tries : (is_try c.asked || is_timed c.asked) ≡ true) where
    nowhere : Some (stand_of c) ≡ None → ⊥
    nowhere e = none-some (stand_of c) (sym e)

    gets-nothing : IsOwing p (Some (stand_of c)) → ⊥
    gets-nothing h = let m = tries_get c.asked ours tries in subst (λ (a : Aim). MayOwe p c.lock a) m.1 h

    waits-not : (mode : _) → IsWanting p mode Waits (Some (stand_of c)) → ⊥
    waits-not mode h =
        false≢true (sym (ap (λ (z : Stand). z.trying || z.timed) (same_Some (stand_of c) _ h.is)) ∙ tries)

    by : (f : Phase K V D T A) → StandsBefore p f (Some (stand_of c)) → (r : Request K V D) × (f ≡ phase.Admit r)
    by phase.Rest h = absurd (nowhere h)
    by (phase.Admit r) h = (r, refl)
    by (phase.Find r) h = absurd (nowhere h)
    by (phase.Grow c_) h = absurd (nowhere h)
    by (phase.Append k v) h = absurd (nowhere h)
    by (phase.Apply k) h = absurd (nowhere h)
    by (phase.View k d) h = absurd (nowhere h)
    by (phase.Read d) h = absurd (nowhere h)
    by (phase.Change d) h = absurd (nowhere h)
    by (phase.Fill v) h = absurd (nowhere h)
    by phase.Downgrade h = absurd (nowhere h)
    by (phase.Idle f) h = absurd (nowhere h)
    by (phase.Reach f) h = absurd (waits-not (walk_mode f) h)
    by (phase.Part f) h = absurd (nowhere h)
    by (phase.Visit f) h = absurd (gets-nothing h)
    by (phase.Seek f) h = absurd (nowhere h)
    by (phase.Item f) h = absurd (nowhere h)
    by (phase.Give f) h = absurd (nowhere h)
    by (phase.Onward f) h = absurd (gets-nothing h)
    by (phase.Release a) h = absurd (nowhere h)
    by (phase.Answer a) h = absurd (gets-nothing h)

  pub tries-admits : (c : Call) → call_at (state w.locks.rows) t ≡ Some c → core_tries c.core ≡ true
      → (r : Request K V D) × (p.phase ≡ phase.Admit r)
  tries-admits c e tries =
      by c (fit.plain.asked t c e)
      (tries_by c.asked (fit.plain.asked t c e) c.core (fit.plain.stands t c e) tries) p.phase
      (subst (λ (o : Option Stand). StandsBefore p p.phase o) (ap (λ o. option_map stand_of o) e)
      (sound.holds.stands t p at))

  -- so is one that has a deadline
  pub timed-admits : (c : Call) → call_at (state w.locks.rows) t ≡ Some c → is_timed c.asked ≡ true
      → (r : Request K V D) × (p.phase ≡ phase.Admit r)
  timed-admits c e timed =
      by c (fit.plain.asked t c e) (either-timed (is_try c.asked) (is_timed c.asked) timed) p.phase
      (subst (λ (o : Option Stand). StandsBefore p p.phase o) (ap (λ o. option_map stand_of o) e)
      (sound.holds.stands t p at))
    where
      either-timed : (a b : Bool) → b ≡ true → (a || b) ≡ true
      either-timed true b h = refl
      either-timed false b h = h

-- THE WORLD BETWEEN

-- the thread's place stands where it stood, on shards that it was on
pub record Between {K V S D T A : Type 0} (x : Setup K V D T) (t : ℕ) (w v : State K V S D T A)
    (p q : Place K V D T A) : Type 0 where
  pub sound : Sound x v
  pub at : slice_get w.places t ≡ Some p
  pub there : slice_get v.places t ≡ Some q
  pub shard : q.shard ≡ p.shard
  pub started : q.started ≡ p.started
  pub back : (shard : ℕ) → IsSite v.locks t q.holds shard → IsSite w.locks t p.holds shard
  pub others : (u : ℕ) → u ≢ t → slice_get v.places u ≡ slice_get w.places u
  pub locks : LocksApart t w.locks v.locks
  pub fits : LocksFit w.locks → LocksFit v.locks
  pub replies : v.replies ≡ w.replies

module _ {K V S D T A : Type 0} (x : Setup K V D T) (w : State K V S D T A) (t : ℕ) (sound : Sound x w) where
  pub between-same : (p : Place K V D T A) → slice_get w.places t ≡ Some p → Between x t w w p p
  between-same p at = record {
    sound = sound;
    at = at;
    there = at;
    shard = refl;
    started = refl;
    back = λ shard h. h;
    others = λ u ne. refl;
    locks = apart-same t w.locks;
    fits = λ fit. fit;
    replies = refl;
  }

  -- a call of the lock has ended, and the place may have its hold
  module _ (v : State K V S D T A) (there : Sound x v) (p : Place K V D T A) (at : slice_get w.places t ≡ Some p)
      (locks : Shown) (answer : CoreAnswer) (ends : LockEnds t answer w.locks locks) where
    out-of : (holds : List Hold) → ((i : ℕ) (h : Hold) → slice_get holds i ≡ Some h → IsSite w.locks t p.holds h.shard)
        → (shard : ℕ) → IsSite locks t holds shard → IsSite w.locks t p.holds shard
    out-of holds own shard (inl (i, h, here, is)) = subst (IsSite w.locks t p.holds) is (own i h here)
    out-of holds own shard (inr (stand, is, same)) = absurd (none-some stand (sym ends.gone ∙ is))

    pub between-placed : (q : Place K V D T A) → q.shard ≡ p.shard → q.started ≡ p.started
        → ((i : ℕ) (h : Hold) → slice_get q.holds i ≡ Some h → IsSite w.locks t p.holds h.shard)
        → v ≡ record w { places = slice_set w.places t q; locks = locks } → Between x t w v p q
    between-placed q shard started own after = record {
      sound = there;
      at = at;
      there = ap (λ (z : State K V S D T A). slice_get z.places t) after ∙ slice_get-set_same w.places t p q at;
      shard = shard;
      started = started;
      back = λ s h. out-of q.holds own s (subst (λ (z : State K V S D T A). IsSite z.locks t q.holds s) after h);
      others = λ u ne. ap (λ (z : State K V S D T A). slice_get z.places u) after
          ∙ slice_get-set_other w.places t u q (λ e. ne (sym e));
      locks = subst (λ (z : State K V S D T A). LocksApart t w.locks z.locks) (sym after)
          (apart-ends t answer w.locks locks ends);
      fits = λ fit. subst (λ (z : State K V S D T A). LocksFit z.locks) (sym after)
          (fit-ends t answer w.locks locks fit ends);
      replies = ap (λ (z : State K V S D T A). z.replies) after;
    }

    pub between-left : v ≡ record w { locks = locks } → Between x t w v p p
    between-left after = record {
      sound = there;
      at = at;
      there = ap (λ (z : State K V S D T A). slice_get z.places t) after ∙ at;
      shard = refl;
      started = refl;
      back = λ s h. out-of p.holds (λ i k here. inl (i, k, here, refl)) s
          (subst (λ (z : State K V S D T A). IsSite z.locks t p.holds s) after h);
      others = λ u ne. ap (λ (z : State K V S D T A). slice_get z.places u) after;
      locks = subst (λ (z : State K V S D T A). LocksApart t w.locks z.locks) (sym after)
          (apart-ends t answer w.locks locks ends);
      fits = λ fit. subst (λ (z : State K V S D T A). LocksFit z.locks) (sym after)
          (fit-ends t answer w.locks locks fit ends);
      replies = ap (λ (z : State K V S D T A). z.replies) after;
    }

    -- the hold that an admission gives is of the shard that it was waited for
    admitted : (mode : _) (manner : Manner) (own : Hold) → own.shard ≡ p.shard
        → IsWanting p mode manner (stand_in w.locks t) → (i : ℕ) (h : Hold) → slice_get (p.holds ++ own ∷ []) i ≡ Some h
        → IsSite w.locks t p.holds h.shard
    admitted mode manner own is wants i h here = elim (slice_get-push_cases p.holds i h own here) [
      | inl old ↦ inl (i, h, old, refl)
      | inr new ↦ inr (_, wants.is, sym is ∙ sym (ap (λ z. z.shard) new.1))
    ]

  stands-there : (p : Place K V D T A) → slice_get w.places t ≡ Some p → (f : Phase K V D T A) → p.phase ≡ f
      → StandsBefore p f (stand_in w.locks t)
  stands-there p at f is = subst (λ (g : Phase K V D T A). StandsBefore p g (stand_in w.locks t)) is
      (sound.holds.stands t p at)

  pub between-enters : (v : State K V S D T A) (e : Enters w t v)
      → Between x t w v e.place
      (record (e.place) {
        holds = e.place.holds ++ record { shard = e.place.shard; mode = mode_of e.request } ∷ [];
        phase = phase.Find e.request;
      })
  between-enters v e =
      between-placed v (sound-enters x w t v sound e) e.place e.stands e.locks CoreAnswer.Owned e.ends _ refl refl
      (admitted v (sound-enters x w t v sound e) e.place e.stands e.locks CoreAnswer.Owned e.ends _ _ _ refl
      (stands-there e.place e.stands (phase.Admit e.request) e.before)) e.after

  pub between-reaches : (v : State K V S D T A) (e : Reaches w t v) → (q : Place K V D T A) × Between x t w v e.place q
  between-reaches v e = (
    _,
    between-placed v (sound-reaches x w t v sound e) e.place e.stands e.locks CoreAnswer.Owned e.ends _ refl refl
        (admitted v (sound-reaches x w t v sound e) e.place e.stands e.locks CoreAnswer.Owned e.ends _ _ _ refl
        (stands-there e.place e.stands (phase.Reach e.walk) e.before)) e.after,
  )

  pub between-leaves : (v : State K V S D T A) (e : LeavesLock w t v) → Between x t w v e.place e.place
  between-leaves v e = between-left v (sound-leaves x w t v sound e) e.place e.stands e.locks e.ended e.ends e.after

  pub between-concludes : (v : State K V S D T A) (h : Concludes w t v) → (p : Place K V D T A) × (q : Place K V D T A)
      × Between x t w v p q
  between-concludes v (owed e) = (e.place, e.place, between-leaves v e)
  between-concludes v (locked e) = (
    e.place,
    _,
    between-placed v (sound-left x w t v sound (inr (locked e))) e.place e.stands e.locks e.ended e.ends _
        refl refl (λ i h here. inl (i, h, here, refl)) e.after,
  )
  between-concludes v (idle e) =
      let q : Place K V D T A = record (e.place) { phase = phase.Answer e.answer } in (
        e.place,
        q,
        record {
          sound = sound-left x w t v sound (inr (idle e));
          at = e.stands;
          there = ap (λ (z : State K V S D T A). slice_get z.places t) e.after ∙ slice_get-set_same w.places t e.place q
              e.stands;
          shard = refl;
          started = refl;
          back = λ s h. subst (λ (z : State K V S D T A). IsSite z.locks t q.holds s) e.after h;
          others = λ u ne. ap (λ (z : State K V S D T A). slice_get z.places u) e.after
              ∙ slice_get-set_other w.places t u q (λ z. ne (sym z));
          locks = subst (λ (z : State K V S D T A). LocksApart t w.locks z.locks) (sym e.after) (apart-same t w.locks);
          fits = λ fit. subst (λ (z : State K V S D T A). LocksFit z.locks) (sym e.after) fit;
          replies = ap (λ (z : State K V S D T A). z.replies) e.after;
        },
      )

-- the place of the world between is what it is said to be there
pub between-at : {K V S D T A : Type 0} (x : Setup K V D T) (t : ℕ) (w v : State K V S D T A) (p q r : Place K V D T A)
    → slice_get v.places t ≡ Some r → Between x t w v p q → Between x t w v p r
between-at {K} {V} {S} {D} {T} {A} x t w v p q r at b = subst (λ (z : Place K V D T A). Between x t w v p z)
    (same_Some q r (sym b.there ∙ at)) b
