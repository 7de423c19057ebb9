-- Where a step's own thread stands behind it: its call is on all shards that it is at then.
use Rattle.std.proofs.Common.{◌≡◌, ◌≢◌, ℕ, ◌+◌, ◌≤◌, ◌⊎◌, inl, inr, true, false, List, [], ◌∷◌, ◌++◌, length, Some}
use Rattle.std.proofs.Common.{slice_get, sym, ap, ◌∙◌, subst, arith, length-append}
use Rattle.std.specs.Option.{option_map_or}
use Rattle.std.proofs.lemmas.Option.{same_Some}
use Rattle.parking_lot_machine_calls.specs.declared.calls.LockCall.{LockCall}
use Rattle.parking_lot_machine.specs.Rows.{call_at, state}
use Rattle.mapworld_calls.specs.declared.block.Block.{Block}
use Rattle.mapworld_calls.specs.Setup.{Setup}
use Rattle.mapworld_calls.proofs.Lists.{slice_get-set_same, slice_get-set_other}
use Rattle.mapworld_state.specs.Locks.Stands.{Stand, is_try, stand_in}
use Rattle.mapworld_state.specs.Locks.Steps.{LockStarts}
use Rattle.mapworld_state.specs.Locks.Views.{Shown}
use Rattle.mapworld_state.specs.declared.holds.Hold.{Hold}
use Rattle.mapworld_state.specs.declared.step.Step.{Step}
use Rattle.mapworld_state.specs.Moves.{stepped}
use Rattle.mapworld_state.specs.Places.{Place}
use Rattle.mapworld_state.specs.Shards.{ShardPairs}
use Rattle.mapworld_state.specs.Sound.{Sound}
use Rattle.mapworld_state.specs.State.{State, next_step}
use Rattle.mapworld_state.specs.Steps.{Answers, Concludes}
use Rattle.mapworld_state.proofs.InvariantFacts.Adding.{Step-adds}
use Rattle.mapworld_state.proofs.InvariantFacts.Building.{Goes}
use Rattle.mapworld_state.specs.Invariant.Causes.Causes.{HasCauses, HasMet, IsOnAt, IsSite, IsSited, IsTold}
use Rattle.mapworld_state.proofs.InvariantFacts.CausesFacts.Between.{Between}
use Rattle.mapworld_state.proofs.InvariantFacts.CausesFacts.Locking.{LocksApart, apart-same, apart-starts, apart-then}
use Rattle.mapworld_state.proofs.InvariantFacts.CausesFacts.Locking.{starts-blind}
use Rattle.mapworld_state.proofs.InvariantFacts.CausesFacts.Looking.{sees}
use Rattle.mapworld_state.proofs.InvariantFacts.CausesFacts.Shapes.{Shape, StaysOpen, shard_of}
use Rattle.mapworld_state.proofs.InvariantFacts.CausesFacts.Staying.{on-kept}
use Rattle.std.proofs.Common.{◌-◌, map, None, Option}
use Rattle.std.specs.Option.{option_map}
use Rattle.std.proofs.lemmas.Bool.{false≢true}
use Rattle.std.proofs.lemmas.Option.{none-some}
use Rattle.parking_lot_machine_calls.specs.Calls.{is_timed}
use Rattle.parking_lot_machine_calls.specs.declared.open_call.Call.{Call}
use Rattle.mapworld_calls.specs.Deadlines.{IsDeadlineOf}
use Rattle.mapworld_calls.proofs.Lists.{slice_get-push_below}
use Rattle.mapworld_state.specs.Locks.Stands.{stand_for, stand_of}
use Rattle.mapworld_state.specs.State.{deadline_of, deadlines_of}
use Rattle.mapworld_state.specs.Invariant.Causes.Causes.{FailsLate, HasExpired}
use Rattle.mapworld_state.proofs.InvariantFacts.Building.{map-push}

-- what a step leaves of its thread and of all others
pub record Own {K V S D T A : Type 0} (x : Setup K V D T) (w : State K V S D T A) (s : Step)
    (w' : State K V S D T A) : Type 0 where
  pub now : Place K V D T A
  pub there : slice_get w'.places s.thread ≡ Some now
  pub others : (u : ℕ) → u ≢ s.thread → slice_get w'.places u ≡ slice_get w.places u
  pub locks : LocksApart s.thread w.locks w'.locks
  pub sites : (shard : ℕ) → IsSite w'.locks s.thread now.holds shard → IsSited x w' s.thread now shard
  pub met : sees (call_at (state w'.locks.rows) s.thread) ≡ true → HasMet x w' s.thread now
  pub told : IsTold now.phase
  pub late : FailsLate x w' w'.locks s.thread now
  -- nothing is answered, or its call is
  pub closes : (w'.replies ≡ w.replies)
      ⊎ ((v : State K V S D T A) × ((v ≡ w) ⊎ Concludes w s.thread v) × Answers x v s w')

-- what a try has met stays so
module _ {K V S D T A : Type 0} (x : Setup K V D T) (w : State K V S D T A) (s : Step) (w' : State K V S D T A)
    (sound : Sound x w) (goes : Goes x s.thread w w') (shape : Shape w w' s) (adds : Step-adds w w' s) where
  pub met-on : (t : ℕ) (p : Place K V D T A) → HasMet x w t p → HasMet x w' t p
  met-on t p m = record {
    start = m.start;
    started = m.started;
    step = m.step;
    from = m.from;
    until = (let le = m.until in omega (arith, le, ap (λ z. length z) shape.steps, length-append w.steps (s ∷ [])));
    other = m.other;
    another = m.another;
    on = on-kept x w s w' sound goes shape adds m.other p.shard m.step (inl m.until) m.on;
  }

-- whose deadline each step was, with one more
pub deadlines-push : {K V S D T A : Type 0} (w : State K V S D T A) (s : Step) (w' : State K V S D T A) → Shape w w' s
    → deadlines_of w' ≡ deadlines_of w ++ deadline_of s ∷ []
deadlines-push w s w' shape = ap (map deadline_of) shape.steps ∙ map-push deadline_of w.steps s

-- a deadline that has come has come
pub deadline-on : {K V S D T A : Type 0} (w : State K V S D T A) (s : Step) (w' : State K V S D T A) → Shape w w' s
    → (t n : ℕ) → IsDeadlineOf (deadlines_of w) t n → IsDeadlineOf (deadlines_of w') t n
deadline-on w s w' shape t n h = (
  h.0,
  ap (λ ds. slice_get ds (n - 1)) (deadlines-push w s w' shape)
      ∙ slice_get-push_below (deadlines_of w) (n - 1) (Some t) (deadline_of s) h.1,
)

pub expired-on : {K V S D T A : Type 0} (x : Setup K V D T) (w : State K V S D T A) (s : Step) (w' : State K V S D T A)
    → Shape w w' s → (t : ℕ) (p : Place K V D T A) → HasExpired x w t p → HasExpired x w' t p
expired-on x w s w' shape t p m = record {
  start = m.start;
  started = m.started;
  step = m.step;
  from = m.from;
  until = (let lt = m.until in omega (arith, lt, ap (λ z. length z) shape.steps, length-append w.steps (s ∷ [])));
  is = deadline-on w s w' shape t m.step m.is;
}

-- a thread that is in no call sees nothing, and fails in none
pub out-of-call : (locks : Shown) (t : ℕ) → stand_in locks t ≡ None → (c : Call) → call_at (state locks.rows) t ≡ Some c
    → ⊥
out-of-call locks t out c at = none-some (stand_of c) (sym out ∙ ap (option_map stand_of) at)

out-sees : (locks : Shown) (t : ℕ) → stand_in locks t ≡ None → sees (call_at (state locks.rows) t) ≡ true → ⊥
out-sees locks t out = by (call_at (state locks.rows) t) out
  where
    by : (o : Option Call) → option_map stand_of o ≡ None → sees o ≡ true → ⊥
    by None e seen = false≢true seen
    by (Some c) e seen = none-some (stand_of c) (sym e)

longer : {X : Type 0} (xs : List X) (y : X) → xs ++ y ∷ [] ≡ xs → ⊥
longer xs y e = absurd (omega (arith, ap (λ z. length z) e, length-append xs (y ∷ [])))

-- where no reply comes, a start that is shown stays so
pub still-open : {K V S D T A : Type 0} (w : State K V S D T A) (s : Step) (w' : State K V S D T A) → Shape w w' s
    → w'.replies ≡ w.replies → StaysOpen w w' s
still-open w s w' shape same = elim shape.own [
  | inl still ↦ still
  | inr last ↦ absurd (longer w.replies last.reply (sym last.replies ∙ same))
]

module _ {K V S D T A : Type 0} (x : Setup K V D T) (w : State K V S D T A) (s : Step) (w' : State K V S D T A)
    (sound : Sound x w) (goes : Goes x s.thread w w') (shape : Shape w w' s) (adds : Step-adds w w' s)
    (causes : HasCauses x w) where
  later : next_step w ≤ next_step w'
  later = omega (arith, ap (λ z. length z) shape.steps, length-append w.steps (s ∷ []))

  -- a shard that the thread was at is one that its call is on still
  pub still-on : (p : Place K V D T A) → slice_get w.places s.thread ≡ Some p → w'.replies ≡ w.replies → (shard : ℕ)
      → IsSite w.locks s.thread p.holds shard → (q : ℕ) → next_step w' ≤ q → IsOnAt x w' s.thread shard q
  still-on p at same shard site q le = on-kept x w s w' sound goes shape adds s.thread shard q
      (inr (inr (still-open w s w' shape same, apart))) (before.on q (omega (arith, le, later)))
    where
      before : IsSited x w s.thread p shard
      before = causes.sited s.thread p shard at site

      here : shard_of w s.thread ≡ p.shard
      here = ap (λ o. option_map_or (λ (r : Place K V D T A). r.shard) o 0) at

      apart : shard + 2 ≢ shard_of w s.thread
      apart e = elim before.near [ inl same ↦ omega (arith, e, here, same) | inr next ↦ omega (arith, e, here, next) ]

  pub kept-site : (p now : Place K V D T A) → slice_get w.places s.thread ≡ Some p → w'.replies ≡ w.replies
      → now.shard ≡ p.shard → (shard : ℕ) → IsSite w.locks s.thread p.holds shard → IsSited x w' s.thread now shard
  kept-site p now at same stays shard site = record {
    on = λ q le. still-on p at same shard site q le;
    near = elim (causes.sited s.thread p shard at site).near
        [ inl is ↦ inl (is ∙ sym stays) | inr next ↦ inr (next ∙ sym stays) ];
  }

  -- a step from the world between
  module _ (v : State K V S D T A) (p q : Place K V D T A) (b : Between x s.thread w v p q) (now : Place K V D T A)
      (tables : List (ShardPairs K V)) (locks : Shown) (blocks : List (Block K))
      (after : w' ≡ record (stepped v s now) { tables = tables; locks = locks; blocks = blocks }) where
    same : w'.replies ≡ w.replies
    same = ap (λ z. z.replies) after ∙ b.replies

    its-locks : w'.locks ≡ locks
    its-locks = ap (λ z. z.locks) after

    pub own-by : LocksApart s.thread v.locks locks
        → ((shard : ℕ) → IsSite locks s.thread now.holds shard → IsSited x w' s.thread now shard)
        → (sees (call_at (state locks.rows) s.thread) ≡ true → HasMet x w' s.thread now)
        → FailsLate x w' locks s.thread now → IsTold now.phase → Own x w s w'
    own-by apart sites met late told = record {
      now = now;
      there = ap (λ z. slice_get z.places s.thread) after ∙ slice_get-set_same v.places s.thread q now b.there;
      others = λ u ne. ap (λ z. slice_get z.places u) after ∙ slice_get-set_other v.places s.thread u now
          (λ e. ne (sym e)) ∙ b.others u ne;
      locks = apart-then s.thread w.locks v.locks w'.locks b.fits b.locks
          (subst (LocksApart s.thread v.locks) (sym its-locks) apart);
      sites = λ shard site. sites shard (subst (λ (z : Shown). IsSite z s.thread now.holds shard) its-locks site);
      met = λ seen. met (sym (ap (λ (z : Shown). sees (call_at (state z.rows) s.thread)) its-locks) ∙ seen);
      told = told;
      late = subst (λ (z : Shown). FailsLate x w' z s.thread now) (sym its-locks) late;
      closes = inl same;
    }

    -- that does nothing at the locks
    pub own-quiet : locks ≡ v.locks → now.shard ≡ q.shard → now.holds ≡ q.holds → IsTold now.phase
        → stand_in v.locks s.thread ≡ None → Own x w s w'
    own-quiet quiet stays holds told out =
        own-by
        (subst (LocksApart s.thread v.locks) (sym quiet) (apart-same s.thread v.locks))
        (λ shard site. kept-site p now b.at same (stays ∙ b.shard) shard
        (b.back shard (subst (λ (z : Shown). IsSite z s.thread q.holds shard) quiet
        (subst (λ (z : List Hold). IsSite locks s.thread z shard) holds site))))
        (λ seen. absurd (out-sees v.locks s.thread out
        (sym (ap (λ (z : Shown). sees (call_at (state z.rows) s.thread)) quiet) ∙ seen)))
        (λ c at timed f. absurd (out-of-call v.locks s.thread out c
        (sym (ap (λ (z : Shown). call_at (state z.rows) s.thread) quiet) ∙ at)))
        told

    -- that gives a hold up, or turns it
    pub own-gives : (hold : Hold) (more : List Hold) → q.holds ≡ hold ∷ more → (call : LockCall) → is_try call ≡ false
        → is_timed call ≡ false → LockStarts s.thread hold.shard call s.fair v.locks locks
        → now.shard ≡ q.shard
        → ((i : ℕ) (h : Hold) → slice_get now.holds i ≡ Some h → (j : ℕ) × (k : Hold)
        × (slice_get q.holds j ≡ Some k) × (k.shard ≡ h.shard)) → IsTold now.phase → Own x w s w'
    own-gives hold more has call no_try no_deadline starts stays fewer told =
        own-by (apart-starts s.thread hold.shard call s.fair v.locks locks starts) sites
        (λ seen. absurd (starts-blind s.thread hold.shard call s.fair v.locks locks no_try starts seen))
        (λ c at timed f. absurd (false≢true (sym no_deadline ∙ ap (λ (z : Stand). z.timed) (stand-is c at) ∙ timed)))
        told
      where
        stand-is : (c : Call) → call_at (state locks.rows) s.thread ≡ Some c → stand_for hold.shard call ≡ stand_of c
        stand-is c at =
            let begun = same_Some starts.moves.stand _ (sym starts.moves.stood ∙ starts.begins.stand) in
            sym begun ∙ same_Some starts.moves.stand (stand_of c)
            (sym starts.moves.stands ∙ ap (option_map stand_of) at)

        stand-here : (stand : Stand) → stand_in locks s.thread ≡ Some stand → hold.shard ≡ stand.shard
        stand-here stand is =
            let begun = same_Some starts.moves.stand _ (sym starts.moves.stood ∙ starts.begins.stand) in
            sym (ap (λ z. z.shard) begun) ∙ ap (λ z. z.shard) (same_Some _ stand (sym starts.moves.stands ∙ is))

        sites : (shard : ℕ) → IsSite locks s.thread now.holds shard → IsSited x w' s.thread now shard
        sites shard (inl (i, h, here, is)) = let o = fewer i h here in kept-site p now b.at same (stays ∙ b.shard) shard
            (b.back shard (inl (o.0, o.1, o.2, o.3 ∙ is)))
        sites shard (inr (stand, is, at)) = kept-site p now b.at same (stays ∙ b.shard) shard
            (b.back shard (inl (0, hold, ap (λ z. slice_get z 0) has, stand-here stand is ∙ at)))
