-- A try that sees a word of its lock that isn't 0 meets a call of another thread on its shard.
use Rattle.std.proofs.Common.{◌≡◌, ◌≢◌, ℕ, ◌<◌, inl, inr, Bool, true, length, Option, Some, None, slice_get}
use Rattle.std.proofs.Common.{refl, sym, ap, ◌∙◌, subst, arith}
use Rattle.std.specs.Option.{option_and_then, option_map}
use Rattle.std.proofs.lemmas.Bool.{false≢true}
use Rattle.std.proofs.lemmas.Option.{none-some, same_Some, slice_get_cases, slice_get_within}
use Rattle.lock_api_desk.specs.declared.mode.Mode.{Mode as DeskMode}
use Rattle.parking_lot_machine_calls.specs.declared.open_call.Call.{Call}
use Rattle.parking_lot_machine.specs.Machines.{is_asleep_in}
use Rattle.parking_lot_machine.specs.Rows.{call_at, state, word_at}
use Rattle.mapworld_calls.specs.Setup.{Setup}
use Rattle.mapworld_state.specs.Locks.Fits.{LocksFit}
use Rattle.mapworld_state.specs.Locks.Stands.{stand_in, stand_of}
use Rattle.mapworld_state.proofs.InvariantFacts.CausesFacts.Trying.{core_tries}
use Rattle.mapworld_state.specs.Locks.Steps.{LockMoves}
use Rattle.mapworld_state.specs.Locks.Views.{Shown, owner_in}
use Rattle.mapworld_state.proofs.LocksFacts.Together.{holders_are_threads}
use Rattle.mapworld_state.specs.Held.{IsWanting, StandsBefore}
use Rattle.mapworld_state.specs.Moves.{mode_of, request_manner}
use Rattle.mapworld_state.specs.declared.place.Phase.{Phase}
use Rattle.mapworld_state.specs.declared.place.Phase.TheVariants as phase
use Rattle.mapworld_state.specs.Places.{Place}
use Rattle.mapworld_state.specs.Sound.{Sound}
use Rattle.mapworld_state.specs.State.{State, next_step, threads_of}
use Rattle.mapworld_state.proofs.InvariantFacts.Building.{claim-at}
use Rattle.mapworld_state.specs.Invariant.Causes.Causes.{HasCauses, HasCompany, HasMet, IsOnNow, SleepersHaveCompany}
use Rattle.mapworld_state.specs.Invariant.Causes.Causes.{WordsHaveCalls}
use Rattle.mapworld_state.proofs.InvariantFacts.CausesFacts.Being.{step-low}
use Rattle.mapworld_state.proofs.InvariantFacts.CausesFacts.Between.{tries-admits}
use Rattle.mapworld_state.proofs.InvariantFacts.CausesFacts.Looking.{own-sees, sees}
use Rattle.mapworld_state.proofs.InvariantFacts.CausesFacts.Sleeping.{IsAround, keeps, is-in, another, around, v}
use Rattle.mapworld_state.proofs.InvariantFacts.CausesFacts.Words.{IsThere, calls, owns, there, who}

-- who has to do with a lock has a call on its shard
module _ {K V S D T A : Type 0} (x : Setup K V D T) (w : State K V S D T A) (sound : Sound x w) (fit : LocksFit w.locks)
    (threads : length w.places ≡ length w.locks.rows.calls) (causes : HasCauses x w) where
  place-of : (u : ℕ) → u < length w.locks.rows.calls → (p : Place K V D T A) × (slice_get w.places u ≡ Some p)
  place-of u lt = elim (slice_get_cases w.places u).1
      [ inl here ↦ (here.0, here.2) | inr beyond ↦ absurd (omega (arith, lt, threads, beyond.0)) ]

  in-call-low : (u : ℕ) (c : Call) → call_at (state w.locks.rows) u ≡ Some c → u < length w.locks.rows.calls
  in-call-low u c at = by (slice_get w.locks.rows.calls u) refl
    where
      by : (o : Option (Option Call)) → slice_get w.locks.rows.calls u ≡ o → u < length w.locks.rows.calls
      by None e = absurd (none-some c (sym (ap (option_and_then (λ z. z)) e) ∙ at))
      by (Some d) e = slice_get_within w.locks.rows.calls u d e

  owner-on : (shard u : ℕ) (m : DeskMode) → owner_in w.locks shard u ≡ Some m → IsOnNow x w u shard
  owner-on shard u m own =
      let p = place-of u (holders_are_threads (state w.locks.rows) shard fit.plain.kinds u m own) in
      elim (sound.holds.known u shard p.0 m p.1 own) [
        | inl among ↦ (causes.sited u p.0 shard p.1 (inl (among.index, among.hold, among.there, among.shard_is))).on
        | inr at ↦ (causes.sited u p.0 shard p.1 (inr at)).on
      ]

  caller-on : (shard u : ℕ) (c : Call) → call_at (state w.locks.rows) u ≡ Some c → c.lock ≡ shard → IsOnNow x w u shard
  caller-on shard u c at lock =
      let p = place-of u (in-call-low u c at) in
      (causes.sited u p.0 shard p.1 (inr (stand_of c, ap (option_map stand_of) at, lock))).on

  on-there : (shard u : ℕ) → IsThere w.locks shard u → IsOnNow x w u shard
  on-there shard u (owns m own out) = owner-on shard u m own
  on-there shard u (calls c at lock tries) = caller-on shard u c at lock

  on-around : (shard u : ℕ) → IsAround w.locks shard u → IsOnNow x w u shard
  on-around shard u (keeps m own) = owner-on shard u m own
  on-around shard u (is-in c at lock) = caller-on shard u c at lock

  pub words-have_calls : WordsHaveCalls x w
  words-have_calls shard some =
      (who w.locks fit shard some, on-there shard (who w.locks fit shard some) (there w.locks fit shard some))

  -- one that sleeps waits for somebody
  pub sleepers-have_company : SleepersHaveCompany x w
  sleepers-have_company t stand stood asleep_ = by (call_at (state w.locks.rows) t) refl stood asleep_
    where
      by : (o : Option Call) → call_at (state w.locks.rows) t ≡ o → option_map stand_of o ≡ Some stand
          → is_asleep_in o ≡ true → HasCompany x w t stand
      by None at is e = absurd (none-some stand is)
      by (Some c) at is e =
          let same : c.lock ≡ stand.shard = ap (λ z. z.shard) (same_Some (stand_of c) stand is) in
          record {
            own = caller-on stand.shard t c at same;
            other = v w.locks fit t c at e;
            another = another w.locks fit t c at e;
            on = subst (λ (n : ℕ). IsOnNow x w (v w.locks fit t c at e) n) same
                (on-around c.lock (v w.locks fit t c at e) (around w.locks fit t c at e));
          }

  -- a step of a try's call at its lock
  module _ (t : ℕ) (p : Place K V D T A) (at : slice_get w.places t ≡ Some p) (fair : Bool) (locks : Shown)
      (moves : LockMoves t fair w.locks locks) where
    abbrev c : Call
    c = moves.steps.call

    apart : (u : ℕ) → IsThere w.locks c.lock u → core_tries c.core ≡ true → u ≢ t
    apart u (owns m own out) tries same = out c (ap (call_at (state w.locks.rows)) same ∙ moves.steps.here) refl
    apart u (calls d here lock no_try) tries same =
        let is : d ≡ c = same_Some d c (sym here ∙ ap (call_at (state w.locks.rows)) same ∙ moves.steps.here) in
        absurd (false≢true (sym no_try ∙ ap (λ (z : Call). core_tries z.core) is ∙ tries))

    met-now : core_tries c.core ≡ true → word_at (state w.locks.rows) c.lock ≢ 0 → HasMet x w t p
    met-now tries word =
        let o = tries-admits x w sound fit t p at c moves.steps.here tries in
        let claim = claim-at x (threads_of w) w.blocks w.replies w.tables t p (phase.Admit o.0) o.1
        (sound.stands t p at) in
        let stood : IsWanting p (mode_of o.0) (request_manner o.0) (stand_in w.locks t) =
        subst (λ (g : Phase K V D T A). StandsBefore p g (stand_in w.locks t)) o.1 (sound.holds.stands t p at) in
        let lock : c.lock ≡ p.shard =
        ap (λ z. z.shard) (same_Some (stand_of c) _ (sym (ap (option_map stand_of) moves.steps.here) ∙ stood.is)) in
        let u = who w.locks fit c.lock word in
        let is = there w.locks fit c.lock word in
        record {
          start = claim.0.start;
          started = claim.0.started;
          step = next_step w;
          from = (let lt = step-low x w sound t claim.0.start claim.0.begun in omega (arith, lt));
          until = omega arith;
          other = u;
          another = apart u is tries;
          on = subst (λ (n : ℕ). IsOnNow x w u n) lock (on-there c.lock u is) (next_step w) (omega arith);
        }

    -- it has met one before, or does now
    pub meets : sees (call_at (state locks.rows) t) ≡ true → HasMet x w t p
    meets seen = elim (own-sees (state w.locks.rows) (state locks.rows) t fair moves.steps seen) [
      | inl before ↦ causes.met t p c at moves.steps.here before
      | inr now ↦ met-now now.0 now.1
    ]
