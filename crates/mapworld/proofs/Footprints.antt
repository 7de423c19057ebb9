-- Every step does one thing, and keeps to its footprint.
use Rattle.std.proofs.Common.{◌≡◌, ◌≢◌, ◌⊎◌, ℕ, inl, inr, ◌+◌, Bool, true, false, List, [], ◌∷◌, ◌++◌, length, Option}
use Rattle.std.proofs.Common.{Some, None}
use Rattle.std.proofs.Common.{slice_get, slice_set, refl, ap, sym, ◌∙◌, subst}
use Rattle.std.specs.List.{flat_map}
use Rattle.std.specs.Option.{option_and_then}
use Rattle.std.proofs.lemmas.Bool.{cases_eq, cond-false}
use Rattle.std.proofs.lemmas.Option.{same_Some}
use Rattle.mapworld_calls.specs.declared.ask.Walk.{Walk}
use Rattle.mapworld_calls.specs.declared.ask.Walk.TheVariants as walk
use Rattle.mapworld_calls.specs.declared.reply.Reply.{Reply}
use Rattle.mapworld_calls.specs.Setup.{Setup, Laws}
use Rattle.mapworld_calls.specs.Pairs.{pair_of}
use Rattle.mapworld_calls.proofs.Lists.{slice_get-set_same, slice_get-set_other}
use Rattle.parking_lot_machine.specs.Rows.{state, queue_at, first_key, second_key}
use Rattle.mapworld_state.specs.Locks.Fits.{LocksFit}
use Rattle.mapworld_state.specs.Locks.Footprints.{StepsTouchOneLock}
use Rattle.mapworld_state.specs.Locks.Views.{Shown}
use Rattle.mapworld_state.specs.declared.place.Phase.{Phase}
use Rattle.mapworld_state.specs.declared.place.Phase.TheVariants as phase
use Rattle.mapworld_state.specs.declared.step.Step.{Step}
use Rattle.mapworld_state.specs.Places.{Place}
use Rattle.mapworld_state.specs.State.{State, next_step, pairs_of, started_of, threads_of}
use Rattle.mapworld_state.specs.Steps.{Expires, IsOwnStep, by_itself, by_deadline}
use Rattle.mapworld_state.specs.Steps.{IsStep, Concludes, Enters, EntersBy, GivesBack, IsRefusedVisit, Leaves}
use Rattle.mapworld_state.specs.Steps.{LooksAround, Reaches, Starts, StartsVisit, owed, locked, idle, start, lock, find}
use Rattle.mapworld_state.specs.Steps.{find_grows, find_refused, deed_appends, deed_applies, deed_views, deed_reads}
use Rattle.mapworld_state.specs.Steps.{deed_changes, deed_fills, downgrade, release, answers, visit_starts, visit_parts}
use Rattle.mapworld_state.specs.Steps.{visit_looks, visit_seeks, visit_does, visit_gives}
use Rattle.mapworld_state.specs.Footprint.{KeepsPairs, OthersKeepPairs, KeepsLocks, word_of, neither, one_pair}
use Rattle.mapworld_state.specs.Footprint.{one_lock, HasFootprint}
use Rattle.mapworld_state.specs.Sound.{Sound}
use Rattle.mapworld_state.specs.Shards.{ShardPairs, Puts}
use Rattle.mapworld_state.specs.Walks.{IsLookedAt}
use Rattle.mapworld.proofs.ProgressFacts.Visiting.{ItemPuts, item-puts}
use Rattle.mapworld.specs.Atomic.{Comes, DoesOne, IsAtomic, KeepsCalls, StaysInCall, starts, looks, deed, at_lock}
use Rattle.mapworld.specs.Atomic.{answers as replied, core_in}
use Rattle.mapworld.proofs.Cores.{KeepsOthers, calls-behind, calls-moves, calls-same, calls-starts, others-begins}
use Rattle.mapworld.proofs.Cores.{others-ends, others-expires, others-same}
use Rattle.mapworld_state.proofs.LocksFacts.Lawful.{fit-ends}
use Rattle.mapworld.proofs.LockSteps.{TouchesLock, begins_keep, ends_keep, expires_keep, keeps_behind}
use Rattle.mapworld.proofs.LockSteps.{moves_touch, starts_touch, touches_behind}
use Rattle.mapworld.proofs.Viewing.{pair_at_route}
use Rattle.mapworld.proofs.Outcomes.{element-at}
use Rattle.mapworld_state.proofs.InvariantFacts.Building.{claim-at}
use Rattle.mapworld_state.proofs.InvariantFacts.Sounds.{sound-step}

same_locks : (locks locks' : Shown) → locks' ≡ locks → KeepsLocks locks locks'
same_locks locks locks' same i = record {
  word = ap (λ l. word_of l i) same;
  first = ap (λ (l : Shown). queue_at (state l.rows) (first_key i)) same;
  second = ap (λ (l : Shown). queue_at (state l.rows) (second_key i)) same;
  desk = ap (λ (l : Shown). slice_get l.desks i) same;
}

same_pairs : {K V S D T A : Type 0} (eq : K → K → Bool) (w w' : State K V S D T A) → w'.tables ≡ w.tables
    → KeepsPairs eq w w'
same_pairs {K} {V} eq w w' same q = ap (λ (ts : List (ShardPairs K V)). pair_of eq (flat_map (λ t. t.items) ts) q) same

-- a start that begins the call of a lock, or none
enters_keep : {K V D T A : Type 0} (t shard : ℕ) (locks locks' : Shown) (f : Phase K V D T A)
    → EntersBy t shard f locks locks' → KeepsLocks locks locks'
enters_keep t shard locks locks' phase.Rest h = same_locks locks locks' h
enters_keep t shard locks locks' (phase.Admit r) h = begins_keep t shard _ locks locks' h
enters_keep t shard locks locks' (phase.Find r) h = same_locks locks locks' h
enters_keep t shard locks locks' (phase.Grow c) h = same_locks locks locks' h
enters_keep t shard locks locks' (phase.Append k v) h = same_locks locks locks' h
enters_keep t shard locks locks' (phase.Apply k) h = same_locks locks locks' h
enters_keep t shard locks locks' (phase.View k d) h = same_locks locks locks' h
enters_keep t shard locks locks' (phase.Read d) h = same_locks locks locks' h
enters_keep t shard locks locks' (phase.Change k) h = same_locks locks locks' h
enters_keep t shard locks locks' (phase.Fill v) h = same_locks locks locks' h
enters_keep t shard locks locks' phase.Downgrade h = same_locks locks locks' h
enters_keep t shard locks locks' (phase.Idle f) h = same_locks locks locks' h
enters_keep t shard locks locks' (phase.Reach f) h = begins_keep t shard _ locks locks' h
enters_keep t shard locks locks' (phase.Part f) h = same_locks locks locks' h
enters_keep t shard locks locks' (phase.Visit f) h = same_locks locks locks' h
enters_keep t shard locks locks' (phase.Seek f) h = same_locks locks locks' h
enters_keep t shard locks locks' (phase.Item f) h = same_locks locks locks' h
enters_keep t shard locks locks' (phase.Give f) h = same_locks locks locks' h
enters_keep t shard locks locks' (phase.Onward f) h = same_locks locks locks' h
enters_keep t shard locks locks' (phase.Release a) h = same_locks locks locks' h
enters_keep t shard locks locks' (phase.Answer a) h = same_locks locks locks' h

-- a look of a walk leaves what each key has
looked_keeps : {K V D : Type 0} (eq : K → K → Bool) (f : Walk D) (old new : ShardPairs K V) → IsLookedAt eq f old new
    → (q : K) → pair_of eq new.items q ≡ pair_of eq old.items q
looked_keeps eq walk.ShrinkToFit old new h q = h.found q
looked_keeps eq (walk.Iter d stop) old new h q = ap (λ (t : ShardPairs _ _). pair_of eq t.items q) h
looked_keeps eq (walk.IterMut d stop) old new h q = ap (λ (t : ShardPairs _ _). pair_of eq t.items q) h
looked_keeps eq (walk.Retain d) old new h q = ap (λ (t : ShardPairs _ _). pair_of eq t.items q) h
looked_keeps eq (walk.AlterAll d) old new h q = ap (λ (t : ShardPairs _ _). pair_of eq t.items q) h
looked_keeps eq walk.Clear old new h q = ap (λ (t : ShardPairs _ _). pair_of eq t.items q) h
looked_keeps eq walk.Len old new h q = ap (λ (t : ShardPairs _ _). pair_of eq t.items q) h
looked_keeps eq walk.IsEmpty old new h q = ap (λ (t : ShardPairs _ _). pair_of eq t.items q) h
looked_keeps eq walk.Capacity old new h q = ap (λ (t : ShardPairs _ _). pair_of eq t.items q) h

-- the start that a place shows
abbrev pub started_in : {K V D T A : Type 0} → Option (Place K V D T A) → Option ℕ
started_in o = option_and_then (λ p. p.started) o

started-set : {K V D T A : Type 0} (places : List (Place K V D T A)) (t : ℕ) (q p : Place K V D T A)
    → slice_get places t ≡ Some q → started_in (slice_get (slice_set places t p) t) ≡ p.started
started-set places t q p at = ap started_in (slice_get-set_same places t q p at)

-- a start begins a call of its thread's own, or none
pub enters_alone : {K V D T A : Type 0} (t shard : ℕ) (locks locks' : Shown) (f : Phase K V D T A)
    → EntersBy t shard f locks locks' → KeepsOthers t locks locks'
enters_alone t shard locks locks' phase.Rest h = others-same t locks locks' h
enters_alone t shard locks locks' (phase.Admit r) h = others-begins t shard _ locks locks' h
enters_alone t shard locks locks' (phase.Find r) h = others-same t locks locks' h
enters_alone t shard locks locks' (phase.Grow c) h = others-same t locks locks' h
enters_alone t shard locks locks' (phase.Append k v) h = others-same t locks locks' h
enters_alone t shard locks locks' (phase.Apply k) h = others-same t locks locks' h
enters_alone t shard locks locks' (phase.View k d) h = others-same t locks locks' h
enters_alone t shard locks locks' (phase.Read d) h = others-same t locks locks' h
enters_alone t shard locks locks' (phase.Change k) h = others-same t locks locks' h
enters_alone t shard locks locks' (phase.Fill v) h = others-same t locks locks' h
enters_alone t shard locks locks' phase.Downgrade h = others-same t locks locks' h
enters_alone t shard locks locks' (phase.Idle f) h = others-same t locks locks' h
enters_alone t shard locks locks' (phase.Reach f) h = others-begins t shard _ locks locks' h
enters_alone t shard locks locks' (phase.Part f) h = others-same t locks locks' h
enters_alone t shard locks locks' (phase.Visit f) h = others-same t locks locks' h
enters_alone t shard locks locks' (phase.Seek f) h = others-same t locks locks' h
enters_alone t shard locks locks' (phase.Item f) h = others-same t locks locks' h
enters_alone t shard locks locks' (phase.Give f) h = others-same t locks locks' h
enters_alone t shard locks locks' (phase.Onward f) h = others-same t locks locks' h
enters_alone t shard locks locks' (phase.Release a) h = others-same t locks locks' h
enters_alone t shard locks locks' (phase.Answer a) h = others-same t locks locks' h

-- what a step does that is no deadline
record DoesOneAlone {K V S D T A : Type 0} (eq : K → K → Bool) (w : State K V S D T A) (s : Step)
    (w' : State K V S D T A) : Type 0 where
  places : (t : ℕ) → t ≢ s.thread → slice_get w'.places t ≡ slice_get w.places t
  calls : KeepsCalls s.thread w.locks w'.locks
  steps : w'.steps ≡ w.steps ++ s ∷ []
  does : DoesOne eq w s w'

module _ {K V S D T A : Type 0} (eq : K → K → Bool) (w : State K V S D T A) (s : Step) (w' : State K V S D T A)
    (places : (t : ℕ) → t ≢ s.thread → slice_get w'.places t ≡ slice_get w.places t) where
  -- a step that does one thing keeps to its footprint
  footprint_of_one : DoesOne eq w s w' → HasFootprint eq w s w'
  footprint_of_one (starts none now replies pairs locks) = record
      { places = places; touches = neither pairs locks; replies = inl replies }
  footprint_of_one (looks stays pairs locks) = record
      { places = places; touches = neither pairs locks; replies = inl (stays.replies) }
  footprint_of_one (deed stays key others locks) = record
      { places = places; touches = one_pair key others locks; replies = inl (stays.replies) }
  footprint_of_one (at_lock stays shard pairs others here) = record
      { places = places; touches = one_lock shard pairs others here; replies = inl (stays.replies) }
  footprint_of_one (replied r pairs locks) = record
      { places = places; touches = neither pairs locks; replies = inr (r.reply, r.thread, r.replies) }

  -- and so does a deadline
  footprint_of : ((s.deadline ≡ false) × DoesOne eq w s w') ⊎ ((s.deadline ≡ true) × Comes eq w s w')
      → HasFootprint eq w s w'
  footprint_of (inl own) = footprint_of_one own.1
  footprint_of (inr late) = record
      { places = places; touches = neither late.1.pairs late.1.locks; replies = inl (late.1.stays.replies) }

-- a step's part before the look, or before the answer
pub record Prepares {K V S D T A : Type 0} (w : State K V S D T A) (t : ℕ) (mid : State K V S D T A) : Type 0 where
  pub places : (u : ℕ) → u ≢ t → slice_get mid.places u ≡ slice_get w.places u
  pub tables : mid.tables ≡ w.tables
  pub locks : KeepsLocks w.locks mid.locks
  pub calls : KeepsOthers t w.locks mid.locks
  pub started : started_of mid t ≡ started_of w t
  pub steps : mid.steps ≡ w.steps
  pub replies : mid.replies ≡ w.replies

module _ {K V S D T A : Type 0} (w : State K V S D T A) (t : ℕ) (mid : State K V S D T A) where
  nothing : mid ≡ w → Prepares w t mid
  nothing same = record {
    calls = others-same t w.locks mid.locks (ap (λ (v : State K V S D T A). v.locks) same);
    started = ap (λ (v : State K V S D T A). started_of v t) same;
    steps = ap (λ (v : State K V S D T A). v.steps) same;
    places = λ u ne. ap (λ (v : State K V S D T A). slice_get v.places u) same;
    tables = ap (λ (v : State K V S D T A). v.tables) same;
    locks = same_locks w.locks mid.locks (ap (λ (v : State K V S D T A). v.locks) same);
    replies = ap (λ (v : State K V S D T A). v.replies) same;
  }

  -- its thread's place is another, and its lock's call
  placed : (q p : Place K V D T A) (locks : Shown) → slice_get w.places t ≡ Some q → p.started ≡ q.started
      → mid ≡ record w { places = slice_set w.places t p; locks = locks } → KeepsLocks w.locks locks
      → KeepsOthers t w.locks locks → Prepares w t mid
  placed q p locks at still after keep others = record {
    calls = subst (λ l. KeepsOthers t w.locks l) (sym (ap (λ (v : State K V S D T A). v.locks) after)) others;
    started = ap (λ (v : State K V S D T A). started_of v t) after ∙ started-set w.places t q p at ∙ still
        ∙ sym (ap started_in at);
    steps = ap (λ (v : State K V S D T A). v.steps) after;
    places = λ u ne. ap (λ (v : State K V S D T A). slice_get v.places u) after
        ∙ slice_get-set_other w.places t u p (λ e. ne (sym e));
    tables = ap (λ (v : State K V S D T A). v.tables) after;
    locks = subst (λ l. KeepsLocks w.locks l) (sym (ap (λ (v : State K V S D T A). v.locks) after)) keep;
    replies = ap (λ (v : State K V S D T A). v.replies) after;
  }

  entered : Enters w t mid → Prepares w t mid
  entered a = placed a.place _ a.locks a.stands refl a.after (ends_keep t _ w.locks a.locks a.ends)
      (others-ends t _ w.locks a.locks a.ends)

  reached : Reaches w t mid → Prepares w t mid
  reached a = placed a.place _ a.locks a.stands refl a.after (ends_keep t _ w.locks a.locks a.ends)
      (others-ends t _ w.locks a.locks a.ends)

  left : Leaves w t mid → Prepares w t mid
  left a = record {
    calls = subst (λ l. KeepsOthers t w.locks l) (sym (ap (λ (v : State K V S D T A). v.locks) a.after))
        (others-ends t _ w.locks a.locks a.ends);
    started = ap (λ (v : State K V S D T A). started_of v t) a.after;
    steps = ap (λ (v : State K V S D T A). v.steps) a.after;
    places = λ u ne. ap (λ (v : State K V S D T A). slice_get v.places u) a.after;
    tables = ap (λ (v : State K V S D T A). v.tables) a.after;
    locks = subst (λ l. KeepsLocks w.locks l) (sym (ap (λ (v : State K V S D T A). v.locks) a.after))
        (ends_keep t _ w.locks a.locks a.ends);
    replies = ap (λ (v : State K V S D T A). v.replies) a.after;
  }

  pub entering : (mid ≡ w) ⊎ Enters w t mid → Prepares w t mid
  entering (inl same) = nothing same
  entering (inr a) = entered a

  pub leaving : (mid ≡ w) ⊎ Leaves w t mid → Prepares w t mid
  leaving (inl same) = nothing same
  leaving (inr a) = left a

  pub parting : (mid ≡ w) ⊎ Reaches w t mid → Prepares w t mid
  parting (inl same) = nothing same
  parting (inr a) = reached a

  -- and the locks fit together still
  pub parting_fit : LocksFit w.locks → (mid ≡ w) ⊎ Reaches w t mid → LocksFit mid.locks
  parting_fit fit (inl same) = subst (λ (v : State K V S D T A). LocksFit v.locks) (sym same) fit
  parting_fit fit (inr a) = subst LocksFit (sym (ap (λ (v : State K V S D T A). v.locks) a.after))
      (fit-ends t _ w.locks a.locks fit a.ends)

  pub visiting : (mid ≡ w) ⊎ (Reaches w t mid ⊎ Leaves w t mid) → Prepares w t mid
  visiting (inl same) = nothing same
  visiting (inr (inl a)) = reached a
  visiting (inr (inr a)) = left a

  pub concluding : (mid ≡ w) ⊎ Concludes w t mid → Prepares w t mid
  concluding (inl same) = nothing same
  concluding (inr (owed a)) = left a
  concluding (inr (locked a)) = placed a.place _ a.locks a.stands refl a.after (ends_keep t _ w.locks a.locks a.ends)
      (others-ends t _ w.locks a.locks a.ends)
  concluding (inr (idle a)) = placed a.place _ w.locks a.stands refl a.after (same_locks w.locks w.locks refl)
      (others-same t w.locks w.locks refl)

module _ {K V S D T A : Type 0} (x : Setup K V D T) (laws : Laws x) (w : State K V S D T A) (s : Step)
    (w' : State K V S D T A) (sound : Sound x w) where
  -- a shard that is another one has at a key what it had: so has the map
  shard_keeps : IsStep x w s w' → (shard : ℕ) (old new : ShardPairs K V) → slice_get w.tables shard ≡ Some old
      → w'.tables ≡ slice_set w.tables shard new → (q : K) → pair_of x.eq new.items q ≡ pair_of x.eq old.items q
      → pair_of x.eq (pairs_of w') q ≡ pair_of x.eq (pairs_of w) q
  shard_keeps step shard old new held tables q same =
      let table = element-at w.tables (x.route q) (sound.routes q) in
      let now = sound-step x laws w s w' sound step in
      let still : (t : ShardPairs K V) × (slice_get w'.tables (x.route q) ≡ Some t)
      × (pair_of x.eq t.items q ≡ pair_of x.eq table.0.items q) = elim (cases_eq shard (x.route q)) [
        | inl here ↦
            let own = same_Some old table.0 (sym held ∙ (ap (slice_get w.tables) here ∙ table.1)) in (
              new,
              ap (λ (ts : List (ShardPairs K V)). slice_get ts (x.route q)) tables
                  ∙ (ap (slice_get (slice_set w.tables shard new)) (sym here)
                  ∙ slice_get-set_same w.tables shard old new held),
              same ∙ ap (λ (t : ShardPairs K V). pair_of x.eq t.items q) own,
            )
        | inr other ↦ (
          table.0,
          ap (λ (ts : List (ShardPairs K V)). slice_get ts (x.route q)) tables
              ∙ (slice_get-set_other w.tables shard (x.route q) new other ∙ table.1),
          refl,
        )
      ] in
      pair_at_route x w'.blocks w'.tables laws now.tables q still.0 still.1
      ∙ (still.2 ∙ sym (pair_at_route x w.blocks w.tables laws sound.tables q table.0 table.1))

  -- where it changes the pair of one key, the pairs of other keys stay
  others_keep : IsStep x w s w' → (shard : ℕ) (old new : ShardPairs K V) → slice_get w.tables shard ≡ Some old
      → w'.tables ≡ slice_set w.tables shard new → (key : K) (o : Option (K × V)) → Puts x.eq old new key o
      → (key : K) × OthersKeepPairs x.eq w w' key
  others_keep step shard old new held tables key o puts = (
    key,
    λ q other. shard_keeps step shard old new held tables q
        (puts.found q ∙ cond-false (x.eq key q) o (pair_of x.eq old.items q) other),
  )

  item_keeps : IsStep x w s w' → (shard : ℕ) (f : Walk D) (old new : ShardPairs K V) (pair : K × V)
      → slice_get w.tables shard ≡ Some old → w'.tables ≡ slice_set w.tables shard new
      → ItemPuts x.deeds x.eq f old new pair
      → (key : K) × OthersKeepPairs x.eq w w' key
  item_keeps step shard f old new pair held tables
      (inl same) = (
        pair.0,
        λ q other. shard_keeps step shard old new held tables q
            (ap (λ (t : ShardPairs K V). pair_of x.eq t.items q) same),
      )
  item_keeps step shard f old new pair held tables (inr puts) = others_keep step shard old new held tables pair.0 _ puts

  keep_locks : w'.locks ≡ w.locks → KeepsLocks w.locks w'.locks
  keep_locks same = same_locks w.locks w'.locks same

  -- of a step that changes neither pairs nor locks, but for the place of its thread, behind what comes before it
  module _ (mid : State K V S D T A) (p : Prepares w s.thread mid) (q : Place K V D T A)
      (at : slice_get mid.places s.thread ≡ Some q) (p' : Place K V D T A)
      (places : w'.places ≡ slice_set mid.places s.thread p') (steps : w'.steps ≡ mid.steps ++ s ∷ []) where
    stay : (t : ℕ) → t ≢ s.thread → slice_get w'.places t ≡ slice_get w.places t
    stay t ne = ap (λ ps. slice_get ps t) places ∙ (slice_get-set_other mid.places s.thread t p' (λ e. ne (sym e))
        ∙ p.places t ne)

    begun : started_of w' s.thread ≡ p'.started
    begun = ap (λ ps. started_in (slice_get ps s.thread)) places ∙ started-set mid.places s.thread q p' at

    was : started_of w s.thread ≡ q.started
    was = sym p.started ∙ ap started_in at

    listed : w'.steps ≡ w.steps ++ s ∷ []
    listed = steps ∙ ap (λ ss. ss ++ s ∷ []) p.steps

    behind : (locks : Shown) → w'.locks ≡ locks → KeepsCalls s.thread mid.locks locks
        → KeepsCalls s.thread w.locks w'.locks
    behind locks same calls = subst (KeepsCalls s.thread w.locks) (sym same)
        (calls-behind s.thread w.locks mid.locks locks p.calls calls)

    alone : w'.locks ≡ mid.locks → KeepsCalls s.thread w.locks w'.locks
    alone same = behind mid.locks same (calls-same s.thread mid.locks mid.locks
        (others-same s.thread mid.locks mid.locks refl))

    goes_on : p'.started ≡ q.started → w'.replies ≡ mid.replies → StaysInCall x.eq w s w'
    goes_on still replies = record { started = begun ∙ still ∙ sym was; replies = replies ∙ p.replies }

    quiet : p'.started ≡ q.started → KeepsPairs x.eq w w' → (locks : Shown) → w'.locks ≡ locks
        → KeepsLocks mid.locks locks → KeepsCalls s.thread mid.locks locks → w'.replies ≡ mid.replies
        → DoesOneAlone x.eq w s w'
    quiet still pairs locks same keep calls replies = record {
      places = stay;
      calls = behind locks same calls;
      steps = listed;
      does = looks (goes_on still replies) pairs (keeps_behind w.locks mid.locks w'.locks p.locks
          (subst (KeepsLocks mid.locks) (sym same) keep));
    }

    -- of one that leaves the locks alone
    beside : p'.started ≡ q.started → KeepsPairs x.eq w w' → w'.locks ≡ mid.locks → w'.replies ≡ mid.replies
        → DoesOneAlone x.eq w s w'
    beside still pairs same replies =
        quiet still pairs mid.locks same (same_locks mid.locks mid.locks refl)
        (calls-same s.thread mid.locks mid.locks (others-same s.thread mid.locks mid.locks refl)) replies

    -- of one that changes one pair
    on_pair : p'.started ≡ q.started → (key : K) × OthersKeepPairs x.eq w w' key → w'.locks ≡ mid.locks
        → w'.replies ≡ mid.replies → DoesOneAlone x.eq w s w'
    on_pair still pair same replies = record {
      places = stay;
      calls = alone same;
      steps = listed;
      does = deed (goes_on still replies) pair.0 pair.1
          (keeps_behind w.locks mid.locks w'.locks p.locks (same_locks mid.locks w'.locks same));
    }

    -- of one at a lock
    on_lock : p'.started ≡ q.started → (locks : Shown) → w'.tables ≡ mid.tables → w'.locks ≡ locks
        → TouchesLock mid.locks locks → KeepsCalls s.thread mid.locks locks → w'.replies ≡ mid.replies
        → DoesOneAlone x.eq w s w'
    on_lock still locks tables same touched calls replies =
        let t = touches_behind w.locks mid.locks w'.locks p.locks
        (subst (λ l. TouchesLock mid.locks l) (sym same) touched) in
        record {
          places = stay;
          calls = behind locks same calls;
          steps = listed;
          does = at_lock
              (goes_on still replies) t.shard (same_pairs x.eq w w' (tables ∙ p.tables)) t.others t.here;
        }

    -- of an answer
    reply : (r : Reply K V T A) → r.thread ≡ s.thread → q.started ≡ Some r.start → r.end ≡ next_step mid
        → p'.started ≡ None → w'.tables ≡ mid.tables → w'.locks ≡ mid.locks → w'.replies ≡ mid.replies ++ r ∷ []
        → DoesOneAlone x.eq w s w'
    reply r own began end over tables same replies = record {
      places = stay;
      calls = alone same;
      steps = listed;
      does = replied
          (record {
            reply = r;
            thread = own;
            start = was ∙ began;
            end = end
                ∙ ap (λ ss. length ss + 1) p.steps;
            over = begun ∙ over;
            replies = replies
                ∙ ap (λ rs. rs ++ r ∷ []) p.replies;
          })
          (same_pairs x.eq w w' (tables ∙ p.tables)) (keeps_behind w.locks mid.locks w'.locks p.locks
          (same_locks mid.locks w'.locks same));
    }

  looks_print : (step : IsStep x w s w') (mid : State K V S D T A) → Prepares w s.thread mid → LooksAround x mid s w'
      ⊎ IsRefusedVisit x mid s w' → DoesOneAlone x.eq w s w'
  looks_print step mid p (inl a) =
      beside mid p a.place a.stands _ (ap (λ (v : State K V S D T A). v.places) a.after)
      (ap (λ (v : State K V S D T A). v.steps) a.after) refl
      (λ q. shard_keeps step a.place.shard a.table a.behind
      (ap (λ ts. slice_get ts a.place.shard) (sym p.tables) ∙ a.held)
      ((ap (λ (v : State K V S D T A). v.tables) a.after)
      ∙ ap (λ ts. slice_set ts a.place.shard a.behind) p.tables)
      q (looked_keeps x.eq a.walk a.table a.behind a.looked q)) (ap (λ (v : State K V S D T A). v.locks) a.after)
      (ap (λ (v : State K V S D T A). v.replies) a.after)
  looks_print step mid p (inr a) =
      beside mid p a.place a.stands _ (ap (λ (v : State K V S D T A). v.places) a.after)
      (ap (λ (v : State K V S D T A). v.steps) a.after) refl
      (same_pairs x.eq w w' ((ap (λ (v : State K V S D T A). v.tables) a.after) ∙ p.tables))
      (ap (λ (v : State K V S D T A). v.locks) a.after) (ap (λ (v : State K V S D T A). v.replies) a.after)

  starts_print : (mid : State K V S D T A) → Prepares w s.thread mid → StartsVisit x mid s w' → DoesOneAlone x.eq w s w'
  starts_print mid p a =
      quiet mid p a.place a.stands _ (ap (λ (v : State K V S D T A). v.places) a.after)
      (ap (λ (v : State K V S D T A). v.steps) a.after) refl
      (same_pairs x.eq w w' ((ap (λ (v : State K V S D T A). v.tables) a.after) ∙ p.tables))
      a.locks (ap (λ (v : State K V S D T A). v.locks) a.after) (begins_keep s.thread _ _ mid.locks a.locks a.begins)
      (calls-same s.thread mid.locks a.locks (others-begins s.thread _ _ mid.locks a.locks a.begins))
      (ap (λ (v : State K V S D T A). v.replies) a.after)

  module _ (touch : StepsTouchOneLock) (fit : LocksFit w.locks) where
    whole : Prepares w s.thread w
    whole = nothing w s.thread w refl

    -- of one at a lock, which begins there
    gives_print : (mid : State K V S D T A) → Prepares w s.thread mid → LocksFit mid.locks
        → (from to : Walk D → Phase K V D T A) → GivesBack x mid s w' from to → DoesOneAlone x.eq w s w'
    gives_print mid p fine from to a =
        on_lock mid p a.place a.stands _ (ap (λ (v : State K V S D T A). v.places) a.after)
        (ap (λ (v : State K V S D T A). v.steps) a.after) refl a.locks
        (ap (λ (v : State K V S D T A). v.tables) a.after) (ap (λ (v : State K V S D T A). v.locks) a.after)
        (starts_touch touch s.thread a.hold.shard _ s.fair mid.locks a.locks fine a.gives)
        (calls-starts s.thread a.hold.shard _ s.fair mid.locks a.locks a.gives)
        (ap (λ (v : State K V S D T A). v.replies) a.after)

    begins_print : Starts x w s w' → DoesOneAlone x.eq w s w'
    begins_print a =
        let places = (ap (λ (v : State K V S D T A). v.places) a.after) in
        let steps = (ap (λ (v : State K V S D T A). v.steps) a.after) in
        let none = (claim-at x (threads_of w) w.blocks w.replies w.tables s.thread a.place phase.Rest a.before
        (sound.stands s.thread a.place a.stands)).0 in
        record {
          places = stay w whole a.place a.stands _ places steps;
          calls = behind w whole a.place a.stands _ places steps a.locks
              (ap (λ (v : State K V S D T A). v.locks) a.after)
              (calls-same s.thread w.locks a.locks (enters_alone s.thread _ w.locks a.locks _ a.enters));
          steps = steps;
          does = starts (ap started_in a.stands ∙ none) (begun w whole a.place a.stands _ places steps)
              (ap (λ (v : State K V S D T A). v.replies) a.after)
              (same_pairs x.eq w w' (ap (λ (v : State K V S D T A). v.tables) a.after))
              (subst (λ l. KeepsLocks w.locks l) (sym (ap (λ (v : State K V S D T A). v.locks) a.after))
              (enters_keep s.thread _ w.locks a.locks _ a.enters));
        }

    own_atomic : s.deadline ≡ false → IsOwnStep x w s w' → DoesOneAlone x.eq w s w'
    own_atomic mine (start a) = begins_print a
    own_atomic mine (lock a) =
        on_lock w whole a.place a.stands a.place (ap (λ (v : State K V S D T A). v.places) a.after)
        (ap (λ (v : State K V S D T A). v.steps) a.after) refl a.locks
        (ap (λ (v : State K V S D T A). v.tables) a.after) (ap (λ (v : State K V S D T A). v.locks) a.after)
        (moves_touch touch s.thread s.fair w.locks a.locks fit a.moves)
        (calls-moves s.thread s.fair w.locks a.locks a.moves) (ap (λ (v : State K V S D T A). v.replies) a.after)
    own_atomic mine (find h) =
        let a = h.finds in
        let p = entering w s.thread h.mid h.enters in
        beside h.mid p a.place a.stands _ (ap (λ (v : State K V S D T A). v.places) a.after)
        (ap (λ (v : State K V S D T A). v.steps) a.after) refl
        (same_pairs x.eq w w' ((ap (λ (v : State K V S D T A). v.tables) a.after) ∙ p.tables))
        (ap (λ (v : State K V S D T A). v.locks) a.after) (ap (λ (v : State K V S D T A). v.replies) a.after)
    own_atomic mine (find_grows a) =
        beside w whole a.place a.stands _ (ap (λ (v : State K V S D T A). v.places) a.after)
        (ap (λ (v : State K V S D T A). v.steps) a.after) refl
        (λ q. shard_keeps (by_itself mine (find_grows a)) a.place.shard a.table a.grown a.held
        (ap (λ (v : State K V S D T A). v.tables) a.after) q (a.grows.found q))
        (ap (λ (v : State K V S D T A). v.locks) a.after) (ap (λ (v : State K V S D T A). v.replies) a.after)
    own_atomic mine (find_refused a) = beside w whole a.place a.stands _
        (ap (λ (v : State K V S D T A). v.places) a.after) (ap (λ (v : State K V S D T A). v.steps) a.after) refl
        (same_pairs x.eq w w' (ap (λ (v : State K V S D T A). v.tables) a.after))
        (ap (λ (v : State K V S D T A). v.locks) a.after) (ap (λ (v : State K V S D T A). v.replies) a.after)
    own_atomic mine (deed_appends a) = on_pair w whole a.place a.stands _
        (ap (λ (v : State K V S D T A). v.places) a.after) (ap (λ (v : State K V S D T A). v.steps) a.after) refl
        (others_keep (by_itself mine (deed_appends a)) a.place.shard a.table a.changed a.held
        (ap (λ (v : State K V S D T A). v.tables) a.after) a.key _ a.puts)
        (ap (λ (v : State K V S D T A). v.locks) a.after) (ap (λ (v : State K V S D T A). v.replies) a.after)
    own_atomic mine (deed_applies a) = on_pair w whole a.place a.stands _
        (ap (λ (v : State K V S D T A). v.places) a.after) (ap (λ (v : State K V S D T A). v.steps) a.after) refl
        (others_keep (by_itself mine (deed_applies a)) a.place.shard a.table a.changed a.held
        (ap (λ (v : State K V S D T A). v.tables) a.after) _ _ a.puts)
        (ap (λ (v : State K V S D T A). v.locks) a.after) (ap (λ (v : State K V S D T A). v.replies) a.after)
    own_atomic mine (deed_views a) = beside w whole a.place a.stands _
        (ap (λ (v : State K V S D T A). v.places) a.after)
        (ap (λ (v : State K V S D T A). v.steps) a.after) refl
        (same_pairs x.eq w w' (ap (λ (v : State K V S D T A). v.tables) a.after))
        (ap (λ (v : State K V S D T A). v.locks) a.after) (ap (λ (v : State K V S D T A). v.replies) a.after)
    own_atomic mine (deed_reads a) = beside w whole a.place a.stands _
        (ap (λ (v : State K V S D T A). v.places) a.after)
        (ap (λ (v : State K V S D T A). v.steps) a.after) refl
        (same_pairs x.eq w w' (ap (λ (v : State K V S D T A). v.tables) a.after))
        (ap (λ (v : State K V S D T A). v.locks) a.after) (ap (λ (v : State K V S D T A). v.replies) a.after)
    own_atomic mine (deed_changes a) = on_pair w whole a.place a.stands _
        (ap (λ (v : State K V S D T A). v.places) a.after) (ap (λ (v : State K V S D T A). v.steps) a.after) refl
        (others_keep (by_itself mine (deed_changes a)) a.place.shard a.table a.changed a.held
        (ap (λ (v : State K V S D T A). v.tables) a.after) a.key _ a.puts)
        (ap (λ (v : State K V S D T A). v.locks) a.after) (ap (λ (v : State K V S D T A). v.replies) a.after)
    own_atomic mine (deed_fills a) = on_pair w whole a.place a.stands _
        (ap (λ (v : State K V S D T A). v.places) a.after) (ap (λ (v : State K V S D T A). v.steps) a.after) refl
        (others_keep (by_itself mine (deed_fills a)) a.place.shard a.table a.changed a.held
        (ap (λ (v : State K V S D T A). v.tables) a.after) a.key _ a.puts)
        (ap (λ (v : State K V S D T A). v.locks) a.after) (ap (λ (v : State K V S D T A). v.replies) a.after)
    own_atomic mine (downgrade a) =
        on_lock w whole a.place a.stands _ (ap (λ (v : State K V S D T A). v.places) a.after)
        (ap (λ (v : State K V S D T A). v.steps) a.after) refl a.locks
        (ap (λ (v : State K V S D T A). v.tables) a.after) (ap (λ (v : State K V S D T A). v.locks) a.after)
        (starts_touch touch s.thread a.hold.shard _ s.fair w.locks a.locks fit a.turns)
        (calls-starts s.thread a.hold.shard _ s.fair w.locks a.locks a.turns)
        (ap (λ (v : State K V S D T A). v.replies) a.after)
    own_atomic mine (release a) =
        on_lock w whole a.place a.stands _ (ap (λ (v : State K V S D T A). v.places) a.after)
        (ap (λ (v : State K V S D T A). v.steps) a.after) refl a.locks
        (ap (λ (v : State K V S D T A). v.tables) a.after) (ap (λ (v : State K V S D T A). v.locks) a.after)
        (starts_touch touch s.thread a.hold.shard _ s.fair w.locks a.locks fit a.gives)
        (calls-starts s.thread a.hold.shard _ s.fair w.locks a.locks a.gives)
        (ap (λ (v : State K V S D T A). v.replies) a.after)
    own_atomic mine (answers h) =
        let a = h.answers in
        let r : Reply K V T A = record {
          thread = s.thread;
          call = a.place.next;
          start = a.start;
          end = next_step
              h.mid;
          answer = a.answer;
        } in
        reply h.mid (concluding w s.thread h.mid h.leaves) a.place a.stands _
        (ap (λ (v : State K V S D T A). v.places) a.after) (ap (λ (v : State K V S D T A). v.steps) a.after) r
        refl a.begun refl refl (ap (λ (v : State K V S D T A). v.tables) a.after)
        (ap (λ (v : State K V S D T A). v.locks) a.after) (ap (λ (v : State K V S D T A). v.replies) a.after)
    own_atomic mine (visit_starts h) = starts_print h.mid (leaving w s.thread h.mid h.leaves) h.starts
    own_atomic mine (visit_parts h) = gives_print h.mid (parting w s.thread h.mid h.enters)
        (parting_fit w s.thread h.mid fit h.enters) phase.Part phase.Visit h.gives
    own_atomic mine (visit_looks h) = looks_print (by_itself mine (visit_looks h)) h.mid
        (visiting w s.thread h.mid h.enters) h.looks
    own_atomic mine (visit_seeks a) = beside w whole a.place a.stands _
        (ap (λ (v : State K V S D T A). v.places) a.after) (ap (λ (v : State K V S D T A). v.steps) a.after) refl
        (same_pairs x.eq w w' (ap (λ (v : State K V S D T A). v.tables) a.after))
        (ap (λ (v : State K V S D T A). v.locks) a.after) (ap (λ (v : State K V S D T A). v.replies) a.after)
    own_atomic mine (visit_does a) =
        on_pair w whole a.place a.stands _ (ap (λ (v : State K V S D T A). v.places) a.after)
        (ap (λ (v : State K V S D T A). v.steps) a.after) refl
        (item_keeps (by_itself mine (visit_does a)) a.place.shard a.walk a.table a.changed a.pair a.held
        (ap (λ (v : State K V S D T A). v.tables) a.after)
        (item-puts x.deeds x.eq a.walk a.table a.changed a.pair a.item))
        (ap (λ (v : State K V S D T A). v.locks) a.after) (ap (λ (v : State K V S D T A). v.replies) a.after)
    own_atomic mine (visit_gives a) = gives_print w whole fit phase.Give phase.Onward a

    -- a deadline comes: of the locks only the thread's own place is another
    expires_print : s.deadline ≡ true → Expires x w s w' → IsAtomic x.eq w s w'
    expires_print due a =
        let places = (ap (λ (v : State K V S D T A). v.places) a.after) in
        let steps = (ap (λ (v : State K V S D T A). v.steps) a.after) in
        let locks = ap (λ (v : State K V S D T A). v.locks) a.after in
        let others = others-expires s.thread w.locks a.locks a.expires in
        record {
          places = stay w whole a.place a.stands a.place places steps;
          calls = behind w whole a.place a.stands a.place places steps a.locks locks
              (calls-same s.thread w.locks a.locks others);
          steps = steps;
          does = inr (
            due,
            record {
              stays = goes_on w whole a.place a.stands a.place places steps refl
                  (ap (λ (v : State K V S D T A). v.replies) a.after);
              pairs = same_pairs x.eq w w' (ap (λ (v : State K V S D T A). v.tables) a.after);
              locks = subst (λ l. KeepsLocks w.locks l) (sym locks) (expires_keep s.thread w.locks a.locks a.expires);
              alone = λ t other. ap (λ l. core_in l t) locks ∙ others.cores t other;
            },
          );
        }

    pub step_atomic : IsStep x w s w' → IsAtomic x.eq w s w'
    step_atomic (by_itself mine step) =
        let a = own_atomic mine step in
        record { places = a.places; calls = a.calls; steps = a.steps; does = inl (mine, a.does) }
    step_atomic (by_deadline due a) = expires_print due a

    pub step_footprint : IsStep x w s w' → HasFootprint x.eq w s w'
    step_footprint step = let a = step_atomic step in footprint_of x.eq w s w' a.places a.does
