-- What a thread may ask of a shard's lock: for the lock where it has no hold, and to give it up where it has one.
use Rattle.std.proofs.Common.{◌≡◌, ◌≢◌, ℕ, ◌<◌, inl, inr, Bool, true, false, List, [], Option, Some, None}
use Rattle.std.proofs.Common.{slice_get, refl, sym, ap, ◌∙◌, subst}
use Rattle.std.proofs.lemmas.Option.{none-some}
use Rattle.std.proofs.lemmas.Bool.{false≢true}
use Rattle.dashmap_table.proofs.Cases.{option_cases}
use Rattle.parking_lot_machine_calls.specs.declared.calls.LockCall.TheVariants as call
use Rattle.mapworld_state.specs.Locks.Views.{Shown, owner_in}
use Rattle.mapworld_state.specs.Locks.Stands.{Stand, stand_in, is_of_shards, needs, gives}
use Rattle.mapworld_state.specs.Locks.Steps.{MayAsk}
use Rattle.mapworld_state.specs.declared.holds.Mode.{Mode}
use Rattle.mapworld_state.specs.declared.holds.Mode.TheVariants.{Shared, Exclusive}
use Rattle.mapworld_state.specs.declared.holds.Hold.{Hold}
use Rattle.mapworld_state.specs.declared.place.Phase.{Phase}
use Rattle.mapworld_state.specs.declared.place.Phase.TheVariants as phase
use Rattle.mapworld_state.specs.Places.{Place}
use Rattle.mapworld_state.specs.Holds.{at_desk, asks_for, wants_for, gives_up}
use Rattle.mapworld_state.specs.Held.{HoldsMatch, StandsBefore}
use Rattle.mapworld_state.specs.Core.{AreLocksOf}
use Rattle.mapworld_state.specs.Moves.{mode_of, request_manner}
use Rattle.mapworld_state.specs.Walks.{walk_mode}
use Rattle.mapworld_state.specs.Steps.{EntersBy}
use Rattle.mapworld_state.proofs.HoldsTable.{none-there}
use Rattle.mapworld_state.proofs.LocksFacts.Sizes.{KeepsSize, same_size, begins-size}
use Rattle.mapworld_state.specs.declared.holds.Manner.{Manner}
use Rattle.mapworld_state.specs.declared.holds.Manner.TheVariants.{Waits, Tries, UntilDeadline}
use Rattle.mapworld_state.specs.Locks.Steps.{LockExpires}
use Rattle.std.proofs.Common.{length}

-- what is asked of a lock, and what it needs
asked-needs : (manner : Manner) (mode : Mode) → (is_of_shards (wants_for manner mode) ≡ true)
    × (needs (wants_for manner mode) ≡ None)
asked-needs Waits Shared = (refl, refl)
asked-needs Waits Exclusive = (refl, refl)
asked-needs Tries Shared = (refl, refl)
asked-needs Tries Exclusive = (refl, refl)
asked-needs UntilDeadline Shared = (refl, refl)
asked-needs UntilDeadline Exclusive = (refl, refl)

given-needs : (mode : Mode) → (is_of_shards (gives_up mode) ≡ true) × (needs (gives_up mode) ≡ Some (at_desk mode))
given-needs Shared = (refl, refl)
given-needs Exclusive = (refl, refl)

pub given-gives : (mode : Mode) → gives (gives_up mode) ≡ true
given-gives Shared = refl
given-gives Exclusive = refl

module _ {K V D T A : Type 0} {places : List (Place K V D T A)} {locks : Shown} (match : HoldsMatch places locks)
    (threads shards : ℕ) (sizes : AreLocksOf threads shards locks)
    (t : ℕ) (p : Place K V D T A) (here : slice_get places t ≡ Some p) (within : t < threads)
    (out : stand_in locks t ≡ None) where
  -- without a hold of a shard, and in no call, it doesn't own its lock
  owns-nothing : (shard : ℕ) → ((i : ℕ) (h : Hold) → slice_get p.holds i ≡ Some h → h.shard ≢ shard)
      → owner_in locks shard t ≡ None
  owns-nothing shard apart = elim (option_cases (owner_in locks shard t)) [
    | inl free ↦ free
    | inr owns ↦ elim (match.known t shard p owns.0 here owns.1) [
      | inl among ↦ absurd (apart among.index among.hold among.there among.shard_is)
      | inr at ↦ absurd (none-some at.0 (sym out ∙ at.1))
    ]
  ]

  pub may-enter : (shard : ℕ) → ((i : ℕ) (h : Hold) → slice_get p.holds i ≡ Some h → h.shard ≢ shard) → shard < shards
      → (manner : Manner) (mode : Mode) → MayAsk t shard (wants_for manner mode) locks
  may-enter shard apart fits manner mode = record {
    thread = subst (λ n. t < n) (sym sizes.threads_are) within;
    there = subst (λ n. shard < n) (sym sizes.shards_are) fits;
    of_kind = (asked-needs manner mode).0;
    free = out;
    holds = owns-nothing shard apart ∙ sym (asked-needs manner mode).1;
  }

  -- it has no hold of any shard where it has none
  pub no-hold : p.holds ≡ [] → (shard i : ℕ) (h : Hold) → slice_get p.holds i ≡ Some h → h.shard ≢ shard
  no-hold none shard i h has is = none-there p.holds i h none has

  module _ (i : ℕ) (h : Hold) (held : slice_get p.holds i ≡ Some h) (fits : h.shard < shards) where
    pub may-leave : MayAsk t h.shard (gives_up h.mode) locks
    may-leave = record {
      thread = subst (λ n. t < n) (sym sizes.threads_are) within;
      there = subst (λ n. h.shard < n) (sym sizes.shards_are) fits;
      of_kind = (given-needs h.mode).0;
      free = out;
      holds = match.owned t i p h here held ∙ sym (given-needs h.mode).1;
    }

    pub may-share : h.mode ≡ Exclusive → MayAsk t h.shard call.Downgrade locks
    may-share alone = record {
      thread = subst (λ n. t < n) (sym sizes.threads_are) within;
      there = subst (λ n. h.shard < n) (sym sizes.shards_are) fits;
      of_kind = refl;
      free = out;
      holds = match.owned t i p h here held ∙ ap (λ m. Some (at_desk m)) alone;
    }

-- a thread before such a phase is in no call at a lock
abbrev pub is_out : {K V D T A : Type 0} → Phase K V D T A → Bool
is_out phase.Rest = true
is_out (phase.Admit r) = false
is_out (phase.Find r) = true
is_out (phase.Grow c) = true
is_out (phase.Append k v) = true
is_out (phase.Apply k) = true
is_out (phase.View k d) = true
is_out (phase.Read d) = true
is_out (phase.Change h) = true
is_out (phase.Fill v) = true
is_out phase.Downgrade = true
is_out (phase.Idle f) = true
is_out (phase.Reach f) = false
is_out (phase.Part f) = true
is_out (phase.Visit f) = false
is_out (phase.Seek f) = true
is_out (phase.Item f) = true
is_out (phase.Give f) = true
is_out (phase.Onward f) = false
is_out (phase.Release a) = true
is_out (phase.Answer a) = false

stands-out : {K V D T A : Type 0} (p : Place K V D T A) (f : Phase K V D T A) (stand : Option Stand) → is_out f ≡ true
    → StandsBefore p f stand → stand ≡ None
stands-out p phase.Rest stand e h = h
stands-out p (phase.Admit r) stand e h = absurd (false≢true e)
stands-out p (phase.Find r) stand e h = h
stands-out p (phase.Grow c) stand e h = h
stands-out p (phase.Append k v) stand e h = h
stands-out p (phase.Apply k) stand e h = h
stands-out p (phase.View k d) stand e h = h
stands-out p (phase.Read d) stand e h = h
stands-out p (phase.Change x) stand e h = h
stands-out p (phase.Fill v) stand e h = h
stands-out p phase.Downgrade stand e h = h
stands-out p (phase.Idle f) stand e h = h
stands-out p (phase.Reach f) stand e h = absurd (false≢true e)
stands-out p (phase.Part f) stand e h = h
stands-out p (phase.Visit f) stand e h = absurd (false≢true e)
stands-out p (phase.Seek f) stand e h = h
stands-out p (phase.Item f) stand e h = h
stands-out p (phase.Give f) stand e h = h
stands-out p (phase.Onward f) stand e h = absurd (false≢true e)
stands-out p (phase.Release a) stand e h = h
stands-out p (phase.Answer a) stand e h = absurd (false≢true e)

pub out-of-call : {K V D T A : Type 0} {places : List (Place K V D T A)} {locks : Shown} → HoldsMatch places locks
    → (t : ℕ) (p : Place K V D T A) → slice_get places t ≡ Some p
    → (f : Phase K V D T A) → p.phase ≡ f → is_out f ≡ true → stand_in locks t ≡ None
out-of-call {K} {V} {D} {T} {A} {locks = locks} match t p here f before out =
    stands-out p f (stand_in locks t) out
    (subst (λ (z : Phase K V D T A). StandsBefore p z (stand_in locks t)) before (match.stands t p here))

-- a start's locks have the sizes that they had
pub enters-size : {K V D T A : Type 0} (locks locks' : Shown) (t shard : ℕ) (f : Phase K V D T A)
    → EntersBy t shard f locks locks' → KeepsSize locks locks'
enters-size locks locks' t shard phase.Rest h = rw h same_size
enters-size locks locks' t shard (phase.Admit r) h = begins-size locks locks' t shard
    (wants_for (request_manner r) (mode_of r)) h
enters-size locks locks' t shard (phase.Reach f) h = begins-size locks locks' t shard (asks_for (walk_mode f)) h
enters-size locks locks' t shard (phase.Idle f) h = rw h same_size
enters-size locks locks' t shard (phase.Part f) h = rw h same_size
enters-size locks locks' t shard (phase.Visit f) h = rw h same_size
enters-size locks locks' t shard (phase.Seek f) h = rw h same_size
enters-size locks locks' t shard (phase.Item f) h = rw h same_size
enters-size locks locks' t shard (phase.Give f) h = rw h same_size
enters-size locks locks' t shard (phase.Onward f) h = rw h same_size
enters-size locks locks' t shard (phase.Find r) h = rw h same_size
enters-size locks locks' t shard (phase.Grow c) h = rw h same_size
enters-size locks locks' t shard (phase.Append k v) h = rw h same_size
enters-size locks locks' t shard (phase.Apply k) h = rw h same_size
enters-size locks locks' t shard (phase.View k d) h = rw h same_size
enters-size locks locks' t shard (phase.Read d) h = rw h same_size
enters-size locks locks' t shard (phase.Change x) h = rw h same_size
enters-size locks locks' t shard (phase.Fill v) h = rw h same_size
enters-size locks locks' t shard phase.Downgrade h = rw h same_size
enters-size locks locks' t shard (phase.Release a) h = rw h same_size
enters-size locks locks' t shard (phase.Answer a) h = rw h same_size

-- and so have those behind a deadline
pub expires-size : (locks locks' : Shown) (t : ℕ) → LockExpires t locks locks' → KeepsSize locks locks'
expires-size locks locks' t h =
    record { threads_are = h.whole.threads; shards_are = ap length h.whole.kinds; desks_are = ap length h.desks }
