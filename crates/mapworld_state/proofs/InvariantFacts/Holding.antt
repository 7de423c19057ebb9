-- The places' holds match the locks: kept by a step that changes neither, and by each act of a thread at a lock.
use Rattle.std.proofs.Common.{◌≡◌, ◌≢◌, ℕ, zero, suc, ◌⊎◌, inl, inr, ⊎_elim, Bool, true, false, List, [], ◌∷◌, ◌++◌}
use Rattle.std.proofs.Common.{length, Option, Some, None, slice_get, slice_set, refl, ap, sym, ◌∙◌, subst, arith}
use Rattle.std.proofs.lemmas.Bool.{cases_eq, false≢true}
use Rattle.std.proofs.lemmas.Option.{none-some, same_Some}
use Rattle.mapworld_calls.proofs.Lists.{slice_get-set_cases, slice_get-push_below, slice_get-push_at}
use Rattle.mapworld_calls.proofs.Lists.{slice_get-push_cases}
use Rattle.lock_api_desk.specs.declared.mode.Mode.{Mode as DeskMode}
use Rattle.lock_api_desk.specs.declared.mode.Mode.TheVariants as desk
use Rattle.lock_api_desk.specs.Guards.{excludes}
use Rattle.parking_lot_protocol.specs.declared.act.CoreAnswer.{CoreAnswer}
use Rattle.parking_lot_protocol.specs.declared.act.CoreAnswer.TheVariants.{Owned}
use Rattle.parking_lot_machine_calls.specs.declared.calls.LockCall.{LockCall}
use Rattle.parking_lot_machine_calls.specs.declared.calls.LockCall.TheVariants.{Downgrade}
use Rattle.mapworld_state.specs.Locks.Aims.{Aim, Gets, GivesUp, Turns, aim_of}
use Rattle.mapworld_state.specs.Locks.Views.{Shown, owner_in}
use Rattle.mapworld_state.specs.Locks.Stands.{Stand, stand_for, stand_in}
use Rattle.mapworld_state.specs.Locks.Steps.{LockBegins, LockMoves, LockStarts, LockEnds, LockExpires}
use Rattle.mapworld_state.specs.declared.holds.Mode.{Mode}
use Rattle.mapworld_state.specs.declared.holds.Mode.TheVariants.{Shared, Exclusive}
use Rattle.mapworld_state.specs.declared.holds.Manner.{Manner}
use Rattle.mapworld_state.specs.declared.holds.Manner.TheVariants.{Waits, Tries, UntilDeadline}
use Rattle.mapworld_state.specs.declared.holds.Hold.{Hold}
use Rattle.mapworld_state.specs.declared.place.Phase.{Phase}
use Rattle.mapworld_state.specs.declared.place.Phase.TheVariants as phase
use Rattle.mapworld_state.specs.Places.{Place}
use Rattle.mapworld_state.specs.Classes.{class_of, owes_in}
use Rattle.mapworld_state.specs.Moves.{mode_of, request_manner}
use Rattle.mapworld_state.specs.Walks.{walk_mode}
use Rattle.mapworld_state.specs.Holds.{at_desk, asks_for, wants_for, gives_up, tries_so, has_deadline_so, IsAmong}
use Rattle.mapworld_state.specs.Held.{MayOwe, IsOwing, IsWanting, StandsBefore, IsAt, HoldsMatch}
use Rattle.mapworld_state.specs.Steps.{EntersBy}
use Rattle.parking_lot_machine.proofs.MutexMoving.{set_same}
use Rattle.mapworld_state.proofs.HoldsTable.{only-first, none-there, first-there}

-- a thread that has one hold has no more
pub no-more : (hs : List Hold) (a b : Hold) (more : List Hold) → hs ≡ a ∷ [] → hs ≡ b ∷ more
    → (a ≡ b) × (more ≡ []) × (hs ≡ b ∷ [])
no-more hs a b more one has =
    let same : a ∷ [] ≡ b ∷ more = sym one ∙ has in
    let none : more ≡ [] = cc in
    (cc, none, has ∙ ap (λ z. b ∷ z) none)

-- modes that go together at a desk are both shared
both-share : (a b : Mode) → excludes (at_desk a) (at_desk b) ≡ false → (a ≡ Shared) × (b ≡ Shared)
both-share Shared Shared e = (refl, refl)
both-share Shared Exclusive e = absurd cc
both-share Exclusive Shared e = absurd cc
both-share Exclusive Exclusive e = absurd cc

-- a thread in no call owes nothing
pub owes-none : {K V D T A : Type 0} (p : Place K V D T A) (o : Option Stand) → o ≡ None → IsOwing p o
owes-none p o none = subst (λ (z : Option Stand). IsOwing p z) (sym none) tt

module _ {K V D T A : Type 0} (p : Place K V D T A) (mode : Mode) (manner : Manner) (stand : Stand) where
  wanting : IsWanting p mode manner (Some stand) → ((m : DeskMode) × (stand.shard ≡ p.shard) × (stand.aim ≡ Gets m))
      ⊎ MayOwe p stand.shard stand.aim
  wanting h =
      let same = same_Some stand (record {
        shard = p.shard;
        aim = Gets (at_desk mode);
        trying = tries_so manner;
        timed = has_deadline_so manner;
      }) h.is in
      inl (at_desk mode, ap (λ (z : Stand). z.shard) same, ap (λ (z : Stand). z.aim) same)

-- a thread that is in a lock's call waits for its admission, or owes something to the lock
pub in-call : {K V D T A : Type 0} (p : Place K V D T A) (f : Phase K V D T A) (stand : Stand)
    → StandsBefore p f (Some stand)
    → ((m : DeskMode) × (stand.shard ≡ p.shard) × (stand.aim ≡ Gets m)) ⊎ MayOwe p stand.shard stand.aim
in-call p phase.Rest stand h = absurd (none-some stand (sym h))
in-call p (phase.Admit r) stand h = wanting p (mode_of r) (request_manner r) stand h
in-call p (phase.Find r) stand h = absurd (none-some stand (sym h))
in-call p (phase.Grow c) stand h = absurd (none-some stand (sym h))
in-call p (phase.Append k v) stand h = absurd (none-some stand (sym h))
in-call p (phase.Apply k) stand h = absurd (none-some stand (sym h))
in-call p (phase.View k d) stand h = absurd (none-some stand (sym h))
in-call p (phase.Read d) stand h = absurd (none-some stand (sym h))
in-call p (phase.Change c) stand h = absurd (none-some stand (sym h))
in-call p (phase.Fill v) stand h = absurd (none-some stand (sym h))
in-call p phase.Downgrade stand h = absurd (none-some stand (sym h))
in-call p (phase.Idle f) stand h = absurd (none-some stand (sym h))
in-call p (phase.Reach f) stand h = wanting p (walk_mode f) Waits stand h
in-call p (phase.Part f) stand h = absurd (none-some stand (sym h))
in-call p (phase.Visit f) stand h = inr h
in-call p (phase.Seek f) stand h = absurd (none-some stand (sym h))
in-call p (phase.Item f) stand h = absurd (none-some stand (sym h))
in-call p (phase.Give f) stand h = absurd (none-some stand (sym h))
in-call p (phase.Onward f) stand h = inr h
in-call p (phase.Release a) stand h = absurd (none-some stand (sym h))
in-call p (phase.Answer a) stand h = inr h

-- what may be owed, where something may be
owes-at : {K V D T A : Type 0} (p : Place K V D T A) (f : Phase K V D T A) (o : Option Stand)
    → owes_in (class_of f) ≡ true → StandsBefore p f o → IsOwing p o
owes-at p phase.Rest o owes h = absurd (false≢true owes)
owes-at p (phase.Admit r) o owes h = absurd (false≢true owes)
owes-at p (phase.Find r) o owes h = absurd (false≢true owes)
owes-at p (phase.Grow c) o owes h = absurd (false≢true owes)
owes-at p (phase.Append k v) o owes h = absurd (false≢true owes)
owes-at p (phase.Apply k) o owes h = absurd (false≢true owes)
owes-at p (phase.View k d) o owes h = absurd (false≢true owes)
owes-at p (phase.Read d) o owes h = absurd (false≢true owes)
owes-at p (phase.Change c) o owes h = absurd (false≢true owes)
owes-at p (phase.Fill v) o owes h = absurd (false≢true owes)
owes-at p phase.Downgrade o owes h = absurd (false≢true owes)
owes-at p (phase.Idle f) o owes h = owes-none p o h
owes-at p (phase.Reach f) o owes h = absurd (false≢true owes)
owes-at p (phase.Part f) o owes h = absurd (false≢true owes)
owes-at p (phase.Visit f) o owes h = h
owes-at p (phase.Seek f) o owes h = absurd (false≢true owes)
owes-at p (phase.Item f) o owes h = absurd (false≢true owes)
owes-at p (phase.Give f) o owes h = absurd (false≢true owes)
owes-at p (phase.Onward f) o owes h = h
owes-at p (phase.Release a) o owes h = absurd (false≢true owes)
owes-at p (phase.Answer a) o owes h = h

owes-none-at : {K V D T A : Type 0} (p : Place K V D T A) (f : Phase K V D T A) (o : Option Stand)
    → owes_in (class_of f) ≡ true → o ≡ None → StandsBefore p f o
owes-none-at p phase.Rest o owes none = absurd (false≢true owes)
owes-none-at p (phase.Admit r) o owes none = absurd (false≢true owes)
owes-none-at p (phase.Find r) o owes none = absurd (false≢true owes)
owes-none-at p (phase.Grow c) o owes none = absurd (false≢true owes)
owes-none-at p (phase.Append k v) o owes none = absurd (false≢true owes)
owes-none-at p (phase.Apply k) o owes none = absurd (false≢true owes)
owes-none-at p (phase.View k d) o owes none = absurd (false≢true owes)
owes-none-at p (phase.Read d) o owes none = absurd (false≢true owes)
owes-none-at p (phase.Change c) o owes none = absurd (false≢true owes)
owes-none-at p (phase.Fill v) o owes none = absurd (false≢true owes)
owes-none-at p phase.Downgrade o owes none = absurd (false≢true owes)
owes-none-at p (phase.Idle f) o owes none = none
owes-none-at p (phase.Reach f) o owes none = absurd (false≢true owes)
owes-none-at p (phase.Part f) o owes none = absurd (false≢true owes)
owes-none-at p (phase.Visit f) o owes none = owes-none p o none
owes-none-at p (phase.Seek f) o owes none = absurd (false≢true owes)
owes-none-at p (phase.Item f) o owes none = absurd (false≢true owes)
owes-none-at p (phase.Give f) o owes none = absurd (false≢true owes)
owes-none-at p (phase.Onward f) o owes none = owes-none p o none
owes-none-at p (phase.Release a) o owes none = absurd (false≢true owes)
owes-none-at p (phase.Answer a) o owes none = owes-none p o none

-- what an act of a thread at the locks leaves of all others: their calls and holds, beside which one may have been
-- handed the lock that it asks for
pub record LeavesOthers (t : ℕ) (old new : Shown) : Type 0 where
  pub stands : (v : ℕ) → v ≢ t → stand_in new v ≡ stand_in old v
  pub kept : (v i : ℕ) (m : DeskMode) → v ≢ t → owner_in old i v ≡ Some m → owner_in new i v ≡ Some m
  pub gained : (v i : ℕ) (m : DeskMode) → v ≢ t → owner_in new i v ≡ Some m → (owner_in old i v ≡ Some m) ⊎ IsAt old v i

-- where nobody's hold is another
still-owned : (t : ℕ) (old new : Shown) → ((v : ℕ) → v ≢ t → stand_in new v ≡ stand_in old v)
    → ((v i : ℕ) → owner_in new i v ≡ owner_in old i v) → LeavesOthers t old new
still-owned t old new stands holds =
    record { stands = stands; kept = λ v i m ne o. holds v i ∙ o; gained = λ v i m ne o. inl (sym (holds v i) ∙ o) }

moved-others : (t : ℕ) (fair : Bool) (old new : Shown) → LockMoves t fair old new → LeavesOthers t old new
moved-others t fair old new a = record {
  stands = a.others;
  kept = a.kept;
  gained = λ v i m ne o. elim (a.gained v i m ne o) [ inl was ↦ inl was | inr at ↦ inr (at.0, at.1, at.2) ];
}

started-others : (t shard : ℕ) (call : LockCall) (fair : Bool) (old new : Shown) → LockStarts t shard call fair old new
    → LeavesOthers t old new
started-others t shard call fair old new a =
    let b = a.begins in let g = moved-others t fair a.mid new a.moves in
    record {
      stands = λ v ne. g.stands v ne ∙ b.others v ne;
      kept = λ v i m ne o. g.kept v i m ne (b.holds v i ∙ o);
      gained = λ v i m ne o. elim (g.gained v i m ne o)
          [ inl was ↦ inl (sym (b.holds v i) ∙ was) | inr at ↦ inr (at.0, sym (b.others v ne) ∙ at.1, at.2) ];
    }

-- what is so of a thread's own place, beside those of others
pub record OwnMatches {K V D T A : Type 0} (places : List (Place K V D T A)) (t : ℕ) (p : Place K V D T A)
    (locks : Shown) : Type 0 where
  pub owned : (i : ℕ) (a : Hold) → slice_get p.holds i ≡ Some a → owner_in locks a.shard t ≡ Some (at_desk a.mode)
  pub known : (shard : ℕ) (m : DeskMode) → owner_in locks shard t ≡ Some m
      → IsAmong shard m p.holds ⊎ IsAt locks t shard
  pub once : (i j : ℕ) (a b : Hold) → slice_get p.holds i ≡ Some a → slice_get p.holds j ≡ Some b → a.shard ≡ b.shard
      → i ≡ j
  pub compatible : (u i j : ℕ) (q : Place K V D T A) (a b : Hold) → u ≢ t → slice_get places u ≡ Some q
      → slice_get p.holds i ≡ Some a → slice_get q.holds j ≡ Some b → a.shard ≡ b.shard
      → (a.mode ≡ Shared) × (b.mode ≡ Shared)
  pub stands : StandsBefore p p.phase (stand_in locks t)

module _ {K V D T A : Type 0} (places : List (Place K V D T A)) (locks : Shown) (h : HoldsMatch places locks) where
  -- two threads that hold one shard share it
  pub exclusion : (t u : ℕ) (p q : Place K V D T A) (a b : Hold) → t ≢ u → slice_get places t ≡ Some p
      → slice_get places u ≡ Some q
      → p.holds ≡ a ∷ [] → q.holds ≡ b ∷ [] → a.shard ≡ b.shard → (a.mode ≡ Shared) × (b.mode ≡ Shared)
  exclusion t u p q a b ne hp hq ha hb shard = h.compatible t u 0 0 p q a b ne hp hq (first-there p.holds a [] ha)
      (first-there q.holds b [] hb) shard

  -- the lock's call that a thread is in, by the phase that it stands before
  pub stand-at : (t : ℕ) (p : Place K V D T A) → slice_get places t ≡ Some p → (f : Phase K V D T A) → p.phase ≡ f
      → StandsBefore p f (stand_in locks t)
  stand-at t p at f before = subst (λ (g : Phase K V D T A). StandsBefore p g (stand_in locks t)) before
      (h.stands t p at)

  module _ (t : ℕ) (p p' : Place K V D T A) (at : slice_get places t ≡ Some p) where
    -- a thread that another one's step leaves, and the one that made it
    there : (u : ℕ) (q : Place K V D T A) → slice_get (slice_set places t p') u ≡ Some q → ((u ≡ t) × (q ≡ p'))
        ⊎ ((u ≢ t) × (slice_get places u ≡ Some q))
    there u q hq = slice_get-set_cases places t u p q p' at hq

    holds-by : (locks' : Shown) → LeavesOthers t locks locks' → OwnMatches places t p' locks'
        → HoldsMatch (slice_set places t p') locks'
    holds-by locks' others own = record {
      owned = λ u i q a hq ha. elim (there u q hq) [
        | inl mine ↦ ap (λ v. owner_in locks' a.shard v) mine.0 ∙ own.owned i a (now i q a mine.1 ha)
        | inr other ↦ others.kept u a.shard (at_desk a.mode) other.0 (h.owned u i q a other.1 ha)
      ];
      known = λ u shard q m hq ho. elim (there u q hq) [
        | inl mine ↦ rw (mine.0, mine.1) (own.known shard m (ap (λ v. owner_in locks' shard v) (sym mine.0) ∙ ho))
        | inr other ↦ elim (others.gained u shard m other.0 ho) [
          | inl was ↦ elim (h.known u shard q m other.1 was) [
            | inl among ↦ inl among
            | inr is ↦ inr (is.0, others.stands u other.0 ∙ is.1, is.2)
          ]
          | inr is ↦ inr (is.0, others.stands u other.0 ∙ is.1, is.2)
        ]
      ];
      once = λ u i j q a b hq ha hb e. elim (there u q hq) [
        | inl mine ↦ own.once i j a b (now i q a mine.1 ha) (now j q b mine.1 hb) e
        | inr other ↦ h.once u i j q a b other.1 ha hb e
      ];
      compatible = λ u v i j q r a b ne hq hr ha hb e. ⊎_elim
          (λ mine. ⊎_elim (λ both. absurd (ne (mine.0 ∙ sym both.0)))
          (λ other. own.compatible v i j r a b other.0 other.1 (now i q a mine.1 ha) hb e) (there v r hr))
          (λ other. ⊎_elim
          (λ mine. let both = own.compatible u j i q b a other.0 other.1 (now j r b mine.1 hb) ha (sym e) in (
            both.1,
            both.0,
          ))
          (λ others. h.compatible u v i j q r a b ne other.1 others.1 ha hb e) (there v r hr))
          (there u q hq);
      stands = λ u q hq. elim (there u q hq) [
        | inl mine ↦ rw (mine.0, mine.1) own.stands
        | inr other ↦ subst (λ (o : Option Stand). StandsBefore q q.phase o) (sym (others.stands u other.0))
            (h.stands u q other.1)
      ];
    }
      where
        now : (i : ℕ) (q : Place K V D T A) (a : Hold) → q ≡ p' → slice_get q.holds i ≡ Some a
            → slice_get p'.holds i ≡ Some a
        now i q a own ha = ap (λ (z : Place K V D T A). slice_get z.holds i) (sym own) ∙ ha

    -- a hold that stands there still
    was : p'.holds ≡ p.holds → (i : ℕ) (a : Hold) → slice_get p'.holds i ≡ Some a → slice_get p.holds i ≡ Some a
    was same i a ha = ap (λ hs. slice_get hs i) (sym same) ∙ ha

    was-among : p'.holds ≡ p.holds → (shard : ℕ) (m : DeskMode) → IsAmong shard m p.holds → IsAmong shard m p'.holds
    was-among same shard m o = subst (λ (hs : List Hold). IsAmong shard m hs) (sym same) o

    -- without another hold, where each hold is still owned
    own-same : p'.holds ≡ p.holds → (locks' : Shown)
        → ((i : ℕ) (a : Hold) → slice_get p.holds i ≡ Some a → owner_in locks' a.shard t ≡ Some (at_desk a.mode))
        → ((shard : ℕ) (m : DeskMode) → owner_in locks' shard t ≡ Some m → IsAmong shard m p.holds
        ⊎ IsAt locks' t shard) → StandsBefore p' p'.phase (stand_in locks' t)
        → OwnMatches places t p' locks'
    own-same same locks' owned known stands = record {
      owned = λ i a ha. owned i a (was same i a ha);
      known = λ shard m o. elim (known shard m o) [ inl among ↦ inl (was-among same shard m among) | inr is ↦ inr is ];
      once = λ i j a b ha hb e. h.once t i j p a b at (was same i a ha) (was same j b hb) e;
      compatible = λ u i j q a b ne hq ha hb e. h.compatible t u i j p q a b (λ z. ne (sym z)) at hq
          (was same i a ha) hb e;
      stands = stands;
    }

    -- neither its holds nor the locks are others
    pub holds-same : p'.holds ≡ p.holds → StandsBefore p' p'.phase (stand_in locks t)
        → HoldsMatch (slice_set places t p') locks
    holds-same same stands =
        holds-by locks (still-owned t locks locks (λ v ne. refl) (λ v i. refl))
        (own-same same locks (λ i a ha. h.owned t i p a at ha) (λ shard m o. h.known t shard p m at o) stands)

    -- it begins a call, and has the holds that it had
    pub holds-begun : p'.holds ≡ p.holds → stand_in locks t ≡ None → (locks' : Shown) (shard : ℕ) (call : LockCall)
        → LockBegins t shard call locks locks'
        → StandsBefore p' p'.phase (Some (stand_for shard call))
        → HoldsMatch (slice_set places t p') locks'
    holds-begun same out locks' shard call a stands =
        holds-by locks' (still-owned t locks locks' a.others a.holds)
        (own-same same locks' (λ i b hb. a.holds t b.shard ∙ h.owned t i p b at hb)
        (λ i m o. elim (h.known t i p m at (sym (a.holds t i) ∙ o))
        [ inl among ↦ inl among | inr is ↦ absurd (none-some is.0 (sym out ∙ is.1)) ])
        (subst (λ (o : Option Stand). StandsBefore p' p'.phase o) (sym a.stand) stands))

    -- no call is begun
    unlocked : p'.holds ≡ p.holds → stand_in locks t ≡ None → (locks' : Shown) (f : Phase K V D T A) → p'.phase ≡ f
        → StandsBefore p' f None → locks' ≡ locks → HoldsMatch (slice_set places t p') locks'
    unlocked same out locks' f is stands e =
        subst (λ (l : Shown). HoldsMatch (slice_set places t p') l) (sym e)
        (holds-same same (subst (λ (g : Phase K V D T A). StandsBefore p' g (stand_in locks t)) (sym is)
        (subst (λ (o : Option Stand). StandsBefore p' f o) (sym out) stands)))

    -- the call that it begins asks for its shard
    begun-wanting : (mode : Mode) (manner : Manner)
        → IsWanting p' mode manner (Some (stand_for p'.shard (wants_for manner mode)))
    begun-wanting Shared Waits = record { is = refl }
    begun-wanting Exclusive Waits = record { is = refl }
    begun-wanting Shared Tries = record { is = refl }
    begun-wanting Exclusive Tries = record { is = refl }
    begun-wanting Shared UntilDeadline = record { is = refl }
    begun-wanting Exclusive UntilDeadline = record { is = refl }

    begun-at : p'.holds ≡ p.holds → stand_in locks t ≡ None → (locks' : Shown) (f : Phase K V D T A) → p'.phase ≡ f
        → (call : LockCall) → LockBegins t p'.shard call locks locks'
        → StandsBefore p' f (Some (stand_for p'.shard call))
        → HoldsMatch (slice_set places t p') locks'
    begun-at same out locks' f is call a stands =
        holds-begun same out locks' p'.shard call a
        (subst (λ (g : Phase K V D T A). StandsBefore p' g
        (Some (stand_for p'.shard call))) (sym is) stands)

    -- the call of its shard's lock is begun where it is to wait there, and else none
    pub holds-entered : p'.holds ≡ p.holds → stand_in locks t ≡ None → (locks' : Shown) (f : Phase K V D T A)
        → p'.phase ≡ f → EntersBy t p'.shard f locks locks' → HoldsMatch (slice_set places t p') locks'
    holds-entered same out locks' phase.Rest is a = unlocked same out locks' phase.Rest is refl a
    holds-entered same out locks' (phase.Admit r) is a = begun-at same out locks' (phase.Admit r) is
        (wants_for (request_manner r) (mode_of r)) a (begun-wanting (mode_of r) (request_manner r))
    holds-entered same out locks' (phase.Find r) is a = unlocked same out locks' (phase.Find r) is refl a
    holds-entered same out locks' (phase.Grow c) is a = unlocked same out locks' (phase.Grow c) is refl a
    holds-entered same out locks' (phase.Append k v) is a = unlocked same out locks' (phase.Append k v) is refl a
    holds-entered same out locks' (phase.Apply k) is a = unlocked same out locks' (phase.Apply k) is refl a
    holds-entered same out locks' (phase.View k d) is a = unlocked same out locks' (phase.View k d) is refl a
    holds-entered same out locks' (phase.Read d) is a = unlocked same out locks' (phase.Read d) is refl a
    holds-entered same out locks' (phase.Change c) is a = unlocked same out locks' (phase.Change c) is refl a
    holds-entered same out locks' (phase.Fill v) is a = unlocked same out locks' (phase.Fill v) is refl a
    holds-entered same out locks' phase.Downgrade is a = unlocked same out locks' phase.Downgrade is refl a
    holds-entered same out locks' (phase.Idle f) is a = unlocked same out locks' (phase.Idle f) is refl a
    holds-entered same out locks' (phase.Reach f) is a = begun-at same out locks' (phase.Reach f) is
        (asks_for (walk_mode f)) a (begun-wanting (walk_mode f) Waits)
    holds-entered same out locks' (phase.Part f) is a = unlocked same out locks' (phase.Part f) is refl a
    holds-entered same out locks' (phase.Visit f) is a = unlocked same out locks' (phase.Visit f) is tt a
    holds-entered same out locks' (phase.Seek f) is a = unlocked same out locks' (phase.Seek f) is refl a
    holds-entered same out locks' (phase.Item f) is a = unlocked same out locks' (phase.Item f) is refl a
    holds-entered same out locks' (phase.Give f) is a = unlocked same out locks' (phase.Give f) is refl a
    holds-entered same out locks' (phase.Onward f) is a = unlocked same out locks' (phase.Onward f) is tt a
    holds-entered same out locks' (phase.Release q) is a = unlocked same out locks' (phase.Release q) is refl a
    holds-entered same out locks' (phase.Answer q) is a = unlocked same out locks' (phase.Answer q) is tt a

    -- its only hold
    only-now : (a : Hold) → p'.holds ≡ a ∷ [] → (i : ℕ) (b : Hold) → slice_get p'.holds i ≡ Some b → (i ≡ 0) × (a ≡ b)
    only-now a taken i b hb = only-first p'.holds a i b taken hb

    -- its admission is over, and it has one hold more, of a shard of which it had none
    module _ (a : Hold) (taken : p'.holds ≡ p.holds ++ a ∷ [])
        (apart : (i : ℕ) (b : Hold) → slice_get p.holds i ≡ Some b → b.shard ≢ a.shard) where
      either : (i : ℕ) (b : Hold) → slice_get p'.holds i ≡ Some b
          → (slice_get p.holds i ≡ Some b) ⊎ ((i ≡ length p.holds) × (b ≡ a))
      either i b hb = slice_get-push_cases p.holds i b a (ap (λ hs. slice_get hs i) (sym taken) ∙ hb)

      among-more : (i : ℕ) (m : DeskMode) → IsAmong i m p.holds → IsAmong i m p'.holds
      among-more i m o = record {
        index = o.index;
        hold = o.hold;
        there = ap (λ hs. slice_get hs o.index) taken ∙ slice_get-push_below p.holds o.index o.hold a o.there;
        shard_is = o.shard_is;
        mode_is = o.mode_is;
      }

      pub holds-admitted : (answer : CoreAnswer) (locks' : Shown) (e : LockEnds t answer locks locks')
          → e.stand.shard ≡ a.shard
          → owner_in locks' a.shard t ≡ Some (at_desk a.mode) → StandsBefore p' p'.phase None
          → HoldsMatch (slice_set places t p') locks'
      holds-admitted answer locks' e shard mine stands =
          holds-by locks' (still-owned t locks locks' e.others e.holds) (record {
            owned = λ i b hb. elim (either i b hb) [
              | inl old ↦ e.holds t b.shard ∙ h.owned t i p b at old
              | inr new ↦ subst (λ (z : Hold). owner_in locks' z.shard t ≡ Some (at_desk z.mode)) (sym new.1) mine
            ];
            known = λ i m o. elim (h.known t i p m at (sym (e.holds t i) ∙ o)) [
              | inl among ↦ inl (among-more i m among)
              | inr is ↦
                  let its : is.0 ≡ e.stand = same_Some is.0 e.stand (sym is.1 ∙ e.stood) in
                  let here : i ≡ a.shard = sym is.2 ∙ ap (λ (z : Stand). z.shard) its ∙ shard in
                  inl (record {
                    index = length p.holds;
                    hold = a;
                    there = ap (λ hs. slice_get hs (length p.holds)) taken ∙ slice_get-push_at p.holds a;
                    shard_is = sym here;
                    mode_is = same_Some (at_desk a.mode) m (sym mine ∙ ap (λ k. owner_in locks' k t) (sym here) ∙ o);
                  })
            ];
            once = λ i j b c hb hc same. ⊎_elim
                (λ old. ⊎_elim (λ older. h.once t i j p b c at old older same)
                (λ new. absurd (apart i b old (same ∙ ap (λ (z : Hold). z.shard) new.1))) (either j c hc))
                (λ new. ⊎_elim (λ old. absurd (apart j c old (sym same ∙ ap (λ (z : Hold). z.shard) new.1)))
                (λ newer. new.0 ∙ sym newer.0) (either j c hc))
                (either i b hb);
            compatible = λ u i j q b c ne hq hb hc same. ⊎_elim
                (λ old. h.compatible t u i j p q b c (λ z. ne (sym z)) at hq old hc same)
                (λ new.
                let here : c.shard ≡ a.shard = sym same ∙ ap (λ (z : Hold). z.shard) new.1 in
                let theirs : owner_in locks' a.shard u ≡ Some (at_desk c.mode) = ap (λ k. owner_in locks' k u)
                (sym here) ∙ e.holds u c.shard ∙ h.owned u j q c hq hc in
                let both = both-share a.mode c.mode
                (e.together a.shard t u (at_desk a.mode) (at_desk c.mode) (λ z. ne (sym z)) mine theirs) in
                (ap (λ (z : Hold). z.mode) new.1 ∙ both.0, both.1))
                (either i b hb);
            stands = subst (λ (o : Option Stand). StandsBefore p' p'.phase o) (sym e.gone) stands;
          })

    -- it was refused its shard or has given up, and has the holds that it had
    pub holds-refused : p'.holds ≡ p.holds → (answer : CoreAnswer) → answer ≢ Owned → (locks' : Shown)
        (e : LockEnds t answer locks locks') (m : DeskMode)
        → e.stand.aim ≡ Gets m → StandsBefore p' p'.phase None → HoldsMatch (slice_set places t p') locks'
    holds-refused same answer unowned locks' e m aim stands =
        holds-by locks' (still-owned t locks locks' e.others e.holds)
        (own-same same locks' (λ i b hb. e.holds t b.shard ∙ h.owned t i p b at hb)
        (λ i k o. elim (h.known t i p k at (sym (e.holds t i) ∙ o)) [
          | inl among ↦ inl among
          | inr is ↦
              let here : i ≡ e.stand.shard = sym is.2 ∙ ap (λ (z : Stand). z.shard) (same_Some is.0 e.stand (sym is.1
              ∙ e.stood)) in
              absurd (none-some k (sym (e.gave_up m aim unowned) ∙ ap (λ j. owner_in locks' j t) (sym here) ∙ o))
        ])
        (subst (λ (o : Option Stand). StandsBefore p' p'.phase o) (sym e.gone) stands))

    -- a lock's call that gives its first hold up or shares it has begun, and has made its first act
    module _ (a : Hold) (more : List Hold) (held : p.holds ≡ a ∷ more) (out : stand_in locks t ≡ None) (call : LockCall)
        (fair : Bool) (locks' : Shown) (s : LockStarts t a.shard call fair locks locks') where
      stand-is : s.moves.stand ≡ stand_for a.shard call
      stand-is = same_Some s.moves.stand (stand_for a.shard call) (sym s.moves.stood ∙ s.begins.stand)

      stand-now : stand_in locks' t ≡ Some (stand_for a.shard call)
      stand-now = s.moves.stands ∙ ap Some stand-is

      -- the shards of its other holds are other ones, where nothing changes
      behind : (i : ℕ) (b : Hold) → slice_get more i ≡ Some b → slice_get p.holds (suc i) ≡ Some b
      behind i b hb = ap (λ hs. slice_get hs (suc i)) held ∙ hb

      pub elsewhere : (i : ℕ) (b : Hold) → slice_get more i ≡ Some b → b.shard ≢ a.shard
      elsewhere i b hb same =
          let first : 0 ≡ suc i = h.once t 0 (suc i) p a b at (first-there p.holds a more held) (behind i b hb)
          (sym same) in
          absurd (omega (arith, first))

      apart-same : (i : ℕ) → i ≢ a.shard → owner_in locks' i t ≡ owner_in locks i t
      apart-same i ne = s.moves.elsewhere i (λ z. ne (z ∙ ap (λ (y : Stand). y.shard) stand-is)) ∙ s.begins.holds t i

      among-behind : (i : ℕ) (m : DeskMode) → i ≢ a.shard → IsAmong i m p.holds → IsAmong i m more
      among-behind i m ne o = at-index o.index (ap (λ hs. slice_get hs o.index) (sym held) ∙ o.there)
        where
          at-index : (j : ℕ) → slice_get (a ∷ more) j ≡ Some o.hold → IsAmong i m more
          at-index zero e = absurd (ne (sym o.shard_is ∙ ap (λ (z : Hold). z.shard) (sym (same_Some a o.hold e))))
          at-index (suc j) e = record {
            index = j;
            hold = o.hold;
            there = e;
            shard_is = o.shard_is;
            mode_is =
                o.mode_is;
          }

      known-now : (i : ℕ) (m : DeskMode) → owner_in locks' i t ≡ Some m → IsAmong i m more ⊎ IsAt locks' t i
      known-now i m o = ⊎_elim
          (λ here. inr (stand_for a.shard call, stand-now, sym here))
          (λ (ne : i ≢ a.shard). elim (h.known t i p m at (sym (apart-same i ne) ∙ o)) [
            | inl among ↦ inl (among-behind i m ne among)
            | inr is ↦ absurd (none-some is.0 (sym out ∙ is.1))
          ])
          (cases_eq i a.shard)

      pub holds-given : (m : Mode) → call ≡ gives_up m → p'.holds ≡ more
          → ((o : Option Stand) → IsOwing p' o → StandsBefore p' p'.phase o) → HoldsMatch (slice_set places t p') locks'
      holds-given m gives left owes =
          holds-by locks' (started-others t a.shard call fair locks locks' s) (record {
            owned = λ i b hb. let here = there-still i b hb in apart-same b.shard (elsewhere i b here)
                ∙ h.owned t (suc i) p b at (behind i b here);
            known = λ i m o. elim (known-now i m o)
                [ inl among ↦ inl (subst (λ (hs : List Hold). IsAmong i m hs) (sym left) among) | inr is ↦ inr is ];
            once = λ i j b c hb hc same.
                let e = h.once t (suc i) (suc j) p b c at (behind i b (there-still i b hb))
                (behind j c (there-still j c hc)) same in omega arith;
            compatible = λ u i j q b c ne hq hb hc same. h.compatible t u (suc i) j p q b c (λ z. ne (sym z)) at hq
                (behind i b (there-still i b hb)) hc same;
            stands = owes (stand_in locks' t) (subst (λ (o : Option Stand). IsOwing p' o) (sym stand-now)
                (rw gives (gone m)));
          })
        where
          there-still : (i : ℕ) (b : Hold) → slice_get p'.holds i ≡ Some b → slice_get more i ≡ Some b
          there-still i b hb = ap (λ hs. slice_get hs i) (sym left) ∙ hb

          gone : (m : Mode) → MayOwe p' a.shard (aim_of (gives_up m))
          gone Shared = λ i b hb. elsewhere i b (there-still i b hb)
          gone Exclusive = λ i b hb. elsewhere i b (there-still i b hb)

      pub holds-shared : more ≡ [] → call ≡ Downgrade → p'.holds ≡ record a { mode = Shared } ∷ []
          → ((o : Option Stand) → IsOwing p' o → StandsBefore p' p'.phase o) → HoldsMatch (slice_set places t p') locks'
      holds-shared only turns taken owes =
          let now-held : Hold = record a { mode = Shared } in
          holds-by locks' (started-others t a.shard call fair locks locks' s) (record {
            owned = λ i b hb. subst (λ (z : Hold). owner_in locks' z.shard t ≡ Some (at_desk z.mode))
                (only-now now-held taken i b hb).1 (s.turned turns);
            known = λ i m o. elim (known-now i m o)
                [ inl among ↦ absurd (none-there more among.index among.hold only among.there) | inr is ↦ inr is ];
            once = λ i j b c hb hc same. (only-now now-held taken i b hb).0 ∙ sym (only-now now-held taken j c hc).0;
            compatible = λ u i j q b c ne hq hb hc same.
                let its = (only-now now-held taken i b hb).1 in
                let both = h.compatible t u 0 j p q a c (λ z. ne (sym z)) at hq (first-there p.holds a more held) hc
                (ap (λ (z : Hold). z.shard) its ∙ same) in
                (ap (λ (z : Hold). z.mode) (sym its), both.1);
            stands = owes (stand_in locks' t)
                (subst (λ (o : Option Stand). IsOwing p' o) (sym stand-now) (rw turns (now-held, taken, refl, refl)));
          })

  module _ (t : ℕ) (p : Place K V D T A) (at : slice_get places t ≡ Some p) where
    -- a step of a lock's call that isn't an answer: a thread that waits for a shard has no hold of it yet
    pub holds-stepped : (fair : Bool) (locks' : Shown) (a : LockMoves t fair locks locks')
        → ((m : DeskMode) → a.stand.aim ≡ Gets m → (i : ℕ) (b : Hold) → slice_get p.holds i ≡ Some b
        → b.shard ≢ a.stand.shard)
        → HoldsMatch (slice_set places t p) locks'
    holds-stepped fair locks' a waits =
        holds-by t p p at locks' (moved-others t fair locks locks' a)
        (own-same t p p at refl locks' owned known
        (subst (λ (o : Option Stand). StandsBefore p p.phase o) (sym a.stands) stood))
      where
        stood : StandsBefore p p.phase (Some a.stand)
        stood = subst (λ (o : Option Stand). StandsBefore p p.phase o) a.stood (h.stands t p at)

        known : (i : ℕ) (m : DeskMode) → owner_in locks' i t ≡ Some m → IsAmong i m p.holds ⊎ IsAt locks' t i
        known i m o = ⊎_elim
            (λ here. inr (a.stand, a.stands, sym here))
            (λ (ne : i ≢ a.stand.shard). elim (h.known t i p m at (sym (a.elsewhere i ne) ∙ o)) [
              | inl among ↦ inl among
              | inr is ↦ absurd (ne (sym is.2 ∙ ap (λ (z : Stand). z.shard) (same_Some is.0 a.stand (sym is.1
                  ∙ a.stood))))
            ])
            (cases_eq i a.stand.shard)

        -- what it owes leaves its shared hold
        owed : (aim : Aim) → a.stand.aim ≡ aim → MayOwe p a.stand.shard aim → (i : ℕ) (b : Hold)
            → slice_get p.holds i ≡ Some b → b.shard ≡ a.stand.shard → owner_in locks' a.stand.shard t ≡ Some
            (at_desk b.mode)
        owed (Gets m) is owes i b hb here = absurd owes
        owed (GivesUp m) is owes i b hb here = absurd (owes i b hb here)
        owed Turns is owes i b hb here =
            let its : owes.0 ≡ b = (only-first p.holds owes.0 i b owes.1 hb).1 in
            let shares : b.mode ≡ Shared = ap (λ (z : Hold). z.mode) (sym its) ∙ owes.3 in
            a.turned is (ap (λ k. owner_in locks k t) (sym here) ∙ h.owned t i p b at hb
            ∙ ap (λ m. Some (at_desk m)) shares) ∙ ap (λ m. Some (at_desk m)) (sym shares)

        owned : (i : ℕ) (b : Hold) → slice_get p.holds i ≡ Some b → owner_in locks' b.shard t ≡ Some (at_desk b.mode)
        owned i b hb = ⊎_elim
            (λ here. ap (λ k. owner_in locks' k t) here ∙ elim (in-call p p.phase a.stand stood) [
              | inl w ↦ absurd (waits w.0 w.2 i b hb here)
              | inr o ↦ owed a.stand.aim refl o i b hb here
            ])
            (λ ne. a.elsewhere b.shard ne ∙ h.owned t i p b at hb)
            (cases_eq b.shard a.stand.shard)

    -- its deadline comes: nobody's call is about anything else, and nobody's hold is another
    pub holds-expired : (locks' : Shown) → LockExpires t locks locks' → HoldsMatch (slice_set places t p) locks'
    holds-expired locks' e =
        holds-by t p p at locks' (still-owned t locks locks' (λ v ne. e.stands v) e.holds)
        (own-same t p p at refl locks' (λ i b hb. e.holds t b.shard ∙ h.owned t i p b at hb)
        (λ i m o. elim (h.known t i p m at (sym (e.holds t i) ∙ o)) [
          | inl among ↦ inl among
          | inr is ↦ inr (is.0, e.stands t ∙ is.1, is.2)
        ])
        (subst (λ (o : Option Stand). StandsBefore p p.phase o) (sym (e.stands t)) (h.stands t p at)))

    -- what was owed to a lock is done
    pub holds-left : owes_in (class_of p.phase) ≡ true → (answer : CoreAnswer) (locks' : Shown)
        → LockEnds t answer locks locks' → HoldsMatch places locks'
    holds-left may answer locks' e =
        subst (λ (ps : List (Place K V D T A)). HoldsMatch ps locks') (set_same places t p at)
        (holds-by t p p at locks' (still-owned t locks locks' e.others e.holds)
        (own-same t p p at refl locks' (λ i b hb. e.holds t b.shard ∙ h.owned t i p b at hb) known
        (owes-none-at p p.phase (stand_in locks' t) may e.gone)))
      where
        owes : MayOwe p e.stand.shard e.stand.aim
        owes = subst (λ (o : Option Stand). IsOwing p o) e.stood
            (owes-at p p.phase (stand_in locks t) may (h.stands t p at))

        done : (aim : Aim) → e.stand.aim ≡ aim → MayOwe p e.stand.shard aim → (m : DeskMode)
            → owner_in locks' e.stand.shard t ≡ Some m → IsAmong e.stand.shard m p.holds
        done (Gets mode) is owes m o = absurd owes
        done (GivesUp mode) is owes m o = absurd (none-some m (sym (e.freed mode is) ∙ o))
        done Turns is owes m o = record {
          index = 0;
          hold = owes.0;
          there = first-there p.holds owes.0 [] owes.1;
          shard_is = owes.2;
          mode_is = ap at_desk owes.3 ∙ same_Some desk.Shared m (sym (e.turned is) ∙ o);
        }

        known : (i : ℕ) (m : DeskMode) → owner_in locks' i t ≡ Some m → IsAmong i m p.holds ⊎ IsAt locks' t i
        known i m o = elim (h.known t i p m at (sym (e.holds t i) ∙ o)) [
          | inl among ↦ inl among
          | inr is ↦
              let here : e.stand.shard ≡ i = ap (λ (z : Stand). z.shard) (same_Some e.stand is.0 (sym e.stood ∙ is.1))
              ∙ is.2 in
              inl (subst (λ (k : ℕ). IsAmong k m p.holds) here
              (done e.stand.aim refl owes m (ap (λ k. owner_in locks' k t) here ∙ o)))
        ]
