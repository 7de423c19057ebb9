-- What the code knows of a thread's place between two steps.
use Rattle.std.proofs.Common.{◌≡◌, ℕ, ◌+◌, ◌-◌, ◌<◌, ◌≤◌, Bool, true, false, if◌then◌else◌, List, [], ◌∷◌, ◌++◌, length}
use Rattle.std.proofs.Common.{map, get_or, Option, Some, None, is_some, slice_get, slice_set, sum_by, refl, ap, sym}
use Rattle.std.proofs.Common.{◌∙◌, subst, arith}
use Rattle.std.proofs.lemmas.Option.{get_or_from_slice_get, none-some, same_Some, slice_get_within}
use Rattle.std.proofs.lemmas.List.{map-set}
use Rattle.dashmap_table.specs.Table.{Table}
use Rattle.mapworld_calls.specs.declared.ask.Ask.{Ask}
use Rattle.mapworld_calls.specs.declared.block.Block.{Block}
use Rattle.mapworld_calls.specs.declared.reply.Reply.{Reply}
use Rattle.mapworld_calls.specs.declared.reply.Answer.{Answer}
use Rattle.mapworld_calls.specs.Calls.{At}
use Rattle.mapworld_calls.specs.Replay.{reached, found}
use Rattle.mapworld_calls.specs.Setup.{Setup}
use Rattle.mapworld_calls.proofs.Lists.{sum_by-at}
use Rattle.mapworld_state.specs.declared.place.Way.{Way}
use Rattle.mapworld_state.specs.declared.place.Guard.{Guard}
use Rattle.mapworld_state.specs.declared.place.Guard.TheVariants as guard
use Rattle.mapworld_state.specs.declared.place.Phase.{Phase}
use Rattle.mapworld_state.specs.declared.place.Phase.TheVariants as phase
use Rattle.mapworld_state.specs.declared.place.Place.{Place as KeptPlace}
use Rattle.mapworld_state.specs.declared.step.Step.{Step}
use Rattle.mapworld_state.specs.declared.world_core.Core.{Core}
use Rattle.mapworld_state.specs.Locks.Views.{Shown}
use Rattle.mapworld_state.specs.Places.{Place, place_of}
use Rattle.mapworld_state.specs.State.{State, threads_of}
use Rattle.mapworld_state.specs.Shards.{ShardPairs, shard_pairs, has_room}
use Rattle.mapworld_state.specs.Moves.{lent_way, vacant_key, stepped}
use Rattle.mapworld_state.specs.Sound.{Sound, Claim, Walks, GuardIs, HasPairs, IsInSession, IsOnItsWay, IsBeforeDeed}
use Rattle.mapworld_state.specs.Sound.{IsReleasing, is_resting}
use Rattle.mapworld_state.specs.Core.{state_of, IsBefore}
use Rattle.mapworld_state.proofs.Views.{view-from}
use Rattle.mapworld_transitions.specs.Listing.{CanCount}

-- the place that was read at the thread's number
module _ {K V D T A : Type 0} {places : List (Place K V D T A)} {t : ℕ} {ph : Phase K V D T A}
    (b : IsBefore places t ph) (r : Place K V D T A) (read : r ≡ get_or places t r) where
  pub read_is : r ≡ b.place
  read_is = read ∙ get_or_from_slice_get places t b.place r b.stands

  pub stands_here : slice_get places t ≡ Some r
  stands_here = subst (λ q. slice_get places t ≡ Some q) (sym read_is) b.stands

  pub phase_here : r.phase ≡ ph
  phase_here = subst (λ (q : Place K V D T A). q.phase ≡ ph) (sym read_is) b.before

-- so of the place that the code keeps
module _ {K V D T A : Type 0} (places : List (KeptPlace K V D T A)) {t : ℕ} {ph : Phase K V D T A}
    (b : IsBefore (map place_of places) t ph) (r : KeptPlace K V D T A) (read : r ≡ get_or places t r) where
  kept-is : (slice_get places t ≡ Some r) × (place_of r ≡ b.place)
  kept-is =
      let v = view-from place_of places t b.place b.stands in
      let same : r ≡ v.0 = read ∙ get_or_from_slice_get places t v.0 r v.1 in
      (v.1 ∙ ap (λ z. Some z) (sym same), ap place_of same ∙ v.2)

  pub kept-here : slice_get places t ≡ Some r
  kept-here = kept-is.0

  -- as contracts see it
  pub seen-here : slice_get (map place_of places) t ≡ Some (place_of r)
  seen-here = b.stands ∙ ap (λ z. Some z) (sym kept-is.1)

  pub kept-phase : r.phase ≡ ph
  kept-phase = ap (λ (z : Place K V D T A). z.phase) kept-is.1 ∙ b.before

-- what was read at an index at which an element is known
pub read_at : {X : Type 0} (xs : List X) (i : ℕ) (x r : X) → slice_get xs i ≡ Some x → r ≡ get_or xs i r → r ≡ x
read_at xs i x r h e = e ∙ get_or_from_slice_get xs i x r h

module _ {K V S D T A : Type 0} {x : Setup K V D T} {w : State K V S D T A} (sound : Sound x w) (t : ℕ)
    (p : Place K V D T A) (here : slice_get w.places t ≡ Some p) {ph : Phase K V D T A} (before : p.phase ≡ ph) where
  pub claim_at : Claim x (threads_of w) w.blocks w.tables t p ph
  claim_at = subst (λ f. Claim x (threads_of w) w.blocks w.tables t p f) before (sound.stands t p here).claim

  pub walks_at : Walks x w.blocks w.tables t p ph
  walks_at = subst (λ f. Walks x w.blocks w.tables t p f) before (sound.stands t p here).walks

  -- a call that has started is one of a program
  pub call_fits : is_resting ph ≡ false → p.next + 1 ≤ sum_by length x.programs
  call_fits busy =
      let s = sound.stands t p here in
      let within = subst (λ f. (if is_resting f then p.next else p.next + 1) ≤ length s.program) before s.within in
      let started = subst (λ (b : Bool). (if b then p.next else p.next + 1) ≤ length s.program) busy within in
      let part = sum_by-at length x.programs t s.program s.has in
      omega (arith, started, part)

  -- and so is the next one
  pub next_fits : p.next ≤ sum_by length x.programs
  next_fits =
      let s = sound.stands t p here in
      let part = sum_by-at length x.programs t s.program s.has in
      let least = at_least (is_resting p.phase) p.next (length s.program) s.within in
      omega (arith, least, part)
    where
      at_least : (b : Bool) (n m : ℕ) → (if b then n else n + 1) ≤ m → n ≤ m
      at_least true n m h = h
      at_least false n m h = omega (arith, h)

-- the block that a place keeps was its own
pub kept_block : (closes : Bool) (block : Option ℕ) (i : ℕ) → (if closes then None else block) ≡ Some i → block ≡ Some i
kept_block true block i e = absurd (none-some i e)
kept_block false block i e = e

module _ {K V D T A : Type 0} (x : Setup K V D T) (bs : List (Block K)) (tables : List (ShardPairs K V)) (t : ℕ)
    (p : Place K V D T A) where
  -- the block of a session is of an earlier call than that
  pub session_counts : (n : ℕ) (session block : Option ℕ) → IsInSession x bs tables t p n session block
      → CanCount bs block n
  session_counts n None block h i e = absurd (none-some i (sym h.1 ∙ e))
  session_counts n (Some c) None h i e = absurd (none-some i e)
  session_counts n (Some c) (Some j) h i e =
      (h.block, subst (λ k. slice_get bs k ≡ Some h.block) (same_Some j i e) h.listed, omega (arith, h.call, h.below))

  -- a guard lends a pair of its shard's list, or has room in it
  pub guard_is : (n : ℕ) (session block : Option ℕ) (g : Guard K) → IsInSession x bs tables t p n session block
      → p.guard ≡ Some g → (at : At K V) × GuardIs tables p (Some g) at
  guard_is n None block g h e = absurd (none-some g (sym h.0 ∙ e))
  guard_is n (Some c) None g h e = absurd (none-some g (sym h.0 ∙ e))
  guard_is n (Some c) (Some j) g h e = (
    reached x t c (n - c) (found x bs j h.block),
    subst (λ (z : Option (Guard K)). GuardIs tables p z (reached x t c (n - c) (found x bs j h.block))) e h.guard,
  )

  pub session_room : (n : ℕ) (session block : Option ℕ) (key : K) → IsInSession x bs tables t p n session block
      → p.guard ≡ Some (guard.Vacant key)
      → HasPairs tables p.shard (λ table. has_room table ≡ true)
  session_room n session block key h e = let g = guard_is n session block (guard.Vacant key) h e in g.1.2

  -- the block of a deed is that of its call
  pub deed_counts : (key : K) (o : Option (K × V)) → IsBeforeDeed x bs t p key o → CanCount bs p.block p.next
  deed_counts key o d i e = (
    d.block,
    subst (λ k. slice_get bs k ≡ Some d.block) (same_Some d.index i (sym d.mine ∙ e)) d.listed,
    omega (arith, d.call),
  )

  pub release_counts : (a : Ask K V D) (r : Answer K V T A) (g : Option (Guard K)) → IsReleasing x bs tables t p a r g
      → CanCount bs (if is_some g then p.block else None) p.next
  release_counts a r None h i e = absurd (none-some i e)
  release_counts a r (Some s) h i e = session_counts p.next _ p.block h.2 i e

-- a thread on its way to a pair has the number of a shard
pub way_fits : {K V S D T A : Type 0} {x : Setup K V D T} {w : State K V S D T A} (sound : Sound x w)
    (p : Place K V D T A) (key : K) → IsOnItsWay x p key → p.shard < length w.tables
way_fits {w = w} sound p key h = subst (λ n. n < length w.tables) (sym h.shard) (sound.routes key)

-- the table that was read at a shard's number
module _ {K V : Type 0} (tables : List (ShardPairs K V)) (shard : ℕ) (r : ShardPairs K V)
    (read : r ≡ get_or tables shard r) where
  pub list_read : (IsSo : ShardPairs K V → Type 0) → HasPairs tables shard IsSo → (slice_get tables shard ≡ Some r)
      × IsSo r
  list_read IsSo h =
      let same = read_at tables shard h.table r h.held read in
      (subst (λ v. slice_get tables shard ≡ Some v) (sym same) h.held, subst IsSo (sym same) h.so)

-- the block that a release counts its call in
pub release_listed : {K V S D T A : Type 0} {x : Setup K V D T} {w : State K V S D T A} (sound : Sound x w) (t : ℕ)
    (p : Place K V D T A) → slice_get w.places t ≡ Some p
    → (r : Answer K V T A) → p.phase ≡ phase.Release r → CanCount w.blocks (if is_some p.guard then p.block else None)
    p.next
release_listed {x = x} {w = w} sound t p here r before =
    let claim = claim_at sound t p here before in
    release_counts x w.blocks w.tables t p claim.0 r p.guard claim.4

-- what a guard is taken apart into tells which it was
pub way_is : {K : Type 0} (g : Option (Guard K)) (kind : Way K) → lent_way g ≡ Some kind → g ≡ Some (guard.Pair kind)
way_is None kind e = cc
way_is (Some (guard.Pair k)) kind e = ap (λ z. Some (guard.Pair z)) (same_Some k kind e)
way_is (Some (guard.Vacant k)) kind e = cc

pub vacant_is : {K : Type 0} (g : Option (Guard K)) (key : K) → vacant_key g ≡ Some key → g ≡ Some (guard.Vacant key)
vacant_is None key e = cc
vacant_is (Some (guard.Pair k)) key e = cc
vacant_is (Some (guard.Vacant k)) key e = cc

-- a shard of which contracts see the pairs is one that the code keeps
module _ {K V : Type 0} (tables : List (Table K V)) (i : ℕ) (IsSo : ShardPairs K V → Type 0)
    (has : HasPairs (map shard_pairs tables) i IsSo) where
  pub kept-within : i < length tables
  kept-within = let v = view-from shard_pairs tables i has.table has.held in slice_get_within tables i v.0 v.1

  pub kept-shard : (r : Table K V) → r ≡ get_or tables i r → (slice_get tables i ≡ Some r) × IsSo (shard_pairs r)
  kept-shard r read =
      let v = view-from shard_pairs tables i has.table has.held in
      let same = read_at tables i v.0 r v.1 read in (
        subst (λ (z : Table K V). slice_get tables i ≡ Some z) (sym same) v.1,
        subst IsSo (sym v.2 ∙ ap shard_pairs (sym same)) has.so,
      )

-- the world behind a step that leaves its thread there, with these shards
pub stepped-by : {K V S D T A : Type 0} (c : Core K V S D T A) (s : Step) (p : KeptPlace K V D T A)
    (q : Place K V D T A) (steps : List Step) (tables : List (Table K V)) (seen : List (ShardPairs K V)) (locks : Shown)
    (blocks : List (Block K)) (replies : List (Reply K V T A))
    → steps ≡ c.steps.items ++ s ∷ [] → place_of p ≡ q → map shard_pairs tables ≡ seen
    → ◌≡◌ {A = State K V S D T A}
    (record (state_of c) {
      steps = steps;
      places = map place_of (slice_set c.places.items s.thread p);
      tables = map shard_pairs tables;
      locks = locks;
      blocks = blocks;
      replies = replies;
    })
    (record (stepped (state_of c) s q) { tables = seen; locks = locks; blocks = blocks; replies = replies })
stepped-by {K} {V} {S} {D} {T} {A} c s p q steps tables seen locks blocks replies more stands sees =
    by steps (map place_of (slice_set c.places.items s.thread p)) (map shard_pairs tables) more
    (map-set place_of c.places.items s.thread p ∙ ap (slice_set (state_of c).places s.thread) stands) sees
  where
    by : (ss : List Step) (ps : List (Place K V D T A)) (ts : List (ShardPairs K V)) → ss ≡ c.steps.items ++ s ∷ []
        → ps ≡ slice_set (state_of c).places s.thread q → ts ≡ seen
        → ◌≡◌ {A = State K V S D T A}
        (record (state_of c) {
          steps = ss;
          places = ps;
          tables = ts;
          locks = locks;
          blocks = blocks;
          replies = replies;
        })
        (record (stepped (state_of c) s q) { tables = seen; locks = locks; blocks = blocks; replies = replies })
    by ss ps ts e1 e2 e3 = rw (e1, e2, e3) refl
