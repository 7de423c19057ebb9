-- A step of one thread leaves room, if what its place may still take falls by as much as is taken.
use Rattle.std.proofs.Common.{◌≡◌, ◌≢◌, ◌⊎◌, inl, inr, ℕ, ◌+◌, ◌-◌, ◌<◌, ◌≤◌, ◌^◌, true, List, Vec, length, map, Some}
use Rattle.std.proofs.Common.{slice_get, slice_set, sum_by, vec_len, vec_capacity, sym, ap, ◌∙◌, subst, arith}
use Rattle.std.proofs.Common.{length-set, leb-true, ⊎_elim}
use Rattle.std.proofs.lemmas.Bool.{lt-ltb, ltb-true}
use Rattle.std.proofs.lemmas.List.{map-set}
use Rattle.mapworld_state.proofs.Views.{view-at, view-from}
use Rattle.mapworld_calls.proofs.Lists.{slice_get-set_cases, sum_by-set, sum_by-at}
use Rattle.mapworld_state.specs.Locks.Views.{Shown}
use Rattle.mapworld_state.proofs.LocksFacts.Sizes.{KeepsSize}
use Rattle.mapworld_state.specs.declared.holds.Hold.{Hold}
use Rattle.mapworld_state.specs.declared.place.Place.{Place as KeptPlace}
use Rattle.mapworld_state.specs.Places.{Place, place_of}
use Rattle.mapworld_state.specs.declared.world_core.Core.{Core}
use Rattle.mapworld_state.specs.Route.{IsWorldAmount}
use Rattle.mapworld_state.specs.State.{State, pairs_of}
use Rattle.mapworld_state.specs.Running.{has_next, has_numbers}
use Rattle.mapworld_state.specs.Core.{state_of, owed, owes, may_list, lists, may_add, adds, may_walk, lists_due, Room}

-- what a step changes, in numbers: the place p of thread t is now p'
pub record Shift {K V S D T A : Type 0} (c c' : Core K V S D T A) (t : ℕ) (p p' : KeptPlace K V D T A) : Type 0 where
  pub here : slice_get c.places.items t ≡ Some p
  pub places : c'.places.items ≡ slice_set c.places.items t p'
  pub numbers : has_next (state_of c) ≡ true
  pub steps : length c'.steps.items ≡ length c.steps.items + 1
  pub count : c'.count ≡ c.count + 1
  pub programs : (state_of c').programs ≡ (state_of c).programs
  pub tables : length c'.tables.items ≡ length c.tables.items
  pub held : (i : ℕ) (h : Hold) → slice_get p'.holds.items i ≡ Some h → h.shard < length c.tables.items
  pub locks : KeepsSize (state_of c).locks (state_of c').locks
  pub unanswered : c'.unanswered + owed (place_of p) ≡ c.unanswered + owed (place_of p')
  pub answers : length c'.replies.items + owed (place_of p') ≡ length c.replies.items + owed (place_of p)
  pub replies : vec_capacity c'.replies ≡ vec_capacity c.replies
  pub listing : length c'.blocks.items + may_list (length c.tables.items) (place_of p') ≤ length c.blocks.items +
      may_list (length c.tables.items) (place_of p)
  pub blocks : vec_capacity c'.blocks ≡ vec_capacity c.blocks
  pub visits : may_walk (place_of p') ≡ true → may_walk (place_of p) ≡ true
  pub capacity : vec_capacity p'.visits ≡ vec_capacity p.visits
  pub lists : lists_due (place_of p') + length p.lists.items ≤ lists_due (place_of p) + length p'.lists.items
  pub adding : c'.pairs + may_add (place_of p') ≤ c.pairs + may_add (place_of p)
  pub pairs : c'.pairs ≡ length (pairs_of (state_of c'))
  pub more_blocks : length c.blocks.items ≤ length c'.blocks.items
  pub listed : (i : ℕ) → p'.block ≡ Some i → i < length c'.blocks.items

-- a number is left for a step
pub one_more : {K V S D T A : Type 0} (w : State K V S D T A) → has_next w ≡ true → length w.steps + 1 < 2 ^ 63
one_more w h = ltb-true _ _ h

-- so it is where numbers are left for that step and all that must come after it
pub next_too : {K V S D T A : Type 0} (w : State K V S D T A) → has_numbers w ≡ true → has_next w ≡ true
next_too w h = let fits = leb-true _ _ h in lt-ltb (length w.steps + 1) (2 ^ 63) (omega arith)

module _ {K V S D T A : Type 0} (c : Core K V S D T A) (t : ℕ) (p p' : KeptPlace K V D T A)
    (here : slice_get c.places.items t ≡ Some p) (places : List (KeptPlace K V D T A))
    (are : places ≡ slice_set c.places.items t p') where
  -- a place behind a step is the thread's own or another's, as it was
  place-cases : (u : ℕ) (q : KeptPlace K V D T A) → slice_get places u ≡ Some q → ((u ≡ t) × (q ≡ p'))
      ⊎ ((u ≢ t) × (slice_get c.places.items u ≡ Some q))
  place-cases u q at = slice_get-set_cases c.places.items t u p q p' here (subst (λ ps. slice_get ps u ≡ Some q) are at)

  seen-cases : (u : ℕ) (q : Place K V D T A) → slice_get (map place_of places) u ≡ Some q
      → ((u ≡ t) × (q ≡ place_of p')) ⊎ ((u ≢ t) × (slice_get (state_of c).places u ≡ Some q))
  seen-cases u q at =
      let v = view-from place_of places u q at in
      ⊎_elim
      (λ own. inl (own.0, sym v.2 ∙ ap place_of own.1))
      (λ other. inr (other.0, view-at place_of c.places.items u v.0 other.1 ∙ ap (λ z. Some z) v.2))
      (place-cases u v.0 v.1)

  -- what all places weigh
  total : (f : Place K V D T A → ℕ) → sum_by f (map place_of places) + f (place_of p) ≡ sum_by f (state_of c).places + f
      (place_of p')
  total f =
      let seen : map place_of places ≡ slice_set (state_of c).places t (place_of p') = ap (map place_of) are
      ∙ map-set place_of c.places.items t p' in
      subst (λ ps. sum_by f ps + f (place_of p) ≡ sum_by f (state_of c).places + f (place_of p')) (sym seen)
      (sum_by-set f (state_of c).places t (place_of p) (place_of p') (view-at place_of c.places.items t p here))

  many : length (map place_of places) ≡ length (state_of c).places
  many = ap length (ap (map place_of) are ∙ map-set place_of c.places.items t p')
      ∙ length-set (state_of c).places t (place_of p')

  -- what places keep room for
  visits-fit : (n : ℕ)
      → ((u : ℕ) (q : KeptPlace K V D T A) → slice_get c.places.items u ≡ Some q → may_walk (place_of q) ≡ true
      → n ≤ vec_capacity q.visits)
      → (may_walk (place_of p') ≡ true → may_walk (place_of p) ≡ true) → vec_capacity p'.visits ≡ vec_capacity p.visits
      → (u : ℕ) (q : KeptPlace K V D T A) → slice_get places u ≡ Some q → may_walk (place_of q) ≡ true
      → n ≤ vec_capacity q.visits
  visits-fit n fit walks same u q at walk = ⊎_elim
      (λ own. subst (λ (z : KeptPlace K V D T A). n ≤ vec_capacity z.visits) (sym own.1)
      (subst (λ k. n ≤ k) (sym same)
      (fit t p here (walks (ap (λ (z : KeptPlace K V D T A). may_walk (place_of z)) (sym own.1) ∙ walk)))))
      (λ other. fit u q other.1 walk)
      (place-cases u q at)

  lists-fit : ((u : ℕ) (q : KeptPlace K V D T A) → slice_get c.places.items u ≡ Some q
      → lists_due (place_of q) ≤ length q.lists.items)
      → lists_due (place_of p') + length p.lists.items ≤ lists_due (place_of p) + length p'.lists.items
      → (u : ℕ) (q : KeptPlace K V D T A) → slice_get places u ≡ Some q → lists_due (place_of q) ≤ length q.lists.items
  lists-fit fit change u q at = ⊎_elim
      (λ own. let before = fit t p here in
      subst (λ (z : KeptPlace K V D T A). lists_due (place_of z) ≤ length z.lists.items) (sym own.1)
      (omega (arith, before, change)))
      (λ other. fit u q other.1)
      (place-cases u q at)

module _ {K V S D T A : Type 0} (c c' : Core K V S D T A) (t : ℕ) (p p' : KeptPlace K V D T A) (r : Room c)
    (s : Shift c c' t p p') where
  still_listed : (u : ℕ) (q : Place K V D T A) (i : ℕ) → slice_get (state_of c').places u ≡ Some q → q.block ≡ Some i
      → i < length c'.blocks.items
  still_listed u q i at e = ⊎_elim
      (λ own. s.listed i (ap (λ (x : Place K V D T A). x.block) (sym own.1) ∙ e))
      (λ other. let below = r.listed u q i other.1 e in omega (arith, below, s.more_blocks))
      (seen-cases c t p p' s.here c'.places.items s.places u q at)

  still_held : (u i : ℕ) (q : Place K V D T A) (h : Hold) → slice_get (state_of c').places u ≡ Some q
      → slice_get q.holds i ≡ Some h → h.shard < length c'.tables.items
  still_held u i q h at e =
      let below : h.shard < length c.tables.items = ⊎_elim
      (λ own. s.held i h (ap (λ (x : Place K V D T A). slice_get x.holds i) (sym own.1) ∙ e))
      (λ other. r.held u i q h other.1 e)
      (seen-cases c t p p' s.here c'.places.items s.places u q at) in
      omega (arith, below, s.tables)

  pub shifted : Room c'
  shifted =
      let n = length c.tables.items in
      let owing = total c t p p' s.here c'.places.items s.places owed in
      let listing = total c t p p' s.here c'.places.items s.places (may_list n) in
      let adding = total c t p p' s.here c'.places.items s.places may_add in
      let programs = ap (λ ps. sum_by length ps) s.programs in
      let threads = many c t p p' s.here c'.places.items s.places in
      let fits = one_more (state_of c) s.numbers in
      let shards = ap (λ k. sum_by (may_list k) (state_of c').places) s.tables in
      record {
        count = s.count ∙ (ap (λ k. k + 1) r.count ∙ sym s.steps);
        count_fits = omega (arith, s.count, r.count, fits);
        unanswered = omega (arith, s.unanswered, s.answers, r.unanswered, r.answers, programs, owing);
        answers = omega (arith, s.answers, r.answers, programs, owing);
        calls_fit = omega (arith, r.calls_fit, programs);
        replies = omega (arith, r.replies, s.replies, programs);
        blocks = omega (arith, r.blocks, s.blocks, s.listing, listing, shards);
        blocks_fit = omega (arith, r.blocks_fit, s.listing, listing, shards);
        visits = subst (λ k. (u : ℕ) (q : KeptPlace K V D T A) → slice_get c'.places.items u ≡ Some q
            → may_walk (place_of q) ≡ true → k ≤ vec_capacity q.visits) (sym s.tables)
            (visits-fit c t p p' s.here c'.places.items s.places n r.visits s.visits s.capacity);
        lists = lists-fit c t p p' s.here c'.places.items s.places r.lists s.lists;
        held = still_held;
        locks = record {
          threads_are = s.locks.threads_are ∙ r.locks.threads_are ∙ sym threads;
          shards_are = s.locks.shards_are ∙ r.locks.shards_are ∙ sym s.tables;
          desks_are = s.locks.desks_are ∙ r.locks.desks_are ∙ sym s.tables;
        };
        pairs = s.pairs;
        pairs_fit = omega (arith, r.pairs_fit, s.adding, adding);
        places = threads ∙ (r.places ∙ sym (ap length s.programs));
        threads_fit = omega (arith, threads, r.threads_fit);
        shards = subst IsWorldAmount (sym s.tables) r.shards;
        listed = still_listed;
      }

-- A place that owes as much as before, and lists and adds no more, and locks of the same sizes, leave room: what ends
-- with no step of its own.
pub moved : {K V S D T A : Type 0} (c : Core K V S D T A) (places : Vec (KeptPlace K V D T A) A) (locks : Shown) (t : ℕ)
    (p p' : KeptPlace K V D T A) → Room c
    → slice_get c.places.items t ≡ Some p → places.items ≡ slice_set c.places.items t p'
    → owed (place_of p') ≡ owed (place_of p)
    → may_list (length c.tables.items) (place_of p') ≤ may_list (length c.tables.items) (place_of p)
    → may_add (place_of p') ≤ may_add (place_of p) → p'.block ≡ p.block
    → (may_walk (place_of p') ≡ true → may_walk (place_of p) ≡ true) → vec_capacity p'.visits ≡ vec_capacity p.visits
    → lists_due (place_of p') + length p.lists.items ≤ lists_due (place_of p) + length p'.lists.items
    → ((i : ℕ) (h : Hold) → slice_get p'.holds.items i ≡ Some h → h.shard < length c.tables.items)
    → KeepsSize c.locks locks → Room (record c { places = places; locks = locks })
moved {K} {V} {S} {D} {T} {A} c places locks t p p' r here are owing listing adding block walks capacity lists held
    sizes =
    let owing' = total c t p p' here places.items are owed in
    let listing' = total c t p p' here places.items are (may_list (length c.tables.items)) in
    let adding' = total c t p p' here places.items are may_add in
    let threads = many c t p p' here places.items are in
    record {
      count = r.count;
      count_fits = r.count_fits;
      unanswered = r.unanswered;
      answers = omega (arith, r.answers, owing', owing);
      calls_fit = r.calls_fit;
      replies = r.replies;
      blocks = omega (arith, r.blocks, listing', listing);
      blocks_fit = omega (arith, r.blocks_fit, listing', listing);
      visits = visits-fit c t p p' here places.items are (length c.tables.items) r.visits walks capacity;
      lists = lists-fit c t p p' here places.items are r.lists lists;
      held = λ u i q h at e. ⊎_elim
          (λ own. held i h (ap (λ (x : Place K V D T A). slice_get x.holds i) (sym own.1) ∙ e))
          (λ other. r.held u i q h other.1 e) (seen-cases c t p p' here places.items are u q at);
      locks = record {
        threads_are = sizes.threads_are ∙ r.locks.threads_are ∙ sym threads;
        shards_are = sizes.shards_are ∙ r.locks.shards_are;
        desks_are = sizes.desks_are ∙ r.locks.desks_are;
      };
      pairs = r.pairs;
      pairs_fit = omega (arith, r.pairs_fit, adding', adding);
      places = threads ∙ r.places;
      threads_fit = omega (arith, threads, r.threads_fit);
      shards = r.shards;
      listed = λ u q i at e. ⊎_elim
          (λ own. r.listed t (place_of p) i (view-at place_of c.places.items t p here)
          (sym block ∙ ap (λ (x : Place K V D T A). x.block) (sym own.1) ∙ e))
          (λ other. r.listed u q i other.1 e) (seen-cases c t p p' here places.items are u q at);
    }

module _ {K V S D T A : Type 0} (c : Core K V S D T A) (t : ℕ) (p : Place K V D T A) (r : Room c)
    (here : slice_get (state_of c).places t ≡ Some p) where
  -- a call that isn't answered leaves room for its reply
  pub answer_left : owes p.phase ≡ 1 → (vec_len c.replies < vec_capacity c.replies) × (1 ≤ c.unanswered)
  answer_left one =
      let part = sum_by-at owed (state_of c).places t p here in (
        omega (arith, one, part, r.answers, r.replies, c.replies.ok.0),
        omega (arith, one, part, r.answers, r.unanswered),
      )

  -- a call that may list a block has room for it
  pub block_left : 1 ≤ lists (length c.tables.items - (p.shard + 1)) p.phase → vec_len c.blocks < vec_capacity c.blocks
  block_left some = let part = sum_by-at (may_list (length c.tables.items)) (state_of c).places t p here in
      omega (arith, some, part, r.blocks, c.blocks.ok.0)

  -- a call that may add a pair has a number for it
  pub pair_left : adds p.phase ≡ 1 → c.pairs + 1 ≤ 2 ^ 31 + 2 ^ 20
  pair_left one = let part = sum_by-at may_add (state_of c).places t p here in omega (arith, one, part, r.pairs_fit)
