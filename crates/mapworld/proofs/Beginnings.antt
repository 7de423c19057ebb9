-- A new world is sound, has its opening pairs, and has room for all its calls.
use Rattle.std.proofs.Common.{◌≡◌, ℕ, zero, suc, ◌+◌, ◌-◌, ◌<◌, ◌≤◌, ◌^◌, ◌||◌, Bool, true, false, List, [], ◌∷◌}
use Rattle.std.proofs.Common.{length, map, replicate, Option, Some, None, slice_get, IsTrue, vec_capacity, refl, ap}
use Rattle.std.proofs.Common.{ap₂, sym, ◌∙◌, subst, arith}
use Rattle.std.specs.List.{flat_map, sum_by, list_all, list_any}
use Rattle.std.specs.Option.{option_and_then}
use Rattle.std.specs.Hash.{HashWrites}
use Rattle.std.specs.Cmp.{IsEquivalence}
use Rattle.mapworld_state.specs.Shards.{ShardPairs}
use Rattle.std.specs.declared.hash.BuildHasher as builder
use Rattle.std.specs.declared.hash.Hasher as hasher
use Rattle.std.proofs.lemmas.Bool.{true_from_ne_false, false≢true}
use Rattle.std.proofs.lemmas.List.{length-map}
use Rattle.std.proofs.lemmas.List.Sums.{sum_by-cons}
use Rattle.std.proofs.lemmas.List.Folds.{list_all_at}
use Rattle.std.proofs.lemmas.Option.{none-some, slice_get_within, get_or_from_slice_get}
use Rattle.mapworld_calls.specs.declared.deed.Deed as deed
use Rattle.mapworld_calls.specs.declared.ask.Ask.{Ask}
use Rattle.mapworld_calls.specs.declared.block.Block.{Block}
use Rattle.mapworld_calls.specs.declared.reply.Reply.{Reply}
use Rattle.mapworld_calls.specs.declared.ask.Ask.TheVariants as ask
use Rattle.mapworld_calls.specs.declared.ask.Walk.{Walk}
use Rattle.mapworld_calls.specs.Programs.{one_guard, opening_before, stop_of}
use Rattle.mapworld_calls.specs.Pairs.{pair_of, opening_pair}
use Rattle.mapworld_calls.specs.Setup.{Setup, Laws}
use Rattle.mapworld_calls.specs.Placed.{WellPlaced}
use Rattle.mapworld_state.specs.declared.step.Step.{Step}
use Rattle.parking_lot_machine_calls.specs.declared.calls.LockKind.TheVariants as kind
use Rattle.parking_lot_machine.specs.Rows as rows
use Rattle.mapworld_state.specs.Locks.Fresh.{AreFresh}
use Rattle.mapworld_state.specs.Locks.Stands.{stand_in}
use Rattle.mapworld_state.specs.Locks.Views.{Shown, owner_in}
use Rattle.mapworld_state.specs.declared.holds.Hold.{Hold}
use Rattle.mapworld_state.specs.declared.place.Phase.{Phase}
use Rattle.mapworld_state.specs.declared.place.Phase.TheVariants as phase
use Rattle.mapworld_state.specs.Places.{Place, place_of}
use Rattle.mapworld_state.specs.declared.place.Place.{Place as KeptPlace}
use Rattle.mapworld_state.specs.Slots.{HasSlots, SlotIsNext, slot_key}
use Rattle.mapworld_state.proofs.Views.{view-at}
use Rattle.mapworld_state.specs.declared.world_core.Core.{Core}
use Rattle.mapworld_state.specs.Route.{IsWorldAmount, key_route}
use Rattle.mapworld_state.specs.State.{State, started_of}
use Rattle.mapworld_state.specs.World.{deeds_of, setup_of}
use Rattle.mapworld_state.specs.Sound.{FitsCounter, IsInSession, Stands, TablesAgree, Sound}
use Rattle.mapworld_state.specs.Held.{HoldsMatch, StandsBefore}
use Rattle.mapworld_state.specs.Core.{state_of, owes, lists, adds, blocks_of, may_visit, may_list, may_walk}
use Rattle.mapworld_state.specs.Core.{phase_lists, AreLocksOf, Room}
use Rattle.mapworld_state.specs.Classes.{class_of, walks_in}
use Rattle.dashmap_table.specs.Table.{Table}
use Rattle.mapworld.specs.Beginning.{at_start, AreAtStart, AreFilled, AreHashed, HaveLists, pairs_in}
use Rattle.mapworld.specs.Stops.{AllStopsFit}
use Rattle.mapworld.proofs.Routes.{key_route-below, key_route-equal}
use Rattle.mapworld.proofs.Refusals.{sum_by-map}
use Rattle.mapworld.proofs.Outcomes.{element-at}
use Rattle.mapworld.proofs.Viewing.{map_to, pair_at_route}

or-none : (b : Bool) → (b || false) ≡ b
or-none true = refl
or-none false = refl

sum_by-alike : {X : Type 0} (f g : X → ℕ) (xs : List X) → ((i : ℕ) (x : X) → slice_get xs i ≡ Some x → f x ≡ g x)
    → sum_by f xs ≡ sum_by g xs
sum_by-alike f g [] alike = refl
sum_by-alike f g (x ∷ xs) alike =
    sum_by-cons f x xs
    ∙ (ap₂ (λ m n. m + n) (alike 0 x refl) (sum_by-alike f g xs (λ i y at. alike (suc i) y at))
    ∙ sym (sum_by-cons g x xs))

all-at : {X : Type 0} (p : X → Bool) (xs : List X) (i : ℕ) (x : X) → list_all p xs ≡ true → slice_get xs i ≡ Some x
    → p x ≡ true
all-at p xs i x all at = true_from_ne_false (p x) (λ e.
    false≢true (sym (list_all_at p xs i x (slice_get_within xs i x at)
    (ap p (get_or_from_slice_get xs i x x at) ∙ e)) ∙ all))

-- a walk that a thread asks for is one of its program
stop-at : {K V D : Type 0} (programs : List (List (Ask K V D))) → AllStopsFit programs → (t c : ℕ) (f : Walk D)
    → option_and_then (λ program. slice_get program c) (slice_get programs t) ≡ Some (ask.Walk f)
    → FitsCounter (stop_of f)
stop-at {K} {V} {D} programs stops t c f asked = by (slice_get programs t) refl asked
  where
    by : (o : Option (List (Ask K V D))) → slice_get programs t ≡ o
        → option_and_then (λ program. slice_get program c) o ≡ Some (ask.Walk f) → FitsCounter (stop_of f)
    by None at e = absurd (none-some (ask.Walk f) e)
    by (Some program) at e = stops t program at c (ask.Walk f) e

-- nobody is in a call at a lock, and nobody owns one
pub record AreIdle (locks : Shown) : Type 0 where
  pub free : (t : ℕ) → stand_in locks t ≡ None
  pub unowned : (i t : ℕ) → owner_in locks i t ≡ None

module _ {K V D T A : Type 0} (x : Setup K V D T) (tables : List (ShardPairs K V)) where
  start_stands : (t : ℕ) (asks : List (Ask K V D)) → slice_get x.programs t ≡ Some asks
      → Stands {A = A} x [] [] [] tables t (at_start asks)
  start_stands t asks has = record {
    program = asks;
    has = has;
    asks_left = refl;
    within = omega arith;
    answered = refl;
    owns = λ i b at own. absurd (none-some b at);
    own_block = λ i mine. absurd (none-some i mine);
    own_visits = record {
      are = λ i own. absurd (none-some i own.1);
      once = λ m n i here there. absurd
          (none-some i here);
    };
    walks = record { visits = refl; reads = refl; count = refl };
    claim = (
      refl,
      λ h. refl,
      subst (λ (o : Option (List (Ask K V D))). IsInSession {A = A} x [] tables t (at_start asks) 0
          (option_and_then (λ program. opening_before program 0) o) None) (sym has) (refl, refl),
    );
  }

  all_stand : (places : List (Place K V D T A)) → AreAtStart x.programs places → (t : ℕ) (p : Place K V D T A)
      → slice_get places t ≡ Some p → Stands x [] [] [] tables t p
  all_stand places start t p at =
      subst (λ (q : Place K V D T A). Stands x [] [] [] tables t q) (sym (start.each t p at))
      (start_stands t p.asks (ap (λ ps. slice_get ps t) (sym start.programs_are)
      ∙ map_to (λ (q : Place K V D T A). q.asks) places t p at))

  nothing_held : (places : List (Place K V D T A)) (locks : Shown) → AreAtStart x.programs places → AreIdle locks
      → HoldsMatch places locks
  nothing_held places locks start idle = record {
    owned = λ t i p h at has. absurd (none t i p h at has);
    known = λ t shard p mode at owns. absurd (none-some mode (sym (idle.unowned shard t) ∙ owns));
    once = λ t i j p a b hp ha hb same. absurd (none t i p a hp ha);
    compatible = λ t u i j p q a b ne hp hq ha hb same. absurd (none t i p a hp ha);
    stands = λ t p at. subst (λ (f : Phase K V D T A). StandsBefore p f (stand_in locks t))
        (sym (ap (λ (q : Place K V D T A). q.phase) (start.each t p at))) (idle.free t);
  }
    where
      none : (t i : ℕ) (p : Place K V D T A) (h : Hold) → slice_get places t ≡ Some p → slice_get p.holds i ≡ Some h → ⊥
      none t i p h at has = none-some h (sym (ap (λ (q : Place K V D T A). slice_get q.holds i) (start.each t p at))
          ∙ has)

  nothing_placed : (threads : List ℕ) (started : ℕ → Option ℕ) → WellPlaced {A = A} x threads started [] []
  nothing_placed threads started = record {
    placed = λ i b at. absurd (none-some b at);
    rising = λ i j b c at there lt. absurd (none-some b at);
    own_order = λ i j b c at there lt same. absurd (none-some b at);
    timed = λ i r at. absurd (none-some r at);
    ends_rise = λ i j r s at there lt. absurd (none-some r at);
    in_turn = λ i r at. absurd (none-some r at);
  }

-- the locks of a new world
pub are_idle : (threads shards : ℕ) (locks : Shown) → AreFresh threads shards locks → AreIdle locks
are_idle threads shards locks fresh = record { free = fresh.free; unowned = fresh.unowned }

length-replicate : {X : Type 0} (n : ℕ) (x : X) → length (replicate n x) ≡ n
length-replicate zero x = refl
length-replicate (suc n) x = ap suc (length-replicate n x)

pub are_locks : (threads shards : ℕ) (locks : Shown) → AreFresh threads shards locks → AreLocksOf threads shards locks
are_locks threads shards locks fresh = record {
  threads_are = ap (λ (s : rows.State). length s.calls) fresh.rows ∙ length-replicate threads None;
  shards_are = ap (λ (s : rows.State). length s.kinds) fresh.rows ∙ length-replicate shards kind.Rw;
  desks_are = fresh.count;
}

-- a world in which nothing has happened
pub record IsFresh {K V S D T A : Type 0} (w : State K V S D T A) : Type 0 where
  pub steps : w.steps ≡ []
  pub locks : AreIdle w.locks
  pub blocks : w.blocks ≡ []
  pub replies : w.replies ≡ []

module _ {K V S H D T A : Type 0} (d : deed.Ghosts D K V T) (b : builder.Ghosts S H) (h : hasher.Ghosts H)
    (eq : K → K → Bool) (writes : K → HashWrites) where
  abbrev lists_of : State K V S D T A → List Step → List (Block K) → List (Reply K V T A) → State K V S D T A
  lists_of w steps blocks replies = record w { steps = steps; blocks = blocks; replies = replies }

  agree : (w : State K V S D T A) → AreFilled eq (key_route b h writes w.hasher (length w.tables)) w.opening w.tables
      → TablesAgree (setup_of d b h eq writes w) [] w.tables
  agree w filled = record { routed = filled.routed; distinct = filled.distinct; contents_are = filled.contents_are }

  sound_bare : (w : State K V S D T A) → IsWorldAmount (length w.tables)
      → list_all (one_guard false) w.programs ≡ true → AllStopsFit w.programs → AreAtStart w.programs w.places
      → AreFilled eq (key_route b h writes w.hasher (length w.tables)) w.opening w.tables → AreIdle w.locks
      → Sound (setup_of d b h eq writes (lists_of w [] [] [])) (lists_of w [] [] [])
  sound_bare w amount guarded stops start filled free = record {
    shards = refl;
    some = omega (arith, amount.1);
    stops = λ t c f asked. stop-at w.programs stops t c f asked;
    guarded = λ t program at. all-at (one_guard false) w.programs t program guarded at;
    routes = λ q. key_route-below b h writes w.hasher (length w.tables) amount q;
    stands = λ t p at. all_stand (setup_of d b h eq writes w) w.tables w.places start t p at;
    tables = agree w filled;
    holds = nothing_held (setup_of d b h eq writes w) w.tables w.places w.locks start free;
    placed = nothing_placed (setup_of d b h eq writes w) w.tables [] (started_of w);
    replies = λ i r at. absurd (none-some r at);
  }

  bare : (w : State K V S D T A) → IsFresh w → lists_of w [] [] [] ≡ w
  bare w fresh =
      ap (λ s. lists_of w s [] []) (sym fresh.steps)
      ∙ (ap (λ s. lists_of w w.steps s []) (sym fresh.blocks)
      ∙ ap (λ s. lists_of w w.steps w.blocks s) (sym fresh.replies))

  pub new-sound : (w : State K V S D T A) → IsFresh w → IsWorldAmount (length w.tables)
      → list_all (one_guard false) w.programs ≡ true → AllStopsFit w.programs → AreAtStart w.programs w.places
      → AreFilled eq (key_route b h writes w.hasher (length w.tables)) w.opening w.tables
      → Sound (setup_of d b h eq writes w) w
  new-sound w fresh amount guarded stops start filled =
      subst (λ (v : State K V S D T A). Sound (setup_of d b h eq writes v) v) (bare w fresh)
      (sound_bare w amount guarded stops start filled fresh.locks)

module _ {K V S H D T : Type 0} (d : deed.Ghosts D K V T) (b : builder.Ghosts S H) (h : hasher.Ghosts H)
    (eq : K → K → Bool) (writes : K → HashWrites) where
  pub new-contents : (hasher : S) (pairs : List (K × V)) (tables : List (ShardPairs K V)) → IsEquivalence eq
      → ((j k : K) → IsTrue (eq j k) → writes j ≡ writes k) → IsWorldAmount (length tables)
      → AreFilled eq (key_route b h writes hasher (length tables)) pairs tables
      → (q : K) → pair_of eq (flat_map (λ table. table.items) tables) q ≡ opening_pair eq pairs q
  new-contents hasher pairs tables laws respects amount filled q =
      let x : Setup K V D T = record {
        eq = eq;
        shards = length tables;
        route = key_route b h writes hasher
            (length tables);
        deeds = deeds_of d;
        programs = [];
        opening = pairs;
      } in
      let lawful : Laws x = record {
        equivalence = laws;
        routes = key_route-equal b h writes hasher (length tables)
            eq respects;
      } in
      let agree : TablesAgree x [] tables = record {
        routed = filled.routed;
        distinct = filled.distinct;
        contents_are = filled.contents_are;
      } in
      let route = key_route-below b h writes hasher (length tables) amount q in
      let there = element-at tables (key_route b h writes hasher (length tables) q) route in
      pair_at_route x [] tables lawful agree q there.0 there.1
      ∙ filled.contents_are q there.0 there.1

module _ {K V D T A : Type 0} (programs : List (List (Ask K V D))) (places : List (Place K V D T A))
    (start : AreAtStart programs places) where
  start_sum : (f : Phase K V D T A → ℕ) → f phase.Rest ≡ 0
      → sum_by (λ p. length p.asks + f p.phase) places ≡ sum_by length programs
  start_sum f none =
      sum_by-alike (λ (p : Place K V D T A). length p.asks + f p.phase) (λ p. length p.asks) places (λ t p at.
      let rests : f p.phase ≡ 0 = ap (λ (q : Place K V D T A). f q.phase) (start.each t p at) ∙ none in
      omega (arith, rests))
      ∙ (sym (sum_by-map length (λ (p : Place K V D T A). p.asks) places)
      ∙ ap (λ ps. sum_by length ps) start.programs_are)

  start_list : (shards : ℕ) → sum_by (may_list shards) places ≡ sum_by
      (λ program. sum_by (blocks_of shards) program) programs
  start_list shards =
      sum_by-alike (may_list shards) (λ (p : Place K V D T A). sum_by (blocks_of shards) p.asks) places (λ t p at.
      let rests : lists (shards - (p.shard + 1)) p.phase ≡ 0 = ap
      (λ (q : Place K V D T A). lists (shards - (q.shard + 1)) q.phase) (start.each t p at) in
      omega (arith, rests))
      ∙ (sym (sum_by-map (λ program. sum_by (blocks_of shards) program) (λ (p : Place K V D T A). p.asks) places)
      ∙ ap (λ ps. sum_by (λ program. sum_by (blocks_of shards) program) ps) start.programs_are)

  start_count : length places ≡ length programs
  start_count = sym (length-map places (λ p. p.asks)) ∙ ap (λ ps. length ps) start.programs_are

  -- a thread that hasn't begun may come to a shard where its program has a walk that does
  new-walks : (t : ℕ) (p : KeptPlace K V D T A) → slice_get places t ≡ Some (place_of p)
      → may_walk (place_of p) ≡ list_any may_visit p.asks.items
  new-walks t p at = ap (λ (q : Place K V D T A). list_any may_visit p.asks.items || walks_in (class_of q.phase))
      (start.each t (place_of p) at) ∙ or-none (list_any may_visit p.asks.items)

-- what a new world's lists have room for
pub record HasNewRoom {K V S D T A : Type 0} (c : Core K V S D T A) : Type 0 where
  pub count : c.count ≡ 0
  pub unanswered : c.unanswered ≡ sum_by length (state_of c).programs
  pub calls_fit : sum_by length (state_of c).programs ≤ 2 ^ 20
  pub replies : sum_by length (state_of c).programs ≤ vec_capacity c.replies
  pub blocks : sum_by (λ program. sum_by (blocks_of (length c.tables.items)) program) (state_of c).programs ≤
      vec_capacity c.blocks
  pub blocks_fit : sum_by (λ program. sum_by (blocks_of (length c.tables.items)) program) (state_of c).programs < 2
      ^ 32
  pub lists : HaveLists (length c.tables.items) c.places.items
  pub locks : AreLocksOf (length (state_of c).programs) (length c.tables.items) (state_of c).locks
  pub pairs : c.pairs ≡ pairs_in (state_of c).tables
  pub pairs_fit : c.pairs ≤ 2 ^ 31
  pub threads_fit : length (state_of c).programs ≤ 256
  pub shards : IsWorldAmount (length c.tables.items)

pub new-room : {K V S D T A : Type 0} (c : Core K V S D T A) → IsFresh (state_of c)
    → AreAtStart (state_of c).programs (state_of c).places → HasNewRoom c → Room c
new-room {K} {V} {S} {D} {T} {A} c fresh start room =
    let programs = (state_of c).programs in
    let places = (state_of c).places in
    let owed_sum = start_sum programs places start owes refl in
    let list_sum = start_list programs places start (length c.tables.items) in
    let add_sum = start_sum programs places start adds refl in
    let same = start_count programs places start in
    let no_steps : length c.steps.items ≡ 0 = ap (λ l. length l) fresh.steps in
    let no_blocks : length c.blocks.items ≡ 0 = ap (λ l. length l) fresh.blocks in
    let no_replies : length c.replies.items ≡ 0 = ap (λ l. length l) fresh.replies in
    record {
      count = omega (arith, room.count, no_steps);
      count_fits = omega (arith, room.count);
      held = λ t i p h at has. absurd (none-some h (sym
          (ap (λ (q : Place K V D T A). slice_get q.holds i) (start.each t p at)) ∙ has));
      unanswered = omega (arith, room.unanswered, no_replies);
      answers = omega (arith, no_replies, owed_sum);
      calls_fit = room.calls_fit;
      replies = room.replies;
      blocks = omega (arith, no_blocks, list_sum, room.blocks);
      blocks_fit = omega (arith, no_blocks, list_sum, room.blocks_fit);
      visits = λ t p at walks.
          let rests : may_walk (place_of p) ≡ list_any may_visit p.asks.items = new-walks programs places start t p
          (view-at place_of c.places.items t p at) in
          (room.lists t p at).visits (sym rests ∙ walks);
      lists = λ t p at.
          let rests : phase_lists (place_of p).phase ≡ 0 = ap (λ (q : Place K V D T A). phase_lists q.phase)
          (start.each t (place_of p) (view-at place_of c.places.items t p at)) in
          omega (arith, rests, (room.lists t p at).lists);
      locks = subst (λ n. AreLocksOf n (length c.tables.items) (state_of c).locks) (sym same) room.locks;
      pairs = room.pairs;
      pairs_fit = omega (arith, add_sum, room.pairs_fit, room.calls_fit);
      places = same;
      threads_fit = omega (arith, same, room.threads_fit);
      shards = room.shards;
      listed = λ t p i at has. absurd (none-some i (sym (ap (λ (q : Place K V D T A). q.block) (start.each t p at))
          ∙ has));
    }

-- the threads of a new world have found no pairs
pub new-slotted : {K V D T A : Type 0} (x : Setup K V D T) (hash : K → ℕ) (tables : List (Table K V))
    (bs : List (Block K)) (programs : List (List (Ask K V D))) (places : List (KeptPlace K V D T A))
    → AreAtStart programs (map place_of places) → AreHashed hash tables → HasSlots x hash tables bs places
new-slotted {K} {V} {D} {T} {A} x hash tables bs programs places start hashed = record {
  hashed = hashed;
  found = λ t p key at has.
      absurd (none-some key (sym (ap (λ (q : Place K V D T A). slot_key x bs q)
      (start.each t (place_of p) (view-at place_of places t p at))) ∙ has));
  next = λ t p at. subst (λ (f : Phase K V D T A). SlotIsNext x.eq tables bs p f)
      (sym (ap (λ (q : Place K V D T A). q.phase) (start.each t (place_of p) (view-at place_of places t p at)))) tt;
}
