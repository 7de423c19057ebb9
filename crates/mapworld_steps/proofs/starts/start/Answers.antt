use Rattle.std.proofs.Common.{◌+◌, length, Some, refl, sym, ap, ◌∙◌, arith, length-append, ◌≡◌, ◌<◌, ◌-◌, true}
use Rattle.std.proofs.Common.{List, sum_by, subst}
use Rattle.mapworld_state.specs.Core.{owes, lists, adds, blocks_of, ask_lists, phase_lists}
use Rattle.std.proofs.lemmas.List.{length-map}
use Rattle.std.proofs.lemmas.Option.{slice_get_within}
use Rattle.mapworld_state.specs.declared.place.Phase.TheVariants as phase
use Rattle.mapworld_state.specs.Shards.{shard_pairs}
use Rattle.mapworld_transitions.proofs.Rooms.{shifted}
use Rattle.mapworld_state.specs.Places.{place_of}
use Rattle.mapworld_transitions.proofs.Facts.{claim_at, next_fits, session_counts, stepped-by}
use Rattle.mapworld_steps.proofs.Kept.{kept_here, stands_here, phase_here}
use Rattle.mapworld_steps.proofs.Starting.{waits, started-slots, started-enters, start-walks}
use Rattle.mapworld_steps.proofs.Asking.{may-enter, out-of-call, enters-size}
use Rattle.mapworld_state.specs.Moves.{mode_of, request_manner, start_guard, start_phase}
use Rattle.mapworld_state.specs.Route.{key_route}
use Rattle.mapworld_state.specs.Walks.{walk_mode}
use Rattle.mapworld_state.proofs.HoldsTable.{none-there}
use Rattle.std.proofs.lemmas.List.Sums.{sum_by-cons}
use Rattle.mapworld_transitions.proofs.Slots.{calls-same, calls-counted}
use Rattle.mapworld_state.proofs.Owning.{starts-own}
use Rattle.mapworld_transitions.proofs.Weights.{Weighs, started_weighs}
use Rattle.mapworld_steps.proofs.starts.start.Goals as goal
use Rattle.mapworld_state.specs.declared.holds.Manner.TheVariants.{Waits}

pub count_in-requires-clause-listed : goal.count_in-requires-clause-listed
count_in-requires-clause-listed g c i e =
    let r = c.index_mut-place.result.now in
    let p = place_of r in
    let here = stands_here c.args.core.now.places.items c.requires.before r c.index_mut-place.ensures.value in
    let claim = claim_at c.requires.sound c.args.step.thread p here
    (phase_here c.args.core.now.places.items c.requires.before r c.index_mut-place.ensures.value) in
    session_counts _ _ _ _ p p.next _ p.block claim.2 i
    (starts-own c.start_call-phase.result.0 p.block i (sym c.start_counts-counts.ensures ∙ e))

pub count_in-requires-clause-fits : goal.count_in-requires-clause-fits
count_in-requires-clause-fits g c =
    let r = c.index_mut-place.result.now in
    let p = place_of r in
    let here = stands_here c.args.core.now.places.items c.requires.before r c.index_mut-place.ensures.value in
    let fits = next_fits c.requires.sound c.args.step.thread p here
    (phase_here c.args.core.now.places.items c.requires.before r c.index_mut-place.ensures.value) in
    omega (arith, fits, c.requires.room.calls_fit)

pub returns-clause-step : goal.returns-clause-step
returns-clause-step g c =
    let r = c.index_mut-place.result.now in
    let p = place_of r in
    record {
      place = p;
      stands = stands_here c.args.core.now.places.items c.requires.before r c.index_mut-place.ensures.value;
      before = phase_here c.args.core.now.places.items c.requires.before r c.index_mut-place.ensures.value;
      ask = c.in-Some.ask;
      rest = c.pop_front.new.self.items;
      asked = c.in-Some.ensures.items;
      blocks = c.count_in.new.blocks.items;
      counted = rw (c.start_counts-counts.ensures, c.start_call-phase.ensures, c.replace.ensures.value) at
          c.count_in.ensures.counted;
      locks = c.ask_for_shard.new.locks;
      enters = rw (
        c.start_shard-place.ensures,
        c.len-shards.ensures,
        c.args.core.now.tables.ok.0,
        sym (length-map c.args.core.now.tables.items shard_pairs),
        c.start_call-phase.ensures,
        c.replace.ensures.value,
      ) at c.ask_for_shard.ensures;
      after = stepped-by c.args.core.now c.args.step _ _ _ c.args.core.now.tables.items _ _ _ _ c.appended-core.ensures
          (rw (
            c.is_last-place.ensures,
            c.start_shard-place.ensures,
            c.len-shards.ensures,
            c.args.core.now.tables.ok.0,
            sym (length-map c.args.core.now.tables.items shard_pairs),
            c.enter.ensures,
            c.start_call-phase.ensures,
            c.replace.ensures.value,
            c.requires.room.count,
          ) refl) refl;
    }

pub returns-clause-room : goal.returns-clause-room
returns-clause-room g c =
    let r = c.index_mut-place.result.now in
    let p = place_of r in
    let here = stands_here c.args.core.now.places.items c.requires.before r c.index_mut-place.ensures.value in
    let before = phase_here c.args.core.now.places.items c.requires.before r c.index_mut-place.ensures.value in
    let n = length c.args.core.now.tables.items in
    let some : 0 < n = let two = c.requires.room.shards.1 in omega (arith, two) in
    let weights = subst (λ k. Weighs n (n - (k + 1)) c.in-Some.ask c.enter.new.phase) (sym c.start_shard-place.ensures)
    (started_weighs n some
    (key_route g.S.BuildHasher g.S.Hasher.Hasher g.K.Hash.hash_input c.args.core.now.hasher c.len-shards.result)
    p.shard c.in-Some.ask c.replace.result c.enter.new.phase
    (c.enter.ensures ∙ ap (λ z. z.0) c.start_call-phase.ensures)) in
    let whole = c.in-Some.ensures.items in
    let listed = ap (λ (xs : List _). sum_by (blocks_of n) xs) whole ∙ sum_by-cons (blocks_of n) c.in-Some.ask
    c.pop_front.new.self.items in
    let due = ap (λ (xs : List _). sum_by ask_lists xs) whole
    ∙ sum_by-cons ask_lists c.in-Some.ask c.pop_front.new.self.items in
    let asks = ap length c.in-Some.ensures.items in
    let after = record r {
      asks = c.pop_front.new.self;
      started = Some (c.args.core.now.count + 1);
      closes = c.is_last-place.result;
      shard = c.start_shard-place.result;
      guard = c.start_call-phase.result.1;
      phase = c.enter.new.phase;
    } in
    shifted _ _ c.args.step.thread r after c.requires.room (record {
      here = kept_here c.args.core.now.places.items c.requires.before r c.index_mut-place.ensures.value;
      places = refl;
      numbers = c.requires.numbers;
      steps = simp length-append at (ap length c.appended-core.ensures);
      count = refl;
      programs = refl;
      tables = refl;
      held = λ i h has. c.requires.room.held c.args.step.thread i p h here has;
      locks = enters-size _ _ c.args.step.thread c.start_shard-place.result c.start_call-phase.result.0
          c.ask_for_shard.ensures;
      unanswered = omega (arith, asks, weights.owing, ap owes before);
      answers = omega (arith, asks, weights.owing, ap owes before);
      replies = refl;
      listing = omega (arith, listed, weights.listing, ap (lists (n - (p.shard + 1))) before, c.count_in.ensures.len);
      blocks = c.count_in.ensures.capacity;
      visits = start-walks p.asks c.pop_front.new.self.items c.in-Some.ask c.enter.new.phase _ whole weights.visits;
      capacity = refl;
      lists = omega (arith, due, weights.lists_are, ap phase_lists before);
      adding = omega (arith, asks, weights.adding, ap adds before);
      pairs = c.requires.room.pairs;
      more_blocks = omega (arith, c.count_in.ensures.len);
      listed = λ i e. let below = c.requires.room.listed c.args.step.thread p i here e in
          omega (arith, below, c.count_in.ensures.len);
    })

pub returns-clause-slots : goal.returns-clause-slots
returns-clause-slots g c =
    let core = c.args.core.now in
    let r = c.index_mut-place.result.now in
    started-slots _ _ core c.requires.sound c.requires.slots c.args.step.thread r _
    (kept_here core.places.items c.requires.before r c.index_mut-place.ensures.value)
    (phase_here core.places.items c.requires.before r c.index_mut-place.ensures.value) _
    (calls-counted c.args.step.thread _ _ _ _ c.count_in.ensures.counted) c.pop_front.new.self.items c.in-Some.ask
    c.in-Some.ensures.items
    (ap (λ z. z.1) c.start_call-phase.ensures ∙ ap (start_guard c.in-Some.ask) c.replace.ensures.value)
    (c.enter.ensures ∙
    (ap (λ z. z.0) c.start_call-phase.ensures ∙ ap (start_phase c.in-Some.ask) c.replace.ensures.value)) refl refl
    (rw (
      c.start_shard-place.ensures,
      c.len-shards.ensures,
      c.args.core.now.tables.ok.0,
      sym (length-map core.tables.items shard_pairs),
    ) refl)

pub ask_for_shard-requires : goal.ask_for_shard-requires
ask_for_shard-requires g c =
    let core = c.args.core.now in
    let t = c.args.step.thread in
    let r = c.index_mut-place.result.now in
    let p = place_of r in
    let here = stands_here core.places.items c.requires.before r c.index_mut-place.ensures.value in
    let before = phase_here core.places.items c.requires.before r c.index_mut-place.ensures.value in
    let claim = claim_at c.requires.sound t p here before in
    let starts = ap (λ z. z.0) c.start_call-phase.ensures ∙ ap (start_phase c.in-Some.ask) c.replace.ensures.value in
    let shards = sym (length-map core.tables.items shard_pairs) in
    let enters = λ (is : waits c.start_call-phase.result.0 ≡ true).
    started-enters _ _ core c.requires.sound c.requires.slots t r r
    (kept_here core.places.items c.requires.before r c.index_mut-place.ensures.value) before core.blocks.items
    (calls-same t _ _ refl) c.pop_front.new.self.items c.in-Some.ask c.in-Some.ensures.items
    (sym (ap waits starts) ∙ is) in
    let asks = λ (is : waits c.start_call-phase.result.0 ≡ true).
    may-enter c.requires.sound.holds _ _ c.requires.room.locks t p here (slice_get_within _ t p here)
    (out-of-call c.requires.sound.holds t p here phase.Rest before refl) c.start_shard-place.result
    (λ i h has same. none-there p.holds i h (claim.1 (enters is).0) has)
    (rw (c.start_shard-place.ensures, c.len-shards.ensures, core.tables.ok.0, shards) (enters is).1) in
    record {
      admit = λ request is. asks (ap waits is) (request_manner request) (mode_of request);
      reach = λ walk is. asks (ap waits is) Waits (walk_mode walk);
    }
