use Rattle.std.proofs.Common.{ℕ, ◌+◌, true, false, length, flat_map, map, slice_get, slice_set, Option, Some, subst}
use Rattle.std.proofs.Common.{inl, inr, refl, sym, ap, ◌∙◌, arith, length-append, length-set, ◌-◌}
use Rattle.std.proofs.lemmas.Bool.{false≢true}
use Rattle.std.proofs.lemmas.List.{map-set}
use Rattle.std.proofs.lemmas.Option.{none-some, same_Some}
use Rattle.mapworld_state.specs.Places.{place_of}
use Rattle.mapworld_state.specs.Shards.{ShardPairs, shard_pairs}
use Rattle.mapworld_state.specs.Slots.{phase_key, IsAt, SlotIsNext}
use Rattle.mapworld_state.specs.Core.{state_of, owes, lists, adds}
use Rattle.mapworld_state.specs.Moves.{request_of, lent_way, found_phase, found_guard, found_done, ListsBlock}
use Rattle.mapworld_state.proofs.Views.{view-at}
use Rattle.mapworld_transitions.specs.declared.blocks.Started.{Started}
use Rattle.mapworld_transitions.specs.Listing.{AddsBlock}
use Rattle.mapworld_transitions.proofs.Walking.{walking, next-free, plain-visits, plain-lists}
use Rattle.mapworld_transitions.proofs.Rooms.{shifted, block_left}
use Rattle.mapworld_state.proofs.LocksFacts.Sizes.{same_size}
use Rattle.mapworld_transitions.proofs.Facts.{claim_at, kept-within, kept-shard, stepped-by}
use Rattle.mapworld_transitions.proofs.Slots.{calls-same, calls-listed, slots-kept, slots-alone}
use Rattle.mapworld_transitions.proofs.Slotted.{hashes-alike}
use Rattle.mapworld_transitions.proofs.Weights.{found_weighs, grown_lists, lists_block, pairs_kept}
use Rattle.mapworld_state.specs.World.{setup_of}
use Rattle.mapworld_steps.proofs.Kept.{kept_here, stands_here, phase_here}
use Rattle.mapworld_steps.proofs.Finding.{stands-as, found-key, grown-block}
use Rattle.mapworld_steps.proofs.PutBack.{put_back}
use Rattle.mapworld_steps.proofs.looks.grow.Goals as goal

pub unreachable-requires : goal.unreachable-requires
unreachable-requires g c =
    let b = c.requires.before.1 in
    let r = c.index_mut-place.result.now in
    let p = place_of r in
    let here = stands_here c.args.core.now.places.items b r c.index_mut-place.ensures.value in
    let claim = claim_at c.requires.sound c.args.step.thread p here
    (phase_here c.args.core.now.places.items b r c.index_mut-place.ensures.value) in
    c.in_default.not-Some claim.0.start claim.0.started

pub unreachable-requires-in_default-replace : goal.unreachable-requires-in_default-replace
unreachable-requires-in_default-replace g c =
    let b = c.requires.before.1 in
    let r = c.index_mut-place.result.now in
    let p = place_of r in
    c.in_default-replace.not-Grow c.requires.before.0
    (c.replace.ensures.value ∙ phase_here c.args.core.now.places.items b r c.index_mut-place.ensures.value)

pub index_mut-requires : goal.index_mut-requires
index_mut-requires g c =
    let core = c.args.core.now in
    let b = c.requires.before.1 in
    let r = c.index_mut-place.result.now in
    let p = place_of r in
    let here = stands_here core.places.items b r c.index_mut-place.ensures.value in
    let before = sym c.replace.ensures.value ∙ c.in-Grow.is in
    let claim = claim_at c.requires.sound c.args.step.thread p here before in
    omega (arith, kept-within core.tables.items p.shard _ claim.3, core.tables.ok.0)

pub grow-requires : goal.grow-requires
grow-requires g c =
    let core = c.args.core.now in
    let b = c.requires.before.1 in
    let r = c.index_mut-place.result.now in
    let p = place_of r in
    let here = stands_here core.places.items b r c.index_mut-place.ensures.value in
    let before = sym c.replace.ensures.value ∙ c.in-Grow.is in
    let claim = claim_at c.requires.sound c.args.step.thread p here before in
    let kept = kept-shard core.tables.items p.shard _ claim.3 c.index_mut.result.now c.index_mut.ensures.value in
    record {
      hashed = (
        _,
        hashes-alike g.S.BuildHasher g.S.Hasher.Hasher g.K.Hash.hash_input core.hasher
            g.K.PartialEq.eq g.met.K.Hash.respects_eq,
        c.requires.slots.hashed p.shard c.index_mut.result.now kept.0,
      );
    }

pub list_block-requires : goal.list_block-requires
list_block-requires g c =
    let b = c.requires.before.1 in
    let r = c.index_mut-place.result.now in
    let p = place_of r in
    let here = stands_here c.args.core.now.places.items b r c.index_mut-place.ensures.value in
    block_left c.args.core.now c.args.step.thread p c.requires.room here
    (omega (
      arith,
      ap (lists (length c.args.core.now.tables.items - (p.shard + 1)))
          (phase_here c.args.core.now.places.items b r c.index_mut-place.ensures.value),
    ))

pub returns-clause-step : goal.returns-clause-step
returns-clause-step g c =
    let core = c.args.core.now in
    let b = c.requires.before.1 in
    let r = c.index_mut-place.result.now in
    let p = place_of r in
    let here = stands_here core.places.items b r c.index_mut-place.ensures.value in
    let before = sym c.replace.ensures.value ∙ c.in-Grow.is in
    let claim = claim_at c.requires.sound c.args.step.thread p here before in
    let kept = kept-shard core.tables.items p.shard _ claim.3 c.index_mut.result.now c.index_mut.ensures.value in
    let held = view-at shard_pairs core.tables.items p.shard c.index_mut.result.now kept.0 in
    inl (record {
      place = p;
      stands = here;
      call = c.in-Grow.call;
      before = before;
      table = shard_pairs c.index_mut.result.now;
      held = held;
      absent = kept.1.0;
      full = kept.1.1;
      grown = shard_pairs c.grow.new.shard;
      grows = c.in-Ok.ensures.grown;
      blocks = c.list_block.new.blocks.items;
      listed = subst (λ (o : Option ℕ). ListsBlock (state_of core) c.args.step.thread p o c.list_block.new.blocks.items)
          (c.found_done-done.ensures ∙ ap (λ z. found_done z false true) c.request_of-request.ensures)
          (lists_block (state_of core) c.args.step.thread p c.found_done-done.result
          (record { thread = c.args.step.thread; call = p.next; start = c.in-Some.start }) (core.count + 1)
          c.list_block.new.blocks.items
          c.list_block.ensures.listed refl refl c.in-Some.is (ap (λ n. n + 1) c.requires.room.count));
      after = stepped-by core c.args.step _ _ _ (slice_set core.tables.items p.shard c.grow.new.shard) _ _ _ _
          c.appended-core.ensures
          (stands-as p (Some c.len-index.result) _ c.found-phase.result.1 _ c.enter-2.new.phase _
          (ap Some (c.len-index.ensures ∙ core.blocks.ok.0))
          (ap (λ z. z.1) c.found-phase.ensures ∙ ap (λ z. found_guard z false true) c.request_of-request.ensures)
          (c.enter-2.ensures
          ∙ (ap (λ z. z.0) c.found-phase.ensures ∙ ap (λ z. found_phase z false true)
          c.request_of-request.ensures)))
          (map-set shard_pairs core.tables.items p.shard c.grow.new.shard);
    })

pub returns-clause-room : goal.returns-clause-room
returns-clause-room g c =
    let core = c.args.core.now in
    let b = c.requires.before.1 in
    let r = c.index_mut-place.result.now in
    let p = place_of r in
    let here = stands_here core.places.items b r c.index_mut-place.ensures.value in
    let before = sym c.replace.ensures.value ∙ c.in-Grow.is in
    let claim = claim_at c.requires.sound c.args.step.thread p here before in
    let kept = kept-shard core.tables.items p.shard _ claim.3 c.index_mut.result.now c.index_mut.ensures.value in
    let held = view-at shard_pairs core.tables.items p.shard c.index_mut.result.now kept.0 in
    let st : Started = record { thread = c.args.step.thread; call = p.next; start = c.in-Some.start } in
    let entered = c.enter-2.ensures
    ∙ (ap (λ z. z.0) c.found-phase.ensures ∙ ap (λ z. found_phase z false true) c.request_of-request.ensures) in
    let more = length core.tables.items - (p.shard + 1) in
    let weights = found_weighs (request_of c.in-Grow.call) false true c.enter-2.new.phase entered in
    let listing = grown_lists core.blocks.items st (core.count + 1) c.list_block.new.blocks.items more c.in-Grow.call
    c.enter-2.new.phase entered
    (subst (λ (o : Option ℕ). AddsBlock core.blocks.items o st (core.count + 1) c.list_block.new.blocks.items)
    (c.found_done-done.ensures ∙ ap (λ z. found_done z false true) c.request_of-request.ensures)
    c.list_block.ensures.listed) in
    let many = pairs_kept (state_of core).tables p.shard (shard_pairs c.index_mut.result.now)
    (shard_pairs c.grow.new.shard) held c.in-Ok.ensures.grown.counted in
    let seen = map-set shard_pairs core.tables.items p.shard c.grow.new.shard in
    let after = record r {
      block = Some c.len-index.result;
      guard = c.found-phase.result.1;
      phase = c.enter-2.new.phase;
    } in
    let plain = weights.2 in
    shifted _ _ c.args.step.thread r after c.requires.room (record {
      here = kept_here core.places.items b r c.index_mut-place.ensures.value;
      places = refl;
      numbers = c.requires.numbers;
      steps = simp length-append at (ap length c.appended-core.ensures);
      count = refl;
      programs = refl;
      tables = length-set core.tables.items p.shard c.grow.new.shard;
      held = λ i h has. c.requires.room.held c.args.step.thread i p h here has;
      locks = same_size;
      unanswered = omega (arith, weights.0, ap owes before);
      answers = omega (arith, weights.0, ap owes before);
      replies = refl;
      listing = omega (arith, listing.0, listing.1, ap (lists more) before);
      blocks = c.list_block.ensures.capacity;
      visits = plain-visits p (place_of after) refl plain;
      capacity = refl;
      lists = let due = plain-lists p (place_of after) refl plain in omega (arith, due);
      adding = omega (arith, weights.1, ap adds before);
      pairs = c.requires.room.pairs
          ∙ (sym many ∙ sym (ap (λ ts. length (flat_map (λ (t : ShardPairs _ _). t.items) ts)) seen));
      more_blocks = omega (arith, listing.0);
      listed = λ i e. omega (arith, same_Some c.len-index.result i e, c.len-index.ensures, core.blocks.ok.0, listing.0);
    })

pub returns-clause-slots : goal.returns-clause-slots
returns-clause-slots g c =
    let core = c.args.core.now in
    let b = c.requires.before.1 in
    let r = c.index_mut-place.result.now in
    let p = place_of r in
    let here = stands_here core.places.items b r c.index_mut-place.ensures.value in
    let before = sym c.replace.ensures.value ∙ c.in-Grow.is in
    let claim = claim_at c.requires.sound c.args.step.thread p here before in
    let kept = kept-shard core.tables.items p.shard _ claim.3 c.index_mut.result.now c.index_mut.ensures.value in
    let st : Started = record { thread = c.args.step.thread; call = p.next; start = c.in-Some.start } in
    let bs = core.blocks.items in
    let bs' = c.list_block.new.blocks.items in
    let q = record p { block = Some c.len-index.result; guard = c.found-phase.result.1; phase = c.enter-2.new.phase } in
    let done = c.found_done-done.ensures ∙ ap (λ z. found_done z false true) c.request_of-request.ensures in
    let added = subst (λ (o : Option ℕ). AddsBlock bs o st (core.count + 1) bs') done c.list_block.ensures.listed in
    let x = setup_of g.D.Deed g.S.BuildHasher g.S.Hasher.Hasher g.K.PartialEq.eq g.K.Hash.hash_input (state_of core) in
    let s = slots-alone _ _ core c.requires.sound c.requires.slots c.args.step.thread r _
    (kept_here core.places.items b r c.index_mut-place.ensures.value) _
    (calls-listed c.args.step.thread bs bs' _ _ _ c.list_block.ensures.listed) claim.2 c.index_mut.result.now
    c.grow.new.shard kept.0
    (c.grow.ensures.hashed _ (c.requires.slots.hashed p.shard c.index_mut.result.now kept.0)) (λ key is.
    let found = found-key x bs bs' c.len-index.result p.block st (core.count + 1)
    (c.len-index.ensures ∙ core.blocks.ok.0) q (request_of c.in-Grow.call) false true added claim.0.asked
    (grown-block _ c.in-Grow.call c.len-index.result p.block)
    (ap (λ z. z.1) c.found-phase.ensures ∙ ap (λ z. found_guard z false true) c.request_of-request.ensures)
    (c.enter-2.ensures
    ∙ (ap (λ z. z.0) c.found-phase.ensures ∙ ap (λ z. found_phase z false true) c.request_of-request.ensures)) key
    is in
    absurd (false≢true found.0))
    (next-free _ _ _ _ _
    (found_weighs (request_of c.in-Grow.call) false true c.enter-2.new.phase
    (c.enter-2.ensures
    ∙ (ap (λ z. z.0) c.found-phase.ensures ∙ ap (λ z. found_phase z false true) c.request_of-request.ensures))).2)
    in
    record { hashed = s.hashed; found = s.found; next = s.next }

pub returns-in_default-grow-clause-step : goal.returns-in_default-grow-clause-step
returns-in_default-grow-clause-step g c =
    let core = c.args.core.now in
    let b = c.requires.before.1 in
    let r = c.index_mut-place.result.now in
    let p = place_of r in
    let here = stands_here core.places.items b r c.index_mut-place.ensures.value in
    let before = sym c.replace.ensures.value ∙ c.in-Grow.is in
    let claim = claim_at c.requires.sound c.args.step.thread p here before in
    let kept = kept-shard core.tables.items p.shard _ claim.3 c.index_mut.result.now c.index_mut.ensures.value in
    let held = view-at shard_pairs core.tables.items p.shard c.index_mut.result.now kept.0 in
    inr (record {
      place = p;
      stands = here;
      call = c.in-Grow.call;
      before = before;
      table = shard_pairs c.index_mut.result.now;
      held = held;
      absent = kept.1.0;
      full = kept.1.1;
      after = rw c.enter.ensures
          (stepped-by core c.args.step _ _ _ (slice_set core.tables.items p.shard c.grow.new.shard)
          (state_of core).tables _ _ _ c.appended-core.ensures refl
          (ap (map shard_pairs)
          (put_back core.tables.items p.shard c.grow.new.shard c.index_mut.result.now
          c.in_default-grow.ensures.refused c.index_mut.ensures.value)));
    })

pub returns-in_default-grow-clause-room : goal.returns-in_default-grow-clause-room
returns-in_default-grow-clause-room g c =
    let core = c.args.core.now in
    let b = c.requires.before.1 in
    let r = c.index_mut-place.result.now in
    let p = place_of r in
    let here = stands_here core.places.items b r c.index_mut-place.ensures.value in
    let before = sym c.replace.ensures.value ∙ c.in-Grow.is in
    let claim = claim_at c.requires.sound c.args.step.thread p here before in
    let put = put_back core.tables.items p.shard c.grow.new.shard c.index_mut.result.now
    c.in_default-grow.ensures.refused c.index_mut.ensures.value in
    let after = record r { phase = c.enter.new.phase } in
    let more = length core.tables.items - (p.shard + 1) in
    let plain = ap walking c.enter.ensures in
    shifted _ _ c.args.step.thread r after c.requires.room (record {
      here = kept_here core.places.items b r c.index_mut-place.ensures.value;
      places = refl;
      numbers = c.requires.numbers;
      steps = simp length-append at (ap length c.appended-core.ensures);
      count = refl;
      programs = refl;
      tables = length-set core.tables.items p.shard c.grow.new.shard;
      held = λ i h has. c.requires.room.held c.args.step.thread i p h here has;
      locks = same_size;
      unanswered = omega (arith, ap owes c.enter.ensures, ap owes before);
      answers = omega (arith, ap owes c.enter.ensures, ap owes before);
      replies = refl;
      listing = omega (arith, ap (lists more) c.enter.ensures, ap (lists more) before);
      blocks = refl;
      visits = plain-visits p (place_of after) refl plain;
      capacity = refl;
      lists = let due = plain-lists p (place_of after) refl plain in omega (arith, due);
      adding = omega (arith, ap adds c.enter.ensures, ap adds before);
      pairs = c.requires.room.pairs
          ∙ sym (ap (λ ts. length (flat_map (λ (t : ShardPairs _ _). t.items) (map shard_pairs ts))) put);
      more_blocks = omega arith;
      listed = λ i e. c.requires.room.listed c.args.step.thread p i here e;
    })

pub returns-in_default-grow-clause-slots : goal.returns-in_default-grow-clause-slots
returns-in_default-grow-clause-slots g c =
    let core = c.args.core.now in
    let b = c.requires.before.1 in
    let r = c.index_mut-place.result.now in
    let p = place_of r in
    let here = stands_here core.places.items b r c.index_mut-place.ensures.value in
    let before = sym c.replace.ensures.value ∙ c.in-Grow.is in
    let claim = claim_at c.requires.sound c.args.step.thread p here before in
    let put = put_back core.tables.items p.shard c.grow.new.shard c.index_mut.result.now
    c.in_default-grow.ensures.refused c.index_mut.ensures.value in
    let s = slots-kept _ _ core c.requires.sound c.requires.slots c.args.step.thread r _
    (kept_here core.places.items b r c.index_mut-place.ensures.value) _
    (calls-same c.args.step.thread _ _ refl)
    (λ kind lends. absurd (none-some kind (sym (ap lent_way claim.1.guard) ∙ lends))) (λ i e. e)
    (ap phase_key c.enter.ensures) refl refl (ap walking c.enter.ensures) in
    record {
      hashed = λ i z at. s.hashed i z (ap (λ ts. slice_get ts i) (sym put) ∙ at);
      found = λ u q key at is. subst (λ ts. IsAt g.K.PartialEq.eq ts q.shard q.slot key) (sym put)
          (s.found u q key at is);
      next = λ u q at. subst (λ ts. SlotIsNext g.K.PartialEq.eq ts core.blocks.items q q.phase) (sym put)
          (s.next u q at);
    }
