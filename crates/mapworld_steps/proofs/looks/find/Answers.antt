use Rattle.std.proofs.Common.{ℕ, ◌+◌, length, Option, IfSome, is_some, refl, sym, ap, ap₂, ◌∙◌, subst, arith}
use Rattle.std.proofs.Common.{length-append, ◌-◌}
use Rattle.mapworld_state.specs.Core.{state_of, owes, lists, adds}
use Rattle.mapworld_transitions.specs.Listing.{AddsBlock}
use Rattle.mapworld_transitions.specs.declared.blocks.Started.{Started}
use Rattle.mapworld_state.specs.Moves.{found_done, found_guard, found_phase, block_behind}
use Rattle.mapworld_steps.proofs.Finding.{of-found, stands-as, found-key}
use Rattle.mapworld_calls.specs.Pairs.{pair_of}
use Rattle.mapworld_state.specs.Shards.{shard_pairs}
use Rattle.mapworld_state.specs.Slots.{HasKeyAt}
use Rattle.mapworld_state.specs.World.{setup_of}
use Rattle.mapworld_state.proofs.Views.{view-at}
use Rattle.std.proofs.lemmas.List.{length-map}
use Rattle.mapworld_transitions.proofs.Walking.{next-free, plain-visits, plain-lists}
use Rattle.mapworld_transitions.proofs.Slots.{calls-listed, slots-same}
use Rattle.mapworld_transitions.proofs.Rooms.{shifted, block_left}
use Rattle.mapworld_state.proofs.LocksFacts.Sizes.{same_size}
use Rattle.mapworld_state.specs.Places.{place_of}
use Rattle.mapworld_transitions.proofs.Facts.{claim_at, way_fits, stepped-by}
use Rattle.mapworld_steps.proofs.Kept.{kept_here, stands_here, phase_here, shard-read}
use Rattle.mapworld_transitions.proofs.Weights.{found_weighs, found_lists, none_lost, behind_listed, lists_block}
use Rattle.mapworld_steps.proofs.looks.find.Goals as goal

pub unreachable-requires : goal.unreachable-requires
unreachable-requires g c =
    let b = c.requires.before.1 in
    let r = c.index_mut-place.result.now in
    let p = place_of r in
    let here = stands_here c.args.core.now.places.items b r c.index_mut-place.ensures.value in
    let claim = claim_at c.requires.sound c.args.step.thread p here
    (phase_here c.args.core.now.places.items b r c.index_mut-place.ensures.value) in
    c.in_default.not-Some claim.0.start claim.0.started

pub unreachable-requires-in_default-replace : goal.unreachable-requires-in_default-replace
unreachable-requires-in_default-replace g c =
    let b = c.requires.before.1 in
    let r = c.index_mut-place.result.now in
    let p = place_of r in
    c.in_default-replace.not-Find c.requires.before.0
    (c.replace.ensures.value ∙ phase_here c.args.core.now.places.items b r c.index_mut-place.ensures.value)

pub index-shard-requires : goal.index-shard-requires
index-shard-requires g c =
    let b = c.requires.before.1 in
    let r = c.index_mut-place.result.now in
    let p = place_of r in
    let here = stands_here c.args.core.now.places.items b r c.index_mut-place.ensures.value in
    let claim = claim_at c.requires.sound c.args.step.thread p here
    (phase_here c.args.core.now.places.items b r c.index_mut-place.ensures.value) in
    let fits = way_fits c.requires.sound p _ claim.1 in
    omega (arith, fits, length-map c.args.core.now.tables.items shard_pairs, c.args.core.now.tables.ok.0)

pub list_block-requires : goal.list_block-requires
list_block-requires g c =
    let b = c.requires.before.1 in
    let r = c.index_mut-place.result.now in
    let p = place_of r in
    let here = stands_here c.args.core.now.places.items b r c.index_mut-place.ensures.value in
    block_left c.args.core.now c.args.step.thread p c.requires.room here
    (omega (
      arith,
      ap (lists (length c.args.core.now.tables.items - (p.shard + 1)))
          (phase_here c.args.core.now.places.items b r c.index_mut-place.ensures.value),
    ))

pub find_pair-slot-requires : goal.find_pair-slot-requires
find_pair-slot-requires g c =
    let b = c.requires.before.1 in
    let r = c.index_mut-place.result.now in
    let p = place_of r in
    let here = stands_here c.args.core.now.places.items b r c.index_mut-place.ensures.value in
    let claim = claim_at c.requires.sound c.args.step.thread p here (sym c.replace.ensures.value ∙ c.in-Find.is) in
    record {
      hashed = c.requires.slots.hashed p.shard c.index-shard.result.now
          (shard-read c.args.core.now.tables.items p.shard c.index-shard.result.now
          (way_fits c.requires.sound p _ claim.1) c.index-shard.ensures);
    }

pub returns-clause-step : goal.returns-clause-step
returns-clause-step g c =
    let core = c.args.core.now in
    let b = c.requires.before.1 in
    let r = c.index_mut-place.result.now in
    let p = place_of r in
    let here = stands_here core.places.items b r c.index_mut-place.ensures.value in
    let before = sym c.replace.ensures.value ∙ c.in-Find.is in
    let claim = claim_at c.requires.sound c.args.step.thread p here before in
    let shard = shard-read core.tables.items p.shard c.index-shard.result.now (way_fits c.requires.sound p _ claim.1)
    c.index-shard.ensures in
    let there = c.is_some-present.ensures
    ∙ (c.find_pair-slot.ensures.present
    ∙ ap (λ k. is_some (pair_of g.K.PartialEq.eq (shard_pairs c.index-shard.result.now).items k))
    c.request_key.ensures) in
    record {
      place = p;
      stands = here;
      request = c.in-Find.request;
      before = before;
      table = shard_pairs c.index-shard.result.now;
      held = view-at shard_pairs core.tables.items p.shard c.index-shard.result.now shard;
      done = c.found_done-done.result;
      done_is = c.found_done-done.ensures ∙ ap₂ (λ i r. found_done c.in-Find.request i r) there c.has_room-room.ensures;
      blocks = c.list_block.new.blocks.items;
      listed = lists_block (state_of core) c.args.step.thread p c.found_done-done.result
          (record { thread = c.args.step.thread; call = p.next; start = c.in-Some.start }) (core.count + 1)
          c.list_block.new.blocks.items
          c.list_block.ensures.listed refl refl c.in-Some.is (ap (λ n. n + 1) c.requires.room.count);
      after = stepped-by core c.args.step _ _ _ core.tables.items _ _ _ _ c.appended-core.ensures
          (stands-as p c.block_behind-place.result _ c.found-phase.result.1 _ c.enter.new.phase _
          (c.block_behind-place.ensures ∙ ap (λ n. block_behind c.found_done-done.result n p.block)
          (c.len-index.ensures ∙ core.blocks.ok.0))
          (ap (λ z. z.1) c.found-phase.ensures ∙ ap₂ (λ i r. found_guard c.in-Find.request i r) there
          c.has_room-room.ensures)
          (c.enter.ensures ∙
          (ap (λ z. z.0) c.found-phase.ensures ∙ ap₂ (λ i r. found_phase c.in-Find.request i r) there
          c.has_room-room.ensures))) refl;
    }

pub returns-clause-room : goal.returns-clause-room
returns-clause-room g c =
    let b = c.requires.before.1 in
    let r = c.index_mut-place.result.now in
    let p = place_of r in
    let here = stands_here c.args.core.now.places.items b r c.index_mut-place.ensures.value in
    let before = sym c.replace.ensures.value ∙ c.in-Find.is in
    let there = c.is_some-present.result in
    let room = c.has_room-room.result in
    let entered = c.enter.ensures ∙ ap (λ z. z.0) c.found-phase.ensures in
    let more = length c.args.core.now.tables.items - (p.shard + 1) in
    let weights = found_weighs c.in-Find.request there room c.enter.new.phase entered in
    let st : Started = record { thread = c.args.step.thread; call = p.next; start = c.in-Some.start } in
    let at = c.args.core.now.count + 1 in
    let bs = c.args.core.now.blocks.items in
    let bs' = c.list_block.new.blocks.items in
    let listed : AddsBlock bs c.found_done-done.result st at bs' = c.list_block.ensures.listed in
    let added = subst (λ (o : Option ℕ). AddsBlock bs o st at bs') c.found_done-done.ensures listed in
    let listing = found_lists bs st at bs' more c.in-Find.request there room c.enter.new.phase entered added in
    let after = record r {
      block = c.block_behind-place.result;
      slot = c.unwrap_or-place.result;
      guard = c.found-phase.result.1;
      phase = c.enter.new.phase;
    } in
    let plain = weights.2 in
    shifted _ _ c.args.step.thread r after c.requires.room (record {
      here = kept_here c.args.core.now.places.items b r c.index_mut-place.ensures.value;
      places = refl;
      numbers = c.requires.numbers;
      steps = simp length-append at (ap length c.appended-core.ensures);
      count = refl;
      programs = refl;
      tables = refl;
      held = λ i h has. c.requires.room.held c.args.step.thread i p h here has;
      locks = same_size;
      unanswered = omega (arith, weights.0, ap owes before);
      answers = omega (arith, weights.0, ap owes before);
      replies = refl;
      listing = omega (arith, listing, ap (lists more) before);
      blocks = c.list_block.ensures.capacity;
      visits = plain-visits p (place_of after) refl plain;
      capacity = refl;
      lists = let due = plain-lists p (place_of after) refl plain in omega (arith, due);
      adding = omega (arith, weights.1, ap adds before);
      pairs = c.requires.room.pairs;
      more_blocks = none_lost bs st at bs' c.found_done-done.result listed;
      listed = λ i e. behind_listed bs st at bs' c.found_done-done.result c.len-index.result p.block listed
          (c.len-index.ensures ∙ c.args.core.now.blocks.ok.0) (λ j. c.requires.room.listed c.args.step.thread p j here)
          i (sym c.block_behind-place.ensures ∙ e);
    })

pub returns-clause-slots : goal.returns-clause-slots
returns-clause-slots g c =
    let core = c.args.core.now in
    let b = c.requires.before.1 in
    let r = c.index_mut-place.result.now in
    let p = place_of r in
    let here = stands_here core.places.items b r c.index_mut-place.ensures.value in
    let before = sym c.replace.ensures.value ∙ c.in-Find.is in
    let claim = claim_at c.requires.sound c.args.step.thread p here before in
    let shard = shard-read core.tables.items p.shard c.index-shard.result.now (way_fits c.requires.sound p _ claim.1)
    c.index-shard.ensures in
    let there = c.is_some-present.result in
    let room = c.has_room-room.result in
    let st : Started = record { thread = c.args.step.thread; call = p.next; start = c.in-Some.start } in
    let bs = core.blocks.items in
    let bs' = c.list_block.new.blocks.items in
    let added = subst (λ (o : Option ℕ). AddsBlock bs o st (core.count + 1) bs') c.found_done-done.ensures
    c.list_block.ensures.listed in
    let x = setup_of g.D.Deed g.S.BuildHasher g.S.Hasher.Hasher g.K.PartialEq.eq g.K.Hash.hash_input (state_of core) in
    slots-same _ _ core c.requires.sound c.requires.slots c.args.step.thread r _
    (kept_here core.places.items b r c.index_mut-place.ensures.value) _
    (calls-listed c.args.step.thread bs bs' _ _ _ c.list_block.ensures.listed) (λ key is.
    let found = found-key x bs bs' c.len-index.result p.block st (core.count + 1)
    (c.len-index.ensures ∙ core.blocks.ok.0)
    (record p { block = c.block_behind-place.result; guard = c.found-phase.result.1; phase = c.enter.new.phase })
    c.in-Find.request there room added claim.0.asked
    (c.block_behind-place.ensures ∙ ap (λ o. block_behind o c.len-index.result p.block) c.found_done-done.ensures)
    (ap (λ z. z.1) c.found-phase.ensures) (c.enter.ensures ∙ ap (λ z. z.0) c.found-phase.ensures) key is in
    record {
      table = c.index-shard.result.now;
      held = shard;
      has = subst (λ i. HasKeyAt g.K.PartialEq.eq c.index-shard.result.now i key) (sym c.unwrap_or-place.ensures)
          (of-found c.find_pair-slot.result r.slot (λ i. HasKeyAt g.K.PartialEq.eq c.index-shard.result.now i key)
          (sym c.is_some-present.ensures ∙ found.0)
          (subst (λ k. IfSome c.find_pair-slot.result (λ i. HasKeyAt g.K.PartialEq.eq c.index-shard.result.now i k))
          (c.request_key.ensures ∙ found.1) c.find_pair-slot.ensures.there));
    })
    (next-free _ _ _ _ _
    (found_weighs c.in-Find.request there room c.enter.new.phase
    (c.enter.ensures ∙ ap (λ z. z.0) c.found-phase.ensures)).2)
