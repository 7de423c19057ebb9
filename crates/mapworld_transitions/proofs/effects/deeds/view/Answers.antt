use Rattle.std.proofs.Common.{◌≡◌, ◌+◌, length, Some, refl, sym, ap, ap₂, ◌∙◌, arith, length-append, ◌-◌}
use Rattle.std.specs.Option.{option_map}
use Rattle.std.proofs.lemmas.Option.{slice_get_within, same_Some}
use Rattle.dashmap_table.specs.Slots.{pair_of as entry_pair}
use Rattle.mapworld_calls.specs.declared.reply.Answer.TheVariants as answer
use Rattle.mapworld_state.specs.declared.place.Phase.TheVariants as phase
use Rattle.mapworld_state.specs.Places.{place_of}
use Rattle.mapworld_state.specs.Shards.{shard_pairs}
use Rattle.mapworld_state.specs.Slots.{phase_key}
use Rattle.mapworld_state.specs.Core.{state_of, owes, lists, adds}
use Rattle.mapworld_transitions.specs.declared.blocks.Started.{Started}
use Rattle.mapworld_state.proofs.LocksFacts.Sizes.{same_size}
use Rattle.mapworld_transitions.proofs.Rooms.{shifted, block_left}
use Rattle.mapworld_transitions.proofs.Facts.{kept-here, seen-here, kept-phase, claim_at, stepped-by}
use Rattle.mapworld_transitions.proofs.Leaving.{stands-in}
use Rattle.mapworld_transitions.proofs.Walking.{next-free, walking, plain-visits, plain-lists}
use Rattle.mapworld_transitions.proofs.Slots.{calls-listed, call-slot, slots-same_free}
use Rattle.mapworld_transitions.proofs.Weights.{one_added, lists_block}
use Rattle.mapworld_transitions.proofs.effects.deeds.view.Goals as goal

pub unreachable-requires : goal.unreachable-requires
unreachable-requires g c =
    let core = c.args.core.now in
    let p = c.index_mut-place.result.now in
    let seen = seen-here core.places.items c.requires.before.2 p c.index_mut-place.ensures.value in
    let before = kept-phase core.places.items c.requires.before.2 p c.index_mut-place.ensures.value in
    let claim = claim_at c.requires.sound c.args.step.thread (place_of p) seen before in
    c.in_default.not-Some claim.1.start claim.1.started

pub unreachable-requires-in_default-replace : goal.unreachable-requires-in_default-replace
unreachable-requires-in_default-replace g c =
    let p = c.index_mut-place.result.now in
    c.in_default-replace.not-View c.requires.before.0 c.requires.before.1
    (c.replace.ensures.value ∙ kept-phase c.args.core.now.places.items c.requires.before.2 p
    c.index_mut-place.ensures.value)

pub index-requires : goal.index-requires
index-requires g c =
    let core = c.args.core.now in
    let p = c.index_mut-place.result.now in
    let here = kept-here core.places.items c.requires.before.2 p c.index_mut-place.ensures.value in
    let seen = seen-here core.places.items c.requires.before.2 p c.index_mut-place.ensures.value in
    let before = kept-phase core.places.items c.requires.before.2 p c.index_mut-place.ensures.value in
    let claim = claim_at c.requires.sound c.args.step.thread (place_of p) seen before in
    let is = call-slot c.requires.slots c.args.step.thread p here claim.2.guard _ (ap phase_key before) in
    omega (arith, slice_get_within core.tables.items p.shard is.table is.held, core.tables.ok.0)

pub pair_at-requires : goal.pair_at-requires
pair_at-requires g c =
    let core = c.args.core.now in
    let p = c.index_mut-place.result.now in
    let here = kept-here core.places.items c.requires.before.2 p c.index_mut-place.ensures.value in
    let seen = seen-here core.places.items c.requires.before.2 p c.index_mut-place.ensures.value in
    let before = kept-phase core.places.items c.requires.before.2 p c.index_mut-place.ensures.value in
    let claim = claim_at c.requires.sound c.args.step.thread (place_of p) seen before in
    let is = call-slot c.requires.slots c.args.step.thread p here claim.2.guard _ (ap phase_key before) in
    let there = stands-in _ core c.requires.sound g.met.K.Eq.laws p.shard p.slot _ is c.index.result.now c.index.ensures
    in
    record { full = there.full }

pub list_block-requires : goal.list_block-requires
list_block-requires g c =
    let core = c.args.core.now in
    let p = c.index_mut-place.result.now in
    let seen = seen-here core.places.items c.requires.before.2 p c.index_mut-place.ensures.value in
    block_left core c.args.step.thread (place_of p) c.requires.room seen
    (omega (
      arith,
      ap (lists (length core.tables.items - (p.shard + 1)))
          (kept-phase core.places.items c.requires.before.2 p c.index_mut-place.ensures.value),
    ))

pub returns-clause-step : goal.returns-clause-step
returns-clause-step g c =
    let core = c.args.core.now in
    let p = c.index_mut-place.result.now in
    let here = kept-here core.places.items c.requires.before.2 p c.index_mut-place.ensures.value in
    let seen = seen-here core.places.items c.requires.before.2 p c.index_mut-place.ensures.value in
    let before = sym c.replace.ensures.value ∙ c.in-View.is in
    let claim = claim_at c.requires.sound c.args.step.thread (place_of p) seen before in
    let is = call-slot c.requires.slots c.args.step.thread p here claim.2.guard _ (ap phase_key before) in
    let there = stands-in _ core c.requires.sound g.met.K.Eq.laws p.shard p.slot _ is c.index.result.now c.index.ensures
    in
    let st : Started = record { thread = c.args.step.thread; call = p.next; start = c.in-Some.start } in
    let blocks = c.list_block.new.blocks.items in
    let index : c.len-index.result ≡ length core.blocks.items = omega (arith, c.len-index.ensures, core.blocks.ok.0) in
    record {
      place = place_of p;
      stands = seen;
      key = _;
      deed = c.in-View.deed;
      before = before;
      table = shard_pairs c.index.result.now;
      held = there.seen;
      pair = (c.pair_at.result.0.now, c.pair_at.result.1.now);
      found = there.pair ∙ (sym (ap (option_map entry_pair) there.has.there) ∙ c.pair_at.ensures);
      blocks = blocks;
      listed = lists_block (state_of core) c.args.step.thread (place_of p) (Some 1) st (core.count + 1) blocks
          c.list_block.ensures.listed refl refl c.in-Some.is (ap (λ n. n + 1) c.requires.room.count);
      after = stepped-by core c.args.step (record p { block = Some c.len-index.result; phase = c.enter.new.phase }) _
          c.appended-core.result.items core.tables.items _ core.locks blocks core.replies.items
          c.appended-core.ensures
          (ap₂ (λ n f. record (place_of p) { block = Some n; phase = f }) index
          (c.enter.ensures ∙ ap (λ a. phase.Release (answer.Read a)) c.answer.ensures)) refl;
    }

pub returns-clause-slots : goal.returns-clause-slots
returns-clause-slots g c =
    let core = c.args.core.now in
    let p = c.index_mut-place.result.now in
    let here = kept-here core.places.items c.requires.before.2 p c.index_mut-place.ensures.value in
    let seen = seen-here core.places.items c.requires.before.2 p c.index_mut-place.ensures.value in
    let before = sym c.replace.ensures.value ∙ c.in-View.is in
    let claim = claim_at c.requires.sound c.args.step.thread (place_of p) seen before in
    let st : Started = record { thread = c.args.step.thread; call = p.next; start = c.in-Some.start } in
    let blocks = c.list_block.new.blocks.items in
    slots-same_free _ _ core c.requires.sound c.requires.slots c.args.step.thread p
    (record p { block = Some c.len-index.result; phase = c.enter.new.phase }) here
    blocks (calls-listed c.args.step.thread core.blocks.items blocks (Some 1) st (core.count + 1)
    c.list_block.ensures.listed) claim.2.guard (ap phase_key c.enter.ensures)
    (next-free _ _ _ _ _ (ap walking c.enter.ensures))

pub returns-clause-room : goal.returns-clause-room
returns-clause-room g c =
    let core = c.args.core.now in
    let p = c.index_mut-place.result.now in
    let here = kept-here core.places.items c.requires.before.2 p c.index_mut-place.ensures.value in
    let seen = seen-here core.places.items c.requires.before.2 p c.index_mut-place.ensures.value in
    let before = sym c.replace.ensures.value ∙ c.in-View.is in
    let st : Started = record { thread = c.args.step.thread; call = p.next; start = c.in-Some.start } in
    let blocks = c.list_block.new.blocks.items in
    let added : length blocks ≡ length core.blocks.items + 1 = one_added core.blocks.items st (core.count + 1) blocks 1
    c.list_block.ensures.listed in
    let more = length core.tables.items - (p.shard + 1) in
    let p' = record p { block = Some c.len-index.result; phase = c.enter.new.phase } in
    let plain = ap walking c.enter.ensures in
    shifted _ _ c.args.step.thread p p' c.requires.room (record {
      here = here;
      places = refl;
      numbers = c.requires.numbers;
      steps = simp length-append at (ap length c.appended-core.ensures);
      count = refl;
      programs = refl;
      tables = refl;
      held = λ i h has. c.requires.room.held c.args.step.thread i (place_of p) h seen has;
      locks = same_size;
      unanswered = omega (arith, ap owes c.enter.ensures, ap owes before);
      answers = omega (arith, ap owes c.enter.ensures, ap owes before);
      replies = refl;
      listing = omega (arith, added, ap (lists more) c.enter.ensures, ap (lists more) before);
      blocks = c.list_block.ensures.capacity;
      visits = plain-visits (place_of p) (place_of p') refl plain;
      capacity = refl;
      lists = let due = plain-lists (place_of p) (place_of p') refl plain in omega (arith, due);
      adding = omega (arith, ap adds c.enter.ensures, ap adds before);
      pairs = c.requires.room.pairs;
      more_blocks = omega (arith, added);
      listed = λ i e. omega (arith, same_Some c.len-index.result i e, c.len-index.ensures, core.blocks.ok.0, added);
    })
