use Rattle.std.proofs.Common.{length, is_some, refl, sym, ap, ◌∙◌, arith, length-append, ◌+◌, ◌-◌}
use Rattle.std.specs.Option.{option_map}
use Rattle.std.proofs.lemmas.Option.{slice_get_within}
use Rattle.dashmap_table.specs.Slots.{pair_of as entry_pair}
use Rattle.mapworld_calls.specs.declared.reply.Answer.TheVariants as answer
use Rattle.mapworld_state.specs.declared.place.Guard.TheVariants as guard
use Rattle.mapworld_state.specs.declared.place.Phase.TheVariants as phase
use Rattle.mapworld_state.specs.Places.{place_of}
use Rattle.mapworld_state.specs.Shards.{shard_pairs}
use Rattle.mapworld_state.specs.Slots.{phase_key}
use Rattle.mapworld_state.specs.Core.{state_of, owes, lists, adds}
use Rattle.mapworld_state.proofs.LocksFacts.Sizes.{same_size}
use Rattle.mapworld_transitions.proofs.Rooms.{shifted}
use Rattle.mapworld_transitions.proofs.Facts.{kept-here, seen-here, kept-phase, claim_at, next_fits, session_counts}
use Rattle.mapworld_transitions.proofs.Facts.{stepped-by}
use Rattle.mapworld_transitions.proofs.Keys.{guards}
use Rattle.mapworld_transitions.proofs.Leaving.{stands-in}
use Rattle.mapworld_transitions.proofs.Walking.{walking, plain-visits, plain-lists}
use Rattle.mapworld_transitions.proofs.Slots.{calls-counted, guard-slot, slots-kept}
use Rattle.mapworld_transitions.proofs.effects.deeds.read.Goals as goal

pub index-requires : goal.index-requires
index-requires g c =
    let core = c.args.core.now in
    let p = c.index_mut-place.result.now in
    let here = kept-here core.places.items c.requires.before.1 p c.index_mut-place.ensures.value in
    let seen = seen-here core.places.items c.requires.before.1 p c.index_mut-place.ensures.value in
    let before = kept-phase core.places.items c.requires.before.1 p c.index_mut-place.ensures.value in
    let claim = claim_at c.requires.sound c.args.step.thread (place_of p) seen before in
    let own = guards _ (state_of core) c.requires.sound c.args.step.thread (place_of p) (guard.Pair claim.0) claim.2
    p.next _ p.block refl claim.3 in
    let is = guard-slot c.requires.slots c.args.step.thread p here claim.0 claim.2 own.key own.key_is in
    omega (arith, slice_get_within core.tables.items p.shard is.table is.held, core.tables.ok.0)

pub pair_at-requires : goal.pair_at-requires
pair_at-requires g c =
    let core = c.args.core.now in
    let p = c.index_mut-place.result.now in
    let here = kept-here core.places.items c.requires.before.1 p c.index_mut-place.ensures.value in
    let seen = seen-here core.places.items c.requires.before.1 p c.index_mut-place.ensures.value in
    let before = kept-phase core.places.items c.requires.before.1 p c.index_mut-place.ensures.value in
    let claim = claim_at c.requires.sound c.args.step.thread (place_of p) seen before in
    let own = guards _ (state_of core) c.requires.sound c.args.step.thread (place_of p) (guard.Pair claim.0) claim.2
    p.next _ p.block refl claim.3 in
    let is = guard-slot c.requires.slots c.args.step.thread p here claim.0 claim.2 own.key own.key_is in
    let there = stands-in _ core c.requires.sound g.met.K.Eq.laws p.shard p.slot _ is c.index.result.now c.index.ensures
    in
    record { full = there.full }

pub count_in-requires-clause-listed : goal.count_in-requires-clause-listed
count_in-requires-clause-listed g c =
    let core = c.args.core.now in
    let p = c.index_mut-place.result.now in
    let seen = seen-here core.places.items c.requires.before.1 p c.index_mut-place.ensures.value in
    let before = kept-phase core.places.items c.requires.before.1 p c.index_mut-place.ensures.value in
    let claim = claim_at c.requires.sound c.args.step.thread (place_of p) seen before in
    session_counts _ _ _ _ (place_of p) p.next _ p.block claim.3

pub count_in-requires-clause-fits : goal.count_in-requires-clause-fits
count_in-requires-clause-fits g c =
    let core = c.args.core.now in
    let p = c.index_mut-place.result.now in
    let seen = seen-here core.places.items c.requires.before.1 p c.index_mut-place.ensures.value in
    let before = kept-phase core.places.items c.requires.before.1 p c.index_mut-place.ensures.value in
    let fits = next_fits c.requires.sound c.args.step.thread (place_of p) seen before in
    omega (arith, fits, c.requires.room.calls_fit)

pub returns-clause-step : goal.returns-clause-step
returns-clause-step g c =
    let core = c.args.core.now in
    let p = c.index_mut-place.result.now in
    let here = kept-here core.places.items c.requires.before.1 p c.index_mut-place.ensures.value in
    let seen = seen-here core.places.items c.requires.before.1 p c.index_mut-place.ensures.value in
    let before = sym c.replace.ensures.value ∙ c.in-Read.is in
    let claim = claim_at c.requires.sound c.args.step.thread (place_of p) seen before in
    let own = guards _ (state_of core) c.requires.sound c.args.step.thread (place_of p) (guard.Pair claim.0) claim.2
    p.next _ p.block refl claim.3 in
    let is = guard-slot c.requires.slots c.args.step.thread p here claim.0 claim.2 own.key own.key_is in
    let there = stands-in _ core c.requires.sound g.met.K.Eq.laws p.shard p.slot _ is c.index.result.now c.index.ensures
    in
    record {
      place = place_of p;
      stands = seen;
      deed = c.in-Read.deed;
      before = before;
      table = shard_pairs c.index.result.now;
      held = there.seen;
      kind = claim.0;
      guarded = claim.2;
      key = own.key;
      key_is = own.key_is;
      pair = (c.pair_at.result.0.now, c.pair_at.result.1.now);
      found = there.pair ∙ (sym (ap (option_map entry_pair) there.has.there) ∙ c.pair_at.ensures);
      blocks = c.count_in.new.blocks.items;
      counted = c.count_in.ensures.counted;
      after = stepped-by core c.args.step (record p { phase = c.enter.new.phase }) _ c.appended-core.result.items
          core.tables.items _ core.locks c.count_in.new.blocks.items core.replies.items
          c.appended-core.ensures
          (ap (λ f. record (place_of p) { phase = f })
          (c.enter.ensures ∙ ap (λ a. phase.Answer (answer.Read a)) c.answer.ensures)) refl;
    }

pub returns-clause-slots : goal.returns-clause-slots
returns-clause-slots g c =
    let core = c.args.core.now in
    let p = c.index_mut-place.result.now in
    let here = kept-here core.places.items c.requires.before.1 p c.index_mut-place.ensures.value in
    let seen = seen-here core.places.items c.requires.before.1 p c.index_mut-place.ensures.value in
    let before = sym c.replace.ensures.value ∙ c.in-Read.is in
    let blocks = c.count_in.new.blocks.items in
    slots-kept _ _ core c.requires.sound c.requires.slots c.args.step.thread p (record p { phase = c.enter.new.phase })
    here
    blocks (calls-counted c.args.step.thread core.blocks.items blocks p.block p.next c.count_in.ensures.counted)
    (λ kind e. ap is_some e) (λ i e. e) (ap phase_key c.enter.ensures) refl refl (ap walking c.enter.ensures)

pub returns-clause-room : goal.returns-clause-room
returns-clause-room g c =
    let core = c.args.core.now in
    let p = c.index_mut-place.result.now in
    let here = kept-here core.places.items c.requires.before.1 p c.index_mut-place.ensures.value in
    let seen = seen-here core.places.items c.requires.before.1 p c.index_mut-place.ensures.value in
    let before = sym c.replace.ensures.value ∙ c.in-Read.is in
    let more = length core.tables.items - (p.shard + 1) in
    let p' = record p { phase = c.enter.new.phase } in
    let plain = ap walking c.enter.ensures in
    shifted _ _ c.args.step.thread p p' c.requires.room (record {
      here = here;
      places = refl;
      numbers = c.requires.numbers;
      steps = simp length-append at (ap length c.appended-core.ensures);
      count = refl;
      programs = refl;
      tables = refl;
      held = λ i h has. c.requires.room.held c.args.step.thread i (place_of p) h seen has;
      locks = same_size;
      unanswered = omega (arith, ap owes c.enter.ensures, ap owes before);
      answers = omega (arith, ap owes c.enter.ensures, ap owes before);
      replies = refl;
      listing = omega (arith, ap (lists more) c.enter.ensures, ap (lists more) before, c.count_in.ensures.len);
      blocks = c.count_in.ensures.capacity;
      visits = plain-visits (place_of p) (place_of p') refl plain;
      capacity = refl;
      lists = let due = plain-lists (place_of p) (place_of p') refl plain in omega (arith, due);
      adding = omega (arith, ap adds c.enter.ensures, ap adds before);
      pairs = c.requires.room.pairs;
      more_blocks = omega (arith, c.count_in.ensures.len);
      listed = λ i e. let below = c.requires.room.listed c.args.step.thread (place_of p) i seen e in
          omega (arith, below, c.count_in.ensures.len);
    })
