use Rattle.std.proofs.Common.{length, Some, refl, sym, ap, ◌∙◌, arith, length-append, length-set, ◌+◌, ◌-◌}
use Rattle.std.proofs.lemmas.Option.{slice_get_within}
use Rattle.std.proofs.lemmas.List.{map-set}
use Rattle.dashmap_table.specs.Slots.{pair_of as entry_pair}
use Rattle.mapworld_calls.specs.Calls.{keyed_leaves}
use Rattle.mapworld_state.specs.declared.place.Phase.TheVariants as phase
use Rattle.mapworld_state.specs.Places.{place_of}
use Rattle.mapworld_state.specs.Shards.{shard_pairs, number_of}
use Rattle.mapworld_state.specs.Slots.{phase_key}
use Rattle.mapworld_state.specs.Core.{state_of, owes, lists, adds}
use Rattle.mapworld_state.specs.World.{deeds_of}
use Rattle.mapworld_state.proofs.LocksFacts.Sizes.{same_size}
use Rattle.mapworld_transitions.proofs.Rooms.{shifted}
use Rattle.mapworld_transitions.proofs.Facts.{kept-here, seen-here, kept-phase, claim_at, next_fits, deed_counts}
use Rattle.mapworld_transitions.proofs.Facts.{stepped-by}
use Rattle.mapworld_transitions.proofs.Leaving.{at-some, stands-in, keyed-keeps, gone-number}
use Rattle.mapworld_transitions.proofs.Walking.{next-free, walking, plain-visits, plain-lists}
use Rattle.mapworld_transitions.proofs.Slots.{calls-counted, call-slot, slots-alone_free}
use Rattle.mapworld_transitions.proofs.Slotted.{hashes-alike, hashes-left, puts-left}
use Rattle.mapworld_transitions.proofs.Weights.{pairs_put, pairs_at}
use Rattle.mapworld_transitions.proofs.effects.deeds.apply.Goals as goal

pub index_mut-shard-requires : goal.index_mut-shard-requires
index_mut-shard-requires g c =
    let core = c.args.core.now in
    let p = c.index_mut-place.result.now in
    let here = kept-here core.places.items c.requires.before.1 p c.index_mut-place.ensures.value in
    let seen = seen-here core.places.items c.requires.before.1 p c.index_mut-place.ensures.value in
    let before = kept-phase core.places.items c.requires.before.1 p c.index_mut-place.ensures.value in
    let claim = claim_at c.requires.sound c.args.step.thread (place_of p) seen before in
    let is = call-slot c.requires.slots c.args.step.thread p here claim.2.guard _ (ap phase_key before) in
    omega (arith, slice_get_within core.tables.items p.shard is.table is.held, core.tables.ok.0)

pub apply_at-answer-requires : goal.apply_at-answer-requires
apply_at-answer-requires g c =
    let core = c.args.core.now in
    let p = c.index_mut-place.result.now in
    let here = kept-here core.places.items c.requires.before.1 p c.index_mut-place.ensures.value in
    let seen = seen-here core.places.items c.requires.before.1 p c.index_mut-place.ensures.value in
    let before = kept-phase core.places.items c.requires.before.1 p c.index_mut-place.ensures.value in
    let claim = claim_at c.requires.sound c.args.step.thread (place_of p) seen before in
    let is = call-slot c.requires.slots c.args.step.thread p here claim.2.guard _ (ap phase_key before) in
    let there = stands-in _ core c.requires.sound g.met.K.Eq.laws p.shard p.slot _ is c.index_mut-shard.result.now
    c.index_mut-shard.ensures.value in
    record { full = there.full }

pub count_in-requires-clause-listed : goal.count_in-requires-clause-listed
count_in-requires-clause-listed g c =
    let core = c.args.core.now in
    let p = c.index_mut-place.result.now in
    let here = kept-here core.places.items c.requires.before.1 p c.index_mut-place.ensures.value in
    let seen = seen-here core.places.items c.requires.before.1 p c.index_mut-place.ensures.value in
    let before = kept-phase core.places.items c.requires.before.1 p c.index_mut-place.ensures.value in
    let claim = claim_at c.requires.sound c.args.step.thread (place_of p) seen before in
    deed_counts _ _ (state_of core).tables _ (place_of p) _ _ claim.2

pub count_in-requires-clause-fits : goal.count_in-requires-clause-fits
count_in-requires-clause-fits g c =
    let core = c.args.core.now in
    let p = c.index_mut-place.result.now in
    let seen = seen-here core.places.items c.requires.before.1 p c.index_mut-place.ensures.value in
    let before = kept-phase core.places.items c.requires.before.1 p c.index_mut-place.ensures.value in
    let fits = next_fits c.requires.sound c.args.step.thread (place_of p) seen before in
    omega (arith, fits, c.requires.room.calls_fit)

pub less_one-core-requires : goal.less_one-core-requires
less_one-core-requires g c =
    let core = c.args.core.now in
    let p = c.index_mut-place.result.now in
    let here = kept-here core.places.items c.requires.before.1 p c.index_mut-place.ensures.value in
    let seen = seen-here core.places.items c.requires.before.1 p c.index_mut-place.ensures.value in
    let before = sym c.replace.ensures.value ∙ c.in-Apply.is in
    let claim = claim_at c.requires.sound c.args.step.thread (place_of p) seen before in
    let is = call-slot c.requires.slots c.args.step.thread p here claim.2.guard _ (ap phase_key before) in
    let there = stands-in _ core c.requires.sound g.met.K.Eq.laws p.shard p.slot _ is c.index_mut-shard.result.now
    c.index_mut-shard.ensures.value in
    let e = there.has.entry in
    let deeds = deeds_of g.D.Deed in
    let left = keyed_leaves deeds c.in-Apply.call (Some (entry_pair e)) in
    let leaves = at-some _ _ e there.has.there c.apply_at-answer.ensures.leaves in
    let keeps = keyed-keeps deeds g.K.PartialEq.eq g.met.K.Eq.laws c.in-Apply.call (entry_pair e) in
    let puts = puts-left g.K.PartialEq.eq g.met.K.Eq.laws c.index_mut-shard.result.now c.apply_at-answer.new.shard
    p.slot _ there.distinct there.has left keeps leaves in
    let gone = gone-number left c.apply_at-answer.result.1
    (at-some _ _ e there.has.there c.apply_at-answer.ensures.gone) in
    let was = ap number_of there.pair in
    let part = pairs_at (state_of core).tables p.shard (shard_pairs c.index_mut-shard.result.now) there.seen in
    omega (arith, puts.counted, gone, was, part, c.requires.room.pairs)

pub returns-clause-step : goal.returns-clause-step
returns-clause-step g c =
    let core = c.args.core.now in
    let p = c.index_mut-place.result.now in
    let here = kept-here core.places.items c.requires.before.1 p c.index_mut-place.ensures.value in
    let seen = seen-here core.places.items c.requires.before.1 p c.index_mut-place.ensures.value in
    let before = sym c.replace.ensures.value ∙ c.in-Apply.is in
    let claim = claim_at c.requires.sound c.args.step.thread (place_of p) seen before in
    let is = call-slot c.requires.slots c.args.step.thread p here claim.2.guard _ (ap phase_key before) in
    let there = stands-in _ core c.requires.sound g.met.K.Eq.laws p.shard p.slot _ is c.index_mut-shard.result.now
    c.index_mut-shard.ensures.value in
    let e = there.has.entry in
    let deeds = deeds_of g.D.Deed in
    let left = keyed_leaves deeds c.in-Apply.call (Some (entry_pair e)) in
    let leaves = at-some _ _ e there.has.there c.apply_at-answer.ensures.leaves in
    let keeps = keyed-keeps deeds g.K.PartialEq.eq g.met.K.Eq.laws c.in-Apply.call (entry_pair e) in
    let puts = puts-left g.K.PartialEq.eq g.met.K.Eq.laws c.index_mut-shard.result.now c.apply_at-answer.new.shard
    p.slot _ there.distinct there.has left keeps leaves in
    record {
      place = place_of p;
      stands = seen;
      call = c.in-Apply.call;
      before = before;
      table = shard_pairs c.index_mut-shard.result.now;
      held = there.seen;
      pair = entry_pair e;
      found = there.pair;
      changed = shard_pairs c.apply_at-answer.new.shard;
      puts = puts;
      blocks = c.count_in.new.blocks.items;
      counted = c.count_in.ensures.counted;
      after = stepped-by core c.args.step (record p { phase = c.enter.new.phase }) _ c.appended-core.result.items _ _
          core.locks c.count_in.new.blocks.items core.replies.items
          c.appended-core.ensures
          (ap (λ f. record (place_of p) { phase = f })
          (c.enter.ensures
          ∙ ap (λ a. phase.Release a) (at-some _ _ e there.has.there c.apply_at-answer.ensures.answer)))
          (map-set shard_pairs core.tables.items p.shard c.apply_at-answer.new.shard);
    }

pub returns-clause-slots : goal.returns-clause-slots
returns-clause-slots g c =
    let core = c.args.core.now in
    let p = c.index_mut-place.result.now in
    let here = kept-here core.places.items c.requires.before.1 p c.index_mut-place.ensures.value in
    let seen = seen-here core.places.items c.requires.before.1 p c.index_mut-place.ensures.value in
    let before = sym c.replace.ensures.value ∙ c.in-Apply.is in
    let claim = claim_at c.requires.sound c.args.step.thread (place_of p) seen before in
    let is = call-slot c.requires.slots c.args.step.thread p here claim.2.guard _ (ap phase_key before) in
    let there = stands-in _ core c.requires.sound g.met.K.Eq.laws p.shard p.slot _ is c.index_mut-shard.result.now
    c.index_mut-shard.ensures.value in
    let e = there.has.entry in
    let deeds = deeds_of g.D.Deed in
    let left = keyed_leaves deeds c.in-Apply.call (Some (entry_pair e)) in
    let leaves = at-some _ _ e there.has.there c.apply_at-answer.ensures.leaves in
    let keeps = keyed-keeps deeds g.K.PartialEq.eq g.met.K.Eq.laws c.in-Apply.call (entry_pair e) in
    let puts = puts-left g.K.PartialEq.eq g.met.K.Eq.laws c.index_mut-shard.result.now c.apply_at-answer.new.shard
    p.slot _ there.distinct there.has left keeps leaves in
    let hashes = hashes-left g.K.PartialEq.eq g.met.K.Eq.laws c.index_mut-shard.result.now c.apply_at-answer.new.shard
    p.slot _ there.distinct there.has _
    (hashes-alike g.S.BuildHasher g.S.Hasher.Hasher g.K.Hash.hash_input core.hasher g.K.PartialEq.eq
    g.met.K.Hash.respects_eq) left keeps leaves
    (c.requires.slots.hashed p.shard c.index_mut-shard.result.now there.held) in
    let blocks = c.count_in.new.blocks.items in
    let kept = slots-alone_free _ _ core c.requires.sound c.requires.slots c.args.step.thread p
    (record p { phase = c.enter.new.phase }) here
    blocks (calls-counted c.args.step.thread core.blocks.items blocks p.block p.next c.count_in.ensures.counted)
    claim.2.alone c.index_mut-shard.result.now c.apply_at-answer.new.shard there.held hashes claim.2.guard
    (ap phase_key c.enter.ensures) (next-free _ _ _ _ _ (ap walking c.enter.ensures)) in
    record { hashed = kept.hashed; found = kept.found; next = kept.next }

pub returns-clause-room : goal.returns-clause-room
returns-clause-room g c =
    let core = c.args.core.now in
    let p = c.index_mut-place.result.now in
    let here = kept-here core.places.items c.requires.before.1 p c.index_mut-place.ensures.value in
    let seen = seen-here core.places.items c.requires.before.1 p c.index_mut-place.ensures.value in
    let before = sym c.replace.ensures.value ∙ c.in-Apply.is in
    let claim = claim_at c.requires.sound c.args.step.thread (place_of p) seen before in
    let is = call-slot c.requires.slots c.args.step.thread p here claim.2.guard _ (ap phase_key before) in
    let there = stands-in _ core c.requires.sound g.met.K.Eq.laws p.shard p.slot _ is c.index_mut-shard.result.now
    c.index_mut-shard.ensures.value in
    let e = there.has.entry in
    let deeds = deeds_of g.D.Deed in
    let left = keyed_leaves deeds c.in-Apply.call (Some (entry_pair e)) in
    let leaves = at-some _ _ e there.has.there c.apply_at-answer.ensures.leaves in
    let keeps = keyed-keeps deeds g.K.PartialEq.eq g.met.K.Eq.laws c.in-Apply.call (entry_pair e) in
    let puts = puts-left g.K.PartialEq.eq g.met.K.Eq.laws c.index_mut-shard.result.now c.apply_at-answer.new.shard
    p.slot _ there.distinct there.has left keeps leaves in
    let gone = gone-number left c.apply_at-answer.result.1
    (at-some _ _ e there.has.there c.apply_at-answer.ensures.gone) in
    let was = ap number_of there.pair in
    let change = pairs_put core.tables.items p.shard c.index_mut-shard.result.now c.apply_at-answer.new.shard there.held
    in
    let more = length core.tables.items - (p.shard + 1) in
    let p' = record p { phase = c.enter.new.phase } in
    let plain = ap walking c.enter.ensures in
    shifted _ _ c.args.step.thread p p' c.requires.room (record {
      here = here;
      places = refl;
      numbers = c.requires.numbers;
      steps = simp length-append at (ap length c.appended-core.ensures);
      count = refl;
      programs = refl;
      tables = length-set core.tables.items p.shard c.apply_at-answer.new.shard;
      held = λ i h has. c.requires.room.held c.args.step.thread i (place_of p) h seen has;
      locks = same_size;
      unanswered = omega (arith, ap owes c.enter.ensures, ap owes before);
      answers = omega (arith, ap owes c.enter.ensures, ap owes before);
      replies = refl;
      listing = omega (arith, ap (lists more) c.enter.ensures, ap (lists more) before, c.count_in.ensures.len);
      blocks = c.count_in.ensures.capacity;
      visits = plain-visits (place_of p) (place_of p') refl plain;
      capacity = refl;
      lists = let due = plain-lists (place_of p) (place_of p') refl plain in omega (arith, due);
      adding = omega (arith, ap adds c.enter.ensures, ap adds before, c.less_one-core.ensures);
      pairs = omega (arith, c.requires.room.pairs, change, puts.counted, gone, was, c.less_one-core.ensures);
      more_blocks = omega (arith, c.count_in.ensures.len);
      listed = λ i e. let below = c.requires.room.listed c.args.step.thread (place_of p) i seen e in
          omega (arith, below, c.count_in.ensures.len);
    })
