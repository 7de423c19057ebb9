use Rattle.std.proofs.Common.{length, refl, sym, ap, ◌∙◌, arith, length-append, length-set, ◌+◌, ◌-◌}
use Rattle.std.proofs.lemmas.List.{map-set}
use Rattle.mapworld_state.specs.Places.{place_of}
use Rattle.mapworld_state.specs.Shards.{shard_pairs, number_of}
use Rattle.mapworld_state.specs.Slots.{phase_key}
use Rattle.mapworld_state.specs.Core.{state_of, owes, lists, adds}
use Rattle.mapworld_state.proofs.Views.{view-at}
use Rattle.mapworld_state.proofs.LocksFacts.Sizes.{same_size}
use Rattle.mapworld_transitions.proofs.Rooms.{shifted}
use Rattle.mapworld_transitions.proofs.Facts.{kept-here, seen-here, kept-phase, claim_at, next_fits, kept-within}
use Rattle.mapworld_transitions.proofs.Facts.{kept-shard, deed_counts, stepped-by}
use Rattle.mapworld_transitions.proofs.Keys.{setup-laws, deed-found}
use Rattle.mapworld_transitions.proofs.Walking.{next-free, walking, plain-visits, plain-lists}
use Rattle.mapworld_transitions.proofs.Slots.{calls-counted, slots-alone_free}
use Rattle.mapworld_transitions.proofs.Weights.{pairs_put}
use Rattle.mapworld_transitions.proofs.effects.deeds.append.Goals as goal

pub index_mut-shard-requires : goal.index_mut-shard-requires
index_mut-shard-requires g c =
    let p = c.index_mut-place.result.now in
    let seen = seen-here c.args.core.now.places.items c.requires.before.2 p c.index_mut-place.ensures.value in
    let claim = claim_at c.requires.sound c.args.step.thread (place_of p) seen
    (kept-phase c.args.core.now.places.items c.requires.before.2 p c.index_mut-place.ensures.value) in
    omega (arith, kept-within c.args.core.now.tables.items p.shard _ claim.2, c.args.core.now.tables.ok.0)

pub add_pair-slot-requires-clause-hashed : goal.add_pair-slot-requires-clause-hashed
add_pair-slot-requires-clause-hashed g c =
    let p = c.index_mut-place.result.now in
    let seen = seen-here c.args.core.now.places.items c.requires.before.2 p c.index_mut-place.ensures.value in
    let claim = claim_at c.requires.sound c.args.step.thread (place_of p) seen
    (kept-phase c.args.core.now.places.items c.requires.before.2 p c.index_mut-place.ensures.value) in
    let table = kept-shard c.args.core.now.tables.items p.shard _ claim.2 c.index_mut-shard.result.now
    c.index_mut-shard.ensures.value in
    c.requires.slots.hashed p.shard c.index_mut-shard.result.now table.0

pub add_pair-slot-requires-clause-absent : goal.add_pair-slot-requires-clause-absent
add_pair-slot-requires-clause-absent g c =
    let w = state_of c.args.core.now in
    let p = c.index_mut-place.result.now in
    let seen = seen-here c.args.core.now.places.items c.requires.before.2 p c.index_mut-place.ensures.value in
    let before = sym c.replace.ensures.value ∙ c.in-Append.is in
    let claim = claim_at c.requires.sound c.args.step.thread (place_of p) seen before in
    let table = kept-shard c.args.core.now.tables.items p.shard _ claim.2 c.index_mut-shard.result.now
    c.index_mut-shard.ensures.value in
    deed-found _ w c.requires.sound c.args.step.thread (place_of p)
    (setup-laws g.D.Deed g.S.BuildHasher g.S.Hasher.Hasher g.K.PartialEq.eq g.K.Hash.hash_input w g.met.K.Eq.laws
    g.met.K.Hash.respects_eq)
    c.in-Append.key _ claim.1 (shard_pairs c.index_mut-shard.result.now)
    (view-at shard_pairs c.args.core.now.tables.items p.shard c.index_mut-shard.result.now table.0)

pub add_pair-slot-requires-clause-room : goal.add_pair-slot-requires-clause-room
add_pair-slot-requires-clause-room g c =
    let p = c.index_mut-place.result.now in
    let seen = seen-here c.args.core.now.places.items c.requires.before.2 p c.index_mut-place.ensures.value in
    let claim = claim_at c.requires.sound c.args.step.thread (place_of p) seen
    (kept-phase c.args.core.now.places.items c.requires.before.2 p c.index_mut-place.ensures.value) in
    (kept-shard c.args.core.now.tables.items p.shard _ claim.2 c.index_mut-shard.result.now
    c.index_mut-shard.ensures.value).1

pub count_in-requires-clause-listed : goal.count_in-requires-clause-listed
count_in-requires-clause-listed g c =
    let p = c.index_mut-place.result.now in
    let seen = seen-here c.args.core.now.places.items c.requires.before.2 p c.index_mut-place.ensures.value in
    let claim = claim_at c.requires.sound c.args.step.thread (place_of p) seen
    (kept-phase c.args.core.now.places.items c.requires.before.2 p c.index_mut-place.ensures.value) in
    deed_counts _ _ (state_of c.args.core.now).tables _ (place_of p) _ _ claim.1

pub count_in-requires-clause-fits : goal.count_in-requires-clause-fits
count_in-requires-clause-fits g c =
    let p = c.index_mut-place.result.now in
    let seen = seen-here c.args.core.now.places.items c.requires.before.2 p c.index_mut-place.ensures.value in
    let fits = next_fits c.requires.sound c.args.step.thread (place_of p) seen
    (kept-phase c.args.core.now.places.items c.requires.before.2 p c.index_mut-place.ensures.value) in
    omega (arith, fits, c.requires.room.calls_fit)

pub returns-clause-step : goal.returns-clause-step
returns-clause-step g c =
    let core = c.args.core.now in
    let p = c.index_mut-place.result.now in
    let seen = seen-here c.args.core.now.places.items c.requires.before.2 p c.index_mut-place.ensures.value in
    let before = sym c.replace.ensures.value ∙ c.in-Append.is in
    let claim = claim_at c.requires.sound c.args.step.thread (place_of p) seen before in
    let table = kept-shard core.tables.items p.shard _ claim.2 c.index_mut-shard.result.now
    c.index_mut-shard.ensures.value in
    record {
      place = place_of p;
      stands = seen;
      key = c.in-Append.key;
      value = c.in-Append.value;
      before = before;
      table = shard_pairs c.index_mut-shard.result.now;
      held = view-at shard_pairs core.tables.items p.shard c.index_mut-shard.result.now table.0;
      changed = shard_pairs c.add_pair-slot.new.shard;
      puts = c.add_pair-slot.ensures.puts;
      room = c.add_pair-slot.ensures.room;
      blocks = c.count_in.new.blocks.items;
      counted = c.count_in.ensures.counted;
      after = stepped-by core c.args.step (record p { phase = c.replace.new.dest }) _ c.appended-core.result.items _ _
          core.locks c.count_in.new.blocks.items core.replies.items
          c.appended-core.ensures (ap (λ f. record (place_of p) { phase = f }) c.replace.ensures.after)
          (map-set shard_pairs core.tables.items p.shard c.add_pair-slot.new.shard);
    }

pub returns-clause-slots : goal.returns-clause-slots
returns-clause-slots g c =
    let core = c.args.core.now in
    let p = c.index_mut-place.result.now in
    let seen = seen-here c.args.core.now.places.items c.requires.before.2 p c.index_mut-place.ensures.value in
    let before = sym c.replace.ensures.value ∙ c.in-Append.is in
    let claim = claim_at c.requires.sound c.args.step.thread (place_of p) seen before in
    let table = kept-shard core.tables.items p.shard _ claim.2 c.index_mut-shard.result.now
    c.index_mut-shard.ensures.value in
    let p' = record p { phase = c.replace.new.dest } in
    let blocks = c.count_in.new.blocks.items in
    let kept = slots-alone_free _ _ core c.requires.sound c.requires.slots c.args.step.thread p p'
    (kept-here c.args.core.now.places.items c.requires.before.2 p c.index_mut-place.ensures.value)
    blocks (calls-counted c.args.step.thread core.blocks.items blocks p.block p.next c.count_in.ensures.counted)
    claim.1.alone c.index_mut-shard.result.now c.add_pair-slot.new.shard table.0 c.add_pair-slot.ensures.hashed
    claim.1.guard (ap phase_key c.replace.ensures.after) (next-free _ _ _ _ _ (ap walking c.replace.ensures.after))
    in
    record { hashed = kept.hashed; found = kept.found; next = kept.next }

pub returns-clause-room : goal.returns-clause-room
returns-clause-room g c =
    let core = c.args.core.now in
    let w = state_of core in
    let p = c.index_mut-place.result.now in
    let here = kept-here core.places.items c.requires.before.2 p c.index_mut-place.ensures.value in
    let seen = seen-here c.args.core.now.places.items c.requires.before.2 p c.index_mut-place.ensures.value in
    let before = sym c.replace.ensures.value ∙ c.in-Append.is in
    let claim = claim_at c.requires.sound c.args.step.thread (place_of p) seen before in
    let table = kept-shard core.tables.items p.shard _ claim.2 c.index_mut-shard.result.now
    c.index_mut-shard.ensures.value in
    let change = pairs_put core.tables.items p.shard c.index_mut-shard.result.now c.add_pair-slot.new.shard table.0 in
    let absent = deed-found _ w c.requires.sound c.args.step.thread (place_of p)
    (setup-laws g.D.Deed g.S.BuildHasher g.S.Hasher.Hasher g.K.PartialEq.eq g.K.Hash.hash_input w g.met.K.Eq.laws
    g.met.K.Hash.respects_eq)
    c.in-Append.key _ claim.1 (shard_pairs c.index_mut-shard.result.now)
    (view-at shard_pairs core.tables.items p.shard c.index_mut-shard.result.now table.0) in
    let more = length core.tables.items - (p.shard + 1) in
    let p' = record p { phase = c.replace.new.dest } in
    let plain = ap walking c.replace.ensures.after in
    shifted _ _ c.args.step.thread p p' c.requires.room (record {
      here = here;
      places = refl;
      numbers = c.requires.numbers;
      steps = simp length-append at (ap length c.appended-core.ensures);
      count = refl;
      programs = refl;
      tables = length-set core.tables.items p.shard c.add_pair-slot.new.shard;
      held = λ i h has. c.requires.room.held c.args.step.thread i (place_of p) h seen has;
      locks = same_size;
      unanswered = omega (arith, ap owes c.replace.ensures.after, ap owes before);
      answers = omega (arith, ap owes c.replace.ensures.after, ap owes before);
      replies = refl;
      listing = omega (arith, ap (lists more) c.replace.ensures.after, ap (lists more) before, c.count_in.ensures.len);
      blocks = c.count_in.ensures.capacity;
      visits = plain-visits (place_of p) (place_of p') refl plain;
      capacity = refl;
      lists = let due = plain-lists (place_of p) (place_of p') refl plain in omega (arith, due);
      adding = omega (arith, ap adds c.replace.ensures.after, ap adds before);
      pairs = omega (arith, c.requires.room.pairs, change, c.add_pair-slot.ensures.puts.counted, ap number_of absent);
      more_blocks = omega (arith, c.count_in.ensures.len);
      listed = λ i e. let below = c.requires.room.listed c.args.step.thread (place_of p) i seen e in
          omega (arith, below, c.count_in.ensures.len);
    })
