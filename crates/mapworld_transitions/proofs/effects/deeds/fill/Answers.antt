use Rattle.std.proofs.Common.{◌≡◌, length, None, Some, refl, sym, ap, ◌∙◌, subst, arith, length-append, length-set, ◌+◌}
use Rattle.std.proofs.Common.{◌-◌}
use Rattle.std.proofs.lemmas.List.{map-set}
use Rattle.mapworld_calls.specs.Pairs.{pair_of}
use Rattle.mapworld_calls.specs.Calls.{pair_in}
use Rattle.mapworld_calls.proofs.Handed.{Handed}
use Rattle.mapworld_state.specs.declared.place.Guard.TheVariants as guard
use Rattle.mapworld_state.specs.declared.place.Way.TheVariants as way
use Rattle.mapworld_state.specs.Places.{place_of}
use Rattle.mapworld_state.specs.Shards.{shard_pairs, number_of}
use Rattle.mapworld_state.specs.Slots.{HasKeyAt}
use Rattle.mapworld_state.specs.Moves.{vacant_key}
use Rattle.mapworld_state.specs.Core.{state_of, owes, lists, adds}
use Rattle.mapworld_state.proofs.Views.{view-at}
use Rattle.mapworld_state.proofs.LocksFacts.Sizes.{same_size}
use Rattle.mapworld_transitions.proofs.Rooms.{shifted}
use Rattle.mapworld_transitions.proofs.Facts.{kept-here, seen-here, kept-phase, claim_at, next_fits, kept-within}
use Rattle.mapworld_transitions.proofs.Facts.{kept-shard, session_counts, vacant_is, stepped-by}
use Rattle.mapworld_transitions.proofs.Keys.{guards}
use Rattle.mapworld_transitions.proofs.Walking.{walking, plain-visits, plain-lists}
use Rattle.mapworld_transitions.proofs.Slots.{calls-counted, slots-alone_begun}
use Rattle.mapworld_transitions.proofs.Weights.{pairs_put}
use Rattle.mapworld_transitions.proofs.effects.deeds.fill.Goals as goal

pub unreachable-requires-in_default-vacant_key : goal.unreachable-requires-in_default-vacant_key
unreachable-requires-in_default-vacant_key g c =
    let core = c.args.core.now in
    let p = c.index_mut-place.result.now in
    let seen = seen-here core.places.items c.requires.before.1 p c.index_mut-place.ensures.value in
    let before = kept-phase core.places.items c.requires.before.1 p c.index_mut-place.ensures.value in
    let claim = claim_at c.requires.sound c.args.step.thread (place_of p) seen before in
    c.in_default-vacant_key.not-Some claim.0
    (c.vacant_key.ensures ∙ (ap vacant_key c.replace-2.ensures.value ∙ ap vacant_key claim.2))

pub index_mut-shard-requires : goal.index_mut-shard-requires
index_mut-shard-requires g c =
    let core = c.args.core.now in
    let p = c.index_mut-place.result.now in
    let seen = seen-here core.places.items c.requires.before.1 p c.index_mut-place.ensures.value in
    let before = sym c.replace.ensures.value ∙ c.in-Fill.is in
    let claim = claim_at c.requires.sound c.args.step.thread (place_of p) seen before in
    let mine = vacant_is p.guard c.in-Some.key
    (sym (ap vacant_key c.replace-2.ensures.value) ∙ (sym c.vacant_key.ensures ∙ c.in-Some.is)) in
    let own = guards _ (state_of core) c.requires.sound c.args.step.thread (place_of p) (guard.Vacant c.in-Some.key)
    mine p.next _ p.block refl claim.4 in
    omega (arith, kept-within core.tables.items p.shard _ own.there, core.tables.ok.0)

pub add_pair-place-requires-clause-hashed : goal.add_pair-place-requires-clause-hashed
add_pair-place-requires-clause-hashed g c =
    let core = c.args.core.now in
    let p = c.index_mut-place.result.now in
    let seen = seen-here core.places.items c.requires.before.1 p c.index_mut-place.ensures.value in
    let before = sym c.replace.ensures.value ∙ c.in-Fill.is in
    let claim = claim_at c.requires.sound c.args.step.thread (place_of p) seen before in
    let mine = vacant_is p.guard c.in-Some.key
    (sym (ap vacant_key c.replace-2.ensures.value) ∙ (sym c.vacant_key.ensures ∙ c.in-Some.is)) in
    let own = guards _ (state_of core) c.requires.sound c.args.step.thread (place_of p) (guard.Vacant c.in-Some.key)
    mine p.next _ p.block refl claim.4 in
    let there = kept-shard core.tables.items p.shard _ own.there c.index_mut-shard.result.now
    c.index_mut-shard.ensures.value in
    c.requires.slots.hashed p.shard c.index_mut-shard.result.now there.0

pub add_pair-place-requires-clause-absent : goal.add_pair-place-requires-clause-absent
add_pair-place-requires-clause-absent g c =
    let core = c.args.core.now in
    let p = c.index_mut-place.result.now in
    let seen = seen-here core.places.items c.requires.before.1 p c.index_mut-place.ensures.value in
    let before = sym c.replace.ensures.value ∙ c.in-Fill.is in
    let claim = claim_at c.requires.sound c.args.step.thread (place_of p) seen before in
    let mine = vacant_is p.guard c.in-Some.key
    (sym (ap vacant_key c.replace-2.ensures.value) ∙ (sym c.vacant_key.ensures ∙ c.in-Some.is)) in
    let own = guards _ (state_of core) c.requires.sound c.args.step.thread (place_of p) (guard.Vacant c.in-Some.key)
    mine p.next _ p.block refl claim.4 in
    let there = kept-shard core.tables.items p.shard _ own.there c.index_mut-shard.result.now
    c.index_mut-shard.ensures.value in
    let same : c.in-Some.key ≡ own.key = subst (Handed own.key) own.guard_is.0 own.handed in
    let absent : pair_of g.K.PartialEq.eq (shard_pairs c.index_mut-shard.result.now).items c.in-Some.key ≡ None =
    ap (pair_of g.K.PartialEq.eq (shard_pairs c.index_mut-shard.result.now).items) same
    ∙ (there.1 ∙ ap pair_in own.guard_is.0) in
    absent

pub add_pair-place-requires-clause-room : goal.add_pair-place-requires-clause-room
add_pair-place-requires-clause-room g c =
    let core = c.args.core.now in
    let p = c.index_mut-place.result.now in
    let seen = seen-here core.places.items c.requires.before.1 p c.index_mut-place.ensures.value in
    let before = sym c.replace.ensures.value ∙ c.in-Fill.is in
    let claim = claim_at c.requires.sound c.args.step.thread (place_of p) seen before in
    let mine = vacant_is p.guard c.in-Some.key
    (sym (ap vacant_key c.replace-2.ensures.value) ∙ (sym c.vacant_key.ensures ∙ c.in-Some.is)) in
    let own = guards _ (state_of core) c.requires.sound c.args.step.thread (place_of p) (guard.Vacant c.in-Some.key)
    mine p.next _ p.block refl claim.4 in
    (kept-shard core.tables.items p.shard _ own.guard_is.2 c.index_mut-shard.result.now
    c.index_mut-shard.ensures.value).1

pub count_in-requires-clause-listed : goal.count_in-requires-clause-listed
count_in-requires-clause-listed g c =
    let core = c.args.core.now in
    let p = c.index_mut-place.result.now in
    let seen = seen-here core.places.items c.requires.before.1 p c.index_mut-place.ensures.value in
    let before = kept-phase core.places.items c.requires.before.1 p c.index_mut-place.ensures.value in
    let claim = claim_at c.requires.sound c.args.step.thread (place_of p) seen before in
    session_counts _ _ _ _ (place_of p) p.next _ p.block claim.4

pub count_in-requires-clause-fits : goal.count_in-requires-clause-fits
count_in-requires-clause-fits g c =
    let core = c.args.core.now in
    let p = c.index_mut-place.result.now in
    let seen = seen-here core.places.items c.requires.before.1 p c.index_mut-place.ensures.value in
    let before = kept-phase core.places.items c.requires.before.1 p c.index_mut-place.ensures.value in
    let fits = next_fits c.requires.sound c.args.step.thread (place_of p) seen before in
    omega (arith, fits, c.requires.room.calls_fit)

pub returns-clause-step : goal.returns-clause-step
returns-clause-step g c =
    let core = c.args.core.now in
    let p = c.index_mut-place.result.now in
    let seen = seen-here core.places.items c.requires.before.1 p c.index_mut-place.ensures.value in
    let before = sym c.replace.ensures.value ∙ c.in-Fill.is in
    let claim = claim_at c.requires.sound c.args.step.thread (place_of p) seen before in
    let mine = vacant_is p.guard c.in-Some.key
    (sym (ap vacant_key c.replace-2.ensures.value) ∙ (sym c.vacant_key.ensures ∙ c.in-Some.is)) in
    let own = guards _ (state_of core) c.requires.sound c.args.step.thread (place_of p) (guard.Vacant c.in-Some.key)
    mine p.next _ p.block refl claim.4 in
    let there = kept-shard core.tables.items p.shard _ own.there c.index_mut-shard.result.now
    c.index_mut-shard.ensures.value in
    record {
      place = place_of p;
      stands = seen;
      value = c.in-Fill.value;
      before = before;
      table = shard_pairs c.index_mut-shard.result.now;
      held = view-at shard_pairs core.tables.items p.shard c.index_mut-shard.result.now there.0;
      key = c.in-Some.key;
      guarded = mine;
      changed = shard_pairs c.add_pair-place.new.shard;
      puts = c.add_pair-place.ensures.puts;
      room = c.add_pair-place.ensures.room;
      blocks = c.count_in.new.blocks.items;
      counted = c.count_in.ensures.counted;
      after = stepped-by core c.args.step
          (record p {
            slot = c.add_pair-place.result;
            guard = Some (guard.Pair way.Exclusive);
            phase = c.replace.new.dest;
          }) _ c.appended-core.result.items _ _ core.locks c.count_in.new.blocks.items
          core.replies.items
          c.appended-core.ensures
          (ap (λ f. record (place_of p) { guard = Some (guard.Pair way.Exclusive); phase = f })
          c.replace.ensures.after) (map-set shard_pairs core.tables.items p.shard c.add_pair-place.new.shard);
    }

pub returns-clause-slots : goal.returns-clause-slots
returns-clause-slots g c =
    let core = c.args.core.now in
    let p = c.index_mut-place.result.now in
    let here = kept-here core.places.items c.requires.before.1 p c.index_mut-place.ensures.value in
    let seen = seen-here core.places.items c.requires.before.1 p c.index_mut-place.ensures.value in
    let before = sym c.replace.ensures.value ∙ c.in-Fill.is in
    let claim = claim_at c.requires.sound c.args.step.thread (place_of p) seen before in
    let mine = vacant_is p.guard c.in-Some.key
    (sym (ap vacant_key c.replace-2.ensures.value) ∙ (sym c.vacant_key.ensures ∙ c.in-Some.is)) in
    let own = guards _ (state_of core) c.requires.sound c.args.step.thread (place_of p) (guard.Vacant c.in-Some.key)
    mine p.next _ p.block refl claim.4 in
    let there = kept-shard core.tables.items p.shard _ own.there c.index_mut-shard.result.now
    c.index_mut-shard.ensures.value in
    let same : c.in-Some.key ≡ own.key = subst (Handed own.key) own.guard_is.0 own.handed in
    let blocks = c.count_in.new.blocks.items in
    let kept = slots-alone_begun _ _ core c.requires.sound c.requires.slots c.args.step.thread p
    (record p {
      slot = c.add_pair-place.result;
      guard = Some (guard.Pair way.Exclusive);
      phase = c.replace.new.dest;
    }) here
    blocks (calls-counted c.args.step.thread core.blocks.items blocks p.block p.next c.count_in.ensures.counted)
    claim.3 c.index_mut-shard.result.now c.add_pair-place.new.shard there.0 c.add_pair-place.ensures.hashed
    way.Exclusive refl refl refl own.key own.key_is
    (subst (HasKeyAt g.K.PartialEq.eq c.add_pair-place.new.shard c.add_pair-place.result) same
    c.add_pair-place.ensures.there) (ap walking c.replace.ensures.after) in
    record { hashed = kept.hashed; found = kept.found; next = kept.next }

pub returns-clause-room : goal.returns-clause-room
returns-clause-room g c =
    let core = c.args.core.now in
    let p = c.index_mut-place.result.now in
    let here = kept-here core.places.items c.requires.before.1 p c.index_mut-place.ensures.value in
    let seen = seen-here core.places.items c.requires.before.1 p c.index_mut-place.ensures.value in
    let before = sym c.replace.ensures.value ∙ c.in-Fill.is in
    let claim = claim_at c.requires.sound c.args.step.thread (place_of p) seen before in
    let mine = vacant_is p.guard c.in-Some.key
    (sym (ap vacant_key c.replace-2.ensures.value) ∙ (sym c.vacant_key.ensures ∙ c.in-Some.is)) in
    let own = guards _ (state_of core) c.requires.sound c.args.step.thread (place_of p) (guard.Vacant c.in-Some.key)
    mine p.next _ p.block refl claim.4 in
    let there = kept-shard core.tables.items p.shard _ own.there c.index_mut-shard.result.now
    c.index_mut-shard.ensures.value in
    let same : c.in-Some.key ≡ own.key = subst (Handed own.key) own.guard_is.0 own.handed in
    let absent : pair_of g.K.PartialEq.eq (shard_pairs c.index_mut-shard.result.now).items c.in-Some.key ≡ None =
    ap (pair_of g.K.PartialEq.eq (shard_pairs c.index_mut-shard.result.now).items) same
    ∙ (there.1 ∙ ap pair_in own.guard_is.0) in
    let change = pairs_put core.tables.items p.shard c.index_mut-shard.result.now c.add_pair-place.new.shard there.0 in
    let more = length core.tables.items - (p.shard + 1) in
    let p' = record p {
      slot = c.add_pair-place.result;
      guard = Some (guard.Pair way.Exclusive);
      phase = c.replace.new.dest;
    } in
    let plain = ap walking c.replace.ensures.after in
    shifted _ _ c.args.step.thread p p' c.requires.room (record {
      here = here;
      places = refl;
      numbers = c.requires.numbers;
      steps = simp length-append at (ap length c.appended-core.ensures);
      count = refl;
      programs = refl;
      tables = length-set core.tables.items p.shard c.add_pair-place.new.shard;
      held = λ i h has. c.requires.room.held c.args.step.thread i (place_of p) h seen has;
      locks = same_size;
      unanswered = omega (arith, ap owes c.replace.ensures.after, ap owes before);
      answers = omega (arith, ap owes c.replace.ensures.after, ap owes before);
      replies = refl;
      listing = omega (arith, ap (lists more) c.replace.ensures.after, ap (lists more) before, c.count_in.ensures.len);
      blocks = c.count_in.ensures.capacity;
      visits = plain-visits (place_of p) (place_of p') refl plain;
      capacity = refl;
      lists = let due = plain-lists (place_of p) (place_of p') refl plain in omega (arith, due);
      adding = omega (arith, ap adds c.replace.ensures.after, ap adds before);
      pairs = omega (arith, c.requires.room.pairs, change, c.add_pair-place.ensures.puts.counted, ap number_of absent);
      more_blocks = omega (arith, c.count_in.ensures.len);
      listed = λ i e. let below = c.requires.room.listed c.args.step.thread (place_of p) i seen e in
          omega (arith, below, c.count_in.ensures.len);
    })
