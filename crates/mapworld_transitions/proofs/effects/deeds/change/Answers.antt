use Rattle.std.proofs.Common.{◌≡◌, true, if◌then◌else◌, length, None, is_some, refl, sym, ap, ap₂, ◌∙◌, subst, arith}
use Rattle.std.proofs.Common.{length-append, length-set, ◌+◌, ◌-◌}
use Rattle.std.proofs.lemmas.Option.{slice_get_within}
use Rattle.std.proofs.lemmas.List.{map-set}
use Rattle.dashmap_table.specs.Slots.{pair_of as entry_pair}
use Rattle.mapworld_calls.specs.Calls.{pair_in, held_leaves}
use Rattle.mapworld_state.specs.declared.place.Guard.TheVariants as guard
use Rattle.mapworld_state.specs.declared.place.Way.{Way}
use Rattle.mapworld_state.specs.Places.{place_of}
use Rattle.mapworld_state.specs.Shards.{shard_pairs, number_of}
use Rattle.mapworld_state.specs.Moves.{lent, lent_way, ends_guard, changed_phase, is_change}
use Rattle.mapworld_state.specs.Core.{state_of, owes, lists, adds}
use Rattle.mapworld_state.specs.World.{deeds_of}
use Rattle.mapworld_state.proofs.Owning.{same-kind}
use Rattle.mapworld_transitions.specs.Slots.{LeavesAt}
use Rattle.mapworld_state.proofs.LocksFacts.Sizes.{same_size}
use Rattle.mapworld_transitions.proofs.Rooms.{shifted}
use Rattle.mapworld_transitions.proofs.Facts.{kept-here, seen-here, kept-phase, claim_at, next_fits, session_counts}
use Rattle.mapworld_transitions.proofs.Facts.{way_is, stepped-by}
use Rattle.mapworld_transitions.proofs.Keys.{guards}
use Rattle.mapworld_transitions.proofs.Leaving.{at-some, some-at, stands-in, held-keeps, held-gone, held-stays}
use Rattle.mapworld_transitions.proofs.Leaving.{handed-equal, changed-free, gone-number}
use Rattle.mapworld_transitions.proofs.Walking.{plain-visits, plain-lists}
use Rattle.mapworld_transitions.proofs.Slots.{calls-counted, guard-slot, slots-alone_lent}
use Rattle.mapworld_transitions.proofs.Slotted.{hashes-alike, hashes-left, puts-left, key-kept}
use Rattle.mapworld_transitions.proofs.Weights.{pairs_put, pairs_at, changed_weighs}
use Rattle.mapworld_transitions.proofs.effects.deeds.change.Goals as goal

pub unreachable-requires-in_default-lent_way : goal.unreachable-requires-in_default-lent_way
unreachable-requires-in_default-lent_way g c =
    let core = c.args.core.now in
    let p = c.index_mut-place.result.now in
    let seen = seen-here core.places.items c.requires.before.1 p c.index_mut-place.ensures.value in
    let before = kept-phase core.places.items c.requires.before.1 p c.index_mut-place.ensures.value in
    let claim = claim_at c.requires.sound c.args.step.thread (place_of p) seen before in
    c.in_default-lent_way.not-Some claim.0
    (c.lent_way.ensures ∙ (ap lent_way c.replace-2.ensures.value ∙ ap lent_way claim.2))

pub index_mut-shard-requires : goal.index_mut-shard-requires
index_mut-shard-requires g c =
    let core = c.args.core.now in
    let p = c.index_mut-place.result.now in
    let here = kept-here core.places.items c.requires.before.1 p c.index_mut-place.ensures.value in
    let seen = seen-here core.places.items c.requires.before.1 p c.index_mut-place.ensures.value in
    let before = sym c.replace.ensures.value ∙ c.in-Change.is in
    let claim = claim_at c.requires.sound c.args.step.thread (place_of p) seen before in
    let mine = way_is p.guard c.in-Some.way
    (sym (ap lent_way c.replace-2.ensures.value) ∙ (sym c.lent_way.ensures ∙ c.in-Some.is)) in
    let own = guards _ (state_of core) c.requires.sound c.args.step.thread (place_of p) (guard.Pair c.in-Some.way) mine
    p.next _ p.block refl claim.5 in
    let is = guard-slot c.requires.slots c.args.step.thread p here c.in-Some.way mine own.key own.key_is in
    omega (arith, slice_get_within core.tables.items p.shard is.table is.held, core.tables.ok.0)

pub change_at-answer-requires-clause-full : goal.change_at-answer-requires-clause-full
change_at-answer-requires-clause-full g c =
    let core = c.args.core.now in
    let p = c.index_mut-place.result.now in
    let here = kept-here core.places.items c.requires.before.1 p c.index_mut-place.ensures.value in
    let seen = seen-here core.places.items c.requires.before.1 p c.index_mut-place.ensures.value in
    let before = sym c.replace.ensures.value ∙ c.in-Change.is in
    let claim = claim_at c.requires.sound c.args.step.thread (place_of p) seen before in
    let mine = way_is p.guard c.in-Some.way
    (sym (ap lent_way c.replace-2.ensures.value) ∙ (sym c.lent_way.ensures ∙ c.in-Some.is)) in
    let own = guards _ (state_of core) c.requires.sound c.args.step.thread (place_of p) (guard.Pair c.in-Some.way) mine
    p.next _ p.block refl claim.5 in
    let is = guard-slot c.requires.slots c.args.step.thread p here c.in-Some.way mine own.key own.key_is in
    let there = stands-in _ core c.requires.sound g.met.K.Eq.laws p.shard p.slot _ is c.index_mut-shard.result.now
    c.index_mut-shard.ensures.value in
    there.full

pub change_at-answer-requires-clause-change : goal.change_at-answer-requires-clause-change
change_at-answer-requires-clause-change g c =
    let core = c.args.core.now in
    let p = c.index_mut-place.result.now in
    let seen = seen-here core.places.items c.requires.before.1 p c.index_mut-place.ensures.value in
    let before = sym c.replace.ensures.value ∙ c.in-Change.is in
    let claim = claim_at c.requires.sound c.args.step.thread (place_of p) seen before in
    let mine = way_is p.guard c.in-Some.way
    (sym (ap lent_way c.replace-2.ensures.value) ∙ (sym c.lent_way.ensures ∙ c.in-Some.is)) in
    let change = subst (λ (k : Way _). is_change c.in-Change.call k ≡ true)
    (same-kind p.guard claim.0 c.in-Some.way claim.2 mine) claim.3 in
    change

pub change_at-answer-requires-clause-equal : goal.change_at-answer-requires-clause-equal
change_at-answer-requires-clause-equal g c =
    let core = c.args.core.now in
    let p = c.index_mut-place.result.now in
    let here = kept-here core.places.items c.requires.before.1 p c.index_mut-place.ensures.value in
    let seen = seen-here core.places.items c.requires.before.1 p c.index_mut-place.ensures.value in
    let before = sym c.replace.ensures.value ∙ c.in-Change.is in
    let claim = claim_at c.requires.sound c.args.step.thread (place_of p) seen before in
    let mine = way_is p.guard c.in-Some.way
    (sym (ap lent_way c.replace-2.ensures.value) ∙ (sym c.lent_way.ensures ∙ c.in-Some.is)) in
    let own = guards _ (state_of core) c.requires.sound c.args.step.thread (place_of p) (guard.Pair c.in-Some.way) mine
    p.next _ p.block refl claim.5 in
    let is = guard-slot c.requires.slots c.args.step.thread p here c.in-Some.way mine own.key own.key_is in
    let there = stands-in _ core c.requires.sound g.met.K.Eq.laws p.shard p.slot _ is c.index_mut-shard.result.now
    c.index_mut-shard.ensures.value in
    let e = there.has.entry in
    let equal = handed-equal _ (state_of core) c.requires.sound c.args.step.thread (place_of p) c.in-Some.way own e.key
    there.has.equal in
    λ handed same. some-at _ _ e there.has.there (equal handed same)

pub count_in-requires-clause-listed : goal.count_in-requires-clause-listed
count_in-requires-clause-listed g c =
    let core = c.args.core.now in
    let p = c.index_mut-place.result.now in
    let seen = seen-here core.places.items c.requires.before.1 p c.index_mut-place.ensures.value in
    let before = kept-phase core.places.items c.requires.before.1 p c.index_mut-place.ensures.value in
    let claim = claim_at c.requires.sound c.args.step.thread (place_of p) seen before in
    session_counts _ _ _ _ (place_of p) p.next _ p.block claim.5

pub count_in-requires-clause-fits : goal.count_in-requires-clause-fits
count_in-requires-clause-fits g c =
    let core = c.args.core.now in
    let p = c.index_mut-place.result.now in
    let seen = seen-here core.places.items c.requires.before.1 p c.index_mut-place.ensures.value in
    let before = kept-phase core.places.items c.requires.before.1 p c.index_mut-place.ensures.value in
    let fits = next_fits c.requires.sound c.args.step.thread (place_of p) seen before in
    omega (arith, fits, c.requires.room.calls_fit)

pub less_one-core-requires : goal.less_one-core-requires
less_one-core-requires g c =
    let core = c.args.core.now in
    let p = c.index_mut-place.result.now in
    let here = kept-here core.places.items c.requires.before.1 p c.index_mut-place.ensures.value in
    let seen = seen-here core.places.items c.requires.before.1 p c.index_mut-place.ensures.value in
    let before = sym c.replace.ensures.value ∙ c.in-Change.is in
    let claim = claim_at c.requires.sound c.args.step.thread (place_of p) seen before in
    let mine = way_is p.guard c.in-Some.way
    (sym (ap lent_way c.replace-2.ensures.value) ∙ (sym c.lent_way.ensures ∙ c.in-Some.is)) in
    let own = guards _ (state_of core) c.requires.sound c.args.step.thread (place_of p) (guard.Pair c.in-Some.way) mine
    p.next _ p.block refl claim.5 in
    let is = guard-slot c.requires.slots c.args.step.thread p here c.in-Some.way mine own.key own.key_is in
    let there = stands-in _ core c.requires.sound g.met.K.Eq.laws p.shard p.slot _ is c.index_mut-shard.result.now
    c.index_mut-shard.ensures.value in
    let e = there.has.entry in
    let equal = handed-equal _ (state_of core) c.requires.sound c.args.step.thread (place_of p) c.in-Some.way own e.key
    there.has.equal in
    let change = subst (λ (k : Way _). is_change c.in-Change.call k ≡ true)
    (same-kind p.guard claim.0 c.in-Some.way claim.2 mine) claim.3 in
    let deeds = deeds_of g.D.Deed in
    let left = pair_in (held_leaves deeds c.in-Change.call (lent c.in-Some.way (entry_pair e))) in
    let leaves = at-some _ _ e there.has.there c.change_at-answer.ensures.leaves in
    let keeps = held-keeps deeds g.K.PartialEq.eq g.met.K.Eq.laws c.in-Change.call c.in-Some.way change (entry_pair e)
    equal in
    let puts = puts-left g.K.PartialEq.eq g.met.K.Eq.laws c.index_mut-shard.result.now c.change_at-answer.new.shard
    p.slot own.key there.distinct there.has left keeps leaves in
    let gone = gone-number left c.takes_pair-gone.result
    (c.takes_pair-gone.ensures ∙ held-gone deeds c.in-Change.call c.in-Some.way change (entry_pair e)) in
    let was = ap number_of there.pair in
    let part = pairs_at (state_of core).tables p.shard (shard_pairs c.index_mut-shard.result.now) there.seen in
    omega (arith, puts.counted, gone, was, part, c.requires.room.pairs)

pub returns-clause-step : goal.returns-clause-step
returns-clause-step g c =
    let core = c.args.core.now in
    let p = c.index_mut-place.result.now in
    let here = kept-here core.places.items c.requires.before.1 p c.index_mut-place.ensures.value in
    let seen = seen-here core.places.items c.requires.before.1 p c.index_mut-place.ensures.value in
    let before = sym c.replace.ensures.value ∙ c.in-Change.is in
    let claim = claim_at c.requires.sound c.args.step.thread (place_of p) seen before in
    let mine = way_is p.guard c.in-Some.way
    (sym (ap lent_way c.replace-2.ensures.value) ∙ (sym c.lent_way.ensures ∙ c.in-Some.is)) in
    let own = guards _ (state_of core) c.requires.sound c.args.step.thread (place_of p) (guard.Pair c.in-Some.way) mine
    p.next _ p.block refl claim.5 in
    let is = guard-slot c.requires.slots c.args.step.thread p here c.in-Some.way mine own.key own.key_is in
    let there = stands-in _ core c.requires.sound g.met.K.Eq.laws p.shard p.slot _ is c.index_mut-shard.result.now
    c.index_mut-shard.ensures.value in
    let e = there.has.entry in
    let equal = handed-equal _ (state_of core) c.requires.sound c.args.step.thread (place_of p) c.in-Some.way own e.key
    there.has.equal in
    let change = subst (λ (k : Way _). is_change c.in-Change.call k ≡ true)
    (same-kind p.guard claim.0 c.in-Some.way claim.2 mine) claim.3 in
    let deeds = deeds_of g.D.Deed in
    let left = pair_in (held_leaves deeds c.in-Change.call (lent c.in-Some.way (entry_pair e))) in
    let leaves = at-some _ _ e there.has.there c.change_at-answer.ensures.leaves in
    let keeps = held-keeps deeds g.K.PartialEq.eq g.met.K.Eq.laws c.in-Change.call c.in-Some.way change (entry_pair e)
    equal in
    let puts = puts-left g.K.PartialEq.eq g.met.K.Eq.laws c.index_mut-shard.result.now c.change_at-answer.new.shard
    p.slot own.key there.distinct there.has left keeps leaves in
    record {
      place = place_of p;
      stands = seen;
      call = c.in-Change.call;
      before = before;
      table = shard_pairs c.index_mut-shard.result.now;
      held = there.seen;
      kind = c.in-Some.way;
      guarded = mine;
      key = own.key;
      key_is = own.key_is;
      pair = entry_pair e;
      found = there.pair;
      changed = shard_pairs c.change_at-answer.new.shard;
      puts = puts;
      blocks = c.count_in.new.blocks.items;
      counted = c.count_in.ensures.counted;
      after = stepped-by core c.args.step (record p { guard = c.change_at-answer.result.1; phase = c.enter.new.phase })
          _ c.appended-core.result.items _ _ core.locks c.count_in.new.blocks.items core.replies.items
          c.appended-core.ensures
          (ap₂ (λ o f. record (place_of p) { guard = o; phase = f })
          (c.change_at-answer.ensures.guard ∙ ap (λ k. if ends_guard c.in-Change.call then None else k) (sym mine))
          (c.enter.ensures ∙
          (c.changed_phase.ensures ∙ ap₂ changed_phase c.ends_guard-ends.ensures
          (at-some _ _ e there.has.there c.change_at-answer.ensures.answer))))
          (map-set shard_pairs core.tables.items p.shard c.change_at-answer.new.shard);
    }

pub returns-clause-slots : goal.returns-clause-slots
returns-clause-slots g c =
    let core = c.args.core.now in
    let p = c.index_mut-place.result.now in
    let here = kept-here core.places.items c.requires.before.1 p c.index_mut-place.ensures.value in
    let seen = seen-here core.places.items c.requires.before.1 p c.index_mut-place.ensures.value in
    let before = sym c.replace.ensures.value ∙ c.in-Change.is in
    let claim = claim_at c.requires.sound c.args.step.thread (place_of p) seen before in
    let mine = way_is p.guard c.in-Some.way
    (sym (ap lent_way c.replace-2.ensures.value) ∙ (sym c.lent_way.ensures ∙ c.in-Some.is)) in
    let own = guards _ (state_of core) c.requires.sound c.args.step.thread (place_of p) (guard.Pair c.in-Some.way) mine
    p.next _ p.block refl claim.5 in
    let is = guard-slot c.requires.slots c.args.step.thread p here c.in-Some.way mine own.key own.key_is in
    let there = stands-in _ core c.requires.sound g.met.K.Eq.laws p.shard p.slot _ is c.index_mut-shard.result.now
    c.index_mut-shard.ensures.value in
    let e = there.has.entry in
    let equal = handed-equal _ (state_of core) c.requires.sound c.args.step.thread (place_of p) c.in-Some.way own e.key
    there.has.equal in
    let change = subst (λ (k : Way _). is_change c.in-Change.call k ≡ true)
    (same-kind p.guard claim.0 c.in-Some.way claim.2 mine) claim.3 in
    let deeds = deeds_of g.D.Deed in
    let left = pair_in (held_leaves deeds c.in-Change.call (lent c.in-Some.way (entry_pair e))) in
    let leaves = at-some _ _ e there.has.there c.change_at-answer.ensures.leaves in
    let keeps = held-keeps deeds g.K.PartialEq.eq g.met.K.Eq.laws c.in-Change.call c.in-Some.way change (entry_pair e)
    equal in
    let puts = puts-left g.K.PartialEq.eq g.met.K.Eq.laws c.index_mut-shard.result.now c.change_at-answer.new.shard
    p.slot own.key there.distinct there.has left keeps leaves in
    let hashes = hashes-left g.K.PartialEq.eq g.met.K.Eq.laws c.index_mut-shard.result.now c.change_at-answer.new.shard
    p.slot own.key there.distinct there.has _
    (hashes-alike g.S.BuildHasher g.S.Hasher.Hasher g.K.Hash.hash_input core.hasher g.K.PartialEq.eq
    g.met.K.Hash.respects_eq) left keeps leaves
    (c.requires.slots.hashed p.shard c.index_mut-shard.result.now there.held) in
    let blocks = c.count_in.new.blocks.items in
    let kept = slots-alone_lent _ _ core c.requires.sound c.requires.slots c.args.step.thread p
    (record p { guard = c.change_at-answer.result.1; phase = c.enter.new.phase }) here
    blocks (calls-counted c.args.step.thread core.blocks.items blocks p.block p.next c.count_in.ensures.counted)
    claim.4 c.index_mut-shard.result.now c.change_at-answer.new.shard there.held hashes
    (λ kind e. ap (λ o. is_some (lent_way o)) mine) (λ i e. e)
    (changed-free c.enter.new.phase c.ends_guard-ends.result c.change_at-answer.result.0
    (c.enter.ensures ∙ c.changed_phase.ensures)) refl refl
    (λ kind lends.
    let stays = held-stays deeds c.in-Change.call c.in-Some.way change kind
    (sym (ap lent_way c.change_at-answer.ensures.guard) ∙ lends) (entry_pair e) in
    key-kept g.K.PartialEq.eq g.met.K.Eq.laws c.index_mut-shard.result.now c.change_at-answer.new.shard p.slot own.key
    there.distinct there.has stays.0 (keeps stays.0 stays.1)
    (subst (LeavesAt c.index_mut-shard.result.now c.change_at-answer.new.shard p.slot) stays.1 leaves))
    (changed_weighs c.ends_guard-ends.result c.change_at-answer.result.0 c.enter.new.phase
    (c.enter.ensures ∙ c.changed_phase.ensures)).3 in
    record { hashed = kept.hashed; found = kept.found; next = kept.next }

pub returns-clause-room : goal.returns-clause-room
returns-clause-room g c =
    let core = c.args.core.now in
    let p = c.index_mut-place.result.now in
    let here = kept-here core.places.items c.requires.before.1 p c.index_mut-place.ensures.value in
    let seen = seen-here core.places.items c.requires.before.1 p c.index_mut-place.ensures.value in
    let before = sym c.replace.ensures.value ∙ c.in-Change.is in
    let claim = claim_at c.requires.sound c.args.step.thread (place_of p) seen before in
    let mine = way_is p.guard c.in-Some.way
    (sym (ap lent_way c.replace-2.ensures.value) ∙ (sym c.lent_way.ensures ∙ c.in-Some.is)) in
    let own = guards _ (state_of core) c.requires.sound c.args.step.thread (place_of p) (guard.Pair c.in-Some.way) mine
    p.next _ p.block refl claim.5 in
    let is = guard-slot c.requires.slots c.args.step.thread p here c.in-Some.way mine own.key own.key_is in
    let there = stands-in _ core c.requires.sound g.met.K.Eq.laws p.shard p.slot _ is c.index_mut-shard.result.now
    c.index_mut-shard.ensures.value in
    let e = there.has.entry in
    let equal = handed-equal _ (state_of core) c.requires.sound c.args.step.thread (place_of p) c.in-Some.way own e.key
    there.has.equal in
    let change = subst (λ (k : Way _). is_change c.in-Change.call k ≡ true)
    (same-kind p.guard claim.0 c.in-Some.way claim.2 mine) claim.3 in
    let deeds = deeds_of g.D.Deed in
    let left = pair_in (held_leaves deeds c.in-Change.call (lent c.in-Some.way (entry_pair e))) in
    let leaves = at-some _ _ e there.has.there c.change_at-answer.ensures.leaves in
    let keeps = held-keeps deeds g.K.PartialEq.eq g.met.K.Eq.laws c.in-Change.call c.in-Some.way change (entry_pair e)
    equal in
    let puts = puts-left g.K.PartialEq.eq g.met.K.Eq.laws c.index_mut-shard.result.now c.change_at-answer.new.shard
    p.slot own.key there.distinct there.has left keeps leaves in
    let gone = gone-number left c.takes_pair-gone.result
    (c.takes_pair-gone.ensures ∙ held-gone deeds c.in-Change.call c.in-Some.way change (entry_pair e)) in
    let was = ap number_of there.pair in
    let change_ = pairs_put core.tables.items p.shard c.index_mut-shard.result.now c.change_at-answer.new.shard
    there.held in
    let weights = changed_weighs c.ends_guard-ends.result c.change_at-answer.result.0 c.enter.new.phase
    (c.enter.ensures ∙ c.changed_phase.ensures) in
    let more = length core.tables.items - (p.shard + 1) in
    let p' = record p { guard = c.change_at-answer.result.1; phase = c.enter.new.phase } in
    let plain = weights.3 in
    shifted _ _ c.args.step.thread p p' c.requires.room (record {
      here = here;
      places = refl;
      numbers = c.requires.numbers;
      steps = simp length-append at (ap length c.appended-core.ensures);
      count = refl;
      programs = refl;
      tables = length-set core.tables.items p.shard c.change_at-answer.new.shard;
      held = λ i h has. c.requires.room.held c.args.step.thread i (place_of p) h seen has;
      locks = same_size;
      unanswered = omega (arith, weights.0, ap owes before);
      answers = omega (arith, weights.0, ap owes before);
      replies = refl;
      listing = omega (arith, weights.1 more, ap (lists more) before, c.count_in.ensures.len);
      blocks = c.count_in.ensures.capacity;
      visits = plain-visits (place_of p) (place_of p') refl plain;
      capacity = refl;
      lists = let due = plain-lists (place_of p) (place_of p') refl plain in omega (arith, due);
      adding = omega (arith, weights.2, ap adds before, c.less_one-core.ensures);
      pairs = omega (arith, c.requires.room.pairs, change_, puts.counted, gone, was, c.less_one-core.ensures);
      more_blocks = omega (arith, c.count_in.ensures.len);
      listed = λ i e. let below = c.requires.room.listed c.args.step.thread (place_of p) i seen e in
          omega (arith, below, c.count_in.ensures.len);
    })
