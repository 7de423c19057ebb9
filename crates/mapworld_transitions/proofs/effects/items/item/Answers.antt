use Rattle.std.proofs.Common.{◌≡◌, ◌+◌, ◌-◌, ◌≤◌, length, map, Some, IsSome, is_none, slice_get, slice_set, sum_by}
use Rattle.std.proofs.Common.{vec_capacity, refl, sym, ap, ◌∙◌, subst, arith, length-append, length-set}
use Rattle.std.specs.Option.{unwrap_or}
use Rattle.std.proofs.lemmas.List.{map-set, length-map}
use Rattle.std.proofs.lemmas.Option.{slice_get_within}
use Rattle.dashmap_table.specs.Slots.{pair_of as entry_pair, pairs_of}
use Rattle.mapworld_calls.specs.Calls.{visit_leaves, visit_reads}
use Rattle.mapworld_calls.specs.Programs.{saturated}
use Rattle.mapworld_state.specs.Places.{place_of}
use Rattle.mapworld_state.specs.Shards.{shard_pairs, number_of}
use Rattle.mapworld_state.specs.Slots.{HasKeyAt}
use Rattle.mapworld_state.specs.World.{deeds_of}
use Rattle.mapworld_calls.specs.Programs.{stop_of}
use Rattle.mapworld_state.specs.Classes.{class_of, walks_in}
use Rattle.mapworld_state.specs.Moves.{stops_at}
use Rattle.mapworld_state.specs.Walks.{walk_mode, all_visited}
use Rattle.mapworld_state.specs.Core.{state_of, owes, lists, adds, blocks_of, ask_lists, phase_lists}
use Rattle.mapworld_state.proofs.Views.{view-at}
use Rattle.mapworld_state.proofs.LocksFacts.Sizes.{same_size}
use Rattle.mapworld_transitions.proofs.Rooms.{shifted}
use Rattle.mapworld_transitions.proofs.Facts.{kept-here, seen-here, stepped-by, read_at}
use Rattle.mapworld_transitions.proofs.Leaving.{at-some, gone-number}
use Rattle.mapworld_transitions.proofs.Slotted.{hashes-alike, hashes-left, rank, pairs-have, pair-at_key, puts-left}
use Rattle.mapworld_transitions.proofs.Slots.{calls-visited, slots-walked}
use Rattle.mapworld_transitions.proofs.Weights.{pairs_put, pairs_at}
use Rattle.mapworld_transitions.proofs.Visits.{left-one, item-done, reads-room, reads-one, visit-key, item-of}
use Rattle.mapworld_transitions.proofs.Visits.{shared-stays}
use Rattle.mapworld_transitions.proofs.Leading.{led, led-next, in-walk, goes-below, leads-same}
use Rattle.mapworld_transitions.proofs.Items.{next-here, ready, item-next, item-following}
use Rattle.mapworld_transitions.proofs.effects.items.item.Goals as goal

pub index-requires : goal.index-requires
index-requires g c =
    let core = c.args.core.now in
    let p = c.index_mut-place.result.now in
    let here = kept-here core.places.items c.requires.before.1 p c.index_mut-place.ensures.value in
    let before = sym c.replace.ensures.value ∙ c.in-Item.is in
    let n = next-here _ core c.args.step.thread p c.in-Item.walk c.requires.sound c.requires.slots here before in
    omega (arith, slice_get_within p.visits.items p.shard n.index n.own, p.visits.ok.0)

pub index_mut-block-requires : goal.index_mut-block-requires
index_mut-block-requires g c =
    let core = c.args.core.now in
    let p = c.index_mut-place.result.now in
    let here = kept-here core.places.items c.requires.before.1 p c.index_mut-place.ensures.value in
    let before = sym c.replace.ensures.value ∙ c.in-Item.is in
    let n = next-here _ core c.args.step.thread p c.in-Item.walk c.requires.sound c.requires.slots here before in
    let same = read_at p.visits.items p.shard n.index c.index.result.now n.own c.index.ensures in
    omega (arith, slice_get_within core.blocks.items n.index n.block n.listed, core.blocks.ok.0, same)

pub index_mut-shard-requires : goal.index_mut-shard-requires
index_mut-shard-requires g c =
    let core = c.args.core.now in
    let p = c.index_mut-place.result.now in
    let here = kept-here core.places.items c.requires.before.1 p c.index_mut-place.ensures.value in
    let before = sym c.replace.ensures.value ∙ c.in-Item.is in
    let n = next-here _ core c.args.step.thread p c.in-Item.walk c.requires.sound c.requires.slots here before in
    omega (arith, slice_get_within core.tables.items p.shard n.table n.held, core.tables.ok.0)

pub visit_pair-gone-requires-clause-full : goal.visit_pair-gone-requires-clause-full
visit_pair-gone-requires-clause-full g c =
    let core = c.args.core.now in
    let p = c.index_mut-place.result.now in
    let here = kept-here core.places.items c.requires.before.1 p c.index_mut-place.ensures.value in
    let before = sym c.replace.ensures.value ∙ c.in-Item.is in
    let is = ready _ core c.args.step.thread p c.in-Item.walk c.requires.sound c.requires.slots here before
    c.index.result.now c.index_mut-block.result.now c.index_mut-shard.result.now c.index.ensures
    c.index_mut-block.ensures.value c.index_mut-shard.ensures.value in
    subst (λ o. IsSome o) (sym is.there) refl

pub visit_pair-gone-requires-clause-room : goal.visit_pair-gone-requires-clause-room
visit_pair-gone-requires-clause-room g c reading =
    let core = c.args.core.now in
    let p = c.index_mut-place.result.now in
    let here = kept-here core.places.items c.requires.before.1 p c.index_mut-place.ensures.value in
    let before = sym c.replace.ensures.value ∙ c.in-Item.is in
    let is = ready _ core c.args.step.thread p c.in-Item.walk c.requires.sound c.requires.slots here before
    c.index.result.now c.index_mut-block.result.now c.index_mut-shard.result.now c.index.ensures
    c.index_mut-block.ensures.value c.index_mut-shard.ensures.value in
    let left = left-one c.index_mut-shard.result.now.slots p.slot is.entry is.there in
    reads-room c.in-Item.walk p.reads p.count _ is.fits (omega (arith, left)) is.goes_on reading

pub overflow_add-place : goal.overflow_add-place
overflow_add-place g c =
    let core = c.args.core.now in
    let p = c.index_mut-place.result.now in
    let here = kept-here core.places.items c.requires.before.1 p c.index_mut-place.ensures.value in
    let before = sym c.replace.ensures.value ∙ c.in-Item.is in
    let is = ready _ core c.args.step.thread p c.in-Item.walk c.requires.sound c.requires.slots here before
    c.index.result.now c.index_mut-block.result.now c.index_mut-shard.result.now c.index.ensures
    c.index_mut-block.ensures.value c.index_mut-shard.ensures.value in
    record { fits = omega (arith, is.numbered) }

pub lead_on-requires-clause-shard : goal.lead_on-requires-clause-shard
lead_on-requires-clause-shard g c =
    let core = c.args.core.now in
    let p = c.index_mut-place.result.now in
    let here = kept-here core.places.items c.requires.before.1 p c.index_mut-place.ensures.value in
    let before = sym c.replace.ensures.value ∙ c.in-Item.is in
    let n = next-here _ core c.args.step.thread p c.in-Item.walk c.requires.sound c.requires.slots here before in
    let amount = c.requires.room.shards.2 in
    omega (arith, slice_get_within core.tables.items p.shard n.table n.held, amount)

pub lead_on-requires-clause-lists : goal.lead_on-requires-clause-lists
lead_on-requires-clause-lists g c =
    let core = c.args.core.now in
    let p = c.index_mut-place.result.now in
    let here = kept-here core.places.items c.requires.before.1 p c.index_mut-place.ensures.value in
    let before = sym c.replace.ensures.value ∙ c.in-Item.is in
    let due = c.requires.room.lists c.args.step.thread p here in
    omega (arith, due, ap phase_lists before)

pub less_one-core-requires : goal.less_one-core-requires
less_one-core-requires g c =
    let core = c.args.core.now in
    let p = c.index_mut-place.result.now in
    let here = kept-here core.places.items c.requires.before.1 p c.index_mut-place.ensures.value in
    let before = sym c.replace.ensures.value ∙ c.in-Item.is in
    let is = ready _ core c.args.step.thread p c.in-Item.walk c.requires.sound c.requires.slots here before
    c.index.result.now c.index_mut-block.result.now c.index_mut-shard.result.now c.index.ensures
    c.index_mut-block.ensures.value c.index_mut-shard.ensures.value in
    let e = is.entry in
    let o = visit_leaves (deeds_of g.D.Deed) c.in-Item.walk (Some (entry_pair e)) in
    let gone = gone-number o c.visit_pair-gone.result (at-some _ _ e is.there c.visit_pair-gone.ensures.gone) in
    let all = pairs_at (state_of core).tables p.shard (shard_pairs c.index_mut-shard.result.now)
    (view-at shard_pairs core.tables.items p.shard c.index_mut-shard.result.now is.held) in
    let some = slice_get_within (pairs_of c.index_mut-shard.result.now.slots)
    (rank c.index_mut-shard.result.now.slots p.slot) (entry_pair e)
    (pairs-have c.index_mut-shard.result.now.slots p.slot e is.there) in
    omega (arith, gone, all, some, c.requires.room.pairs)

pub returns-clause-step : goal.returns-clause-step
returns-clause-step g c =
    let core = c.args.core.now in
    let p = c.index_mut-place.result.now in
    let here = kept-here core.places.items c.requires.before.1 p c.index_mut-place.ensures.value in
    let before = sym c.replace.ensures.value ∙ c.in-Item.is in
    let is = ready _ core c.args.step.thread p c.in-Item.walk c.requires.sound c.requires.slots here before
    c.index.result.now c.index_mut-block.result.now c.index_mut-shard.result.now c.index.ensures
    c.index_mut-block.ensures.value c.index_mut-shard.ensures.value in
    let deeds = deeds_of g.D.Deed in
    let f = c.in-Item.walk in
    let e = is.entry in
    let r = c.index_mut-shard.result.now in
    let new = c.visit_pair-gone.new.shard in
    let o = visit_leaves deeds f (Some (entry_pair e)) in
    let leaves = at-some _ _ e is.there c.visit_pair-gone.ensures.leaves in
    let noted = at-some _ _ e is.there c.visit_pair-gone.ensures.noted in
    let read = at-some _ _ e is.there c.visit_pair-gone.ensures.read in
    let p' = c.lead_on.new.place in
    let seen = seen-here core.places.items c.requires.before.1 p c.index_mut-place.ensures.value in
    let after = c.lead_on.ensures.after in
    let done = item-done g.K.PartialEq.eq g.met.K.Eq.laws r new p.slot e is.there is.distinct o
    (visit-key deeds f (entry_pair e)) leaves c.index_mut-block.result.now.visited.items is.done is.left
    c.next_from-next.result c.next_from-next.ensures in
    let all : is_none c.next_from-next.result ≡ all_visited g.K.PartialEq.eq c.visit_pair-gone.new.block.visited.items
    (shard_pairs new).items =
    sym done ∙ ap (λ ks. all_visited g.K.PartialEq.eq ks (shard_pairs new).items) (sym noted.visited) in
    let shards : c.len-shards.result ≡ length (map shard_pairs core.tables.items) =
    omega (arith, c.len-shards.ensures, core.tables.ok.0, length-map core.tables.items shard_pairs) in
    record {
      place = place_of p;
      stands = seen;
      walk = f;
      before = before;
      table = shard_pairs r;
      held = view-at shard_pairs core.tables.items p.shard r is.held;
      index = c.index.result.now;
      own = is.own;
      block = c.index_mut-block.result.now;
      listed = is.listed;
      pair = entry_pair e;
      found = pair-at_key g.K.PartialEq.eq g.met.K.Eq.laws r p.slot e.key is.distinct
          (record { entry = e; there = is.there; equal = g.met.K.Eq.laws.refl e.key });
      fresh = is.left p.slot e (omega arith) is.there;
      changed = shard_pairs new;
      item = item-of deeds g.K.PartialEq.eq g.met.K.Eq.laws r new p.slot e is.there is.distinct f leaves;
      grown = c.visit_pair-gone.new.block;
      visited = noted;
      next = p'.phase;
      reads = p'.reads.items;
      leads = leads-same f p.shard c.len-shards.result (length (map shard_pairs core.tables.items)) _ _ _ _ _ _ p'.phase
          p'.reads.items shards all read c.saturating_add-place.ensures c.lead_on.ensures.leads;
      after = stepped-by core c.args.step p'
          (record (place_of p) { reads = p'.reads.items; count = saturated (p.count + 1); phase = p'.phase })
          c.appended-core.result.items (slice_set core.tables.items p.shard new)
          (slice_set (state_of core).tables p.shard (shard_pairs new)) core.locks
          (slice_set core.blocks.items c.index.result.now c.visit_pair-gone.new.block) core.replies.items
          c.appended-core.ensures
          (ap place_of after ∙ ap (λ n. record (place_of p) { reads = p'.reads.items; count = n; phase = p'.phase })
          c.saturating_add-place.ensures) (map-set shard_pairs core.tables.items p.shard new);
    }

pub returns-clause-slots : goal.returns-clause-slots
returns-clause-slots g c =
    let core = c.args.core.now in
    let p = c.index_mut-place.result.now in
    let here = kept-here core.places.items c.requires.before.1 p c.index_mut-place.ensures.value in
    let before = sym c.replace.ensures.value ∙ c.in-Item.is in
    let is = ready _ core c.args.step.thread p c.in-Item.walk c.requires.sound c.requires.slots here before
    c.index.result.now c.index_mut-block.result.now c.index_mut-shard.result.now c.index.ensures
    c.index_mut-block.ensures.value c.index_mut-shard.ensures.value in
    let deeds = deeds_of g.D.Deed in
    let f = c.in-Item.walk in
    let e = is.entry in
    let r = c.index_mut-shard.result.now in
    let new = c.visit_pair-gone.new.shard in
    let o = visit_leaves deeds f (Some (entry_pair e)) in
    let leaves = at-some _ _ e is.there c.visit_pair-gone.ensures.leaves in
    let noted = at-some _ _ e is.there c.visit_pair-gone.ensures.noted in
    let read = at-some _ _ e is.there c.visit_pair-gone.ensures.read in
    let p' = c.lead_on.new.place in
    let after = c.lead_on.ensures.after in
    let keys : (z : _) → o ≡ Some z → z.0 ≡ e.key = visit-key deeds f (entry_pair e) in
    let alike = hashes-alike g.S.BuildHasher g.S.Hasher.Hasher g.K.Hash.hash_input core.hasher g.K.PartialEq.eq
    g.met.K.Hash.respects_eq in
    let fresh = hashes-left g.K.PartialEq.eq g.met.K.Eq.laws r new p.slot e.key is.distinct
    (record { entry = e; there = is.there; equal = g.met.K.Eq.laws.refl e.key }) _ alike o
    (λ z at. ap (g.K.PartialEq.eq e.key) (keys z at) ∙ g.met.K.Eq.laws.refl e.key) leaves
    (c.requires.slots.hashed p.shard r is.held) in
    let blocks = slice_set core.blocks.items c.index.result.now c.visit_pair-gone.new.block in
    let tables = slice_set core.tables.items p.shard new in
    let leads = led f _ _ _ _ p'.phase p'.reads.items c.lead_on.ensures.leads in
    let longer : length c.visit_pair-gone.new.reads.items ≤ length p.reads.items + 1 =
    let more = length-append p.reads.items (visit_reads deeds f (Some (entry_pair e))) in let one =
    reads-one deeds f (entry_pair e) in let all = ap length read in omega (arith, more, one, all) in
    let visit = led-next g.K.PartialEq.eq tables blocks p' f _ _ _ _ p'.phase p'.reads.items c.lead_on.ensures.leads
    (λ goes rest.
    item-following _ new.slots (p.slot + 1) c.next_from-next.result c.next_from-next.ensures rest (λ j at next.
    let reads = c.lead_on.ensures.kept goes in
    item-next _ core c.args.step.thread p f g.met.K.Eq.laws c.index.result.now c.index_mut-block.result.now r is new o
    keys leaves c.visit_pair-gone.new.block noted p' j next
    (ap (λ z. z.visits) after) (ap (λ z. z.shard) after) (ap (λ z. z.slot) after ∙ ap (λ n. unwrap_or n p.slot) at)
    (ap (λ z. z.count) after ∙ c.saturating_add-place.ensures)
    (subst (λ v. length v.items ≤ length p.reads.items + 1) (sym reads) longer)
    (ap vec_capacity reads ∙ c.visit_pair-gone.ensures.capacity)
    c.lead_on.ensures.number
    (ap (λ n. stops_at (stop_of f) n) (ap (λ z. z.count) after) ∙ goes-below c.len-shards.result f p.shard _ _
    goes))) in
    let kept = slots-walked _ _ core c.requires.sound c.requires.slots c.args.step.thread p p' here blocks
    (calls-visited c.args.step.thread core.blocks.items blocks c.index.result.now c.index_mut-block.result.now
    c.visit_pair-gone.new.block e.key is.listed is.thread noted refl)
    (walk_mode f) is.holds r new is.held
    (λ shares. shared-stays deeds g.K.PartialEq.eq g.met.K.Eq.laws r new p.slot e is.there is.distinct f shares
    leaves) fresh (ap (λ z. z.guard) after ∙ is.guard) leads.key visit in
    record { hashed = kept.hashed; found = kept.found; next = kept.next }

pub returns-clause-room : goal.returns-clause-room
returns-clause-room g c =
    let core = c.args.core.now in
    let p = c.index_mut-place.result.now in
    let here = kept-here core.places.items c.requires.before.1 p c.index_mut-place.ensures.value in
    let before = sym c.replace.ensures.value ∙ c.in-Item.is in
    let is = ready _ core c.args.step.thread p c.in-Item.walk c.requires.sound c.requires.slots here before
    c.index.result.now c.index_mut-block.result.now c.index_mut-shard.result.now c.index.ensures
    c.index_mut-block.ensures.value c.index_mut-shard.ensures.value in
    let deeds = deeds_of g.D.Deed in
    let f = c.in-Item.walk in
    let e = is.entry in
    let r = c.index_mut-shard.result.now in
    let new = c.visit_pair-gone.new.shard in
    let o = visit_leaves deeds f (Some (entry_pair e)) in
    let leaves = at-some _ _ e is.there c.visit_pair-gone.ensures.leaves in
    let noted = at-some _ _ e is.there c.visit_pair-gone.ensures.noted in
    let read = at-some _ _ e is.there c.visit_pair-gone.ensures.read in
    let p' = c.lead_on.new.place in
    let seen = seen-here core.places.items c.requires.before.1 p c.index_mut-place.ensures.value in
    let after = c.lead_on.ensures.after in
    let leads = led f _ _ _ _ p'.phase p'.reads.items c.lead_on.ensures.leads in
    let keys : (z : _) → o ≡ Some z → z.0 ≡ e.key = visit-key deeds f (entry_pair e) in
    let has : HasKeyAt g.K.PartialEq.eq r p.slot e.key =
    record { entry = e; there = is.there; equal = g.met.K.Eq.laws.refl e.key } in
    let puts = puts-left g.K.PartialEq.eq g.met.K.Eq.laws r new p.slot e.key is.distinct has o
    (λ z at. ap (g.K.PartialEq.eq e.key) (keys z at) ∙ g.met.K.Eq.laws.refl e.key) leaves in
    let was = ap number_of (pair-at_key g.K.PartialEq.eq g.met.K.Eq.laws r p.slot e.key is.distinct has) in
    let gone = gone-number o c.visit_pair-gone.result (at-some _ _ e is.there c.visit_pair-gone.ensures.gone) in
    let change = pairs_put core.tables.items p.shard r new is.held in
    let more = length core.tables.items - (p.shard + 1) in
    let asks = ap (λ z. z.asks.items) after in
    let shard = ap (λ z. z.shard) after in
    let listing = leads.listing (length core.tables.items - (p'.shard + 1)) in
    let blocks = length-set core.blocks.items c.index.result.now c.visit_pair-gone.new.block in
    shifted _ _ c.args.step.thread p p' c.requires.room (record {
      here = here;
      places = refl;
      numbers = c.requires.numbers;
      steps = simp length-append at (ap length c.appended-core.ensures);
      count = refl;
      programs = refl;
      tables = length-set core.tables.items p.shard new;
      held = λ i h has_. c.requires.room.held c.args.step.thread i (place_of p) h seen
          (ap (λ z. slice_get z.holds.items i) (sym after) ∙ has_);
      locks = same_size;
      unanswered = omega (arith, leads.owing, ap owes before, ap length asks);
      answers = omega (arith, leads.owing, ap owes before, ap length asks);
      replies = refl;
      listing = omega (
        arith,
        listing,
        shard,
        ap (lists more) before,
        ap (λ z. sum_by (blocks_of (length core.tables.items)) z) asks,
        blocks,
      );
      blocks = refl;
      visits = λ h. in-walk (place_of p) (ap (λ z. walks_in (class_of z)) before);
      capacity = ap (λ z. vec_capacity z.visits) after;
      lists = omega (arith, c.lead_on.ensures.lists, ap phase_lists before, ap (λ z. sum_by ask_lists z) asks);
      adding = omega (arith, leads.adding, ap adds before, ap length asks, c.less_one-core.ensures);
      pairs = omega (arith, c.requires.room.pairs, change, puts.counted, gone, was, c.less_one-core.ensures);
      more_blocks = omega (arith, blocks);
      listed = λ i at. let below = c.requires.room.listed c.args.step.thread (place_of p) i seen
          (ap (λ z. z.block) (sym after) ∙ at) in omega (arith, below, blocks);
    })
