use Rattle.std.proofs.Common.{◌≡◌, ◌+◌, ◌-◌, ◌<◌, ◌++◌, ◌∷◌, [], if◌then◌else◌, inl, inr, length, map}
use Rattle.std.proofs.Common.{flat_map, Some, is_none, slice_get, slice_set, sum_by, vec_capacity, refl, sym, ap}
use Rattle.std.proofs.Common.{ap₂, ◌∙◌, subst, arith, length-append, length-set}
use Rattle.std.specs.Option.{unwrap_or}
use Rattle.std.proofs.lemmas.List.{map-set, length-map}
use Rattle.std.proofs.lemmas.Option.{slice_get_read}
use Rattle.dashmap_table.specs.Slots.{count, pairs_of}
use Rattle.dashmap_table.specs.Table.{Table}
use Rattle.mapworld_calls.specs.Programs.{saturated, stop_of}
use Rattle.mapworld_calls.proofs.Lists.{slice_get-set_same}
use Rattle.mapworld_calls.specs.declared.reply.Answer.TheVariants as answer
use Rattle.mapworld_state.specs.declared.place.Phase.TheVariants as phase
use Rattle.mapworld_state.specs.Places.{place_of}
use Rattle.mapworld_state.specs.Classes.{class_of, walks_in}
use Rattle.mapworld_state.specs.Moves.{stops_at}
use Rattle.mapworld_state.specs.Shards.{ShardPairs, shard_pairs}
use Rattle.mapworld_state.specs.Slots.{phase_key, IsAt, FitsReads, IsNextSlot, SlotIsNext}
use Rattle.mapworld_state.specs.Walks.{walk_mode, all_visited, looked_keys}
use Rattle.mapworld_state.specs.Core.{state_of, owes, lists, adds, blocks_of, ask_lists, phase_lists}
use Rattle.mapworld_state.proofs.Views.{view-at}
use Rattle.mapworld_state.proofs.LocksFacts.Sizes.{same_size}
use Rattle.mapworld_transitions.specs.declared.blocks.Started.{Started}
use Rattle.mapworld_transitions.proofs.Rooms.{shifted, block_left}
use Rattle.mapworld_transitions.proofs.Leading.{led, led-next, in-walk, goes-below, leads-same}
use Rattle.mapworld_transitions.proofs.Facts.{claim_at, walks_at, stepped-by}
use Rattle.mapworld_transitions.proofs.Items.{item-following}
use Rattle.mapworld_transitions.proofs.Slots.{calls-same, calls-visit, slots-same_free, slots-walked}
use Rattle.mapworld_transitions.proofs.Slotted.{hashes-alike}
use Rattle.mapworld_transitions.proofs.Visits.{looked-done}
use Rattle.mapworld_transitions.proofs.Walking.{walking, plain-visits, plain-lists, next-free}
use Rattle.mapworld_transitions.proofs.Weights.{visit_added, pairs_kept}
use Rattle.mapworld_steps.proofs.Kept.{kept_here, stands_here, phase_here}
use Rattle.mapworld_steps.proofs.PutBack.{put_back}
use Rattle.mapworld_steps.proofs.Reaching.{looked-many, first-next, gives-some}
use Rattle.mapworld_steps.proofs.walks.look.Goals as goal

pub unreachable-requires : goal.unreachable-requires
unreachable-requires g c =
    let core = c.args.core.now in
    let t = c.args.step.thread in
    let b = c.requires.before.1 in
    let r = c.index_mut-place.result.now in
    let p = place_of r in
    let here = stands_here core.places.items b r c.index_mut-place.ensures.value in
    let kept = kept_here core.places.items b r c.index_mut-place.ensures.value in
    let before = phase_here core.places.items b r c.index_mut-place.ensures.value in
    let claim = claim_at c.requires.sound t p here before in
    c.in_default.not-Some claim.0.start claim.0.started

pub unreachable-requires-in_default-replace : goal.unreachable-requires-in_default-replace
unreachable-requires-in_default-replace g c =
    let core = c.args.core.now in
    let t = c.args.step.thread in
    let b = c.requires.before.1 in
    let r = c.index_mut-place.result.now in
    let p = place_of r in
    let here = stands_here core.places.items b r c.index_mut-place.ensures.value in
    let kept = kept_here core.places.items b r c.index_mut-place.ensures.value in
    let before = phase_here core.places.items b r c.index_mut-place.ensures.value in
    c.in_default-replace.not-Visit c.requires.before.0 (c.replace.ensures.value ∙ before)

pub index_mut-shard-requires : goal.index_mut-shard-requires
index_mut-shard-requires g c =
    let core = c.args.core.now in
    let t = c.args.step.thread in
    let b = c.requires.before.1 in
    let r = c.index_mut-place.result.now in
    let p = place_of r in
    let here = stands_here core.places.items b r c.index_mut-place.ensures.value in
    let kept = kept_here core.places.items b r c.index_mut-place.ensures.value in
    let before = sym c.replace.ensures.value ∙ c.in-Visit.is in
    let claim = claim_at c.requires.sound t p here before in
    let between = walks_at c.requires.sound t p here before in
    let shards = length-map core.tables.items shard_pairs in
    let within : p.shard < length core.tables.items = subst (λ n. p.shard < n) shards between.left in
    omega (arith, within, core.tables.ok.0)

pub make_ready-requires : goal.make_ready-requires
make_ready-requires g c =
    let core = c.args.core.now in
    let t = c.args.step.thread in
    let b = c.requires.before.1 in
    let r = c.index_mut-place.result.now in
    let p = place_of r in
    let here = stands_here core.places.items b r c.index_mut-place.ensures.value in
    let kept = kept_here core.places.items b r c.index_mut-place.ensures.value in
    let before = sym c.replace.ensures.value ∙ c.in-Visit.is in
    let claim = claim_at c.requires.sound t p here before in
    let between = walks_at c.requires.sound t p here before in
    let shards = length-map core.tables.items shard_pairs in
    let within : p.shard < length core.tables.items = subst (λ n. p.shard < n) shards between.left in
    let old = c.index_mut-shard.result.now in
    let held : slice_get core.tables.items p.shard ≡ Some old = slice_get_read core.tables.items
    (length core.tables.items) p.shard old refl within c.index_mut-shard.ensures.value in
    record {
      hashed = (
        _,
        hashes-alike g.S.BuildHasher g.S.Hasher.Hasher g.K.Hash.hash_input core.hasher
            g.K.PartialEq.eq g.met.K.Hash.respects_eq,
        c.requires.slots.hashed p.shard old held,
      );
    }

pub list_visit-requires : goal.list_visit-requires
list_visit-requires g c =
    let core = c.args.core.now in
    let t = c.args.step.thread in
    let b = c.requires.before.1 in
    let r = c.index_mut-place.result.now in
    let p = place_of r in
    let here = stands_here core.places.items b r c.index_mut-place.ensures.value in
    let kept = kept_here core.places.items b r c.index_mut-place.ensures.value in
    let before = sym c.replace.ensures.value ∙ c.in-Visit.is in
    let more = length core.tables.items - (p.shard + 1) in
    block_left core t p c.requires.room here (omega (arith, ap (lists more) before))

pub push_reserved-requires : goal.push_reserved-requires
push_reserved-requires g c =
    let core = c.args.core.now in
    let t = c.args.step.thread in
    let b = c.requires.before.1 in
    let r = c.index_mut-place.result.now in
    let p = place_of r in
    let here = stands_here core.places.items b r c.index_mut-place.ensures.value in
    let kept = kept_here core.places.items b r c.index_mut-place.ensures.value in
    let before = sym c.replace.ensures.value ∙ c.in-Visit.is in
    let claim = claim_at c.requires.sound t p here before in
    let between = walks_at c.requires.sound t p here before in
    let shards = length-map core.tables.items shard_pairs in
    let within : p.shard < length core.tables.items = subst (λ n. p.shard < n) shards between.left in
    let fits = c.requires.room.visits t r kept (in-walk p (ap (λ z. walks_in (class_of z)) before)) in
    let many : length r.visits.items ≡ p.shard = sym (ap length between.so_far.named)
    ∙ (length-map between.so_far.visits _ ∙ between.number) in
    omega (arith, within, fits, many, r.visits.ok.0)

pub lead_on-requires-clause-shard : goal.lead_on-requires-clause-shard
lead_on-requires-clause-shard g c =
    let core = c.args.core.now in
    let t = c.args.step.thread in
    let b = c.requires.before.1 in
    let r = c.index_mut-place.result.now in
    let p = place_of r in
    let here = stands_here core.places.items b r c.index_mut-place.ensures.value in
    let kept = kept_here core.places.items b r c.index_mut-place.ensures.value in
    let before = sym c.replace.ensures.value ∙ c.in-Visit.is in
    let claim = claim_at c.requires.sound t p here before in
    let between = walks_at c.requires.sound t p here before in
    let shards = length-map core.tables.items shard_pairs in
    let within : p.shard < length core.tables.items = subst (λ n. p.shard < n) shards between.left in
    let amount = c.requires.room.shards.2 in
    omega (arith, within, amount)

pub lead_on-requires-clause-lists : goal.lead_on-requires-clause-lists
lead_on-requires-clause-lists g c =
    let core = c.args.core.now in
    let t = c.args.step.thread in
    let b = c.requires.before.1 in
    let r = c.index_mut-place.result.now in
    let p = place_of r in
    let here = stands_here core.places.items b r c.index_mut-place.ensures.value in
    let kept = kept_here core.places.items b r c.index_mut-place.ensures.value in
    let before = sym c.replace.ensures.value ∙ c.in-Visit.is in
    let due = c.requires.room.lists t r kept in
    omega (arith, due, ap phase_lists before)

pub returns-clause-step : goal.returns-clause-step
returns-clause-step g c =
    let core = c.args.core.now in
    let t = c.args.step.thread in
    let b = c.requires.before.1 in
    let r = c.index_mut-place.result.now in
    let p = place_of r in
    let here = stands_here core.places.items b r c.index_mut-place.ensures.value in
    let kept = kept_here core.places.items b r c.index_mut-place.ensures.value in
    let before = sym c.replace.ensures.value ∙ c.in-Visit.is in
    let claim = claim_at c.requires.sound t p here before in
    let between = walks_at c.requires.sound t p here before in
    let shards = length-map core.tables.items shard_pairs in
    let within : p.shard < length core.tables.items = subst (λ n. p.shard < n) shards between.left in
    let old = c.index_mut-shard.result.now in
    let held : slice_get core.tables.items p.shard ≡ Some old = slice_get_read core.tables.items
    (length core.tables.items) p.shard old refl within c.index_mut-shard.ensures.value in
    let f = c.in-Visit.walk in
    let new = c.make_ready.new.shard in
    let p' = c.lead_on.new.place in
    let after = c.lead_on.ensures.after in
    let listed = c.list_visit.ensures.listed in
    let block = listed.0 in
    let next = c.first_slot-next.result in
    let done = looked-done g.K.PartialEq.eq g.met.K.Eq.laws f new.slots next c.first_slot-next.ensures.none
    c.first_slot-next.ensures.first (pairs_of old.slots)
    (λ items. ap (λ (z : Table _ _). pairs_of z.slots) (sym (c.make_ready.ensures.same items))) in
    let many : c.len-shards.result ≡ length (map shard_pairs core.tables.items) =
    omega (arith, c.len-shards.ensures, core.tables.ok.0, shards) in
    let index : c.len-index.result ≡ length core.blocks.items = omega (arith, c.len-index.ensures, core.blocks.ok.0) in
    inl (record {
      place = p;
      stands = here;
      walk = f;
      before = before;
      out = c.requires.out;
      table = shard_pairs old;
      held = view-at shard_pairs core.tables.items p.shard old held;
      behind = shard_pairs new;
      looked = c.in-Ok.ensures.looked;
      enough = c.looked_count.ensures.enough;
      count = c.saturating_add-count.result;
      counted = c.saturating_add-count.ensures ∙ ap (λ n. saturated (p.count + n)) c.looked_count.ensures.count;
      block = block;
      listed = record {
        thread = listed.1.thread;
        call = listed.1.call;
        visit = listed.1.visit;
        start = c.in-Some.is ∙ ap Some (sym listed.1.start);
        position = listed.1.position_is ∙ ap (λ n. n + 1) c.requires.room.count;
        end = listed.1.end;
        done = listed.1.done;
        visited = listed.1.visited ∙ c.looked_keys-keys.ensures;
      };
      next = p'.phase;
      reads = p'.reads.items;
      leads = leads-same f p.shard c.len-shards.result (length (map shard_pairs core.tables.items)) (is_none next)
          (all_visited g.K.PartialEq.eq (looked_keys f (pairs_of old.slots)) (pairs_of old.slots))
          c.make_ready.new.reads.items r.reads.items
          c.saturating_add-count.result c.saturating_add-count.result p'.phase p'.reads.items many (sym done)
          c.make_ready.ensures.kept refl c.lead_on.ensures.leads;
      after = rw listed.2
          (stepped-by core c.args.step p'
          (record p {
            visits = p.visits ++ length core.blocks.items ∷ [];
            reads = p'.reads.items;
            count = c.saturating_add-count.result;
            phase = p'.phase;
          }) c.appended-core.result.items
          (slice_set core.tables.items p.shard new) (slice_set (state_of core).tables p.shard (shard_pairs new))
          core.locks
          (core.blocks.items ++ block ∷ []) core.replies.items c.appended-core.ensures
          (ap place_of after
          ∙ ap (λ vs. record p {
            visits = vs;
            reads = p'.reads.items;
            count = c.saturating_add-count.result;
            phase = p'.phase;
          }) (c.push_reserved.ensures.items ∙ ap (λ n. p.visits ++ n ∷ []) index))
          (map-set shard_pairs core.tables.items p.shard new));
    })

pub returns-clause-room : goal.returns-clause-room
returns-clause-room g c =
    let core = c.args.core.now in
    let t = c.args.step.thread in
    let b = c.requires.before.1 in
    let r = c.index_mut-place.result.now in
    let p = place_of r in
    let here = stands_here core.places.items b r c.index_mut-place.ensures.value in
    let kept = kept_here core.places.items b r c.index_mut-place.ensures.value in
    let before = sym c.replace.ensures.value ∙ c.in-Visit.is in
    let claim = claim_at c.requires.sound t p here before in
    let between = walks_at c.requires.sound t p here before in
    let shards = length-map core.tables.items shard_pairs in
    let within : p.shard < length core.tables.items = subst (λ n. p.shard < n) shards between.left in
    let old = c.index_mut-shard.result.now in
    let held : slice_get core.tables.items p.shard ≡ Some old = slice_get_read core.tables.items
    (length core.tables.items) p.shard old refl within c.index_mut-shard.ensures.value in
    let f = c.in-Visit.walk in
    let new = c.make_ready.new.shard in
    let p' = c.lead_on.new.place in
    let after = c.lead_on.ensures.after in
    let listed = c.list_visit.ensures.listed in
    let block = listed.0 in
    let next = c.first_slot-next.result in
    let st : Started = record { thread = t; call = p.next; start = c.in-Some.start } in
    let leads = led f _ _ _ _ p'.phase p'.reads.items c.lead_on.ensures.leads in
    let more = length core.tables.items - (p.shard + 1) in
    let asks = ap (λ z. z.asks.items) after in
    let shard = ap (λ z. z.shard) after in
    let listing = leads.listing (length core.tables.items - (p'.shard + 1)) in
    let added = visit_added core.blocks.items p.shard c.looked_keys-keys.result.items st (core.count + 1)
    c.list_visit.new.blocks.items listed in
    let many = pairs_kept (state_of core).tables p.shard (shard_pairs old) (shard_pairs new)
    (view-at shard_pairs core.tables.items p.shard old held)
    (looked-many g.K.PartialEq.eq f (shard_pairs old) (shard_pairs new) c.in-Ok.ensures.looked) in
    let seen = map-set shard_pairs core.tables.items p.shard new in
    shifted _ _ t r p' c.requires.room (record {
      here = kept;
      places = refl;
      numbers = c.requires.numbers;
      steps = simp length-append at (ap length c.appended-core.ensures);
      count = refl;
      programs = refl;
      tables = length-set core.tables.items p.shard new;
      held = λ i h has. c.requires.room.held t i p h here (ap (λ z. slice_get z.holds.items i) (sym after) ∙ has);
      locks = same_size;
      unanswered = omega (arith, leads.owing, ap owes before, ap length asks);
      answers = omega (arith, leads.owing, ap owes before, ap length asks);
      replies = refl;
      listing = omega (
        arith,
        listing,
        shard,
        ap (lists more) before,
        ap (λ z. sum_by (blocks_of (length core.tables.items)) z) asks,
        added,
      );
      blocks = c.list_visit.ensures.capacity;
      visits = λ h. in-walk p (ap (λ z. walks_in (class_of z)) before);
      capacity = ap (λ z. vec_capacity z.visits) after ∙ c.push_reserved.ensures.capacity;
      lists = omega (arith, c.lead_on.ensures.lists, ap phase_lists before, ap (λ z. sum_by ask_lists z) asks);
      adding = omega (arith, leads.adding, ap adds before, ap length asks);
      pairs = c.requires.room.pairs
          ∙ (sym many ∙ sym (ap (λ ts. length (flat_map (λ (s : ShardPairs _ _). s.items) ts)) seen));
      more_blocks = omega (arith, added);
      listed = λ i at. let below = c.requires.room.listed t p i here (ap (λ z. z.block) (sym after) ∙ at) in
          omega (arith, below, added);
    })

pub returns-clause-slots : goal.returns-clause-slots
returns-clause-slots g c =
    let core = c.args.core.now in
    let t = c.args.step.thread in
    let b = c.requires.before.1 in
    let r = c.index_mut-place.result.now in
    let p = place_of r in
    let here = stands_here core.places.items b r c.index_mut-place.ensures.value in
    let kept = kept_here core.places.items b r c.index_mut-place.ensures.value in
    let before = sym c.replace.ensures.value ∙ c.in-Visit.is in
    let claim = claim_at c.requires.sound t p here before in
    let between = walks_at c.requires.sound t p here before in
    let shards = length-map core.tables.items shard_pairs in
    let within : p.shard < length core.tables.items = subst (λ n. p.shard < n) shards between.left in
    let old = c.index_mut-shard.result.now in
    let held : slice_get core.tables.items p.shard ≡ Some old = slice_get_read core.tables.items
    (length core.tables.items) p.shard old refl within c.index_mut-shard.ensures.value in
    let f = c.in-Visit.walk in
    let new = c.make_ready.new.shard in
    let p' = c.lead_on.new.place in
    let after = c.lead_on.ensures.after in
    let listed = c.list_visit.ensures.listed in
    let block = listed.0 in
    let next = c.first_slot-next.result in
    let st : Started = record { thread = t; call = p.next; start = c.in-Some.start } in
    let leads = led f _ _ _ _ p'.phase p'.reads.items c.lead_on.ensures.leads in
    let bs = c.list_visit.new.blocks.items in
    let tables = slice_set core.tables.items p.shard new in
    let index : c.len-index.result ≡ length core.blocks.items = omega (arith, c.len-index.ensures, core.blocks.ok.0) in
    let many : length r.visits.items ≡ p.shard = sym (ap length between.so_far.named)
    ∙ (length-map between.so_far.visits _ ∙ between.number) in
    let shard = ap (λ z. z.shard) after in
    let visit = led-next g.K.PartialEq.eq tables bs p' f _ _ _ _ p'.phase p'.reads.items c.lead_on.ensures.leads
    (λ goes rest.
    let items = gives-some f next c.first_slot-next.ensures.none rest in
    item-following _ new.slots 0 next (c.first_slot-next.ensures.first items) rest (λ j at full.
    let reads = c.lead_on.ensures.kept goes in
    subst (λ zs. IsNextSlot g.K.PartialEq.eq tables zs p' f) (sym listed.2)
    (first-next g.K.PartialEq.eq tables core.blocks.items block r.visits.items p' f new j full
    (ap (λ z. z.visits.items) after ∙ (c.push_reserved.ensures.items ∙ ap (λ n. r.visits.items ++ n ∷ []) index))
    (many ∙ sym shard)
    (listed.1.visited ∙
    (c.looked_keys-keys.ensures ∙ ap (λ k. if k then [] else map (λ q. q.0) (pairs_of old.slots)) items))
    (ap (slice_get tables) shard ∙ slice_get-set_same core.tables.items p.shard old new held)
    (ap (λ z. z.slot) after ∙ ap (λ n. unwrap_or n r.slot) at)
    (ap (λ n. stops_at (stop_of f) n) (ap (λ z. z.count) after) ∙ goes-below c.len-shards.result f p.shard _ _ goes)
    (subst (λ n. FitsReads f p'.reads n (count new.slots)) (sym (ap (λ z. z.count) after))
    (subst (λ v. FitsReads f v c.saturating_add-count.result (count new.slots)) (sym reads)
    c.in-Ok.ensures.fits))))) in
    let s = slots-walked _ _ core c.requires.sound c.requires.slots t r p' kept bs
    (calls-visit t core.blocks.items bs p.shard c.looked_keys-keys.result.items st (core.count + 1) listed)
    (walk_mode f) claim.2 old new held c.make_ready.ensures.alone
    (c.make_ready.ensures.hashed _ (c.requires.slots.hashed p.shard old held)) (ap (λ z. z.guard) after ∙ claim.1.1)
    leads.key visit in
    record { hashed = s.hashed; found = s.found; next = s.next }

pub returns-in_default-make_ready-clause-step : goal.returns-in_default-make_ready-clause-step
returns-in_default-make_ready-clause-step g c =
    let core = c.args.core.now in
    let t = c.args.step.thread in
    let b = c.requires.before.1 in
    let r = c.index_mut-place.result.now in
    let p = place_of r in
    let here = stands_here core.places.items b r c.index_mut-place.ensures.value in
    let kept = kept_here core.places.items b r c.index_mut-place.ensures.value in
    let before = sym c.replace.ensures.value ∙ c.in-Visit.is in
    let claim = claim_at c.requires.sound t p here before in
    let between = walks_at c.requires.sound t p here before in
    let shards = length-map core.tables.items shard_pairs in
    let within : p.shard < length core.tables.items = subst (λ n. p.shard < n) shards between.left in
    let old = c.index_mut-shard.result.now in
    let held : slice_get core.tables.items p.shard ≡ Some old = slice_get_read core.tables.items
    (length core.tables.items) p.shard old refl within c.index_mut-shard.ensures.value in
    let refused = c.in_default-make_ready.ensures.refused in
    inr (record {
      place = p;
      stands = here;
      walk = c.in-Visit.walk;
      before = before;
      out = c.requires.out;
      grows = refused.1;
      table = shard_pairs old;
      held = view-at shard_pairs core.tables.items p.shard old held;
      some = refused.2;
      after = stepped-by core c.args.step (record r { reads = c.clear.new.self; phase = c.enter.new.phase })
          (record p { reads = []; phase = phase.Release answer.NoMemory }) c.appended-core.result.items
          (slice_set core.tables.items p.shard c.make_ready.new.shard) (state_of core).tables core.locks
          core.blocks.items core.replies.items
          c.appended-core.ensures
          (ap₂ (λ rs f. record p { reads = rs; phase = f }) c.clear.ensures.items c.enter.ensures)
          (ap (map shard_pairs)
          (put_back core.tables.items p.shard c.make_ready.new.shard old refused.0
          c.index_mut-shard.ensures.value));
    })

pub returns-in_default-make_ready-clause-room : goal.returns-in_default-make_ready-clause-room
returns-in_default-make_ready-clause-room g c =
    let core = c.args.core.now in
    let t = c.args.step.thread in
    let b = c.requires.before.1 in
    let r = c.index_mut-place.result.now in
    let p = place_of r in
    let here = stands_here core.places.items b r c.index_mut-place.ensures.value in
    let kept = kept_here core.places.items b r c.index_mut-place.ensures.value in
    let before = sym c.replace.ensures.value ∙ c.in-Visit.is in
    let refused = c.in_default-make_ready.ensures.refused in
    let put = put_back core.tables.items p.shard c.make_ready.new.shard c.index_mut-shard.result.now refused.0
    c.index_mut-shard.ensures.value in
    let after = record r { reads = c.clear.new.self; phase = c.enter.new.phase } in
    let more = length core.tables.items - (p.shard + 1) in
    let plain = ap walking c.enter.ensures in
    shifted _ _ t r after c.requires.room (record {
      here = kept;
      places = refl;
      numbers = c.requires.numbers;
      steps = simp length-append at (ap length c.appended-core.ensures);
      count = refl;
      programs = refl;
      tables = length-set core.tables.items p.shard c.make_ready.new.shard;
      held = λ i h has. c.requires.room.held t i p h here has;
      locks = same_size;
      unanswered = omega (arith, ap owes c.enter.ensures, ap owes before);
      answers = omega (arith, ap owes c.enter.ensures, ap owes before);
      replies = refl;
      listing = omega (arith, ap (lists more) c.enter.ensures, ap (lists more) before);
      blocks = refl;
      visits = plain-visits p (place_of after) refl plain;
      capacity = refl;
      lists = let due = plain-lists p (place_of after) refl plain in omega (arith, due);
      adding = omega (arith, ap adds c.enter.ensures, ap adds before);
      pairs = c.requires.room.pairs
          ∙ sym (ap (λ ts. length (flat_map (λ (s : ShardPairs _ _). s.items) (map shard_pairs ts))) put);
      more_blocks = omega arith;
      listed = λ i e. c.requires.room.listed t p i here e;
    })

pub returns-in_default-make_ready-clause-slots : goal.returns-in_default-make_ready-clause-slots
returns-in_default-make_ready-clause-slots g c =
    let core = c.args.core.now in
    let t = c.args.step.thread in
    let b = c.requires.before.1 in
    let r = c.index_mut-place.result.now in
    let p = place_of r in
    let here = stands_here core.places.items b r c.index_mut-place.ensures.value in
    let kept = kept_here core.places.items b r c.index_mut-place.ensures.value in
    let before = sym c.replace.ensures.value ∙ c.in-Visit.is in
    let claim = claim_at c.requires.sound t p here before in
    let refused = c.in_default-make_ready.ensures.refused in
    let put = put_back core.tables.items p.shard c.make_ready.new.shard c.index_mut-shard.result.now refused.0
    c.index_mut-shard.ensures.value in
    let after = record r { reads = c.clear.new.self; phase = c.enter.new.phase } in
    let s = slots-same_free _ _ core c.requires.sound c.requires.slots t r after kept core.blocks.items
    (calls-same t _ _ refl) claim.1.1 (ap phase_key c.enter.ensures)
    (next-free _ _ _ _ _ (ap walking c.enter.ensures)) in
    record {
      hashed = λ i z at. s.hashed i z (ap (λ ts. slice_get ts i) (sym put) ∙ at);
      found = λ u q key at is. subst (λ ts. IsAt g.K.PartialEq.eq ts q.shard q.slot key) (sym put)
          (s.found u q key at is);
      next = λ u q at. subst (λ ts. SlotIsNext g.K.PartialEq.eq ts core.blocks.items q q.phase) (sym put)
          (s.next u q at);
    }
