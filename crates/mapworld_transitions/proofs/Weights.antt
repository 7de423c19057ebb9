-- What each kind of step takes of the room that is left.
use Rattle.std.proofs.Common.{◌≡◌, ℕ, ◌+◌, ◌-◌, if◌then◌else◌, subst, ◌<◌, ◌≤◌, Bool, true, false, not, List, length}
use Rattle.std.proofs.Common.{map, Option, Some, None, slice_get, slice_set, flat_map, refl, sym, ap, ◌∙◌, arith}
use Rattle.std.proofs.Common.{length-append}
use Rattle.std.proofs.lemmas.Option.{same_Some}
use Rattle.std.proofs.lemmas.Bool.{false≢true}
use Rattle.std.proofs.lemmas.List.{map-set}
use Rattle.std.proofs.lemmas.List.Concat.{length-flat_map}
use Rattle.dashmap_table.specs.Table.{Table}
use Rattle.mapworld_calls.specs.declared.ask.Ask.{Ask}
use Rattle.mapworld_calls.specs.declared.ask.Ask.TheVariants as ask
use Rattle.mapworld_calls.specs.declared.ask.Keyed.TheVariants as keyed
use Rattle.mapworld_calls.specs.declared.ask.Begin.TheVariants as begin
use Rattle.mapworld_calls.specs.declared.ask.Held.TheVariants as held
use Rattle.mapworld_calls.specs.declared.ask.Walk.{Walk}
use Rattle.mapworld_calls.specs.declared.block.Block.{Block}
use Rattle.mapworld_calls.specs.Programs.{stop_of}
use Rattle.mapworld_calls.specs.declared.reply.Answer.{Answer}
use Rattle.mapworld_calls.proofs.Lists.{sum_by-set, sum_by-at}
use Rattle.mapworld_transitions.specs.declared.blocks.Started.{Started}
use Rattle.mapworld_state.specs.declared.place.Way.TheVariants as way
use Rattle.mapworld_state.specs.declared.place.Guard.{Guard}
use Rattle.mapworld_state.specs.declared.place.Guard.TheVariants as guard
use Rattle.mapworld_state.specs.declared.place.Growth.{Growth}
use Rattle.mapworld_state.specs.declared.place.Growth.TheVariants as growth
use Rattle.mapworld_state.specs.declared.place.Phase.{Phase}
use Rattle.mapworld_state.specs.declared.place.Phase.TheVariants as phase
use Rattle.mapworld_state.specs.declared.place.Place.{Place as KeptPlace}
use Rattle.mapworld_state.specs.declared.place.Request.{Request}
use Rattle.mapworld_state.specs.declared.place.Request.TheVariants as request
use Rattle.mapworld_state.specs.Places.{Place}
use Rattle.mapworld_state.specs.Shards.{ShardPairs, shard_pairs}
use Rattle.mapworld_state.proofs.Views.{view-at}
use Rattle.mapworld_state.specs.State.{State, next_step}
use Rattle.mapworld_state.specs.Moves.{stops_at, start_phase, start_shard, changed_phase, request_of, found_phase}
use Rattle.mapworld_state.specs.Moves.{found_done, block_behind, ListsBlock}
use Rattle.mapworld_state.specs.Classes.{class_of, walks_in}
use Rattle.mapworld_state.specs.Core.{owes, lists, adds, blocks_of, may_visit, ask_lists, phase_lists}
use Rattle.mapworld_state.specs.Slots.{SlotIsNext}
use Rattle.mapworld_transitions.specs.Listing.{AddsBlock, AddsVisit}
use Rattle.mapworld_transitions.proofs.Walking.{walking, next-free, no-walks, no-lists}

module _ {K V D T A : Type 0} where
  -- how the phase behind a start weighs, in a world of so many shards, where so many are left behind its own
  pub record Weighs (shards more : ℕ) (a : Ask K V D) (ph : Phase K V D T A) : Type 0 where
    pub owing : owes ph ≡ 1
    pub listing : lists more ph ≤ blocks_of shards a
    pub adding : adds ph ≤ 1
    pub visits : walks_in (class_of ph) ≡ true → may_visit a ≡ true
    pub lists_are : phase_lists ph ≤ ask_lists a
    pub next : (eq : K → K → Bool) (tables : List (Table K V)) (bs : List (Block K)) (p : KeptPlace K V D T A)
        → SlotIsNext eq tables bs p ph

  plain-start : {shards more : ℕ} {a : Ask K V D} {ph : Phase K V D T A} → walking ph ≡ false → owes ph ≡ 1
      → lists more ph ≤ blocks_of shards a → adds ph ≤ 1 → Weighs shards more a ph
  plain-start {shards} {more} {a} {ph} plain owing listing adding = record {
    owing = owing;
    listing = listing;
    adding = adding;
    visits = λ h. absurd (false≢true (sym (no-walks ph plain) ∙ h));
    lists_are = let none = no-lists ph plain in omega (arith, none);
    next = λ eq tables bs p. next-free eq tables bs p ph plain;
  }

  walk-start : (shards : ℕ) → 0 < shards → (f : Walk D) (idle : Bool) → stops_at (stop_of f) 0 ≡ idle
      → Weighs shards (shards - (0 + 1)) (ask.Walk f) (if idle then phase.Idle f else phase.Reach f)
  walk-start shards some f true e =
      record {
        owing = refl;
        listing = omega arith;
        adding = omega arith;
        visits = λ h. absurd (false≢true h);
        lists_are = omega arith;
        next = λ eq tables bs p. tt;
      }
  walk-start shards some f false e =
      record {
        owing = refl;
        listing = omega (arith, some, ap (λ b. if b then 0 else shards) e);
        adding = omega arith;
        visits = λ h. ap not e;
        lists_are = omega arith;
        next = λ eq tables bs p. tt;
      }

  -- the phase behind a start
  pub started_weighs : (shards : ℕ) → 0 < shards → (route : K → ℕ) (shard : ℕ) (a : Ask K V D) (g : Option (Guard K))
      (ph : Phase K V D T A) → ph ≡ start_phase a g → Weighs shards (shards - (start_shard route a shard + 1)) a ph
  started_weighs shards some route shard (ask.Keyed k) g ph e = rw e (plain-start refl refl (omega arith) (omega arith))
  started_weighs shards some route shard (ask.Begin b) g ph e = rw e (plain-start refl refl (omega arith) (omega arith))
  started_weighs shards some route shard (ask.Held h) None ph e =
      rw e (plain-start refl refl (omega arith) (omega arith))
  started_weighs shards some route shard (ask.Held (held.Read d)) (Some (guard.Pair way.Shared)) ph e =
      rw e (plain-start refl refl (omega arith) (omega arith))
  started_weighs shards some route shard (ask.Held (held.Write d)) (Some (guard.Pair way.Shared)) ph e =
      rw e (plain-start refl refl (omega arith) (omega arith))
  started_weighs shards some route shard (ask.Held held.Downgrade) (Some (guard.Pair way.Shared)) ph e =
      rw e (plain-start refl refl (omega arith) (omega arith))
  started_weighs shards some route shard (ask.Held (held.Insert v)) (Some (guard.Pair way.Shared)) ph e =
      rw e (plain-start refl refl (omega arith) (omega arith))
  started_weighs shards some route shard (ask.Held held.IntoRef) (Some (guard.Pair way.Shared)) ph e =
      rw e (plain-start refl refl (omega arith) (omega arith))
  started_weighs shards some route shard (ask.Held held.Remove) (Some (guard.Pair way.Shared)) ph e =
      rw e (plain-start refl refl (omega arith) (omega arith))
  started_weighs shards some route shard (ask.Held held.RemoveEntry) (Some (guard.Pair way.Shared)) ph e =
      rw e (plain-start refl refl (omega arith) (omega arith))
  started_weighs shards some route shard (ask.Held (held.ReplaceEntry v)) (Some (guard.Pair way.Shared)) ph e =
      rw e (plain-start refl refl (omega arith) (omega arith))
  started_weighs shards some route shard (ask.Held held.IntoKey) (Some (guard.Pair way.Shared)) ph e =
      rw e (plain-start refl refl (omega arith) (omega arith))
  started_weighs shards some route shard (ask.Held held.Drop) (Some (guard.Pair way.Shared)) ph e =
      rw e (plain-start refl refl (omega arith) (omega arith))
  started_weighs shards some route shard (ask.Held (held.Read d)) (Some (guard.Pair way.Exclusive)) ph e =
      rw e (plain-start refl refl (omega arith) (omega arith))
  started_weighs shards some route shard (ask.Held (held.Write d)) (Some (guard.Pair way.Exclusive)) ph e =
      rw e (plain-start refl refl (omega arith) (omega arith))
  started_weighs shards some route shard (ask.Held held.Downgrade) (Some (guard.Pair way.Exclusive)) ph e =
      rw e (plain-start refl refl (omega arith) (omega arith))
  started_weighs shards some route shard (ask.Held (held.Insert v)) (Some (guard.Pair way.Exclusive)) ph e =
      rw e (plain-start refl refl (omega arith) (omega arith))
  started_weighs shards some route shard (ask.Held held.IntoRef) (Some (guard.Pair way.Exclusive)) ph e =
      rw e (plain-start refl refl (omega arith) (omega arith))
  started_weighs shards some route shard (ask.Held held.Remove) (Some (guard.Pair way.Exclusive)) ph e =
      rw e (plain-start refl refl (omega arith) (omega arith))
  started_weighs shards some route shard (ask.Held held.RemoveEntry) (Some (guard.Pair way.Exclusive)) ph e =
      rw e (plain-start refl refl (omega arith) (omega arith))
  started_weighs shards some route shard (ask.Held (held.ReplaceEntry v)) (Some (guard.Pair way.Exclusive)) ph e =
      rw e (plain-start refl refl (omega arith) (omega arith))
  started_weighs shards some route shard (ask.Held held.IntoKey) (Some (guard.Pair way.Exclusive)) ph e =
      rw e (plain-start refl refl (omega arith) (omega arith))
  started_weighs shards some route shard (ask.Held held.Drop) (Some (guard.Pair way.Exclusive)) ph e =
      rw e (plain-start refl refl (omega arith) (omega arith))
  started_weighs shards some route shard (ask.Held (held.Read d)) (Some (guard.Pair (way.Occupied k))) ph e =
      rw e (plain-start refl refl (omega arith) (omega arith))
  started_weighs shards some route shard (ask.Held (held.Write d)) (Some (guard.Pair (way.Occupied k))) ph e =
      rw e (plain-start refl refl (omega arith) (omega arith))
  started_weighs shards some route shard (ask.Held held.Downgrade) (Some (guard.Pair (way.Occupied k))) ph e =
      rw e (plain-start refl refl (omega arith) (omega arith))
  started_weighs shards some route shard (ask.Held (held.Insert v)) (Some (guard.Pair (way.Occupied k))) ph e =
      rw e (plain-start refl refl (omega arith) (omega arith))
  started_weighs shards some route shard (ask.Held held.IntoRef) (Some (guard.Pair (way.Occupied k))) ph e =
      rw e (plain-start refl refl (omega arith) (omega arith))
  started_weighs shards some route shard (ask.Held held.Remove) (Some (guard.Pair (way.Occupied k))) ph e =
      rw e (plain-start refl refl (omega arith) (omega arith))
  started_weighs shards some route shard (ask.Held held.RemoveEntry) (Some (guard.Pair (way.Occupied k))) ph e =
      rw e (plain-start refl refl (omega arith) (omega arith))
  started_weighs shards some route shard (ask.Held (held.ReplaceEntry v)) (Some (guard.Pair (way.Occupied k))) ph e =
      rw e (plain-start refl refl (omega arith) (omega arith))
  started_weighs shards some route shard (ask.Held held.IntoKey) (Some (guard.Pair (way.Occupied k))) ph e =
      rw e (plain-start refl refl (omega arith) (omega arith))
  started_weighs shards some route shard (ask.Held held.Drop) (Some (guard.Pair (way.Occupied k))) ph e =
      rw e (plain-start refl refl (omega arith) (omega arith))
  started_weighs shards some route shard (ask.Held (held.Read d)) (Some (guard.Vacant k)) ph e =
      rw e (plain-start refl refl (omega arith) (omega arith))
  started_weighs shards some route shard (ask.Held (held.Write d)) (Some (guard.Vacant k)) ph e =
      rw e (plain-start refl refl (omega arith) (omega arith))
  started_weighs shards some route shard (ask.Held held.Downgrade) (Some (guard.Vacant k)) ph e =
      rw e (plain-start refl refl (omega arith) (omega arith))
  started_weighs shards some route shard (ask.Held (held.Insert v)) (Some (guard.Vacant k)) ph e =
      rw e (plain-start refl refl (omega arith) (omega arith))
  started_weighs shards some route shard (ask.Held held.IntoRef) (Some (guard.Vacant k)) ph e =
      rw e (plain-start refl refl (omega arith) (omega arith))
  started_weighs shards some route shard (ask.Held held.Remove) (Some (guard.Vacant k)) ph e =
      rw e (plain-start refl refl (omega arith) (omega arith))
  started_weighs shards some route shard (ask.Held held.RemoveEntry) (Some (guard.Vacant k)) ph e =
      rw e (plain-start refl refl (omega arith) (omega arith))
  started_weighs shards some route shard (ask.Held (held.ReplaceEntry v)) (Some (guard.Vacant k)) ph e =
      rw e (plain-start refl refl (omega arith) (omega arith))
  started_weighs shards some route shard (ask.Held held.IntoKey) (Some (guard.Vacant k)) ph e =
      rw e (plain-start refl refl (omega arith) (omega arith))
  started_weighs shards some route shard (ask.Held held.Drop) (Some (guard.Vacant k)) ph e =
      rw e (plain-start refl refl (omega arith) (omega arith))
  started_weighs shards some route shard (ask.Walk f) g ph e =
      subst (λ (z : Phase K V D T A). Weighs shards (shards - (0 + 1)) (ask.Walk f) z) (sym e)
      (walk-start shards some f (stops_at (stop_of f) 0) refl)

  -- the phase behind a change of a guard's pair
  pub changed_weighs : (ends : Bool) (r : Answer K V T A) (ph : Phase K V D T A) → ph ≡ changed_phase ends r
      → (owes ph ≡ 1) × ((more : ℕ) → lists more ph ≡ 0) × (adds ph ≡ 0) × (walking ph ≡ false)
  changed_weighs true r ph e = rw e (refl, (λ more. refl), refl, refl)
  changed_weighs false r ph e = rw e (refl, (λ more. refl), refl, refl)

  -- the phase behind a find
  pub found_weighs : (r : Request K V D) (there room : Bool) (ph : Phase K V D T A) → ph ≡ found_phase r there room
      → (owes ph ≡ 1) × (adds ph ≤ 1) × (walking ph ≡ false)
  found_weighs (request.Keyed (keyed.Insert k v)) true room ph e = rw e (refl, omega arith, refl)
  found_weighs (request.Keyed (keyed.Insert k v)) false true ph e = rw e (refl, omega arith, refl)
  found_weighs (request.Keyed (keyed.Insert k v)) false false ph e = rw e (refl, omega arith, refl)
  found_weighs (request.Keyed (keyed.Remove k)) true room ph e = rw e (refl, omega arith, refl)
  found_weighs (request.Keyed (keyed.Remove k)) false room ph e = rw e (refl, omega arith, refl)
  found_weighs (request.Keyed (keyed.RemoveIf k d)) true room ph e = rw e (refl, omega arith, refl)
  found_weighs (request.Keyed (keyed.RemoveIf k d)) false room ph e = rw e (refl, omega arith, refl)
  found_weighs (request.Keyed (keyed.RemoveIfMut k d)) true room ph e = rw e (refl, omega arith, refl)
  found_weighs (request.Keyed (keyed.RemoveIfMut k d)) false room ph e = rw e (refl, omega arith, refl)
  found_weighs (request.Keyed (keyed.Alter k d)) true room ph e = rw e (refl, omega arith, refl)
  found_weighs (request.Keyed (keyed.Alter k d)) false room ph e = rw e (refl, omega arith, refl)
  found_weighs (request.Keyed (keyed.View k d)) true room ph e = rw e (refl, omega arith, refl)
  found_weighs (request.Keyed (keyed.View k d)) false room ph e = rw e (refl, omega arith, refl)
  found_weighs (request.Keyed (keyed.ContainsKey k)) true room ph e = rw e (refl, omega arith, refl)
  found_weighs (request.Keyed (keyed.ContainsKey k)) false room ph e = rw e (refl, omega arith, refl)
  found_weighs (request.Keyed (keyed.InsertUntil k v)) true room ph e = rw e (refl, omega arith, refl)
  found_weighs (request.Keyed (keyed.InsertUntil k v)) false true ph e = rw e (refl, omega arith, refl)
  found_weighs (request.Keyed (keyed.InsertUntil k v)) false false ph e = rw e (refl, omega arith, refl)
  found_weighs (request.Keyed (keyed.RemoveUntil k)) true room ph e = rw e (refl, omega arith, refl)
  found_weighs (request.Keyed (keyed.RemoveUntil k)) false room ph e = rw e (refl, omega arith, refl)
  found_weighs (request.Begin b) true room ph e = rw e (refl, omega arith, refl)
  found_weighs (request.Begin (begin.Get k)) false room ph e = rw e (refl, omega arith, refl)
  found_weighs (request.Begin (begin.GetMut k)) false room ph e = rw e (refl, omega arith, refl)
  found_weighs (request.Begin (begin.TryGet k)) false room ph e = rw e (refl, omega arith, refl)
  found_weighs (request.Begin (begin.TryGetMut k)) false room ph e = rw e (refl, omega arith, refl)
  found_weighs (request.Begin (begin.GetUntil k)) false room ph e = rw e (refl, omega arith, refl)
  found_weighs (request.Begin (begin.GetMutUntil k)) false room ph e = rw e (refl, omega arith, refl)
  found_weighs (request.Begin (begin.TryEntry k)) false true ph e = rw e (refl, omega arith, refl)
  found_weighs (request.Begin (begin.TryEntry k)) false false ph e = rw e (refl, omega arith, refl)
  found_weighs (request.Begin (begin.Entry k)) false true ph e = rw e (refl, omega arith, refl)
  found_weighs (request.Begin (begin.Entry k)) false false ph e = rw e (refl, omega arith, refl)

module _ {K : Type 0} (bs : List (Block K)) (st : Started) (at : ℕ) (bs' : List (Block K)) where
  pub one_added : (done : ℕ) → AddsBlock bs (Some done) st at bs' → length bs' ≡ length bs + 1
  one_added done h = simp length-append at (ap length h.2)

  pub none_lost : (done : Option ℕ) → AddsBlock bs done st at bs' → length bs ≤ length bs'
  none_lost None h = omega (arith, ap length h)
  none_lost (Some done) h = omega (arith, one_added done h)

  -- a find lists its block, or may do so later
  pub found_lists : {V D T A : Type 0} (more : ℕ) (r : Request K V D) (there room : Bool) (ph : Phase K V D T A)
      → ph ≡ found_phase r there room
      → AddsBlock bs (found_done r there room) st at bs' → length bs' + lists more ph ≡ length bs + 1
  found_lists more (request.Keyed (keyed.Insert k v)) true room ph e h = omega (arith, ap (lists more) e, one_added 0 h)
  found_lists more (request.Keyed (keyed.Insert k v)) false true ph e h =
      omega (arith, ap (lists more) e, one_added 0 h)
  found_lists more (request.Keyed (keyed.Insert k v)) false false ph e h = omega (arith, ap (lists more) e, ap length h)
  found_lists more (request.Keyed (keyed.Remove k)) true room ph e h = omega (arith, ap (lists more) e, one_added 0 h)
  found_lists more (request.Keyed (keyed.Remove k)) false room ph e h = omega (arith, ap (lists more) e, one_added 1 h)
  found_lists more (request.Keyed (keyed.RemoveIf k d)) true room ph e h =
      omega (arith, ap (lists more) e, one_added 0 h)
  found_lists more (request.Keyed (keyed.RemoveIf k d)) false room ph e h =
      omega (arith, ap (lists more) e, one_added 1 h)
  found_lists more (request.Keyed (keyed.RemoveIfMut k d)) true room ph e h =
      omega (arith, ap (lists more) e, one_added 0 h)
  found_lists more (request.Keyed (keyed.RemoveIfMut k d)) false room ph e h =
      omega (arith, ap (lists more) e, one_added 1 h)
  found_lists more (request.Keyed (keyed.Alter k d)) true room ph e h = omega (arith, ap (lists more) e, one_added 0 h)
  found_lists more (request.Keyed (keyed.Alter k d)) false room ph e h = omega (arith, ap (lists more) e, one_added 1 h)
  found_lists more (request.Keyed (keyed.View k d)) true room ph e h = omega (arith, ap (lists more) e, ap length h)
  found_lists more (request.Keyed (keyed.View k d)) false room ph e h = omega (arith, ap (lists more) e, one_added 1 h)
  found_lists more (request.Keyed (keyed.ContainsKey k)) true room ph e h =
      omega (arith, ap (lists more) e, one_added 1 h)
  found_lists more (request.Keyed (keyed.ContainsKey k)) false room ph e h =
      omega (arith, ap (lists more) e, one_added 1 h)
  found_lists more (request.Keyed (keyed.InsertUntil k v)) true room ph e h =
      omega (arith, ap (lists more) e, one_added 0 h)
  found_lists more (request.Keyed (keyed.InsertUntil k v)) false true ph e h =
      omega (arith, ap (lists more) e, one_added 0 h)
  found_lists more (request.Keyed (keyed.InsertUntil k v)) false false ph e h =
      omega (arith, ap (lists more) e, ap length h)
  found_lists more (request.Keyed (keyed.RemoveUntil k)) true room ph e h =
      omega (arith, ap (lists more) e, one_added 0 h)
  found_lists more (request.Keyed (keyed.RemoveUntil k)) false room ph e h =
      omega (arith, ap (lists more) e, one_added 1 h)
  found_lists more (request.Begin b) true room ph e h = omega (arith, ap (lists more) e, one_added 1 h)
  found_lists more (request.Begin (begin.Get k)) false room ph e h = omega (arith, ap (lists more) e, one_added 1 h)
  found_lists more (request.Begin (begin.GetMut k)) false room ph e h = omega (arith, ap (lists more) e, one_added 1 h)
  found_lists more (request.Begin (begin.TryGet k)) false room ph e h = omega (arith, ap (lists more) e, one_added 1 h)
  found_lists more (request.Begin (begin.TryGetMut k)) false room ph e h =
      omega (arith, ap (lists more) e, one_added 1 h)
  found_lists more (request.Begin (begin.GetUntil k)) false room ph e h =
      omega (arith, ap (lists more) e, one_added 1 h)
  found_lists more (request.Begin (begin.GetMutUntil k)) false room ph e h =
      omega (arith, ap (lists more) e, one_added 1 h)
  found_lists more (request.Begin (begin.TryEntry k)) false true ph e h =
      omega (arith, ap (lists more) e, one_added 1 h)
  found_lists more (request.Begin (begin.TryEntry k)) false false ph e h = omega (arith, ap (lists more) e, ap length h)
  found_lists more (request.Begin (begin.Entry k)) false true ph e h = omega (arith, ap (lists more) e, one_added 1 h)
  found_lists more (request.Begin (begin.Entry k)) false false ph e h = omega (arith, ap (lists more) e, ap length h)

  pub grown_lists : {V D T A : Type 0} (more : ℕ) (g : Growth K V) (ph : Phase K V D T A)
      → ph ≡ found_phase (request_of g) false true
      → AddsBlock bs (found_done {D = D} (request_of g) false true) st at bs' → (length bs' ≡ length bs + 1)
      × (lists more ph ≡ 0)
  grown_lists more (growth.Insert k v) ph e h = (one_added 0 h, ap (lists more) e)
  grown_lists more (growth.InsertUntil k v) ph e h = (one_added 0 h, ap (lists more) e)
  grown_lists more (growth.Entry k) ph e h = (one_added 1 h, ap (lists more) e)
  grown_lists more (growth.TryEntry k) ph e h = (one_added 1 h, ap (lists more) e)

  -- the block behind is listed
  pub behind_listed : (done : Option ℕ) (n : ℕ) (block : Option ℕ) → AddsBlock bs done st at bs' → n ≡ length bs
      → ((i : ℕ) → block ≡ Some i → i < length bs)
      → (i : ℕ) → block_behind done n block ≡ Some i → i < length bs'
  behind_listed None n block h e old i is = let below = old i is in omega (arith, below, ap length h)
  behind_listed (Some done) n block h e old i is = let same = same_Some n i is in
      omega (arith, same, e, one_added done h)

-- a visit's block is one more
pub visit_added : {K : Type 0} (bs : List (Block K)) (visit : ℕ) (keys : List K) (st : Started) (at : ℕ)
    (bs' : List (Block K)) → AddsVisit bs visit keys st at bs' → length bs' ≡ length bs + 1
visit_added bs visit keys st at bs' h = simp length-append at (ap length h.2)

-- what is added is what a step of that place lists
pub lists_block : {K V S D T A : Type 0} (w : State K V S D T A) (t : ℕ) (p : Place K V D T A) (done : Option ℕ)
    (st : Started) (at : ℕ) (bs' : List (Block K))
    → AddsBlock w.blocks done st at bs' → st.thread ≡ t → st.call ≡ p.next → p.started ≡ Some st.start
    → at ≡ next_step w → ListsBlock w t p done bs'
lists_block w t p None st at bs' h thread call start now = h
lists_block w t p (Some done) st at bs' h thread call start now = (
  h.0,
  record {
    thread = h.1.thread ∙ thread;
    call = h.1.call ∙ call;
    visit = h.1.visit;
    start = start ∙ ap Some (sym h.1.start);
    position = h.1.position_is ∙ now;
    end = h.1.end;
    done = h.1.done;
    visited = h.1.visited;
  },
  h.2,
)

-- how many pairs there are behind a change of one shard
pub pairs_set : {K V : Type 0} (tables : List (ShardPairs K V)) (i : ℕ) (old new : ShardPairs K V)
    → slice_get tables i ≡ Some old
    → length (flat_map (λ (t : ShardPairs K V). t.items) (slice_set tables i new)) + length old.items ≡ length
    (flat_map (λ (t : ShardPairs K V). t.items) tables) + length new.items
pairs_set {K} {V} tables i old new h =
    let f : ShardPairs K V → List (K × V) = λ t. t.items in
    let before = length-flat_map f tables in
    let after = length-flat_map f (slice_set tables i new) in
    let change = sum_by-set (λ (t : ShardPairs K V). length t.items) tables i old new h in
    omega (arith, before, after, change)

-- so of the shards that the code keeps
pub pairs_put : {K V : Type 0} (tables : List (Table K V)) (i : ℕ) (old new : Table K V) → slice_get tables i ≡ Some old
    → length (flat_map (λ (t : ShardPairs K V). t.items) (map shard_pairs (slice_set tables i new))) + length
    (shard_pairs old).items ≡ length (flat_map (λ (t : ShardPairs K V). t.items) (map shard_pairs tables)) + length
    (shard_pairs new).items
pairs_put {K} {V} tables i old new h =
    let set : length (flat_map (λ (t : ShardPairs K V). t.items) (map shard_pairs (slice_set tables i new))) ≡ length
    (flat_map (λ (t : ShardPairs K V). t.items) (slice_set (map shard_pairs tables) i (shard_pairs new))) =
    ap (λ (ts : List (ShardPairs K V)). length (flat_map (λ (t : ShardPairs K V). t.items) ts))
    (map-set shard_pairs tables i new) in
    let change = pairs_set (map shard_pairs tables) i (shard_pairs old) (shard_pairs new)
    (view-at shard_pairs tables i old h) in
    omega (arith, set, change)

-- where a shard keeps its pairs, or their number, there are as many
pub pairs_kept : {K V : Type 0} (tables : List (ShardPairs K V)) (i : ℕ) (old new : ShardPairs K V)
    → slice_get tables i ≡ Some old → length new.items ≡ length old.items
    → length (flat_map (λ (t : ShardPairs K V). t.items) (slice_set tables i new)) ≡ length
    (flat_map (λ (t : ShardPairs K V). t.items) tables)
pairs_kept tables i old new h e = let change = pairs_set tables i old new h in omega (arith, change, e)

-- a shard's pairs are among all
pub pairs_at : {K V : Type 0} (tables : List (ShardPairs K V)) (i : ℕ) (table : ShardPairs K V)
    → slice_get tables i ≡ Some table
    → length table.items ≤ length (flat_map (λ (t : ShardPairs K V). t.items) tables)
pairs_at {K} {V} tables i table h =
    let f : ShardPairs K V → List (K × V) = λ t. t.items in
    let all = length-flat_map f tables in
    let part = sum_by-at (λ (t : ShardPairs K V). length t.items) tables i table h in
    omega (arith, all, part)
