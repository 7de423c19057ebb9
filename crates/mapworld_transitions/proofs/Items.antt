-- What the code knows at a pair of a visit, and of the next one.
use Rattle.std.proofs.Common.{◌≡◌, ℕ, ◌+◌, ◌<◌, ◌≤◌, ◌^◌, true, false, List, length, drop}
use Rattle.std.proofs.Common.{get_or, Option, Some, None, IfSome, MatchOption, is_none, slice_get, slice_set, Vec}
use Rattle.std.proofs.Common.{vec_capacity, refl, sym, ap, ◌∙◌, subst}
use Rattle.std.specs.Cmp.{IsEquivalence}
use Rattle.std.proofs.lemmas.Option.{same_Some}
use Rattle.dashmap_table.specs.declared.entry.Entry.{Entry}
use Rattle.dashmap_table.specs.Slots.{at, count, pairs_of, IsNextFull}
use Rattle.dashmap_table.specs.Table.{Table}
use Rattle.mapworld_calls.specs.declared.ask.Walk.{Walk}
use Rattle.mapworld_calls.specs.declared.block.Block.{Block}
use Rattle.mapworld_calls.specs.Programs.{saturated, stop_of}
use Rattle.mapworld_calls.specs.Pairs.{AreDistinct}
use Rattle.mapworld_calls.specs.Setup.{Setup}
use Rattle.mapworld_calls.proofs.Lists.{slice_get-set_same}
use Rattle.mapworld_state.specs.declared.place.Phase.TheVariants as phase
use Rattle.mapworld_state.specs.declared.place.Place.{Place as KeptPlace}
use Rattle.mapworld_state.specs.declared.world_core.Core.{Core}
use Rattle.mapworld_state.specs.Places.{place_of}
use Rattle.mapworld_state.specs.Moves.{stops_at, VisitsKey}
use Rattle.mapworld_state.specs.Shards.{shard_pairs}
use Rattle.mapworld_state.specs.Sound.{Sound, HoldsShard}
use Rattle.mapworld_state.specs.Walks.{walk_mode, is_visited}
use Rattle.mapworld_state.specs.Slots.{FitsReads, IsNextSlot, SlotIsNext, HasSlots}
use Rattle.mapworld_state.specs.Core.{state_of}
use Rattle.mapworld_state.proofs.Views.{view-at}
use Rattle.mapworld_transitions.specs.Slots.{LeavesAt}
use Rattle.mapworld_transitions.proofs.Facts.{claim_at, read_at}
use Rattle.mapworld_transitions.proofs.Visits.{full-has, item-before, item-behind, item-left, fits-more}

module _ {K V S D T A : Type 0} (x : Setup K V D T) (c : Core K V S D T A) (t : ℕ) (p : KeptPlace K V D T A)
    (f : Walk D) where
  -- the next pair stands in that slot of the shard that was read, and the visit has the block that was read
  pub record Ready (i : ℕ) (b : Block K) (r : Table K V) : Type 0 where
    pub own : slice_get p.visits.items p.shard ≡ Some i
    pub listed : slice_get c.blocks.items i ≡ Some b
    pub held : slice_get c.tables.items p.shard ≡ Some r
    pub entry : Entry K V
    pub there : at r.slots p.slot ≡ Some entry
    pub numbered : p.slot + 1 < 2 ^ 64
    pub done : (j : ℕ) (e : Entry K V) → j < p.slot → at r.slots j ≡ Some e → is_visited x.eq b.visited.items e.key
        ≡ true
    pub left : (j : ℕ) (e : Entry K V) → p.slot ≤ j → at r.slots j ≡ Some e → is_visited x.eq b.visited.items e.key
        ≡ false
    pub goes_on : stops_at (stop_of f) p.count ≡ false
    pub fits : FitsReads f p.reads p.count (count (drop p.slot r.slots))
    pub thread : b.thread ≡ t
    pub guard : p.guard ≡ None
    pub holds : HoldsShard (place_of p) (walk_mode f)
    pub distinct : AreDistinct x.eq (pairs_of r.slots)

  module _ (sound : Sound x (state_of c)) {hash : K → ℕ}
      (slots : HasSlots x hash c.tables.items c.blocks.items c.places.items)
      (here : slice_get c.places.items t ≡ Some p) (before : p.phase ≡ phase.Item f) where
    pub next-here : IsNextSlot x.eq c.tables.items c.blocks.items p f
    next-here = subst (λ z. SlotIsNext x.eq c.tables.items c.blocks.items p z) before (slots.next t p here)

    -- what is read is what the visit has
    pub ready : (i : ℕ) (b : Block K) (r : Table K V) → i ≡ get_or p.visits.items p.shard i
        → b ≡ get_or c.blocks.items i b → r ≡ get_or c.tables.items p.shard r → Ready i b r
    ready i b r read-i read-b read-r =
        let n = next-here in
        let seen = view-at place_of c.places.items t p here in
        let claim = claim_at sound t (place_of p) seen before in
        let at-i : i ≡ n.index = read_at p.visits.items p.shard n.index i n.own read-i in
        let own-b : slice_get c.blocks.items i ≡ Some n.block = ap (slice_get c.blocks.items) at-i ∙ n.listed in
        let at-b : b ≡ n.block = read_at c.blocks.items i n.block b own-b read-b in
        let at-r : r ≡ n.table = read_at c.tables.items p.shard n.table r n.held read-r in
        let visit = (sound.stands t (place_of p) seen).own_visits.are n.index (p.shard, n.own) in
        let same : visit.block ≡ n.block = same_Some visit.block n.block (sym visit.listed ∙ n.listed) in
        let base : Ready n.index n.block n.table = record {
          own = n.own;
          listed = n.listed;
          held = n.held;
          entry = n.entry;
          there = n.there;
          numbered = n.numbered;
          done = n.done;
          left = n.left;
          goes_on = n.goes_on;
          fits = n.fits;
          thread = sym (ap (λ (z : Block K). z.thread) same) ∙ visit.thread;
          guard = claim.1.1;
          holds = claim.2;
          distinct = sound.tables.distinct p.shard (shard_pairs n.table)
              (view-at shard_pairs c.tables.items p.shard n.table n.held);
        } in
        subst (λ (z : Table K V). Ready i b z) (sym at-r)
        (subst (λ (z : Block K). Ready i z n.table) (sym at-b)
        (subst (λ (z : ℕ). Ready z n.block n.table) (sym at-i) base))

  -- the next pair behind the deed on this one
  module _ (laws : IsEquivalence x.eq) (i : ℕ) (b : Block K) (r : Table K V) (ready : Ready i b r) (new : Table K V)
      (o : Option (K × V)) (same : (z : K × V) → o ≡ Some z → z.0 ≡ ready.entry.key) (leaves : LeavesAt r new p.slot o)
      (grown : Block K) (visited : VisitsKey ready.entry.key b grown) (p' : KeptPlace K V D T A) where
    pub item-next : (j : ℕ) → IsNextFull new.slots (p.slot + 1) j → p'.visits ≡ p.visits → p'.shard ≡ p.shard
        → p'.slot ≡ j → p'.count ≡ saturated (p.count + 1) → length p'.reads.items ≤ length p.reads.items + 1
        → vec_capacity p'.reads ≡ vec_capacity p.reads
        → IfSome (stop_of f) (λ stop. stop < 2 ^ 64) → stops_at (stop_of f) p'.count ≡ false
        → IsNextSlot x.eq (slice_set c.tables.items p.shard new) (slice_set c.blocks.items i grown) p' f
    item-next j next visits shard slot counted more capacity number goes_on =
        let d = full-has x.eq new.slots j next in
        let left = item-left x.eq laws r new p.slot ready.entry ready.there ready.distinct o same leaves b.visited.items
        ready.done ready.left j next in
        let fits : FitsReads f p.reads p.count (count (drop j new.slots) + 1) = subst (FitsReads f p.reads p.count) left
        ready.fits in
        record {
          index = i;
          own = ap (λ (vs : Vec ℕ A). slice_get vs.items p'.shard) visits
              ∙ (ap (slice_get p.visits.items) shard ∙ ready.own);
          block = grown;
          listed = slice_get-set_same c.blocks.items i b grown ready.listed;
          table = new;
          held = ap (slice_get (slice_set c.tables.items p.shard new)) shard ∙ slice_get-set_same c.tables.items p.shard
              r new ready.held;
          entry = d.0;
          there = ap (at new.slots) slot ∙ d.1;
          numbered = subst (λ k. k + 1 < 2 ^ 64) (sym slot) next.numbered;
          done = λ k e lt here. ap (λ ks. is_visited x.eq ks e.key) visited.visited
              ∙ item-before x.eq laws r new p.slot ready.entry ready.there ready.distinct o same leaves b.visited.items
              ready.done ready.left j next k e (subst (λ m. k < m) slot lt) here;
          left = λ k e le here. ap (λ ks. is_visited x.eq ks e.key) visited.visited
              ∙ item-behind x.eq laws r new p.slot ready.entry ready.there ready.distinct o same leaves b.visited.items
              ready.done ready.left j next k e (subst (λ m. m ≤ k) slot le) here;
          goes_on = goes_on;
          fits = subst (λ k. FitsReads f p'.reads p'.count (count (drop k new.slots))) (sym slot)
              (fits-more f p.reads p'.reads p.count p'.count (count (drop j new.slots)) fits ready.goes_on number
              counted more capacity);
        }

-- the next slot, where there is one
pub item-following : {K V C : Type 0} (P : Type 0) (slots : List (Option (Entry K V))) (from : ℕ) (next : Option ℕ)
    → MatchOption next P (IsNextFull slots from) → is_none next ≡ false
    → ((j : ℕ) → next ≡ Some j → IsNextFull slots from j → C) → C
item-following P slots from None h some by = absurd (cc)
item-following P slots from (Some j) h some by = by j refl h
