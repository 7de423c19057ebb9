-- Slots go on to have their pairs: blocks keep their calls, and while a thread holds a shard alone no other thread has
-- a slot there.
use Rattle.std.proofs.Common.{◌≡◌, ◌≢◌, ℕ, ◌+◌, Bool, true, false, if◌then◌else◌, ◌==◌, List, [], ◌∷◌, ◌++◌, Option}
use Rattle.std.proofs.Common.{Some, None, is_some, slice_get, slice_set, MatchBool, inl, inr, ⊎_elim, refl, sym, ap}
use Rattle.std.proofs.Common.{ap₂, ◌∙◌, subst}
use Rattle.std.specs.Option.{option_and_then}
use Rattle.std.proofs.lemmas.Bool.{cases_Bool, cases_eq}
use Rattle.std.proofs.lemmas.Option.{none-some, same_Some}
use Rattle.dashmap_table.specs.Table.{Table}
use Rattle.dashmap_table.proofs.Cases.{option_cases}
use Rattle.mapworld_calls.specs.declared.ask.Walk.{Walk}
use Rattle.mapworld_calls.specs.declared.block.Block.{Block}
use Rattle.mapworld_calls.specs.Programs.{key_of}
use Rattle.mapworld_calls.specs.Setup.{Setup, ask_at}
use Rattle.mapworld_calls.specs.Replay.{block_key}
use Rattle.mapworld_calls.proofs.Folds.{slice_set-itself}
use Rattle.mapworld_calls.proofs.Lists.{slice_get-set_same, slice_get-set_other, slice_get-set_cases}
use Rattle.mapworld_calls.proofs.Lists.{slice_get-push_below}
use Rattle.mapworld_state.specs.declared.holds.Mode.{Mode}
use Rattle.mapworld_state.specs.declared.holds.Mode.TheVariants.{Shared, Exclusive}
use Rattle.mapworld_state.specs.declared.place.Way.{Way}
use Rattle.mapworld_state.specs.declared.place.Guard.{Guard}
use Rattle.mapworld_state.specs.declared.place.Guard.TheVariants as guard
use Rattle.mapworld_state.specs.declared.place.Phase.{Phase}
use Rattle.mapworld_state.specs.declared.place.Phase.TheVariants as phase
use Rattle.mapworld_state.specs.declared.place.Place.{Place as KeptPlace}
use Rattle.mapworld_state.specs.declared.world_core.Core.{Core}
use Rattle.mapworld_state.specs.Places.{Place, place_of}
use Rattle.mapworld_state.specs.Shards.{ShardPairs}
use Rattle.mapworld_state.specs.State.{State, threads_of}
use Rattle.mapworld_state.specs.Moves.{lent_way, way_mode, CountsCall, EndsAt, EndsBlock, EndsVisits, EndsCall}
use Rattle.mapworld_state.specs.Moves.{VisitsKey}
use Rattle.mapworld_state.specs.Steps.{guarded_key}
use Rattle.mapworld_state.specs.Sound.{Sound, Claim, HoldsShard, IsInSession, IsReleasing}
use Rattle.mapworld_state.specs.Slots.{phase_key, slot_key, HasHashes, HasKeyAt, IsAt, IsNextSlot, SlotIsNext, HasSlots}
use Rattle.mapworld_state.specs.Core.{state_of}
use Rattle.mapworld_state.proofs.Views.{view-at}
use Rattle.mapworld_state.proofs.HoldsTable.{first-there}
use Rattle.mapworld_transitions.specs.declared.blocks.Started.{Started}
use Rattle.mapworld_state.specs.Walks.{walk_mode, is_visited}
use Rattle.mapworld_transitions.specs.Listing.{AddsBlock, AddsVisit}
use Rattle.mapworld_transitions.proofs.Walking.{walking, next-free}
use Rattle.mapworld_transitions.proofs.Facts.{guard_is, way_is}

-- each block stays a block of its call, and has done no other key unless it is of that thread
abbrev pub KeepsCalls : {K : Type 0} → ℕ → List (Block K) → List (Block K) → Type 0
KeepsCalls {K} t bs bs' =
    (i : ℕ) (b : Block K) → slice_get bs i ≡ Some b → (c : Block K) × (slice_get bs' i ≡ Some c) × (c.thread ≡ b.thread)
    × (c.call ≡ b.call) × (b.thread ≢ t → c.visited.items ≡ b.visited.items)

-- so it is behind two changes
pub calls-then : {K : Type 0} (t : ℕ) (bs mid bs' : List (Block K)) → KeepsCalls t bs mid → KeepsCalls t mid bs'
    → KeepsCalls t bs bs'
calls-then t bs mid bs' first second i b at =
    let c = first i b at in
    let d = second i c.0 c.1 in
    (d.0, d.1, d.2 ∙ c.2, d.3 ∙ c.3, λ other. d.4 (λ own. other (sym c.2 ∙ own)) ∙ c.4 other)

module _ {K : Type 0} (t : ℕ) (bs bs' : List (Block K)) where
  pub calls-same : bs' ≡ bs → KeepsCalls t bs bs'
  calls-same same i b at = (b, ap (λ z. slice_get z i) same ∙ at, refl, refl, λ other. refl)

  calls-push : (d : Block K) → bs' ≡ bs ++ d ∷ [] → KeepsCalls t bs bs'
  calls-push d same i b at =
      (b, ap (λ z. slice_get z i) same ∙ slice_get-push_below bs i b d at, refl, refl, λ other. refl)

  calls-set : (i : ℕ) (b c : Block K) → slice_get bs i ≡ Some b → c.thread ≡ b.thread → c.call ≡ b.call
      → (b.thread ≢ t → c.visited.items ≡ b.visited.items) → bs' ≡ slice_set bs i c → KeepsCalls t bs bs'
  calls-set i b c listed thread call visited same j e at = ⊎_elim
      (λ here.
      let its : b ≡ e = same_Some b e (sym listed ∙ (ap (λ k. slice_get bs k) here ∙ at)) in (
        c,
        ap (λ z. slice_get z j) same
            ∙ (ap (λ k. slice_get (slice_set bs i c) k) (sym here) ∙ slice_get-set_same bs i b c listed),
        thread ∙ ap (λ (z : Block K). z.thread) its,
        call ∙ ap (λ (z : Block K). z.call) its,
        λ other. visited (λ own. other (ap (λ (z : Block K). z.thread) (sym its) ∙ own))
            ∙ ap (λ (z : Block K). z.visited.items) its,
      ))
      (λ ne. (e, ap (λ z. slice_get z j) same ∙ (slice_get-set_other bs i j c ne ∙ at), refl, refl, λ other. refl))
      (cases_eq i j)

  -- where calls are counted in, a block is listed, a call is ended, or a visit of the thread has done a key more
  pub calls-counted : (o : Option ℕ) (n : ℕ) → CountsCall bs o n bs' → KeepsCalls t bs bs'
  calls-counted None n h = calls-same h
  calls-counted (Some i) n h = calls-set i h.0 h.1 h.2 h.3.thread h.3.call (λ other. h.3.visited) h.4

  pub calls-listed : (done : Option ℕ) (st : Started) (at : ℕ) → AddsBlock bs done st at bs' → KeepsCalls t bs bs'
  calls-listed None st at h = calls-same h
  calls-listed (Some n) st at h = calls-push h.0 h.2

  pub calls-visit : (visit : ℕ) (keys : List K) (st : Started) (at : ℕ) → AddsVisit bs visit keys st at bs'
      → KeepsCalls t bs bs'
  calls-visit visit keys st at h = calls-push h.0 h.2

  pub calls-visited : (i : ℕ) (b c : Block K) (key : K) → slice_get bs i ≡ Some b → b.thread ≡ t → VisitsKey key b c
      → bs' ≡ slice_set bs i c → KeepsCalls t bs bs'
  calls-visited i b c key listed own v same = calls-set i b c listed v.thread v.call (λ other. absurd (other own)) same

  calls-ended : (o : Option ℕ) (n end : ℕ) → EndsBlock bs o n end bs' → KeepsCalls t bs bs'
  calls-ended None n end h = calls-same h
  calls-ended (Some i) n end h = ⊎_elim
      (λ (yes_ : (h.0.call == n) ≡ true).
      let e : EndsAt end h.0 h.1 = subst (λ (z : Bool). MatchBool z (EndsAt end h.0 h.1) (h.1 ≡ h.0)) yes_ h.3 in
      calls-set i h.0 h.1 h.2 e.thread e.call (λ other. e.visited) h.4)
      (λ no_. let e : h.1 ≡ h.0 = subst (λ (z : Bool). MatchBool z (EndsAt end h.0 h.1) (h.1 ≡ h.0)) no_ h.3 in
      calls-set i h.0 h.1 h.2 (ap (λ (z : Block K). z.thread) e) (ap (λ (z : Block K). z.call) e)
      (λ other. ap (λ (z : Block K). z.visited.items) e) h.4)
      (cases_Bool (h.0.call == n))

calls-all_ended : {K : Type 0} (t : ℕ) (bs : List (Block K)) (visits : List ℕ) (end : ℕ) (bs' : List (Block K))
    → EndsVisits bs visits end bs' → KeepsCalls t bs bs'
calls-all_ended t bs [] end bs' h = calls-same t bs bs' h
calls-all_ended t bs (i ∷ visits) end bs' h =
    calls-then t bs (slice_set bs i h.1) bs'
    (calls-set t bs (slice_set bs i h.1) i h.0 h.1 h.2 h.3.thread h.3.call (λ other. h.3.visited) refl)
    (calls-all_ended t (slice_set bs i h.1) visits end bs' h.4)

-- where a call's answer ends its block or its visits
pub calls-over : {K : Type 0} (t : ℕ) (bs bs' : List (Block K)) (o : Option ℕ) (visits : List ℕ) (n end : ℕ)
    → EndsCall bs o visits n end bs' → KeepsCalls t bs bs'
calls-over t bs bs' o [] n end h = calls-ended t bs bs' o n end h
calls-over t bs bs' o (i ∷ visits) n end h = calls-all_ended t bs (i ∷ visits) end bs' h

module _ {K V D T : Type 0} (x : Setup K V D T) (t : ℕ) (bs bs' : List (Block K)) (calls : KeepsCalls t bs bs') where
  -- so a session's key stays
  pub key-still : (o : Option ℕ) → ((i : ℕ) → o ≡ Some i → (b : Block K) × (slice_get bs i ≡ Some b))
      → guarded_key x bs' o ≡ guarded_key x bs o
  key-still None own = refl
  key-still (Some i) own =
      let b = own i refl in
      let c = calls i b.0 b.1 in
      let same : block_key x c.0 ≡ block_key x b.0 = ap₂ (λ t n. option_and_then key_of (ask_at x t n)) c.2 c.3 in
      ap (option_and_then (block_key x)) c.1 ∙ (same ∙ sym (ap (option_and_then (block_key x)) b.1))

  -- and so does the key of a place's slot
  pub slot-still : {A : Type 0} (p : Place K V D T A)
      → ((i : ℕ) → p.block ≡ Some i → (b : Block K) × (slice_get bs i ≡ Some b)) → slot_key x bs' p ≡ slot_key x bs p
  slot-still p own = ap (λ k. if is_some (lent_way p.guard) then k else phase_key p.phase) (key-still p.block own)

module _ {K V D T A : Type 0} (x : Setup K V D T) (bs : List (Block K)) (p : Place K V D T A) where
  -- the key of a place's slot is its session's where its guard lends a pair, and else its call's
  pub slot-lent : (kind : Way K) → lent_way p.guard ≡ Some kind → slot_key x bs p ≡ guarded_key x bs p.block
  slot-lent kind e = ap (λ (g : Option (Way K)). if is_some g then guarded_key x bs p.block else phase_key p.phase) e

  pub slot-unlent : lent_way p.guard ≡ None → slot_key x bs p ≡ phase_key p.phase
  slot-unlent e = ap (λ (g : Option (Way K)). if is_some g then guarded_key x bs p.block else phase_key p.phase) e

  -- a place has no slot without a guard and before a phase that needs none
  pub slot-free : p.guard ≡ None → phase_key p.phase ≡ None → slot_key x bs p ≡ None
  slot-free e f = slot-unlent (ap lent_way e) ∙ f

module _ {K V D T A : Type 0} (x : Setup K V D T) (threads : List ℕ) (bs : List (Block K))
    (tables : List (ShardPairs K V)) (t : ℕ) (p : Place K V D T A) where
  session-holds : (n : ℕ) (session block : Option ℕ) (kind : Way K) → IsInSession x bs tables t p n session block
      → p.guard ≡ Some (guard.Pair kind) → HoldsShard p (way_mode kind)
  session-holds n session block kind h e = (guard_is x bs tables t p n session block (guard.Pair kind) h e).1.2

  -- a guard that lends a pair holds its shard, whatever the place is before
  lends-holds : (f : Phase K V D T A) → Claim x threads bs tables t p f → (kind : Way K)
      → p.guard ≡ Some (guard.Pair kind) → HoldsShard p (way_mode kind)
  lends-holds phase.Rest h kind e = session-holds p.next _ p.block kind h.2 e
  lends-holds (phase.Admit r) h kind e = absurd (none-some (guard.Pair kind) (sym h.1.guard ∙ e))
  lends-holds (phase.Find r) h kind e = absurd (none-some (guard.Pair kind) (sym h.1.guard ∙ e))
  lends-holds (phase.Grow r) h kind e = absurd (none-some (guard.Pair kind) (sym h.1.guard ∙ e))
  lends-holds (phase.Append k v) h kind e = absurd (none-some (guard.Pair kind) (sym h.1.guard ∙ e))
  lends-holds (phase.Apply k) h kind e = absurd (none-some (guard.Pair kind) (sym h.2.guard ∙ e))
  lends-holds (phase.View k d) h kind e = absurd (none-some (guard.Pair kind) (sym h.2.guard ∙ e))
  lends-holds (phase.Read d) h kind e = session-holds p.next _ p.block kind h.3 e
  lends-holds (phase.Change c) h kind e = session-holds p.next _ p.block kind h.5 e
  lends-holds (phase.Fill v) h kind e = session-holds p.next _ p.block kind h.4 e
  lends-holds phase.Downgrade h kind e = session-holds p.next _ p.block kind h.3 e
  lends-holds (phase.Idle f) h kind e = absurd (none-some (guard.Pair kind) (sym h.1.1 ∙ e))
  lends-holds (phase.Reach f) h kind e = absurd (none-some (guard.Pair kind) (sym h.1.1 ∙ e))
  lends-holds (phase.Part f) h kind e = absurd (none-some (guard.Pair kind) (sym h.1.1 ∙ e))
  lends-holds (phase.Visit f) h kind e = absurd (none-some (guard.Pair kind) (sym h.1.1 ∙ e))
  lends-holds (phase.Seek f) h kind e = absurd (none-some (guard.Pair kind) (sym h.1.1 ∙ e))
  lends-holds (phase.Item f) h kind e = absurd (none-some (guard.Pair kind) (sym h.1.1 ∙ e))
  lends-holds (phase.Give f) h kind e = absurd (none-some (guard.Pair kind) (sym h.1.1 ∙ e))
  lends-holds (phase.Onward f) h kind e = absurd (none-some (guard.Pair kind) (sym h.1.1 ∙ e))
  lends-holds (phase.Release r) h kind e =
      let releasing : IsReleasing x bs tables t p h.0 r (Some (guard.Pair kind)) =
      subst (λ (g : Option (Guard K)). IsReleasing x bs tables t p h.0 r g) e h.4 in
      session-holds p.next _ p.block kind releasing.2 e
  lends-holds (phase.Answer r) h kind e = session-holds (p.next + 1) _ _ kind h.4 e

  -- and so does a call that has found its pair
  finds-holds : (f : Phase K V D T A) → Claim x threads bs tables t p f → (key : K) → phase_key f ≡ Some key
      → (m : Mode) × HoldsShard p m
  finds-holds (phase.Apply k) h key e = (Exclusive, h.2.alone)
  finds-holds (phase.View k d) h key e = (Shared, h.3)
  finds-holds f h key e = absurd (cc)

  pub slot-holds : Claim x threads bs tables t p p.phase → (key : K) → slot_key x bs p ≡ Some key → (m : Mode)
      × HoldsShard p m
  slot-holds h key e = elim (option_cases (lent_way p.guard)) [
    | inl none ↦ finds-holds p.phase h key (sym (slot-unlent x bs p none) ∙ e)
    | inr some ↦ (way_mode some.0, lends-holds p.phase h some.0 (way_is p.guard some.0 some.1))
  ]

-- while a thread holds its shard alone no other thread holds it
pub holds-apart : {K V S D T A : Type 0} (x : Setup K V D T) (w : State K V S D T A) → Sound x w
    → (t u : ℕ) (p q : Place K V D T A) → t ≢ u → slice_get w.places t ≡ Some p → slice_get w.places u ≡ Some q
    → HoldsShard p Exclusive → (m : Mode) → HoldsShard q m → p.shard ≢ q.shard
holds-apart x w sound t u p q ne here there alone m other same =
    let both = sound.holds.compatible t u 0 0 p q alone.hold other.hold ne here there
    (first-there p.holds alone.hold [] alone.has) (first-there q.holds other.hold [] other.has)
    (alone.shard ∙ (same ∙ sym other.shard)) in
    let shares : Exclusive ≡ Shared = sym alone.mode_is ∙ both.0 in
    cc

-- so it has no slot there
pub slots-apart : {K V S D T A : Type 0} (x : Setup K V D T) (w : State K V S D T A) → Sound x w
    → (t u : ℕ) (p q : Place K V D T A) → t ≢ u → slice_get w.places t ≡ Some p → slice_get w.places u ≡ Some q
    → HoldsShard p Exclusive → (key : K) → slot_key x w.blocks q ≡ Some key → p.shard ≢ q.shard
slots-apart x w sound t u p q ne here there alone key is =
    let other = slot-holds x (threads_of w) w.blocks w.tables u q (sound.stands u q there).claim key is in
    holds-apart x w sound t u p q ne here there alone other.0 other.1

-- the next pair of a visit stays where the shard is the same and the visit's block has done the same keys
pub next-kept : {K V D T A : Type 0} (eq : K → K → Bool) (tables tables' : List (Table K V)) (bs bs' : List (Block K))
    (q : KeptPlace K V D T A) (f : Walk D) (n : IsNextSlot eq tables bs q f) (c : Block K)
    → slice_get bs' n.index ≡ Some c → c.visited.items ≡ n.block.visited.items → slice_get tables' q.shard ≡ slice_get
    tables q.shard → IsNextSlot eq tables' bs' q f
next-kept {K} {V} eq tables tables' bs bs' q f n c listed same shard = record {
  index = n.index;
  own = n.own;
  block = c;
  listed = listed;
  table = n.table;
  held = shard ∙ n.held;
  entry = n.entry;
  there = n.there;
  numbered = n.numbered;
  done = λ j e lt at. ap (λ keys. is_visited eq keys e.key) same ∙ n.done j e lt at;
  left = λ j e le at. ap (λ keys. is_visited eq keys e.key) same ∙ n.left j e le at;
  goes_on = n.goes_on;
  fits = n.fits;
}

-- and where the place is before another phase
pub next-before : {K V D T A : Type 0} (eq : K → K → Bool) (tables : List (Table K V)) (bs : List (Block K))
    (q : KeptPlace K V D T A) (f : Walk D) (ph : Phase K V D T A) → IsNextSlot eq tables bs q f
    → IsNextSlot eq tables bs (record q { phase = ph }) f
next-before eq tables bs q f ph n = record {
  index = n.index;
  own = n.own;
  block = n.block;
  listed = n.listed;
  table = n.table;
  held = n.held;
  entry = n.entry;
  there = n.there;
  numbered = n.numbered;
  done = n.done;
  left = n.left;
  goes_on = n.goes_on;
  fits = n.fits;
}

module _ {K V S D T A : Type 0} (x : Setup K V D T) (hash : K → ℕ) (c : Core K V S D T A) (sound : Sound x (state_of c))
    (slots : HasSlots x hash c.tables.items c.blocks.items c.places.items)
    (t : ℕ) (p p' : KeptPlace K V D T A) (here : slice_get c.places.items t ≡ Some p) (bs' : List (Block K))
    (calls : KeepsCalls t c.blocks.items bs') where
  own-block : (u : ℕ) (q : KeptPlace K V D T A) → slice_get c.places.items u ≡ Some q → (i : ℕ) → q.block ≡ Some i
      → (b : Block K) × (slice_get c.blocks.items i ≡ Some b)
  own-block u q at i e = let o = (sound.stands u (place_of q) (view-at place_of c.places.items u q at)).own_block i e in
      (o.0, o.1)

  other-key : (u : ℕ) (q : KeptPlace K V D T A) → slice_get c.places.items u ≡ Some q
      → slot_key x bs' (place_of q) ≡ slot_key x c.blocks.items (place_of q)
  other-key u q at = slot-still x t c.blocks.items bs' calls (place_of q) (own-block u q at)

  -- another thread's visit goes on to have its next pair, where its shard is the same
  other-visit : (u : ℕ) (q : KeptPlace K V D T A) → u ≢ t → slice_get c.places.items u ≡ Some q
      → (tables' : List (Table K V)) → slice_get tables' q.shard ≡ slice_get c.tables.items q.shard
      → (f : Walk D) → IsNextSlot x.eq c.tables.items c.blocks.items q f → IsNextSlot x.eq tables' bs' q f
  other-visit u q ne at tables' shard f n =
      let own = (sound.stands u (place_of q) (view-at place_of c.places.items u q at)).own_visits.are n.index
      (q.shard, n.own) in
      let same : own.block ≡ n.block = same_Some own.block n.block (sym own.listed ∙ n.listed) in
      let d = calls n.index n.block n.listed in
      next-kept x.eq c.tables.items tables' c.blocks.items bs' q f n d.0 d.1
      (d.4 (λ mine. ne (sym own.thread ∙ (ap (λ (z : Block K). z.thread) same ∙ mine)))) shard

  other-next : (u : ℕ) (q : KeptPlace K V D T A) → u ≢ t → slice_get c.places.items u ≡ Some q
      → (tables' : List (Table K V))
      → ((f : Walk D) → HoldsShard (place_of q) (walk_mode f) → slice_get tables' q.shard ≡ slice_get c.tables.items
      q.shard) → SlotIsNext x.eq tables' bs' q q.phase
  other-next u q ne at tables' shard = by q.phase refl
    where
      claim : Claim x (threads_of (state_of c)) (state_of c).blocks (state_of c).tables u (place_of q) q.phase
      claim = (sound.stands u (place_of q) (view-at place_of c.places.items u q at)).claim

      by : (f : Phase K V D T A) → q.phase ≡ f → SlotIsNext x.eq tables' bs' q f
      by (phase.Seek f) e =
          let held = subst (λ z. Claim x (threads_of (state_of c)) (state_of c).blocks (state_of c).tables u
          (place_of q) z) e claim in
          other-visit u q ne at tables' (shard f held.2) f
          (subst (λ z. SlotIsNext x.eq c.tables.items c.blocks.items q z) e (slots.next u q at))
      by (phase.Item f) e =
          let held = subst (λ z. Claim x (threads_of (state_of c)) (state_of c).blocks (state_of c).tables u
          (place_of q) z) e claim in
          other-visit u q ne at tables' (shard f held.2) f
          (subst (λ z. SlotIsNext x.eq c.tables.items c.blocks.items q z) e (slots.next u q at))
      by f e = tt

  -- a step that changes no shard
  pub slots-same : ((key : K) → slot_key x bs' (place_of p') ≡ Some key → IsAt x.eq c.tables.items p'.shard p'.slot key)
      → SlotIsNext x.eq c.tables.items bs' p' p'.phase
      → HasSlots x hash c.tables.items bs' (slice_set c.places.items t p')
  slots-same own visit = record { hashed = slots.hashed; found = found; next = next }
    where
      found : (u : ℕ) (q : KeptPlace K V D T A) (key : K) → slice_get (slice_set c.places.items t p') u ≡ Some q
          → slot_key x bs' (place_of q) ≡ Some key → IsAt x.eq c.tables.items q.shard q.slot key
      found u q key at is = elim (slice_get-set_cases c.places.items t u p q p' here at) [
        | inl mine ↦ subst (λ (z : KeptPlace K V D T A). slot_key x bs' (place_of z) ≡ Some key
            → IsAt x.eq c.tables.items z.shard z.slot key) (sym mine.1) (own key) is
        | inr other ↦ slots.found u q key other.1 (sym (other-key u q other.1) ∙ is)
      ]

      next : (u : ℕ) (q : KeptPlace K V D T A) → slice_get (slice_set c.places.items t p') u ≡ Some q
          → SlotIsNext x.eq c.tables.items bs' q q.phase
      next u q at = elim (slice_get-set_cases c.places.items t u p q p' here at) [
        | inl mine ↦ subst (λ (z : KeptPlace K V D T A). SlotIsNext x.eq c.tables.items bs' z z.phase) (sym mine.1)
            visit
        | inr other ↦ other-next u q other.0 other.1 c.tables.items (λ f held. refl)
      ]

  -- one that changes the shard which the thread holds alone
  pub slots-alone : HoldsShard (place_of p) Exclusive → (table table' : Table K V)
      → slice_get c.tables.items p.shard ≡ Some table → HasHashes hash table'
      → ((key : K) → slot_key x bs' (place_of p') ≡ Some key → (p'.shard ≡ p.shard) × HasKeyAt x.eq table' p'.slot key)
      → SlotIsNext x.eq (slice_set c.tables.items p.shard table') bs' p' p'.phase
      → HasSlots x hash (slice_set c.tables.items p.shard table') bs' (slice_set c.places.items t p')
  slots-alone alone table table' held fresh own visit = record { hashed = hashed; found = found; next = next }
    where
      hashed : (i : ℕ) (z : Table K V) → slice_get (slice_set c.tables.items p.shard table') i ≡ Some z
          → HasHashes hash z
      hashed i z at = elim (slice_get-set_cases c.tables.items p.shard i table z table' held at) [
        | inl mine ↦ subst (HasHashes hash) (sym mine.1) fresh
        | inr other ↦ slots.hashed i z other.1
      ]

      found : (u : ℕ) (q : KeptPlace K V D T A) (key : K) → slice_get (slice_set c.places.items t p') u ≡ Some q
          → slot_key x bs' (place_of q) ≡ Some key
          → IsAt x.eq (slice_set c.tables.items p.shard table') q.shard q.slot key
      found u q key at is = elim (slice_get-set_cases c.places.items t u p q p' here at) [
        | inl mine ↦
            let k = own key (subst (λ (z : KeptPlace K V D T A). slot_key x bs' (place_of z) ≡ Some key) mine.1 is) in
            let at-shard = ap (λ (z : KeptPlace K V D T A). z.shard) mine.1 ∙ k.0 in
            record {
              table = table';
              held = ap (slice_get (slice_set c.tables.items p.shard table')) at-shard
                  ∙ slice_get-set_same c.tables.items p.shard table table' held;
              has = subst (λ (z : KeptPlace K V D T A). HasKeyAt x.eq table' z.slot key) (sym mine.1) k.1;
            }
        | inr other ↦
            let was = sym (other-key u q other.1) ∙ is in
            let old = slots.found u q key other.1 was in
            let apart = slots-apart x (state_of c) sound t u (place_of p) (place_of q) (λ e. other.0 (sym e))
            (view-at place_of c.places.items t p here) (view-at place_of c.places.items u q other.1) alone key was
            in
            record {
              table = old.table;
              held = slice_get-set_other c.tables.items p.shard q.shard table' apart
                  ∙ old.held;
              has = old.has;
            }
      ]

      next : (u : ℕ) (q : KeptPlace K V D T A) → slice_get (slice_set c.places.items t p') u ≡ Some q
          → SlotIsNext x.eq (slice_set c.tables.items p.shard table') bs' q q.phase
      next u q at = elim (slice_get-set_cases c.places.items t u p q p' here at) [
        | inl mine ↦ subst
            (λ (z : KeptPlace K V D T A). SlotIsNext x.eq (slice_set c.tables.items p.shard table') bs' z z.phase)
            (sym mine.1) visit
        | inr other ↦ other-next u q other.0 other.1 (slice_set c.tables.items p.shard table') (λ f holds.
            slice_get-set_other c.tables.items p.shard q.shard table'
            (holds-apart x (state_of c) sound t u (place_of p) (place_of q) (λ e. other.0 (sym e))
            (view-at place_of c.places.items t p here) (view-at place_of c.places.items u q other.1) alone
            (walk_mode f) holds))
      ]

  -- the key of the place's slot was the same where a guard goes on to lend the pair, and nothing else is looked for
  pub slot-was : ((kind : Way K) → lent_way p'.guard ≡ Some kind → is_some (lent_way p.guard) ≡ true)
      → ((i : ℕ) → p'.block ≡ Some i → p.block ≡ Some i) → phase_key p'.phase ≡ None
      → (key : K) → slot_key x bs' (place_of p') ≡ Some key → slot_key x c.blocks.items (place_of p) ≡ Some key
  slot-was lends blocks free key is = elim (option_cases (lent_way p'.guard)) [
    | inl none ↦ absurd (none-some key (sym (slot-unlent x bs' (place_of p') none ∙ free) ∙ is))
    | inr some ↦
        let now : guarded_key x bs' p'.block ≡ Some key = sym (slot-lent x bs' (place_of p') some.0 some.1) ∙ is in
        ap (λ b. if b then guarded_key x c.blocks.items p.block else phase_key p.phase) (lends some.0 some.1)
        ∙ (sym (key-still x t c.blocks.items bs' calls p.block (own-block t p here)) ∙ in-block p'.block blocks now)
  ]
    where
      in-block : (o : Option ℕ) → ((i : ℕ) → o ≡ Some i → p.block ≡ Some i) → guarded_key x bs' o ≡ Some key
          → guarded_key x bs' p.block ≡ Some key
      in-block None same at = absurd (none-some key at)
      in-block (Some i) same at = ap (guarded_key x bs') (same i refl) ∙ at

  -- a step that changes no shard, and leaves the place's slot
  pub slots-kept : ((kind : Way K) → lent_way p'.guard ≡ Some kind → is_some (lent_way p.guard) ≡ true)
      → ((i : ℕ) → p'.block ≡ Some i → p.block ≡ Some i) → phase_key p'.phase ≡ None
      → p'.shard ≡ p.shard → p'.slot ≡ p.slot → walking p'.phase ≡ false
      → HasSlots x hash c.tables.items bs' (slice_set c.places.items t p')
  slots-kept lends blocks free shard slot plain = slots-same (λ key is.
      let old = slots.found t p key here (slot-was lends blocks free key is) in
      record {
        table = old.table;
        held = ap (slice_get c.tables.items) shard ∙ old.held;
        has = subst (λ i. HasKeyAt x.eq old.table i key) (sym slot) old.has;
      })
      (next-free x.eq c.tables.items bs' p' p'.phase plain)

  no-slot : p'.guard ≡ None → phase_key p'.phase ≡ None → (key : K) → ¬ (slot_key x bs' (place_of p') ≡ Some key)
  no-slot guard free key is = none-some key (sym (slot-free x bs' (place_of p') guard free) ∙ is)

  -- a step behind which the place has no slot
  pub slots-same_free : p'.guard ≡ None → phase_key p'.phase ≡ None → SlotIsNext x.eq c.tables.items bs' p' p'.phase
      → HasSlots x hash c.tables.items bs' (slice_set c.places.items t p')
  slots-same_free guard free visit = slots-same (λ key is. absurd (no-slot guard free key is)) visit

  pub slots-alone_free : HoldsShard (place_of p) Exclusive → (table table' : Table K V)
      → slice_get c.tables.items p.shard ≡ Some table → HasHashes hash table'
      → p'.guard ≡ None → phase_key p'.phase ≡ None → SlotIsNext x.eq (slice_set c.tables.items p.shard table') bs' p'
      p'.phase → HasSlots x hash (slice_set c.tables.items p.shard table') bs' (slice_set c.places.items t p')
  slots-alone_free alone table table' held fresh guard free visit = slots-alone alone table table' held fresh
      (λ key is. absurd (no-slot guard free key is)) visit

  -- a step of a walk, which leaves a shard that it shares as it is
  pub slots-walked : (m : Mode) → HoldsShard (place_of p) m → (table table' : Table K V)
      → slice_get c.tables.items p.shard ≡ Some table → (m ≡ Shared → table' ≡ table) → HasHashes hash table'
      → p'.guard ≡ None → phase_key p'.phase ≡ None → SlotIsNext x.eq (slice_set c.tables.items p.shard table') bs' p'
      p'.phase → HasSlots x hash (slice_set c.tables.items p.shard table') bs' (slice_set c.places.items t p')
  slots-walked Exclusive holds table table' held same fresh guard free visit = slots-alone_free holds table table' held
      fresh guard free visit
  slots-walked Shared holds table table' held same fresh guard free visit =
      let back : slice_set c.tables.items p.shard table' ≡ c.tables.items = ap (slice_set c.tables.items p.shard)
      (same refl) ∙ slice_set-itself c.tables.items p.shard table held in
      subst (λ ts. HasSlots x hash ts bs' (slice_set c.places.items t p')) (sym back)
      (slots-same_free guard free (subst (λ ts. SlotIsNext x.eq ts bs' p' p'.phase) back visit))

  -- one that changes the shard which the thread holds alone, behind which a guard may go on to lend the pair in the
  -- slot
  pub slots-alone_lent : HoldsShard (place_of p) Exclusive → (table table' : Table K V)
      → slice_get c.tables.items p.shard ≡ Some table → HasHashes hash table'
      → ((kind : Way K) → lent_way p'.guard ≡ Some kind → is_some (lent_way p.guard) ≡ true)
      → ((i : ℕ) → p'.block ≡ Some i → p.block ≡ Some i) → phase_key p'.phase ≡ None
      → p'.shard ≡ p.shard → p'.slot ≡ p.slot
      → ((kind : Way K) → lent_way p'.guard ≡ Some kind → (key : K) → HasKeyAt x.eq table p.slot key
      → HasKeyAt x.eq table' p.slot key)
      → walking p'.phase ≡ false → HasSlots x hash (slice_set c.tables.items p.shard table') bs'
      (slice_set c.places.items t p')
  slots-alone_lent alone table table' held fresh lends blocks free shard slot stays plain =
      slots-alone alone table table' held fresh own
      (next-free x.eq (slice_set c.tables.items p.shard table') bs' p' p'.phase plain)
    where
      own : (key : K) → slot_key x bs' (place_of p') ≡ Some key → (p'.shard ≡ p.shard)
          × HasKeyAt x.eq table' p'.slot key
      own key is = elim (option_cases (lent_way p'.guard)) [
        | inl none ↦ absurd (none-some key (sym (slot-unlent x bs' (place_of p') none ∙ free) ∙ is))
        | inr some ↦
            let old = slots.found t p key here (slot-was lends blocks free key is) in
            let same : old.table ≡ table = same_Some old.table table (sym old.held ∙ held) in (
              shard,
              subst (λ i. HasKeyAt x.eq table' i key) (sym slot)
                  (stays some.0 some.1 key (subst (λ (z : Table K V). HasKeyAt x.eq z p.slot key) same old.has)),
            )
      ]

  -- or a guard begins to lend the pair of its session's key, which has got that slot
  pub slots-alone_begun : HoldsShard (place_of p) Exclusive → (table table' : Table K V)
      → slice_get c.tables.items p.shard ≡ Some table → HasHashes hash table'
      → (kind : Way K) → lent_way p'.guard ≡ Some kind → p'.block ≡ p.block → p'.shard ≡ p.shard → (key : K)
      → guarded_key x c.blocks.items p.block ≡ Some key → HasKeyAt x.eq table' p'.slot key
      → walking p'.phase ≡ false → HasSlots x hash (slice_set c.tables.items p.shard table') bs'
      (slice_set c.places.items t p')
  slots-alone_begun alone table table' held fresh kind lends block shard key key-is has plain =
      slots-alone alone table table' held fresh own
      (next-free x.eq (slice_set c.tables.items p.shard table') bs' p' p'.phase plain)
    where
      own : (q : K) → slot_key x bs' (place_of p') ≡ Some q → (p'.shard ≡ p.shard) × HasKeyAt x.eq table' p'.slot q
      own q is =
          let now : guarded_key x bs' p.block ≡ Some q = ap (guarded_key x bs') (sym block)
          ∙ (sym (slot-lent x bs' (place_of p') kind lends) ∙ is) in
          let same : key ≡ q =
          same_Some key q (sym key-is
          ∙ (sym (key-still x t c.blocks.items bs' calls p.block (own-block t p here)) ∙ now)) in
          (shard, subst (HasKeyAt x.eq table' p'.slot) same has)

-- where a call's pair, and a guard's, stands
module _ {K V D T A : Type 0} {x : Setup K V D T} {hash : K → ℕ} {tables : List (Table K V)} {bs : List (Block K)}
    {places : List (KeptPlace K V D T A)} (slots : HasSlots x hash tables bs places)
    (t : ℕ) (p : KeptPlace K V D T A) (here : slice_get places t ≡ Some p) where
  pub call-slot : p.guard ≡ None → (key : K) → phase_key p.phase ≡ Some key → IsAt x.eq tables p.shard p.slot key
  call-slot guard key is = slots.found t p key here (slot-unlent x bs (place_of p) (ap lent_way guard) ∙ is)

  pub guard-slot : (kind : Way K) → p.guard ≡ Some (guard.Pair kind) → (key : K) → guarded_key x bs p.block ≡ Some key
      → IsAt x.eq tables p.shard p.slot key
  guard-slot kind guard key is = slots.found t p key here (slot-lent x bs (place_of p) kind (ap lent_way guard) ∙ is)
