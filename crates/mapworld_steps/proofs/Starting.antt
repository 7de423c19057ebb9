-- The slot of a place behind the start of a call: a call on the guard leaves it, and any other call starts without one.
use Rattle.std.proofs.Common.{◌≡◌, ℕ, zero, suc, ◌+◌, ◌<◌, Bool, true, false, ◌||◌, ◌⊎◌, inl, inr, ⊎_elim}
use Rattle.std.proofs.Common.{if◌then◌else◌, List, [], ◌∷◌, length, drop, Option, Some, None, is_some, slice_get}
use Rattle.std.proofs.Common.{slice_set, refl, sym, ap, ◌∙◌, subst}
use Rattle.std.specs.List.{list_any}
use Rattle.std.specs.Option.{option_and_then}
use Rattle.std.proofs.lemmas.Option.{none-some}
use Rattle.std.proofs.lemmas.Bool.{false≢true}
use Rattle.mapworld_calls.specs.declared.ask.Ask.{Ask}
use Rattle.mapworld_calls.specs.declared.ask.Ask.TheVariants as ask
use Rattle.mapworld_calls.specs.declared.ask.Held.{Held}
use Rattle.mapworld_calls.specs.declared.ask.Held.TheVariants as held
use Rattle.mapworld_calls.specs.declared.ask.Walk.{Walk}
use Rattle.mapworld_calls.specs.declared.block.Block.{Block}
use Rattle.mapworld_calls.specs.Programs.{opening_before, stop_of}
use Rattle.mapworld_calls.specs.Setup.{Setup, session_of}
use Rattle.mapworld_calls.proofs.Programs.{one_guard_apart, one_guard_begin_apart, one_guard_walk_apart}
use Rattle.mapworld_state.specs.declared.place.Way.{Way}
use Rattle.mapworld_state.specs.declared.place.Way.TheVariants as way
use Rattle.mapworld_state.specs.declared.place.Guard.{Guard}
use Rattle.mapworld_state.specs.declared.place.Guard.TheVariants as guard
use Rattle.mapworld_state.specs.declared.place.Phase.{Phase}
use Rattle.mapworld_state.specs.declared.place.Phase.TheVariants as phase
use Rattle.mapworld_state.specs.declared.place.Place.{Place as KeptPlace}
use Rattle.mapworld_state.specs.declared.world_core.Core.{Core}
use Rattle.mapworld_state.specs.Places.{Place, place_of}
use Rattle.mapworld_state.specs.Shards.{ShardPairs}
use Rattle.mapworld_state.specs.Moves.{lent_way, held_phase, held_guard, stops_at, start_phase, start_guard}
use Rattle.mapworld_state.specs.Moves.{start_shard}
use Rattle.mapworld_state.specs.Sound.{Sound, IsInSession, is_resting}
use Rattle.mapworld_state.specs.Slots.{phase_key, SlotIsNext, HasSlots}
use Rattle.mapworld_state.specs.Classes.{class_of, walks_in}
use Rattle.mapworld_state.specs.Core.{state_of, may_visit}
use Rattle.mapworld_state.proofs.Views.{view-at}
use Rattle.mapworld_transitions.proofs.Facts.{claim_at}
use Rattle.mapworld_transitions.proofs.Slots.{KeepsCalls, slots-same_free, slots-kept}
use Rattle.mapworld_transitions.proofs.Walking.{walking, or-left}

-- a thread is to be admitted to its shard
abbrev pub waits : {K V D T A : Type 0} → Phase K V D T A → Bool
waits phase.Rest = false
waits (phase.Admit r) = true
waits (phase.Reach f) = true
waits (phase.Idle f) = false
waits (phase.Part f) = false
waits (phase.Visit f) = false
waits (phase.Seek f) = false
waits (phase.Item f) = false
waits (phase.Give f) = false
waits (phase.Onward f) = false
waits (phase.Find r) = false
waits (phase.Grow c) = false
waits (phase.Append k v) = false
waits (phase.Apply k) = false
waits (phase.View k d) = false
waits (phase.Read d) = false
waits (phase.Change h) = false
waits (phase.Fill v) = false
waits phase.Downgrade = false
waits (phase.Release a) = false
waits (phase.Answer a) = false

module _ {K V D : Type 0} where
  vacant-lends : (h : Held V D) (k : K) (kind : Way K) → lent_way (held_guard (Some (guard.Vacant k)) h) ≡ Some kind → ⊥
  vacant-lends (held.Read d) k kind e = none-some kind e
  vacant-lends (held.Write d) k kind e = none-some kind e
  vacant-lends held.Downgrade k kind e = none-some kind e
  vacant-lends (held.Insert v) k kind e = none-some kind e
  vacant-lends held.IntoRef k kind e = none-some kind e
  vacant-lends held.Remove k kind e = none-some kind e
  vacant-lends held.RemoveEntry k kind e = none-some kind e
  vacant-lends (held.ReplaceEntry v) k kind e = none-some kind e
  vacant-lends held.IntoKey k kind e = none-some kind e
  vacant-lends held.Drop k kind e = none-some kind e

  -- a guard that lends a pair behind a start did so before
  held-lends : (h : Held V D) (g : Option (Guard K)) (kind : Way K) → lent_way (held_guard g h) ≡ Some kind
      → is_some (lent_way g) ≡ true
  held-lends h None kind e = absurd (none-some kind e)
  held-lends h (Some (guard.Pair w)) kind e = refl
  held-lends h (Some (guard.Vacant k)) kind e = absurd (vacant-lends h k kind e)

  -- and its call looks for no pair
  held-free : (T A : Type 0) (h : Held V D) (g : Option (Guard K))
      → (phase_key (held_phase {K = K} {V = V} {D = D} {T = T} {A = A} g h) ≡ None)
      × (waits (held_phase {K = K} {V = V} {D = D} {T = T} {A = A} g h) ≡ false)
      × (walking (held_phase {K = K} {V = V} {D = D} {T = T} {A = A} g h) ≡ false)
  held-free T A h None = (refl, refl, refl)
  held-free T A (held.Read d) (Some (guard.Pair way.Shared)) = (refl, refl, refl)
  held-free T A (held.Write d) (Some (guard.Pair way.Shared)) = (refl, refl, refl)
  held-free T A held.Downgrade (Some (guard.Pair way.Shared)) = (refl, refl, refl)
  held-free T A (held.Insert v) (Some (guard.Pair way.Shared)) = (refl, refl, refl)
  held-free T A held.IntoRef (Some (guard.Pair way.Shared)) = (refl, refl, refl)
  held-free T A held.Remove (Some (guard.Pair way.Shared)) = (refl, refl, refl)
  held-free T A held.RemoveEntry (Some (guard.Pair way.Shared)) = (refl, refl, refl)
  held-free T A (held.ReplaceEntry v) (Some (guard.Pair way.Shared)) = (refl, refl, refl)
  held-free T A held.IntoKey (Some (guard.Pair way.Shared)) = (refl, refl, refl)
  held-free T A held.Drop (Some (guard.Pair way.Shared)) = (refl, refl, refl)
  held-free T A (held.Read d) (Some (guard.Pair way.Exclusive)) = (refl, refl, refl)
  held-free T A (held.Write d) (Some (guard.Pair way.Exclusive)) = (refl, refl, refl)
  held-free T A held.Downgrade (Some (guard.Pair way.Exclusive)) = (refl, refl, refl)
  held-free T A (held.Insert v) (Some (guard.Pair way.Exclusive)) = (refl, refl, refl)
  held-free T A held.IntoRef (Some (guard.Pair way.Exclusive)) = (refl, refl, refl)
  held-free T A held.Remove (Some (guard.Pair way.Exclusive)) = (refl, refl, refl)
  held-free T A held.RemoveEntry (Some (guard.Pair way.Exclusive)) = (refl, refl, refl)
  held-free T A (held.ReplaceEntry v) (Some (guard.Pair way.Exclusive)) = (refl, refl, refl)
  held-free T A held.IntoKey (Some (guard.Pair way.Exclusive)) = (refl, refl, refl)
  held-free T A held.Drop (Some (guard.Pair way.Exclusive)) = (refl, refl, refl)
  held-free T A (held.Read d) (Some (guard.Pair (way.Occupied k))) = (refl, refl, refl)
  held-free T A (held.Write d) (Some (guard.Pair (way.Occupied k))) = (refl, refl, refl)
  held-free T A held.Downgrade (Some (guard.Pair (way.Occupied k))) = (refl, refl, refl)
  held-free T A (held.Insert v) (Some (guard.Pair (way.Occupied k))) = (refl, refl, refl)
  held-free T A held.IntoRef (Some (guard.Pair (way.Occupied k))) = (refl, refl, refl)
  held-free T A held.Remove (Some (guard.Pair (way.Occupied k))) = (refl, refl, refl)
  held-free T A held.RemoveEntry (Some (guard.Pair (way.Occupied k))) = (refl, refl, refl)
  held-free T A (held.ReplaceEntry v) (Some (guard.Pair (way.Occupied k))) = (refl, refl, refl)
  held-free T A held.IntoKey (Some (guard.Pair (way.Occupied k))) = (refl, refl, refl)
  held-free T A held.Drop (Some (guard.Pair (way.Occupied k))) = (refl, refl, refl)
  held-free T A (held.Read d) (Some (guard.Vacant k)) = (refl, refl, refl)
  held-free T A (held.Write d) (Some (guard.Vacant k)) = (refl, refl, refl)
  held-free T A held.Downgrade (Some (guard.Vacant k)) = (refl, refl, refl)
  held-free T A (held.Insert v) (Some (guard.Vacant k)) = (refl, refl, refl)
  held-free T A held.IntoRef (Some (guard.Vacant k)) = (refl, refl, refl)
  held-free T A held.Remove (Some (guard.Vacant k)) = (refl, refl, refl)
  held-free T A held.RemoveEntry (Some (guard.Vacant k)) = (refl, refl, refl)
  held-free T A (held.ReplaceEntry v) (Some (guard.Vacant k)) = (refl, refl, refl)
  held-free T A held.IntoKey (Some (guard.Vacant k)) = (refl, refl, refl)
  held-free T A held.Drop (Some (guard.Vacant k)) = (refl, refl, refl)

drop-first : {X : Type 0} (xs : List X) (n : ℕ) (x : X) (rest : List X) → drop n xs ≡ x ∷ rest → slice_get xs n ≡ Some x
drop-first xs zero x rest is = ap (λ zs. slice_get zs 0) is
drop-first [] (suc n) x rest is = absurd (cc)
drop-first (y ∷ ys) (suc n) x rest is = drop-first ys n x rest is

outside : {K V D T A : Type 0} (x : Setup K V D T) (bs : List (Block K)) (tables : List (ShardPairs K V)) (t : ℕ)
    (p : Place K V D T A) (n : ℕ) (session block : Option ℕ)
    → session ≡ None → IsInSession x bs tables t p n session block → p.guard ≡ None
outside x bs tables t p n session block none h =
    (subst (λ (o : Option ℕ). IsInSession x bs tables t p n o block) none h).0

module _ {K V S D T A : Type 0} (x : Setup K V D T) (hash : K → ℕ) (c : Core K V S D T A) (sound : Sound x (state_of c))
    (slots : HasSlots x hash c.tables.items c.blocks.items c.places.items)
    (t : ℕ) (p p' : KeptPlace K V D T A) (here : slice_get c.places.items t ≡ Some p) (before : p.phase ≡ phase.Rest)
    (bs' : List (Block K)) (calls : KeepsCalls t c.blocks.items bs') (rest : List (Ask K V D)) where
  first : (a : Ask K V D) → p.asks.items ≡ a ∷ rest
      → slice_get (sound.stands t (place_of p) (view-at place_of c.places.items t p here)).program p.next ≡ Some a
  first a asks =
      let st = sound.stands t (place_of p) (view-at place_of c.places.items t p here) in
      let left : p.asks.items ≡ drop p.next st.program = st.asks_left
      ∙ ap (λ f. drop (if is_resting f then p.next else p.next + 1) st.program) before in
      drop-first st.program p.next a rest (sym left ∙ asks)

  unguarded : session_of x t p.next ≡ None → p.guard ≡ None
  unguarded none =
      let claim = claim_at sound t (place_of p) (view-at place_of c.places.items t p here) before in
      outside x c.blocks.items (state_of c).tables t (place_of p) p.next _ p.block none claim.2

  session-none : opening_before (sound.stands t (place_of p) (view-at place_of c.places.items t p here)).program p.next
      ≡ None → session_of x t p.next ≡ None
  session-none none =
      let st = sound.stands t (place_of p) (view-at place_of c.places.items t p here) in
      ap (option_and_then (λ program. opening_before program p.next)) st.has ∙ none

  -- a call that isn't on the guard starts without one
  apart : p.guard ≡ None → p'.guard ≡ p.guard → phase_key p'.phase ≡ None → SlotIsNext x.eq c.tables.items bs' p'
      p'.phase → HasSlots x hash c.tables.items bs' (slice_set c.places.items t p')
  apart none same free visit = slots-same_free x hash c sound slots t p p' here bs' calls (same ∙ none) free visit

  -- it is such a call, and its shard is there
  outer : (a : Ask K V D) → p.asks.items ≡ a ∷ rest → waits (start_phase {T = T} {A = A} a p.guard) ≡ true
      ⊎ (walking (start_phase {T = T} {A = A} a p.guard) ≡ true) → (p.guard ≡ None)
      × (start_shard x.route a p.shard < length (state_of c).tables)
  outer (ask.Keyed k) asks is =
      let st = sound.stands t (place_of p) (view-at place_of c.places.items t p here) in (
        unguarded (session-none
            (one_guard_apart st.program (sound.guarded t st.program st.has) p.next k (first (ask.Keyed k) asks))),
        sound.routes _,
      )
  outer (ask.Begin b) asks is =
      let st = sound.stands t (place_of p) (view-at place_of c.places.items t p here) in (
        unguarded (session-none
            (one_guard_begin_apart st.program (sound.guarded t st.program st.has) p.next b (first (ask.Begin b) asks))),
        sound.routes _,
      )
  outer (ask.Walk f) asks is =
      let st = sound.stands t (place_of p) (view-at place_of c.places.items t p here) in (
        unguarded (session-none
            (one_guard_walk_apart st.program (sound.guarded t st.program st.has) p.next f (first (ask.Walk f) asks))),
        subst (λ n. 0 < n) sound.shards sound.some,
      )
  outer (ask.Held h) asks is =
      absurd (⊎_elim (λ w. false≢true (sym (held-free T A h p.guard).1 ∙ w))
      (λ w. false≢true (sym (held-free T A h p.guard).2 ∙ w)) is)

  abbrev walk-phase : Walk D → Bool → Phase K V D T A
  walk-phase f idle = if idle then phase.Idle f else phase.Reach f

  walk-free : (f : Walk D) (idle : Bool) → (phase_key (walk-phase f idle) ≡ None)
      × SlotIsNext x.eq c.tables.items bs' p' (walk-phase f idle) × (walking (walk-phase f idle) ≡ true)
  walk-free f true = (refl, tt, refl)
  walk-free f false = (refl, tt, refl)

  pub started-slots : (a : Ask K V D) → p.asks.items ≡ a ∷ rest → p'.guard ≡ start_guard a p.guard
      → p'.phase ≡ start_phase a p.guard → p'.block ≡ p.block → p'.slot ≡ p.slot
      → p'.shard ≡ start_shard x.route a p.shard
      → HasSlots x hash c.tables.items bs' (slice_set c.places.items t p')
  started-slots (ask.Keyed k) asks lends goes block slot shard = apart (outer (ask.Keyed k) asks (inl refl)).0 lends
      (ap phase_key goes) (subst (SlotIsNext x.eq c.tables.items bs' p') (sym goes) tt)
  started-slots (ask.Begin b) asks lends goes block slot shard = apart (outer (ask.Begin b) asks (inl refl)).0 lends
      (ap phase_key goes) (subst (SlotIsNext x.eq c.tables.items bs' p') (sym goes) tt)
  started-slots (ask.Walk f) asks lends goes block slot shard =
      let free = walk-free f (stops_at (stop_of f) 0) in
      apart (outer (ask.Walk f) asks (inr free.2)).0 lends (ap phase_key goes ∙ free.0)
      (subst (SlotIsNext x.eq c.tables.items bs' p') (sym goes) free.1)
  started-slots (ask.Held h) asks lends goes block slot shard =
      let free = held-free T A h p.guard in
      slots-kept x hash c sound slots t p p' here bs' calls
      (λ kind e. held-lends h p.guard kind (sym (ap lent_way lends) ∙ e)) (λ i e. sym block ∙ e)
      (ap phase_key goes ∙ free.0) shard slot (ap walking goes ∙ free.2)

  -- a call that is to be admitted starts without a guard, and its shard is there
  pub started-enters : (a : Ask K V D) → p.asks.items ≡ a ∷ rest → waits (start_phase {T = T} {A = A} a p.guard) ≡ true
      → (p.guard ≡ None) × (start_shard x.route a p.shard < length (state_of c).tables)
  started-enters a asks is = outer a asks (inl is)

-- a walk that starts was asked
pub start-walks : {K V D T A : Type 0} (asks rest : List (Ask K V D)) (a : Ask K V D) (ph : Phase K V D T A) (b : Bool)
    → asks ≡ a ∷ rest → (walks_in (class_of ph) ≡ true → may_visit a ≡ true)
    → (list_any may_visit rest || walks_in (class_of ph)) ≡ true → (list_any may_visit asks || b) ≡ true
start-walks asks rest a ph b is walks h =
    or-left (list_any may_visit asks) b
    (ap (list_any may_visit) is ∙ by (may_visit a) (list_any may_visit rest) (walks_in (class_of ph)) walks h)
  where
    by : (w r i : Bool) → (i ≡ true → w ≡ true) → (r || i) ≡ true → (w || r) ≡ true
    by true r i walks h = refl
    by false true i walks h = refl
    by false false i walks h = walks h
