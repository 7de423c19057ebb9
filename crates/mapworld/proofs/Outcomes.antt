-- What holds of every world: it agrees with the replay, and exactly the threads between admission and release hold.
use Rattle.std.proofs.Common.{◌≡◌, ℕ, ◌+◌, ◌<◌, inl, inr, Bool, true, false, not, ◌&&◌, ◌==◌, MatchBool, IsTrue}
use Rattle.std.proofs.Common.{if◌then◌else◌, List, [], ◌∷◌, length, Option, Some, None, is_some, slice_get, refl, sym}
use Rattle.std.proofs.Common.{ap, ◌∙◌, arith}
use Rattle.mapworld_state.specs.Shards.{ShardPairs}
use Rattle.std.specs.Hash.{HashWrites}
use Rattle.std.specs.Cmp.{IsEquivalence}
use Rattle.std.specs.declared.hash.BuildHasher as builder
use Rattle.std.specs.declared.hash.Hasher as hasher
use Rattle.mapworld_calls.specs.declared.deed.Deed as deed
use Rattle.std.proofs.lemmas.Option.{slice_get_cases, none-some}
use Rattle.mapworld_calls.specs.declared.block.Block.{Block}
use Rattle.mapworld_calls.specs.Setup.{Setup, Laws}
use Rattle.mapworld_calls.specs.Agrees.{Agrees}
use Rattle.mapworld_state.specs.declared.holds.Mode.{Mode}
use Rattle.mapworld_state.specs.declared.holds.Hold.{Hold}
use Rattle.mapworld_state.specs.declared.place.Guard.{Guard}
use Rattle.mapworld_state.specs.declared.place.Guard.TheVariants as guard
use Rattle.mapworld_state.specs.declared.place.Phase.{Phase}
use Rattle.mapworld_state.specs.declared.place.Phase.TheVariants as phase
use Rattle.mapworld_state.specs.Places.{Place}
use Rattle.mapworld_state.specs.State.{State, pairs_of, threads_of}
use Rattle.mapworld_state.specs.Held.{holds_before, HoldByPhase}
use Rattle.mapworld_state.specs.Sound.{HoldsByGuard, HoldsShard, IsInSession, KeepsOver, Claim, Sound}
use Rattle.mapworld_state.specs.Walks.{hands_over, walk_mode}
use Rattle.mapworld_state.specs.World.{AgreesWithBlocks, setup_of}
use Rattle.mapworld_transitions.proofs.Keys.{setup-laws}
use Rattle.mapworld.proofs.Viewing.{pairs_distinct, pair_at_route}

-- an index below the length has an element
pub element-at : {X : Type 0} (xs : List X) (i : ℕ) → i < length xs → (y : X) × (slice_get xs i ≡ Some y)
element-at xs i lt = elim (slice_get_cases xs i).1
    [ inl here ↦ (here.0, here.2) | inr past ↦ absurd (let le = past.0 in omega arith) ]

pub agrees : {K V S D T A : Type 0} (x : Setup K V D T) → Laws x → (w : State K V S D T A) → Sound x w
    → Agrees x w.blocks (pairs_of w) w.replies
agrees x laws w sound = record {
  distinct = pairs_distinct x w.blocks w.tables laws sound.tables;
  contents_are = λ q.
      let table = element-at w.tables (x.route q) (sound.routes q) in
      pair_at_route x w.blocks w.tables laws sound.tables q table.0 table.1
      ∙ sound.tables.contents_are q table.0 table.1;
  replies_are = sound.replies;
}

-- so it is with a world's own setup
pub world-agrees : {K V S H D T A : Type 0} (d : deed.Ghosts D K V T) (b : builder.Ghosts S H) (h : hasher.Ghosts H)
    (eq : K → K → Bool) (writes : K → HashWrites) (w : State K V S D T A) → IsEquivalence eq
    → ((j k : K) → IsTrue (eq j k) → writes j ≡ writes k)
    → Sound (setup_of d b h eq writes w) w → AgreesWithBlocks d b h eq writes w
world-agrees d b h eq writes w lawful respects sound =
    agrees (setup_of d b h eq writes w) (setup-laws d b h eq writes w lawful respects) w sound

-- one hold is one
one_hold : (hs : List Hold) (h : Hold) → hs ≡ h ∷ [] → length hs ≡ 1
one_hold hs h is = ap length is

module _ {K V D T A : Type 0} (x : Setup K V D T) (threads : List ℕ) (bs : List (Block K))
    (tables : List (ShardPairs K V)) (t : ℕ) (p : Place K V D T A) where
  -- a guard's thread holds its shard
  guard_holds : (n : ℕ) (g : Guard K) (session block : Option ℕ) → p.guard ≡ Some g
      → IsInSession x bs tables t p n session block → length p.holds ≡ 1
  guard_holds n g None block guarded h = absurd (none-some g (sym h.0 ∙ guarded))
  guard_holds n g (Some c) None guarded h = absurd (none-some g (sym h.0 ∙ guarded))
  guard_holds n (guard.Pair kind) (Some c) (Some i) guarded h = let g = rw guarded at h.guard in one_hold p.holds
      g.2.hold g.2.has
  guard_holds n (guard.Vacant k) (Some c) (Some i) guarded h = let g = rw guarded at h.guard in one_hold p.holds
      g.1.hold g.1.has

  -- between two calls, and before an answer, a thread holds where it has a guard
  by_guard : (n : ℕ) (session block : Option ℕ) (g : Option (Guard K)) → p.guard ≡ g → HoldsByGuard p
      → IsInSession x bs tables t p n session block → length p.holds ≡ (if is_some g then 1 else 0)
  by_guard n session block None is free ready = ap length (free is)
  by_guard n session block (Some g) is free ready = guard_holds n g session block is ready

  -- a walk has as many holds beside the one that it asks for as it keeps over
  kept : (mode : Mode) (b : Bool) → KeepsOver p mode (if b then 1 else 0) → length p.holds ≡ (if b then 1 else 0)
  kept mode true c = one_hold p.holds c.0 c.1
  kept mode false c = ap length c

  between : (mode : Mode) (b : Bool) → MatchBool b (HoldsShard p mode) (p.holds ≡ [])
      → length p.holds ≡ (if b then 1 else 0)
  between mode true c = one_hold p.holds c.hold c.has
  between mode false c = ap length c

  by_claim : (f : Phase K V D T A) → Claim x threads bs tables t p f → length p.holds ≡ holds_before p f
  by_claim phase.Rest c = by_guard p.next _ p.block p.guard refl c.1 c.2
  by_claim (phase.Admit r) c = ap length c.2
  by_claim (phase.Find r) c = one_hold p.holds c.2.hold c.2.has
  by_claim (phase.Grow w) c = one_hold p.holds c.2.hold c.2.has
  by_claim (phase.Append k v) c = one_hold p.holds c.1.alone.hold c.1.alone.has
  by_claim (phase.Apply k) c = one_hold p.holds c.2.alone.hold c.2.alone.has
  by_claim (phase.View k d) c = one_hold p.holds c.3.hold c.3.has
  by_claim (phase.Read d) c = guard_holds p.next (guard.Pair c.0) _ p.block c.2 c.3
  by_claim (phase.Change h) c = one_hold p.holds c.4.hold c.4.has
  by_claim (phase.Fill v) c = one_hold p.holds c.3.hold c.3.has
  by_claim phase.Downgrade c = one_hold p.holds c.2.hold c.2.has
  by_claim (phase.Idle f) c = ap length c.2 ∙ sym (ap (λ (g : Option (Guard K)). if is_some g then 1 else 0) c.1.1)
  by_claim (phase.Reach f) c = kept (walk_mode f) (hands_over f && not (p.shard == 0)) c.2
  by_claim (phase.Part f) c = ap length c.2.2
  by_claim (phase.Visit f) c = one_hold p.holds c.2.hold c.2.has
  by_claim (phase.Seek f) c = one_hold p.holds c.2.hold c.2.has
  by_claim (phase.Item f) c = one_hold p.holds c.2.hold c.2.has
  by_claim (phase.Give f) c = one_hold p.holds c.2.hold c.2.has
  by_claim (phase.Onward f) c = between (walk_mode f) (hands_over f) c.2
  by_claim (phase.Release r) c = one_hold p.holds c.1 c.3
  by_claim (phase.Answer r) c = by_guard (p.next + 1) _ _ p.guard refl c.2 c.4

pub hold_by_phase : {K V S D T A : Type 0} (x : Setup K V D T) (w : State K V S D T A) → Sound x w
    → HoldByPhase w.places
hold_by_phase x w sound t p at = by_claim x (threads_of w) w.blocks w.tables t p p.phase (sound.stands t p at).claim
