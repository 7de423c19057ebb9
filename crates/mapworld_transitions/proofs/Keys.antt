-- What a shard has at the key of a deed, and at that of a guard's session.
use Rattle.std.proofs.Common.{◌≡◌, ℕ, ◌-◌, ◌<◌, true, Bool, length, Option, Some, None, slice_get, inr, refl, sym, ap}
use Rattle.std.proofs.Common.{◌∙◌, subst, arith}
use Rattle.std.specs.Cmp.{IsEquivalence}
use Rattle.std.specs.Hash.{HashWrites}
use Rattle.std.specs.Option.{option_and_then}
use Rattle.std.specs.declared.hash.BuildHasher as builder
use Rattle.std.specs.declared.hash.Hasher as hasher
use Rattle.std.proofs.lemmas.Option.{none-some}
use Rattle.dashmap_table.specs.Route.{route_of, hash_of}
use Rattle.mapworld_calls.specs.declared.deed.Deed as deed
use Rattle.mapworld_calls.specs.declared.ask.Ask.{Ask}
use Rattle.mapworld_calls.specs.declared.ask.Ask.TheVariants as ask
use Rattle.mapworld_calls.specs.declared.block.Block.{Block}
use Rattle.mapworld_calls.specs.Programs.{key_of, keyed_key, opening_key}
use Rattle.mapworld_calls.specs.Placed.{IsDoneWithin}
use Rattle.mapworld_calls.specs.Setup.{Setup, Laws, ask_at}
use Rattle.mapworld_calls.specs.Pairs.{pair_of}
use Rattle.mapworld_calls.specs.Calls.{At, pair_in}
use Rattle.mapworld_calls.specs.Replay.{reached, block_key, found}
use Rattle.mapworld_calls.proofs.Grown.{Grows, contents-were}
use Rattle.mapworld_calls.proofs.Handed.{Handed, block-handed}
use Rattle.mapworld_state.specs.declared.place.Way.{Way}
use Rattle.mapworld_state.specs.declared.place.Way.TheVariants as way
use Rattle.mapworld_state.specs.declared.place.Guard.{Guard}
use Rattle.mapworld_state.specs.Places.{Place}
use Rattle.mapworld_state.specs.Shards.{ShardPairs}
use Rattle.mapworld_state.specs.State.{State, threads_of, started_of}
use Rattle.mapworld_state.specs.Moves.{lent}
use Rattle.mapworld_state.specs.Steps.{guarded_key}
use Rattle.mapworld_state.specs.Sound.{Sound, GuardIs, HasPairs, HasSession, IsInSession, IsBeforeDeed}
use Rattle.mapworld_state.specs.World.{setup_of}

-- the laws of a world's setup, by those of its keys
pub setup-laws : {K V S H D T A : Type 0} (d : deed.Ghosts D K V T) (b : builder.Ghosts S H) (h : hasher.Ghosts H)
    (eq : K → K → Bool) (writes : K → HashWrites) (w : State K V S D T A)
    → IsEquivalence eq → ((j k : K) → eq j k ≡ true → writes j ≡ writes k) → Laws (setup_of d b h eq writes w)
setup-laws d b h eq writes w laws respects = record {
  equivalence = laws;
  routes = λ j k same. ap (λ z. route_of (hash_of b h w.hasher z) (length w.tables)) (respects j k same);
}

module _ {K V S D T A : Type 0} (x : Setup K V D T) (w : State K V S D T A) (sound : Sound x w) (t : ℕ)
    (p : Place K V D T A) where
  -- the shard has at a deed's key what the deed's block has found
  pub deed-found : Laws x → (key : K) (o : Option (K × V)) → IsBeforeDeed x w.blocks t p key o
      → (table : ShardPairs K V) → slice_get w.tables p.shard ≡ Some table → pair_of x.eq table.items key ≡ o
  deed-found laws key o d table held =
      let b = d.block in
      let grows : Grows x w.blocks d.index b b =
      record {
        listed = d.listed;
        thread = refl;
        call = refl;
        visit = refl;
        visited = refl;
        done = omega arith;
        settled = inr d.last;
      } in
      sound.tables.contents_are key table (ap (λ n. slice_get w.tables n) (sym d.shard) ∙ held)
      ∙ (contents-were x laws w.blocks d.index b b grows d.last key d.key_is key (laws.equivalence.refl key)
      ∙ (ap (λ n. pair_in (reached x b.thread b.call n (found x w.blocks d.index b))) d.done ∙ d.found_is))

  -- the key of a guard's session, and what the session has come to
  pub record Guards (g : Guard K) : Type 0 where
    pub key : K
    pub key_is : guarded_key x w.blocks p.block ≡ Some key
    pub come : At K V
    pub guard_is : GuardIs w.tables p (Some g) come
    pub handed : Handed key come
    pub there : HasPairs w.tables p.shard (λ table. pair_of x.eq table.items key ≡ pair_in come)

  -- a block that has done a call has a key
  key-by : (i : ℕ) (b : Block K) (a : Ask K V D) → ask_at x b.thread b.call ≡ Some a
      → IsDoneWithin x (started_of w) w.blocks w.replies i b a → 0 < b.done.value → (key : K)
      × (block_key x b ≡ Some key)
  key-by i b (ask.Keyed k) is done pos = (keyed_key k, ap (option_and_then key_of) is)
  key-by i b (ask.Begin g) is done pos = (opening_key g, ap (option_and_then key_of) is)
  key-by i b (ask.Held h) is done pos = absurd done
  key-by i b (ask.Walk f) is done pos = absurd (omega (arith, pos, done.1))

  session-key : (i : ℕ) (b : Block K) → slice_get w.blocks i ≡ Some b → 0 < b.done.value → (key : K)
      × (block_key x b ≡ Some key)
  session-key i b at pos = let p = sound.placed.placed i b at in key-by i b p.ask p.asked p.done pos

  of-session : (g : Guard K) → p.guard ≡ Some g → (n c i : ℕ) → p.block ≡ Some i
      → HasSession x w.blocks w.tables t p n c i → Guards g
  of-session g e n c i mine h =
      let has = session-key i h.block h.listed (omega (arith, h.below, h.done)) in
      let come = reached x t c (n - c) (found x w.blocks i h.block) in
      let was = block-handed x (threads_of w) (started_of w) w.blocks w.replies sound.placed i h.block h.listed has.0
      has.1 (found x w.blocks i h.block) in
      record {
        key = has.0;
        key_is = ap (guarded_key x w.blocks) mine ∙ (ap (option_and_then (block_key x)) h.listed ∙ has.1);
        come = come;
        guard_is = subst (λ (z : Option (Guard K)). GuardIs w.tables p z come) e h.guard;
        handed = subst (Handed has.0)
            (same-reached h.block.thread t h.block.call c h.block.done.value (n - c) (found x w.blocks i h.block)
            h.thread h.call h.done) was;
        there = h.there g has.0 e has.1;
      }
    where
      same-reached : (u v a e k m : ℕ) (o : Option (K × V)) → u ≡ v → a ≡ e → k ≡ m
          → reached x u a k o ≡ reached x v e m o
      same-reached u v a e k m o hu ha hk = rw (hu, ha, hk)

  pub guards : (g : Guard K) → p.guard ≡ Some g → (n : ℕ) (session block : Option ℕ) → p.block ≡ block
      → IsInSession x w.blocks w.tables t p n session block → Guards g
  guards g e n None block mine h = absurd (none-some g (sym h.0 ∙ e))
  guards g e n (Some c) None mine h = absurd (none-some g (sym h.0 ∙ e))
  guards g e n (Some c) (Some i) mine h = of-session g e n c i mine h

-- an entry's guard has the session's key
pub handed-way : {K V : Type 0} (key : K) (kind : Way K) (pair : K × V) (k : K) → kind ≡ way.Occupied k
    → Handed key (lent kind pair) → k ≡ key
handed-way key way.Shared pair k is h = cc
handed-way key way.Exclusive pair k is h = cc
handed-way key (way.Occupied j) pair k is h = let same : j ≡ k = cc in sym same ∙ h
