-- Which calls are applied, and which need room.
use Rattle.std.proofs.Common.{◌≡◌, inl, inr, Bool, Some, None, is_some, slice_get, sym, ap, ◌∙◌, subst}
use Rattle.mapworld_calls.specs.declared.ask.Keyed.{Keyed}
use Rattle.mapworld_calls.specs.declared.ask.Keyed.TheVariants as keyed
use Rattle.mapworld_calls.specs.Pairs.{pair_of}
use Rattle.mapworld_calls.specs.Setup.{Setup, Laws}
use Rattle.mapworld_calls.proofs.Lists.{slice_get-set_same}
use Rattle.mapworld_state.specs.declared.place.Growth.{Growth}
use Rattle.mapworld_state.specs.declared.place.Phase.{Phase}
use Rattle.mapworld_state.specs.declared.place.Phase.TheVariants as phase
use Rattle.mapworld_state.specs.declared.place.Request.{Request}
use Rattle.mapworld_state.specs.declared.place.Request.TheVariants as request
use Rattle.mapworld_state.specs.declared.step.Step.{Step}
use Rattle.mapworld_state.specs.Moves.{found_phase, growth_key, request_key}
use Rattle.mapworld_state.specs.Places.{Place}
use Rattle.mapworld_state.specs.Shards.{ShardPairs, has_room}
use Rattle.mapworld_state.specs.Sound.{Claim, Inserts, Sound}
use Rattle.mapworld_state.specs.State.{State, pairs_of, threads_of}
use Rattle.mapworld_state.specs.Steps.{Finds}
use Rattle.mapworld.proofs.Viewing.{pair_at_route}

module _ {K V S D T A : Type 0} (x : Setup K V D T) (w : State K V S D T A) (s : Step) (w' : State K V S D T A) where
  abbrev IsApplied : Keyed K V D → Type 0
  IsApplied call = (p : Place K V D T A) × (slice_get w'.places s.thread ≡ Some p) × (p.phase ≡ phase.Apply call)

  -- an insertion that finds the pair of its key
  found-plain : (f : Finds x w s w') (k : K) (v : V) (pair : K × V) → f.request ≡ request.Keyed (keyed.Insert k v)
      → pair_of x.eq f.table.items k ≡ Some pair → IsApplied (keyed.Insert k v)
  found-plain f k v pair asked found = (
    _,
    ap (λ (u : State K V S D T A). slice_get u.places s.thread) f.after
        ∙ slice_get-set_same w.places s.thread f.place _ f.stands,
    ap (λ (r : Request K V D). behind r (is_some (pair_of x.eq f.table.items (request_key r)))) asked
        ∙ ap (λ o. behind (request.Keyed (keyed.Insert k v)) (is_some o)) found,
  )
    where
      behind : Request K V D → Bool → Phase K V D T A
      behind r there = found_phase r there (has_room f.table)

  found-timed : (f : Finds x w s w') (k : K) (v : V) (pair : K × V)
      → f.request ≡ request.Keyed (keyed.InsertUntil k v) → pair_of x.eq f.table.items k ≡ Some pair
      → IsApplied (keyed.InsertUntil k v)
  found-timed f k v pair asked found = (
    _,
    ap (λ (u : State K V S D T A). slice_get u.places s.thread) f.after
        ∙ slice_get-set_same w.places s.thread f.place _ f.stands,
    ap (λ (r : Request K V D). behind r (is_some (pair_of x.eq f.table.items (request_key r)))) asked
        ∙ ap (λ o. behind (request.Keyed (keyed.InsertUntil k v)) (is_some o)) found,
  )
    where
      behind : Request K V D → Bool → Phase K V D T A
      behind r there = found_phase r there (has_room f.table)

  pub applied : (f : Finds x w s w') (call : Keyed K V D) (k : K) (v : V) (pair : K × V) → Inserts call k v
      → f.request ≡ request.Keyed call → pair_of x.eq f.table.items k ≡ Some pair → IsApplied call
  applied f call k v pair (inl is) asked found =
      subst IsApplied (sym is) (found-plain f k v pair (asked ∙ ap (λ c. request.Keyed c) is) found)
  applied f call k v pair (inr is) asked found =
      subst IsApplied (sym is) (found-timed f k v pair (asked ∙ ap (λ c. request.Keyed c) is) found)

-- a call for which a shard has to grow
pub of_new_key : {K V S D T A : Type 0} (x : Setup K V D T) → Laws x → (w : State K V S D T A) (t : _) → Sound x w
    → (p : Place K V D T A) (c : Growth K V) (table : ShardPairs K V)
    → slice_get w.places t ≡ Some p → p.phase ≡ phase.Grow c → slice_get w.tables p.shard ≡ Some table
    → pair_of x.eq table.items (growth_key c) ≡ None → pair_of x.eq (pairs_of w) (growth_key c) ≡ None
of_new_key {K} {V} {S} {D} {T} {A} x laws w t sound p c table at before held absent =
    let claim = subst (λ (f : Phase K V D T A). Claim x (threads_of w) w.blocks w.tables t p f) before
    (sound.stands t p at).claim in
    pair_at_route x w.blocks w.tables laws sound.tables (growth_key c) table
    (ap (λ i. slice_get w.tables i) (sym claim.1.shard) ∙ held) ∙ absent
