-- Runs one after another, and what they leave.
use Rattle.std.proofs.Common.{◌≡◌, ℕ, ◌+◌, ◌<◌, ◌≤◌, ◌^◌, Bool, true, false, MatchBool, List, [], ◌∷◌, ◌++◌, length}
use Rattle.std.proofs.Common.{refl, sym, ap, ◌∙◌, subst, arith, length-append}
use Rattle.std.specs.Cmp.{IsEquivalence}
use Rattle.std.specs.Hash.{HashWrites}
use Rattle.std.specs.declared.hash.BuildHasher as builder
use Rattle.std.specs.declared.hash.Hasher as hasher
use Rattle.std.proofs.lemmas.Bool.{lt-ltb}
use Rattle.std.proofs.lemmas.List.{length-map}
use Rattle.mapworld_calls.specs.declared.ask.Ask.{Ask}
use Rattle.mapworld_calls.specs.declared.deed.Deed as deed
use Rattle.mapworld_calls.specs.Setup.{Setup, Laws}
use Rattle.mapworld_state.specs.Locks.Fits.{LocksFit}
use Rattle.mapworld_state.specs.declared.step.Step.{Step}
use Rattle.mapworld_state.specs.declared.world_core.Core.{Core}
use Rattle.mapworld_state.specs.Core.{AreLocksOf, Room, state_of}
use Rattle.mapworld_state.specs.Places.{place_of}
use Rattle.mapworld_state.specs.Route.{key_route}
use Rattle.mapworld_state.specs.Running.{StaysFixed, can_move_in, has_next, may_step}
use Rattle.mapworld_state.specs.Shards.{shard_pairs}
use Rattle.mapworld_state.specs.Sound.{Sound}
use Rattle.mapworld_state.specs.State.{State}
use Rattle.mapworld_state.specs.Steps.{IsStep}
use Rattle.mapworld_state.specs.World.{deeds_of, setup_of}
use Rattle.mapworld_transitions.proofs.Keys.{setup-laws}
use Rattle.mapworld_state.proofs.InvariantFacts.Adding.{fixed-more, step-adds}
use Rattle.mapworld.proofs.Histories.{AddsTo, history-more, history-none}
use Rattle.mapworld_state.proofs.InvariantFacts.Sounds.{sound-step}
use Rattle.mapworld.specs.Progress.Drains.{Drains, DrainsBy, Makes}
use Rattle.mapworld.specs.Progress.Left.{left}
use Rattle.mapworld.specs.Progress.Sizes.{IsSized}
use Rattle.mapworld.proofs.OwnSteps.{own-may}
use Rattle.mapworld.proofs.ProgressFacts.Ending.{steps_fall}

module _ {K V S D T A : Type 0} (x : Setup K V D T) where
  join : (u : State K V S D T A) (ss : List Step) (v : State K V S D T A) (ts : List Step) (w : State K V S D T A)
      → Drains x u ss v → Drains x v ts w → Drains x u (ss ++ ts) w
  join u [] v ts w same more = subst (λ z. Drains x z ts w) same more
  join u (s ∷ ss) v ts w (mid, makes, rest) more = (mid, makes, join mid ss v ts w rest more)

  pub no-steps : (w : State K V S D T A) → DrainsBy x w 0 w
  no-steps w = record { steps = []; count = refl; made = refl }

  pub more-steps : (u v w : State K V S D T A) (n m : ℕ) → DrainsBy x u n v → DrainsBy x v m w → DrainsBy x u (n + m) w
  more-steps u v w n m first then = record {
    steps = first.steps ++ then.steps;
    count = omega (arith, length-append first.steps then.steps, first.count, then.count);
    made = join u first.steps v then.steps w first.made then.made;
  }

  pub one-step : (w : State K V S D T A) (s : Step) (w' : State K V S D T A) → Makes x w s w' → DrainsBy x w 1 w'
  one-step w s w' makes = record { steps = s ∷ []; count = refl; made = (w', makes, refl) }

  none-changed : (w : State K V S D T A) (ss : List Step) (w' : State K V S D T A) → length ss ≡ 0 → Drains x w ss w'
      → w' ≡ w
  none-changed w [] w' none made = made
  none-changed w (s ∷ ss) w' none made = absurd (omega (arith, none))

  pub none-made : (w w' : State K V S D T A) → DrainsBy x w 0 w' → w' ≡ w
  none-made w w' by = none-changed w by.steps w' by.count by.made

  -- each step is in the world's list, and what the world was made with stays
  stays : (w : State K V S D T A) (ss : List Step) (w' : State K V S D T A) → Drains x w ss w' → StaysFixed w w'
      × (length w'.steps ≡ length w.steps + length ss)
  stays w [] w' same =
      let fixed : StaysFixed w w = record { hasher = refl; shards = refl; opening = refl; programs = refl } in
      (subst (λ z. StaysFixed w z) (sym same) fixed, omega (arith, ap (λ (z : State K V S D T A). length z.steps) same))
  stays w (s ∷ ss) w' (mid, makes, rest) =
      let added = step-adds x w s mid makes.whole.sound makes.kind in
      let more = stays mid ss w' rest in (
        fixed-more w mid w' added.fixed more.0,
        omega (arith, more.1, ap length added.steps, length-append w.steps (s ∷ [])),
      )

  pub fixed-by : (w : State K V S D T A) (n : ℕ) (w' : State K V S D T A) → DrainsBy x w n w' → StaysFixed w w'
  fixed-by w n w' by = (stays w by.steps w' by.made).0

  pub length-by : (w : State K V S D T A) (n : ℕ) (w' : State K V S D T A) → DrainsBy x w n w'
      → length w'.steps ≡ length w.steps + n
  length-by w n w' by = omega (arith, (stays w by.steps w' by.made).1, by.count)

module _ {K V S D T A : Type 0} (x : Setup K V D T) where
  adds-from : (v w : State K V S D T A) (ss : List Step) (w' : State K V S D T A) → AddsTo v w → Drains x w ss w'
      → AddsTo v w'
  adds-from v w [] w' so same = subst (AddsTo v) (sym same) so
  adds-from v w (s ∷ ss) w' so (mid, makes, rest) =
      adds-from v mid ss w' (history-more v w mid s so (step-adds x w s mid makes.whole.sound makes.kind)) rest

  -- a run takes nothing away
  pub adds-by : (w : State K V S D T A) (n : ℕ) (w' : State K V S D T A) → DrainsBy x w n w' → AddsTo w w'
  adds-by w n w' by = adds-from w w by.steps w' (history-none w) by.made

pub next-number : {K V S D T A : Type 0} (w : State K V S D T A) → length w.steps + 1 < 2 ^ 63 → has_next w ≡ true
next-number w low = lt-ltb (length w.steps + 1) (2 ^ 63) low

pub sized : {K V S D T A : Type 0} (c : Core K V S D T A) → Room c → IsSized (state_of c)
sized c room = record {
  locks = subst (λ n. AreLocksOf (length (state_of c).places) n (state_of c).locks)
      (sym (length-map c.tables.items shard_pairs)) room.locks;
  places = room.places;
  answers = room.answers;
}

-- a run takes no place away
pub same-places : {K V S D T A : Type 0} (c c' : Core K V S D T A) → Room c → Room c'
    → StaysFixed (state_of c) (state_of c') → length c'.places.items ≡ length c.places.items
same-places c c' room room' fixed =
    omega (
      arith,
      room.places,
      room'.places,
      ap length fixed.programs,
      length-map c.places.items place_of,
      length-map c'.places.items place_of,
    )

abbrev made-with : {K V S H D T : Type 0} → deed.Ghosts D K V T → builder.Ghosts S H → hasher.Ghosts H → (K → K → Bool)
    → (K → HashWrites) → S → ℕ → List (List (Ask K V D)) → List (K × V) → Setup K V D T
made-with d b h eq writes s n programs opening =
    record {
      eq = eq;
      shards = n;
      route = key_route b h writes s n;
      deeds = deeds_of d;
      programs = programs;
      opening = opening;
    }

module _ {K V S H D T A : Type 0} (d : deed.Ghosts D K V T) (b : builder.Ghosts S H) (h : hasher.Ghosts H)
    (eq : K → K → Bool) (writes : K → HashWrites) where
  abbrev own : State K V S D T A → Setup K V D T
  own w = setup_of d b h eq writes w

  -- what a world was made with decides its setup
  pub setup-fixed : (w w' : State K V S D T A) → StaysFixed w w' → own w' ≡ own w
  setup-fixed w w' f =
      ap (λ s. made-with d b h eq writes s (length w'.tables) w'.programs w'.opening) f.hasher
      ∙ ap (λ n. made-with d b h eq writes w.hasher n w'.programs w'.opening) f.shards
      ∙ ap (λ p. made-with d b h eq writes w.hasher (length w.tables) p w'.opening) f.programs
      ∙ ap (λ o. made-with d b h eq writes w.hasher (length w.tables) w.programs o) f.opening

  own-laws : (w : State K V S D T A) → IsEquivalence eq → ((j k : K) → eq j k ≡ true → writes j ≡ writes k)
      → Laws (own w)
  own-laws w laws respects = setup-laws d b h eq writes w laws respects

  -- a step lowers the steps that are left
  pub falls-own : IsEquivalence eq → ((j k : K) → eq j k ≡ true → writes j ≡ writes k)
      → (w : State K V S D T A) (s : Step) (w' : State K V S D T A) → Makes (own w) w s w'
      → left (own w') w' s.thread + 1 ≤ left (own w) w s.thread
  falls-own laws respects w s w' makes =
      let same = setup-fixed w w' (step-adds (own w) w s w' makes.whole.sound makes.kind).fixed in
      omega (
        arith,
        ap (λ (y : Setup K V D T). left y w' s.thread) same,
        steps_fall (own w) (own-laws w laws respects) w
            s w' makes.whole makes.own makes.kind,
      )

  -- a run of the one, and then one of the other, which has the same setup
  pub runs-on : (u v w : State K V S D T A) (n m : ℕ) → DrainsBy (own u) u n v → DrainsBy (own v) v m w
      → DrainsBy (own u) u (n + m) w
  runs-on u v w n m first then = more-steps (own u) u v w n m first
      (subst (λ y. DrainsBy y v m w) (setup-fixed u v (fixed-by (own u) u n v first)) then)

  module _ (laws : IsEquivalence eq) (respects : (j k : K) → eq j k ≡ true → writes j ≡ writes k)
      (w : State K V S D T A) (s : Step) (w' : State K V S D T A) (sound : Sound (own w) w) where
    -- behind a step, or none, the world is sound
    pub sound-behind : (moved : Bool) → MatchBool moved (IsStep (own w) w s w') (w' ≡ w) → Sound (own w') w'
    sound-behind true step =
        subst (λ y. Sound y w') (sym (setup-fixed w w' (step-adds (own w) w s w' sound step).fixed))
        (sound-step (own w) (own-laws w laws respects) w s w' sound step)
    sound-behind false same = subst (λ v. Sound (own v) v) (sym same) sound

    pub made-behind : LocksFit w.locks → IsSized w → s.deadline ≡ false → (moved : Bool) → moved ≡ may_step w s
        → MatchBool moved (IsStep (own w) w s w') (w' ≡ w)
        → MatchBool moved (Makes (own w) w s w') ((w' ≡ w) × (can_move_in w s.thread ≡ false))
    made-behind fit sizes mine true is step = record {
      moves = sym (own-may w s mine) ∙ sym is;
      own = mine;
      kind = step;
      whole = record { sound = sound; locks = fit; sizes = sizes };
    }
    made-behind fit sizes mine false is same = (same, sym (own-may w s mine) ∙ sym is)
