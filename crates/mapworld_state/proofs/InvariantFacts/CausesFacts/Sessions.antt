-- The block of a session.
use Rattle.std.proofs.Common.{◌≡◌, ℕ, ◌<◌, inl, inr, Some, slice_get, sym, ap, ◌∙◌, arith}
use Rattle.std.proofs.lemmas.Bool.{cases_eq, cases_lt}
use Rattle.std.proofs.lemmas.Option.{same_Some}
use Rattle.mapworld_calls.specs.declared.ask.Ask.{Ask}
use Rattle.mapworld_calls.specs.declared.ask.Ask.TheVariants as ask
use Rattle.mapworld_calls.specs.declared.ask.Begin.{Begin}
use Rattle.mapworld_calls.specs.declared.block.Block.{Block}
use Rattle.mapworld_calls.specs.Setup.{Setup, ask_at}
use Rattle.mapworld_calls.specs.Placed.{IsDoneWithin, IsSessionDone}
use Rattle.mapworld_state.specs.State.{State, started_of}
use Rattle.mapworld_state.specs.Sound.{Sound}

module _ {K V S D T A : Type 0} (x : Setup K V D T) (v : State K V S D T A) (u c : ℕ) (g : Begin K)
    (asked : ask_at x u c ≡ Some (ask.Begin g)) where
  -- an opening's block is bounded as one
  pub opened : (i : ℕ) (b : Block K) → Sound x v → slice_get v.blocks i ≡ Some b → b.thread ≡ u → b.call ≡ c
      → IsSessionDone x (started_of v) v.replies b × (b.visit ≡ 0)
  opened i b there at thread call = by (there.placed.placed i b at).ask (there.placed.placed i b at).asked
      (there.placed.placed i b at).done
    where
      is : (a : Ask K V D) → ask_at x b.thread b.call ≡ Some a → a ≡ ask.Begin g
      is a e = same_Some a (ask.Begin g) (sym e ∙ ap (λ t. ask_at x t b.call) thread ∙ ap (ask_at x u) call ∙ asked)

      by : (a : Ask K V D) → ask_at x b.thread b.call ≡ Some a → IsDoneWithin x (started_of v) v.blocks v.replies i b a
          → IsSessionDone x (started_of v) v.replies b × (b.visit ≡ 0)
      by (ask.Begin h) e done = (done.0, done.1)
      by (ask.Keyed h) e done = let no : ask.Keyed h ≡ ask.Begin g = is (ask.Keyed h) e in absurd cc
      by (ask.Held h) e done = absurd done
      by (ask.Walk f) e done = let no : ask.Walk f ≡ ask.Begin g = is (ask.Walk f) e in absurd cc

  -- there is one block of the opening, at one place
  pub one-place : Sound x v → (i j : ℕ) (b d : Block K) → slice_get v.blocks i ≡ Some b → slice_get v.blocks j ≡ Some d
      → b.thread ≡ u → b.call ≡ c → d.thread ≡ u → d.call ≡ c → i ≡ j
  one-place there i j b d hb hd bt bc dt dc = elim (cases_eq i j) [
    | inl same ↦ same
    | inr ne ↦ elim (cases_lt i j) [
      | inl lt ↦ absurd (earlier i j b d hb hd bt bc dt dc lt)
      | inr ge ↦ absurd (earlier j i d b hd hb dt dc bt bc (omega (arith, ge, ne)))
    ]
  ]
    where
      earlier : (i j : ℕ) (b d : Block K) → slice_get v.blocks i ≡ Some b → slice_get v.blocks j ≡ Some d → b.thread ≡ u
          → b.call ≡ c → d.thread ≡ u → d.call ≡ c → i < j → ⊥
      earlier i j b d hb hd bt bc dt dc lt =
          let vb = (opened i b there hb bt bc).1 in
          let vd = (opened j d there hd dt dc).1 in
          elim (there.placed.own_order i j b d hb hd lt (bt ∙ sym dt)) [
            | inl below ↦ absurd (omega (arith, below, bc, dc))
            | inr later ↦ absurd (omega (arith, later.1, vb, vd))
          ]

  pub one-block : Sound x v → (i j : ℕ) (b d : Block K) → slice_get v.blocks i ≡ Some b → slice_get v.blocks j ≡ Some d
      → b.thread ≡ u → b.call ≡ c → d.thread ≡ u → d.call ≡ c → b ≡ d
  one-block there i j b d hb hd bt bc dt dc =
      same_Some b d (sym hb ∙ ap (slice_get v.blocks) (one-place there i j b d hb hd bt bc dt dc) ∙ hd)
