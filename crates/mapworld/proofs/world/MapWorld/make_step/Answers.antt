use Rattle.std.proofs.Common.{sym, subst, ◌∙◌}
use Rattle.mapworld_state.specs.Core.{state_of}
use Rattle.mapworld_state.specs.State.{State}
use Rattle.mapworld_state.specs.World.{setup_of}
use Rattle.mapworld_state.specs.Sound.{Sound}
use Rattle.mapworld_transitions.proofs.Keys.{setup-laws}
use Rattle.mapworld_transitions.proofs.Rooms.{next_too}
use Rattle.mapworld_state.proofs.InvariantFacts.Sounds.{sound-step}
use Rattle.mapworld_state.proofs.InvariantFacts.Adding.{step-adds}
use Rattle.mapworld_state.specs.Invariant.Causes.Causes.{HasCauses}
use Rattle.mapworld_state.proofs.InvariantFacts.CausesFacts.Keeping.{causes-step}
use Rattle.mapworld.specs.Progress.Drains.{HasTime}
use Rattle.mapworld.proofs.ProgressFacts.Draining.{setup-fixed, sized}
use Rattle.mapworld.proofs.ProgressFacts.Timing.{time-after}
use Rattle.mapworld.specs.Reachable.{IsReachable}
use Rattle.mapworld.proofs.Reached.{reachable-step}
use Rattle.mapworld.proofs.world.MapWorld.make_step.Goals as goal

pub invariant_of-self : goal.invariant_of-self
invariant_of-self g c = (
  subst (λ (w : State g.row.K.Denot g.row.V.Denot g.row.S.Denot g.row.D.Denot g.row.D-Answer.Denot g.row.A.Denot).
      Sound (setup_of g.D.Deed g.S.BuildHasher g.S.Hasher.Hasher g.K.PartialEq.eq g.K.Hash.hash_input w) w)
      (sym c.if-not-advance.ensures.made) c.self.invariant.0,
  c.advance.ensures.room,
  c.advance.ensures.slots,
  subst (λ (w : State g.row.K.Denot g.row.V.Denot g.row.S.Denot g.row.D.Denot g.row.D-Answer.Denot
      g.row.A.Denot). HasTime (setup_of g.D.Deed g.S.BuildHasher g.S.Hasher.Hasher g.K.PartialEq.eq
      g.K.Hash.hash_input w) w)
      (sym c.if-not-advance.ensures.made) c.self.invariant.3,
  subst (λ (w : State g.row.K.Denot g.row.V.Denot g.row.S.Denot g.row.D.Denot g.row.D-Answer.Denot
      g.row.A.Denot). HasCauses (setup_of g.D.Deed g.S.BuildHasher g.S.Hasher.Hasher g.K.PartialEq.eq
      g.K.Hash.hash_input w) w)
      (sym c.if-not-advance.ensures.made) c.self.invariant.4,
  subst (λ (w : State g.row.K.Denot g.row.V.Denot g.row.S.Denot g.row.D.Denot g.row.D-Answer.Denot
      g.row.A.Denot). IsReachable g.D.Deed g.S.BuildHasher g.S.Hasher.Hasher g.K.PartialEq.eq g.K.Hash.hash_input w)
      (sym c.if-not-advance.ensures.made) c.self.invariant.5,
)

pub invariant_of-self-2 : goal.invariant_of-self-2
invariant_of-self-2 g c =
    let w = state_of c.self.inside.core in
    let w' = state_of c.advance.new.core in
    let step = c.if-not-advance.ensures.made in
    let x = setup_of g.D.Deed g.S.BuildHasher g.S.Hasher.Hasher g.K.PartialEq.eq g.K.Hash.hash_input w in
    let laws = setup-laws g.D.Deed g.S.BuildHasher g.S.Hasher.Hasher g.K.PartialEq.eq g.K.Hash.hash_input w
    g.met.K.Eq.laws g.met.K.Hash.respects_eq in
    let added = step-adds x w c.args.step w' c.self.invariant.0 step in
    let fixed = setup-fixed g.D.Deed g.S.BuildHasher g.S.Hasher.Hasher g.K.PartialEq.eq g.K.Hash.hash_input w w'
    added.fixed in
    let time = time-after c.steps_are_few.ensures x laws w c.args.step w' c.self.invariant.0 step
    (sized c.self.inside.core c.self.invariant.1) (sized c.advance.new.core c.advance.ensures.room)
    c.known-2.ensures (sym c.fits.ensures ∙ c.if-not-fits.false)
    (setup_of g.D.Deed g.S.BuildHasher g.S.Hasher.Hasher g.K.PartialEq.eq g.K.Hash.hash_input w') in
    let causes = causes-step x laws w c.args.step w' c.self.invariant.0 c.known.ensures
    (sym (sized c.self.inside.core c.self.invariant.1).locks.threads_are) c.self.invariant.4 step in
    let moves = sym c.advance.ensures.moves ∙ c.if-not-advance.false in
    let reached = reachable-step g.D.Deed g.S.BuildHasher g.S.Hasher.Hasher g.K.PartialEq.eq g.K.Hash.hash_input
    g.met.K.Eq.laws g.met.K.Hash.respects_eq c.each_step_is_a_case.ensures c.owners_agree.ensures w c.args.step
    w' c.self.invariant.5 moves step in (
      subst (λ y. Sound y w') (sym fixed) (sound-step x laws w c.args.step w' c.self.invariant.0 step),
      c.advance.ensures.room,
      c.advance.ensures.slots,
      time,
      subst (λ y. HasCauses y w') (sym fixed) causes,
      reached,
    )

pub advance-requires-clause-numbers : goal.advance-requires-clause-numbers
advance-requires-clause-numbers g c = next_too (state_of c.self.inside.core) (sym c.fits.ensures ∙ c.if-not-fits.false)
