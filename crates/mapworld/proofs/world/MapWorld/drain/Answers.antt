use Rattle.mapworld_state.specs.Core.{state_of}
use Rattle.mapworld_state.specs.World.{setup_of}
use Rattle.mapworld_transitions.proofs.Keys.{setup-laws}
use Rattle.std.proofs.Common.{refl, sym, subst}
use Rattle.mapworld_state.specs.Invariant.Causes.Causes.{HasCauses}
use Rattle.mapworld.proofs.ProgressFacts.Draining.{adds-by, fixed-by, setup-fixed}
use Rattle.mapworld.proofs.Drains.{caused-by, drained-by}
use Rattle.mapworld.proofs.Guarding.{guards_are_owners}
use Rattle.mapworld.proofs.Histories.{fixed-history}
use Rattle.mapworld.proofs.Outcomes.{world-agrees, hold_by_phase}
use Rattle.mapworld.proofs.Overs.{over}
use Rattle.mapworld.proofs.Reached.{reachable-drained}
use Rattle.mapworld.proofs.world.MapWorld.drain.Goals as goal

pub returns-clause-ran : goal.returns-clause-ran
returns-clause-ran g c =
    let w = state_of c.self.inside.core in
    let w' = state_of c.drain-steps.new.core in
    rw (← c.self.view_is)
    (drained-by (setup_of g.D.Deed g.S.BuildHasher g.S.Hasher.Hasher g.K.PartialEq.eq g.K.Hash.hash_input w)
    (setup-laws g.D.Deed g.S.BuildHasher g.S.Hasher.Hasher g.K.PartialEq.eq g.K.Hash.hash_input w g.met.K.Eq.laws
    g.met.K.Hash.respects_eq) c.steps_touch_one_lock.ensures w c.drain-steps.result w' c.drain-steps.ensures.ran)

pub returns-clause-agrees : goal.returns-clause-agrees
returns-clause-agrees g c = world-agrees g.D.Deed g.S.BuildHasher g.S.Hasher.Hasher g.K.PartialEq.eq
    g.K.Hash.hash_input (state_of c.drain-steps.new.core) g.met.K.Eq.laws g.met.K.Hash.respects_eq
    c.drain-steps.ensures.sound

pub returns-clause-placed : goal.returns-clause-placed
returns-clause-placed g c = c.drain-steps.ensures.sound.placed

pub returns-clause-adds : goal.returns-clause-adds
returns-clause-adds g c =
    let w = state_of c.self.inside.core in
    let w' = state_of c.drain-steps.new.core in
    rw (← c.self.view_is) (adds-by (setup_of g.D.Deed g.S.BuildHasher g.S.Hasher.Hasher g.K.PartialEq.eq
    g.K.Hash.hash_input w) w c.drain-steps.result w' c.drain-steps.ensures.ran)

pub returns-clause-fixed : goal.returns-clause-fixed
returns-clause-fixed g c =
    let w = state_of c.self.inside.core in
    let w' = state_of c.drain-steps.new.core in
    rw (← c.self.view_is) (fixed-history w w' (fixed-by
    (setup_of g.D.Deed g.S.BuildHasher g.S.Hasher.Hasher g.K.PartialEq.eq g.K.Hash.hash_input w) w
    c.drain-steps.result w' c.drain-steps.ensures.ran))

pub returns-clause-guards : goal.returns-clause-guards
returns-clause-guards g c = guards_are_owners c.desks_count_as_words.ensures (state_of c.drain-steps.new.core).locks
    c.known.ensures

pub returns-clause-rest : goal.returns-clause-rest
returns-clause-rest g c =
    let w' = state_of c.drain-steps.new.core in
    over w' (setup_of g.D.Deed g.S.BuildHasher g.S.Hasher.Hasher g.K.PartialEq.eq g.K.Hash.hash_input w')
    c.drain-steps.ensures.sound refl c.drain-steps.ensures.room.places c.drain-steps.ensures.rest

pub returns-clause-by_phase : goal.returns-clause-by_phase
returns-clause-by_phase g c =
    let w' = state_of c.drain-steps.new.core in
    hold_by_phase (setup_of g.D.Deed g.S.BuildHasher g.S.Hasher.Hasher g.K.PartialEq.eq g.K.Hash.hash_input w') w'
    c.drain-steps.ensures.sound

-- behind it causes are kept too
pub invariant_of-self : goal.invariant_of-self
invariant_of-self g c =
    let w = state_of c.self.inside.core in
    let w' = state_of c.drain-steps.new.core in
    let x = setup_of g.D.Deed g.S.BuildHasher g.S.Hasher.Hasher g.K.PartialEq.eq g.K.Hash.hash_input w in
    let laws = setup-laws g.D.Deed g.S.BuildHasher g.S.Hasher.Hasher g.K.PartialEq.eq g.K.Hash.hash_input w
    g.met.K.Eq.laws g.met.K.Hash.respects_eq in
    let same = setup-fixed g.D.Deed g.S.BuildHasher g.S.Hasher.Hasher g.K.PartialEq.eq g.K.Hash.hash_input w w'
    (fixed-by x w c.drain-steps.result w' c.drain-steps.ensures.ran) in (
      c.drain-steps.ensures.sound,
      c.drain-steps.ensures.room,
      c.drain-steps.ensures.slots,
      c.drain-steps.ensures.time,
      subst (λ y. HasCauses y w') (sym same) (caused-by x laws c.steps_touch_one_lock.ensures w c.drain-steps.result
          w' c.drain-steps.ensures.ran c.self.invariant.4),
      reachable-drained g.D.Deed g.S.BuildHasher g.S.Hasher.Hasher g.K.PartialEq.eq g.K.Hash.hash_input
          g.met.K.Eq.laws g.met.K.Hash.respects_eq c.each_step_is_a_case.ensures c.owners_agree.ensures w
          c.drain-steps.result w' c.self.invariant.5 c.drain-steps.ensures.ran,
    )

pub returns-clause-causes : goal.returns-clause-causes
returns-clause-causes g c = (invariant_of-self g c).4.locked

pub returns-clause-late : goal.returns-clause-late
returns-clause-late g c = (invariant_of-self g c).4.missed

pub returns-clause-reachable : goal.returns-clause-reachable
returns-clause-reachable g c = (invariant_of-self g c).5
