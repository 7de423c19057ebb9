use Rattle.std.proofs.Common.{sym}
use Rattle.mapworld_state.specs.Core.{state_of}
use Rattle.mapworld_state.specs.World.{setup_of}
use Rattle.mapworld_state.proofs.InvariantFacts.CausesFacts.Meeting.{sleepers-have_company, words-have_calls}
use Rattle.mapworld.proofs.ProgressFacts.Draining.{sized}
use Rattle.mapworld.proofs.Guarding.{guards_are_owners}
use Rattle.mapworld.proofs.Histories.{fixed-history}
use Rattle.mapworld.proofs.Outcomes.{world-agrees, hold_by_phase}
use Rattle.mapworld.proofs.world.MapWorld.run.Goals as goal

pub returns-clause-agrees : goal.returns-clause-agrees
returns-clause-agrees g c =
    let w = state_of c.self.inside.core in
    rw (← c.self.view_is)
    (world-agrees g.D.Deed g.S.BuildHasher g.S.Hasher.Hasher g.K.PartialEq.eq g.K.Hash.hash_input w g.met.K.Eq.laws
    g.met.K.Hash.respects_eq c.self.invariant.0)

pub returns-clause-placed : goal.returns-clause-placed
returns-clause-placed g c =
    rw (← c.self.view_is) c.self.invariant.0.placed

pub returns-clause-adds : goal.returns-clause-adds
returns-clause-adds g c = c.make_steps-result.ensures.adds

pub returns-clause-fixed : goal.returns-clause-fixed
returns-clause-fixed g c = fixed-history _ _ c.make_steps-result.ensures.fixed

pub returns-clause-guards : goal.returns-clause-guards
returns-clause-guards g c =
    let w = state_of c.self.inside.core in
    rw (← c.self.view_is) (guards_are_owners c.desks_count_as_words.ensures w.locks c.known.ensures)

pub returns-clause-by_phase : goal.returns-clause-by_phase
returns-clause-by_phase g c =
    let w = state_of c.self.inside.core in
    rw (← c.self.view_is) (hold_by_phase (setup_of g.D.Deed g.S.BuildHasher g.S.Hasher.Hasher g.K.PartialEq.eq
    g.K.Hash.hash_input w) w c.self.invariant.0)

pub returns-clause-causes : goal.returns-clause-causes
returns-clause-causes g c =
    rw (← c.self.view_is) c.self.invariant.4.locked

pub returns-clause-late : goal.returns-clause-late
returns-clause-late g c =
    rw (← c.self.view_is) c.self.invariant.4.missed

pub returns-clause-used : goal.returns-clause-used
returns-clause-used g c =
    let w = state_of c.self.inside.core in
    rw (← c.self.view_is)
    (words-have_calls (setup_of g.D.Deed g.S.BuildHasher g.S.Hasher.Hasher g.K.PartialEq.eq g.K.Hash.hash_input w) w
    c.self.invariant.0 c.known.ensures (sym (sized c.self.inside.core c.self.invariant.1).locks.threads_are)
    c.self.invariant.4)

pub returns-clause-waits : goal.returns-clause-waits
returns-clause-waits g c =
    let w = state_of c.self.inside.core in
    rw (← c.self.view_is)
    (sleepers-have_company (setup_of g.D.Deed g.S.BuildHasher g.S.Hasher.Hasher g.K.PartialEq.eq g.K.Hash.hash_input
    w) w c.self.invariant.0 c.known.ensures (sym (sized c.self.inside.core c.self.invariant.1).locks.threads_are)
    c.self.invariant.4)

pub returns-clause-reachable : goal.returns-clause-reachable
returns-clause-reachable g c =
    rw (← c.self.view_is) c.self.invariant.5
