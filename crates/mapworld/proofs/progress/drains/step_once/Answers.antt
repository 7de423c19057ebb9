use Rattle.std.proofs.Common.{false, refl}
use Rattle.mapworld_state.specs.Core.{state_of}
use Rattle.mapworld.proofs.ProgressFacts.Draining.{made-behind, sized, sound-behind}
use Rattle.mapworld.proofs.progress.drains.step_once.Goals as goal

pub returns-clause-made : goal.returns-clause-made
returns-clause-made g c =
    let w = state_of c.args.core.now in
    let w' = state_of c.advance.new.core in
    made-behind g.D.Deed g.S.BuildHasher g.S.Hasher.Hasher g.K.PartialEq.eq g.K.Hash.hash_input g.met.K.Eq.laws
    g.met.K.Hash.respects_eq w (record { thread = c.args.thread; fair = false; deadline = false }) w' c.requires.sound
    c.known.ensures (sized c.args.core.now c.requires.room) refl c.advance.result c.advance.ensures.moves
    c.advance.ensures.made

pub returns-clause-sound : goal.returns-clause-sound
returns-clause-sound g c =
    let w = state_of c.args.core.now in
    let w' = state_of c.advance.new.core in
    sound-behind g.D.Deed g.S.BuildHasher g.S.Hasher.Hasher g.K.PartialEq.eq g.K.Hash.hash_input g.met.K.Eq.laws
    g.met.K.Hash.respects_eq w _ w' c.requires.sound c.advance.result c.advance.ensures.made
