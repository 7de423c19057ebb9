use Rattle.std.proofs.Common.{refl, sym, arith}
use Rattle.mapworld_state.specs.Places.{place_of}
use Rattle.mapworld_state.specs.Core.{state_of}
use Rattle.mapworld_state.proofs.Views.{view-at, view-from}
use Rattle.mapworld_state.proofs.LocksFacts.Sizes.{ends-size}
use Rattle.mapworld_transitions.proofs.Rooms.{moved}
use Rattle.mapworld_state.proofs.InvariantFacts.Admitting.{sound-leaves}
use Rattle.mapworld_steps.proofs.PutBack.{put_there}
use Rattle.mapworld_steps.proofs.queues.leave_lock.Goals as goal

pub returns-clause-leaves : goal.returns-clause-leaves
returns-clause-leaves g c =
    let b = c.requires.owes in
    record {
      place = b.0;
      stands = b.1;
      before = b.2;
      locks = c.finish.new.self;
      ended = c.finish.result;
      ends = c.finish.ensures;
      after = refl;
    }

pub returns-clause-sound : goal.returns-clause-sound
returns-clause-sound g c = sound-leaves _ (state_of c.args.core.now) c.args.thread _ c.requires.sound
    (returns-clause-leaves g c)

pub returns-clause-room : goal.returns-clause-room
returns-clause-room g c =
    let core = c.args.core.now in
    let v = view-from place_of core.places.items c.args.thread c.requires.owes.0 c.requires.owes.1 in
    let here = view-at place_of core.places.items c.args.thread v.0 v.1 in
    moved core core.places c.finish.new.self c.args.thread v.0 v.0 c.requires.room v.1
    (sym (put_there core.places.items c.args.thread v.0 v.1)) refl (omega arith) (omega arith) refl (λ h. h) refl
    (omega arith)
    (λ i h has. c.requires.room.held c.args.thread i (place_of v.0) h here has)
    (ends-size _ _ c.args.thread c.finish.result c.finish.ensures)
