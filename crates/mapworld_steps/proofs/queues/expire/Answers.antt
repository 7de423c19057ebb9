use Rattle.std.proofs.Common.{length, refl, sym, ap, ap₂, arith, length-append}
use Rattle.mapworld_steps.proofs.Asking.{expires-size}
use Rattle.mapworld_steps.proofs.Kept.{kept-there}
use Rattle.mapworld_state.specs.Places.{place_of}
use Rattle.mapworld_state.specs.Core.{state_of}
use Rattle.mapworld_state.proofs.Views.{view-at}
use Rattle.mapworld_transitions.proofs.Rooms.{shifted}
use Rattle.mapworld_steps.proofs.PutBack.{put_there}
use Rattle.mapworld_steps.proofs.queues.expire.Goals as goal

pub returns-clause-step : goal.returns-clause-step
returns-clause-step g c =
    let w = state_of c.args.core.now in
    let t = c.args.step.thread in
    let v = kept-there c.args.core.now.places.items t c.requires.thread in
    let here = view-at place_of c.args.core.now.places.items t v.0 v.1 in
    record {
      place = place_of v.0;
      stands = here;
      locks = c.deadline.new.self;
      expires = c.deadline.ensures;
      after = ap₂ (λ ss ps. record w { steps = ss; places = ps; locks = c.deadline.new.self }) c.appended-core.ensures
          (sym (put_there w.places t (place_of v.0) here));
    }

pub returns-clause-room : goal.returns-clause-room
returns-clause-room g c =
    let core = c.args.core.now in
    let t = c.args.step.thread in
    let v = kept-there core.places.items t c.requires.thread in
    let here = view-at place_of core.places.items t v.0 v.1 in
    shifted _ _ t v.0 v.0 c.requires.room (record {
      here = v.1;
      places = sym (put_there core.places.items t v.0 v.1);
      numbers = c.requires.numbers;
      steps = simp length-append at (ap length c.appended-core.ensures);
      count = refl;
      programs = refl;
      tables = refl;
      held = λ i h has. c.requires.room.held t i (place_of v.0) h here has;
      locks = expires-size _ _ t c.deadline.ensures;
      unanswered = refl;
      answers = refl;
      replies = refl;
      listing = omega arith;
      blocks = refl;
      visits = λ h. h;
      capacity = refl;
      lists = omega arith;
      adding = omega arith;
      pairs = c.requires.room.pairs;
      more_blocks = omega arith;
      listed = λ i e. c.requires.room.listed t (place_of v.0) i here e;
    })
