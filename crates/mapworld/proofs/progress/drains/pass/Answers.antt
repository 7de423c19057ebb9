use Rattle.std.proofs.Common.{◌+◌, arith}
use Rattle.std.proofs.lemmas.List.{length-map}
use Rattle.mapworld_state.specs.Places.{place_of}
use Rattle.mapworld_state.specs.Core.{state_of}
use Rattle.mapworld_state.specs.World.{setup_of}
use Rattle.mapworld.proofs.ProgressFacts.Draining.{fixed-by, length-by, runs-on, same-places, sized}
use Rattle.mapworld.proofs.ProgressFacts.Timing.{all-stop, few-made, in-time, spare, still, time-behind}
use Rattle.mapworld.proofs.ProgressFacts.Turning.{others_go_on}
use Rattle.mapworld.proofs.progress.drains.pass.Goals as goal

pub step_on-made-requires-clause-time : goal.step_on-made-requires-clause-time
step_on-made-requires-clause-time g c =
    let w0 = state_of c.args.core.now in
    let w = state_of c.loop-thread.core in
    let x = setup_of g.D.Deed g.S.BuildHasher g.S.Hasher.Hasher g.K.PartialEq.eq g.K.Hash.hash_input w0 in
    let y = setup_of g.D.Deed g.S.BuildHasher g.S.Hasher.Hasher g.K.PartialEq.eq g.K.Hash.hash_input w in
    time-behind y w0 w c.loop-thread.made c.loop-thread.thread
    (length-by x w0 c.loop-thread.made w c.loop-thread.invariant.by)
    (c.loop-thread.invariant.falls (spare w0) (in-time x w0 c.requires.time) c.loop-thread.thread)

pub loop-thread-preserved : goal.loop-thread-preserved
loop-thread-preserved g c =
    let w0 = state_of c.args.core.now in
    let w = state_of c.loop-thread.core in
    let w' = state_of c.step_on-made.new.core in
    let t = c.loop-thread.thread in
    let x = setup_of g.D.Deed g.S.BuildHasher g.S.Hasher.Hasher g.K.PartialEq.eq g.K.Hash.hash_input w0 in
    let y = setup_of g.D.Deed g.S.BuildHasher g.S.Hasher.Hasher g.K.PartialEq.eq g.K.Hash.hash_input w in
    let z = setup_of g.D.Deed g.S.BuildHasher g.S.Hasher.Hasher g.K.PartialEq.eq g.K.Hash.hash_input w' in
    let by = runs-on g.D.Deed g.S.BuildHasher g.S.Hasher.Hasher g.K.PartialEq.eq g.K.Hash.hash_input w0 w w'
    c.loop-thread.made c.step_on-made.result c.loop-thread.invariant.by c.step_on-made.ensures.ran in
    record {
      by = by;
      falls = λ most few u.
          let others = others_go_on z w'
          (record {
            sound = c.step_on-made.ensures.sound;
            locks = c.known.ensures;
            sizes = sized c.step_on-made.new.core c.step_on-made.ensures.room;
          }) t c.step_on-made.ensures.stops u in
          omega (arith, others, c.loop-thread.invariant.falls most few t, c.step_on-made.ensures.falls);
      quiet = still y w0 w t w' c.loop-thread.made c.step_on-made.result c.loop-thread.invariant.quiet
          c.step_on-made.ensures.ran c.step_on-made.ensures.stops;
      sound = c.step_on-made.ensures.sound;
      room = c.step_on-made.ensures.room;
      slots = c.step_on-made.ensures.slots;
      places = same-places c.args.core.now c.step_on-made.new.core c.requires.room c.step_on-made.ensures.room
          (fixed-by x w0 (c.loop-thread.made + c.step_on-made.result) w' by);
    }

pub overflow_add-made : goal.overflow_add-made
overflow_add-made g c =
    let w0 = state_of c.args.core.now in
    let x = setup_of g.D.Deed g.S.BuildHasher g.S.Hasher.Hasher g.K.PartialEq.eq g.K.Hash.hash_input w0 in
    omega (
      arith,
      few-made w0 (c.loop-thread.made + c.step_on-made.result)
          (omega (
            arith,
            c.loop-thread.invariant.falls (spare w0) (in-time x w0 c.requires.time) c.loop-thread.thread,
            c.step_on-made.ensures.falls,
          )),
    )

pub returns-clause-stops : goal.returns-clause-stops
returns-clause-stops g c =
    λ none. all-stop (setup_of g.D.Deed g.S.BuildHasher g.S.Hasher.Hasher g.K.PartialEq.eq g.K.Hash.hash_input
    (state_of c.args.core.now)) (state_of c.args.core.now) (state_of c.loop-thread.core) c.loop-thread.thread
    (omega (
      arith,
      length-map c.args.core.now.places.items place_of,
      c.loop-thread-test.false,
      c.len-thread-end.ensures,
      c.args.core.now.places.ok.0,
    )) (c.loop-thread.invariant.quiet none)
