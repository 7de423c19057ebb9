use Rattle.std.proofs.Common.{◌+◌, arith}
use Rattle.mapworld_state.specs.Core.{state_of}
use Rattle.mapworld_state.specs.Running.{bound_of}
use Rattle.mapworld_state.specs.World.{setup_of}
use Rattle.mapworld.specs.Progress.Drains.{core_left}
use Rattle.mapworld.proofs.ProgressFacts.Bounding.{steps_are_few}
use Rattle.mapworld.proofs.ProgressFacts.Draining.{length-by, runs-on, sized}
use Rattle.mapworld.proofs.ProgressFacts.Resting.{ends_at_rest}
use Rattle.mapworld.proofs.ProgressFacts.Timing.{falls-on, few-made, in-time, spare, time-behind}
use Rattle.mapworld.proofs.progress.drains.drain.Goals as goal

pub pass-more-requires-clause-time : goal.pass-more-requires-clause-time
pass-more-requires-clause-time g c =
    let w0 = state_of c.args.core.now in
    let w = state_of c.passes.core in
    let x = setup_of g.D.Deed g.S.BuildHasher g.S.Hasher.Hasher g.K.PartialEq.eq g.K.Hash.hash_input w0 in
    λ t. time-behind (setup_of g.D.Deed g.S.BuildHasher g.S.Hasher.Hasher g.K.PartialEq.eq g.K.Hash.hash_input w) w0 w
    c.passes.made t (length-by x w0 c.passes.made w c.passes.invariant.by)
    (c.passes.invariant.falls (spare w0)
    (in-time (setup_of g.D.Deed g.S.BuildHasher g.S.Hasher.Hasher g.K.PartialEq.eq g.K.Hash.hash_input w0) w0
    c.requires.time) t)

pub passes-preserved : goal.passes-preserved
passes-preserved g c =
    let w0 = state_of c.args.core.now in
    let w = state_of c.passes.core in
    let w' = state_of c.pass-more.new.core in
    record {
      by = runs-on g.D.Deed g.S.BuildHasher g.S.Hasher.Hasher g.K.PartialEq.eq g.K.Hash.hash_input w0 w w' c.passes.made
          c.pass-more.result c.passes.invariant.by c.pass-more.ensures.ran;
      falls = λ most few. falls-on
          (core_left g.D.Deed g.S.BuildHasher g.S.Hasher.Hasher g.K.PartialEq.eq g.K.Hash.hash_input c.passes.core)
          (core_left g.D.Deed g.S.BuildHasher g.S.Hasher.Hasher g.K.PartialEq.eq g.K.Hash.hash_input
          c.pass-more.new.core) c.passes.made c.pass-more.result most (c.passes.invariant.falls most few)
          c.pass-more.ensures.falls;
      sound = c.pass-more.ensures.sound;
      room = c.pass-more.ensures.room;
      slots = c.pass-more.ensures.slots;
    }

pub overflow_add-made : goal.overflow_add-made
overflow_add-made g c =
    let w0 = state_of c.args.core.now in
    let w = state_of c.passes.core in
    let w' = state_of c.pass-more.new.core in
    let low = falls-on
    (core_left g.D.Deed g.S.BuildHasher g.S.Hasher.Hasher g.K.PartialEq.eq g.K.Hash.hash_input c.passes.core)
    (core_left g.D.Deed g.S.BuildHasher g.S.Hasher.Hasher g.K.PartialEq.eq g.K.Hash.hash_input c.pass-more.new.core)
    c.passes.made c.pass-more.result (spare w0)
    (c.passes.invariant.falls (spare w0)
    (in-time (setup_of g.D.Deed g.S.BuildHasher g.S.Hasher.Hasher g.K.PartialEq.eq g.K.Hash.hash_input w0) w0
    c.requires.time)) c.pass-more.ensures.falls 0 in
    omega (arith, few-made w0 (c.passes.made + c.pass-more.result) (omega (arith, low)))

pub passes-smaller : goal.passes-smaller
passes-smaller g c =
    let w0 = state_of c.args.core.now in
    let w = state_of c.passes.core in
    let w' = state_of c.pass-more.new.core in
    let few = steps_are_few c.steps_are_few.ensures
    (setup_of g.D.Deed g.S.BuildHasher g.S.Hasher.Hasher g.K.PartialEq.eq g.K.Hash.hash_input w0) w0
    (sized c.args.core.now c.requires.room) c.known.ensures in
    let low = falls-on
    (core_left g.D.Deed g.S.BuildHasher g.S.Hasher.Hasher g.K.PartialEq.eq g.K.Hash.hash_input c.passes.core)
    (core_left g.D.Deed g.S.BuildHasher g.S.Hasher.Hasher g.K.PartialEq.eq g.K.Hash.hash_input c.pass-more.new.core)
    c.passes.made c.pass-more.result (bound_of w0)
    (c.passes.invariant.falls (bound_of w0) (λ u. omega (arith, few.most u, few.bounded))) c.pass-more.ensures.falls
    0 in
    omega (arith, low, c.if-more-eq0.false)

pub returns-clause-few : goal.returns-clause-few
returns-clause-few g c =
    let w0 = state_of c.args.core.now in
    let w = state_of c.passes.core in
    let w' = state_of c.pass-more.new.core in
    let few = steps_are_few c.steps_are_few.ensures
    (setup_of g.D.Deed g.S.BuildHasher g.S.Hasher.Hasher g.K.PartialEq.eq g.K.Hash.hash_input w0) w0
    (sized c.args.core.now c.requires.room) c.known.ensures in
    let low = falls-on
    (core_left g.D.Deed g.S.BuildHasher g.S.Hasher.Hasher g.K.PartialEq.eq g.K.Hash.hash_input c.passes.core)
    (core_left g.D.Deed g.S.BuildHasher g.S.Hasher.Hasher g.K.PartialEq.eq g.K.Hash.hash_input c.pass-more.new.core)
    c.passes.made c.pass-more.result (bound_of w0)
    (c.passes.invariant.falls (bound_of w0) (λ u. omega (arith, few.most u, few.bounded))) c.pass-more.ensures.falls
    0 in
    omega (arith, low)

pub returns-clause-ran : goal.returns-clause-ran
returns-clause-ran g c =
    let w0 = state_of c.args.core.now in
    let w = state_of c.passes.core in
    let w' = state_of c.pass-more.new.core in
    runs-on g.D.Deed g.S.BuildHasher g.S.Hasher.Hasher g.K.PartialEq.eq g.K.Hash.hash_input w0 w w' c.passes.made
    c.pass-more.result c.passes.invariant.by c.pass-more.ensures.ran

pub returns-clause-rest : goal.returns-clause-rest
returns-clause-rest g c =
    let w' = state_of c.pass-more.new.core in
    ends_at_rest c.somebody_can_move.ensures
    (setup_of g.D.Deed g.S.BuildHasher g.S.Hasher.Hasher g.K.PartialEq.eq g.K.Hash.hash_input w') w'
    (record {
      sound = c.pass-more.ensures.sound;
      locks = c.known-2.ensures;
      sizes = sized c.pass-more.new.core c.pass-more.ensures.room;
    }) (c.pass-more.ensures.stops c.if-more-eq0.true)

pub returns-clause-time : goal.returns-clause-time
returns-clause-time g c =
    let w0 = state_of c.args.core.now in
    let w = state_of c.passes.core in
    let w' = state_of c.pass-more.new.core in
    let by = runs-on g.D.Deed g.S.BuildHasher g.S.Hasher.Hasher g.K.PartialEq.eq g.K.Hash.hash_input w0 w w'
    c.passes.made c.pass-more.result c.passes.invariant.by c.pass-more.ensures.ran in
    λ t. time-behind (setup_of g.D.Deed g.S.BuildHasher g.S.Hasher.Hasher g.K.PartialEq.eq g.K.Hash.hash_input w') w0 w'
    (c.passes.made + c.pass-more.result) t
    (length-by (setup_of g.D.Deed g.S.BuildHasher g.S.Hasher.Hasher g.K.PartialEq.eq g.K.Hash.hash_input w0) w0
    (c.passes.made + c.pass-more.result) w' by)
    (falls-on (core_left g.D.Deed g.S.BuildHasher g.S.Hasher.Hasher g.K.PartialEq.eq g.K.Hash.hash_input c.passes.core)
    (core_left g.D.Deed g.S.BuildHasher g.S.Hasher.Hasher g.K.PartialEq.eq g.K.Hash.hash_input c.pass-more.new.core)
    c.passes.made c.pass-more.result (spare w0)
    (c.passes.invariant.falls (spare w0)
    (in-time (setup_of g.D.Deed g.S.BuildHasher g.S.Hasher.Hasher g.K.PartialEq.eq g.K.Hash.hash_input w0) w0
    c.requires.time)) c.pass-more.ensures.falls t)
