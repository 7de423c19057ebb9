use Rattle.std.proofs.Common.{◌+◌, false, ap, arith}
use Rattle.std.proofs.lemmas.Bool.{MatchBool-at_false, MatchBool-at_true}
use Rattle.mapworld_state.specs.Core.{state_of}
use Rattle.mapworld_state.specs.World.{setup_of}
use Rattle.mapworld.specs.Progress.Left.{left}
use Rattle.mapworld.proofs.ProgressFacts.Draining.{falls-own, fixed-by, length-by, next-number, one-step, runs-on}
use Rattle.mapworld.proofs.ProgressFacts.Draining.{same-places}
use Rattle.mapworld.proofs.progress.drains.step_on.Goals as goal

pub step_once-requires-clause-next : goal.step_once-requires-clause-next
step_once-requires-clause-next g c =
    let w0 = state_of c.args.core.now in
    let w = state_of c.on.core in
    let x = setup_of g.D.Deed g.S.BuildHasher g.S.Hasher.Hasher g.K.PartialEq.eq g.K.Hash.hash_input w0 in
    next-number w (omega (arith, c.on.invariant.falls, length-by x w0 c.on.made w c.on.invariant.by, c.requires.time))

pub on-preserved : goal.on-preserved
on-preserved g c =
    let w0 = state_of c.args.core.now in
    let w = state_of c.on.core in
    let w' = state_of c.step_once.new.core in
    let x = setup_of g.D.Deed g.S.BuildHasher g.S.Hasher.Hasher g.K.PartialEq.eq g.K.Hash.hash_input w0 in
    let y = setup_of g.D.Deed g.S.BuildHasher g.S.Hasher.Hasher g.K.PartialEq.eq g.K.Hash.hash_input w in
    let makes = MatchBool-at_true _ _ c.on-test.true c.step_once.ensures.made in
    let by = runs-on g.D.Deed g.S.BuildHasher g.S.Hasher.Hasher g.K.PartialEq.eq g.K.Hash.hash_input w0 w w' c.on.made 1
    c.on.invariant.by (one-step y w (record { thread = c.args.thread; fair = false; deadline = false }) w' makes) in
    record {
      by = by;
      falls = omega (
        arith,
        c.on.invariant.falls,
        falls-own g.D.Deed g.S.BuildHasher g.S.Hasher.Hasher g.K.PartialEq.eq
            g.K.Hash.hash_input g.met.K.Eq.laws g.met.K.Hash.respects_eq w
            (record { thread = c.args.thread; fair = false; deadline = false }) w' makes,
      );
      sound = c.step_once.ensures.sound;
      room = c.step_once.ensures.room;
      slots = c.step_once.ensures.slots;
      places = same-places c.args.core.now c.step_once.new.core c.requires.room c.step_once.ensures.room
          (fixed-by x w0 (c.on.made + 1) w' by);
    }

pub on-smaller : goal.on-smaller
on-smaller g c =
    let w = state_of c.on.core in
    let makes = MatchBool-at_true _ _ c.on-test.true c.step_once.ensures.made in
    omega (
      arith,
      falls-own g.D.Deed g.S.BuildHasher g.S.Hasher.Hasher g.K.PartialEq.eq g.K.Hash.hash_input
          g.met.K.Eq.laws g.met.K.Hash.respects_eq w (record { thread = c.args.thread; fair = false; deadline = false })
          (state_of c.step_once.new.core) makes,
    )

pub returns-clause-falls : goal.returns-clause-falls
returns-clause-falls g c =
    let same = (MatchBool-at_false _ _ c.on-test.false c.step_once.ensures.made).0 in
    let still = ap (λ w. left
    (setup_of g.D.Deed g.S.BuildHasher g.S.Hasher.Hasher g.K.PartialEq.eq g.K.Hash.hash_input w) w c.args.thread)
    same in
    omega (arith, c.on.invariant.falls, still)
