use Rattle.std.proofs.Common.{◌<◌, length, arith}
use Rattle.dashmap_view.proofs.Cloning.{absent-next, room-next, found-next, counted-next, room-after, cloned-all}
use Rattle.dashmap_view.proofs.clone.clone_shard.Goals as goal

pub clone_slot-requires-clause-absent : goal.clone_slot-requires-clause-absent
clone_slot-requires-clause-absent g c =
    absent-next g.K.PartialEq.eq g.met.K.Eq.laws c.args.shard.now.slots c.len.ensures.sound.distinct c.loop-slot.slot
    c.loop-slot.clones c.loop-slot.invariant.found c.loop-slot.invariant.counted c.loop-slot.invariant.room

pub clone_slot-requires-clause-room : goal.clone_slot-requires-clause-room
clone_slot-requires-clause-room g c =
    room-next g.K.PartialEq.eq g.met.K.Eq.laws c.args.shard.now.slots c.len.ensures.sound.distinct c.loop-slot.slot
    c.loop-slot.clones c.loop-slot.invariant.found c.loop-slot.invariant.counted c.loop-slot.invariant.room

pub loop-slot-preserved : goal.loop-slot-preserved
loop-slot-preserved g c =
    let within : c.loop-slot.slot < length c.args.shard.now.slots =
    omega (arith, c.loop-slot-test.true, c.loop-slot.auto.slot-end) in
    record {
      found = found-next g.K.PartialEq.eq g.met.K.Eq.laws c.args.shard.now.slots c.len.ensures.sound.distinct
          c.loop-slot.slot c.loop-slot.clones c.loop-slot.invariant.found c.loop-slot.invariant.counted
          c.loop-slot.invariant.room within c.in_ok-clones.clones c.in_ok-clones.ensures;
      counted = counted-next g.K.PartialEq.eq g.met.K.Eq.laws c.args.shard.now.slots c.len.ensures.sound.distinct
          c.loop-slot.slot c.loop-slot.clones c.loop-slot.invariant.found c.loop-slot.invariant.counted
          c.loop-slot.invariant.room within c.in_ok-clones.clones c.in_ok-clones.ensures;
      room = room-after g.K.PartialEq.eq g.met.K.Eq.laws c.args.shard.now.slots c.len.ensures.sound.distinct
          c.loop-slot.slot c.loop-slot.clones c.loop-slot.invariant.found c.loop-slot.invariant.counted
          c.loop-slot.invariant.room within c.in_ok-clones.clones c.in_ok-clones.ensures;
    }

pub returns : goal.returns
returns g c =
    cloned-all g.K.PartialEq.eq c.args.shard.now c.loop-slot.clones c.loop-slot.slot
    (omega (arith, c.loop-slot-test.false, c.loop-slot.auto.slot-end)) c.loop-slot.invariant.found
    c.loop-slot.invariant.counted c.len-pairs.ensures.sound
