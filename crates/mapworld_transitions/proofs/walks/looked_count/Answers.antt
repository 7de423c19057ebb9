use Rattle.std.proofs.Common.{sym, ◌∙◌, arith}
use Rattle.dashmap_table.specs.Slots.{pairs_of}
use Rattle.dashmap_table.proofs.Sounds.{length-pairs_of}
use Rattle.mapworld_transitions.proofs.Counting.{counts-none, counts-all}
use Rattle.mapworld_transitions.proofs.walks.looked_count.Goals as goal

pub returns-in-Capacity-clause-enough : goal.returns-in-Capacity-clause-enough
returns-in-Capacity-clause-enough g c =
    let many = length-pairs_of c.args.shard.now.slots in
    omega (arith, many, c.capacity-room.ensures.room, c.capacity-room.ensures.fits)

pub returns-in_default : goal.returns-in_default
returns-in_default g c =
    let many = length-pairs_of c.args.shard.now.slots in
    record {
      count = sym (counts-none (pairs_of c.args.shard.now.slots) c.args.shard.now.room c.args.walk.now
          (sym c.gives_items.ensures ∙ c.if-gives_items.true));
      enough = omega (arith, many, c.capacity-room.ensures.room, c.capacity-room.ensures.fits);
    }

pub returns-in_default-2 : goal.returns-in_default-2
returns-in_default-2 g c =
    let many = length-pairs_of c.args.shard.now.slots in
    record {
      count = c.len.ensures.count
          ∙ (sym many ∙ sym
          (counts-all (pairs_of c.args.shard.now.slots) c.args.shard.now.room c.args.walk.now
          (sym c.gives_items.ensures ∙ c.if-gives_items.false) c.in_default.not-Capacity));
      enough = omega (arith, many, c.capacity-room.ensures.room, c.capacity-room.ensures.fits);
    }
