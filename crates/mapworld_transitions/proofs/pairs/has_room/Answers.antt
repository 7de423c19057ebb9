use Rattle.std.proofs.Common.{nat_lt, ap, ◌∙◌, sym}
use Rattle.dashmap_table.proofs.Sounds.{length-pairs_of}
use Rattle.mapworld_transitions.proofs.pairs.has_room.Goals as goal

pub returns : goal.returns
returns g c =
    ap (λ n. nat_lt n c.capacity.result) (c.len.ensures.count ∙ sym (length-pairs_of c.args.shard.now.slots))
    ∙ ap (nat_lt _) c.capacity.ensures.room
