use Rattle.std.proofs.Common.{sym, ◌∙◌}
use Rattle.dashmap_record.proofs.Changes.{nothing_taken, taken}
use Rattle.dashmap_record.proofs.effect.take.Goals as goal

pub returns-in_err-slot-clause-after : goal.returns-in_err-slot-clause-after
returns-in_err-slot-clause-after g c = nothing_taken g.K.PartialEq.eq g.met.K.Eq.laws c.args.shard.now c.args.shard.now
    c.args.hash c.args.key.now (sym c.find.ensures.slot ∙ c.in_err-slot.was)

pub returns-clause-after : goal.returns-clause-after
returns-clause-after g c = taken g.K.PartialEq.eq g.met.K.Eq.laws c.args.shard.now c.remove.new.self c.args.hash
    c.args.key.now c.in_ok-slot.slot (sym c.find.ensures.slot ∙ c.in_ok-slot.was) c.find.ensures.sound
    c.remove.ensures.sound c.remove.ensures.frees
