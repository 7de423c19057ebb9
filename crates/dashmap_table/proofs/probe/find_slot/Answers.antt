use Rattle.std.proofs.Common.{sym, arith}
use Rattle.dashmap_table.proofs.Tagging.{lane-some, first-absent, found-slot}
use Rattle.dashmap_table.proofs.probe.find_slot.Goals as goal

pub find_among-requires-clause-full : goal.find_among-requires-clause-full
find_among-requires-clause-full g c k has =
    (lane-some g.K.PartialEq.eq c.args.tags.now c.args.slots.now c.requires.tagged c.args.hash c.args.key.now
    c.tag_of.result c.first_on_way-from.result c.whole_lanes_at-same.result c.tag_of.ensures.full
    c.whole_lanes_at-same.ensures k has).1

pub returns-in-Some : goal.returns-in-Some
returns-in-Some g c =
    sym (found-slot g.K.PartialEq.eq g.met.K.Eq.laws c.args.slots.now c.requires.distinct c.args.hash c.args.key.now
    c.in-Some.slot c.in-Some.ensures.found)

pub returns-in-Some-first : goal.returns-in-Some-first
returns-in-Some-first g c =
    sym (first-absent g.K.PartialEq.eq c.args.tags.now c.args.slots.now c.requires.tagged c.args.hash c.args.key.now
    c.first_on_way-from.result c.tag_of.result c.in-Some-first.field-0 c.whole_lanes_at-same.result
    c.whole_lanes_at.result
    (omega (arith, c.if-tags-lt-WIDTH.false)) c.first_on_way-from.ensures.window c.tag_of.ensures.tag
    c.whole_lanes_at-same.ensures c.in_default.ensures.absent c.whole_lanes_at.ensures c.in-Some-first.ensures.0)
