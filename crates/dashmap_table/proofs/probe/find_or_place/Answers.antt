use Rattle.std.proofs.Common.{arith}
use Rattle.dashmap_table.proofs.Tagging.{lane-some, first-absent, found-slot, place-first}
use Rattle.dashmap_table.proofs.probe.find_or_place.Goals as goal

pub find_among-requires-clause-full : goal.find_among-requires-clause-full
find_among-requires-clause-full g c k has =
    (lane-some g.K.PartialEq.eq c.args.tags.now c.args.slots.now c.requires.tagged c.args.hash c.args.key.now
    c.tag_of.result c.first_on_way-from.result c.whole_lanes_at-same.result c.tag_of.ensures.full
    c.whole_lanes_at-same.ensures k has).1

pub returns-in-Some-clause-held : goal.returns-in-Some-clause-held
returns-in-Some-clause-held g c = found-slot g.K.PartialEq.eq g.met.K.Eq.laws c.args.slots.now c.requires.distinct
    c.args.hash c.args.key.now c.in-Some.slot c.in-Some.ensures.found

pub returns-in-Some-first-2-clause-absent : goal.returns-in-Some-first-2-clause-absent
returns-in-Some-first-2-clause-absent g c =
    first-absent g.K.PartialEq.eq c.args.tags.now c.args.slots.now c.requires.tagged c.args.hash c.args.key.now
    c.first_on_way-from.result c.tag_of.result c.in-Some-first.field-0 c.whole_lanes_at-same.result
    c.whole_lanes_at-ended.result
    (omega (arith, c.if-tags-lt-WIDTH.false)) c.first_on_way-from.ensures.window c.tag_of.ensures.tag
    c.whole_lanes_at-same.ensures c.in_default.ensures.absent c.whole_lanes_at-ended.ensures
    c.in-Some-first.ensures.0

pub returns-in-Some-first-2-clause-place : goal.returns-in-Some-first-2-clause-place
returns-in-Some-first-2-clause-place g c = place-first c.args.tags.now c.args.hash c.first_on_way-from.result
    c.in-Some-first-2.lane c.whole_lanes_at-free.result c.first_on_way-from.ensures.window c.whole_lanes_at-free.ensures
    c.in-Some-first-2.ensures.0
