use Rattle.std.proofs.Common.{sym, arith}
use Rattle.dashmap_table.proofs.Tagging.{passed-more, absent-at_end, probe-clean, probe-absent, found-slot}
use Rattle.dashmap_table.proofs.probe.find_on_way.Goals as goal

pub returns-in-Some : goal.returns-in-Some
returns-in-Some g c =
    sym (found-slot g.K.PartialEq.eq g.met.K.Eq.laws c.args.slots.now c.requires.distinct c.args.hash c.args.key.now
    c.in-Some.slot c.in-Some.ensures.found)

pub returns-in-Some-first : goal.returns-in-Some-first
returns-in-Some-first g c =
    let clean = probe-clean g.K.PartialEq.eq c.args.tags.now c.args.slots.now c.requires.tagged c.args.hash
    c.args.key.now c.windows-count.result c.loop-passed.passed c.window_on_way-from.result c.tag_of.result
    c.lanes_at-same.result c.windows-count.ensures c.window_on_way-from.ensures.window c.tag_of.ensures.tag
    c.lanes_at-same.ensures c.in_default.ensures.absent in
    let passed = passed-more g.K.PartialEq.eq c.args.tags.now c.args.slots.now c.requires.tagged c.args.hash
    c.args.key.now c.loop-passed.passed c.loop-passed.invariant clean in
    sym (probe-absent g.K.PartialEq.eq c.args.tags.now c.args.slots.now c.requires.tagged c.args.hash c.args.key.now
    c.windows-count.result c.loop-passed.passed c.window_on_way-from.result c.in-Some-first.field-0
    c.lanes_at.result c.windows-count.ensures c.window_on_way-from.ensures.window c.loop-passed-test.true passed
    c.lanes_at.ensures c.in-Some-first.ensures.0)

pub loop-passed-preserved : goal.loop-passed-preserved
loop-passed-preserved g c =
    passed-more g.K.PartialEq.eq c.args.tags.now c.args.slots.now c.requires.tagged c.args.hash c.args.key.now
    c.loop-passed.passed c.loop-passed.invariant
    (probe-clean g.K.PartialEq.eq c.args.tags.now c.args.slots.now c.requires.tagged c.args.hash c.args.key.now
    c.windows-count.result c.loop-passed.passed c.window_on_way-from.result c.tag_of.result c.lanes_at-same.result
    c.windows-count.ensures c.window_on_way-from.ensures.window c.tag_of.ensures.tag c.lanes_at-same.ensures
    c.in_default.ensures.absent)

pub returns : goal.returns
returns g c =
    sym (absent-at_end g.K.PartialEq.eq c.args.tags.now c.args.slots.now c.requires.tagged c.args.hash c.args.key.now
    (λ j below. c.loop-passed.invariant j (omega (arith, below, c.windows-count.ensures, c.loop-passed-test.false))))
