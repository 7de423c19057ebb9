use Rattle.dashmap_table.proofs.Tagging.{place-on_way, windows-end}
use Rattle.dashmap_table.proofs.probe.free_on_way.Goals as goal

pub returns-in-Some : goal.returns-in-Some
returns-in-Some c =
    place-on_way c.args.tags.now c.args.hash c.windows-count.result c.loop-passed.passed c.window_on_way-from.result
    c.in-Some.lane c.lanes_at.result c.windows-count.ensures c.window_on_way-from.ensures.window
    c.loop-passed-test.true c.loop-passed.invariant c.lanes_at.ensures c.in-Some.ensures.0

pub unreachable-requires : goal.unreachable-requires
unreachable-requires c = windows-end c.args.tags.now c.args.hash c.windows-count.result c.loop-passed.passed
    c.requires.some c.windows-count.ensures c.loop-passed-test.false c.loop-passed.invariant
