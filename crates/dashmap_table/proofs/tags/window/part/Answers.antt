use Rattle.std.proofs.Common.{◌<◌, ◌^◌, ◌∙◌, arith}
use Rattle.dashmap_table.specs.Tags.Lanes.{accepts}
use Rattle.dashmap_table.proofs.TagsFacts.Masks.{mask-small, mask-whole, byte-small}
use Rattle.dashmap_table.proofs.tags.window.part.Goals as goal

pub overflow_mul-bits : goal.overflow_mul-bits
overflow_mul-bits c =
    let small : c.loop-at.bits < 2 ^ 16 =
    omega (
      arith,
      c.loop-at.invariant.seen,
      mask-small (accepts c.args.wanted) c.args.tags.now c.args.from
          c.loop-at.at c.loop-at.invariant.behind c.loop-at.invariant.within c.requires.short,
    ) in
    record { fits = omega (arith, small) }

pub overflow_add-bits : goal.overflow_add-bits
overflow_add-bits c =
    let small : c.loop-at.bits < 2 ^ 16 =
    omega (
      arith,
      c.loop-at.invariant.seen,
      mask-small (accepts c.args.wanted) c.args.tags.now c.args.from
          c.loop-at.at c.loop-at.invariant.behind c.loop-at.invariant.within c.requires.short,
    ) in
    record { fits = omega (arith, small, byte-small c.accepts.result) }

pub returns : goal.returns
returns c =
    c.loop-at.invariant.seen ∙ mask-whole (accepts c.args.wanted) c.args.tags.now c.args.from c.loop-at.at
    (omega (arith, c.loop-at.invariant.behind, c.loop-at-test.false)) c.requires.short
