use Rattle.std.proofs.Common.{nat_eq, nat_lt, nat_le, ap, sym, ◌∙◌, arith, w8}
use Rattle.std.specs.Simd.Lanes.{chunk}
use Rattle.std.proofs.lemmas.Simd.{length-chunk, bitmask_splat}
use Rattle.dashmap_table.specs.Tags.Lanes.{lanes_by}
use Rattle.dashmap_table.proofs.TagsFacts.Masks.{bitmask_splat_left}
use Rattle.dashmap_table.proofs.tags.window.whole.Goals as goal

pub returns-in-Tag : goal.returns-in-Tag
returns-in-Tag c =
    bitmask_splat w8 nat_eq (chunk c.args.from 16 c.args.tags.now) 16 c.in-Tag.tag
    (length-chunk c.args.from 16 c.args.tags.now c.requires) (omega arith)
    ∙ ap (λ w. lanes_by w c.args.tags.now c.args.from) (sym c.in-Tag.is)

pub returns-in-Free : goal.returns-in-Free
returns-in-Free c =
    bitmask_splat_left nat_le (chunk c.args.from 16 c.args.tags.now) 128
    (length-chunk c.args.from 16 c.args.tags.now c.requires)
    ∙ ap (λ w. lanes_by w c.args.tags.now c.args.from) (sym c.in-Free.is)

pub returns-in-Full : goal.returns-in-Full
returns-in-Full c =
    bitmask_splat w8 nat_lt (chunk c.args.from 16 c.args.tags.now) 16 128
    (length-chunk c.args.from 16 c.args.tags.now c.requires) (omega arith)
    ∙ ap (λ w. lanes_by w c.args.tags.now c.args.from) (sym c.in-Full.is)
