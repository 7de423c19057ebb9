use Rattle.std.proofs.Common.{rules, ◌≡◌, ◌<◌, None, refl, sym, arith}
use Rattle.dashmap_table.specs.Slots.{slot_of, entry_with, count}
use Rattle.dashmap_table.proofs.TagChanges.{has-room, put-table, put-adds, IsSound-tagged, if-none}
use Rattle.dashmap_table.proofs.tag_table.TagTable.insert.Goals as goal

pub invariant_of-self : goal.invariant_of-self
invariant_of-self g c =
    let absent : slot_of g.K.PartialEq.eq c.args.self.now.slots c.args.hash c.args.key ≡ None = search rules in
    let some : 0 < c.self.inside.left = omega (arith, c.if-self-lt1.false) in
    let room : count c.args.self.now.slots < c.args.self.now.room = has-room g.K.PartialEq.eq c.self.inside.tags
    c.self.inside.slots.items c.self.inside.full c.self.inside.left c.self.invariant c.as_slice.result.now
    c.as_slice.ensures.tags c.args.self.now c.self.view_is some in
    put-table g.K.PartialEq.eq c.self.inside.tags c.self.inside.slots.items c.self.inside.full c.self.inside.left
    c.self.invariant c.as_slice.result.now c.as_slice.ensures.tags c.args.self.now c.self.view_is
    g.met.K.Eq.laws (entry_with c.args.hash c.args.key c.args.value) absent room c.in-Err.slot c.in-Err.ensures.place
    c.fill.ensures.low c.fill.result c.fill.ensures.empty c.fill.new.tags c.fill.ensures.tags c.fill.new.slots.items
    c.fill.ensures.slots

pub returns-in-Err-clause-added : goal.returns-in-Err-clause-added
returns-in-Err-clause-added g c =
    let absent : slot_of g.K.PartialEq.eq c.args.self.now.slots c.args.hash c.args.key ≡ None = search rules in
    let some : 0 < c.self.inside.left = omega (arith, c.if-self-lt1.false) in
    let room : count c.args.self.now.slots < c.args.self.now.room = has-room g.K.PartialEq.eq c.self.inside.tags
    c.self.inside.slots.items c.self.inside.full c.self.inside.left c.self.invariant c.as_slice.result.now
    c.as_slice.ensures.tags c.args.self.now c.self.view_is some in
    if-none _ _ (sym absent) (
      refl,
      put-adds g.K.PartialEq.eq c.self.inside.tags c.self.inside.slots.items c.self.inside.full c.self.inside.left
          c.self.invariant c.as_slice.result.now c.as_slice.ensures.tags c.args.self.now c.self.view_is
          g.met.K.Eq.laws (entry_with c.args.hash c.args.key c.args.value) absent room c.in-Err.slot
          c.in-Err.ensures.place c.fill.ensures.low c.fill.result c.fill.ensures.empty c.fill.new.tags
          c.fill.ensures.tags c.fill.new.slots.items c.fill.ensures.slots,
    )

pub returns-in-Err-clause-sound : goal.returns-in-Err-clause-sound
returns-in-Err-clause-sound g c = IsSound-tagged g.K.PartialEq.eq _ c.fill.new.slots _ _ (invariant_of-self g c)
