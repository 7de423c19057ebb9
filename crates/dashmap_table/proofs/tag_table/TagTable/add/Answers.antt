use Rattle.dashmap_table.proofs.TagChanges.{put-table, put-adds, IsSound-tagged}
use Rattle.dashmap_table.proofs.tag_table.TagTable.add.Goals as goal

pub invariant_of-self : goal.invariant_of-self
invariant_of-self g c =
    put-table g.K.PartialEq.eq c.self.inside.tags c.self.inside.slots.items c.self.inside.full c.self.inside.left
    c.self.invariant c.as_slice.result.now c.as_slice.ensures.tags c.args.self.now c.self.view_is
    g.met.K.Eq.laws c.args.entry c.requires.absent c.requires.room c.free_slot-slot.result c.free_slot-slot.ensures
    c.fill.ensures.low c.fill.result c.fill.ensures.empty c.fill.new.tags c.fill.ensures.tags c.fill.new.slots.items
    c.fill.ensures.slots

pub returns-clause-added : goal.returns-clause-added
returns-clause-added g c =
    put-adds g.K.PartialEq.eq c.self.inside.tags c.self.inside.slots.items c.self.inside.full c.self.inside.left
    c.self.invariant c.as_slice.result.now c.as_slice.ensures.tags c.args.self.now c.self.view_is
    g.met.K.Eq.laws c.args.entry c.requires.absent c.requires.room c.free_slot-slot.result c.free_slot-slot.ensures
    c.fill.ensures.low c.fill.result c.fill.ensures.empty c.fill.new.tags c.fill.ensures.tags c.fill.new.slots.items
    c.fill.ensures.slots

pub returns-clause-sound : goal.returns-clause-sound
returns-clause-sound g c = IsSound-tagged g.K.PartialEq.eq _ c.fill.new.slots _ _ (invariant_of-self g c)
