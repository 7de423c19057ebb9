use Rattle.std.proofs.Common.{ap, ◌∙◌}
use Rattle.dashmap_table.specs.Slots.{count, entry_of}
use Rattle.dashmap_table.specs.Table.{Table}
use Rattle.dashmap_table.proofs.tag_table.TagTable.rebuild.Goals as goal

pub returns-clause-pairs : goal.returns-clause-pairs
returns-clause-pairs g c =
    let was = c.deref_mut.ensures.value ∙ ap (λ (t : Table g.row.K.Denot g.row.V.Denot). t.slots) c.self.view_is in
    record {
      found = λ h k.
          ap (λ (t : Table g.row.K.Denot g.row.V.Denot). entry_of g.K.PartialEq.eq t.slots h k) c.table.view_is
          ∙ (ap (λ l. entry_of g.K.PartialEq.eq l h k) c.limit.ensures.slots
          ∙ (c.move_all.ensures.found h k ∙ ap (λ l. entry_of g.K.PartialEq.eq l h k) was));
      counted = ap (λ (t : Table g.row.K.Denot g.row.V.Denot). count t.slots) c.table.view_is
          ∙ (ap count c.limit.ensures.slots ∙ (c.move_all.ensures.counted ∙ ap count was));
    }
