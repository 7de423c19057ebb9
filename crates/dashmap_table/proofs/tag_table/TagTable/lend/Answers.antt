use Rattle.std.proofs.Common.{refl}
use Rattle.dashmap_table.specs.Slots.{giving_value}
use Rattle.dashmap_table.proofs.Changing.{is_changed, value-sound}
use Rattle.dashmap_table.proofs.TagChanges.{table-changed, full-within}
use Rattle.dashmap_table.proofs.tag_table.TagTable.lend.Goals as goal

pub invariant_of-self-lent : goal.invariant_of-self-lent
invariant_of-self-lent g c w =
    let is = is_changed (giving_value w) c.self.inside.slots.items c.args.slot c.index_mut.result.now _
    (full-within c.args.self.now c.self.inside.slots.items _ c.args.slot c.self.view_is c.requires)
    c.index_mut.ensures.value refl in
    table-changed g.K.PartialEq.eq (giving_value w) (λ e. refl) c.self.inside.tags _ _ _ _ _ c.self.invariant is
    (value-sound g.K.PartialEq.eq g.met.K.Eq.laws _ _ _ c.self.invariant.distinct c.self.invariant.counted _ _ is)
