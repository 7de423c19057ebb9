use Rattle.std.proofs.Common.{refl, arith}
use Rattle.std.specs.Vec.{with_item}
use Rattle.dashmap_table.specs.Slots.{giving_value}
use Rattle.dashmap_table.proofs.Changing.{is_changed, change-after, value-sound}
use Rattle.dashmap_table.proofs.TagChanges.{table-changed, IsSound-tagged}
use Rattle.dashmap_table.proofs.tag_table.TagTable.replace_value.Goals as goal

pub invariant_of-self : goal.invariant_of-self
invariant_of-self g c =
    let is = is_changed (giving_value c.args.value) c.self.inside.slots.items c.args.slot c.index_mut.result.now
    c.set_value.new.slot (omega (arith, c.self.inside.slots.ok.0)) c.index_mut.ensures.value
    c.set_value.ensures.after in
    table-changed g.K.PartialEq.eq (giving_value c.args.value) (λ e. refl) c.self.inside.tags _ _ _ _ _ c.self.invariant
    is (value-sound g.K.PartialEq.eq g.met.K.Eq.laws _ _ _ c.self.invariant.distinct c.self.invariant.counted _ _
    is)

pub returns-clause-after : goal.returns-clause-after
returns-clause-after g c =
    let is = is_changed (giving_value c.args.value) c.self.inside.slots.items c.args.slot c.index_mut.result.now
    c.set_value.new.slot (omega (arith, c.self.inside.slots.ok.0)) c.index_mut.ensures.value
    c.set_value.ensures.after in
    change-after _ _ _ c.self.view_is _ _ _ is

pub returns-clause-sound : goal.returns-clause-sound
returns-clause-sound g c = IsSound-tagged g.K.PartialEq.eq _
    (with_item c.self.inside.slots c.args.slot c.set_value.new.slot) _ _ (invariant_of-self g c)
