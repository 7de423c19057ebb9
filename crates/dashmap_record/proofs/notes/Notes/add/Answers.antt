use Rattle.dashmap_record.proofs.Ordering.{ordered_by}
use Rattle.dashmap_record.proofs.notes.Notes.add.Goals as goal

pub invariant_of-self : goal.invariant_of-self
invariant_of-self g c = ordered_by c.args.self.now c.args.entry c.self.inside.entries.items
    c.push_reserved.new.self.items c.self.inside.last _ _ c.self.view_is c.self.invariant c.requires.above
    c.push_reserved.ensures.items
