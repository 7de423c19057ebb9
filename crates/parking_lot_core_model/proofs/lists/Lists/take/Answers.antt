use Rattle.std.proofs.Common.{◌≡◌, ap, ◌∙◌, sym}
use Rattle.parking_lot_core_model.specs.Lists.{lists_of}
use Rattle.parking_lot_core_model.proofs.Kept.{item_is, nth-item, lists_of-remove}
use Rattle.parking_lot_core_model.proofs.lists.Lists.take.Goals as goal

pub returns-clause-item : goal.returns-clause-item
returns-clause-item g c =
    item_is c.args.self.now.entries.items c.args.key c.args.nth c.in_ok-at.at c.remove.result c.in_ok-at.ensures
    c.remove.ensures.value

pub returns-clause-kept : goal.returns-clause-kept
returns-clause-kept g c =
    let h = c.in_ok-at.ensures in
    ap lists_of c.remove.ensures.items ∙ lists_of-remove c.args.self.now.entries.items c.args.key c.args.nth
    c.in_ok-at.at h.0 h.1
