use Rattle.std.proofs.Common.{◌≡◌, length, take}
use Rattle.parking_lot_core_model.specs.Lists.{lists_of}
use Rattle.parking_lot_core_model.specs.Chains.{entries, AreLinked}
use Rattle.parking_lot_core_model.proofs.spread.link_all.Given as goal

-- so many are linked
abbrev pub invariant-loop-entry : goal.invariant-loop-entry
invariant-loop-entry g l = record {
  linked : AreLinked l.heads.items l.nodes.items;
  lists : lists_of (entries l.nodes.items l.heads.items) ≡ lists_of (take l.entry-index l.order);
  total : length (entries l.nodes.items l.heads.items) ≡ l.entry-index;
  room : length l.nodes.items ≡ length l.initial.nodes.items;
  chains : length l.heads.items ≡ length l.initial.heads.items;
}
