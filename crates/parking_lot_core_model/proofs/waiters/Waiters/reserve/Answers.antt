use Rattle.std.proofs.Common.{◌∙◌, ap, length}
use Rattle.parking_lot_core_model.specs.Lists.{lists_of}
use Rattle.parking_lot_core_model.specs.Chains.{WaiterLists, queued, total}
use Rattle.parking_lot_core_model.proofs.Spreading.{more_nodes}
use Rattle.parking_lot_core_model.proofs.waiters.Waiters.reserve.Goals as goal

pub invariant_of-self : goal.invariant_of-self
invariant_of-self g c =
    let l = c.self.inside in
    let more = c.add_nodes.ensures.more in
    let m = more_nodes l.nodes.items more.0 l.heads.items c.add_nodes.new.nodes.items c.self.invariant more.1 in
    m.0

pub returns-in_err-add_nodes-clause-kept : goal.returns-in_err-add_nodes-clause-kept
returns-in_err-add_nodes-clause-kept g c =
    let l = c.self.inside in
    let more = c.add_nodes.ensures.more in
    let m = more_nodes l.nodes.items more.0 l.heads.items c.add_nodes.new.nodes.items c.self.invariant more.1 in
    (ap lists_of m.1 ∙ ap (λ (v : WaiterLists). queued v) c.self.view_is)

pub returns-in_err-add_nodes-clause-total : goal.returns-in_err-add_nodes-clause-total
returns-in_err-add_nodes-clause-total g c =
    let l = c.self.inside in
    let more = c.add_nodes.ensures.more in
    let m = more_nodes l.nodes.items more.0 l.heads.items c.add_nodes.new.nodes.items c.self.invariant more.1 in
    (ap length m.1 ∙ ap (λ (v : WaiterLists). total v) c.self.view_is)

pub spread-requires-clause-linked : goal.spread-requires-clause-linked
spread-requires-clause-linked g c =
    let l = c.self.inside in
    let more = c.add_nodes.ensures.more in
    let m = more_nodes l.nodes.items more.0 l.heads.items c.add_nodes.new.nodes.items c.self.invariant more.1 in
    m.0

pub returns-in_err-spread-clause-kept : goal.returns-in_err-spread-clause-kept
returns-in_err-spread-clause-kept g c =
    let l = c.self.inside in
    let more = c.add_nodes.ensures.more in
    let m = more_nodes l.nodes.items more.0 l.heads.items c.add_nodes.new.nodes.items c.self.invariant more.1 in
    c.spread.ensures.lists ∙ (ap lists_of m.1 ∙ ap (λ (v : WaiterLists). queued v) c.self.view_is)

pub returns-in_err-spread-clause-total : goal.returns-in_err-spread-clause-total
returns-in_err-spread-clause-total g c =
    let l = c.self.inside in
    let more = c.add_nodes.ensures.more in
    let m = more_nodes l.nodes.items more.0 l.heads.items c.add_nodes.new.nodes.items c.self.invariant more.1 in
    c.spread.ensures.total ∙ (ap length m.1 ∙ ap (λ (v : WaiterLists). total v) c.self.view_is)

pub invariant_of-self-else-len-buckets : goal.invariant_of-self-else-len-buckets
invariant_of-self-else-len-buckets g c =
    let l = c.self.inside in
    let more = c.add_nodes.ensures.more in
    let m = more_nodes l.nodes.items more.0 l.heads.items c.add_nodes.new.nodes.items c.self.invariant more.1 in
    m.0

pub returns-in_ok-spread-clause-kept : goal.returns-in_ok-spread-clause-kept
returns-in_ok-spread-clause-kept g c =
    let l = c.self.inside in
    let more = c.add_nodes.ensures.more in
    let m = more_nodes l.nodes.items more.0 l.heads.items c.add_nodes.new.nodes.items c.self.invariant more.1 in
    c.spread.ensures.lists ∙ (ap lists_of m.1 ∙ ap (λ (v : WaiterLists). queued v) c.self.view_is)

pub returns-in_ok-spread-clause-total : goal.returns-in_ok-spread-clause-total
returns-in_ok-spread-clause-total g c =
    let l = c.self.inside in
    let more = c.add_nodes.ensures.more in
    let m = more_nodes l.nodes.items more.0 l.heads.items c.add_nodes.new.nodes.items c.self.invariant more.1 in
    c.spread.ensures.total ∙ (ap length m.1 ∙ ap (λ (v : WaiterLists). total v) c.self.view_is)

pub returns-else-len-buckets-clause-kept : goal.returns-else-len-buckets-clause-kept
returns-else-len-buckets-clause-kept g c =
    let l = c.self.inside in
    let more = c.add_nodes.ensures.more in
    let m = more_nodes l.nodes.items more.0 l.heads.items c.add_nodes.new.nodes.items c.self.invariant more.1 in
    (ap lists_of m.1 ∙ ap (λ (v : WaiterLists). queued v) c.self.view_is)

pub returns-else-len-buckets-clause-total : goal.returns-else-len-buckets-clause-total
returns-else-len-buckets-clause-total g c =
    let l = c.self.inside in
    let more = c.add_nodes.ensures.more in
    let m = more_nodes l.nodes.items more.0 l.heads.items c.add_nodes.new.nodes.items c.self.invariant more.1 in
    (ap length m.1 ∙ ap (λ (v : WaiterLists). total v) c.self.view_is)
