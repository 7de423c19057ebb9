use Rattle.std.proofs.Common.{◌≡◌, ℕ, ◌+◌, ◌<◌, ◌∙◌, ◌∷◌, ◌++◌, [], sym, ap, subst}
use Rattle.std.proofs.Common.{count_by, ◌==◌}
use Rattle.parking_lot_core_model.specs.Lists.{updated}
use Rattle.parking_lot_core_model.specs.Chains.{WaiterLists, queued, total, room}
use Rattle.parking_lot_core_model.specs.declared.place.Waiter.{Waiter}
use Rattle.parking_lot_core_model.proofs.Changing.{joins_so}
use Rattle.parking_lot_core_model.proofs.waiters.Waiters.push.Goals as goal

pub invariant_of-self : goal.invariant_of-self
invariant_of-self g c =
    let l = c.self.inside in
    let w = c.args.waiter in
    let r = joins_so l.heads.items l.nodes.items c.self.invariant c.args.key w
    (subst (λ (v : WaiterLists). w.thread < room v) (sym c.self.view_is) c.requires.within)
    (subst (λ (v : WaiterLists). (k : ℕ) → count_by (λ (x : Waiter). x.thread == w.thread) (queued v k) ≡ 0)
    (sym c.self.view_is) c.requires.apart)
    (subst (λ (v : WaiterLists). total v < room v) (sym c.self.view_is) c.requires.room)
    c.link.new.heads.items c.link.new.nodes.items c.link.ensures in
    r.0.linked

pub returns-clause-kept : goal.returns-clause-kept
returns-clause-kept g c =
    let l = c.self.inside in
    let w = c.args.waiter in
    let r = joins_so l.heads.items l.nodes.items c.self.invariant c.args.key w
    (subst (λ (v : WaiterLists). w.thread < room v) (sym c.self.view_is) c.requires.within)
    (subst (λ (v : WaiterLists). (k : ℕ) → count_by (λ (x : Waiter). x.thread == w.thread) (queued v k) ≡ 0)
    (sym c.self.view_is) c.requires.apart)
    (subst (λ (v : WaiterLists). total v < room v) (sym c.self.view_is) c.requires.room)
    c.link.new.heads.items c.link.new.nodes.items c.link.ensures in
    r.0.lists ∙ ap (λ (v : WaiterLists). updated (queued v) c.args.key (queued v c.args.key ++ w ∷ [])) c.self.view_is

pub returns-clause-total : goal.returns-clause-total
returns-clause-total g c =
    let l = c.self.inside in
    let w = c.args.waiter in
    let r = joins_so l.heads.items l.nodes.items c.self.invariant c.args.key w
    (subst (λ (v : WaiterLists). w.thread < room v) (sym c.self.view_is) c.requires.within)
    (subst (λ (v : WaiterLists). (k : ℕ) → count_by (λ (x : Waiter). x.thread == w.thread) (queued v k) ≡ 0)
    (sym c.self.view_is) c.requires.apart)
    (subst (λ (v : WaiterLists). total v < room v) (sym c.self.view_is) c.requires.room)
    c.link.new.heads.items c.link.new.nodes.items c.link.ensures in
    r.1 ∙ ap (λ (v : WaiterLists). total v + 1) c.self.view_is
