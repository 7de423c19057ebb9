use Rattle.std.proofs.Common.{◌≡◌, length, sym, subst, ◌∙◌, ap, arith, OnErr, OnOk}
use Rattle.dashmap_table.specs.Route.{IsShardAmount}
use Rattle.dashmap_map.specs.Locked.{Locked}
use Rattle.dashmap_map.specs.Owner.{AloneUpTo, EachAlone, LacksRoom, Reserves}
use Rattle.dashmap_map.proofs.Slices.{whole_again}
use Rattle.dashmap_map.proofs.map.DashMap.try_reserve.Goals as goal

pub invariant_of-self : goal.invariant_of-self
invariant_of-self g c =
    let same = c.reserve_each.ensures.locks ∙ c.deref_mut.ensures.value in
    let whole = whole_again c.self.inside.shards.len c.reserve_each.new.locks c.self.inside.shards.items _ same
    (omega (arith, c.self.inside.shards.ok.0)) in
    subst (λ l. IsShardAmount (length l) × (length c.self.inside.spare.items ≡ length l)) (sym whole) c.self.invariant

pub returns-clause-evidence : goal.returns-clause-evidence
returns-clause-evidence g c =
    let locks = ap (λ (m : Locked g.row.Q.Denot g.row.S.Denot). m.locks) c.self.view_is in
    subst (λ ls. OnOk c.reserve_each.result (EachAlone g.Q.OwnerEvidence.taken g.Q.OwnerEvidence.put
    (Reserves g.K.PartialEq.eq c.args.additional) ls)) (c.deref_mut.ensures.value ∙ locks)
    c.reserve_each.ensures.made

pub returns-clause-refused : goal.returns-clause-refused
returns-clause-refused g c =
    let locks = ap (λ (m : Locked g.row.Q.Denot g.row.S.Denot). m.locks) c.self.view_is in
    subst (λ ls. OnErr c.reserve_each.result (AloneUpTo g.Q.OwnerEvidence.taken g.Q.OwnerEvidence.put
    (Reserves g.K.PartialEq.eq c.args.additional) (LacksRoom c.args.additional) ls))
    (c.deref_mut.ensures.value ∙ locks) c.reserve_each.ensures.refused
