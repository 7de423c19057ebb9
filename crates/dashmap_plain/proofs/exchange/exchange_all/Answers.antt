use Rattle.std.proofs.Common.{rules, ◌≡◌, length, sym, ◌∙◌, subst, arith, slice_index_or}
use Rattle.dashmap_map.specs.Owner.{EachOf}
use Rattle.dashmap_plain.specs.Exchanged.{Exchanged}
use Rattle.dashmap_plain.proofs.Exchanging.{exchanged_last, each_long}
use Rattle.dashmap_plain.proofs.exchange.exchange_all.Goals as goal

pub returns-clause-exchanged : goal.returns-clause-exchanged
returns-clause-exchanged g c =
    let taken = g.Q.OwnerEvidence.taken in
    let put = g.Q.OwnerEvidence.put in
    let n = c.len-number.result in
    let locks = c.args.locks.now.items in
    let old = c.pop.new.self.items in
    let new = c.exchange_first-spare.new.plain.items in
    let first = c.exchange_first-spare.ensures in
    let lock = c.index_mut.result.now in
    let value = c.deref_mut.ensures.value in
    let shard = c.put_and_take.result in
    let many : n ≡ length old = search rules in
    let all = exchanged_last taken put n locks old new lock c.in-Some.last shard many
    (omega (arith, many, c.requires, c.in-Some.ensures.cases, c.args.plain.now.ok.0, c.pop.new.self.ok.0))
    (subst (λ ls. lock ≡ slice_index_or ls n lock) first.locks c.index_mut.ensures.value)
    (subst (λ q. taken q shard) value c.put_and_take.ensures.taken)
    (subst (λ q. put q c.in-Some.last) value
    (subst (put c.deref_mut.result.now) first.spare c.put_and_take.ensures.put))
    (subst (λ k. Exchanged taken put k locks old new) (sym many) first.exchanged) in (
      subst (EachOf taken locks) (sym c.push_reserved.ensures.items) all.0,
      subst (EachOf put locks) (sym c.in-Some.ensures.items) all.1,
    )

pub returns-clause-amount : goal.returns-clause-amount
returns-clause-amount g c =
    each_long g.Q.OwnerEvidence.taken c.args.locks.now.items c.push_reserved.new.self.items
    (returns-clause-exchanged g c).0
    ∙ sym c.requires
