use Rattle.std.proofs.Common.{◌≡◌, ap, slice_index_or, subst}
use Rattle.std.proofs.lemmas.List.{get_or_default}
use Rattle.crossbeam_utils.specs.Padded.{padded_value}
use Rattle.dashmap_map.specs.Owner.{Alone, AsksForRoom}
use Rattle.dashmap_map.proofs.alone.reserve_at.Goals as goal

pub returns-clause-evidence : goal.returns-clause-evidence
returns-clause-evidence g c = λ other.
    let read = ap padded_value c.index-locks-shard.is in
    let same = ap padded_value
    (get_or_default c.args.locks.now c.args.shard c.index-locks-shard.result other c.requires) in
    let at : c.deref_mut.result.now ≡ padded_value (slice_index_or c.args.locks.now c.args.shard other) =
    cc (c.deref_mut.ensures.value, read, same) in
    subst (Alone g.Q.OwnerEvidence.taken g.Q.OwnerEvidence.put
    (AsksForRoom g.K.PartialEq.eq c.args.additional c.reserve_alone.result)) at c.reserve_alone.ensures.evidence
