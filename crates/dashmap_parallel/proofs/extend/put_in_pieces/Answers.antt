use Rattle.std.proofs.Common.{subst}
use Rattle.dashmap_parallel.specs.Puts.{PutInTurn}
use Rattle.dashmap_parallel.proofs.Putting.{pieces-put}
use Rattle.dashmap_parallel.proofs.extend.put_in_pieces.Goals as goal

pub returns : goal.returns
returns g c =
    let eq = g.K.PartialEq.eq in
    let held = g.Q.Evidence.held in
    pieces-put g.S.BuildHasher g.S.Hasher.Hasher g.K.Hash.hash_input eq held c.args.map.now c.given_each.result
    c.args.pairs.items c.in_ok-lists.lists.items c.args.tds.now c.given_each.new.parties c.in_ok-lists.ensures.0
    c.in_ok-lists.ensures.1 c.given_each.ensures
    (λ v party left says.
    subst (λ locks. PutInTurn eq held locks party.now v.items left.now) c.shard_locks-locks.ensures.locks says.met)
