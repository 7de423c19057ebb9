use Rattle.dashmap_parallel.proofs.Putting.{all-put}
use Rattle.dashmap_parallel.proofs.extend.par_extend_shared.Goals as goal

pub returns-clause-put : goal.returns-clause-put
returns-clause-put g c =
    all-put g.S.BuildHasher g.S.Hasher.Hasher g.K.Hash.hash_input g.K.PartialEq.eq g.Q.Evidence.held c.args.map.now
    c.args.pairs.items c.args.tds.now c.put_in_pieces.new.tds c.in_ok-put_in_pieces.ensures
