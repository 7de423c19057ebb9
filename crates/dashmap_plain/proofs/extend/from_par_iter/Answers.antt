use Rattle.std.proofs.Common.{◌∙◌, subst}
use Rattle.std.specs.List.{All}
use Rattle.std.proofs.lemmas.Result.{IfOk-weaker}
use Rattle.std.proofs.lemmas.Iterator.Adapters.{YieldsList-from_vec}
use Rattle.dashmap_map.specs.Owner.{IsPut}
use Rattle.dashmap_plain.proofs.Taken.{taken_whole}
use Rattle.dashmap_plain.proofs.extend.from_par_iter.Goals as goal

pub returns-clause-all : goal.returns-clause-all
returns-clause-all g c =
    let list = YieldsList-from_vec c.args.pairs.items c.into_iter.ensures.rest
    (c.into_iter.ensures.len ∙ c.args.pairs.ok.0) in
    IfOk-weaker c.from_iter.result _ _
    (λ map (pairs, drained, puts). subst
    (All (IsPut g.Q.OwnerEvidence.taken g.Q.OwnerEvidence.put g.S.BuildHasher g.S.Hasher.Hasher g.K.Hash.hash_input map
    g.K.PartialEq.eq)) (taken_whole pairs drained list) puts) c.from_iter.ensures.all
