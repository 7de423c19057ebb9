use Rattle.std.proofs.Common.{◌∙◌, subst}
use Rattle.std.specs.List.{All}
use Rattle.std.proofs.lemmas.Result.{IfOk-weaker}
use Rattle.std.proofs.lemmas.Iterator.Adapters.{YieldsList-from_vec}
use Rattle.dashmap_plain.proofs.Taken.{taken_whole}
use Rattle.dashmap.specs.Set.Owner.{KeyIsPut}
use Rattle.dashmap.proofs.set.DashSet.from_par_iter.Goals as goal

pub returns-clause-all : goal.returns-clause-all
returns-clause-all g c =
    let list = YieldsList-from_vec c.args.keys.items c.into_iter.ensures.rest
    (c.into_iter.ensures.len ∙ c.args.keys.ok.0) in
    IfOk-weaker c.from_iter.result _ _
    (λ set (keys, drained, puts). subst
    (All (KeyIsPut g.Q.OwnerEvidence.taken g.Q.OwnerEvidence.put g.S.BuildHasher g.S.Hasher.Hasher g.K.Hash.hash_input
    g.K.PartialEq.eq set)) (taken_whole keys drained list) puts) c.from_iter.ensures.all
