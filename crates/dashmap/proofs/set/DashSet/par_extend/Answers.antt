use Rattle.std.proofs.Common.{◌+◌, length, drop, ◌∙◌, subst}
use Rattle.std.specs.List.{All}
use Rattle.std.proofs.lemmas.Result.{on_ok_weaker, IfErr-weaker}
use Rattle.std.proofs.lemmas.Iterator.Adapters.{YieldsList-from_vec}
use Rattle.dashmap_plain.proofs.Taken.{taken_whole, taken_until}
use Rattle.dashmap.specs.Set.Owner.{KeyIsPut}
use Rattle.dashmap.proofs.set.DashSet.par_extend.Goals as goal

pub returns-clause-all : goal.returns-clause-all
returns-clause-all g c =
    let list = YieldsList-from_vec c.args.keys.items c.into_iter.ensures.rest
    (c.into_iter.ensures.len ∙ c.args.keys.ok.0) in
    on_ok_weaker c.extend.result
    (λ (keys, drained, puts). subst
    (All (KeyIsPut g.Q.OwnerEvidence.taken g.Q.OwnerEvidence.put g.S.BuildHasher g.S.Hasher.Hasher g.K.Hash.hash_input
    g.K.PartialEq.eq c.args.self.now)) (taken_whole keys drained list) puts) c.extend.ensures.all

pub returns-clause-refused : goal.returns-clause-refused
returns-clause-refused g c =
    let list = YieldsList-from_vec c.args.keys.items c.into_iter.ensures.rest
    (c.into_iter.ensures.len ∙ c.args.keys.ok.0) in
    IfErr-weaker c.extend.result _ _
    (λ back (before, rest, came, puts, no_room).
    (before, drop (length before + 1) c.args.keys.items, taken_until before back rest came list, puts, no_room))
    c.extend.ensures.refused
