use Rattle.std.proofs.Common.{sym, subst}
use Rattle.std.specs.List.{All}
use Rattle.dashmap.specs.Set.Owner.{KeyIsPut}
use Rattle.dashmap.proofs.set.DashSet.from_iter.Goals as goal

pub returns-in-Ok-clause-all : goal.returns-in-Ok-clause-all
returns-in-Ok-clause-all g c =
    let all = c.in-Ok.ensures.all in (
      all.0,
      all.1,
      subst (λ m. All (KeyIsPut g.Q.OwnerEvidence.taken g.Q.OwnerEvidence.put g.S.BuildHasher g.S.Hasher.Hasher
          g.K.Hash.hash_input g.K.PartialEq.eq m) all.0) (sym c.in-Ok.ensures.locks) all.2,
    )
