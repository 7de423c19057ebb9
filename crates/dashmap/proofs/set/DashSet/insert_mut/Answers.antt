use Rattle.std.proofs.Common.{subst}
use Rattle.dashmap_map.specs.Effects.{Inserts}
use Rattle.dashmap_map.specs.Owner.{AloneAtKey}
use Rattle.dashmap.proofs.set.DashSet.insert_mut.Goals as goal

pub returns-clause-evidence : goal.returns-clause-evidence
returns-clause-evidence g c = (
  c.insert_mut.result,
  c.told.ensures,
  subst (λ m. AloneAtKey g.Q.OwnerEvidence.taken g.Q.OwnerEvidence.put g.S.BuildHasher g.S.Hasher.Hasher
      g.K.Hash.hash_input m c.args.key
      (λ hash old new. Inserts g.K.PartialEq.eq old new hash c.args.key (tt {0}) c.insert_mut.result))
      c.self.view_is c.insert_mut.ensures.evidence,
)
