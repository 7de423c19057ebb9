use Rattle.std.proofs.Common.{subst}
use Rattle.dashmap_map.specs.Effects.{Inserts}
use Rattle.dashmap_map.specs.Evidence.{UnderKey}
use Rattle.dashmap.proofs.set.DashSet.insert.Goals as goal

pub returns-clause-evidence : goal.returns-clause-evidence
returns-clause-evidence g c = (
  c.insert.result,
  c.told.ensures,
  subst (λ m. UnderKey g.S.BuildHasher g.S.Hasher.Hasher g.K.Hash.hash_input g.Q.Evidence.held m c.args.key
      c.args.td.now c.insert.new.td
      (λ hash old new. Inserts g.K.PartialEq.eq old new hash c.args.key (tt {0}) c.insert.result))
      c.self.view_is c.insert.ensures.evidence,
)
