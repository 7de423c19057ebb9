use Rattle.std.proofs.Common.{subst}
use Rattle.dashmap_map.specs.Effects.{Removes}
use Rattle.dashmap_map.specs.Evidence.{UnderKey}
use Rattle.dashmap.proofs.set.DashSet.remove.Goals as goal

pub returns-clause-evidence : goal.returns-clause-evidence
returns-clause-evidence g c = (
  c.remove.result,
  c.key_of.ensures,
  subst (λ m. UnderKey g.S.BuildHasher g.S.Hasher.Hasher g.K.Hash.hash_input g.Q.Evidence.held m c.args.key.now
      c.args.td.now c.remove.new.td
      (λ hash old new. Removes g.K.PartialEq.eq old new hash c.args.key.now c.remove.result))
      c.self.view_is c.remove.ensures.evidence,
)
