use Rattle.std.proofs.Common.{sym, subst}
use Rattle.dashmap_map.specs.Owner.{EachOf}
use Rattle.dashmap_plain.proofs.clones.map.DashMapCloneMap.clone.Goals as goal

pub returns-in-Ok-clause-put : goal.returns-in-Ok-clause-put
returns-in-Ok-clause-put g c = (
  c.in-Ok.clone.plain.tables,
  c.in-Ok.ensures.shards,
  subst (λ ls. EachOf g.Q.OwnerEvidence.put ls c.in-Ok.clone.plain.tables) (sym c.into_map.ensures.locks)
      c.into_map.ensures.put,
)
