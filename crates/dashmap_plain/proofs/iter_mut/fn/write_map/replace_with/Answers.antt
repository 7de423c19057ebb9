use Rattle.std.proofs.Common.{rules, subst}
use Rattle.dashmap_map.specs.Owner.{EachOf}
use Rattle.dashmap_plain.proofs.iter_mut.fn.write_map.replace_with.Goals as goal

pub returns : goal.returns
returns g c = record {
  map = search rules;
  written = (
    c.of-open.result.plain.tables,
    c.par_write.new.self.plain.tables,
    c.of-open.ensures.taken,
    subst (λ ls. EachOf g.Q.OwnerEvidence.put ls c.par_write.new.self.plain.tables)
        (search rules) c.into_map.ensures.put,
    c.par_write.ensures.values,
  );
}
