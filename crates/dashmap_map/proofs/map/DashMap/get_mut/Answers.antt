use Rattle.std.specs.Sync.RwLock.{write_guard_value}
use Rattle.dashmap_map.proofs.AtKeys.{finds}
use Rattle.dashmap_map.proofs.map.DashMap.get_mut.Goals as goal

pub returns-clause-evidence : goal.returns-clause-evidence
returns-clause-evidence g c = (
  c.write_found.new.party,
  (
    c.place_of-hash.result.1.now,
    write_guard_value c.write_found.result.inner,
    c.place_of-hash.ensures.lock,
    c.write_found.ensures.found,
    rw (← c.place_of-hash.ensures.hash)
        (finds g.K.PartialEq.eq (λ w. write_guard_value w) c.write_found.result c.place_of-hash.result.0 c.args.key.now
        c.find.result c.find.ensures.place),
  ),
)
