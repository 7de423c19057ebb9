use Rattle.std.specs.Sync.RwLock.{read_guard_value}
use Rattle.dashmap_map.proofs.AtKeys.{finds}
use Rattle.dashmap_map.proofs.map.DashMap.get.Goals as goal

pub returns-clause-evidence : goal.returns-clause-evidence
returns-clause-evidence g c = (
  c.read_shown.new.party,
  (
    c.place_of-hash.result.1.now,
    read_guard_value c.read_shown.result.inner,
    c.place_of-hash.ensures.lock,
    c.read_shown.ensures.showed,
    rw (← c.place_of-hash.ensures.hash)
        (finds g.K.PartialEq.eq (λ w. read_guard_value w) c.read_shown.result c.place_of-hash.result.0 c.args.key.now
        c.find.result c.find.ensures.place),
  ),
)
