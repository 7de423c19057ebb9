use Rattle.std.specs.Sync.RwLock.{write_guard_value}
use Rattle.dashmap_map.proofs.AtKeys.{is_entry}
use Rattle.dashmap_map.proofs.map.DashMap.try_entry.Goals as goal

pub returns-in-Ok-clause-evidence : goal.returns-in-Ok-clause-evidence
returns-in-Ok-clause-evidence g c = (
  c.place_of-hash.result.1.now,
  write_guard_value c.in-Some.guard.inner,
  c.place_of-hash.ensures.lock,
  c.in-Some.ensures.told,
  rw (← c.place_of-hash.ensures.hash)
      (is_entry g.K.PartialEq.eq (λ w. write_guard_value w) c.in-Some.guard c.place_of-hash.result.0 c.args.key
      c.in-Ok.entry c.in-Ok.ensures.found),
)

pub returns-in-Err-clause-evidence : goal.returns-in-Err-clause-evidence
returns-in-Err-clause-evidence g c = (
  c.place_of-hash.result.1.now,
  write_guard_value c.in-Some.guard.inner,
  c.place_of-hash.ensures.lock,
  c.in-Some.ensures.told,
  rw (← c.place_of-hash.ensures.hash) (c.in-Err.ensures.refused.1, c.in-Err.ensures.refused.2),
)
