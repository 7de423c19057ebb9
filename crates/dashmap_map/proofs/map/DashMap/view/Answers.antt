use Rattle.dashmap_map.proofs.map.DashMap.view.Goals as goal

pub returns-clause-evidence : goal.returns-clause-evidence
returns-clause-evidence g c = (
  c.place_of-hash.result.1.now,
  c.deref.result.now,
  c.place_of-hash.ensures.lock,
  rw (c.deref.ensures) c.read_shown.ensures.showed,
  rw (← c.place_of-hash.ensures.hash) (c.view_in.ensures.absent, c.view_in.ensures.present),
)
