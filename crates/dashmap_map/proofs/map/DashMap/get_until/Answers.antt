use Rattle.std.proofs.Common.{ap}
use Rattle.std.specs.Sync.RwLock.{read_guard_value}
use Rattle.dashmap_map.proofs.map.DashMap.get_until.Goals as goal

pub returns-in-Some-find-clause-evidence : goal.returns-in-Some-find-clause-evidence
returns-in-Some-find-clause-evidence g c =
    let place = c.in-Some-find.ensures.place in (
      c.read_until_shown.new.party,
      (
        c.place_of-hash.result.1.now,
        read_guard_value c.in-Some.guard.inner,
        c.place_of-hash.ensures.lock,
        c.in-Some.ensures.told,
        rw (← c.place_of-hash.ensures.hash) (ap (λ guard. read_guard_value guard.inner) place.0, place.1),
      ),
    )
