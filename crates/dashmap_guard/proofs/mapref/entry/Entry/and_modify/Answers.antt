use Rattle.std.proofs.Common.{refl}
use Rattle.dashmap_guard.proofs.mapref.entry.Entry.and_modify.Goals as goal

pub returns-in-Occupied : goal.returns-in-Occupied
returns-in-Occupied g c =
    rw c.in-Occupied.is (c.get_mut.result.now, c.change.new.value, c.get_mut.ensures.value, c.change.ensures, refl)
