use Rattle.dashmap_parallel.proofs.put.put_held.Goals as goal

pub returns-in-Ok : goal.returns-in-Ok
returns-in-Ok g c = c.in-Ok.ensures.after

pub returns : goal.returns
returns g c =
    let h = c.in-Err.ensures.refused in
    record { absent = h.2; full = h.3; stays = h.1 }
