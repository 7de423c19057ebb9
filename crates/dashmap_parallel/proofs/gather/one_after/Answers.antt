use Rattle.dashmap_parallel.proofs.gather.one_after.Goals as goal

pub returns : goal.returns
returns g c = (c.in_ok-all.all, c.in_ok-rest.rest, c.in_ok-all.was, c.in_ok-rest.was, c.in_ok-append.ensures.items)
