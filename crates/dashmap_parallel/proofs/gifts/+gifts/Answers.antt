use Rattle.dashmap_parallel.specs.Gifts.{TookOn}
use Rattle.dashmap_parallel.proofs.Giving.{beside-taken}
use Rattle.dashmap_parallel.proofs.gifts.+gifts.Goals as goal

pub given_each-returns : goal.given_each-returns
given_each-returns g t c =
    let taken = c.take_last-item in
    let cut = c.split_at_mut-others in
    beside-taken (TookOn g.F.Fn c.args.f.now) c.given_both.result taken.result (g.S.Stack.rest c.args.items.now)
    (g.S.Stack.rest taken.new.self) c.args.parties.now cut.result.0.now cut.result.1.now c.given_both.new.others
    c.given_both.new.party cut.ensures.value taken.ensures.last cut.ensures.front_len c.requires.beside
    c.given_both.ensures
