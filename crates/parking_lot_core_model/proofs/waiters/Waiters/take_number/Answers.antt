use Rattle.std.proofs.Common.{◌≡◌, ◌∙◌, ◌+◌, ◌==◌, is_some, true, cond, sym, ap, slice_get}
use Rattle.parking_lot_core_model.specs.Chains.{total, queued}
use Rattle.parking_lot_core_model.specs.declared.place.Waiter.{Waiter}
use Rattle.parking_lot_core_model.proofs.Numbers.{position_there}
use Rattle.parking_lot_core_model.proofs.waiters.Waiters.take_number.Goals as goal

pub returns-in-Some-clause-total : goal.returns-in-Some-clause-total
returns-in-Some-clause-total g c =
    let xs = queued c.args.self.now c.args.key in
    let there : is_some (slice_get xs c.in-Some.nth) ≡ true =
    position_there (λ (w : Waiter). w.thread == c.args.thread) xs c.in-Some.nth
    (sym c.place_of.ensures ∙ c.in-Some.is) in
    c.take.ensures.total ∙ ap (λ b. total c.take.new.self + cond b 1 0) (ap is_some c.take.ensures.item ∙ there)
