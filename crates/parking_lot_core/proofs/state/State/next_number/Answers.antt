use Rattle.std.proofs.Common.{◌≤◌, ◌∙◌, ap, sym, subst, length, not}
use Rattle.std.specs.List.{position_or_len}
use Rattle.parking_lot_core.proofs.Numbers.{least_or_next}
use Rattle.parking_lot_core.proofs.state.State.next_number.Goals as goal

pub returns-clause-most : goal.returns-clause-most
returns-clause-most g c =
    let xs = c.args.self.now.given.items in
    subst (λ k. k ≤ length xs) (sym (c.next_free.ensures ∙ ap (position_or_len not) c.deref.ensures.value))
    (least_or_next not xs)
