use Rattle.std.proofs.Common.{not, ◌&&◌, sym, ap, ◌∙◌}
use Rattle.std.specs.List.{list_any}
use Rattle.lock_api_desk.specs.Guards.{has_number, is_held, is_held_beside}
use Rattle.lock_api_desk.specs.Entries.{guard_in}
use Rattle.lock_api_desk.proofs.Lists.{list_any-map}
use Rattle.lock_api_desk.proofs.desk.Desk.is_held_beside.Goals as goal

pub returns : goal.returns
returns g c =
    c.holds_beside.ensures
    ∙ ap (λ es. list_any (λ entry. not (has_number c.args.guard (guard_in entry)) && is_held (guard_in entry)) es)
    c.deref.ensures.value
    ∙ sym (list_any-map guard_in (λ guard. not (has_number c.args.guard guard) && is_held guard)
    c.self.inside.entries.items)
    ∙ ap (λ s. is_held_beside c.args.guard s.guards) c.self.view_is
