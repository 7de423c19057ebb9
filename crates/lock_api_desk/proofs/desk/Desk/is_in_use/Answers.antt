use Rattle.std.proofs.Common.{sym, ap, ◌∙◌}
use Rattle.std.specs.List.{list_any}
use Rattle.lock_api_desk.specs.Guards.{has_number, is_in_use}
use Rattle.lock_api_desk.specs.Entries.{guard_in}
use Rattle.lock_api_desk.proofs.Lists.{list_any-map}
use Rattle.lock_api_desk.proofs.desk.Desk.is_in_use.Goals as goal

pub returns : goal.returns
returns g c =
    c.has_number.ensures
    ∙ ap (λ es. list_any (λ entry. has_number c.args.guard (guard_in entry)) es) c.deref.ensures.value
    ∙ sym (list_any-map guard_in (has_number c.args.guard) c.self.inside.entries.items)
    ∙ ap (λ s. is_in_use c.args.guard s.guards) c.self.view_is
