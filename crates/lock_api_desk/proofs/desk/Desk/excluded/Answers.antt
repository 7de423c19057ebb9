use Rattle.std.proofs.Common.{◌&&◌, sym, ap, ◌∙◌}
use Rattle.std.specs.List.{list_any}
use Rattle.lock_api_desk.specs.Guards.{is_held, excludes, excluded}
use Rattle.lock_api_desk.specs.Entries.{guard_in}
use Rattle.lock_api_desk.proofs.Lists.{list_any-map}
use Rattle.lock_api_desk.proofs.desk.Desk.excluded.Goals as goal

pub returns : goal.returns
returns g c =
    c.excludes.ensures
    ∙ ap (λ es. list_any (λ entry. is_held (guard_in entry) && excludes (guard_in entry).mode c.args.mode) es)
    c.deref.ensures.value
    ∙ sym (list_any-map guard_in (λ guard. is_held guard && excludes guard.mode c.args.mode)
    c.self.inside.entries.items)
    ∙ ap (λ s. excluded c.args.mode s.guards) c.self.view_is
