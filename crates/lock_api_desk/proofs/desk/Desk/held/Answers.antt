use Rattle.std.proofs.Common.{ℕ, ◌&&◌, Option, Some, find, sym, ap, ◌∙◌}
use Rattle.std.specs.Option.{option_map, option_copied}
use Rattle.lock_api_desk.specs.declared.mode.Mode.{Mode}
use Rattle.lock_api_desk.specs.Guards.{Guard, has_number, is_held, held_of}
use Rattle.lock_api_desk.specs.Entries.{guard_in}
use Rattle.lock_api_desk.proofs.Lists.{find-map}
use Rattle.lock_api_desk.proofs.desk.Desk.held.Goals as goal

abbrev told : Option Guard → Option (Mode × ℕ)
told o = option_map (λ held. (held.mode, held.party)) o

pub returns-in-Some-clause-found : goal.returns-in-Some-clause-found
returns-in-Some-clause-found g c =
    let items = c.self.inside.entries.items in
    let found = sym (ap option_copied c.in-Some.is) ∙ c.held.ensures
    ∙ ap (λ es. find (λ entry. has_number c.args.guard (guard_in entry) && is_held (guard_in entry)) es)
    c.deref.ensures.value in
    ap (λ m. Some (m, c.in-Some.entry.now.party)) c.mode_of.ensures
    ∙ ap (λ o. told (option_map guard_in o)) found
    ∙ ap (λ o. told o) (sym (find-map guard_in (λ guard. has_number c.args.guard guard && is_held guard) items))
    ∙ ap (λ s. told (held_of c.args.guard s.guards)) c.self.view_is

pub returns-in-None-clause-found : goal.returns-in-None-clause-found
returns-in-None-clause-found g c =
    let items = c.self.inside.entries.items in
    let found = sym (ap option_copied c.in-None.is) ∙ c.held.ensures
    ∙ ap (λ es. find (λ entry. has_number c.args.guard (guard_in entry) && is_held (guard_in entry)) es)
    c.deref.ensures.value in
    ap (λ o. told (option_map guard_in o)) found
    ∙ ap (λ o. told o) (sym (find-map guard_in (λ guard. has_number c.args.guard guard && is_held guard) items))
    ∙ ap (λ s. told (held_of c.args.guard s.guards)) c.self.view_is
