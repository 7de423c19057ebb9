use Rattle.std.proofs.Common.{List, position, refl, sym, ap, ◌∙◌, subst}
use Rattle.lock_api_desk.specs.declared.fault.DeskFault.TheVariants.{NoSuchGuard, WrongMode, NotTheParty}
use Rattle.lock_api_desk.specs.Guards.{Guard, has_number, guard_of}
use Rattle.lock_api_desk.specs.Entries.{guard_in, guards_in, suits}
use Rattle.lock_api_desk.specs.Places.{StandsAt}
use Rattle.lock_api_desk.specs.Refusals.{guard_refusal}
use Rattle.lock_api_desk.proofs.Lists.{match_None, match_Some}
use Rattle.lock_api_desk.proofs.Refusing.{no_guard, other_party, wrong_mode, not_refused}
use Rattle.lock_api_desk.proofs.Seats.{place_at, no_place, stands_at}
use Rattle.lock_api_desk.proofs.desk.Desk.place_of.Goals as goal

pub returns-in_default-clause-place : goal.returns-in_default-clause-place
returns-in_default-clause-place g c =
    let first = sym c.position_of.ensures ∙ c.in_default.is in
    let none = no_place c.self.inside.entries.items c.args.guard
    (sym (ap (λ es. position (λ x. has_number c.args.guard (guard_in x)) es) c.deref.ensures.value) ∙ first) in
    match_Some _ _ _ NoSuchGuard
    (sym (ap (λ s. guard_refusal (suits c.args.suit) c.args.party c.args.guard s) c.self.view_is)
    ∙ no_guard (suits c.args.suit) c.args.party (guard_of c.args.guard (guards_in c.self.inside.entries.items)) none)
    refl

pub returns-then-entry-party-clause-place : goal.returns-then-entry-party-clause-place
returns-then-entry-party-clause-place g c =
    let first = sym (ap (λ es. position (λ x. has_number c.args.guard (guard_in x)) es) c.deref.ensures.value)
    ∙ sym c.position_of.ensures ∙ c.in-Some.is in
    let s = place_at c.self.inside.entries.items c.args.guard c.in-Some.place c.index-entry.result.now first
    c.index-entry.ensures in
    match_Some _ _ _ NotTheParty
    (sym (ap (λ s. guard_refusal (suits c.args.suit) c.args.party c.args.guard s) c.self.view_is)
    ∙ other_party (suits c.args.suit) c.args.party (guard_of c.args.guard (guards_in c.self.inside.entries.items))
    (guard_in c.index-entry.result.now) s.found c.if-entry-party.true) refl

pub returns-then-not-suits-clause-place : goal.returns-then-not-suits-clause-place
returns-then-not-suits-clause-place g c =
    let first = sym (ap (λ es. position (λ x. has_number c.args.guard (guard_in x)) es) c.deref.ensures.value)
    ∙ sym c.position_of.ensures ∙ c.in-Some.is in
    let s = place_at c.self.inside.entries.items c.args.guard c.in-Some.place c.index-entry.result.now first
    c.index-entry.ensures in
    match_Some _ _ _ WrongMode
    (sym (ap (λ s. guard_refusal (suits c.args.suit) c.args.party c.args.guard s) c.self.view_is)
    ∙ wrong_mode (suits c.args.suit) c.args.party (guard_of c.args.guard (guards_in c.self.inside.entries.items))
    (guard_in c.index-entry.result.now) s.found c.if-entry-party.false (sym c.suits.ensures ∙ c.if-not-suits.true))
    refl

pub returns-clause-place : goal.returns-clause-place
returns-clause-place g c =
    let first = sym (ap (λ es. position (λ x. has_number c.args.guard (guard_in x)) es) c.deref.ensures.value)
    ∙ sym c.position_of.ensures ∙ c.in-Some.is in
    let s = place_at c.self.inside.entries.items c.args.guard c.in-Some.place c.index-entry.result.now first
    c.index-entry.ensures in
    let P : List Guard → Type 0 = λ gs. StandsAt c.args.guard gs c.in-Some.place in
    match_None _ _ _
    (sym (ap (λ s. guard_refusal (suits c.args.suit) c.args.party c.args.guard s) c.self.view_is)
    ∙ not_refused (suits c.args.suit) c.args.party (guard_of c.args.guard (guards_in c.self.inside.entries.items))
    (guard_in c.index-entry.result.now) s.found c.if-entry-party.false (sym c.suits.ensures ∙ c.if-not-suits.false))
    (subst P (ap (λ s. s.guards) c.self.view_is)
    (stands_at c.self.inside.entries.items c.args.guard c.in-Some.place c.index-entry.result.now s))
