use Rattle.std.proofs.Common.{ℕ, false, [], ◌∷◌, ◌++◌, sym, ap, subst, ◌∙◌}
use Rattle.std.proofs.lemmas.List.{map-append}
use Rattle.lock_api_desk.specs.Guards.{is_in_use, granted}
use Rattle.lock_api_desk.specs.Out.{admits, one_more}
use Rattle.lock_api_desk.specs.Entries.{guard_in, guards_in}
use Rattle.lock_api_desk.specs.Desk.{admitted}
use Rattle.lock_api_desk.specs.Places.{Stands}
use Rattle.lock_api_desk.proofs.Seats.{entry_of, admitted_now, guard_is, stands_append}
use Rattle.lock_api_desk.proofs.States.{same_state}
use Rattle.lock_api_desk.proofs.desk.Desk.append.Goals as goal

pub issue-hold-requires : goal.issue-hold-requires
issue-hold-requires g c =
    admitted_now (g.R.RawState.limit_of c.self.inside.raw) (g.R.RawState.out c.self.inside.raw) c.args.mode
    c.self.inside.entries.items
    c.self.invariant (ap (λ s. granted s.limit c.args.mode s.guards) c.self.view_is ∙ c.requires.granted)

pub invariant_of-self : goal.invariant_of-self
invariant_of-self g c =
    let old = c.self.inside in
    let entry = entry_of c.args.guard c.args.party c.issue-hold.result in
    let admitted = ap (λ m. admits (g.R.RawState.limit_of old.raw) m (g.R.RawState.out old.raw))
    c.issue-hold.ensures.mode ∙ admitted_now (g.R.RawState.limit_of old.raw) (g.R.RawState.out old.raw) c.args.mode
    old.entries.items c.self.invariant
    (ap (λ s. granted s.limit c.args.mode s.guards) c.self.view_is ∙ c.requires.granted) in
    let P : ℕ → Type 0 = λ l. Stands l (g.R.RawState.out c.issue-hold.new.raw) c.push_reserved.new.self.items in
    let seated = stands_append (g.R.RawState.limit_of old.raw) (g.R.RawState.out old.raw)
    (g.R.RawState.out c.issue-hold.new.raw) old.entries.items entry
    c.self.invariant (ap (λ s. is_in_use c.args.guard s.guards) c.self.view_is ∙ c.requires.new) admitted
    c.issue-hold.ensures.held
    (c.issue-hold.ensures.out ∙ ap (λ m. one_more m (g.R.RawState.out old.raw)) (sym c.issue-hold.ensures.mode)) in
    subst P (sym c.issue-hold.ensures.limit) (rw c.push_reserved.ensures.items seated)

pub returns : goal.returns
returns g c =
    let old = c.self.inside in
    let entry = entry_of c.args.guard c.args.party c.issue-hold.result in
    same_state old.value _ _ _ _ _ _ c.issue-hold.ensures.limit c.push_reserved.ensures.capacity
    (ap guards_in c.push_reserved.ensures.items
    ∙ map-append guard_in old.entries.items (entry ∷ [])
    ∙ ap (λ h. guards_in old.entries.items ++ h ∷ [])
    (guard_is entry c.args.mode false c.issue-hold.ensures.mode c.issue-hold.ensures.held))
    ∙ ap (λ s. admitted c.args.mode c.args.party c.args.guard s) c.self.view_is
