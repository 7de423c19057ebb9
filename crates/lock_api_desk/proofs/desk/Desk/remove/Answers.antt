use Rattle.std.proofs.Common.{List, sym, ap, subst, ◌∙◌}
use Rattle.lock_api_desk.specs.Guards.{Guard}
use Rattle.lock_api_desk.specs.Entries.{guards_in}
use Rattle.lock_api_desk.specs.Desk.{released}
use Rattle.lock_api_desk.specs.Places.{StandsAt}
use Rattle.lock_api_desk.proofs.Seats.{entry_at, hold_out, stands_limit, stands_remove, guards_remove}
use Rattle.lock_api_desk.proofs.States.{same_state}
use Rattle.lock_api_desk.proofs.desk.Desk.remove.Goals as goal

pub give_back-requires : goal.give_back-requires
give_back-requires g c =
    let old = c.self.inside in
    let P : List Guard → Type 0 = λ gs. StandsAt c.args.guard gs c.args.place in
    let f = entry_at old.entries.items c.args.guard c.args.place c.remove-entry.result
    (subst P (sym (ap (λ s. s.guards) c.self.view_is)) c.requires) c.remove-entry.ensures.value in
    hold_out (g.R.RawState.limit_of old.raw) (g.R.RawState.out old.raw) old.entries.items c.args.guard c.args.place
    c.remove-entry.result c.self.invariant f

pub invariant_of-self : goal.invariant_of-self
invariant_of-self g c =
    let old = c.self.inside in
    let P : List Guard → Type 0 = λ gs. StandsAt c.args.guard gs c.args.place in
    let f = entry_at old.entries.items c.args.guard c.args.place c.remove-entry.result
    (subst P (sym (ap (λ s. s.guards) c.self.view_is)) c.requires) c.remove-entry.ensures.value in
    let seated = stands_remove (g.R.RawState.limit_of old.raw) (g.R.RawState.out old.raw)
    (g.R.RawState.out c.give_back.new.raw) old.entries.items c.args.place c.remove-entry.result c.self.invariant
    f.at c.give_back.ensures.out in
    stands_limit (g.R.RawState.limit_of old.raw) (g.R.RawState.limit_of c.give_back.new.raw)
    (g.R.RawState.out c.give_back.new.raw) c.remove-entry.new.self.items c.give_back.ensures.limit
    (rw c.remove-entry.ensures.items seated)

pub returns : goal.returns
returns g c =
    let old = c.self.inside in
    let P : List Guard → Type 0 = λ gs. StandsAt c.args.guard gs c.args.place in
    let f = entry_at old.entries.items c.args.guard c.args.place c.remove-entry.result
    (subst P (sym (ap (λ s. s.guards) c.self.view_is)) c.requires) c.remove-entry.ensures.value in
    same_state old.value _ _ _ _ _ _ c.give_back.ensures.limit c.remove-entry.ensures.capacity
    (ap guards_in c.remove-entry.ensures.items
    ∙ guards_remove c.args.guard (g.R.RawState.limit_of old.raw) (g.R.RawState.out old.raw) old.entries.items
    c.args.place c.remove-entry.result c.self.invariant f.at f.number_is)
    ∙ ap (λ s. released c.args.guard s) c.self.view_is
