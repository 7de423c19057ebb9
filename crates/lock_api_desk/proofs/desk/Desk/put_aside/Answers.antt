use Rattle.std.proofs.Common.{List, refl, sym, ap, subst, ◌∙◌}
use Rattle.lock_api_desk.specs.Guards.{Guard}
use Rattle.lock_api_desk.specs.Entries.{mode_of, aside_of}
use Rattle.lock_api_desk.specs.Desk.{set_apart}
use Rattle.std.proofs.Common.{true}
use Rattle.lock_api_desk.specs.Places.{StandsAt}
use Rattle.lock_api_desk.proofs.Seats.{entry_at, taken_out, stands_limit, stands_put_aside, guards_put_aside}
use Rattle.lock_api_desk.proofs.States.{same_state}
use Rattle.lock_api_desk.proofs.desk.Desk.put_aside.Goals as goal

pub give_back-requires : goal.give_back-requires
give_back-requires g c =
    let old = c.self.inside in
    let P : List Guard → Type 0 = λ gs. StandsAt c.args.guard gs c.args.place in
    let f = entry_at old.entries.items c.args.guard c.args.place c.index_mut-entry.result.now
    (subst P (sym (ap (λ s. s.guards) c.self.view_is)) c.requires) c.index_mut-entry.ensures.value in
    taken_out (g.R.RawState.limit_of old.raw) (g.R.RawState.out old.raw) old.entries.items c.args.guard c.args.place
    c.index_mut-entry.result.now c.replace-hold.result c.self.invariant f c.replace-hold.ensures.value

pub invariant_of-self : goal.invariant_of-self
invariant_of-self g c =
    let old = c.self.inside in
    let P : List Guard → Type 0 = λ gs. StandsAt c.args.guard gs c.args.place in
    let f = entry_at old.entries.items c.args.guard c.args.place c.index_mut-entry.result.now
    (subst P (sym (ap (λ s. s.guards) c.self.view_is)) c.requires) c.index_mut-entry.ensures.value in
    stands_limit (g.R.RawState.limit_of old.raw) (g.R.RawState.limit_of c.give_back.new.raw)
    (g.R.RawState.out c.give_back.new.raw) _ c.give_back.ensures.limit
    (stands_put_aside (g.R.RawState.limit_of old.raw) (g.R.RawState.out old.raw) (g.R.RawState.out c.give_back.new.raw)
    old.entries.items c.args.guard c.args.place c.index_mut-entry.result.now c.replace-hold.result
    c.replace-hold.new.dest
    c.self.invariant f c.replace-hold.ensures.value (ap aside_of c.replace-hold.ensures.after) c.give_back.ensures.out)

pub returns : goal.returns
returns g c =
    let old = c.self.inside in
    let P : List Guard → Type 0 = λ gs. StandsAt c.args.guard gs c.args.place in
    let f = entry_at old.entries.items c.args.guard c.args.place c.index_mut-entry.result.now
    (subst P (sym (ap (λ s. s.guards) c.self.view_is)) c.requires) c.index_mut-entry.ensures.value in
    same_state old.value _ _ _ _ _ _ c.give_back.ensures.limit refl
    (guards_put_aside (g.R.RawState.limit_of old.raw) (g.R.RawState.out old.raw) old.entries.items c.args.guard
    c.args.place c.index_mut-entry.result.now c.replace-hold.new.dest
    c.self.invariant f (ap mode_of c.replace-hold.ensures.after ∙ c.mode_of-kept.ensures)
    (ap aside_of c.replace-hold.ensures.after))
    ∙ ap (λ s. set_apart true c.args.guard s) c.self.view_is
