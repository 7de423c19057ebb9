use Rattle.std.proofs.Common.{◌≡◌, true, List, refl, sym, ap, subst, ◌∙◌}
use Rattle.std.specs.Option.{IfSome}
use Rattle.lock_api_desk.specs.Guards.{Guard, guard_of}
use Rattle.lock_api_desk.specs.Out.{admits, out_of}
use Rattle.lock_api_desk.specs.Entries.{less}
use Rattle.lock_api_desk.specs.Desk.{DeskState, turned}
use Rattle.lock_api_desk.specs.Places.{StandsAt}
use Rattle.lock_api_desk.proofs.Seats.{entry_at, taken_out, stands_limit, admitted_for, stands_turned, guards_turned}
use Rattle.lock_api_desk.proofs.States.{same_state}
use Rattle.lock_api_desk.proofs.desk.Desk.turn.Goals as goal

pub turn-requires-clause-out : goal.turn-requires-clause-out
turn-requires-clause-out g c =
    let old = c.self.inside in
    let P : List Guard → Type 0 = λ gs. StandsAt c.args.guard gs c.args.place in
    let f = entry_at old.entries.items c.args.guard c.args.place c.index_mut-entry.result.now
    (subst P (sym (ap (λ s. s.guards) c.self.view_is)) c.requires.at) c.index_mut-entry.ensures.value in
    taken_out (g.R.RawState.limit_of old.raw) (g.R.RawState.out old.raw) old.entries.items c.args.guard c.args.place
    c.index_mut-entry.result.now c.replace-hold.result c.self.invariant f c.replace-hold.ensures.value

pub turn-requires-clause-admitted : goal.turn-requires-clause-admitted
turn-requires-clause-admitted g c =
    let old = c.self.inside in
    let P : List Guard → Type 0 = λ gs. StandsAt c.args.guard gs c.args.place in
    let f = entry_at old.entries.items c.args.guard c.args.place c.index_mut-entry.result.now
    (subst P (sym (ap (λ s. s.guards) c.self.view_is)) c.requires.at) c.index_mut-entry.ensures.value in
    let N : DeskState g.row.T.Denot → Type 0 = λ s. IfSome (guard_of c.args.guard s.guards)
    (λ held. admits s.limit c.args.mode (less held.mode held.is_aside (out_of s.guards)) ≡ true) in
    admitted_for (g.R.RawState.limit_of old.raw) (g.R.RawState.out old.raw) c.args.mode old.entries.items c.args.guard
    c.args.place c.index_mut-entry.result.now c.replace-hold.result
    c.self.invariant f c.replace-hold.ensures.value (subst N (sym c.self.view_is) c.requires.next)

pub invariant_of-self : goal.invariant_of-self
invariant_of-self g c =
    let old = c.self.inside in
    let P : List Guard → Type 0 = λ gs. StandsAt c.args.guard gs c.args.place in
    let f = entry_at old.entries.items c.args.guard c.args.place c.index_mut-entry.result.now
    (subst P (sym (ap (λ s. s.guards) c.self.view_is)) c.requires.at) c.index_mut-entry.ensures.value in
    let N : DeskState g.row.T.Denot → Type 0 = λ s. IfSome (guard_of c.args.guard s.guards)
    (λ held. admits s.limit c.args.mode (less held.mode held.is_aside (out_of s.guards)) ≡ true) in
    let admitted = admitted_for (g.R.RawState.limit_of old.raw) (g.R.RawState.out old.raw) c.args.mode old.entries.items
    c.args.guard c.args.place c.index_mut-entry.result.now c.replace-hold.result
    c.self.invariant f c.replace-hold.ensures.value (subst N (sym c.self.view_is) c.requires.next) in
    stands_limit (g.R.RawState.limit_of old.raw) (g.R.RawState.limit_of c.turn.new.raw)
    (g.R.RawState.out c.turn.new.raw) _ c.turn.ensures.limit
    (stands_turned (g.R.RawState.limit_of old.raw) (g.R.RawState.out old.raw) (g.R.RawState.out c.turn.new.raw)
    c.args.mode old.entries.items c.args.guard c.args.place c.index_mut-entry.result.now c.replace-hold.result
    c.turn.result
    c.self.invariant f c.replace-hold.ensures.value admitted c.turn.ensures.mode c.turn.ensures.held c.turn.ensures.out)

pub returns : goal.returns
returns g c =
    let old = c.self.inside in
    let P : List Guard → Type 0 = λ gs. StandsAt c.args.guard gs c.args.place in
    let f = entry_at old.entries.items c.args.guard c.args.place c.index_mut-entry.result.now
    (subst P (sym (ap (λ s. s.guards) c.self.view_is)) c.requires.at) c.index_mut-entry.ensures.value in
    same_state old.value _ _ _ _ _ _ c.turn.ensures.limit refl
    (guards_turned (g.R.RawState.limit_of old.raw) (g.R.RawState.out old.raw) c.args.mode old.entries.items c.args.guard
    c.args.place c.index_mut-entry.result.now c.turn.result
    c.self.invariant f c.turn.ensures.mode c.turn.ensures.held)
    ∙ ap (λ s. turned c.args.mode c.args.guard s) c.self.view_is
