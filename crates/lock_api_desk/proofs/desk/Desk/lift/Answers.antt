use Rattle.std.proofs.Common.{List, ap, subst, ◌∙◌, sym, if◌then◌else◌, Some, None}
use Rattle.lock_api_desk.specs.declared.mode.Mode.TheVariants.{Exclusive, Upgradable}
use Rattle.lock_api_desk.specs.Guards.{Guard, holds, is_held_beside}
use Rattle.lock_api_desk.specs.Desk.{turned}
use Rattle.lock_api_desk.specs.Places.{IsLifted}
use Rattle.lock_api_desk.specs.Refusals.{guard_refusal, upgrade_refusal}
use Rattle.lock_api_desk.proofs.Lists.{match_None}
use Rattle.lock_api_desk.proofs.Refusing.{ok_from}
use Rattle.lock_api_desk.proofs.States.{unless-None}
use Rattle.lock_api_desk.proofs.Turning.{from_alone, suited, lifted, or_None, cond_None}
use Rattle.lock_api_desk.proofs.desk.Desk.lift.Goals as goal

pub turn-requires-clause-next : goal.turn-requires-clause-next
turn-requires-clause-next g c =
    let old = c.args.self.now in
    let r = ok_from (upgrade_refusal c.args.denied c.args.party c.args.guard old) c.in_ok-place.place
    c.in_ok-place.ensures.place in
    let parts = or_None (guard_refusal (holds Upgradable) c.args.party c.args.guard old)
    (if is_held_beside c.args.guard old.guards then Some c.args.denied else None) r.0 in
    let none = cond_None (is_held_beside c.args.guard old.guards) c.args.denied None parts.1 in
    from_alone old.limit c.args.guard old.guards c.in_ok-place.place r.1 c.in_ok-place.ensures.sound none.0

pub returns-clause-lifted : goal.returns-clause-lifted
returns-clause-lifted g c =
    let old = c.args.self.now in
    let r = ok_from (upgrade_refusal c.args.denied c.args.party c.args.guard old) c.in_ok-place.place
    c.in_ok-place.ensures.place in
    let parts = or_None (guard_refusal (holds Upgradable) c.args.party c.args.guard old)
    (if is_held_beside c.args.guard old.guards then Some c.args.denied else None) r.0 in
    let fit = suited old.limit c.args.guard old.guards c.in_ok-place.place r.1 (holds Upgradable) c.args.party parts.0
    in
    let P : List Guard → Type 0 = λ gs. IsLifted c.args.guard old.guards gs c.in_ok-place.place in
    match_None _ _ _ r.0
    (subst P (sym (ap (λ s. s.guards) c.turn.ensures))
    (lifted c.args.guard old.guards c.in_ok-place.place r.1 old.limit c.in_ok-place.ensures.sound fit))

pub returns-clause-state : goal.returns-clause-state
returns-clause-state g c =
    let old = c.args.self.now in
    let r = ok_from (upgrade_refusal c.args.denied c.args.party c.args.guard old) c.in_ok-place.place
    c.in_ok-place.ensures.place in
    c.turn.ensures ∙ sym (unless-None _ old (turned Exclusive c.args.guard old) r.0)
