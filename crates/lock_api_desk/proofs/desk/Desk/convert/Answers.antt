use Rattle.std.proofs.Common.{◌∙◌, sym}
use Rattle.lock_api_desk.specs.Guards.{holds}
use Rattle.lock_api_desk.specs.Desk.{turned}
use Rattle.lock_api_desk.specs.Refusals.{guard_refusal}
use Rattle.lock_api_desk.proofs.Refusing.{ok_from}
use Rattle.lock_api_desk.proofs.States.{unless-None}
use Rattle.lock_api_desk.proofs.Turning.{from_converting}
use Rattle.lock_api_desk.proofs.desk.Desk.convert.Goals as goal

pub turn-requires-clause-next : goal.turn-requires-clause-next
turn-requires-clause-next g c =
    let old = c.args.self.now in
    let r = ok_from (guard_refusal (holds c.args.from) c.args.party c.args.guard old) c.in_ok-place.place
    c.in_ok-place.ensures.place in
    from_converting old.limit c.args.guard old.guards c.in_ok-place.place r.1 c.args.from c.args.to c.args.party
    c.requires c.in_ok-place.ensures.sound r.0

pub returns-clause-state : goal.returns-clause-state
returns-clause-state g c =
    let old = c.args.self.now in
    let r = ok_from (guard_refusal (holds c.args.from) c.args.party c.args.guard old) c.in_ok-place.place
    c.in_ok-place.ensures.place in
    c.turn.ensures ∙ sym (unless-None _ old (turned c.args.to c.args.guard old) r.0)
