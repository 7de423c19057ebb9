use Rattle.std.proofs.Common.{◌≡◌, false, if◌then◌else◌, Option, Some, None, sym, ap, subst, ◌∙◌}
use Rattle.std.specs.Option.{IfSome, option_or}
use Rattle.lock_api_desk.specs.declared.fault.DeskFault.TheVariants.{WouldWait, ReadersFull}
use Rattle.lock_api_desk.specs.Guards.{Guard, guard_of, excluded, is_full}
use Rattle.lock_api_desk.specs.Desk.{set_apart, with_guards}
use Rattle.lock_api_desk.specs.Refusals.{guard_refusal, admission_refusal, admission_at, take_up_refusal, ok_unless}
use Rattle.lock_api_desk.proofs.Refusing.{ok_from, none_from}
use Rattle.lock_api_desk.proofs.States.{unless-None}
use Rattle.lock_api_desk.proofs.Turning.{suited, from_aside, taken_up, cond_None}
use Rattle.lock_api_desk.proofs.desk.Desk.take_up.Goals as goal

pub turn-requires-clause-next : goal.turn-requires-clause-next
turn-requires-clause-next g c =
    let old = c.args.self.now in
    let mode = c.mode_at-mode.result in
    let r = ok_from (guard_refusal (λ guard. guard.is_aside) c.args.party c.args.guard old) c.in_ok-place.place
    c.in_ok-place.ensures.place in
    let none = none_from (admission_refusal WouldWait mode old) c.in_ok-admission.field-0 c.in_ok-admission.ensures in
    let parts = cond_None (excluded mode old.guards) WouldWait
    (if is_full old.limit mode old.guards then Some ReadersFull else None) none in
    let room = cond_None (is_full old.limit mode old.guards) ReadersFull None parts.1 in
    from_aside old.limit c.args.guard old.guards c.in_ok-place.place r.1 mode
    (suited old.limit c.args.guard old.guards c.in_ok-place.place r.1 (λ guard. guard.is_aside) c.args.party r.0)
    parts.0 room.0

pub returns-clause-answer : goal.returns-clause-answer
returns-clause-answer g c =
    let old = c.args.self.now in
    let mode = c.mode_at-mode.result in
    let r = ok_from (guard_refusal (λ guard. guard.is_aside) c.args.party c.args.guard old) c.in_ok-place.place
    c.in_ok-place.ensures.place in
    let none = none_from (admission_refusal WouldWait mode old) c.in_ok-admission.field-0 c.in_ok-admission.ensures in
    let P : Option Guard → Type 0 = λ o. IfSome o (λ found. mode ≡ found.mode) in
    let same : mode ≡ r.1.guard.mode = subst P r.1.found c.mode_at-mode.ensures in
    sym (ap (λ o. ok_unless o tt)
    (ap (λ o. option_or o (admission_at old (guard_of c.args.guard old.guards))) r.0
    ∙ ap (λ o. admission_at old o) r.1.found
    ∙ ap (λ m. admission_refusal WouldWait m old) (sym same)
    ∙ none))

pub returns-clause-state : goal.returns-clause-state
returns-clause-state g c =
    let old = c.args.self.now in
    let mode = c.mode_at-mode.result in
    let r = ok_from (guard_refusal (λ guard. guard.is_aside) c.args.party c.args.guard old) c.in_ok-place.place
    c.in_ok-place.ensures.place in
    let none = none_from (admission_refusal WouldWait mode old) c.in_ok-admission.field-0 c.in_ok-admission.ensures in
    let P : Option Guard → Type 0 = λ o. IfSome o (λ found. mode ≡ found.mode) in
    let same : mode ≡ r.1.guard.mode = subst P r.1.found c.mode_at-mode.ensures in
    let none_at_all : take_up_refusal c.args.party c.args.guard old ≡ None =
    ap (λ o. option_or o (admission_at old (guard_of c.args.guard old.guards))) r.0
    ∙ ap (λ o. admission_at old o) r.1.found
    ∙ ap (λ m. admission_refusal WouldWait m old) (sym same)
    ∙ none in
    c.turn.ensures
    ∙ ap (λ gs. with_guards gs old)
    (taken_up old.limit c.args.guard old.guards c.in_ok-place.place r.1 mode c.in_ok-place.ensures.sound same)
    ∙ sym (unless-None _ old (set_apart false c.args.guard old) none_at_all)
