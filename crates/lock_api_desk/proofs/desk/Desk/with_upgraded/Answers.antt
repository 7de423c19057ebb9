use Rattle.std.proofs.Common.{◌≡◌, sym, ap, subst, ◌∙◌}
use Rattle.std.specs.Fn.{FnOnceReturnsAtMut}
use Rattle.lock_api_desk.specs.declared.mode.Mode.TheVariants.{Exclusive, Upgradable}
use Rattle.lock_api_desk.specs.declared.fault.DeskFault.TheVariants.{WouldWait}
use Rattle.lock_api_desk.specs.Desk.{turned, with_value}
use Rattle.lock_api_desk.specs.Refusals.{upgrade_refusal}
use Rattle.lock_api_desk.proofs.Lists.{match_None}
use Rattle.lock_api_desk.proofs.Refusing.{ok_from}
use Rattle.lock_api_desk.proofs.States.{unless-None}
use Rattle.lock_api_desk.proofs.Values.{lowered}
use Rattle.lock_api_desk.proofs.desk.Desk.with_upgraded.Goals as goal

pub returns : goal.returns
returns g c =
    let old = c.args.self.now in
    let mid = c.lift.new.self in
    let value = c.apply-answer.new.value in
    let r = ok_from (upgrade_refusal WouldWait c.args.party c.args.guard old) c.in_ok-place.place
    c.in_ok-place.ensures.lifted in
    let up = c.in_ok-place.ensures.state ∙ unless-None (upgrade_refusal WouldWait c.args.party c.args.guard old) old
    (turned Exclusive c.args.guard old) r.0 in
    let after =
    c.lower.ensures
    ∙ ap (λ s. turned Upgradable c.args.guard (with_value value s)) c.self.view_is
    ∙ lowered c.args.guard c.in_ok-place.place value old mid up r.1 in
    let before : c.self.inside.value ≡ old.value = ap (λ s. s.value) c.self.view_is ∙ ap (λ s. s.value) up in
    let stored : c.lower.new.self.value ≡ value = ap (λ s. s.value) after in
    let P : g.row.T.Denot → Type 0 = λ v. FnOnceReturnsAtMut g.F.FnOnce c.args.f v c.apply-answer.result value in
    let Q : g.row.T.Denot → Type 0 = λ v. FnOnceReturnsAtMut g.F.FnOnce c.args.f old.value c.apply-answer.result v in
    match_None _ _ _ r.0
    (subst Q (sym stored) (subst P before c.apply-answer.ensures), after ∙ ap (λ v. with_value v old) (sym stored))
