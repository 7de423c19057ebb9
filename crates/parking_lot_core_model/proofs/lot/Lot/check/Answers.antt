use Rattle.std.proofs.Common.{◌≡◌, ◌∙◌, ℕ, cond, Some, Ok, sym, ap, refl}
use Rattle.parking_lot_core_model.specs.declared.place.Phase.{Phase}
use Rattle.parking_lot_core_model.specs.declared.place.Phase.TheVariants as phase
use Rattle.parking_lot_core_model.specs.Places.{may_check}
use Rattle.parking_lot_core_model.specs.Machine.{Machine, machine, section_of, step_fault, in_phase}
use Rattle.parking_lot_core_model.proofs.Outcomes.{unless_done, stepped, allowed}
use Rattle.parking_lot_core_model.proofs.lot.Lot.check.Goals.{then-holds, else-holds}
use Rattle.parking_lot_core_model.proofs.lot.Lot.check.Goals as goal

pub returns : goal.returns
returns g c =
    let m = machine c.args.self.now in
    let s = c.in-Some.section in
    let t = c.args.thread in
    let step : Machine → ℕ → Machine = λ x key. in_phase x key (cond c.args.holds phase.Valid phase.Invalid) in
    let e : section_of m t ≡ Some s = sym c.section_of.ensures.section ∙ c.in-Some.is in
    let is : c.if-holds.set_phase ≡ cond c.args.holds phase.Valid phase.Invalid =
    elim c.if-holds.branch [
      | then-holds w ↦ w.set_phase-is ∙ sym (ap (λ b. cond b phase.Valid phase.Invalid) w.if-holds.true)
      | else-holds w ↦ w.set_phase-is ∙ sym (ap (λ b. cond b phase.Valid phase.Invalid) w.if-holds.false)
    ] in
    let done : machine c.set_phase.new.self ≡ step m s.key = c.set_phase.ensures
    ∙ ap (λ (ph : Phase). in_phase m s.key ph) is in
    unless_done (step_fault may_check m t) (Ok c.args.holds) m (machine c.set_phase.new.self) _
    (allowed may_check m t s e (sym c.if-not-may_check.ensures)) (refl, done ∙ sym (stepped step t m s e))
