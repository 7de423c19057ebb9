use Rattle.std.proofs.Common.{◌≡◌, ◌∙◌, ℕ, sym, ap, refl, Some, Ok}
use Rattle.parking_lot_core_model.specs.declared.place.Section.{Section}
use Rattle.parking_lot_core_model.specs.declared.place.Phase.TheVariants as phase
use Rattle.parking_lot_core_model.specs.Places.{may_join}
use Rattle.parking_lot_core_model.specs.Machine.{Machine, machine, section_of, step_fault, in_section, in_phase, joined}
use Rattle.parking_lot_core_model.proofs.Outcomes.{unless_done, stepped, allowed}
use Rattle.parking_lot_core_model.specs.Places.{place_at}
use Rattle.parking_lot_core_model.specs.Sound.{IsInside}
use Rattle.parking_lot_core_model.proofs.Entering.{same_some}
use Rattle.parking_lot_core_model.proofs.Sounds.{joined_alone}
use Rattle.parking_lot_core_model.proofs.lot.Lot.append.Goals as goal

pub join-requires : goal.join-requires
join-requires g c =
    let m = machine c.args.self.now in
    let s = c.in-Some.section in
    let t = c.args.thread in
    let in_s : IsInside m t s = c.section_of.ensures.known s c.in-Some.is in record {
      runs = ap (λ (x : Machine). place_at x.places t) c.set_phase.ensures ∙ in_s.runs (sym c.if-not-may_join.ensures);
      near = λ k is. same_some (sym (ap (λ (x : Machine). x.inside t) (sym c.set_phase.ensures) ∙ is) ∙ in_s.inside);
      outside = λ b y is. joined_alone m t s in_s b y (ap (λ (x : Machine). x.sections b) (sym c.set_phase.ensures)
          ∙ is);
    }

pub returns : goal.returns
returns g c =
    let m = machine c.args.self.now in
    let s = c.in-Some.section in
    let step : Machine → ℕ → Machine = λ x key. joined (in_phase x key phase.Joined) c.args.thread key
    c.args.park_token c.args.timed in
    let e : section_of m c.args.thread ≡ Some s = sym c.section_of.ensures.section ∙ c.in-Some.is in
    let done : machine c.join.new.self ≡ step m s.key = c.join.ensures
    ∙ ap (λ (x : Machine). joined x c.args.thread s.key c.args.park_token c.args.timed) c.set_phase.ensures in
    unless_done (step_fault may_join m c.args.thread) (Ok tt) m (machine c.join.new.self) _
    (allowed may_join m c.args.thread s e (sym c.if-not-may_join.ensures))
    (refl, done ∙ sym (stepped step c.args.thread m s e))
