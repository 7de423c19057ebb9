use Rattle.std.proofs.Common.{◌≡◌, ◌∙◌, sym, ap, refl, Some, slice_get}
use Rattle.std.specs.Option.{option_map}
use Rattle.parking_lot_core_model.specs.declared.place.Phase.TheVariants as phase
use Rattle.parking_lot_core_model.specs.Machine.{Machine, machine, in_phase, taken, taking_of}
use Rattle.parking_lot_core_model.specs.declared.place.Section.{Section}
use Rattle.parking_lot_core_model.specs.Sound.{IsOpen}
use Rattle.parking_lot_core_model.proofs.Sounds.{open_on}
use Rattle.std.proofs.Common.{subst}
use Rattle.parking_lot_core_model.proofs.Outcomes.{match_some}
use Rattle.parking_lot_core_model.proofs.lot.Lot.take_found.Goals as goal

pub returns-in-Some : goal.returns-in-Some
returns-in-Some g c =
    match_some c.args.found c.in-Some.nth _ _ c.in-Some.is (
      c.taking-taking.ensures
          ∙ ap (λ (x : Machine). option_map (λ w. taking_of x w) (slice_get (x.queues c.args.key) c.in-Some.nth))
          c.set_phase-in-Some.ensures,
      c.take_out.ensures.taken ∙ ap (λ (x : Machine). taken x c.args.key c.in-Some.nth)
          c.set_phase-in-Some.ensures,
    )

pub take_out-requires : goal.take_out-requires
take_out-requires g c = subst (λ (x : Machine). IsOpen x c.args.key) (sym c.set_phase-in-Some.ensures)
    (open_on (machine c.args.self.now) c.args.key (λ (s : Section). record s { phase = phase.Taking c.in-Some.nth })
    (λ s. refl) c.requires)
