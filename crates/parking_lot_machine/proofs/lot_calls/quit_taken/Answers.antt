use Rattle.std.proofs.Common.{ℕ, Option, Some, refl, ap, ◌∙◌, slice_set}
use Rattle.std.specs.Option.{option_map_or}
use Rattle.parking_lot_core_model.specs.declared.place.Phase.{Phase}
use Rattle.parking_lot_core_model.specs.declared.place.Place.TheVariants.{Running}
use Rattle.parking_lot_core_model.specs.declared.place.Section.{Section}
use Rattle.parking_lot_core_model.specs.Machine.{Machine, in_phase, machine, quitted, section_of, step_fault}
use Rattle.parking_lot_core_model.specs.Places.{may_store}
use Rattle.parking_lot_machine.proofs.LateCalls.{now_phase, quits_taken, unless_none}
use Rattle.parking_lot_machine.proofs.LotCalls.{may_step, own_section}
use Rattle.parking_lot_machine.proofs.lot_calls.quit_taken.Goals as goal

pub returns-clause-runs : goal.returns-clause-runs
returns-clause-runs g c =
    let m : Machine = machine c.args.lot.now in
    let in_it = c.requires.inside in
    (unless_none _ _ _ _ _ c.requires.there c.quit.ensures).1
    ∙ ap (λ (x : Option Section). option_map_or (λ (s : Section). quitted m c.args.thread s.key) x m)
    (own_section m c.args.thread c.args.key in_it.0 in_it.1 in_it.2)
    ∙ ap (λ (k : ℕ). quitted m c.args.thread k) in_it.3
    ∙ quits_taken m c.args.thread c.args.key c.requires.off.0 c.requires.off.1 c.requires.off.2

pub returns-clause-within : goal.returns-clause-within
returns-clause-within g c =
    let m : Machine = machine c.args.lot.now in
    let runs : Machine = record m { places = slice_set m.places c.args.thread (Some Running) } in
    let in_it = c.requires.inside in (
      record in_it.0 { phase = Phase.Ended },
      ap (λ (n : Machine). section_of n c.args.thread) (returns-clause-runs g c)
          ∙ own_section (in_phase runs c.args.key Phase.Ended) c.args.thread c.args.key (record in_it.0 {
            phase =
                Phase.Ended;
          }) in_it.1
          (now_phase runs c.args.key in_it.0 Phase.Ended in_it.2),
      in_it.3,
    )

pub returns-clause-store : goal.returns-clause-store
returns-clause-store g c =
    let m : Machine = machine c.args.lot.now in
    let runs : Machine = record m { places = slice_set m.places c.args.thread (Some Running) } in
    let in_it = c.requires.inside in
    ap (λ n. step_fault may_store n c.args.thread) (returns-clause-runs g c)
    ∙ may_step (in_phase runs c.args.key Phase.Ended) c.args.thread c.args.key (record in_it.0 {
      phase =
          Phase.Ended;
    }) may_store in_it.1
    (now_phase runs c.args.key in_it.0 Phase.Ended in_it.2) refl
