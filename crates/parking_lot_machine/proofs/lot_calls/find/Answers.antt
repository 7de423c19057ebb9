use Rattle.std.proofs.Common.{◌≡◌, ◌∙◌, ap, false, slice_set, None, Some, refl, sym, subst}
use Rattle.parking_lot_core_model.specs.declared.parking.UnparkToken.{UnparkToken}
use Rattle.parking_lot_core_model.specs.declared.place.Place.TheVariants.{Running, Taken}
use Rattle.parking_lot_core_model.specs.declared.place.Phase.{Phase}
use Rattle.parking_lot_core_model.specs.declared.place.Section.{Section}
use Rattle.parking_lot_core_model.specs.declared.place.Sleep.{Sleep}
use Rattle.parking_lot_core_model.specs.Machine.{Machine, in_phase, machine, open_at, quit_fault, stored}
use Rattle.parking_lot_core_model.specs.Places.{place_at}
use Rattle.parking_lot_machine.proofs.LateCalls.{back_inside, back_open, back_quits, back_section}
use Rattle.parking_lot_machine.proofs.lot_calls.find.Goals as goal

pub quit_taken-requires : goal.quit_taken-requires
quit_taken-requires g c =
    let m : Machine = machine c.args.lot.now in
    let t = c.args.thread in
    let key = c.args.key in
    let off = c.requires.off in
    let back = sym c.come_back.ensures.returned in
    record {
      there = subst (λ (n : Machine). quit_fault n t ≡ None) back (back_quits m t key off.0 off.1 off.2);
      off = subst (λ (n : Machine). (token : UnparkToken) × (sleep : Sleep)
          × (place_at n.places t ≡ Some (Taken token key sleep false))) back off;
      inside = subst (λ (n : Machine). (s : Section) × (n.inside t ≡ Some key) × (open_at n key ≡ Some s)
          × (s.key ≡ key)) back (back_section t key, back_inside m t key, back_open m t key, refl);
    }

pub returns-clause-found : goal.returns-clause-found
returns-clause-found g c =
    let t = c.args.thread in
    let key = c.args.key in
    c.store_nothing.ensures.stored
    ∙ ap (λ (n : Machine). stored n key (record { 0 = 0 })) (c.quit_taken.ensures.runs
    ∙ ap (λ (n : Machine). in_phase (record n { places = slice_set n.places t (Some Running) }) key Phase.Ended)
    c.come_back.ensures.returned)
