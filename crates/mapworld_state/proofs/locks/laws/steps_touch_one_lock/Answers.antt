use Rattle.std.proofs.Common.{◌≡◌, sym, ap, ◌∙◌, subst}
use Rattle.std.specs.Option.{option_map}
use Rattle.std.proofs.lemmas.Option.{same_Some}
use Rattle.parking_lot_machine.specs.Rows.{state}
use Rattle.mapworld_state.specs.Locks.Footprints.{TouchesOnly}
use Rattle.mapworld_state.specs.Locks.Stands.{Stand, stand_of}
use Rattle.mapworld_state.proofs.LocksFacts.Lawful.{lawful-moves}
use Rattle.mapworld_state.proofs.LocksFacts.Touching.{touches_one}
use Rattle.mapworld_state.proofs.locks.laws.steps_touch_one_lock.Goals as goal

pub returns : goal.returns
returns c t fair old new fit x =
    let y = lawful-moves t fair old new fit x in
    let same : stand_of y.call ≡ x.stand = same_Some (stand_of y.call) x.stand
    (sym (ap (option_map stand_of) y.here) ∙ x.stood) in
    subst (λ (st : Stand). TouchesOnly st.shard (state old.rows) (state new.rows)) same
    (touches_one c.each_step_is_a_case.ensures (state old.rows) (state new.rows) t fair _ fit.fits fit.plain y)
