use Rattle.std.proofs.Common.{◌≡◌, ◌∙◌, ◌<◌, None, ap, sym, get_or, length, set, arith}
use Rattle.std.specs.Option.{option_map}
use Rattle.std.proofs.lemmas.List.Edits.{map_over_more}
use Rattle.std.proofs.lemmas.Option.{slice_get-get_or, get_or_from_slice_get}
use Rattle.parking_lot_core_model.specs.Places.{told}
use Rattle.parking_lot_core_model.proofs.places.tell_each.Goals as goal

pub loop-place-preserved : goal.loop-place-preserved
loop-place-preserved c =
    let xs = c.args.places.now in
    let ys = c.loop-place.places in
    let i = c.loop-place.place-index in
    let within : i < length ys = omega arith in
    ap (set ys i) c.place_told.ensures ∙ map_over_more (option_map (told c.args.key c.args.token c.args.woken)) xs ys i
    (get_or ys i None) c.loop-place-test.true c.loop-place.invariant
    (sym (get_or_from_slice_get ys i (get_or ys i None) (get_or ys i None) (slice_get-get_or ys i None within)))
