use Rattle.std.proofs.Common.{◌≡◌, ◌++◌, map, take, drop}
use Rattle.std.specs.Option.{option_map}
use Rattle.parking_lot_core_model.specs.Places.{told}
use Rattle.parking_lot_core_model.proofs.places.tell_each.Given as goal

-- those so far are told
abbrev pub invariant-loop-place : goal.invariant-loop-place
invariant-loop-place l = l.places ≡ map (option_map (told l.key l.token l.woken))
    (take l.place-index l.initial.places) ++
    drop l.place-index l.initial.places
