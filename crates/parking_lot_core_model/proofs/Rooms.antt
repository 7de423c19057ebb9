-- There stays room for each registered thread to wait.
use Rattle.std.proofs.Common.{◌≡◌, ℕ, ◌+◌, ◌<◌, ◌≤◌, Bool, false, List, length, Option, Some}
use Rattle.std.proofs.Common.{slice_get, slice_set, refl, arith, count_by}
use Rattle.std.specs.Option.{option_map_or}
use Rattle.std.proofs.Math.ListN.{length-set}
use Rattle.std.proofs.lemmas.List.Sums.{count_by-le-length}
use Rattle.std.proofs.lemmas.Option.{slice_get_within}
use Rattle.parking_lot_core_model.specs.declared.place.Place.{Place}
use Rattle.parking_lot_core_model.specs.declared.place.Place.TheVariants.{Running}
use Rattle.parking_lot_core_model.specs.Chains.{WaiterLists, total, room}
use Rattle.parking_lot_core_model.specs.Places.{place_at, is_waiting}
use Rattle.parking_lot_core_model.specs.Sound.{Room}
use Rattle.parking_lot_core_model.proofs.Numbers.{flag, count_by-set, count_by-lt}
use Rattle.parking_lot_core_model.proofs.Sounds.{some_slot}

-- a place that waits
abbrev pub waits : Option Place → Bool
waits place = option_map_or is_waiting place false

-- a thread's place and the lists change, and the lists grow no more than the waiting do
pub room_next : (w v : WaiterLists) (ps : List (Option Place)) (max seats t : ℕ) (p : Place) (o : Option Place)
    → Room w ps max seats → place_at ps t ≡ Some p
    → room v ≡ room w → total v + flag (is_waiting p) ≤ total w + flag (waits o) → Room v (slice_set ps t o) max seats
room_next w v ps max seats t p o h at same fits =
    let c : count_by waits (slice_set ps t o) + flag (is_waiting p) ≡ count_by waits ps + flag (waits o) =
    count_by-set waits ps t (Some p) o (some_slot (slice_get ps t) p at) in
    let l : length (slice_set ps t o) ≡ length ps = length-set ps t o in
    let a = h.waits in
    let b = h.room in
    let d = h.threads in
    let e = h.enters in
    record {
      waits = omega arith;
      room = omega arith;
      enters = omega arith;
      threads = omega arith;
      limit = h.limit;
    }

-- a running thread finds room
pub room_left : (w : WaiterLists) (ps : List (Option Place)) (max seats t : ℕ) → Room w ps max seats
    → place_at ps t ≡ Some Running → total w < room w
room_left w ps max seats t h at =
    let c : count_by waits ps < length ps = count_by-lt waits ps t (Some Running)
    (some_slot (slice_get ps t) Running at) refl in
    let a = h.waits in
    let b = h.room in
    omega arith

-- a registered thread has a seat
pub seated : (w : WaiterLists) (ps : List (Option Place)) (max seats t : ℕ) (p : Place) → Room w ps max seats
    → place_at ps t ≡ Some p → t < seats
seated w ps max seats t p h at =
    let c : t < length ps = slice_get_within ps t (Some p) (some_slot (slice_get ps t) p at) in
    let e = h.enters in
    omega arith

-- it has a node, and all who wait have
pub noded : (w : WaiterLists) (ps : List (Option Place)) (max seats t : ℕ) (p : Place) → Room w ps max seats
    → place_at ps t ≡ Some p → t < room w
noded w ps max seats t p h at =
    let c : t < length ps = slice_get_within ps t (Some p) (some_slot (slice_get ps t) p at) in
    let e = h.room in
    omega (arith, c, e)

pub all_noded : (w : WaiterLists) (ps : List (Option Place)) (max seats : ℕ) → Room w ps max seats → total w ≤ room w
all_noded w ps max seats h =
    let c = count_by-le-length waits ps in
    let a = h.waits in
    let b = h.room in
    omega (arith, a, b, c)
