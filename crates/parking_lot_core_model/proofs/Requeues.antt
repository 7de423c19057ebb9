-- How many waiters a requeue wakes and moves.
use Rattle.std.proofs.Common.{◌≡◌, ℕ, ◌+◌, ◌-◌, ◌≤◌, min, Bool, true, false, List, [], ◌∷◌, length, take, drop, nat_lt}
use Rattle.std.proofs.Common.{refl, sym, ap, ◌∙◌, arith, suc}
use Rattle.std.proofs.Math.Seq.{take-length, drop-length}
use Rattle.std.proofs.lemmas.Bool.{lt-ltb, le-ltb}
use Rattle.parking_lot_core_model.specs.declared.parking.RequeueOp.{RequeueOp}
use Rattle.parking_lot_core_model.specs.declared.parking.RequeueOp.TheVariants.{Abort, UnparkOneRequeueRest, RequeueAll}
use Rattle.parking_lot_core_model.specs.declared.parking.RequeueOp.TheVariants.{UnparkOne, RequeueOne}
use Rattle.parking_lot_core_model.specs.Results.{woken_by, moved_by, left_by, is_left}
use Rattle.parking_lot_core_model.specs.Operations.{woken_count, moved_count}

module _ {X : Type 0} where
  one_of : (q : List X) → min (length q) 1 ≡ length (take 1 q)
  one_of [] = omega arith
  one_of (x ∷ xs) = omega arith

  rest_of : (q : List X) → length q - 1 ≡ length (drop 1 q)
  rest_of [] = omega arith
  rest_of (x ∷ xs) = omega arith

  pub counts_woken : (op : RequeueOp) (q : List X) → woken_count op (length q) ≡ length (woken_by op q)
  counts_woken Abort q = refl
  counts_woken UnparkOneRequeueRest q = one_of q
  counts_woken RequeueAll q = refl
  counts_woken UnparkOne q = one_of q
  counts_woken RequeueOne q = refl

  pub counts_moved : (op : RequeueOp) (q : List X) → moved_count op (length q) ≡ length (moved_by op q)
  counts_moved Abort q = refl
  counts_moved UnparkOneRequeueRest q = rest_of q
  counts_moved RequeueAll q = refl
  counts_moved UnparkOne q = refl
  counts_moved RequeueOne q = one_of q

  take_one : (q : List X) → take (length (take 1 q)) q ≡ take 1 q
  take_one [] = refl
  take_one (x ∷ xs) = refl

  drop_one : (q : List X) → drop (length (take 1 q)) q ≡ drop 1 q
  drop_one [] = refl
  drop_one (x ∷ xs) = refl

  pub take_woken : (op : RequeueOp) (q : List X) → take (length (woken_by op q)) q ≡ woken_by op q
  take_woken Abort q = refl
  take_woken UnparkOneRequeueRest q = take_one q
  take_woken RequeueAll q = refl
  take_woken UnparkOne q = take_one q
  take_woken RequeueOne q = refl

  pub take_moved : (op : RequeueOp) (q : List X) → take (length (moved_by op q)) (drop (length (woken_by op q)) q)
      ≡ moved_by op q
  take_moved Abort q = refl
  take_moved UnparkOneRequeueRest q = ap (take (length (drop 1 q))) (drop_one q) ∙ take-length (drop 1 q)
  take_moved RequeueAll q = take-length q
  take_moved UnparkOne q = refl
  take_moved RequeueOne q = take_one q

  pub drop_moved : (op : RequeueOp) (q : List X) → drop (length (moved_by op q)) (drop (length (woken_by op q)) q)
      ≡ left_by op q
  drop_moved Abort q = refl
  drop_moved UnparkOneRequeueRest q = ap (drop (length (drop 1 q))) (drop_one q) ∙ drop-length (drop 1 q)
  drop_moved RequeueAll q = drop-length q
  drop_moved UnparkOne q = drop_one q
  drop_moved RequeueOne q = drop_one q

  pub moved_within : (op : RequeueOp) (q : List X) → length (moved_by op q) ≤ length (drop (length (woken_by op q)) q)
  moved_within Abort q = omega arith
  moved_within UnparkOneRequeueRest q = let e = ap length (drop_one q) in omega arith
  moved_within RequeueAll q = omega arith
  moved_within UnparkOne q = omega arith
  moved_within RequeueOne [] = omega arith
  moved_within RequeueOne (x ∷ xs) = omega arith

  pub test_left : (op : RequeueOp) (q : List X) → nat_lt (length (woken_by op q) + length (moved_by op q)) (length q)
      ≡ is_left (left_by op q)
  test_left Abort [] = le-ltb (0 + 0) 0 (omega arith)
  test_left Abort (x ∷ xs) = lt-ltb (0 + 0) (suc (length xs)) (omega arith)
  test_left UnparkOneRequeueRest [] = le-ltb (0 + 0) 0 (omega arith)
  test_left UnparkOneRequeueRest (x ∷ xs) = le-ltb (1 + length xs) (suc (length xs)) (omega arith)
  test_left RequeueAll q = le-ltb (0 + length q) (length q) (omega arith)
  test_left UnparkOne [] = le-ltb (0 + 0) 0 (omega arith)
  test_left UnparkOne (x ∷ []) = le-ltb (1 + 0) 1 (omega arith)
  test_left UnparkOne (x ∷ (y ∷ xs)) = lt-ltb (1 + 0) (suc (suc (length xs))) (omega arith)
  test_left RequeueOne [] = le-ltb (0 + 0) 0 (omega arith)
  test_left RequeueOne (x ∷ []) = le-ltb (0 + 1) 1 (omega arith)
  test_left RequeueOne (x ∷ (y ∷ xs)) = lt-ltb (0 + 1) (suc (suc (length xs))) (omega arith)
