-- What unparks take, move and leave of a list, and what they answer.
use Rattle.std.specs.Prelude.{◌≡◌, ℕ, Bool, true, false, MatchBool, List, [], ◌∷◌, take, drop}
use Rattle.parking_lot_core_model.specs.declared.parking.ParkToken.{ParkToken}
use Rattle.parking_lot_core_model.specs.declared.parking.ParkResult.{ParkResult}
use Rattle.parking_lot_core_model.specs.declared.parking.ParkResult.TheVariants.{Unparked, Invalid, TimedOut}
use Rattle.parking_lot_core_model.specs.declared.parking.UnparkResult.{UnparkResult}
use Rattle.parking_lot_core_model.specs.declared.parking.RequeueOp.{RequeueOp}
use Rattle.parking_lot_core_model.specs.declared.parking.RequeueOp.TheVariants as op
use Rattle.parking_lot_core_model.specs.declared.parking.FilterOp.{FilterOp}
use Rattle.parking_lot_core_model.specs.declared.parking.FilterOp.TheVariants as filter

-- another thread ended the park
abbrev pub is_unparked : ParkResult → Bool
is_unparked (Unparked token) = true
is_unparked Invalid = false
is_unparked TimedOut = false

-- some are left
abbrev pub is_left : {X : Type 0} → List X → Bool
is_left [] = false
is_left (x ∷ xs) = true

-- what an unpark answers of how many it woke and moved, and of what it left
abbrev pub unpark_result : {X : Type 0} → ℕ → ℕ → List X → UnparkResult
unpark_result woken moved rest =
    record { unparked_threads = woken; requeued_threads = moved; have_more_threads = is_left rest; be_fair = false }

-- the same, with whether it had better be fair
abbrev pub fairly : Bool → UnparkResult → UnparkResult
fairly fair answer = record answer { be_fair = fair }

-- of a list: those that a requeue wakes, those that it moves, and those that it leaves
abbrev pub woken_by : {X : Type 0} → RequeueOp → List X → List X
woken_by op.Abort xs = []
woken_by op.UnparkOneRequeueRest xs = take 1 xs
woken_by op.RequeueAll xs = []
woken_by op.UnparkOne xs = take 1 xs
woken_by op.RequeueOne xs = []

abbrev pub moved_by : {X : Type 0} → RequeueOp → List X → List X
moved_by op.Abort xs = []
moved_by op.UnparkOneRequeueRest xs = drop 1 xs
moved_by op.RequeueAll xs = xs
moved_by op.UnparkOne xs = []
moved_by op.RequeueOne xs = take 1 xs

abbrev pub left_by : {X : Type 0} → RequeueOp → List X → List X
left_by op.Abort xs = xs
left_by op.UnparkOneRequeueRest xs = []
left_by op.RequeueAll xs = []
left_by op.UnparkOne xs = drop 1 xs
left_by op.RequeueOne xs = drop 1 xs

-- of a list whose front was shown to a filter: those that it takes, and those that it leaves
abbrev pub chosen_by : {X : Type 0} → List FilterOp → List X → List X
chosen_by [] xs = []
chosen_by (answer ∷ answers) [] = []
chosen_by (filter.Unpark ∷ answers) (x ∷ xs) = x ∷ chosen_by answers xs
chosen_by (filter.Skip ∷ answers) (x ∷ xs) = chosen_by answers xs
chosen_by (filter.Stop ∷ answers) (x ∷ xs) = []

abbrev pub passed_by : {X : Type 0} → List FilterOp → List X → List X
passed_by [] xs = xs
passed_by (answer ∷ answers) [] = []
passed_by (filter.Unpark ∷ answers) (x ∷ xs) = passed_by answers xs
passed_by (filter.Skip ∷ answers) (x ∷ xs) = x ∷ passed_by answers xs
passed_by (filter.Stop ∷ answers) (x ∷ xs) = x ∷ xs

-- an answer after which a filter is shown no more
abbrev pub is_stop : FilterOp → Bool
is_stop filter.Unpark = false
is_stop filter.Skip = false
is_stop filter.Stop = true

-- an answer after which a step of a section is shown no more; one that takes; one that passes
abbrev pub is_no_skip : FilterOp → Bool
is_no_skip filter.Unpark = true
is_no_skip filter.Skip = false
is_no_skip filter.Stop = true

abbrev pub is_take : FilterOp → Bool
is_take filter.Unpark = true
is_take filter.Skip = false
is_take filter.Stop = false

abbrev pub is_skip : FilterOp → Bool
is_skip filter.Unpark = false
is_skip filter.Skip = true
is_skip filter.Stop = false

-- a filter, shown these tokens in order until it ends the showing, gives these answers and is left so
abbrev pub Answers : {F : Type 0} → (F → ParkToken → FilterOp → F → Type 0) → (FilterOp → Bool) → F → List ParkToken
    → List FilterOp → F → Type 0
Answers gives ends f [] [] last = f ≡ last
Answers gives ends f [] (answer ∷ answers) last = ⊥
Answers gives ends f (token ∷ tokens) [] last = ⊥
Answers {F} gives ends f (token ∷ tokens) (answer ∷ answers) last =
    (next : F) × gives f token answer next × MatchBool (ends answer) ((answers ≡ []) × (next ≡ last))
    (Answers gives ends next tokens answers last)
