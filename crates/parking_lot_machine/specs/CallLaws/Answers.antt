-- What a call may be answered, by where it began.
use Rattle.std.specs.Prelude.{◌≡◌, ◌⊎◌, ℕ, Bool, true, false}
use Rattle.parking_lot_protocol.specs.declared.act.CoreAnswer.{CoreAnswer}
use Rattle.parking_lot_protocol.specs.declared.act.CoreAnswer.TheVariants.{Owned, Released}
use Rattle.parking_lot_machine_calls.specs.declared.seat.Hold.{Hold}
use Rattle.parking_lot_machine_calls.specs.declared.seat.Hold.TheVariants as hold
use Rattle.parking_lot_machine.specs.CallLaws.Stages.{Asks, Frees, Over, Stage, Tries, Turns, freed, gained, kept}
use Rattle.parking_lot_machine.specs.CallLaws.Stages.{quits}
use Rattle.parking_lot_machine.specs.CallLaws.Stages.{turned}

-- where calls begin
abbrev pub is_beginning : Stage → Bool
is_beginning (Asks m from) = true
is_beginning (Tries m from) = true
is_beginning (Frees all) = true
is_beginning (Turns m) = true
is_beginning other = false

-- whether a call that began there may end so, where its deadline has come or hasn't
abbrev pub may_end : Stage → Bool → CoreAnswer → Bool
may_end (Asks m from) late Owned = true
may_end (Asks m from) late other = late
may_end (Tries m from) late Released = false
may_end (Tries m from) late other = true
may_end (Frees all) late Released = true
may_end (Turns m) late Owned = true
may_end other late answer = false

-- what its thread has of the lock then, beside n shared holds
abbrev pub hold_end : ℕ → Stage → CoreAnswer → Hold
hold_end n (Asks m from) Owned = gained n m
hold_end n (Asks m from) other = kept n from
hold_end n (Tries m from) Owned = gained n m
hold_end n (Tries m from) other = kept n from
hold_end n (Frees all) answer = freed n all
hold_end n (Turns m) answer = turned m
hold_end n other answer = hold.Shares n

abbrev pub EndsAt : ℕ → Stage → Bool → Stage → Type 0
EndsAt n start late (Over answer h) = (may_end start late answer ≡ true) × (h ≡ hold_end n start answer)
EndsAt n start late other = ⊥

-- where a call may stand that began there: there still; quitting, where its deadline has come; or at such an end
abbrev pub MayStand : ℕ → Stage → Bool → Stage → Type 0
MayStand n start late at = (at ≡ start) ⊎ (((late ≡ true) × (at ≡ quits start)) ⊎ EndsAt n start late at)
