-- What a step leaves doesn't depend on who is seated where.
use Rattle.std.proofs.Common.{◌≡◌, ℕ, Bool, true, false, List, Option, Some, None, is_some, slice_set, refl}
use Rattle.parking_lot_protocol.specs.declared.act.CoreAnswer.{CoreAnswer}
use Rattle.parking_lot_protocol.specs.declared.act.CoreAnswer.TheVariants as answer
use Rattle.parking_lot_machine_sides.specs.declared.condvar.calls.CondvarReply.{CondvarReply}
use Rattle.parking_lot_machine_sides.specs.declared.condvar.open_call.OpenCall.{OpenCall}
use Rattle.parking_lot_machine_calls.specs.declared.open_call.Call.{Call}
use Rattle.parking_lot_machine.specs.Machines as rows
use Rattle.parking_lot_machine.specs.Rows.{State, state}
use Rattle.parking_lot_machine_waits.specs.declared.seat.Seat.{Seat}
use Rattle.parking_lot_machine_waits.specs.declared.turn.Turn.{Turn}
use Rattle.parking_lot_machine_waits.specs.declared.turn.Turn.TheVariants as turn
use Rattle.parking_lot_machine_waits.specs.Joint.{Joint, back_number, nowhere}
use Rattle.parking_lot_machine_waits.specs.JointSteps.{ComesBackIf, FollowsAs, HearsOf, IsFollowing, Turned, freed}
use Rattle.parking_lot_machine_waits.specs.Turns.{is_late}

pub freed_some : (t : ℕ) (reply : Option CondvarReply) (seats : List Seat) → is_some reply ≡ true
    → slice_set seats t nowhere ≡ freed t reply seats
freed_some t None seats e = absurd cc
freed_some t (Some r) seats e = refl

module _ (t v : ℕ) (fair : Bool) (c : OpenCall) (i j : Joint) (seats : List Seat) where
  abbrev k : Joint
  k = record j { seats = seats }

  hears_of : (a : Option CoreAnswer) → HearsOf a t v i j → HearsOf a t v i k
  hears_of None h = h
  hears_of (Some a) h = h

  comes_back : (b : Bool) (n : ℕ) → ComesBackIf b n i j → ComesBackIf b n i k
  comes_back true n h = h
  comes_back false n h = h

  follows_as : (late : Bool) (a : Option CoreAnswer) (n : ℕ) (d : Call) (mid : State)
      → FollowsAs late a t n v c d i mid j → FollowsAs late a t n v c d i mid k
  follows_as true None n d mid h = h
  follows_as false None n d mid h = h
  follows_as true (Some answer.Owned) n d mid h = h
  follows_as false (Some answer.Owned) n d mid h = h
  follows_as true (Some answer.Refused) n d mid h = h
  follows_as false (Some answer.Refused) n d mid h = h
  follows_as true (Some answer.Released) n d mid h = h
  follows_as false (Some answer.Released) n d mid h = h

  following : (n : ℕ) → IsFollowing t v n fair c i j → IsFollowing t v n fair c i k
  following n f = record {
    d = f.d;
    there = f.there;
    answer = f.answer;
    mid = f.mid;
    step = f.step;
    onward = follows_as (is_late f.d.core) f.answer n f.d f.mid f.onward;
  }

  pub reseated : (x : Turn) (reply : Option CondvarReply) → Turned x t v fair c reply i j
      → Turned x t v fair c reply i k
  reseated turn.Sleeps reply h = h
  reseated turn.Acts reply h = h
  reseated turn.GivesUp reply h = h
  reseated turn.LocksAgain reply h = h
  reseated turn.Unlocks reply (e, a, step, h) = (e, a, step, hears_of a h)
  reseated turn.Locks reply (e, a, step, h) = (e, a, step, hears_of a h)
  reseated turn.Follows reply (e, f) = (e, following (back_number i t) f)
  reseated turn.ComesBack reply (e, h, b) =
      (e, h, comes_back (rows.may_expire (state i.rows) (back_number i t)) (back_number i t) b)
  reseated turn.Hears reply h = h
  reseated turn.Moves reply (e, m) = (e, record { moves = m.moves; notifies = m.notifies })
