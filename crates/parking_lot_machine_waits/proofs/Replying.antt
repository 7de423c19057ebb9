-- Answers at a variable fit their calls.
use Rattle.std.proofs.Common.{◌≡◌, ℕ, Bool, Option, Some, None, sym}
use Rattle.std.proofs.lemmas.Option.{none-some}
use Rattle.parking_lot_machine_sides.specs.declared.condvar.calls.CondvarReply.{CondvarReply}
use Rattle.parking_lot_machine_sides.specs.declared.condvar.open_call.OpenCall.{OpenCall}
use Rattle.parking_lot_machine_sides.specs.Condvar.Machines.{State as Var}
use Rattle.parking_lot_machine_sides.specs.Condvar.MachineLaws as of_variables
use Rattle.parking_lot_machine_sides.specs.Condvar.MachineLaws.{MayReply}
use Rattle.parking_lot_machine_waits.specs.declared.turn.Turn.{Turn}
use Rattle.parking_lot_machine_waits.specs.declared.turn.Turn.TheVariants as turn
use Rattle.parking_lot_machine_waits.specs.Joint.{Joint, call_in, var_at}
use Rattle.parking_lot_machine_waits.specs.JointLaws.{RepliesFit}
use Rattle.parking_lot_machine_waits.specs.JointSteps.{ActsAt, ActsIn, KnownIn, Turned}
use Rattle.parking_lot_machine_waits.specs.Turns.{turn_of}

module _ (law : of_variables.RepliesFit) (t v : ℕ) (fair : Bool) (reply : CondvarReply) (i j : Joint) (c : OpenCall)
  where
    in_place : (o y : Option Var) → KnownIn o → call_in o t ≡ Some c → ActsIn t (Some reply) o y → MayReply c reply
    in_place None y known here acts = absurd acts
    in_place (Some x) None known here acts = absurd acts
    in_place (Some x) (Some y) known here acts = law x y t c reply known.0 here acts

    acts_fit : KnownIn (var_at i v) → call_in (var_at i v) t ≡ Some c → ActsAt t v (Some reply) i j → MayReply c reply
    acts_fit known here (y, acts, rest) = in_place (var_at i v) y known here acts

    no_reply : {X : Type 0} → ◌≡◌ {A = Option CondvarReply} (Some reply) None → X
    no_reply e = absurd (none-some reply (sym e))

    turned_fits : (x : Turn) → KnownIn (var_at i v) → call_in (var_at i v) t ≡ Some c
        → Turned x t v fair c (Some reply) i j → MayReply c reply
    turned_fits turn.Sleeps known here h = absurd h
    turned_fits turn.Acts known here h = acts_fit known here h.0
    turned_fits turn.GivesUp known here h = acts_fit known here h.0
    turned_fits turn.LocksAgain known here h = acts_fit known here h.0
    turned_fits turn.Unlocks known here h = no_reply h.0
    turned_fits turn.Locks known here h = no_reply h.0
    turned_fits turn.Follows known here h = no_reply h.0
    turned_fits turn.ComesBack known here h = no_reply h.0
    turned_fits turn.Hears known here h = no_reply h.0
    turned_fits turn.Moves known here h = no_reply h.0

pub replies_fit : of_variables.RepliesFit → RepliesFit
replies_fit law t v fair reply i j known x = turned_fits law t v fair reply i j x.call (turn_of x.call) known x.here
    x.turned
