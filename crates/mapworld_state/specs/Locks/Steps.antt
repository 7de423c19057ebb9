-- What each act of a thread leaves of shards' locks.
use Rattle.std.specs.Prelude.{◌≡◌, ◌≢◌, ◌⊎◌, ℕ, ◌<◌, Bool, true, false, length, Option, Some, None}
use Rattle.std.specs.Prelude.{slice_get, slice_set}
use Rattle.lock_api_desk.specs.declared.mode.Mode.{Mode}
use Rattle.lock_api_desk.specs.declared.mode.Mode.TheVariants as held
use Rattle.lock_api_desk.specs.Desk.{DeskState}
use Rattle.parking_lot_protocol.specs.declared.act.CoreAnswer.{CoreAnswer}
use Rattle.parking_lot_protocol.specs.declared.act.CoreAnswer.TheVariants.{Owned, Refused}
use Rattle.parking_lot_machine_calls.specs.declared.calls.LockCall.{LockCall}
use Rattle.parking_lot_machine_calls.specs.declared.calls.LockCall.TheVariants.{Downgrade}
use Rattle.parking_lot_machine_calls.specs.declared.open_call.Call.{Call}
use Rattle.parking_lot_machine_calls.specs.Stances.{core_act}
use Rattle.parking_lot_machine.specs.Machines.{Became, call_for, can_move, end_of, ended, may_expire}
use Rattle.parking_lot_machine.specs.LateActs.{expired}
use Rattle.parking_lot_machine.specs.RowActs.{begun}
use Rattle.parking_lot_machine.specs.Rows.{State, call_at, queue_at, state, taken_by, word_at}
use Rattle.mapworld_state.specs.Locks.Aims.{Gets, GivesUp, Turns}
use Rattle.mapworld_state.specs.Locks.Moves.{desk_after}
use Rattle.mapworld_state.specs.Locks.Seats.{GoTogether}
use Rattle.mapworld_state.specs.Locks.Stands.{Stand, is_of_shards, needs, stand_for, stand_in}
use Rattle.mapworld_state.specs.Locks.Views.{Shown, owner_in}

-- threads stay, and locks stay what they are
pub record StaysWhole (old new : Shown) : Type 0 where
  pub threads : length new.rows.calls ≡ length old.rows.calls
  pub kinds : new.rows.kinds ≡ old.rows.kinds

-- The thread may begin the call: it is in none, and holds the shard as the call needs it.
pub record MayAsk (t shard : ℕ) (call : LockCall) (sh : Shown) : Type 0 where
  pub thread : t < length sh.rows.calls
  pub there : shard < length sh.rows.kinds
  pub of_kind : is_of_shards call ≡ true
  pub free : stand_in sh t ≡ None
  pub holds : owner_in sh shard t ≡ needs call

-- A thread in a call has made the act that the call asks for, and nothing else of the machine has changed.
pub record HasActed (t : ℕ) (fair : Bool) (answer : Option CoreAnswer) (s u : State) : Type 0 where
  pub call : Call
  pub here : call_at s t ≡ Some call
  pub answers : answer ≡ end_of (core_act call.core)
  pub became : Became (core_act call.core) t fair call s u

-- It has begun the call, which it might, and nobody's hold has changed.
pub record LockBegins (t shard : ℕ) (call : LockCall) (old new : Shown) : Type 0 where
  pub may : MayAsk t shard call old
  pub became : state new.rows ≡ begun (state old.rows) t (call_for (state old.rows) t shard call)
  pub whole : StaysWhole old new
  pub desks : new.desks ≡ old.desks
  pub stand : stand_in new t ≡ Some (stand_for shard call)
  pub others : (v : ℕ) → v ≢ t → stand_in new v ≡ stand_in old v
  pub holds : (v i : ℕ) → owner_in new i v ≡ owner_in old i v

-- It has made one step that isn't an answer, which it could make.
pub record LockMoves (t : ℕ) (fair : Bool) (old new : Shown) : Type 0 where
  pub stand : Stand
  pub stood : stand_in old t ≡ Some stand
  pub can : can_move (state old.rows) t ≡ true
  pub steps : HasActed t fair None (state old.rows) (state new.rows)
  pub whole : StaysWhole old new
  -- the desk of its shard follows the owners there
  pub desk : DeskState (Unit {0})
  pub at_shard : slice_get old.desks stand.shard ≡ Some desk
  pub desks : new.desks ≡ slice_set old.desks stand.shard
      (desk_after (owner_in old stand.shard) (owner_in new stand.shard) t (taken_by new.rows.wakes t) desk)
  -- everybody is about what he was
  pub stands : stand_in new t ≡ Some stand
  pub others : (v : ℕ) → v ≢ t → stand_in new v ≡ stand_in old v
  -- what others hold stays theirs; they gain only what they are about
  pub kept : (v i : ℕ) (m : Mode) → v ≢ t → owner_in old i v ≡ Some m → owner_in new i v ≡ Some m
  pub gained : (v i : ℕ) (m : Mode) → v ≢ t → owner_in new i v ≡ Some m
      → (owner_in old i v ≡ Some m) ⊎ ((sv : Stand) × (stand_in old v ≡ Some sv) × (sv.shard ≡ i) × (sv.aim ≡ Gets m))
  pub elsewhere : (i : ℕ) → i ≢ stand.shard → owner_in new i t ≡ owner_in old i t
  -- at other shards nobody's hold changes
  pub apart : (v i : ℕ) → i ≢ stand.shard → owner_in new i v ≡ owner_in old i v
  pub turned : stand.aim ≡ Turns → owner_in old stand.shard t ≡ Some held.Shared
      → owner_in new stand.shard t ≡ Some held.Shared

-- It has begun to give its hold up or to turn it, and has made the first act of that.
pub record LockStarts (t shard : ℕ) (call : LockCall) (fair : Bool) (old new : Shown) : Type 0 where
  pub mid : Shown
  pub begins : LockBegins t shard call old mid
  pub moves : LockMoves t fair mid new
  pub turned : call ≡ Downgrade → owner_in new shard t ≡ Some held.Shared

-- Its deadline has come, as it slept in a call that has one. From then on it can move: it comes back by itself. Its own
-- place in its call is another, and nothing else: no word, no queue, no desk, and nobody's hold or aim.
pub record LockExpires (t : ℕ) (old new : Shown) : Type 0 where
  pub stand : Stand
  pub stood : stand_in old t ≡ Some stand
  pub timed : stand.timed ≡ true
  pub may : may_expire (state old.rows) t ≡ true
  pub call : Call
  pub here : call_at (state old.rows) t ≡ Some call
  pub became : state new.rows ≡ expired (state old.rows) t call
  pub whole : StaysWhole old new
  pub desks : new.desks ≡ old.desks
  pub words : (i : ℕ) → word_at (state new.rows) i ≡ word_at (state old.rows) i
  pub queues : (key : ℕ) → queue_at (state new.rows) key ≡ queue_at (state old.rows) key
  pub stands : (v : ℕ) → stand_in new v ≡ stand_in old v
  pub holds : (v i : ℕ) → owner_in new i v ≡ owner_in old i v

-- Only the answer was left, and is given.
pub record LockEnds (t : ℕ) (answer : CoreAnswer) (old new : Shown) : Type 0 where
  pub stand : Stand
  pub stood : stand_in old t ≡ Some stand
  pub over : ended (state old.rows) t ≡ Some answer
  pub steps : HasActed t false (Some answer) (state old.rows) (state new.rows)
  pub whole : StaysWhole old new
  pub desks : new.desks ≡ old.desks
  pub gone : stand_in new t ≡ None
  pub others : (v : ℕ) → v ≢ t → stand_in new v ≡ stand_in old v
  pub holds : (v i : ℕ) → owner_in new i v ≡ owner_in old i v
  -- it holds what it was about, unless it was refused: only a try is, and what has a deadline
  pub owned : (m : Mode) → stand.aim ≡ Gets m → answer ≡ Owned → owner_in new stand.shard t ≡ Some m
  pub patient : (m : Mode) → stand.aim ≡ Gets m → stand.trying ≡ false → stand.timed ≡ false
      → answer ≡ Owned
  pub settled : (m : Mode) → stand.aim ≡ Gets m → stand.timed ≡ false → (answer ≡ Owned) ⊎ (answer ≡ Refused)
  pub refused : (m : Mode) → stand.aim ≡ Gets m → answer ≡ Refused → owner_in new stand.shard t ≡ None
  -- one with a deadline gives up in either way, with nothing owned
  pub gave_up : (m : Mode) → stand.aim ≡ Gets m → answer ≢ Owned → owner_in new stand.shard t ≡ None
  pub freed : (m : Mode) → stand.aim ≡ GivesUp m → owner_in new stand.shard t ≡ None
  pub turned : stand.aim ≡ Turns → owner_in new stand.shard t ≡ Some held.Shared
  pub together : (i : ℕ) → GoTogether (owner_in new i)
