-- What calls of a world are asked of, and how they end.
use Rattle.std.specs.Prelude.{if◌then◌else◌, ℕ, Bool, true, false, Option, Some, None}
use Rattle.parking_lot_protocol.specs.declared.act.CoreAnswer.{CoreAnswer}
use Rattle.parking_lot_protocol.specs.declared.act.CoreAnswer.TheVariants as from_core
use Rattle.parking_lot_machine_sides.specs.declared.once.calls.OnceCall.TheVariants as once
use Rattle.parking_lot_machine_sides.specs.declared.once.calls.OnceReply.{OnceReply}
use Rattle.parking_lot_machine_sides.specs.declared.once.calls.OnceReply.TheVariants as reply
use Rattle.parking_lot_machine_sides.specs.declared.condvar.calls.CondvarCall.TheVariants as variable
use Rattle.parking_lot_machine_sides.specs.declared.condvar.calls.CondvarReply.{CondvarReply}
use Rattle.parking_lot_machine_sides.specs.declared.condvar.calls.CondvarReply.TheVariants as told
use Rattle.parking_lot_machine_waits.specs.declared.ended.Ended.{Ended}
use Rattle.parking_lot_machine_waits.specs.declared.ended.Ended.TheVariants as ended
use Rattle.parking_lot_machine_calls.specs.Calls.{is_timed}
use Rattle.parking_lot_machine_calls.specs.declared.calls.LockCall.TheVariants as row
use Rattle.parking_lot_machine_calls.specs.declared.calls.LockKind.{LockKind as RowKind}
use Rattle.parking_lot_machine_calls.specs.declared.calls.LockKind.TheVariants as rows
use Rattle.parking_lot_machine_calls.specs.declared.open_call.Call.{Call}
use Rattle.parking_lot_world.specs.declared.calls.LockKind.{LockKind}
use Rattle.parking_lot_world.specs.declared.calls.LockKind.TheVariants as kind
use Rattle.parking_lot_world.specs.declared.calls.LockCall.{LockCall}
use Rattle.parking_lot_world.specs.declared.calls.LockCall.TheVariants as call
use Rattle.parking_lot_world.specs.declared.calls.Asked.{Asked}
use Rattle.parking_lot_world.specs.declared.calls.Asked.TheVariants.{OfLock, OfVariable, OfOnce}
use Rattle.parking_lot_world.specs.declared.calls.LockAnswer.{LockAnswer}
use Rattle.parking_lot_world.specs.declared.calls.LockAnswer.TheVariants as answer
use Rattle.parking_lot_world.specs.declared.step.WorldStep.{WorldStep}
use Rattle.parking_lot_world.specs.declared.step.WorldStep.TheVariants as step

abbrev pub is_once : LockKind → Bool
is_once kind.Mutex = false
is_once kind.FairMutex = false
is_once kind.Rw = false
is_once kind.RwRecursive = false
is_once kind.Condvar = false
is_once kind.Once = true

abbrev pub is_variable : LockKind → Bool
is_variable kind.Mutex = false
is_variable kind.FairMutex = false
is_variable kind.Rw = false
is_variable kind.RwRecursive = false
is_variable kind.Condvar = true
is_variable kind.Once = false

-- The row of a machine of locks. At that of a condition variable and of a once nobody is ever in a call; that of a once
-- is no mutex, so nobody waits with it.
abbrev pub row_kind : LockKind → RowKind
row_kind kind.Mutex = rows.Mutex
row_kind kind.FairMutex = rows.FairMutex
row_kind kind.Rw = rows.Rw
row_kind kind.RwRecursive = rows.RwRecursive
row_kind kind.Condvar = rows.Mutex
row_kind kind.Once = rows.Rw

abbrev pub asked : LockCall → Asked
asked call.Lock = OfLock row.Lock
asked call.TryLock = OfLock row.TryLock
asked call.LockUntil = OfLock row.LockUntil
asked call.Unlock = OfLock row.Unlock
asked call.Read = OfLock row.Read
asked call.TryRead = OfLock row.TryRead
asked call.UnlockRead = OfLock row.UnlockRead
asked call.Write = OfLock row.Write
asked call.TryWrite = OfLock row.TryWrite
asked call.UnlockWrite = OfLock row.UnlockWrite
asked call.Downgrade = OfLock row.Downgrade
asked call.UpgradableRead = OfLock row.UpgradableRead
asked call.TryUpgradableRead = OfLock row.TryUpgradableRead
asked call.UnlockUpgradable = OfLock row.UnlockUpgradable
asked call.Upgrade = OfLock row.Upgrade
asked call.TryUpgrade = OfLock row.TryUpgrade
asked call.DowngradeToUpgradable = OfLock row.DowngradeToUpgradable
asked call.DowngradeUpgradable = OfLock row.DowngradeUpgradable
asked call.ReadUntil = OfLock row.ReadUntil
asked call.WriteUntil = OfLock row.WriteUntil
asked call.UpgradableUntil = OfLock row.UpgradableUntil
asked call.UpgradeUntil = OfLock row.UpgradeUntil
asked (call.Wait m) = OfVariable (variable.Wait m)
asked (call.WaitUntil m) = OfVariable (variable.WaitUntil m)
asked call.NotifyOne = OfVariable variable.NotifyOne
asked call.NotifyAll = OfVariable variable.NotifyAll
asked (call.CallOnce well) = OfOnce (once.CallOnce well)
asked (call.CallOnceForce well) = OfOnce (once.CallOnceForce well)
asked call.OnceWait = OfOnce once.OnceWait
asked call.OnceWaitForce = OfOnce once.OnceWaitForce

abbrev pub of_core : CoreAnswer → LockAnswer
of_core from_core.Owned = answer.Owned
of_core from_core.Refused = answer.Refused
of_core from_core.Released = answer.Released

-- a call with a deadline that doesn't end with what it asked for has given up
abbrev pub of_timed : CoreAnswer → LockAnswer
of_timed from_core.Owned = answer.Owned
of_timed from_core.Refused = answer.TimedOut
of_timed from_core.Released = answer.TimedOut

-- what a thread is answered whose call at a lock ends so
abbrev pub said : Option Call → CoreAnswer → LockAnswer
said None a = of_core a
said (Some c) a = if is_timed c.asked then of_timed a else of_core a

abbrev pub of_condvar : CondvarReply → LockAnswer
of_condvar told.Woken = answer.Owned
of_condvar told.TimedOut = answer.TimedOut
of_condvar told.WrongMutex = answer.WrongMutex
of_condvar (told.Flag some) = answer.Flag some
of_condvar (told.Count count) = answer.Count count

-- what a thread is answered whose call at a lock or a condition variable ends so; one at a lock was in that call
abbrev pub of_ended : Option Call → Ended → LockAnswer
of_ended call (ended.AtLock a) = said call a
of_ended call (ended.AtVariable reply) = of_condvar reply

abbrev pub of_reply : OnceReply → LockAnswer
of_reply (reply.Ran before) = answer.Ran before
of_reply reply.Failed = answer.Failed
of_reply reply.Poisoned = answer.Poisoned
of_reply reply.Completed = answer.Completed

-- who makes a step
abbrev pub step_thread : WorldStep → ℕ
step_thread (step.Begin thread lock call) = thread
step_thread (step.Go thread fair) = thread
step_thread (step.Deadline thread) = thread
