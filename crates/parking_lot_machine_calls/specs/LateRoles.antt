-- What a thread is to a reader-writer lock whose moment has passed as it slept there.
use Rattle.std.specs.Prelude.{ℕ, Bool, true, false, List, Option, Some, None}
use Rattle.parking_lot_rules.specs.Any.{AnyStep, RwStep}
use Rattle.parking_lot_rules.specs.Plain.{Plain, Expire1, Expire2, ExpireTaken1, ExpireTaken2, ReceivePending}
use Rattle.parking_lot_rules.specs.Plain.{ReceiveShared, ReceiveUpgradable, Reenter1, Reenter2, ReenterTaken1}
use Rattle.parking_lot_rules.specs.Plain.{ReenterTaken2, Resume1, Resume2}
use Rattle.parking_lot_rules.specs.Roles.{Mode, Shared, Exclusive, Upgradable, Mark, Stay, Late, Back, Shares, Phase}
use Rattle.parking_lot_rules.specs.Roles.{Queued1, Taken1, Queued2, Taken2, Masks1, Leaves1, Leaves2, Role, away}
use Rattle.parking_lot_rules.specs.Steps.{Alone, List_changes, Listing, Quit1, QuitLast1, Quit2}
use Rattle.parking_lot_protocol.specs.MutexRules.{mark_of}
use Rattle.parking_lot_protocol.specs.RwRules as of_rw
use Rattle.parking_lot_protocol.specs.declared.rw_phase.RwPhase.{RwPhase}
use Rattle.parking_lot_protocol.specs.declared.rw_phase.RwPhase.TheVariants as r
use Rattle.parking_lot_protocol_rw.specs.UpgradeRoles as of_upgrade
use Rattle.parking_lot_machine_calls.specs.declared.late_rw.LateRwPhase.{LateRwPhase}
use Rattle.parking_lot_machine_calls.specs.declared.late_rw.LateRwPhase.TheVariants as late_rw
use Rattle.parking_lot_machine_calls.specs.declared.late_rw.RwSleeper.{RwSleeper}
use Rattle.parking_lot_machine_calls.specs.declared.late_rw.RwSleeper.TheVariants as sleeper
use Rattle.parking_lot_machine_calls.specs.Stances.{pending_from}

-- one that stands in a list, or was taken off it, has come so far there
abbrev pub staying : Stay → Phase → Phase
staying stay (Queued1 mode old) = Queued1 mode stay
staying stay (Taken1 mode by mark old) = Taken1 mode by mark stay
staying stay (Queued2 from old) = Queued2 from stay
staying stay (Taken2 from by old) = Taken2 from by stay
staying stay phase = phase

abbrev pub stays : Stay → Role → Role
stays stay r = record { owns = r.owns; does = staying stay r.does }

abbrev pub sleeper_role : ℕ → of_rw.QueuePosition → List ℕ → RwSleeper → Role
sleeper_role n at us (sleeper.Simple c) = of_rw.role n at us c.phase
sleeper_role n at us (sleeper.Upgradable c) = of_upgrade.role n at us c.phase

abbrev pub late_rw_role : ℕ → of_rw.QueuePosition → List ℕ → LateRwPhase → Role
late_rw_role n at us (late_rw.Expires k) = stays Late (sleeper_role n at us k)
late_rw_role n at us (late_rw.Quits k) = stays Back (sleeper_role n of_rw.Listed us k)
late_rw_role n at us late_rw.Masks = record { owns = Shares 0; does = Masks1 }
late_rw_role n at us late_rw.Leaves = record { owns = Shares 0; does = Leaves1 }
late_rw_role n at us late_rw.GivesUp = away
late_rw_role n at us (late_rw.LeavesPending from) = record { owns = Shares 0; does = Leaves2 from }
late_rw_role n at us (late_rw.WasTaken k by handed) = stays Back (sleeper_role n (of_rw.Off by (mark_of handed)) us k)

-- WHICH STEPS OF THE RULES ITS OWN ARE

-- what one wants that sleeps in the first list
abbrev pub simple_wants : RwPhase → Mode
simple_wants (r.Sleeps want) = of_rw.mode_of want
simple_wants phase = Shared

abbrev pub sleeper_wants : RwSleeper → Mode
sleeper_wants (sleeper.Simple c) = simple_wants c.phase
sleeper_wants (sleeper.Upgradable c) = Upgradable

-- its moment passes
abbrev pub expires_as : Option Bool → Mode → Plain
expires_as (Some from) mode = Expire2 from
expires_as None mode = Expire1 mode

abbrev pub expires_taken_as : Option Bool → Mode → ℕ → Mark → Plain
expires_taken_as (Some from) mode by mark = ExpireTaken2 from by
expires_taken_as None mode by mark = ExpireTaken1 mode by mark

-- it comes back into its section
abbrev pub reenters_as : Option Bool → Mode → Plain
reenters_as (Some from) mode = Reenter2 from
reenters_as None mode = Reenter1 mode

-- or was taken, and finds that out there
abbrev pub finds_as : Option Bool → Mode → ℕ → Mark → Plain
finds_as (Some from) mode by mark = ReenterTaken2 from by
finds_as None mode by mark = ReenterTaken1 mode by mark

-- and goes on as one that was woken: it owns what it was handed, or tries again
abbrev pub resumes_as : Option Bool → Mode → ℕ → Bool → Plain
resumes_as (Some from) mode by handed = Resume2 from by
resumes_as None mode by false = Resume1 mode by
resumes_as None Shared by true = ReceiveShared by
resumes_as None Exclusive by true = ReceivePending by
resumes_as None Upgradable by true = ReceiveUpgradable by

-- and takes itself out, from the i-th place, as the last one of the first list or as one of several
abbrev pub quitting_as : Option Bool → Mode → Bool → ℕ → Listing
quitting_as (Some from) mode left i = Quit2 from i
quitting_as None mode true i = Quit1 mode i
quitting_as None mode false i = QuitLast1 mode i

abbrev pub expiring : RwSleeper → AnyStep
expiring k = RwStep (Alone (expires_as (pending_from k) (sleeper_wants k)))

abbrev pub expiring_taken : RwSleeper → ℕ → Mark → AnyStep
expiring_taken k by mark = RwStep (Alone (expires_taken_as (pending_from k) (sleeper_wants k) by mark))

abbrev pub finding : RwSleeper → ℕ → Mark → AnyStep
finding k by mark = RwStep (Alone (finds_as (pending_from k) (sleeper_wants k) by mark))

abbrev pub resuming : RwSleeper → ℕ → Bool → AnyStep
resuming k by handed = RwStep (Alone (resumes_as (pending_from k) (sleeper_wants k) by handed))

abbrev pub reentering : RwSleeper → AnyStep
reentering k = RwStep (Alone (reenters_as (pending_from k) (sleeper_wants k)))

abbrev pub quitting : RwSleeper → Bool → ℕ → AnyStep
quitting k left i = RwStep (List_changes (quitting_as (pending_from k) (sleeper_wants k) left i))
