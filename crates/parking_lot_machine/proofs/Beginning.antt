-- A call that has begun goes on so.
use Rattle.std.proofs.Common.{◌≡◌, ℕ, ◌-◌, ◌/◌, ◌%◌, ◌==◌, ◌&&◌, ◌||◌, not, nat_lt, Bool, true, false, Option, Some}
use Rattle.std.proofs.Common.{None, option_map, refl, cond}
use Rattle.std.specs.Option.{option_map_or}
use Rattle.parking_lot_protocol.specs.declared.act.ActResult.{ActResult}
use Rattle.parking_lot_protocol.specs.declared.act.ActResult.TheVariants.{Start, Word, Exchanged, Before, Spun, Entered}
use Rattle.parking_lot_protocol.specs.declared.act.ActResult.TheVariants.{Took, Stored, Made, Woken}
use Rattle.parking_lot_protocol.specs.declared.mutex_phase.MutexPhase.{MutexPhase}
use Rattle.parking_lot_protocol.specs.declared.mutex_phase.Asking.{Asking}
use Rattle.parking_lot_protocol.specs.declared.rw_phase.RwPhase.{RwPhase}
use Rattle.parking_lot_protocol.specs.declared.rw_phase.LockMode.{LockMode}
use Rattle.parking_lot_protocol.specs.declared.rw_phase.AfterWake.{AfterWake}
use Rattle.parking_lot_protocol.specs.declared.rw_phase.Seeking.{Seeking}
use Rattle.parking_lot_protocol.specs.declared.rw_phase.Draining.{Draining}
use Rattle.parking_lot_protocol.specs.declared.rw_phase.Scanning.{Scanning}
use Rattle.parking_lot_protocol.specs.MutexTable as of_mutex
use Rattle.parking_lot_protocol.specs.RwTable as of_rw
use Rattle.parking_lot_protocol.proofs.MutexFollowing.{either}
use Rattle.parking_lot_protocol_rw.specs.UpgradeTable as ut
use Rattle.parking_lot_protocol_rw.specs.declared.upgrade_phase.UpgradePhase.{UpgradePhase}
use Rattle.parking_lot_machine_calls.specs.Stances.{upgrade_begun, late_rw_next, sign, resumed_as, sleeper_asleep}
use Rattle.parking_lot_machine_calls.specs.declared.seat.LatePhase.{LatePhase}
use Rattle.parking_lot_machine_calls.specs.declared.seat.Core.{Core}
use Rattle.parking_lot_machine_calls.specs.Stances.{mutex_begun, rw_begun, has_begun, core_next, late_next}
use Rattle.parking_lot_rules.specs.Classes.{bit}
use Rattle.parking_lot_machine_calls.specs.declared.late_rw.LateRwPhase.{LateRwPhase}
use Rattle.parking_lot_machine_calls.specs.declared.late_rw.RwSleeper.{RwSleeper}

-- A MUTEX

seeks_on : (a : Asking) (word : ℕ) → mutex_begun (of_mutex.seeks a word) ≡ true
seeks_on a word = either mutex_begun (word == 0) _ _ _ refl
    (either mutex_begun (word == 2) _ _ _ refl
    (either mutex_begun (word == 1) _ _ _ (either mutex_begun (nat_lt 0 a.rounds) _ _ _ refl refl) refl))

tries_on : (left word : ℕ) → mutex_begun (of_mutex.tries left word) ≡ true
tries_on left word = either mutex_begun (word == 0) _ _ _ refl (either mutex_begun (word == 2) _ _ _ refl refl)

finishes_on : (fair again : Bool) (s : ActResult)
    → mutex_begun (of_mutex.next_phase (MutexPhase.Finishes (record { fair = fair; again = again })) s) ≡ true
finishes_on fair true (Word n) = refl
finishes_on fair again s = refl

mutex_on : (p : MutexPhase) (s : ActResult) → mutex_begun (of_mutex.next_phase p s) ≡ true
mutex_on MutexPhase.Locking Start = refl
mutex_on MutexPhase.Trying Start = refl
mutex_on (MutexPhase.Unlocking fair) Start = refl
mutex_on MutexPhase.Bumping Start = refl
mutex_on (MutexPhase.Loads a) (Word n) = seeks_on a n
mutex_on (MutexPhase.Locks a waiters) (Word n) = seeks_on a n
mutex_on (MutexPhase.Spins a) (Spun true) = refl
mutex_on (MutexPhase.Spins a) (Spun false) = refl
mutex_on (MutexPhase.Parks a) (Word n) = seeks_on a n
mutex_on (MutexPhase.Enters c) Entered = refl
mutex_on (MutexPhase.Retreats c) Made = refl
mutex_on MutexPhase.Appends Made = refl
mutex_on MutexPhase.Rests Made = refl
mutex_on (MutexPhase.Checks c) (Word n) = either mutex_begun (n == 3) _ _ _ refl refl
mutex_on MutexPhase.Sleeps (Woken token) = either mutex_begun (token.0 == 1) _ _ _ refl refl
mutex_on MutexPhase.TryLoads (Word n) = tries_on 63 n
mutex_on (MutexPhase.TryLocks waiters left) (Word n) = either mutex_begun (nat_lt 0 left) _ _ _ (tries_on (left - 1) n)
    refl
mutex_on MutexPhase.BumpLoads (Word n) = either mutex_begun (n / 2 % 2 == 1) _ _ _ refl refl
mutex_on MutexPhase.Relocks (Word n) = seeks_on (of_mutex.begins false) n
mutex_on (MutexPhase.Unlocks g) Exchanged = either mutex_begun g.again _ _ _ refl refl
mutex_on (MutexPhase.Looks g) Entered = refl
mutex_on (MutexPhase.Takes g) (Took token left) = refl
mutex_on (MutexPhase.Stores g taken left) (Stored fair) = refl
mutex_on (MutexPhase.Wakes g) Made = refl
mutex_on (MutexPhase.Leaves g true handed) Made = refl
mutex_on (MutexPhase.Leaves g false handed) Made = refl
mutex_on (MutexPhase.Finishes g) s = finishes_on g.fair g.again s
mutex_on p s = refl

-- A READER-WRITER LOCK

rw_seeks_on : (a : Seeking) (word : ℕ) → rw_begun (of_rw.seeks a word) ≡ true
rw_seeks_on a word =
    either rw_begun (of_rw.is_admitted a.want word) _ _ _ refl
    (either rw_begun (of_rw.is_barred a.want word) _ _ _
    (either rw_begun (not (of_rw.is_parked word || of_rw.is_writer_parked word) && nat_lt 0 a.rounds) _ _ _ refl
    (either rw_begun (of_rw.is_parked word) _ _ _ refl refl)) refl)

drains_on : (d : Draining) (word : ℕ) → rw_begun (of_rw.drains d word) ≡ true
drains_on d word =
    either rw_begun (of_rw.has_readers word) _ _ _
    (either rw_begun (nat_lt 0 d.rounds) _ _ _ refl (either rw_begun (of_rw.is_writer_parked word) _ _ _ refl refl))
    refl

rw_tries_on : (w : LockMode) (left word : ℕ) → rw_begun (of_rw.tries w left word) ≡ true
rw_tries_on w left word = either rw_begun (of_rw.is_tried w word) _ _ _ refl refl

admits_on : (w : LockMode) (woken : Bool) → rw_begun (of_rw.admits w woken) ≡ true
admits_on (LockMode.Shared recursive) woken = refl
admits_on LockMode.Exclusive woken = refl

over_on : (rs : AfterWake) → rw_begun (of_rw.over rs) ≡ true
over_on AfterWake.FreedShared = refl
over_on AfterWake.FreedExclusive = refl
over_on AfterWake.Downgraded = refl
over_on AfterWake.AgainShared = refl
over_on AfterWake.AgainExclusive = refl

bumps_on : (w : LockMode) (word : ℕ) → rw_begun (of_rw.bumps w word) ≡ true
bumps_on (LockMode.Shared recursive) word = either rw_begun (of_rw.is_written word) _ _ _ refl refl
bumps_on LockMode.Exclusive word = either rw_begun (of_rw.is_parked word) _ _ _ refl refl

wakes_on : (rs : AfterWake) (count : ℕ) → rw_begun (of_rw.wakes rs count) ≡ true
wakes_on rs count = either rw_begun (nat_lt 0 count) _ _ _ refl refl

taken_on : (left : Bool) (s : Option Scanning)
    → rw_begun (option_map_or (λ q. q) (option_map (of_rw.goes_on left) s) RwPhase.Invalid) ≡ true
taken_on left None = refl
taken_on left (Some s) = either rw_begun (left && not s.writer) _ _ _ refl refl

rw_on : (p : RwPhase) (s : ActResult) → rw_begun (of_rw.next_phase p s) ≡ true
rw_on (RwPhase.Locking w) Start = refl
rw_on (RwPhase.Trying w) Start = refl
rw_on RwPhase.UnlockingShared Start = refl
rw_on (RwPhase.UnlockingExclusive fair) Start = refl
rw_on RwPhase.Downgrading Start = refl
rw_on RwPhase.BumpingShared Start = refl
rw_on RwPhase.BumpingExclusive Start = refl
rw_on (RwPhase.Loads a) (Word n) = rw_seeks_on a n
rw_on (RwPhase.Admits a word) Exchanged = admits_on a.want false
rw_on (RwPhase.Admits a word) (Word n) = rw_seeks_on a n
rw_on (RwPhase.Spins a) (Spun spun) = refl
rw_on (RwPhase.SetParked a word) Exchanged = refl
rw_on (RwPhase.SetParked a word) (Word n) = rw_seeks_on a n
rw_on (RwPhase.Enters w c) Entered = refl
rw_on (RwPhase.Checks w c) (Word n) = either rw_begun (of_rw.is_barred w n && of_rw.is_parked n) _ _ _ refl refl
rw_on (RwPhase.Retreats w c) Made = refl
rw_on (RwPhase.Appends w) Made = refl
rw_on (RwPhase.Rests w) Made = refl
rw_on (RwPhase.Sleeps w) (Woken token) = either rw_begun (token.0 == 1) _ _ _ (admits_on w true) refl
rw_on (RwPhase.DrainLoads d) (Word n) = drains_on d n
rw_on (RwPhase.DrainSpins d) (Spun spun) = refl
rw_on (RwPhase.DrainSetParked d word) Exchanged = refl
rw_on (RwPhase.DrainSetParked d word) (Word n) = drains_on d n
rw_on (RwPhase.DrainEnters d) Entered = refl
rw_on (RwPhase.DrainChecks d) (Word n) = either rw_begun (of_rw.has_readers n && of_rw.is_writer_parked n) _ _ _ refl
    refl
rw_on (RwPhase.DrainRetreats d) Made = refl
rw_on (RwPhase.DrainAppends rounds) Made = refl
rw_on (RwPhase.DrainRests rounds) Made = refl
rw_on (RwPhase.DrainSleeps rounds) (Woken token) = refl
rw_on (RwPhase.TryLoads w) (Word n) = rw_tries_on w 63 n
rw_on (RwPhase.TryAdmits w word left) Exchanged = refl
rw_on (RwPhase.TryAdmits w word left) (Word n) = either rw_begun (nat_lt 0 left) _ _ _ (rw_tries_on w (left - 1) n) refl
rw_on (RwPhase.BumpLoads w) (Word n) = bumps_on w n
rw_on (RwPhase.Relocks w) (Word n) = rw_seeks_on (of_rw.begins w false) n
rw_on (RwPhase.Unshares rs) (Before n) = either rw_begun (n / 16 == 1 && of_rw.is_writer_parked n) _ _ _ refl
    (over_on rs)
rw_on (RwPhase.EnterWriterWakeSection rs) Entered = refl
rw_on (RwPhase.TakeWriter rs) (Took token left) = refl
rw_on (RwPhase.ClearWriterParked rs taken) (Before n) = refl
rw_on (RwPhase.LeaveWriterWakeSection rs taken) Made = wakes_on rs (bit taken)
rw_on (RwPhase.Unlocks fair rs) Exchanged = over_on rs
rw_on (RwPhase.Unlocks fair rs) (Word n) = refl
rw_on (RwPhase.LooksExclusive fair rs) Entered = refl
rw_on RwPhase.Downgrades (Before n) = either rw_begun (of_rw.is_parked n) _ _ _ refl refl
rw_on RwPhase.EnterWakeSection Entered = refl
rw_on (RwPhase.Scans a) (Took None left) = refl
rw_on (RwPhase.Scans a) (Took (Some token) left) = taken_on left (of_rw.with_taken a token)
rw_on (RwPhase.Stores a left) (Stored fair) = refl
rw_on (RwPhase.Leaves rs count handed) Made = wakes_on rs count
rw_on (RwPhase.Wakes rs count) Made = wakes_on rs (count - 1)
rw_on (RwPhase.Finishes AfterWake.FreedShared) (Word n) = refl
rw_on (RwPhase.Finishes AfterWake.FreedExclusive) (Word n) = refl
rw_on (RwPhase.Finishes AfterWake.Downgraded) (Word n) = refl
rw_on (RwPhase.Finishes AfterWake.AgainShared) (Word n) = refl
rw_on (RwPhase.Finishes AfterWake.AgainExclusive) (Word n) = refl
rw_on p s = refl

late_on : (p : LatePhase) (s : ActResult) → has_begun (late_next p s) ≡ true
late_on LatePhase.Expires (Woken token) = mutex_on MutexPhase.Sleeps (Woken token)
late_on LatePhase.Expires Entered = refl
late_on LatePhase.Quits (Took token left) = refl
late_on LatePhase.Masks (Before word) = refl
late_on LatePhase.Leaves Made = refl
late_on LatePhase.GivesUp s = refl
late_on (LatePhase.WasTaken by handed) Made = mutex_on MutexPhase.Sleeps (Woken (sign handed))
late_on p s = refl

-- AN UPGRADABLE CALL

upgrade_pick : (b : Bool) (p q : UpgradePhase) → upgrade_begun p ≡ true → upgrade_begun q ≡ true
    → upgrade_begun (cond b p q) ≡ true
upgrade_pick true p q h k = h
upgrade_pick false p q h k = k

own_begins : (p : UpgradePhase) → upgrade_begun (ut.begun p) ≡ true
own_begins UpgradePhase.Locking = refl
own_begins p = refl

own_shows : (p : UpgradePhase) (w : ℕ) → upgrade_begun (ut.shown p w) ≡ true
own_shows UpgradePhase.TryLoads w = upgrade_pick (ut.is_open w) _ _ refl refl
own_shows (UpgradePhase.TryAdmits from left) w = upgrade_pick (nat_lt 0 left) _ _
    (upgrade_pick (ut.is_open w) _ _ refl refl) refl
own_shows UpgradePhase.TryUpgradeLoads w = upgrade_pick (ut.is_alone w) _ _ refl refl
own_shows (UpgradePhase.TryUpgrades from left) w = upgrade_pick (nat_lt 0 left) _ _
    (upgrade_pick (ut.is_alone w) _ _ refl refl) refl
own_shows UpgradePhase.BumpLoads w = upgrade_pick (of_rw.is_parked w) _ _ refl refl
own_shows (UpgradePhase.UnlockLoads r) w = upgrade_pick (of_rw.is_parked w) _ _ refl refl
own_shows (UpgradePhase.Unlocks r from) w = upgrade_pick (of_rw.is_parked w) _ _ refl refl
own_shows p w = refl

own_wins : (p : UpgradePhase) → upgrade_begun (ut.won p) ≡ true
own_wins (UpgradePhase.Unlocks r from) = upgrade_pick (ut.is_again r) _ _ refl refl
own_wins (UpgradePhase.Yields from w) = upgrade_pick (of_rw.is_parked w) _ _ refl refl
own_wins p = refl

own_adds : (p : UpgradePhase) (w : ℕ) → upgrade_begun (ut.added p w) ≡ true
own_adds UpgradePhase.ToShared w = upgrade_pick (of_rw.is_parked w) _ _ refl refl
own_adds UpgradePhase.ToUpgradable w = upgrade_pick (of_rw.is_parked w) _ _ refl refl
own_adds p w = refl

own_on : (p : UpgradePhase) (s : ActResult) → upgrade_begun (ut.own_next p s) ≡ true
own_on p Start = own_begins p
own_on p (Word w) = own_shows p w
own_on p Exchanged = own_wins p
own_on p (Before w) = own_adds p w
own_on p s = refl

upgrade_on : (p : UpgradePhase) (s : ActResult) → upgrade_begun (ut.next_phase p s) ≡ true
upgrade_on (UpgradePhase.Plain core) s = refl
upgrade_on (UpgradePhase.Seeks core) s = upgrade_pick (ut.owns_now core.phase s) _ _ refl refl
upgrade_on (UpgradePhase.Drains core) s = refl
upgrade_on (UpgradePhase.Frees r core) s = upgrade_pick (ut.asks_now r core.phase s) _ _ refl refl
upgrade_on (UpgradePhase.Owes kept end core) s = refl
upgrade_on p s = own_on p s

resumed_on : (k : RwSleeper) (handed b : Bool) → has_begun (resumed_as b k handed) ≡ true
resumed_on (RwSleeper.Simple c) handed true = rw_on c.phase (Woken (sign handed))
resumed_on (RwSleeper.Upgradable c) handed true = upgrade_on c.phase (Woken (sign handed))
resumed_on k handed false = refl

tardy_on : (p : LateRwPhase) (s : ActResult) → has_begun (late_rw_next p s) ≡ true
tardy_on (LateRwPhase.Expires (RwSleeper.Simple c)) (Woken token) = rw_on c.phase (Woken token)
tardy_on (LateRwPhase.Expires (RwSleeper.Upgradable c)) (Woken token) = upgrade_on c.phase (Woken token)
tardy_on (LateRwPhase.Expires k) Entered = refl
tardy_on (LateRwPhase.Quits k) (Took token left) = refl
tardy_on LateRwPhase.Masks (Before word) = refl
tardy_on LateRwPhase.Leaves Made = refl
tardy_on (LateRwPhase.LeavesPending from) Made = refl
tardy_on (LateRwPhase.WasTaken k by handed) Made = resumed_on k handed (sleeper_asleep k)
tardy_on p s = refl

pub goes_on : (c : Core) (s : ActResult) → has_begun (core_next c s) ≡ true
goes_on (Core.Mutex c) s = mutex_on c.phase s
goes_on (Core.Rw c) s = rw_on c.phase s
goes_on (Core.Late p) s = late_on p s
goes_on (Core.LateRw p) s = tardy_on p s
goes_on (Core.Upgrade c) s = upgrade_on c.phase s
