-- No call has more than ten rounds left to spin.
use Rattle.std.proofs.Common.{◌≡◌, ◌≤◌, ℕ, ◌-◌, ◌/◌, ◌%◌, ◌==◌, ◌&&◌, ◌||◌, not, nat_lt, cond, Bool, true, false}
use Rattle.std.proofs.Common.{Option, Some, None, option_map, arith}
use Rattle.std.specs.Option.{option_map_or}
use Rattle.parking_lot_protocol.specs.declared.act.ActResult.{ActResult}
use Rattle.parking_lot_protocol.specs.declared.act.ActResult.TheVariants.{Start, Word, Exchanged, Before, Spun, Entered}
use Rattle.parking_lot_protocol.specs.declared.act.ActResult.TheVariants.{Took, Stored, Made, Woken}
use Rattle.parking_lot_protocol.specs.declared.mutex_phase.MutexPhase.{MutexPhase}
use Rattle.parking_lot_protocol.specs.declared.mutex_phase.Asking.{Asking}
use Rattle.parking_lot_protocol.specs.declared.rw_phase.RwPhase.{RwPhase}
use Rattle.parking_lot_protocol.specs.declared.rw_phase.LockMode.{LockMode}
use Rattle.parking_lot_protocol.specs.declared.rw_phase.AfterWake.{AfterWake}
use Rattle.parking_lot_protocol.specs.declared.rw_phase.Seeking.{Seeking}
use Rattle.parking_lot_protocol.specs.declared.rw_phase.Draining.{Draining}
use Rattle.parking_lot_protocol.specs.declared.rw_phase.Scanning.{Scanning}
use Rattle.parking_lot_protocol.specs.MutexTable as of_mutex
use Rattle.parking_lot_protocol.specs.RwTable as of_rw
use Rattle.parking_lot_protocol_rw.specs.UpgradeTable as ut
use Rattle.parking_lot_protocol_rw.specs.declared.upgrade_phase.UpgradePhase.{UpgradePhase}
use Rattle.parking_lot_machine.specs.Rounds.{upgrade_rounds, late_rw_rounds, rounds, sleeper_rounds}
use Rattle.parking_lot_machine_calls.specs.Stances.{upgrade_begun, late_rw_next, pending_from, quits_as, sign}
use Rattle.parking_lot_machine_calls.specs.Stances.{resumed_as, sleeper_asleep}
use Rattle.parking_lot_machine_calls.specs.declared.seat.LatePhase.{LatePhase}
use Rattle.parking_lot_machine_calls.specs.declared.seat.Core.{Core}
use Rattle.parking_lot_machine.specs.Rounds.{FewRounds, IsUnderWay, mutex_rounds, rw_rounds}
use Rattle.parking_lot_machine_calls.specs.Stances.{core_next, late_next, has_begun, mutex_begun, rw_begun}
use Rattle.parking_lot_machine.proofs.Beginning.{goes_on}
use Rattle.parking_lot_rules.specs.Classes.{bit}
use Rattle.parking_lot_machine_calls.specs.declared.late_rw.LateRwPhase.{LateRwPhase}
use Rattle.parking_lot_machine_calls.specs.declared.late_rw.RwSleeper.{RwSleeper}

-- a call that doesn't spin, and one of two
no_rounds : 0 ≤ 10
no_rounds = omega arith

all_rounds : 10 ≤ 10
all_rounds = omega arith

one_less : (n : ℕ) → n ≤ 10 → n - 1 ≤ 10
one_less n h = omega (arith, h)

either : {P : Type 0} (f : P → ℕ) (b : Bool) (x y : P) → f x ≤ 10 → f y ≤ 10 → f (cond b x y) ≤ 10
either f true x y h k = h
either f false x y h k = k

-- A MUTEX

seeks_on : (a : Asking) (word : ℕ) → a.rounds ≤ 10 → mutex_rounds (of_mutex.seeks a word) ≤ 10
seeks_on a word h =
    either mutex_rounds (word == 0) _ _ h
    (either mutex_rounds (word == 2) _ _ h
    (either mutex_rounds (word == 1) _ _ (either mutex_rounds (nat_lt 0 a.rounds) _ _ h h) no_rounds))

tries_on : (left word : ℕ) → mutex_rounds (of_mutex.tries left word) ≤ 10
tries_on left word = either mutex_rounds (word == 0) _ _ no_rounds
    (either mutex_rounds (word == 2) _ _ no_rounds no_rounds)

finishes_on : (fair again : Bool) (s : ActResult)
    → mutex_rounds (of_mutex.next_phase (MutexPhase.Finishes (record { fair = fair; again = again })) s) ≤ 10
finishes_on fair true (Word n) = no_rounds
finishes_on fair again s = no_rounds

mutex_on : (p : MutexPhase) (s : ActResult) → mutex_rounds p ≤ 10 → mutex_rounds (of_mutex.next_phase p s) ≤ 10
mutex_on MutexPhase.Locking Start h = all_rounds
mutex_on MutexPhase.Trying Start h = no_rounds
mutex_on (MutexPhase.Unlocking fair) Start h = no_rounds
mutex_on MutexPhase.Bumping Start h = no_rounds
mutex_on (MutexPhase.Loads a) (Word n) h = seeks_on a n h
mutex_on (MutexPhase.Locks a waiters) (Word n) h = seeks_on a n h
mutex_on (MutexPhase.Spins a) (Spun true) h = one_less a.rounds h
mutex_on (MutexPhase.Spins a) (Spun false) h = h
mutex_on (MutexPhase.Parks a) (Word n) h = seeks_on a n h
mutex_on (MutexPhase.Enters c) Entered h = no_rounds
mutex_on (MutexPhase.Retreats c) Made h = all_rounds
mutex_on MutexPhase.Appends Made h = no_rounds
mutex_on MutexPhase.Rests Made h = no_rounds
mutex_on (MutexPhase.Checks c) (Word n) h = either mutex_rounds (n == 3) _ _ no_rounds no_rounds
mutex_on MutexPhase.Sleeps (Woken token) h = either mutex_rounds (token.0 == 1) _ _ no_rounds all_rounds
mutex_on MutexPhase.TryLoads (Word n) h = tries_on 63 n
mutex_on (MutexPhase.TryLocks waiters left) (Word n) h = either mutex_rounds (nat_lt 0 left) _ _ (tries_on (left - 1) n)
    no_rounds
mutex_on MutexPhase.BumpLoads (Word n) h = either mutex_rounds (n / 2 % 2 == 1) _ _ no_rounds no_rounds
mutex_on MutexPhase.Relocks (Word n) h = seeks_on (of_mutex.begins false) n all_rounds
mutex_on (MutexPhase.Unlocks g) Exchanged h = either mutex_rounds g.again _ _ no_rounds no_rounds
mutex_on (MutexPhase.Looks g) Entered h = no_rounds
mutex_on (MutexPhase.Takes g) (Took token left) h = no_rounds
mutex_on (MutexPhase.Stores g taken left) (Stored fair) h = no_rounds
mutex_on (MutexPhase.Wakes g) Made h = no_rounds
mutex_on (MutexPhase.Leaves g true handed) Made h = no_rounds
mutex_on (MutexPhase.Leaves g false handed) Made h = no_rounds
mutex_on (MutexPhase.Finishes g) s h = finishes_on g.fair g.again s
mutex_on p s h = no_rounds

-- A READER-WRITER LOCK

rw_seeks_on : (a : Seeking) (word : ℕ) → a.rounds ≤ 10 → rw_rounds (of_rw.seeks a word) ≤ 10
rw_seeks_on a word h =
    either rw_rounds (of_rw.is_admitted a.want word) _ _ h
    (either rw_rounds (of_rw.is_barred a.want word) _ _
    (either rw_rounds (not (of_rw.is_parked word || of_rw.is_writer_parked word) && nat_lt 0 a.rounds) _ _ h
    (either rw_rounds (of_rw.is_parked word) _ _ no_rounds h)) h)

drains_on : (d : Draining) (word : ℕ) → d.rounds ≤ 10 → rw_rounds (of_rw.drains d word) ≤ 10
drains_on d word h =
    either rw_rounds (of_rw.has_readers word) _ _
    (either rw_rounds (nat_lt 0 d.rounds) _ _ h (either rw_rounds (of_rw.is_writer_parked word) _ _ h h)) no_rounds

rw_tries_on : (w : LockMode) (left word : ℕ) → rw_rounds (of_rw.tries w left word) ≤ 10
rw_tries_on w left word = either rw_rounds (of_rw.is_tried w word) _ _ no_rounds no_rounds

admits_on : (w : LockMode) (woken : Bool) → rw_rounds (of_rw.admits w woken) ≤ 10
admits_on (LockMode.Shared recursive) woken = no_rounds
admits_on LockMode.Exclusive woken = all_rounds

over_on : (rs : AfterWake) → rw_rounds (of_rw.over rs) ≤ 10
over_on AfterWake.FreedShared = no_rounds
over_on AfterWake.FreedExclusive = no_rounds
over_on AfterWake.Downgraded = no_rounds
over_on AfterWake.AgainShared = no_rounds
over_on AfterWake.AgainExclusive = no_rounds

bumps_on : (w : LockMode) (word : ℕ) → rw_rounds (of_rw.bumps w word) ≤ 10
bumps_on (LockMode.Shared recursive) word = either rw_rounds (of_rw.is_written word) _ _ no_rounds no_rounds
bumps_on LockMode.Exclusive word = either rw_rounds (of_rw.is_parked word) _ _ no_rounds no_rounds

wakes_on : (rs : AfterWake) (count : ℕ) → rw_rounds (of_rw.wakes rs count) ≤ 10
wakes_on rs count = either rw_rounds (nat_lt 0 count) _ _ no_rounds no_rounds

taken_on : (left : Bool) (s : Option Scanning)
    → rw_rounds (option_map_or (λ q. q) (option_map (of_rw.goes_on left) s) RwPhase.Invalid) ≤ 10
taken_on left None = no_rounds
taken_on left (Some s) = either rw_rounds (left && not s.writer) _ _ no_rounds no_rounds

rw_on : (p : RwPhase) (s : ActResult) → rw_rounds p ≤ 10 → rw_rounds (of_rw.next_phase p s) ≤ 10
rw_on (RwPhase.Locking w) Start h = all_rounds
rw_on (RwPhase.Trying w) Start h = no_rounds
rw_on RwPhase.UnlockingShared Start h = no_rounds
rw_on (RwPhase.UnlockingExclusive fair) Start h = no_rounds
rw_on RwPhase.Downgrading Start h = no_rounds
rw_on RwPhase.BumpingShared Start h = no_rounds
rw_on RwPhase.BumpingExclusive Start h = no_rounds
rw_on (RwPhase.Loads a) (Word n) h = rw_seeks_on a n h
rw_on (RwPhase.Admits a word) Exchanged h = admits_on a.want false
rw_on (RwPhase.Admits a word) (Word n) h = rw_seeks_on a n h
rw_on (RwPhase.Spins a) (Spun true) h = one_less a.rounds h
rw_on (RwPhase.Spins a) (Spun false) h = no_rounds
rw_on (RwPhase.SetParked a word) (Word n) h = rw_seeks_on a n h
rw_on (RwPhase.Enters w c) Entered h = no_rounds
rw_on (RwPhase.Appends w) Made h = no_rounds
rw_on (RwPhase.Rests w) Made h = no_rounds
rw_on (RwPhase.Checks w c) (Word n) h = either rw_rounds (of_rw.is_barred w n && of_rw.is_parked n) _ _ no_rounds
    no_rounds
rw_on (RwPhase.Retreats w c) Made h = all_rounds
rw_on (RwPhase.Sleeps w) (Woken token) h = either rw_rounds (token.0 == 1) _ _ (admits_on w true) all_rounds
rw_on (RwPhase.DrainLoads d) (Word n) h = drains_on d n h
rw_on (RwPhase.DrainSpins d) (Spun true) h = one_less d.rounds h
rw_on (RwPhase.DrainSpins d) (Spun false) h = no_rounds
rw_on (RwPhase.DrainSetParked d word) Exchanged h = h
rw_on (RwPhase.DrainSetParked d word) (Word n) h = drains_on d n h
rw_on (RwPhase.DrainEnters d) Entered h = h
rw_on (RwPhase.DrainChecks d) (Word n) h = either rw_rounds (of_rw.has_readers n && of_rw.is_writer_parked n) _ _ h h
rw_on (RwPhase.DrainRetreats d) Made h = h
rw_on (RwPhase.DrainAppends rounds) Made h = h
rw_on (RwPhase.DrainRests rounds) Made h = h
rw_on (RwPhase.DrainSleeps rounds) (Woken token) h = h
rw_on (RwPhase.TryLoads w) (Word n) h = rw_tries_on w 63 n
rw_on (RwPhase.TryAdmits w word left) (Word n) h = either rw_rounds (nat_lt 0 left) _ _ (rw_tries_on w (left - 1) n)
    no_rounds
rw_on (RwPhase.BumpLoads w) (Word n) h = bumps_on w n
rw_on (RwPhase.Relocks w) (Word n) h = rw_seeks_on (of_rw.begins w false) n all_rounds
rw_on (RwPhase.Unshares rs) (Before n) h = either rw_rounds (n / 16 == 1 && of_rw.is_writer_parked n) _ _ no_rounds
    (over_on rs)
rw_on (RwPhase.EnterWriterWakeSection rs) Entered h = no_rounds
rw_on (RwPhase.TakeWriter rs) (Took token left) h = no_rounds
rw_on (RwPhase.ClearWriterParked rs taken) (Before n) h = no_rounds
rw_on (RwPhase.LeaveWriterWakeSection rs taken) Made h = wakes_on rs (bit taken)
rw_on (RwPhase.Unlocks fair rs) Exchanged h = over_on rs
rw_on (RwPhase.Unlocks fair rs) (Word n) h = no_rounds
rw_on (RwPhase.LooksExclusive fair rs) Entered h = no_rounds
rw_on RwPhase.EnterWakeSection Entered h = no_rounds
rw_on (RwPhase.Stores a left) (Stored fair) h = no_rounds
rw_on RwPhase.Downgrades (Before n) h = either rw_rounds (of_rw.is_parked n) _ _ no_rounds no_rounds
rw_on (RwPhase.Scans a) (Took None left) h = no_rounds
rw_on (RwPhase.Scans a) (Took (Some token) left) h = taken_on left (of_rw.with_taken a token)
rw_on (RwPhase.Leaves rs count handed) Made h = wakes_on rs count
rw_on (RwPhase.Wakes rs count) Made h = wakes_on rs (count - 1)
rw_on (RwPhase.Finishes AfterWake.FreedShared) (Word n) h = no_rounds
rw_on (RwPhase.Finishes AfterWake.FreedExclusive) (Word n) h = no_rounds
rw_on (RwPhase.Finishes AfterWake.Downgraded) (Word n) h = no_rounds
rw_on (RwPhase.Finishes AfterWake.AgainShared) (Word n) h = no_rounds
rw_on (RwPhase.Finishes AfterWake.AgainExclusive) (Word n) h = no_rounds
rw_on p s h = no_rounds

late_on : (p : LatePhase) (s : ActResult) → FewRounds (late_next p s)
late_on LatePhase.Expires (Woken token) = mutex_on MutexPhase.Sleeps (Woken token) no_rounds
late_on LatePhase.Expires Entered = no_rounds
late_on LatePhase.Quits (Took token left) = no_rounds
late_on LatePhase.Masks (Before word) = no_rounds
late_on LatePhase.Leaves Made = no_rounds
late_on LatePhase.GivesUp s = no_rounds
late_on (LatePhase.WasTaken by handed) Made = mutex_on MutexPhase.Sleeps (Woken (sign handed)) no_rounds
late_on p s = no_rounds

-- an upgradable call goes on as such a one, or begins to
few_rounds : (b : Bool) (p q : UpgradePhase) → upgrade_rounds p ≤ 10 → upgrade_rounds q ≤ 10
    → upgrade_rounds (cond b p q) ≤ 10
few_rounds true p q h k = h
few_rounds false p q h k = k

begun_rounds : (p : UpgradePhase) → upgrade_rounds (ut.begun p) ≤ 10
begun_rounds UpgradePhase.Locking = omega arith
begun_rounds p = no_rounds

shown_rounds : (p : UpgradePhase) (w : ℕ) → upgrade_rounds (ut.shown p w) ≤ 10
shown_rounds UpgradePhase.TryLoads w = few_rounds (ut.is_open w) _ _ no_rounds no_rounds
shown_rounds (UpgradePhase.TryAdmits from left) w =
    few_rounds (nat_lt 0 left) _ _ (few_rounds (ut.is_open w) _ _ no_rounds no_rounds) no_rounds
shown_rounds UpgradePhase.TryUpgradeLoads w = few_rounds (ut.is_alone w) _ _ no_rounds no_rounds
shown_rounds (UpgradePhase.TryUpgrades from left) w =
    few_rounds (nat_lt 0 left) _ _ (few_rounds (ut.is_alone w) _ _ no_rounds no_rounds) no_rounds
shown_rounds UpgradePhase.BumpLoads w = few_rounds (of_rw.is_parked w) _ _ no_rounds no_rounds
shown_rounds UpgradePhase.Relocks w = rw_on (RwPhase.Relocks LockMode.Exclusive) (Word w) no_rounds
shown_rounds (UpgradePhase.UnlockLoads r) w = few_rounds (of_rw.is_parked w) _ _ no_rounds no_rounds
shown_rounds (UpgradePhase.Unlocks r from) w = few_rounds (of_rw.is_parked w) _ _ no_rounds no_rounds
shown_rounds p w = no_rounds

won_rounds : (p : UpgradePhase) → upgrade_rounds (ut.won p) ≤ 10
won_rounds (UpgradePhase.Unlocks r from) = few_rounds (ut.is_again r) _ _ no_rounds no_rounds
won_rounds (UpgradePhase.Yields from w) = few_rounds (of_rw.is_parked w) _ _ no_rounds no_rounds
won_rounds p = no_rounds

added_rounds : (p : UpgradePhase) (w : ℕ) → upgrade_rounds (ut.added p w) ≤ 10
added_rounds UpgradePhase.Upgrades w = omega arith
added_rounds UpgradePhase.ToShared w = few_rounds (of_rw.is_parked w) _ _ no_rounds no_rounds
added_rounds UpgradePhase.ToUpgradable w = few_rounds (of_rw.is_parked w) _ _ no_rounds no_rounds
added_rounds p w = no_rounds

own_rounds : (p : UpgradePhase) (s : ActResult) → upgrade_rounds (ut.own_next p s) ≤ 10
own_rounds p Start = begun_rounds p
own_rounds p (Word w) = shown_rounds p w
own_rounds p Exchanged = won_rounds p
own_rounds p (Before w) = added_rounds p w
own_rounds p s = no_rounds

upgrade_on : (p : UpgradePhase) (s : ActResult) → upgrade_rounds p ≤ 10 → upgrade_rounds (ut.next_phase p s) ≤ 10
upgrade_on (UpgradePhase.Plain core) s h = rw_on core.phase s h
upgrade_on (UpgradePhase.Seeks core) s h = few_rounds (ut.owns_now core.phase s) _ _ no_rounds (rw_on core.phase s h)
upgrade_on (UpgradePhase.Drains core) s h = rw_on core.phase s h
upgrade_on (UpgradePhase.Frees r core) s h = few_rounds (ut.asks_now r core.phase s) _ _ no_rounds
    (rw_on core.phase s h)
upgrade_on (UpgradePhase.Owes kept end core) s h = rw_on core.phase s h
upgrade_on p s h = own_rounds p s

resumed_on : (k : RwSleeper) (handed b : Bool) → sleeper_rounds k ≤ 10 → rounds (resumed_as b k handed) ≤ 10
resumed_on (RwSleeper.Simple c) handed true h = rw_on c.phase (Woken (sign handed)) h
resumed_on (RwSleeper.Upgradable c) handed true h = upgrade_on c.phase (Woken (sign handed)) h
resumed_on k handed false h = no_rounds

tardy_on : (p : LateRwPhase) (s : ActResult) → late_rw_rounds p ≤ 10 → rounds (late_rw_next p s) ≤ 10
tardy_on (LateRwPhase.Expires (RwSleeper.Simple c)) (Woken token) h = rw_on c.phase (Woken token) h
tardy_on (LateRwPhase.Expires (RwSleeper.Upgradable c)) (Woken token) h = upgrade_on c.phase (Woken token) h
tardy_on (LateRwPhase.Expires k) Entered h = no_rounds
tardy_on (LateRwPhase.Quits k) (Took token left) h = quits_rounds (pending_from k) left
  where
    quits_rounds : (o : Option Bool) (left : Bool) → late_rw_rounds (quits_as o left) ≤ 10
    quits_rounds (Some from) left = no_rounds
    quits_rounds None true = no_rounds
    quits_rounds None false = no_rounds
tardy_on LateRwPhase.Masks (Before word) h = no_rounds
tardy_on LateRwPhase.Leaves Made h = no_rounds
tardy_on (LateRwPhase.LeavesPending from) Made h = no_rounds
tardy_on (LateRwPhase.WasTaken k by handed) Made h = resumed_on k handed (sleeper_asleep k) h
tardy_on p s h = no_rounds

pub spins_few : (c : Core) (s : ActResult) → FewRounds c → FewRounds (core_next c s)
spins_few (Core.Mutex c) s h = mutex_on c.phase s h
spins_few (Core.Rw c) s h = rw_on c.phase s h
spins_few (Core.Late p) s h = late_on p s
spins_few (Core.LateRw p) s h = tardy_on p s h
spins_few (Core.Upgrade c) s h = upgrade_on c.phase s h

-- one that goes on is under way
pub under_way : (c : Core) (s : ActResult) → FewRounds c → IsUnderWay (core_next c s)
under_way c s h = record { begun = goes_on c s; few = spins_few c s h }

-- and one that is to begin has no rounds yet
mutex_unbegun : (p : MutexPhase) → mutex_begun p ≡ false → mutex_rounds p ≤ 10
mutex_unbegun (MutexPhase.Loads a) e = absurd cc
mutex_unbegun (MutexPhase.Locks a waiters) e = absurd cc
mutex_unbegun (MutexPhase.Spins a) e = absurd cc
mutex_unbegun (MutexPhase.Parks a) e = absurd cc
mutex_unbegun p e = no_rounds

rw_unbegun : (p : RwPhase) → rw_begun p ≡ false → rw_rounds p ≤ 10
rw_unbegun (RwPhase.Loads a) e = absurd cc
rw_unbegun (RwPhase.Admits a word) e = absurd cc
rw_unbegun (RwPhase.Spins a) e = absurd cc
rw_unbegun (RwPhase.SetParked a word) e = absurd cc
rw_unbegun (RwPhase.DrainLoads d) e = absurd cc
rw_unbegun (RwPhase.DrainSpins d) e = absurd cc
rw_unbegun (RwPhase.DrainSetParked d word) e = absurd cc
rw_unbegun (RwPhase.DrainEnters d) e = absurd cc
rw_unbegun (RwPhase.DrainChecks d) e = absurd cc
rw_unbegun (RwPhase.DrainRetreats d) e = absurd cc
rw_unbegun (RwPhase.DrainAppends rounds) e = absurd cc
rw_unbegun (RwPhase.DrainRests rounds) e = absurd cc
rw_unbegun (RwPhase.DrainSleeps rounds) e = absurd cc
rw_unbegun p e = no_rounds

upgrade_unbegun : (p : UpgradePhase) → upgrade_begun p ≡ false → upgrade_rounds p ≤ 10
upgrade_unbegun (UpgradePhase.Plain core) e = absurd cc
upgrade_unbegun (UpgradePhase.Seeks core) e = absurd cc
upgrade_unbegun (UpgradePhase.Drains core) e = absurd cc
upgrade_unbegun (UpgradePhase.Frees r core) e = absurd cc
upgrade_unbegun (UpgradePhase.Owes kept end core) e = absurd cc
upgrade_unbegun p e = no_rounds

pub unbegun_few : (c : Core) → has_begun c ≡ false → FewRounds c
unbegun_few (Core.Mutex c) e = mutex_unbegun c.phase e
unbegun_few (Core.Rw c) e = rw_unbegun c.phase e
unbegun_few (Core.Late p) e = no_rounds
unbegun_few (Core.LateRw p) e = absurd cc
unbegun_few (Core.Upgrade c) e = upgrade_unbegun c.phase e
