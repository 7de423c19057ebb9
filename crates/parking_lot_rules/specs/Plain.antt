-- The steps that change nothing but the word and the role of the thread that makes them.
use Rattle.std.specs.Prelude.{◌≡◌, ◌≢◌, ℕ, ◌+◌, ◌-◌, ◌<◌, Bool, true, false, ◌⊎◌, List, [], if◌then◌else◌}
use Rattle.parking_lot_rules.specs.Roles.{Mode, Shared, Exclusive, Upgradable, Owned, Shares, Excludes, Upgrades, Fresh}
use Rattle.parking_lot_rules.specs.Roles.{Asleep, Late, Back, Mark, Normal, Handed, FromExclusive, FromUpgradable, Owed}
use Rattle.parking_lot_rules.specs.Roles.{Idle, Seeks, Enters1, Checked1, Queued1, Taken1, Masks1, Leaves1, Drains}
use Rattle.parking_lot_rules.specs.Roles.{Enters2, Checked2, Queued2, Taken2, Leaves2, Yields, Owes1, Scans1, Stored1}
use Rattle.parking_lot_rules.specs.Roles.{Owes2, Scans2, Masked2, Wakes, Role}
use Rattle.parking_lot_rules.specs.Classes.{Class, Inside1, Inside2, Waiting2, bit}
use Rattle.parking_lot_rules.specs.Clauses.{Word}

pub data Plain : Type 0 where
  -- a call begins, and a try is refused
  Begin : (n : ℕ) → (mode : Mode) → Plain
  Refuse : (n : ℕ) → (mode : Mode) → Plain
  -- admissions: shared, the first part of exclusive, its second part, upgradable; exclusive at once, by a try
  Share : (n : ℕ) → (woken : Bool) → Plain
  Pend : (woken : Bool) → Plain
  Drain : (from : Bool) → (woken : Bool) → Plain
  Upgradably : (woken : Bool) → Plain
  Exclude : Plain
  -- waiting on the first key: the parked bit, the section, its check, and back out of it, with or without a place in
  -- the list
  Flag1 : (mode : Mode) → (woken : Bool) → Plain
  Enter1 : (mode : Mode) → (woken : Bool) → Plain
  Check1 : (mode : Mode) → (woken : Bool) → Plain
  Retreat1 : (mode : Mode) → (woken : Bool) → Plain
  Rest1 : (mode : Mode) → Plain
  -- giving up on the first key: the deadline, the section, and out of it, taken by another in the meantime or not
  Expire1 : (mode : Mode) → Plain
  ExpireTaken1 : (mode : Mode) → (by : ℕ) → (mark : Mark) → Plain
  Reenter1 : (mode : Mode) → Plain
  ReenterTaken1 : (mode : Mode) → (by : ℕ) → (mark : Mark) → Plain
  Mask1 : Plain
  Leave1 : Plain
  Resume1 : (mode : Mode) → (by : ℕ) → Plain
  ReceiveShared : (by : ℕ) → Plain
  ReceivePending : (by : ℕ) → Plain
  ReceiveUpgradable : (by : ℕ) → Plain
  -- a pending writer waits on the second key
  Flag2 : (from : Bool) → (woken : Bool) → Plain
  Enter2 : (from : Bool) → (woken : Bool) → Plain
  Check2 : (from : Bool) → (woken : Bool) → Plain
  Retreat2 : (from : Bool) → (woken : Bool) → Plain
  Rest2 : (from : Bool) → Plain
  -- and gives up there
  Expire2 : (from : Bool) → Plain
  ExpireTaken2 : (from : Bool) → (by : ℕ) → Plain
  Reenter2 : (from : Bool) → Plain
  ReenterTaken2 : (from : Bool) → (by : ℕ) → Plain
  Resume2 : (from : Bool) → (by : ℕ) → Plain
  Leave2 : (from : Bool) → Plain
  Yield : (owing : Bool) → Plain
  YieldBack : (owing : Bool) → Plain
  -- a shared hold is given up, and the pending writer is looked for
  Unshare : (n : ℕ) → Plain
  UnshareLast : (n : ℕ) → Plain
  Look2 : (n : ℕ) → Plain
  Mask2 : (n : ℕ) → (taken : List ℕ) → Plain
  Depart2 : (n : ℕ) → (taken : List ℕ) → Plain
  -- the exclusive and the upgradable hold are given up, at once or by a section
  Unlock : Plain
  UnlockUpgradable : Plain
  LookExclusive : Plain
  LookUpgradable : Plain
  -- conversions
  Downgrade : (owing : Bool) → Plain
  DowngradeToUpgradable : (owing : Bool) → Plain
  DowngradeUpgradable : (owing : Bool) → Plain
  Upgrade : Plain
  UpgradeAtOnce : Plain
  -- sections and wakes come to an end
  LookOwed : (owns : Owned) → Plain
  Depart1 : (owns : Owned) → (taken : List ℕ) → Plain
  Finish : (owns : Owned) → Plain

-- what keeps a thread out that asks for a mode
abbrev pub bars : Mode → Word → ℕ
bars Shared w = w.writer
bars Exclusive w = w.writer + w.upgradable
bars Upgradable w = w.writer + w.upgradable

-- nobody owns the lock, and no bit is set
pub record IsZero (w : Word) : Type 0 where
  pub readers : w.readers ≡ 0
  pub writer : w.writer ≡ 0
  pub upgradable : w.upgradable ≡ 0
  pub parked2 : w.parked2 ≡ 0
  pub parked1 : w.parked1 ≡ 0

-- the thread's role before the step
abbrev pub from : Plain → Role
from (Begin n m) = record { owns = Shares n; does = Idle }
from (Refuse n m) = record { owns = Shares n; does = Seeks m false }
from (Share n c) = record { owns = Shares n; does = Seeks Shared c }
from (Pend c) = record { owns = Shares 0; does = Seeks Exclusive c }
from (Drain f c) = record { owns = Shares 0; does = Drains f c }
from (Upgradably c) = record { owns = Shares 0; does = Seeks Upgradable c }
from Exclude = record { owns = Shares 0; does = Seeks Exclusive false }
from (Flag1 m c) = record { owns = Shares 0; does = Seeks m c }
from (Enter1 m c) = record { owns = Shares 0; does = Seeks m c }
from (Check1 m c) = record { owns = Shares 0; does = Enters1 m c }
from (Retreat1 m c) = record { owns = Shares 0; does = Enters1 m c }
from (Rest1 m) = record { owns = Shares 0; does = Queued1 m Fresh }
from (Expire1 m) = record { owns = Shares 0; does = Queued1 m Asleep }
from (ExpireTaken1 m by how) = record { owns = Shares 0; does = Taken1 m by how Asleep }
from (Reenter1 m) = record { owns = Shares 0; does = Queued1 m Late }
from (ReenterTaken1 m by how) = record { owns = Shares 0; does = Taken1 m by how Late }
from Mask1 = record { owns = Shares 0; does = Masks1 }
from Leave1 = record { owns = Shares 0; does = Leaves1 }
from (Resume1 m by) = record { owns = Shares 0; does = Taken1 m by Normal Back }
from (ReceiveShared by) = record { owns = Shares 0; does = Taken1 Shared by Handed Back }
from (ReceivePending by) = record { owns = Shares 0; does = Taken1 Exclusive by Handed Back }
from (ReceiveUpgradable by) = record { owns = Shares 0; does = Taken1 Upgradable by Handed Back }
from (Flag2 f c) = record { owns = Shares 0; does = Drains f c }
from (Enter2 f c) = record { owns = Shares 0; does = Drains f c }
from (Check2 f c) = record { owns = Shares 0; does = Enters2 f c }
from (Retreat2 f c) = record { owns = Shares 0; does = Enters2 f c }
from (Rest2 f) = record { owns = Shares 0; does = Queued2 f Fresh }
from (Expire2 f) = record { owns = Shares 0; does = Queued2 f Asleep }
from (ExpireTaken2 f by) = record { owns = Shares 0; does = Taken2 f by Asleep }
from (Reenter2 f) = record { owns = Shares 0; does = Queued2 f Late }
from (ReenterTaken2 f by) = record { owns = Shares 0; does = Taken2 f by Late }
from (Resume2 f by) = record { owns = Shares 0; does = Taken2 f by Back }
from (Leave2 f) = record { owns = Shares 0; does = Leaves2 f }
from (Yield owing) = record { owns = Shares 0; does = Yields false }
from (YieldBack owing) = record { owns = Shares 0; does = Yields true }
from (Unshare n) = record { owns = Shares (n + 1); does = Idle }
from (UnshareLast n) = record { owns = Shares (n + 1); does = Idle }
from (Look2 n) = record { owns = Shares n; does = Owes2 }
from (Mask2 n us) = record { owns = Shares n; does = Scans2 us }
from (Depart2 n us) = record { owns = Shares n; does = Masked2 us }
from Unlock = record { owns = Excludes; does = Idle }
from UnlockUpgradable = record { owns = Upgrades; does = Idle }
from LookExclusive = record { owns = Excludes; does = Idle }
from LookUpgradable = record { owns = Upgrades; does = Idle }
from (Downgrade owing) = record { owns = Excludes; does = Idle }
from (DowngradeToUpgradable owing) = record { owns = Excludes; does = Idle }
from (DowngradeUpgradable owing) = record { owns = Upgrades; does = Idle }
from Upgrade = record { owns = Upgrades; does = Idle }
from UpgradeAtOnce = record { owns = Upgrades; does = Idle }
from (LookOwed o) = record { owns = o; does = Owes1 }
from (Depart1 o us) = record { owns = o; does = Stored1 us }
from (Finish o) = record { owns = o; does = Wakes [] }

-- and after it
abbrev pub to : Plain → Role
to (Begin n m) = record { owns = Shares n; does = Seeks m false }
to (Refuse n m) = record { owns = Shares n; does = Idle }
to (Share n c) = record { owns = Shares (n + 1); does = Idle }
to (Pend c) = record { owns = Shares 0; does = Drains false false }
to (Drain f c) = record { owns = Excludes; does = Idle }
to (Upgradably c) = record { owns = Upgrades; does = Idle }
to Exclude = record { owns = Excludes; does = Idle }
to (Flag1 m c) = record { owns = Shares 0; does = Seeks m c }
to (Enter1 m c) = record { owns = Shares 0; does = Enters1 m c }
to (Check1 m c) = record { owns = Shares 0; does = Checked1 m }
to (Retreat1 m c) = record { owns = Shares 0; does = Seeks m c }
to (Rest1 m) = record { owns = Shares 0; does = Queued1 m Asleep }
to (Expire1 m) = record { owns = Shares 0; does = Queued1 m Late }
to (ExpireTaken1 m by how) = record { owns = Shares 0; does = Taken1 m by how Late }
to (Reenter1 m) = record { owns = Shares 0; does = Queued1 m Back }
to (ReenterTaken1 m by how) = record { owns = Shares 0; does = Taken1 m by how Back }
to Mask1 = record { owns = Shares 0; does = Leaves1 }
to Leave1 = record { owns = Shares 0; does = Idle }
to (Resume1 m by) = record { owns = Shares 0; does = Seeks m true }
to (ReceiveShared by) = record { owns = Shares 1; does = Idle }
to (ReceivePending by) = record { owns = Shares 0; does = Drains false true }
to (ReceiveUpgradable by) = record { owns = Upgrades; does = Idle }
to (Flag2 f c) = record { owns = Shares 0; does = Drains f c }
to (Enter2 f c) = record { owns = Shares 0; does = Enters2 f c }
to (Check2 f c) = record { owns = Shares 0; does = Checked2 f }
to (Retreat2 f c) = record { owns = Shares 0; does = Drains f c }
to (Rest2 f) = record { owns = Shares 0; does = Queued2 f Asleep }
to (Expire2 f) = record { owns = Shares 0; does = Queued2 f Late }
to (ExpireTaken2 f by) = record { owns = Shares 0; does = Taken2 f by Late }
to (Reenter2 f) = record { owns = Shares 0; does = Queued2 f Back }
to (ReenterTaken2 f by) = record { owns = Shares 0; does = Taken2 f by Back }
to (Resume2 f by) = record { owns = Shares 0; does = Drains f true }
to (Leave2 f) = record { owns = Shares 0; does = Yields f }
to (Yield owing) = record { owns = Shares 0; does = if owing then Owes1 else Idle }
to (YieldBack owing) = record { owns = Upgrades; does = if owing then Owes1 else Idle }
to (Unshare n) = record { owns = Shares n; does = Idle }
to (UnshareLast n) = record { owns = Shares n; does = Owes2 }
to (Look2 n) = record { owns = Shares n; does = Scans2 [] }
to (Mask2 n us) = record { owns = Shares n; does = Masked2 us }
to (Depart2 n us) = record { owns = Shares n; does = Wakes us }
to Unlock = record { owns = Shares 0; does = Idle }
to UnlockUpgradable = record { owns = Shares 0; does = Idle }
to LookExclusive = record { owns = Shares 0; does = Scans1 FromExclusive 0 false false [] }
to LookUpgradable = record { owns = Shares 0; does = Scans1 FromUpgradable 0 false false [] }
to (Downgrade owing) = record { owns = Shares 1; does = if owing then Owes1 else Idle }
to (DowngradeToUpgradable owing) = record { owns = Upgrades; does = if owing then Owes1 else Idle }
to (DowngradeUpgradable owing) = record { owns = Shares 1; does = if owing then Owes1 else Idle }
to Upgrade = record { owns = Shares 0; does = Drains true false }
to UpgradeAtOnce = record { owns = Excludes; does = Idle }
to (LookOwed o) = record { owns = o; does = Scans1 Owed 0 false false [] }
to (Depart1 o us) = record { owns = o; does = Wakes us }
to (Finish o) = record { owns = o; does = Idle }

-- when a thread in that role may make the step: at this word, and with so many of each class among all threads
abbrev pub May : Bool → Plain → Word → (Class → ℕ) → Type 0
May recursive (Begin n m) w all = (n ≡ 0) ⊎ ((recursive ≡ true) × (m ≡ Shared))
May recursive (Refuse n m) w all = Unit {0}
May recursive (Share n c) w all = (w.writer ≡ 0) ⊎ ((recursive ≡ true) × (0 < w.readers))
May recursive (Pend c) w all = (w.writer ≡ 0) × (w.upgradable ≡ 0)
May recursive (Drain f c) w all = w.readers ≡ 0
May recursive (Upgradably c) w all = (w.writer ≡ 0) × (w.upgradable ≡ 0)
May recursive Exclude w all = IsZero w
May recursive (Flag1 m c) w all = (w.parked1 ≡ 0) × (0 < bars m w)
May recursive (Enter1 m c) w all = all Inside1 ≡ 0
May recursive (Check1 m c) w all = (w.parked1 ≡ 1) × (0 < bars m w)
May recursive (Retreat1 m c) w all = Unit {0}
May recursive (Rest1 m) w all = Unit {0}
May recursive (Expire1 m) w all = Unit {0}
May recursive (ExpireTaken1 m by how) w all = Unit {0}
May recursive (Reenter1 m) w all = all Inside1 ≡ 0
May recursive (ReenterTaken1 m by how) w all = all Inside1 ≡ 0
May recursive Mask1 w all = Unit {0}
May recursive Leave1 w all = Unit {0}
May recursive (Resume1 m by) w all = Unit {0}
May recursive (ReceiveShared by) w all = Unit {0}
May recursive (ReceivePending by) w all = Unit {0}
May recursive (ReceiveUpgradable by) w all = Unit {0}
May recursive (Flag2 f c) w all = (w.parked2 ≡ 0) × (0 < w.readers)
May recursive (Enter2 f c) w all = all Inside2 ≡ 0
May recursive (Check2 f c) w all = (w.parked2 ≡ 1) × (0 < w.readers)
May recursive (Retreat2 f c) w all = Unit {0}
May recursive (Rest2 f) w all = Unit {0}
May recursive (Expire2 f) w all = Unit {0}
May recursive (ExpireTaken2 f by) w all = Unit {0}
May recursive (Reenter2 f) w all = all Inside2 ≡ 0
May recursive (ReenterTaken2 f by) w all = all Inside2 ≡ 0
May recursive (Resume2 f by) w all = Unit {0}
May recursive (Leave2 f) w all = Unit {0}
May recursive (Yield owing) w all = w.parked1 ≡ bit owing
May recursive (YieldBack owing) w all = w.parked1 ≡ bit owing
May recursive (Unshare n) w all = (w.readers ≢ 1) ⊎ (w.parked2 ≡ 0)
May recursive (UnshareLast n) w all = (w.readers ≡ 1) × (w.parked2 ≡ 1)
May recursive (Look2 n) w all = all Inside2 ≡ 0
May recursive (Mask2 n us) w all = all Waiting2 ≡ 0
May recursive (Depart2 n us) w all = Unit {0}
May recursive Unlock w all = IsZero (record w { writer = 0 })
May recursive UnlockUpgradable w all = w.parked1 ≡ 0
May recursive LookExclusive w all = all Inside1 ≡ 0
May recursive LookUpgradable w all = all Inside1 ≡ 0
May recursive (Downgrade owing) w all = w.parked1 ≡ bit owing
May recursive (DowngradeToUpgradable owing) w all = w.parked1 ≡ bit owing
May recursive (DowngradeUpgradable owing) w all = w.parked1 ≡ bit owing
May recursive Upgrade w all = Unit {0}
May recursive UpgradeAtOnce w all = w.readers ≡ 1
May recursive (LookOwed o) w all = all Inside1 ≡ 0
May recursive (Depart1 o us) w all = Unit {0}
May recursive (Finish o) w all = Unit {0}

-- the word after the step
abbrev pub written : Plain → Word → Word
written (Begin n m) w = w
written (Refuse n m) w = w
written (Share n c) w = record w { readers = w.readers + 1 }
written (Pend c) w = record w { writer = 1 }
written (Drain f c) w = w
written (Upgradably c) w = record w { readers = w.readers + 1; upgradable = 1 }
written Exclude w = record w { writer = 1 }
written (Flag1 m c) w = record w { parked1 = 1 }
written (Enter1 m c) w = w
written (Check1 m c) w = w
written (Retreat1 m c) w = w
written (Rest1 m) w = w
written (Expire1 m) w = w
written (ExpireTaken1 m by how) w = w
written (Reenter1 m) w = w
written (ReenterTaken1 m by how) w = w
written Mask1 w = record w { parked1 = 0 }
written Leave1 w = w
written (Resume1 m by) w = w
written (ReceiveShared by) w = w
written (ReceivePending by) w = w
written (ReceiveUpgradable by) w = w
written (Flag2 f c) w = record w { parked2 = 1 }
written (Enter2 f c) w = w
written (Check2 f c) w = w
written (Retreat2 f c) w = w
written (Rest2 f) w = w
written (Expire2 f) w = w
written (ExpireTaken2 f by) w = w
written (Reenter2 f) w = w
written (ReenterTaken2 f by) w = w
written (Resume2 f by) w = w
written (Leave2 f) w = w
written (Yield owing) w = record w { writer = 0; parked2 = 0 }
written (YieldBack owing) w = record w { readers = w.readers + 1; writer = 0; upgradable = 1; parked2 = 0 }
written (Unshare n) w = record w { readers = w.readers - 1 }
written (UnshareLast n) w = record w { readers = 0 }
written (Look2 n) w = w
written (Mask2 n us) w = record w { parked2 = 0 }
written (Depart2 n us) w = w
written Unlock w = record w { writer = 0 }
written UnlockUpgradable w = record w { readers = w.readers - 1; upgradable = 0 }
written LookExclusive w = w
written LookUpgradable w = w
written (Downgrade owing) w = record w { readers = w.readers + 1; writer = 0 }
written (DowngradeToUpgradable owing) w = record w { readers = w.readers + 1; writer = 0; upgradable = 1 }
written (DowngradeUpgradable owing) w = record w { upgradable = 0 }
written Upgrade w = record w { readers = w.readers - 1; writer = 1; upgradable = 0 }
written UpgradeAtOnce w = record w { readers = 0; writer = 1; upgradable = 0 }
written (LookOwed o) w = w
written (Depart1 o us) w = w
written (Finish o) w = w
