-- Classes of roles, and how much a role counts in each.
use Rattle.std.specs.Prelude.{ℕ, zero, suc, ◌+◌, Bool, true, false, List, Option}
use Rattle.std.specs.List.{sum_by}
use Rattle.parking_lot_rules.specs.Lists.{at_index}
use Rattle.parking_lot_rules.specs.Roles.{Mode, Shared, Exclusive, Upgradable, Owned, Shares, Excludes, Upgrades, Stay}
use Rattle.parking_lot_rules.specs.Roles.{Fresh, Asleep, Late, Back, Mark, Open, Normal, Handed, Cause, FromExclusive}
use Rattle.parking_lot_rules.specs.Roles.{FromUpgradable, Owed, Phase, Seeks, Enters1, Checked1, Queued1, Taken1}
use Rattle.parking_lot_rules.specs.Roles.{Masks1, Leaves1, Drains, Enters2, Checked2, Queued2, Taken2, Leaves2, Yields}
use Rattle.parking_lot_rules.specs.Roles.{Owes1, Scans1, Stored1, Owes2, Scans2, Masked2, Role}

pub data Class : Type 0 where
  -- the owners: shared holds, the upgradable one, the pending one, the exclusive one
  Readers : Class
  Upgraders : Class
  Pending : Class
  Writers : Class
  -- inside a section of the first key, and of the second
  Inside1 : Class
  Inside2 : Class
  -- in the first list, and in the second
  Waiting1 : Class
  Waiting2 : Class
  -- between the check and the list
  Joining1 : Class
  Joining2 : Class
  -- about to clear the parked bit
  Masking : Class
  -- to look through the first list, or for the pending writer
  Owing1 : Class
  Owing2 : Class
  -- woken for more than a shared hold, and still to try
  Called : Class
  -- taken, by one that hasn't stored yet
  OpenReaders : Class
  OpenUpgraders : Class
  OpenWriters : Class
  -- as the taker counts them
  TakenReaders : Class
  TakenUpgraders : Class
  TakenWriters : Class
  -- waiting although it owns something
  Strange : Class

-- 1 for true, 0 for false
abbrev pub bit : Bool → ℕ
bit true = 1
bit false = 0

-- 1 inside a section
abbrev pub inside : Stay → ℕ
inside Fresh = 1
inside Asleep = 0
inside Late = 0
inside Back = 1

-- 1 for a thread that was woken and wants more than a shared hold
abbrev pub called : Bool → Mode → ℕ
called false mode = 0
called true Shared = 0
called true Exclusive = 1
called true Upgradable = 1

abbrev pub is_shared : Mode → ℕ
is_shared Shared = 1
is_shared Exclusive = 0
is_shared Upgradable = 0

abbrev pub is_exclusive : Mode → ℕ
is_exclusive Shared = 0
is_exclusive Exclusive = 1
is_exclusive Upgradable = 0

abbrev pub is_upgradable : Mode → ℕ
is_upgradable Shared = 0
is_upgradable Exclusive = 0
is_upgradable Upgradable = 1

-- how much a number counts at a mark
abbrev pub if_open : Mark → ℕ → ℕ
if_open Open n = n
if_open Normal n = 0
if_open Handed n = 0

abbrev pub if_normal : Mark → ℕ → ℕ
if_normal Open n = 0
if_normal Normal n = n
if_normal Handed n = 0

abbrev pub if_handed : Mark → ℕ → ℕ
if_handed Open n = 0
if_handed Normal n = 0
if_handed Handed n = n

abbrev pub if_owed : Cause → ℕ
if_owed FromExclusive = 0
if_owed FromUpgradable = 0
if_owed Owed = 1

abbrev pub if_exclusive : Cause → ℕ
if_exclusive FromExclusive = 1
if_exclusive FromUpgradable = 0
if_exclusive Owed = 0

abbrev pub if_upgradable : Cause → ℕ
if_upgradable FromExclusive = 0
if_upgradable FromUpgradable = 1
if_upgradable Owed = 0

-- what a thread owns for good
abbrev pub owned : Class → Owned → ℕ
owned Readers (Shares n) = n
owned Writers Excludes = 1
owned Upgraders Upgrades = 1
owned c o = 0

-- what it is doing
abbrev pub done : Class → Phase → ℕ
done Readers (Taken1 m by how s) = if_handed how (is_shared m)
done Upgraders (Taken1 m by how s) = if_handed how (is_upgradable m)
done Upgraders (Scans1 c r u w us) = if_upgradable c
done Writers (Scans1 c r u w us) = if_exclusive c
done Pending (Taken1 m by how s) = if_handed how (is_exclusive m)
done Pending (Drains f c) = 1
done Pending (Enters2 f c) = 1
done Pending (Checked2 f) = 1
done Pending (Queued2 f s) = 1
done Pending (Taken2 f by s) = 1
done Pending (Leaves2 f) = 1
done Pending (Yields f) = 1
done Inside1 (Enters1 m c) = 1
done Inside1 (Checked1 m) = 1
done Inside1 (Queued1 m s) = inside s
done Inside1 (Taken1 m by how s) = inside s
done Inside1 Masks1 = 1
done Inside1 Leaves1 = 1
done Inside1 (Scans1 c r u w us) = 1
done Inside1 (Stored1 us) = 1
done Inside2 (Enters2 f c) = 1
done Inside2 (Checked2 f) = 1
done Inside2 (Queued2 f s) = inside s
done Inside2 (Taken2 f by s) = inside s
done Inside2 (Leaves2 f) = 1
done Inside2 (Scans2 us) = 1
done Inside2 (Masked2 us) = 1
done Waiting1 (Queued1 m s) = 1
done Waiting2 (Queued2 f s) = 1
done Joining1 (Checked1 m) = 1
done Joining2 (Checked2 f) = 1
done Masking Masks1 = 1
done Owing1 Owes1 = 1
done Owing1 (Scans1 c r u w us) = if_owed c
done Owing2 Owes2 = 1
done Owing2 (Scans2 us) = 1
done Called (Seeks m c) = called c m
done Called (Enters1 m c) = called c m
done Called (Taken1 m by how s) = if_normal how (called true m)
done OpenReaders (Taken1 m by how s) = if_open how (is_shared m)
done OpenUpgraders (Taken1 m by how s) = if_open how (is_upgradable m)
done OpenWriters (Taken1 m by how s) = if_open how (is_exclusive m)
done TakenReaders (Scans1 c r u w us) = r
done TakenUpgraders (Scans1 c r u w us) = bit u
done TakenWriters (Scans1 c r u w us) = bit w
done c p = 0

-- 1 for an owner
abbrev pub is_owner : Owned → ℕ
is_owner (Shares zero) = 0
is_owner (Shares (suc n)) = 1
is_owner Excludes = 1
is_owner Upgrades = 1

abbrev pub unless_owed : Cause → ℕ → ℕ
unless_owed FromExclusive n = n
unless_owed FromUpgradable n = n
unless_owed Owed n = 0

-- what an owner counts that waits, or gives up
abbrev pub strange : Owned → Phase → ℕ
strange o (Enters1 m c) = is_owner o
strange o (Checked1 m) = is_owner o
strange o (Queued1 m s) = is_owner o
strange o (Taken1 m by how s) = is_owner o
strange o Masks1 = is_owner o
strange o Leaves1 = is_owner o
strange o (Drains f c) = is_owner o
strange o (Enters2 f c) = is_owner o
strange o (Checked2 f) = is_owner o
strange o (Queued2 f s) = is_owner o
strange o (Taken2 f by s) = is_owner o
strange o (Leaves2 f) = is_owner o
strange o (Yields f) = is_owner o
strange o (Scans1 c r u w us) = unless_owed c (is_owner o)
strange o p = 0

-- how much a role counts in a class
unfoldable pub weight : Class → Role → ℕ
weight Strange r = strange r.owns r.does
weight c r = owned c r.owns + done c r.does

-- how much all roles together do
abbrev pub total : Class → List Role → ℕ
total c rs = sum_by (weight c) rs

-- how much the role at an index does
abbrev pub weighs : Class → Option Role → ℕ
weighs c r = at_index (weight c) r
