-- Steps that change nothing but the word and one role keep the clauses.
use Rattle.std.proofs.Common.{ℕ, ◌+◌, Bool, true, false, arith}
use Rattle.parking_lot_rules.specs.Classes.{Class, weight}
use Rattle.parking_lot_rules.specs.Clauses.{Word, Fits, Counts}
use Rattle.parking_lot_rules.specs.Roles.{Shared, Exclusive, Upgradable}
use Rattle.parking_lot_rules.specs.Plain.{Plain, Begin, Refuse, Share, Pend, Drain, Upgradably, Exclude, Flag1, Enter1}
use Rattle.parking_lot_rules.specs.Plain.{Check1, Retreat1, Rest1, Expire1, ExpireTaken1, Reenter1, ReenterTaken1}
use Rattle.parking_lot_rules.specs.Plain.{Mask1, Leave1, Resume1, ReceiveShared, ReceivePending, ReceiveUpgradable}
use Rattle.parking_lot_rules.specs.Plain.{Flag2, Enter2, Check2, Retreat2, Rest2, Expire2, ExpireTaken2, Reenter2}
use Rattle.parking_lot_rules.specs.Plain.{ReenterTaken2, Resume2, Leave2, Yield, YieldBack, Unshare, UnshareLast, Look2}
use Rattle.parking_lot_rules.specs.Plain.{Mask2, Depart2, Unlock, UnlockUpgradable, LookExclusive, LookUpgradable}
use Rattle.parking_lot_rules.specs.Plain.{Downgrade, DowngradeToUpgradable, DowngradeUpgradable, Upgrade, UpgradeAtOnce}
use Rattle.parking_lot_rules.specs.Plain.{LookOwed, Depart1, Finish, from, to, May, written}

pub plain_fits : (recursive : Bool) (k : Plain) (w : Word) (rest : Class → ℕ) → Counts rest
    → Fits w (λ x. rest x + weight x (from k)) → May recursive k w (λ x. rest x + weight x (from k))
    → Fits (written k w) (λ x. rest x + weight x (to k))
unfolding weight
plain_fits recursive (Begin n m) w rest counts fits may = omega arith
plain_fits recursive (Refuse n m) w rest counts fits may = omega arith
plain_fits recursive (Share n true) w rest counts fits may = omega arith
plain_fits recursive (Share n false) w rest counts fits may = omega arith
plain_fits recursive (Pend c) w rest counts fits may = omega arith
plain_fits recursive (Drain f c) w rest counts fits may = omega arith
plain_fits recursive (Upgradably c) w rest counts fits may = omega arith
plain_fits recursive Exclude w rest counts fits may = omega arith
plain_fits recursive (Flag1 Shared c) w rest counts fits may = omega arith
plain_fits recursive (Flag1 Exclusive c) w rest counts fits may = omega arith
plain_fits recursive (Flag1 Upgradable c) w rest counts fits may = omega arith
plain_fits recursive (Enter1 m c) w rest counts fits may = omega arith
plain_fits recursive (Check1 Shared c) w rest counts fits may = omega arith
plain_fits recursive (Check1 Exclusive c) w rest counts fits may = omega arith
plain_fits recursive (Check1 Upgradable c) w rest counts fits may = omega arith
plain_fits recursive (Retreat1 m c) w rest counts fits may = omega arith
plain_fits recursive (Rest1 m) w rest counts fits may = omega arith
plain_fits recursive (Expire1 m) w rest counts fits may = omega arith
plain_fits recursive (ExpireTaken1 m by how) w rest counts fits may = omega arith
plain_fits recursive (Reenter1 m) w rest counts fits may = omega arith
plain_fits recursive (ReenterTaken1 m by how) w rest counts fits may = omega arith
plain_fits recursive Mask1 w rest counts fits may = omega arith
plain_fits recursive Leave1 w rest counts fits may = omega arith
plain_fits recursive (Resume1 m by) w rest counts fits may = omega arith
plain_fits recursive (ReceiveShared by) w rest counts fits may = omega arith
plain_fits recursive (ReceivePending by) w rest counts fits may = omega arith
plain_fits recursive (ReceiveUpgradable by) w rest counts fits may = omega arith
plain_fits recursive (Flag2 f c) w rest counts fits may = omega arith
plain_fits recursive (Enter2 f c) w rest counts fits may = omega arith
plain_fits recursive (Check2 f c) w rest counts fits may = omega arith
plain_fits recursive (Retreat2 f c) w rest counts fits may = omega arith
plain_fits recursive (Rest2 f) w rest counts fits may = omega arith
plain_fits recursive (Expire2 f) w rest counts fits may = omega arith
plain_fits recursive (ExpireTaken2 f by) w rest counts fits may = omega arith
plain_fits recursive (Reenter2 f) w rest counts fits may = omega arith
plain_fits recursive (ReenterTaken2 f by) w rest counts fits may = omega arith
plain_fits recursive (Resume2 f by) w rest counts fits may = omega arith
plain_fits recursive (Leave2 f) w rest counts fits may = omega arith
plain_fits recursive (Yield true) w rest counts fits may = omega arith
plain_fits recursive (Yield false) w rest counts fits may = omega arith
plain_fits recursive (YieldBack true) w rest counts fits may = omega arith
plain_fits recursive (YieldBack false) w rest counts fits may = omega arith
plain_fits recursive (Unshare n) w rest counts fits may = omega arith
plain_fits recursive (UnshareLast n) w rest counts fits may = omega arith
plain_fits recursive (Look2 n) w rest counts fits may = omega arith
plain_fits recursive (Mask2 n us) w rest counts fits may = omega arith
plain_fits recursive (Depart2 n us) w rest counts fits may = omega arith
plain_fits recursive Unlock w rest counts fits may = omega arith
plain_fits recursive UnlockUpgradable w rest counts fits may = omega arith
plain_fits recursive LookExclusive w rest counts fits may = omega arith
plain_fits recursive LookUpgradable w rest counts fits may = omega arith
plain_fits recursive (Downgrade true) w rest counts fits may = omega arith
plain_fits recursive (Downgrade false) w rest counts fits may = omega arith
plain_fits recursive (DowngradeToUpgradable true) w rest counts fits may = omega arith
plain_fits recursive (DowngradeToUpgradable false) w rest counts fits may = omega arith
plain_fits recursive (DowngradeUpgradable true) w rest counts fits may = omega arith
plain_fits recursive (DowngradeUpgradable false) w rest counts fits may = omega arith
plain_fits recursive Upgrade w rest counts fits may = omega arith
plain_fits recursive UpgradeAtOnce w rest counts fits may = omega arith
plain_fits recursive (LookOwed o) w rest counts fits may = omega arith
plain_fits recursive (Depart1 o us) w rest counts fits may = omega arith
plain_fits recursive (Finish o) w rest counts fits may = omega arith
