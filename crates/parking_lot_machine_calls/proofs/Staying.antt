-- How one owns a lock whose moment has passed, however far it has come.
use Rattle.std.proofs.Common.{◌≡◌, refl}
use Rattle.parking_lot_rules.specs.Owners.{owner_of}
use Rattle.parking_lot_rules.specs.Roles.{Handed, Normal, Open, Owned, Phase, Queued1, Queued2, Role, Stay, Taken1}
use Rattle.parking_lot_rules.specs.Roles.{Taken2}
use Rattle.parking_lot_machine_calls.specs.CallViews.{mode_of, rw_mode}
use Rattle.parking_lot_machine_calls.specs.LateRoles.{staying, stays}

-- it owns what it did, however far it has come
pub mode_stays : (stay : Stay) (r : Role) → rw_mode (stays stay r) ≡ rw_mode r
mode_stays stay r = go r.owns r.does
  where
    go : (o : Owned) (p : Phase) → mode_of (owner_of o (staying stay p)) ≡ mode_of (owner_of o p)
    go o (Queued1 mode old) = refl
    go o (Taken1 mode by Handed old) = refl
    go o (Taken1 mode by Open old) = refl
    go o (Taken1 mode by Normal old) = refl
    go o (Queued2 was old) = refl
    go o (Taken2 was by old) = refl
    go o p = refl
