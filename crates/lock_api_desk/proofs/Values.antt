-- A guard made upgradable again after the value changed.
use Rattle.std.proofs.Common.{◌≡◌, ℕ, ap, ◌∙◌}
use Rattle.lock_api_desk.specs.declared.mode.Mode.TheVariants.{Exclusive, Upgradable}
use Rattle.lock_api_desk.specs.Desk.{DeskState, turned, with_guards, with_value}
use Rattle.lock_api_desk.specs.Places.{IsLifted}

-- the guards are as before, and the value is the new one
pub lowered : {T : Type 0} (n place : ℕ) (value : T) (old mid : DeskState T) → mid ≡ turned Exclusive n old
    → IsLifted n old.guards mid.guards place → turned Upgradable n (with_value value mid) ≡ with_value value old
lowered n place value old mid is lift =
    ap (λ gs. with_value value (with_guards gs mid)) lift.back
    ∙ ap (λ s. with_value value (with_guards old.guards s)) is
