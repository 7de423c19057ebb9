-- What a refused wait on a condition variable says and leaves.
use Rattle.std.specs.Prelude.{◌≡◌, Bool, true, false, Result, Ok, Err}
use Rattle.lock_api_raw.specs.declared.fault.WaitFault.{WaitFault}
use Rattle.lock_api_raw.specs.declared.fault.WaitFault.TheVariants.{WrongMutex, WrongLot}

-- a mutex of another lot is refused, WrongLot says no less, and a refusal hands the same token back
abbrev pub IsRefusedRightly : {G A : Type 0} → Bool → G → G → Result A WaitFault → Type 0
IsRefusedRightly same_lot before after (Ok answer) = same_lot ≡ true
IsRefusedRightly same_lot before after (Err WrongMutex) = after ≡ before
IsRefusedRightly same_lot before after (Err WrongLot) = (same_lot ≡ false) × (after ≡ before)
