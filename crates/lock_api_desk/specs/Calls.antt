-- The table of calls: when each is refused, and what it makes of a desk.
use Rattle.std.specs.Prelude.{◌≡◌, ◌≤◌, Bool, true, false, Option, Some, None, List, [], ◌∷◌, take, length, slice_get}
use Rattle.std.specs.Prelude.{MatchOption, MatchBool}
use Rattle.lock_api_desk.specs.declared.mode.Mode.TheVariants.{Shared, Exclusive, Upgradable}
use Rattle.lock_api_desk.specs.declared.fault.DeskFault.{DeskFault}
use Rattle.lock_api_desk.specs.declared.fault.DeskFault.TheVariants.{WouldWait, Taken, NoMemory}
use Rattle.lock_api_desk.specs.declared.fault.DeskRunFault.{DeskRunFault}
use Rattle.lock_api_desk.specs.declared.call.DeskCall.{DeskCall}
use Rattle.lock_api_desk.specs.declared.call.DeskCall.TheVariants.{Lock, TryLock, Read, TryRead, Write, TryWrite}
use Rattle.lock_api_desk.specs.declared.call.DeskCall.TheVariants.{UpgradableRead, TryUpgradableRead, Unlock}
use Rattle.lock_api_desk.specs.declared.call.DeskCall.TheVariants.{UnlockFair, Bump, Downgrade, DowngradeToUpgradable}
use Rattle.lock_api_desk.specs.declared.call.DeskCall.TheVariants.{DowngradeUpgradable, Upgrade, TryUpgrade, SetAside}
use Rattle.lock_api_desk.specs.declared.call.DeskCall.TheVariants.{TakeUp, ReadValue, WithUpgraded, TryWithUpgraded}
use Rattle.lock_api_desk.specs.declared.call.DeskCall.TheVariants.{WriteValue}
use Rattle.lock_api_desk.specs.Guards.{is_held, holds}
use Rattle.lock_api_desk.specs.Desk.{DeskState, admitted, released, turned, set_apart, with_value, with_room}
use Rattle.lock_api_desk.specs.Refusals.{acquire_refusal, guard_refusal, upgrade_refusal, take_up_refusal, KeepsRoom}

module _ {T : Type 0} where
  -- why a call is refused, want of memory aside
  abbrev pub refusal_of : DeskCall T → DeskState T → Option DeskFault
  refusal_of (Lock party guard) desk = acquire_refusal WouldWait Exclusive guard desk
  refusal_of (TryLock party guard) desk = acquire_refusal Taken Exclusive guard desk
  refusal_of (Read party guard) desk = acquire_refusal WouldWait Shared guard desk
  refusal_of (TryRead party guard) desk = acquire_refusal Taken Shared guard desk
  refusal_of (Write party guard) desk = acquire_refusal WouldWait Exclusive guard desk
  refusal_of (TryWrite party guard) desk = acquire_refusal Taken Exclusive guard desk
  refusal_of (UpgradableRead party guard) desk = acquire_refusal WouldWait Upgradable guard desk
  refusal_of (TryUpgradableRead party guard) desk = acquire_refusal Taken Upgradable guard desk
  refusal_of (Unlock party guard) desk = guard_refusal is_held party guard desk
  refusal_of (UnlockFair party guard) desk = guard_refusal is_held party guard desk
  refusal_of (Bump party guard) desk = guard_refusal is_held party guard desk
  refusal_of (Downgrade party guard) desk = guard_refusal (holds Exclusive) party guard desk
  refusal_of (DowngradeToUpgradable party guard) desk = guard_refusal (holds Exclusive) party guard desk
  refusal_of (DowngradeUpgradable party guard) desk = guard_refusal (holds Upgradable) party guard desk
  refusal_of (Upgrade party guard) desk = upgrade_refusal WouldWait party guard desk
  refusal_of (TryUpgrade party guard) desk = upgrade_refusal Taken party guard desk
  refusal_of (SetAside party guard) desk = guard_refusal is_held party guard desk
  refusal_of (TakeUp party guard) desk = take_up_refusal party guard desk
  refusal_of (ReadValue party guard) desk = guard_refusal is_held party guard desk
  refusal_of (WithUpgraded party guard value) desk = upgrade_refusal WouldWait party guard desk
  refusal_of (TryWithUpgraded party guard value) desk = upgrade_refusal Taken party guard desk
  refusal_of (WriteValue party guard value) desk = guard_refusal (holds Exclusive) party guard desk

  -- what a call that isn't refused makes of a desk, room aside
  abbrev pub after : DeskCall T → DeskState T → DeskState T
  after (Lock party guard) desk = admitted Exclusive party guard desk
  after (TryLock party guard) desk = admitted Exclusive party guard desk
  after (Read party guard) desk = admitted Shared party guard desk
  after (TryRead party guard) desk = admitted Shared party guard desk
  after (Write party guard) desk = admitted Exclusive party guard desk
  after (TryWrite party guard) desk = admitted Exclusive party guard desk
  after (UpgradableRead party guard) desk = admitted Upgradable party guard desk
  after (TryUpgradableRead party guard) desk = admitted Upgradable party guard desk
  after (Unlock party guard) desk = released guard desk
  after (UnlockFair party guard) desk = released guard desk
  after (Bump party guard) desk = desk
  after (Downgrade party guard) desk = turned Shared guard desk
  after (DowngradeToUpgradable party guard) desk = turned Upgradable guard desk
  after (DowngradeUpgradable party guard) desk = turned Shared guard desk
  after (Upgrade party guard) desk = turned Exclusive guard desk
  after (TryUpgrade party guard) desk = turned Exclusive guard desk
  after (SetAside party guard) desk = set_apart true guard desk
  after (TakeUp party guard) desk = set_apart false guard desk
  after (ReadValue party guard) desk = desk
  after (WithUpgraded party guard value) desk = with_value value desk
  after (TryWithUpgraded party guard value) desk = with_value value desk
  after (WriteValue party guard value) desk = with_value value desk

  -- the call takes room for one more guard
  abbrev pub is_acquisition : DeskCall T → Bool
  is_acquisition (Lock party guard) = true
  is_acquisition (TryLock party guard) = true
  is_acquisition (Read party guard) = true
  is_acquisition (TryRead party guard) = true
  is_acquisition (Write party guard) = true
  is_acquisition (TryWrite party guard) = true
  is_acquisition (UpgradableRead party guard) = true
  is_acquisition (TryUpgradableRead party guard) = true
  is_acquisition call = false

-- a call that isn't refused made a desk into what comes after it, room aside. Room only grows where the call takes a
-- guard in, and what is there is used first
pub record Made {T : Type 0} (refusal : Option DeskFault) (takes_room : Bool) (old after new : DeskState T) : Type 0
  where
    pub granted : refusal ≡ None
    pub state : new ≡ with_room new.room after
    pub room : MatchBool takes_room (KeepsRoom old new) (new.room ≡ old.room)

-- a call is refused as it must be, or it takes a guard in, isn't refused otherwise, and finds no memory where there is
-- no room
abbrev pub Refused : {T : Type 0} → Option DeskFault → Bool → DeskState T → DeskFault → Type 0
Refused refusal takes_room desk fault =
    MatchOption refusal
    ((fault ≡ NoMemory) × (takes_room ≡ true) × (desk.room ≤ length desk.guards))
    (λ why. fault ≡ why)

module _ {T : Type 0} where
  abbrev pub Makes : DeskCall T → DeskState T → DeskState T → Type 0
  Makes call old new = Made (refusal_of call old) (is_acquisition call) old (after call old) new

  abbrev pub Refuses : DeskCall T → DeskState T → DeskFault → Type 0
  Refuses call desk fault = Refused (refusal_of call desk) (is_acquisition call) desk fault

  -- the calls in turn, none of them refused, made one desk into the other
  abbrev pub Runs : List (DeskCall T) → DeskState T → DeskState T → Type 0
  Runs [] old new = new ≡ old
  Runs (call ∷ calls) old new = (mid : DeskState T) × Makes call old mid × Runs calls mid new

-- the calls before that place ran, and the call there is refused by the desk that they left
pub record IsStopped {T : Type 0} (calls : List (DeskCall T)) (old new : DeskState T) (stop : DeskRunFault) : Type 0
  where
    pub ran : Runs (take stop.place calls) old new
    pub call : DeskCall T
    pub at : slice_get calls stop.place ≡ Some call
    pub refused : Refuses call new stop.fault
