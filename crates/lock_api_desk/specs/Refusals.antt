-- When a call is refused, want of memory aside, and what a call answers and leaves.
use Rattle.std.specs.Prelude.{◌≡◌, ℕ, Bool, ◌≤◌, ◌<◌, ◌==◌, if◌then◌else◌, Option, Some, None, Result, Ok, Err}
use Rattle.std.specs.Prelude.{MatchOption, MatchResult, length}
use Rattle.std.specs.Option.{option_or}
use Rattle.lock_api_desk.specs.declared.mode.Mode.{Mode}
use Rattle.lock_api_desk.specs.declared.mode.Mode.TheVariants.{Upgradable}
use Rattle.lock_api_desk.specs.declared.fault.DeskFault.{DeskFault}
use Rattle.lock_api_desk.specs.declared.fault.DeskFault.TheVariants.{WouldWait, NoSuchGuard, WrongMode, NotTheParty}
use Rattle.lock_api_desk.specs.declared.fault.DeskFault.TheVariants.{ReadersFull, GuardInUse, NoMemory}
use Rattle.lock_api_desk.specs.Guards.{Guard, guard_of, is_in_use, excluded, is_full, is_held_beside, holds}
use Rattle.lock_api_desk.specs.Desk.{DeskState, with_room, admitted}

-- the mode isn't admitted: a held guard excludes it, or the limit of readers is reached
abbrev pub admission_refusal : {T : Type 0} → DeskFault → Mode → DeskState T → Option DeskFault
admission_refusal denied mode desk =
    if excluded mode desk.guards then Some denied
    else (if is_full desk.limit mode desk.guards then Some ReadersFull else None)

-- an acquisition: its number is in use, or the mode isn't admitted
abbrev pub acquire_refusal : {T : Type 0} → DeskFault → Mode → ℕ → DeskState T → Option DeskFault
acquire_refusal denied mode number desk =
    if is_in_use number desk.guards then Some GuardInUse else admission_refusal denied mode desk

-- a call on a guard: there is none, it is another party's, or it doesn't suit the call
abbrev pub refusal_at : (Guard → Bool) → ℕ → Option Guard → Option DeskFault
refusal_at suits party None = Some NoSuchGuard
refusal_at suits party (Some guard) =
    if guard.party == party then (if suits guard then None else Some WrongMode) else Some NotTheParty

abbrev pub guard_refusal : {T : Type 0} → (Guard → Bool) → ℕ → ℕ → DeskState T → Option DeskFault
guard_refusal suits party number desk = refusal_at suits party (guard_of number desk.guards)

-- an upgrade: as a call on an upgradable guard, and then another guard is held
abbrev pub upgrade_refusal : {T : Type 0} → DeskFault → ℕ → ℕ → DeskState T → Option DeskFault
upgrade_refusal denied party number desk =
    option_or (guard_refusal (holds Upgradable) party number desk)
    (if is_held_beside number desk.guards then Some denied else None)

-- taking up: as a call on a guard that is set aside, and then its mode isn't admitted
abbrev pub admission_at : {T : Type 0} → DeskState T → Option Guard → Option DeskFault
admission_at desk None = None
admission_at desk (Some guard) = admission_refusal WouldWait guard.mode desk

abbrev pub take_up_refusal : {T : Type 0} → ℕ → ℕ → DeskState T → Option DeskFault
take_up_refusal party number desk =
    option_or (guard_refusal (λ guard. guard.is_aside) party number desk)
    (admission_at desk (guard_of number desk.guards))

-- the refusal, or else that answer
abbrev pub ok_unless : {U : Type 0} → Option DeskFault → U → Result U DeskFault
ok_unless None answer = Ok answer
ok_unless (Some fault) answer = Err fault

-- what was before a refused call, and else what comes after it
abbrev pub unless : {S : Type 0} → Option DeskFault → S → S → S
unless None before after = after
unless (Some fault) before after = before

-- an acquisition: refused as it must be, and then nothing changed. Else the guard is there, or it found no memory
-- where there was no room, and then nothing changed either
abbrev pub Acquires : {T : Type 0} → DeskFault → Mode → ℕ → ℕ → DeskState T → DeskState T → Result (Unit {0}) DeskFault
    → Type 0
Acquires denied mode party number old new result =
    MatchOption (acquire_refusal denied mode number old)
    (MatchResult result
    (λ _. new ≡ with_room new.room (admitted mode party number old))
    (λ fault. (fault ≡ NoMemory) × (new ≡ old) × (old.room ≤ length old.guards)))
    (λ fault. (result ≡ Err fault) × (new ≡ old))

-- room only grows, and what is there is used first
pub record KeepsRoom {T : Type 0} (old new : DeskState T) : Type 0 where
  pub grows : old.room ≤ new.room
  pub used : length old.guards < old.room → new.room ≡ old.room
