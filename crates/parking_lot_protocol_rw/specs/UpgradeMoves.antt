-- Which step of the rules each answer to such a core is.
use Rattle.std.specs.Prelude.{◌≡◌, ℕ, ◌==◌, ◌&&◌, ◌||◌, Bool, true, false, if◌then◌else◌, List, [], ◌∷◌, ◌++◌, Some}
use Rattle.parking_lot_rules.specs.Roles.{Mode, Asleep, Owned, Shares, Role}
use Rattle.parking_lot_rules.specs.Roles as rules
use Rattle.parking_lot_rules.specs.Clauses.{Word, number}
use Rattle.parking_lot_rules.specs.Plain.{Plain}
use Rattle.parking_lot_rules.specs.Plain as plain
use Rattle.parking_lot_rules.specs.Classes.{bit}
use Rattle.parking_lot_rules.specs.Steps.{Join1, Join2, listing_from, listing_to, Scan, scanning, taking, Ending}
use Rattle.parking_lot_rules.specs.Steps.{FreeUpgradable, HandUpgradable, Keep, ends_for, MayEnd, stored, Retry}
use Rattle.parking_lot_rules.specs.Steps.{OwnUpgradable, Recheck, waking_from, waking_to}
use Rattle.parking_lot_protocol.specs.Positions.{QueuePosition, Listed, Off}
use Rattle.parking_lot_protocol.specs.RwRules as rw
use Rattle.parking_lot_protocol.specs.RwRules.{Move, Stays, Makes, Joins, TakesOne, TakesWriter, Tells, WakesOne}
use Rattle.parking_lot_protocol.specs.RwRules.{IsWoken, IsPlain, mark_for, mode_by}
use Rattle.parking_lot_protocol.specs.RwTable.{has_readers, hands, is_barred, is_parked, is_writer_parked}
use Rattle.parking_lot_protocol.specs.declared.act.ActResult.{ActResult}
use Rattle.parking_lot_protocol.specs.declared.act.ActResult.TheVariants as seen
use Rattle.parking_lot_protocol.specs.declared.rw_phase.RwPhase.{RwPhase}
use Rattle.parking_lot_protocol.specs.declared.rw_phase.RwPhase.TheVariants as at
use Rattle.parking_lot_protocol_rw.specs.UpgradeRoles.{owned, owns, role}
use Rattle.parking_lot_protocol_rw.specs.declared.upgrade_phase.UpgradePhase.{UpgradePhase}
use Rattle.parking_lot_protocol_rw.specs.declared.upgrade_phase.UpgradePhase.TheVariants as phase
use Rattle.parking_lot_protocol_rw.specs.declared.upgrade_phase.UpgradePhase.TheVariants.{Locking, Trying, Seeks}
use Rattle.parking_lot_protocol_rw.specs.declared.upgrade_phase.UpgradePhase.TheVariants.{TryAdmits, Refuses, Drains}
use Rattle.parking_lot_protocol_rw.specs.declared.upgrade_phase.UpgradePhase.TheVariants.{TryUpgrades, Relocks, Unlocks}
use Rattle.parking_lot_protocol_rw.specs.declared.upgrade_phase.UpgradePhase.TheVariants.{Frees, ToShared, ToUpgradable}
use Rattle.parking_lot_protocol_rw.specs.declared.upgrade_phase.UpgradePhase.TheVariants.{Yields, Owes}

-- THE TABLE: WHICH STEP IT IS, BY PHASE AND ANSWER

-- of one that asks for the upgradable hold as for an exclusive one
abbrev pub seeks_move : RwPhase → ActResult → Move
seeks_move (at.Admits a word) seen.Exchanged = Makes (plain.Upgradably a.woken)
seeks_move (at.SetParked a word) seen.Exchanged = Makes (plain.Flag1 rules.Upgradable a.woken)
seeks_move (at.Enters want woken) s = Makes (plain.Enter1 rules.Upgradable woken)
seeks_move (at.Checks want woken) (seen.Word word) =
    (if is_barred want word && is_parked word then Makes (plain.Check1 rules.Upgradable woken) else Stays)
seeks_move (at.Retreats want woken) s = Makes (plain.Retreat1 rules.Upgradable woken)
seeks_move (at.Appends want) s = Joins (Join1 rules.Upgradable)
seeks_move (at.Rests want) s = Makes (plain.Rest1 rules.Upgradable)
seeks_move (at.Sleeps want) (seen.Woken token) =
    IsWoken (if token.0 == 1 then OwnUpgradable else Retry rules.Upgradable)
seeks_move p s = Stays

-- of one that waits for readers to leave, and had the upgradable hold before
abbrev pub drains_move : RwPhase → ActResult → Move
drains_move (at.DrainLoads d) (seen.Word word) = (if has_readers word then Stays else Makes (plain.Drain true d.woken))
drains_move (at.DrainSetParked d flagged) seen.Exchanged = Makes (plain.Flag2 true d.woken)
drains_move (at.DrainSetParked d flagged) (seen.Word word) =
    (if has_readers word then Stays else Makes (plain.Drain true d.woken))
drains_move (at.DrainEnters d) s = Makes (plain.Enter2 true d.woken)
drains_move (at.DrainChecks d) (seen.Word word) =
    (if has_readers word && is_writer_parked word then Makes (plain.Check2 true d.woken) else Stays)
drains_move (at.DrainRetreats d) s = Makes (plain.Retreat2 true d.woken)
drains_move (at.DrainAppends rounds) s = Joins (Join2 true)
drains_move (at.DrainRests rounds) s = Makes (plain.Rest2 true)
drains_move (at.DrainSleeps rounds) s = IsWoken (Recheck true)
drains_move p s = Stays

-- of one that gives the upgradable hold up in a section
abbrev pub frees_ending : Bool → Ending
frees_ending handed = (if handed then HandUpgradable else FreeUpgradable)

abbrev pub frees_move : List ℕ → RwPhase → ActResult → Move
frees_move us (at.LooksExclusive fair rest) s = Makes plain.LookUpgradable
frees_move us (at.Scans a) (seen.Took (Some token) left) = TakesOne (mode_by token)
frees_move us (at.Stores a left) (seen.Stored fair) = Tells (frees_ending (hands a (a.fair || fair))) left
frees_move us (at.Leaves rest count handed) s = Makes (plain.Depart1 (Shares 0) us)
frees_move us (at.Wakes rest count) s = WakesOne
frees_move us (at.Finishes rest) s = Makes (plain.Finish (Shares 0))
frees_move us p s = Stays

-- of one that owes waiters a look, and keeps what it owns
abbrev pub owes_move : Owned → List ℕ → RwPhase → ActResult → Move
owes_move o us at.EnterWakeSection s = Makes (plain.LookOwed o)
owes_move o us (at.Scans a) (seen.Took (Some token) left) = TakesOne (mode_by token)
owes_move o us (at.Stores a left) (seen.Stored fair) = Tells Keep left
owes_move o us (at.Leaves rest count handed) s = Makes (plain.Depart1 o us)
owes_move o us (at.Wakes rest count) s = WakesOne
owes_move o us p s = Stays

abbrev pub yield : Bool → Bool → Plain
yield true owing = plain.YieldBack owing
yield false owing = plain.Yield owing

abbrev pub move : ℕ → List ℕ → UpgradePhase → ActResult → Move
move n us (phase.Plain core) s = rw.move n us core.phase s
move n us (Seeks core) s = seeks_move core.phase s
move n us (Drains core) s = drains_move core.phase s
move n us (Frees r core) s = frees_move us core.phase s
move n us (Owes hold answer core) s = owes_move (owned hold) us core.phase s
move n us Locking s = Makes (plain.Begin 0 rules.Upgradable)
move n us Trying s = Makes (plain.Begin 0 rules.Upgradable)
move n us (TryAdmits word left) seen.Exchanged = Makes (plain.Upgradably false)
move n us phase.Upgrades s = Makes plain.Upgrade
move n us (TryUpgrades word left) seen.Exchanged = Makes plain.UpgradeAtOnce
move n us Relocks s = Makes (plain.Begin 0 rules.Upgradable)
move n us (Unlocks r word) seen.Exchanged = Makes plain.UnlockUpgradable
move n us ToShared (seen.Before word) = Makes (plain.DowngradeUpgradable (is_parked word))
move n us ToUpgradable (seen.Before word) = Makes (plain.DowngradeToUpgradable (is_parked word))
move n us (Yields from word) seen.Exchanged = Makes (yield from (is_parked word))
move n us p s = Stays

-- and what the end of a call is, where it is answered
abbrev pub last_move : ℕ → UpgradePhase → Move
last_move n (phase.Plain core) = rw.last_move n core.phase
last_move n Refuses = Makes (plain.Refuse 0 rules.Upgradable)
last_move n (Frees r core) = Makes (plain.Finish (Shares 0))
last_move n (Owes hold answer core) = Makes (plain.Finish (owned hold))
last_move n p = Stays

-- WHAT A MOVE IS

-- a thread that scans takes v, which waits for a mode
pub record TakingOne (v : ℕ) (mode : Mode) (old new : Role) (scan : Scan) : Type 0 where
  pub from : old ≡ scanning scan
  pub to : new ≡ scanning (taking scan v mode)

-- a thread that scans stores, and the word is the one of that ending
pub record Telling (us : List ℕ) (end : Ending) (left : Bool) (old new : Role) (scan : Scan) (w : Word)
    (word : ℕ) : Type 0 where
  pub from : old ≡ scanning scan
  pub to : new ≡ record { owns = scan.owns; does = rules.Stored1 us }
  pub cause : scan.cause ≡ ends_for end
  pub may : MayEnd end us
  pub written : word ≡ number (stored end scan.shared scan.upgradable scan.writer (bit left) w)

-- The move leads from phase p to phase q, at word w, and leaves that number as the word.
abbrev pub IsMove : Bool → Move → ℕ → List ℕ → UpgradePhase → UpgradePhase → Word → ℕ → Type 0
IsMove recursive Stays n us p q w word = ((spot : QueuePosition) → role n spot us q ≡ role n spot us p)
    × (word ≡ number w)
IsMove recursive (Makes k) n us p q w word = IsPlain recursive k (role n Listed us p) (role n Listed us q) w word
IsMove recursive (Joins k) n us p q w word = (role n Listed us p ≡ listing_from k) × (role n Listed us q ≡ listing_to k)
    × (word ≡ number w)
IsMove recursive (TakesOne mode) n us p q w word = (v : ℕ) → (scan : Scan)
    × TakingOne v mode (role n Listed us p) (role n Listed (us ++ v ∷ []) q) scan × (word ≡ number w)
IsMove recursive TakesWriter n us p q w word =
    (v : ℕ) → (role n Listed us p ≡ record { owns = Shares n; does = rules.Scans2 [] })
    × (role n Listed (v ∷ []) q ≡ record { owns = Shares n; does = rules.Scans2 (v ∷ []) }) × (word ≡ number w)
IsMove recursive (Tells end left) n us p q w word = (scan : Scan) × Telling us end left (role n Listed us p)
    (role n Listed us q) scan w word
IsMove recursive WakesOne n us p q w word =
    (v : ℕ) → (role n Listed (v ∷ us) p ≡ record { owns = owns n p; does = rules.Wakes (v ∷ us) })
    × (role n Listed us q ≡ record { owns = owns n p; does = rules.Wakes us }) × (word ≡ number w)
IsMove recursive (IsWoken k) n us p q w word = (by : ℕ) → (role n (Off by (mark_for k)) us p ≡ waking_from k by Asleep)
    × (role n Listed us q ≡ waking_to k) × (word ≡ number w)
