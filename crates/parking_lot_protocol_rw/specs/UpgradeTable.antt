-- The calls of a lock with upgradable holds: the act that each phase has asked for, and the phase that follows what it
-- gives.
use Rattle.std.specs.Prelude.{ℕ, ◌+◌, ◌-◌, ◌/◌, ◌%◌, ◌^◌, ◌==◌, nat_lt, ◌&&◌, ◌||◌, not, Bool, true, false}
use Rattle.std.specs.Prelude.{if◌then◌else◌}
use Rattle.parking_lot_core_model.specs.declared.parking.UnparkToken.{UnparkToken}
use Rattle.parking_lot_protocol.specs.Acts.{change_of}
use Rattle.parking_lot_protocol.specs.RwTable as rw
use Rattle.parking_lot_protocol.specs.declared.act.Act.{Act}
use Rattle.parking_lot_protocol.specs.declared.act.Act.TheVariants as act
use Rattle.parking_lot_protocol.specs.declared.act.SectionAct.TheVariants as section
use Rattle.parking_lot_protocol.specs.declared.act.WordChange.{WordChange}
use Rattle.parking_lot_protocol.specs.declared.act.CoreAnswer.{CoreAnswer}
use Rattle.parking_lot_protocol.specs.declared.act.CoreAnswer.TheVariants.{Owned, Refused, Released}
use Rattle.parking_lot_protocol.specs.declared.act.ActResult.{ActResult}
use Rattle.parking_lot_protocol.specs.declared.act.ActResult.TheVariants.{Start, Word, Exchanged, Before, Woken}
use Rattle.parking_lot_protocol.specs.declared.rw_core.RwCore.{RwCore}
use Rattle.parking_lot_protocol.specs.declared.rw_phase.AfterWake.TheVariants.{FreedExclusive}
use Rattle.parking_lot_protocol.specs.declared.rw_phase.LockMode.TheVariants as want
use Rattle.parking_lot_protocol.specs.declared.rw_phase.RwPhase.{RwPhase}
use Rattle.parking_lot_protocol.specs.declared.rw_phase.RwPhase.TheVariants as at
use Rattle.parking_lot_protocol.specs.declared.rw_phase.Scanning.{Scanning}
use Rattle.parking_lot_rules.specs.Classes.{bit}
use Rattle.parking_lot_protocol_rw.specs.declared.upgrade_core.UpgradeCore.{UpgradeCore}
use Rattle.parking_lot_protocol_rw.specs.declared.upgrade_phase.Hold.{Hold}
use Rattle.parking_lot_protocol_rw.specs.declared.upgrade_phase.Hold.TheVariants.{Nothing, Shared, Upgradable}
use Rattle.parking_lot_protocol_rw.specs.declared.upgrade_phase.Hold.TheVariants.{Exclusive}
use Rattle.parking_lot_protocol_rw.specs.declared.upgrade_phase.Release.{Release}
use Rattle.parking_lot_protocol_rw.specs.declared.upgrade_phase.Release.TheVariants as release
use Rattle.parking_lot_protocol_rw.specs.declared.upgrade_phase.UpgradePhase.{UpgradePhase}
use Rattle.parking_lot_protocol_rw.specs.declared.upgrade_phase.UpgradePhase.TheVariants.{Plain, Locking, Trying}
use Rattle.parking_lot_protocol_rw.specs.declared.upgrade_phase.UpgradePhase.TheVariants.{Unlocking, Bumping, Upgrading}
use Rattle.parking_lot_protocol_rw.specs.declared.upgrade_phase.UpgradePhase.TheVariants.{TryingToUpgrade}
use Rattle.parking_lot_protocol_rw.specs.declared.upgrade_phase.UpgradePhase.TheVariants.{DowngradingToShared}
use Rattle.parking_lot_protocol_rw.specs.declared.upgrade_phase.UpgradePhase.TheVariants.{DowngradingToUpgradable}
use Rattle.parking_lot_protocol_rw.specs.declared.upgrade_phase.UpgradePhase.TheVariants.{GivingUp, Seeks, TryLoads}
use Rattle.parking_lot_protocol_rw.specs.declared.upgrade_phase.UpgradePhase.TheVariants.{TryAdmits, Refuses, Upgrades}
use Rattle.parking_lot_protocol_rw.specs.declared.upgrade_phase.UpgradePhase.TheVariants.{Drains, TryUpgradeLoads}
use Rattle.parking_lot_protocol_rw.specs.declared.upgrade_phase.UpgradePhase.TheVariants.{TryUpgrades, BumpLoads}
use Rattle.parking_lot_protocol_rw.specs.declared.upgrade_phase.UpgradePhase.TheVariants.{Relocks, UnlockLoads, Unlocks}
use Rattle.parking_lot_protocol_rw.specs.declared.upgrade_phase.UpgradePhase.TheVariants.{Frees, ToShared, ToUpgradable}
use Rattle.parking_lot_protocol_rw.specs.declared.upgrade_phase.UpgradePhase.TheVariants.{YieldLoads, Yields, Owes}
use Rattle.parking_lot_protocol_rw.specs.declared.upgrade_phase.UpgradePhase.TheVariants.{Ends, Invalid}

-- CALLS OF SHARED AND EXCLUSIVE HOLDS, AS WHICH A CALL GOES ON

abbrev pub core_at : RwPhase → RwCore
core_at phase = record { phase = phase }

-- one that was told so much more
abbrev pub told : RwCore → ActResult → RwCore
told core seen = core_at (rw.next_phase core.phase seen)

-- one that asks for the exclusive hold and has seen the word
abbrev pub seeking : ℕ → RwCore
seeking word = core_at (rw.seeks (rw.begins want.Exclusive false) word)

-- WHAT A WORD SAYS

-- an upgradable owner can be admitted: nobody keeps it out, and one reader more can be counted
abbrev pub is_open : ℕ → Bool
is_open word = rw.has_room word && not (rw.is_written word || rw.is_upgradable word)

-- there is one reader, who is the upgradable owner
abbrev pub is_alone : ℕ → Bool
is_alone word = word / 16 == 1

-- THE ACTS

-- what a hold is worth in a word
abbrev pub kept_share : Hold → ℕ
kept_share Nothing = 0
kept_share Shared = 16
kept_share Upgradable = 20
kept_share Exclusive = 8

abbrev pub is_again : Release → Bool
is_again release.Plain = false
is_again release.Fair = false
is_again release.Again = true

-- whether the lock is handed over whatever the schedule says
abbrev pub is_fair : Release → Bool
is_fair release.Plain = false
is_fair release.Fair = true
is_fair release.Again = true

-- one that asks for the upgradable hold as for an exclusive one
abbrev pub seeks_act : RwPhase → Act
seeks_act (at.Admits a word) = (if rw.has_room word then act.Exchange word ((word + 20) % 2 ^ 64) else act.Load)
seeks_act (at.Appends want) = act.Section (section.Append (record { 0 = 20 }))
seeks_act phase = rw.act_of phase

-- one that gives the upgradable hold up in a section: it takes its own share off, and adds those of the threads to
-- which it hands over
abbrev pub frees_store : Scanning → Bool → Bool → WordChange
frees_store s true left =
    record { keep = 2 ^ 64 - 2; add = ((rw.sum_of s + bit left) % 2 ^ 64 + (2 ^ 64 - 20)) % 2 ^ 64 }
frees_store s false left = record { keep = 2 ^ 64 - 2 + bit left; add = 2 ^ 64 - 20 }

abbrev pub frees_act : Release → RwPhase → Act
frees_act r (at.Stores s left) =
    act.Section (section.Store (frees_store s (rw.hands s s.fair) left) (frees_store s (rw.hands s true) left))
frees_act r (at.Finishes rest) = (if is_again r then act.Load else act.Done Released)
frees_act r phase = rw.act_of phase

-- one that owes waiters a look, and keeps this
abbrev pub owes_act : Hold → CoreAnswer → RwPhase → Act
owes_act hold answer (at.Scans s) = act.Section (section.TakeNext ((kept_share hold + rw.taken_sum s) % 2 ^ 64))
owes_act hold answer (at.Finishes rest) = act.Done answer
owes_act hold answer phase = rw.act_of phase

-- one that waits for readers gives up
abbrev pub yield_change : Bool → WordChange
yield_change from = record { keep = 2 ^ 64 - 3; add = if from then 12 else 2 ^ 64 - 8 }

abbrev pub act_of : UpgradePhase → Act
act_of (Plain core) = rw.act_of core.phase
act_of Locking = act.Done Refused
act_of Trying = act.Done Refused
act_of (Unlocking r) = act.Done Refused
act_of Bumping = act.Done Refused
act_of Upgrading = act.Done Refused
act_of TryingToUpgrade = act.Done Refused
act_of DowngradingToShared = act.Done Refused
act_of DowngradingToUpgradable = act.Done Refused
act_of (GivingUp from) = act.Done Refused
act_of (Seeks core) = seeks_act core.phase
act_of TryLoads = act.Load
act_of (TryAdmits word left) = act.Exchange word ((word + 20) % 2 ^ 64)
act_of Refuses = act.Done Refused
act_of Upgrades = act.Add (2 ^ 64 - 12)
act_of (Drains core) = rw.act_of core.phase
act_of TryUpgradeLoads = act.Load
act_of (TryUpgrades word left) = act.Exchange word ((word + (2 ^ 64 - 12)) % 2 ^ 64)
act_of BumpLoads = act.Load
act_of Relocks = act.Load
act_of (UnlockLoads r) = act.Load
act_of (Unlocks r word) = act.Exchange word ((word + (2 ^ 64 - 20)) % 2 ^ 64)
act_of (Frees r core) = frees_act r core.phase
act_of ToShared = act.Add (2 ^ 64 - 4)
act_of ToUpgradable = act.Add 12
act_of (YieldLoads from) = act.Load
act_of (Yields from word) = act.Exchange word (change_of (yield_change from) word)
act_of (Owes hold answer core) = owes_act hold answer core.phase
act_of (Ends hold answer) = act.Done answer
act_of Invalid = act.Done Refused

-- WHAT FOLLOWS

abbrev pub is_won : ActResult → Bool
is_won Exchanged = true
is_won seen = false

abbrev pub is_handed : ActResult → Bool
is_handed (Woken token) = token.0 == 1
is_handed seen = false

abbrev pub is_word : ActResult → Bool
is_word (Word word) = true
is_word seen = false

-- one that asks for the upgradable hold has it: its exchange was won, or it was handed over
abbrev pub owns_now : RwPhase → ActResult → Bool
owns_now (at.Admits a word) seen = is_won seen
owns_now (at.Sleeps want) seen = is_handed seen
owns_now phase seen = false

-- a bump has woken all, and asks again
abbrev pub asks_now : Release → RwPhase → ActResult → Bool
asks_now r (at.Finishes rest) seen = is_again r && is_word seen
asks_now r phase seen = false

-- a try has seen the word
abbrev pub tries : ℕ → ℕ → UpgradePhase
tries left word = (if is_open word then TryAdmits word left else Refuses)

abbrev pub retries : ℕ → ℕ → UpgradePhase
retries left word = (if nat_lt 0 left then tries (left - 1) word else Refuses)

-- one to upgrade: where it is refused its thread keeps the upgradable hold
abbrev pub tries_upgrade : ℕ → ℕ → UpgradePhase
tries_upgrade left word = (if is_alone word then TryUpgrades word left else Ends Upgradable Refused)

abbrev pub retries_upgrade : ℕ → ℕ → UpgradePhase
retries_upgrade left word = (if nat_lt 0 left then tries_upgrade (left - 1) word else Ends Upgradable Refused)

-- one that gives the hold up has seen the word
abbrev pub frees : Release → UpgradePhase
frees r = Frees r (core_at (at.LooksExclusive (is_fair r) FreedExclusive))

abbrev pub unlocks : Release → ℕ → UpgradePhase
unlocks r word = (if rw.is_parked word then frees r else Unlocks r word)

-- the hold is given up
abbrev pub over : Release → UpgradePhase
over r = (if is_again r then Relocks else Ends Nothing Released)

-- A bump has seen the word: where others wait the hold is given up.
abbrev pub bumps : ℕ → UpgradePhase
bumps word = (if rw.is_parked word then frees release.Again else Ends Upgradable Owned)

-- the call is over, but for the look that waiters are owed
abbrev pub owes : Hold → CoreAnswer → ℕ → UpgradePhase
owes hold answer word = (if rw.is_parked word then Owes hold answer (core_at at.EnterWakeSection) else Ends hold answer)

-- what one that gives up has then
abbrev pub held_before : Bool → Hold
held_before from = (if from then Upgradable else Nothing)

-- What follows by itself, where the call begins, a word was seen, an exchange was won, or an addition found a word.
-- What doesn't fit leads astray.
abbrev pub begun : UpgradePhase → UpgradePhase
begun Locking = Seeks (core_at (at.Loads (rw.begins want.Exclusive false)))
begun Trying = TryLoads
begun (Unlocking r) = UnlockLoads r
begun Bumping = BumpLoads
begun Upgrading = Upgrades
begun TryingToUpgrade = TryUpgradeLoads
begun DowngradingToShared = ToShared
begun DowngradingToUpgradable = ToUpgradable
begun (GivingUp from) = YieldLoads from
begun phase = Invalid

abbrev pub shown : UpgradePhase → ℕ → UpgradePhase
shown TryLoads word = tries 63 word
shown (TryAdmits tried left) word = retries left word
shown TryUpgradeLoads word = tries_upgrade 63 word
shown (TryUpgrades tried left) word = retries_upgrade left word
shown BumpLoads word = bumps word
shown Relocks word = Seeks (seeking word)
shown (UnlockLoads r) word = unlocks r word
shown (Unlocks r tried) word = unlocks r word
shown (YieldLoads from) word = Yields from word
shown (Yields from tried) word = Yields from word
shown phase word = Invalid

abbrev pub won : UpgradePhase → UpgradePhase
won (TryAdmits word left) = Ends Upgradable Owned
won (TryUpgrades word left) = Ends Exclusive Owned
won (Unlocks r word) = over r
won (Yields from word) = owes (held_before from) Released word
won phase = Invalid

abbrev pub added : UpgradePhase → ℕ → UpgradePhase
added Upgrades word = Drains (core_at (at.DrainLoads (rw.pends false)))
added ToShared word = owes Shared Owned word
added ToUpgradable word = owes Upgradable Owned word
added phase word = Invalid

abbrev pub own_next : UpgradePhase → ActResult → UpgradePhase
own_next phase Start = begun phase
own_next phase (Word word) = shown phase word
own_next phase Exchanged = won phase
own_next phase (Before word) = added phase word
own_next phase seen = Invalid

-- the phase that follows what the act of this one gave
abbrev pub next_phase : UpgradePhase → ActResult → UpgradePhase
next_phase (Plain core) seen = Plain (told core seen)
next_phase (Seeks core) seen = (if owns_now core.phase seen then Ends Upgradable Owned else Seeks (told core seen))
next_phase (Drains core) seen = Drains (told core seen)
next_phase (Frees r core) seen = (if asks_now r core.phase seen then Relocks else Frees r (told core seen))
next_phase (Owes hold answer core) seen = Owes hold answer (told core seen)
next_phase phase seen = own_next phase seen

-- a core that was told so much more, and the act that one has asked for
abbrev pub upgrade_told : UpgradeCore → ActResult → UpgradeCore
upgrade_told core seen = record core { phase = next_phase core.phase seen }

abbrev pub upgrade_asks : UpgradeCore → Act
upgrade_asks core = act_of core.phase

-- the token for those that a section took, once it has stored
abbrev pub wakes_with : UpgradePhase → UnparkToken
wakes_with (Plain core) = rw.wakes_with core.phase
wakes_with (Frees r core) = rw.wakes_with core.phase
wakes_with (Owes hold answer core) = rw.wakes_with core.phase
wakes_with phase = record { 0 = 0 }
