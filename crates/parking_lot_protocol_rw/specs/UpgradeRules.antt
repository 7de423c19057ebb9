-- Each answer to such a core is a step of the rules, and so is its end.
use Rattle.std.specs.Prelude.{◌≡◌, ◌<◌, ℕ, ◌+◌, ◌-◌, ◌^◌, Bool, true, false, List, [], length}
use Rattle.parking_lot_rules.specs.Roles.{Owned, Shares}
use Rattle.parking_lot_rules.specs.Roles as rules
use Rattle.parking_lot_rules.specs.Clauses.{Word, IsWord, number}
use Rattle.parking_lot_protocol.specs.Acts.{Begins, Gives, word_after}
use Rattle.parking_lot_protocol.specs.RwRules as rw
use Rattle.parking_lot_protocol.specs.RwRules.{Move, Makes, IsPlain, IsToken}
use Rattle.parking_lot_protocol.specs.RwTable.{count_of, is_parked}
use Rattle.parking_lot_protocol.specs.Positions.{Listed}
use Rattle.parking_lot_protocol.specs.declared.act.ActResult.{ActResult}
use Rattle.parking_lot_protocol.specs.declared.act.ActResult.TheVariants as seen
use Rattle.parking_lot_protocol.specs.declared.rw_phase.AfterWake.TheVariants.{FreedExclusive, Downgraded}
use Rattle.parking_lot_protocol.specs.declared.rw_phase.LockMode.TheVariants as want
use Rattle.parking_lot_protocol.specs.declared.rw_phase.Outcome.TheVariants as outcome
use Rattle.parking_lot_protocol.specs.declared.rw_phase.RwPhase.{RwPhase}
use Rattle.parking_lot_protocol.specs.declared.rw_phase.RwPhase.TheVariants as at
use Rattle.parking_lot_protocol_rw.specs.UpgradeMoves.{IsMove, move, last_move}
use Rattle.parking_lot_protocol_rw.specs.UpgradeRoles.{owned, role}
use Rattle.parking_lot_protocol_rw.specs.UpgradeTable.{act_of, is_alone, is_open, next_phase}
use Rattle.parking_lot_protocol_rw.specs.declared.upgrade_phase.UpgradePhase.{UpgradePhase}
use Rattle.parking_lot_protocol_rw.specs.declared.upgrade_phase.UpgradePhase.TheVariants as phase
use Rattle.parking_lot_protocol_rw.specs.declared.upgrade_phase.UpgradePhase.TheVariants.{Plain, Locking, Trying}
use Rattle.parking_lot_protocol_rw.specs.declared.upgrade_phase.UpgradePhase.TheVariants.{Unlocking, Bumping, Upgrading}
use Rattle.parking_lot_protocol_rw.specs.declared.upgrade_phase.UpgradePhase.TheVariants.{TryingToUpgrade}
use Rattle.parking_lot_protocol_rw.specs.declared.upgrade_phase.UpgradePhase.TheVariants.{DowngradingToShared}
use Rattle.parking_lot_protocol_rw.specs.declared.upgrade_phase.UpgradePhase.TheVariants.{DowngradingToUpgradable}
use Rattle.parking_lot_protocol_rw.specs.declared.upgrade_phase.UpgradePhase.TheVariants.{GivingUp, Seeks, TryAdmits}
use Rattle.parking_lot_protocol_rw.specs.declared.upgrade_phase.UpgradePhase.TheVariants.{Refuses, Drains, TryUpgrades}
use Rattle.parking_lot_protocol_rw.specs.declared.upgrade_phase.UpgradePhase.TheVariants.{Unlocks, Frees, ToShared}
use Rattle.parking_lot_protocol_rw.specs.declared.upgrade_phase.UpgradePhase.TheVariants.{ToUpgradable, Yields, Owes}
use Rattle.parking_lot_protocol_rw.specs.declared.upgrade_phase.UpgradePhase.TheVariants.{Ends}

-- WHAT HOLDS OF A PHASE BY ITSELF

-- one that asks as for an exclusive hold is on the way to its first admission
abbrev pub IsSeeking : RwPhase → Type 0
IsSeeking (at.Loads a) = a.want ≡ want.Exclusive
IsSeeking (at.Admits a word) = a.want ≡ want.Exclusive
IsSeeking (at.Spins a) = a.want ≡ want.Exclusive
IsSeeking (at.SetParked a word) = a.want ≡ want.Exclusive
IsSeeking (at.Enters wanted woken) = wanted ≡ want.Exclusive
IsSeeking (at.Checks wanted woken) = wanted ≡ want.Exclusive
IsSeeking (at.Retreats wanted woken) = wanted ≡ want.Exclusive
IsSeeking (at.Appends wanted) = wanted ≡ want.Exclusive
IsSeeking (at.Rests wanted) = wanted ≡ want.Exclusive
IsSeeking (at.Sleeps wanted) = wanted ≡ want.Exclusive
IsSeeking phase = ⊥

-- one that waits for readers to leave
abbrev pub IsDraining : RwPhase → Type 0
IsDraining (at.DrainLoads d) = Unit {0}
IsDraining (at.DrainSpins d) = Unit {0}
IsDraining (at.DrainSetParked d word) = Unit {0}
IsDraining (at.DrainEnters d) = Unit {0}
IsDraining (at.DrainChecks d) = Unit {0}
IsDraining (at.DrainRetreats d) = Unit {0}
IsDraining (at.DrainAppends rounds) = Unit {0}
IsDraining (at.DrainRests rounds) = Unit {0}
IsDraining (at.DrainSleeps rounds) = Unit {0}
IsDraining (at.Ends end) = end ≡ outcome.Exclusive
IsDraining phase = ⊥

-- one that gives the hold up in a section
abbrev pub IsFreeing : RwPhase → Type 0
IsFreeing (at.LooksExclusive fair rest) = rest ≡ FreedExclusive
IsFreeing (at.Scans s) = s.rest ≡ FreedExclusive
IsFreeing (at.Stores s left) = s.rest ≡ FreedExclusive
IsFreeing (at.Leaves rest count handed) = rest ≡ FreedExclusive
IsFreeing (at.Wakes rest count) = rest ≡ FreedExclusive
IsFreeing (at.Finishes rest) = rest ≡ FreedExclusive
IsFreeing phase = ⊥

-- one that owes waiters a look
abbrev pub IsOwing : RwPhase → Type 0
IsOwing at.EnterWakeSection = Unit {0}
IsOwing (at.Scans s) = s.rest ≡ Downgraded
IsOwing (at.Stores s left) = s.rest ≡ Downgraded
IsOwing (at.Leaves rest count handed) = rest ≡ Downgraded
IsOwing (at.Wakes rest count) = rest ≡ Downgraded
IsOwing (at.Finishes rest) = rest ≡ Downgraded
IsOwing phase = ⊥

-- An exchange starts from a word at which it is right, and a call goes on as one of the right kind.
abbrev pub IsReady : UpgradePhase → Type 0
IsReady (Plain core) = rw.IsReady core.phase
IsReady (Seeks core) = IsSeeking core.phase × rw.IsReady core.phase
IsReady (Drains core) = IsDraining core.phase × rw.IsReady core.phase
IsReady (Frees r core) = IsFreeing core.phase
IsReady (Owes hold answer core) = IsOwing core.phase
IsReady (TryAdmits word left) = is_open word ≡ true
IsReady (TryUpgrades word left) = is_alone word ≡ true
IsReady (Unlocks r word) = is_parked word ≡ false
IsReady p = Unit {0}

-- WHAT WHOEVER RUNS A CORE KNOWS

-- its thread is the upgradable owner
pub record HasUpgradable (w : Word) : Type 0 where
  pub readers : 0 < w.readers
  pub writer : w.writer ≡ 0
  pub upgradable : w.upgradable ≡ 1

-- or owns the lock exclusively, or waits for readers to leave
pub record HasWriter (w : Word) : Type 0 where
  pub writer : w.writer ≡ 1
  pub upgradable : w.upgradable ≡ 0

-- whom it has taken in a section, and what it still owns there
abbrev pub FitsFreeing : List ℕ → RwPhase → Word → Type 0
FitsFreeing us (at.LooksExclusive fair rest) w = us ≡ []
FitsFreeing us (at.Scans s) w = s.shared < 2 ^ 32 - 1
FitsFreeing us (at.Stores s left) w = HasUpgradable w × (w.readers + s.shared < 2 ^ 60) × (length us ≡ count_of s)
FitsFreeing us (at.Finishes rest) w = us ≡ []
FitsFreeing us p w = Unit {0}

abbrev pub FitsOwing : List ℕ → RwPhase → Word → Type 0
FitsOwing us at.EnterWakeSection w = us ≡ []
FitsOwing us (at.Scans s) w = s.shared < 2 ^ 32 - 1
FitsOwing us p w = Unit {0}

-- what it owns and has taken fits the phase and the word
abbrev pub Fits : Bool → ℕ → List ℕ → UpgradePhase → Word → Type 0
Fits recursive n us (Plain core) w = rw.Fits recursive n us core.phase w
Fits recursive n us (Frees r core) w = FitsFreeing us core.phase w
Fits recursive n us (Owes hold answer core) w = FitsOwing us core.phase w
Fits recursive n us phase.Upgrades w = HasUpgradable w
Fits recursive n us (TryUpgrades word left) w = HasUpgradable w
Fits recursive n us (Unlocks r word) w = HasUpgradable w
Fits recursive n us ToShared w = HasUpgradable w
Fits recursive n us ToUpgradable w = HasWriter w
Fits recursive n us (Yields from word) w = HasWriter w
Fits recursive n us p w = Unit {0}

-- what a core in a section may be told at a word
abbrev pub IsShown : RwPhase → UpgradePhase → ℕ → ActResult → Type 0
IsShown (at.Scans a) p word (seen.Took token left) = IsToken token
IsShown inner p word s = Gives (act_of p) word s

-- what a core may be told at a word: that it begins, or what its act gives
abbrev pub IsTold : UpgradePhase → ℕ → ActResult → Type 0
IsTold (Plain core) word s = rw.IsTold core.phase word s
IsTold (Frees r core) word s = IsShown core.phase (Frees r core) word s
IsTold (Owes hold answer core) word s = IsShown core.phase (Owes hold answer core) word s
IsTold Locking word s = Begins s
IsTold Trying word s = Begins s
IsTold (Unlocking r) word s = Begins s
IsTold Bumping word s = Begins s
IsTold Upgrading word s = Begins s
IsTold TryingToUpgrade word s = Begins s
IsTold DowngradingToShared word s = Begins s
IsTold DowngradingToUpgradable word s = Begins s
IsTold (GivingUp from) word s = Begins s
IsTold p word s = Gives (act_of p) word s

-- What a core is told at a word, at which one reader more can be counted, is a step of the rules, of the kind that the
-- table says; and the phase that follows is ready again.
abbrev pub Follows : UpgradePhase → ActResult → Type 0
Follows p s = (recursive : Bool) (n : ℕ) (us : List ℕ) (w : Word) → IsReady p → IsWord w → w.readers < 2 ^ 60 - 1
    → Fits recursive n us p w → IsTold p (number w) s
    → IsMove recursive (move n us p s) n us p (next_phase p s) w (word_after (act_of p) s (number w))
    × IsReady (next_phase p s)

-- And so is the end of a call: of one that was refused, or whose wakes are done, the last step is made, and of any
-- other nothing is left.
abbrev pub IsLast : Bool → Move → ℕ → UpgradePhase → Owned → Type 0
IsLast recursive (Makes k) n p after = (w : Word) → IsPlain recursive k (role n Listed [] p)
    (record { owns = after; does = rules.Idle }) w (number w)
IsLast recursive move n p after = role n Listed [] p ≡ record { owns = after; does = rules.Idle }

-- where a section's wakes are done
abbrev pub EndedInside : RwPhase → UpgradePhase → Owned → Type 0
EndedInside (at.Finishes rest) p after = (recursive : Bool) (n : ℕ) → IsLast recursive (last_move n p) n p after
EndedInside inner p after = Unit {0}

-- one that waited for readers to leave owns the lock exclusively
abbrev pub EndedDraining : RwPhase → UpgradePhase → Type 0
EndedDraining (at.Ends end) p = end ≡ outcome.Exclusive → (recursive : Bool) (n : ℕ)
    → IsLast recursive (last_move n p) n p rules.Excludes
EndedDraining inner p = Unit {0}

abbrev pub Ended : UpgradePhase → Type 0
Ended (Plain core) = rw.Ended core.phase
Ended (Drains core) = EndedDraining core.phase (Drains core)
Ended (Frees r core) = EndedInside core.phase (Frees r core) (Shares 0)
Ended (Owes hold answer core) = EndedInside core.phase (Owes hold answer core) (owned hold)
Ended Refuses = (recursive : Bool) (n : ℕ) → IsLast recursive (last_move n Refuses) n Refuses (Shares 0)
Ended (Ends hold answer) = (recursive : Bool) (n : ℕ) → IsLast recursive (last_move n (Ends hold answer)) n
    (Ends hold answer) (owned hold)
Ended p = Unit {0}
