-- Where a call at a reader-writer lock stands whose moment has passed, act by act.
use Rattle.std.proofs.Common.{◌≡◌, ◌≤◌, ℕ, Bool, true, false, Option, Some, None, inr, refl, arith}
use Rattle.parking_lot_core_model.specs.declared.parking.ParkToken.{ParkToken}
use Rattle.parking_lot_core_model.specs.declared.parking.UnparkToken.{UnparkToken}
use Rattle.parking_lot_protocol.specs.Acts.{Gives}
use Rattle.parking_lot_protocol.specs.RwTable as rt
use Rattle.parking_lot_protocol.specs.declared.act.Act.{Act}
use Rattle.parking_lot_protocol.specs.declared.act.SectionAct.TheVariants as section
use Rattle.parking_lot_protocol.specs.declared.act.ActResult.{ActResult}
use Rattle.parking_lot_machine_calls.specs.declared.late_rw.LateRwPhase.{LateRwPhase}
use Rattle.parking_lot_machine_calls.specs.declared.late_rw.RwSleeper.{RwSleeper}
use Rattle.parking_lot_machine_calls.specs.declared.seat.Core.{Core}
use Rattle.parking_lot_machine_calls.specs.Stances.{Asleep, In, Out, Stance, back_as, core_act, late_rw_act}
use Rattle.parking_lot_machine_calls.specs.Stances.{late_rw_next, late_rw_stance, lying, quits_as, sign, sleeper_stance}
use Rattle.parking_lot_machine_calls.specs.Stances.{sleeper_told, stance, taken_count, found_as, resumed_as}
use Rattle.parking_lot_machine_calls.specs.Stances.{sleeper_asleep, Tells}
use Rattle.parking_lot_machine_calls.specs.StanceLaws.{HasSmallKey, IsOver, LeadsCore, TakesOne, LeavesFor}
use Rattle.parking_lot_machine_calls.proofs.PhaseStancing.{rw_keys, rw_next_some, rw_some, rw_wakes}
use Rattle.parking_lot_machine_calls.proofs.Lying.{back_up, lies_so, asleep_lies}
use Rattle.parking_lot_machine_calls.proofs.UpgradeStancing.{upgrade_keys, upgrade_some, upgrade_wakes}

abbrev IsAway : Core → Type 0
IsAway c = (stance c ≡ Out) × (taken_count c ≡ 0)

-- one that is woken after all stands outside
woken_away : (k : RwSleeper) (key : ℕ) (park : ParkToken) (said : UnparkToken) → sleeper_stance k ≡ Asleep key park
    → IsAway (sleeper_told k (ActResult.Woken said))
woken_away (RwSleeper.Simple c) key park said e = (rw_wakes c.phase key park said e).1
woken_away (RwSleeper.Upgradable c) key park said e = (upgrade_wakes c.phase key park said e).1

-- one that was taken leaves the section, and stands outside
found_in : (a : Stance) → (key : ℕ) × (found_as a ≡ In key (Tells (sign false)))
found_in (Asleep key park) = (key, refl)
found_in Out = (0, refl)
found_in (In key how) = (0, refl)

resumed_away : (k : RwSleeper) (handed : Bool) (b : Bool) → sleeper_asleep k ≡ b → IsAway (resumed_as b k handed)
resumed_away k handed true e = let at = asleep_lies k e in woken_away k at.0 at.1 (sign handed) at.2
resumed_away k handed false e = (refl, refl)

taken_leads : (k : RwSleeper) (handed : Bool) → LeavesFor (found_as (sleeper_stance k))
    (stance (resumed_as (sleeper_asleep k) k handed)) 0 (taken_count (resumed_as (sleeper_asleep k) k handed))
taken_leads k handed = let at = found_in (sleeper_stance k) in let w = resumed_away k handed (sleeper_asleep k) refl in
    inr (inr (at.0, sign false, at.1, w.0, w.1))

pub tardy_leads : (p : LateRwPhase) (word : ℕ) (s : ActResult) → Gives (late_rw_act p) word s
    → LeadsCore (late_rw_act p) s (Core.LateRw p) (late_rw_next p s)
tardy_leads (LateRwPhase.Expires k) word (ActResult.Woken token) g = λ key park e. let w =
    woken_away k key park token (lies_so (sleeper_stance k) key park e) in (w.0, refl, w.1)
tardy_leads (LateRwPhase.Quits k) word (ActResult.Woken token) g =
    λ key park e. absurd (back_up (sleeper_stance k) key park e)
tardy_leads LateRwPhase.Masks word (ActResult.Before w) g = (0, refl, refl, refl)
tardy_leads LateRwPhase.Leaves word ActResult.Made g = inr (inr (0, sign false, refl, refl, refl))
tardy_leads (LateRwPhase.LeavesPending from) word ActResult.Made g = inr (inr (1, sign false, refl, refl, refl))
tardy_leads (LateRwPhase.WasTaken k by handed) word ActResult.Made g = taken_leads k handed
tardy_leads p word s g = absurd g

pub tardy_counts : (p : LateRwPhase) (word : ℕ) (token : ParkToken) (left : Bool) → let s =
    ActResult.Took (Some token) left in
    Gives (late_rw_act p) word s → TakesOne (late_rw_stance p) (stance (late_rw_next p s)) 0
    (taken_count (late_rw_next p s))
tardy_counts (LateRwPhase.Expires k) word token left g = absurd g
tardy_counts (LateRwPhase.Quits k) word token left g = absurd g
tardy_counts LateRwPhase.Masks word token left g = absurd g
tardy_counts LateRwPhase.Leaves word token left g = absurd g
tardy_counts LateRwPhase.GivesUp word token left g = absurd g
tardy_counts (LateRwPhase.LeavesPending from) word token left g = absurd g
tardy_counts (LateRwPhase.WasTaken k by handed) word token left g = absurd g

pub tardy_begins : (p : LateRwPhase) → IsAway (late_rw_next p ActResult.Start)
tardy_begins (LateRwPhase.Expires k) = (refl, refl)
tardy_begins (LateRwPhase.Quits k) = (refl, refl)
tardy_begins LateRwPhase.Masks = (refl, refl)
tardy_begins LateRwPhase.Leaves = (refl, refl)
tardy_begins LateRwPhase.GivesUp = (refl, refl)
tardy_begins (LateRwPhase.LeavesPending from) = (refl, refl)
tardy_begins (LateRwPhase.WasTaken k by handed) = (refl, refl)

pub tardy_over : (p : LateRwPhase) → IsOver (late_rw_act p) (late_rw_stance p) 0
tardy_over LateRwPhase.GivesUp = (refl, refl)
tardy_over p = tt

pub tardy_wakes : (p : LateRwPhase) (key : ℕ) (park : ParkToken) (said : UnparkToken)
    → late_rw_stance p ≡ Asleep key park → IsAway (late_rw_next p (ActResult.Woken said))
tardy_wakes (LateRwPhase.Expires k) key park said e = woken_away k key park said (lies_so (sleeper_stance k) key park e)
tardy_wakes p key park said e = (refl, refl)

sleeper_some : (k : RwSleeper) (s : ActResult) → core_act (sleeper_told k s) ≡ Act.Section section.Wake
    → 1 ≤ taken_count (sleeper_told k s)
sleeper_some (RwSleeper.Simple c) s e = rw_some (rt.next_phase c.phase s) (rw_next_some c.phase s) e
sleeper_some (RwSleeper.Upgradable c) s e = upgrade_some c.phase s e

quits_no_wake : (o : Option Bool) (left : Bool) → late_rw_act (quits_as o left) ≡ Act.Section section.Wake → ⊥
quits_no_wake (Some from) left e = cc
quits_no_wake None true e = cc
quits_no_wake None false e = cc

resumed_some : (k : RwSleeper) (handed b : Bool) → core_act (resumed_as b k handed) ≡ Act.Section section.Wake
    → 1 ≤ taken_count (resumed_as b k handed)
resumed_some k handed true e = sleeper_some k (ActResult.Woken (sign handed)) e
resumed_some k handed false e = cc

pub tardy_some : (p : LateRwPhase) (s : ActResult) → core_act (late_rw_next p s) ≡ Act.Section section.Wake
    → 1 ≤ taken_count (late_rw_next p s)
tardy_some (LateRwPhase.Expires k) (ActResult.Woken token) e = sleeper_some k (ActResult.Woken token) e
tardy_some (LateRwPhase.Expires k) ActResult.Entered e = cc
tardy_some (LateRwPhase.Quits k) (ActResult.Took token left) e = absurd (quits_no_wake _ left e)
tardy_some LateRwPhase.Masks (ActResult.Before word) e = cc
tardy_some LateRwPhase.Leaves ActResult.Made e = cc
tardy_some LateRwPhase.GivesUp s e = cc
tardy_some (LateRwPhase.LeavesPending from) ActResult.Made e = cc
tardy_some (LateRwPhase.WasTaken k by handed) ActResult.Made e = resumed_some k handed (sleeper_asleep k) e
tardy_some p s e = cc

lying_keys : (a : Stance) → HasSmallKey a → HasSmallKey (lying a)
lying_keys (Asleep key park) h = h
lying_keys Out h = tt
lying_keys (In key how) h = tt

back_keys : (a : Stance) → HasSmallKey a → HasSmallKey (back_as a)
back_keys (Asleep key park) h = h
back_keys Out h = tt
back_keys (In key how) h = tt

found_keys : (a : Stance) → HasSmallKey a → HasSmallKey (found_as a)
found_keys (Asleep key park) h = h
found_keys Out h = omega arith
found_keys (In key how) h = omega arith

sleeper_keys : (k : RwSleeper) → HasSmallKey (sleeper_stance k)
sleeper_keys (RwSleeper.Simple c) = rw_keys c.phase
sleeper_keys (RwSleeper.Upgradable c) = upgrade_keys c.phase

pub tardy_keys : (p : LateRwPhase) → HasSmallKey (late_rw_stance p)
tardy_keys (LateRwPhase.Expires k) = lying_keys (sleeper_stance k) (sleeper_keys k)
tardy_keys (LateRwPhase.Quits k) = back_keys (sleeper_stance k) (sleeper_keys k)
tardy_keys LateRwPhase.GivesUp = tt
tardy_keys (LateRwPhase.WasTaken k by handed) = found_keys (sleeper_stance k) (sleeper_keys k)
tardy_keys p = omega arith
