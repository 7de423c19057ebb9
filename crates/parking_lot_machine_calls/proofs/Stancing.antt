-- Where a call stands, act by act.
use Rattle.std.proofs.Common.{◌≡◌, ◌≤◌, ◌<◌, ℕ, Bool, Some, refl, sym, subst}
use Rattle.parking_lot_core_model.specs.declared.parking.ParkToken.{ParkToken}
use Rattle.parking_lot_core_model.specs.declared.parking.UnparkToken.{UnparkToken}
use Rattle.parking_lot_protocol.specs.Acts.{Gives}
use Rattle.parking_lot_protocol.specs.MutexTable as mt
use Rattle.parking_lot_protocol.specs.RwTable as rt
use Rattle.parking_lot_protocol.specs.declared.act.Act.{Act}
use Rattle.parking_lot_protocol.specs.declared.act.SectionAct.TheVariants as section
use Rattle.parking_lot_protocol.specs.declared.act.ActResult.{ActResult}
use Rattle.parking_lot_machine_calls.specs.declared.seat.Core.{Core}
use Rattle.parking_lot_machine_calls.specs.Stances.{Doing, Out, In, Asleep, stance, taken_count, core_act, core_next}
use Rattle.parking_lot_machine_calls.specs.StanceLaws.{LeadsCore, Counts, TakesOne, IsOver, HasSmallKey}
use Rattle.parking_lot_machine_calls.proofs.PhaseStancing.{mutex_leads, rw_leads, late_leads, mutex_takes, rw_takes}
use Rattle.parking_lot_machine_calls.proofs.PhaseStancing.{late_takes, mutex_begins, rw_begins, late_begins, mutex_ends}
use Rattle.parking_lot_machine_calls.proofs.PhaseStancing.{rw_ends, late_ends, mutex_wakes, rw_wakes, late_wakes}
use Rattle.parking_lot_machine_calls.proofs.PhaseStancing.{mutex_some, rw_some, rw_next_some, late_some, mutex_keys}
use Rattle.parking_lot_machine_calls.proofs.PhaseStancing.{rw_keys, late_keys}
use Rattle.parking_lot_machine_calls.proofs.UpgradeStancing.{upgrade_leads, upgrade_takes, upgrade_begins, upgrade_ends}
use Rattle.parking_lot_machine_calls.proofs.UpgradeStancing.{upgrade_wakes, upgrade_some, upgrade_keys}
use Rattle.parking_lot_machine_calls.proofs.LateStancing.{tardy_begins, tardy_counts, tardy_keys, tardy_leads}
use Rattle.parking_lot_machine_calls.proofs.LateStancing.{tardy_over, tardy_some, tardy_wakes}

-- CORES OF EITHER KIND

pub acts_lead : (c : Core) (word : ℕ) (s : ActResult) → Gives (core_act c) word s
    → LeadsCore (core_act c) s c (core_next c s)
acts_lead (Core.Mutex c) word s g = mutex_leads c.phase word s g
acts_lead (Core.Rw c) word s g = rw_leads c.phase word s g
acts_lead (Core.Late p) word s g = late_leads p word s g
acts_lead (Core.LateRw p) word s g = tardy_leads p word s g
acts_lead (Core.Upgrade c) word s g = upgrade_leads c.phase word s g

-- the same of an act that is known
pub leads_by : (c : Core) (a : Act) (word : ℕ) (s : ActResult) → core_act c ≡ a → Gives a word s
    → LeadsCore a s c (core_next c s)
leads_by c a word s is g =
    subst (λ (b : Act). LeadsCore b s c (core_next c s)) is
    (acts_lead c word s (subst (λ (b : Act). Gives b word s) (sym is) g))

pub takings_count : (c : Core) (word : ℕ) (token : ParkToken) (left : Bool) → let s = ActResult.Took (Some token) left
    in
    Gives (core_act c) word s → Counts c token → TakesOne (stance c) (stance (core_next c s)) (taken_count c)
    (taken_count (core_next c s))
takings_count (Core.Mutex c) word token left g h = mutex_takes c.phase word token left g
takings_count (Core.Rw c) word token left g h = rw_takes c.phase word token left g h
takings_count (Core.Late p) word token left g h = late_takes p word token left g
takings_count (Core.LateRw p) word token left g h = tardy_counts p word token left g
takings_count (Core.Upgrade c) word token left g h = upgrade_takes c.phase word token left g h

pub calls_begin : (c : Core) → (stance (core_next c ActResult.Start) ≡ Out)
    × (taken_count (core_next c ActResult.Start) ≡ 0)
calls_begin (Core.Mutex c) = mutex_begins c.phase
calls_begin (Core.Rw c) = rw_begins c.phase
calls_begin (Core.Late p) = late_begins p
calls_begin (Core.LateRw p) = tardy_begins p
calls_begin (Core.Upgrade c) = upgrade_begins c.phase

pub calls_end : (c : Core) → IsOver (core_act c) (stance c) (taken_count c)
calls_end (Core.Mutex c) = mutex_ends c.phase
calls_end (Core.Rw c) = rw_ends c.phase
calls_end (Core.Late p) = late_ends p
calls_end (Core.LateRw p) = tardy_over p
calls_end (Core.Upgrade c) = upgrade_ends c.phase

pub sleepers_wake : (c : Core) (k : ℕ) (token : ParkToken) (said : UnparkToken) → stance c ≡ Asleep k token
    → (taken_count c ≡ 0) × (stance (core_next c (ActResult.Woken said)) ≡ Out)
    × (taken_count (core_next c (ActResult.Woken said)) ≡ 0)
sleepers_wake (Core.Mutex c) k token said e = let x = mutex_wakes c.phase k token said e in (x.0, x.1.0, x.1.1)
sleepers_wake (Core.Rw c) k token said e = let x = rw_wakes c.phase k token said e in (x.0, x.1.0, x.1.1)
sleepers_wake (Core.Late p) k token said e = let x = late_wakes p k token said e in (refl, x.0, x.1)
sleepers_wake (Core.LateRw p) k token said e = let x = tardy_wakes p k token said e in (refl, x.0, x.1)
sleepers_wake (Core.Upgrade c) k token said e = let x = upgrade_wakes c.phase k token said e in (x.0, x.1.0, x.1.1)

pub wakes_some : (c : Core) (s : ActResult) → core_act (core_next c s) ≡ Act.Section section.Wake
    → 1 ≤ taken_count (core_next c s)
wakes_some (Core.Mutex c) s e = mutex_some (mt.next_phase c.phase s) e
wakes_some (Core.Rw c) s e = rw_some (rt.next_phase c.phase s) (rw_next_some c.phase s) e
wakes_some (Core.Late p) s e = late_some p s e
wakes_some (Core.LateRw p) s e = tardy_some p s e
wakes_some (Core.Upgrade c) s e = upgrade_some c.phase s e

pub keys_are_two : (c : Core) → HasSmallKey (stance c)
keys_are_two (Core.Mutex c) = mutex_keys c.phase
keys_are_two (Core.Rw c) = rw_keys c.phase
keys_are_two (Core.Late p) = late_keys p
keys_are_two (Core.LateRw p) = tardy_keys p
keys_are_two (Core.Upgrade c) = upgrade_keys c.phase

pub small_key : (c : Core) (k : ℕ) (how : Doing) → stance c ≡ In k how → k < 2
small_key c k how e = subst HasSmallKey e (keys_are_two c)
