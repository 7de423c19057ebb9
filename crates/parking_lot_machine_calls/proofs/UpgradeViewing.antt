-- How the thread of an upgradable call owns its lock is what its role says.
use Rattle.std.proofs.Common.{◌≡◌, ℕ, List, None, refl, sym, ap, ◌∙◌}
use Rattle.parking_lot_rules.specs.Roles.{Idle, Owed, Scans1, Shares}
use Rattle.parking_lot_protocol.specs.Positions as positions
use Rattle.parking_lot_protocol.specs.RwRules as rw
use Rattle.parking_lot_protocol.specs.declared.rw_phase.RwPhase.{RwPhase}
use Rattle.parking_lot_protocol.specs.declared.rw_phase.Scanning.{Scanning}
use Rattle.parking_lot_protocol_rw.specs.UpgradeRoles.{for_release, for_upgradable, for_upgrade, owned}
use Rattle.parking_lot_protocol_rw.specs.UpgradeRoles.{owned_in_release, role}
use Rattle.parking_lot_protocol_rw.specs.UpgradeRules.{IsDraining, IsFreeing, IsOwing, IsReady, IsSeeking}
use Rattle.parking_lot_protocol_rw.specs.declared.upgrade_phase.Hold.{Hold}
use Rattle.parking_lot_protocol_rw.specs.declared.upgrade_phase.UpgradePhase.{UpgradePhase}
use Rattle.parking_lot_machine_calls.specs.CallViews.{drainer_mode, freer_mode, kept_mode, rw_mode, seeker_mode}
use Rattle.parking_lot_machine_calls.specs.CallViews.{upgrade_mode}
use Rattle.parking_lot_machine_calls.specs.CallKinds.{IsOfWorld}
use Rattle.parking_lot_machine_calls.specs.CallRoles.{rw_spot}
use Rattle.parking_lot_machine_calls.specs.declared.seat.QueuePosition.{QueuePosition}
use Rattle.parking_lot_machine_calls.specs.declared.seat.WakeResult.{WakeResult}

-- ONE THAT ASKS FOR THE HOLD

abbrev IsAwake : RwPhase → Type 0
IsAwake (RwPhase.Sleeps want) = ⊥
IsAwake q = Unit {0}

unowned : (at : QueuePosition) (q : RwPhase) → IsAwake q → seeker_mode at q ≡ None
unowned QueuePosition.Listed q a = refl
unowned (QueuePosition.Off by WakeResult.Nothing) q a = refl
unowned (QueuePosition.Off by WakeResult.TryAgain) q a = refl
unowned (QueuePosition.Off by WakeResult.HandedOver) (RwPhase.Sleeps want) a = absurd a
unowned (QueuePosition.Off by WakeResult.HandedOver) q a = refl

none_there : (at : positions.QueuePosition) (us : List ℕ) (q : RwPhase) → IsSeeking q → IsAwake q
    → rw_mode (record { owns = Shares 0; does = for_upgradable (rw.does at us q) }) ≡ None
none_there at us (RwPhase.Sleeps want) i a = absurd a
none_there at us (RwPhase.DrainLoads d) i a = absurd i
none_there at us (RwPhase.DrainSpins d) i a = absurd i
none_there at us (RwPhase.DrainSetParked d word) i a = absurd i
none_there at us (RwPhase.DrainEnters d) i a = absurd i
none_there at us (RwPhase.DrainChecks d) i a = absurd i
none_there at us (RwPhase.DrainRetreats d) i a = absurd i
none_there at us (RwPhase.DrainAppends rounds) i a = absurd i
none_there at us (RwPhase.DrainRests rounds) i a = absurd i
none_there at us (RwPhase.DrainSleeps rounds) i a = absurd i
none_there at us (RwPhase.Scans s) i a = absurd i
none_there at us (RwPhase.Stores s left) i a = absurd i
none_there at us q i a = refl

seeks_so : (at : QueuePosition) (us : List ℕ) (q : RwPhase) → IsSeeking q
    → seeker_mode at q ≡ rw_mode (record { owns = Shares 0; does = for_upgradable (rw.does (rw_spot at) us q) })
seeks_so QueuePosition.Listed us (RwPhase.Sleeps want) i = refl
seeks_so (QueuePosition.Off by WakeResult.Nothing) us (RwPhase.Sleeps want) i = refl
seeks_so (QueuePosition.Off by WakeResult.TryAgain) us (RwPhase.Sleeps want) i = refl
seeks_so (QueuePosition.Off by WakeResult.HandedOver) us (RwPhase.Sleeps want) i = refl
seeks_so at us q i = unowned at q tt ∙ sym (none_there (rw_spot at) us q i tt)

-- ONE THAT WAITS FOR READERS TO LEAVE

drains_so : (at : positions.QueuePosition) (us : List ℕ) (q : RwPhase) → IsDraining q
    → drainer_mode q ≡ rw_mode (record { owns = rw.owns 0 q; does = for_upgrade (rw.does at us q) })
drains_so at us (RwPhase.DrainLoads d) i = refl
drains_so at us (RwPhase.DrainSpins d) i = refl
drains_so at us (RwPhase.DrainSetParked d word) i = refl
drains_so at us (RwPhase.DrainEnters d) i = refl
drains_so at us (RwPhase.DrainChecks d) i = refl
drains_so at us (RwPhase.DrainRetreats d) i = refl
drains_so at us (RwPhase.DrainAppends rounds) i = refl
drains_so at us (RwPhase.DrainRests rounds) i = refl
drains_so positions.Listed us (RwPhase.DrainSleeps rounds) i = refl
drains_so (positions.Off by mark) us (RwPhase.DrainSleeps rounds) i = refl
drains_so at us (RwPhase.Ends end) i = sym (ap (λ o. rw_mode (record { owns = rw.owned_after 0 o; does = Idle })) i)
drains_so at us q i = absurd i

-- ONE THAT GIVES THE HOLD UP, OR OWES A LOOK

frees_so : (at : positions.QueuePosition) (us : List ℕ) (q : RwPhase) → IsFreeing q
    → freer_mode q ≡ rw_mode (record { owns = owned_in_release q; does = for_release (rw.does at us q) })
frees_so at us (RwPhase.LooksExclusive fair rest) i = refl
frees_so at us (RwPhase.Scans s) i = refl
frees_so at us (RwPhase.Stores s left) i = refl
frees_so at us (RwPhase.Leaves rest count handed) i = refl
frees_so at us (RwPhase.Wakes rest count) i = refl
frees_so at us (RwPhase.Finishes rest) i = refl
frees_so at us q i = absurd i

-- what a phase leaves one that has a hold
kept_so : (kept : Hold) → kept_mode kept ≡ rw_mode (record { owns = owned kept; does = Idle })
kept_so Hold.Nothing = refl
kept_so Hold.Shared = refl
kept_so Hold.Upgradable = refl
kept_so Hold.Exclusive = refl

scans_so : (kept : Hold) (s : Scanning) (us : List ℕ)
    → kept_mode kept ≡ rw_mode (record { owns = owned kept; does = Scans1 Owed s.shared s.upgradable s.writer us })
scans_so Hold.Nothing s us = refl
scans_so Hold.Shared s us = refl
scans_so Hold.Upgradable s us = refl
scans_so Hold.Exclusive s us = refl

looks_so : (kept : Hold) (s : Scanning) (us : List ℕ) → rw.cause_of s.rest ≡ Owed
    → kept_mode kept ≡ rw_mode
    (record { owns = owned kept; does = Scans1 (rw.cause_of s.rest) s.shared s.upgradable s.writer us })
looks_so kept s us e = scans_so kept s us
    ∙ sym (ap (λ c. rw_mode (record { owns = owned kept; does = Scans1 c s.shared s.upgradable s.writer us })) e)

owes_so : (at : positions.QueuePosition) (us : List ℕ) (kept : Hold) (q : RwPhase) → IsOwing q
    → kept_mode kept ≡ rw_mode (record { owns = owned kept; does = rw.does at us q })
owes_so at us kept RwPhase.EnterWakeSection i = kept_so kept
owes_so at us kept (RwPhase.Scans s) i = looks_so kept s us (ap rw.cause_of i)
owes_so at us kept (RwPhase.Stores s left) i = looks_so kept s us (ap rw.cause_of i)
owes_so at us kept (RwPhase.Leaves rest count handed) i = kept_so kept
owes_so at us kept (RwPhase.Wakes rest count) i = kept_so kept
owes_so at us kept (RwPhase.Finishes rest) i = kept_so kept
owes_so at us kept q i = absurd i

-- IN ANY PHASE

pub mode_so : (n : ℕ) (at : QueuePosition) (us : List ℕ) (p : UpgradePhase) → IsReady p → IsOfWorld p
    → upgrade_mode at p ≡ rw_mode (role n (rw_spot at) us p)
mode_so n at us (UpgradePhase.Plain core) i o = absurd o
mode_so n at us (UpgradePhase.Seeks core) i o = seeks_so at us core.phase i.0
mode_so n at us (UpgradePhase.Drains core) i o = drains_so (rw_spot at) us core.phase i.0
mode_so n at us (UpgradePhase.Frees r core) i o = frees_so (rw_spot at) us core.phase i
mode_so n at us (UpgradePhase.Owes kept end core) i o = owes_so (rw_spot at) us kept core.phase i
mode_so n at us (UpgradePhase.Ends kept end) i o = kept_so kept
mode_so n at us (UpgradePhase.GivingUp from) i o = absurd o
mode_so n at us p i o = refl
