-- Where an upgradable call ends, and what it keeps from its beginning on.
use Rattle.std.proofs.Common.{◌≡◌, ◌<◌, ℕ, ◌+◌, ◌-◌, ◌/◌, ◌%◌, ◌==◌, ◌^◌, ◌&&◌, ◌||◌, nat_lt, not, Bool, true, false}
use Rattle.std.proofs.Common.{cond, List, [], Some, slice_get, slice_set, refl, sym, ap, ◌∙◌, subst}
use Rattle.std.proofs.lemmas.Bool.{both_ways, lt-ltb}
use Rattle.parking_lot_rules.specs.Lock.{Lock}
use Rattle.parking_lot_rules.specs.Roles.{Shares, Excludes}
use Rattle.parking_lot_rules.specs.Roles as rules
use Rattle.parking_lot_protocol.specs.RwTable as rt
use Rattle.parking_lot_protocol.specs.RwRules as rw
use Rattle.parking_lot_protocol.specs.declared.act.Act.{Act}
use Rattle.parking_lot_protocol.specs.declared.act.ActResult.{ActResult}
use Rattle.parking_lot_protocol.specs.declared.act.CoreAnswer.{CoreAnswer}
use Rattle.parking_lot_protocol.specs.declared.rw_phase.RwPhase.{RwPhase}
use Rattle.parking_lot_protocol.specs.declared.rw_phase.Seeking.{Seeking}
use Rattle.parking_lot_protocol_rw.specs.declared.upgrade_phase.Hold.{Hold}
use Rattle.parking_lot_protocol_rw.specs.declared.upgrade_phase.Release.{Release}
use Rattle.parking_lot_protocol_rw.specs.declared.upgrade_phase.UpgradePhase.{UpgradePhase}
use Rattle.parking_lot_protocol_rw.specs.UpgradeRoles.{owned, role}
use Rattle.parking_lot_protocol_rw.specs.UpgradeRules.{IsDraining, IsFreeing, IsOwing, IsReady, IsSeeking, IsTold}
use Rattle.parking_lot_protocol_rw.specs.UpgradeTable as ut
use Rattle.parking_lot_protocol.specs.Acts.{Gives}
use Rattle.parking_lot_protocol.specs.Positions.{QueuePosition}
use Rattle.parking_lot_protocol_rw.specs.UpgradeMoves.{last_move}
use Rattle.parking_lot_machine.specs.RwLaws.{IsLastStep}
use Rattle.parking_lot_machine.specs.UpgradeLaws.{MeetsUpgrade, UpgradesEnd, upgrade_owned_after}
use Rattle.parking_lot_machine.specs.RowFits.{frees_prepared, owes_prepared, upgrade_begins}
use Rattle.parking_lot_machine_calls.specs.CallKinds.{IsOfWorld, seeks_room}
use Rattle.parking_lot_machine_calls.specs.Stances.{upgrade_begun}
use Rattle.parking_lot_machine.proofs.UpgradeParts.{pick}

-- WHERE IT ENDS

abbrev IsDone : Act → Type 0
IsDone (Act.Done answer) = Unit {0}
IsDone a = ⊥

seeks_on : (q : RwPhase) → IsSeeking q → IsDone (ut.seeks_act q) → ⊥
seeks_on (RwPhase.Admits a from) i e = go (rt.has_room from) e
  where
    go : (b : Bool) → IsDone (cond b (Act.Exchange from ((from + 20) % 2 ^ 64)) Act.Load) → ⊥
    go true e = e
    go false e = e
seeks_on (RwPhase.Locking want) i e = absurd i
seeks_on (RwPhase.Trying want) i e = absurd i
seeks_on RwPhase.UnlockingShared i e = absurd i
seeks_on (RwPhase.UnlockingExclusive fair) i e = absurd i
seeks_on RwPhase.Downgrading i e = absurd i
seeks_on RwPhase.BumpingShared i e = absurd i
seeks_on RwPhase.BumpingExclusive i e = absurd i
seeks_on (RwPhase.DrainLoads d) i e = absurd i
seeks_on (RwPhase.DrainSpins d) i e = absurd i
seeks_on (RwPhase.DrainSetParked d from) i e = absurd i
seeks_on (RwPhase.DrainEnters d) i e = absurd i
seeks_on (RwPhase.DrainChecks d) i e = absurd i
seeks_on (RwPhase.DrainRetreats d) i e = absurd i
seeks_on (RwPhase.DrainAppends rounds) i e = absurd i
seeks_on (RwPhase.DrainRests rounds) i e = absurd i
seeks_on (RwPhase.DrainSleeps rounds) i e = absurd i
seeks_on (RwPhase.TryLoads want) i e = absurd i
seeks_on (RwPhase.TryAdmits want from left) i e = absurd i
seeks_on (RwPhase.Refuses want) i e = absurd i
seeks_on (RwPhase.BumpLoads want) i e = absurd i
seeks_on (RwPhase.Relocks want) i e = absurd i
seeks_on (RwPhase.Unshares rest) i e = absurd i
seeks_on (RwPhase.EnterWriterWakeSection rest) i e = absurd i
seeks_on (RwPhase.TakeWriter rest) i e = absurd i
seeks_on (RwPhase.ClearWriterParked rest has) i e = absurd i
seeks_on (RwPhase.LeaveWriterWakeSection rest has) i e = absurd i
seeks_on (RwPhase.Unlocks fair rest) i e = absurd i
seeks_on (RwPhase.LooksExclusive fair rest) i e = absurd i
seeks_on RwPhase.Downgrades i e = absurd i
seeks_on RwPhase.EnterWakeSection i e = absurd i
seeks_on (RwPhase.Scans a) i e = absurd i
seeks_on (RwPhase.Stores a left) i e = absurd i
seeks_on (RwPhase.Leaves rest count handed) i e = absurd i
seeks_on (RwPhase.Wakes rest count) i e = absurd i
seeks_on (RwPhase.Finishes rest) i e = absurd i
seeks_on (RwPhase.Ends outcome) i e = absurd i
seeks_on RwPhase.Invalid i e = absurd i
seeks_on q i e = e

drains_end : (n : ℕ) (spot : QueuePosition) (us : List ℕ) (q : RwPhase) → IsDraining q → IsDone (rt.act_of q)
    → record { owns = Excludes; does = rules.Idle } ≡ role n spot us (UpgradePhase.Drains (record { phase = q }))
drains_end n spot us (RwPhase.Ends end) i e = sym (ap (λ o. record { owns = rw.owned_after 0 o; does = rules.Idle }) i)
drains_end n spot us (RwPhase.Locking want) i e = absurd i
drains_end n spot us (RwPhase.Trying want) i e = absurd i
drains_end n spot us RwPhase.UnlockingShared i e = absurd i
drains_end n spot us (RwPhase.UnlockingExclusive fair) i e = absurd i
drains_end n spot us RwPhase.Downgrading i e = absurd i
drains_end n spot us RwPhase.BumpingShared i e = absurd i
drains_end n spot us RwPhase.BumpingExclusive i e = absurd i
drains_end n spot us (RwPhase.Loads a) i e = absurd i
drains_end n spot us (RwPhase.Admits a from) i e = absurd i
drains_end n spot us (RwPhase.Spins a) i e = absurd i
drains_end n spot us (RwPhase.SetParked a from) i e = absurd i
drains_end n spot us (RwPhase.Enters want woken) i e = absurd i
drains_end n spot us (RwPhase.Checks want woken) i e = absurd i
drains_end n spot us (RwPhase.Retreats want woken) i e = absurd i
drains_end n spot us (RwPhase.Appends want) i e = absurd i
drains_end n spot us (RwPhase.Rests want) i e = absurd i
drains_end n spot us (RwPhase.Sleeps want) i e = absurd i
drains_end n spot us (RwPhase.TryLoads want) i e = absurd i
drains_end n spot us (RwPhase.TryAdmits want from left) i e = absurd i
drains_end n spot us (RwPhase.Refuses want) i e = absurd i
drains_end n spot us (RwPhase.BumpLoads want) i e = absurd i
drains_end n spot us (RwPhase.Relocks want) i e = absurd i
drains_end n spot us (RwPhase.Unshares rest) i e = absurd i
drains_end n spot us (RwPhase.EnterWriterWakeSection rest) i e = absurd i
drains_end n spot us (RwPhase.TakeWriter rest) i e = absurd i
drains_end n spot us (RwPhase.ClearWriterParked rest has) i e = absurd i
drains_end n spot us (RwPhase.LeaveWriterWakeSection rest has) i e = absurd i
drains_end n spot us (RwPhase.Unlocks fair rest) i e = absurd i
drains_end n spot us (RwPhase.LooksExclusive fair rest) i e = absurd i
drains_end n spot us RwPhase.Downgrades i e = absurd i
drains_end n spot us RwPhase.EnterWakeSection i e = absurd i
drains_end n spot us (RwPhase.Scans a) i e = absurd i
drains_end n spot us (RwPhase.Stores a left) i e = absurd i
drains_end n spot us (RwPhase.Leaves rest count handed) i e = absurd i
drains_end n spot us (RwPhase.Wakes rest count) i e = absurd i
drains_end n spot us (RwPhase.Finishes rest) i e = absurd i
drains_end n spot us RwPhase.Invalid i e = absurd i
drains_end n spot us q i e = absurd e

-- one whose wakes are done
frees_end : (l : Lock) (t n : ℕ) (spot : QueuePosition) (us : List ℕ) (way : Release) (q : RwPhase) → IsFreeing q
    → frees_prepared us q → slice_get l.roles t ≡ Some (role n spot us (UpgradePhase.Frees way (record { phase = q })))
    → IsDone (ut.frees_act way q)
    → slice_get l.roles t ≡ Some (record { owns = Shares 0; does = rules.Wakes [] })
frees_end l t n spot us way (RwPhase.Finishes rest) i m at e = at
    ∙ ap (λ vs. Some (record { owns = Shares 0; does = rules.Wakes vs })) m
frees_end l t n spot us way (RwPhase.Locking want) i m at e = absurd i
frees_end l t n spot us way (RwPhase.Trying want) i m at e = absurd i
frees_end l t n spot us way RwPhase.UnlockingShared i m at e = absurd i
frees_end l t n spot us way (RwPhase.UnlockingExclusive fair) i m at e = absurd i
frees_end l t n spot us way RwPhase.Downgrading i m at e = absurd i
frees_end l t n spot us way RwPhase.BumpingShared i m at e = absurd i
frees_end l t n spot us way RwPhase.BumpingExclusive i m at e = absurd i
frees_end l t n spot us way (RwPhase.Loads a) i m at e = absurd i
frees_end l t n spot us way (RwPhase.Admits a from) i m at e = absurd i
frees_end l t n spot us way (RwPhase.Spins a) i m at e = absurd i
frees_end l t n spot us way (RwPhase.SetParked a from) i m at e = absurd i
frees_end l t n spot us way (RwPhase.Enters want woken) i m at e = absurd i
frees_end l t n spot us way (RwPhase.Checks want woken) i m at e = absurd i
frees_end l t n spot us way (RwPhase.Retreats want woken) i m at e = absurd i
frees_end l t n spot us way (RwPhase.Appends want) i m at e = absurd i
frees_end l t n spot us way (RwPhase.Rests want) i m at e = absurd i
frees_end l t n spot us way (RwPhase.Sleeps want) i m at e = absurd i
frees_end l t n spot us way (RwPhase.DrainLoads d) i m at e = absurd i
frees_end l t n spot us way (RwPhase.DrainSpins d) i m at e = absurd i
frees_end l t n spot us way (RwPhase.DrainSetParked d from) i m at e = absurd i
frees_end l t n spot us way (RwPhase.DrainEnters d) i m at e = absurd i
frees_end l t n spot us way (RwPhase.DrainChecks d) i m at e = absurd i
frees_end l t n spot us way (RwPhase.DrainRetreats d) i m at e = absurd i
frees_end l t n spot us way (RwPhase.DrainAppends rounds) i m at e = absurd i
frees_end l t n spot us way (RwPhase.DrainRests rounds) i m at e = absurd i
frees_end l t n spot us way (RwPhase.DrainSleeps rounds) i m at e = absurd i
frees_end l t n spot us way (RwPhase.TryLoads want) i m at e = absurd i
frees_end l t n spot us way (RwPhase.TryAdmits want from left) i m at e = absurd i
frees_end l t n spot us way (RwPhase.Refuses want) i m at e = absurd i
frees_end l t n spot us way (RwPhase.BumpLoads want) i m at e = absurd i
frees_end l t n spot us way (RwPhase.Relocks want) i m at e = absurd i
frees_end l t n spot us way (RwPhase.Unshares rest) i m at e = absurd i
frees_end l t n spot us way (RwPhase.EnterWriterWakeSection rest) i m at e = absurd i
frees_end l t n spot us way (RwPhase.TakeWriter rest) i m at e = absurd i
frees_end l t n spot us way (RwPhase.ClearWriterParked rest has) i m at e = absurd i
frees_end l t n spot us way (RwPhase.LeaveWriterWakeSection rest has) i m at e = absurd i
frees_end l t n spot us way (RwPhase.Unlocks fair rest) i m at e = absurd i
frees_end l t n spot us way RwPhase.Downgrades i m at e = absurd i
frees_end l t n spot us way RwPhase.EnterWakeSection i m at e = absurd i
frees_end l t n spot us way (RwPhase.Ends outcome) i m at e = absurd i
frees_end l t n spot us way RwPhase.Invalid i m at e = absurd i
frees_end l t n spot us way q i m at e = absurd e

owes_end : (l : Lock) (t n : ℕ) (spot : QueuePosition) (us : List ℕ) (hold : Hold) (end : CoreAnswer) (q : RwPhase)
    → IsOwing q → owes_prepared us q
    → slice_get l.roles t ≡ Some (role n spot us (UpgradePhase.Owes hold end (record { phase = q })))
    → IsDone (ut.owes_act hold end q)
    → slice_get l.roles t ≡ Some (record { owns = owned hold; does = rules.Wakes [] })
owes_end l t n spot us hold end (RwPhase.Finishes rest) i m at e = at
    ∙ ap (λ vs. Some (record { owns = owned hold; does = rules.Wakes vs })) m
owes_end l t n spot us hold end (RwPhase.Locking want) i m at e = absurd i
owes_end l t n spot us hold end (RwPhase.Trying want) i m at e = absurd i
owes_end l t n spot us hold end RwPhase.UnlockingShared i m at e = absurd i
owes_end l t n spot us hold end (RwPhase.UnlockingExclusive fair) i m at e = absurd i
owes_end l t n spot us hold end RwPhase.Downgrading i m at e = absurd i
owes_end l t n spot us hold end RwPhase.BumpingShared i m at e = absurd i
owes_end l t n spot us hold end RwPhase.BumpingExclusive i m at e = absurd i
owes_end l t n spot us hold end (RwPhase.Loads a) i m at e = absurd i
owes_end l t n spot us hold end (RwPhase.Admits a from) i m at e = absurd i
owes_end l t n spot us hold end (RwPhase.Spins a) i m at e = absurd i
owes_end l t n spot us hold end (RwPhase.SetParked a from) i m at e = absurd i
owes_end l t n spot us hold end (RwPhase.Enters want woken) i m at e = absurd i
owes_end l t n spot us hold end (RwPhase.Checks want woken) i m at e = absurd i
owes_end l t n spot us hold end (RwPhase.Retreats want woken) i m at e = absurd i
owes_end l t n spot us hold end (RwPhase.Appends want) i m at e = absurd i
owes_end l t n spot us hold end (RwPhase.Rests want) i m at e = absurd i
owes_end l t n spot us hold end (RwPhase.Sleeps want) i m at e = absurd i
owes_end l t n spot us hold end (RwPhase.DrainLoads d) i m at e = absurd i
owes_end l t n spot us hold end (RwPhase.DrainSpins d) i m at e = absurd i
owes_end l t n spot us hold end (RwPhase.DrainSetParked d from) i m at e = absurd i
owes_end l t n spot us hold end (RwPhase.DrainEnters d) i m at e = absurd i
owes_end l t n spot us hold end (RwPhase.DrainChecks d) i m at e = absurd i
owes_end l t n spot us hold end (RwPhase.DrainRetreats d) i m at e = absurd i
owes_end l t n spot us hold end (RwPhase.DrainAppends rounds) i m at e = absurd i
owes_end l t n spot us hold end (RwPhase.DrainRests rounds) i m at e = absurd i
owes_end l t n spot us hold end (RwPhase.DrainSleeps rounds) i m at e = absurd i
owes_end l t n spot us hold end (RwPhase.TryLoads want) i m at e = absurd i
owes_end l t n spot us hold end (RwPhase.TryAdmits want from left) i m at e = absurd i
owes_end l t n spot us hold end (RwPhase.Refuses want) i m at e = absurd i
owes_end l t n spot us hold end (RwPhase.BumpLoads want) i m at e = absurd i
owes_end l t n spot us hold end (RwPhase.Relocks want) i m at e = absurd i
owes_end l t n spot us hold end (RwPhase.Unshares rest) i m at e = absurd i
owes_end l t n spot us hold end (RwPhase.EnterWriterWakeSection rest) i m at e = absurd i
owes_end l t n spot us hold end (RwPhase.TakeWriter rest) i m at e = absurd i
owes_end l t n spot us hold end (RwPhase.ClearWriterParked rest has) i m at e = absurd i
owes_end l t n spot us hold end (RwPhase.LeaveWriterWakeSection rest has) i m at e = absurd i
owes_end l t n spot us hold end (RwPhase.Unlocks fair rest) i m at e = absurd i
owes_end l t n spot us hold end (RwPhase.LooksExclusive fair rest) i m at e = absurd i
owes_end l t n spot us hold end RwPhase.Downgrades i m at e = absurd i
owes_end l t n spot us hold end (RwPhase.Ends outcome) i m at e = absurd i
owes_end l t n spot us hold end RwPhase.Invalid i m at e = absurd i
owes_end l t n spot us hold end q i m at e = absurd e

ends_by : (recursive : Bool) (l : Lock) (t n : ℕ) (spot : QueuePosition) (us : List ℕ) (p : UpgradePhase) (x : ℕ)
    → MeetsUpgrade l t n spot us p x → upgrade_begun p ≡ true → IsDone (ut.act_of p)
    → IsLastStep recursive (last_move n p) l t (role n spot us p) x
    (record { owns = upgrade_owned_after p; does = rules.Idle })
ends_by recursive l t n spot us (UpgradePhase.Plain core) x h b e = absurd h.prepared
ends_by recursive l t n spot us (UpgradePhase.Seeks core) x h b e = absurd (seeks_on core.phase h.ready.0 e)
ends_by recursive l t n spot us (UpgradePhase.Drains core) x h b e = drains_end n spot us core.phase h.ready.0 e
ends_by recursive l t n spot us (UpgradePhase.Frees way core) x h b e = (
  (frees_end l t n spot us way core.phase h.ready h.prepared h.here e, tt),
  λ i. record l { word = h.word i; roles = slice_set l.roles t (record { owns = Shares 0; does = rules.Idle }) },
)
ends_by recursive l t n spot us (UpgradePhase.Owes hold end core) x h b e = (
  (owes_end l t n spot us hold end core.phase h.ready h.prepared h.here e, tt),
  λ i. record l {
    word = h.word i;
    roles = slice_set l.roles t (record { owns = owned hold; does = rules.Idle });
  },
)
ends_by recursive l t n spot us UpgradePhase.Refuses x h b e = (
  (h.here, tt),
  λ i. record l
      { word = h.word i; roles = slice_set l.roles t (record { owns = Shares 0; does = rules.Idle }) },
)
ends_by recursive l t n spot us (UpgradePhase.Ends hold end) x h b e = refl
ends_by recursive l t n spot us UpgradePhase.Invalid x h b e = refl
ends_by recursive l t n spot us UpgradePhase.Locking x h b e = absurd (both_ways false refl b)
ends_by recursive l t n spot us UpgradePhase.Trying x h b e = absurd (both_ways false refl b)
ends_by recursive l t n spot us (UpgradePhase.Unlocking r) x h b e = absurd (both_ways false refl b)
ends_by recursive l t n spot us UpgradePhase.Bumping x h b e = absurd (both_ways false refl b)
ends_by recursive l t n spot us UpgradePhase.Upgrading x h b e = absurd (both_ways false refl b)
ends_by recursive l t n spot us UpgradePhase.TryingToUpgrade x h b e = absurd (both_ways false refl b)
ends_by recursive l t n spot us UpgradePhase.DowngradingToShared x h b e = absurd (both_ways false refl b)
ends_by recursive l t n spot us UpgradePhase.DowngradingToUpgradable x h b e = absurd (both_ways false refl b)
ends_by recursive l t n spot us (UpgradePhase.GivingUp from) x h b e = absurd (both_ways false refl b)
ends_by recursive l t n spot us p x h b e = absurd e

pub upgrades_end : UpgradesEnd
upgrades_end recursive l t n spot us p x answer h b e = ends_by recursive l t n spot us p x h b
    (subst IsDone (sym e) tt)

-- WHAT IT KEEPS

seeks_roomy : (a : Seeking) (word : ℕ) → word / 16 < 2 ^ 60 - 1 → seeks_room (rt.seeks a word)
seeks_roomy a word few =
    pick seeks_room (rt.is_admitted a.want word) _ _ (lt-ltb (word / 16) (2 ^ 60 - 1) few)
    (pick seeks_room (rt.is_barred a.want word) _ _
    (pick seeks_room (not (rt.is_parked word || rt.is_writer_parked word) && nat_lt 0 a.rounds) _ _ tt
    (pick seeks_room (rt.is_parked word) _ _ tt tt)) tt)

abbrev seeks_next : RwPhase → ActResult → UpgradePhase
seeks_next q s = cond (ut.owns_now q s) (UpgradePhase.Ends Hold.Upgradable CoreAnswer.Owned)
    (UpgradePhase.Seeks (ut.core_at (rt.next_phase q s)))

seen_room : (x v : ℕ) → v ≡ x → x / 16 < 2 ^ 60 - 1 → v / 16 < 2 ^ 60 - 1
seen_room x v e few = subst (λ y. y / 16 < 2 ^ 60 - 1) (sym e) few

seeks_keep : (q : RwPhase) (x : ℕ) (s : ActResult) → IsSeeking q → x / 16 < 2 ^ 60 - 1 → Gives (ut.seeks_act q) x s
    → IsOfWorld (seeks_next q s)
seeks_keep (RwPhase.Loads a) x (ActResult.Word v) i few g = seeks_roomy a v (seen_room x v g few)
seeks_keep (RwPhase.Admits a from) x s i few g = go (rt.has_room from) s g
  where
    go : (b : Bool) (s : ActResult) → Gives (cond b (Act.Exchange from ((from + 20) % 2 ^ 64)) Act.Load) x s
        → IsOfWorld (seeks_next (RwPhase.Admits a from) s)
    go true ActResult.Exchanged g = tt
    go true (ActResult.Word v) g = seeks_roomy a v (seen_room x v g.0 few)
    go false (ActResult.Word v) g = seeks_roomy a v (seen_room x v g few)
    go true s g = absurd g
    go false s g = absurd g
seeks_keep (RwPhase.Spins a) x (ActResult.Spun spun) i few g = tt
seeks_keep (RwPhase.SetParked a from) x ActResult.Exchanged i few g = tt
seeks_keep (RwPhase.SetParked a from) x (ActResult.Word v) i few g = seeks_roomy a v (seen_room x v g.0 few)
seeks_keep (RwPhase.Enters want woken) x ActResult.Entered i few g = tt
seeks_keep (RwPhase.Checks want woken) x (ActResult.Word v) i few g =
    pick seeks_room (rt.is_barred want v && rt.is_parked v) (RwPhase.Appends want) (RwPhase.Retreats want woken) tt tt
seeks_keep (RwPhase.Retreats want woken) x ActResult.Made i few g = tt
seeks_keep (RwPhase.Appends want) x ActResult.Made i few g = tt
seeks_keep (RwPhase.Rests want) x ActResult.Made i few g = tt
seeks_keep (RwPhase.Sleeps want) x (ActResult.Woken token) i few g = go (token.0 == 1)
  where
    go : (b : Bool) → IsOfWorld
        (cond b (UpgradePhase.Ends Hold.Upgradable CoreAnswer.Owned)
        (UpgradePhase.Seeks (ut.core_at (cond b (rt.admits want true) (RwPhase.Loads (rt.begins want true))))))
    go true = tt
    go false = tt
seeks_keep (RwPhase.Locking want) x s i few g = absurd i
seeks_keep (RwPhase.Trying want) x s i few g = absurd i
seeks_keep RwPhase.UnlockingShared x s i few g = absurd i
seeks_keep (RwPhase.UnlockingExclusive fair) x s i few g = absurd i
seeks_keep RwPhase.Downgrading x s i few g = absurd i
seeks_keep RwPhase.BumpingShared x s i few g = absurd i
seeks_keep RwPhase.BumpingExclusive x s i few g = absurd i
seeks_keep (RwPhase.DrainLoads d) x s i few g = absurd i
seeks_keep (RwPhase.DrainSpins d) x s i few g = absurd i
seeks_keep (RwPhase.DrainSetParked d from) x s i few g = absurd i
seeks_keep (RwPhase.DrainEnters d) x s i few g = absurd i
seeks_keep (RwPhase.DrainChecks d) x s i few g = absurd i
seeks_keep (RwPhase.DrainRetreats d) x s i few g = absurd i
seeks_keep (RwPhase.DrainAppends rounds) x s i few g = absurd i
seeks_keep (RwPhase.DrainRests rounds) x s i few g = absurd i
seeks_keep (RwPhase.DrainSleeps rounds) x s i few g = absurd i
seeks_keep (RwPhase.TryLoads want) x s i few g = absurd i
seeks_keep (RwPhase.TryAdmits want from left) x s i few g = absurd i
seeks_keep (RwPhase.Refuses want) x s i few g = absurd i
seeks_keep (RwPhase.BumpLoads want) x s i few g = absurd i
seeks_keep (RwPhase.Relocks want) x s i few g = absurd i
seeks_keep (RwPhase.Unshares rest) x s i few g = absurd i
seeks_keep (RwPhase.EnterWriterWakeSection rest) x s i few g = absurd i
seeks_keep (RwPhase.TakeWriter rest) x s i few g = absurd i
seeks_keep (RwPhase.ClearWriterParked rest has) x s i few g = absurd i
seeks_keep (RwPhase.LeaveWriterWakeSection rest has) x s i few g = absurd i
seeks_keep (RwPhase.Unlocks fair rest) x s i few g = absurd i
seeks_keep (RwPhase.LooksExclusive fair rest) x s i few g = absurd i
seeks_keep RwPhase.Downgrades x s i few g = absurd i
seeks_keep RwPhase.EnterWakeSection x s i few g = absurd i
seeks_keep (RwPhase.Scans a) x s i few g = absurd i
seeks_keep (RwPhase.Stores a left) x s i few g = absurd i
seeks_keep (RwPhase.Leaves rest count handed) x s i few g = absurd i
seeks_keep (RwPhase.Wakes rest count) x s i few g = absurd i
seeks_keep (RwPhase.Finishes rest) x s i few g = absurd i
seeks_keep (RwPhase.Ends outcome) x s i few g = absurd i
seeks_keep RwPhase.Invalid x s i few g = absurd i
seeks_keep q x s i few g = absurd g

once_more : (r : Release) (b : Bool) (p : UpgradePhase) → ut.is_again r ≡ false → b ≡ false → IsOfWorld p
    → IsOfWorld (cond b UpgradePhase.Relocks p)
once_more r false p k e h = h
once_more r true p k e h = absurd (both_ways true e refl)

asks_not : (r : Release) (q : RwPhase) (s : ActResult) → ut.is_again r ≡ false → ut.asks_now r q s ≡ false
asks_not r (RwPhase.Finishes rest) s k = ap (λ b. b && ut.is_word s) k
asks_not r q s k = refl

pub goes_on : (p : UpgradePhase) (x : ℕ) (s : ActResult) → upgrade_begun p ≡ true → IsReady p → IsOfWorld p
    → x / 16 < 2 ^ 60 - 1 → IsTold p x s → IsOfWorld (ut.next_phase p s)
goes_on (UpgradePhase.Plain core) x s b i k few g = absurd k
goes_on (UpgradePhase.Seeks core) x s b i k few g = seeks_keep core.phase x s i.0 few g
goes_on (UpgradePhase.Drains core) x s b i k few g = tt
goes_on (UpgradePhase.Frees r core) x s b i k few g = once_more r (ut.asks_now r core.phase s)
    (UpgradePhase.Frees r (ut.core_at (rt.next_phase core.phase s))) k (asks_not r core.phase s k) k
goes_on (UpgradePhase.Owes hold end core) x s b i k few g = tt
goes_on UpgradePhase.TryLoads x (ActResult.Word w) b i k few g = pick IsOfWorld (ut.is_open w) _ _ tt tt
goes_on (UpgradePhase.TryAdmits from left) x ActResult.Exchanged b i k few g = tt
goes_on (UpgradePhase.TryAdmits from left) x (ActResult.Word w) b i k few g = pick IsOfWorld (nat_lt 0 left) _ _
    (pick IsOfWorld (ut.is_open w) _ _ tt tt) tt
goes_on UpgradePhase.Upgrades x (ActResult.Before w) b i k few g = tt
goes_on UpgradePhase.TryUpgradeLoads x (ActResult.Word w) b i k few g = pick IsOfWorld (ut.is_alone w) _ _ tt tt
goes_on (UpgradePhase.TryUpgrades from left) x ActResult.Exchanged b i k few g = tt
goes_on (UpgradePhase.TryUpgrades from left) x (ActResult.Word w) b i k few g = pick IsOfWorld (nat_lt 0 left) _ _
    (pick IsOfWorld (ut.is_alone w) _ _ tt tt) tt
goes_on UpgradePhase.BumpLoads x s b i k few g = absurd k
goes_on UpgradePhase.Relocks x s b i k few g = absurd k
goes_on (UpgradePhase.UnlockLoads r) x (ActResult.Word w) b i k few g = pick IsOfWorld (rt.is_parked w) _ _ k k
goes_on (UpgradePhase.Unlocks r from) x ActResult.Exchanged b i k few g =
    once_more r (ut.is_again r) (UpgradePhase.Ends Hold.Nothing CoreAnswer.Released) k k tt
goes_on (UpgradePhase.Unlocks r from) x (ActResult.Word w) b i k few g = pick IsOfWorld (rt.is_parked w) _ _ k k
goes_on UpgradePhase.ToShared x (ActResult.Before w) b i k few g = pick IsOfWorld (rt.is_parked w) _ _ tt tt
goes_on UpgradePhase.ToUpgradable x (ActResult.Before w) b i k few g = pick IsOfWorld (rt.is_parked w) _ _ tt tt
goes_on (UpgradePhase.YieldLoads from) x (ActResult.Word w) b i k few g = tt
goes_on (UpgradePhase.Yields from tried) x ActResult.Exchanged b i k few g = pick IsOfWorld (rt.is_parked tried) _ _ tt
    tt
goes_on (UpgradePhase.Yields from tried) x (ActResult.Word w) b i k few g = tt
goes_on UpgradePhase.Locking x s b i k few g = absurd (both_ways false refl b)
goes_on UpgradePhase.Trying x s b i k few g = absurd (both_ways false refl b)
goes_on (UpgradePhase.Unlocking r) x s b i k few g = absurd (both_ways false refl b)
goes_on UpgradePhase.Bumping x s b i k few g = absurd (both_ways false refl b)
goes_on UpgradePhase.Upgrading x s b i k few g = absurd (both_ways false refl b)
goes_on UpgradePhase.TryingToUpgrade x s b i k few g = absurd (both_ways false refl b)
goes_on UpgradePhase.DowngradingToShared x s b i k few g = absurd (both_ways false refl b)
goes_on UpgradePhase.DowngradingToUpgradable x s b i k few g = absurd (both_ways false refl b)
goes_on (UpgradePhase.GivingUp from) x s b i k few g = absurd (both_ways false refl b)
goes_on p x s b i k few g = absurd g

pub begins : (p : UpgradePhase) → upgrade_begins p → IsOfWorld (ut.next_phase p ActResult.Start)
    × IsReady (ut.next_phase p ActResult.Start)
begins UpgradePhase.Locking k = (tt, (refl, tt))
begins UpgradePhase.Trying k = (tt, tt)
begins (UpgradePhase.Unlocking r) k = (k, tt)
begins UpgradePhase.Upgrading k = (tt, tt)
begins UpgradePhase.TryingToUpgrade k = (tt, tt)
begins UpgradePhase.DowngradingToShared k = (tt, tt)
begins UpgradePhase.DowngradingToUpgradable k = (tt, tt)
begins p k = absurd k
