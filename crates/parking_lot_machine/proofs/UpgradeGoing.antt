-- What an upgradable call keeps and knows from its beginning on.
use Rattle.std.proofs.Common.{◌≡◌, ◌≤◌, ℕ, ◌-◌, ◌^◌, nat_lt, List, [], ◌∷◌, length, Some, refl, sym, ◌∙◌, arith}
use Rattle.parking_lot_core_model.specs.declared.place.Waiter.{Waiter}
use Rattle.parking_lot_protocol.specs.RwTable as rt
use Rattle.parking_lot_protocol.specs.declared.act.ActResult.{ActResult}
use Rattle.parking_lot_protocol.specs.declared.act.CoreAnswer.{CoreAnswer}
use Rattle.parking_lot_protocol.specs.declared.rw_phase.RwPhase.{RwPhase}
use Rattle.parking_lot_protocol_rw.specs.UpgradeRules.{IsReady, IsTold}
use Rattle.parking_lot_protocol_rw.specs.UpgradeTable as ut
use Rattle.parking_lot_protocol_rw.specs.declared.upgrade_phase.Hold.{Hold}
use Rattle.parking_lot_protocol_rw.specs.declared.upgrade_phase.Release.{Release}
use Rattle.parking_lot_protocol_rw.specs.declared.upgrade_phase.UpgradePhase.{UpgradePhase}
use Rattle.parking_lot_machine.specs.RowFits.{frees_prepared, keeps_hold, owes_prepared, scan_keeps, upgrade_begins}
use Rattle.parking_lot_machine.specs.RowFits.{upgrade_keeps, upgrade_knows, upgrade_prepared}
use Rattle.parking_lot_machine_calls.specs.CallKinds.{IsOfWorld}
use Rattle.parking_lot_machine.specs.RwLaws.{count_shared}
use Rattle.parking_lot_machine_calls.specs.Stances.{rw_taken, upgrade_taken}
use Rattle.parking_lot_machine.specs.UpgradeLaws.{UpgradesKeep, WantsTaken, upgrade_shared}
use Rattle.parking_lot_machine.proofs.UpgradeKeeping.{begins, goes_on}
use Rattle.parking_lot_machine.proofs.UpgradeParts.{PartLearns, PartWants, frees_sums, frees_told, owes_sums, owes_told}
use Rattle.parking_lot_machine.proofs.UpgradeParts.{part_keeps, part_knows, pick}

-- OUTSIDE OF SECTIONS

-- One that has just begun a part, or is in none, knows what it needs.
abbrev pub IsFresh : UpgradePhase → Type 0
IsFresh p = upgrade_keeps p × ((first : List Waiter) → upgrade_knows p first)

owes_fresh : (kept : Hold) (end : CoreAnswer) (word : ℕ) → keeps_hold kept → IsFresh (ut.owes kept end word)
owes_fresh kept end word k = pick IsFresh (rt.is_parked word) _ _ ((k, tt), λ f. tt) (tt, λ f. tt)

begun_fresh : (p : UpgradePhase) → IsFresh (ut.begun p)
begun_fresh UpgradePhase.Locking = (tt, λ f. tt)
begun_fresh p = (tt, λ f. tt)

unlocks_fresh : (r : Release) (word : ℕ) → IsFresh (ut.unlocks r word)
unlocks_fresh r word = pick IsFresh (rt.is_parked word) _ _ (tt, λ f. tt) (tt, λ f. tt)

tries_fresh : (left word : ℕ) → IsFresh (ut.tries left word)
tries_fresh left word = pick IsFresh (ut.is_open word) _ _ (tt, λ f. tt) (tt, λ f. tt)

upgrades_fresh : (left word : ℕ) → IsFresh (ut.tries_upgrade left word)
upgrades_fresh left word = pick IsFresh (ut.is_alone word) _ _ (tt, λ f. tt) (tt, λ f. tt)

shown_fresh : (p : UpgradePhase) (word : ℕ) → IsFresh (ut.shown p word)
shown_fresh UpgradePhase.TryLoads word = tries_fresh 63 word
shown_fresh (UpgradePhase.TryAdmits tried left) word = pick IsFresh (nat_lt 0 left) _ _ (tries_fresh (left - 1) word)
    (tt, λ f. tt)
shown_fresh UpgradePhase.TryUpgradeLoads word = upgrades_fresh 63 word
shown_fresh (UpgradePhase.TryUpgrades tried left) word = pick IsFresh (nat_lt 0 left) _ _
    (upgrades_fresh (left - 1) word) (tt, λ f. tt)
shown_fresh UpgradePhase.BumpLoads word = pick IsFresh (rt.is_parked word) _ _ (tt, λ f. tt) (tt, λ f. tt)
shown_fresh (UpgradePhase.UnlockLoads r) word = unlocks_fresh r word
shown_fresh (UpgradePhase.Unlocks r tried) word = unlocks_fresh r word
shown_fresh p word = (tt, λ f. tt)

won_fresh : (p : UpgradePhase) → IsFresh (ut.won p)
won_fresh (UpgradePhase.Unlocks r word) = pick IsFresh (ut.is_again r) _ _ (tt, λ f. tt) (tt, λ f. tt)
won_fresh (UpgradePhase.Yields from word) = owes_fresh (ut.held_before from) CoreAnswer.Released word
    (pick keeps_hold from _ _ tt tt)
won_fresh p = (tt, λ f. tt)

added_fresh : (p : UpgradePhase) (word : ℕ) → IsFresh (ut.added p word)
added_fresh UpgradePhase.ToShared word = owes_fresh Hold.Shared CoreAnswer.Owned word tt
added_fresh UpgradePhase.ToUpgradable word = owes_fresh Hold.Upgradable CoreAnswer.Owned word tt
added_fresh p word = (tt, λ f. tt)

own_fresh : (p : UpgradePhase) (s : ActResult) → IsFresh (ut.own_next p s)
own_fresh p ActResult.Start = begun_fresh p
own_fresh p (ActResult.Word word) = shown_fresh p word
own_fresh p ActResult.Exchanged = won_fresh p
own_fresh p (ActResult.Before word) = added_fresh p word
own_fresh p s = (tt, λ f. tt)

-- WHAT FOLLOWS

frees_want : (r : Release) (q : RwPhase) (s : ActResult) → WantsTaken (UpgradePhase.Frees r (record { phase = q })) s
    → PartWants Hold.Nothing q s
frees_want r (RwPhase.Scans a) (ActResult.Took (Some token) left) w = sym (frees_sums a token.0) ∙ w
frees_want r (RwPhase.Scans a) s w = tt
frees_want r q s w = tt

owes_want : (kept : Hold) (end : CoreAnswer) (q : RwPhase) (s : ActResult) → scan_keeps kept q
    → WantsTaken (UpgradePhase.Owes kept end (record { phase = q })) s → PartWants kept q s
owes_want kept end (RwPhase.Scans a) (ActResult.Took (Some token) left) k w = sym (owes_sums kept a token.0 k.1) ∙ w
owes_want kept end (RwPhase.Scans a) s k w = tt
owes_want kept end q s k w = tt

keeps : (p : UpgradePhase) (x : ℕ) (s : ActResult) → IsReady p → IsOfWorld p → upgrade_keeps p → IsTold p x s
    → WantsTaken p s → upgrade_keeps (ut.next_phase p s)
keeps (UpgradePhase.Plain core) x s i o k told want = absurd o
keeps (UpgradePhase.Seeks core) x s i o k told want = pick upgrade_keeps (ut.owns_now core.phase s) _ _ tt tt
keeps (UpgradePhase.Drains core) x s i o k told want = tt
keeps (UpgradePhase.Frees r core) x s i o k told want =
    pick upgrade_keeps (ut.asks_now r core.phase s) _ _ tt
    (part_keeps Hold.Nothing core.phase s tt (frees_told r core.phase x s o i told) k
    (frees_want r core.phase s want))
keeps (UpgradePhase.Owes kept end core) x s i o k told want = (
  k.0,
  part_keeps kept core.phase s k.0 (owes_told kept end core.phase x s i told) k.1
      (owes_want kept end core.phase s k.1 want),
)
keeps p x s i o k told want = (own_fresh p s).0

-- what one that takes waiters learns
abbrev pub UpgradeLearns : UpgradePhase → ActResult → List Waiter → Type 0
UpgradeLearns (UpgradePhase.Frees r core) s first = PartLearns Hold.Nothing core.phase s first
UpgradeLearns (UpgradePhase.Owes kept end core) s first = PartLearns kept core.phase s first
UpgradeLearns p s first = Unit {0}

pub knows : (p : UpgradePhase) (x : ℕ) (s : ActResult) (first : List Waiter) → IsReady p → IsOfWorld p → IsTold p x s
    → UpgradeLearns p s first → upgrade_knows (ut.next_phase p s) first
knows (UpgradePhase.Plain core) x s first i o told l = absurd o
knows (UpgradePhase.Seeks core) x s first i o told l = pick (λ p. upgrade_knows p first) (ut.owns_now core.phase s) _ _
    tt tt
knows (UpgradePhase.Drains core) x s first i o told l = tt
knows (UpgradePhase.Frees r core) x s first i o told l = pick (λ p. upgrade_knows p first) (ut.asks_now r core.phase s)
    _ _ tt (part_knows Hold.Nothing core.phase s first (frees_told r core.phase x s o i told) l)
knows (UpgradePhase.Owes kept end core) x s first i o told l = part_knows kept core.phase s first
    (owes_told kept end core.phase x s i told) l
knows p x s first i o told l = (own_fresh p s).1 first

-- WHAT IT NEEDS OF THOSE THAT ITS THREAD HAS TAKEN

none_taken : (us : List ℕ) → length us ≡ 0 → us ≡ []
none_taken [] e = refl
none_taken (u ∷ us) e = absurd (omega (arith, e))

frees_needs : (us : List ℕ) (q : RwPhase) → length us ≡ rw_taken q → count_shared q ≤ 2 ^ 18 → frees_prepared us q
frees_needs us (RwPhase.LooksExclusive fair rest) e few = none_taken us e
frees_needs us (RwPhase.Scans a) e few = omega (arith, few)
frees_needs us (RwPhase.Stores a left) e few = (omega (arith, few), e)
frees_needs us (RwPhase.Finishes rest) e few = none_taken us e
frees_needs us q e few = tt

owes_needs : (us : List ℕ) (q : RwPhase) → length us ≡ rw_taken q → count_shared q ≤ 2 ^ 18 → owes_prepared us q
owes_needs us RwPhase.EnterWakeSection e few = none_taken us e
owes_needs us (RwPhase.Scans a) e few = omega (arith, few)
owes_needs us (RwPhase.Finishes rest) e few = none_taken us e
owes_needs us q e few = tt

prepared : (us : List ℕ) (p : UpgradePhase) → IsOfWorld p → length us ≡ upgrade_taken p → upgrade_shared p ≤ 2 ^ 18
    → upgrade_prepared us p
prepared us (UpgradePhase.Plain core) o e few = absurd o
prepared us (UpgradePhase.GivingUp from) o e few = absurd o
prepared us (UpgradePhase.Frees r core) o e few = frees_needs us core.phase e few
prepared us (UpgradePhase.Owes kept end core) o e few = owes_needs us core.phase e few
prepared us p o e few = tt

-- IT BEGINS

begins_in_order : (p : UpgradePhase) → upgrade_begins p → IsOfWorld p × IsReady p
begins_in_order UpgradePhase.Locking k = (tt, tt)
begins_in_order UpgradePhase.Trying k = (tt, tt)
begins_in_order (UpgradePhase.Unlocking r) k = (tt, tt)
begins_in_order UpgradePhase.Upgrading k = (tt, tt)
begins_in_order UpgradePhase.TryingToUpgrade k = (tt, tt)
begins_in_order UpgradePhase.DowngradingToShared k = (tt, tt)
begins_in_order UpgradePhase.DowngradingToUpgradable k = (tt, tt)
begins_in_order p k = absurd k

begins_keeping : (p : UpgradePhase) → upgrade_begins p → upgrade_keeps (ut.next_phase p ActResult.Start)
begins_keeping UpgradePhase.Locking k = tt
begins_keeping UpgradePhase.Trying k = tt
begins_keeping (UpgradePhase.Unlocking r) k = tt
begins_keeping UpgradePhase.Upgrading k = tt
begins_keeping UpgradePhase.TryingToUpgrade k = tt
begins_keeping UpgradePhase.DowngradingToShared k = tt
begins_keeping UpgradePhase.DowngradingToUpgradable k = tt
begins_keeping p k = absurd k

pub upgrades_keep : UpgradesKeep
upgrades_keep = record {
  begins = λ p k. (begins_in_order p k, begins p k, begins_keeping p k);
  goes_on = goes_on;
  keeps = keeps;
  prepared = prepared;
}
