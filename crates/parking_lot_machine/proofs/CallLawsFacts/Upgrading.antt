-- How the phases of an upgradable call lead from stage to stage.
use Rattle.std.proofs.Common.{◌≡◌, inl, inr, ℕ, ◌-◌, ◌&&◌, Bool, true, false, cond, nat_lt, refl, sym, ap, subst}
use Rattle.std.proofs.lemmas.Bool.{false≢true}
use Rattle.parking_lot_protocol.specs.Acts.{Gives}
use Rattle.parking_lot_protocol.specs.RwTable as rw
use Rattle.parking_lot_protocol.specs.declared.act.Act.{Act}
use Rattle.parking_lot_protocol.specs.declared.act.ActResult.{ActResult}
use Rattle.parking_lot_protocol.specs.declared.act.ActResult.TheVariants.{Word, Exchanged, Before}
use Rattle.parking_lot_protocol.specs.declared.act.CoreAnswer.{CoreAnswer}
use Rattle.parking_lot_protocol.specs.declared.rw_core.RwCore.{RwCore}
use Rattle.parking_lot_protocol.specs.declared.rw_phase.RwPhase.{RwPhase}
use Rattle.parking_lot_protocol.specs.declared.rw_phase.RwPhase.TheVariants as r
use Rattle.parking_lot_protocol_rw.specs.UpgradeTable as upgrade
use Rattle.parking_lot_protocol_rw.specs.declared.upgrade_phase.Hold as up
use Rattle.parking_lot_protocol_rw.specs.declared.upgrade_phase.Hold.TheVariants as up_hold
use Rattle.parking_lot_protocol_rw.specs.declared.upgrade_phase.Release.{Release}
use Rattle.parking_lot_protocol_rw.specs.declared.upgrade_phase.UpgradePhase.{UpgradePhase}
use Rattle.parking_lot_protocol_rw.specs.declared.upgrade_phase.UpgradePhase.TheVariants as u
use Rattle.parking_lot_machine_calls.specs.CallActs.{kept_hold}
use Rattle.parking_lot_machine_calls.specs.CallKinds.{IsOfWorld}
use Rattle.parking_lot_machine_calls.specs.declared.calls.OwnMode.TheVariants.{Upgradable, Exclusive}
use Rattle.parking_lot_machine_calls.specs.declared.seat.Hold.{Hold}
use Rattle.parking_lot_machine.specs.CallLaws.Stages.{Stage, Asks, Tries, Quits, Frees, Over, Leads, drains_stage}
use Rattle.parking_lot_machine.specs.CallLaws.Stages.{frees_stage, upgrade_stage}
use Rattle.parking_lot_machine.proofs.CallLawsFacts.Phases.{leads_cond}

abbrev pub upgrade_on : (n : ℕ) → UpgradePhase → Stage → Type 0
upgrade_on n p a = Leads n a (upgrade_stage n p)

upgrade_tries : (n left word : ℕ) → upgrade_on n (upgrade.tries left word) (Tries Upgradable false)
upgrade_tries n left word = leads_cond n _ (upgrade_stage n) (upgrade.is_open word) _ _ (inl refl) (inr refl)

upgrade_retries : (n left word : ℕ) → upgrade_on n (upgrade.retries left word) (Tries Upgradable false)
upgrade_retries n left word = leads_cond n _ (upgrade_stage n) (nat_lt 0 left) _ _ (upgrade_tries n (left - 1) word)
    (inr refl)

tries_upgrade : (n left word : ℕ) → upgrade_on n (upgrade.tries_upgrade left word) (Tries Exclusive true)
tries_upgrade n left word = leads_cond n _ (upgrade_stage n) (upgrade.is_alone word) _ _ (inl refl) (inr refl)

retries_upgrade : (n left word : ℕ) → upgrade_on n (upgrade.retries_upgrade left word) (Tries Exclusive true)
retries_upgrade n left word = leads_cond n _ (upgrade_stage n) (nat_lt 0 left) _ _ (tries_upgrade n (left - 1) word)
    (inr refl)

upgrade_unlocks : (n : ℕ) (way : Release) (word : ℕ) → upgrade_on n (upgrade.unlocks way word) (Frees true)
upgrade_unlocks n way word = leads_cond n _ (upgrade_stage n) (rw.is_parked word) _ _ (inl refl) (inl refl)

upgrade_over : (n : ℕ) (way : Release) (again : Bool) → upgrade.is_again way ≡ again → again ≡ false
    → upgrade_on n (cond again u.Relocks (u.Ends up_hold.Nothing CoreAnswer.Released)) (Frees true)
upgrade_over n way true e not = absurd (false≢true (sym not))
upgrade_over n way false e not = inr refl

upgrade_owes : (n : ℕ) (a : Stage) (kept : up.Hold) (answer : CoreAnswer) (word : ℕ)
    → Leads n a (Over answer (kept_hold kept)) → upgrade_on n (upgrade.owes kept answer word) a
upgrade_owes n a kept answer word h = leads_cond n _ (upgrade_stage n) (rw.is_parked word) _ _ h h

upgrade_yields : (n : ℕ) (from : Bool) (word : ℕ) → n ≡ 0
    → upgrade_on n (upgrade.owes (upgrade.held_before from) CoreAnswer.Released word) (Quits Exclusive from)
upgrade_yields n true word none = upgrade_owes n _ _ _ word (inr refl)
upgrade_yields n false word none = upgrade_owes n _ _ _ word (inr (ap Hold.Shares (sym none)))

-- what waits for readers goes on until it owns the lock
drains_on : (n : ℕ) (p q : RwPhase) → drains_stage p ≡ Asks Exclusive true → Leads n (drains_stage p) (drains_stage q)
drains_on n p (r.Ends outcome) e = subst (λ (a : Stage). Leads n a (drains_stage (r.Ends outcome))) (sym e) (inr refl)
drains_on n p q e = subst (λ (a : Stage). Leads n a (drains_stage q)) (sym e) (inl refl)

frees_on : (n : ℕ) (p q : RwPhase) → frees_stage p ≡ Frees true → Leads n (frees_stage p) (frees_stage q)
frees_on n p (r.Finishes way) e = subst (λ (a : Stage). Leads n a (frees_stage (r.Finishes way))) (sym e) (inr refl)
frees_on n p q e = subst (λ (a : Stage). Leads n a (frees_stage q)) (sym e) (inl refl)

-- it isn't at its end
drains_yet : (p : RwPhase) (word : ℕ) (s : ActResult) → Gives (rw.act_of p) word s
    → drains_stage p ≡ Asks Exclusive true
drains_yet (r.Ends outcome) word s g = absurd g
drains_yet p word s g = refl

frees_yet : (p : RwPhase) (word : ℕ) (s : ActResult) (way : Release) → upgrade.is_again way ≡ false
    → Gives (upgrade.frees_act way p) word s → frees_stage p ≡ Frees true
frees_yet (r.Finishes rest) word s way not g =
    absurd (subst (λ (b : Bool). Gives (cond b Act.Load (Act.Done CoreAnswer.Released)) word s) not g)
frees_yet p word s way not g = refl

asks_no_more : (way : Release) (p : RwPhase) (s : ActResult) → upgrade.is_again way ≡ false
    → upgrade.asks_now way p s ≡ false
asks_no_more way (r.Finishes rest) s not = ap (λ b. b && upgrade.is_word s) not
asks_no_more way p s not = refl

frees_next : (n : ℕ) (way : Release) (c : RwCore) (s : ActResult) (asks : Bool) → asks ≡ false
    → frees_stage c.phase ≡ Frees true
    → Leads n (frees_stage c.phase) (upgrade_stage n (cond asks u.Relocks (u.Frees way (upgrade.told c s))))
frees_next n way c s true e yet = absurd (false≢true (sym e))
frees_next n way c s false e yet = frees_on n c.phase (rw.next_phase c.phase s) yet

pub upgrade_leads : (n : ℕ) (p : UpgradePhase) (word : ℕ) (s : ActResult) → n ≡ 0 → IsOfWorld p
    → Gives (upgrade.act_of p) word s → upgrade_on n (upgrade.next_phase p s) (upgrade_stage n p)
upgrade_leads n (u.Seeks c) word s none world g = leads_cond n _ (upgrade_stage n) (upgrade.owns_now c.phase s) _ _
    (inr refl) (inl refl)
upgrade_leads n (u.Drains c) word s none world g = drains_on n c.phase (rw.next_phase c.phase s)
    (drains_yet c.phase word s g)
upgrade_leads n (u.Frees way c) word s none world g = frees_next n way c s (upgrade.asks_now way c.phase s)
    (asks_no_more way c.phase s world) (frees_yet c.phase word s way world g)
upgrade_leads n (u.Owes kept answer c) word s none world g = inl refl
upgrade_leads n u.TryLoads word (Word k) none world g = upgrade_tries n 63 k
upgrade_leads n (u.TryAdmits from left) word Exchanged none world g = inr refl
upgrade_leads n (u.TryAdmits from left) word (Word k) none world g = upgrade_retries n left k
upgrade_leads n u.Upgrades word (Before k) none world g = inl refl
upgrade_leads n u.TryUpgradeLoads word (Word k) none world g = tries_upgrade n 63 k
upgrade_leads n (u.TryUpgrades from left) word Exchanged none world g = inr refl
upgrade_leads n (u.TryUpgrades from left) word (Word k) none world g = retries_upgrade n left k
upgrade_leads n (u.UnlockLoads way) word (Word k) none world g = upgrade_unlocks n way k
upgrade_leads n (u.Unlocks way from) word Exchanged none world g = upgrade_over n way (upgrade.is_again way) refl world
upgrade_leads n (u.Unlocks way from) word (Word k) none world g = upgrade_unlocks n way k
upgrade_leads n u.ToShared word (Before k) none world g = upgrade_owes n _ _ _ k (inr refl)
upgrade_leads n u.ToUpgradable word (Before k) none world g = upgrade_owes n _ _ _ k (inr refl)
upgrade_leads n (u.YieldLoads from) word (Word k) none world g = inl refl
upgrade_leads n (u.Yields from tried) word Exchanged none world g = upgrade_yields n from tried none
upgrade_leads n (u.Yields from tried) word (Word k) none world g = inl refl
upgrade_leads n u.BumpLoads word s none world g = absurd world
upgrade_leads n u.Relocks word s none world g = absurd world
upgrade_leads n (u.Plain c) word s none world g = absurd world
upgrade_leads n p word s none world g = absurd g
