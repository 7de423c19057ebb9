-- Where an upgradable call stands, act by act.
use Rattle.std.proofs.Common.{◌≡◌, ℕ, ◌+◌, ◌-◌, ◌%◌, ◌^◌, ◌==◌, ◌&&◌, ◌||◌, inl, inr, nat_lt, not, Bool, true, false}
use Rattle.std.proofs.Common.{cond, Some, refl, sym, subst, ◌≤◌, arith}
use Rattle.parking_lot_core_model.specs.declared.parking.UnparkToken.{UnparkToken}
use Rattle.parking_lot_protocol.specs.Acts.{Gives}
use Rattle.parking_lot_protocol.specs.RwTable as rt
use Rattle.parking_lot_protocol.specs.declared.act.Act.{Act}
use Rattle.parking_lot_protocol.specs.declared.act.CoreAnswer.{CoreAnswer}
use Rattle.parking_lot_protocol.specs.declared.act.ActResult.{ActResult}
use Rattle.parking_lot_protocol.specs.declared.rw_phase.LockMode.TheVariants as want
use Rattle.parking_lot_protocol.specs.declared.rw_phase.LockMode.{LockMode}
use Rattle.parking_lot_protocol.specs.declared.rw_phase.RwPhase.{RwPhase}
use Rattle.parking_lot_protocol.specs.declared.rw_phase.Seeking.{Seeking}
use Rattle.parking_lot_protocol_rw.specs.declared.upgrade_phase.Hold.{Hold}
use Rattle.parking_lot_protocol_rw.specs.declared.upgrade_phase.Release.{Release}
use Rattle.parking_lot_protocol_rw.specs.declared.upgrade_phase.UpgradePhase.{UpgradePhase}
use Rattle.parking_lot_protocol_rw.specs.UpgradeTable as ut
use Rattle.parking_lot_core_model.specs.declared.parking.ParkToken.{ParkToken}
use Rattle.parking_lot_protocol.specs.declared.act.SectionAct.TheVariants as section
use Rattle.parking_lot_protocol.specs.declared.rw_phase.AfterWake.{AfterWake}
use Rattle.parking_lot_machine_calls.specs.Stances.{Out, Asleep, rw_stance, rw_taken, seeks_stance, upgrade_stance}
use Rattle.parking_lot_machine_calls.specs.Stances.{upgrade_taken, upgrade_tells}
use Rattle.parking_lot_machine_calls.specs.StanceLaws.{HasSmallKey, IsOver, Leads, TakesOne, rw_counts, upgrade_counts}
use Rattle.parking_lot_machine_calls.proofs.PhaseStancing.{HasSome, IsEasy, IsPatient, easy_some, next_so, not_asleep}
use Rattle.parking_lot_machine_calls.proofs.PhaseStancing.{pick, rw_begins, rw_ends, rw_keys, rw_leads, rw_next_some}
use Rattle.parking_lot_machine_calls.proofs.PhaseStancing.{rw_some, rw_takes, rw_wakes}

-- a phase outside, with nobody taken
abbrev Idle : UpgradePhase → Type 0
Idle p = (upgrade_stance p ≡ Out) × (upgrade_taken p ≡ 0)

abbrev SeekIdle : RwPhase → Type 0
SeekIdle q = (seeks_stance q ≡ Out) × (rw_taken q ≡ 0)

seek_idle : (a : Seeking) (word : ℕ) → SeekIdle (rt.seeks a word)
seek_idle a word =
    pick SeekIdle (rt.is_admitted a.want word) _ _ (refl, refl)
    (pick SeekIdle (rt.is_barred a.want word) _ _
    (pick SeekIdle (not (rt.is_parked word || rt.is_writer_parked word) && nat_lt 0 a.rounds) _ _ (refl, refl)
    (pick SeekIdle (rt.is_parked word) _ _ (refl, refl) (refl, refl))) (refl, refl))

-- only one that waits stands elsewhere than as one that asks for the exclusive hold
abbrev AsRw : RwPhase → Type 0
AsRw q = seeks_stance q ≡ rw_stance q

easy_as : (q : RwPhase) → IsEasy q → AsRw q
easy_as (RwPhase.Appends want) e = absurd e
easy_as (RwPhase.Rests want) e = absurd e
easy_as (RwPhase.Sleeps want) e = absurd e
easy_as q e = refl

next_as : (p : RwPhase) (s : ActResult) → IsPatient p → AsRw (rt.next_phase p s)
next_as p s patient = next_so AsRw easy_as (λ rest count h. refl) p s patient

-- ASKING

abbrev seeks_next : RwPhase → ActResult → UpgradePhase
seeks_next q s = cond (ut.owns_now q s) (UpgradePhase.Ends Hold.Upgradable CoreAnswer.Owned)
    (UpgradePhase.Seeks (ut.core_at (rt.next_phase q s)))

abbrev SeeksLead : RwPhase → ActResult → UpgradePhase → Type 0
SeeksLead q s p = Leads (ut.seeks_act q) s (seeks_stance q) (upgrade_stance p) (rw_taken q) (upgrade_taken p)
    (upgrade_tells p)

woken_idle : (want : LockMode) (token : UnparkToken) → Idle (seeks_next (RwPhase.Sleeps want) (ActResult.Woken token))
woken_idle want token = go (token.0 == 1)
  where
    go : (b : Bool) → Idle
        (cond b (UpgradePhase.Ends Hold.Upgradable CoreAnswer.Owned)
        (UpgradePhase.Seeks (ut.core_at (cond b (rt.admits want true) (RwPhase.Loads (rt.begins want true))))))
    go true = (refl, refl)
    go false = (refl, refl)

seeks_lead : (q : RwPhase) (word : ℕ) (s : ActResult) → Gives (ut.seeks_act q) word s → SeeksLead q s (seeks_next q s)
seeks_lead (RwPhase.Admits a from) word s g = go (rt.has_room from) s g
  where
    go : (b : Bool) (s : ActResult) → Gives (cond b (Act.Exchange from ((from + 20) % 2 ^ 64)) Act.Load) word s
        → let p = seeks_next (RwPhase.Admits a from) s in
        Leads (cond b (Act.Exchange from ((from + 20) % 2 ^ 64)) Act.Load) s Out (upgrade_stance p) 0
        (upgrade_taken p) (upgrade_tells p)
    go true ActResult.Exchanged g = (refl, refl, refl)
    go true (ActResult.Word w) g = let x = seek_idle a w in (refl, x.0, x.1)
    go false (ActResult.Word w) g = let x = seek_idle a w in (refl, x.0, x.1)
    go true s g = absurd g
    go false s g = absurd g
seeks_lead (RwPhase.Checks want woken) word (ActResult.Word w) g = go (rt.is_barred want w && rt.is_parked w)
  where
    go : (b : Bool) → SeeksLead (RwPhase.Checks want woken) (ActResult.Word w)
        (UpgradePhase.Seeks (ut.core_at (cond b (RwPhase.Appends want) (RwPhase.Retreats want woken))))
    go true = (0, refl, inr (record { 0 = 20 }, refl), refl, refl)
    go false = (0, refl, inl refl, refl, refl)
seeks_lead (RwPhase.Checks want woken) word s g = absurd g
seeks_lead (RwPhase.Appends want) word ActResult.Made g = (0, omega arith, refl, refl, refl, refl)
seeks_lead (RwPhase.Appends want) word s g = absurd g
seeks_lead (RwPhase.Rests want) word ActResult.Made g = inr (inl (0, record { 0 = 20 }, refl, refl, refl, refl))
seeks_lead (RwPhase.Rests want) word s g = absurd g
seeks_lead (RwPhase.Sleeps want) word (ActResult.Woken token) g = let x = woken_idle want token in
    (λ k park e. (x.0, refl, x.1))
seeks_lead (RwPhase.Sleeps want) word s g = absurd g
seeks_lead q word s g =
    subst (λ b. Leads (rt.act_of q) s (rw_stance q) b (rw_taken q) (rw_taken (rt.next_phase q s))
    (rt.wakes_with (rt.next_phase q s))) (sym (next_as q s tt)) (rw_leads q word s g)

-- IN THE SECTION OF A RELEASE

abbrev frees_next : Release → RwPhase → ActResult → UpgradePhase
frees_next r q s = cond (ut.asks_now r q s) UpgradePhase.Relocks (UpgradePhase.Frees r (ut.core_at (rt.next_phase q s)))

abbrev FreesLead : Release → RwPhase → ActResult → UpgradePhase → Type 0
FreesLead r q s p = Leads (ut.frees_act r q) s (rw_stance q) (upgrade_stance p) (rw_taken q) (upgrade_taken p)
    (upgrade_tells p)

frees_lead : (r : Release) (q : RwPhase) (word : ℕ) (s : ActResult) → Gives (ut.frees_act r q) word s
    → FreesLead r q s (frees_next r q s)
frees_lead r (RwPhase.Stores a left) word (ActResult.Stored fair) g = rw_leads (RwPhase.Stores a left) word
    (ActResult.Stored fair) tt
frees_lead r (RwPhase.Stores a left) word s g = absurd g
frees_lead r (RwPhase.Finishes rest) word s g = go (ut.is_again r) s g
  where
    go : (b : Bool) (s : ActResult) → Gives (cond b Act.Load (Act.Done CoreAnswer.Released)) word s
        → let p = cond (b && ut.is_word s) UpgradePhase.Relocks
        (UpgradePhase.Frees r (ut.core_at (rt.next_phase (RwPhase.Finishes rest) s))) in
        Leads (cond b Act.Load (Act.Done CoreAnswer.Released)) s Out (upgrade_stance p) 0 (upgrade_taken p)
        (upgrade_tells p)
    go true (ActResult.Word w) g = (refl, refl, refl)
    go true s g = absurd g
    go false s g = absurd g
frees_lead r q word s g = rw_leads q word s g

-- OWING A LOOK

abbrev OwesLead : Hold → CoreAnswer → RwPhase → ActResult → Type 0
OwesLead hold end q s = Leads (ut.owes_act hold end q) s (rw_stance q) (rw_stance (rt.next_phase q s)) (rw_taken q)
    (rw_taken (rt.next_phase q s)) (rt.wakes_with (rt.next_phase q s))

owes_lead : (hold : Hold) (end : CoreAnswer) (q : RwPhase) (word : ℕ) (s : ActResult)
    → Gives (ut.owes_act hold end q) word s → OwesLead hold end q s
owes_lead hold end (RwPhase.Scans a) word (ActResult.Took token left) g = rw_leads (RwPhase.Scans a) word
    (ActResult.Took token left) tt
owes_lead hold end (RwPhase.Scans a) word s g = absurd g
owes_lead hold end (RwPhase.Finishes rest) word s g = absurd g
owes_lead hold end q word s g = rw_leads q word s g

-- BY ITSELF

tries_idle : (left word : ℕ) → Idle (ut.tries left word)
tries_idle left word = pick Idle (ut.is_open word) _ _ (refl, refl) (refl, refl)

upgrades_idle : (left word : ℕ) → Idle (ut.tries_upgrade left word)
upgrades_idle left word = pick Idle (ut.is_alone word) _ _ (refl, refl) (refl, refl)

unlocks_idle : (r : Release) (word : ℕ) → Idle (ut.unlocks r word)
unlocks_idle r word = pick Idle (rt.is_parked word) _ _ (refl, refl) (refl, refl)

owes_idle : (hold : Hold) (end : CoreAnswer) (word : ℕ) → Idle (ut.owes hold end word)
owes_idle hold end word = pick Idle (rt.is_parked word) _ _ (refl, refl) (refl, refl)

abbrev LeadsUpgrade : UpgradePhase → ActResult → UpgradePhase → Type 0
LeadsUpgrade p s q = Leads (ut.act_of p) s (upgrade_stance p) (upgrade_stance q) (upgrade_taken p) (upgrade_taken q)
    (upgrade_tells q)

pub upgrade_leads : (p : UpgradePhase) (word : ℕ) (s : ActResult) → Gives (ut.act_of p) word s
    → LeadsUpgrade p s (ut.next_phase p s)
upgrade_leads (UpgradePhase.Plain core) word s g = rw_leads core.phase word s g
upgrade_leads (UpgradePhase.Seeks core) word s g = seeks_lead core.phase word s g
upgrade_leads (UpgradePhase.Drains core) word s g = rw_leads core.phase word s g
upgrade_leads (UpgradePhase.Frees r core) word s g = frees_lead r core.phase word s g
upgrade_leads (UpgradePhase.Owes hold end core) word s g = owes_lead hold end core.phase word s g
upgrade_leads UpgradePhase.TryLoads word (ActResult.Word w) g = let x = tries_idle 63 w in (refl, x.0, x.1)
upgrade_leads (UpgradePhase.TryAdmits from left) word ActResult.Exchanged g = (refl, refl, refl)
upgrade_leads (UpgradePhase.TryAdmits from left) word (ActResult.Word w) g =
    let x = pick Idle (nat_lt 0 left) _ _ (tries_idle (left - 1) w) (refl, refl) in
    (refl, x.0, x.1)
upgrade_leads UpgradePhase.Upgrades word (ActResult.Before w) g = (refl, refl, refl)
upgrade_leads UpgradePhase.TryUpgradeLoads word (ActResult.Word w) g = let x = upgrades_idle 63 w in (refl, x.0, x.1)
upgrade_leads (UpgradePhase.TryUpgrades from left) word ActResult.Exchanged g = (refl, refl, refl)
upgrade_leads (UpgradePhase.TryUpgrades from left) word (ActResult.Word w) g =
    let x = pick Idle (nat_lt 0 left) _ _ (upgrades_idle (left - 1) w) (refl, refl) in
    (refl, x.0, x.1)
upgrade_leads UpgradePhase.BumpLoads word (ActResult.Word w) g = let x = pick Idle (rt.is_parked w) _ _ (refl, refl)
    (refl, refl) in (refl, x.0, x.1)
upgrade_leads UpgradePhase.Relocks word (ActResult.Word w) g = let x = seek_idle (rt.begins want.Exclusive false) w in
    (refl, x.0, x.1)
upgrade_leads (UpgradePhase.UnlockLoads r) word (ActResult.Word w) g = let x = unlocks_idle r w in (refl, x.0, x.1)
upgrade_leads (UpgradePhase.Unlocks r from) word ActResult.Exchanged g = let x =
    pick Idle (ut.is_again r) _ _ (refl, refl) (refl, refl) in (refl, x.0, x.1)
upgrade_leads (UpgradePhase.Unlocks r from) word (ActResult.Word w) g = let x = unlocks_idle r w in (refl, x.0, x.1)
upgrade_leads UpgradePhase.ToShared word (ActResult.Before w) g = let x = owes_idle Hold.Shared CoreAnswer.Owned w in
    (refl, x.0, x.1)
upgrade_leads UpgradePhase.ToUpgradable word (ActResult.Before w) g = let x = owes_idle Hold.Upgradable CoreAnswer.Owned
    w in (refl, x.0, x.1)
upgrade_leads (UpgradePhase.YieldLoads from) word (ActResult.Word w) g = (refl, refl, refl)
upgrade_leads (UpgradePhase.Yields from tried) word ActResult.Exchanged g = let x = owes_idle (ut.held_before from)
    CoreAnswer.Released tried in (refl, x.0, x.1)
upgrade_leads (UpgradePhase.Yields from tried) word (ActResult.Word w) g = (refl, refl, refl)
upgrade_leads p word s g = absurd g

-- WHOM IT HAS TAKEN

abbrev TakesSo : UpgradePhase → ℕ → ActResult → Type 0
TakesSo p word s = TakesOne (upgrade_stance p) (upgrade_stance (ut.next_phase p s)) (upgrade_taken p)
    (upgrade_taken (ut.next_phase p s))

abbrev SeeksTake : RwPhase → ActResult → UpgradePhase → Type 0
SeeksTake q s p = TakesOne (seeks_stance q) (upgrade_stance p) (rw_taken q) (upgrade_taken p)

seeks_take : (q : RwPhase) (word : ℕ) (token : ParkToken) (left : Bool) → let s = ActResult.Took (Some token) left in
    Gives (ut.seeks_act q) word s → rw_counts q token → SeeksTake q s (seeks_next q s)
seeks_take (RwPhase.Admits a from) word token left g h = absurd (go (rt.has_room from) g)
  where
    go : (b : Bool) → Gives (cond b (Act.Exchange from ((from + 20) % 2 ^ 64)) Act.Load) word
        (ActResult.Took (Some token) left) → ⊥
    go true g = g
    go false g = g
seeks_take (RwPhase.Checks want woken) word token left g h = absurd g
seeks_take (RwPhase.Appends want) word token left g h = absurd g
seeks_take (RwPhase.Rests want) word token left g h = absurd g
seeks_take (RwPhase.Sleeps want) word token left g h = absurd g
seeks_take q word token left g h =
    let s = ActResult.Took (Some token) left in
    subst (λ b. TakesOne (rw_stance q) b (rw_taken q) (rw_taken (rt.next_phase q s))) (sym (next_as q s tt))
    (rw_takes q word token left g h)

frees_take : (r : Release) (q : RwPhase) (word : ℕ) (token : ParkToken) (left : Bool) → let s =
    ActResult.Took (Some token) left in Gives (ut.frees_act r q) word s → rw_counts q token
    → TakesOne (rw_stance q) (upgrade_stance (frees_next r q s)) (rw_taken q) (upgrade_taken (frees_next r q s))
frees_take r (RwPhase.Stores a l) word token left g h = absurd g
frees_take r (RwPhase.Finishes rest) word token left g h = absurd (go (ut.is_again r) g)
  where
    go : (b : Bool) → Gives (cond b Act.Load (Act.Done CoreAnswer.Released)) word (ActResult.Took (Some token) left) → ⊥
    go true g = g
    go false g = g
frees_take r q word token left g h = rw_takes q word token left g h

owes_take : (hold : Hold) (end : CoreAnswer) (q : RwPhase) (word : ℕ) (token : ParkToken) (left : Bool) → let s =
    ActResult.Took (Some token) left in Gives (ut.owes_act hold end q) word s → rw_counts q token
    → TakesOne (rw_stance q) (rw_stance (rt.next_phase q s)) (rw_taken q) (rw_taken (rt.next_phase q s))
owes_take hold end (RwPhase.Scans a) word token left g h = rw_takes (RwPhase.Scans a) word token left tt h
owes_take hold end (RwPhase.Finishes rest) word token left g h = absurd g
owes_take hold end q word token left g h = rw_takes q word token left g h

pub upgrade_takes : (p : UpgradePhase) (word : ℕ) (token : ParkToken) (left : Bool) → let s =
    ActResult.Took (Some token) left in Gives (ut.act_of p) word s → upgrade_counts p token → TakesSo p word s
upgrade_takes (UpgradePhase.Plain core) word token left g h = rw_takes core.phase word token left g h
upgrade_takes (UpgradePhase.Seeks core) word token left g h = seeks_take core.phase word token left g h
upgrade_takes (UpgradePhase.Drains core) word token left g h = rw_takes core.phase word token left g h
upgrade_takes (UpgradePhase.Frees r core) word token left g h = frees_take r core.phase word token left g h
upgrade_takes (UpgradePhase.Owes hold end core) word token left g h = owes_take hold end core.phase word token left g h
upgrade_takes p word token left g h = absurd g

-- WHERE IT BEGINS AND ENDS

frees_begin : (r : Release) (q : RwPhase) → Idle (frees_next r q ActResult.Start)
frees_begin r (RwPhase.Finishes rest) = go (ut.is_again r)
  where
    go : (b : Bool) → Idle (cond (b && false) UpgradePhase.Relocks (UpgradePhase.Frees r (ut.core_at RwPhase.Invalid)))
    go true = (refl, refl)
    go false = (refl, refl)
frees_begin r q = rw_begins q

seeks_begin : (q : RwPhase) → Idle (seeks_next q ActResult.Start)
seeks_begin (RwPhase.Finishes rest) = (refl, refl)
seeks_begin q = (refl, refl)

pub upgrade_begins : (p : UpgradePhase) → Idle (ut.next_phase p ActResult.Start)
upgrade_begins (UpgradePhase.Plain core) = rw_begins core.phase
upgrade_begins (UpgradePhase.Seeks core) = seeks_begin core.phase
upgrade_begins (UpgradePhase.Drains core) = rw_begins core.phase
upgrade_begins (UpgradePhase.Frees r core) = frees_begin r core.phase
upgrade_begins (UpgradePhase.Owes hold end core) = rw_begins core.phase
upgrade_begins p = (refl, refl)

seeks_end : (q : RwPhase) → IsOver (ut.seeks_act q) (seeks_stance q) (rw_taken q)
seeks_end (RwPhase.Admits a from) = pick (λ (b : Act). IsOver b Out 0) (rt.has_room from)
    (Act.Exchange from ((from + 20) % 2 ^ 64)) Act.Load tt tt
seeks_end (RwPhase.Appends want) = tt
seeks_end (RwPhase.Rests want) = tt
seeks_end (RwPhase.Sleeps want) = tt
seeks_end q = rw_ends q

frees_end : (r : Release) (q : RwPhase) → IsOver (ut.frees_act r q) (rw_stance q) (rw_taken q)
frees_end r (RwPhase.Stores a left) = tt
frees_end r (RwPhase.Finishes rest) = pick (λ (b : Act). IsOver b Out 0) (ut.is_again r) Act.Load
    (Act.Done CoreAnswer.Released) tt (refl, refl)
frees_end r q = rw_ends q

owes_end : (hold : Hold) (end : CoreAnswer) (q : RwPhase) → IsOver (ut.owes_act hold end q) (rw_stance q) (rw_taken q)
owes_end hold end (RwPhase.Scans a) = tt
owes_end hold end (RwPhase.Finishes rest) = (refl, refl)
owes_end hold end q = rw_ends q

pub upgrade_ends : (p : UpgradePhase) → IsOver (ut.act_of p) (upgrade_stance p) (upgrade_taken p)
upgrade_ends (UpgradePhase.Plain core) = rw_ends core.phase
upgrade_ends (UpgradePhase.Seeks core) = seeks_end core.phase
upgrade_ends (UpgradePhase.Drains core) = rw_ends core.phase
upgrade_ends (UpgradePhase.Frees r core) = frees_end r core.phase
upgrade_ends (UpgradePhase.Owes hold end core) = owes_end hold end core.phase
upgrade_ends UpgradePhase.TryLoads = tt
upgrade_ends (UpgradePhase.TryAdmits word left) = tt
upgrade_ends UpgradePhase.Upgrades = tt
upgrade_ends UpgradePhase.TryUpgradeLoads = tt
upgrade_ends (UpgradePhase.TryUpgrades word left) = tt
upgrade_ends UpgradePhase.BumpLoads = tt
upgrade_ends UpgradePhase.Relocks = tt
upgrade_ends (UpgradePhase.UnlockLoads r) = tt
upgrade_ends (UpgradePhase.Unlocks r word) = tt
upgrade_ends UpgradePhase.ToShared = tt
upgrade_ends UpgradePhase.ToUpgradable = tt
upgrade_ends (UpgradePhase.YieldLoads from) = tt
upgrade_ends (UpgradePhase.Yields from word) = tt
upgrade_ends p = (refl, refl)

-- A SLEEPER

seeks_wake : (q : RwPhase) (k : ℕ) (token : ParkToken) (said : UnparkToken) → seeks_stance q ≡ Asleep k token
    → (rw_taken q ≡ 0) × Idle (seeks_next q (ActResult.Woken said))
seeks_wake (RwPhase.Sleeps want) k token said e = (refl, woken_idle want said)
seeks_wake (RwPhase.DrainSleeps rounds) k token said e = (refl, (refl, refl))
seeks_wake q k token said e = absurd (not_asleep {a = seeks_stance q} tt e)

frees_wake : (r : Release) (q : RwPhase) (k : ℕ) (token : ParkToken) (said : UnparkToken) → rw_stance q ≡ Asleep k token
    → (rw_taken q ≡ 0) × Idle (frees_next r q (ActResult.Woken said))
frees_wake r (RwPhase.Sleeps want) k token said e = rw_wakes (RwPhase.Sleeps want) k token said e
frees_wake r (RwPhase.DrainSleeps rounds) k token said e = rw_wakes (RwPhase.DrainSleeps rounds) k token said e
frees_wake r q k token said e = absurd (not_asleep {a = rw_stance q} tt e)

pub upgrade_wakes : (p : UpgradePhase) (k : ℕ) (token : ParkToken) (said : UnparkToken)
    → upgrade_stance p ≡ Asleep k token → (upgrade_taken p ≡ 0) × Idle (ut.next_phase p (ActResult.Woken said))
upgrade_wakes (UpgradePhase.Plain core) k token said e = rw_wakes core.phase k token said e
upgrade_wakes (UpgradePhase.Seeks core) k token said e = seeks_wake core.phase k token said e
upgrade_wakes (UpgradePhase.Drains core) k token said e = rw_wakes core.phase k token said e
upgrade_wakes (UpgradePhase.Frees r core) k token said e = frees_wake r core.phase k token said e
upgrade_wakes (UpgradePhase.Owes hold end core) k token said e = rw_wakes core.phase k token said e
upgrade_wakes p k token said e = absurd (not_asleep {a = upgrade_stance p} tt e)

-- ONE THAT IS TO WAKE SOMEBODY

abbrev WakesWell : UpgradePhase → Type 0
WakesWell p = ut.act_of p ≡ Act.Section section.Wake → 1 ≤ upgrade_taken p

seeks_some : (q : RwPhase) → HasSome q → ut.seeks_act q ≡ Act.Section section.Wake → 1 ≤ rw_taken q
seeks_some (RwPhase.Wakes rest count) h e = h
seeks_some (RwPhase.Admits a from) h e = absurd (go (rt.has_room from) e)
  where
    go : (b : Bool) → cond b (Act.Exchange from ((from + 20) % 2 ^ 64)) Act.Load ≡ Act.Section section.Wake → ⊥
    go true e = cc
    go false e = cc
seeks_some (RwPhase.Appends want) h e = cc
seeks_some q h e = rw_some q h e

frees_some : (r : Release) (q : RwPhase) → HasSome q → ut.frees_act r q ≡ Act.Section section.Wake → 1 ≤ rw_taken q
frees_some r (RwPhase.Stores a left) h e = cc
frees_some r (RwPhase.Finishes rest) h e = absurd (go (ut.is_again r) e)
  where
    go : (b : Bool) → cond b Act.Load (Act.Done CoreAnswer.Released) ≡ Act.Section section.Wake → ⊥
    go true e = cc
    go false e = cc
frees_some r q h e = rw_some q h e

owes_some : (hold : Hold) (end : CoreAnswer) (q : RwPhase) → HasSome q
    → ut.owes_act hold end q ≡ Act.Section section.Wake → 1 ≤ rw_taken q
owes_some hold end (RwPhase.Scans a) h e = cc
owes_some hold end (RwPhase.Finishes rest) h e = cc
owes_some hold end q h e = rw_some q h e

ends_well : (hold : Hold) (end : CoreAnswer) → WakesWell (UpgradePhase.Ends hold end)
ends_well hold end e = cc

admits_well : (word left : ℕ) → WakesWell (UpgradePhase.TryAdmits word left)
admits_well word left e = cc

upgrades_well : (word left : ℕ) → WakesWell (UpgradePhase.TryUpgrades word left)
upgrades_well word left e = cc

unlocks_well : (r : Release) (word : ℕ) → WakesWell (UpgradePhase.Unlocks r word)
unlocks_well r word e = cc

looks_well : (r : Release) (b : Bool)
    → WakesWell (UpgradePhase.Frees r (ut.core_at (RwPhase.LooksExclusive b AfterWake.FreedExclusive)))
looks_well r b e = cc

enters_well : (hold : Hold) (end : CoreAnswer)
    → WakesWell (UpgradePhase.Owes hold end (ut.core_at RwPhase.EnterWakeSection))
enters_well hold end e = cc

refuses_well : WakesWell UpgradePhase.Refuses
refuses_well e = cc

relocks_well : WakesWell UpgradePhase.Relocks
relocks_well e = cc

drains_well : WakesWell (UpgradePhase.Drains (ut.core_at (RwPhase.DrainLoads (rt.pends false))))
drains_well e = cc

yields_well : (from : Bool) (word : ℕ) → WakesWell (UpgradePhase.Yields from word)
yields_well from word e = cc

astray_well : WakesWell UpgradePhase.Invalid
astray_well e = cc

tries_well : (left word : ℕ) → WakesWell (ut.tries left word)
tries_well left word = pick WakesWell (ut.is_open word) _ _ (admits_well word left) refuses_well

tries_upgrade_well : (left word : ℕ) → WakesWell (ut.tries_upgrade left word)
tries_upgrade_well left word = pick WakesWell (ut.is_alone word) _ _ (upgrades_well word left)
    (ends_well Hold.Upgradable CoreAnswer.Refused)

unlocking_well : (r : Release) (word : ℕ) → WakesWell (ut.unlocks r word)
unlocking_well r word = pick WakesWell (rt.is_parked word) _ _ (looks_well r (ut.is_fair r)) (unlocks_well r word)

owes_well : (hold : Hold) (end : CoreAnswer) (word : ℕ) → WakesWell (ut.owes hold end word)
owes_well hold end word = pick WakesWell (rt.is_parked word) _ _ (enters_well hold end) (ends_well hold end)

own_well : (p : UpgradePhase) (s : ActResult) → WakesWell (ut.own_next p s)
own_well p ActResult.Start = begun p
  where
    begun : (p : UpgradePhase) → WakesWell (ut.begun p)
    begun UpgradePhase.Locking e = cc
    begun p e = cc
own_well p (ActResult.Word word) = shown p
  where
    shown : (p : UpgradePhase) → WakesWell (ut.shown p word)
    shown UpgradePhase.TryLoads = tries_well 63 word
    shown (UpgradePhase.TryAdmits tried left) = pick WakesWell (nat_lt 0 left) _ _ (tries_well (left - 1) word)
        refuses_well
    shown UpgradePhase.TryUpgradeLoads = tries_upgrade_well 63 word
    shown (UpgradePhase.TryUpgrades tried left) = pick WakesWell (nat_lt 0 left) _ _
        (tries_upgrade_well (left - 1) word) (ends_well Hold.Upgradable CoreAnswer.Refused)
    shown UpgradePhase.BumpLoads = pick WakesWell (rt.is_parked word) _ _ (looks_well Release.Again true)
        (ends_well Hold.Upgradable CoreAnswer.Owned)
    shown UpgradePhase.Relocks = λ e. seeks_some (rt.seeks (rt.begins want.Exclusive false) word)
        (next_so HasSome easy_some (λ rest count h. h) (RwPhase.Relocks want.Exclusive) (ActResult.Word word) tt) e
    shown (UpgradePhase.UnlockLoads r) = unlocking_well r word
    shown (UpgradePhase.Unlocks r tried) = unlocking_well r word
    shown (UpgradePhase.YieldLoads from) = yields_well from word
    shown (UpgradePhase.Yields from tried) = yields_well from word
    shown p = astray_well
own_well p ActResult.Exchanged = won p
  where
    won : (p : UpgradePhase) → WakesWell (ut.won p)
    won (UpgradePhase.TryAdmits word left) = ends_well Hold.Upgradable CoreAnswer.Owned
    won (UpgradePhase.TryUpgrades word left) = ends_well Hold.Exclusive CoreAnswer.Owned
    won (UpgradePhase.Unlocks r word) = pick WakesWell (ut.is_again r) _ _ relocks_well
        (ends_well Hold.Nothing CoreAnswer.Released)
    won (UpgradePhase.Yields from word) = owes_well (ut.held_before from) CoreAnswer.Released word
    won p = astray_well
own_well p (ActResult.Before word) = added p
  where
    added : (p : UpgradePhase) → WakesWell (ut.added p word)
    added UpgradePhase.Upgrades = drains_well
    added UpgradePhase.ToShared = owes_well Hold.Shared CoreAnswer.Owned word
    added UpgradePhase.ToUpgradable = owes_well Hold.Upgradable CoreAnswer.Owned word
    added p = astray_well
own_well p s = astray_well

pub upgrade_some : (p : UpgradePhase) (s : ActResult) → WakesWell (ut.next_phase p s)
upgrade_some (UpgradePhase.Plain core) s = λ e. rw_some (rt.next_phase core.phase s) (rw_next_some core.phase s) e
upgrade_some (UpgradePhase.Seeks core) s = pick WakesWell (ut.owns_now core.phase s) _ _
    (ends_well Hold.Upgradable CoreAnswer.Owned)
    (λ e. seeks_some (rt.next_phase core.phase s) (rw_next_some core.phase s) e)
upgrade_some (UpgradePhase.Drains core) s = λ e. rw_some (rt.next_phase core.phase s) (rw_next_some core.phase s) e
upgrade_some (UpgradePhase.Frees r core) s = pick WakesWell (ut.asks_now r core.phase s) _ _ relocks_well
    (λ e. frees_some r (rt.next_phase core.phase s) (rw_next_some core.phase s) e)
upgrade_some (UpgradePhase.Owes hold end core) s = λ e. owes_some hold end (rt.next_phase core.phase s)
    (rw_next_some core.phase s) e
upgrade_some p s = own_well p s

-- ITS KEYS

seeks_keys : (q : RwPhase) → HasSmallKey (seeks_stance q)
seeks_keys (RwPhase.Appends want) = omega arith
seeks_keys (RwPhase.Rests want) = omega arith
seeks_keys (RwPhase.Sleeps want) = omega arith
seeks_keys q = rw_keys q

pub upgrade_keys : (p : UpgradePhase) → HasSmallKey (upgrade_stance p)
upgrade_keys (UpgradePhase.Plain core) = rw_keys core.phase
upgrade_keys (UpgradePhase.Seeks core) = seeks_keys core.phase
upgrade_keys (UpgradePhase.Drains core) = rw_keys core.phase
upgrade_keys (UpgradePhase.Frees r core) = rw_keys core.phase
upgrade_keys (UpgradePhase.Owes hold end core) = rw_keys core.phase
upgrade_keys p = tt
