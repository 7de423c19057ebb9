-- Where a phase stands, act by act.
use Rattle.std.proofs.Common.{◌≡◌, ◌≤◌, ◌<◌, ℕ, ◌+◌, ◌-◌, ◌/◌, ◌%◌, ◌^◌, ◌==◌, ◌&&◌, ◌||◌, inl, inr, nat_lt, not, min}
use Rattle.std.proofs.Common.{Bool, true, false, cond, Option, Some, None, is_some, Result, Ok, Err, refl, sym, ap}
use Rattle.std.proofs.Common.{subst, arith}
use Rattle.std.proofs.lemmas.Bool.{ltb-true, ltb-false}
use Rattle.std.specs.Option.{option_map, option_map_or, option_and_then}
use Rattle.parking_lot_core_model.specs.declared.parking.ParkToken.{ParkToken}
use Rattle.parking_lot_core_model.specs.declared.parking.UnparkToken.{UnparkToken}
use Rattle.parking_lot_protocol.specs.Acts.{Gives, is_start, is_entered, is_made, word_seen, word_before, exchange_seen}
use Rattle.parking_lot_protocol.specs.Acts.{spun_seen, took_seen, stored_seen, woken_seen}
use Rattle.parking_lot_protocol.specs.MutexTable as mt
use Rattle.parking_lot_protocol.specs.RwTable as rt
use Rattle.parking_lot_protocol.specs.declared.act.Act.{Act}
use Rattle.parking_lot_protocol.specs.declared.act.CoreAnswer.TheVariants as answer
use Rattle.parking_lot_protocol.specs.declared.act.SectionAct.TheVariants as section
use Rattle.parking_lot_protocol.specs.declared.act.ActResult.{ActResult}
use Rattle.parking_lot_protocol.specs.declared.mutex_phase.Asking.{Asking}
use Rattle.parking_lot_protocol.specs.declared.mutex_phase.MutexPhase.{MutexPhase}
use Rattle.parking_lot_protocol.specs.declared.rw_phase.Draining.{Draining}
use Rattle.parking_lot_protocol.specs.declared.rw_phase.Outcome.TheVariants as outcome
use Rattle.parking_lot_protocol.specs.declared.rw_phase.AfterWake.{AfterWake}
use Rattle.parking_lot_protocol.specs.declared.rw_phase.RwPhase.{RwPhase}
use Rattle.parking_lot_protocol.specs.declared.rw_phase.Scanning.{Scanning}
use Rattle.parking_lot_protocol.specs.declared.rw_phase.Seeking.{Seeking}
use Rattle.parking_lot_protocol.specs.declared.rw_phase.LockMode.{LockMode}
use Rattle.parking_lot_machine_calls.specs.declared.seat.LatePhase.{LatePhase}
use Rattle.parking_lot_machine_calls.specs.declared.seat.Core.{Core}
use Rattle.parking_lot_machine_calls.specs.Stances.{Takes, Stores, Tells, Stance, Out, In, Asleep, sign, mutex_stance}
use Rattle.parking_lot_machine_calls.specs.Stances.{late_act, late_next, late_stance, rw_stance, stance, mutex_taken}
use Rattle.parking_lot_machine_calls.specs.Stances.{rw_taken, taken_count, core_act}
use Rattle.parking_lot_machine_calls.specs.StanceLaws.{Leads, LeadsCore, rw_counts, TakesOne, IsOver, HasSmallKey}
use Rattle.parking_lot_rules.specs.Classes.{bit}

-- what holds of both holds of either
pub pick : {X : Type 0} (P : X → Type 0) (b : Bool) (x y : X) → P x → P y → P (cond b x y)
pick P true x y h k = h
pick P false x y h k = k

-- MUTEXES

-- a phase outside, with nobody taken
abbrev Idle : MutexPhase → Type 0
Idle p = (mutex_stance p ≡ Out) × (mutex_taken p ≡ 0)

seeks_idle : (a : Asking) (word : ℕ) → Idle (mt.seeks a word)
seeks_idle a word =
    pick Idle (word == 0) _ _ (refl, refl)
    (pick Idle (word == 2) _ _ (refl, refl) (pick Idle (word == 1) _ _ (pick Idle (nat_lt 0 a.rounds) _ _ (refl, refl) (refl, refl)) (refl, refl)))

tries_idle : (left word : ℕ) → Idle (mt.tries left word)
tries_idle left word = pick Idle (word == 0) _ _ (refl, refl) (pick Idle (word == 2) _ _ (refl, refl) (refl, refl))

retries_idle : (left word : ℕ) → Idle (mt.retries left word)
retries_idle left word = pick Idle (nat_lt 0 left) _ _ (tries_idle (left - 1) word) (refl, refl)

abbrev LeadsM : MutexPhase → ActResult → MutexPhase → Type 0
LeadsM p s q = Leads (mt.act_of p) s (mutex_stance p) (mutex_stance q) (mutex_taken p) (mutex_taken q) (mt.wakes_with q)

pub mutex_leads : (p : MutexPhase) (word : ℕ) (s : ActResult) → Gives (mt.act_of p) word s → LeadsM p s (mt.next_phase p s)
mutex_leads (MutexPhase.Loads a) word (ActResult.Word w) g = let i = seeks_idle a w in (refl, i.0, i.1)
mutex_leads (MutexPhase.Locks a waiters) word ActResult.Exchanged g = (refl, refl, refl)
mutex_leads (MutexPhase.Locks a waiters) word (ActResult.Word w) g = let i = seeks_idle a w in (refl, i.0, i.1)
mutex_leads (MutexPhase.Spins a) word (ActResult.Spun spun) g = let i =
    pick Idle spun (MutexPhase.Loads (record a { rounds = a.rounds - 1 })) (MutexPhase.Parks a) (refl, refl)
    (refl, refl) in (refl, i.0, i.1)
mutex_leads (MutexPhase.Parks a) word ActResult.Exchanged g = (refl, refl, refl)
mutex_leads (MutexPhase.Parks a) word (ActResult.Word w) g = let i = seeks_idle a w in (refl, i.0, i.1)
mutex_leads (MutexPhase.Enters woken) word ActResult.Entered g = (refl, inl refl, refl)
mutex_leads (MutexPhase.Checks woken) word (ActResult.Word w) g = go (w == 3)
  where
    go : (b : Bool) → LeadsM (MutexPhase.Checks woken) (ActResult.Word w) (cond b MutexPhase.Appends (MutexPhase.Retreats woken))
    go true = (0, refl, inr (record { 0 = 0 }, refl), refl, refl)
    go false = (0, refl, inl refl, refl, refl)
mutex_leads (MutexPhase.Retreats woken) word ActResult.Made g = inl (0, refl, refl, refl, refl)
mutex_leads MutexPhase.Appends word ActResult.Made g = (0, omega arith, refl, refl, refl, refl)
mutex_leads MutexPhase.Rests word ActResult.Made g = inr (inl (0, record { 0 = 0 }, refl, refl, refl, refl))
mutex_leads MutexPhase.Sleeps word (ActResult.Woken token) g =
    let i = pick Idle (token.0 == 1) (MutexPhase.Ends answer.Owned) (MutexPhase.Loads (mt.begins true)) (refl, refl) (refl, refl) in (λ k park e. (i.0, refl, i.1))
mutex_leads MutexPhase.TryLoads word (ActResult.Word w) g = let i = tries_idle 63 w in (refl, i.0, i.1)
mutex_leads (MutexPhase.TryLocks waiters left) word ActResult.Exchanged g = (refl, refl, refl)
mutex_leads (MutexPhase.TryLocks waiters left) word (ActResult.Word w) g = let i = retries_idle left w in (refl, i.0, i.1)
mutex_leads MutexPhase.BumpLoads word (ActResult.Word w) g =
    let i = pick Idle (w / 2 % 2 == 1) (MutexPhase.Unlocks (record { fair = true; again = true })) (MutexPhase.Ends answer.Owned) (refl, refl) (refl, refl) in (refl, i.0, i.1)
mutex_leads MutexPhase.Relocks word (ActResult.Word w) g = let i = seeks_idle (mt.begins false) w in (refl, i.0, i.1)
mutex_leads (MutexPhase.Unlocks a) word ActResult.Exchanged g = let i = pick Idle a.again MutexPhase.Relocks
    (MutexPhase.Ends answer.Released) (refl, refl) (refl, refl) in (refl, i.0, i.1)
mutex_leads (MutexPhase.Unlocks a) word (ActResult.Word w) g = (refl, refl, refl)
mutex_leads (MutexPhase.Looks a) word ActResult.Entered g = (refl, inr refl, refl)
mutex_leads (MutexPhase.Takes a) word (ActResult.Took None left) g = (0, refl, (refl, refl))
mutex_leads (MutexPhase.Takes a) word (ActResult.Took (Some token) left) g = (0, refl, tt)
mutex_leads (MutexPhase.Stores a taken left) word (ActResult.Stored fair) g = go (taken && (a.fair || fair))
  where
    go : (b : Bool) → Leads (mt.act_of (MutexPhase.Stores a taken left)) (ActResult.Stored fair) (In 0 Stores)
        (In 0 (Tells (sign b))) (bit taken) (bit taken) (mt.wakes_with (MutexPhase.Leaves a taken b))
    go true = (0, refl, refl, refl)
    go false = (0, refl, refl, refl)
mutex_leads (MutexPhase.Leaves a true handed) word ActResult.Made g = inr (inr (0, sign handed, refl, refl, refl))
mutex_leads (MutexPhase.Leaves a false handed) word ActResult.Made g = inr (inr (0, sign handed, refl, refl, refl))
mutex_leads (MutexPhase.Wakes a) word ActResult.Made g = (refl, refl, refl)
mutex_leads (MutexPhase.Finishes a) word s g = go a.again s g
  where
    go : (b : Bool) (s : ActResult) → Gives (cond b Act.Load (Act.Done answer.Released)) word s → let q =
        option_map_or (λ p. p) (cond b (option_map (λ w. MutexPhase.Relocks) (word_seen s)) None) MutexPhase.Invalid in
        Leads (cond b Act.Load (Act.Done answer.Released)) s Out (mutex_stance q) 0 (mutex_taken q) (mt.wakes_with q)
    go true (ActResult.Word w) g = (refl, refl, refl)
    go false s g = absurd g
    go true s g = absurd g
mutex_leads p word s g = absurd g

-- READER-WRITER LOCKS

abbrev pub RwIdle : RwPhase → Type 0
RwIdle p = (rw_stance p ≡ Out) × (rw_taken p ≡ 0)

pub rw_seeks_idle : (a : Seeking) (word : ℕ) → RwIdle (rt.seeks a word)
rw_seeks_idle a word =
    pick RwIdle (rt.is_admitted a.want word) _ _ (refl, refl)
    (pick RwIdle (rt.is_barred a.want word) _ _
    (pick RwIdle (not (rt.is_parked word || rt.is_writer_parked word) && nat_lt 0 a.rounds) _ _ (refl, refl)
    (pick RwIdle (rt.is_parked word) _ _ (refl, refl) (refl, refl))) (refl, refl))

drains_idle : (d : Draining) (word : ℕ) → RwIdle (rt.drains d word)
drains_idle d word =
    pick RwIdle (rt.has_readers word) _ _ (pick RwIdle (nat_lt 0 d.rounds) _ _ (refl, refl) (pick RwIdle (rt.is_writer_parked word) _ _ (refl, refl) (refl, refl))) (refl, refl)

rw_tries_idle : (want : LockMode) (left word : ℕ) → RwIdle (rt.tries want left word)
rw_tries_idle want left word = pick RwIdle (rt.is_tried want word) _ _ (refl, refl) (refl, refl)

rw_retries_idle : (want : LockMode) (left word : ℕ) → RwIdle (rt.retries want left word)
rw_retries_idle want left word = pick RwIdle (nat_lt 0 left) _ _ (rw_tries_idle want (left - 1) word) (refl, refl)

admits_idle : (want : LockMode) (woken : Bool) → RwIdle (rt.admits want woken)
admits_idle (LockMode.Shared recursive) woken = (refl, refl)
admits_idle LockMode.Exclusive woken = (refl, refl)

over_idle : (rest : AfterWake) → RwIdle (rt.over rest)
over_idle AfterWake.FreedShared = (refl, refl)
over_idle AfterWake.FreedExclusive = (refl, refl)
over_idle AfterWake.Downgraded = (refl, refl)
over_idle AfterWake.AgainShared = (refl, refl)
over_idle AfterWake.AgainExclusive = (refl, refl)

bumps_idle : (want : LockMode) (word : ℕ) → RwIdle (rt.bumps want word)
bumps_idle (LockMode.Shared recursive) word = pick RwIdle (rt.is_written word) _ _ (refl, refl) (refl, refl)
bumps_idle LockMode.Exclusive word = pick RwIdle (rt.is_parked word) _ _ (refl, refl) (refl, refl)

-- those that are to be woken are counted
wakes_count : (rest : AfterWake) (count : ℕ) → (rw_stance (rt.wakes rest count) ≡ Out) × (rw_taken (rt.wakes rest count) ≡ count)
wakes_count rest count = go (nat_lt 0 count) refl
  where
    go : (b : Bool) → nat_lt 0 count ≡ b → (rw_stance (cond b (RwPhase.Wakes rest count) (RwPhase.Finishes rest)) ≡ Out)
        × (rw_taken (cond b (RwPhase.Wakes rest count) (RwPhase.Finishes rest)) ≡ count)
    go true e = (refl, refl)
    go false e = let z : count ≤ 0 = ltb-false 0 count e in (refl, omega arith)

abbrev LeadsRw : RwPhase → ActResult → RwPhase → Type 0
LeadsRw p s q = Leads (rt.act_of p) s (rw_stance p) (rw_stance q) (rw_taken p) (rw_taken q) (rt.wakes_with q)

finishes : (rest : AfterWake) (word : ℕ) (s : ActResult) → Gives (rt.last_act rest) word s
    → Leads (rt.last_act rest) s Out (rw_stance (rt.next_phase (RwPhase.Finishes rest) s)) 0
    (rw_taken (rt.next_phase (RwPhase.Finishes rest) s)) (rt.wakes_with (rt.next_phase (RwPhase.Finishes rest) s))
finishes AfterWake.AgainShared word (ActResult.Word w) g = (refl, refl, refl)
finishes AfterWake.AgainExclusive word (ActResult.Word w) g = (refl, refl, refl)
finishes rest word s g = absurd g

pub rw_leads : (p : RwPhase) (word : ℕ) (s : ActResult) → Gives (rt.act_of p) word s → LeadsRw p s (rt.next_phase p s)
rw_leads (RwPhase.Loads a) word (ActResult.Word w) g = let i = rw_seeks_idle a w in (refl, i.0, i.1)
rw_leads (RwPhase.Admits a from) word ActResult.Exchanged g = let i = admits_idle a.want false in (refl, i.0, i.1)
rw_leads (RwPhase.Admits a from) word (ActResult.Word w) g = let i = rw_seeks_idle a w in (refl, i.0, i.1)
rw_leads (RwPhase.Spins a) word (ActResult.Spun spun) g = (refl, refl, refl)
rw_leads (RwPhase.SetParked a from) word ActResult.Exchanged g = (refl, refl, refl)
rw_leads (RwPhase.SetParked a from) word (ActResult.Word w) g = let i = rw_seeks_idle a w in (refl, i.0, i.1)
rw_leads (RwPhase.Enters want woken) word ActResult.Entered g = (refl, inl refl, refl)
rw_leads (RwPhase.Checks want woken) word (ActResult.Word w) g = go (rt.is_barred want w && rt.is_parked w)
  where
    go : (b : Bool) → LeadsRw (RwPhase.Checks want woken) (ActResult.Word w) (cond b (RwPhase.Appends want) (RwPhase.Retreats want woken))
    go true = (0, refl, inr (record { 0 = rt.share_of want }, refl), refl, refl)
    go false = (0, refl, inl refl, refl, refl)
rw_leads (RwPhase.Retreats want woken) word ActResult.Made g = inl (0, refl, refl, refl, refl)
rw_leads (RwPhase.Appends want) word ActResult.Made g = (0, omega arith, refl, refl, refl, refl)
rw_leads (RwPhase.Rests want) word ActResult.Made g = inr (inl (0, record { 0 = rt.share_of want }, refl, refl, refl, refl))
rw_leads (RwPhase.Sleeps want) word (ActResult.Woken token) g =
    let i = pick RwIdle (token.0 == 1) (rt.admits want true) (RwPhase.Loads (rt.begins want true)) (admits_idle want true) (refl, refl) in (λ k park e. (i.0, refl, i.1))
rw_leads (RwPhase.DrainLoads d) word (ActResult.Word w) g = let i = drains_idle d w in (refl, i.0, i.1)
rw_leads (RwPhase.DrainSpins d) word (ActResult.Spun spun) g = (refl, refl, refl)
rw_leads (RwPhase.DrainSetParked d from) word ActResult.Exchanged g = (refl, refl, refl)
rw_leads (RwPhase.DrainSetParked d from) word (ActResult.Word w) g = let i = drains_idle d w in (refl, i.0, i.1)
rw_leads (RwPhase.DrainEnters d) word ActResult.Entered g = (refl, inl refl, refl)
rw_leads (RwPhase.DrainChecks d) word (ActResult.Word w) g = go (rt.has_readers w && rt.is_writer_parked w)
  where
    go : (b : Bool) → LeadsRw (RwPhase.DrainChecks d) (ActResult.Word w) (cond b (RwPhase.DrainAppends d.rounds) (RwPhase.DrainRetreats d))
    go true = (1, refl, inr (record { 0 = 8 }, refl), refl, refl)
    go false = (1, refl, inl refl, refl, refl)
rw_leads (RwPhase.DrainRetreats d) word ActResult.Made g = inl (1, refl, refl, refl, refl)
rw_leads (RwPhase.DrainAppends rounds) word ActResult.Made g = (1, omega arith, refl, refl, refl, refl)
rw_leads (RwPhase.DrainRests rounds) word ActResult.Made g = inr (inl (1, record { 0 = 8 }, refl, refl, refl, refl))
rw_leads (RwPhase.DrainSleeps rounds) word (ActResult.Woken token) g = (λ k park e. (refl, refl, refl))
rw_leads (RwPhase.TryLoads want) word (ActResult.Word w) g = let i = rw_tries_idle want 63 w in (refl, i.0, i.1)
rw_leads (RwPhase.TryAdmits want from left) word ActResult.Exchanged g = (refl, refl, refl)
rw_leads (RwPhase.TryAdmits want from left) word (ActResult.Word w) g = let i = rw_retries_idle want left w in (refl, i.0, i.1)
rw_leads (RwPhase.BumpLoads want) word (ActResult.Word w) g = let i = bumps_idle want w in (refl, i.0, i.1)
rw_leads (RwPhase.Relocks want) word (ActResult.Word w) g = let i = rw_seeks_idle (rt.begins want false) w in (refl, i.0, i.1)
rw_leads (RwPhase.Unshares rest) word (ActResult.Before w) g = let i =
    pick RwIdle (w / 16 == 1 && rt.is_writer_parked w) (RwPhase.EnterWriterWakeSection rest) (rt.over rest) (refl, refl)
    (over_idle rest) in (refl, i.0, i.1)
rw_leads (RwPhase.EnterWriterWakeSection rest) word ActResult.Entered g = (refl, inr refl, refl)
rw_leads (RwPhase.TakeWriter rest) word (ActResult.Took None left) g = (1, refl, (refl, refl))
rw_leads (RwPhase.TakeWriter rest) word (ActResult.Took (Some token) left) g = (1, refl, tt)
rw_leads (RwPhase.ClearWriterParked rest taken) word (ActResult.Before w) g = (1, refl, refl, refl)
rw_leads (RwPhase.LeaveWriterWakeSection rest taken) word ActResult.Made g = let i = wakes_count rest (bit taken) in inr (inr (1, sign false, refl, i.0, i.1))
rw_leads (RwPhase.Unlocks fair rest) word ActResult.Exchanged g = let i = over_idle rest in (refl, i.0, i.1)
rw_leads (RwPhase.Unlocks fair rest) word (ActResult.Word w) g = (refl, refl, refl)
rw_leads (RwPhase.LooksExclusive fair rest) word ActResult.Entered g = (refl, inr refl, refl)
rw_leads RwPhase.Downgrades word (ActResult.Before w) g = let i = pick RwIdle (rt.is_parked w) RwPhase.EnterWakeSection
    (RwPhase.Ends outcome.Downgraded) (refl, refl) (refl, refl) in (refl, i.0, i.1)
rw_leads RwPhase.EnterWakeSection word ActResult.Entered g = (refl, inr refl, refl)
rw_leads (RwPhase.Scans a) word (ActResult.Took None left) g = (0, refl, (refl, refl))
rw_leads (RwPhase.Scans a) word (ActResult.Took (Some token) left) g = (0, refl, tt)
rw_leads (RwPhase.Stores a left) word (ActResult.Stored fair) g = go (rt.hands a (a.fair || fair))
  where
    go : (b : Bool) → Leads (rt.act_of (RwPhase.Stores a left)) (ActResult.Stored fair) (In 0 Stores)
        (In 0 (Tells (sign b))) (rt.count_of a) (rt.count_of a)
        (rt.wakes_with (RwPhase.Leaves a.rest (rt.count_of a) b))
    go true = (0, refl, refl, refl)
    go false = (0, refl, refl, refl)
rw_leads (RwPhase.Leaves rest count handed) word ActResult.Made g = let i = wakes_count rest count in inr (inr (0, sign handed, refl, i.0, i.1))
rw_leads (RwPhase.Wakes rest count) word ActResult.Made g = let i = wakes_count rest (count - 1) in (refl, i.0, i.1)
rw_leads (RwPhase.Finishes rest) word s g = finishes rest word s g
rw_leads p word s g = absurd g

-- one whose moment has passed
pub late_leads : (p : LatePhase) (word : ℕ) (s : ActResult) → Gives (late_act p) word s → LeadsCore (late_act p) s (Core.Late p) (late_next p s)
late_leads LatePhase.Expires word (ActResult.Woken token) g =
    let i = pick Idle (token.0 == 1) (MutexPhase.Ends answer.Owned) (MutexPhase.Loads (mt.begins true)) (refl, refl) (refl, refl) in (λ k park e. (i.0, refl, i.1))
late_leads LatePhase.Quits word (ActResult.Woken token) g = λ k park e. (refl, refl, refl)
late_leads LatePhase.Masks word (ActResult.Before w) g = (0, refl, refl, refl)
late_leads LatePhase.Leaves word ActResult.Made g = inr (inr (0, sign false, refl, refl, refl))
late_leads (LatePhase.WasTaken by handed) word ActResult.Made g =
    let i = pick Idle ((sign handed).0 == 1) (MutexPhase.Ends answer.Owned) (MutexPhase.Loads (mt.begins true))
    (refl, refl) (refl, refl) in inr (inr (0, sign false, refl, i.0, i.1))
late_leads p word s g = absurd g

-- WHOM A CALL HAS TAKEN

pub mutex_takes : (p : MutexPhase) (word : ℕ) (token : ParkToken) (left : Bool) → let s = ActResult.Took (Some token) left in
    Gives (mt.act_of p) word s → TakesOne (mutex_stance p) (mutex_stance (mt.next_phase p s)) (mutex_taken p) (mutex_taken (mt.next_phase p s))
mutex_takes (MutexPhase.Takes a) word token left g = (0, omega arith, refl, inr refl, refl)
mutex_takes (MutexPhase.Finishes a) word token left g = go a.again g
  where
    go : (b : Bool) → Gives (cond b Act.Load (Act.Done answer.Released)) word (ActResult.Took (Some token) left)
        → TakesOne Out (mutex_stance (mt.next_phase (MutexPhase.Finishes a) (ActResult.Took (Some token) left))) 0
        (mutex_taken (mt.next_phase (MutexPhase.Finishes a) (ActResult.Took (Some token) left)))
    go true g = absurd g
    go false g = absurd g
mutex_takes p word token left g = absurd g

-- a scan that goes on or stores
goes : (left : Bool) (a b : Scanning) → rt.count_of b ≡ rt.count_of a + 1 → TakesOne (In 0 Takes) (rw_stance (rt.goes_on left b)) (rt.count_of a) (rw_taken (rt.goes_on left b))
goes left a b e = pick (λ (p : RwPhase). TakesOne (In 0 Takes) (rw_stance p) (rt.count_of a) (rw_taken p))
    (left && not b.writer) (RwPhase.Scans b) (RwPhase.Stores b left) (0, omega arith, refl, inl refl, e)
    (0, omega arith, refl, inr refl, e)

abbrev CountsAt : Scanning → Bool → ℕ → Type 0
CountsAt a left n = let q = option_map_or (λ p. p) (rt.scans a (Some (record { 0 = n })) left) RwPhase.Invalid in TakesOne (In 0 Takes) (rw_stance q) (rt.count_of a) (rw_taken q)

scan_takes : (a : Scanning) (token : ParkToken) (left : Bool) → rw_counts (RwPhase.Scans a) token → let q =
    rt.next_phase (RwPhase.Scans a) (ActResult.Took (Some token) left) in TakesOne (In 0 Takes) (rw_stance q)
    (rt.count_of a) (rw_taken q)
scan_takes a token left (inl h) = subst (CountsAt a left) (sym h.0)
    (let room : a.shared < 2 ^ 32 - 1 = h.1 in goes left a (record a { shared = min (a.shared + 1) (2 ^ 32 - 1) })
    (omega arith))
scan_takes a token left (inr (inl h)) = subst (CountsAt a left) (sym h.0) (let was : bit a.writer ≡ 0 = ap bit h.1 in goes left a (record a { writer = true }) (omega arith))
scan_takes a token left (inr (inr h)) = subst (CountsAt a left) (sym h.0)
    (let was : bit a.upgradable ≡ 0 = ap bit h.1 in goes left a (record a { upgradable = true }) (omega arith))

pub rw_takes : (p : RwPhase) (word : ℕ) (token : ParkToken) (left : Bool) → let s = ActResult.Took (Some token) left in
    Gives (rt.act_of p) word s → rw_counts p token → TakesOne (rw_stance p) (rw_stance (rt.next_phase p s)) (rw_taken p) (rw_taken (rt.next_phase p s))
rw_takes (RwPhase.TakeWriter rest) word token left g h = (1, omega arith, refl, inr refl, refl)
rw_takes (RwPhase.Scans a) word token left g h = scan_takes a token left h
rw_takes (RwPhase.Finishes AfterWake.FreedShared) word token left g h = absurd g
rw_takes p word token left g h = absurd g

pub late_takes : (p : LatePhase) (word : ℕ) (token : ParkToken) (left : Bool) → let s = ActResult.Took (Some token) left in
    Gives (late_act p) word s → TakesOne (late_stance p) (stance (late_next p s)) 0 (taken_count (late_next p s))
late_takes LatePhase.Expires word token left g = absurd g
late_takes LatePhase.Quits word token left g = absurd g
late_takes LatePhase.Masks word token left g = absurd g
late_takes LatePhase.Leaves word token left g = absurd g
late_takes LatePhase.GivesUp word token left g = absurd g
late_takes (LatePhase.WasTaken by handed) word token left g = absurd g

-- WHERE CALLS BEGIN AND END

pub mutex_begins : (p : MutexPhase) → Idle (mt.next_phase p ActResult.Start)
mutex_begins (MutexPhase.Finishes a) = pick (λ (o : Option MutexPhase). Idle (option_map_or (λ q. q) o MutexPhase.Invalid)) a.again None None (refl, refl) (refl, refl)
mutex_begins p = (refl, refl)

pub rw_begins : (p : RwPhase) → RwIdle (rt.next_phase p ActResult.Start)
rw_begins (RwPhase.Finishes rest) = (refl, refl)
rw_begins p = (refl, refl)

pub late_begins : (p : LatePhase) → (stance (late_next p ActResult.Start) ≡ Out) × (taken_count (late_next p ActResult.Start) ≡ 0)
late_begins LatePhase.Expires = (refl, refl)
late_begins LatePhase.Quits = (refl, refl)
late_begins LatePhase.Masks = (refl, refl)
late_begins LatePhase.Leaves = (refl, refl)
late_begins LatePhase.GivesUp = (refl, refl)
late_begins (LatePhase.WasTaken by handed) = (refl, refl)

pub mutex_ends : (p : MutexPhase) → IsOver (mt.act_of p) (mutex_stance p) (mutex_taken p)
mutex_ends (MutexPhase.Finishes a) = pick (λ (b : Act). IsOver b Out 0) a.again Act.Load (Act.Done answer.Released) tt (refl, refl)
mutex_ends MutexPhase.Locking = (refl, refl)
mutex_ends MutexPhase.Trying = (refl, refl)
mutex_ends (MutexPhase.Unlocking fair) = (refl, refl)
mutex_ends MutexPhase.Bumping = (refl, refl)
mutex_ends MutexPhase.Refuses = (refl, refl)
mutex_ends (MutexPhase.Ends a) = (refl, refl)
mutex_ends MutexPhase.Invalid = (refl, refl)
mutex_ends p = tt

pub rw_ends : (p : RwPhase) → IsOver (rt.act_of p) (rw_stance p) (rw_taken p)
rw_ends (RwPhase.Locking want) = (refl, refl)
rw_ends (RwPhase.Trying want) = (refl, refl)
rw_ends RwPhase.UnlockingShared = (refl, refl)
rw_ends (RwPhase.UnlockingExclusive fair) = (refl, refl)
rw_ends RwPhase.Downgrading = (refl, refl)
rw_ends RwPhase.BumpingShared = (refl, refl)
rw_ends RwPhase.BumpingExclusive = (refl, refl)
rw_ends (RwPhase.Refuses want) = (refl, refl)
rw_ends (RwPhase.Finishes AfterWake.FreedShared) = (refl, refl)
rw_ends (RwPhase.Finishes AfterWake.FreedExclusive) = (refl, refl)
rw_ends (RwPhase.Finishes AfterWake.Downgraded) = (refl, refl)
rw_ends (RwPhase.Ends outcome) = (refl, refl)
rw_ends RwPhase.Invalid = (refl, refl)
rw_ends p = tt

pub late_ends : (p : LatePhase) → IsOver (late_act p) (late_stance p) 0
late_ends LatePhase.GivesUp = (refl, refl)
late_ends p = tt

-- SLEEPERS

abbrev pub IsUp : Stance → Type 0
IsUp (Asleep k token) = ⊥
IsUp a = Unit {0}

pub not_asleep : {a : Stance} {k : ℕ} {token : ParkToken} → IsUp a → a ≡ Asleep k token → ⊥
not_asleep h e = subst IsUp e h

pub mutex_wakes : (p : MutexPhase) (k : ℕ) (token : ParkToken) (said : UnparkToken) → mutex_stance p ≡ Asleep k token
    → (mutex_taken p ≡ 0) × Idle (mt.next_phase p (ActResult.Woken said))
mutex_wakes MutexPhase.Sleeps k token said e = (refl, pick Idle (said.0 == 1) (MutexPhase.Ends answer.Owned) (MutexPhase.Loads (mt.begins true)) (refl, refl) (refl, refl))
mutex_wakes p k token said e = absurd (not_asleep {a = mutex_stance p} tt e)

pub rw_wakes : (p : RwPhase) (k : ℕ) (token : ParkToken) (said : UnparkToken) → rw_stance p ≡ Asleep k token → (rw_taken p ≡ 0) × RwIdle (rt.next_phase p (ActResult.Woken said))
rw_wakes (RwPhase.Sleeps want) k token said e = (refl, pick RwIdle (said.0 == 1) (rt.admits want true) (RwPhase.Loads (rt.begins want true)) (admits_idle want true) (refl, refl))
rw_wakes (RwPhase.DrainSleeps rounds) k token said e = (refl, (refl, refl))
rw_wakes p k token said e = absurd (not_asleep {a = rw_stance p} tt e)

pub late_wakes : (p : LatePhase) (k : ℕ) (token : ParkToken) (said : UnparkToken) → late_stance p ≡ Asleep k token
    → (stance (late_next p (ActResult.Woken said)) ≡ Out) × (taken_count (late_next p (ActResult.Woken said)) ≡ 0)
late_wakes LatePhase.Expires k token said e = pick Idle (said.0 == 1) (MutexPhase.Ends answer.Owned) (MutexPhase.Loads (mt.begins true)) (refl, refl) (refl, refl)
late_wakes p k token said e = (refl, refl)

-- ONE THAT IS TO WAKE SOMEBODY HAS TAKEN SOMEBODY

pub mutex_some : (p : MutexPhase) → mt.act_of p ≡ Act.Section section.Wake → 1 ≤ mutex_taken p
mutex_some (MutexPhase.Wakes a) e = omega arith
mutex_some (MutexPhase.Finishes a) e = go a.again e
  where
    go : (b : Bool) → cond b Act.Load (Act.Done answer.Released) ≡ Act.Section section.Wake → 1 ≤ 0
    go true e = cc
    go false e = cc
mutex_some p e = cc

abbrev pub HasSome : RwPhase → Type 0
HasSome (RwPhase.Wakes rest count) = 1 ≤ count
HasSome p = Unit {0}

-- a phase that neither waits nor wakes
abbrev pub IsEasy : RwPhase → Type 0
IsEasy (RwPhase.Wakes rest count) = ⊥
IsEasy (RwPhase.Appends want) = ⊥
IsEasy (RwPhase.Rests want) = ⊥
IsEasy (RwPhase.Sleeps want) = ⊥
IsEasy p = Unit {0}

-- and one that doesn't go to wait
abbrev pub IsPatient : RwPhase → Type 0
IsPatient (RwPhase.Checks want woken) = ⊥
IsPatient (RwPhase.Appends want) = ⊥
IsPatient (RwPhase.Rests want) = ⊥
IsPatient p = Unit {0}

-- what is so of all phases that may follow is so of the one that does
module _ (P : RwPhase → Type 0) (easy : (q : RwPhase) → IsEasy q → P q) (wakes : (rest : AfterWake) (count : ℕ) → 1 ≤ count → P (RwPhase.Wakes rest count)) where
  if_once : (b : Bool) (p : RwPhase) → P p → P (option_map_or (λ q. q) (rt.once b p) RwPhase.Invalid)
  if_once true p h = h
  if_once false p h = (easy _ tt)

  if_seen : {X : Type 0} (o : Option X) (f : X → RwPhase) → ((x : X) → P (f x)) → P (option_map_or (λ q. q) (option_map f o) RwPhase.Invalid)
  if_seen None f h = (easy _ tt)
  if_seen (Some x) f h = h x

  won_so : (p : RwPhase) (f : ℕ → RwPhase) → P p → ((w : ℕ) → P (f w)) → (x : Result (Unit {0}) ℕ) → P (rt.won_or p f x)
  won_so p f h k (Ok u) = h
  won_so p f h k (Err w) = k w

  seeks_so : (a : Seeking) (word : ℕ) → P (rt.seeks a word)
  seeks_so a word =
      pick P (rt.is_admitted a.want word) _ _ (easy _ tt)
      (pick P (rt.is_barred a.want word) _ _
      (pick P (not (rt.is_parked word || rt.is_writer_parked word) && nat_lt 0 a.rounds) _ _ (easy _ tt) (pick P (rt.is_parked word) _ _ (easy _ tt) (easy _ tt))) (easy _ tt))

  drains_so : (d : Draining) (word : ℕ) → P (rt.drains d word)
  drains_so d word = pick P (rt.has_readers word) _ _ (pick P (nat_lt 0 d.rounds) _ _ (easy _ tt) (pick P (rt.is_writer_parked word) _ _ (easy _ tt) (easy _ tt))) (easy _ tt)

  tries_so : (want : LockMode) (left word : ℕ) → P (rt.tries want left word)
  tries_so want left word = pick P (rt.is_tried want word) _ _ (easy _ tt) (easy _ tt)

  retries_so : (want : LockMode) (left word : ℕ) → P (rt.retries want left word)
  retries_so want left word = pick P (nat_lt 0 left) _ _ (tries_so want (left - 1) word) (easy _ tt)

  admits_so : (want : LockMode) (woken : Bool) → P (rt.admits want woken)
  admits_so (LockMode.Shared recursive) woken = (easy _ tt)
  admits_so LockMode.Exclusive woken = (easy _ tt)

  over_so : (rest : AfterWake) → P (rt.over rest)
  over_so AfterWake.FreedShared = (easy _ tt)
  over_so AfterWake.FreedExclusive = (easy _ tt)
  over_so AfterWake.Downgraded = (easy _ tt)
  over_so AfterWake.AgainShared = (easy _ tt)
  over_so AfterWake.AgainExclusive = (easy _ tt)

  bumps_so : (want : LockMode) (word : ℕ) → P (rt.bumps want word)
  bumps_so (LockMode.Shared recursive) word = pick P (rt.is_written word) _ _ (easy _ tt) (easy _ tt)
  bumps_so LockMode.Exclusive word = pick P (rt.is_parked word) _ _ (easy _ tt) (easy _ tt)

  wakes_so : (rest : AfterWake) (count : ℕ) → P (rt.wakes rest count)
  wakes_so rest count = go (nat_lt 0 count) refl
    where
      go : (b : Bool) → nat_lt 0 count ≡ b → P (cond b (RwPhase.Wakes rest count) (RwPhase.Finishes rest))
      go true e = wakes rest count (ltb-true 0 count e)
      go false e = (easy _ tt)

  goes_so : (left : Bool) (a : Scanning) → P (rt.goes_on left a)
  goes_so left a = pick P (left && not a.writer) (RwPhase.Scans a) (RwPhase.Stores a left) (easy _ tt) (easy _ tt)

  scans_so : (a : Scanning) (s : ActResult) → P (rt.next_phase (RwPhase.Scans a) s)
  scans_so a (ActResult.Took None left) = (easy _ tt)
  scans_so a (ActResult.Took (Some token) left) = if_seen (rt.with_taken a token) (rt.goes_on left) (goes_so left)
  scans_so a s = (easy _ tt)

  finishes_so : (rest : AfterWake) (o : Option ℕ) → P (option_map_or (λ q. q) (option_and_then (λ word. rt.asks_again rest) o) RwPhase.Invalid)
  finishes_so rest None = (easy _ tt)
  finishes_so AfterWake.FreedShared (Some w) = (easy _ tt)
  finishes_so AfterWake.FreedExclusive (Some w) = (easy _ tt)
  finishes_so AfterWake.Downgraded (Some w) = (easy _ tt)
  finishes_so AfterWake.AgainShared (Some w) = (easy _ tt)
  finishes_so AfterWake.AgainExclusive (Some w) = (easy _ tt)

  pub next_so : (p : RwPhase) (s : ActResult) → IsPatient p → P (rt.next_phase p s)
  next_so (RwPhase.Locking want) s patient = if_once (is_start s) _ (easy _ tt)
  next_so (RwPhase.Trying want) s patient = if_once (is_start s) _ (easy _ tt)
  next_so RwPhase.UnlockingShared s patient = if_once (is_start s) _ (easy _ tt)
  next_so (RwPhase.UnlockingExclusive fair) s patient = if_once (is_start s) _ (easy _ tt)
  next_so RwPhase.Downgrading s patient = if_once (is_start s) _ (easy _ tt)
  next_so RwPhase.BumpingShared s patient = if_once (is_start s) _ (easy _ tt)
  next_so RwPhase.BumpingExclusive s patient = if_once (is_start s) _ (easy _ tt)
  next_so (RwPhase.Loads a) s patient = if_seen (word_seen s) _ (seeks_so a)
  next_so (RwPhase.Admits a word) s patient = if_seen (exchange_seen s) _ (won_so _ _ (admits_so a.want false) (seeks_so a))
  next_so (RwPhase.Spins a) s patient = if_seen (spun_seen s) (λ spun. RwPhase.Loads (record a { rounds = cond spun (a.rounds - 1) 0 })) (λ x. (easy _ tt))
  next_so (RwPhase.SetParked a word) s patient = if_seen (exchange_seen s) _ (won_so (RwPhase.Enters a.want a.woken) (rt.seeks a) (easy _ tt) (seeks_so a))
  next_so (RwPhase.Enters want woken) s patient = if_once (is_entered s) _ (easy _ tt)
  next_so (RwPhase.Checks want woken) s patient = absurd patient
  next_so (RwPhase.Appends want) s patient = absurd patient
  next_so (RwPhase.Rests want) s patient = absurd patient
  next_so (RwPhase.Retreats want woken) s patient = if_once (is_made s) _ (easy _ tt)
  next_so (RwPhase.Sleeps want) s patient =
      if_seen (woken_seen s) _
      (λ (token : UnparkToken). pick P (token.0 == 1) (rt.admits want true) (RwPhase.Loads (rt.begins want true))
      (admits_so want true) (easy _ tt))
  next_so (RwPhase.DrainLoads d) s patient = if_seen (word_seen s) _ (drains_so d)
  next_so (RwPhase.DrainSpins d) s patient = if_seen (spun_seen s) (λ spun. RwPhase.DrainLoads (record d { rounds = cond spun (d.rounds - 1) 0 })) (λ x. (easy _ tt))
  next_so (RwPhase.DrainSetParked d word) s patient = if_seen (exchange_seen s) _ (won_so (RwPhase.DrainEnters d) (rt.drains d) (easy _ tt) (drains_so d))
  next_so (RwPhase.DrainEnters d) s patient = if_once (is_entered s) _ (easy _ tt)
  next_so (RwPhase.DrainChecks d) s patient =
      if_seen (word_seen s) _
      (λ w. pick P (rt.has_readers w && rt.is_writer_parked w) (RwPhase.DrainAppends d.rounds) (RwPhase.DrainRetreats d)
      (easy _ tt) (easy _ tt))
  next_so (RwPhase.DrainRetreats d) s patient = if_once (is_made s) _ (easy _ tt)
  next_so (RwPhase.DrainAppends rounds) s patient = if_once (is_made s) _ (easy _ tt)
  next_so (RwPhase.DrainRests rounds) s patient = if_once (is_made s) _ (easy _ tt)
  next_so (RwPhase.DrainSleeps rounds) s patient = if_seen (woken_seen s) (λ token. RwPhase.DrainLoads (record { woken = true; rounds = rounds })) (λ x. (easy _ tt))
  next_so (RwPhase.TryLoads want) s patient = if_seen (word_seen s) _ (tries_so want 63)
  next_so (RwPhase.TryAdmits want word left) s patient =
      if_seen (exchange_seen s) _
      (won_so (RwPhase.Ends (rt.gains want)) (rt.retries want left) (easy _ tt) (retries_so want left))
  next_so (RwPhase.Refuses want) s patient = (easy _ tt)
  next_so (RwPhase.BumpLoads want) s patient = if_seen (word_seen s) _ (bumps_so want)
  next_so (RwPhase.Relocks want) s patient = if_seen (word_seen s) _ (seeks_so (rt.begins want false))
  next_so (RwPhase.Unshares rest) s patient =
      if_seen (word_before s) _
      (λ w. pick P (w / 16 == 1 && rt.is_writer_parked w) (RwPhase.EnterWriterWakeSection rest) (rt.over rest)
      (easy _ tt) (over_so rest))
  next_so (RwPhase.EnterWriterWakeSection rest) s patient = if_once (is_entered s) _ (easy _ tt)
  next_so (RwPhase.TakeWriter rest) s patient = if_seen (took_seen s) (λ t. RwPhase.ClearWriterParked rest (is_some t.token)) (λ x. (easy _ tt))
  next_so (RwPhase.ClearWriterParked rest taken) s patient = if_seen (word_before s) (λ w. RwPhase.LeaveWriterWakeSection rest taken) (λ x. (easy _ tt))
  next_so (RwPhase.LeaveWriterWakeSection rest taken) s patient = if_once (is_made s) _ (wakes_so rest (bit taken))
  next_so (RwPhase.Unlocks fair rest) s patient = if_seen (exchange_seen s) _ (won_so (rt.over rest) (λ w. RwPhase.LooksExclusive fair rest) (over_so rest) (λ w. (easy _ tt)))
  next_so (RwPhase.LooksExclusive fair rest) s patient = if_once (is_entered s) _ (easy _ tt)
  next_so RwPhase.Downgrades s patient = if_seen (word_before s) _ (λ w. pick P (rt.is_parked w) RwPhase.EnterWakeSection (RwPhase.Ends outcome.Downgraded) (easy _ tt) (easy _ tt))
  next_so RwPhase.EnterWakeSection s patient = if_once (is_entered s) _ (easy _ tt)
  next_so (RwPhase.Scans a) s patient = scans_so a s
  next_so (RwPhase.Stores a left) s patient = if_seen (stored_seen s) (λ fair. RwPhase.Leaves a.rest (rt.count_of a) (rt.hands a (a.fair || fair))) (λ x. (easy _ tt))
  next_so (RwPhase.Leaves rest count handed) s patient = if_once (is_made s) _ (wakes_so rest count)
  next_so (RwPhase.Wakes rest count) s patient = if_once (is_made s) _ (wakes_so rest (count - 1))
  next_so (RwPhase.Finishes rest) s patient = finishes_so rest (word_seen s)
  next_so (RwPhase.Ends outcome) s patient = (easy _ tt)
  next_so RwPhase.Invalid s patient = (easy _ tt)

pub easy_some : (q : RwPhase) → IsEasy q → HasSome q
easy_some (RwPhase.Wakes rest count) e = absurd e
easy_some q e = tt

pub rw_next_some : (p : RwPhase) (s : ActResult) → HasSome (rt.next_phase p s)
rw_next_some (RwPhase.Checks want woken) (ActResult.Word w) = pick HasSome (rt.is_barred want w && rt.is_parked w) (RwPhase.Appends want) (RwPhase.Retreats want woken) tt tt
rw_next_some (RwPhase.Checks want woken) s = tt
rw_next_some (RwPhase.Appends want) ActResult.Made = tt
rw_next_some (RwPhase.Appends want) s = tt
rw_next_some (RwPhase.Rests want) ActResult.Made = tt
rw_next_some (RwPhase.Rests want) s = tt
rw_next_some p s = next_so HasSome easy_some (λ rest count h. h) p s tt

pub rw_some : (p : RwPhase) → HasSome p → rt.act_of p ≡ Act.Section section.Wake → 1 ≤ rw_taken p
rw_some (RwPhase.Wakes rest count) h e = h
rw_some (RwPhase.Finishes AfterWake.FreedShared) h e = cc
rw_some p h e = cc

pub late_some : (p : LatePhase) (s : ActResult) → core_act (late_next p s) ≡ Act.Section section.Wake → 1 ≤ taken_count (late_next p s)
late_some LatePhase.Expires (ActResult.Woken token) e = mutex_some (mt.next_phase MutexPhase.Sleeps (ActResult.Woken token)) e
late_some LatePhase.Quits (ActResult.Took token left) e = go left e
  where
    go : (b : Bool) → late_act (cond b LatePhase.Leaves LatePhase.Masks) ≡ Act.Section section.Wake → 1 ≤ 0
    go true e = cc
    go false e = cc
late_some LatePhase.Expires ActResult.Entered e = cc
late_some LatePhase.Masks (ActResult.Before word) e = cc
late_some LatePhase.Leaves ActResult.Made e = cc
late_some LatePhase.GivesUp s e = cc
late_some (LatePhase.WasTaken by handed) ActResult.Made e = mutex_some (mt.next_phase MutexPhase.Sleeps (ActResult.Woken (sign handed))) e
late_some p s e = cc

-- A LOCK HAS TWO KEYS

pub mutex_keys : (p : MutexPhase) → HasSmallKey (mutex_stance p)
mutex_keys (MutexPhase.Checks woken) = omega arith
mutex_keys (MutexPhase.Retreats woken) = omega arith
mutex_keys MutexPhase.Appends = omega arith
mutex_keys MutexPhase.Rests = omega arith
mutex_keys MutexPhase.Sleeps = omega arith
mutex_keys (MutexPhase.Takes a) = omega arith
mutex_keys (MutexPhase.Stores a taken left) = omega arith
mutex_keys (MutexPhase.Leaves a taken handed) = omega arith
mutex_keys p = tt

pub rw_keys : (p : RwPhase) → HasSmallKey (rw_stance p)
rw_keys (RwPhase.Checks want woken) = omega arith
rw_keys (RwPhase.Retreats want woken) = omega arith
rw_keys (RwPhase.Appends want) = omega arith
rw_keys (RwPhase.Rests want) = omega arith
rw_keys (RwPhase.Sleeps want) = omega arith
rw_keys (RwPhase.DrainChecks d) = omega arith
rw_keys (RwPhase.DrainRetreats d) = omega arith
rw_keys (RwPhase.DrainAppends rounds) = omega arith
rw_keys (RwPhase.DrainRests rounds) = omega arith
rw_keys (RwPhase.DrainSleeps rounds) = omega arith
rw_keys (RwPhase.TakeWriter rest) = omega arith
rw_keys (RwPhase.ClearWriterParked rest taken) = omega arith
rw_keys (RwPhase.LeaveWriterWakeSection rest taken) = omega arith
rw_keys (RwPhase.Scans s) = omega arith
rw_keys (RwPhase.Stores s left) = omega arith
rw_keys (RwPhase.Leaves rest count handed) = omega arith
rw_keys p = tt

pub late_keys : (p : LatePhase) → HasSmallKey (late_stance p)
late_keys LatePhase.GivesUp = tt
late_keys p = omega arith
