-- How the phases of each core lead from stage to stage.
use Rattle.std.proofs.Common.{◌≡◌, ◌≢◌, inl, inr, ℕ, ◌/◌, ◌-◌, ◌%◌, ◌==◌, ◌&&◌, ◌||◌, Bool, true, false, cond, not}
use Rattle.std.proofs.Common.{nat_lt, Option, Some, None, refl, subst}
use Rattle.std.specs.Option.{option_map, option_map_or}
use Rattle.parking_lot_core_model.specs.declared.parking.ParkToken.{ParkToken}
use Rattle.parking_lot_protocol.specs.Acts.{Gives}
use Rattle.parking_lot_protocol.specs.declared.act.CoreAnswer.TheVariants.{Released}
use Rattle.parking_lot_protocol.specs.MutexTable as mutex
use Rattle.parking_lot_protocol.specs.RwTable as rw
use Rattle.parking_lot_protocol.specs.declared.act.ActResult.{ActResult}
use Rattle.parking_lot_protocol.specs.declared.act.ActResult.TheVariants.{Word, Exchanged, Before, Spun, Entered, Took}
use Rattle.parking_lot_protocol.specs.declared.act.ActResult.TheVariants.{Stored, Made, Woken}
use Rattle.parking_lot_protocol.specs.declared.mutex_phase.Asking.{Asking}
use Rattle.parking_lot_protocol.specs.declared.mutex_phase.Giving.{Giving}
use Rattle.parking_lot_protocol.specs.declared.mutex_phase.MutexPhase.{MutexPhase}
use Rattle.parking_lot_protocol.specs.declared.mutex_phase.MutexPhase.TheVariants as mx
use Rattle.parking_lot_protocol.specs.declared.rw_phase.AfterWake.{AfterWake}
use Rattle.parking_lot_protocol.specs.declared.rw_phase.AfterWake.TheVariants as rest
use Rattle.parking_lot_protocol.specs.declared.rw_phase.Draining.{Draining}
use Rattle.parking_lot_protocol.specs.declared.rw_phase.LockMode.{LockMode}
use Rattle.parking_lot_protocol.specs.declared.rw_phase.RwPhase.{RwPhase}
use Rattle.parking_lot_protocol.specs.declared.rw_phase.RwPhase.TheVariants as r
use Rattle.parking_lot_protocol.specs.declared.rw_phase.Scanning.{Scanning}
use Rattle.parking_lot_protocol.specs.declared.rw_phase.Seeking.{Seeking}
use Rattle.parking_lot_rules.specs.Classes.{bit}
use Rattle.parking_lot_machine.specs.CallLaws.Stages.{Stage, Asks, Tries, Frees, Leads, giving, last_stage, mode_for}
use Rattle.parking_lot_machine.specs.CallLaws.Stages.{mutex_stage, rest_stage, rw_stage}
use Rattle.parking_lot_machine_calls.specs.declared.calls.OwnMode.TheVariants.{Exclusive}

-- EITHER OF TWO

pub leads_cond : {P : Type 0} (n : ℕ) (a : Stage) (f : P → Stage) (b : Bool) (p q : P) → Leads n a (f p)
    → Leads n a (f q) → Leads n a (f (cond b p q))
leads_cond n a f true p q h k = h
leads_cond n a f false p q h k = k

-- AT A MUTEX

abbrev pub mutex_on : (n : ℕ) → MutexPhase → Stage → Type 0
mutex_on n p a = Leads n a (mutex_stage n p)

mutex_seeks : (n : ℕ) (a : Asking) (word : ℕ) → mutex_on n (mutex.seeks a word) (Asks Exclusive false)
mutex_seeks n a word = leads_cond n _ (mutex_stage n) (word == 0) _ _ (inl refl)
    (leads_cond n _ (mutex_stage n) (word == 2) _ _ (inl refl)
    (leads_cond n _ (mutex_stage n) (word == 1) _ _
    (leads_cond n _ (mutex_stage n) (nat_lt 0 a.rounds) _ _ (inl refl) (inl refl)) (inl refl)))

mutex_tries : (n left word : ℕ) → mutex_on n (mutex.tries left word) (Tries Exclusive false)
mutex_tries n left word = leads_cond n _ (mutex_stage n) (word == 0) _ _ (inl refl)
    (leads_cond n _ (mutex_stage n) (word == 2) _ _ (inl refl) (inr refl))

mutex_retries : (n left word : ℕ) → mutex_on n (mutex.retries left word) (Tries Exclusive false)
mutex_retries n left word = leads_cond n _ (mutex_stage n) (nat_lt 0 left) _ _ (mutex_tries n (left - 1) word)
    (inr refl)

mutex_frees : (n : ℕ) (fair again : Bool) → mutex_on n (cond again mx.Relocks (mx.Ends Released))
    (giving (record { fair = fair; again = again }) (Frees true))
mutex_frees n fair true = inl refl
mutex_frees n fair false = inr refl

mutex_ends : (n : ℕ) (fair again : Bool) → let g : Giving = record { fair = fair; again = again } in
    mutex_on n (mx.Finishes g) (giving g (Frees true))
mutex_ends n fair true = inl refl
mutex_ends n fair false = inr refl

mutex_finishes : (n : ℕ) (fair again : Bool) (word : ℕ) (s : ActResult) → let g : Giving =
    record { fair = fair; again = again } in
    Gives (mutex.act_of (mx.Finishes g)) word s → mutex_on n (mutex.next_phase (mx.Finishes g) s)
    (mutex_stage n (mx.Finishes g))
mutex_finishes n fair true word (Word k) g = inl refl
mutex_finishes n fair again word s g = absurd g

pub mutex_leads : (n : ℕ) (p : MutexPhase) (word : ℕ) (s : ActResult) → Gives (mutex.act_of p) word s
    → mutex_on n (mutex.next_phase p s) (mutex_stage n p)
mutex_leads n (mx.Loads a) word (Word k) g = mutex_seeks n a k
mutex_leads n (mx.Locks a waiters) word Exchanged g = inr refl
mutex_leads n (mx.Locks a waiters) word (Word k) g = mutex_seeks n a k
mutex_leads n (mx.Spins a) word (Spun true) g = inl refl
mutex_leads n (mx.Spins a) word (Spun false) g = inl refl
mutex_leads n (mx.Parks a) word Exchanged g = inl refl
mutex_leads n (mx.Parks a) word (Word k) g = mutex_seeks n a k
mutex_leads n (mx.Enters woken) word Entered g = inl refl
mutex_leads n (mx.Checks woken) word (Word k) g = leads_cond n _ (mutex_stage n) (k == 3) _ _ (inl refl) (inl refl)
mutex_leads n (mx.Retreats woken) word Made g = inl refl
mutex_leads n mx.Appends word Made g = inl refl
mutex_leads n mx.Rests word Made g = inl refl
mutex_leads n mx.Sleeps word (Woken token) g = leads_cond n _ (mutex_stage n) (token.0 == 1) _ _ (inr refl) (inl refl)
mutex_leads n mx.TryLoads word (Word k) g = mutex_tries n 63 k
mutex_leads n (mx.TryLocks waiters left) word Exchanged g = inr refl
mutex_leads n (mx.TryLocks waiters left) word (Word k) g = mutex_retries n left k
mutex_leads n mx.BumpLoads word (Word k) g = leads_cond n _ (mutex_stage n) (k / 2 % 2 == 1) _ _ (inl refl) (inr refl)
mutex_leads n mx.Relocks word (Word k) g = mutex_seeks n (mutex.begins false) k
mutex_leads n (mx.Unlocks g) word Exchanged e = mutex_frees n g.fair g.again
mutex_leads n (mx.Unlocks g) word (Word k) e = inl refl
mutex_leads n (mx.Looks g) word Entered e = inl refl
mutex_leads n (mx.Takes g) word (Took token left) e = inl refl
mutex_leads n (mx.Stores g taken left) word (Stored fair) e = inl refl
mutex_leads n (mx.Leaves g true handed) word Made e = inl refl
mutex_leads n (mx.Leaves g false handed) word Made e = mutex_ends n g.fair g.again
mutex_leads n (mx.Wakes g) word Made e = mutex_ends n g.fair g.again
mutex_leads n (mx.Finishes g) word s e = mutex_finishes n g.fair g.again word s e
mutex_leads n p word s g = absurd g

-- AT A READER-WRITER LOCK

abbrev pub rw_on : (n : ℕ) → RwPhase → Stage → Type 0
rw_on n p a = Leads n a (rw_stage n p)

rw_seeks : (n : ℕ) (a : Seeking) (word : ℕ) → rw_on n (rw.seeks a word) (Asks (mode_for a.want) false)
rw_seeks n a word = leads_cond n _ (rw_stage n) (rw.is_admitted a.want word) _ _ (inl refl)
    (leads_cond n _ (rw_stage n) (rw.is_barred a.want word) _ _
    (leads_cond n _ (rw_stage n) (not (rw.is_parked word || rw.is_writer_parked word) && nat_lt 0 a.rounds) _ _
    (inl refl) (leads_cond n _ (rw_stage n) (rw.is_parked word) _ _ (inl refl) (inl refl))) (inl refl))

rw_drains : (n : ℕ) (d : Draining) (word : ℕ) → rw_on n (rw.drains d word) (Asks Exclusive false)
rw_drains n d word = leads_cond n _ (rw_stage n) (rw.has_readers word) _ _
    (leads_cond n _ (rw_stage n) (nat_lt 0 d.rounds) _ _ (inl refl)
    (leads_cond n _ (rw_stage n) (rw.is_writer_parked word) _ _ (inl refl) (inl refl))) (inr refl)

rw_tries : (n : ℕ) (want : LockMode) (left word : ℕ) → rw_on n (rw.tries want left word) (Tries (mode_for want) false)
rw_tries n want left word = leads_cond n _ (rw_stage n) (rw.is_tried want word) _ _ (inl refl) (inr refl)

rw_retries : (n : ℕ) (want : LockMode) (left word : ℕ)
    → rw_on n (rw.retries want left word) (Tries (mode_for want) false)
rw_retries n want left word = leads_cond n _ (rw_stage n) (nat_lt 0 left) _ _ (rw_tries n want (left - 1) word)
    (inr refl)

rw_admits : (n : ℕ) (want : LockMode) (woken : Bool) → rw_on n (rw.admits want woken) (Asks (mode_for want) false)
rw_admits n (LockMode.Shared recursive) woken = inr refl
rw_admits n LockMode.Exclusive woken = inl refl

rw_gains : (n : ℕ) (want : LockMode) → rw_on n (r.Ends (rw.gains want)) (Tries (mode_for want) false)
rw_gains n (LockMode.Shared recursive) = inr refl
rw_gains n LockMode.Exclusive = inr refl

rw_over : (n : ℕ) (way : AfterWake) → rw_on n (rw.over way) (rest_stage way)
rw_over n rest.FreedShared = inr refl
rw_over n rest.FreedExclusive = inr refl
rw_over n rest.Downgraded = inr refl
rw_over n rest.AgainShared = inl refl
rw_over n rest.AgainExclusive = inl refl

rw_finishes : (n : ℕ) (way : AfterWake) → Leads n (rest_stage way) (last_stage n way)
rw_finishes n rest.FreedShared = inr refl
rw_finishes n rest.FreedExclusive = inr refl
rw_finishes n rest.Downgraded = inr refl
rw_finishes n rest.AgainShared = inl refl
rw_finishes n rest.AgainExclusive = inl refl

rw_again : (n : ℕ) (way : AfterWake) (word : ℕ) (s : ActResult) → Gives (rw.last_act way) word s
    → rw_on n (rw.next_phase (r.Finishes way) s) (last_stage n way)
rw_again n rest.AgainShared word (Word k) g = inl refl
rw_again n rest.AgainExclusive word (Word k) g = inl refl
rw_again n way word s g = absurd g

rw_bumps : (n : ℕ) (want : LockMode) (word : ℕ) → rw_on n (rw.bumps want word) (Asks (mode_for want) false)
rw_bumps n (LockMode.Shared recursive) word = leads_cond n _ (rw_stage n) (rw.is_written word) _ _ (inl refl) (inr refl)
rw_bumps n LockMode.Exclusive word = leads_cond n _ (rw_stage n) (rw.is_parked word) _ _ (inl refl) (inr refl)

rw_wakes : (n : ℕ) (way : AfterWake) (count : ℕ) → rw_on n (rw.wakes way count) (rest_stage way)
rw_wakes n way count = leads_cond n _ (rw_stage n) (nat_lt 0 count) _ _ (inl refl) (rw_finishes n way)

-- a scan goes on for the same release, or is led astray by a token that nobody has
rw_goes_on : (n : ℕ) (way : AfterWake) (left : Bool) (s : Scanning) → s.rest ≡ way
    → rw_on n (rw.goes_on left s) (rest_stage way)
rw_goes_on n way left s e = subst (λ (x : AfterWake). rw_on n (rw.goes_on left s) (rest_stage x)) e
    (leads_cond n _ (rw_stage n) (left && not s.writer) _ _ (inl refl) (inl refl))

abbrev HasRest : AfterWake → Option Scanning → Type 0
HasRest way None = Unit {0}
HasRest way (Some s) = s.rest ≡ way

has_rest : (way : AfterWake) (b : Bool) (x y : Option Scanning) → HasRest way x → HasRest way y
    → HasRest way (cond b x y)
has_rest way true x y h k = h
has_rest way false x y h k = k

with_rest : (s : Scanning) (token : ParkToken) → HasRest s.rest (rw.with_taken s token)
with_rest s token = has_rest s.rest (token.0 == 16) _ _ refl
    (has_rest s.rest (token.0 == 8) _ _ refl (has_rest s.rest (token.0 == 20) _ _ refl tt))

abbrev phase_or : Option RwPhase → RwPhase
phase_or o = option_map_or (λ q. q) o r.Invalid

rw_scans : (n : ℕ) (way : AfterWake) (left : Bool) (o : Option Scanning) → HasRest way o
    → phase_or (option_map (rw.goes_on left) o) ≢ r.Invalid → rw_on n (phase_or (option_map (rw.goes_on left) o))
    (rest_stage way)
rw_scans n way left None h proper = absurd (proper refl)
rw_scans n way left (Some s) h proper = rw_goes_on n way left s h

pub rw_leads : (n : ℕ) (p : RwPhase) (word : ℕ) (s : ActResult) → Gives (rw.act_of p) word s
    → rw.next_phase p s ≢ r.Invalid → rw_on n (rw.next_phase p s) (rw_stage n p)
rw_leads n (r.Loads a) word (Word k) g proper = rw_seeks n a k
rw_leads n (r.Admits a from) word Exchanged g proper = rw_admits n a.want false
rw_leads n (r.Admits a from) word (Word k) g proper = rw_seeks n a k
rw_leads n (r.Spins a) word (Spun spun) g proper = inl refl
rw_leads n (r.SetParked a from) word Exchanged g proper = inl refl
rw_leads n (r.SetParked a from) word (Word k) g proper = rw_seeks n a k
rw_leads n (r.Enters want woken) word Entered g proper = inl refl
rw_leads n (r.Checks want woken) word (Word k) g proper =
    leads_cond n _ (rw_stage n) (rw.is_barred want k && rw.is_parked k) _ _ (inl refl) (inl refl)
rw_leads n (r.Retreats want woken) word Made g proper = inl refl
rw_leads n (r.Appends want) word Made g proper = inl refl
rw_leads n (r.Rests want) word Made g proper = inl refl
rw_leads n (r.Sleeps want) word (Woken token) g proper = leads_cond n _ (rw_stage n) (token.0 == 1) _ _
    (rw_admits n want true) (inl refl)
rw_leads n (r.DrainLoads d) word (Word k) g proper = rw_drains n d k
rw_leads n (r.DrainSpins d) word (Spun spun) g proper = inl refl
rw_leads n (r.DrainSetParked d from) word Exchanged g proper = inl refl
rw_leads n (r.DrainSetParked d from) word (Word k) g proper = rw_drains n d k
rw_leads n (r.DrainEnters d) word Entered g proper = inl refl
rw_leads n (r.DrainChecks d) word (Word k) g proper =
    leads_cond n _ (rw_stage n) (rw.has_readers k && rw.is_writer_parked k) _ _ (inl refl) (inl refl)
rw_leads n (r.DrainRetreats d) word Made g proper = inl refl
rw_leads n (r.DrainAppends rounds) word Made g proper = inl refl
rw_leads n (r.DrainRests rounds) word Made g proper = inl refl
rw_leads n (r.DrainSleeps rounds) word (Woken token) g proper = inl refl
rw_leads n (r.TryLoads want) word (Word k) g proper = rw_tries n want 63 k
rw_leads n (r.TryAdmits want from left) word Exchanged g proper = rw_gains n want
rw_leads n (r.TryAdmits want from left) word (Word k) g proper = rw_retries n want left k
rw_leads n (r.BumpLoads want) word (Word k) g proper = rw_bumps n want k
rw_leads n (r.Relocks want) word (Word k) g proper = rw_seeks n (rw.begins want false) k
rw_leads n (r.Unshares way) word (Before k) g proper =
    leads_cond n _ (rw_stage n) (k / 16 == 1 && rw.is_writer_parked k) _ _ (inl refl) (rw_over n way)
rw_leads n (r.EnterWriterWakeSection way) word Entered g proper = inl refl
rw_leads n (r.TakeWriter way) word (Took token left) g proper = inl refl
rw_leads n (r.ClearWriterParked way taken) word (Before k) g proper = inl refl
rw_leads n (r.LeaveWriterWakeSection way taken) word Made g proper = rw_wakes n way (bit taken)
rw_leads n (r.Unlocks fair way) word Exchanged g proper = rw_over n way
rw_leads n (r.Unlocks fair way) word (Word k) g proper = inl refl
rw_leads n (r.LooksExclusive fair way) word Entered g proper = inl refl
rw_leads n r.Downgrades word (Before k) g proper = leads_cond n _ (rw_stage n) (rw.is_parked k) _ _ (inl refl)
    (inr refl)
rw_leads n r.EnterWakeSection word Entered g proper = inl refl
rw_leads n (r.Scans s) word (Took None left) g proper = inl refl
rw_leads n (r.Scans s) word (Took (Some token) left) g proper = rw_scans n s.rest left (rw.with_taken s token)
    (with_rest s token) proper
rw_leads n (r.Stores s left) word (Stored fair) g proper = inl refl
rw_leads n (r.Leaves way count handed) word Made g proper = rw_wakes n way count
rw_leads n (r.Wakes way count) word Made g proper = rw_wakes n way (count - 1)
rw_leads n (r.Finishes way) word s g proper = rw_again n way word s g
rw_leads n p word s g proper = absurd g
