-- What a step at the locks does to the sort of each number's call: one that gives a mutex up, or asks for it.
use Rattle.std.proofs.Common.{◌≡◌, ℕ, zero, suc, ◌==◌, Bool, true, false, not, cond, nat_lt, List, [], ◌∷◌, length, map}
use Rattle.std.proofs.Common.{Option, Some, None, option_map, slice_get, slice_set, refl, sym, ap, ◌∙◌, subst, eq-eqb}
use Rattle.std.proofs.Common.{eqb-true}
use Rattle.std.specs.Option.{option_and_then}
use Rattle.std.proofs.lemmas.List.{length-map, length-set}
use Rattle.std.proofs.lemmas.Option.{none-some}
use Rattle.parking_lot_core_model.specs.declared.parking.ParkToken.{ParkToken}
use Rattle.parking_lot_core_model.specs.declared.parking.UnparkToken.{UnparkToken}
use Rattle.parking_lot_protocol.specs.declared.act.Act.{Act}
use Rattle.parking_lot_protocol.specs.declared.act.ActResult.{ActResult}
use Rattle.parking_lot_protocol.specs.declared.act.CoreAnswer.{CoreAnswer}
use Rattle.parking_lot_protocol.specs.declared.mutex_phase.Asking.{Asking}
use Rattle.parking_lot_protocol.specs.declared.mutex_phase.MutexPhase.{MutexPhase}
use Rattle.parking_lot_protocol.specs.Acts.{Gives}
use Rattle.parking_lot_protocol.specs.MutexTable.{act_of, next_phase, seeks}
use Rattle.parking_lot_protocol.proofs.MutexFollowing.{either}
use Rattle.parking_lot_machine_calls.specs.declared.open_call.Call.{Call}
use Rattle.parking_lot_machine_calls.specs.declared.seat.Core.{Core}
use Rattle.parking_lot_machine_calls.specs.declared.seat.LatePhase.{LatePhase}
use Rattle.parking_lot_machine_calls.specs.declared.seat.WakeResult.{WakeResult}
use Rattle.parking_lot_machine.specs.Machines.{sleeps}
use Rattle.parking_lot_machine_calls.specs.CallActs.{off_list, settled}
use Rattle.parking_lot_machine_calls.specs.Stances.{Asleep, core_act, core_next, late_act, late_next, late_stance}
use Rattle.parking_lot_machine_calls.specs.Stances.{mutex_stance, stance}
use Rattle.parking_lot_machine_waits.specs.Whole.{asks, asks_on, gives, phase_asks, phase_gives}
use Rattle.parking_lot_rules.proofs.Slots.{set_elsewhere, set_here}

-- THE PHASES OF A CALL AT A MUTEX

seeks_on : (a : Asking) (word : ℕ) → phase_asks (seeks a word) ≡ true
seeks_on a word =
    either phase_asks (word == 0) _ _ _ refl
    (either phase_asks (word == 2) _ _ _ refl
    (either phase_asks (word == 1) _ _ _ (either phase_asks (nat_lt 0 a.rounds) _ _ _ refl refl) refl))

-- One that asks goes on asking, whatever its act gives.
asking : (p : MutexPhase) (x : ℕ) (s : ActResult) → Gives (act_of p) x s → phase_asks p ≡ true
    → phase_asks (next_phase p s) ≡ true
asking (MutexPhase.Loads a) x (ActResult.Word word) g e = seeks_on a word
asking (MutexPhase.Locks a waiters) x ActResult.Exchanged g e = refl
asking (MutexPhase.Locks a waiters) x (ActResult.Word word) g e = seeks_on a word
asking (MutexPhase.Spins a) x (ActResult.Spun true) g e = refl
asking (MutexPhase.Spins a) x (ActResult.Spun false) g e = refl
asking (MutexPhase.Parks a) x ActResult.Exchanged g e = refl
asking (MutexPhase.Parks a) x (ActResult.Word word) g e = seeks_on a word
asking (MutexPhase.Enters woken) x ActResult.Entered g e = refl
asking (MutexPhase.Checks woken) x (ActResult.Word word) g e = either phase_asks (word == 3) _ _ _ refl refl
asking (MutexPhase.Retreats woken) x ActResult.Made g e = refl
asking MutexPhase.Appends x ActResult.Made g e = refl
asking MutexPhase.Rests x ActResult.Made g e = refl
asking MutexPhase.Sleeps x (ActResult.Woken token) g e = either phase_asks (token.0 == 1) _ _ _ refl refl
asking MutexPhase.TryLoads x s g e = absurd cc
asking (MutexPhase.TryLocks waiters left) x s g e = absurd cc
asking MutexPhase.BumpLoads x s g e = absurd cc
asking MutexPhase.Relocks x s g e = absurd cc
asking (MutexPhase.Unlocks a) x s g e = absurd cc
asking (MutexPhase.Looks a) x s g e = absurd cc
asking (MutexPhase.Takes a) x s g e = absurd cc
asking (MutexPhase.Stores a taken left) x s g e = absurd cc
asking (MutexPhase.Leaves a taken handed) x s g e = absurd cc
asking (MutexPhase.Wakes a) x s g e = absurd cc
asking (MutexPhase.Finishes a) x s g e = absurd cc
asking p x s g e = absurd g

releases : (again : Bool) → not again ≡ true
    → phase_gives (cond again MutexPhase.Relocks (MutexPhase.Ends CoreAnswer.Released)) ≡ true
releases true e = absurd cc
releases false e = refl

no_more : {X : Type 0} (again : Bool) (x : ℕ) (s : ActResult)
    → Gives (cond again Act.Load (Act.Done CoreAnswer.Released)) x s → not again ≡ true → X
no_more true x s g e = absurd cc
no_more false x s g e = absurd g

-- One that gives up goes on giving up.
giving : (p : MutexPhase) (x : ℕ) (s : ActResult) → Gives (act_of p) x s → phase_gives p ≡ true
    → phase_gives (next_phase p s) ≡ true
giving (MutexPhase.Unlocks a) x ActResult.Exchanged g e = releases a.again e
giving (MutexPhase.Unlocks a) x (ActResult.Word word) g e = e
giving (MutexPhase.Looks a) x ActResult.Entered g e = e
giving (MutexPhase.Takes a) x (ActResult.Took token left) g e = e
giving (MutexPhase.Stores a taken left) x (ActResult.Stored fair) g e = e
giving (MutexPhase.Leaves a true handed) x ActResult.Made g e = e
giving (MutexPhase.Leaves a false handed) x ActResult.Made g e = e
giving (MutexPhase.Wakes a) x ActResult.Made g e = e
giving (MutexPhase.Finishes a) x s g e = no_more a.again x s g e
giving (MutexPhase.Loads a) x s g e = absurd cc
giving (MutexPhase.Locks a waiters) x s g e = absurd cc
giving (MutexPhase.Spins a) x s g e = absurd cc
giving (MutexPhase.Parks a) x s g e = absurd cc
giving (MutexPhase.Enters again) x s g e = absurd cc
giving (MutexPhase.Checks again) x s g e = absurd cc
giving (MutexPhase.Retreats again) x s g e = absurd cc
giving MutexPhase.Appends x s g e = absurd cc
giving MutexPhase.Rests x s g e = absurd cc
giving MutexPhase.Sleeps x s g e = absurd cc
giving MutexPhase.TryLoads x s g e = absurd cc
giving (MutexPhase.TryLocks waiters left) x s g e = absurd cc
giving MutexPhase.BumpLoads x s g e = absurd cc
giving MutexPhase.Relocks x s g e = absurd cc
giving p x s g e = absurd g

-- THE SORTS OF A CALL

-- of each sort that the one core was of the other is
pub record Still (c d : Core) : Type 0 where
  pub gives : gives c ≡ true → gives d ≡ true
  pub asks : asks c ≡ true → asks d ≡ true
  pub asks_on : asks_on c ≡ true → asks_on d ≡ true

pub still_same : (c : Core) → Still c c
still_same c = record { gives = λ e. e; asks = λ e. e; asks_on = λ e. e }

-- one of no sort
pub no_sort : (c d : Core) → gives c ≡ false → asks c ≡ false → asks_on c ≡ false → Still c d
no_sort c d p q r = record { gives = λ e. absurd cc; asks = λ e. absurd cc; asks_on = λ e. absurd cc }

-- one whose moment has passed
pub late_still : (p : LatePhase) (d : Core) → asks d ≡ true → Still (Core.Late p) d
late_still p d e = record { gives = λ f. absurd cc; asks = λ f. e; asks_on = λ f. absurd cc }

late_goes : (p : LatePhase) (x : ℕ) (s : ActResult) → sleeps (late_act p) ≡ false → Gives (late_act p) x s
    → asks (late_next p s) ≡ true
late_goes LatePhase.Masks x (ActResult.Before word) awake g = refl
late_goes LatePhase.Leaves x ActResult.Made awake g = refl
late_goes (LatePhase.WasTaken by true) x ActResult.Made awake g = refl
late_goes (LatePhase.WasTaken by false) x ActResult.Made awake g = refl
late_goes LatePhase.Expires x s awake g = absurd cc
late_goes LatePhase.Quits x s awake g = absurd cc
late_goes p x s awake g = absurd g

-- one that was told what its act gives
pub heard : (c : Core) (x : ℕ) (s : ActResult) → sleeps (core_act c) ≡ false → Gives (core_act c) x s
    → Still c (core_next c s)
heard (Core.Mutex k) x s awake g =
    record { gives = giving k.phase x s g; asks = asking k.phase x s g; asks_on = asking k.phase x s g }
heard (Core.Late p) x s awake g = late_still p _ (late_goes p x s awake g)
heard (Core.Rw k) x s awake g = no_sort _ _ refl refl refl
heard (Core.LateRw p) x s awake g = no_sort _ _ refl refl refl
heard (Core.Upgrade k) x s awake g = no_sort _ _ refl refl refl

-- one that is woken
mutex_wakes : (p : MutexPhase) (key : ℕ) (token : ParkToken) (said : UnparkToken) → mutex_stance p ≡ Asleep key token
    → phase_asks (next_phase p (ActResult.Woken said)) ≡ true
mutex_wakes MutexPhase.Sleeps key token said e = either phase_asks (said.0 == 1) _ _ _ refl refl
mutex_wakes p key token said e = absurd cc

asleep_keeps : (p : MutexPhase) (key : ℕ) (token : ParkToken) → mutex_stance p ≡ Asleep key token
    → phase_gives p ≡ false
asleep_keeps MutexPhase.Sleeps key token e = refl
asleep_keeps p key token e = absurd cc

late_wakes : (p : LatePhase) (key : ℕ) (token : ParkToken) (said : UnparkToken) → late_stance p ≡ Asleep key token
    → asks (late_next p (ActResult.Woken said)) ≡ true
late_wakes LatePhase.Expires key token said e = either phase_asks (said.0 == 1) _ _ _ refl refl
late_wakes p key token said e = absurd cc

pub woken : (c : Core) (key : ℕ) (token : ParkToken) (said : UnparkToken) → stance c ≡ Asleep key token
    → Still c (core_next c (ActResult.Woken said))
woken (Core.Mutex k) key token said e =
    let none = asleep_keeps k.phase key token e in
    record {
      gives = λ f. absurd cc;
      asks = λ f. mutex_wakes k.phase key token said e;
      asks_on = λ f. mutex_wakes k.phase key token said e;
    }
woken (Core.Late p) key token said e = late_still p _ (late_wakes p key token said e)
woken (Core.Rw k) key token said e = no_sort _ _ refl refl refl
woken (Core.LateRw p) key token said e = no_sort _ _ refl refl refl
woken (Core.Upgrade k) key token said e = no_sort _ _ refl refl refl

-- CALLS

-- a call is at the lock where it was, and of each sort that it was of
pub record GoesOn (c : Call) (o : Option Call) : Type 0 where
  pub call : Call
  pub here : o ≡ Some call
  pub lock : call.lock ≡ c.lock
  pub still : Still c.core call.core

abbrev pub Onward : Option Call → Option Call → Type 0
Onward None o = o ≡ None
Onward (Some c) o = GoesOn c o

pub stays : (o : Option Call) → Onward o o
stays None = refl
stays (Some c) = record { call = c; here = refl; lock = refl; still = still_same c.core }

abbrev pub call_of : List (Option Call) → ℕ → Option Call
call_of calls t = option_and_then (λ (c : Option Call). c) (slice_get calls t)

-- each number's
pub record AllGo (cs ds : List (Option Call)) : Type 0 where
  pub count : length ds ≡ length cs
  pub each : (k : ℕ) → Onward (call_of cs k) (call_of ds k)

pub all_stay : (cs : List (Option Call)) → AllGo cs cs
all_stay cs = record { count = refl; each = λ k. stays (call_of cs k) }

pub both_ways : {X : Type 0} {b : Bool} → b ≡ true → b ≡ false → X
both_ways p q = absurd cc

-- what stands in a list where one was written, and elsewhere
still_there : (o p : Option Call) (c : Call) → o ≡ Some c → Onward o p → (d : Call) × (p ≡ Some d)
still_there None p c e x = absurd (none-some c e)
still_there (Some b) p c e x = (x.call, x.here)

-- one call is written, over others that go on
pub one_goes : (cs ds : List (Option Call)) (t : ℕ) (c : Call) (o : Option Call) → call_of cs t ≡ Some c → AllGo cs ds
    → GoesOn c o → AllGo cs (slice_set ds t o)
one_goes cs ds t c o was all goes = record { count = length-set ds t o ∙ all.count; each = λ k. at k (k == t) refl }
  where
    mine : GoesOn c (call_of (slice_set ds t o) t)
    mine = let there = still_there (call_of cs t) (call_of ds t) c was (all.each t) in
        subst (λ (p : Option Call). GoesOn c p) (sym (set_here ds t there.0 o there.1)) goes

    at : (k : ℕ) (b : Bool) → (k == t) ≡ b → Onward (call_of cs k) (call_of (slice_set ds t o) k)
    at k true e = subst (λ (n : ℕ). Onward (call_of cs n) (call_of (slice_set ds t o) n)) (sym (eqb-true k t e))
        (subst (λ (p : Option Call). Onward p (call_of (slice_set ds t o) t)) (sym was) mine)
    at k false e = subst (λ (p : Option Call). Onward (call_of cs k) p)
        (sym (set_elsewhere ds t k o (λ f. both_ways (eq-eqb k t f) e))) (all.each k)

-- all are told something that says nothing of their sorts
pub all_told : (t : ℕ) (said : WakeResult) (cs ds : List (Option Call)) → AllGo cs ds
    → AllGo cs (map (option_map (settled t said)) ds)
all_told t said cs ds all = record {
  count = length-map ds (option_map (settled t said)) ∙ all.count;
  each = λ k. subst (λ (p : Option Call). Onward (call_of cs k) p) (sym (at ds k))
      (on (call_of cs k) (call_of ds k) (all.each k));
}
  where
    at : (ds : List (Option Call)) (k : ℕ) → call_of (map (option_map (settled t said)) ds) k ≡ option_map
        (settled t said) (call_of ds k)
    at [] k = refl
    at (d ∷ ds) zero = refl
    at (d ∷ ds) (suc k) = at ds k

    on : (o p : Option Call) → Onward o p → Onward o (option_map (settled t said) p)
    on None p e = ap (option_map (settled t said)) e
    on (Some c) p x = record {
      call = settled t said x.call;
      here = ap (option_map (settled t said)) x.here;
      lock = x.lock;
      still = x.still;
    }

-- and one is off its list
pub one_off : (t v : ℕ) (cs : List (Option Call)) → AllGo cs (slice_set cs v (option_map (off_list t) (call_of cs v)))
one_off t v cs = record { count = length-set cs v _; each = λ k. at cs v k }
  where
    off : (o : Option Call) → Onward o (option_map (off_list t) o)
    off None = refl
    off (Some d) = record { call = off_list t d; here = refl; lock = refl; still = still_same d.core }

    at : (cs : List (Option Call)) (v k : ℕ)
        → Onward (call_of cs k) (call_of (slice_set cs v (option_map (off_list t) (call_of cs v))) k)
    at [] v k = refl
    at (c ∷ cs) zero zero = off c
    at (c ∷ cs) zero (suc k) = stays (call_of cs k)
    at (c ∷ cs) (suc v) zero = stays c
    at (c ∷ cs) (suc v) (suc k) = at cs v k
