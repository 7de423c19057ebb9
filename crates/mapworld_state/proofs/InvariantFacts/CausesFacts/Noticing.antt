-- Which phases of a call come of a word that was seen.
use Rattle.std.proofs.Common.{◌≡◌, ◌≢◌, ℕ, ◌/◌, ◌-◌, ◌⊎◌, inl, inr, ◌&&◌, ◌||◌, Bool, true, false, cond, not, nat_lt}
use Rattle.std.proofs.Common.{◌==◌, Option, Some, None, Result, Ok, Err, refl, sym, ap, ◌∙◌, subst}
use Rattle.std.specs.Option.{option_map, option_map_or, option_and_then}
use Rattle.std.proofs.lemmas.Bool.{false≢true}
use Rattle.std.proofs.lemmas.Option.{none-some, same_Some}
use Rattle.parking_lot_core_model.specs.declared.parking.ParkToken.{ParkToken}
use Rattle.parking_lot_core_model.specs.declared.parking.UnparkToken.{UnparkToken}
use Rattle.parking_lot_protocol.specs.declared.act.ActResult.{ActResult}
use Rattle.parking_lot_protocol.specs.declared.rw_phase.LockMode.{LockMode}
use Rattle.parking_lot_protocol.specs.declared.rw_phase.AfterWake.{AfterWake}
use Rattle.parking_lot_protocol.specs.declared.rw_phase.Outcome.{Outcome}
use Rattle.parking_lot_protocol.specs.declared.rw_phase.Seeking.{Seeking}
use Rattle.parking_lot_protocol.specs.declared.rw_phase.Draining.{Draining}
use Rattle.parking_lot_protocol.specs.declared.rw_phase.Scanning.{Scanning}
use Rattle.parking_lot_protocol.specs.declared.rw_phase.RwPhase.{RwPhase}
use Rattle.parking_lot_protocol.specs.Acts.{is_start, is_entered, is_made, word_seen, word_before, exchange_seen}
use Rattle.parking_lot_protocol.specs.Acts.{spun_seen, took_seen, stored_seen, woken_seen}
use Rattle.parking_lot_rules.specs.Classes.{bit}
use Rattle.parking_lot_protocol.specs.RwTable.{admits, after, begins, scans_for, is_admitted, is_barred, is_parked}
use Rattle.parking_lot_protocol.specs.RwTable.{is_writer_parked, is_written, is_tried, has_readers, asks_again, bumps}
use Rattle.parking_lot_protocol.specs.RwTable.{drains, goes_on, next_phase, once, over, scans, seeks, tries, wakes}
use Rattle.parking_lot_protocol.specs.RwTable.{with_taken, won_or}
use Rattle.parking_lot_machine_calls.specs.declared.seat.Core.{Core}
use Rattle.parking_lot_machine_calls.specs.declared.late_rw.LateRwPhase.{LateRwPhase}
use Rattle.parking_lot_machine_calls.specs.declared.late_rw.RwSleeper.{RwSleeper}
use Rattle.parking_lot_machine_calls.specs.declared.seat.LatePhase.{LatePhase}
use Rattle.parking_lot_machine_calls.specs.LateCalls.{comes_late, found_as}
use Rattle.parking_lot_machine_calls.specs.Stances.{core_next, resumed_as, sign, sleeper_asleep, sleeper_told}
use Rattle.mapworld_state.specs.Invariant.Causes.Causes.{has_seen, has_seen_in}

-- no phase that may follow comes of a word that was seen
record Unseen (o : Option RwPhase) : Type 0 where
  is : (p : RwPhase) → o ≡ Some p → has_seen_in p ≡ false

nothing : Unseen None
nothing = record { is = λ p e. absurd (none-some p e) }

this : {p : RwPhase} → has_seen_in p ≡ false → Unseen (Some p)
this {p} h = record { is = λ q e. subst (λ (z : RwPhase). has_seen_in z ≡ false) (same_Some p q e) h }

either : (b : Bool) (p q : RwPhase) → has_seen_in p ≡ false → has_seen_in q ≡ false → has_seen_in (cond b p q) ≡ false
either true p q h k = h
either false p q h k = k

by-once : (b : Bool) (p : RwPhase) → has_seen_in p ≡ false → Unseen (once b p)
by-once true p h = this h
by-once false p h = nothing

by-map : {X : Type 0} (f : X → RwPhase) (o : Option X) → ((x : X) → has_seen_in (f x) ≡ false) → Unseen (option_map f o)
by-map f None h = nothing
by-map f (Some x) h = this (h x)

by-then : {X : Type 0} (f : X → Option RwPhase) (o : Option X) → ((x : X) → Unseen (f x)) → Unseen (option_and_then f o)
by-then f None h = nothing
by-then f (Some x) h = h x

by-won : (p : RwPhase) (lost : ℕ → RwPhase) (r : Result (Unit {0}) ℕ) → has_seen_in p ≡ false
    → ((w : ℕ) → has_seen_in (lost w) ≡ false) → has_seen_in (won_or p lost r) ≡ false
by-won p lost (Ok u) h k = h
by-won p lost (Err w) h k = k w

by-seeks : (a : Seeking) (w : ℕ) → has_seen_in (seeks a w) ≡ false
by-seeks a w = by (is_admitted a.want w) (is_barred a.want w)
    (not (is_parked w || is_writer_parked w) && nat_lt 0 a.rounds) (is_parked w)
  where
    by : (b c d e : Bool)
        → has_seen_in (cond b (RwPhase.Admits a w)
        (cond c (cond d (RwPhase.Spins a) (cond e (RwPhase.Enters a.want a.woken) (RwPhase.SetParked a w)))
        (RwPhase.Loads a))) ≡ false
    by true c d e = refl
    by false false d e = refl
    by false true true e = refl
    by false true false true = refl
    by false true false false = refl

by-drains : (d : Draining) (w : ℕ) → has_seen_in (drains d w) ≡ false
by-drains d w = by (has_readers w) (nat_lt 0 d.rounds) (is_writer_parked w)
  where
    by : (b c e : Bool)
        → has_seen_in (cond b
        (cond c (RwPhase.DrainSpins d) (cond e (RwPhase.DrainEnters d) (RwPhase.DrainSetParked d w)))
        (RwPhase.Ends Outcome.Exclusive)) ≡ false
    by false c e = refl
    by true true e = refl
    by true false true = refl
    by true false false = refl

by-wakes : (rest : AfterWake) (n : ℕ) → has_seen_in (wakes rest n) ≡ false
by-wakes rest n = either (nat_lt 0 n) (RwPhase.Wakes rest n) (RwPhase.Finishes rest) refl refl

by-admits : (want : LockMode) (woken : Bool) → has_seen_in (admits want woken) ≡ false
by-admits (LockMode.Shared recursive) woken = refl
by-admits LockMode.Exclusive woken = refl

by-over : (rest : AfterWake) → has_seen_in (over rest) ≡ false
by-over AfterWake.FreedShared = refl
by-over AfterWake.FreedExclusive = refl
by-over AfterWake.Downgraded = refl
by-over AfterWake.AgainShared = refl
by-over AfterWake.AgainExclusive = refl

by-again : (rest : AfterWake) → Unseen (asks_again rest)
by-again AfterWake.FreedShared = nothing
by-again AfterWake.FreedExclusive = nothing
by-again AfterWake.Downgraded = nothing
by-again AfterWake.AgainShared = this refl
by-again AfterWake.AgainExclusive = this refl

by-bumps : (want : LockMode) (w : ℕ) → has_seen_in (bumps want w) ≡ false
by-bumps (LockMode.Shared recursive) w = either (is_written w) (RwPhase.Unshares AfterWake.AgainShared)
    (RwPhase.Ends Outcome.Shared) refl refl
by-bumps LockMode.Exclusive w = either (is_parked w) (RwPhase.Unlocks true AfterWake.AgainExclusive)
    (RwPhase.Ends Outcome.Exclusive) refl refl

by-scans : (s : Scanning) (token : Option ParkToken) (left : Bool) → Unseen (scans s token left)
by-scans s None left = this refl
by-scans s (Some token) left = by-map (goes_on left) (with_taken s token)
    (λ k. either (left && not k.writer) (RwPhase.Scans k) (RwPhase.Stores k left) refl refl)

-- one that may see a word as it tries
abbrev pub looks_in : RwPhase → Bool
looks_in (RwPhase.TryLoads want) = true
looks_in (RwPhase.TryAdmits want word left) = true
looks_in other = false

unseen : (p : RwPhase) (s : ActResult) → looks_in p ≡ false → Unseen (after p s)
unseen (RwPhase.Locking want) s h = by-once (is_start s) (RwPhase.Loads (begins want false)) refl
unseen (RwPhase.Trying want) s h = by-once (is_start s) (RwPhase.TryLoads want) refl
unseen RwPhase.UnlockingShared s h = by-once (is_start s) (RwPhase.Unshares AfterWake.FreedShared) refl
unseen (RwPhase.UnlockingExclusive fair) s h = by-once (is_start s) (RwPhase.Unlocks fair AfterWake.FreedExclusive) refl
unseen RwPhase.Downgrading s h = by-once (is_start s) RwPhase.Downgrades refl
unseen RwPhase.BumpingShared s h = by-once (is_start s) (RwPhase.BumpLoads (LockMode.Shared false)) refl
unseen RwPhase.BumpingExclusive s h = by-once (is_start s) (RwPhase.BumpLoads LockMode.Exclusive) refl
unseen (RwPhase.Loads a) s h = by-map _ (word_seen s) (λ w. by-seeks a w)
unseen (RwPhase.Admits a word) s h =
    by-map _ (exchange_seen s) (λ r. by-won _ _ r (by-admits a.want false) (λ w. by-seeks a w))
unseen (RwPhase.Spins a) s h = by-map _ (spun_seen s) (λ b. refl)
unseen (RwPhase.SetParked a word) s h =
    by-map _ (exchange_seen s) (λ r. by-won (RwPhase.Enters a.want a.woken) _ r refl (λ w. by-seeks a w))
unseen (RwPhase.Enters want woken) s h = by-once (is_entered s) (RwPhase.Checks want woken) refl
unseen (RwPhase.Checks want woken) s h =
    by-map _ (word_seen s)
    (λ w. either (is_barred want w && is_parked w) (RwPhase.Appends want) (RwPhase.Retreats want woken) refl refl)
unseen (RwPhase.Retreats want woken) s h = by-once (is_made s) (RwPhase.Loads (begins want woken)) refl
unseen (RwPhase.Appends want) s h = by-once (is_made s) (RwPhase.Rests want) refl
unseen (RwPhase.Rests want) s h = by-once (is_made s) (RwPhase.Sleeps want) refl
unseen (RwPhase.Sleeps want) s h =
    by-map _ (woken_seen s)
    (λ token. either (token.0 == 1) (admits want true) (RwPhase.Loads (begins want true)) (by-admits want true) refl)
unseen (RwPhase.DrainLoads d) s h = by-map _ (word_seen s) (λ w. by-drains d w)
unseen (RwPhase.DrainSpins d) s h = by-map _ (spun_seen s) (λ b. refl)
unseen (RwPhase.DrainSetParked d word) s h =
    by-map _ (exchange_seen s) (λ r. by-won (RwPhase.DrainEnters d) _ r refl (λ w. by-drains d w))
unseen (RwPhase.DrainEnters d) s h = by-once (is_entered s) (RwPhase.DrainChecks d) refl
unseen (RwPhase.DrainChecks d) s h =
    by-map _ (word_seen s)
    (λ w. either (has_readers w && is_writer_parked w) (RwPhase.DrainAppends d.rounds) (RwPhase.DrainRetreats d) refl
    refl)
unseen (RwPhase.DrainRetreats d) s h = by-once (is_made s) (RwPhase.DrainLoads d) refl
unseen (RwPhase.DrainAppends rounds) s h = by-once (is_made s) (RwPhase.DrainRests rounds) refl
unseen (RwPhase.DrainRests rounds) s h = by-once (is_made s) (RwPhase.DrainSleeps rounds) refl
unseen (RwPhase.DrainSleeps rounds) s h = by-map _ (woken_seen s) (λ token. refl)
unseen (RwPhase.TryLoads want) s h = absurd (false≢true (sym h))
unseen (RwPhase.TryAdmits want word left) s h = absurd (false≢true (sym h))
unseen (RwPhase.Refuses want) s h = nothing
unseen (RwPhase.BumpLoads want) s h = by-map _ (word_seen s) (λ w. by-bumps want w)
unseen (RwPhase.Relocks want) s h = by-map _ (word_seen s) (λ w. by-seeks (begins want false) w)
unseen (RwPhase.Unshares rest) s h =
    by-map _ (word_before s)
    (λ w. either (w / 16 == 1 && is_writer_parked w) (RwPhase.EnterWriterWakeSection rest) (over rest) refl
    (by-over rest))
unseen (RwPhase.EnterWriterWakeSection rest) s h = by-once (is_entered s) (RwPhase.TakeWriter rest) refl
unseen (RwPhase.TakeWriter rest) s h = by-map _ (took_seen s) (λ t. refl)
unseen (RwPhase.ClearWriterParked rest taken) s h = by-map _ (word_before s) (λ w. refl)
unseen (RwPhase.LeaveWriterWakeSection rest taken) s h = by-once (is_made s) (wakes rest (bit taken))
    (by-wakes rest (bit taken))
unseen (RwPhase.Unlocks fair rest) s h =
    by-map _ (exchange_seen s) (λ r. by-won (over rest) _ r (by-over rest) (λ w. refl))
unseen (RwPhase.LooksExclusive fair rest) s h = by-once (is_entered s) (RwPhase.Scans (scans_for fair rest)) refl
unseen RwPhase.Downgrades s h =
    by-map _ (word_before s)
    (λ w. either (is_parked w) RwPhase.EnterWakeSection (RwPhase.Ends Outcome.Downgraded) refl refl)
unseen RwPhase.EnterWakeSection s h = by-once (is_entered s) (RwPhase.Scans (scans_for false AfterWake.Downgraded)) refl
unseen (RwPhase.Scans a) s h = by-then _ (took_seen s) (λ t. by-scans a t.token t.left)
unseen (RwPhase.Stores a left) s h = by-map _ (stored_seen s) (λ fair. refl)
unseen (RwPhase.Leaves rest count handed) s h = by-once (is_made s) (wakes rest count) (by-wakes rest count)
unseen (RwPhase.Wakes rest count) s h = by-once (is_made s) (wakes rest (count - 1)) (by-wakes rest (count - 1))
unseen (RwPhase.Finishes rest) s h = by-then _ (word_seen s) (λ w. by-again rest)
unseen (RwPhase.Ends outcome) s h = nothing
unseen RwPhase.Invalid s h = nothing

next-unseen : (o : Option RwPhase) → Unseen o → has_seen_in (option_map_or (λ q. q) o RwPhase.Invalid) ≡ false
next-unseen None h = refl
next-unseen (Some q) h = h.is q refl

-- whatever a phase is told that doesn't try, it has seen nothing
pub blind : (p : RwPhase) (s : ActResult) → looks_in p ≡ false → has_seen_in (next_phase p s) ≡ false
blind p s h = next-unseen (after p s) (unseen p s h)

-- nor has one whose moment has passed
pub late-unseen : (p : LatePhase) (told : ActResult) → has_seen (core_next (Core.Late p) told) ≡ false
late-unseen LatePhase.Expires (ActResult.Woken token) = refl
late-unseen LatePhase.Expires ActResult.Entered = refl
late-unseen LatePhase.Quits (ActResult.Took token left) = refl
late-unseen LatePhase.Masks (ActResult.Before word) = refl
late-unseen LatePhase.Leaves ActResult.Made = refl
late-unseen (LatePhase.WasTaken by handed) ActResult.Made = refl
late-unseen p told = refl

-- nor has one that is woken
rw-woken-unseen : (p : RwPhase) (token : UnparkToken) → has_seen_in (next_phase p (ActResult.Woken token)) ≡ false
rw-woken-unseen p token = elim (either-is (looks_in p)) [
  | inl looks ↦ by p looks
  | inr not ↦ blind p (ActResult.Woken token) not
]
  where
    either-is : (b : Bool) → (b ≡ true) ⊎ (b ≡ false)
    either-is true = inl refl
    either-is false = inr refl

    by : (p : RwPhase) → looks_in p ≡ true → has_seen_in (next_phase p (ActResult.Woken token)) ≡ false
    by (RwPhase.TryLoads want) looks = refl
    by (RwPhase.TryAdmits want word left) looks = refl
    by p looks = absurd cc

sleeper-unseen : (k : RwSleeper) (token : UnparkToken) → has_seen (sleeper_told k (ActResult.Woken token)) ≡ false
sleeper-unseen (RwSleeper.Simple c) token = rw-woken-unseen c.phase token
sleeper-unseen (RwSleeper.Upgradable c) token = refl

resumed-unseen : (asleep : Bool) (k : RwSleeper) (handed : Bool) → has_seen (resumed_as asleep k handed) ≡ false
resumed-unseen true k handed = sleeper-unseen k (sign handed)
resumed-unseen false k handed = refl

pub tardy-unseen : (p : LateRwPhase) (told : ActResult) → has_seen (core_next (Core.LateRw p) told) ≡ false
tardy-unseen (LateRwPhase.Expires k) (ActResult.Woken token) = sleeper-unseen k token
tardy-unseen (LateRwPhase.Expires k) ActResult.Entered = refl
tardy-unseen (LateRwPhase.Quits k) (ActResult.Took token left) = refl
tardy-unseen LateRwPhase.Masks (ActResult.Before word) = refl
tardy-unseen LateRwPhase.Leaves ActResult.Made = refl
tardy-unseen (LateRwPhase.LeavesPending from) ActResult.Made = refl
tardy-unseen (LateRwPhase.WasTaken k by handed) ActResult.Made = resumed-unseen (sleeper_asleep k) k handed
tardy-unseen p told = refl

pub woken-unseen : (k : Core) (token : UnparkToken) → has_seen (core_next k (ActResult.Woken token)) ≡ false
woken-unseen (Core.Mutex c) token = refl
woken-unseen (Core.Late p) token = late-unseen p (ActResult.Woken token)
woken-unseen (Core.LateRw p) token = tardy-unseen p (ActResult.Woken token)
woken-unseen (Core.Upgrade c) token = refl
woken-unseen (Core.Rw c) token = rw-woken-unseen c.phase token

-- nor has one that has found that it was taken
pub found-unseen : (by : ℕ) (handed : Bool) (k : Core) → comes_late k ≡ true → has_seen (found_as by handed k) ≡ false
found-unseen by handed (Core.Late p) comes = refl
found-unseen by handed (Core.LateRw (LateRwPhase.Expires k)) comes = refl
found-unseen by handed k comes = absurd (false≢true comes)

-- A LOOK

zero-admits : (want : LockMode) → is_tried want 0 ≡ true
zero-admits (LockMode.Shared recursive) = refl
zero-admits LockMode.Exclusive = refl

-- a try sees a word: it asks for the lock by it, or is refused, and then the word isn't 0
pub seen-tries : (want : LockMode) (left w : ℕ) → has_seen_in (tries want left w) ≡ true → w ≢ 0
seen-tries want left w seen zero =
    absurd (false≢true (sym (by (is_tried want w) (ap (is_tried want) zero ∙ zero-admits want)) ∙ seen))
  where
    by : (b : Bool) → b ≡ true → has_seen_in (cond b (RwPhase.TryAdmits want w left) (RwPhase.Refuses want)) ≡ false
    by true e = ap (λ n. not (n == 0)) zero
    by false e = absurd (false≢true e)
