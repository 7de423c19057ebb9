-- What a call at a reader-writer lock keeps from its beginning to its end.
use Rattle.std.proofs.Common.{◌≡◌, ◌≤◌, ◌<◌, ℕ, ◌+◌, ◌-◌, ◌/◌, ◌^◌, ◌==◌, ◌&&◌, ◌||◌, inl, inr, nat_lt, not, min, Bool}
use Rattle.std.proofs.Common.{true, false, cond, List, [], ◌∷◌, length, Some, None, slice_get, refl, sym, subst, arith}
use Rattle.std.specs.Option.{option_map_or}
use Rattle.std.proofs.lemmas.Bool.{both_ways, cases_lt, lt-ltb}
use Rattle.std.proofs.lemmas.List.Sums.{sum_by-cons}
use Rattle.parking_lot_rules.proofs.Totals.{total-at}
use Rattle.parking_lot_machine_calls.specs.Stances.{rw_taken}
use Rattle.parking_lot_core_model.specs.declared.parking.ParkToken.{ParkToken}
use Rattle.parking_lot_rules.specs.Classes.{OpenReaders, TakenReaders, weight, total}
use Rattle.parking_lot_rules.specs.Roles.{Owned, Shares, Role}
use Rattle.parking_lot_rules.specs.Roles as rules
use Rattle.parking_lot_rules.specs.Lock.{Lock, IsSound}
use Rattle.parking_lot_protocol.specs.declared.act.ActResult.{ActResult}
use Rattle.parking_lot_protocol.specs.declared.rw_phase.LockMode.{LockMode}
use Rattle.parking_lot_protocol.specs.declared.rw_phase.LockMode.TheVariants.{Shared, Exclusive}
use Rattle.parking_lot_protocol.specs.declared.rw_phase.AfterWake.{AfterWake}
use Rattle.parking_lot_protocol.specs.declared.rw_phase.AfterWake.TheVariants.{FreedShared, FreedExclusive, Downgraded}
use Rattle.parking_lot_protocol.specs.declared.rw_phase.AfterWake.TheVariants.{AgainShared, AgainExclusive}
use Rattle.parking_lot_protocol.specs.declared.rw_phase.Seeking.{Seeking}
use Rattle.parking_lot_protocol.specs.declared.rw_phase.Draining.{Draining}
use Rattle.parking_lot_protocol.specs.declared.rw_phase.Scanning.{Scanning}
use Rattle.parking_lot_protocol.specs.declared.rw_phase.RwPhase.{RwPhase}
use Rattle.parking_lot_protocol.specs.declared.rw_phase.RwPhase.TheVariants.{Locking, Trying, UnlockingShared}
use Rattle.parking_lot_protocol.specs.declared.rw_phase.RwPhase.TheVariants.{UnlockingExclusive, Downgrading}
use Rattle.parking_lot_protocol.specs.declared.rw_phase.RwPhase.TheVariants.{BumpingShared, BumpingExclusive, Loads}
use Rattle.parking_lot_protocol.specs.declared.rw_phase.RwPhase.TheVariants.{Admits, Spins, SetParked, Enters, Checks}
use Rattle.parking_lot_protocol.specs.declared.rw_phase.RwPhase.TheVariants.{Retreats, Appends, Rests, Sleeps}
use Rattle.parking_lot_protocol.specs.declared.rw_phase.RwPhase.TheVariants.{DrainLoads, DrainSpins, DrainSetParked}
use Rattle.parking_lot_protocol.specs.declared.rw_phase.RwPhase.TheVariants.{DrainEnters, DrainChecks, DrainRetreats}
use Rattle.parking_lot_protocol.specs.declared.rw_phase.RwPhase.TheVariants.{DrainAppends, DrainRests, DrainSleeps}
use Rattle.parking_lot_protocol.specs.declared.rw_phase.RwPhase.TheVariants.{TryLoads, TryAdmits, BumpLoads, Relocks}
use Rattle.parking_lot_protocol.specs.declared.rw_phase.RwPhase.TheVariants.{Unshares, EnterWriterWakeSection}
use Rattle.parking_lot_protocol.specs.declared.rw_phase.RwPhase.TheVariants.{TakeWriter, ClearWriterParked}
use Rattle.parking_lot_protocol.specs.declared.rw_phase.RwPhase.TheVariants.{LeaveWriterWakeSection, Unlocks}
use Rattle.parking_lot_protocol.specs.declared.rw_phase.RwPhase.TheVariants.{LooksExclusive, Downgrades}
use Rattle.parking_lot_protocol.specs.declared.rw_phase.RwPhase.TheVariants.{EnterWakeSection, Scans, Stores, Leaves}
use Rattle.parking_lot_protocol.specs.declared.rw_phase.RwPhase.TheVariants.{Wakes, Finishes, Ends, Invalid}
use Rattle.parking_lot_protocol.specs.RwTable.{is_parked, is_writer_parked, is_written, has_readers, has_room}
use Rattle.parking_lot_protocol.specs.RwTable.{is_barred, is_admitted, is_tried, seeks, drains, tries, begins, admits}
use Rattle.parking_lot_protocol.specs.RwTable.{bumps, over, wakes, goes_on, scans, next_phase}
use Rattle.parking_lot_protocol.specs.RwRules.{QueuePosition, role, owns, IsTold, IsToken, gives_exclusive}
use Rattle.parking_lot_machine.specs.RowFits as fits
use Rattle.parking_lot_machine.specs.RowFits.{rw_prepared, rw_keeps, rest_keeps}
use Rattle.parking_lot_machine.specs.RwLaws.{rw_begins, count_shared, IsCounted, CallsKeep}

-- what holds of both
pub one_of : {X : Type 0} (P : X → Type 0) (b : Bool) (x y : X) → P x → P y → P (cond b x y)
one_of P true x y p q = p
one_of P false x y p q = q

-- and where it matters which
one_by : {X : Type 0} (P : X → Type 0) (b : Bool) (x y : X) → (b ≡ true → P x) → (b ≡ false → P y) → P (cond b x y)
one_by P true x y p q = p refl
one_by P false x y p q = q refl

-- where one more can be counted, a reader that is kept out of a recursive lock finds no readers
kept_out : (room written readers : Bool) → room ≡ true → (room && (not written || (true && readers))) ≡ false
    → readers ≡ false
kept_out room written false some e = refl
kept_out true true true some e = absurd (both_ways true e refl)
kept_out true false true some e = absurd (both_ways true e refl)
kept_out false written true some e = absurd (both_ways false refl some)

no_readers : (word : ℕ) → has_readers word ≡ false → word / 16 ≤ 0
no_readers word e = elim (cases_lt 0 (word / 16)) [
  | inl b ↦ absurd (both_ways (has_readers word) e (lt-ltb 0 (word / 16) b))
  | inr b ↦ b
]

module _ (recursive : Bool) (n : ℕ) where
  abbrev Keeps : RwPhase → Type 0
  Keeps p = rw_keeps recursive n p

  abbrev Asks : LockMode → Type 0
  Asks want = fits.Asks recursive n want

  -- whoever isn't admitted has no other hold
  alone : (want : LockMode) (word : ℕ) → Asks want → (n ≤ word / 16) × (word / 16 < 2 ^ 60 - 1)
      → is_admitted want word ≡ false → n ≡ 0
  alone (Shared true) word k few out =
      omega (
        arith,
        few.0,
        no_readers word (kept_out (has_room word) (is_written word) (has_readers word)
            (lt-ltb (word / 16) (2 ^ 60 - 1) few.1) out),
      )
  alone (Shared false) word k few out = k
  alone Exclusive word k few out = k

  seeks_keeps : (a : Seeking) (word : ℕ) → Asks a.want → (n ≤ word / 16) × (word / 16 < 2 ^ 60 - 1)
      → Keeps (seeks a word)
  seeks_keeps a word k few =
      one_by Keeps (is_admitted a.want word) _ _ (λ e. k) (λ out.
      one_of Keeps (is_barred a.want word) _ _
      (one_of Keeps (not (is_parked word || is_writer_parked word) && nat_lt 0 a.rounds) _ _ k
      (one_of Keeps (is_parked word) _ _ (k, alone a.want word k few out) (k, alone a.want word k few out))) k)

  -- what is counted is what is seen
  as_seen : (p : RwPhase) (x v : ℕ) → owns n p ≡ Shares n → IsCounted n p x → v ≡ x → (n ≤ v / 16)
      × (v / 16 < 2 ^ 60 - 1)
  as_seen p x v own few e = subst (λ y. (n ≤ y / 16) × (y / 16 < 2 ^ 60 - 1)) (sym e) (few own)

  drains_keeps : (d : Draining) (word : ℕ) → n ≡ 0 → Keeps (drains d word)
  drains_keeps d word k = one_of Keeps (has_readers word) _ _
      (one_of Keeps (nat_lt 0 d.rounds) _ _ k (one_of Keeps (is_writer_parked word) _ _ k k)) tt

  admits_keeps : (want : LockMode) (woken : Bool) → Asks want → Keeps (admits want woken)
  admits_keeps (Shared recursive) woken k = tt
  admits_keeps Exclusive woken k = k

  tries_keeps : (want : LockMode) (left word : ℕ) → Asks want → Keeps (tries want left word)
  tries_keeps want left word k = one_of Keeps (is_tried want word) _ _ k k

  bumps_keeps : (want : LockMode) (word : ℕ) → n ≡ 0 → Keeps (bumps want word)
  bumps_keeps (Shared recursive) word k = one_of Keeps (is_written word) _ _ k tt
  bumps_keeps Exclusive word k = one_of Keeps (is_parked word) _ _ k tt

  -- one that has no other hold
  zero_keeps : (rest : AfterWake) → n ≡ 0 → rest_keeps n rest
  zero_keeps FreedShared k = tt
  zero_keeps FreedExclusive k = k
  zero_keeps Downgraded k = tt
  zero_keeps AgainShared k = k
  zero_keeps AgainExclusive k = k

  over_keeps : (rest : AfterWake) → rest_keeps n rest → Keeps (over rest)
  over_keeps FreedShared k = tt
  over_keeps FreedExclusive k = tt
  over_keeps Downgraded k = tt
  over_keeps AgainShared k = k
  over_keeps AgainExclusive k = k

  wakes_keeps : (rest : AfterWake) (count : ℕ) → rest_keeps n rest → Keeps (wakes rest count)
  wakes_keeps rest count k = one_of Keeps (nat_lt 0 count) _ _ k k

  goes_keeps : (s : Scanning) (left : Bool) → rest_keeps n s.rest → Keeps (goes_on left s)
  goes_keeps s left k = go left s.writer refl
    where
      go : (a b : Bool) → s.writer ≡ b → Keeps (cond (a && not b) (Scans s) (Stores s left))
      go true false e = (k, e)
      go true true e = k
      go false b e = k

  abbrev KeepsAt : Scanning → Bool → ℕ → Type 0
  KeepsAt a left y = Keeps (option_map_or (λ q. q) (scans a (Some (record { 0 = y })) left) Invalid)

  takes_keeps : (a : Scanning) (left : Bool) (token : ParkToken) → rest_keeps n a.rest → IsToken (Some token)
      → Keeps (next_phase (Scans a) (ActResult.Took (Some token) left))
  takes_keeps a left token k t = by_token t
    where
      by_token : IsToken (Some token) → KeepsAt a left token.0
      by_token (inl e) = subst (KeepsAt a left) (sym e)
          (goes_keeps (record a { shared = min (a.shared + 1) (2 ^ 32 - 1) }) left k)
      by_token (inr (inl e)) = subst (KeepsAt a left) (sym e) (goes_keeps (record a { writer = true }) left k)
      by_token (inr (inr e)) = subst (KeepsAt a left) (sym e) (goes_keeps (record a { upgradable = true }) left k)

  finishes_keeps : (rest : AfterWake) (x : ℕ) (s : ActResult) → rest_keeps n rest → IsTold (Finishes rest) x s
      → Keeps (next_phase (Finishes rest) s)
  finishes_keeps AgainShared x (ActResult.Word v) k told = k
  finishes_keeps AgainExclusive x (ActResult.Word v) k told = k
  finishes_keeps rest x s k told = absurd told

  keeps_on : (p : RwPhase) (x : ℕ) (s : ActResult) → Keeps p → IsCounted n p x → IsTold p x s → Keeps (next_phase p s)
  keeps_on (Loads a) x (ActResult.Word v) k few told = seeks_keeps a v k (as_seen (Loads a) x v refl few told)
  keeps_on (Admits a word) x ActResult.Exchanged k few told = admits_keeps a.want false k
  keeps_on (Admits a word) x (ActResult.Word v) k few told =
      seeks_keeps a v k (as_seen (Admits a word) x v refl few told.0)
  keeps_on (Spins a) x (ActResult.Spun spun) k few told = k
  keeps_on (SetParked a word) x ActResult.Exchanged k few told = k
  keeps_on (SetParked a word) x (ActResult.Word v) k few told =
      seeks_keeps a v k.0 (as_seen (SetParked a word) x v refl few told.0)
  keeps_on (Enters want woken) x ActResult.Entered k few told = k
  keeps_on (Checks want woken) x (ActResult.Word v) k few told = one_of Keeps (is_barred want v && is_parked v) _ _ k k
  keeps_on (Retreats want woken) x ActResult.Made k few told = k.0
  keeps_on (Appends want) x ActResult.Made k few told = k
  keeps_on (Rests want) x ActResult.Made k few told = k
  keeps_on (Sleeps want) x (ActResult.Woken token) k few told = one_of Keeps (token.0 == 1) _ _
      (admits_keeps want true k.0) k.0
  keeps_on (DrainLoads d) x (ActResult.Word v) k few told = drains_keeps d v k
  keeps_on (DrainSpins d) x (ActResult.Spun spun) k few told = k
  keeps_on (DrainSetParked d word) x ActResult.Exchanged k few told = k
  keeps_on (DrainSetParked d word) x (ActResult.Word v) k few told = drains_keeps d v k
  keeps_on (DrainEnters d) x ActResult.Entered k few told = k
  keeps_on (DrainChecks d) x (ActResult.Word v) k few told = one_of Keeps (has_readers v && is_writer_parked v) _ _ k k
  keeps_on (DrainRetreats d) x ActResult.Made k few told = k
  keeps_on (DrainAppends rounds) x ActResult.Made k few told = k
  keeps_on (DrainRests rounds) x ActResult.Made k few told = k
  keeps_on (DrainSleeps rounds) x (ActResult.Woken token) k few told = k
  keeps_on (TryLoads want) x (ActResult.Word v) k few told = tries_keeps want 63 v k
  keeps_on (TryAdmits want word left) x ActResult.Exchanged k few told = tt
  keeps_on (TryAdmits want word left) x (ActResult.Word v) k few told = one_of Keeps (nat_lt 0 left) _ _
      (tries_keeps want (left - 1) v k) k
  keeps_on (BumpLoads want) x (ActResult.Word v) k few told = bumps_keeps want v k
  keeps_on (Relocks want) x (ActResult.Word v) k few told = seeks_keeps (begins want false) v k
      (as_seen (Relocks want) x v refl few told)
  keeps_on (Unshares rest) x (ActResult.Before v) k few told = one_of Keeps (v / 16 == 1 && is_writer_parked v) _ _ k
      (over_keeps rest k)
  keeps_on (EnterWriterWakeSection rest) x ActResult.Entered k few told = k
  keeps_on (TakeWriter rest) x (ActResult.Took token left) k few told = k
  keeps_on (ClearWriterParked rest taken) x (ActResult.Before v) k few told = k
  keeps_on (LeaveWriterWakeSection rest taken) x ActResult.Made k few told = wakes_keeps rest _ k
  keeps_on (Unlocks fair rest) x ActResult.Exchanged k few told = over_keeps rest (zero_keeps rest k)
  keeps_on (Unlocks fair rest) x (ActResult.Word v) k few told = k
  keeps_on (LooksExclusive fair rest) x ActResult.Entered k few told = (zero_keeps rest k, refl)
  keeps_on Downgrades x (ActResult.Before v) k few told = one_of Keeps (is_parked v) _ _ tt tt
  keeps_on EnterWakeSection x ActResult.Entered k few told = (tt, refl)
  keeps_on (Scans a) x (ActResult.Took (Some token) left) k few told = takes_keeps a left token k.0 told
  keeps_on (Scans a) x (ActResult.Took None left) k few told = k.0
  keeps_on (Stores a left) x (ActResult.Stored fair) k few told = k
  keeps_on (Leaves rest count handed) x ActResult.Made k few told = wakes_keeps rest count k
  keeps_on (Wakes rest count) x ActResult.Made k few told = wakes_keeps rest (count - 1) k
  keeps_on (Finishes rest) x s k few told = finishes_keeps rest x s k told
  keeps_on (Locking want) x s k few told = absurd k
  keeps_on (Trying want) x s k few told = absurd k
  keeps_on UnlockingShared x s k few told = absurd k
  keeps_on (UnlockingExclusive fair) x s k few told = absurd k
  keeps_on Downgrading x s k few told = absurd k
  keeps_on BumpingShared x s k few told = absurd k
  keeps_on BumpingExclusive x s k few told = absurd k
  keeps_on Invalid x s k few told = absurd k
  keeps_on p x s k few told = absurd told

  begins_keep : (p : RwPhase) → rw_begins recursive n p → Keeps (next_phase p ActResult.Start)
  begins_keep (Locking want) m = m
  begins_keep (Trying want) m = m
  begins_keep UnlockingShared m = tt
  begins_keep (UnlockingExclusive fair) m = m
  begins_keep Downgrading m = tt
  begins_keep BumpingShared m = m
  begins_keep BumpingExclusive m = m
  begins_keep p m = absurd m

  gives_nothing : (rest : AfterWake) → rest_keeps n rest → gives_exclusive rest ≡ true → n ≡ 0
  gives_nothing FreedExclusive k e = k
  gives_nothing AgainExclusive k e = k
  gives_nothing rest k e = absurd (both_ways false refl e)

  no_length : (us : List ℕ) → length us ≡ 0 → us ≡ []
  no_length [] e = refl
  no_length (u ∷ us) e = absurd (omega arith)

  prepares : (us : List ℕ) (p : RwPhase) → Keeps p → length us ≡ rw_taken p → count_shared p ≤ 2 ^ 18
      → rw_prepared recursive n us p
  prepares us (SetParked a word) k e few = k.0
  prepares us (Enters want woken) k e few = k.1
  prepares us (Checks want woken) k e few = k.1
  prepares us (Retreats want woken) k e few = k.1
  prepares us (Appends want) k e few = k.1
  prepares us (Rests want) k e few = k.1
  prepares us (Sleeps want) k e few = k.1
  prepares us (BumpLoads want) k e few = tt
  prepares us (Unshares rest) k e few = tt
  prepares us (EnterWriterWakeSection rest) k e few = tt
  prepares us (TakeWriter rest) k e few = no_length us e
  prepares us (ClearWriterParked rest taken) k e few = tt
  prepares us (LeaveWriterWakeSection rest taken) k e few = tt
  prepares us (LooksExclusive fair rest) k e few = no_length us e
  prepares us EnterWakeSection k e few = no_length us e
  prepares us (Scans s) k e few = omega arith
  prepares us (Stores s left) k e few = (omega arith, e)
  prepares us (Leaves rest count handed) k e few = tt
  prepares us (Wakes rest count) k e few = tt
  prepares us (Finishes rest) k e few = (no_length us e, gives_nothing rest k)
  prepares us (Locking want) k e few = absurd k
  prepares us (Trying want) k e few = absurd k
  prepares us UnlockingShared k e few = absurd k
  prepares us (UnlockingExclusive fair) k e few = absurd k
  prepares us Downgrading k e few = absurd k
  prepares us BumpingShared k e few = absurd k
  prepares us BumpingExclusive k e few = absurd k
  prepares us Invalid k e few = absurd k
  prepares us Downgrades k e few = tt
  prepares us (Ends o) k e few = tt
  prepares us p k e few = k

open_most : (m : rules.Mode) (how : rules.Mark) (o : Owned) (i : ℕ) (s : rules.Stay)
    → weight OpenReaders (record { owns = o; does = rules.Taken1 m i how s }) ≤ 1
unfolding weight
open_most rules.Shared rules.Open o i s = omega arith
open_most rules.Exclusive rules.Open o i s = omega arith
open_most rules.Upgradable rules.Open o i s = omega arith
open_most m rules.Normal o i s = omega arith
open_most m rules.Handed o i s = omega arith

each_most : (o : Owned) (p : rules.Phase) → weight OpenReaders (record { owns = o; does = p }) ≤ 1
unfolding weight
each_most o (rules.Taken1 m i how s) = open_most m how o i s
each_most o p = omega arith

all_most : (rs : List Role) → total OpenReaders rs ≤ length rs
all_most [] = omega arith
all_most (r ∷ rs) = omega (arith, sum_by-cons (weight OpenReaders) r rs, each_most r.owns r.does, all_most rs)

scan_weighs : (o : Owned) (c : rules.Cause) (n : ℕ) (u w : Bool) (us : List ℕ)
    → weight TakenReaders (record { owns = o; does = rules.Scans1 c n u w us }) ≡ n
unfolding weight
scan_weighs o c n u w us = omega arith

scans_few : (l : Lock) (t : ℕ) (o : Owned) (c : rules.Cause) (n : ℕ) (u w : Bool) (us : List ℕ) → IsSound l
    → slice_get l.roles t ≡ Some (record { owns = o; does = rules.Scans1 c n u w us }) → n ≤ length l.roles
scans_few l t o c n u w us h at =
    omega (
      arith,
      h.fits.taken_readers,
      total-at l.roles t _ at TakenReaders,
      scan_weighs o c n u w us,
      all_most l.roles,
    )

few_counted : (l : Lock) (t n : ℕ) (spot : QueuePosition) (us : List ℕ) (p : RwPhase) → IsSound l
    → slice_get l.roles t ≡ Some (role n spot us p) → count_shared p ≤ length l.roles
few_counted l t n spot us (Scans s) h at = scans_few l t _ _ s.shared _ _ us h at
few_counted l t n spot us (Stores s left) h at = scans_few l t _ _ s.shared _ _ us h at
few_counted l t n spot us p h at = omega arith

pub calls_keep : CallsKeep
calls_keep = record {
  begins = λ recursive n p m. begins_keep recursive n p m;
  goes_on = λ recursive n p x s k few told. keeps_on recursive n p x s k few told;
  prepared = λ recursive n us p k e few. prepares recursive n us p k e few;
  few = few_counted;
}
