-- Sections and lists: what moves do to them, and what is known of them.
use Rattle.std.proofs.Common.{◌≡◌, ◌≤◌, ℕ, zero, suc, ◌+◌, ◌/◌, ◌==◌, ◌&&◌, inl, inr, not, min, Bool, true, false, cond}
use Rattle.std.proofs.Common.{List, [], ◌∷◌, length, Some, None, refl, sym, ap, ◌∙◌, subst, arith, ◌||◌, ◌^◌, ◌-◌}
use Rattle.std.proofs.Common.{nat_lt}
use Rattle.std.specs.Option.{option_map_or}
use Rattle.std.proofs.lemmas.Option.{none-some}
use Rattle.parking_lot_core_model.specs.Results.{is_left}
use Rattle.parking_lot_core_model.specs.declared.parking.ParkToken.{ParkToken}
use Rattle.parking_lot_core_model.specs.declared.place.Waiter.{Waiter}
use Rattle.parking_lot_rules.specs.Classes.{Inside1, Inside2, weight, total, weighs, bit}
use Rattle.parking_lot_rules.specs.Lock.{IsSound}
use Rattle.parking_lot_rules.specs.Family.{Family, SoundFamilyOf, Key, First, Second, section, Crossing, Comes, Goes}
use Rattle.parking_lot_rules.specs.Family.{key}
use Rattle.parking_lot_rules.specs.Family.{crossing}
use Rattle.parking_lot_rules.specs.Family as crossings
use Rattle.parking_lot_rules.specs.Any.{AnySound, any_inside}
use Rattle.parking_lot_rules.proofs.Totals.{total-at}
use Rattle.parking_lot_protocol.specs.declared.act.ActResult.{ActResult}
use Rattle.parking_lot_protocol.specs.declared.rw_phase.LockMode.{LockMode}
use Rattle.parking_lot_protocol.specs.declared.rw_phase.AfterWake.{AfterWake}
use Rattle.parking_lot_protocol.specs.declared.rw_phase.AfterWake.TheVariants.{FreedShared, FreedExclusive, Downgraded}
use Rattle.parking_lot_protocol.specs.declared.rw_phase.AfterWake.TheVariants.{AgainShared, AgainExclusive}
use Rattle.parking_lot_protocol.specs.declared.rw_phase.Scanning.{Scanning}
use Rattle.parking_lot_protocol.specs.declared.rw_phase.RwPhase.{RwPhase}
use Rattle.parking_lot_protocol.specs.declared.rw_phase.RwPhase.TheVariants.{Locking, Trying, UnlockingShared}
use Rattle.parking_lot_protocol.specs.declared.rw_phase.RwPhase.TheVariants.{UnlockingExclusive, Downgrading}
use Rattle.parking_lot_protocol.specs.declared.rw_phase.RwPhase.TheVariants.{BumpingShared, BumpingExclusive, Loads}
use Rattle.parking_lot_protocol.specs.declared.rw_phase.RwPhase.TheVariants.{Admits, Spins, SetParked, Enters, Checks}
use Rattle.parking_lot_protocol.specs.declared.rw_phase.RwPhase.TheVariants.{Retreats, Appends, Rests, Sleeps}
use Rattle.parking_lot_protocol.specs.declared.rw_phase.RwPhase.TheVariants.{DrainLoads, DrainSpins, DrainSetParked}
use Rattle.parking_lot_protocol.specs.declared.rw_phase.RwPhase.TheVariants.{DrainEnters, DrainChecks, DrainRetreats}
use Rattle.parking_lot_protocol.specs.declared.rw_phase.RwPhase.TheVariants.{DrainAppends, DrainRests, DrainSleeps}
use Rattle.parking_lot_protocol.specs.declared.rw_phase.RwPhase.TheVariants.{TryLoads, TryAdmits, BumpLoads, Relocks}
use Rattle.parking_lot_protocol.specs.declared.rw_phase.RwPhase.TheVariants.{Unshares, EnterWriterWakeSection}
use Rattle.parking_lot_protocol.specs.declared.rw_phase.RwPhase.TheVariants.{TakeWriter, ClearWriterParked}
use Rattle.parking_lot_protocol.specs.declared.rw_phase.RwPhase.TheVariants.{LeaveWriterWakeSection, Unlocks}
use Rattle.parking_lot_protocol.specs.declared.rw_phase.RwPhase.TheVariants.{LooksExclusive, Downgrades}
use Rattle.parking_lot_protocol.specs.declared.rw_phase.RwPhase.TheVariants.{EnterWakeSection, Scans, Stores, Leaves}
use Rattle.parking_lot_protocol.specs.declared.rw_phase.RwPhase.TheVariants.{Wakes, Finishes, Invalid}
use Rattle.parking_lot_protocol.specs.RwTable.{sum_of, act_of, next_phase, is_parked, is_writer_parked, is_barred}
use Rattle.parking_lot_protocol.specs.RwTable.{has_readers, goes_on, scans, is_written, is_admitted, is_tried, seeks}
use Rattle.parking_lot_protocol.specs.RwTable.{drains, tries, begins, admits, bumps, over, wakes}
use Rattle.parking_lot_protocol.specs.RwRules.{IsToken, QueuePosition, Listed, Off, role, Move, Makes, move, admission}
use Rattle.parking_lot_protocol.specs.RwRules.{try_admission, IsTold}
use Rattle.parking_lot_rules.specs.Clauses.{Fits}
use Rattle.parking_lot_protocol.specs.declared.rw_phase.Seeking.{Seeking}
use Rattle.parking_lot_protocol.specs.declared.rw_phase.Draining.{Draining}
use Rattle.parking_lot_protocol.specs.Wake.{wake_answer}
use Rattle.parking_lot_machine.specs.Passes.{ArePassed}
use Rattle.parking_lot_machine_calls.specs.Stances.{rw_stance}
use Rattle.parking_lot_machine.specs.RowFits.{rw_knows}
use Rattle.parking_lot_machine.specs.RwLaws.{NobodyIs, act_crossing, move_crossing, in_first, in_second, ActsCross}
use Rattle.parking_lot_machine.specs.RwLaws.{FreeSectionsAreEmpty, Learns, ListsAreKnown}
use Rattle.parking_lot_machine.proofs.RwKeeping.{one_of}

-- SECTIONS

abbrev IsQuietly : Move → Type 0
IsQuietly m = move_crossing m ≡ crossings.Stays

admits_quietly : (n : ℕ) (q : LockMode) (woken : Bool) → IsQuietly (Makes (admission n q woken))
admits_quietly n (LockMode.Shared recursive) woken = refl
admits_quietly n LockMode.Exclusive woken = refl

tries_quietly : (n : ℕ) (q : LockMode) → IsQuietly (Makes (try_admission n q))
tries_quietly n (LockMode.Shared recursive) = refl
tries_quietly n LockMode.Exclusive = refl

finishes_quietly : (rest : AfterWake) → crossings.Stays ≡ act_crossing (rw_stance (Finishes rest))
    (act_of (Finishes rest))
finishes_quietly FreedShared = refl
finishes_quietly FreedExclusive = refl
finishes_quietly Downgraded = refl
finishes_quietly AgainShared = refl
finishes_quietly AgainExclusive = refl

crosses : (n : ℕ) (us : List ℕ) (p : RwPhase) (x : ℕ) (s : ActResult) → IsTold p x s
    → move_crossing (move n us p s) ≡ act_crossing (rw_stance p) (act_of p)
crosses n us (Admits a word) x ActResult.Exchanged told = admits_quietly n a.want a.woken
crosses n us (SetParked a word) x ActResult.Exchanged told = refl
crosses n us (Checks a woken) x (ActResult.Word word) told = one_of IsQuietly (is_barred a word && is_parked word) _ _
    refl refl
crosses n us (DrainLoads d) x (ActResult.Word word) told = one_of IsQuietly (has_readers word) _ _ refl refl
crosses n us (DrainSetParked d flagged) x ActResult.Exchanged told = refl
crosses n us (DrainSetParked d flagged) x (ActResult.Word word) told = one_of IsQuietly (has_readers word) _ _ refl refl
crosses n us (DrainChecks d) x (ActResult.Word word) told = one_of IsQuietly (has_readers word && is_writer_parked word)
    _ _ refl refl
crosses n us (Sleeps a) x (ActResult.Woken token) told = refl
crosses n us (TryAdmits a word left) x ActResult.Exchanged told = tries_quietly n a
crosses n us (Unshares rest) x (ActResult.Before word) told = one_of (λ k. IsQuietly (Makes k))
    (word / 16 == 1 && is_writer_parked word) _ _ refl refl
crosses n us (TakeWriter rest) x (ActResult.Took (Some token) left) told = refl
crosses n us (Unlocks fair rest) x ActResult.Exchanged told = refl
crosses n us Downgrades x (ActResult.Before word) told = refl
crosses n us (Scans a) x (ActResult.Took (Some token) left) told = refl
crosses n us (Stores a left) x (ActResult.Stored fair) told = refl
crosses n us (Finishes rest) x s told = finishes_quietly rest
crosses n us p x s told = refl

first_is : (n : ℕ) (spot : QueuePosition) (us : List ℕ) (p : RwPhase) → weight Inside1 (role n spot us p) ≡ in_first
    (rw_stance p)
unfolding weight
first_is n Listed us (Sleeps want) = refl
first_is n (Off by mark) us (Sleeps want) = refl
first_is n Listed us (DrainSleeps rounds) = refl
first_is n (Off by mark) us (DrainSleeps rounds) = refl
first_is n spot us p = refl

second_is : (n : ℕ) (spot : QueuePosition) (us : List ℕ) (p : RwPhase) → weight Inside2 (role n spot us p) ≡ in_second
    (rw_stance p)
unfolding weight
second_is n Listed us (Sleeps want) = refl
second_is n (Off by mark) us (Sleeps want) = refl
second_is n Listed us (DrainSleeps rounds) = refl
second_is n (Off by mark) us (DrainSleeps rounds) = refl
second_is n spot us p = refl

pub acts_cross : ActsCross
acts_cross = record { acts = crosses; first = first_is; second = second_is }

one_at_most : (n : ℕ) → n ≤ 1 → (n ≡ 1 → ⊥) → n ≡ 0
one_at_most zero h e = refl
one_at_most (suc n) h e = absurd (e (omega arith))

pub free_sections_are_empty : FreeSectionsAreEmpty
free_sections_are_empty bucket f i l sound is = (none First fits.inside1, none Second fits.inside2)
  where
    fits : Fits l.word (λ c. total c l.roles)
    fits = let h : IsSound l = subst AnySound is (sound.sound i) in h.fits

    none : (k : Key) → total (section k) l.roles ≤ 1 → f.entered (bucket (key i k)) ≡ None
        → NobodyIs (section k) l.roles
    none k most free u r at = one_at_most (weight (section k) r)
        (omega (arith, most, total-at l.roles u r at (section k)))
        (λ one. none-some u
        (sym free ∙ sound.entered i k u (ap (λ y. any_inside y k u) is ∙ ap (weighs (section k)) at ∙ one)))

-- LISTS

-- a phase that needs to know nothing of a list
abbrev IsCalm : RwPhase → Type 0
IsCalm (Stores a left) = ⊥
IsCalm (ClearWriterParked rest taken) = ⊥
IsCalm p = Unit {0}

calm_knows : (p : RwPhase) (first second : List Waiter) → IsCalm p → rw_knows p first second
calm_knows (Stores a left) first second calm = absurd calm
calm_knows (ClearWriterParked rest taken) first second calm = absurd calm
calm_knows p first second calm = tt

seeks_calm : (a : Seeking) (word : ℕ) → IsCalm (seeks a word)
seeks_calm a word =
    one_of IsCalm (is_admitted a.want word) _ _ tt
    (one_of IsCalm (is_barred a.want word) _ _
    (one_of IsCalm (not (is_parked word || is_writer_parked word) && nat_lt 0 a.rounds) _ _ tt
    (one_of IsCalm (is_parked word) _ _ tt tt)) tt)

drains_calm : (d : Draining) (word : ℕ) → IsCalm (drains d word)
drains_calm d word = one_of IsCalm (has_readers word) _ _
    (one_of IsCalm (nat_lt 0 d.rounds) _ _ tt (one_of IsCalm (is_writer_parked word) _ _ tt tt)) tt

admits_calm : (want : LockMode) (woken : Bool) → IsCalm (admits want woken)
admits_calm (LockMode.Shared recursive) woken = tt
admits_calm LockMode.Exclusive woken = tt

tries_calm : (want : LockMode) (left word : ℕ) → IsCalm (tries want left word)
tries_calm want left word = one_of IsCalm (is_tried want word) _ _ tt tt

bumps_calm : (want : LockMode) (word : ℕ) → IsCalm (bumps want word)
bumps_calm (LockMode.Shared recursive) word = one_of IsCalm (is_written word) _ _ tt tt
bumps_calm LockMode.Exclusive word = one_of IsCalm (is_parked word) _ _ tt tt

over_calm : (rest : AfterWake) → IsCalm (over rest)
over_calm FreedShared = tt
over_calm FreedExclusive = tt
over_calm Downgraded = tt
over_calm AgainShared = tt
over_calm AgainExclusive = tt

wakes_calm : (rest : AfterWake) (count : ℕ) → IsCalm (wakes rest count)
wakes_calm rest count = one_of IsCalm (nat_lt 0 count) _ _ tt tt

finishes_calm : (rest : AfterWake) (x : ℕ) (s : ActResult) → IsTold (Finishes rest) x s
    → IsCalm (next_phase (Finishes rest) s)
finishes_calm AgainShared x (ActResult.Word v) told = tt
finishes_calm AgainExclusive x (ActResult.Word v) told = tt
finishes_calm rest x s told = absurd told

-- what one knows of a scan that has taken one more
none_left : (s : Scanning) (first : List Waiter) → is_left first ≡ false → ArePassed (wake_answer (sum_of s)) first
    (length first)
none_left s [] e = λ i w low at. absurd (omega (arith, low))
none_left s (x ∷ first) e = absurd cc

goes_knows : (s : Scanning) (left : Bool) (first second : List Waiter) → is_left first ≡ left
    → rw_knows (goes_on left s) first second
goes_knows s left first second e = go left s.writer e refl
  where
    go : (a b : Bool) → is_left first ≡ a → s.writer ≡ b → rw_knows (cond (a && not b) (Scans s) (Stores s a)) first
        second
    go true false e w = tt
    go true true e w = (e, inl w)
    go false b e w = (e, inr (none_left s first e))

abbrev KnowsAt : Scanning → Bool → List Waiter → List Waiter → ℕ → Type 0
KnowsAt a left first second y = rw_knows (option_map_or (λ q. q) (scans a (Some (record { 0 = y })) left) Invalid) first
    second

takes_knows : (a : Scanning) (left : Bool) (token : ParkToken) (first second : List Waiter) → IsToken (Some token)
    → is_left first ≡ left → KnowsAt a left first second token.0
takes_knows a left token first second (inl e) same = subst (KnowsAt a left first second) (sym e)
    (goes_knows (record a { shared = min (a.shared + 1) (2 ^ 32 - 1) }) left first second same)
takes_knows a left token first second (inr (inl e)) same = subst (KnowsAt a left first second) (sym e)
    (goes_knows (record a { writer = true }) left first second same)
takes_knows a left token first second (inr (inr e)) same = subst (KnowsAt a left first second) (sym e)
    (goes_knows (record a { upgradable = true }) left first second same)

knows_next : (p : RwPhase) (x : ℕ) (s : ActResult) (old1 old2 first second : List Waiter) → IsTold p x s
    → rw_knows p old1 old2 → Learns p s first second → rw_knows (next_phase p s) first second
knows_next (Scans a) x (ActResult.Took (Some token) left) old1 old2 first second told k h =
    takes_knows a left token first second told h
knows_next (Scans a) x (ActResult.Took None left) old1 old2 first second told k h = (h.0, inr h.1)
knows_next (TakeWriter rest) x (ActResult.Took token left) old1 old2 first second told k h = h
knows_next (LooksExclusive fair rest) x ActResult.Entered old1 old2 first second told k h = tt
knows_next EnterWakeSection x ActResult.Entered old1 old2 first second told k h = tt
knows_next (Locking want) x ActResult.Start old1 old2 first second told k h = tt
knows_next (Trying want) x ActResult.Start old1 old2 first second told k h = tt
knows_next UnlockingShared x ActResult.Start old1 old2 first second told k h = tt
knows_next (UnlockingExclusive fair) x ActResult.Start old1 old2 first second told k h = tt
knows_next Downgrading x ActResult.Start old1 old2 first second told k h = tt
knows_next BumpingShared x ActResult.Start old1 old2 first second told k h = tt
knows_next BumpingExclusive x ActResult.Start old1 old2 first second told k h = tt
knows_next (Loads a) x (ActResult.Word v) old1 old2 first second told k h =
    calm_knows (next_phase (Loads a) (ActResult.Word v)) first second (seeks_calm a v)
knows_next (Admits a word) x ActResult.Exchanged old1 old2 first second told k h =
    calm_knows (next_phase (Admits a word) ActResult.Exchanged) first second (admits_calm a.want false)
knows_next (Admits a word) x (ActResult.Word v) old1 old2 first second told k h =
    calm_knows (next_phase (Admits a word) (ActResult.Word v)) first second (seeks_calm a v)
knows_next (Spins a) x (ActResult.Spun spun) old1 old2 first second told k h = tt
knows_next (SetParked a word) x ActResult.Exchanged old1 old2 first second told k h = tt
knows_next (SetParked a word) x (ActResult.Word v) old1 old2 first second told k h =
    calm_knows (next_phase (SetParked a word) (ActResult.Word v)) first second (seeks_calm a v)
knows_next (Enters want woken) x ActResult.Entered old1 old2 first second told k h = tt
knows_next (Checks want woken) x (ActResult.Word v) old1 old2 first second told k h =
    calm_knows (next_phase (Checks want woken) (ActResult.Word v)) first second
    (one_of IsCalm (is_barred want v && is_parked v) _ _ tt tt)
knows_next (Retreats want woken) x ActResult.Made old1 old2 first second told k h = tt
knows_next (Appends want) x ActResult.Made old1 old2 first second told k h = tt
knows_next (Rests want) x ActResult.Made old1 old2 first second told k h = tt
knows_next (Sleeps want) x (ActResult.Woken token) old1 old2 first second told k h =
    calm_knows (next_phase (Sleeps want) (ActResult.Woken token)) first second
    (one_of IsCalm (token.0 == 1) _ _ (admits_calm want true) tt)
knows_next (DrainLoads d) x (ActResult.Word v) old1 old2 first second told k h =
    calm_knows (next_phase (DrainLoads d) (ActResult.Word v)) first second (drains_calm d v)
knows_next (DrainSpins d) x (ActResult.Spun spun) old1 old2 first second told k h = tt
knows_next (DrainSetParked d word) x ActResult.Exchanged old1 old2 first second told k h = tt
knows_next (DrainSetParked d word) x (ActResult.Word v) old1 old2 first second told k h =
    calm_knows (next_phase (DrainSetParked d word) (ActResult.Word v)) first second (drains_calm d v)
knows_next (DrainEnters d) x ActResult.Entered old1 old2 first second told k h = tt
knows_next (DrainChecks d) x (ActResult.Word v) old1 old2 first second told k h =
    calm_knows (next_phase (DrainChecks d) (ActResult.Word v)) first second
    (one_of IsCalm (has_readers v && is_writer_parked v) _ _ tt tt)
knows_next (DrainRetreats d) x ActResult.Made old1 old2 first second told k h = tt
knows_next (DrainAppends rounds) x ActResult.Made old1 old2 first second told k h = tt
knows_next (DrainRests rounds) x ActResult.Made old1 old2 first second told k h = tt
knows_next (DrainSleeps rounds) x (ActResult.Woken token) old1 old2 first second told k h = tt
knows_next (TryLoads want) x (ActResult.Word v) old1 old2 first second told k h =
    calm_knows (next_phase (TryLoads want) (ActResult.Word v)) first second (tries_calm want 63 v)
knows_next (TryAdmits want word left) x ActResult.Exchanged old1 old2 first second told k h = tt
knows_next (TryAdmits want word left) x (ActResult.Word v) old1 old2 first second told k h =
    calm_knows (next_phase (TryAdmits want word left) (ActResult.Word v)) first second
    (one_of IsCalm (nat_lt 0 left) _ _ (tries_calm want (left - 1) v) tt)
knows_next (BumpLoads want) x (ActResult.Word v) old1 old2 first second told k h =
    calm_knows (next_phase (BumpLoads want) (ActResult.Word v)) first second (bumps_calm want v)
knows_next (Relocks want) x (ActResult.Word v) old1 old2 first second told k h =
    calm_knows (next_phase (Relocks want) (ActResult.Word v)) first second (seeks_calm (begins want false) v)
knows_next (Unshares rest) x (ActResult.Before v) old1 old2 first second told k h =
    calm_knows (next_phase (Unshares rest) (ActResult.Before v)) first second
    (one_of IsCalm (v / 16 == 1 && is_writer_parked v) _ _ tt (over_calm rest))
knows_next (EnterWriterWakeSection rest) x ActResult.Entered old1 old2 first second told k h = tt
knows_next (ClearWriterParked rest taken) x (ActResult.Before v) old1 old2 first second told k h = tt
knows_next (LeaveWriterWakeSection rest taken) x ActResult.Made old1 old2 first second told k h =
    calm_knows (next_phase (LeaveWriterWakeSection rest taken) ActResult.Made) first second
    (wakes_calm rest (bit taken))
knows_next (Unlocks fair rest) x ActResult.Exchanged old1 old2 first second told k h =
    calm_knows (next_phase (Unlocks fair rest) ActResult.Exchanged) first second (over_calm rest)
knows_next (Unlocks fair rest) x (ActResult.Word v) old1 old2 first second told k h = tt
knows_next Downgrades x (ActResult.Before v) old1 old2 first second told k h =
    calm_knows (next_phase Downgrades (ActResult.Before v)) first second (one_of IsCalm (is_parked v) _ _ tt tt)
knows_next (Stores a left) x (ActResult.Stored fair) old1 old2 first second told k h = tt
knows_next (Leaves rest count handed) x ActResult.Made old1 old2 first second told k h =
    calm_knows (next_phase (Leaves rest count handed) ActResult.Made) first second (wakes_calm rest count)
knows_next (Wakes rest count) x ActResult.Made old1 old2 first second told k h =
    calm_knows (next_phase (Wakes rest count) ActResult.Made) first second (wakes_calm rest (count - 1))
knows_next (Finishes rest) x s old1 old2 first second told k h = calm_knows (next_phase (Finishes rest) s) first second
    (finishes_calm rest x s told)
knows_next p x s old1 old2 first second told k h = absurd told

pub lists_are_known : ListsAreKnown
lists_are_known = record {
  learns = knows_next;
  second = λ l h. omega (arith, h.waiting2.count, h.fits.announced2, h.fits.bit2);
}
