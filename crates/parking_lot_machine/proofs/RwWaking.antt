-- A thread that has taken waiters stores, and wakes them one by one: steps of the rules.
use Rattle.std.proofs.Common.{◌≡◌, ◌<◌, ℕ, ◌==◌, ◌||◌, ◌⊎◌, inl, inr, Bool, true, false, cond, List, [], ◌∷◌, length}
use Rattle.std.proofs.Common.{map, Some, slice_get, slice_set, refl, sym, ap, ◌∙◌, subst, arith, ◌&&◌, nat_lt, ◌-◌}
use Rattle.std.proofs.lemmas.Option.{same_Some}
use Rattle.parking_lot_core_model.specs.Results.{is_left}
use Rattle.parking_lot_rules.specs.Roles.{Mode, Shares, Role, Mark, Owned}
use Rattle.parking_lot_rules.specs.Roles as rules
use Rattle.parking_lot_rules.specs.Clauses.{Word, number, word_of}
use Rattle.parking_lot_rules.specs.Lists.{occurs}
use Rattle.parking_lot_rules.specs.Lock.{Lock, On1, to_wake}
use Rattle.parking_lot_rules.specs.Steps.{AreSkipped, Scan, IsOver, Ending, Free, FreeUpgradable, Hand, HandUpgradable}
use Rattle.parking_lot_rules.specs.Steps.{Keep, ends_saying, stored, settle, Store, Wake, Waking, Recheck, waking_from}
use Rattle.parking_lot_rules.specs.Steps.{waking_to, Allowed, after}
use Rattle.parking_lot_rules.proofs.Sounds.{step_sound}
use Rattle.parking_lot_rules.specs.Classes.{bit, inside}
use Rattle.parking_lot_protocol.specs.declared.act.ActResult.TheVariants as seen
use Rattle.parking_lot_protocol.specs.declared.rw_phase.LockMode.{LockMode}
use Rattle.parking_lot_protocol.specs.declared.rw_phase.Scanning.{Scanning}
use Rattle.parking_lot_protocol.specs.declared.rw_phase.AfterWake.{AfterWake}
use Rattle.parking_lot_protocol.specs.declared.rw_phase.AfterWake.TheVariants.{FreedShared, FreedExclusive, Downgraded}
use Rattle.parking_lot_protocol.specs.declared.rw_phase.AfterWake.TheVariants.{AgainShared, AgainExclusive}
use Rattle.parking_lot_protocol.specs.declared.rw_phase.RwPhase.TheVariants.{Sleeps, DrainSleeps, Stores, Leaves, Wakes}
use Rattle.parking_lot_protocol.specs.declared.rw_phase.RwPhase.TheVariants.{Loads}
use Rattle.parking_lot_protocol.specs.RwTable.{next_phase, hands, count_of, wakes_with, admits, begins, act_of}
use Rattle.parking_lot_protocol.specs.RwTable.{may_hand}
use Rattle.parking_lot_protocol.specs.Acts.{word_after}
use Rattle.parking_lot_protocol.specs.RwRules.{QueuePosition, Listed, Off, role, mode_of, waking, ending, owned_at_last}
use Rattle.parking_lot_protocol.specs.RwRules.{scan_of}
use Rattle.parking_lot_protocol.proofs.MutexFollowing.{either}
use Rattle.parking_lot_machine_calls.specs.declared.seat.WakeResult.TheVariants as told
use Rattle.parking_lot_machine.specs.RwLaws.{IsStep, Meets, ending_of, StoresAreSteps, TokensSay, WakesAreSteps}
use Rattle.parking_lot_machine.specs.RwLaws.{WokenAreTold, OnlySleepersStand}
use Rattle.parking_lot_machine_calls.specs.CallRoles.{mark_of}
use Rattle.parking_lot_machine_calls.specs.CallActs.{told_of}
use Rattle.parking_lot_machine.proofs.RwMoving.{moved, same_word}
use Rattle.parking_lot_machine.proofs.RwTaking.{same_scan, scan_holds}

-- STORES

-- how many are left doesn't matter, but whether some are
pub stored_left : (e : Ending) (r : ℕ) (u x : Bool) (q : List ℕ) (left : Bool) (w : Word) → is_left q ≡ left
    → stored e r u x (bit left) w ≡ stored e r u x (length q) w
stored_left e r u x q left w same = sym (ap (λ b. stored e r u x (bit b) w) same) ∙ some e q
  where
    some : (e : Ending) (q : List ℕ) → stored e r u x (bit (is_left q)) w ≡ stored e r u x (length q) w
    some Free [] = refl
    some Free (y ∷ ys) = refl
    some FreeUpgradable [] = refl
    some FreeUpgradable (y ∷ ys) = refl
    some Hand [] = refl
    some Hand (y ∷ ys) = refl
    some HandUpgradable [] = refl
    some HandUpgradable (y ∷ ys) = refl
    some Keep [] = refl
    some Keep (y ∷ ys) = refl

is_over : (l : Lock) (n : ℕ) (a : Scanning) (us : List ℕ) → (a.writer ≡ true) ⊎ AreSkipped a.upgradable a.writer l.roles
    l.first (length l.first) → IsOver (scan_of n a us) l.roles l.first
is_over l n a us (inl writer) = inl writer
is_over l n a us (inr skipped) =
    inr (subst (λ u. AreSkipped u a.writer l.roles l.first (length l.first)) (sym (scan_holds n a us)) skipped)

pub stores_are_steps : StoresAreSteps
stores_are_steps recursive l t n spot us a left x fair h same over =
    let p = Stores a left in
    let e = ending_of a fair in
    let s = scan_of n a us in
    let w = word_after (act_of p) (seen.Stored fair) x in
    let m = (moved recursive l t n spot us p x h (seen.Stored fair) tt).0 in
    let is : m.0 ≡ s = same_scan m.0 s (sym m.1.from) in
    let may : Allowed recursive t (Store e s) l =
    (h.here, ap (λ (c : Scan). c.cause) (sym is) ∙ m.1.cause, m.1.may, is_over l n a us over) in
    let to : role n Listed us (next_phase p (seen.Stored fair)) ≡ record { owns = s.owns; does = rules.Stored1 us } =
    m.1.to ∙ ap (λ (c : Scan). record { owns = c.owns; does = rules.Stored1 us }) is in
    let said : w ≡ number (stored e s.shared s.upgradable s.writer (length l.first) l.word) =
    m.1.written ∙ ap (λ (c : Scan). number (stored e c.shared c.upgradable c.writer (bit left) l.word)) is
    ∙ ap number (stored_left e s.shared s.upgradable s.writer l.first left l.word same) in
    let word : stored e s.shared s.upgradable s.writer (length l.first) l.word ≡ word_of w =
    same_word (after t (Store e s) l) (step_sound recursive t (Store e s) l h.sound may) w said in
    (may, λ j. record l { word = word j; roles = slice_set (map (settle (ends_saying e)) l.roles) t (sym to j) })

pub tokens_say : TokensSay
tokens_say a left fair = by_rest a.rest (hands a (a.fair || fair))
    (λ e. ap (λ q. may_hand q && ((a.fair || fair) && nat_lt 0 (count_of a))) e)
  where
    by_rest : (q : AfterWake) (b : Bool) → (q ≡ Downgraded → b ≡ false)
        → mark_of (told_of (wakes_with (Leaves q (count_of a) b))) ≡ ends_saying (ending q b)
    by_rest FreedShared true f = refl
    by_rest FreedShared false f = refl
    by_rest FreedExclusive true f = refl
    by_rest FreedExclusive false f = refl
    by_rest Downgraded true f = absurd (let e = f refl in cc)
    by_rest Downgraded false f = refl
    by_rest AgainShared true f = refl
    by_rest AgainShared false f = refl
    by_rest AgainExclusive true f = refl
    by_rest AgainExclusive false f = refl

-- WAKES

wakes_role : (n : ℕ) (vs : List ℕ) (rest : AfterWake) (count : ℕ)
    → role n Listed vs (next_phase (Wakes rest count) seen.Made)
    ≡ record { owns = owned_at_last n rest; does = rules.Wakes vs }
wakes_role n vs rest count = either (role n Listed vs) (nat_lt 0 (count - 1)) _ _ _ refl refl

-- what one that was told so is, before it is woken and after that
before_wake : (want : LockMode) (t : ℕ) (b : Bool)
    → record {
      owns = Shares 0;
      does = rules.Taken1 (mode_of want) t (mark_of (cond b told.HandedOver told.TryAgain))
          rules.Asleep;
    } ≡ waking_from (waking want b) t rules.Asleep
before_wake want t false = refl
before_wake (LockMode.Shared recursive) t true = refl
before_wake LockMode.Exclusive t true = refl

after_wake : (want : LockMode) (ws : List ℕ) (b : Bool)
    → role 0 Listed ws (cond b (admits want true) (Loads (begins want true))) ≡ waking_to (waking want b)
after_wake want ws false = refl
after_wake (LockMode.Shared recursive) ws true = refl
after_wake LockMode.Exclusive ws true = refl

pub wakes_one : (recursive : Bool) (l : Lock) (t n : ℕ) (spot : QueuePosition) (v : ℕ) (vs : List ℕ) (rest : AfterWake)
    (count x : ℕ) (k : Waking) (stay : rules.Stay) (r : Role) → Meets recursive l t n spot (v ∷ vs) (Wakes rest count) x
    → slice_get l.roles v ≡ Some (waking_from k t stay) → inside stay ≡ 0 → r ≡ waking_to k
    → IsStep recursive t (Wake (owned_at_last n rest) v vs k stay) l
    (record l {
      word = word_of x;
      roles = slice_set (slice_set l.roles v r) t (role n Listed vs (next_phase (Wakes rest count) seen.Made));
    })
wakes_one recursive l t n spot v vs rest count x k stay r h from out to =
    let own = wakes_role n vs rest count in (
      (h.here, from, out),
      λ i. record l { word = h.word i; roles = slice_set (slice_set l.roles v (sym to i)) t (sym own i) },
    )

pub wakes_are_steps : WakesAreSteps
wakes_are_steps recursive l t n spot v vs rest count x m mark ws (Sleeps want) key park token h at asleep nothing said =
    let b = token.0 == 1 in
    let from : role m (Off t mark) ws (Sleeps want) ≡ waking_from (waking want b) t rules.Asleep =
    ap (λ y. role y (Off t mark) ws (Sleeps want)) nothing ∙ ap (λ y. role 0 (Off t y) ws (Sleeps want)) said
    ∙ before_wake want t b in
    let to : role m Listed ws (next_phase (Sleeps want) (seen.Woken token)) ≡ waking_to (waking want b) =
    ap (λ y. role y Listed ws (next_phase (Sleeps want) (seen.Woken token))) nothing ∙ after_wake want ws b in (
      waking want b,
      wakes_one recursive l t n spot v vs rest count x (waking want b) rules.Asleep _ h
          (at ∙ ap (λ r. Some r) from) refl to,
    )
wakes_are_steps recursive l t n spot v vs rest count x m mark ws (DrainSleeps rounds) key park token h at asleep nothing
    said =
    let from : role m (Off t mark) ws (DrainSleeps rounds) ≡ waking_from (Recheck false) t rules.Asleep =
    ap (λ y. role y (Off t mark) ws (DrainSleeps rounds)) nothing in
    let to : role m Listed ws (next_phase (DrainSleeps rounds) (seen.Woken token)) ≡ waking_to (Recheck false) =
    ap (λ y. role y Listed ws (next_phase (DrainSleeps rounds) (seen.Woken token))) nothing in (
      Recheck false,
      wakes_one recursive l t n spot v vs rest count x (Recheck false) rules.Asleep _ h
          (at ∙ ap (λ r. Some r) from) refl to,
    )
wakes_are_steps recursive l t n spot v vs rest count x m mark ws q key park token h at asleep nothing said = absurd (cc)

pub woken_are_told : WokenAreTold
woken_are_told l t v own has us mode rules.Open stay sound waker there e =
    let p = sound.noted v t _ (On1 rules.Open) there refl in
    let is : p.0 ≡ record { owns = own; does = rules.Wakes us } = same_Some p.0 _ (sym p.1 ∙ waker) in
    let some : 0 < occurs v [] = subst (λ (r : Role). 0 < occurs v (to_wake r.does (On1 rules.Open))) is p.2 in
    omega arith
woken_are_told l t v own has us mode rules.Normal stay sound waker there e = cc
woken_are_told l t v own has us mode rules.Handed stay sound waker there e = cc

pub only_sleepers_stand : OnlySleepersStand
only_sleepers_stand n spot us (Sleeps want) awake = absurd (awake _ _ refl)
only_sleepers_stand n spot us (DrainSleeps rounds) awake = absurd (awake _ _ refl)
only_sleepers_stand n spot us p awake = refl
