-- Each act of the machine is paid for by the steps that are left.
use Rattle.std.proofs.Common.{◌≡◌, ℕ, ◌+◌, ◌-◌, ◌/◌, ◌^◌, ◌<◌, ◌≤◌, Bool, length, Some, None, slice_get, slice_set}
use Rattle.std.proofs.Common.{sum_by, refl, sym, ap, ◌∙◌, subst, arith, ◌≢◌, ◌%◌, ◌*◌, inl, inr, cond, true, false}
use Rattle.std.proofs.Common.{◌==◌, [], ◌∷◌, ◌++◌, zero, suc, List, map, remove, not, Option, option_map, eq-eqb}
use Rattle.std.specs.Prelude.{get_or, bit_and}
use Rattle.std.specs.Option.{option_and_then}
use Rattle.std.proofs.lemmas.Bool.{cases_eq, ne_eqb}
use Rattle.std.proofs.lemmas.List.{length-set, length-map}
use Rattle.std.proofs.lemmas.List.Edits.{length-remove}
use Rattle.std.proofs.lemmas.Option.{slice_get_within, slice_get-get_or}
use Rattle.parking_lot_protocol.specs.declared.act.Act.{Act}
use Rattle.parking_lot_protocol.specs.declared.act.ActResult.{ActResult}
use Rattle.parking_lot_protocol.specs.Acts.{Gives, word_after, change_of}
use Rattle.parking_lot_protocol.specs.RwRules.{IsReady}
use Rattle.parking_lot_machine_calls.specs.Kinds.{AsRw, manner_of, recursive_in}
use Rattle.parking_lot_machine_calls.specs.declared.seat.LatePhase.{LatePhase}
use Rattle.parking_lot_machine_calls.specs.declared.seat.Core.{Core}
use Rattle.parking_lot_machine_calls.specs.declared.open_call.Call.{Call}
use Rattle.parking_lot_machine.specs.Rows.{State, bucket, entered_by, entered_in, first_key, open_at, second_key}
use Rattle.parking_lot_machine.specs.Rows.{word_at, call_at, rw_lock_at, taken_by, rw_role_at}
use Rattle.parking_lot_machine_calls.specs.Stances.{core_act, core_next, late_act, late_next, late_stance, mutex_stance}
use Rattle.parking_lot_machine_calls.specs.Stances.{rw_stance, seeks_stance, upgrade_stance, Doing, Joins, In, Takes, Stores}
use Rattle.parking_lot_machine_calls.specs.Stances.{Stance, Joined, Tells, TurnsBack, late_rw_stance}
use Rattle.parking_lot_machine_calls.specs.Stances.{sign, stance, core_tells, late_rw_act, late_rw_next, sleeper_asleep}
use Rattle.parking_lot_machine_calls.specs.Stances.{resumed_as}
use Rattle.parking_lot_machine.specs.RowFits.{FitsTogether, IsPrepared, late_rw_prepared}
use Rattle.parking_lot_machine_calls.specs.CallKinds.{IsOfKind, IsOfWorld, IsOfManner}
use Rattle.parking_lot_machine.specs.RankLaws.{Can, IsFree, Leaves, shut_at}
use Rattle.parking_lot_machine.specs.Ranks.{Shut}
use Rattle.parking_lot_machine.specs.Ranks.{Sees, core_steps, late_steps, far_steps, is_shut_to, own_steps, view_of}
use Rattle.parking_lot_machine.specs.Ranks.{Pays, View, Unseen, wake, late_rw_steps, sleeper_steps, rw_steps}
use Rattle.parking_lot_machine.specs.Ranks.{upgrade_steps}
use Rattle.parking_lot_machine.proofs.Meeting.{meets, in_range, rw_sound}
use Rattle.parking_lot_machine.proofs.KindTable.{Simple, Upgradable, of_rws}
use Rattle.parking_lot_machine.proofs.RwCalls.{call_room}
use Rattle.parking_lot_machine.proofs.UpgradePaying as of_upgrade
use Rattle.parking_lot_protocol_rw.specs.UpgradeRules as upgrade_rules
use Rattle.parking_lot_protocol_rw.specs.UpgradeTable as upgrade_table
use Rattle.parking_lot_protocol_rw.specs.declared.upgrade_phase.Hold.{Hold}
use Rattle.parking_lot_protocol_rw.specs.declared.upgrade_phase.Release.{Release}
use Rattle.parking_lot_protocol_rw.specs.declared.upgrade_phase.UpgradePhase.{UpgradePhase}
use Rattle.parking_lot_core_model.specs.declared.parking.ParkToken.{ParkToken}
use Rattle.parking_lot_core_model.specs.declared.place.Section.{Section}
use Rattle.parking_lot_core_model.specs.declared.place.Waiter.{Waiter}
use Rattle.parking_lot_core_model.specs.Results.{is_left}
use Rattle.parking_lot_core_model.proofs.Kept.{updated_at, updated_other}
use Rattle.parking_lot_core_model.specs.Machine.{Machine, fresh_section, stored}
use Rattle.parking_lot_core_model.specs.declared.place.Phase.{Phase}
use Rattle.parking_lot_core_model.specs.declared.parking.UnparkToken.{UnparkToken}
use Rattle.parking_lot_protocol.specs.declared.act.WordChange.{WordChange}
use Rattle.parking_lot_protocol.specs.declared.mutex_phase.MutexPhase.{MutexPhase}
use Rattle.parking_lot_protocol.specs.declared.rw_phase.RwPhase.{RwPhase}
use Rattle.parking_lot_core_model.specs.Lists.{updated}
use Rattle.parking_lot_machine_calls.specs.declared.seat.WakeResult.{WakeResult}
use Rattle.parking_lot_machine_calls.specs.StanceLaws.{LeavesFor}
use Rattle.parking_lot_machine.specs.RowActs.{with_word, with_call, loaded, exchanged, added, masked, spun, entered}
use Rattle.parking_lot_machine.specs.RowActs.{checked, appended, key_in, took, took_nobody, told_all, left}
use Rattle.parking_lot_machine_calls.specs.CallActs.{key_of, hears, joins, settled, off_list, told_of}
use Rattle.parking_lot_machine.proofs.Acting.{has_word, word-here}
use Rattle.parking_lot_machine.proofs.Crossings.{continues, shut_put}
use Rattle.parking_lot_machine.proofs.Passing.{inside_mine}
use Rattle.parking_lot_machine.proofs.Calling.{call_of, call-here}
use Rattle.parking_lot_machine.proofs.LotActs.{key_is}
use Rattle.parking_lot_machine.proofs.LotLists.{call_at-map}
use Rattle.parking_lot_machine_calls.proofs.Stancing.{leads_by, small_key}
use Rattle.parking_lot_machine.proofs.Summing.{others_change, others_same, others_told}
use Rattle.parking_lot_protocol.specs.declared.act.CoreAnswer.{CoreAnswer}
use Rattle.parking_lot_rules.proofs.Ranking.{few1}
use Rattle.parking_lot_rules.proofs.Everybody.{length-all}
use Rattle.parking_lot_machine.proofs.MutexPaying as of_mutex
use Rattle.parking_lot_machine.proofs.RwPaying as of_rw
use Rattle.parking_lot_core_model.specs.declared.place.Phase.TheVariants as phase
use Rattle.parking_lot_protocol.specs.declared.act.SectionAct.TheVariants as section
use Rattle.parking_lot_protocol.specs.MutexTable as mutex_table
use Rattle.parking_lot_protocol.specs.RwTable as rw_table
use Rattle.parking_lot_machine_calls.specs.declared.seat.QueuePosition.TheVariants as spot
use Rattle.parking_lot_protocol.specs.declared.act.ActResult.TheVariants as seen
use Rattle.parking_lot_machine_calls.specs.declared.late_rw.LateRwPhase.{LateRwPhase}
use Rattle.parking_lot_machine_calls.specs.declared.late_rw.RwSleeper.{RwSleeper}
use Rattle.parking_lot_machine_calls.specs.CallViews.{IsReadySleeper}
use Rattle.parking_lot_machine.proofs.Sleepers.{by_sleeper, ready_sleeper}
use Rattle.parking_lot_machine_calls.proofs.Lying.{tardy_takes}

-- ONE CALL

-- one that slept is ready
abbrev pub IsGoodLate : LateRwPhase → Type 0
IsGoodLate (LateRwPhase.Expires k) = (sleeper_asleep k ≡ true) × IsReadySleeper k
IsGoodLate (LateRwPhase.WasTaken k by handed) = (sleeper_asleep k ≡ true) × IsReadySleeper k
IsGoodLate p = Unit {0}

good_late : (recursive : Bool) (n : ℕ) (p : LateRwPhase) → late_rw_prepared recursive n p → IsGoodLate p
good_late recursive n (LateRwPhase.Expires k) h = (h.0, ready_sleeper recursive n k h.1)
good_late recursive n (LateRwPhase.WasTaken k by handed) h = (h.0, ready_sleeper recursive n k h.1)
good_late recursive n p h = tt

-- what the word and the phase are in time
abbrev pub IsGood : Core → ℕ → Type 0
IsGood (Core.Mutex k) x = x < 4
IsGood (Core.Late p) x = Unit {0}
IsGood (Core.LateRw p) x = IsGoodLate p
IsGood (Core.Rw k) x = (x / 16 < 2 ^ 60 - 1) × IsReady k.phase
IsGood (Core.Upgrade k) x = (x / 16 < 2 ^ 60 - 1) × upgrade_rules.IsReady k.phase × IsOfWorld k.phase

pub is_good : (s : State) → FitsTogether s → (t : ℕ) (c : Call) → call_at s t ≡ Some c
    → IsGood c.core (word_at s c.lock)
is_good s h t c here = by_core c.core refl
  where
    by_core : (x : Core) → c.core ≡ x → IsGood x (word_at s c.lock)
    by_core (Core.Mutex k) e =
        h.rules.bits c.lock (subst (IsOfKind (slice_get s.kinds c.lock)) e (h.rules.kinds t c here))
    by_core (Core.Late p) e = tt
    by_core (Core.LateRw p) e = good_late (recursive_in s.kinds c.lock) c.others p
        (subst (IsPrepared (recursive_in s.kinds c.lock) c.others) e (h.rules.prepared t c here))
    by_core (Core.Rw k) e = (
      call_room (recursive_in s.kinds c.lock) (rw_lock_at s c.lock) t c.others c.spot (taken_by s.wakes t) (Simple k)
          (word_at s c.lock) (meets s h t c (Simple k) e here),
      (subst (IsPrepared (recursive_in s.kinds c.lock) c.others) e (h.rules.prepared t c here)).0,
    )
    by_core (Core.Upgrade k) e =
        let ready = subst (IsPrepared (recursive_in s.kinds c.lock) c.others) e (h.rules.prepared t c here) in (
          call_room (recursive_in s.kinds c.lock) (rw_lock_at s c.lock) t c.others c.spot (taken_by s.wakes t)
              (Upgradable k) (word_at s c.lock) (meets s h t c (Upgradable k) e here),
          ready.1,
          ready.2,
        )

late_falls : (n : ℕ) (p : LatePhase) (x : ℕ) (told : ActResult) (v : View) (shut : Shut) → Gives (late_act p) x told
    → Can (late_stance p) (late_act p) shut told → core_steps n v (late_next p told) + 1 ≤ late_steps p
late_falls n LatePhase.Expires x told v shut gives can = absurd can
late_falls n LatePhase.Quits x told v shut gives can = absurd can
late_falls n LatePhase.Masks x (ActResult.Before word) v shut gives can = omega arith
late_falls n LatePhase.Leaves x ActResult.Made v shut gives can = omega arith
late_falls n (LatePhase.WasTaken by handed) x ActResult.Made v shut gives can = resumes v handed
  where
    asks_again : Bool → Bool → ℕ
    asks_again true b = 1
    asks_again false b = 22 + cond (not b) 4 29

    open_or_not : (handed b : Bool) → asks_again handed b + 1 ≤ 52
    open_or_not true b = omega arith
    open_or_not false true = omega arith
    open_or_not false false = omega arith

    resumes : (v : View) (b : Bool)
        → core_steps n v (Core.Mutex
        (record { phase = mutex_table.next_phase MutexPhase.Sleeps (seen.Woken (sign b)) })) + 1 ≤ 52
    resumes Unseen true = omega arith
    resumes Unseen false = omega arith
    resumes (Sees word first shut) true = omega arith
    resumes (Sees word first shut) false = omega (arith, open_or_not false shut.first)
late_falls n p x told v shut gives can = absurd gives

-- what one sees doesn't count while it sleeps
slept_same : (n : ℕ) (v w : View) (k : RwSleeper) → IsReadySleeper k → sleeper_asleep k ≡ true
    → sleeper_steps n v k ≡ sleeper_steps n w k
slept_same n v w k r e = by_sleeper (λ k. sleeper_steps n v k ≡ sleeper_steps n w k) (λ want. refl) (λ rounds. refl)
    (λ want i. refl) (λ rounds. refl) k r e

-- one that was taken goes on as one that was woken
tardy_resumes : (n word after x first : ℕ) (shut : Shut) (k : RwSleeper) (handed : Bool) → sleeper_asleep k ≡ true
    → IsReadySleeper k → after ≤ n → core_steps n (Sees word after shut) (resumed_as (sleeper_asleep k) k handed) + 1 ≤
    sleeper_steps n (Sees x first shut) k + wake
tardy_resumes n word after x first shut (RwSleeper.Simple c) handed slept ready few =
    subst (λ b. core_steps n (Sees word after shut) (resumed_as b (RwSleeper.Simple c) handed) + 1 ≤ rw_steps n
    (Sees x first shut) c.phase + wake) (sym slept)
    (omega (
      arith,
      of_rw.steps_fall.few n word after shut (rw_table.next_phase c.phase (seen.Woken (sign handed))) few,
      of_rw.steps_fall.woken n c.phase (sign handed),
      slept_same n Unseen (Sees x first shut) (RwSleeper.Simple c)
          ready slept,
    ))
tardy_resumes n word after x first shut (RwSleeper.Upgradable c) handed slept ready few =
    subst (λ b. core_steps n (Sees word after shut) (resumed_as b (RwSleeper.Upgradable c) handed) + 1 ≤ upgrade_steps n
    (Sees x first shut) c.phase + wake) (sym slept)
    (omega (
      arith,
      of_upgrade.upgrade_steps_fall.few n word after shut
          (upgrade_table.next_phase c.phase (seen.Woken (sign handed))) few,
      of_upgrade.upgrade_steps_fall.woken n c.phase
          (sign handed) ready.0 ready.1,
      slept_same n Unseen (Sees x first shut) (RwSleeper.Upgradable c) ready slept,
    ))

late_rw_falls : (n : ℕ) (p : LateRwPhase) (x : ℕ) (told : ActResult) (word first after : ℕ) (shut : Shut) → IsGoodLate p
    → (late_rw_act p ≡ Act.Section section.Leave → after ≤ n) → Gives (late_rw_act p) x told
    → Can (late_rw_stance p) (late_rw_act p) shut told → core_steps n (Sees word after shut) (late_rw_next p told) + 1 ≤ late_rw_steps n
    (Sees x first shut) p
late_rw_falls n (LateRwPhase.Expires k) x told word first after shut good few gives can = absurd can
late_rw_falls n (LateRwPhase.Quits k) x told word first after shut good few gives can = absurd can
late_rw_falls n LateRwPhase.Masks x (ActResult.Before seen) word first after shut good few gives can = omega arith
late_rw_falls n LateRwPhase.Leaves x ActResult.Made word first after shut good few gives can = omega arith
late_rw_falls n (LateRwPhase.LeavesPending from) x ActResult.Made word first after shut good few gives can =
    omega (arith, found shut.first)
  where
    found : (b : Bool) → cond b n after ≤ n
    found true = omega arith
    found false = few refl
late_rw_falls n (LateRwPhase.WasTaken k by handed) x ActResult.Made word first after shut good few gives can =
    tardy_resumes n word after x first shut k handed good.0 good.1 (few refl)
late_rw_falls n p x told word first after shut good few gives can = absurd gives

pub core_falls : (n : ℕ) (c : Core) (x : ℕ) (told : ActResult) (first after : ℕ) (shut : Shut) → IsGood c x
    → (core_act c ≡ Act.Section section.Leave → IsOfManner (Some AsRw) c → after ≤ n) → Gives (core_act c) x told
    → Can (stance c) (core_act c) shut told → Leaves (core_act c) told first after
    → core_steps n (Sees (word_after (core_act c) told x) after shut) (core_next c told) + 1 ≤ core_steps n
    (Sees x first shut) c
core_falls n (Core.Mutex k) x told first after shut good few gives can leaves = of_mutex.steps_fall.falls k.phase told x
    first after shut good gives can
core_falls n (Core.LateRw p) x told first after shut good few gives can leaves =
    late_rw_falls n p x told (word_after (late_rw_act p) told x) first after shut good (λ e. few e refl) gives can
core_falls n (Core.Late p) x told first after shut good few gives can leaves =
    late_falls n p x told (Sees (word_after (late_act p) told x) after shut) shut gives can
core_falls n (Core.Rw k) x told first after shut good few gives can leaves = of_rw.steps_fall.falls n k.phase told x
    first after shut good.0 good.1 gives can leaves
core_falls n (Core.Upgrade k) x told first after shut good few gives can leaves = of_upgrade.upgrade_steps_fall.falls n
    k.phase told x first after shut good.0 good.1 good.2 gives can leaves

-- ALL THREADS

-- what a thread sees, by its parts
sees : (word word' first first' : ℕ) (shut shut' : Shut) → word ≡ word' → first ≡ first' → shut ≡ shut'
    → Sees word first shut ≡ Sees word' first' shut'
sees word word' first first' shut shut' w f b = ap (λ x. Sees x first shut) w ∙ ap (λ x. Sees word' x shut) f
    ∙ ap (λ x. Sees word' first' x) b

-- its own steps fall, and those of the others rise by less
module _ (s u : State) (t k : ℕ) (c d : Call) (here : call_at s t ≡ Some c) (there : call_at u t ≡ Some d)
    (threads : length u.calls ≡ length s.calls)
    (others : sum_by (far_steps (length s.calls)) (slice_set u.calls t None) ≤ sum_by (far_steps (length s.calls))
    (slice_set s.calls t None) + k) where
  pub pays : core_steps (length s.calls) (view_of u t d) d.core + (1 + k) ≤ core_steps (length s.calls) (view_of s t c)
      c.core → Pays t s u
  pays own =
      omega (
        arith,
        ap (own_steps s t) here,
        ap (own_steps u t) there,
        ap (λ n. core_steps n (view_of u t d) d.core) threads,
        ap (λ n. sum_by (far_steps n) (slice_set u.calls t None)) threads,
        others,
        own,
      )

pub few_in_list : (s : State) → FitsTogether s → (j : ℕ) → manner_of (slice_get s.kinds j) ≡ Some AsRw
    → length (s.lot.queues (first_key j)) ≤ length s.calls
few_in_list s h j is =
    omega (
      arith,
      few1 false 0 (rw_lock_at s j) (rw_sound s h j is),
      length-map (s.lot.queues (first_key j)) (λ w. w.thread),
      length-all (rw_role_at s j) 0 (length s.calls),
    )

-- one that leaves its section leaves its list as it is
abbrev pub StillAt : Act → ℕ → ℕ → Type 0
StillAt (Act.Section section.Leave) first after = after ≡ first
StillAt a first after = Unit {0}

-- from which sections of a lock a thread is shut out
abbrev pub shut_in : State → ℕ → ℕ → Shut
shut_in s t j = record {
  first = is_shut_to t (entered_by s (first_key j));
  second = is_shut_to t (entered_by s (second_key j));
}

-- its own acts leave that
pub shut_same : (s u : State) (t j : ℕ) → u.lot.buckets ≡ s.lot.buckets
    → ((b : ℕ) → is_shut_to t (entered_in u b) ≡ is_shut_to t (entered_in s b)) → shut_in u t j ≡ shut_in s t j
shut_same s u t j same each =
    ap (λ (x : Bool). both x (is_shut_to t (entered_by u (second_key j)))) (at (first_key j))
    ∙ ap (both (is_shut_to t (entered_by s (first_key j)))) (at (second_key j))
  where
    both : Bool → Bool → Shut
    both x y = record { first = x; second = y }

    at : (key : ℕ) → is_shut_to t (entered_by u key) ≡ is_shut_to t (entered_by s key)
    at key = ap (λ (n : ℕ). is_shut_to t (entered_in u (key % n))) same ∙ each (bucket s key)

-- A thread's act, that changes nobody else's steps.
module _ (s u : State) (t : ℕ) (c d : Call) (told : ActResult) (h : FitsTogether s) (here : call_at s t ≡ Some c)
    (there : call_at u t ≡ Some d) (next : d.core ≡ core_next c.core told) (lock : d.lock ≡ c.lock)
    (threads : length u.calls ≡ length s.calls)
    (others : sum_by (far_steps (length s.calls)) (slice_set u.calls t None) ≤ sum_by (far_steps (length s.calls))
    (slice_set s.calls t None)) where
  pub falls : (a : Act) → core_act c.core ≡ a → word_at u c.lock ≡ word_after a told (word_at s c.lock)
      → shut_in u t c.lock ≡ shut_in s t c.lock
      → Gives a (word_at s c.lock) told → Can (stance c.core) a (shut_in s t c.lock) told → Leaves a told (length (s.lot.queues (first_key c.lock)))
      (length (u.lot.queues (first_key c.lock))) → StillAt a (length (s.lot.queues (first_key c.lock)))
      (length (u.lot.queues (first_key c.lock))) → Pays t s u
  falls a asked word is gives can leaves still =
      pays s u t 0 c d here there threads (omega (arith, others))
      (let n = length s.calls in
      let shut : Shut = shut_in s t c.lock in
      let first = length (s.lot.queues (first_key c.lock)) in
      let after = length (u.lot.queues (first_key c.lock)) in
      let fall = core_falls n c.core (word_at s c.lock) told first after shut (is_good s h t c here)
      (λ leaving of. omega (
        arith,
        subst (λ (y : Act). StillAt y first after) (sym asked ∙ leaving) still,
        few_in_list s h c.lock
            (let k = of_rws.only c.core of in of_rws.of_kind (slice_get s.kinds c.lock) k.0
            (subst (IsOfKind (slice_get s.kinds c.lock)) k.1 (h.rules.kinds t c here))),
      ))
      (subst (λ (y : Act). Gives y (word_at s c.lock) told) (sym asked) gives)
      (subst (λ (y : Act). Can (stance c.core) y shut told) (sym asked) can)
      (subst (λ (y : Act). Leaves y told first after) (sym asked) leaves) in
      let before : core_steps n (view_of s t c) c.core ≡ core_steps n (Sees (word_at s c.lock) first shut) c.core =
      refl in
      let same : core_steps n (view_of u t d) d.core ≡ core_steps n
      (Sees (word_after (core_act c.core) told (word_at s c.lock)) after shut) (core_next c.core told) =
      ap (core_steps n (view_of u t d)) next ∙ ap (λ v. core_steps n v (core_next c.core told))
      (ap (λ j. Sees (word_at u j) (length (u.lot.queues (first_key j))) (shut_in u t j)) lock
      ∙ sees _ _ _ _ _ _ (word ∙ ap (λ y. word_after y told (word_at s c.lock)) (sym asked)) refl is) in
      omega (arith, fall, before, same))

-- Each act, once it is made, is paid for.

-- a thread isn't shut out by itself
own_open : (t : ℕ) (o : Option ℕ) → o ≡ Some t → is_shut_to t o ≡ false
own_open t o e = ap (is_shut_to t) e ∙ ap not (eq-eqb t t refl)

pub call-within : (calls : List (Option Call)) (t : ℕ) (o : Option Call) → t < length calls
    → call_of (slice_set calls t o) t ≡ o
call-within calls t o b = call-here calls t (get_or calls t None) o (slice_get-get_or calls t None b)

-- TAKING

abbrev pub IsTaking : Act → Type 0
IsTaking (Act.Section section.TakeFirst) = Unit {0}
IsTaking (Act.Section (section.TakeNext sum)) = Unit {0}
IsTaking a = ⊥

still_taking : (a : Act) (first after : ℕ) → IsTaking a → StillAt a first after
still_taking (Act.Section section.TakeFirst) first after x = tt
still_taking (Act.Section (section.TakeNext sum)) first after x = tt
still_taking a first after x = absurd x

-- what a taking gives, and leaves
gives_took : (at : Stance) (shut : Shut) (a : Act) (word : ℕ) (token : Option ParkToken) (left : Bool) → IsTaking a
    → IsFree at shut → Gives a word (ActResult.Took token left) × Can at a shut (ActResult.Took token left)
    × (word_after a (ActResult.Took token left) word ≡ word)
gives_took at shut (Act.Section section.TakeFirst) word token left x free = (tt, free, refl)
gives_took at shut (Act.Section (section.TakeNext sum)) word token left x free = (tt, free, refl)
gives_took at shut a word token left x free = absurd x

leaves_none : (a : Act) (left : Bool) (first : ℕ) → IsTaking a → Leaves a (ActResult.Took None left) first first
leaves_none (Act.Section section.TakeFirst) left first x = tt
leaves_none (Act.Section (section.TakeNext sum)) left first x = tt
leaves_none a left first x = absurd x

-- a scan that goes on goes through the first list
rw_first : (p : RwPhase) (sum k : ℕ) → rw_table.act_of p ≡ Act.Section (section.TakeNext sum) → rw_stance p ≡ In k Takes
    → k ≡ 0
rw_first (RwPhase.Scans a) sum k e f = cc
rw_first p sum k e f = absurd cc

mutex_first : (p : MutexPhase) (sum k : ℕ) → mutex_table.act_of p ≡ Act.Section (section.TakeNext sum)
    → mutex_stance p ≡ In k Takes → k ≡ 0
mutex_first (MutexPhase.Takes g) sum k e f = absurd cc
mutex_first p sum k e f = absurd cc

late_first : (p : LatePhase) (sum k : ℕ) → late_act p ≡ Act.Section (section.TakeNext sum) → late_stance p ≡ In k Takes
    → k ≡ 0
late_first LatePhase.Expires sum k e f = absurd cc
late_first LatePhase.Quits sum k e f = absurd cc
late_first LatePhase.Masks sum k e f = absurd cc
late_first LatePhase.Leaves sum k e f = absurd cc
late_first LatePhase.GivesUp sum k e f = absurd cc
late_first (LatePhase.WasTaken by handed) sum k e f = absurd cc

seeks_first : (q : RwPhase) (sum k : ℕ) → upgrade_table.seeks_act q ≡ Act.Section (section.TakeNext sum)
    → seeks_stance q ≡ In k Takes → k ≡ 0
seeks_first (RwPhase.Scans a) sum k e f = cc
seeks_first (RwPhase.TakeWriter rest) sum k e f = absurd cc
seeks_first q sum k e f = absurd cc

frees_first : (r : Release) (q : RwPhase) (sum k : ℕ) → upgrade_table.frees_act r q ≡ Act.Section (section.TakeNext sum)
    → rw_stance q ≡ In k Takes → k ≡ 0
frees_first r (RwPhase.Scans a) sum k e f = cc
frees_first r (RwPhase.TakeWriter rest) sum k e f = absurd cc
frees_first r q sum k e f = absurd cc

owes_first : (kept : Hold) (end : CoreAnswer) (q : RwPhase) (sum k : ℕ)
    → upgrade_table.owes_act kept end q ≡ Act.Section (section.TakeNext sum) → rw_stance q ≡ In k Takes → k ≡ 0
owes_first kept end (RwPhase.Scans a) sum k e f = cc
owes_first kept end (RwPhase.TakeWriter rest) sum k e f = absurd cc
owes_first kept end q sum k e f = absurd cc

upgrade_first : (p : UpgradePhase) (sum k : ℕ) → upgrade_table.act_of p ≡ Act.Section (section.TakeNext sum)
    → upgrade_stance p ≡ In k Takes → k ≡ 0
upgrade_first (UpgradePhase.Plain core) sum k e f = rw_first core.phase sum k e f
upgrade_first (UpgradePhase.Seeks core) sum k e f = seeks_first core.phase sum k e f
upgrade_first (UpgradePhase.Drains core) sum k e f = rw_first core.phase sum k e f
upgrade_first (UpgradePhase.Frees r core) sum k e f = frees_first r core.phase sum k e f
upgrade_first (UpgradePhase.Owes kept end core) sum k e f = owes_first kept end core.phase sum k e f
upgrade_first p sum k e f = absurd cc

first_list : (c : Core) (sum k : ℕ) → core_act c ≡ Act.Section (section.TakeNext sum) → stance c ≡ In k Takes → k ≡ 0
first_list (Core.Mutex c) sum k e f = mutex_first c.phase sum k e f
first_list (Core.Rw c) sum k e f = rw_first c.phase sum k e f
first_list (Core.Late p) sum k e f = late_first p sum k e f
first_list (Core.LateRw p) sum k e f = absurd (tardy_takes p k f)
first_list (Core.Upgrade c) sum k e f = upgrade_first c.phase sum k e f

-- one of it is gone
one_less : (queues : ℕ → List Waiter) (key i nth : ℕ) (w : Waiter) → key ≡ i → slice_get (queues key) nth ≡ Some w
    → length (queues i) ≡ length (updated queues key (remove (queues key) nth) i) + 1
one_less queues key i nth w e at =
    omega (
      arith,
      ap (λ j. length (queues j)) (sym e),
      ap (λ j. length (updated queues key (remove (queues key) nth) j)) (sym e),
      ap length (updated_at queues key (remove (queues key) nth)),
      length-remove (queues key) nth (slice_get_within (queues key) nth w at),
    )

leaves_some : (a : Act) (c : Core) (queues : ℕ → List Waiter) (token : ParkToken) (left : Bool) (j k nth : ℕ)
    (w : Waiter) → core_act c ≡ a → IsTaking a → stance c ≡ In k Takes → slice_get (queues (2 * j + k)) nth ≡ Some w
    → Leaves a (ActResult.Took (Some token) left) (length (queues (2 * j)))
    (length (updated queues (2 * j + k) (remove (queues (2 * j + k)) nth) (2 * j)))
leaves_some (Act.Section section.TakeFirst) c queues token left j k nth w asked x is at = tt
leaves_some (Act.Section (section.TakeNext sum)) c queues token left j k nth w asked x is at =
    one_less queues (2 * j + k) (2 * j) nth w (omega (arith, first_list c sum k asked is)) at
leaves_some a c queues token left j k nth w asked x is at = absurd x

-- whoever is off its list has as many steps as before
off_far : (n t : ℕ) (o : Option Call) → far_steps n (option_map (off_list t) o) ≡ far_steps n o
off_far n t None = refl
off_far n t (Some c) = refl

module _ (s : State) (t : ℕ) (c : Call) (h : FitsTogether s) (here : call_at s t ≡ Some c) where
  module _ (u : State) (d : Call) (heard : ActResult) (calls : u.calls ≡ slice_set s.calls t (Some d))
      (next : d.core ≡ core_next c.core heard) (lock : d.lock ≡ c.lock) where
    -- its call alone has changed
    one : (a : Act) → core_act c.core ≡ a → word_at u c.lock ≡ word_after a heard (word_at s c.lock)
        → shut_in u t c.lock ≡ shut_in s t c.lock
        → Gives a (word_at s c.lock) heard → Can (stance c.core) a (shut_in s t c.lock) heard
        → Leaves a heard (length (s.lot.queues (first_key c.lock))) (length (u.lot.queues (first_key c.lock)))
        → StillAt a (length (s.lot.queues (first_key c.lock))) (length (u.lot.queues (first_key c.lock)))
        → Pays t s u
    one =
        let n = length s.calls in
        falls s u t c d heard h here
        (ap (λ cs. call_of cs t) calls ∙ call-within s.calls t (Some d) (in_range s t c here)) next lock
        (ap length calls ∙ length-set s.calls t (Some d))
        (omega (arith, ap (λ cs. sum_by (far_steps n) (slice_set cs t None)) calls, others_same n s.calls t (Some d)))

  -- who is in a section isn't shut out of it
  mine_open : (k : ℕ) (how : Doing) → stance c.core ≡ In k how
      → is_shut_to t (entered_in s (bucket s (key_of c k))) ≡ false
  mine_open k how is = own_open t (entered_in s (bucket s (key_of c k))) (inside_mine s h.lots t c here k how is)

  free_at : (k : ℕ) → k < 2 → is_shut_to t (entered_in s (bucket s (2 * c.lock + k))) ≡ false
      → shut_at k (shut_in s t c.lock) ≡ false
  free_at zero two e =
      let same : 2 * c.lock + 0 ≡ 2 * c.lock = omega arith in
      subst (λ (n : ℕ). is_shut_to t (entered_in s (bucket s n)) ≡ false) same e
  free_at (suc k) two e =
      let same : 2 * c.lock + suc k ≡ 2 * c.lock + 1 = omega (arith, two) in
      subst (λ (n : ℕ). is_shut_to t (entered_in s (bucket s n)) ≡ false) same e

  inside_open : (k : ℕ) (how : Doing) → k < 2 → stance c.core ≡ In k how → IsFree (stance c.core) (shut_in s t c.lock)
  inside_open k how two is =
      subst (λ (a : Stance). IsFree a (shut_in s t c.lock)) (sym is) (free_at k two (mine_open k how is))

  -- its section goes on
  goes_on : (u : State) (k : ℕ) (how : Doing) → stance c.core ≡ In k how → (f : Section → Section)
      → ((x : Section) → (f x).thread ≡ x.thread)
      → ((b : ℕ) → u.lot.sections b ≡ updated s.lot.sections (bucket s (key_of c k))
      (option_map f (open_at s (key_of c k))) b) → u.lot.buckets ≡ s.lot.buckets
      → ((l : ℕ) → (l == key_of c k) ≡ false → u.lot.queues l ≡ s.lot.queues l)
      → shut_in u t c.lock ≡ shut_in s t c.lock
  goes_on u k how is f keeps secs same queues =
      let on = continues s u t c h.lots here k how is f keeps secs same queues in
      shut_same s u t c.lock same (λ b. ap (is_shut_to t) (on.entered b))

  pub load : core_act c.core ≡ Act.Load → Pays t s (loaded s t c)
  load asked = one (loaded s t c) (hears c (ActResult.Word (word_at s c.lock))) (ActResult.Word (word_at s c.lock)) refl
      refl refl Act.Load asked refl refl refl tt refl tt

  pub spin : core_act c.core ≡ Act.Spin → Pays t s (spun s t c)
  spin asked = one (spun s t c) (hears c (ActResult.Spun true)) (ActResult.Spun true) refl refl refl Act.Spin asked refl
      refl tt refl refl tt

  pub add : (by : ℕ) → core_act c.core ≡ Act.Add by → Pays t s (added s t c by)
  add by asked =
      one (added s t c by) (hears c (ActResult.Before (word_at s c.lock))) (ActResult.Before (word_at s c.lock)) refl
      refl refl (Act.Add by) asked
      (word-here s.words c.lock ((word_at s c.lock + by) % 2 ^ 64) (has_word s h t c here)) refl refl tt refl tt

  pub enter : (key : ℕ) → core_act c.core ≡ Act.Enter key → open_at s (key_of c key) ≡ None
      → Pays t s (entered s t c key)
  enter key asked free =
      let leads = leads_by c.core (Act.Enter key) (word_at s c.lock) ActResult.Entered asked tt in
      let two : key < 2 = elim leads.1 [
        | inl x ↦ small_key (core_next c.core ActResult.Entered) key _ x
        | inr x ↦ small_key (core_next c.core ActResult.Entered) key _ x
      ] in
      let u = entered s t c key in
      let own : Section = fresh_section (Some t) (key_of c key) in
      let nobody : is_shut_to t (entered_in s (bucket s (key_of c key))) ≡ false =
      ap (λ (o : Option Section). is_shut_to t (option_and_then (λ (x : Section). x.thread) o)) free in
      one u (hears c ActResult.Entered) ActResult.Entered refl refl refl (Act.Enter key) asked refl
      (shut_same s u t c.lock refl
      (shut_put s u (key_of c key) (Some own) (λ b. refl) t (own_open t (Some t) refl) nobody)) tt
      (free_at key two nobody) refl tt

  won : (from to : ℕ) → core_act c.core ≡ Act.Exchange from to → word_at s c.lock ≡ from
      → Pays t s (with_word (with_call s t (hears c ActResult.Exchanged)) c.lock to)
  won from to asked e =
      one (with_word (with_call s t (hears c ActResult.Exchanged)) c.lock to) (hears c ActResult.Exchanged)
      ActResult.Exchanged refl refl refl (Act.Exchange from to) asked
      (word-here s.words c.lock to (has_word s h t c here)) refl e tt refl tt

  lost : (from to : ℕ) → core_act c.core ≡ Act.Exchange from to → word_at s c.lock ≢ from → Pays t s (loaded s t c)
  lost from to asked ne =
      one (loaded s t c) (hears c (ActResult.Word (word_at s c.lock))) (ActResult.Word (word_at s c.lock)) refl refl
      refl (Act.Exchange from to) asked refl refl (refl, ne) tt refl tt

  pub exchange : (from to : ℕ) → core_act c.core ≡ Act.Exchange from to → Pays t s (exchanged s t c from to)
  exchange from to asked = elim (cases_eq (word_at s c.lock) from) [
    | inl e ↦ subst (λ (b : Bool). Pays t s
        (cond b (with_word (with_call s t (hears c ActResult.Exchanged)) c.lock to) (loaded s t c)))
        (sym (eq-eqb (word_at s c.lock) from e)) (won from to asked e)
    | inr ne ↦ subst (λ (b : Bool). Pays t s
        (cond b (with_word (with_call s t (hears c ActResult.Exchanged)) c.lock to) (loaded s t c)))
        (sym (ne_eqb (word_at s c.lock) from ne)) (lost from to asked ne)
  ]

  pub check : core_act c.core ≡ Act.Section section.Check → Pays t s (checked s t c)
  check asked =
      let heard = ActResult.Word (word_at s c.lock) in
      let leads = leads_by c.core (Act.Section section.Check) (word_at s c.lock) heard asked refl in
      let two : leads.0 < 2 = small_key c.core leads.0 _ leads.1 in
      let ph : Phase = cond (joins (stance (hears c heard).core)) phase.Valid phase.Invalid in
      let f : Section → Section = λ x. record x { phase = ph } in
      one (checked s t c) (hears c heard) heard refl refl refl (Act.Section section.Check) asked refl
      (goes_on (checked s t c) leads.0 _ leads.1 f (λ x. refl)
      (λ b. ap (λ (i : ℕ). updated s.lot.sections (bucket s i) (option_map f (open_at s i)) b)
      (key_is c leads.0 _ leads.1)) refl (λ l ne. refl)) refl (inside_open leads.0 _ two leads.1) tt tt

  pub append : (token : ParkToken) (k : ℕ) → core_act c.core ≡ Act.Section (section.Append token)
      → stance c.core ≡ In k (Joins token) → Pays t s (appended s t c (key_of c k) token)
  append token k asked is =
      one (appended s t c (key_of c k) token) (record (hears c ActResult.Made) { spot = spot.Listed }) ActResult.Made
      refl refl refl (Act.Section (section.Append token)) asked refl
      (goes_on (appended s t c (key_of c k) token) k _ is (λ x. record x { phase = phase.Joined }) (λ x. refl)
      (λ b. refl) refl
      (λ l ne. updated_other s.lot.queues (key_of c k)
      (s.lot.queues (key_of c k) ++ record { thread = t; token = token } ∷ []) l ne)) tt
      (inside_open k _ (small_key c.core k _ is) is) tt tt

  leaves_from : {b : Stance} {n m : ℕ} → LeavesFor (stance c.core) b n m → (k : ℕ) × (how : Doing)
      × (stance c.core ≡ In k how)
  leaves_from (inl x) = (x.0, TurnsBack, x.1)
  leaves_from (inr (inl x)) = (x.0, Joined x.1, x.2)
  leaves_from (inr (inr x)) = (x.0, Tells x.1, x.2)

  pub leave : core_act c.core ≡ Act.Section section.Leave → Pays t s (left s t c)
  leave asked =
      let from = leaves_from (leads_by c.core (Act.Section section.Leave) (word_at s c.lock) ActResult.Made asked tt) in
      one (left s t c) (hears c ActResult.Made) ActResult.Made refl refl refl (Act.Section section.Leave) asked refl
      (shut_same s (left s t c) t c.lock refl
      (shut_put s (left s t c) (key_of c from.0) None
      (λ b. ap (λ (i : ℕ). updated s.lot.sections (bucket s i) None b) (key_is c from.0 from.1 from.2)) t refl
      (mine_open from.0 from.1 from.2))) tt
      (inside_open from.0 from.1 (small_key c.core from.0 from.1 from.2) from.2) tt refl

  pub take_nobody : (k : ℕ) (a : Act) → core_act c.core ≡ a → IsTaking a → stance c.core ≡ In k Takes
      → Pays t s (took_nobody s t c (key_of c k))
  take_nobody k a asked taking is =
      let heard = ActResult.Took None (is_left (s.lot.queues (key_of c k))) in
      let gives = gives_took (stance c.core) (shut_in s t c.lock) a (word_at s c.lock) None
      (is_left (s.lot.queues (key_of c k))) taking (inside_open k _ (small_key c.core k _ is) is) in
      one (took_nobody s t c (key_of c k)) (hears c heard) heard refl refl refl a asked (sym gives.2)
      (goes_on (took_nobody s t c (key_of c k)) k _ is (λ x. record x { phase = phase.Ended }) (λ x. refl) (λ b. refl)
      refl (λ l ne. refl)) gives.0 gives.1 (leaves_none a _ _ taking)
      (still_taking a _ _ taking)

  pub take : (k nth : ℕ) (w : Waiter) (a : Act) → core_act c.core ≡ a → IsTaking a → stance c.core ≡ In k Takes
      → slice_get (s.lot.queues (key_of c k)) nth ≡ Some w → Pays t s (took s t c (key_of c k) nth w)
  take k nth w a asked taking is at =
      let n = length s.calls in
      let u = took s t c (key_of c k) nth w in
      let heard = ActResult.Took (Some w.token) (is_left (remove (s.lot.queues (key_of c k)) nth)) in
      let away = slice_set s.calls w.thread (option_map (off_list t) (call_at s w.thread)) in
      let gives = gives_took (stance c.core) (shut_in s t c.lock) a (word_at s c.lock) (Some w.token)
      (is_left (remove (s.lot.queues (key_of c k)) nth)) taking (inside_open k _ (small_key c.core k _ is) is) in
      falls s u t c (hears c heard) heard h here
      (call-within away t (Some (hears c heard))
      (subst (λ m. t < m) (sym (length-set s.calls w.thread _)) (in_range s t c here))) refl refl
      (length-set away t (Some (hears c heard)) ∙ length-set s.calls w.thread _)
      (omega (
        arith,
        others_same n away t (Some (hears c heard)),
        others_change n s.calls t w.thread 0 (option_map (off_list t) (call_at s w.thread))
            (omega (arith, off_far n t (call_at s w.thread))),
      ))
      a asked (sym gives.2)
      (goes_on u k _ is (λ x. record x { phase = phase.Taking nth }) (λ x. refl) (λ b. refl) refl
      (λ l ne. updated_other s.lot.queues (key_of c k) (remove (s.lot.queues (key_of c k)) nth) l ne))
      gives.0 gives.1
      (leaves_some a c.core s.lot.queues w.token _ c.lock k nth w asked taking is at) (still_taking a _ _ taking)

  -- it tells whom it has taken
  module _ (u : State) (heard : ActResult) (said : WakeResult)
      (calls : u.calls ≡ map (option_map (settled t said)) (slice_set s.calls t (Some (hears c heard)))) where
    tells : (a : Act) → core_act c.core ≡ a → word_at u c.lock ≡ word_after a heard (word_at s c.lock)
        → shut_in u t c.lock ≡ shut_in s t c.lock
        → Gives a (word_at s c.lock) heard → Can (stance c.core) a (shut_in s t c.lock) heard
        → Leaves a heard (length (s.lot.queues (first_key c.lock))) (length (u.lot.queues (first_key c.lock)))
        → StillAt a (length (s.lot.queues (first_key c.lock))) (length (u.lot.queues (first_key c.lock)))
        → Pays t s u
    tells =
        let n = length s.calls in
        let news = slice_set s.calls t (Some (hears c heard)) in
        falls s u t c (settled t said (hears c heard)) heard h here
        (ap (λ cs. call_of cs t) calls ∙ call_at-map (settled t said) news t
        ∙ ap (option_map (settled t said)) (call-within s.calls t (Some (hears c heard)) (in_range s t c here)))
        refl refl
        (ap length calls ∙ length-map news (option_map (settled t said)) ∙ length-set s.calls t (Some (hears c heard)))
        (omega (
          arith,
          ap (λ cs. sum_by (far_steps n) (slice_set cs t None)) calls,
          others_told n t said news t,
          others_same n s.calls t (Some (hears c heard)),
        ))

  -- a store in its section
  tells_on : (u : State) (k : ℕ) (token : UnparkToken) → stance c.core ≡ In k Stores
      → u.lot ≡ stored s.lot (key_in c) token → shut_in u t c.lock ≡ shut_in s t c.lock
  tells_on u k token is as_lot =
      let f : Section → Section = λ x. record x { phase = phase.Stored; token = token } in
      goes_on u k _ is f (λ x. refl)
      (λ b. ap (λ (m : Machine). m.sections b) as_lot
      ∙ ap (λ (i : ℕ). updated s.lot.sections (bucket s i) (option_map f (open_at s i)) b) (key_is c k _ is))
      (ap (λ (m : Machine). m.buckets) as_lot) (λ l ne. ap (λ (m : Machine). m.queues l) as_lot)

  pub store : (plain handing : WordChange) (fair : Bool) → core_act c.core ≡ Act.Section (section.Store plain handing)
      → Pays t s (told_all s t c (cond fair handing plain) fair)
  store plain handing fair asked =
      let heard = ActResult.Stored fair in
      let token = core_tells (core_next c.core heard) in
      let u = told_all s t c (cond fair handing plain) fair in
      let leads = leads_by c.core (Act.Section (section.Store plain handing)) (word_at s c.lock) heard asked tt in
      tells u heard (told_of token) refl (Act.Section (section.Store plain handing)) asked
      (word-here s.words c.lock (change_of (cond fair handing plain) (word_at s c.lock)) (has_word s h t c here))
      (tells_on u leads.0 token leads.1 refl) tt
      (inside_open leads.0 _ (small_key c.core leads.0 _ leads.1) leads.1) tt tt

  pub mask : (keep : ℕ) → core_act c.core ≡ Act.FetchAnd keep → Pays t s (masked s t c keep)
  mask keep asked =
      let heard = ActResult.Before (word_at s c.lock) in
      let leads = leads_by c.core (Act.FetchAnd keep) (word_at s c.lock) heard asked refl in
      tells (masked s t c keep) heard WakeResult.TryAgain refl (Act.FetchAnd keep) asked
      (word-here s.words c.lock (bit_and (word_at s c.lock) keep) (has_word s h t c here))
      (tells_on (masked s t c keep) leads.0 (sign false) leads.1 refl) refl tt refl tt
