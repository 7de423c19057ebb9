-- Wakes, answers and beginnings are paid for; and where a thread can't move, another may be stepped.
use Rattle.std.proofs.Common.{◌≡◌, ◌||◌, ℕ, zero, suc, ◌+◌, ◌*◌, ◌<◌, ◌≤◌, inl, inr, Bool, length, Some, None}
use Rattle.std.proofs.Common.{slice_get, slice_set, sum_by, refl}
use Rattle.std.proofs.Common.{sym, ap, ◌∙◌, subst, arith, true, false, not, Option, is_some}
use Rattle.std.specs.Option.{option_and_then}
use Rattle.std.proofs.lemmas.Bool.{ne_eqb, both_ways}
use Rattle.std.proofs.lemmas.List.{length-set}
use Rattle.parking_lot_protocol.specs.declared.act.Act.{Act}
use Rattle.parking_lot_machine_calls.specs.Kinds.{kind_in}
use Rattle.parking_lot_machine_calls.specs.declared.seat.LatePhase.{LatePhase}
use Rattle.parking_lot_machine_calls.specs.declared.seat.Core.{Core}
use Rattle.parking_lot_machine_calls.specs.declared.open_call.Call.{Call}
use Rattle.parking_lot_machine.specs.Rows.{State, word_at, call_at, first_key}
use Rattle.parking_lot_machine.specs.Rows.{bucket, entered_by, open_at}
use Rattle.parking_lot_machine.specs.Ranks.{Shut}
use Rattle.parking_lot_machine.specs.RankLaws.{shut_at}
use Rattle.parking_lot_machine_calls.specs.CallActs.{key_of}
use Rattle.parking_lot_machine_calls.proofs.Stancing.{small_key}
use Rattle.parking_lot_machine.proofs.LotActs.{no_section}
use Rattle.parking_lot_machine_calls.specs.Stances.{core_act, core_next, late_act, late_next, Out, taken_count}
use Rattle.parking_lot_machine_calls.specs.Stances.{late_rw_act, late_rw_next, sleeper_asleep}
use Rattle.parking_lot_machine.specs.RowFits.{FitsTogether}
use Rattle.parking_lot_machine_calls.specs.CallKinds.{IsOfKind}
use Rattle.parking_lot_machine.specs.RankLaws.{StopsAt}
use Rattle.parking_lot_machine.specs.Ranks.{Sees, core_steps, late_steps, far_steps, is_shut_to, own_steps, view_of}
use Rattle.parking_lot_machine.specs.Ranks.{Pays, View, Unseen, wake, cost, Costs, AnyMayBeStepped, late_rw_steps}
use Rattle.parking_lot_machine.specs.Ranks.{sleeper_steps}
use Rattle.parking_lot_machine.proofs.Ruling.{same_kind}
use Rattle.parking_lot_machine.proofs.Meeting.{in_range}
use Rattle.parking_lot_machine.proofs.RwCalls.{tardy_wakes}
use Rattle.parking_lot_machine.proofs.UpgradePaying as of_upgrade
use Rattle.parking_lot_core_model.specs.declared.place.Section.{Section}
use Rattle.parking_lot_protocol.specs.declared.mutex_phase.MutexPhase.{MutexPhase}
use Rattle.parking_lot_machine.specs.RowActs.{answered, begun, woke, woke_nobody}
use Rattle.parking_lot_machine_calls.specs.CallActs.{hears}
use Rattle.parking_lot_machine.proofs.LotActs.{seat_of}
use Rattle.parking_lot_machine_calls.proofs.Stancing.{leads_by}
use Rattle.parking_lot_machine.proofs.Summing.{others_change, others_same, others_and_one}
use Rattle.parking_lot_core_model.specs.declared.parking.UnparkToken.{UnparkToken}
use Rattle.parking_lot_protocol.specs.declared.act.CoreAnswer.{CoreAnswer}
use Rattle.parking_lot_machine_calls.specs.declared.calls.LockCall.{LockCall}
use Rattle.parking_lot_machine_calls.specs.Beginnings.{core_of}
use Rattle.parking_lot_machine.specs.ActLaws.{MayBegin}
use Rattle.parking_lot_machine.specs.Machines.{can_move, can_move_in, goes_late, is_possible, is_taken}
use Rattle.parking_lot_machine.proofs.MutexPaying as of_mutex
use Rattle.parking_lot_machine.proofs.RwPaying as of_rw
use Rattle.parking_lot_protocol.specs.declared.act.SectionAct.TheVariants as section
use Rattle.parking_lot_machine_calls.specs.declared.seat.QueuePosition.TheVariants as spot
use Rattle.parking_lot_protocol.specs.declared.act.ActResult.TheVariants as seen
use Rattle.parking_lot_machine_calls.specs.declared.calls.LockKind.{LockKind}
use Rattle.parking_lot_machine_calls.specs.declared.late_rw.LateRwPhase.{LateRwPhase}
use Rattle.parking_lot_machine_calls.specs.declared.late_rw.RwSleeper.{RwSleeper}
use Rattle.parking_lot_machine_calls.specs.CallViews.{IsReadySleeper}
use Rattle.parking_lot_machine.proofs.Sleepers.{by_sleeper}
use Rattle.parking_lot_machine.proofs.Paying.{IsGood, IsGoodLate, is_good, few_in_list, call-within, pays, shut_in}

-- ONE CALL, AT EITHER KIND OF LOCK

late_wakes : (p : LatePhase) → late_act p ≡ Act.Section section.Wake → ⊥
late_wakes LatePhase.Expires e = cc
late_wakes LatePhase.Quits e = cc
late_wakes LatePhase.Masks e = cc
late_wakes LatePhase.Leaves e = cc
late_wakes LatePhase.GivesUp e = cc
late_wakes (LatePhase.WasTaken by handed) e = cc

late_woken : (n : ℕ) (p : LatePhase) (token : UnparkToken) → core_steps n Unseen (late_next p (seen.Woken token)) + 1 ≤
    late_steps p + wake
late_woken n LatePhase.Expires token = omega (arith, of_mutex.steps_fall.woken MutexPhase.Sleeps token)
late_woken n p token = omega arith

late_ends : (p : LatePhase) → 1 ≤ late_steps p
late_ends LatePhase.Expires = omega arith
late_ends LatePhase.Quits = omega arith
late_ends LatePhase.Masks = omega arith
late_ends LatePhase.Leaves = omega arith
late_ends LatePhase.GivesUp = omega arith
late_ends (LatePhase.WasTaken by handed) = omega arith

core_wakes : (n : ℕ) (c : Core) (v : View) (x : ℕ) → IsGood c x → core_act c ≡ Act.Section section.Wake
    → 1 ≤ taken_count c → core_steps n v (core_next c seen.Made) + wake ≤ core_steps n v c
core_wakes n (Core.Mutex c) v x good asked some = of_mutex.steps_fall.wakes c.phase v asked
core_wakes n (Core.Upgrade c) v x good asked some = of_upgrade.upgrade_steps_fall.wakes n c.phase v good.1 good.2 asked
    some
core_wakes n (Core.Rw c) v x good asked some = of_rw.steps_fall.wakes n c.phase v asked some
core_wakes n (Core.Late p) v x good asked some = absurd (late_wakes p asked)
core_wakes n (Core.LateRw p) v x good asked some = absurd (tardy_wakes p asked)

late_rw_woken : (n : ℕ) (p : LateRwPhase) (token : UnparkToken) → IsGoodLate p
    → core_steps n Unseen (late_rw_next p (seen.Woken token)) + 1 ≤ late_rw_steps n Unseen p + wake
late_rw_woken n (LateRwPhase.Expires (RwSleeper.Simple c)) token good =
    omega (arith, of_rw.steps_fall.woken n c.phase token)
late_rw_woken n (LateRwPhase.Expires (RwSleeper.Upgradable c)) token good =
    omega (arith, of_upgrade.upgrade_steps_fall.woken n c.phase token good.1.0 good.1.1)
late_rw_woken n p token good = omega arith

core_woken : (n : ℕ) (c : Core) (token : UnparkToken) (x : ℕ) → IsGood c x
    → core_steps n Unseen (core_next c (seen.Woken token)) + 1 ≤ core_steps n Unseen c + wake
core_woken n (Core.Mutex c) token x good = of_mutex.steps_fall.woken c.phase token
core_woken n (Core.Upgrade c) token x good = of_upgrade.upgrade_steps_fall.woken n c.phase token good.1 good.2
core_woken n (Core.Rw c) token x good = of_rw.steps_fall.woken n c.phase token
core_woken n (Core.Late p) token x good = late_woken n p token
core_woken n (Core.LateRw p) token x good = late_rw_woken n p token good

late_rw_ends : (n : ℕ) (v : View) (p : LateRwPhase) (answer : CoreAnswer) → late_rw_act p ≡ Act.Done answer
    → 1 ≤ late_rw_steps n v p
late_rw_ends n v LateRwPhase.GivesUp answer e = omega arith
late_rw_ends n v (LateRwPhase.Expires k) answer e = absurd cc
late_rw_ends n v (LateRwPhase.Quits k) answer e = absurd cc
late_rw_ends n v LateRwPhase.Masks answer e = omega arith
late_rw_ends n v LateRwPhase.Leaves answer e = omega arith
late_rw_ends n v (LateRwPhase.LeavesPending from) answer e = omega arith
late_rw_ends n v (LateRwPhase.WasTaken k by handed) answer e = omega arith

core_ends : (n : ℕ) (c : Core) (v : View) (answer : CoreAnswer) → core_act c ≡ Act.Done answer → 1 ≤ core_steps n v c
core_ends n (Core.Mutex c) v answer asked = of_mutex.steps_fall.ends c.phase v answer asked
core_ends n (Core.Rw c) v answer asked = of_rw.steps_fall.ends n c.phase v answer asked
core_ends n (Core.Late p) v answer asked = late_ends p
core_ends n (Core.LateRw p) v answer asked = late_rw_ends n v p answer asked
core_ends n (Core.Upgrade c) v answer asked = of_upgrade.upgrade_steps_fall.ends n c.phase v answer asked

-- one that sleeps has the same left whoever is stepped
sleeper_still : (n : ℕ) (v : View) (k : RwSleeper) → (sleeper_asleep k ≡ true) × IsReadySleeper k
    → sleeper_steps n Unseen k ≡ sleeper_steps n v k
sleeper_still n v k (e, r) = by_sleeper (λ k. sleeper_steps n Unseen k ≡ sleeper_steps n v k) (λ want. refl)
    (λ rounds. refl) (λ want i. refl) (λ rounds. refl) k r e

late_rw_stops : (n : ℕ) (p : LateRwPhase) (v : View) → IsGoodLate p → late_rw_steps n Unseen p ≤ late_rw_steps n v p
late_rw_stops n (LateRwPhase.Expires k) v good = omega (arith, sleeper_still n v k good)
late_rw_stops n (LateRwPhase.WasTaken k by handed) v good = omega (arith, sleeper_still n v k good)
late_rw_stops n p v good = omega arith

core_stops : (n x : ℕ) (c : Core) (word first : ℕ) (shut : Shut) → IsGood c x → StopsAt (core_act c) shut
    → core_steps n Unseen c ≤ core_steps n (Sees word first shut) c
core_stops n x (Core.Mutex c) word first shut good stops = of_mutex.steps_fall.stops c.phase word first shut stops
core_stops n x (Core.Rw c) word first shut good stops = of_rw.steps_fall.stops n c.phase word first shut stops
core_stops n x (Core.Late p) word first shut good stops = omega arith
core_stops n x (Core.LateRw p) word first shut good stops = late_rw_stops n p (Sees word first shut) good
core_stops n x (Core.Upgrade c) word first shut good stops = of_upgrade.upgrade_steps_fall.stops n c.phase word first
    shut stops

-- WAKES AND ANSWERS

pub wakes_pay : (s : State) (t : ℕ) (c : Call) (v : ℕ) (d : Call) (token : UnparkToken) → FitsTogether s
    → call_at s t ≡ Some c → call_at s v ≡ Some d → core_act c.core ≡ Act.Section section.Wake
    → Pays t s (woke s t c v d token)
wakes_pay s t c v d token h here there asked =
    let n = length s.calls in
    let u = woke s t c v d token in
    let e : Call = record (hears d (seen.Woken token)) { spot = spot.Listed } in
    let news = slice_set s.calls v (Some e) in
    pays s u t 108 c (hears c seen.Made) here
    (call-within news t (Some (hears c seen.Made))
    (subst (λ m. t < m) (sym (length-set s.calls v (Some e))) (in_range s t c here)))
    (length-set news t (Some (hears c seen.Made)) ∙ length-set s.calls v (Some e))
    (omega (
      arith,
      others_same n news t (Some (hears c seen.Made)),
      others_change n s.calls t v 108 (Some e)
          (omega (arith, core_woken n d.core token (word_at s d.lock) (is_good s h v d there), ap (far_steps n) there)),
    ))
    (omega (
      arith,
      core_wakes n c.core (view_of s t c) (word_at s c.lock) (is_good s h t c here) asked
          (h.lots.wakeful t c here asked),
    ))

pub nobody_pays : (s : State) (t : ℕ) (c : Call) → FitsTogether s → call_at s t ≡ Some c
    → core_act c.core ≡ Act.Section section.Wake → Pays t s (woke_nobody s t c)
nobody_pays s t c h here asked =
    let n = length s.calls in
    let d = hears c seen.Made in
    pays s (woke_nobody s t c) t 0 c d here (call-within s.calls t (Some d) (in_range s t c here))
    (length-set s.calls t (Some d)) (omega (arith, others_same n s.calls t (Some d)))
    (omega (
      arith,
      core_wakes n c.core (view_of s t c) (word_at s c.lock) (is_good s h t c here) asked
          (h.lots.wakeful t c here asked),
    ))

pub ends_pay : (s : State) (t : ℕ) (c : Call) (answer : CoreAnswer) → call_at s t ≡ Some c
    → core_act c.core ≡ Act.Done answer → Pays t s (answered s t c)
ends_pay s t c answer here asked =
    let n = length s.calls in
    let u = answered s t c in
    omega (
      arith,
      ap (own_steps u t) (call-within s.calls t None (in_range s t c here)),
      ap (own_steps s t) here,
      ap (λ m. sum_by (far_steps m) (slice_set u.calls t None)) (length-set s.calls t None),
      others_same n s.calls t None,
      core_ends n c.core (view_of s t c) answer asked,
    )

-- NO MORE THAN WHERE ANOTHER IS STEPPED

late_rw_few : (n word first : ℕ) (shut : Shut) (p : LateRwPhase) → first ≤ n → late_rw_steps n (Sees word first shut) p
    ≤ late_rw_steps n Unseen p
late_rw_few n word first shut (LateRwPhase.Expires (RwSleeper.Simple c)) few =
    omega (arith, of_rw.steps_fall.few n word first shut c.phase few)
late_rw_few n word first shut (LateRwPhase.Expires (RwSleeper.Upgradable c)) few =
    omega (arith, of_upgrade.upgrade_steps_fall.few n word first shut c.phase few)
late_rw_few n word first shut (LateRwPhase.WasTaken (RwSleeper.Simple c) by handed) few =
    omega (arith, of_rw.steps_fall.few n word first shut c.phase few)
late_rw_few n word first shut (LateRwPhase.WasTaken (RwSleeper.Upgradable c) by handed) few =
    omega (arith, of_upgrade.upgrade_steps_fall.few n word first shut c.phase few)
late_rw_few n word first shut p few = omega arith

own_few : (s : State) → FitsTogether s → (word j : ℕ) (shut : Shut) (c : Core) → IsOfKind (slice_get s.kinds j) c
    → core_steps (length s.calls) (Sees word (length (s.lot.queues (first_key j))) shut) c ≤ core_steps (length s.calls)
    Unseen c
own_few s h word j shut (Core.Mutex c) is = of_mutex.steps_fall.few c.phase
    (Sees word (length (s.lot.queues (first_key j))) shut)
own_few s h word j shut (Core.Late p) is = omega arith
own_few s h word j shut (Core.LateRw p) is = late_rw_few (length s.calls) word (length (s.lot.queues (first_key j)))
    shut p (few_in_list s h j is)
own_few s h word j shut (Core.Rw c) is = of_rw.steps_fall.few (length s.calls) word
    (length (s.lot.queues (first_key j))) shut c.phase (few_in_list s h j is)
own_few s h word j shut (Core.Upgrade c) is = of_upgrade.upgrade_steps_fall.few (length s.calls) word
    (length (s.lot.queues (first_key j))) shut c.phase (few_in_list s h j is)

-- BEGINNINGS

costs_most : (n : ℕ) (k : LockKind) (c : LockCall) → core_steps n Unseen (core_next (core_of k c) seen.Start) ≤ cost n c
costs_most n k LockCall.Lock = omega arith
costs_most n k LockCall.TryLock = omega arith
costs_most n k LockCall.LockUntil = omega arith
costs_most n k LockCall.Unlock = omega arith
costs_most n k LockCall.Read = omega arith
costs_most n k LockCall.TryRead = omega arith
costs_most n k LockCall.UnlockRead = omega arith
costs_most n k LockCall.Write = omega arith
costs_most n k LockCall.TryWrite = omega arith
costs_most n k LockCall.UnlockWrite = omega arith
costs_most n k LockCall.Downgrade = omega arith
costs_most n k LockCall.UpgradableRead = omega arith
costs_most n k LockCall.TryUpgradableRead = omega arith
costs_most n k LockCall.UnlockUpgradable = omega arith
costs_most n k LockCall.Upgrade = omega arith
costs_most n k LockCall.TryUpgrade = omega arith
costs_most n k LockCall.DowngradeToUpgradable = omega arith
costs_most n k LockCall.DowngradeUpgradable = omega arith
costs_most n k LockCall.ReadUntil = omega arith
costs_most n k LockCall.WriteUntil = omega arith
costs_most n k LockCall.UpgradableUntil = omega arith
costs_most n k LockCall.UpgradeUntil = omega arith

pub begins_cost : (s : State) (t : ℕ) (c : Call) (what : LockCall) → FitsTogether s → MayBegin s t c
    → c.core ≡ core_of (kind_in s.kinds c.lock) what → Costs t what s (begun s t c)
begins_cost s t c what h may is =
    let n = length s.calls in
    let u = begun s t c in
    let d = hears c seen.Start in
    let sees = view_of u t d in
    omega (
      arith,
      ap (own_steps u t) (call-within s.calls t (Some d) may.low),
      ap (own_steps s t) may.free,
      ap (λ m. core_steps m sees d.core) (length-set s.calls t (Some d)),
      ap (λ m. sum_by (far_steps m) (slice_set u.calls t None)) (length-set s.calls t (Some d)),
      others_same n s.calls t (Some d),
      ap (λ x. core_steps n sees (core_next x seen.Start)) is,
      own_few s h (word_at u c.lock) c.lock (shut_in u t c.lock)
          (core_next (core_of (kind_in s.kinds c.lock) what) seen.Start)
          (same_kind (core_of (kind_in s.kinds c.lock) what) seen.Start (slice_get s.kinds c.lock)
          (subst (IsOfKind (slice_get s.kinds c.lock)) is may.kind)),
      costs_most n (kind_in s.kinds c.lock) what,
    )

-- ANOTHER IS STEPPED

pub nor_else : (a : Bool) {b : Bool} → (a || b) ≡ false → b ≡ false
nor_else true e = absurd cc
nor_else false e = e

module _ (s : State) (h : FitsTogether s) where
  pub none_more : (u : ℕ) (o : Option Call) → call_at s u ≡ o → own_steps s u o ≤ far_steps (length s.calls) o
  none_more u None at = omega arith
  none_more u (Some c) at = own_few s h (word_at s c.lock) c.lock (shut_in s u c.lock) c.core
      (h.rules.kinds u c at)

  is_shut : (t : ℕ) (c : Call) (key : ℕ) → call_at s t ≡ Some c → core_act c.core ≡ Act.Enter key → (o : Option Section)
      → open_at s (key_of c key) ≡ o → is_some o ≡ true → is_shut_to t (entered_by s (key_of c key)) ≡ true
  is_shut t c key here asked None e some = absurd (both_ways false refl some)
  is_shut t c key here asked (Some x) e some =
      let by = h.lots.opened (bucket s (key_of c key)) x e in
      let leads = leads_by c.core (Act.Enter key) (word_at s c.lock) seen.Entered asked tt in
      let seat = seat_of s h.lots t c Out here leads.0 in
      ap (λ (o : Option Section). is_shut_to t (option_and_then (λ (y : Section). y.thread) o)) e
      ∙ (ap (is_shut_to t) by.1 ∙ ap not (ne_eqb by.0 t
      (λ q. no_section s h.lots t (bucket s (key_of c key)) x seat.1 e (by.1 ∙ ap Some q))))

  shut_there : (t j : ℕ) (key : ℕ) → key < 2 → is_shut_to t (entered_by s (2 * j + key)) ≡ true
      → shut_at key (shut_in s t j) ≡ true
  shut_there t j zero two e =
      let same : 2 * j + 0 ≡ 2 * j = omega arith in subst (λ (n : ℕ). is_shut_to t (entered_by s n) ≡ true) same e
  shut_there t j (suc key) two e =
      let same : 2 * j + suc key ≡ 2 * j + 1 = omega (arith, two) in
      subst (λ (n : ℕ). is_shut_to t (entered_by s n) ≡ true) same e

  stops_at : (t : ℕ) (c : Call) → call_at s t ≡ Some c → (a : Act) → core_act c.core ≡ a
      → is_possible (is_taken s c) a ≡ false → StopsAt a (shut_in s t c.lock)
  stops_at t c here Act.Sleep asked cannot = tt
  stops_at t c here (Act.Enter key) asked cannot =
      let leads = leads_by c.core (Act.Enter key) (word_at s c.lock) seen.Entered asked tt in
      let two : key < 2 = elim leads.1 [
        | inl x ↦ small_key (core_next c.core seen.Entered) key _ x
        | inr x ↦ small_key (core_next c.core seen.Entered) key _ x
      ] in
      shut_there t c.lock key two (is_shut t c key here asked (open_at s (key_of c key)) refl
      (some_is (is_some (open_at s (key_of c key))) cannot))
    where
      some_is : (b : Bool) → not b ≡ false → b ≡ true
      some_is true e = refl
      some_is false e = absurd (both_ways true e refl)
  stops_at t c here a asked cannot = absurd cc

  none_less : (t : ℕ) (o : Option Call) → call_at s t ≡ o → can_move_in s o ≡ false
      → far_steps (length s.calls) o ≤ own_steps s t o
  none_less t None at cannot = omega arith
  none_less t (Some c) at cannot = core_stops (length s.calls) (word_at s c.lock) c.core (word_at s c.lock)
      (length (s.lot.queues (first_key c.lock))) (shut_in s t c.lock) (is_good s h t c at)
      (stops_at t c at (core_act c.core) refl (nor_else (goes_late s c c.core) cannot))

  pub any_may_be_stepped : (t : ℕ) → can_move s t ≡ false → AnyMayBeStepped s t
  any_may_be_stepped t cannot u =
      let n = length s.calls in
      omega (
        arith,
        none_more u (call_at s u) refl,
        none_less t (call_at s t) refl cannot,
        others_and_one n s.calls u,
        others_and_one n s.calls t,
      )
