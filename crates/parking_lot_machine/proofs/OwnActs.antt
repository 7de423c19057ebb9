-- A thread's own acts, at a lock of either kind: they are steps of the rules, and keep the side of the rules.
use Rattle.std.proofs.Common.{◌≡◌, ◌≢◌, ℕ, zero, suc, ◌+◌, ◌*◌, ◌<◌, ◌≤◌, ◌==◌, cond, Bool, true, false, List, []}
use Rattle.std.proofs.Common.{Option, Some, None, slice_get, refl, sym, ap, ◌∙◌, subst, arith, slice_set, length, inl}
use Rattle.std.proofs.Common.{inr}
use Rattle.std.proofs.lemmas.Bool.{both_ways}
use Rattle.std.proofs.lemmas.Option.{none-some}
use Rattle.parking_lot_core_model.specs.Machine.{threads_of}
use Rattle.parking_lot_rules.specs.Lists.{at_index}
use Rattle.parking_lot_rules.specs.Classes.{Inside1, Inside2, weighs}
use Rattle.parking_lot_rules.specs.Mutex as mutex
use Rattle.parking_lot_rules.specs.Any.{AnyLock, Mx, MxStep, any_inside, mutex_crossing}
use Rattle.parking_lot_rules.specs.Family.{Key, First, Second, Crossing, key}
use Rattle.parking_lot_rules.proofs.MutexCrossing.{any_are_rules}
use Rattle.parking_lot_protocol.specs.declared.act.Act.{Act}
use Rattle.parking_lot_protocol.specs.declared.act.CoreAnswer.{CoreAnswer}
use Rattle.parking_lot_machine_calls.specs.Stances.{Out}
use Rattle.parking_lot_protocol.specs.declared.act.SectionAct.TheVariants as section
use Rattle.parking_lot_protocol.specs.declared.act.ActResult.{ActResult}
use Rattle.parking_lot_protocol.specs.declared.mutex_core.MutexCore.{MutexCore}
use Rattle.parking_lot_protocol.specs.Acts.{Gives, word_after}
use Rattle.parking_lot_machine_calls.specs.Kinds.{AsMutex, AsRw, manner_of, Manner, recursive_in}
use Rattle.parking_lot_machine_calls.specs.declared.seat.LatePhase.{LatePhase}
use Rattle.parking_lot_machine_calls.specs.declared.seat.Core.{Core}
use Rattle.parking_lot_machine_calls.specs.declared.open_call.Call.{Call}
use Rattle.parking_lot_machine.specs.Rows.{State, word_at, taken_by, rw_lock_at, mutex_at, bucket, entered_in}
use Rattle.parking_lot_machine.specs.Rows.{lock_as, lock_at}
use Rattle.parking_lot_machine_calls.specs.CallRoles.{first_of_all, mutex_spot, mutex_role}
use Rattle.parking_lot_machine_calls.specs.Stances.{has_begun, core_act, core_next, late_act, late_stance, mutex_stance}
use Rattle.parking_lot_machine_calls.specs.Stances.{sign, stance, Stance, mutex_taken}
use Rattle.parking_lot_machine.specs.RwLaws.{act_crossing}
use Rattle.parking_lot_machine.specs.MutexLaws.{crossing_of}
use Rattle.parking_lot_machine.specs.RowFits.{FitsTogether, RulesFit, IsPrepared, mutex_knows}
use Rattle.parking_lot_machine_calls.specs.CallKinds.{IsOfKind}
use Rattle.parking_lot_machine.specs.RowSteps.{Goes, resume_step}
use Rattle.parking_lot_machine.specs.RwLaws.{Finds, NobodyIs}
use Rattle.parking_lot_protocol.specs.MutexTable as of_mutex_table
use Rattle.parking_lot_protocol.specs.declared.mutex_phase.MutexPhase.{MutexPhase}
use Rattle.parking_lot_protocol.specs.MutexRules as of_mutex
use Rattle.parking_lot_machine.specs.MutexLaws.{is_own}
use Rattle.parking_lot_machine.proofs.MutexMoving.{steps}
use Rattle.parking_lot_machine.proofs.KindTable.{Late, Plain, RwCall, Simple, Upgradable, next_is, of_mutexes, of_rws}
use Rattle.parking_lot_machine.proofs.KindTable.{rw_call, rw_next, same, Tardy, role_by}
use Rattle.parking_lot_machine.proofs.Making.{Crossed, TellsOf, entries, made, mutex_goes, rw_goes, IsSoundState}
use Rattle.parking_lot_machine.proofs.Meeting.{meets, plays, plays_late, rw_hears, exact}
use Rattle.parking_lot_machine.proofs.OwnMoves.{AfterAct, IsOwnAct, own_some}
use Rattle.parking_lot_machine.proofs.RwCalls.{as_move, call_hears, call_learns, call_move, call_own, own_wants}
use Rattle.parking_lot_machine.proofs.Owning.{OwnAct, own-there, own-elsewhere, own_after, rw_leads}
use Rattle.parking_lot_machine.proofs.Knowing.{mutex_learns}
use Rattle.parking_lot_machine.proofs.Ruling.{Fitted, knows_same, rules_own}
use Rattle.parking_lot_rules.specs.Roles.{Back}
use Rattle.parking_lot_core_model.specs.declared.place.Waiter.{Waiter}
use Rattle.parking_lot_core_model.specs.declared.parking.UnparkToken.{UnparkToken}
use Rattle.parking_lot_machine_calls.specs.StanceLaws.{Leads}
use Rattle.parking_lot_machine_calls.proofs.Stancing.{leads_by}

-- NOBODY IS INSIDE

module _ (s : State) (sound : IsSoundState s) (i : ℕ) (k : Key) (free : entered_in s (bucket s (key i k)) ≡ None) where
  nobody_at : (u : ℕ) → any_inside (lock_at s i) k u ≢ 1
  nobody_at u e = none-some u (sym free ∙ sound.entered i k u e)

  at_most : (l : AnyLock) (u : ℕ) (x : Key) → any_inside l x u ≤ 1
  at_most l u First = omega (arith, (any_are_rules (λ i. false)).one l u)
  at_most l u Second = omega (arith, (any_are_rules (λ i. false)).one l u)

  none_inside : (u : ℕ) (o : Option Manner) → manner_of (slice_get s.kinds i) ≡ o → any_inside (lock_as o s i) k u ≡ 0
  none_inside u o e =
      omega (
        arith,
        at_most (lock_as o s i) u k,
        λ (x : any_inside (lock_as o s i) k u ≡ 1). nobody_at u (ap (λ q. any_inside (lock_as q s i) k u) e ∙ x),
      )

pub sound_first : (s : State) → IsSoundState s → (i : ℕ) → entered_in s (bucket s (key i First)) ≡ None
    → manner_of (slice_get s.kinds i) ≡ Some AsRw → NobodyIs Inside1 (rw_lock_at s i).roles
sound_first s sound i free e u r at = sym (ap (weighs Inside1) at) ∙ none_inside s sound i First free u (Some AsRw) e

pub sound_second : (s : State) → IsSoundState s → (i : ℕ) → entered_in s (bucket s (key i Second)) ≡ None
    → manner_of (slice_get s.kinds i) ≡ Some AsRw → NobodyIs Inside2 (rw_lock_at s i).roles
sound_second s sound i free e u r at = sym (ap (weighs Inside2) at)
    ∙ none_inside s sound i Second free u (Some AsRw) e

pub sound_in_mutex : (s : State) → IsSoundState s → (i : ℕ) → entered_in s (bucket s (key i First)) ≡ None
    → manner_of (slice_get s.kinds i) ≡ Some AsMutex → (u : ℕ) (r : mutex.Role)
    → slice_get (mutex_at s i).roles u ≡ Some r → mutex.weight mutex.Inside r ≡ 0
sound_in_mutex s sound i free e u r at = sym (ap (at_index (mutex.weight mutex.Inside)) at)
    ∙ none_inside s sound i First free u (Some AsMutex) e

module _ (s : State) (h : FitsTogether s) (i : ℕ) where
  pub nobody_first : entered_in s (bucket s (key i First)) ≡ None → manner_of (slice_get s.kinds i) ≡ Some AsRw
      → NobodyIs Inside1 (rw_lock_at s i).roles
  nobody_first free e = sound_first s h.rules.sound i free e

  pub nobody_second : entered_in s (bucket s (key i Second)) ≡ None → manner_of (slice_get s.kinds i) ≡ Some AsRw
      → NobodyIs Inside2 (rw_lock_at s i).roles
  nobody_second free e = sound_second s h.rules.sound i free e

  pub nobody_in_mutex : entered_in s (bucket s (key i First)) ≡ None → manner_of (slice_get s.kinds i) ≡ Some AsMutex
      → (u : ℕ) (r : mutex.Role) → slice_get (mutex_at s i).roles u ≡ Some r → mutex.weight mutex.Inside r ≡ 0
  nobody_in_mutex free e = sound_in_mutex s h.rules.sound i free e

no_start : false ≡ true → ⊥
no_start e = both_ways false refl e

is_rw : Option Manner → Bool
is_rw None = false
is_rw (Some AsMutex) = false
is_rw (Some AsRw) = true

-- a lock goes by one of both rules
pub two_kinds : Some AsRw ≡ Some AsMutex → ⊥
unfolding is_rw
two_kinds e = both_ways (is_rw (Some AsRw)) (ap is_rw e) refl

-- AT A MUTEX

own_is : (a : Act) → IsOwnAct a → is_own a ≡ true
own_is (Act.Section section.TakeFirst) h = absurd h
own_is (Act.Section (section.TakeNext sum)) h = absurd h
own_is (Act.Section (section.Append token)) h = absurd h
own_is (Act.Section (section.Store plain fair)) h = absurd h
own_is (Act.Section section.Wake) h = absurd h
own_is Act.Sleep h = absurd h
own_is a h = refl

own_tells : (v : ℕ) (us : List ℕ) (p : MutexPhase) (s : ActResult) → IsOwnAct (of_mutex_table.act_of p)
    → TellsOf (of_mutex.move v p s) us v
own_tells v us (MutexPhase.Locks a waiters) ActResult.Exchanged own = tt
own_tells v us (MutexPhase.Parks a) ActResult.Exchanged own = tt
own_tells v us (MutexPhase.Checks woken) (ActResult.Word word) own = go (word == 3)
  where
    go : (b : Bool) → TellsOf (cond b (of_mutex.Makes (mutex.Check woken)) of_mutex.Stays) us v
    go true = tt
    go false = tt
own_tells v us MutexPhase.Appends s own = absurd own
own_tells v us MutexPhase.Sleeps s own = absurd own
own_tells v us (MutexPhase.TryLocks waiters left) ActResult.Exchanged own = tt
own_tells v us (MutexPhase.Unlocks giving) ActResult.Exchanged own = tt
own_tells v us (MutexPhase.Takes giving) s own = absurd own
own_tells v us (MutexPhase.Stores giving taken left) s own = absurd own
own_tells v us (MutexPhase.Wakes giving) s own = absurd own
own_tells v us p s own = tt

-- such an act takes nobody, and wakes nobody
own_counts : (a : Act) (told : ActResult) (x y : Stance) (n m : ℕ) (tells : UnparkToken) → IsOwnAct a
    → Leads a told x y n m tells → m ≡ n
own_counts Act.Load told x y n m tells own l = l.2
own_counts (Act.Exchange from to) told x y n m tells own l = l.2
own_counts (Act.Add by) told x y n m tells own l = l.2
own_counts (Act.FetchAnd keep) told x y n m tells own l = l.3
own_counts Act.Spin told x y n m tells own l = l.2
own_counts (Act.Enter k) told x y n m tells own l = l.2
own_counts (Act.Section section.Check) told x y n m tells own l = l.4 ∙ sym l.3
own_counts (Act.Section section.Leave) told x y n m tells own (inl l) = l.4 ∙ sym l.3
own_counts (Act.Section section.Leave) told x y n m tells own (inr (inl l)) = l.5 ∙ sym l.4
own_counts (Act.Section section.Leave) told x y n m tells own (inr (inr l)) = l.4
own_counts (Act.Section section.TakeFirst) told x y n m tells own l = absurd own
own_counts (Act.Section (section.TakeNext sum)) told x y n m tells own l = absurd own
own_counts (Act.Section (section.Append token)) told x y n m tells own l = absurd own
own_counts (Act.Section (section.Store plain fair)) told x y n m tells own l = absurd own
own_counts (Act.Section section.Wake) told x y n m tells own l = absurd own
own_counts Act.Sleep told x y n m tells own l = absurd own
own_counts (Act.Done answer) told x y n m tells own l = absurd own

-- AT A LOCK OF EITHER KIND

module _ (s u : State) (t : ℕ) (h : FitsTogether s) where
  finds : (st : Stance) (a : Act) (i : ℕ) → IsOwnAct a → AfterAct st a t (entries s i) (entries u i)
      → manner_of (slice_get s.kinds i) ≡ Some AsRw → Finds a (rw_lock_at s i)
  finds st (Act.Enter zero) i own around e = nobody_first s h i around.0 e
  finds st (Act.Enter (suc which)) i own around e = nobody_second s h i around.0 e
  finds st (Act.FetchAnd keep) i own around e = absurd own
  finds st Act.Load i own around e = tt
  finds st (Act.Exchange from to) i own around e = tt
  finds st (Act.Add by) i own around e = tt
  finds st Act.Spin i own around e = tt
  finds st (Act.Section a) i own around e = tt
  finds st Act.Sleep i own around e = tt
  finds st (Act.Done answer) i own around e = tt

  -- whose moment has passed leaves its section
  own_late : (c : Call) (p : LatePhase) (told : ActResult) → ((key : ℕ) → u.lot.queues key ≡ s.lot.queues key)
      → c.core ≡ Core.Late p → OwnAct s u t c told (core_next (Core.Late p) told) c.spot
      → Gives (late_act p) (word_at s c.lock) told → IsOwnAct (late_act p)
      → AfterAct (late_stance p) (late_act p) t (entries s c.lock) (entries u c.lock)
      → Fitted s u t c told (Core.Late p)
  own_late c LatePhase.Leaves ActResult.Made lists_same e a gives own around =
      let kind_is = subst (IsOfKind (slice_get s.kinds c.lock)) e (h.rules.kinds t c a.here) in
      let word : word_at u c.lock ≡ word_at s c.lock = a.word
      ∙ ap (λ y. word_after (core_act y) ActResult.Made (word_at s c.lock)) e in (
        made of_mutexes s u t c.lock (own-there s u t c ActResult.Made _ c.spot a)
            (own-elsewhere s u t c ActResult.Made _ c.spot a) kind_is (MxStep (mutex.Alone mutex.Leave))
            ((plays_late s h t c LatePhase.Leaves e a.here).here, tt)
            (ap Mx (own_after of_mutexes s u t c ActResult.Made (Late LatePhase.GivesUp) c.spot a _ word
            ∙ same of_mutexes _ _ _ _ _ _ [] [] refl refl (ap threads_of (lists_same (2 * c.lock))) refl)) around,
        subst (IsPrepared (recursive_in s.kinds c.lock) c.others) e (h.rules.prepared t c a.here),
        tt,
        λ m. subst (λ n. n < 4) (sym word) (h.rules.bits c.lock m),
      )
  own_late c (LatePhase.WasTaken by handed) ActResult.Made lists_same e a gives own around =
      let kind_is = subst (IsOfKind (slice_get s.kinds c.lock)) e (h.rules.kinds t c a.here) in
      let word : word_at u c.lock ≡ word_at s c.lock = a.word
      ∙ ap (λ y. word_after (core_act y) ActResult.Made (word_at s c.lock)) e in
      let k : MutexCore = record { phase = of_mutex_table.next_phase MutexPhase.Sleeps (ActResult.Woken (sign handed)) }
      in
      let n = mutex_at s c.lock in (
        made of_mutexes s u t c.lock (own-there s u t c ActResult.Made _ c.spot a)
            (own-elsewhere s u t c ActResult.Made _ c.spot a) kind_is (MxStep (mutex.Alone (resume_step handed by))) (
              (plays_late s h t c (LatePhase.WasTaken by handed) e a.here).here ∙ ap Some (was_taken by handed),
              resume_may by handed n,
            )
            (ap Mx (own_after of_mutexes s u t c ActResult.Made (Plain k) c.spot a _ word
            ∙ same of_mutexes _ _ _ _ _ _ [] [] refl
            (ap (slice_set n.roles t) (goes_on by handed (taken_by s.wakes t)))
            (ap threads_of (lists_same (2 * c.lock))) refl
            ∙ ap (λ w. record {
              word = w;
              roles = slice_set n.roles t (mutex.to (resume_step handed by));
              queue = n.queue;
            }) (resume_writes by handed n.word))) (resume_leaves by handed around),
        subst (IsPrepared (recursive_in s.kinds c.lock) c.others) e (h.rules.prepared t c a.here),
        resume_knows handed (u.lot.queues (2 * c.lock)),
        λ m. subst (λ n. n < 4) (sym word) (h.rules.bits c.lock m),
      )
    where
      was_taken : (by : ℕ) (b : Bool) → mutex.doing (mutex.Taken by (of_mutex.mark_of b) Back) ≡ mutex.from
          (resume_step b by)
      was_taken by true = refl
      was_taken by false = refl

      goes_on : (by : ℕ) (b : Bool) (us : List ℕ)
          → mutex_role of_mutex.Listed us (of_mutex_table.next_phase MutexPhase.Sleeps (ActResult.Woken (sign b)))
          ≡ mutex.to (resume_step b by)
      goes_on by true us = refl
      goes_on by false us = refl

      resume_may : (by : ℕ) (b : Bool) (n : mutex.Mutex)
          → mutex.May (resume_step b by) n.word (λ c. mutex.total c n.roles)
      resume_may by true n = tt
      resume_may by false n = tt

      resume_writes : (by : ℕ) (b : Bool) (w : mutex.Word) → w ≡ mutex.written (resume_step b by) w
      resume_writes by true w = refl
      resume_writes by false w = refl

      resume_leaves : (by : ℕ) (b : Bool) → Crossed (mutex_crossing (mutex.Alone mutex.Leave)) t (entries s c.lock)
          (entries u c.lock)
          → Crossed (mutex_crossing (mutex.Alone (resume_step b by))) t (entries s c.lock) (entries u c.lock)
      resume_leaves by true x = x
      resume_leaves by false x = x

      resume_knows : (b : Bool) (q : List Waiter)
          → mutex_knows (of_mutex_table.next_phase MutexPhase.Sleeps (ActResult.Woken (sign b))) q
      resume_knows true q = tt
      resume_knows false q = tt
  own_late c (LatePhase.WasTaken by handed) told lists_same e a gives own around = absurd gives
  own_late c LatePhase.Expires told lists_same e a gives own around = absurd own
  own_late c LatePhase.Quits told lists_same e a gives own around = absurd own
  own_late c LatePhase.Masks told lists_same e a gives own around = absurd own
  own_late c LatePhase.GivesUp told lists_same e a gives own around = absurd own
  own_late c LatePhase.Leaves told lists_same e a gives own around = absurd gives

  module _ (c : Call) (told : ActResult) (lists_same : (key : ℕ) → u.lot.queues key ≡ s.lot.queues key) where
    own_rw : (k : RwCall) → c.core ≡ rw_call k → OwnAct s u t c told (core_next (rw_call k) told) c.spot
        → Gives (core_act (rw_call k)) (word_at s c.lock) told → IsOwnAct (core_act (rw_call k))
        → AfterAct (stance (rw_call k)) (core_act (rw_call k)) t (entries s c.lock) (entries u c.lock)
        → Fitted s u t c told (rw_call k)
    own_rw k e b gives own around =
        let us = taken_by s.wakes t in
        let x = word_at s c.lock in
        let a = subst (λ (y : Core). OwnAct s u t c told y c.spot) (next_is k told) b in
        let kind_is = of_rws.of_kind (slice_get s.kinds c.lock) k
        (subst (IsOfKind (slice_get s.kinds c.lock)) e (h.rules.kinds t c a.here)) in
        let ready = subst (IsPrepared (recursive_in s.kinds c.lock) c.others) e (h.rules.prepared t c a.here) in
        let heard = call_hears k x told (recursive_in s.kinds c.lock) c.others
        (subst (λ (y : Core). has_begun y ≡ true) e (h.rules.begun t c a.here).begun) ready own gives in
        let leads = rw_leads (recursive_in s.kinds c.lock) (rw_lock_at s c.lock) t c.others c.spot us k x told
        (meets s h t c k e a.here) heard (finds (stance (rw_call k)) (core_act (rw_call k)) c.lock own around kind_is)
        a.listed
        (entries s c.lock) (entries u c.lock)
        (call_own t (entries s c.lock) (entries u c.lock)
        (recursive_in s.kinds c.lock) c.others us k x told heard ready own around) in
        let well = rw_hears s h t c k e a.here told heard (own_wants x k told own gives) u.lot.queues
        (call_learns k told own (u.lot.queues (2 * c.lock)) (u.lot.queues (2 * c.lock + 1))) in (
          as_move k c.others us told c.lock t s u
              (rw_goes s u t c.lock (call_move c.others us k told) us _ (own-there s u t c told _ c.spot a)
              (own-elsewhere s u t c told _ c.spot a) kind_is leads.0
              (own_after of_rws s u t c told (rw_next k told) c.spot a _
              (a.word ∙ ap (λ y. word_after (core_act y) told x) e)
              ∙ same of_rws _ _ _ _ _ _ _ _ refl refl (ap threads_of (lists_same (2 * c.lock)))
              (ap threads_of (lists_same (2 * c.lock + 1))))
              leads.1 (own_some (call_move c.others us k told) us t (entries s c.lock) (entries u c.lock)
              (call_own t (entries s c.lock) (entries u c.lock)
              (recursive_in s.kinds c.lock) c.others us k x told heard ready own
              around))),
          well.0,
          well.1,
          λ m. absurd (two_kinds (sym kind_is ∙ m)),
        )

    -- a mutex has one list
    ends_first : (again : Bool) → act_crossing Out (cond again Act.Load (Act.Done CoreAnswer.Released))
        ≡ crossing_of (cond again Act.Load (Act.Done CoreAnswer.Released))
    ends_first true = refl
    ends_first false = refl

    crosses_first : (p : MutexPhase) → act_crossing (mutex_stance p) (of_mutex_table.act_of p)
        ≡ crossing_of (of_mutex_table.act_of p)
    crosses_first (MutexPhase.Enters woken) = refl
    crosses_first (MutexPhase.Looks giving) = refl
    crosses_first (MutexPhase.Retreats woken) = refl
    crosses_first MutexPhase.Rests = refl
    crosses_first (MutexPhase.Leaves giving taken handed) = refl
    crosses_first (MutexPhase.Finishes giving) = ends_first giving.again
    crosses_first p = refl

    ends_there : (again : Bool) (which : ℕ)
        → cond again Act.Load (Act.Done CoreAnswer.Released) ≡ Act.Enter (suc which) → ⊥
    ends_there true which e = cc
    ends_there false which e = cc

    first_only : (p : MutexPhase) (which : ℕ) → of_mutex_table.act_of p ≡ Act.Enter (suc which) → ⊥
    first_only (MutexPhase.Enters woken) which e = cc
    first_only (MutexPhase.Looks giving) which e = cc
    first_only (MutexPhase.Finishes giving) which e = ends_there giving.again which e
    first_only p which e = cc

    enters_first : (p : MutexPhase) (which : ℕ) → of_mutex_table.act_of p ≡ Act.Enter which
        → AfterAct (mutex_stance p) (Act.Enter which) t (entries s c.lock) (entries u c.lock)
        → entered_in s (bucket s (key c.lock First)) ≡ None
    enters_first p zero is around = around.0
    enters_first p (suc which) is around = absurd (first_only p which is)

    own_mutex : (k : MutexCore) → c.core ≡ Core.Mutex k → OwnAct s u t c told (core_next (Core.Mutex k) told) c.spot
        → Gives (of_mutex_table.act_of k.phase) (word_at s c.lock) told → IsOwnAct (of_mutex_table.act_of k.phase)
        → AfterAct (mutex_stance k.phase) (of_mutex_table.act_of k.phase) t (entries s c.lock) (entries u c.lock)
        → Fitted s u t c told (Core.Mutex k)
    own_mutex k e a gives own around =
        let us = taken_by s.wakes t in
        let x = word_at s c.lock in
        let kind_is = subst (IsOfKind (slice_get s.kinds c.lock)) e (h.rules.kinds t c a.here) in
        let word = a.word ∙ ap (λ y. word_after (core_act y) told x) e in
        let step = steps.own (mutex_at s c.lock) x t (first_of_all us) (mutex_spot c.spot) k.phase told
        (plays s h t c k e a.here (λ w. subst IsOwnAct w own)) gives (own_is (of_mutex_table.act_of k.phase) own)
        (λ which is. nobody_in_mutex s h c.lock (enters_first k.phase which is (subst (λ (y : Act). AfterAct
        (mutex_stance k.phase) y t (entries s c.lock) (entries u c.lock)) is around)) kind_is) in
        let leads = leads_by (Core.Mutex k) (of_mutex_table.act_of k.phase) x told refl gives in
        let counts : length us ≡ mutex_taken (of_mutex_table.next_phase k.phase told) =
        exact s h t c k e a.here (λ w. subst IsOwnAct w own)
        ∙ sym (own_counts (of_mutex_table.act_of k.phase) told _ _ _ _ _ own leads) in (
          mutex_goes s u t c.lock (first_of_all us) us _ (of_mutex.move (first_of_all us) k.phase told)
              (own-there s u t c told _ c.spot a) (own-elsewhere s u t c told _ c.spot a) kind_is step.leads
              (own_after of_mutexes s u t c told (Plain (record k { phase = of_mutex_table.next_phase k.phase told }))
              c.spot a _ word ∙ same of_mutexes _ _ _ _ _ _ [] [] refl
              (ap (slice_set (mutex_at s c.lock).roles t)
              (role_by of_mutex.Listed us (of_mutex_table.next_phase k.phase told) counts))
              (ap threads_of (lists_same (2 * c.lock))) refl)
              (subst (λ (y : Crossing). Crossed y t (entries s c.lock) (entries u c.lock))
              (sym (step.crossing ∙ sym (crosses_first k.phase))) around)
              (own_tells (first_of_all us) us k.phase told own),
          subst (IsPrepared (recursive_in s.kinds c.lock) c.others) e (h.rules.prepared t c a.here),
          mutex_learns (Core.Mutex k) (of_mutex_table.next_phase k.phase told) x told refl refl own gives
              (u.lot.queues (2 * c.lock)),
          λ m. subst (λ n. n < 4) (sym word) step.small,
        )

    own_so : (x : Core) → c.core ≡ x → OwnAct s u t c told (core_next x told) c.spot
        → Gives (core_act x) (word_at s c.lock) told → IsOwnAct (core_act x)
        → AfterAct (stance x) (core_act x) t (entries s c.lock) (entries u c.lock) → Fitted s u t c told x
    own_so (Core.Rw k) e = own_rw (Simple k) e
    own_so (Core.Upgrade k) e = own_rw (Upgradable k) e
    own_so (Core.LateRw p) e = own_rw (Tardy p) e
    own_so (Core.Mutex k) e = own_mutex k e
    own_so (Core.Late p) e = own_late c p told lists_same e

    pub own_fits : OwnAct s u t c told (core_next c.core told) c.spot → Gives (core_act c.core) (word_at s c.lock) told
        → IsOwnAct (core_act c.core) → AfterAct (stance c.core) (core_act c.core) t (entries s c.lock)
        (entries u c.lock) → RulesFit u
        × Goes t c told s u
    own_fits a gives own around =
        rules_own s u t c told c.spot a h
        (λ v e ne at. knows_same s.lot.queues u.lot.queues lists_same e.core e.lock (h.rules.knows v e at))
        (own_so c.core refl a gives own around)
