-- A call begins: its thread goes from no call to the first phase.
use Rattle.std.proofs.Common.{◌≡◌, ◌≢◌, ℕ, ◌+◌, ◌*◌, ◌<◌, ◌≤◌, inl, inr, Bool, true, false, List, [], length, Option}
use Rattle.std.proofs.Common.{Some, None, slice_get, slice_set, refl, sym, ap, ◌∙◌, subst, arith, zero, suc, ◌⊎◌, cond}
use Rattle.std.proofs.Common.{nat_lt}
use Rattle.std.proofs.lemmas.Bool.{cases_eq, both_ways, cases_lt, lt-ltb, ltb-true}
use Rattle.std.proofs.lemmas.Option.{none-some, same_Some, slice_get-get_or}
use Rattle.std.proofs.lemmas.List.{length-set}
use Rattle.std.specs.Option.{option_and_then, option_map_or}
use Rattle.std.specs.Prelude.{get_or}
use Rattle.std.proofs.Math.Nat.{suc-mul}
use Rattle.parking_lot_core_model.specs.declared.place.Waiter.{Waiter}
use Rattle.parking_lot_core_model.proofs.Numbers.{count_by-set, flag}
use Rattle.parking_lot_rules.specs.Roles.{Role, Idle}
use Rattle.parking_lot_rules.specs.Family.{IsFree, entered_after, Crossing}
use Rattle.parking_lot_protocol.specs.declared.act.Act.{Act}
use Rattle.parking_lot_protocol.specs.Acts.{word_after}
use Rattle.parking_lot_protocol.specs.declared.mutex_core.MutexCore.{MutexCore}
use Rattle.parking_lot_machine_calls.specs.Kinds.{AsMutex, AsRw, manner_of, recursive_in}
use Rattle.parking_lot_machine_calls.specs.declared.seat.LatePhase.{LatePhase}
use Rattle.parking_lot_machine_calls.specs.declared.seat.Core.{Core}
use Rattle.parking_lot_machine_calls.specs.declared.open_call.Call.{Call}
use Rattle.parking_lot_machine_calls.specs.declared.seat.QueuePosition.{QueuePosition}
use Rattle.parking_lot_machine.specs.Rows.{State, word_at, call_at, hold_at, taken_by, mutex_at, rw_role_at, rw_lock_at}
use Rattle.parking_lot_machine.specs.Rows.{open_at, queue_at}
use Rattle.parking_lot_machine_calls.specs.CallRoles.{first_of_all, owned_of, owns_mutex, mutex_spot, mutex_role}
use Rattle.parking_lot_machine_calls.specs.Stances.{Takes, has_begun, mutex_begun, late_act, core_act, core_next}
use Rattle.parking_lot_machine_calls.specs.Stances.{Stance, Out, In, Asleep, stance, taken_count}
use Rattle.parking_lot_core_model.specs.Places.{passed_of}
use Rattle.parking_lot_machine.specs.Passes.{ArePassed, asks}
use Rattle.parking_lot_machine.specs.RowActs.{answered, begun}
use Rattle.parking_lot_machine_calls.specs.CallActs.{hears, hold_after, kept_hold, mutex_hold_after, rw_hold_after}
use Rattle.parking_lot_machine_calls.specs.CallActs.{upgrade_hold_after}
use Rattle.parking_lot_machine.specs.RowFits.{FitsTogether, IsPrepared, KnowsList, WakesFit, is_away, is_off}
use Rattle.parking_lot_machine.specs.RowFits.{mutex_knows}
use Rattle.parking_lot_machine_calls.specs.CallKinds.{IsOfKind}
use Rattle.parking_lot_rules.specs.Holds.{shared_holds}
use Rattle.parking_lot_rules.specs.Lock.{Lock}
use Rattle.parking_lot_protocol.specs.declared.rw_phase.RwPhase.{RwPhase}
use Rattle.parking_lot_machine.specs.RwLaws.{IsLastStep, move_crossing, with_role}
use Rattle.parking_lot_machine_calls.specs.declared.seat.Wakeup.{Wakeup}
use Rattle.parking_lot_machine.specs.MutexLaws.{crossing_of, mutex_of}
use Rattle.parking_lot_machine.specs.ActLaws.{Acts, OwnsFor, MayBegin, Ends}
use Rattle.parking_lot_machine.proofs.Spinning.{unbegun_few, under_way}
use Rattle.parking_lot_machine.proofs.LotActs.{begun_fits, same_parts, ended_fits}
use Rattle.parking_lot_machine.proofs.MutexMoving.{steps}
use Rattle.parking_lot_machine.proofs.MutexRoles.{words}
use Rattle.parking_lot_machine_calls.proofs.Stancing.{calls_begin, calls_end}
use Rattle.parking_lot_machine.proofs.Meeting.{rw_sound, mutex_sound, role_few, in_range, meets, plays, plays_late}
use Rattle.parking_lot_machine.proofs.OwnMoves.{OwnMove, own_some}
use Rattle.parking_lot_machine.proofs.Ruling.{CallFits, Fitted, call_fits, rules_after, same_kind}
use Rattle.parking_lot_machine.proofs.KindTable.{Plain, RwCall, Simple, Upgradable, next_is, rw_call, rw_next}
use Rattle.parking_lot_machine.proofs.KindTable.{within_kinds, Kind, of_rws, of_mutexes, IsThere, Elsewhere}
use Rattle.parking_lot_machine.proofs.KindTable.{one_changed, role_at, role_now, role_stays, roles_at, same, shown}
use Rattle.parking_lot_machine.proofs.KindTable.{Tardy}
use Rattle.parking_lot_rules.proofs.Everybody.{get-all, was-all, length-all}
use Rattle.parking_lot_machine.proofs.Making.{Crossed, Entries, TellsOf, entries, quiet, move_sound, rw_goes, mutex_goes, RwLeadsBy}
use Rattle.parking_lot_machine.proofs.Making.{last_sound}
use Rattle.parking_lot_machine.proofs.Owning.{rw_leads, set-same}
use Rattle.parking_lot_protocol.specs.declared.mutex_phase.MutexPhase.{MutexPhase}
use Rattle.parking_lot_machine.proofs.Calling.{call_of, call-here, call-elsewhere, slot}
use Rattle.parking_lot_core_model.specs.declared.parking.ParkToken.{ParkToken}
use Rattle.parking_lot_rules.proofs.Indexed.{get-set_same, get-set_other}
use Rattle.parking_lot_machine_calls.specs.declared.seat.Hold.{Hold}
use Rattle.parking_lot_rules.specs.Clauses.{word_of}
use Rattle.parking_lot_machine_calls.specs.StanceLaws.{IsOver}
use Rattle.parking_lot_protocol.specs.declared.act.CoreAnswer.{CoreAnswer}
use Rattle.parking_lot_machine.specs.RowSteps.{IsLastOf, IsQuiet, IsRwMove}
use Rattle.parking_lot_machine.proofs.MutexTelling.{shown as shown_as}
use Rattle.parking_lot_rules.specs.Mutex as mutex
use Rattle.parking_lot_protocol.specs.declared.act.SectionAct.TheVariants as section
use Rattle.parking_lot_protocol.specs.declared.act.ActResult.TheVariants as seen
use Rattle.parking_lot_protocol.specs.RwRules as of_rw
use Rattle.parking_lot_protocol.specs.MutexRules as of_mutex
use Rattle.parking_lot_protocol.specs.MutexTable as of_mutex_table
use Rattle.parking_lot_protocol_rw.specs.declared.upgrade_phase.Hold as kept_holds
use Rattle.parking_lot_protocol_rw.specs.declared.upgrade_phase.Hold.TheVariants as keeps_up
use Rattle.parking_lot_protocol_rw.specs.declared.upgrade_phase.UpgradePhase.{UpgradePhase}
use Rattle.parking_lot_machine.proofs.RwCalls.{CallMeets, as_move, call_move}
use Rattle.parking_lot_machine.proofs.RwTells.{call_ends, call_last, call_last_own, call_started, call_starts}
use Rattle.parking_lot_rules.specs.Family as crossing
use Rattle.parking_lot_protocol.specs.declared.rw_phase.AfterWake.TheVariants as rest
use Rattle.parking_lot_protocol.specs.declared.rw_phase.Outcome.TheVariants as outcome

-- a start leaves the word
start_word : (a : Act) (word : ℕ) → word_after a seen.Start word ≡ word
start_word Act.Load w = refl
start_word (Act.Section section.Check) w = refl
start_word a w = refl

-- the place of a thread in no call
pub empty_slot : (calls : List (Option Call)) (t : ℕ) → t < length calls → call_of calls t ≡ None → slice_get calls t ≡ Some None
empty_slot calls t b h = go (slice_get calls t) refl
  where
    go : (o : Option (Option Call)) → slice_get calls t ≡ o → slice_get calls t ≡ Some None
    go None e = absurd (none-some (get_or calls t None) (sym e ∙ slice_get-get_or calls t None b))
    go (Some None) e = e
    go (Some (Some c)) e = absurd (none-some c (sym h ∙ ap (option_and_then (λ y. y)) e))

-- What a phase in which a mutex's call begins finds and knows.
begin_mutex : (v : ℕ) (us : List ℕ) (p : MutexPhase) (q : List Waiter) → mutex_begun p ≡ false
    → TellsOf (of_mutex.move v p seen.Start) us v × (crossing_of (of_mutex_table.act_of p) ≡ crossing.Stays)
    × mutex_knows (of_mutex_table.next_phase p seen.Start) q
begin_mutex v us MutexPhase.Locking q b = (tt, refl, tt)
begin_mutex v us MutexPhase.Trying q b = (tt, refl, tt)
begin_mutex v us (MutexPhase.Unlocking fair) q b = (tt, refl, tt)
begin_mutex v us MutexPhase.Bumping q b = (tt, refl, tt)
begin_mutex v us p q b = absurd (both_ways true b refl)

-- one that begins is to wake nobody
starts_as : (us : List ℕ) (p : MutexPhase) → mutex_begun p ≡ false
    → mutex_role of_mutex.Listed us (of_mutex_table.next_phase p seen.Start) ≡ of_mutex.role of_mutex.Listed
    (first_of_all us) (of_mutex_table.next_phase p seen.Start)
starts_as us MutexPhase.Locking b = refl
starts_as us MutexPhase.Trying b = refl
starts_as us (MutexPhase.Unlocking fair) b = refl
starts_as us MutexPhase.Bumping b = refl
starts_as us p b = absurd (both_ways true b refl)

out_takes : {k : ℕ} → Out ≡ In k Takes → ⊥
out_takes e = cc

module _ (s : State) (t : ℕ) (c : Call) (may : MayBegin s t c) (h : FitsTogether s) where
  abbrev us : List ℕ
  us = taken_by s.wakes t

  abbrev next : State
  next = begun s t c

  begun_here : call_at next t ≡ Some (hears c seen.Start)
  begun_here = call-here s.calls t None (Some (hears c seen.Start)) (empty_slot s.calls t may.low may.free)

  begun_others : (x : ℕ) → x ≢ t → call_at next x ≡ call_at s x
  begun_others x ne = call-elsewhere s.calls t x (Some (hears c seen.Start)) ne

  none_there : IsThere c.lock (call_at s t)
  none_there = subst (IsThere c.lock) (sym may.free) tt

  begun_elsewhere : Elsewhere c.lock s next
  begun_elsewhere = record {
    kinds = refl;
    threads = length-set s.calls t (Some (hears c seen.Start));
    words = λ i ne. refl;
    queues = λ i k ne b. refl;
    holds = λ x i ne. refl;
    calls = λ x. elim (cases_eq x t) [
      | inl e ↦ inr (subst (λ n. IsThere c.lock (call_at s n)) (sym e) none_there, subst (λ n. IsThere c.lock (call_at next n)) (sym e) (subst (IsThere c.lock) (sym begun_here) refl))
      | inr ne ↦ inl (begun_others x ne, refl)
    ];
  }

  -- AT A LOCK OF ANY KIND

  module _ {C R L : Type 0} (K : Kind C R L) where
    free_role : slice_get (roles_at K s c.lock) t ≡ Some (K.idle (hold_at s t c.lock))
    free_role = get-all (role_at K s c.lock) (length s.calls) t may.low ∙ ap Some (ap (K.role_in c.lock us (hold_at s t c.lock)) may.free ∙ K.none c.lock us (hold_at s t c.lock))

    begun_after : (q : C) → core_next c.core seen.Start ≡ K.core q → shown K next c.lock
        ≡ K.lock (word_after (core_act c.core) seen.Start (word_at s c.lock)) (slice_set (roles_at K s c.lock) t (K.plays c.others QueuePosition.Listed us q)) (queue_at s (2 * c.lock)) (queue_at s (2 * c.lock + 1))
    begun_after q e =
        same K _ _ _ _ _ _ _ _ (sym (start_word (core_act c.core) (word_at s c.lock)))
        (one_changed (role_at K s c.lock) (role_at K next c.lock) (length s.calls) (length next.calls) t _ may.low begun_elsewhere.threads (λ x ne. role_stays K s next c.lock x (begun_others x ne) refl refl)
        (role_now K next t us (hears c seen.Start) q begun_here refl e ∙ K.listed c.others us q c.spot (λ key token z. may.listed)))
        refl refl

  abbrev x : ℕ
  x = word_at s c.lock

  begin_rws : (k : RwCall) → c.core ≡ rw_call k → OwnsFor (recursive_in s.kinds c.lock) (hold_at s t c.lock) c.others
      (rw_call k) → manner_of (slice_get s.kinds c.lock) ≡ Some AsRw → Fitted s next t c seen.Start (rw_call k)
  begin_rws k e owns kind_is =
      let l = rw_lock_at s c.lock in
      let z = call_starts (recursive_in s.kinds c.lock) l t c.others c.spot us k x (hold_at s t c.lock) (entries s c.lock) owns in
      let met : CallMeets (recursive_in s.kinds c.lock) l t c.others c.spot us k x = record {
        sound = rw_sound s h c.lock kind_is;
        word = refl;
        here = free_role of_rws ∙ ap Some (sym z.role);
        stands = z.stands;
        threads = omega (arith, length-all (rw_role_at s c.lock) 0 (length s.calls), h.rules.small);
        few = λ y q at. subst (λ (z : Role). shared_holds z.owns ≤ 256) (sym (was-all (rw_role_at s c.lock) (length s.calls) y q at)) (role_few s h c.lock y (call_at s y) refl);
      } in
      let leads = rw_leads (recursive_in s.kinds c.lock) l t c.others c.spot us k x seen.Start met z.told z.finds (λ key token z. may.listed) (entries s c.lock) (entries next c.lock) z.own in
      let well = call_started (recursive_in s.kinds c.lock) l t c.others c.spot us k x (hold_at s t c.lock) c.lock s.lot.queues owns met z.told in
      let same_next = sym (next_is k seen.Start) in (
        as_move k c.others us seen.Start c.lock t s next
            (rw_goes s next t c.lock (call_move c.others us k seen.Start) us _ none_there begun_elsewhere kind_is leads.0
            (begun_after of_rws (rw_next k seen.Start)
            (ap (λ (y : Core). core_next y seen.Start) e ∙ next_is k seen.Start)
            ∙ same of_rws _ _ _ _ _ _ _ _ (ap (λ y. word_after (core_act y) seen.Start x) e) refl refl refl) leads.1
            (own_some (call_move c.others us k seen.Start) us t (entries s c.lock) (entries next c.lock) z.own)),
        subst (IsPrepared (recursive_in s.kinds c.lock) c.others) same_next well.0,
        subst (λ (y : Core). KnowsList y s.lot.queues c.lock) same_next well.1,
        h.rules.bits c.lock,
      )

  begin_mutexes : (k : MutexCore) → c.core ≡ Core.Mutex k → OwnsFor (recursive_in s.kinds c.lock) (hold_at s t c.lock)
      c.others (Core.Mutex k) → manner_of (slice_get s.kinds c.lock) ≡ Some AsMutex
      → Fitted s next t c seen.Start (Core.Mutex k)
  begin_mutexes k e owns kind_is =
      let v = first_of_all us in
      let well = begin_mutex v us k.phase (s.lot.queues (2 * c.lock)) owns.0 in
      let step = steps.begins (mutex_at s c.lock) x t v k.phase owns.0
      (record {
        sound = mutex_sound s h c.lock kind_is;
        word = sym (words.forth x (h.rules.bits c.lock kind_is));
        here = free_role of_mutexes ∙ ap Some (ap (λ (o : Bool). record { owns = o; does = mutex.Idle }) owns.2);
      }) in (
        mutex_goes s next t c.lock v us _ (of_mutex.move v k.phase seen.Start) none_there begun_elsewhere kind_is step.leads
            (begun_after of_mutexes (Plain (record k { phase = of_mutex_table.next_phase k.phase seen.Start }))
            (ap (λ (y : Core). core_next y seen.Start) e) ∙ same of_mutexes _ _ _ _ _ _ [] []
            (ap (λ y. word_after (core_act y) seen.Start x) e)
            (ap (slice_set (mutex_at s c.lock).roles t) (starts_as us k.phase owns.0)) refl refl)
            (subst (λ (y : Crossing). Crossed y t (entries s c.lock) (entries next c.lock)) (sym (step.crossing ∙ well.1)) (tt, λ b. refl)) well.0,
        owns.1,
        well.2,
        h.rules.bits c.lock,
      )

  begin_so : (y : Core) → c.core ≡ y → Fitted s next t c seen.Start y × (has_begun y ≡ false)
  begin_so (Core.Rw k) e = let owns = subst (OwnsFor (recursive_in s.kinds c.lock) (hold_at s t c.lock) c.others) e
      may.owns in (begin_rws (Simple k) e owns (subst (IsOfKind (slice_get s.kinds c.lock)) e may.kind), owns.0)
  begin_so (Core.Upgrade k) e = let owns = subst (OwnsFor (recursive_in s.kinds c.lock) (hold_at s t c.lock) c.others) e
      may.owns in (begin_rws (Upgradable k) e owns (subst (IsOfKind (slice_get s.kinds c.lock)) e may.kind), owns.0)
  begin_so (Core.LateRw p) e = absurd (subst (OwnsFor (recursive_in s.kinds c.lock) (hold_at s t c.lock) c.others) e may.owns)
  begin_so (Core.Late p) e = absurd (subst (OwnsFor (recursive_in s.kinds c.lock) (hold_at s t c.lock) c.others) e may.owns)
  begin_so (Core.Mutex k) e = let owns = subst (OwnsFor (recursive_in s.kinds c.lock) (hold_at s t c.lock) c.others) e may.owns in (begin_mutexes k e owns (subst (IsOfKind (slice_get s.kinds c.lock)) e may.kind), owns.0)

  -- TOGETHER

  calls_begun : (P : ℕ → Call → Type 0) → ((v : ℕ) (x : Call) → call_at s v ≡ Some x → P v x) → P t (hears c seen.Start) → (v : ℕ) (x : Call) → call_at next v ≡ Some x → P v x
  calls_begun P others this v x at = elim (cases_eq v t) [
    | inl q ↦ subst (λ (n : ℕ). P n x) (sym q) (subst (P t) (same_Some (hears c seen.Start) x (sym begun_here ∙ ap (call_at next) (sym q) ∙ at)) this)
    | inr ne ↦ others v x (sym (begun_others v ne) ∙ at)
  ]

  wakes_begun : WakesFit next
  wakes_begun = record {
    off = λ v by x said at is. calls_begun (λ (n : ℕ) (y : Call). y.spot ≡ QueuePosition.Off by said → (i : ℕ) × (w : Wakeup) × (slice_get s.wakes i ≡ Some w) × (w.by ≡ by) × (w.thread ≡ n))
        (λ n y at_n off. h.wakes.off n by y said at_n off) (λ off. absurd (both_ways (is_off c.spot) (ap is_off may.listed) (ap is_off off))) v x at is;
    room = h.wakes.room ∙ omega (arith, count_by-set is_away s.calls t None (Some (hears c seen.Start)) (empty_slot s.calls t may.low may.free), ap (λ (o : QueuePosition). flag (is_off o)) may.listed);
  }

  pub begins : Acts t c seen.Start s next
  begins =
      let so = begin_so c.core refl in
      let fit = so.0 in
      record {
        fits = record {
          lots = begun_fits s t c h.lots may.low may.free (calls_begin c.core).0 (calls_begin c.core).1;
          passes = λ v d k o at is there. calls_begun
              (λ (n : ℕ) (y : Call). stance y.core ≡ In k Takes → open_at s (2 * y.lock + k) ≡ Some o
              → ArePassed (asks (core_act y.core)) (s.lot.queues (2 * y.lock + k)) (passed_of o.phase))
              (λ n y at_n takes its. h.passes n y k o at_n takes its)
              (λ takes its. absurd (out_takes (sym (calls_begin c.core).0 ∙ takes))) v d at is there;
          wakes = wakes_begun;
          rules = rules_after s next c.lock h.rules (record {
            kinds = refl;
            threads = length-set s.calls t (Some (hears c seen.Start));
            holds = refl;
            words = refl;
            calls = calls_begun (λ v y. CallFits s.kinds s.lot.queues y) (call_fits s h.rules)
                (record { kind = same_kind c.core seen.Start (slice_get s.kinds c.lock) may.kind; prepared = fit.1; knows = fit.2; beside = may.beside; begun = under_way c.core seen.Start (unbegun_few c.core so.1) });
            few = h.rules.few;
            elsewhere = λ i ne. refl;
            bits = fit.3;
            sound = move_sound s next c.core c.others us seen.Start c.lock t refl fit.0 h.rules.sound;
          });
        };
        goes = fit.0;
      }

-- A call is answered: its thread owns what the answer says, and is in no call.

is_out : Stance → Bool
is_out Out = true
is_out (In key how) = false
is_out (Asleep key token) = false

-- a call that is out of lists sleeps nowhere
pub never : (b : Stance) (k : ℕ) (token : ParkToken) (A : Type 0) → b ≡ Out → b ≡ Asleep k token → A
unfolding is_out
never b k token A e f = absurd (both_ways (is_out b) (ap is_out f) (ap is_out e))

-- FEW HOLDS

same_shares : (n m : ℕ) → Hold.Shares n ≡ Hold.Shares m → n ≡ m
same_shares n m e = ap shares_in e
  where
    shares_in : Hold → ℕ
    shares_in (Hold.Shares k) = k
    shares_in Hold.Excludes = 0
    shares_in Hold.Upgrades = 0

no_shares : (m : ℕ) → Hold.Excludes ≡ Hold.Shares m → ⊥
no_shares m e = both_ways (excludes (Hold.Shares m)) refl (ap excludes (sym e))
  where
    excludes : Hold → Bool
    excludes (Hold.Shares k) = false
    excludes Hold.Excludes = true
    excludes Hold.Upgrades = true

mutex_few : (p : MutexPhase) (n : ℕ) → mutex_hold_after p ≡ Hold.Shares n → n ≤ 255
mutex_few (MutexPhase.Ends CoreAnswer.Owned) n e = absurd (no_shares n e)
mutex_few p n e = omega (arith, same_shares 0 n e)

rw_few : (k : ℕ) (p : RwPhase) (n : ℕ) → k ≤ 254 → rw_hold_after k p ≡ Hold.Shares n → n ≤ 255
rw_few k (RwPhase.Finishes rest.FreedShared) n b e = omega (arith, same_shares k n e, b)
rw_few k (RwPhase.Finishes rest.FreedExclusive) n b e = omega (arith, same_shares 0 n e)
rw_few k (RwPhase.Finishes rest.Downgraded) n b e = omega (arith, same_shares 1 n e)
rw_few k (RwPhase.Finishes rest.AgainShared) n b e = omega (arith, same_shares k n e, b)
rw_few k (RwPhase.Finishes rest.AgainExclusive) n b e = omega (arith, same_shares 0 n e)
rw_few k (RwPhase.Ends outcome.Shared) n b e = omega (arith, same_shares (k + 1) n e, b)
rw_few k (RwPhase.Ends outcome.Exclusive) n b e = absurd (no_shares n e)
rw_few k (RwPhase.Ends outcome.Downgraded) n b e = omega (arith, same_shares 1 n e)
rw_few k (RwPhase.Ends outcome.FreedShared) n b e = omega (arith, same_shares k n e, b)
rw_few k (RwPhase.Ends outcome.FreedExclusive) n b e = omega (arith, same_shares 0 n e)
rw_few k p n b e = omega (arith, same_shares k n e, b)

no_upgradable : (m : ℕ) → Hold.Upgrades ≡ Hold.Shares m → ⊥
no_upgradable m e = both_ways (upgrades (Hold.Shares m)) refl (ap upgrades (sym e))
  where
    upgrades : Hold → Bool
    upgrades (Hold.Shares k) = false
    upgrades Hold.Excludes = true
    upgrades Hold.Upgrades = true

kept_few : (kept : kept_holds.Hold) (n : ℕ) → kept_hold kept ≡ Hold.Shares n → n ≤ 255
kept_few keeps_up.Nothing n e = omega (arith, same_shares 0 n e)
kept_few keeps_up.Shared n e = omega (arith, same_shares 1 n e)
kept_few keeps_up.Upgradable n e = absurd (no_upgradable n e)
kept_few keeps_up.Exclusive n e = absurd (no_shares n e)

upgrade_few : (p : UpgradePhase) (n : ℕ) → upgrade_hold_after p ≡ Hold.Shares n → n ≤ 255
upgrade_few (UpgradePhase.Drains core) n e = absurd (no_shares n e)
upgrade_few (UpgradePhase.Owes kept end core) n e = kept_few kept n e
upgrade_few (UpgradePhase.Ends kept end) n e = kept_few kept n e
upgrade_few p n e = omega (arith, same_shares 0 n e)

-- CELLS

-- rows of cells lie one after another
rows_apart : (locks x t : ℕ) → x < t → x * locks + locks ≤ t * locks
rows_apart locks x zero h = absurd (omega (arith, h))
rows_apart locks x (suc t) h = elim (cases_lt x t) [
  | inl b ↦ omega (arith, rows_apart locks x t b, suc-mul t locks)
  | inr b ↦ subst (λ n. n * locks + locks ≤ suc t * locks) (same h b) (omega (arith, suc-mul t locks))
]
  where
    same : x < suc t → t ≤ x → t ≡ x
    same a b = omega (arith, a, b)

pub cells_apart : (locks x i t j : ℕ) → i < locks → j < locks → x * locks + i ≡ t * locks + j → (x ≡ t) × (i ≡ j)
cells_apart locks x i t j bi bj e = elim (cases_lt x t) [
  | inl b ↦ absurd (omega (arith, rows_apart locks x t b, e, bi))
  | inr b ↦ elim (cases_lt t x) [
    | inl d ↦ absurd (omega (arith, rows_apart locks t x d, e, bj))
    | inr d ↦ let same : x ≡ t = omega (arith, b, d) in (same, omega (arith, subst (λ n. n * locks + i ≡ t * locks + j) same e))
  ]
]

pub cell_within : (threads locks t j : ℕ) → t < threads → j < locks → t * locks + j < threads * locks
cell_within threads locks t j bt bj = omega (arith, rows_apart locks t threads bt, bj)

abbrev read : List Hold → ℕ → Hold
read holds at = option_map_or (λ h. h) (slice_get holds at) (Hold.Shares 0)

read_here : (holds : List Hold) (at : ℕ) (x : Hold) → at < length holds → read (slice_set holds at x) at ≡ x
read_here holds at x b =
    ap (λ o. option_map_or (λ h. h) o (Hold.Shares 0)) (get-set_same holds at (get_or holds at (Hold.Shares 0)) x (slice_get-get_or holds at (Hold.Shares 0) b))

read_elsewhere : (holds : List Hold) (at to : ℕ) (x : Hold) → to ≢ at → read (slice_set holds at x) to ≡ read holds to
read_elsewhere holds at to x ne = ap (λ o. option_map_or (λ h. h) o (Hold.Shares 0)) (get-set_other holds at to x (λ e. ne (sym e)))

module _ (s : State) (h : FitsTogether s) (t : ℕ) (c : Call) (here : call_at s t ≡ Some c) where
  abbrev u : State
  u = answered s t c

  abbrev now : Hold
  now = hold_after c.others c.core

  lock_within : c.lock < length s.kinds
  lock_within = go c.core refl
    where
      go : (x : Core) → c.core ≡ x → c.lock < length s.kinds
      go (Core.Rw k) e = within_kinds s.kinds c.lock _ (subst (IsOfKind (slice_get s.kinds c.lock)) e (h.rules.kinds t c here))
      go (Core.Mutex k) e = within_kinds s.kinds c.lock _ (subst (IsOfKind (slice_get s.kinds c.lock)) e (h.rules.kinds t c here))
      go (Core.Late p) e = within_kinds s.kinds c.lock _ (subst (IsOfKind (slice_get s.kinds c.lock)) e (h.rules.kinds t c here))
      go (Core.Upgrade k) e = within_kinds s.kinds c.lock _ (subst (IsOfKind (slice_get s.kinds c.lock)) e (h.rules.kinds t c here))
      go (Core.LateRw p) e = within_kinds s.kinds c.lock _ (subst (IsOfKind (slice_get s.kinds c.lock)) e (h.rules.kinds t c here))

  hold_here : hold_at u t c.lock ≡ now
  hold_here =
      ap (λ b. cond b (read u.holds (t * length s.kinds + c.lock)) (Hold.Shares 0)) (lt-ltb c.lock (length s.kinds) lock_within)
      ∙ read_here s.holds (t * length s.kinds + c.lock) now
      (subst (λ n. t * length s.kinds + c.lock < n) (sym h.rules.size_holds)
      (cell_within (length s.calls) (length s.kinds) t c.lock (in_range s t c here) lock_within))

  -- of any other lock, or any other thread
  hold_elsewhere : (x i : ℕ) → (x ≢ t) ⊎ (i ≢ c.lock) → hold_at u x i ≡ hold_at s x i
  hold_elsewhere x i other = elim (cases_lt i (length s.kinds)) [
    | inl b ↦ ap (λ q. cond q (read u.holds (x * length s.kinds + i)) (Hold.Shares 0)) (lt-ltb i (length s.kinds) b)
        ∙ read_elsewhere s.holds (t * length s.kinds + c.lock) (x * length s.kinds + i) now
        (λ e. let same = cells_apart (length s.kinds) x i t c.lock b lock_within e in
        elim other [ inl n ↦ n same.0 | inr n ↦ n same.1 ])
        ∙ sym (ap (λ q. cond q (read s.holds (x * length s.kinds + i)) (Hold.Shares 0)) (lt-ltb i (length s.kinds) b))
    | inr b ↦ ap (λ q. cond q (read u.holds (x * length s.kinds + i)) (Hold.Shares 0)) (beyond i b) ∙ sym (ap (λ q. cond q (read s.holds (x * length s.kinds + i)) (Hold.Shares 0)) (beyond i b))
  ]
    where
      by_test : (n : ℕ) → length s.kinds ≤ n → (b : Bool) → nat_lt n (length s.kinds) ≡ b → nat_lt n (length s.kinds) ≡ false
      by_test n le false e = e
      by_test n le true e = absurd (omega (arith, ltb-true n (length s.kinds) e, le))

      beyond : (n : ℕ) → length s.kinds ≤ n → nat_lt n (length s.kinds) ≡ false
      beyond n le = by_test n le (nat_lt n (length s.kinds)) refl

  gone : call_at u t ≡ None
  gone = call-here s.calls t (Some c) None (slot s.calls t c here)

  others_stay : (x : ℕ) → x ≢ t → call_at u x ≡ call_at s x
  others_stay x ne = call-elsewhere s.calls t x None ne

  there_before : IsThere c.lock (call_at s t)
  there_before = subst (IsThere c.lock) (sym here) refl

  ends_elsewhere : Elsewhere c.lock s u
  ends_elsewhere = record {
    kinds = refl;
    threads = length-set s.calls t None;
    words = λ i ne. refl;
    queues = λ i k ne b. refl;
    holds = λ x i ne. hold_elsewhere x i (inr ne);
    calls = λ x. elim (cases_eq x t) [
      | inl e ↦ inr (subst (λ n. IsThere c.lock (call_at s n)) (sym e) there_before, subst (λ n. IsThere c.lock (call_at u n)) (sym e) (subst (IsThere c.lock) (sym gone) tt))
      | inr ne ↦ inl (others_stay x ne, refl)
    ];
  }

  -- AT A LOCK OF ANY KIND

  ended : {C R L : Type 0} (K : Kind C R L) → shown K u c.lock ≡ K.lock (word_at s c.lock) (slice_set (roles_at K s c.lock) t (K.idle now)) (queue_at s (2 * c.lock)) (queue_at s (2 * c.lock + 1))
  ended K =
      same K _ _ _ _ _ _ _ _ refl
      (one_changed (role_at K s c.lock) (role_at K u c.lock) (length s.calls) (length u.calls) t _ (in_range s t c here)
      ends_elsewhere.threads
      (λ x ne. role_stays K s u c.lock x (others_stay x ne) refl (hold_elsewhere x c.lock (inl ne)))
      (ap (K.role_in c.lock (taken_by s.wakes t) (hold_at u t c.lock)) gone ∙ K.none c.lock (taken_by s.wakes t) (hold_at u t c.lock) ∙ ap K.idle hold_here))
      refl refl

  -- THE LAST STEP

  last_leads : (recursive : Bool) (m : of_rw.Move) (l : Lock) (x : ℕ) (old new : Role) (o : Entries)
      → l.word ≡ word_of x → slice_get l.roles t ≡ Some old → OwnMove m t o o → IsLastStep recursive m l t old x new
      → RwLeadsBy recursive m t l (with_role l x t new) × Crossed (move_crossing m) t o o
  last_leads recursive of_rw.Stays l x old new o word is moves step =
      (ap (λ w. record { word = w; roles = slice_set l.roles t new; first = l.first; second = l.second }) (sym word) ∙ ap (λ rs. record l { roles = rs }) (ap (slice_set l.roles t) step ∙ set-same l.roles t old is), moves)
  last_leads recursive (of_rw.Makes k) l x old new o word is moves step = (step, moves)
  last_leads recursive (of_rw.Joins k) l x old new o word is moves step = absurd moves
  last_leads recursive (of_rw.TakesOne k) l x old new o word is moves step = absurd moves
  last_leads recursive of_rw.TakesWriter l x old new o word is moves step = absurd moves
  last_leads recursive (of_rw.Tells k left) l x old new o word is moves step = absurd moves
  last_leads recursive of_rw.WakesOne l x old new o word is moves step = absurd moves
  last_leads recursive (of_rw.IsWoken k) l x old new o word is moves step = absurd moves

  last_tells : (v : ℕ) (us : List ℕ) (p : MutexPhase) → TellsOf (of_mutex.last_move p) us v
  last_tells v _ MutexPhase.Refuses = tt
  last_tells v _ p = tt

  -- one that has given up owns nothing, and does nothing at the lock any more
  late_last : {answer : CoreAnswer} (p : LatePhase) → c.core ≡ Core.Late p → late_act p ≡ Act.Done answer → IsQuiet s u
  late_last LatePhase.GivesUp e asked =
      quiet of_mutexes s u t c.lock there_before ends_elsewhere (subst (IsOfKind (slice_get s.kinds c.lock)) e (h.rules.kinds t c here))
      (ended of_mutexes
      ∙ same of_mutexes _ _ _ _ _ _ [] [] refl
      (ap (λ (y : Core). slice_set (roles_at of_mutexes s c.lock) t
      (record { owns = owns_mutex (hold_after c.others y); does = mutex.Idle })) e
      ∙ set-same (roles_at of_mutexes s c.lock) t mutex.away (plays_late s h t c LatePhase.GivesUp e here).here)
      refl refl)
      (λ b. refl)
  late_last LatePhase.Expires e asked = absurd cc
  late_last LatePhase.Quits e asked = absurd cc
  late_last LatePhase.Masks e asked = absurd cc
  late_last LatePhase.Leaves e asked = absurd cc
  late_last (LatePhase.WasTaken by handed) e asked = absurd cc

  module _ (answer : CoreAnswer) where
    last_rw : (k : RwCall) → c.core ≡ rw_call k → core_act (rw_call k) ≡ Act.Done answer → IsRwMove (call_last c.others k) [] c.lock t s u
    last_rw k e asked =
        let met = meets s h t c k e here in
        let kind_is = of_rws.of_kind (slice_get s.kinds c.lock) k (subst (IsOfKind (slice_get s.kinds c.lock)) e (h.rules.kinds t c here)) in
        let leads = last_leads (recursive_in s.kinds c.lock) (call_last c.others k) (rw_lock_at s c.lock) (word_at s c.lock) _ _ (entries s c.lock) refl met.here (call_last_own t c.others k (entries s c.lock))
        (call_ends (recursive_in s.kinds c.lock) (rw_lock_at s c.lock) t c.others c.spot (taken_by s.wakes t) k
        (word_at s c.lock) answer met (subst (λ (x : Core). has_begun x ≡ true) e (h.rules.begun t c here).begun)
        asked) in
        rw_goes s u t c.lock (call_last c.others k) [] _ there_before ends_elsewhere kind_is leads.0
        (ended of_rws ∙ ap
        (λ (y : Core). with_role (rw_lock_at s c.lock) (word_at s c.lock) t
        (record { owns = owned_of (hold_after c.others y); does = Idle })) e) leads.1
        (own_some (call_last c.others k) [] t (entries s c.lock) (entries s c.lock) (call_last_own t c.others k (entries s c.lock)))

    last_of : (x : Core) → c.core ≡ x → core_act x ≡ Act.Done answer → IsLastOf x c.others c.lock t s u
    last_of (Core.Rw k) e asked = last_rw (Simple k) e asked
    last_of (Core.Upgrade k) e asked = last_rw (Upgradable k) e asked
    last_of (Core.LateRw p) e asked = last_rw (Tardy p) e asked
    last_of (Core.Mutex k) e asked =
        let begun : mutex_begun k.phase ≡ true = subst (λ (x : Core). has_begun x ≡ true) e (h.rules.begun t c here).begun in
        let v = first_of_all (taken_by s.wakes t) in
        let step = steps.ends (mutex_at s c.lock) (word_at s c.lock) t v (mutex_spot c.spot) k.phase answer
        (plays s h t c k e here (λ w. let never : Act.Done answer ≡ Act.Section section.Wake = sym asked ∙ w in cc))
        begun asked in
        mutex_goes s u t c.lock v [] _ (of_mutex.last_move k.phase) there_before ends_elsewhere (subst (IsOfKind (slice_get s.kinds c.lock)) e (h.rules.kinds t c here)) step.0
        (ended of_mutexes
        ∙ ap (λ (b : Bool). mutex_of (word_at s c.lock)
        (slice_set (mutex_at s c.lock).roles t (record { owns = b; does = mutex.Idle })) (mutex_at s c.lock).queue)
        (ap (λ (y : Core). owns_mutex (hold_after c.others y)) e ∙ shown_as.ends k.phase answer begun asked))
        (subst (λ (x : Crossing). Crossed x t (entries s c.lock) (entries u c.lock)) (sym step.1) (tt, λ b. refl)) (last_tells v [] k.phase)
    last_of (Core.Late p) e asked = late_last p e asked

  -- WHAT STAYS

  calls_ended : (P : ℕ → Call → Type 0) → ((v : ℕ) (x : Call) → call_at s v ≡ Some x → P v x) → (v : ℕ) (x : Call) → call_at u v ≡ Some x → P v x
  calls_ended P others v x at = elim (cases_eq v t) [
    | inl q ↦ absurd (none-some x (sym gone ∙ ap (call_at u) (sym q) ∙ at))
    | inr ne ↦ others v x (sym (others_stay v ne) ∙ at)
  ]

  few_after : (i n : ℕ) (o : Core) → c.core ≡ o → now ≡ Hold.Shares n → n ≤ 255
  few_after i n (Core.LateRw p) e is = omega (arith, same_shares 0 n (sym (ap (hold_after c.others) e) ∙ is))
  few_after i n (Core.Late p) e is = omega (arith, same_shares 0 n (sym (ap (hold_after c.others) e) ∙ is))
  few_after i n (Core.Mutex k) e is = mutex_few k.phase n (sym (ap (hold_after c.others) e) ∙ is)
  few_after i n (Core.Upgrade k) e is = upgrade_few k.phase n (sym (ap (hold_after c.others) e) ∙ is)
  few_after i n (Core.Rw k) e is = rw_few c.others k.phase n (h.rules.beside t c here) (sym (ap (hold_after c.others) e) ∙ is)

  few_now : (x i n : ℕ) → hold_at u x i ≡ Hold.Shares n → n ≤ 255
  few_now x i n is = elim (cases_eq x t) [
    | inl q ↦ elim (cases_eq i c.lock) [
      | inl p ↦ few_after i n c.core refl (sym hold_here ∙ ap (hold_at u t) (sym p) ∙ ap (λ y. hold_at u y i) (sym q) ∙ is)
      | inr ne ↦ h.rules.few x i n (sym (hold_elsewhere x i (inr ne)) ∙ is)
    ]
    | inr ne ↦ h.rules.few x i n (sym (hold_elsewhere x i (inl ne)) ∙ is)
  ]

  module _ (answer : CoreAnswer) (asked : core_act c.core ≡ Act.Done answer) where
    out : (stance c.core ≡ Out) × (taken_count c.core ≡ 0)
    out = subst (λ (a : Act). IsOver a (stance c.core) (taken_count c.core)) asked (calls_end c.core)

    stands : (x : QueuePosition) → c.spot ≡ x → is_off c.spot ≡ false
    stands QueuePosition.Listed e = ap is_off e
    stands (QueuePosition.Off by said) e =
        let owed = h.wakes.off t by c said here e in
        let taken = h.lots.woken owed.0 owed.1 owed.2 in
        absurd (never (stance c.core) taken.key taken.token ⊥ out.0 (ap (λ (y : Call). stance y.core) (same_Some c taken.call (sym here ∙ ap (call_at s) (sym owed.4) ∙ taken.here)) ∙ taken.asleep))

    wakes_ended : WakesFit u
    wakes_ended = record {
      off = λ v by x said at is. calls_ended
          (λ (n : ℕ) (y : Call). y.spot ≡ QueuePosition.Off by said → (i : ℕ) × (w : Wakeup)
          × (slice_get s.wakes i ≡ Some w) × (w.by ≡ by) × (w.thread ≡ n))
          (λ n y at_n off. h.wakes.off n by y said at_n off) v x at is;
      room = h.wakes.room ∙ omega (arith, count_by-set is_away s.calls t (Some c) None (slot s.calls t c here), ap flag (stands c.spot refl));
    }

    pub ends : Ends t c s u
    ends =
        let moved = last_of answer c.core refl asked in
        record {
          fits = record {
            lots = same_parts (record s { calls = slice_set s.calls t None }) u refl refl refl (ended_fits s t c h.lots here out.0 out.1);
            passes = λ v d k o at is there. calls_ended
                (λ (n : ℕ) (y : Call). stance y.core ≡ In k Takes → open_at s (2 * y.lock + k) ≡ Some o
                → ArePassed (asks (core_act y.core)) (s.lot.queues (2 * y.lock + k)) (passed_of o.phase))
                (λ n y at_n takes its. h.passes n y k o at_n takes its) v d at is there;
            wakes = wakes_ended;
            rules = rules_after s u c.lock h.rules (record {
              kinds = refl;
              threads = length-set s.calls t None;
              holds = length-set s.holds (t * length s.kinds + c.lock) now;
              words = refl;
              calls = calls_ended (λ v x. CallFits s.kinds s.lot.queues x) (call_fits s h.rules);
              few = few_now;
              elsewhere = λ i ne. refl;
              bits = h.rules.bits c.lock;
              sound = last_sound s u c.core c.others c.lock t refl moved h.rules.sound;
            });
          };
          goes = moved;
        }
