-- The side of the rules is kept where one thread's call has changed.
use Rattle.std.proofs.Common.{◌≡◌, ◌≢◌, ℕ, ◌+◌, ◌*◌, ◌<◌, ◌≤◌, ◌^◌, inl, inr, List, length, Option, Some, slice_get}
use Rattle.std.proofs.Common.{sym, ap, ◌∙◌, subst, Bool, true, false}
use Rattle.std.proofs.lemmas.Bool.{cases_eq}
use Rattle.std.proofs.lemmas.List.{length-set}
use Rattle.parking_lot_core_model.specs.declared.place.Waiter.{Waiter}
use Rattle.parking_lot_protocol.specs.declared.act.ActResult.{ActResult}
use Rattle.parking_lot_machine.specs.RowFits.{upgrade_knows}
use Rattle.parking_lot_machine_calls.specs.Kinds.{AsMutex, Manner, manner_of, recursive_in, AsRw}
use Rattle.parking_lot_machine_calls.specs.declared.calls.LockKind.{LockKind}
use Rattle.parking_lot_machine_calls.specs.declared.seat.Hold.TheVariants as hold
use Rattle.parking_lot_machine_calls.specs.declared.seat.QueuePosition.{QueuePosition}
use Rattle.parking_lot_machine_calls.specs.declared.seat.LatePhase.{LatePhase}
use Rattle.parking_lot_machine_calls.specs.declared.seat.Core.{Core}
use Rattle.parking_lot_machine_calls.specs.declared.open_call.Call.{Call}
use Rattle.parking_lot_machine.specs.Rows.{State, word_at, hold_at, call_at, taken_by}
use Rattle.parking_lot_machine.specs.Rounds.{IsUnderWay}
use Rattle.parking_lot_machine.specs.RowFits.{FitsTogether, RulesFit, IsPrepared, KnowsList, mutex_knows, rw_knows}
use Rattle.parking_lot_machine_calls.specs.CallKinds.{IsOfKind, IsOfManner}
use Rattle.parking_lot_machine.specs.RowSteps.{Goes, IsMoveOf}
use Rattle.parking_lot_machine_calls.specs.Stances.{core_next, late_next, late_rw_next, resumed_as, sleeper_asleep}
use Rattle.parking_lot_machine.proofs.Making.{IsSoundState, move_sound}
use Rattle.parking_lot_machine.proofs.Calling.{call_of, calls-change, same-holds}
use Rattle.parking_lot_machine.proofs.Owning.{OwnAct, call_after}
use Rattle.parking_lot_machine.proofs.Spinning.{under_way}
use Rattle.parking_lot_machine_calls.specs.declared.late_rw.LateRwPhase.{LateRwPhase}
use Rattle.parking_lot_machine_calls.specs.declared.late_rw.RwSleeper.{RwSleeper}

-- what holds of a call on the side of the rules
pub record CallFits (kinds : List LockKind) (queues : ℕ → List Waiter) (e : Call) : Type 0 where
  pub kind : IsOfKind (slice_get kinds e.lock) e.core
  pub prepared : IsPrepared (recursive_in kinds e.lock) e.others e.core
  pub knows : KnowsList e.core queues e.lock
  pub beside : e.others ≤ 254
  pub begun : IsUnderWay e.core

-- What is to be shown of an act for that side.
pub record RulesAfter (s u : State) (j : ℕ) : Type 0 where
  pub kinds : u.kinds ≡ s.kinds
  pub threads : length u.calls ≡ length s.calls
  pub holds : length u.holds ≡ length s.holds
  pub words : length u.words ≡ length s.words
  pub calls : (v : ℕ) (e : Call) → call_at u v ≡ Some e → CallFits s.kinds u.lot.queues e
  pub few : (x i n : ℕ) → hold_at u x i ≡ hold.Shares n → n ≤ 255
  pub elsewhere : (i : ℕ) → i ≢ j → word_at u i ≡ word_at s i
  pub bits : manner_of (slice_get s.kinds j) ≡ Some AsMutex → word_at u j < 4
  pub sound : IsSoundState u

pub rules_after : (s u : State) (j : ℕ) → RulesFit s → RulesAfter s u j → RulesFit u
rules_after s u j h a = record {
  size_holds = a.holds ∙ h.size_holds ∙ ap (λ n. n * length s.kinds) (sym a.threads)
      ∙ ap (λ ks. length u.calls * length ks) (sym a.kinds);
  size_words = a.words ∙ h.size_words ∙ ap length (sym a.kinds);
  small = subst (λ n. n < 2 ^ 18) (sym a.threads) h.small;
  few_locks = subst (λ (ks : List LockKind). length ks < 2 ^ 21) (sym a.kinds) h.few_locks;
  kinds = λ v e here. subst (λ (ks : List LockKind). IsOfKind (slice_get ks e.lock) e.core) (sym a.kinds)
      (a.calls v e here).kind;
  prepared = λ v e here. subst (λ (ks : List LockKind). IsPrepared (recursive_in ks e.lock) e.others e.core)
      (sym a.kinds) (a.calls v e here).prepared;
  knows = λ v e here. (a.calls v e here).knows;
  few = a.few;
  beside = λ v e here. (a.calls v e here).beside;
  bits = λ i k. elim (cases_eq i j) [
    | inl e ↦ subst (λ n. word_at u n < 4) (sym e)
        (a.bits (sym (ap (λ n. manner_of (slice_get s.kinds n)) e) ∙ sym (ap (λ ks. manner_of (slice_get ks i)) a.kinds)
        ∙ k))
    | inr ne ↦ subst (λ n. n < 4) (sym (a.elsewhere i ne))
        (h.bits i (sym (ap (λ ks. manner_of (slice_get ks i)) a.kinds) ∙ k))
  ];
  sound = a.sound;
  begun = λ v e here. (a.calls v e here).begun;
}

-- a call that fits, as the machine has it
pub call_fits : (s : State) → RulesFit s → (v : ℕ) (e : Call) → call_at s v ≡ Some e → CallFits s.kinds s.lot.queues e
call_fits s h v e here =
    record {
      kind = h.kinds v e here;
      prepared = h.prepared v e here;
      knows = h.knows v e here;
      beside = h.beside v e here;
      begun = h.begun v e here;
    }

-- lists that stay
pub knows_same : (f g : ℕ → List Waiter) → ((key : ℕ) → g key ≡ f key) → (x : Core) (j : ℕ) → KnowsList x f j
    → KnowsList x g j
knows_same f g same (Core.Mutex k) j h = subst (mutex_knows k.phase) (sym (same (2 * j))) h
knows_same f g same (Core.Rw k) j h = subst (λ (q : List Waiter). rw_knows k.phase q (g (2 * j + 1)))
    (sym (same (2 * j))) (subst (rw_knows k.phase (f (2 * j))) (sym (same (2 * j + 1))) h)
knows_same f g same (Core.Late p) j h = tt
knows_same f g same (Core.LateRw p) j h = tt
knows_same f g same (Core.Upgrade k) j h = subst (upgrade_knows k.phase) (sym (same (2 * j))) h

late_kind : (p : LatePhase) (told : ActResult) (m : Option Manner) → m ≡ Some AsMutex → IsOfManner m (late_next p told)
late_kind LatePhase.Expires (ActResult.Woken token) m h = h
late_kind LatePhase.Quits (ActResult.Took token left) m h = h
late_kind LatePhase.Expires ActResult.Entered m h = h
late_kind LatePhase.Masks (ActResult.Before word) m h = h
late_kind LatePhase.Leaves ActResult.Made m h = h
late_kind LatePhase.GivesUp told m h = h
late_kind (LatePhase.WasTaken by handed) ActResult.Made m h = h
late_kind p told m h = h

resumed_kind : (k : RwSleeper) (handed b : Bool) (m : Option Manner) → m ≡ Some AsRw
    → IsOfManner m (resumed_as b k handed)
resumed_kind (RwSleeper.Simple c) handed true m h = h
resumed_kind (RwSleeper.Upgradable c) handed true m h = h
resumed_kind k handed false m h = h

late_rw_kind : (p : LateRwPhase) (told : ActResult) (m : Option Manner) → m ≡ Some AsRw
    → IsOfManner m (late_rw_next p told)
late_rw_kind (LateRwPhase.Expires (RwSleeper.Simple c)) (ActResult.Woken token) m h = h
late_rw_kind (LateRwPhase.Expires (RwSleeper.Upgradable c)) (ActResult.Woken token) m h = h
late_rw_kind (LateRwPhase.Expires k) ActResult.Entered m h = h
late_rw_kind (LateRwPhase.Quits k) (ActResult.Took token left) m h = h
late_rw_kind LateRwPhase.Masks (ActResult.Before word) m h = h
late_rw_kind LateRwPhase.Leaves ActResult.Made m h = h
late_rw_kind (LateRwPhase.LeavesPending from) ActResult.Made m h = h
late_rw_kind (LateRwPhase.WasTaken k by handed) ActResult.Made m h = resumed_kind k handed (sleeper_asleep k) m h
late_rw_kind p told m h = h

-- a call stays of its kind
pub same_kind : (x : Core) (told : ActResult) (k : Option LockKind) → IsOfKind k x → IsOfKind k (core_next x told)
same_kind (Core.Rw c) told k h = h
same_kind (Core.Mutex c) told k h = h
same_kind (Core.Late p) told k h = late_kind p told (manner_of k) h
same_kind (Core.LateRw p) told k h = late_rw_kind p told (manner_of k) h
same_kind (Core.Upgrade c) told k h = h

module _ (s : State) (h : FitsTogether s) (t : ℕ) (c : Call) (here : call_at s t ≡ Some c) where
  -- it fits wherever it stands, with what it knows of the lists
  pub fits_at : (queues : ℕ → List Waiter) (at : QueuePosition) → KnowsList c.core queues c.lock
      → CallFits s.kinds queues (record c { spot = at })
  fits_at queues at knows =
      record {
        kind = h.rules.kinds t c here;
        prepared = h.rules.prepared t c here;
        knows = knows;
        beside = h.rules.beside t c here;
        begun = h.rules.begun t c here;
      }

  -- and once it was told what its act gave
  pub fits_next : (told : ActResult) (queues : ℕ → List Waiter) (at : QueuePosition)
      → IsPrepared (recursive_in s.kinds c.lock) c.others (core_next c.core told)
      → KnowsList (core_next c.core told) queues c.lock
      → CallFits s.kinds queues (record c { core = core_next c.core told; spot = at })
  fits_next told queues at prepared knows = record {
    kind = same_kind c.core told (slice_get s.kinds c.lock) (h.rules.kinds t c here);
    prepared = prepared;
    knows = knows;
    beside = h.rules.beside t c here;
    begun = under_way c.core told (h.rules.begun t c here).few;
  }

-- What is left to be shown of an act by the kind of its lock: it is the move that the core's table names, the next
-- phase may rely on what it needs, and a mutex's word stays one.
abbrev pub Fitted : State → State → ℕ → Call → ActResult → Core → Type 0
Fitted s u t c told x =
    IsMoveOf x c.others (taken_by s.wakes t) told c.lock t s u × IsPrepared (recursive_in s.kinds c.lock) c.others
    (core_next x told) × KnowsList (core_next x told) u.lot.queues c.lock
    × (manner_of (slice_get s.kinds c.lock) ≡ Some AsMutex → word_at u c.lock < 4)

module _ (s u : State) (t : ℕ) (c : Call) (told : ActResult) (at : QueuePosition)
    (a : OwnAct s u t c told (core_next c.core told) at) (h : FitsTogether s) where
  pub rules_own : ((v : ℕ) (e : Call) → v ≢ t → call_at s v ≡ Some e → KnowsList e.core u.lot.queues e.lock)
      → Fitted s u t c told c.core → RulesFit u × Goes t c told s u
  rules_own others fit = (
    rules_after s u c.lock h.rules (record {
      kinds = a.kinds;
      threads = ap length a.calls ∙ length-set s.calls t (Some (call_after s u t c told _ at a));
      holds = ap length a.holds;
      words = a.sizes;
      calls = λ v e is. calls-change (λ x f. CallFits s.kinds u.lot.queues f) s.calls t c
          (call_after s u t c told _ at a) a.here
          (λ x f ne here. fits_at s h x f here u.lot.queues f.spot (others x f ne here))
          (fits_next s h t c a.here told u.lot.queues at fit.1 fit.2)
          v e (sym (ap (λ cs. call_of cs v) a.calls) ∙ is);
      few = λ x i n e. h.rules.few x i n (sym (same-holds s u a.kinds a.holds x i) ∙ e);
      elsewhere = a.words;
      bits = fit.3;
      sound = move_sound s u c.core c.others (taken_by s.wakes t) told c.lock t a.buckets fit.0 h.rules.sound;
    }),
    fit.0,
  )
