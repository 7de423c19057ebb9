-- A deadline that comes leaves all but its thread's place in its call.
use Rattle.std.proofs.Common.{◌≡◌, ◌≢◌, ℕ, inl, inr, ◌&&◌, Bool, true, false, length, Some, slice_set, refl}
use Rattle.std.proofs.Common.{sym, ap, ◌∙◌, subst}
use Rattle.std.specs.List.{All}
use Rattle.std.specs.Option.{option_map}
use Rattle.parking_lot_machine_calls.specs.declared.calls.LockKind.TheVariants as kind
use Rattle.std.proofs.lemmas.Bool.{cases_eq, false≢true}
use Rattle.std.proofs.lemmas.List.{length-set}
use Rattle.std.proofs.lemmas.Option.{same_Some}
use Rattle.parking_lot_rules.proofs.Slots.{set_elsewhere, set_here}
use Rattle.parking_lot_rules.specs.Any.{AnyLock, Rw}
use Rattle.parking_lot_rules.specs.Lock.{Lock}
use Rattle.parking_lot_rules.specs.Owners.{owners}
use Rattle.parking_lot_machine.specs.CallLaws.Answers.{MayStand}
use Rattle.parking_lot_machine.specs.CallLaws.Stages.{core_stage, stage_of}
use Rattle.parking_lot_machine.specs.Machines.{IsExpired, may_expire, may_expire_in}
use Rattle.parking_lot_machine.specs.RowFits.{IsPrepared}
use Rattle.parking_lot_machine.specs.Rows.{Rows, State, call_at, lock_at, queue_at, rw_lock_at, state, word_at}
use Rattle.parking_lot_machine.specs.SoundLaws.{HasSameOwners, StepsAreCases}
use Rattle.parking_lot_machine.proofs.CallLawsFacts.Heard.{late_quits}
use Rattle.parking_lot_machine.proofs.CallLawsFacts.Standing.{stands_late}
use Rattle.parking_lot_machine_calls.specs.Calls.{is_timed}
use Rattle.parking_lot_machine_calls.specs.Kinds.{recursive_in}
use Rattle.parking_lot_machine_calls.specs.LateCalls.{late_of, sleeps_in_time}
use Rattle.parking_lot_machine_calls.specs.declared.open_call.Call.{Call}
use Rattle.parking_lot_machine_calls.specs.declared.seat.Core.{Core}
use Rattle.mapworld_state.specs.Locks.Fits.{IsPlain, LocksFit, is_plain, is_single}
use Rattle.mapworld_state.specs.Locks.Stands.{is_of_shards, stand_of}
use Rattle.mapworld_state.specs.Locks.Steps.{LockExpires}
use Rattle.mapworld_state.specs.Locks.Views.{Shown, held_as, held_at}
use Rattle.mapworld_state.proofs.LocksFacts.Beginning.{same_holds}
use Rattle.mapworld_state.proofs.LocksFacts.Giving.{yields_awake}
use Rattle.mapworld_state.proofs.LocksFacts.Handing.{held_is, is_rw}
use Rattle.mapworld_state.proofs.LocksFacts.Owning.{owned_in}

-- one that sleeps in time goes on behind its deadline as a call of a shard's lock
late_plain : (recursive : Bool) (n : ℕ) (k : Core) → is_plain true k ≡ true → IsPrepared recursive n k
    → sleeps_in_time k ≡ true → is_plain true (late_of k) ≡ true
late_plain recursive n (Core.Rw c) so ready asleep = refl
late_plain recursive n (Core.Mutex c) so ready asleep = refl
late_plain recursive n (Core.Late p) so ready asleep = refl
late_plain recursive n (Core.LateRw p) so ready asleep = so
late_plain recursive n (Core.Upgrade c) so ready asleep =
    absurd (false≢true (sym (yields_awake c.phase so ready.1) ∙ asleep))

-- it has a deadline, and sleeps
both_so : (a b : Bool) → a && b ≡ true → (a ≡ true) × (b ≡ true)
both_so true b e = (refl, e)
both_so false b e = absurd (false≢true e)

owners_so : (a b : AnyLock) (l m : Lock) → a ≡ Rw l → b ≡ Rw m → HasSameOwners a b → owners m ≡ owners l
owners_so a b l m e f same =
    subst (λ (y : AnyLock). HasSameOwners (Rw l) y) f (subst (λ (x : AnyLock). HasSameOwners x b) e same)

module _ (laws : StepsAreCases) (old : Shown) (fit : LocksFit old) (t : ℕ) (rows : Rows)
    (x : IsExpired t (state old.rows) (state rows)) (may : may_expire (state old.rows) t ≡ true) where
  abbrev s : State
  s = state old.rows

  abbrev u : State
  u = state rows

  abbrev c : Call
  c = x.call

  abbrev d : Call
  d = record c { core = late_of c.core }

  abbrev new : Shown
  new = record { rows = rows; desks = old.desks }

  has_deadline : (is_timed c.asked ≡ true) × (sleeps_in_time c.core ≡ true)
  has_deadline = both_so (is_timed c.asked) (sleeps_in_time c.core) (sym (ap may_expire_in x.here) ∙ may)

  calls_are : u.calls ≡ slice_set s.calls t (Some d)
  calls_are = ap (λ (w : State). w.calls) x.became

  count : length u.calls ≡ length s.calls
  count = ap length calls_are ∙ length-set s.calls t (Some d)

  kinds_same : u.kinds ≡ s.kinds
  kinds_same = ap (λ (w : State). w.kinds) x.became

  here : call_at u t ≡ Some d
  here = ap (λ (w : State). call_at w t) x.became ∙ set_here s.calls t c (Some d) x.here

  apart : (v : ℕ) → v ≢ t → call_at u v ≡ call_at s v
  apart v ne = ap (λ (w : State). call_at w v) x.became ∙ set_elsewhere s.calls t v (Some d) ne

  -- what is so of its call now, and of all others that it was so of, is so of all
  all_so : (P : Call → Type 0) → P d → ((v : ℕ) (e : Call) → call_at s v ≡ Some e → P e) → (v : ℕ) (e : Call)
      → call_at u v ≡ Some e → P e
  all_so P mine rest v e at = elim (cases_eq v t) [
    | inl is ↦ subst P (same_Some d e (sym here ∙ ap (call_at u) (sym is) ∙ at)) mine
    | inr ne ↦ rest v e (sym (apart v ne) ∙ at)
  ]

  core_now : is_plain (is_timed c.asked) (late_of c.core) ≡ true
  core_now =
      ap (λ b. is_plain b (late_of c.core)) has_deadline.0
      ∙ late_plain (recursive_in s.kinds c.lock) c.others c.core
      (ap (λ b. is_plain b c.core) (sym has_deadline.0) ∙ fit.plain.cores t c x.here)
      (fit.fits.rules.prepared t c x.here) has_deadline.1

  stands_now : MayStand 0 (stage_of c.asked) (is_timed c.asked) (core_stage 0 (late_of c.core))
  stands_now =
      subst (λ b. MayStand 0 (stage_of c.asked) b (core_stage 0 (late_of c.core))) (sym has_deadline.0)
      (subst (MayStand 0 (stage_of c.asked) true) (sym (late_quits 0 c.core has_deadline.1))
      (stands_late 0 (stage_of c.asked) (core_stage 0 c.core) (is_timed c.asked) (fit.plain.stands t c x.here)))

  plain : IsPlain u
  plain = record {
    kinds = subst (All (λ k. k ≡ kind.Rw)) (sym kinds_same) fit.plain.kinds;
    single = subst (All (λ h. is_single h ≡ true)) (sym (ap (λ (w : State). w.holds) x.became)) fit.plain.single;
    alone = all_so (λ e. e.others ≡ 0) (fit.plain.alone t c x.here) fit.plain.alone;
    cores = all_so (λ e. is_plain (is_timed e.asked) e.core ≡ true) core_now fit.plain.cores;
    asked = all_so (λ e. is_of_shards e.asked ≡ true) (fit.plain.asked t c x.here) fit.plain.asked;
    stands = all_so (λ e. MayStand 0 (stage_of e.asked) (is_timed e.asked) (core_stage 0 e.core)) stands_now
        fit.plain.stands;
  }

  holds : (v i : ℕ) → held_at u i v ≡ held_at s i v
  holds v i = held_is u plain.kinds i v
      ∙ ap (λ o. held_as (owned_in o.threads v))
      (owners_so (lock_at s i) (lock_at u i) (rw_lock_at s i) (rw_lock_at u i) (is_rw s fit.plain.kinds i)
      (is_rw u plain.kinds i) (laws.deadline_moves_nobody s u t fit.fits x i))
      ∙ sym (held_is s fit.plain.kinds i v)

  pub expired_fit : LocksFit new
  expired_fit = same_holds old fit rows x.lawful.fits plain kinds_same count holds

  pub expires : LockExpires t old new
  expires = record {
    stand = stand_of c;
    stood = ap (option_map stand_of) x.here;
    timed = has_deadline.0;
    may = may;
    call = c;
    here = x.here;
    became = x.became;
    whole = record { threads = count; kinds = kinds_same };
    desks = refl;
    words = λ i. ap (λ (w : State). word_at w i) x.became;
    queues = λ key. ap (λ (w : State). queue_at w key) x.became;
    stands = λ v. elim (cases_eq v t) [
      | inl is ↦ ap (λ n. option_map stand_of (call_at u n)) is ∙ ap (option_map stand_of) here
          ∙ sym (ap (λ n. option_map stand_of (call_at s n)) is ∙ ap (option_map stand_of) x.here)
      | inr ne ↦ ap (option_map stand_of) (apart v ne)
    ];
    holds = holds;
  }
