-- What is left of a number whose call at a mutex is over, and what a call is for that has begun, or that was moved
-- there.
use Rattle.std.proofs.Common.{◌≡◌, ◌⊎◌, inl, inr, ℕ, ◌+◌, ◌*◌, ◌<◌, Bool, true, false, not, cond, length, Some, None}
use Rattle.std.proofs.Common.{option_map, slice_get, slice_set, refl, sym, ap, ◌∙◌, subst, arith}
use Rattle.std.specs.Option.{option_map_or}
use Rattle.std.proofs.lemmas.Bool.{lt-ltb}
use Rattle.std.proofs.lemmas.Nat.{mul-add-lt}
use Rattle.std.proofs.lemmas.Option.{same_Some}
use Rattle.parking_lot_protocol.specs.declared.act.Act.{Act}
use Rattle.parking_lot_protocol.specs.declared.act.CoreAnswer.{CoreAnswer}
use Rattle.parking_lot_protocol.specs.declared.mutex_phase.MutexPhase.{MutexPhase}
use Rattle.parking_lot_protocol.specs.MutexTable.{act_of}
use Rattle.parking_lot_rules.proofs.Indexed.{get-set_same}
use Rattle.parking_lot_machine_sides.proofs.CondvarFacts.Slots.{call_here, has_slot, within}
use Rattle.parking_lot_machine_calls.specs.declared.calls.LockCall.{LockCall}
use Rattle.parking_lot_machine_calls.specs.declared.open_call.Call.{Call}
use Rattle.parking_lot_machine_calls.specs.declared.seat.Core.{Core}
use Rattle.parking_lot_machine_calls.specs.declared.seat.Hold.{Hold}
use Rattle.parking_lot_machine_calls.specs.declared.seat.LatePhase.{LatePhase}
use Rattle.parking_lot_machine_calls.specs.Beginnings.{excludes, owns_nothing}
use Rattle.parking_lot_machine_calls.specs.LateCalls.{late_of}
use Rattle.parking_lot_machine.specs.Machines.{IsBegun, IsExpired}
use Rattle.parking_lot_machine.specs.Requeues.{IsRousedIn, IsTakenIn}
use Rattle.parking_lot_machine.specs.RowActs.{answered}
use Rattle.parking_lot_machine_calls.specs.CallActs.{hold_after, mutex_hold_after}
use Rattle.parking_lot_machine.specs.RowFits.{FitsTogether}
use Rattle.parking_lot_machine.specs.Rows.{State, call_at, hold_at}
use Rattle.parking_lot_machine_calls.specs.Stances.{core_act, late_act}
use Rattle.parking_lot_machine_waits.specs.Whole.{Away, IsIn, IsSo, Owns, asks, asks_on, gives, phase_asks, phase_gives}
use Rattle.parking_lot_machine_waits.specs.Whole.{place_of}
use Rattle.parking_lot_machine_waits.proofs.LocksKept.{lock_low}
use Rattle.parking_lot_machine_waits.proofs.Places.{Over}

-- BY THE LAST PHASE

finished : (again : Bool) (a : CoreAnswer) → cond again Act.Load (Act.Done CoreAnswer.Released) ≡ Act.Done a
    → not again ≡ true → a ≡ CoreAnswer.Released
finished true a e f = absurd cc
finished false a e f = cc

phase_gave : (p : MutexPhase) (a : CoreAnswer) → act_of p ≡ Act.Done a → phase_gives p ≡ true
    → (a ≡ CoreAnswer.Released) × (owns_nothing (mutex_hold_after p) ≡ true)
phase_gave (MutexPhase.Finishes g) a e f = (finished g.again a e f, refl)
phase_gave (MutexPhase.Ends CoreAnswer.Released) a e f = (cc, refl)
phase_gave p a e f = absurd cc

phase_got : (p : MutexPhase) (a : CoreAnswer) → act_of p ≡ Act.Done a → phase_asks p ≡ true → (a ≡ CoreAnswer.Owned)
    × (excludes (mutex_hold_after p) ≡ true)
phase_got (MutexPhase.Ends CoreAnswer.Owned) a e f = (cc, refl)
phase_got p a e f = absurd cc

core_gave : (c : Core) (n : ℕ) (a : CoreAnswer) → core_act c ≡ Act.Done a → gives c ≡ true → (a ≡ CoreAnswer.Released)
    × (owns_nothing (hold_after n c) ≡ true)
core_gave (Core.Mutex k) n a e f = phase_gave k.phase a e f
core_gave c n a e f = absurd cc

core_got : (c : Core) (n : ℕ) (a : CoreAnswer) → core_act c ≡ Act.Done a → asks_on c ≡ true → (a ≡ CoreAnswer.Owned)
    × (excludes (hold_after n c) ≡ true)
core_got (Core.Mutex k) n a e f = phase_got k.phase a e f
core_got c n a e f = absurd cc

late_refused : (p : LatePhase) (a : CoreAnswer) → late_act p ≡ Act.Done a → a ≡ CoreAnswer.Refused
late_refused LatePhase.GivesUp a e = cc
late_refused p a e = absurd cc

-- one that may be giving up by its deadline
abbrev GotOrNot : CoreAnswer → Hold → Type 0
GotOrNot a h = ((a ≡ CoreAnswer.Owned) × (excludes h ≡ true)) ⊎ ((a ≡ CoreAnswer.Refused) × (owns_nothing h ≡ true))

core_asked : (c : Core) (n : ℕ) (a : CoreAnswer) → core_act c ≡ Act.Done a → asks c ≡ true → GotOrNot a (hold_after n c)
core_asked (Core.Mutex k) n a e f = inl (phase_got k.phase a e f)
core_asked (Core.Late p) n a e f = inr (late_refused p a e, refl)
core_asked c n a e f = absurd cc

-- ONE WHOSE CALL IS OVER

-- what it owns of its lock then
pub owned_after : (s : State) (t : ℕ) (c : Call) → FitsTogether s → call_at s t ≡ Some c
    → hold_at (answered s t c) t c.lock ≡ hold_after c.others c.core
owned_after s t c fits here =
    let lock = lock_low s t c fits here in
    let there = has_slot s.holds (t * length s.kinds + c.lock)
    (omega (
      arith,
      mul-add-lt t (length s.kinds) c.lock (length s.calls) (within s.calls t c here) lock,
      fits.rules.size_holds,
    )) in
    ap (λ b. cond b (option_map_or (λ (h : Hold). h) (slice_get (answered s t c).holds (t * length s.kinds + c.lock))
    (Hold.Shares 0)) (Hold.Shares 0)) (lt-ltb c.lock (length s.kinds) lock)
    ∙ ap (λ o. option_map_or (λ (h : Hold). h) o (Hold.Shares 0))
    (get-set_same s.holds (t * length s.kinds + c.lock) there.0 (hold_after c.others c.core) there.1)

module _ (s u : State) (t : ℕ) (a : CoreAnswer) (fits : FitsTogether s) (x : Over t a s u) where
  low : t < length s.calls
  low = within s.calls t x.call x.here

  gone : place_of u t ≡ None
  gone = ap (λ (v : State). place_of v t) x.became ∙ ap (option_map (λ (c : Call). c.lock))
      (call_here s.calls t None low)

  owned : hold_at u t x.call.lock ≡ hold_after x.call.others x.call.core
  owned = ap (λ (v : State). hold_at v t x.call.lock) x.became ∙ owned_after s t x.call fits x.here

  -- what is said of its core, and of what it owns at its lock
  same_core : (sort : Core → Bool) (m : ℕ) → IsIn sort s t m → sort x.call.core ≡ true
  same_core sort m y = ap (λ (c : Call). sort c.core) (same_Some x.call y.call (sym x.here ∙ y.here)) ∙ y.is

  owned_at : (sort : Core → Bool) (m : ℕ) → IsIn sort s t m → hold_at u t m ≡ hold_after x.call.others x.call.core
  owned_at sort m y =
      ap (hold_at u t) (sym (ap (λ (c : Call). c.lock) (same_Some x.call y.call (sym x.here ∙ y.here)) ∙ y.lock))
      ∙ owned

  -- It gave the mutex up.
  pub gave : (m : ℕ) → IsIn gives s t m → (a ≡ CoreAnswer.Released) × IsSo Away u t m
  gave m y = let end = core_gave x.call.core x.call.others a x.asks (same_core gives m y) in
      (end.0, (gone, ap owns_nothing (owned_at gives m y) ∙ end.1))

  -- It asked for it, and has it.
  pub got : (m : ℕ) → IsIn asks_on s t m → (a ≡ CoreAnswer.Owned) × IsSo Owns u t m
  got m y = let end = core_got x.call.core x.call.others a x.asks (same_core asks_on m y) in
      (end.0, (gone, ap excludes (owned_at asks_on m y) ∙ end.1))

  -- Or it gave up by its deadline.
  pub got_or_not : (m : ℕ) → IsIn asks s t m → ((a ≡ CoreAnswer.Owned) × IsSo Owns u t m)
      ⊎ ((a ≡ CoreAnswer.Refused) × IsSo Away u t m)
  got_or_not m y = go (core_asked x.call.core x.call.others a x.asks (same_core asks m y))
    where
      go : GotOrNot a (hold_after x.call.others x.call.core) → ((a ≡ CoreAnswer.Owned) × IsSo Owns u t m)
          ⊎ ((a ≡ CoreAnswer.Refused) × IsSo Away u t m)
      go (inl e) = inl (e.0, (gone, ap excludes (owned_at asks m y) ∙ e.1))
      go (inr e) = inr (e.0, (gone, ap owns_nothing (owned_at asks m y) ∙ e.1))

-- ONE WHOSE CALL IS WRITTEN

module _ (s u : State) (t : ℕ) where
  written : (sort : Core → Bool) (c : Call) → u.calls ≡ slice_set s.calls t (Some c) → t < length s.calls
      → sort c.core ≡ true → IsIn sort u t c.lock
  written sort c e low is =
      record {
        call = c;
        here = ap (λ cs. call_at (record u { calls = cs }) t) e ∙ call_here s.calls t (Some c) low;
        lock = refl;
        is = is;
      }

  -- It begins to give a mutex up, or to ask for it.
  pub begun_giving : (lock : ℕ) → IsBegun t lock LockCall.Unlock s u → t < length s.calls → IsIn gives u t lock
  begun_giving lock x low = written gives _ (ap (λ (v : State). v.calls) x.became) low refl

  pub begun_asking : (lock : ℕ) → IsBegun t lock LockCall.Lock s u → t < length s.calls → IsIn asks_on u t lock
  begun_asking lock x low = written asks_on _ (ap (λ (v : State). v.calls) x.became) low refl

  -- It was moved into the list of the mutex, or woken to ask for it.
  pub taken_asking : (lock : ℕ) (timed : Bool) → IsTakenIn t lock timed s u → t < length s.calls → IsIn asks u t lock
  taken_asking lock timed x low = written asks _ (ap (λ (v : State). v.calls) x.became) low refl

  pub roused_asking : (lock : ℕ) (timed : Bool) → IsRousedIn t lock timed s u → t < length s.calls → IsIn asks u t lock
  roused_asking lock timed x low = written asks _ (ap (λ (v : State). v.calls) x.became) low refl

  -- Its moment has passed: it may have asked, and does so still.
  late_asks : (c : Core) → asks c ≡ true → asks (late_of c) ≡ true
  late_asks (Core.Mutex k) e = refl
  late_asks (Core.Late p) e = refl
  late_asks c e = absurd cc

  pub expired_asking : (m : ℕ) → IsExpired t s u → IsIn asks s t m → IsIn asks u t m
  expired_asking m x y =
      let same = same_Some y.call x.call (sym y.here ∙ x.here) in
      let late = written asks (record x.call { core = late_of x.call.core }) (ap (λ (v : State). v.calls) x.became)
      (within s.calls t x.call x.here) (late_asks x.call.core (ap (λ (c : Call). asks c.core) (sym same) ∙ y.is)) in
      subst (λ (n : ℕ). IsIn asks u t n) (ap (λ (c : Call). c.lock) (sym same) ∙ y.lock) late
