-- A call at a mutex that is over, and owns it not, may be made again.
use Rattle.std.proofs.Common.{◌≡◌, ℕ, ◌<◌, Bool, true, false, ◌&&◌, is_none, length, Option, Some, None, slice_get}
use Rattle.std.proofs.Common.{refl, sym, ap, ◌∙◌, subst}
use Rattle.std.proofs.lemmas.List.{length-set}
use Rattle.std.proofs.lemmas.Bool.{lt-ltb}
use Rattle.std.proofs.lemmas.Option.{same_Some}
use Rattle.parking_lot_protocol.specs.declared.act.Act.TheVariants as act
use Rattle.parking_lot_protocol.specs.declared.act.CoreAnswer.{CoreAnswer}
use Rattle.parking_lot_protocol.specs.declared.act.CoreAnswer.TheVariants as answer
use Rattle.parking_lot_protocol.specs.declared.mutex_phase.MutexPhase.{MutexPhase}
use Rattle.parking_lot_protocol.specs.declared.mutex_phase.MutexPhase.TheVariants as m
use Rattle.parking_lot_machine_calls.specs.declared.calls.LockCall.TheVariants as call
use Rattle.parking_lot_machine_calls.specs.declared.calls.LockKind.{LockKind}
use Rattle.parking_lot_machine_calls.specs.declared.open_call.Call.{Call}
use Rattle.parking_lot_machine_calls.specs.declared.seat.Core.{Core}
use Rattle.parking_lot_machine_calls.specs.declared.seat.Core.TheVariants as core
use Rattle.parking_lot_machine_calls.specs.Beginnings.{owns_nothing}
use Rattle.parking_lot_machine_calls.specs.Calls.{manner_for}
use Rattle.parking_lot_machine_calls.specs.Kinds.{AsMutex, is_manner, manner_of}
use Rattle.parking_lot_machine.specs.Machines.{IsStepped, may_begin}
use Rattle.parking_lot_machine.specs.RowActs.{answered}
use Rattle.parking_lot_machine_calls.specs.CallActs.{hold_after}
use Rattle.parking_lot_machine.specs.RowFits.{FitsTogether}
use Rattle.parking_lot_machine_calls.specs.CallKinds.{IsOfKind}
use Rattle.parking_lot_machine.specs.Rows.{State, call_at}
use Rattle.parking_lot_machine_calls.specs.Stances.{core_act}
use Rattle.parking_lot_rules.proofs.Slots.{set_there}
use Rattle.parking_lot_machine_sides.proofs.CondvarFacts.Slots.{within}
use Rattle.parking_lot_machine_waits.specs.Joint.{call_enters}
use Rattle.parking_lot_machine_waits.specs.JointSteps.{is_owned}
use Rattle.parking_lot_machine_waits.specs.Turns.{is_at_mutex}
use Rattle.parking_lot_machine_waits.proofs.Ending.{owned_after}
use Rattle.parking_lot_machine_waits.proofs.Places.{Goes, Over, stepped_goes}

-- what is known of a mutex's call that is over, and owns it not
owns_none : (n : ℕ) (c : Core) (a : CoreAnswer) → is_at_mutex c ≡ true → core_act c ≡ act.Done a → is_owned a ≡ false
    → owns_nothing (hold_after n c) ≡ true
owns_none n (core.Late p) a at asks loses = refl
owns_none n (core.Mutex k) a at asks loses = by_phase k.phase refl
  where
    by_answer : (b : CoreAnswer) → k.phase ≡ m.Ends b → owns_nothing (hold_after n (core.Mutex k)) ≡ true
    by_answer answer.Owned e = absurd cc
    by_answer answer.Refused e =
        ap (λ (p : MutexPhase). owns_nothing (hold_after n (core.Mutex (record { phase = p })))) e
    by_answer answer.Released e =
        ap (λ (p : MutexPhase). owns_nothing (hold_after n (core.Mutex (record { phase = p })))) e

    by_phase : (p : MutexPhase) → k.phase ≡ p → owns_nothing (hold_after n (core.Mutex k)) ≡ true
    by_phase (m.Ends b) e = by_answer b e
    by_phase p e = ap (λ (q : MutexPhase). owns_nothing (hold_after n (core.Mutex (record { phase = q })))) e
owns_none n (core.Rw k) a at asks loses = absurd cc
owns_none n (core.Upgrade k) a at asks loses = absurd cc
owns_none n (core.LateRw p) a at asks loses = absurd cc

of_mutex : (k : Option LockKind) (c : Core) → is_at_mutex c ≡ true → IsOfKind k c → manner_of k ≡ Some AsMutex
of_mutex k (core.Late p) at is = is
of_mutex k (core.Mutex c) at is = is
of_mutex k (core.Rw c) at is = absurd cc
of_mutex k (core.Upgrade c) at is = absurd cc
of_mutex k (core.LateRw p) at is = absurd cc

both : (a b : Bool) → a ≡ true → b ≡ true → (a && b) ≡ true
both true b x y = y
both false b x y = absurd cc

module _ (s : State) (t : ℕ) (c : Call) (a : CoreAnswer) (h : FitsTogether s) (here : call_at s t ≡ Some c)
    (at : is_at_mutex c.core ≡ true) (asks : core_act c.core ≡ act.Done a) (loses : is_owned a ≡ false) where
  manner : manner_of (slice_get s.kinds c.lock) ≡ Some AsMutex
  manner = of_mutex (slice_get s.kinds c.lock) c.core at (h.rules.kinds t c here)

  low : t < length s.calls
  low = within s.calls t c here

  nobody : is_none (call_at (answered s t c) t) ≡ true
  nobody = ap (λ (o : Option Call). is_none o) (set_there s.calls t None low)

  pub may_again : may_begin (answered s t c) t c.lock call.Lock ≡ true
  may_again = both _ _ (lt-ltb t _ (subst (λ n. t < n) (sym (length-set s.calls t None)) low))
      (both _ _ nobody (both _ _ (ap (λ k. is_manner k (manner_for call.Lock)) manner)
      (ap owns_nothing (owned_after s t c h here) ∙ owns_none c.others c.core a at asks loses)))

-- A number whose call at a mutex is over, and that owns it not, may ask for it again.
pub asks_again : (s u : State) (t : ℕ) (fair : Bool) (a : CoreAnswer) (c : Call) (answer : Option CoreAnswer)
    → FitsTogether s → call_at s t ≡ Some c → is_at_mutex c.core ≡ true → is_owned a ≡ false
    → answer ≡ Some a → IsStepped t fair answer s u → may_begin u t c.lock call.Lock ≡ true
asks_again s u t fair a c answer h here at loses is x =
    let over : Over t a s u = subst (λ (b : Option CoreAnswer). Goes b (call_enters s.lot.buckets x.call) t s u) is
    (stepped_goes s u t fair answer h x) in
    let same : c ≡ over.call = same_Some c over.call (sym here ∙ over.here) in
    subst (λ (d : Call). may_begin u t d.lock call.Lock ≡ true) (sym same)
    (subst (λ (v : State). may_begin v t over.call.lock call.Lock ≡ true) (sym over.became)
    (may_again s t over.call a h over.here (ap (λ (d : Call). is_at_mutex d.core) (sym same) ∙ at) over.asks loses))
