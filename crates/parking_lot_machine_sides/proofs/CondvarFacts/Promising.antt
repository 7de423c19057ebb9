-- What holds at every moment, in plain words, and that replies fit their calls.
use Rattle.std.proofs.Common.{◌≡◌, ℕ, ◌+◌, ◌<◌, ◌≤◌, ◌⊎◌, inl, inr, ◌&&◌, ◌||◌, Bool, true, false, not, nat_lt, length}
use Rattle.std.proofs.Common.{Option, Some, None, is_none, refl, sym, ap, ◌∙◌, subst, arith}
use Rattle.std.proofs.lemmas.Option.{none-some, same_Some}
use Rattle.std.specs.Option.{option_map_or}
use Rattle.parking_lot_protocol_waits.specs.declared.wait_act.WaitAnswer.{WaitAnswer}
use Rattle.parking_lot_protocol_waits.specs.declared.wait_act.WaitAnswer.TheVariants as answer
use Rattle.parking_lot_protocol_waits.specs.declared.wait_core.WaitPhase.{WaitPhase}
use Rattle.parking_lot_protocol_waits.specs.declared.wait_core.WaitPhase.TheVariants as w
use Rattle.parking_lot_protocol_waits.specs.declared.notify_core.NotifyPhase.{NotifyPhase}
use Rattle.parking_lot_protocol_waits.specs.declared.notify_core.NotifyPhase.TheVariants as n
use Rattle.parking_lot_machine_sides.specs.declared.condvar.calls.CondvarCall.{CondvarCall}
use Rattle.parking_lot_machine_sides.specs.declared.condvar.calls.CondvarCall.TheVariants.{Wait, WaitUntil, NotifyOne}
use Rattle.parking_lot_machine_sides.specs.declared.condvar.calls.CondvarCall.TheVariants.{NotifyAll}
use Rattle.parking_lot_machine_sides.specs.declared.condvar.calls.CondvarReply.{CondvarReply}
use Rattle.parking_lot_machine_sides.specs.declared.condvar.calls.CondvarReply.TheVariants as reply
use Rattle.parking_lot_machine_sides.specs.declared.condvar.open_call.Core.{Core}
use Rattle.parking_lot_machine_sides.specs.declared.condvar.open_call.Core.TheVariants as core
use Rattle.parking_lot_machine_sides.specs.Condvar.Calls.{OpenCall, is_of_all, is_timed, notify_reply, reply_by}
use Rattle.parking_lot_machine_sides.specs.Condvar.Calls.{reply_in_notify, reply_in_wait, wait_reply}
use Rattle.parking_lot_machine_sides.specs.Condvar.Fitting.{EndsInTime, Fits, IsNotify, IsWait, Knows, NotifyKnows}
use Rattle.parking_lot_machine_sides.specs.Condvar.Fitting.{TakesFew, WaitKnows, is_the}
use Rattle.parking_lot_machine_sides.specs.Condvar.MachineLaws.{IsElsewhere, IsSoundMachine, MayReply, RepliesFit}
use Rattle.parking_lot_machine_sides.specs.Condvar.Machines.{State, call_at, can_step, may_step}
use Rattle.parking_lot_machine_sides.specs.Condvar.Turns.{enters, enters_by, is_inside, is_inside_by, is_own}
use Rattle.parking_lot_machine_sides.specs.Condvar.Turns.{notify_enters, notify_is_inside, wait_enters, wait_is_inside}
use Rattle.parking_lot_machine_sides.proofs.CondvarFacts.Acting.{it_is}

-- SOMEBODY CAN MOVE

-- one in the section enters none
wait_in : (listed : Bool) (p : WaitPhase) → wait_is_inside listed p ≡ true → wait_enters listed p ≡ false
wait_in listed (w.Enters k) h = absurd cc
wait_in listed (w.Expires k) h = absurd cc
wait_in listed p h = refl

notify_in : (p : NotifyPhase) → notify_is_inside p ≡ true → notify_enters p ≡ false
notify_in (n.Enters all word) h = absurd cc
notify_in p h = refl

core_in : (listed : Bool) (k : Core) → is_inside_by listed k ≡ true → enters_by listed k ≡ false
core_in listed (core.Wait k) h = wait_in listed k.phase h
core_in listed (core.Notify k) h = notify_in k.phase h

steps_so : (own enter free : Bool) → own ≡ true → (not enter || free) ≡ true → (own && (not enter || free)) ≡ true
steps_so true enter free own h = h
steps_so false enter free own h = absurd cc

abbrev Somebody : State → ℕ → Type 0
Somebody s t = ((v : ℕ) × (can_step s v ≡ true)) ⊎ (IsElsewhere s t ⊎ ((u : ℕ) × (s.inside ≡ Some u) × IsElsewhere s u))

can : (s : State) (t : ℕ) (c : OpenCall) → call_at s t ≡ Some c → is_own c ≡ true
    → (not (enters c) || is_none s.inside) ≡ true → can_step s t ≡ true
can s t c here own h = ap (λ o. option_map_or (may_step s.inside) o false) here
    ∙ steps_so (is_own c) (enters c) (is_none s.inside) own h

-- one that acts at the variable can, but where another is in the section
acts : (s : State) → Fits s → (t : ℕ) (c : OpenCall) → call_at s t ≡ Some c → is_own c ≡ true → (i : Option ℕ)
    → s.inside ≡ i → (e : Bool) → enters c ≡ e → Somebody s t
acts s fits t c here own i at false e = inl (t, can s t c here own (ap (λ b. not b || is_none s.inside) e))
acts s fits t c here own None at true e =
    inl (t, can s t c here own (ap (λ b. not b || is_none s.inside) e ∙ ap is_none at))
acts s fits t c here own (Some u) at true e = another (is_own found.0) refl
  where
    found : (d : OpenCall) × (call_at s u ≡ Some d)
    found = fits.inside u at

    within : is_inside found.0 ≡ true
    within = (fits.seated u found.0 found.1).section ∙ ap (λ o. is_the o u) at ∙ it_is u

    another : (b : Bool) → is_own found.0 ≡ b → Somebody s t
    another true own =
        inl (
          u,
          can s u found.0 found.1 own
              (ap (λ b. not b || is_none s.inside) (core_in found.0.listed found.0.core within)),
        )
    another false own = inr (inr (u, at, (found.0, found.1, own)))

somebody : (s : State) → Fits s → (t : ℕ) (c : OpenCall) → call_at s t ≡ Some c → (b : Bool) → is_own c ≡ b
    → Somebody s t
somebody s fits t c here false e = inr (inl (c, here, e))
somebody s fits t c here true e = acts s fits t c here e s.inside refl (enters c) refl

pub promised : (s : State) → Fits s → IsSoundMachine s
promised s fits = record {
  sound = fits.sound;
  lists = fits.sound.waiting.each;
  moves = λ t c here. somebody s fits t c here (is_own c) refl;
}

-- REPLIES

wait_replies : (c : OpenCall) (a : WaitAnswer) → IsWait c.call → EndsInTime (is_timed c.call) a
    → MayReply c (wait_reply a)
wait_replies c answer.Woken is ends = is
wait_replies c answer.TimedOut is ends = (is, ends)
wait_replies c answer.WrongMutex is ends = is
wait_replies c answer.WrongLot is ends = absurd ends

notify_replies : (c : OpenCall) (call : CondvarCall) (count : ℕ) → c.call ≡ call → IsNotify call → count ≡ c.taken
    → TakesFew (is_of_all call) c.taken → MayReply c (notify_reply (is_of_all call) count)
notify_replies c NotifyOne count e is counts few = (e, ap (nat_lt 0) counts, omega (arith, few))
notify_replies c NotifyAll count e is counts few = (e, counts)
notify_replies c (Wait mutex) count e is counts few = absurd is
notify_replies c (WaitUntil mutex) count e is counts few = absurd is

wait_ends : (c : OpenCall) (listed : Bool) (waiting : ℕ) (p : WaitPhase) (r : CondvarReply) → reply_in_wait p ≡ Some r
    → IsWait c.call → WaitKnows (is_timed c.call) listed waiting p → MayReply c r
wait_ends c listed waiting (w.Ends a) r e is know = subst (MayReply c) (same_Some (wait_reply a) r e)
    (wait_replies c a is know)
wait_ends c listed waiting p r e is know = absurd (none-some r e)

notify_ends : (c : OpenCall) (threads word : ℕ) (beside : Option ℕ) (waiting : ℕ) (p : NotifyPhase) (r : CondvarReply)
    → reply_in_notify (is_of_all c.call) p ≡ Some r → IsNotify c.call
    → NotifyKnows (is_of_all c.call) threads word beside waiting c.taken p → MayReply c r
notify_ends c threads word beside waiting (n.Ends count) r e is know =
    subst (MayReply c) (same_Some (notify_reply (is_of_all c.call) count) r e)
    (notify_replies c c.call count refl is know.0 know.1)
notify_ends c threads word beside waiting p r e is know = absurd (none-some r e)

ends : (c : OpenCall) (threads word : ℕ) (beside : Option ℕ) (waiting : ℕ) (k : Core) (r : CondvarReply) → reply_by c.call k ≡ Some r
    → Knows c.call c.listed threads word beside waiting c.taken k → MayReply c r
ends c threads word beside waiting (core.Wait k) r e know = wait_ends c c.listed waiting k.phase r e know.0 know.1
ends c threads word beside waiting (core.Notify k) r e know = notify_ends c threads word beside waiting k.phase r e know.0 know.1

pub replies_fit : RepliesFit
replies_fit s u t c r fits here step =
    ends c (length s.calls) s.word s.beside (length s.queue) c.core r
    (subst (λ (d : OpenCall). reply_by d.call d.core ≡ Some r) (same_Some step.call c (sym step.here ∙ here))
    (sym step.replies))
    (fits.seated t c here).knows
