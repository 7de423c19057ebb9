-- What the machine's parts make together.
use Rattle.std.proofs.Common.{◌≡◌, ℕ, ◌<◌, ◌≤◌, true, List, [], ◌∷◌, get_or, length, remove, is_some, Option, Some}
use Rattle.std.proofs.Common.{None, slice_get, slice_set, refl, sym, ap, ◌∙◌, subst, arith}
use Rattle.std.specs.Option.{IfSome, option_map}
use Rattle.std.proofs.lemmas.Option.{slice_get-get_or}
use Rattle.parking_lot_rules.specs.Variable.{Waiting, weight}
use Rattle.parking_lot_rules.specs.Variable as rules
use Rattle.parking_lot_protocol_waits.specs.declared.wait_core.WaitCore.{WaitCore}
use Rattle.parking_lot_protocol_waits.specs.declared.wait_core.WaitPhase.{WaitPhase}
use Rattle.parking_lot_protocol_waits.specs.declared.wait_core.WaitPhase.TheVariants as w
use Rattle.parking_lot_protocol_waits.specs.declared.notify_core.NotifyCore.{NotifyCore}
use Rattle.parking_lot_machine_sides.specs.declared.condvar.open_call.Core.{Core}
use Rattle.parking_lot_machine_sides.specs.declared.condvar.open_call.Core.TheVariants as core
use Rattle.parking_lot_machine_sides.specs.Condvar.Calls.{OpenCall, off_list, took_one}
use Rattle.parking_lot_machine_sides.specs.Condvar.Fitting.{Fits}
use Rattle.parking_lot_machine_sides.specs.Condvar.Machines.{State, call_at, call_in, is_left, may_step, may_take}
use Rattle.parking_lot_machine_sides.specs.Condvar.Machines.{phase_by}
use Rattle.parking_lot_machine_sides.specs.Condvar.OwnSteps.{beside_after_notify, beside_after_wait}
use Rattle.parking_lot_machine_sides.specs.Condvar.OwnSteps.{WhereItJoins, inside_after_notify, inside_after_wait}
use Rattle.parking_lot_machine_sides.specs.Condvar.OwnSteps.{notify_goes, notify_sees, queue_after_wait, stepped}
use Rattle.parking_lot_machine_sides.specs.Condvar.OwnSteps.{stepped_by, wait_goes, wait_sees, word_after_notify}
use Rattle.parking_lot_machine_sides.specs.Condvar.OwnSteps.{word_after_wait}
use Rattle.parking_lot_machine_sides.specs.Condvar.Steps.{IsTaken, taken_by}
use Rattle.parking_lot_machine_sides.proofs.CondvarFacts.Phases.{fewer_wait}
use Rattle.parking_lot_machine_sides.proofs.CondvarFacts.Slots.{within}
use Rattle.parking_lot_machine_sides.proofs.CondvarFacts.Stepping.{take_so}

pub held : {m n : State} (t : ℕ) (c : OpenCall) → m ≡ n → call_at n t ≡ Some c → call_at m t ≡ Some c
held t c e here = ap (λ (x : State). call_at x t) e ∙ here

pub low : {m n : State} (t : ℕ) (c : OpenCall) → m ≡ n → call_at n t ≡ Some c → t < length m.calls
low {m} t c e here = within m.calls t c (held t c e here)

pub may_so : {m n : State} (c : OpenCall) → m ≡ n → may_step n.inside c ≡ true → may_step m.inside c ≡ true
may_so c e may = ap (λ (x : State). may_step x.inside c) e ∙ may

same_state : (a b : ℕ) (cs ds : List (Option OpenCall)) (q r : List ℕ) (i j k l : Option ℕ) → a ≡ b → cs ≡ ds → q ≡ r
    → i ≡ j → k ≡ l
    → ◌≡◌ {A = State} (record { word = a; calls = cs; queue = q; inside = i; beside = k })
    (record { word = b; calls = ds; queue = r; inside = j; beside = l })
same_state a b cs ds q r i j k l e f g h o =
    ap (λ (x : ℕ). record { word = x; calls = cs; queue = q; inside = i; beside = k }) e
    ∙ ap (λ (x : List (Option OpenCall)). record { word = b; calls = x; queue = q; inside = i; beside = k }) f
    ∙ ap (λ (x : List ℕ). record { word = b; calls = ds; queue = x; inside = i; beside = k }) g
    ∙ ap (λ (x : Option ℕ). record { word = b; calls = ds; queue = r; inside = x; beside = k }) h
    ∙ ap (λ (x : Option ℕ). record { word = b; calls = ds; queue = r; inside = j; beside = x }) o

pub notified : (m : State) (t : ℕ) (c : OpenCall) (k : NotifyCore) → c.core ≡ core.Notify k
    → (word : ℕ) (goes : Option OpenCall) (inside beside : Option ℕ)
    → word ≡ word_after_notify k.phase m.word → goes ≡ notify_goes c k (notify_sees m.word k.phase) k.phase
    → inside ≡ inside_after_notify t k.phase m.inside → beside ≡ beside_after_notify k.phase m.beside
    → ◌≡◌ {A = State} (record {
      word = word;
      calls = slice_set m.calls t goes;
      queue = m.queue;
      inside = inside;
      beside = beside;
    }) (stepped m t c)
notified m t c k its word goes inside beside e f g h =
    same_state word _ (slice_set m.calls t goes) _ m.queue m.queue inside _ beside _ e
    (ap (λ o. slice_set m.calls t o) f) refl g h
    ∙ sym (ap (λ x. stepped_by x m t c) its)

pub waited : (m : State) (t : ℕ) (c : OpenCall) (k : WaitCore) → c.core ≡ core.Wait k
    → (word : ℕ) (goes : Option OpenCall) (queue : List ℕ) (inside beside : Option ℕ)
    → word ≡ word_after_wait k.phase m.word → goes ≡ wait_goes c k (wait_sees m.word (is_left queue) k.phase) k.phase
    → queue ≡ queue_after_wait t k.phase m.queue → inside ≡ inside_after_wait t k.phase m.inside
    → beside ≡ beside_after_wait k.phase m.beside
    → ◌≡◌ {A = State} (record {
      word = word;
      calls = slice_set m.calls t goes;
      queue = queue;
      inside = inside;
      beside = beside;
    }) (stepped m t c)
waited m t c k its word goes queue inside beside e f g h i =
    same_state word _ (slice_set m.calls t goes) _ queue _ inside _ beside _ e
    (ap (λ o. slice_set m.calls t o) (f ∙ ap (λ q. wait_goes c k (wait_sees m.word (is_left q) k.phase) k.phase) g))
    g h i
    ∙ sym (ap (λ x. stepped_by x m t c) its)

-- there is room in the list for one that joins it
checked_waits : (k : ℕ) → weight Waiting (rules.Checked k) ≡ 0
unfolding weight
checked_waits k = refl

pub has_room : (s : State) (t : ℕ) (c : OpenCall) (k : WaitCore) (room : ℕ) → Fits s → call_at s t ≡ Some c
    → c.core ≡ core.Wait k → length s.calls ≤ room → WhereItJoins k.phase (length s.queue < room)
has_room s t c k room fits here its enough = by k.phase refl
  where
    joins : (mutex : ℕ) → k.phase ≡ w.Appends mutex → length s.queue < room
    joins mutex e = omega (
      arith,
      enough,
      fewer_wait s t c fits here
          (ap (λ (x : Core). weight Waiting (phase_by c.listed x)) its
          ∙ ap (λ p. weight Waiting (phase_by c.listed (core.Wait (record { phase = p })))) e ∙ checked_waits mutex),
    )

    by : (p : WaitPhase) → k.phase ≡ p → WhereItJoins p (length s.queue < room)
    by (w.Appends mutex) e = joins mutex e
    by p e = tt

-- somebody waits, so there is a first
pub has_first : (queue : List ℕ) → is_left queue ≡ true → is_some (slice_get queue 0) ≡ true
has_first [] h = absurd cc
has_first (v ∷ vs) h = refl

pub its_first : (queue : List ℕ) (v : ℕ) → 0 < length queue → v ≡ get_or queue 0 v → slice_get queue 0 ≡ Some v
its_first queue v some is = slice_get-get_or queue 0 v some ∙ ap Some (sym is)

pub took : (m : State) (t : ℕ) (c : OpenCall) (v : ℕ) (off : Option OpenCall) (one : OpenCall) (queue : List ℕ)
    → off ≡ option_map off_list (call_in m.calls v) → one ≡ took_one c → queue ≡ remove m.queue 0
    → ◌≡◌ {A = State} (record m { calls = slice_set (slice_set m.calls v off) t (Some one); queue = queue })
    (taken_by m t c v)
took m t c v off one queue e f g =
    same_state m.word m.word (slice_set (slice_set m.calls v off) t (Some one)) _ queue _ m.inside m.inside m.beside
    m.beside refl
    (ap (λ o. slice_set (slice_set m.calls v o) t (Some one)) e
    ∙ ap (λ d. slice_set (slice_set m.calls v (option_map off_list (call_in m.calls v))) t (Some d)) f)
    g
    refl refl

-- whoever was taken, was the first
pub taken_if : (s : State) (t : ℕ) (c : OpenCall) → Fits s → call_at s t ≡ Some c → may_take s.queue c ≡ true
    → (r : Option ℕ) (u : State) → r ≡ slice_get s.queue 0 → IfSome r (λ v. u ≡ taken_by s t c v)
    → IfSome r (λ v. IsTaken t v s u)
taken_if s t c fits here may None u first became = tt
taken_if s t c fits here may (Some v) u first became = subst (IsTaken t v s) (sym became)
    (take_so s t c fits here may v (sym first)).1
