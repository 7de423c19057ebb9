-- A step that changes one call keeps what holds of the machine.
use Rattle.std.proofs.Common.{◌≡◌, ◌≢◌, ℕ, ◌<◌, ◌≤◌, ◌⊎◌, inl, inr, Bool, true, false, List, [], ◌∷◌, length, map}
use Rattle.std.proofs.Common.{Option, Some, None, slice_get, slice_set, refl, sym, ap, ◌∙◌, subst, eqb-true, eq-eqb}
use Rattle.std.proofs.lemmas.Bool.{cases_eq, ne_eqb}
use Rattle.std.proofs.lemmas.List.{length-set}
use Rattle.std.proofs.lemmas.Option.{none-some, same_Some}
use Rattle.parking_lot_rules.specs.Variable as rules
use Rattle.parking_lot_rules.specs.Variable.{Phase, Plain, Step, Alone, Variable, May, total, written}
use Rattle.parking_lot_rules.proofs.Casing.{set-same}
use Rattle.parking_lot_protocol_waits.specs.declared.wait_core.WaitPhase.{WaitPhase}
use Rattle.parking_lot_protocol_waits.specs.declared.wait_core.WaitPhase.TheVariants as w
use Rattle.parking_lot_protocol_waits.specs.declared.notify_core.NotifyPhase.{NotifyPhase}
use Rattle.parking_lot_protocol_waits.specs.declared.notify_core.NotifyPhase.TheVariants as n
use Rattle.parking_lot_machine_sides.specs.declared.condvar.calls.CondvarCall.{CondvarCall}
use Rattle.parking_lot_machine_sides.specs.declared.condvar.open_call.Core.{Core}
use Rattle.parking_lot_machine_sides.specs.declared.condvar.open_call.Core.TheVariants as core
use Rattle.parking_lot_machine_sides.specs.Condvar.Calls.{OpenCall, is_of_all, is_timed}
use Rattle.parking_lot_machine_sides.specs.Condvar.Fitting.{Fits, Sits, Knows, NotifyKnows, WaitKnows, is_the}
use Rattle.parking_lot_machine_sides.specs.Condvar.Machines.{State, call_at, phase_in, phase_of, variable}
use Rattle.parking_lot_machine_sides.specs.Condvar.Steps.{Runs}
use Rattle.parking_lot_machine_sides.specs.Condvar.Turns.{is_inside, is_inside_by, notify_is_inside, wait_is_inside}
use Rattle.parking_lot_machine_sides.proofs.CondvarFacts.Slots.{call_elsewhere, call_here, map_set, within}
use Rattle.parking_lot_machine_sides.proofs.CondvarFacts.Phases.{phase_there, runs_sound}

pub not_another : (inside : Option ℕ) (t x : ℕ) → x ≢ t → is_the inside t ≡ true → is_the inside x ≡ false
not_another None t x ne h = refl
not_another (Some u) t x ne h = ne_eqb u x (λ e. ne (sym e ∙ eqb-true u t h))

pub it_is : (t : ℕ) → is_the (Some t) t ≡ true
it_is t = eq-eqb t t refl

pub who_is : (inside : Option ℕ) (t : ℕ) → is_the inside t ≡ true → inside ≡ Some t
who_is None t h = absurd cc
who_is (Some u) t h = ap Some (eqb-true u t h)

wait_still : (timed listed : Bool) (waiting after : ℕ) (p : WaitPhase) → wait_is_inside listed p ≡ false
    → WaitKnows timed listed waiting p → WaitKnows timed listed after p
wait_still timed listed waiting after w.Forgets out h = absurd cc
wait_still timed listed waiting after (w.Locks true) out h = h
wait_still timed listed waiting after (w.Locks false) out h = h
wait_still timed listed waiting after p out h = h

notify_still : (all : Bool) (threads word new : ℕ) (beside now : Option ℕ) (waiting after taken : ℕ) (p : NotifyPhase)
    → notify_is_inside p ≡ false → NotifyKnows all threads word beside waiting taken p
    → NotifyKnows all threads new now after taken p
notify_still all threads word new beside now waiting after taken (n.Checks a found) out h = absurd cc
notify_still all threads word new beside now waiting after taken (n.Marks a) out h = absurd cc
notify_still all threads word new beside now waiting after taken (n.Moves a locked) out h = absurd cc
notify_still all threads word new beside now waiting after taken (n.MarksRest notice) out h = absurd cc
notify_still all threads word new beside now waiting after taken (n.Forgets notice) out h = absurd cc
notify_still all threads word new beside now waiting after taken p out h = h

-- one outside the section knows nothing of the list and the word
pub knows_still : (call : CondvarCall) (listed : Bool) (threads word new : ℕ) (beside now : Option ℕ)
    (waiting after taken : ℕ) (k : Core) → is_inside_by listed k ≡ false
    → Knows call listed threads word beside waiting taken k → Knows call listed threads new now after taken k
knows_still call listed threads word new beside now waiting after taken (core.Wait k) out h =
    (h.0, wait_still (is_timed call) listed waiting after k.phase out h.1)
knows_still call listed threads word new beside now waiting after taken (core.Notify k) out h =
    (h.0, notify_still (is_of_all call) threads word new beside now waiting after taken k.phase out h.1)

pub same_variable : (a b : ℕ) (ps qs : List Phase) (q r : List ℕ) → a ≡ b → ps ≡ qs → q ≡ r
    → ◌≡◌ {A = Variable} (record { word = a; phases = ps; queue = q }) (record { word = b; phases = qs; queue = r })
same_variable a b ps qs q r e f g =
    ap (λ (x : ℕ). record { word = x; phases = ps; queue = q }) e
    ∙ ap (λ (x : List Phase). record { word = b; phases = x; queue = q }) f
    ∙ ap (λ (x : List ℕ). record { word = b; phases = qs; queue = x }) g

-- nobody else is in the section
abbrev pub NoneBeside : ℕ → State → Type 0
NoneBeside t s = (x : ℕ) → x ≢ t → is_the s.inside x ≡ false

-- one that is in it is alone there
pub alone_in : (s : State) (t : ℕ) → is_the s.inside t ≡ true → NoneBeside t s
alone_in s t its x ne = not_another s.inside t x ne its

-- the word, the list and the mutex beside are as before, or nobody else is in the section
abbrev pub IsQuiet : ℕ → State → State → Type 0
IsQuiet t s u = ((u.word ≡ s.word) × (u.beside ≡ s.beside) × (length u.queue ≡ length s.queue)) ⊎ NoneBeside t s

-- others are in the section as before
abbrev pub OthersStay : ℕ → State → State → Type 0
OthersStay t s u = (x : ℕ) → x ≢ t → is_the u.inside x ≡ is_the s.inside x

module _ (s u : State) (t : ℕ) (c : OpenCall) (o : Option OpenCall) (fits : Fits s) (here : call_at s t ≡ Some c)
    (calls : u.calls ≡ slice_set s.calls t o) where
  threads : length u.calls ≡ length s.calls
  threads = ap (λ (cs : List (Option OpenCall)). length cs) calls ∙ length-set s.calls t o

  others : (x : ℕ) → x ≢ t → call_at u x ≡ call_at s x
  others x ne = ap (λ (cs : List (Option OpenCall)). call_at (record u { calls = cs }) x) calls
      ∙ call_elsewhere s.calls t x o ne

  its : call_at u t ≡ o
  its = ap (λ (cs : List (Option OpenCall)). call_at (record u { calls = cs }) t) calls
      ∙ call_here s.calls t o (within s.calls t c here)

  pub phases_one : (variable u).phases ≡ slice_set (variable s).phases t (phase_in o)
  phases_one = ap (map phase_in) calls ∙ map_set phase_in s.calls t o

  other_sits : IsQuiet t s u → OthersStay t s u → (x : ℕ) (d : OpenCall) → x ≢ t → Sits s x d → Sits u x d
  other_sits quiet stay x d ne sits = record {
    knows = subst (λ m. Knows d.call d.listed m u.word u.beside (length u.queue) d.taken d.core) (sym threads) (go quiet);
    section = sits.section ∙ sym (stay x ne);
  }
    where
      go : IsQuiet t s u → Knows d.call d.listed (length s.calls) u.word u.beside (length u.queue) d.taken d.core
      go (inl q) = subst (λ m. Knows d.call d.listed (length s.calls) m u.beside (length u.queue) d.taken d.core)
          (sym q.0)
          (subst (λ o. Knows d.call d.listed (length s.calls) s.word o (length u.queue) d.taken d.core) (sym q.1)
          (subst (λ m. Knows d.call d.listed (length s.calls) s.word s.beside m d.taken d.core) (sym q.2) sits.knows))
      go (inr others) = knows_still d.call d.listed (length s.calls) s.word u.word s.beside u.beside (length s.queue)
          (length u.queue) d.taken d.core (sits.section ∙ others x ne) sits.knows

  pub fits_one : (steps : List Step) → Runs t steps (variable s) (variable u)
      → ((d : OpenCall) → o ≡ Some d → Sits u t d) → IsQuiet t s u → OthersStay t s u
      → (is_the u.inside t ≡ true → (d : OpenCall) × (o ≡ Some d)) → Fits u
  fits_one steps run sits quiet stay stands = record {
    sound = runs_sound t steps (variable s) (variable u) fits.sound run;
    seated = λ x d at. elim (cases_eq x t) [
      | inl e ↦ subst (λ y. Sits u y d) (sym e) (sits d (sym its ∙ ap (call_at u) (sym e) ∙ at))
      | inr ne ↦ other_sits quiet stay x d ne (fits.seated x d (sym (others x ne) ∙ at))
    ];
    inside = λ x at. elim (cases_eq x t) [
      | inl e ↦ let d = stands (ap (λ i. is_the i t) at ∙ ap (λ y. is_the (Some y) t) e ∙ it_is t) in
          (d.0, ap (call_at u) e ∙ its ∙ d.1)
      | inr ne ↦ let d = fits.inside x (who_is s.inside x (sym (stay x ne) ∙ ap (λ i. is_the i x) at ∙ it_is x)) in
          (d.0, others x ne ∙ d.1)
    ];
    small = subst (λ m. m ≤ 65536) (sym threads) fits.small;
  }

  -- a step of the rules that changes the word and the thread's phase
  pub makes_plain : (k : Plain) → phase_of c ≡ rules.from k → phase_in o ≡ rules.to k
      → May k s.word (λ x. total x (variable s).phases) → u.word ≡ written k s.word → u.queue ≡ s.queue
      → Runs t (Alone k ∷ []) (variable s) (variable u)
  makes_plain k from to may word queue = (
    (phase_there s t c here ∙ ap Some from, may),
    same_variable u.word (written k s.word) (variable u).phases (slice_set (variable s).phases t (rules.to k)) u.queue
        s.queue word (phases_one ∙ ap (slice_set (variable s).phases t) to) queue,
  )

  -- none
  pub makes_none : phase_in o ≡ phase_of c → u.word ≡ s.word → u.queue ≡ s.queue → Runs t [] (variable s) (variable u)
  makes_none same word queue =
      same_variable u.word s.word (variable u).phases (variable s).phases u.queue s.queue word
      (phases_one ∙ ap (slice_set (variable s).phases t) same ∙ set-same (variable s).phases t (phase_of c)
      (phase_there s t c here))
      queue
