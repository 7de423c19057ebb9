-- What an act at the variable leaves of the machine, and which steps of the rules it is.
use Rattle.std.specs.Prelude.{ℕ, ◌+◌, ◌-◌, ◌==◌, ◌||◌, Bool, true, false, not, if◌then◌else◌, List, [], ◌∷◌, ◌++◌, remove}
use Rattle.std.specs.Prelude.{Option, Some, None, slice_set}
use Rattle.std.specs.List.{position}
use Rattle.parking_lot_rules.specs.Variable as rules
use Rattle.parking_lot_protocol_waits.specs.declared.wait_act.WaitSeen.{WaitSeen}
use Rattle.parking_lot_protocol_waits.specs.declared.wait_act.WaitSeen.TheVariants as wait_seen
use Rattle.parking_lot_protocol_waits.specs.declared.wait_core.WaitCore.{WaitCore}
use Rattle.parking_lot_protocol_waits.specs.declared.wait_core.WaitPhase.{WaitPhase}
use Rattle.parking_lot_protocol_waits.specs.declared.wait_core.WaitPhase.TheVariants as w
use Rattle.parking_lot_protocol_waits.specs.declared.notify_act.NotifySeen.{NotifySeen}
use Rattle.parking_lot_protocol_waits.specs.declared.notify_act.NotifySeen.TheVariants as notify_seen
use Rattle.parking_lot_protocol_waits.specs.declared.notify_core.NotifyCore.{NotifyCore}
use Rattle.parking_lot_protocol_waits.specs.declared.notify_core.NotifyPhase.{NotifyPhase}
use Rattle.parking_lot_protocol_waits.specs.declared.notify_core.NotifyPhase.TheVariants as n
use Rattle.parking_lot_protocol_waits.specs.WaitTable.{shown_by, wait_told}
use Rattle.parking_lot_protocol_waits.specs.NotifyTable.{notify_told}
use Rattle.parking_lot_machine_sides.specs.declared.condvar.open_call.Core.{Core}
use Rattle.parking_lot_machine_sides.specs.declared.condvar.open_call.Core.TheVariants as core
use Rattle.parking_lot_machine_sides.specs.Condvar.Calls.{OpenCall}
use Rattle.parking_lot_machine_sides.specs.Condvar.Machines.{State, is_left}

-- where a thread stands in a list
abbrev pub place_of : ℕ → List ℕ → Option ℕ
place_of t queue = position (λ u. u == t) queue

abbrev pub without : Option ℕ → List ℕ → List ℕ
without None queue = queue
without (Some i) queue = remove queue i

-- WHAT AN ACT GIVES

-- at this word, and with somebody left in the list or nobody
abbrev pub wait_sees : ℕ → Bool → WaitPhase → WaitSeen
wait_sees word left (w.Checks k) = wait_seen.Word word
wait_sees word left (w.Quits k) = wait_seen.Quit true (not left)
wait_sees word left p = wait_seen.Made

abbrev pub notify_sees : ℕ → NotifyPhase → NotifySeen
notify_sees word (n.Loads all) = notify_seen.Word word
notify_sees word (n.Checks all found) = notify_seen.Word word
notify_sees word p = notify_seen.Made

-- WHAT IT LEAVES

abbrev pub word_after_wait : WaitPhase → ℕ → ℕ
word_after_wait (w.Shows k) word = shown_by k
word_after_wait w.Forgets word = 0
word_after_wait p word = word

-- something holds where it joins the list
abbrev pub WhereItJoins : WaitPhase → Type 0 → Type 0
WhereItJoins (w.Appends k) X = X
WhereItJoins p X = Unit {0}

abbrev pub word_after_notify : NotifyPhase → ℕ → ℕ
word_after_notify (n.Forgets notice) word = 0
word_after_notify p word = word

abbrev pub queue_after_wait : ℕ → WaitPhase → List ℕ → List ℕ
queue_after_wait t (w.Appends k) queue = queue ++ t ∷ []
queue_after_wait t (w.Quits k) queue = without (place_of t queue) queue
queue_after_wait t p queue = queue

abbrev pub inside_after_wait : ℕ → WaitPhase → Option ℕ → Option ℕ
inside_after_wait t (w.Enters k) inside = Some t
inside_after_wait t (w.Expires k) inside = Some t
inside_after_wait t w.Retreats inside = None
inside_after_wait t (w.Rests k) inside = None
inside_after_wait t (w.Leaves here) inside = None
inside_after_wait t p inside = inside

abbrev pub inside_after_notify : ℕ → NotifyPhase → Option ℕ → Option ℕ
inside_after_notify t (n.Enters all word) inside = Some t
inside_after_notify t (n.Leaves notice) inside = None
inside_after_notify t p inside = inside

-- the mutex whose bucket is entered too
abbrev pub beside_after_wait : WaitPhase → Option ℕ → Option ℕ
beside_after_wait (w.Enters k) beside = None
beside_after_wait (w.Expires k) beside = None
beside_after_wait p beside = beside

abbrev pub beside_after_notify : NotifyPhase → Option ℕ → Option ℕ
beside_after_notify (n.Enters all word) beside = Some (word - 1)
beside_after_notify p beside = beside

-- a call that is over goes
abbrev pub wait_goes : OpenCall → WaitCore → WaitSeen → WaitPhase → Option OpenCall
wait_goes c k seen (w.Ends answer) = None
wait_goes c k seen (w.Quits m) = Some (record c { core = core.Wait (wait_told k seen); listed = false })
wait_goes c k seen p = Some (record c { core = core.Wait (wait_told k seen) })

abbrev pub notify_goes : OpenCall → NotifyCore → NotifySeen → NotifyPhase → Option OpenCall
notify_goes c k seen (n.Ends count) = None
notify_goes c k seen p = Some (record c { core = core.Notify (notify_told k seen) })

abbrev pub stepped_by : Core → State → ℕ → OpenCall → State
stepped_by (core.Wait k) s t c = record {
  word = word_after_wait k.phase s.word;
  calls = slice_set s.calls t
      (wait_goes c k (wait_sees s.word (is_left (queue_after_wait t k.phase s.queue)) k.phase) k.phase);
  queue = queue_after_wait t k.phase s.queue;
  inside = inside_after_wait t k.phase s.inside;
  beside = beside_after_wait k.phase s.beside;
}
stepped_by (core.Notify k) s t c = record {
  word = word_after_notify k.phase s.word;
  calls = slice_set s.calls t (notify_goes c k (notify_sees s.word k.phase) k.phase);
  queue = s.queue;
  inside = inside_after_notify t k.phase s.inside;
  beside = beside_after_notify k.phase s.beside;
}

-- The machine after an act of a thread in that call at the variable, whole.
abbrev pub stepped : State → ℕ → OpenCall → State
stepped s t c = stepped_by c.core s t c

-- WHICH STEPS OF THE RULES IT IS

-- one that has nothing more to do in the section: others wait still, or nobody
abbrev pub closing : rules.Phase → Bool → rules.Step
closing p true = rules.Alone (rules.Keep p)
closing p false = rules.Alone (rules.Forget p)

-- it looks in the section: nobody waits, or all with its mutex, or with another one
abbrev pub checking : ℕ → ℕ → rules.Step
checking k word = (if (word == 0) || (word == k + 1) then rules.Alone (rules.Check k) else rules.Alone (rules.Refuse k))

-- it takes itself off the list, and where others are left it has nothing more to do
abbrev pub quitting : ℕ → Option ℕ → Bool → List rules.Step
quitting k None left = []
quitting k (Some i) true = rules.Quit k i ∷ rules.Alone (rules.Keep rules.Leaves) ∷ []
quitting k (Some i) false = rules.Quit k i ∷ []

abbrev pub steps_of_wait : State → ℕ → WaitPhase → List rules.Step
steps_of_wait s t (w.Enters k) = rules.Alone (rules.Enter k) ∷ []
steps_of_wait s t (w.Checks k) = checking k s.word ∷ []
steps_of_wait s t (w.Appends k) = rules.Join k ∷ []
steps_of_wait s t (w.Shows k) = rules.Alone (rules.Show k) ∷ []
steps_of_wait s t (w.Rests k) = rules.Alone (rules.Rest k) ∷ []
steps_of_wait s t (w.Expires k) = rules.Alone (rules.Reenter k) ∷ []
steps_of_wait s t (w.Quits k) = quitting k (place_of t s.queue) (is_left (without (place_of t s.queue) s.queue))
steps_of_wait s t w.Forgets = rules.Alone (rules.Forget rules.Leaves) ∷ []
steps_of_wait s t (w.Leaves here) = rules.Alone rules.Go ∷ []
steps_of_wait s t p = []

-- it looks in the section whether the same mutex is shown: where it isn't it has nothing more to do
abbrev pub steps_if : Bool → Bool → List rules.Step
steps_if true left = []
steps_if false left = closing rules.Notifies left ∷ []

abbrev pub steps_of_notify : State → NotifyPhase → List rules.Step
steps_of_notify s (n.Enters all word) = rules.Alone rules.Notify ∷ []
steps_of_notify s (n.Checks all word) = steps_if (s.word == word) (is_left s.queue)
steps_of_notify s (n.Forgets notice) = rules.Alone (rules.Forget rules.Notifies) ∷ []
steps_of_notify s (n.Leaves notice) = rules.Alone rules.Go ∷ []
steps_of_notify s p = []

abbrev pub steps_by : Core → State → ℕ → List rules.Step
steps_by (core.Wait k) s t = steps_of_wait s t k.phase
steps_by (core.Notify k) s t = steps_of_notify s k.phase

abbrev pub steps_of : State → ℕ → OpenCall → List rules.Step
steps_of s t c = steps_by c.core s t
