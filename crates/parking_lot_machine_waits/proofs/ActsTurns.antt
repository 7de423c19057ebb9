-- The turns of a thread at a variable alone: its own acts there, and hearing of one that is made.
use Rattle.std.proofs.Common.{◌≡◌, ◌≢◌, ℕ, ◌==◌, Bool, true, false, not, cond, Option, Some, None, slice_set, refl}
use Rattle.std.proofs.Common.{sym}
use Rattle.std.proofs.Common.{ap, ◌∙◌, subst}
use Rattle.std.proofs.lemmas.Option.{same_Some}
use Rattle.parking_lot_protocol_waits.specs.declared.wait_act.WaitAnswer.{WaitAnswer}
use Rattle.parking_lot_protocol_waits.specs.declared.wait_act.WaitAnswer.TheVariants as end
use Rattle.parking_lot_protocol_waits.specs.declared.wait_core.WaitPhase.{WaitPhase}
use Rattle.parking_lot_protocol_waits.specs.declared.wait_core.WaitPhase.TheVariants as w
use Rattle.parking_lot_protocol_waits.specs.declared.notify_core.Notice.{Notice}
use Rattle.parking_lot_protocol_waits.specs.declared.notify_core.NotifyPhase.{NotifyPhase}
use Rattle.parking_lot_protocol_waits.specs.declared.notify_core.NotifyPhase.TheVariants as n
use Rattle.parking_lot_protocol_waits.specs.declared.notify_act.NotifySeen.TheVariants as notify_seen
use Rattle.parking_lot_protocol_waits.specs.declared.wait_act.WaitSeen.TheVariants as wait_seen
use Rattle.parking_lot_protocol_waits.specs.NotifyTable.{notify_told}
use Rattle.parking_lot_protocol_waits.specs.WaitTable.{wait_told}
use Rattle.parking_lot_machine_sides.specs.declared.condvar.calls.CondvarReply.{CondvarReply}
use Rattle.parking_lot_machine_sides.specs.declared.condvar.open_call.Core.{Core}
use Rattle.parking_lot_machine_sides.specs.declared.condvar.open_call.Core.TheVariants as core
use Rattle.parking_lot_machine_sides.specs.declared.condvar.open_call.OpenCall.{OpenCall}
use Rattle.parking_lot_machine_sides.specs.declared.condvar.outside.Outside.TheVariants as outside
use Rattle.parking_lot_machine_sides.specs.Condvar.Calls.{reply_by, reply_in_notify, reply_in_wait, is_of_all}
use Rattle.parking_lot_machine_sides.specs.Condvar.Machines.{State as Var, is_left}
use Rattle.parking_lot_machine_sides.specs.Condvar.Outsides.{heard, told_by}
use Rattle.parking_lot_machine_sides.specs.Condvar.OwnSteps.{notify_goes, notify_sees, stepped_by, wait_goes}
use Rattle.parking_lot_machine_sides.specs.Condvar.OwnSteps.{wait_sees}
use Rattle.parking_lot_machine.specs.Rows.{State, call_at as row_call_at, state}
use Rattle.parking_lot_machine_waits.specs.declared.turn.Turn.{Turn}
use Rattle.parking_lot_machine_waits.specs.declared.turn.Turn.TheVariants as turn
use Rattle.parking_lot_machine_waits.specs.Joint.{Joint, call_at, call_in, number, seat_at, var_at, var_goes}
use Rattle.parking_lot_machine_waits.specs.JointSteps.{ActsAt, ActsIn, HearsAt, HearsIn, freed}
use Rattle.parking_lot_machine_waits.specs.Turns.{acts_or, mutex_of, notify_turn, sleeps_or, turn_by, turn_of}
use Rattle.parking_lot_machine_waits.specs.Turns.{wait_turn}
use Rattle.parking_lot_machine_waits.specs.Whole.{Away, IsSo, IsWhole, Notifies, Stands, Waits, back_at_end, back_of}
use Rattle.parking_lot_machine_waits.specs.Whole.{front_at_end, front_of, named, woken_by}
use Rattle.parking_lot_machine_waits.proofs.ActsKept.{Onto, acted_shut, fewer_shut, gone, goes, notifies_on}
use Rattle.parking_lot_machine_waits.proofs.ActsKept.{over, rebuilt, waits_on}
use Rattle.parking_lot_machine_waits.proofs.Keepers.{Fewer}
use Rattle.parking_lot_machine_waits.proofs.Keeping.{AreShut, place_in}

-- AN ACT OF ITS OWN

checks_onto : (listed : Bool) (m k : ℕ) (b : Bool) → Onto listed listed m (w.Checks k) (cond b (w.Appends k) w.Retreats)
checks_onto listed m k true = record { names = λ e. e; front = refl; back = refl }
checks_onto listed m k false = record { names = λ e. refl; front = refl; back = refl }

quits_onto : (listed : Bool) (m k : ℕ) (b : Bool) → listed ≡ true
    → Onto listed false m (w.Quits k) (cond b w.Forgets (w.Leaves true))
quits_onto true m k true is = record { names = λ e. refl; front = refl; back = refl }
quits_onto true m k false is = record { names = λ e. refl; front = refl; back = refl }
quits_onto false m k b is = absurd cc

acts_listed : (b : Bool) → acts_or b turn.Follows ≡ turn.Acts → b ≡ true
acts_listed true e = refl
acts_listed false e = absurd cc

never_acts : {X : Type 0} (b : Bool) → sleeps_or b turn.Follows ≡ turn.Acts → X
never_acts true e = absurd cc
never_acts false e = absurd cc

loads_turn : (all : Bool) (word : ℕ) (b : Bool) → notify_turn (cond b (n.Ends 0) (n.Enters all word)) ≢ turn.Sleeps
loads_turn all word true e = absurd cc
loads_turn all word false e = absurd cc

checks_turn : (all : Bool) (notice : Notice) (b : Bool) → notify_turn (cond b (n.Marks all) (n.Leaves notice)) ≢
    turn.Sleeps
checks_turn all notice true e = absurd cc
checks_turn all notice false e = absurd cc

leaves_turn : (count : ℕ) (b : Bool) → notify_turn (cond b (n.Wakes count) (n.Ends count)) ≢ turn.Sleeps
leaves_turn count true e = absurd cc
leaves_turn count false e = absurd cc

forgets_turn : (notice : Notice) (b : Bool) → notify_turn (cond b (n.Leaves notice) (n.Forgets notice)) ≢ turn.Sleeps
forgets_turn notice true e = absurd cc
forgets_turn notice false e = absurd cc

-- At the end both numbers are in no call.
front_over : (a : WaitAnswer) (s : State) (k m : ℕ) → IsSo (front_at_end a) s k m → row_call_at s k ≡ None
front_over end.WrongMutex s k m x = place_in (row_call_at s k) x.0
front_over end.Woken s k m x = place_in (row_call_at s k) x.0
front_over end.TimedOut s k m x = place_in (row_call_at s k) x.0
front_over end.WrongLot s k m x = absurd x

back_over : (a : WaitAnswer) (s : State) (k m : ℕ) → IsSo (back_at_end a) s k m → row_call_at s k ≡ None
back_over end.WrongMutex s k m x = place_in (row_call_at s k) x.0
back_over end.Woken s k m x = place_in (row_call_at s k) x.0
back_over end.TimedOut s k m x = place_in (row_call_at s k) x.0
back_over end.WrongLot s k m x = absurd x

by_seat : (P : Bool → Type 0) (b second : Bool) → P b → P (not b) → P second
by_seat P true true x y = x
by_seat P true false x y = y
by_seat P false true x y = y
by_seat P false false x y = x

module _ (i : Joint) (t v : ℕ) (c : OpenCall) (x y : Var) (h : IsWhole i) (here : call_at i v t ≡ Some c)
    (at : var_at i v ≡ Some x) where
  abbrev On : Joint
  On = goes i t v c x y h here at

  abbrev Off : Joint
  Off = gone i t v c x y h here at

  -- by whether its call is over
  abbrev After : Option CondvarReply → Type 0
  After None = IsWhole On
  After (Some r) = IsWhole Off

  module _ (on : AreShut On) (off : AreShut Off) where
    wait_acts : (word : ℕ) (left : Bool) (p : WaitPhase) → Waits i t c p → wait_turn c.listed p ≡ turn.Acts
        → y.calls ≡ slice_set x.calls t (wait_goes c (record { phase = p }) (wait_sees word left p) p)
        → After (reply_in_wait p)
    wait_acts word left (w.Enters k) z is calls = waits_on i t v c x y h here at c.listed _ _
        (record { names = λ e. e; front = refl; back = refl }) z calls on
    wait_acts word left (w.Checks k) z is calls = waits_on i t v c x y h here at c.listed _ _
        (checks_onto c.listed (mutex_of c.call) k _) z calls on
    wait_acts word left w.Retreats z is calls = waits_on i t v c x y h here at c.listed _ _
        (record { names = λ e. refl; front = refl; back = refl }) z calls on
    wait_acts word left (w.Appends k) z is calls = waits_on i t v c x y h here at c.listed _ _
        (record { names = λ e. e; front = refl; back = refl }) z calls on
    wait_acts word left (w.Shows k) z is calls = waits_on i t v c x y h here at c.listed _ _
        (record { names = λ e. e; front = refl; back = refl }) z calls on
    wait_acts word left (w.Expires k) z is calls = waits_on i t v c x y h here at c.listed _ _
        (record { names = λ e. e; front = refl; back = refl }) z calls on
    wait_acts word left (w.Quits k) z is calls = waits_on i t v c x y h here at false _ _
        (quits_onto c.listed (mutex_of c.call) k (not left) (acts_listed c.listed is)) z calls on
    wait_acts word left w.Forgets z is calls = waits_on i t v c x y h here at c.listed _ _
        (record { names = λ e. refl; front = refl; back = refl }) z calls on
    wait_acts word left (w.Ends a) z is calls =
        over i t v c x y h here at
        (λ second. by_seat (λ b. row_call_at (state i.rows) (number i t b) ≡ None) (seat_at i t).second second
        (back_over a (state i.rows) _ _ z.back) (front_over a (state i.rows) _ _ z.front))
        calls off
    wait_acts word left (w.Sleeps k) z is calls = never_acts c.listed is
    wait_acts word left (w.Leaves true) z is calls = absurd cc
    wait_acts word left (w.Leaves false) z is calls = absurd cc
    wait_acts word left p z is calls = absurd cc

    notify_acts : (word : ℕ) (p : NotifyPhase) → Notifies i t p → notify_turn p ≡ turn.Acts
        → y.calls ≡ slice_set x.calls t (notify_goes c (record { phase = p }) (notify_sees word p) p)
        → After (reply_in_notify (is_of_all c.call) p)
    notify_acts word (n.Loads all) z is calls = notifies_on i t v c x y h here at _ _ c.taken (loads_turn all word _) z
        calls on
    notify_acts word (n.Enters all found) z is calls = notifies_on i t v c x y h here at _ _ c.taken (λ e. absurd cc) z
        calls on
    notify_acts word (n.Checks all found) z is calls = notifies_on i t v c x y h here at _ _ c.taken
        (checks_turn all _ _) z calls on
    notify_acts word (n.Forgets notice) z is calls = notifies_on i t v c x y h here at _ _ c.taken (λ e. absurd cc) z
        calls on
    notify_acts word (n.Leaves notice) z is calls = notifies_on i t v c x y h here at _ _ c.taken
        (leaves_turn notice.count notice.wakes) z calls on
    notify_acts word (n.Ends count) z is calls =
        over i t v c x y h here at
        (λ second. by_seat (λ b. row_call_at (state i.rows) (number i t b) ≡ None) true second z.second z.first) calls
        off
    notify_acts word p z is calls = absurd cc

    core_acts : (k : Core) → Stands i t c k → turn_by c.listed k ≡ turn.Acts → y.calls ≡ (stepped_by k x t c).calls
        → After (reply_by c.call k)
    core_acts (core.Wait k) z is calls = wait_acts x.word _ k.phase z is calls
    core_acts (core.Notify k) z is calls = notify_acts x.word k.phase z is calls

-- It makes an act there.
module _ (i j : Joint) (t v : ℕ) (c : OpenCall) (reply : Option CondvarReply) (h : IsWhole i)
    (here : call_at i v t ≡ Some c) (rows : j.rows ≡ i.rows) (seats : j.seats ≡ freed t reply i.seats) where
  acts_in : (o p : Option Var) → var_at i v ≡ o → turn_of c ≡ turn.Acts → var_goes i v t c o ≡ true → ActsIn t reply o p
      → j.vars ≡ slice_set i.vars v p → IsWhole j
  acts_in None p at is can acts vars = absurd acts
  acts_in (Some x) None at is can acts vars = absurd acts
  acts_in (Some x) (Some y) at is can acts vars =
      finish (reply_by c.call c.core)
      (core_acts i t v c x y h here at (shut (goes i t v c x y h here at) refl refl)
      (shut (gone i t v c x y h here at) refl refl) c.core (h.stands v t c here) is
      (ap (λ (z : Var). z.calls) became))
      (seats ∙ ap (λ r. freed t r i.seats) (acts.replies ∙ ap (λ (d : OpenCall). reply_by d.call d.core) same))
    where
      there : call_in (Some x) t ≡ Some c
      there = ap (λ (o : Option Var). call_in o t) (sym at) ∙ here

      same : acts.call ≡ c
      same = same_Some acts.call c (sym acts.here ∙ there)

      became : y ≡ stepped_by c.core x t c
      became = acts.became ∙ ap (λ (d : OpenCall). stepped_by d.core x t d) same

      shut : (k : Joint) → k.vars ≡ slice_set i.vars v (Some y) → k.rows ≡ i.rows → AreShut k
      shut k vars rows = acted_shut i k v x y h at vars t c there became can rows

      finish : (r : Option CondvarReply) → After i t v c x y h here at r → j.seats ≡ freed t r i.seats → IsWhole j
      finish None z seats = rebuilt j _ _ _ rows vars seats z
      finish (Some r) z seats = rebuilt j _ _ _ rows vars seats z

  pub acts_keep : turn_of c ≡ turn.Acts → var_goes i v t c (var_at i v) ≡ true → ActsAt t v reply i j → IsWhole j
  acts_keep is can (p, acts, vars) = acts_in (var_at i v) p refl is can acts vars

-- HEARING OF AN ACT ELSEWHERE

pub resumes_front : (listed : Bool) (b : Bool) → front_of (cond b (w.Ends end.Woken) (w.Locks false)) ≡ Away
resumes_front listed true = refl
resumes_front listed false = refl

pub resumes_back : (listed : Bool) (b : Bool) → back_of listed (cond b (w.Ends end.Woken) (w.Locks false)) ≡ woken_by b
resumes_back listed true = refl
resumes_back listed false = refl

pub resumes_names : (m : ℕ) (b : Bool) → named (cond b (w.Ends end.Woken) (w.Locks false)) m ≡ m
resumes_names m true = refl
resumes_names m false = refl

sleeping_hears : {X : Type 0} (b : Bool) → sleeps_or b turn.Follows ≡ turn.Hears → X
sleeping_hears true e = absurd cc
sleeping_hears false e = absurd cc

acting_hears : {X : Type 0} (b : Bool) (other : Turn) → acts_or b other ≡ turn.Hears → other ≢ turn.Hears → X
acting_hears true other e ne = absurd cc
acting_hears false other e ne = absurd (ne e)

module _ (i : Joint) (t v : ℕ) (c : OpenCall) (x y : Var) (h : IsWhole i) (here : call_at i v t ≡ Some c)
    (at : var_at i v ≡ Some x) (on : AreShut (goes i t v c x y h here at)) where
  wait_hears : (p : WaitPhase) → Waits i t c p → wait_turn c.listed p ≡ turn.Hears
      → y.calls ≡ slice_set x.calls t
      (Some (record c { core = core.Wait (wait_told (record { phase = p }) wait_seen.Made) }))
      → IsWhole (goes i t v c x y h here at)
  wait_hears (w.Resumes token) z is calls = waits_on i t v c x y h here at c.listed _ _ (record {
    names = λ e. resumes_names _ (token.0 == 1);
    front = resumes_front c.listed (token.0 == 1);
    back = resumes_back c.listed (token.0 == 1);
  }) z calls on
  wait_hears (w.Sleeps k) z is calls = sleeping_hears c.listed is
  wait_hears (w.Expires k) z is calls = acting_hears c.listed turn.ComesBack is (λ e. absurd cc)
  wait_hears (w.Quits k) z is calls = acting_hears c.listed turn.Follows is (λ e. absurd cc)
  wait_hears (w.Leaves true) z is calls = absurd cc
  wait_hears (w.Leaves false) z is calls = absurd cc
  wait_hears p z is calls = absurd cc

  notify_hears : (p : NotifyPhase) → Notifies i t p → notify_turn p ≡ turn.Hears
      → y.calls ≡ slice_set x.calls t
      (Some (record c { core = core.Notify (notify_told (record { phase = p }) notify_seen.Made) }))
      → IsWhole (goes i t v c x y h here at)
  notify_hears (n.MarksRest notice) z is calls = notifies_on i t v c x y h here at _ _ c.taken
      (forgets_turn notice notice.left) z calls on
  notify_hears (n.Wakes count) z is calls = notifies_on i t v c x y h here at _ _ c.taken (λ e. absurd cc) z calls on
  notify_hears p z is calls = absurd cc

  core_hears : (k : Core) → Stands i t c k → turn_by c.listed k ≡ turn.Hears
      → y.calls ≡ slice_set x.calls t (Some (told_by c (is_left x.queue) outside.Made k))
      → IsWhole (goes i t v c x y h here at)
  core_hears (core.Wait k) z is calls = wait_hears k.phase z is calls
  core_hears (core.Notify k) z is calls = notify_hears k.phase z is calls

-- It hears that an act elsewhere is made.
module _ (i j : Joint) (t v : ℕ) (c : OpenCall) (h : IsWhole i) (here : call_at i v t ≡ Some c) (rows : j.rows ≡ i.rows)
    (seats : j.seats ≡ i.seats) where
  hears_in : (o p : Option Var) → var_at i v ≡ o → turn_of c ≡ turn.Hears → HearsIn t outside.Made o p
      → j.vars ≡ slice_set i.vars v p → IsWhole j
  hears_in None p at is hears vars = absurd hears
  hears_in (Some x) None at is hears vars = absurd hears
  hears_in (Some x) (Some y) at is hears vars =
      rebuilt j _ _ _ rows vars seats
      (core_hears i t v c x y h here at
      (fewer_shut i (goes i t v c x y h here at) v x y h at refl
      (subst (λ (z : Var). Fewer x z) (sym became) (λ e. (e, refl))) refl) c.core (h.stands v t c here) is
      (ap (λ (z : Var). z.calls) became))
    where
      same : hears.call ≡ c
      same = same_Some hears.call c (sym hears.here ∙ ap (λ (o : Option Var). call_in o t) (sym at) ∙ here)

      became : y ≡ heard x t c outside.Made
      became = hears.became ∙ ap (λ (d : OpenCall). heard x t d outside.Made) same

  pub hears_keep : turn_of c ≡ turn.Hears → HearsAt t v outside.Made i j → IsWhole j
  hears_keep is (p, hears, vars) = hears_in (var_at i v) p refl is hears vars
