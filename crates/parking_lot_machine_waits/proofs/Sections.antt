-- A step at a lock opens no section but its own number's, and a step at a variable leaves the calls of others in their
-- phases.
use Rattle.std.proofs.Common.{◌≡◌, ◌≢◌, inl, inr, ℕ, zero, suc, ◌==◌, ◌≤◌, ◌||◌, Bool, true, false, cond, List, []}
use Rattle.std.proofs.Common.{◌∷◌, length, Option, Some, None, option_map, slice_get, slice_set, refl, sym, ap, ◌∙◌}
use Rattle.std.proofs.Common.{subst}
use Rattle.std.specs.Option.{option_and_then}
use Rattle.std.proofs.lemmas.Bool.{cases_eq, cases_lt, ne_eqb}
use Rattle.std.proofs.lemmas.List.{length-set}
use Rattle.std.proofs.lemmas.Option.{none-some, same_Some, slice_get_past}
use Rattle.parking_lot_core_model.specs.declared.place.Phase.{Phase}
use Rattle.parking_lot_core_model.specs.declared.place.Section.{Section}
use Rattle.parking_lot_core_model.specs.Lists.{updated}
use Rattle.parking_lot_core_model.specs.Machine.{Machine, entered_by, fresh_section, in_phase, let_out, open_at, opened}
use Rattle.parking_lot_core_model.specs.Machine.{stored}
use Rattle.parking_lot_core_model.proofs.Entering.{open_within, phase_within}
use Rattle.parking_lot_core_model.proofs.Kept.{by_eqb, updated_at, updated_other}
use Rattle.parking_lot_protocol.specs.declared.act.Act.{Act}
use Rattle.parking_lot_protocol.specs.declared.act.CoreAnswer.{CoreAnswer}
use Rattle.parking_lot_protocol.specs.declared.act.SectionAct.{SectionAct}
use Rattle.parking_lot_machine_sides.specs.declared.condvar.open_call.Core.{Core as VarCore}
use Rattle.parking_lot_machine_sides.specs.declared.condvar.open_call.Core.TheVariants as var_core
use Rattle.parking_lot_machine_sides.specs.declared.condvar.open_call.OpenCall.{OpenCall}
use Rattle.parking_lot_machine_sides.specs.Condvar.Calls.{off_list, took_one}
use Rattle.parking_lot_machine_sides.specs.Condvar.Machines as var
use Rattle.parking_lot_machine_sides.specs.Condvar.Machines.{State as Var}
use Rattle.parking_lot_machine_sides.specs.Condvar.OwnSteps.{stepped_by}
use Rattle.parking_lot_machine_sides.specs.declared.condvar.calls.CondvarCall.{CondvarCall}
use Rattle.parking_lot_machine_sides.specs.declared.condvar.calls.CondvarReply.{CondvarReply}
use Rattle.parking_lot_machine_sides.specs.declared.condvar.outside.Outside.{Outside}
use Rattle.parking_lot_machine_sides.specs.Condvar.Steps as vars
use Rattle.parking_lot_machine_sides.proofs.CondvarFacts.Slots.{call_elsewhere, call_here, find_call}
use Rattle.parking_lot_machine_calls.specs.declared.late_rw.LateRwPhase.{LateRwPhase}
use Rattle.parking_lot_machine_calls.specs.declared.open_call.Call.{Call}
use Rattle.parking_lot_machine_calls.specs.declared.seat.Core.{Core}
use Rattle.parking_lot_machine_calls.specs.declared.seat.LatePhase.{LatePhase}
use Rattle.parking_lot_machine_calls.specs.declared.seat.QueuePosition.{QueuePosition}
use Rattle.parking_lot_machine.specs.LateActs.{came_back, others_left, out_of_list, quitted_as}
use Rattle.parking_lot_machine_calls.specs.LateCalls.{is_pending, late_key}
use Rattle.parking_lot_machine.specs.Machines.{Became, BecameInside, BecameLate, IsStepped}
use Rattle.parking_lot_machine.specs.RowActs.{entered, key_in, left}
use Rattle.parking_lot_machine.specs.Requeues.{lot_with}
use Rattle.parking_lot_machine_calls.specs.CallActs.{key_of}
use Rattle.parking_lot_machine.specs.Rows.{State, first_key, word_at}
use Rattle.parking_lot_machine_calls.specs.Stances.{core_act, sign}
use Rattle.parking_lot_machine_waits.specs.declared.seat.Seat.{Seat}
use Rattle.parking_lot_machine_waits.specs.Joint.{Joint, call_at, call_in, var_at, var_in}
use Rattle.parking_lot_machine_waits.specs.JointSteps.{ActsAt, ActsIn, HearsAt, HearsIn}
use Rattle.parking_lot_machine_waits.specs.Moving.{AreMoved, AreMovedAs, AreTaken, Notifies, back_in}
use Rattle.parking_lot_machine_waits.proofs.RankParts.{var_here}

-- WHO IS INSIDE

-- the key of the section that each number is in
abbrev pub inside : State → ℕ → Option ℕ
inside s = s.lot.inside

-- whoever was in no section is in none, but for that number
abbrev pub Opens : ℕ → (ℕ → Option ℕ) → (ℕ → Option ℕ) → Type 0
Opens t before after = (k : ℕ) → before k ≡ None → k ≢ t → after k ≡ None

-- and nor is that one
abbrev pub NobodyComes : (ℕ → Option ℕ) → (ℕ → Option ℕ) → Type 0
NobodyComes before after = (k : ℕ) → before k ≡ None → after k ≡ None

pub none_comes : (before after : ℕ → Option ℕ) → after ≡ before → NobodyComes before after
none_comes before after e k none = ap (λ (f : ℕ → Option ℕ). f k) e ∙ none

pub stays_open : (t : ℕ) (before after : ℕ → Option ℕ) → after ≡ before → Opens t before after
stays_open t before after e k none ne = none_comes before after e k none

own_open : (t key : ℕ) (before : ℕ → Option ℕ) → Opens t before (updated before t (Some key))
own_open t key before k none ne = updated_other before t (Some key) k (ne_eqb k t ne) ∙ none

-- whose section is closed comes into none
closes_out : (o : Option ℕ) (before : ℕ → Option ℕ) → NobodyComes before (let_out o before)
closes_out None before k none = none
closes_out (Some w) before k none = by_eqb k w (updated before w None k ≡ None)
    (λ e. ap (updated before w None) e ∙ updated_at before w None)
    (λ e. updated_other before w None k e ∙ none)

module _ (s : State) (t : ℕ) (c : Call) where
  is : (u v : State) → u ≡ v → Opens t (inside s) (inside v) → Opens t (inside s) (inside u)
  is u v e x = subst (λ (y : State). Opens t (inside s) (inside y)) (sym e) x

  still : (u v : State) → u ≡ v → inside v ≡ inside s → Opens t (inside s) (inside u)
  still u v e same = is u v e (stays_open t (inside s) (inside v) same)

  either : (b : Bool) (x y : State) → inside x ≡ inside s → inside y ≡ inside s → inside (cond b x y) ≡ inside s
  either true x y p q = p
  either false x y p q = q

  in_section : (k : SectionAct) (fair : Bool) (u : State) → BecameInside k t fair c s u → Opens t (inside s) (inside u)
  in_section SectionAct.Check fair u e = still u _ e refl
  in_section SectionAct.TakeFirst fair u (k, stands, inl (nth, w, first, e)) = still u _ e refl
  in_section SectionAct.TakeFirst fair u (k, stands, inr (empty, e)) = still u _ e refl
  in_section (SectionAct.TakeNext sum) fair u (k, stands, inl (nth, w, first, e)) = still u _ e refl
  in_section (SectionAct.TakeNext sum) fair u (k, stands, inr (empty, e)) = still u _ e refl
  in_section (SectionAct.Append token) fair u (k, stands, e) = still u _ e refl
  in_section (SectionAct.Store plain handing) fair u e = still u _ e refl
  in_section SectionAct.Leave fair u e =
      is u (left s t c) e (λ k none ne. closes_out (entered_by s.lot (key_in c)) (inside s) k none)
  in_section SectionAct.Wake fair u (inl (e, d, token, due, became)) = still u _ became refl
  in_section SectionAct.Wake fair u (inr (nobody, became)) = still u _ became refl

  comes : (at : QueuePosition) → inside (came_back at s t c) ≡ updated (inside s) t (Some (late_key c))
  comes QueuePosition.Listed = refl
  comes (QueuePosition.Off by said) = refl

  back : (u : State) → u ≡ came_back c.spot s t c → Opens t (inside s) (inside u)
  back u e = is u (came_back c.spot s t c) e
      (subst (Opens t (inside s)) (sym (comes c.spot)) (own_open t (late_key c) (inside s)))

  quits : (left : Bool) → inside (quitted_as s t c left) ≡ inside s
  quits left = go (left || is_pending c.core)
    where
      go : (b : Bool) → (cond b (stored (out_of_list s t c) (late_key c) (sign false)) (out_of_list s t c)).inside
          ≡ inside s
      go true = refl
      go false = refl

  late : (k : Core) (u : State) → BecameLate k t c s u → Opens t (inside s) (inside u)
  late (Core.Late LatePhase.Expires) u e = back u e
  late (Core.Late LatePhase.Quits) u e = still u _ e (quits (others_left s t c))
  late (Core.LateRw (LateRwPhase.Expires z)) u e = back u e
  late (Core.LateRw (LateRwPhase.Quits z)) u e = still u _ e (quits (others_left s t c))
  late k u e = absurd e

  became : (a : Act) (fair : Bool) (u : State) → Became a t fair c s u → Opens t (inside s) (inside u)
  became Act.Load fair u e = still u _ e refl
  became (Act.Exchange from to) fair u e = still u _ e (either (word_at s c.lock == from) _ _ refl refl)
  became (Act.Add by) fair u e = still u _ e refl
  became (Act.FetchAnd keep) fair u e = still u _ e refl
  became Act.Spin fair u e = still u _ e refl
  became (Act.Enter key) fair u e = is u (entered s t c key) e (own_open t (key_of c key) (inside s))
  became (Act.Section next) fair u e = in_section next fair u e
  became Act.Sleep fair u e = late c.core u e
  became (Act.Done answer) fair u e = still u _ e refl

pub step_opens : (s u : State) (t : ℕ) (fair : Bool) (answer : Option CoreAnswer) → IsStepped t fair answer s u
    → Opens t (inside s) (inside u)
step_opens s u t fair answer x = became s t x.call (core_act x.call.core) fair u x.became

-- one that joins a list in a section of its own has left it
joined_out : (m : Machine) (v key : ℕ) → NobodyComes m.inside (lot_with m v key).inside
joined_out m v key k none =
    by_eqb k v ((lot_with m v key).inside k ≡ None)
    (λ e. ap (lot_with m v key).inside e
    ∙ (ap (λ (o : Option ℕ). let_out o (updated m.inside v (Some key)) v) who
    ∙ updated_at (updated m.inside v (Some key)) v None))
    (λ e. closes_out (entered_by at_end key) (updated m.inside v (Some key)) k
    (updated_other m.inside v (Some key) k e ∙ none))
  where
    so_far : Phase → Section
    so_far ph = record (fresh_section (Some v) key) { phase = ph }

    at_end : Machine
    at_end = in_phase (in_phase (opened m (Some v) key) key Phase.Valid) key Phase.Joined

    who : entered_by at_end key ≡ Some v
    who = ap (option_and_then (λ (x : Section). x.thread))
        (ap (λ (n : Machine). open_at (in_phase n key Phase.Joined) key)
        (phase_within m (so_far Phase.Fresh) Phase.Valid)
        ∙ (ap (λ (n : Machine). open_at n key) (phase_within m (so_far Phase.Valid) Phase.Joined)
        ∙ open_within m (so_far Phase.Joined)))

-- those that are moved come into none
are_out : (seats : List Seat) (x : Var) (lock : ℕ) (ws : List ℕ) (s u : State) → AreMoved seats x lock ws s u
    → NobodyComes (inside s) (inside u)
are_out seats x lock [] s u e k none = none_comes (inside s) (inside u) (ap inside e) k none
are_out seats x lock (v ∷ ws) s u (m, first, rest) k none =
    are_out seats x lock ws m u rest k
    (ap (λ (y : State). inside y k) first.became
    ∙ joined_out s.lot (back_in seats v) (first_key lock) k none)

pub moved_shut : (locked : Bool) (seats : List Seat) (x : Var) (lock : ℕ) (ws : List ℕ) (s u : State)
    → AreMovedAs locked seats x lock ws s u → NobodyComes (inside s) (inside u)
moved_shut true seats x lock ws s u moved k none = are_out seats x lock ws s u moved k none
moved_shut false seats x lock [] s u e k none = none_comes (inside s) (inside u) (ap inside e) k none
moved_shut false seats x lock (v ∷ ws) s u (m, first, rest) k none =
    are_out seats x lock ws m u rest k (ap (λ (y : State). inside y k) first.became ∙ none)

-- OTHERS AT A VARIABLE

-- each of the others is in its phase still
abbrev pub Others : ℕ → Var → Var → Type 0
Others t x y = (u : ℕ) (c : OpenCall) → u ≢ t → var.call_at y u ≡ Some c → (d : OpenCall) × (var.call_at x u ≡ Some d)
    × (d.core ≡ c.core)

others_set : (t : ℕ) (x y : Var) (o : Option OpenCall) → y.calls ≡ slice_set x.calls t o → Others t x y
others_set t x y o e u c ne here = (
  c,
  sym (ap (λ (cs : List (Option OpenCall)). option_and_then (λ (z : Option OpenCall). z) (slice_get cs u)) e
      ∙ call_elsewhere x.calls t u o ne) ∙ here,
  refl,
)

others_both : (t : ℕ) (x y z : Var) → Others t x y → Others t y z → Others t x z
others_both t x y z a b u c ne here =
    let (d, then, same) = b u c ne here in
    let (e, first, was) = a u d ne then in
    (e, first, was ∙ same)

stepped_set : (k : VarCore) (x : Var) (t : ℕ) (c : OpenCall) → (o : Option OpenCall)
    × ((stepped_by k x t c).calls ≡ slice_set x.calls t o)
stepped_set (var_core.Wait q) x t c = (_, refl)
stepped_set (var_core.Notify q) x t c = (_, refl)

off_core : (o : Option OpenCall) (c : OpenCall) → option_map off_list o ≡ Some c → (d : OpenCall) × (o ≡ Some d)
    × (d.core ≡ c.core)
off_core None c e = absurd (none-some c e)
off_core (Some d) c e = (d, refl, ap (λ (z : OpenCall). z.core) (same_Some (off_list d) c e))

pub stepped_others : (t : ℕ) (reply : Option CondvarReply) (x y : Var) → vars.IsStepped t reply x y → Others t x y
stepped_others t reply x y z =
    (let (o, e) = stepped_set z.call.core x t z.call in others_set t x y o (ap (λ (a : Var). a.calls) z.became ∙ e))

pub told_others : (t : ℕ) (seen : Outside) (x y : Var) → vars.IsTold t seen x y → Others t x y
told_others t seen x y z = others_set t x y _ (ap (λ (a : Var). a.calls) z.became)

pub begun_others : (t : ℕ) (c : CondvarCall) (x y : Var) → vars.IsBegun t c x y → Others t x y
begun_others t c x y z = others_set t x y _ (ap (λ (a : Var). a.calls) z.became)

-- the one that is taken is off the list
taken_others : (t w : ℕ) (x y : Var) → vars.IsTaken t w x y → Others t x y
taken_others t w x y z u c ne here = elim (cases_eq u w) [
  | inl e ↦ subst (λ v. (d : OpenCall) × (var.call_at x v ≡ Some d) × (d.core ≡ c.core)) (sym e)
      (off_core (find_call x.calls w) c (sym (mid ∙ ap (find_call off) e ∙ call_there) ∙ here))
  | inr other ↦ (
    c,
    sym (mid ∙ call_elsewhere x.calls w u (option_map off_list (find_call x.calls w)) other) ∙ here,
    refl,
  )
]
  where
    off : List (Option OpenCall)
    off = slice_set x.calls w (option_map off_list (find_call x.calls w))

    mid : var.call_at y u ≡ find_call off u
    mid = ap (λ (a : Var). var.call_at a u) z.became ∙ call_elsewhere off t u (Some (took_one z.call)) ne

    call_there : find_call off w ≡ option_map off_list (find_call x.calls w)
    call_there = elim (cases_lt w (length x.calls)) [
      | inl low ↦ call_here x.calls w (option_map off_list (find_call x.calls w)) low
      | inr high ↦ beyond (slice_get_past x.calls w high)
          (slice_get_past off w
          (subst (λ m. m ≤ w) (sym (length-set x.calls w (option_map off_list (find_call x.calls w)))) high))
    ]
      where
        beyond : slice_get x.calls w ≡ None → slice_get off w ≡ None → find_call off w ≡ option_map off_list
            (find_call x.calls w)
        beyond a b = ap (option_and_then (λ (o : Option OpenCall). o)) b
            ∙ sym (ap (λ o. option_map off_list (option_and_then (λ (p : Option OpenCall). p) o)) a)

same_var : (t : ℕ) (x y : Var) → y ≡ x → Others t x y
same_var t x y e u c ne here = (c, sym (ap (λ (a : Var). var.call_at a u) e) ∙ here, refl)

are_taken_others : (t n : ℕ) (x y : Var) → AreTaken t n x y → Others t x y
are_taken_others t zero x y e = same_var t x y e
are_taken_others t (suc n) x y (z, before, w, last) = others_both t x z y (are_taken_others t n x z before)
    (taken_others t w z y last)

pub notified_others : (t : ℕ) (locked : Bool) (n : ℕ) (x y : Var) → Notifies t locked n x y → Others t x y
notified_others t locked n x y z =
    others_both t x z.taken y
    (others_both t x z.marked z.taken (told_others t _ x z.marked z.looks)
    (are_taken_others t n z.marked z.taken z.takes)) (told_others t _ z.taken y z.tells)

-- IN THE MACHINE

abbrev pub OthersAt : ℕ → Joint → Joint → Type 0
OthersAt t i j = (v u : ℕ) (c : OpenCall) → u ≢ t → call_at j v u ≡ Some c → (d : OpenCall) × (call_at i v u ≡ Some d)
    × (d.core ≡ c.core)

pub same_others : (t : ℕ) (i j : Joint) → j.vars ≡ i.vars → OthersAt t i j
same_others t i j e v u c ne here = (c, sym (ap (λ (vs : List (Option Var)). call_in (var_in vs v) u) e) ∙ here, refl)

pub var_elsewhere : (vars ws : List (Option Var)) (v u : ℕ) (y : Option Var) → ws ≡ slice_set vars v y → u ≢ v
    → var_in ws u ≡ var_in vars u
var_elsewhere vars ws v u y e ne = ap (λ (vs : List (Option Var)). var_in vs u) e ∙ call_elsewhere vars v u y ne

pub var_others : (t w : ℕ) (i j : Joint) (x y : Var) → var_at i w ≡ Some x → j.vars ≡ slice_set i.vars w (Some y)
    → Others t x y → OthersAt t i j
var_others t w i j x y at e others v u c ne here = elim (cases_eq v w) [
  | inl same ↦
      let there = sym (ap (λ (o : Option Var). call_in o u) (ap (var_at j) same ∙ var_here i.vars j.vars w x y at e))
      ∙ here in
      let (d, was, core) = others u c ne there in
      (d, ap (λ (o : Option Var). call_in o u) (ap (var_at i) same ∙ at) ∙ was, core)
  | inr other ↦ (
    c,
    sym (ap (λ (o : Option Var). call_in o u) (var_elsewhere i.vars j.vars w v (Some y) e other))
        ∙ here,
    refl,
  )
]

pub acted_others : (t v : ℕ) (reply : Option CondvarReply) (i j : Joint) → ActsAt t v reply i j → OthersAt t i j
acted_others t v reply i j (z, acts, e) = go (var_at i v) refl z acts e
  where
    go : (o : Option Var) → var_at i v ≡ o → (y : Option Var) → ActsIn t reply o y → j.vars ≡ slice_set i.vars v y
        → OthersAt t i j
    go None at y acts e = absurd acts
    go (Some x) at None acts e = absurd acts
    go (Some x) at (Some y) acts e = var_others t v i j x y at e (stepped_others t reply x y acts)

pub heard_others : (t v : ℕ) (seen : Outside) (i j : Joint) → HearsAt t v seen i j → OthersAt t i j
heard_others t v seen i j (z, hears, e) = go (var_at i v) refl z hears e
  where
    go : (o : Option Var) → var_at i v ≡ o → (y : Option Var) → HearsIn t seen o y → j.vars ≡ slice_set i.vars v y
        → OthersAt t i j
    go None at y hears e = absurd hears
    go (Some x) at None hears e = absurd hears
    go (Some x) at (Some y) hears e = var_others t v i j x y at e (told_others t seen x y hears)
