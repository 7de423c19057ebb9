-- What each step leaves of a call at a condition variable: what it was asked, and that its deadline hasn't come.
use Rattle.std.proofs.Common.{◌≡◌, ◌≢◌, ◌⊎◌, inl, inr, ℕ, zero, suc, ◌==◌, ◌||◌, Bool, true, false, cond, List, Option}
use Rattle.std.proofs.Common.{Some, None, slice_set, refl, sym, ap, ◌∙◌, subst}
use Rattle.std.specs.Option.{option_map}
use Rattle.std.proofs.lemmas.Bool.{cases_eq}
use Rattle.std.proofs.lemmas.Option.{none-some, same_Some}
use Rattle.parking_lot_machine_sides.specs.declared.condvar.calls.CondvarCall.{CondvarCall}
use Rattle.parking_lot_machine_sides.specs.declared.condvar.calls.CondvarReply.{CondvarReply}
use Rattle.parking_lot_machine_sides.specs.declared.condvar.open_call.Core.{Core}
use Rattle.parking_lot_machine_sides.specs.declared.condvar.open_call.OpenCall.{OpenCall}
use Rattle.parking_lot_machine_sides.specs.declared.condvar.outside.Outside.{Outside}
use Rattle.parking_lot_machine_sides.specs.declared.condvar.outside.Outside.TheVariants as outside
use Rattle.parking_lot_machine_sides.specs.Condvar.Calls.{is_of_all, off_list, reply_by, reply_in_notify, reply_in_wait}
use Rattle.parking_lot_machine_sides.specs.Condvar.Calls.{reply_of, took_one}
use Rattle.parking_lot_machine_sides.specs.Condvar.Machines.{State as Var, call_at as var_call_at, is_left}
use Rattle.parking_lot_machine_sides.specs.Condvar.Outsides.{told, told_by, wait_hears}
use Rattle.parking_lot_machine_sides.specs.Condvar.OwnSteps.{notify_goes, queue_after_wait, stepped, stepped_by}
use Rattle.parking_lot_machine_sides.specs.Condvar.OwnSteps.{wait_goes, wait_sees}
use Rattle.parking_lot_machine_sides.specs.Condvar.Steps as vars
use Rattle.parking_lot_rules.proofs.Slots.{at_slot, set_elsewhere, set_here}
use Rattle.parking_lot_protocol.specs.declared.act.CoreAnswer.{CoreAnswer}
use Rattle.parking_lot_protocol.specs.declared.act.CoreAnswer.TheVariants as answer
use Rattle.parking_lot_core_model.specs.declared.parking.UnparkToken.{UnparkToken}
use Rattle.parking_lot_protocol_waits.specs.WaitTable.{next_phase, shown_by}
use Rattle.parking_lot_protocol_waits.specs.declared.notify_core.NotifyCore.{NotifyCore}
use Rattle.parking_lot_protocol_waits.specs.declared.notify_core.NotifyPhase.{NotifyPhase}
use Rattle.parking_lot_protocol_waits.specs.declared.notify_core.NotifyPhase.TheVariants as n
use Rattle.parking_lot_protocol_waits.specs.declared.wait_act.WaitAnswer.TheVariants as end
use Rattle.parking_lot_protocol_waits.specs.declared.notify_act.NotifySeen.{NotifySeen}
use Rattle.parking_lot_protocol_waits.specs.declared.wait_act.WaitSeen.{WaitSeen}
use Rattle.parking_lot_protocol_waits.specs.declared.wait_act.WaitSeen.TheVariants.{Start, Word, Made, Woken, Expired}
use Rattle.parking_lot_protocol_waits.specs.declared.wait_core.WaitCore.{WaitCore}
use Rattle.parking_lot_protocol_waits.specs.declared.wait_core.WaitPhase.{WaitPhase}
use Rattle.parking_lot_protocol_waits.specs.declared.wait_core.WaitPhase.TheVariants as w
use Rattle.parking_lot_machine_waits.specs.declared.turn.Turn.{Turn}
use Rattle.parking_lot_machine_waits.specs.declared.turn.Turn.TheVariants as turn
use Rattle.parking_lot_machine_waits.specs.Joint.{Joint, call_at, call_in, var_at, var_in}
use Rattle.parking_lot_machine_waits.specs.JointSteps.{ActsAt, ActsIn, BeginsIn, FollowsAs, HearsAt, HearsIn, HearsOf}
use Rattle.parking_lot_machine_waits.specs.JointSteps.{Turned}
use Rattle.parking_lot_machine_waits.specs.Moving.{AreTaken, NotifiesIn, Notifies}
use Rattle.parking_lot_machine_waits.specs.Turns.{is_late, wait_wakes, wakes_with}
use Rattle.parking_lot_machine_waits.proofs.RankParts.{var_here}
use Rattle.parking_lot_machine_waits.proofs.Sections.{var_elsewhere}
use Rattle.parking_lot_machine_calls.specs.declared.open_call.Call.{Call}
use Rattle.parking_lot_machine.specs.Rows.{State}

-- WHETHER ITS DEADLINE HAS COME, AND NOTHING SINCE SAYS THAT IT WAS NOTIFIED

abbrev pub phase_late : WaitPhase → Bool
phase_late (w.Expires m) = true
phase_late (w.Quits m) = true
phase_late w.Forgets = true
phase_late (w.Leaves timed_out) = timed_out
phase_late (w.Locks timed_out) = timed_out
phase_late (w.Ends end.TimedOut) = true
phase_late p = false

abbrev pub core_late : Core → Bool
core_late (Core.Wait k) = phase_late k.phase
core_late (Core.Notify k) = false

either : (b : Bool) (p q : WaitPhase) → phase_late p ≡ false → phase_late q ≡ false → phase_late (cond b p q) ≡ false
either true p q e f = e
either false p q e f = f

-- nothing but its deadline makes it late
next_in_time : (p : WaitPhase) (s : WaitSeen) → phase_late p ≡ false → s ≢ Expired → phase_late (next_phase p s) ≡ false
next_in_time (w.Waiting m) Start e ne = refl
next_in_time w.Stranger Start e ne = refl
next_in_time w.GivingWay Start e ne = refl
next_in_time (w.Enters m) Made e ne = refl
next_in_time w.Retreats Made e ne = refl
next_in_time (w.Appends m) Made e ne = refl
next_in_time (w.Shows m) Made e ne = refl
next_in_time (w.Rests m) Made e ne = refl
next_in_time (w.Unlocks m) Made e ne = refl
next_in_time w.Masks Made e ne = refl
next_in_time w.Yields Made e ne = refl
next_in_time (w.Leaves false) Made e ne = refl
next_in_time (w.Locks false) Made e ne = refl
next_in_time w.Looks (Word k) e ne = either (k == 0) _ _ refl refl
next_in_time (w.Checks m) (Word k) e ne = either ((k == 0) || (k == shown_by m)) (w.Appends m) w.Retreats refl refl
next_in_time (w.Sleeps m) (Woken token) e ne = either (token.0 == 1) _ _ refl refl
next_in_time (w.Sleeps m) Expired e ne = absurd (ne refl)
next_in_time (w.Resumes token) Made e ne = either (token.0 == 1) _ _ refl refl
next_in_time (w.Leaves true) s e ne = absurd cc
next_in_time (w.Locks true) s e ne = absurd cc
next_in_time (w.Expires m) s e ne = absurd cc
next_in_time (w.Quits m) s e ne = absurd cc
next_in_time w.Forgets s e ne = absurd cc
next_in_time (w.Ends end.TimedOut) s e ne = absurd cc
next_in_time p s e ne = refl

sees_no_deadline : (word : ℕ) (left : Bool) (p : WaitPhase) → wait_sees word left p ≢ Expired
sees_no_deadline word left (w.Checks k) e = cc
sees_no_deadline word left (w.Quits k) e = cc
sees_no_deadline word left p e = cc

hears_no_deadline : (seen : Outside) → seen ≢ outside.Expired → wait_hears seen ≢ Expired
hears_no_deadline outside.Made ne e = cc
hears_no_deadline (outside.Woken token) ne e = cc
hears_no_deadline outside.Expired ne e = ne refl
hears_no_deadline (outside.Quit last) ne e = cc
hears_no_deadline (outside.WasTaken token) ne e = cc
hears_no_deadline (outside.Marked locked) ne e = cc
hears_no_deadline (outside.Moved unparked requeued) ne e = cc

wakes_no_deadline : (k : Core) (token : UnparkToken) → wakes_with k token ≢ outside.Expired
wakes_no_deadline (Core.Wait q) token e = by q.phase e
  where
    by : (p : WaitPhase) → wait_wakes p token ≢ outside.Expired
    by (w.Quits m) e = cc
    by p e = cc
wakes_no_deadline (Core.Notify q) token e = cc

-- A CALL THAT GOES ON

-- it was asked the same, and where its deadline hadn't come, it still hasn't
pub record WaitsOn (c : OpenCall) (o : Option OpenCall) : Type 0 where
  pub call : OpenCall
  pub here : o ≡ Some call
  pub same : call.call ≡ c.call
  pub in_time : core_late c.core ≡ false → core_late call.core ≡ false

waits_itself : (c : OpenCall) (o : Option OpenCall) → o ≡ Some c → WaitsOn c o
waits_itself c o e = record { call = c; here = e; same = refl; in_time = λ x. x }

waits_then : (c : OpenCall) (o p : Option OpenCall) (a : WaitsOn c o) → ((d : OpenCall) → o ≡ Some d → WaitsOn d p)
    → WaitsOn c p
waits_then c o p a next =
    (let b = next a.call a.here in
    record { call = b.call; here = b.here; same = b.same ∙ a.same; in_time = λ x. b.in_time (a.in_time x) })

-- AT ITS VARIABLE, BY ANY THREAD u

module _ (t : ℕ) where
  abbrev Keeps : Var → Var → Type 0
  Keeps x y = (c : OpenCall) → var_call_at x t ≡ Some c → WaitsOn c (var_call_at y t)

  keeps_both : (x y z : Var) → Keeps x y → Keeps y z → Keeps x z
  keeps_both x y z a b c here = waits_then c (var_call_at y t) (var_call_at z t) (a c here) b

  -- what it hears itself, and what another does
  told_on : (c : OpenCall) (left : Bool) (seen : Outside) (k : Core) → c.core ≡ k → seen ≢ outside.Expired
      → WaitsOn c (Some (told_by c left seen k))
  told_on c left seen (Core.Wait q) e ne =
      record {
        call = _;
        here = refl;
        same = refl;
        in_time = λ x. next_in_time q.phase (wait_hears seen)
            (sym (ap core_late e) ∙ x) (hears_no_deadline seen ne);
      }
  told_on c left seen (Core.Notify q) e ne = record { call = _; here = refl; same = refl; in_time = λ x. refl }

  told_keeps : (u : ℕ) (seen : Outside) (x y : Var) → seen ≢ outside.Expired → vars.IsTold u seen x y → Keeps x y
  told_keeps u seen x y ne z c here = elim (cases_eq t u) [
    | inr other ↦ waits_itself c (var_call_at y t)
        (ap (λ (a : Var). var_call_at a t) z.became ∙ set_elsewhere x.calls u t _ other ∙ here)
    | inl same ↦
        let mine = same_Some z.call c (sym z.here ∙ ap (var_call_at x) (sym same) ∙ here) in
        subst (WaitsOn c) (sym (
        ap (λ (a : Var). var_call_at a t) z.became
        ∙ ap (λ v. at_slot (slice_set x.calls u (Some (told z.call x.queue seen))) v) same
        ∙ set_here x.calls u z.call _ z.here
        ∙ ap (λ d. Some (told d x.queue seen)) mine
        )) (told_on c (is_left x.queue) seen c.core refl ne)
  ]

  -- its deadline is another's
  late_keeps : (u : ℕ) (seen : Outside) (x y : Var) → t ≢ u → vars.IsTold u seen x y → Keeps x y
  late_keeps u seen x y other z c here = waits_itself c (var_call_at y t)
      (ap (λ (a : Var). var_call_at a t) z.became ∙ set_elsewhere x.calls u t _ other ∙ here)

  begun_keeps : (u : ℕ) (d : CondvarCall) (x y : Var) → t ≢ u → vars.IsBegun u d x y → Keeps x y
  begun_keeps u d x y other z c here = waits_itself c (var_call_at y t)
      (ap (λ (a : Var). var_call_at a t) z.became ∙ set_elsewhere x.calls u t _ other ∙ here)

  -- an act of its own, but the last
  wait_goes_on : (c : OpenCall) (q : WaitCore) (seen : WaitSeen) (p : WaitPhase) → c.core ≡ Core.Wait q
      → reply_in_wait p ≡ None → seen ≢ Expired → WaitsOn c (wait_goes c q seen p)
  wait_goes_on c q seen (w.Ends a) e none ne = absurd (none-some _ (sym none))
  wait_goes_on c q seen (w.Quits m) e none ne =
      record {
        call = _;
        here = refl;
        same = refl;
        in_time = λ x. next_in_time q.phase seen (sym (ap core_late e) ∙ x)
            ne;
      }
  wait_goes_on c q seen p e none ne =
      record {
        call = _;
        here = refl;
        same = refl;
        in_time = λ x. next_in_time q.phase seen (sym (ap core_late e) ∙ x)
            ne;
      }

  notify_goes_on : (c : OpenCall) (q : NotifyCore) (seen : NotifySeen) (p : NotifyPhase)
      → reply_in_notify (is_of_all c.call) p ≡ None → WaitsOn c (notify_goes c q seen p)
  notify_goes_on c q seen (n.Ends count) none = absurd (none-some _ (sym none))
  notify_goes_on c q seen p none = record { call = _; here = refl; same = refl; in_time = λ x. refl }

  acts_on : (x : Var) (u : ℕ) (c : OpenCall) (k : Core) → c.core ≡ k → reply_of c ≡ None → var_call_at x u ≡ Some c
      → WaitsOn c (var_call_at (stepped_by k x u c) u)
  acts_on x u c (Core.Wait q) e none here =
      subst (WaitsOn c) (sym (set_here x.calls u c _ here))
      (wait_goes_on c q _ q.phase e (sym (ap (reply_by c.call) e) ∙ none)
      (sees_no_deadline x.word (is_left (queue_after_wait u q.phase x.queue)) q.phase))
  acts_on x u c (Core.Notify q) e none here = subst (WaitsOn c) (sym (set_here x.calls u c _ here))
      (notify_goes_on c q _ q.phase (sym (ap (reply_by c.call) e) ∙ none))

  acted_itself : (x y : Var) → vars.IsStepped t None x y → Keeps x y
  acted_itself x y z c here =
      let mine = same_Some z.call c (sym z.here ∙ here) in
      subst (WaitsOn c) (sym
      (ap (λ (a : Var). var_call_at a t) z.became ∙ ap (λ d. var_call_at (stepped x t d) t) mine))
      (acts_on x t c c.core refl (ap reply_of (sym mine) ∙ sym z.replies) here)

  -- an act of another
  stepped_set : (k : Core) (x : Var) (u : ℕ) (c : OpenCall) → (o : Option OpenCall)
      × ((stepped_by k x u c).calls ≡ slice_set x.calls u o)
  stepped_set (Core.Wait q) x u c = (_, refl)
  stepped_set (Core.Notify q) x u c = (_, refl)

  acted_other : (u : ℕ) (reply : Option CondvarReply) (x y : Var) → t ≢ u → vars.IsStepped u reply x y → Keeps x y
  acted_other u reply x y other z c here =
      let (o, e) = stepped_set z.call.core x u z.call in
      waits_itself c (var_call_at y t) (ap (λ (a : Var). var_call_at a t) z.became ∙ ap (λ cs. at_slot cs t) e
      ∙ set_elsewhere x.calls u t o other ∙ here)

  -- a taking, by itself or by another
  taken_keeps : (u v : ℕ) (x y : Var) → vars.IsTaken u v x y → Keeps x y
  taken_keeps u v x y z c here = elim (cases_eq t u) [
    | inl same ↦
        let mine = same_Some z.call c (sym z.here ∙ ap (var_call_at x) (sym same) ∙ here) in
        record {
          call = took_one z.call;
          here = ap (λ (a : Var). var_call_at a t) z.became ∙ ap (at_slot (slice_set off u (Some (took_one z.call))))
              same ∙ written;
          same = ap (λ (d : OpenCall). d.call) mine;
          in_time = λ q. ap (λ (d : OpenCall). core_late d.core) mine ∙ q;
        }
    | inr other ↦ subst (WaitsOn c) (sym (ap (λ (a : Var). var_call_at a t) z.became ∙ set_elsewhere off u t _ other))
        (taken_off (cases_eq t v))
  ]
    where
      off : List (Option OpenCall)
      off = slice_set x.calls v (option_map off_list (at_slot x.calls v))

      -- one that stands there still, or was taken off its list
      still : (k : ℕ) (d : OpenCall) → at_slot x.calls k ≡ Some d → (e : OpenCall) × (at_slot off k ≡ Some e)
      still k d is = elim (cases_eq k v) [
        | inl same ↦ (
          off_list d,
          ap (at_slot off) same ∙ set_here x.calls v d _ (ap (at_slot x.calls) (sym same) ∙ is)
              ∙ ap (option_map off_list) (ap (at_slot x.calls) (sym same) ∙ is),
        )
        | inr apart ↦ (d, set_elsewhere x.calls v k _ apart ∙ is)
      ]

      written : at_slot (slice_set off u (Some (took_one z.call))) u ≡ Some (took_one z.call)
      written = (let there = still u z.call z.here in set_here off u there.0 _ there.1)

      taken_off : ((t ≡ v) ⊎ (t ≢ v)) → WaitsOn c (at_slot off t)
      taken_off (inl same) = record {
        call = off_list c;
        here = ap (at_slot off) same ∙ set_here x.calls v c _ (ap (at_slot x.calls) (sym same) ∙ here)
            ∙ ap (option_map off_list) (ap (at_slot x.calls) (sym same) ∙ here);
        same = refl;
        in_time = λ q. q;
      }
      taken_off (inr apart) = waits_itself c (at_slot off t) (set_elsewhere x.calls v t _ apart ∙ here)

  all_taken : (u m : ℕ) (x y : Var) → AreTaken u m x y → Keeps x y
  all_taken u zero x y e c here = waits_itself c (var_call_at y t) (ap (λ (a : Var). var_call_at a t) e ∙ here)
  all_taken u (suc m) x y (z, before, v, last) c here = keeps_both x z y (all_taken u m x z before)
      (taken_keeps u v z y last) c here

  notified_keeps : (u : ℕ) (locked : Bool) (m : ℕ) (x y : Var) → Notifies u locked m x y → Keeps x y
  notified_keeps u locked m x y z =
      keeps_both x z.taken y
      (keeps_both x z.marked z.taken (told_keeps u (outside.Marked locked) x z.marked (λ e. cc) z.looks)
      (all_taken u m z.marked z.taken z.takes)) (told_keeps u _ z.taken y (λ e. cc) z.tells)

  -- IN THE MACHINE

  abbrev pub KeepsAt : Joint → Joint → Type 0
  KeepsAt i j = (v : ℕ) (c : OpenCall) → call_at i v t ≡ Some c → WaitsOn c (call_at j v t)

  pub same_keeps : (i j : Joint) → j.vars ≡ i.vars → KeepsAt i j
  same_keeps i j e v c here =
      waits_itself c (call_at j v t) (ap (λ (vs : List (Option Var)). call_in (var_in vs v) t) e ∙ here)

  at_variable : (i j : Joint) (m : ℕ) (x y : Var) → var_at i m ≡ Some x → j.vars ≡ slice_set i.vars m (Some y)
      → Keeps x y → KeepsAt i j
  at_variable i j m x y at e keeps v c here = elim (cases_eq v m) [
    | inl same ↦
        subst (WaitsOn c)
        (sym (ap (λ (o : Option Var). call_in o t) (ap (var_at j) same ∙ var_here i.vars j.vars m x y at e)))
        (keeps c (sym (ap (λ (o : Option Var). call_in o t) (ap (var_at i) same ∙ at)) ∙ here))
    | inr other ↦ waits_itself c (call_at j v t)
        (ap (λ (o : Option Var). call_in o t) (var_elsewhere i.vars j.vars m v (Some y) e other) ∙ here)
  ]

  -- something is done at variable m, where there is one
  in_place : (P : Option Var → Option Var → Type 0) (i j : Joint) (m : ℕ)
      → ((x y : Var) → P (Some x) (Some y) → Keeps x y) → ((y : Option Var) → P None y → ⊥)
      → ((x : Var) → P (Some x) None → ⊥)
      → (y : Option Var) → P (var_at i m) y → j.vars ≡ slice_set i.vars m y → KeepsAt i j
  in_place P i j m keeps no_first no_second y done e = go (var_at i m) refl y done e
    where
      go : (o : Option Var) → var_at i m ≡ o → (y : Option Var) → P o y → j.vars ≡ slice_set i.vars m y → KeepsAt i j
      go None at y done e = absurd (no_first y done)
      go (Some x) at None done e = absurd (no_second x done)
      go (Some x) at (Some y) done e = at_variable i j m x y at e (keeps x y done)

  heard : (u m : ℕ) (seen : Outside) (i j : Joint) → seen ≢ outside.Expired → HearsAt u m seen i j → KeepsAt i j
  heard u m seen i j ne (y, hears, e) = in_place (HearsIn u seen) i j m (λ x z h. told_keeps u seen x z ne h) (λ z h. h)
      (λ x h. h) y hears e

  pub late_other : (u m : ℕ) (seen : Outside) (i j : Joint) → t ≢ u → HearsAt u m seen i j → KeepsAt i j
  late_other u m seen i j other (y, hears, e) = in_place (HearsIn u seen) i j m (λ x z h. late_keeps u seen x z other h)
      (λ z h. h) (λ x h. h) y hears e

  acted_by_other : (u m : ℕ) (reply : Option CondvarReply) (i j : Joint) → t ≢ u → ActsAt u m reply i j → KeepsAt i j
  acted_by_other u m reply i j other (y, acts, e) = in_place (ActsIn u reply) i j m
      (λ x z h. acted_other u reply x z other h) (λ z h. h) (λ x h. h) y acts e

  acted_by_itself : (m : ℕ) (i j : Joint) → ActsAt t m None i j → KeepsAt i j
  acted_by_itself m i j (y, acts, e) = in_place (ActsIn t None) i j m (λ x z h. acted_itself x z h) (λ z h. h)
      (λ x h. h) y acts e

  pub begun_other : (u m : ℕ) (d : CondvarCall) (i j : Joint) → t ≢ u → (y : Option Var) → BeginsIn u d (var_at i m) y
      → j.vars ≡ slice_set i.vars m y → KeepsAt i j
  begun_other u m d i j other y begins e = in_place (BeginsIn u d) i j m (λ x z h. begun_keeps u d x z other h)
      (λ z h. h) (λ x h. h) y begins e

  heard_of : (a : Option CoreAnswer) (u m : ℕ) (i j : Joint) → HearsOf a u m i j → KeepsAt i j
  heard_of None u m i j e = same_keeps i j e
  heard_of (Some a) u m i j hears = heard u m outside.Made i j (λ e. cc) hears

  followed : (late : Bool) (a : Option CoreAnswer) (u k m : ℕ) (o : OpenCall) (d : Call) (i j : Joint) (mid : State)
      → FollowsAs late a u k m o d i mid j → KeepsAt i j
  followed true None u k m o d i j mid (same, vars) = same_keeps i j vars
  followed false None u k m o d i j mid (same, hears) = heard u m _ i j (wakes_no_deadline o.core _) hears
  followed true (Some answer.Owned) u k m o d i j mid (same, hears) = heard u m _ i j (wakes_no_deadline o.core _) hears
  followed false (Some answer.Owned) u k m o d i j mid (same, hears) = heard u m _ i j (wakes_no_deadline o.core _)
      hears
  followed true (Some answer.Refused) u k m o d i j mid (begins, hears) = heard u m _ i j (wakes_no_deadline o.core _)
      hears
  followed false (Some answer.Refused) u k m o d i j mid (begins, hears) = heard u m _ i j (wakes_no_deadline o.core _)
      hears
  followed true (Some answer.Released) u k m o d i j mid (begins, hears) = heard u m _ i j (wakes_no_deadline o.core _)
      hears
  followed false (Some answer.Released) u k m o d i j mid (begins, hears) = heard u m _ i j (wakes_no_deadline o.core _)
      hears

  -- a turn of thread u, whose act at the variable keeps the call
  turned : (i j : Joint) (u m : ℕ) (fair : Bool) (c : OpenCall) (reply : Option CondvarReply)
      → (ActsAt u m reply i j → KeepsAt i j) → (x : Turn) → Turned x u m fair c reply i j → KeepsAt i j
  turned i j u m fair c reply acts turn.Sleeps z = absurd z
  turned i j u m fair c reply acts turn.Acts (made, same) = acts made
  turned i j u m fair c reply acts turn.GivesUp (made, begins) = acts made
  turned i j u m fair c reply acts turn.LocksAgain (made, begins) = acts made
  turned i j u m fair c reply acts turn.Unlocks (none, a, x, hears) = heard_of a u m i j hears
  turned i j u m fair c reply acts turn.Locks (none, a, x, hears) = heard_of a u m i j hears
  turned i j u m fair c reply acts turn.Follows (none, z) = followed (is_late z.d.core) z.answer u _ m c z.d i j z.mid
      z.onward
  turned i j u m fair c reply acts turn.ComesBack (none, hears, back) = heard u m outside.Made i j (λ e. cc) hears
  turned i j u m fair c reply acts turn.Hears (none, hears, same) = heard u m outside.Made i j (λ e. cc) hears
  turned i j u m fair c reply acts turn.Moves (none, z) =
      in_place (NotifiesIn u _ _) i j m (λ x y h. notified_keeps u _ _ x y h) (λ y h. h) (λ x h. h) z.notifies.0
      z.notifies.1 z.notifies.2

  pub turned_other : (i j : Joint) (u m : ℕ) (fair : Bool) (c : OpenCall) (reply : Option CondvarReply) → t ≢ u
      → (x : Turn) → Turned x u m fair c reply i j → KeepsAt i j
  turned_other i j u m fair c reply other x z =
      turned i j u m fair c reply (λ made. acted_by_other u m reply i j other made) x z

  pub turned_itself : (i j : Joint) (m : ℕ) (fair : Bool) (c : OpenCall) → (x : Turn) → Turned x t m fair c None i j
      → KeepsAt i j
  turned_itself i j m fair c x z = turned i j t m fair c None (λ made. acted_by_itself m i j made) x z
