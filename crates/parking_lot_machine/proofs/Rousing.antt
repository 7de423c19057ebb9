-- The machine once a thread has woken the first of those whom it has taken.
use Rattle.std.proofs.Common.{◌≡◌, ◌≢◌, ℕ, zero, suc, ◌+◌, ◌*◌, ◌≤◌, inl, inr, ◌==◌, cond, not, Bool, true, false, List}
use Rattle.std.proofs.Common.{[], ◌∷◌, length, map, filter, remove, Some, slice_get, slice_set, refl, sym, ap, ◌∙◌}
use Rattle.std.proofs.Common.{subst, arith, eqb-true}
use Rattle.std.specs.List.{position_or_len}
use Rattle.std.proofs.lemmas.Bool.{cases_eq, ne_eqb, eqb-false}
use Rattle.std.proofs.lemmas.List.Edits.{length-remove}
use Rattle.std.proofs.lemmas.Option.{none-some, slice_get_within}
use Rattle.parking_lot_core_model.specs.declared.parking.ParkToken.{ParkToken}
use Rattle.parking_lot_core_model.specs.declared.parking.UnparkToken.{UnparkToken}
use Rattle.parking_lot_core_model.specs.declared.place.Place.TheVariants.{Taken}
use Rattle.parking_lot_core_model.specs.declared.place.Sleep.{Sleep}
use Rattle.parking_lot_core_model.proofs.Numbers.{flag, count_by-set}
use Rattle.parking_lot_rules.proofs.Indexed.{get-set_other}
use Rattle.parking_lot_protocol.specs.declared.act.ActResult.TheVariants as seen
use Rattle.parking_lot_machine_calls.specs.Kinds.{recursive_in}
use Rattle.parking_lot_machine_calls.specs.declared.seat.WakeResult.{WakeResult}
use Rattle.parking_lot_machine_calls.specs.declared.seat.QueuePosition.{QueuePosition}
use Rattle.parking_lot_machine_calls.specs.declared.open_call.Call.{Call}
use Rattle.parking_lot_machine_calls.specs.declared.seat.Wakeup.{Wakeup}
use Rattle.parking_lot_machine.specs.Rows.{State, word_at, hold_at, call_at, is_by, taken_by, rw_lock_at, mutex_at}
use Rattle.parking_lot_machine.specs.Rows.{queue_at}
use Rattle.parking_lot_machine_calls.specs.CallRoles.{mark_of, first_of_all, mutex_spot, mutex_role}
use Rattle.parking_lot_machine_calls.specs.Stances.{In, Takes, Out, Asleep, late_act, stance, core_act, core_next}
use Rattle.parking_lot_machine.specs.RowActs.{woke}
use Rattle.parking_lot_machine_calls.specs.CallActs.{hears, told_of}
use Rattle.parking_lot_machine.specs.RowFits.{FitsTogether, LotFits, PassesFit, RulesFit, WakesFit, IsTaken, IsPrepared}
use Rattle.parking_lot_machine.specs.RowFits.{KnowsList, is_away, is_off, mutex_knows, IsCounted}
use Rattle.parking_lot_machine_calls.specs.CallKinds.{IsOfKind}
use Rattle.parking_lot_machine.specs.TellLaws.{IsDue}
use Rattle.parking_lot_machine.proofs.Calling.{slot}
use Rattle.parking_lot_machine.proofs.Passing.{passes_after}
use Rattle.parking_lot_machine_calls.proofs.Stancing.{sleepers_wake}
use Rattle.parking_lot_machine.proofs.Carrying.{same_call}
use Rattle.parking_lot_machine.proofs.Indexing.{kept_remove}
use Rattle.parking_lot_machine.proofs.KindTable.{MutexCall, Plain, Late, RwCall, Simple, Upgradable, next_is, rw_call}
use Rattle.parking_lot_machine.proofs.KindTable.{rw_next, mutex_call, sleeps_so, woken_so, woken_plain, Kind, of_rws}
use Rattle.parking_lot_machine.proofs.KindTable.{of_mutexes, IsThere, Elsewhere, in_its_place, role_at, role_now}
use Rattle.parking_lot_machine.proofs.KindTable.{role_stays, roles_at, same, shown, Tardy}
use Rattle.parking_lot_machine.proofs.LotWakes.{woken_off, due_place, other, call_mine, call_woken, call_other}
use Rattle.parking_lot_machine.proofs.LotWakes.{woke_length}
use Rattle.parking_lot_machine.proofs.Making.{move_sound, mutex_goes, rw_goes}
use Rattle.parking_lot_machine.proofs.Ruling.{CallFits, Fitted, call_fits, fits_next, rules_after}
use Rattle.parking_lot_rules.proofs.Everybody.{all, change-two}
use Rattle.parking_lot_machine.proofs.Meeting.{in_range, meets, rw_hears, plays_waking}
use Rattle.parking_lot_machine.proofs.MutexMoving.{steps}
use Rattle.parking_lot_machine.proofs.OwnActs.{two_kinds}
use Rattle.parking_lot_core_model.specs.declared.place.Waiter.{Waiter}
use Rattle.parking_lot_protocol.specs.MutexRules as of_mutex
use Rattle.parking_lot_protocol.specs.MutexTable as mutex_table
use Rattle.parking_lot_protocol.specs.RwRules as of_rw
use Rattle.parking_lot_protocol.specs.declared.act.Act.TheVariants as act
use Rattle.parking_lot_protocol.specs.declared.act.CoreAnswer.TheVariants.{Owned}
use Rattle.parking_lot_protocol.specs.declared.act.SectionAct.TheVariants as section
use Rattle.parking_lot_protocol.specs.declared.mutex_core.MutexCore.{MutexCore}
use Rattle.parking_lot_protocol.specs.declared.mutex_phase.Giving.{Giving}
use Rattle.parking_lot_protocol.specs.declared.mutex_phase.MutexPhase.{MutexPhase}
use Rattle.parking_lot_machine.proofs.RwCalls.{CallMeets, as_move, call_role, call_wakes, tardy_wakes}
use Rattle.parking_lot_machine.proofs.RwSleeps.{call_woken as woken_call_is}
use Rattle.parking_lot_machine.specs.RowSteps.{IsRwMove}
use Rattle.parking_lot_machine_calls.specs.declared.seat.LatePhase.{LatePhase}
use Rattle.parking_lot_machine_calls.specs.declared.seat.Core.{Core}

-- WHOM A THREAD IS TO WAKE

same_wakeup : {e f : Wakeup} → Some e ≡ Some f → e ≡ f
same_wakeup e = cc

one_more : (n : ℕ) → 1 + n ≡ suc n
one_more n = omega arith

-- the first of them is by it
pub first_is_by : (t : ℕ) (ws : List Wakeup) (e : Wakeup) → slice_get ws (position_or_len (is_by t) ws) ≡ Some e
    → e.by ≡ t
first_is_by t [] e h = absurd (none-some e h)
first_is_by t (w ∷ ws) e h = go (w.by == t) refl (first_is_by t ws e) h
  where
    go : (b : Bool) → (w.by == t) ≡ b → (slice_get ws (position_or_len (is_by t) ws) ≡ Some e → e.by ≡ t)
        → slice_get (w ∷ ws) (cond (not b) (1 + position_or_len (is_by t) ws) 0) ≡ Some e → e.by ≡ t
    go true is later at = ap (λ (x : Wakeup). x.by) (sym (same_wakeup at)) ∙ eqb-true w.by t is
    go false is later at = later (sym (ap (slice_get (w ∷ ws)) (one_more (position_or_len (is_by t) ws))) ∙ at)

-- and there is a first, where there are some
pub first_there : (t : ℕ) (ws : List Wakeup) → 1 ≤ length (taken_by ws t) → (e : Wakeup)
    × (slice_get ws (position_or_len (is_by t) ws) ≡ Some e)
first_there t [] some = absurd (omega arith)
first_there t (w ∷ ws) some = go (w.by == t) (first_there t ws) some
  where
    go : (b : Bool) → (1 ≤ length (taken_by ws t) → (e : Wakeup)
        × (slice_get ws (position_or_len (is_by t) ws) ≡ Some e))
        → 1 ≤ length (map (λ (x : Wakeup). x.thread) (cond b (w ∷ filter (is_by t) ws) (filter (is_by t) ws)))
        → (e : Wakeup) × (slice_get (w ∷ ws) (cond (not b) (1 + position_or_len (is_by t) ws) 0) ≡ Some e)
    go true later more = (w, refl)
    go false later more = let x = later more in
        (x.0, ap (slice_get (w ∷ ws)) (one_more (position_or_len (is_by t) ws)) ∙ x.1)

-- and what is left are those behind it
pub first_taken : (t : ℕ) (ws : List Wakeup) (e : Wakeup) → slice_get ws (position_or_len (is_by t) ws) ≡ Some e
    → taken_by ws t ≡ e.thread ∷ taken_by (remove ws (position_or_len (is_by t) ws)) t
first_taken t [] e h = absurd (none-some e h)
first_taken t (w ∷ ws) e h = go (w.by == t) refl (first_taken t ws e) h
  where
    go : (b : Bool) → (w.by == t) ≡ b
        → (slice_get ws (position_or_len (is_by t) ws) ≡ Some e → taken_by ws t ≡ e.thread ∷ taken_by
        (remove ws (position_or_len (is_by t) ws)) t)
        → slice_get (w ∷ ws) (cond (not b) (1 + position_or_len (is_by t) ws) 0) ≡ Some e
        → map (λ (x : Wakeup). x.thread) (cond b (w ∷ filter (is_by t) ws) (filter (is_by t) ws)) ≡ e.thread ∷ taken_by
        (remove (w ∷ ws) (cond (not b) (1 + position_or_len (is_by t) ws) 0)) t
    go true is later at = ap (λ (x : Wakeup). x.thread ∷ taken_by ws t) (same_wakeup at)
    go false is later at =
        later (sym (ap (slice_get (w ∷ ws)) (one_more (position_or_len (is_by t) ws))) ∙ at)
        ∙ ap (λ b. e.thread ∷ map (λ (x : Wakeup). x.thread)
        (cond b (w ∷ filter (is_by t) (remove ws (position_or_len (is_by t) ws)))
        (filter (is_by t) (remove ws (position_or_len (is_by t) ws))))) (sym is)
        ∙ ap (λ n. e.thread ∷ taken_by (remove (w ∷ ws) n) t) (sym (one_more (position_or_len (is_by t) ws)))

-- others' are the same
pub others_taken : (x : ℕ) (ws : List Wakeup) (i : ℕ) (e : Wakeup) → slice_get ws i ≡ Some e → (e.by == x) ≡ false
    → taken_by (remove ws i) x ≡ taken_by ws x
others_taken x [] i e h ne = absurd (none-some e h)
others_taken x (w ∷ ws) zero e h ne =
    ap (λ b. map (λ (y : Wakeup). y.thread) (cond b (w ∷ filter (is_by x) ws) (filter (is_by x) ws)))
    (sym (ap (λ (y : Wakeup). y.by == x) (same_wakeup h) ∙ ne))
others_taken x (w ∷ ws) (suc i) e h ne = go (w.by == x) (others_taken x ws i e h ne)
  where
    go : (b : Bool) → taken_by (remove ws i) x ≡ taken_by ws x
        → map (λ (y : Wakeup). y.thread) (cond b (w ∷ filter (is_by x) (remove ws i)) (filter (is_by x) (remove ws i)))
        ≡ map (λ (y : Wakeup). y.thread) (cond b (w ∷ filter (is_by x) ws) (filter (is_by x) ws))
    go true same = ap (λ us. w.thread ∷ us) same
    go false same = same

-- one that is to wake somebody has somebody to wake
pub is_due : (s : State) (t : ℕ) (c : Call) → FitsTogether s → call_at s t ≡ Some c → stance c.core ≡ Out
    → 1 ≤ length (taken_by s.wakes t)
    → (e : Wakeup) × (d : Call) × (token : UnparkToken) × (x : IsDue s t e d token) × (e.by ≡ t)
    × (x.sleep.mark ≡ e.mark)
is_due s t c h here out some =
    let x = first_there t s.wakes some in
    let by_t = first_is_by t s.wakes x.0 x.1 in
    let w : IsTaken s x.0 = h.lots.woken (position_or_len (is_by t) s.wakes) x.0 x.1 in
    let p = due_place s t c h.lots here x.0 w.call x.1 by_t w.here out in (
      x.0,
      w.call,
      p.0,
      record {
        first = x.1;
        there = w.here;
        key = p.1;
        sleep = p.2;
        place = p.3;
        late =
            p.4;
      },
      by_t,
      p.5,
    )

out_asleep : {key : ℕ} {park : ParkToken} → Out ≡ Asleep key park → ⊥
out_asleep e = cc

-- THE MACHINE

module _ (s : State) (t : ℕ) (c : Call) (h : FitsTogether s) (here : call_at s t ≡ Some c) (e : Wakeup) (d : Call)
    (token : UnparkToken) (due : IsDue s t e d token) (from : stance c.core ≡ Out) where
  abbrev pub woke_state : State
  woke_state = woke s t c e.thread d token

  abbrev pub woken_call : Call
  woken_call = record (hears d (seen.Woken token)) { spot = QueuePosition.Listed }

  abbrev pub rest : List ℕ
  rest = taken_by woke_state.wakes t

  abbrev i : ℕ
  i = position_or_len (is_by t) s.wakes

  pub mine : e.by ≡ t
  mine = first_is_by t s.wakes e due.first

  -- it sleeps, and was told as the token says
  pub was_off : (k : ℕ) × (park : ParkToken) × (d.spot ≡ QueuePosition.Off t (told_of token))
      × (stance d.core ≡ Asleep k park)
  was_off =
      let x = woken_off s t c h.lots here e d due.first mine due.there from in
      let y = due_place s t c h.lots here e d due.first mine due.there from in
      let token_is : y.0 ≡ token = same_token y.2 due.sleep (sym y.3 ∙ due.place) in
      (x.1, x.2, x.3 ∙ ap (λ (z : WakeResult). QueuePosition.Off t z) (y.6 ∙ ap told_of token_is), x.4)
    where
      same_token : {a b : UnparkToken} {i j : ℕ} → (p q : Sleep) → Some (Taken a i p false) ≡ Some (Taken b j q false)
          → a ≡ b
      same_token p q z = cc

  pub same_lock : d.lock ≡ c.lock
  same_lock =
      let x : IsTaken s e = h.lots.woken i e due.first in
      let its : x.call ≡ d = same_call (sym x.here ∙ due.there) in
      let by_t : x.taker ≡ c = same_call (sym x.there ∙ ap (call_at s) mine ∙ here) in
      ap (λ (y : Call). y.lock) (sym its) ∙ x.lock ∙ ap (λ (y : Call). y.lock) by_t

  pub apart : e.thread ≢ t
  apart = eqb-false e.thread t (other s t c h.lots here e d due.first mine due.there from)

  -- the calls
  pub at_t : call_at woke_state t ≡ Some (hears c seen.Made)
  at_t = call_mine s t c h.lots here e d due.first mine due.there from token

  pub at_v : call_at woke_state e.thread ≡ Some woken_call
  at_v = call_woken s t c h.lots here e d due.first mine due.there from token

  pub at_others : (x : ℕ) → x ≢ t → x ≢ e.thread → call_at woke_state x ≡ call_at s x
  at_others x nt nv = call_other s t c h.lots here e d due.first mine due.there from token x (ne_eqb x t nt)
      (ne_eqb x e.thread nv)

  pub woke_threads : length woke_state.calls ≡ length s.calls
  woke_threads = woke_length s t c h.lots here e d due.first mine due.there from token

  pub taken_mine : taken_by s.wakes t ≡ e.thread ∷ rest
  taken_mine = first_taken t s.wakes e due.first

  pub taken_others : (x : ℕ) → x ≢ t → taken_by woke_state.wakes x ≡ taken_by s.wakes x
  taken_others x ne = others_taken x s.wakes i e due.first (ne_eqb e.by x (λ same. ne (sym same ∙ mine)))

  -- what holds of every call
  calls-woken : (P : ℕ → Call → Type 0) → ((x : ℕ) (z : Call) → x ≢ t → x ≢ e.thread → call_at s x ≡ Some z → P x z)
      → P t (hears c seen.Made) → P e.thread woken_call → (x : ℕ) (z : Call) → call_at woke_state x ≡ Some z → P x z
  calls-woken P others this that x z at = elim (cases_eq x t) [
    | inl f ↦ subst (λ n. P n z) (sym f)
        (subst (P t) (same_call (sym at_t ∙ ap (call_at woke_state) (sym f) ∙ at)) this)
    | inr nt ↦ elim (cases_eq x e.thread) [
      | inl f ↦ subst (λ n. P n z) (sym f)
          (subst (P e.thread) (same_call (sym at_v ∙ ap (call_at woke_state) (sym f) ∙ at)) that)
      | inr nv ↦ others x z nt nv (sym (at_others x nt nv) ∙ at)
    ]
  ]

  pub woke_elsewhere : Elsewhere c.lock s woke_state
  woke_elsewhere = record {
    kinds = refl;
    threads = woke_threads;
    words = λ j ne. refl;
    queues = λ j k ne b. refl;
    holds = λ x j ne. refl;
    calls = λ x. elim (cases_eq x t) [
      | inl f ↦ inr (
        subst (λ n. IsThere c.lock (call_at s n)) (sym f) (subst (IsThere c.lock) (sym here) refl),
        subst (λ n. IsThere c.lock (call_at woke_state n)) (sym f) (subst (IsThere c.lock) (sym at_t) refl),
      )
      | inr nt ↦ elim (cases_eq x e.thread) [
        | inl f ↦ inr (
          subst (λ n. IsThere c.lock (call_at s n)) (sym f)
              (subst (IsThere c.lock) (sym due.there) same_lock),
          subst (λ n. IsThere c.lock (call_at woke_state n))
              (sym f) (subst (IsThere c.lock) (sym at_v) same_lock),
        )
        | inr nv ↦ inl (at_others x nt nv, taken_others x nt)
      ]
    ];
  }

  -- who is to be woken
  abbrev IsStill : List Wakeup → ℕ → ℕ → Type 0
  IsStill ws by x = (n : ℕ) × (f : Wakeup) × (slice_get ws n ≡ Some f) × (f.by ≡ by) × (f.thread ≡ x)

  still : (by x : ℕ) → x ≢ e.thread → IsStill s.wakes by x → IsStill woke_state.wakes by x
  still by x nv w =
      let left = kept_remove s.wakes i w.0 w.1 w.2
      (λ at. nv (sym w.4
      ∙ ap (λ (y : Wakeup). y.thread) (same_wakeup (sym w.2 ∙ ap (slice_get s.wakes) at ∙ due.first)))) in
      (left.0, w.1, left.1, w.3, w.4)

  pub wakes_roused : WakesFit woke_state
  wakes_roused = record {
    off = λ x by z said at off. calls-woken (λ y g. g.spot ≡ QueuePosition.Off by said → IsStill woke_state.wakes by y)
        (λ y g nt nv there z. still by y nv (h.wakes.off y by g said there z))
        (λ z. still by t (λ same. apart (sym same)) (h.wakes.off t by c said here z))
        (λ z. absurd cc)
        x z at off;
    room =
        let w = count_by-set is_away s.calls e.thread (Some d) (Some woken_call) (slot s.calls e.thread d due.there) in
        let away : flag (is_off d.spot) ≡ 1 = ap (λ (z : QueuePosition). flag (is_off z)) was_off.2 in
        let y = count_by-set is_away (slice_set s.calls e.thread (Some woken_call)) t (Some c)
        (Some (hears c seen.Made))
        (get-set_other s.calls e.thread t (Some woken_call) apart ∙ slot s.calls t c here) in
        let fewer = length-remove s.wakes i (slice_get_within s.wakes i e due.first) in
        let was = h.wakes.room in
        omega arith;
  }

  -- nobody takes anybody
  pub passes_roused : stance (core_next c.core seen.Made) ≡ Out → LotFits woke_state → PassesFit woke_state
  passes_roused to lots =
      passes_after s woke_state t lots h.passes (λ v k o ne at whose. (at, refl))
      (λ x z k nt at is. elim (cases_eq x e.thread) [
        | inl f ↦ absurd (out_takes
            (sym woken_out ∙ ap (λ (y : Call). stance y.core)
            (same_call (sym at_v ∙ ap (call_at woke_state) (sym f) ∙ at)) ∙ is))
        | inr nv ↦ (z, sym (at_others x nt nv) ∙ at, refl, refl)
      ])
      (λ z k o at is there. absurd
      (out_takes (sym to ∙ ap (λ (y : Call). stance y.core) (same_call (sym at_t ∙ at)) ∙ is)))
    where
      out_takes : {k : ℕ} → Out ≡ In k Takes → ⊥
      out_takes q = cc

      woken_out : stance woken_call.core ≡ Out
      woken_out = (sleepers_wake d.core was_off.0 was_off.1 token was_off.3).1

  -- what is left to be shown by the kind of the lock: of the one that wakes, and of what the woken one stands on
  abbrev pub Roused : Core → Core → Type 0
  Roused x y = Fitted s woke_state t c seen.Made x × IsPrepared (recursive_in s.kinds d.lock) d.others
      (core_next y (seen.Woken token)) × KnowsList (core_next y (seen.Woken token)) s.lot.queues d.lock

  pub rules_roused : Roused c.core d.core → RulesFit woke_state
  rules_roused (fit, ready, learns) = rules_after s woke_state c.lock h.rules (record {
    kinds = refl;
    threads = woke_threads;
    holds = refl;
    words = refl;
    calls = calls-woken (λ x z. CallFits s.kinds s.lot.queues z) (λ x z nt nv at. call_fits s h.rules x z at)
        (fits_next s h t c here seen.Made s.lot.queues c.spot fit.1 fit.2)
        (fits_next s h e.thread d due.there (seen.Woken token) s.lot.queues QueuePosition.Listed ready learns);
    few = h.rules.few;
    elsewhere = λ j ne. refl;
    bits = fit.3;
    sound = move_sound s woke_state c.core c.others (taken_by s.wakes t) seen.Made c.lock t refl fit.0 h.rules.sound;
  })

  -- AT A LOCK OF ANY KIND

  module _ {C R L : Type 0} (K : Kind C R L) (k q k' q' : C) (mine_is : core_next c.core seen.Made ≡ K.core k')
      (its : d.core ≡ K.core q) (its_is : core_next d.core (seen.Woken token) ≡ K.core q')
      (to : stance (core_next c.core seen.Made) ≡ Out) where
    -- whom it wakes sleeps off its list
    pub sleeps_off : slice_get (roles_at K s c.lock) e.thread ≡ Some
        (K.plays d.others (QueuePosition.Off t (told_of token)) (taken_by s.wakes e.thread) q)
    sleeps_off =
        subst (λ j. slice_get (roles_at K s j) e.thread ≡ Some (K.plays d.others d.spot (taken_by s.wakes e.thread) q))
        same_lock (in_its_place K s e.thread d q (in_range s e.thread d due.there) due.there its)
        ∙ ap (λ at. Some (K.plays d.others at (taken_by s.wakes e.thread) q)) was_off.2

    -- and what the two are then is all that changes
    pub roused_after : (x : ℕ) → word_at s c.lock ≡ x → shown K woke_state c.lock
        ≡ K.lock x (slice_set
        (slice_set (roles_at K s c.lock) e.thread
        (K.plays d.others QueuePosition.Listed (taken_by s.wakes e.thread) q')) t
        (K.plays c.others QueuePosition.Listed rest k')) (queue_at s (2 * c.lock)) (queue_at s (2 * c.lock + 1))
    roused_after x word =
        same K _ _ _ _ _ _ _ _ word
        (ap (all (role_at K woke_state c.lock) 0) woke_threads
        ∙ change-two (role_at K s c.lock) (role_at K woke_state c.lock) (length s.calls) e.thread t
        (in_range s e.thread d due.there) (in_range s t c here) apart
        (λ y low nv nt. role_stays K s woke_state c.lock y (at_others y nt nv) (taken_others y nt) refl)
        ∙ ap (λ y. slice_set (slice_set (roles_at K s c.lock) e.thread y) t (role_at K woke_state c.lock t))
        (ap (λ us. K.role_in c.lock us (hold_at s e.thread c.lock) (call_at woke_state e.thread))
        (taken_others e.thread apart)
        ∙ ap (K.role_in c.lock (taken_by s.wakes e.thread) (hold_at s e.thread c.lock)) at_v
        ∙ K.here c.lock (taken_by s.wakes e.thread) (hold_at s e.thread c.lock) woken_call q' its_is same_lock)
        ∙ ap (slice_set (slice_set (roles_at K s c.lock) e.thread
        (K.plays d.others QueuePosition.Listed (taken_by s.wakes e.thread) q')) t)
        (role_now K woke_state t rest (hears c seen.Made) k' at_t refl mine_is
        ∙ K.listed c.others rest k' c.spot (λ key park z. absurd (out_asleep (sym to ∙ ap stance mine_is ∙ z)))))
        refl refl

-- AT A MUTEX

-- one that is to wake
pub mutex_wakes : (p : MutexPhase) → mutex_table.act_of p ≡ act.Section section.Wake → (g : Giving)
    × (p ≡ MutexPhase.Wakes g)
mutex_wakes (MutexPhase.Wakes g) e = (g, refl)
mutex_wakes (MutexPhase.Finishes g) e = absurd (finishes g.again e)
  where
    finishes : (b : Bool) → mutex_table.act_of (MutexPhase.Finishes (record g { again = b })) ≡ act.Section section.Wake
        → ⊥
    finishes true e = cc
    finishes false e = cc
mutex_wakes p e = absurd cc

-- and just one
only_one : (v : ℕ) (vs us : List ℕ) → us ≡ v ∷ vs → length us ≤ 1 → us ≡ v ∷ []
only_one v [] us e most = e
only_one v (x ∷ vs) us e most = absurd (omega (arith, most, ap (λ (zs : List ℕ). length zs) e))

-- whom it wakes is to wake nobody
mutex_woken : (us : List ℕ) (token : UnparkToken)
    → mutex_role of_mutex.Listed us (mutex_table.next_phase MutexPhase.Sleeps (seen.Woken token)) ≡ of_mutex.role
    of_mutex.Listed 0 (mutex_table.next_phase MutexPhase.Sleeps (seen.Woken token))
mutex_woken us token = go (token.0 == 1)
  where
    go : (b : Bool) → mutex_role of_mutex.Listed us
        (cond b (MutexPhase.Ends Owned) (MutexPhase.Loads (mutex_table.begins true))) ≡ of_mutex.role of_mutex.Listed 0
        (cond b (MutexPhase.Ends Owned) (MutexPhase.Loads (mutex_table.begins true)))
    go true = refl
    go false = refl

-- what it knows once it was woken
woken_knows : (token : UnparkToken) (waiters : List Waiter)
    → mutex_knows (mutex_table.next_phase MutexPhase.Sleeps (seen.Woken token)) waiters
woken_knows token waiters = go (token.0 == 1)
  where
    go : (b : Bool) → mutex_knows (cond b (MutexPhase.Ends Owned) (MutexPhase.Loads (mutex_table.begins true))) waiters
    go true = tt
    go false = tt

-- and stands on the same
late_ready : (b : Bool) (n : ℕ) (q : MutexCall) → IsPrepared b n (mutex_call q) → n ≡ 0
late_ready b n (Plain q) h = h
late_ready b n (Late p) h = h

pub late_wakes : (p : LatePhase) → late_act p ≡ act.Section section.Wake → ⊥
late_wakes LatePhase.Expires e = cc
late_wakes LatePhase.Quits e = cc
late_wakes LatePhase.Masks e = cc
late_wakes LatePhase.Leaves e = cc
late_wakes LatePhase.GivesUp e = cc
late_wakes (LatePhase.WasTaken by handed) e = cc

marks : (b : Bool) → mark_of (cond b WakeResult.HandedOver WakeResult.TryAgain) ≡ of_mutex.mark_of b
marks true = refl
marks false = refl

-- AT A LOCK OF EITHER KIND

module _ (s : State) (t : ℕ) (c : Call) (h : FitsTogether s) (here : call_at s t ≡ Some c) (e : Wakeup) (d : Call)
    (token : UnparkToken) (due : IsDue s t e d token) (from : stance c.core ≡ Out)
    (to : stance (core_next c.core seen.Made) ≡ Out) where
  abbrev u : State
  u = woke s t c e.thread d token

  abbrev v : ℕ
  v = e.thread

  abbrev ws : List ℕ
  ws = taken_by s.wakes v

  abbrev vs : List ℕ
  vs = taken_by u.wakes t

  off : (key : ℕ) × (park : ParkToken) × (d.spot ≡ QueuePosition.Off t (told_of token))
      × (stance d.core ≡ Asleep key park)
  off = was_off s t c h here e d token due from

  wake_rw : (k q : RwCall) → c.core ≡ rw_call k → d.core ≡ rw_call q → core_act (rw_call k) ≡ act.Section section.Wake
      → Roused s t c h here e d token due from (rw_call k) (rw_call q)
  wake_rw k q ce de asked =
      let us = taken_by s.wakes t in
      let x = word_at s c.lock in
      let its = meets s h v d q de due.there in
      let met : CallMeets (recursive_in s.kinds c.lock) (rw_lock_at s c.lock) t c.others c.spot (v ∷ vs) k x =
      subst (λ us. CallMeets (recursive_in s.kinds c.lock) (rw_lock_at s c.lock) t c.others c.spot us k x)
      (taken_mine s t c h here e d token due from) (meets s h t c k ce here) in
      let asleep : stance (rw_call q) ≡ Asleep off.0 off.1 = sym (ap stance de) ∙ off.3 in
      let mine_is = ap (λ (x : Core). core_next x seen.Made) ce ∙ next_is k seen.Made in
      let its_is = ap (λ (x : Core). core_next x (seen.Woken token)) de ∙ next_is q (seen.Woken token) in
      let woken = woken_call_is (recursive_in s.kinds d.lock) d.others t ws q (word_at s d.lock) token off.0 off.1
      its.stands asleep in
      let sleeps = sleeps_off s t c h here e d token due from of_rws k q (rw_next k seen.Made)
      (rw_next q (seen.Woken token)) mine_is de its_is to in
      let wakes = call_wakes (recursive_in s.kinds c.lock) (rw_lock_at s c.lock) t c.others c.spot v vs k x woken.how
      woken.stay (call_role d.others QueuePosition.Listed ws (rw_next q (seen.Woken token))) met asked
      (sleeps ∙ ap Some woken.from) woken.out woken.to in
      let kind_is = of_rws.of_kind (slice_get s.kinds c.lock) k
      (subst (IsOfKind (slice_get s.kinds c.lock)) ce (h.rules.kinds t c here)) in
      let mine = rw_hears s h t c k ce here seen.Made wakes.told tt s.lot.queues
      (wakes.learns (s.lot.queues (2 * c.lock)) (s.lot.queues (2 * c.lock + 1))) in
      let others = rw_hears s h v d q de due.there (seen.Woken token) woken.told tt s.lot.queues
      (woken.learns (s.lot.queues (2 * d.lock)) (s.lot.queues (2 * d.lock + 1))) in (
        (
          as_move k c.others us seen.Made c.lock t s u
              (subst (λ m. IsRwMove m us c.lock t s u) (sym (wakes.move us))
              (subst (λ zs. IsRwMove of_rw.WakesOne zs c.lock t s u) (sym (taken_mine s t c h here e d token due from))
              (rw_goes s u t c.lock of_rw.WakesOne (v ∷ vs) _ (subst (IsThere c.lock) (sym here) refl)
              (woke_elsewhere s t c h here e d token due from) kind_is
              (wakes.owns, v, vs, woken.how, woken.stay, wakes.step)
              (roused_after s t c h here e d token due from of_rws k q (rw_next k seen.Made)
              (rw_next q (seen.Woken token)) mine_is de its_is to x refl) (tt, λ b. refl) tt))),
          mine.0,
          mine.1,
          h.rules.bits c.lock,
        ),
        others.0,
        others.1,
      )

  wake_mutex : (g : Giving) (y : MutexCore) (q : MutexCall)
      → c.core ≡ Core.Mutex (record y { phase = MutexPhase.Wakes g }) → d.core ≡ mutex_call q
      → Roused s t c h here e d token due from (Core.Mutex (record y { phase = MutexPhase.Wakes g })) (mutex_call q)
  wake_mutex g y q ce de =
      let k : MutexCore = record y { phase = MutexPhase.Wakes g } in
      let k' : MutexCore = record y { phase = mutex_table.next_phase (MutexPhase.Wakes g) seen.Made } in
      let us = taken_by s.wakes t in
      let lies : stance (mutex_call q) ≡ Asleep off.0 off.1 = sym (ap stance de) ∙ off.3 in
      let so = sleeps_so q off.0 off.1 lies in
      let goes = woken_so q off.0 off.1 token lies in
      let mine = ap (λ (x : Core). core_next x seen.Made) ce in
      let its = ap (λ (x : Core). core_next x (seen.Woken token)) de ∙ goes in
      let sleeps = sleeps_off s t c h here e d token due from of_mutexes (Plain k) q (Plain k') (woken_plain token) mine
      de its to ∙ ap Some (so.3 t (told_of token) ws) in
      let one : taken_by s.wakes t ≡ v ∷ [] = only_one v vs us (taken_mine s t c h here e d token due from)
      (subst (IsCounted (length s.calls) (length us)) ce (h.lots.counted t c here)).most in
      let waking = steps.wakes (mutex_at s c.lock) (word_at s c.lock) t v (mutex_spot c.spot) (MutexPhase.Wakes g)
      (mark_of (told_of token)) so.0 token
      (plays_waking s h t c g y ce here v one) refl sleeps so.1 in (
        (
          mutex_goes s u t c.lock v us _ of_mutex.WakesOne (subst (IsThere c.lock) (sym here) refl)
              (woke_elsewhere s t c h here e d token due from)
              (subst (IsOfKind (slice_get s.kinds c.lock)) ce (h.rules.kinds t c here))
              (token.0 == 1, so.0, waking.leads (marks (token.0 == 1)))
              (roused_after s t c h here e d token due from of_mutexes (Plain k) q (Plain k') (woken_plain token) mine
              de its to (word_at s c.lock) refl
              ∙ same of_mutexes _ _ _ _ _ _ [] [] refl
              (ap (λ x. slice_set (slice_set (roles_at of_mutexes s c.lock) v x) t
              (of_mutex.role of_mutex.Listed (first_of_all vs) k'.phase)) (mutex_woken ws token)) refl refl)
              (tt, λ b. refl) one,
          subst (IsPrepared (recursive_in s.kinds c.lock) c.others) ce (h.rules.prepared t c here),
          tt,
          h.rules.bits c.lock,
        ),
        subst (IsPrepared (recursive_in s.kinds d.lock) d.others) (sym goes)
            (late_ready (recursive_in s.kinds d.lock) d.others q
            (subst (IsPrepared (recursive_in s.kinds d.lock) d.others) de (h.rules.prepared v d due.there))),
        subst (λ x. KnowsList x s.lot.queues d.lock) (sym goes) (woken_knows token (s.lot.queues (2 * d.lock))),
      )

  of_one_kind : (x y : Core) → c.core ≡ x → d.core ≡ y → IsOfKind (slice_get s.kinds c.lock) x
      × IsOfKind (slice_get s.kinds c.lock) y
  of_one_kind x y ce de = (
    subst (IsOfKind (slice_get s.kinds c.lock)) ce (h.rules.kinds t c here),
    subst (λ j. IsOfKind (slice_get s.kinds j) y) (same_lock s t c h here e d token due from)
        (subst (IsOfKind (slice_get s.kinds d.lock)) de (h.rules.kinds v d due.there)),
  )

  pub roused : core_act c.core ≡ act.Section section.Wake → Roused s t c h here e d token due from c.core d.core
  roused asked = go c.core d.core refl refl
    where
      go : (x y : Core) → c.core ≡ x → d.core ≡ y → Roused s t c h here e d token due from x y
      go (Core.Rw k) (Core.Rw q) ce de = wake_rw (Simple k) (Simple q) ce de (sym (ap core_act ce) ∙ asked)
      go (Core.Rw k) (Core.Upgrade q) ce de = wake_rw (Simple k) (Upgradable q) ce de (sym (ap core_act ce) ∙ asked)
      go (Core.Upgrade k) (Core.Rw q) ce de = wake_rw (Upgradable k) (Simple q) ce de (sym (ap core_act ce) ∙ asked)
      go (Core.Upgrade k) (Core.Upgrade q) ce de = wake_rw (Upgradable k) (Upgradable q) ce de
          (sym (ap core_act ce) ∙ asked)
      go (Core.Rw k) (Core.LateRw q) ce de = wake_rw (Simple k) (Tardy q) ce de (sym (ap core_act ce) ∙ asked)
      go (Core.Upgrade k) (Core.LateRw q) ce de = wake_rw (Upgradable k) (Tardy q) ce de (sym (ap core_act ce) ∙ asked)
      go (Core.Mutex k) (Core.LateRw q) ce de = let z = of_one_kind (Core.Mutex k) (Core.LateRw q) ce de in
          absurd (two_kinds (sym z.1 ∙ z.0))
      go (Core.LateRw p) y ce de = absurd (tardy_wakes p (sym (ap core_act ce) ∙ asked))
      go (Core.Upgrade k) (Core.Late q) ce de = let z = of_one_kind (Core.Upgrade k) (Core.Late q) ce de in
          absurd (two_kinds (sym z.0 ∙ z.1))
      go (Core.Upgrade k) (Core.Mutex q) ce de = let z = of_one_kind (Core.Upgrade k) (Core.Mutex q) ce de in
          absurd (two_kinds (sym z.0 ∙ z.1))
      go (Core.Mutex k) (Core.Upgrade q) ce de = let z = of_one_kind (Core.Mutex k) (Core.Upgrade q) ce de in
          absurd (two_kinds (sym z.1 ∙ z.0))
      go (Core.Mutex k) (Core.Mutex q) ce de =
          let p = mutex_wakes k.phase (sym (ap core_act ce) ∙ asked) in
          let is : k ≡ record k { phase = MutexPhase.Wakes p.0 } = ap (λ (z : MutexPhase). record k { phase = z }) p.1
          in
          subst (λ (z : MutexCore). Roused s t c h here e d token due from (Core.Mutex z) (Core.Mutex q)) (sym is)
          (wake_mutex p.0 k (Plain q) (ce ∙ ap Core.Mutex is) de)
      go (Core.Mutex k) (Core.Late q) ce de =
          let p = mutex_wakes k.phase (sym (ap core_act ce) ∙ asked) in
          let is : k ≡ record k { phase = MutexPhase.Wakes p.0 } = ap (λ (z : MutexPhase). record k { phase = z }) p.1
          in
          subst (λ (z : MutexCore). Roused s t c h here e d token due from (Core.Mutex z) (Core.Late q)) (sym is)
          (wake_mutex p.0 k (Late q) (ce ∙ ap Core.Mutex is) de)
      go (Core.Late p) y ce de = absurd (late_wakes p (sym (ap core_act ce) ∙ asked))
      go (Core.Rw k) (Core.Late q) ce de = let z = of_one_kind (Core.Rw k) (Core.Late q) ce de in
          absurd (two_kinds (sym z.0 ∙ z.1))
      go (Core.Mutex k) (Core.Rw q) ce de = let z = of_one_kind (Core.Mutex k) (Core.Rw q) ce de in
          absurd (two_kinds (sym z.1 ∙ z.0))
      go (Core.Rw k) (Core.Mutex q) ce de = let z = of_one_kind (Core.Rw k) (Core.Mutex q) ce de in
          absurd (two_kinds (sym z.0 ∙ z.1))
