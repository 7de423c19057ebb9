-- Stores that tell those whom a thread has taken: steps of the rules at a lock of either kind.
use Rattle.std.proofs.Common.{◌≡◌, ◌≢◌, ℕ, zero, suc, arith, ◌-◌, ◌^◌, ◌+◌, ◌*◌, ◌<◌, inl, inr, cond, Bool, true, false}
use Rattle.std.proofs.Common.{List, [], ◌∷◌, length, map, Option, Some, None, slice_get, slice_set, refl, sym, ap, ◌∙◌}
use Rattle.std.proofs.Common.{subst}
use Rattle.std.proofs.lemmas.Bool.{cases_eq}
use Rattle.std.proofs.lemmas.List.{length-map}
use Rattle.std.specs.Option.{option_map}
use Rattle.std.specs.Prelude.{bit_and}
use Rattle.parking_lot_core_model.specs.Machine.{threads_of}
use Rattle.parking_lot_core_model.specs.Results.{is_left}
use Rattle.parking_lot_core_model.specs.declared.parking.ParkToken.{ParkToken}
use Rattle.parking_lot_core_model.specs.declared.parking.UnparkToken.{UnparkToken}
use Rattle.parking_lot_core_model.specs.declared.place.Phase.TheVariants as section_phase
use Rattle.parking_lot_core_model.specs.declared.place.Section.{Section}
use Rattle.parking_lot_core_model.specs.declared.place.Waiter.{Waiter}
use Rattle.parking_lot_protocol.specs.Acts.{word_after, change_of}
use Rattle.parking_lot_protocol.specs.MutexRules as of_mutex
use Rattle.parking_lot_protocol.specs.MutexTable as of_mutex_table
use Rattle.parking_lot_protocol.specs.RwRules as of_rw
use Rattle.parking_lot_protocol.specs.declared.act.Act.{Act}
use Rattle.parking_lot_protocol.specs.declared.act.ActResult.{ActResult}
use Rattle.parking_lot_protocol.specs.declared.act.SectionAct.TheVariants as section
use Rattle.parking_lot_protocol.specs.declared.act.WordChange.{WordChange}
use Rattle.parking_lot_protocol.specs.declared.mutex_core.MutexCore.{MutexCore}
use Rattle.parking_lot_protocol.specs.declared.mutex_phase.MutexPhase.{MutexPhase}
use Rattle.parking_lot_protocol.specs.declared.rw_phase.AfterWake.{AfterWake}
use Rattle.parking_lot_protocol.specs.declared.rw_phase.RwPhase.{RwPhase}
use Rattle.parking_lot_rules.specs.Plain.{Mask2, Mask1}
use Rattle.parking_lot_rules.specs.Plain.{Plain as PlainStep}
use Rattle.parking_lot_rules.specs.Steps.{settle, ends_saying, Alone}
use Rattle.parking_lot_rules.specs.Mutex as mutex
use Rattle.parking_lot_rules.specs.Any.{Mx, MxStep}
use Rattle.parking_lot_machine_calls.specs.Kinds.{Manner, manner_of, recursive_in}
use Rattle.parking_lot_machine.specs.MutexLaws.{IsTelling}
use Rattle.parking_lot_machine_calls.specs.CallActs.{settled_spot, settled, told_of}
use Rattle.parking_lot_machine.specs.RowFits.{FitsTogether, IsPrepared, KnowsList}
use Rattle.parking_lot_machine_calls.specs.CallKinds.{IsOfKind, IsOfManner}
use Rattle.parking_lot_machine.specs.Rows.{State, word_at, call_at, hold_at, taken_by, rw_lock_at}
use Rattle.parking_lot_machine.specs.Rows.{mutex_word_of, mutex_at, queue_at}
use Rattle.parking_lot_machine_calls.specs.CallRoles.{mark_of, first_of_all, mutex_spot}
use Rattle.parking_lot_machine.specs.RowSteps.{IsMutexMove, IsRwMove}
use Rattle.parking_lot_machine_calls.specs.Stances.{Doing, In, Asleep, Stores, sign, late_act, mutex_stance, stance}
use Rattle.parking_lot_machine_calls.specs.Stances.{core_act, core_next, core_tells}
use Rattle.parking_lot_machine_calls.specs.declared.open_call.Call.{Call}
use Rattle.parking_lot_machine_calls.specs.declared.seat.LatePhase.{LatePhase}
use Rattle.parking_lot_machine_calls.specs.declared.seat.Core.{Core}
use Rattle.parking_lot_machine_calls.specs.declared.seat.QueuePosition.{QueuePosition}
use Rattle.parking_lot_machine.proofs.Acting.{word-here, has_word}
use Rattle.parking_lot_rules.proofs.Everybody.{all, get-all, settle-all}
use Rattle.parking_lot_machine.proofs.KindTable.{Plain, Late, RwCall, Simple, Upgradable, mutex_plays, next_is, rw_call}
use Rattle.parking_lot_machine.proofs.KindTable.{rw_next, Kind, of_rws, of_mutexes, IsThere, role_at, role_now}
use Rattle.parking_lot_machine.proofs.KindTable.{roles_at, same, shown, Tardy}
use Rattle.parking_lot_machine.proofs.Making.{made, mutex_goes, rw_goes, Crossed}
use Rattle.parking_lot_machine.proofs.Meeting.{in_range, meets, plays, plays_late, rw_hears, exact}
use Rattle.parking_lot_machine.proofs.MutexMoving.{steps}
use Rattle.parking_lot_machine.proofs.MutexRoles.{roles}
use Rattle.parking_lot_machine.proofs.MutexTelling.{masks_call, tells_call}
use Rattle.parking_lot_machine.proofs.OwnActs.{two_kinds}
use Rattle.parking_lot_machine.proofs.Ruling.{Fitted}
use Rattle.parking_lot_machine.proofs.RwCalls.{as_move, call_makes, call_move, call_role, CallLearns, CallTold}
use Rattle.parking_lot_machine.proofs.RwCalls.{CallWants, call_lock, tardy_makes}
use Rattle.parking_lot_machine.proofs.RwScans.{call_masks, call_stores}
use Rattle.parking_lot_machine.proofs.RwTells.{call_kept_here, call_told_here}
use Rattle.parking_lot_machine_calls.proofs.Stancing.{leads_by}
use Rattle.parking_lot_machine.proofs.TakeParts.{awake_listed}
use Rattle.parking_lot_machine.specs.Passes.{ArePassed, look_by}
use Rattle.parking_lot_rules.specs.Steps.{AreSkipped}
use Rattle.parking_lot_machine.proofs.RwTaking.{scans_go_by_tokens}
use Rattle.parking_lot_machine.proofs.Wanting.{want_as_told}
use Rattle.parking_lot_machine.proofs.Settling.{told_state, next_call, told_here, told_others, told_threads}
use Rattle.parking_lot_machine.proofs.Settling.{told_elsewhere}
use Rattle.parking_lot_core_model.specs.Lists.{updated}
use Rattle.parking_lot_machine.specs.Rows.{bucket, open_at}
use Rattle.parking_lot_machine.proofs.Crossings.{Continues, continues}
use Rattle.parking_lot_machine.proofs.LotActs.{key_is}
use Rattle.parking_lot_machine.proofs.Making.{entries}
use Rattle.parking_lot_machine_calls.specs.declared.late_rw.LateRwPhase.{LateRwPhase}
use Rattle.parking_lot_machine.specs.RwLaws.{IsStep, move_crossing}
use Rattle.parking_lot_rules.specs.Lock.{On1, to_wake}
use Rattle.parking_lot_rules.specs.Roles.{Open}

-- a store crosses no section
pub told_on : (s : State) (t : ℕ) (c : Call) (heard : ActResult) (token : UnparkToken) (word key : ℕ) → FitsTogether s
    → call_at s t ≡ Some c → stance c.core ≡ In key Stores → Continues s (told_state s t c heard token word) t
told_on s t c heard token word key h here from =
    let tells : Section → Section = λ x. record x { phase = section_phase.Stored; token = token } in
    continues s (told_state s t c heard token word) t c h.lots here key Stores from tells (λ x. refl)
    (λ b. ap (λ (i : ℕ). updated s.lot.sections (bucket s i) (option_map tells (open_at s i)) b)
    (key_is c key Stores from)) refl (λ l ne. refl)

pub left_threads : (waiters : List Waiter) → is_left (threads_of waiters) ≡ is_left waiters
left_threads [] = refl
left_threads (w ∷ ws) = refl

pub in_asleep : {key at : ℕ} {how : Doing} {park : ParkToken} → In key how ≡ Asleep at park → ⊥
in_asleep e = cc

-- a mark is that of its token
marks : (handed : Bool) → mark_of (told_of (sign handed)) ≡ of_mutex.mark_of handed
marks true = refl
marks false = refl

map_none : {X : Type 0} (xs : List X) → map (λ (x : X). x) xs ≡ xs
map_none [] = refl
map_none (x ∷ xs) = ap (λ ys. x ∷ ys) (map_none xs)

-- AT A LOCK OF ANY KIND

module _ {C R L : Type 0} (K : Kind C R L) (s : State) (t : ℕ) (c : Call) (heard : ActResult) (token : UnparkToken)
    (word : ℕ) (h : FitsTogether s) (here : call_at s t ≡ Some c) (k q : C) (e : c.core ≡ K.core k)
    (next : core_next c.core heard ≡ K.core q)
    (awake : (key : ℕ) (park : ParkToken) → stance (K.core q) ≡ Asleep key park → ⊥) (g : R → R)
    (idles : (o : _) → g (K.idle o) ≡ K.idle o)
    (tells : (x n : ℕ) (at : QueuePosition) (vs : List ℕ) (p : C) → slice_get (roles_at K s c.lock) x ≡ Some
    (K.plays n at vs p) → K.plays n (settled_spot t (told_of token) at) vs p ≡ g (K.plays n at vs p)) where
  abbrev u : State
  u = told_state s t c heard token word

  -- who is told is so, and the others stay as they are
  others_then : (x : ℕ) → x < length s.calls → x ≢ t → role_at K u c.lock x ≡ g (role_at K s c.lock x)
  others_then x low ne = ap (K.role_in c.lock (taken_by s.wakes x) (hold_at s x c.lock))
      (told_others s t c heard token word h here x ne) ∙ go (call_at s x) refl
    where
      go : (o : Option Call) → call_at s x ≡ o → K.role_in c.lock (taken_by s.wakes x) (hold_at s x c.lock)
          (option_map (settled t (told_of token)) o) ≡ g (K.role_in c.lock (taken_by s.wakes x) (hold_at s x c.lock) o)
      go None at = K.none c.lock (taken_by s.wakes x) (hold_at s x c.lock) ∙ sym (idles (hold_at s x c.lock))
          ∙ ap g (sym (K.none c.lock (taken_by s.wakes x) (hold_at s x c.lock)))
      go (Some f) at = elim (cases_eq f.lock c.lock) [
        | inl there ↦
            let kind_is = K.of_kind (slice_get s.kinds c.lock) k
            (subst (IsOfKind (slice_get s.kinds c.lock)) e (h.rules.kinds t c here)) in
            let j = K.only f.core
            (subst (λ (o : Option Manner). IsOfManner o f.core)
            (ap (λ j. manner_of (slice_get s.kinds j)) there ∙ kind_is) (h.rules.kinds x f at)) in
            let was = K.here c.lock (taken_by s.wakes x) (hold_at s x c.lock) f j.0 j.1 there in
            K.here c.lock (taken_by s.wakes x) (hold_at s x c.lock) (settled t (told_of token) f) j.0 j.1 there
            ∙ tells x f.others f.spot (taken_by s.wakes x) j.0
            (get-all (role_at K s c.lock) (length s.calls) x low
            ∙ ap Some (ap (K.role_in c.lock (taken_by s.wakes x) (hold_at s x c.lock)) at ∙ was)) ∙ ap g (sym was)
        | inr other ↦ K.away c.lock (taken_by s.wakes x) (hold_at s x c.lock) (settled t (told_of token) f) other
            ∙ sym (idles (hold_at s x c.lock))
            ∙ ap g (sym (K.away c.lock (taken_by s.wakes x) (hold_at s x c.lock) f other))
      ]

  told_after : (x : ℕ) → word ≡ x
      → shown K u c.lock ≡ K.lock x
      (slice_set (map g (roles_at K s c.lock)) t (K.plays c.others QueuePosition.Listed (taken_by s.wakes t) q))
      (queue_at s (2 * c.lock)) (queue_at s (2 * c.lock + 1))
  told_after x is =
      same K _ _ _ _ _ _ _ _ (word-here s.words c.lock word (has_word s h t c here) ∙ is)
      (ap (all (role_at K u c.lock) 0) (told_threads s t c heard token word h here)
      ∙ settle-all g (role_at K s c.lock) (role_at K u c.lock) (length s.calls) t (in_range s t c here) others_then
      ∙ ap (slice_set (map g (roles_at K s c.lock)) t)
      (role_now K u t (taken_by s.wakes t) (settled t (told_of token) (next_call s t c heard token word)) q
      (told_here s t c heard token word h here) refl next
      ∙ K.listed c.others (taken_by s.wakes t) q (settled_spot t (told_of token) c.spot)
      (λ key park z. absurd (awake key park z))))
      refl refl

late_stores : {plain fair : WordChange} (p : LatePhase) → late_act p ≡ Act.Section (section.Store plain fair) → ⊥
late_stores LatePhase.Expires e = cc
late_stores LatePhase.Quits e = cc
late_stores LatePhase.Masks e = cc
late_stores LatePhase.Leaves e = cc
late_stores LatePhase.GivesUp e = cc
late_stores (LatePhase.WasTaken by handed) e = cc

-- the parked bit is off
masks_word : (x : ℕ) → x < 4 → (mutex_word_of (bit_and x (2 ^ 64 - 3)) ≡ record (mutex_word_of x) { parked = 0 })
    × (bit_and x (2 ^ 64 - 3) < 4)
masks_word zero h = (refl, omega arith)
masks_word (suc zero) h = (refl, omega arith)
masks_word (suc (suc zero)) h = (refl, omega arith)
masks_word (suc (suc (suc zero))) h = (refl, omega arith)
masks_word (suc (suc (suc (suc x)))) h = absurd (omega (arith, h))

-- THE END OF A SCAN, OR OF A RELEASE

module _ (s : State) (t : ℕ) (c : Call) (plain fair : WordChange) (is_fair : Bool)
    (asked : core_act c.core ≡ Act.Section (section.Store plain fair)) (h : FitsTogether s)
    (here : call_at s t ≡ Some c) where
  abbrev heard : ActResult
  heard = ActResult.Stored is_fair

  abbrev token : UnparkToken
  token = core_tells (core_next c.core heard)

  abbrev word : ℕ
  word = change_of (cond is_fair fair plain) (word_at s c.lock)

  abbrev taken : List ℕ
  taken = taken_by s.wakes t

  abbrev next : State
  next = told_state s t c heard token word

  there : IsThere c.lock (call_at s t)
  there = subst (IsThere c.lock) (sym here) refl

  store_rw : (y : RwCall) → c.core ≡ rw_call y → core_act (rw_call y) ≡ Act.Section (section.Store plain fair)
      → (key : ℕ) → stance (rw_call y) ≡ In key Stores → Fitted s next t c heard (rw_call y)
  store_rw y e asks key is =
      let l = rw_lock_at s c.lock in
      let kind_is = of_rws.of_kind (slice_get s.kinds c.lock) y
      (subst (IsOfKind (slice_get s.kinds c.lock)) e (h.rules.kinds t c here)) in
      let met = meets s h t c y e here in
      let ready = subst (IsPrepared (recursive_in s.kinds c.lock) c.others) e (h.rules.prepared t c here) in
      let listed = awake_listed s h t c here (λ at park w. in_asleep (sym is ∙ ap stance (sym e) ∙ w)) in
      let skips = λ (u w : Bool)
      (passed : ArePassed (look_by u w) (s.lot.queues (2 * c.lock)) (length (s.lot.queues (2 * c.lock)))).
      subst (AreSkipped u w l.roles l.first) (sym (length-map (s.lot.queues (2 * c.lock)) (λ (w : Waiter). w.thread)))
      (scans_go_by_tokens.skips l u w (s.lot.queues (2 * c.lock)) (length (s.lot.queues (2 * c.lock))) refl
      (want_as_told s h c.lock kind_is) passed) in
      let z = call_stores (recursive_in s.kinds c.lock) l t c.others c.spot taken y (word_at s c.lock) is_fair plain
      fair key c.lock s.lot.queues met ready listed is asks (left_threads (s.lot.queues (2 * c.lock))) skips
      (subst (λ (x : Core). KnowsList x s.lot.queues c.lock) e (h.rules.knows t c here)) in
      let says : mark_of (told_of token) ≡ ends_saying z.end =
      ap (λ (x : Core). mark_of (told_of (core_tells (core_next x heard)))) e ∙ z.says in
      let tells = leads_by (rw_call y) (Act.Section (section.Store plain fair)) (word_at s c.lock) heard asks tt in
      let well = rw_hears s h t c y e here heard z.told tt s.lot.queues
      (z.learns (s.lot.queues (2 * c.lock)) (s.lot.queues (2 * c.lock + 1))) in (
        as_move y c.others taken heard c.lock t s next
            (subst (λ m. IsRwMove m taken c.lock t s next) (sym z.move)
            (rw_goes s next t c.lock (of_rw.Tells z.end z.left) taken _ there
            (told_elsewhere s t c heard token word h here) kind_is (z.scan, z.step)
            (told_after of_rws s t c heard token word h here y (rw_next y heard) e
            (ap (λ (x : Core). core_next x heard) e ∙ next_is y heard)
            (λ at park w. in_asleep (sym tells.2 ∙ ap stance (next_is y heard) ∙ w)) (settle (ends_saying z.end))
            (λ o. refl)
            (λ x n at vs p there_is. subst
            (λ v. call_role n (settled_spot t (told_of token) at) vs p ≡ settle v (call_role n at vs p)) says
            (call_told_here l t x n at vs z.scan (told_of token) met.sound z.mine p there_is))
            (word_after (core_act (rw_call y)) heard (word_at s c.lock))
            (ap (λ (x : Act). word_after x heard (word_at s c.lock)) (sym asks)))
            (tt, (told_on s t c heard token word key h here (ap stance e ∙ is)).entered) tt)),
        well.0,
        well.1,
        λ x. absurd (two_kinds (sym kind_is ∙ x)),
      )

  store_mutex : (q : MutexPhase) (y : MutexCore) → c.core ≡ Core.Mutex (record y { phase = q })
      → of_mutex_table.act_of q ≡ Act.Section (section.Store plain fair) → (key : ℕ) → mutex_stance q ≡ In key Stores
      → Fitted s next t c heard (Core.Mutex (record y { phase = q }))
  store_mutex (MutexPhase.Stores giving has left) y e asks key is =
      let z : MutexCore = record y { phase = MutexPhase.Stores giving has left } in
      let kind_is = subst (IsOfKind (slice_get s.kinds c.lock)) e (h.rules.kinds t c here) in
      let first = first_of_all taken in
      let playing = plays s h t c z e here (λ w. cc) in
      let telling : IsTelling (mutex_at s c.lock) (word_at s c.lock) t first (MutexPhase.Stores giving has left) heard =
      steps.tells (mutex_at s c.lock) (word_at s c.lock) t first (mutex_spot c.spot) (MutexPhase.Stores giving has left)
      plain fair is_fair (s.lot.queues (2 * c.lock)) playing asks refl
      (subst (λ (x : Core). KnowsList x s.lot.queues c.lock) e (h.rules.knows t c here)) in
      let says : mark_of (told_of token) ≡ of_mutex.mark_of telling.handed =
      ap (λ (x : Core). mark_of (told_of (core_tells (core_next x heard)))) e
      ∙ ap (λ v. mark_of (told_of v)) telling.token ∙ marks telling.handed in
      let written : word ≡ word_after (of_mutex_table.act_of (MutexPhase.Stores giving has left)) heard
      (word_at s c.lock) = ap (λ (x : Act). word_after x heard (word_at s c.lock)) (sym asks) in (
        subst (λ (x : of_mutex.Move). IsMutexMove x taken c.lock t s next) (sym telling.move)
            (mutex_goes s next t c.lock first taken _ (of_mutex.Tells telling.taken telling.handed telling.left) there
            (told_elsewhere s t c heard token word h here) kind_is telling.leads
            (told_after of_mutexes s t c heard token word h here (Plain z)
            (Plain (record z { phase = of_mutex_table.next_phase (MutexPhase.Stores giving has left) heard })) e
            (ap (λ (x : Core). core_next x heard) e) (λ at park w. in_asleep w)
            (mutex.settle (of_mutex.mark_of telling.handed)) (λ o. refl)
            (λ x n at vs p there_is. subst
            (λ v. mutex_plays (settled_spot t (told_of token) at) vs p ≡ mutex.settle v (mutex_plays at vs p)) says
            (tells_call (mutex_at s c.lock) t x (of_mutex.taken_of first has) vs (told_of token) playing.sound
            playing.here at p there_is))
            (word_after (of_mutex_table.act_of (MutexPhase.Stores giving has left)) heard (word_at s c.lock)) written)
            (tt, (told_on s t c heard token word key h here (ap stance e ∙ is)).entered)
            (roles.taken (MutexPhase.Stores giving has left) taken telling.taken (exact s h t c z e here (λ w. cc))
            telling.count)),
        subst (IsPrepared (recursive_in s.kinds c.lock) c.others) e (h.rules.prepared t c here),
        tt,
        λ x. subst (λ n. n < 4) (sym (word-here s.words c.lock word (has_word s h t c here) ∙ written)) telling.small,
      )
  store_mutex q y e asks key is = absurd cc

  pub store_fits : (key : ℕ) → stance c.core ≡ In key Stores → Fitted s next t c heard c.core
  store_fits key from = go c.core refl
    where
      go : (x : Core) → c.core ≡ x → Fitted s next t c heard x
      go (Core.Rw y) e = store_rw (Simple y) e (ap core_act (sym e) ∙ asked) key (ap stance (sym e) ∙ from)
      go (Core.Upgrade y) e = store_rw (Upgradable y) e (ap core_act (sym e) ∙ asked) key (ap stance (sym e) ∙ from)
      go (Core.LateRw p) e = store_rw (Tardy p) e (ap core_act (sym e) ∙ asked) key (ap stance (sym e) ∙ from)
      go (Core.Late p) e = absurd (late_stores p (ap core_act (sym e) ∙ asked))
      go (Core.Mutex y) e = store_mutex y.phase y e (ap core_act (sym e) ∙ asked) key (ap stance (sym e) ∙ from)

-- THE LAST READER TAKES THE MARK OF A PENDING WRITER OFF THE WORD, AND ONE WHOSE MOMENT HAS PASSED THAT OF THE FIRST
-- LIST

module _ (s : State) (t : ℕ) (c : Call) (keep : ℕ) (asked : core_act c.core ≡ Act.FetchAnd keep) (h : FitsTogether s)
    (here : call_at s t ≡ Some c) where
  abbrev before : ActResult
  before = ActResult.Before (word_at s c.lock)

  abbrev mask_then : State
  mask_then = told_state s t c before (sign false) (bit_and (word_at s c.lock) keep)

  -- at a reader-writer lock, where the mask is a step of its own, and its thread has taken nobody that it could tell
  mask_by : (z : RwCall) (step : PlainStep) → c.core ≡ rw_call z → call_move c.others (taken_by s.wakes t) z before
      ≡ of_rw.Makes step → CallTold z (word_at s c.lock) before → ((f g : List Waiter) → CallLearns z before f g)
      → CallWants z before
      → IsStep (recursive_in s.kinds c.lock) t (Alone step) (rw_lock_at s c.lock)
      (call_lock (rw_lock_at s c.lock) t c.others (taken_by s.wakes t) z before (word_at s c.lock))
      → Crossed (move_crossing (of_rw.Makes step)) t (entries s c.lock) (entries mask_then c.lock)
      → to_wake (call_role c.others c.spot (taken_by s.wakes t) z).does (On1 Open) ≡ []
      → ((key : ℕ) (park : ParkToken) → stance (rw_call (rw_next z before)) ≡ Asleep key park → ⊥)
      → Fitted s mask_then t c before (rw_call z)
  mask_by z step e moves told learns wants leads crossed nobody awake =
      let asks : core_act (rw_call z) ≡ Act.FetchAnd keep = ap core_act (sym e) ∙ asked in
      let us = taken_by s.wakes t in
      let l = rw_lock_at s c.lock in
      let kind_is = of_rws.of_kind (slice_get s.kinds c.lock) z
      (subst (IsOfKind (slice_get s.kinds c.lock)) e (h.rules.kinds t c here)) in
      let met = meets s h t c z e here in
      let well = rw_hears s h t c z e here before told wants s.lot.queues
      (learns (s.lot.queues (2 * c.lock)) (s.lot.queues (2 * c.lock + 1))) in (
        as_move z c.others us before c.lock t s mask_then
            (subst (λ m. IsRwMove m us c.lock t s mask_then) (sym moves)
            (rw_goes s mask_then t c.lock (of_rw.Makes step) us _ (subst (IsThere c.lock) (sym here) refl)
            (told_elsewhere s t c before (sign false) (bit_and (word_at s c.lock) keep) h here) kind_is leads
            (told_after of_rws s t c before (sign false) (bit_and (word_at s c.lock) keep) h here z (rw_next z before) e
            (ap (λ (x : Core). core_next x before) e ∙ next_is z before) awake (λ x. x) (λ o. refl)
            (λ x n at vs p there_is. call_kept_here l t x n at vs (call_role c.others c.spot us z)
            (told_of (sign false)) met.sound met.here nobody p there_is)
            (word_after (core_act (rw_call z)) before (word_at s c.lock))
            (ap (λ (x : Act). word_after x before (word_at s c.lock)) (sym asks))
            ∙ same of_rws _ _ _ _ _ _ _ _ refl
            (ap (λ rs. slice_set rs t (call_role c.others QueuePosition.Listed us (rw_next z before)))
            (map_none l.roles)) refl refl)
            crossed tt)),
        well.0,
        well.1,
        λ x. absurd (two_kinds (sym kind_is ∙ x)),
      )

  mask_reader : (rest : AfterWake) (has : Bool)
      → c.core ≡ Core.Rw (record { phase = RwPhase.ClearWriterParked rest has })
      → Fitted s mask_then t c before (Core.Rw (record { phase = RwPhase.ClearWriterParked rest has }))
  mask_reader rest has e =
      let z : RwCall = Simple (record { phase = RwPhase.ClearWriterParked rest has }) in
      let us = taken_by s.wakes t in
      mask_by z (Mask2 c.others us) e refl refl (λ f g. tt) tt
      (call_makes (recursive_in s.kinds c.lock) (rw_lock_at s c.lock) t c.others c.spot us z (word_at s c.lock) before
      (Mask2 c.others us) (meets s h t c z e here) refl refl
      (ap threads_of (subst (λ (x : Core). KnowsList x s.lot.queues c.lock) e (h.rules.knows t c here))))
      (tt, (told_on s t c before (sign false) (bit_and (word_at s c.lock) keep) 1 h here (ap stance e)).entered) refl
      (λ at park w. in_asleep w)

  mask_late_rw : c.core ≡ Core.LateRw LateRwPhase.Masks → Fitted s mask_then t c before (Core.LateRw LateRwPhase.Masks)
  mask_late_rw e =
      let z : RwCall = Tardy LateRwPhase.Masks in
      let us = taken_by s.wakes t in
      mask_by z Mask1 e refl refl (λ f g. tt) tt
      (tardy_makes (recursive_in s.kinds c.lock) (rw_lock_at s c.lock) t c.others c.spot us LateRwPhase.Masks
      (word_at s c.lock) before (meets s h t c z e here) refl Mask1 refl)
      (tt, (told_on s t c before (sign false) (bit_and (word_at s c.lock) keep) 0 h here (ap stance e)).entered) refl
      (λ at park w. in_asleep w)

  mask_rw : (y : RwCall) → c.core ≡ rw_call y → Fitted s mask_then t c before (rw_call y)
  mask_rw y e = elim (call_masks (recursive_in s.kinds c.lock) c.others keep y
      (subst (IsPrepared (recursive_in s.kinds c.lock) c.others) e (h.rules.prepared t c here))
      (ap core_act (sym e) ∙ asked)) [
        | inl z ↦ subst (λ (q : RwCall). Fitted s mask_then t c before (rw_call q)) (sym z.2)
            (mask_reader z.0 z.1 (e ∙ ap rw_call z.2))
        | inr is ↦ subst (λ (q : RwCall). Fitted s mask_then t c before (rw_call q)) (sym is)
            (mask_late_rw (e ∙ ap rw_call is))
      ]

  mask_mutex : (q : MutexPhase) → of_mutex_table.act_of q ≡ Act.FetchAnd keep → (key : ℕ)
      → mutex_stance q ≡ In key Stores → ⊥
  mask_mutex (MutexPhase.Stores giving has left) asks key is = cc
  mask_mutex q asks key is = cc

  mask_late : (p : LatePhase) → c.core ≡ Core.Late p → late_act p ≡ Act.FetchAnd keep
      → Fitted s mask_then t c before (Core.Late p)
  mask_late LatePhase.Masks e asks =
      let kind_is = subst (IsOfKind (slice_get s.kinds c.lock)) e (h.rules.kinds t c here) in
      let playing = plays_late s h t c LatePhase.Masks e here in
      let x = word_at s c.lock in
      let same_keep : 2 ^ 64 - 3 ≡ keep = ap keeps asks in
      let off = subst (λ n. (mutex_word_of (bit_and x n) ≡ record (mutex_word_of x) { parked = 0 }) × (bit_and x n < 4))
      same_keep (masks_word x (h.rules.bits c.lock kind_is)) in (
        made of_mutexes s mask_then t c.lock (subst (IsThere c.lock) (sym here) refl)
            (told_elsewhere s t c before (sign false) (bit_and x keep) h here) kind_is (MxStep (mutex.Alone mutex.Mask))
            (playing.here, tt)
            (ap Mx (told_after of_mutexes s t c before (sign false) (bit_and x keep) h here (Late LatePhase.Masks)
            (Late LatePhase.Leaves) e (ap (λ (y : Core). core_next y before) e) (λ at park w. in_asleep w) (λ r. r)
            (λ o. refl)
            (λ y n at vs p there_is. masks_call (mutex_at s c.lock) t y vs (told_of (sign false)) playing.sound
            playing.here at p there_is) (bit_and x keep) refl
            ∙ ap (λ w. record {
              word = w;
              roles = slice_set (map (λ r. r) (mutex_at s c.lock).roles) t
                  (mutex.doing mutex.Leaves);
              queue = (mutex_at s c.lock).queue;
            }) off.0
            ∙ ap (λ rs. record {
              word = record (mutex_word_of x) { parked = 0 };
              roles = slice_set rs t (mutex.doing mutex.Leaves);
              queue = (mutex_at s c.lock).queue;
            })
            (map_none (mutex_at s c.lock).roles)))
            (tt, (told_on s t c before (sign false) (bit_and x keep) 0 h here (ap stance e)).entered),
        subst (IsPrepared (recursive_in s.kinds c.lock) c.others) e (h.rules.prepared t c here),
        tt,
        λ m. subst (λ n. n < 4) (sym (word-here s.words c.lock (bit_and x keep) (has_word s h t c here))) off.1,
      )
    where
      keeps : Act → ℕ
      keeps (Act.FetchAnd n) = n
      keeps a = 0
  mask_late LatePhase.Expires e asks = absurd cc
  mask_late LatePhase.Quits e asks = absurd cc
  mask_late LatePhase.Leaves e asks = absurd cc
  mask_late LatePhase.GivesUp e asks = absurd cc
  mask_late (LatePhase.WasTaken by handed) e asks = absurd cc

  pub mask_fits : (key : ℕ) → stance c.core ≡ In key Stores → Fitted s mask_then t c before c.core
  mask_fits key from = go c.core refl
    where
      go : (x : Core) → c.core ≡ x → Fitted s mask_then t c before x
      go (Core.Rw y) e = mask_rw (Simple y) e
      go (Core.Upgrade y) e = mask_rw (Upgradable y) e
      go (Core.LateRw p) e = mask_rw (Tardy p) e
      go (Core.Late p) e = mask_late p e (ap core_act (sym e) ∙ asked)
      go (Core.Mutex y) e = absurd (mask_mutex y.phase (ap core_act (sym e) ∙ asked) key (ap stance (sym e) ∙ from))
