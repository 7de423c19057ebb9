-- While one thread is in a section no other is, and only whoever is in one knows anything of the lists.
use Rattle.std.proofs.Common.{◌≡◌, ◌≢◌, ℕ, zero, suc, ◌+◌, ◌*◌, List, Some, refl, sym, ap, ◌∙◌, inl, inr, ◌==◌, cond}
use Rattle.std.proofs.Common.{eq-eqb, Bool, true, false, [], ◌∷◌, ◌++◌, length, length-append, map, remove, Option}
use Rattle.std.proofs.Common.{slice_get, slice_set, subst, arith}
use Rattle.std.proofs.lemmas.Bool.{ne_eqb, cases_eq, eqb-false}
use Rattle.std.proofs.lemmas.List.{map-append}
use Rattle.std.proofs.lemmas.List.Elements.{filter-append}
use Rattle.std.proofs.lemmas.Option.{none-some, same_Some}
use Rattle.std.specs.Prelude.{count_by, filter}
use Rattle.std.specs.Option.{option_map, option_map_or}
use Rattle.parking_lot_core_model.specs.declared.parking.ParkToken.{ParkToken}
use Rattle.parking_lot_core_model.specs.declared.place.Waiter.{Waiter}
use Rattle.parking_lot_core_model.specs.declared.place.Phase.TheVariants as phase
use Rattle.parking_lot_core_model.specs.declared.place.Section.{Section}
use Rattle.parking_lot_machine.specs.Rows.{open_at}
use Rattle.parking_lot_protocol.specs.declared.mutex_phase.MutexPhase.{MutexPhase}
use Rattle.parking_lot_protocol.specs.declared.rw_phase.RwPhase.{RwPhase}
use Rattle.parking_lot_protocol_rw.specs.declared.upgrade_phase.Hold.{Hold}
use Rattle.parking_lot_protocol_rw.specs.declared.upgrade_phase.UpgradePhase.{UpgradePhase}
use Rattle.parking_lot_machine.specs.RowFits.{scan_knows, upgrade_knows}
use Rattle.parking_lot_machine_calls.specs.Stances.{upgrade_stance}
use Rattle.parking_lot_machine_calls.specs.Kinds.{Manner, manner_of}
use Rattle.parking_lot_machine_calls.specs.declared.seat.QueuePosition.{QueuePosition}
use Rattle.parking_lot_machine_calls.specs.declared.seat.Core.{Core}
use Rattle.parking_lot_machine_calls.specs.declared.open_call.Call.{Call}
use Rattle.parking_lot_machine.specs.Rows.{State, call_at, word_at, taken_by, is_by, queue_at}
use Rattle.parking_lot_machine_calls.specs.Stances.{Doing, Takes, Stores, Stance, In, Asleep, mutex_stance, rw_stance}
use Rattle.parking_lot_machine_calls.specs.Stances.{stance, core_act, core_next}
use Rattle.parking_lot_machine.specs.RowFits.{FitsTogether, LotFits, KnowsList, mutex_knows, rw_knows, WakesFit}
use Rattle.parking_lot_machine.specs.RowFits.{is_away, is_off}
use Rattle.parking_lot_machine_calls.specs.CallKinds.{IsOfManner}
use Rattle.parking_lot_machine.proofs.Carrying.{same_call, awake_sleeps}
use Rattle.parking_lot_machine.proofs.LotActs.{same_number, same_section, seat_of, awake_by}
use Rattle.parking_lot_core_model.specs.Machine.{threads_of}
use Rattle.parking_lot_core_model.specs.Places.{place_at, mark_of}
use Rattle.parking_lot_core_model.specs.Results.{is_left}
use Rattle.parking_lot_core_model.proofs.Kept.{updated_at, updated_other, slice_get-seam}
use Rattle.parking_lot_core_model.proofs.Numbers.{flag, count_by-set}
use Rattle.parking_lot_protocol.specs.declared.act.ActResult.{ActResult}
use Rattle.parking_lot_protocol.specs.Acts.{Gives}
use Rattle.parking_lot_machine_calls.specs.declared.seat.WakeResult.{WakeResult}
use Rattle.parking_lot_machine_calls.specs.declared.seat.Wakeup.{Wakeup}
use Rattle.parking_lot_machine.specs.RowActs.{took}
use Rattle.parking_lot_machine_calls.specs.CallActs.{hears, key_of, off_list}
use Rattle.parking_lot_machine_calls.specs.StanceLaws.{Counts}
use Rattle.parking_lot_machine_calls.proofs.Stancing.{small_key}
use Rattle.parking_lot_machine.proofs.Indexing.{get_front}
use Rattle.parking_lot_rules.proofs.Everybody.{all, change-two}
use Rattle.parking_lot_machine.proofs.KindTable.{Kind, IsThere, Elsewhere, in_its_place, role_at, role_now, role_stays}
use Rattle.parking_lot_machine.proofs.KindTable.{roles_at, same, shown}
use Rattle.parking_lot_machine.proofs.Ruling.{Fitted}
use Rattle.parking_lot_machine.proofs.Meeting.{in_range}
use Rattle.parking_lot_machine.proofs.Calling.{call_of, slot, call-elsewhere}
use Rattle.parking_lot_machine.proofs.Crossings.{Continues, continues}
use Rattle.parking_lot_machine.proofs.LotLists.{one_key}
use Rattle.parking_lot_machine.proofs.LotTakes.{Sleeper, sleeper, call_taken, call_mine, call_other, took_length}

-- it isn't in a section
abbrev pub IsOut : Stance → Type 0
IsOut a = (k : ℕ) (how : Doing) → a ≡ In k how → ⊥

-- the first list, by its number
at_first : (queues news : ℕ → List Waiter) (j : ℕ) → news (2 * j + 0) ≡ queues (2 * j + 0)
    → news (2 * j) ≡ queues (2 * j)
at_first queues news j h =
    let same : 2 * j + 0 ≡ 2 * j = omega arith in subst (λ (n : ℕ). news n ≡ queues n) same h

mutex_out : (p : MutexPhase) (queue : List Waiter) → IsOut (mutex_stance p) → mutex_knows p queue
mutex_out (MutexPhase.Stores giving taken left) queue out = absurd (out 0 Stores refl)
mutex_out p queue out = tt

rw_out : (p : RwPhase) (first second : List Waiter) → IsOut (rw_stance p) → rw_knows p first second
rw_out (RwPhase.Stores a left) first second out = absurd (out 0 Stores refl)
rw_out (RwPhase.ClearWriterParked rest taken) first second out = absurd (out 1 Stores refl)
rw_out p first second out = tt

part_out : (kept : Hold) (q : RwPhase) (first : List Waiter) → IsOut (rw_stance q) → scan_knows kept q first
part_out kept (RwPhase.Stores a left) first out = absurd (out 0 Stores refl)
part_out kept q first out = tt

upgrade_out : (p : UpgradePhase) (first : List Waiter) → IsOut (upgrade_stance p) → upgrade_knows p first
upgrade_out (UpgradePhase.Frees r core) first out = part_out Hold.Nothing core.phase first out
upgrade_out (UpgradePhase.Owes kept end core) first out = part_out kept core.phase first out
upgrade_out p first out = tt

pub out_knows : (x : Core) (queues : ℕ → List Waiter) (j : ℕ) → IsOut (stance x) → KnowsList x queues j
out_knows (Core.Late p) queues j out = tt
out_knows (Core.LateRw p) queues j out = tt
out_knows (Core.Upgrade c) queues j out = upgrade_out c.phase (queues (2 * j)) out
out_knows (Core.Mutex c) queues j out = mutex_out c.phase (queues (2 * j)) out
out_knows (Core.Rw c) queues j out = rw_out c.phase (queues (2 * j)) (queues (2 * j + 1)) out

-- What a thread knows in a section of a list goes by that list alone.
mutex_kept : (p : MutexPhase) (q q' : List Waiter) → ((how : Doing) → mutex_stance p ≡ In 0 how → q' ≡ q)
    → mutex_knows p q → mutex_knows p q'
mutex_kept (MutexPhase.Stores giving taken left) q q' same h =
    subst (mutex_knows (MutexPhase.Stores giving taken left)) (sym (same Stores refl)) h
mutex_kept p q q' same h = tt

rw_kept : (p : RwPhase) (f g f' g' : List Waiter) → ((how : Doing) → rw_stance p ≡ In 0 how → f' ≡ f)
    → ((how : Doing) → rw_stance p ≡ In 1 how → g' ≡ g) → rw_knows p f g → rw_knows p f' g'
rw_kept (RwPhase.Stores a left) f g f' g' first second h =
    subst (λ (q : List Waiter). rw_knows (RwPhase.Stores a left) q g) (sym (first Stores refl)) h
rw_kept (RwPhase.ClearWriterParked rest taken) f g f' g' first second h =
    subst (λ (q : List Waiter). rw_knows (RwPhase.ClearWriterParked rest taken) f q) (sym (second Stores refl)) h
rw_kept p f g f' g' first second h = tt

part_kept : (kept : Hold) (p : RwPhase) (q q' : List Waiter) → ((how : Doing) → rw_stance p ≡ In 0 how → q' ≡ q)
    → scan_knows kept p q → scan_knows kept p q'
part_kept kept (RwPhase.Stores a left) q q' same h =
    subst (scan_knows kept (RwPhase.Stores a left)) (sym (same Stores refl)) h
part_kept kept p q q' same h = tt

upgrade_kept : (p : UpgradePhase) (q q' : List Waiter) → ((how : Doing) → upgrade_stance p ≡ In 0 how → q' ≡ q)
    → upgrade_knows p q → upgrade_knows p q'
upgrade_kept (UpgradePhase.Frees r core) q q' same h = part_kept Hold.Nothing core.phase q q' same h
upgrade_kept (UpgradePhase.Owes kept end core) q q' same h = part_kept kept core.phase q q' same h
upgrade_kept p q q' same h = tt

pub list_known : (x : Core) (queues news : ℕ → List Waiter) (j : ℕ)
    → ((k : ℕ) (how : Doing) → stance x ≡ In k how → news (2 * j + k) ≡ queues (2 * j + k)) → KnowsList x queues j
    → KnowsList x news j
list_known (Core.Late p) queues news j same h = tt
list_known (Core.LateRw p) queues news j same h = tt
list_known (Core.Upgrade c) queues news j same h =
    upgrade_kept c.phase (queues (2 * j)) (news (2 * j)) (λ how e. at_first queues news j (same 0 how e)) h
list_known (Core.Mutex c) queues news j same h =
    mutex_kept c.phase (queues (2 * j)) (news (2 * j)) (λ how e. at_first queues news j (same 0 how e)) h
list_known (Core.Rw c) queues news j same h =
    rw_kept c.phase (queues (2 * j)) (queues (2 * j + 1)) (news (2 * j)) (news (2 * j + 1))
    (λ how e. at_first queues news j (same 0 how e)) (λ how e. same 1 how e) h

-- of the section that a thread is in no other is in the list
pub beside : (s : State) → LotFits s → (t : ℕ) (c : Call) → call_at s t ≡ Some c → (k : ℕ) (how : Doing)
    → stance c.core ≡ In k how → (v : ℕ) (e : Call) → v ≢ t → call_at s v ≡ Some e → (l : ℕ) (what : Doing)
    → stance e.core ≡ In l what → (2 * e.lock + l == key_of c k) ≡ false
beside s h t c here k how from v e ne at l what is =
    let mine = seat_of s h t c (In k how) here from in
    let its = seat_of s h v e (In l what) at is in
    ne_eqb (2 * e.lock + l) (key_of c k)
    (λ same. ne (same_number (sym its.2 ∙ (ap (λ (x : Section). x.thread)
    (same_section (sym its.1 ∙ (ap (open_at s) same ∙ mine.1))) ∙ mine.2))))

-- only who sleeps is off its list
pub awake_listed : (s : State) → FitsTogether s → (t : ℕ) (c : Call) → call_at s t ≡ Some c
    → ((k : ℕ) (token : ParkToken) → stance c.core ≡ Asleep k token → ⊥) → c.spot ≡ QueuePosition.Listed
awake_listed s h t c here awake = go c.spot refl
  where
    go : (x : QueuePosition) → c.spot ≡ x → c.spot ≡ QueuePosition.Listed
    go QueuePosition.Listed e = e
    go (QueuePosition.Off by said) e =
        let owed = h.wakes.off t by c said here e in
        let its = h.lots.woken owed.0 owed.1 owed.2 in
        absurd (awake its.key its.token
        (ap (λ (x : Call). stance x.core) (same_call (sym here ∙ (ap (call_at s) (sym owed.4) ∙ its.here)))
        ∙ its.asleep))

-- The machine once a thread has taken one of a list: what the locks see of the two, and what it keeps beside the lot
-- and the rules.

-- WHOM A THREAD HAS TAKEN

abbrev thread_of : Wakeup → ℕ
thread_of e = e.thread

taken_push : (ws : List Wakeup) (e : Wakeup) (x : ℕ) (b : Bool) → (e.by == x) ≡ b
    → taken_by (ws ++ e ∷ []) x ≡ taken_by ws x ++ cond b (e.thread ∷ []) []
taken_push ws e x b is =
    ap (map thread_of) (filter-append (is_by x) ws (e ∷ [])) ∙ map-append thread_of (filter (is_by x) ws)
    (filter (is_by x) (e ∷ []))
    ∙ ap (λ l. taken_by ws x ++ map thread_of l) (ap (λ d. cond d (e ∷ []) []) is) ∙ last b
  where
    last : (d : Bool) → taken_by ws x ++ map thread_of (cond d (e ∷ []) []) ≡ taken_by ws x ++ cond d (e.thread ∷ []) []
    last true = refl
    last false = refl

no_more : (xs : List ℕ) → xs ++ [] ≡ xs
no_more [] = refl
no_more (x ∷ xs) = ap (λ ys. x ∷ ys) (no_more xs)

-- ONE OF A LIST

pub nth_thread : (q : List Waiter) (n : ℕ) (w : Waiter) → slice_get q n ≡ Some w
    → slice_get (threads_of q) n ≡ Some w.thread
nth_thread [] n w e = absurd (none-some w e)
nth_thread (x ∷ q) zero w e = ap (λ (y : Waiter). Some y.thread) (same_Some x w e)
nth_thread (x ∷ q) (suc n) w e = nth_thread q n w e

remove_nth : (q : List Waiter) (n : ℕ) → threads_of (remove q n) ≡ remove (threads_of q) n
remove_nth [] zero = refl
remove_nth [] (suc n) = refl
remove_nth (x ∷ q) zero = refl
remove_nth (x ∷ q) (suc n) = ap (λ ys. x.thread ∷ ys) (remove_nth q n)

-- WHAT IS TO BE SHOWN OF A CALL'S PHASE

-- what the thread is told
abbrev pub took_told : State → Call → ℕ → ℕ → Waiter → ActResult
took_told s c k nth w = ActResult.Took (Some w.token) (is_left (remove (s.lot.queues (key_of c k)) nth))

-- the kind of its lock shows the rest, and it counts whom it took
abbrev pub TakesSo : State → ℕ → Call → ℕ → ℕ → Waiter → Core → Type 0
TakesSo s t c k nth w x = Fitted s (took s t c (key_of c k) nth w) t c (took_told s c k nth w) x × Counts x w.token
    × Gives (core_act x) (word_at s c.lock) (took_told s c k nth w)

-- THE PARTS

module _ (s : State) (t : ℕ) (c : Call) (k nth : ℕ) (w : Waiter) (from : stance c.core ≡ In k Takes)
    (at : slice_get (s.lot.queues (key_of c k)) nth ≡ Some w) (h : FitsTogether s) (here : call_at s t ≡ Some c) where
  abbrev u : State
  u = took s t c (key_of c k) nth w

  abbrev pub the_sleeper : Sleeper s t k c w
  the_sleeper = sleeper s t c h.lots here k nth w (small_key c.core k Takes from) from at

  abbrev z : Call
  z = the_sleeper.call

  pub took_apart : w.thread ≢ t
  took_apart e = eqb-false w.thread t the_sleeper.other e

  pub taker_listed : c.spot ≡ QueuePosition.Listed
  taker_listed = awake_listed s h t c here
      (λ l park e. awake_sleeps l park (stance c.core) (awake_by (stance c.core) (In k Takes) from tt) e)

  -- its section goes on
  pub took_on : Continues s u t
  took_on = continues s u t c h.lots here k Takes from (λ x. record x { phase = phase.Taking nth }) (λ x. refl)
      (λ b. refl) refl
      (λ l ne. updated_other s.lot.queues (key_of c k) (remove (s.lot.queues (key_of c k)) nth) l ne)

  -- the calls
  pub taker_after : call_at u t ≡ Some (hears c (took_told s c k nth w))
  taker_after = call_mine s t c h.lots here k nth w (small_key c.core k Takes from) from at

  pub sleeper_after : call_at u w.thread ≡ Some (off_list t z)
  sleeper_after = call_taken s t c h.lots here k nth w (small_key c.core k Takes from) from at

  pub others_after : (x : ℕ) → x ≢ t → x ≢ w.thread → call_at u x ≡ call_at s x
  others_after x nt nv = call_other s t c h.lots here k nth w (small_key c.core k Takes from) from at x (ne_eqb x t nt)
      (ne_eqb x w.thread nv)

  pub same_threads : length u.calls ≡ length s.calls
  same_threads = took_length s t c h.lots here k nth w (small_key c.core k Takes from) from at

  -- whom they have taken
  pub taker_has : taken_by u.wakes t ≡ taken_by s.wakes t ++ w.thread ∷ []
  taker_has = taken_push s.wakes
      (record { by = t; thread = w.thread; mark = option_map_or mark_of (place_at s.lot.places w.thread) 0 }) t true
      (eq-eqb t t refl)

  pub others_have : (x : ℕ) → x ≢ t → taken_by u.wakes x ≡ taken_by s.wakes x
  others_have x nt =
      taken_push s.wakes
      (record { by = t; thread = w.thread; mark = option_map_or mark_of (place_at s.lot.places w.thread) 0 }) x
      false (ne_eqb t x (λ e. nt (sym e)))
      ∙ no_more (taken_by s.wakes x)

  -- the lists
  pub took_list : (key : ℕ) → key ≡ key_of c k → u.lot.queues key ≡ remove (s.lot.queues (key_of c k)) nth
  took_list key e = ap u.lot.queues e ∙ updated_at s.lot.queues (key_of c k) (remove (s.lot.queues (key_of c k)) nth)

  pub list_here : (key : ℕ) → key ≡ key_of c k → threads_of (u.lot.queues key) ≡ remove (threads_of (s.lot.queues key))
      nth
  list_here key e = ap threads_of (took_list key e) ∙ remove_nth (s.lot.queues (key_of c k)) nth
      ∙ ap (λ n. remove (threads_of (s.lot.queues n)) nth) (sym e)

  same_list : (key : ℕ) → key ≢ key_of c k → u.lot.queues key ≡ s.lot.queues key
  same_list key ne = updated_other s.lot.queues (key_of c k) (remove (s.lot.queues (key_of c k)) nth) key
      (ne_eqb key (key_of c k) ne)

  pub list_there : (key : ℕ) → key ≢ key_of c k → threads_of (u.lot.queues key) ≡ threads_of (s.lot.queues key)
  list_there key ne = ap threads_of (same_list key ne)

  pub nth_there : (key : ℕ) → key ≡ key_of c k → slice_get (threads_of (s.lot.queues key)) nth ≡ Some w.thread
  nth_there key e = ap (λ n. slice_get (threads_of (s.lot.queues n)) nth) e ∙ nth_thread (s.lot.queues (key_of c k)) nth
      w at

  -- the other locks
  pub took_elsewhere : Elsewhere c.lock s u
  took_elsewhere = record {
    kinds = refl;
    threads = same_threads;
    words = λ i ne. refl;
    queues = λ i l ne b. same_list (2 * i + l) (λ e. ne (one_key i c.lock l k b (small_key c.core k Takes from) e).0);
    holds = λ x i ne. refl;
    calls = λ x. elim (cases_eq x t) [
      | inl e ↦ inr (
        subst (λ (n : ℕ). IsThere c.lock (call_at s n)) (sym e) (subst (IsThere c.lock) (sym here) refl),
        subst (λ (n : ℕ). IsThere c.lock (call_at u n)) (sym e) (subst (IsThere c.lock) (sym taker_after) refl),
      )
      | inr nt ↦ elim (cases_eq x w.thread) [
        | inl e ↦ inr (
          subst (λ (n : ℕ). IsThere c.lock (call_at s n)) (sym e)
              (subst (IsThere c.lock) (sym the_sleeper.there) the_sleeper.lock),
          subst (λ (n : ℕ). IsThere c.lock (call_at u n)) (sym e)
              (subst (IsThere c.lock) (sym sleeper_after) the_sleeper.lock),
        )
        | inr nv ↦ inl (others_after x nt nv, others_have x nt)
      ]
    ];
  }

  -- AT A LOCK OF ANY KIND

  module _ {C R L : Type 0} (K : Kind C R L) where
    -- who waits there is in a call of the lock's kind
    pub waits_so : manner_of (slice_get s.kinds c.lock) ≡ Some K.manner → (q : C) × (z.core ≡ K.core q)
    waits_so is = K.only z.core
        (subst (λ (o : Option Manner). IsOfManner o z.core)
        (ap (λ j. manner_of (slice_get s.kinds j)) the_sleeper.lock ∙ is) (h.rules.kinds w.thread z the_sleeper.there))

    module _ (q : C) (its : z.core ≡ K.core q) where
      -- it waits in its list
      pub waits_listed : slice_get (roles_at K s c.lock) w.thread ≡ Some
          (K.plays z.others QueuePosition.Listed (taken_by s.wakes w.thread) q)
      waits_listed =
          subst (λ (j : ℕ). slice_get (roles_at K s j) w.thread ≡ Some
          (K.plays z.others QueuePosition.Listed (taken_by s.wakes w.thread) q)) the_sleeper.lock
          (in_its_place K s w.thread z q (in_range s w.thread z the_sleeper.there) the_sleeper.there its
          ∙ ap (λ (p : QueuePosition). Some (K.plays z.others p (taken_by s.wakes w.thread) q)) the_sleeper.listed)

      -- and what the two are then is all that changes, but for the list
      pub took_after : (k' : C) → core_next c.core (took_told s c k nth w) ≡ K.core k' → (mine : R)
          → K.plays c.others QueuePosition.Listed (taken_by s.wakes t ++ w.thread ∷ []) k' ≡ mine → (theirs : R)
          → K.plays z.others (QueuePosition.Off t WakeResult.Nothing) (taken_by s.wakes w.thread) q ≡ theirs
          → (first second : List ℕ) → queue_at u (2 * c.lock) ≡ first → queue_at u (2 * c.lock + 1) ≡ second
          → shown K u c.lock ≡ K.lock (word_at s c.lock)
          (slice_set (slice_set (roles_at K s c.lock) t mine) w.thread theirs) first second
      took_after k' next mine mine_is theirs theirs_is first second =
          same K _ _ _ _ _ _ _ _ refl
          (ap (all (role_at K u c.lock) 0) same_threads
          ∙ change-two (role_at K s c.lock) (role_at K u c.lock) (length s.calls) t w.thread (in_range s t c here)
          (in_range s w.thread z the_sleeper.there) (λ e. took_apart (sym e))
          (λ x b nt nv. role_stays K s u c.lock x (others_after x nt nv) (others_have x nt) refl)
          ∙ ap (λ r. slice_set (slice_set (roles_at K s c.lock) t r) w.thread (role_at K u c.lock w.thread))
          (role_now K u t (taken_by s.wakes t ++ w.thread ∷ []) (hears c (took_told s c k nth w)) k' taker_after
          taker_has next ∙ ap (λ p. K.plays c.others p (taken_by s.wakes t ++ w.thread ∷ []) k') taker_listed
          ∙ mine_is)
          ∙ ap (slice_set (slice_set (roles_at K s c.lock) t mine) w.thread)
          (subst (λ (j : ℕ). role_at K u j w.thread ≡ theirs) the_sleeper.lock
          (role_now K u w.thread (taken_by s.wakes w.thread) (off_list t z) q sleeper_after
          (others_have w.thread took_apart) its ∙ theirs_is)))

  -- WHO IS TO BE WOKEN

  abbrev entry : Wakeup
  entry = record { by = t; thread = w.thread; mark = option_map_or mark_of (place_at s.lot.places w.thread) 0 }

  abbrev IsIn : List Wakeup → ℕ → ℕ → Type 0
  IsIn ws by x = (n : ℕ) × (e : Wakeup) × (slice_get ws n ≡ Some e) × (e.by ≡ by) × (e.thread ≡ x)

  off_after : (x by : ℕ) (d : Call) (said : WakeResult) → call_at u x ≡ Some d → d.spot ≡ QueuePosition.Off by said
      → IsIn u.wakes by x
  off_after x by d said is off = elim (cases_eq x t) [
    | inl e ↦ absurd (listed
        (sym taker_listed ∙ ap (λ (y : Call). y.spot) (same_call (sym taker_after ∙ (ap (call_at u) (sym e) ∙ is)))
        ∙ off))
    | inr nt ↦ elim (cases_eq x w.thread) [
      | inl e ↦ (
        length s.wakes,
        entry,
        slice_get-seam s.wakes entry [],
        same_by (ap (λ (y : Call). y.spot) (same_call (sym sleeper_after ∙ (ap (call_at u) (sym e) ∙ is))) ∙ off),
        sym e,
      )
      | inr nv ↦ let old = h.wakes.off x by d said (sym (others_after x nt nv) ∙ is) off in
          (old.0, old.1, get_front s.wakes (entry ∷ []) old.0 old.1 old.2, old.3, old.4)
    ]
  ]
    where
      listed : QueuePosition.Listed ≡ QueuePosition.Off by said → ⊥
      listed e = cc

      same_by : QueuePosition.Off t WakeResult.Nothing ≡ QueuePosition.Off by said → t ≡ by
      same_by e = cc

  abbrev calls_off : List (Option Call)
  calls_off = slice_set s.calls w.thread (option_map (off_list t) (call_at s w.thread))

  room_after : length u.wakes ≡ count_by is_away u.calls
  room_after =
      let one : flag (is_away (option_map (off_list t) (call_at s w.thread))) ≡ 1 =
      ap (λ o. flag (is_away (option_map (off_list t) o))) the_sleeper.there in
      let none : flag (is_away (Some z)) ≡ 0 = ap (λ (x : QueuePosition). flag (is_off x)) the_sleeper.listed in
      let there : call_of calls_off t ≡ Some c = call-elsewhere s.calls w.thread t
      (option_map (off_list t) (call_at s w.thread)) (λ e. took_apart (sym e)) ∙ here in
      omega (
        arith,
        length-append s.wakes (entry ∷ []),
        h.wakes.room,
        one,
        none,
        count_by-set is_away s.calls w.thread (Some z) (option_map (off_list t) (call_at s w.thread))
            (slot s.calls w.thread z the_sleeper.there),
        count_by-set is_away calls_off t (Some c) (Some (hears c (took_told s c k nth w))) (slot calls_off t c there),
      )

  pub wakes_after : WakesFit u
  wakes_after = record { off = off_after; room = room_after }
