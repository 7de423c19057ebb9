-- One whose moment has passed takes itself out of its list: that keeps the machine fit, and is a step of the rules.
use Rattle.std.proofs.Common.{◌≡◌, ℕ, zero, suc, ◌+◌, ◌*◌, ◌≤◌, ◌<◌, ◌≢◌, ◌==◌, ◌||◌, Bool, true, false, cond}
use Rattle.std.proofs.Common.{List, [], ◌∷◌, length, remove, Option, Some, None, is_some, slice_get, slice_set, refl}
use Rattle.std.proofs.Common.{sym, ap}
use Rattle.std.proofs.Common.{◌∙◌, subst, arith, eqb-true, eq-eqb}
use Rattle.std.specs.List.{position_or_len}
use Rattle.std.specs.Option.{option_map}
use Rattle.std.proofs.lemmas.Bool.{ne_eqb}
use Rattle.std.proofs.lemmas.List.{length-map}
use Rattle.std.proofs.lemmas.List.Edits.{length-remove}
use Rattle.std.proofs.lemmas.Option.{slice_get-map, slice_get_within}
use Rattle.parking_lot_core_model.specs.declared.place.Phase.{Phase}
use Rattle.parking_lot_core_model.specs.declared.place.Place.TheVariants.{Running, Waiting}
use Rattle.parking_lot_core_model.specs.declared.place.Section.{Section}
use Rattle.parking_lot_core_model.specs.declared.place.Waiter.{Waiter}
use Rattle.parking_lot_core_model.specs.Machine.{Machine, given_up, is_thread, stored, threads_of}
use Rattle.parking_lot_core_model.specs.Places.{place_at}
use Rattle.parking_lot_core_model.specs.Results.{is_left}
use Rattle.parking_lot_core_model.specs.Sound as lot
use Rattle.parking_lot_core_model.specs.Sound.{times_at}
use Rattle.parking_lot_core_model.specs.Lists.{updated}
use Rattle.parking_lot_core_model.proofs.Kept.{updated_at, updated_other, updated_twice}
use Rattle.parking_lot_core_model.proofs.Numbers.{flag, first_passes}
use Rattle.parking_lot_core_model.proofs.Sounds.{place_at-set_same, place_at-set_other}
use Rattle.parking_lot_rules.specs.Any.{AnyStep, Mx, MxStep, Rw, any_after, any_allowed, any_crossing}
use Rattle.parking_lot_rules.specs.Classes.{bit}
use Rattle.parking_lot_rules.specs.Steps.{first_after, listing_from, listing_to}
use Rattle.parking_lot_rules.specs.Roles.{Back}
use Rattle.parking_lot_rules.specs.Mutex as mutex
use Rattle.parking_lot_protocol.specs.Acts.{word_after}
use Rattle.parking_lot_protocol.specs.RwRules as of_rw
use Rattle.parking_lot_protocol.specs.declared.act.ActResult.TheVariants as seen
use Rattle.parking_lot_protocol.specs.declared.act.ActResult.{ActResult}
use Rattle.parking_lot_machine_calls.specs.declared.late_rw.LateRwPhase.{LateRwPhase}
use Rattle.parking_lot_machine_calls.specs.declared.seat.LatePhase.{LatePhase}
use Rattle.parking_lot_machine_calls.specs.declared.seat.Core.{Core}
use Rattle.parking_lot_machine_calls.specs.declared.seat.QueuePosition.{QueuePosition}
use Rattle.parking_lot_machine_calls.specs.declared.open_call.Call.{Call}
use Rattle.parking_lot_machine.specs.ActLaws.{Acts}
use Rattle.parking_lot_machine_calls.specs.Kinds.{AsMutex, manner_of, recursive_in}
use Rattle.parking_lot_machine.specs.LateActs.{others_left, out_of_list, quitted, quitted_as}
use Rattle.parking_lot_machine_calls.specs.LateCalls.{is_back, is_pending, late_is_back, late_key, late_rw_is_back}
use Rattle.parking_lot_machine_calls.specs.LateRoles.{quitting, quitting_as, sleeper_wants}
use Rattle.parking_lot_machine.specs.RowActs.{with_call, with_lot}
use Rattle.parking_lot_machine_calls.specs.CallActs.{hears}
use Rattle.parking_lot_machine.specs.RowFits.{FitsTogether, IsPrepared, LotFits, WaitsIn}
use Rattle.parking_lot_machine_calls.specs.CallKinds.{IsOfKind}
use Rattle.parking_lot_machine.specs.RowSteps.{IsLateMove, IsMade, IsMoveOf}
use Rattle.parking_lot_machine.specs.Rows.{State, bucket, call_at, mutex_at, open_at, queue_at, rw_lock_at, taken_by}
use Rattle.parking_lot_machine.specs.Rows.{word_at}
use Rattle.parking_lot_machine_calls.specs.Stances.{In, Joined, Stores, Tells, core_next, pending_from, quits_as, sign}
use Rattle.parking_lot_machine_calls.specs.Stances.{stance}
use Rattle.parking_lot_machine.proofs.KindTable.{Kind, Tardy, of_mutexes, of_rws, roles_at, same, shown}
use Rattle.parking_lot_machine.proofs.KindTable.{Late as CallLate}
use Rattle.parking_lot_machine.proofs.LateKinds.{IsBack, Quits, backs, quits_so, sleeper_plays}
use Rattle.parking_lot_machine.proofs.LateRules.{quit_lists}
use Rattle.parking_lot_machine.proofs.LateLots.{quit_fits}
use Rattle.parking_lot_machine.proofs.LotActs.{lot_with_at, phase_as, restored_as, seat_of}
use Rattle.parking_lot_machine.proofs.LotLists.{one_key}
use Rattle.parking_lot_machine.proofs.Crossings.{Continues, continues}
use Rattle.parking_lot_machine.proofs.Making.{Crossed, entries, made}
use Rattle.parking_lot_machine.proofs.Meeting.{meets, plays_late}
use Rattle.parking_lot_machine.proofs.Owning.{OwnAct, own-elsewhere, own-there, own_after}
use Rattle.parking_lot_machine.proofs.Passing.{own_passes}
use Rattle.parking_lot_machine.proofs.Ruling.{Fitted, rules_own}
use Rattle.parking_lot_machine.proofs.TakeParts.{beside, list_known}
use Rattle.parking_lot_machine.proofs.WakesKept.{wakes_own}

-- LISTS AND THEIR THREADS

get_thread : (q : List Waiter) (i : ℕ) (w : Waiter) → slice_get q i ≡ Some w
    → slice_get (threads_of q) i ≡ Some w.thread
get_thread q i w e = slice_get-map (λ (x : Waiter). x.thread) q i ∙ ap (option_map (λ (x : Waiter). x.thread)) e

remove_thread : (q : List Waiter) (i : ℕ) → threads_of (remove q i) ≡ remove (threads_of q) i
remove_thread [] zero = refl
remove_thread [] (suc i) = refl
remove_thread (w ∷ q) zero = refl
remove_thread (w ∷ q) (suc i) = ap (λ us. w.thread ∷ us) (remove_thread q i)

some_left : (q : List Waiter) → is_left q ≡ true → 1 ≤ length q
some_left [] e = absurd cc
some_left (w ∷ q) e = omega arith

none_left : (q : List Waiter) → is_left q ≡ false → length q ≡ 0
none_left [] e = refl
none_left (w ∷ q) e = absurd cc

-- AT A LOCK OF ANY KIND

module _ {C R L : Type 0} (K : Kind C R L) (s u : State) (t : ℕ) (c : Call) (told : ActResult) (q : C)
    (at : QueuePosition) (a : OwnAct s u t c told (K.core q) at)
    (kind_is : manner_of (slice_get s.kinds c.lock) ≡ Some K.manner) where
  -- an act that leaves the word, and what it leads to
  pub lapse_made : (step : AnyStep) → word_at u c.lock ≡ word_at s c.lock → any_allowed (recursive_in s.kinds) c.lock t
      step (K.any (shown K s c.lock))
      → K.any (K.lock (word_at s c.lock)
      (slice_set (roles_at K s c.lock) t (K.plays c.others QueuePosition.Listed (taken_by s.wakes t) q))
      (queue_at u (2 * c.lock)) (queue_at u (2 * c.lock + 1))) ≡ any_after t step (K.any (shown K s c.lock))
      → Crossed (any_crossing step) t (entries s c.lock) (entries u c.lock) → IsMade c.lock t step s u
  lapse_made step word allowed leads crossed =
      made K s u t c.lock (own-there s u t c told _ at a) (own-elsewhere s u t c told _ at a) kind_is step allowed
      (ap K.any (own_after K s u t c told q at a (word_at s c.lock) word) ∙ leads) crossed

-- IT TAKES ITSELF OUT

module _ (s : State) (t : ℕ) (c : Call) (late : is_back c.core ≡ true) (h : FitsTogether s)
    (here : call_at s t ≡ Some c) where
  abbrev key : ℕ
  key = late_key c

  abbrev which : ℕ
  which = bit (is_pending c.core)

  abbrev q : List Waiter
  q = s.lot.queues key

  abbrev i : ℕ
  i = position_or_len (is_thread t) q

  two : which < 2
  two = go (is_pending c.core)
    where
      go : (b : Bool) → bit b < 2
      go true = omega arith
      go false = omega arith

  has_come : IsBack (recursive_in s.kinds c.lock) c.others c.core
  has_come = backs (recursive_in s.kinds c.lock) c.others c.core late (h.rules.prepared t c here)

  stands : (o : Section) × (open_at s key ≡ Some o) × (o.thread ≡ Some t) × (o.key ≡ 2 * c.lock + which)
      × (o.phase ≡ Phase.Joined) × (c.spot ≡ QueuePosition.Listed)
      × WaitsIn (place_at s.lot.places t) (2 * c.lock + which)
  stands = let seat = seat_of s h.lots t c (In which (Joined has_come.park)) here has_come.stands in
      (seat.0, seat.1, seat.2, seat.3, seat.4, seat.5.0, seat.5.1)

  -- where it stood
  stood : (w : Waiter) × (slice_get q i ≡ Some w) × (w.thread ≡ t)
  stood =
      let x = first_passes (is_thread t) q
      (subst (λ (n : ℕ). 1 ≤ n)
      (sym (h.lots.sound.waits t key ∙ (ap (times_at key) stands.6.1 ∙ ap flag (eq-eqb key key refl))))
      (omega arith)) in
      (x.0, x.1, eqb-true x.0.thread t x.2)

  module _ (left : Bool) (is : others_left s t c ≡ left) (sound : lot.Sound (quitted_as s t c left).lot) where
    abbrev quit_state : State
    quit_state = quitted_as s t c left

    abbrev heard : ActResult
    heard = seen.Took None left

    -- whether there is nothing to store
    abbrev told_now : Bool
    told_now = left || is_pending c.core

    quit_queue : (l : ℕ) → quit_state.lot.queues l ≡ (out_of_list s t c).queues l
    quit_queue l = go told_now
      where
        go : (b : Bool) → (cond b (stored (out_of_list s t c) key (sign false)) (out_of_list s t c)).queues l
            ≡ (out_of_list s t c).queues l
        go true = refl
        go false = refl

    quit_buckets : quit_state.lot.buckets ≡ s.lot.buckets
    quit_buckets = go told_now
      where
        go : (b : Bool) → (cond b (stored (out_of_list s t c) key (sign false)) (out_of_list s t c)).buckets
            ≡ s.lot.buckets
        go true = refl
        go false = refl

    own_quit : OwnAct s quit_state t c heard (core_next c.core heard) c.spot
    own_quit = record {
      here = here;
      calls = refl;
      kinds = refl;
      wakes = refl;
      holds = refl;
      sizes = refl;
      word = sym (ap (λ a. word_after a heard (word_at s c.lock)) has_come.act);
      words = λ j ne. refl;
      queues = λ j k ne b. quit_queue (2 * j + k) ∙ updated_other s.lot.queues key (remove q i) (2 * j + k)
          (ne_eqb (2 * j + k) key (λ e. ne (one_key j c.lock k which b two e).0));
      buckets = quit_buckets;
      listed = λ k token e. stands.5;
    }

    quit_of : (x : Core) → c.core ≡ x → OwnAct s quit_state t c heard (core_next x heard) c.spot
    quit_of x e = subst (λ (y : Core). OwnAct s quit_state t c heard (core_next y heard) c.spot) e own_quit

    -- the lists then
    list_then : (l : ℕ) → l ≡ key → queue_at quit_state l ≡ remove (queue_at s l) i
    list_then l same_key = ap (λ k. threads_of (quit_state.lot.queues k)) same_key
        ∙ ap threads_of (quit_queue key ∙ updated_at s.lot.queues key (remove q i)) ∙ remove_thread q i
        ∙ ap (λ k. remove (threads_of (s.lot.queues k)) i) (sym same_key)

    list_still : (l : ℕ) → l ≢ key → queue_at quit_state l ≡ queue_at s l
    list_still l ne = ap threads_of (quit_queue l ∙ updated_other s.lot.queues key (remove q i) l (ne_eqb l key ne))

    stood_there : (l : ℕ) → l ≡ key → slice_get (queue_at s l) i ≡ Some t
    stood_there l same_key = ap (λ k. slice_get (threads_of (s.lot.queues k)) i) same_key
        ∙ get_thread q i stood.0 stood.1 ∙ ap Some stood.2

    as_many : (l : ℕ) → l ≡ key → length (queue_at s l) ≡ length (remove q i) + 1
    as_many l same_key = ap (λ k. length (threads_of (s.lot.queues k))) same_key
        ∙ length-map q (λ (x : Waiter). x.thread) ∙ sym (length-remove q i (slice_get_within q i stood.0 stood.1))

    left_by : is_left (remove q i) ≡ left
    left_by = sym (ap is_left (updated_at s.lot.queues key (remove q i))) ∙ is

    quit_goes : Quits (recursive_in s.kinds c.lock) c.others c.core left
    quit_goes = quits_so (recursive_in s.kinds c.lock) c.others c.core late left (h.rules.prepared t c here)

    quit_runs : (out : Machine) → out.places ≡ (out_of_list s t c).places → place_at out.places t ≡ Some Running
    quit_runs out e = ap (λ ps. place_at ps t) e
        ∙ place_at-set_same s.lot.places t (Waiting (2 * c.lock + which) stands.6.0) (Some Running) stands.6.1

    quit_others : (out : Machine) → out.places ≡ (out_of_list s t c).places → (v : ℕ) → (v == t) ≡ false
        → place_at out.places v ≡ place_at s.lot.places v
    quit_others out e v ne = ap (λ ps. place_at ps v) e ∙ place_at-set_other s.lot.places t v (Some Running) ne

    -- the lot's side, where it has something to store, and where it hasn't
    quit_lots : LotFits quit_state
    quit_lots = go told_now quit_goes.to sound
      where
        o : Section
        o = stands.0

        d : Call
        d = hears c heard

        -- the section of the key comes so far
        ends : out_of_list s t c ≡ lot_with_at s key s.lot.sleeps (out_of_list s t c).queues (out_of_list s t c).places
            (Some (record o { phase = Phase.Ended })) s.lot.inside
        ends = ap (λ (m : Machine). given_up m t key) (phase_as s key o Phase.Ended stands.1)

        tells : stored (out_of_list s t c) key (sign false) ≡ lot_with_at s key s.lot.sleeps (out_of_list s t c).queues
            (out_of_list s t c).places (Some (record o { phase = Phase.Stored; token = sign false })) s.lot.inside
        tells = ap (λ (m : Machine). stored m key (sign false)) ends
            ∙ restored_as s key s.lot.sleeps (out_of_list s t c).queues (out_of_list s t c).places
            (record o { phase = Phase.Ended }) s.lot.inside (sign false)

        go : (b : Bool) → stance d.core ≡ In which (cond b (Tells (sign false)) Stores)
            → lot.Sound (cond b (stored (out_of_list s t c) key (sign false)) (out_of_list s t c))
            → LotFits (with_lot (with_call s t d)
            (cond b (stored (out_of_list s t c) key (sign false)) (out_of_list s t c)))
        go true to so =
            let o' : Section = record o { phase = Phase.Stored; token = sign false } in
            let out = stored (out_of_list s t c) key (sign false) in
            quit_fits s t c d which two (Tells (sign false)) has_come.park h.lots here has_come.stands to refl
            has_come.none quit_goes.none (λ asked. absurd (quit_goes.wakes asked)) out so refl (quit_runs out refl)
            (quit_others out refl) o' stands.2 tells
            (λ place secs runs at. (o', at, stands.2, stands.3, (refl, refl), runs, refl))
        go false to so =
            let o' : Section = record o { phase = Phase.Ended } in
            quit_fits s t c d which two Stores has_come.park h.lots here has_come.stands to refl has_come.none
            quit_goes.none (λ asked. absurd (quit_goes.wakes asked)) (out_of_list s t c) so refl
            (quit_runs (out_of_list s t c) refl)
            (quit_others (out_of_list s t c) refl) o' stands.2 ends
            (λ place secs runs at. (o', at, stands.2, stands.3, refl, runs, refl))

    -- and the rules'
    -- its section goes on, with one change or two
    quit_shape : (b : Bool) → let m = cond b (stored (out_of_list s t c) key (sign false)) (out_of_list s t c) in
        (f : Section → Section) × ((x : Section) → (f x).thread ≡ x.thread)
        × ((n : ℕ) → m.sections n ≡ updated s.lot.sections (bucket s key) (option_map f (open_at s key)) n)
        × (m.buckets ≡ s.lot.buckets) × ((l : ℕ) → (l == key) ≡ false → m.queues l ≡ s.lot.queues l)
    quit_shape true = (
      λ x. record x { phase = Phase.Stored; token = sign false },
      λ x. refl,
      λ n. stored_twice n,
      refl,
      λ l ne. updated_other s.lot.queues key (remove q i) l ne,
    )
      where
        ends : Section → Section
        ends x = record x { phase = Phase.Ended }

        tells : Section → Section
        tells x = record x { phase = Phase.Stored; token = sign false }

        both : (o : Option Section) → option_map tells (option_map ends o) ≡ option_map tells o
        both None = refl
        both (Some x) = refl

        stored_twice : (n : ℕ) → updated (updated s.lot.sections (bucket s key) (option_map ends (open_at s key)))
            (bucket s key) (option_map tells (updated s.lot.sections (bucket s key) (option_map ends (open_at s key))
            (bucket s key))) n ≡ updated s.lot.sections (bucket s key) (option_map tells (open_at s key)) n
        stored_twice n =
            ap (λ (o : Option Section). updated (updated s.lot.sections (bucket s key)
            (option_map ends (open_at s key))) (bucket s key) (option_map tells o) n)
            (updated_at s.lot.sections (bucket s key) (option_map ends (open_at s key)))
            ∙ (ap (λ (g : ℕ → Option Section). g n) (updated_twice s.lot.sections (bucket s key)
            (option_map ends (open_at s key)) (option_map tells (option_map ends (open_at s key))))
            ∙ ap (λ (o : Option Section). updated s.lot.sections (bucket s key) o n) (both (open_at s key)))
    quit_shape false = (
      λ x. record x { phase = Phase.Ended },
      λ x. refl,
      λ n. refl,
      refl,
      λ l ne. updated_other s.lot.queues key (remove q i) l ne,
    )

    quit_on : Continues s quit_state t
    quit_on =
        let x = quit_shape told_now in
        continues s quit_state t c h.lots here which (Joined has_come.park) has_come.stands x.0 x.1 x.2 x.3 x.4

    quit_mutex : (p : LatePhase) → c.core ≡ Core.Late p → late_is_back p ≡ true
        → IsMoveOf (Core.Late p) c.others (taken_by s.wakes t) heard c.lock t s quit_state
    quit_mutex LatePhase.Quits e back = go left refl
      where
        kind_is : manner_of (slice_get s.kinds c.lock) ≡ Some AsMutex
        kind_is = subst (IsOfKind (slice_get s.kinds c.lock)) e (h.rules.kinds t c here)

        first : 2 * c.lock ≡ key
        first = omega (arith, ap (λ x. bit (is_pending x)) e)

        mine : slice_get (mutex_at s c.lock).roles t ≡ Some (mutex.doing (mutex.Queued Back))
        mine = (plays_late s h t c LatePhase.Quits e here).here

        go : (b : Bool) → left ≡ b → IsLateMove LatePhase.Quits (seen.Took None left) c.lock t s quit_state
        go true f = (
          i,
          subst (λ b. IsMade c.lock t (MxStep (cond b (mutex.Quit i) (mutex.QuitLast i))) s quit_state) (sym f)
              (lapse_made of_mutexes s quit_state t c heard (CallLate LatePhase.Leaves) c.spot
              (subst (λ b. OwnAct s quit_state t c heard (Core.Late (cond b LatePhase.Leaves LatePhase.Masks))
              c.spot) f (quit_of (Core.Late LatePhase.Quits) e)) kind_is (MxStep (mutex.Quit i)) refl (
                mine,
                stood_there (2 * c.lock) first,
                omega (arith, as_many (2 * c.lock) first, some_left (remove q i) (left_by ∙ f)),
              )
              (ap Mx (same of_mutexes _ _ _ _ _ _ [] [] refl refl (list_then (2 * c.lock) first) refl)) (
                tt,
                quit_on.entered,
              )),
        )
        go false f = (
          i,
          subst (λ b. IsMade c.lock t (MxStep (cond b (mutex.Quit i) (mutex.QuitLast i))) s quit_state) (sym f)
              (lapse_made of_mutexes s quit_state t c heard (CallLate LatePhase.Masks) c.spot
              (subst (λ b. OwnAct s quit_state t c heard (Core.Late (cond b LatePhase.Leaves LatePhase.Masks))
              c.spot) f (quit_of (Core.Late LatePhase.Quits) e)) kind_is (MxStep (mutex.QuitLast i)) refl (
                mine,
                stood_there (2 * c.lock) first,
                omega (arith, as_many (2 * c.lock) first, none_left (remove q i) (left_by ∙ f)),
              )
              (ap Mx (same of_mutexes _ _ _ _ _ _ [] [] refl refl (list_then (2 * c.lock) first) refl)) (
                tt,
                quit_on.entered,
              )),
        )
    quit_mutex p e back = absurd cc

    quit_rw : (p : LateRwPhase) → c.core ≡ Core.LateRw p → late_rw_is_back p ≡ true
        → IsMoveOf (Core.LateRw p) c.others (taken_by s.wakes t) heard c.lock t s quit_state
    quit_rw (LateRwPhase.Quits k) e back =
        let us = taken_by s.wakes t in
        let l = rw_lock_at s c.lock in
        let kind_is = subst (IsOfKind (slice_get s.kinds c.lock)) e (h.rules.kinds t c here) in
        let ready = subst (IsPrepared (recursive_in s.kinds c.lock) c.others) e (h.rules.prepared t c here) in
        let role = sleeper_plays (recursive_in s.kinds c.lock) c.others us k ready.0 ready.1 in
        let mine : slice_get l.roles t ≡ Some (listing_from (quitting_as (pending_from k) (sleeper_wants k) left i)) =
        (meets s h t c (Tardy (LateRwPhase.Quits k)) e here).here ∙ ap Some (role.4 left i).0 in
        let pending : is_pending c.core ≡ is_some (pending_from k) = ap is_pending e in
        let lists = quit_lists (pending_from k) (sleeper_wants k) left i t (queue_at s (2 * c.lock))
        (queue_at s (2 * c.lock + 1)) (queue_at quit_state (2 * c.lock)) (queue_at quit_state (2 * c.lock + 1))
        (λ none.
        let first : 2 * c.lock ≡ key = omega (arith, ap bit (pending ∙ none)) in
        let other : 2 * c.lock + 1 ≢ key = λ f. omega (arith, f, ap bit (pending ∙ none)) in
        record {
          stood = stood_there (2 * c.lock) first;
          more = λ f. omega (arith, as_many (2 * c.lock) first, some_left (remove q i) (left_by ∙ f));
          last = λ f. omega (arith, as_many (2 * c.lock) first, none_left (remove q i) (left_by ∙ f));
          out = list_then (2 * c.lock) first;
          still = list_still (2 * c.lock + 1) other;
        })
        (λ some.
        let second : 2 * c.lock + 1 ≡ key = omega (arith, ap bit (pending ∙ some)) in
        let other : 2 * c.lock ≢ key = λ f. omega (arith, f, ap bit (pending ∙ some)) in
        record {
          stood = stood_there (2 * c.lock + 1) second;
          out = list_then (2 * c.lock + 1) second;
          still = list_still (2 * c.lock) other;
        }) in (
          i,
          lapse_made of_rws s quit_state t c heard (Tardy (quits_as (pending_from k) left)) c.spot
              (quit_of (Core.LateRw (LateRwPhase.Quits k)) e) kind_is (quitting k left i) refl (mine, lists.0)
              (ap (λ r. Rw (record {
                word = l.word;
                roles = slice_set l.roles t r;
                first = queue_at quit_state (2 * c.lock);
                second = queue_at quit_state (2 * c.lock + 1);
              })) ((role.4 left i).1 of_rw.Listed)
              ∙ ap (λ f. Rw (record {
                word = l.word;
                roles = slice_set l.roles t (listing_to (quitting_as (pending_from k) (sleeper_wants k) left i));
                first = f;
                second = queue_at quit_state (2 * c.lock + 1);
              })) lists.1
              ∙ ap (λ f. Rw (record {
                word = l.word;
                roles = slice_set l.roles t (listing_to (quitting_as (pending_from k) (sleeper_wants k) left i));
                first = first_after (quitting_as (pending_from k) (sleeper_wants k) left i) t l.first;
                second = f;
              }))
              lists.2)
              (tt, quit_on.entered),
        )
    quit_rw p e back = absurd cc

    quit_fitted : Fitted s quit_state t c heard c.core
    quit_fitted = (
      go c.core refl late,
      quit_goes.prepared,
      quit_goes.knows quit_state.lot.queues c.lock,
      h.rules.bits c.lock,
    )
      where
        go : (x : Core) → c.core ≡ x → is_back x ≡ true → IsMoveOf x c.others (taken_by s.wakes t) heard c.lock t s
            quit_state
        go (Core.Late p) e back = quit_mutex p e back
        go (Core.LateRw p) e back = quit_rw p e back
        go (Core.Mutex k) e back = absurd cc
        go (Core.Rw k) e back = absurd cc
        go (Core.Upgrade k) e back = absurd cc

    quits_as_told : (told : ActResult) × Acts t c told s quit_state
    quits_as_told =
        let both = rules_own s quit_state t c heard c.spot own_quit h
        (λ v e ne at. list_known e.core s.lot.queues quit_state.lot.queues e.lock
        (λ l what is_in. quit_queue (2 * e.lock + l) ∙ updated_other s.lot.queues key (remove q i) (2 * e.lock + l)
        (beside s h.lots t c here which (Joined has_come.park) has_come.stands v e ne at l what is_in))
        (h.rules.knows v e at)) quit_fitted in (
          heard,
          record {
            fits =
                record {
                  lots = quit_lots;
                  passes = own_passes s quit_state t c heard (core_next c.core heard) c.spot
                      own_quit quit_lots h.passes
                      quit_on.around
                      (λ k o e. absurd (quit_goes.takes k e));
                  wakes = wakes_own s quit_state t c heard (core_next c.core heard)
                      own_quit h.wakes;
                  rules = both.0;
                };
            goes = both.1;
          },
        )

  pub quits : lot.Sound (quitted s t c).lot → (told : ActResult) × Acts t c told s (quitted s t c)
  quits sound = quits_as_told (others_left s t c) refl sound
