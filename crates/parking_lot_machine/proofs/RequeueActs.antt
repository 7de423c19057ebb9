-- A waiter that is taken into the list of a mutex, and one that is woken to try again: the machine fits together, and
-- it is a run of the rules.
use Rattle.std.proofs.Common.{◌≡◌, ◌≢◌, ℕ, ◌+◌, ◌*◌, ◌/◌, ◌%◌, ◌<◌, ◌≤◌, Bool, true, false, [], ◌∷◌, ◌++◌, length, Some}
use Rattle.std.proofs.Common.{◌==◌, Option, cond, not, None, slice_get, refl, sym, ap, ◌∙◌, subst, arith}
use Rattle.std.proofs.lemmas.Bool.{ne_eqb}
use Rattle.std.proofs.lemmas.List.{length-set, map-append}
use Rattle.std.proofs.lemmas.Option.{none-some}
use Rattle.parking_lot_core_model.specs.declared.place.Waiter.{Waiter}
use Rattle.std.specs.Option.{option_and_then}
use Rattle.parking_lot_core_model.specs.declared.place.Section.{Section}
use Rattle.parking_lot_core_model.specs.Machine.{Machine, joined, threads_of}
use Rattle.parking_lot_core_model.proofs.Whole.{park_in_steps}
use Rattle.parking_lot_machine_calls.specs.Stances as stances
use Rattle.parking_lot_machine_calls.specs.declared.open_call.Call.{Call}
use Rattle.parking_lot_core_model.proofs.Kept.{updated_at, updated_other}
use Rattle.parking_lot_rules.specs.Roles.{Asleep}
use Rattle.parking_lot_rules.specs.Mutex as mutex
use Rattle.parking_lot_protocol.specs.MutexTable.{begins}
use Rattle.parking_lot_protocol.specs.declared.mutex_phase.MutexPhase.{MutexPhase}
use Rattle.parking_lot_machine_calls.specs.declared.calls.LockCall.{LockCall}
use Rattle.parking_lot_machine_calls.specs.Kinds.{AsMutex, manner_of}
use Rattle.parking_lot_machine.specs.Machines.{may_begin}
use Rattle.parking_lot_machine.specs.Ranks.{Sees, Shut, mutex_steps, steps_left}
use Rattle.parking_lot_machine.specs.Requeues.{IsAttended, IsRousedIn, IsTakenIn, filed, pull_run, requeue_run}
use Rattle.parking_lot_machine.specs.Requeues.{retrying_call, roused, roused_in, sleeping_call, taken_in}
use Rattle.parking_lot_machine.specs.RowFits.{FitsTogether, LotFits, PassesFit, SeatedIn}
use Rattle.parking_lot_machine.specs.Rows.{State, bucket, call_at, entered_in, first_key, hold_at, mutex_at}
use Rattle.parking_lot_machine.specs.Rows.{mutex_word_of, open_at}
use Rattle.parking_lot_machine.specs.Rows.{queue_at, word_at}
use Rattle.parking_lot_machine_calls.specs.CallRoles.{owns_mutex}
use Rattle.parking_lot_machine.proofs.Acting.{word-elsewhere, word-here}
use Rattle.parking_lot_machine.proofs.KindTable.{within_kinds}
use Rattle.parking_lot_machine.proofs.Carrying.{same_call}
use Rattle.parking_lot_machine.proofs.Passing.{passes_after}
use Rattle.parking_lot_machine.proofs.Paying.{shut_in}
use Rattle.parking_lot_machine.proofs.MutexMoving.{same_mutex}
use Rattle.parking_lot_machine.proofs.RequeueCosts.{costs_at_most, others_cost}
use Rattle.parking_lot_machine.proofs.RequeueLots.{roused_lots, taken_lots}
use Rattle.parking_lot_machine.proofs.RequeueRuns.{laws as runs}
use Rattle.parking_lot_machine.proofs.RequeueSound.{filed_attended, filed_sound, roused_attended, roused_sound}
use Rattle.parking_lot_machine.proofs.Requeueing.{away_there, may_come, nobody, none_inside, now_roles, now_rules}
use Rattle.parking_lot_machine.proofs.Requeueing.{now_here, now_there, now_wakes, others_stay, was_sound}
use Rattle.parking_lot_machine.proofs.Requesting.{may_begins}

-- nobody is in a section who sleeps in the list, or asks
sleeper_outside : mutex.weight mutex.Inside (mutex.doing (mutex.Queued Asleep)) ≡ 0
unfolding mutex.weight
sleeper_outside = refl

seeker_outside : mutex.weight mutex.Inside (mutex.doing (mutex.Seeks true)) ≡ 0
unfolding mutex.weight
seeker_outside = refl

module _ (s : State) (v lock : ℕ) (timed : Bool) (h : FitsTogether s) (low : v < length s.calls)
    (alone : call_at s v ≡ None) (kind : manner_of (slice_get s.kinds lock) ≡ Some AsMutex)
    (owns : owns_mutex (hold_at s v lock) ≡ false) (free : open_at s (first_key lock) ≡ None)
  where
    pub has_its_word : lock < length s.words
    has_its_word = omega (arith, within_kinds s.kinds lock AsMutex kind, h.rules.size_words)

    -- whom others' sections have passed: they are as they were, and so are their lists
    stays_passed : (u : State) (p : MutexPhase) → LotFits u → (d : Call) → call_at u v ≡ Some d
        → ((x : ℕ) → x ≢ v → call_at u x ≡ call_at s x)
        → ((k : ℕ) → stances.stance d.core ≡ stances.In k stances.Takes → ⊥)
        → u.lot.buckets ≡ s.lot.buckets → ((b : ℕ) → u.lot.sections b ≡ s.lot.sections b)
        → ((key : ℕ) → (key == first_key lock) ≡ false → u.lot.queues key ≡ s.lot.queues key) → PassesFit u
    stays_passed u p lots d here there never buckets sections queues =
        passes_after s u v lots h.passes
        (λ x key o ne at whose.
        let was : open_at s key ≡ Some o = sym (sections (bucket s key))
        ∙ (ap (λ (n : ℕ). u.lot.sections (key % n)) (sym buckets) ∙ at) in (
          was,
          queues key (ne_eqb key (first_key lock) (λ e. none-some o (sym free ∙ (ap (open_at s) (sym e) ∙ was)))),
        ))
        (λ x e k ne at is. (e, sym (there x ne) ∙ at, refl, refl))
        (λ e k o at is open_now. absurd (never k
        (ap (λ (y : Call). stances.stance y.core) (same_call (sym here ∙ at)) ∙ is)))

    -- INTO THE LIST

    abbrev u : State
    u = taken_in s v lock timed

    abbrev new_word : ℕ
    new_word = word_at s lock % 2 + 2

    word_then : word_at u lock ≡ new_word
    word_then = word-here s.words lock new_word has_its_word

    words_then : (i : ℕ) → i ≢ lock → word_at u i ≡ word_at s i
    words_then i ne = word-elsewhere s.words lock new_word i ne

    -- the section that it made is closed again, so the lot has one waiter more, and is as it was beside that
    out_of_it : s.lot.inside v ≡ None
    out_of_it = (subst (λ (o : Option Call). SeatedIn s.lot v o) alone (h.lots.seated v low)).1

    lot_then : u.lot ≡ joined s.lot v (first_key lock) (record { 0 = 0 }) false
    lot_then = park_in_steps s.lot v (first_key lock) (record { 0 = 0 }) false h.lots.sound free out_of_it

    queues_then : (key : ℕ) → (key == first_key lock) ≡ false → u.lot.queues key ≡ s.lot.queues key
    queues_then key ne = updated_other s.lot.queues (first_key lock) _ key ne

    buckets_then : u.lot.buckets ≡ s.lot.buckets
    buckets_then = refl

    sections_then : (b : ℕ) → u.lot.sections b ≡ s.lot.sections b
    sections_then b = ap (λ (m : Machine). m.sections b) lot_then

    entered_then : (b : ℕ) → entered_in u b ≡ entered_in s b
    entered_then b = ap (option_and_then (λ (x : Section). x.thread)) (sections_then b)

    first_then : (i : ℕ) → i ≢ lock → length (u.lot.queues (first_key i)) ≡ length (s.lot.queues (first_key i))
    first_then i ne = let same : 2 * i ≡ 2 * i + 0 = omega arith in ap (λ k. length (u.lot.queues k)) same
        ∙ ap length (queues_then (2 * i + 0) (ne_eqb (2 * i + 0) (first_key lock) (λ e. ne (omega (arith, e)))))
        ∙ sym (ap (λ k. length (s.lot.queues k)) same)

    bits_then : mutex_word_of new_word ≡ record (mutex_word_of (word_at s lock)) { parked = 1 }
    bits_then = let w = word_at s lock in let a : (w % 2 + 2) % 2 ≡ w % 2 = omega arith in
        let b : (w % 2 + 2) / 2 % 2 ≡ 1 = omega arith in (λ i. record { locked = a i; parked = b i })

    list_then : queue_at u (first_key lock) ≡ queue_at s (first_key lock) ++ v ∷ []
    list_then = ap threads_of (updated_at s.lot.queues (first_key lock) _) ∙ map-append (λ (w : Waiter). w.thread)
        (s.lot.queues (first_key lock)) _

    taken_here : mutex_at u lock ≡ filed (mutex_at s lock) v
    taken_here =
        same_mutex _ _ (ap mutex_word_of word_then ∙ bits_then)
        (now_roles s v lock h low alone kind owns free u.words u.lot MutexPhase.Sleeps timed
        (mutex.doing (mutex.Queued Asleep)) (λ us. refl) sleeper_outside)
        list_then

    taken_costs : (t : ℕ) → steps_left u t ≤ steps_left s t + 25
    taken_costs t = costs_at_most s v low alone u (sleeping_call lock timed) 0 25 refl (omega arith) (omega arith)
        (others_cost s u lock h kind (nobody s v lock h low alone kind owns free) buckets_then entered_then words_then
        first_then) t

    pub takes_in : IsAttended s lock → IsTakenIn v lock timed s u
    takes_in attended = record {
      became = refl;
      fits = record {
        lots = taken_lots s v lock timed h.lots low alone has_its_word free;
        passes = stays_passed u MutexPhase.Sleeps (taken_lots s v lock timed h.lots low alone has_its_word free) _
            (now_here s v lock h low alone kind owns free u.words u.lot MutexPhase.Sleeps timed
            (mutex.doing (mutex.Queued Asleep)) (λ us. refl) sleeper_outside)
            (now_there s v lock h low alone kind owns free u.words u.lot MutexPhase.Sleeps timed
            (mutex.doing (mutex.Queued Asleep)) (λ us. refl) sleeper_outside)
            (λ k e. let f : stances.Asleep 0 (record { 0 = 0 }) ≡ stances.In k stances.Takes = e in cc)
            buckets_then sections_then queues_then;
        wakes = now_wakes s v lock h low alone kind owns free u.words u.lot MutexPhase.Sleeps timed
            (mutex.doing (mutex.Queued Asleep)) (λ us. refl) sleeper_outside;
        rules =
            now_rules s v lock h low alone kind owns free u.words u.lot MutexPhase.Sleeps timed
            (mutex.doing (mutex.Queued Asleep)) (λ us. refl) sleeper_outside words_then queues_then
            buckets_then sections_then
            (length-set s.words lock new_word)
            (omega (arith, word_then)) (λ q. tt) (record { begun = refl; few = omega arith })
            (subst mutex.IsSound (sym taken_here)
            (filed_sound (mutex_at s lock) v (was_sound s v lock h low alone kind owns free) there nobody_in
            attended));
      };
      kind = kind;
      here = taken_here;
      away = there;
      comes = λ by ne within none. may_come s v lock h low alone kind owns free by within none;
      elsewhere = λ i ne. others_stay s v lock h low alone kind owns free u.words u.lot MutexPhase.Sleeps timed
          (mutex.doing (mutex.Queued Asleep)) (λ us. refl) sleeper_outside words_then queues_then
          buckets_then sections_then i ne;
      free = sections_then (bucket s (first_key lock)) ∙ free;
      attended = subst (λ (n : mutex.Mutex). 1 ≤ n.word.locked + mutex.total mutex.Called n.roles) (sym taken_here)
          (filed_attended (mutex_at s lock) v (was_sound s v lock h low alone kind owns free) there attended);
      runs = λ locked by ne within none.
          subst (λ (n : mutex.Mutex). mutex.Runs (mutex_at s lock)
          (requeue_run by (owns_mutex (hold_at s by lock)) (v ∷ [])) n) (sym taken_here)
          ((runs (mutex_at s lock) by (owns_mutex (hold_at s by lock))).locked v []
          (may_come s v lock h low alone kind owns free by within none) locked ((λ e. ne (sym e)), there, tt));
      costs = taken_costs;
    }
      where
        there : slice_get (mutex_at s lock).roles v ≡ Some mutex.away
        there = away_there s v lock h low alone kind owns free

        nobody_in : mutex.total mutex.Inside (mutex_at s lock).roles ≡ 0
        nobody_in = none_inside s v lock h low alone kind owns free

    -- TO TRY AGAIN

    abbrev r : State
    r = roused_in s v lock timed

    roused_here : mutex_at r lock ≡ roused (mutex_at s lock) v
    roused_here = same_mutex _ _ refl
        (now_roles s v lock h low alone kind owns free s.words s.lot (MutexPhase.Loads (begins true)) timed
        (mutex.doing (mutex.Seeks true)) (λ us. refl) seeker_outside) refl

    roused_costs : (t : ℕ) → steps_left r t ≤ steps_left s t + 51
    roused_costs t = costs_at_most s v low alone r (retrying_call lock timed) 51 0 refl (omega arith)
        (own (shut_in s v lock)) (λ x c e. omega arith) t
      where
        parks : (b : Bool) → cond (not b) 4 29 ≤ 29
        parks true = omega arith
        parks false = omega arith

        own : (b : Shut) → mutex_steps (Sees (word_at r lock) (length (r.lot.queues (first_key lock))) b)
            (MutexPhase.Loads (begins true)) ≤ 51
        own b = omega (arith, parks b.first)

    pub rouses_in : IsRousedIn v lock timed s r
    rouses_in = record {
      became = refl;
      fits = record {
        lots = roused_lots s v lock timed h.lots low alone;
        passes = stays_passed r (MutexPhase.Loads (begins true)) (roused_lots s v lock timed h.lots low alone) _
            (now_here s v lock h low alone kind owns free s.words s.lot (MutexPhase.Loads (begins true)) timed
            (mutex.doing (mutex.Seeks true)) (λ us. refl) seeker_outside)
            (now_there s v lock h low alone kind owns free s.words s.lot (MutexPhase.Loads (begins true)) timed
            (mutex.doing (mutex.Seeks true)) (λ us. refl) seeker_outside)
            (λ k e. let f : stances.Out ≡ stances.In k stances.Takes = e in cc)
            refl (λ b. refl) (λ key ne. refl);
        wakes = now_wakes s v lock h low alone kind owns free s.words s.lot (MutexPhase.Loads (begins true)) timed
            (mutex.doing (mutex.Seeks true)) (λ us. refl) seeker_outside;
        rules =
            now_rules s v lock h low alone kind owns free s.words s.lot (MutexPhase.Loads (begins true)) timed
            (mutex.doing (mutex.Seeks true)) (λ us. refl) seeker_outside (λ i ne. refl) (λ key ne. refl)
            refl (λ b. refl) refl
            (h.rules.bits lock kind) (λ q. tt) (record { begun = refl; few = omega arith })
            (subst mutex.IsSound (sym roused_here)
            (roused_sound (mutex_at s lock) v (was_sound s v lock h low alone kind owns free) there));
      };
      kind = kind;
      here = roused_here;
      away = there;
      comes = λ by ne within none. may_come s v lock h low alone kind owns free by within none;
      elsewhere = λ i ne. others_stay s v lock h low alone kind owns free s.words s.lot (MutexPhase.Loads (begins true))
          timed (mutex.doing (mutex.Seeks true)) (λ us. refl) seeker_outside (λ i ne. refl) (λ key ne. refl)
          refl (λ b. refl) i ne;
      free = free;
      attended = subst (λ (n : mutex.Mutex). 1 ≤ n.word.locked + mutex.total mutex.Called n.roles) (sym roused_here)
          (roused_attended (mutex_at s lock) v (was_sound s v lock h low alone kind owns free) there);
      runs = λ by ne within none.
          subst (λ (n : mutex.Mutex). mutex.Runs (mutex_at s lock)
          (pull_run by (owns_mutex (hold_at s by lock)) v []) n)
          (sym roused_here)
          ((runs (mutex_at s lock) by (owns_mutex (hold_at s by lock))).unlocked v []
          (may_come s v lock h low alone kind owns free by within none) (λ e. ne (sym e)) there tt);
      costs = roused_costs;
    }
      where
        there : slice_get (mutex_at s lock).roles v ≡ Some mutex.away
        there = away_there s v lock h low alone kind owns free

-- WHERE A CALL TO LOCK IT MAY BEGIN

pub record IsFreeFor (s : State) (v lock : ℕ) : Type 0 where
  pub low : v < length s.calls
  pub alone : call_at s v ≡ None
  pub kind : manner_of (slice_get s.kinds lock) ≡ Some AsMutex
  pub owns : owns_mutex (hold_at s v lock) ≡ false

pub is_free : (s : State) (v lock : ℕ) → FitsTogether s → may_begin s v lock LockCall.Lock ≡ true → IsFreeFor s v lock
is_free s v lock h may = let b = may_begins s v lock LockCall.Lock h.rules may in
    record { low = b.low; alone = b.free; kind = b.kind; owns = b.owns.2 }
