-- The machine once a thread that was in no call has a call at a mutex, outside of sections: what the locks see of it,
-- and that the rules' side fits.
use Rattle.std.proofs.Common.{◌≡◌, ◌≢◌, ℕ, ◌+◌, ◌*◌, ◌%◌, ◌<◌, inl, inr, ◌==◌, Bool, false, List, length}
use Rattle.std.proofs.Common.{Some, None, slice_get, slice_set, refl, sym, ap, ◌∙◌, subst, arith}
use Rattle.std.specs.Option.{option_and_then}
use Rattle.std.proofs.lemmas.Bool.{cases_eq, ne_eqb}
use Rattle.std.proofs.lemmas.List.{length-set}
use Rattle.std.proofs.lemmas.Option.{none-some, same_Some}
use Rattle.parking_lot_core_model.specs.declared.place.Section.{Section}
use Rattle.parking_lot_core_model.specs.declared.place.Waiter.{Waiter}
use Rattle.parking_lot_core_model.specs.Machine.{Machine}
use Rattle.parking_lot_rules.specs.Any.{AnySound, Mx, any_inside}
use Rattle.parking_lot_rules.specs.Family.{First, Key, Second, SoundFamilyOf, key}
use Rattle.parking_lot_rules.specs.Lists.{at_index}
use Rattle.parking_lot_rules.specs.Mutex as mutex
use Rattle.parking_lot_rules.proofs.Indexed.{get-set_same, get-set_other}
use Rattle.parking_lot_protocol.specs.MutexRules as of_mutex
use Rattle.parking_lot_protocol.specs.declared.mutex_phase.MutexPhase.{MutexPhase}
use Rattle.parking_lot_machine_calls.specs.declared.seat.Core.{Core}
use Rattle.parking_lot_machine_calls.specs.declared.seat.QueuePosition.{QueuePosition}
use Rattle.parking_lot_machine_calls.specs.declared.open_call.Call.{Call}
use Rattle.parking_lot_machine_calls.specs.Kinds.{AsMutex, manner_of}
use Rattle.parking_lot_machine.specs.Requeues.{MayCome, lock_ask}
use Rattle.parking_lot_machine.specs.Rounds.{IsUnderWay}
use Rattle.parking_lot_machine.specs.RowFits.{FitsTogether, RulesFit, WakesFit, is_away, mutex_knows}
use Rattle.parking_lot_machine.specs.Rows.{State, bucket, call_at, entered_in, family, first_key, hold_at, lock_at}
use Rattle.parking_lot_machine.specs.Rows.{lock_as, mutex_at}
use Rattle.parking_lot_machine.specs.Rows.{open_at, taken_by}
use Rattle.parking_lot_machine.specs.Rows.{word_at}
use Rattle.parking_lot_machine_calls.specs.CallRoles.{owns_mutex, mutex_role}
use Rattle.parking_lot_machine_calls.specs.Stances.{Doing, In, stance}
use Rattle.parking_lot_machine.proofs.Calling.{call-here, call-elsewhere}
use Rattle.parking_lot_machine.proofs.Carrying.{same_call}
use Rattle.parking_lot_rules.proofs.Everybody.{get-all}
use Rattle.parking_lot_machine.proofs.KindTable.{Elsewhere, IsThere, Plain, elsewhere, of_mutexes, one_changed, role_at}
use Rattle.parking_lot_machine.proofs.KindTable.{role_now, role_stays}
use Rattle.parking_lot_machine.proofs.LotActs.{seat_of}
use Rattle.parking_lot_machine.proofs.Making.{IsSoundState}
use Rattle.parking_lot_machine.proofs.Meeting.{mutex_sound}
use Rattle.parking_lot_machine.proofs.MutexMoving.{total_of_nobody}
use Rattle.parking_lot_machine.proofs.OwnActs.{nobody_in_mutex}
use Rattle.parking_lot_machine.proofs.Ruling.{CallFits, rules_after}
use Rattle.parking_lot_machine.proofs.Starting.{empty_slot}
use Rattle.parking_lot_machine.proofs.TakeParts.{list_known}
use Rattle.parking_lot_machine.proofs.WakesActs.{wakes_listed}

away_outside : mutex.weight mutex.Inside mutex.away ≡ 0
unfolding mutex.weight
away_outside = refl

module _ (s : State) (v lock : ℕ) (h : FitsTogether s) (low : v < length s.calls) (alone : call_at s v ≡ None)
    (kind : manner_of (slice_get s.kinds lock) ≡ Some AsMutex) (owns : owns_mutex (hold_at s v lock) ≡ false)
    (free : open_at s (first_key lock) ≡ None) where
  pub nobody : entered_in s (bucket s (first_key lock)) ≡ None
  nobody = ap (option_and_then (λ (x : Section). x.thread)) free

  pub none_inside : mutex.total mutex.Inside (mutex_at s lock).roles ≡ 0
  none_inside = total_of_nobody (mutex_at s lock).roles (nobody_in_mutex s h lock nobody kind)

  -- one in no call
  pub idle_there : (t : ℕ) → t < length s.calls → call_at s t ≡ None → slice_get (mutex_at s lock).roles t ≡ Some
      (record { owns = owns_mutex (hold_at s t lock); does = mutex.Idle })
  idle_there t within none = get-all (role_at of_mutexes s lock) (length s.calls) t within
      ∙ ap Some (ap (of_mutexes.role_in lock (taken_by s.wakes t) (hold_at s t lock)) none)

  pub away_there : slice_get (mutex_at s lock).roles v ≡ Some mutex.away
  away_there = idle_there v low alone ∙ ap (λ b. Some (record { owns = b; does = mutex.Idle })) owns

  pub was_sound : mutex.IsSound (mutex_at s lock)
  was_sound = mutex_sound s h lock kind

  -- any other in no call may come
  pub may_come : (by : ℕ) → by < length s.calls → call_at s by ≡ None
      → MayCome (mutex_at s lock) by (owns_mutex (hold_at s by lock))
  may_come by within none = record { here = idle_there by within none; free = none_inside }

  -- nobody is in a section of the list
  apart : (t : ℕ) (e : Call) → call_at s t ≡ Some e → (k : ℕ) (how : Doing) → stance e.core ≡ In k how
      → (2 * e.lock + k == first_key lock) ≡ false
  apart t e at k how is = let seat = seat_of s h.lots t e (In k how) at is in
      ne_eqb (2 * e.lock + k) (first_key lock)
      (λ same. none-some seat.0 (sym free ∙ (ap (open_at s) (sym same) ∙ seat.1)))

  module _ (ws : List ℕ) (l : Machine) (p : MutexPhase) (timed : Bool) (y : mutex.Role)
      (plays : (us : List ℕ) → mutex_role of_mutex.Listed us p ≡ y) (outside : mutex.weight mutex.Inside y ≡ 0) where
    abbrev d : Call
    d = record {
      lock = lock;
      others = 0;
      core = Core.Mutex (record { phase = p });
      spot = QueuePosition.Listed;
      asked = lock_ask timed;
    }

    abbrev u : State
    u = record {
      kinds = s.kinds;
      words = ws;
      holds = s.holds;
      calls = slice_set s.calls v (Some d);
      wakes = s.wakes;
      lot = l;
    }

    pub now_here : call_at u v ≡ Some d
    now_here = call-here s.calls v None (Some d) (empty_slot s.calls v low alone)

    pub now_there : (x : ℕ) → x ≢ v → call_at u x ≡ call_at s x
    now_there x ne = call-elsewhere s.calls v x (Some d) ne

    pub now_as_many : length u.calls ≡ length s.calls
    now_as_many = length-set s.calls v (Some d)

    pub now_roles : (mutex_at u lock).roles ≡ slice_set (mutex_at s lock).roles v y
    now_roles =
        one_changed (role_at of_mutexes s lock) (role_at of_mutexes u lock) (length s.calls) (length u.calls) v y low
        now_as_many
        (λ x ne. role_stays of_mutexes s u lock x (now_there x ne) refl refl)
        (role_now of_mutexes u v (taken_by s.wakes v) d (Plain (record { phase = p })) now_here refl refl
        ∙ plays (taken_by s.wakes v))

    pub now_wakes : WakesFit u
    now_wakes = wakes_listed s u v (Some d) h.wakes low refl refl (ap is_away alone)
        (λ e is. ap (λ (z : Call). z.spot) (sym (same_call is)))

    module _ (words : (i : ℕ) → i ≢ lock → word_at u i ≡ word_at s i)
        (queues : (key : ℕ) → (key == first_key lock) ≡ false → l.queues key ≡ s.lot.queues key)
        (buckets : l.buckets ≡ s.lot.buckets) (sections : (b : ℕ) → l.sections b ≡ s.lot.sections b) where
      now_elsewhere : Elsewhere lock s u
      now_elsewhere = record {
        kinds = refl;
        threads = now_as_many;
        words = words;
        queues = λ i k ne two. queues (2 * i + k)
            (ne_eqb (2 * i + k) (first_key lock) (λ e. ne (omega (arith, e, two))));
        holds = λ x i ne. refl;
        calls = λ x. elim (cases_eq x v) [
          | inl e ↦ inr (
            subst (λ n. IsThere lock (call_at s n)) (sym e) (subst (IsThere lock) (sym alone) tt),
            subst (λ n. IsThere lock (call_at u n)) (sym e) (subst (IsThere lock) (sym now_here) refl),
          )
          | inr ne ↦ inl (now_there x ne, refl)
        ];
      }

      pub others_stay : (i : ℕ) → i ≢ lock → lock_at u i ≡ lock_at s i
      others_stay i ne = elsewhere lock s u now_elsewhere i ne

      entered_now : (b : ℕ) → entered_in u b ≡ entered_in s b
      entered_now b = ap (option_and_then (λ (x : Section). x.thread)) (sections b)

      shows_mutex : lock_at u lock ≡ Mx (mutex_at u lock)
      shows_mutex = ap (λ q. lock_as q u lock) kind

      -- at that mutex, who is inside is as before
      same_inside : (x : ℕ) (k : Key) → any_inside (Mx (mutex_at u lock)) k x ≡ any_inside (Mx (mutex_at s lock)) k x
      same_inside x Second = refl
      same_inside x First = elim (cases_eq x v) [
        | inl same ↦
            ap (λ rs. at_index (mutex.weight mutex.Inside) (slice_get rs x)) now_roles
            ∙ (ap (λ n. at_index (mutex.weight mutex.Inside) (slice_get (slice_set (mutex_at s lock).roles v y) n))
            same
            ∙ (ap (at_index (mutex.weight mutex.Inside))
            (get-set_same (mutex_at s lock).roles v mutex.away y away_there)
            ∙ (outside ∙ sym (ap (λ n. at_index (mutex.weight mutex.Inside) (slice_get (mutex_at s lock).roles n))
            same ∙ (ap (at_index (mutex.weight mutex.Inside)) away_there ∙ away_outside)))))
        | inr ne ↦ ap (λ rs. at_index (mutex.weight mutex.Inside) (slice_get rs x)) now_roles
            ∙ ap (at_index (mutex.weight mutex.Inside))
            (get-set_other (mutex_at s lock).roles v x y (λ f. ne (sym f)))
      ]

      all_inside : (i x : ℕ) (k : Key) → any_inside (lock_at u i) k x ≡ any_inside (lock_at s i) k x
      all_inside i x k = elim (cases_eq i lock) [
        | inl e ↦ subst (λ n. any_inside (lock_at u n) k x ≡ any_inside (lock_at s n) k x) (sym e)
            (ap (λ q. any_inside q k x) shows_mutex ∙ (same_inside x k
            ∙ sym (ap (λ q. any_inside (lock_as q s lock) k x) kind)))
        | inr ne ↦ ap (λ q. any_inside q k x) (others_stay i ne)
      ]

      now_sound : mutex.IsSound (mutex_at u lock) → IsSoundState u
      now_sound sound = subst (λ (n : ℕ). SoundFamilyOf AnySound any_inside (λ (key : ℕ). key % n) (family u))
          (sym buckets) (record {
            sound = λ i. elim (cases_eq i lock) [
              | inl e ↦ subst (λ n. AnySound (lock_at u n)) (sym e) (subst AnySound (sym shows_mutex) sound)
              | inr ne ↦ subst AnySound (sym (others_stay i ne)) (h.rules.sound.sound i)
            ];
            entered = λ i k x e. entered_now (bucket s (key i k))
                ∙ h.rules.sound.entered i k x (sym (all_inside i x k) ∙ e);
            is_inside = λ b x e. let old = h.rules.sound.is_inside b x (sym (entered_now b) ∙ e) in
                (old.0, old.1, old.2, all_inside old.0 x old.1 ∙ old.3);
          })

      pub now_rules : length ws ≡ length s.words → word_at u lock < 4 → ((q : List Waiter) → mutex_knows p q)
          → IsUnderWay d.core → mutex.IsSound (mutex_at u lock) → RulesFit u
      now_rules sizes few knows begun sound = rules_after s u lock h.rules (record {
        kinds = refl;
        threads = now_as_many;
        holds = refl;
        words = sizes;
        calls = λ x e at. elim (cases_eq x v) [
          | inl same ↦ subst (CallFits s.kinds l.queues) (same_Some d e (sym now_here ∙ ap (call_at u) (sym same) ∙ at))
              (record {
                kind = kind;
                prepared = refl;
                knows = knows (l.queues (2 * lock));
                beside = omega arith;
                begun = begun;
              })
          | inr ne ↦
              (let was = sym (now_there x ne) ∙ at in
              record {
                kind = h.rules.kinds x e was;
                prepared = h.rules.prepared x e was;
                knows = list_known e.core s.lot.queues l.queues e.lock
                    (λ k how is. queues (2 * e.lock + k) (apart x e was k how is)) (h.rules.knows x e was);
                beside = h.rules.beside x e was;
                begun = h.rules.begun x e was;
              })
        ];
        few = h.rules.few;
        elsewhere = words;
        bits = λ m. few;
        sound = now_sound sound;
      })
