-- A machine in which nobody has done anything fits together.
use Rattle.std.proofs.Common.{◌≡◌, ℕ, zero, suc, ◌+◌, ◌*◌, ◌<◌, ◌≤◌, ◌^◌, nat_lt, Bool, true, false, List, []}
use Rattle.std.proofs.Common.{◌∷◌, length, replicate, map, Option, None, Some, slice_get, refl, sym, ap, ◌∙◌, subst}
use Rattle.std.proofs.Common.{arith, if◌then◌else◌}
use Rattle.std.proofs.lemmas.List.{length-replicate}
use Rattle.std.proofs.lemmas.Option.{none-some}
use Rattle.std.specs.Option.{option_and_then, option_map_or}
use Rattle.parking_lot_core_model.specs.declared.place.Place.TheVariants.{Running}
use Rattle.parking_lot_core_model.specs.Sound as lot
use Rattle.parking_lot_rules.specs.Roles.{away}
use Rattle.parking_lot_rules.specs.Mutex as mutex
use Rattle.parking_lot_rules.specs.Lists.{at_index}
use Rattle.parking_lot_rules.specs.Lock.{IsSound}
use Rattle.parking_lot_rules.specs.Clauses.{word_of}
use Rattle.parking_lot_rules.specs.Any.{AnySound, any_inside, mutex_inside}
use Rattle.parking_lot_rules.specs.Family.{Key, First, Second, SoundFamilyOf, rw_inside}
use Rattle.parking_lot_rules.specs.Runs as rules
use Rattle.parking_lot_rules.specs.World as many
use Rattle.parking_lot_rules.proofs.Running.{all_away, rest_sound_family}
use Rattle.parking_lot_rules.proofs.MutexRuns as mutexes
use Rattle.parking_lot_machine_calls.specs.Kinds.{Manner, AsRw, AsMutex, manner_of}
use Rattle.parking_lot_machine_calls.specs.declared.calls.LockKind.{LockKind}
use Rattle.parking_lot_machine_calls.specs.declared.open_call.Call.{Call}
use Rattle.parking_lot_machine_calls.specs.declared.seat.Hold.{Hold}
use Rattle.parking_lot_machine.specs.Rows.{State, lock_as, call_at, family, hold_at, lock_at, mutex_at, mutex_role_at}
use Rattle.parking_lot_machine.specs.Rows.{mutex_role_in, bucket, mutex_word_of, rw_lock_at, rw_role_at, rw_role_in}
use Rattle.parking_lot_machine.specs.Rows.{word_at}
use Rattle.parking_lot_machine.specs.RowFits.{FitsTogether}
use Rattle.parking_lot_machine.specs.LotLaws.{IsNew}
use Rattle.parking_lot_machine.specs.Machines.{at_rest}
use Rattle.parking_lot_rules.proofs.Everybody.{all, same-all}
use Rattle.parking_lot_machine.proofs.LotStarts.{new_machines_fit}

-- what a list of the same shows at an index
all_the_same : {X Y : Type 0} (x : X) (n i : ℕ) (f : Option X → Y) (y : Y) → f (Some x) ≡ y → f None ≡ y
    → f (slice_get (replicate n x) i) ≡ y
all_the_same x zero i f y some none = none
all_the_same x (suc n) zero f y some none = some
all_the_same x (suc n) (suc i) f y some none = all_the_same x n i f y some none

below : {X : Type 0} (x : X) (n i : ℕ) → i < n → slice_get (replicate n x) i ≡ Some x
below x zero i low = absurd (omega (arith, low))
below x (suc n) zero low = refl
below x (suc n) (suc i) low = below x n i (omega (arith, low))

-- so many away
rw_away_all : (i a n : ℕ) → all (λ t. away) a n ≡ map (many.role_at i) (replicate n rules.idle)
rw_away_all i a zero = refl
rw_away_all i a (suc n) = ap (λ r. r ∷ all (λ t. away) (a + 1) n)
    (sym (all_away i 1 0 (many.role_at i rules.idle) refl)) ∙ ap (λ rs. many.role_at i rules.idle ∷ rs)
    (rw_away_all i (a + 1) n)

mutex_away_all : (a n : ℕ) → all (λ t. mutex.away) a n ≡ replicate n mutex.away
mutex_away_all a zero = refl
mutex_away_all a (suc n) = ap (λ rs. mutex.away ∷ rs) (mutex_away_all (a + 1) n)

module _ (paired : Bool) (n : ℕ) (ks : List LockKind) where
  abbrev s : State
  s = at_rest paired n ks

  nobody : (t : ℕ) → call_at s t ≡ None
  nobody t = all_the_same None n t (option_and_then (λ c. c)) None refl refl

  nothing : (t i : ℕ) → hold_at s t i ≡ Hold.Shares 0
  nothing t i = go (nat_lt i (length ks))
    where
      go : (b : Bool) → (if b then option_map_or (λ h. h) (slice_get s.holds (t * length ks + i)) (Hold.Shares 0) else
          Hold.Shares 0) ≡ Hold.Shares 0
      go true = all_the_same (Hold.Shares 0) (n * length ks) (t * length ks + i)
          (λ o. option_map_or (λ h. h) o (Hold.Shares 0)) (Hold.Shares 0) refl refl
      go false = refl

  blank : (i : ℕ) → word_at s i ≡ 0
  blank i = all_the_same 0 (length ks) i (λ o. option_map_or (λ w. w) o 0) 0 refl refl

  pub threads_at_rest : length s.calls ≡ n
  threads_at_rest = length-replicate n None

  rw_role : (i t : ℕ) → rw_role_at s i t ≡ away
  rw_role i t = ap (λ o. rw_role_in i [] (hold_at s t i) o) (nobody t) ∙ ap (λ h. rw_role_in i [] h None) (nothing t i)

  mutex_role : (i t : ℕ) → mutex_role_at s i t ≡ mutex.away
  mutex_role i t = ap (λ o. mutex_role_in i [] (hold_at s t i) o) (nobody t)
      ∙ ap (λ h. mutex_role_in i [] h None) (nothing t i)

  rw_lock : (i : ℕ) → rw_lock_at s i ≡ many.lock_at (rules.at_rest n) i
  rw_lock i =
      ap (λ w. record { word = word_of w; roles = all (rw_role_at s i) 0 (length s.calls); first = []; second = [] })
      (blank i)
      ∙ ap (λ rs. record { word = word_of 0; roles = rs; first = []; second = [] })
      (same-all (λ t. away) (rw_role_at s i) (length s.calls) (λ u low. rw_role i u)
      ∙ ap (all (λ t. away) 0) threads_at_rest ∙ rw_away_all i 0 n)

  mutex_lock : (i : ℕ) → mutex_at s i ≡ mutex.unlocked n
  mutex_lock i =
      ap (λ w. record { word = mutex_word_of w; roles = all (mutex_role_at s i) 0 (length s.calls); queue = [] })
      (blank i)
      ∙ ap (λ rs. record { word = mutex_word_of 0; roles = rs; queue = [] })
      (same-all (λ t. mutex.away) (mutex_role_at s i) (length s.calls) (λ u low. mutex_role i u)
      ∙ ap (all (λ t. mutex.away) 0) threads_at_rest ∙ mutex_away_all 0 n)

  sound_at : (i : ℕ) → AnySound (lock_at s i)
  sound_at i = go (manner_of (slice_get ks i))
    where
      rw : IsSound (rw_lock_at s i)
      rw = subst IsSound (sym (rw_lock i)) ((rest_sound_family (λ k. k) n).sound i)

      go : (k : Option Manner) → AnySound (lock_as k s i)
      go (Some AsMutex) = subst mutex.IsSound (sym (mutex_lock i)) (mutexes.rest_sound n)
      go (Some AsRw) = rw
      go None = rw

  nobody_in_mutex : (k : Key) (u : ℕ) → mutex_inside (mutex.unlocked n) k u ≡ 0
  unfolding mutex.weight
  nobody_in_mutex First u = all_the_same mutex.away n u (at_index (mutex.weight mutex.Inside)) 0 refl refl
  nobody_in_mutex Second u = refl

  outside : (i : ℕ) (x : Key) (u : ℕ) → any_inside (lock_at s i) x u ≡ 1 → ⊥
  outside i x u = go (manner_of (slice_get ks i))
    where
      rw : rw_inside (rw_lock_at s i) x u ≡ 1 → ⊥
      rw h = none-some u
          ((rest_sound_family (λ k. k) n).entered i x u (ap (λ l. rw_inside l x u) (sym (rw_lock i)) ∙ h))

      go : (k : Option Manner) → any_inside (lock_as k s i) x u ≡ 1 → ⊥
      go (Some AsMutex) h = omega (arith, h, ap (λ m. mutex_inside m x u) (mutex_lock i), nobody_in_mutex x u)
      go (Some AsRw) h = rw h
      go None h = rw h

  resting : SoundFamilyOf AnySound any_inside (bucket s) (family s)
  resting = record {
    sound = sound_at;
    entered = λ i x u h. absurd (outside i x u h);
    is_inside = λ b u e. absurd (none-some u e);
  }

  no_call : {X : Type 0} (t : ℕ) (c : Call) → call_at s t ≡ Some c → X
  no_call t c is = absurd (none-some c (sym (nobody t) ∙ is))

  few_shares : (h : Hold) (m : ℕ) → h ≡ Hold.Shares 0 → h ≡ Hold.Shares m → m ≤ 255
  few_shares h m none some = omega (arith, same_shares m (sym none ∙ some))
    where
      same_shares : (k : ℕ) → Hold.Shares 0 ≡ Hold.Shares k → k ≡ 0
      same_shares k e = cc

  pub rest_fits : lot.Sound s.lot → n ≤ 131072 → length ks ≤ 2 ^ 20 → FitsTogether s
  rest_fits sound low locks =
      let new : IsNew s = record {
        calls = nobody;
        wakes = refl;
        lists = λ key. refl;
        runs = λ t at. ap (λ o. option_and_then (λ p. p) o)
            (below (Some Running) n t (omega (arith, at, threads_at_rest)));
        free = λ b. refl;
        outside = λ t. refl;
      } in
      let fits = new_machines_fit s sound new in
      record {
        lots = fits.0;
        passes = λ t c k o is. no_call t c is;
        wakes = fits.1;
        rules = record {
          size_holds = length-replicate (n * length ks) (Hold.Shares 0) ∙ ap (λ m. m * length ks) (sym threads_at_rest);
          size_words = length-replicate (length ks) 0;
          small = omega (arith, threads_at_rest, low);
          few_locks = omega (arith, locks);
          kinds = λ t c is. no_call t c is;
          prepared = λ t c is. no_call t c is;
          knows = λ t c is. no_call t c is;
          few = λ t i m is. few_shares (hold_at s t i) m (nothing t i) is;
          beside = λ t c is. no_call t c is;
          bits = λ i is. omega (arith, blank i);
          sound = resting;
          begun = λ t c is. no_call t c is;
        };
      }
