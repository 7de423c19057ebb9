-- What holds of the machine at every moment, in plain words.
use Rattle.std.proofs.Common.{◌≡◌, ◌≢◌, ℕ, ◌<◌, ◌⊎◌, inl, inr, Bool, true, false, List, [], ◌∷◌, Option, Some, None}
use Rattle.std.proofs.Common.{is_none, slice_get, refl, sym, ap, ◌∙◌, subst, arith}
use Rattle.parking_lot_core_model.specs.Buckets.{slot}
use Rattle.parking_lot_rules.specs.declared.once.once_state.OnceState.{OnceState}
use Rattle.parking_lot_rules.specs.declared.once.once_state.OnceState.TheVariants.{New, Poisoned, InProgress, Done}
use Rattle.parking_lot_rules.specs.declared.once.wish.Wish.{Wish}
use Rattle.parking_lot_rules.specs.Once.Once.{Role, Idle, Word, Once, Step, Plain, Alone, Begin, Start, Complete}
use Rattle.parking_lot_rules.specs.Once.Once.{Refuse, Flag, Enter, Check, Retreat, Rest, Return, Finish, Look, Store}
use Rattle.parking_lot_rules.specs.Once.Once.{Depart, Leave, Allowed, after, May, written, from, to, Class, Inside}
use Rattle.parking_lot_rules.specs.Once.Once.{Listed, weight, total, number, waits}
use Rattle.parking_lot_protocol_waits.specs.declared.once.once_phase.OncePhase.{OncePhase}
use Rattle.parking_lot_protocol_waits.specs.declared.once.once_phase.OncePhase.TheVariants.{Asking, Returning, Loads}
use Rattle.parking_lot_protocol_waits.specs.declared.once.once_phase.OncePhase.TheVariants.{Starts, Spins, Parks}
use Rattle.parking_lot_protocol_waits.specs.declared.once.once_phase.OncePhase.TheVariants.{Enters, Checks, Retreats}
use Rattle.parking_lot_protocol_waits.specs.declared.once.once_phase.OncePhase.TheVariants.{Appends, Rests, Sleeps}
use Rattle.parking_lot_protocol_waits.specs.declared.once.once_phase.OncePhase.TheVariants.{Stores, Looks, Scans}
use Rattle.parking_lot_protocol_waits.specs.declared.once.once_phase.OncePhase.TheVariants.{Clears, Leaves, Wakes}
use Rattle.parking_lot_protocol_waits.specs.declared.once.once_phase.OncePhase.TheVariants.{Finishes, Ends, Invalid}
use Rattle.parking_lot_protocol_waits.specs.Once.OnceMoves.{Known, role}
use Rattle.parking_lot_protocol_waits.specs.Once.OnceTable.{act_of}
use Rattle.parking_lot_machine_sides.specs.Once.Entries.{list_of}
use Rattle.parking_lot_machine_sides.specs.Once.OnceFits.{Fits, is_in_section, is_sleeping}
use Rattle.parking_lot_machine_sides.specs.declared.once.open_call.OpenCall.{OpenCall}
use Rattle.parking_lot_machine_sides.specs.Once.Onces.{Onces, call_at, known_of, once_at, bucket_of, inside_at}
use Rattle.parking_lot_machine_sides.proofs.OnceFacts.Acting.{plays, role_now}
use Rattle.parking_lot_machine_sides.proofs.OnceFacts.Owning.{is_one}
use Rattle.std.proofs.Common.{sum_by, suc, ⊎_elim, IsTrue}
use Rattle.std.proofs.lemmas.List.Sums.{sum_by-cons}
use Rattle.parking_lot_rules.specs.Lists.{at_index}
use Rattle.parking_lot_rules.proofs.Finding.{none_or}
use Rattle.parking_lot_rules.specs.Once.Once as rules
use Rattle.parking_lot_rules.specs.Once.Once.{Running, in_progress}
use Rattle.parking_lot_rules.specs.Once.OnceLaws.{is_at_work, sleeps_for}
use Rattle.parking_lot_rules.proofs.OnceFacts.Following.{sleepers_are_known, sleepers_are_woken, somebody_is_at_work}
use Rattle.parking_lot_rules.proofs.OnceFacts.Following.{word_tells}
use Rattle.parking_lot_protocol_waits.specs.Once.OnceMoves.{sleeping}
use Rattle.parking_lot_machine_sides.specs.Once.OnceActs.{can_move, is_possible}
use Rattle.parking_lot_machine_sides.specs.Once.OnceMachineLaws.{IsSoundMachine, ListsAreWaiters, OneRuns, OnlyWaits}
use Rattle.parking_lot_machine_sides.specs.Once.OnceMachineLaws.{SomebodyCanMove}
use Rattle.std.specs.Option.{option_map_or}
use Rattle.parking_lot_machine_sides.proofs.OnceFacts.Acting.{role_there}
use Rattle.parking_lot_machine_sides.proofs.OnceFacts.Playing.{who_plays}
use Rattle.parking_lot_machine_sides.proofs.OnceFacts.Ranking.{few_are_left}

-- in a section every act is possible; and elsewhere, where none is open, all but to sleep on
inside_moves : (free : Bool) (p : OncePhase) → is_in_section p ≡ true → is_possible free (act_of p) ≡ true
inside_moves free (Checks wish) e = refl
inside_moves free (Retreats wish) e = refl
inside_moves free (Appends wish) e = refl
inside_moves free (Rests wish) e = refl
inside_moves free (Scans well taken) e = refl
inside_moves free (Clears well taken) e = refl
inside_moves free (Leaves taken) e = refl
inside_moves free p e = absurd cc

awake_moves : (p : OncePhase) → is_sleeping p ≡ false → is_possible true (act_of p) ≡ true
awake_moves (Sleeps wish) e = absurd cc
awake_moves (Asking wish) e = refl
awake_moves (Returning well) e = refl
awake_moves (Loads a) e = refl
awake_moves (Starts a before parked) e = refl
awake_moves (Spins a state) e = refl
awake_moves (Parks a state) e = refl
awake_moves (Enters wish) e = refl
awake_moves (Checks wish) e = refl
awake_moves (Retreats wish) e = refl
awake_moves (Appends wish) e = refl
awake_moves (Rests wish) e = refl
awake_moves (Stores well) e = refl
awake_moves (Looks well) e = refl
awake_moves (Scans well taken) e = refl
awake_moves (Clears well taken) e = refl
awake_moves (Leaves taken) e = refl
awake_moves (Wakes count) e = refl
awake_moves Finishes e = refl
awake_moves (Ends answer) e = refl
awake_moves Invalid e = refl

sleeps_is : (p : OncePhase) → is_sleeping p ≡ true → (wish : Wish) × (p ≡ Sleeps wish)
sleeps_is (Sleeps wish) e = (wish, refl)
sleeps_is p e = absurd cc

-- whoever is at work doesn't sleep
works_awake : (by : Option ℕ) (k : Known) (p : OncePhase) → IsTrue (is_at_work (role by k p)) → is_sleeping p ≡ false
works_awake None k (Sleeps wish) e = absurd cc
works_awake (Some u) k (Sleeps wish) e = absurd cc
works_awake by k p e = refl

sleeps_for_it : (wish : Wish) (by : Option ℕ) → sleeps_for (sleeping wish by) ≡ Some wish
sleeps_for_it wish None = refl
sleeps_for_it wish (Some u) = refl

some_role : (f : Role → ℕ) (rs : List Role) → 0 < sum_by f rs → (u : ℕ) × (r : Role) × (slice_get rs u ≡ Some r)
    × (0 < f r)
some_role f [] some = absurd (omega (arith, some))
some_role f (r ∷ rs) some = ⊎_elim
    (λ none. let more = some_role f rs (omega (arith, some, sum_by-cons f r rs, none)) in
    (suc more.0, more.1, more.2, more.3))
    (λ here. (0, r, refl, here))
    (none_or (f r))

runner_works : (r : Role) → 0 < weight Running r → IsTrue (is_at_work r)
unfolding weight
runner_works (rules.Runs before) some = refl
runner_works (rules.Ends well) some = refl
runner_works (rules.Scans well taken) some = refl
runner_works r some = absurd (omega (arith, some))

busy : (r : Role) → IsTrue (is_at_work r) → r ≢ Idle
busy r works e = let never : IsTrue (is_at_work Idle) = subst (λ x. IsTrue (is_at_work x)) e works in cc

state_cases : (x : OnceState) → (x ≡ InProgress) ⊎ (x ≢ InProgress)
state_cases New = inr (λ e. cc)
state_cases Poisoned = inr (λ e. cc)
state_cases InProgress = inl refl
state_cases Done = inr (λ e. cc)

module _ (s : Onces) (fits : Fits s) where
  one_runs : OneRuns s
  one_runs i t u ne low high some =
      let alone = (word_tells (once_at s i) (fits.sound i)).alone t u ne in
      sym (ap (at_index (weight Running)) (role_there s i u high))
      ∙ alone (omega (arith, some, ap (at_index (weight Running)) (role_there s i t low)))

  lists_are_waiters : ListsAreWaiters s
  lists_are_waiters i t low = (fits.sound i).listed.each t ∙ ap (at_index (weight Listed)) (role_there s i t low)

  moves_so : (v : ℕ) (b : OpenCall) → call_at s v ≡ Some b
      → is_possible (is_none (inside_at s b.once)) (act_of b.core.phase) ≡ true → (x : ℕ) × (can_move s x ≡ true)
  moves_so v b there e = (
    v,
    ap (λ o. option_map_or (λ (c : OpenCall). is_possible (is_none (inside_at s c.once)) (act_of c.core.phase)) o false)
        there ∙ e,
  )

  -- whoever is in a section goes on
  inside_goes : (b v : ℕ) → slot s.inside b ≡ Some v → (x : ℕ) × (can_move s x ≡ true)
  inside_goes b v e =
      let d = fits.inside b v e in
      moves_so v d.0 d.1
      (inside_moves (is_none (inside_at s d.0.once)) d.0.core.phase
      ((fits.seated v d.0 d.1).section ∙ is_one (inside_at s d.0.once) v (ap (slot s.inside) d.2 ∙ e)))

  module _ (t : ℕ) (c : OpenCall) (here : call_at s t ≡ Some c) where
    goes : (v : ℕ) (b : OpenCall) → call_at s v ≡ Some b → is_sleeping b.core.phase ≡ false → (x : ℕ)
        × (can_move s x ≡ true)
    goes v b there up = by (inside_at s b.once) refl
      where
        by : (o : Option ℕ) → inside_at s b.once ≡ o → (x : ℕ) × (can_move s x ≡ true)
        by None e = moves_so v b there
            (ap (λ o. is_possible (is_none o) (act_of b.core.phase)) e ∙ awake_moves b.core.phase up)
        by (Some w) e = inside_goes (bucket_of s b.once) w e

    -- somebody is at work there
    works : (v : ℕ) (r : Role) → slice_get (once_at s c.once).roles v ≡ Some r → IsTrue (is_at_work r) → (x : ℕ)
        × (can_move s x ≡ true)
    works v r at work =
        let b = who_plays s c.once v r at (busy r work) in
        goes v b.0 b.1 (works_awake b.0.taker (known_of (list_of s.wakes v) b.0) b.0.core.phase
        (subst (λ x. IsTrue (is_at_work x)) (sym b.3) work))

    runs : (once_at s c.once).word.state ≡ InProgress → (x : ℕ) × (can_move s x ≡ true)
    runs e =
        let x = some_role (weight Running) (once_at s c.once).roles
        (omega (arith, (fits.sound c.once).fits.running, ap in_progress e)) in
        works x.0 x.1 x.2 (runner_works x.1 x.3)

    sleeps_on : (wish : Wish) → c.core.phase ≡ Sleeps wish → ((v : ℕ) × (can_move s v ≡ true)) ⊎ OnlyWaits s t c
    sleeps_on wish e =
        let asleep : sleeps_for (plays c (list_of s.wakes t)) ≡ Some wish =
        ap (λ p. sleeps_for (role c.taker (known_of (list_of s.wakes t) c) p)) e ∙ sleeps_for_it wish c.taker in
        ⊎_elim
        (λ x. inl (works x.0 x.1 x.2 x.3))
        (λ waiting. ⊎_elim (λ running. inl (runs running)) (λ nobody. inr (wish, e, waiting.0, waiting.1, nobody))
        (state_cases (once_at s c.once).word.state))
        (somebody_is_at_work (once_at s c.once) (fits.sound c.once) t wish
        (plays c (list_of s.wakes t), role_now s t c here, asleep))

    by_sleep : (b : Bool) → is_sleeping c.core.phase ≡ b → ((v : ℕ) × (can_move s v ≡ true)) ⊎ OnlyWaits s t c
    by_sleep false e = inl (goes t c here e)
    by_sleep true e = let w = sleeps_is c.core.phase e in sleeps_on w.0 w.1

  somebody_can_move : SomebodyCanMove s
  somebody_can_move t c here = by_sleep t c here (is_sleeping c.core.phase) refl

  pub sound_machine : IsSoundMachine s
  sound_machine = record {
    sound = fits.sound;
    runs = one_runs;
    lists = lists_are_waiters;
    known = λ i. sleepers_are_known (once_at s i) (fits.sound i);
    woken = λ i. sleepers_are_woken (once_at s i) (fits.sound i);
    moves = somebody_can_move;
    few = few_are_left s fits;
  }
