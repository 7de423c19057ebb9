-- What follows for a sound one-time initialization.
use Rattle.std.proofs.Common.{◌≡◌, ◌≢◌, ℕ, suc, ◌+◌, ◌<◌, ◌≤◌, ◌⊎◌, ⊎_elim, Bool, true, false, not, ◌==◌, cond, IsTrue}
use Rattle.std.proofs.Common.{List, [], ◌∷◌, length, Option, Some, None, slice_get, slice_set, refl, sym, ap, ◌∙◌}
use Rattle.std.proofs.Common.{subst, inl, inr, arith, eqb-true}
use Rattle.std.proofs.lemmas.List.Sums.{sum_by-cons}
use Rattle.std.proofs.lemmas.Option.{none-some, same_Some}
use Rattle.parking_lot_rules.specs.Classes.{bit}
use Rattle.parking_lot_rules.specs.Lists.{occurs, at_index}
use Rattle.parking_lot_rules.proofs.Indexed.{get-set_same, get-set_other}
use Rattle.parking_lot_rules.proofs.Finding.{none_or}
use Rattle.parking_lot_rules.proofs.Waiting.{listed, occurs-cons, counted-same}
use Rattle.parking_lot_rules.specs.Once.Once.{OnceState, New, Poisoned, InProgress, Done, Wish, Role, Idle, Joined}
use Rattle.parking_lot_rules.specs.Once.Once.{Sleeps, Taken, Runs, Ends, Scans, Stored, Wakes, waits, may_run}
use Rattle.parking_lot_rules.specs.Once.Once.{in_progress, Class, Running, Inside, Listed, Unwilling, Patient, weight}
use Rattle.parking_lot_rules.specs.Once.Once.{total, taken_by, wakes, wakes_at, Once, IsSound, Begin, Start, Complete}
use Rattle.parking_lot_rules.specs.Once.Once.{Refuse, Flag, Enter, Check, Retreat, Rest, Return, Finish, Look, Store}
use Rattle.parking_lot_rules.specs.Once.Once.{Depart, Leave, Step, Alone, Join, Take, Wake, Allowed, after, unused}
use Rattle.parking_lot_rules.specs.Once.OnceLaws.{WordTells, NothingIsLeft, sleeps_for, IsWaker, HasWaker, SomebodyRuns}
use Rattle.parking_lot_rules.specs.Once.OnceLaws.{SleepersAreKnown, NobodyIsForgotten, SomebodyIsAtWork, is_at_work}
use Rattle.parking_lot_rules.specs.Once.OnceLaws.{SleepersAreWoken, WakersCanGoOn, BeginsToRun, StateGoes}
use Rattle.parking_lot_rules.specs.Once.OnceLaws.{ThroughoutOnce}
use Rattle.parking_lot_rules.proofs.OnceFacts.Soundness.{total-at, total-none, idle_weighs, runs_sound, rest_sound}

somebody : (c : Class) (rs : List Role) → 0 < total c rs → (u : ℕ) × (r : Role) × (slice_get rs u ≡ Some r)
    × (0 < weight c r)
somebody c [] some = absurd (omega arith)
somebody c (r ∷ rs) some = ⊎_elim
    (λ none. let more = somebody c rs (omega (arith, sum_by-cons (weight c) r rs, none)) in
    (suc more.0, more.1, more.2, more.3))
    (λ here. (0, r, refl, here))
    (none_or (weight c r))

-- a closure runs where the count of those that run one says so
pub is_running : (s : OnceState) → 0 < in_progress s → s ≡ InProgress
is_running InProgress some = refl
is_running New some = absurd (omega arith)
is_running Poisoned some = absurd (omega arith)
is_running Done some = absurd (omega arith)

pub two_at : (c : Class) (rs : List Role) (t u : ℕ) (r s : Role) → t ≢ u → slice_get rs t ≡ Some r
    → slice_get rs u ≡ Some s → weight c r + weight c s ≤ total c rs
two_at c rs t u r s ne at there =
    omega (arith, total-at rs t r at c, total-at (slice_set rs t Idle) u s (get-set_other rs t u Idle ne ∙ there) c)

-- one that waits where nobody has begun
waits_for_a_run : (runs force : Bool) (s : OnceState) → waits (record { runs = runs; force = force }) s ≡ true
    → (s ≡ InProgress) ⊎ (runs ≡ false)
waits_for_a_run true force New waiting = absurd cc
waits_for_a_run true true Poisoned waiting = absurd cc
waits_for_a_run true false Poisoned waiting = absurd cc
waits_for_a_run true force InProgress waiting = inl refl
waits_for_a_run true force Done waiting = absurd cc
waits_for_a_run false force s waiting = inr refl

module _ (m : Once) (sound : IsSound m) where
  weighs_le : (c : Class) (u : ℕ) (r : Role) → slice_get m.roles u ≡ Some r → weight c r ≤ total c m.roles
  weighs_le c u r at = omega (arith, total-at m.roles u r at c)

  pub word_tells : WordTells m
  word_tells = record {
    running = sound.fits.running;
    alone = λ t u ne some. two t u ne (slice_get m.roles t) refl
        (slice_get m.roles u) refl some;
  }
    where
      le : (s : OnceState) → in_progress s ≤ 1
      le InProgress = omega arith
      le _ = omega arith

      two : (t u : ℕ) → t ≢ u → (a : Option Role) → slice_get m.roles t ≡ a → (b : Option Role)
          → slice_get m.roles u ≡ b → 0 < at_index (weight Running) (slice_get m.roles t)
          → at_index (weight Running) (slice_get m.roles u) ≡ 0
      two t u ne None e b f some = absurd (omega (arith, some, ap (at_index (weight Running)) e))
      two t u ne (Some r) e None f some = ap (at_index (weight Running)) f
      two t u ne (Some r) e (Some s) f some =
          omega (
            arith,
            sound.fits.running,
            le m.word.state,
            some,
            ap (at_index (weight Running)) e,
            ap (at_index (weight Running)) f,
            two_at Running m.roles t u r s ne e f,
          )

  pub nothing_is_left : NothingIsLeft m
  nothing_is_left gone = (
    omega (arith, sound.fits.cause, sound.fits.running, none Running, none (Patient m.word.state)),
    empty m.queue (sound.listed.count ∙ none Listed),
    λ e. omega (arith, ap in_progress e, sound.fits.running, none Running),
  )
    where
      none : (c : Class) → total c m.roles ≡ 0
      none c = total-none (weight c) m.roles (λ u r at. ap (weight c) (gone u r at) ∙ idle_weighs c)

      empty : (q : List ℕ) → length q ≡ 0 → q ≡ []
      empty [] e = refl
      empty (x ∷ q) e = absurd (omega (arith, e))

  waker : (u by : ℕ) (wish : Wish) → slice_get m.roles u ≡ Some (Taken wish by) → HasWaker m u
  waker u by wish at = (by, go (slice_get m.roles by) refl)
    where
      some : occurs u (wakes_at (slice_get m.roles by)) ≡ 1
      some = (sound.taken by).each u ∙ ap (at_index (taken_by by)) at ∙ counted-same by

      go : (o : Option Role) → slice_get m.roles by ≡ o → IsWaker m by u
      go None e = absurd (omega (arith, some, ap (λ x. occurs u (wakes_at x)) e))
      go (Some r) e = (r, e, omega (arith, some, ap (λ x. occurs u (wakes_at x)) e))

  listed_waits : (u : ℕ) (wish : Wish) → slice_get m.roles u ≡ Some (Sleeps wish) → (b : Bool)
      → waits wish m.word.state ≡ b → b ≡ true
  unfolding weight
  listed_waits u wish at true e = refl
  listed_waits u wish at false e =
      absurd (omega (
        arith,
        weighs_le (Unwilling m.word.state) u (Sleeps wish) at,
        sound.fits.willing,
        ap (λ b. bit (not b)) e,
      ))

  sleeper : (u : ℕ) (wish : Wish) (r : Role) → slice_get m.roles u ≡ Some r → sleeps_for r ≡ Some wish
      → (slice_get m.roles u ≡ Some (Sleeps wish)) ⊎ HasWaker m u
  sleeper u wish (Sleeps w) at for = inl (at ∙ ap (λ x. Some (Sleeps x)) (same_Some w wish for))
  sleeper u wish (Taken w by) at for = inr (waker u by w at)
  sleeper u wish r at for = absurd (none-some wish for)

  pub sleepers_are_known : SleepersAreKnown m
  unfolding weight
  sleepers_are_known =
      record {
        queue = sound.listed.each;
        asleep = λ u wish x. ⊎_elim (λ at. inl (listed_once u wish at)) (λ w. inr w)
            (sleeper u wish x.0 x.1 x.2);
      }
    where
      listed_once : (u : ℕ) (wish : Wish) → slice_get m.roles u ≡ Some (Sleeps wish) → occurs u m.queue ≡ 1
      listed_once u wish at = sound.listed.each u ∙ ap (at_index (weight Listed)) at

  pub sleepers_are_woken : SleepersAreWoken m
  sleepers_are_woken u wish x gone = ⊎_elim
      (λ at. absurd (let e = listed_waits u wish at false gone in cc))
      (λ w. w)
      (sleeper u wish x.0 x.1 x.2)

  somebody_runs : m.word.state ≡ InProgress → SomebodyRuns m
  somebody_runs e = let x = somebody Running m.roles (omega (arith, sound.fits.running, ap in_progress e)) in
      (x.0, x.1, x.2, x.3)

  pub nobody_is_forgotten : NobodyIsForgotten m
  nobody_is_forgotten u wish x = ⊎_elim
      (λ at.
      let waiting : waits wish m.word.state ≡ true = listed_waits u wish at (waits wish m.word.state) refl in
      ⊎_elim (λ e. inl (somebody_runs e)) (λ e. inr (inl (e, waiting)))
      (waits_for_a_run wish.runs wish.force m.word.state waiting))
      (λ w. inr (inr w))
      (sleeper u wish x.0 x.1 x.2)

  runner_works : (r : Role) → 0 < weight Running r → IsTrue (is_at_work r)
  unfolding weight
  runner_works (Runs before) some = refl
  runner_works (Ends well) some = refl
  runner_works (Scans well taken) some = refl
  runner_works r some = absurd (omega arith)

  waker_works : (u : ℕ) (r : Role) → 0 < occurs u (wakes r) → IsTrue (is_at_work r)
  waker_works u (Scans well taken) some = refl
  waker_works u (Stored taken) some = refl
  waker_works u (Wakes taken) some = refl
  waker_works u r some = absurd (omega arith)

  pub somebody_is_at_work : SomebodyIsAtWork m
  somebody_is_at_work u wish x = ⊎_elim
      (λ run. inl (run.0, run.1, run.2, runner_works run.1 run.3))
      (λ more. ⊎_elim (λ waiting. inr waiting) (λ w. inl (w.0, w.1.0, w.1.1, waker_works u w.1.0 w.1.2)) more)
      (nobody_is_forgotten u wish x)

  taken_so : (t : ℕ) (o : Option Role) → 0 < at_index (taken_by t) o → (wish : Wish) × (o ≡ Some (Taken wish t))
  taken_so t None some = absurd (omega arith)
  taken_so t (Some (Taken wish by)) some = (wish, ap (λ x. Some (Taken wish x)) (same (by == t) refl some))
    where
      same : (b : Bool) → (by == t) ≡ b → 0 < cond (by == t) 1 0 → by ≡ t
      same true e some = eqb-true by t e
      same false e some = absurd (omega (arith, some, ap {B = ℕ} (λ b. cond b 1 0) e))
  taken_so t (Some r) some = absurd (omega arith)

  listed_so : (r : Role) → 0 < weight Listed r → ((wish : Wish) × (r ≡ Joined wish))
      ⊎ ((wish : Wish) × (r ≡ Sleeps wish))
  unfolding weight
  listed_so (Joined wish) some = inl (wish, refl)
  listed_so (Sleeps wish) some = inr (wish, refl)
  listed_so r some = absurd (omega arith)

  pub wakers_can_go_on : WakersCanGoOn m
  unfolding weight
  wakers_can_go_on = record { wakes = can_wake; takes = can_take }
    where
      can_wake : (t v : ℕ) (left : List ℕ) → slice_get m.roles t ≡ Some (Wakes (v ∷ left)) → (wish : Wish)
          × (slice_get m.roles v ≡ Some (Taken wish t))
      can_wake t v left at =
          let each = (sound.taken t).each v in
          let named : occurs v (wakes_at (slice_get m.roles t)) ≡ occurs v (v ∷ left) = ap (λ o. occurs v (wakes_at o))
          at in
          taken_so t (slice_get m.roles v) (omega (arith, each, named, occurs-cons v v left, counted-same v))

      inside_alone : (t v : ℕ) (well : Bool) (taken : List ℕ) (wish : Wish)
          → slice_get m.roles t ≡ Some (Scans well taken) → slice_get m.roles v ≡ Some (Joined wish) → t ≢ v → ⊥
      inside_alone t v well taken wish at there ne =
          omega (arith, two_at Inside m.roles t v _ _ ne at there, sound.fits.inside)

      can_take : (t : ℕ) (well : Bool) (taken : List ℕ) (v : ℕ) → slice_get m.roles t ≡ Some (Scans well taken)
          → slice_get m.queue 0 ≡ Some v → (wish : Wish) × (slice_get m.roles v ≡ Some (Sleeps wish))
      can_take t well taken v at first =
          let x = listed (weight Listed) m.queue m.roles sound.listed 0 v first in
          ⊎_elim
          (λ joined. absurd (
          let there : slice_get m.roles v ≡ Some (Joined joined.0) = x.1 ∙ ap (λ r. Some r) joined.1 in
          inside_alone t v well taken joined.0 at there
          (λ e. let same : Scans well taken ≡ Joined joined.0 =
          same_Some _ _ (sym at ∙ ap (λ i. slice_get m.roles i) e ∙ there) in cc)
          ))
          (λ sleeps. (sleeps.0, x.1 ∙ ap (λ r. Some r) sleeps.1))
          (listed_so x.0 x.2)

  pub runs_here : (t : ℕ) (r : Role) → slice_get m.roles t ≡ Some r → weight Running r ≡ 1 → m.word.state ≡ InProgress
  runs_here t r at one = is_running m.word.state (omega (arith, sound.fits.running, weighs_le Running t r at, one))

  begins_to_run : (t : ℕ) (force : Bool) (before : OnceState) → Allowed t (Alone (Start force before)) m
      → BeginsToRun t m (after t (Alone (Start force before)) m)
  begins_to_run t force before may = (
    force,
    subst (λ s. IsTrue (may_run force s)) (sym may.1.0) may.1.1,
    may.0,
    get-set_same m.roles t _ (Runs before) may.0 ∙ ap (λ s. Some (Runs s)) (sym may.1.0),
    refl,
  )

  pub state_goes : (t : ℕ) (step : Step) → Allowed t step m → StateGoes t step m (after t step m)
  unfolding weight
  state_goes t (Alone (Start force before)) may = inr (inl (begins_to_run t force before may))
  state_goes t (Alone (Finish well)) may =
      inr (inr (well, Ends well, may.0, refl, runs_here t (Ends well) may.0 refl, refl))
  state_goes t (Alone (Store well taken)) may =
      inr (inr (well, Scans well taken, may.0, refl, runs_here t (Scans well taken) may.0 refl, refl))
  state_goes t (Alone (Begin wish)) may = inl refl
  state_goes t (Alone (Complete wish)) may = inl refl
  state_goes t (Alone (Refuse runs)) may = inl refl
  state_goes t (Alone (Flag wish)) may = inl refl
  state_goes t (Alone (Enter wish)) may = inl refl
  state_goes t (Alone (Check wish)) may = inl refl
  state_goes t (Alone (Retreat wish)) may = inl refl
  state_goes t (Alone (Rest wish)) may = inl refl
  state_goes t (Alone (Return before well)) may = inl refl
  state_goes t (Alone (Look well)) may = inl refl
  state_goes t (Alone (Depart taken)) may = inl refl
  state_goes t (Alone Leave) may = inl refl
  state_goes t (Join wish) may = inl refl
  state_goes t (Take well taken v wish) may = inl refl
  state_goes t (Wake v left wish) may = inl refl

pub throughout : (P : ℕ → Step → Once → Once → Type 0)
    → ((m : Once) → IsSound m → (t : ℕ) (step : Step) → Allowed t step m → P t step m (after t step m))
    → ThroughoutOnce P
throughout P holds done threads steps m t step run may =
    holds m (runs_sound steps (unused done threads) m (rest_sound done threads) run) t step may
