-- How often closures are begun and return, over whole runs.
use Rattle.std.proofs.Common.{◌≡◌, ◌≢◌, ◌++◌, ℕ, ◌+◌, ◌≤◌, Bool, true, false, not, cond, IsTrue, List, [], ◌∷◌, Some}
use Rattle.std.proofs.Common.{slice_get, slice_set, refl, sym, ap, ◌∙◌, subst, arith}
use Rattle.std.proofs.lemmas.List.Sums.{sum_by-cons}
use Rattle.std.proofs.lemmas.Option.{same_Some}
use Rattle.parking_lot_rules.specs.Classes.{bit}
use Rattle.parking_lot_rules.proofs.Indexed.{get-set_other}
use Rattle.parking_lot_rules.specs.Once.Once.{OnceState, New, Poisoned, InProgress, Done, Role, Seeks, Joined, Sleeps}
use Rattle.parking_lot_rules.specs.Once.Once.{Taken, Ends, Scans, Wakes, may_run, ended, in_progress, Class, Succeeding}
use Rattle.parking_lot_rules.specs.Once.Once.{Busy, weight, total, Once, IsSound, Plain, Begin, Start, Complete, Refuse}
use Rattle.parking_lot_rules.specs.Once.Once.{Flag, Enter, Check, Retreat, Rest, Return, Finish, Look, Store, Depart}
use Rattle.parking_lot_rules.specs.Once.Once.{Leave, from, to, May, written, Step, Alone, Join, Take, Wake, Allowed}
use Rattle.parking_lot_rules.specs.Once.Once.{after, IsRun, unused}
use Rattle.parking_lot_rules.specs.Once.OnceLaws.{begins, returns, how_often, is_done, ClosuresAreCounted, DoneStays}
use Rattle.parking_lot_rules.specs.Once.OnceLaws.{AlwaysOfSteps}
use Rattle.parking_lot_rules.proofs.OnceFacts.Soundness.{counts_all, total-at, total-set, total-none, idle_weighs}
use Rattle.parking_lot_rules.proofs.OnceFacts.Soundness.{step_sound, rest_sound, runs_sound, all_idle}
use Rattle.parking_lot_rules.proofs.OnceFacts.Following.{runs_here}

-- what one step does to the counts
pub record StepCounts (step : Step) (old new : Once) : Type 0 where
  pub counted : begins step + total Busy old.roles ≡ returns true step + returns false step + total Busy new.roles
  pub last : returns true step + (is_done old.word.state + total Succeeding old.roles) ≡ is_done new.word.state + total
      Succeeding new.roles

not_done : (force : Bool) (s : OnceState) → IsTrue (may_run force s) → is_done s ≡ 0
not_done force New may = refl
not_done force Poisoned may = refl
not_done force InProgress may = refl
not_done force Done may = absurd cc

done_behind : (well : Bool) → is_done (ended well) ≡ bit well
done_behind true = refl
done_behind false = refl

returned : (well : Bool) → bit well + bit (not well) ≡ 1
returned true = refl
returned false = refl

plain_busy : (k : Plain) → begins (Alone k) + weight Busy (from k) ≡ returns true (Alone k) + returns false (Alone k) +
    weight Busy (to k)
unfolding weight
plain_busy (Return before well) = omega (arith, returned well)
plain_busy (Begin wish) = refl
plain_busy _ = refl

-- two roles change that weigh the same
same_counts2 : (rs : List Role) (t v : ℕ) (c : Class) (a b x y : Role) → slice_get rs t ≡ Some a
    → slice_get (slice_set rs t b) v ≡ Some x → weight c b ≡ weight c a → weight c y ≡ weight c x
    → total c (slice_set (slice_set rs t b) v y) ≡ total c rs
same_counts2 rs t v c a b x y at there one two =
    omega (
      arith,
      total-at rs t a at c,
      total-set rs t a b at c,
      total-at (slice_set rs t b) v x there c,
      total-set (slice_set rs t b) v x y there c,
      one,
      two,
    )

module _ (m : Once) (sound : IsSound m) (t : ℕ) where
  plain_last : (k : Plain) → slice_get m.roles t ≡ Some (from k) → May k m.word (λ c. total c m.roles)
      → returns true (Alone k) + (is_done m.word.state + weight Succeeding (from k)) ≡ is_done (written k m.word).state
      + weight Succeeding (to k)
  unfolding weight
  plain_last (Start force before) at may = omega (arith, not_done force before may.1, ap is_done may.0)
  plain_last (Return before well) at may = omega arith
  plain_last (Finish well) at may =
      omega (arith, ap is_done (runs_here m sound t (from (Finish well)) at refl), done_behind well)
  plain_last (Store well taken) at may =
      omega (arith, ap is_done (runs_here m sound t (from (Store well taken)) at refl), done_behind well)
  plain_last (Begin wish) at may = omega arith
  plain_last _ at may = omega arith

  step_counts : (step : Step) → Allowed t step m → StepCounts step m (after t step m)
  unfolding weight
  step_counts (Alone k) may = record {
    counted = omega (
      arith,
      plain_busy k,
      total-at m.roles t (from k) may.0 Busy,
      total-set m.roles t (from k) (to k) may.0 Busy,
    );
    last = omega (
      arith,
      plain_last k may.0 may.1,
      total-at m.roles t (from k) may.0 Succeeding,
      total-set m.roles t (from k) (to k) may.0 Succeeding,
    );
  }
  step_counts (Join wish) may = record {
    counted = omega (arith, total-at m.roles t _ may Busy, total-set m.roles t _ (Joined wish) may Busy);
    last = omega (arith, total-at m.roles t _ may Succeeding, total-set m.roles t _ (Joined wish) may Succeeding);
  }
  step_counts (Take well taken v wish) may =
      record {
        counted = omega (arith, taken_weighs Busy refl refl);
        last = omega (arith, taken_weighs Succeeding refl refl);
      }
    where
      a : Role
      a = Scans well taken

      b : Role
      b = Scans well (taken ++ v ∷ [])

      apart : t ≢ v
      apart e = let same : a ≡ Sleeps wish =
          same_Some a (Sleeps wish) (sym may.0 ∙ ap (λ j. slice_get m.roles j) e ∙ may.2) in cc

      taken_weighs : (c : Class) → weight c b ≡ weight c a → weight c (Taken wish t) ≡ weight c (Sleeps wish)
          → total c (slice_set (slice_set m.roles t b) v (Taken wish t)) ≡ total c m.roles
      taken_weighs c one two = same_counts2 m.roles t v c a b (Sleeps wish) (Taken wish t) may.0
          (get-set_other m.roles t v b apart ∙ may.2) one two
  step_counts (Wake v left wish) may =
      record {
        counted = omega (arith, woken_weighs Busy refl refl);
        last = omega (arith, woken_weighs Succeeding refl refl);
      }
    where
      a : Role
      a = Wakes (v ∷ left)

      apart : v ≢ t
      apart e = let same : Taken wish t ≡ a =
          same_Some (Taken wish t) a (sym may.1 ∙ ap (λ j. slice_get m.roles j) e ∙ may.0) in cc

      woken_weighs : (c : Class) → weight c (Seeks wish) ≡ weight c (Taken wish t) → weight c (Wakes left) ≡ weight c a
          → total c (slice_set (slice_set m.roles v (Seeks wish)) t (Wakes left)) ≡ total c m.roles
      woken_weighs c one two = same_counts2 m.roles v t c (Taken wish t) (Seeks wish) a (Wakes left) may.1
          (get-set_other m.roles v t (Seeks wish) apart ∙ may.0) one two

  -- what is done stays done at a step, which begins no closure
  stays_done : (step : Step) → Allowed t step m → m.word.state ≡ Done → ((after t step m).word.state ≡ Done)
      × (begins step ≡ 0)
  unfolding weight
  stays_done (Alone (Start force before)) may e =
      absurd (let run : IsTrue (may_run force Done) = subst (λ s. IsTrue (may_run force s)) (sym may.1.0 ∙ e) may.1.1 in
      cc)
  stays_done (Alone (Finish well)) may e =
      absurd (let run : m.word.state ≡ InProgress = runs_here m sound t (Ends well) may.0 refl in
      let no : Done ≡ InProgress = sym e ∙ run in cc)
  stays_done (Alone (Store well taken)) may e =
      absurd (let run : m.word.state ≡ InProgress = runs_here m sound t (Scans well taken) may.0 refl in
      let no : Done ≡ InProgress = sym e ∙ run in cc)
  stays_done (Alone (Begin wish)) may e = (e, refl)
  stays_done (Alone (Complete wish)) may e = (e, refl)
  stays_done (Alone (Refuse runs)) may e = (e, refl)
  stays_done (Alone (Flag wish)) may e = (e, refl)
  stays_done (Alone (Enter wish)) may e = (e, refl)
  stays_done (Alone (Check wish)) may e = (e, refl)
  stays_done (Alone (Retreat wish)) may e = (e, refl)
  stays_done (Alone (Rest wish)) may e = (e, refl)
  stays_done (Alone (Return before well)) may e = (e, refl)
  stays_done (Alone (Look well)) may e = (e, refl)
  stays_done (Alone (Depart taken)) may e = (e, refl)
  stays_done (Alone Leave) may e = (e, refl)
  stays_done (Join wish) may e = (e, refl)
  stays_done (Take well taken v wish) may e = (e, refl)
  stays_done (Wake v left wish) may e = (e, refl)

-- how often something was done, with one step more
one_more : (f : Step → ℕ) (e : ℕ × Step) (es : List (ℕ × Step)) → how_often f (e ∷ es) ≡ f e.1 + how_often f es
one_more f e es = sum_by-cons (λ (x : ℕ × Step). f x.1) e es

-- what whole runs do to the counts
pub record RunCounts (steps : List (ℕ × Step)) (old new : Once) : Type 0 where
  pub counted : how_often begins steps + total Busy old.roles ≡ how_often (returns true) steps + how_often
      (returns false) steps + total Busy new.roles
  pub last : how_often (returns true) steps + (is_done old.word.state + total Succeeding old.roles) ≡ is_done
      new.word.state + total Succeeding new.roles

run_counts : (steps : List (ℕ × Step)) (m n : Once) → IsSound m → IsRun m steps n → RunCounts steps m n
run_counts [] m n sound run =
    record {
      counted = omega (arith, ap (λ (x : Once). total Busy x.roles) run);
      last = omega (arith, ap (λ (x : Once). is_done x.word.state + total Succeeding x.roles) run);
    }
run_counts (e ∷ es) m n sound run =
    let one = step_counts m sound e.0 e.1 run.0 in
    let more = run_counts es (after e.0 e.1 m) n (step_sound e.0 e.1 m sound run.0) run.1 in
    record {
      counted = omega (
        arith,
        one.counted,
        more.counted,
        one_more begins e es,
        one_more (returns true) e es,
        one_more (returns false) e es,
      );
      last = omega (arith, one.last, more.last, one_more (returns true) e es);
    }

pub done_stays : (m : Once) → IsSound m → DoneStays m
done_stays m sound done [] n run = (ap (λ (x : Once). x.word.state) run ∙ done, refl)
done_stays m sound done (e ∷ es) n run =
    let one = stays_done m sound e.0 e.1 run.0 done in
    let more = done_stays (after e.0 e.1 m) (step_sound e.0 e.1 m sound run.0) one.0 es n run.1 in
    (more.0, omega (arith, one.1, more.1, one_more begins e es))

done_or : (s : OnceState) → is_done s + in_progress s ≤ 1
done_or New = omega arith
done_or Poisoned = omega arith
done_or InProgress = omega arith
done_or Done = omega arith

begun : (done : Bool) → is_done (cond done Done New) ≡ bit done
begun true = refl
begun false = refl

pub closures_are_counted : AlwaysOfSteps ClosuresAreCounted
closures_are_counted done threads steps m run =
    let first : Once = unused done threads in
    let sound = runs_sound steps first m (rest_sound done threads) run in
    let counts = run_counts steps first m (rest_sound done threads) run in
    let none : (c : Class) → total c first.roles ≡ 0 = λ c. total-none (weight c) first.roles
    (λ u r at. ap (weight c) (all_idle threads u r at) ∙ idle_weighs c) in
    let last : bit done + how_often (returns true) steps ≡ is_done m.word.state + total Succeeding m.roles =
    omega (arith, counts.last, none Succeeding, begun done) in
    record {
      counted = omega (arith, counts.counted, none Busy);
      once = omega (arith, last, done_or m.word.state, sound.fits.running, (counts_all m.roles).succeeding);
      last = last;
    }
