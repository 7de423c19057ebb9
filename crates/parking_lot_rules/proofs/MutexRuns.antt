-- A mutex at which nobody has done anything is sound, and so is what every run leads to.
use Rattle.std.proofs.Common.{◌≡◌, ℕ, zero, suc, List, [], ◌∷◌, replicate, Option, Some, None, slice_get, refl, sym, ap}
use Rattle.std.proofs.Common.{◌∙◌, subst, arith}
use Rattle.std.proofs.lemmas.List.Sums.{sum_by-cons}
use Rattle.std.proofs.lemmas.Option.{none-some, same_Some}
use Rattle.parking_lot_rules.specs.Lists.{at_index}
use Rattle.parking_lot_rules.specs.Mutex.{Role, away, Class, Waiting, weight, total, Fits, note_of, Mutex, IsSound}
use Rattle.parking_lot_rules.specs.Mutex.{Step, after, Runs, unlocked, AlwaysOfMutex}
use Rattle.parking_lot_rules.proofs.Mutexes.{away_weighs, same_counts, step_sound}

all_away : (n u : ℕ) (r : Role) → slice_get (replicate n away) u ≡ Some r → r ≡ away
all_away zero u r at = absurd (none-some r at)
all_away (suc n) zero r at = sym (same_Some _ r at)
all_away (suc n) (suc u) r at = all_away n u r at

pub total-none : (c : Class) (rs : List Role) → ((u : ℕ) (r : Role) → slice_get rs u ≡ Some r → weight c r ≡ 0)
    → total c rs ≡ 0
total-none c [] none = refl
total-none c (r ∷ rs) none =
    omega (arith, sum_by-cons (weight c) r rs, none 0 r refl, total-none c rs (λ u x at. none (suc u) x at))

weighs_nothing : (c : Class) (rs : List Role) → ((u : ℕ) (r : Role) → slice_get rs u ≡ Some r → weight c r ≡ 0)
    → (u : ℕ) → at_index (weight c) (slice_get rs u) ≡ 0
weighs_nothing c rs none u = go (slice_get rs u) refl
  where
    go : (o : Option Role) → slice_get rs u ≡ o → at_index (weight c) o ≡ 0
    go None e = refl
    go (Some r) e = none u r e

zero_fits : Fits (record { locked = 0; parked = 0 }) (λ c. 0)
zero_fits = omega arith

pub rest_sound : (n : ℕ) → IsSound (unlocked n)
rest_sound n = record {
  fits = same_counts (Fits (record { locked = 0; parked = 0 })) (λ c. 0) _ (λ c. sym (none c)) zero_fits;
  waiting = record {
    count = sym (none Waiting);
    each = λ u. sym (weighs_nothing Waiting (replicate n away) (each Waiting) u);
  };
  noted = λ u by r mark at took. absurd (none-some (by, mark) (ap note_of (sym (all_away n u r at)) ∙ took));
}
  where
    each : (c : Class) (u : ℕ) (r : Role) → slice_get (replicate n away) u ≡ Some r → weight c r ≡ 0
    each c u r at = ap (weight c) (all_away n u r at) ∙ away_weighs c

    none : (c : Class) → total c (replicate n away) ≡ 0
    none c = total-none c (replicate n away) (each c)

runs_sound : (steps : List (ℕ × Step)) (m n : Mutex) → IsSound m → Runs m steps n → IsSound n
runs_sound [] m n sound run = subst IsSound (sym run) sound
runs_sound (e ∷ es) m n sound run = runs_sound es (after e.0 e.1 m) n (step_sound e.0 e.1 m sound run.0) run.1

pub run_sound : (threads : ℕ) (steps : List (ℕ × Step)) (m : Mutex) → Runs (unlocked threads) steps m → IsSound m
run_sound threads steps m run = runs_sound steps (unlocked threads) m (rest_sound threads) run

pub always : (P : Mutex → Type 0) → ((m : Mutex) → IsSound m → P m) → AlwaysOfMutex P
always P holds threads steps m run = holds m (runs_sound steps (unlocked threads) m (rest_sound threads) run)
