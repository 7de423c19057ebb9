-- Every world that a run leads to is sound.
use Rattle.std.proofs.Common.{◌≡◌, ℕ, zero, suc, Bool, ◌==◌, List, [], ◌∷◌, map, replicate, Option, Some, None}
use Rattle.std.proofs.Common.{slice_get, refl, sym, ap, ◌∙◌, subst, arith}
use Rattle.std.proofs.lemmas.Option.{none-some, same_Some}
use Rattle.parking_lot_rules.specs.Roles.{Shares, Idle, Role, away}
use Rattle.parking_lot_rules.specs.Classes.{Class, Waiting1, Waiting2, weight, total, weighs}
use Rattle.parking_lot_rules.specs.Clauses.{Fits}
use Rattle.parking_lot_rules.specs.Lock.{Lock, note_of, IsSound}
use Rattle.parking_lot_rules.specs.Steps.{Step, Allowed, after}
use Rattle.parking_lot_rules.specs.Family.{section, IsSoundFamily}
use Rattle.parking_lot_rules.specs.World.{World, role_at, lock_at, family}
use Rattle.parking_lot_rules.specs.Runs.{Move, moved, Runs, zero_word, idle, at_rest, IsReached, Always, Throughout}
use Rattle.parking_lot_rules.specs.Runs.{StaysAtItsLock}
use Rattle.parking_lot_rules.proofs.Totals.{away_weighs, same_counts}
use Rattle.parking_lot_rules.proofs.Families.{total-none}
use Rattle.parking_lot_rules.proofs.Worlds.{world_sound, world_step, same_role, seen-idle}

pub all_away : (i n u : ℕ) (r : Role) → slice_get (map (role_at i) (replicate n idle)) u ≡ Some r → r ≡ away
all_away i zero u r at = absurd (none-some r at)
all_away i (suc n) zero r at = sym (same_Some _ r at) ∙ same_role (Shares 0) (Shares 0) _ Idle refl
    (seen-idle (0 == i) Idle refl)
all_away i (suc n) (suc u) r at = all_away i n u r at

weighs_nothing : (c : Class) (i n u : ℕ) → weighs c (slice_get (map (role_at i) (replicate n idle)) u) ≡ 0
weighs_nothing c i n u = go (slice_get (map (role_at i) (replicate n idle)) u) refl
  where
    go : (o : Option Role) → slice_get (map (role_at i) (replicate n idle)) u ≡ o → weighs c o ≡ 0
    go None e = refl
    go (Some r) e = ap (weight c) (all_away i n u r e) ∙ away_weighs c

zero_fits : Fits zero_word (λ c. 0)
zero_fits = omega arith

rest_sound : (n i : ℕ) → IsSound (lock_at (at_rest n) i)
rest_sound n i = record {
  fits = same_counts (Fits zero_word) (λ c. 0) _ (λ c. sym (none c)) zero_fits;
  waiting1 = record { count = sym (none Waiting1); each = λ u. sym (weighs_nothing Waiting1 i n u) };
  waiting2 = record { count = sym (none Waiting2); each = λ u. sym (weighs_nothing Waiting2 i n u) };
  noted = λ u by r note at took. absurd
      (none-some (by, note) (ap (λ (x : Role). note_of x.does) (sym (all_away i n u r at)) ∙ took));
}
  where
    none : (c : Class) → total c (map (role_at i) (replicate n idle)) ≡ 0
    none c = total-none c (map (role_at i) (replicate n idle)) (weighs_nothing c i n)

pub rest_sound_family : (bucket : ℕ → ℕ) (n : ℕ) → IsSoundFamily bucket (family (at_rest n))
rest_sound_family bucket n = record {
  sound = rest_sound n;
  entered = λ i k u h. absurd (omega (arith, h, weighs_nothing (section k) i n u));
  is_inside = λ b u e. absurd (none-some u e);
}

runs_sound : (bucket : ℕ → ℕ) (recursive : ℕ → Bool) (ms : List Move) (w v : World) → IsSoundFamily bucket (family w)
    → Runs bucket recursive w ms v → IsSoundFamily bucket (family v)
runs_sound bucket recursive [] w v sound run = subst (λ x. IsSoundFamily bucket (family x)) (sym run) sound
runs_sound bucket recursive (m ∷ ms) w v sound run =
    runs_sound bucket recursive ms (moved bucket m w) v
    (world_sound bucket recursive m.lock m.thread w m.step sound run.0) run.1

pub reached_sound : (bucket : ℕ → ℕ) (recursive : ℕ → Bool) (w : World) → IsReached bucket recursive w
    → IsSoundFamily bucket (family w)
reached_sound bucket recursive w r = runs_sound bucket recursive r.moves (at_rest r.threads) w
    (rest_sound_family bucket r.threads) r.run

-- what holds of sound locks holds always
pub always : (P : Lock → Type 0) → ((l : Lock) → IsSound l → P l) → Always P
always P holds bucket recursive w i r = holds (lock_at w i) ((reached_sound bucket recursive w r).sound i)

-- what holds of steps at sound locks holds throughout
pub throughout : (P : Bool → ℕ → Step → Lock → Lock → Type 0)
    → ((recursive : Bool) (t : ℕ) (step : Step) (l : Lock) → IsSound l → Allowed recursive t step l
    → P recursive t step l (after t step l)) → Throughout P
throughout P holds bucket recursive w m r may =
    let sound = reached_sound bucket recursive w r in
    subst (λ x. P (recursive m.lock) m.thread m.step (lock_at w m.lock) x)
    (sym (world_step bucket recursive m.lock m.thread w m.step sound may).here)
    (holds (recursive m.lock) m.thread m.step (lock_at w m.lock) (sound.sound m.lock) may.allowed)

pub stays_at_its_lock : StaysAtItsLock
stays_at_its_lock bucket recursive w m i r may ne =
    (world_step bucket recursive m.lock m.thread w m.step (reached_sound bucket recursive w r) may).elsewhere i ne
