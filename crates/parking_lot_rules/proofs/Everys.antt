-- Families of locks of every kind: every act keeps them sound.
use Rattle.std.proofs.Common.{◌≡◌, ◌≢◌, ℕ, zero, suc, ◌+◌, ◌≤◌, ◌⊎◌, ⊎_elim, Bool, List, [], ◌∷◌, replicate, Option}
use Rattle.std.proofs.Common.{Some, None, slice_get, slice_set, refl, sym, ap, ◌∙◌, subst, inl, inr, arith}
use Rattle.std.proofs.lemmas.Bool.{cases_eq}
use Rattle.std.proofs.lemmas.Option.{none-some, same_Some}
use Rattle.parking_lot_rules.specs.Roles.{Stay, Fresh, Asleep, Late, Back}
use Rattle.parking_lot_rules.specs.Classes.{inside}
use Rattle.parking_lot_rules.specs.Lists.{at_index}
use Rattle.parking_lot_rules.specs.Family.{Key, First, Second, Family}
use Rattle.parking_lot_rules.specs.Mutex as mutex
use Rattle.parking_lot_rules.specs.Mutex.{Mutex}
use Rattle.parking_lot_rules.specs.Variable.{Phase, Idle, Checked, Joined, Queued, Leaves, Notifies, Left, Class}
use Rattle.parking_lot_rules.specs.Variable.{Inside, weight, total, Variable, Plain, Refuse, Rest, Forget, Keep, Go}
use Rattle.parking_lot_rules.specs.Variable.{from, to, May, Step, Alone, Join, Quit, Release, Allowed, after, quiet}
use Rattle.parking_lot_rules.specs.Any.{any_rules}
use Rattle.parking_lot_rules.specs.Every.{EveryLock, Of, Cv, EveryStep, OfStep, CvStep, variable_crossing}
use Rattle.parking_lot_rules.specs.Every.{variable_inside, variable_rules, every_rules, IsSoundEverywhere, Act, One}
use Rattle.parking_lot_rules.specs.Every.{Two, Acts, ScheduledAct, Turns, Kind, ReaderWriter, Mutual, Condition}
use Rattle.parking_lot_rules.specs.Every.{resting, all_resting, IsReached, EverySound, every_inside, InEveryRun}
use Rattle.parking_lot_rules.proofs.Indexed.{get-set_same, get-set_other}
use Rattle.parking_lot_rules.proofs.Crossing.{crossed, WasIn}
use Rattle.parking_lot_rules.proofs.Families.{AreRules, any_family_sound}
use Rattle.parking_lot_rules.proofs.Running.{rest_sound_family}
use Rattle.parking_lot_rules.proofs.MutexRuns as mutexes
use Rattle.parking_lot_rules.proofs.MutexCrossing.{any_are_rules, mutex_are_rules}
use Rattle.parking_lot_rules.proofs.Variables.{step_sound, quiet_sound}
use Rattle.parking_lot_rules.proofs.TwoLockSteps.{both_sound}

-- the word is written by one that is inside
writer_inside : (p : Phase) → ((p ≡ Leaves) ⊎ (p ≡ Notifies)) → weight Inside p ≡ 1
unfolding weight
writer_inside p (inl e) = ap (weight Inside) e
writer_inside p (inr e) = ap (weight Inside) e

left_inside : weight Inside Left ≡ 1
unfolding weight
left_inside = refl

plain_crosses : (k : Plain) (w : ℕ) (all : Class → ℕ) → May k w all
    → weight Inside (to k) ≡ crossed (variable_crossing (Alone k)) First (weight Inside (from k))
unfolding weight
plain_crosses (Forget p) w all may = sym (writer_inside p may.0)
plain_crosses (Keep p) w all may = sym (writer_inside p may.0)
plain_crosses k w all may = refl

plain_was : (k : Plain) → WasIn (variable_crossing (Alone k)) First (weight Inside (from k))
unfolding weight
plain_was (Refuse k) = refl
plain_was (Rest k) = refl
plain_was Go = refl
plain_was k = tt

plain_second : (k : Plain) → crossed (variable_crossing (Alone k)) Second 0 ≡ 0
plain_second Go = refl
plain_second k = refl

second_was : (k : Plain) → WasIn (variable_crossing (Alone k)) Second 0
second_was Go = tt
second_was k = tt

abbrev within : List Phase → ℕ → ℕ
within ps u = at_index (weight Inside) (slice_get ps u)

within-other : (ps : List Phase) (t u : ℕ) (b : Phase) → u ≢ t → within (slice_set ps t b) u ≡ within ps u
within-other ps t u b ne = ap (at_index (weight Inside)) (get-set_other ps t u b (λ e. ne (sym e)))

within-same : (ps : List Phase) (t u : ℕ) (a b : Phase) → slice_get ps t ≡ Some a → weight Inside b ≡ weight Inside a
    → within (slice_set ps t b) u ≡ within ps u
within-same ps t u a b at same = ⊎_elim
    (λ e. ap (λ i. within (slice_set ps t b) i) e
    ∙ (ap (at_index (weight Inside)) (get-set_same ps t a b at)
    ∙ (same ∙ (sym (ap (at_index (weight Inside)) at) ∙ ap (λ i. within ps i) (sym e)))))
    (within-other ps t u b)
    (cases_eq u t)

join_inside : (k : ℕ) → weight Inside (Joined k) ≡ weight Inside (Checked k)
unfolding weight
join_inside k = refl

quit_inside : (k : ℕ) → weight Inside Leaves ≡ weight Inside (Queued k Back)
unfolding weight
quit_inside k = refl

released_outside : (k : ℕ) (stay : Stay) → inside stay ≡ 0 → weight Inside Idle ≡ weight Inside (Queued k stay)
unfolding weight
released_outside k stay out = sym out

module _ (t : ℕ) (v : Variable) where
  stay_all : (step : Step) → Allowed t step v → ((k : Plain) → step ≢ Alone k) → (u : ℕ)
      → within (after t step v).phases u ≡ within v.phases u
  stay_all (Alone k) may apart u = absurd (apart k refl)
  stay_all (Join k) may apart u = within-same v.phases t u _ _ may (join_inside k)
  stay_all (Quit k i) may apart u = within-same v.phases t u _ _ may.0 (quit_inside k)
  stay_all (Release x k stay) may apart u = within-same v.phases x u _ _ may.2 (released_outside k stay may.3)

  others : (step : Step) (x : Key) → Allowed t step v → (u : ℕ) → u ≢ t
      → variable_inside (after t step v) x u ≡ variable_inside v x u
  others step Second may u ne = refl
  others (Alone k) First may u ne = within-other v.phases t u (to k) ne
  others (Join k) First may u ne = stay_all (Join k) may (λ p e. cc) u
  others (Quit k i) First may u ne = stay_all (Quit k i) may (λ p e. cc) u
  others (Release x k stay) First may u ne = stay_all (Release x k stay) may (λ p e. cc) u

  moves : (step : Step) (x : Key) → Allowed t step v → variable_inside (after t step v) x t ≡ crossed
      (variable_crossing step) x (variable_inside v x t)
  moves (Alone k) First may =
      ap (at_index (weight Inside)) (get-set_same v.phases t (from k) (to k) may.0)
      ∙ (plain_crosses k v.word (λ c. total c v.phases) may.1 ∙ ap (crossed (variable_crossing (Alone k)) First)
      (sym (ap (at_index (weight Inside)) may.0)))
  moves (Alone k) Second may = sym (plain_second k)
  moves (Join k) First may = stay_all (Join k) may (λ p e. cc) t
  moves (Quit k i) First may = stay_all (Quit k i) may (λ p e. cc) t
  moves (Release x k stay) First may = stay_all (Release x k stay) may (λ p e. cc) t
  moves (Join k) Second may = refl
  moves (Quit k i) Second may = refl
  moves (Release x k stay) Second may = refl

  was : (step : Step) (x : Key) → Allowed t step v → WasIn (variable_crossing step) x (variable_inside v x t)
  was (Alone k) First may = subst (WasIn (variable_crossing (Alone k)) First)
      (sym (ap (at_index (weight Inside)) may.0)) (plain_was k)
  was (Alone k) Second may = second_was k
  was (Join k) x may = tt
  was (Quit k i) x may = tt
  was (Release u k stay) x may = tt

inside_le : (p : Phase) → weight Inside p ≤ 1
unfolding weight
inside_le (Queued k Fresh) = omega arith
inside_le (Queued k Asleep) = omega arith
inside_le (Queued k Late) = omega arith
inside_le (Queued k Back) = omega arith
inside_le p = omega arith

one_at_most : (o : Option Phase) → at_index (weight Inside) o + 0 ≤ 1
one_at_most None = omega arith
one_at_most (Some p) = omega (arith, inside_le p)

idle_outside : weight Inside Idle ≡ 0
unfolding weight
idle_outside = refl

out : (v : Variable) (x : Key) (t : ℕ) → ((p : Phase) → slice_get v.phases t ≡ Some p → p ≡ Idle)
    → variable_inside v x t ≡ 0
out v Second t idle = refl
out v First t idle = go (slice_get v.phases t) refl
  where
    go : (o : Option Phase) → slice_get v.phases t ≡ o → within v.phases t ≡ 0
    go None e = ap (at_index (weight Inside)) e
    go (Some p) e = ap (at_index (weight Inside)) e ∙ (ap (weight Inside) (idle p e) ∙ idle_outside)

variable_are_rules : AreRules variable_rules
variable_are_rules = record {
  keeps = λ j t step v sound may. step_sound t step v sound may;
  others = λ j t step v x may u ne. others t v step x may u ne;
  moves = λ j t step v x may. moves t v step x may;
  was = λ j t step v x may. was t v step x may;
  one = λ v u. one_at_most (slice_get v.phases u);
  out = λ v x t idle. out v x t idle;
}

-- all kinds together
pub every_are_rules : (recursive : ℕ → Bool) → AreRules (every_rules recursive)
every_are_rules recursive =
    record { keeps = keeps; others = all_others; moves = all_moves; was = all_was; one = one; out = all_out }
  where
    anys : AreRules (any_rules recursive)
    anys = any_are_rules recursive

    vars : AreRules variable_rules
    vars = variable_are_rules

    keeps : (j t : ℕ) (step : EveryStep) (l : EveryLock) → (every_rules recursive).sound l
        → (every_rules recursive).allowed j t step l
        → (every_rules recursive).sound ((every_rules recursive).after t step l)
    keeps j t (OfStep s) (Of l) sound may = anys.keeps j t s l sound may
    keeps j t (CvStep s) (Cv v) sound may = vars.keeps j t s v sound may
    keeps j t (OfStep s) (Cv v) sound may = absurd may
    keeps j t (CvStep s) (Of l) sound may = absurd may

    all_others : (j t : ℕ) (step : EveryStep) (l : EveryLock) (x : Key) → (every_rules recursive).allowed j t step l
        → (u : ℕ) → u ≢ t → (every_rules recursive).inside ((every_rules recursive).after t step l) x u
        ≡ (every_rules recursive).inside l x u
    all_others j t (OfStep s) (Of l) x may u ne = anys.others j t s l x may u ne
    all_others j t (CvStep s) (Cv v) x may u ne = vars.others j t s v x may u ne
    all_others j t (OfStep s) (Cv v) x may u ne = absurd may
    all_others j t (CvStep s) (Of l) x may u ne = absurd may

    all_moves : (j t : ℕ) (step : EveryStep) (l : EveryLock) (x : Key) → (every_rules recursive).allowed j t step l
        → (every_rules recursive).inside ((every_rules recursive).after t step l) x t ≡ crossed
        ((every_rules recursive).crosses step) x ((every_rules recursive).inside l x t)
    all_moves j t (OfStep s) (Of l) x may = anys.moves j t s l x may
    all_moves j t (CvStep s) (Cv v) x may = vars.moves j t s v x may
    all_moves j t (OfStep s) (Cv v) x may = absurd may
    all_moves j t (CvStep s) (Of l) x may = absurd may

    all_was : (j t : ℕ) (step : EveryStep) (l : EveryLock) (x : Key) → (every_rules recursive).allowed j t step l
        → WasIn ((every_rules recursive).crosses step) x ((every_rules recursive).inside l x t)
    all_was j t (OfStep s) (Of l) x may = anys.was j t s l x may
    all_was j t (CvStep s) (Cv v) x may = vars.was j t s v x may
    all_was j t (OfStep s) (Cv v) x may = absurd may
    all_was j t (CvStep s) (Of l) x may = absurd may

    one : (l : EveryLock) (u : ℕ) → (every_rules recursive).inside l First u + (every_rules recursive).inside l Second u
        ≤ 1
    one (Of l) u = anys.one l u
    one (Cv v) u = vars.one v u

    all_out : (l : EveryLock) (x : Key) (t : ℕ) → (every_rules recursive).idle l t
        → (every_rules recursive).inside l x t ≡ 0
    all_out (Of l) x t idle = anys.out l x t idle
    all_out (Cv v) x t idle = vars.out v x t idle

-- every act
pub acts_sound : (bucket : ℕ → ℕ) (recursive : ℕ → Bool) (t : ℕ) (act : Act) (old new : Family EveryLock)
    → IsSoundEverywhere bucket recursive old → Acts bucket recursive t act old new
    → IsSoundEverywhere bucket recursive new
acts_sound bucket recursive t (One j step) old new sound made = any_family_sound (every_rules recursive)
    (every_are_rules recursive) bucket j t step old new sound made
acts_sound bucket recursive t (Two j k one two) old new sound made = both_sound (every_rules recursive)
    (every_are_rules recursive) bucket j k t one two old new sound made

turns_sound : (bucket : ℕ → ℕ) (recursive : ℕ → Bool) (es : List ScheduledAct) (f g : Family EveryLock)
    → IsSoundEverywhere bucket recursive f → Turns bucket recursive f es g → IsSoundEverywhere bucket recursive g
turns_sound bucket recursive [] f g sound run = subst (IsSoundEverywhere bucket recursive) (sym run) sound
turns_sound bucket recursive (e ∷ es) f g sound run = turns_sound bucket recursive es e.next g
    (acts_sound bucket recursive e.thread e.act f e.next sound run.0) run.1

-- at first nobody is inside
same_all : {X : Type 0} (x : X) (n u : ℕ) (y : X) → slice_get (replicate n x) u ≡ Some y → y ≡ x
same_all x zero u y at = absurd (none-some y at)
same_all x (suc n) zero y at = sym (same_Some x y at)
same_all x (suc n) (suc u) y at = same_all x n u y at

resting_sound : (recursive : ℕ → Bool) (n i : ℕ) (kind : Kind) → EverySound recursive (resting n i kind)
resting_sound recursive n i ReaderWriter = (rest_sound_family (λ k. k) n).sound i
resting_sound recursive n i Mutual = mutexes.rest_sound n
resting_sound recursive n i Condition = quiet_sound n

resting_outside : (recursive : ℕ → Bool) (n i : ℕ) (kind : Kind) (x : Key) (u : ℕ)
    → every_inside recursive (resting n i kind) x u ≡ 1 → ⊥
resting_outside recursive n i ReaderWriter x u h = none-some u ((rest_sound_family (λ k. k) n).entered i x u h)
resting_outside recursive n i Mutual x u h =
    omega (
      arith,
      h,
      mutex_are_rules.out (mutex.unlocked n) x u
          (λ r at. ap (λ (y : mutex.Role). y.does) (same_all mutex.away n u r at)),
    )
resting_outside recursive n i Condition x u h = omega (arith, h, out (quiet n) x u (λ p at. same_all Idle n u p at))

all_resting_sound : (bucket : ℕ → ℕ) (recursive : ℕ → Bool) (kinds : ℕ → Kind) (n : ℕ)
    → IsSoundEverywhere bucket recursive (all_resting kinds n)
all_resting_sound bucket recursive kinds n = record {
  sound = λ i. resting_sound recursive n i (kinds i);
  entered = λ i x u h. absurd (resting_outside recursive n i (kinds i) x u h);
  is_inside = λ b u e. absurd (none-some u e);
}

pub reached_sound : (bucket : ℕ → ℕ) (recursive : ℕ → Bool) (f : Family EveryLock) → IsReached bucket recursive f
    → IsSoundEverywhere bucket recursive f
reached_sound bucket recursive f r = turns_sound bucket recursive r.turns (all_resting r.kinds r.threads) f
    (all_resting_sound bucket recursive r.kinds r.threads) r.run

pub everywhere : (P : (ℕ → ℕ) → (ℕ → Bool) → Family EveryLock → Type 0)
    → ((bucket : ℕ → ℕ) (recursive : ℕ → Bool) (f : Family EveryLock) → IsSoundEverywhere bucket recursive f
    → P bucket recursive f) → InEveryRun P
everywhere P holds bucket recursive f r = holds bucket recursive f (reached_sound bucket recursive f r)
