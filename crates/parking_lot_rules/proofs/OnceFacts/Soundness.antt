-- Every step keeps a one-time initialization sound.
use Rattle.std.proofs.Common.{sum_by, if◌then◌else◌, ◌≡◌, ◌≢◌, ℕ, zero, suc, ◌+◌, ◌≤◌, ⊎_elim, Bool, true, false, not}
use Rattle.std.proofs.Common.{IsTrue, List, [], ◌∷◌, ◌++◌, remove, replicate, Option, Some, None, slice_get, slice_set}
use Rattle.std.proofs.Common.{refl, sym, ap, ◌∙◌, subst, arith}
use Rattle.std.proofs.lemmas.List.Sums.{sum_by-cons}
use Rattle.std.proofs.lemmas.Bool.{cases_eq}
use Rattle.std.proofs.lemmas.Option.{none-some, same_Some}
use Rattle.parking_lot_rules.specs.Classes.{bit}
use Rattle.parking_lot_rules.specs.Lists.{at_index, IsListOf}
use Rattle.parking_lot_rules.proofs.Indexed.{get-set_same, get-set_other, sum_by-set_at}
use Rattle.parking_lot_rules.proofs.Fitting.{zero_or}
use Rattle.parking_lot_rules.proofs.Waiting.{lists-same, lists-push, lists-drop, counted-same, counted-other}
use Rattle.parking_lot_rules.specs.Once.Once.{OnceState, New, Poisoned, InProgress, Done, Wish, Role, Idle, Seeks}
use Rattle.parking_lot_rules.specs.Once.Once.{Checked, Joined, Sleeps, Taken, Ends, Scans, Wakes, Word, waits, may_run}
use Rattle.parking_lot_rules.specs.Once.Once.{ended, in_progress, Class, Running, Listed, weight, total, Fits, Counts}
use Rattle.parking_lot_rules.specs.Once.Once.{taken_by, wakes, wakes_at, Once, Sound, IsSound, Plain, Begin, Start}
use Rattle.parking_lot_rules.specs.Once.Once.{Complete, Refuse, Flag, Enter, Check, Retreat, Rest, Return, Finish, Look}
use Rattle.parking_lot_rules.specs.Once.Once.{Store, Depart, Leave, from, to, May, written, Step, Alone, Join, Take}
use Rattle.parking_lot_rules.specs.Once.Once.{Wake, Allowed, after, IsRun, unused, AlwaysOfOnce}

bit_le : (b : Bool) → bit b ≤ 1
bit_le true = omega arith
bit_le false = omega arith

-- what holds of each role, and so of all
counts_one : (r : Role) → Counts (λ c. weight c r)
unfolding weight
counts_one (Checked wish) =
    record {
      joining = omega arith;
      willing = λ s. omega (arith, bit_le (not (waits wish s)));
      progress = refl;
      succeeding = omega arith;
    }
counts_one (Joined wish) =
    record {
      joining = omega arith;
      willing = λ s. omega (arith, bit_le (not (waits wish s)));
      progress = refl;
      succeeding = omega arith;
    }
counts_one (Sleeps wish) =
    record {
      joining = omega arith;
      willing = λ s. omega (arith, bit_le (not (waits wish s)));
      progress = refl;
      succeeding = omega arith;
    }
counts_one (Ends well) =
    record {
      joining = omega arith;
      willing = λ s. omega arith;
      progress = refl;
      succeeding = omega (arith, bit_le well);
    }
counts_one (Scans well taken) =
    record {
      joining = omega arith;
      willing = λ s. omega arith;
      progress = refl;
      succeeding = omega (arith, bit_le well);
    }
counts_one r = record { joining = omega arith; willing = λ s. omega arith; progress = refl; succeeding = omega arith }

pub counts_all : (rs : List Role) → Counts (λ c. total c rs)
counts_all [] = record { joining = omega arith; willing = λ s. omega arith; progress = refl; succeeding = omega arith }
counts_all (r ∷ rs) =
    let one : Counts (λ c. weight c r) = counts_one r in
    let more : Counts (λ c. total c rs) = counts_all rs in
    record {
      joining = omega (arith, sum_by-cons {X = Role}, one.joining, more.joining);
      willing = λ s. omega (arith, sum_by-cons {X = Role}, one.willing s, more.willing s);
      progress = omega (arith, sum_by-cons {X = Role}, one.progress, more.progress);
      succeeding = omega (arith, sum_by-cons {X = Role}, one.succeeding, more.succeeding);
    }

pub idle_weighs : (c : Class) → weight c Idle ≡ 0
unfolding weight
idle_weighs Running = refl
idle_weighs _ = refl

pub total-at : (rs : List Role) (t : ℕ) (a : Role) → slice_get rs t ≡ Some a → (c : Class)
    → total c rs ≡ total c (slice_set rs t Idle) + weight c a
total-at rs t a at c = omega (arith, sum_by-set_at (weight c) rs t a Idle at, idle_weighs c)

pub total-set : (rs : List Role) (t : ℕ) (a b : Role) → slice_get rs t ≡ Some a → (c : Class)
    → total c (slice_set rs t b) ≡ total c (slice_set rs t Idle) + weight c b
total-set rs t a b at c =
    omega (arith, sum_by-set_at (weight c) rs t a b at, sum_by-set_at (weight c) rs t a Idle at, idle_weighs c)

pub same_counts : (P : (Class → ℕ) → Type 0) (m n : Class → ℕ) → ((c : Class) → m c ≡ n c) → P m → P n
same_counts P m n e h = let p : m ≡ n = λ i c. e c i in subst P p h

-- at a state at which a closure may be begun none runs
pub none_runs : (force : Bool) (s : OnceState) → IsTrue (may_run force s) → in_progress s ≡ 0
none_runs force New may = refl
none_runs force Poisoned may = refl
none_runs force InProgress may = absurd cc
none_runs force Done may = absurd cc

progress_le : (s : OnceState) → in_progress s ≤ 1
progress_le InProgress = omega arith
progress_le _ = omega arith

pub none_behind : (well : Bool) → in_progress (ended well) ≡ 0
none_behind true = refl
none_behind false = refl

plain_fits : (k : Plain) (s : OnceState) (p : ℕ) (rest : Class → ℕ) → Counts rest → let w : Word =
    record { state = s; parked = p } in
    Fits w (λ x. rest x + weight x (from k)) → May k w (λ x. rest x + weight x (from k))
    → Fits (written k w) (λ x. rest x + weight x (to k))
unfolding weight
plain_fits (Begin wish) s p rest counts fits may = omega arith
plain_fits (Start force before) s p rest counts fits may =
    omega (arith, none_runs force before may.1, ap in_progress may.0, counts.progress)
plain_fits (Complete wish) s p rest counts fits may = omega (arith, ap (λ z. bit (waits wish z)) may)
plain_fits (Refuse runs) s p rest counts fits may =
    omega (arith, ap (λ z. bit (waits (record { runs = runs; force = false }) z)) may)
plain_fits (Flag wish) s p rest counts fits may = omega (arith, ap bit may.0)
plain_fits (Enter wish) s p rest counts fits may = omega arith
plain_fits (Check wish) s p rest counts fits may = omega (arith, ap (λ b. bit (not b)) may.0)
plain_fits (Retreat wish) s p rest counts fits may = omega arith
plain_fits (Rest wish) s p rest counts fits may = omega arith
plain_fits (Return before well) s p rest counts fits may = omega arith
plain_fits (Finish well) s p rest counts fits may =
    omega (arith, progress_le s, none_behind well, counts.willing (ended well), zero_or _ fits.announced)
plain_fits (Look well) s p rest counts fits may = omega arith
plain_fits (Store well taken) s p rest counts fits may =
    omega (arith, progress_le s, none_behind well, counts.willing (ended well), counts.joining)
plain_fits (Depart taken) s p rest counts fits may = omega arith
plain_fits Leave s p rest counts fits may = omega arith

-- the arithmetic of the other steps
module _ (w : Word) (rest : Class → ℕ) where
  join_fits : (wish : Wish) → Fits w (λ x. rest x + weight x (Checked wish))
      → Fits w (λ x. rest x + weight x (Joined wish))
  unfolding weight
  join_fits wish fits = omega arith

  take_fits : (well : Bool) (us vs : List ℕ) (wish : Wish) (t : ℕ)
      → Fits w (λ x. rest x + (weight x (Scans well us) + weight x (Sleeps wish)))
      → Fits w (λ x. rest x + (weight x (Scans well vs) + weight x (Taken wish t)))
  unfolding weight
  take_fits well us vs wish t fits = omega arith

  wake_fits : (us vs : List ℕ) (wish : Wish) (t : ℕ)
      → Fits w (λ x. rest x + (weight x (Taken wish t) + weight x (Wakes us)))
      → Fits w (λ x. rest x + (weight x (Seeks wish) + weight x (Wakes vs)))
  unfolding weight
  wake_fits us vs wish t fits = omega arith

same_listed : (k : Plain) → weight Listed (to k) ≡ weight Listed (from k)
unfolding weight
same_listed (Begin wish) = refl
same_listed _ = refl

same_taken : (k : Plain) (t : ℕ) → taken_by t (to k) ≡ taken_by t (from k)
same_taken (Begin wish) t = refl
same_taken _ t = refl

same_wakes : (k : Plain) → wakes (to k) ≡ wakes (from k)
same_wakes (Begin wish) = refl
same_wakes _ = refl

-- each thread is to wake those that it has taken
abbrev AreToBeWoken : List Role → Type 0
AreToBeWoken rs = (t : ℕ) → IsListOf (taken_by t) (wakes_at (slice_get rs t)) rs

-- the same list by another name
by_name : (f : Role → ℕ) (rs : List Role) (us vs : List ℕ) → us ≡ vs → IsListOf f us rs → IsListOf f vs rs
by_name f rs us vs e lists = subst (λ q. IsListOf f q rs) e lists

module _ (rs : List Role) (t : ℕ) (a b : Role) (at : slice_get rs t ≡ Some a) where
  -- a role changes that is to wake the same
  wakes-same : wakes b ≡ wakes a → (z : ℕ) → wakes_at (slice_get rs z) ≡ wakes_at (slice_get (slice_set rs t b) z)
  wakes-same same z = ⊎_elim
      (λ e. ap (λ i. wakes_at (slice_get rs i)) e ∙ ap wakes_at at ∙ sym same
      ∙ sym (ap wakes_at (get-set_same rs t a b at)) ∙ sym (ap (λ i. wakes_at (slice_get (slice_set rs t b) i)) e))
      (λ ne. sym (ap wakes_at (get-set_other rs t z b (λ e. ne (sym e)))))
      (cases_eq z t)

  taken-same : AreToBeWoken rs → ((z : ℕ) → taken_by z b ≡ taken_by z a) → wakes b ≡ wakes a
      → AreToBeWoken (slice_set rs t b)
  taken-same taken kept same z = by_name (taken_by z) (slice_set rs t b) _ _ (wakes-same same z)
      (lists-same (taken_by z) _ rs t a b at (taken z) (kept z))

  fits-set : (w w' : Word) → Fits w (λ c. total c rs)
      → (Fits w (λ c. total c (slice_set rs t Idle) + weight c a)
      → Fits w' (λ c. total c (slice_set rs t Idle) + weight c b)) → Fits w' (λ c. total c (slice_set rs t b))
  fits-set w w' fits keeps = same_counts (Fits w') _ _ (λ c. sym (total-set rs t a b at c))
      (keeps (same_counts (Fits w) _ _ (total-at rs t a at) fits))

  module _ (v : ℕ) (x y : Role) (there : slice_get rs v ≡ Some x) (apart : t ≢ v) where
    pub still : slice_get (slice_set rs t b) v ≡ Some x
    still = get-set_other rs t v b apart ∙ there

    fits-set2 : (w : Word) → Fits w (λ c. total c rs)
        → (Fits w (λ c. total c (slice_set (slice_set rs t Idle) v Idle) + (weight c a + weight c x))
        → Fits w (λ c. total c (slice_set (slice_set rs t Idle) v Idle) + (weight c b + weight c y)))
        → Fits w (λ c. total c (slice_set (slice_set rs t b) v y))
    fits-set2 w fits keeps =
        let left : slice_get (slice_set rs t Idle) v ≡ Some x = get-set_other rs t v Idle apart ∙ there in
        same_counts (Fits w) _ _
        (λ c. omega (
          arith,
          sum_by-set_at (weight c) rs t a b at,
          sum_by-set_at (weight c) rs t a Idle at,
          sum_by-set_at (weight c) (slice_set rs t b) v x y still,
          sum_by-set_at (weight c) (slice_set rs t Idle) v x Idle left,
          idle_weighs c,
        ))
        (keeps (same_counts (Fits w) _ _
        (λ c. omega (
          arith,
          sum_by-set_at (weight c) rs t a Idle at,
          sum_by-set_at (weight c) (slice_set rs t Idle) v x
              Idle left,
          idle_weighs c,
        )) fits))

    lists-same2 : (f : Role → ℕ) (q : List ℕ) → IsListOf f q rs → f b ≡ f a → f y ≡ f x
        → IsListOf f q (slice_set (slice_set rs t b) v y)
    lists-same2 f q lists one two = lists-same f q (slice_set rs t b) v x y still (lists-same f q rs t a b at lists one)
        two

module _ (w : Word) (rs : List Role) (q : List ℕ) (sound : Sound w rs q) (t : ℕ) where
  sound_alone : (k : Plain) → slice_get rs t ≡ Some (from k) → May k w (λ c. total c rs)
      → Sound (written k w) (slice_set rs t (to k)) q
  sound_alone k at may = record {
    fits = fits-set rs t (from k) (to k) at w (written k w) sound.fits (λ before.
        plain_fits k w.state w.parked (λ c. total c (slice_set rs t Idle)) (counts_all (slice_set rs t Idle)) before
        (same_counts (May k w) (λ c. total c rs) _ (total-at rs t (from k) at) may));
    listed = lists-same (weight Listed) q rs t (from k) (to k) at sound.listed (same_listed k);
    taken = taken-same rs t (from k) (to k) at sound.taken (same_taken k) (same_wakes k);
  }

  sound_join : (wish : Wish) → slice_get rs t ≡ Some (Checked wish) → Sound w (slice_set rs t (Joined wish))
      (q ++ t ∷ [])
  unfolding weight
  sound_join wish at = record {
    fits = fits-set rs t _ _ at w w sound.fits (join_fits w _ wish);
    listed = lists-push (weight Listed) q rs t _ _ at sound.listed refl refl;
    taken = taken-same rs t _ _ at sound.taken (λ z. refl) refl;
  }

  sound_take : (well : Bool) (us : List ℕ) (v : ℕ) (wish : Wish) → slice_get rs t ≡ Some (Scans well us)
      → slice_get q 0 ≡ Some v → slice_get rs v ≡ Some (Sleeps wish)
      → Sound w (slice_set (slice_set rs t (Scans well (us ++ v ∷ []))) v (Taken wish t)) (remove q 0)
  unfolding weight
  sound_take well us v wish at first there = record {
    fits = fits-set2 rs t a b at v x y there apart w sound.fits (take_fits w _ well us (us ++ v ∷ []) wish t);
    listed = lists-drop (weight Listed) q (slice_set rs t b) v x y (still rs t a b at v x y there apart)
        (lists-same (weight Listed) q rs t a b at sound.listed refl) 0 first refl refl;
    taken = λ z. ⊎_elim (own z) (other z) (cases_eq z t);
  }
    where
      a : Role
      a = Scans well us

      b : Role
      b = Scans well (us ++ v ∷ [])

      x : Role
      x = Sleeps wish

      y : Role
      y = Taken wish t

      apart : t ≢ v
      apart e = let same : a ≡ x = same_Some a x (sym at ∙ ap (λ j. slice_get rs j) e ∙ there) in cc

      late : List Role
      late = slice_set (slice_set rs t b) v y

      own : (z : ℕ) → z ≡ t → IsListOf (taken_by z) (wakes_at (slice_get late z)) late
      own z e = subst (λ (i : ℕ). IsListOf (taken_by i) (wakes_at (slice_get late i)) late) (sym e)
          (by_name (taken_by t) late (us ++ v ∷ []) _
          (sym (ap wakes_at
          (get-set_other (slice_set rs t b) v t y (λ f. apart (sym f)) ∙ get-set_same rs t a b at)))
          (lists-push (taken_by t) us (slice_set rs t b) v x y (still rs t a b at v x y there apart)
          (lists-same (taken_by t) us rs t a b at (by_name (taken_by t) rs _ _ (ap wakes_at at) (sound.taken t)) refl)
          refl (counted-same t)))

      other : (z : ℕ) → z ≢ t → IsListOf (taken_by z) (wakes_at (slice_get late z)) late
      other z ne = by_name (taken_by z) late _ _
          (sym (ap wakes_at (get-set_other rs t z b (λ e. ne (sym e)))) ∙ wakes-same (slice_set rs t b) v x y
          (still rs t a b at v x y there apart) refl z)
          (lists-same2 rs t a b at v x y there apart (taken_by z) _ (sound.taken z) refl (counted-other z t ne))

  sound_wake : (v : ℕ) (left : List ℕ) (wish : Wish) → slice_get rs t ≡ Some (Wakes (v ∷ left))
      → slice_get rs v ≡ Some (Taken wish t)
      → Sound w (slice_set (slice_set rs v (Seeks wish)) t (Wakes left)) q
  unfolding weight
  sound_wake v left wish at there = record {
    fits = fits-set2 rs v x y there t a b at apart w sound.fits (wake_fits w _ (v ∷ left) left wish t);
    listed = lists-same2 rs v x y there t a b at apart (weight Listed) q sound.listed refl refl;
    taken = λ z. ⊎_elim (own z) (other z) (cases_eq z t);
  }
    where
      a : Role
      a = Wakes (v ∷ left)

      b : Role
      b = Wakes left

      x : Role
      x = Taken wish t

      y : Role
      y = Seeks wish

      apart : v ≢ t
      apart e = let same : x ≡ a = same_Some x a (sym there ∙ ap (λ j. slice_get rs j) e ∙ at) in cc

      late : List Role
      late = slice_set (slice_set rs v y) t b

      awake : slice_get (slice_set rs v y) t ≡ Some a
      awake = still rs v x y there t a b at apart

      own : (z : ℕ) → z ≡ t → IsListOf (taken_by z) (wakes_at (slice_get late z)) late
      own z e = subst (λ (i : ℕ). IsListOf (taken_by i) (wakes_at (slice_get late i)) late) (sym e)
          (by_name (taken_by t) late left _ (sym (ap wakes_at (get-set_same (slice_set rs v y) t a b awake)))
          (lists-same (taken_by t) left (slice_set rs v y) t a b awake
          (lists-drop (taken_by t) (v ∷ left) rs v x y there
          (by_name (taken_by t) rs _ _ (ap wakes_at at) (sound.taken t)) 0 refl (counted-same t) refl) refl))

      other : (z : ℕ) → z ≢ t → IsListOf (taken_by z) (wakes_at (slice_get late z)) late
      other z ne = by_name (taken_by z) late _ _
          (wakes-same rs v x y there refl z
          ∙ sym (ap wakes_at (get-set_other (slice_set rs v y) t z b (λ e. ne (sym e)))))
          (lists-same2 rs v x y there t a b at apart (taken_by z) _ (sound.taken z) (sym (counted-other z t ne)) refl)

-- every step keeps it sound
pub step_sound : (t : ℕ) (step : Step) (m : Once) → IsSound m → Allowed t step m → IsSound (after t step m)
step_sound t (Alone k) m sound may = sound_alone m.word m.roles m.queue sound t k may.0 may.1
step_sound t (Join wish) m sound may = sound_join m.word m.roles m.queue sound t wish may
step_sound t (Take well us v wish) m sound may = sound_take m.word m.roles m.queue sound t well us v wish may.0 may.1
    may.2
step_sound t (Wake v left wish) m sound may = sound_wake m.word m.roles m.queue sound t v left wish may.0 may.1

pub all_idle : (n u : ℕ) (r : Role) → slice_get (replicate n Idle) u ≡ Some r → r ≡ Idle
all_idle zero u r at = absurd (none-some r at)
all_idle (suc n) zero r at = sym (same_Some _ r at)
all_idle (suc n) (suc u) r at = all_idle n u r at

pub total-none : (f : Role → ℕ) (rs : List Role) → ((u : ℕ) (r : Role) → slice_get rs u ≡ Some r → f r ≡ 0)
    → sum_by f rs ≡ 0
total-none f [] none = refl
total-none f (r ∷ rs) none =
    omega (arith, sum_by-cons f r rs, none 0 r refl, total-none f rs (λ u x at. none (suc u) x at))

-- nobody is in a list where no role has a place there
none_listed : (f : Role → ℕ) (rs : List Role) → ((u : ℕ) (r : Role) → slice_get rs u ≡ Some r → f r ≡ 0)
    → IsListOf f [] rs
none_listed f rs none = record { count = sym (total-none f rs none); each = λ u. sym (at u (slice_get rs u) refl) }
  where
    at : (u : ℕ) (o : Option Role) → slice_get rs u ≡ o → at_index f o ≡ 0
    at u None e = refl
    at u (Some r) e = none u r e

rest_fits : (done : Bool) → Fits (record { state = if done then Done else New; parked = 0 }) (λ c. 0)
rest_fits true = omega arith
rest_fits false = omega arith

pub rest_sound : (done : Bool) (n : ℕ) → IsSound (unused done n)
rest_sound done n = record {
  fits = same_counts (Fits (record { state = if done then Done else New; parked = 0 })) (λ c. 0) _
      (λ c. sym (total-none (weight c) rs (λ u r at. ap (weight c) (all_idle n u r at) ∙ idle_weighs c)))
      (rest_fits done);
  listed = none_listed (weight Listed) rs (λ u r at. ap (weight Listed) (all_idle n u r at) ∙ idle_weighs Listed);
  taken = λ t. by_name (taken_by t) rs [] _ (sym (wakes_none (slice_get rs t) (λ r at. all_idle n t r at)))
      (none_listed (taken_by t) rs (λ u r at. ap (taken_by t) (all_idle n u r at)));
}
  where
    rs : List Role
    rs = replicate n Idle

    wakes_none : (o : Option Role) → ((r : Role) → o ≡ Some r → r ≡ Idle) → wakes_at o ≡ []
    wakes_none None idle = refl
    wakes_none (Some r) idle = ap wakes (idle r refl)

pub runs_sound : (steps : List (ℕ × Step)) (m n : Once) → IsSound m → IsRun m steps n → IsSound n
runs_sound [] m n sound run = subst IsSound (sym run) sound
runs_sound (e ∷ es) m n sound run = runs_sound es (after e.0 e.1 m) n (step_sound e.0 e.1 m sound run.0) run.1

pub always : (P : Once → Type 0) → ((m : Once) → IsSound m → P m) → AlwaysOfOnce P
always P holds done threads steps m run =
    holds m (runs_sound steps (unused done threads) m (rest_sound done threads) run)
