-- Sound lots, made of lists of waiters.
use Rattle.std.proofs.Common.{◌≡◌, ◌∙◌, ◌∷◌, ◌+◌, ◌<◌, ◌≤◌, ◌==◌, ◌⊎◌, [], List, refl, sym, ap, Bool, true}
use Rattle.std.proofs.Common.{false}
use Rattle.std.proofs.Common.{cond, ℕ, zero, suc, Option, Some, None, arith, eqb-true, eq-eqb, count_by}
use mathlib.Core.Logic.{inl, inr}
use Rattle.std.specs.Option.{option_map_or}
use Rattle.std.proofs.lemmas.Bool.{false≢true}
use Rattle.std.proofs.lemmas.List.Sums.{sum_by-cons}
use Rattle.parking_lot_core_model.specs.declared.place.Place.{Place}
use Rattle.parking_lot_core_model.specs.declared.place.Place.TheVariants.{Running, Waiting, Taken}
use Rattle.parking_lot_core_model.specs.declared.place.Waiter.{Waiter}
use Rattle.parking_lot_core_model.specs.declared.parking.UnparkToken.{UnparkToken}
use Rattle.parking_lot_core_model.specs.Machine.{Machine, is_thread}
use Rattle.parking_lot_core_model.specs.Places.{place_at, is_held}
use Rattle.parking_lot_core_model.specs.Sound.{IsOpen, times_at}
use Rattle.parking_lot_core.specs.declared.chain.Waiting as chain
use Rattle.parking_lot_core.specs.declared.chain.Wanted.TheVariants.{Thread}
use Rattle.parking_lot_core.specs.Waits.{queue, often, any, fits, Apart}
use Rattle.parking_lot_core.specs.Shared.{IsQuiet}
use Rattle.parking_lot_core.proofs.Queues.{by_test}

-- the places of so many threads
abbrev pub seats : (ℕ → Place) → ℕ → List (Option Place)
seats f zero = []
seats f (suc n) = Some (f 0) ∷ seats (λ t. f (suc t)) n

pub seat_at : (f : ℕ → Place) (n t : ℕ) → t < n → place_at (seats f n) t ≡ Some (f t)
seat_at f zero t h = absurd (omega arith)
seat_at f (suc n) zero h = refl
seat_at f (suc n) (suc t) h = seat_at (λ u. f (suc u)) n t (omega arith)

seat_or : (f : ℕ → Place) (n t : ℕ)
    → (place_at (seats f n) t ≡ Some (f t)) ⊎ ((place_at (seats f n) t ≡ None) × (n ≤ t))
seat_or f zero t = inr (refl, omega arith)
seat_or f (suc n) zero = inl refl
seat_or f (suc n) (suc t) = further (seat_or (λ u. f (suc u)) n t)
  where
    further : (place_at (seats (λ u. f (suc u)) n) t ≡ Some (f (suc t)))
        ⊎ ((place_at (seats (λ u. f (suc u)) n) t ≡ None) × (n ≤ t))
        → (place_at (seats f (suc n)) (suc t) ≡ Some (f (suc t))) ⊎ ((place_at (seats f (suc n)) (suc t)
        ≡ None) × (suc n ≤ suc t))
    further (inl e) = inl e
    further (inr (e, h)) = inr (e, omega arith)

-- a lot in which no section is open
abbrev pub lot_with : (ℕ → Place) → (ℕ → List Waiter) → ℕ → Machine
lot_with f queues n = record {
  number = 0;
  max_threads = n;
  paired = false;
  sleeps = 0;
  queues = queues;
  resources = λ thread. [];
  places = seats f n;
  buckets = 16;
  sections = λ bucket. None;
  inside = λ thread. None;
}

none≢some : {X : Type 0} {x : X} → None ≡ Some x → ⊥
none≢some e = cc

module _ (f : ℕ → Place) (queues : ℕ → List Waiter) (n : ℕ)
    (waits : (t key : ℕ) → count_by (is_thread t) (queues key) ≡ times_at key (Some (f t)))
    (free : (t key : ℕ) → is_held key (f t) ≡ false)
    (few : (t key : ℕ) → n ≤ t → count_by (is_thread t) (queues key) ≡ 0) where
  abbrev m : Machine
  m = lot_with f queues n

  waits_there : (t key : ℕ) → count_by (is_thread t) (queues key) ≡ times_at key (place_at (seats f n) t)
  waits_there t key = both (seat_or f n t)
    where
      both : (place_at (seats f n) t ≡ Some (f t)) ⊎ ((place_at (seats f n) t ≡ None) × (n ≤ t))
          → count_by (is_thread t) (queues key) ≡ times_at key (place_at (seats f n) t)
      both (inl e) = waits t key ∙ ap (times_at key) (sym e)
      both (inr (e, h)) = few t key h ∙ ap (times_at key) (sym e)

  held_there : (t key : ℕ) → option_map_or (is_held key) (place_at (seats f n) t) false ≡ true → IsOpen m key
  held_there t key h = both (seat_or f n t)
    where
      both : (place_at (seats f n) t ≡ Some (f t)) ⊎ ((place_at (seats f n) t ≡ None) × (n ≤ t)) → IsOpen m key
      both (inl e) = absurd (false≢true (sym (free t key)
          ∙ (ap (λ o. option_map_or (is_held key) o false) (sym e) ∙ h)))
      both (inr (e, l)) = absurd (false≢true (ap (λ o. option_map_or (is_held key) o false) (sym e) ∙ h))

  pub quiet : IsQuiet (lot_with f queues n)
  quiet = (
    record {
      waits = waits_there;
      held = held_there;
      inside = λ b section thread e. absurd (none≢some e);
      near = λ thread key e. absurd (none≢some e);
      fit = record {
        some = omega arith;
        bucket = λ b section e. absurd (none≢some e);
        owner = λ b section thread e. absurd (none≢some e);
        entered = λ thread key e. absurd (none≢some e);
      };
      owned = λ thread e. refl;
    },
    λ bucket. refl,
  )

-- THE LOT OF A LIST

-- where a thread stands, and whether its deadline has come
abbrev pub standing : (ℕ → Bool) → List chain.Waiting → ℕ → Place
standing late [] t = Running
standing late (w ∷ ws) t =
    cond (w.waiter.thread == t) (Waiting w.key (record {
      mark = 0;
      timed = w.timed;
      late =
          late t;
    })) (standing late ws t)

-- one more in front
count_cons : (t : ℕ) (w : Waiter) (ws : List Waiter)
    → count_by (is_thread t) (w ∷ ws) ≡ cond {A = ℕ} (w.thread == t) 1 0 + count_by (is_thread t) ws
count_cons t w ws = sum_by-cons (λ x. cond {A = ℕ} (is_thread t x) 1 0) w ws

-- who isn't there stands in no list
unlisted : (t key : ℕ) (xs : List chain.Waiting) → often t xs ≡ 0 → count_by (is_thread t) (queue xs key) ≡ 0
unlisted t key [] e = refl
unlisted t key (x ∷ xs) e =
    let i = unlisted t key xs in
    by_test (x.waiter.thread == t) (count_by (is_thread t) (queue (x ∷ xs) key) ≡ 0)
    (λ h. absurd (let n : cond {A = ℕ} (x.waiter.thread == t) 1 0 ≡ 1 = ap (λ b. cond {A = ℕ} b 1 0) h in omega arith))
    (λ h.
    let z : often t xs ≡ 0 = (let n : cond {A = ℕ} (x.waiter.thread == t) 1 0
    ≡ 0 = ap (λ b. cond {A = ℕ} b 1 0) h in omega arith) in
    let c : count_by (is_thread t) (x.waiter ∷ queue xs key) ≡ 0 =
    (let m = count_cons t x.waiter (queue xs key) in let n : cond {A = ℕ} (x.waiter.thread == t) 1 0
    ≡ 0 = ap (λ b. cond {A = ℕ} b 1 0) h in let y = i z in omega arith) in
    either (x.key == key) c (i z))
  where
    either : (b : Bool) → count_by (is_thread t) (x.waiter ∷ queue xs key) ≡ 0
        → count_by (is_thread t) (queue xs key) ≡ 0
        → count_by (is_thread t) (cond b (x.waiter ∷ queue xs key) (queue xs key)) ≡ 0
    either true c d = c
    either false c d = d

-- a thread that stands in a list once is counted there
module _ (late : ℕ → Bool) (t key : ℕ) where
  pub counted : (xs : List chain.Waiting) → often t xs ≤ 1
      → count_by (is_thread t) (queue xs key) ≡ times_at key (Some (standing late xs t))
  counted [] h = refl
  counted (x ∷ xs) h =
      let i = counted xs in
      let s : ℕ → Place = λ u. standing late xs u in
      let here = Waiting x.key (record { mark = 0; timed = x.timed; late = late t }) in
      by_test (x.waiter.thread == t)
      (count_by (is_thread t) (queue (x ∷ xs) key) ≡ times_at key (Some (standing late (x ∷ xs) t)))
      (λ e.
      let one : cond {A = ℕ} (x.waiter.thread == t) 1 0 ≡ 1 = ap (λ b. cond {A = ℕ} b 1 0) e in
      let none = unlisted t key xs (omega arith) in
      let more = count_cons t x.waiter (queue xs key) in
      let c : count_by (is_thread t) (x.waiter ∷ queue xs key) ≡ 1 = omega arith in
      both (x.key == key) c none ∙ sym (ap (λ b. times_at key (Some (cond b here (s t)))) e))
      (λ e.
      let zero : cond {A = ℕ} (x.waiter.thread == t) 1 0 ≡ 0 = ap (λ b. cond {A = ℕ} b 1 0) e in
      let j = i (omega arith) in
      let more = count_cons t x.waiter (queue xs key) in
      let c : count_by (is_thread t) (x.waiter ∷ queue xs key) ≡ count_by (is_thread t) (queue xs key) = omega arith in
      same (x.key == key) c ∙ (j ∙ sym (ap (λ b. times_at key (Some (cond b here (s t)))) e)))
    where
      both : (b : Bool) → count_by (is_thread t) (x.waiter ∷ queue xs key) ≡ 1
          → count_by (is_thread t) (queue xs key) ≡ 0
          → count_by (is_thread t) (cond b (x.waiter ∷ queue xs key) (queue xs key)) ≡ cond b 1 0
      both true c d = c
      both false c d = d

      same : (b : Bool) → count_by (is_thread t) (x.waiter ∷ queue xs key) ≡ count_by (is_thread t) (queue xs key)
          → count_by (is_thread t) (cond b (x.waiter ∷ queue xs key) (queue xs key))
          ≡ count_by (is_thread t) (queue xs key)
      same true c = c
      same false c = refl

never_held : (late : ℕ → Bool) (key t : ℕ) (xs : List chain.Waiting) → is_held key (standing late xs t) ≡ false
never_held late key t [] = refl
never_held late key t (x ∷ xs) = both (never_held late key t xs) (x.waiter.thread == t)
  where
    both : is_held key (standing late xs t) ≡ false → (b : Bool)
        → is_held key (cond b (Waiting x.key (record {
          mark = 0;
          timed = x.timed;
          late =
              late t;
        })) (standing late xs t)) ≡ false
    both i true = refl
    both i false = i

-- more than each of its threads
abbrev pub bound : List chain.Waiting → ℕ
bound [] = 0
bound (x ∷ xs) = x.waiter.thread + 1 + bound xs

pub beyond : (t : ℕ) (xs : List chain.Waiting) → bound xs ≤ t → often t xs ≡ 0
beyond t [] h = refl
beyond t (x ∷ xs) h =
    by_test (x.waiter.thread == t) (often t (x ∷ xs) ≡ 0)
    (λ e. absurd (let same = eqb-true x.waiter.thread t e in omega arith))
    (λ e. let zero : cond {A = ℕ} (x.waiter.thread == t) 1 0
    ≡ 0 = ap (λ b. cond {A = ℕ} b 1 0) e in let i = beyond t xs (omega arith) in omega arith)

-- it has so many places more
abbrev pub lot_of : (ℕ → Bool) → ℕ → List chain.Waiting → Machine
lot_of late more xs = lot_with (standing late xs) (queue xs) (bound xs + more)

pub lot_quiet : (late : ℕ → Bool) (more : ℕ) (xs : List chain.Waiting) → Apart xs → IsQuiet (lot_of late more xs)
lot_quiet late more xs apart =
    quiet (standing late xs) (queue xs) (bound xs + more) (λ t key. counted late t key xs (apart t))
    (λ t key. never_held late key t xs) (λ t key h. unlisted t key xs (beyond t xs (omega arith)))

-- who isn't there runs
pub runs_there : (late : ℕ → Bool) (xs : List chain.Waiting) (t : ℕ) → any (fits (Thread t)) xs ≡ false
    → standing late xs t ≡ Running
runs_there late [] t e = refl
runs_there late (x ∷ xs) t e = both (runs_there late xs t) (x.waiter.thread == t) e
  where
    both : (any (fits (Thread t)) xs ≡ false → standing late xs t ≡ Running) → (b : Bool)
        → cond b true (any (fits (Thread t)) xs) ≡ false
        → cond b (Waiting x.key (record { mark = 0; timed = x.timed; late = late t })) (standing late xs t) ≡ Running
    both i true e = absurd (false≢true (sym e))
    both i false e = i e

-- THE LOT OF A THREAD THAT WAS TOLD A TOKEN

abbrev pub told_place : ℕ → UnparkToken → ℕ → Place
told_place thread token t =
    cond (thread == t) (Taken token 0 (record { mark = 0; timed = false; late = false }) true) Running

abbrev pub told_lot : ℕ → UnparkToken → Machine
told_lot thread token = lot_with (told_place thread token) (λ key. []) (thread + 1)

pub told_quiet : (thread : ℕ) (token : UnparkToken) → IsQuiet (told_lot thread token)
told_quiet thread token =
    quiet (told_place thread token) (λ key. []) (thread + 1) (λ t key. nowhere key (thread == t))
    (λ t key. free key (thread == t)) (λ t key h. refl)
  where
    nowhere : (key : ℕ) (b : Bool) → 0 ≡ times_at key (Some
        (cond b (Taken token 0 (record { mark = 0; timed = false; late = false }) true) Running))
    nowhere key true = refl
    nowhere key false = refl

    free : (key : ℕ) (b : Bool)
        → is_held key (cond b (Taken token 0 (record { mark = 0; timed = false; late = false }) true) Running) ≡ false
    free key true = refl
    free key false = refl

pub told_there : (thread : ℕ) (token : UnparkToken)
    → place_at (told_lot thread token).places thread
    ≡ Some (Taken token 0 (record { mark = 0; timed = false; late = false }) true)
told_there thread token = seat_at (told_place thread token) (thread + 1) thread (omega arith)
    ∙ ap (λ b. Some (cond b (Taken token 0 (record { mark = 0; timed = false; late = false }) true) Running))
    (eq-eqb thread thread refl)
