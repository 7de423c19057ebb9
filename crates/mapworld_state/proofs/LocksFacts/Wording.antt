-- A desk counts the guards that its shard's word counts.
use Rattle.std.proofs.Common.{◌≡◌, ◌≢◌, ℕ, zero, suc, ◌+◌, ◌/◌, ◌%◌, ◌<◌, ◌≤◌, inl, inr, Bool, true, false, cond, List}
use Rattle.std.proofs.Common.{[], ◌∷◌, length, map, Option, Some, None, count_by, slice_get, refl, sym, ap, ◌∙◌, subst}
use Rattle.std.proofs.Common.{arith}
use Rattle.std.specs.List.{range_with_len, sum_by}
use Rattle.std.specs.Option.{option_and_then}
use Rattle.std.proofs.lemmas.Bool.{cases_eq, cases_lt, eq-eqb, eqb-true}
use Rattle.std.proofs.lemmas.List.Sums.{sum_by-cons}
use Rattle.std.proofs.lemmas.Option.{none-some}
use Rattle.lock_api_desk.specs.declared.mode.Mode.{Mode}
use Rattle.lock_api_desk.specs.declared.mode.Mode.TheVariants as held
use Rattle.lock_api_desk.specs.Desk.{DeskState}
use Rattle.lock_api_desk.specs.Guards.{Guard, holds, is_mode}
use Rattle.parking_lot_rules.specs.Any.{AnySound}
use Rattle.parking_lot_rules.specs.Classes.{Class, Pending, Readers, Strange, Upgraders, Writers, bit, total, weight}
use Rattle.parking_lot_rules.specs.Lock.{IsSound}
use Rattle.parking_lot_machine_calls.specs.declared.calls.OwnMode.TheVariants as own
use Rattle.parking_lot_machine_calls.specs.CallViews.{ModesAreWeighed, rw_mode}
use Rattle.parking_lot_machine.specs.Rows.{State, rw_lock_at, rw_role_at, state, word_at}
use Rattle.mapworld_state.specs.Locks.Counts.{CountsAsWord, NobodyIsPending}
use Rattle.mapworld_state.specs.Locks.Fits.{LocksFit}
use Rattle.mapworld_state.specs.Locks.Seats.{guards_of, seat_of}
use Rattle.mapworld_state.specs.Locks.Views.{Shown, held_at, mode_at}
use Rattle.mapworld_state.proofs.LocksFacts.Counting.{sum_of_none, sum_same, sum_to, weigh, weigh_parts}
use Rattle.mapworld_state.proofs.LocksFacts.Ending.{held_by_role}
use Rattle.mapworld_state.proofs.LocksFacts.Handing.{is_rw}
use Rattle.mapworld_state.proofs.LocksFacts.Lists.{beyond_all, one_of_all}
use Rattle.mapworld_state.proofs.LocksFacts.Seating.{each_mode, half}
use Rattle.mapworld_state.proofs.LocksFacts.Together.{holders_are_threads}
use Rattle.mapworld_state.proofs.LocksFacts.Weighing.{mode_weight, never_upgrades, pending_weight, reads_once, weighed}

-- SUMS

sum_front : (f : ℕ → ℕ) (n : ℕ) → sum_to f (suc n) ≡ f 0 + sum_to (λ t. f (suc t)) n
sum_front f zero = omega arith
sum_front f (suc n) = omega (arith, sum_front f n)

sum_from : {R : Type 0} (g : R → ℕ) (f : ℕ → R) (a n : ℕ) → sum_by g (map f (range_with_len a n)) ≡ sum_to
    (λ t. g (f (a + t))) n
sum_from g f a zero = refl
sum_from g f a (suc n) =
    sum_by-cons g (f a) (map f (range_with_len (a + 1) n))
    ∙ omega (
      arith,
      sum_from g f (a + 1) n,
      sum_front (λ t. g (f (a + t))) n,
      first,
      sum_same (λ t. g (f ((a + 1) + t))) (λ t. g (f (a + suc t))) n (λ t low. ap (λ k. g (f k)) (omega arith)),
    )
  where
    first : g (f (a + 0)) ≡ g (f a)
    first = ap (λ k. g (f k)) (omega arith)

sum_all : {R : Type 0} (g : R → ℕ) (f : ℕ → R) (n : ℕ) → sum_by g (map f (range_with_len 0 n)) ≡ sum_to (λ t. g (f t)) n
sum_all g f n = sum_from g f 0 n ∙ sum_same (λ t. g (f t)) (λ t. g (f (0 + t))) n
    (λ t low. ap (λ k. g (f k)) (omega arith))

sum_both : (f g : ℕ → ℕ) (n : ℕ) → sum_to (λ t. f t + g t) n ≡ sum_to f n + sum_to g n
sum_both f g zero = refl
sum_both f g (suc n) = omega (arith, sum_both f g n)

each_zero : (f : ℕ → ℕ) (n t : ℕ) → sum_to f n ≡ 0 → t < n → f t ≡ 0
each_zero f zero t e low = absurd (omega (arith, low))
each_zero f (suc n) t e low = elim (cases_eq t n) [
  | inl eq ↦ (let last : f n ≡ 0 = omega (arith, e) in ap f eq ∙ last)
  | inr ne ↦ each_zero f n t (omega (arith, e)) (omega (arith, low, ne))
]

-- GUARDS

weigh_count : (p : Guard → Bool) (gs : List Guard) → count_by p gs ≡ weigh (λ g. cond (p g) 1 0) gs
weigh_count p [] = refl
weigh_count p (g ∷ gs) = sum_by-cons (λ x. cond (p x) 1 0) g gs ∙ ap (λ n. cond (p g) 1 0 + n) (weigh_count p gs)

seat_weight : (m : Mode) (t : ℕ) (o : Option Mode) → weigh (λ g. cond (holds m g) 1 0) (seat_of t o) ≡ mode_weight m o
seat_weight m t None = refl
seat_weight m t (Some a) = by (is_mode m a)
  where
    by : (b : Bool) → cond b 1 0 + 0 ≡ bit b
    by true = refl
    by false = refl

module _ (weighs : ModesAreWeighed) (sh : Shown) (fit : LocksFit sh) (i : ℕ) (desk : DeskState (Unit {0}))
    (at : slice_get sh.desks i ≡ Some desk) where
  abbrev s : State
  s = state sh.rows

  abbrev n : ℕ
  n = length s.calls

  seated : (t : ℕ) → guards_of t desk.guards ≡ seat_of t (held_at s i t)
  seated = (fit.desks_fit i desk at).seated

  guards_counted : (m : Mode) → count_by (holds m) desk.guards ≡ sum_to (λ t. mode_weight m (held_at s i t)) n
  guards_counted m =
      weigh_count (holds m) desk.guards
      ∙ weigh_parts (λ g. cond (holds m g) 1 0) n desk.guards
      (λ k g e. holders_are_threads s i fit.plain.kinds g.party g.mode
      (each_mode (held_at s i) desk.guards (half (held_at s i) desk.guards seated) k g e))
      ∙ sum_same (λ t. mode_weight m (held_at s i t)) (λ t. weigh (λ g. cond (holds m g) 1 0) (guards_of t desk.guards))
      n
      (λ t low. ap (weigh (λ g. cond (holds m g) 1 0)) (seated t) ∙ seat_weight m t (held_at s i t))

  -- WHAT THE WORD COUNTS

  sound : IsSound (rw_lock_at s i)
  sound = subst AnySound (is_rw s fit.plain.kinds i) (fit.fits.rules.sound.sound i)

  counted : (c : Class) → total c (rw_lock_at s i).roles ≡ sum_to (λ t. weight c (rw_role_at s i t)) n
  counted c = sum_all (weight c) (rw_role_at s i) n

  proper : (t : ℕ) → t < n → weight Strange (rw_role_at s i t) ≡ 0
  proper t low = each_zero (λ v. weight Strange (rw_role_at s i v)) n t (sym (counted Strange) ∙ sound.fits.proper) low

  role_weight : (t : ℕ) → t < n
      → (weight Readers (rw_role_at s i t) + weight Upgraders (rw_role_at s i t) ≡ mode_weight held.Shared
      (held_at s i t))
      × (weight Writers (rw_role_at s i t) ≡ mode_weight held.Exclusive (held_at s i t))
      × (weight Pending (rw_role_at s i t) ≡ pending_weight (rw_mode (rw_role_at s i t)))
  role_weight t low =
      let same = held_by_role s i t fit.plain.kinds low in
      let r = rw_role_at s i t in
      let w = weighed (rw_mode r) (weight Readers r) (weight Upgraders r) (weight Pending r) (weight Writers r)
      (weighs.rw r (proper t low)) (reads_once s fit.fits fit.plain i t)
      (λ e. never_upgrades s fit.fits fit.plain i t low (same ∙ e)) in
      (w.0 ∙ ap (mode_weight held.Shared) (sym same), w.1 ∙ ap (mode_weight held.Exclusive) (sym same), w.2)

  readers : count_by (holds held.Shared) desk.guards ≡ word_at s i / 16
  readers =
      guards_counted held.Shared
      ∙ sym (sum_same (λ t. mode_weight held.Shared (held_at s i t))
      (λ t. weight Readers (rw_role_at s i t) + weight Upgraders (rw_role_at s i t)) n
      (λ t low. (role_weight t low).0))
      ∙ sum_both (λ t. weight Readers (rw_role_at s i t)) (λ t. weight Upgraders (rw_role_at s i t)) n
      ∙ sym (sound.fits.readers ∙ ap (λ k. k + total Upgraders (rw_lock_at s i).roles) (counted Readers)
      ∙ ap (λ k. sum_to (λ t. weight Readers (rw_role_at s i t)) n + k) (counted Upgraders))

  abbrev pending : ℕ
  pending = sum_to (λ t. weight Pending (rw_role_at s i t)) n

  writer : word_at s i / 8 % 2 ≡ pending + count_by (holds held.Exclusive) desk.guards
  writer = sound.fits.writer ∙ ap (λ k. k + total Writers (rw_lock_at s i).roles) (counted Pending)
      ∙ ap (λ k. pending + k) writers
    where
      writers : total Writers (rw_lock_at s i).roles ≡ count_by (holds held.Exclusive) desk.guards
      writers = counted Writers ∙ sum_same (λ t. mode_weight held.Exclusive (held_at s i t))
          (λ t. weight Writers (rw_role_at s i t)) n (λ t low. (role_weight t low).1)
          ∙ sym (guards_counted held.Exclusive)

  -- a thread is pending as its role is
  mode_of_role : (t : ℕ) → t < n → mode_at s i t ≡ rw_mode (rw_role_at s i t)
  mode_of_role t low = ap (option_and_then rw_mode) (one_of_all (rw_role_at s i) n t low)

  no_threads : (t : ℕ) → n ≤ t → mode_at s i t ≢ Some own.Pending
  no_threads t past e =
      none-some own.Pending (sym (ap (option_and_then rw_mode) (beyond_all (rw_role_at s i) n t past)) ∙ e)

  nobody : pending ≡ 0 → NobodyIsPending s i
  nobody none t e = elim (cases_lt t n) [
    | inl low ↦
        let weight_one : weight Pending (rw_role_at s i t) ≡ 1 = (role_weight t low).2
        ∙ ap pending_weight (sym (mode_of_role t low) ∙ e) in
        absurd (omega (arith, weight_one, each_zero (λ v. weight Pending (rw_role_at s i v)) n t none low))
    | inr past ↦ no_threads t past e
  ]

  not_pending : (o : Option _) → o ≢ Some own.Pending → pending_weight o ≡ 0
  not_pending None ne = refl
  not_pending (Some own.Shared) ne = refl
  not_pending (Some own.Upgradable) ne = refl
  not_pending (Some own.Pending) ne = absurd (ne refl)
  not_pending (Some own.Exclusive) ne = refl

  none_pending : NobodyIsPending s i → pending ≡ 0
  none_pending none = sum_same (λ t. 0) (λ t. weight Pending (rw_role_at s i t)) n
      (λ t low. (role_weight t low).2 ∙ not_pending (rw_mode (rw_role_at s i t)) (λ e. none t (mode_of_role t low ∙ e)))
      ∙ sum_of_none (λ t. 0) n (λ t. refl)

  pub counts_as_word : CountsAsWord s i desk
  counts_as_word = record {
    readers = readers;
    one = omega (arith, writer, sound.fits.one);
    writer = (
      λ one. (
        eq-eqb (word_at s i / 8 % 2) 1 (omega (arith, writer, sound.fits.one, one)),
        nobody (omega (arith, writer, sound.fits.one, one)),
      ),
      λ h. omega (arith, writer, eqb-true (word_at s i / 8 % 2) 1 h.0, none_pending h.1),
    );
  }
