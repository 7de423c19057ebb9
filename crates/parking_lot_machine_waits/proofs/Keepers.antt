-- Which buckets the sections of variables keep.
use Rattle.std.proofs.Common.{◌≡◌, ◌⊎◌, ◌<◌, ◌≤◌, ◌||◌, ◌&&◌, ℕ, zero, suc, ◌+◌, ◌==◌, Bool, true, false, List, length}
use Rattle.std.proofs.Common.{Option}
use Rattle.std.proofs.Common.{Some, None, is_some, option_map, refl, sym, ap, ◌∙◌, subst, arith, eq-eqb, inl, inr}
use Rattle.std.specs.Option.{option_and_then}
use Rattle.std.proofs.lemmas.Bool.{cases_lt, eqb-false}
use Rattle.std.proofs.lemmas.Option.{slice_get_past}
use Rattle.parking_lot_core_model.specs.declared.place.Section.{Section}
use Rattle.parking_lot_core_model.specs.Buckets.{slot}
use Rattle.parking_lot_core_model.proofs.Kept.{by_eqb}
use Rattle.parking_lot_machine_sides.specs.Condvar.Machines.{State as Var}
use Rattle.parking_lot_machine_waits.specs.Joint.{Joint, any_keeps, bucket_in, buckets, is_entered, is_kept, is_that}
use Rattle.parking_lot_machine_waits.specs.Joint.{keeps}
use Rattle.parking_lot_machine_waits.specs.Joint.{keeps_at, var_in}

-- in no bucket past the last a section is open
pub none_past : (xs : List (Option Section)) (b : ℕ) → length xs ≤ b → is_some (slot xs b) ≡ false
none_past xs b high =
    ap (λ (o : Option (Option Section)). is_some (option_and_then (λ (s : Option Section). s) o))
    (slice_get_past xs b high)

pub both_ways : {X : Type 0} (b : Bool) → b ≡ true → b ≡ false → X
both_ways true e f = absurd cc
both_ways false e f = absurd cc

or_first : (a b : Bool) → a ≡ true → (a || b) ≡ true
or_first true b e = refl
or_first false b e = absurd cc

or_second : (a b : Bool) → b ≡ true → (a || b) ≡ true
or_second true b e = refl
or_second false b e = e

either : (a b : Bool) → (a || b) ≡ true → (a ≡ true) ⊎ (b ≡ true)
either true b e = inl refl
either false b e = inr e

both_of : (a b : Bool) → (a && b) ≡ true → (a ≡ true) × (b ≡ true)
both_of true b e = (refl, e)
both_of false b e = absurd cc

and_both : (a b : Bool) → a ≡ true → b ≡ true → (a && b) ≡ true
and_both true b e f = f
and_both false b e f = absurd cc

-- ONE OF THEM KEEPS A BUCKET

low_keeper : (m : ℕ) (vars : List (Option Var)) (v b : ℕ) → keeps m v (var_in vars v) b ≡ true → v < length vars
low_keeper m vars v b e = elim (cases_lt v (length vars)) [
  | inl low ↦ low
  | inr high ↦ absurd (never
      (sym (ap (λ (o : Option (Option Var)). keeps m v (option_and_then (λ (x : Option Var). x) o) b)
      (slice_get_past vars v high)) ∙ e))
]
  where
    never : false ≡ true → ⊥
    never f = cc

any_keeper : (m : ℕ) (vars : List (Option Var)) (v b n : ℕ) → v < n → keeps m v (var_in vars v) b ≡ true
    → any_keeps m vars b n ≡ true
any_keeper m vars v b zero low e = absurd (omega (arith, low))
any_keeper m vars v b (suc n) low e = by_eqb v n (any_keeps m vars b (suc n) ≡ true)
    (λ same. or_first (keeps m n (var_in vars n) b) (any_keeps m vars b n)
    (subst (λ (k : ℕ). keeps m k (var_in vars k) b ≡ true) same e))
    (λ other. or_second (keeps m n (var_in vars n) b) (any_keeps m vars b n)
    (any_keeper m vars v b n (omega (arith, low, eqb-false v n other)) e))

pub kept : (j : Joint) (v b : ℕ) → keeps_at j v b ≡ true → is_kept j b ≡ true
kept j v b e = any_keeper (buckets j) j.vars v b (length j.vars) (low_keeper (buckets j) j.vars v b e) e

keeper_in : (m : ℕ) (vars : List (Option Var)) (b n : ℕ) → any_keeps m vars b n ≡ true → (v : ℕ)
    × (keeps m v (var_in vars v) b ≡ true)
keeper_in m vars b zero e = absurd cc
keeper_in m vars b (suc n) e = go (keeps m n (var_in vars n) b) refl e (keeper_in m vars b n)
  where
    go : (x : Bool) → keeps m n (var_in vars n) b ≡ x → (x || any_keeps m vars b n) ≡ true
        → (any_keeps m vars b n ≡ true → (v : ℕ) × (keeps m v (var_in vars v) b ≡ true))
        → (v : ℕ) × (keeps m v (var_in vars v) b ≡ true)
    go true is e later = (n, is)
    go false is e later = later e

pub keeper : (j : Joint) (b : ℕ) → is_kept j b ≡ true → (v : ℕ) × (keeps_at j v b ≡ true)
keeper j b e = keeper_in (buckets j) j.vars b (length j.vars) e

-- one more of them, for the loop that looks
pub none_more : (m : ℕ) (vars : List (Option Var)) (b n : ℕ) → any_keeps m vars b n ≡ false
    → keeps m n (var_in vars n) b ≡ false → any_keeps m vars b (n + 1) ≡ false
none_more m vars b n e none =
    let more : n + 1 ≡ suc n = omega arith in
    ap (any_keeps m vars b) more ∙ (ap (λ (x : Bool). x || any_keeps m vars b n) none ∙ e)

-- WHO KEEPS ONE IS IN A SECTION

pub is_in : (m v : ℕ) (o : Option Var) (b : ℕ) → keeps m v o b ≡ true → is_entered o ≡ true
is_in m v None b e = absurd cc
is_in m v (Some x) b e = (both_of (is_some x.inside)
    (is_that (Some (bucket_in m v)) b || is_that (option_map (bucket_in m) x.beside) b) e).0

-- a variable keeps no more than it kept
abbrev pub Fewer : Var → Var → Type 0
Fewer x y = is_some y.inside ≡ true → (is_some x.inside ≡ true) × (y.beside ≡ x.beside)

pub fewer_keeps : (m v : ℕ) (x y : Var) (b : ℕ) → Fewer x y → keeps m v (Some y) b ≡ true → keeps m v (Some x) b ≡ true
fewer_keeps m v x y b fewer e =
    let now = both_of (is_some y.inside)
    (is_that (Some (bucket_in m v)) b || is_that (option_map (bucket_in m) y.beside) b) e in
    let was = fewer now.0 in
    and_both (is_some x.inside) _ was.0
    (subst (λ (o : Option ℕ). (is_that (Some (bucket_in m v)) b || is_that (option_map (bucket_in m) o) b) ≡ true) was.1
    now.1)

-- it keeps these two alone
pub which_kept : (m v : ℕ) (y : Var) (b : ℕ) → keeps m v (Some y) b ≡ true
    → (is_that (Some (bucket_in m v)) b ≡ true) ⊎ (is_that (option_map (bucket_in m) y.beside) b ≡ true)
which_kept m v y b e = either _ _ (both_of (is_some y.inside)
    (is_that (Some (bucket_in m v)) b || is_that (option_map (bucket_in m) y.beside) b) e).1

-- who is in with that mutex beside keeps the mutex's bucket
pub keeps_beside : (m v : ℕ) (x : Var) (lock : ℕ) → is_some x.inside ≡ true → x.beside ≡ Some lock
    → keeps m v (Some x) (bucket_in m lock) ≡ true
keeps_beside m v x lock some at = and_both (is_some x.inside) _ some
    (or_second (is_that (Some (bucket_in m v)) (bucket_in m lock)) _
    (ap (λ (o : Option ℕ). is_that (option_map (bucket_in m) o) (bucket_in m lock)) at ∙ same (bucket_in m lock)))
  where
    same : (n : ℕ) → (n == n) ≡ true
    same n = eq-eqb n n refl
