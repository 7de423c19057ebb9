-- How many holds are out as guards come, go and change, and which holds go together.
use Rattle.std.proofs.Common.{◌≡◌, ℕ, zero, suc, ◌+◌, ◌-◌, ◌<◌, ◌≤◌, Bool, true, false, cond, not, ◌&&◌, ◌==◌, inl, inr}
use Rattle.std.proofs.Common.{nat_lt, List, [], ◌∷◌, ◌++◌, get_or, set, remove, Some, slice_get, refl, sym, ap, ◌∙◌}
use Rattle.std.proofs.Common.{arith}
use Rattle.std.specs.List.{count_by, sum_by}
use Rattle.std.proofs.lemmas.Option.{get_or_from_slice_get, slice_get_within, none-some, same_Some}
use Rattle.std.proofs.lemmas.Bool.{ltb-true, lt-ltb, leb-false, eqb-true, eq-eqb, cases_lt, and_parts, and_from}
use Rattle.std.proofs.lemmas.Bool.{false≢true}
use Rattle.std.proofs.lemmas.List.Sums.{sum_by-append, sum_by-cons, sum_by-set}
use Rattle.lock_api_desk.specs.declared.mode.Mode.{Mode}
use Rattle.lock_api_desk.specs.declared.mode.Mode.TheVariants.{Shared, Exclusive, Upgradable}
use Rattle.lock_api_desk.specs.Guards.{Guard, excludes, is_reader, is_mode, is_held, holds, excluded, readers, is_full}
use Rattle.lock_api_desk.specs.Out.{Out, admits, one_more, one_less, readers_out, count_in, IsOrderly, out_of}
use Rattle.lock_api_desk.specs.Entries.{less, more}
use Rattle.lock_api_desk.proofs.Lists.{count_by-none}

-- a hold that is admitted goes with the others
pub orderly_more : (limit : ℕ) (mode : Mode) (out : Out) → IsOrderly limit out → admits limit mode out ≡ true
    → IsOrderly limit (one_more mode out)
orderly_more limit Shared out o a =
    let parts = and_parts (out.exclusive == 0) (nat_lt (readers_out out) limit) a in
    let free = eqb-true out.exclusive 0 parts.0 in
    let room = ltb-true (readers_out out) limit parts.1 in
    record {
      one_exclusive = o.one_exclusive;
      one_upgradable = o.one_upgradable;
      alone = λ h. absurd (omega arith);
      within = omega arith;
      some = o.some;
    }
orderly_more limit Exclusive out o a =
    let parts = and_parts (out.exclusive == 0) (readers_out out == 0) a in
    let free = eqb-true out.exclusive 0 parts.0 in
    let none = eqb-true (readers_out out) 0 parts.1 in
    record {
      one_exclusive = omega arith;
      one_upgradable = o.one_upgradable;
      alone = λ h. none;
      within = o.within;
      some = o.some;
    }
orderly_more limit Upgradable out o a =
    let parts = and_parts ((out.exclusive + out.upgradable) == 0) (nat_lt (readers_out out) limit) a in
    let free = eqb-true (out.exclusive + out.upgradable) 0 parts.0 in
    let room = ltb-true (readers_out out) limit parts.1 in
    record {
      one_exclusive = o.one_exclusive;
      one_upgradable = omega arith;
      alone = λ h. absurd (omega arith);
      within = omega arith;
      some = o.some;
    }

-- without one of them the rest go together
pub orderly_less : (limit : ℕ) (mode : Mode) (out : Out) → IsOrderly limit out → IsOrderly limit (one_less mode out)
orderly_less limit Shared out o = record {
  one_exclusive = o.one_exclusive;
  one_upgradable = o.one_upgradable;
  alone = λ h. (let none = o.alone h in omega arith);
  within = omega arith;
  some = o.some;
}
orderly_less limit Exclusive out o = record {
  one_exclusive = omega arith;
  one_upgradable = o.one_upgradable;
  alone = λ h. absurd (omega arith);
  within = o.within;
  some = o.some;
}
orderly_less limit Upgradable out o = record {
  one_exclusive = o.one_exclusive;
  one_upgradable = omega arith;
  alone = λ h. (let none = o.alone h in omega arith);
  within = omega arith;
  some = o.some;
}

pub orderly_without : (limit : ℕ) (mode : Mode) (is_aside : Bool) (out : Out) → IsOrderly limit out
    → IsOrderly limit (less mode is_aside out)
orderly_without limit mode true out o = o
orderly_without limit mode false out o = orderly_less limit mode out o

-- 1 for a held guard of the mode, else 0
abbrev pub bit : Mode → Mode → Bool → ℕ
bit m mode is_aside = cond (not is_aside && is_mode m mode) 1 0

pub count_in-more : (m mode : Mode) (is_aside : Bool) (out : Out) → count_in m (more mode is_aside out) ≡ count_in m out
    + bit m mode is_aside
count_in-more m mode true out = omega arith
count_in-more Shared Shared false out = refl
count_in-more Shared Exclusive false out = omega arith
count_in-more Shared Upgradable false out = omega arith
count_in-more Exclusive Shared false out = omega arith
count_in-more Exclusive Exclusive false out = refl
count_in-more Exclusive Upgradable false out = omega arith
count_in-more Upgradable Shared false out = omega arith
count_in-more Upgradable Exclusive false out = omega arith
count_in-more Upgradable Upgradable false out = refl

pub count_in-less : (m mode : Mode) (is_aside : Bool) (out : Out) → bit m mode is_aside ≤ count_in m out
    → count_in m (less mode is_aside out) + bit m mode is_aside ≡ count_in m out
count_in-less m mode true out h = omega arith
count_in-less Shared Shared false out h = omega arith
count_in-less Shared Exclusive false out h = omega arith
count_in-less Shared Upgradable false out h = omega arith
count_in-less Exclusive Shared false out h = omega arith
count_in-less Exclusive Exclusive false out h = omega arith
count_in-less Exclusive Upgradable false out h = omega arith
count_in-less Upgradable Shared false out h = omega arith
count_in-less Upgradable Exclusive false out h = omega arith
count_in-less Upgradable Upgradable false out h = omega arith

-- counts that agree at each mode are one
pub same_out : (a b : Out) → ((m : Mode) → count_in m a ≡ count_in m b) → a ≡ b
same_out a b same =
    let s = same Shared in
    let e = same Exclusive in
    let u = same Upgradable in
    ap (λ n. record { shared = n; exclusive = a.exclusive; upgradable = a.upgradable }) s
    ∙ ap (λ n. record { shared = b.shared; exclusive = n; upgradable = a.upgradable }) e
    ∙ ap (λ n. record { shared = b.shared; exclusive = b.exclusive; upgradable = n }) u

pub count_in-out_of : (m : Mode) (guards : List Guard) → count_in m (out_of guards) ≡ count_by (holds m) guards
count_in-out_of Shared guards = refl
count_in-out_of Exclusive guards = refl
count_in-out_of Upgradable guards = refl

-- a guard that stands in the list is counted
pub counted_at : (m : Mode) (guards : List Guard) (i : ℕ) (g : Guard) → slice_get guards i ≡ Some g
    → bit m g.mode g.is_aside ≤ count_by (holds m) guards
counted_at m [] i g at = absurd (none-some g at)
counted_at m (x ∷ xs) zero g at =
    let same : cond (holds m x) 1 0 ≡ bit m g.mode g.is_aside = ap (λ y. cond (holds m y) 1 0) (same_Some x g at) in
    let step : count_by (holds m) (x ∷ xs) ≡ cond (holds m x) 1 0 + count_by (holds m) xs =
    sum_by-cons (λ y. cond (holds m y) 1 0) x xs in
    omega arith
counted_at m (x ∷ xs) (suc i) g at =
    let later = counted_at m xs i g at in
    let step : count_by (holds m) (x ∷ xs) ≡ cond (holds m x) 1 0 + count_by (holds m) xs =
    sum_by-cons (λ y. cond (holds m y) 1 0) x xs in
    omega arith

pub count_at : (m : Mode) (guards : List Guard) (i : ℕ) (g : Guard) → slice_get guards i ≡ Some g
    → bit m g.mode g.is_aside ≤ count_in m (out_of guards)
count_at m guards i g at = let c = counted_at m guards i g at in let e = count_in-out_of m guards in omega arith

-- a held guard is one of those that are out
pub out_at : (guards : List Guard) (i : ℕ) (g : Guard) → slice_get guards i ≡ Some g → g.is_aside ≡ false
    → 0 < count_in g.mode (out_of guards)
out_at guards i g at held =
    let c = count_at g.mode guards i g at in
    let one : bit g.mode g.mode g.is_aside ≡ 1 = ap (λ b. bit g.mode g.mode b) held
    ∙ ap (λ b. cond b 1 0) (is_mode-same g.mode) in
    omega arith
  where
    is_mode-same : (m : Mode) → is_mode m m ≡ true
    is_mode-same Shared = refl
    is_mode-same Exclusive = refl
    is_mode-same Upgradable = refl

-- a guard more
pub out_of-append : (guards : List Guard) (g : Guard) → out_of (guards ++ g ∷ []) ≡ more g.mode g.is_aside
    (out_of guards)
out_of-append guards g =
    same_out _ _ (λ m.
    let e = count_in-out_of m (guards ++ g ∷ []) in
    let f = count_in-out_of m guards in
    let s = sum_by-append (λ x. cond (holds m x) 1 0) guards (g ∷ []) in
    let a = count_in-more m g.mode g.is_aside (out_of guards) in
    omega arith)

-- a guard in the place of another
pub out_of-set : (guards : List Guard) (i : ℕ) (g h : Guard) → slice_get guards i ≡ Some g
    → out_of (set guards i h) ≡ more h.mode h.is_aside (less g.mode g.is_aside (out_of guards))
out_of-set guards i g h at =
    same_out _ _ (λ m.
    let e = count_in-out_of m (set guards i h) in
    let f = count_in-out_of m guards in
    let s = sum_by-set (λ x. cond (holds m x) 1 0) guards i h g (slice_get_within guards i g at) in
    let here : cond (holds m (get_or guards i g)) 1 0 ≡ bit m g.mode g.is_aside = ap (λ x. cond (holds m x) 1 0)
    (get_or_from_slice_get guards i g g at) in
    let l = count_in-less m g.mode g.is_aside (out_of guards) (count_at m guards i g at) in
    let a = count_in-more m h.mode h.is_aside (less g.mode g.is_aside (out_of guards)) in
    omega arith)

sum_by-remove : (f : Guard → ℕ) (guards : List Guard) (i : ℕ) (g : Guard) → slice_get guards i ≡ Some g
    → sum_by f (remove guards i) + f g ≡ sum_by f guards
sum_by-remove f [] i g at = absurd (none-some g at)
sum_by-remove f (x ∷ xs) zero g at =
    let same : f x ≡ f g = ap f (same_Some x g at) in
    let step = sum_by-cons f x xs in
    let left : sum_by f (remove (x ∷ xs) zero) ≡ sum_by f xs = refl in
    omega arith
sum_by-remove f (x ∷ xs) (suc i) g at =
    let later = sum_by-remove f xs i g at in
    let step = sum_by-cons f x xs in
    let left : sum_by f (remove (x ∷ xs) (suc i)) ≡ f x + sum_by f (remove xs i) = sum_by-cons f x (remove xs i) in
    omega arith

-- a guard less
pub out_of-remove : (guards : List Guard) (i : ℕ) (g : Guard) → slice_get guards i ≡ Some g
    → out_of (remove guards i) ≡ less g.mode g.is_aside (out_of guards)
out_of-remove guards i g at =
    same_out _ _ (λ m.
    let e = count_in-out_of m (remove guards i) in
    let f = count_in-out_of m guards in
    let s = sum_by-remove (λ x. cond (holds m x) 1 0) guards i g at in
    let l = count_in-less m g.mode g.is_aside (out_of guards) (count_at m guards i g at) in
    omega arith)

-- the readers are the shared and the upgradable holds
pub readers_are : (guards : List Guard) → readers guards ≡ readers_out (out_of guards)
readers_are [] = refl
readers_are (g ∷ gs) =
    let later = readers_are gs in
    let here = each g.mode g.is_aside in
    let all : readers (g ∷ gs) ≡ cond (is_held g && is_reader g.mode) 1 0 + readers gs =
    sum_by-cons (λ y. cond (is_held y && is_reader y.mode) 1 0) g gs in
    let s : (out_of (g ∷ gs)).shared ≡ cond (holds Shared g) 1 0 + (out_of gs).shared =
    sum_by-cons (λ y. cond (holds Shared y) 1 0) g gs in
    let u : (out_of (g ∷ gs)).upgradable ≡ cond (holds Upgradable g) 1 0 + (out_of gs).upgradable =
    sum_by-cons (λ y. cond (holds Upgradable y) 1 0) g gs in
    omega arith
  where
    each : (mode : Mode) (is_aside : Bool) → cond (not is_aside && is_reader mode) 1 0 ≡ cond
        (not is_aside && is_mode Shared mode) 1 0 + cond (not is_aside && is_mode Upgradable mode) 1 0
    each mode true = refl
    each Shared false = refl
    each Exclusive false = refl
    each Upgradable false = refl

pub same_mode : (a b : Mode) → is_mode a b ≡ true → a ≡ b
same_mode Shared Shared e = refl
same_mode Shared Exclusive e = absurd (false≢true e)
same_mode Shared Upgradable e = absurd (false≢true e)
same_mode Exclusive Shared e = absurd (false≢true e)
same_mode Exclusive Exclusive e = refl
same_mode Exclusive Upgradable e = absurd (false≢true e)
same_mode Upgradable Shared e = absurd (false≢true e)
same_mode Upgradable Exclusive e = absurd (false≢true e)
same_mode Upgradable Upgradable e = refl

-- where a mode isn't excluded no guard of a mode that excludes it is held
pub none_out : (mode kept : Mode) (guards : List Guard) → excludes kept mode ≡ true → excluded mode guards ≡ false
    → count_by (holds kept) guards ≡ 0
none_out mode kept guards e free =
    count_by-none (λ g. is_held g && excludes g.mode mode) (holds kept) (λ g h.
    let parts = and_parts (is_held g) (is_mode kept g.mode) h in
    and_from (is_held g) (excludes g.mode mode) parts.0
    (ap (λ m. excludes m mode) (sym (same_mode kept g.mode parts.1)) ∙ e))
    guards free

-- the machine admits only what a raw state of the same holds admits
pub admits_from : (limit : ℕ) (mode : Mode) (guards : List Guard) → excluded mode guards ≡ false
    → is_full limit mode guards ≡ false → admits limit mode (out_of guards) ≡ true
admits_from limit Shared guards free room =
    let r = readers_are guards in
    let below = leb-false limit (readers guards) room in
    and_from _ _ (eq-eqb (out_of guards).exclusive 0 (none_out Shared Exclusive guards refl free))
    (lt-ltb (readers_out (out_of guards)) limit (omega arith))
admits_from limit Exclusive guards free room =
    let s = none_out Exclusive Shared guards refl free in
    let u = none_out Exclusive Upgradable guards refl free in
    and_from _ _ (eq-eqb (out_of guards).exclusive 0 (none_out Exclusive Exclusive guards refl free))
    (eq-eqb (readers_out (out_of guards)) 0 (omega arith))
admits_from limit Upgradable guards free room =
    let r = readers_are guards in
    let below = leb-false limit (readers guards) room in
    let e = none_out Upgradable Exclusive guards refl free in
    let u = none_out Upgradable Upgradable guards refl free in
    and_from _ _ (eq-eqb ((out_of guards).exclusive + (out_of guards).upgradable) 0 (omega arith))
    (lt-ltb (readers_out (out_of guards)) limit (omega arith))

-- an exclusive hold may become any other
pub admits_for_exclusive : (limit : ℕ) (mode : Mode) (out : Out) → IsOrderly limit out → 0 < out.exclusive
    → admits limit mode (one_less Exclusive out) ≡ true
admits_for_exclusive limit Shared out o some =
    let none = o.alone some in
    let one = o.one_exclusive in
    let room = o.some in
    and_from _ _ (eq-eqb (out.exclusive - 1) 0 (omega arith)) (lt-ltb (readers_out out) limit (omega arith))
admits_for_exclusive limit Exclusive out o some =
    let one = o.one_exclusive in
    and_from _ _ (eq-eqb (out.exclusive - 1) 0 (omega arith)) (eq-eqb (readers_out out) 0 (o.alone some))
admits_for_exclusive limit Upgradable out o some =
    let none = o.alone some in
    let one = o.one_exclusive in
    let room = o.some in
    and_from _ _ (eq-eqb ((out.exclusive - 1) + out.upgradable) 0 (omega arith))
    (lt-ltb (readers_out out) limit (omega arith))

-- an upgradable hold may become shared
pub admits_for_upgradable : (limit : ℕ) (out : Out) → IsOrderly limit out → 0 < out.upgradable
    → admits limit Shared (one_less Upgradable out) ≡ true
admits_for_upgradable limit out o some =
    let within = o.within in
    and_from _ _ (eq-eqb out.exclusive 0
    (elim (cases_lt 0 out.exclusive)
    [ inl held ↦ (let none = o.alone held in absurd (omega arith)) | inr free ↦ omega arith ]))
    (lt-ltb (out.shared + (out.upgradable - 1)) limit (omega arith))
