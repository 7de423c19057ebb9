-- The way to an element of a `Vec`.
use Rattle.std.specs.Prelude.{◌≡◌, ℕ, zero, suc, List, [], ◌∷◌, length, slice_get, slice_set, None, Some, IsSome, refl}
use Rattle.std.specs.Vec.{with_item}
use Rattle.std.specs.declared.vec.Vec.{Vec}
use Rattle.std.proofs.Common.{ap}
use Rattle.std.proofs.Math.Nat.{ℕ_set}
use Rattle.std.proofs.Math.Path.{path_j}
use Rattle.std.proofs.lemmas.List.{set-set}
use Rattle.lock_api_raw.specs.Parts.{IsWay}

module _ {X : Type 0} where
  set_read : (xs : List X) (i : ℕ) (y : X) → IsSome (slice_get xs i) → slice_get (slice_set xs i y) i ≡ Some y
  set_read [] i y there = cc
  set_read (x ∷ xs) zero y there = refl
  set_read (x ∷ xs) (suc i) y there = set_read xs i y there

  read_set : (xs : List X) (i : ℕ) (y : X) → slice_get xs i ≡ Some y → slice_set xs i y ≡ xs
  read_set [] i y read = refl
  read_set (x ∷ xs) zero y read = cc
  read_set (x ∷ xs) (suc i) y read = ap (λ rest. x ∷ rest) (read_set xs i y read)

  set_past : (xs : List X) (i : ℕ) (y : X) → slice_get xs i ≡ None → slice_set xs i y ≡ xs
  set_past [] i y gone = refl
  set_past (x ∷ xs) zero y gone = cc
  set_past (x ∷ xs) (suc i) y gone = ap (λ rest. x ∷ rest) (set_past xs i y gone)

module _ {X Z : Type 0} where
  -- a `Vec` with other elements, as many
  abbrev with_list : (v : Vec X Z) (xs : List X) → v.len ≡ length xs → Vec X Z
  with_list v xs many = record {
    ptr = v.ptr;
    len = v.len;
    cap = v.cap;
    alloc = v.alloc;
    items = xs;
    ok = (many, v.ok.1);
    small = v.small;
  }

  -- which proof of the length it has makes no difference
  same_list : (v : Vec X Z) {xs ys : List X} → xs ≡ ys → (p : v.len ≡ length xs) (q : v.len ≡ length ys)
      → with_list v xs p ≡ with_list v ys q
  same_list v {xs = xs} same = path_j (λ ys same. (p : v.len ≡ length xs) (q : v.len ≡ length ys)
      → with_list v xs p ≡ with_list v ys q) (λ p q. ap (with_list v xs) (ℕ_set _ _ p q)) same

  -- an element of a `Vec` is a way
  pub item_is_way : (i : ℕ) → IsWay {A = Vec X Z} {B = X} (λ v. slice_get v.items i) (λ v part. with_item v i part)
  item_is_way i = record {
    reads_written = λ whole part there. set_read whole.items i part there;
    writes_read = λ whole part read. same_list whole (read_set whole.items i part read) _ whole.ok.0;
    last_counts = λ whole before part. same_list whole (set-set whole.items i before part) _ _;
    stays_absent = λ whole part gone. same_list whole (set_past whole.items i part gone) _ whole.ok.0;
  }
