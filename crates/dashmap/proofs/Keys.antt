-- What is known of a key that was taken out of a map to `()`, by what is known of its pair.
use Rattle.std.proofs.Common.{◌≡◌, Option, None, Some, IfSome, Result, Ok, Err, IfErr, OnOk, sym, ap, subst}
use Rattle.dashmap.specs.Set.Calls.{key_of, is_put}

module _ {K : Type 0} (P : K → Type 0) (Q : K × Unit {0} → Type 0) (by : (p : K × Unit {0}) → Q p → P p.0) where
  told_of : (pair : Option (K × Unit {0})) → IfSome pair Q → IfSome (key_of pair) P
  told_of None given = tt
  told_of (Some p) given = by p given

  -- what holds of each such pair's key holds of the key, if there is one
  pub told_key : (pair : Option (K × Unit {0})) (out : Option K) → out ≡ key_of pair → IfSome pair Q → IfSome out P
  told_key pair out is given = subst (λ o. IfSome o P) (sym is) (told_of pair given)

-- what holds of a thing holds by what is known of it
pub told_some : {X : Type 0} (P Q : X → Type 0) → ((x : X) → P x → Q x) → (there : Option X) → IfSome there P
    → IfSome there Q
told_some P Q by None given = tt
told_some P Q by (Some x) given = by x given

module _ {K : Type 0} (P : Result (Option (Unit {0})) (K × Unit {0}) → Type 0) where
  -- what holds of an insertion's answer holds of one that went well, where it did
  pub put_well : (had : Result (Option (Unit {0})) (K × Unit {0})) (r : Result (Unit {0}) K) → r ≡ is_put had → P had
      → OnOk r ((old : Option (Unit {0})) × P (Ok old))
  put_well (Ok old) r is given = subst (λ z. OnOk z ((old : Option (Unit {0})) × P (Ok old))) (sym is) (old, given)
  put_well (Err back) r is given = subst (λ z. OnOk z ((old : Option (Unit {0})) × P (Ok old))) (sym is) tt

  -- and of the refusal of a key, where it was refused
  pub put_refused : (key : K) (had : Result (Option (Unit {0})) (K × Unit {0})) (r : Result (Unit {0}) K)
      → r ≡ is_put had → IfErr had (λ back. back ≡ (key, tt)) → P had
      → IfErr r (λ back. (back ≡ key) × P (Err (key, tt)))
  put_refused key (Ok old) r is same given =
      subst (λ z. IfErr z (λ back. (back ≡ key) × P (Err (key, tt)))) (sym is) tt
  put_refused key (Err back) r is same given =
      subst (λ z. IfErr z (λ back. (back ≡ key) × P (Err (key, tt)))) (sym is)
      (ap (λ p. p.0) same, subst (λ p. P (Err p)) same given)
