-- Which refusal a look at a guard gives.
use Rattle.std.proofs.Common.{◌≡◌, ℕ, Bool, true, false, cond, ◌==◌, Option, Some, None, Result, Ok, Err, refl, ap, ◌∙◌}
use Rattle.std.specs.Option.{MatchOption}
use Rattle.std.proofs.lemmas.Bool.{eq-eqb, ne_eqb, cond-true, cond-false}
use Rattle.lock_api_desk.specs.declared.fault.DeskFault.{DeskFault}
use Rattle.lock_api_desk.specs.declared.fault.DeskFault.TheVariants.{NoSuchGuard, WrongMode, NotTheParty}
use Rattle.lock_api_desk.specs.Guards.{Guard}
use Rattle.lock_api_desk.specs.Refusals.{refusal_at, ok_unless}

module _ (suits : Guard → Bool) (party : ℕ) (o : Option Guard) where
  pub no_guard : o ≡ None → refusal_at suits party o ≡ Some NoSuchGuard
  no_guard none = ap (λ r. refusal_at suits party r) none

  pub other_party : (guard : Guard) → o ≡ Some guard → (guard.party ≡ party → ⊥)
      → refusal_at suits party o ≡ Some NotTheParty
  other_party guard some other =
      ap (λ r. refusal_at suits party r) some
      ∙ cond-false (guard.party == party) (cond (suits guard) None (Some WrongMode)) (Some NotTheParty)
      (ne_eqb guard.party party other)

  of_party : (guard : Guard) → o ≡ Some guard → guard.party ≡ party → refusal_at suits party o ≡ cond (suits guard) None
      (Some WrongMode)
  of_party guard some own =
      ap (λ r. refusal_at suits party r) some
      ∙ cond-true (guard.party == party) (cond (suits guard) None (Some WrongMode)) (Some NotTheParty)
      (eq-eqb guard.party party own)

  pub wrong_mode : (guard : Guard) → o ≡ Some guard → guard.party ≡ party → suits guard ≡ false
      → refusal_at suits party o ≡ Some WrongMode
  wrong_mode guard some own unfit = of_party guard some own ∙ cond-false (suits guard) None (Some WrongMode) unfit

  pub not_refused : (guard : Guard) → o ≡ Some guard → guard.party ≡ party → suits guard ≡ true
      → refusal_at suits party o ≡ None
  not_refused guard some own fit = of_party guard some own ∙ cond-true (suits guard) None (Some WrongMode) fit

-- an answer tells the refusal
pub ok_from : {P : Type 0} (o : Option DeskFault) (x : ℕ) → MatchOption o P (λ fault. Ok x ≡ Err fault) → (o ≡ None) × P
ok_from None x p = (refl, p)
ok_from (Some fault) x e = cc

pub none_from : (o : Option DeskFault) (x : Unit {0})
    → (let r : Result (Unit {0}) DeskFault = Ok x in r ≡ ok_unless o tt) → o ≡ None
none_from None x e = refl
none_from (Some fault) x e = cc
