-- States of a desk, part by part.
use Rattle.std.proofs.Common.{◌≡◌, ℕ, List, Option, None, ap, ◌∙◌}
use Rattle.lock_api_desk.specs.declared.fault.DeskFault.{DeskFault}
use Rattle.lock_api_desk.specs.Guards.{Guard}
use Rattle.lock_api_desk.specs.Desk.{DeskState}
use Rattle.lock_api_desk.specs.Refusals.{unless}

abbrev pub state : {T : Type 0} → ℕ → ℕ → List Guard → T → DeskState T
state limit room guards value = record { limit = limit; room = room; guards = guards; value = value }

-- states whose parts are equal are one
pub same_state : {T : Type 0} (value : T) (l m r q : ℕ) (gs hs : List Guard) → l ≡ m → r ≡ q → gs ≡ hs
    → state l r gs value ≡ state m q hs value
same_state value l m r q gs hs limits rooms guards =
    ap (λ x. state x r gs value) limits ∙ ap (λ x. state m x gs value) rooms ∙ ap (λ x. state m q x value) guards

-- a call that isn't refused leaves what comes after it
pub unless-None : {X : Type 0} (o : Option DeskFault) (x y : X) → o ≡ None → unless o x y ≡ y
unless-None o x y none = ap (λ r. unless r x y) none
