-- Two machines side by side: where somebody could make a step in one of them, somebody can in both together.
use Rattle.std.proofs.Common.{◌≡◌, ◌⊎◌, ℕ, inl, inr, Bool, true, false, not, ◌&&◌, ◌||◌, Option, Some, None, refl, sym}
use Rattle.std.proofs.Common.{ap}
use Rattle.std.proofs.Common.{subst, eqb-true}
use Rattle.parking_lot_machine_waits.specs.Joint.{is_that}
use Rattle.parking_lot_world.specs.Worlds.{Side, goes, shuts_out}

-- whoever can make a step is in a call, and where a section is open one can who enters none
pub record IsOrderly (a : Side) : Type 0 where
  pub busy : (t : ℕ) → a.moves t ≡ true → a.calls t ≡ true
  pub inside : (b : ℕ) → a.shuts b ≡ true → (u : ℕ) × (a.moves u ≡ true) × (a.enters u ≡ None) × (a.beside u ≡ None)

-- a bucket that doesn't keep it out is free
pub not_shut : (a : Side) (o : Option ℕ) (b : ℕ) → shuts_out a o ≡ false → is_that o b ≡ true → a.shuts b ≡ false
not_shut a None b e that = absurd cc
not_shut a (Some k) b e that = subst (λ (n : ℕ). a.shuts n ≡ false) (sym (eqb-true b k that)) e

open_to : (m p q : Bool) → m ≡ true → p ≡ false → q ≡ false → (m && not (p || q)) ≡ true
open_to true false false a b c = refl
open_to true true q a b c = absurd cc
open_to true false true a b c = absurd cc
open_to false p q a b c = absurd cc

pub somebody_goes : (a b : Side) → IsOrderly b → (t : ℕ) → a.moves t ≡ true → (goes a b t ≡ true)
    ⊎ ((u : ℕ) × (b.moves u ≡ true) × (goes b a u ≡ true))
somebody_goes a b orderly t moves = go (shuts_out b (a.beside t)) (shuts_out b (a.enters t)) refl refl
  where
    shut_by : (o : Option ℕ) → shuts_out b o ≡ true → (u : ℕ) × (b.moves u ≡ true) × (goes b a u ≡ true)
    shut_by None e = absurd cc
    shut_by (Some k) e =
        let (u, moves, none, alone) = orderly.inside k e in (
          u,
          moves,
          open_to (b.moves u) (shuts_out a (b.beside u)) (shuts_out a (b.enters u)) moves (ap (shuts_out a) alone)
              (ap (shuts_out a) none),
        )

    go : (p q : Bool) → shuts_out b (a.beside t) ≡ p → shuts_out b (a.enters t) ≡ q
        → (goes a b t ≡ true) ⊎ ((u : ℕ) × (b.moves u ≡ true) × (goes b a u ≡ true))
    go true q e f = inr (shut_by (a.beside t) e)
    go false true e f = inr (shut_by (a.enters t) f)
    go false false e f = inl (open_to (a.moves t) (shuts_out b (a.beside t)) (shuts_out b (a.enters t)) moves e f)
