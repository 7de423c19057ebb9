-- Which worlds aren't made, by the tests in their order.
use Rattle.std.proofs.Common.{◌≡◌, ℕ, ◌+◌, ◌<◌, ◌≤◌, ◌^◌, Bool, true, false, if◌then◌else◌, List, [], ◌∷◌}
use Rattle.std.proofs.Common.{length, map, None, refl, ap, sym, ◌∙◌, arith}
use Rattle.std.specs.List.{sum_by, list_all}
use Rattle.std.proofs.lemmas.Grind.{common_steps}
use Rattle.std.proofs.lemmas.List.Sums.{sum_by-cons, sum_by-le-sum_by}
use Rattle.mapworld_calls.specs.declared.ask.Ask.{Ask}
use Rattle.mapworld_calls.specs.declared.ask.Ask.TheVariants as ask
use Rattle.mapworld_calls.specs.Programs.{one_guard, numbers_of, stop_of}
use Rattle.mapworld_state.specs.Moves.{stops_at}
use Rattle.mapworld_state.specs.Core.{blocks_of}
use Rattle.mapworld_state.specs.Route.{IsWorldAmount}
use Rattle.mapworld.specs.Making.{new_refusal}

pub sum_by-map : {X Y : Type 0} (f : Y → ℕ) (g : X → Y) (xs : List X) → sum_by f (map g xs) ≡ sum_by (λ x. f (g x)) xs
sum_by-map f g [] = refl
sum_by-map f g (x ∷ xs) =
    sum_by-cons f (g x) (map g xs)
    ∙ (ap (λ n. f (g x) + n) (sum_by-map f g xs)
    ∙ sym (sum_by-cons (λ y. f (g y)) x xs))

-- the tests of a world that is made
pub record IsAccepted {K V D : Type 0} (shards pairs : ℕ) (programs : List (List (Ask K V D))) : Type 0 where
  pub amount : IsWorldAmount shards
  pub some : 1 ≤ length programs
  pub threads : length programs ≤ 256
  pub calls : sum_by length programs ≤ 2 ^ 20
  pub pairs_fit : pairs ≤ 2 ^ 31
  pub guarded : list_all (one_guard false) programs ≡ true
  pub numbers : sum_by (λ program. sum_by (numbers_of shards) program) programs < 2 ^ 32

-- a call lists no more blocks than it takes guards
blocks-few : {K V D : Type 0} (shards : ℕ) (a : Ask K V D) → blocks_of shards a ≤ numbers_of shards a
blocks-few shards (ask.Keyed k) = omega arith
blocks-few shards (ask.Begin b) = omega arith
blocks-few shards (ask.Held h) = omega arith
blocks-few shards (ask.Walk f) = by (stops_at (stop_of f) 0)
  where
    by : (b : Bool) → (if b then 0 else shards) ≤ shards
    by true = omega arith
    by false = omega arith

module _ {K V D : Type 0} (shards pairs : ℕ) (programs : List (List (Ask K V D))) where
  pub accepted : new_refusal shards pairs programs ≡ None → IsAccepted shards pairs programs
  accepted h = record {
    amount = grind (arith, common_steps);
    some = grind (arith, common_steps);
    threads = grind (arith, common_steps);
    calls = grind (arith, common_steps);
    pairs_fit = grind (arith, common_steps);
    guarded = grind (arith, common_steps);
    numbers = grind (arith, common_steps);
  }

  pub blocks-fit : IsAccepted shards pairs programs
      → sum_by (λ program. sum_by (blocks_of shards) program) programs < 2 ^ 32
  blocks-fit a =
      let few = sum_by-le-sum_by (λ program. sum_by (blocks_of shards) program)
      (λ program. sum_by (numbers_of shards) program) programs
      (λ program. sum_by-le-sum_by (blocks_of shards) (numbers_of shards) program (blocks-few shards)) in
      omega (arith, few, a.numbers)
