-- Which worlds aren't made, and what a new one has.
use Rattle.std.specs.Prelude.{◌≡◌, ℕ, ◌^◌, ◌⊎◌, Bool, false, ◌&&◌, ◌==◌, if◌then◌else◌, nat_lt, nat_le, List, []}
use Rattle.std.specs.Prelude.{length, sum_by, Option, Some, None, Result, Err, IsOk}
use Rattle.std.specs.List.{list_all}
use Rattle.mapworld_calls.specs.declared.ask.Ask.{Ask}
use Rattle.mapworld_calls.specs.Programs.{one_guard, numbers_of}
use Rattle.mapworld_calls.specs.Pairs.{pair_of, opening_pair}
use Rattle.mapworld_state.specs.declared.faults.fault.WorldNewFault.{WorldNewFault}
use Rattle.mapworld_state.specs.declared.faults.fault.WorldNewFault.TheVariants as fault
use Rattle.dashmap_table.specs.Route.{log2}
use Rattle.mapworld_state.specs.Locks.Fresh.{AreFresh}
use Rattle.mapworld_state.specs.State.{State, pairs_of}
use Rattle.mapworld.specs.Beginning.{AreAtStart}

-- a power of two from 2 to 4,096
abbrev pub is_amount : ℕ → Bool
is_amount n = (n == 2 ^ log2 n) && (nat_le 2 n && nat_le n 4096)

-- why a world isn't made, want of memory aside, tried in this order
abbrev pub new_refusal : {K V D : Type 0} → ℕ → ℕ → List (List (Ask K V D)) → Option WorldNewFault
new_refusal shards pairs programs =
    if is_amount shards
    then (if nat_le 1 (length programs) && nat_le (length programs) 256
    then (if nat_le (sum_by length programs) (2 ^ 20)
    then (if nat_le pairs (2 ^ 31)
    then (if list_all (one_guard false) programs
    then (if nat_lt (sum_by (λ program. sum_by (numbers_of shards) program) programs) (2 ^ 32)
    then None
    else Some fault.NoGuardNumbers)
    else Some fault.AsksWhileHolding)
    else Some fault.TooManyPairs)
    else Some fault.TooManyCalls)
    else Some fault.TooManyThreads)
    else Some fault.BadShards

-- a world is refused exactly so, and made otherwise, unless memory is short
abbrev pub IsMadeUnless : {W : Type 0} → Option WorldNewFault → Result W WorldNewFault → Type 0
IsMadeUnless (Some f) made = made ≡ Err f
IsMadeUnless None made = IsOk made ⊎ (made ≡ Err fault.NoMemory)

-- a new world has what it was made with, a thread for each program that is before the first of its calls, and a lock
-- for each shard, which nobody holds or asks for; and nothing has happened in it
pub record IsNew {K V S D T A : Type 0} (eq : K → K → Bool) (shards : ℕ) (hasher : S) (pairs : List (K × V))
    (programs : List (List (Ask K V D))) (w : State K V S D T A) : Type 0 where
  pub hasher_is : w.hasher ≡ hasher
  pub shards_are : length w.tables ≡ shards
  pub opening : w.opening ≡ pairs
  pub programs_are : w.programs ≡ programs
  pub contents_are : (q : K) → pair_of eq (pairs_of w) q ≡ opening_pair eq pairs q
  pub steps : w.steps ≡ []
  pub places : AreAtStart programs w.places
  pub locks : AreFresh (length programs) shards w.locks
  pub blocks : w.blocks ≡ []
  pub replies : w.replies ≡ []
