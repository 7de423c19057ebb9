-- Sessions: what an accepted program never asks while a session is open.
use Rattle.std.specs.Prelude.{◌≡◌, ℕ, false, List, Some, None, slice_get}
use Rattle.mapworld_calls.specs.declared.ask.Ask.{Ask}
use Rattle.mapworld_calls.specs.Programs.{HoldsOneGuard, is_held, opening_before}

-- the call takes shards' guards of its own
abbrev pub TakesGuards : {K V D : Type 0} → Ask K V D → Type 0
TakesGuards a = is_held a ≡ false

-- no call that takes a guard of its own stands in a session
abbrev pub SessionsAreApart : Type 0 → Type 0 → Type 0 → Type 0
SessionsAreApart K V D =
    (program : List (Ask K V D)) → HoldsOneGuard program → (c : ℕ) (a : Ask K V D) → slice_get program c ≡ Some a
    → TakesGuards a → opening_before program c ≡ None
