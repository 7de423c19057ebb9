-- What stays fixed for good in a world: its keys, shards, routes, deeds, programs and opening contents.
use Rattle.std.specs.Prelude.{◌≡◌, ℕ, Bool, List, Option, slice_get, IsTrue}
use Rattle.std.specs.Option.{option_and_then}
use Rattle.std.specs.Cmp.{IsEquivalence}
use Rattle.mapworld_calls.specs.declared.ask.Ask.{Ask}
use Rattle.mapworld_calls.specs.Deeds.{Deeds}
use Rattle.mapworld_calls.specs.Programs.{opening_before}

pub record Setup (K V D T : Type 0) : Type 0 where
  pub eq : K → K → Bool
  pub shards : ℕ
  pub route : K → ℕ
  pub deeds : Deeds D K V T
  pub programs : List (List (Ask K V D))
  pub opening : List (K × V)

-- keys are compared by an equivalence, and equal keys route to one shard
pub record Laws {K V D T : Type 0} (w : Setup K V D T) : Type 0 where
  pub equivalence : IsEquivalence w.eq
  pub routes : (j k : K) → IsTrue (w.eq j k) → w.route j ≡ w.route k

-- the call of that number of that thread
abbrev pub ask_at : {K V D T : Type 0} → Setup K V D T → ℕ → ℕ → Option (Ask K V D)
ask_at w t c = option_and_then (λ program. slice_get program c) (slice_get w.programs t)

-- the opening whose session that call stands in
abbrev pub session_of : {K V D T : Type 0} → Setup K V D T → ℕ → ℕ → Option ℕ
session_of w t c = option_and_then (λ program. opening_before program c) (slice_get w.programs t)
