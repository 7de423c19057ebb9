-- What holds of a machine of onces at every moment, in plain words.
use Rattle.std.specs.Prelude.{◌≡◌, ◌≢◌, ℕ, ◌<◌, ◌⊎◌, true, false, IsTrue, length, Some}
use Rattle.parking_lot_rules.specs.Lists.{occurs}
use Rattle.parking_lot_rules.specs.declared.once.wish.Wish.{Wish}
use Rattle.parking_lot_rules.specs.declared.once.once_state.OnceState.TheVariants.{InProgress}
use Rattle.parking_lot_rules.specs.Once.Once.{Running, Listed, IsSound, weight, waits}
use Rattle.parking_lot_rules.specs.Once.OnceLaws.{SleepersAreKnown, SleepersAreWoken}
use Rattle.parking_lot_protocol_waits.specs.declared.once.once_phase.OncePhase.TheVariants.{Sleeps}
use Rattle.parking_lot_machine_sides.specs.Once.Onces.{OpenCall, Onces, call_at, once_at, role_at}
use Rattle.parking_lot_machine_sides.specs.Once.OnceActs.{can_move}
use Rattle.parking_lot_machine_sides.specs.Once.OnceRanks.{FewAreLeft}

-- one thread at most runs a closure of a once
abbrev pub OneRuns : Onces → Type 0
OneRuns s = (i t u : ℕ) → t ≢ u → t < length s.calls → u < length s.calls → 0 < weight Running (role_at s i t)
    → weight Running (role_at s i u) ≡ 0

-- a list has exactly the threads that stand in it, each once
abbrev pub ListsAreWaiters : Onces → Type 0
ListsAreWaiters s = (i t : ℕ) → t < length s.calls → occurs t (once_at s i).queue ≡ weight Listed (role_at s i t)

-- it only waits, in its call at the once, for a closure that nobody has begun
abbrev pub OnlyWaits : Onces → ℕ → OpenCall → Type 0
OnlyWaits s t c = (wish : Wish) × (c.core.phase ≡ Sleeps wish) × (wish.runs ≡ false)
    × IsTrue (waits wish (once_at s c.once).word.state) × ((once_at s c.once).word.state ≢ InProgress)

-- where a thread is in a call, somebody can move, or it only waits for a closure that nobody has begun
abbrev pub SomebodyCanMove : Onces → Type 0
SomebodyCanMove s = (t : ℕ) (c : OpenCall) → call_at s t ≡ Some c → ((v : ℕ) × (can_move s v ≡ true)) ⊎ OnlyWaits s t c

-- All of it: each once is sound, so what the rules promise of every sound once holds of it, and the steps that are left
-- are few.
pub record IsSoundMachine (s : Onces) : Type 0 where
  pub sound : (i : ℕ) → IsSound (once_at s i)
  pub runs : OneRuns s
  pub lists : ListsAreWaiters s
  pub known : (i : ℕ) → SleepersAreKnown (once_at s i)
  pub woken : (i : ℕ) → SleepersAreWoken (once_at s i)
  pub moves : SomebodyCanMove s
  pub few : FewAreLeft s
