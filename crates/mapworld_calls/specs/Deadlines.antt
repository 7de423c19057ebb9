-- A call with a deadline is answered `Locked` only behind a deadline of its own.
use Rattle.std.specs.Prelude.{◌≡◌, ℕ, ◌-◌, ◌<◌, List, Option, Some, slice_get, IsTrue}
use Rattle.mapworld_calls.specs.declared.ask.Ask.{Ask}
use Rattle.mapworld_calls.specs.declared.reply.Answer.TheVariants as answer
use Rattle.mapworld_calls.specs.declared.reply.Reply.{Reply}
use Rattle.mapworld_calls.specs.Programs.{has_deadline}
use Rattle.mapworld_calls.specs.Setup.{Setup, ask_at}

-- step number p, counted from 1, is the deadline of thread t, where `deadlines` has of each step so far whose deadline
-- it was, if it was one
abbrev pub IsDeadlineOf : List (Option ℕ) → ℕ → ℕ → Type 0
IsDeadlineOf deadlines t p = (0 < p) × (slice_get deadlines (p - 1) ≡ Some (Some t))

-- between the start and the answer of the call its thread's deadline came
pub record HasMissed {K V T A : Type 0} (deadlines : List (Option ℕ)) (r : Reply K V T A) : Type 0 where
  pub step : ℕ
  pub from : r.start < step
  pub until : step < r.end
  pub is : IsDeadlineOf deadlines r.thread step

abbrev pub LockedHaveDeadlines : {K V D T A : Type 0} → Setup K V D T → List (Option ℕ) → List (Reply K V T A) → Type 0
LockedHaveDeadlines {K} {V} {D} {T} {A} w deadlines replies =
    (i : ℕ) (r : Reply K V T A) → slice_get replies i ≡ Some r → r.answer ≡ answer.Locked
    → (a : Ask K V D) → ask_at w r.thread r.call ≡ Some a → IsTrue (has_deadline a) → HasMissed deadlines r
