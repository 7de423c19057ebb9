-- A world as contracts see it.
use Rattle.std.specs.Prelude.{ℕ, ◌+◌, if◌then◌else◌, List, length, map, flat_map, Option, Some, None, slice_get}
use Rattle.std.specs.Option.{option_and_then}
use Rattle.mapworld_calls.specs.declared.ask.Ask.{Ask}
use Rattle.mapworld_calls.specs.declared.block.Block.{Block}
use Rattle.mapworld_calls.specs.declared.reply.Reply.{Reply}
use Rattle.mapworld_state.specs.Locks.Views.{Shown}
use Rattle.mapworld_state.specs.declared.step.Step.{Step}
use Rattle.mapworld_state.specs.Places.{Place}
use Rattle.mapworld_state.specs.Shards.{ShardPairs}

pub record State (K V S D T A : Type 0) : Type 0 where
  pub hasher : S
  -- the pairs and programs that it was made with
  pub opening : List (K × V)
  pub programs : List (List (Ask K V D))
  -- the steps so far
  pub steps : List Step
  -- where each thread stands
  pub places : List (Place K V D T A)
  -- the pairs of each shard
  pub tables : List (ShardPairs K V)
  -- the locks of the shards: words, queues, the calls that threads are in there, and the desk beside each word
  pub locks : Shown
  pub blocks : List (Block K)
  pub replies : List (Reply K V T A)

-- the thread of each step so far
abbrev pub threads_of : {K V S D T A : Type 0} → State K V S D T A → List ℕ
threads_of w = map (λ s. s.thread) w.steps

-- whose deadline each step so far was, if it was one
abbrev pub deadline_of : Step → Option ℕ
deadline_of s = if s.deadline then Some s.thread else None

abbrev pub deadlines_of : {K V S D T A : Type 0} → State K V S D T A → List (Option ℕ)
deadlines_of w = map deadline_of w.steps

-- the number of the next step: they are counted from 1
abbrev pub next_step : {K V S D T A : Type 0} → State K V S D T A → ℕ
next_step w = length w.steps + 1

-- all pairs, shard by shard
abbrev pub pairs_of : {K V S D T A : Type 0} → State K V S D T A → List (K × V)
pairs_of w = flat_map (λ t. t.items) w.tables

-- the start step of a thread's unanswered call, if it has one that started
abbrev pub started_of : {K V S D T A : Type 0} → State K V S D T A → ℕ → Option ℕ
started_of w t = option_and_then (λ p. p.started) (slice_get w.places t)
