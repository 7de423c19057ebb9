-- A world's history, as a caller sees it, and what is promised of every history: that it is linearizable, that it only
-- grows, that refused tries have a cause, and that calls give up only behind their deadlines.
use Rattle.std.specs.Prelude.{◌≡◌, ℕ, Bool, List, ◌++◌, length, Option}
use Rattle.std.specs.Hash.{HashWrites}
use Rattle.std.specs.declared.hash.BuildHasher as builder
use Rattle.std.specs.declared.hash.Hasher as hasher
use Rattle.mapworld_calls.specs.declared.ask.Ask.{Ask}
use Rattle.mapworld_calls.specs.declared.block.Block.{Block}
use Rattle.mapworld_calls.specs.declared.deed.Deed as deed
use Rattle.mapworld_calls.specs.declared.reply.Reply.{Reply}
use Rattle.mapworld_calls.specs.Agrees.{Agrees}
use Rattle.mapworld_calls.specs.Deadlines.{LockedHaveDeadlines}
use Rattle.mapworld_calls.specs.Placed.{OnlyAdds, WellPlaced}
use Rattle.mapworld_calls.specs.Setup.{Setup}
use Rattle.mapworld_calls.specs.Shards.{LockedHaveCauses}
use Rattle.mapworld_state.specs.Route.{key_route}
use Rattle.mapworld_state.specs.State.{State, deadlines_of, pairs_of, started_of, threads_of}
use Rattle.mapworld_state.specs.World.{deeds_of}

pub record History (K V S D T A : Type 0) : Type 0 where
  -- what the world was made with
  pub hasher : S
  pub shards : ℕ
  pub opening : List (K × V)
  pub programs : List (List (Ask K V D))
  -- the thread of each step so far
  pub steps : List ℕ
  -- of each step so far the thread whose deadline it was, if it was one
  pub deadlines : List (Option ℕ)
  -- at which step the call of a thread has started, while it isn't answered
  pub started : ℕ → Option ℕ
  -- the operations of the sequential map, in the order of their linearization points, and the answers, in the order in
  -- which they were given
  pub blocks : List (Block K)
  pub replies : List (Reply K V T A)
  -- the contents now
  pub pairs : List (K × V)

-- the history of a world
abbrev pub history_of : {K V S D T A : Type 0} → State K V S D T A → History K V S D T A
history_of w = record {
  hasher = w.hasher;
  shards = length w.tables;
  opening = w.opening;
  programs = w.programs;
  steps = threads_of w;
  deadlines = deadlines_of w;
  started = started_of w;
  blocks = w.blocks;
  replies = w.replies;
  pairs = pairs_of w;
}

module _ {K V S H D T A : Type 0} (d : deed.Ghosts D K V T) (b : builder.Ghosts S H) (h : hasher.Ghosts H)
    (eq : K → K → Bool) (writes : K → HashWrites) (past : History K V S D T A) where
  -- what stays fixed in it
  abbrev pub setup_in : Setup K V D T
  setup_in = record {
    eq = eq;
    shards = past.shards;
    route = key_route b h writes past.hasher past.shards;
    deeds = deeds_of d;
    programs = past.programs;
    opening = past.opening;
  }

  -- its replies and contents are those of one sequential map that takes its blocks in their order
  abbrev pub HistoryAgrees : Type 0
  HistoryAgrees = Agrees setup_in past.blocks past.pairs past.replies

  -- each linearization point is a step of the call's own thread, between the call's start and its answer
  abbrev pub HistoryIsPlaced : Type 0
  HistoryIsPlaced = WellPlaced setup_in past.steps past.started past.blocks past.replies

  -- while each try that was answered `Locked` was under way, a call of another thread was on its shard
  abbrev pub HistoryHasCauses : Type 0
  HistoryHasCauses = LockedHaveCauses setup_in past.started past.blocks past.replies

  -- while each call with a deadline that was answered `Locked` was under way, its thread's deadline came
  abbrev pub HistoryHasDeadlines : Type 0
  HistoryHasDeadlines = LockedHaveDeadlines setup_in past.deadlines past.replies

-- steps, deadlines, blocks and replies of the one history are still those of the other, which may have more of them
abbrev pub HistoryAddsTo : {K V S D T A : Type 0} → History K V S D T A → History K V S D T A → Type 0
HistoryAddsTo past now = OnlyAdds past.steps now.steps past.blocks now.blocks past.replies now.replies
    × ((more : List (Option ℕ)) × (now.deadlines ≡ past.deadlines ++ more))

-- both are of a world that was made so
pub record HistoryStaysFixed {K V S D T A : Type 0} (past now : History K V S D T A) : Type 0 where
  pub hasher : now.hasher ≡ past.hasher
  pub shards : now.shards ≡ past.shards
  pub opening : now.opening ≡ past.opening
  pub programs : now.programs ≡ past.programs
