-- Laws of reachable worlds.
use Rattle.std.specs.Prelude.{◌≡◌, ◌≢◌, ℕ, ◌<◌, ◌≤◌, Bool, true, false, List, length, Some, None, slice_get}
use Rattle.std.specs.Hash.{HashWrites}
use Rattle.std.specs.List.{All}
use Rattle.std.specs.declared.hash.BuildHasher as builder
use Rattle.std.specs.declared.hash.Hasher as hasher
use Rattle.mapworld_calls.specs.declared.ask.Ask.{Ask}
use Rattle.mapworld_calls.specs.declared.ask.Ask.TheVariants as ask
use Rattle.mapworld_calls.specs.declared.ask.Begin.{Begin}
use Rattle.mapworld_calls.specs.declared.deed.Deed as deed
use Rattle.mapworld_calls.specs.declared.reply.Answer.TheVariants as answer
use Rattle.mapworld_calls.specs.declared.reply.Reply.{Reply}
use Rattle.mapworld_calls.specs.HistoryLaws.Worlds.{RouteWithin}
use Rattle.mapworld_calls.specs.Pairs.{pair_of}
use Rattle.mapworld_calls.specs.Programs.{is_try, key_of}
use Rattle.mapworld_calls.specs.Placed.{answered_of}
use Rattle.mapworld_calls.specs.Setup.{Laws, ask_at}
use Rattle.mapworld_state.specs.declared.step.Step.{Step}
use Rattle.mapworld_state.specs.Held.{HoldsMatch, HoldByPhase}
use Rattle.mapworld_state.specs.Invariant.Causes.World.{TakenShardsAreUsed, NobodyWaitsAlone}
use Rattle.mapworld_state.specs.Locks.Fits.{LocksFit}
use Rattle.mapworld_state.specs.Moves.{growth_key}
use Rattle.mapworld_state.specs.Route.{key_route}
use Rattle.mapworld_state.specs.Running.{bound_of, can_move_in, status_of, unanswered_of, Ran}
use Rattle.mapworld_state.specs.declared.step.Status.TheVariants as status
use Rattle.mapworld_state.specs.Shards.{ShardPairs}
use Rattle.mapworld_state.specs.State.{State, pairs_of}
use Rattle.mapworld_state.specs.Steps.{GrowsShard, IsRefusedGrowth, IsStep}
use Rattle.mapworld_state.specs.World.{setup_of}
use Rattle.mapworld.specs.Progress.Rest.{IsAtRest}
use Rattle.mapworld.specs.Atomic.{IsAtomic}
use Rattle.mapworld.specs.Guarded.{GuardsAreOwners}
use Rattle.mapworld.specs.History.{history_of, HistoryAddsTo, HistoryAgrees, HistoryHasCauses, HistoryIsPlaced}
use Rattle.mapworld.specs.History.{HistoryHasDeadlines, HistoryStaysFixed}
use Rattle.mapworld.specs.Over.{IsOver}
use Rattle.mapworld.specs.Reachable.{IsReachable, LeadsTo}

module _ {K V S H D T : Type 0} (A : Type 0) (d : deed.Ghosts D K V T) (b : builder.Ghosts S H) (h : hasher.Ghosts H)
    (eq : K → K → Bool) (writes : K → HashWrites) where
  -- a schedule leads from a reachable state to reachable ones, which add to it
  abbrev pub SchedulesStayReachable : Type 0
  SchedulesStayReachable = (w : State K V S D T A) (steps : List Step) (w' : State K V S D T A)
      → IsReachable d b h eq writes w → LeadsTo (setup_of d b h eq writes w) w steps w'
      → IsReachable d b h eq writes w' × HistoryStaysFixed (history_of w) (history_of w')
      × HistoryAddsTo (history_of w) (history_of w')

  -- what a run has made is such a schedule
  abbrev pub RunsAreSchedules : Type 0
  RunsAreSchedules = (w : State K V S D T A) (n : ℕ) (steps : List Step) (w' : State K V S D T A)
      → Ran (setup_of d b h eq writes w) n w steps w' → LeadsTo (setup_of d b h eq writes w) w steps w'

  -- what `run` promises of the state that it leaves holds of every reachable one, and so do the invariants behind it: a
  -- thread's holds are its ownerships of locks, it has them exactly from its admission to its release, and words,
  -- queues and guards fit each other
  pub record IsLinearized (w : State K V S D T A) : Type 0 where
    pub agrees : HistoryAgrees d b h eq writes (history_of w)
    pub placed : HistoryIsPlaced d b h eq writes (history_of w)
    pub causes : HistoryHasCauses d b h eq writes (history_of w)
    pub late : HistoryHasDeadlines d b h eq writes (history_of w)
    pub used : TakenShardsAreUsed d b h eq writes w
    pub waits : NobodyWaitsAlone d b h eq writes w
    pub guards : GuardsAreOwners w.locks
    pub held : HoldsMatch w.places w.locks
    pub by_phase : HoldByPhase w.places
    pub fit : LocksFit w.locks

  abbrev pub ReachableWorldsAreLinearized : Type 0
  ReachableWorldsAreLinearized = (w : State K V S D T A) → IsReachable d b h eq writes w → IsLinearized w

  -- each shard has the pairs of the keys that route to it, each key routes to one of the shards, and the replay has the
  -- laws of worlds
  pub record IsRouted (w : State K V S D T A) : Type 0 where
    pub pairs : (i j : ℕ) (table : ShardPairs K V) (p : K × V) → slice_get w.tables i ≡ Some table
        → slice_get table.items j ≡ Some p
        → key_route b h writes w.hasher (length w.tables) p.0 ≡ i
    pub within : RouteWithin (setup_of d b h eq writes w)
    pub lawful : Laws (setup_of d b h eq writes w)

  abbrev pub ReachableWorldsAreRouted : Type 0
  ReachableWorldsAreRouted = (w : State K V S D T A) → IsReachable d b h eq writes w → IsRouted w

  -- while a call is unanswered, some thread can move
  abbrev pub SomebodyCanMove : Type 0
  SomebodyCanMove = (w : State K V S D T A) → IsReachable d b h eq writes w → 0 < unanswered_of w → (t : ℕ)
      × (can_move_in w t ≡ true)

  -- where nobody can move, every call is answered and nobody waits
  abbrev pub StoppedWorldsAreAtRest : Type 0
  StoppedWorldsAreAtRest = (w : State K V S D T A) → IsReachable d b h eq writes w
      → ((t : ℕ) → can_move_in w t ≡ false) → IsAtRest w

  -- where every call is answered and every thread has finished, nothing is left: no hold, no guard, nobody in a
  -- section, and nobody in a call at a lock
  abbrev pub FinishedWorldsAreAtRest : Type 0
  FinishedWorldsAreAtRest = (w : State K V S D T A) → IsReachable d b h eq writes w → IsOver w → IsAtRest w

  -- A schedule of one thread without deadlines, whichever of its steps are fair, has fewer steps than the bound. So a
  -- thread that is stepped alone comes to where it can't move. Of deadlines the bound says nothing.
  abbrev pub LoneThreadsStop : Type 0
  LoneThreadsStop = (w : State K V S D T A) (t : ℕ) (steps : List Step) (w' : State K V S D T A)
      → IsReachable d b h eq writes w → All (λ s. (s.thread ≡ t) × (s.deadline ≡ false)) steps
      → LeadsTo (setup_of d b h eq writes w) w steps w' → length steps < bound_of w

  -- a thread whose call is a try, or whose next call is one, is never asleep
  abbrev pub TriesNeverSleep : Type 0
  TriesNeverSleep = (w : State K V S D T A) (t : ℕ) (g : Begin K) → IsReachable d b h eq writes w
      → ask_at (setup_of d b h eq writes w) t (answered_of w.replies t) ≡ Some (ask.Begin g) → is_try g ≡ true
      → status_of w t ≢ status.Asleep

  -- a step of any kind does one thing: it starts a call, looks, changes one pair, acts at one lock or answers, or is
  -- its thread's deadline, and wakes no more than one thread
  abbrev pub ReachableStepsAreAtomic : Type 0
  ReachableStepsAreAtomic = (w : State K V S D T A) (s : Step) (w' : State K V S D T A)
      → IsReachable d b h eq writes w → IsStep (setup_of d b h eq writes w) w s w' → IsAtomic eq w s w'

  -- where a shard grows for a call, and where that is refused, the map has no pair of the call's key
  abbrev pub GrowthsAreForNewKeys : Type 0
  GrowthsAreForNewKeys = (w : State K V S D T A) (s : Step) (w' : State K V S D T A) → IsReachable d b h eq writes w
      → ((g : GrowsShard (setup_of d b h eq writes w) w s w') → pair_of eq (pairs_of w) (growth_key g.call) ≡ None)
      × ((g : IsRefusedGrowth (setup_of d b h eq writes w) w s w') → pair_of eq (pairs_of w) (growth_key g.call) ≡ None)

  -- At some moment between two steps of the world's past, not before one step and before another, the map had no pair
  -- of the key. As each state agrees with its blocks, that is a place of their order.
  pub record WasAbsent (w : State K V S D T A) (key : K) (from until : ℕ) : Type 0 where
    pub moment : State K V S D T A
    pub reached : IsReachable d b h eq writes moment
    pub schedule : List Step
    pub leads : LeadsTo (setup_of d b h eq writes moment) moment schedule w
    pub behind : from ≤ length moment.steps
    pub before : length moment.steps < until
    pub absent : pair_of eq (pairs_of moment) key ≡ None

  -- a call on a key that was refused for memory had a moment, between its start and its end, at which the map had no
  -- pair of the key
  abbrev pub RefusedKeysWereAbsent : Type 0
  RefusedKeysWereAbsent = (w : State K V S D T A) (i : ℕ) (r : Reply K V T A) (a : Ask K V D) (key : K)
      → IsReachable d b h eq writes w → slice_get w.replies i ≡ Some r → r.answer ≡ answer.NoMemory
      → ask_at (setup_of d b h eq writes w) r.thread r.call ≡ Some a → key_of a ≡ Some key
      → WasAbsent w key r.start r.end
