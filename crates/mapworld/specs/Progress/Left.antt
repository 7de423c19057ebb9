-- How many steps are left of a world where one thread is stepped until it can't move, and then another.
use Rattle.std.specs.Prelude.{ℕ, suc, ◌+◌, ◌-◌, ◌*◌, Bool, not, List, [], length, drop, count_by, Option, Some, None}
use Rattle.std.specs.Prelude.{slice_get, sum_by}
use Rattle.parking_lot_machine.specs.Ranks.{steps_left}
use Rattle.parking_lot_machine.specs.Rows.{state}
use Rattle.parking_lot_machine.specs.SoundLaws.{most_steps}
use Rattle.mapworld_calls.specs.declared.ask.Ask.{Ask}
use Rattle.mapworld_calls.specs.declared.ask.Ask.TheVariants as ask
use Rattle.mapworld_calls.specs.declared.block.Block.{Block}
use Rattle.mapworld_calls.specs.Setup.{Setup}
use Rattle.mapworld_state.specs.declared.place.Phase.{Phase}
use Rattle.mapworld_state.specs.declared.place.Phase.TheVariants as phase
use Rattle.mapworld_state.specs.Core.{is_walk, may_add}
use Rattle.mapworld_state.specs.Places.{Place}
use Rattle.mapworld_state.specs.Shards.{ShardPairs}
use Rattle.mapworld_state.specs.State.{State}
use Rattle.mapworld_state.specs.Walks.{is_visited}

-- What a call still takes of a thread that is before a phase, among n threads, beside the call that it is in at its
-- shard's lock. A release takes its own step and all that the release of a lock costs at most, and then comes the
-- answer.
abbrev pub release_left : ℕ → ℕ
release_left n = 110 * n + 117

-- What a visit of a walk takes at most: its start and what the admission to its shard costs, the release of the last
-- shard or its own, and its look.
abbrev pub visit_left : ℕ → ℕ
visit_left n = 2 * release_left n + 111

-- Of a walk it is by how many shards are left behind the one that it is at; what it does at pairs is counted apart.
abbrev pub phase_left : {K V D T A : Type 0} → ℕ → ℕ → Phase K V D T A → ℕ
phase_left n more phase.Rest = 0
phase_left n more (phase.Admit r) = release_left n + 3
phase_left n more (phase.Find r) = release_left n + 3
phase_left n more (phase.Grow c) = release_left n + 2
phase_left n more (phase.Append k v) = release_left n + 1
phase_left n more (phase.Apply k) = release_left n + 1
phase_left n more (phase.View k d) = release_left n + 1
phase_left n more (phase.Read d) = release_left n + 1
phase_left n more (phase.Change h) = release_left n + 1
phase_left n more (phase.Fill v) = release_left n + 1
phase_left n more phase.Downgrade = release_left n
phase_left n more (phase.Idle f) = 1
phase_left n more (phase.Reach f) = visit_left n * more + 3 * release_left n + 2
phase_left n more (phase.Part f) = visit_left n * more + 3 * release_left n + 2
phase_left n more (phase.Visit f) = visit_left n * more + 2 * release_left n + 2
phase_left n more (phase.Seek f) = visit_left n * more + 2 * release_left n + 1
phase_left n more (phase.Item f) = visit_left n * more + 2 * release_left n
phase_left n more (phase.Give f) = visit_left n * more + 2 * release_left n
phase_left n more (phase.Onward f) = visit_left n * more + release_left n
phase_left n more (phase.Release a) = release_left n
phase_left n more (phase.Answer a) = 1

-- what a call takes that hasn't started: its start, what the admission to its shard costs at most, and what comes then
abbrev pub call_left : ℕ → ℕ
call_left n = release_left n + 112

abbrev pub walk_left : ℕ → ℕ → ℕ
walk_left n shards = visit_left n * (shards + 1) + release_left n

abbrev pub ask_left : {K V D : Type 0} → ℕ → ℕ → Ask K V D → ℕ
ask_left n shards (ask.Keyed k) = call_left n
ask_left n shards (ask.Begin b) = call_left n
ask_left n shards (ask.Held h) = call_left n
ask_left n shards (ask.Walk f) = walk_left n shards

abbrev pub place_left : {K V D T A : Type 0} → ℕ → ℕ → Place K V D T A → ℕ
place_left n shards p = sum_by (ask_left n shards) p.asks + phase_left n (shards - (p.shard + 1)) p.phase

-- THE PAIRS THAT WALKS HAVE STILL TO DO, EACH OF WHICH TAKES A FIND AND A DEED

-- how many pairs the shards from that one on have
abbrev pub pairs_from : {K V : Type 0} → List (ShardPairs K V) → ℕ → ℕ
pairs_from tables i = sum_by (λ t. length t.items) (drop i tables)

-- how many pairs the calls that are left may still add
abbrev pub to_come : {K V D T A : Type 0} → List (Place K V D T A) → ℕ
to_come places = sum_by may_add places

-- how many pairs have a key that isn't one of these
abbrev pub fresh : {K V : Type 0} → (K → K → Bool) → List K → List (K × V) → ℕ
fresh eq keys pairs = count_by (λ p. not (is_visited eq keys p.0)) pairs

abbrev pub visited_by : {K : Type 0} → Option (Block K) → List K
visited_by None = []
visited_by (Some b) = b.visited.items

abbrev pub block_at : {K : Type 0} → List (Block K) → Option ℕ → Option (Block K)
block_at bs None = None
block_at bs (Some i) = slice_get bs i

abbrev pub items_at : {K V : Type 0} → Option (ShardPairs K V) → List (K × V)
items_at None = []
items_at (Some t) = t.items

module _ {K V S D T A : Type 0} (x : Setup K V D T) (w : State K V S D T A) where
  -- the pairs of its shard that a visit hasn't done
  abbrev pub fresh_of : Place K V D T A → ℕ
  fresh_of p = fresh x.eq (visited_by (block_at w.blocks (slice_get p.visits p.shard)))
      (items_at (slice_get w.tables p.shard))

  -- the pairs that a walk before that phase may still come to
  abbrev pub phase_todo : Place K V D T A → Phase K V D T A → ℕ
  phase_todo p (phase.Reach f) = pairs_from w.tables p.shard + to_come w.places
  phase_todo p (phase.Part f) = pairs_from w.tables p.shard + to_come w.places
  phase_todo p (phase.Visit f) = pairs_from w.tables p.shard + to_come w.places
  phase_todo p (phase.Seek f) = fresh_of p + (pairs_from w.tables (suc p.shard) + to_come w.places)
  phase_todo p (phase.Item f) = fresh_of p + (pairs_from w.tables (suc p.shard) + to_come w.places)
  phase_todo p (phase.Give f) = pairs_from w.tables (suc p.shard) + to_come w.places
  phase_todo p (phase.Onward f) = pairs_from w.tables (suc p.shard) + to_come w.places
  phase_todo p f = 0

  abbrev pub place_todo : Place K V D T A → ℕ
  place_todo p = count_by is_walk p.asks * (pairs_from w.tables 0 + to_come w.places) + phase_todo p p.phase

  -- The steps of all threads, where thread t is stepped: those that are left at the locks, those that places still
  -- take, and two for each pair that a walk may still come to.
  abbrev pub left : ℕ → ℕ
  left t = steps_left (state w.locks.rows) t + sum_by (place_left (length w.places) (length w.tables)) w.places + 2 *
      sum_by place_todo w.places

-- the most that is left, of n threads and c calls that aren't answered, in s shards with at most m pairs
abbrev pub most_left : ℕ → ℕ → ℕ → ℕ → ℕ
most_left n s m c = n * most_steps n + (walk_left n s + 2 * m) * c
