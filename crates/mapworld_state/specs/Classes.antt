-- What is so of a thread by the class of the phase that it is before.
use Rattle.std.specs.Prelude.{ℕ, ◌+◌, Bool, true, false, not, if◌then◌else◌, ◌==◌, Option, is_some}
use Rattle.mapworld_state.specs.declared.step.Status.{Status}
use Rattle.mapworld_state.specs.declared.step.Status.TheVariants as status
use Rattle.mapworld_state.specs.declared.place.Phase.{Phase}
use Rattle.mapworld_state.specs.declared.place.Phase.TheVariants as phase

-- a thread is between two calls; before the admission to its shard; in its shard, and its call has no block of its own
-- there; behind the position of its call's block, and before the deed; before the release; before the answer; and of a
-- walk: before the admission to its next shard; in two shards; in its shard before the visit, and then in it; between
-- two visits
pub data Class : Type 0 where
  reaching : Class
  parting : Class
  looking : Class
  visiting : Class
  pausing : Class
  resting : Class
  waiting : Class
  inside : Class
  placed : Class
  leaving : Class
  answering : Class

abbrev pub class_of : {K V D T A : Type 0} → Phase K V D T A → Class
class_of phase.Rest = resting
class_of (phase.Admit r) = waiting
class_of (phase.Find r) = inside
class_of (phase.Grow c) = inside
class_of (phase.Append k v) = placed
class_of (phase.Apply k) = placed
class_of (phase.View k d) = inside
class_of (phase.Read d) = inside
class_of (phase.Change h) = inside
class_of (phase.Fill v) = inside
class_of phase.Downgrade = inside
class_of (phase.Idle f) = answering
class_of (phase.Reach f) = reaching
class_of (phase.Part f) = parting
class_of (phase.Visit f) = looking
class_of (phase.Seek f) = visiting
class_of (phase.Item f) = visiting
class_of (phase.Give f) = visiting
class_of (phase.Onward f) = pausing
class_of (phase.Release a) = leaving
class_of (phase.Answer a) = answering

-- whether a thread is between two calls
abbrev pub rests_in : Class → Bool
rests_in resting = true
rests_in reaching = false
rests_in parting = false
rests_in looking = false
rests_in visiting = false
rests_in pausing = false
rests_in waiting = false
rests_in inside = false
rests_in placed = false
rests_in leaving = false
rests_in answering = false

-- whether the call that it is in may have its block listed already
abbrev pub may_own_in : Class → Bool
may_own_in resting = false
may_own_in reaching = true
may_own_in parting = true
may_own_in looking = true
may_own_in visiting = true
may_own_in pausing = true
may_own_in waiting = false
may_own_in inside = false
may_own_in placed = true
may_own_in leaving = true
may_own_in answering = true

-- whether the call that it is in is a walk that may still come to a shard
abbrev pub walks_in : Class → Bool
walks_in resting = false
walks_in reaching = true
walks_in parting = true
walks_in looking = true
walks_in visiting = true
walks_in pausing = true
walks_in waiting = false
walks_in inside = false
walks_in placed = false
walks_in leaving = false
walks_in answering = false

-- how many holds it has: one from its admission to its release, and between two calls and before an answer one where it
-- has a guard; a walk has one more while it gives back the last shard with the next one held, and while it waits for
-- its next shard, or is between two, those that it keeps over
abbrev pub holds_in : {G : Type 0} → Option G → ℕ → Class → ℕ
holds_in guard kept reaching = kept
holds_in guard kept parting = 2
holds_in guard kept looking = 1
holds_in guard kept visiting = 1
holds_in guard kept pausing = kept
holds_in guard kept resting = if is_some guard then 1 else 0
holds_in guard kept waiting = 0
holds_in guard kept inside = 1
holds_in guard kept placed = 1
holds_in guard kept leaving = 1
holds_in guard kept answering = if is_some guard then 1 else 0

-- how many answers it owes, and how many blocks and pairs it may add at the most
abbrev pub answers_owed : Class → ℕ
answers_owed resting = 0
answers_owed reaching = 1
answers_owed parting = 1
answers_owed looking = 1
answers_owed visiting = 1
answers_owed pausing = 1
answers_owed waiting = 1
answers_owed inside = 1
answers_owed placed = 1
answers_owed leaving = 1
answers_owed answering = 1

-- of a walk it is by how many shards are left behind the one that it is at
abbrev pub blocks_left : ℕ → Class → ℕ
blocks_left more reaching = more + 1
blocks_left more parting = more + 1
blocks_left more looking = more + 1
blocks_left more visiting = more
blocks_left more pausing = more
blocks_left more resting = 0
blocks_left more waiting = 1
blocks_left more inside = 1
blocks_left more placed = 0
blocks_left more leaving = 0
blocks_left more answering = 0

abbrev pub pairs_left : Class → ℕ
pairs_left resting = 0
pairs_left reaching = 0
pairs_left parting = 0
pairs_left looking = 0
pairs_left visiting = 0
pairs_left pausing = 0
pairs_left waiting = 1
pairs_left inside = 1
pairs_left placed = 1
pairs_left leaving = 0
pairs_left answering = 0

-- where it stands, by whether it sleeps at a lock and how much of its program is left
abbrev pub status_in : Bool → ℕ → Class → Status
status_in asleep left resting = if left == 0 then status.Finished else status.Running
status_in asleep left waiting = if asleep then status.Asleep else status.Running
status_in asleep left inside = status.Running
status_in asleep left placed = status.Running
status_in asleep left leaving = status.Running
status_in asleep left reaching = if asleep then status.Asleep else status.Running
status_in asleep left parting = status.Running
status_in asleep left looking = if asleep then status.Asleep else status.Running
status_in asleep left visiting = status.Running
status_in asleep left pausing = if asleep then status.Asleep else status.Running
status_in asleep left answering = if asleep then status.Asleep else status.Running

-- whether a step of it would be done, by whether it can go on at the lock that it is in a call of and how much of its
-- program is left
abbrev pub moves_in : Bool → ℕ → Class → Bool
moves_in goes left resting = not (left == 0)
moves_in goes left waiting = goes
moves_in goes left inside = true
moves_in goes left placed = true
moves_in goes left leaving = true
moves_in goes left reaching = goes
moves_in goes left parting = true
moves_in goes left looking = goes
moves_in goes left visiting = true
moves_in goes left pausing = goes
moves_in goes left answering = goes

-- whether its call at a lock may be one of a shard that it has given up or shares now
abbrev pub owes_in : Class → Bool
owes_in reaching = false
owes_in parting = false
owes_in looking = true
owes_in visiting = false
owes_in pausing = true
owes_in resting = false
owes_in waiting = false
owes_in inside = false
owes_in placed = false
owes_in leaving = false
owes_in answering = true
