-- The kinds of steps: what each changes, of which thread, and that nothing else changes.
use Rattle.std.specs.Prelude.{◌≡◌, ◌≢◌, ℕ, ◌+◌, ◌<◌, ◌≤◌, ◌⊎◌, true, false, if◌then◌else◌, List, [], ◌∷◌, ◌++◌, length}
use Rattle.std.specs.Prelude.{Option, Some, None, slice_get, slice_set, is_some}
use Rattle.std.specs.Option.{option_and_then}
use Rattle.mapworld_calls.specs.declared.ask.Ask.{Ask}
use Rattle.mapworld_calls.specs.declared.ask.Keyed.{Keyed}
use Rattle.mapworld_calls.specs.declared.ask.Held.{Held}
use Rattle.mapworld_calls.specs.declared.ask.Walk.{Walk}
use Rattle.mapworld_calls.specs.declared.block.Block.{Block}
use Rattle.mapworld_calls.specs.declared.reply.Answer.{Answer}
use Rattle.mapworld_calls.specs.declared.reply.Answer.TheVariants as answer
use Rattle.mapworld_calls.specs.Programs.{keyed_key}
use Rattle.mapworld_calls.specs.Replay.{block_key}
use Rattle.mapworld_calls.specs.Programs.{saturated, walk_may_grow}
use Rattle.mapworld_calls.specs.Agrees.{HasRead}
use Rattle.mapworld_calls.specs.Calls.{pair_in, keyed_answer, keyed_leaves, held_answer, held_leaves, visit_reads}
use Rattle.mapworld_calls.specs.Setup.{Setup}
use Rattle.mapworld_calls.specs.Pairs.{pair_of}
use Rattle.mapworld_state.specs.declared.holds.Mode.TheVariants.{Shared, Exclusive}
use Rattle.mapworld_state.specs.declared.holds.Hold.{Hold}
use Rattle.mapworld_state.specs.declared.step.Step.{Step}
use Rattle.mapworld_state.specs.declared.place.Request.{Request}
use Rattle.mapworld_state.specs.declared.place.Way.{Way}
use Rattle.mapworld_state.specs.declared.place.Way.TheVariants as way
use Rattle.mapworld_state.specs.declared.place.Guard.TheVariants as guard
use Rattle.mapworld_state.specs.declared.place.Growth.{Growth}
use Rattle.mapworld_state.specs.declared.place.Phase.{Phase}
use Rattle.mapworld_state.specs.declared.place.Phase.TheVariants as phase
use Rattle.mapworld_state.specs.Places.{Place}
use Rattle.parking_lot_protocol.specs.declared.act.CoreAnswer.{CoreAnswer}
use Rattle.parking_lot_protocol.specs.declared.act.CoreAnswer.TheVariants as end
use Rattle.parking_lot_machine_calls.specs.declared.calls.LockCall.TheVariants as call
use Rattle.mapworld_state.specs.Locks.Views.{Shown}
use Rattle.mapworld_state.specs.Locks.Stands.{stand_in}
use Rattle.mapworld_state.specs.Locks.Steps.{LockBegins, LockMoves, LockStarts, LockEnds, LockExpires}
use Rattle.mapworld_state.specs.Classes.{class_of, owes_in}
use Rattle.mapworld_state.specs.Holds.{asks_for, wants_for, gives_up}
use Rattle.mapworld_state.specs.Walks.{walk_mode, entered_phase, is_visited, all_visited, looked_keys, looked_count}
use Rattle.mapworld_state.specs.Walks.{IsLookedAt, IsItemOf, walk_ends, LeadsOn}
use Rattle.mapworld_state.specs.Shards.{ShardPairs, has_room, Puts, Grown}
use Rattle.mapworld_state.specs.State.{State, next_step}
use Rattle.mapworld_state.specs.Moves.{request_key, request_manner, mode_of, is_last, lent, start_phase, start_guard}
use Rattle.mapworld_state.specs.Moves.{start_shard, start_counts, ends_guard, changed_phase, request_of, growth_key}
use Rattle.mapworld_state.specs.Moves.{found_phase, found_done, found_guard, block_behind, stepped, ListsBlock}
use Rattle.mapworld_state.specs.Moves.{IsListedVisit, VisitsKey, CountsCall, EndsCall}

-- the key of the session that a thread is in: that of its block
abbrev pub guarded_key : {K V D T : Type 0} → Setup K V D T → List (Block K) → Option ℕ → Option K
guarded_key x bs block = option_and_then (λ i. option_and_then (block_key x) (slice_get bs i)) block

-- a call that needs its shard begins the call of the shard's lock; one on a guard has its shard
abbrev pub EntersBy : {K V D T A : Type 0} → ℕ → ℕ → Phase K V D T A → Shown → Shown → Type 0
EntersBy t shard (phase.Admit r) locks locks' = LockBegins t shard (wants_for (request_manner r) (mode_of r)) locks
    locks'
EntersBy t shard (phase.Reach f) locks locks' = LockBegins t shard (asks_for (walk_mode f)) locks locks'
EntersBy t shard other locks locks' = locks' ≡ locks

-- An admission is over: the call of the shard's lock is answered, and the place has the hold. It is part of the step
-- that comes next.
pub record Enters {K V S D T A : Type 0} (w : State K V S D T A) (t : ℕ) (w' : State K V S D T A) : Type 0 where
  pub place : Place K V D T A
  pub stands : slice_get w.places t ≡ Some place
  pub request : Request K V D
  pub before : place.phase ≡ phase.Admit request
  pub locks : Shown
  pub ends : LockEnds t end.Owned w.locks locks
  pub after : w' ≡ record w {
    places = slice_set w.places t
        (record place {
          holds = place.holds ++ record { shard = place.shard; mode = mode_of request } ∷ [];
          phase = phase.Find request;
        });
    locks = locks;
  }

-- An admission of a walk is over: the call of the next shard's lock is answered, and the place has the hold, beside the
-- last one that it may have kept. It is part of the step that comes next.
pub record Reaches {K V S D T A : Type 0} (w : State K V S D T A) (t : ℕ) (w' : State K V S D T A) : Type 0 where
  pub place : Place K V D T A
  pub stands : slice_get w.places t ≡ Some place
  pub walk : Walk D
  pub before : place.phase ≡ phase.Reach walk
  pub locks : Shown
  pub ends : LockEnds t end.Owned w.locks locks
  pub after : w' ≡ record w {
    places = slice_set w.places t
        (record place {
          holds = place.holds ++ record { shard = place.shard; mode = walk_mode walk } ∷ [];
          phase = entered_phase walk place.holds;
        });
    locks = locks;
  }

-- A try could not have its shard, or a call with a deadline gave up: the call of the shard's lock is answered so, with
-- nothing owned. It is part of the step of the answer.
pub record IsLocked {K V S D T A : Type 0} (w : State K V S D T A) (t : ℕ) (w' : State K V S D T A) : Type 0 where
  pub place : Place K V D T A
  pub stands : slice_get w.places t ≡ Some place
  pub request : Request K V D
  pub before : place.phase ≡ phase.Admit request
  pub locks : Shown
  pub ended : CoreAnswer
  pub unowned : ended ≢ end.Owned
  pub ends : LockEnds t ended w.locks locks
  pub after : w' ≡ record w {
    places = slice_set w.places t (record place { phase = phase.Answer answer.Locked });
    locks = locks;
  }

-- A walk that was to give no item has read nothing. It is part of the step of the answer.
pub record GivesNone {K V S D T A : Type 0} (w : State K V S D T A) (t : ℕ) (w' : State K V S D T A) : Type 0 where
  pub place : Place K V D T A
  pub stands : slice_get w.places t ≡ Some place
  pub walk : Walk D
  pub before : place.phase ≡ phase.Idle walk
  pub answer : Answer K V T A
  pub told : HasRead [] answer
  pub after : w' ≡ record w { places = slice_set w.places t (record place { phase = phase.Answer answer }) }

-- What a release or a downgrade owed to the lock is done, and its call there is answered. It is part of the step that
-- comes next.
pub record Leaves {K V S D T A : Type 0} (w : State K V S D T A) (t : ℕ) (w' : State K V S D T A) : Type 0 where
  pub place : Place K V D T A
  pub stands : slice_get w.places t ≡ Some place
  pub before : owes_in (class_of place.phase) ≡ true
  pub locks : Shown
  pub ended : CoreAnswer
  pub ends : LockEnds t ended w.locks locks
  pub after : w' ≡ record w { locks = locks }

module _ {K V S D T A : Type 0} (x : Setup K V D T) (w : State K V S D T A) (s : Step) (w' : State K V S D T A) where
  -- a start takes the thread's next call and sets `started` to its number
  pub record Starts : Type 0 where
    pub place : Place K V D T A
    pub stands : slice_get w.places s.thread ≡ Some place
    pub before : place.phase ≡ phase.Rest
    pub ask : Ask K V D
    pub rest : List (Ask K V D)
    pub asked : place.asks ≡ ask ∷ rest
    pub blocks : List (Block K)
    pub counted : CountsCall w.blocks (start_counts (start_phase {T = T} {A = A} ask place.guard) place.block)
        place.next blocks
    pub locks : Shown
    pub enters : EntersBy {T = T} {A = A} s.thread (start_shard x.route ask place.shard) (start_phase ask place.guard)
        w.locks locks
    pub after : w' ≡ record (stepped w s (record place {
      asks = rest;
      started = Some (next_step w);
      closes = is_last ask;
      shard = start_shard x.route ask place.shard;
      guard = start_guard ask place.guard;
      phase = start_phase ask place.guard;
    })) { blocks = blocks; locks = locks }

  -- a thread that waits for its shard, or owes something to its lock, makes one step of the lock's call
  pub record MovesLock : Type 0 where
    pub place : Place K V D T A
    pub stands : slice_get w.places s.thread ≡ Some place
    pub locks : Shown
    pub moves : LockMoves s.thread s.fair w.locks locks
    pub after : w' ≡ record (stepped w s place) { locks = locks }

  -- the deadline of a thread comes, as it sleeps in a call that has one: from then on it can move; its own place in
  -- the lock's call is another, and nothing else
  pub record Expires : Type 0 where
    pub place : Place K V D T A
    pub stands : slice_get w.places s.thread ≡ Some place
    pub locks : Shown
    pub expires : LockExpires s.thread w.locks locks
    pub after : w' ≡ record (stepped w s place) { locks = locks }

  -- a find looks for the key in the shard that is held now; it is the position of the block that it lists
  pub record Finds : Type 0 where
    pub place : Place K V D T A
    pub stands : slice_get w.places s.thread ≡ Some place
    pub request : Request K V D
    pub before : place.phase ≡ phase.Find request
    pub table : ShardPairs K V
    pub held : slice_get w.tables place.shard ≡ Some table
    pub done : Option ℕ
    pub done_is : done ≡ found_done request (is_some (pair_of x.eq table.items (request_key request))) (has_room table)
    pub blocks : List (Block K)
    pub listed : ListsBlock w s.thread place done blocks
    pub after : w' ≡ record (stepped w s (record place {
      block = block_behind done (length w.blocks) place.block;
      guard = found_guard request (is_some (pair_of x.eq table.items (request_key request))) (has_room table);
      phase = found_phase request (is_some (pair_of x.eq table.items (request_key request))) (has_room table);
    })) { blocks = blocks }

  -- a find that grows the shard, which is full and has no pair of the key, and keeps its pairs; it leads where a find
  -- leads that has room, and is the position of the block that it lists
  pub record GrowsShard : Type 0 where
    pub place : Place K V D T A
    pub stands : slice_get w.places s.thread ≡ Some place
    pub call : Growth K V
    pub before : place.phase ≡ phase.Grow call
    pub table : ShardPairs K V
    pub held : slice_get w.tables place.shard ≡ Some table
    pub absent : pair_of x.eq table.items (growth_key call) ≡ None
    pub full : has_room table ≡ false
    pub grown : ShardPairs K V
    pub grows : Grown x.eq table grown
    pub blocks : List (Block K)
    pub listed : ListsBlock w s.thread place (found_done {D = D} (request_of call) false true) blocks
    pub after : w' ≡ record (stepped w s (record place {
      block = Some (length w.blocks);
      guard = found_guard {D = D} (request_of call) false true;
      phase = found_phase (request_of call) false true;
    })) { tables = slice_set w.tables place.shard grown; blocks = blocks }

  -- a find whose growth is refused, of a shard that is full and has no pair of the key: no block is listed, the shard
  -- stays as it is, and the call goes on to its release
  pub record IsRefusedGrowth : Type 0 where
    pub place : Place K V D T A
    pub stands : slice_get w.places s.thread ≡ Some place
    pub call : Growth K V
    pub before : place.phase ≡ phase.Grow call
    pub table : ShardPairs K V
    pub held : slice_get w.tables place.shard ≡ Some table
    pub absent : pair_of x.eq table.items (growth_key call) ≡ None
    pub full : has_room table ≡ false
    pub after : w' ≡ stepped w s (record place { phase = phase.Release answer.NoMemory })

  -- a deed adds the pair
  pub record Appends : Type 0 where
    pub place : Place K V D T A
    pub stands : slice_get w.places s.thread ≡ Some place
    pub key : K
    pub value : V
    pub before : place.phase ≡ phase.Append key value
    pub table : ShardPairs K V
    pub held : slice_get w.tables place.shard ≡ Some table
    pub changed : ShardPairs K V
    pub puts : Puts x.eq table changed key (Some (key, value))
    pub room : changed.room ≤ table.room + 1
    pub blocks : List (Block K)
    pub counted : CountsCall w.blocks place.block place.next blocks
    pub after : w' ≡ record (stepped w s (record place { phase = phase.Release answer.None }))
        { tables = slice_set w.tables place.shard changed; blocks = blocks }

  -- a deed does with the found pair what the call does with it: its value is another, it goes, or it stays as it is
  pub record Applies : Type 0 where
    pub place : Place K V D T A
    pub stands : slice_get w.places s.thread ≡ Some place
    pub call : Keyed K V D
    pub before : place.phase ≡ phase.Apply call
    pub table : ShardPairs K V
    pub held : slice_get w.tables place.shard ≡ Some table
    pub pair : K × V
    pub found : pair_of x.eq table.items (keyed_key call) ≡ Some pair
    pub changed : ShardPairs K V
    pub puts : Puts x.eq table changed (keyed_key call) (keyed_leaves x.deeds call (Some pair))
    pub blocks : List (Block K)
    pub counted : CountsCall w.blocks place.block place.next blocks
    pub after : w' ≡ record (stepped w s
        (record place { phase = phase.Release (keyed_answer x.deeds call (Some pair)) }))
        { tables = slice_set w.tables place.shard changed; blocks = blocks }

  -- a deed reads the found pair; it is the position of the block that it lists
  pub record Views : Type 0 where
    pub place : Place K V D T A
    pub stands : slice_get w.places s.thread ≡ Some place
    pub key : K
    pub deed : D
    pub before : place.phase ≡ phase.View key deed
    pub table : ShardPairs K V
    pub held : slice_get w.tables place.shard ≡ Some table
    pub pair : K × V
    pub found : pair_of x.eq table.items key ≡ Some pair
    pub blocks : List (Block K)
    pub listed : ListsBlock w s.thread place (Some 1) blocks
    pub after : w' ≡ record (stepped w s
        (record place {
          block = Some (length w.blocks);
          phase = phase.Release (answer.Read (x.deeds.answer deed pair.0 pair.1));
        })) { blocks = blocks }

  -- a deed reads the guarded pair
  pub record Reads : Type 0 where
    pub place : Place K V D T A
    pub stands : slice_get w.places s.thread ≡ Some place
    pub deed : D
    pub before : place.phase ≡ phase.Read deed
    pub table : ShardPairs K V
    pub held : slice_get w.tables place.shard ≡ Some table
    pub kind : Way K
    pub guarded : place.guard ≡ Some (guard.Pair kind)
    pub key : K
    pub key_is : guarded_key x w.blocks place.block ≡ Some key
    pub pair : K × V
    pub found : pair_of x.eq table.items key ≡ Some pair
    pub blocks : List (Block K)
    pub counted : CountsCall w.blocks place.block place.next blocks
    pub after : w' ≡ record (stepped w s
        (record place { phase = phase.Answer (answer.Read (x.deeds.answer deed pair.0 pair.1)) })) { blocks = blocks }

  -- a deed does with the guarded pair what the call does with it: its value or its key is another, or it goes, and the
  -- guard ends or stays
  pub record Changes : Type 0 where
    pub place : Place K V D T A
    pub stands : slice_get w.places s.thread ≡ Some place
    pub call : Held V D
    pub before : place.phase ≡ phase.Change call
    pub table : ShardPairs K V
    pub held : slice_get w.tables place.shard ≡ Some table
    pub kind : Way K
    pub guarded : place.guard ≡ Some (guard.Pair kind)
    pub key : K
    pub key_is : guarded_key x w.blocks place.block ≡ Some key
    pub pair : K × V
    pub found : pair_of x.eq table.items key ≡ Some pair
    pub changed : ShardPairs K V
    pub puts : Puts x.eq table changed key (pair_in (held_leaves x.deeds call (lent kind pair)))
    pub blocks : List (Block K)
    pub counted : CountsCall w.blocks place.block place.next blocks
    pub after : w' ≡ record (stepped w s (record place {
      guard = if ends_guard call then None else place.guard;
      phase = changed_phase (ends_guard call) (held_answer x.deeds call (lent kind pair));
    })) { tables = slice_set w.tables place.shard changed; blocks = blocks }

  -- a deed adds the pair of a vacant guard's key, and the guard is exclusive
  pub record Fills : Type 0 where
    pub place : Place K V D T A
    pub stands : slice_get w.places s.thread ≡ Some place
    pub value : V
    pub before : place.phase ≡ phase.Fill value
    pub table : ShardPairs K V
    pub held : slice_get w.tables place.shard ≡ Some table
    pub key : K
    pub guarded : place.guard ≡ Some (guard.Vacant key)
    pub changed : ShardPairs K V
    pub puts : Puts x.eq table changed key (Some (key, value))
    pub room : changed.room ≤ table.room + 1
    pub blocks : List (Block K)
    pub counted : CountsCall w.blocks place.block place.next blocks
    pub after : w' ≡ record (stepped w s
        (record place { guard = Some (guard.Pair way.Exclusive); phase = phase.Answer answer.Held })) {
          tables = slice_set w.tables place.shard changed;
          blocks = blocks;
        }

  -- a guard that held its shard alone shares it: the downgrade of the shard's lock begins and makes its first act,
  -- which leaves no moment without a hold
  pub record Downgrades : Type 0 where
    pub place : Place K V D T A
    pub stands : slice_get w.places s.thread ≡ Some place
    pub before : place.phase ≡ phase.Downgrade
    pub guarded : place.guard ≡ Some (guard.Pair way.Exclusive)
    pub hold : Hold
    pub more : List Hold
    pub holds : place.holds ≡ hold ∷ more
    pub alone : hold.mode ≡ Exclusive
    pub locks : Shown
    pub turns : LockStarts s.thread hold.shard call.Downgrade s.fair w.locks locks
    pub blocks : List (Block K)
    pub counted : CountsCall w.blocks place.block place.next blocks
    pub after : w' ≡ record (stepped w s (record place {
      holds = record hold { mode = Shared } ∷ more;
      guard = Some (guard.Pair way.Shared);
      phase = phase.Answer answer.Held;
    })) {
      locks = locks;
      blocks = blocks;
    }

  -- a release ends the thread's hold, and its guard with it: the release of the shard's lock begins and makes its first
  -- act
  pub record Releases : Type 0 where
    pub place : Place K V D T A
    pub stands : slice_get w.places s.thread ≡ Some place
    pub answer : Answer K V T A
    pub before : place.phase ≡ phase.Release answer
    pub hold : Hold
    pub more : List Hold
    pub holds : place.holds ≡ hold ∷ more
    pub locks : Shown
    pub gives : LockStarts s.thread hold.shard (gives_up hold.mode) s.fair w.locks locks
    pub blocks : List (Block K)
    pub counted : CountsCall w.blocks (if is_some place.guard then place.block else None) place.next blocks
    pub after : w' ≡ record (stepped w s (record place { holds = more; guard = None; phase = phase.Answer answer }))
        { locks = locks; blocks = blocks }

  -- an answer carries the start into the reply
  pub record Answers : Type 0 where
    pub place : Place K V D T A
    pub stands : slice_get w.places s.thread ≡ Some place
    pub answer : Answer K V T A
    pub before : place.phase ≡ phase.Answer answer
    pub start : ℕ
    pub begun : place.started ≡ Some start
    pub out : stand_in w.locks s.thread ≡ None
    pub blocks : List (Block K)
    pub ended : EndsCall w.blocks place.block place.visits place.next (next_step w) blocks
    pub after : w' ≡ record (stepped w s (record place {
      next = place.next + 1;
      started = None;
      block = if place.closes then None else place.block;
      visits = [];
      count = 0;
      phase = phase.Rest;
    })) {
      blocks = blocks;
      replies = w.replies ++ record {
        thread = s.thread;
        call = place.next;
        start = start;
        end = next_step w;
        answer = answer;
      } ∷ [];
    }

  -- a walk gives back the shard that it has held longest: the release of the shard's lock begins and makes its first
  -- act
  pub record GivesBack (from to : Walk D → Phase K V D T A) : Type 0 where
    pub place : Place K V D T A
    pub stands : slice_get w.places s.thread ≡ Some place
    pub walk : Walk D
    pub before : place.phase ≡ from walk
    pub hold : Hold
    pub more : List Hold
    pub holds : place.holds ≡ hold ∷ more
    pub locks : Shown
    pub gives : LockStarts s.thread hold.shard (gives_up hold.mode) s.fair w.locks locks
    pub after : w' ≡ record (stepped w s (record place { holds = more; phase = to walk })) { locks = locks }

  -- the next visit of a walk starts: it asks for the next shard
  pub record StartsVisit : Type 0 where
    pub place : Place K V D T A
    pub stands : slice_get w.places s.thread ≡ Some place
    pub walk : Walk D
    pub before : place.phase ≡ phase.Onward walk
    pub out : stand_in w.locks s.thread ≡ None
    pub locks : Shown
    pub begins : LockBegins s.thread (place.shard + 1) (asks_for (walk_mode walk)) w.locks locks
    pub after : w' ≡ record (stepped w s (record place { shard = place.shard + 1; phase = phase.Reach walk }))
        { locks = locks }

  -- a walk looks into the shard that is held now; it is the position of its visit's block, which it lists
  pub record LooksAround : Type 0 where
    pub place : Place K V D T A
    pub stands : slice_get w.places s.thread ≡ Some place
    pub walk : Walk D
    pub before : place.phase ≡ phase.Visit walk
    pub out : stand_in w.locks s.thread ≡ None
    pub table : ShardPairs K V
    pub held : slice_get w.tables place.shard ≡ Some table
    pub behind : ShardPairs K V
    pub looked : IsLookedAt x.eq walk table behind
    pub enough : length table.items ≤ table.room
    pub count : ℕ
    pub counted : count ≡ saturated (place.count + looked_count walk table.items table.room)
    pub block : Block K
    pub listed : IsListedVisit w s.thread place (looked_keys walk table.items) block
    pub next : Phase K V D T A
    pub reads : List T
    pub leads : LeadsOn walk
        (walk_ends x.shards walk place.shard (all_visited x.eq (looked_keys walk table.items) table.items) count)
        (all_visited x.eq (looked_keys walk table.items) table.items) place.reads count next reads
    pub after : w' ≡ record (stepped w s (record place {
      visits = place.visits ++ length w.blocks ∷ [];
      reads = reads;
      count = count;
      phase = next;
    })) { tables = slice_set w.tables place.shard behind; blocks = w.blocks ++ block ∷ [] }

  -- a walk's look for which room is refused: its visit has no block, the shard stays as it is, and the walk goes on to
  -- its release
  pub record IsRefusedVisit : Type 0 where
    pub place : Place K V D T A
    pub stands : slice_get w.places s.thread ≡ Some place
    pub walk : Walk D
    pub before : place.phase ≡ phase.Visit walk
    pub out : stand_in w.locks s.thread ≡ None
    pub grows : walk_may_grow walk ≡ true
    pub table : ShardPairs K V
    pub held : slice_get w.tables place.shard ≡ Some table
    pub some : 0 < length table.items
    pub after : w' ≡ stepped w s (record place { reads = []; phase = phase.Release answer.NoMemory })

  -- a find of a pair that the visit hasn't done
  pub record Seeks : Type 0 where
    pub place : Place K V D T A
    pub stands : slice_get w.places s.thread ≡ Some place
    pub walk : Walk D
    pub before : place.phase ≡ phase.Seek walk
    pub after : w' ≡ stepped w s (record place { phase = phase.Item walk })

  -- a deed does with a pair of the visit what the walk does with a pair
  pub record DoesItem : Type 0 where
    pub place : Place K V D T A
    pub stands : slice_get w.places s.thread ≡ Some place
    pub walk : Walk D
    pub before : place.phase ≡ phase.Item walk
    pub table : ShardPairs K V
    pub held : slice_get w.tables place.shard ≡ Some table
    pub index : ℕ
    pub own : slice_get place.visits place.shard ≡ Some index
    pub block : Block K
    pub listed : slice_get w.blocks index ≡ Some block
    pub pair : K × V
    pub found : pair_of x.eq table.items pair.0 ≡ Some pair
    pub fresh : is_visited x.eq block.visited.items pair.0 ≡ false
    pub changed : ShardPairs K V
    pub item : IsItemOf x.deeds x.eq walk table changed pair
    pub grown : Block K
    pub visited : VisitsKey pair.0 block grown
    pub next : Phase K V D T A
    pub reads : List T
    pub leads : LeadsOn walk
        (walk_ends x.shards walk place.shard (all_visited x.eq grown.visited.items changed.items)
        (saturated (place.count + 1))) (all_visited x.eq grown.visited.items changed.items)
        (place.reads ++ visit_reads x.deeds walk (Some pair)) (saturated (place.count + 1)) next reads
    pub after : w' ≡ record (stepped w s
        (record place { reads = reads; count = saturated (place.count + 1); phase = next })) {
          tables = slice_set w.tables place.shard changed;
          blocks = slice_set w.blocks index grown;
        }

-- a find for which the shard has to grow: it grows, or that is refused
abbrev pub Grows : {K V S D T A : Type 0} → Setup K V D T → State K V S D T A → Step → State K V S D T A → Type 0
Grows x w s w' = GrowsShard x w s w' ⊎ IsRefusedGrowth x w s w'

-- a find: the admission before it ends with it
pub record Looks {K V S D T A : Type 0} (x : Setup K V D T) (w : State K V S D T A) (s : Step)
    (w' : State K V S D T A) : Type 0 where
  pub mid : State K V S D T A
  pub enters : (mid ≡ w) ⊎ Enters w s.thread mid
  pub finds : Finds x mid s w'

-- what ends with the step of an answer: what was owed to a lock, a try or a call with a deadline that could not have
-- its shard, or a walk that was to give no item
pub data Concludes {K V S D T A : Type 0} (w : State K V S D T A) (t : ℕ) (w' : State K V S D T A) : Type 0 where
  owed : Leaves w t w' → Concludes w t w'
  locked : IsLocked w t w' → Concludes w t w'
  idle : GivesNone w t w' → Concludes w t w'

-- an answer: what was owed to a lock before it ends with it
pub record Replies {K V S D T A : Type 0} (x : Setup K V D T) (w : State K V S D T A) (s : Step)
    (w' : State K V S D T A) : Type 0 where
  pub mid : State K V S D T A
  pub leaves : (mid ≡ w) ⊎ Concludes w s.thread mid
  pub answers : Answers x mid s w'

-- a walk parts with the last shard: the admission to the next one before it ends with it
pub record Parts {K V S D T A : Type 0} (x : Setup K V D T) (w : State K V S D T A) (s : Step)
    (w' : State K V S D T A) : Type 0 where
  pub mid : State K V S D T A
  pub enters : (mid ≡ w) ⊎ Reaches w s.thread mid
  pub gives : GivesBack x mid s w' phase.Part phase.Visit

-- a visit begins: the admission before it, or what was owed to the last shard's lock, ends with it
pub record Visits {K V S D T A : Type 0} (x : Setup K V D T) (w : State K V S D T A) (s : Step)
    (w' : State K V S D T A) : Type 0 where
  pub mid : State K V S D T A
  pub enters : (mid ≡ w) ⊎ (Reaches w s.thread mid ⊎ Leaves w s.thread mid)
  pub looks : LooksAround x mid s w' ⊎ IsRefusedVisit x mid s w'

-- a walk goes on to its next shard: what was owed to the last one's lock ends with it
pub record GoesOn {K V S D T A : Type 0} (x : Setup K V D T) (w : State K V S D T A) (s : Step)
    (w' : State K V S D T A) : Type 0 where
  pub mid : State K V S D T A
  pub leaves : (mid ≡ w) ⊎ Leaves w s.thread mid
  pub starts : StartsVisit x mid s w'

-- one step that a thread makes itself, of one kind
pub data IsOwnStep {K V S D T A : Type 0} (x : Setup K V D T) (w : State K V S D T A) (s : Step)
    (w' : State K V S D T A) : Type 0 where
  start : Starts x w s w' → IsOwnStep x w s w'
  lock : MovesLock x w s w' → IsOwnStep x w s w'
  find : Looks x w s w' → IsOwnStep x w s w'
  find_grows : GrowsShard x w s w' → IsOwnStep x w s w'
  find_refused : IsRefusedGrowth x w s w' → IsOwnStep x w s w'
  deed_appends : Appends x w s w' → IsOwnStep x w s w'
  deed_applies : Applies x w s w' → IsOwnStep x w s w'
  deed_views : Views x w s w' → IsOwnStep x w s w'
  deed_reads : Reads x w s w' → IsOwnStep x w s w'
  deed_changes : Changes x w s w' → IsOwnStep x w s w'
  deed_fills : Fills x w s w' → IsOwnStep x w s w'
  downgrade : Downgrades x w s w' → IsOwnStep x w s w'
  release : Releases x w s w' → IsOwnStep x w s w'
  answers : Replies x w s w' → IsOwnStep x w s w'
  visit_starts : GoesOn x w s w' → IsOwnStep x w s w'
  visit_parts : Parts x w s w' → IsOwnStep x w s w'
  visit_looks : Visits x w s w' → IsOwnStep x w s w'
  visit_seeks : Seeks x w s w' → IsOwnStep x w s w'
  visit_does : DoesItem x w s w' → IsOwnStep x w s w'
  visit_gives : GivesBack x w s w' phase.Give phase.Onward → IsOwnStep x w s w'

-- one step of a world: one that its thread makes itself, or its thread's deadline
pub data IsStep {K V S D T A : Type 0} (x : Setup K V D T) (w : State K V S D T A) (s : Step)
    (w' : State K V S D T A) : Type 0 where
  by_itself : s.deadline ≡ false → IsOwnStep x w s w' → IsStep x w s w'
  by_deadline : s.deadline ≡ true → Expires x w s w' → IsStep x w s w'
