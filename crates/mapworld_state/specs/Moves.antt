-- Where each kind of step leads a thread.
use Rattle.std.specs.Prelude.{◌≡◌, ℕ, ◌+◌, ◌-◌, Bool, true, false, not, nat_lt, if◌then◌else◌, List, [], ◌∷◌, ◌++◌}
use Rattle.std.specs.Prelude.{Option, Some, None, slice_get, slice_set, MatchBool, ◌==◌}
use Rattle.mapworld_calls.specs.declared.ask.Ask.{Ask}
use Rattle.mapworld_calls.specs.declared.ask.Ask.TheVariants as ask
use Rattle.mapworld_calls.specs.declared.ask.Keyed.{Keyed}
use Rattle.mapworld_calls.specs.declared.ask.Keyed.TheVariants as keyed
use Rattle.mapworld_calls.specs.declared.ask.Begin.{Begin}
use Rattle.mapworld_calls.specs.declared.ask.Begin.TheVariants as begin
use Rattle.mapworld_calls.specs.declared.ask.Held.{Held}
use Rattle.mapworld_calls.specs.declared.ask.Held.TheVariants as held
use Rattle.mapworld_calls.specs.declared.block.Block.{Block}
use Rattle.mapworld_calls.specs.declared.reply.Answer.{Answer}
use Rattle.mapworld_calls.specs.declared.reply.Answer.TheVariants as answer
use Rattle.mapworld_calls.specs.Programs.{is_drop, is_try, keyed_has_deadline, keyed_key, opening_has_deadline}
use Rattle.mapworld_calls.specs.Programs.{opening_key, stop_of}
use Rattle.mapworld_calls.specs.Calls.{At, shared, exclusive, occupied}
use Rattle.mapworld_state.specs.declared.holds.Mode.{Mode}
use Rattle.mapworld_state.specs.declared.holds.Mode.TheVariants.{Shared, Exclusive}
use Rattle.mapworld_state.specs.declared.holds.Manner.{Manner}
use Rattle.mapworld_state.specs.declared.holds.Manner.TheVariants.{Waits, Tries, UntilDeadline}
use Rattle.mapworld_state.specs.declared.step.Step.{Step}
use Rattle.mapworld_state.specs.declared.place.Request.{Request}
use Rattle.mapworld_state.specs.declared.place.Request.TheVariants as request
use Rattle.mapworld_state.specs.declared.place.Way.{Way}
use Rattle.mapworld_state.specs.declared.place.Way.TheVariants as way
use Rattle.mapworld_state.specs.declared.place.Guard.{Guard}
use Rattle.mapworld_state.specs.declared.place.Guard.TheVariants as guard
use Rattle.mapworld_state.specs.declared.place.Growth.{Growth}
use Rattle.mapworld_state.specs.declared.place.Growth.TheVariants as growth
use Rattle.mapworld_state.specs.declared.place.Phase.{Phase}
use Rattle.mapworld_state.specs.declared.place.Phase.TheVariants as phase
use Rattle.mapworld_state.specs.Places.{Place}
use Rattle.mapworld_state.specs.State.{State, next_step}

-- a request is a call on one key: the call, its key, and how it holds the shard
abbrev pub ask_of : {K V D : Type 0} → Request K V D → Ask K V D
ask_of (request.Keyed k) = ask.Keyed k
ask_of (request.Begin b) = ask.Begin b

abbrev pub request_key : {K V D : Type 0} → Request K V D → K
request_key (request.Keyed k) = keyed_key k
request_key (request.Begin b) = opening_key b

-- how a call holds its shard
abbrev pub keyed_mode : {K V D : Type 0} → Keyed K V D → Mode
keyed_mode (keyed.View k d) = Shared
keyed_mode (keyed.ContainsKey k) = Shared
keyed_mode k = Exclusive

-- how a guard that lends a pair holds its shard, and which one an opening gives of a pair
abbrev pub way_mode : {K : Type 0} → Way K → Mode
way_mode way.Shared = Shared
way_mode way.Exclusive = Exclusive
way_mode (way.Occupied k) = Exclusive

abbrev pub opening_way : {K : Type 0} → Begin K → Way K
opening_way (begin.Get k) = way.Shared
opening_way (begin.GetMut k) = way.Exclusive
opening_way (begin.Entry k) = way.Occupied k
opening_way (begin.TryGet k) = way.Shared
opening_way (begin.TryGetMut k) = way.Exclusive
opening_way (begin.TryEntry k) = way.Occupied k
opening_way (begin.GetUntil k) = way.Shared
opening_way (begin.GetMutUntil k) = way.Exclusive

abbrev pub opening_mode : {K : Type 0} → Begin K → Mode
opening_mode b = way_mode (opening_way b)

abbrev pub mode_of : {K V D : Type 0} → Request K V D → Mode
mode_of (request.Keyed k) = keyed_mode k
mode_of (request.Begin b) = opening_mode b

-- how long it waits for its shard: not at all as a try, and up to its deadline if it has one
abbrev pub manner : (tries timed : Bool) → Manner
manner tries timed = if tries then Tries else (if timed then UntilDeadline else Waits)

abbrev pub keyed_manner : {K V D : Type 0} → Keyed K V D → Manner
keyed_manner k = manner false (keyed_has_deadline k)

abbrev pub opening_manner : {K : Type 0} → Begin K → Manner
opening_manner b = manner (is_try b) (opening_has_deadline b)

abbrev pub request_manner : {K V D : Type 0} → Request K V D → Manner
request_manner (request.Keyed k) = keyed_manner k
request_manner (request.Begin b) = opening_manner b

-- whether a call is the last one of its block, if it has one
abbrev pub is_last : {K V D : Type 0} → Ask K V D → Bool
is_last (ask.Keyed k) = true
is_last (ask.Begin b) = false
is_last (ask.Held h) = is_drop h
is_last (ask.Walk f) = true

-- a key at its guard: the guard lends a pair, in its way
abbrev pub lent : {K V : Type 0} → Way K → K × V → At K V
lent way.Shared p = shared p
lent way.Exclusive p = exclusive p
lent (way.Occupied k) p = occupied k p

-- how a guard lends its pair, if it lends one; and the handed-in key of one that lends none
abbrev pub lent_way : {K : Type 0} → Option (Guard K) → Option (Way K)
lent_way None = None
lent_way (Some (guard.Pair kind)) = Some kind
lent_way (Some (guard.Vacant k)) = None

abbrev pub vacant_key : {K : Type 0} → Option (Guard K) → Option K
vacant_key None = None
vacant_key (Some (guard.Pair kind)) = None
vacant_key (Some (guard.Vacant k)) = Some k

-- the phase behind the start of a call on a guard, by its kind: before a deed or a release, or, where it isn't for that
-- kind or only gives back the guard or the handed-in key, before the answer
abbrev pub shared_phase : {K V D T A : Type 0} → Held V D → Phase K V D T A
shared_phase (held.Read d) = phase.Read d
shared_phase held.Drop = phase.Release answer.Done
shared_phase h = phase.Answer answer.WrongGuard

abbrev pub exclusive_phase : {K V D T A : Type 0} → Held V D → Phase K V D T A
exclusive_phase (held.Read d) = phase.Read d
exclusive_phase (held.Write d) = phase.Change (held.Write d)
exclusive_phase held.Downgrade = phase.Downgrade
exclusive_phase held.Drop = phase.Release answer.Done
exclusive_phase h = phase.Answer answer.WrongGuard

abbrev pub occupied_phase : {K V D T A : Type 0} → Held V D → K → Phase K V D T A
occupied_phase (held.Read d) key = phase.Read d
occupied_phase (held.Write d) key = phase.Change (held.Write d)
occupied_phase held.Downgrade key = phase.Answer answer.WrongGuard
occupied_phase (held.Insert v) key = phase.Change (held.Insert v)
occupied_phase held.IntoRef key = phase.Answer answer.Held
occupied_phase held.Remove key = phase.Change held.Remove
occupied_phase held.RemoveEntry key = phase.Change held.RemoveEntry
occupied_phase (held.ReplaceEntry v) key = phase.Change (held.ReplaceEntry v)
occupied_phase held.IntoKey key = phase.Release (answer.Key key)
occupied_phase held.Drop key = phase.Release answer.Done

abbrev pub vacant_phase : {K V D T A : Type 0} → Held V D → K → Phase K V D T A
vacant_phase (held.Insert v) key = phase.Fill v
vacant_phase held.IntoKey key = phase.Release (answer.Key key)
vacant_phase held.Drop key = phase.Release answer.Done
vacant_phase h key = phase.Answer answer.WrongGuard

abbrev pub held_phase : {K V D T A : Type 0} → Option (Guard K) → Held V D → Phase K V D T A
held_phase None h = phase.Answer answer.NoGuard
held_phase (Some (guard.Pair way.Shared)) h = shared_phase h
held_phase (Some (guard.Pair way.Exclusive)) h = exclusive_phase h
held_phase (Some (guard.Pair (way.Occupied k))) h = occupied_phase h k
held_phase (Some (guard.Vacant k)) h = vacant_phase h k

-- whether a walk that is to give so many items has none left to give behind n of them
abbrev pub stops_at : Option ℕ → ℕ → Bool
stops_at None n = false
stops_at (Some stop) n = not (nat_lt n stop)

-- a start: before an admission, or as the guard has it
abbrev pub start_phase : {K V D T A : Type 0} → Ask K V D → Option (Guard K) → Phase K V D T A
start_phase (ask.Keyed k) g = phase.Admit (request.Keyed k)
start_phase (ask.Begin b) g = phase.Admit (request.Begin b)
start_phase (ask.Held h) g = held_phase g h
start_phase (ask.Walk f) g = if stops_at (stop_of f) 0 then phase.Idle f else phase.Reach f

-- the guard behind a start: an occupied one becomes exclusive, an entry's guard gives back its key and ends, and any
-- other stays
abbrev pub occupied_guard : {K V D : Type 0} → Held V D → K → Option (Guard K)
occupied_guard held.IntoRef k = Some (guard.Pair way.Exclusive)
occupied_guard held.IntoKey k = None
occupied_guard h k = Some (guard.Pair (way.Occupied k))

abbrev pub vacant_guard : {K V D : Type 0} → Held V D → K → Option (Guard K)
vacant_guard held.IntoKey k = None
vacant_guard h k = Some (guard.Vacant k)

abbrev pub held_guard : {K V D : Type 0} → Option (Guard K) → Held V D → Option (Guard K)
held_guard None h = None
held_guard (Some (guard.Pair way.Shared)) h = Some (guard.Pair way.Shared)
held_guard (Some (guard.Pair way.Exclusive)) h = Some (guard.Pair way.Exclusive)
held_guard (Some (guard.Pair (way.Occupied k))) h = occupied_guard h k
held_guard (Some (guard.Vacant k)) h = vacant_guard h k

abbrev pub start_guard : {K V D : Type 0} → Ask K V D → Option (Guard K) → Option (Guard K)
start_guard (ask.Keyed k) g = g
start_guard (ask.Begin b) g = g
start_guard (ask.Held h) g = held_guard g h
start_guard (ask.Walk f) g = g

abbrev pub start_shard : {K V D : Type 0} → (K → ℕ) → Ask K V D → ℕ → ℕ
start_shard route (ask.Keyed k) shard = route (keyed_key k)
start_shard route (ask.Begin b) shard = route (opening_key b)
start_shard route (ask.Held h) shard = shard
start_shard route (ask.Walk f) shard = 0

-- whether the call is told at its start, by the phase behind it
abbrev pub is_told : {K V D T A : Type 0} → Phase K V D T A → Bool
is_told (phase.Answer a) = true
is_told (phase.Release (answer.Key k)) = true
is_told f = false

-- the block that a start counts its call in: that of the session, where the call is told at its start
abbrev pub start_counts : {K V D T A : Type 0} → Phase K V D T A → Option ℕ → Option ℕ
start_counts f block = if is_told f then block else None

-- a call on the guard that changes the pair which the guard lends
abbrev pub is_change : {K V D : Type 0} → Held V D → Way K → Bool
is_change (held.Write d) way.Exclusive = true
is_change (held.Write d) (way.Occupied k) = true
is_change (held.Insert v) (way.Occupied k) = true
is_change held.Remove (way.Occupied k) = true
is_change held.RemoveEntry (way.Occupied k) = true
is_change (held.ReplaceEntry v) (way.Occupied k) = true
is_change h w = false

-- whether the guard ends by it, and whether the pair goes
abbrev pub ends_guard : {V D : Type 0} → Held V D → Bool
ends_guard held.Remove = true
ends_guard held.RemoveEntry = true
ends_guard (held.ReplaceEntry v) = true
ends_guard h = false

abbrev pub takes_pair : {V D : Type 0} → Held V D → Bool
takes_pair held.Remove = true
takes_pair held.RemoveEntry = true
takes_pair h = false

-- the phase behind it
abbrev pub changed_phase : {K V D T A : Type 0} → Bool → Answer K V T A → Phase K V D T A
changed_phase ends a = if ends then phase.Release a else phase.Answer a

-- a call on an absent key for whose pair room is made
abbrev pub request_of : {K V D : Type 0} → Growth K V → Request K V D
request_of (growth.Insert k v) = request.Keyed (keyed.Insert k v)
request_of (growth.InsertUntil k v) = request.Keyed (keyed.InsertUntil k v)
request_of (growth.Entry k) = request.Begin (begin.Entry k)
request_of (growth.TryEntry k) = request.Begin (begin.TryEntry k)

abbrev pub growth_key : {K V : Type 0} → Growth K V → K
growth_key (growth.Insert k v) = k
growth_key (growth.InsertUntil k v) = k
growth_key (growth.Entry k) = k
growth_key (growth.TryEntry k) = k

-- a find: by whether the key has a pair in the shard, and whether the shard has room for one more
abbrev pub found_phase : {K V D T A : Type 0} → Request K V D → Bool → Bool → Phase K V D T A
found_phase (request.Keyed (keyed.Insert k v)) true room = phase.Apply (keyed.Insert k v)
found_phase (request.Keyed (keyed.Insert k v)) false true = phase.Append k v
found_phase (request.Keyed (keyed.Insert k v)) false false = phase.Grow (growth.Insert k v)
found_phase (request.Keyed (keyed.Remove k)) true room = phase.Apply (keyed.Remove k)
found_phase (request.Keyed (keyed.Remove k)) false room = phase.Release answer.None
found_phase (request.Keyed (keyed.RemoveIf k d)) true room = phase.Apply (keyed.RemoveIf k d)
found_phase (request.Keyed (keyed.RemoveIf k d)) false room = phase.Release answer.None
found_phase (request.Keyed (keyed.RemoveIfMut k d)) true room = phase.Apply (keyed.RemoveIfMut k d)
found_phase (request.Keyed (keyed.RemoveIfMut k d)) false room = phase.Release answer.None
found_phase (request.Keyed (keyed.Alter k d)) true room = phase.Apply (keyed.Alter k d)
found_phase (request.Keyed (keyed.Alter k d)) false room = phase.Release answer.Done
found_phase (request.Keyed (keyed.View k d)) true room = phase.View k d
found_phase (request.Keyed (keyed.View k d)) false room = phase.Release answer.None
found_phase (request.Keyed (keyed.ContainsKey k)) true room = phase.Release (answer.Flag true)
found_phase (request.Keyed (keyed.ContainsKey k)) false room = phase.Release (answer.Flag false)
found_phase (request.Keyed (keyed.InsertUntil k v)) true room = phase.Apply (keyed.InsertUntil k v)
found_phase (request.Keyed (keyed.InsertUntil k v)) false true = phase.Append k v
found_phase (request.Keyed (keyed.InsertUntil k v)) false false = phase.Grow (growth.InsertUntil k v)
found_phase (request.Keyed (keyed.RemoveUntil k)) true room = phase.Apply (keyed.RemoveUntil k)
found_phase (request.Keyed (keyed.RemoveUntil k)) false room = phase.Release answer.None
found_phase (request.Begin b) true room = phase.Answer answer.Held
found_phase (request.Begin (begin.Get k)) false room = phase.Release answer.None
found_phase (request.Begin (begin.GetMut k)) false room = phase.Release answer.None
found_phase (request.Begin (begin.TryGet k)) false room = phase.Release answer.None
found_phase (request.Begin (begin.TryGetMut k)) false room = phase.Release answer.None
found_phase (request.Begin (begin.GetUntil k)) false room = phase.Release answer.None
found_phase (request.Begin (begin.GetMutUntil k)) false room = phase.Release answer.None
found_phase (request.Begin (begin.Entry k)) false true = phase.Answer answer.Vacant
found_phase (request.Begin (begin.Entry k)) false false = phase.Grow (growth.Entry k)
found_phase (request.Begin (begin.TryEntry k)) false true = phase.Answer answer.Vacant
found_phase (request.Begin (begin.TryEntry k)) false false = phase.Grow (growth.TryEntry k)

-- how many of its calls the block that a find lists has done: none where a deed is to come, and one where the find is
-- all that there is to do; where a growth is needed, or the pair is to be read, it lists none
abbrev pub found_done : {K V D : Type 0} → Request K V D → Bool → Bool → Option ℕ
found_done (request.Keyed (keyed.Insert k v)) true room = Some 0
found_done (request.Keyed (keyed.Insert k v)) false true = Some 0
found_done (request.Keyed (keyed.Insert k v)) false false = None
found_done (request.Keyed (keyed.Remove k)) true room = Some 0
found_done (request.Keyed (keyed.Remove k)) false room = Some 1
found_done (request.Keyed (keyed.RemoveIf k d)) true room = Some 0
found_done (request.Keyed (keyed.RemoveIf k d)) false room = Some 1
found_done (request.Keyed (keyed.RemoveIfMut k d)) true room = Some 0
found_done (request.Keyed (keyed.RemoveIfMut k d)) false room = Some 1
found_done (request.Keyed (keyed.Alter k d)) true room = Some 0
found_done (request.Keyed (keyed.Alter k d)) false room = Some 1
found_done (request.Keyed (keyed.View k d)) true room = None
found_done (request.Keyed (keyed.View k d)) false room = Some 1
found_done (request.Keyed (keyed.ContainsKey k)) there room = Some 1
found_done (request.Keyed (keyed.InsertUntil k v)) true room = Some 0
found_done (request.Keyed (keyed.InsertUntil k v)) false true = Some 0
found_done (request.Keyed (keyed.InsertUntil k v)) false false = None
found_done (request.Keyed (keyed.RemoveUntil k)) true room = Some 0
found_done (request.Keyed (keyed.RemoveUntil k)) false room = Some 1
found_done (request.Begin b) true room = Some 1
found_done (request.Begin (begin.Get k)) false room = Some 1
found_done (request.Begin (begin.GetMut k)) false room = Some 1
found_done (request.Begin (begin.TryGet k)) false room = Some 1
found_done (request.Begin (begin.TryGetMut k)) false room = Some 1
found_done (request.Begin (begin.GetUntil k)) false room = Some 1
found_done (request.Begin (begin.GetMutUntil k)) false room = Some 1
found_done (request.Begin (begin.Entry k)) false true = Some 1
found_done (request.Begin (begin.Entry k)) false false = None
found_done (request.Begin (begin.TryEntry k)) false true = Some 1
found_done (request.Begin (begin.TryEntry k)) false false = None

-- the guard that a find gives
abbrev pub found_guard : {K V D : Type 0} → Request K V D → Bool → Bool → Option (Guard K)
found_guard (request.Keyed k) there room = None
found_guard (request.Begin b) true room = Some (guard.Pair (opening_way b))
found_guard (request.Begin (begin.Get k)) false room = None
found_guard (request.Begin (begin.GetMut k)) false room = None
found_guard (request.Begin (begin.TryGet k)) false room = None
found_guard (request.Begin (begin.TryGetMut k)) false room = None
found_guard (request.Begin (begin.GetUntil k)) false room = None
found_guard (request.Begin (begin.GetMutUntil k)) false room = None
found_guard (request.Begin (begin.Entry k)) false true = Some (guard.Vacant k)
found_guard (request.Begin (begin.Entry k)) false false = None
found_guard (request.Begin (begin.TryEntry k)) false true = Some (guard.Vacant k)
found_guard (request.Begin (begin.TryEntry k)) false false = None

-- the block of a thread behind a step that may have listed one
abbrev pub block_behind : Option ℕ → ℕ → Option ℕ → Option ℕ
block_behind None next block = block
block_behind (Some done) next block = Some next

-- the world with one more step, behind which its thread stands there
abbrev pub stepped : {K V S D T A : Type 0} → State K V S D T A → Step → Place K V D T A → State K V S D T A
stepped w s p = record w { steps = w.steps ++ s ∷ []; places = slice_set w.places s.thread p }

-- a block that is listed with its call started, at this step
pub record IsListed {K V S D T A : Type 0} (w : State K V S D T A) (t : ℕ) (p : Place K V D T A) (n : ℕ)
    (b : Block K) : Type 0 where
  pub thread : b.thread ≡ t
  pub call : b.call ≡ p.next
  pub visit : b.visit ≡ 0
  pub start : p.started ≡ Some b.start
  pub position : b.position ≡ next_step w
  pub end : b.end ≡ None
  pub done : b.done.value ≡ n
  pub visited : b.visited.items ≡ []

-- a visit's block that is listed with those keys done, at this step
pub record IsListedVisit {K V S D T A : Type 0} (w : State K V S D T A) (t : ℕ) (p : Place K V D T A) (keys : List K)
    (b : Block K) : Type 0 where
  pub thread : b.thread ≡ t
  pub call : b.call ≡ p.next
  pub visit : b.visit ≡ p.shard
  pub start : p.started ≡ Some b.start
  pub position : b.position ≡ next_step w
  pub end : b.end ≡ None
  pub done : b.done.value ≡ 0
  pub visited : b.visited.items ≡ keys

-- a visit's block that has done one key more
pub record VisitsKey {K : Type 0} (key : K) (b c : Block K) : Type 0 where
  pub thread : c.thread ≡ b.thread
  pub call : c.call ≡ b.call
  pub visit : c.visit ≡ b.visit
  pub start : c.start ≡ b.start
  pub position : c.position ≡ b.position
  pub end : c.end ≡ b.end
  pub done : c.done.value ≡ b.done.value
  pub visited : c.visited.items ≡ b.visited.items ++ key ∷ []

-- the blocks behind a step that may list one
abbrev pub ListsBlock : {K V S D T A : Type 0} → State K V S D T A → ℕ → Place K V D T A → Option ℕ → List (Block K)
    → Type 0
ListsBlock w t p None blocks = blocks ≡ w.blocks
ListsBlock {K} w t p (Some done) blocks = (b : Block K) × IsListed w t p done b × (blocks ≡ w.blocks ++ b ∷ [])

-- a block that has done its calls up to that one
pub record CountsIn {K : Type 0} (now : ℕ) (b c : Block K) : Type 0 where
  pub thread : c.thread ≡ b.thread
  pub call : c.call ≡ b.call
  pub visit : c.visit ≡ b.visit
  pub start : c.start ≡ b.start
  pub position : c.position ≡ b.position
  pub end : c.end ≡ b.end
  pub done : c.done.value ≡ now - b.call + 1
  pub visited : c.visited.items ≡ b.visited.items

abbrev pub CountsCall : {K : Type 0} → List (Block K) → Option ℕ → ℕ → List (Block K) → Type 0
CountsCall bs None call bs' = bs' ≡ bs
CountsCall {K} bs (Some i) call bs' = (b : Block K) × (c : Block K) × (slice_get bs i ≡ Some b) × CountsIn call b c
    × (bs' ≡ slice_set bs i c)

-- a block whose call is answered at that step
pub record EndsAt {K : Type 0} (n : ℕ) (b c : Block K) : Type 0 where
  pub thread : c.thread ≡ b.thread
  pub call : c.call ≡ b.call
  pub visit : c.visit ≡ b.visit
  pub start : c.start ≡ b.start
  pub position : c.position ≡ b.position
  pub end : c.end ≡ Some n
  pub done : c.done.value ≡ b.done.value
  pub visited : c.visited.items ≡ b.visited.items

-- the answer of a keyed call or an opening ends its block's call; that of a call on a guard ends none
abbrev pub EndsBlock : {K : Type 0} → List (Block K) → Option ℕ → ℕ → ℕ → List (Block K) → Type 0
EndsBlock bs None call end bs' = bs' ≡ bs
EndsBlock {K} bs (Some i) call end bs' =
    (b : Block K) × (c : Block K) × (slice_get bs i ≡ Some b) × (MatchBool (b.call == call) (EndsAt end b c) (c ≡ b))
    × (bs' ≡ slice_set bs i c)

-- that of a walk ends those of all its visits
abbrev pub EndsVisits : {K : Type 0} → List (Block K) → List ℕ → ℕ → List (Block K) → Type 0
EndsVisits bs [] end bs' = bs' ≡ bs
EndsVisits {K} bs (i ∷ visits) end bs' =
    (b : Block K) × (c : Block K) × (slice_get bs i ≡ Some b) × EndsAt end b c × EndsVisits (slice_set bs i c) visits
    end bs'

abbrev pub EndsCall : {K : Type 0} → List (Block K) → Option ℕ → List ℕ → ℕ → ℕ → List (Block K) → Type 0
EndsCall bs block [] call end bs' = EndsBlock bs block call end bs'
EndsCall bs block (i ∷ visits) call end bs' = EndsVisits bs (i ∷ visits) end bs'
