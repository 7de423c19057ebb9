-- What holds of a world between two steps, calls half done included.
use Rattle.std.specs.Prelude.{◌≡◌, ℕ, zero, suc, ◌+◌, ◌-◌, ◌^◌, ◌<◌, ◌≤◌, ◌⊎◌, Bool, true, false, if◌then◌else◌}
use Rattle.std.specs.Prelude.{MatchBool, List, [], ◌∷◌, length, map, drop, sum, Option, Some, None, slice_get}
use Rattle.mapworld_calls.specs.declared.ask.Ask.{Ask}
use Rattle.mapworld_calls.specs.declared.ask.Ask.TheVariants as ask
use Rattle.mapworld_calls.specs.declared.ask.Keyed.{Keyed}
use Rattle.mapworld_calls.specs.declared.ask.Keyed.TheVariants as keyed
use Rattle.mapworld_calls.specs.declared.ask.Held.TheVariants as held
use Rattle.mapworld_calls.specs.declared.block.Block.{Block}
use Rattle.mapworld_calls.specs.declared.reply.Reply.{Reply}
use Rattle.mapworld_calls.specs.declared.reply.Answer.{Answer}
use Rattle.mapworld_calls.specs.declared.reply.Answer.TheVariants as answer
use Rattle.mapworld_calls.specs.declared.ask.Walk.{Walk}
use Rattle.mapworld_calls.specs.declared.ask.Walk.TheVariants as walk
use Rattle.mapworld_calls.specs.Programs.{one_guard, keyed_key, saturated, stop_of}
use Rattle.mapworld_calls.specs.Calls.{At, free, vacant, pair_in}
use Rattle.mapworld_calls.specs.Setup.{Setup, ask_at, session_of}
use Rattle.mapworld_calls.specs.Pairs.{pair_of, AreDistinct}
use Rattle.mapworld_calls.specs.Replay.{reached, block_key, contents, before, left, found, IsLastOnShard}
use Rattle.mapworld_calls.specs.Agrees.{HasNoBlock, IsAnsweredBy, IsAnswered, Visit, IsVisited, AreWhole, AreCapacities}
use Rattle.mapworld_calls.specs.Agrees.{IsBelow, number_of, reads_of}
use Rattle.mapworld_calls.specs.Placed.{IsStepOf, answered_of, WellPlaced}
use Rattle.mapworld_state.specs.declared.holds.Mode.{Mode}
use Rattle.mapworld_state.specs.declared.holds.Mode.TheVariants.{Shared, Exclusive}
use Rattle.mapworld_state.specs.declared.holds.Hold.{Hold}
use Rattle.mapworld_state.specs.declared.place.Way.{Way}
use Rattle.mapworld_state.specs.declared.place.Way.TheVariants as way
use Rattle.mapworld_state.specs.declared.place.Guard.{Guard}
use Rattle.mapworld_state.specs.declared.place.Guard.TheVariants as guard
use Rattle.mapworld_state.specs.declared.place.Phase.{Phase}
use Rattle.mapworld_state.specs.declared.place.Phase.TheVariants as phase
use Rattle.mapworld_state.specs.Places.{Place}
use Rattle.mapworld_state.specs.Classes.{class_of, rests_in, may_own_in}
use Rattle.mapworld_state.specs.Held.{HoldsMatch}
use Rattle.mapworld_state.specs.Walks.{walk_mode, hands_over, kept_over, gives_items, all_visited}
use Rattle.mapworld_state.specs.Shards.{ShardPairs, has_room}
use Rattle.mapworld_state.specs.State.{State, threads_of, started_of}
use Rattle.mapworld_state.specs.Moves.{ask_of, request_key, mode_of, is_last, way_mode, lent, is_change, request_of}
use Rattle.mapworld_state.specs.Moves.{growth_key}

-- a number is one of these
abbrev pub IsIn : ℕ → List ℕ → Type 0
IsIn i numbers = (j : ℕ) × (slice_get numbers j ≡ Some i)

-- whether a thread is between two calls, and whether the call that it is in may have its block listed already
abbrev pub is_resting : {K V D T A : Type 0} → Phase K V D T A → Bool
is_resting f = rests_in (class_of f)

abbrev pub may_own : {K V D T A : Type 0} → Phase K V D T A → Bool
may_own f = may_own_in (class_of f)

-- how many calls a thread has taken from its program
abbrev pub taken : {K V D T A : Type 0} → Place K V D T A → ℕ
taken p = if is_resting p.phase then p.next else p.next + 1

-- the block of a thread's session behind its call
abbrev pub block_after : {K V D T A : Type 0} → Place K V D T A → Option ℕ
block_after p = if p.closes then None else p.block

-- the place has one hold, of its shard and in that mode
pub record HoldsShard {K V D T A : Type 0} (p : Place K V D T A) (mode : Mode) : Type 0 where
  pub hold : Hold
  pub has : p.holds ≡ hold ∷ []
  pub shard : hold.shard ≡ p.shard
  pub mode_is : hold.mode ≡ mode

-- the shard's pairs, and what is so of them
pub record HasPairs {K V : Type 0} (tables : List (ShardPairs K V)) (shard : ℕ) (IsSo : ShardPairs K V → Type 0) : Type
    0 where
  pub table : ShardPairs K V
  pub held : slice_get tables shard ≡ Some table
  pub so : IsSo table

-- without a hold where there is no guard
abbrev pub HoldsByGuard : {K V D T A : Type 0} → Place K V D T A → Type 0
HoldsByGuard p = p.guard ≡ None → p.holds ≡ []

-- a guard lends the pair that its session has come to, or keeps room for the one that its key is to have; a session
-- without a guard is free
abbrev pub GuardIs : {K V D T A : Type 0} → List (ShardPairs K V) → Place K V D T A → Option (Guard K) → At K V → Type 0
GuardIs {K} {V} tables p None at = (o : Option (K × V)) × (at ≡ free o)
GuardIs {K} {V} tables p (Some (guard.Pair kind)) at = (pair : K × V) × (at ≡ lent kind pair)
    × HoldsShard p (way_mode kind)
GuardIs tables p (Some (guard.Vacant key)) at =
    (at ≡ vacant key) × HoldsShard p Exclusive × HasPairs tables p.shard (λ table. has_room table ≡ true)

-- while the place has a guard, its shard has at the block's key what the session has come to
abbrev pub HasReached : {K V D T A : Type 0} → Setup K V D T → List (ShardPairs K V) → Place K V D T A → Block K
    → At K V → Type 0
HasReached {K} x tables p b at =
    (g : Guard K) (key : K) → p.guard ≡ Some g → block_key x b ≡ Some key
    → HasPairs tables p.shard (λ table. pair_of x.eq table.items key ≡ pair_in at)

-- the block is of a key of the place's shard
abbrev pub IsOnShard : {K V D T A : Type 0} → Setup K V D T → Place K V D T A → Block K → Type 0
IsOnShard {K} x p b = (k : K) → block_key x b ≡ Some k → p.shard ≡ x.route k

-- so it is, and it is the last one there while the place holds the shard alone
pub record IsSettled {K V D T A : Type 0} (x : Setup K V D T) (bs : List (Block K)) (p : Place K V D T A) (i : ℕ)
    (b : Block K) : Type 0 where
  pub here : IsOnShard x p b
  pub last : HoldsShard p Exclusive → IsLastOnShard x bs i b

-- the session of the opening c has a block, which has done all calls of the session below n
pub record HasSession {K V D T A : Type 0} (x : Setup K V D T) (bs : List (Block K)) (tables : List (ShardPairs K V))
    (t : ℕ) (p : Place K V D T A) (n c i : ℕ) : Type 0 where
  pub block : Block K
  pub listed : slice_get bs i ≡ Some block
  pub thread : block.thread ≡ t
  pub call : block.call ≡ c
  pub below : c < n
  pub done : block.done.value ≡ n - c
  pub guard : GuardIs tables p p.guard (reached x t c (n - c) (found x bs i block))
  pub there : HasReached x tables p block (reached x t c (n - c) (found x bs i block))
  pub settled : IsSettled x bs p i block

abbrev pub IsInSessionOf : {K V D T A : Type 0} → Setup K V D T → List (Block K) → List (ShardPairs K V) → ℕ
    → Place K V D T A → ℕ → ℕ → Option ℕ → Type 0
IsInSessionOf x bs tables t p n c (Some i) = HasSession x bs tables t p n c i
-- an opening without block gave no guard
IsInSessionOf x bs tables t p n c None = (p.guard ≡ None) × HasNoBlock bs t c

abbrev pub IsInSession : {K V D T A : Type 0} → Setup K V D T → List (Block K) → List (ShardPairs K V) → ℕ
    → Place K V D T A → ℕ → Option ℕ → Option ℕ → Type 0
IsInSession x bs tables t p n (Some c) block = IsInSessionOf x bs tables t p n c block
-- outside of every session there is neither guard nor block
IsInSession x bs tables t p n None block = (p.guard ≡ None) × (block ≡ None)

-- between its calls, as call n is next
abbrev pub IsReady : {K V D T A : Type 0} → Setup K V D T → List (Block K) → List (ShardPairs K V) → ℕ → Place K V D T A
    → ℕ → Option ℕ → Type 0
IsReady x bs tables t p n block = IsInSession x bs tables t p n (session_of x t n) block

-- in that call, which has started
pub record IsInCall {K V D T A : Type 0} (x : Setup K V D T) (threads : List ℕ) (t : ℕ) (p : Place K V D T A)
    (a : Ask K V D) : Type 0 where
  pub asked : ask_at x t p.next ≡ Some a
  pub closes : p.closes ≡ is_last a
  pub start : ℕ
  pub started : p.started ≡ Some start
  pub begun : IsStepOf threads t start

-- on its way to a pair, without block or guard
pub record IsOnItsWay {K V D T A : Type 0} (x : Setup K V D T) (p : Place K V D T A) (key : K) : Type 0 where
  pub block : p.block ≡ None
  pub guard : p.guard ≡ None
  pub shard : p.shard ≡ x.route key

-- before the deed of a keyed call: its block has found o and done nothing, is the last one on its shard, and the shard
-- is held alone
pub record IsBeforeDeed {K V D T A : Type 0} (x : Setup K V D T) (bs : List (Block K)) (t : ℕ) (p : Place K V D T A)
    (key : K) (o : Option (K × V)) : Type 0 where
  pub index : ℕ
  pub block : Block K
  pub mine : p.block ≡ Some index
  pub listed : slice_get bs index ≡ Some block
  pub thread : block.thread ≡ t
  pub call : block.call ≡ p.next
  pub key_is : block_key x block ≡ Some key
  pub done : block.done.value ≡ 0
  pub last : IsLastOnShard x bs index block
  pub found_is : found x bs index block ≡ o
  pub guard : p.guard ≡ None
  pub shard : p.shard ≡ x.route key
  pub alone : HoldsShard p Exclusive

-- what a release has still to do: a guard's drop is counted in by it, and all else is told already
abbrev pub IsReleasing : {K V D T A : Type 0} → Setup K V D T → List (Block K) → List (ShardPairs K V) → ℕ
    → Place K V D T A → Ask K V D → Answer K V T A → Option (Guard K) → Type 0
IsReleasing x bs tables t p a r (Some kept) = (a ≡ ask.Held held.Drop) × (r ≡ answer.Done)
    × IsReady x bs tables t p p.next p.block
IsReleasing x bs tables t p a r None = IsAnsweredBy x bs t p.next a r
    × IsReady x bs tables t p (p.next + 1) (block_after p)

-- in a walk there is neither session nor block of the call's own
abbrev pub IsOutside : {K V D T A : Type 0} → Place K V D T A → Type 0
IsOutside p = (p.block ≡ None) × (p.guard ≡ None)

-- the place has as many holds of the shard before its own as it keeps over: one or none
abbrev pub KeepsOver : {K V D T A : Type 0} → Place K V D T A → Mode → ℕ → Type 0
KeepsOver p mode zero = p.holds ≡ []
KeepsOver p mode (suc n) = (hold : Hold) × (p.holds ≡ hold ∷ []) × (hold.shard + 1 ≡ p.shard) × (hold.mode ≡ mode)

-- it has two holds, of the shard before its own and of its own
abbrev pub HoldsBoth : {K V D T A : Type 0} → Place K V D T A → Mode → Type 0
HoldsBoth p mode = (last : Hold) × (own : Hold) × (p.holds ≡ last ∷ own ∷ []) × (last.shard + 1 ≡ p.shard)
    × (own.shard ≡ p.shard) × (own.mode ≡ mode)

abbrev pub HoldsWhileBetween : {K V D T A : Type 0} → Place K V D T A → Walk D → Type 0
HoldsWhileBetween p f = MatchBool (hands_over f) (HoldsShard p (walk_mode f)) (p.holds ≡ [])

-- in a call that adds that pair where its key is absent
abbrev pub Inserts : {K V D : Type 0} → Keyed K V D → K → V → Type 0
Inserts call k v = (call ≡ keyed.Insert k v) ⊎ (call ≡ keyed.InsertUntil k v)

pub record IsInserting {K V D T A : Type 0} (x : Setup K V D T) (threads : List ℕ) (t : ℕ) (p : Place K V D T A) (k : K)
    (v : V) : Type 0 where
  pub insertion : Keyed K V D
  pub inserts : Inserts insertion k v
  pub in_call : IsInCall x threads t p (ask.Keyed insertion)

-- what holds of a thread's place, by its next step
abbrev pub Claim : {K V D T A : Type 0} → Setup K V D T → List ℕ → List (Block K) → List (ShardPairs K V) → ℕ
    → Place K V D T A → Phase K V D T A → Type 0
Claim x threads bs tables t p phase.Rest = (p.started ≡ None) × HoldsByGuard p × IsReady x bs tables t p p.next p.block
Claim x threads bs tables t p (phase.Admit r) = IsInCall x threads t p (ask_of r) × IsOnItsWay x p (request_key r)
    × (p.holds ≡ [])
Claim x threads bs tables t p (phase.Find r) = IsInCall x threads t p (ask_of r) × IsOnItsWay x p (request_key r)
    × HoldsShard p (mode_of r)
Claim {K} {V} {D} x threads bs tables t p (phase.Grow c) =
    IsInCall x threads t p (ask_of (request_of {D = D} c)) × IsOnItsWay x p (growth_key c) × HoldsShard p Exclusive
    × HasPairs tables p.shard (λ table. (pair_of x.eq table.items (growth_key c) ≡ None) × (has_room table ≡ false))
Claim x threads bs tables t p (phase.Append k v) =
    IsInserting x threads t p k v × IsBeforeDeed x bs t p k None
    × HasPairs tables p.shard (λ table. has_room table ≡ true)
Claim {K} {V} x threads bs tables t p (phase.Apply k) =
    (pair : K × V) × IsInCall x threads t p (ask.Keyed k) × IsBeforeDeed x bs t p (keyed_key k) (Some pair)
Claim {K} {V} x threads bs tables t p (phase.View k d) =
    (pair : K × V) × IsInCall x threads t p (ask.Keyed (keyed.View k d)) × IsOnItsWay x p k × HoldsShard p Shared
    × HasPairs tables p.shard (λ table. pair_of x.eq table.items k ≡ Some pair)
Claim {K} x threads bs tables t p (phase.Read d) =
    (kind : Way K) × IsInCall x threads t p (ask.Held (held.Read d)) × (p.guard ≡ Some (guard.Pair kind))
    × IsReady x bs tables t p p.next p.block
Claim {K} x threads bs tables t p (phase.Change h) =
    (kind : Way K) × IsInCall x threads t p (ask.Held h) × (p.guard ≡ Some (guard.Pair kind))
    × (is_change h kind ≡ true)
    × HoldsShard p Exclusive × IsReady x bs tables t p p.next p.block
Claim {K} x threads bs tables t p (phase.Fill v) =
    (key : K) × IsInCall x threads t p (ask.Held (held.Insert v)) × (p.guard ≡ Some (guard.Vacant key))
    × HoldsShard p Exclusive × IsReady x bs tables t p p.next p.block
Claim x threads bs tables t p phase.Downgrade =
    IsInCall x threads t p (ask.Held held.Downgrade) × (p.guard ≡ Some (guard.Pair way.Exclusive))
    × HoldsShard p Exclusive × IsReady x bs tables t p p.next p.block
Claim x threads bs tables t p (phase.Idle f) = IsInCall x threads t p (ask.Walk f) × IsOutside p × (p.holds ≡ [])
Claim x threads bs tables t p (phase.Reach f) = IsInCall x threads t p (ask.Walk f) × IsOutside p
    × KeepsOver p (walk_mode f) (kept_over f p.shard)
Claim x threads bs tables t p (phase.Part f) = IsInCall x threads t p (ask.Walk f) × IsOutside p
    × HoldsBoth p (walk_mode f)
Claim x threads bs tables t p (phase.Visit f) = IsInCall x threads t p (ask.Walk f) × IsOutside p
    × HoldsShard p (walk_mode f)
Claim x threads bs tables t p (phase.Seek f) = IsInCall x threads t p (ask.Walk f) × IsOutside p
    × HoldsShard p (walk_mode f)
Claim x threads bs tables t p (phase.Item f) = IsInCall x threads t p (ask.Walk f) × IsOutside p
    × HoldsShard p (walk_mode f)
Claim x threads bs tables t p (phase.Give f) = IsInCall x threads t p (ask.Walk f) × IsOutside p
    × HoldsShard p (walk_mode f) × (hands_over f ≡ false)
Claim x threads bs tables t p (phase.Onward f) = IsInCall x threads t p (ask.Walk f) × IsOutside p
    × HoldsWhileBetween p f
Claim {K} {V} {D} x threads bs tables t p (phase.Release r) =
    (a : Ask K V D) × (hold : Hold) × IsInCall x threads t p a × (p.holds ≡ hold ∷ [])
    × IsReleasing x bs tables t p a r p.guard
Claim {K} {V} {D} x threads bs tables t p (phase.Answer r) =
    (a : Ask K V D) × IsInCall x threads t p a × HoldsByGuard p × IsAnsweredBy x bs t p.next a r
    × IsReady x bs tables t p (p.next + 1) (block_after p)

-- what a walk has come to with these visits: how many pairs it has done, or for how many their shards have room
abbrev pub IsCount : {K V D T : Type 0} → Setup K V D T → Walk D → List (Visit K) → ℕ → Type 0
IsCount x walk.Capacity visits n = (rooms : List ℕ) × AreCapacities x visits rooms × (n ≡ saturated (sum rooms))
IsCount x f visits n = n ≡ saturated (number_of x visits)

-- a walk's visits so far are those that its place names; and what they have read and counted
pub record HasVisited {K V D T A : Type 0} (x : Setup K V D T) (bs : List (Block K)) (t : ℕ) (p : Place K V D T A)
    (f : Walk D) : Type 0 where
  pub visits : List (Visit K)
  pub named : map (λ v. v.place) visits ≡ p.visits
  pub visited : IsVisited x bs t p.next f visits
  pub reads : p.reads ≡ reads_of x bs f visits
  pub count : IsCount x f visits p.count

-- before its next visit: those so far are whole, and items are left to give
pub record IsBetweenVisits {K V D T A : Type 0} (x : Setup K V D T) (bs : List (Block K)) (t : ℕ) (p : Place K V D T A)
    (f : Walk D) (n : ℕ) : Type 0 where
  pub so_far : HasVisited x bs t p f
  pub number : length so_far.visits ≡ n
  pub whole : AreWhole x bs so_far.visits
  pub left : n < x.shards
  pub goes_on : IsBelow (stop_of f) (number_of x so_far.visits)

-- within a visit: its shard has what its block leaves, a pair of it isn't done, and items are left to give
pub record IsWithinVisit {K V D T A : Type 0} (x : Setup K V D T) (bs : List (Block K)) (tables : List (ShardPairs K V))
    (t : ℕ) (p : Place K V D T A) (f : Walk D) : Type 0 where
  pub so_far : HasVisited x bs t p f
  pub items : gives_items f ≡ true
  pub number : length so_far.visits ≡ p.shard + 1
  pub within : p.shard < x.shards
  pub goes_on : IsBelow (stop_of f) (number_of x so_far.visits)
  pub index : ℕ
  pub block : Block K
  pub own : slice_get so_far.visits p.shard ≡ Some (record { place = index; block = block })
  pub table : ShardPairs K V
  pub held : slice_get tables p.shard ≡ Some table
  pub there : (q : K) → x.route q ≡ p.shard → pair_of x.eq table.items q ≡ left x block q (before x bs index q)
  pub some : all_visited x.eq block.visited.items table.items ≡ false
  pub last : HoldsShard p Exclusive → IsLastOnShard x bs index block

-- a place that is in no walk names no visits
pub record HasNoWalk {K V D T A : Type 0} (p : Place K V D T A) : Type 0 where
  pub visits : p.visits ≡ []
  pub reads : p.reads ≡ []
  pub count : p.count ≡ 0

-- what holds of a thread's walk, by its next step
abbrev pub Walks : {K V D T A : Type 0} → Setup K V D T → List (Block K) → List (ShardPairs K V) → ℕ → Place K V D T A
    → Phase K V D T A → Type 0
Walks x bs tables t p (phase.Idle f) = HasNoWalk p × (stop_of f ≡ Some 0)
Walks x bs tables t p (phase.Reach f) = IsBetweenVisits x bs t p f p.shard
Walks x bs tables t p (phase.Part f) = IsBetweenVisits x bs t p f p.shard
Walks x bs tables t p (phase.Visit f) = IsBetweenVisits x bs t p f p.shard
Walks x bs tables t p (phase.Seek f) = IsWithinVisit x bs tables t p f
Walks x bs tables t p (phase.Item f) = IsWithinVisit x bs tables t p f
Walks x bs tables t p (phase.Give f) = IsBetweenVisits x bs t p f (p.shard + 1)
Walks x bs tables t p (phase.Onward f) = IsBetweenVisits x bs t p f (p.shard + 1)
-- the answer of a walk has its reads
Walks x bs tables t p (phase.Release a) = p.reads ≡ []
Walks x bs tables t p (phase.Answer a) = p.reads ≡ []
Walks x bs tables t p f = HasNoWalk p

-- one of a place's blocks: that of its call or session, or one of its walk's visits
abbrev pub IsOwn : {K V D T A : Type 0} → Place K V D T A → ℕ → Type 0
IsOwn p i = (p.block ≡ Some i) ⊎ IsIn i p.visits

-- a thread's blocks are of the calls that it has answered, and perhaps of the one that it is in
abbrev pub OwnsBlocks : {K V D T A : Type 0} → List (Block K) → ℕ → Place K V D T A → Type 0
OwnsBlocks {K} bs t p =
    (i : ℕ) (b : Block K) → slice_get bs i ≡ Some b → b.thread ≡ t → (b.call < p.next)
    ⊎ ((b.call ≡ p.next) × IsOwn p i × (may_own p.phase ≡ true))

-- a place names a block of its own thread
abbrev pub HasOwnBlock : {K V D T A : Type 0} → List (Block K) → ℕ → Place K V D T A → Type 0
HasOwnBlock {K} bs t p = (i : ℕ) → p.block ≡ Some i → (b : Block K) × (slice_get bs i ≡ Some b) × (b.thread ≡ t)

-- a visit of the walk that the thread is in
pub record IsOwnVisit {K V D T A : Type 0} (x : Setup K V D T) (bs : List (Block K)) (t : ℕ) (p : Place K V D T A)
    (i : ℕ) : Type 0 where
  pub block : Block K
  pub listed : slice_get bs i ≡ Some block
  pub thread : block.thread ≡ t
  pub call : block.call ≡ p.next
  pub end : block.end ≡ None
  pub walk : Walk D
  pub asked : ask_at x t p.next ≡ Some (ask.Walk walk)
  -- and then it has no block of its own
  pub apart : p.block ≡ None

-- a place names visits of the walk that it is in, each once
pub record HasOwnVisits {K V D T A : Type 0} (x : Setup K V D T) (bs : List (Block K)) (t : ℕ)
    (p : Place K V D T A) : Type 0 where
  pub are : (i : ℕ) → IsIn i p.visits → IsOwnVisit x bs t p i
  pub once : (m n i : ℕ) → slice_get p.visits m ≡ Some i → slice_get p.visits n ≡ Some i → m ≡ n

pub record Stands {K V D T A : Type 0} (x : Setup K V D T) (threads : List ℕ) (bs : List (Block K))
    (replies : List (Reply K V T A)) (tables : List (ShardPairs K V)) (t : ℕ) (p : Place K V D T A) : Type 0 where
  pub program : List (Ask K V D)
  pub has : slice_get x.programs t ≡ Some program
  pub asks_left : p.asks ≡ drop (taken p) program
  pub within : taken p ≤ length program
  pub answered : p.next ≡ answered_of replies t
  pub owns : OwnsBlocks bs t p
  pub own_block : HasOwnBlock bs t p
  pub own_visits : HasOwnVisits x bs t p
  pub claim : Claim x threads bs tables t p p.phase
  pub walks : Walks x bs tables t p p.phase

-- each shard has its own keys, each once, with the pairs of the replay
pub record TablesAgree {K V D T : Type 0} (x : Setup K V D T) (bs : List (Block K))
    (tables : List (ShardPairs K V)) : Type 0 where
  pub routed : (i j : ℕ) (table : ShardPairs K V) (pair : K × V) → slice_get tables i ≡ Some table
      → slice_get table.items j ≡ Some pair → x.route pair.0 ≡ i
  pub distinct : (i : ℕ) (table : ShardPairs K V) → slice_get tables i ≡ Some table → AreDistinct x.eq table.items
  pub contents_are : (q : K) (table : ShardPairs K V) → slice_get tables (x.route q) ≡ Some table
      → pair_of x.eq table.items q ≡ contents x bs q

-- a number that a counter of 64 bits can have, if there is one
abbrev pub FitsCounter : Option ℕ → Type 0
FitsCounter None = Unit {0}
FitsCounter (Some n) = n < 2 ^ 64

pub record Sound {K V S D T A : Type 0} (x : Setup K V D T) (w : State K V S D T A) : Type 0 where
  pub guarded : (t : ℕ) (program : List (Ask K V D)) → slice_get x.programs t ≡ Some program
      → one_guard false program ≡ true
  pub shards : x.shards ≡ length w.tables
  pub some : 0 < x.shards
  -- a walk's number of items is one of 64 bits
  pub stops : (t c : ℕ) (f : Walk D) → ask_at x t c ≡ Some (ask.Walk f) → FitsCounter (stop_of f)
  pub routes : (q : K) → x.route q < length w.tables
  pub stands : (t : ℕ) (p : Place K V D T A) → slice_get w.places t ≡ Some p
      → Stands x (threads_of w) w.blocks w.replies w.tables t p
  pub tables : TablesAgree x w.blocks w.tables
  pub holds : HoldsMatch w.places w.locks
  pub placed : WellPlaced x (threads_of w) (started_of w) w.blocks w.replies
  pub replies : (i : ℕ) (r : Reply K V T A) → slice_get w.replies i ≡ Some r → IsAnswered x w.blocks r.thread r.call
      r.answer
