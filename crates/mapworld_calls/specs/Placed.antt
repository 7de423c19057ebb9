-- Blocks and replies stand at steps of their own threads, each of a call that was asked and has started; and what a
-- block has done is bounded by its call.
use Rattle.std.specs.Prelude.{◌≡◌, ℕ, suc, ◌+◌, ◌-◌, ◌<◌, ◌≤◌, ◌⊎◌, ◌==◌, ◌&&◌, if◌then◌else◌, List, [], ◌++◌, length}
use Rattle.std.specs.Prelude.{Option, Some, None, slice_get, take, sum_by, count_by, IsSome, IsTrue}
use Rattle.mapworld_calls.specs.declared.block.Block.{Block}
use Rattle.mapworld_calls.specs.declared.ask.Ask.{Ask}
use Rattle.mapworld_calls.specs.declared.ask.Ask.TheVariants as ask
use Rattle.mapworld_calls.specs.declared.ask.Held.{Held}
use Rattle.mapworld_calls.specs.declared.ask.Walk.{Walk}
use Rattle.mapworld_calls.specs.declared.reply.Reply.{Reply}
use Rattle.mapworld_calls.specs.Programs.{stop_of}
use Rattle.mapworld_calls.specs.Setup.{Setup, ask_at, session_of}
use Rattle.mapworld_calls.specs.Replay.{done_keys, before}
use Rattle.mapworld_calls.specs.Agrees.{IsWhole, IsBelow, IsAtMost}

-- step number p, counted from 1, is one of thread t, where `steps` has the thread of each step so far
abbrev pub IsStepOf : List ℕ → ℕ → ℕ → Type 0
IsStepOf steps t p = (0 < p) × (slice_get steps (p - 1) ≡ Some t)

-- how many calls of a thread are answered, which is also the number of its next one
abbrev pub answered_of : {K V T A : Type 0} → List (Reply K V T A) → ℕ → ℕ
answered_of replies t = count_by (λ r. r.thread == t) replies

-- the call is answered, or is the one that has started and isn't
abbrev pub HasStarted : {K V T A : Type 0} → (ℕ → Option ℕ) → List (Reply K V T A) → ℕ → ℕ → Type 0
HasStarted started replies t c = (c < answered_of replies t) ⊎ ((c ≡ answered_of replies t) × IsSome (started t))

-- the block's start and end are those that its call's reply shows
pub record IsShownAnswered {K V T A : Type 0} (replies : List (Reply K V T A)) (b : Block K) : Type 0 where
  pub place : ℕ
  pub reply : Reply K V T A
  pub listed : slice_get replies place ≡ Some reply
  pub thread : reply.thread ≡ b.thread
  pub call : reply.call ≡ b.call
  pub start : b.start ≡ reply.start
  pub end : b.end ≡ Some reply.end
  pub before : b.position < reply.end

-- or the call isn't answered yet, and `started` shows the block's start
pub record IsShownStarted {K V T A : Type 0} (started : ℕ → Option ℕ) (replies : List (Reply K V T A))
    (b : Block K) : Type 0 where
  pub call : b.call ≡ answered_of replies b.thread
  pub start : started b.thread ≡ Some b.start
  pub end : b.end ≡ None

-- a keyed call is done at most once, and once it is answered
pub record IsKeyedDone {K : Type 0} (b : Block K) : Type 0 where
  pub once : b.done.value ≤ 1
  pub whole : IsSome b.end → b.done.value ≡ 1

-- the call is one of the guard's, stands in the session that began at that opening, and has started
pub record IsInSession {K V D T A : Type 0} (w : Setup K V D T) (started : ℕ → Option ℕ)
    (replies : List (Reply K V T A)) (t opening c : ℕ) : Type 0 where
  pub held : Held V D
  pub asked : ask_at w t c ≡ Some (ask.Held held)
  pub session : session_of w t c ≡ Some opening
  pub begun : HasStarted started replies t c

-- a session's calls are its opening and then calls on the guard that stand in that session
pub record IsSessionDone {K V D T A : Type 0} (w : Setup K V D T) (started : ℕ → Option ℕ)
    (replies : List (Reply K V T A)) (b : Block K) : Type 0 where
  pub opened : 0 < b.done.value
  pub calls : (n : ℕ) → 0 < n → n < b.done.value → IsInSession w started replies b.thread b.call (b.call + n)

-- how many pairs a walk has done by these blocks
abbrev pub done_by_walk : {K V D T : Type 0} → Setup K V D T → List (Block K) → ℕ → ℕ → ℕ
done_by_walk w bs t c = sum_by (λ d. if (d.thread == t) && (d.call == c) then length (done_keys w d) else 0) bs

-- the visit of that number of the same walk is listed before that place, and whole
pub record IsVisitedBefore {K V D T : Type 0} (w : Setup K V D T) (bs : List (Block K)) (i : ℕ) (b : Block K)
    (n : ℕ) : Type 0 where
  pub place : ℕ
  pub block : Block K
  pub listed : slice_get bs place ≡ Some block
  pub earlier : place < i
  pub thread : block.thread ≡ b.thread
  pub call : block.call ≡ b.call
  pub visit : block.visit ≡ n
  pub whole : IsWhole w bs place block

-- a visit's keys are of its shard, each once, and had a pair at its turn; it begins once the visit before it is whole,
-- and while the walk has items left to give
pub record IsVisitDone {K V D T : Type 0} (w : Setup K V D T) (bs : List (Block K)) (i : ℕ) (b : Block K)
    (f : Walk D) : Type 0 where
  pub within : b.visit < w.shards
  pub routed : (n : ℕ) (k : K) → slice_get b.visited.items n ≡ Some k → w.route k ≡ b.visit
  pub once : (m n : ℕ) (j k : K) → slice_get b.visited.items m ≡ Some j → slice_get b.visited.items n ≡ Some k
      → IsTrue (w.eq j k) → m ≡ n
  pub there : (n : ℕ) (k : K) → slice_get b.visited.items n ≡ Some k → IsSome (before w bs i k)
  pub in_turn : (n : ℕ) → b.visit ≡ suc n → IsVisitedBefore w bs i b n
  pub begins : IsBelow (stop_of f) (done_by_walk w (take i bs) b.thread b.call)
  pub stops : IsAtMost (stop_of f) (done_by_walk w (take (suc i) bs) b.thread b.call)

-- what a block has done is bounded by its call: no block is of a call on a guard, and only a visit has a number and
-- keys
abbrev pub IsDoneWithin : {K V D T A : Type 0} → Setup K V D T → (ℕ → Option ℕ) → List (Block K) → List (Reply K V T A)
    → ℕ → Block K → Ask K V D → Type 0
IsDoneWithin w started bs replies i b (ask.Keyed k) = IsKeyedDone b × (b.visit ≡ 0) × (b.visited.items ≡ [])
IsDoneWithin w started bs replies i b (ask.Begin g) =
    IsSessionDone w started replies b × (b.visit ≡ 0) × (b.visited.items ≡ [])
IsDoneWithin w started bs replies i b (ask.Walk f) = IsVisitDone w bs i b f × (b.done.value ≡ 0)
IsDoneWithin w started bs replies i b (ask.Held h) = ⊥

-- a block is of a call that was asked and has started, and stands at a step of its own thread between start and end
pub record IsPlaced {K V D T A : Type 0} (w : Setup K V D T) (steps : List ℕ) (started : ℕ → Option ℕ)
    (bs : List (Block K)) (replies : List (Reply K V T A)) (i : ℕ) (b : Block K) : Type 0 where
  pub ask : Ask K V D
  pub asked : ask_at w b.thread b.call ≡ Some ask
  pub done : IsDoneWithin w started bs replies i b ask
  pub start : IsStepOf steps b.thread b.start
  pub position : IsStepOf steps b.thread b.position
  pub order : b.start ≤ b.position
  pub shown : IsShownAnswered replies b ⊎ IsShownStarted started replies b

-- a reply's start and end are steps of its own thread
pub record IsTimed {K V T A : Type 0} (steps : List ℕ) (r : Reply K V T A) : Type 0 where
  pub start : IsStepOf steps r.thread r.start
  pub end : IsStepOf steps r.thread r.end
  pub order : r.start < r.end

-- of an earlier call, or an earlier visit of the same walk
abbrev pub IsEarlier : {K : Type 0} → Block K → Block K → Type 0
IsEarlier b c = (b.call < c.call) ⊎ ((b.call ≡ c.call) × (b.visit < c.visit))

pub record WellPlaced {K V D T A : Type 0} (w : Setup K V D T) (steps : List ℕ) (started : ℕ → Option ℕ)
    (bs : List (Block K)) (replies : List (Reply K V T A)) : Type 0 where
  pub placed : (i : ℕ) (b : Block K) → slice_get bs i ≡ Some b → IsPlaced w steps started bs replies i b
  -- positions rise along the list
  pub rising : (i j : ℕ) (b c : Block K) → slice_get bs i ≡ Some b → slice_get bs j ≡ Some c → i < j
      → b.position < c.position
  -- a thread's blocks come in the order of its calls, and of a walk's visits
  pub own_order : (i j : ℕ) (b c : Block K) → slice_get bs i ≡ Some b → slice_get bs j ≡ Some c → i < j
      → b.thread ≡ c.thread
      → IsEarlier b c
  -- each reply stands at steps of its own thread, and ends rise along the list
  pub timed : (i : ℕ) (r : Reply K V T A) → slice_get replies i ≡ Some r → IsTimed steps r
  pub ends_rise : (i j : ℕ) (r s : Reply K V T A) → slice_get replies i ≡ Some r → slice_get replies j ≡ Some s → i < j
      → r.end < s.end
  -- a thread's calls are replied to in their order, each once
  pub in_turn : (i : ℕ) (r : Reply K V T A) → slice_get replies i ≡ Some r → r.call ≡ answered_of (take i replies)
      r.thread

-- a block that was listed keeps what it shows; what it has done is only added to, and its end is written once
pub record StaysListed {K : Type 0} (b c : Block K) : Type 0 where
  pub thread : c.thread ≡ b.thread
  pub call : c.call ≡ b.call
  pub visit : c.visit ≡ b.visit
  pub start : c.start ≡ b.start
  pub position : c.position ≡ b.position
  pub done : b.done.value ≤ c.done.value
  pub visited : (more : List K) × (c.visited.items ≡ b.visited.items ++ more)
  pub end : (e : ℕ) → b.end ≡ Some e → c.end ≡ Some e

-- the block at that place of the one list is still at that place of the other
pub record IsStillListed {K : Type 0} (bs' : List (Block K)) (i : ℕ) (b : Block K) : Type 0 where
  pub block : Block K
  pub listed : slice_get bs' i ≡ Some block
  pub stays : StaysListed b block

-- steps, blocks and replies are only added to
pub record OnlyAdds {K V T A : Type 0} (steps steps' : List ℕ) (bs bs' : List (Block K))
    (replies replies' : List (Reply K V T A)) : Type 0 where
  pub steps_added : (more : List ℕ) × (steps' ≡ steps ++ more)
  pub blocks_stay : (i : ℕ) (b : Block K) → slice_get bs i ≡ Some b → IsStillListed bs' i b
  pub replies_stay : (more : List (Reply K V T A)) × (replies' ≡ replies ++ more)
