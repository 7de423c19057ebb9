-- The replies so far and the contents now are those of the replay.
use Rattle.std.specs.Prelude.{◌≡◌, ℕ, suc, ◌-◌, ◌<◌, ◌≤◌, ◌⊎◌, ◌==◌, List, length, take, sum, sum_by, flat_map, Option}
use Rattle.std.specs.Prelude.{Some, None, slice_get, IsTrue, IsSome, Vec}
use Rattle.std.specs.List.{list_any}
use Rattle.mapworld_calls.specs.declared.block.Block.{Block}
use Rattle.mapworld_calls.specs.Pairs.{pair_of, AreDistinct}
use Rattle.mapworld_calls.specs.declared.ask.Ask.{Ask}
use Rattle.mapworld_calls.specs.declared.ask.Ask.TheVariants as ask
use Rattle.mapworld_calls.specs.declared.ask.Keyed.{Keyed}
use Rattle.mapworld_calls.specs.declared.ask.Begin.{Begin}
use Rattle.mapworld_calls.specs.declared.ask.Walk.{Walk}
use Rattle.mapworld_calls.specs.declared.ask.Walk.TheVariants as walk
use Rattle.mapworld_calls.specs.declared.reply.Answer.{Answer}
use Rattle.mapworld_calls.specs.declared.reply.Answer.TheVariants as answer
use Rattle.mapworld_calls.specs.declared.reply.Reply.{Reply}
use Rattle.mapworld_calls.specs.Programs.{saturated, stop_of, may_grow, opening_may_grow, walk_may_grow}
use Rattle.mapworld_calls.specs.Programs.{keyed_has_deadline, opening_may_be_locked}
use Rattle.mapworld_calls.specs.Calls.{visit_reads}
use Rattle.mapworld_calls.specs.Setup.{Setup, ask_at, session_of}
use Rattle.mapworld_calls.specs.Replay.{done_keys, told_by, contents, before}

-- the answer is what the block of call c tells as its n-th call, at its turn
pub record IsToldBy {K V D T A : Type 0} (w : Setup K V D T) (bs : List (Block K)) (t c n : ℕ)
    (a : Answer K V T A) : Type 0 where
  pub place : ℕ
  pub block : Block K
  pub listed : slice_get bs place ≡ Some block
  pub thread : block.thread ≡ t
  pub call : block.call ≡ c
  pub done : n < block.done.value
  pub told : told_by w n block (before w bs place) ≡ Some a

-- no block is of that call
abbrev pub HasNoBlock : {K : Type 0} → List (Block K) → ℕ → ℕ → Type 0
HasNoBlock {K} bs t c = (i : ℕ) (b : Block K) → slice_get bs i ≡ Some b → b.thread ≡ t → b.call ≡ c → ⊥

-- a call on the guard of the session that began at that opening, or outside of every session
abbrev pub IsAnsweredInSession : {K V D T A : Type 0} → Setup K V D T → List (Block K) → ℕ → ℕ → Option ℕ
    → Answer K V T A → Type 0
IsAnsweredInSession w bs t c None a = a ≡ answer.NoGuard
IsAnsweredInSession w bs t c (Some b) a = IsToldBy w bs t b (c - b) a ⊎ ((a ≡ answer.NoGuard) × HasNoBlock bs t b)

-- one visit of a walk: its block, and the place of that block in the list
pub record Visit (K : Type 0) : Type 0 where
  pub place : ℕ
  pub block : Block K

-- these are visits of the walk, the first of the shard 0, the next of the shard 1, and so on
pub record IsVisitOf {K : Type 0} (bs : List (Block K)) (t c n : ℕ) (v : Visit K) : Type 0 where
  pub listed : slice_get bs v.place ≡ Some v.block
  pub thread : v.block.thread ≡ t
  pub call : v.block.call ≡ c
  pub visit : v.block.visit ≡ n

-- all pairs of the visit's shard, as they were at its turn, are done
abbrev pub IsWhole : {K V D T : Type 0} → Setup K V D T → List (Block K) → ℕ → Block K → Type 0
IsWhole {K} w bs i b =
    (q : K) → w.route q ≡ b.visit → IsSome (before w bs i q) → IsTrue (list_any (λ k. w.eq k q) (done_keys w b))

-- how many pairs the visits have done
abbrev pub number_of : {K V D T : Type 0} → Setup K V D T → List (Visit K) → ℕ
number_of w vs = sum_by (λ v. length (done_keys w v.block)) vs

-- fewer items than a walk's number, and no more than it; a walk that goes to the end has none
abbrev pub IsBelow : Option ℕ → ℕ → Type 0
IsBelow None n = Unit {0}
IsBelow (Some stop) n = n < stop

abbrev pub IsAtMost : Option ℕ → ℕ → Type 0
IsAtMost None n = Unit {0}
IsAtMost (Some stop) n = n ≤ stop

-- a walk's visits so far: a visit begins only once the one before is whole and while items are left to give
pub record IsVisited {K V D T : Type 0} (w : Setup K V D T) (bs : List (Block K)) (t c : ℕ) (f : Walk D)
    (vs : List (Visit K)) : Type 0 where
  pub are : (n : ℕ) (v : Visit K) → slice_get vs n ≡ Some v → IsVisitOf bs t c n v
  pub goes_on : (n : ℕ) → n < length vs → IsBelow (stop_of f) (number_of w (take n vs))
  pub whole : (n : ℕ) (v : Visit K) → slice_get vs n ≡ Some v → suc n < length vs → IsWhole w bs v.place v.block
  pub within : IsAtMost (stop_of f) (number_of w vs)
  -- and there is no other
  pub all : (i : ℕ) (b : Block K) → slice_get bs i ≡ Some b → b.thread ≡ t → b.call ≡ c → b.visit < length vs

-- the visits are whole, the last one too
abbrev pub AreWhole : {K V D T : Type 0} → Setup K V D T → List (Block K) → List (Visit K) → Type 0
AreWhole {K} w bs vs = (n : ℕ) (v : Visit K) → slice_get vs n ≡ Some v → IsWhole w bs v.place v.block

-- what the walk's deed read, in order of visits
abbrev pub reads_of : {K V D T : Type 0} → Setup K V D T → List (Block K) → Walk D → List (Visit K) → List T
reads_of w bs f vs = flat_map (λ v. flat_map (λ k. visit_reads w.deeds f (before w bs v.place k)) (done_keys w v.block))
    vs

-- numbers, one for each visit, none of which is below the pairs of its shard
pub record AreCapacities {K V D T : Type 0} (w : Setup K V D T) (vs : List (Visit K)) (ns : List ℕ) : Type 0 where
  pub each : length ns ≡ length vs
  pub hold : (i n : ℕ) (v : Visit K) → slice_get ns i ≡ Some n → slice_get vs i ≡ Some v
      → length (done_keys w v.block) ≤ n

-- the answer has what was read
pub record HasRead {K V T A : Type 0} (reads : List T) (a : Answer K V T A) : Type 0 where
  pub list : Vec T A
  pub has : list.items ≡ reads
  pub is : a ≡ answer.Reads list

-- what a walk with these visits is answered
abbrev pub IsWalkAnswer : {K V D T A : Type 0} → Setup K V D T → List (Block K) → Walk D → List (Visit K)
    → Answer K V T A → Type 0
IsWalkAnswer w bs (walk.Iter d stop) vs a = HasRead (reads_of w bs (walk.Iter d stop) vs) a
IsWalkAnswer w bs (walk.IterMut d stop) vs a = HasRead (reads_of w bs (walk.IterMut d stop) vs) a
IsWalkAnswer w bs walk.Len vs a = a ≡ answer.Count (saturated (number_of w vs))
IsWalkAnswer w bs walk.IsEmpty vs a = a ≡ answer.Flag (number_of w vs == 0)
IsWalkAnswer w bs walk.Capacity vs a = (ns : List ℕ) × AreCapacities w vs ns × (a ≡ answer.Count (saturated (sum ns)))
IsWalkAnswer w bs f vs a = a ≡ answer.Done

-- a walk that has ended: it has visited every shard to the end, or it has given all the items that it was to give
pub record IsWalked {K V D T A : Type 0} (w : Setup K V D T) (bs : List (Block K)) (t c : ℕ) (f : Walk D)
    (a : Answer K V T A) : Type 0 where
  pub visits : List (Visit K)
  pub visited : IsVisited w bs t c f visits
  pub ended : ((length visits ≡ w.shards) × AreWhole w bs visits) ⊎ (stop_of f ≡ Some (number_of w visits))
  pub answered : IsWalkAnswer w bs f visits a

-- a walk that was refused for memory at a visit: that visit has no block, and the ones before it are whole
pub record IsRefusedWalk {K V D T : Type 0} (w : Setup K V D T) (bs : List (Block K)) (t c : ℕ) (f : Walk D) : Type 0
  where
    pub grows : IsTrue (walk_may_grow f)
    pub visits : List (Visit K)
    pub visited : IsVisited w bs t c f visits
    pub ended : AreWhole w bs visits
    pub left_over : length visits < w.shards
    pub goes_on : IsBelow (stop_of f) (number_of w visits)

-- a keyed call is refused for memory, or since its deadline came before it had its shard
abbrev pub IsRefusedKeyed : {K V D T A : Type 0} → Keyed K V D → Answer K V T A → Type 0
IsRefusedKeyed k a =
    ((a ≡ answer.NoMemory) × IsTrue (may_grow k)) ⊎ ((a ≡ answer.Locked) × IsTrue (keyed_has_deadline k))

-- an opening is refused for memory, or as a try that couldn't have its shard, or since its deadline came before it had
-- it
abbrev pub IsRefusedOpening : {K V T A : Type 0} → Begin K → Answer K V T A → Type 0
IsRefusedOpening b a =
    ((a ≡ answer.NoMemory) × IsTrue (opening_may_grow b)) ⊎ ((a ≡ answer.Locked) × IsTrue (opening_may_be_locked b))

-- an answer is told by the call's block, or by all the visits of a walk; a refused call has no block, nor has a call on
-- a guard that was never had
abbrev pub IsAnsweredBy : {K V D T A : Type 0} → Setup K V D T → List (Block K) → ℕ → ℕ → Ask K V D → Answer K V T A
    → Type 0
IsAnsweredBy w bs t c (ask.Keyed k) a = IsToldBy w bs t c 0 a ⊎ (IsRefusedKeyed k a × HasNoBlock bs t c)
IsAnsweredBy w bs t c (ask.Begin b) a = IsToldBy w bs t c 0 a ⊎ (IsRefusedOpening b a × HasNoBlock bs t c)
IsAnsweredBy w bs t c (ask.Held h) a = IsAnsweredInSession w bs t c (session_of w t c) a
IsAnsweredBy w bs t c (ask.Walk f) a = IsWalked w bs t c f a ⊎ ((a ≡ answer.NoMemory) × IsRefusedWalk w bs t c f)

pub record IsAnswered {K V D T A : Type 0} (w : Setup K V D T) (bs : List (Block K)) (t c : ℕ)
    (a : Answer K V T A) : Type 0 where
  pub ask : Ask K V D
  pub asked : ask_at w t c ≡ Some ask
  pub answered : IsAnsweredBy w bs t c ask a

-- the contents and each reply are those of one plain map that takes the blocks in their order
pub record Agrees {K V D T A : Type 0} (w : Setup K V D T) (bs : List (Block K)) (pairs : List (K × V))
    (replies : List (Reply K V T A)) : Type 0 where
  pub distinct : AreDistinct w.eq pairs
  pub contents_are : (q : K) → pair_of w.eq pairs q ≡ contents w bs q
  pub replies_are : (i : ℕ) (r : Reply K V T A) → slice_get replies i ≡ Some r
      → IsAnswered w bs r.thread r.call r.answer
