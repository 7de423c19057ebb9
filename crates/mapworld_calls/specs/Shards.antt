-- Which call is on which shard at a step, and that a try that was answered `Locked` had a cause.
use Rattle.std.specs.Prelude.{◌≡◌, ◌≢◌, ℕ, suc, ◌+◌, ◌<◌, ◌≤◌, ◌⊎◌, List, Option, Some, slice_get, IsTrue}
use Rattle.mapworld_calls.specs.declared.block.Block.{Block}
use Rattle.mapworld_calls.specs.declared.ask.Ask.{Ask}
use Rattle.mapworld_calls.specs.declared.ask.Ask.TheVariants as ask
use Rattle.mapworld_calls.specs.declared.ask.Begin.{Begin}
use Rattle.mapworld_calls.specs.declared.reply.Answer.TheVariants as answer
use Rattle.mapworld_calls.specs.declared.reply.Reply.{Reply}
use Rattle.mapworld_calls.specs.Programs.{keyed_key, opening_key, is_try}
use Rattle.mapworld_calls.specs.Calls.{is_free}
use Rattle.mapworld_calls.specs.Setup.{Setup, ask_at}
use Rattle.mapworld_calls.specs.Replay.{reached, before}
use Rattle.mapworld_calls.specs.Agrees.{HasNoBlock}
use Rattle.mapworld_calls.specs.Placed.{answered_of}

-- the step isn't past the answer of the call, if there is one
abbrev pub IsBeforeAnswer : {K V T A : Type 0} → List (Reply K V T A) → ℕ → ℕ → ℕ → Type 0
IsBeforeAnswer {K} {V} {T} {A} replies t c p =
    (i : ℕ) (r : Reply K V T A) → slice_get replies i ≡ Some r → r.thread ≡ t → r.call ≡ c → p ≤ r.end

-- the call started at that step, as its reply shows or, while it isn't answered, `started`
pub record IsReplied {K V T A : Type 0} (replies : List (Reply K V T A)) (t c s : ℕ) : Type 0 where
  pub place : ℕ
  pub reply : Reply K V T A
  pub listed : slice_get replies place ≡ Some reply
  pub thread : reply.thread ≡ t
  pub call : reply.call ≡ c
  pub start : reply.start ≡ s

abbrev pub StartedAt : {K V T A : Type 0} → (ℕ → Option ℕ) → List (Reply K V T A) → ℕ → ℕ → ℕ → Type 0
StartedAt started replies t c s = IsReplied replies t c s ⊎ ((c ≡ answered_of replies t) × (started t ≡ Some s))

-- a session is on its shard until the answer of the call that ends its guard; where the opening has no block, or gave
-- no guard, until the answer of the opening
pub record IsSessionOn {K V D T A : Type 0} (w : Setup K V D T) (bs : List (Block K)) (replies : List (Reply K V T A))
    (t c : ℕ) (k : K) (p : ℕ) : Type 0 where
  pub refused : HasNoBlock bs t c → IsBeforeAnswer replies t c p
  pub guarded : (i n : ℕ) (b : Block K) → slice_get bs i ≡ Some b → b.thread ≡ t → b.call ≡ c → n < b.done.value
      → IsTrue (is_free (reached w t c (suc n) (before w bs i k))) → IsBeforeAnswer replies t (c + n) p

-- a visit of that number is listed, and its position isn't past the step
pub record IsVisitedAt {K : Type 0} (bs : List (Block K)) (t c n p : ℕ) : Type 0 where
  pub place : ℕ
  pub block : Block K
  pub listed : slice_get bs place ≡ Some block
  pub thread : block.thread ≡ t
  pub call : block.call ≡ c
  pub visit : block.visit ≡ n
  pub reached : block.position ≤ p

-- a walk is on a shard from its start or the position of the visit before, until the position of the second visit after
-- it or the walk's answer
pub record IsWalkOn {K V D T A : Type 0} (w : Setup K V D T) (bs : List (Block K)) (replies : List (Reply K V T A))
    (t c s p : ℕ) : Type 0 where
  pub within : s < w.shards
  pub begun : (n : ℕ) → s ≡ suc n → IsVisitedAt bs t c n p
  pub goes_on : (i : ℕ) (b : Block K) → slice_get bs i ≡ Some b → b.thread ≡ t → b.call ≡ c → b.visit ≡ s + 2
      → p ≤ b.position
  pub unanswered : IsBeforeAnswer replies t c p

abbrev pub IsOnBy : {K V D T A : Type 0} → Setup K V D T → List (Block K) → List (Reply K V T A) → ℕ → ℕ → Ask K V D → ℕ
    → ℕ → Type 0
IsOnBy w bs replies t c (ask.Keyed k) s p = (w.route (keyed_key k) ≡ s) × IsBeforeAnswer replies t c p
IsOnBy w bs replies t c (ask.Begin b) s p = (w.route (opening_key b) ≡ s) × IsSessionOn w bs replies t c (opening_key b)
    p
IsOnBy w bs replies t c (ask.Walk f) s p = IsWalkOn w bs replies t c s p
IsOnBy w bs replies t c (ask.Held h) s p = ⊥

-- at that step a call of the thread is on the shard
pub record IsOnShard {K V D T A : Type 0} (w : Setup K V D T) (started : ℕ → Option ℕ) (bs : List (Block K))
    (replies : List (Reply K V T A)) (t s p : ℕ) : Type 0 where
  pub call : ℕ
  pub ask : Ask K V D
  pub asked : ask_at w t call ≡ Some ask
  pub start : ℕ
  pub shown : StartedAt started replies t call start
  pub begun : start ≤ p
  pub on : IsOnBy w bs replies t call ask s p

-- at some step of the try a call of another thread is on its shard
pub record HasCause {K V D T A : Type 0} (w : Setup K V D T) (started : ℕ → Option ℕ) (bs : List (Block K))
    (replies : List (Reply K V T A)) (r : Reply K V T A) : Type 0 where
  pub opening : Begin K
  pub asked : ask_at w r.thread r.call ≡ Some (ask.Begin opening)
  pub step : ℕ
  pub from : r.start ≤ step
  pub until : step ≤ r.end
  pub other : ℕ
  pub another : other ≢ r.thread
  pub on : IsOnShard w started bs replies other (w.route (opening_key opening)) step

-- each try that was answered `Locked` has one; of a call with a deadline it says nothing
abbrev pub LockedHaveCauses : {K V D T A : Type 0} → Setup K V D T → (ℕ → Option ℕ) → List (Block K)
    → List (Reply K V T A) → Type 0
LockedHaveCauses {K} {V} {D} {T} {A} w started bs replies =
    (i : ℕ) (r : Reply K V T A) → slice_get replies i ≡ Some r → r.answer ≡ answer.Locked
    → (b : Begin K) → ask_at w r.thread r.call ≡ Some (ask.Begin b) → IsTrue (is_try b)
    → HasCause w started bs replies r
