-- What a walk gives: each key at most once, and each pair that is left alone.
use Rattle.std.specs.Prelude.{◌≡◌, ◌≢◌, ℕ, Bool, List, Option, Some, None, slice_get, length, flat_map, IsTrue}
use Rattle.mapworld_calls.specs.declared.reply.Reply.{Reply}
use Rattle.mapworld_calls.specs.Programs.{stop_of}
use Rattle.mapworld_calls.specs.declared.block.Block.{Block}
use Rattle.mapworld_calls.specs.declared.ask.Ask.TheVariants as ask
use Rattle.mapworld_calls.specs.declared.ask.Walk.{Walk}
use Rattle.mapworld_calls.specs.declared.ask.Walk.TheVariants as walk
use Rattle.mapworld_calls.specs.declared.reply.Answer.{Answer}
use Rattle.mapworld_calls.specs.declared.reply.Answer.TheVariants as answer
use Rattle.mapworld_calls.specs.Setup.{Setup, Laws, ask_at}
use Rattle.mapworld_calls.specs.Replay.{done_keys, before}
use Rattle.mapworld_calls.specs.Agrees.{Visit, IsVisited, reads_of, IsWalkAnswer}
use Rattle.mapworld_calls.specs.HistoryLaws.Worlds.{IsWorld, RouteWithin, IsBlockOf, StandsBetween, IsLeftAlone}

-- the keys that the visits have done, in order of visits
abbrev pub keys_given : {K V D T : Type 0} → Setup K V D T → List (Visit K) → List K
keys_given w vs = flat_map (λ v. done_keys w v.block) vs

-- no two places have equal keys
abbrev pub AreOnce : {K : Type 0} → (K → K → Bool) → List K → Type 0
AreOnce {K} eq ks = (m n : ℕ) (j k : K) → slice_get ks m ≡ Some j → slice_get ks n ≡ Some k → IsTrue (eq j k) → m ≡ n

-- the deed by which a walk reads, if it reads
abbrev pub deed_read : {D : Type 0} → Walk D → Option D
deed_read (walk.Iter d stop) = Some d
deed_read (walk.IterMut d stop) = Some d
deed_read f = None

-- a walk's visits gave the pair: at some place they gave a key that is the pair's
pub record IsGiven {K V D T : Type 0} (w : Setup K V D T) (bs : List (Block K)) (f : Walk D) (vs : List (Visit K))
    (q : K) (p : K × V) : Type 0 where
  pub place : ℕ
  pub key : K
  pub listed : slice_get (keys_given w vs) place ≡ Some key
  pub same : IsTrue (w.eq key q)
  -- and if the walk reads, what it read there is the deed's answer of the pair
  pub read : (d : D) → deed_read f ≡ Some d → slice_get (reads_of w bs f vs) place ≡ Some (w.deeds.answer d p.0 p.1)

-- a walk that goes to the end gives each pair that was there before it, and that no other block changes from its first
-- visit to its last
abbrev pub GivesWhatIsLeftAlone : {K V D T : Type 0} → Setup K V D T → List (Block K) → ℕ → ℕ → Walk D → List (Visit K)
    → Type 0
GivesWhatIsLeftAlone {K} {V} w bs t c f vs =
    (first last : ℕ) → StandsBetween bs t c first last
    → (q : K) (p : K × V) → before w bs first q ≡ Some p → IsLeftAlone w bs t c first last q → IsGiven w bs f vs q p

-- what an answered walk gave
pub record GivesEachOnce {K V D T A : Type 0} (w : Setup K V D T) (bs : List (Block K)) (t c : ℕ) (f : Walk D)
    (a : Answer K V T A) : Type 0 where
  pub visits : List (Visit K)
  pub visited : IsVisited w bs t c f visits
  pub answered : IsWalkAnswer w bs f visits a
  pub at_most_once : AreOnce w.eq (keys_given w visits)
  -- a walk that reads is answered as many reads as it gave keys
  pub as_many : (d : D) → deed_read f ≡ Some d → length (reads_of w bs f visits) ≡ length (keys_given w visits)
  pub all : RouteWithin w → stop_of f ≡ None → GivesWhatIsLeftAlone w bs t c f visits

-- a walk that is answered and wasn't refused gives each key at most once, and where it goes to the end, each pair that
-- is left alone
abbrev pub WalksGiveEachOnce : Type 0 → Type 0 → Type 0 → Type 0 → Type 0 → Type 0
WalksGiveEachOnce K V D T A =
    (w : Setup K V D T) → Laws w → (bs : List (Block K)) (replies : List (Reply K V T A)) → IsWorld w bs replies
    → (i : ℕ) (r : Reply K V T A) → slice_get replies i ≡ Some r → r.answer ≢ answer.NoMemory
    → (f : Walk D) → ask_at w r.thread r.call ≡ Some (ask.Walk f) → GivesEachOnce w bs r.thread r.call f r.answer

-- no two visits of a walk have done equal keys, and none has done one twice: also while the walk goes on, and where it
-- was refused
abbrev pub VisitsGiveEachOnce : Type 0 → Type 0 → Type 0 → Type 0 → Type 0 → Type 0
VisitsGiveEachOnce K V D T A =
    (w : Setup K V D T) → Laws w → (bs : List (Block K)) (replies : List (Reply K V T A)) → IsWorld w bs replies
    → (t c : ℕ) (f : Walk D) → ask_at w t c ≡ Some (ask.Walk f)
    → (i j m n : ℕ) (b d : Block K) (p q : K) → IsBlockOf bs i b t c → IsBlockOf bs j d t c
    → slice_get (done_keys w b) m ≡ Some p → slice_get (done_keys w d) n ≡ Some q → IsTrue (w.eq p q) → (i ≡ j)
    × (m ≡ n)
