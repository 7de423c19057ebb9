-- The laws of the replay for blocks, over definitions alone.
use Rattle.std.specs.Prelude.{◌≡◌, ℕ, suc, ◌+◌, ◌<◌, ◌⊎◌, Bool, true, false, IsSome, IsTrue, List, [], ◌∷◌, ◌++◌}
use Rattle.std.specs.Prelude.{length, Option, Some, slice_get, slice_set, take}
use Rattle.mapworld_calls.specs.declared.ask.Ask.{Ask}
use Rattle.mapworld_calls.specs.declared.ask.Held.{Held}
use Rattle.mapworld_calls.specs.declared.ask.Walk.{Walk}
use Rattle.mapworld_calls.specs.declared.ask.Walk.TheVariants as walk
use Rattle.mapworld_calls.specs.declared.block.Block.{Block}
use Rattle.mapworld_calls.specs.declared.reply.Answer.TheVariants as answer
use Rattle.mapworld_calls.specs.declared.reply.Reply.{Reply}
use Rattle.mapworld_calls.specs.Pairs.{pair_of, AreDistinct}
use Rattle.mapworld_calls.specs.Programs.{stop_of}
use Rattle.mapworld_calls.specs.Deeds.{Deeds}
use Rattle.mapworld_calls.specs.Calls.{At, pair_in, told, after, held_answer, held_leaves, visit_answer, visit_leaves}
use Rattle.mapworld_calls.specs.Setup.{Setup, Laws, ask_at}
use Rattle.mapworld_calls.specs.Frame.{Frame, IsOn, KeepsToShard, LooksAtShard, AreApart, IsLastOnShard, IsSettled}
use Rattle.mapworld_calls.specs.Frame.{IsQuiet, Grows, of_shard}
use Rattle.mapworld_calls.specs.Frame as frame
use Rattle.mapworld_calls.specs.Replay.{left, done_keys, told_by, frame_of, contents, before}
use Rattle.mapworld_calls.specs.Agrees.{IsToldBy, IsAnswered, IsBelow, Agrees}
use Rattle.mapworld_calls.specs.Placed.{done_by_walk, IsVisitDone, IsDoneWithin, IsPlaced, IsEarlier, WellPlaced}
use Rattle.mapworld_calls.specs.Placed.{StaysListed}
use Rattle.mapworld_calls.specs.Growth.{state_of, Calls, Visits, Ends, IsUnfinished, IsOfLaterCall, IsPut}

-- blocks of any kind that keep to their shards: two neighbours on different shards may change places, contents stay,
-- and each of them finds the same on its shard
pub record Commute {B K O : Type 0} (f : Frame B K O) (front : List B) (b c : B) (later : List B) : Type 0 where
  pub contents_stay : (q : K) → frame.contents f (front ++ b ∷ c ∷ later) q ≡ frame.contents f (front ++ c ∷ b ∷ later)
      q
  pub first_finds : (q : K) → IsOn f b q
      → frame.before f (front ++ b ∷ c ∷ later) (length front) q ≡ frame.before f (front ++ c ∷ b ∷ later)
      (length front + 1) q
  pub second_finds : (q : K) → IsOn f c q
      → frame.before f (front ++ b ∷ c ∷ later) (length front + 1) q ≡ frame.before f (front ++ c ∷ b ∷ later)
      (length front) q

abbrev pub BlocksCommute : Type 0 → Type 0 → Type 0 → Type 0
BlocksCommute B K O =
    (f : Frame B K O) → KeepsToShard f → (front : List B) (b c : B) (later : List B) → AreApart f b c
    → Commute f front b c later

-- what a key has is told by the blocks of its shard alone
abbrev pub ReplaySplits : Type 0 → Type 0 → Type 0 → Type 0
ReplaySplits B K O =
    (f : Frame B K O) → KeepsToShard f → (bs : List B) (q : K)
    → frame.contents f (of_shard f (f.route q) bs) q ≡ frame.contents f bs q

-- a settled block's keys have now what it left
abbrev pub SettledIsNow : Type 0 → Type 0 → Type 0 → Type 0
SettledIsNow B K O =
    (f : Frame B K O) → KeepsToShard f → (bs : List B) (i : ℕ) (b : B) → slice_get bs i ≡ Some b → IsSettled f bs i b
    → (q : K) → IsOn f b q → frame.contents f bs q ≡ f.left b q (frame.before f bs i q)

-- a block stays settled while another changes nothing or is on another shard, and so does the last on its shard
pub record StaysSettled {B K O : Type 0} (f : Frame B K O) (bs : List B) (i : ℕ) (b c : B) : Type 0 where
  pub another : (k : ℕ) (d : B) → IsQuiet f bs i b c ⊎ AreApart f d b → IsSettled f bs k d
      → IsSettled f (slice_set bs i c) k d
  pub itself : IsQuiet f bs i b c → IsSettled f bs i b → IsSettled f (slice_set bs i c) i c
  pub last_is_settled : IsLastOnShard f bs i b → IsSettled f bs i b
  pub last_stays : IsLastOnShard f bs i b → IsLastOnShard f (slice_set bs i c) i c
  pub others_stay_last : (k : ℕ) (d : B) → IsLastOnShard f bs k d → IsLastOnShard f (slice_set bs i c) k d

abbrev pub SettledStays : Type 0 → Type 0 → Type 0 → Type 0
SettledStays B K O =
    (f : Frame B K O) → KeepsToShard f → (bs : List B) (i : ℕ) (b c : B) → Grows f bs i b c → StaysSettled f bs i b c

-- the blocks of a world keep to their shards, tell what is told from their shards, and treat equal keys alike
pub record ArePlain {K V D T : Type 0} (A : Type 0) (w : Setup K V D T) : Type 0 where
  pub keep : KeepsToShard (frame_of w)
  pub look : (n : ℕ) → LooksAtShard (frame_of w) (told_by w {A = A} n)
  pub alike : (bs : List (Block K)) (j k : K) → IsTrue (w.eq j k) → contents w bs j ≡ contents w bs k

abbrev pub BlocksArePlain : Type 0 → Type 0 → Type 0 → Type 0 → Type 0 → Type 0
BlocksArePlain K V D T A = (w : Setup K V D T) → Laws w → ArePlain A w

-- a call that leaves its key's pair as it is keeps the agreement, whatever blocks are listed later, and its block tells
-- its answer
abbrev pub QuietCallsAgree : Type 0 → Type 0 → Type 0 → Type 0 → Type 0 → Type 0
QuietCallsAgree K V D T A =
    (w : Setup K V D T) → Laws w → (bs : List (Block K)) (i : ℕ) (b c : Block K) (k : K) (a : Ask K V D)
    → Calls w bs i b c k a → pair_in (after w.deeds a (state_of w bs i b k)) ≡ pair_in (state_of w bs i b k)
    → (pairs : List (K × V)) (replies : List (Reply K V T A)) → Agrees w bs pairs replies
    → Agrees w (slice_set bs i c) pairs replies
    × IsToldBy {A = A} w (slice_set bs i c) b.thread b.call b.done.value (told w.deeds a (state_of w bs i b k))

-- any call keeps the agreement where its block is the last on its shard: its key has now what the call leaves
abbrev pub LastCallsAgree : Type 0 → Type 0 → Type 0 → Type 0 → Type 0 → Type 0
LastCallsAgree K V D T A =
    (w : Setup K V D T) → Laws w → (bs : List (Block K)) (i : ℕ) (b c : Block K) (k : K) (a : Ask K V D)
    → Calls w bs i b c k a → IsLastOnShard (frame_of w) bs i b
    → (pairs pairs' : List (K × V)) (replies : List (Reply K V T A)) → Agrees w bs pairs replies
    → IsPut w pairs pairs' k (pair_in (after w.deeds a (state_of w bs i b k)))
    → Agrees w (slice_set bs i c) pairs' replies
    × IsToldBy {A = A} w (slice_set bs i c) b.thread b.call b.done.value (told w.deeds a (state_of w bs i b k))

-- one more key of a visit that leaves the key's pair as it is: `Iter` does so at each
abbrev pub QuietVisitsAgree : Type 0 → Type 0 → Type 0 → Type 0 → Type 0 → Type 0
QuietVisitsAgree K V D T A =
    (w : Setup K V D T) → Laws w → (bs : List (Block K)) (i : ℕ) (b c : Block K) (f : Walk D) (k : K)
    → Visits w bs i b c f k → visit_leaves w.deeds f (before w bs i k) ≡ before w bs i k
    → (pairs : List (K × V)) (replies : List (Reply K V T A)) → IsUnfinished w replies b → Agrees w bs pairs replies
    → Agrees w (slice_set bs i c) pairs replies
    × (told_by w {A = A} (length (done_keys w b)) c (before w (slice_set bs i c) i) ≡ Some
    (visit_answer w.deeds f (before w bs i k)))

-- one more key of a visit that is the last on its shard
abbrev pub LastVisitsAgree : Type 0 → Type 0 → Type 0 → Type 0 → Type 0 → Type 0
LastVisitsAgree K V D T A =
    (w : Setup K V D T) → Laws w → (bs : List (Block K)) (i : ℕ) (b c : Block K) (f : Walk D) (k : K)
    → Visits w bs i b c f k → IsLastOnShard (frame_of w) bs i b
    → (pairs pairs' : List (K × V)) (replies : List (Reply K V T A)) → IsUnfinished w replies b
    → Agrees w bs pairs replies
    → IsPut w pairs pairs' k (visit_leaves w.deeds f (before w bs i k))
    → Agrees w (slice_set bs i c) pairs' replies
    × (told_by w {A = A} (length (done_keys w b)) c (before w (slice_set bs i c) i) ≡ Some
    (visit_answer w.deeds f (before w bs i k)))

-- a visit that does one more key is still within its walk, if it hadn't done that key, which has a pair at the visit's
-- turn, and the walk has an item left to give
abbrev pub VisitsStayDone : Type 0 → Type 0 → Type 0 → Type 0 → Type 0
VisitsStayDone K V D T =
    (w : Setup K V D T) → Laws w → (bs : List (Block K)) (i : ℕ) (b c : Block K) (f : Walk D) (k : K)
    → Visits w bs i b c f k → IsSome (before w bs i k)
    → ((n : ℕ) (j : K) → slice_get b.visited.items n ≡ Some j → w.eq j k ≡ false)
    → IsBelow (stop_of f) (done_by_walk w (take (suc i) bs) b.thread b.call)
    → IsVisitDone w bs i b f → IsVisitDone w (slice_set bs i c) i c f

-- an end that is written into a block
abbrev pub EndsAgree : Type 0 → Type 0 → Type 0 → Type 0 → Type 0 → Type 0
EndsAgree K V D T A =
    (w : Setup K V D T) → Laws w → (bs : List (Block K)) (i : ℕ) (b c : Block K) → Ends bs i b c
    → (pairs : List (K × V)) (replies : List (Reply K V T A)) → IsUnfinished w replies b → Agrees w bs pairs replies
    → Agrees w (slice_set bs i c) pairs replies

-- a new block at the end, of a later call than those that its thread was answered: its keys have now what it leaves
abbrev pub NewBlocksAgree : Type 0 → Type 0 → Type 0 → Type 0 → Type 0 → Type 0
NewBlocksAgree K V D T A =
    (w : Setup K V D T) → (bs : List (Block K)) (b : Block K) (pairs pairs' : List (K × V))
    (replies : List (Reply K V T A))
    → IsOfLaterCall replies b → AreDistinct w.eq pairs'
    → ((q : K) → pair_of w.eq pairs' q ≡ left w b q (pair_of w.eq pairs q))
    → Agrees w bs pairs replies → Agrees w (bs ++ b ∷ []) pairs' replies

-- a reply whose answer is that of the replay
abbrev pub RepliesAgree : Type 0 → Type 0 → Type 0 → Type 0 → Type 0 → Type 0
RepliesAgree K V D T A =
    (w : Setup K V D T) → (bs : List (Block K)) (pairs : List (K × V)) (replies : List (Reply K V T A))
    (r : Reply K V T A)
    → IsAnswered w bs r.thread r.call r.answer → Agrees w bs pairs replies → Agrees w bs pairs (replies ++ r ∷ [])

-- a call on a guard that is answered `NoGuard` or `WrongGuard` leaves guard and pair as they were
abbrev pub RefusedCallsChangeNothing : Type 0 → Type 0 → Type 0 → Type 0 → Type 0 → Type 0
RefusedCallsChangeNothing K V D T A =
    (deeds : Deeds D K V T) (h : Held V D) (s : At K V)
    → (held_answer {A = A} deeds h s ≡ answer.NoGuard) ⊎ (held_answer {A = A} deeds h s ≡ answer.WrongGuard)
    → held_leaves deeds h s ≡ s

-- whether a walk only reads or counts
abbrev pub only_reads : {D : Type 0} → Walk D → Bool
only_reads (walk.Iter d stop) = true
only_reads walk.Len = true
only_reads walk.IsEmpty = true
only_reads walk.Capacity = true
only_reads walk.ShrinkToFit = true
only_reads f = false

-- such a walk leaves each pair as it is
abbrev pub ReadingWalksChangeNothing : Type 0 → Type 0 → Type 0 → Type 0 → Type 0
ReadingWalksChangeNothing K V D T =
    (deeds : Deeds D K V T) (f : Walk D) → IsTrue (only_reads f) → (o : Option (K × V)) → visit_leaves deeds f o ≡ o

-- no later block of the list is of the same call
abbrev pub IsLastOfCall : {K : Type 0} → List (Block K) → ℕ → Block K → Type 0
IsLastOfCall {K} bs i b = (j : ℕ) (d : Block K) → i < j → slice_get bs j ≡ Some d → d.thread ≡ b.thread
    → d.call ≡ b.call → ⊥

-- blocks stay well placed when one goes on that is the last of its call, if what it has done is within its call
abbrev pub PlacesStay : Type 0 → Type 0 → Type 0 → Type 0 → Type 0 → Type 0
PlacesStay K V D T A =
    (w : Setup K V D T) → Laws w → (steps : List ℕ) (started : ℕ → Option ℕ) (replies : List (Reply K V T A))
    → (bs : List (Block K)) (i : ℕ) (b c : Block K) → Grows (frame_of w) bs i b c → StaysListed b c → c.end ≡ b.end
    → IsLastOfCall bs i b → WellPlaced w steps started bs replies
    → ((a : Ask K V D) → ask_at w b.thread b.call ≡ Some a → IsDoneWithin w started (slice_set bs i c) replies i c a)
    → WellPlaced w steps started (slice_set bs i c) replies

-- and when a block is added at the end that is well placed there, behind all others and the earlier ones of its thread
abbrev pub PlacesStayBefore : Type 0 → Type 0 → Type 0 → Type 0 → Type 0 → Type 0
PlacesStayBefore K V D T A =
    (w : Setup K V D T) (steps : List ℕ) (started : ℕ → Option ℕ) (replies : List (Reply K V T A)) (bs : List (Block K))
    (x : Block K)
    → WellPlaced w steps started bs replies → IsPlaced w steps started (bs ++ x ∷ []) replies (length bs) x
    → ((i : ℕ) (b : Block K) → slice_get bs i ≡ Some b → b.position < x.position)
    → ((i : ℕ) (b : Block K) → slice_get bs i ≡ Some b → b.thread ≡ x.thread → IsEarlier b x)
    → WellPlaced w steps started (bs ++ x ∷ []) replies
