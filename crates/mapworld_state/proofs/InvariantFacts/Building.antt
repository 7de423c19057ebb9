-- A world behind a step is sound where its parts are. Facts that every kind of step needs.
use Rattle.std.proofs.Common.{◌≡◌, ◌≢◌, ℕ, zero, suc, ◌+◌, ◌-◌, ◌<◌, ◌≤◌, inl, inr, ⊎_elim, Bool, true, false}
use Rattle.std.proofs.Common.{if◌then◌else◌, ◌==◌, List, [], ◌∷◌, ◌++◌, length, drop, map, Option, Some, None}
use Rattle.std.proofs.Common.{slice_get, slice_set, refl, ap, sym, ◌∙◌, subst, arith, add-one, add-zero}
use Rattle.std.specs.Option.{option_and_then}
use Rattle.mapworld_state.specs.Shards.{ShardPairs, Puts, Grown}
use Rattle.std.proofs.lemmas.Bool.{cases_Bool, cases_eq, eq-eqb, false≢true}
use Rattle.mapworld_calls.specs.declared.ask.Ask.{Ask}
use Rattle.mapworld_calls.specs.declared.ask.Ask.TheVariants as ask
use Rattle.mapworld_calls.specs.declared.ask.Walk.{Walk}
use Rattle.mapworld_calls.specs.declared.block.Block.{Block}
use Rattle.mapworld_calls.specs.declared.reply.Reply.{Reply}
use Rattle.mapworld_calls.specs.Calls.{At, free, told, after}
use Rattle.mapworld_calls.specs.Programs.{session_behind, opening_before}
use Rattle.mapworld_calls.specs.Setup.{Setup, Laws, ask_at, session_of}
use Rattle.mapworld_calls.specs.Pairs.{pair_of, AreDistinct}
use Rattle.mapworld_calls.specs.Frame.{IsOn}
use Rattle.mapworld_calls.specs.Replay.{reached, block_key, contents, before, found, frame_of, told_as, told_by}
use Rattle.mapworld_calls.specs.Replay.{IsLastOnShard}
use Rattle.mapworld_calls.specs.Agrees.{IsAnswered}
use Rattle.mapworld_calls.specs.Placed.{answered_of, WellPlaced}
use Rattle.mapworld_calls.proofs.Lists.{slice_get-set_same, slice_get-set_other, slice_get-set_cases}
use Rattle.mapworld_calls.proofs.Replays.{works-on_key}
use Rattle.mapworld_calls.proofs.Kept.{Keeps, answered-kept}
use Rattle.mapworld_state.specs.declared.holds.Mode.{Mode}
use Rattle.mapworld_state.specs.declared.holds.Mode.TheVariants.{Exclusive}
use Rattle.mapworld_state.specs.Locks.Views.{Shown}
use Rattle.mapworld_state.specs.declared.step.Step.{Step}
use Rattle.mapworld_state.specs.declared.place.Phase.{Phase}
use Rattle.mapworld_state.specs.declared.place.Phase.TheVariants as phase
use Rattle.mapworld_state.specs.declared.place.Guard.{Guard}
use Rattle.mapworld_state.specs.declared.place.Guard.TheVariants as guard
use Rattle.mapworld_state.specs.Places.{Place}
use Rattle.mapworld_state.specs.State.{State, threads_of, started_of}
use Rattle.mapworld_state.specs.Moves.{way_mode, stepped}
use Rattle.mapworld_state.specs.Sound.{is_resting, may_own, block_after, HoldsShard, GuardIs, IsSettled, IsInSessionOf}
use Rattle.mapworld_state.specs.Sound.{IsInSession, IsReady, IsInCall, Claim, HasNoWalk, Walks, HasOwnVisits, Stands}
use Rattle.mapworld_state.specs.Sound.{TablesAgree, Sound}
use Rattle.mapworld_state.specs.Held.{HoldsMatch}
use Rattle.mapworld_state.proofs.HoldsTable.{none-there}
use Rattle.mapworld_state.proofs.Tables.{pair_of-is, pair_of-at}
use Rattle.mapworld_state.proofs.InvariantFacts.Effects.{Effect}
use Rattle.mapworld_state.proofs.InvariantFacts.Alike.{same-key, same-shard}
use Rattle.mapworld_state.proofs.InvariantFacts.Others.{session-below, WorksThere, stands-on}
use Rattle.mapworld_state.proofs.InvariantFacts.Timing.{count_by-before}

pub map-push : {X Y : Type 0} (f : X → Y) (xs : List X) (y : X) → map f (xs ++ y ∷ []) ≡ map f xs ++ f y ∷ []
map-push f [] y = refl
map-push f (x ∷ xs) y = ap (λ ys. f x ∷ ys) (map-push f xs y)

-- the first of what is left of a list
pub drop-first : {X : Type 0} (xs : List X) (n : ℕ) (a : X) (rest : List X) → drop n xs ≡ a ∷ rest
    → (slice_get xs n ≡ Some a) × (rest ≡ drop (n + 1) xs) × (n < length xs)
drop-first [] zero a rest e = absurd cc
drop-first [] (suc n) a rest e = absurd cc
drop-first (y ∷ ys) zero a rest e = let h : y ≡ a = cc in let t : ys ≡ rest = cc in
    (ap (λ z. Some z) h, sym t, omega arith)
drop-first (y ∷ ys) (suc n) a rest e =
    let r = drop-first ys n a rest e in
    (r.0, let same : suc n + 1 ≡ suc (n + 1) = omega arith in rw same r.1, let lt = r.2 in omega arith)

pub and_then-at : {X Y : Type 0} (f : X → Option Y) (o : Option X) (v : X) → o ≡ Some v → option_and_then f o ≡ f v
and_then-at f o v e = rw e

module _ {K V D T : Type 0} (x : Setup K V D T) (t : ℕ) (program : List (Ask K V D))
    (has : slice_get x.programs t ≡ Some program) where
  pub asked-at : (n : ℕ) (a : Ask K V D) → slice_get program n ≡ Some a → ask_at x t n ≡ Some a
  asked-at n a at = and_then-at (λ z. slice_get z n) (slice_get x.programs t) program has ∙ at

  pub asked-from : (n : ℕ) (a : Ask K V D) → ask_at x t n ≡ Some a → slice_get program n ≡ Some a
  asked-from n a at = sym (and_then-at (λ z. slice_get z n) (slice_get x.programs t) program has) ∙ at

  pub session-is : (n : ℕ) → session_of x t n ≡ opening_before program n
  session-is n = and_then-at (λ z. opening_before z n) (slice_get x.programs t) program has

  -- the session behind a call
  pub session-next : (n : ℕ) (a : Ask K V D) → ask_at x t n ≡ Some a → session_of x t (n + 1) ≡ session_behind n
      (Some a) (session_of x t n)
  session-next n a at =
      session-is (n + 1)
      ∙ rw add-one (ap (λ o. session_behind n o (opening_before program n)) (asked-from n a at)
      ∙ ap (λ o. session_behind n (Some a) o) (sym (session-is n)))

module _ {K V D T : Type 0} (x : Setup K V D T) (t c : ℕ) (a : Ask K V D) where
  -- one call more
  pub reached-next : (n : ℕ) (o : Option (K × V)) → ask_at x t (c + n) ≡ Some a
      → reached x t c (n + 1) o ≡ after x.deeds a (reached x t c n o)
  reached-next n o at = rw (add-one, at)

  pub reached-one : (o : Option (K × V)) → ask_at x t c ≡ Some a → reached x t c 1 o ≡ after x.deeds a (free o)
  reached-one o at = let here : ask_at x t (c + 0) ≡ Some a = rw add-zero at in rw here

  -- what the block of a call tells that has a key, by what the key had at its turn
  module _ {A : Type 0} (b : Block K) (key : K) (is : block_key x b ≡ Some key) (thread : b.thread ≡ t)
      (call : b.call ≡ c) (m : K → Option (K × V)) where
    pub told-next : (n : ℕ) → ask_at x t (c + n) ≡ Some a
        → told_by x {A = A} n b m ≡ Some (told x.deeds a (reached x t c n (m key)))
    told-next n at = ap (λ z. told_as x z b n m) (works-on_key x b key is) ∙ rw (thread, call, at)

    pub told-one : ask_at x t c ≡ Some a → told_by x {A = A} 0 b m ≡ Some (told x.deeds a (free (m key)))
    told-one at = let here : ask_at x t (c + 0) ≡ Some a = rw add-zero at in told-next 0 here

-- of two blocks of one call, and one visit, both are the last on their shard
pub last-of : {K V D T : Type 0} (x : Setup K V D T) (b c : Block K) → c.thread ≡ b.thread → c.call ≡ b.call
    → c.visit ≡ b.visit → (bs : List (Block K)) (i : ℕ) → IsLastOnShard x bs i b → IsLastOnShard x bs i c
last-of x b c thread call visit_is bs i h j d lt at n hn hd =
    h j d lt at n (sym (same-shard x b c thread call visit_is) ∙ hn) hd

-- the facts of a place do not depend on what a step leaves alone
module _ {K V D T A : Type 0} (x : Setup K V D T) (p p' : Place K V D T A) where
  pub in_call-moved : (threads : List ℕ) (t : ℕ) (a : Ask K V D) → p'.next ≡ p.next → p'.closes ≡ p.closes
      → p'.started ≡ p.started → IsInCall x threads t p a → IsInCall x threads t p' a
  in_call-moved threads t a next closes started h =
      record {
        asked = rw next h.asked;
        closes = closes ∙ h.closes;
        start = h.start;
        started = started ∙ h.started;
        begun = h.begun;
      }

  pub holds-moved : (m : Mode) → p'.holds ≡ p.holds → p'.shard ≡ p.shard → HoldsShard p m → HoldsShard p' m
  holds-moved m hold shard h =
      record { hold = h.hold; has = hold ∙ h.has; shard = h.shard ∙ sym shard; mode_is = h.mode_is }

  pub guard-moved : (tables : List (ShardPairs K V)) (g : Option (Guard K)) (at : At K V) → p'.holds ≡ p.holds
      → p'.shard ≡ p.shard → GuardIs tables p g at → GuardIs tables p' g at
  guard-moved tables None at hold shard h = h
  guard-moved tables (Some (guard.Pair kind)) at hold shard h = (h.0, h.1, holds-moved (way_mode kind) hold shard h.2)
  guard-moved tables (Some (guard.Vacant k)) at hold shard h = (h.0, holds-moved Exclusive hold shard h.1, rw shard h.2)

  pub settled-moved : (bs bs' : List (Block K)) (i : ℕ) (b c : Block K) → c.thread ≡ b.thread → c.call ≡ b.call
      → c.visit ≡ b.visit → (HoldsShard p' Exclusive → HoldsShard p Exclusive) → p'.shard ≡ p.shard
      → (IsLastOnShard x bs i b → IsLastOnShard x bs' i b) → IsSettled x bs p i b → IsSettled x bs' p' i c
  settled-moved bs bs' i b c thread call visit_is alone shard stays h = record {
    here = λ k is. shard ∙ h.here k (sym (same-key x b c thread call) ∙ is);
    last = λ holds. last-of x b c thread call visit_is bs' i (stays (h.last (alone holds)));
  }

  pub alone-moved : p'.holds ≡ p.holds → p'.shard ≡ p.shard → HoldsShard p' Exclusive → HoldsShard p Exclusive
  alone-moved hold shard h =
      record { hold = h.hold; has = sym hold ∙ h.has; shard = h.shard ∙ shard; mode_is = h.mode_is }

  session-moved : (bs : List (Block K)) (tables : List (ShardPairs K V)) (t n c : ℕ) (block : Option ℕ)
      → p'.holds ≡ p.holds → p'.shard ≡ p.shard → p'.guard ≡ p.guard
      → IsInSessionOf x bs tables t p n c block → IsInSessionOf x bs tables t p' n c block
  session-moved bs tables t n c (Some i) hold shard slot h = record {
    block = h.block;
    listed = h.listed;
    thread = h.thread;
    call = h.call;
    below = h.below;
    done = h.done;
    guard = subst (λ (o : Option (Guard K)). GuardIs tables p' o (reached x t c (n - c) (found x bs i h.block)))
        (sym slot) (guard-moved tables p.guard (reached x t c (n - c) (found x bs i h.block)) hold shard h.guard);
    there = λ g key e is. let has = h.there g key (sym slot ∙ e) is in
        record { table = has.table; held = rw shard has.held; so = has.so };
    settled = settled-moved bs bs i h.block h.block refl refl refl (alone-moved hold shard) shard (λ z. z) h.settled;
  }
  session-moved bs tables t n c None hold shard slot h = (slot ∙ h.0, h.1)

  in_session-moved : (bs : List (Block K)) (tables : List (ShardPairs K V)) (t n : ℕ) (o : Option ℕ) (block : Option ℕ)
      → p'.holds ≡ p.holds → p'.shard ≡ p.shard → p'.guard ≡ p.guard
      → IsInSession x bs tables t p n o block → IsInSession x bs tables t p' n o block
  in_session-moved bs tables t n (Some c) block hold shard slot h = session-moved bs tables t n c block hold shard slot
      h
  in_session-moved bs tables t n None block hold shard slot h = (slot ∙ h.0, h.1)

  pub ready-moved : (bs : List (Block K)) (tables : List (ShardPairs K V)) (t n : ℕ) (block : Option ℕ)
      → p'.holds ≡ p.holds → p'.shard ≡ p.shard → p'.guard ≡ p.guard
      → IsReady x bs tables t p n block → IsReady x bs tables t p' n block
  ready-moved bs tables t n block hold shard slot h = in_session-moved bs tables t n (session_of x t n) block hold shard
      slot h

module _ {K V D T : Type 0} (x : Setup K V D T) (bs bs' : List (Block K)) (tables : List (ShardPairs K V))
    (agree : TablesAgree x bs tables) where
  -- no key's contents change
  pub tables-same : ((q : K) → contents x bs' q ≡ contents x bs q) → TablesAgree x bs' tables
  tables-same same =
      record {
        routed = agree.routed;
        distinct = agree.distinct;
        contents_are = λ q table at. agree.contents_are q table
            at ∙ sym (same q);
      }

module _ {K V D T : Type 0} (x : Setup K V D T) (laws : Laws x) (bs bs' : List (Block K))
    (tables : List (ShardPairs K V)) (agree : TablesAgree x bs tables) where
  -- one shard's pairs change, and with them the contents of that shard alone
  pub tables-set : (i : ℕ) (table changed : ShardPairs K V) → slice_get tables i ≡ Some table
      → AreDistinct x.eq changed.items
      → ((q : K) → x.route q ≡ i → pair_of x.eq changed.items q ≡ contents x bs' q)
      → ((q : K) → x.route q ≢ i → (pair_of x.eq changed.items q ≡ pair_of x.eq table.items q)
      × (contents x bs' q ≡ contents x bs q))
      → TablesAgree x bs' (slice_set tables i changed)
  tables-set i table changed at distinct here elsewhere = record {
    routed = λ j n other pair ht hp. elim (slice_get-set_cases tables i j table other changed at ht) [
      | inl own ↦ routed n pair (ap (λ z. slice_get z.items n) (sym own.1) ∙ hp) ∙ sym own.0
      | inr old ↦ agree.routed j n other pair old.1 hp
    ];
    distinct = λ j other ht. elim (slice_get-set_cases tables i j table other changed at ht) [
      | inl own ↦ subst (λ (z : ShardPairs K V). AreDistinct x.eq z.items) (sym own.1) distinct
      | inr old ↦ agree.distinct j other old.1
    ];
    contents_are = λ q other ht. elim (slice_get-set_cases tables i (x.route q) table other changed at ht) [
      | inl own ↦ ap (λ z. pair_of x.eq z.items q) own.1 ∙ here q own.0
      | inr old ↦ agree.contents_are q other old.1 ∙ sym (elsewhere q old.0).1
    ];
  }
    where
      -- a pair is found by its own key, so it is of the shard, or stood there before
      routed : (n : ℕ) (pair : K × V) → slice_get changed.items n ≡ Some pair → x.route pair.0 ≡ i
      routed n pair hp = ⊎_elim
          (λ own. own)
          (λ ne.
          let finds = pair_of-at x.eq laws.equivalence changed.items n pair pair.0 distinct hp
          (laws.equivalence.refl pair.0) in
          let old = pair_of-is x.eq laws.equivalence table.items pair.0 pair (sym (elsewhere pair.0 ne).0 ∙ finds) in
          agree.routed i old.0 table pair at old.1)
          (cases_eq (x.route pair.0) i)

  -- a shard keeps its pairs, and no key's contents change
  pub tables-kept : (i : ℕ) (table changed : ShardPairs K V) → slice_get tables i ≡ Some table
      → AreDistinct x.eq changed.items → ((q : K) → pair_of x.eq changed.items q ≡ pair_of x.eq table.items q)
      → ((q : K) → contents x bs' q ≡ contents x bs q) → TablesAgree x bs' (slice_set tables i changed)
  tables-kept i table changed at distinct found contents =
      tables-set i table changed at distinct
      (λ q here. found q ∙ agree.contents_are q table (ap (λ n. slice_get tables n) here ∙ at) ∙ sym (contents q))
      (λ q ne. (found q, contents q))

  -- so where it has more room
  pub tables-grown : (i : ℕ) (table changed : ShardPairs K V) → slice_get tables i ≡ Some table
      → Grown x.eq table changed
      → ((q : K) → contents x bs' q ≡ contents x bs q) → TablesAgree x bs' (slice_set tables i changed)
  tables-grown i table changed at grown contents = tables-kept i table changed at grown.distinct grown.found contents

  -- a shard agrees with the replay where it has what a call leaves of its key, and what it had of all others
  pub tables-changed : (key : K) (leaves : Option (K × V)) (i : ℕ) → i ≡ x.route key
      → ((q : K) → x.eq key q ≡ true → contents x bs' q ≡ leaves)
      → ((q : K) → x.eq key q ≡ false → contents x bs' q ≡ contents x bs q)
      → (table changed : ShardPairs K V) → slice_get tables i ≡ Some table → Puts x.eq table changed key leaves
      → TablesAgree x bs' (slice_set tables i changed)
  tables-changed key leaves i here now still table changed held puts =
      tables-set i table changed held puts.distinct
      (λ q at. ⊎_elim
      (λ h. puts.found q ∙ rw h (sym (now q h)))
      (λ h. puts.found q ∙ rw h (agree.contents_are q table (ap (λ n. slice_get tables n) at ∙ held) ∙ sym (still q h)))
      (cases_Bool (x.eq key q)))
      (λ q ne. ⊎_elim
      (λ h. absurd (ne (sym (laws.routes key q h) ∙ sym here)))
      (λ h. (puts.found q ∙ rw h refl, still q h))
      (cases_Bool (x.eq key q)))

-- outside of every session
pub ready-outside : {K V D T A : Type 0} (x : Setup K V D T) (bs : List (Block K)) (tables : List (ShardPairs K V))
    (t : ℕ) (p : Place K V D T A) (n : ℕ) (block : Option ℕ)
    → session_of x t n ≡ None → p.guard ≡ None → block ≡ None → IsReady x bs tables t p n block
ready-outside x bs tables t p n block outside slot none =
    subst (λ (o : Option ℕ). IsInSession x bs tables t p n o block) (sym outside) (slot, none)

pub block_after-none : {K V D T A : Type 0} (p : Place K V D T A) → p.block ≡ None → block_after p ≡ None
block_after-none p none = at p.closes
  where
    at : (b : Bool) → (if b then None else p.block) ≡ None
    at true = refl
    at false = none

-- what an answer was told by stays, for every reply so far
pub replies-kept : {K V D T A : Type 0} (x : Setup K V D T) (bs bs' : List (Block K)) (replies : List (Reply K V T A))
    → ((i : ℕ) (r : Reply K V T A) → slice_get replies i ≡ Some r → Keeps A x bs bs' r.thread r.call)
    → ((i : ℕ) (r : Reply K V T A) → slice_get replies i ≡ Some r → IsAnswered x bs r.thread r.call r.answer)
    → (i : ℕ) (r : Reply K V T A) → slice_get replies i ≡ Some r → IsAnswered x bs' r.thread r.call r.answer
replies-kept x bs bs' replies keeps h i r at =
    answered-kept x bs bs' r.thread r.call r.answer (keeps i r at)
    (λ b e. let lt = session-below x r.thread r.call b e in omega arith) (h i r at)

-- a reply is of a call below its thread's next one
pub reply-below : {K V D T A : Type 0} (x : Setup K V D T) (steps : List ℕ) (started : ℕ → Option ℕ)
    (bs : List (Block K)) (replies : List (Reply K V T A)) → WellPlaced x steps started bs replies
    → (i : ℕ) (r : Reply K V T A) → slice_get replies i ≡ Some r → r.call < answered_of replies r.thread
reply-below x steps started bs replies h i r at =
    rw (h.in_turn i r at) (count_by-before replies (λ z. z.thread == r.thread) i r at (eq-eqb r.thread r.thread refl))

started-at : {K V D T A : Type 0} (o : Option (Place K V D T A)) (p : Place K V D T A) → o ≡ Some p
    → option_and_then (λ q. q.started) o ≡ p.started
started-at o p e = rw e

module _ {K V S D T A : Type 0} (x : Setup K V D T) (w : State K V S D T A) (s : Step) (p p' : Place K V D T A)
    (at : slice_get w.places s.thread ≡ Some p) where
  -- `started` shows the thread's place, and stays for all others
  pub started-own : started_of (stepped w s p') s.thread ≡ p'.started
  started-own = started-at (slice_get (slice_set w.places s.thread p') s.thread) p'
      (slice_get-set_same w.places s.thread p p' at)

  pub started-was : started_of w s.thread ≡ p.started
  started-was = started-at (slice_get w.places s.thread) p at

  pub started-other : (t : ℕ) → t ≢ s.thread → started_of (stepped w s p') t ≡ started_of w t
  started-other t ne = ap (λ o. option_and_then (λ q. q.started) o)
      (slice_get-set_other w.places s.thread t p' (λ e. ne (sym e)))

  pub started-stays : ((n : ℕ) → p.started ≡ Some n → p'.started ≡ Some n) → (t n : ℕ) → started_of w t ≡ Some n
      → started_of (stepped w s p') t ≡ Some n
  started-stays own t n h = ⊎_elim
      (λ e. ap (started_of (stepped w s p')) e ∙ started-own ∙ own n (sym started-was ∙ ap (started_of w) (sym e) ∙ h))
      (λ ne. started-other t ne ∙ h)
      (cases_eq t s.thread)

-- What a step of the thread t leads to: a sound world, where no block has come to find another pair on its shard, and
-- all blocks of other threads are those that were there.
pub record Goes {K V S D T A : Type 0} (x : Setup K V D T) (t : ℕ) (w w' : State K V S D T A) : Type 0 where
  pub sound : Sound x w'
  pub turns : (i : ℕ) (b : Block K) → slice_get w.blocks i ≡ Some b → (q : K) → IsOn (frame_of x) b q
      → before x w'.blocks i q ≡ before x w.blocks i q
  pub back : (u : ℕ) → u ≢ t → (i : ℕ) (b : Block K) → slice_get w'.blocks i ≡ Some b → b.thread ≡ u
      → slice_get w.blocks i ≡ Some b

-- what comes before a step and is no step of its own changes no block
pub goes-from : {K V S D T A : Type 0} (x : Setup K V D T) (t : ℕ) (w mid w' : State K V S D T A)
    → mid.blocks ≡ w.blocks → Goes x t mid w' → Goes x t w w'
goes-from x t w mid w' same g = record {
  sound = g.sound;
  turns = λ i b at q on. g.turns i b (ap (λ bs. slice_get bs i) same ∙ at) q on ∙ ap (λ bs. before x bs i q) same;
  back = λ u ne i b at own. ap (λ bs. slice_get bs i) (sym same) ∙ g.back u ne i b at own;
}

module _ {K V S D T A : Type 0} (x : Setup K V D T) (w : State K V S D T A) (s : Step) (p p' : Place K V D T A)
    (at : slice_get w.places s.thread ≡ Some p) (sound : Sound x w)
    (bs' : List (Block K)) (tables' : List (ShardPairs K V)) (locks' : Shown) (replies' : List (Reply K V T A))
    (F : Block K → Type 0) where
  -- what a step leaves of other threads' facts
  pub record Leaves : Type 0 where
    pub effect : Effect A x w.blocks bs' s.thread F
    pub count : (u : ℕ) → u ≢ s.thread → answered_of replies' u ≡ answered_of w.replies u
    pub kept : (u : ℕ) (q : Place K V D T A) (m : Mode) → u ≢ s.thread → slice_get w.places u ≡ Some q → HoldsShard q m
        → slice_get tables' q.shard ≡ slice_get w.tables q.shard
    pub foreign : (u : ℕ) (q : Place K V D T A) (b : Block K) → u ≢ s.thread → slice_get w.places u ≡ Some q
        → HoldsShard q Exclusive → WorksThere x q b → F b
    pub shards : length tables' ≡ length w.tables

  pub sound-by : Leaves
      → Stands x (threads_of w ++ s.thread ∷ []) bs' replies' tables' s.thread p'
      → TablesAgree x bs' tables'
      → HoldsMatch (slice_set w.places s.thread p') locks'
      → WellPlaced x (threads_of w ++ s.thread ∷ []) (started_of (stepped w s p')) bs' replies'
      → ((i : ℕ) (r : Reply K V T A) → slice_get replies' i ≡ Some r → IsAnswered x bs' r.thread r.call r.answer)
      → Goes x s.thread w
      (record (stepped w s p') { tables = tables'; locks = locks'; blocks = bs'; replies = replies' })
  sound-by leaves mine agree match placed answered =
      let threads = map-push (λ (z : Step). z.thread) w.steps s in
      record {
        turns = (leaves.effect (suc s.thread) (λ e. omega (arith, e))).turns;
        back = λ u ne. (leaves.effect u ne).back;
        sound = record {
          guarded = sound.guarded;
          shards = sound.shards ∙ sym leaves.shards;
          some = sound.some;
          stops = sound.stops;
          routes = λ q. rw leaves.shards (sound.routes q);
          stands = λ u q hq. rw threads (elim (slice_get-set_cases w.places s.thread u p q p' at hq) [
            | inl own ↦ rw (own.0, own.1) mine
            | inr other ↦ stands-on x (threads_of w) s.thread w.blocks bs' w.replies replies' w.tables tables' u q F
                (leaves.effect u other.0)
                (leaves.count u other.0) (λ m h. leaves.kept u q m other.0 other.1 h)
                (λ b alone here. leaves.foreign u q b other.0 other.1 alone here) (sound.stands u q other.1)
          ]);
          tables = agree;
          holds = match;
          placed = rw threads placed;
          replies = answered;
        };
      }

no-walk : {K V D T A : Type 0} (x : Setup K V D T) (bs : List (Block K)) (tables : List (ShardPairs K V)) (t : ℕ)
    (p : Place K V D T A) (f : Phase K V D T A) → may_own f ≡ false → Walks x bs tables t p f → HasNoWalk p
no-walk x bs tables t p phase.Rest own h = h
no-walk x bs tables t p (phase.Admit r) own h = h
no-walk x bs tables t p (phase.Find r) own h = h
no-walk x bs tables t p (phase.Grow c) own h = h
no-walk x bs tables t p (phase.Append k v) own h = absurd (false≢true (sym own))
no-walk x bs tables t p (phase.Apply k) own h = absurd (false≢true (sym own))
no-walk x bs tables t p (phase.View k d) own h = h
no-walk x bs tables t p (phase.Read d) own h = h
no-walk x bs tables t p (phase.Change c) own h = h
no-walk x bs tables t p (phase.Fill v) own h = h
no-walk x bs tables t p phase.Downgrade own h = h
no-walk x bs tables t p (phase.Idle f) own h = absurd (false≢true (sym own))
no-walk x bs tables t p (phase.Reach f) own h = absurd (false≢true (sym own))
no-walk x bs tables t p (phase.Part f) own h = absurd (false≢true (sym own))
no-walk x bs tables t p (phase.Visit f) own h = absurd (false≢true (sym own))
no-walk x bs tables t p (phase.Seek f) own h = absurd (false≢true (sym own))
no-walk x bs tables t p (phase.Item f) own h = absurd (false≢true (sym own))
no-walk x bs tables t p (phase.Give f) own h = absurd (false≢true (sym own))
no-walk x bs tables t p (phase.Onward f) own h = absurd (false≢true (sym own))
no-walk x bs tables t p (phase.Release a) own h = absurd (false≢true (sym own))
no-walk x bs tables t p (phase.Answer a) own h = absurd (false≢true (sym own))

-- a place's claim at the phase that it stands before
module _ {K V D T A : Type 0} (x : Setup K V D T) (threads : List ℕ) (bs : List (Block K))
    (replies : List (Reply K V T A)) (tables : List (ShardPairs K V)) (t : ℕ) (p : Place K V D T A)
    (f : Phase K V D T A) (before : p.phase ≡ f) (h : Stands x threads bs replies tables t p) where
  pub claim-at : Claim x threads bs tables t p f
  claim-at = subst (λ (g : Phase K V D T A). Claim x threads bs tables t p g) before h.claim

  pub taken-at : p.asks ≡ drop (if is_resting f then p.next else p.next + 1) h.program
  taken-at = subst (λ (g : Phase K V D T A). p.asks ≡ drop (if is_resting g then p.next else p.next + 1) h.program)
      before h.asks_left

  pub within-at : (if is_resting f then p.next else p.next + 1) ≤ length h.program
  within-at = subst (λ (g : Phase K V D T A). (if is_resting g then p.next else p.next + 1) ≤ length h.program) before
      h.within

  pub walks-at : Walks x bs tables t p f
  walks-at = subst (λ (g : Phase K V D T A). Walks x bs tables t p g) before h.walks

  -- a call that can't have its block yet is no walk that has begun
  pub none-at : may_own f ≡ false → HasNoWalk p
  none-at not_yet = no-walk x bs tables t p f not_yet walks-at

module _ {K V D T A : Type 0} (p p' : Place K V D T A) where
  -- a place that is in no walk
  pub none-moved : p'.visits ≡ p.visits → p'.reads ≡ p.reads → p'.count ≡ p.count → HasNoWalk p → HasNoWalk p'
  none-moved visits reads count none =
      record { visits = visits ∙ none.visits; reads = reads ∙ none.reads; count = count ∙ none.count }

module _ {K V D T A : Type 0} (x : Setup K V D T) (bs : List (Block K)) (t : ℕ) where
  pub no-visits : (p : Place K V D T A) → p.visits ≡ [] → HasOwnVisits x bs t p
  no-visits p none = record {
    are = λ i in_. absurd (none-there p.visits in_.0 i none in_.1);
    once = λ m n i hm hn. absurd (none-there p.visits m i none hm);
  }

  pub visits-moved : (p p' : Place K V D T A) → p'.visits ≡ p.visits → p'.next ≡ p.next → p'.block ≡ p.block
      → HasOwnVisits x bs t p → HasOwnVisits x bs t p'
  visits-moved p p' visits next block h = record {
    are = λ i in_.
        let v = h.are i (in_.0, ap (λ (z : List ℕ). slice_get z in_.0) (sym visits) ∙ in_.1) in
        record {
          block = v.block;
          listed = v.listed;
          thread = v.thread;
          call = v.call ∙ sym next;
          end = v.end;
          walk = v.walk;
          asked = ap (λ n. ask_at x t n) next ∙ v.asked;
          apart = block ∙ v.apart;
        };
    once = λ m n i hm hn. h.once m n i (ap (λ (z : List ℕ). slice_get z m) (sym visits) ∙ hm)
        (ap (λ (z : List ℕ). slice_get z n) (sym visits) ∙ hn);
  }

  -- a call that is no walk has no visits
  pub visits-none : (p : Place K V D T A) → ((f : Walk D) → ask_at x t p.next ≡ Some (ask.Walk f) → ⊥)
      → HasOwnVisits x bs t p → p.visits ≡ []
  visits-none p other h = at p.visits refl
    where
      at : (is : List ℕ) → p.visits ≡ is → p.visits ≡ []
      at [] e = e
      at (i ∷ is) e = let v = h.are i (0, ap (λ (z : List ℕ). slice_get z 0) e) in absurd (other v.walk v.asked)
