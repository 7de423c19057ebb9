-- A call on a guard, or where a guard was, is counted in by the session's block.
use Rattle.std.proofs.Common.{◌≡◌, ◌≢◌, ℕ, ◌+◌, ◌-◌, ◌≤◌, ◌⊎◌, inl, inr, ⊎_elim, false, List, [], ◌∷◌, ◌++◌, length}
use Rattle.std.proofs.Common.{take, drop, Option, Some, None, IsSome, slice_get, slice_set, append-nil, refl, ap, sym}
use Rattle.std.proofs.Common.{◌∙◌, subst, arith}
use Rattle.std.specs.Option.{option_and_then}
use Rattle.mapworld_state.specs.Shards.{ShardPairs, Puts}
use Rattle.std.proofs.lemmas.Option.{same_Some, none-some}
use Rattle.std.proofs.lemmas.Bool.{cases_lt, cases_eq, false≢true}
use Rattle.mapworld_calls.specs.declared.ask.Ask.{Ask}
use Rattle.mapworld_calls.specs.declared.ask.Ask.TheVariants as ask
use Rattle.mapworld_calls.specs.declared.ask.Begin.{Begin}
use Rattle.mapworld_calls.specs.declared.ask.Held.{Held}
use Rattle.mapworld_calls.specs.declared.ask.Held.TheVariants as held
use Rattle.mapworld_calls.specs.declared.block.Block.{Block}
use Rattle.mapworld_calls.specs.Deeds.{Deeds}
use Rattle.mapworld_calls.specs.Calls.{At, free, shared, exclusive, occupied, vacant, pair_in, told, held_leaves}
use Rattle.mapworld_calls.specs.Setup.{Setup, Laws, ask_at, session_of}
use Rattle.mapworld_calls.specs.Pairs.{pair_of}
use Rattle.mapworld_calls.specs.Frame as frame
use Rattle.mapworld_calls.specs.Replay.{reached, block_key, frame_of, at_key, contents, before, found, IsLastOnShard}
use Rattle.mapworld_calls.specs.Agrees.{IsToldBy}
use Rattle.mapworld_calls.specs.Placed.{answered_of, HasStarted, IsSessionDone, IsDoneWithin}
use Rattle.mapworld_calls.specs.Growth.{GoesOn}
use Rattle.mapworld_calls.proofs.Lists.{slice_get-set_same, slice_get-set_other, slice_get-set_cases}
use Rattle.mapworld_calls.specs.Programs.{opening_key}
use Rattle.mapworld_calls.proofs.Replays.{no-walk, found-is}
use Rattle.mapworld_calls.proofs.Grown.{Grows, IsQuiet, goes-on, frame-grows, found-grown, block_key-grown}
use Rattle.mapworld_calls.proofs.Grown.{contents-quiet}
use Rattle.mapworld_calls.proofs.Kept.{keeps-grown}
use Rattle.mapworld_state.specs.declared.holds.Mode.TheVariants.{Exclusive}
use Rattle.mapworld_state.specs.declared.step.Step.{Step}
use Rattle.mapworld_state.specs.Locks.Views.{Shown}
use Rattle.mapworld_state.specs.declared.holds.Mode.{Mode}
use Rattle.mapworld_state.specs.declared.place.Way.{Way}
use Rattle.mapworld_state.specs.declared.place.Way.TheVariants as way
use Rattle.mapworld_state.specs.declared.place.Guard.{Guard}
use Rattle.mapworld_state.specs.declared.place.Guard.TheVariants as guard
use Rattle.mapworld_state.specs.Places.{Place}
use Rattle.mapworld_state.specs.State.{State, threads_of, started_of}
use Rattle.mapworld_state.specs.Moves.{way_mode, lent, stepped, CountsIn}
use Rattle.mapworld_state.specs.Steps.{guarded_key}
use Rattle.mapworld_state.specs.Sound.{taken, may_own, HoldsShard, HasPairs, GuardIs, HasReached, HasSession}
use Rattle.mapworld_state.specs.Sound.{IsInSession, Claim, Walks, OwnsBlocks, HasOwnBlock, Stands, TablesAgree, Sound}
use Rattle.mapworld_state.specs.Held.{HoldsMatch}
use Rattle.mapworld_state.proofs.InvariantFacts.Effects.{effect-grow, last-grown, Anyhow}
use Rattle.mapworld_state.proofs.InvariantFacts.Others.{session-opens, opening-key_of}
use Rattle.mapworld_state.proofs.InvariantFacts.Timing.{key-alone, placed-grown}
use Rattle.mapworld_state.proofs.InvariantFacts.Building.{Goes, and_then-at, started-own, started-stays, sound-by}
use Rattle.mapworld_state.proofs.InvariantFacts.Building.{replies-kept, no-visits, reached-next, told-next}
use Rattle.mapworld_state.proofs.InvariantFacts.Building.{settled-moved, alone-moved, tables-same}

-- a call on the guard of a session that stands there leaves its pair
abbrev pub LeavesPair : {D K V T : Type 0} → Deeds D K V T → Held V D → At K V → Type 0
LeavesPair deeds h at = pair_in (held_leaves deeds h at) ≡ pair_in at

pub read-quiet : {D K V T : Type 0} (deeds : Deeds D K V T) (d : D) (at : At K V) → LeavesPair deeds (held.Read d) at
read-quiet deeds d (free o) = refl
read-quiet deeds d (shared pair) = refl
read-quiet deeds d (exclusive pair) = refl
read-quiet deeds d (occupied k pair) = refl
read-quiet deeds d (vacant k) = refl

pub downgrade-quiet : {D K V T : Type 0} (deeds : Deeds D K V T) (at : At K V) → LeavesPair deeds held.Downgrade at
downgrade-quiet deeds (free o) = refl
downgrade-quiet deeds (shared pair) = refl
downgrade-quiet deeds (exclusive pair) = refl
downgrade-quiet deeds (occupied k pair) = refl
downgrade-quiet deeds (vacant k) = refl

pub drop-quiet : {D K V T : Type 0} (deeds : Deeds D K V T) (at : At K V) → LeavesPair deeds held.Drop at
drop-quiet deeds (free o) = refl
drop-quiet deeds (shared pair) = refl
drop-quiet deeds (exclusive pair) = refl
drop-quiet deeds (occupied k pair) = refl
drop-quiet deeds (vacant k) = refl

same-reached : {K V D T : Type 0} (x : Setup K V D T) (t u c e n m : ℕ) (o : Option (K × V)) → t ≡ u → c ≡ e → n ≡ m
    → reached x t c n o ≡ reached x u e m o
same-reached x t u c e n m o ht hc hn = rw (ht, hc, hn)

-- a thread's block stays its own where a block of the thread grows
pub own-grown : {K V D T A : Type 0} (bs : List (Block K)) (i : ℕ) (b c : Block K) (t : ℕ) → slice_get bs i ≡ Some b
    → c.thread ≡ t → (p : Place K V D T A) → HasOwnBlock bs t p
    → (j : ℕ) → p.block ≡ Some j → (e : Block K) × (slice_get (slice_set bs i c) j ≡ Some e) × (e.thread ≡ t)
own-grown bs i b c t at thread p own j mine = ⊎_elim
    (λ same. (c, ap (λ k. slice_get (slice_set bs i c) k) (sym same) ∙ slice_get-set_same bs i b c at, thread))
    (λ ne. let o = own j mine in (o.0, slice_get-set_other bs i j c ne ∙ o.1, o.2))
    (cases_eq i j)

-- a guard is one of a session with a block
pub session-of-guard : {K V D T A : Type 0} (x : Setup K V D T) (bs : List (Block K)) (tables : List (ShardPairs K V))
    (t : ℕ) (p : Place K V D T A) (n : ℕ) (g : Guard K) (o block : Option ℕ)
    → p.guard ≡ Some g → IsInSession x bs tables t p n o block → (c : ℕ) × (i : ℕ) × (o ≡ Some c) × (block ≡ Some i)
    × HasSession x bs tables t p n c i
session-of-guard x bs tables t p n g None block guarded h = absurd (none-some g (sym h.0 ∙ guarded))
session-of-guard x bs tables t p n g (Some c) None guarded h = absurd (none-some g (sym h.0 ∙ guarded))
session-of-guard x bs tables t p n g (Some c) (Some i) guarded h = (c, i, refl, refl, h)

-- a guard's session has come to it
pub guard-at : {K V D T A : Type 0} (tables : List (ShardPairs K V)) (p : Place K V D T A) (o : Option (Guard K))
    (kind : Way K) (at : At K V) → o ≡ Some (guard.Pair kind) → GuardIs tables p o at
    → (pair : K × V) × (at ≡ lent kind pair) × HoldsShard p (way_mode kind)
guard-at {K} tables p o kind at same h = subst (λ (z : Option (Guard K)). GuardIs tables p z at) same h

pub pair-lent : {K V : Type 0} (k : Way K) (p : K × V) → pair_in (lent k p) ≡ Some p
pair-lent way.Shared p = refl
pair-lent way.Exclusive p = refl
pair-lent (way.Occupied k) p = refl

-- the key of a thread's session is that of its block
key-at : {K V D T : Type 0} (x : Setup K V D T) (bs : List (Block K)) (o : Option ℕ) (i : ℕ) (b : Block K) (key : K)
    → o ≡ Some i → slice_get bs i ≡ Some b → guarded_key x bs o ≡ Some key → block_key x b ≡ Some key
key-at x bs o i b key mine listed is =
    sym (and_then-at (λ j. option_and_then (block_key x) (slice_get bs j)) o i mine
    ∙ and_then-at (block_key x) (slice_get bs i) b listed) ∙ is

IsSome-at : (o : Option ℕ) → IsSome o → (y : ℕ) × (o ≡ Some y)
IsSome-at None h = absurd cc
IsSome-at (Some y) h = (y, refl)

module _ {K V S D T A : Type 0} (x : Setup K V D T) (laws : Laws x) (w : State K V S D T A) (s : Step)
    (sound : Sound x w)
    (p : Place K V D T A) (at : slice_get w.places s.thread ≡ Some p) (h : Held V D)
    (asked : ask_at x s.thread p.next ≡ Some (ask.Held h)) (c i : ℕ)
    (inside : session_of x s.thread p.next ≡ Some c)
    (session : HasSession x w.blocks w.tables s.thread p p.next c i) (b d : Block K)
    (listed : slice_get w.blocks i ≡ Some b) (counts : CountsIn p.next b d)
    (settled : LeavesPair x.deeds h (reached x s.thread c (p.next - c) (found x w.blocks i b))
    ⊎ IsLastOnShard x w.blocks i b) where
  abbrev pub st : Stands x (threads_of w) w.blocks w.replies w.tables s.thread p
  st = sound.stands s.thread p at

  -- where the session stood
  abbrev pub was : At K V
  was = reached x s.thread c (p.next - c) (found x w.blocks i b)

  its : session.block ≡ b
  its = same_Some session.block b (sym session.listed ∙ listed)

  pub thread-is : b.thread ≡ s.thread
  thread-is = sym (ap (λ z. z.thread) its) ∙ session.thread

  pub call-is : b.call ≡ c
  call-is = sym (ap (λ z. z.call) its) ∙ session.call

  done-is : b.done.value ≡ p.next - c
  done-is = sym (ap (λ z. z.done.value) its) ∙ session.done

  asked-there : ask_at x s.thread (c + (p.next - c)) ≡ Some (ask.Held h)
  asked-there = let below = session.below in let same : c + (p.next - c) ≡ p.next = omega arith in rw same asked

  more-is : d.done.value ≡ p.next - c + 1
  more-is = counts.done ∙ ap (λ k. p.next - k + 1) call-is

  -- one call more leads there
  pub reached-more : reached x s.thread c (p.next - c + 1) (found x w.blocks i b) ≡ held_leaves x.deeds h was
  reached-more = reached-next x s.thread c (ask.Held h) (p.next - c) (found x w.blocks i b) asked-there

  -- what the block reached, and what it reaches with the call
  pub reached-was : reached x b.thread b.call b.done.value (found x w.blocks i b) ≡ was
  reached-was = same-reached x b.thread s.thread b.call c b.done.value (p.next - c) (found x w.blocks i b) thread-is
      call-is done-is

  pub reached-now : reached x b.thread b.call d.done.value (found x w.blocks i b) ≡ held_leaves x.deeds h was
  reached-now = same-reached x b.thread s.thread b.call c d.done.value (p.next - c + 1) (found x w.blocks i b) thread-is
      call-is more-is ∙ reached-more

  quiet : LeavesPair x.deeds h was → IsQuiet x b d.done.value (found x w.blocks i b)
  quiet same = ap pair_in reached-now ∙ same ∙ sym (ap pair_in reached-was)

  pub grows : Grows x w.blocks i b d
  grows = record {
    listed = listed;
    thread = counts.thread;
    call = counts.call;
    visit = counts.visit;
    visited = counts.visited;
    done = let e = done-is in let m = more-is in omega arith;
    settled = elim settled [ inl same ↦ inl (quiet same) | inr last ↦ inr last ];
  }

  pub opening-asked : (g : Begin K) × (ask_at x s.thread c ≡ Some (ask.Begin g))
  opening-asked = session-opens x s.thread p.next c inside

  -- the key of the session's block is its opening's
  pub opening-key : block_key x b ≡ Some (opening_key opening-asked.0)
  opening-key = opening-key_of x b s.thread c opening-asked.0 thread-is call-is opening-asked.1

  grown-key : block_key x d ≡ Some (opening_key opening-asked.0)
  grown-key = block_key-grown x laws w.blocks i b d grows ∙ opening-key

  pub grows-there : frame.Grows (frame_of x) w.blocks i b d
  grows-there = frame-grows x laws w.blocks i b d grows

  pub goes-on-there : GoesOn b d
  goes-on-there = goes-on x laws w.blocks i b d grows

  pub finds-same : found x (slice_set w.blocks i d) i d ≡ found x w.blocks i b
  finds-same =
      found-grown x laws w.blocks i b d grows i d (inl (omega arith))
      ∙ ap (λ k. at_key (contents x (take i w.blocks)) k) (block_key-grown x laws w.blocks i b d grows)

  -- the grown block tells the answer
  pub told-more : IsToldBy {A = A} x (slice_set w.blocks i d) s.thread c (p.next - c) (told x.deeds (ask.Held h) was)
  told-more = record {
    place = i;
    block = d;
    listed = slice_get-set_same w.blocks i b d listed;
    thread = counts.thread ∙ thread-is;
    call = counts.call ∙ call-is;
    done = let m = more-is in omega arith;
    told = told-next x s.thread c (ask.Held h) d (opening_key opening-asked.0) grown-key (counts.thread ∙ thread-is)
        (counts.call ∙ call-is) (before x (slice_set w.blocks i d) i) (p.next - c) asked-there
        ∙ ap (λ o. Some (told x.deeds (ask.Held h) (reached x s.thread c (p.next - c) o)))
        (sym (found-is x d (opening_key opening-asked.0) grown-key (slice_set w.blocks i d) i) ∙ finds-same);
  }

  -- the session goes on behind the call, which may not come to hold its shard alone
  pub session-goes-on : (tables' : List (ShardPairs K V)) (p' : Place K V D T A)
      → (HoldsShard p' Exclusive → HoldsShard p Exclusive) → p'.shard ≡ p.shard
      → GuardIs tables' p' p'.guard (held_leaves x.deeds h was)
      → HasReached x tables' p' b (held_leaves x.deeds h was)
      → HasSession x (slice_set w.blocks i d) tables' s.thread p' (p.next + 1) c i
  session-goes-on tables' p' alone shard guard there =
      let below = session.below in
      let one : p.next + 1 - c ≡ p.next - c + 1 = omega arith in
      let now : reached x s.thread c (p.next + 1 - c) (found x (slice_set w.blocks i d) i d) ≡ held_leaves x.deeds h
      was = rw (one, finds-same) reached-more in
      record {
        block = d;
        listed = slice_get-set_same w.blocks i b d listed;
        thread = counts.thread ∙ thread-is;
        call = counts.call ∙ call-is;
        below = omega arith;
        done = more-is ∙ sym one;
        guard = subst (λ (z : At K V). GuardIs tables' p' p'.guard z) (sym now) guard;
        there = λ g key e is. subst (λ (z : At K V). HasReached x tables' p' b z) (sym now) there g key e
            (sym (block_key-grown x laws w.blocks i b d grows) ∙ is);
        settled = settled-moved x p p' w.blocks (slice_set w.blocks i d) i session.block d
            (counts.thread ∙ ap (λ z. z.thread) (sym its)) (counts.call ∙ ap (λ z. z.call) (sym its))
            (counts.visit ∙ ap (λ z. z.visit) (sym its)) alone shard
            (last-grown A x w.blocks i b d grows-there i session.block) session.settled;
      }

  pub session-on : (tables' : List (ShardPairs K V)) (p' : Place K V D T A) → p'.holds ≡ p.holds → p'.shard ≡ p.shard
      → GuardIs tables' p' p'.guard (held_leaves x.deeds h was)
      → HasReached x tables' p' b (held_leaves x.deeds h was)
      → HasSession x (slice_set w.blocks i d) tables' s.thread p' (p.next + 1) c i
  session-on tables' p' hold shard guard there = session-goes-on tables' p' (alone-moved x p p' hold shard) shard guard
      there

  -- what the shard has of a guard's key is where the session has come to
  pub there-was : (g : Guard K) (key : K) → p.guard ≡ Some g → block_key x b ≡ Some key
      → HasPairs w.tables p.shard (λ table. pair_of x.eq table.items key ≡ pair_in was)
  there-was g key e is =
      let has = session.there g key e (ap (λ z. block_key x z) its ∙ is) in
      record {
        table = has.table;
        held = has.held;
        so = has.so
            ∙ ap (λ z. pair_in (reached x s.thread c (p.next - c) (found x w.blocks i z))) its;
      }

  -- so the pair that a step finds by the key of a guard that lends one is the one that it lends
  pub lends-pair : (kind : Way K) → p.guard ≡ Some (guard.Pair kind) → p.block ≡ Some i → (key : K)
      → guarded_key x w.blocks p.block ≡ Some key
      → (table : ShardPairs K V) → slice_get w.tables p.shard ≡ Some table → (pair : K × V)
      → pair_of x.eq table.items key ≡ Some pair
      → (was ≡ lent kind pair) × HoldsShard p (way_mode kind) × (block_key x b ≡ Some key)
  lends-pair kind guarded mine key is table held pair finds =
      let key-is = key-at x w.blocks p.block i b key mine listed is in
      let has = there-was (guard.Pair kind) key guarded key-is in
      let lends = guard-at w.tables p p.guard kind
      (reached x s.thread c (p.next - c) (found x w.blocks i session.block)) guarded session.guard in
      let stood : was ≡ lent kind lends.0 = ap (λ z. reached x s.thread c (p.next - c) (found x w.blocks i z)) (sym its)
      ∙ lends.1 in
      let there : pair_of x.eq table.items key ≡ Some lends.0 =
      ap (λ (z : ShardPairs K V). pair_of x.eq z.items key) (same_Some table has.table (sym held ∙ has.held)) ∙ has.so
      ∙ ap pair_in stood ∙ pair-lent kind lends.0 in
      (stood ∙ ap (λ (z : K × V). lent kind z) (same_Some lends.0 pair (sym there ∙ finds)), lends.2, key-is)

  -- it has it still where the call leaves its pair
  pub there-still : LeavesPair x.deeds h was → (p' : Place K V D T A) → p'.shard ≡ p.shard
      → ((g : Guard K) → p'.guard ≡ Some g → (own : Guard K) × (p.guard ≡ Some own))
      → HasReached x w.tables p' b (held_leaves x.deeds h was)
  there-still same p' shard guarded g key e is =
      let has = there-was (guarded g e).0 key (guarded g e).1 is in
      record { table = has.table; held = rw shard has.held; so = has.so ∙ sym same }

  -- or where the pair gives way to what the call leaves
  pub there-put : (key : K) → block_key x b ≡ Some key → (table changed : ShardPairs K V)
      → slice_get w.tables p.shard ≡ Some table
      → Puts x.eq table changed key (pair_in (held_leaves x.deeds h was)) → (p' : Place K V D T A) → p'.shard ≡ p.shard
      → HasReached x (slice_set w.tables p.shard changed) p' b (held_leaves x.deeds h was)
  there-put key key-is table changed held puts p' shard g k e is = record {
    table = changed;
    held = rw shard (slice_get-set_same w.tables p.shard table changed held);
    so = subst (λ (z : K). pair_of x.eq changed.items z ≡ pair_in (held_leaves x.deeds h was))
        (same_Some key k (sym key-is ∙ is))
        (puts.found key ∙ rw (laws.equivalence.refl key) refl);
  }

  own-block : (p' : Place K V D T A) → p'.block ≡ p.block ⊎ (p'.block ≡ None)
      → HasOwnBlock (slice_set w.blocks i d) s.thread p'
  own-block p' block j mine = elim block [
    | inl same ↦ own-grown w.blocks i b d s.thread listed (counts.thread ∙ thread-is) p st.own_block j (sym same ∙ mine)
    | inr none ↦ absurd (none-some j (sym none ∙ mine))
  ]

  module _ (p' : Place K V D T A) (running : IsSome p'.started)
      (stays : (n : ℕ) → p.started ≡ Some n → p'.started ≡ Some n) where
    now : HasStarted (started_of (stepped w s p')) w.replies b.thread p.next
    now = inr (
      st.answered ∙ ap (answered_of w.replies) (sym thread-is),
      subst (λ (o : Option ℕ). IsSome o)
          (sym (started-own x w s p p' at) ∙ ap (started_of (stepped w s p')) (sym thread-is)) running,
    )

    more-session : IsSessionDone x (started_of w) w.replies b → IsSessionDone x (started_of (stepped w s p')) w.replies
        d
    more-session old = record {
      opened = let m = more-is in omega arith;
      calls = λ n pos lt. ⊎_elim
          (λ below.
          let o = old.calls n pos below in
          record {
            held = o.held;
            asked = rw (counts.thread, counts.call) o.asked;
            session = rw (counts.thread, counts.call) o.session;
            begun = rw (counts.thread, counts.call) (mono-started b.thread (b.call + n) o.begun);
          })
          (λ above.
          let m = more-is in let e' = done-is in let k = call-is in let under = session.below in
          let last : b.call + n ≡ p.next = omega arith in
          record {
            held = h;
            asked = rw (counts.thread, counts.call, last, thread-is) asked;
            session = rw (counts.thread, counts.call, last, thread-is) (inside ∙ ap (λ z. Some z) (sym call-is));
            begun = rw (counts.thread, counts.call, last) now;
          })
          (cases_lt n b.done.value);
    }
      where
        mono-started : (t k : ℕ) → HasStarted (started_of w) w.replies t k → HasStarted (started_of (stepped w s p'))
            w.replies t k
        mono-started t k g = elim g [
          | inl before ↦ inl before
          | inr here ↦ inr (
            here.0,
            let o = IsSome-at (started_of w t) here.1 in
                rw (started-stays x w s p p' at stays t o.0 o.1) refl,
          )
        ]

    -- the call that began the session is an opening
    is-opening : (a : Ask K V D) → ask_at x b.thread b.call ≡ Some a → a ≡ ask.Begin opening-asked.0
    is-opening a e = same_Some a (ask.Begin opening-asked.0)
        (sym e ∙ ap (λ u. ask_at x u b.call) thread-is ∙ ap (λ n. ask_at x s.thread n) call-is ∙ opening-asked.1)

    more-done : (a : Ask K V D) → ask_at x b.thread b.call ≡ Some a → IsDoneWithin x (started_of w) w.blocks w.replies i
        b a
        → IsDoneWithin x (started_of (stepped w s p')) (slice_set w.blocks i d) w.replies i d a
    more-done (ask.Begin g) e old = (more-session old.0, counts.visit ∙ old.1, counts.visited ∙ old.2)
    more-done (ask.Keyed g) e old = let is : ask.Keyed g ≡ ask.Begin opening-asked.0 = is-opening (ask.Keyed g) e in
        absurd cc
    more-done (ask.Held g) e old = old
    more-done (ask.Walk f) e old = let is : ask.Walk f ≡ ask.Begin opening-asked.0 = is-opening (ask.Walk f) e in
        absurd cc

    -- the world behind a step that counts the call in, and may change a shard that is held alone
    pub sound-changed : (tables' : List (ShardPairs K V)) → length tables' ≡ length w.tables
        → ((u : ℕ) (q : Place K V D T A) (m : Mode) → u ≢ s.thread → slice_get w.places u ≡ Some q → HoldsShard q m
        → slice_get tables' q.shard ≡ slice_get w.tables q.shard)
        → TablesAgree x (slice_set w.blocks i d) tables'
        → (locks' : Shown) → p'.next ≡ p.next → p'.block ≡ p.block ⊎ (p'.block ≡ None)
        → Claim x (threads_of w ++ s.thread ∷ []) (slice_set w.blocks i d) tables' s.thread p' p'.phase
        → p'.visits ≡ [] → Walks x (slice_set w.blocks i d) tables' s.thread p' p'.phase
        → p'.asks ≡ drop (taken p') st.program → taken p' ≤ length st.program
        → HoldsMatch (slice_set w.places s.thread p') locks'
        → OwnsBlocks (slice_set w.blocks i d) s.thread p'
        → Goes x s.thread w
        (record (stepped w s p') {
          tables = tables';
          locks = locks';
          blocks = slice_set w.blocks i d;
          replies = w.replies;
        })
    sound-changed tables' shards kept agree locks' next block claim none walks left within match owns =
        sound-by x w s p p' at sound (slice_set w.blocks i d) tables' locks' w.replies Anyhow
        (record {
          effect = effect-grow A x laws w.blocks s.thread i b d grows-there goes-on-there thread-is;
          count = λ u ne. refl;
          kept = kept;
          foreign = λ u q k ne hq alone here. tt;
          shards = shards;
        })
        (record {
          program = st.program;
          has = st.has;
          asks_left = left;
          within = within;
          answered = next ∙ st.answered;
          owns = owns;
          own_block = own-block p' block;
          own_visits = no-visits x (slice_set w.blocks i d) s.thread p' none;
          claim = claim;
          walks = walks;
        })
        agree
        match
        (placed-grown x (threads_of w) s.thread (started_of w) (started_of (stepped w s p')) w.blocks w.replies
        (started-stays x w s p p' at stays) laws i b d grows-there
        (record {
          thread = counts.thread;
          call = counts.call;
          visit = counts.visit;
          start = counts.start;
          position = counts.position;
          done = grows.done;
          visited = ([], counts.visited ∙ sym (append-nil b.visited.items));
          end = λ e was. counts.end ∙ was;
        })
        counts.end (key-alone x (threads_of w) (started_of w) w.blocks w.replies sound.placed i b
        (opening_key opening-asked.0) opening-key listed) more-done sound.placed)
        (replies-kept x w.blocks (slice_set w.blocks i d) w.replies
        (λ j r hr. keeps-grown x laws w.blocks i b d grows-there goes-on-there r.thread r.call
        (no-walk x b (opening_key opening-asked.0) opening-key r.thread r.call)) sound.replies)

    -- where the call leaves its pair, no shard changes
    pub sound-counted : LeavesPair x.deeds h was → (locks' : Shown) → p'.next ≡ p.next → p'.block ≡ p.block
        ⊎ (p'.block ≡ None)
        → Claim x (threads_of w ++ s.thread ∷ []) (slice_set w.blocks i d) w.tables s.thread p' p'.phase
        → p'.visits ≡ [] → Walks x (slice_set w.blocks i d) w.tables s.thread p' p'.phase
        → p'.asks ≡ drop (taken p') st.program → taken p' ≤ length st.program
        → HoldsMatch (slice_set w.places s.thread p') locks'
        → OwnsBlocks (slice_set w.blocks i d) s.thread p'
        → Goes x s.thread w
        (record (stepped w s p') {
          tables = w.tables;
          locks = locks';
          blocks = slice_set w.blocks i d;
          replies = w.replies;
        })
    sound-counted same =
        sound-changed w.tables refl (λ u q m ne hq hh. refl)
        (tables-same x w.blocks (slice_set w.blocks i d) w.tables sound.tables
        (λ q. contents-quiet x laws w.blocks i b d grows (quiet same) q))

  -- the thread's blocks are those that it had
  pub owns-grown : (p' : Place K V D T A) → p'.next ≡ p.next → may_own p.phase ≡ false
      → OwnsBlocks (slice_set w.blocks i d) s.thread p'
  owns-grown p' next not_yet j e here thread = elim (slice_get-set_cases w.blocks i j b e d listed here) [
    | inl own ↦ inl (rw (next, own.1, counts.call, call-is) session.below)
    | inr other ↦ elim (st.owns j e other.1 thread)
        [ inl below ↦ inl (rw next below) | inr mine ↦ absurd (false≢true (sym not_yet ∙ mine.2)) ]
  ]
