-- The deed of a keyed call: it changes one pair of a shard that is held alone, behind the last block of that shard.
use Rattle.std.proofs.Common.{◌≡◌, ℕ, ◌+◌, ◌-◌, ◌≤◌, inl, inr, Bool, true, false, if◌then◌else◌, List, [], length, take}
use Rattle.std.proofs.Common.{drop, Option, Some, None, slice_get, slice_set, append-nil, refl, ap, sym, ◌∙◌, subst}
use Rattle.std.proofs.Common.{arith}
use Rattle.mapworld_state.specs.Shards.{ShardPairs, Puts}
use Rattle.std.proofs.Math.ListN.{length-set}
use Rattle.std.proofs.lemmas.Option.{same_Some}
use Rattle.mapworld_calls.specs.declared.ask.Ask.{Ask}
use Rattle.mapworld_calls.specs.declared.ask.Ask.TheVariants as ask
use Rattle.mapworld_calls.specs.declared.ask.Keyed.{Keyed}
use Rattle.mapworld_calls.specs.declared.ask.Keyed.TheVariants as keyed
use Rattle.mapworld_calls.specs.declared.block.Block.{Block}
use Rattle.mapworld_calls.specs.declared.reply.Answer.TheVariants as answer
use Rattle.mapworld_calls.specs.Programs.{keyed_key}
use Rattle.mapworld_calls.specs.Calls.{free, pair_in, keyed_answer, keyed_leaves}
use Rattle.mapworld_calls.specs.Setup.{Setup, Laws, ask_at}
use Rattle.mapworld_calls.specs.Pairs.{pair_of}
use Rattle.mapworld_calls.specs.Frame as frame
use Rattle.mapworld_calls.specs.Replay.{reached, block_key, frame_of, at_key, contents, before, found, IsLastOnShard}
use Rattle.mapworld_calls.specs.Growth.{GoesOn}
use Rattle.mapworld_calls.specs.Agrees.{IsToldBy}
use Rattle.mapworld_calls.specs.Placed.{IsDoneWithin}
use Rattle.mapworld_calls.proofs.Lists.{slice_get-set_same, slice_get-set_cases}
use Rattle.mapworld_calls.proofs.Grown.{Grows, goes-on, frame-grows, found-grown, block_key-grown, contents-own}
use Rattle.mapworld_calls.proofs.Grown.{contents-were, contents-other}
use Rattle.mapworld_calls.proofs.Replays.{no-walk, found-is}
use Rattle.mapworld_calls.proofs.Kept.{keeps-grown}
use Rattle.mapworld_state.specs.Locks.Stands.{stand_in}
use Rattle.mapworld_state.specs.declared.step.Step.{Step}
use Rattle.mapworld_state.specs.declared.place.Phase.{Phase}
use Rattle.mapworld_state.specs.declared.place.Phase.TheVariants as phase
use Rattle.mapworld_state.specs.Places.{Place}
use Rattle.mapworld_state.specs.State.{State, threads_of, started_of}
use Rattle.mapworld_state.specs.Moves.{stepped, CountsIn, CountsCall}
use Rattle.mapworld_state.specs.Steps.{Appends, Applies}
use Rattle.mapworld_state.specs.Sound.{is_resting, IsReleasing, block_after, IsInCall, IsBeforeDeed, HasNoWalk, Stands}
use Rattle.mapworld_state.specs.Sound.{TablesAgree, Sound}
use Rattle.mapworld_state.proofs.InvariantFacts.Effects.{effect-grow, Anyhow}
use Rattle.mapworld_state.proofs.InvariantFacts.Others.{IsInCall-push}
use Rattle.mapworld_state.proofs.InvariantFacts.Timing.{key-alone, placed-grown}
use Rattle.mapworld_state.proofs.InvariantFacts.Holding.{holds-same, stand-at}
use Rattle.mapworld_state.proofs.InvariantFacts.Building.{Goes, in_call-moved, started-stays, sound-by, replies-kept}
use Rattle.mapworld_state.proofs.InvariantFacts.Building.{tables-changed, claim-at, walks-at, no-visits, reached-one}
use Rattle.mapworld_state.proofs.InvariantFacts.Building.{told-one, ready-outside}
use Rattle.mapworld_state.proofs.InvariantFacts.Admitting.{kept-alone, keyed-apart}
use Rattle.mapworld_state.proofs.InvariantFacts.Growing.{own-grown}
use Rattle.mapworld_calls.specs.declared.reply.Answer.{Answer}
use Rattle.mapworld_state.specs.Sound.{Inserts}
use Rattle.std.proofs.Common.{inl, inr}

-- the block that a step counts in is that of the claim
pub counted-block : {K : Type 0} (bs : List (Block K)) (o : Option ℕ) (i n : ℕ) (bs' : List (Block K)) → o ≡ Some i
    → CountsCall bs o n bs' → CountsCall bs (Some i) n bs'
counted-block {K} bs o i n bs' same h = subst (λ (z : Option ℕ). CountsCall bs z n bs') same h

module _ {K V S D T A : Type 0} (x : Setup K V D T) (laws : Laws x) (w : State K V S D T A) (s : Step)
    (sound : Sound x w)
    (p : Place K V D T A) (at : slice_get w.places s.thread ≡ Some p) (k : Keyed K V D)
    (call : IsInCall x (threads_of w) s.thread p (ask.Keyed k))
    (key : K) (o : Option (K × V)) (d : IsBeforeDeed x w.blocks s.thread p key o)
    (table : ShardPairs K V) (held : slice_get w.tables p.shard ≡ Some table)
    (b c : Block K) (listed : slice_get w.blocks d.index ≡ Some b) (counts : CountsIn p.next b c) where
  abbrev pub st : Stands x (threads_of w) w.blocks w.replies w.tables s.thread p
  st = sound.stands s.thread p at

  its : d.block ≡ b
  its = same_Some d.block b (sym d.listed ∙ listed)

  thread-is : b.thread ≡ s.thread
  thread-is = sym (ap (λ z. z.thread) its) ∙ d.thread

  call-is : b.call ≡ p.next
  call-is = sym (ap (λ z. z.call) its) ∙ d.call

  done-is : b.done.value ≡ 0
  done-is = sym (ap (λ z. z.done.value) its) ∙ d.done

  more-is : c.done.value ≡ 1
  more-is = counts.done ∙ (let e = call-is in let r : p.next - b.call + 1 ≡ 1 = omega arith in r)

  key-is : block_key x b ≡ Some key
  key-is = ap (λ z. block_key x z) (sym its) ∙ d.key_is

  finds-was : found x w.blocks d.index b ≡ o
  finds-was = ap (λ z. found x w.blocks d.index z) (sym its) ∙ d.found_is

  grows : Grows x w.blocks d.index b c
  grows = record {
    listed = listed;
    thread = counts.thread;
    call = counts.call;
    visit = counts.visit;
    visited = counts.visited;
    done = let e = done-is in omega arith;
    settled = inr (subst (λ (z : Block K). IsLastOnShard x w.blocks d.index z) its d.last);
  }

  last : IsLastOnShard x w.blocks d.index b
  last = subst (λ (z : Block K). IsLastOnShard x w.blocks d.index z) its d.last

  grows-there : frame.Grows (frame_of x) w.blocks d.index b c
  grows-there = frame-grows x laws w.blocks d.index b c grows

  goes-on-there : GoesOn b c
  goes-on-there = goes-on x laws w.blocks d.index b c grows

  grown-key : block_key x c ≡ Some key
  grown-key = block_key-grown x laws w.blocks d.index b c grows ∙ key-is

  reached-whole : reached x b.thread b.call c.done.value (found x w.blocks d.index b) ≡ free (keyed_leaves x.deeds k o)
  reached-whole = whole b.thread b.call c.done.value (found x w.blocks d.index b) thread-is call-is more-is finds-was
    where
      whole : (t e n : ℕ) (f : Option (K × V)) → t ≡ s.thread → e ≡ p.next → n ≡ 1 → f ≡ o
          → reached x t e n f ≡ free (keyed_leaves x.deeds k o)
      whole t e n f ht he hn hf = rw (ht, he, hn, hf) (reached-one x s.thread p.next (ask.Keyed k) o call.asked)

  -- what the shard has of the key is what the block found
  pub pair-found : pair_of x.eq table.items key ≡ o
  pair-found =
      sound.tables.contents_are key table (ap (λ n. slice_get w.tables n) (sym d.shard) ∙ held)
      ∙ contents-were x laws w.blocks d.index b c grows last key key-is key (laws.equivalence.refl key)
      ∙ ap (λ n. pair_in (reached x b.thread b.call n (found x w.blocks d.index b))) done-is
      ∙ finds-was

  contents-now : (q : K) → x.eq key q ≡ true → contents x (slice_set w.blocks d.index c) q ≡ keyed_leaves x.deeds k o
  contents-now q h = contents-own x laws w.blocks d.index b c grows last key key-is q h ∙ ap pair_in reached-whole

  contents-still : (q : K) → x.eq key q ≡ false → contents x (slice_set w.blocks d.index c) q ≡ contents x w.blocks q
  contents-still q h = contents-other x laws w.blocks d.index b c grows key key-is q h

  finds-same : found x (slice_set w.blocks d.index c) d.index c ≡ o
  finds-same =
      found-grown x laws w.blocks d.index b c grows d.index c (inl (omega arith))
      ∙ ap (λ z. at_key (contents x (take d.index w.blocks)) z) (block_key-grown x laws w.blocks d.index b c grows)
      ∙ finds-was

  told-done : IsToldBy {A = A} x (slice_set w.blocks d.index c) s.thread p.next 0 (keyed_answer x.deeds k o)
  told-done = record {
    place = d.index;
    block = c;
    listed = slice_get-set_same w.blocks d.index b c listed;
    thread = counts.thread ∙ thread-is;
    call = counts.call ∙ call-is;
    done = let m = more-is in omega arith;
    told = told-one x s.thread p.next (ask.Keyed k) c key grown-key (counts.thread ∙ thread-is) (counts.call ∙ call-is)
        (before x (slice_set w.blocks d.index c) d.index) call.asked
        ∙ ap (λ f. Some (keyed_answer x.deeds k f))
        (sym (found-is x c key grown-key (slice_set w.blocks d.index c) d.index) ∙ finds-same);
  }

  agrees : (changed : ShardPairs K V) → Puts x.eq table changed key (keyed_leaves x.deeds k o)
      → TablesAgree x (slice_set w.blocks d.index c) (slice_set w.tables p.shard changed)
  agrees changed puts =
      tables-changed x laws w.blocks (slice_set w.blocks d.index c) w.tables sound.tables key (keyed_leaves x.deeds k o)
      p.shard d.shard contents-now contents-still table changed held puts

  done-kept : (st' : ℕ → Option ℕ) (a : Ask K V D) → ask_at x b.thread b.call ≡ Some a
      → IsDoneWithin x (started_of w) w.blocks w.replies d.index b a
      → IsDoneWithin x st' (slice_set w.blocks d.index c) w.replies d.index c a
  done-kept st' a e old =
      by a (same_Some a (ask.Keyed k)
      (sym e ∙ ap (λ u. ask_at x u b.call) thread-is ∙ ap (λ n. ask_at x s.thread n) call-is ∙ call.asked)) old
    where
      by : (a : Ask K V D) → a ≡ ask.Keyed k → IsDoneWithin x (started_of w) w.blocks w.replies d.index b a
          → IsDoneWithin x st' (slice_set w.blocks d.index c) w.replies d.index c a
      by (ask.Keyed g) is old = (
        record { once = let m = more-is in omega arith; whole = λ z. more-is },
        counts.visit ∙ old.1,
        counts.visited
            ∙ old.2,
      )
      by (ask.Begin g) is old = absurd cc
      by (ask.Held g) is old = old
      by (ask.Walk f) is old = absurd cc

  -- the world behind the deed
  pub sound-deed : (f : Phase K V D T A) → p.phase ≡ f → is_resting f ≡ false → HasNoWalk p
      → stand_in w.locks s.thread ≡ None → (changed : ShardPairs K V)
      → TablesAgree x (slice_set w.blocks d.index c) (slice_set w.tables p.shard changed)
      → Goes x s.thread w
      (record (stepped w s (record p { phase = phase.Release (keyed_answer x.deeds k o) })) {
        tables = slice_set w.tables p.shard changed;
        locks = w.locks;
        blocks = slice_set w.blocks d.index c;
        replies = w.replies;
      })
  sound-deed f before busy none out changed agree =
      let p' : Place K V D T A = record p { phase = phase.Release (keyed_answer x.deeds k o) } in
      let outside = keyed-apart x w s.thread sound p st k call.asked in
      let closes : block_after p' ≡ None = ap (λ (z : Bool). if z then None else p.block) call.closes in
      let resting : is_resting p.phase ≡ false = ap is_resting before ∙ busy in
      sound-by x w s p p' at sound (slice_set w.blocks d.index c) (slice_set w.tables p.shard changed) w.locks w.replies
      Anyhow
      (record {
        effect = effect-grow A x laws w.blocks s.thread d.index b c grows-there goes-on-there thread-is;
        count = λ u ne. refl;
        kept = kept-alone x w s p at sound changed d.alone;
        foreign = λ u q z ne hq alone there. tt;
        shards = length-set w.tables p.shard changed;
      })
      (record {
        program = st.program;
        has = st.has;
        asks_left = subst (λ (z : Bool). p.asks ≡ drop (if z then p.next else p.next + 1) st.program) resting
            st.asks_left;
        within = subst (λ (z : Bool). (if z then p.next else p.next + 1) ≤ length st.program) resting st.within;
        answered = st.answered;
        own_block = λ j mine. own-grown w.blocks d.index b c s.thread listed (counts.thread ∙ thread-is) p st.own_block
            j mine;
        owns = λ j e here thread. elim (slice_get-set_cases w.blocks d.index j b e c listed here) [
          | inl own ↦ inr (
            ap (λ z. z.call) own.1 ∙ counts.call ∙ call-is,
            inl (d.mine ∙ ap (λ z. Some z) (sym own.0)),
            refl,
          )
          | inr other ↦ elim (st.owns j e other.1 thread)
              [ inl below ↦ inl below | inr mine ↦ inr (mine.0, mine.1, refl) ]
        ];
        own_visits = no-visits x (slice_set w.blocks d.index c) s.thread p' none.visits;
        walks = none.reads;
        claim = (
          ask.Keyed k,
          d.alone.hold,
          IsInCall-push x (threads_of w) s.thread s.thread p' _
              (in_call-moved x p p' (threads_of w) s.thread _ refl refl refl call),
          d.alone.has,
          subst (IsReleasing x (slice_set w.blocks d.index c) (slice_set w.tables p.shard changed) s.thread p'
              (ask.Keyed k) (keyed_answer x.deeds k o)) (sym d.guard) (
                inl told-done,
                ready-outside x (slice_set w.blocks d.index c) (slice_set w.tables p.shard changed)
                    s.thread p' (p.next + 1) (block_after p') outside.1 d.guard closes,
              ),
        );
      })
      agree
      (holds-same w.places w.locks sound.holds s.thread p p' at refl out)
      (placed-grown x (threads_of w) s.thread (started_of w) (started_of (stepped w s p')) w.blocks w.replies
      (started-stays x w s p p' at (λ n h. h)) laws d.index b c grows-there
      (record {
        thread = counts.thread;
        call = counts.call;
        visit = counts.visit;
        start = counts.start;
        position = counts.position;
        done = grows.done;
        visited = ([], counts.visited ∙ sym (append-nil b.visited.items));
        end = λ e was. counts.end ∙ was;
      })
      counts.end (key-alone x (threads_of w) (started_of w) w.blocks w.replies sound.placed d.index b key key-is listed)
      (done-kept (started_of (stepped w s p'))) sound.placed)
      (replies-kept x w.blocks (slice_set w.blocks d.index c) w.replies
      (λ j r hr. keeps-grown x laws w.blocks d.index b c grows-there goes-on-there r.thread r.call
      (no-walk x b key key-is r.thread r.call)) sound.replies)

module _ {K V S D T A : Type 0} (x : Setup K V D T) (laws : Laws x) (w : State K V S D T A) (s : Step)
    (w' : State K V S D T A) (sound : Sound x w) where
  -- by either of the calls that add a pair
  appended-by : (a : Appends x w s w') (k : Keyed K V D) → keyed_leaves x.deeds k None ≡ Some (a.key, a.value)
      → keyed_answer x.deeds {A = A} k None ≡ answer.None → IsInCall x (threads_of w) s.thread a.place (ask.Keyed k)
      → Goes x s.thread w w'
  appended-by a k leaves answers call =
      let p = a.place in
      let st = sound.stands s.thread p a.stands in
      let cl = claim-at x (threads_of w) w.blocks w.replies w.tables s.thread p (phase.Append a.key a.value) a.before st
      in
      let none = walks-at x (threads_of w) w.blocks w.replies w.tables s.thread p (phase.Append a.key a.value) a.before
      st in
      let d = cl.1 in
      let n = counted-block w.blocks p.block d.index p.next a.blocks d.mine a.counted in
      subst (Goes x s.thread w)
      (sym (a.after ∙ (ap
      (λ (z : List (Block K)). record (stepped w s (record p { phase = phase.Release answer.None }))
      { tables = slice_set w.tables p.shard a.changed; blocks = z }) n.4
      ∙ ap (λ (z : Answer K V T A). record (stepped w s (record p { phase = phase.Release z }))
      { tables = slice_set w.tables p.shard a.changed; blocks = slice_set w.blocks d.index n.1 }) (sym answers))))
      (sound-deed x laws w s sound p a.stands k call a.key None d a.table a.held n.0 n.1 n.2 n.3
      (phase.Append a.key a.value) a.before refl none
      (stand-at w.places w.locks sound.holds s.thread p a.stands (phase.Append a.key a.value) a.before) a.changed
      (agrees x laws w s sound p a.stands k call a.key None d a.table a.held n.0 n.1 n.2 n.3 a.changed
      (subst (λ (z : Option (K × V)). Puts x.eq a.table a.changed a.key z) (sym leaves) a.puts)))

  pub sound-appends : Appends x w s w' → Goes x s.thread w w'
  sound-appends a =
      let cl = claim-at x (threads_of w) w.blocks w.replies w.tables s.thread a.place (phase.Append a.key a.value)
      a.before (sound.stands s.thread a.place a.stands) in
      by cl.0.insertion cl.0.inserts cl.0.in_call
    where
      by : (k : Keyed K V D) → Inserts k a.key a.value → IsInCall x (threads_of w) s.thread a.place (ask.Keyed k)
          → Goes x s.thread w w'
      by k (inl is) call = appended-by a (keyed.Insert a.key a.value) refl refl
          (subst (λ (z : Keyed K V D). IsInCall x (threads_of w) s.thread a.place (ask.Keyed z)) is call)
      by k (inr is) call = appended-by a (keyed.InsertUntil a.key a.value) refl refl
          (subst (λ (z : Keyed K V D). IsInCall x (threads_of w) s.thread a.place (ask.Keyed z)) is call)

  pub sound-applies : Applies x w s w' → Goes x s.thread w w'
  sound-applies a =
      let p = a.place in
      let st = sound.stands s.thread p a.stands in
      let cl = claim-at x (threads_of w) w.blocks w.replies w.tables s.thread p (phase.Apply a.call) a.before st in
      let none = walks-at x (threads_of w) w.blocks w.replies w.tables s.thread p (phase.Apply a.call) a.before st in
      let was : K × V = cl.0 in
      let key : K = keyed_key a.call in
      let d = cl.2 in
      let n = counted-block w.blocks p.block d.index p.next a.blocks d.mine a.counted in
      let is = pair-found x laws w s sound p a.stands a.call cl.1 key (Some was) d a.table a.held n.0 n.1 n.2 n.3 in
      let pair : a.pair ≡ was = same_Some a.pair was (sym a.found ∙ is) in
      subst (Goes x s.thread w)
      (sym (a.after ∙ (ap
      (λ (z : List (Block K)).
      record (stepped w s (record p { phase = phase.Release (keyed_answer x.deeds a.call (Some a.pair)) }))
      { tables = slice_set w.tables p.shard a.changed; blocks = z }) n.4
      ∙ ap (λ (z : K × V).
      record (stepped w s (record p { phase = phase.Release (keyed_answer x.deeds a.call (Some z)) }))
      { tables = slice_set w.tables p.shard a.changed; blocks = slice_set w.blocks d.index n.1 }) pair)))
      (sound-deed x laws w s sound p a.stands a.call cl.1 key (Some was) d a.table a.held n.0 n.1 n.2 n.3
      (phase.Apply a.call) a.before refl none
      (stand-at w.places w.locks sound.holds s.thread p a.stands (phase.Apply a.call) a.before) a.changed
      (agrees x laws w s sound p a.stands a.call cl.1 key (Some was) d a.table a.held n.0 n.1 n.2 n.3 a.changed
      (subst (λ (z : K × V). Puts x.eq a.table a.changed key (keyed_leaves x.deeds a.call (Some z))) pair a.puts)))
