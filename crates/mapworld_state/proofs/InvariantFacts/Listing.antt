-- A block that is listed at its position, at the end of the list.
use Rattle.std.proofs.Common.{◌≡◌, ◌≢◌, ℕ, suc, ◌+◌, ◌≤◌, inl, inr, ⊎_elim, true, false, List, [], ◌∷◌, ◌++◌, length}
use Rattle.std.proofs.Common.{map, drop, Option, Some, None, slice_get, refl, ap, sym, ◌∙◌, arith}
use Rattle.mapworld_state.specs.Shards.{ShardPairs}
use Rattle.std.proofs.lemmas.Option.{same_Some}
use Rattle.std.proofs.lemmas.Bool.{false≢true, cases_Bool}
use Rattle.mapworld_calls.specs.declared.ask.Ask.{Ask}
use Rattle.mapworld_calls.specs.declared.block.Block.{Block}
use Rattle.mapworld_calls.specs.Calls.{pair_in}
use Rattle.mapworld_calls.specs.Programs.{key_of}
use Rattle.mapworld_calls.specs.Setup.{Setup, Laws, ask_at}
use Rattle.mapworld_calls.specs.Frame.{AreApart}
use Rattle.mapworld_calls.specs.Replay.{reached, block_key, frame_of, left, contents, before, at_key, found}
use Rattle.mapworld_calls.specs.Placed.{answered_of, IsDoneWithin, IsPlaced, IsEarlier}
use Rattle.mapworld_calls.proofs.Lists.{slice_get-push_at, slice_get-push_cases}
use Rattle.mapworld_calls.proofs.Replays.{on-shard, found-is, contents-push, contents-same, left-touched}
use Rattle.mapworld_calls.proofs.Replays.{left-untouched}
use Rattle.mapworld_calls.proofs.Grown.{found-new}
use Rattle.mapworld_calls.proofs.Kept.{keeps-push}
use Rattle.mapworld_state.specs.Locks.Stands.{Stand, stand_in}
use Rattle.mapworld_state.specs.declared.holds.Mode.{Mode}
use Rattle.mapworld_state.specs.declared.step.Step.{Step}
use Rattle.mapworld_state.specs.declared.place.Phase.{Phase}
use Rattle.mapworld_state.specs.declared.place.Phase.TheVariants as phase
use Rattle.mapworld_state.specs.Places.{Place}
use Rattle.mapworld_state.specs.State.{State, threads_of, started_of, next_step}
use Rattle.mapworld_state.specs.Moves.{stepped, IsListed}
use Rattle.mapworld_state.specs.Held.{StandsBefore}
use Rattle.mapworld_state.specs.Sound.{taken, may_own, HoldsShard, IsInCall, Claim, HasNoWalk, Walks, Stands}
use Rattle.mapworld_state.specs.Sound.{TablesAgree, Sound}
use Rattle.mapworld_state.proofs.HoldsTable.{none-there, first-there}
use Rattle.mapworld_state.proofs.InvariantFacts.Effects.{effect-push}
use Rattle.mapworld_state.proofs.InvariantFacts.Others.{IsStepOf-push}
use Rattle.mapworld_state.proofs.InvariantFacts.Timing.{IsStepOf-below, IsStepOf-next, placed-push}
use Rattle.mapworld_state.proofs.InvariantFacts.Holding.{holds-same, exclusion}
use Rattle.mapworld_state.proofs.InvariantFacts.Building.{Goes, started-own, started-stays, Leaves, sound-by}
use Rattle.mapworld_state.proofs.InvariantFacts.Building.{replies-kept, reply-below, no-visits}

pub length-map : {X Y : Type 0} (f : X → Y) (xs : List X) → length (map f xs) ≡ length xs
length-map f [] = refl
length-map f (x ∷ xs) = ap suc (length-map f xs)

module _ {K V S D T A : Type 0} (x : Setup K V D T) (laws : Laws x) (w : State K V S D T A) (s : Step)
    (sound : Sound x w)
    (p : Place K V D T A) (at : slice_get w.places s.thread ≡ Some p) (a : Ask K V D)
    (call : IsInCall x (threads_of w) s.thread p a)
    (key : K) (key_is : key_of a ≡ Some key) (m : Mode) (holds : HoldsShard p m) (shard : p.shard ≡ x.route key)
    (not_yet : may_own p.phase ≡ false)
    (n : ℕ) (d : Block K) (listed : IsListed w s.thread p n d) where
  abbrev pub st : Stands x (threads_of w) w.blocks w.replies w.tables s.thread p
  st = sound.stands s.thread p at

  -- it has been admitted, so it is in no lock's call
  out : (f : Phase K V D T A) → may_own f ≡ false → Claim x (threads_of w) w.blocks w.tables s.thread p f
      → StandsBefore p f (stand_in w.locks s.thread) → stand_in w.locks s.thread ≡ None
  out phase.Rest own c stands = stands
  out (phase.Admit r) own c stands =
      absurd (none-there p.holds 0 holds.hold c.2 (first-there p.holds holds.hold [] holds.has))
  out (phase.Find r) own c stands = stands
  out (phase.Grow g) own c stands = stands
  out (phase.Append k v) own c stands = stands
  out (phase.Apply k) own c stands = stands
  out (phase.View k u) own c stands = stands
  out (phase.Read u) own c stands = stands
  out (phase.Change g) own c stands = stands
  out (phase.Fill v) own c stands = stands
  out phase.Downgrade own c stands = stands
  out (phase.Idle f) own c stands = stands
  out (phase.Reach f) own c stands = absurd (false≢true (sym own))
  out (phase.Part f) own c stands = stands
  out (phase.Visit f) own c stands = absurd (false≢true (sym own))
  out (phase.Seek f) own c stands = stands
  out (phase.Item f) own c stands = stands
  out (phase.Give f) own c stands = stands
  out (phase.Onward f) own c stands = absurd (false≢true (sym own))
  out (phase.Release r) own c stands = stands
  out (phase.Answer r) own c stands = absurd (false≢true (sym own))

  pub new-key : block_key x d ≡ Some key
  new-key = let here : ask_at x d.thread d.call ≡ Some a = rw (listed.thread, listed.call) call.asked in rw here key_is

  -- what the new block finds is what its key has now
  pub new-finds : found x (w.blocks ++ d ∷ []) (length w.blocks) d ≡ contents x w.blocks key
  new-finds = found-new x w.blocks d d ∙ ap (λ o. at_key (contents x w.blocks) o) new-key

  -- and so it tells by it
  pub new-before : before x (w.blocks ++ d ∷ []) (length w.blocks) key ≡ contents x w.blocks key
  new-before = sym (found-is x d key new-key (w.blocks ++ d ∷ []) (length w.blocks)) ∙ new-finds

  number : next_step w ≡ length (threads_of w) + 1
  number = ap (λ k. k + 1) (sym (length-map (λ (z : Step). z.thread) w.steps))

  start-is : d.start ≡ call.start
  start-is = same_Some d.start call.start (sym listed.start ∙ call.started)

  earlier : (i : ℕ) (b : Block K) → slice_get w.blocks i ≡ Some b → b.thread ≡ d.thread → IsEarlier b d
  earlier i b hb thread = elim (st.owns i b hb (thread ∙ listed.thread)) [
    | inl below ↦ inl (rw listed.call below)
    | inr mine ↦ absurd (false≢true (sym not_yet ∙ mine.2))
  ]

  module _ (p' : Place K V D T A) (next : p'.next ≡ p.next) (started : p'.started ≡ p.started)
      (mine : p'.block ≡ Some (length w.blocks)) (hold : p'.holds ≡ p.holds)
      (none : HasNoWalk p') (own : may_own p'.phase ≡ true)
      (stands : (o : Option Stand) → o ≡ None → StandsBefore p' p'.phase o)
      (done : IsDoneWithin x (started_of (stepped w s p')) (w.blocks ++ d ∷ []) w.replies (length w.blocks) d a)
      (tables' : List (ShardPairs K V)) (shards : length tables' ≡ length w.tables)
      (kept : (u : ℕ) (q : Place K V D T A) (k : Mode) → u ≢ s.thread → slice_get w.places u ≡ Some q → HoldsShard q k
      → slice_get tables' q.shard ≡ slice_get w.tables q.shard) where
    new-placed : IsPlaced x (threads_of w ++ s.thread ∷ []) (started_of (stepped w s p')) (w.blocks ++ d ∷ []) w.replies
        (length w.blocks) d
    new-placed = record {
      ask = a;
      asked = rw (listed.thread, listed.call) call.asked;
      done = done;
      start = rw (listed.thread, start-is) (IsStepOf-push (threads_of w) s.thread s.thread call.start call.begun);
      position = rw (listed.thread, listed.position, number) (IsStepOf-next (threads_of w) s.thread);
      order = let lt = IsStepOf-below (threads_of w) s.thread call.start call.begun in
          rw (start-is, listed.position, number) (omega arith);
      shown = inr (record {
        call = listed.call ∙ st.answered ∙ ap (answered_of w.replies) (sym listed.thread);
        start = ap (started_of (stepped w s p')) listed.thread ∙ started-own x w s p p' at ∙ started ∙ listed.start;
        end = listed.end;
      });
    }

    leaves : Leaves x w s p p' at sound (w.blocks ++ d ∷ []) tables' w.locks w.replies (λ b. AreApart (frame_of x) b d)
    leaves = record {
      effect = effect-push A x w.blocks s.thread d listed.thread;
      count = λ u ne. refl;
      kept = kept;
      foreign = λ u q b ne hq alone there. λ n hb hd.
          let here : n ≡ p.shard = same_Some n (x.route key) (sym hd ∙ on-shard x d key new-key) ∙ sym shard in
          let both = exclusion w.places w.locks sound.holds s.thread u p q holds.hold alone.hold (λ z. ne (sym z)) at hq
          holds.has alone.has
          (holds.shard ∙ sym here ∙ there n hb ∙ sym alone.shard) in
          absurd (cc (both.1, alone.mode_is));
      shards = shards;
    }

    -- the world behind a step that lists the block, and may let the shard grow
    pub sound-listed : Claim x (threads_of w ++ s.thread ∷ []) (w.blocks ++ d ∷ []) tables' s.thread p' p'.phase
        → Walks x (w.blocks ++ d ∷ []) tables' s.thread p' p'.phase
        → p'.asks ≡ drop (taken p') st.program → taken p' ≤ length st.program
        → TablesAgree x (w.blocks ++ d ∷ []) tables'
        → Goes x s.thread w
        (record (stepped w s p') {
          tables = tables';
          locks = w.locks;
          blocks = w.blocks ++ d ∷ [];
          replies = w.replies;
        })
    sound-listed claim walks left within agree =
        sound-by x w s p p' at sound (w.blocks ++ d ∷ []) tables' w.locks w.replies (λ b. AreApart (frame_of x) b d)
        leaves
        (record {
          program = st.program;
          has = st.has;
          asks_left = left;
          within = within;
          answered = next ∙ st.answered;
          own_block = λ i h. (
            d,
            ap (λ k. slice_get (w.blocks ++ d ∷ []) k) (sym (same_Some (length w.blocks) i (sym mine ∙ h)))
                ∙ slice_get-push_at w.blocks d,
            listed.thread,
          );
          owns = λ i b hb thread. elim (slice_get-push_cases w.blocks i b d hb) [
            | inl old ↦ elim (st.owns i b old thread)
                [ inl below ↦ inl (rw next below) | inr its ↦ absurd (false≢true (sym not_yet ∙ its.2)) ]
            | inr new ↦ inr (
              ap (λ z. z.call) new.1 ∙ listed.call ∙ sym next,
              inl (mine ∙ ap (λ k. Some k) (sym new.0)),
              own,
            )
          ];
          own_visits = no-visits x (w.blocks ++ d ∷ []) s.thread p' none.visits;
          claim = claim;
          walks = walks;
        })
        agree
        (holds-same w.places w.locks sound.holds s.thread p p' at hold
        (stands (stand_in w.locks s.thread) (out p.phase not_yet st.claim (sound.holds.stands s.thread p at))))
        (placed-push x (threads_of w) s.thread (started_of w) (started_of (stepped w s p')) w.blocks w.replies
        (started-stays x w s p p' at (λ k h. started ∙ h)) d new-placed (listed.position ∙ number) earlier sound.placed)
        (replies-kept x w.blocks (w.blocks ++ d ∷ []) w.replies
        (λ i r hr. keeps-push x w.blocks d r.thread r.call (λ same.
        let below = reply-below x (threads_of w) (started_of w) w.blocks w.replies sound.placed i r hr in
        let mine' : r.thread ≡ s.thread = sym same ∙ listed.thread in
        let count : p.next ≡ answered_of w.replies r.thread = st.answered ∙ ap (answered_of w.replies) (sym mine') in
        rw listed.call (omega (arith, below, count))))
        sound.replies)

  -- where the new block changes nothing, all contents stay
  pub contents-listed : ((o : Option (K × V)) → contents x w.blocks key ≡ o
      → pair_in (reached x d.thread d.call d.done.value o) ≡ o)
      → (q : K) → contents x (w.blocks ++ d ∷ []) q ≡ contents x w.blocks q
  contents-listed quiet q = contents-push x w.blocks d q
      ∙ ⊎_elim yes_ (left-untouched x d key new-key q (contents x w.blocks q)) (cases_Bool (x.eq key q))
    where
      yes_ : x.eq key q ≡ true → left x d q (contents x w.blocks q) ≡ contents x w.blocks q
      yes_ same =
          left-touched x d key new-key q (contents x w.blocks q) same
          ∙ quiet (contents x w.blocks q) (contents-same x laws w.blocks key q same)
