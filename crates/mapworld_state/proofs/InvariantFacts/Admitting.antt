-- What leads a thread into its shard and out of its lock: steps of the lock's calls, and their ends; and growths that
-- are refused.
use Rattle.std.proofs.Common.{◌≡◌, ◌≢◌, ℕ, zero, suc, ◌+◌, ◌⊎◌, inl, inr, true, false, List, [], ◌∷◌, ◌++◌, Option}
use Rattle.std.proofs.Common.{Some, None, slice_get, slice_set, refl, ap, sym, ◌∙◌, subst, arith}
use Rattle.mapworld_state.specs.Shards.{ShardPairs}
use Rattle.std.proofs.lemmas.Bool.{false≢true}
use Rattle.std.proofs.lemmas.Option.{none-some, same_Some}
use Rattle.lock_api_desk.specs.declared.mode.Mode.{Mode as DeskMode}
use Rattle.mapworld_calls.specs.declared.block.Block.{Block}
use Rattle.mapworld_calls.specs.declared.ask.Ask.TheVariants as ask
use Rattle.mapworld_calls.specs.declared.ask.Keyed.{Keyed}
use Rattle.mapworld_calls.specs.declared.ask.Keyed.TheVariants as keyed
use Rattle.mapworld_calls.specs.declared.ask.Begin.{Begin}
use Rattle.mapworld_calls.specs.declared.ask.Begin.TheVariants as begin
use Rattle.mapworld_calls.specs.declared.ask.Walk.{Walk}
use Rattle.mapworld_calls.specs.declared.reply.Answer.TheVariants as answer
use Rattle.mapworld_calls.specs.Programs.{opening_may_grow}
use Rattle.mapworld_calls.specs.Setup.{Setup, Laws, ask_at, session_of}
use Rattle.mapworld_calls.specs.Agrees.{HasNoBlock}
use Rattle.mapworld_calls.proofs.Programs.{one_guard_apart, one_guard_begin_apart, one_guard_walk_apart}
use Rattle.mapworld_calls.proofs.Lists.{slice_get-set_other, slice_get-set_cases}
use Rattle.parking_lot_protocol.specs.declared.act.CoreAnswer.TheVariants.{Owned}
use Rattle.mapworld_state.specs.Locks.Aims.{Aim, Gets}
use Rattle.mapworld_state.specs.Locks.Views.{Shown, owner_in}
use Rattle.mapworld_state.specs.Locks.Stands.{Stand}
use Rattle.mapworld_state.specs.declared.holds.Mode.{Mode}
use Rattle.mapworld_state.specs.declared.holds.Mode.TheVariants.{Exclusive}
use Rattle.mapworld_state.specs.declared.holds.Hold.{Hold}
use Rattle.mapworld_state.specs.declared.step.Step.{Step}
use Rattle.mapworld_state.specs.declared.place.Growth.{Growth}
use Rattle.mapworld_state.specs.declared.place.Growth.TheVariants as growth
use Rattle.mapworld_state.specs.declared.place.Phase.{Phase}
use Rattle.mapworld_state.specs.declared.place.Phase.TheVariants as phase
use Rattle.mapworld_state.specs.Places.{Place}
use Rattle.mapworld_state.specs.State.{State, threads_of, started_of}
use Rattle.mapworld_state.specs.Holds.{at_desk}
use Rattle.mapworld_state.specs.Held.{MayOwe, StandsBefore, HoldsMatch}
use Rattle.mapworld_state.specs.Moves.{mode_of, ask_of, request_of, stepped}
use Rattle.mapworld_state.specs.Walks.{walk_mode, kept_over}
use Rattle.mapworld_state.specs.Steps.{Enters, Leaves as LeavesLock, MovesLock, IsRefusedGrowth}
use Rattle.mapworld_state.specs.Sound.{may_own, block_after, HoldsShard, KeepsOver, OwnsBlocks, IsInSession, IsReady}
use Rattle.mapworld_state.specs.Sound.{IsReleasing, Claim, Stands, Sound}
use Rattle.mapworld_state.proofs.HoldsTable.{none-there, only-first}
use Rattle.mapworld_state.proofs.InvariantFacts.Effects.{keeps-same, Anyhow}
use Rattle.mapworld_state.proofs.InvariantFacts.Others.{IsInCall-push, stands-on}
use Rattle.mapworld_state.proofs.InvariantFacts.Timing.{placed-same, placed-silent}
use Rattle.mapworld_state.proofs.InvariantFacts.Holding.{stand-at, holds-same, holds-admitted, holds-left}
use Rattle.mapworld_state.proofs.InvariantFacts.Holding.{holds-stepped, exclusion}
use Rattle.mapworld_state.proofs.InvariantFacts.Building.{Goes, in_call-moved, tables-same, started-stays, Leaves}
use Rattle.mapworld_state.proofs.InvariantFacts.Building.{sound-by, claim-at, taken-at, within-at, none-at, none-moved}
use Rattle.mapworld_state.proofs.InvariantFacts.Building.{no-visits, session-next, session-is, asked-from}
use Rattle.mapworld_state.proofs.InvariantFacts.Building.{ready-outside, block_after-none}
use Rattle.mapworld_state.specs.Moves.{request_manner}
use Rattle.mapworld_state.specs.Holds.{tries_so, has_deadline_so}
use Rattle.mapworld_state.specs.Steps.{Expires}
use Rattle.mapworld_calls.specs.Programs.{may_grow}
use Rattle.mapworld_state.proofs.InvariantFacts.Holding.{holds-expired}

-- a thread's blocks, where the phase that it goes to may own one
pub owns-on : {K V D T A : Type 0} (bs : List (Block K)) (t : ℕ) (p p' : Place K V D T A) → OwnsBlocks bs t p
    → p'.next ≡ p.next → p'.block ≡ p.block → p'.visits ≡ p.visits
    → (may_own p.phase ≡ true → may_own p'.phase ≡ true) → OwnsBlocks bs t p'
owns-on bs t p p' h next block visits own i b at thread = elim (h i b at thread) [
  | inl below ↦ inl (rw next below)
  | inr mine ↦ inr (
    mine.0 ∙ sym next,
    elim mine.1 [
      | inl its ↦ inl (block ∙ its)
      | inr in_ ↦ inr
          (in_.0, ap (λ (z : List ℕ). slice_get z in_.0) visits ∙ in_.1)
    ],
    own mine.2,
  )
]

-- a step that changes neither blocks nor replies nor tables leaves other threads' facts
pub leaves-same : {K V S D T A : Type 0} (x : Setup K V D T) (w : State K V S D T A) (s : Step) (p p' : Place K V D T A)
    (at : slice_get w.places s.thread ≡ Some p) (sound : Sound x w) (locks' : _)
    → Leaves x w s p p' at sound w.blocks w.tables locks' w.replies Anyhow
leaves-same {A = A} x w s p p' at sound locks' = record {
  effect = λ u ne. keeps-same A x w.blocks u Anyhow;
  count = λ u ne. refl;
  kept = λ u q m ne hq h. refl;
  foreign = λ u q k o ne hq d. tt;
  shards = refl;
}

-- an exclusive holder's change of its shard reaches no shard that another thread holds
pub kept-alone : {K V S D T A : Type 0} (x : Setup K V D T) (w : State K V S D T A) (s : Step) (p : Place K V D T A)
    (at : slice_get w.places s.thread ≡ Some p) (sound : Sound x w)
    (table : ShardPairs K V) → HoldsShard p Exclusive
    → (u : ℕ) (q : Place K V D T A) (m : Mode) → u ≢ s.thread → slice_get w.places u ≡ Some q → HoldsShard q m
    → slice_get (slice_set w.tables p.shard table) q.shard ≡ slice_get w.tables q.shard
kept-alone x w s p at sound table alone u q m ne hq h =
    slice_get-set_other w.tables p.shard q.shard table (λ same.
    let both = exclusion w.places w.locks sound.holds s.thread u p q alone.hold h.hold (λ z. ne (sym z)) at hq alone.has
    h.has (alone.shard ∙ same ∙ sym h.shard) in
    absurd (cc (both.0, alone.mode_is)))

-- what is no step of its own: one place is another, and perhaps the locks
pub sound-silent : {K V S D T A : Type 0} (x : Setup K V D T) (w : State K V S D T A) (t : ℕ) (p p' : Place K V D T A)
    → slice_get w.places t ≡ Some p → Sound x w → (locks' : Shown)
    → p'.started ≡ p.started → Stands x (threads_of w) w.blocks w.replies w.tables t p'
    → HoldsMatch (slice_set w.places t p') locks'
    → Sound x (record w { places = slice_set w.places t p'; locks = locks' })
sound-silent x w t p p' at sound locks' started stands match = record {
  guarded = sound.guarded;
  shards = sound.shards;
  some = sound.some;
  stops = sound.stops;
  routes = sound.routes;
  stands = λ u q hq. elim (slice_get-set_cases w.places t u p q p' at hq) [
    | inl own ↦ rw (own.0, own.1) stands
    | inr other ↦ sound.stands u q other.1
  ];
  tables = sound.tables;
  holds = match;
  placed = placed-silent x (threads_of w) t (started_of w) (started_of (record w { places = slice_set w.places t p' }))
      w.blocks w.replies
      (started-stays x w (record { thread = t; fair = false; deadline = false }) p p' at (λ n z. started ∙ z))
      sound.placed;
  replies = sound.replies;
}

module _ {K V S D T A : Type 0} (x : Setup K V D T) (w : State K V S D T A) (t : ℕ) (mid : State K V S D T A)
    (sound : Sound x w) where
  -- an admission is over: its thread has the hold that the lock gave it
  pub sound-enters : Enters w t mid → Sound x mid
  sound-enters e =
      let p = e.place in
      let mode : Mode = mode_of e.request in
      let a : Hold = record { shard = p.shard; mode = mode } in
      let p' : Place K V D T A = record p { holds = p.holds ++ a ∷ []; phase = phase.Find e.request } in
      let st = sound.stands t p e.stands in
      let f = phase.Admit e.request in
      let c = claim-at x (threads_of w) w.blocks w.replies w.tables t p f e.before st in
      let none = none-at x (threads_of w) w.blocks w.replies w.tables t p f e.before st refl in
      let one : p.holds ++ a ∷ [] ≡ a ∷ [] = ap (λ hs. hs ++ a ∷ []) c.2 in
      let wants = stand-at w.places w.locks sound.holds t p e.stands f e.before in
      let stand : e.ends.stand ≡ record {
        shard = p.shard;
        aim = Gets (at_desk mode);
        trying = tries_so (request_manner e.request);
        timed = has_deadline_so (request_manner e.request);
      } =
      same_Some e.ends.stand _ (sym e.ends.stood ∙ wants.is) in
      let here : e.ends.stand.shard ≡ p.shard = ap (λ (z : Stand). z.shard) stand in
      let mine : owner_in e.locks p.shard t ≡ Some (at_desk mode) =
      ap (λ i. owner_in e.locks i t) (sym here) ∙ e.ends.owned (at_desk mode) (ap (λ (z : Stand). z.aim) stand) refl in
      subst (Sound x) (sym e.after) (sound-silent x w t p p' e.stands sound e.locks refl
      (record {
        program = st.program;
        has = st.has;
        asks_left = taken-at x (threads_of w) w.blocks w.replies w.tables t p f e.before st;
        within = within-at x (threads_of w) w.blocks w.replies w.tables t p f e.before st;
        answered = st.answered;
        own_block = st.own_block;
        own_visits = no-visits x w.blocks t p' none.visits;
        owns = owns-on w.blocks t p p' st.owns refl refl refl
            (λ own. absurd (false≢true (sym (ap may_own e.before) ∙ own)));
        claim = (
          in_call-moved x p p' (threads_of w) t _ refl refl refl c.0,
          record { block = c.1.block; guard = c.1.guard; shard = c.1.shard },
          record { hold = a; has = one; shard = refl; mode_is = refl },
        );
        walks = none-moved p p' refl refl refl none;
      })
      (holds-admitted w.places w.locks sound.holds t p p' e.stands a refl
      (λ i b hb. absurd (none-there p.holds i b c.2 hb)) Owned e.locks e.ends here mine refl))

  -- what was owed to a lock is done: no place is another
  pub sound-leaves : LeavesLock w t mid → Sound x mid
  sound-leaves e = subst (Sound x) (sym e.after) (record {
    guarded = sound.guarded;
    shards = sound.shards;
    some = sound.some;
    stops = sound.stops;
    routes = sound.routes;
    stands = sound.stands;
    tables = sound.tables;
    holds = holds-left w.places w.locks sound.holds t e.place e.stands e.before e.ended e.locks e.ends;
    placed = sound.placed;
    replies = sound.replies;
  })

  -- the world in which a find is made
  pub sound-entered : (mid ≡ w) ⊎ Enters w t mid → Sound x mid
  sound-entered h = elim h [ inl same ↦ subst (Sound x) (sym same) sound | inr e ↦ sound-enters e ]

-- a thread that waits for a shard has no hold of it: before that a walk has at the most one, of the shard before
module _ {K V D T A : Type 0} (x : Setup K V D T) (threads : List ℕ) (bs : List (Block K))
    (tables : List (ShardPairs K V)) (t : ℕ) (p : Place K V D T A) where
  pub kept-apart : (mode : Mode) (n : ℕ) → KeepsOver p mode n → (i : ℕ) (b : Hold) → slice_get p.holds i ≡ Some b
      → b.shard ≢ p.shard
  kept-apart mode zero none i b hb = λ same. none-there p.holds i b none hb
  kept-apart mode (suc n) h i b hb = λ same.
      let its = (only-first p.holds h.0 i b h.1 hb).1 in
      let last : b.shard + 1 ≡ p.shard = ap (λ (z : Hold). z.shard + 1) (sym its) ∙ h.2 in
      absurd (omega (arith, same, last))

  owes-gets : (stand : Stand) (m : DeskMode) → stand.aim ≡ Gets m → MayOwe p stand.shard stand.aim → ⊥
  owes-gets stand m aim h = subst (λ (z : Aim). MayOwe p stand.shard z) aim h

  waits-apart : (f : Phase K V D T A) → Claim x threads bs tables t p f → (stand : Stand)
      → StandsBefore p f (Some stand) → (m : DeskMode) → stand.aim ≡ Gets m
      → (i : ℕ) (b : Hold) → slice_get p.holds i ≡ Some b → b.shard ≢ stand.shard
  waits-apart phase.Rest c stand h m aim i b hb = absurd (none-some stand (sym h))
  waits-apart (phase.Admit r) c stand h m aim i b hb = absurd (none-there p.holds i b c.2 hb)
  waits-apart (phase.Find r) c stand h m aim i b hb = absurd (none-some stand (sym h))
  waits-apart (phase.Grow g) c stand h m aim i b hb = absurd (none-some stand (sym h))
  waits-apart (phase.Append k v) c stand h m aim i b hb = absurd (none-some stand (sym h))
  waits-apart (phase.Apply k) c stand h m aim i b hb = absurd (none-some stand (sym h))
  waits-apart (phase.View k d) c stand h m aim i b hb = absurd (none-some stand (sym h))
  waits-apart (phase.Read d) c stand h m aim i b hb = absurd (none-some stand (sym h))
  waits-apart (phase.Change g) c stand h m aim i b hb = absurd (none-some stand (sym h))
  waits-apart (phase.Fill v) c stand h m aim i b hb = absurd (none-some stand (sym h))
  waits-apart phase.Downgrade c stand h m aim i b hb = absurd (none-some stand (sym h))
  waits-apart (phase.Idle f) c stand h m aim i b hb = absurd (none-some stand (sym h))
  waits-apart (phase.Reach f) c stand h m aim i b hb = λ same. kept-apart (walk_mode f) (kept_over f p.shard) c.2 i b hb
      (same ∙ ap (λ (z : Stand). z.shard)
      (same_Some stand
      (record { shard = p.shard; aim = Gets (at_desk (walk_mode f)); trying = false; timed = false }) h.is))
  waits-apart (phase.Part f) c stand h m aim i b hb = absurd (none-some stand (sym h))
  waits-apart (phase.Visit f) c stand h m aim i b hb = absurd (owes-gets stand m aim h)
  waits-apart (phase.Seek f) c stand h m aim i b hb = absurd (none-some stand (sym h))
  waits-apart (phase.Item f) c stand h m aim i b hb = absurd (none-some stand (sym h))
  waits-apart (phase.Give f) c stand h m aim i b hb = absurd (none-some stand (sym h))
  waits-apart (phase.Onward f) c stand h m aim i b hb = absurd (owes-gets stand m aim h)
  waits-apart (phase.Release a) c stand h m aim i b hb = absurd (none-some stand (sym h))
  waits-apart (phase.Answer a) c stand h m aim i b hb = absurd (owes-gets stand m aim h)

-- a step of a lock's call leaves its thread where it stands
pub sound-moves : {K V S D T A : Type 0} (x : Setup K V D T) (w : State K V S D T A) (s : Step) (w' : State K V S D T A)
    → Sound x w → MovesLock x w s w' → Goes x s.thread w w'
sound-moves {K} {V} {S} {D} {T} {A} x w s w' sound a =
    let p = a.place in
    let st = sound.stands s.thread p a.stands in
    let stood : StandsBefore p p.phase (Some a.moves.stand) = subst (λ (o : Option Stand). StandsBefore p p.phase o)
    a.moves.stood (sound.holds.stands s.thread p a.stands) in
    subst (Goes x s.thread w) (sym a.after)
    (sound-by x w s p p a.stands sound w.blocks w.tables a.locks w.replies Anyhow
    (leaves-same x w s p p a.stands sound a.locks)
    (stands-on x (threads_of w) s.thread w.blocks w.blocks w.replies w.replies w.tables w.tables s.thread p Anyhow
    (keeps-same A x w.blocks s.thread Anyhow) refl (λ m h. refl) (λ b alone here. tt) st)
    (tables-same x w.blocks w.blocks w.tables sound.tables (λ q. refl))
    (holds-stepped w.places w.locks sound.holds s.thread p a.stands s.fair a.locks a.moves
    (waits-apart x (threads_of w) w.blocks w.tables s.thread p p.phase st.claim a.moves.stand stood))
    (placed-same x (threads_of w) s.thread (started_of w) (started_of (stepped w s p)) w.blocks w.replies
    (started-stays x w s p p a.stands (λ n h. h)) sound.placed)
    sound.replies)

-- and so does its deadline
pub sound-expires : {K V S D T A : Type 0} (x : Setup K V D T) (w : State K V S D T A) (s : Step)
    (w' : State K V S D T A) → Sound x w → Expires x w s w' → Goes x s.thread w w'
sound-expires {K} {V} {S} {D} {T} {A} x w s w' sound a =
    let p = a.place in
    let st = sound.stands s.thread p a.stands in
    subst (Goes x s.thread w) (sym a.after)
    (sound-by x w s p p a.stands sound w.blocks w.tables a.locks w.replies Anyhow
    (leaves-same x w s p p a.stands sound a.locks)
    (stands-on x (threads_of w) s.thread w.blocks w.blocks w.replies w.replies w.tables w.tables s.thread p Anyhow
    (keeps-same A x w.blocks s.thread Anyhow) refl (λ m h. refl) (λ b alone here. tt) st)
    (tables-same x w.blocks w.blocks w.tables sound.tables (λ q. refl))
    (holds-expired w.places w.locks sound.holds s.thread p a.stands a.locks a.expires)
    (placed-same x (threads_of w) s.thread (started_of w) (started_of (stepped w s p)) w.blocks w.replies
    (started-stays x w s p p a.stands (λ n h. h)) sound.placed)
    sound.replies)

module _ {K V S D T A : Type 0} (x : Setup K V D T) (w : State K V S D T A) (t : ℕ) (sound : Sound x w) where
  -- no block of the thread is of the call that it is in
  pub none-yet : (p : Place K V D T A) → slice_get w.places t ≡ Some p → may_own p.phase ≡ false
      → HasNoBlock w.blocks t p.next
  none-yet p at not_yet i b hb thread call =
      let st = sound.stands t p at in
      elim (st.owns i b hb thread) [ inl below ↦ omega (arith, call) | inr mine ↦ false≢true (sym not_yet ∙ mine.2) ]

  -- a keyed call stands in no session, and nor does the next call behind it
  pub keyed-apart : (p : Place K V D T A) (st : Stands x (threads_of w) w.blocks w.replies w.tables t p)
      (k : Keyed K V D) → ask_at x t p.next ≡ Some (ask.Keyed k)
      → (session_of x t p.next ≡ None) × (session_of x t (p.next + 1) ≡ None)
  keyed-apart p st k asked =
      let outside : session_of x t p.next ≡ None =
      session-is x t st.program st.has p.next
      ∙ one_guard_apart st.program (sound.guarded t st.program st.has) p.next k
      (asked-from x t st.program st.has p.next (ask.Keyed k) asked) in
      (outside, session-next x t st.program st.has p.next (ask.Keyed k) asked ∙ outside)

  pub begin-apart : (p : Place K V D T A) (st : Stands x (threads_of w) w.blocks w.replies w.tables t p) (b : Begin K)
      → ask_at x t p.next ≡ Some (ask.Begin b)
      → (session_of x t p.next ≡ None) × (session_of x t (p.next + 1) ≡ Some p.next)
  begin-apart p st b asked =
      let outside : session_of x t p.next ≡ None =
      session-is x t st.program st.has p.next
      ∙ one_guard_begin_apart st.program (sound.guarded t st.program st.has) p.next b
      (asked-from x t st.program st.has p.next (ask.Begin b) asked) in
      (outside, session-next x t st.program st.has p.next (ask.Begin b) asked)

  -- nor does a walk
  pub walk-apart : (p : Place K V D T A) (st : Stands x (threads_of w) w.blocks w.replies w.tables t p) (f : Walk D)
      → ask_at x t p.next ≡ Some (ask.Walk f)
      → (session_of x t p.next ≡ None) × (session_of x t (p.next + 1) ≡ None)
  walk-apart p st f asked =
      let outside : session_of x t p.next ≡ None =
      session-is x t st.program st.has p.next
      ∙ one_guard_walk_apart st.program (sound.guarded t st.program st.has) p.next f
      (asked-from x t st.program st.has p.next (ask.Walk f) asked) in
      (outside, session-next x t st.program st.has p.next (ask.Walk f) asked ∙ outside)

  -- an opening without a block gives no guard
  pub unopened-ready : (p : Place K V D T A) → slice_get w.places t ≡ Some p → may_own p.phase ≡ false → (b : Begin K)
      → ask_at x t p.next ≡ Some (ask.Begin b) → (tables' : List (ShardPairs K V)) (p' : Place K V D T A)
      → p'.guard ≡ None → block_after p' ≡ None → IsReady x w.blocks tables' t p' (p.next + 1) (block_after p')
  unopened-ready p at not_yet b asked tables' p' guard block =
      let inside = begin-apart p (sound.stands t p at) b asked in
      subst (λ (o : Option ℕ). IsInSession x w.blocks tables' t p' (p.next + 1) o (block_after p')) (sym inside.1)
      (subst (λ (o : Option ℕ). IsInSession x w.blocks tables' t p' (p.next + 1) (Some p.next) o) (sym block)
      (guard, none-yet p at not_yet))

module _ {K V S D T A : Type 0} (x : Setup K V D T) (laws : Laws x) (w : State K V S D T A) (s : Step)
    (w' : State K V S D T A) (sound : Sound x w) where
  unopened : (p : Place K V D T A) → slice_get w.places s.thread ≡ Some p
      → (tables' : List (ShardPairs K V)) (g : Growth K V) → p.phase ≡ phase.Grow g → (b : Begin K)
      → ask_of (request_of {D = D} g) ≡ ask.Begin b → opening_may_grow b ≡ true
      → IsReleasing x w.blocks tables' s.thread (record p { phase = phase.Release answer.NoMemory })
      (ask_of (request_of {D = D} g)) answer.NoMemory None
  unopened p at tables' g before b is grows =
      let p' : Place K V D T A = record p { phase = phase.Release answer.NoMemory } in
      let c = claim-at x (threads_of w) w.blocks w.replies w.tables s.thread p (phase.Grow g) before
      (sound.stands s.thread p at) in
      rw is (
        inr (inl (refl, grows), none-yet x w s.thread sound p at (ap may_own before)),
        unopened-ready x w s.thread sound p at (ap may_own before) b (c.0.asked ∙ ap (λ z. Some z) is) tables' p'
            c.1.guard (block_after-none p' c.1.block),
      )

  unkeyed : (p : Place K V D T A) → slice_get w.places s.thread ≡ Some p
      → (tables' : List (ShardPairs K V)) (g : Growth K V) → p.phase ≡ phase.Grow g → (k : Keyed K V D)
      → ask_of (request_of {D = D} g) ≡ ask.Keyed k → may_grow k ≡ true
      → IsReleasing x w.blocks tables' s.thread (record p { phase = phase.Release answer.NoMemory })
      (ask_of (request_of {D = D} g)) answer.NoMemory None
  unkeyed p at tables' g before k is grows =
      let p' : Place K V D T A = record p { phase = phase.Release answer.NoMemory } in
      let st = sound.stands s.thread p at in
      let c = claim-at x (threads_of w) w.blocks w.replies w.tables s.thread p (phase.Grow g) before st in
      let outside = keyed-apart x w s.thread sound p st k (c.0.asked ∙ ap (λ z. Some z) is) in
      rw is (
        inr (inl (refl, grows), none-yet x w s.thread sound p at (ap may_own before)),
        ready-outside x w.blocks tables' s.thread p' (p.next + 1) (block_after p') outside.1 c.1.guard
            (block_after-none p' c.1.block),
      )

  -- what a refused growth leaves its release to do: a keyed call is answered, and an opening gives no guard
  refused-releasing : (p : Place K V D T A) → slice_get w.places s.thread ≡ Some p
      → (tables' : List (ShardPairs K V)) (g : Growth K V) → p.phase ≡ phase.Grow g
      → IsReleasing x w.blocks tables' s.thread (record p { phase = phase.Release answer.NoMemory })
      (ask_of (request_of {D = D} g)) answer.NoMemory None
  refused-releasing p at tables' (growth.Insert k v) before = unkeyed p at tables' (growth.Insert k v) before
      (keyed.Insert k v) refl refl
  refused-releasing p at tables' (growth.InsertUntil k v) before = unkeyed p at tables' (growth.InsertUntil k v) before
      (keyed.InsertUntil k v) refl refl
  refused-releasing p at tables' (growth.Entry k) before = unopened p at tables' (growth.Entry k) before (begin.Entry k)
      refl refl
  refused-releasing p at tables' (growth.TryEntry k) before = unopened p at tables' (growth.TryEntry k) before
      (begin.TryEntry k) refl refl

  pub sound-refused : IsRefusedGrowth x w s w' → Goes x s.thread w w'
  sound-refused a =
      let p = a.place in
      let p' : Place K V D T A = record p { phase = phase.Release answer.NoMemory } in
      let st = sound.stands s.thread p a.stands in
      let c = claim-at x (threads_of w) w.blocks w.replies w.tables s.thread p (phase.Grow a.call) a.before st in
      let none = none-at x (threads_of w) w.blocks w.replies w.tables s.thread p (phase.Grow a.call) a.before st refl in
      subst (Goes x s.thread w) (sym a.after)
      (sound-by x w s p p' a.stands sound w.blocks w.tables w.locks w.replies Anyhow
      (leaves-same x w s p p' a.stands sound w.locks)
      (record {
        program = st.program;
        has = st.has;
        asks_left = taken-at x (threads_of w) w.blocks w.replies w.tables s.thread p (phase.Grow a.call) a.before st;
        within = within-at x (threads_of w) w.blocks w.replies w.tables s.thread p (phase.Grow a.call) a.before st;
        answered = st.answered;
        own_block = st.own_block;
        own_visits = no-visits x w.blocks s.thread p' none.visits;
        owns = owns-on w.blocks s.thread p p' st.owns refl refl refl (λ own. refl);
        walks = none.reads;
        claim = (
          ask_of (request_of {D = D} a.call),
          c.2.hold,
          IsInCall-push x (threads_of w) s.thread s.thread p' _
              (in_call-moved x p p' (threads_of w) s.thread _ refl refl refl c.0),
          c.2.has,
          subst (IsReleasing x w.blocks w.tables s.thread p' (ask_of (request_of {D = D} a.call)) answer.NoMemory)
              (sym c.1.guard)
              (refused-releasing p a.stands w.tables a.call a.before),
        );
      })
      (tables-same x w.blocks w.blocks w.tables sound.tables (λ q. refl))
      (holds-same w.places w.locks sound.holds s.thread p p' a.stands refl
      (stand-at w.places w.locks sound.holds s.thread p a.stands (phase.Grow a.call) a.before))
      (placed-same x (threads_of w) s.thread (started_of w) (started_of (stepped w s p')) w.blocks w.replies
      (started-stays x w s p p' a.stands (λ n h. h)) sound.placed)
      sound.replies)
