-- The start of a call.
use Rattle.std.proofs.Common.{◌≡◌, ℕ, ◌+◌, ◌-◌, ◌<◌, ◌≤◌, inl, inr, Bool, true, false, ◌&&◌, if◌then◌else◌, List, []}
use Rattle.std.proofs.Common.{◌∷◌, ◌++◌, length, drop, Option, Some, None, slice_get, slice_set, refl, ap, sym, ◌∙◌}
use Rattle.std.proofs.Common.{subst, arith}
use Rattle.mapworld_state.specs.Shards.{ShardPairs}
use Rattle.std.proofs.lemmas.Option.{same_Some, none-some}
use Rattle.std.proofs.lemmas.Bool.{false≢true}
use Rattle.mapworld_calls.specs.declared.ask.Ask.{Ask}
use Rattle.mapworld_calls.specs.declared.ask.Ask.TheVariants as ask
use Rattle.mapworld_calls.specs.declared.ask.Keyed.{Keyed}
use Rattle.mapworld_calls.specs.declared.ask.Begin.{Begin}
use Rattle.mapworld_calls.specs.declared.ask.Held.{Held}
use Rattle.mapworld_calls.specs.declared.ask.Walk.{Walk}
use Rattle.mapworld_calls.specs.declared.ask.Held.TheVariants as held
use Rattle.mapworld_calls.specs.declared.block.Block.{Block}
use Rattle.mapworld_calls.specs.declared.reply.Answer.{Answer}
use Rattle.mapworld_calls.specs.declared.reply.Answer.TheVariants as answer
use Rattle.mapworld_calls.specs.Calls.{At, vacant, pair_in, held_answer, held_leaves}
use Rattle.mapworld_calls.specs.Programs.{is_drop, keyed_key, opening_key, stop_of}
use Rattle.mapworld_calls.specs.Setup.{Setup, Laws, ask_at, session_of}
use Rattle.mapworld_calls.specs.Replay.{reached, found}
use Rattle.mapworld_calls.specs.Agrees.{IsToldBy, IsAnsweredInSession}
use Rattle.mapworld_state.specs.Locks.Views.{Shown}
use Rattle.mapworld_state.specs.Locks.Stands.{stand_in}
use Rattle.mapworld_state.specs.declared.holds.Mode.TheVariants.{Exclusive}
use Rattle.mapworld_state.specs.declared.step.Step.{Step}
use Rattle.mapworld_state.specs.declared.place.Way.{Way}
use Rattle.mapworld_state.specs.declared.place.Way.TheVariants as way
use Rattle.mapworld_state.specs.declared.place.Guard.{Guard}
use Rattle.mapworld_state.specs.declared.place.Guard.TheVariants as guard
use Rattle.mapworld_state.specs.declared.place.Phase.{Phase}
use Rattle.mapworld_state.specs.declared.place.Phase.TheVariants as phase
use Rattle.mapworld_state.specs.Places.{Place}
use Rattle.mapworld_state.specs.State.{State, threads_of, started_of, next_step}
use Rattle.mapworld_state.specs.Moves.{is_last, way_mode, lent, is_change, shared_phase, exclusive_phase}
use Rattle.mapworld_state.specs.Moves.{occupied_phase, vacant_phase, held_phase, stops_at, held_guard, start_phase}
use Rattle.mapworld_state.specs.Moves.{start_guard, start_shard, start_counts, stepped, CountsCall}
use Rattle.mapworld_state.specs.Walks.{walk_mode, hands_over, kept_over}
use Rattle.mapworld_state.specs.Steps.{EntersBy, Starts}
use Rattle.mapworld_state.specs.Sound.{is_resting, may_own, block_after, GuardIs, HoldsShard, HasSession, IsInSessionOf}
use Rattle.mapworld_state.specs.Sound.{IsInSession, IsReady, IsInCall, IsReleasing, IsOutside, KeepsOver, Claim}
use Rattle.mapworld_state.specs.Sound.{HasVisited, HasNoWalk, Walks, Stands, Sound}
use Rattle.mapworld_state.proofs.InvariantFacts.Timing.{IsStepOf-next, placed-same}
use Rattle.mapworld_state.proofs.InvariantFacts.Holding.{holds-entered, stand-at}
use Rattle.mapworld_state.proofs.InvariantFacts.Building.{Goes, drop-first, asked-at, session-next, holds-moved}
use Rattle.mapworld_state.proofs.InvariantFacts.Building.{guard-moved, ready-moved, tables-same, started-stays}
use Rattle.mapworld_state.proofs.InvariantFacts.Building.{sound-by, claim-at, walks-at, none-moved, no-visits, taken-at}
use Rattle.mapworld_state.proofs.InvariantFacts.Building.{ready-outside, block_after-none}
use Rattle.mapworld_state.proofs.InvariantFacts.Admitting.{leaves-same, owns-on, none-yet, keyed-apart, begin-apart}
use Rattle.mapworld_state.proofs.InvariantFacts.Admitting.{walk-apart}
use Rattle.mapworld_state.proofs.InvariantFacts.Walked.{stops-none, stops-below, none-counted}
use Rattle.mapworld_calls.proofs.Walking.{none-visited}
use Rattle.mapworld_state.proofs.InvariantFacts.Listing.{length-map}
use Rattle.mapworld_state.proofs.InvariantFacts.Reading.{in-session}
use Rattle.mapworld_state.proofs.InvariantFacts.Growing as growing

-- outside of every session there is neither guard nor block
outside-free : {K V D T A : Type 0} (x : Setup K V D T) (bs : List (Block K)) (tables : List (ShardPairs K V)) (t : ℕ) (p : Place K V D T A) (n : ℕ) (block : Option ℕ)
    → session_of x t n ≡ None → IsReady x bs tables t p n block → (p.guard ≡ None) × (block ≡ None)
outside-free x bs tables t p n block outside h = subst (λ (o : Option ℕ). IsInSession x bs tables t p n o block) outside h

shard-keyed : {K V : Type 0} (D : Type 0) (route : K → ℕ) (k : Keyed K V D) (shard : ℕ) → start_shard route (ask.Keyed k) shard ≡ route (keyed_key k)
shard-keyed D route k shard = refl

shard-begin : {K : Type 0} (V D : Type 0) (route : K → ℕ) (b : Begin K) (shard : ℕ) → start_shard {V = V} {D = D} route (ask.Begin b) shard ≡ route (opening_key b)
shard-begin V D route b shard = refl

-- a call on a guard gives none where none is
guarded-before : {K V D : Type 0} (h : Held V D) (g : Option (Guard K)) (own : Guard K) → held_guard g h ≡ Some own → (k : Guard K) × (g ≡ Some k)
guarded-before h None own e = absurd (none-some own e)
guarded-before h (Some k) own e = (k, refl)

-- the phases of walks
abbrev walks_in : {K V D T A : Type 0} → Phase K V D T A → Bool
walks_in (phase.Idle f) = true
walks_in (phase.Reach f) = true
walks_in (phase.Part f) = true
walks_in (phase.Visit f) = true
walks_in (phase.Seek f) = true
walks_in (phase.Item f) = true
walks_in (phase.Give f) = true
walks_in (phase.Onward f) = true
walks_in f = false

plain-walks : {K V D T A : Type 0} (x : Setup K V D T) (bs : List (Block K)) (tables : List (ShardPairs K V)) (t : ℕ) (p : Place K V D T A) (f : Phase K V D T A) → walks_in f ≡ false → HasNoWalk p → Walks x bs tables t p f
plain-walks x bs tables t p phase.Rest own none = none
plain-walks x bs tables t p (phase.Admit r) own none = none
plain-walks x bs tables t p (phase.Find r) own none = none
plain-walks x bs tables t p (phase.Grow c) own none = none
plain-walks x bs tables t p (phase.Append k v) own none = none
plain-walks x bs tables t p (phase.Apply k) own none = none
plain-walks x bs tables t p (phase.View k d) own none = none
plain-walks x bs tables t p (phase.Read d) own none = none
plain-walks x bs tables t p (phase.Change c) own none = none
plain-walks x bs tables t p (phase.Fill v) own none = none
plain-walks x bs tables t p phase.Downgrade own none = none
plain-walks x bs tables t p (phase.Idle f) own none = absurd (false≢true (sym own))
plain-walks x bs tables t p (phase.Reach f) own none = absurd (false≢true (sym own))
plain-walks x bs tables t p (phase.Part f) own none = absurd (false≢true (sym own))
plain-walks x bs tables t p (phase.Visit f) own none = absurd (false≢true (sym own))
plain-walks x bs tables t p (phase.Seek f) own none = absurd (false≢true (sym own))
plain-walks x bs tables t p (phase.Item f) own none = absurd (false≢true (sym own))
plain-walks x bs tables t p (phase.Give f) own none = absurd (false≢true (sym own))
plain-walks x bs tables t p (phase.Onward f) own none = absurd (false≢true (sym own))
plain-walks x bs tables t p (phase.Release a) own none = none.reads
plain-walks x bs tables t p (phase.Answer a) own none = none.reads

module _ {V D : Type 0} (K T A : Type 0) where
  shared-plain : (h : Held V D) → walks_in (shared_phase {K = K} {T = T} {A = A} h) ≡ false
  shared-plain (held.Read d) = refl
  shared-plain h = refl

  exclusive-plain : (h : Held V D) → walks_in (exclusive_phase {K = K} {T = T} {A = A} h) ≡ false
  exclusive-plain (held.Read d) = refl
  exclusive-plain h = refl

  occupied-plain : (h : Held V D) (k : K) → walks_in (occupied_phase {T = T} {A = A} h k) ≡ false
  occupied-plain (held.Read d) k = refl
  occupied-plain h k = refl

  vacant-plain : (h : Held V D) (k : K) → walks_in (vacant_phase {T = T} {A = A} h k) ≡ false
  vacant-plain (held.Insert v) k = refl
  vacant-plain h k = refl

  held-plain : (h : Held V D) (g : Option (Guard K)) → walks_in (held_phase {T = T} {A = A} g h) ≡ false
  held-plain h None = refl
  held-plain h (Some (guard.Pair way.Shared)) = shared-plain h
  held-plain h (Some (guard.Pair way.Exclusive)) = exclusive-plain h
  held-plain h (Some (guard.Pair (way.Occupied k))) = occupied-plain h k
  held-plain h (Some (guard.Vacant k)) = vacant-plain h k

-- the first shard of a walk is taken with none beside it
first-alone : {D : Type 0} (f : Walk D) → kept_over f 0 ≡ 0
first-alone f = at (hands_over f)
  where
    at : (b : Bool) → ◌≡◌ {A = ℕ} (if b && false then 1 else 0) 0
    at true = refl
    at false = refl

module _ {K V S D T A : Type 0} (x : Setup K V D T) (laws : Laws x) (w : State K V S D T A) (s : Step) (sound : Sound x w)
    (p : Place K V D T A) (at : slice_get w.places s.thread ≡ Some p) (before : p.phase ≡ phase.Rest) (rest : List (Ask K V D)) (locks' : Shown)
    (enters : (a : Ask K V D) (g : Option (Guard K)) → p.asks ≡ a ∷ rest → p.guard ≡ g → EntersBy {T = T} {A = A} s.thread (start_shard x.route a p.shard) (start_phase a g) w.locks locks') where
  abbrev pub st : Stands x (threads_of w) w.blocks w.replies w.tables s.thread p
  st = sound.stands s.thread p at

  abbrev pub resting : Claim x (threads_of w) w.blocks w.tables s.thread p phase.Rest
  resting = claim-at x (threads_of w) w.blocks w.replies w.tables s.thread p phase.Rest before st

  out : stand_in w.locks s.thread ≡ None
  out = stand-at w.places w.locks sound.holds s.thread p at phase.Rest before

  none : HasNoWalk p
  none = walks-at x (threads_of w) w.blocks w.replies w.tables s.thread p phase.Rest before st

  -- the place behind the start, by its guard
  abbrev pub begun : Ask K V D → Option (Guard K) → Place K V D T A
  begun a g = record p { asks = rest; started = Some (next_step w); closes = is_last a; shard = start_shard x.route a p.shard; guard = start_guard a g; phase = start_phase a g }

  begun-none : (a : Ask K V D) (g : Option (Guard K)) → HasNoWalk (begun a g)
  begun-none a g = none-moved p (begun a g) refl refl refl none

  -- a start on a guard begins no walk
  held-walks : (h : Held V D) (g : Option (Guard K)) (bs : List (Block K)) → Walks x bs w.tables s.thread (begun (ask.Held h) g) (start_phase (ask.Held h) g)
  held-walks h g bs = plain-walks x bs w.tables s.thread (begun (ask.Held h) g) (held_phase g h) (held-plain K T A h g) (begun-none (ask.Held h) g)

  module _ (a : Ask K V D) (asks : p.asks ≡ a ∷ rest) where
    first : (slice_get st.program p.next ≡ Some a) × (rest ≡ drop (p.next + 1) st.program) × (p.next < length st.program)
    first = drop-first st.program p.next a rest (sym (taken-at x (threads_of w) w.blocks w.replies w.tables s.thread p phase.Rest before st) ∙ asks)

    pub asked : ask_at x s.thread p.next ≡ Some a
    asked = asked-at x s.thread st.program st.has p.next a first.0

    number : next_step w ≡ length (threads_of w) + 1
    number = ap (λ k. k + 1) (sym (length-map (λ (z : Step). z.thread) w.steps))

    in_call : (g : Option (Guard K)) → IsInCall x (threads_of w ++ s.thread ∷ []) s.thread (begun a g) a
    in_call g = record { asked = asked; closes = refl; start = next_step w; started = refl; begun = rw number (IsStepOf-next (threads_of w) s.thread) }

    stays : (g : Option (Guard K)) (n : ℕ) → p.started ≡ Some n → (begun a g).started ≡ Some n
    stays g n h = absurd (none-some n (sym resting.0 ∙ h))

    -- the world behind a start that counts no call in
    sound-begun : (g : Option (Guard K)) → p.guard ≡ g → is_resting (start_phase {T = T} {A = A} a g) ≡ false
        → Claim x (threads_of w ++ s.thread ∷ []) w.blocks w.tables s.thread (begun a g) (start_phase a g)
        → Walks x w.blocks w.tables s.thread (begun a g) (start_phase a g)
        → Goes x s.thread w (record (stepped w s (begun a g)) { tables = w.tables; locks = locks'; blocks = w.blocks; replies = w.replies })
    sound-begun g e busy claim walks =
        sound-by x w s p (begun a g) at sound w.blocks w.tables locks' w.replies _ (leaves-same x w s p (begun a g) at sound locks')
        (record {
          program = st.program;
          has = st.has;
          asks_left = rw busy first.1;
          within = rw busy (let lt = first.2 in omega arith);
          answered = st.answered;
          own_block = st.own_block;
          own_visits = no-visits x w.blocks s.thread (begun a g) none.visits;
          owns = owns-on w.blocks s.thread p (begun a g) st.owns refl refl refl (λ own. absurd (false≢true (sym (ap may_own before) ∙ own)));
          claim = claim;
          walks = walks;
        })
        (tables-same x w.blocks w.blocks w.tables sound.tables (λ q. refl))
        (holds-entered w.places w.locks sound.holds s.thread p (begun a g) at refl out locks' (start_phase a g) refl (enters a g asks e))
        (placed-same x (threads_of w) s.thread (started_of w) (started_of (stepped w s (begun a g))) w.blocks w.replies (started-stays x w s p (begun a g) at (stays g)) sound.placed)
        sound.replies

  -- the world behind a start
  abbrev pub Begun : Ask K V D → Option (Guard K) → List (Block K) → Type 0
  Begun a g blocks = Goes x s.thread w (record (stepped w s (begun a g)) { blocks = blocks; locks = locks' })

  same-blocks : (a : Ask K V D) (g : Option (Guard K)) (blocks : List (Block K)) → blocks ≡ w.blocks → Begun a g w.blocks → Begun a g blocks
  same-blocks a g blocks same h = subst (λ (z : List (Block K)). Begun a g z) (sym same) h

  -- a guard is one of a session with a block, which has come to it
  abbrev HasBlock : Guard K → Type 0
  HasBlock g = (c : ℕ) × (i : ℕ) × (session_of x s.thread p.next ≡ Some c) × (p.block ≡ Some i) × HasSession x w.blocks w.tables s.thread p p.next c i

  block-of : (g : Guard K) → p.guard ≡ Some g → HasBlock g
  block-of g e = growing.session-of-guard x w.blocks w.tables s.thread p p.next g (session_of x s.thread p.next) p.block e resting.2

  guard-of : (g : Guard K) → p.guard ≡ Some g → (at : At K V) × GuardIs w.tables p (Some g) at
  guard-of g e =
      let u = block-of g e in
      let at = reached x s.thread u.0 (p.next - u.0) (found x w.blocks u.1 u.4.block) in
      (at, subst (λ (z : Option (Guard K)). GuardIs w.tables p z at) e u.4.guard)

  still-none : (drops : Bool) (o : Option ℕ) → o ≡ None → (if drops then None else o) ≡ None
  still-none true o none = refl
  still-none false o none = none

  -- a call that is told at its start: its session's block counts it in, where it has one
  module _ (h : Held V D) (asks : p.asks ≡ ask.Held h ∷ rest) (g : Option (Guard K)) (e : p.guard ≡ g) (r : Answer K V T A) (busy : is_resting (start_phase {K = K} {V = V} {T = T} {A = A} (ask.Held h) g) ≡ false)
      (told-all : (at : At K V) → GuardIs w.tables p g at
      → (held_answer x.deeds h at ≡ r) × (pair_in (held_leaves x.deeds h at) ≡ pair_in at) × GuardIs w.tables p (start_guard (ask.Held h) g) (held_leaves x.deeds h at))
      (ended : is_drop h ≡ true → start_guard (ask.Held h) g ≡ None)
      (claim-of : (bs : List (Block K)) → IsAnsweredInSession x bs s.thread p.next (session_of x s.thread p.next) r
      → IsReady x bs w.tables s.thread (begun (ask.Held h) g) (p.next + 1) (block_after (begun (ask.Held h) g))
      → Claim x (threads_of w ++ s.thread ∷ []) bs w.tables s.thread (begun (ask.Held h) g) (start_phase (ask.Held h) g)) where
    abbrev told-place : Place K V D T A
    told-place = begun (ask.Held h) g

    behind-is : session_of x s.thread (p.next + 1) ≡ (if is_drop h then None else session_of x s.thread p.next)
    behind-is = session-next x s.thread st.program st.has p.next (ask.Held h) (asked (ask.Held h) asks)

    -- a session goes on, or ends by the drop
    ready-behind : (bs : List (Block K)) (c : ℕ) (o : Option ℕ) → session_of x s.thread p.next ≡ Some c → p.block ≡ o → (drops : Bool) → is_drop h ≡ drops
        → IsInSessionOf x bs w.tables s.thread told-place (p.next + 1) c o
        → IsReady x bs w.tables s.thread told-place (p.next + 1) (if drops then None else p.block)
    ready-behind bs c o inside mine true drops on =
        ready-outside x bs w.tables s.thread told-place (p.next + 1) None (behind-is ∙ ap (λ (z : Bool). if z then None else session_of x s.thread p.next) drops) (ended drops) refl
    ready-behind bs c o inside mine false stays on =
        subst (λ (z : Option ℕ). IsInSession x bs w.tables s.thread told-place (p.next + 1) z p.block)
        (sym (behind-is ∙ ap (λ (z : Bool). if z then None else session_of x s.thread p.next) stays ∙ inside))
        (subst (λ (z : Option ℕ). IsInSessionOf x bs w.tables s.thread told-place (p.next + 1) c z) (sym mine) on)

    -- outside of a session, or in one whose opening has no block
    uncounted : p.block ≡ None → r ≡ answer.NoGuard → start_guard (ask.Held h) g ≡ None → Begun (ask.Held h) g w.blocks
    uncounted free_ no-guard none = sound-begun (ask.Held h) asks g e busy (claim-of w.blocks (told (session_of x s.thread p.next) refl) (ready (session_of x s.thread p.next) refl)) (held-walks h g w.blocks)
      where
        state : (o : Option ℕ) → session_of x s.thread p.next ≡ o → IsInSession x w.blocks w.tables s.thread p p.next o None
        state o inside = subst (λ (z : Option ℕ). IsInSession x w.blocks w.tables s.thread p p.next o z) free_ (subst (λ (z : Option ℕ). IsInSession x w.blocks w.tables s.thread p p.next z p.block) inside resting.2)

        told : (o : Option ℕ) → session_of x s.thread p.next ≡ o → IsAnsweredInSession x w.blocks s.thread p.next (session_of x s.thread p.next) r
        told None inside = subst (λ (z : Option ℕ). IsAnsweredInSession x w.blocks s.thread p.next z r) (sym inside) no-guard
        told (Some c) inside = subst (λ (z : Option ℕ). IsAnsweredInSession x w.blocks s.thread p.next z r) (sym inside) (inr (no-guard, (state (Some c) inside).1))

        ready : (o : Option ℕ) → session_of x s.thread p.next ≡ o → IsReady x w.blocks w.tables s.thread told-place (p.next + 1) (block_after told-place)
        ready None inside =
            ready-outside x w.blocks w.tables s.thread told-place (p.next + 1) (block_after told-place)
            (behind-is ∙ still-none (is_drop h) (session_of x s.thread p.next) inside) none (block_after-none told-place free_)
        ready (Some c) inside = ready-behind w.blocks c None inside free_ (is_drop h) refl (none, (state (Some c) inside).1)

    -- in one with a block
    counted : (i : ℕ) → p.block ≡ Some i → (blocks : List (Block K)) → CountsCall w.blocks (Some i) p.next blocks → Begun (ask.Held h) g blocks
    counted i mine blocks n = at-session (session_of x s.thread p.next) refl
      where
        at-session : (o : Option ℕ) → session_of x s.thread p.next ≡ o → Begun (ask.Held h) g blocks
        at-session None inside = absurd (none-some i (sym (outside-free x w.blocks w.tables s.thread p p.next p.block inside resting.2).1 ∙ mine))
        at-session (Some c) inside =
            let a : Ask K V D = ask.Held h in
            let p' = told-place in
            let session : HasSession x w.blocks w.tables s.thread p p.next c i =
            subst (λ (z : Option ℕ). IsInSession x w.blocks w.tables s.thread p p.next (Some c) z) mine (subst (λ (z : Option ℕ). IsInSession x w.blocks w.tables s.thread p p.next z p.block) inside resting.2) in
            let b = n.0 in let d = n.1 in
            let its : session.block ≡ b = same_Some session.block b (sym session.listed ∙ n.2) in
            let was = reached x s.thread c (p.next - c) (found x w.blocks i b) in
            let at-guard : GuardIs w.tables p g was =
            subst (λ (z : Block K). GuardIs w.tables p g (reached x s.thread c (p.next - c) (found x w.blocks i z))) its
            (subst (λ (z : Option (Guard K)). GuardIs w.tables p z (reached x s.thread c (p.next - c) (found x w.blocks i session.block))) e session.guard) in
            let tells = told-all was at-guard in
            let same = tells.1 in
            let on = growing.session-on x laws w s sound p at h (asked a asks) c i inside session b d n.2 n.3 (inl same) w.tables p' refl refl
            (guard-moved x p p' w.tables (start_guard a g) (held_leaves x.deeds h was) refl refl tells.2)
            (growing.there-still x laws w s sound p at h (asked a asks) c i inside session b d n.2 n.3 (inl same) same p' refl (λ own z. let k = guarded-before h g own z in (k.0, e ∙ k.1))) in
            subst (λ (z : List (Block K)). Begun a g z) (sym n.4)
            (growing.sound-counted x laws w s sound p at h (asked a asks) c i inside session b d n.2 n.3 (inl same) p' refl (stays a asks g) same locks' refl (inl refl)
            (claim-of (slice_set w.blocks i d)
            (in-session x (slice_set w.blocks i d) s.thread p.next c r inside
            (subst (λ (z : Answer K V T A). IsToldBy x (slice_set w.blocks i d) s.thread c (p.next - c) z) tells.0 (growing.told-more x laws w s sound p at h (asked a asks) c i inside session b d n.2 n.3 (inl same))))
            (ready-behind (slice_set w.blocks i d) c (Some i) inside mine (is_drop h) refl on))
            none.visits
            (held-walks h g (slice_set w.blocks i d))
            (subst (λ (z : Bool). rest ≡ drop (if z then p.next else p.next + 1) st.program) (sym busy) (first a asks).1)
            (subst (λ (z : Bool). (if z then p.next else p.next + 1) ≤ length st.program) (sym busy) (let lt = (first a asks).2 in let e : p.next + 1 ≤ length st.program = omega arith in e))
            (holds-entered w.places w.locks sound.holds s.thread p p' at refl out locks' (start_phase a g) refl (enters a g asks e))
            (growing.owns-grown x laws w s sound p at h (asked a asks) c i inside session b d n.2 n.3 (inl same) p' refl (ap may_own before)))

    -- where there is a guard there is a block
    counted-by : (own : Guard K) → g ≡ Some own → (blocks : List (Block K)) (o : Option ℕ) → p.block ≡ o → CountsCall w.blocks o p.next blocks → Begun (ask.Held h) g blocks
    counted-by own is blocks None free_ n = let u = block-of own (e ∙ is) in absurd (none-some u.1 (sym free_ ∙ u.3))
    counted-by own is blocks (Some i) mine n = counted i mine blocks n

  -- where no guard is held
  unguarded : (h : Held V D) (asks : p.asks ≡ ask.Held h ∷ rest) → p.guard ≡ None
      → (blocks : List (Block K)) → (o : Option ℕ) → p.block ≡ o → CountsCall w.blocks o p.next blocks → Begun (ask.Held h) None blocks
  unguarded h asks none blocks o mine n = by-block o mine n
    where
      told-none : (at : At K V) → GuardIs w.tables p None at → (held_answer {A = A} x.deeds h at ≡ answer.NoGuard) × (pair_in (held_leaves x.deeds h at) ≡ pair_in at) × GuardIs w.tables p None (held_leaves x.deeds h at)
      told-none at is = (
        ap (held_answer {A = A} x.deeds h) is.1,
        ap (λ z. pair_in (held_leaves x.deeds h z)) is.1 ∙ sym (ap pair_in is.1),
        (is.0, ap (held_leaves x.deeds h) is.1),
      )

      claim-none : (bs : List (Block K)) → IsAnsweredInSession {A = A} x bs s.thread p.next (session_of x s.thread p.next) answer.NoGuard
          → IsReady x bs w.tables s.thread (begun (ask.Held h) None) (p.next + 1) (block_after (begun (ask.Held h) None))
          → Claim x (threads_of w ++ s.thread ∷ []) bs w.tables s.thread (begun (ask.Held h) None) (start_phase (ask.Held h) None)
      claim-none bs told ready = (ask.Held h, in_call (ask.Held h) asks None, (λ z. resting.1 none), told, ready)

      by-block : (o : Option ℕ) → p.block ≡ o → CountsCall w.blocks o p.next blocks → Begun (ask.Held h) None blocks
      by-block None free_ n = same-blocks (ask.Held h) None blocks n (uncounted h asks None none answer.NoGuard refl told-none (λ z. refl) claim-none free_ refl refl)
      by-block (Some i) mine n = counted h asks None none answer.NoGuard refl told-none (λ z. refl) claim-none i mine blocks n

  -- a call that the guard isn't for
  module _ (h : Held V D) (asks : p.asks ≡ ask.Held h ∷ rest) (own : Guard K) (e : p.guard ≡ Some own)
      (phase-is : held_phase {V = V} {D = D} {T = T} {A = A} (Some own) h ≡ phase.Answer answer.WrongGuard) (keeps : held_guard (Some own) h ≡ Some own) (lasts : is_drop h ≡ false)
      (wrong : (at : At K V) → GuardIs w.tables p (Some own) at → (held_answer {A = A} x.deeds h at ≡ answer.WrongGuard) × (held_leaves x.deeds h at ≡ at)) where
    wrong-guard : (blocks : List (Block K)) → (o : Option ℕ) → p.block ≡ o → CountsCall w.blocks o p.next blocks → Begun (ask.Held h) (Some own) blocks
    wrong-guard blocks o mine n =
        counted-by h asks (Some own) e answer.WrongGuard (ap is_resting phase-is)
        (λ at is. let no = wrong at is in (
          no.0,
          ap pair_in no.1,
          subst (λ (z : Option (Guard K)). GuardIs w.tables p z (held_leaves x.deeds h at)) (sym keeps) (subst (λ (z : At K V). GuardIs w.tables p (Some own) z) (sym no.1) is),
        ))
        (λ z. absurd (false≢true (sym lasts ∙ z)))
        (λ bs told ready. subst (λ f. Claim x (threads_of w ++ s.thread ∷ []) bs w.tables s.thread (begun (ask.Held h) (Some own)) f) (sym phase-is)
        (ask.Held h, in_call (ask.Held h) asks (Some own), (λ z. absurd (none-some own (sym z ∙ keeps))), told, ready))
        own refl blocks o mine n

  wrong-pair : (h : Held V D) (asks : p.asks ≡ ask.Held h ∷ rest) (kind : Way K) → p.guard ≡ Some (guard.Pair kind)
      → held_phase {V = V} {D = D} {T = T} {A = A} (Some (guard.Pair kind)) h ≡ phase.Answer answer.WrongGuard → held_guard (Some (guard.Pair kind)) h ≡ Some (guard.Pair kind) → is_drop h ≡ false
      → ((pair : K × V) → (held_answer {A = A} x.deeds h (lent kind pair) ≡ answer.WrongGuard) × (held_leaves x.deeds h (lent kind pair) ≡ lent kind pair))
      → (blocks : List (Block K)) → (o : Option ℕ) → p.block ≡ o → CountsCall w.blocks o p.next blocks → Begun (ask.Held h) (Some (guard.Pair kind)) blocks
  wrong-pair h asks kind e phase-is keeps lasts wrong =
      wrong-guard h asks (guard.Pair kind) e phase-is keeps lasts
      (λ at is. (ap (held_answer {A = A} x.deeds h) is.1 ∙ (wrong is.0).0, ap (held_leaves x.deeds h) is.1 ∙ ((wrong is.0).1 ∙ sym is.1)))

  wrong-vacant : (h : Held V D) (asks : p.asks ≡ ask.Held h ∷ rest) (k : K) → p.guard ≡ Some (guard.Vacant k)
      → held_phase {V = V} {D = D} {T = T} {A = A} (Some (guard.Vacant k)) h ≡ phase.Answer answer.WrongGuard → held_guard (Some (guard.Vacant k)) h ≡ Some (guard.Vacant k) → is_drop h ≡ false
      → (held_answer {A = A} x.deeds h (vacant k) ≡ answer.WrongGuard) × (held_leaves x.deeds h (vacant k) ≡ vacant k)
      → (blocks : List (Block K)) → (o : Option ℕ) → p.block ≡ o → CountsCall w.blocks o p.next blocks → Begun (ask.Held h) (Some (guard.Vacant k)) blocks
  wrong-vacant h asks k e phase-is keeps lasts wrong =
      wrong-guard h asks (guard.Vacant k) e phase-is keeps lasts
      (λ at is. (ap (held_answer {A = A} x.deeds h) is.0 ∙ wrong.0, ap (held_leaves x.deeds h) is.0 ∙ (wrong.1 ∙ sym is.0)))

  -- an occupied guard becomes exclusive, and an entry's guard gives back its key
  into-ref : (asks : p.asks ≡ ask.Held held.IntoRef ∷ rest) (k : K) → p.guard ≡ Some (guard.Pair (way.Occupied k))
      → (blocks : List (Block K)) → CountsCall w.blocks p.block p.next blocks → Begun (ask.Held held.IntoRef) (Some (guard.Pair (way.Occupied k))) blocks
  into-ref asks k e blocks n =
      let own : Guard K = guard.Pair (way.Occupied k) in
      counted-by held.IntoRef asks (Some own) e answer.Held refl
      (λ at is. (ap (held_answer {A = A} x.deeds held.IntoRef) is.1, ap (λ z. pair_in (held_leaves x.deeds held.IntoRef z)) is.1 ∙ sym (ap pair_in is.1), (is.0, ap (held_leaves x.deeds held.IntoRef) is.1, is.2)))
      (λ z. absurd cc)
      (λ bs told ready. (ask.Held held.IntoRef, in_call (ask.Held held.IntoRef) asks (Some own), (λ z. absurd (none-some (guard.Pair way.Exclusive) (sym z))), told, ready))
      own refl blocks p.block refl n

  key-occupied : (asks : p.asks ≡ ask.Held held.IntoKey ∷ rest) (k : K) → p.guard ≡ Some (guard.Pair (way.Occupied k))
      → (blocks : List (Block K)) → CountsCall w.blocks p.block p.next blocks → Begun (ask.Held held.IntoKey) (Some (guard.Pair (way.Occupied k))) blocks
  key-occupied asks k e blocks n =
      let own : Guard K = guard.Pair (way.Occupied k) in
      let holds = (guard-of own e).1.2 in
      counted-by held.IntoKey asks (Some own) e (answer.Key k) refl
      (λ at is. (ap (held_answer x.deeds held.IntoKey) is.1, ap (λ z. pair_in (held_leaves x.deeds held.IntoKey z)) is.1 ∙ sym (ap pair_in is.1), (Some is.0, ap (held_leaves x.deeds held.IntoKey) is.1)))
      (λ z. refl)
      (λ bs told ready. (ask.Held held.IntoKey, holds.hold, in_call (ask.Held held.IntoKey) asks (Some own), holds.has, (told, ready)))
      own refl blocks p.block refl n

  key-vacant : (asks : p.asks ≡ ask.Held held.IntoKey ∷ rest) (k : K) → p.guard ≡ Some (guard.Vacant k)
      → (blocks : List (Block K)) → CountsCall w.blocks p.block p.next blocks → Begun (ask.Held held.IntoKey) (Some (guard.Vacant k)) blocks
  key-vacant asks k e blocks n =
      let own : Guard K = guard.Vacant k in
      let holds = (guard-of own e).1.1 in
      counted-by held.IntoKey asks (Some own) e (answer.Key k) refl
      (λ at is. (ap (held_answer x.deeds held.IntoKey) is.0, ap (λ z. pair_in (held_leaves x.deeds held.IntoKey z)) is.0 ∙ sym (ap pair_in is.0), (None, ap (held_leaves x.deeds held.IntoKey) is.0)))
      (λ z. refl)
      (λ bs told ready. (ask.Held held.IntoKey, holds.hold, in_call (ask.Held held.IntoKey) asks (Some own), holds.has, (told, ready)))
      own refl blocks p.block refl n

  -- a call that goes on to its deed keeps its guard
  ready-still : (a : Ask K V D) (g : Option (Guard K)) → p.guard ≡ g → start_guard a g ≡ g → (begun a g).shard ≡ p.shard
      → IsReady x w.blocks w.tables s.thread (begun a g) p.next p.block
  ready-still a g e keeps shard = ready-moved x p (begun a g) w.blocks w.tables s.thread p.next p.block refl shard (keeps ∙ sym e) resting.2

  to-read : (d : D) (asks : p.asks ≡ ask.Held (held.Read d) ∷ rest) (kind : Way K) → p.guard ≡ Some (guard.Pair kind)
      → start_phase {K = K} {V = V} {T = T} {A = A} (ask.Held (held.Read d)) (Some (guard.Pair kind)) ≡ phase.Read d
      → start_guard {V = V} (ask.Held (held.Read d)) (Some (guard.Pair kind)) ≡ Some (guard.Pair kind)
      → Begun (ask.Held (held.Read d)) (Some (guard.Pair kind)) w.blocks
  to-read d asks kind e phase-is keeps =
      let a : Ask K V D = ask.Held (held.Read d) in
      let g = Some (guard.Pair kind) in
      sound-begun a asks g e (ap is_resting phase-is)
      (subst (λ f. Claim x (threads_of w ++ s.thread ∷ []) w.blocks w.tables s.thread (begun a g) f) (sym phase-is)
      (kind, in_call a asks g, keeps, ready-still a g e keeps refl))
      (held-walks (held.Read d) g w.blocks)

  to-change : (h : Held V D) (asks : p.asks ≡ ask.Held h ∷ rest) (kind : Way K) → p.guard ≡ Some (guard.Pair kind) → way_mode kind ≡ Exclusive → is_change h kind ≡ true
      → start_phase {K = K} {V = V} {T = T} {A = A} (ask.Held h) (Some (guard.Pair kind)) ≡ phase.Change h
      → start_guard (ask.Held h) (Some (guard.Pair kind)) ≡ Some (guard.Pair kind)
      → Begun (ask.Held h) (Some (guard.Pair kind)) w.blocks
  to-change h asks kind e alone changes phase-is keeps =
      let a : Ask K V D = ask.Held h in
      let g = Some (guard.Pair kind) in
      let holds : HoldsShard p Exclusive = subst (λ m. HoldsShard p m) alone (guard-of (guard.Pair kind) e).1.2 in
      sound-begun a asks g e (ap is_resting phase-is)
      (subst (λ f. Claim x (threads_of w ++ s.thread ∷ []) w.blocks w.tables s.thread (begun a g) f) (sym phase-is)
      (kind, in_call a asks g, keeps, changes, holds-moved x p (begun a g) Exclusive refl refl holds, ready-still a g e keeps refl))
      (held-walks h g w.blocks)

  guard-hold : (g : Guard K) → p.guard ≡ Some g → (m : _) × HoldsShard p m
  guard-hold (guard.Pair kind) e = (way_mode kind, (guard-of (guard.Pair kind) e).1.2)
  guard-hold (guard.Vacant k) e = (Exclusive, (guard-of (guard.Vacant k) e).1.1)

  to-drop : (asks : p.asks ≡ ask.Held held.Drop ∷ rest) (own : Guard K) → p.guard ≡ Some own
      → start_phase {K = K} {V = V} {D = D} {T = T} {A = A} (ask.Held held.Drop) (Some own) ≡ phase.Release answer.Done
      → start_guard {V = V} {D = D} (ask.Held held.Drop) (Some own) ≡ Some own
      → Begun (ask.Held held.Drop) (Some own) w.blocks
  to-drop asks own e phase-is keeps =
      let a : Ask K V D = ask.Held held.Drop in
      let p' = begun a (Some own) in
      let h = guard-hold own e in
      sound-begun a asks (Some own) e (ap is_resting phase-is)
      (subst (λ f. Claim x (threads_of w ++ s.thread ∷ []) w.blocks w.tables s.thread p' f) (sym phase-is) (
        a,
        h.1.hold,
        in_call a asks (Some own),
        h.1.has,
        subst (IsReleasing x w.blocks w.tables s.thread p' a answer.Done) (sym keeps) (refl, refl, ready-still a (Some own) e keeps refl),
      ))
      (held-walks held.Drop (Some own) w.blocks)

  -- a walk begins before its first shard, or before its answer where it is to give no item
  abbrev walk-phase : Walk D → Bool → Phase K V D T A
  walk-phase f stops = if stops then phase.Idle f else phase.Reach f

  module _ (f : Walk D) (asks : p.asks ≡ ask.Walk f ∷ rest) (g : Option (Guard K)) (e : p.guard ≡ g) where
    abbrev walker : Place K V D T A
    walker = begun (ask.Walk f) g

    outside : IsOutside walker × (p.holds ≡ [])
    outside =
        let apart = walk-apart x w s.thread sound p st f (asked (ask.Walk f) asks) in
        let nothing = outside-free x w.blocks w.tables s.thread p p.next p.block apart.0 resting.2 in
        ((nothing.1, sym e ∙ nothing.0), resting.1 nothing.0)

    walk-claim : (stops : Bool) → Claim x (threads_of w ++ s.thread ∷ []) w.blocks w.tables s.thread walker (walk-phase f stops)
    walk-claim true = (in_call (ask.Walk f) asks g, outside.0, outside.1)
    walk-claim false = (in_call (ask.Walk f) asks g, outside.0, subst (λ (n : ℕ). KeepsOver walker (walk_mode f) n) (sym (first-alone f)) outside.1)

    abbrev no-visit : HasVisited x w.blocks s.thread walker f
    no-visit = record {
      visits = [];
      named = sym none.visits;
      visited = none-visited x w.blocks s.thread p.next f (none-yet x w s.thread sound p at (ap may_own before));
      reads = none.reads;
      count = none-counted x f p.count none.count;
    }

    walk-walks : (stops : Bool) → stops_at (stop_of f) 0 ≡ stops → Walks x w.blocks w.tables s.thread walker (walk-phase f stops)
    walk-walks true is = (begun-none (ask.Walk f) g, stops-none (stop_of f) is)
    walk-walks false is = record {
      so_far = no-visit;
      number = refl;
      whole = λ n v here. absurd (none-some v here);
      left = sound.some;
      goes_on = stops-below (stop_of f) 0 is;
    }

    walk-busy : (stops : Bool) → is_resting (walk-phase f stops) ≡ false
    walk-busy true = refl
    walk-busy false = refl

    walk-uncounted : (stops : Bool) (blocks : List (Block K)) → CountsCall w.blocks (start_counts (walk-phase f stops) p.block) p.next blocks → blocks ≡ w.blocks
    walk-uncounted true blocks n = n
    walk-uncounted false blocks n = n

    begun-walk : (stops : Bool) → stops_at (stop_of f) 0 ≡ stops → (blocks : List (Block K)) → CountsCall w.blocks (start_counts (walk-phase f (stops_at (stop_of f) 0)) p.block) p.next blocks → Begun (ask.Walk f) g blocks
    begun-walk stops is blocks n =
        same-blocks (ask.Walk f) g blocks
        (walk-uncounted stops blocks (subst (λ (z : Bool). CountsCall w.blocks (start_counts (walk-phase f z) p.block) p.next blocks) is n))
        (sound-begun (ask.Walk f) asks g e
        (subst (λ (z : Bool). is_resting (walk-phase f z) ≡ false) (sym is) (walk-busy stops))
        (subst (λ (z : Bool). Claim x (threads_of w ++ s.thread ∷ []) w.blocks w.tables s.thread walker (walk-phase f z)) (sym is) (walk-claim stops))
        (subst (λ (z : Bool). Walks x w.blocks w.tables s.thread walker (walk-phase f z)) (sym is) (walk-walks stops is)))

  begun-by : (a : Ask K V D) → p.asks ≡ a ∷ rest → (g : Option (Guard K)) → p.guard ≡ g → (blocks : List (Block K)) → CountsCall w.blocks (start_counts (start_phase {T = T} {A = A} a g) p.block) p.next blocks → Begun a g blocks
  begun-by (ask.Keyed k) asks g e blocks n =
      let a : Ask K V D = ask.Keyed k in
      let outside = keyed-apart x w s.thread sound p st k (asked a asks) in
      let nothing = outside-free x w.blocks w.tables s.thread p p.next p.block outside.0 resting.2 in
      same-blocks a g blocks n (sound-begun a asks g e refl
      (in_call a asks g, record { block = nothing.1; guard = sym e ∙ nothing.0; shard = shard-keyed D x.route k p.shard }, resting.1 nothing.0) (begun-none a g))
  begun-by (ask.Begin b) asks g e blocks n =
      let a : Ask K V D = ask.Begin b in
      let outside = begin-apart x w s.thread sound p st b (asked a asks) in
      let nothing = outside-free x w.blocks w.tables s.thread p p.next p.block outside.0 resting.2 in
      same-blocks a g blocks n (sound-begun a asks g e refl
      (in_call a asks g, record { block = nothing.1; guard = sym e ∙ nothing.0; shard = shard-begin V D x.route b p.shard }, resting.1 nothing.0) (begun-none a g))
  begun-by (ask.Walk f) asks g e blocks n = begun-walk f asks g e (stops_at (stop_of f) 0) refl blocks n
  begun-by (ask.Held h) asks None e blocks n = unguarded h asks e blocks p.block refl n
  begun-by (ask.Held (held.Read d)) asks (Some (guard.Pair way.Shared)) e blocks n = same-blocks (ask.Held (held.Read d)) (Some (guard.Pair way.Shared)) blocks n (to-read d asks way.Shared e refl refl)
  begun-by (ask.Held (held.Read d)) asks (Some (guard.Pair way.Exclusive)) e blocks n = same-blocks (ask.Held (held.Read d)) (Some (guard.Pair way.Exclusive)) blocks n (to-read d asks way.Exclusive e refl refl)
  begun-by (ask.Held (held.Read d)) asks (Some (guard.Pair (way.Occupied k))) e blocks n = same-blocks (ask.Held (held.Read d)) (Some (guard.Pair (way.Occupied k))) blocks n (to-read d asks (way.Occupied k) e refl refl)
  begun-by (ask.Held (held.Read d)) asks (Some (guard.Vacant k)) e blocks n = wrong-vacant (held.Read d) asks k e refl refl refl (refl, refl) blocks p.block refl n
  begun-by (ask.Held (held.Write d)) asks (Some (guard.Pair way.Shared)) e blocks n = wrong-pair (held.Write d) asks way.Shared e refl refl refl (λ pair. (refl, refl)) blocks p.block refl n
  begun-by (ask.Held (held.Write d)) asks (Some (guard.Pair way.Exclusive)) e blocks n = same-blocks (ask.Held (held.Write d)) (Some (guard.Pair way.Exclusive)) blocks n (to-change (held.Write d) asks way.Exclusive e refl refl refl refl)
  begun-by (ask.Held (held.Write d)) asks (Some (guard.Pair (way.Occupied k))) e blocks n =
      same-blocks (ask.Held (held.Write d)) (Some (guard.Pair (way.Occupied k))) blocks n
      (to-change (held.Write d) asks (way.Occupied k) e refl refl refl refl)
  begun-by (ask.Held (held.Write d)) asks (Some (guard.Vacant k)) e blocks n = wrong-vacant (held.Write d) asks k e refl refl refl (refl, refl) blocks p.block refl n
  begun-by (ask.Held held.Downgrade) asks (Some (guard.Pair way.Shared)) e blocks n = wrong-pair held.Downgrade asks way.Shared e refl refl refl (λ pair. (refl, refl)) blocks p.block refl n
  begun-by (ask.Held held.Downgrade) asks (Some (guard.Pair way.Exclusive)) e blocks n =
      let a : Ask K V D = ask.Held held.Downgrade in
      let g = Some (guard.Pair way.Exclusive) in
      same-blocks a g blocks n (sound-begun a asks g e refl
      (in_call a asks g, refl, holds-moved x p (begun a g) Exclusive refl refl (guard-of (guard.Pair way.Exclusive) e).1.2, ready-still a g e refl refl) (held-walks held.Downgrade g w.blocks))
  begun-by (ask.Held held.Downgrade) asks (Some (guard.Pair (way.Occupied k))) e blocks n = wrong-pair held.Downgrade asks (way.Occupied k) e refl refl refl (λ pair. (refl, refl)) blocks p.block refl n
  begun-by (ask.Held held.Downgrade) asks (Some (guard.Vacant k)) e blocks n = wrong-vacant held.Downgrade asks k e refl refl refl (refl, refl) blocks p.block refl n
  begun-by (ask.Held (held.Insert v)) asks (Some (guard.Pair way.Shared)) e blocks n = wrong-pair (held.Insert v) asks way.Shared e refl refl refl (λ pair. (refl, refl)) blocks p.block refl n
  begun-by (ask.Held (held.Insert v)) asks (Some (guard.Pair way.Exclusive)) e blocks n = wrong-pair (held.Insert v) asks way.Exclusive e refl refl refl (λ pair. (refl, refl)) blocks p.block refl n
  begun-by (ask.Held (held.Insert v)) asks (Some (guard.Pair (way.Occupied k))) e blocks n =
      same-blocks (ask.Held (held.Insert v)) (Some (guard.Pair (way.Occupied k))) blocks n
      (to-change (held.Insert v) asks (way.Occupied k) e refl refl refl refl)
  begun-by (ask.Held (held.Insert v)) asks (Some (guard.Vacant k)) e blocks n =
      let a : Ask K V D = ask.Held (held.Insert v) in
      let g = Some (guard.Vacant k) in
      same-blocks a g blocks n (sound-begun a asks g e refl
      (k, in_call a asks g, refl, holds-moved x p (begun a g) Exclusive refl refl (guard-of (guard.Vacant k) e).1.1, ready-still a g e refl refl) (held-walks (held.Insert v) g w.blocks))
  begun-by (ask.Held held.IntoRef) asks (Some (guard.Pair way.Shared)) e blocks n = wrong-pair held.IntoRef asks way.Shared e refl refl refl (λ pair. (refl, refl)) blocks p.block refl n
  begun-by (ask.Held held.IntoRef) asks (Some (guard.Pair way.Exclusive)) e blocks n = wrong-pair held.IntoRef asks way.Exclusive e refl refl refl (λ pair. (refl, refl)) blocks p.block refl n
  begun-by (ask.Held held.IntoRef) asks (Some (guard.Pair (way.Occupied k))) e blocks n = into-ref asks k e blocks n
  begun-by (ask.Held held.IntoRef) asks (Some (guard.Vacant k)) e blocks n = wrong-vacant held.IntoRef asks k e refl refl refl (refl, refl) blocks p.block refl n
  begun-by (ask.Held held.Remove) asks (Some (guard.Pair way.Shared)) e blocks n = wrong-pair held.Remove asks way.Shared e refl refl refl (λ pair. (refl, refl)) blocks p.block refl n
  begun-by (ask.Held held.Remove) asks (Some (guard.Pair way.Exclusive)) e blocks n = wrong-pair held.Remove asks way.Exclusive e refl refl refl (λ pair. (refl, refl)) blocks p.block refl n
  begun-by (ask.Held held.Remove) asks (Some (guard.Pair (way.Occupied k))) e blocks n = same-blocks (ask.Held held.Remove) (Some (guard.Pair (way.Occupied k))) blocks n (to-change held.Remove asks (way.Occupied k) e refl refl refl refl)
  begun-by (ask.Held held.Remove) asks (Some (guard.Vacant k)) e blocks n = wrong-vacant held.Remove asks k e refl refl refl (refl, refl) blocks p.block refl n
  begun-by (ask.Held held.RemoveEntry) asks (Some (guard.Pair way.Shared)) e blocks n = wrong-pair held.RemoveEntry asks way.Shared e refl refl refl (λ pair. (refl, refl)) blocks p.block refl n
  begun-by (ask.Held held.RemoveEntry) asks (Some (guard.Pair way.Exclusive)) e blocks n = wrong-pair held.RemoveEntry asks way.Exclusive e refl refl refl (λ pair. (refl, refl)) blocks p.block refl n
  begun-by (ask.Held held.RemoveEntry) asks (Some (guard.Pair (way.Occupied k))) e blocks n =
      same-blocks (ask.Held held.RemoveEntry) (Some (guard.Pair (way.Occupied k))) blocks n
      (to-change held.RemoveEntry asks (way.Occupied k) e refl refl refl refl)
  begun-by (ask.Held held.RemoveEntry) asks (Some (guard.Vacant k)) e blocks n = wrong-vacant held.RemoveEntry asks k e refl refl refl (refl, refl) blocks p.block refl n
  begun-by (ask.Held (held.ReplaceEntry v)) asks (Some (guard.Pair way.Shared)) e blocks n = wrong-pair (held.ReplaceEntry v) asks way.Shared e refl refl refl (λ pair. (refl, refl)) blocks p.block refl n
  begun-by (ask.Held (held.ReplaceEntry v)) asks (Some (guard.Pair way.Exclusive)) e blocks n = wrong-pair (held.ReplaceEntry v) asks way.Exclusive e refl refl refl (λ pair. (refl, refl)) blocks p.block refl n
  begun-by (ask.Held (held.ReplaceEntry v)) asks (Some (guard.Pair (way.Occupied k))) e blocks n =
      same-blocks (ask.Held (held.ReplaceEntry v)) (Some (guard.Pair (way.Occupied k))) blocks n
      (to-change (held.ReplaceEntry v) asks (way.Occupied k) e refl refl refl refl)
  begun-by (ask.Held (held.ReplaceEntry v)) asks (Some (guard.Vacant k)) e blocks n = wrong-vacant (held.ReplaceEntry v) asks k e refl refl refl (refl, refl) blocks p.block refl n
  begun-by (ask.Held held.IntoKey) asks (Some (guard.Pair way.Shared)) e blocks n = wrong-pair held.IntoKey asks way.Shared e refl refl refl (λ pair. (refl, refl)) blocks p.block refl n
  begun-by (ask.Held held.IntoKey) asks (Some (guard.Pair way.Exclusive)) e blocks n = wrong-pair held.IntoKey asks way.Exclusive e refl refl refl (λ pair. (refl, refl)) blocks p.block refl n
  begun-by (ask.Held held.IntoKey) asks (Some (guard.Pair (way.Occupied k))) e blocks n = key-occupied asks k e blocks n
  begun-by (ask.Held held.IntoKey) asks (Some (guard.Vacant k)) e blocks n = key-vacant asks k e blocks n
  begun-by (ask.Held held.Drop) asks (Some (guard.Pair way.Shared)) e blocks n = same-blocks (ask.Held held.Drop) (Some (guard.Pair way.Shared)) blocks n (to-drop asks (guard.Pair way.Shared) e refl refl)
  begun-by (ask.Held held.Drop) asks (Some (guard.Pair way.Exclusive)) e blocks n = same-blocks (ask.Held held.Drop) (Some (guard.Pair way.Exclusive)) blocks n (to-drop asks (guard.Pair way.Exclusive) e refl refl)
  begun-by (ask.Held held.Drop) asks (Some (guard.Pair (way.Occupied k))) e blocks n = same-blocks (ask.Held held.Drop) (Some (guard.Pair (way.Occupied k))) blocks n (to-drop asks (guard.Pair (way.Occupied k)) e refl refl)
  begun-by (ask.Held held.Drop) asks (Some (guard.Vacant k)) e blocks n = same-blocks (ask.Held held.Drop) (Some (guard.Vacant k)) blocks n (to-drop asks (guard.Vacant k) e refl refl)

pub sound-starts : {K V S D T A : Type 0} (x : Setup K V D T) → Laws x → (w : State K V S D T A) (s : Step) (w' : State K V S D T A) → Sound x w → Starts x w s w' → Goes x s.thread w w'
sound-starts {K} {V} {S} {D} {T} {A} x laws w s w' sound a =
    subst (Goes x s.thread w) (sym a.after) (begun-by x laws w s sound a.place a.stands a.before a.rest a.locks (λ ask g asks e.
    let same : ask ≡ a.ask = cc (asks, a.asked) in
    subst (λ (z : Option (Guard K)). EntersBy {T = T} {A = A} s.thread (start_shard x.route ask a.place.shard) (start_phase ask z) w.locks a.locks) e
    (subst (λ (z : Ask K V D). EntersBy {T = T} {A = A} s.thread (start_shard x.route z a.place.shard) (start_phase z a.place.guard) w.locks a.locks) (sym same) a.enters))
    a.ask a.asked a.place.guard refl a.blocks a.counted)
