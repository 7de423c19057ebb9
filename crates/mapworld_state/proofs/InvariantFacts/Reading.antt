-- Steps of a session: a deed that reads the guarded pair, and the release of the guard or of a keyed call's hold.
use Rattle.std.proofs.Common.{◌≡◌, ℕ, ◌+◌, ◌-◌, inl, inr, Bool, if◌then◌else◌, List, [], Option, Some, None, is_some}
use Rattle.std.proofs.Common.{slice_set, refl, ap, sym, ◌∙◌, subst, arith}
use Rattle.mapworld_state.specs.Shards.{ShardPairs}
use Rattle.std.proofs.lemmas.Option.{same_Some, none-some}
use Rattle.mapworld_calls.specs.declared.ask.Ask.{Ask}
use Rattle.mapworld_calls.specs.declared.ask.Ask.TheVariants as ask
use Rattle.mapworld_calls.specs.declared.ask.Held.TheVariants as held
use Rattle.mapworld_calls.specs.declared.block.Block.{Block}
use Rattle.mapworld_calls.specs.declared.reply.Answer.{Answer}
use Rattle.mapworld_calls.specs.declared.reply.Answer.TheVariants as answer
use Rattle.mapworld_calls.specs.Deeds.{Deeds}
use Rattle.mapworld_calls.specs.Calls.{At, told, held_answer, held_leaves}
use Rattle.mapworld_calls.specs.Setup.{Setup, Laws, session_of}
use Rattle.mapworld_calls.specs.Replay.{reached, found}
use Rattle.mapworld_calls.specs.Agrees.{IsToldBy, IsAnsweredInSession}
use Rattle.mapworld_calls.proofs.Lists.{slice_get-set_cases}
use Rattle.mapworld_state.specs.Holds.{gives_up}
use Rattle.mapworld_state.specs.declared.step.Step.{Step}
use Rattle.mapworld_state.specs.declared.place.Way.{Way}
use Rattle.mapworld_state.specs.declared.place.Way.TheVariants as way
use Rattle.mapworld_state.specs.declared.place.Guard.{Guard}
use Rattle.mapworld_state.specs.declared.place.Guard.TheVariants as guard
use Rattle.mapworld_state.specs.declared.place.Phase.TheVariants as phase
use Rattle.mapworld_state.specs.Places.{Place}
use Rattle.mapworld_state.specs.State.{State, threads_of, started_of}
use Rattle.mapworld_state.specs.Moves.{way_mode, lent, stepped, CountsCall}
use Rattle.mapworld_state.specs.Steps.{Reads, Releases}
use Rattle.mapworld_state.specs.Sound.{may_own, block_after, GuardIs, IsInSession, IsInCall, IsReleasing, Sound}
use Rattle.mapworld_state.proofs.HoldsTable.{none-there, first-there}
use Rattle.mapworld_state.proofs.InvariantFacts.Others.{IsInCall-push}
use Rattle.mapworld_state.proofs.InvariantFacts.Timing.{placed-same}
use Rattle.mapworld_state.proofs.InvariantFacts.Holding.{no-more, holds-same, holds-given, owes-none, stand-at}
use Rattle.mapworld_state.proofs.InvariantFacts.Building.{Goes, in_call-moved, holds-moved, settled-moved, session-next}
use Rattle.mapworld_state.proofs.InvariantFacts.Building.{tables-same, started-stays, sound-by, claim-at, taken-at}
use Rattle.mapworld_state.proofs.InvariantFacts.Building.{within-at, walks-at, none-at, visits-moved, visits-none}
use Rattle.mapworld_state.proofs.InvariantFacts.Building.{ready-outside}
use Rattle.mapworld_state.proofs.InvariantFacts.Admitting.{leaves-same, owns-on}
use Rattle.mapworld_state.proofs.InvariantFacts.NewBlocks.{ready-inside}
use Rattle.mapworld_state.proofs.InvariantFacts.Acting.{counted-block}
use Rattle.mapworld_state.proofs.InvariantFacts.Growing.{read-quiet, drop-quiet}
use Rattle.mapworld_state.proofs.InvariantFacts.Growing as growing

-- the answer of a call in the session of that opening
pub in-session : {K V D T A : Type 0} (x : Setup K V D T) (bs : List (Block K)) (t n c : ℕ) (a : Answer K V T A)
    → session_of x t n ≡ Some c → IsToldBy x bs t c (n - c) a
    → IsAnsweredInSession x bs t n (session_of x t n) a
in-session x bs t n c a inside told = subst (λ (o : Option ℕ). IsAnsweredInSession x bs t n o a) (sym inside) (inl told)

-- what a guard of any kind allows
module _ {D K V T : Type 0} (deeds : Deeds D K V T) (pair : K × V) where
  read-told : {A : Type 0} (d : D) (k : Way K) → held_answer {A = A} deeds (held.Read d) (lent k pair) ≡ answer.Read
      (deeds.answer d pair.0 pair.1)
  read-told d way.Shared = refl
  read-told d way.Exclusive = refl
  read-told d (way.Occupied k) = refl

  read-stays : (d : D) (k : Way K) → held_leaves deeds (held.Read d) (lent k pair) ≡ lent k pair
  read-stays d way.Shared = refl
  read-stays d way.Exclusive = refl
  read-stays d (way.Occupied k) = refl

  drop-lent : {A : Type 0} (k : Way K) → held_answer {A = A} deeds held.Drop (lent k pair) ≡ answer.Done
  drop-lent way.Shared = refl
  drop-lent way.Exclusive = refl
  drop-lent (way.Occupied k) = refl

drop-told : {K V D T A : Type 0} (deeds : Deeds D K V T) (tables : List (ShardPairs K V)) (p : Place K V D T A)
    (g : Guard K) (at : At K V) → GuardIs tables p (Some g) at → held_answer {A = A} deeds held.Drop at ≡ answer.Done
drop-told deeds tables p (guard.Pair kind) at h = ap (held_answer deeds held.Drop) h.1 ∙ drop-lent deeds h.0 kind
drop-told deeds tables p (guard.Vacant k) at h = ap (held_answer deeds held.Drop) h.0

module _ {K V S D T A : Type 0} (x : Setup K V D T) (laws : Laws x) (w : State K V S D T A) (s : Step)
    (w' : State K V S D T A) (sound : Sound x w) where
  pub sound-reads : Reads x w s w' → Goes x s.thread w w'
  sound-reads a =
      let p = a.place in
      let st = sound.stands s.thread p a.stands in
      let cl = claim-at x (threads_of w) w.blocks w.replies w.tables s.thread p (phase.Read a.deed) a.before st in
      let none = none-at x (threads_of w) w.blocks w.replies w.tables s.thread p (phase.Read a.deed) a.before st refl in
      let call = cl.1 in
      let g = growing.session-of-guard x w.blocks w.tables s.thread p p.next (guard.Pair cl.0)
      (session_of x s.thread p.next) p.block cl.2 cl.3 in
      let c = g.0 in let i = g.1 in let inside = g.2 in let session = g.4 in
      let n = counted-block w.blocks p.block i p.next a.blocks g.3 a.counted in
      let b = n.0 in let d = n.1 in
      let same = read-quiet x.deeds a.deed (reached x s.thread c (p.next - c) (found x w.blocks i b)) in
      let still = inl same in
      let lends = growing.lends-pair x laws w s sound p a.stands (held.Read a.deed) call.asked c i inside session b d
      n.2 n.3 still a.kind a.guarded g.3 a.key a.key_is a.table a.held a.pair a.found in
      let r : Answer K V T A = answer.Read (x.deeds.answer a.deed a.pair.0 a.pair.1) in
      let p' : Place K V D T A = record p { phase = phase.Answer r } in
      let told : held_answer x.deeds (held.Read a.deed) (reached x s.thread c (p.next - c) (found x w.blocks i b)) ≡ r =
      ap (held_answer x.deeds (held.Read a.deed)) lends.0 ∙ read-told x.deeds a.pair a.deed a.kind in
      let leaves : held_leaves x.deeds (held.Read a.deed) (reached x s.thread c (p.next - c) (found x w.blocks i b))
      ≡ lent a.kind a.pair = ap (held_leaves x.deeds (held.Read a.deed)) lends.0
      ∙ read-stays x.deeds a.pair a.deed a.kind in
      let on = growing.session-on x laws w s sound p a.stands (held.Read a.deed) call.asked c i inside session b d n.2
      n.3 still w.tables p' refl refl
      (subst (λ (o : Option (Guard K)). GuardIs w.tables p' o
      (held_leaves x.deeds (held.Read a.deed) (reached x s.thread c (p.next - c) (found x w.blocks i b))))
      (sym a.guarded)
      (a.pair, leaves, holds-moved x p p' (way_mode a.kind) refl refl lends.1))
      (growing.there-still x laws w s sound p a.stands (held.Read a.deed) call.asked c i inside session b d n.2 n.3
      still same p' refl (λ own e. (own, e))) in
      let behind : session_of x s.thread (p.next + 1) ≡ Some c = session-next x s.thread st.program st.has p.next
      (ask.Held (held.Read a.deed)) call.asked ∙ inside in
      let stays : Some i ≡ block_after p' = sym g.3 ∙ sym (ap (λ (z : Bool). if z then None else p.block) call.closes)
      in
      subst (Goes x s.thread w)
      (sym (a.after ∙ ap (λ (z : List (Block K)). record (stepped w s p') { blocks = z }) n.4))
      (growing.sound-counted x laws w s sound p a.stands (held.Read a.deed) call.asked c i inside session b d n.2 n.3
      still p'
      (rw call.started refl) (λ m h. h) same w.locks refl (inl refl) (
        ask.Held (held.Read a.deed),
        IsInCall-push x (threads_of w) s.thread s.thread p' _
            (in_call-moved x p p' (threads_of w) s.thread _ refl refl refl call),
        (λ h. absurd (none-some (guard.Pair a.kind) (sym h ∙ a.guarded))),
        in-session x (slice_set w.blocks i d) s.thread p.next c r inside
            (subst (λ (z : Answer K V T A). IsToldBy x (slice_set w.blocks i d) s.thread c (p.next - c) z) told
            (growing.told-more x laws w s sound p a.stands (held.Read a.deed) call.asked c i inside session b d n.2 n.3
            still)),
        ready-inside x (slice_set w.blocks i d) w.tables s.thread p' (p.next + 1) c i (block_after p') behind stays on,
      )
      none.visits
      none.reads
      (taken-at x (threads_of w) w.blocks w.replies w.tables s.thread p (phase.Read a.deed) a.before st)
      (within-at x (threads_of w) w.blocks w.replies w.tables s.thread p (phase.Read a.deed) a.before st)
      (holds-same w.places w.locks sound.holds s.thread p p' a.stands refl
      (owes-none p' _ (stand-at w.places w.locks sound.holds s.thread p a.stands (phase.Read a.deed) a.before)))
      (growing.owns-grown x laws w s sound p a.stands (held.Read a.deed) call.asked c i inside session b d n.2 n.3 still
      p' refl (ap may_own a.before)))

  -- without a guard neither hold nor shard counts
  unguarded : (p p' : Place K V D T A) (n : ℕ) (o block : Option ℕ) → p.guard ≡ None → p'.guard ≡ None → p'.holds ≡ []
      → p'.shard ≡ p.shard → IsInSession x w.blocks w.tables s.thread p n o block
      → IsInSession x w.blocks w.tables s.thread p' n o block
  unguarded p p' n (Some c) (Some i) none none' free_ shard h = record {
    block = h.block;
    listed = h.listed;
    thread = h.thread;
    call = h.call;
    below = h.below;
    done = h.done;
    guard = subst (λ (z : Option (Guard K)). GuardIs w.tables p' z
        (reached x s.thread c (n - c) (found x w.blocks i h.block))) (sym none')
        (subst (λ (z : Option (Guard K)). GuardIs w.tables p z
        (reached x s.thread c (n - c) (found x w.blocks i h.block))) none h.guard);
    there = λ g key e is. absurd (none-some g (sym none' ∙ e));
    settled = settled-moved x p p' w.blocks w.blocks i h.block h.block refl refl refl
        (λ alone. absurd (none-there p'.holds 0 alone.hold free_ (first-there p'.holds alone.hold [] alone.has))) shard
        (λ z. z) h.settled;
  }
  unguarded p p' n (Some c) None none none' free_ shard h = (none', h.1)
  unguarded p p' n None block none none' free_ shard h = (none', h.1)

  -- the world behind a release, with or without a guard
  released : (a : Releases x w s w') (o : Option (Guard K)) → a.place.guard ≡ o
      → IsReleasing x w.blocks w.tables s.thread a.place
      (claim-at x (threads_of w) w.blocks w.replies w.tables s.thread a.place (phase.Release a.answer) a.before
      (sound.stands s.thread a.place a.stands)).0 a.answer o → Goes x s.thread w w'
  released a None none h =
      let p = a.place in
      let st = sound.stands s.thread p a.stands in
      let cl = claim-at x (threads_of w) w.blocks w.replies w.tables s.thread p (phase.Release a.answer) a.before st in
      let p' : Place K V D T A = record p { holds = a.more; guard = None; phase = phase.Answer a.answer } in
      let only = no-more p.holds cl.1 a.hold a.more cl.3 a.holds in
      let same : a.blocks ≡ w.blocks =
      subst (λ (z : Option (Guard K)). CountsCall w.blocks (if is_some z then p.block else None) p.next a.blocks)
      none a.counted in
      subst (Goes x s.thread w)
      (sym (a.after ∙ ap (λ (z : List (Block K)). record (stepped w s p') { locks = a.locks; blocks = z }) same))
      (sound-by x w s p p' a.stands sound w.blocks w.tables a.locks w.replies _
      (leaves-same x w s p p' a.stands sound a.locks)
      (record {
        program = st.program;
        has = st.has;
        asks_left = taken-at x (threads_of w) w.blocks w.replies w.tables s.thread p (phase.Release a.answer) a.before
            st;
        within = within-at x (threads_of w) w.blocks w.replies w.tables s.thread p (phase.Release a.answer) a.before st;
        answered = st.answered;
        own_block = st.own_block;
        own_visits = visits-moved x w.blocks s.thread p p' refl refl refl st.own_visits;
        owns = owns-on w.blocks s.thread p p' st.owns refl refl refl (λ own. refl);
        walks = walks-at x (threads_of w) w.blocks w.replies w.tables s.thread p (phase.Release a.answer) a.before st;
        claim = (
          cl.0,
          IsInCall-push x (threads_of w) s.thread s.thread p' _
              (in_call-moved x p p' (threads_of w) s.thread _ refl refl refl cl.2),
          (λ z. only.1),
          h.0,
          unguarded p p' (p.next + 1) (session_of x s.thread (p.next + 1)) (block_after p) none refl only.1 refl h.1,
        );
      })
      (tables-same x w.blocks w.blocks w.tables sound.tables (λ q. refl))
      (holds-given w.places w.locks sound.holds s.thread p p' a.stands a.hold a.more a.holds
      (stand-at w.places w.locks sound.holds s.thread p a.stands (phase.Release a.answer) a.before)
      (gives_up a.hold.mode) s.fair a.locks a.gives a.hold.mode refl refl (λ o z. z))
      (placed-same x (threads_of w) s.thread (started_of w) (started_of (stepped w s p')) w.blocks w.replies
      (started-stays x w s p p' a.stands (λ n z. z)) sound.placed)
      sound.replies)
  released a (Some own) has h =
      let p = a.place in
      let st = sound.stands s.thread p a.stands in
      let cl = claim-at x (threads_of w) w.blocks w.replies w.tables s.thread p (phase.Release a.answer) a.before st in
      let call : IsInCall x (threads_of w) s.thread p (ask.Held held.Drop) =
      subst (λ (z : Ask K V D). IsInCall x (threads_of w) s.thread p z) h.0 cl.2 in
      let g = growing.session-of-guard x w.blocks w.tables s.thread p p.next own (session_of x s.thread p.next) p.block
      has h.2 in
      let c = g.0 in let i = g.1 in let inside = g.2 in let session = g.4 in
      let n = counted-block w.blocks p.block i p.next a.blocks g.3
      (subst (λ (z : Option (Guard K)). CountsCall w.blocks (if is_some z then p.block else None) p.next a.blocks) has
      a.counted) in
      let b = n.0 in let d = n.1 in
      let its : session.block ≡ b = same_Some session.block b (sym session.listed ∙ n.2) in
      let at-guard : GuardIs w.tables p (Some own) (reached x s.thread c (p.next - c) (found x w.blocks i b)) =
      subst (λ (z : Block K). GuardIs w.tables p (Some own) (reached x s.thread c (p.next - c) (found x w.blocks i z)))
      its
      (subst (λ (z : Option (Guard K)). GuardIs w.tables p z
      (reached x s.thread c (p.next - c) (found x w.blocks i session.block))) has session.guard) in
      let same = drop-quiet x.deeds (reached x s.thread c (p.next - c) (found x w.blocks i b)) in
      let still = inl same in
      let p' : Place K V D T A = record p { holds = a.more; guard = None; phase = phase.Answer a.answer } in
      let only = no-more p.holds cl.1 a.hold a.more cl.3 a.holds in
      let told : held_answer x.deeds held.Drop (reached x s.thread c (p.next - c) (found x w.blocks i b)) ≡ a.answer =
      drop-told x.deeds w.tables p own (reached x s.thread c (p.next - c) (found x w.blocks i b)) at-guard
      ∙ sym h.1 in
      let outside : session_of x s.thread (p.next + 1) ≡ None = session-next x s.thread st.program st.has p.next
      (ask.Held held.Drop) call.asked in
      let closes : block_after p' ≡ None = ap (λ (z : Bool). if z then None else p.block) call.closes in
      subst (Goes x s.thread w)
      (sym (a.after ∙ ap (λ (z : List (Block K)). record (stepped w s p') { locks = a.locks; blocks = z }) n.4))
      (growing.sound-counted x laws w s sound p a.stands held.Drop call.asked c i inside session b d n.2 n.3 still p'
      (rw call.started refl) (λ m z. z) same a.locks refl (inl refl) (
        ask.Held held.Drop,
        IsInCall-push x (threads_of w) s.thread s.thread p' _
            (in_call-moved x p p' (threads_of w) s.thread _ refl refl refl call),
        (λ z. only.1),
        in-session x (slice_set w.blocks i d) s.thread p.next c a.answer inside
            (subst (λ (z : Answer K V T A). IsToldBy x (slice_set w.blocks i d) s.thread c (p.next - c) z) told
            (growing.told-more x laws w s sound p a.stands held.Drop call.asked c i inside session b d n.2 n.3 still)),
        ready-outside x (slice_set w.blocks i d) w.tables s.thread p' (p.next + 1) (block_after p') outside refl closes,
      )
      (visits-none x w.blocks s.thread p
      (λ f is. let e : ask.Held held.Drop ≡ ask.Walk f = same_Some _ _ (sym call.asked ∙ is) in absurd cc)
      st.own_visits)
      (walks-at x (threads_of w) w.blocks w.replies w.tables s.thread p (phase.Release a.answer) a.before st)
      (taken-at x (threads_of w) w.blocks w.replies w.tables s.thread p (phase.Release a.answer) a.before st)
      (within-at x (threads_of w) w.blocks w.replies w.tables s.thread p (phase.Release a.answer) a.before st)
      (holds-given w.places w.locks sound.holds s.thread p p' a.stands a.hold a.more a.holds
      (stand-at w.places w.locks sound.holds s.thread p a.stands (phase.Release a.answer) a.before)
      (gives_up a.hold.mode) s.fair a.locks a.gives a.hold.mode refl refl (λ o z. z))
      (λ j e here thread. elim (slice_get-set_cases w.blocks i j b e d n.2 here) [
        | inl own ↦ inl (rw (own.1, n.3.call)
            (let k = growing.call-is x laws w s sound p a.stands held.Drop call.asked c i inside session b d n.2 n.3
            still in let lt = session.below in omega arith))
        | inr other ↦ elim (st.owns j e other.1 thread)
            [ inl below ↦ inl below | inr mine ↦ inr (mine.0, mine.1, refl) ]
      ]))

  pub sound-releases : Releases x w s w' → Goes x s.thread w w'
  sound-releases a =
      released a a.place.guard refl
      (claim-at x (threads_of w) w.blocks w.replies w.tables s.thread a.place (phase.Release a.answer) a.before
      (sound.stands s.thread a.place a.stands)).4
