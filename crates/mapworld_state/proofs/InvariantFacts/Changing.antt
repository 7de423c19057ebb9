-- The deeds of a session that holds its shard alone: a call does with the guarded pair what it does with a pair, or
-- fills the place that a vacant guard keeps.
use Rattle.std.proofs.Common.{◌≡◌, ◌+◌, ◌-◌, ◌⊎◌, inl, inr, Bool, true, false, if◌then◌else◌, List, Option, Some, None}
use Rattle.std.proofs.Common.{slice_set, refl, ap, sym, ◌∙◌, subst}
use Rattle.mapworld_state.specs.Shards.{Puts}
use Rattle.std.proofs.Math.ListN.{length-set}
use Rattle.std.proofs.lemmas.Option.{same_Some, none-some}
use Rattle.mapworld_calls.specs.declared.ask.Ask.TheVariants as ask
use Rattle.mapworld_calls.specs.declared.ask.Held.{Held}
use Rattle.mapworld_calls.specs.declared.ask.Held.TheVariants as held
use Rattle.mapworld_calls.specs.declared.block.Block.{Block}
use Rattle.mapworld_calls.specs.declared.reply.Answer.{Answer}
use Rattle.mapworld_calls.specs.declared.reply.Answer.TheVariants as answer
use Rattle.mapworld_calls.specs.Deeds.{Deeds}
use Rattle.mapworld_calls.specs.Calls.{At, free, exclusive, vacant, pair_in, held_answer, held_leaves}
use Rattle.mapworld_calls.specs.Programs.{is_drop, opening_key}
use Rattle.mapworld_calls.specs.Setup.{Setup, Laws, session_of}
use Rattle.mapworld_calls.specs.Replay.{reached, block_key, found, IsLastOnShard}
use Rattle.mapworld_calls.specs.Agrees.{IsToldBy}
use Rattle.mapworld_calls.proofs.Grown.{contents-own, contents-other}
use Rattle.mapworld_calls.proofs.Handed.{Handed, block-handed}
use Rattle.mapworld_state.specs.declared.holds.Mode.TheVariants.{Exclusive}
use Rattle.mapworld_state.specs.declared.step.Step.{Step}
use Rattle.mapworld_state.specs.declared.place.Way.{Way}
use Rattle.mapworld_state.specs.declared.place.Way.TheVariants as way
use Rattle.mapworld_state.specs.declared.place.Guard.{Guard}
use Rattle.mapworld_state.specs.declared.place.Guard.TheVariants as guard
use Rattle.mapworld_state.specs.declared.place.Phase.TheVariants as phase
use Rattle.mapworld_state.specs.Places.{Place}
use Rattle.mapworld_state.specs.State.{State, threads_of, started_of}
use Rattle.mapworld_state.specs.Moves.{stepped, way_mode, lent, is_change, ends_guard, changed_phase}
use Rattle.mapworld_state.specs.Steps.{Changes, Fills}
use Rattle.mapworld_state.specs.Sound.{may_own, block_after, GuardIs, Sound}
use Rattle.mapworld_state.proofs.Owning.{same-kind}
use Rattle.mapworld_state.proofs.InvariantFacts.Others.{IsInCall-push}
use Rattle.mapworld_state.proofs.InvariantFacts.Holding.{holds-same, owes-none, stand-at}
use Rattle.mapworld_state.proofs.InvariantFacts.Building.{Goes, in_call-moved, holds-moved, session-next}
use Rattle.mapworld_state.proofs.InvariantFacts.Building.{tables-changed, claim-at, taken-at, within-at, none-at}
use Rattle.mapworld_state.proofs.InvariantFacts.Admitting.{kept-alone}
use Rattle.mapworld_state.proofs.InvariantFacts.NewBlocks.{ready-inside}
use Rattle.mapworld_state.proofs.InvariantFacts.Reading.{in-session}
use Rattle.mapworld_state.proofs.InvariantFacts.Acting.{counted-block}
use Rattle.mapworld_state.proofs.InvariantFacts.Growing as growing

not-drop : {K V D : Type 0} (h : Held V D) (k : Way K) → is_change h k ≡ true → is_drop h ≡ false
not-drop held.Drop k is = cc
not-drop (held.Read d) k is = refl
not-drop (held.Write d) k is = refl
not-drop held.Downgrade k is = refl
not-drop (held.Insert v) k is = refl
not-drop held.IntoRef k is = refl
not-drop held.Remove k is = refl
not-drop held.RemoveEntry k is = refl
not-drop (held.ReplaceEntry v) k is = refl
not-drop held.IntoKey k is = refl

-- a call that changes a guard's pair stores another value and keeps the guard, or the guard ends
abbrev Stores : {D K V T : Type 0} → Deeds D K V T → Held V D → Way K → K × V → Type 0
Stores {D} {K} {V} deeds h k p = (v : V) × (ends_guard h ≡ false) × (held_leaves deeds h (lent k p) ≡ lent k (p.0, v))

abbrev Ends : {D K V T : Type 0} → Deeds D K V T → Held V D → Way K → K × V → Type 0
Ends {D} {K} {V} deeds h k p = (o : Option (K × V)) × (ends_guard h ≡ true) × (held_leaves deeds h (lent k p) ≡ free o)

changes-by : {D K V T : Type 0} (deeds : Deeds D K V T) (h : Held V D) (k : Way K) (p : K × V) → is_change h k ≡ true
    → Stores deeds h k p ⊎ Ends deeds h k p
changes-by deeds (held.Write d) way.Exclusive p is = inl (deeds.effect d p.0 p.1, refl, refl)
changes-by deeds (held.Write d) (way.Occupied k) p is = inl (deeds.effect d p.0 p.1, refl, refl)
changes-by deeds (held.Insert v) (way.Occupied k) p is = inl (v, refl, refl)
changes-by deeds held.Remove (way.Occupied k) p is = inr (None, refl, refl)
changes-by deeds held.RemoveEntry (way.Occupied k) p is = inr (None, refl, refl)
changes-by deeds (held.ReplaceEntry v) (way.Occupied k) p is = inr (Some (k, v), refl, refl)
changes-by deeds h k p is = absurd (cc)

module _ {K V S D T A : Type 0} (x : Setup K V D T) (laws : Laws x) (w : State K V S D T A) (s : Step)
    (w' : State K V S D T A) (sound : Sound x w) where
  pub sound-changes : Changes x w s w' → Goes x s.thread w w'
  sound-changes a =
      let p = a.place in
      let h : Held V D = a.call in
      let f = phase.Change h in
      let st = sound.stands s.thread p a.stands in
      let cl = claim-at x (threads_of w) w.blocks w.replies w.tables s.thread p f a.before st in
      let none = none-at x (threads_of w) w.blocks w.replies w.tables s.thread p f a.before st refl in
      let call = cl.1 in
      let alone = cl.4 in
      let is-change : is_change h a.kind ≡ true = subst (λ (z : Way K). is_change h z ≡ true)
      (same-kind p.guard cl.0 a.kind cl.2 a.guarded) cl.3 in
      let drops = not-drop h a.kind is-change in
      let g = growing.session-of-guard x w.blocks w.tables s.thread p p.next (guard.Pair a.kind)
      (session_of x s.thread p.next) p.block a.guarded cl.5 in
      let c = g.0 in let i = g.1 in let inside = g.2 in let session = g.4 in
      let n = counted-block w.blocks p.block i p.next a.blocks g.3 a.counted in
      let b = n.0 in let d = n.1 in
      let its : session.block ≡ b = same_Some session.block b (sym session.listed ∙ n.2) in
      let last : IsLastOnShard x w.blocks i b = subst (λ (z : Block K). IsLastOnShard x w.blocks i z) its
      (session.settled.last alone) in
      let still = inr last in
      -- the session has come to the guarded pair
      let lends = growing.lends-pair x laws w s sound p a.stands h call.asked c i inside session b d n.2 n.3 still
      a.kind a.guarded g.3 a.key a.key_is a.table a.held a.pair a.found in
      let was : At K V = reached x s.thread c (p.next - c) (found x w.blocks i b) in
      let left : At K V = held_leaves x.deeds h (lent a.kind a.pair) in
      let r : Answer K V T A = held_answer x.deeds h (lent a.kind a.pair) in
      let leaves : held_leaves x.deeds h was ≡ left = ap (held_leaves x.deeds h) lends.0 in
      let told : held_answer x.deeds h was ≡ r = ap (held_answer x.deeds h) lends.0 in
      let grows = growing.grows x laws w s sound p a.stands h call.asked c i inside session b d n.2 n.3 still in
      let key-is : block_key x b ≡ Some a.key = lends.2 in
      let here : p.shard ≡ x.route a.key = session.settled.here a.key (ap (λ z. block_key x z) its ∙ key-is) in
      let reached-now : pair_in (reached x b.thread b.call d.done.value (found x w.blocks i b)) ≡ pair_in left =
      ap pair_in (growing.reached-now x laws w s sound p a.stands h call.asked c i inside session b d n.2 n.3 still
      ∙ leaves) in
      let tables' = slice_set w.tables p.shard a.changed in
      let agree = tables-changed x laws w.blocks (slice_set w.blocks i d) w.tables sound.tables a.key (pair_in left)
      p.shard here
      (λ q e. contents-own x laws w.blocks i b d grows last a.key key-is q e ∙ reached-now)
      (λ q e. contents-other x laws w.blocks i b d grows a.key key-is q e)
      a.table a.changed a.held a.puts in
      let answered = in-session x (slice_set w.blocks i d) s.thread p.next c r inside
      (subst (λ (z : Answer K V T A). IsToldBy x (slice_set w.blocks i d) s.thread c (p.next - c) z) told
      (growing.told-more x laws w s sound p a.stands h call.asked c i inside session b d n.2 n.3 still)) in
      let behind : session_of x s.thread (p.next + 1) ≡ Some c =
      session-next x s.thread st.program st.has p.next (ask.Held h) call.asked
      ∙ (ap (λ (z : Bool). if z then None else session_of x s.thread p.next) drops ∙ inside) in
      let stays : Some i ≡ (if p.closes then None else p.block) = sym g.3
      ∙ sym (ap (λ (z : Bool). if z then None else p.block) (call.closes ∙ drops)) in
      let after = λ (ends : Bool) (e : ends_guard h ≡ ends).
      a.after ∙ (ap (λ (z : List (Block K)).
      record (stepped w s
      (record p { guard = if ends_guard h then None else p.guard; phase = changed_phase (ends_guard h) r }))
      { tables = tables'; blocks = z }) n.4
      ∙ ap (λ (z : Bool).
      record (stepped w s (record p { guard = if z then None else p.guard; phase = changed_phase z r }))
      { tables = tables'; blocks = slice_set w.blocks i d }) e) in
      -- the guard ends
      let ended = λ (o : Option (K × V)) (e : ends_guard h ≡ true) (at : left ≡ free o).
      let p' : Place K V D T A = record p { guard = None; phase = phase.Release r } in
      let on = growing.session-on x laws w s sound p a.stands h call.asked c i inside session b d n.2 n.3 still tables'
      p' refl refl (o, leaves ∙ at) (λ own k z. absurd (none-some own z)) in
      subst (Goes x s.thread w) (sym (after true e))
      (growing.sound-changed x laws w s sound p a.stands h call.asked c i inside session b d n.2 n.3 still p'
      (rw call.started refl) (λ m z. z) tables' (length-set w.tables p.shard a.changed)
      (kept-alone x w s p a.stands sound a.changed alone) agree w.locks refl (inl refl) (
        ask.Held h,
        alone.hold,
        IsInCall-push x (threads_of w) s.thread s.thread p' _
            (in_call-moved x p p' (threads_of w) s.thread _ refl refl refl call),
        alone.has,
        (
          answered,
          ready-inside x (slice_set w.blocks i d) tables' s.thread p' (p.next + 1) c i (block_after p') behind
              stays on,
        ),
      )
      none.visits
      none.reads
      (taken-at x (threads_of w) w.blocks w.replies w.tables s.thread p f a.before st)
      (within-at x (threads_of w) w.blocks w.replies w.tables s.thread p f a.before st)
      (holds-same w.places w.locks sound.holds s.thread p p' a.stands refl
      (stand-at w.places w.locks sound.holds s.thread p a.stands f a.before))
      (growing.owns-grown x laws w s sound p a.stands h call.asked c i inside session b d n.2 n.3 still p' refl
      (ap may_own a.before))) in
      -- or stays
      let stored = λ (u : Stores x.deeds h a.kind a.pair).
      let p' : Place K V D T A = record p { phase = phase.Answer r } in
      let on = growing.session-on x laws w s sound p a.stands h call.asked c i inside session b d n.2 n.3 still tables'
      p' refl refl
      (subst (λ (z : Option (Guard K)). GuardIs tables' p' z
      (held_leaves x.deeds h (reached x s.thread c (p.next - c) (found x w.blocks i b)))) (sym a.guarded)
      ((a.pair.0, u.0), leaves ∙ u.2, holds-moved x p p' (way_mode a.kind) refl refl lends.1))
      (growing.there-put x laws w s sound p a.stands h call.asked c i inside session b d n.2 n.3 still a.key key-is
      a.table a.changed a.held
      (subst (λ (z : At K V). Puts x.eq a.table a.changed a.key (pair_in z)) (sym leaves) a.puts) p' refl) in
      subst (Goes x s.thread w) (sym (after false u.1))
      (growing.sound-changed x laws w s sound p a.stands h call.asked c i inside session b d n.2 n.3 still p'
      (rw call.started refl) (λ m z. z) tables' (length-set w.tables p.shard a.changed)
      (kept-alone x w s p a.stands sound a.changed alone) agree w.locks refl (inl refl) (
        ask.Held h,
        IsInCall-push x (threads_of w) s.thread s.thread p' _
            (in_call-moved x p p' (threads_of w) s.thread _ refl refl refl call),
        (λ z. absurd (none-some (guard.Pair a.kind) (sym z ∙ a.guarded))),
        answered,
        ready-inside x (slice_set w.blocks i d) tables' s.thread p' (p.next + 1) c i (block_after p') behind stays on,
      )
      none.visits
      none.reads
      (taken-at x (threads_of w) w.blocks w.replies w.tables s.thread p f a.before st)
      (within-at x (threads_of w) w.blocks w.replies w.tables s.thread p f a.before st)
      (holds-same w.places w.locks sound.holds s.thread p p' a.stands refl
      (owes-none p' _ (stand-at w.places w.locks sound.holds s.thread p a.stands f a.before)))
      (growing.owns-grown x laws w s sound p a.stands h call.asked c i inside session b d n.2 n.3 still p' refl
      (ap may_own a.before))) in
      elim (changes-by x.deeds h a.kind a.pair is-change) [ inl u ↦ stored u | inr e ↦ ended e.0 e.1 e.2 ]

  pub sound-fills : Fills x w s w' → Goes x s.thread w w'
  sound-fills a =
      let p = a.place in
      let h : Held V D = held.Insert a.value in
      let f = phase.Fill a.value in
      let st = sound.stands s.thread p a.stands in
      let cl = claim-at x (threads_of w) w.blocks w.replies w.tables s.thread p f a.before st in
      let none = none-at x (threads_of w) w.blocks w.replies w.tables s.thread p f a.before st refl in
      let call = cl.1 in
      let alone = cl.3 in
      let g = growing.session-of-guard x w.blocks w.tables s.thread p p.next (guard.Vacant a.key)
      (session_of x s.thread p.next) p.block a.guarded cl.4 in
      let c = g.0 in let i = g.1 in let inside = g.2 in let session = g.4 in
      let n = counted-block w.blocks p.block i p.next a.blocks g.3 a.counted in
      let b = n.0 in let d = n.1 in
      let its : session.block ≡ b = same_Some session.block b (sym session.listed ∙ n.2) in
      let last : IsLastOnShard x w.blocks i b = subst (λ (z : Block K). IsLastOnShard x w.blocks i z) its
      (session.settled.last alone) in
      let still = inr last in
      let lends : GuardIs w.tables p (Some (guard.Vacant a.key))
      (reached x s.thread c (p.next - c) (found x w.blocks i session.block)) =
      subst (λ (z : Option (Guard K)). GuardIs w.tables p z
      (reached x s.thread c (p.next - c) (found x w.blocks i session.block))) a.guarded session.guard in
      let stood : reached x s.thread c (p.next - c) (found x w.blocks i b) ≡ vacant a.key =
      ap (λ z. reached x s.thread c (p.next - c) (found x w.blocks i z)) (sym its) ∙ lends.0 in
      let leaves : held_leaves x.deeds h (reached x s.thread c (p.next - c) (found x w.blocks i b)) ≡ exclusive
      (a.key, a.value) = ap (held_leaves x.deeds h) stood in
      let told : held_answer x.deeds h (reached x s.thread c (p.next - c) (found x w.blocks i b)) ≡ answer.Held =
      ap (held_answer x.deeds h) stood in
      let grows = growing.grows x laws w s sound p a.stands h call.asked c i inside session b d n.2 n.3 still in
      -- its key is the handed-in one
      let opening = growing.opening-asked x laws w s sound p a.stands h call.asked c i inside session b d n.2 n.3 still
      in
      let key : K = opening_key opening.0 in
      let key-is : block_key x b ≡ Some key = growing.opening-key x laws w s sound p a.stands h call.asked c i inside
      session b d n.2 n.3 still in
      let here : p.shard ≡ x.route key = session.settled.here key (ap (λ z. block_key x z) its ∙ key-is) in
      let was-at : reached x b.thread b.call b.done.value (found x w.blocks i b) ≡ vacant a.key =
      growing.reached-was x laws w s sound p a.stands h call.asked c i inside session b d n.2 n.3 still ∙ stood in
      let mine : a.key ≡ key =
      subst (λ (z : At K V). Handed key z) was-at
      (block-handed x (threads_of w) (started_of w) w.blocks w.replies sound.placed i b n.2 key key-is
      (found x w.blocks i b)) in
      let own-key : block_key x b ≡ Some a.key = key-is ∙ ap (λ k. Some k) (sym mine) in
      let agree = tables-changed x laws w.blocks (slice_set w.blocks i d) w.tables sound.tables a.key
      (Some (a.key, a.value)) p.shard (here ∙ ap x.route (sym mine))
      (λ q e. contents-own x laws w.blocks i b d grows last a.key own-key q e
      ∙ ap pair_in (growing.reached-now x laws w s sound p a.stands h call.asked c i inside session b d n.2 n.3 still
      ∙ leaves))
      (λ q e. contents-other x laws w.blocks i b d grows a.key own-key q e)
      a.table a.changed a.held a.puts in
      let tables' = slice_set w.tables p.shard a.changed in
      let p' : Place K V D T A = record p { guard = Some (guard.Pair way.Exclusive); phase = phase.Answer answer.Held }
      in
      let on = growing.session-on x laws w s sound p a.stands h call.asked c i inside session b d n.2 n.3 still tables'
      p' refl refl
      ((a.key, a.value), leaves, holds-moved x p p' Exclusive refl refl lends.1)
      (growing.there-put x laws w s sound p a.stands h call.asked c i inside session b d n.2 n.3 still a.key own-key
      a.table a.changed a.held
      (subst (λ (z : At K V). Puts x.eq a.table a.changed a.key (pair_in z)) (sym leaves) a.puts) p' refl) in
      let behind : session_of x s.thread (p.next + 1) ≡ Some c = session-next x s.thread st.program st.has p.next
      (ask.Held h) call.asked ∙ inside in
      let stays : Some i ≡ block_after p' = sym g.3 ∙ sym (ap (λ (z : Bool). if z then None else p.block) call.closes)
      in
      subst (Goes x s.thread w)
      (sym (a.after ∙ ap (λ (z : List (Block K)). record (stepped w s p') { tables = tables'; blocks = z }) n.4))
      (growing.sound-changed x laws w s sound p a.stands h call.asked c i inside session b d n.2 n.3 still p'
      (rw call.started refl) (λ m z. z) tables' (length-set w.tables p.shard a.changed)
      (kept-alone x w s p a.stands sound a.changed alone) agree w.locks refl (inl refl) (
        ask.Held h,
        IsInCall-push x (threads_of w) s.thread s.thread p' _
            (in_call-moved x p p' (threads_of w) s.thread _ refl refl refl call),
        (λ z. absurd (none-some (guard.Pair way.Exclusive) (sym z))),
        in-session x (slice_set w.blocks i d) s.thread p.next c answer.Held inside
            (subst (λ (z : Answer K V T A). IsToldBy x (slice_set w.blocks i d) s.thread c (p.next - c) z) told
            (growing.told-more x laws w s sound p a.stands h call.asked c i inside session b d n.2 n.3 still)),
        ready-inside x (slice_set w.blocks i d) tables' s.thread p' (p.next + 1) c i (block_after p') behind stays on,
      )
      none.visits
      none.reads
      (taken-at x (threads_of w) w.blocks w.replies w.tables s.thread p f a.before st)
      (within-at x (threads_of w) w.blocks w.replies w.tables s.thread p f a.before st)
      (holds-same w.places w.locks sound.holds s.thread p p' a.stands refl
      (owes-none p' _ (stand-at w.places w.locks sound.holds s.thread p a.stands f a.before)))
      (growing.owns-grown x laws w s sound p a.stands h call.asked c i inside session b d n.2 n.3 still p' refl
      (ap may_own a.before)))
