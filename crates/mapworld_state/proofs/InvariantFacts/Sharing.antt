-- A guard that held its shard alone shares it: its session's block counts the call, and no pair changes.
use Rattle.std.proofs.Common.{◌≡◌, ◌+◌, ◌-◌, inl, Bool, if◌then◌else◌, List, [], ◌∷◌, Some, None, slice_set, refl, ap}
use Rattle.std.proofs.Common.{sym, ◌∙◌, subst}
use Rattle.std.proofs.lemmas.Option.{same_Some, none-some}
use Rattle.mapworld_calls.specs.declared.ask.Ask.TheVariants as ask
use Rattle.mapworld_calls.specs.declared.ask.Held.{Held}
use Rattle.mapworld_calls.specs.declared.ask.Held.TheVariants as held
use Rattle.mapworld_calls.specs.declared.block.Block.{Block}
use Rattle.mapworld_calls.specs.declared.reply.Answer.{Answer}
use Rattle.mapworld_calls.specs.declared.reply.Answer.TheVariants as answer
use Rattle.mapworld_calls.specs.Calls.{shared, exclusive, held_answer, held_leaves}
use Rattle.mapworld_calls.specs.Setup.{Setup, Laws, session_of}
use Rattle.mapworld_calls.specs.Replay.{reached, found}
use Rattle.mapworld_calls.specs.Agrees.{IsToldBy}
use Rattle.parking_lot_machine_calls.specs.declared.calls.LockCall.TheVariants as call_of
use Rattle.mapworld_state.specs.declared.holds.Mode.TheVariants.{Shared, Exclusive}
use Rattle.mapworld_state.specs.declared.holds.Hold.{Hold}
use Rattle.mapworld_state.specs.declared.step.Step.{Step}
use Rattle.mapworld_state.specs.declared.place.Way.TheVariants as way
use Rattle.mapworld_state.specs.declared.place.Guard.TheVariants as guard
use Rattle.mapworld_state.specs.declared.place.Phase.TheVariants as phase
use Rattle.mapworld_state.specs.Places.{Place}
use Rattle.mapworld_state.specs.State.{State, threads_of}
use Rattle.mapworld_state.specs.Moves.{stepped}
use Rattle.mapworld_state.specs.Steps.{Downgrades}
use Rattle.mapworld_state.specs.Sound.{may_own, block_after, HoldsShard, Sound}
use Rattle.mapworld_state.proofs.InvariantFacts.Others.{IsInCall-push}
use Rattle.mapworld_state.proofs.InvariantFacts.Holding.{no-more, holds-shared, stand-at}
use Rattle.mapworld_state.proofs.InvariantFacts.Building.{Goes, in_call-moved, session-next, claim-at, taken-at}
use Rattle.mapworld_state.proofs.InvariantFacts.Building.{within-at, none-at}
use Rattle.mapworld_state.proofs.InvariantFacts.NewBlocks.{ready-inside}
use Rattle.mapworld_state.proofs.InvariantFacts.Acting.{counted-block}
use Rattle.mapworld_state.proofs.InvariantFacts.Reading.{in-session}
use Rattle.mapworld_state.proofs.InvariantFacts.Growing.{downgrade-quiet}
use Rattle.mapworld_state.proofs.InvariantFacts.Growing as growing

-- a hold that is shared isn't held alone
never-alone : {K V D T A : Type 0} (p' : Place K V D T A) (hold : Hold) → p'.holds ≡ hold ∷ [] → hold.mode ≡ Shared
    → HoldsShard p' Exclusive → ⊥
never-alone p' hold has is h =
    let same : Shared ≡ Exclusive = sym is ∙ ap (λ (z : Hold). z.mode) (no-more p'.holds hold h.hold [] has h.has).0
    ∙ h.mode_is in
    absurd (cc)

pub sound-downgrades : {K V S D T A : Type 0} (x : Setup K V D T) → Laws x
    → (w : State K V S D T A) (s : Step) (w' : State K V S D T A) → Sound x w → Downgrades x w s w'
    → Goes x s.thread w w'
sound-downgrades {K} {V} {S} {D} {T} {A} x laws w s w' sound a =
    let p = a.place in
    let h : Held V D = held.Downgrade in
    let st = sound.stands s.thread p a.stands in
    let cl = claim-at x (threads_of w) w.blocks w.replies w.tables s.thread p phase.Downgrade a.before st in
    let none = none-at x (threads_of w) w.blocks w.replies w.tables s.thread p phase.Downgrade a.before st refl in
    let call = cl.0 in
    let alone = cl.2 in
    let only = no-more p.holds alone.hold a.hold a.more alone.has a.holds in
    let here : a.hold.shard ≡ p.shard = ap (λ (z : Hold). z.shard) (sym only.0) ∙ alone.shard in
    let g = growing.session-of-guard x w.blocks w.tables s.thread p p.next (guard.Pair way.Exclusive)
    (session_of x s.thread p.next) p.block a.guarded cl.3 in
    let c = g.0 in let i = g.1 in let inside = g.2 in let session = g.4 in
    let n = counted-block w.blocks p.block i p.next a.blocks g.3 a.counted in
    let b = n.0 in let d = n.1 in
    let its : session.block ≡ b = same_Some session.block b (sym session.listed ∙ n.2) in
    let lends = growing.guard-at w.tables p p.guard way.Exclusive
    (reached x s.thread c (p.next - c) (found x w.blocks i session.block)) a.guarded session.guard in
    let stood : reached x s.thread c (p.next - c) (found x w.blocks i b) ≡ exclusive lends.0 =
    ap (λ z. reached x s.thread c (p.next - c) (found x w.blocks i z)) (sym its) ∙ lends.1 in
    let same = downgrade-quiet x.deeds (reached x s.thread c (p.next - c) (found x w.blocks i b)) in
    let still = inl same in
    let now-held : Hold = record (a.hold) { mode = Shared } in
    let r : Answer K V T A = answer.Held in
    let p' : Place K V D T A =
    record p { holds = now-held ∷ a.more; guard = Some (guard.Pair way.Shared); phase = phase.Answer r } in
    let one : now-held ∷ a.more ≡ now-held ∷ [] = ap (λ z. now-held ∷ z) only.1 in
    let told : held_answer x.deeds h (reached x s.thread c (p.next - c) (found x w.blocks i b)) ≡ r =
    ap (held_answer x.deeds h) stood in
    let leaves : held_leaves x.deeds h (reached x s.thread c (p.next - c) (found x w.blocks i b)) ≡ shared lends.0 =
    ap (held_leaves x.deeds h) stood in
    let holds : HoldsShard p' Shared = record { hold = now-held; has = one; shard = here; mode_is = refl } in
    let on = growing.session-goes-on x laws w s sound p a.stands h call.asked c i inside session b d n.2 n.3 still
    w.tables p'
    (λ z. absurd (never-alone p' now-held one refl z)) refl
    (lends.0, leaves, holds)
    (growing.there-still x laws w s sound p a.stands h call.asked c i inside session b d n.2 n.3 still same p' refl
    (λ own e. (guard.Pair way.Exclusive, a.guarded))) in
    let behind : session_of x s.thread (p.next + 1) ≡ Some c = session-next x s.thread st.program st.has p.next
    (ask.Held h) call.asked ∙ inside in
    let stays : Some i ≡ block_after p' = sym g.3 ∙ sym (ap (λ (z : Bool). if z then None else p.block) call.closes) in
    subst (Goes x s.thread w)
    (sym (a.after ∙ ap (λ (z : List (Block K)). record (stepped w s p') { locks = a.locks; blocks = z }) n.4))
    (growing.sound-counted x laws w s sound p a.stands h call.asked c i inside session b d n.2 n.3 still p'
    (rw call.started refl) (λ m z. z) same a.locks refl (inl refl) (
      ask.Held h,
      IsInCall-push x (threads_of w) s.thread s.thread p' _
          (in_call-moved x p p' (threads_of w) s.thread _ refl refl refl call),
      (λ z. absurd (none-some (guard.Pair way.Shared) (sym z))),
      in-session x (slice_set w.blocks i d) s.thread p.next c r inside
          (subst (λ (z : Answer K V T A). IsToldBy x (slice_set w.blocks i d) s.thread c (p.next - c) z) told
          (growing.told-more x laws w s sound p a.stands h call.asked c i inside session b d n.2 n.3 still)),
      ready-inside x (slice_set w.blocks i d) w.tables s.thread p' (p.next + 1) c i (block_after p') behind stays on,
    )
    none.visits
    none.reads
    (taken-at x (threads_of w) w.blocks w.replies w.tables s.thread p phase.Downgrade a.before st)
    (within-at x (threads_of w) w.blocks w.replies w.tables s.thread p phase.Downgrade a.before st)
    (holds-shared w.places w.locks sound.holds s.thread p p' a.stands a.hold a.more a.holds
    (stand-at w.places w.locks sound.holds s.thread p a.stands phase.Downgrade a.before) call_of.Downgrade s.fair
    a.locks a.turns only.1 refl one (λ o z. z))
    (growing.owns-grown x laws w s sound p a.stands h call.asked c i inside session b d n.2 n.3 still p' refl
    (ap may_own a.before)))
