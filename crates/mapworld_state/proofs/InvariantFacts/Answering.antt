-- The answer of a call, which ends it.
use Rattle.std.proofs.Common.{◌≡◌, ℕ, ◌+◌, ◌-◌, ◌<◌, ◌≤◌, inl, inr, ⊎_elim, Bool, true, false, if◌then◌else◌, List, []}
use Rattle.std.proofs.Common.{◌∷◌, ◌++◌, length, Option, Some, None, slice_get, refl, ap, sym, ◌∙◌, subst, arith}
use Rattle.std.specs.Option.{option_and_then}
use Rattle.mapworld_state.specs.Shards.{ShardPairs}
use Rattle.std.proofs.lemmas.Option.{same_Some, none-some}
use Rattle.std.proofs.lemmas.Bool.{cases_eq, cases_lt}
use Rattle.mapworld_calls.specs.declared.ask.Ask.{Ask}
use Rattle.mapworld_calls.specs.declared.ask.Ask.TheVariants as ask
use Rattle.mapworld_calls.specs.declared.ask.Keyed.{Keyed}
use Rattle.mapworld_calls.specs.declared.block.Block.{Block}
use Rattle.mapworld_calls.specs.declared.reply.Reply.{Reply}
use Rattle.mapworld_calls.specs.declared.reply.Answer.{Answer}
use Rattle.mapworld_calls.specs.Calls.{pair_in}
use Rattle.mapworld_calls.specs.Programs.{keyed_key, key_of}
use Rattle.mapworld_calls.specs.Setup.{Setup, Laws, ask_at, session_of}
use Rattle.mapworld_calls.specs.Replay.{reached, block_key, found}
use Rattle.mapworld_calls.specs.Agrees.{IsAnsweredBy, IsAnswered}
use Rattle.mapworld_calls.specs.Placed.{IsStepOf, IsDoneWithin}
use Rattle.mapworld_calls.proofs.Lists.{slice_get-push_cases}
use Rattle.mapworld_state.specs.declared.step.Step.{Step}
use Rattle.mapworld_state.specs.declared.place.Phase.TheVariants as phase
use Rattle.mapworld_state.specs.declared.place.Guard.{Guard}
use Rattle.mapworld_state.specs.Places.{Place}
use Rattle.mapworld_state.specs.State.{State, threads_of, started_of, next_step}
use Rattle.mapworld_state.specs.Moves.{stepped}
use Rattle.mapworld_state.specs.Steps.{Answers}
use Rattle.mapworld_state.specs.Sound.{block_after, GuardIs, IsInSession, Sound}
use Rattle.mapworld_state.proofs.InvariantFacts.Alike.{AreAlike, same-key, alike-was, alike-comes, contents-alike}
use Rattle.mapworld_state.proofs.InvariantFacts.Effects.{Anyhow}
use Rattle.mapworld_state.proofs.InvariantFacts.Timing.{key-alone, placed-answer, answered_of-own, answered_of-other}
use Rattle.mapworld_state.proofs.InvariantFacts.Holding.{holds-same}
use Rattle.mapworld_state.proofs.InvariantFacts.Building.{Goes, guard-moved, settled-moved, alone-moved, tables-same}
use Rattle.mapworld_state.proofs.InvariantFacts.Building.{started-was, started-other, sound-by, claim-at, taken-at}
use Rattle.mapworld_state.proofs.InvariantFacts.Building.{within-at, walks-at, no-visits}
use Rattle.mapworld_state.proofs.InvariantFacts.Listing.{length-map}
use Rattle.mapworld_state.proofs.InvariantFacts.Ending.{none-alike, last-alike, effect-alike, found-alike}
use Rattle.mapworld_state.proofs.InvariantFacts.Ending.{answered-alike, ended-call}

-- a session goes on where its block shows its end
module _ {K V D T A : Type 0} (x : Setup K V D T) (bs bs' : List (Block K)) (tables : List (ShardPairs K V))
    (t m end : ℕ) (p p' : Place K V D T A) (laws : Laws x) (alike : AreAlike t m end bs bs')
    (hold : p'.holds ≡ p.holds) (shard : p'.shard ≡ p.shard) (slot : p'.guard ≡ p.guard) where
  ended-ready : (n : ℕ) (o block : Option ℕ) → IsInSession x bs tables t p n o block
      → IsInSession x bs' tables t p' n o block
  ended-ready n (Some c) (Some i) h =
      let k = alike-comes t m end bs bs' alike i h.block h.listed in
      let finds = found-alike A x laws t m end bs bs' alike i h.block k.0 k.2 in
      record {
        block = k.0;
        listed = k.1;
        thread = k.2.thread ∙ h.thread;
        call = k.2.call ∙ h.call;
        below = h.below;
        done = k.2.done ∙ h.done;
        guard = subst (λ (f : Option (K × V)). GuardIs tables p' p'.guard (reached x t c (n - c) f)) (sym finds)
            (subst (λ (z : Option (Guard K)). GuardIs tables p' z (reached x t c (n - c) (found x bs i h.block)))
            (sym slot) (guard-moved x p p' tables p.guard (reached x t c (n - c) (found x bs i h.block)) hold shard
            h.guard));
        there = λ g key e' is.
            let has = h.there g key (sym slot ∙ e') (sym (same-key x h.block k.0 k.2.thread k.2.call) ∙ is) in
            record {
              table = has.table;
              held = rw shard has.held;
              so = has.so
                  ∙ ap (λ o. pair_in (reached x t c (n - c) o)) (sym finds);
            };
        settled = settled-moved x p p' bs bs' i h.block k.0 k.2.thread k.2.call k.2.visit
            (alone-moved x p p' hold shard) shard (last-alike A x laws t m end bs bs' alike i h.block) h.settled;
      }
  ended-ready n (Some c) None h = (slot ∙ h.0, none-alike A x laws t m end bs bs' alike t c h.1)
  ended-ready n None block h = (slot ∙ h.0, h.1)

module _ {K V S D T A : Type 0} (x : Setup K V D T) (laws : Laws x) (w : State K V S D T A) (s : Step)
    (w' : State K V S D T A) (sound : Sound x w) where
  -- of a call with a key there is one block
  one-block : (i j : ℕ) (b d : Block K) (key : K) → block_key x b ≡ Some key → slice_get w.blocks i ≡ Some b
      → slice_get w.blocks j ≡ Some d → d.thread ≡ b.thread → d.call ≡ b.call → d ≡ b
  one-block i j b d key is hi hj thread call = ⊎_elim
      (λ same. same_Some d b (sym hj ∙ ap (λ k. slice_get w.blocks k) (sym same) ∙ hi))
      (λ ne. ⊎_elim
      (λ lt. absurd (alone i b key is hi j d lt hj thread call))
      (λ le. absurd (alone j d key (same-key x b d thread call ∙ is) hj i b (omega (arith, ne, le)) hi (sym thread)
      (sym call)))
      (cases_lt i j))
      (cases_eq i j)
    where
      alone : (i : ℕ) (b : Block K) (key : K) → block_key x b ≡ Some key → slice_get w.blocks i ≡ Some b
          → (j : ℕ) (d : Block K) → i < j → slice_get w.blocks j ≡ Some d → d.thread ≡ b.thread → d.call ≡ b.call → ⊥
      alone = key-alone x (threads_of w) (started_of w) w.blocks w.replies sound.placed

  -- the block of a keyed call that is answered has done it
  whole-done : (p : Place K V D T A) (a : Ask K V D) (r : Answer K V T A) → IsAnsweredBy x w.blocks s.thread p.next a r
      → ask_at x s.thread p.next ≡ Some a
      → (i : ℕ) (b : Block K) (k : Keyed K V D) → slice_get w.blocks i ≡ Some b → b.thread ≡ s.thread → b.call ≡ p.next
      → ask_at x b.thread b.call ≡ Some (ask.Keyed k) → b.done.value ≡ 1
  whole-done p a r h asked i b k hb thread call asked' =
      by a (same_Some a (ask.Keyed k)
      (sym asked ∙ ap (λ u. ask_at x u p.next) (sym thread) ∙ ap (λ n. ask_at x b.thread n) (sym call) ∙ asked')) h
    where
      key : block_key x b ≡ Some (keyed_key k)
      key = ap (option_and_then key_of) asked'

      once : (z : Ask K V D) → z ≡ ask.Keyed k → IsDoneWithin x (started_of w) w.blocks w.replies i b z
          → b.done.value ≤ 1
      once z same g = let d : IsDoneWithin x (started_of w) w.blocks w.replies i b (ask.Keyed k) =
          subst (λ (y : Ask K V D). IsDoneWithin x (started_of w) w.blocks w.replies i b y) same g in d.0.once

      by : (a : Ask K V D) → a ≡ ask.Keyed k → IsAnsweredBy x w.blocks s.thread p.next a r → b.done.value ≡ 1
      by (ask.Keyed g) same h =
          let placed = sound.placed.placed i b hb in
          let le = once placed.ask (same_Some placed.ask (ask.Keyed k) (sym placed.asked ∙ asked')) placed.done in
          ⊎_elim
          (λ told.
          let block : told.block ≡ b = one-block i told.place b told.block (keyed_key k) key hb told.listed
          (told.thread ∙ sym thread) (told.call ∙ sym call) in
          let pos : 0 < b.done.value = subst (λ (z : Block K). 0 < z.done.value) block told.done in omega arith)
          (λ refused. absurd (refused.1 i b hb thread call)) h
      by (ask.Begin g) same h = absurd cc
      by (ask.Held g) same h = absurd cc
      by (ask.Walk f) same h = absurd cc

  pub sound-answers : Answers x w s w' → Goes x s.thread w w'
  sound-answers a =
      let p = a.place in
      let st = sound.stands s.thread p a.stands in
      let cl = claim-at x (threads_of w) w.blocks w.replies w.tables s.thread p (phase.Answer a.answer) a.before st in
      let call = cl.1 in
      let p' : Place K V D T A =
      record p {
        next = p.next + 1;
        started = None;
        block = block_after p;
        visits = [];
        count = 0;
        phase = phase.Rest;
      } in
      let r : Reply K V T A =
      record { thread = s.thread; call = p.next; start = a.start; end = next_step w; answer = a.answer } in
      let e = ended-call x w.blocks a.blocks s.thread p st.own_block st.own_visits st.owns (next_step w) a.ended in
      let number : next_step w ≡ length (threads_of w) + 1 =
      ap (λ k. k + 1) (sym (length-map (λ (z : Step). z.thread) w.steps)) in
      let start : call.start ≡ a.start = same_Some call.start a.start (sym call.started ∙ a.begun) in
      let begun : IsStepOf (threads_of w) s.thread a.start = subst (λ (z : ℕ). IsStepOf (threads_of w) s.thread z) start
      call.begun in
      subst (Goes x s.thread w) (sym a.after)
      (sound-by x w s p p' a.stands sound a.blocks w.tables w.locks (w.replies ++ r ∷ []) Anyhow
      (record {
        effect = effect-alike A x laws s.thread p.next (next_step w) w.blocks a.blocks e.0;
        count = λ u ne. answered_of-other w.replies r u (λ z. ne (sym z));
        kept = λ u q m ne hq h. refl;
        foreign = λ u q k ne hq alone there. tt;
        shards = refl;
      })
      (record {
        program = st.program;
        has = st.has;
        asks_left = taken-at x (threads_of w) w.blocks w.replies w.tables s.thread p (phase.Answer a.answer) a.before
            st;
        within = within-at x (threads_of w) w.blocks w.replies w.tables s.thread p (phase.Answer a.answer) a.before st;
        answered = ap (λ k. k + 1) st.answered ∙ sym (answered_of-own w.replies r);
        own_block = λ i h. own-after a e.0 i (after-mine p.closes i h);
        own_visits = no-visits x a.blocks s.thread p' refl;
        owns = λ i c at thread.
            let o = alike-was s.thread p.next (next_step w) w.blocks a.blocks e.0 i c at in
            inl (rw o.2.call (elim (st.owns i o.0 o.1 (sym o.2.thread ∙ thread))
            [ inl lt ↦ omega arith | inr mine ↦ let z = mine.0 in omega arith ]));
        claim = (
          refl,
          cl.2,
          ended-ready x w.blocks a.blocks w.tables s.thread p.next (next_step w) p p' laws e.0 refl
              refl refl (p.next + 1) (session_of x s.thread (p.next + 1)) (block_after p) cl.4,
        );
        walks = record {
          visits = refl;
          reads = walks-at x (threads_of w) w.blocks w.replies w.tables s.thread p
              (phase.Answer a.answer) a.before st;
          count = refl;
        };
      })
      (tables-same x w.blocks a.blocks w.tables sound.tables
      (contents-alike x s.thread p.next (next_step w) w.blocks a.blocks e.0))
      (holds-same w.places w.locks sound.holds s.thread p p' a.stands refl a.out)
      (placed-answer x (threads_of w) (started_of w) (started_of (stepped w s p')) w.blocks a.blocks w.replies r
      (λ t ne. started-other x w s p p' a.stands t ne)
      (started-was x w s p p' a.stands ∙ a.begun)
      begun number st.answered e.0 e.1
      (λ i b k hb thread callee asked. whole-done p cl.0 a.answer cl.3 call.asked i b k hb thread callee asked)
      sound.placed)
      (λ i q hq. elim (slice_get-push_cases w.replies i q r hq) [
        | inl old ↦ let g = sound.replies i q old in
            record {
              ask = g.ask;
              asked = g.asked;
              answered = answered-alike A x laws s.thread p.next (next_step w)
                  w.blocks a.blocks e.0 q.thread q.call g.ask q.answer g.answered;
            }
        | inr new ↦ subst (λ (z : Reply K V T A). IsAnswered x a.blocks z.thread z.call z.answer) (sym new.1)
            (record {
              ask = cl.0;
              asked = call.asked;
              answered = answered-alike A x laws s.thread p.next (next_step w)
                  w.blocks a.blocks e.0 s.thread p.next cl.0 a.answer cl.3;
            })
      ]))
    where
      own-after : (a : Answers x w s w') → AreAlike s.thread a.place.next (next_step w) w.blocks a.blocks → (i : ℕ)
          → a.place.block ≡ Some i → (b : Block K) × (slice_get a.blocks i ≡ Some b) × (b.thread ≡ s.thread)
      own-after a e i mine =
          let o = (sound.stands s.thread a.place a.stands).own_block i mine in
          let k = alike-comes s.thread a.place.next (next_step w) w.blocks a.blocks e i o.0 o.1 in
          (k.0, k.1, k.2.thread ∙ o.2)

      after-mine : (closes : Bool) (i : ℕ) → (if closes then None else a.place.block) ≡ Some i → a.place.block ≡ Some i
      after-mine true i h = absurd (none-some i h)
      after-mine false i h = h
