-- What ends with the step of an answer: what was owed to a lock, a try that could not have its shard, or a walk that
-- was to give no item.
use Rattle.std.proofs.Common.{◌≡◌, ℕ, ◌+◌, ◌⊎◌, inl, inr, true, List, [], Some, None, slice_get, refl, ap, sym}
use Rattle.std.proofs.Common.{◌∙◌, subst, arith}
use Rattle.std.proofs.lemmas.Option.{same_Some, none-some}
use Rattle.mapworld_calls.specs.declared.ask.Ask.TheVariants as ask
use Rattle.mapworld_calls.specs.declared.ask.Walk.{Walk}
use Rattle.mapworld_calls.specs.declared.ask.Walk.TheVariants as walk
use Rattle.mapworld_calls.specs.declared.block.Block.{Block}
use Rattle.mapworld_calls.specs.declared.reply.Answer.{Answer}
use Rattle.mapworld_calls.specs.declared.reply.Answer.TheVariants as answer
use Rattle.mapworld_calls.specs.Programs.{stop_of}
use Rattle.mapworld_calls.specs.Setup.{Setup, ask_at}
use Rattle.mapworld_calls.specs.Agrees.{HasNoBlock, HasRead, IsWalkAnswer, IsAnsweredBy}
use Rattle.mapworld_state.specs.Locks.Aims.{Gets}
use Rattle.mapworld_state.specs.Locks.Stands.{Stand}
use Rattle.mapworld_state.specs.declared.place.Request.{Request}
use Rattle.mapworld_state.specs.declared.place.Request.TheVariants as request
use Rattle.mapworld_state.specs.declared.place.Phase.TheVariants as phase
use Rattle.mapworld_state.specs.Places.{Place}
use Rattle.mapworld_state.specs.State.{State, threads_of}
use Rattle.mapworld_state.specs.Holds.{at_desk}
use Rattle.mapworld_state.specs.Moves.{ask_of, keyed_manner, opening_manner, request_manner, mode_of}
use Rattle.mapworld_state.specs.Steps.{IsLocked, GivesNone, Concludes, owed, locked, idle}
use Rattle.mapworld_state.specs.Sound.{may_own, block_after, IsReady, Sound}
use Rattle.mapworld_state.proofs.HoldsTable.{none-there}
use Rattle.mapworld_state.proofs.InvariantFacts.Holding.{owes-none, stand-at, holds-same, holds-refused}
use Rattle.mapworld_state.proofs.InvariantFacts.Building.{in_call-moved, claim-at, taken-at, within-at, walks-at}
use Rattle.mapworld_state.proofs.InvariantFacts.Building.{none-at, no-visits, ready-outside, block_after-none}
use Rattle.mapworld_state.proofs.InvariantFacts.Admitting.{owns-on, sound-silent, sound-leaves, none-yet, walk-apart}
use Rattle.mapworld_state.proofs.InvariantFacts.Admitting.{unopened-ready}
use Rattle.mapworld_calls.proofs.Walking.{none-visited}
use Rattle.mapworld_calls.specs.declared.ask.Keyed.{Keyed}
use Rattle.mapworld_calls.specs.declared.ask.Keyed.TheVariants as keyed
use Rattle.mapworld_calls.specs.declared.ask.Begin.{Begin}
use Rattle.mapworld_calls.specs.declared.ask.Begin.TheVariants as begin
use Rattle.std.proofs.Common.{◌≢◌}
use Rattle.mapworld_state.specs.Holds.{tries_so, has_deadline_so}
use Rattle.mapworld_state.specs.declared.holds.Manner.TheVariants.{Waits}
use Rattle.mapworld_calls.specs.Programs.{keyed_has_deadline, opening_may_be_locked}
use Rattle.mapworld_state.proofs.InvariantFacts.Admitting.{keyed-apart}

-- a walk that was to give no item is answered by what it has read without a visit
unvisited-answer : {K V D T A : Type 0} (x : Setup K V D T) (bs : List (Block K)) (f : Walk D) (a : Answer K V T A)
    → stop_of f ≡ Some 0 → HasRead [] a → IsWalkAnswer x bs f [] a
unvisited-answer x bs (walk.Iter d s) a is read = read
unvisited-answer x bs (walk.IterMut d s) a is read = read
unvisited-answer x bs f a is read = absurd (none-some 0 is)

-- a call that doesn't just wait may be answered that it is locked
keyed-locked : {K V D : Type 0} (k : Keyed K V D) → keyed_manner k ≢ Waits → keyed_has_deadline k ≡ true
keyed-locked (keyed.InsertUntil k v) hurried = refl
keyed-locked (keyed.RemoveUntil k) hurried = refl
keyed-locked k hurried = absurd (hurried refl)

opening-locked : {K : Type 0} (b : Begin K) → opening_manner b ≢ Waits → opening_may_be_locked b ≡ true
opening-locked (begin.TryGet k) hurried = refl
opening-locked (begin.TryGetMut k) hurried = refl
opening-locked (begin.TryEntry k) hurried = refl
opening-locked (begin.GetUntil k) hurried = refl
opening-locked (begin.GetMutUntil k) hurried = refl
opening-locked b hurried = absurd (hurried refl)

module _ {K V S D T A : Type 0} (x : Setup K V D T) (w : State K V S D T A) (t : ℕ) (mid : State K V S D T A)
    (sound : Sound x w) where
  -- what a call that doesn't just wait and couldn't have its shard is answered, and where it leads
  refused-call : (p : Place K V D T A) → slice_get w.places t ≡ Some p → (r : Request K V D) → p.phase ≡ phase.Admit r
      → ask_at x t p.next ≡ Some (ask_of r) → request_manner r ≢ Waits → (p' : Place K V D T A) → p'.guard ≡ None
      → block_after p' ≡ None
      → IsAnsweredBy {A = A} x w.blocks t p.next (ask_of r) answer.Locked
      × IsReady x w.blocks w.tables t p' (p.next + 1) (block_after p')
  refused-call p at (request.Keyed k) before asked hurried p' guard block =
      let outside = keyed-apart x w t sound p (sound.stands t p at) k asked in (
        inr (inr (refl, keyed-locked k hurried), none-yet x w t sound p at (ap may_own before)),
        ready-outside x w.blocks w.tables t p' (p.next + 1) (block_after p') outside.1 guard block,
      )
  refused-call p at (request.Begin b) before asked hurried p' guard block = (
    inr (inr (refl, opening-locked b hurried), none-yet x w t sound p at (ap may_own before)),
    unopened-ready x w t sound p at (ap may_own before) b asked w.tables p' guard block,
  )

  sound-locked : IsLocked w t mid → Sound x mid
  sound-locked e =
      let p = e.place in
      let f = phase.Admit e.request in
      let p' : Place K V D T A = record p { phase = phase.Answer answer.Locked } in
      let st = sound.stands t p e.stands in
      let c = claim-at x (threads_of w) w.blocks w.replies w.tables t p f e.before st in
      let none = none-at x (threads_of w) w.blocks w.replies w.tables t p f e.before st refl in
      let wants = stand-at w.places w.locks sound.holds t p e.stands f e.before in
      let stand : e.ends.stand ≡ record {
        shard = p.shard;
        aim = Gets (at_desk (mode_of e.request));
        trying = tries_so (request_manner e.request);
        timed = has_deadline_so (request_manner e.request);
      } = same_Some e.ends.stand _ (sym e.ends.stood ∙ wants.is) in
      let aim = ap (λ (z : Stand). z.aim) stand in
      let hurried : request_manner e.request ≢ Waits = λ waits. e.unowned
      (e.ends.patient (at_desk (mode_of e.request)) aim
      (ap (λ (z : Stand). z.trying) stand ∙ ap tries_so waits)
      (ap (λ (z : Stand). z.timed) stand ∙ ap has_deadline_so waits)) in
      let told = refused-call p e.stands e.request e.before c.0.asked hurried p' c.1.guard
      (block_after-none p' c.1.block) in
      subst (Sound x) (sym e.after) (sound-silent x w t p p' e.stands sound e.locks refl
      (record {
        program = st.program;
        has = st.has;
        asks_left = taken-at x (threads_of w) w.blocks w.replies w.tables t p f e.before st;
        within = within-at x (threads_of w) w.blocks w.replies w.tables t p f e.before st;
        answered = st.answered;
        own_block = st.own_block;
        own_visits = no-visits x w.blocks t p' none.visits;
        owns = owns-on w.blocks t p p' st.owns refl refl refl (λ own. refl);
        claim = (
          ask_of e.request,
          in_call-moved x p p' (threads_of w) t _ refl refl refl c.0,
          (λ z. c.2),
          told.0,
          told.1,
        );
        walks = none.reads;
      })
      (holds-refused w.places w.locks sound.holds t p p' e.stands refl e.ended e.unowned e.locks e.ends
      (at_desk (mode_of e.request)) aim tt))

  sound-idle : GivesNone w t mid → Sound x mid
  sound-idle e =
      let p = e.place in
      let f = phase.Idle e.walk in
      let p' : Place K V D T A = record p { phase = phase.Answer e.answer } in
      let st = sound.stands t p e.stands in
      let c = claim-at x (threads_of w) w.blocks w.replies w.tables t p f e.before st in
      let walks = walks-at x (threads_of w) w.blocks w.replies w.tables t p f e.before st in
      let none = walks.0 in
      let outside = walk-apart x w t sound p st e.walk c.0.asked in
      let unlisted : HasNoBlock w.blocks t p.next = λ i b at thread call. elim (st.owns i b at thread) [
        | inl below ↦ omega (arith, below, call)
        | inr mine ↦ elim mine.1 [
          | inl own ↦ none-some i (sym c.1.0 ∙ own)
          | inr in_ ↦ none-there p.visits in_.0 i none.visits in_.1
        ]
      ] in
      subst (Sound x) (sym e.after) (sound-silent x w t p p' e.stands sound w.locks refl
      (record {
        program = st.program;
        has = st.has;
        asks_left = taken-at x (threads_of w) w.blocks w.replies w.tables t p f e.before st;
        within = within-at x (threads_of w) w.blocks w.replies w.tables t p f e.before st;
        answered = st.answered;
        own_block = st.own_block;
        own_visits = no-visits x w.blocks t p' none.visits;
        owns = owns-on w.blocks t p p' st.owns refl refl refl (λ own. refl);
        claim = (
          ask.Walk e.walk,
          in_call-moved x p p' (threads_of w) t _ refl refl refl c.0,
          (λ z. c.2),
          inl (record {
            visits = [];
            visited = none-visited x w.blocks t p.next e.walk unlisted;
            ended = inr walks.1;
            answered = unvisited-answer x w.blocks e.walk e.answer walks.1 e.told;
          }),
          ready-outside x w.blocks w.tables t p' (p.next + 1) (block_after p') outside.1 c.1.1
              (block_after-none p' c.1.0),
        );
        walks = none.reads;
      })
      (holds-same w.places w.locks sound.holds t p p' e.stands refl
      (owes-none p' _ (stand-at w.places w.locks sound.holds t p e.stands f e.before))))

  sound-concludes : Concludes w t mid → Sound x mid
  sound-concludes (owed e) = sound-leaves x w t mid sound e
  sound-concludes (locked e) = sound-locked e
  sound-concludes (idle e) = sound-idle e

  -- the world in which an answer is given
  pub sound-left : (mid ≡ w) ⊎ Concludes w t mid → Sound x mid
  sound-left h = elim h [ inl same ↦ subst (Sound x) (sym same) sound | inr e ↦ sound-concludes e ]
