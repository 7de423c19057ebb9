use Rattle.std.proofs.Common.{length, slice_get, is_some, refl, ap, sym, ◌∙◌, arith, length-append, ◌+◌, ◌-◌, None}
use Rattle.std.proofs.Common.{if◌then◌else◌}
use Rattle.mapworld_state.specs.Places.{Place, place_of}
use Rattle.mapworld_state.specs.Moves.{lent_way}
use Rattle.mapworld_state.specs.Slots.{phase_key}
use Rattle.mapworld_state.specs.declared.place.Place.{Place as KeptPlace}
use Rattle.mapworld_transitions.proofs.Slots.{calls-over, slots-kept}
use Rattle.mapworld_transitions.proofs.Walking.{walking, plain-visits, plain-lists}
use Rattle.std.proofs.lemmas.Option.{slice_get_within}
use Rattle.mapworld_state.specs.declared.place.Phase.TheVariants as phase
use Rattle.mapworld_state.specs.Core.{owed, owes, may_list, lists, may_add, adds}
use Rattle.mapworld_state.proofs.LocksFacts.Sizes.{same_size}
use Rattle.mapworld_transitions.proofs.Rooms.{shifted, answer_left}
use Rattle.mapworld_transitions.proofs.Facts.{claim_at, call_fits, kept_block, stepped-by}
use Rattle.mapworld_steps.proofs.Kept.{kept_here, stands_here, phase_here}
use Rattle.mapworld_steps.proofs.ends.answer.Goals as goal

pub unreachable-requires : goal.unreachable-requires
unreachable-requires g c =
    let b = c.requires.before.1 in
    let r = c.index_mut-place.result.now in
    let p = place_of r in
    let here = stands_here c.args.core.now.places.items b r c.index_mut-place.ensures.value in
    let claim = claim_at c.requires.sound c.args.step.thread p here
    (phase_here c.args.core.now.places.items b r c.index_mut-place.ensures.value) in
    c.in_default.not-Some claim.1.start claim.1.started

pub leave_call-answer-requires-clause-before : goal.leave_call-answer-requires-clause-before
leave_call-answer-requires-clause-before g c = (
  c.requires.before.0,
  phase_here c.args.core.now.places.items c.requires.before.1 c.index_mut-place.result.now
      c.index_mut-place.ensures.value,
)

pub leave_call-answer-requires-clause-fits : goal.leave_call-answer-requires-clause-fits
leave_call-answer-requires-clause-fits g c =
    let b = c.requires.before.1 in
    let r = c.index_mut-place.result.now in
    let p = place_of r in
    let here = stands_here c.args.core.now.places.items b r c.index_mut-place.ensures.value in
    let fits = call_fits c.requires.sound c.args.step.thread p here
    (phase_here c.args.core.now.places.items b r c.index_mut-place.ensures.value) refl in
    omega (arith, fits, c.requires.room.calls_fit)

pub end_call-requires-clause-block : goal.end_call-requires-clause-block
end_call-requires-clause-block g c i e =
    let r = c.index_mut-place.result.now in
    let here = stands_here c.args.core.now.places.items c.requires.before.1 r c.index_mut-place.ensures.value in
    c.requires.room.listed c.args.step.thread (place_of r) i here e

pub end_call-requires-clause-visits : goal.end_call-requires-clause-visits
end_call-requires-clause-visits g c m i e =
    let r = c.index_mut-place.result.now in
    let here = stands_here c.args.core.now.places.items c.requires.before.1 r c.index_mut-place.ensures.value in
    let own = (c.requires.sound.stands c.args.step.thread (place_of r) here).own_visits.are i
    (m, ap (λ vs. slice_get vs m) (sym c.deref.ensures.value) ∙ e) in
    slice_get_within c.args.core.now.blocks.items i own.block own.listed

pub push_reserved-requires : goal.push_reserved-requires
push_reserved-requires g c =
    let r = c.index_mut-place.result.now in
    let p = place_of r in
    let here = stands_here c.args.core.now.places.items c.requires.before.1 r c.index_mut-place.ensures.value in
    (answer_left c.args.core.now c.args.step.thread p c.requires.room here
    (ap owes c.leave_call-answer.ensures.answer)).0

pub overflow_sub-core : goal.overflow_sub-core
overflow_sub-core g c =
    let r = c.index_mut-place.result.now in
    let p = place_of r in
    let here = stands_here c.args.core.now.places.items c.requires.before.1 r c.index_mut-place.ensures.value in
    (answer_left c.args.core.now c.args.step.thread p c.requires.room here
    (ap owes c.leave_call-answer.ensures.answer)).1

pub returns-clause-step : goal.returns-clause-step
returns-clause-step g c =
    let b = c.requires.before.1 in
    let r = c.index_mut-place.result.now in
    let here = stands_here c.args.core.now.places.items b r c.index_mut-place.ensures.value in
    record {
      place = place_of r;
      stands = here;
      answer = c.leave_call-answer.result;
      before = c.leave_call-answer.ensures.answer;
      start = c.in-Some.start;
      begun = c.in-Some.is;
      out = c.requires.out;
      blocks = c.end_call.new.blocks.items;
      ended = rw (c.requires.room.count, c.deref.ensures.value) at c.end_call.ensures.ended;
      after = rw (c.push_reserved.ensures.items, c.requires.room.count)
          (stepped-by c.args.core.now c.args.step _ _ _ c.args.core.now.tables.items _ _ _ _ c.appended-core.ensures
          (ap place_of c.leave_call-answer.ensures.after
          ∙ ap (λ vs. record (place_of r) {
            next = r.next + 1;
            started = None;
            block = if r.closes then None else r.block;
            visits = vs;
            count = 0;
            phase = phase.Rest;
          }) c.leave_call-answer.ensures.none) refl);
    }

pub returns-clause-room : goal.returns-clause-room
returns-clause-room g c =
    let r = c.index_mut-place.result.now in
    let p = place_of r in
    let here = stands_here c.args.core.now.places.items c.requires.before.1 r c.index_mut-place.ensures.value in
    let before = c.leave_call-answer.ensures.answer in
    let after = ap place_of c.leave_call-answer.ensures.after in
    let left = answer_left c.args.core.now c.args.step.thread p c.requires.room here (ap owes before) in
    let p' = place_of c.leave_call-answer.new.place in
    let plain = ap (λ (q : Place _ _ _ _ _). walking q.phase) after in
    let asks = ap (λ (q : Place _ _ _ _ _). q.asks) after in
    let kept = ap (λ (z : KeptPlace _ _ _ _ _). length z.lists.items) c.leave_call-answer.ensures.after in
    let more = length c.args.core.now.tables.items in
    shifted _ _ c.args.step.thread r c.leave_call-answer.new.place c.requires.room (record {
      here = kept_here c.args.core.now.places.items c.requires.before.1 r c.index_mut-place.ensures.value;
      places = refl;
      numbers = c.requires.numbers;
      steps = simp length-append at (ap length c.appended-core.ensures);
      count = refl;
      programs = refl;
      tables = refl;
      held = λ i h has. c.requires.room.held c.args.step.thread i p h here
          (ap (λ (q : Place _ _ _ _ _). slice_get q.holds i) (sym after) ∙ has);
      locks = same_size;
      unanswered = omega (arith, left.1, ap owed after, ap owes before);
      answers = omega (
        arith,
        simp length-append at (ap length c.push_reserved.ensures.items),
        ap owed after,
        ap owes before,
      );
      replies = c.push_reserved.ensures.capacity;
      listing = omega (
        arith,
        c.end_call.ensures.len,
        ap (may_list more) after,
        ap (lists (more - (p.shard + 1))) before,
      );
      blocks = c.end_call.ensures.capacity;
      visits = plain-visits p p' asks plain;
      capacity = c.leave_call-answer.ensures.capacity;
      lists = let due = plain-lists p p' asks plain in omega (arith, due, kept);
      adding = omega (arith, ap may_add after, ap adds before);
      pairs = c.requires.room.pairs;
      more_blocks = omega (arith, c.end_call.ensures.len);
      listed = λ i e.
          let below = c.requires.room.listed c.args.step.thread p i here
          (kept_block p.closes p.block i (ap (λ (q : Place _ _ _ _ _). q.block) (sym after) ∙ e)) in
          omega (arith, below, c.end_call.ensures.len);
    })

pub returns-clause-slots : goal.returns-clause-slots
returns-clause-slots g c =
    let r = c.index_mut-place.result.now in
    let after = ap place_of c.leave_call-answer.ensures.after in
    slots-kept _ _ c.args.core.now c.requires.sound c.requires.slots c.args.step.thread r c.leave_call-answer.new.place
    (kept_here c.args.core.now.places.items c.requires.before.1 r c.index_mut-place.ensures.value) _
    (calls-over c.args.step.thread _ _ _ _ _ _ c.end_call.ensures.ended)
    (λ kind lends. ap is_some (ap (λ (q : Place _ _ _ _ _). lent_way q.guard) (sym after) ∙ lends))
    (λ i e. kept_block r.closes r.block i (ap (λ (q : Place _ _ _ _ _). q.block) (sym after) ∙ e))
    (ap (λ (q : Place _ _ _ _ _). phase_key q.phase) after) (ap (λ (q : Place _ _ _ _ _). q.shard) after)
    (ap (λ (z : KeptPlace _ _ _ _ _). z.slot) c.leave_call-answer.ensures.after)
    (ap (λ (q : Place _ _ _ _ _). walking q.phase) after)
