use Rattle.std.proofs.Common.{◌+◌, ◌-◌, Some, inr, length, slice_set, refl, sym, ap, ◌∙◌, arith}
use Rattle.std.proofs.lemmas.Option.{none-some}
use Rattle.std.proofs.lemmas.List.{map-set}
use Rattle.mapworld_calls.specs.declared.reply.Answer.TheVariants as answer
use Rattle.mapworld_calls.proofs.Lists.{slice_get-set_same}
use Rattle.mapworld_state.proofs.LocksFacts.Sizes.{ends-size}
use Rattle.mapworld_state.specs.Places.{place_of}
use Rattle.mapworld_state.specs.Moves.{lent_way}
use Rattle.mapworld_state.specs.Slots.{phase_key}
use Rattle.mapworld_state.specs.Steps.{locked}
use Rattle.mapworld_state.specs.Core.{state_of, owes, lists, adds}
use Rattle.mapworld_state.proofs.Views.{view-at}
use Rattle.mapworld_state.proofs.InvariantFacts.Concluding.{sound-left}
use Rattle.mapworld_transitions.proofs.Slots.{calls-same, slots-kept}
use Rattle.mapworld_transitions.proofs.Walking.{walking, plain-visits, plain-lists}
use Rattle.mapworld_transitions.proofs.Rooms.{moved}
use Rattle.mapworld_transitions.proofs.Facts.{claim_at}
use Rattle.mapworld_steps.proofs.Kept.{kept_here, stands_here, phase_here}
use Rattle.mapworld_steps.proofs.queues.refuse_call.Goals as goal

pub returns-clause-locked : goal.returns-clause-locked
returns-clause-locked g c =
    let core = c.args.core.now in
    let t = c.args.thread in
    let b = c.requires.before.1 in
    let r = c.index_mut-place.result.now in
    record {
      place = place_of r;
      stands = stands_here core.places.items b r c.index_mut-place.ensures.value;
      request = c.requires.before.0;
      before = phase_here core.places.items b r c.index_mut-place.ensures.value;
      locks = c.finish.new.self;
      ended = c.finish.result;
      unowned = λ owned. c.requires.unowned (c.finish.ensures.over ∙ ap (λ a. Some a) owned);
      ends = c.finish.ensures;
      after = ap (λ ps. record (state_of core) { places = ps; locks = c.finish.new.self })
          (map-set place_of core.places.items t _
          ∙ ap (λ f. slice_set (state_of core).places t (record (place_of r) { phase = f })) c.enter.ensures);
    }

pub returns-clause-told : goal.returns-clause-told
returns-clause-told g c =
    let core = c.args.core.now in
    let r = c.index_mut-place.result.now in
    let kept = kept_here core.places.items c.requires.before.1 r c.index_mut-place.ensures.value in (
      answer.Locked,
      record {
        place = _;
        stands = view-at place_of (slice_set core.places.items c.args.thread _)
            c.args.thread _ (slice_get-set_same core.places.items c.args.thread r _ kept);
        before = c.enter.ensures;
      },
    )

pub returns-clause-out : goal.returns-clause-out
returns-clause-out g c = c.finish.ensures.gone

pub returns-clause-sound : goal.returns-clause-sound
returns-clause-sound g c = sound-left _ (state_of c.args.core.now) c.args.thread _ c.requires.sound
    (inr (locked (returns-clause-locked g c)))

pub returns-clause-room : goal.returns-clause-room
returns-clause-room g c =
    let core = c.args.core.now in
    let t = c.args.thread in
    let r = c.index_mut-place.result.now in
    let p = place_of r in
    let here = stands_here core.places.items c.requires.before.1 r c.index_mut-place.ensures.value in
    let before = phase_here core.places.items c.requires.before.1 r c.index_mut-place.ensures.value in
    let after = record r { phase = c.enter.new.phase } in
    let more = length core.tables.items - (p.shard + 1) in
    let plain = ap walking c.enter.ensures in
    let due = plain-lists p (place_of after) refl plain in
    moved core _ c.finish.new.self t r after c.requires.room
    (kept_here core.places.items c.requires.before.1 r c.index_mut-place.ensures.value) refl
    (omega (arith, ap owes c.enter.ensures, ap owes before))
    (omega (arith, ap (lists more) c.enter.ensures, ap (lists more) before))
    (omega (arith, ap adds c.enter.ensures, ap adds before)) refl
    (plain-visits p (place_of after) refl plain) refl (omega (arith, due))
    (λ i h has. c.requires.room.held t i p h here has) (ends-size _ _ t c.finish.result c.finish.ensures)

pub returns-clause-slots : goal.returns-clause-slots
returns-clause-slots g c =
    let core = c.args.core.now in
    let r = c.index_mut-place.result.now in
    let p = place_of r in
    let here = stands_here core.places.items c.requires.before.1 r c.index_mut-place.ensures.value in
    let claim = claim_at c.requires.sound c.args.thread p here
    (phase_here core.places.items c.requires.before.1 r c.index_mut-place.ensures.value) in
    slots-kept _ _ core c.requires.sound c.requires.slots c.args.thread r _
    (kept_here core.places.items c.requires.before.1 r c.index_mut-place.ensures.value) _
    (calls-same c.args.thread _ _ refl)
    (λ kind lends. absurd (none-some kind (sym (ap lent_way claim.1.guard) ∙ lends))) (λ i e. e)
    (ap phase_key c.enter.ensures) refl refl (ap walking c.enter.ensures)
