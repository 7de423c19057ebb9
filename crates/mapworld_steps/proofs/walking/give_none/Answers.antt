use Rattle.std.proofs.Common.{◌+◌, ◌-◌, inr, length, slice_set, refl, sym, ap, ap₂, ◌∙◌, subst, arith}
use Rattle.std.proofs.lemmas.List.{map-set}
use Rattle.mapworld_calls.proofs.Lists.{slice_get-set_same}
use Rattle.mapworld_state.proofs.LocksFacts.Sizes.{same_size}
use Rattle.mapworld_state.specs.declared.place.Phase.TheVariants as phase
use Rattle.mapworld_state.specs.Places.{place_of}
use Rattle.mapworld_state.specs.Walks.{IsTold}
use Rattle.mapworld_state.specs.Slots.{phase_key}
use Rattle.mapworld_state.specs.Steps.{idle}
use Rattle.mapworld_state.specs.Core.{state_of, owes, lists, adds, phase_lists}
use Rattle.mapworld_state.proofs.Views.{view-at}
use Rattle.mapworld_state.proofs.InvariantFacts.Concluding.{sound-left}
use Rattle.mapworld_transitions.proofs.Slots.{calls-same, slots-same_free}
use Rattle.mapworld_transitions.proofs.Walking.{walking, next-free, plain-visits}
use Rattle.mapworld_transitions.proofs.Rooms.{moved}
use Rattle.mapworld_transitions.proofs.Facts.{claim_at, walks_at}
use Rattle.mapworld_steps.proofs.Asking.{out-of-call}
use Rattle.mapworld_steps.proofs.Kept.{kept_here, stands_here, phase_here}
use Rattle.mapworld_steps.proofs.Reaching.{told-none}
use Rattle.mapworld_steps.proofs.walking.give_none.Goals as goal

pub unreachable-requires : goal.unreachable-requires
unreachable-requires g c =
    let r = c.index_mut-place.result.now in
    c.in_default.not-Idle c.requires.before.0
    (c.replace.ensures.value ∙ phase_here c.args.core.now.places.items c.requires.before.1 r
    c.index_mut-place.ensures.value)

pub walk_answer-answer-requires : goal.walk_answer-answer-requires
walk_answer-answer-requires g c =
    let core = c.args.core.now in
    let t = c.args.thread in
    let b = c.requires.before.1 in
    let r = c.index_mut-place.result.now in
    let p = place_of r in
    let here = stands_here core.places.items b r c.index_mut-place.ensures.value in
    let before = sym c.replace.ensures.value ∙ c.in-Idle.is in
    let due = c.requires.room.lists t r (kept_here core.places.items b r c.index_mut-place.ensures.value) in
    omega (arith, due, ap phase_lists before)

pub returns-clause-gives : goal.returns-clause-gives
returns-clause-gives g c =
    let core = c.args.core.now in
    let t = c.args.thread in
    let b = c.requires.before.1 in
    let r = c.index_mut-place.result.now in
    let p = place_of r in
    let here = stands_here core.places.items b r c.index_mut-place.ensures.value in
    let before = sym c.replace.ensures.value ∙ c.in-Idle.is in
    let f = c.in-Idle.walk in
    let none = walks_at c.requires.sound t p here before in
    record {
      place = p;
      stands = here;
      walk = f;
      before = before;
      answer = c.walk_answer-answer.result;
      told = told-none f c.walk_answer-answer.result none.1
          (subst (λ rs. IsTold f rs 0 c.walk_answer-answer.result) none.0.reads c.walk_answer-answer.ensures.told);
      after = ap (λ ps. record (state_of core) { places = ps }) (map-set place_of core.places.items t _
          ∙ ap₂ (λ rs ph. slice_set (state_of core).places t (record p { reads = rs; phase = ph }))
          (c.walk_answer-answer.ensures.empty ∙ sym none.0.reads) c.enter.ensures);
    }

pub returns-clause-told : goal.returns-clause-told
returns-clause-told g c =
    let core = c.args.core.now in
    let t = c.args.thread in
    let b = c.requires.before.1 in
    let r = c.index_mut-place.result.now in
    let p = place_of r in
    let here = stands_here core.places.items b r c.index_mut-place.ensures.value in
    let before = sym c.replace.ensures.value ∙ c.in-Idle.is in
    let kept = kept_here core.places.items b r c.index_mut-place.ensures.value in (
      c.walk_answer-answer.result,
      record {
        place = _;
        stands = view-at place_of (slice_set core.places.items t _) t _
            (slice_get-set_same core.places.items t r _ kept);
        before = c.enter.ensures;
      },
    )

pub returns-clause-out : goal.returns-clause-out
returns-clause-out g c =
    let core = c.args.core.now in
    let t = c.args.thread in
    let b = c.requires.before.1 in
    let r = c.index_mut-place.result.now in
    let p = place_of r in
    let here = stands_here core.places.items b r c.index_mut-place.ensures.value in
    let before = sym c.replace.ensures.value ∙ c.in-Idle.is in
    out-of-call c.requires.sound.holds t p here (phase.Idle c.in-Idle.walk) before refl

pub returns-clause-sound : goal.returns-clause-sound
returns-clause-sound g c = sound-left _ (state_of c.args.core.now) c.args.thread _ c.requires.sound
    (inr (idle (returns-clause-gives g c)))

pub returns-clause-room : goal.returns-clause-room
returns-clause-room g c =
    let core = c.args.core.now in
    let t = c.args.thread in
    let b = c.requires.before.1 in
    let r = c.index_mut-place.result.now in
    let p = place_of r in
    let here = stands_here core.places.items b r c.index_mut-place.ensures.value in
    let before = sym c.replace.ensures.value ∙ c.in-Idle.is in
    let after = record r {
      reads = c.walk_answer-answer.new.reads;
      lists = c.walk_answer-answer.new.lists;
      phase = c.enter.new.phase;
    } in
    let more = length core.tables.items - (p.shard + 1) in
    let plain = ap walking c.enter.ensures in
    moved core _ core.locks t r after c.requires.room (kept_here core.places.items b r c.index_mut-place.ensures.value)
    refl
    (omega (arith, ap owes c.enter.ensures, ap owes before))
    (omega (arith, ap (lists more) c.enter.ensures, ap (lists more) before))
    (omega (arith, ap adds c.enter.ensures, ap adds before)) refl
    (plain-visits p (place_of after) refl plain) refl
    (omega (arith, ap phase_lists c.enter.ensures, ap phase_lists before, c.walk_answer-answer.ensures.left))
    (λ i h has. c.requires.room.held t i p h here has) same_size

pub returns-clause-slots : goal.returns-clause-slots
returns-clause-slots g c =
    let core = c.args.core.now in
    let t = c.args.thread in
    let b = c.requires.before.1 in
    let r = c.index_mut-place.result.now in
    let p = place_of r in
    let here = stands_here core.places.items b r c.index_mut-place.ensures.value in
    let before = sym c.replace.ensures.value ∙ c.in-Idle.is in
    let claim = claim_at c.requires.sound t p here before in
    slots-same_free _ _ core c.requires.sound c.requires.slots t r
    (record r {
      reads = c.walk_answer-answer.new.reads;
      lists = c.walk_answer-answer.new.lists;
      phase = c.enter.new.phase;
    }) (kept_here core.places.items b r c.index_mut-place.ensures.value)
    core.blocks.items (calls-same t _ _ refl) claim.1.1 (ap phase_key c.enter.ensures)
    (next-free _ _ _ _ _ (ap walking c.enter.ensures))
