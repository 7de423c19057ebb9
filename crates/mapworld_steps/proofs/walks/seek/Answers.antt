use Rattle.std.proofs.Common.{◌+◌, ◌-◌, length, refl, sym, ap, ◌∙◌, subst, arith, length-append}
use Rattle.mapworld_state.specs.Places.{place_of}
use Rattle.mapworld_state.specs.Classes.{class_of, walks_in}
use Rattle.mapworld_state.specs.Slots.{phase_key, SlotIsNext}
use Rattle.mapworld_state.specs.Core.{owes, lists, adds, phase_lists}
use Rattle.mapworld_transitions.proofs.Rooms.{shifted}
use Rattle.mapworld_transitions.proofs.Leading.{in-walk}
use Rattle.mapworld_transitions.proofs.Facts.{claim_at, stepped-by}
use Rattle.mapworld_transitions.proofs.Slots.{calls-same, slots-same_free, next-before}
use Rattle.mapworld_steps.proofs.Kept.{kept_here, stands_here, phase_here}
use Rattle.mapworld_state.proofs.LocksFacts.Sizes.{same_size}
use Rattle.mapworld_steps.proofs.walks.seek.Goals as goal

pub unreachable-requires : goal.unreachable-requires
unreachable-requires g c =
    let r = c.index_mut-place.result.now in
    c.in_default.not-Seek c.requires.before.0
    (c.replace.ensures.value ∙ phase_here c.args.core.now.places.items c.requires.before.1 r
    c.index_mut-place.ensures.value)

pub returns-clause-step : goal.returns-clause-step
returns-clause-step g c =
    let core = c.args.core.now in
    let t = c.args.step.thread in
    let b = c.requires.before.1 in
    let r = c.index_mut-place.result.now in
    let p = place_of r in
    let here = stands_here core.places.items b r c.index_mut-place.ensures.value in
    let before = sym c.replace.ensures.value ∙ c.in-Seek.is in
    record {
      place = p;
      stands = here;
      walk = c.in-Seek.walk;
      before = before;
      after = rw c.enter.ensures
          (stepped-by core c.args.step _ _ _ core.tables.items _ _ _ _ c.appended-core.ensures refl refl);
    }

pub returns-clause-room : goal.returns-clause-room
returns-clause-room g c =
    let core = c.args.core.now in
    let t = c.args.step.thread in
    let b = c.requires.before.1 in
    let r = c.index_mut-place.result.now in
    let p = place_of r in
    let here = stands_here core.places.items b r c.index_mut-place.ensures.value in
    let before = sym c.replace.ensures.value ∙ c.in-Seek.is in
    let more = length core.tables.items - (p.shard + 1) in
    shifted _ _ t r (record r { phase = c.enter.new.phase }) c.requires.room (record {
      here = kept_here core.places.items b r c.index_mut-place.ensures.value;
      places = refl;
      numbers = c.requires.numbers;
      steps = simp length-append at (ap length c.appended-core.ensures);
      count = refl;
      programs = refl;
      tables = refl;
      held = λ i h has. c.requires.room.held t i p h here has;
      locks = same_size;
      unanswered = omega (arith, ap owes c.enter.ensures, ap owes before);
      answers = omega (arith, ap owes c.enter.ensures, ap owes before);
      replies = refl;
      listing = omega (arith, ap (lists more) c.enter.ensures, ap (lists more) before);
      blocks = refl;
      visits = λ h. in-walk p (ap (λ z. walks_in (class_of z)) before);
      capacity = refl;
      lists = omega (arith, ap phase_lists c.enter.ensures, ap phase_lists before);
      adding = omega (arith, ap adds c.enter.ensures, ap adds before);
      pairs = c.requires.room.pairs;
      more_blocks = omega arith;
      listed = λ i e. c.requires.room.listed t p i here e;
    })

pub returns-clause-slots : goal.returns-clause-slots
returns-clause-slots g c =
    let core = c.args.core.now in
    let t = c.args.step.thread in
    let b = c.requires.before.1 in
    let r = c.index_mut-place.result.now in
    let p = place_of r in
    let here = stands_here core.places.items b r c.index_mut-place.ensures.value in
    let before = sym c.replace.ensures.value ∙ c.in-Seek.is in
    let kept = kept_here core.places.items b r c.index_mut-place.ensures.value in
    let claim = claim_at c.requires.sound t p here before in
    let next = subst (λ z. SlotIsNext g.K.PartialEq.eq core.tables.items core.blocks.items r z) before
    (c.requires.slots.next t r kept) in
    slots-same_free _ _ core c.requires.sound c.requires.slots t r (record r { phase = c.enter.new.phase }) kept
    core.blocks.items (calls-same t _ _ refl) claim.1.1 (ap phase_key c.enter.ensures)
    (subst (λ z. SlotIsNext g.K.PartialEq.eq core.tables.items core.blocks.items
    (record r { phase = c.enter.new.phase }) z) (sym c.enter.ensures)
    (next-before g.K.PartialEq.eq core.tables.items core.blocks.items r c.in-Seek.walk c.enter.new.phase next))
