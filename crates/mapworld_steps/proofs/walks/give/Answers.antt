use Rattle.std.proofs.Common.{◌+◌, ◌-◌, suc, length, slice_get, refl, sym, ap, ◌∙◌, subst, arith, length-append}
use Rattle.mapworld_state.specs.Places.{place_of}
use Rattle.mapworld_state.specs.Classes.{class_of, walks_in}
use Rattle.mapworld_state.specs.Slots.{phase_key, SlotIsNext}
use Rattle.mapworld_state.specs.Core.{owes, lists, adds, phase_lists}
use Rattle.mapworld_transitions.proofs.Rooms.{shifted}
use Rattle.mapworld_transitions.proofs.Leading.{in-walk}
use Rattle.mapworld_transitions.proofs.Facts.{claim_at, stepped-by}
use Rattle.mapworld_transitions.proofs.Slots.{calls-same, slots-same_free}
use Rattle.mapworld_steps.proofs.Kept.{kept_here, stands_here, phase_here}
use Rattle.std.proofs.lemmas.Option.{slice_get_within}
use Rattle.mapworld_state.specs.declared.place.Phase.TheVariants as phase
use Rattle.mapworld_state.specs.Holds.{gives_up}
use Rattle.mapworld_state.proofs.HoldsTable.{first-there}
use Rattle.mapworld_state.proofs.LocksFacts.Sizes.{starts-size}
use Rattle.mapworld_steps.proofs.Asking.{may-leave, out-of-call}
use Rattle.mapworld_steps.proofs.walks.give.Goals as goal

pub unreachable-requires : goal.unreachable-requires
unreachable-requires g c =
    let r = c.index_mut-place.result.now in
    c.in_default.not-Give c.requires.before.0
    (c.replace.ensures.value ∙ phase_here c.args.core.now.places.items c.requires.before.1 r
    c.index_mut-place.ensures.value)

pub give_first-requires-clause-first : goal.give_first-requires-clause-first
give_first-requires-clause-first g c =
    let core = c.args.core.now in
    let t = c.args.step.thread in
    let b = c.requires.before.1 in
    let r = c.index_mut-place.result.now in
    let p = place_of r in
    let here = stands_here core.places.items b r c.index_mut-place.ensures.value in
    let before = sym c.replace.ensures.value ∙ c.in-Give.is in
    let claim = claim_at c.requires.sound t p here before in
    (claim.2.hold, _, claim.2.has)

pub give_first-requires-clause-may : goal.give_first-requires-clause-may
give_first-requires-clause-may g c hold more is =
    let core = c.args.core.now in
    let t = c.args.step.thread in
    let b = c.requires.before.1 in
    let r = c.index_mut-place.result.now in
    let p = place_of r in
    let here = stands_here core.places.items b r c.index_mut-place.ensures.value in
    let before = sym c.replace.ensures.value ∙ c.in-Give.is in
    let holds = c.requires.sound.holds in
    let mine = first-there p.holds hold more is in
    may-leave holds _ _ c.requires.room.locks t p here (slice_get_within _ t p here)
    (out-of-call holds t p here (phase.Give c.in-Give.walk) before refl) 0 hold mine
    (c.requires.room.held t 0 p hold here mine)

pub returns-clause-step : goal.returns-clause-step
returns-clause-step g c =
    let core = c.args.core.now in
    let t = c.args.step.thread in
    let b = c.requires.before.1 in
    let r = c.index_mut-place.result.now in
    let p = place_of r in
    let here = stands_here core.places.items b r c.index_mut-place.ensures.value in
    let before = sym c.replace.ensures.value ∙ c.in-Give.is in
    let given = c.give_first.ensures in
    record {
      place = p;
      stands = here;
      walk = c.in-Give.walk;
      before = before;
      hold = given.0;
      more = c.give_first.new.holds.items;
      holds = given.1;
      locks = c.give_first.new.locks;
      gives = given.2;
      after = rw c.enter.ensures
          (stepped-by core c.args.step _ _ _ core.tables.items _ _ _ _ c.appended-core.ensures refl refl);
    }

pub returns-clause-room : goal.returns-clause-room
returns-clause-room g c =
    let core = c.args.core.now in
    let t = c.args.step.thread in
    let b = c.requires.before.1 in
    let r = c.index_mut-place.result.now in
    let p = place_of r in
    let here = stands_here core.places.items b r c.index_mut-place.ensures.value in
    let before = sym c.replace.ensures.value ∙ c.in-Give.is in
    let given = c.give_first.ensures in
    let more = length core.tables.items - (p.shard + 1) in
    shifted _ _ t r (record r { holds = c.give_first.new.holds; phase = c.enter.new.phase }) c.requires.room (record {
      here = kept_here core.places.items b r c.index_mut-place.ensures.value;
      places = refl;
      numbers = c.requires.numbers;
      steps = simp length-append at (ap length c.appended-core.ensures);
      count = refl;
      programs = refl;
      tables = refl;
      held = λ i h has. c.requires.room.held t (suc i) p h here (ap (λ hs. slice_get hs (suc i)) given.1 ∙ has);
      locks = starts-size _ _ t given.0.shard (gives_up given.0.mode) c.args.step.fair given.2;
      unanswered = omega (arith, ap owes c.enter.ensures, ap owes before);
      answers = omega (arith, ap owes c.enter.ensures, ap owes before);
      replies = refl;
      listing = omega (arith, ap (lists more) c.enter.ensures, ap (lists more) before);
      blocks = refl;
      visits = λ h. in-walk p (ap (λ z. walks_in (class_of z)) before);
      capacity = refl;
      lists = omega (arith, ap phase_lists c.enter.ensures, ap phase_lists before);
      adding = omega (arith, ap adds c.enter.ensures, ap adds before);
      pairs = c.requires.room.pairs;
      more_blocks = omega arith;
      listed = λ i e. c.requires.room.listed t p i here e;
    })

pub returns-clause-slots : goal.returns-clause-slots
returns-clause-slots g c =
    let core = c.args.core.now in
    let t = c.args.step.thread in
    let b = c.requires.before.1 in
    let r = c.index_mut-place.result.now in
    let p = place_of r in
    let here = stands_here core.places.items b r c.index_mut-place.ensures.value in
    let before = sym c.replace.ensures.value ∙ c.in-Give.is in
    let claim = claim_at c.requires.sound t p here before in
    slots-same_free _ _ core c.requires.sound c.requires.slots t r
    (record r { holds = c.give_first.new.holds; phase = c.enter.new.phase })
    (kept_here core.places.items b r c.index_mut-place.ensures.value) core.blocks.items (calls-same t _ _ refl)
    claim.1.1
    (ap phase_key c.enter.ensures)
    (subst (SlotIsNext g.K.PartialEq.eq core.tables.items core.blocks.items
    (record r { holds = c.give_first.new.holds; phase = c.enter.new.phase })) (sym c.enter.ensures) tt)
