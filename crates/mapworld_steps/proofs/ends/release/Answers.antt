use Rattle.std.proofs.Common.{◌≡◌, [], length, None, refl, sym, ap, ◌∙◌, arith, length-append, ◌-◌, ◌+◌}
use Rattle.std.proofs.lemmas.Option.{none-some, slice_get_within}
use Rattle.mapworld_state.specs.declared.place.Phase.TheVariants as phase
use Rattle.mapworld_state.specs.Places.{place_of}
use Rattle.mapworld_state.specs.Core.{owes, lists, adds}
use Rattle.mapworld_state.proofs.HoldsTable.{first-there, none-there}
use Rattle.mapworld_state.specs.Slots.{phase_key}
use Rattle.mapworld_state.proofs.LocksFacts.Sizes.{starts-size}
use Rattle.mapworld_transitions.proofs.Walking.{walking, plain-visits, plain-lists}
use Rattle.mapworld_transitions.proofs.Rooms.{shifted}
use Rattle.mapworld_transitions.proofs.Facts.{claim_at, next_fits, release_listed, stepped-by}
use Rattle.mapworld_transitions.proofs.Slots.{calls-counted, slots-kept}
use Rattle.mapworld_steps.proofs.Asking.{may-leave, given-gives, out-of-call}
use Rattle.mapworld_steps.proofs.Kept.{kept_here, stands_here, phase_here, only_hold}
use Rattle.mapworld_steps.proofs.ends.release.Goals as goal

pub take_first-hold-requires : goal.take_first-hold-requires
take_first-hold-requires g c =
    let b = c.requires.before.1 in
    let r = c.index_mut-place.result.now in
    let p = place_of r in
    let here = stands_here c.args.core.now.places.items b r c.index_mut-place.ensures.value in
    let claim = claim_at c.requires.sound c.args.step.thread p here
    (phase_here c.args.core.now.places.items b r c.index_mut-place.ensures.value) in
    (claim.1, [], claim.3)

pub start-requires-clause-may : goal.start-requires-clause-may
start-requires-clause-may g c =
    let b = c.requires.before.1 in
    let r = c.index_mut-place.result.now in
    let p = place_of r in
    let here = stands_here c.args.core.now.places.items b r c.index_mut-place.ensures.value in
    let before = phase_here c.args.core.now.places.items b r c.index_mut-place.ensures.value in
    let hold = c.take_first-hold.result in
    let mine = first-there p.holds hold _ c.take_first-hold.ensures in
    let holds = c.requires.sound.holds in
    let room = c.requires.room in
    rw c.gives_up-call.ensures
    (may-leave holds _ _ room.locks c.args.step.thread p here (slice_get_within _ c.args.step.thread p here)
    (out-of-call holds c.args.step.thread p here (phase.Release c.requires.before.0) before refl) 0 hold mine
    (room.held c.args.step.thread 0 p hold here mine))

pub start-requires-clause-gives : goal.start-requires-clause-gives
start-requires-clause-gives g c = rw c.gives_up-call.ensures (given-gives c.take_first-hold.result.mode)

pub unreachable-requires : goal.unreachable-requires
unreachable-requires g c =
    let b = c.requires.before.1 in
    let r = c.index_mut-place.result.now in
    c.in_default.not-Release c.requires.before.0
    (c.replace.ensures.value ∙ phase_here c.args.core.now.places.items b r c.index_mut-place.ensures.value)

pub count_in-requires-clause-listed : goal.count_in-requires-clause-listed
count_in-requires-clause-listed g c i e =
    let b = c.requires.before.1 in
    let r = c.index_mut-place.result.now in
    let p = place_of r in
    let here = stands_here c.args.core.now.places.items b r c.index_mut-place.ensures.value in
    let before = sym c.replace.ensures.value ∙ c.in-Release.is in
    release_listed c.requires.sound c.args.step.thread p here c.in-Release.answer before i
    (sym c.release_counts-counts.ensures ∙ e)

pub count_in-requires-clause-fits : goal.count_in-requires-clause-fits
count_in-requires-clause-fits g c =
    let b = c.requires.before.1 in
    let r = c.index_mut-place.result.now in
    let p = place_of r in
    let here = stands_here c.args.core.now.places.items b r c.index_mut-place.ensures.value in
    let fits = next_fits c.requires.sound c.args.step.thread p here
    (phase_here c.args.core.now.places.items b r c.index_mut-place.ensures.value) in
    omega (arith, fits, c.requires.room.calls_fit)

pub returns-clause-step : goal.returns-clause-step
returns-clause-step g c =
    let b = c.requires.before.1 in
    let r = c.index_mut-place.result.now in
    let p = place_of r in
    let here = stands_here c.args.core.now.places.items b r c.index_mut-place.ensures.value in
    let before = sym c.replace.ensures.value ∙ c.in-Release.is in
    let hold = c.take_first-hold.result in
    record {
      place = p;
      stands = here;
      answer = c.in-Release.answer;
      before = before;
      hold = hold;
      more = c.take_first-hold.new.holds.items;
      holds = c.take_first-hold.ensures;
      locks = c.start.new.self;
      gives = rw c.gives_up-call.ensures at c.start.ensures;
      blocks = c.count_in.new.blocks.items;
      counted = rw c.release_counts-counts.ensures at c.count_in.ensures.counted;
      after = rw c.enter.ensures
          (stepped-by c.args.core.now c.args.step _ _ _ c.args.core.now.tables.items _ _ _ _ c.appended-core.ensures
          refl refl);
    }

pub returns-clause-room : goal.returns-clause-room
returns-clause-room g c =
    let b = c.requires.before.1 in
    let r = c.index_mut-place.result.now in
    let p = place_of r in
    let here = stands_here c.args.core.now.places.items b r c.index_mut-place.ensures.value in
    let before = sym c.replace.ensures.value ∙ c.in-Release.is in
    let claim = claim_at c.requires.sound c.args.step.thread p here before in
    let hold = c.take_first-hold.result in
    let more = c.take_first-hold.new.holds.items in
    let none : more ≡ [] = (only_hold p.holds hold claim.1 more c.take_first-hold.ensures claim.3).1 in
    let after = record r { holds = c.take_first-hold.new.holds; guard = None; phase = c.enter.new.phase } in
    let shards = length c.args.core.now.tables.items - (p.shard + 1) in
    let plain = ap walking c.enter.ensures in
    shifted _ _ c.args.step.thread r after c.requires.room (record {
      here = kept_here c.args.core.now.places.items b r c.index_mut-place.ensures.value;
      places = refl;
      numbers = c.requires.numbers;
      steps = simp length-append at (ap length c.appended-core.ensures);
      count = refl;
      programs = refl;
      tables = refl;
      held = λ i h has. absurd (none-there more i h none has);
      locks = starts-size _ _ c.args.step.thread hold.shard c.gives_up-call.result c.args.step.fair c.start.ensures;
      unanswered = omega (arith, ap owes c.enter.ensures, ap owes before);
      answers = omega (arith, ap owes c.enter.ensures, ap owes before);
      replies = refl;
      listing = omega (arith, ap (lists shards) c.enter.ensures, ap (lists shards) before, c.count_in.ensures.len);
      blocks = c.count_in.ensures.capacity;
      visits = plain-visits p (place_of after) refl plain;
      capacity = refl;
      lists = let due = plain-lists p (place_of after) refl plain in omega (arith, due);
      adding = omega (arith, ap adds c.enter.ensures, ap adds before);
      pairs = c.requires.room.pairs;
      more_blocks = omega (arith, c.count_in.ensures.len);
      listed = λ i e. let below = c.requires.room.listed c.args.step.thread p i here e in
          omega (arith, below, c.count_in.ensures.len);
    })

pub returns-clause-slots : goal.returns-clause-slots
returns-clause-slots g c =
    let r = c.index_mut-place.result.now in
    slots-kept _ _ c.args.core.now c.requires.sound c.requires.slots c.args.step.thread r _
    (kept_here c.args.core.now.places.items c.requires.before.1 r c.index_mut-place.ensures.value) _
    (calls-counted c.args.step.thread _ _ _ _ c.count_in.ensures.counted) (λ kind lends. absurd (none-some kind lends))
    (λ i e. e) (ap phase_key c.enter.ensures) refl refl (ap walking c.enter.ensures)
