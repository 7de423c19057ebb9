use Rattle.std.proofs.Common.{◌≡◌, [], ◌∷◌, is_some, length, Some, refl, ap, ◌∙◌, arith, length-append, ◌-◌, ◌+◌}
use Rattle.std.proofs.lemmas.Option.{slice_get_within}
use Rattle.parking_lot_machine_calls.specs.declared.calls.LockCall.TheVariants as call
use Rattle.mapworld_state.specs.declared.place.Phase.TheVariants as phase
use Rattle.mapworld_state.specs.declared.holds.Mode.TheVariants.{Shared}
use Rattle.mapworld_state.specs.declared.holds.Hold.{Hold}
use Rattle.mapworld_state.specs.declared.place.Way.TheVariants as way
use Rattle.mapworld_state.specs.declared.place.Guard.TheVariants as guard
use Rattle.mapworld_state.specs.Moves.{lent_way}
use Rattle.mapworld_state.specs.Slots.{phase_key}
use Rattle.mapworld_state.proofs.HoldsTable.{first-there, only-first}
use Rattle.mapworld_transitions.proofs.Walking.{walking, plain-visits, plain-lists}
use Rattle.mapworld_transitions.proofs.Slots.{calls-counted, slots-kept}
use Rattle.mapworld_state.specs.Core.{owes, lists, adds}
use Rattle.mapworld_state.proofs.LocksFacts.Sizes.{starts-size}
use Rattle.mapworld_transitions.proofs.Rooms.{shifted}
use Rattle.mapworld_steps.proofs.Asking.{may-share, out-of-call}
use Rattle.mapworld_state.specs.Places.{place_of}
use Rattle.mapworld_transitions.proofs.Facts.{claim_at, next_fits, session_counts, stepped-by}
use Rattle.mapworld_steps.proofs.Kept.{kept_here, stands_here, phase_here, only_hold}
use Rattle.mapworld_steps.proofs.ends.downgrade.Goals as goal

pub share_first-hold-requires : goal.share_first-hold-requires
share_first-hold-requires g c =
    let b = c.requires.before in
    let r = c.index_mut-place.result.now in
    let p = place_of r in
    let here = stands_here c.args.core.now.places.items b r c.index_mut-place.ensures.value in
    let claim = claim_at c.requires.sound c.args.step.thread p here
    (phase_here c.args.core.now.places.items b r c.index_mut-place.ensures.value) in
    (claim.2.hold, [], claim.2.has)

pub start-requires-clause-may : goal.start-requires-clause-may
start-requires-clause-may g c =
    let b = c.requires.before in
    let r = c.index_mut-place.result.now in
    let p = place_of r in
    let here = stands_here c.args.core.now.places.items b r c.index_mut-place.ensures.value in
    let before = phase_here c.args.core.now.places.items b r c.index_mut-place.ensures.value in
    let claim = claim_at c.requires.sound c.args.step.thread p here before in
    let hold = c.share_first-hold.result in
    let mine = first-there p.holds hold _ c.share_first-hold.ensures.1 in
    let alone = ap (λ (z : Hold). z.mode)
    (only_hold p.holds hold claim.2.hold c.share_first-hold.ensures.0 c.share_first-hold.ensures.1 claim.2.has).0
    ∙ claim.2.mode_is in
    let holds = c.requires.sound.holds in
    let room = c.requires.room in
    may-share holds _ _ room.locks c.args.step.thread p here (slice_get_within _ c.args.step.thread p here)
    (out-of-call holds c.args.step.thread p here phase.Downgrade before refl) 0 hold mine
    (room.held c.args.step.thread 0 p hold here mine) alone

pub count_in-requires-clause-listed : goal.count_in-requires-clause-listed
count_in-requires-clause-listed g c =
    let b = c.requires.before in
    let r = c.index_mut-place.result.now in
    let p = place_of r in
    let here = stands_here c.args.core.now.places.items b r c.index_mut-place.ensures.value in
    let claim = claim_at c.requires.sound c.args.step.thread p here
    (phase_here c.args.core.now.places.items b r c.index_mut-place.ensures.value) in
    let counts = session_counts _ _ _ _ p p.next _ p.block claim.3 in
    counts

pub count_in-requires-clause-fits : goal.count_in-requires-clause-fits
count_in-requires-clause-fits g c =
    let b = c.requires.before in
    let r = c.index_mut-place.result.now in
    let p = place_of r in
    let here = stands_here c.args.core.now.places.items b r c.index_mut-place.ensures.value in
    let fits = next_fits c.requires.sound c.args.step.thread p here
    (phase_here c.args.core.now.places.items b r c.index_mut-place.ensures.value) in
    omega (arith, fits, c.requires.room.calls_fit)

pub returns-clause-step : goal.returns-clause-step
returns-clause-step g c =
    let b = c.requires.before in
    let r = c.index_mut-place.result.now in
    let p = place_of r in
    let here = stands_here c.args.core.now.places.items b r c.index_mut-place.ensures.value in
    let before = phase_here c.args.core.now.places.items b r c.index_mut-place.ensures.value in
    let claim = claim_at c.requires.sound c.args.step.thread p here before in
    let hold = c.share_first-hold.result in
    record {
      place = p;
      stands = here;
      before = before;
      guarded = claim.1;
      hold = hold;
      more = c.share_first-hold.ensures.0;
      holds = c.share_first-hold.ensures.1;
      alone = ap (λ (z : Hold). z.mode)
          (only_hold p.holds hold claim.2.hold c.share_first-hold.ensures.0 c.share_first-hold.ensures.1 claim.2.has).0
          ∙ claim.2.mode_is;
      locks = c.start.new.self;
      turns = c.start.ensures;
      blocks = c.count_in.new.blocks.items;
      counted = c.count_in.ensures.counted;
      after = rw (c.enter.ensures, c.share_first-hold.ensures.2)
          (stepped-by c.args.core.now c.args.step _ _ _ c.args.core.now.tables.items _ _ _ _ c.appended-core.ensures
          refl refl);
    }

pub returns-clause-room : goal.returns-clause-room
returns-clause-room g c =
    let b = c.requires.before in
    let r = c.index_mut-place.result.now in
    let p = place_of r in
    let here = stands_here c.args.core.now.places.items b r c.index_mut-place.ensures.value in
    let before = phase_here c.args.core.now.places.items b r c.index_mut-place.ensures.value in
    let hold = c.share_first-hold.result in
    let mine = first-there p.holds hold _ c.share_first-hold.ensures.1 in
    let shared : Hold = record hold { mode = Shared } in
    let claim = claim_at c.requires.sound c.args.step.thread p here before in
    let more = c.share_first-hold.ensures.0 in
    let none : more ≡ [] = (only_hold p.holds hold claim.2.hold more c.share_first-hold.ensures.1 claim.2.has).1 in
    let now = c.share_first-hold.ensures.2 ∙ ap (λ hs. shared ∷ hs) none in
    let after = record r {
      holds = c.share_first-hold.new.holds;
      guard = Some (guard.Pair way.Shared);
      phase = c.enter.new.phase;
    } in
    let shards = length c.args.core.now.tables.items - (p.shard + 1) in
    let plain = ap walking c.enter.ensures in
    shifted _ _ c.args.step.thread r after c.requires.room (record {
      here = kept_here c.args.core.now.places.items b r c.index_mut-place.ensures.value;
      places = refl;
      numbers = c.requires.numbers;
      steps = simp length-append at (ap length c.appended-core.ensures);
      count = refl;
      programs = refl;
      tables = refl;
      held = λ i h has. let same = only-first c.share_first-hold.new.holds.items shared i h now has in let was =
          c.requires.room.held c.args.step.thread 0 p hold here mine in
          omega (arith, was, ap (λ (z : Hold). z.shard) same.1);
      locks = starts-size _ _ c.args.step.thread hold.shard call.Downgrade c.args.step.fair c.start.ensures;
      unanswered = omega (arith, ap owes c.enter.ensures, ap owes before);
      answers = omega (arith, ap owes c.enter.ensures, ap owes before);
      replies = refl;
      listing = omega (arith, ap (lists shards) c.enter.ensures, ap (lists shards) before, c.count_in.ensures.len);
      blocks = c.count_in.ensures.capacity;
      visits = plain-visits p (place_of after) refl plain;
      capacity = refl;
      lists = let due = plain-lists p (place_of after) refl plain in omega (arith, due);
      adding = omega (arith, ap adds c.enter.ensures, ap adds before);
      pairs = c.requires.room.pairs;
      more_blocks = omega (arith, c.count_in.ensures.len);
      listed = λ i e. let below = c.requires.room.listed c.args.step.thread p i here e in
          omega (arith, below, c.count_in.ensures.len);
    })

pub returns-clause-slots : goal.returns-clause-slots
returns-clause-slots g c =
    let b = c.requires.before in
    let r = c.index_mut-place.result.now in
    let p = place_of r in
    let here = stands_here c.args.core.now.places.items b r c.index_mut-place.ensures.value in
    let claim = claim_at c.requires.sound c.args.step.thread p here
    (phase_here c.args.core.now.places.items b r c.index_mut-place.ensures.value) in
    slots-kept _ _ c.args.core.now c.requires.sound c.requires.slots c.args.step.thread r _
    (kept_here c.args.core.now.places.items b r c.index_mut-place.ensures.value) _
    (calls-counted c.args.step.thread _ _ _ _ c.count_in.ensures.counted)
    (λ kind lends. ap (λ g. is_some (lent_way g)) claim.1) (λ i e. e) (ap phase_key c.enter.ensures) refl refl
    (ap walking c.enter.ensures)
