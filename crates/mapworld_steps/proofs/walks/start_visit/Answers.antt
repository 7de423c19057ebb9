use Rattle.std.proofs.Common.{◌<◌, ◌+◌, ◌-◌, length, refl, sym, ap, ◌∙◌, subst, arith}
use Rattle.std.proofs.Common.{length-append}
use Rattle.mapworld_state.specs.Places.{place_of}
use Rattle.mapworld_state.specs.Classes.{class_of, walks_in}
use Rattle.mapworld_state.specs.Slots.{phase_key, SlotIsNext}
use Rattle.mapworld_state.specs.Core.{owes, lists, adds, phase_lists}
use Rattle.mapworld_transitions.proofs.Rooms.{shifted}
use Rattle.mapworld_transitions.proofs.Leading.{in-walk}
use Rattle.mapworld_transitions.proofs.Facts.{claim_at, walks_at, stepped-by}
use Rattle.mapworld_transitions.proofs.Slots.{calls-same, slots-same_free}
use Rattle.mapworld_steps.proofs.Kept.{kept_here, stands_here, phase_here}
use Rattle.std.proofs.lemmas.List.{length-map}
use Rattle.std.proofs.lemmas.Option.{slice_get_within}
use Rattle.mapworld_state.specs.declared.holds.Manner.{Manner}
use Rattle.mapworld_state.specs.Shards.{shard_pairs}
use Rattle.mapworld_state.specs.Walks.{walk_mode, hands_over}
use Rattle.mapworld_state.proofs.LocksFacts.Sizes.{begins-size}
use Rattle.mapworld_steps.proofs.Asking.{may-enter}
use Rattle.mapworld_steps.proofs.Reaching.{between-apart}
use Rattle.mapworld_steps.proofs.walks.start_visit.Goals as goal

pub unreachable-requires : goal.unreachable-requires
unreachable-requires g c =
    let r = c.index_mut-place.result.now in
    c.in_default.not-Onward c.requires.before.0
    (c.replace.ensures.value ∙ phase_here c.args.core.now.places.items c.requires.before.1 r
    c.index_mut-place.ensures.value)

pub overflow_add-place : goal.overflow_add-place
overflow_add-place g c =
    let core = c.args.core.now in
    let t = c.args.step.thread in
    let b = c.requires.before.1 in
    let r = c.index_mut-place.result.now in
    let p = place_of r in
    let here = stands_here core.places.items b r c.index_mut-place.ensures.value in
    let before = sym c.replace.ensures.value ∙ c.in-Onward.is in
    let between = walks_at c.requires.sound t p here before in
    let left = between.left in
    let amount = c.requires.room.shards.2 in
    record { fits = omega (arith, left, amount, length-map core.tables.items shard_pairs) }

pub begin-requires : goal.begin-requires
begin-requires g c =
    let core = c.args.core.now in
    let t = c.args.step.thread in
    let b = c.requires.before.1 in
    let r = c.index_mut-place.result.now in
    let p = place_of r in
    let here = stands_here core.places.items b r c.index_mut-place.ensures.value in
    let before = sym c.replace.ensures.value ∙ c.in-Onward.is in
    let claim = claim_at c.requires.sound t p here before in
    let between = walks_at c.requires.sound t p here before in
    record {
      may = rw (c.asks_for-call.ensures, c.walk_mode.ensures)
          (may-enter c.requires.sound.holds _ _ c.requires.room.locks t p here (slice_get_within _ t p here)
          c.requires.out (p.shard + 1)
          (between-apart p (walk_mode c.in-Onward.walk) (hands_over c.in-Onward.walk) claim.2)
          (subst (λ n. p.shard + 1 < n) (length-map core.tables.items shard_pairs) between.left) Manner.Waits
          (walk_mode c.in-Onward.walk));
    }

pub returns-clause-step : goal.returns-clause-step
returns-clause-step g c =
    let core = c.args.core.now in
    let t = c.args.step.thread in
    let b = c.requires.before.1 in
    let r = c.index_mut-place.result.now in
    let p = place_of r in
    let here = stands_here core.places.items b r c.index_mut-place.ensures.value in
    let before = sym c.replace.ensures.value ∙ c.in-Onward.is in
    record {
      place = p;
      stands = here;
      walk = c.in-Onward.walk;
      before = before;
      out = c.requires.out;
      locks = c.begin.new.self;
      begins = rw (c.asks_for-call.ensures, c.walk_mode.ensures) at c.begin.ensures;
      after = rw c.enter.ensures
          (stepped-by core c.args.step _ _ _ core.tables.items _ _ _ _ c.appended-core.ensures refl refl);
    }

pub returns-clause-room : goal.returns-clause-room
returns-clause-room g c =
    let core = c.args.core.now in
    let t = c.args.step.thread in
    let b = c.requires.before.1 in
    let r = c.index_mut-place.result.now in
    let p = place_of r in
    let here = stands_here core.places.items b r c.index_mut-place.ensures.value in
    let before = sym c.replace.ensures.value ∙ c.in-Onward.is in
    let between = walks_at c.requires.sound t p here before in
    let left = between.left in
    let n = length core.tables.items in
    let shards = length-map core.tables.items shard_pairs in
    shifted _ _ t r (record r { shard = r.shard + 1; phase = c.enter.new.phase }) c.requires.room (record {
      here = kept_here core.places.items b r c.index_mut-place.ensures.value;
      places = refl;
      numbers = c.requires.numbers;
      steps = simp length-append at (ap length c.appended-core.ensures);
      count = refl;
      programs = refl;
      tables = refl;
      held = λ i h has. c.requires.room.held t i p h here has;
      locks = begins-size _ _ t (r.shard + 1) c.asks_for-call.result c.begin.ensures;
      unanswered = omega (arith, ap owes c.enter.ensures, ap owes before);
      answers = omega (arith, ap owes c.enter.ensures, ap owes before);
      replies = refl;
      listing = omega (
        arith,
        ap (lists (n - (p.shard + 1 + 1))) c.enter.ensures,
        ap (lists (n - (p.shard + 1))) before,
        left,
        shards,
      );
      blocks = refl;
      visits = λ h. in-walk p (ap (λ z. walks_in (class_of z)) before);
      capacity = refl;
      lists = omega (arith, ap phase_lists c.enter.ensures, ap phase_lists before);
      adding = omega (arith, ap adds c.enter.ensures, ap adds before);
      pairs = c.requires.room.pairs;
      more_blocks = omega arith;
      listed = λ i e. c.requires.room.listed t p i here e;
    })

pub returns-clause-slots : goal.returns-clause-slots
returns-clause-slots g c =
    let core = c.args.core.now in
    let t = c.args.step.thread in
    let b = c.requires.before.1 in
    let r = c.index_mut-place.result.now in
    let p = place_of r in
    let here = stands_here core.places.items b r c.index_mut-place.ensures.value in
    let before = sym c.replace.ensures.value ∙ c.in-Onward.is in
    let claim = claim_at c.requires.sound t p here before in
    slots-same_free _ _ core c.requires.sound c.requires.slots t r
    (record r { shard = r.shard + 1; phase = c.enter.new.phase })
    (kept_here core.places.items b r c.index_mut-place.ensures.value) core.blocks.items (calls-same t _ _ refl)
    claim.1.1
    (ap phase_key c.enter.ensures)
    (subst (SlotIsNext g.K.PartialEq.eq core.tables.items core.blocks.items
    (record r { shard = r.shard + 1; phase = c.enter.new.phase })) (sym c.enter.ensures) tt)
