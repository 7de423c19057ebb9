use Rattle.std.proofs.Common.{◌+◌, ◌-◌, ◌<◌, ◌++◌, ◌∷◌, [], not, length, slice_get, slice_set, ⊎_elim}
use Rattle.std.proofs.Common.{refl, sym, ap, ap₂, ◌∙◌, subst, arith}
use Rattle.std.proofs.lemmas.Option.{same_Some}
use Rattle.std.proofs.lemmas.List.{map-set, length-map}
use Rattle.mapworld_calls.proofs.Lists.{slice_get-set_same, slice_get-push_cases}
use Rattle.parking_lot_protocol.specs.declared.act.CoreAnswer.{CoreAnswer}
use Rattle.mapworld_state.specs.Locks.Stands.{Stand}
use Rattle.mapworld_state.specs.Locks.Steps.{LockEnds}
use Rattle.mapworld_state.proofs.LocksFacts.Sizes.{ends-size}
use Rattle.mapworld_state.specs.declared.holds.Hold.{Hold}
use Rattle.mapworld_state.specs.declared.place.Phase.TheVariants as phase
use Rattle.mapworld_state.specs.Places.{place_of}
use Rattle.mapworld_state.specs.Classes.{class_of, walks_in}
use Rattle.mapworld_state.specs.Holds.{at_desk}
use Rattle.mapworld_state.specs.Walks.{walk_mode, kept_over}
use Rattle.mapworld_state.specs.Shards.{shard_pairs}
use Rattle.mapworld_state.specs.Core.{state_of, owes, lists, adds, phase_lists}
use Rattle.mapworld_state.proofs.Views.{view-at}
use Rattle.mapworld_state.proofs.InvariantFacts.Holding.{stand-at}
use Rattle.mapworld_state.proofs.InvariantFacts.Walking.{sound-reaches}
use Rattle.mapworld_transitions.proofs.Slots.{calls-same, slots-same_free}
use Rattle.mapworld_transitions.proofs.Rooms.{moved}
use Rattle.mapworld_transitions.proofs.Leading.{in-walk}
use Rattle.mapworld_transitions.proofs.Facts.{claim_at, walks_at}
use Rattle.mapworld_steps.proofs.Kept.{kept_here, stands_here, phase_here}
use Rattle.mapworld_steps.proofs.Reaching.{kept-few, reaches-to, before-either, Entered, entered}
use Rattle.mapworld_steps.proofs.walking.reach_shard.Goals as goal

pub unreachable-requires : goal.unreachable-requires
unreachable-requires g c =
    let r = c.index_mut-place.result.now in
    c.in_default.not-Reach c.requires.before.0
    (c.replace.ensures.value ∙ phase_here c.args.core.now.places.items c.requires.before.1 r
    c.index_mut-place.ensures.value)

pub push-requires : goal.push-requires
push-requires g c =
    let core = c.args.core.now in
    let t = c.args.thread in
    let b = c.requires.before.1 in
    let r = c.index_mut-place.result.now in
    let p = place_of r in
    let here = stands_here core.places.items b r c.index_mut-place.ensures.value in
    let before = sym c.replace.ensures.value ∙ c.in-Reach.is in
    let claim = claim_at c.requires.sound t p here before in
    let few = kept-few p (walk_mode c.in-Reach.walk) (kept_over c.in-Reach.walk p.shard) claim.2 in
    omega (arith, few)

pub returns-clause-reaches : goal.returns-clause-reaches
returns-clause-reaches g c =
    let core = c.args.core.now in
    let t = c.args.thread in
    let b = c.requires.before.1 in
    let r = c.index_mut-place.result.now in
    let p = place_of r in
    let here = stands_here core.places.items b r c.index_mut-place.ensures.value in
    let before = sym c.replace.ensures.value ∙ c.in-Reach.is in
    let f = c.in-Reach.walk in
    let wants = stand-at _ _ c.requires.sound.holds t p here (phase.Reach f) before in
    let its = same_Some c.finish.ensures.stand _ (sym c.finish.ensures.stood ∙ wants.is) in
    let won = c.finish.ensures.patient (at_desk (walk_mode f)) (ap (λ (s : Stand). s.aim) its)
    (ap (λ (s : Stand). s.trying) its) (ap (λ (s : Stand). s.timed) its) in
    record {
      place = p;
      stands = here;
      walk = f;
      before = before;
      locks = c.finish.new.self;
      ends = subst (λ (a : CoreAnswer). LockEnds t a core.locks c.finish.new.self) won c.finish.ensures;
      after = ap (λ ps. record (state_of core) { places = ps; locks = c.finish.new.self })
          (map-set place_of core.places.items t _
          ∙ ap₂ (λ hs ph. slice_set (state_of core).places t (record p { holds = hs; phase = ph }))
          (c.push.ensures.items ∙ ap (λ m. p.holds ++ record { shard = p.shard; mode = m } ∷ [])
          c.walk_mode.ensures) (c.enter.ensures ∙ c.entered_phase-next.ensures));
    }

pub returns-clause-next : goal.returns-clause-next
returns-clause-next g c =
    let core = c.args.core.now in
    let t = c.args.thread in
    let b = c.requires.before.1 in
    let r = c.index_mut-place.result.now in
    let p = place_of r in
    let here = stands_here core.places.items b r c.index_mut-place.ensures.value in
    let before = sym c.replace.ensures.value ∙ c.in-Reach.is in
    let kept = kept_here core.places.items b r c.index_mut-place.ensures.value in
    let f = c.in-Reach.walk in
    let q = record r { holds = c.push.new.self; phase = c.enter.new.phase } in
    before-either _ t (place_of q)
    (view-at place_of (slice_set core.places.items t q) t q (slice_get-set_same core.places.items t r q kept)) f _
    (reaches-to f r.holds.items _ c.enter.new.phase (ap not c.is_empty-beside.ensures)
    (c.enter.ensures ∙ c.entered_phase-next.ensures))

pub returns-clause-out : goal.returns-clause-out
returns-clause-out g c = c.finish.ensures.gone

pub returns-clause-sound : goal.returns-clause-sound
returns-clause-sound g c = sound-reaches _ (state_of c.args.core.now) c.args.thread _ c.requires.sound
    (returns-clause-reaches g c)

pub returns-clause-room : goal.returns-clause-room
returns-clause-room g c =
    let core = c.args.core.now in
    let t = c.args.thread in
    let b = c.requires.before.1 in
    let r = c.index_mut-place.result.now in
    let p = place_of r in
    let here = stands_here core.places.items b r c.index_mut-place.ensures.value in
    let before = sym c.replace.ensures.value ∙ c.in-Reach.is in
    let f = c.in-Reach.walk in
    let between = walks_at c.requires.sound t p here before in
    let within : p.shard < length core.tables.items =
    subst (λ n. p.shard < n) (length-map core.tables.items shard_pairs) between.left in
    let hold : Hold = record { shard = p.shard; mode = c.walk_mode.result } in
    let after = record r { holds = c.push.new.self; phase = c.enter.new.phase } in
    let more = length core.tables.items - (p.shard + 1) in
    let goes : Entered f c.enter.new.phase = subst (Entered f) (sym (c.enter.ensures ∙ c.entered_phase-next.ensures))
    (entered f r.holds.items) in
    let listing = goes.listing more in
    moved core _ c.finish.new.self t r after c.requires.room
    (kept_here core.places.items b r c.index_mut-place.ensures.value) refl
    (omega (arith, goes.owing, ap owes before)) (omega (arith, listing, ap (lists more) before))
    (omega (arith, goes.adding, ap adds before)) refl
    (λ h. in-walk p (ap (λ z. walks_in (class_of z)) before)) refl
    (omega (arith, goes.lists_are, ap phase_lists before))
    (λ i h has. ⊎_elim (λ was. c.requires.room.held t i p h here was)
    (λ new. let same = ap (λ (z : Hold). z.shard) new.1 in omega (arith, same, within))
    (slice_get-push_cases p.holds i h hold (ap (λ hs. slice_get hs i) (sym c.push.ensures.items) ∙ has)))
    (ends-size _ _ t c.finish.result c.finish.ensures)

pub returns-clause-slots : goal.returns-clause-slots
returns-clause-slots g c =
    let core = c.args.core.now in
    let t = c.args.thread in
    let b = c.requires.before.1 in
    let r = c.index_mut-place.result.now in
    let p = place_of r in
    let here = stands_here core.places.items b r c.index_mut-place.ensures.value in
    let before = sym c.replace.ensures.value ∙ c.in-Reach.is in
    let f = c.in-Reach.walk in
    let claim = claim_at c.requires.sound t p here before in
    let goes : Entered f c.enter.new.phase = subst (Entered f) (sym (c.enter.ensures ∙ c.entered_phase-next.ensures))
    (entered f r.holds.items) in
    let q = record r { holds = c.push.new.self; phase = c.enter.new.phase } in
    slots-same_free _ _ core c.requires.sound c.requires.slots t r q
    (kept_here core.places.items b r c.index_mut-place.ensures.value) core.blocks.items (calls-same t _ _ refl)
    claim.1.1 goes.key
    (goes.next g.K.PartialEq.eq core.tables.items core.blocks.items q)
