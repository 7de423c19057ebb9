use Rattle.std.proofs.Common.{◌+◌, ◌-◌, [], ◌∷◌, ◌++◌, length, slice_set, refl, sym, ap, ap₂, ◌∙◌, subst, arith}
use Rattle.std.proofs.lemmas.Option.{none-some, same_Some}
use Rattle.std.proofs.lemmas.List.{map-set, length-map}
use Rattle.mapworld_calls.proofs.Lists.{slice_get-set_same}
use Rattle.parking_lot_protocol.specs.declared.act.CoreAnswer.{CoreAnswer}
use Rattle.mapworld_state.specs.Locks.Steps.{LockEnds}
use Rattle.mapworld_state.proofs.LocksFacts.Sizes.{ends-size}
use Rattle.mapworld_state.specs.declared.holds.Hold.{Hold}
use Rattle.mapworld_state.specs.Places.{place_of}
use Rattle.mapworld_state.specs.Moves.{lent_way}
use Rattle.mapworld_state.specs.Slots.{phase_key}
use Rattle.mapworld_state.specs.Shards.{shard_pairs}
use Rattle.mapworld_state.specs.Core.{state_of, owes, lists, adds}
use Rattle.mapworld_state.proofs.Views.{view-at}
use Rattle.mapworld_state.proofs.HoldsTable.{only-first}
use Rattle.mapworld_state.proofs.InvariantFacts.Admitting.{sound-enters}
use Rattle.mapworld_transitions.proofs.Slots.{calls-same, slots-kept}
use Rattle.mapworld_transitions.proofs.Rooms.{moved}
use Rattle.mapworld_transitions.proofs.Walking.{walking, plain-visits, plain-lists}
use Rattle.mapworld_transitions.proofs.Facts.{claim_at, way_fits}
use Rattle.mapworld_steps.proofs.Kept.{kept_here, stands_here}
use Rattle.mapworld_steps.proofs.queues.enter_shard.Goals as goal

pub push-requires : goal.push-requires
push-requires g c =
    let r = c.index_mut-place.result.now in
    let p = place_of r in
    let here = stands_here c.args.core.now.places.items c.requires.before.1 r c.index_mut-place.ensures.value in
    let claim = claim_at c.requires.sound c.args.thread p here (sym c.replace.ensures.value ∙ c.in-Admit.is) in
    let none = ap length claim.2 in
    omega (arith, none)

pub returns-clause-enters : goal.returns-clause-enters
returns-clause-enters g c =
    let core = c.args.core.now in
    let t = c.args.thread in
    let r = c.index_mut-place.result.now in
    let p = place_of r in
    let here = stands_here core.places.items c.requires.before.1 r c.index_mut-place.ensures.value in
    let request = c.in-Admit.request in
    let before = sym c.replace.ensures.value ∙ c.in-Admit.is in
    let won = same_Some c.finish.result _ (sym c.finish.ensures.over ∙ c.requires.owned) in
    record {
      place = p;
      stands = here;
      request = request;
      before = before;
      locks = c.finish.new.self;
      ends = subst (λ (a : CoreAnswer). LockEnds t a core.locks c.finish.new.self) won c.finish.ensures;
      after = ap (λ ps. record (state_of core) { places = ps; locks = c.finish.new.self })
          (map-set place_of core.places.items t _
          ∙ ap₂ (λ hs f. slice_set (state_of core).places t (record p { holds = hs; phase = f }))
          (c.push.ensures.items ∙ ap (λ m. p.holds ++ record { shard = p.shard; mode = m } ∷ []) c.mode_of.ensures)
          c.enter.ensures);
    }

pub returns-clause-found : goal.returns-clause-found
returns-clause-found g c =
    let core = c.args.core.now in
    let r = c.index_mut-place.result.now in
    let kept = kept_here core.places.items c.requires.before.1 r c.index_mut-place.ensures.value in (
      c.in-Admit.request,
      record {
        place = _;
        stands = view-at place_of (slice_set core.places.items c.args.thread _) c.args.thread _
            (slice_get-set_same core.places.items c.args.thread r _ kept);
        before = c.enter.ensures;
      },
    )

pub returns-clause-sound : goal.returns-clause-sound
returns-clause-sound g c = sound-enters _ (state_of c.args.core.now) c.args.thread _ c.requires.sound
    (returns-clause-enters g c)

pub returns-clause-room : goal.returns-clause-room
returns-clause-room g c =
    let core = c.args.core.now in
    let t = c.args.thread in
    let r = c.index_mut-place.result.now in
    let p = place_of r in
    let here = stands_here core.places.items c.requires.before.1 r c.index_mut-place.ensures.value in
    let before = sym c.replace.ensures.value ∙ c.in-Admit.is in
    let claim = claim_at c.requires.sound t p here before in
    let hold : Hold = record { shard = p.shard; mode = c.mode_of.result } in
    let one = c.push.ensures.items ∙ ap (λ hs. hs ++ hold ∷ []) claim.2 in
    let after = record r { holds = c.push.new.self; phase = c.enter.new.phase } in
    let fits = way_fits c.requires.sound p _ claim.1 in
    let more = length core.tables.items - (p.shard + 1) in
    let plain = ap walking c.enter.ensures in
    let due = plain-lists p (place_of after) refl plain in
    moved core _ c.finish.new.self t r after c.requires.room
    (kept_here core.places.items c.requires.before.1 r c.index_mut-place.ensures.value) refl
    (omega (arith, ap owes c.enter.ensures, ap owes before))
    (omega (arith, ap (lists more) c.enter.ensures, ap (lists more) before))
    (omega (arith, ap adds c.enter.ensures, ap adds before)) refl
    (plain-visits p (place_of after) refl plain) refl (omega (arith, due))
    (λ i h has. let same = ap (λ (z : Hold). z.shard) (only-first c.push.new.self.items hold i h one has).1 in
    omega (arith, same, fits, length-map core.tables.items shard_pairs))
    (ends-size _ _ t c.finish.result c.finish.ensures)

pub returns-clause-slots : goal.returns-clause-slots
returns-clause-slots g c =
    let core = c.args.core.now in
    let r = c.index_mut-place.result.now in
    let p = place_of r in
    let here = stands_here core.places.items c.requires.before.1 r c.index_mut-place.ensures.value in
    let claim = claim_at c.requires.sound c.args.thread p here (sym c.replace.ensures.value ∙ c.in-Admit.is) in
    slots-kept _ _ core c.requires.sound c.requires.slots c.args.thread r _
    (kept_here core.places.items c.requires.before.1 r c.index_mut-place.ensures.value) _
    (calls-same c.args.thread _ _ refl)
    (λ kind lends. absurd (none-some kind (sym (ap lent_way claim.1.guard) ∙ lends))) (λ i e. e)
    (ap phase_key c.enter.ensures) refl refl (ap walking c.enter.ensures)
