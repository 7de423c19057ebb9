use Rattle.std.proofs.Common.{inl, refl}
use Rattle.mapworld_state.specs.declared.place.Phase.TheVariants as phase
use Rattle.mapworld_state.specs.Core.{state_of}
use Rattle.mapworld_state.specs.Steps.{find, deed_fills, visit_parts, visit_seeks, visit_does, visit_gives}
use Rattle.mapworld_state.proofs.InvariantFacts.Holding.{stand-at}
use Rattle.mapworld_steps.proofs.Kept.{is_before}
use Rattle.mapworld_steps.proofs.Running.{has-calls, goes-on, can-move, same-phase}
use Rattle.mapworld_steps.proofs.one_step.go_on.Goals as goal

pub start-requires-clause-before : goal.start-requires-clause-before
start-requires-clause-before g c = is_before c.args.core.now.places.items c.args.step.thread c.index.result.now
    phase.Rest c.requires.thread c.index.ensures c.in-Rest.is

pub start-requires-clause-left : goal.start-requires-clause-left
start-requires-clause-left g c p at =
    let places = c.args.core.now.places.items in
    let b = is_before places c.args.step.thread c.index.result.now phase.Rest c.requires.thread c.index.ensures
    c.in-Rest.is in
    let rest = same-phase (state_of c.args.core.now).places c.args.step.thread phase.Rest b p at in
    has-calls (state_of c.args.core.now) c.args.step.thread p at c.requires.moves rest

pub admit-requires-clause-before : goal.admit-requires-clause-before
admit-requires-clause-before g c = (
  c.in-Admit.field-0,
  is_before c.args.core.now.places.items c.args.step.thread c.index.result.now
      (phase.Admit c.in-Admit.field-0) c.requires.thread c.index.ensures c.in-Admit.is,
)

pub find-requires-clause-before : goal.find-requires-clause-before
find-requires-clause-before g c = (
  c.in-Find.field-0,
  is_before c.args.core.now.places.items c.args.step.thread c.index.result.now
      (phase.Find c.in-Find.field-0) c.requires.thread c.index.ensures c.in-Find.is,
)

pub grow-requires-clause-before : goal.grow-requires-clause-before
grow-requires-clause-before g c = (
  c.in-Grow.field-0,
  is_before c.args.core.now.places.items c.args.step.thread c.index.result.now
      (phase.Grow c.in-Grow.field-0) c.requires.thread c.index.ensures c.in-Grow.is,
)

pub append-requires-clause-before : goal.append-requires-clause-before
append-requires-clause-before g c = (
  c.in-Append.field-0,
  c.in-Append.field-1,
  is_before c.args.core.now.places.items c.args.step.thread
      c.index.result.now (phase.Append c.in-Append.field-0 c.in-Append.field-1) c.requires.thread c.index.ensures
      c.in-Append.is,
)

pub apply-requires-clause-before : goal.apply-requires-clause-before
apply-requires-clause-before g c = (
  c.in-Apply.field-0,
  is_before c.args.core.now.places.items c.args.step.thread c.index.result.now
      (phase.Apply c.in-Apply.field-0) c.requires.thread c.index.ensures c.in-Apply.is,
)

pub view-requires-clause-before : goal.view-requires-clause-before
view-requires-clause-before g c = (
  c.in-View.field-0,
  c.in-View.field-1,
  is_before c.args.core.now.places.items c.args.step.thread c.index.result.now
      (phase.View c.in-View.field-0 c.in-View.field-1) c.requires.thread c.index.ensures c.in-View.is,
)

pub read-requires-clause-before : goal.read-requires-clause-before
read-requires-clause-before g c = (
  c.in-Read.field-0,
  is_before c.args.core.now.places.items c.args.step.thread c.index.result.now
      (phase.Read c.in-Read.field-0) c.requires.thread c.index.ensures c.in-Read.is,
)

pub change-requires-clause-before : goal.change-requires-clause-before
change-requires-clause-before g c = (
  c.in-Change.field-0,
  is_before c.args.core.now.places.items c.args.step.thread c.index.result.now
      (phase.Change c.in-Change.field-0) c.requires.thread c.index.ensures c.in-Change.is,
)

pub fill-requires-clause-before : goal.fill-requires-clause-before
fill-requires-clause-before g c = (
  c.in-Fill.field-0,
  is_before c.args.core.now.places.items c.args.step.thread c.index.result.now
      (phase.Fill c.in-Fill.field-0) c.requires.thread c.index.ensures c.in-Fill.is,
)

pub downgrade-requires-clause-before : goal.downgrade-requires-clause-before
downgrade-requires-clause-before g c = is_before c.args.core.now.places.items c.args.step.thread c.index.result.now
    phase.Downgrade c.requires.thread c.index.ensures c.in-Downgrade.is

pub idle-requires-clause-before : goal.idle-requires-clause-before
idle-requires-clause-before g c = (
  c.in-Idle.field-0,
  is_before c.args.core.now.places.items c.args.step.thread c.index.result.now
      (phase.Idle c.in-Idle.field-0) c.requires.thread c.index.ensures c.in-Idle.is,
)

pub reach-requires-clause-before : goal.reach-requires-clause-before
reach-requires-clause-before g c = (
  c.in-Reach.field-0,
  is_before c.args.core.now.places.items c.args.step.thread c.index.result.now
      (phase.Reach c.in-Reach.field-0) c.requires.thread c.index.ensures c.in-Reach.is,
)

pub part-requires-clause-before : goal.part-requires-clause-before
part-requires-clause-before g c = (
  c.in-Part.field-0,
  is_before c.args.core.now.places.items c.args.step.thread c.index.result.now
      (phase.Part c.in-Part.field-0) c.requires.thread c.index.ensures c.in-Part.is,
)

pub visit-requires-clause-before : goal.visit-requires-clause-before
visit-requires-clause-before g c = (
  c.in-Visit.field-0,
  is_before c.args.core.now.places.items c.args.step.thread c.index.result.now
      (phase.Visit c.in-Visit.field-0) c.requires.thread c.index.ensures c.in-Visit.is,
)

pub seek-requires-clause-before : goal.seek-requires-clause-before
seek-requires-clause-before g c = (
  c.in-Seek.field-0,
  is_before c.args.core.now.places.items c.args.step.thread c.index.result.now
      (phase.Seek c.in-Seek.field-0) c.requires.thread c.index.ensures c.in-Seek.is,
)

pub item-requires-clause-before : goal.item-requires-clause-before
item-requires-clause-before g c = (
  c.in-Item.field-0,
  is_before c.args.core.now.places.items c.args.step.thread c.index.result.now
      (phase.Item c.in-Item.field-0) c.requires.thread c.index.ensures c.in-Item.is,
)

pub give-requires-clause-before : goal.give-requires-clause-before
give-requires-clause-before g c = (
  c.in-Give.field-0,
  is_before c.args.core.now.places.items c.args.step.thread c.index.result.now
      (phase.Give c.in-Give.field-0) c.requires.thread c.index.ensures c.in-Give.is,
)

pub onward-requires-clause-before : goal.onward-requires-clause-before
onward-requires-clause-before g c = (
  c.in-Onward.field-0,
  is_before c.args.core.now.places.items c.args.step.thread c.index.result.now
      (phase.Onward c.in-Onward.field-0) c.requires.thread c.index.ensures c.in-Onward.is,
)

pub release-requires-clause-before : goal.release-requires-clause-before
release-requires-clause-before g c = (
  c.in-Release.field-0,
  is_before c.args.core.now.places.items c.args.step.thread c.index.result.now
      (phase.Release c.in-Release.field-0) c.requires.thread c.index.ensures c.in-Release.is,
)

pub finish-requires-clause-before : goal.finish-requires-clause-before
finish-requires-clause-before g c = (
  c.in-Answer.field-0,
  is_before c.args.core.now.places.items c.args.step.thread c.index.result.now
      (phase.Answer c.in-Answer.field-0) c.requires.thread c.index.ensures c.in-Answer.is,
)

pub admit-requires-clause-moves : goal.admit-requires-clause-moves
admit-requires-clause-moves g c =
    let w = state_of c.args.core.now in
    let t = c.args.step.thread in
    let f = phase.Admit c.in-Admit.field-0 in
    let b = is_before c.args.core.now.places.items t c.index.result.now f c.requires.thread c.index.ensures
    c.in-Admit.is in
    can-move w.locks t _ (stand-at w.places w.locks c.requires.sound.holds t b.place b.stands f b.before).is
    (goes-on w t b.place b.stands c.requires.moves f b.before (λ left. refl))

pub reach-requires-clause-moves : goal.reach-requires-clause-moves
reach-requires-clause-moves g c =
    let w = state_of c.args.core.now in
    let t = c.args.step.thread in
    let f = phase.Reach c.in-Reach.field-0 in
    let b = is_before c.args.core.now.places.items t c.index.result.now f c.requires.thread c.index.ensures
    c.in-Reach.is in
    can-move w.locks t _ (stand-at w.places w.locks c.requires.sound.holds t b.place b.stands f b.before).is
    (goes-on w t b.place b.stands c.requires.moves f b.before (λ left. refl))

pub visit-requires-clause-moves : goal.visit-requires-clause-moves
visit-requires-clause-moves g c =
    let w = state_of c.args.core.now in
    let t = c.args.step.thread in
    let f = phase.Visit c.in-Visit.field-0 in
    let b = is_before c.args.core.now.places.items t c.index.result.now f c.requires.thread c.index.ensures
    c.in-Visit.is in
    goes-on w t b.place b.stands c.requires.moves f b.before (λ left. refl)

pub onward-requires-clause-moves : goal.onward-requires-clause-moves
onward-requires-clause-moves g c =
    let w = state_of c.args.core.now in
    let t = c.args.step.thread in
    let f = phase.Onward c.in-Onward.field-0 in
    let b = is_before c.args.core.now.places.items t c.index.result.now f c.requires.thread c.index.ensures
    c.in-Onward.is in
    goes-on w t b.place b.stands c.requires.moves f b.before (λ left. refl)

pub finish-requires-clause-moves : goal.finish-requires-clause-moves
finish-requires-clause-moves g c =
    let w = state_of c.args.core.now in
    let t = c.args.step.thread in
    let f = phase.Answer c.in-Answer.field-0 in
    let b = is_before c.args.core.now.places.items t c.index.result.now f c.requires.thread c.index.ensures
    c.in-Answer.is in
    goes-on w t b.place b.stands c.requires.moves f b.before (λ left. refl)

pub returns-in-Find-clause-step : goal.returns-in-Find-clause-step
returns-in-Find-clause-step g c =
    find (record { mid = state_of c.args.core.now; enters = inl refl; finds = c.find.ensures.step })

pub returns-in-Fill-clause-step : goal.returns-in-Fill-clause-step
returns-in-Fill-clause-step g c = deed_fills c.fill.ensures.step

pub returns-in-Part-clause-step : goal.returns-in-Part-clause-step
returns-in-Part-clause-step g c =
    visit_parts (record { mid = state_of c.args.core.now; enters = inl refl; gives = c.part.ensures.step })

pub returns-in-Seek-clause-step : goal.returns-in-Seek-clause-step
returns-in-Seek-clause-step g c = visit_seeks c.seek.ensures.step

pub returns-in-Item-clause-step : goal.returns-in-Item-clause-step
returns-in-Item-clause-step g c = visit_does c.item.ensures.step

pub returns-in-Give-clause-step : goal.returns-in-Give-clause-step
returns-in-Give-clause-step g c = visit_gives c.give.ensures.step
