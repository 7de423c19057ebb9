use Rattle.std.proofs.Common.{map, sym, ◌∙◌, refl, subst}
use Rattle.std.proofs.lemmas.List.{map-id}
use Rattle.std.proofs.lemmas.Iterator.Adapters.{YieldsList-from_vec}
use Rattle.std.proofs.lemmas.Iterator.Consumers.{YieldsList-end}
use Rattle.mapworld_state.specs.Places.{place_of}
use Rattle.mapworld.specs.Beginning.{AreAtStart}
use Rattle.mapworld.proofs.Placing.{AreAtStart-none, AreAtStart-push, HaveLists-none, HaveLists-push}
use Rattle.mapworld.proofs.beginning.places_of.Goals as goal

pub loop-program-init : goal.loop-program-init
loop-program-init g c = record {
  start = AreAtStart-none c.in_ok-places.places.items c.in_ok-places.ensures.items;
  lists = HaveLists-none c.args.shards c.in_ok-places.places.items c.in_ok-places.ensures.items;
}

pub loop-program-preserved : goal.loop-program-preserved
loop-program-preserved g c = record {
  start = AreAtStart-push c.loop-program.yielded _ c.loop-program.places.items _ c.in-Some.program
      c.in_ok-at_start.field-0 c.loop-program.invariant.start c.in_ok-at_start.ensures.start refl
      c.in_ok-push.ensures.items;
  lists = HaveLists-push c.args.shards c.loop-program.places.items _ c.in_ok-at_start.field-0
      c.loop-program.invariant.lists c.in_ok-at_start.ensures.lists c.in_ok-push.ensures.items;
}

pub returns-clause-start : goal.returns-clause-start
returns-clause-start g c =
    let i = c.into_iter-program-iterator.ensures.into_iter_gives in
    let e = YieldsList-end (YieldsList-from_vec c.args.programs.items i.0 (i.1 ∙ c.args.programs.ok.0))
    c.loop-program.yielded c.loop-program.program-iterator c.loop-program.yielded_by c.next.result
    c.next.new.self c.in-None.is c.next.ensures.steps in
    subst (λ ps. AreAtStart (map (λ program. program.items) ps) (map place_of c.loop-program.places.items))
    (sym (map-id c.loop-program.yielded) ∙ e.0) c.loop-program.invariant.start
