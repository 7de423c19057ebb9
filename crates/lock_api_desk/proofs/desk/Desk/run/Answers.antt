use Rattle.std.proofs.Common.{List, [], ◌∷◌, sym, subst, ◌∙◌, arith, length-append}
use Rattle.std.proofs.lemmas.List.{map-id}
use Rattle.std.proofs.lemmas.Iterator.Adapters.{YieldsList-from_vec}
use Rattle.std.proofs.lemmas.Iterator.Consumers.{YieldsList-end, YieldsList-turn, YieldsList-so_far}
use Rattle.lock_api_desk.specs.declared.call.DeskCall.{DeskCall}
use Rattle.lock_api_desk.specs.Calls.{Runs}
use Rattle.lock_api_desk.proofs.Making.{runs_more, stopped_at}
use Rattle.lock_api_desk.proofs.desk.Desk.run.Goals as goal

pub loop-call-preserved : goal.loop-call-preserved
loop-call-preserved g c = (
  omega (arith, length-append c.loop-call.yielded (c.in-Some.call ∷ [])),
  runs_more c.loop-call.yielded c.in-Some.call c.args.self.now c.loop-call.self c.make.new.self c.loop-call.invariant.1
      c.in_default.ensures,
)

pub overflow_add-place : goal.overflow_add-place
overflow_add-place g c =
    let i = c.into_iter-call-iterator.ensures.into_iter_gives in
    let e = YieldsList-from_vec c.args.calls.items i.0 (i.1 ∙ c.args.calls.ok.0) in
    let t = YieldsList-turn e c.loop-call.yielded c.loop-call.call-iterator c.loop-call.yielded_by c.next.result
    c.next.new.self c.in-Some.call c.in-Some.is c.next.ensures.steps in
    let within = t.0 in
    let long = i.1 ∙ c.args.calls.ok.0 in
    let fits = i.2 in
    omega (arith, within, long, fits)

pub returns-in-Err-clause-stopped : goal.returns-in-Err-clause-stopped
returns-in-Err-clause-stopped g c =
    let i = c.into_iter-call-iterator.ensures.into_iter_gives in
    let e = YieldsList-from_vec c.args.calls.items i.0 (i.1 ∙ c.args.calls.ok.0) in
    let t = YieldsList-turn e c.loop-call.yielded c.loop-call.call-iterator c.loop-call.yielded_by c.next.result
    c.next.new.self c.in-Some.call c.in-Some.is c.next.ensures.steps in
    let so_far = YieldsList-so_far e c.loop-call.yielded c.loop-call.call-iterator c.loop-call.yielded_by in
    stopped_at c.args.calls.items c.loop-call.yielded c.args.self.now c.loop-call.self c.make.new.self c.loop-call.place
    c.in-Err.fault c.in-Some.call
    c.loop-call.invariant.0 (sym (map-id c.loop-call.yielded) ∙ so_far) t.0 t.1 c.loop-call.invariant.1
    c.in-Err.ensures.0 c.in-Err.ensures.1

pub returns-clause-done : goal.returns-clause-done
returns-clause-done g c =
    let i = c.into_iter-call-iterator.ensures.into_iter_gives in
    let e = YieldsList-end (YieldsList-from_vec c.args.calls.items i.0 (i.1 ∙ c.args.calls.ok.0)) c.loop-call.yielded
    c.loop-call.call-iterator c.loop-call.yielded_by c.next.result c.next.new.self c.in-None.is c.next.ensures.steps
    in
    let P : List (DeskCall g.row.T.Denot) → Type 0 = λ cs. Runs cs c.args.self.now c.loop-call.self in
    subst P (sym (map-id c.loop-call.yielded) ∙ e.0) c.loop-call.invariant.1
