use Rattle.std.proofs.Common.{ℕ, length, drop, ◌+◌, sym, ◌∙◌, subst}
use Rattle.std.proofs.lemmas.List.{map-id}
use Rattle.std.proofs.lemmas.Fn.{FoldsTo-push}
use Rattle.std.proofs.lemmas.Result.{err_from_is_err_and}
use Rattle.std.proofs.lemmas.Iterator.Adapters.{YieldsList-from_vec}
use Rattle.std.proofs.lemmas.Iterator.Consumers.{YieldsList-end, YieldsList-turn, YieldsList-so_far}
use Rattle.dashmap_parallel.specs.Puts.{PutAt, PutInTurn}
use Rattle.dashmap_parallel.proofs.Putting.{stops-at, at-refusal}
use Rattle.dashmap_parallel.proofs.put.put_each.Goals as goal

pub loop-hash-preserved : goal.loop-hash-preserved
loop-hash-preserved g c =
    let x : ℕ × g.row.K.Denot × g.row.V.Denot = (c.in-Some.hash, c.in-Some.key, c.in-Some.value) in
    FoldsTo-push (PutAt g.K.PartialEq.eq g.Q.Evidence.held c.args.locks.now) c.args.td.now c.loop-hash.yielded
    c.loop-hash.td x c.put_one.new.td c.loop-hash.invariant c.in_ok-put_one.ensures

pub returns-in_err-put_one : goal.returns-in_err-put_one
returns-in_err-put_one g c =
    let i = c.into_iter-hash-iterator.ensures.into_iter_gives in
    let e = YieldsList-from_vec c.args.pairs.items i.0 (i.1 ∙ c.args.pairs.ok.0) in
    let x : ℕ × g.row.K.Denot × g.row.V.Denot = (c.in-Some.hash, c.in-Some.key, c.in-Some.value) in
    let done = c.loop-hash.yielded in
    let t = YieldsList-turn e done c.loop-hash.hash-iterator c.loop-hash.yielded_by c.next.result c.next.new.self x
    c.in-Some.is c.next.ensures.steps in
    let so_far = YieldsList-so_far e done c.loop-hash.hash-iterator c.loop-hash.yielded_by in
    let answer = err_from_is_err_and c.from_residual.result c.from_residual.ensures.1 in
    at-refusal c.from_residual.result _ _ answer.0 answer.1 (
      done,
      x,
      drop (length done + 1) c.args.pairs.items,
      c.loop-hash.td,
      stops-at c.args.pairs.items done x (sym (map-id done) ∙ so_far)
          t.0 t.1,
      c.loop-hash.invariant,
      c.in_err-put_one.ensures,
    )

pub returns : goal.returns
returns g c =
    let i = c.into_iter-hash-iterator.ensures.into_iter_gives in
    let e = YieldsList-end (YieldsList-from_vec c.args.pairs.items i.0 (i.1 ∙ c.args.pairs.ok.0)) c.loop-hash.yielded
    c.loop-hash.hash-iterator c.loop-hash.yielded_by c.next.result c.next.new.self c.in-None.is c.next.ensures.steps
    in
    subst (λ xs. PutInTurn g.K.PartialEq.eq g.Q.Evidence.held c.args.locks.now c.args.td.now xs c.loop-hash.td)
    (sym (map-id c.loop-hash.yielded) ∙ e.0) c.loop-hash.invariant
