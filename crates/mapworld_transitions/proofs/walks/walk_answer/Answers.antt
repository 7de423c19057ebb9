use Rattle.std.proofs.Common.{sym, refl, subst, ⊎_elim}
use Rattle.mapworld_calls.specs.declared.reply.Answer.TheVariants as answer
use Rattle.mapworld_calls.specs.Agrees.{HasRead}
use Rattle.mapworld_state.specs.Walks.{IsTold}
use Rattle.mapworld_transitions.proofs.walks.walk_answer.Goals as goal

pub returns-in-Iter-clause-told : goal.returns-in-Iter-clause-told
returns-in-Iter-clause-told g c =
    let a = answer.Reads c.take_reads.result in
    let has : HasRead {K = g.row.K.Denot} {V = g.row.V.Denot} c.args.reads.now.items a =
    record { list = c.take_reads.result; has = c.take_reads.ensures.taken; is = refl } in
    ⊎_elim
    (λ is. subst (λ f. IsTold {K = g.row.K.Denot} {V = g.row.V.Denot} f c.args.reads.now.items c.args.count a)
    (sym is.2) has)
    (λ is. subst (λ f. IsTold {K = g.row.K.Denot} {V = g.row.V.Denot} f c.args.reads.now.items c.args.count a)
    (sym is.2) has)
    c.in-Iter.is
