use Rattle.std.proofs.Common.{◌∙◌, sym, subst}
use Rattle.std.proofs.lemmas.Option.{none-some, same_Some}
use Rattle.parking_lot_protocol_waits.specs.Once.OnceAnswers.{MayAnswer}
use Rattle.parking_lot_mutex.proofs.OnceFacts.OnceRunning.{answered, ends}
use Rattle.parking_lot_mutex.proofs.once.once.Once.answered.Goals as goal

pub unreachable-requires : goal.unreachable-requires
unreachable-requires g c =
    let end = c.run_to_its_end.ensures.end in
    let x = ends g.K.Call.begun c.run_to_its_end.result end.0 c.requires c.run_to_its_end.ensures.told end.1 in
    none-some x.0 (sym c.in-None.is ∙ c.answer.ensures.answer ∙ x.1)

pub returns-clause-answer : goal.returns-clause-answer
returns-clause-answer g c = answered g.K.Call.begun c.run_to_its_end.result c.in-Some.answer
    c.run_to_its_end.ensures.told (sym c.answer.ensures.answer ∙ c.in-Some.is)

pub returns-clause-may : goal.returns-clause-may
returns-clause-may g c =
    let end = c.run_to_its_end.ensures.end in
    let x = ends g.K.Call.begun c.run_to_its_end.result end.0 c.requires c.run_to_its_end.ensures.told end.1 in
    subst (λ a. MayAnswer g.K.Call.begun.core.phase a)
    (same_Some _ _ (sym x.1 ∙ sym c.answer.ensures.answer ∙ c.in-Some.is)) x.2
