use Rattle.parking_lot_world.proofs.AllAnswers.{answers_fit_their_calls}
use Rattle.parking_lot_world.proofs.laws.answers_fit_their_calls.Goals as goal

pub returns : goal.returns
returns c = answers_fit_their_calls c.calls_lead.ensures c.replies_fit_their_calls.ensures
    c.answers_fit_their_calls.ensures
