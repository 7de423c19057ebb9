-- Answers fit the calls of locks, of condition variables and of onces.
use Rattle.parking_lot_machine.specs.CallLaws.AnswerLaws.{CallsLead}
use Rattle.parking_lot_machine_sides.specs.Once.OnceMachineLasting as once_laws
use Rattle.parking_lot_machine_waits.specs.JointLaws.{RepliesFit}
use Rattle.parking_lot_world.specs.WorldAnswers.{AnswersFit}
use Rattle.parking_lot_world.proofs.Answering as of_locks
use Rattle.parking_lot_world.proofs.AnsweringOnces as of_onces
use Rattle.parking_lot_world.proofs.AnsweringWaits as of_waits

pub answers_fit_their_calls : CallsLead → RepliesFit → once_laws.RepliesFit → AnswersFit
answers_fit_their_calls law replies ends = record {
  locks = λ t i asks c is. of_locks.begun_fits law t i c asks is;
  variables = λ t v asks c is. of_waits.begun_fits replies t v c asks is;
  onces = λ t i asks c is. of_onces.begun_fits ends t i c asks is;
}
