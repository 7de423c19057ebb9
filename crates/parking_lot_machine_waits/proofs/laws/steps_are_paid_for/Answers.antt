use Rattle.parking_lot_machine_waits.proofs.Ranking.{step_pays}
use Rattle.parking_lot_machine_waits.proofs.RankOthers.{ask_costs, call_costs, deadline_costs, late_costs, others_go_on}
use Rattle.parking_lot_machine_waits.proofs.RankOthers.{stopped_lets}
use Rattle.parking_lot_machine_waits.proofs.laws.steps_are_paid_for.Goals as goal

pub returns : goal.returns
returns c = record {
  steps = λ t fair end i j h fi k fj x. step_pays i j h fi k fj t fair end x;
  asks = λ t lock c i j h fi k fj may x. ask_costs i j h fi t k fj lock c may x;
  calls = λ t v c i j h fi may x. call_costs i j h fi t v c may x;
  deadlines = λ t n i j h fi k fj seat most late. deadline_costs i j h fi t k fj n seat most late;
  deadlines_at_variables = λ t v i j h fi seat may late. late_costs i j t v h seat may late;
  stops = λ t u j fits stops. stopped_lets j t u fits stops;
  others = λ t u j h fits low stops shut. others_go_on j h fits t shut u low stops;
}
