use Rattle.std.proofs.Common.{ap, sym, ◌∙◌, arith}
use Rattle.std.specs.List.{list_any, sum_by}
use Rattle.mapworld_state.specs.Core.{ask_lists, may_visit}
use Rattle.mapworld.proofs.beginning.at_start.Goals as goal

pub returns-clause-lists : goal.returns-clause-lists
returns-clause-lists g c = record {
  visits = λ walks. c.in_ok-visits.ensures.room
      (c.has_visits.ensures ∙ (ap (list_any may_visit) c.deref.ensures.value
      ∙ (ap (list_any may_visit) (sym c.from.ensures.0) ∙ walks)));
  lists = omega (
    arith,
    ap (sum_by ask_lists) c.from.ensures.0,
    ap (sum_by ask_lists) c.deref-2.ensures.value,
    c.program_lists.ensures,
    c.in_ok-lists.ensures,
  );
}
