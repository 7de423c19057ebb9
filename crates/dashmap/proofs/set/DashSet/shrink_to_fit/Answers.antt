use Rattle.std.proofs.Common.{subst}
use Rattle.dashmap_map.specs.Owner.{ShrinksAll}
use Rattle.dashmap.proofs.set.DashSet.shrink_to_fit.Goals as goal

pub returns : goal.returns
returns g c = subst (λ m. ShrinksAll g.K.PartialEq.eq g.Q.Evidence.held m c.args.td.now c.shrink_to_fit.new.td
    c.shrink_to_fit.result) c.self.view_is c.shrink_to_fit.ensures
