use Rattle.mapworld_report.proofs.CallersFacts.Counting.{two_new}
use Rattle.mapworld_report.proofs.callers.callers.two_of.Goals as goal

pub returns : goal.returns
returns c =
    two_new c.args.callers.items c.pop.new.self.items c.pop-2.new.self.items c.pop.result c.pop-2.result
    c.in_ok-second.second c.in_ok-first.first c.requires
    c.pop.ensures.items c.in_ok-second.was c.pop-2.ensures.items c.in_ok-first.was
