use Rattle.std.proofs.Common.{◌∙◌}
use Rattle.mapworld_report.proofs.CallersFacts.Counting.{both_counted, logs_are}
use Rattle.mapworld_report.proofs.callers.callers.count_of.Goals as goal

pub returns : goal.returns
returns c =
    (c.len.ensures ∙ c.in_ok-all.all.ok.0)
    ∙ both_counted _ c.in_ok-all.all.items c.args.one.items c.args.two.items _
    (logs_are c.new-logs.result.items c.push.new.self.items c.push-2.new.self.items c.args.one c.args.two
    c.new-logs.ensures.items c.in_ok-push.ensures.items c.in_ok-push-2.ensures.items)
    c.in_ok-all.ensures.legal.callers
