use Rattle.std.proofs.Common.{sym, ◌∙◌}
use Rattle.parking_lot_machine_waits.specs.Joint.{buckets}
use Rattle.parking_lot_machine_waits.proofs.Keepers.{kept, none_more}
use Rattle.parking_lot_machine_waits.proofs.machines.Machines.is_kept.Goals as goal

pub returns-then-keeps : goal.returns-then-keeps
returns-then-keeps g c =
    sym (kept c.args.self.now c.loop-variable.variable c.args.bucket (sym c.keeps.ensures ∙ c.if-keeps.true))

pub loop-variable-preserved : goal.loop-variable-preserved
loop-variable-preserved g c =
    let j = c.args.self.now in
    none_more (buckets j) j.vars c.args.bucket c.loop-variable.variable c.loop-variable.invariant
    (sym c.keeps.ensures ∙ c.if-keeps.false)
