use Rattle.std.proofs.Common.{false, Some, subst}
use Rattle.parking_lot_machine.specs.Machines.{IsStepped}
use Rattle.parking_lot_machine.specs.Rows.{state}
use Rattle.mapworld_state.specs.Locks.Steps.{LockEnds}
use Rattle.mapworld_state.specs.Locks.Views.{Shown}
use Rattle.mapworld_state.proofs.LocksFacts.Finishing.{ended_fit, ends}
use Rattle.mapworld_state.proofs.locks.shard_locks.ShardLocks.finish.Goals as goal

pub invariant_of-self : goal.invariant_of-self
invariant_of-self g c =
    let old : Shown = record { rows = c.self.inside.machine; desks = c.self.inside.desks.items } in
    let step : IsStepped c.args.thread false (Some c.in-Some.answer) (state old.rows) (state c.step.new.self) =
    subst (λ o. IsStepped c.args.thread false o (state old.rows) (state c.step.new.self)) c.in-Some.is
    c.step.ensures in
    ended_fit c.each_step_is_a_case.ensures old c.self.invariant c.args.thread c.step.new.self c.in-Some.answer step

pub returns : goal.returns
returns g c =
    let old : Shown = record { rows = c.self.inside.machine; desks = c.self.inside.desks.items } in
    let new : Shown = record { rows = c.step.new.self; desks = old.desks } in
    let step : IsStepped c.args.thread false (Some c.in-Some.answer) (state old.rows) (state c.step.new.self) =
    subst (λ o. IsStepped c.args.thread false o (state old.rows) (state c.step.new.self)) c.in-Some.is
    c.step.ensures in
    subst (λ (x : Shown). LockEnds c.args.thread c.in-Some.answer x new) c.self.view_is
    (ends c.each_step_is_a_case.ensures old c.self.invariant c.args.thread c.step.new.self c.in-Some.answer step)
