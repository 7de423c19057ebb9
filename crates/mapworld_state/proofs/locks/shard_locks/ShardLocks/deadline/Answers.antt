use Rattle.std.proofs.Common.{◌≡◌, true, ap, ◌∙◌, subst}
use Rattle.parking_lot_machine.specs.Machines.{may_expire}
use Rattle.parking_lot_machine.specs.Rows.{state}
use Rattle.mapworld_state.specs.Locks.Steps.{LockExpires}
use Rattle.mapworld_state.specs.Locks.Views.{Shown}
use Rattle.mapworld_state.proofs.LocksFacts.Expiring.{expired_fit, expires}
use Rattle.mapworld_state.proofs.locks.shard_locks.ShardLocks.deadline.Goals as goal

pub invariant_of-self : goal.invariant_of-self
invariant_of-self g c =
    let old : Shown = record { rows = c.self.inside.machine; desks = c.self.inside.desks.items } in
    let may : may_expire (state old.rows) c.args.thread ≡ true =
    ap (λ (x : Shown). may_expire (state x.rows) c.args.thread) c.self.view_is ∙ c.requires.may in
    expired_fit c.each_step_is_a_case.ensures old c.self.invariant c.args.thread c.deadline.new.self
    c.deadline.ensures may

pub returns : goal.returns
returns g c =
    let old : Shown = record { rows = c.self.inside.machine; desks = c.self.inside.desks.items } in
    let new : Shown = record { rows = c.deadline.new.self; desks = old.desks } in
    let may : may_expire (state old.rows) c.args.thread ≡ true =
    ap (λ (x : Shown). may_expire (state x.rows) c.args.thread) c.self.view_is ∙ c.requires.may in
    subst (λ (x : Shown). LockExpires c.args.thread x new) c.self.view_is
    (expires c.each_step_is_a_case.ensures old c.self.invariant c.args.thread c.deadline.new.self c.deadline.ensures
    may)
