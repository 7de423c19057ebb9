use Rattle.std.proofs.Common.{sym, subst}
use Rattle.mapworld_state.specs.Locks.Steps.{LockBegins, MayAsk}
use Rattle.mapworld_state.specs.Locks.Views.{Shown}
use Rattle.mapworld_state.proofs.LocksFacts.Beginning.{begins, begun_fits, may}
use Rattle.mapworld_state.proofs.locks.shard_locks.ShardLocks.begin.Goals as goal

pub begin-requires : goal.begin-requires
begin-requires g c =
    let old : Shown = record { rows = c.self.inside.machine; desks = c.self.inside.desks.items } in
    record {
      may = may old c.self.invariant c.args.thread c.args.shard c.args.call
          (subst (MayAsk c.args.thread c.args.shard c.args.call) (sym c.self.view_is) c.requires.may);
    }

pub invariant_of-self : goal.invariant_of-self
invariant_of-self g c =
    let old : Shown = record { rows = c.self.inside.machine; desks = c.self.inside.desks.items } in
    begun_fits old c.self.invariant c.args.thread c.args.shard c.args.call
    (subst (MayAsk c.args.thread c.args.shard c.args.call) (sym c.self.view_is) c.requires.may) c.begin.new.self
    c.begin.ensures

pub returns : goal.returns
returns g c =
    let old : Shown = record { rows = c.self.inside.machine; desks = c.self.inside.desks.items } in
    let new : Shown = record { rows = c.begin.new.self; desks = c.self.inside.desks.items } in
    subst (λ (x : Shown). LockBegins c.args.thread c.args.shard c.args.call x new) c.self.view_is
    (begins old c.self.invariant c.args.thread c.args.shard c.args.call
    (subst (MayAsk c.args.thread c.args.shard c.args.call) (sym c.self.view_is) c.requires.may) c.begin.new.self
    c.begin.ensures)
