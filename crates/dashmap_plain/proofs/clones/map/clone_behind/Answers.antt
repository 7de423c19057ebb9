use Rattle.std.proofs.Common.{subst}
use Rattle.std.specs.Sync.RwLock.{read_guard_value}
use Rattle.std.proofs.lemmas.Result.{IfOk-weaker}
use Rattle.dashmap_view.specs.Clones.{IsCloneOf}
use Rattle.dashmap_plain.specs.Clones.Clones.{IsCloneBehind}
use Rattle.dashmap_plain.proofs.clones.map.clone_behind.Goals as goal

pub returns : goal.returns
returns g c =
    IfOk-weaker c.clone_shard.result (IsCloneOf g.K.PartialEq.eq c.deref.result.now)
    (IsCloneBehind g.Q.Evidence.showed g.K.PartialEq.eq
    c.args.lock.now)
    (λ clone here. (
      c.args.td.now,
      c.read_shown-guard.new.party,
      read_guard_value c.read_shown-guard.result.inner,
      c.read_shown-guard.ensures.showed,
      subst (λ t. IsCloneOf g.K.PartialEq.eq t clone)
          c.deref.ensures here,
    )) c.clone_shard.ensures
