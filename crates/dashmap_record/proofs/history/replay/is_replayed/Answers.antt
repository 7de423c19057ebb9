use Rattle.std.proofs.Common.{◌≡◌, IfOk, subst}
use Rattle.std.proofs.Math.Path.{fun_ext}
use Rattle.dashmap_record.specs.History.Replay.{PlainMap, replies_hold}
use Rattle.dashmap_record.proofs.history.replay.is_replayed.Goals as goal

pub returns : goal.returns
returns g c =
    subst (λ (m : PlainMap g.row.K.Denot g.row.V.Denot). IfOk c.replies_hold.result
    (λ is. is ≡ replies_hold g.K.PartialEq.eq g.V.PartialEq.eq m c.args.history.now))
    (fun_ext (λ q. c.in_ok-map.ensures q)) c.replies_hold.ensures
