use Rattle.std.proofs.Common.{◌%◌, ◌/◌, arith}
use Rattle.std.proofs.Math.Nat.{div-add-mod}
use Rattle.dashmap_parallel.proofs.Cutting.{late-number}
use Rattle.dashmap_parallel.proofs.deal.piece_of.Goals as goal

pub returns-else-shard-longer-clause-below : goal.returns-else-shard-longer-clause-below
returns-else-shard-longer-clause-below c =
    let all = div-add-mod c.args.shards c.args.pieces in
    late-number c.args.shards c.args.pieces c.args.shard (c.args.shards / c.args.pieces) (c.args.shards % c.args.pieces)
    (omega (arith, all)) (omega arith) c.requires.within (omega arith)
