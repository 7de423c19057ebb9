use Rattle.std.proofs.Common.{◌∙◌}
use Rattle.dashmap_table.proofs.SpreadHashes.{spread_u64}
use Rattle.dashmap_table.proofs.spread.spread_hash.Goals as goal

pub returns : goal.returns
returns c = c.hash_one.ensures ∙ spread_u64 c.args.key
