use Rattle.std.proofs.Common.{ℕ, ◌*◌, ◌^◌, ◌<◌, ◌≤◌, Option, Some, None, MatchOption, subst, arith}
use Rattle.std.specs.Int.{IsNextPowerOfTwo}
use Rattle.dashmap_table.specs.Route.{IsShardAmount, wanted_shards}
use Rattle.dashmap_table.proofs.ShardAmounts.{IsShardAmount-next}
use Rattle.dashmap_table.proofs.routing.default_shards.Goals as goal

by_cases : (p : ℕ) (r : Option ℕ) → p ≤ 2 ^ 14 → MatchOption r (2 ^ 63 < wanted_shards p)
    (IsNextPowerOfTwo (wanted_shards p)) → MatchOption r (2 ^ 16 < wanted_shards p)
    (λ n. IsNextPowerOfTwo (wanted_shards p) n × IsShardAmount n)
by_cases p None few above = omega arith
by_cases p (Some n) few next = (next, IsShardAmount-next p n few next)

pub returns : goal.returns
returns c =
    by_cases c.args.parallelism c.checked_next_power_of_two.result c.if-parallelism.false
    (subst (λ w. MatchOption c.checked_next_power_of_two.result (2 ^ 63 < 4 * w) (IsNextPowerOfTwo (4 * w)))
    c.max-wanted.ensures c.checked_next_power_of_two.ensures)
