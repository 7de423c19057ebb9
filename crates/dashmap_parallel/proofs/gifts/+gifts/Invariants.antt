use Rattle.std.proofs.Common.{length, ◌*◌, ◌+◌}
use Rattle.dashmap_parallel.proofs.gifts.+gifts.Given as goal

abbrev pub decreases-given_each : goal.decreases-given_each
decreases-given_each g l = 4 * length l.parties.now

abbrev pub decreases-given_both : goal.decreases-given_both
decreases-given_both g l = 4 * length l.others.now + 3

abbrev pub decreases-given_both-rest : goal.decreases-given_both-rest
decreases-given_both-rest g l = 4 * length l.others.now + 1
