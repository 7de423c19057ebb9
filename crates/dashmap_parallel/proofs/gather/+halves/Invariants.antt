use Rattle.std.proofs.Common.{length, ◌*◌, ◌+◌}
use Rattle.dashmap_parallel.proofs.gather.+halves.Given as goal

abbrev pub decreases-made_in_pieces : goal.decreases-made_in_pieces
decreases-made_in_pieces g l = 2 * length l.parties.now

abbrev pub decreases-front : goal.decreases-front
decreases-front g l = 2 * length l.mine.now + 1

abbrev pub decreases-back : goal.decreases-back
decreases-back g l = 2 * length l.yours.now + 1
