use Rattle.parking_lot_core_model.proofs.LeastBuckets as least
use Rattle.parking_lot_core_model.proofs.laws.buckets_are_least.Goals as goal

pub returns : goal.returns
returns c = least.buckets_are_least
