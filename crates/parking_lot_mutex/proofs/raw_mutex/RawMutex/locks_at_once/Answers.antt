use Rattle.std.proofs.Common.{◌∷◌, [], refl}
use Rattle.parking_lot_protocol.specs.Timed.Courses.{EndedAt}
use Rattle.parking_lot_protocol.specs.declared.act.ActResult.TheVariants.{Word, Exchanged}
use Rattle.parking_lot_mutex.proofs.raw_mutex.RawMutex.locks_at_once.Goals as goal

-- the core was told of the word, and that the exchange was won
pub returns-in-Ok-clause-ended : goal.returns-in-Ok-clause-ended
unfolding EndedAt
returns-in-Ok-clause-ended g c = (Exchanged ∷ Word 0 ∷ [], ((0, refl), ((0, refl), tt)), refl)
