use Rattle.std.proofs.Common.{not}
use Rattle.std.specs.List.{position_or_len}
use Rattle.parking_lot_core.proofs.Numbers.{refused_by}
use Rattle.parking_lot_core.proofs.parking_lot.ParkingLot.thread_data.Goals as goal

pub returns-in-Err-clause-full : goal.returns-in-Err-clause-full
returns-in-Err-clause-full g c =
    refused_by c.args.self.now.max_threads (position_or_len not c.deref_mut.result.now.given.items) c.in-Err.fault
    c.in-Err.ensures.full
