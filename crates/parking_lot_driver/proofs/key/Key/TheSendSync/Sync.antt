-- Threads may share a key: a `&` to it is a part of it.
use denote.Param.Send.{IsSync, part_keyless}
use Rattle.parking_lot_driver.specs.contracts.key.Key.{the_row}
use Rattle.parking_lot_driver.proofs.key.Key.TheSendSync.Send.{send}

pub sync : IsSync the_row
sync = record { shared = λ d b o κ q. part_keyless the_row send q d b o }
