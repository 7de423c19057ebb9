-- Threads may share a claim: a `&` to it is a part of it, which is no thread's own.
use denote.Param.Send.{IsSync, part_keyless}
use Rattle.lock_word.specs.contracts.shared_claim.SharedClaim.{the_row}
use Rattle.lock_word.proofs.shared_claim.SharedClaim.TheSendSync.Send.{send}

pub sync : IsSync the_row
sync = record { shared = λ d b o κ q. part_keyless the_row send q d b o }
