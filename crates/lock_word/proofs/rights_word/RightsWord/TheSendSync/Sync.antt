-- Threads may share a word, for the same reason.
use denote.Param.Send.{IsSync}
use Rattle.core.proofs.atomic.Sent.{chain-Keyless}
use Rattle.lock_word.specs.contracts.rights_word.RightsWord.{the_row}
use Rattle.lock_word.proofs.rights_word.RightsWord.TheSendSync.Send.{kept_keyless}

pub sync : IsSync the_row
sync = record {
  shared = λ it b o κ α. ((λ νs. chain-Keyless νs κ α), λ n. (tt, kept_keyless it.0 it.1 n));
}
