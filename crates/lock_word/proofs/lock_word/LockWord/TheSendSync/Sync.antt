use denote.Param.Send.{IsSync}
use Rattle.core.proofs.atomic.Sent.{chain-Keyless}
use Rattle.lock_word.specs.contracts.lock_word.LockWord.{the_row}

pub sync : IsSync the_row
sync = record { shared = λ name b o κ α. ((λ νs. chain-Keyless νs κ α), λ n. (tt, λ _. (tt, tt))) }
