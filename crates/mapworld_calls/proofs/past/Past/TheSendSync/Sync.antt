-- What a `&` to a history may read is the empty struct, which owns no memory.
use denote.RattleType.{RattleType}
use denote.Param.Send.{IsSend, IsSync, part_keyless, owning_send, sendable}
use Rattle.mapworld_calls.specs.contracts.past.Past.{the_row, the_type}

owned : (T : RattleType) → IsSend (the_row T)
owned T = owning_send (the_type T) (search sendable, tt) (λ d. tt) (λ k x w. tt)

pub sync : (T : RattleType) → IsSync (the_row T)
sync T = record { shared = λ d b o κ q. part_keyless (the_row T) (owned T) q d b o }
