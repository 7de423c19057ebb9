-- A claim may go to another thread: its rights are no thread's own.
use denote.Param.Send.{IsSend, AllSend, Quiet, owning_send, struct_send, sendable}
use denote.Struct.Owning.{shape, fields, to}
use denote.Exit.{Exit, unchanged, leaves, hidden, under}
use denote.Struct.Struct.{exits_of}
use Rattle.lock_word.specs.contracts.shared_claim.SharedClaim.{the_row, the_type}

-- what is let go shows nothing more for being looked at through a struct
unseen : {D X : Type 0} (f : D → X) (e : Exit X) → Quiet e → Quiet (hidden (under f e))
unseen f unchanged quiet = λ x last. tt
unseen f (leaves L l S s r) quiet = λ x. quiet (f x)

pub send : IsSend the_row
send =
    let all : AllSend (fields the_type) = (search sendable, tt) in
    owning_send the_type all (λ d _. ((λ _. tt), tt))
    (λ kept. unseen (to the_type) (exits_of kept (fields the_type)) ((struct_send (shape the_type) all).leaving kept))
