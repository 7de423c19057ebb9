-- A chain may go to another thread where its allocator may: its nodes may.
use denote.Exit.{Exit, unchanged, leaves, hidden, under}
use denote.RattleType.{RattleType}
use denote.Struct.Struct.{exits_of}
use denote.Struct.Owning.{shape, fields, to}
use denote.Param.Send.{IsSend, Frees, AllSend, Quiet, owning_send, struct_send, view_send, sendable}
use Rattle.std.proofs.Crossing as crossing
use Rattle.std.proofs.CrossingOver as over
use Rattle.std.specs.declared.alloc.Allocator.{Ghosts}
use Rattle.parking_lot_core.specs.declared.chain.Chain.{Chain, the_code}
use Rattle.parking_lot_core.specs.contracts.chain.Chain.{the_row, the_view, the_invariant}
use Rattle.parking_lot_core.specs.contracts.chain.Chain.TheInside as inside
use Rattle.parking_lot_core.specs.contracts.chain.Links.{the_field}
use Rattle.parking_lot_core.proofs.chain.Links.TheLaws.TheKnot as knot

-- what is let go shows nothing more for being looked at through a struct
unseen : {D X : Type 0} (f : D → X) (e : Exit X) → Quiet e → Quiet (hidden (under f e))
unseen f unchanged quiet = λ x last. tt
unseen f (leaves L l S s r) quiet = λ x. quiet (f x)

nodes : (A : RattleType) (g : Ghosts A.Denot) → IsSend A → Frees g g.dealloc_token → IsSend (the_field A g).row
nodes A g sends frees = search (crossing.crosses, over.crosses, knot.crosses, sendable) depth 60 fits 20000

pub send : (A : RattleType) (g : Ghosts A.Denot) → IsSend A → Frees g g.dealloc_token → IsSend (the_row A g)
send A g sends frees =
    let O = inside.the_type A g in
    let all : AllSend (fields O) = (nodes A g sends frees, tt) in
    view_send (inside.the_row A g) (Chain A.Denot) (the_code A.Denot A.coded) (the_view A g) (the_invariant A g)
    (owning_send O all (λ d. tt)
    (λ kept. unseen (to O) (exits_of kept (fields O)) ((struct_send (shape O) all).leaving kept)))
