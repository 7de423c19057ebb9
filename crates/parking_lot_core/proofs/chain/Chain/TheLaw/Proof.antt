-- A `&` to a chain holds a `&` to its nodes, and nothing besides. Assumes `Logic`.
use denote.RattleType.{RattleType}
use denote.Param.Laws.{Laws}
use denote.SharingLaws.{nothing_shr_laws}
use denote.Struct.Lending.{of_Lends, Lends-nothing}
use Rattle.std.specs.declared.alloc.Allocator.{Ghosts}
use Rattle.parking_lot_core.specs.contracts.chain.Chain.TheInside as C
use Rattle.parking_lot_core.proofs.chain.Links.TheLaws.{the_field_shared}
use Rattle.parking_lot_core.proofs.chain.Chain.TheLaw.Statement.{statement}

pub shares : (A : RattleType) (g : Ghosts A.Denot) (L : Laws A) → statement A g L
shares A g L = of_Lends (C.struct A g) (C.the_codes A.Denot A.coded) (C.the_heap A g) (C.the_lent A g)
    (λ d p. nothing_shr_laws) (the_field_shared A g L, tt)
    (λ M 𝓤 𝓛 d p. Lends-nothing 𝓛 (C.the_heap A g d) (C.the_row A g).lives)
