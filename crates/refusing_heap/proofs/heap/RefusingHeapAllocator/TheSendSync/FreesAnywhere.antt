-- A block may be given back by any thread where the inner allocator's may.
use mir.Syntax.{Dict}
use denote.RattleType.{RattleType}
use denote.Param.Send.{Frees}
use Rattle.core.specs.declared.alloc.Allocator.{Ghosts}
use Rattle.refusing_heap.specs.contracts.heap.RefusingHeapAllocator.TheImpl.{ghosts}

pub frees : (A : RattleType) (g : Ghosts A.Denot) (d drops : Dict) → Frees g g.dealloc_token
    → Frees (ghosts A g d drops) (ghosts A g d drops).dealloc_token
frees A g d drops anywhere = record { frees = λ heap. anywhere.frees heap.inner }
