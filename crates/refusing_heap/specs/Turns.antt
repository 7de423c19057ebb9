-- Runs of a check, each under the next refusal.
use Rattle.std.specs.Prelude.{◌≡◌, ℕ, zero, suc, ◌<◌, Result, Ok, Err}
use denote.Ref.{Bor}
use denote.Param.Members.{Mut, Called}
use Rattle.refusing_heap.specs.Refusals.{later}
use Rattle.refusing_heap.specs.declared.growths.Refusal.{Refusal}
use Rattle.refusing_heap.specs.declared.turns.EachGrowthFault.{EachGrowthFault}
use Rattle.refusing_heap.specs.declared.turns.EachGrowthFault.TheVariants.{Wrong, Endless}
use Rattle.refusing_heap.specs.declared.heap.RefusingHeap.{RefusingHeap}

module _ {A E C : Type 0} (calls : Mut C (Bor (RefusingHeap A) × Unit {0}) (Result (Unit {0}) E)) where
  -- the check, called with a heap over this allocator under this refusal, may say this and be the other one afterwards
  pub record RunsUnder (alloc : A) (refusal : Refusal) (check : C) (said : Result (Unit {0}) E) (next : C) : Type 0
    where
      pub heap : Bor (RefusingHeap A)
      pub over : heap.now.inner ≡ alloc
      pub under : heap.now.growths.refusal ≡ refusal
      pub called : Called calls check (heap, tt) said next

  -- it was run so many times, from the first refusal on under each next one, and said each time that all stands right
  abbrev pub Turns : A → Refusal → ℕ → C → C → Type 0
  Turns alloc first zero check last = check ≡ last
  Turns alloc first (suc k) check last =
      (now : C) × Turns alloc first k check now × RunsUnder alloc (later k first) now (Ok tt) last

  -- in one of so many turns it said that something is wrong, and in those before it that all stands right
  pub record FailsAt (alloc : A) (first : Refusal) (turns : ℕ) (check : C) (refusal : Refusal) (said : E) : Type 0
    where
      pub turn : ℕ
      pub within : turn < turns
      pub is : refusal ≡ later turn first
      pub now : C
      pub before : Turns alloc first turn check now
      pub last : C
      pub fails : RunsUnder alloc refusal now (Err said) last

  -- why the turns came to no end
  abbrev pub Stops : A → Refusal → ℕ → C → EachGrowthFault E → Type 0
  Stops alloc first turns check (Wrong refusal said) = FailsAt alloc first turns check refusal said
  Stops alloc first turns check Endless = (last : C) × Turns alloc first turns check last
