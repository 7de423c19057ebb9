-- One turn more.
use Rattle.std.proofs.Common.{◌≡◌, ℕ, ◌+◌, Result, Ok, add-one, sym, ◌∙◌, subst}
use denote.Ref.{Bor}
use denote.Param.Members.{Mut, Called}
use Rattle.refusing_heap.specs.Refusals.{later}
use Rattle.refusing_heap.specs.Turns.{RunsUnder, Turns}
use Rattle.refusing_heap.specs.declared.growths.Refusal.{Refusal}
use Rattle.refusing_heap.specs.declared.heap.RefusingHeap.{RefusingHeap}

module _ {A E C : Type 0} (calls : Mut C (Bor (RefusingHeap A) × Unit {0}) (Result (Unit {0}) E)) where
  pub under : (h : RefusingHeap A) {alloc : A} {refusal : Refusal} {now last : C} {said answer : Result (Unit {0}) E}
      → h.inner ≡ alloc → h.growths.refusal ≡ refusal → said ≡ answer
      → RunsUnder calls h.inner h.growths.refusal now said last → RunsUnder calls alloc refusal now answer last
  under h {now = now} {last = last} over is says ran = record {
    heap = ran.heap;
    over = ran.over ∙ over;
    under = ran.under ∙ is;
    called = subst (λ x. Called calls now (ran.heap, tt) x last) says ran.called;
  }

  pub one_more : (alloc : A) (first : Refusal) (turn : ℕ) (check now last : C)
      → Turns calls alloc first turn check now → RunsUnder calls alloc (later turn first) now (Ok tt) last
      → Turns calls alloc first (turn + 1) check last
  one_more alloc first turn check now last before ran = subst (λ k. Turns calls alloc first k check last)
      (sym (add-one turn)) (now, before, ran)
