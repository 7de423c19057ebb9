-- The growth is counted, and then refused with the block as it was, or the inner allocator answers. Assumes `Logic`.
use Rattle.std.proofs.Common.{◌≡◌, Bool, false, [], ◌∷◌, Err, refl, w64}
use Rattle.std.proofs.raw_atomic.Walks.{proved, leaves}
use mir.Syntax.{Args, Fn, a_type, dnil, dcons}
use mir.Val.{vbool}
use mir.MapTy.{inst_fn}
use base.Logic.{never, fst∗, id⊢}
use base.Fml.{Fml, ffalse, ftrue, fsep, flft}
use contract.BorrowLft.{◌⊑◌}
use contract.Monad.{fact}
use contract.Running.{tables}
use types.Logic.{sem}
use types.Kit.{Item, ‵, raw, ◌⊛◌, some, later, given, at_ret, ◌$◌, ◌∵◌, !, qed, move, keep, drop, use0, use1, use2}
use types.Kit.{split, join, pick, learn, suffices, await, done}
use types.Part.{agg}
use types.Run.{stop, fld, addr, lit, no_more, and_then, first, branches, skips, exec, returns, returns_within, enter}
use types.ByLocal.{alloc_all, pass_all, free_all, look_at, get, through, sets, lands_as, env}
use denote.Builtin.{usize, RawPtr, RefOf}
use denote.Exit.{yes}
use denote.RattleType.{RattleType, Valss, owns}
use denote.Param.{bounded, param}
use denote.Plain.{uint_vals, uint_Tells}
use denote.RawPtr.{null_ptr, rawptr_vals, rawptr_Tells, rawptr_Lawful}
use denote.Ref.{shr_vals}
use denote.Signature.{Slot, plain, types_at}
use denote.Triple.Call.{calls_at}
use denote.Triple.Table.{framed}
use denote.Triple.Walked.{Stays, walk_of, stay_dropped, Goes-dropped}
use Rattle.core.specs.Allocator.{array_of, resized_if_ok}
use Rattle.std.proofs.alloc.Calls.{Al, token, Answer, answer_val, Answer-typed}
use Rattle.std.proofs.alloc.Resizes.{Grows, Resizes, result_of, result_own}
use Rattle.refusing_heap.specs.contracts.heap.RefusingHeap as heap
use Rattle.refusing_heap.specs.contracts.heap.RefusingHeapAllocator.grow as f
use Rattle.refusing_heap.proofs.heap.RefusingHeapAllocator.grow.Statement.{statement}
use Rattle.refusing_heap.proofs.heap.RefusingHeapAllocator.grow.Code as code
use Rattle.std.proofs.alloc.Shapes.{after}
use Rattle.refusing_heap.proofs.growths.Growths.refuse_next.Met as counted
use Rattle.refusing_heap.proofs.Counting.{Counts, call, takes, gives}
use Rattle.refusing_heap.proofs.Handing.{spent, spent_i, the_count, the_inner, enters_heap, gathers, Told, told}

pub grow_spec : {M : Type 1} → statement M
grow_spec 𝓤 𝓛 𝓜 𝓡 wired A X laws laws' g d drops met _ =
    let Z : Al = record { row = A; laws = laws; g = g; d = d; drops = drops } in
    let args : Args = bounded (a_type ∷ a_type ∷ []) (A, (X, tt)) (dcons d (dcons drops dnil)) in
    let here : Fn = inst_fn args code.function in
    let end = f.ended A X g d drops in
    let self : Slot 3 = RefOf (0 ∷ []) tt (plain (λ _. heap.the_row (param 0 A))) (λ _. tt) in
    let stayed : Stays end.signature.params end.kept = (
      stay_dropped _ yes,
      (
        stay_dropped _ yes,
        (stay_dropped _ yes, (stay_dropped _ yes, (stay_dropped _ yes, tt))),
      ),
    ) in
    let c = f.clauses A X g d drops 𝓛 𝓜.mem 𝓡.returns in
    let W = walk_of 𝓛 end stayed c in
    let 𝓣 = tables 𝓤 𝓛.H 𝓜 𝓡 𝓡.env in
    let goes = λ (R : RattleType). Goes-dropped 𝓛 3 (plain (λ _. R)) yes in
    proved 𝓛 end stayed c 𝓜 𝓡 (
      Goes-dropped 𝓛 3 self yes (λ κs x w. refl),
      (
        goes RawPtr (λ κs x w. refl),
        (goes usize (λ κs x w. refl), (goes usize (λ κs x w. refl), (goes usize (λ κs x w. refl), tt))),
      ),
    )
    (f.Key.name args) here (code.unfolded 𝓤 𝓛.H 𝓜 𝓡 wired (A, (X, tt)) d drops)
    (λ κs. (shr_vals, (rawptr_vals, (uint_vals w64, (uint_vals w64, (uint_vals w64, tt))))))
    (λ κs. ((λ r vs s. s.0), (rawptr_Tells, (uint_Tells w64, (uint_Tells w64, (uint_Tells w64, tt))))))
    (λ κs qs bounds a xs are.
    let κ = κs.0 in let q = qs.0 in let r = a.0 in let p = a.1.0 in
    let vs : Valss (RawPtr ∷ usize ∷ usize ∷ usize ∷ []) =
    (rawptr_vals p, (uint_vals w64 a.1.1.0, (uint_vals w64 a.1.1.1.0, (uint_vals w64 a.1.1.1.1.0, tt)))) in
    let more : Item 𝓤 = ‵ (flft κs.1.0 qs.1.0) ⊛ ‵ (flft κs.1.1.0 qs.1.1.0) ⊛ ‵ ftrue in
    let rest = owns (RawPtr ∷ usize ∷ usize ∷ usize ∷ []) a.1 vs in
    let y : W.Ghost = ((κs, qs, bounds, a, (shr_vals r, vs)), xs) in
    let N = Counts 𝓛 𝓜.mem 𝓡.returns in
    let n = the_count Z r in
    let C = Resizes Z X (Grows X) 𝓛 𝓜.mem 𝓡.returns in
    let i = the_inner Z r in
    let z : C.Ghost = ((κs, qs, bounds, (i, a.1), (shr_vals i, vs)), xs) in
    let req = (c κs a).requires xs in
    let F : Answer.Denot → Fml = resized_if_ok (token Z i.now) (param 1 X) p a.1.1.0 a.1.1.1.0 a.1.1.1.1.0 xs in
    let nowhere = fst∗ 𝓤 (never 𝓤) (sem 𝓛 (fsep ffalse (token Z i.now (array_of (param 1 X) a.1.1.1.1.0) null_ptr))) in
    let alive : Item 𝓤 = ‵ (flft κ q) ⊛ more in
    let Five : Type 0 = Unit {0} × (Unit {0} × (Unit {0} × (Unit {0} × (Unit {0} × Unit {0})))) in
    qed 𝓛 (((‵ (flft κ q) ⊛ more) ⊛ ‵ (owns (types_at end.signature.params κs) a y.0.4)) ∷ raw req ∷ []) ∵
    enters_heap Z ! κ q r more rest req $
    -- [the `&` to the count; the token of the `&`; the `&` to the inner allocator;
    -- the other tokens; the other arguments; the `requires`]
    enter ! _ _ _ _ _ $
    alloc_all ! (λ l. pass_all ! refl (
      (tt, tt),
      (
        ((rawptr_Lawful 𝓛).typed p _ refl).0,
        (
          (tt, record { fits = are.1.1.0.1 }),
          ((tt, record { fits = are.1.1.1.0.1 }), ((tt, record { fits = are.1.1.1.1.0.1 }), tt)),
        ),
      ),
    ) $
    sets ! (addr ! (through ! refl (fld ! refl (stop !)))) refl (tt, tt) $
    use2 𝓛 (raw (N.pre (call 𝓛 𝓜.mem 𝓡.returns κ q n))) (takes 𝓛 𝓜.mem 𝓡.returns κ q n) $
    calls_at ! (framed 𝓤 𝓛.H 𝓜 𝓣) N
    (counted.met 𝓤 𝓛 𝓜 𝓡 (code.calls-refusing_heap::growths::Growths::refuse_next 𝓡.env wired))
    (call 𝓛 𝓜.mem 𝓡.returns κ q n) (and_then ! (get ! refl) (no_more !)) (λ u.
    use1 𝓛 (later (some (λ (no : Bool). given (u ≡ vbool no) (‵ (flft κ q))))) (gives 𝓛 𝓜.mem 𝓡.returns κ q n u) $
    await ! tt $ pick ! (λ no. learn ! (λ is_no. lands_as ! is_no refl (tt, tt) $
    first ! $ branches ! (get ! refl)
    (λ _. sets ! (agg ! (no_more !)) refl (tt, tt) $
    sets ! (agg ! (and_then ! (lit ! tt) (and_then ! (get ! refl) (no_more !)))) refl (Answer-typed false 0 0) $
    returns_within ! (W.post y) refl (look_at ! 0 refl) $ free_all ! refl $ keep ! (0 ∷ 2 ∷ 4 ∷ []) $ move ! (2 ∷ []) $
    use1 𝓛 (raw (fact 𝓤 (κs.1.0 ⊑ A.lives)) ⊛ raw (fact 𝓤 (κs.1.1.0 ⊑ X.lives)) ⊛
    raw (fact 𝓤 (Grows X a.1.1.0 a.1.1.1.0 a.1.1.1.1.0)) ⊛ ‵ (F (Err (record {})))) (id⊢ 𝓤 _) $
    split ! $ drop ! $ split ! $ drop ! $ split ! $ drop ! $ move ! (1 ∷ 2 ∷ []) $ join ! $
    suffices ! _ (leaves 𝓛 end stayed c y (answer_val false 0 0) (Err (record {})) (tt, (tt, (tt, (tt, (tt, tt)))))
    (tt, (tt, (tt, (tt, (tt, tt)))))) $
    use0 𝓛 (‵ (spent 5)) (spent_i 𝓛 5) $
    use0 𝓛 (‵ (Answer.own_val (Err (record {})) (answer_val false 0 0 ∷ []))) (result_own 𝓛 false 0 0) $
    move ! (2 ∷ 1 ∷ 0 ∷ 3 ∷ []) $ done !)
    (λ _. skips ! $ exec ! 𝓣.C 𝓣.Λ (env here.locals l) (after 3 here.body) (at_ret _ (W.post y)) $
    sets ! (addr ! (through ! refl (fld ! refl (stop !)))) refl (tt, tt) $ gathers Z ! κ q r more rest req $
    use1 𝓛 (raw (C.pre z)) (id⊢ 𝓤 _) $
    calls_at ! (framed 𝓤 𝓛.H 𝓜 𝓣) C (met.grow drops X laws') z
    (and_then ! (get ! refl) (and_then ! (get ! refl)
    (and_then ! (get ! refl) (and_then ! (get ! refl) (and_then ! (get ! refl) (no_more !)))))) (λ v.
    use1 𝓛 (Told 𝓛 F nowhere alive Five (λ _. spent 5) v) (told 𝓛 F nowhere alive Five (λ _. spent 5) v) $
    await ! tt $ split ! $ pick ! (λ b. learn ! (λ is_b.
    lands_as ! is_b refl (Answer-typed b.0 b.1.0 b.1.1) $ returns ! (look_at ! 0 refl) $ free_all ! refl $
    suffices ! _ (leaves 𝓛 end stayed c y (answer_val b.0 b.1.0 b.1.1) (result_of b.0 b.1.0 b.1.1)
    (tt, (tt, (tt, (tt, (tt, tt))))) (tt, (tt, (tt, (tt, (tt, tt)))))) $
    use0 𝓛 (‵ (spent 5)) (spent_i 𝓛 5) $
    use0 𝓛 (‵ (Answer.own_val (result_of b.0 b.1.0 b.1.1) (answer_val b.0 b.1.0 b.1.1 ∷ [])))
    (result_own 𝓛 b.0 b.1.0 b.1.1) $ move ! (3 ∷ 1 ∷ 0 ∷ 2 ∷ []) $ done !)))))))))
