-- The block goes back to the inner allocator. Assumes `Logic`.
use Rattle.std.proofs.Common.{List, [], ◌∷◌, refl, ap, w64}
use Rattle.std.proofs.raw_atomic.Walks.{proved, leaves}
use mir.Syntax.{Args, a_type, dnil, dcons}
use mir.Val.{Val, vunit}
use mir.MapTy.{inst_fn}
use base.Logic.{id⊢}
use base.Fml.{ftrue, flft}
use contract.Running.{tables}
use types.Kit.{Item, ‵, raw, ◌⊛◌, some, later, ◌$◌, ◌∵◌, !, qed, move, drop, use0, use1, split, pick, feq_i}
use types.Kit.{feq_l, suffices, await, done}
use types.Run.{stop, fld, addr, no_more, and_then, of_opd, unit_lit, returns, enter}
use types.ByLocal.{alloc_all, pass_all, free_all, look_at, get, through, sets, lands_as}
use denote.Builtin.{usize, unit, RawPtr, RefOf}
use denote.Exit.{yes}
use denote.RattleType.{RattleType, Valss, owns}
use denote.Param.{bounded, param}
use denote.Plain.{uint_vals, uint_Tells}
use denote.RawPtr.{rawptr_vals, rawptr_Tells, rawptr_Lawful}
use denote.Ref.{shr_vals}
use denote.Signature.{Slot, plain, types_at}
use denote.Steps.{only}
use denote.Triple.Call.{calls_at}
use denote.Triple.Table.{framed}
use denote.Triple.Walked.{Stays, walk_of, stay_dropped, Goes-dropped}
use Rattle.std.proofs.alloc.Calls.{Al, Gives}
use Rattle.refusing_heap.specs.contracts.heap.RefusingHeap as heap
use Rattle.refusing_heap.specs.contracts.heap.RefusingHeapAllocator.deallocate as f
use Rattle.refusing_heap.proofs.heap.RefusingHeapAllocator.deallocate.Statement.{statement}
use Rattle.refusing_heap.proofs.heap.RefusingHeapAllocator.deallocate.Code as code
use Rattle.refusing_heap.proofs.Handing.{spent, spent_i, the_inner, enters_heap, gathers}

pub deallocate_spec : {M : Type 1} → statement M
deallocate_spec 𝓤 𝓛 𝓜 𝓡 wired A laws g d drops met _ =
    let Z : Al = record { row = A; laws = laws; g = g; d = d; drops = drops } in
    let args : Args = bounded (a_type ∷ []) (A, tt) (dcons d (dcons drops dnil)) in
    let end = f.ended A g d drops in
    let self : Slot 2 = RefOf (0 ∷ []) tt (plain (λ _. heap.the_row (param 0 A))) (λ _. tt) in
    let stayed : Stays end.signature.params end.kept =
    (stay_dropped _ yes, (stay_dropped _ yes, (stay_dropped _ yes, (stay_dropped _ yes, tt)))) in
    let c = f.clauses A g d drops 𝓛 𝓜.mem 𝓡.returns in
    let W = walk_of 𝓛 end stayed c in
    let 𝓣 = tables 𝓤 𝓛.H 𝓜 𝓡 𝓡.env in
    let goes = λ (R : RattleType). Goes-dropped 𝓛 2 (plain (λ _. R)) yes in
    proved 𝓛 end stayed c 𝓜 𝓡 (
      Goes-dropped 𝓛 2 self yes (λ κs x w. refl),
      (goes RawPtr (λ κs x w. refl), (goes usize (λ κs x w. refl), (goes usize (λ κs x w. refl), tt))),
    )
    (f.Key.name args) (inst_fn args code.function) (code.unfolded 𝓤 𝓛.H 𝓜 𝓡 wired (A, tt) d drops)
    (λ κs. (shr_vals, (rawptr_vals, (uint_vals w64, (uint_vals w64, tt)))))
    (λ κs. ((λ r vs s. s.0), (rawptr_Tells, (uint_Tells w64, (uint_Tells w64, tt))))) (λ κs qs bounds a τ are.
    let κ = κs.0 in let q = qs.0 in let r = a.0 in
    let vs : Valss (RawPtr ∷ usize ∷ usize ∷ []) =
    (rawptr_vals a.1.0, (uint_vals w64 a.1.1.0, (uint_vals w64 a.1.1.1.0, tt))) in
    let more : Item 𝓤 = ‵ (flft κs.1.0 qs.1.0) ⊛ ‵ ftrue in
    let rest = owns (RawPtr ∷ usize ∷ usize ∷ []) a.1 vs in
    let y : W.Ghost = ((κs, qs, bounds, a, (shr_vals r, vs)), τ) in
    let C = Gives Z 𝓛 𝓜.mem 𝓡.returns in
    let i = the_inner Z r in
    let z : C.Ghost = ((κs, qs, bounds, (i, a.1), (shr_vals i, vs)), τ) in
    let req = (c κs a).requires τ in
    qed 𝓛 (((‵ (flft κ q) ⊛ more) ⊛ ‵ (owns (types_at end.signature.params κs) a y.0.4)) ∷ raw req ∷ []) ∵
    enters_heap Z ! κ q r more rest req $
    -- [the `&` to the count; the token of the `&`; the `&` to the inner allocator;
    -- the other tokens; the other arguments; the `requires`]
    drop ! $
    enter ! _ _ _ _ _ $
    alloc_all ! (λ l. pass_all ! refl (
      (tt, tt),
      (
        ((rawptr_Lawful 𝓛).typed a.1.0 _ refl).0,
        ((tt, record { fits = are.1.1.0.1 }), ((tt, record { fits = are.1.1.1.0.1 }), tt)),
      ),
    ) $
    sets ! (addr ! (through ! refl (fld ! refl (stop !)))) refl (tt, tt) $
    gathers Z ! κ q r more rest req $ use1 𝓛 (raw (C.pre z)) (id⊢ 𝓤 _) $
    calls_at ! (framed 𝓤 𝓛.H 𝓜 𝓣) C (met.deallocate drops) z
    (and_then ! (get ! refl) (and_then ! (get ! refl)
    (and_then ! (get ! refl) (and_then ! (get ! refl) (no_more !))))) (λ v.
    use1 𝓛 (later (some (λ (u : Unit {0}). ((‵ (flft κ q) ⊛ more) ⊛ ‵ (unit.own_val u (v ∷ [])))
    ⊛ some (λ (ws : Unit {0} × (Unit {0} × (Unit {0} × (Unit {0} × Unit {0})))). ‵ (spent 4) ⊛ ‵ ftrue))))
    (id⊢ 𝓤 _) $
    await ! tt $ pick ! (λ u. split ! $ split ! $ move ! (1 ∷ []) $ feq_l ! (λ e.
    lands_as ! (ap only e) refl (tt, tt) $ sets ! (of_opd ! (unit_lit !)) refl (tt, tt) $
    returns ! (look_at ! 0 refl) $ free_all ! refl $ move ! (1 ∷ []) $ drop ! $
    suffices ! _ (leaves 𝓛 end stayed c y vunit tt (tt, (tt, (tt, (tt, tt)))) (tt, (tt, (tt, (tt, tt))))) $
    use0 𝓛 (‵ (spent 4)) (spent_i 𝓛 4) $ feq_i ! (List Val) (vunit ∷ []) _ refl $ use0 𝓛 (‵ ftrue) (id⊢ 𝓤 _) $
    move ! (3 ∷ 2 ∷ 1 ∷ 0 ∷ []) $ done !)))))
