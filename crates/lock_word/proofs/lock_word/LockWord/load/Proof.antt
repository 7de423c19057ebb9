-- `load` is one step, which leaves the word as it is.
use Rattle.atomic_table.proofs.Names.{ℕ, ◌+◌, ◌^◌, List, [], ◌∷◌, refl, lit<, w64, named, Val, vint, vptr, SProp}
use Rattle.atomic_table.proofs.Names.{wand, apply∗, Lft, Share, Fml, ftrue, fsep, flft}
use Rattle.atomic_table.proofs.Names.{‵, raw, ◌⊛◌, some, later, mean, at_ret, ◌$◌, ◌∵◌, !, qed, by, move, keep, split}
use Rattle.atomic_table.proofs.Names.{join, fsplit, fjoin, fpick, pick, use2, use3, await, feq_i, flt_i}
use Rattle.atomic_table.proofs.Names.{stop, fld, addr, lit, of_opd, no_more, and_then, first, blocks, exec}
use Rattle.atomic_table.proofs.Names.{Calls-last, returns, enter, alloc_all, pass_all, free_all, look_at, get}
use Rattle.atomic_table.proofs.Names.{through, sets, lands_last, env, agg}
use Rattle.atomic_table.proofs.Names.{tables, yes, owns, types_at, plain, block_ptr, nothing, Stays, stay_dropped}
use Rattle.atomic_table.proofs.Names.{walk_of, Goes-dropped, via, RefOf, shr_vals, shr_Tells, unhide, Lends-one}
use Rattle.atomic_table.proofs.Walks.{proved, leaves}
use Rattle.atomic_table.proofs.Calls.{fm, seq_cst, found, finds, loads}
use Rattle.core.proofs.atomic.Steps.{tail}
use Rattle.lock_word.proofs.Rights.{looks}
use Rattle.lock_word.specs.contracts.lock_word.LockWord as lock
use Rattle.lock_word.specs.contracts.lock_word.LockWord.load.{ended, clauses}
use Rattle.lock_word.specs.contracts.lock_word.LockWord.load.Key.{name as #self}
use Rattle.lock_word.proofs.lock_word.LockWord.load.Statement.{statement}
use Rattle.lock_word.proofs.lock_word.LockWord.load.Code as code

pub load_spec : {M : Type 1} → statement M
load_spec 𝓤 𝓛 𝓜 𝓡 wired =
    let H = 𝓛.H in let 𝓣 = tables 𝓤 H 𝓜 𝓡 𝓡.env in let En = ended in let c = clauses 𝓛 𝓜.mem 𝓡.returns in
    let fn = code.function in
    let self = RefOf (0 ∷ []) tt (plain (λ _. lock.the_row)) (λ _. tt) in
    let hs : Stays En.signature.params En.kept = (stay_dropped self yes, tt) in
    proved 𝓛 En hs c 𝓜 𝓡 (Goes-dropped 𝓛 1 self yes (λ κs x f. refl), tt) #self fn (code.unfolded 𝓤 H 𝓜 𝓡 wired)
    (λ κs. (shr_vals, tt)) (λ κs. (shr_Tells (named 0) κs.0 lock.the_row, tt)) (λ κs qs bounds a gh are.
    let b : ℕ = a.0.ref_ptr.0 in let o : ℕ = a.0.ref_ptr.1 in let κ : Lft = κs.0 in let q : Share = qs.0 in
    let name : ℕ = a.0.now in
    let y : (walk_of 𝓛 En hs c).Ghost = ((κs, qs, bounds, a, (vptr b o ∷ [], tt)), gh) in
    let Post : Val → SProp 𝓤 = (walk_of 𝓛 En hs c).post y in
    qed 𝓛 (((‵ (flft κ q) ⊛ ‵ ftrue) ⊛ ‵ (owns (types_at En.signature.params κs) a y.0.4)) ∷ raw
    ((c κs a).requires gh) ∷ []) ∵
    split ! $ split ! $ move ! (2 ∷ []) $ fsplit ! $ fsplit ! $ keep ! (1 ∷ 3 ∷ 4 ∷ []) $
    enter ! 𝓣.C 𝓣.Λ fn (vptr b o ∷ []) Post $ alloc_all ! (λ l. pass_all ! refl ((tt, tt), tt) $
    let Ev = env fn.locals l in
    unhide ! $ fpick ! (λ α. fsplit ! $ move ! (0 ∷ 2 ∷ []) $
    use2 𝓛 (later (some (λ (s : Share). ‵ (flft α s) ⊛ raw (wand 𝓤 (𝓛.A.lft α s) (H.⇛ (𝓛.A.lft κ q))))))
    (Lends-one 𝓛 𝓜 𝓡 κ α q) $ await ! tt $ pick ! (λ s. split ! $
    let after : ℕ → Fml = λ n. fsep (flft α s) ftrue in
    first ! $ blocks ! $ sets ! (addr ! (through ! refl (fld ! refl (stop !)))) refl (tt, tt) $ nothing ! $
    move ! (3 ∷ 1 ∷ 0 ∷ []) $
    use3 𝓛 (raw (𝓣.C _ (vptr b (o + 0) ∷ seq_cst ∷ []) (λ u. mean 𝓛 (found after u))))
    (via 𝓤 _ (looks 𝓛 name α s b o) (loads 𝓛 𝓜 𝓡 (code.calls-core::raw_atomic::load 𝓡.env wired) (block_ptr b
    (o + 0)) after)) $
    sets ! (agg ! (and_then ! (lit ! tt) (no_more !))) refl (tt, (record { fits = lit< tt }, tt)) $
    Calls-last ! (fm 𝓛 𝓜 𝓡) (found after) (and_then ! (get ! refl) (and_then ! (get ! refl) (no_more !)))
    (λ u. finds ! after (λ n fits.
    lands_last ! refl (tt, record { fits = fits }) $ exec ! 𝓣.C 𝓣.Λ Ev (tail fn.body) (at_ret Ev Post) $
    sets ! (of_opd ! (get ! refl)) refl (tt, record { fits = fits }) $
    fsplit ! $ move ! (0 ∷ 2 ∷ []) $ use2 𝓛 (later (‵ (flft κ q))) (apply∗ 𝓤 (𝓛.A.lft α s) (H.⇛ (𝓛.A.lft κ q))) $
    await ! tt $
    nothing ! $ nothing ! $ fjoin ! $ move ! (1 ∷ 3 ∷ []) $ join ! $ nothing ! $ flt_i ! n (2 ^ 64) fits $
    feq_i ! (List Val) (vint w64 n ∷ []) (vint w64 n ∷ []) refl $ fjoin ! $
    returns ! (look_at ! 0 refl) $ free_all ! refl $ keep ! (2 ∷ 3 ∷ 0 ∷ 1 ∷ []) $
    by ! (leaves 𝓛 En hs c y (vint w64 n) n (tt, tt) (tt, tt))))))))
