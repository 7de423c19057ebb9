-- `beside` makes a word of the name that it is shown, with which nothing lies.
use Rattle.atomic_table.proofs.Names.{◌≡◌, ℕ, ◌^◌, ◌<◌, [], ◌∷◌, refl, lit<, w64, named, Val, vint, vptr}
use Rattle.atomic_table.proofs.Names.{vstruct, vcons, vnil, SProp, emp, Fml, ftrue, fsep}
use Rattle.atomic_table.proofs.Names.{‵, raw, ◌⊛◌, ◌$◌, ◌∵◌, !, qed, by, keep, split, fjoin, fpack, use0, lit}
use Rattle.atomic_table.proofs.Names.{no_more, and_then, returns, enter, alloc_all, pass_all, free_all, look_at, sets}
use Rattle.atomic_table.proofs.Names.{agg}
use Rattle.atomic_table.proofs.Names.{tables, yes, owns, types_at, plain, nothing, alive, Stays, stay_dropped}
use Rattle.atomic_table.proofs.Names.{walk_of, Goes-dropped, fact, fact_i, RefOf, shr_vals, shr_Tells, makes_shadow}
use Rattle.atomic_table.proofs.Walks.{proved, leaves}
use Rattle.lock_word.specs.Sharing.{kept, lying}
use Rattle.lock_word.proofs.Shares.{no_rights}
use Rattle.lock_word.specs.contracts.rights_word.RightsWord as lock
use Rattle.lock_word.specs.contracts.rights_word.RightsWord.TheInside as inside
use Rattle.lock_word.specs.contracts.rights_word.RightsWord.beside.{ended, clauses}
use Rattle.lock_word.specs.contracts.rights_word.RightsWord.beside.Key.{name as #self}
use Rattle.lock_word.proofs.rights_word.RightsWord.beside.Statement.{statement}
use Rattle.lock_word.proofs.rights_word.RightsWord.beside.Code as code

pub beside_spec : {M : Type 1} → statement M
beside_spec 𝓤 𝓛 𝓜 𝓡 wired =
    let H = 𝓛.H in let 𝓣 = tables 𝓤 H 𝓜 𝓡 𝓡.env in let En = ended in let c = clauses 𝓛 𝓜.mem 𝓡.returns in
    let fn = code.function in
    let self = RefOf (0 ∷ []) tt (plain (λ _. lock.the_row)) (λ _. tt) in
    let hs : Stays En.signature.params En.kept = (stay_dropped self yes, tt) in
    proved 𝓛 En hs c 𝓜 𝓡 (Goes-dropped 𝓛 1 self yes (λ κs x f. refl), tt) #self fn (code.unfolded 𝓤 H 𝓜 𝓡 wired)
    (λ κs. (shr_vals, tt)) (λ κs. (shr_Tells (named 0) κs.0 lock.the_row, tt)) (λ κs qs bounds a gh are.
    let at : Val = vptr a.0.ref_ptr.0 a.0.ref_ptr.1 in let name : ℕ = a.0.now.0 in
    let v : Val = vstruct (vcons (vint w64 0) vnil) in let fits : 0 < 2 ^ 64 = lit< tt in
    let Has : ℕ → Fml = λ n. inside.the_row.own_val (record { word = n }) (v ∷ []) in
    let Laid : Type 0 = denote.Laws.Typed inside.the_row.mir (v ∷ []) in
    let Told : Type 0 = (name ≡ name) × (1 ≡ 1) in
    let y : (walk_of 𝓛 En hs c).Ghost = ((κs, qs, bounds, a, (at ∷ [], tt)), gh) in
    let Post : Val → SProp 𝓤 = (walk_of 𝓛 En hs c).post y in
    qed 𝓛 ((raw (alive 𝓛 En.signature κs qs) ⊛ ‵ (owns (types_at En.signature.params κs) a y.0.4)) ∷ raw
    ((c κs a).requires gh) ∷ []) ∵
    split ! $ keep ! (0 ∷ []) $
    use0 𝓛 (‵ (kept name 1 0)) (no_rights 𝓛 name (lying 0) refl) $
    use0 𝓛 (‵ (Has 0)) (makes_shadow 𝓛 (Has 0) (λ vss. (tt, ((tt, tt), tt))) (
      (vint w64 0 ∷ [], tt),
      (
        refl,
        ((refl, fits), tt),
      ),
    )) $ fjoin ! $
    fpack ! ℕ (λ n. fsep (Has n) (kept name 1 n)) 0 $ nothing ! $
    fpack ! Laid (λ _. ftrue) ((tt, (record { fits = fits }, tt)), tt) $ fjoin ! $
    enter ! 𝓣.C 𝓣.Λ fn (at ∷ []) Post $ alloc_all ! (λ l. pass_all ! refl ((tt, tt), tt) $
    sets ! (agg ! (and_then ! (lit ! tt) (no_more !))) refl (tt, (record { fits = fits }, tt)) $
    use0 𝓛 (raw (fact 𝓤 Told)) (fact_i 𝓤 Told (emp 𝓤) (refl, refl)) $ nothing ! $ nothing ! $ fjoin ! $
    returns ! (look_at ! 0 refl) $ free_all ! refl $ keep ! (3 ∷ 0 ∷ 2 ∷ 1 ∷ []) $
    by ! (leaves 𝓛 En hs c y v (name, 1) (tt, tt) (tt, tt))))
