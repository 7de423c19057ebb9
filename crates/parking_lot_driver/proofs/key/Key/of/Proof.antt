-- `of` makes a value of no bytes, whose ghost field is what the reference shows.
use Rattle.atomic_table.proofs.Names.{◌≡◌, [], ◌∷◌, refl, named, w64, Val, vptr, vstruct, vcons, vnil, SProp, Fml}
use Rattle.atomic_table.proofs.Names.{‵, raw, ◌⊛◌, ◌$◌, ◌∵◌, !, qed, by, keep, split, use0, no_more, and_then, emp}
use Rattle.atomic_table.proofs.Names.{returns, enter, alloc_all, pass_all, free_all, look_at, get, sets, agg, fjoin}
use Rattle.atomic_table.proofs.Names.{tables, yes, owns, types_at, plain, nothing, alive, Stays, stay_dropped}
use Rattle.atomic_table.proofs.Names.{walk_of, Goes-dropped, fact, fact_i, RefOf, shr_vals, shr_Tells, makes_shadow}
use denote.Plain.{UInt}
use Rattle.atomic_table.proofs.Walks.{proved, leaves}
use Rattle.parking_lot_driver.specs.contracts.key.Key as key
use Rattle.parking_lot_driver.specs.contracts.key.Key.of.{ended, clauses}
use Rattle.parking_lot_driver.specs.contracts.key.Key.of.Key.{name as #self}
use Rattle.parking_lot_driver.proofs.key.Key.of.Statement.{statement}
use Rattle.parking_lot_driver.proofs.key.Key.of.Code as code

pub of_spec : {M : Type 1} → statement M
of_spec 𝓤 𝓛 𝓜 𝓡 wired =
    let H = 𝓛.H in let 𝓣 = tables 𝓤 H 𝓜 𝓡 𝓡.env in let En = ended in let c = clauses 𝓛 𝓜.mem 𝓡.returns in
    let fn = code.function in
    let number = RefOf (0 ∷ []) tt (plain (λ _. UInt w64)) (λ _. tt) in
    let hs : Stays En.signature.params En.kept = (stay_dropped number yes, tt) in
    proved 𝓛 En hs c 𝓜 𝓡 (Goes-dropped 𝓛 1 number yes (λ κs x f. refl), tt) #self fn (code.unfolded 𝓤 H 𝓜 𝓡 wired)
    (λ κs. (shr_vals, tt)) (λ κs. (shr_Tells (named 0) κs.0 (UInt w64), tt)) (λ κs qs bounds a gh are.
    let at : Val = vptr a.0.ref_ptr.0 a.0.ref_ptr.1 in
    let v : Val = vstruct (vcons (vstruct vnil) vnil) in
    let made : key.the_row.Denot = record { marker = record {}; value = a.0.now } in
    let Has : Fml = key.the_row.own_val made (v ∷ []) in
    let Told : Type 0 = a.0.now ≡ a.0.now in
    let y : (walk_of 𝓛 En hs c).Ghost = ((κs, qs, bounds, a, (at ∷ [], tt)), gh) in
    let Post : Val → SProp 𝓤 = (walk_of 𝓛 En hs c).post y in
    qed 𝓛 ((raw (alive 𝓛 En.signature κs qs) ⊛ ‵ (owns (types_at En.signature.params κs) a y.0.4)) ∷ raw
    ((c κs a).requires gh) ∷ []) ∵
    split ! $ keep ! (0 ∷ []) $
    use0 𝓛 (‵ Has) (makes_shadow 𝓛 Has ((λ vss. (tt, ((λ uss. (tt, tt)), tt))), tt)
    (((vstruct vnil ∷ [], tt), (refl, ((tt, (refl, tt)), tt))), tt)) $
    enter ! 𝓣.C 𝓣.Λ fn (at ∷ []) Post $ alloc_all ! (λ l. pass_all ! refl ((tt, tt), tt) $
    sets ! (agg ! (no_more !)) refl (tt, tt) $ sets ! (agg ! (and_then ! (get ! refl) (no_more !))) refl (
      tt,
      (tt, tt),
    ) $
    use0 𝓛 (raw (fact 𝓤 Told)) (fact_i 𝓤 Told (emp 𝓤) refl) $ nothing ! $ nothing ! $ fjoin ! $
    returns ! (look_at ! 0 refl) $ free_all ! refl $ keep ! (3 ∷ 0 ∷ 2 ∷ 1 ∷ []) $
    by ! (leaves 𝓛 En hs c y v made (tt, tt) (tt, tt))))
