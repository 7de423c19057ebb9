-- `of` moves the nodes into the chain. Assumes `Logic`.
use Rattle.std.proofs.Common.{◌≡◌, ℕ, List, [], ◌∷◌, ◌++◌, refl, sym, subst}
use seplogic.Ra.Ura.{Ura}
use lib.Dec.{T}
use mir.Syntax.{Ty, a_type, dcons, dnil}
use mir.Val.{Val, WT, has_ty, vstruct, vcons, vnil}
use mir.MapTy.{inst_fn}
use base.Logic.{SProp, ent, emp, via}
use base.Fml.{ftrue, fsep}
use prog.Wp.{WpFn}
use contract.Monad.{fact, fact_i}
use contract.Running.{tables}
use types.Logic.{Logic, sem}
use types.Kit.{‵, raw, ◌⊛◌, prop, ◌$◌, ◌∵◌, !, qed, by, move, drop, keep, use0, split, rewrite, regoal}
use types.Kit.{fsplit, fjoin, fpack, feq_i}
use types.Part.{agg}
use types.Run.{of_opd, no_more, and_then, returns, enter}
use types.ByLocal.{alloc_all, pass_all, free_all, look_at, get, sets}
use denote.Exit.{left, rest, no, under}
use denote.RattleType.{RattleType, Valss, owns}
use denote.Laws.{Typed}
use denote.Param.{param, layout, bounded}
use denote.Param.Laws.{param_laws}
use denote.Param.Mute.{Mute, Mute-hidden, Mute-under, Mute-fields, Mute-still, Mute-seen, enum-Mute}
use denote.Signature.{types_at, plain}
use denote.Steps.{nothing}
use denote.Struct.Struct.{exits_of, within, as_fields}
use denote.Struct.Owning as owning
use denote.Triple.Entry.{alive}
use denote.Triple.Walked.{Stays, Goes, stay_dropped, walk_of}
use Rattle.std.proofs.raw_atomic.Walks.{proved_at, leaves}
use Rattle.std.specs.contracts.boxed.Box as box
use Rattle.std.specs.declared.alloc.Allocator.{Ghosts}
use Rattle.parking_lot_core.specs.Waits.{items}
use Rattle.parking_lot_core.specs.contracts.chain.Node as node
use Rattle.parking_lot_core.specs.contracts.chain.Links as links
use Rattle.parking_lot_core.specs.contracts.chain.Chain.TheInside as inside
use Rattle.parking_lot_core.proofs.chain.Links.TheLaws as laws
use Rattle.parking_lot_core.specs.contracts.chain.Chain.of.{ended, clauses}
use Rattle.parking_lot_core.specs.contracts.chain.Chain.of.Key.{name as #self}
use Rattle.parking_lot_core.proofs.chain.Chain.of.Statement.{statement}
use Rattle.parking_lot_core.proofs.chain.Chain.of.Code as code

-- a value of one type is one value of the machine
single : (τ : Ty) (vs : List Val) → Typed (τ ∷ []) vs → (v : Val) × (vs ≡ v ∷ []) × (T (has_ty τ v) × WT v)
single τ [] typed = absurd typed
single τ (v ∷ []) typed = (v, refl, typed.0)
single τ (v ∷ w ∷ vs) typed = absurd typed.1

-- links that are used up leave nothing
leave_nothing : (A : RattleType) (g : Ghosts A.Denot) → Mute ((links.the_row (param 0 A) g).exit no)
leave_nothing A g =
    let Z = param 0 A in
    let B = box.the_type (node.the_row Z g) Z g in
    let e = exits_of no (owning.fields B) in
    enum-Mute (links.the_type Z g) no (
      tt,
      (
        (
          Mute-hidden (under (owning.to B) e) (Mute-under (owning.to B) e
              (Mute-fields no (owning.fields B) (Mute-still, (Mute-seen (λ x. tt), tt)))),
          tt,
        ),
        tt,
      ),
    )

used_up : {M : Type 1} {𝓤 : Ura M} (𝓛 : Logic 𝓤) (n : ℕ) (R : RattleType) → Mute (R.exit no)
    → Goes 𝓛 n (plain (λ _. R)) no (stay_dropped (plain (λ _. R)) no)
used_up {M} {𝓤} 𝓛 n R mute κs x last vs ok =
    via 𝓤 (sem 𝓛 (left (R.exit no) x last))
    (subst (λ w. ent 𝓤 (emp 𝓤) (sem 𝓛 (left (R.exit no) x w))) (sym (mute.once x last)) (mute.quiet M 𝓤 𝓛 x))
    (𝓛.laws.⇛_intro _)

pub of_spec : {M : Type 1} → statement M
of_spec 𝓤 𝓛 𝓜 𝓡 wired A L g d dd met glue =
    let 𝓣 = tables 𝓤 𝓛.H 𝓜 𝓡 𝓡.env in
    let Z : RattleType = param 0 A in
    let R : RattleType = links.the_row Z g in
    let En = ended A g d dd in
    let c = clauses A g d dd 𝓛 𝓜.mem 𝓡.returns in
    let args = bounded (a_type ∷ []) (A, tt) (dcons d (dcons dd dnil)) in
    let fn = inst_fn args code.function in
    let hs : Stays En.signature.params En.kept = (stay_dropped (plain (λ _. R)) no, tt) in
    proved_at 𝓛 En hs c 𝓜 𝓡 (used_up 𝓛 1 R (leave_nothing A g), tt) (#self args) fn
    (code.unfolded 𝓤 𝓛.H 𝓜 𝓡 wired (A, tt) d dd) (λ z are.
    let Post : Val → SProp 𝓤 = (walk_of 𝓛 En hs c).post z in
    let x = z.0.3.0 in
    let typed = ((laws.the_row_laws Z g (param_laws 0 A L)).lawful 𝓛).typed x z.0.4.0 are.0 in
    let is = single (layout R) z.0.4.0 typed in
    let w : Val = is.0 in
    let v : Val = vstruct (vcons w vnil) in
    let O = inside.the_type Z g in
    let F : RattleType = inside.the_row Z g in
    let Fields = within (owning.shape O) (owning.to O (record { links = x })) (v ∷ []) in
    qed 𝓛 ((raw (alive 𝓛 En.signature z.0.0 z.0.1)
    ⊛ ‵ (owns (types_at En.signature.params z.0.0) z.0.3 z.0.4)) ∷ raw ((c z.0.0 z.0.3).requires z.1) ∷ []) ∵
    split ! $ keep ! (1 ∷ 0 ∷ []) $ fsplit ! $ move ! (1 ∷ []) $ drop ! $
    rewrite ! 0 (λ (us : List Val). ‵ (R.own_val x us)) is.1 refl $
    regoal ! (λ (us : List Val). prop (WpFn 𝓤 𝓛.H 𝓣.C 𝓣.Λ fn us Post)) (λ i. is.1 i ++ []) refl $
    enter ! 𝓣.C 𝓣.Λ fn (w ∷ []) Post $ alloc_all ! (λ l. pass_all ! refl (is.2, tt) $
    sets ! (of_opd ! (get ! refl)) refl is.2 $
    sets ! (agg ! (and_then ! (get ! refl) (no_more !))) refl (as_fields (layout R ∷ []) (w ∷ []) (is.2, tt)) $
    returns ! (look_at ! 0 refl) $ free_all ! refl $
    -- [what the links own; the tokens]: the struct's fields, what it owns besides, what its view leaves out
    nothing ! $ move ! (1 ∷ []) $ fjoin ! $ feq_i ! (List Val) (v ∷ []) (v ∷ []) refl $ fjoin ! $
    fpack ! (Valss (owning.shape O).fields) Fields (w ∷ [], tt) $
    nothing ! $ move ! (1 ∷ []) $ fjoin ! $ nothing ! $ move ! (1 ∷ []) $ fjoin ! $
    fpack ! ((a : F.Denot) × ((items a.links ≡ items x) × Unit {0}))
    (λ h. fsep (F.own_val h.0 (v ∷ [])) ftrue) (record { links = x }, (refl, tt)) $
    use0 𝓛 (raw (fact 𝓤 (items x ≡ items x))) (fact_i 𝓤 (items x ≡ items x) (emp 𝓤) refl) $
    nothing ! $ nothing ! $ fjoin ! $ move ! (3 ∷ 0 ∷ 2 ∷ 1 ∷ []) $
    by ! (leaves 𝓛 En hs c z v (items x) (rest (R.exit no) x, tt) (tt, tt))))
