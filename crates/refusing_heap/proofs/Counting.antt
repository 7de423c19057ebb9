-- A call of `refuse_next`: what it takes, and what comes back of it. Assumes `Logic`.
use Rattle.std.proofs.Common.{◌≡◌, ℕ, Bool, [], ◌∷◌, ap}
use seplogic.Ra.Ura.{Ura}
use mir.Syntax.{named}
use mir.Val.{Val, vbool}
use base.Logic.{SProp, ent, sep, ex, guard, id⊢}
use base.Fml.{Lft, Share, ftrue, fsep, flft}
use prog.Memory.{Memory}
use prog.Routine.{Routine}
use types.Logic.{Logic, sem}
use types.Kit.{‵, raw, ◌⊛◌, some, later, ◌$◌, ◌∵◌, !, qed, move, keep, use1, split, join, pick, fjoin, feq_l, check}
use types.Kit.{show, await, updating, now as at_once, done}
use contract.Monad.{Fun, fact}
use denote.RattleType.{RattleType}
use denote.Ref.{Bor, ShrRef, shr_vals}
use denote.Builtin.{bool}
use denote.Steps.{nothing, only}
use denote.Triple.Statement.{Contract}
use denote.Triple.Spec.{triple_of}
use Rattle.refusing_heap.specs.Refusals.{is_refused}
use Rattle.refusing_heap.specs.declared.growths.Growths.{Growths}
use Rattle.refusing_heap.specs.contracts.growths.Growths as count
use Rattle.refusing_heap.specs.contracts.growths.Growths.refuse_next as next

abbrev pub CountRef : Lft → RattleType
CountRef κ = ShrRef (named 0) κ count.the_row

module _ {M : Type 1} {𝓤 : Ura M} (𝓛 : Logic 𝓤) (mem : Memory → SProp 𝓤) (run : Routine → Fun 𝓤) where
  open 𝓛 use {H, A}

  abbrev pub Counts : Contract 𝓤
  Counts = triple_of 𝓛 next.signature (next.spec 𝓛 mem run)

  module _ (κ : Lft) (q : Share) (c : Bor Growths) where
    abbrev pub call : Counts.Ghost
    call = (((κ, tt), (q, tt), tt, (c, tt), (shr_vals c, tt)), tt)

    pub takes : ent 𝓤 (sep 𝓤 (sem 𝓛 ((CountRef κ).own_val c (shr_vals c))) (A.lft κ q)) (Counts.pre call)
    takes =
        qed 𝓛 (‵ ((CountRef κ).own_val c (shr_vals c)) ∷ ‵ (flft κ q) ∷ []) ∵
        nothing ! $ move ! (1 ∷ 0 ∷ []) $ fjoin ! $
        nothing ! $ move ! (2 ∷ 0 ∷ []) $ join ! $ join ! $ nothing ! $ move ! (1 ∷ []) $ done !

    -- some answer, and the token
    pub gives : (v : Val) → ent 𝓤 (Counts.post call v) (H.⇛ (ex 𝓤 (λ (y : Bool). guard 𝓤 (v ≡ vbool y) (A.lft κ q))))
    gives v =
        qed 𝓛 (raw (Counts.post call v) ∷ []) ∵ updating ! $
        use1 𝓛 (later (some (λ (y : Bool). ((‵ (flft κ q) ⊛ ‵ ftrue) ⊛ ‵ (bool.own_val y (v ∷ [])))
        ⊛ some (λ (ws : Unit {0} × Unit {0}). ‵ (fsep ftrue ftrue)
        ⊛ raw (fact 𝓤 ((growth : ℕ) × (y ≡ is_refused c.now.refusal growth))))))) (id⊢ 𝓤 _) $
        await ! tt $ pick ! (λ y. split ! $ split ! $ split ! $ move ! (2 ∷ []) $ feq_l ! (λ e.
        at_once ! $ show ! (λ (z : Bool). guard 𝓤 (v ≡ vbool z) (A.lft κ q)) y $ check ! (ap only e) $
        keep ! (0 ∷ []) $ done !))
