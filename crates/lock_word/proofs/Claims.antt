-- A claim's fields have no bytes. Assumes `Logic`.
use Rattle.std.proofs.Common.{◌≡◌, List, [], ◌∷◌, ◌++◌, refl, ap, ◌∙◌}
use seplogic.Ra.Ura.{Ura}
use mir.Val.{Val, vstruct, vcons, vnil, of_list}
use base.Logic.{ent, emp}
use types.Logic.{Logic, sem}
use denote.RattleType.{RattleType}
use denote.Laws.{Is}
use denote.Shadow.{makes_shadow}
use denote.Struct.Struct.{Struct}
use denote.Struct.Owning.{shape}
use Rattle.lock_word.specs.contracts.claim.Claim as claim

abbrev pub claim_val : Val
claim_val = vstruct (vcons (vstruct vnil) vnil)

abbrev pub Bare : RattleType
Bare = Struct (shape claim.the_type)

pub claim_is : (vs : List Val) → Is Bare (tt, tt) vs → vs ≡ claim_val ∷ []
claim_is vs is = is.1.0 ∙ ap (λ (ws : List Val). vstruct (of_list (ws ++ [])) ∷ []) is.1.1.0.1.0

pub claim_made : {M : Type 1} {𝓤 : Ura M} (𝓛 : Logic 𝓤) → ent 𝓤 (emp 𝓤) (sem 𝓛 (Bare.own_val (tt, tt) (claim_val ∷ [])))
claim_made 𝓛 = makes_shadow 𝓛 (Bare.own_val (tt, tt) (claim_val ∷ []))
    (λ vss. (tt, ((λ uss. (tt, tt)), tt))) ((vstruct vnil ∷ [], tt), (refl, ((tt, (refl, tt)), tt)))
