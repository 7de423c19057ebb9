-- `never_two` is handed the right to one lock twice, which nobody can be.
use Rattle.atomic_table.proofs.Names.{◌≡◌, ℕ, [], ◌∷◌, refl, Val, SProp, ftrue}
use Rattle.atomic_table.proofs.Names.{‵, raw, ◌⊛◌, given, later, ◌$◌, ◌∵◌, !, qed, by, move, keep, drop, split}
use Rattle.atomic_table.proofs.Names.{fsplit, learn, use2, await, rewrite, enter, alloc_all, pass_all}
use Rattle.atomic_table.proofs.Names.{tables, yes, owns, types_at, plain, alive, Stays, stay_dropped, walk_of}
use Rattle.atomic_table.proofs.Names.{Goes-dropped, via}
use Rattle.atomic_table.proofs.Walks.{proved}
use types.Owned.{basic}
use base.Logic.{never, never_e}
use Rattle.lock_word.specs.Owning.{claimed}
use Rattle.lock_word.proofs.Rights.{never_both}
use Rattle.lock_word.proofs.Claims.{claim_val, claim_is}
use Rattle.lock_word.specs.contracts.claim.Claim as claim
use Rattle.lock_word.specs.contracts.claim.Claim.never_two.{ended, clauses}
use Rattle.lock_word.specs.contracts.claim.Claim.never_two.Key.{name as #self}
use Rattle.lock_word.proofs.claim.Claim.never_two.Statement.{statement}
use Rattle.lock_word.proofs.claim.Claim.never_two.Code as code

pub never_two_spec : {M : Type 1} → statement M
never_two_spec 𝓤 𝓛 𝓜 𝓡 wired =
    let H = 𝓛.H in let 𝓣 = tables 𝓤 H 𝓜 𝓡 𝓡.env in let En = ended in let c = clauses 𝓛 𝓜.mem 𝓡.returns in
    let fn = code.function in
    let one = plain (λ _. claim.the_row) in let hs : Stays En.signature.params En.kept = (
      stay_dropped one yes,
      (stay_dropped one yes, tt),
    ) in
    proved 𝓛 En hs c 𝓜 𝓡 (
      Goes-dropped 𝓛 0 one yes (λ κs x f. refl),
      (
        Goes-dropped 𝓛 0 one yes
            (λ κs x f. refl),
        tt,
      ),
    ) #self fn (code.unfolded 𝓤 H 𝓜 𝓡 wired)
    (λ κs. ((λ _. claim_val ∷ []), ((λ _. claim_val ∷ []), tt)))
    (λ κs. ((λ x vs so. claim_is vs so.0), ((λ x vs so. claim_is vs so.0), tt))) (λ κs qs bounds a gh are.
    let x : claim.the_row.Denot = a.0 in let z : claim.the_row.Denot = a.1.0 in
    let y : (walk_of 𝓛 En hs c).Ghost = ((κs, qs, bounds, a, (claim_val ∷ [], (claim_val ∷ [], tt))), gh) in
    let Post : Val → SProp 𝓤 = (walk_of 𝓛 En hs c).post y in
    qed 𝓛 ((raw (alive 𝓛 En.signature κs qs) ⊛ ‵ (owns (types_at En.signature.params κs) a y.0.4)) ∷ given
    ((x.name ≡ z.name) × (x.owned ≡ 1) × (z.owned ≡ 1)) (‵ ftrue) ∷ []) ∵
    move ! (1 ∷ 0 ∷ []) $ learn ! (λ asked. drop ! $ split ! $ move ! (1 ∷ []) $ fsplit ! $ fsplit ! $
    move ! (2 ∷ []) $ fsplit ! $ fsplit ! $ keep ! (1 ∷ 4 ∷ []) $
    rewrite ! 1 (λ (w : ℕ × ℕ). ‵ (claimed w.0 w.1)) (λ i. (asked.0 i, asked.1 i)) refl $
    rewrite ! 0 (λ (w : ℕ). ‵ (claimed z.name w)) asked.2 refl $
    use2 𝓛 (later (raw (never 𝓤))) (via 𝓤 _ (never_both 𝓛 z.name (never 𝓤)) (basic 𝓛 (never 𝓤))) $
    enter ! 𝓣.C 𝓣.Λ fn (claim_val ∷ claim_val ∷ []) Post $
    alloc_all ! (λ l. pass_all ! refl ((tt, (tt, tt)), ((tt, (tt, tt)), tt)) $ await ! tt $ keep ! (0 ∷ []) $
    by ! (never_e 𝓤 _))))
