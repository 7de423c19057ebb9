-- `new` makes a name, whose one right lies with the word.
use Rattle.atomic_table.proofs.Names.{◌≡◌, ℕ, ◌^◌, ◌<◌, ◌%◌, [], ◌∷◌, refl, lit<, w64, Val, vint, vstruct, vcons}
use Rattle.atomic_table.proofs.Names.{vnil, SProp, Fml, ftrue, fsep}
use Rattle.atomic_table.proofs.Names.{‵, raw, ◌⊛◌, ◌$◌, ◌∵◌, !, qed, by, keep, split, fjoin, fpack, use0, use1, lit}
use Rattle.atomic_table.proofs.Names.{no_more, and_then, returns, enter, alloc_all, pass_all, free_all, look_at, sets}
use Rattle.atomic_table.proofs.Names.{agg}
use Rattle.atomic_table.proofs.Names.{tables, owns, types_at, nothing, alive, Stays, walk_of, makes_shadow}
use Rattle.atomic_table.proofs.Walks.{proved, leaves}
use types.Tokens.{name_new}
use base.Stored.{gnum}
use Rattle.lock_word.specs.Owning.{kept}
use Rattle.lock_word.proofs.Rights.{laid}
use Rattle.lock_word.specs.contracts.lock_word.LockWord.TheInside as inside
use Rattle.lock_word.specs.contracts.lock_word.LockWord.new.{ended, clauses}
use Rattle.lock_word.specs.contracts.lock_word.LockWord.new.Key.{name as #self}
use Rattle.lock_word.proofs.lock_word.LockWord.new.Statement.{statement}
use Rattle.lock_word.proofs.lock_word.LockWord.new.Code as code

pub new_spec : {M : Type 1} → statement M
new_spec 𝓤 𝓛 𝓜 𝓡 wired =
    let H = 𝓛.H in let 𝓣 = tables 𝓤 H 𝓜 𝓡 𝓡.env in let En = ended in let c = clauses 𝓛 𝓜.mem 𝓡.returns in
    let fn = code.function in let hs : Stays En.signature.params En.kept = tt in
    proved 𝓛 En hs c 𝓜 𝓡 tt #self fn (code.unfolded 𝓤 H 𝓜 𝓡 wired) (λ κs. tt) (λ κs. tt) (λ κs qs bounds a gh are.
    let v : Val = vstruct (vcons (vint w64 0) vnil) in let fits : 0 < 2 ^ 64 = lit< tt in
    let Has : ℕ → Fml = λ n. inside.the_row.own_val (record { word = n }) (v ∷ []) in
    let Laid : Type 0 = denote.Laws.Typed inside.the_row.mir (v ∷ []) in
    let y : (walk_of 𝓛 En hs c).Ghost = ((κs, qs, bounds, a, tt), gh) in
    let Post : Val → SProp 𝓤 = (walk_of 𝓛 En hs c).post y in
    qed 𝓛 ((raw (alive 𝓛 En.signature κs qs) ⊛ ‵ (owns (types_at En.signature.params κs) a y.0.4)) ∷ raw
    ((c κs a).requires gh) ∷ []) ∵
    split ! $ keep ! (0 ∷ []) $
    enter ! 𝓣.C 𝓣.Λ fn [] Post $ alloc_all ! (λ l. pass_all ! refl tt $
    sets ! (agg ! (and_then ! (lit ! tt) (no_more !))) refl (tt, (record { fits = fits }, tt)) $
    name_new ! tt (gnum 0) (λ name. fjoin ! $ use1 𝓛 (‵ (kept name 0)) (laid 𝓛 name (0 % 2 ≡ 0)) $
    use0 𝓛 (‵ (Has 0)) (makes_shadow 𝓛 (Has 0) (λ vss. (tt, ((tt, tt), tt))) (
      (vint w64 0 ∷ [], tt),
      (
        refl,
        ((refl, fits), tt),
      ),
    )) $ fjoin ! $
    fpack ! ℕ (λ n. fsep (Has n) (kept name n)) 0 $ nothing ! $
    fpack ! Laid (λ _. ftrue) ((tt, (record { fits = fits }, tt)), tt) $ fjoin ! $
    nothing ! $ nothing ! $
    returns ! (look_at ! 0 refl) $ free_all ! refl $ keep ! (3 ∷ 0 ∷ 2 ∷ 1 ∷ []) $
    by ! (leaves 𝓛 En hs c y v name tt tt))))
