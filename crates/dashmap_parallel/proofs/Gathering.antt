-- Lists that are gathered lock by lock, and piece by piece.
use Rattle.std.proofs.Common.{◌≡◌, ℕ, ◌+◌, ◌<◌, List, [], ◌∷◌, ◌++◌, length, get_or, take, map, Ok, Err, IfOk, refl}
use Rattle.std.proofs.Common.{sym, ap, ◌∙◌, subst, append-nil, append_assoc}
use Rattle.std.specs.List.{AllZip, flat_map}
use Rattle.std.specs.declared.result.Result.{Result}
use Rattle.std.specs.declared.vec.Vec.{Vec}
use Rattle.std.specs.Borrow.{Bor, MutBor}
use Rattle.std.proofs.lemmas.List.{take_more}
use Rattle.std.proofs.lemmas.Result.{IfOk-at_ok}
use denote.Param.Members.{Shared}
use Rattle.crossbeam_utils.specs.declared.cache_padded.CachePadded.{CachePadded}
use Rattle.crossbeam_utils.specs.Padded.{padded_value}
use Rattle.dashmap_table.specs.Table.{Table}
use Rattle.dashmap_parallel.specs.Visits.{MadeOf, MadeInPieces, WhileShared, GatheredFrom}

-- two lists and their answers, one behind another
AllZip-both : {X Y : Type 0} (R : X → Y → Type 0) (xs zs : List X) (ys ws : List Y) → AllZip R xs ys → AllZip R zs ws
    → AllZip R (xs ++ zs) (ys ++ ws)
AllZip-both R [] zs [] ws a b = b
AllZip-both R [] zs (y ∷ ys) ws a b = absurd a
AllZip-both R (x ∷ xs) zs [] ws a b = absurd a
AllZip-both R (x ∷ xs) zs (y ∷ ys) ws a b = (a.0, AllZip-both R xs zs ys ws a.1 b)

pub AllZip-weaker : {X Y : Type 0} (R S : X → Y → Type 0) → ((x : X) (y : Y) → R x y → S x y)
    → (xs : List X) (ys : List Y) → AllZip R xs ys → AllZip S xs ys
AllZip-weaker R S turn [] [] h = tt
AllZip-weaker R S turn [] (y ∷ ys) h = absurd h
AllZip-weaker R S turn (x ∷ xs) [] h = absurd h
AllZip-weaker R S turn (x ∷ xs) (y ∷ ys) h = (turn x y h.0, AllZip-weaker R S turn xs ys h.1)

flat-both : {X : Type 0} (xs ys : List (List X)) → flat_map (λ l. l) (xs ++ ys) ≡ flat_map (λ l. l) xs ++ flat_map
    (λ l. l) ys
flat-both [] ys = refl
flat-both (x ∷ xs) ys = ap (λ l. x ++ l) (flat-both xs ys)
    ∙ sym (append_assoc x (flat_map (λ l. l) xs) (flat_map (λ l. l) ys))

-- two lists, each put together of others, one behind another
put-both : {X : Type 0} (xs ys : List X) (front back : List (List X)) → xs ≡ flat_map (λ l. l) front
    → ys ≡ flat_map (λ l. l) back → xs ++ ys ≡ flat_map (λ l. l) (front ++ back)
put-both xs ys front back p q = ap (λ z. z ++ ys) p ∙ ap (λ z. flat_map (λ l. l) front ++ z) q
    ∙ sym (flat-both front back)

module _ {F X D U : Type 0} (g : Shared F (Bor (List X) × (MutBor D × Unit {0})) (U × (MutBor D × Unit {0}))) (f : F)
  where
    pub made-one : (xs : List X) (made : U) (all : List U) → all ≡ made ∷ [] → MadeOf g f xs made
        → MadeInPieces g f xs all
    made-one xs made all is m = subst (MadeInPieces g f xs) (sym is) (xs ∷ [], (m, tt), sym (append-nil xs))

    made-both : (xs ys : List X) (all more : List U) → MadeInPieces g f xs all → MadeInPieces g f ys more
        → MadeInPieces g f (xs ++ ys) (all ++ more)
    made-both xs ys all more h k =
        (h.0 ++ k.0, AllZip-both (MadeOf g f) h.0 k.0 all more h.1 k.1, put-both xs ys h.0 k.0 h.2 k.2)

    -- of two halves, whose lists were put one behind another
    pub made-joined : {B E : Type 0} (r first second : Result (Vec U B) E) (xs here there : List X) → xs ≡ here ++ there
        → IfOk r (λ all. (v : Vec U B) × (w : Vec U B) × (first ≡ Ok v) × (second ≡ Ok w)
        × (all.items ≡ v.items ++ w.items))
        → IfOk first (λ v. MadeInPieces g f here v.items) → IfOk second (λ w. MadeInPieces g f there w.items)
        → IfOk r (λ all. MadeInPieces g f xs all.items)
    made-joined (Ok all) first second xs here there cut h one two =
        subst (MadeInPieces g f xs) (sym h.4) (subst (λ l. MadeInPieces g f l (h.0.items ++ h.1.items)) (sym cut)
        (made-both here there h.0.items h.1.items (IfOk-at_ok (λ v. MadeInPieces g f here v.items) h.2 one)
        (IfOk-at_ok (λ v. MadeInPieces g f there v.items) h.3 two)))
    made-joined (Err e) first second xs here there cut h one two = tt

module _ {K V Q T Party : Type 0} (showed : Q → Party → Party → Table K V → Type 0)
    (P : Table K V → List T → Type 0) where
  pub gathered-none : (locks : List (CachePadded Q)) (all : List T) → locks ≡ [] → all ≡ []
      → GatheredFrom showed P locks all
  gathered-none locks all none empty =
      subst (λ (ls : List (CachePadded Q)). GatheredFrom {Q = Q} showed P ls all) (sym none)
      (subst (λ l. GatheredFrom {Q = Q} showed P [] l) (sym empty) ([], tt, refl))

  pub gathered-both : (xs ys : List (CachePadded Q)) (all more : List T) → GatheredFrom showed P xs all
      → GatheredFrom showed P ys more
      → GatheredFrom showed P (xs ++ ys) (all ++ more)
  gathered-both xs ys all more h k = (
    h.0 ++ k.0,
    AllZip-both (λ lock part. WhileShared showed (padded_value lock) (λ table. P table part)) xs ys h.0 k.0
        h.1 k.1,
    put-both all more h.0 k.0 h.2 k.2,
  )

  -- one lock more
  pub gathered-more : (locks : List (CachePadded Q)) (i : ℕ) (lock : CachePadded Q) (all part : List T)
      → i < length locks → lock ≡ get_or locks i lock
      → GatheredFrom showed P (take i locks) all → WhileShared showed (padded_value lock)
      (λ table. P table part)
      → GatheredFrom showed P (take (i + 1) locks) (all ++ part)
  gathered-more locks i lock all part lt is h one =
      subst (λ l. GatheredFrom showed P l (all ++ part))
      (ap (λ z. take i locks ++ z ∷ []) is ∙ sym (take_more locks i lock lt))
      (gathered-both (take i locks) (lock ∷ []) all part h (part ∷ [], (one, tt), sym (append-nil part)))

  -- what was gathered from each piece
  pub gathered-pieces : {B : Type 0} (cuts : List (List (CachePadded Q))) (lists : List (Vec T B))
      → AllZip (λ cut list. GatheredFrom showed P cut list.items) cuts lists
      → GatheredFrom showed P (flat_map (λ l. l) cuts) (flat_map (λ v. v.items) lists)
  gathered-pieces [] [] h = gathered-none [] [] refl refl
  gathered-pieces [] (list ∷ lists) h = absurd h
  gathered-pieces (cut ∷ cuts) [] h = absurd h
  gathered-pieces (cut ∷ cuts) (list ∷ lists) h = gathered-both cut (flat_map (λ l. l) cuts) list.items
      (flat_map (λ v. v.items) lists) h.0 (gathered-pieces cuts lists h.1)

-- what is known of each of some answers is known of the list in it, where none is a refusal
pub all-ok : {X T B E : Type 0} (R : X → Vec T B → Type 0) (xs : List X) (answers : List (Result (Vec T B) E))
    (lists : List (Vec T B)) → answers ≡ map Ok lists
    → AllZip (λ x r. IfOk r (R x)) xs answers → AllZip R xs lists
all-ok {X} {T} {B} {E} R xs answers lists is h = each xs lists (subst (AllZip (λ x r. IfOk r (R x)) xs) is h)
  where
    each : (xs : List X) (lists : List (Vec T B)) → AllZip (λ (x : X) (r : Result (Vec T B) E). IfOk r (R x)) xs
        (map Ok lists) → AllZip R xs lists
    each [] [] h = tt
    each [] (l ∷ ls) h = absurd h
    each (x ∷ xs) [] h = absurd h
    each (x ∷ xs) (l ∷ ls) h = (h.0, each xs ls h.1)
