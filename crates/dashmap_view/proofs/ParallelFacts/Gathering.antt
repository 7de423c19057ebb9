-- Lists that are gathered pair by pair, and shard by shard.
use Rattle.std.proofs.Common.{◌≡◌, ℕ, suc, ◌+◌, ◌<◌, ◌≤◌, List, [], ◌∷◌, ◌++◌, length, drop, map, Option, Some, None}
use Rattle.std.proofs.Common.{Ok, Err, IfOk, refl, sym, ap, ◌∙◌, subst, append_assoc, append-nil, arith}
use Rattle.std.specs.List.{All, AllZip, flat_map}
use Rattle.std.specs.declared.result.Result.{Result}
use Rattle.std.specs.declared.vec.Vec.{Vec}
use Rattle.std.proofs.lemmas.List.Elements.{All-cons, All-nil, All-append}
use Rattle.rayon.proofs.ListFacts.{AllZip-append}
use Rattle.dashmap_table.specs.declared.entry.Entry.{Entry}
use Rattle.dashmap_table.specs.Slots.{at, pair_of, pairs_of, IsNextFull}
use Rattle.dashmap_table.specs.Table.{Table}
use Rattle.dashmap_view.specs.Views.{all_pairs}
use Rattle.dashmap_view.proofs.Walking.{pairs-next}
use Rattle.dashmap_view.specs.Parallel.Calls.{AreJoined}

-- what is behind a full slot, its pair first
pub pairs-at : {K V : Type 0} (xs : List (Option (Entry K V))) (from i : ℕ) (e : Entry K V) → IsNextFull xs from i
    → at xs i ≡ Some e → pairs_of (drop from xs) ≡ pair_of e ∷ pairs_of (drop (i + 1) xs)
pairs-at xs from i e next here =
    let is : suc i ≡ i + 1 = omega arith in
    subst (λ n. pairs_of (drop from xs) ≡ pair_of e ∷ pairs_of (drop n xs)) is
    (pairs-next from i xs e next.above next.first here)

module _ {X Y : Type 0} (R : X → Y → Type 0) where
  -- so much is gathered: whatever is gathered of the rest makes it whole
  abbrev pub Gathers : List X → List X → List Y → Type 0
  Gathers all left done = (more : List Y) → AllZip R left more → AllZip R all (done ++ more)

  pub gathers-none : (xs : List X) → Gathers xs xs []
  gathers-none xs more h = h

  pub gathers-one : (all left rest : List X) (x : X) (done : List Y) (y : Y) → left ≡ x ∷ rest → R x y
      → Gathers all left done → Gathers all rest (done ++ y ∷ [])
  gathers-one all left rest x done y is r h more rests =
      subst (AllZip R all) (sym (append_assoc done (y ∷ []) more))
      (h (y ∷ more) (subst (λ l. AllZip R l (y ∷ more)) (sym is) (r, rests)))

  pub gathers-all : (all left : List X) (done : List Y) → left ≡ [] → Gathers all left done → AllZip R all done
  gathers-all all left done is h = subst (AllZip R all) (append-nil done)
      (h [] (subst (λ l. AllZip R l []) (sym is) tt))

-- what was gathered of each shard, put one behind another
pub gathers-shards : {K V T B E : Type 0} (R : K × V → T → Type 0) (tables : List (Table K V)) (lists : List (Vec T B))
    (answers : List (Result (Vec T B) E)) → answers ≡ map Ok lists
    → AllZip (λ (t : Table K V) (r : Result (Vec T B) E). IfOk r (λ v. AllZip R (pairs_of t.slots) v.items)) tables
    answers
    → AllZip R (all_pairs tables) (flat_map (λ v. v.items) lists)
gathers-shards {K} {V} {T} {B} {E} R tables lists answers is h =
    each tables lists (subst
    (AllZip (λ (t : Table K V) (r : Result (Vec T B) E). IfOk r (λ v. AllZip R (pairs_of t.slots) v.items)) tables)
    is h)
  where
    each : (tables : List (Table K V)) (lists : List (Vec T B))
        → AllZip (λ (t : Table K V) (r : Result (Vec T B) E). IfOk r (λ v. AllZip R (pairs_of t.slots) v.items)) tables
        (map Ok lists)
        → AllZip R (all_pairs tables) (flat_map (λ v. v.items) lists)
    each [] [] h = tt
    each [] (l ∷ ls) h = absurd h
    each (t ∷ ts) [] h = absurd h
    each (t ∷ ts) (l ∷ ls) h = AllZip-append R (pairs_of t.slots) (all_pairs ts) l.items (flat_map (λ v. v.items) ls)
        h.0 (each ts ls h.1)

-- what holds of each pair of each shard holds of each pair
pub all-shards : {K V U : Type 0} (P : K × V → Type 0) (tables : List (Table K V)) (us : List U)
    → AllZip (λ t u. All P (pairs_of t.slots)) tables us → All P (all_pairs tables)
all-shards P [] us h = All-nil P
all-shards P (t ∷ ts) [] h = absurd h
all-shards P (t ∷ ts) (u ∷ us) h = All-append P (pairs_of t.slots) (all_pairs ts) h.0 (all-shards P ts us h.1)

map-more : {X Y : Type 0} (f : X → Y) (xs : List X) (x : X) → map f (xs ++ x ∷ []) ≡ map f xs ++ f x ∷ []
map-more f [] x = refl
map-more f (y ∷ ys) x = ap (λ l. f y ∷ l) (map-more f ys x)

flat-more : {T B : Type 0} (lists : List (Vec T B)) (l : Vec T B) → flat_map (λ v. v.items) (lists ++ l ∷ []) ≡ flat_map
    (λ v. v.items) lists ++ l.items
flat-more [] l = append-nil l.items
flat-more (v ∷ vs) l = ap (λ rest. v.items ++ rest) (flat-more vs l)
    ∙ sym (append_assoc v.items (flat_map (λ (v : Vec _ _). v.items) vs) l.items)

-- one list more
pub joined-more : {T B E : Type 0} (answers : List (Result (Vec T B) E)) (all now : List T) (r : Result (Vec T B) E)
    (l : Vec T B) → r ≡ Ok l → now ≡ all ++ l.items → AreJoined answers all → AreJoined (answers ++ r ∷ []) now
joined-more answers all now r l is more h = (
  h.0 ++ l ∷ [],
  ap (λ z. answers ++ z ∷ []) is ∙ ap (λ z. z ++ Ok l ∷ []) h.1 ∙ sym (map-more Ok h.0 l),
  more ∙ ap (λ z. z ++ l.items) h.2 ∙ sym (flat-more h.0 l),
)
