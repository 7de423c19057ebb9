-- Up to which pair pairs are put in, in which turn, and what was answered.
use Rattle.std.proofs.Common.{◌≡◌, ℕ, ◌+◌, ◌<◌, Bool, true, false, cond, nat_eq, List, [], ◌∷◌, ◌++◌, length, map}
use Rattle.std.proofs.Common.{filter, slice_index_or, Ok, Err, OnOk, MatchResult, get_or, take, drop, refl, sym, ap}
use Rattle.std.proofs.Common.{◌∙◌, subst, arith}
use Rattle.std.specs.Prelude.{All}
use Rattle.std.specs.List.{FoldsTo}
use Rattle.std.specs.Hash.{HashWrites}
use Rattle.std.specs.Borrow.{MutBor}
use Rattle.std.specs.Fn.{FnReturns}
use Rattle.std.specs.declared.result.Result.{Result}
use Rattle.std.specs.declared.vec.Vec.{Vec}
use Rattle.std.specs.declared.hash.BuildHasher as builder
use Rattle.std.specs.declared.hash.Hasher as hasher
use Rattle.std.proofs.lemmas.List.{take-append-drop, drop_more}
use Rattle.std.proofs.lemmas.List.Elements.{All-nil, All-cons, All-head, All-tail}
use Rattle.std.proofs.lemmas.Result.{on_ok_weaker}
use denote.Param.Members.{Shared}
use Rattle.dashmap_table.specs.Table.{Table}
use Rattle.dashmap_map.specs.Locked.{Locked}
use Rattle.dashmap_parallel.specs.Gifts.{TookOn, EachBeside}
use Rattle.dashmap_parallel.specs.Puts.{AreDealt, piece_at, PutAt, PutInTurn, hashed, piece_of_pair, WasPut, PutByWait}
use Rattle.dashmap_parallel.specs.Puts.{PutInPieces}
use Rattle.dashmap_parallel.proofs.Cutting.{some-of}
use Rattle.dashmap_parallel.proofs.Dealing.{all-kept}

-- the items so far, the next one, and the rest
pub stops-at : {X : Type 0} (xs before : List X) (x : X) → before ≡ take (length before) xs → length before < length xs
    → x ≡ get_or xs (length before) x → xs ≡ before ++ x ∷ drop (length before + 1) xs
stops-at xs before x so_far lt is =
    let n = length before in
    sym (take-append-drop n xs) ∙ ap (λ l. l ++ drop n xs) (sym so_far)
    ∙ ap (λ l. before ++ l) (drop_more xs n x lt ∙ ap (λ z. z ∷ drop (n + 1) xs) (sym is))

-- what is answered at a refusal
pub at-refusal : {T E : Type 0} (r : Result T E) (P Q : Type 0) (e : E) → r ≡ Err e → Q
    → MatchResult r (λ _. P) (λ _. Q)
at-refusal {T} {E} r P Q e is h = subst (λ (z : Result T E). MatchResult z (λ _. P) (λ _. Q)) (sym is) h

-- what holds of all that is made of some items
pub unmapped : {X Y : Type 0} (f : X → Y) (P : Y → Type 0) (xs : List X) → All P (map f xs) → All (λ x. P (f x)) xs
unmapped f P [] h = All-nil (λ x. P (f x))
unmapped f P (x ∷ xs) h = All-cons (λ x. P (f x)) x xs (All-head P (f x) (map f xs) h)
    (unmapped f P xs (All-tail P (f x) (map f xs) h))

-- what is kept of what is made of some items
kept-one : {X Y : Type 0} (f : X → Y) (b : Bool) (x : X) (ys : List Y) (xs : List X) → ys ≡ map f xs
    → cond b (f x ∷ ys) ys ≡ map f (cond b (x ∷ xs) xs)
kept-one f true x ys xs is = ap (λ l. f x ∷ l) is
kept-one f false x ys xs is = is

pub kept-unmapped : {X Y : Type 0} (f : X → Y) (test : Y → Bool) (xs : List X)
    → filter test (map f xs) ≡ map f (filter (λ x. test (f x)) xs)
kept-unmapped f test [] = refl
kept-unmapped f test (x ∷ xs) = kept-one f (test (f x)) x (filter test (map f xs)) (filter (λ z. test (f z)) xs)
    (kept-unmapped f test xs)

-- the steps over what is made of some items
pub steps-unmapped : {X Y P : Type 0} (f : X → Y) (R : P → Y → P → Type 0) (p : P) (xs : List X) (q : P)
    → FoldsTo R p (map f xs) q → FoldsTo (λ a x c. R a (f x) c) p xs q
steps-unmapped f R p [] q h = h
steps-unmapped f R p (x ∷ xs) q h = (h.0, h.1, steps-unmapped f R h.0 xs q h.2)

-- what each step says of its item
pub steps-all : {X P : Type 0} (R : P → X → P → Type 0) (T : X → Type 0)
    → ((p : P) (x : X) (q : P) → R p x q → T x) → (p : P) (xs : List X) (q : P) → FoldsTo R p xs q → All T xs
steps-all R T says p [] q h = All-nil T
steps-all R T says p (x ∷ xs) q h = All-cons T x xs (says p x h.0 h.1) (steps-all R T says h.0 xs q h.2)

module _ {K V Q S H Party : Type 0} (b : builder.Ghosts S H) (h : hasher.Ghosts H) (input : K → HashWrites)
    (eq : K → K → Bool) (held : Q → Party → Party → Table K V → Table K V → Type 0) (m : Locked Q S) where
  -- a closure that puts a list in, given each list of those that the pairs were dealt out to
  pub pieces-put : {A F Z E C : Type 0}
      {g : Shared F (Vec (ℕ × K × V) A × (MutBor Party × Unit {0})) (Result (Unit {0}) E × (MutBor Party × Unit {0}))}
      {f : F} (r : Result Z C) (pairs : List (K × V)) (lists : List (Vec (ℕ × K × V) A)) (old new : List Party)
      → length lists ≡ length old
      → AreDealt (piece_at (length m.locks) (length old)) (map (hashed b h input m.hasher) pairs) lists
      → OnOk r (EachBeside (TookOn g f) lists old new)
      → ((v : Vec (ℕ × K × V) A) (party left : MutBor Party) → FnReturns g f (v, (party, tt)) (Ok tt, (left, tt))
      → PutInTurn eq held m.locks party.now v.items left.now)
      → OnOk r (PutInPieces b h input eq held m pairs old new)
  pieces-put {A} r pairs lists old new long dealt each puts =
      let n = length old in
      let to : ℕ × K × V → ℕ = piece_at (length m.locks) n in
      let f : K × V → ℕ × K × V = hashed b h input m.hasher in
      on_ok_weaker r
      (λ beside. record {
        same = beside.same;
        below = unmapped f (λ x. to x < n) pairs (subst (λ l. All (λ x. to x < l) (map f pairs)) long dealt.below);
        each = λ k d lt.
            let inside : k < length lists = subst (λ l. k < l) (sym long) lt in
            let v : Vec (ℕ × K × V) A = some-of lists (omega (arith, inside)) in
            let took = beside.each k v d inside in
            let from = slice_index_or old k d in
            let left = slice_index_or new k d in
            let list = (slice_index_or lists k v).items in
            let turns : PutInTurn eq held m.locks from list left =
            subst (λ a. PutInTurn eq held m.locks a list left) took.shows
            (subst (λ z. PutInTurn eq held m.locks took.party.now list z) took.leaves
            (puts (slice_index_or lists k v) took.party took.left took.says)) in
            steps-unmapped f (PutAt eq held m.locks) from
            (filter (λ p. nat_eq (piece_of_pair b h input m n p) k) pairs) left
            (subst (λ l. PutInTurn eq held m.locks from l left)
            (dealt.each k v inside ∙ kept-unmapped f (λ x. nat_eq (to x) k) pairs) turns);
      })
      each

  -- so each pair was put in
  pub all-put : (pairs : List (K × V)) (old new : List Party) → PutInPieces b h input eq held m pairs old new
      → All (WasPut b h input eq held m) pairs
  all-put pairs old new turns =
      all-kept (piece_of_pair b h input m (length old)) (WasPut b h input eq held m) (length old) pairs turns.below
      (λ k lt.
      let d = some-of old (omega (arith, lt)) in
      steps-all (PutByWait b h input eq held m) (WasPut b h input eq held m)
      (λ p x q w. (w.0, w.3, (p, q, w.1, w.2, w.4, w.5))) (slice_index_or old k d)
      (filter (λ x. nat_eq (piece_of_pair b h input m (length old) x) k) pairs) (slice_index_or new k d)
      (turns.each k d lt))
