-- Calls of a closure on one pair.
use Rattle.std.specs.Prelude.{◌≡◌, ℕ, Bool, true, false}
use Rattle.std.specs.Borrow.{Bor, MutBor}
use Rattle.std.specs.Fn.{Once, FnOnceReturns}
use Rattle.dashmap_table.specs.Table.{Table, Frees}

-- f, called at k and v, may answer r
abbrev pub AnswersAt : {F K V R : Type 0} → Once F (Bor K × (Bor V × Unit {0})) R → F → K → V → R → Type 0
AnswersAt {F} {K} {V} g f k v r = (p : Bor K) × (q : Bor V) × FnOnceReturns g f (p, (q, tt)) r × (p.now ≡ k)
    × (q.now ≡ v)

-- f, called at k and a `&mut` to v, may answer r and leave w there
pub record LeavesAt {F K V R : Type 0} (g : Once F (Bor K × (MutBor V × Unit {0})) (R × (MutBor V × Unit {0}))) (f : F)
    (k : K) (v : V) (r : R) (w : V) : Type 0 where
  pub key : Bor K
  pub value : MutBor V
  pub shows : (key.now ≡ k) × (value.now ≡ v)
  pub left : MutBor V
  pub met : g.post f (key, (value, tt)) (r, (left, tt))
  pub leaves : left.now ≡ w

-- f, called at k and with v, may make w of it
abbrev pub MakesAt : {F K V : Type 0} → Once F (Bor K × (V × Unit {0})) V → F → K → V → V → Type 0
MakesAt {F} {K} g f k v w = (p : Bor K) × FnOnceReturns g f (p, (v, tt)) w × (p.now ≡ k)

-- a slot's entry goes where the answer is yes; else nothing changes
abbrev pub FreesIf : {K V : Type 0} → Bool → Table K V → Table K V → ℕ → Type 0
FreesIf true old new i = Frees old new i
FreesIf false old new i = new ≡ old
