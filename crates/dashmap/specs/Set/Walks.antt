-- Walks over the keys of a set.
use Rattle.std.specs.Prelude.{◌≡◌, ℕ, Bool}
use Rattle.std.specs.Borrow.{Bor}
use Rattle.std.specs.Fn.{Mut, Called}
use Rattle.dashmap_table.specs.declared.entry.Entry.{Entry}
use Rattle.dashmap_iter.specs.Walks.Visits.{Turn, StaysIf}

-- f, called at k, may answer r and be g afterwards
pub record AnswersKey {F K R : Type 0} (member : Mut F (Bor K × Unit {0}) R) (f : F) (k : K) (r : R) (g : F) : Type 0
  where
    pub key : Bor K
    pub shows : key.now ≡ k
    pub called : Called member f (key, tt) r g

-- the closure is asked of the key, which goes where it answers no
abbrev pub KeepsKey : {F K : Type 0} → Mut F (Bor K × Unit {0}) Bool → Turn F K (Unit {0}) → Entry K (Unit {0}) → ℕ
    → Turn F K (Unit {0}) → Type 0
KeepsKey member p e i q = (answer : Bool) × AnswersKey member p.0 e.key answer q.0 × StaysIf answer p.1 q.1 i
