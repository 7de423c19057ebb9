-- What a closure that threads share answers of a pair, and what it leaves of a value.
use Rattle.std.specs.Prelude.{◌≡◌, ℕ, List, Option, Some, None, Ok, MatchOption, length, map}
use Rattle.std.specs.List.{flat_map}
use Rattle.std.specs.declared.result.Result.{Result}
use Rattle.std.specs.declared.vec.Vec.{Vec}
use Rattle.std.specs.Fn.{FnReturns}
use Rattle.std.specs.Borrow.{Bor, MutBor}
use denote.Param.Members.{Shared}
use Rattle.dashmap_table.specs.declared.entry.Entry.{Entry}
use Rattle.dashmap_table.specs.Slots.{at, pair_of, giving_value}
use Rattle.dashmap_table.specs.Table.{Table, with_value}

-- f, called at a `&` to the key and one to the value of a pair, may answer r
pub record AnswersOf {F K V R : Type 0} (g : Shared F (Bor K × (Bor V × Unit {0})) R) (f : F) (p : K × V) (r : R) : Type
    0 where
  pub key : Bor K
  pub value : Bor V
  pub shows : (key.now ≡ p.0) × (value.now ≡ p.1)
  pub says : FnReturns g f (key, (value, tt)) r

-- f, called with a pair, may answer r
abbrev pub MakesOf : {F K V R : Type 0} → Shared F (K × (V × Unit {0})) R → F → K × V → R → Type 0
MakesOf g f p r = FnReturns g f (p.0, (p.1, tt)) r

-- f, called at a `&` to the key and a `&mut` to the value of a pair, may leave w there
pub record LeavesOf {F K V : Type 0} (g : Shared F (Bor K × (MutBor V × Unit {0})) (Unit {0} × (MutBor V × Unit {0})))
    (f : F) (p : K × V) (w : V) : Type 0 where
  pub key : Bor K
  pub value : MutBor V
  pub shows : (key.now ≡ p.0) × (value.now ≡ p.1)
  pub left : MutBor V
  pub says : FnReturns g f (key, (value, tt)) (tt, (left, tt))
  pub leaves : left.now ≡ w

module _ {F K V : Type 0} (g : Shared F (Bor K × (MutBor V × Unit {0})) (Unit {0} × (MutBor V × Unit {0}))) (f : F)
  where
    -- f was called at the pair of a full slot, which has the value that was left, and nothing else is another
    pub record WritesAt (old : Table K V) (i : ℕ) (new : Table K V) : Type 0 where
      pub entry : Entry K V
      pub full : at old.slots i ≡ Some entry
      pub left : V
      pub leaves : LeavesOf g f (pair_of entry) left
      pub after : new ≡ with_value old i left

    -- so it was for this slot, if it is full
    abbrev pub IsWritten : Table K V → Table K V → ℕ → Type 0
    IsWritten old new i = MatchOption (at old.slots i) (at new.slots i ≡ None)
        (λ e. (w : V) × LeavesOf g f (pair_of e) w × (at new.slots i ≡ Some (giving_value w e)))

    -- and for each, once
    pub record WritesEach (old new : Table K V) : Type 0 where
      pub room : new.room ≡ old.room
      pub slots : length new.slots ≡ length old.slots
      pub each : (i : ℕ) → IsWritten old new i

-- lists, none of them a refusal, put one behind another
abbrev pub AreJoined : {T B E : Type 0} → List (Result (Vec T B) E) → List T → Type 0
AreJoined {T} {B} answers all = (lists : List (Vec T B)) × (answers ≡ map Ok lists)
    × (all ≡ flat_map (λ v. v.items) lists)
