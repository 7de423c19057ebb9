-- What a call on one key answers of a shard that it holds, and what it leaves there.
use Rattle.std.specs.Prelude.{◌≡◌, ℕ, ◌<◌, ◌≤◌, Bool, Option, None, Some, Result, IfNone, IfSome, IfOk, OnOk, IfErr, ◌*◌}
use Rattle.std.specs.Prelude.{MatchOption, MatchResult, if◌then◌else◌}
use Rattle.std.specs.Borrow.{Bor, MutBor}
use Rattle.std.specs.Fn.{Once}
use Rattle.std.specs.Option.{option_map}
use Rattle.dashmap_table.specs.Slots.{count, pair_of, slot_of, entry_of}
use Rattle.dashmap_table.specs.Table.{Table, SamePairs, TakesOut, PutsIn, with_value}
use Rattle.dashmap_guard.specs.declared.mapref.entry.Entry.{Entry}
use Rattle.dashmap_guard.specs.Entries.{by_entry}
use Rattle.dashmap_map.specs.Calls.{AnswersAt, LeavesAt, MakesAt, FreesIf}

-- there are pairs and room beyond theirs, and nothing is another
abbrev pub KeepsSpareRoom : {K V : Type 0} → Table K V → Table K V → Type 0
KeepsSpareRoom old new = (new ≡ old) × (0 < count old.slots) × (count old.slots < old.room)

module _ {K V : Type 0} (eq : K → K → Bool) where
  -- the pair is put in, and what its key had is answered; or there is no room for a new key, and the pair comes back
  abbrev pub Inserts : Table K V → Table K V → ℕ → K → V → Result (Option V) (K × V) → Type 0
  Inserts old new hash key value result =
      IfOk result (λ had. had ≡ option_map (λ e. e.value) (entry_of eq old.slots hash key))
      × OnOk result (PutsIn eq old new hash key value)
      × IfErr result (λ back. (back ≡ (key, value)) × (new ≡ old) × (slot_of eq old.slots hash key ≡ None)
      × (old.room ≤ count old.slots))

  -- the pair of the key is taken out and answered, if it is there
  abbrev pub Removes : Table K V → Table K V → ℕ → K → Option (K × V) → Type 0
  Removes old new hash key result =
      (result ≡ option_map pair_of (entry_of eq old.slots hash key)) × TakesOut eq old new hash key

  -- the pair of the key is taken out where f answers true of it, and answered; else nothing changes
  abbrev pub RemovesIf : {F : Type 0} → Once F (Bor K × (Bor V × Unit {0})) Bool → F → Table K V → Table K V → ℕ → K
      → Option (K × V) → Type 0
  RemovesIf g f old new hash key result =
      IfNone (slot_of eq old.slots hash key) (result ≡ None)
      × IfSome (entry_of eq old.slots hash key) (λ e. (answer : Bool) × AnswersAt g f e.key e.value answer
      × (result ≡ (if answer then Some (pair_of e) else None)))
      × IfNone result (new ≡ old) × IfSome result (λ _. TakesOut eq old new hash key)

  -- the pair of the key is taken out where f answers true of it, and answered; what f wrote stays else
  abbrev pub RemovesIfMut : {F : Type 0} → Once F (Bor K × (MutBor V × Unit {0})) (Bool × (MutBor V × Unit {0})) → F
      → Table K V → Table K V → ℕ → K → Option (K × V) → Type 0
  RemovesIfMut g f old new hash key result =
      IfNone (slot_of eq old.slots hash key) ((result ≡ None) × (new ≡ old))
      × IfSome (slot_of eq old.slots hash key) (λ i. IfSome (entry_of eq old.slots hash key)
      (λ e. (answer : Bool) × (left : V) × LeavesAt g f e.key e.value answer left
      × (result ≡ (if answer then Some (e.key, left) else None)) × FreesIf answer (with_value old i left) new i))

  -- the value of the key is what f makes of it, if it is there
  abbrev pub AltersAt : {F : Type 0} → Once F (Bor K × (V × Unit {0})) V → F → Table K V → Table K V → ℕ → K → Type 0
  AltersAt g f old new hash key =
      IfNone (slot_of eq old.slots hash key) (new ≡ old)
      × IfSome (slot_of eq old.slots hash key) (λ i. IfSome (entry_of eq old.slots hash key)
      (λ e. (made : V) × MakesAt g f e.key e.value made × (new ≡ with_value old i made)))

  -- the answer is what f answers of the pair of the key, if it is there
  abbrev pub Views : {F U : Type 0} → Once F (Bor K × (Bor V × Unit {0})) U → F → Table K V → ℕ → K → Option U → Type 0
  Views {F} {U} g f shard hash key result =
      IfNone (slot_of eq shard.slots hash key) (result ≡ None)
      × IfSome (entry_of eq shard.slots hash key) (λ e. (u : U) × AnswersAt g f e.key e.value u × (result ≡ Some u))

  -- each pair is found as it was, and room that they don't need is given up
  abbrev pub Shrunk : Table K V → Table K V → Type 0
  Shrunk old new = SamePairs eq old new × (new.room ≤ old.room) × (new.room ≤ 4 * count new.slots)

  -- so where it wasn't refused; that it is only where there is room to give up, and nothing changes then
  abbrev pub Shrinks : {X E : Type 0} → Result X E → Table K V → Table K V → Type 0
  Shrinks result old new = MatchResult result (λ _. Shrunk old new) (λ _. KeepsSpareRoom old new)

  -- the key has no pair, or a guard of its slot is answered, through which the very shard is seen
  abbrev pub Finds : {R : Type 0} → (R → Table K V × ℕ) → Table K V → ℕ → K → Option R → Type 0
  Finds {R} shows shard hash key result =
      MatchOption result (slot_of eq shard.slots hash key ≡ None)
      (λ r. ((shows r).0 ≡ shard) × (slot_of eq shard.slots hash key ≡ Some (shows r).1))

  module _ {A W H D Lock Runtime Party Apart : Type 0} (part : W → Table K V) (shard : Table K V) (hash : ℕ)
      (key : K) where
    -- an entry of the key: of the slot where it is, or of a shard with room for it, in which every pair is found as it
    -- was
    abbrev pub IsEntryOf : Entry K V A W H D Lock Runtime Party Apart → Type 0
    IsEntryOf entry = by_entry
        (λ o. (part o.0.0.inner ≡ shard) × (slot_of eq shard.slots hash key ≡ Some o.0.1))
        (λ v. (slot_of eq shard.slots hash key ≡ None) × SamePairs eq shard (part v.0.inner)) entry

    -- an entry of the key, or the key is new and there is no room
    abbrev pub Enters : Result (Entry K V A W H D Lock Runtime Party Apart) K → Type 0
    Enters result = MatchResult result IsEntryOf
        (λ _. (slot_of eq shard.slots hash key ≡ None) × (shard.room ≤ count shard.slots))
