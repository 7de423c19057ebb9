-- A table as contracts see it, and what its calls do to it.
use Rattle.std.specs.Prelude.{◌≡◌, ◌≢◌, ℕ, ◌+◌, ◌^◌, ◌<◌, ◌≤◌, Bool, false, List, length, Option, Some, None}
use Rattle.std.specs.Prelude.{MatchOption, slice_set, max, ◌/◌}
use Rattle.dashmap_table.specs.declared.entry.Entry.{Entry}
use Rattle.dashmap_table.specs.Slots.{at, count, holds, slot_of, entry_of, AreDistinct, entry_with, giving_value}
use Rattle.dashmap_table.specs.Slots.{giving_pair, changed}

pub record Table (K V : Type 0) : Type 0 where
  -- what stands in each slot, from slot 0 on
  pub slots : List (Option (Entry K V))
  -- for how many pairs there is room
  pub room : ℕ

-- for how many pairs a table of n pairs grows that is to have room for so many more: for half as many again at least
abbrev pub grown_to : ℕ → ℕ → ℕ
grown_to n more = n + max more (n / 2 + 1)

module _ {K V : Type 0} where
  -- the table with another value in a full slot
  abbrev pub with_value : Table K V → ℕ → V → Table K V
  with_value t i value = record t { slots = changed (giving_value value) t.slots i }

  -- the table with another key and value in a full slot
  abbrev pub with_pair : Table K V → ℕ → K → V → Table K V
  with_pair t i key value = record t { slots = changed (giving_pair key value) t.slots i }

  -- what holds of every table
  pub record IsSound (eq : K → K → Bool) (t : Table K V) : Type 0 where
    pub distinct : AreDistinct eq t.slots
    pub fits : count t.slots ≤ t.room
    -- so that the number behind a slot's can be formed
    pub numbered : length t.slots < 2 ^ 63

  -- a table takes a new entry into a slot: every other hash and key finds what it found
  pub record Adds (eq : K → K → Bool) (old new : Table K V) (e : Entry K V) (i : ℕ) : Type 0 where
    pub placed : at new.slots i ≡ Some e
    pub others : (hash : ℕ) (key : K) → holds eq hash key (Some e) ≡ false
        → entry_of eq new.slots hash key ≡ entry_of eq old.slots hash key
    pub counted : count new.slots ≡ count old.slots + 1
    -- at most one place is used up
    pub left : old.room + count new.slots ≤ new.room + count old.slots + 1
    -- where there was room, the slot was free and no other slot moved
    pub in_place : count old.slots < old.room → (at old.slots i ≡ None)
        × ((j : ℕ) → j ≢ i → at new.slots j ≡ at old.slots j)

  -- a slot's entry goes; no other slot moves, no room is lost, and no more is taken
  pub record Frees (old new : Table K V) (i : ℕ) : Type 0 where
    pub freed : new.slots ≡ slice_set old.slots i None
    pub left : old.room + count new.slots ≤ new.room + count old.slots
    pub no_more : new.room ≤ old.room

  -- every hash and key finds what it found, and there are as many pairs
  pub record SamePairs (eq : K → K → Bool) (old new : Table K V) : Type 0 where
    pub found : (hash : ℕ) (key : K) → entry_of eq new.slots hash key ≡ entry_of eq old.slots hash key
    pub counted : count new.slots ≡ count old.slots

  -- a key's pair is taken out of its slot; nothing happens where there is none
  abbrev pub TakesOut : (K → K → Bool) → Table K V → Table K V → ℕ → K → Type 0
  TakesOut eq old new hash key = MatchOption (slot_of eq old.slots hash key) (new ≡ old) (λ i. Frees old new i)

  -- a key that is there gets a value, a new one a slot
  abbrev pub PutsIn : (K → K → Bool) → Table K V → Table K V → ℕ → K → V → Type 0
  PutsIn eq old new hash key value = MatchOption (slot_of eq old.slots hash key)
      ((i : ℕ) × Adds eq old new (entry_with hash key value) i) (λ i. new ≡ with_value old i value)
