-- Numbered slots, each free or with an entry: the finite map from (hash, key) to a pair.
use Rattle.std.specs.Prelude.{◌≡◌, ℕ, ◌+◌, ◌^◌, ◌<◌, ◌≤◌, IsSome, ◌&&◌, ◌==◌, Bool, false, List, Option, Some, None}
use Rattle.std.specs.Prelude.{IsTrue, is_some, count_by, filter_map, slice_index_or, slice_set}
use Rattle.std.specs.List.{position}
use Rattle.std.specs.Option.{option_and_then, option_map}
use Rattle.dashmap_table.specs.declared.entry.Entry.{Entry}

module _ {K V : Type 0} where
  abbrev pub entry_with : ℕ → K → V → Entry K V
  entry_with hash key value = record { hash = hash; key = key; value = value }

  -- what stands in a slot: nothing in a free one, nor behind the last
  abbrev pub at : List (Option (Entry K V)) → ℕ → Option (Entry K V)
  at slots i = slice_index_or slots i None

  -- how many slots are full
  abbrev pub count : List (Option (Entry K V)) → ℕ
  count slots = count_by is_some slots

  -- the slot has this hash and a key that is equal to this one
  abbrev pub holds : (K → K → Bool) → ℕ → K → Option (Entry K V) → Bool
  holds eq hash key None = false
  holds eq hash key (Some e) = e.hash == hash && eq e.key key

  -- the slot where this hash and key are found
  abbrev pub slot_of : (K → K → Bool) → List (Option (Entry K V)) → ℕ → K → Option ℕ
  slot_of eq slots hash key = position (holds eq hash key) slots

  -- the entry that is found there
  abbrev pub entry_of : (K → K → Bool) → List (Option (Entry K V)) → ℕ → K → Option (Entry K V)
  entry_of eq slots hash key = option_and_then (at slots) (slot_of eq slots hash key)

  -- the first full slot that isn't below one
  pub record IsNextFull (slots : List (Option (Entry K V))) (from i : ℕ) : Type 0 where
    pub full : IsSome (at slots i)
    pub above : from ≤ i
    pub first : (j : ℕ) → from ≤ j → j < i → at slots j ≡ None
    pub numbered : i + 1 < 2 ^ 64

  -- no two slots have equal keys under one hash
  abbrev pub AreDistinct : (K → K → Bool) → List (Option (Entry K V)) → Type 0
  AreDistinct eq slots = (i j : ℕ) (d e : Entry K V) → at slots i ≡ Some d → at slots j ≡ Some e
      → IsTrue (holds eq d.hash d.key (Some e)) → i ≡ j

  -- key and value of an entry
  abbrev pub pair_of : Entry K V → K × V
  pair_of e = (e.key, e.value)

  -- an entry with another value
  abbrev pub giving_value : V → Entry K V → Entry K V
  giving_value value e = record e { value = value }

  -- an entry with another key and value
  abbrev pub giving_pair : K → V → Entry K V → Entry K V
  giving_pair key value e = record e { key = key; value = value }

  -- the pairs, in the order of their slots
  abbrev pub pairs_of : List (Option (Entry K V)) → List (K × V)
  pairs_of slots = filter_map (λ slot. option_map pair_of slot) slots

  -- the slots with the entry of one of them changed; a free one stays free
  abbrev pub changed : (Entry K V → Entry K V) → List (Option (Entry K V)) → ℕ → List (Option (Entry K V))
  changed change slots i = slice_set slots i (option_map change (at slots i))
