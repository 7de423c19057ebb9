-- Walks that lend pairs: where a walk is, and what a call of `next` does.
use Rattle.std.specs.Prelude.{◌≡◌, ℕ, zero, suc, ◌+◌, ◌*◌, ◌-◌, ◌^◌, ◌≤◌, Bool, true, false, cond, List, [], length}
use Rattle.std.specs.Prelude.{Option, Some, None, Result, Ok, Err, slice_get}
use Rattle.std.specs.Option.{option_map}
use Rattle.crossbeam_utils.specs.declared.cache_padded.CachePadded.{CachePadded}
use Rattle.crossbeam_utils.specs.Padded.{padded_value}
use Rattle.dashmap_table.specs.declared.entry.Entry.{Entry}
use Rattle.dashmap_table.specs.Slots.{at, IsNextFull}
use Rattle.dashmap_table.specs.Table.{Table, IsSound}

-- a walk over the shards of a map, each behind its lock, where G is the type of guards
pub record Walk (Q G : Type 0) : Type 0 where
  pub locks : List (CachePadded Q)
  -- the number of the shard that it takes next
  pub next : ℕ
  -- the guard of the shard that it holds
  pub held : Option G
  -- the slot of that shard from which it goes on
  pub from : ℕ
  -- whether there was no memory for an item
  pub failed : Bool

-- the slots of a shard that is held
abbrev pub slots_held : {K V G : Type 0} → (G → Table K V) → Option G → List (Option (Entry K V))
slots_held table None = []
slots_held table (Some guard) = (table guard).slots

module _ {K V Q G : Type 0} (table : G → Table K V) where
  -- no pair is left in the shard that is held
  abbrev pub IsThrough : Walk Q G → Type 0
  IsThrough w = (i : ℕ) → w.from ≤ i → at (slots_held table w.held) i ≡ None

  -- how many items may be left: each shard has less than 2 ^ 63 slots
  abbrev pub left : Walk Q G → ℕ
  left w = (length w.locks - w.next) * 2 ^ 63 + (length (slots_held table w.held) - w.from) + cond w.failed 0 1

-- a hold of that lock was had by some wait, and showed the table
abbrev pub by_some_wait : {Q Party T : Type 0} → (Q → Party → Party → T → Type 0) → Q → T → Type 0
by_some_wait {Q} {Party} {T} showed lock table = (from : Party) × (to : Party) × showed lock from to table

module _ {K V Q G : Type 0} (eq : K → K → Bool) (table : G → Table K V) (lock : G → Q) (seen : Q → Table K V → Type 0) where
  -- the next shard is held, and no longer the last one
  pub record Enters (v w : Walk Q G) : Type 0 where
    pub guard : G
    pub taken : option_map padded_value (slice_get v.locks v.next) ≡ Some (lock guard)
    -- a hold of that lock showed this table
    pub shown : seen (lock guard) (table guard)
    -- so that no two slots of it have equal keys under one hash
    pub sound : IsSound eq (table guard)
    pub after : w ≡ record { locks = v.locks; next = v.next + 1; held = Some guard; from = 0; failed = v.failed }

  -- so many further shards were held, one after another, once no pair was left in the one before
  abbrev pub Passes : ℕ → Walk Q G → Walk Q G → Type 0
  Passes zero v w = v ≡ w
  Passes (suc n) v w = (u : Walk Q G) × Passes n v u × IsThrough table u × Enters u w

  -- the walk went on to u, and there lent the next pair of the shard that it holds
  pub record LendsPair (v : Walk Q G) (item : G × ℕ) (w : Walk Q G) : Type 0 where
    pub ready : v.failed ≡ false
    pub passed : ℕ
    pub stop : Walk Q G
    pub passes : Passes passed v stop
    pub held : stop.held ≡ Some item.0
    pub slot : IsNextFull (table item.0).slots stop.from item.1
    pub after : w ≡ record stop { from = item.1 + 1 }

  -- there was no memory for the next pair, and there is none for any other
  pub record Fails (v w : Walk Q G) : Type 0 where
    pub ready : v.failed ≡ false
    pub passed : ℕ
    pub stop : Walk Q G
    pub passes : Passes passed v stop
    pub after : w ≡ record stop { failed = true }

  -- no pair is left in any shard, unless the walk has failed before
  abbrev pub EndsAt : Bool → Walk Q G → Walk Q G → Type 0
  EndsAt true v w = w ≡ v
  EndsAt false v w = (passed : ℕ) × Passes passed v w × IsThrough table w × (length w.locks ≤ w.next)

  -- a call of `next` at v answers this and leaves w
  abbrev pub Gives : {E : Type 0} → Walk Q G → Option (Result (G × ℕ) E) → Walk Q G → Type 0
  Gives v None w = EndsAt v.failed v w
  Gives v (Some (Ok item)) w = LendsPair v item w
  Gives v (Some (Err e)) w = Fails v w
