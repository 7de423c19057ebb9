-- What a call leaves in a slot of a shard, and hashes that go with the keys' equality.
use Rattle.std.specs.Prelude.{◌≡◌, ℕ, Bool, Option, Some, None, IsTrue}
use Rattle.dashmap_table.specs.Table.{Table, Frees, with_pair}

-- the slot has that pair in place of its own, or is free; no other slot changes, and no room is lost
abbrev pub LeavesAt : {K V : Type 0} → Table K V → Table K V → ℕ → Option (K × V) → Type 0
LeavesAt old new slot None = Frees old new slot
LeavesAt old new slot (Some p) = new ≡ with_pair old slot p.0 p.1

-- equal keys have one hash
abbrev pub HashesAlike : {K : Type 0} → (K → K → Bool) → (K → ℕ) → Type 0
HashesAlike {K} eq hash = (j k : K) → IsTrue (eq j k) → hash j ≡ hash k
