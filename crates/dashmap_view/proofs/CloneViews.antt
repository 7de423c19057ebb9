-- Clones of the shards of a view.
use Rattle.std.proofs.Common.{◌≡◌, ℕ, ◌<◌, ◌≤◌, Bool, List, length, Some, refl, sym, ap, subst, ◌∙◌, inl, inr, arith}
use Rattle.std.specs.Cmp.{IsEquivalence}
use Rattle.std.specs.List.{AllZip}
use Rattle.std.specs.Option.{option_map}
use Rattle.std.specs.Hash.{HashWrites}
use Rattle.std.specs.declared.hash.BuildHasher as builder
use Rattle.std.specs.declared.hash.Hasher as hasher
use Rattle.std.proofs.lemmas.Bool.{cases_lt}
use Rattle.std.proofs.lemmas.List.{get_or_past}
use Rattle.std.proofs.lemmas.List.Elements.{AllZip-get_or}
use Rattle.std.proofs.lemmas.Slice.Zip.{AllZip-long}
use Rattle.dashmap_table.specs.declared.entry.Entry.{Entry}
use Rattle.dashmap_table.specs.Route.{IsShardAmount, route_of}
use Rattle.dashmap_table.specs.Slots.{at, pair_of, entry_of}
use Rattle.dashmap_table.specs.Table.{Table}
use Rattle.dashmap_table.specs.Shards.{Tables, AreSharded, table_at, no_pairs, key_hash, key_shard, pair_at}
use Rattle.dashmap_table.proofs.Finding.{entry_of-at, entry_of-is, holds-own}
use Rattle.dashmap_view.specs.Clones.{IsCloneOf}
use Rattle.dashmap_view.proofs.Homes.{no_pairs-sound}

module _ {K V : Type 0} (eq : K → K → Bool) (old new : List (Table K V)) (cloned : AllZip (IsCloneOf eq) old new) where
  as_many : length new ≡ length old
  as_many = AllZip-long (IsCloneOf eq) old new cloned

  -- a clone stands at each number; behind the last stands a shard without slots
  clone-at : (i : ℕ) → IsCloneOf eq (table_at old i) (table_at new i)
  clone-at i = elim (cases_lt i (length old)) [
    | inl here ↦ AllZip-get_or (IsCloneOf eq) old new i no_pairs no_pairs cloned here
    | inr behind ↦
        subst (λ (t : Table K V). IsCloneOf eq t (table_at new i)) (sym (get_or_past old i no_pairs behind))
        (subst (λ (t : Table K V). IsCloneOf eq no_pairs t)
        (sym (get_or_past new i no_pairs (omega (arith, behind, as_many))))
        (record { pairs = record { found = λ h k. refl; counted = refl }; sound = no_pairs-sound eq }))
  ]

  module _ {S H : Type 0} (b : builder.Ghosts S H) (h : hasher.Ghosts H) (input : K → HashWrites) (s : S) where
    abbrev with_tables : List (Table K V) → Tables K V S
    with_tables tables = record { tables = tables; hasher = s }

    -- a key has the same shard
    same_shard : (k : K) → key_shard b h input (with_tables new) k ≡ key_shard b h input (with_tables old) k
    same_shard k = ap (λ n. route_of (key_hash b h input s k) n) as_many

    -- every key finds what it found
    pub pairs-cloned : (k : K) → pair_at b h input eq (record { tables = new; hasher = s }) k ≡ pair_at b h input eq
        (record { tables = old; hasher = s }) k
    pairs-cloned k =
        ap (λ n. option_map pair_of (entry_of eq (table_at new n).slots (key_hash b h input s k) k)) (same_shard k)
        ∙ ap (option_map pair_of)
        ((clone-at (key_shard b h input (with_tables old) k)).pairs.found (key_hash b h input s k) k)

    -- each pair is where it was
    pub sharded-cloned : IsEquivalence eq → AreSharded b h input eq (record { tables = old; hasher = s })
        → AreSharded b h input eq (record { tables = new; hasher = s })
    sharded-cloned laws sharded = record {
      amount = subst IsShardAmount (sym as_many) sharded.amount;
      sound = λ i. (clone-at i).sound;
      routed = λ i slot e here.
          let clone = clone-at i in
          let found : entry_of eq (table_at new i).slots e.hash e.key ≡ Some e =
          entry_of-at eq laws (table_at new i).slots clone.sound.distinct e.hash e.key slot e here
          (holds-own eq laws e) in
          let was = entry_of-is eq (table_at old i).slots e.hash e.key e (sym (clone.pairs.found e.hash e.key) ∙ found)
          in
          let home = sharded.routed i was.0 e was.2 in
          (home.0, same_shard e.key ∙ home.1);
    }
