-- What the views of a world show, from what holds of it.
use Rattle.std.proofs.Common.{◌≡◌, ℕ, List, map, Option, Some, slice_get, ap, sym, ◌∙◌, subst, inl, inr}
use Rattle.std.specs.List.{flat_map}
use Rattle.std.specs.Option.{option_and_then, option_map}
use Rattle.mapworld_state.specs.Shards.{ShardPairs, shard_pairs}
use Rattle.dashmap_table.specs.Table.{Table}
use Rattle.dashmap_view.specs.Views.{all_pairs}
use Rattle.std.proofs.lemmas.List.Folds.{flat_map-map}
use Rattle.std.proofs.lemmas.Option.{none-some, same_Some, slice_get-map}
use Rattle.mapworld_calls.specs.Setup.{Setup, Laws}
use Rattle.mapworld_calls.specs.Pairs.{pair_of, AreDistinct}
use Rattle.mapworld_calls.specs.declared.block.Block.{Block}
use Rattle.mapworld.specs.Tables.{joined, AreRouted, AreEachDistinct}
use Rattle.mapworld_state.specs.Sound.{TablesAgree}
use Rattle.dashmap_table.proofs.Cases.{option_cases}
use Rattle.mapworld.proofs.Joins.{AreDistinct-joined, pair_of-joined}

-- the pairs of all shards are those that contracts see
pub seen-pairs : {K V : Type 0} (tables : List (Table K V))
    → all_pairs tables ≡ flat_map (λ (t : ShardPairs K V). t.items) (map shard_pairs tables)
seen-pairs {K} {V} tables = sym (flat_map-map (λ (t : ShardPairs K V). t.items) shard_pairs tables)

-- a mapped list's elements
pub map_at : {X Y : Type 0} (f : X → Y) (xs : List X) (i : ℕ) (y : Y) → slice_get (map f xs) i ≡ Some y → (x : X)
    × (slice_get xs i ≡ Some x) × (f x ≡ y)
map_at f xs i y at = elim (option_cases (slice_get xs i)) [
  | inl none ↦ absurd (none-some y (sym (slice_get-map f xs i ∙ ap (λ o. option_map f o) none) ∙ at))
  | inr some ↦
      (some.0, some.1, same_Some (f some.0) y (sym (slice_get-map f xs i ∙ ap (λ o. option_map f o) some.1) ∙ at))
]

pub map_to : {X Y : Type 0} (f : X → Y) (xs : List X) (i : ℕ) (x : X) → slice_get xs i ≡ Some x
    → slice_get (map f xs) i ≡ Some (f x)
map_to f xs i x at = slice_get-map f xs i ∙ ap (λ o. option_map f o) at

module _ {K V D T : Type 0} (x : Setup K V D T) (bs : List (Block K)) (tables : List (ShardPairs K V))
    (laws : Laws x) (agree : TablesAgree x bs tables) where
  pairs_are : flat_map (λ (t : ShardPairs K V). t.items) tables ≡ joined (map (λ t. t.items) tables)
  pairs_are = sym (flat_map-map (λ (table : List (K × V)). table) (λ (t : ShardPairs K V). t.items) tables)

  routed : AreRouted x.route (map (λ t. t.items) tables)
  routed i j table p at here =
      let r = map_at (λ (t : ShardPairs K V). t.items) tables i table at in
      agree.routed i j r.0 p r.1 (ap (λ (l : List (K × V)). slice_get l j) r.2 ∙ here)

  each : AreEachDistinct x.eq (map (λ t. t.items) tables)
  each i table at =
      let r = map_at (λ (t : ShardPairs K V). t.items) tables i table at in
      subst (λ (l : List (K × V)). AreDistinct x.eq l) r.2 (agree.distinct i r.0 r.1)

  -- all pairs have distinct keys
  pub pairs_distinct : AreDistinct x.eq (flat_map (λ t. t.items) tables)
  pairs_distinct =
      subst (λ (l : List (K × V)). AreDistinct x.eq l) (sym pairs_are)
      (AreDistinct-joined x.eq laws.equivalence x.route (map (λ t. t.items) tables) laws.routes routed each)

  -- a key's pair is the one in its shard's table
  pub pair_at_route : (q : K) (table : ShardPairs K V) → slice_get tables (x.route q) ≡ Some table
      → pair_of x.eq (flat_map (λ t. t.items) tables) q ≡ pair_of x.eq table.items q
  pair_at_route q table at =
      ap (λ (l : List (K × V)). pair_of x.eq l q) pairs_are
      ∙ (pair_of-joined x.eq laws.equivalence x.route (map (λ t. t.items) tables) laws.routes routed each q
      ∙ ap (λ (o : Option (List (K × V))). option_and_then (λ ps. pair_of x.eq ps q) o)
      (map_to (λ (t : ShardPairs K V). t.items) tables (x.route q) table at))

  -- what was found in the table of the key's shard is found among all pairs
  pub pair_in_shard : (q : K) (shard : ℕ) (table : ShardPairs K V) (ps : List (K × V)) (o : Option (K × V))
      → shard ≡ x.route q → slice_get tables shard ≡ Some table → ps ≡ table.items → o ≡ pair_of x.eq ps q
      → o ≡ pair_of x.eq (flat_map (λ t. t.items) tables) q
  pair_in_shard q shard table ps o route at same is =
      is
      ∙ (ap (λ (l : List (K × V)). pair_of x.eq l q) same
      ∙ sym (pair_at_route q table (ap (λ i. slice_get tables i) (sym route) ∙ at)))
