-- The opening pairs, put one after another into their shards.
use Rattle.std.proofs.Common.{◌≡◌, ◌≢◌, ℕ, zero, suc, ◌+◌, Bool, false, cond, not, if◌then◌else◌, List, [], ◌∷◌, ◌++◌}
use Rattle.std.proofs.Common.{length, map, Option, Some, None, is_some, slice_get, slice_set, IsTrue, refl, ap, sym}
use Rattle.std.proofs.Common.{◌∙◌, subst, inl, inr, arith, length-append}
use Rattle.std.specs.List.{flat_map}
use Rattle.std.specs.Cmp.{IsEquivalence}
use Rattle.std.specs.Hash.{HashWrites}
use Rattle.std.specs.declared.hash.BuildHasher as builder
use Rattle.std.specs.declared.hash.Hasher as hasher
use Rattle.std.proofs.lemmas.Bool.{cond-false, cases_Bool, false_from_ne_true}
use Rattle.std.proofs.lemmas.List.{map-set, length-map}
use Rattle.std.proofs.lemmas.List.Concat.{length-flat_map}
use Rattle.std.proofs.lemmas.Option.{none-some}
use Rattle.dashmap_table.specs.Shards.{put_over}
use Rattle.dashmap_table.specs.Slots as slots
use Rattle.dashmap_table.specs.Table.{Table}
use Rattle.mapworld_calls.specs.Pairs.{pair_of, opening_pair, AreDistinct}
use Rattle.mapworld_calls.proofs.Lists.{slice_get-set_cases, sum_by-set}
use Rattle.mapworld_state.specs.Shards.{ShardPairs, shard_pairs, number_of, Puts}
use Rattle.mapworld_state.specs.Route.{key_route}
use Rattle.mapworld_state.specs.Slots.{HasHashes}
use Rattle.mapworld_state.proofs.Tables.{pair_of-at, pair_of-is, AreDistinct-none}
use Rattle.mapworld_state.proofs.Views.{view-at, view-from}
use Rattle.mapworld.specs.Beginning.{AreFilled, AreHashed, pairs_in, AreEmpty}
use Rattle.mapworld.proofs.Openings.{opening_pair-put}

pub length-slice_set : {X : Type 0} (xs : List X) (i : ℕ) (y : X) → length (slice_set xs i y) ≡ length xs
length-slice_set [] i y = refl
length-slice_set (x ∷ xs) zero y = refl
length-slice_set (x ∷ xs) (suc i) y = ap (λ n. suc n) (length-slice_set xs i y)

-- a shard without slots has no pairs
no_items : {K V : Type 0} (tables : List (Table K V)) → AreEmpty tables → (i : ℕ) (table : ShardPairs K V)
    → slice_get (map shard_pairs tables) i ≡ Some table → table.items ≡ []
no_items {K} {V} tables empty i table at =
    let r = view-from shard_pairs tables i table at in
    ap (λ (t : ShardPairs K V). t.items) (sym r.2) ∙ ap (λ xs. slots.pairs_of xs) (empty i r.0 r.1)

pub AreHashed-none : {K V : Type 0} (hash : K → ℕ) (tables : List (Table K V)) → AreEmpty tables → AreHashed hash tables
AreHashed-none hash tables empty i table at j e there = absurd
    (none-some e (ap (λ xs. slots.at xs j) (sym (empty i table at)) ∙ there))

pub AreHashed-set : {K V : Type 0} (hash : K → ℕ) (tables : List (Table K V)) (i : ℕ) (table new : Table K V)
    → slice_get tables i ≡ Some table → AreHashed hash tables → HasHashes hash new
    → AreHashed hash (slice_set tables i new)
AreHashed-set {K} {V} hash tables i table new here before behind j t at =
    elim (slice_get-set_cases tables i j table t new here at) [
      | inl n ↦ subst (λ (v : Table K V). HasHashes hash v) (sym n.1) behind
      | inr o ↦ before j t o.1
    ]

module _ {K V : Type 0} (eq : K → K → Bool) (laws : IsEquivalence eq) (route : K → ℕ)
    (routes : (j k : K) → IsTrue (eq j k) → route j ≡ route k) where
  -- before the first pair
  pub AreFilled-none : (tables : List (Table K V)) → AreEmpty tables → AreFilled eq route [] (map shard_pairs tables)
  AreFilled-none tables empty = record {
    routed = λ i j table p at here. absurd (none-some p
        (ap (λ (l : List (K × V)). slice_get l j) (sym (no_items tables empty i table at)) ∙ here));
    distinct = λ i table at. subst (λ (l : List (K × V)). AreDistinct eq l) (sym (no_items tables empty i table at))
        (AreDistinct-none {V = V} eq laws);
    contents_are = λ q table at. ap (λ (l : List (K × V)). pair_of eq l q) (no_items tables empty (route q) table at);
  }

  module _ (ps : List (K × V)) (tables : List (ShardPairs K V)) (table new : ShardPairs K V) (key : K) (value : V)
      (filled : AreFilled eq route ps tables)
      (at : slice_get tables (route key) ≡ Some table)
      (puts : Puts eq table new key (Some (put_over (pair_of eq table.items key) key value))) where
    -- what all pairs open with, and what the key's shard has
    open' : (q : K) → opening_pair eq (ps ++ (key, value) ∷ [])
        q ≡ (if eq key q then Some (put_over (pair_of eq table.items key) key value) else opening_pair eq ps q)
    open' q = opening_pair-put eq laws ps key value (pair_of eq table.items key)
        (sym (filled.contents_are key table at)) q

    here_contents : (q : K) → route q ≡ route key → pair_of eq new.items q ≡ opening_pair eq (ps ++ (key, value) ∷ []) q
    here_contents q same =
        puts.found q
        ∙ (ap (λ (o : Option (K × V)). cond (eq key q) (Some (put_over (pair_of eq table.items key) key value)) o)
        (filled.contents_are q table (ap (λ i. slice_get tables i) same ∙ at))
        ∙ sym (open' q))

    other_contents : (q : K) (t : ShardPairs K V) → route q ≢ route key → slice_get tables (route q) ≡ Some t
        → pair_of eq t.items q ≡ opening_pair eq (ps ++ (key, value) ∷ []) q
    other_contents q t ne there =
        let unequal : eq key q ≡ false = false_from_ne_true (eq key q) (λ e. ne (sym (routes key q e))) in
        filled.contents_are q t there
        ∙ sym (open' q ∙ cond-false (eq key q) (Some (put_over (pair_of eq table.items key) key value))
        (opening_pair eq ps q) unequal)

    -- a pair of the shard is at an equal key, or was there
    keys : (j : ℕ) (p : K × V) → slice_get new.items j ≡ Some p → route p.0 ≡ route key
    keys j p here =
        let own = pair_of-at eq laws new.items j p p.0 puts.distinct here (laws.refl p.0) in
        elim (cases_Bool (eq key p.0)) [
          | inl e ↦ sym (routes key p.0 e)
          | inr e ↦
              let was = sym (cond-false (eq key p.0) (Some (put_over (pair_of eq table.items key) key value))
              (pair_of eq table.items p.0) e) ∙ (sym (puts.found p.0) ∙ own) in
              let r = pair_of-is eq laws table.items p.0 p was in
              filled.routed (route key) r.0 table p at r.1
        ]

    with_new : AreFilled eq route (ps ++ (key, value) ∷ []) (slice_set tables (route key) new)
    with_new = record {
      routed = λ i j t p there here.
          elim (slice_get-set_cases tables (route key) i table t new at there) [
            | inl n ↦ keys j p (ap (λ (v : ShardPairs K V). slice_get v.items j) (sym n.1) ∙ here) ∙ sym n.0
            | inr o ↦ filled.routed i j t p o.1 here
          ];
      distinct = λ i t there.
          elim (slice_get-set_cases tables (route key) i table t new at there) [
            | inl n ↦ subst (λ (v : ShardPairs K V). AreDistinct eq v.items) (sym n.1) puts.distinct
            | inr o ↦ filled.distinct i t o.1
          ];
      contents_are = λ q t there.
          elim (slice_get-set_cases tables (route key) (route q) table t new at there) [
            | inl n ↦ ap (λ (v : ShardPairs K V). pair_of eq v.items q) n.1 ∙ here_contents q n.0
            | inr o ↦ other_contents q t o.0 o.1
          ];
    }

  -- one pair more
  pub AreFilled-put : (ps : List (K × V)) (tables : List (Table K V)) (table new : Table K V) (key : K) (value : V)
      (shard : ℕ) → AreFilled eq route ps (map shard_pairs tables) → shard ≡ route key
      → slice_get tables shard ≡ Some table → Puts eq (shard_pairs table) (shard_pairs new) key
      (Some (put_over (pair_of eq (shard_pairs table).items key) key value))
      → AreFilled eq route (ps ++ (key, value) ∷ []) (map shard_pairs (slice_set tables shard new))
  AreFilled-put ps tables table new key value shard filled is at puts =
      let there = view-at shard_pairs tables shard table at in
      subst (λ (ts : List (ShardPairs K V)). AreFilled eq route (ps ++ (key, value) ∷ []) ts)
      (sym (map-set shard_pairs tables shard new))
      (subst (λ i. AreFilled eq route (ps ++ (key, value) ∷ [])
      (slice_set (map shard_pairs tables) i (shard_pairs new))) (sym is)
      (with_new ps (map shard_pairs tables) (shard_pairs table) (shard_pairs new) key value filled
      (ap (λ i. slice_get (map shard_pairs tables) i) (sym is) ∙ there) puts))

number_more : {X : Type 0} (o : Option X) (n m : ℕ) → n + number_of o ≡ m + 1 → n ≡ m + cond (not (is_some o)) 1 0
number_more None n m h = omega (arith, h)
number_more (Some x) n m h = omega (arith, h)

-- how many pairs there are then
pub pairs_in-put : {K V : Type 0} (eq : K → K → Bool) (tables : List (Table K V)) (table new : Table K V) (key : K)
    (r : K × V) (shard : ℕ) (more : Bool) → slice_get tables shard ≡ Some table
    → Puts eq (shard_pairs table) (shard_pairs new) key (Some r)
    → more ≡ not (is_some (pair_of eq (shard_pairs table).items key))
    → pairs_in (map shard_pairs (slice_set tables shard new)) ≡ pairs_in (map shard_pairs tables) + cond more 1 0
pairs_in-put {K} {V} eq tables table new key r shard more at puts is =
    let seen = map shard_pairs tables in
    let longer = number_more (pair_of eq (shard_pairs table).items key) _ _ puts.counted
    ∙ ap (λ b. length (shard_pairs table).items + cond b 1 0) (sym is) in
    let before = length-flat_map (λ (t : ShardPairs K V). t.items) seen in
    let behind = length-flat_map (λ (t : ShardPairs K V). t.items) (slice_set seen shard (shard_pairs new)) in
    let sums = sum_by-set (λ (t : ShardPairs K V). length t.items) seen shard (shard_pairs table) (shard_pairs new)
    (view-at shard_pairs tables shard table at) in
    let same = ap (λ (ts : List (ShardPairs K V)). pairs_in ts) (map-set shard_pairs tables shard new) in
    omega (arith, longer, before, behind, sums, same)

pub pairs_in-none : {K V : Type 0} (tables : List (Table K V)) → AreEmpty tables → pairs_in (map shard_pairs tables) ≡ 0
pairs_in-none [] empty = refl
pairs_in-none {K} {V} (t ∷ ts) empty =
    let first : length (shard_pairs t).items ≡ 0 = ap (λ xs. length (slots.pairs_of xs)) (empty 0 t refl) in
    let rest = pairs_in-none ts (λ i table at. empty (suc i) table at) in
    let both = length-append (shard_pairs t).items (flat_map (λ (v : ShardPairs K V). v.items) (map shard_pairs ts)) in
    omega (arith, first, rest, both)

-- the route of a key is by how many shards are seen
pub AreFilled-seen : {K V S H : Type 0} (b : builder.Ghosts S H) (h : hasher.Ghosts H) (writes : K → HashWrites)
    (hasher : S) (eq : K → K → Bool) (ps : List (K × V)) (tables : List (Table K V))
    → AreFilled eq (key_route b h writes hasher (length tables)) ps (map shard_pairs tables)
    → AreFilled eq (key_route b h writes hasher (length (map shard_pairs tables))) ps (map shard_pairs tables)
AreFilled-seen b h writes hasher eq ps tables filled =
    subst (λ n. AreFilled eq (key_route b h writes hasher n) ps (map shard_pairs tables))
    (sym (length-map tables shard_pairs)) filled
