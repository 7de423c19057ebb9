-- Lists of pairs, seen as the contents of a map up to the keys' equality.
use Rattle.std.specs.Prelude.{◌≡◌, ℕ, Bool, List, Option, Some, None, slice_get, reverse, IsTrue}
use Rattle.std.specs.List.{find}

-- whether the pair is the key's
abbrev pub has_key : {K V : Type 0} → (K → K → Bool) → K → K × V → Bool
has_key eq q p = eq p.0 q

-- the key's pair, if there is one
abbrev pub pair_of : {K V : Type 0} → (K → K → Bool) → List (K × V) → K → Option (K × V)
pair_of eq pairs q = find (has_key eq q) pairs

-- no two pairs have equal keys
abbrev pub AreDistinct : {K V : Type 0} → (K → K → Bool) → List (K × V) → Type 0
AreDistinct {K} {V} eq pairs =
    (i j : ℕ) (p r : K × V) → slice_get pairs i ≡ Some p → slice_get pairs j ≡ Some r → IsTrue (eq p.0 r.0) → i ≡ j

-- the first's key with the last's value
abbrev pub key_and_value : {K V : Type 0} → Option (K × V) → Option (K × V) → Option (K × V)
key_and_value (Some first) (Some last) = Some (first.0, last.1)
key_and_value (Some first) None = None
key_and_value None last = None

-- what a world opens with at a key: of the pairs with equal keys the first key and the last value
abbrev pub opening_pair : {K V : Type 0} → (K → K → Bool) → List (K × V) → K → Option (K × V)
opening_pair eq pairs q = key_and_value (pair_of eq pairs q) (pair_of eq (reverse pairs) q)
