-- What the map's calls with `()` tell of keys.
use Rattle.std.specs.Prelude.{◌≡◌, ℕ, Bool, true, false, Option, None, Some, Result, Ok, Err, IfNone, IfSome}
use Rattle.std.specs.Prelude.{if◌then◌else◌}
use Rattle.std.specs.Borrow.{Bor}
use Rattle.std.specs.Fn.{Once, FnOnceReturnsAt}
use Rattle.std.specs.Option.{option_map}
use Rattle.dashmap_table.specs.Slots.{pair_of, slot_of, entry_of}
use Rattle.dashmap_table.specs.Table.{Table, TakesOut}

module _ {K : Type 0} where
  -- a key is new where its insertion finds no value; a refused one comes back
  abbrev pub is_new : Result (Option (Unit {0})) (K × Unit {0}) → Result Bool K
  is_new (Ok None) = Ok true
  is_new (Ok (Some unit)) = Ok false
  is_new (Err pair) = Err pair.0

  -- a key is in, new or not; a refused one comes back
  abbrev pub is_put : Result (Option (Unit {0})) (K × Unit {0}) → Result (Unit {0}) K
  is_put (Ok had) = Ok tt
  is_put (Err pair) = Err pair.0

  -- the key of a pair
  abbrev pub key_of : Option (K × Unit {0}) → Option K
  key_of pair = option_map (λ p. p.0) pair

  -- the pair of the key is taken out where f answers true of the stored key; else nothing changes
  abbrev pub RemovesKeyIf : {F : Type 0} → (K → K → Bool) → Once F (Bor K × Unit {0}) Bool → F → Table K (Unit {0})
      → Table K (Unit {0}) → ℕ → K → Option (K × Unit {0}) → Type 0
  RemovesKeyIf eq g f old new hash key pair =
      IfNone (slot_of eq old.slots hash key) (pair ≡ None)
      × IfSome (entry_of eq old.slots hash key) (λ e. (answer : Bool) × FnOnceReturnsAt g f e.key answer
      × (pair ≡ (if answer then Some (pair_of e) else None)))
      × IfNone pair (new ≡ old) × IfSome pair (λ _. TakesOut eq old new hash key)
