-- Maps that are made with room for a capacity.
use Rattle.std.proofs.Common.{◌≡◌, ℕ, Result, Ok, Err, IfOk, length, sym, ap, ◌∙◌, subst}
use Rattle.dashmap_table.specs.Route.{share_of}
use Rattle.dashmap_table.specs.Table.{Table}
use Rattle.dashmap_map.specs.Locked.{Locked}
use Rattle.dashmap_map.specs.Owner.{IsFresh, EachBehind, HasRoom}

module _ {K V Q S E : Type 0} (put : Q → Table K V → Type 0) (capacity amount share : ℕ)
    (is : share ≡ share_of capacity amount) where
  -- the share of each of so many shards is that of the map
  pub has_room : (made : Result (Locked Q S) E) → IfOk made (λ m. length m.locks ≡ amount)
      → IfOk made (λ m. EachBehind put (IsFresh share) m.locks) → IfOk made (HasRoom put capacity)
  has_room (Ok m) many fresh =
      subst (λ n. EachBehind put (IsFresh n) m.locks) (is ∙ ap (share_of capacity) (sym many)) fresh
  has_room (Err e) many fresh = tt

-- two facts of what is made
pub both_ok : {M E : Type 0} (A B : M → Type 0) (made : Result M E) → IfOk made A → IfOk made B
    → IfOk made (λ m. A m × B m)
both_ok A B (Ok m) a b = (a, b)
both_ok A B (Err e) a b = tt
