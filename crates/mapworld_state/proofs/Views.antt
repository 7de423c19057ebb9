-- A list of what the code keeps, and the list of what contracts see of it.
use Rattle.std.proofs.Common.{◌≡◌, ℕ, List, map, Option, Some, None, slice_get, refl, ap, sym, ◌∙◌}
use Rattle.std.specs.Option.{option_map}
use Rattle.std.proofs.lemmas.Option.{none-some, same_Some, slice_get-map}

module _ {X Y : Type 0} (view : X → Y) where
  -- what stands at a place is seen there
  pub view-at : (xs : List X) (i : ℕ) (x : X) → slice_get xs i ≡ Some x → slice_get (map view xs) i ≡ Some (view x)
  view-at xs i x at = slice_get-map view xs i ∙ ap (option_map view) at

  kept : (o : Option X) (y : Y) → option_map view o ≡ Some y → (x : X) × (o ≡ Some x) × (view x ≡ y)
  kept None y h = absurd (none-some y h)
  kept (Some x) y h = (x, refl, same_Some (view x) y h)

  -- and what is seen at a place stands there
  pub view-from : (xs : List X) (i : ℕ) (y : Y) → slice_get (map view xs) i ≡ Some y → (x : X)
      × (slice_get xs i ≡ Some x) × (view x ≡ y)
  view-from xs i y at = kept (slice_get xs i) y (sym (slice_get-map view xs i) ∙ at)
