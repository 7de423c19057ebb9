-- Which calls stand in a list of all threads after a step: whoever is in a call was in one before, at the same place.
-- It is said of any machine.
use Rattle.std.proofs.Common.{◌≡◌, ◌≢◌, ◌⊎◌, ℕ, inl, inr, List, map, length, Option, Some, None, slice_get, slice_set}
use Rattle.std.proofs.Common.{refl, sym, ap, ◌∙◌}
use Rattle.std.specs.Option.{option_and_then, option_map}
use Rattle.std.proofs.lemmas.Bool.{cases_eq}
use Rattle.std.proofs.lemmas.Option.{none-some, same_Some, slice_get-map}
use Rattle.std.proofs.lemmas.List.{length-set, length-map}
use Rattle.parking_lot_rules.proofs.Slots.{at_slot as call_of, read_back, set_elsewhere}

module _ {C : Type 0} (place : C → ℕ) where
  -- one in a call there that goes on as d
  pub record Was (o : Option C) (d : C) : Type 0 where
    pub call : C
    pub is : o ≡ Some call
    pub there : place call ≡ place d

  -- nobody has begun a call
  pub record Stays (a b : List (Option C)) : Type 0 where
    pub from : (t : ℕ) (d : C) → call_of b t ≡ Some d → Was (call_of a t) d
    pub count : length b ≡ length a

  -- whoever is in a call after one slot is written is the one of the slot, or stands elsewhere
  pub set_cases : (calls : List (Option C)) (t v : ℕ) (o : Option C) (d : C) → call_of (slice_set calls t o) v ≡ Some d
      → ((v ≡ t) × (o ≡ Some d)) ⊎ ((v ≢ t) × (call_of calls v ≡ Some d))
  set_cases calls t v o d at = elim (cases_eq v t) [
    | inl e ↦ inl (e, read_back calls t o d (ap (call_of (slice_set calls t o)) (sym e) ∙ at))
    | inr ne ↦ inr (ne, sym (set_elsewhere calls t v o ne) ∙ at)
  ]

  pub itself : (calls : List (Option C)) → Stays calls calls
  itself calls = record { from = λ t d at. record { call = d; is = at; there = refl }; count = refl }

  pub both : (a b c : List (Option C)) → Stays a b → Stays b c → Stays a c
  both a b c f g = record {
    from = λ t d at. (let y = g.from t d at in let x = f.from t y.call y.is in
        record { call = x.call; is = x.is; there = x.there ∙ y.there });
    count = g.count ∙ f.count;
  }

  -- one call goes on, or ends
  pub set_stays : (calls : List (Option C)) (t : ℕ) (o : Option C) → ((d : C) → o ≡ Some d → Was (call_of calls t) d)
      → Stays calls (slice_set calls t o)
  set_stays calls t o was = record {
    from = λ v d at. elim (set_cases calls t v o d at) [
      | inl here ↦ (let x = was d here.1 in
          record { call = x.call; is = ap (call_of calls) here.0 ∙ x.is; there = x.there })
      | inr away ↦ record { call = d; is = away.1; there = refl }
    ];
    count = length-set calls t o;
  }

  pub next_stays : (calls : List (Option C)) (t : ℕ) (c d : C) → call_of calls t ≡ Some c → place c ≡ place d
      → Stays calls (slice_set calls t (Some d))
  next_stays calls t c d here there =
      set_stays calls t (Some d) (λ e is. record { call = c; is = here; there = there ∙ ap place (same_Some d e is) })

  pub end_stays : (calls : List (Option C)) (t : ℕ) → Stays calls (slice_set calls t None)
  end_stays calls t = set_stays calls t None (λ d is. absurd (none-some d is))

  map_was : (f : C → C) → ((c : C) → place c ≡ place (f c)) → (o : Option C) (d : C) → option_map f o ≡ Some d → Was o d
  map_was f same None d is = absurd (none-some d is)
  map_was f same (Some c) d is = record { call = c; is = refl; there = same c ∙ ap place (same_Some (f c) d is) }

  -- another's call is changed, where it is in one
  pub other_stays : (calls : List (Option C)) (t : ℕ) (f : C → C) → ((c : C) → place c ≡ place (f c))
      → Stays calls (slice_set calls t (option_map f (call_of calls t)))
  other_stays calls t f same = set_stays calls t (option_map f (call_of calls t)) (map_was f same (call_of calls t))

  -- and then the thread's own
  pub own_stays : (calls : List (Option C)) (v : ℕ) (o : Option C) (t : ℕ) (c d : C) → call_of calls t ≡ Some c
      → place c ≡ place d → Stays calls (slice_set calls v o) → Stays calls (slice_set (slice_set calls v o) t (Some d))
  own_stays calls v o t c d here there other = record {
    from = λ u e at. elim (set_cases (slice_set calls v o) t u (Some d) e at) [
      | inl own ↦ record {
        call = c;
        is = ap (call_of calls) own.0 ∙ here;
        there = there
            ∙ ap place (same_Some d e own.1);
      }
      | inr away ↦ other.from u e away.1
    ];
    count = length-set (slice_set calls v o) t (Some d) ∙ other.count;
  }

  map_of : (f : C → C) (calls : List (Option C)) (v : ℕ) → call_of (map (option_map f) calls) v ≡ option_map f
      (call_of calls v)
  map_of f calls v = ap (option_and_then (λ c. c)) (slice_get-map (option_map f) calls v) ∙ at (slice_get calls v)
    where
      at : (o : Option (Option C)) → option_and_then (λ c. c) (option_map (option_map f) o) ≡ option_map f
          (option_and_then (λ c. c) o)
      at None = refl
      at (Some x) = refl

  -- all calls are changed
  pub all_stay : (calls : List (Option C)) (f : C → C) → ((c : C) → place c ≡ place (f c))
      → Stays calls (map (option_map f) calls)
  all_stay calls f same = record {
    from = λ v d at. map_was f same (call_of calls v) d (sym (map_of f calls v) ∙ at);
    count = length-map calls (option_map f);
  }
