-- The place that the code reads at a thread's number.
use Rattle.std.proofs.Common.{◌≡◌, ℕ, ◌<◌, List, [], ◌∷◌, length, map, get_or, Some, slice_get, refl, sym, ap, ◌∙◌}
use Rattle.std.proofs.Common.{subst}
use Rattle.std.proofs.lemmas.List.{length-map}
use Rattle.dashmap_table.specs.Table.{Table}
use Rattle.mapworld_state.specs.Shards.{shard_pairs}
use Rattle.std.proofs.lemmas.Option.{slice_get_read, same_Some}
use Rattle.mapworld_state.specs.declared.holds.Hold.{Hold}
use Rattle.mapworld_state.specs.declared.place.Phase.{Phase}
use Rattle.mapworld_state.specs.declared.place.Place.{Place as KeptPlace}
use Rattle.mapworld_state.specs.Places.{Place, place_of}
use Rattle.mapworld_state.specs.Core.{IsBefore}
use Rattle.mapworld_state.proofs.Views.{view-at, view-from}
use Rattle.mapworld_transitions.proofs.Facts.{read_at}
use Rattle.std.proofs.Common.{inl, inr, arith}
use Rattle.std.proofs.lemmas.Option.{slice_get_cases}

-- there is a place for each thread
pub kept-there : {X : Type 0} (places : List X) (t : ℕ) → t < length places → (p : X) × (slice_get places t ≡ Some p)
kept-there places t within = elim (slice_get_cases places t).1
    [ inl in_ ↦ (in_.0, in_.2) | inr out ↦ absurd (omega (arith, within, out.0)) ]

-- a thread that stands before a phase
module _ {K V D T A : Type 0} (places : List (KeptPlace K V D T A)) {t : ℕ} {ph : Phase K V D T A}
    (b : IsBefore (map place_of places) t ph) (r : KeptPlace K V D T A) (read : r ≡ get_or places t r) where
  pub kept_here : slice_get places t ≡ Some r
  kept_here =
      let v = view-from place_of places t b.place b.stands in
      v.1 ∙ ap (λ (p : KeptPlace K V D T A). Some p) (sym (read_at places t v.0 r v.1 read))

  pub stands_here : slice_get (map place_of places) t ≡ Some (place_of r)
  stands_here = view-at place_of places t r kept_here

  pub phase_here : r.phase ≡ ph
  phase_here = ap (λ (p : Place K V D T A). p.phase) (same_Some (place_of r) b.place (sym stands_here ∙ b.stands))
      ∙ b.before

-- a place that was read, before its phase
pub is_before : {K V D T A : Type 0} (places : List (KeptPlace K V D T A)) (t : ℕ) (r : KeptPlace K V D T A)
    (ph : Phase K V D T A)
    → t < length places → r ≡ get_or places t r → r.phase ≡ ph → IsBefore (map place_of places) t ph
is_before places t r ph within read before =
    record {
      place = place_of r;
      stands = view-at place_of places t r (slice_get_read places (length places) t r refl within read);
      before = before;
    }

-- a hold is the only one where there is one
pub only_hold : (hs : List Hold) (a b : Hold) (more : List Hold) → hs ≡ a ∷ more → hs ≡ b ∷ [] → (a ≡ b) × (more ≡ [])
only_hold hs a b more first one = let both : a ∷ more ≡ b ∷ [] = sym first ∙ one in (cc, cc)

-- the shard that was read at a number that is one's
pub shard-read : {K V : Type 0} (tables : List (Table K V)) (i : ℕ) (r : Table K V)
    → i < length (map shard_pairs tables) → r ≡ get_or tables i r → slice_get tables i ≡ Some r
shard-read tables i r fits read = slice_get_read tables (length tables) i r refl
    (subst (λ n. i < n) (length-map tables shard_pairs) fits) read
