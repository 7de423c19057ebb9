-- One thread and one table more of a new world.
use Rattle.std.proofs.Common.{◌≡◌, ℕ, List, [], ◌∷◌, ◌++◌, map, slice_get, refl, ap, sym, ◌∙◌, subst, inl, inr}
use Rattle.dashmap_table.specs.Table.{Table}
use Rattle.std.specs.declared.vec.Vec.{Vec}
use Rattle.std.proofs.lemmas.List.{map_push}
use Rattle.std.proofs.lemmas.Option.{none-some}
use Rattle.mapworld_calls.specs.declared.ask.Ask.{Ask}
use Rattle.mapworld_calls.proofs.Lists.{slice_get-push_cases}
use Rattle.mapworld_state.specs.Places.{Place, place_of}
use Rattle.mapworld_state.specs.declared.place.Place.{Place as KeptPlace}
use Rattle.mapworld.specs.Beginning.{at_start, AreAtStart, AreEmpty, HasLists, HaveLists}

pub AreEmpty-push : {K V : Type 0} (tables tables' : List (Table K V)) (table : Table K V) → AreEmpty tables
    → table.slots ≡ [] → tables' ≡ tables ++ table ∷ [] → AreEmpty tables'
AreEmpty-push {K} {V} tables tables' table empty none more i t at =
    elim (slice_get-push_cases tables i t table (ap (λ (ts : List (Table K V)). slice_get ts i) (sym more) ∙ at)) [
      | inl old ↦ empty i t old
      | inr new ↦ ap (λ (v : Table K V). v.slots) new.1 ∙ none
    ]

module _ {K V D T A : Type 0} where
  pub AreAtStart-none : (places : List (KeptPlace K V D T A)) → places ≡ []
      → AreAtStart {K = K} {V = V} {D = D} {T = T} {A = A} [] (map place_of places)
  AreAtStart-none places none =
      subst (λ (ps : List (KeptPlace K V D T A)). AreAtStart [] (map place_of ps)) (sym none)
      (record { programs_are = refl; each = λ t p at. absurd (none-some p at) })

  pub AreAtStart-push : (programs programs' : List (Vec (Ask K V D) A)) (places places' : List (KeptPlace K V D T A))
      (program : Vec (Ask K V D) A) (place : KeptPlace K V D T A)
      → AreAtStart (map (λ v. v.items) programs) (map place_of places) → place_of place ≡ at_start program.items
      → programs' ≡ programs ++ program ∷ [] → places' ≡ places ++ place ∷ []
      → AreAtStart (map (λ v. v.items) programs') (map place_of places')
  AreAtStart-push programs programs' places places' program place start begins more added =
      let seen : map place_of places' ≡ map place_of places ++ at_start program.items ∷ [] =
      ap (λ ps. map place_of ps) added ∙ (map_push place_of places place
      ∙ ap (λ (p : Place K V D T A). map place_of places ++ p ∷ []) begins) in
      record {
        programs_are =
            ap (λ (ps : List (Place K V D T A)). map (λ (p : Place K V D T A). p.asks) ps) seen
            ∙ (map_push (λ (p : Place K V D T A). p.asks) (map place_of places) (at_start program.items)
            ∙ (ap (λ l. l ++ program.items ∷ []) start.programs_are
            ∙ (sym (map_push (λ (v : Vec (Ask K V D) A). v.items) programs program)
            ∙ sym (ap (λ ps. map (λ (v : Vec (Ask K V D) A). v.items) ps) more))));
        each = λ t p at.
            elim (slice_get-push_cases (map place_of places) t p (at_start program.items)
            (ap (λ (ps : List (Place K V D T A)). slice_get ps t) (sym seen) ∙ at)) [
              | inl old ↦ start.each t p old
              | inr new ↦ new.1 ∙ ap (λ (l : List (Ask K V D)). at_start l)
                  (ap (λ (q : Place K V D T A). q.asks) (sym new.1))
            ];
      }

  pub HaveLists-none : (shards : ℕ) (places : List (KeptPlace K V D T A)) → places ≡ [] → HaveLists shards places
  HaveLists-none shards places none t p at = absurd
      (none-some p (sym (ap (λ (ps : List (KeptPlace K V D T A)). slice_get ps t) none) ∙ at))

  pub HaveLists-push : (shards : ℕ) (places places' : List (KeptPlace K V D T A)) (place : KeptPlace K V D T A)
      → HaveLists shards places → HasLists shards place → places' ≡ places ++ place ∷ [] → HaveLists shards places'
  HaveLists-push shards places places' place have has added t p at =
      elim (slice_get-push_cases places t p place (ap (λ (ps : List (KeptPlace K V D T A)). slice_get ps t)
      (sym added) ∙ at)) [
        | inl old ↦ have t p old
        | inr new ↦ subst (λ (q : KeptPlace K V D T A). HasLists shards q) (sym new.1) has
      ]
