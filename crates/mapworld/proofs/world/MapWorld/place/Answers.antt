use Rattle.std.proofs.Common.{◌<◌, ◌≤◌, length, inl, inr, slice_get, refl, ap, sym, ◌∙◌, arith, ltb-true, ltb-false}
use Rattle.std.specs.Option.{option_map}
use Rattle.std.proofs.lemmas.Option.{slice_get_read, slice_get_within, slice_get_cases, slice_get-map}
use Rattle.mapworld_state.specs.Places.{place_of}
use Rattle.mapworld_state.proofs.Views.{view-at}
use Rattle.mapworld.proofs.world.MapWorld.place.Goals as goal

pub returns-in-Some : goal.returns-in-Some
returns-in-Some g c =
    let list = c.deref.result.now in
    let t = c.args.thread in
    let p = c.in-Some.place.now in
    let within : t < length list = ltb-true t (length list) (sym c.in-Some.ensures.lookup.0) in
    let here = slice_get_read list (length list) t p refl within c.in-Some.ensures.lookup.1 in
    rw (← c.self.view_is) (sym (view-at place_of c.self.inside.core.places.items t p
    (ap (λ ps. slice_get ps t) (sym c.deref.ensures.value) ∙ here)))

pub returns-in-None : goal.returns-in-None
returns-in-None g c =
    let list = c.deref.result.now in
    let places = c.self.inside.core.places.items in
    let t = c.args.thread in
    let past : length list ≤ t = ltb-false t (length list) (sym c.in-None.ensures.lookup.0) in
    let long = ap length c.deref.ensures.value in
    rw (← c.self.view_is) (elim (slice_get_cases places t).1 [
      | inl here ↦ absurd (let within = slice_get_within places t here.0 here.2 in omega (arith, within, past, long))
      | inr none ↦ sym (slice_get-map place_of places t ∙ ap (option_map place_of) none.1)
    ])
