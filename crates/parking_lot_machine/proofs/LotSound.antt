-- The lot stays sound in each act.
use Rattle.std.proofs.Common.{◌≡◌, ◌<◌, ℕ, true, false, List, Option, Some, slice_get, slice_set, refl, sym, ap, ◌∙◌}
use Rattle.std.proofs.Common.{subst, None, eqb-true}
use Rattle.std.specs.Option.{option_and_then}
use Rattle.std.proofs.lemmas.Bool.{false≢true}
use Rattle.parking_lot_core_model.specs.declared.parking.ParkToken.{ParkToken}
use Rattle.parking_lot_core_model.specs.declared.parking.UnparkToken.{UnparkToken}
use Rattle.parking_lot_core_model.specs.declared.place.Phase.{Phase}
use Rattle.parking_lot_core_model.specs.declared.place.Place.{Place}
use Rattle.parking_lot_core_model.specs.declared.place.Place.TheVariants.{Running, Held}
use Rattle.parking_lot_core_model.specs.declared.place.Section.{Section}
use Rattle.parking_lot_core_model.specs.declared.place.Waiter.{Waiter}
use Rattle.parking_lot_core_model.specs.Machine.{opened, in_phase, stored, closed}
use Rattle.parking_lot_core_model.specs.Places.{place_at, may_join, waits_at}
use Rattle.parking_lot_core_model.specs.Sound.{Sound, IsOpen, IsInside}
use Rattle.parking_lot_core_model.proofs.Sounds.{sound_opened, sound_section, sound_closed, sound_joined, sound_left}
use Rattle.parking_lot_core_model.proofs.Sounds.{sound_place, is_inside, joined_alone, open_on}
use Rattle.parking_lot_machine_calls.specs.declared.open_call.Call.{Call}
use Rattle.parking_lot_machine.specs.Rows.{State, call_at, open_at}
use Rattle.parking_lot_machine_calls.specs.Stances.{Doing, Looks, Joins, Takes, Out, In, stance}
use Rattle.parking_lot_machine.specs.RowActs.{key_in, appended, took}
use Rattle.parking_lot_machine_calls.specs.CallActs.{key_of}
use Rattle.parking_lot_machine.specs.RowFits.{LotFits}
use Rattle.parking_lot_machine.proofs.LotActs.{same_number, same_section, seat_of, key_is}
use Rattle.parking_lot_machine.proofs.LotTakes.{Sleeper, sleeper, took_places}

module _ (s : State) (t : ℕ) (c : Call) (h : LotFits s) (here : call_at s t ≡ Some c) where
  pub entered_sound : (k : ℕ) → stance c.core ≡ Out → open_at s (key_of c k) ≡ None
      → Sound (opened s.lot (Some t) (key_of c k))
  entered_sound k from free =
      let seat = seat_of s h t c Out here from in
      sound_opened s.lot (Some t) (key_of c k) h.sound free (λ v e. ap s.lot.inside (sym (same_number e)) ∙ seat.1)
      (λ v e. subst (λ (x : ℕ). place_at s.lot.places x ≡ Some Running) (same_number e) seat.0)

  -- the section of a key comes so far
  phased : (key : ℕ) (ph : Phase)
      → (may_join ph ≡ true → (o : Section) → open_at s key ≡ Some o → may_join o.phase ≡ true)
      → Sound (in_phase s.lot key ph)
  phased key ph joins = sound_section s.lot key (λ x. record x { phase = ph }) h.sound (λ x. refl) (λ x. refl)
      (λ x at may. joins may x at)

  ended : (key : ℕ) (ph : Phase) → may_join ph ≡ false → Sound (in_phase s.lot key ph)
  ended key ph never = phased key ph (λ may o at. absurd (false≢true (sym never ∙ may)))

  pub checked_sound : (k : ℕ) (ph : Phase) → stance c.core ≡ In k Looks → Sound (in_phase s.lot (key_in c) ph)
  checked_sound k ph from =
      let seat = seat_of s h t c (In k Looks) here from in
      subst (λ (key : ℕ). Sound (in_phase s.lot key ph)) (sym (key_is c k Looks from))
      (phased (key_of c k) ph (λ may o at. ap (λ (x : Section). may_join x.phase) (same_section (sym at ∙ seat.1))
      ∙ ap may_join seat.4))

  pub took_nobody_sound : (k : ℕ) → Sound (in_phase s.lot (key_of c k) Phase.Ended)
  took_nobody_sound k = ended (key_of c k) Phase.Ended refl

  pub stored_sound : (key : ℕ) (token : UnparkToken) → Sound (stored s.lot key token)
  stored_sound key token = sound_section s.lot key (λ x. record x { phase = Phase.Stored; token = token }) h.sound
      (λ x. refl) (λ x. refl) (λ x at may. absurd (false≢true may))

  pub left_sound : (k : ℕ) (how : Doing) → stance c.core ≡ In k how → Sound (closed s.lot (key_in c) false)
  left_sound k how from =
      let seat = seat_of s h t c (In k how) here from in
      subst (λ (key : ℕ). Sound (closed s.lot key false)) (seat.3 ∙ sym (key_is c k how from))
      (sound_closed s.lot false h.sound seat.0 (ap (open_at s) seat.3 ∙ seat.1))

  pub appended_sound : (k : ℕ) (token : ParkToken) → stance c.core ≡ In k (Joins token)
      → Sound (appended s t c (key_of c k) token).lot
  appended_sound k token from =
      let seat = seat_of s h t c (In k (Joins token)) here from in
      let o : Section = seat.0 in
      let in_s : IsInside s.lot t o = is_inside s.lot t o h.sound
      (ap (option_and_then (open_at s)) seat.6 ∙ seat.1) in
      sound_joined (in_phase s.lot (key_of c k) Phase.Joined) t (key_of c k) token false
      (ended (key_of c k) Phase.Joined refl) seat.5 (λ j is. same_number (sym is ∙ seat.6))
      (λ b y is own. joined_alone s.lot t o in_s b y
      (subst (λ (j : ℕ). (in_phase s.lot j Phase.Joined).sections b ≡ Some y) (sym seat.3) is) own)

  pub took_sound : (k nth : ℕ) (w : Waiter) → k < 2 → stance c.core ≡ In k Takes → slice_get (s.lot.queues (key_of c k))
      nth ≡ Some w → Sound (took s t c (key_of c k) nth w).lot
  took_sound k nth w two from at =
      let seat = seat_of s h t c (In k Takes) here from in
      let key : ℕ = key_of c k in
      let z : Sleeper s t k c w = sleeper s t c h here k nth w two from at in
      let is_open : IsOpen (in_phase s.lot key (Phase.Taking nth)) key =
      open_on s.lot key (λ (x : Section). record x { phase = Phase.Taking nth }) (λ x. refl) (seat.0, seat.1, seat.3)
      in
      subst (λ (ps : List (Option Place)). Sound (record (took s t c key nth w).lot { places = ps }))
      (sym (took_places s t c h here k nth w two from at))
      (sound_left (in_phase s.lot key (Phase.Taking nth)) key nth w (ended key (Phase.Taking nth) refl) at
      (Held key z.sleep) (λ j. refl)
      (λ j is. subst (λ (i : ℕ). IsOpen (in_phase s.lot key (Phase.Taking nth)) i) (eqb-true key j is) is_open)
      (λ j is. is))

-- one that was told runs
pub woke_sound : (s : State) → LotFits s → (v : ℕ) (p : Place) → place_at s.lot.places v ≡ Some p
    → ((k : ℕ) → waits_at k Running ≡ waits_at k p)
    → Sound (record s.lot { places = slice_set s.lot.places v (Some Running) })
woke_sound s h v p at waits = sound_place s.lot v p Running h.sound at waits (λ k is. absurd (false≢true is))
    (λ k is. refl) (λ e. refl)
