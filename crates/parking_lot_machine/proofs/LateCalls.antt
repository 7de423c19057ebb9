-- Calls on the lot of a thread whose moment has passed are never refused.
use Rattle.std.proofs.Common.{◌≡◌, ℕ, ◌&&◌, ◌||◌, Bool, true, false, cond, [], ◌∷◌, Option, Some, None, is_some, Result}
use Rattle.std.proofs.Common.{refl, ap, ◌∙◌, subst, eq-eqb, slice_set, slice_get}
use Rattle.std.specs.Option.{option_map, option_map_or}
use Rattle.std.proofs.lemmas.Bool.{false≢true}
use Rattle.parking_lot_core_model.specs.declared.fault.LotFault.{LotFault}
use Rattle.parking_lot_core_model.specs.declared.fault.LotFault.TheVariants.{Busy, WrongStatus}
use Rattle.parking_lot_core_model.specs.declared.place.Phase.{Phase}
use Rattle.parking_lot_core_model.specs.declared.place.Place.{Place}
use Rattle.parking_lot_core_model.specs.declared.place.Place.TheVariants.{Running, Taken, Waiting}
use Rattle.parking_lot_core_model.specs.declared.place.Section.{Section}
use Rattle.parking_lot_core_model.specs.declared.place.Sleep.{Sleep}
use Rattle.parking_lot_core_model.specs.Machine.{Machine, Unless, busy, fresh_section, given_up, in_phase, in_section}
use Rattle.parking_lot_core_model.specs.Machine.{quit_fault, quitted, resumed, return_fault, returned, section_of}
use Rattle.parking_lot_core_model.specs.Machine.{step_fault, stored}
use Rattle.parking_lot_core_model.specs.Machine as core_lot
use Rattle.parking_lot_core_model.specs.Runs.{Quit, unless_refused}
use Rattle.parking_lot_core_model.specs.Sound.{Sound}
use Rattle.parking_lot_core_model.specs.declared.parking.UnparkToken.{UnparkToken}
use Rattle.parking_lot_core_model.proofs.Entering.{open_within, phase_within}
use Rattle.parking_lot_core_model.proofs.Kept.{updated_at}
use Rattle.parking_lot_core_model.proofs.Sequences.{sound_after_all}
use Rattle.parking_lot_core_model.proofs.Sounds.{sound_returned, sound_section}
use Rattle.parking_lot_core_model.specs.Places.{has_joined, has_slept, may_return, may_store, place_at}
use Rattle.parking_lot_machine_calls.specs.declared.seat.QueuePosition.{QueuePosition}
use Rattle.parking_lot_machine_calls.specs.declared.open_call.Call.{Call}
use Rattle.parking_lot_machine.specs.Rows.{State, call_at, is_for, open_at}
use Rattle.parking_lot_rules.specs.Classes.{bit}
use Rattle.parking_lot_machine_calls.specs.Kinds.{recursive_in}
use Rattle.parking_lot_machine.specs.RowFits.{FitsTogether, IsAt, WaitsIn}
use Rattle.parking_lot_machine.specs.LateActs.{out_of_list, quitted_as, found}
use Rattle.parking_lot_machine_calls.specs.LateCalls.{comes_late, is_back, is_pending, late_key}
use Rattle.parking_lot_machine_calls.specs.Stances.{Asleep, In, Joined, sign}
use Rattle.parking_lot_machine.proofs.LateKinds.{backs, comes}
use Rattle.parking_lot_machine.proofs.LotActs.{seat_of}
use Rattle.parking_lot_machine.proofs.LotCalls.{may_step, own_section}
use Rattle.parking_lot_machine_calls.specs.CallActs.{told_of}
use Rattle.parking_lot_machine_calls.specs.declared.seat.WakeResult.{WakeResult}
use Rattle.parking_lot_machine.proofs.LateFinds.{told_there, owing}
use Rattle.std.specs.List.{position_or_len}
use Rattle.parking_lot_machine_calls.specs.declared.seat.Wakeup.{Wakeup}

-- what isn't refused is done
pub unless_none : {T : Type 0} (f : Option LotFault) (result : Result T LotFault) (old new : Machine) (Done : Type 0)
    → f ≡ None → Unless f result old new Done → Done
unless_none None result old new Done e h = h
unless_none (Some fault) result old new Done e h = absurd cc

-- one that waits comes back where nobody is in a section of its bucket
pub may_return_there : (m : Machine) (t key : ℕ) → core_lot.open_at m key ≡ None → WaitsIn (place_at m.places t) key
    → return_fault m t key ≡ None
may_return_there m t key free waits =
    ap (λ (p : Option Place). cond (option_map_or (may_return key) p false) (busy key m) (Some WrongStatus)) waits.1
    ∙ ap (λ (b : Bool). cond b (busy key m) (Some WrongStatus)) (eq-eqb key key refl)
    ∙ ap (λ (o : Option Section). cond (is_some o) (Some Busy) None) free

-- so does one that was taken
pub may_return_taken : (m : Machine) (t key : ℕ) (token : UnparkToken) (sleep : Sleep) → core_lot.open_at m key ≡ None
    → place_at m.places t ≡ Some (Taken token key sleep false) → return_fault m t key ≡ None
may_return_taken m t key token sleep free taken =
    ap (λ (p : Option Place). cond (option_map_or (may_return key) p false) (busy key m) (Some WrongStatus)) taken
    ∙ ap (λ (b : Bool). cond (b && true) (busy key m) (Some WrongStatus)) (eq-eqb key key refl)
    ∙ ap (λ (o : Option Section). cond (is_some o) (Some Busy) None) free

-- and takes itself out in its section
pub may_quit : (m : Machine) (t key : ℕ) (o : Section) → m.inside t ≡ Some key → core_lot.open_at m key ≡ Some o
    → o.phase ≡ Phase.Joined → WaitsIn (place_at m.places t) key → quit_fault m t ≡ None
may_quit m t key o in_it there come waits =
    ap (λ (x : Option Section). cond
    (option_map_or (λ s. has_joined s.phase) x false && option_map_or has_slept (place_at m.places t) false) None
    (Some WrongStatus)) (own_section m t key o in_it there)
    ∙ ap (λ (ph : Phase). cond (has_joined ph && option_map_or has_slept (place_at m.places t) false) None
    (Some WrongStatus)) come
    ∙ ap (λ (p : Option Place). cond (option_map_or has_slept p false) None (Some WrongStatus)) waits.1

pub quits_out : (m : Machine) (t key : ℕ) (sleep : Sleep) → place_at m.places t ≡ Some (Waiting key sleep)
    → quitted m t key ≡ in_phase (given_up m t key) key Phase.Ended
quits_out m t key sleep waits = ap (λ (p : Option Place). in_phase (resumed m t p) key Phase.Ended) waits

pub quits_taken : (m : Machine) (t key : ℕ) (token : UnparkToken) (sleep : Sleep)
    → place_at m.places t ≡ Some (Taken token key sleep false)
    → quitted m t key ≡ in_phase (record m { places = slice_set m.places t (Some Running) }) key Phase.Ended
quits_taken m t key token sleep taken = ap (λ (p : Option Place). in_phase (resumed m t p) key Phase.Ended) taken

-- the section of a key that comes so far
pub now_phase : (m : Machine) (key : ℕ) (o : Section) (ph : Phase) → core_lot.open_at m key ≡ Some o
    → core_lot.open_at (in_phase m key ph) key ≡ Some (record o { phase = ph })
now_phase m key o ph there =
    updated_at m.sections (core_lot.bucket_of m key)
    (option_map {T = Section} (λ s. record s { phase = ph }) (core_lot.open_at m key))
    ∙ ap (option_map {T = Section} (λ s. record s { phase = ph })) there

-- where its section may store
pub quits_store : (m : Machine) (t key : ℕ) (o : Section) → m.inside t ≡ Some key → core_lot.open_at m key ≡ Some o
    → step_fault may_store (in_phase (given_up m t key) key Phase.Ended) t ≡ None
quits_store m t key o in_it there = may_step (in_phase (given_up m t key) key Phase.Ended) t key
    (record o { phase = Phase.Ended }) may_store in_it (now_phase (given_up m t key) key o Phase.Ended there) refl

-- what isn't refused keeps a lot sound
sound_quit : (m : Machine) (t key : ℕ) (o : Section) → Sound m → section_of m t ≡ Some o → o.key ≡ key
    → quit_fault m t ≡ None → Sound (quitted m t key)
sound_quit m t key o h in_it at_key e =
    subst Sound
    (ap (λ f. unless_refused f m (in_section (λ n k. quitted n t k) t m)) e
    ∙ ap (λ (x : Option Section). option_map_or (λ (s : Section). quitted m t s.key) x m) in_it
    ∙ ap (λ (k : ℕ). quitted m t k) at_key) (sound_after_all (Quit t ∷ []) m h)

sound_store : (m : Machine) (key : ℕ) (token : UnparkToken) → Sound m → Sound (stored m key token)
sound_store m key token h = sound_section m key (λ x. record x { phase = Phase.Stored; token = token }) h
    (λ x. refl) (λ x. refl) (λ x at may. absurd (false≢true may))

-- ONE THAT IS BACK

-- its section
abbrev pub back_section : ℕ → ℕ → Section
back_section t key = record { thread = Some t; key = key; phase = Phase.Joined; token = record { 0 = 0 } }

module _ (m : Machine) (t key : ℕ) where
  pub back_inside : (returned m t key).inside t ≡ Some key
  back_inside = updated_at m.inside t (Some key)

  pub back_open : core_lot.open_at (returned m t key) key ≡ Some (back_section t key)
  back_open = ap (λ (n : Machine). core_lot.open_at n key) (phase_within m (fresh_section (Some t) key) Phase.Joined)
      ∙ open_within m (back_section t key)

  pub back_own : section_of (returned m t key) t ≡ Some (back_section t key)
  back_own = own_section (returned m t key) t key (back_section t key) back_inside back_open

  module _ (token : UnparkToken) (sleep : Sleep) (taken : place_at m.places t
      ≡ Some (Taken token key sleep false)) where
    -- where it was taken it may say so
    pub back_quits : quit_fault (returned m t key) t ≡ None
    back_quits =
        ap (λ (x : Option Section). cond
        (option_map_or (λ s. has_joined s.phase) x false && option_map_or has_slept (place_at m.places t) false) None
        (Some WrongStatus)) back_own
        ∙ ap (λ (p : Option Place). cond (option_map_or has_slept p false) None (Some WrongStatus)) taken

    -- and runs then
    pub sound_found : Sound m → core_lot.open_at m key ≡ None
        → Sound (stored (in_phase (record (returned m t key) { places = slice_set m.places t (Some Running) }) key
        Phase.Ended) key (sign false))
    sound_found h free =
        let b : Machine = returned m t key in
        let out : Machine = in_phase (record b { places = slice_set m.places t (Some Running) }) key Phase.Ended in
        let may_back : option_map_or (may_return key) (place_at m.places t) false ≡ true =
        ap (λ (p : Option Place). option_map_or (may_return key) p false) taken
        ∙ ap (λ (x : Bool). x && true) (eq-eqb key key refl) in
        sound_store out key (sign false)
        (subst Sound (quits_taken b t key token sleep taken)
        (sound_quit b t key (back_section t key) (sound_returned m t key h free may_back) back_own refl back_quits))

-- THE MACHINE'S THREADS

module _ (s : State) (h : FitsTogether s) (t : ℕ) (c : Call) (here : call_at s t ≡ Some c) where
  pub sleeps_there : comes_late c.core ≡ true → c.spot ≡ QueuePosition.Listed
      → WaitsIn (place_at s.lot.places t) (late_key c)
  sleeps_there late listed =
      let come = comes (recursive_in s.kinds c.lock) c.others c.core late (h.rules.prepared t c here) in
      subst (λ (a : QueuePosition). IsAt a (place_at s.lot.places t) (open_at s) (late_key c)) listed
      (seat_of s h.lots t c (Asleep (bit (is_pending c.core)) come.park) here come.lies).0

  pub returns_there : comes_late c.core ≡ true → c.spot ≡ QueuePosition.Listed
      → option_map_or (may_return (late_key c)) (place_at s.lot.places t) false ≡ true
  returns_there late listed =
      ap (λ (p : Option Place). option_map_or (may_return (late_key c)) p false) (sleeps_there late listed).1
      ∙ eq-eqb (late_key c) (late_key c) refl

  pub stands_there : is_back c.core ≡ true → (o : Section) × (s.lot.inside t ≡ Some (late_key c))
      × (open_at s (late_key c) ≡ Some o) × (o.key ≡ late_key c) × (o.phase ≡ Phase.Joined)
      × WaitsIn (place_at s.lot.places t) (late_key c)
  stands_there late =
      let back = backs (recursive_in s.kinds c.lock) c.others c.core late (h.rules.prepared t c here) in
      let seat = seat_of s h.lots t c (In (bit (is_pending c.core)) (Joined back.park)) here back.stands in
      (seat.0, seat.6, seat.1, seat.3, seat.4, seat.5.1)

  -- or was taken and told
  pub taken_there : (by : ℕ) (said : WakeResult) → comes_late c.core ≡ true → c.spot ≡ QueuePosition.Off by said
      → open_at s (late_key c) ≡ None → (token : UnparkToken) × (sleep : Sleep)
      × (place_at s.lot.places t ≡ Some (Taken token (late_key c) sleep false)) × (said ≡ told_of token)
  taken_there by said late off free =
      let come = comes (recursive_in s.kinds c.lock) c.others c.core late (h.rules.prepared t c here) in
      told_there by said (place_at s.lot.places t) (open_at s) (late_key c) free
      (subst (λ (a : QueuePosition). IsAt a (place_at s.lot.places t) (open_at s) (late_key c)) off
      (seat_of s h.lots t c (Asleep (bit (is_pending c.core)) come.park) here come.lies).0)

  -- and is to be woken
  pub entry_there : (by : ℕ) (said : WakeResult) → comes_late c.core ≡ true → c.spot ≡ QueuePosition.Off by said
      → (e : Wakeup) × (slice_get s.wakes (position_or_len (is_for t) s.wakes) ≡ Some e)
  entry_there by said late off =
      let come = comes (recursive_in s.kinds c.lock) c.others c.core late (h.rules.prepared t c here) in
      let o = owing s t c (bit (is_pending c.core)) come.park by said h.lots here come.lies off in
      (o.entry, o.at)

  pub found_sound : (by : ℕ) (said : WakeResult) → comes_late c.core ≡ true → c.spot ≡ QueuePosition.Off by said
      → open_at s (late_key c) ≡ None → Sound (found s t c by said).lot
  found_sound by said late off free = let x = taken_there by said late off free in sound_found s.lot t (late_key c) x.0
      x.1 x.2 h.lots.sound free

  -- what is left of the lot is sound
  pub quit_sound : is_back c.core ≡ true → (left : Bool) → Sound (quitted_as s t c left).lot
  quit_sound late left = go (left || is_pending c.core)
    where
      at : (o : Section) × (s.lot.inside t ≡ Some (late_key c)) × (open_at s (late_key c) ≡ Some o)
          × (o.key ≡ late_key c) × (o.phase ≡ Phase.Joined) × WaitsIn (place_at s.lot.places t) (late_key c)
      at = stands_there late

      out : Sound (out_of_list s t c)
      out = subst Sound (quits_out s.lot t (late_key c) at.5.0 at.5.1)
          (sound_quit s.lot t (late_key c) at.0 h.lots.sound (own_section s.lot t (late_key c) at.0 at.1 at.2) at.3
          (may_quit s.lot t (late_key c) at.0 at.1 at.2 at.4 at.5))

      go : (b : Bool) → Sound (cond b (stored (out_of_list s t c) (late_key c) (sign false)) (out_of_list s t c))
      go true = sound_store (out_of_list s t c) (late_key c) (sign false) out
      go false = out
