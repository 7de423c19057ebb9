-- Operations that are done whole, and in the steps of a section.
use Rattle.std.proofs.Common.{◌≡◌, ℕ, ◌+◌, ◌%◌, ◌^◌, ◌==◌, Bool, true, false, cond, Option, List, [], ◌∷◌, map, take}
use Rattle.std.proofs.Common.{drop}
use Rattle.std.proofs.Common.{Some, None, slice_set, refl, sym, ap, ◌∙◌, subst}
use Rattle.std.specs.Option.{option_map}
use Rattle.std.proofs.lemmas.List.{map-set}
use Rattle.parking_lot_core_model.specs.declared.parking.ParkToken.{ParkToken}
use Rattle.parking_lot_core_model.specs.declared.parking.UnparkToken.{UnparkToken}
use Rattle.parking_lot_core_model.specs.declared.place.Place.{Place}
use Rattle.parking_lot_core_model.specs.declared.place.Place.TheVariants.{Running, Waiting, Held, Taken}
use Rattle.parking_lot_core_model.specs.declared.place.Section.{Section}
use Rattle.parking_lot_core_model.specs.declared.place.Phase.{Phase}
use Rattle.parking_lot_core_model.specs.declared.place.Phase.TheVariants as phase
use Rattle.parking_lot_core_model.specs.declared.place.ThreadStatus.{ThreadStatus}
use Rattle.parking_lot_core_model.specs.declared.place.ThreadStatus.TheVariants as status
use Rattle.parking_lot_core_model.specs.Places.{place_at, told, status_of}
use Rattle.parking_lot_core_model.specs.Machine.{Machine, token_of, joined, opened, in_phase, taken, stored, closed}
use Rattle.parking_lot_core_model.specs.Machine.{unparked, returned, resumed, quitted, open_at, is_in, fresh_section}
use Rattle.parking_lot_core_model.specs.Operations.{all_taken}
use Rattle.parking_lot_core_model.specs.Sound.{Sound}
use Rattle.parking_lot_core_model.specs.InSteps.{ShowsSame}
use Rattle.parking_lot_core_model.proofs.Entering.{same_some, within, IsOutside, phase_within, closed_within}
use Rattle.parking_lot_core_model.proofs.Sounds.{place_at-map, quiet_at, returned_as}
use Rattle.parking_lot_core_model.proofs.Takings.{nobody_told, first_taken, closed_taken_by}

-- who is in no section
pub outside_of : (m : Machine) (thread : ℕ) → m.inside thread ≡ None → IsOutside m (Some thread)
outside_of m thread out t e = ap m.inside (sym (same_some e)) ∙ out

-- a section that came on twice
phased : (m : Machine) (s : Section) (a b : Phase)
    → in_phase (in_phase (within m s) s.key a) s.key b ≡ within m (record s { phase = b })
phased m s a b = ap (λ (x : Machine). in_phase x s.key b) (phase_within m s a)
    ∙ phase_within m (record s { phase = a }) b

-- a park is an entering, a check, an appending and a leaving
pub park_in_steps : (m : Machine) (thread key : ℕ) (token : ParkToken) (timed : Bool) → Sound m → open_at m key ≡ None
    → m.inside thread ≡ None
    → closed (joined (in_phase (in_phase (opened m (Some thread) key) key phase.Valid) key phase.Joined) thread key
    token
    timed) key false ≡ joined m thread key token timed
park_in_steps m thread key token timed h free outside =
    let s0 = fresh_section (Some thread) key in
    let j = joined m thread key token timed in
    let place = Waiting key (record { mark = (m.sleeps + 1) % 2 ^ 64; timed = timed; late = false }) in
    let told_so = option_map (told key (record { 0 = 0 }) false) in
    ap (λ (x : Machine). closed (joined x thread key token timed) key false) (phased m s0 phase.Valid phase.Joined)
    ∙ (closed_within j (record s0 { phase = phase.Joined }) false free (outside_of m thread outside)
    ∙ ap (λ (ps : List (Option Place)). record j { places = ps })
    (map-set told_so m.places thread (Some place) ∙ ap (λ (ps : List (Option Place)). slice_set ps thread (Some place))
    (nobody_told key (record { 0 = 0 }) false m.places (quiet_at m key h free))))

pub invalid_in_steps : (m : Machine) (thread key : ℕ) → Sound m → open_at m key ≡ None → m.inside thread ≡ None
    → closed (in_phase (opened m (Some thread) key) key phase.Invalid) key false ≡ m
invalid_in_steps m thread key h free outside =
    let s0 = fresh_section (Some thread) key in
    ap (λ (x : Machine). closed x key false) (phase_within m s0 phase.Invalid)
    ∙ (closed_within m (record s0 { phase = phase.Invalid }) false free (outside_of m thread outside)
    ∙ ap (λ (ps : List (Option Place)). record m { places = ps })
    (nobody_told key (record { 0 = 0 }) false m.places (quiet_at m key h free)))

-- one that goes on by itself comes back, quits and leaves
pub going_on_in_steps : (m : Machine) (thread key : ℕ) → Sound m → open_at m key ≡ None → m.inside thread ≡ None
    → closed (quitted (returned m thread key) thread key) key false ≡ resumed m thread (place_at m.places thread)
going_on_in_steps m thread key h free outside =
    ap (λ (x : Machine). closed (quitted x thread key) key false) (returned_as m thread key)
    ∙ go (place_at m.places thread)
  where
    back : Section
    back = record { thread = Some thread; key = key; phase = phase.Joined; token = record { 0 = 0 } }

    told_so : Option Place → Option Place
    told_so = option_map (told key (record { 0 = 0 }) false)

    none_told : map told_so m.places ≡ m.places
    none_told = nobody_told key (record { 0 = 0 }) false m.places (quiet_at m key h free)

    run_told : map told_so (slice_set m.places thread (Some Running)) ≡ slice_set m.places thread (Some Running)
    run_told = map-set told_so m.places thread (Some Running)
        ∙ ap (λ (ps : List (Option Place)). slice_set ps thread (Some Running)) none_told

    ends : (n : Machine) → open_at n key ≡ None → n.inside thread ≡ None → map told_so n.places ≡ n.places
        → closed (in_phase (within n back) key phase.Ended) key false ≡ n
    ends n open_none out same =
        ap (λ (x : Machine). closed x key false) (phase_within n back phase.Ended)
        ∙ (closed_within n (record back { phase = phase.Ended }) false open_none (outside_of n thread out)
        ∙ ap (λ (ps : List (Option Place)). record n { places = ps }) same)

    go : (o : Option Place) → closed (in_phase (resumed (within m back) thread o) key phase.Ended) key false ≡ resumed m
        thread o
    go None = ends m free outside none_told
    go (Some Running) = ends m free outside none_told
    go (Some (Held at sleep)) = ends m free outside none_told
    go (Some (Waiting at sleep)) = ends (resumed m thread (Some (Waiting at sleep))) free outside run_told
    go (Some (Taken token at sleep woken)) = ends (resumed m thread (Some (Taken token at sleep woken))) free outside
        run_told

-- whether those that a section took are woken isn't shown
same_status : (tokens : ℕ → UnparkToken) (key : ℕ) (token : UnparkToken) (p : Place)
    → status_of tokens (told key token false p) ≡ status_of tokens (told key token true p)
same_status tokens key token Running = refl
same_status tokens key token (Waiting at s) = refl
same_status tokens key token (Held at s) =
    elim (at == key) as (λ b. status_of tokens (cond b (Taken token at s false) (Held at s)) ≡ status_of tokens
    (cond b (Taken token at s true) (Held at s)))
    [ true ↦ refl | false ↦ refl ]
same_status tokens key token (Taken u at s b) = refl

pub closed_alike : (n : Machine) (key : ℕ) → ShowsSame (closed n key false) (closed n key true)
closed_alike n key = record {
  queues = refl;
  resources = refl;
  sections = λ k. refl;
  statuses = λ t.
      ap (shown (is_in (closed n key false) t)) (place_at-map (told key (token_of n key) false) n.places t)
      ∙ (each (is_in (closed n key false) t) (place_at n.places t)
      ∙ sym (ap (shown (is_in (closed n key false) t)) (place_at-map (told key (token_of n key) true) n.places t)));
}
  where
    tokens : ℕ → UnparkToken
    tokens = token_of (closed n key false)

    shown : Bool → Option Place → Option ThreadStatus
    shown inside o = option_map (λ p. cond inside status.InSection (status_of tokens p)) o

    each : (inside : Bool) (o : Option Place) → shown inside (option_map (told key (token_of n key) false) o) ≡ shown
        inside (option_map (told key (token_of n key) true) o)
    each inside None = refl
    each true (Some p) = refl
    each false (Some p) = ap (λ x. Some x) (same_status tokens key (token_of n key) p)

-- an unpark of the first is an entering, a taking, a store and a leaving
pub first_in_steps : (m : Machine) (thread key : ℕ) (token : UnparkToken) → Sound m → open_at m key ≡ None
    → m.inside thread ≡ None
    → ShowsSame (closed (stored (taken (in_phase (opened m (Some thread) key) key (phase.Taking 0)) key 0) key token)
    key
    false) (unparked m key (take 1 (m.queues key)) (drop 1 (m.queues key)) token)
first_in_steps m thread key token h free outside =
    let s0 = fresh_section (Some thread) key in
    let s1 : Section = record s0 { phase = phase.Taking 0 } in
    let o = in_phase (opened m (Some thread) key) key (phase.Taking 0) in
    let q = m.queues key in
    subst (λ (x : Machine). ShowsSame (closed (stored (taken o key 0) key token) key false) x)
    (ap (λ (x : Machine). closed (stored (taken x key 0) key token) key true) (phase_within m s0 (phase.Taking 0))
    ∙ (ap (λ (x : Machine). closed (stored x key token) key true) (first_taken (within m s1) key)
    ∙ closed_taken_by m key token (quiet_at m key h free) free s1 (outside_of m thread outside) (take 1 q) (drop 1 q)))
    (closed_alike (stored (taken o key 0) key token) key)
