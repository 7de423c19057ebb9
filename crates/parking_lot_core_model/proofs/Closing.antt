-- What a lot's fields owe as they change.
use Rattle.std.proofs.Common.{◌≡◌, ℕ, ◌+◌, ◌<◌, ◌≤◌, Bool, true, false, List, [], Option, Some, None, slice_set, refl}
use Rattle.std.proofs.Common.{sym}
use Rattle.std.proofs.Common.{ap, ◌∙◌, subst, arith, is_some, cond, ◌∷◌, ◌++◌, ◌%◌, ◌^◌, remove, slice_get, length}
use Rattle.std.proofs.Common.{position, eq-eqb, eqb-true, ◌==◌, count_by}
use Rattle.std.proofs.lemmas.Bool.{false≢true}
use Rattle.std.specs.Option.{option_map, option_map_or}
use Rattle.parking_lot_core_model.specs.declared.parking.UnparkToken.{UnparkToken}
use Rattle.parking_lot_core_model.specs.declared.parking.ParkToken.{ParkToken}
use Rattle.parking_lot_core_model.specs.declared.place.Section.{Section}
use Rattle.parking_lot_core_model.specs.declared.place.Sleep.{Sleep}
use Rattle.parking_lot_core_model.specs.declared.place.ThreadStatus.TheVariants as status
use Rattle.parking_lot_core_model.specs.declared.place.Phase.TheVariants as phase
use Rattle.parking_lot_core_model.specs.declared.fault.LotFault.TheVariants.{WrongStatus}
use Rattle.parking_lot_core_model.specs.declared.lists.Entry.{Entry}
use Rattle.parking_lot_core_model.specs.declared.place.Place.{Place}
use Rattle.parking_lot_core_model.specs.declared.place.Place.TheVariants.{Running, Waiting, Held, Taken}
use Rattle.parking_lot_core_model.specs.declared.place.Waiter.{Waiter}
use Rattle.parking_lot_core_model.specs.Places.{place_at, is_waiting, is_held, is_near, waits_at, late, roused}
use Rattle.parking_lot_core_model.specs.Places.{status_of, may_return}
use Rattle.parking_lot_core_model.specs.Places.{may_join, told, held, moved_to, changed}
use Rattle.parking_lot_core_model.specs.Machine.{Parts, Machine, machine, status_at, runs, is_in, token_of}
use Rattle.parking_lot_core_model.specs.Machine.{retire_fault, return_fault, joined, moved, moved_first, is_thread}
use Rattle.parking_lot_core_model.specs.Machine.{closed, open_at}
use Rattle.parking_lot_core_model.specs.Lists.{lists_of, updated, without_first}
use Rattle.parking_lot_core_model.specs.Chains.{WaiterLists, total, room}
use Rattle.parking_lot_core_model.specs.Buckets.{slot}
use Rattle.std.specs.List.{position_or_len}
use Rattle.std.proofs.lemmas.Option.{slice_get_within}
use Rattle.parking_lot_core_model.specs.Sound.{Sound, Room, IsOpen, times_at}
use Rattle.parking_lot_core_model.proofs.Entering.{some≢none}
use Rattle.parking_lot_core_model.proofs.Sounds.{sound_place, sound_owned, sound_retired}
use Rattle.parking_lot_core_model.proofs.Sounds.{sound_closed, sound_joined, sound_left, sound_relisted, waiter_place}
use Rattle.parking_lot_core_model.proofs.Sounds.{waits_outside, sound_returned, returned_as}
use Rattle.parking_lot_core_model.proofs.Outcomes.{entering}
use Rattle.parking_lot_core_model.proofs.Kept.{updated_past, updated_at, updated_other, by_eqb, eqb_false_symm}
use Rattle.parking_lot_core_model.proofs.Rooms.{room_next, seated, waits, noded, all_noded}
use Rattle.parking_lot_core_model.proofs.Numbers.{flag, first_passes, position_passes, count_by-map_same}
use Rattle.parking_lot_core_model.proofs.Numbers.{slice_get_none, count_by-remove}
use Rattle.std.proofs.lemmas.List.{length-map}

-- the machine with its buckets kept so
pub same_kept : (m : Machine) (count : ℕ) (sections ss : ℕ → Option Section) (inside is : ℕ → Option ℕ)
    → count ≡ m.buckets → sections ≡ ss → inside ≡ is
    → record m { buckets = count; sections = sections; inside = inside } ≡ record m { sections = ss; inside = is }
same_kept m count sections ss inside is e f g =
    ap (λ (b : ℕ). record m { buckets = b; sections = sections; inside = inside }) e
    ∙ (ap (λ (x : ℕ → Option Section). record m { sections = x; inside = inside }) f
    ∙ ap (λ (x : ℕ → Option ℕ). record m { sections = ss; inside = x }) g)

-- a section of a thread that came back
abbrev pub back_in : ℕ → ℕ → Section
back_in t key = record { thread = Some t; key = key; phase = phase.Joined; token = record { 0 = 0 } }

-- what is owed of all fields
abbrev pub Owed : Parts → WaiterLists → Type 0
Owed parts waiting = Sound (machine parts) × Room waiting parts.places parts.max_threads (length parts.by_thread)

waiting≢running : {key : ℕ} {s : Sleep} → Waiting key s ≡ Running → ⊥
waiting≢running e = cc

held≢running : {key : ℕ} {s : Sleep} → Held key s ≡ Running → ⊥
held≢running e = cc

taken≢running : {token : UnparkToken} {key : ℕ} {s : Sleep} {b : Bool} → Taken token key s b ≡ Running → ⊥
taken≢running e = cc

pub some_of : {X : Type 0} (o : Option X) → is_some o ≡ true → (x : X) × (o ≡ Some x)
some_of None e = absurd (false≢true e)
some_of (Some x) e = (x, refl)

-- a thread that is told to run does so, outside every section
told_so : (tokens : ℕ → UnparkToken) (place : Place) → runs (Some (status_of tokens place)) ≡ true → place ≡ Running
told_so tokens Running e = refl
told_so tokens (Waiting key s) e =
    absurd (false≢true
    (sym (elim s.late as (λ b. runs (Some (cond b status.PastDeadline (status.Waiting key s.timed))) ≡ false)
    [ true ↦ refl | false ↦ refl ]) ∙ e))
told_so tokens (Held key s) e =
    absurd (false≢true
    (sym (elim s.late as (λ b. runs (Some (cond b status.PastDeadline (status.Taken (tokens key)))) ≡ false)
    [ true ↦ refl | false ↦ refl ]) ∙ e))
told_so tokens (Taken t key s w) e =
    absurd (false≢true
    (sym (elim s.late as (λ b. runs (Some (cond b status.PastDeadline (status.Taken t))) ≡ false)
    [ true ↦ refl | false ↦ refl ]) ∙ e))

runs_at : (o : Option Place) (b : Bool) (tokens : ℕ → UnparkToken)
    → runs (option_map (λ place. cond b status.InSection (status_of tokens place)) o) ≡ true → (o ≡ Some Running)
    × (b ≡ false)
runs_at None b tokens e = absurd (false≢true e)
runs_at (Some place) true tokens e = absurd (false≢true e)
runs_at (Some place) false tokens e = (ap (λ x. Some x) (told_so tokens place e), refl)

pub running : (m : Machine) (t : ℕ) → runs (status_at m t) ≡ true → (place_at m.places t ≡ Some Running)
    × (is_in m t ≡ false)
running m t e = runs_at (place_at m.places t) (is_in m t) (token_of m) e

pub unrefused : (m : Machine) (t : ℕ) (b : Bool) → runs (status_at m t) ≡ b → cond b None (Some WrongStatus) ≡ None
    → (place_at m.places t ≡ Some Running) × (is_in m t ≡ false)
unrefused m t true e free = running m t e
unrefused m t false e free = absurd (some≢none free)

module _ (p : Parts) (w : WaiterLists) where
  -- a thread's deadline comes, or it is woken, or it runs again after it was taken
  pub placed : (t : ℕ) (old new : Place) → Owed p w → place_at p.places t ≡ Some old
      → ((k : ℕ) → waits_at k new ≡ waits_at k old) → is_waiting new ≡ is_waiting old
      → ((k : ℕ) → is_held k new ≡ true → is_held k old ≡ true)
      → ((k : ℕ) → is_near k old ≡ true → is_near k new ≡ true) → (old ≡ Running → new ≡ Running)
      → Owed (record p { places = slice_set p.places t (Some new) }) w
  placed t old new h at waits waiting free near runs = (
    sound_place (machine p) t old new h.0 at waits free near runs,
    room_next w w p.places p.max_threads (length p.by_thread) t old (Some new) h.1 at refl
        (let e : flag (is_waiting new) ≡ flag (is_waiting old) = ap flag waiting in omega arith),
  )

  -- a deadline that comes moves nobody
  pub placed_late : (t : ℕ) (old : Place) → Owed p w → place_at p.places t ≡ Some old
      → Owed (record p { places = slice_set p.places t (Some (late old)) }) w
  placed_late t Running h at = placed t Running Running h at (λ k. refl) refl (λ k e. e) (λ k e. e) (λ e. refl)
  placed_late t (Waiting key s) h at = placed t (Waiting key s) (late (Waiting key s)) h at (λ k. refl) refl
      (λ k e. e) (λ k e. e) (λ e. absurd (waiting≢running e))
  placed_late t (Held key s) h at = placed t (Held key s) (late (Held key s)) h at (λ k. refl) refl (λ k e. e)
      (λ k e. e) (λ e. absurd (held≢running e))
  placed_late t (Taken token key s b) h at = placed t (Taken token key s b) (late (Taken token key s b)) h at
      (λ k. refl) refl (λ k e. e) (λ k e. e) (λ e. absurd (taken≢running e))

  -- a taken thread is woken, or runs
  pub placed_roused : (t : ℕ) (old : Place) → Owed p w → place_at p.places t ≡ Some old
      → Owed (record p { places = slice_set p.places t (Some (roused old)) }) w
  placed_roused t Running h at = placed t Running Running h at (λ k. refl) refl (λ k e. e) (λ k e. e) (λ e. refl)
  placed_roused t (Waiting key s) h at = placed t (Waiting key s) (Waiting key s) h at (λ k. refl) refl (λ k e. e)
      (λ k e. e) (λ e. e)
  placed_roused t (Held key s) h at = placed t (Held key s) (Held key s) h at (λ k. refl) refl (λ k e. e) (λ k e. e)
      (λ e. e)
  placed_roused t (Taken token key s b) h at = placed t (Taken token key s b) (Taken token key s true) h at (λ k. refl)
      refl (λ k e. e) (λ k e. e) (λ e. absurd (taken≢running e))

  pub placed_running : (t : ℕ) (token : UnparkToken) (key : ℕ) (s : Sleep) (b : Bool) → Owed p w
      → place_at p.places t ≡ Some (Taken token key s b)
      → Owed (record p { places = slice_set p.places t (Some Running) }) w
  placed_running t token key s b h at = placed t (Taken token key s b) Running h at (λ k. refl) refl
      (λ k e. absurd (false≢true e)) (λ k e. refl) (λ e. refl)

  -- a registered thread's resources change
  pub owned_changed : (t : ℕ) (keys : List ℕ) (owned : List (Entry ℕ)) → Owed p w → is_some (place_at p.places t) ≡ true
      → lists_of owned ≡ updated (lists_of p.owned) t keys → Owed (record p { owned = owned }) w
  owned_changed t keys owned h there e =
      let at = some_of (place_at p.places t) there in (
        subst (λ (resources : ℕ → List ℕ). Sound (record (machine p) { resources = resources })) (sym e)
            (sound_owned (machine p) t at.0 keys h.0 at.1),
        h.1,
      )

  -- a number is given back
  pub gone : (t : ℕ) (owned : List (Entry ℕ)) → Owed p w → retire_fault (machine p) t ≡ None
      → lists_of owned ≡ updated (lists_of p.owned) t []
      → Owed (record p { owned = owned; places = slice_set p.places t None }) w
  gone t owned h free e =
      let at = unrefused (machine p) t (runs (status_at (machine p) t)) refl free in (
        subst (λ (resources : ℕ → List ℕ). Sound
            (record (machine p) { resources = resources; places = slice_set p.places t None })) (sym e)
            (sound_retired (machine p) t h.0 at.0 at.1),
        room_next w w p.places p.max_threads (length p.by_thread) t Running None h.1 at.0 refl (omega arith),
      )

-- a section that comes on, and one that closes
module _ (p : Parts) (w : WaiterLists) where
  -- buckets that are kept so, where it is known what they hold
  pub kept_so : (bs : List (Option Section)) (ts : List (Option ℕ)) (ss : ℕ → Option Section) (is : ℕ → Option ℕ)
      → Room w p.places p.max_threads (length p.by_thread) → length bs ≡ length p.by_bucket → slot bs ≡ ss
      → slot ts ≡ is → length p.by_thread ≤ length ts → Sound (record (machine p) { sections = ss; inside = is })
      → Owed (record p { by_bucket = bs; by_thread = ts }) w
  kept_so bs ts ss is room e f g more h =
      let u = room.enters in (
        subst (λ (b : ℕ). Sound (record (machine p) { buckets = b; sections = slot bs; inside = slot ts })) (sym e)
            (subst (λ (x : ℕ → Option Section). Sound (record (machine p) { sections = x; inside = slot ts })) (sym f)
            (subst (λ (x : ℕ → Option ℕ). Sound (record (machine p) { sections = ss; inside = x })) (sym g) h)),
        record {
          waits = room.waits;
          room = room.room;
          enters = omega arith;
          threads = room.threads;
          limit = room.limit;
        },
      )

  -- one that sleeps is back
  pub section_back : (t key : ℕ) → Owed p w → return_fault (machine p) t key ≡ None
      → Sound (record (machine p) {
        sections = updated (slot p.by_bucket) (key % length p.by_bucket) (Some (back_in t key));
        inside = updated (slot p.by_thread) t (Some key);
      })
  section_back t key h e =
      let n = entering (machine p) key (option_map_or (may_return key) (place_at p.places t) false) e in
      subst Sound (returned_as (machine p) t key) (sound_returned (machine p) t key h.0 n.1 n.0)

  -- who is registered, and who is in a section, has a seat
  pub has_seat : (t k : ℕ) → Owed p w → slot p.by_thread t ≡ Some k → t < length p.by_thread
  has_seat t k h at = by (place_at p.places t) refl (h.0.near t k at)
    where
      by : (o : Option Place) → place_at p.places t ≡ o → option_map_or (is_near k) o false ≡ true
          → t < length p.by_thread
      by None e near = absurd (false≢true near)
      by (Some q) e near = seated w p.places p.max_threads (length p.by_thread) t q h.1 e

  pub may_return_seat : (t key : ℕ) → Owed p w → return_fault (machine p) t key ≡ None → t < length p.by_thread
  may_return_seat t key h e = by (place_at p.places t) refl
      (entering (machine p) key (option_map_or (may_return key) (place_at p.places t) false) e).0
    where
      by : (o : Option Place) → place_at p.places t ≡ o → option_map_or (may_return key) o false ≡ true
          → t < length p.by_thread
      by None e may = absurd (false≢true may)
      by (Some q) e may = seated w p.places p.max_threads (length p.by_thread) t q h.1 e

  pub section_closed : (key : ℕ) (woken : Bool) → Owed p w → IsOpen (machine p) key
      → Sound (closed (machine p) key woken)
      × Room w (closed (machine p) key woken).places p.max_threads (length p.by_thread)
  section_closed key woken h is_open =
      let f = option_map (told key (token_of (machine p) key) woken) in
      let c = count_by-map_same waits f (told_waiting key (token_of (machine p) key) woken) p.places in
      let l = length-map p.places f in
      let r = h.1.waits in
      let s = h.1.room in
      let t = h.1.threads in
      let u = h.1.enters in (
        subst (λ (k : ℕ). Sound (closed (machine p) k woken)) is_open.2
            (sound_closed (machine p) woken h.0 is_open.0
            (ap (open_at (machine p)) is_open.2 ∙ is_open.1)),
        record {
          waits = omega arith;
          room = omega arith;
          enters = omega arith;
          threads = omega arith;
          limit = h.1.limit;
        },
      )
    where
      told_waiting : (key : ℕ) (token : UnparkToken) (woken : Bool) (o : Option Place)
          → waits (option_map (told key token woken) o) ≡ waits o
      told_waiting key token woken None = refl
      told_waiting key token woken (Some Running) = refl
      told_waiting key token woken (Some (Waiting at s)) = refl
      told_waiting key token woken (Some (Held at s)) =
          elim (at == key) as (λ b. is_waiting (cond b (Taken token at s woken) (Held at s)) ≡ false)
          [ true ↦ refl | false ↦ refl ]
      told_waiting key token woken (Some (Taken t at s b)) = refl

  -- a thread joins a list
  pub joined_parts : (v : WaiterLists) (t key : ℕ) (token : ParkToken) (timed : Bool) → Owed p w
      → place_at p.places t ≡ Some Running → ((k : ℕ) → slot p.by_thread t ≡ Some k → k ≡ key)
      → ((b : ℕ) (s : Section) → slot p.by_bucket b ≡ Some s → s.thread ≡ Some t → may_join s.phase ≡ false)
      → lists_of v.entries ≡ updated (lists_of p.waiting) key
      (lists_of p.waiting key ++ record { thread = t; token = token } ∷ []) → total v ≡ total w + 1
      → room v ≡ room w
      → let mark = (p.sleeps + 1) % 2 ^ 64 in
      Owed (record p {
        sleeps = mark;
        waiting = v.entries;
        places = slice_set p.places t (Some (Waiting key (record { mark = mark; timed = timed; late = false })));
      }) v
  joined_parts v t key token timed h at near outside kept more same =
      let place : Place = Waiting key (record { mark = (p.sleeps + 1) % 2 ^ 64; timed = timed; late = false }) in (
        subst (λ (qs : ℕ → List Waiter). Sound (record (joined (machine p) t key token timed) { queues = qs }))
            (sym kept) (sound_joined (machine p) t key token timed h.0 at near outside),
        room_next w v p.places p.max_threads (length p.by_thread) t Running (Some place) h.1 at same (omega arith),
      )

  -- nobody is taken where the list has ended
  pub nobody_taken : (v : WaiterLists) (key nth : ℕ) → Owed p w → None ≡ slice_get (lists_of p.waiting key) nth
      → lists_of v.entries ≡ updated (lists_of p.waiting) key (remove (lists_of p.waiting key) nth)
      → total w ≡ total v + 0 → room v ≡ room w
      → Owed (record p { waiting = v.entries }) v
  nobody_taken v key nth h none kept count same =
      let past : length (lists_of p.waiting key) ≤ nth = slice_get_none (lists_of p.waiting key) nth (sym none) in
      let r = h.1.waits in
      let s = h.1.room in (
        subst (λ (qs : ℕ → List Waiter). Sound (record (machine p) { queues = qs }))
            (updated_past (lists_of p.waiting) key nth past ∙ sym kept) h.0,
        record {
          waits = omega arith;
          room = omega arith;
          enters = h.1.enters;
          threads = h.1.threads;
          limit = h.1.limit;
        },
      )

  module _ (v : WaiterLists) (key nth : ℕ) (x : Waiter) (h : Owed p w)
      (at : slice_get (lists_of p.waiting key) nth ≡ Some x) where
    stands : (f : Place → Place) → let sleep = (waiter_place (machine p) key nth x h.0 at).0 in
        slice_set p.places x.thread (Some (f (Waiting key sleep))) ≡ changed f p.places x.thread
    stands f = ap (λ o. slice_set p.places x.thread (option_map f o))
        (sym (waiter_place (machine p) key nth x h.0 at).1)

    -- a waiter is taken out and held
    pub held_parts : IsOpen (machine p) key → lists_of v.entries ≡ updated (lists_of p.waiting) key
        (remove (lists_of p.waiting key) nth) → total w ≡ total v + 1 → room v ≡ room w
        → Owed (record p { waiting = v.entries; places = changed (held key) p.places x.thread }) v
    held_parts open_so kept count same =
        let s = waiter_place (machine p) key nth x h.0 at in
        subst (λ (ps : List (Option Place)). Owed (record p { waiting = v.entries; places = ps }) v)
        (stands (held key)) (
          subst (λ (qs : ℕ → List Waiter). Sound
              (record (machine p) { queues = qs; places = slice_set p.places x.thread (Some (Held key s.0)) }))
              (sym kept)
              (sound_left (machine p) key nth x h.0 at (Held key s.0) (λ k. refl)
              (λ k is. subst (λ (j : ℕ). IsOpen (machine p) j) (eqb-true key k is) open_so) (λ k is. is)),
          room_next w v p.places p.max_threads (length p.by_thread) x.thread (Waiting key s.0)
              (Some (Held key s.0)) h.1 s.1 same
              (omega arith),
        )

    -- it stands in no list then, and has a node
    pub apart_left : lists_of v.entries ≡ updated (lists_of p.waiting) key (remove (lists_of p.waiting key) nth)
        → (k : ℕ) → count_by (is_thread x.thread) (lists_of v.entries k) ≡ 0
    apart_left kept k =
        let f = lists_of p.waiting in
        let its = is_thread x.thread in
        let s = waiter_place (machine p) key nth x h.0 at in
        let times : (j : ℕ) → count_by its (f j) ≡ times_at j (Some (Waiting key s.0)) =
        λ j. h.0.waits x.thread j ∙ ap (times_at j) s.1 in
        ap (λ (qs : ℕ → List Waiter). count_by its (qs k)) kept
        ∙ by_eqb k key (count_by its (updated f key (remove (f key) nth) k) ≡ 0)
        (λ same.
        let a = count_by-remove its (f key) nth x at in
        let b : flag (its x) ≡ 1 = ap flag (eq-eqb x.thread x.thread refl) in
        let c : count_by its (f key) ≡ 1 = times key ∙ ap flag (eq-eqb key key refl) in
        ap (λ j. count_by its (updated f key (remove (f key) nth) j)) same
        ∙ (ap (count_by its) (updated_at f key (remove (f key) nth)) ∙ omega (arith, a, b, c)))
        (λ other. ap (count_by its) (updated_other f key (remove (f key) nth) k other)
        ∙ (times k ∙ ap flag (eqb_false_symm k key other)))

    pub noded_left : room v ≡ room w → x.thread < room v
    noded_left same =
        let s = waiter_place (machine p) key nth x h.0 at in
        let n = noded w p.places p.max_threads (length p.by_thread) x.thread (Waiting key s.0) h.1 s.1 in
        omega (arith, n, same)

    pub room_behind : total w ≡ total v + 1 → room v ≡ room w → total v < room v
    room_behind count same =
        let n = all_noded w p.places p.max_threads (length p.by_thread) h.1 in
        omega (arith, n, count, same)

    -- it moves to another list
    pub moved_parts : (u : WaiterLists) (to : ℕ)
        → ((s : Section) → open_at (machine p) key ≡ Some s → s.thread ≡ None)
        → lists_of v.entries ≡ updated (lists_of p.waiting) key (remove (lists_of p.waiting key) nth)
        → lists_of u.entries ≡ updated (lists_of v.entries) to (lists_of v.entries to ++ x ∷ [])
        → total w ≡ total v + 1 → total u ≡ total v + 1 → room u ≡ room w
        → Owed (record p { waiting = u.entries; places = changed (moved_to to) p.places x.thread }) u
    moved_parts u to nobody kept pushed count more same =
        let s = waiter_place (machine p) key nth x h.0 at in
        let outside : slot p.by_thread x.thread ≡ None =
        waits_outside (machine p) x.thread key (Waiting key s.0) h.0 s.1
        (λ k is. sym (eqb-true key k is)) nobody in
        subst (λ (ps : List (Option Place)). Owed (record p { waiting = u.entries; places = ps }) u)
        (stands (moved_to to)) (
          subst (λ (qs : ℕ → List Waiter). Sound
              (record (machine p) { queues = qs; places = slice_set p.places x.thread (Some (Waiting to s.0)) }))
              (sym (pushed ∙ ap (λ (qs : ℕ → List Waiter). updated qs to (qs to ++ x ∷ [])) kept))
              (sound_relisted (machine p) key nth x h.0 at to s.0 outside),
          room_next w u p.places p.max_threads (length p.by_thread) x.thread (Waiting key s.0)
              (Some (Waiting to s.0)) h.1 s.1 same
              (omega arith),
        )

-- the first waiter of a list moves, or there is none
pub first_moves : (m : Machine) (from to : ℕ) (w : Waiter) (qs rs : ℕ → List Waiter) (ps : List (Option Place))
    → slice_get (m.queues from) 0 ≡ Some w
    → qs ≡ updated m.queues from (remove (m.queues from) 0) → rs ≡ updated qs to (qs to ++ w ∷ [])
    → ps ≡ changed (moved_to to) m.places w.thread
    → record m { queues = rs; places = ps } ≡ moved_first m from to
first_moves m from to w qs rs ps at taken pushed placed =
    ap (λ (xs : ℕ → List Waiter). record m { queues = xs; places = ps })
    (pushed ∙ ap (λ (xs : ℕ → List Waiter). updated xs to (xs to ++ w ∷ [])) taken)
    ∙ (ap (λ (xs : List (Option Place)). record (moved m from to (w ∷ []) (remove (m.queues from) 0)) { places = xs })
    placed
    ∙ sym (ap (λ o. option_map_or (λ x. moved m from to (x ∷ []) (remove (m.queues from) 0)) o m) at))

pub first_stays : (m : Machine) (from to : ℕ) (qs : ℕ → List Waiter) → None ≡ slice_get (m.queues from) 0
    → qs ≡ updated m.queues from (remove (m.queues from) 0) → record m { queues = qs } ≡ moved_first m from to
first_stays m from to qs none taken =
    ap (λ (xs : ℕ → List Waiter). record m { queues = xs })
    (taken ∙ sym (updated_past m.queues from 0 (slice_get_none (m.queues from) 0 (sym none))))
    ∙ sym (ap (λ o. option_map_or (λ x. moved m from to (x ∷ []) (remove (m.queues from) 0)) o m) (sym none))

-- a waiting thread takes itself out of its list, and runs
module _ (p : Parts) (w v : WaiterLists) (t key : ℕ) (s : Sleep) (h : Owed p w)
    (at : place_at p.places t ≡ Some (Waiting key s)) where
  abbrev queue : List Waiter
  queue = lists_of p.waiting key

  itself : (x : Waiter) × (slice_get queue (position_or_len (is_thread t) queue) ≡ Some x) × (is_thread t x ≡ true)
  itself = first_passes (is_thread t) queue
      (subst (λ (n : ℕ). 1 ≤ n) (sym (h.0.waits t key ∙ (ap (times_at key) at ∙ ap flag (eq-eqb key key refl))))
      (omega arith))

  pub found_itself : is_some (position (is_thread t) queue) ≡ true
  found_itself = ap is_some
      (position_passes (is_thread t) queue
      (slice_get_within queue (position_or_len (is_thread t) queue) itself.0 itself.1))

  pub gave_up : lists_of v.entries ≡ updated (lists_of p.waiting) key (without_first (is_thread t) queue)
      → total w ≡ total v + 1 → room v ≡ room w
      → Owed (record p { waiting = v.entries; places = slice_set p.places t (Some Running) }) v
  gave_up kept count same =
      let same_thread : itself.0.thread ≡ t = eqb-true itself.0.thread t itself.2 in (
        subst (λ (qs : ℕ → List Waiter). Sound
            (record (machine p) { queues = qs; places = slice_set p.places t (Some Running) })) (sym kept)
            (subst (λ (u : ℕ). Sound
            (record (machine p) {
              queues = updated (lists_of p.waiting) key (without_first (is_thread t) queue);
              places = slice_set p.places u (Some Running);
            })) same_thread
            (sound_left (machine p) key (position_or_len (is_thread t) queue) itself.0 h.0 itself.1 Running (λ k. refl)
            (λ k is. absurd (false≢true is)) (λ k is. refl))),
        room_next w v p.places p.max_threads (length p.by_thread) t (Waiting key s) (Some Running) h.1 at same
            (omega arith),
      )
