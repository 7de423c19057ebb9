-- The acts of a call keep what fits of the lot.
use Rattle.std.proofs.Common.{◌≡◌, ◌<◌, ℕ, ◌+◌, ◌*◌, ◌==◌, ◌⊎◌, inl, inr, Bool, false, List, length, Option, Some, None}
use Rattle.std.proofs.Common.{slice_get, slice_set, refl, sym, ap, ◌∙◌, subst, ◌≤◌, ◌%◌, true, cond, map, arith, eq-eqb}
use Rattle.std.specs.Option.{option_map_or, option_and_then, option_map}
use Rattle.std.proofs.lemmas.Bool.{eqb-false, false≢true, ne_eqb, cond-true, cond-false}
use Rattle.std.proofs.lemmas.List.{length-set}
use Rattle.parking_lot_core_model.specs.declared.parking.ParkToken.{ParkToken}
use Rattle.parking_lot_core_model.specs.declared.parking.UnparkToken.{UnparkToken}
use Rattle.parking_lot_core_model.specs.declared.place.Place.{Place}
use Rattle.parking_lot_core_model.specs.declared.place.Place.TheVariants.{Running, Held, Taken, Waiting}
use Rattle.parking_lot_core_model.specs.declared.place.Sleep.{Sleep}
use Rattle.parking_lot_core_model.specs.declared.place.Waiter.{Waiter}
use Rattle.parking_lot_core_model.specs.Lists.{updated}
use Rattle.parking_lot_core_model.specs.declared.place.Section.{Section}
use Rattle.parking_lot_core_model.specs.Machine.{Machine, fresh_section, let_out, opened, in_phase, stored, closed}
use Rattle.parking_lot_core_model.specs.Machine as core_lot
use Rattle.parking_lot_core_model.specs.Places.{place_at, is_held, mark_of, may_take, may_store, told}
use Rattle.parking_lot_core_model.specs.Sound.{Sound}
use Rattle.parking_lot_core_model.proofs.Kept.{by_eqb, updated_at, updated_other, updated_twice}
use Rattle.parking_lot_core_model.proofs.Entering.{none≢some, closed_as}
use Rattle.parking_lot_core_model.proofs.Sounds.{place_at-map}
use Rattle.parking_lot_protocol.specs.declared.act.ActResult.{ActResult}
use Rattle.parking_lot_machine_calls.specs.declared.seat.WakeResult.{WakeResult}
use Rattle.parking_lot_machine_calls.specs.declared.seat.QueuePosition.{QueuePosition}
use Rattle.parking_lot_machine_calls.specs.declared.open_call.Call.{Call}
use Rattle.parking_lot_machine.specs.Rows.{State, bucket, call_at, open_at, word_at, taken_by}
use Rattle.parking_lot_machine_calls.specs.Stances.{Stance, Out, In, Asleep, stance, taken_count, Doing, Looks}
use Rattle.parking_lot_machine_calls.specs.Stances.{TurnsBack, Joins, Joined, Takes, Stores, Tells}
use Rattle.parking_lot_machine.specs.RowActs.{with_call, with_lot, list_in, key_in, entered, checked, took_nobody, left}
use Rattle.parking_lot_machine_calls.specs.CallActs.{hears, told_of, key_of, joins}
use Rattle.parking_lot_machine.specs.RowFits.{IsInside, IsAt, PlaceWhile, SaidIn, Stands, SeatedIn, LotFits, HasCome}
use Rattle.parking_lot_machine.specs.RowFits.{TakersAreOut, WakesSome}
use Rattle.parking_lot_machine_calls.specs.StanceLaws.{StaysOut, LeavesFor}
use Rattle.parking_lot_machine_calls.proofs.Stancing.{wakes_some}
use Rattle.parking_lot_machine.proofs.Carrying.{call_within, set_elsewhere, Carries, carries_same, IsAwake, IsUp}
use Rattle.parking_lot_machine.proofs.Carrying.{carries_awake, carries_begun, carries_ended, carried, carries_lain}
use Rattle.parking_lot_machine.proofs.Carrying.{outs_still, taken_some}
use Rattle.parking_lot_rules.proofs.Slots.{set_there}
use Rattle.parking_lot_core_model.specs.declared.place.Phase.{Phase}
use Rattle.parking_lot_core_model.specs.Results.{is_left}
use Rattle.parking_lot_protocol.specs.declared.act.ActResult.TheVariants as seen

-- THREADS AND SECTIONS

pub same_number : {a b : ℕ} → Some a ≡ Some b → a ≡ b
same_number e = cc

pub same_section : {a b : Section} → Some a ≡ Some b → a ≡ b
same_section e = cc

-- a thread has one section
pub one_bucket : (s : State) → LotFits s → (t a b : ℕ) (x y : Section) → s.lot.sections a ≡ Some x → x.thread ≡ Some t
    → s.lot.sections b ≡ Some y → y.thread ≡ Some t → a ≡ b
one_bucket s h t a b x y at whose at' whose' =
    let fit = h.sound.fit in
    let same : x.key ≡ y.key = same_number (sym (fit.owner a x t at whose) ∙ fit.owner b y t at' whose') in
    sym (fit.bucket a x at) ∙ (ap (λ (k : ℕ). k % s.lot.buckets) same ∙ fit.bucket b y at')

-- and none where it is in none
pub no_section : (s : State) → LotFits s → (t b : ℕ) (x : Section) → s.lot.inside t ≡ None → s.lot.sections b ≡ Some x
    → x.thread ≡ Some t → ⊥
no_section s h t b x out at whose = none≢some (sym out ∙ h.sound.fit.owner b x t at whose)

-- another thread's stance, where sections or its place change
pub apart : (v j : ℕ) (a : Stance) (at at' : QueuePosition) (place place' : Option Place) (inside inside' : Option ℕ)
    (secs secs' : ℕ → Option Section)
    → inside' ≡ inside
    → (place ≡ Some Running → place' ≡ Some Running)
    → ((k : ℕ) (how : Doing) (o : Section) → a ≡ In k how → secs (2 * j + k) ≡ Some o → o.thread ≡ Some v
    → (secs' (2 * j + k) ≡ Some o)
    × (PlaceWhile how at place (2 * j + k) → PlaceWhile how at' place' (2 * j + k)))
    → ((k : ℕ) (token : ParkToken) → a ≡ Asleep k token → IsAt at place secs (2 * j + k)
    → IsAt at' place' secs' (2 * j + k))
    → Stands v j a at place inside secs → Stands v j a at' place' inside' secs'
apart v j Out at at' place place' inside inside' secs secs' same runs stays lies h = (runs h.0, same ∙ h.1)
apart v j (In k how) at at' place place' inside inside' secs secs' same runs stays lies h =
    let x = stays k how h.0 refl h.1 h.2 in (h.0, x.0, h.2, h.3, h.4, x.1 h.5, same ∙ h.6)
apart v j (Asleep k token) at at' place place' inside inside' secs secs' same runs stays lies h =
    (lies k token refl h.0, same ∙ h.1)

-- a sleeper, where its place is the same
pub lies_still : (at : QueuePosition) (place : Option Place) (secs secs' : ℕ → Option Section) (key : ℕ)
    → ((by : ℕ) (said : WakeResult) (o : Section) → at ≡ QueuePosition.Off by said → secs key ≡ Some o
    → o.thread ≡ Some by → SaidIn o said → (o' : Section) × (secs' key ≡ Some o') × (o'.thread ≡ Some by)
    × SaidIn o' said)
    → IsAt at place secs key → IsAt at place secs' key
lies_still QueuePosition.Listed place secs secs' key kept h = h
lies_still (QueuePosition.Off by said) place secs secs' key kept h = (h.0, h.1, go h.2)
  where
    go : ((place ≡ Some (Held key h.0)) × (opened : Section) × (secs key ≡ Some opened) × (opened.thread ≡ Some by)
        × SaidIn opened said)
        ⊎ ((token : UnparkToken) × (place ≡ Some (Taken token key h.0 false)) × (said ≡ told_of token))
        → ((place ≡ Some (Held key h.0)) × (opened : Section) × (secs' key ≡ Some opened) × (opened.thread ≡ Some by)
        × SaidIn opened said)
        ⊎ ((token : UnparkToken) × (place ≡ Some (Taken token key h.0 false)) × (said ≡ told_of token))
    go (inl x) = let y = kept by said x.1 refl x.2 x.3 x.4 in inl (x.0, y.0, y.1, y.2, y.3)
    go (inr x) = inr x

-- THE CALL OF ONE THREAD

-- nothing of the lot changes, whatever words and holds do
pub same_parts : (s u : State) → u.calls ≡ s.calls → u.wakes ≡ s.wakes → u.lot ≡ s.lot → LotFits s → LotFits u
same_parts s u calls wakes lot h =
    let at : (v : ℕ) → call_at u v ≡ call_at s v =
    λ v. ap (λ (cs : List (Option Call)). option_and_then (λ x. x) (slice_get cs v)) calls in
    let place : (v : ℕ) → place_at u.lot.places v ≡ place_at s.lot.places v =
    λ v. ap (λ (m : Machine). place_at m.places v) lot in
    carried s u h (λ v. carries_same (call_at s v) (call_at u v) (at v)) (ap length calls)
    (subst Sound (sym lot) h.sound) wakes (ap (λ (m : Machine). m.queues) lot)
    (λ v k token c is asleep. ap (λ o. option_map_or mark_of o 0) (place v))
    (outs_still s u.lot h place (λ b out. ap (λ (m : Machine). m.inside b) lot ∙ out))
    (λ v low. subst (λ (o : Option Call). SeatedIn u.lot v o) (sym (at v))
    (subst (λ (m : Machine). SeatedIn m v (call_at s v)) (sym lot)
    (h.seated v (subst (λ (cs : List (Option Call)). v < length cs) calls low))))
    (λ b section is. let o = h.opened b section (sym (ap (λ (m : Machine). m.sections b) lot) ∙ is) in
    (o.0, o.1, subst (λ (cs : List (Option Call)). o.0 < length cs) (sym calls) o.2))

module _ (s : State) (t : ℕ) (h : LotFits s) (low : t < length s.calls) where
  -- One thread's call changes, and the lot in what the act does to it.
  module _ (o : Option Call) (lot : Machine) where
    pub changed_here : call_at (with_lot (record s { calls = slice_set s.calls t o }) lot) t ≡ o
    changed_here = set_there s.calls t o low

    pub changed_there : (v : ℕ) → (v == t) ≡ false → call_at (with_lot (record s { calls = slice_set s.calls t o }) lot)
        v ≡ call_at s v
    changed_there v e = set_elsewhere s.calls t v o e

    pub same_length : length (slice_set s.calls t o) ≡ length s.calls
    same_length = length-set s.calls t o

    pub carries_one : Carries (call_at s t) o → (v : ℕ)
        → Carries (call_at s v) (call_at (with_lot (record s { calls = slice_set s.calls t o }) lot) v)
    carries_one c v = by_eqb v t
        (Carries (call_at s v) (call_at (with_lot (record s { calls = slice_set s.calls t o }) lot) v))
        (λ e. subst (λ (w : ℕ). Carries (call_at s w)
        (call_at (with_lot (record s { calls = slice_set s.calls t o }) lot) w)) (sym e)
        (subst (Carries (call_at s t)) (sym changed_here) c))
        (λ e. carries_same (call_at s v) (call_at (with_lot (record s { calls = slice_set s.calls t o }) lot) v)
        (changed_there v e))

    pub seats_one : SeatedIn lot t o
        → ((v : ℕ) → (v == t) ≡ false → SeatedIn s.lot v (call_at s v) → SeatedIn lot v (call_at s v))
        → (v : ℕ) → v < length (slice_set s.calls t o)
        → SeatedIn lot v (call_at (with_lot (record s { calls = slice_set s.calls t o }) lot) v)
    seats_one own others v l =
        by_eqb v t (SeatedIn lot v (call_at (with_lot (record s { calls = slice_set s.calls t o }) lot) v))
        (λ e. subst (λ (w : ℕ). SeatedIn lot w
        (call_at (with_lot (record s { calls = slice_set s.calls t o }) lot) w)) (sym e)
        (subst (λ (x : Option Call). SeatedIn lot t x) (sym changed_here) own))
        (λ e. subst (λ (x : Option Call). SeatedIn lot v x) (sym (changed_there v e))
        (others v e (h.seated v (subst (λ (n : ℕ). v < n) same_length l))))

    pub acted : Carries (call_at s t) o → Sound lot → lot.queues ≡ s.lot.queues
        → ((v k : ℕ) (token : ParkToken) (c : Call) → call_at s v ≡ Some c → stance c.core ≡ Asleep k token
        → option_map_or mark_of (place_at lot.places v) 0 ≡ option_map_or mark_of (place_at s.lot.places v) 0)
        → TakersAreOut s lot
        → SeatedIn lot t o
        → ((v : ℕ) → (v == t) ≡ false → SeatedIn s.lot v (call_at s v) → SeatedIn lot v (call_at s v))
        → ((b : ℕ) (section : Section) → lot.sections b ≡ Some section → (w : ℕ) × (section.thread ≡ Some w)
        × (w < length s.calls))
        → LotFits (with_lot (record s { calls = slice_set s.calls t o }) lot)
    acted carries sound queues marks outs own others opened =
        carried s (with_lot (record s { calls = slice_set s.calls t o }) lot) h (carries_one carries) same_length sound
        refl queues marks outs (seats_one own others)
        (λ b section is. let x = opened b section is in (x.0, x.1, subst (λ (n : ℕ). x.0 < n) (sym same_length) x.2))

  -- nothing of the lot changes
  pub quiet : (o : Option Call) → Carries (call_at s t) o → SeatedIn s.lot t o
      → LotFits (record s { calls = slice_set s.calls t o })
  quiet o carries own = acted o s.lot carries h.sound refl (λ v k token c is asleep. refl) h.outside own (λ v e x. x)
      h.opened

-- a stance that is known
pub seat_of : (s : State) → LotFits s → (t : ℕ) (c : Call) (a : Stance) → call_at s t ≡ Some c → stance c.core ≡ a
    → Stands t c.lock a c.spot (place_at s.lot.places t) (s.lot.inside t) (open_at s)
seat_of s h t c a here is =
    subst (λ (b : Stance). Stands t c.lock b c.spot (place_at s.lot.places t) (s.lot.inside t) (open_at s)) is
    (subst (λ (o : Option Call). SeatedIn s.lot t o) here
    (h.seated t (call_within s t c here)))

pub awake_by : (a b : Stance) → a ≡ b → IsAwake b → IsAwake a
awake_by a b e h = subst IsAwake (sym e) h

pub up_by : (a b : Stance) → a ≡ b → IsUp b → IsUp a
up_by a b e h = subst IsUp (sym e) h

-- ACTS BESIDE SECTIONS

pub stays_out : (s : State) (t : ℕ) (c : Call) (told : ActResult) → LotFits s → call_at s t ≡ Some c → let d =
    hears c told in
    StaysOut (stance c.core) (stance d.core) (taken_count c.core) (taken_count d.core) → LotFits (with_call s t d)
stays_out s t c told h here x =
    let d = hears c told in
    quiet s t h (call_within s t c here) (Some d)
    (subst (λ (o : Option Call). Carries o (Some d)) (sym here)
    (carries_awake c d (awake_by (stance c.core) Out x.0 tt) (up_by (stance d.core) Out x.1 tt) refl x.2
    (λ i. absurd (subst IsInside x.1 i)) (wakes_some c.core told)))
    (subst (λ (a : Stance). Stands t d.lock a d.spot (place_at s.lot.places t) (s.lot.inside t) (open_at s)) (sym x.1)
    (seat_of s h t c Out here x.0))

pub begun_fits : (s : State) (t : ℕ) (c : Call) → LotFits s → t < length s.calls → call_at s t ≡ None → let d =
    hears c ActResult.Start in
    stance d.core ≡ Out → taken_count d.core ≡ 0 → LotFits (with_call s t d)
begun_fits s t c h low here out counts =
    let d = hears c ActResult.Start in
    quiet s t h low (Some d)
    (subst (λ (o : Option Call). Carries o (Some d)) (sym here)
    (carries_begun d (up_by (stance d.core) Out out tt) counts (wakes_some c.core ActResult.Start)))
    (subst (λ (a : Stance). Stands t d.lock a d.spot (place_at s.lot.places t) (s.lot.inside t) (open_at s)) (sym out)
    (subst (λ (o : Option Call). SeatedIn s.lot t o) here (h.seated t low)))

pub ended_fits : (s : State) (t : ℕ) (c : Call) → LotFits s → call_at s t ≡ Some c → stance c.core ≡ Out
    → taken_count c.core ≡ 0 → LotFits (record s { calls = slice_set s.calls t None })
ended_fits s t c h here out counts =
    quiet s t h (call_within s t c here) None
    (subst (λ (o : Option Call). Carries o None) (sym here)
    (carries_ended c (awake_by (stance c.core) Out out tt) counts))
    (seat_of s h t c Out here out)

-- Entering a section, what is done in it to its phase, and leaving it keep what fits of the lot.

-- who has taken nobody has nobody off its list
pub nobody_off : (s : State) → LotFits s → (t : ℕ) (c : Call) → call_at s t ≡ Some c → taken_count c.core ≡ 0
    → (v k : ℕ) (token : ParkToken) (x : Call) (by : ℕ) (said : WakeResult) → by ≡ t → call_at s v ≡ Some x
    → stance x.core ≡ Asleep k token → x.spot ≡ QueuePosition.Off by said → ⊥
nobody_off s h t c here none v k token x by said same is asleep at =
    let o = h.owed v x k token by said is asleep at in
    let some : 1 ≤ length (taken_by s.wakes o.1.by) = taken_some s.wakes o.0 o.1 o.2 in
    let count : length (taken_by s.wakes o.1.by) ≡ length (taken_by s.wakes t) =
    ap (λ (w : ℕ). length (taken_by s.wakes w)) (o.3 ∙ same) in
    let most : length (taken_by s.wakes t) ≤ taken_count c.core = (h.counted t c here).most in
    omega arith

-- a stance, as the seat of a call
pub sits : (t : ℕ) (d : Call) (a : Stance) (m : Machine) → stance d.core ≡ a
    → Stands t d.lock a d.spot (place_at m.places t) (m.inside t) (core_lot.open_at m) → SeatedIn m t (Some d)
sits t d a m is h =
    subst (λ (b : Stance). Stands t d.lock b d.spot (place_at m.places t) (m.inside t) (core_lot.open_at m)) (sym is) h

pub carried_awake : (s : State) (t : ℕ) (c d : Call) (a b : Stance) → call_at s t ≡ Some c → stance c.core ≡ a
    → stance d.core ≡ b → IsAwake a → IsUp b → d.lock ≡ c.lock → taken_count d.core ≡ taken_count c.core
    → (IsInside b → IsInside a ⊎ (taken_count c.core ≡ 0)) → WakesSome d.core → Carries (call_at s t) (Some d)
carried_awake s t c d a b here from to awake up lock counts stays some =
    subst (λ (o : Option Call). Carries o (Some d)) (sym here)
    (carries_awake c d (awake_by (stance c.core) a from awake) (up_by (stance d.core) b to up) lock counts
    (λ i. elim (stays (subst IsInside to i)) [ inl j ↦ inl (subst IsInside (sym from) j) | inr z ↦ inr z ]) some)

-- WHAT ANOTHER THREAD SEES OF IT

-- The lot, where another section is open in the bucket of a key, or none.
abbrev pub lot_with_at : State → ℕ → ℕ → (ℕ → List Waiter) → List (Option Place) → Option Section → (ℕ → Option ℕ)
    → Machine
lot_with_at s key sleeps queues places section inside = record s.lot {
  sleeps = sleeps;
  queues = queues;
  places = places;
  sections = updated s.lot.sections (bucket s key) section;
  inside = inside;
}

-- A section before and after an act of thread t, in the bucket of a key: both are its, where one is open.
module _ (s : State) (t : ℕ) (h : LotFits s) (key : ℕ) (before after : Option Section) (was : open_at s key ≡ before)
    (its : (x : Section) → before ≡ Some x → x.thread ≡ Some t) where
  -- another thread's section is elsewhere, and stays open
  pub open_there : (v k : ℕ) (o : Section) → (v == t) ≡ false → open_at s k ≡ Some o → o.thread ≡ Some v
      → updated s.lot.sections (bucket s key) after (bucket s k) ≡ Some o
  open_there v k o e at whose = by_eqb (bucket s k) (bucket s key)
      (updated s.lot.sections (bucket s key) after (bucket s k) ≡ Some o)
      (λ same. absurd (eqb-false v t e
      (same_number (sym whose ∙ its o (sym was ∙ (ap s.lot.sections (sym same) ∙ at))))))
      (λ other. updated_other s.lot.sections (bucket s key) after (bucket s k) other ∙ at)

  -- who is open in any bucket
  pub open_which : (t < length s.calls) → ((x : Section) → after ≡ Some x → x.thread ≡ Some t) → (b : ℕ) (x : Section)
      → updated s.lot.sections (bucket s key) after b ≡ Some x → (w : ℕ) × (x.thread ≡ Some w)
      × (w < length s.calls)
  open_which low mine b x at = by_eqb b (bucket s key)
      ((w : ℕ) × (x.thread ≡ Some w) × (w < length s.calls))
      (λ e. (
        t,
        mine x (sym (updated_at s.lot.sections (bucket s key) after)
            ∙ (ap (updated s.lot.sections (bucket s key) after) (sym e) ∙ at)),
        low,
      ))
      (λ e. h.opened b x (sym (updated_other s.lot.sections (bucket s key) after b e) ∙ at))

  module _ (sleeps : ℕ) (queues : ℕ → List Waiter) (places : List (Option Place)) (inside : ℕ → Option ℕ) where
    -- another's seat
    pub seat_there : (v : ℕ) → (v == t) ≡ false → inside v ≡ s.lot.inside v
        → (place_at s.lot.places v ≡ Some Running → place_at places v ≡ Some Running)
        → ((c : Call) (k : ℕ) (how : Doing) → call_at s v ≡ Some c → stance c.core ≡ In k how
        → PlaceWhile how c.spot (place_at s.lot.places v) (2 * c.lock + k)
        → PlaceWhile how c.spot (place_at places v) (2 * c.lock + k))
        → ((c : Call) (k : ℕ) (token : ParkToken) → call_at s v ≡ Some c → stance c.core ≡ Asleep k token
        → IsAt c.spot (place_at s.lot.places v) (open_at s) (2 * c.lock + k)
        → IsAt c.spot (place_at places v) (core_lot.open_at (lot_with_at s key sleeps queues places after inside))
        (2 * c.lock + k))
        → SeatedIn s.lot v (call_at s v)
        → SeatedIn (lot_with_at s key sleeps queues places after inside) v (call_at s v)
    seat_there v e same runs while_in lies = go (call_at s v) refl
      where
        go : (o : Option Call) → call_at s v ≡ o → SeatedIn s.lot v o
            → SeatedIn (lot_with_at s key sleeps queues places after inside) v o
        go None at x = (runs x.0, same ∙ x.1)
        go (Some c) at x =
            apart v c.lock (stance c.core) c.spot c.spot (place_at s.lot.places v) (place_at places v) (s.lot.inside v)
            (inside v) (open_at s) (core_lot.open_at (lot_with_at s key sleeps queues places after inside)) same runs
            (λ k how o is there whose. (
              open_there v (2 * c.lock + k) o e there whose,
              while_in c k how at is,
            ))
            (λ k token is. lies c k token at is) x

-- a sleeper that a section holds, where its place is the same: the section is another's, and stays, or it is t's
pub held_still : (s : State) (t : ℕ) → LotFits s → (key : ℕ) (before after : Option Section)
    (was : open_at s key ≡ before) (its : (x : Section) → before ≡ Some x → x.thread ≡ Some t) → (secs : ℕ → Option Section)
    → ((k : ℕ) → secs k ≡ updated s.lot.sections (bucket s key) after (bucket s k))
    → (at : QueuePosition) (place : Option Place) (k : ℕ)
    → ((by : ℕ) (said : WakeResult) (o : Section) → by ≡ t → at ≡ QueuePosition.Off by said → open_at s k ≡ Some o
    → o.thread ≡ Some t → SaidIn o said → (o' : Section) × (secs k ≡ Some o') × (o'.thread ≡ Some t) × SaidIn o' said)
    → IsAt at place (open_at s) k → IsAt at place secs k
held_still s t h key before after was its secs is at place k mine =
    lies_still at place (open_at s) secs k
    (λ by said o off there whose in_it. by_eqb by t
    ((o' : Section) × (secs k ≡ Some o') × (o'.thread ≡ Some by) × SaidIn o' said)
    (λ e. let x = mine by said o e off there (whose ∙ ap (λ w. Some w) e) in_it in
    (x.0, x.1, x.2 ∙ ap (λ w. Some w) (sym e), x.3))
    (λ e. (o, is k ∙ open_there s t h key before after was its by k o e there whose, whose, in_it)))

-- ENTERING

module _ (s : State) (t : ℕ) (c : Call) (h : LotFits s) (here : call_at s t ≡ Some c) (k : ℕ)
    (free : open_at s (key_of c k) ≡ None) (sound : Sound (opened s.lot (Some t) (key_of c k))) where
  abbrev enters : Call
  enters = hears c seen.Entered

  abbrev enters_section : Section
  enters_section = fresh_section (Some t) (key_of c k)

  abbrev enters_lot : Machine
  enters_lot = opened s.lot (Some t) (key_of c k)

  -- the section before was nobody's
  none_its : (x : Section) → None ≡ Some x → x.thread ≡ Some t
  none_its x e = absurd (none≢some e)

  entered_as : (b : Stance) → stance c.core ≡ Out → stance enters.core ≡ b → IsUp b
      → taken_count enters.core ≡ taken_count c.core → taken_count c.core ≡ 0
      → (place_at s.lot.places t ≡ Some Running → Stands t c.lock b c.spot (place_at s.lot.places t)
      (enters_lot.inside t) (core_lot.open_at enters_lot)) → LotFits (entered s t c k)
  entered_as b from to up counts idle own =
      let seat = seat_of s h t c Out here from in
      acted s t h (call_within s t c here) (Some enters) enters_lot
      (carried_awake s t c enters Out b here from to tt up refl counts (λ i. inr idle) (wakes_some c.core seen.Entered))
      sound refl
      (λ v j token x is asleep. refl)
      (λ v j x token by said y key sleep is asleep off place.
      updated_other s.lot.inside t (Some (key_of c k)) by
      (ne_eqb by t (λ e. nobody_off s h t c here idle v j token x by said e is asleep off))
      ∙ h.outside v j x token by said y key sleep is asleep off place)
      (sits t enters b enters_lot to (own seat.0))
      (λ v e. seat_there s t h (key_of c k) None (Some enters_section) free none_its s.lot.sleeps s.lot.queues
      s.lot.places enters_lot.inside v e (updated_other s.lot.inside t (Some (key_of c k)) v e) (λ runs. runs)
      (λ x j how at is place. place)
      (λ x j token at asleep. held_still s t h (key_of c k) None (Some enters_section) free none_its
      (core_lot.open_at enters_lot) (λ j'. refl) x.spot (place_at s.lot.places v) (2 * x.lock + j)
      (λ by said o same off there whose in_it. absurd
      (no_section s h t (bucket s (2 * x.lock + j)) o seat.1 there whose))))
      (open_which s t h (key_of c k) None (Some enters_section) free none_its (call_within s t c here)
      (λ x e. ap (λ (y : Section). y.thread) (sym (same_section e))))

  now_open : core_lot.open_at enters_lot (key_of c k) ≡ Some enters_section
  now_open = updated_at s.lot.sections (bucket s (key_of c k)) (Some enters_section)

  now_inside : enters_lot.inside t ≡ Some (key_of c k)
  now_inside = updated_at s.lot.inside t (Some (key_of c k))

  pub entered_fits : stance c.core ≡ Out → (stance enters.core ≡ In k Looks) ⊎ (stance enters.core ≡ In k Takes)
      → taken_count enters.core ≡ taken_count c.core → taken_count c.core ≡ 0 → LotFits (entered s t c k)
  entered_fits from (inl to) counts idle = entered_as (In k Looks) from to tt counts idle
      (λ runs. (enters_section, now_open, refl, refl, refl, runs, now_inside))
  entered_fits from (inr to) counts idle = entered_as (In k Takes) from to tt counts idle
      (λ runs. (enters_section, now_open, refl, refl, refl, runs, now_inside))

-- IN THE SECTION

-- its thread goes on in it: what was said to those that it holds stays so
module _ (s : State) (t : ℕ) (c d : Call) (h : LotFits s) (here : call_at s t ≡ Some c) (key : ℕ) (o o' : Section)
    (was : open_at s key ≡ Some o) (whose : o.thread ≡ Some t) (whose' : o'.thread ≡ Some t) where
  its : (x : Section) → Some o ≡ Some x → x.thread ≡ Some t
  its x e = ap (λ (y : Section). y.thread) (sym (same_section e)) ∙ whose

  module _ (sleeps : ℕ) (queues : ℕ → List Waiter) (places : List (Option Place)) where
    abbrev on : Machine
    on = lot_with_at s key sleeps queues places (Some o') s.lot.inside

    pub now_at : core_lot.open_at on key ≡ Some o'
    now_at = updated_at s.lot.sections (bucket s key) (Some o')

    -- of the others the places stay, and what was said to those that are held
    pub seats_still : (v : ℕ) → (v == t) ≡ false → place_at places v ≡ place_at s.lot.places v
        → ((k : ℕ) (token : ParkToken) (x : Call) (by : ℕ) (said : WakeResult) → by ≡ t → call_at s v ≡ Some x
        → stance x.core ≡ Asleep k token → x.spot ≡ QueuePosition.Off by said → SaidIn o said → SaidIn o' said)
        → SeatedIn s.lot v (call_at s v) → SeatedIn on v (call_at s v)
    seats_still v e place kept =
        seat_there s t h key (Some o) (Some o') was its sleeps queues places s.lot.inside v e refl
        (λ runs. place ∙ runs)
        (λ x j how at is in_it. subst (λ (p : Option Place). PlaceWhile how x.spot p (2 * x.lock + j)) (sym place) in_it)
        (λ x j token at asleep lies. subst (λ (p : Option Place). IsAt x.spot p (core_lot.open_at on) (2 * x.lock + j))
        (sym place)
        (held_still s t h key (Some o) (Some o') was its (core_lot.open_at on) (λ i. refl) x.spot (place_at s.lot.places v)
        (2 * x.lock + j)
        (λ by said y same off there own in_it.
        let b : bucket s (2 * x.lock + j) ≡ bucket s key =
        one_bucket s h t (bucket s (2 * x.lock + j)) (bucket s key) y o there own was whose in
        let one : y ≡ o = same_section (sym there ∙ (ap s.lot.sections b ∙ was)) in (
          o',
          ap (updated s.lot.sections (bucket s key) (Some o')) b ∙ now_at,
          whose',
          kept j token x by said same at asleep off (subst (λ (z : Section). SaidIn z said) one in_it),
        )) lies))

    pub goes_on : Carries (call_at s t) (Some d) → Sound on → queues ≡ s.lot.queues → places ≡ s.lot.places
        → ((v k : ℕ) (token : ParkToken) (x : Call) (by : ℕ) (said : WakeResult) → by ≡ t → call_at s v ≡ Some x
        → stance x.core ≡ Asleep k token → x.spot ≡ QueuePosition.Off by said → SaidIn o said → SaidIn o' said)
        → SeatedIn on t (Some d)
        → LotFits (with_lot (with_call s t d) on)
    goes_on carries sound same_queues same_places kept own =
        let place : (v : ℕ) → place_at places v ≡ place_at s.lot.places v =
        λ v. ap (λ (ps : List (Option Place)). place_at ps v) same_places in
        acted s t h (call_within s t c here) (Some d) on carries sound same_queues
        (λ v j token x at asleep. ap (λ p. option_map_or mark_of p 0) (place v))
        (outs_still s on h place (λ b out. out))
        own
        (λ v e. seats_still v e (place v) (kept v))
        (open_which s t h key (Some o) (Some o') was its (call_within s t c here)
        (λ x e. ap (λ (y : Section). y.thread) (sym (same_section e)) ∙ whose'))

-- the section that is open comes on
pub phase_as : (s : State) (key : ℕ) (o : Section) (ph : Phase) → open_at s key ≡ Some o
    → in_phase s.lot key ph ≡ lot_with_at s key s.lot.sleeps s.lot.queues s.lot.places (Some (record o { phase = ph }))
    s.lot.inside
phase_as s key o ph was =
    ap (λ (x : Option Section). record s.lot {
      sections = updated s.lot.sections (bucket s key) (option_map {T = Section} (λ z. record z { phase = ph }) x);
    }) was

pub stored_as : (s : State) (key : ℕ) (o : Section) (token : UnparkToken) → open_at s key ≡ Some o
    → stored s.lot key token ≡ lot_with_at s key s.lot.sleeps s.lot.queues s.lot.places
    (Some (record o { phase = Phase.Stored; token = token })) s.lot.inside
stored_as s key o token was =
    ap (λ (x : Option Section). record s.lot {
      sections = updated s.lot.sections (bucket s key)
          (option_map {T = Section} (λ z. record z { phase = Phase.Stored; token = token }) x);
    }) was

-- a store in a section that is known
pub restored_as : (s : State) (key sleeps : ℕ) (queues : ℕ → List Waiter) (places : List (Option Place)) (o : Section)
    (inside : ℕ → Option ℕ) (token : UnparkToken) → stored (lot_with_at s key sleeps queues places (Some o) inside) key
    token ≡ lot_with_at s key sleeps queues places (Some (record o { phase = Phase.Stored; token = token })) inside
restored_as s key sleeps queues places o inside token =
    let m : Machine = lot_with_at s key sleeps queues places (Some o) inside in
    ap (λ (x : Option Section). record m {
      sections = updated (updated s.lot.sections (bucket s key) (Some o)) (bucket s key)
          (option_map {T = Section} (λ z. record z { phase = Phase.Stored; token = token }) x);
    }) (updated_at s.lot.sections (bucket s key) (Some o))
    ∙ ap (λ (f : ℕ → Option Section). record m { sections = f })
    (updated_twice s.lot.sections (bucket s key) (Some o) (Some (record o { phase = Phase.Stored; token = token })))

-- the key of the section that a call is in
pub key_is : (c : Call) (k : ℕ) (how : Doing) → stance c.core ≡ In k how → key_in c ≡ key_of c k
key_is c k how from = ap (λ (a : Stance). key_of c (list_in a)) from

-- a check
module _ (s : State) (t : ℕ) (c : Call) (h : LotFits s) (here : call_at s t ≡ Some c) (k : ℕ)
    (from : stance c.core ≡ In k Looks) (none : taken_count c.core ≡ 0) (sound : Sound (checked s t c).lot) where
  abbrev checks : Call
  checks = hears c (seen.Word (word_at s c.lock))

  abbrev phase_by : Stance → Phase
  phase_by a = cond (joins a) Phase.Valid Phase.Invalid

  checked_as : (how : Doing) → stance checks.core ≡ In k how → taken_count checks.core ≡ 0
      → ((o : Section) → o.thread ≡ Some t → o.key ≡ 2 * c.lock + k → place_at s.lot.places t ≡ Some Running
      → (HasCome how (phase_by (In k how)) o.token) × PlaceWhile how c.spot (place_at s.lot.places t) (2 * c.lock + k))
      → LotFits (checked s t c)
  checked_as how to still own =
      let seat = seat_of s h t c (In k Looks) here from in
      let o : Section = seat.0 in
      let ph : Phase = phase_by (stance checks.core) in
      let o' : Section = record o { phase = ph } in
      let on : Machine = lot_with_at s (key_of c k) s.lot.sleeps s.lot.queues s.lot.places (Some o') s.lot.inside in
      let as_lot : (checked s t c).lot ≡ on =
      ap (λ (i : ℕ). in_phase s.lot i ph) (key_is c k Looks from) ∙ phase_as s (key_of c k) o ph seat.1 in
      let mine = own o seat.2 seat.3 seat.5 in
      subst (λ (m : Machine). LotFits (with_lot (with_call s t checks) m)) (sym as_lot)
      (goes_on s t c checks h here (key_of c k) o o' seat.1 seat.2 seat.2 s.lot.sleeps s.lot.queues s.lot.places
      (carried_awake s t c checks (In k Looks) (In k how) here from to tt tt refl (still ∙ sym none) (λ i. inl tt)
      (wakes_some c.core (seen.Word (word_at s c.lock))))
      (subst Sound as_lot sound) refl refl
      (λ v j token x by said same at asleep off in_it. absurd
      (nobody_off s h t c here none v j token x by said same at asleep off))
      (sits t checks (In k how) on to (
        o',
        now_at s t c checks h here (key_of c k) o o' seat.1 seat.2 seat.2 s.lot.sleeps s.lot.queues s.lot.places,
        seat.2,
        seat.3,
        subst (λ (a : Stance). HasCome how (phase_by a) o.token) (sym to) mine.0,
        mine.1,
        seat.6,
      )))

  pub checked_fits : (stance checks.core ≡ In k TurnsBack)
      ⊎ ((token : ParkToken) × (stance checks.core ≡ In k (Joins token))) → taken_count checks.core ≡ 0
      → LotFits (checked s t c)
  checked_fits (inl to) still = checked_as TurnsBack to still (λ o whose key runs. (refl, runs))
  checked_fits (inr to) still = checked_as (Joins to.0) to.1 still (λ o whose key runs. (refl, runs))

-- one that takes has stored nothing
pub takes_unstored : (ph : Phase) → may_take ph ≡ true → ph ≡ Phase.Stored → ⊥
takes_unstored ph may is = absurd (false≢true (sym (ap may_take is) ∙ may))

pub stores_unstored : (ph : Phase) → may_store ph ≡ true → ph ≡ Phase.Stored → ⊥
stores_unstored ph may is = absurd (false≢true (sym (ap may_store is) ∙ may))

-- what was said in a section that takes is said in any later phase in which it may store
pub still_said : (o : Section) (ph : Phase) (said : WakeResult) → may_take o.phase ≡ true → may_store ph ≡ true
    → SaidIn o said → SaidIn (record o { phase = ph }) said
still_said o ph said may store (inl x) = absurd (takes_unstored o.phase may x.0)
still_said o ph said may store (inr x) = inr (store, x.1)

-- a taking that takes nobody
pub took_nobody_fits : (s : State) (t : ℕ) (c : Call) (k : ℕ) → LotFits s → call_at s t ≡ Some c → let d =
    hears c (seen.Took None (is_left (s.lot.queues (key_of c k)))) in
    stance c.core ≡ In k Takes → stance d.core ≡ In k Stores → taken_count d.core ≡ taken_count c.core
    → Sound (took_nobody s t c (key_of c k)).lot → LotFits (took_nobody s t c (key_of c k))
took_nobody_fits s t c k h here from to counts sound =
    let d = hears c (seen.Took None (is_left (s.lot.queues (key_of c k)))) in
    let seat = seat_of s h t c (In k Takes) here from in
    let o : Section = seat.0 in
    let o' : Section = record o { phase = Phase.Ended } in
    let on : Machine = lot_with_at s (key_of c k) s.lot.sleeps s.lot.queues s.lot.places (Some o') s.lot.inside in
    let as_lot : in_phase s.lot (key_of c k) Phase.Ended ≡ on = phase_as s (key_of c k) o Phase.Ended seat.1 in
    subst (λ (m : Machine). LotFits (with_lot (with_call s t d) m)) (sym as_lot)
    (goes_on s t c d h here (key_of c k) o o' seat.1 seat.2 seat.2 s.lot.sleeps s.lot.queues s.lot.places
    (carried_awake s t c d (In k Takes) (In k Stores) here from to tt tt refl counts (λ i. inl tt)
    (wakes_some c.core (seen.Took None (is_left (s.lot.queues (key_of c k))))))
    (subst Sound as_lot sound) refl refl
    (λ v j token x by said same at asleep off in_it. still_said o Phase.Ended said seat.4 refl in_it)
    (sits t d (In k Stores) on to (
      o',
      now_at s t c d h here (key_of c k) o o' seat.1 seat.2 seat.2 s.lot.sleeps s.lot.queues s.lot.places,
      seat.2,
      seat.3,
      refl,
      seat.5,
      seat.6,
    )))

-- LEAVING

told_mark : (key : ℕ) (token : UnparkToken) (p : Place) → mark_of (told key token false p) ≡ mark_of p
told_mark key token Running = refl
told_mark key token (Waiting at sleep) = refl
told_mark key token (Held at sleep) =
    elim (at == key) as (λ b. mark_of (cond b (Taken token at sleep false) (Held at sleep)) ≡ sleep.mark)
    [ true ↦ refl | false ↦ refl ]
told_mark key token (Taken t at sleep b) = refl

told_marks : (key : ℕ) (token : UnparkToken) (p : Option Place)
    → option_map_or mark_of (option_map (told key token false) p) 0 ≡ option_map_or mark_of p 0
told_marks key token None = refl
told_marks key token (Some p) = told_mark key token p

-- who is in a section isn't told
told_while : (key : ℕ) (token : UnparkToken) (how : Doing) (at : QueuePosition) (place : Option Place) (k : ℕ)
    → PlaceWhile how at place k → PlaceWhile how at (option_map (told key token false) place) k
told_while key token Looks at place k h = ap (option_map (told key token false)) h
told_while key token TurnsBack at place k h = ap (option_map (told key token false)) h
told_while key token (Joins park) at place k h = ap (option_map (told key token false)) h
told_while key token (Joined park) at place k h =
    (h.0, (h.1.0, ap (option_map (told key token false)) h.1.1, h.1.2))
told_while key token Takes at place k h = ap (option_map (told key token false)) h
told_while key token Stores at place k h = ap (option_map (told key token false)) h
told_while key token (Tells said) at place k h = ap (option_map (told key token false)) h

same_held : {a b : ℕ} {x y : Sleep} → Some (Held a x) ≡ Some (Held b y) → a ≡ b
same_held e = cc

held_taken : {a b : ℕ} {x y : Sleep} {token : UnparkToken} {w : Bool} → Some (Held a x) ≡ Some (Taken token b y w) → ⊥
held_taken e = cc

-- who was told is so already, or is held by the key's section
told_from : (key : ℕ) (token y : UnparkToken) (k : ℕ) (sleep : Sleep) (p : Option Place)
    → option_map (told key token false) p ≡ Some (Taken y k sleep false)
    → (p ≡ Some (Taken y k sleep false)) ⊎ ((z : Sleep) × (p ≡ Some (Held key z)))
told_from key token y k sleep None e = absurd cc
told_from key token y k sleep (Some Running) e = absurd cc
told_from key token y k sleep (Some (Waiting at z)) e = absurd cc
told_from key token y k sleep (Some (Taken x at z w)) e = inl e
told_from key token y k sleep (Some (Held at z)) e = by_eqb at key
    ((Some (Held at z) ≡ Some (Taken y k sleep false)) ⊎ ((x : Sleep) × (Some (Held at z) ≡ Some (Held key x))))
    (λ same. inr (z, ap (λ (i : ℕ). Some (Held i z)) same))
    (λ other. absurd (held_taken
    (ap (λ p. Some p) (sym (cond-false (at == key) (Taken token at z false) (Held at z) other)) ∙ e)))

-- One that a section of the key held is told, where it is the thread's that leaves; all others stay.
told_lies : (at : QueuePosition) (place : Option Place) (secs secs' : ℕ → Option Section) (key : ℕ)
    (token : UnparkToken) (k : ℕ)
    → ((by : ℕ) (said : WakeResult) (o : Section) (sleep : Sleep) → place ≡ Some (Held k sleep)
    → at ≡ QueuePosition.Off by said → secs k ≡ Some o → o.thread ≡ Some by → SaidIn o said
    → ((k ≡ key) × (said ≡ told_of token)) ⊎ (((k == key) ≡ false) × (secs' k ≡ Some o)))
    → IsAt at place secs k → IsAt at (option_map (told key token false) place) secs' k
told_lies QueuePosition.Listed place secs secs' key token k kept h =
    (h.0, ap (option_map (told key token false)) h.1, h.2)
told_lies (QueuePosition.Off by said) place secs secs' key token k kept h = (h.0, h.1, go h.2)
  where
    go : ((place ≡ Some (Held k h.0)) × (opened : Section) × (secs k ≡ Some opened) × (opened.thread ≡ Some by)
        × SaidIn opened said) ⊎ ((x : UnparkToken) × (place ≡ Some (Taken x k h.0 false)) × (said ≡ told_of x))
        → ((option_map (told key token false) place ≡ Some (Held k h.0)) × (opened : Section)
        × (secs' k ≡ Some opened) × (opened.thread ≡ Some by) × SaidIn opened said)
        ⊎ ((x : UnparkToken) × (option_map (told key token false) place ≡ Some (Taken x k h.0 false))
        × (said ≡ told_of x))
    go (inr x) = inr (x.0, ap (option_map (told key token false)) x.1, x.2)
    go (inl x) = elim (kept by said x.1 h.0 x.0 refl x.2 x.3 x.4) [
      | inl y ↦ inr (
        token,
        ap (option_map (told key token false)) x.0
            ∙ ap (λ z. Some z) (cond-true (k == key) (Taken token k h.0 false) (Held k h.0) (eq-eqb k key y.0)),
        y.1,
      )
      | inr y ↦ inl (
        ap (option_map (told key token false)) x.0
            ∙ ap (λ z. Some z) (cond-false (k == key) (Taken token k h.0 false) (Held k h.0) y.0),
        x.1,
        y.1,
        x.3,
        x.4,
      )
    ]

module _ (s : State) (t : ℕ) (c : Call) (h : LotFits s) (here : call_at s t ≡ Some c)
    (sound : Sound (closed s.lot (key_in c) false)) where
  abbrev leaves : Call
  leaves = hears c seen.Made

  left_as : (k : ℕ) (how : Doing) (b : Stance) → stance c.core ≡ In k how → Carries (Some c) (Some leaves)
      → stance leaves.core ≡ b
      → ((o : Section) → open_at s (key_of c k) ≡ Some o → o.thread ≡ Some t → HasCome how o.phase o.token
      → (v j : ℕ) (token : ParkToken) (x : Call) (by : ℕ) (said : WakeResult) → by ≡ t → call_at s v ≡ Some x
      → stance x.core ≡ Asleep j token → x.spot ≡ QueuePosition.Off by said → SaidIn o said → said ≡ told_of o.token)
      → ((o : Section) → open_at s (key_of c k) ≡ Some o
      → (secs : ℕ → Option Section)
      → Stands t c.lock b c.spot (option_map (told (key_of c k) o.token false) (place_at s.lot.places t)) None secs)
      → LotFits (left s t c)
  left_as k how b from carries to kept own =
      let seat = seat_of s h t c (In k how) here from in
      let key : ℕ = key_of c k in
      let o : Section = seat.0 in
      let f : Place → Place = told key o.token false in
      let place : (v : ℕ) → place_at (map (option_map f) s.lot.places) v ≡ option_map f (place_at s.lot.places v) =
      place_at-map f s.lot.places in
      let off : Machine = lot_with_at s key s.lot.sleeps s.lot.queues (map (option_map f) s.lot.places) None
      (updated s.lot.inside t None) in
      let as_lot : closed s.lot (key_in c) false ≡ off =
      ap (λ (i : ℕ). closed s.lot i false) (key_is c k how from)
      ∙ (closed_as s.lot key o false seat.1
      ∙ ap (λ (x : Option ℕ). record off { inside = let_out x s.lot.inside }) seat.2) in
      let its : (x : Section) → Some o ≡ Some x → x.thread ≡ Some t =
      λ x e. ap (λ (y : Section). y.thread) (sym (same_section e)) ∙ seat.2 in
      subst (λ (m : Machine). LotFits (with_lot (with_call s t leaves) m)) (sym as_lot)
      (acted s t h (call_within s t c here) (Some leaves) off
      (subst (λ (x : Option Call). Carries x (Some leaves)) (sym here) carries)
      (subst Sound as_lot sound) refl
      (λ v j token x at asleep. ap (λ p. option_map_or mark_of p 0) (place v)
      ∙ told_marks key o.token (place_at s.lot.places v))
      (λ v j x token by said y k' sleep at asleep spot_off is_told. by_eqb by t (updated s.lot.inside t None by ≡ None)
      (λ e. ap (updated s.lot.inside t None) e ∙ updated_at s.lot.inside t None)
      (λ e. updated_other s.lot.inside t None by e
      ∙ told_out v j x token by said y k' sleep key o seat.1 seat.2 e at asleep spot_off
      (told_from key o.token y k' sleep (place_at s.lot.places v) (sym (place v) ∙ is_told))))
      (sits t leaves b off to
      (subst (λ (p : Option Place). Stands t c.lock b c.spot p (off.inside t) (core_lot.open_at off)) (sym (place t))
      (subst (λ (i : Option ℕ). Stands t c.lock b c.spot (option_map f (place_at s.lot.places t)) i (core_lot.open_at off))
      (sym (updated_at s.lot.inside t None)) (own o seat.1 (core_lot.open_at off)))))
      (λ v e. seat_there s t h key (Some o) None seat.1 its s.lot.sleeps s.lot.queues
      (map (option_map f) s.lot.places) (updated s.lot.inside t None) v e (updated_other s.lot.inside t None v e)
      (λ runs. place v ∙ ap (option_map f) runs)
      (λ x j doing at is in_it. subst (λ (p : Option Place). PlaceWhile doing x.spot p (2 * x.lock + j)) (sym (place v))
      (told_while key o.token doing x.spot (place_at s.lot.places v) (2 * x.lock + j) in_it))
      (λ x j token at asleep lies. subst (λ (p : Option Place). IsAt x.spot p (core_lot.open_at off) (2 * x.lock + j))
      (sym (place v))
      (told_lies x.spot (place_at s.lot.places v) (open_at s) (core_lot.open_at off) key o.token (2 * x.lock + j)
      (λ by said y sleep holds spot_off there whose in_it. by_eqb by t
      (((2 * x.lock + j ≡ key) × (said ≡ told_of o.token))
      ⊎ (((2 * x.lock + j == key) ≡ false) × (core_lot.open_at off (2 * x.lock + j) ≡ Some y)))
      (λ same.
      let mine : y.thread ≡ Some t = whose ∙ ap (λ w. Some w) same in
      let b' : bucket s (2 * x.lock + j) ≡ bucket s key =
      one_bucket s h t (bucket s (2 * x.lock + j)) (bucket s key) y o there mine seat.1 seat.2 in
      let one : y ≡ o = same_section (sym there ∙ (ap s.lot.sections b' ∙ seat.1)) in
      inl (
        held_key v (2 * x.lock + j) sleep y holds there ∙ (ap (λ (z : Section). z.key) one ∙ seat.3),
        kept o seat.1 seat.2 seat.4 v j token x by said same at asleep spot_off
            (subst (λ (z : Section). SaidIn z said) one in_it),
      ))
      (λ other. inr (
        ne_eqb (2 * x.lock + j) key
            (λ is. eqb-false by t other
            (same_number (sym whose ∙ (ap (λ (z : Section). z.thread)
            (same_section (sym there ∙ (ap (open_at s) is ∙ seat.1))) ∙ seat.2)))),
        open_there s t h key (Some o) None seat.1 its by (2 * x.lock + j) y other there whose,
      )))
      lies)))
      (open_which s t h key (Some o) None seat.1 its (call_within s t c here) (λ x e. absurd (none≢some e))))
    where
      -- one that was told by another before, or just now by t
      told_out : (v j : ℕ) (x : Call) (token : ParkToken) (by : ℕ) (said : WakeResult) (y : UnparkToken) (k' : ℕ)
          (sleep : Sleep) (key : ℕ) (o : Section) → open_at s key ≡ Some o → o.thread ≡ Some t → (by == t) ≡ false
          → call_at s v ≡ Some x → stance x.core ≡ Asleep j token → x.spot ≡ QueuePosition.Off by said
          → (place_at s.lot.places v ≡ Some (Taken y k' sleep false))
          ⊎ ((z : Sleep) × (place_at s.lot.places v ≡ Some (Held key z))) → s.lot.inside by ≡ None
      told_out v j x token by said y k' sleep key o there whose e at asleep spot_off (inl was) =
          h.outside v j x token by said y k' sleep at asleep spot_off was
      told_out v j x token by said y k' sleep key o there whose e at asleep spot_off (inr was) =
          absurd (eqb-false by t e (held_by (place_at s.lot.places v) was.1
          (subst (λ (a : QueuePosition). IsAt a (place_at s.lot.places v) (open_at s) (2 * x.lock + j)) spot_off
          (seat_of s h v x (Asleep j token) at asleep).0)))
        where
          held_by : (p : Option Place) → p ≡ Some (Held key was.0)
              → IsAt (QueuePosition.Off by said) p (open_at s) (2 * x.lock + j) → by ≡ t
          held_by p is (l, late, inl lies) = same_number
              (sym lies.3 ∙ (ap (λ (z : Section). z.thread)
              (same_section (sym lies.2 ∙ (ap (open_at s) (same_held (sym lies.0 ∙ is)) ∙ there))) ∙ whose))
          held_by p is (l, late, inr lies) = absurd (held_taken (sym is ∙ lies.1))

      -- whom a section holds stood in its list
      held_key : (v k : ℕ) (sleep : Sleep) (y : Section) → place_at s.lot.places v ≡ Some (Held k sleep)
          → open_at s k ≡ Some y → k ≡ y.key
      held_key v k sleep y holds there =
          let x = h.sound.held v k (ap (λ p. option_map_or (is_held k) p false) holds ∙ eq-eqb k k refl) in
          sym x.2 ∙ ap (λ (z : Section). z.key) (same_section (sym x.1 ∙ there))

  pub left_fits : LeavesFor (stance c.core) (stance leaves.core) (taken_count c.core) (taken_count leaves.core)
      → LotFits (left s t c)
  left_fits (inl x) =
      let seat = seat_of s h t c (In x.0 TurnsBack) here x.1 in
      left_as x.0 TurnsBack Out x.1
      (carries_awake c leaves (awake_by (stance c.core) (In x.0 TurnsBack) x.1 tt)
      (up_by (stance leaves.core) Out x.2 tt) refl (x.4 ∙ sym x.3) (λ i. absurd (subst IsInside x.2 i))
      (wakes_some c.core seen.Made)) x.2
      (λ o there whose come v j token y by said same at asleep off in_it. absurd
      (nobody_off s h t c here x.3 v j token y by said same at asleep off))
      (λ o there secs. (ap (option_map (told (key_of c x.0) o.token false)) seat.5, refl))
  left_fits (inr (inl x)) =
      let seat = seat_of s h t c (In x.0 (Joined x.1)) here x.2 in
      left_as x.0 (Joined x.1) (Asleep x.0 x.1) x.2
      (carries_lain c leaves x.0 x.1 x.2 x.3 refl seat.5.0 seat.5.0 (x.5 ∙ sym x.4) (wakes_some c.core seen.Made))
      x.3
      (λ o there whose come v j token y by said same at asleep off in_it. absurd
      (nobody_off s h t c here x.4 v j token y by said same at asleep off))
      (λ o there secs. (
        subst (λ (a : QueuePosition). IsAt a
            (option_map (told (key_of c x.0) o.token false) (place_at s.lot.places t)) secs (2 * c.lock + x.0))
            (sym seat.5.0)
            (seat.5.1.0, ap (option_map (told (key_of c x.0) o.token false)) seat.5.1.1, seat.5.1.2),
        refl,
      ))
  left_fits (inr (inr x)) =
      let seat = seat_of s h t c (In x.0 (Tells x.1)) here x.2 in
      left_as x.0 (Tells x.1) Out x.2
      (carries_awake c leaves (awake_by (stance c.core) (In x.0 (Tells x.1)) x.2 tt)
      (up_by (stance leaves.core) Out x.3 tt) refl x.4 (λ i. absurd (subst IsInside x.3 i))
      (wakes_some c.core seen.Made)) x.3
      (λ o there whose come v j token y by said same at asleep off in_it. tells o come.0 said in_it)
      (λ o there secs. (ap (option_map (told (key_of c x.0) o.token false)) seat.5, refl))
    where
      tells : (o : Section) → o.phase ≡ Phase.Stored → (said : WakeResult) → SaidIn o said → said ≡ told_of o.token
      tells o stored said (inl y) = y.1
      tells o stored said (inr y) = absurd (stores_unstored o.phase y.0 stored)
