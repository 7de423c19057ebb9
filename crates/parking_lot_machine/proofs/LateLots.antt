-- The acts of a call whose moment has passed keep what fits of the lot.
use Rattle.std.proofs.Common.{◌≡◌, ◌<◌, ◌≤◌, ℕ, ◌+◌, ◌*◌, ◌==◌, inr, false, List, length, remove, Option, Some, None}
use Rattle.std.proofs.Common.{slice_get, count_by, refl, sym, ap, ◌∙◌, subst, arith, eq-eqb}
use Rattle.std.specs.List.{position_or_len}
use Rattle.std.specs.Option.{option_map_or}
use Rattle.std.proofs.lemmas.Bool.{ne_eqb}
use Rattle.parking_lot_core_model.specs.declared.parking.ParkToken.{ParkToken}
use Rattle.parking_lot_core_model.specs.declared.place.Phase.{Phase}
use Rattle.parking_lot_core_model.specs.declared.place.Place.{Place}
use Rattle.parking_lot_core_model.specs.declared.place.Place.TheVariants.{Running}
use Rattle.parking_lot_core_model.specs.declared.place.Section.{Section}
use Rattle.parking_lot_core_model.specs.declared.place.Waiter.{Waiter}
use Rattle.parking_lot_core_model.specs.Machine.{Machine, fresh_section, is_thread}
use Rattle.parking_lot_core_model.specs.Machine as lot
use Rattle.parking_lot_core_model.specs.Places.{may_return, place_at}
use Rattle.parking_lot_core_model.specs.Sound.{Sound, times_at}
use Rattle.parking_lot_core_model.proofs.Kept.{updated_at, updated_other}
use Rattle.parking_lot_core_model.proofs.Numbers.{count_by-at}
use Rattle.parking_lot_core_model.proofs.Sounds.{sound_returned}
use Rattle.parking_lot_core_model.proofs.Entering.{none≢some, open_within, phase_within, within}
use Rattle.parking_lot_core_model.proofs.Kept.{by_eqb}
use Rattle.parking_lot_machine_calls.specs.declared.seat.WakeResult.{WakeResult}
use Rattle.parking_lot_machine_calls.specs.declared.seat.QueuePosition.{QueuePosition}
use Rattle.parking_lot_machine_calls.specs.declared.open_call.Call.{Call}
use Rattle.parking_lot_machine_calls.specs.declared.seat.Wakeup.{Wakeup}
use Rattle.parking_lot_machine.specs.Rows.{State, bucket, call_at, open_at, taken_by}
use Rattle.parking_lot_machine_calls.specs.Stances.{Doing, In, Asleep, Joined, stance, taken_count}
use Rattle.parking_lot_machine.specs.RowActs.{with_call, with_lot}
use Rattle.parking_lot_machine_calls.specs.CallActs.{key_of}
use Rattle.parking_lot_machine.specs.RowFits.{Awaits, IsAt, IsCounted, IsInside, IsOwed, IsTaken, LotFits, SeatedIn}
use Rattle.parking_lot_machine.specs.RowFits.{Stands, WaitsIn, WakesSome}
use Rattle.parking_lot_machine.proofs.Indexing.{get_remove}
use Rattle.parking_lot_machine.proofs.Carrying.{Carries, Tallied, call_within, lock_kept, no_length, same_call}
use Rattle.parking_lot_machine.proofs.Carrying.{still_taken, tallied}
use Rattle.parking_lot_machine.proofs.LotActs.{same_section, seat_of, changed_here, changed_there, seats_one}
use Rattle.parking_lot_machine.proofs.LotActs.{same_length, acted, quiet, sits, nobody_off, no_section, seats_still}
use Rattle.parking_lot_machine.proofs.LotActs.{held_still, lot_with_at, now_at, open_which, seat_there}

in_asleep : {k j : ℕ} {how : Doing} {token : ParkToken} → In k how ≡ Asleep j token → ⊥
in_asleep e = cc

listed_off : {by : ℕ} {said : WakeResult} → QueuePosition.Listed ≡ QueuePosition.Off by said → ⊥
listed_off e = cc

-- A SLEEPER'S CALL CHANGES, AND IT SLEEPS ON

carries_lying : (c d : Call) (key : ℕ) (park : ParkToken) → stance c.core ≡ Asleep key park
    → stance d.core ≡ Asleep key park → d.lock ≡ c.lock → d.spot ≡ c.spot → taken_count d.core ≡ taken_count c.core
    → WakesSome d.core → Carries (Some c) (Some d)
carries_lying c d key park from to lock at counts some = record {
  listed = λ k token x is here waits. (
    d,
    refl,
    lock ∙ ap (λ (y : Call). y.lock) (same_call is),
    at ∙ ap (λ (y : Call). y.spot) (same_call is) ∙ here,
    subst (Awaits k token) (sym to)
        (subst (Awaits k token) (sym (ap (λ (y : Call). stance y.core) (same_call is)) ∙ from) waits),
  );
  sleeps = λ k token by said x is asleep here. (
    d,
    refl,
    lock ∙ ap (λ (y : Call). y.lock) (same_call is),
    to ∙ sym from
        ∙ ap (λ (y : Call). stance y.core) (same_call is) ∙ asleep,
    said,
    at ∙ ap (λ (y : Call). y.spot) (same_call is) ∙ here,
  );
  slept = λ k token by said x is asleep here. (
    c,
    refl,
    from ∙ sym to ∙ ap (λ (y : Call). stance y.core) (same_call is)
        ∙ asleep,
    said,
    sym at ∙ ap (λ (y : Call). y.spot) (same_call is) ∙ here,
  );
  taker = λ x is more. (d, refl, lock ∙ ap (λ (y : Call). y.lock) (same_call is));
  counts = counts;
  stays = λ i. absurd (subst IsInside to i);
  wakeful = λ w x is. subst (λ (y : Call). WakesSome y.core) (same_call is) some;
}

pub expired_fits : (s : State) (t : ℕ) (c d : Call) (key : ℕ) (park : ParkToken) → LotFits s → call_at s t ≡ Some c
    → stance c.core ≡ Asleep key park → stance d.core ≡ Asleep key park → d.lock ≡ c.lock → d.spot ≡ c.spot
    → taken_count d.core ≡ taken_count c.core → WakesSome d.core
    → LotFits (with_call s t d)
expired_fits s t c d key park h here from to lock at counts some =
    quiet s t h (call_within s t c here) (Some d)
    (subst (λ (o : Option Call). Carries o (Some d)) (sym here)
    (carries_lying c d key park from to lock at counts some))
    (sits t d (Asleep key park) s.lot to
    (subst (λ (j : ℕ). Stands t j (Asleep key park) d.spot (place_at s.lot.places t) (s.lot.inside t) (open_at s))
    (sym lock)
    (subst (λ (a : QueuePosition). Stands t c.lock (Asleep key park) a (place_at s.lot.places t) (s.lot.inside t)
    (open_at s)) (sym at)
    (seat_of s h t c (Asleep key park) here from))))

-- IT IS BACK IN ITS SECTION

carries_back : (c d : Call) (key : ℕ) (park : ParkToken) → stance c.core ≡ Asleep key park
    → stance d.core ≡ In key (Joined park) → d.lock ≡ c.lock → c.spot ≡ QueuePosition.Listed
    → d.spot ≡ QueuePosition.Listed → taken_count d.core ≡ taken_count c.core → taken_count c.core ≡ 0
    → WakesSome d.core
    → Carries (Some c) (Some d)
carries_back c d key park from to lock at at' counts none some = record {
  listed = λ k token x is here waits. (
    d,
    refl,
    lock ∙ ap (λ (y : Call). y.lock) (same_call is),
    at',
    subst (Awaits k token) (sym to)
        (subst (Awaits k token) (sym (ap (λ (y : Call). stance y.core) (same_call is)) ∙ from) waits),
  );
  sleeps = λ k token by said x is asleep here. absurd
      (listed_off (sym at ∙ (ap (λ (y : Call). y.spot) (same_call is) ∙ here)));
  slept = λ k token by said x is asleep here. absurd
      (in_asleep (sym to ∙ (ap (λ (y : Call). stance y.core) (same_call is) ∙ asleep)));
  taker = λ x is more. (d, refl, lock ∙ ap (λ (y : Call). y.lock) (same_call is));
  counts = counts;
  stays = λ i. inr none;
  wakeful = λ w x is. subst (λ (y : Call). WakesSome y.core) (same_call is) some;
}

module _ (s : State) (t : ℕ) (c d : Call) (key : ℕ) (park : ParkToken) (h : LotFits s) (here : call_at s t ≡ Some c)
    (from : stance c.core ≡ Asleep key park) (to : stance d.core ≡ In key (Joined park)) (lock : d.lock ≡ c.lock)
    (at : c.spot ≡ QueuePosition.Listed)
    (at' : d.spot ≡ QueuePosition.Listed) (counts : taken_count d.core ≡ taken_count c.core)
    (none : taken_count c.core ≡ 0) (some : WakesSome d.core) (free : open_at s (key_of c key) ≡ None) where
  abbrev back_section : Section
  back_section = record { thread = Some t; key = key_of c key; phase = Phase.Joined; token = record { 0 = 0 } }

  waits_there : WaitsIn (place_at s.lot.places t) (2 * c.lock + key)
  waits_there = subst (λ (a : QueuePosition). IsAt a (place_at s.lot.places t) (open_at s) (2 * c.lock + key)) at
      (seat_of s h t c (Asleep key park) here from).0

  abbrev back_lot : Machine
  back_lot = within s.lot back_section

  back_as : lot.returned s.lot t (key_of c key) ≡ back_lot
  back_as = phase_within s.lot (fresh_section (Some t) (key_of c key)) Phase.Joined

  -- nobody was there
  none_its : (x : Section) → None ≡ Some x → x.thread ≡ Some t
  none_its x e = absurd (none≢some e)

  pub returned_fits : LotFits (with_lot (with_call s t d) (lot.returned s.lot t (key_of c key)))
  returned_fits =
      let seat = seat_of s h t c (Asleep key park) here from in
      subst (λ (m : Machine). LotFits (with_lot (with_call s t d) m)) (sym back_as)
      (acted s t h (call_within s t c here) (Some d) back_lot
      (subst (λ (o : Option Call). Carries o (Some d)) (sym here)
      (carries_back c d key park from to lock at at' counts none some))
      (subst Sound back_as (sound_returned s.lot t (key_of c key) h.sound free
      (ap (λ (p : Option Place). option_map_or (may_return (key_of c key)) p false) waits_there.1
      ∙ eq-eqb (key_of c key) (key_of c key) refl))) refl
      (λ v k token x is asleep. refl)
      (λ v j x token by said y k sleep is asleep off place.
      updated_other s.lot.inside t (Some (key_of c key)) by
      (ne_eqb by t (λ e. nobody_off s h t c here none v j token x by said e is asleep off))
      ∙ h.outside v j x token by said y k sleep is asleep off place)
      (sits t d (In key (Joined park)) back_lot to
      (subst (λ (j : ℕ). Stands t j (In key (Joined park)) d.spot (place_at s.lot.places t) (back_lot.inside t)
      (lot.open_at back_lot)) (sym lock) (
        back_section,
        open_within s.lot back_section,
        refl,
        refl,
        refl,
        (at', waits_there),
        updated_at s.lot.inside t (Some (key_of c key)),
      )))
      (λ v e. seat_there s t h (key_of c key) None (Some back_section) free none_its s.lot.sleeps s.lot.queues
      s.lot.places back_lot.inside v e (updated_other s.lot.inside t (Some (key_of c key)) v e) (λ runs. runs)
      (λ x j how is in_it place. place)
      (λ x j token is asleep. held_still s t h (key_of c key) None (Some back_section) free none_its
      (lot.open_at back_lot) (λ i. refl) x.spot (place_at s.lot.places v) (2 * x.lock + j)
      (λ by said o same off there whose in_it. absurd
      (no_section s h t (bucket s (2 * x.lock + j)) o seat.1 there whose))))
      (open_which s t h (key_of c key) None (Some back_section) free none_its (call_within s t c here)
      (λ x e. ap (λ (y : Section). y.thread) (sym (same_section e)))))

-- IT IS OFF ITS LIST

module _ (s : State) (t : ℕ) (c d : Call) (key : ℕ) (two : key < 2) (how : Doing) (park : ParkToken) (h : LotFits s)
    (here : call_at s t ≡ Some c) (from : stance c.core ≡ In key (Joined park)) (to : stance d.core ≡ In key how)
    (lock : d.lock ≡ c.lock) (none : taken_count c.core ≡ 0) (still : taken_count d.core ≡ 0) (some : WakesSome d.core)
    (out : Machine) (sound : Sound out) (queues : out.queues ≡ (lot.given_up s.lot t (key_of c key)).queues)
    (runs : place_at out.places t ≡ Some Running)
    (others : (v : ℕ) → (v == t) ≡ false → place_at out.places v ≡ place_at s.lot.places v)
    (o' : Section) (whose : o'.thread ≡ Some t)
    (as_lot : out ≡ lot_with_at s (key_of c key) out.sleeps out.queues out.places (Some o') s.lot.inside)
    (own : (place : Option Place) (secs : ℕ → Option Section) → place ≡ Some Running
    → secs (key_of c key) ≡ Some o' → Stands t d.lock (In key how) d.spot place (Some (key_of c key)) secs)
  where
    abbrev u : State
    u = with_lot (with_call s t d) out

    abbrev low : t < length s.calls
    low = call_within s t c here

    there : call_at u t ≡ Some d
    there = changed_here s t h low (Some d) out

    apart : (v : ℕ) → (v == t) ≡ false → call_at u v ≡ call_at s v
    apart v e = changed_there s t h low (Some d) out v e

    -- it sleeps neither before nor after
    not_mine : (x j : ℕ) (token : ParkToken) (y : Call) → call_at s x ≡ Some y → stance y.core ≡ Asleep j token
        → (x == t) ≡ false
    not_mine x j token y at asleep =
        ne_eqb x t (λ e. in_asleep
        (sym from ∙ (ap (λ (z : Call). stance z.core) (same_call (sym here ∙ (ap (call_at s) (sym e) ∙ at))) ∙ asleep)))

    -- it is in no list any more, and whoever is was there before
    gone : (j l n : ℕ) (x : Waiter) → slice_get (out.queues (2 * j + l)) n ≡ Some x → (x.thread == t) ≡ false
    gone j l n x at = ne_eqb x.thread t (λ e.
        let some : 1 ≤ count_by (is_thread t) (out.queues (2 * j + l)) =
        count_by-at (is_thread t) (out.queues (2 * j + l)) n x at (eq-eqb x.thread t e) in
        let count : count_by (is_thread t) (out.queues (2 * j + l)) ≡ 0 = sound.waits t (2 * j + l)
        ∙ ap (times_at (2 * j + l)) runs in
        omega arith)

    was_there : (j l n : ℕ) (x : Waiter) → slice_get (out.queues (2 * j + l)) n ≡ Some x → (m : ℕ)
        × (slice_get (s.lot.queues (2 * j + l)) m ≡ Some x)
    was_there j l n x at =
        let q = s.lot.queues (key_of c key) in
        let i = position_or_len (is_thread t) q in
        let now : slice_get ((lot.given_up s.lot t (key_of c key)).queues (2 * j + l)) n ≡ Some x =
        ap (λ (qs : ℕ → List Waiter). slice_get (qs (2 * j + l)) n) (sym queues) ∙ at in
        by_eqb (2 * j + l) (key_of c key) ((m : ℕ) × (slice_get (s.lot.queues (2 * j + l)) m ≡ Some x))
        (λ e.
        let r = get_remove q i n x
        (sym (ap (λ (qs : List Waiter). slice_get qs n) (updated_at s.lot.queues (key_of c key) (remove q i)))
        ∙ (ap (λ (k : ℕ). slice_get ((lot.given_up s.lot t (key_of c key)).queues k) n) (sym e) ∙ now)) in
        (r.0, ap (λ (k : ℕ). slice_get (s.lot.queues k) r.0) e ∙ r.1))
        (λ e. (
          n,
          sym (ap (λ (qs : List Waiter). slice_get qs n)
              (updated_other s.lot.queues (key_of c key) (remove q i) (2 * j + l) e)) ∙ now,
        ))

    quit_waits : (j l n : ℕ) (x : Waiter) → l < 2 → slice_get (out.queues (2 * j + l)) n ≡ Some x → (z : Call)
        × (call_at u x.thread ≡ Some z) × (z.lock ≡ j) × (z.spot ≡ QueuePosition.Listed)
        × Awaits l x.token (stance z.core)
    quit_waits j l n x low' at =
        let m = was_there j l n x at in
        let old = h.waits j l m.0 x low' m.1 in
        (old.0, apart x.thread (gone j l n x at) ∙ old.1, old.2, old.3, old.4)

    quit_owed : (x : ℕ) (z : Call) (j : ℕ) (token : ParkToken) (by : ℕ) (said : WakeResult) → call_at u x ≡ Some z
        → stance z.core ≡ Asleep j token → z.spot ≡ QueuePosition.Off by said → IsOwed s.wakes by x
    quit_owed x z j token by said at asleep off = by_eqb x t (IsOwed s.wakes by x)
        (λ e. absurd (in_asleep
        (sym to ∙ (ap (λ (y : Call). stance y.core) (same_call (sym there ∙ (ap (call_at u) (sym e) ∙ at)))
        ∙ asleep))))
        (λ e. h.owed x z j token by said (sym (apart x e) ∙ at) asleep off)

    quit_woken : (n : ℕ) (e : Wakeup) → slice_get s.wakes n ≡ Some e → IsTaken u e
    quit_woken n e at =
        let old = h.woken n e at in
        let taker = lock_kept s u t c d here there lock apart e.by old.taker old.there in
        let f = not_mine e.thread old.key old.token old.call old.here old.asleep in
        still_taken s u e old taker (apart e.thread f) (others e.thread f)

    quit_tally : (x : ℕ) → Tallied (length u.calls) (length (taken_by s.wakes x)) (call_at u x)
    quit_tally x =
        subst (λ (n : ℕ). Tallied n (length (taken_by s.wakes x)) (call_at u x))
        (sym (same_length s t h low (Some d) out))
        (by_eqb x t (Tallied (length s.calls) (length (taken_by s.wakes x)) (call_at u x))
        (λ e. subst (λ (y : ℕ). Tallied (length s.calls) (length (taken_by s.wakes y)) (call_at u y)) (sym e)
        (subst (Tallied (length s.calls) (length (taken_by s.wakes t))) (sym there) mine))
        (λ e. subst (Tallied (length s.calls) (length (taken_by s.wakes x))) (sym (apart x e)) (tallied s h x)))
      where
        mine : IsCounted (length s.calls) (length (taken_by s.wakes t)) d.core
        mine = let before = (h.counted t c here).most in
            record {
              most = omega (arith, before, none);
              few = omega (arith, still);
              all = λ i. omega (arith, before, none, still);
            }

    abbrev quit_lot : Machine
    quit_lot = lot_with_at s (key_of c key) out.sleeps out.queues out.places (Some o') s.lot.inside

    was : Stands t c.lock (In key (Joined park)) c.spot (place_at s.lot.places t) (s.lot.inside t) (open_at s)
    was = seat_of s h t c (In key (Joined park)) here from

    pub quit_fits : LotFits u
    quit_fits = record {
      sound = sound;
      seated = seats_one s t h low (Some d) out
          (subst (λ (m : Machine). SeatedIn m t (Some d)) (sym as_lot)
          (sits t d (In key how) quit_lot to
          (subst (λ (i : Option ℕ). Stands t d.lock (In key how) d.spot (place_at out.places t) i
          (lot.open_at quit_lot)) (sym was.6)
          (own (place_at out.places t) (lot.open_at quit_lot) runs
          (now_at s t c d h here (key_of c key) was.0 o' was.1 was.2 whose out.sleeps out.queues out.places)))))
          (λ v e seat. subst (λ (m : Machine). SeatedIn m v (call_at s v)) (sym as_lot)
          (seats_still s t c d h here (key_of c key) was.0 o' was.1 was.2 whose out.sleeps out.queues out.places v e
          (others v e)
          (λ j token x by said by_t at asleep off in_it. absurd
          (nobody_off s h t c here none v j token x by said by_t at asleep off)) seat));
      opened = λ b section at.
          let x = open_which s t h (key_of c key) (Some was.0) (Some o') was.1
          (λ x e. ap (λ (y : Section). y.thread) (sym (same_section e)) ∙ was.2) low
          (λ x e. ap (λ (y : Section). y.thread) (sym (same_section e)) ∙ whose) b section
          (sym (ap (λ (m : Machine). m.sections b) as_lot) ∙ at) in
          (x.0, x.1, subst (λ (n : ℕ). x.0 < n) (sym (same_length s t h low (Some d) out)) x.2);
      waits = quit_waits;
      owed = quit_owed;
      outside = λ x j z token by said y k sleep at asleep off place. by_eqb x t (out.inside by ≡ None)
          (λ e. absurd (in_asleep
          (sym to ∙ (ap (λ (y : Call). stance y.core) (same_call (sym there ∙ (ap (call_at u) (sym e) ∙ at)))
          ∙ asleep))))
          (λ e. ap (λ (m : Machine). m.inside by) as_lot
          ∙ h.outside x j z token by said y k sleep (sym (apart x e) ∙ at) asleep off (sym (others x e) ∙ place));
      woken = quit_woken;
      once = h.once;
      counted = λ x z at. subst (Tallied (length u.calls) (length (taken_by s.wakes x))) at (quit_tally x);
      untaken = λ x at. no_length (taken_by s.wakes x)
          (subst (Tallied (length u.calls) (length (taken_by s.wakes x))) at (quit_tally x));
      wakeful = λ x z at. by_eqb x t (WakesSome z.core)
          (λ e. subst (λ (y : Call). WakesSome y.core) (same_call (sym there ∙ (ap (call_at u) (sym e) ∙ at))) some)
          (λ e. h.wakeful x z (sym (apart x e) ∙ at));
    }
