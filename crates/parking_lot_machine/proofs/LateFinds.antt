-- One whose moment has passed and that was taken comes back into its section and finds that out: what fits of the lot
-- still fits.
use Rattle.std.proofs.Common.{◌≡◌, ◌<◌, ◌≤◌, ℕ, zero, suc, ◌+◌, ◌*◌, ◌==◌, inl, inr, Bool, false, true, cond, not, List}
use Rattle.std.proofs.Common.{[], ◌∷◌, length, Option, Some, None, slice_get, slice_set, refl, sym, ap, ◌∙◌, subst}
use Rattle.std.proofs.Common.{arith, eq-eqb}
use Rattle.std.specs.List.{position_or_len}
use Rattle.std.proofs.lemmas.Bool.{ne_eqb, eqb-false, eqb-true}
use Rattle.parking_lot_core_model.specs.declared.parking.ParkToken.{ParkToken}
use Rattle.parking_lot_core_model.specs.declared.parking.UnparkToken.{UnparkToken}
use Rattle.parking_lot_core_model.specs.declared.place.Phase.{Phase}
use Rattle.parking_lot_core_model.specs.declared.place.Place.{Place}
use Rattle.parking_lot_core_model.specs.declared.place.Place.TheVariants.{Running, Taken}
use Rattle.parking_lot_core_model.specs.declared.place.Section.{Section}
use Rattle.parking_lot_core_model.specs.declared.place.Sleep.{Sleep}
use Rattle.parking_lot_core_model.specs.declared.place.Waiter.{Waiter}
use Rattle.parking_lot_core_model.specs.Lists.{updated}
use Rattle.parking_lot_core_model.specs.Machine.{Machine}
use Rattle.parking_lot_core_model.specs.Machine as core_lot
use Rattle.parking_lot_core_model.specs.Places.{place_at}
use Rattle.parking_lot_core_model.specs.Sound.{Sound}
use Rattle.parking_lot_core_model.proofs.Numbers.{flag}
use Rattle.parking_lot_core_model.proofs.Entering.{none≢some}
use Rattle.parking_lot_core_model.proofs.Kept.{by_eqb, updated_at, updated_other}
use Rattle.parking_lot_core_model.proofs.Sounds.{place_at-set_same, place_at-set_other}
use Rattle.parking_lot_machine_calls.specs.declared.seat.WakeResult.{WakeResult}
use Rattle.parking_lot_machine_calls.specs.declared.seat.QueuePosition.{QueuePosition}
use Rattle.parking_lot_machine_calls.specs.declared.open_call.Call.{Call}
use Rattle.parking_lot_machine_calls.specs.declared.seat.Wakeup.{Wakeup}
use Rattle.parking_lot_machine.specs.Rows.{State, bucket, call_at, is_for, open_at, taken_by}
use Rattle.parking_lot_machine_calls.specs.Stances.{Doing, In, Out, Asleep, Tells, Stance, sign, stance, taken_count}
use Rattle.parking_lot_machine.specs.LateActs.{unowed}
use Rattle.parking_lot_machine.specs.RowActs.{with_call, with_lot}
use Rattle.parking_lot_machine_calls.specs.CallActs.{key_of, told_of}
use Rattle.parking_lot_machine.specs.RowFits.{Awaits, IsAt, IsCounted, IsInside, IsOwed, IsTaken, LotFits}
use Rattle.parking_lot_machine.specs.RowFits.{PlaceWhile, SeatedIn, WakesSome}
use Rattle.parking_lot_machine.proofs.Carrying.{Tallied, call_within, dropped, lock_kept, no_length, same_call}
use Rattle.parking_lot_machine.proofs.Carrying.{still_taken, tallied}
use Rattle.parking_lot_machine.proofs.Indexing.{apart_before, get_remove, kept_remove, not_removed}
use Rattle.parking_lot_machine.proofs.LotActs.{changed_here, changed_there, held_still, lot_with_at, no_section}
use Rattle.parking_lot_machine.proofs.LotActs.{nobody_off, open_which, same_length, same_section, seat_of, seat_there}
use Rattle.parking_lot_machine.proofs.LotActs.{seats_one, sits}
use Rattle.parking_lot_machine_calls.proofs.Stancing.{sleepers_wake}

asleep_in : {k j : ℕ} {how : Doing} {token : ParkToken} → Asleep j token ≡ In k how → ⊥
asleep_in e = cc

listed_off : {by : ℕ} {said : WakeResult} → QueuePosition.Listed ≡ QueuePosition.Off by said → ⊥
listed_off e = cc

same_wakeup : {e f : Wakeup} → Some e ≡ Some f → e ≡ f
same_wakeup e = cc

same_taker : {a b : ℕ} {x y : WakeResult} → QueuePosition.Off a x ≡ QueuePosition.Off b y → a ≡ b
same_taker e = cc

-- where no section is open in the bucket, who was taken was told
pub told_there : (by : ℕ) (said : WakeResult) (place : Option Place) (secs : ℕ → Option Section) (key : ℕ)
    → secs key ≡ None → IsAt (QueuePosition.Off by said) place secs key
    → (token : UnparkToken) × (sleep : Sleep) × (place ≡ Some (Taken token key sleep false)) × (said ≡ told_of token)
told_there by said place secs key free (sleep, late, inl held) = absurd (none≢some (sym free ∙ held.2))
told_there by said place secs key free (sleep, late, inr told) = (told.0, sleep, told.1, told.2)

-- the first of a list that is for a thread, where one is
pub first_for : (t : ℕ) (ws : List Wakeup) (n : ℕ) (e : Wakeup) → slice_get ws n ≡ Some e → e.thread ≡ t → (f : Wakeup)
    × (slice_get ws (position_or_len (is_for t) ws) ≡ Some f) × (f.thread ≡ t)
first_for t [] n e at is = absurd (none≢some at)
first_for t (w ∷ ws) n e at is = go (λ m there. first_for t ws m e there is) (w.thread == t) refl n at
  where
    one_more : (k : ℕ) → 1 + k ≡ suc k
    one_more k = omega arith

    go : ((m : ℕ) → slice_get ws m ≡ Some e → (f : Wakeup) × (slice_get ws (position_or_len (is_for t) ws) ≡ Some f)
        × (f.thread ≡ t)) → (b : Bool) → (w.thread == t) ≡ b → (n : ℕ) → slice_get (w ∷ ws) n ≡ Some e → (f : Wakeup)
        × (slice_get (w ∷ ws) (cond (not b) (1 + position_or_len (is_for t) ws) 0) ≡ Some f) × (f.thread ≡ t)
    go later true same m there = (w, refl, eqb-true w.thread t same)
    go later false other zero there =
        absurd (eqb-false w.thread t other (ap (λ (x : Wakeup). x.thread) (same_wakeup there) ∙ is))
    go later false other (suc m) there = let x = later m there in
        (x.0, ap (slice_get (w ∷ ws)) (one_more (position_or_len (is_for t) ws)) ∙ x.1, x.2)

-- The sleeper t, in a call c, was taken by another thread, and has the entry e.
pub record Owing (s : State) (t : ℕ) (c : Call) (by : ℕ) : Type 0 where
  pub entry : Wakeup
  pub at : slice_get s.wakes (position_or_len (is_for t) s.wakes) ≡ Some entry
  pub thread : entry.thread ≡ t
  pub own : entry.by ≡ by
  pub taker : Call
  pub there : call_at s by ≡ Some taker
  pub lock : taker.lock ≡ c.lock
  pub some : 1 ≤ taken_count taker.core

pub owing : (s : State) (t : ℕ) (c : Call) (key : ℕ) (park : ParkToken) (by : ℕ) (said : WakeResult) → LotFits s
    → call_at s t ≡ Some c → stance c.core ≡ Asleep key park → c.spot ≡ QueuePosition.Off by said → Owing s t c by
owing s t c key park by said h here from off =
    let o = h.owed t c key park by said here from off in
    let x = first_for t s.wakes o.0 o.1 o.2 o.4 in
    let same : position_or_len (is_for t) s.wakes ≡ o.0 = h.once (position_or_len (is_for t) s.wakes) o.0 x.0 o.1 x.1
    o.2 (x.2 ∙ sym o.4) in
    let is : x.0 ≡ o.1 = same_wakeup (sym x.1 ∙ (ap (slice_get s.wakes) same ∙ o.2)) in
    let its : IsTaken s o.1 = h.woken o.0 o.1 o.2 in
    let mine : its.call ≡ c = same_call (sym its.here ∙ (ap (call_at s) o.4 ∙ here)) in
    record {
      entry = x.0;
      at = x.1;
      thread = x.2;
      own = ap (λ (w : Wakeup). w.by) is ∙ o.3;
      taker = its.taker;
      there = ap (call_at s) (sym o.3) ∙ its.there;
      lock = sym its.lock ∙ ap (λ (y : Call). y.lock) mine;
      some = omega (
        arith,
        (h.counted o.1.by its.taker its.there).most,
        dropped s.wakes o.0 o.1 o.2 o.1.by,
        ap flag (eq-eqb o.1.by o.1.by refl),
      );
    }

module _ (s : State) (t : ℕ) (c d : Call) (key : ℕ) (park : ParkToken) (by : ℕ) (said : WakeResult) (h : LotFits s)
    (here : call_at s t ≡ Some c) (from : stance c.core ≡ Asleep key park) (off : c.spot ≡ QueuePosition.Off by said)
    (to : stance d.core ≡ In key (Tells (sign false))) (lock : d.lock ≡ c.lock) (listed : d.spot ≡ QueuePosition.Listed)
    (none : taken_count d.core ≡ 0) (some : WakesSome d.core) (free : open_at s (key_of c key) ≡ None)
    (out : Machine) (sound : Sound out) (queues : out.queues ≡ s.lot.queues)
    (places : out.places ≡ slice_set s.lot.places t (Some Running))
    (o' : Section) (whose : o'.thread ≡ Some t) (at_key : o'.key ≡ 2 * c.lock + key)
    (as_lot : out ≡ lot_with_at s (key_of c key) out.sleeps out.queues out.places (Some o')
    (updated s.lot.inside t (Some (key_of c key))))
    (stored : o'.phase ≡ Phase.Stored) (said_so : o'.token ≡ sign false) where
  abbrev u : State
  u = with_lot (with_call (unowed s t) t d) out

  abbrev low : t < length s.calls
  low = call_within s t c here

  abbrev owes : Owing s t c by
  owes = owing s t c key park by said h here from off

  abbrev i : ℕ
  i = position_or_len (is_for t) s.wakes

  there : call_at u t ≡ Some d
  there = changed_here s t h low (Some d) out

  apart : (v : ℕ) → (v == t) ≡ false → call_at u v ≡ call_at s v
  apart v e = changed_there s t h low (Some d) out v e

  -- it was told, and runs from here on
  pub was_told : (token : UnparkToken) × (sleep : Sleep)
      × (place_at s.lot.places t ≡ Some (Taken token (key_of c key) sleep false)) × (said ≡ told_of token)
  was_told = told_there by said (place_at s.lot.places t) (open_at s) (2 * c.lock + key) free
      (subst (λ (a : QueuePosition). IsAt a (place_at s.lot.places t) (open_at s) (2 * c.lock + key)) off
      (seat_of s h t c (Asleep key park) here from).0)

  -- it was in no section
  was_out : s.lot.inside t ≡ None
  was_out = (seat_of s h t c (Asleep key park) here from).1

  none_its : (x : Section) → None ≡ Some x → x.thread ≡ Some t
  none_its x e = absurd (none≢some e)

  runs : place_at out.places t ≡ Some Running
  runs = ap (λ ps. place_at ps t) places
      ∙ place_at-set_same s.lot.places t (Taken was_told.0 (key_of c key) was_told.1 false) (Some Running) was_told.2

  others : (v : ℕ) → (v == t) ≡ false → place_at out.places v ≡ place_at s.lot.places v
  others v e = ap (λ ps. place_at ps v) places ∙ place_at-set_other s.lot.places t v (Some Running) e

  not_taker : taken_count c.core ≡ 0
  not_taker = (sleepers_wake c.core key park (sign false) from).0

  -- who took it is another, and is outside
  taker_apart : (by == t) ≡ false
  taker_apart = ne_eqb by t
      (λ f. let its = ap (λ (y : Call). taken_count y.core)
      (same_call (sym here ∙ (ap (call_at s) (sym f) ∙ owes.there))) in let more = owes.some in let zero_taken =
      not_taker in omega arith)

  found_waits : (j l n : ℕ) (x : Waiter) → l < 2 → slice_get (out.queues (2 * j + l)) n ≡ Some x → (z : Call)
      × (call_at u x.thread ≡ Some z) × (z.lock ≡ j) × (z.spot ≡ QueuePosition.Listed)
      × Awaits l x.token (stance z.core)
  found_waits j l n x two at =
      let old = h.waits j l n x two (ap (λ (qs : ℕ → List Waiter). slice_get (qs (2 * j + l)) n) (sym queues) ∙ at) in
      let not_t : (x.thread == t) ≡ false =
      ne_eqb x.thread t
      (λ e. listed_off (sym old.3
      ∙ (ap (λ (y : Call). y.spot) (same_call (sym old.1 ∙ (ap (call_at s) e ∙ here))) ∙ off))) in
      (old.0, apart x.thread not_t ∙ old.1, old.2, old.3, old.4)

  found_owed : (x : ℕ) (z : Call) (j : ℕ) (token : ParkToken) (b : ℕ) (told : WakeResult) → call_at u x ≡ Some z
      → stance z.core ≡ Asleep j token → z.spot ≡ QueuePosition.Off b told → IsOwed u.wakes b x
  found_owed x z j token b told at asleep gone = by_eqb x t (IsOwed u.wakes b x)
      (λ e. absurd (asleep_in
      (sym asleep ∙ (ap (λ (y : Call). stance y.core) (sym (same_call (sym there ∙ (ap (call_at u) (sym e) ∙ at))))
      ∙ to))))
      (λ e.
      let old = h.owed x z j token b told (sym (apart x e) ∙ at) asleep gone in
      let left = kept_remove s.wakes i old.0 old.1 old.2
      (λ f. eqb-false x t e
      (sym old.4 ∙ (ap (λ (w : Wakeup). w.thread) (same_wakeup (sym old.2 ∙ (ap (slice_get s.wakes) f ∙ owes.at)))
      ∙ owes.thread))) in
      (left.0, old.1, left.1, old.3, old.4))

  found_woken : (n : ℕ) (e : Wakeup) → slice_get u.wakes n ≡ Some e → IsTaken u e
  found_woken n e at =
      let m = get_remove s.wakes i n e at in
      let old = h.woken m.0 e m.1 in
      let taker = lock_kept s u t c d here there lock apart e.by old.taker old.there in
      let f : (e.thread == t) ≡ false =
      ne_eqb e.thread t
      (λ same. not_removed i n m.0 m.2 (h.once m.0 i e owes.entry m.1 owes.at (same ∙ sym owes.thread))) in
      still_taken s u e old taker (apart e.thread f) (others e.thread f)

  found_once : (n m : ℕ) (e f : Wakeup) → slice_get u.wakes n ≡ Some e → slice_get u.wakes m ≡ Some f
      → e.thread ≡ f.thread → n ≡ m
  found_once n m e f at at' same =
      let a = get_remove s.wakes i n e at in
      let b = get_remove s.wakes i m f at' in
      apart_before i n m a.0 b.0 a.2 b.2 (h.once a.0 b.0 e f a.1 b.1 same)

  -- its taker counts it still, and is in no section
  taker_counts : IsCounted (length s.calls) (length (taken_by u.wakes by)) owes.taker.core
  taker_counts =
      let before = h.counted by owes.taker owes.there in
      let less = dropped s.wakes i owes.entry owes.at by in
      record {
        most = omega (arith, before.most, less);
        few = before.few;
        all = λ q. absurd (inside (stance owes.taker.core) refl q);
      }
    where
      inside : (a : Stance) → stance owes.taker.core ≡ a → IsInside a → ⊥
      inside Out e q = q
      inside (In k how) e q = none≢some
          (sym (h.outside t key c park by said was_told.0 (key_of c key) was_told.1 here from off was_told.2)
          ∙ (seat_of s h by owes.taker (In k how) owes.there e).6)
      inside (Asleep k token) e q = q

  now_same : (x : ℕ) → (x == by) ≡ false → length (taken_by u.wakes x) ≡ length (taken_by s.wakes x)
  now_same x e = let zero_less : flag (owes.entry.by == x) ≡ 0 =
      ap flag (ne_eqb owes.entry.by x (λ f. eqb-false x by e (sym f ∙ owes.own))) in
      omega (arith, dropped s.wakes i owes.entry owes.at x, zero_less)

  mine_counted : IsCounted (length s.calls) (length (taken_by s.wakes t)) d.core
  mine_counted = let before = (h.counted t c here).most in let zero_taken = not_taker in
      record {
        most = omega (arith, before, zero_taken);
        few = omega (arith, none);
        all = λ q. omega (arith, before, zero_taken, none);
      }

  found_tally : (x : ℕ) → Tallied (length u.calls) (length (taken_by u.wakes x)) (call_at u x)
  found_tally x =
      subst (λ (n : ℕ). Tallied n (length (taken_by u.wakes x)) (call_at u x))
      (sym (same_length s t h low (Some d) out))
      (by_eqb x by (Tallied (length s.calls) (length (taken_by u.wakes x)) (call_at u x))
      (λ e. subst (λ (y : ℕ). Tallied (length s.calls) (length (taken_by u.wakes y)) (call_at u y)) (sym e)
      (subst (Tallied (length s.calls) (length (taken_by u.wakes by))) (sym (apart by taker_apart ∙ owes.there))
      taker_counts))
      (λ e. subst (λ (n : ℕ). Tallied (length s.calls) n (call_at u x)) (sym (now_same x e))
      (by_eqb x t (Tallied (length s.calls) (length (taken_by s.wakes x)) (call_at u x))
      (λ f. subst (λ (y : ℕ). Tallied (length s.calls) (length (taken_by s.wakes y)) (call_at u y)) (sym f)
      (subst (Tallied (length s.calls) (length (taken_by s.wakes t))) (sym there) mine_counted))
      (λ f. subst (Tallied (length s.calls) (length (taken_by s.wakes x))) (sym (apart x f)) (tallied s h x)))))

  abbrev found_at : Machine
  found_at = lot_with_at s (key_of c key) out.sleeps out.queues out.places (Some o')
      (updated s.lot.inside t (Some (key_of c key)))

  -- the others' seats
  found_seats : (v : ℕ) → (v == t) ≡ false → SeatedIn s.lot v (call_at s v) → SeatedIn found_at v (call_at s v)
  found_seats v e =
      seat_there s t h (key_of c key) None (Some o') free none_its out.sleeps out.queues out.places found_at.inside v e
      (updated_other s.lot.inside t (Some (key_of c key)) v e)
      (λ r. others v e ∙ r)
      (λ x j how at is place. subst (λ (p : Option Place). PlaceWhile how x.spot p (2 * x.lock + j)) (sym (others v e))
      place)
      (λ x j token at asleep lies. subst (λ (p : Option Place). IsAt x.spot p (core_lot.open_at found_at)
      (2 * x.lock + j)) (sym (others v e))
      (held_still s t h (key_of c key) None (Some o') free none_its (core_lot.open_at found_at) (λ l. refl) x.spot
      (place_at s.lot.places v) (2 * x.lock + j)
      (λ b told o same gone sec own in_it. absurd (no_section s h t (bucket s (2 * x.lock + j)) o was_out sec own))
      lies))

  pub found_fits : LotFits u
  found_fits = record {
    sound = sound;
    seated = seats_one s t h low (Some d) out
        (subst (λ (m : Machine). SeatedIn m t (Some d)) (sym as_lot)
        (sits t d (In key (Tells (sign false))) found_at to (
          o',
          ap (λ (j : ℕ). core_lot.open_at found_at (2 * j + key)) lock
              ∙ updated_at s.lot.sections (bucket s (key_of c key)) (Some o'),
          whose,
          at_key ∙ ap (λ (j : ℕ). 2 * j + key) (sym lock),
          (stored, said_so),
          runs,
          updated_at s.lot.inside t (Some (key_of c key)) ∙ ap (λ (j : ℕ). Some (2 * j + key)) (sym lock),
        )))
        (λ v e seat. subst (λ (m : Machine). SeatedIn m v (call_at s v)) (sym as_lot) (found_seats v e seat));
    opened = λ b section at.
        let x = open_which s t h (key_of c key) None (Some o') free none_its low
        (λ x e. ap (λ (y : Section). y.thread) (sym (same_section e)) ∙ whose) b section
        (sym (ap (λ (m : Machine). m.sections b) as_lot) ∙ at) in
        (x.0, x.1, subst (λ (n : ℕ). x.0 < n) (sym (same_length s t h low (Some d) out)) x.2);
    outside = λ x j z token b told y k sleep at asleep gone place. by_eqb x t (out.inside b ≡ None)
        (λ e. absurd (asleep_in
        (sym asleep ∙ (ap (λ (y : Call). stance y.core) (sym (same_call (sym there ∙ (ap (call_at u) (sym e) ∙ at))))
        ∙ to))))
        (λ e. ap (λ (m : Machine). m.inside b) as_lot
        ∙ (updated_other s.lot.inside t (Some (key_of c key)) b
        (ne_eqb b t (λ f. nobody_off s h t c here not_taker x j token z b told f (sym (apart x e) ∙ at) asleep gone))
        ∙ h.outside x j z token b told y k sleep (sym (apart x e) ∙ at) asleep gone (sym (others x e) ∙ place)));
    waits = found_waits;
    owed = found_owed;
    woken = found_woken;
    once = found_once;
    counted = λ x z at. subst (Tallied (length u.calls) (length (taken_by u.wakes x))) at (found_tally x);
    untaken = λ x at. no_length (taken_by u.wakes x)
        (subst (Tallied (length u.calls) (length (taken_by u.wakes x))) at (found_tally x));
    wakeful = λ x z at. by_eqb x t (WakesSome z.core)
        (λ e. subst (λ (y : Call). WakesSome y.core) (same_call (sym there ∙ (ap (call_at u) (sym e) ∙ at))) some)
        (λ e. h.wakeful x z (sym (apart x e) ∙ at));
  }
