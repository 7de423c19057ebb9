-- One that is to wake others, which have gone on by themselves, wakes nobody: what fits of the lot still fits.
use Rattle.std.proofs.Common.{◌≡◌, ◌<◌, ◌≤◌, ℕ, ◌+◌, ◌*◌, ◌==◌, false, List, [], length, Some, None, slice_get, refl}
use Rattle.std.proofs.Common.{sym, ap}
use Rattle.std.proofs.Common.{◌∙◌, subst, arith}
use Rattle.std.proofs.lemmas.Bool.{ne_eqb}
use Rattle.parking_lot_core_model.specs.declared.parking.ParkToken.{ParkToken}
use Rattle.parking_lot_core_model.specs.declared.place.Waiter.{Waiter}
use Rattle.parking_lot_core_model.proofs.Kept.{by_eqb}
use Rattle.parking_lot_machine_calls.specs.declared.seat.WakeResult.{WakeResult}
use Rattle.parking_lot_machine_calls.specs.declared.seat.QueuePosition.{QueuePosition}
use Rattle.parking_lot_machine_calls.specs.declared.open_call.Call.{Call}
use Rattle.parking_lot_machine_calls.specs.declared.seat.Wakeup.{Wakeup}
use Rattle.parking_lot_machine.specs.Rows.{State, call_at, taken_by}
use Rattle.parking_lot_machine_calls.specs.Stances.{Out, Asleep, stance, taken_count}
use Rattle.parking_lot_machine.specs.RowActs.{with_call}
use Rattle.parking_lot_machine.specs.RowFits.{Awaits, IsCounted, IsInside, IsOwed, IsTaken, LotFits, WakesSome}
use Rattle.parking_lot_machine.proofs.Carrying.{Tallied, call_within, lock_kept, no_length, same_call, still_taken}
use Rattle.parking_lot_machine.proofs.Carrying.{tallied}
use Rattle.parking_lot_machine.proofs.LotActs.{changed_here, changed_there, same_length, seat_of, seats_one, sits}

out_asleep : {k : ℕ} {token : ParkToken} → Out ≡ Asleep k token → ⊥
out_asleep e = cc

module _ (s : State) (t : ℕ) (c d : Call) (h : LotFits s) (here : call_at s t ≡ Some c) (from : stance c.core ≡ Out)
    (to : stance d.core ≡ Out) (lock : d.lock ≡ c.lock) (less : taken_count d.core ≤ taken_count c.core)
    (none : taken_by s.wakes t ≡ []) (some : WakesSome d.core) where
  abbrev u : State
  u = with_call s t d

  abbrev low : t < length s.calls
  low = call_within s t c here

  there : call_at u t ≡ Some d
  there = changed_here s t h low (Some d) s.lot

  apart : (v : ℕ) → (v == t) ≡ false → call_at u v ≡ call_at s v
  apart v e = changed_there s t h low (Some d) s.lot v e

  -- it sleeps neither before nor after
  not_mine : (x j : ℕ) (token : ParkToken) (y : Call) → call_at s x ≡ Some y → stance y.core ≡ Asleep j token
      → (x == t) ≡ false
  not_mine x j token y at asleep =
      ne_eqb x t (λ e. out_asleep
      (sym from ∙ (ap (λ (z : Call). stance z.core) (same_call (sym here ∙ (ap (call_at s) (sym e) ∙ at))) ∙ asleep)))

  nobody_waits : (j l n : ℕ) (x : Waiter) → l < 2 → slice_get (s.lot.queues (2 * j + l)) n ≡ Some x → (z : Call)
      × (call_at u x.thread ≡ Some z) × (z.lock ≡ j) × (z.spot ≡ QueuePosition.Listed)
      × Awaits l x.token (stance z.core)
  nobody_waits j l n x two at =
      let old = h.waits j l n x two at in
      let not_t : (x.thread == t) ≡ false =
      ne_eqb x.thread t
      (λ f. subst (Awaits l x.token)
      (ap (λ (y : Call). stance y.core) (same_call (sym old.1 ∙ (ap (call_at s) f ∙ here))) ∙ from) old.4) in
      (old.0, apart x.thread not_t ∙ old.1, old.2, old.3, old.4)

  nobody_owed : (x : ℕ) (z : Call) (j : ℕ) (token : ParkToken) (by : ℕ) (said : WakeResult) → call_at u x ≡ Some z
      → stance z.core ≡ Asleep j token → z.spot ≡ QueuePosition.Off by said → IsOwed s.wakes by x
  nobody_owed x z j token by said at asleep off = by_eqb x t (IsOwed s.wakes by x)
      (λ e. absurd (out_asleep
      (sym to ∙ (ap (λ (y : Call). stance y.core) (same_call (sym there ∙ (ap (call_at u) (sym e) ∙ at)))
      ∙ asleep))))
      (λ e. h.owed x z j token by said (sym (apart x e) ∙ at) asleep off)

  nobody_woken : (n : ℕ) (e : Wakeup) → slice_get s.wakes n ≡ Some e → IsTaken u e
  nobody_woken n e at =
      let old = h.woken n e at in
      let taker = lock_kept s u t c d here there lock apart e.by old.taker old.there in
      let f = not_mine e.thread old.key old.token old.call old.here old.asleep in
      still_taken s u e old taker (apart e.thread f) refl

  nobody_tally : (x : ℕ) → Tallied (length s.calls) (length (taken_by s.wakes x)) (call_at u x)
  nobody_tally x = by_eqb x t (Tallied (length s.calls) (length (taken_by s.wakes x)) (call_at u x))
      (λ e. subst (λ (y : ℕ). Tallied (length s.calls) (length (taken_by s.wakes y)) (call_at u y)) (sym e)
      (subst (Tallied (length s.calls) (length (taken_by s.wakes t))) (sym there) mine))
      (λ e. subst (Tallied (length s.calls) (length (taken_by s.wakes x))) (sym (apart x e)) (tallied s h x))
    where
      mine : IsCounted (length s.calls) (length (taken_by s.wakes t)) d.core
      mine = record {
        most = omega (arith, ap (λ (us : List ℕ). length us) none);
        few = omega (arith, less, (h.counted t c here).few);
        all = λ i. absurd (subst IsInside to i);
      }

  now : (x : ℕ) → Tallied (length u.calls) (length (taken_by u.wakes x)) (call_at u x)
  now x = subst (λ (n : ℕ). Tallied n (length (taken_by s.wakes x)) (call_at u x))
      (sym (same_length s t h low (Some d) s.lot)) (nobody_tally x)

  pub nobody_fits : LotFits u
  nobody_fits = record {
    sound = h.sound;
    seated = seats_one s t h low (Some d) s.lot
        (sits t d Out s.lot to (seat_of s h t c Out here from))
        (λ v e x. x);
    opened = λ b section at. let o = h.opened b section at in
        (o.0, o.1, subst (λ (n : ℕ). o.0 < n) (sym (same_length s t h low (Some d) s.lot)) o.2);
    waits = nobody_waits;
    owed = nobody_owed;
    outside = λ x j z token by said y key sleep at asleep off place. by_eqb x t (s.lot.inside by ≡ None)
        (λ e. absurd (out_asleep
        (sym to ∙ (ap (λ (y : Call). stance y.core) (same_call (sym there ∙ (ap (call_at u) (sym e) ∙ at)))
        ∙ asleep))))
        (λ e. h.outside x j z token by said y key sleep (sym (apart x e) ∙ at) asleep off place);
    woken = nobody_woken;
    once = h.once;
    counted = λ x z at. subst (Tallied (length u.calls) (length (taken_by u.wakes x))) at (now x);
    untaken = λ x at. no_length (taken_by u.wakes x)
        (subst (Tallied (length u.calls) (length (taken_by u.wakes x))) at (now x));
    wakeful = λ x z at. by_eqb x t (WakesSome z.core)
        (λ e. subst (λ (y : Call). WakesSome y.core) (same_call (sym there ∙ (ap (call_at u) (sym e) ∙ at))) some)
        (λ e. h.wakeful x z (sym (apart x e) ∙ at));
  }
