-- Waking one that was taken keeps what fits of the lot.
use Rattle.std.proofs.Common.{◌≡◌, ◌<◌, ℕ, ◌+◌, ◌-◌, ◌*◌, ◌==◌, ◌⊎◌, inl, inr, false, length, Option, Some, None}
use Rattle.std.proofs.Common.{slice_get}
use Rattle.std.proofs.Common.{slice_set, refl, sym, ap, ◌∙◌, subst, arith, eq-eqb}
use Rattle.std.specs.List.{position_or_len}
use Rattle.std.specs.Option.{option_map_or}
use Rattle.std.proofs.lemmas.Bool.{ne_eqb, eqb-false}
use Rattle.std.proofs.lemmas.List.{length-set}
use Rattle.parking_lot_core_model.specs.declared.parking.ParkToken.{ParkToken}
use Rattle.parking_lot_core_model.specs.declared.parking.UnparkToken.{UnparkToken}
use Rattle.parking_lot_core_model.specs.declared.place.Place.{Place}
use Rattle.parking_lot_core_model.specs.declared.place.Place.TheVariants.{Running, Held, Taken}
use Rattle.parking_lot_core_model.specs.declared.place.Section.{Section}
use Rattle.parking_lot_core_model.specs.declared.place.Sleep.{Sleep}
use Rattle.parking_lot_core_model.specs.declared.place.Waiter.{Waiter}
use Rattle.parking_lot_core_model.specs.Places.{place_at, mark_of}
use Rattle.parking_lot_core_model.specs.Sound.{Sound}
use Rattle.parking_lot_core_model.proofs.Kept.{eqb_false_symm}
use Rattle.parking_lot_core_model.proofs.Numbers.{flag}
use Rattle.parking_lot_core_model.proofs.Kept.{by_eqb}
use Rattle.parking_lot_core_model.proofs.Sounds.{place_at-set_same, place_at-set_other}
use Rattle.parking_lot_protocol.specs.declared.act.ActResult.TheVariants as seen
use Rattle.parking_lot_machine_calls.specs.declared.seat.WakeResult.{WakeResult}
use Rattle.parking_lot_machine_calls.specs.declared.seat.QueuePosition.{QueuePosition}
use Rattle.parking_lot_machine_calls.specs.declared.open_call.Call.{Call}
use Rattle.parking_lot_machine_calls.specs.declared.seat.Wakeup.{Wakeup}
use Rattle.parking_lot_machine.specs.Rows.{State, bucket, call_at, is_by, open_at, taken_by}
use Rattle.parking_lot_machine_calls.specs.Stances.{Out, Asleep, stance, taken_count}
use Rattle.parking_lot_machine.specs.RowActs.{woke}
use Rattle.parking_lot_machine_calls.specs.CallActs.{hears, told_of}
use Rattle.parking_lot_machine.specs.RowFits.{IsAt, IsCounted, IsInside, SaidIn, Seated, SeatedIn, Awaits, IsTaken}
use Rattle.parking_lot_machine.specs.RowFits.{IsOwed, TakersAreOut, WakesSome, LotFits}
use Rattle.parking_lot_machine_calls.proofs.Stancing.{sleepers_wake, wakes_some}
use Rattle.parking_lot_machine.proofs.Indexing.{get_remove, kept_remove, apart_before, not_removed}
use Rattle.parking_lot_machine.proofs.Carrying.{same_call, call_within, set_elsewhere, Tallied, dropped, tallied}
use Rattle.parking_lot_machine.proofs.Carrying.{no_length}
use Rattle.parking_lot_rules.proofs.Slots.{set_there}
use Rattle.parking_lot_machine.proofs.LotActs.{no_section, seat_of, sits}

same_wakeup : {e f : Wakeup} → Some e ≡ Some f → e ≡ f
same_wakeup e = cc

out_asleep : {k : ℕ} {token : ParkToken} → Out ≡ Asleep k token → ⊥
out_asleep e = cc

-- The thread t stands outside, and wakes the first whom it is to wake, who is in the call d.
module _ (s : State) (t : ℕ) (c : Call) (h : LotFits s) (here : call_at s t ≡ Some c) (e : Wakeup) (d : Call)
    (first : slice_get s.wakes (position_or_len (is_by t) s.wakes) ≡ Some e) (by_t : e.by ≡ t)
    (there : call_at s e.thread ≡ Some d) (from : stance c.core ≡ Out) where
  -- it sleeps, off its list
  pub woken_off : (said : WakeResult) × (k : ℕ) × (token : ParkToken) × (d.spot ≡ QueuePosition.Off t said)
      × (stance d.core ≡ Asleep k token)
  woken_off =
      let x = h.woken (position_or_len (is_by t) s.wakes) e first in
      let same : x.call ≡ d = same_call (sym x.here ∙ there) in (
        x.said,
        x.key,
        x.token,
        subst (λ (b : ℕ). d.spot ≡ QueuePosition.Off b x.said) by_t (ap (λ (y : Call). y.spot) (sym same) ∙ x.spot),
        ap (λ (y : Call). stance y.core) (sym same) ∙ x.asleep,
      )

  -- it was told, and isn't woken yet
  pub due_place : (token : UnparkToken) × (key : ℕ) × (sleep : Sleep)
      × (place_at s.lot.places e.thread ≡ Some (Taken token key sleep false)) × (sleep.late ≡ false)
      × (sleep.mark ≡ e.mark)
      × (woken_off.0 ≡ told_of token)
  due_place =
      let x = woken_off in
      let mine = seat_of s h t c Out here from in
      let its = seat_of s h e.thread d (Asleep x.1 x.2) there x.4 in
      go x.0 mine.1 (2 * d.lock + x.1)
      (subst (λ (a : QueuePosition). IsAt a (place_at s.lot.places e.thread) (open_at s) (2 * d.lock + x.1)) x.3 its.0)
    where
      marked : (token : UnparkToken) (key : ℕ) (sleep : Sleep)
          → place_at s.lot.places e.thread ≡ Some (Taken token key sleep false) → sleep.mark ≡ e.mark
      marked token key sleep place = sym (ap (λ (p : Option Place). option_map_or mark_of p 0) place)
          ∙ (h.woken (position_or_len (is_by t) s.wakes) e first).mark

      go : (said : WakeResult) → s.lot.inside t ≡ None → (key : ℕ)
          → IsAt (QueuePosition.Off t said) (place_at s.lot.places e.thread) (open_at s) key
          → (token : UnparkToken) × (at : ℕ) × (sleep : Sleep)
          × (place_at s.lot.places e.thread ≡ Some (Taken token at sleep false)) × (sleep.late ≡ false)
          × (sleep.mark ≡ e.mark) × (said ≡ told_of token)
      go said out key x = told x.2
        where
          told : ((place_at s.lot.places e.thread ≡ Some (Held key x.0)) × (opened : Section)
              × (open_at s key ≡ Some opened) × (opened.thread ≡ Some t) × SaidIn opened said)
              ⊎ ((token : UnparkToken) × (place_at s.lot.places e.thread ≡ Some (Taken token key x.0 false))
              × (said ≡ told_of token))
              → (token : UnparkToken) × (at : ℕ) × (sleep : Sleep)
              × (place_at s.lot.places e.thread ≡ Some (Taken token at sleep false)) × (sleep.late ≡ false)
              × (sleep.mark ≡ e.mark) × (said ≡ told_of token)
          told (inl y) = absurd (no_section s h t (bucket s key) y.1 out y.2 y.3)
          told (inr y) = (y.0, key, x.0, y.1, x.1, marked y.0 key x.0 y.1, y.2)

  pub other : (e.thread == t) ≡ false
  other = ne_eqb e.thread t
      (λ same. out_asleep
      (sym from ∙ (ap (λ (y : Call). stance y.core) (same_call (sym here ∙ (ap (call_at s) (sym same) ∙ there)))
      ∙ woken_off.4)))

  module _ (token : UnparkToken) where
    abbrev rouses : Call
    rouses = hears c seen.Made

    abbrev roused_call : Call
    roused_call = record (hears d (seen.Woken token)) { spot = QueuePosition.Listed }

    abbrev u : State
    u = woke s t c e.thread d token

    abbrev i : ℕ
    i = position_or_len (is_by t) s.wakes

    pub awake : (taken_count d.core ≡ 0) × (stance roused_call.core ≡ Out) × (taken_count roused_call.core ≡ 0)
    awake = sleepers_wake d.core woken_off.1 woken_off.2 token woken_off.4

    place_woken : place_at u.lot.places e.thread ≡ Some Running
    place_woken = place_at-set_same s.lot.places e.thread (Taken due_place.0 due_place.1 due_place.2 false)
        (Some Running) due_place.3

    place_other : (x : ℕ) → (x == e.thread) ≡ false → place_at u.lot.places x ≡ place_at s.lot.places x
    place_other x f = place_at-set_other s.lot.places e.thread x (Some Running) f

    pub call_mine : call_at u t ≡ Some rouses
    call_mine =
        set_there (slice_set s.calls e.thread (Some roused_call)) t (Some rouses)
        (subst (λ (n : ℕ). t < n) (sym (length-set s.calls e.thread (Some roused_call))) (call_within s t c here))

    pub call_woken : call_at u e.thread ≡ Some roused_call
    call_woken =
        set_elsewhere (slice_set s.calls e.thread (Some roused_call)) t e.thread (Some rouses) other
        ∙ set_there s.calls e.thread (Some roused_call) (call_within s e.thread d there)

    pub call_other : (x : ℕ) → (x == t) ≡ false → (x == e.thread) ≡ false → call_at u x ≡ call_at s x
    call_other x f g =
        set_elsewhere (slice_set s.calls e.thread (Some roused_call)) t x (Some rouses) f
        ∙ set_elsewhere s.calls e.thread x (Some roused_call) g

    pub woke_length : length u.calls ≡ length s.calls
    woke_length = length-set (slice_set s.calls e.thread (Some roused_call)) t (Some rouses)
        ∙ length-set s.calls e.thread (Some roused_call)

    lock_kept : (x : ℕ) (y : Call) → call_at s x ≡ Some y → (z : Call) × (call_at u x ≡ Some z) × (z.lock ≡ y.lock)
    lock_kept x y is = by_eqb x t ((z : Call) × (call_at u x ≡ Some z) × (z.lock ≡ y.lock))
        (λ f. (
          rouses,
          ap (call_at u) f ∙ call_mine,
          ap (λ (z : Call). z.lock) (same_call (sym here ∙ (ap (call_at s) (sym f) ∙ is))),
        ))
        (λ f. by_eqb x e.thread ((z : Call) × (call_at u x ≡ Some z) × (z.lock ≡ y.lock))
        (λ g. (
          roused_call,
          ap (call_at u) g ∙ call_woken,
          ap (λ (z : Call). z.lock) (same_call (sym there ∙ (ap (call_at s) (sym g) ∙ is))),
        ))
        (λ g. (y, call_other x f g ∙ is, refl)))

    not_mine : (x j : ℕ) (park : ParkToken) (y : Call) → call_at s x ≡ Some y → stance y.core ≡ Asleep j park
        → (x == t) ≡ false
    not_mine x j park y is asleep =
        ne_eqb x t (λ f. out_asleep
        (sym from ∙ (ap (λ (z : Call). stance z.core) (same_call (sym here ∙ (ap (call_at s) (sym f) ∙ is))) ∙ asleep)))

    module _ (to : stance rouses.core ≡ Out) (counts : taken_count rouses.core ≡ taken_count c.core - 1)
        (sound : Sound u.lot) where
      -- the places of the others stay, and all sections
      stays : (x : ℕ) → (x == e.thread) ≡ false → SeatedIn s.lot x (call_at s x) → SeatedIn u.lot x (call_at s x)
      stays x f = subst (λ (p : Option Place). SeatedIn s.lot x (call_at s x)
          → Seated x (call_at s x) p (s.lot.inside x) (open_at s)) (sym (place_other x f)) (λ y. y)

      woke_seated : (x : ℕ) → x < length u.calls → SeatedIn u.lot x (call_at u x)
      woke_seated x within = by_eqb x t (SeatedIn u.lot x (call_at u x))
          (λ f. let seat = seat_of s h t c Out here from in
          subst (λ (y : ℕ). SeatedIn u.lot y (call_at u y)) (sym f)
          (subst (λ (o : Option Call). SeatedIn u.lot t o) (sym call_mine)
          (sits t rouses Out u.lot to (place_other t (eqb_false_symm e.thread t other) ∙ seat.0, seat.1))))
          (λ f. by_eqb x e.thread (SeatedIn u.lot x (call_at u x))
          (λ g. let seat = seat_of s h e.thread d (Asleep woken_off.1 woken_off.2) there woken_off.4 in
          subst (λ (y : ℕ). SeatedIn u.lot y (call_at u y)) (sym g)
          (subst (λ (o : Option Call). SeatedIn u.lot e.thread o) (sym call_woken)
          (sits e.thread roused_call Out u.lot awake.1 (place_woken, seat.1))))
          (λ g. subst (λ (o : Option Call). SeatedIn u.lot x o) (sym (call_other x f g))
          (stays x g (h.seated x (subst (λ (n : ℕ). x < n) woke_length within)))))

      woke_waits : (j l n : ℕ) (w : Waiter) → l < 2 → slice_get (u.lot.queues (2 * j + l)) n ≡ Some w → (z : Call)
          × (call_at u w.thread ≡ Some z) × (z.lock ≡ j) × (z.spot ≡ QueuePosition.Listed)
          × Awaits l w.token (stance z.core)
      woke_waits j l n w low is =
          let old = h.waits j l n w low is in
          let not_t : (w.thread == t) ≡ false =
          ne_eqb w.thread t
          (λ f. subst (Awaits l w.token)
          (ap (λ (y : Call). stance y.core) (same_call (sym old.1 ∙ (ap (call_at s) f ∙ here))) ∙ from) old.4) in
          let not_e : (w.thread == e.thread) ≡ false =
          ne_eqb w.thread e.thread
          (λ f. listed≢off
          (sym old.3 ∙ (ap (λ (y : Call). y.spot) (same_call (sym old.1 ∙ (ap (call_at s) f ∙ there)))
          ∙ woken_off.3))) in
          (old.0, call_other w.thread not_t not_e ∙ old.1, old.2, old.3, old.4)
        where
          listed≢off : {said : WakeResult} → QueuePosition.Listed ≡ QueuePosition.Off t said → ⊥
          listed≢off e = cc

      woke_owed : (x : ℕ) (z : Call) (j : ℕ) (park : ParkToken) (by : ℕ) (said : WakeResult) → call_at u x ≡ Some z
          → stance z.core ≡ Asleep j park → z.spot ≡ QueuePosition.Off by said → IsOwed u.wakes by x
      woke_owed x z j park by said is asleep off = by_eqb x t (IsOwed u.wakes by x)
          (λ f. absurd (out_asleep
          (sym to ∙ (ap (λ (y : Call). stance y.core) (same_call (sym call_mine ∙ (ap (call_at u) (sym f) ∙ is)))
          ∙ asleep))))
          (λ f. by_eqb x e.thread (IsOwed u.wakes by x)
          (λ g. absurd (out_asleep
          (sym awake.1 ∙ (ap (λ (y : Call). stance y.core)
          (same_call (sym call_woken ∙ (ap (call_at u) (sym g) ∙ is))) ∙ asleep))))
          (λ g.
          let old = h.owed x z j park by said (sym (call_other x f g) ∙ is) asleep off in
          let left = kept_remove s.wakes i old.0 old.1 old.2
          (λ at. eqb-false x e.thread g
          (sym old.4 ∙ ap (λ (y : Wakeup). y.thread)
          (same_wakeup (sym old.2 ∙ (ap (slice_get s.wakes) at ∙ first))))) in
          (left.0, old.1, left.1, old.3, old.4)))

      woke_outside : TakersAreOut u u.lot
      woke_outside x j z park by said y key sleep is asleep off place = by_eqb x t (s.lot.inside by ≡ None)
          (λ f. absurd (out_asleep
          (sym to ∙ (ap (λ (y : Call). stance y.core) (same_call (sym call_mine ∙ (ap (call_at u) (sym f) ∙ is)))
          ∙ asleep))))
          (λ f. by_eqb x e.thread (s.lot.inside by ≡ None)
          (λ g. absurd (out_asleep
          (sym awake.1 ∙ (ap (λ (y : Call). stance y.core)
          (same_call (sym call_woken ∙ (ap (call_at u) (sym g) ∙ is))) ∙ asleep))))
          (λ g. h.outside x j z park by said y key sleep (sym (call_other x f g) ∙ is) asleep off
          (sym (place_other x g) ∙ place)))

      woke_woken : (n : ℕ) (f : Wakeup) → slice_get u.wakes n ≡ Some f → IsTaken u f
      woke_woken n f is =
          let m = get_remove s.wakes i n f is in
          let old = h.woken m.0 f m.1 in
          let taker = lock_kept f.by old.taker old.there in
          let not_e : (f.thread == e.thread) ≡ false =
          ne_eqb f.thread e.thread (λ same. not_removed i n m.0 m.2 (h.once m.0 i f e m.1 first same)) in
          record {
            taker = taker.0;
            there = taker.1;
            call = old.call;
            here = call_other f.thread (not_mine f.thread old.key old.token old.call old.here old.asleep) not_e
                ∙ old.here;
            lock = old.lock ∙ sym taker.2;
            said = old.said;
            spot = old.spot;
            key = old.key;
            token = old.token;
            asleep = old.asleep;
            mark = ap (λ (p : Option Place). option_map_or mark_of p 0) (place_other f.thread not_e) ∙ old.mark;
          }

      woke_once : (n m : ℕ) (f g : Wakeup) → slice_get u.wakes n ≡ Some f → slice_get u.wakes m ≡ Some g
          → f.thread ≡ g.thread → n ≡ m
      woke_once n m f g is is' same =
          let a = get_remove s.wakes i n f is in
          let b = get_remove s.wakes i m g is' in
          apart_before i n m a.0 b.0 a.2 b.2 (h.once a.0 b.0 f g a.1 b.1 same)

      -- it counts one fewer
      woke_mine : IsCounted (length u.calls) (length (taken_by u.wakes t)) rouses.core
      woke_mine =
          let less = dropped s.wakes i e first t in
          let one : flag (e.by == t) ≡ 1 = ap flag (eq-eqb e.by t by_t) in
          let before = h.counted t c here in
          record {
            most = omega (arith, less, one, before.most, counts);
            few = omega (arith, before.few, counts, woke_length);
            all = λ q. absurd (subst IsInside to q);
          }

      -- and the one that is woken has taken nobody
      woke_its : IsCounted (length s.calls) (length (taken_by s.wakes e.thread)) roused_call.core
      woke_its = let before = h.counted e.thread d there in
          record {
            most = omega (arith, before.most, awake.0);
            few = omega (arith, awake.2);
            all = λ q. absurd (subst IsInside awake.1 q);
          }

      woke_same : (x : ℕ) → (x == t) ≡ false → length (taken_by u.wakes x) ≡ length (taken_by s.wakes x)
      woke_same x f = let none : flag (e.by == x) ≡ 0 =
          ap flag (ne_eqb e.by x (λ same. eqb-false x t f (sym same ∙ by_t))) in
          omega (arith, dropped s.wakes i e first x, none)

      woke_tally : (x : ℕ) → Tallied (length u.calls) (length (taken_by u.wakes x)) (call_at u x)
      woke_tally x = by_eqb x t (Tallied (length u.calls) (length (taken_by u.wakes x)) (call_at u x))
          (λ f. subst (λ (y : ℕ). Tallied (length u.calls) (length (taken_by u.wakes y)) (call_at u y)) (sym f)
          (subst (Tallied (length u.calls) (length (taken_by u.wakes t))) (sym call_mine) woke_mine))
          (λ f. subst (λ (n : ℕ). Tallied n (length (taken_by u.wakes x)) (call_at u x)) (sym woke_length)
          (subst (λ (n : ℕ). Tallied (length s.calls) n (call_at u x)) (sym (woke_same x f))
          (by_eqb x e.thread (Tallied (length s.calls) (length (taken_by s.wakes x)) (call_at u x))
          (λ g. subst (λ (y : ℕ). Tallied (length s.calls) (length (taken_by s.wakes y)) (call_at u y)) (sym g)
          (subst (Tallied (length s.calls) (length (taken_by s.wakes e.thread))) (sym call_woken) woke_its))
          (λ g. subst (Tallied (length s.calls) (length (taken_by s.wakes x))) (sym (call_other x f g))
          (tallied s h x)))))

      woke_wakeful : (x : ℕ) (z : Call) → call_at u x ≡ Some z → WakesSome z.core
      woke_wakeful x z is = by_eqb x t (WakesSome z.core)
          (λ f. subst (λ (y : Call). WakesSome y.core) (same_call (sym call_mine ∙ (ap (call_at u) (sym f) ∙ is)))
          (wakes_some c.core seen.Made))
          (λ f. by_eqb x e.thread (WakesSome z.core)
          (λ g. subst (λ (y : Call). WakesSome y.core) (same_call (sym call_woken ∙ (ap (call_at u) (sym g) ∙ is)))
          (wakes_some d.core (seen.Woken token)))
          (λ g. h.wakeful x z (sym (call_other x f g) ∙ is)))

      pub woke_fits : LotFits u
      woke_fits = record {
        sound = sound;
        seated = woke_seated;
        opened = λ b section is. let o = h.opened b section is in
            (o.0, o.1, subst (λ (n : ℕ). o.0 < n) (sym woke_length) o.2);
        waits = woke_waits;
        owed = woke_owed;
        outside = woke_outside;
        woken = woke_woken;
        once = woke_once;
        counted = λ x z is. subst (Tallied (length u.calls) (length (taken_by u.wakes x))) is (woke_tally x);
        untaken = λ x is. no_length (taken_by u.wakes x)
            (subst (Tallied (length u.calls) (length (taken_by u.wakes x))) is (woke_tally x));
        wakeful = woke_wakeful;
      }
