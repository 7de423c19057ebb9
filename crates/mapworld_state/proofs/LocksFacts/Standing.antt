-- What threads are about, in a step: the thread's own call goes on or is over, and everybody else is about the same.
use Rattle.std.proofs.Common.{◌≡◌, ◌≢◌, ℕ, ◌<◌, inl, inr, Bool, true, false, cond, List, map, length, Option, Some}
use Rattle.std.proofs.Common.{None, get_or, slice_get, slice_set, refl, sym, ap, ◌∙◌, subst, arith}
use Rattle.std.specs.Option.{option_and_then, option_map}
use Rattle.std.proofs.lemmas.Bool.{cases_eq}
use Rattle.std.proofs.lemmas.List.{length-set}
use Rattle.std.proofs.lemmas.Option.{none-some, slice_get_within, slice_get-get_or}
use Rattle.parking_lot_core_model.specs.declared.parking.UnparkToken.{UnparkToken}
use Rattle.parking_lot_protocol.specs.declared.act.Act.{Act}
use Rattle.parking_lot_protocol.specs.declared.act.SectionAct.{SectionAct}
use Rattle.parking_lot_protocol.specs.declared.act.ActResult.{ActResult}
use Rattle.parking_lot_protocol.specs.declared.act.CoreAnswer.{CoreAnswer}
use Rattle.parking_lot_rules.proofs.Indexed.{get-set_same}
use Rattle.parking_lot_machine_calls.specs.declared.open_call.Call.{Call}
use Rattle.parking_lot_machine_calls.specs.declared.seat.QueuePosition.{QueuePosition}
use Rattle.parking_lot_machine_calls.specs.declared.seat.WakeResult.{WakeResult}
use Rattle.parking_lot_machine_calls.specs.declared.seat.Wakeup.{Wakeup}
use Rattle.parking_lot_machine.specs.Machines.{Became, BecameInside, IsStepped, end_of}
use Rattle.parking_lot_machine_calls.specs.CallActs.{hears, off_list, settled}
use Rattle.parking_lot_machine.specs.Rows.{State, call_at}
use Rattle.parking_lot_machine_calls.specs.Stances.{core_act}
use Rattle.parking_lot_machine.specs.TellLaws.{IsDue}
use Rattle.mapworld_state.specs.Locks.Stands.{Stand, stand_of}
use Rattle.mapworld_state.specs.Locks.Steps.{HasActed}
use Rattle.mapworld_state.proofs.LocksFacts.Calls.{Hears, call_of, late_is, map_of, set_nothing}
use Rattle.mapworld_state.proofs.LocksFacts.Calls.{slot}
use Rattle.parking_lot_rules.proofs.Slots.{set_elsewhere}

-- THE THREAD ITSELF

-- its call goes on with what its act gave
pub record GoesOnBy (c : Call) (o : Option Call) : Type 0 where
  pub call : Call
  pub there : o ≡ Some call
  pub lock : call.lock ≡ c.lock
  pub others : call.others ≡ c.others
  pub asked : call.asked ≡ c.asked
  pub heard : Hears c.core call.core

pub set_low : (calls : List (Option Call)) (t : ℕ) (o : Option Call) → t < length calls
    → call_of (slice_set calls t o) t ≡ o
set_low calls t o low =
    ap (option_and_then (λ y. y)) (get-set_same calls t (get_or calls t None) o (slice_get-get_or calls t None low))

module _ (s : State) (t : ℕ) (c : Call) (low : t < length s.calls) where
  GoesIn : State → Type 0
  GoesIn u = GoesOnBy c (call_of u.calls t)

  is_own : (u w : State) → u ≡ w → GoesOnBy c (call_of w.calls t) → GoesOnBy c (call_of u.calls t)
  is_own u w e g = subst (λ (x : State). GoesOnBy c (call_of x.calls t)) (sym e) g

  own_either : (b : Bool) (u w : State) → GoesOnBy c (call_of u.calls t) → GoesOnBy c (call_of w.calls t)
      → GoesOnBy c (call_of (cond b u w).calls t)
  own_either true u w g h = g
  own_either false u w g h = h

  heard : (calls : List (Option Call)) → length calls ≡ length s.calls → (k : ActResult)
      → GoesOnBy c (call_of (slice_set calls t (Some (hears c k))) t)
  heard calls same k = record {
    call = hears c k;
    there = set_low calls t (Some (hears c k)) (omega (arith, low, same));
    lock = refl;
    others = refl;
    asked = refl;
    heard = inl (k, refl);
  }

  own_told : (k : ActResult) → GoesOnBy c (call_of (slice_set s.calls t (Some (hears c k))) t)
  own_told k = heard s.calls refl k

  own_after : (w : ℕ) (o : Option Call) (k : ActResult)
      → GoesOnBy c (call_of (slice_set (slice_set s.calls w o) t (Some (hears c k))) t)
  own_after w o k = heard (slice_set s.calls w o) (length-set s.calls w o) k

  own_says : (k : ActResult) (r : WakeResult)
      → GoesOnBy c (call_of (map (option_map (settled t r)) (slice_set s.calls t (Some (hears c k)))) t)
  own_says k r = record {
    call = settled t r (hears c k);
    there = map_of (settled t r) (slice_set s.calls t (Some (hears c k))) t
        ∙ ap (option_map (settled t r)) (set_low s.calls t (Some (hears c k)) low);
    lock = refl;
    others = refl;
    asked = refl;
    heard = inl (k, refl);
  }

  own_joined : GoesOnBy c
      (call_of (slice_set s.calls t (Some (record (hears c ActResult.Made) { spot = QueuePosition.Listed }))) t)
  own_joined = record {
    call = _;
    there = set_low s.calls t _ low;
    lock = refl;
    others = refl;
    asked = refl;
    heard = inl (ActResult.Made, refl);
  }

  own_inside : (k : SectionAct) (fair : Bool) (u : State) → BecameInside k t fair c s u → GoesOnBy c (call_of u.calls t)
  own_inside SectionAct.Check fair u e = is_own u _ e (own_told _)
  own_inside SectionAct.TakeFirst fair u (k, stands, inl (nth, w, first, e)) = is_own u _ e (own_after _ _ _)
  own_inside SectionAct.TakeFirst fair u (k, stands, inr (empty, e)) = is_own u _ e (own_told _)
  own_inside (SectionAct.TakeNext sum) fair u (k, stands, inl (nth, w, first, e)) = is_own u _ e (own_after _ _ _)
  own_inside (SectionAct.TakeNext sum) fair u (k, stands, inr (empty, e)) = is_own u _ e (own_told _)
  own_inside (SectionAct.Append token) fair u (k, stands, e) = is_own u _ e own_joined
  own_inside (SectionAct.Store plain handing) fair u e = is_own u _ e (own_says _ _)
  own_inside SectionAct.Leave fair u e = is_own u _ e (own_told _)
  own_inside SectionAct.Wake fair u (inr (gone, is_it)) = is_own u _ is_it (own_told _)
  own_inside SectionAct.Wake fair u (inl (e, d, token, due, is_it)) = is_own u _ is_it (own_after _ _ _)

  own_goes : (a : Act) (fair : Bool) (u : State) → end_of a ≡ None → Became a t fair c s u
      → GoesOnBy c (call_of u.calls t)
  own_goes Act.Load fair u none e = is_own u _ e (own_told _)
  own_goes (Act.Exchange from to) fair u none e = is_own u _ e (own_either _ _ _ (own_told _) (own_told _))
  own_goes (Act.Add by) fair u none e = is_own u _ e (own_told _)
  own_goes (Act.FetchAnd keep) fair u none e = is_own u _ e (own_says _ _)
  own_goes Act.Spin fair u none e = is_own u _ e (own_told _)
  own_goes (Act.Enter key) fair u none e = is_own u _ e (own_told _)
  own_goes (Act.Section next) fair u none b = own_inside next fair u b
  own_goes Act.Sleep fair u none b = let l = late_is s u t c c.core refl b in
      is_own u _ l.3 (record {
        call = l.0;
        there = set_low s.calls t (Some l.0) low;
        lock = l.4;
        others = l.5;
        asked = l.6;
        heard = l.7;
      })
  own_goes (Act.Done answer) fair u none e = absurd (none-some answer (sym none))

-- A step that isn't an answer leaves its thread in its call.
pub own_call : (s u : State) (t : ℕ) (fair : Bool) (x : HasActed t fair None s u) → GoesOnBy x.call (call_at u t)
own_call s u t fair x = own_goes s t x.call (slice_get_within s.calls t (Some x.call) (slot s.calls t x.call x.here))
    (core_act x.call.core) fair u (sym x.answers) x.became

-- EVERYBODY ELSE

abbrev pub stand_at : List (Option Call) → ℕ → Option Stand
stand_at calls v = option_map stand_of (call_of calls v)

-- in place of a call another that is about the same
set_alike : (calls : List (Option Call)) (w v : ℕ) (o : Option Call) → option_map stand_of o ≡ stand_at calls w
    → stand_at (slice_set calls w o) v ≡ stand_at calls v
set_alike calls w v o same = elim (cases_eq v w) [
  | inl e ↦ ap (stand_at (slice_set calls w o)) e ∙ at (slice_get calls w) refl ∙ ap (stand_at calls) (sym e)
  | inr ne ↦ ap (option_map stand_of) (set_elsewhere calls w v o ne)
]
  where
    at : (x : Option (Option Call)) → slice_get calls w ≡ x → stand_at (slice_set calls w o) w ≡ stand_at calls w
    at (Some y) e = ap (λ z. option_map stand_of (option_and_then (λ y. y) z)) (get-set_same calls w y o e) ∙ same
    at None e = ap (λ z. option_map stand_of (option_and_then (λ y. y) z)) (set_nothing calls w o e)
        ∙ sym (ap (λ z. option_map stand_of (option_and_then (λ y. y) z)) e)

module _ (s : State) (t : ℕ) (c : Call) (v : ℕ) (other : v ≢ t) where
  abbrev Same : List (Option Call) → Type 0
  Same calls = stand_at calls v ≡ stand_at s.calls v

  is : (u w : State) → u ≡ w → Same w.calls → Same u.calls
  is u w e r = subst (λ (x : State). Same x.calls) (sym e) r

  either : (b : Bool) (u w : State) → Same u.calls → Same w.calls → Same (cond b u w).calls
  either true u w r q = r
  either false u w r q = q

  apart : (calls : List (Option Call)) (o : Option Call) → stand_at (slice_set calls t o) v ≡ stand_at calls v
  apart calls o = ap (option_map stand_of) (set_elsewhere calls t v o other)

  says : (r : WakeResult) (o : Option Call) → Same (map (option_map (settled t r)) (slice_set s.calls t o))
  says r o = ap (option_map stand_of) (map_of (settled t r) (slice_set s.calls t o) v)
      ∙ at (call_of (slice_set s.calls t o) v) ∙ apart s.calls o
    where
      at : (x : Option Call) → option_map stand_of (option_map (settled t r) x) ≡ option_map stand_of x
      at None = refl
      at (Some y) = refl

  takes : (w : ℕ) (p : Option Call)
      → Same (slice_set (slice_set s.calls w (option_map (off_list t) (call_of s.calls w))) t p)
  takes w p = apart (slice_set s.calls w (option_map (off_list t) (call_of s.calls w))) p
      ∙ set_alike s.calls w v (option_map (off_list t) (call_of s.calls w)) (at (call_of s.calls w))
    where
      at : (x : Option Call) → option_map stand_of (option_map (off_list t) x) ≡ option_map stand_of x
      at None = refl
      at (Some y) = refl

  -- whoever is woken is about the same
  wakes : (e : Wakeup) (d : Call) (token : UnparkToken) (p : Option Call) → IsDue s t e d token
      → Same (slice_set (slice_set s.calls e.thread
      (Some (record (hears d (ActResult.Woken token)) { spot = QueuePosition.Listed }))) t p)
  wakes e d token p due = apart (slice_set s.calls e.thread woken) p
      ∙ set_alike s.calls e.thread v woken (sym (ap (option_map stand_of) due.there))
    where
      woken : Option Call
      woken = Some (record (hears d (ActResult.Woken token)) { spot = QueuePosition.Listed })

  goes_inside : (k : SectionAct) (fair : Bool) (u : State) → BecameInside k t fair c s u → Same u.calls
  goes_inside SectionAct.Check fair u e = is u _ e (apart s.calls _)
  goes_inside SectionAct.TakeFirst fair u (k, stands, inl (nth, w, first, e)) = is u _ e (takes w.thread _)
  goes_inside SectionAct.TakeFirst fair u (k, stands, inr (empty, e)) = is u _ e (apart s.calls _)
  goes_inside (SectionAct.TakeNext sum) fair u (k, stands, inl (nth, w, first, e)) = is u _ e (takes w.thread _)
  goes_inside (SectionAct.TakeNext sum) fair u (k, stands, inr (empty, e)) = is u _ e (apart s.calls _)
  goes_inside (SectionAct.Append token) fair u (k, stands, e) = is u _ e (apart s.calls _)
  goes_inside (SectionAct.Store plain handing) fair u e = is u _ e (says _ _)
  goes_inside SectionAct.Leave fair u e = is u _ e (apart s.calls _)
  goes_inside SectionAct.Wake fair u (inr (gone, is_it)) = is u _ is_it (apart s.calls _)
  goes_inside SectionAct.Wake fair u (inl (e, d, token, due, is_it)) = is u _ is_it (wakes e d token _ due)

  goes : (a : Act) (fair : Bool) (u : State) → Became a t fair c s u → Same u.calls
  goes Act.Load fair u e = is u _ e (apart s.calls _)
  goes (Act.Exchange from to) fair u e = is u _ e (either _ _ _ (apart s.calls _) (apart s.calls _))
  goes (Act.Add by) fair u e = is u _ e (apart s.calls _)
  goes (Act.FetchAnd keep) fair u e = is u _ e (says _ _)
  goes Act.Spin fair u e = is u _ e (apart s.calls _)
  goes (Act.Enter key) fair u e = is u _ e (apart s.calls _)
  goes (Act.Section next) fair u b = goes_inside next fair u b
  goes Act.Sleep fair u b = let l = late_is s u t c c.core refl b in is u _ l.3 (apart s.calls _)
  goes (Act.Done answer) fair u e = is u _ e (apart s.calls _)

-- In a step everybody else stays about the same.
pub others_stand : (s u : State) (t : ℕ) (fair : Bool) (answer : Option CoreAnswer) → IsStepped t fair answer s u
    → (v : ℕ) → v ≢ t → option_map stand_of (call_at u v) ≡ option_map stand_of (call_at s v)
others_stand s u t fair answer x v ne = goes s t x.call v ne (core_act x.call.core) fair u x.became
