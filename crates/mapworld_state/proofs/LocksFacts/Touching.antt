-- A step changes the word of its thread's lock, or one of the lists there, and nothing of another lock.
use Rattle.std.proofs.Common.{◌≡◌, ◌≢◌, ℕ, ◌+◌, ◌*◌, inl, inr, ◌⊎◌, Bool, true, false, cond, ◌==◌, ◌||◌, Option, None}
use Rattle.std.proofs.Common.{slice_get, slice_set, refl, sym, ap, ◌∙◌, subst, arith}
use Rattle.std.specs.Option.{option_map_or}
use Rattle.std.proofs.lemmas.Bool.{cases_eq, ne_eqb, cond-false}
use Rattle.parking_lot_core_model.specs.Lists.{updated}
use Rattle.parking_lot_core_model.specs.Machine.{stored, threads_of}
use Rattle.parking_lot_protocol.specs.declared.act.Act.{Act}
use Rattle.parking_lot_protocol.specs.declared.act.SectionAct.{SectionAct}
use Rattle.parking_lot_protocol.specs.declared.act.ActResult.{ActResult}
use Rattle.parking_lot_protocol.specs.declared.act.CoreAnswer.{CoreAnswer}
use Rattle.parking_lot_rules.specs.Classes.{bit}
use Rattle.parking_lot_rules.specs.Any.{AnyLock, Mx, Rw}
use Rattle.parking_lot_rules.specs.Lock.{Lock}
use Rattle.parking_lot_rules.proofs.Indexed.{get-set_other}
use Rattle.parking_lot_machine_calls.specs.declared.open_call.Call.{Call}
use Rattle.parking_lot_machine_calls.specs.declared.seat.Core.{Core}
use Rattle.parking_lot_machine_calls.specs.declared.late_rw.LateRwPhase.{LateRwPhase}
use Rattle.parking_lot_machine_calls.specs.declared.seat.LatePhase.{LatePhase}
use Rattle.parking_lot_machine_calls.specs.declared.seat.QueuePosition.{QueuePosition}
use Rattle.parking_lot_machine.specs.LateActs.{came_back, others_left, out_of_list}
use Rattle.parking_lot_machine_calls.specs.LateCalls.{is_pending, late_key}
use Rattle.parking_lot_machine.specs.Machines.{Became, BecameInside, BecameLate, IsStepped}
use Rattle.parking_lot_machine.specs.RowActs.{with_call, with_lot}
use Rattle.parking_lot_machine_calls.specs.CallActs.{hears, key_of}
use Rattle.parking_lot_machine.specs.RowFits.{FitsTogether}
use Rattle.parking_lot_machine.specs.Rows.{State, first_key, queue_at, rw_lock_at, second_key, word_at}
use Rattle.parking_lot_machine.specs.SoundLaws.{StepsAreCases}
use Rattle.parking_lot_machine_calls.specs.Stances.{core_act, sign}
use Rattle.mapworld_state.specs.Locks.Fits.{IsPlain}
use Rattle.mapworld_state.specs.Locks.Footprints.{StaysAt, TouchesOnly}
use Rattle.mapworld_state.proofs.LocksFacts.Handing.{is_rw}
use Rattle.mapworld_state.proofs.LocksFacts.Keeping.{stepped_plain}

module _ (s : State) (t : ℕ) (c : Call) where
  -- the word of the lock may change, and no list
  abbrev WordOnly : State → Type 0
  WordOnly u = ((j : ℕ) → j ≢ c.lock → word_at u j ≡ word_at s j) × ((key : ℕ) → queue_at u key ≡ queue_at s key)

  -- one of the lists may change, and no word
  abbrev ListOnly : State → Type 0
  ListOnly u = (k : ℕ) × ((j : ℕ) → word_at u j ≡ word_at s j)
      × ((key : ℕ) → key ≢ key_of c k → queue_at u key ≡ queue_at s key)

  abbrev Result : State → Type 0
  Result u = WordOnly u ⊎ ListOnly u

  is : (u w : State) → u ≡ w → Result w → Result u
  is u w e r = subst Result (sym e) r

  either : (b : Bool) (u w : State) → Result u → Result w → Result (cond b u w)
  either true u w r q = r
  either false u w r q = q

  nothing : WordOnly s
  nothing = (λ j ne. refl, λ key. refl)

  word_set : (word j : ℕ) → j ≢ c.lock → option_map_or (λ w. w) (slice_get (slice_set s.words c.lock word) j) 0
      ≡ word_at s j
  word_set word j ne = ap (λ o. option_map_or (λ w. w) o 0) (get-set_other s.words c.lock j word (λ e. ne (sym e)))

  other_list : (k : ℕ) (x : _) (key : ℕ) → key ≢ key_of c k → threads_of (updated s.lot.queues (key_of c k) x key)
      ≡ queue_at s key
  other_list k x key ne =
      ap threads_of (cond-false (key == key_of c k) x (s.lot.queues key) (ne_eqb key (key_of c k) ne))

  goes_inside : (k : SectionAct) (fair : Bool) (u : State) → BecameInside k t fair c s u → Result u
  goes_inside SectionAct.Check fair u e = is u _ e (inl nothing)
  goes_inside SectionAct.TakeFirst fair u (k, stands, inl (nth, w, first, e)) =
      is u _ e (inr (k, λ j. refl, λ key ne. other_list k _ key ne))
  goes_inside SectionAct.TakeFirst fair u (k, stands, inr (empty, e)) = is u _ e (inl nothing)
  goes_inside (SectionAct.TakeNext sum) fair u (k, stands, inl (nth, w, first, e)) =
      is u _ e (inr (k, λ j. refl, λ key ne. other_list k _ key ne))
  goes_inside (SectionAct.TakeNext sum) fair u (k, stands, inr (empty, e)) = is u _ e (inl nothing)
  goes_inside (SectionAct.Append token) fair u (k, stands, e) =
      is u _ e (inr (k, λ j. refl, λ key ne. other_list k _ key ne))
  goes_inside (SectionAct.Store plain handing) fair u e = is u _ e (inl (λ j ne. word_set _ j ne, λ key. refl))
  goes_inside SectionAct.Leave fair u e = is u _ e (inl nothing)
  goes_inside SectionAct.Wake fair u (inr (gone, is_it)) = is u _ is_it (inl nothing)
  goes_inside SectionAct.Wake fair u (inl (e, d, token, due, is_it)) = is u _ is_it (inl nothing)

  -- one whose moment has passed takes itself out of its list
  goes_out : (left b : Bool)
      → Result (with_lot (with_call s t (hears c (ActResult.Took None left)))
      (cond b (stored (out_of_list s t c) (late_key c) (sign false)) (out_of_list s t c)))
  goes_out left true = inr (bit (is_pending c.core), λ j. refl, λ key ne. other_list (bit (is_pending c.core)) _ key ne)
  goes_out left false =
      inr (bit (is_pending c.core), λ j. refl, λ key ne. other_list (bit (is_pending c.core)) _ key ne)

  comes_back : (at : QueuePosition) (u : State) → u ≡ came_back at s t c → Result u
  comes_back QueuePosition.Listed u e = is u _ e (inl nothing)
  comes_back (QueuePosition.Off by said) u e = is u _ e (inl nothing)

  late_lists : (k : Core) (u : State) → BecameLate k t c s u → Result u
  late_lists (Core.Late LatePhase.Expires) u e = comes_back c.spot u e
  late_lists (Core.Late LatePhase.Quits) u e =
      is u _ e (goes_out (others_left s t c) (others_left s t c || is_pending c.core))
  late_lists (Core.LateRw (LateRwPhase.Expires k)) u e = comes_back c.spot u e
  late_lists (Core.LateRw (LateRwPhase.Quits k)) u e =
      is u _ e (goes_out (others_left s t c) (others_left s t c || is_pending c.core))
  late_lists k u e = absurd e

  goes : (a : Act) (fair : Bool) (u : State) → Became a t fair c s u → Result u
  goes Act.Load fair u e = is u _ e (inl nothing)
  goes (Act.Exchange from to) fair u e =
      is u _ e (either _ _ _ (inl (λ j ne. word_set _ j ne, λ key. refl)) (inl nothing))
  goes (Act.Add by) fair u e = is u _ e (inl (λ j ne. word_set _ j ne, λ key. refl))
  goes (Act.FetchAnd keep) fair u e = is u _ e (inl (λ j ne. word_set _ j ne, λ key. refl))
  goes Act.Spin fair u e = is u _ e (inl nothing)
  goes (Act.Enter key) fair u e = is u _ e (inl nothing)
  goes (Act.Section next) fair u b = goes_inside next fair u b
  goes Act.Sleep fair u b = late_lists c.core u b
  goes (Act.Done answer) fair u e = is u _ e (inl nothing)

locks_are : (a b : Lock) (x y : AnyLock) → x ≡ Rw a → y ≡ Rw b → x ≡ y → a ≡ b
locks_are a b x y e f same = ap lock_in (sym e ∙ same ∙ f)
  where
    lock_in : AnyLock → Lock
    lock_in (Rw l) = l
    lock_in (Mx m) = a

-- two keys of a lock aren't both the one that changed
touched_key : (i k : ℕ) → (first_key i ≢ 2 * i + k) ⊎ (second_key i ≢ 2 * i + k)
touched_key i k = elim (cases_eq k 0) [
  | inl e ↦ inr (λ f. absurd (omega (arith, e, f)))
  | inr ne ↦ inl (λ f. absurd (omega (arith, ne, f)))
]

pub touches_one : (laws : StepsAreCases) (s u : State) (t : ℕ) (fair : Bool) (answer : Option CoreAnswer)
    → FitsTogether s → IsPlain s → (x : IsStepped t fair answer s u) → TouchesOnly x.call.lock s u
touches_one laws s u t fair answer h plain x = by (goes s t x.call (core_act x.call.core) fair u x.became)
  where
    i : ℕ
    i = x.call.lock

    locks : (j : ℕ) → j ≢ x.call.lock → rw_lock_at u j ≡ rw_lock_at s j
    locks j ne = locks_are (rw_lock_at u j) (rw_lock_at s j) _ _
        (is_rw u (stepped_plain s u t fair answer h plain x).kinds j) (is_rw s plain.kinds j)
        ((laws.step s u t fair answer h x).elsewhere j ne)

    apart : ((j : ℕ) → j ≢ x.call.lock → word_at u j ≡ word_at s j) → (j : ℕ) → j ≢ x.call.lock → StaysAt s u j
    apart words j ne =
        record {
          word = words j ne;
          first = ap (λ (l : Lock). l.first) (locks j ne);
          second = ap (λ (l : Lock). l.second) (locks j ne);
        }

    by : Result s t x.call u → TouchesOnly x.call.lock s u
    by (inl (words, lists)) = record {
      elsewhere = apart words;
      word_or_queues = inr (lists (first_key x.call.lock), lists (second_key x.call.lock));
      one_queue = inl (lists (first_key x.call.lock));
    }
    by (inr (k, words, lists)) = record {
      elsewhere = apart (λ j ne. words j);
      word_or_queues = inl (words x.call.lock);
      one_queue = elim (touched_key x.call.lock k) [
        | inl ne ↦ inl (lists (first_key x.call.lock) ne)
        | inr ne ↦ inr (lists (second_key x.call.lock) ne)
      ];
    }
