-- What a step leaves of the calls of all threads.
use Rattle.std.proofs.Common.{◌≡◌, ◌≢◌, ◌⊎◌, ◌==◌, inl, inr, ℕ, zero, suc, Bool, true, false, cond, List, [], ◌∷◌, map}
use Rattle.std.proofs.Common.{Option, Some, None, slice_set, refl, sym, ap, ◌∙◌, subst}
use Rattle.std.specs.List.{position_or_len}
use Rattle.std.specs.Option.{option_map}
use Rattle.std.proofs.lemmas.Bool.{cases_eq, eq-eqb}
use Rattle.std.proofs.lemmas.Option.{none-some, same_Some}
use Rattle.parking_lot_core_model.specs.Machine.{Machine}
use Rattle.parking_lot_core_model.specs.declared.parking.UnparkToken.{UnparkToken}
use Rattle.parking_lot_protocol.specs.Acts.{Gives}
use Rattle.parking_lot_protocol.specs.declared.act.Act.{Act}
use Rattle.parking_lot_protocol.specs.declared.act.ActResult.{ActResult}
use Rattle.parking_lot_protocol.specs.declared.act.CoreAnswer.{CoreAnswer}
use Rattle.parking_lot_protocol.specs.declared.act.SectionAct.{SectionAct}
use Rattle.parking_lot_machine_calls.specs.CallActs.{hears, off_list, settled}
use Rattle.parking_lot_machine_calls.specs.LateCalls.{comes_late, found_as, is_back, is_handed}
use Rattle.parking_lot_machine_calls.specs.Stances.{core_act, core_next, stance}
use Rattle.parking_lot_machine_calls.specs.declared.late_rw.LateRwPhase.{LateRwPhase}
use Rattle.parking_lot_machine_calls.specs.declared.open_call.Call.{Call}
use Rattle.parking_lot_machine_calls.specs.declared.seat.Core.{Core}
use Rattle.parking_lot_machine_calls.specs.declared.seat.LatePhase.{LatePhase}
use Rattle.parking_lot_machine_calls.specs.declared.seat.QueuePosition.{QueuePosition}
use Rattle.parking_lot_machine_calls.specs.declared.seat.WakeResult.{WakeResult}
use Rattle.parking_lot_machine_calls.specs.declared.seat.Wakeup.{Wakeup}
use Rattle.parking_lot_machine.specs.LateActs.{came_back, others_left}
use Rattle.parking_lot_machine.specs.Machines.{Became, BecameInside, BecameLate, IsStepped, end_of}
use Rattle.parking_lot_machine.specs.RowActs.{answered, with_call, with_lot}
use Rattle.parking_lot_machine.specs.RowFits.{FitsTogether}
use Rattle.parking_lot_machine.specs.Rows.{State, call_at, is_by, word_at}
use Rattle.parking_lot_machine.specs.TellLaws.{IsDue}
use Rattle.parking_lot_machine.proofs.CallLawsFacts.Heard.{Hears}
use Rattle.parking_lot_machine.proofs.CallLawsFacts.Sleeping.{sleeps_act}
use Rattle.parking_lot_rules.proofs.Slots.{at_slot as call_of, set_elsewhere, set_here}

-- It goes on at its lock, with the same holds beside: as it was, or by what it has heard.
pub record GoesOn (c : Call) (o : Option Call) : Type 0 where
  pub call : Call
  pub here : o ≡ Some call
  pub lock : call.lock ≡ c.lock
  pub others : call.others ≡ c.others
  pub asked : call.asked ≡ c.asked
  pub heard : (call.core ≡ c.core) ⊎ Hears c.core call.core

abbrev pub Onward : Option Call → Option Call → Type 0
Onward None o = o ≡ None
Onward (Some c) o = GoesOn c o

stays : (o : Option Call) → Onward o o
stays None = refl
stays (Some c) = record { call = c; here = refl; lock = refl; others = refl; asked = refl; heard = inl refl }

abbrev pub AllGo : List (Option Call) → List (Option Call) → Type 0
AllGo cs ds = (k : ℕ) → Onward (call_of cs k) (call_of ds k)

still_there : (o p : Option Call) (c : Call) → o ≡ Some c → Onward o p → (d : Call) × (p ≡ Some d)
still_there None p c e x = absurd (none-some c e)
still_there (Some b) p c e x = (x.call, x.here)

-- one call is written, over others that go on
one_goes : (cs ds : List (Option Call)) (t : ℕ) (c : Call) (o : Option Call) → call_of cs t ≡ Some c → AllGo cs ds
    → GoesOn c o → AllGo cs (slice_set ds t o)
one_goes cs ds t c o was all goes k = elim (cases_eq k t) [
  | inl e ↦ subst (λ (n : ℕ). Onward (call_of cs n) (call_of (slice_set ds t o) n)) (sym e)
      (subst (λ (p : Option Call). Onward p (call_of (slice_set ds t o) t)) (sym was) mine)
  | inr ne ↦ subst (λ (p : Option Call). Onward (call_of cs k) p) (sym (set_elsewhere ds t k o ne)) (all k)
]
  where
    mine : GoesOn c (call_of (slice_set ds t o) t)
    mine =
        let there = still_there (call_of cs t) (call_of ds t) c was (all t) in
        subst (λ (p : Option Call). GoesOn c p) (sym (set_here ds t there.0 o there.1)) goes

map_of : (f : Call → Call) (ds : List (Option Call)) (k : ℕ) → call_of (map (option_map f) ds) k ≡ option_map f
    (call_of ds k)
map_of f [] k = refl
map_of f (None ∷ ds) zero = refl
map_of f (Some d ∷ ds) zero = refl
map_of f (d ∷ ds) (suc k) = map_of f ds k

-- all are told what says nothing of what they ask for
all_told : (t : ℕ) (said : WakeResult) (cs ds : List (Option Call)) → AllGo cs ds
    → AllGo cs (map (option_map (settled t said)) ds)
all_told t said cs ds all k = subst (λ (p : Option Call). Onward (call_of cs k) p) (sym (map_of (settled t said) ds k))
    (on (call_of cs k) (call_of ds k) (all k))
  where
    on : (o p : Option Call) → Onward o p → Onward o (option_map (settled t said) p)
    on None p e = ap (option_map (settled t said)) e
    on (Some c) p x = record {
      call = settled t said x.call;
      here = ap (option_map (settled t said)) x.here;
      lock = x.lock;
      others = x.others;
      asked = x.asked;
      heard = x.heard;
    }

-- and one is off its list
one_off : (t v : ℕ) (cs : List (Option Call)) → AllGo cs (slice_set cs v (option_map (off_list t) (call_of cs v)))
one_off t v cs k = at cs v k
  where
    off : (o : Option Call) → Onward o (option_map (off_list t) o)
    off None = refl
    off (Some d) = record {
      call = off_list t d;
      here = refl;
      lock = refl;
      others = refl;
      asked = refl;
      heard = inl refl;
    }

    at : (cs : List (Option Call)) (v k : ℕ)
        → Onward (call_of cs k) (call_of (slice_set cs v (option_map (off_list t) (call_of cs v))) k)
    at [] v k = refl
    at (c ∷ cs) zero zero = off c
    at (c ∷ cs) zero (suc k) = stays (call_of cs k)
    at (c ∷ cs) (suc v) zero = stays c
    at (c ∷ cs) (suc v) (suc k) = at cs v k

-- ONE WHOSE DEADLINE HAS COME

record LateGoes (s : State) (t : ℕ) (c : Call) (u : State) : Type 0 where
  call : Call
  lot : Machine
  wakes : List Wakeup
  became : u ≡ record (with_lot (with_call s t call) lot) { wakes = wakes }
  lock : call.lock ≡ c.lock
  others : call.others ≡ c.others
  asked : call.asked ≡ c.asked
  heard : Hears c.core call.core

module _ (s u : State) (t : ℕ) (c : Call) where
  late_back : (at : QueuePosition) → comes_late c.core ≡ true → u ≡ came_back at s t c → LateGoes s t c u
  late_back QueuePosition.Listed comes e =
      record {
        call = hears c ActResult.Entered;
        lot = _;
        wakes = s.wakes;
        became = e;
        lock = refl;
        others = refl;
        asked = refl;
        heard = Hears.Back comes refl;
      }
  late_back (QueuePosition.Off by said) comes e = record {
    call = record c { core = found_as by (is_handed said) c.core; spot = QueuePosition.Listed };
    lot = _;
    wakes = _;
    became = e;
    lock = refl;
    others = refl;
    asked = refl;
    heard = Hears.Found by (is_handed said) comes refl;
  }

  late_is : (k : Core) → c.core ≡ k → BecameLate k t c s u → LateGoes s t c u
  late_is (Core.Late LatePhase.Expires) same e = late_back c.spot (ap comes_late same) e
  late_is (Core.Late LatePhase.Quits) same e =
      record {
        call = _;
        lot = _;
        wakes = s.wakes;
        became = e;
        lock = refl;
        others = refl;
        asked = refl;
        heard = Hears.Out (others_left s t c) (ap is_back same) refl;
      }
  late_is (Core.LateRw (LateRwPhase.Expires k)) same e = late_back c.spot (ap comes_late same) e
  late_is (Core.LateRw (LateRwPhase.Quits k)) same e =
      record {
        call = _;
        lot = _;
        wakes = s.wakes;
        became = e;
        lock = refl;
        others = refl;
        asked = refl;
        heard = Hears.Out (others_left s t c) (ap is_back same) refl;
      }
  late_is k same e = absurd e

-- THE ACTS

module _ (s : State) (h : FitsTogether s) (t : ℕ) (c : Call) (here : call_at s t ≡ Some c) where
  abbrev Go : State → Type 0
  Go u = AllGo s.calls u.calls

  is : (u w : State) → u ≡ w → Go w → Go u
  is u w e g = subst (λ (x : State). Go x) (sym e) g

  -- its own call hears what its act gave
  gave : (act : Act) → core_act c.core ≡ act → (word : ℕ) (k : ActResult) → Gives act word k
      → Hears c.core (core_next c.core k)
  gave act asks word k g = Hears.Told word k (subst (λ (a : Act). Gives a word k) (sym asks) g) refl

  own : (k : ActResult) → Hears c.core (core_next c.core k) → GoesOn c (Some (hears c k))
  own k heard = record { call = hears c k; here = refl; lock = refl; others = refl; asked = refl; heard = inr heard }

  told : (k : ActResult) → Hears c.core (core_next c.core k) → AllGo s.calls (slice_set s.calls t (Some (hears c k)))
  told k heard = one_goes s.calls s.calls t c _ here (λ v. stays (call_of s.calls v)) (own k heard)

  says : (k : ActResult) (r : WakeResult) → Hears c.core (core_next c.core k)
      → AllGo s.calls (map (option_map (settled t r)) (slice_set s.calls t (Some (hears c k))))
  says k r heard = all_told t r s.calls _ (told k heard)

  takes : (w : ℕ) (k : ActResult) → Hears c.core (core_next c.core k)
      → AllGo s.calls (slice_set (slice_set s.calls w (option_map (off_list t) (call_of s.calls w))) t
      (Some (hears c k)))
  takes w k heard = one_goes s.calls _ t c _ here (one_off t w s.calls) (own k heard)

  joined : Hears c.core (core_next c.core ActResult.Made)
      → AllGo s.calls (slice_set s.calls t (Some (record (hears c ActResult.Made) { spot = QueuePosition.Listed })))
  joined heard = one_goes s.calls s.calls t c _ here (λ v. stays (call_of s.calls v))
      (record { call = _; here = refl; lock = refl; others = refl; asked = refl; heard = inr heard })

  -- whoever is woken sleeps
  wakes : (e : Wakeup) (d : Call) (token : UnparkToken) (k : ActResult) → IsDue s t e d token
      → Hears c.core (core_next c.core k)
      → AllGo s.calls (slice_set
      (slice_set s.calls e.thread (Some (record (hears d (ActResult.Woken token)) { spot = QueuePosition.Listed })))
      t (Some (hears c k)))
  wakes e d token k due heard =
      one_goes s.calls _ t c _ here
      (one_goes s.calls s.calls e.thread d _ due.there (λ v. stays (call_of s.calls v)) woken) (own k heard)
    where
      asleep : core_act d.core ≡ Act.Sleep
      asleep =
          let taken = h.lots.woken (position_or_len (is_by t) s.wakes) e due.first in
          sleeps_act d.core taken.key taken.token
          (ap (λ (x : Call). stance x.core) (same_Some d taken.call (sym due.there ∙ taken.here)) ∙ taken.asleep)

      woken : GoesOn d (Some (record (hears d (ActResult.Woken token)) { spot = QueuePosition.Listed }))
      woken = record {
        call = _;
        here = refl;
        lock = refl;
        others = refl;
        asked = refl;
        heard = inr (Hears.Told 0 (ActResult.Woken token)
            (subst (λ (a : Act). Gives a 0 (ActResult.Woken token)) (sym asleep) tt) refl);
      }

  goes_inside : (k : SectionAct) → core_act c.core ≡ Act.Section k → (fair : Bool) (u : State)
      → BecameInside k t fair c s u → Go u
  goes_inside SectionAct.Check asks fair u e = is u _ e (told _ (gave _ asks _ _ refl))
  goes_inside SectionAct.TakeFirst asks fair u (k, stands, inl (nth, w, first, e)) =
      is u _ e (takes w.thread _ (gave _ asks 0 _ tt))
  goes_inside SectionAct.TakeFirst asks fair u (k, stands, inr (empty, e)) = is u _ e (told _ (gave _ asks 0 _ tt))
  goes_inside (SectionAct.TakeNext sum) asks fair u (k, stands, inl (nth, w, first, e)) =
      is u _ e (takes w.thread _ (gave _ asks 0 _ tt))
  goes_inside (SectionAct.TakeNext sum) asks fair u (k, stands, inr (empty, e)) = is u _ e (told _ (gave _ asks 0 _ tt))
  goes_inside (SectionAct.Append token) asks fair u (k, stands, e) = is u _ e (joined (gave _ asks 0 _ tt))
  goes_inside (SectionAct.Store plain handing) asks fair u e = is u _ e (says _ _ (gave _ asks 0 _ tt))
  goes_inside SectionAct.Leave asks fair u e = is u _ e (told _ (gave _ asks 0 _ tt))
  goes_inside SectionAct.Wake asks fair u (inr (gone, is_it)) = is u _ is_it (told _ (gave _ asks 0 _ tt))
  goes_inside SectionAct.Wake asks fair u (inl (e, d, token, due, is_it)) =
      is u _ is_it (wakes e d token _ due (gave _ asks 0 _ tt))

  exchanges : (from to : ℕ) → core_act c.core ≡ Act.Exchange from to → (u w : State)
      → u.calls ≡ slice_set s.calls t (Some (hears c ActResult.Exchanged))
      → w.calls ≡ slice_set s.calls t (Some (hears c (ActResult.Word (word_at s c.lock)))) → (b : Bool)
      → (word_at s c.lock == from) ≡ b → Go (cond b u w)
  exchanges from to asks u w won lost true e = subst (AllGo s.calls) (sym won) (told _ (gave _ asks from _ refl))
  exchanges from to asks u w won lost false e = subst (AllGo s.calls) (sym lost)
      (told _ (gave _ asks (word_at s c.lock) _ (refl, λ same. both_ways (eq-eqb (word_at s c.lock) from same) e)))
    where
      both_ways : {b : Bool} → b ≡ true → b ≡ false → ⊥
      both_ways p q = cc

  goes : (a : Act) → core_act c.core ≡ a → (fair : Bool) (u : State) → end_of a ≡ None → Became a t fair c s u → Go u
  goes Act.Load asks fair u none e = is u _ e (told _ (gave _ asks _ _ refl))
  goes (Act.Exchange from to) asks fair u none e =
      is u _ e (exchanges from to asks _ _ refl refl (word_at s c.lock == from) refl)
  goes (Act.Add by) asks fair u none e = is u _ e (told _ (gave _ asks _ _ refl))
  goes (Act.FetchAnd keep) asks fair u none e = is u _ e (says _ _ (gave _ asks _ _ refl))
  goes Act.Spin asks fair u none e = is u _ e (told _ (gave _ asks 0 _ tt))
  goes (Act.Enter key) asks fair u none e = is u _ e (told _ (gave _ asks 0 _ tt))
  goes (Act.Section next) asks fair u none b = goes_inside next asks fair u b
  goes Act.Sleep asks fair u none b =
      let l = late_is s u t c c.core refl b in
      is u _ l.became (one_goes s.calls s.calls t c _ here (λ v. stays (call_of s.calls v))
      (record {
        call = l.call;
        here = refl;
        lock = l.lock;
        others = l.others;
        asked = l.asked;
        heard = inr l.heard;
      }))
  goes (Act.Done answer) asks fair u none e = absurd (none-some answer (sym none))

-- A step that isn't an answer leaves every call, and each goes on.
pub stepped_goes : (s u : State) (t : ℕ) (fair : Bool) → FitsTogether s → IsStepped t fair None s u
    → AllGo s.calls u.calls
stepped_goes s u t fair h x = goes s h t x.call x.here (core_act x.call.core) refl fair u (sym x.answers) x.became

-- One that is an answer ends a call, and leaves the others as they were.
pub answer_is : (s u : State) (t : ℕ) (fair : Bool) (c : Call) (end : CoreAnswer) (a : Act) → Some end ≡ end_of a
    → Became a t fair c s u → u ≡ answered s t c
answer_is s u t fair c end (Act.Done answer) e b = b
answer_is s u t fair c end a e b = absurd cc

pub ended_goes : (s u : State) (t : ℕ) (fair : Bool) (end : CoreAnswer) → IsStepped t fair (Some end) s u → (k : ℕ)
    → k ≢ t → call_at u k ≡ call_at s k
ended_goes s u t fair end x k ne =
    ap (λ (w : State). call_at w k) (answer_is s u t fair x.call end (core_act x.call.core) x.answers x.became)
    ∙ set_elsewhere s.calls t k None ne
