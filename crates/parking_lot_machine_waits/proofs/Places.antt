-- What a step at the locks leaves of each number: the lock of its call, what its call is for, and what it owns.
use Rattle.std.proofs.Common.{◌||◌, ◌≡◌, ◌≢◌, inl, inr, ℕ, ◌+◌, ◌*◌, ◌==◌, ◌<◌, Bool, true, false, cond, nat_lt, List}
use Rattle.std.proofs.Common.{length, is_some, ◌%◌}
use Rattle.std.proofs.Common.{Option, Some, None, option_map, slice_set, refl, sym, ap, ◌∙◌, subst, arith, eq-eqb}
use Rattle.std.specs.Option.{option_map_or}
use Rattle.std.proofs.lemmas.Bool.{cases_lt, ltb-true}
use Rattle.std.proofs.lemmas.Nat.{mul-add-lt}
use Rattle.std.proofs.lemmas.Option.{same_Some}
use Rattle.parking_lot_core_model.specs.Machine.{Machine}
use Rattle.parking_lot_protocol.specs.declared.act.Act.{Act}
use Rattle.parking_lot_protocol.specs.declared.act.ActResult.{ActResult}
use Rattle.parking_lot_protocol.specs.declared.act.CoreAnswer.{CoreAnswer}
use Rattle.parking_lot_protocol.specs.declared.act.SectionAct.{SectionAct}
use Rattle.parking_lot_protocol.specs.Acts.{Gives}
use Rattle.parking_lot_rules.proofs.Indexed.{get-set_other}
use Rattle.parking_lot_machine_calls.specs.declared.late_rw.LateRwPhase.{LateRwPhase}
use Rattle.parking_lot_machine_calls.specs.declared.open_call.Call.{Call}
use Rattle.parking_lot_machine_calls.specs.declared.seat.Core.{Core}
use Rattle.parking_lot_machine_calls.specs.declared.seat.Hold.{Hold}
use Rattle.parking_lot_machine_calls.specs.declared.seat.LatePhase.{LatePhase}
use Rattle.parking_lot_machine_calls.specs.declared.seat.QueuePosition.{QueuePosition}
use Rattle.parking_lot_core_model.specs.declared.place.Phase.{Phase}
use Rattle.parking_lot_core_model.specs.declared.place.Place.TheVariants.{Running}
use Rattle.parking_lot_core_model.specs.Machine.{given_up, in_phase, opened, returned, stored}
use Rattle.parking_lot_machine.specs.LateActs.{came_back, others_left, out_of_list, quitted}
use Rattle.parking_lot_machine_calls.specs.LateCalls.{found_as, is_handed, is_pending, late_key}
use Rattle.parking_lot_machine.specs.Machines.{Became, BecameInside, BecameLate, IsStepped, end_of, sleeps}
use Rattle.parking_lot_machine.specs.RowActs.{answered, key_in, loaded}
use Rattle.parking_lot_machine_calls.specs.CallActs.{hears, hold_after, key_of}
use Rattle.parking_lot_machine.specs.RowFits.{FitsTogether, IsTaken}
use Rattle.parking_lot_machine.specs.Rows.{State, call_at, hold_at, hold_in, word_at}
use Rattle.parking_lot_machine_calls.specs.Stances.{Asleep, core_act, core_next, sign, stance}
use Rattle.parking_lot_machine_waits.specs.Joint.{act_bucket, call_enters, core_enters, is_open_in, is_that}
use Rattle.parking_lot_machine_waits.specs.Whole.{asks, place_of}
use Rattle.parking_lot_machine_waits.proofs.AnySections.{close_shut, opened_shut, phase_shut, store_shut}
use Rattle.parking_lot_machine_waits.proofs.Stages.{AllGo, Onward, Still, all_stay, all_told, both_ways, call_of}
use Rattle.parking_lot_machine_waits.proofs.Stages.{heard}
use Rattle.parking_lot_machine_waits.proofs.Stages.{late_still, no_sort, one_goes, one_off, woken}
use Rattle.parking_lot_rules.proofs.Slots.{set_elsewhere}

-- A STEP THAT ENDS NO CALL

-- each number is in a call where it was, for what it was, and owns what it owned; e: the bucket that is entered
pub record Kept (e : Option ℕ) (s u : State) : Type 0 where
  pub calls : AllGo s.calls u.calls
  pub holds : u.holds ≡ s.holds
  pub kinds : u.kinds ≡ s.kinds
  pub buckets : u.lot.buckets ≡ s.lot.buckets
  pub closed : (b : ℕ) → is_that e b ≡ false → is_open_in s b ≡ false → is_open_in u b ≡ false

-- a call is over
pub record Over (t : ℕ) (a : CoreAnswer) (s u : State) : Type 0 where
  pub call : Call
  pub here : call_at s t ≡ Some call
  pub asks : core_act call.core ≡ Act.Done a
  pub became : u ≡ answered s t call

abbrev pub Goes : Option CoreAnswer → Option ℕ → ℕ → State → State → Type 0
Goes None b t s u = Kept b s u
Goes (Some a) b t s u = Over t a s u

module _ (s : State) (t : ℕ) (c : Call) (fits : FitsTogether s) (here : call_at s t ≡ Some c) where
  is : {b : Option ℕ} (u v : State) → u ≡ v → Kept b s v → Kept b s u
  is {b} u v e k = subst (Kept b s) (sym e) k

  all : AllGo s.calls s.calls
  all = all_stay s.calls

  -- one that is told what its act gives
  told : (a : Act) (x : ℕ) (what : ActResult) → core_act c.core ≡ a → sleeps a ≡ false → Gives a x what
      → Still c.core (core_next c.core what)
  told a x what asks awake gives = heard c.core x what (ap sleeps asks ∙ awake)
      (subst (λ (b : Act). Gives b x what) (sym asks) gives)

  own : (ds : List (Option Call)) → AllGo s.calls ds → (d : Call) → d.lock ≡ c.lock → Still c.core d.core
      → AllGo s.calls (slice_set ds t (Some d))
  own ds go d lock still = one_goes s.calls ds t c (Some d) here go
      (record { call = d; here = refl; lock = lock; still = still })

  exchanges : {b : Option ℕ} (from to : ℕ) (d : Bool) → (word_at s c.lock == from) ≡ d
      → core_act c.core ≡ Act.Exchange from to
      → (u : State) → (Still c.core (core_next c.core ActResult.Exchanged) → Kept b s u)
      → Kept b s (cond d u (loaded s t c))
  exchanges from to true e asks u won = won (told (Act.Exchange from to) from ActResult.Exchanged asks refl refl)
  exchanges from to false e asks u won = record {
    calls = own s.calls all _ refl
        (told (Act.Exchange from to) (word_at s c.lock) (ActResult.Word _) asks refl
        (refl, λ f. both_ways (eq-eqb _ from f) e));
    holds = refl;
    kinds = refl;
    buckets = refl;
    closed = λ b f o. o;
  }

  inside : {b : Option ℕ} (k : SectionAct) (fair : Bool) (u : State) → core_act c.core ≡ Act.Section k
      → BecameInside k t fair c s u → Kept b s u
  inside SectionAct.Check fair u a e =
      is u _ e (record {
        calls = own s.calls all _ refl (told _ _ _ a refl refl);
        holds = refl;
        kinds = refl;
        buckets = refl;
        closed = λ b f o. phase_shut s.lot _ b o _;
      })
  inside SectionAct.TakeFirst fair u a (k, stands, inl (nth, w, first, e)) =
      is u _ e (record {
        calls = own _ (one_off t w.thread s.calls) _ refl (told _ 0 _ a refl tt);
        holds = refl;
        kinds = refl;
        buckets = refl;
        closed = λ b f o. phase_shut s.lot _ b o _;
      })
  inside SectionAct.TakeFirst fair u a (k, stands, inr (empty, e)) =
      is u _ e (record {
        calls = own s.calls all _ refl (told _ 0 _ a refl tt);
        holds = refl;
        kinds = refl;
        buckets = refl;
        closed = λ b f o. phase_shut s.lot _ b o _;
      })
  inside (SectionAct.TakeNext sum) fair u a (k, stands, inl (nth, w, first, e)) =
      is u _ e (record {
        calls = own _ (one_off t w.thread s.calls) _ refl (told _ 0 _ a refl tt);
        holds = refl;
        kinds = refl;
        buckets = refl;
        closed = λ b f o. phase_shut s.lot _ b o _;
      })
  inside (SectionAct.TakeNext sum) fair u a (k, stands, inr (empty, e)) =
      is u _ e (record {
        calls = own s.calls all _ refl (told _ 0 _ a refl tt);
        holds = refl;
        kinds = refl;
        buckets = refl;
        closed = λ b f o. phase_shut s.lot _ b o _;
      })
  inside (SectionAct.Append token) fair u a (k, stands, e) =
      is u _ e (record {
        calls = own s.calls all _ refl (told _ 0 ActResult.Made a refl tt);
        holds = refl;
        kinds = refl;
        buckets = refl;
        closed = λ b f o. phase_shut s.lot _ b o _;
      })
  inside (SectionAct.Store plain handing) fair u a e =
      is u _ e (record {
        calls =
            all_told t _ s.calls _ (own s.calls all _ refl (told _ 0 (ActResult.Stored fair) a refl tt));
        holds = refl;
        kinds = refl;
        buckets = refl;
        closed = λ b f o. store_shut s.lot _ b o _;
      })
  inside SectionAct.Leave fair u a e =
      is u _ e (record {
        calls = own s.calls all _ refl (told _ 0 ActResult.Made a refl tt);
        holds = refl;
        kinds = refl;
        buckets = refl;
        closed = λ b f o. close_shut s.lot (key_in c) b o false;
      })
  inside SectionAct.Wake fair u a (inr (empty, e)) =
      is u _ e (record {
        calls = own s.calls all _ refl (told _ 0 ActResult.Made a refl tt);
        holds = refl;
        kinds = refl;
        buckets = refl;
        closed = λ b f o. o;
      })
  inside SectionAct.Wake fair u a (inl (e, d, token, due, is_it)) =
      is u _ is_it (record {
        calls = own _ wakes _ refl (told _ 0 ActResult.Made a refl tt);
        holds = refl;
        kinds = refl;
        buckets = refl;
        closed = λ b f o. o;
      })
    where
      taken : IsTaken s e
      taken = fits.lots.woken _ e due.first

      asleep : stance d.core ≡ Asleep taken.key taken.token
      asleep = ap (λ (x : Call). stance x.core) (same_Some d taken.call (sym due.there ∙ taken.here)) ∙ taken.asleep

      wakes : AllGo s.calls
          (slice_set s.calls e.thread (Some (record (hears d (ActResult.Woken token)) { spot = QueuePosition.Listed })))
      wakes = one_goes s.calls s.calls e.thread d _ due.there all
          (record {
            call = record (hears d (ActResult.Woken token)) { spot = QueuePosition.Listed };
            here = refl;
            lock = refl;
            still = woken d.core taken.key taken.token token asleep;
          })

  quits : (left : Bool) (l m : Machine) (b : ℕ) → is_some (l.sections b) ≡ false → is_some (m.sections b) ≡ false
      → is_some ((cond left l m).sections b) ≡ false
  quits true l m b x y = x
  quits false l m b x y = y

  same_count : (left : Bool) (l m : Machine) → l.buckets ≡ m.buckets → (cond left l m).buckets ≡ m.buckets
  same_count true l m e = e
  same_count false l m e = refl

  -- its section is opened in the bucket of its list
  comes_open : (b : ℕ) → is_that (Some (late_key c % s.lot.buckets)) b ≡ false → is_some (s.lot.sections b) ≡ false
      → is_some ((returned s.lot t (late_key c)).sections b) ≡ false
  comes_open b other o = phase_shut (opened s.lot (Some t) (late_key c)) (late_key c) b
      (opened_shut s.lot (late_key c) b o (Some t) other) Phase.Joined

  -- one whose moment has passed comes back, by where it stood
  returns : (at : QueuePosition) → Still c.core (core_next c.core ActResult.Entered)
      → ((by : ℕ) (handed : Bool) → Still c.core (found_as by handed c.core))
      → Kept (Some (late_key c % s.lot.buckets)) s (came_back at s t c)
  returns QueuePosition.Listed entered found = record {
    calls = own s.calls all _ refl entered;
    holds = refl;
    kinds = refl;
    buckets = refl;
    closed = λ b other o. comes_open b other o;
  }
  returns (QueuePosition.Off by said) entered found = record {
    calls = own s.calls all _ refl (found by (is_handed said));
    holds = refl;
    kinds = refl;
    buckets = refl;
    closed = λ b other o. store_shut
        (in_phase (record (returned s.lot t (late_key c)) { places = slice_set s.lot.places t (Some Running) })
        (late_key c) Phase.Ended) (late_key c) b
        (phase_shut (record (returned s.lot t (late_key c)) { places = slice_set s.lot.places t (Some Running) })
        (late_key c) b (comes_open b other o) Phase.Ended) (sign false);
  }

  quit : {b : Option ℕ} → ((left : Bool) → Still c.core (core_next c.core (ActResult.Took None left)))
      → Kept b s (quitted s t c)
  quit still = record {
    calls = own s.calls all _ refl (still _);
    holds = refl;
    kinds = refl;
    buckets = same_count (others_left s t c || is_pending c.core)
        (stored (out_of_list s t c) (late_key c) (sign false)) (out_of_list s t c) refl;
    closed = λ b f o.
        let out = phase_shut (given_up s.lot t (late_key c)) (late_key c) b o Phase.Ended in
        quits (others_left s t c || is_pending c.core) (stored (out_of_list s t c) (late_key c) (sign false))
        (out_of_list s t c) b (store_shut (out_of_list s t c) (late_key c) b out (sign false)) out;
  }

  abbrev OfCore : Core → (Core → Core) → Type 0
  OfCore k f = c.core ≡ k → Still k (f k) → Still c.core (f c.core)

  of_core : (k : Core) (f : Core → Core) → OfCore k f
  of_core k f e still = subst (λ (x : Core). Still x (f x)) (sym e) still

  late : (k : Core) (u : State) → c.core ≡ k → BecameLate k t c s u → Kept (core_enters s.lot.buckets c k) s u
  late (Core.Late LatePhase.Expires) u same e =
      is u _ e (returns c.spot (of_core _ (λ x. core_next x ActResult.Entered) same (late_still _ _ refl))
      (λ by handed. of_core _ (found_as by handed) same (late_still _ _ refl)))
  late (Core.Late LatePhase.Quits) u same e =
      is u _ e (quit (λ left. of_core _ (λ x. core_next x (ActResult.Took None left)) same (late_still _ _ refl)))
  late (Core.LateRw (LateRwPhase.Expires z)) u same e =
      is u _ e (returns c.spot (of_core _ (λ x. core_next x ActResult.Entered) same (no_sort _ _ refl refl refl))
      (λ by handed. of_core _ (found_as by handed) same (no_sort _ _ refl refl refl)))
  late (Core.LateRw (LateRwPhase.Quits z)) u same e =
      is u _ e (quit (λ left. of_core _ (λ x. core_next x (ActResult.Took None left)) same
      (no_sort _ _ refl refl refl)))
  late k u same e = absurd e

  entering : (k : Core) (key : ℕ) → core_act k ≡ Act.Enter key
      → core_enters s.lot.buckets c k ≡ Some (key_of c key % s.lot.buckets)
  entering (Core.Mutex m) key e = ap (act_bucket s.lot.buckets c) e
  entering (Core.Rw m) key e = ap (act_bucket s.lot.buckets c) e
  entering (Core.Upgrade m) key e = ap (act_bucket s.lot.buckets c) e
  entering (Core.Late LatePhase.Expires) key e = absurd cc
  entering (Core.Late p) key e = absurd cc
  entering (Core.LateRw (LateRwPhase.Expires z)) key e = absurd cc
  entering (Core.LateRw p) key e = absurd cc

  after : (a : Act) (fair : Bool) (u : State) → core_act c.core ≡ a → Became a t fair c s u
      → Goes (end_of a) (call_enters s.lot.buckets c) t s u
  after Act.Load fair u asks e =
      is u _ e (record {
        calls = own s.calls all _ refl (told Act.Load _ (ActResult.Word _) asks refl refl);
        holds = refl;
        kinds = refl;
        buckets = refl;
        closed = λ b f o. o;
      })
  after (Act.Exchange from to) fair u asks e =
      is u _ e (exchanges from to (word_at s c.lock == from) refl asks _
      (λ still. record {
        calls = own s.calls all _ refl still;
        holds = refl;
        kinds = refl;
        buckets = refl;
        closed = λ b f o. o;
      }))
  after (Act.Add by) fair u asks e =
      is u _ e (record {
        calls = own s.calls all _ refl (told (Act.Add by) _ (ActResult.Before _) asks refl refl);
        holds = refl;
        kinds = refl;
        buckets = refl;
        closed = λ b f o. o;
      })
  after (Act.FetchAnd keep) fair u asks e =
      is u _ e (record {
        calls =
            all_told t _ s.calls _
            (own s.calls all _ refl (told (Act.FetchAnd keep) _ (ActResult.Before _) asks refl refl));
        holds = refl;
        kinds = refl;
        buckets = refl;
        closed = λ b f o. store_shut s.lot _ b o _;
      })
  after Act.Spin fair u asks e =
      is u _ e (record {
        calls = own s.calls all _ refl (told Act.Spin 0 (ActResult.Spun true) asks refl tt);
        holds = refl;
        kinds = refl;
        buckets = refl;
        closed = λ b f o. o;
      })
  after (Act.Enter key) fair u asks e =
      is u _ e (record {
        calls = own s.calls all _ refl (told (Act.Enter key) 0 ActResult.Entered asks refl tt);
        holds = refl;
        kinds = refl;
        buckets = refl;
        closed = λ b f o. opened_shut s.lot (key_of c key) b o (Some t)
            (sym (ap (λ (x : Option ℕ). is_that x b) (entering c.core key asks)) ∙ f);
      })
  after (Act.Section next) fair u asks b = inside next fair u asks b
  after Act.Sleep fair u asks b = late c.core u refl b
  after (Act.Done answer) fair u asks e = record { call = c; here = here; asks = asks; became = e }

pub stepped_goes : (s u : State) (t : ℕ) (fair : Bool) (answer : Option CoreAnswer) → FitsTogether s
    → (x : IsStepped t fair answer s u) → Goes answer (call_enters s.lot.buckets x.call) t s u
stepped_goes s u t fair answer fits x =
    subst (λ (a : Option CoreAnswer). Goes a (call_enters s.lot.buckets x.call) t s u) (sym x.answers)
    (after s t x.call fits x.here (core_act x.call.core) fair u refl x.became)

-- WHAT THAT IS FOR A NUMBER

-- it is in a call where it was, and owns what it owned
pub record Same (s u : State) (k : ℕ) : Type 0 where
  pub place : place_of u k ≡ place_of s k
  pub holds : (m : ℕ) → hold_at u k m ≡ hold_at s k m

place_on : (o p : Option Call) → Onward o p → option_map (λ (c : Call). c.lock) p ≡ option_map (λ (c : Call). c.lock) o
place_on None p e = ap (option_map (λ (c : Call). c.lock)) e
place_on (Some c) p x = ap (option_map (λ (d : Call). d.lock)) x.here ∙ ap Some x.lock

pub kept_same : {b : Option ℕ} (s u : State) → Kept b s u → (k : ℕ) → Same s u k
kept_same s u x k = record {
  place = place_on (call_at s k) (call_at u k) (x.calls.each k);
  holds = λ m. ap (λ hs. hold_in hs (length u.kinds) k m) x.holds ∙ ap (λ ks. hold_in s.holds (length ks) k m) x.kinds;
}

-- where one number's call is written, others stay
pub set_same : (s u : State) (t : ℕ) (o : Option Call) → u.calls ≡ slice_set s.calls t o → u.holds ≡ s.holds
    → u.kinds ≡ s.kinds → (k : ℕ) → k ≢ t → Same s u k
set_same s u t o calls holds kinds k ne = record {
  place = ap (option_map (λ (c : Call). c.lock))
      (ap (λ (cs : List (Option Call)). call_of cs k) calls ∙ set_elsewhere s.calls t k o ne);
  holds = λ m. ap (λ hs. hold_in hs (length u.kinds) k m) holds ∙ ap (λ ks. hold_in s.holds (length ks) k m) kinds;
}

rows_apart : (n x i t l : ℕ) → i < n → x < t → x * n + i ≢ t * n + l
rows_apart n x i t l low less e = omega (arith, mul-add-lt x n i t less low, e)

pub cells_apart : (n x i t l : ℕ) → i < n → l < n → x ≢ t → x * n + i ≢ t * n + l
cells_apart n x i t l bi bl ne e = elim (cases_lt x t) [
  | inl b ↦ rows_apart n x i t l bi b e
  | inr b ↦ rows_apart n t l x i bl (omega (arith, b, ne)) (sym e)
]

beyond : (b : Bool) (x y z : Hold) → b ≡ false → cond b x z ≡ cond b y z
beyond true x y z e = absurd cc
beyond false x y z e = refl

-- where one's call is over, others stay
pub over_same : (s u : State) (t : ℕ) (a : CoreAnswer) (x : Over t a s u) → x.call.lock < length s.kinds → (k : ℕ)
    → k ≢ t → Same s u k
over_same s u t a x low k ne = subst (λ (v : State). Same s v k) (sym x.became) (record {
  place = ap (option_map (λ (c : Call). c.lock)) (set_elsewhere s.calls t k None ne);
  holds = λ m. at m (nat_lt m (length s.kinds)) refl;
})
  where
    at : (m : ℕ) (b : Bool) → nat_lt m (length s.kinds) ≡ b → hold_at (answered s t x.call) k m ≡ hold_at s k m
    at m true e = ap (λ o. cond (nat_lt m (length s.kinds)) (option_map_or (λ (h : Hold). h) o (Hold.Shares 0))
        (Hold.Shares 0))
        (get-set_other s.holds (t * length s.kinds + x.call.lock) (k * length s.kinds + m)
        (hold_after x.call.others x.call.core)
        (λ f. cells_apart (length s.kinds) k m t x.call.lock (ltb-true m (length s.kinds) e) low ne (sym f)))
    at m false e = beyond (nat_lt m (length s.kinds)) _ _ (Hold.Shares 0) e
