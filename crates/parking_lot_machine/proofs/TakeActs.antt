-- A thread that takes one of a list: the machine stays fit, and it is a step of the rules.
use Rattle.parking_lot_core_model.proofs.Kept.{updated_other}
use Rattle.std.proofs.Common.{◌≡◌, ◌≢◌, ℕ, ◌+◌, ◌*◌, Bool, false, inl, inr, remove, Some, refl, sym, ap, ◌∙◌, subst}
use Rattle.std.proofs.lemmas.Bool.{cases_eq}
use Rattle.parking_lot_core_model.specs.declared.parking.ParkToken.{ParkToken}
use Rattle.parking_lot_core_model.specs.declared.place.Waiter.{Waiter}
use Rattle.parking_lot_core_model.specs.Results.{is_left}
use Rattle.parking_lot_core_model.specs.Sound as lot
use Rattle.parking_lot_core_model.specs.declared.parking.FilterOp.TheVariants.{Unpark, Stop}
use Rattle.parking_lot_protocol.specs.declared.act.ActResult.{ActResult}
use Rattle.parking_lot_machine.proofs.KindTable.{RwCall, Simple, Upgradable, rw_call}
use Rattle.parking_lot_machine.proofs.RwScans.{scanner, takes_where}
use Rattle.parking_lot_machine_calls.specs.declared.seat.Core.{Core}
use Rattle.parking_lot_machine_calls.specs.declared.open_call.Call.{Call}
use Rattle.parking_lot_machine.specs.Rows.{State, word_at, call_at, taken_by}
use Rattle.parking_lot_machine_calls.specs.Stances.{Takes, Stores, Stance, In, Asleep, stance, core_act, core_next}
use Rattle.parking_lot_machine.specs.RowActs.{took}
use Rattle.parking_lot_machine_calls.specs.CallActs.{hears, key_of, off_list}
use Rattle.parking_lot_machine.specs.RowFits.{FitsTogether, IsPrepared, LotFits, PassesFit, RulesFit}
use Rattle.parking_lot_machine.specs.ActLaws.{Acts}
use Rattle.parking_lot_machine_calls.proofs.Stancing.{small_key, takings_count}
use Rattle.parking_lot_machine_calls.specs.declared.seat.QueuePosition.TheVariants as spot
use Rattle.parking_lot_machine_calls.specs.declared.seat.WakeResult.TheVariants as said
use Rattle.parking_lot_machine.proofs.Making.{move_sound}
use Rattle.parking_lot_machine.proofs.Carrying.{same_call}
use Rattle.parking_lot_machine.proofs.LotTakes.{took_fits}
use Rattle.parking_lot_machine.proofs.Ruling.{CallFits, fits_at, fits_next, rules_after}
use Rattle.parking_lot_machine.proofs.TakeParts.{IsOut, beside, list_known, out_knows, took_told, TakesSo, the_sleeper}
use Rattle.parking_lot_machine.proofs.TakeParts.{taker_after, sleeper_after, others_after, same_threads, wakes_after}
use Rattle.parking_lot_machine.proofs.TakeNext.{mutex_asks, takes_so}
use Rattle.parking_lot_machine.proofs.TakeJoins.{late_takes}
use Rattle.parking_lot_machine.proofs.Passing.{no_stop}
use Rattle.parking_lot_machine.proofs.PassingOn.{going_of, passes_taken}
use Rattle.parking_lot_machine_calls.specs.Kinds.{recursive_in}
use Rattle.parking_lot_machine.specs.Passes.{IsNext, asks}
use Rattle.parking_lot_machine_calls.proofs.Lying.{tardy_takes}

-- a sleeper is in no section
asleep_out : (a : Stance) (k : ℕ) (token : ParkToken) → a ≡ Asleep k token → IsOut a
asleep_out a k token e l how f = go (sym e ∙ f)
  where
    go : Asleep k token ≡ In l how → ⊥
    go g = cc

module _ (s : State) (t : ℕ) (c : Call) (k nth : ℕ) (w : Waiter) (from : stance c.core ≡ In k Takes)
    (next : IsNext (asks (core_act c.core)) (s.lot.queues (key_of c k)) nth w) (h : FitsTogether s)
    (here : call_at s t ≡ Some c) where
  abbrev u : State
  u = took s t c (key_of c k) nth w

  abbrev told : ActResult
  told = took_told s c k nth w

  so : TakesSo s t c k nth w c.core
  so = takes_so s t c k nth w from next h here c.core refl

  -- the calls fit
  calls_fit : (x : ℕ) (d : Call) → call_at u x ≡ Some d → CallFits s.kinds u.lot.queues d
  calls_fit x d is = elim (cases_eq x t) [
    | inl e ↦ subst (CallFits s.kinds u.lot.queues)
        (same_call (sym (taker_after s t c k nth w from next.there h here) ∙ (ap (call_at u) (sym e) ∙ is))) mine
    | inr nt ↦ elim (cases_eq x w.thread) [
      | inl e ↦ subst (CallFits s.kinds u.lot.queues)
          (same_call (sym (sleeper_after s t c k nth w from next.there h here) ∙ (ap (call_at u) (sym e) ∙ is))) its
      | inr nv ↦ let old : call_at s x ≡ Some d = sym (others_after s t c k nth w from next.there h here x nt nv)
          ∙ is in fits_at s h x d old u.lot.queues d.spot
          (list_known d.core s.lot.queues u.lot.queues d.lock
          (λ l what is'. updated_other s.lot.queues (key_of c k) (remove (s.lot.queues (key_of c k)) nth)
          (2 * d.lock + l) (beside s h.lots t c here k Takes from x d nt old l what is'))
          (h.rules.knows x d old))
    ]
  ]
    where
      mine : CallFits s.kinds u.lot.queues (hears c told)
      mine = fits_next s h t c here told u.lot.queues c.spot so.0.1 so.0.2

      its : CallFits s.kinds u.lot.queues (off_list t (the_sleeper s t c k nth w from next.there h here).call)
      its =
          let x = the_sleeper s t c k nth w from next.there h here in
          fits_at s h w.thread x.call x.there u.lot.queues (spot.Off t said.Nothing)
          (out_knows x.call.core u.lot.queues x.call.lock (asleep_out (stance x.call.core) k w.token x.asleep))

  rules : RulesFit u
  rules = rules_after s u c.lock h.rules (record {
    kinds = refl;
    threads = same_threads s t c k nth w from next.there h here;
    holds = refl;
    words = refl;
    calls = calls_fit;
    few = h.rules.few;
    elsewhere = λ i ne. refl;
    bits = so.0.3;
    sound = move_sound s u c.core c.others (taken_by s.wakes t) told c.lock t refl so.0.0 h.rules.sound;
  })

  lots : lot.Sound u.lot → LotFits u
  lots sound =
      let counts = takings_count c.core (word_at s c.lock) w.token (is_left (remove (s.lot.queues (key_of c k)) nth))
      so.2 so.1 in
      let e : In counts.0 Takes ≡ In k Takes = sym counts.2 ∙ from in
      let same : counts.0 ≡ k = cc in
      took_fits s t c h.lots here k nth w (small_key c.core k Takes from) from next.there
      (elim counts.3 [ inl f ↦ inl (f ∙ ap (λ n. In n Takes) same) | inr f ↦ inr (f ∙ ap (λ n. In n Stores) same) ])
      counts.4 sound

  passes : lot.Sound u.lot → PassesFit u
  passes sound = passes_taken s t c k nth w from next h here (lots sound)
      (going_of (recursive_in s.kinds c.lock) c.others (core_next c.core told) so.0.1) so.1 so.2

  pub takes : lot.Sound u.lot → (what : ActResult) × Acts t c what s u
  takes sound = (
    told,
    record {
      fits = record {
        lots = lots sound;
        passes = passes sound;
        wakes = wakes_after s t c k nth w from next.there h here;
        rules = rules;
      };
      goes = so.0.0;
    },
  )

-- WHO IS SHOWN

unpark≢stop : Unpark ≡ Stop → ⊥
unpark≢stop e = cc

rw_stops : (recursive : Bool) (n : ℕ) (y : RwCall) (k token : ℕ) → IsPrepared recursive n (rw_call y)
    → stance (rw_call y) ≡ In k Takes → asks (core_act (rw_call y)) token ≢ Stop
rw_stops recursive n y k token ready e is = elim (takes_where recursive n y k ready e) [
  | inl x ↦ let sc = scanner recursive n y x.0 ready in no_stop sc.sees false token refl (sym (sc.asks_so token) ∙ is)
  | inr x ↦ unpark≢stop (sym (ap (λ (q : RwCall). asks (core_act (rw_call q)) token) x.1) ∙ is)
]

pub goes_on : (s : State) (t : ℕ) (c : Call) (k : ℕ) → FitsTogether s → call_at s t ≡ Some c
    → stance c.core ≡ In k Takes → (token : ℕ) → asks (core_act c.core) token ≢ Stop
goes_on s t c k h here from token = go c.core refl
  where
    go : (x : Core) → c.core ≡ x → asks (core_act c.core) token ≢ Stop
    go (Core.Rw y) e is = rw_stops (recursive_in s.kinds c.lock) c.others (Simple y) k token
        (subst (IsPrepared (recursive_in s.kinds c.lock) c.others) e (h.rules.prepared t c here))
        (ap stance (sym e) ∙ from) (ap (λ (x : Core). asks (core_act x) token) (sym e) ∙ is)
    go (Core.Upgrade y) e is = rw_stops (recursive_in s.kinds c.lock) c.others (Upgradable y) k token
        (subst (IsPrepared (recursive_in s.kinds c.lock) c.others) e (h.rules.prepared t c here))
        (ap stance (sym e) ∙ from) (ap (λ (x : Core). asks (core_act x) token) (sym e) ∙ is)
    go (Core.Mutex y) e is =
        unpark≢stop (sym (mutex_asks y.phase k token (ap stance (sym e) ∙ from))
        ∙ ap (λ (x : Core). asks (core_act x) token) (sym e) ∙ is)
    go (Core.Late p) e is = late_takes p k (ap stance (sym e) ∙ from)
    go (Core.LateRw p) e is = tardy_takes p k (ap stance (sym e) ∙ from)
