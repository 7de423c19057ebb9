-- Each step of a machine leads every call on.
use Rattle.std.proofs.Common.{◌≡◌, ◌⊎◌, inl, inr, ℕ, zero, suc, ◌+◌, ◌*◌, ◌<◌, ◌≤◌, nat_lt, ◌&&◌, Bool, true, false}
use Rattle.std.proofs.Common.{cond, List, length, Option, Some, None, get_or, slice_get, slice_set, refl, sym, ap, ◌∙◌}
use Rattle.std.proofs.Common.{subst, arith}
use Rattle.std.specs.Option.{option_map_or}
use Rattle.std.proofs.lemmas.Bool.{cases_eq, false≢true, lt-ltb, ltb-true}
use Rattle.std.proofs.lemmas.Option.{none-some, same_Some, slice_get-get_or, slice_get_within}
use Rattle.parking_lot_protocol.specs.declared.act.CoreAnswer.{CoreAnswer}
use Rattle.parking_lot_rules.proofs.Indexed.{get-set_same}
use Rattle.parking_lot_machine_calls.specs.Beginnings.{holds_beside}
use Rattle.parking_lot_machine_calls.specs.CallKinds.{IsOfKind}
use Rattle.parking_lot_machine_calls.specs.CallActs.{hold_after}
use Rattle.parking_lot_machine_calls.specs.CallViews.{hold_mode}
use Rattle.parking_lot_machine_calls.specs.Calls.{is_timed}
use Rattle.parking_lot_machine_calls.specs.Kinds.{Manner, kind_in, manner_of, recursive_in}
use Rattle.parking_lot_machine_calls.specs.LateCalls.{late_of, sleeps_in_time}
use Rattle.parking_lot_machine_calls.specs.Stances.{core_act}
use Rattle.parking_lot_machine_calls.specs.declared.calls.LockCall.{LockCall}
use Rattle.parking_lot_machine_calls.specs.declared.calls.LockKind.{LockKind}
use Rattle.parking_lot_machine_calls.specs.declared.open_call.Call.{Call}
use Rattle.parking_lot_machine_calls.specs.declared.seat.Core.{Core}
use Rattle.parking_lot_machine_calls.specs.declared.seat.Core.TheVariants as core
use Rattle.parking_lot_machine_calls.specs.declared.seat.Hold.{Hold}
use Rattle.parking_lot_machine.proofs.Viewing.{IsApart, apart_owner}
use Rattle.parking_lot_machine.specs.Machines.{IsBegun, IsExpired, IsStepped, may_begin, may_expire, may_expire_in}
use Rattle.parking_lot_machine.specs.RowActs.{answered}
use Rattle.parking_lot_machine.specs.RowFits.{FitsTogether, IsPrepared}
use Rattle.parking_lot_machine.specs.Rows.{State, call_at, hold_at}
use Rattle.parking_lot_machine.specs.CallLaws.AnswerLaws as laws
use Rattle.parking_lot_machine.specs.CallLaws.AnswerLaws.{CallsLead, IsAnswered, IsOpen}
use Rattle.parking_lot_machine.specs.CallLaws.Stages.{Leads, core_stage, quits, stage, stage_of}
use Rattle.parking_lot_machine.proofs.CallLawsFacts.Calls as calls
use Rattle.parking_lot_machine.proofs.CallLawsFacts.Calls.{answer_is, ended_goes, stepped_goes}
use Rattle.parking_lot_rules.proofs.Slots.{set_elsewhere, set_here, set_there, slot_low}
use Rattle.parking_lot_machine.proofs.CallLawsFacts.Ending.{core_done}
use Rattle.parking_lot_machine.proofs.CallLawsFacts.Heard.{Hears, begins_there, heard_leads, late_quits}

-- A STEP

leads_on : (recursive then : Bool) (c d : Call) → d.others ≡ c.others → IsPrepared recursive c.others c.core
    → IsPrepared then d.others d.core → (d.core ≡ c.core) ⊎ Hears c.core d.core → Leads c.others (stage c) (stage d)
leads_on recursive then c d same ready after (inl e) =
    inl (ap (λ n. core_stage n d.core) same ∙ ap (core_stage c.others) e)
leads_on recursive then c d same ready after (inr heard) =
    subst (λ n. Leads c.others (stage c) (core_stage n d.core)) (sym same)
    (heard_leads recursive then c.others c.core d.core ready (subst (λ n. IsPrepared then n d.core) same after)
    heard)

module _ (s u : State) (fits : FitsTogether s) (then : FitsTogether u) (k : ℕ) where
  onward : (o : Option Call) → call_at s k ≡ o → calls.Onward o (call_at u k) → laws.Onward o (call_at u k)
  onward None was go = go
  onward (Some c) was go = record {
    to = stage go.call;
    kept = record {
      call = go.call;
      here = go.here;
      there = go.lock;
      beside = go.others;
      deadline = ap is_timed go.asked;
      stands = refl;
    };
    asked = go.asked;
    leads = leads_on (recursive_in s.kinds c.lock) (recursive_in u.kinds go.call.lock) c go.call go.others
        (fits.rules.prepared k c was) (then.rules.prepared k go.call go.here) go.heard;
  }

steps : (s u : State) (t : ℕ) (fair : Bool) → FitsTogether s → IsStepped t fair None s u → (k : ℕ)
    → laws.Onward (call_at s k) (call_at u k)
steps s u t fair fits x k = onward s u fits x.lawful.1.fits k (call_at s k) refl (stepped_goes s u t fair fits x k)

-- AN ANSWER

rows_apart : (locks t threads : ℕ) → t < threads → t * locks + locks ≤ threads * locks
rows_apart locks t zero b = absurd (omega (arith, b))
rows_apart locks t (suc n) b = elim (cases_eq t n) [
  | inl e ↦ subst (λ (k : ℕ). k * locks + locks ≤ suc n * locks) (sym e) (omega arith)
  | inr ne ↦ omega (arith, rows_apart locks t n (omega (arith, b, ne)))
]

-- a call's lock is one of the machine
lock_there : (kinds : List LockKind) (lock : ℕ) (m : Manner) → manner_of (slice_get kinds lock) ≡ Some m
    → lock < length kinds
lock_there kinds lock m e = at (slice_get kinds lock) refl e
  where
    at : (o : Option LockKind) → slice_get kinds lock ≡ o → manner_of o ≡ Some m → lock < length kinds
    at None is e = absurd (none-some m e)
    at (Some k) is e = slice_get_within kinds lock k is

within : (kinds : List LockKind) (lock : ℕ) (k : Core) → IsOfKind (slice_get kinds lock) k → lock < length kinds
within kinds lock (core.Mutex c) e = lock_there kinds lock _ e
within kinds lock (core.Rw c) e = lock_there kinds lock _ e
within kinds lock (core.Late p) e = lock_there kinds lock _ e
within kinds lock (core.LateRw p) e = lock_there kinds lock _ e
within kinds lock (core.Upgrade c) e = lock_there kinds lock _ e

answered_hold : (s : State) (t : ℕ) (c : Call) → FitsTogether s → call_at s t ≡ Some c
    → hold_at (answered s t c) t c.lock ≡ hold_after c.others c.core
answered_hold s t c fits here =
    ap (λ b. cond b (option_map_or (λ x. x) (slice_get (slice_set s.holds cell now) cell) (Hold.Shares 0))
    (Hold.Shares 0)) (lt-ltb c.lock (length s.kinds) low)
    ∙ ap (λ o. option_map_or (λ x. x) o (Hold.Shares 0))
    (get-set_same s.holds cell (get_or s.holds cell (Hold.Shares 0)) now
    (slice_get-get_or s.holds cell (Hold.Shares 0) cell_low))
  where
    now : Hold
    now = hold_after c.others c.core

    cell : ℕ
    cell = t * length s.kinds + c.lock

    low : c.lock < length s.kinds
    low = within s.kinds c.lock c.core (fits.rules.kinds t c here)

    cell_low : t * length s.kinds + c.lock < length s.holds
    cell_low = omega (
      arith,
      rows_apart (length s.kinds) t (length s.calls) (slot_low s.calls t c here),
      low,
      fits.rules.size_holds,
    )

module _ (s u : State) (t : ℕ) (fair : Bool) (answer : CoreAnswer) (fits : FitsTogether s)
    (x : IsStepped t fair (Some answer) s u) where
  became : u ≡ answered s t x.call
  became = answer_is s u t fair x.call answer (core_act x.call.core) x.answers x.became

  gone : call_at u t ≡ None
  gone = ap (λ (w : State). call_at w t) became ∙ set_here s.calls t x.call None x.here

  holds : hold_at u t x.call.lock ≡ hold_after x.call.others x.call.core
  holds = ap (λ (w : State). hold_at w t x.call.lock) became ∙ answered_hold s t x.call fits x.here

  is_answered : IsAnswered t x.call answer s u
  is_answered = record {
    hold = hold_after x.call.others x.call.core;
    over = core_done (recursive_in s.kinds x.call.lock) x.call.others x.call.core answer
        (fits.rules.prepared t x.call x.here) (fits.rules.begun t x.call x.here).begun x.answers;
    gone = gone;
    holds = holds;
    owns = apart_owner u t x.lawful.fits x.call.lock (subst (λ (o : Option Call). IsApart x.call.lock o) (sym gone) tt)
        ∙ ap (hold_mode (slice_get u.kinds x.call.lock)) holds
        ∙ ap (λ (ks : List LockKind). hold_mode (slice_get ks x.call.lock) (hold_after x.call.others x.call.core))
        (ap (λ (w : State). w.kinds) became);
  }

-- A BEGINNING, AND A DEADLINE

begins : (s u : State) (t lock : ℕ) (call : LockCall) → may_begin s t lock call ≡ true → IsBegun t lock call s u
    → IsOpen (call_at u t) lock (holds_beside call (hold_at s t lock)) (is_timed call) (stage_of call)
begins s u t lock call may x = record {
  call = _;
  here = ap (λ (w : State). call_at w t) x.became
      ∙ set_there s.calls t _ (ltb-true t (length s.calls) (first (nat_lt t (length s.calls)) _ may));
  there = refl;
  beside = refl;
  deadline = refl;
  stands = begins_there (holds_beside call (hold_at s t lock)) (kind_in s.kinds lock) call;
}
  where
    first : (a b : Bool) → a && b ≡ true → a ≡ true
    first true b e = refl
    first false b e = e

-- Its moment passes.
sleeping : (o : Option Call) (c : Call) → o ≡ Some c → may_expire_in o ≡ true → sleeps_in_time c.core ≡ true
sleeping None c e may = absurd (none-some c e)
sleeping (Some d) c e may = subst (λ (x : Call). sleeps_in_time x.core ≡ true) (same_Some d c e)
    (second (is_timed d.asked) (sleeps_in_time d.core) may)
  where
    second : (a b : Bool) → a && b ≡ true → b ≡ true
    second true b e = e
    second false b e = absurd (false≢true e)

deadlines : (s u : State) (t : ℕ) → may_expire s t ≡ true → (x : IsExpired t s u)
    → IsOpen (call_at u t) x.call.lock x.call.others (is_timed x.call.asked) (quits (stage x.call))
deadlines s u t may x = record {
  call = record x.call { core = late_of x.call.core };
  here = ap (λ (w : State). call_at w t) x.became ∙ set_here s.calls t x.call _ x.here;
  there = refl;
  beside = refl;
  deadline = refl;
  stands = late_quits x.call.others x.call.core (sleeping (call_at s t) x.call x.here may);
}

pub calls_lead : CallsLead
calls_lead = record {
  begins = begins;
  begins_alone = λ s u t lock call x k ne. ap (λ (w : State). call_at w k) x.became ∙ set_elsewhere s.calls t k _ ne;
  steps = steps;
  answers = is_answered;
  answers_alone = λ s u t fair answer x k ne. ended_goes s u t fair answer x k ne;
  deadlines = deadlines;
  deadlines_alone = λ s u t x k ne. ap (λ (w : State). call_at w k) x.became ∙ set_elsewhere s.calls t k _ ne;
}
