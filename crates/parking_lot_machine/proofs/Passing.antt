-- Whom the section that is open has passed, its thread passes at its sum so far: acts keep that.
use Rattle.std.proofs.Common.{◌≡◌, ◌≢◌, ℕ, ◌+◌, ◌*◌, ◌%◌, ◌==◌, ◌&&◌, ◌||◌, inl, inr, cond, Bool, true, false, List}
use Rattle.std.proofs.Common.{Option, Some, refl, sym, ap, ◌∙◌, subst, arith}
use Rattle.std.specs.Option.{option_and_then}
use Rattle.std.proofs.lemmas.Bool.{both_ways, cases_eq}
use Rattle.parking_lot_core_model.specs.Places.{passed_of}
use Rattle.parking_lot_core_model.specs.declared.parking.FilterOp.{FilterOp}
use Rattle.parking_lot_core_model.specs.declared.parking.FilterOp.TheVariants.{Unpark, Skip, Stop}
use Rattle.parking_lot_core_model.specs.declared.place.Section.{Section}
use Rattle.parking_lot_core_model.specs.declared.place.Waiter.{Waiter}
use Rattle.parking_lot_protocol.specs.declared.act.ActResult.{ActResult}
use Rattle.parking_lot_machine.specs.Passes.{ArePassed, asks, look_by}
use Rattle.parking_lot_machine.specs.RowFits.{LotFits, PassesFit}
use Rattle.parking_lot_core_model.specs.Lists.{updated}
use Rattle.parking_lot_core_model.proofs.Kept.{by_eqb, updated_at, updated_other}
use Rattle.parking_lot_machine.specs.Rows.{State, bucket, call_at, entered_in, open_at}
use Rattle.parking_lot_machine_calls.specs.Stances.{Doing, Takes, In, stance, core_act}
use Rattle.parking_lot_machine_calls.specs.declared.open_call.Call.{Call}
use Rattle.parking_lot_machine_calls.specs.declared.seat.Core.{Core}
use Rattle.parking_lot_machine_calls.specs.declared.seat.QueuePosition.{QueuePosition}
use Rattle.parking_lot_machine.proofs.Carrying.{same_call}
use Rattle.parking_lot_machine.proofs.LotActs.{seat_of}
use Rattle.parking_lot_machine.proofs.Owning.{OwnAct, own-here, own-others}

-- A SCAN THAT GOES ON

pub no_stop : (u w : Bool) (token : ℕ) → w ≡ false → look_by u w token ≢ Stop
no_stop u true token w is = both_ways true w refl
no_stop u false token w is = go ((token == 8 || token == 20) && u) is
  where
    go : (b : Bool) → cond b Skip Unpark ≡ Stop → ⊥
    go true e = cc
    go false e = cc

-- one that takes nobody away goes on past those that it has passed
pub skip_on : (u w u' w' : Bool) (token : ℕ) → (u ≡ true → u' ≡ true) → w' ≡ false → look_by u w token ≡ Skip
    → look_by u' w' token ≡ Skip
skip_on u true u' w' token more none is = absurd (stop≢skip is)
  where
    stop≢skip : Stop ≡ Skip → ⊥
    stop≢skip e = cc
skip_on u false u' w' token more none is = ap (λ b. look_by u' b token) none ∙ go (token == 8 || token == 20) u u' more
    is
  where
    unpark≢skip : Unpark ≡ Skip → ⊥
    unpark≢skip e = cc

    go : (b u u' : Bool) → (u ≡ true → u' ≡ true) → cond (b && u) Skip Unpark ≡ Skip → cond (b && u') Skip Unpark ≡ Skip
    go true true u' more e = ap (λ x. cond (true && x) Skip Unpark) (more refl)
    go true false u' more e = absurd (unpark≢skip e)
    go false u u' more e = absurd (unpark≢skip e)

-- EACH ACT

-- each section of another thread stays as it is, and so does its list
abbrev pub IsAround : State → State → ℕ → Type 0
IsAround s u t = (v k : ℕ) (o : Section) → v ≢ t → open_at u k ≡ Some o → o.thread ≡ Some v
    → (open_at s k ≡ Some o) × (u.lot.queues k ≡ s.lot.queues k)

same_number : {a b : ℕ} → Some a ≡ Some b → a ≡ b
same_number e = cc

same_section : {a b : Section} → Some a ≡ Some b → a ≡ b
same_section e = cc

-- so it is where only one bucket changes, and is t's
pub around_at : (s u : State) (t key : ℕ) (after : Option Section)
    → ((b : ℕ) → u.lot.sections b ≡ updated s.lot.sections (bucket s key) after b) → u.lot.buckets ≡ s.lot.buckets
    → ((x : Section) → after ≡ Some x → x.thread ≡ Some t)
    → ((k : ℕ) → (bucket s k == bucket s key) ≡ false → u.lot.queues k ≡ s.lot.queues k) → IsAround s u t
around_at s u t key after secs same its queues v k o ne at whose =
    let now : updated s.lot.sections (bucket s key) after (bucket s k) ≡ Some o = sym (secs (bucket s k))
    ∙ (ap (λ (n : ℕ). u.lot.sections (k % n)) (sym same) ∙ at) in
    by_eqb (bucket s k) (bucket s key) ((open_at s k ≡ Some o) × (u.lot.queues k ≡ s.lot.queues k))
    (λ e. absurd (ne (same_number (sym whose ∙ its o (sym (updated_at s.lot.sections (bucket s key) after)
    ∙ (ap (updated s.lot.sections (bucket s key) after) (sym e) ∙ now))))))
    (λ e. (sym (updated_other s.lot.sections (bucket s key) after (bucket s k) e) ∙ now, queues k e))

-- where a call has come to a taking, it was there before
abbrev pub WasCalled : State → State → ℕ → Type 0
WasCalled s u t = (v : ℕ) (d : Call) (k : ℕ) → v ≢ t → call_at u v ≡ Some d → stance d.core ≡ In k Takes → (e : Call)
    × (call_at s v ≡ Some e) × (e.core ≡ d.core) × (e.lock ≡ d.lock)

abbrev pub HasPassed : State → ℕ → Type 0
HasPassed u t = (d : Call) (k : ℕ) (o : Section) → call_at u t ≡ Some d → stance d.core ≡ In k Takes
    → open_at u (2 * d.lock + k) ≡ Some o → ArePassed (asks (core_act d.core)) (u.lot.queues (2 * d.lock + k))
    (passed_of o.phase)

pub passes_after : (s u : State) (t : ℕ) → LotFits u → PassesFit s → IsAround s u t → WasCalled s u t → HasPassed u t
    → PassesFit u
passes_after s u t lots h around was own v d k o at is there = elim (cases_eq v t) [
  | inl e ↦ own d k o (ap (call_at u) (sym e) ∙ at) is there
  | inr ne ↦
      let seat = seat_of u lots v d (In k Takes) at is in
      let whose : o.thread ≡ Some v = ap (λ (z : Section). z.thread) (same_section (sym there ∙ seat.1)) ∙ seat.2 in
      let same = around v (2 * d.lock + k) o ne there whose in
      let x = was v d k ne at is in
      subst (λ q. ArePassed (asks (core_act d.core)) q (passed_of o.phase)) (sym same.1)
      (subst (λ (y : Core). ArePassed (asks (core_act y)) (s.lot.queues (2 * d.lock + k)) (passed_of o.phase)) x.2
      (subst (λ j. ArePassed (asks (core_act (x.0).core)) (s.lot.queues (2 * j + k)) (passed_of o.phase)) x.3
      (h v x.0 k o x.1 (ap stance x.2 ∙ is) (ap (λ (j : ℕ). open_at s (2 * j + k)) x.3 ∙ same.0))))
]

-- a section that was just opened has passed nobody
pub none_passed : (ask : ℕ → FilterOp) (q : List Waiter) (n : ℕ) → n ≡ 0 → ArePassed ask q n
none_passed ask q n e i w low at = absurd (omega (arith, low, e))

-- one that is in a section has entered its bucket
pub inside_mine : (s : State) → LotFits s → (t : ℕ) (c : Call) → call_at s t ≡ Some c → (k : ℕ) (how : Doing)
    → stance c.core ≡ In k how → entered_in s (bucket s (2 * c.lock + k)) ≡ Some t
inside_mine s h t c here k how from = let seat = seat_of s h t c (In k how) here from in
    ap (option_and_then (λ (x : Section). x.thread)) seat.1 ∙ seat.2

-- a thread's own act, after which it has passed nobody, or doesn't take
pub own_passes : (s u : State) (t : ℕ) (c : Call) (told : ActResult) (next : Core) (at : QueuePosition)
    → OwnAct s u t c told next at → LotFits u → PassesFit s → IsAround s u t
    → ((k : ℕ) (o : Section) → stance next ≡ In k Takes → open_at u (2 * c.lock + k) ≡ Some o → passed_of o.phase ≡ 0)
    → PassesFit u
own_passes s u t c told next at a lots h around none =
    passes_after s u t lots h around
    (λ v d k ne there is. (d, sym (own-others s u t c told next at a v ne) ∙ there, refl, refl))
    (λ d k o there is now. none_passed (asks (core_act d.core)) (u.lot.queues (2 * d.lock + k)) (passed_of o.phase)
    (none k o (ap (λ (x : Call). stance x.core) (same_call (sym (own-here s u t c told next at a) ∙ there)) ∙ is)
    (ap (λ (x : Call). open_at u (2 * x.lock + k)) (same_call (sym (own-here s u t c told next at a) ∙ there)) ∙ now)))
